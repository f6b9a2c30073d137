use Rattle.std.proofs.Common.{◌≤◌, ◌-◌, ◌*◌, ℕ, [], List, map, length, sym, subst}
use Rattle.file_base.specs.declared.head.Organization.{Organization}
use Rattle.bucket_page.specs.declared.kind.PageKind.TheVariants.{Seq}
use Rattle.load_pages.specs.load_laws.Chains.{packed, chain_pages}
use Rattle.load_pages.specs.load_laws.Pages.{StandTold}
use Rattle.load_pages.specs.load_laws.Loads.{AllSuitBy, pages_by}
use Rattle.load_pages.specs.Given.{keyed}
use Rattle.file_loads.proofs.GivenLemmas.{raws_same, seq_raws, climbs_all, cells_short}
use Rattle.file_loads.proofs.TreeWrites.{seq_fits}
use Rattle.file_loads.proofs.loads.write_pages.Goals as goal

pub write_chain-requires-clause-fit : goal.write_chain-requires-clause-fit
write_chain-requires-clause-fit g c =
    let h = c.args.head.now in
    seq_raws h c.args.records.now c.requires.placed.greatest c.requires.placed.records (subst (λ (o : Organization). AllSuitBy o h (map keyed c.args.records.now)) c.in-Sequential.is c.requires.loadable.suit)

pub write_chain-requires-clause-few : goal.write_chain-requires-clause-few
write_chain-requires-clause-few g c =
    let h = c.args.head.now in
    subst (λ (raws : List (List ℕ)). length (packed (512 * h.bucket - 16) [] raws) ≤ h.alloc) (sym (raws_same Seq c.args.records.now))
    (seq_fits h c.args.store.now.disk (map keyed c.args.records.now) c.in-Sequential.is c.requires.placed c.requires.loadable)

pub write_all_cells-requires-clause-short : goal.write_all_cells-requires-clause-short
write_all_cells-requires-clause-short g c =
    let h = c.args.head.now in cells_short h (map keyed c.args.records.now) (subst (λ (o : Organization). AllSuitBy o h (map keyed c.args.records.now)) c.in-Relative.is c.requires.loadable.suit)

pub write_all_cells-requires-clause-climbs : goal.write_all_cells-requires-clause-climbs
write_all_cells-requires-clause-climbs g c =
    let h = c.args.head.now in climbs_all h (map keyed c.args.records.now) (subst (λ (o : Organization). AllSuitBy o h (map keyed c.args.records.now)) c.in-Relative.is c.requires.loadable.suit) c.requires.loadable.ordered

pub returns-in_ok-write_chain-in-Sequential-clause-stand : goal.returns-in_ok-write_chain-in-Sequential-clause-stand
returns-in_ok-write_chain-in-Sequential-clause-stand g c =
    let h = c.args.head.now in
    let s = c.write_chain.new.store.current in
    subst (λ (o : Organization). StandTold h s (pages_by o h (map keyed c.args.records.now))) (sym c.in-Sequential.is)
    (subst (λ (raws : List (List ℕ)). StandTold h s (chain_pages Seq 0 (packed (512 * h.bucket - 16) [] raws))) (raws_same Seq c.args.records.now) (c.in_ok-write_chain-in-Sequential).ensures.stand)
