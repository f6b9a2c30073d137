use Rattle.std.proofs.Common.{◌≤◌, ◌+◌, ◌-◌, ◌*◌, ℕ, [], List, map, length, sym, subst, arith}
use Rattle.load_pages.specs.indexed_file.Chain.{kind_of}
use Rattle.load_pages.specs.load_laws.Chains.{packed}
use Rattle.load_pages.specs.load_laws.Keys.{index_pages, AllKeys}
use Rattle.load_pages.specs.Given.{keyed}
use Rattle.file_loads.proofs.GivenLemmas.{raws_same, text_raws}
use Rattle.file_loads.proofs.TreeWrites.{tree_fits, tree_stands}
use Rattle.file_loads.proofs.WriteLemmas.{leaves_later, on_ok_then, on_err_then}
use Rattle.file_loads.proofs.loads.write_tree.Goals as goal

pub write_chain-requires-clause-fit : goal.write_chain-requires-clause-fit
write_chain-requires-clause-fit g c =
    let h = c.args.head.now in
    let fits = tree_fits h c.args.store.now.disk (map keyed c.args.records.now) c.requires.organization c.requires.placed c.requires.loadable in
    text_raws h c.args.records.now fits.keys.key c.requires.placed.greatest c.requires.placed.records fits.suit

pub write_chain-requires-clause-few : goal.write_chain-requires-clause-few
write_chain-requires-clause-few g c =
    let h = c.args.head.now in
    let fits = tree_fits h c.args.store.now.disk (map keyed c.args.records.now) c.requires.organization c.requires.placed c.requires.loadable in
    subst (λ (raws : List (List ℕ)). length (packed (512 * h.bucket - 16) [] raws) ≤ h.alloc) (sym (raws_same (kind_of h) c.args.records.now)) fits.leaves

pub write_index-requires-clause-sized : goal.write_index-requires-clause-sized
write_index-requires-clause-sized g c =
    let h = c.args.head.now in
    let fits = tree_fits h c.args.store.now.disk (map keyed c.args.records.now) c.requires.organization c.requires.placed c.requires.loadable in
    subst (AllKeys h.key_size) (sym c.requires.lowest) fits.sized

pub write_index-requires-clause-there : goal.write_index-requires-clause-there
write_index-requires-clause-there g c =
    let h = c.args.head.now in
    let fits = tree_fits h c.args.store.now.disk (map keyed c.args.records.now) c.requires.organization c.requires.placed c.requires.loadable in
    let lowest = fits.lowest in
    let all = fits.all in
    subst (λ (ks : List (List ℕ)). 0 + length ks + length (index_pages h 0 ks) ≤ h.alloc) (sym c.requires.lowest) (omega (arith, lowest, all))

pub returns-clause-stand : goal.returns-clause-stand
returns-clause-stand g c =
    let h = c.args.head.now in
    let fits = tree_fits h c.args.store.now.disk (map keyed c.args.records.now) c.requires.organization c.requires.placed c.requires.loadable in
    on_ok_then c.write_index.result
    (λ adds. tree_stands h c.args.records.now c.args.keys.now.items c.write_chain.new.store.current c.write_index.new.store.current fits c.requires.lowest c.in_ok-write_chain.ensures.stand adds) c.write_index.ensures.adds

pub returns-clause-down : goal.returns-clause-down
returns-clause-down g c =
    on_err_then c.write_index.result
    (λ leaves. leaves_later c.args.head.now c.write_chain.new.staged c.args.store.now c.write_chain.new.store c.write_index.new.store c.in_ok-write_chain.ensures.ok leaves) c.write_index.ensures.down
