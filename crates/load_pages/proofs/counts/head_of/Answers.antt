use Rattle.std.proofs.Common.{◌≤◌, ◌-◌, ◌*◌, ℕ, map, sym, ap, subst, ◌∙◌, List, arith}
use Rattle.std.proofs.lemmas.List.{length-map}
use Rattle.file_base.specs.declared.head.Organization.{Organization}
use Rattle.file_base.specs.declared.head.Organization.TheVariants.{Sequential, Indexed}
use Rattle.load_laws.specs.seq_file.Placing.{buckets_for}
use Rattle.load_laws.specs.Loads.{buckets_by, head_by}
use Rattle.load_pages.specs.Given.{keyed}
use Rattle.load_pages.proofs.TreeCounts.{seq_sizes, tree_counted, tree_told, tells_by, few_records}
use Rattle.load_pages.proofs.counts.head_of.Goals as goal

pub chain_length-requires-clause-short : goal.chain_length-requires-clause-short
chain_length-requires-clause-short c = tells_by c.args.head.now.organization c.args.head.now c.args.records.now c.requires.most c.requires.loadable.suit

pub chain_length-requires-in-Indexed-clause-short : goal.chain_length-requires-in-Indexed-clause-short
chain_length-requires-in-Indexed-clause-short c = tells_by c.args.head.now.organization c.args.head.now c.args.records.now c.requires.most c.requires.loadable.suit

pub overflow_cast-chain_length : goal.overflow_cast-chain_length
overflow_cast-chain_length c =
    let h = c.args.head.now in
    let fits : buckets_by Sequential h (map keyed c.args.records.now) ≤ h.alloc = subst (λ (o : Organization). buckets_by o h (map keyed c.args.records.now) ≤ h.alloc) c.in-Sequential.is c.requires.loadable.fits in
    let same = ap (λ (ns : List ℕ). buckets_for (512 * h.bucket - 16) ns) (seq_sizes c.args.records.now) in
    omega (arith, fits, same, c.chain_length.ensures.is, c.requires.few)

pub overflow_cast-records : goal.overflow_cast-records
overflow_cast-records c =
    let h = c.args.head.now in
    let fits : buckets_by Sequential h (map keyed c.args.records.now) ≤ h.alloc = subst (λ (o : Organization). buckets_by o h (map keyed c.args.records.now) ≤ h.alloc) c.in-Sequential.is c.requires.loadable.fits in
    let same = ap (λ (ns : List ℕ). buckets_for (512 * h.bucket - 16) ns) (seq_sizes c.args.records.now) in
    let few = few_records h.organization h c.args.records.now (512 * h.bucket - 16) (omega (arith, c.requires.blocks)) (omega (arith, c.requires.records)) c.requires.loadable.suit (omega (arith, fits, same, c.requires.few)) in
    omega (arith, few)

pub indexed_head-requires-clause-few : goal.indexed_head-requires-clause-few
indexed_head-requires-clause-few c =
    let h = c.args.head.now in
    let fits : buckets_by Indexed h (map keyed c.args.records.now) ≤ h.alloc = subst (λ (o : Organization). buckets_by o h (map keyed c.args.records.now) ≤ h.alloc) c.in-Indexed.is c.requires.loadable.fits in
    let count = tree_counted h c.args.records.now c.chain_length-in-Indexed.result c.chain_length-in-Indexed.ensures.is in
    omega (arith, fits, count, c.requires.few)

pub returns-in-Sequential : goal.returns-in-Sequential
returns-in-Sequential c =
    let h = c.args.head.now in
    let used = c.chain_length.ensures.is ∙ ap (λ (ns : List ℕ). buckets_for (512 * h.bucket - 16) ns) (seq_sizes c.args.records.now) in
    let count = sym (length-map c.args.records.now keyed) in
    c.plain_head.ensures ∙ (λ i. record h { used = used i; root = 0; levels = 0; count = count i })
    ∙ sym (ap (λ (o : Organization). head_by o h (map keyed c.args.records.now)) c.in-Sequential.is)

pub returns-in-Indexed : goal.returns-in-Indexed
returns-in-Indexed c =
    let h = c.args.head.now in
    c.indexed_head.ensures ∙ tree_told h c.args.records.now c.chain_length-in-Indexed.result c.chain_length-in-Indexed.ensures.is
    ∙ sym (ap (λ (o : Organization). head_by o h (map keyed c.args.records.now)) c.in-Indexed.is)
