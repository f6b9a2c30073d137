use Rattle.std.proofs.Common.{◌+◌, ◌-◌, ◌*◌, ℕ, map, sym, ap, ◌∙◌, List}
use Rattle.file_base.specs.declared.head.Organization.{Organization}
use Rattle.relative_file.specs.tree_model.Layouts.{index_size}
use Rattle.relative_file.specs.tree_model.Loads.{index_over}
use Rattle.load_laws.specs.seq_file.Placing.{buckets_for}
use Rattle.load_laws.specs.Loads.{buckets_by}
use Rattle.load_pages.specs.Given.{keyed}
use Rattle.load_pages.proofs.TreeCounts.{seq_sizes, tree_counted}
use Rattle.load_pages.proofs.counts.buckets.Goals as goal

pub returns-in-Sequential-clause-is : goal.returns-in-Sequential-clause-is
returns-in-Sequential-clause-is c =
    let h = c.args.head.now in
    c.chain_length.ensures.is ∙ ap (λ (ns : List ℕ). buckets_for (512 * h.bucket - 16) ns) (seq_sizes c.args.records.now)
    ∙ sym (ap (λ (o : Organization). buckets_by o h (map keyed c.args.records.now)) c.in-Sequential.is)

pub returns-in-Indexed-clause-is : goal.returns-in-Indexed-clause-is
returns-in-Indexed-clause-is c =
    let h = c.args.head.now in
    let leaves = c.chain_length-leaves.result in
    ap (λ n. leaves + n) (c.index_counts.ensures.buckets ∙ ap (λ f. index_size (index_over f leaves leaves)) c.fan_out.ensures.is)
    ∙ tree_counted h c.args.records.now leaves c.chain_length-leaves.ensures.is
    ∙ sym (ap (λ (o : Organization). buckets_by o h (map keyed c.args.records.now)) c.in-Indexed.is)
