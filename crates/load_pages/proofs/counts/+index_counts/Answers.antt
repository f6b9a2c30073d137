use Rattle.std.proofs.Common.{◌+◌, ◌-◌, ◌/◌, refl, arith}
use Rattle.load_pages.proofs.CountLemmas.{counts_above, above_less}
use Rattle.load_pages.proofs.counts.+index_counts.Goals as goal

pub returns-clause-buckets : goal.returns-clause-buckets
returns-clause-buckets t c =
    (counts_above c.args.fan_out c.args.count ((c.args.count - 1) / c.args.fan_out + 1) c.index_counts-buckets.result.0 c.index_counts-buckets.result.1 c.requires.wide (omega (arith, c.if-count-le1.false)) refl c.index_counts-buckets.ensures.buckets
    c.index_counts-buckets.ensures.levels).buckets_are

pub returns-clause-levels : goal.returns-clause-levels
returns-clause-levels t c =
    (counts_above c.args.fan_out c.args.count ((c.args.count - 1) / c.args.fan_out + 1) c.index_counts-buckets.result.0 c.index_counts-buckets.result.1 c.requires.wide (omega (arith, c.if-count-le1.false)) refl c.index_counts-buckets.ensures.buckets
    c.index_counts-buckets.ensures.levels).levels_are

pub returns-clause-most : goal.returns-clause-most
returns-clause-most t c =
    let above = above_less c.args.fan_out c.args.count c.requires.wide (omega (arith, c.if-count-le1.false)) in
    let few = c.index_counts-buckets.ensures.most in omega (arith, above, few)
