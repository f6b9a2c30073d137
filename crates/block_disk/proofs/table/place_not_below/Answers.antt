use Rattle.std.proofs.Common.{◌≡◌, ℕ, List, true, false, rules, of_calls, ltb, ltb-true, ltb-false, []}
use Rattle.std.proofs.lemmas.List.Sorted.{IsPartitionedBy-ltb, IsPartitionPoint-from_clause}
use Rattle.std.specs.List.Sorted.{IsPartitionPoint}
use Rattle.block_disk.proofs.Laid.{numbers_rise}
use Rattle.block_disk.proofs.table.place_not_below.Goals as goal

abbrev Entry : Type 0
Entry = ℕ × List ℕ

parted : (c : goal.After-partition_point) → IsPartitionPoint (λ (e : Entry). ltb e.0 c.args.n ≡ true) (λ (e : Entry). ltb e.0 c.args.n ≡ false) c.args.entries.now c.partition_point.result
parted c =
    IsPartitionPoint-from_clause (λ (e : Entry). ltb e.0 c.args.n) c.args.entries.now c.partition_point.result c.partition_point.ensures.partitioned
    (IsPartitionedBy-ltb (λ (e : Entry). e.0) c.args.entries.now c.args.n (numbers_rise 0 c.args.entries.now c.requires))
    (λ a r f k. search (rules, of_calls))

pub returns-clause-before : goal.returns-clause-before
returns-clause-before c = λ k lt. ltb-true _ _ ((parted c).0 k (0, []) (search rules) lt)

pub returns-clause-here : goal.returns-clause-here
returns-clause-here c = λ lt. ltb-false _ _ ((parted c).1 c.partition_point.result (0, []) (search rules) lt)
