use Rattle.std.proofs.Common.{◌≤◌, List, map, sym, subst, arith}
use Rattle.std.specs.Vec.{vec_capacity}
use Rattle.commit_protocol.specs.Messages.{LogRecord}
use Rattle.commit_protocol.specs.Table.{Branch}
use Rattle.tm_types.specs.Parts.{log_record_of}
use Rattle.tm_types.specs.Branches.{branch_of}
use Rattle.tm_table.specs.Kept.{Keeps}
use Rattle.tm_table.proofs.RestartLemmas.{keeps_restart}
use Rattle.tm_table.proofs.table.Table.boot.Goals as goal

pub invariant_of-self : goal.invariant_of-self
invariant_of-self c =
    let ps = map log_record_of c.args.prepared.now in
    let cs = map log_record_of c.args.committed.now in
    let k = keeps_restart ps cs c.requires in
    let P : List Branch → Type 0 = λ t. Keeps t cs in
    let Q : List LogRecord → Type 0 = λ rs. Keeps (map branch_of c.restore_branches.new.branches.items) rs in
    let a : 64 ≤ vec_capacity c.restore_branches.new.branches = (let e = c.restore_branches.ensures.capacity in let i = c.self.invariant.0 in omega arith) in
    let b : 512 ≤ vec_capacity c.restore_records.new.records = (let e = c.restore_records.ensures.capacity in let i = c.self.invariant.1 in omega arith) in
    (a, b, subst Q (sym c.restore_records.ensures.records) (subst P (sym c.restore_branches.ensures.branches) k))
