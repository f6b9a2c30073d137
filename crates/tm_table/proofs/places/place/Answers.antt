use Rattle.std.proofs.Common.{Bool, sym, ◌∙◌, arith}
use Rattle.commit_protocol.specs.Table.{same_key}
use Rattle.tm_types.specs.Branches.{key_at, branch_of}
use Rattle.tm_types.specs.declared.branch.BranchState.{BranchState}
use Rattle.tm_table.proofs.PlaceLemmas.{position_hit, position_pass, position_miss}
use Rattle.tm_table.proofs.places.place.Goals as goal

pub returns-then-has_key : goal.returns-then-has_key
returns-then-has_key c =
    let p : BranchState → Bool = λ b. same_key (branch_of b).key (key_at c.args.tid.now c.args.serial.now) in
    position_hit p c.args.branches.now c.loop-i.i c.index-branches-i.result c.loop-i-test.true c.index-branches-i.is c.loop-i.invariant (sym c.has_key.ensures ∙ c.if-has_key.true)

pub loop-i-preserved : goal.loop-i-preserved
loop-i-preserved c =
    let p : BranchState → Bool = λ b. same_key (branch_of b).key (key_at c.args.tid.now c.args.serial.now) in
    position_pass p c.args.branches.now c.loop-i.i c.index-branches-i.result c.loop-i-test.true c.index-branches-i.is c.loop-i.invariant (sym c.has_key.ensures ∙ c.if-has_key.false)

pub returns : goal.returns
returns c =
    let p : BranchState → Bool = λ b. same_key (branch_of b).key (key_at c.args.tid.now c.args.serial.now) in
    position_miss p c.args.branches.now c.loop-i.i c.loop-i-test.false (omega arith) c.loop-i.invariant
