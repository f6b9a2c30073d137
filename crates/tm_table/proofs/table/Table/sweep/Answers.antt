use Rattle.std.proofs.Common.{◌≡◌, true, false, sym, ◌∙◌}
use Rattle.vms_base.specs.Outcomes.{reason_of}
use Rattle.tm_types.specs.Branches.{branch_of}
use Rattle.tm_table.specs.Choices.{chosen_by, taken}
use Rattle.tm_table.proofs.SweepLemmas.{sweeping_begins, sweeping_taken, sweeping_left, sweeping_done, sweeping_leaves}
use Rattle.tm_table.proofs.table.Table.sweep.Goals as goal

pub loop-b-init : goal.loop-b-init
loop-b-init c = sweeping_begins (reason_of c.args.reason) (chosen_by c.args.choice.now) c.args.self.now c.requires

pub loop-b-preserved-then-is_taken : goal.loop-b-preserved-then-is_taken
loop-b-preserved-then-is_taken c =
    let reason = reason_of c.args.reason in
    let chosen = chosen_by c.args.choice.now in
    let x = branch_of c.in-Some.b in
    let place = c.in-Some.ensures.place in
    let h : taken chosen x ≡ true = sym c.is_taken.ensures ∙ c.if-is_taken.true in
    sweeping_taken reason chosen c.args.self.now c.loop-b.self c.abort_running.new.self c.loop-b.i x c.loop-b.invariant c.copy_at.ensures.unique place.0 place.1 h c.abort_running.ensures.done c.abort_running.ensures.cuts c.abort_running.ensures.room c.abort_running.ensures.fewer

pub loop-b-preserved : goal.loop-b-preserved
loop-b-preserved c =
    let reason = reason_of c.args.reason in
    let chosen = chosen_by c.args.choice.now in
    let x = branch_of c.in-Some.b in
    let place = c.in-Some.ensures.place in
    let h : taken chosen x ≡ false = sym c.is_taken.ensures ∙ c.if-is_taken.false in
    sweeping_left reason chosen c.args.self.now c.loop-b.self c.loop-b.i x c.loop-b.invariant place.0 place.1 h

pub returns-clause-done : goal.returns-clause-done
returns-clause-done c = sweeping_done (reason_of c.args.reason) (chosen_by c.args.choice.now) c.args.self.now c.loop-b.self c.loop-b.i c.loop-b.invariant c.in_default.ensures.none

pub returns-clause-left : goal.returns-clause-left
returns-clause-left c = sweeping_leaves (reason_of c.args.reason) (chosen_by c.args.choice.now) c.args.self.now c.loop-b.self c.loop-b.i c.loop-b.invariant c.in_default.ensures.none

pub returns-clause-room : goal.returns-clause-room
returns-clause-room c = c.loop-b.invariant.room
