use Rattle.std.proofs.Common.{◌<◌, Some, is_some, cond, subst, sym, ap, ◌∙◌, arith}
use Rattle.indexmap.specs.IndexMap.{IndexMap, spare}
use Rattle.table_keys.specs.declared.key.BranchKey.{BranchKey}
use Rattle.vms_base.specs.Ids.{serial_of}
use Rattle.table_keys.specs.records_model.History.{same_id}
use Rattle.record_locks.specs.declared.turns.Turn.{Turn}
use Rattle.record_locks.specs.Turns.{turn_of}
use Rattle.record_locks.proofs.LockLemmas.{of_ok}
use Rattle.record_locks.proofs.LogLemmas.{as_long}
use Rattle.record_locks.proofs.turns.put_turn.Goals as goal

pub returns-in-Some-clause-each : goal.returns-in-Some-clause-each
returns-in-Some-clause-each c = λ q. ((c.get_mut.follows.holds c.args.turn).3 (ap is_some (sym c.in-Some.ensures.value))).0 (record { serial = q })

pub returns-in-Some-clause-len : goal.returns-in-Some-clause-len
returns-in-Some-clause-len c = as_long _ _ (is_some (turn_of c.args.turns.now.entries c.args.by.now)) (c.get_mut.follows.holds c.args.turn).2 (ap is_some (sym c.in-Some.ensures.value))

pub returns-in-Some-clause-room : goal.returns-in-Some-clause-room
returns-in-Some-clause-room c = let long = (c.get_mut.follows.holds c.args.turn).2 in let room = (c.get_mut.follows.holds c.args.turn).6 in omega (arith, long, room)

pub returns-in-Some-clause-unique : goal.returns-in-Some-clause-unique
returns-in-Some-clause-unique c = (c.get_mut.follows.holds c.args.turn).4

pub returns-in-None-clause-each : goal.returns-in-None-clause-each
returns-in-None-clause-each c = λ q.
    let same = c.get_mut.follows.holds-at-none in
    let room = subst (λ (m : IndexMap BranchKey Turn _). 0 < spare m) (sym same) (c.requires.room (sym c.in-None.ensures.value)) in
    (of_ok c.insert.result (c.insert.ensures.succeeds room) c.insert.ensures.updates).0 (record { serial = q })
    ∙ ap (λ (m : IndexMap BranchKey Turn _). cond (same_id (serial_of c.args.by.now) (serial_of q)) (Some c.args.turn) (turn_of m.entries q)) same
