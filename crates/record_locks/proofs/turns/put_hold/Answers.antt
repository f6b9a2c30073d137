use Rattle.std.proofs.Common.{is_some, sym, ap, arith}
use Rattle.record_locks.proofs.turns.put_hold.Goals as goal

pub returns-in-Some-clause-each : goal.returns-in-Some-clause-each
returns-in-Some-clause-each c = ((c.get_mut.follows.holds (record { by = c.args.by.now; since = c.args.since })).3 (ap is_some (sym c.in-Some.ensures.value))).0

pub returns-in-Some-clause-few : goal.returns-in-Some-clause-few
returns-in-Some-clause-few c = let long = (c.get_mut.follows.holds (record { by = c.args.by.now; since = c.args.since })).2 in omega (arith, long)

pub returns-in-Some-clause-room : goal.returns-in-Some-clause-room
returns-in-Some-clause-room c = let long = (c.get_mut.follows.holds (record { by = c.args.by.now; since = c.args.since })).2 in let room = (c.get_mut.follows.holds (record { by = c.args.by.now; since = c.args.since })).6 in omega (arith, long, room)

pub returns-in-Some-clause-unique : goal.returns-in-Some-clause-unique
returns-in-Some-clause-unique c = (c.get_mut.follows.holds (record { by = c.args.by.now; since = c.args.since })).4
