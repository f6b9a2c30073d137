use Rattle.std.proofs.Common.{None, refl, arith}
use Rattle.net_wire.specs.commit_protocol.Effects.{SettleEffect}
use Rattle.emitter_model.proofs.EmittingLemmas.{emits_nothing, since_same}
use Rattle.vms_model.specs.Transactions.{Abort}
use Rattle.vms_base.specs.Ids.{serial_of}
use Rattle.vms_base.specs.Outcomes.{reason_of}
use Rattle.node_table.specs.Code.{stored_of}
use Rattle.node_table.proofs.Branching.{fewer_left}
use Rattle.node_table.proofs.Grows.{early}
use Rattle.node_table.proofs.Settling.{aborted_tells, down_tells, is_there, settle_writes, settling}
use Rattle.node_table.proofs.stored.Stored.abort.Goals as goal

pub abort-requires-clause-unit : goal.abort-requires-clause-unit
abort-requires-clause-unit g c = let m = c.requires.may in is_there _ _ (settling (serial_of c.args.serial) Abort (reason_of c.args.reason) None m.0 m.2 m.1 (stored_of g.U.RecoveryUnits.state c.args.self.now) m.3).found

pub abort-requires-clause-order : goal.abort-requires-clause-order
abort-requires-clause-order g c = c.requires.may.3.follows.order

pub abort-requires-clause-early : goal.abort-requires-clause-early
abort-requires-clause-early g c = let m = c.requires.may in let v = settling (serial_of c.args.serial) Abort (reason_of c.args.reason) None m.0 m.2 m.1 (stored_of g.U.RecoveryUnits.state c.args.self.now) m.3 in early _ _ v.unit c.requires.early v.found

pub emit-requires : goal.emit-requires
emit-requires g c =
    let m = c.requires.may in
    let v = settling (serial_of c.args.serial) Abort (reason_of c.args.reason) None m.0 m.2 m.1 (stored_of g.U.RecoveryUnits.state c.args.self.now) m.3 in
    let r = fewer_left (serial_of c.args.serial) (g.U.RecoveryUnits.state c.args.self.now.units).begun v.unit v.found in
    omega (arith, r.0, c.requires.early.moment, c.in-Ok.ensures.moment, c.abort.ensures.grows.greatest, c.requires.clock)

pub returns-in-Err-clause-tells : goal.returns-in-Err-clause-tells
returns-in-Err-clause-tells g c = λ tid s. down_tells c.in-Err.down (SettleEffect (serial_of c.args.serial) Abort (reason_of c.args.reason) None) _ _ _ 1 c.abort.ensures.grows c.in-Err.ensures.cause (settle_writes _ Abort (reason_of c.args.reason) None) refl _ c.in-Err.ensures.err tid _ _ (emits_nothing _) (since_same _) s

pub returns-in-Ok-clause-tells : goal.returns-in-Ok-clause-tells
returns-in-Ok-clause-tells g c = λ tid s.
    let m = c.requires.may in
    aborted_tells (serial_of c.args.serial) (reason_of c.args.reason) _ c.in-Ok.unit _ _ _ _ c.in-Ok.ensures.units c.in-Ok.ensures.order c.abort.ensures.grows c.in-Ok.ensures.images c.in-Ok.ensures.done c.no_longer.ensures.without c.emit.ensures.since c.emit.ensures.emits m.0 m.2 m.1 m.3 c.requires.early tid s
