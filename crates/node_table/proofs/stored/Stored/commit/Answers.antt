use Rattle.std.proofs.Common.{refl, arith}
use Rattle.net_wire.specs.commit_protocol.Effects.{SettleEffect}
use Rattle.emitter_model.proofs.EmittingLemmas.{emits_nothing, since_same}
use Rattle.vms_model.specs.Transactions.{Commit}
use Rattle.vms_base.specs.Ids.{serial_of}
use Rattle.node_table.specs.Code.{stored_of}
use Rattle.node_table.proofs.Branching.{fewer_left}
use Rattle.node_table.proofs.Grows.{early}
use Rattle.node_table.proofs.Settling.{committed_tells, down_tells, has_begun, may_log_if, settle_writes, settling}
use Rattle.node_table.proofs.stored.Stored.commit.Goals as goal

pub commit-requires-clause-unit : goal.commit-requires-clause-unit
commit-requires-clause-unit g c = let m = c.requires.may in let v = settling (serial_of c.args.serial) Commit m.3 _ m.0 m.2 m.1 (stored_of g.U.RecoveryUnits.state c.args.self.now) m.4 in has_begun (serial_of c.args.serial) (g.U.RecoveryUnits.state c.args.self.now.units) v.unit v.found

pub commit-requires-clause-may : goal.commit-requires-clause-may
commit-requires-clause-may g c = let m = c.requires.may in may_log_if _ _ m.3 _ m.0 m.2 m.1 _ m.4

pub commit-requires-clause-order : goal.commit-requires-clause-order
commit-requires-clause-order g c = c.requires.may.4.follows.order

pub commit-requires-clause-early : goal.commit-requires-clause-early
commit-requires-clause-early g c = let m = c.requires.may in let v = settling (serial_of c.args.serial) Commit m.3 _ m.0 m.2 m.1 (stored_of g.U.RecoveryUnits.state c.args.self.now) m.4 in early _ _ v.unit c.requires.early v.found

pub emit-requires : goal.emit-requires
emit-requires g c =
    let m = c.requires.may in
    let v = settling (serial_of c.args.serial) Commit m.3 _ m.0 m.2 m.1 (stored_of g.U.RecoveryUnits.state c.args.self.now) m.4 in
    let r = fewer_left (serial_of c.args.serial) (g.U.RecoveryUnits.state c.args.self.now.units).begun v.unit v.found in
    omega (arith, r.0, c.requires.early.moment, c.in-Ok.ensures.moment, c.commit.ensures.grows.greatest, c.requires.clock)

pub returns-in-Err-clause-tells : goal.returns-in-Err-clause-tells
returns-in-Err-clause-tells g c = λ tid reason s. down_tells c.in-Err.down (SettleEffect (serial_of c.args.serial) Commit reason _) _ _ _ 1 c.commit.ensures.grows c.in-Err.ensures.cause (settle_writes _ Commit reason _) refl _ (c.in-Err.ensures.err reason) tid _ _ (emits_nothing _) (since_same _) s

pub returns-in-Ok-clause-tells : goal.returns-in-Ok-clause-tells
returns-in-Ok-clause-tells g c = λ tid reason s.
    let m = c.requires.may in
    let v = settling (serial_of c.args.serial) Commit m.3 _ m.0 m.2 m.1 (stored_of g.U.RecoveryUnits.state c.args.self.now) m.4 in
    committed_tells (serial_of c.args.serial) reason _ _ c.in-Ok.unit _ _ _ _ c.in-Ok.ensures.units c.in-Ok.ensures.order c.commit.ensures.grows c.in-Ok.ensures.images (c.in-Ok.ensures.done reason) c.no_longer.ensures.without c.emit.ensures.since c.emit.ensures.emits v.unit v.found m.4.follows.order.few c.requires.early tid s
