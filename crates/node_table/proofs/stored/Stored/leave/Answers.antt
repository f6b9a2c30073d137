use Rattle.std.proofs.Common.{refl}
use Rattle.vms_base.specs.Ids.{serial_of, tid_of}
use Rattle.node_table.specs.Code.{stored_of}
use Rattle.node_table.proofs.Rows.{goes_same}
use Rattle.node_table.proofs.Settling.{holds_there, is_there, leave_tells, leaving}
use Rattle.node_table.proofs.stored.Stored.leave.Goals as goal

pub leave-tid-requires-clause-unit : goal.leave-tid-requires-clause-unit
leave-tid-requires-clause-unit g c = let m = c.requires.may in is_there _ _ (leaving _ m.0 m.2 m.1 _ m.3).found

pub leave-tid-requires-clause-may : goal.leave-tid-requires-clause-may
leave-tid-requires-clause-may g c = let m = c.requires.may in let v = leaving _ m.0 m.2 m.1 _ m.3 in holds_there _ _ v.unit v.found v.may

pub returns-clause-tells : goal.returns-clause-tells
returns-clause-tells g c = let m = c.requires.may in
    let v = c.args.self.now.volume in
    leave_tells (serial_of c.args.serial) (tid_of c.leave-tid.result) (stored_of g.U.RecoveryUnits.state c.args.self.now) _ _ _ (record {
      volume = refl;
      units = c.leave-tid.ensures.units;
      tid = c.leave-tid.ensures.tid;
      order = c.leave-tid.ensures.order v m.3.follows.order;
      acts = c.leave-tid.ensures.done v;
      doubt = refl;
      since = c.emit.ensures.since;
      shows = c.emit.ensures.emits;
    }) (goes_same _) m.0 m.2 m.1 m.3
