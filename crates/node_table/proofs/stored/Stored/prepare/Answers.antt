use Rattle.tm_types.proofs.ListLemmas.{map_push}
use Rattle.std.proofs.Common.{ap, ◌∙◌, map, refl, arith}
use Rattle.std.proofs.lemmas.List.{length-map}
use Rattle.net_wire.specs.commit_protocol.Effects.{PrepareEffect}
use Rattle.emitter_model.proofs.EmittingLemmas.{emits_nothing, since_same}
use Rattle.vms_base.specs.Ids.{serial_of, tid_of}
use Rattle.node_table.specs.Code.{stored_of}
use Rattle.node_table.proofs.Grows.{early}
use Rattle.node_table.proofs.Acting.{room_prepared}
use Rattle.node_table.proofs.Settling.{down_tells, holds_there, is_there, prepare_tells, vote_writes, votes}
use Rattle.node_table.proofs.stored.Stored.prepare.Goals as goal

pub prepare-requires-clause-unit : goal.prepare-requires-clause-unit
prepare-requires-clause-unit g c = let m = c.requires.may in is_there _ _ (votes _ _ m.0 m.2 m.1 _ m.3).found

pub prepare-requires-clause-may : goal.prepare-requires-clause-may
prepare-requires-clause-may g c = let m = c.requires.may in let v = votes _ _ m.0 m.2 m.1 _ m.3 in holds_there _ _ v.unit v.found v.may

pub prepare-requires-clause-order : goal.prepare-requires-clause-order
prepare-requires-clause-order g c = c.requires.may.3.follows.order

pub prepare-requires-clause-early : goal.prepare-requires-clause-early
prepare-requires-clause-early g c = let m = c.requires.may in let v = votes _ _ m.0 m.2 m.1 _ m.3 in early _ _ v.unit c.requires.early v.found

pub push_reserved-requires : goal.push_reserved-requires
push_reserved-requires g c =
    let s = stored_of g.U.RecoveryUnits.state c.args.self.now in
    let m = c.requires.may in
    let v = votes _ _ m.0 m.2 m.1 _ m.3 in
    let r = room_prepared m.1 s v.branch v.branch m.3.follows v.there v.unprepared in
    let l = length-map c.args.self.now.room.in_doubt.items serial_of in
    omega (arith, r, l, c.args.self.now.room.room)

pub returns-in-Err-clause-tells : goal.returns-in-Err-clause-tells
returns-in-Err-clause-tells g c = λ tid clock s. down_tells c.in-Err.down (PrepareEffect (serial_of c.args.serial) c.args.rms.now) _ _ 0 0 c.prepare.ensures.grows c.in-Err.ensures.cause (vote_writes _ _) refl clock (λ n act kept may at. c.in-Err.ensures.err n act kept may) tid _ _ (emits_nothing _) (since_same _) s

pub returns-in-Ok-clause-tells : goal.returns-in-Ok-clause-tells
returns-in-Ok-clause-tells g c = let m = c.requires.may in prepare_tells (serial_of c.args.serial) c.args.rms.now (tid_of c.in-Ok.tid) _ _ _ _ (record {
  units = c.in-Ok.ensures.units;
  tid = c.in-Ok.ensures.tid;
  order = c.in-Ok.ensures.order;
  grows = c.prepare.ensures.grows;
  images = c.in-Ok.ensures.images;
  acts = c.in-Ok.ensures.done;
  doubt = ap (map serial_of) c.push_reserved.ensures.items ∙ map_push serial_of c.args.self.now.room.in_doubt.items c.args.serial;
  since = c.emit.ensures.since;
  shows = c.emit.ensures.emits;
}) m.0 m.2 m.1 m.3
