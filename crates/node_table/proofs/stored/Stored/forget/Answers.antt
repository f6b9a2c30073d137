use Rattle.std.proofs.Common.{refl}
use Rattle.net_wire.specs.commit_protocol.Effects.{ForgetEffect}
use Rattle.emitter_model.proofs.EmittingLemmas.{emits_nothing, since_same}
use Rattle.vms_base.specs.Ids.{serial_of, tid_of}
use Rattle.node_table.proofs.Settling.{down_tells, forget_tells, forget_writes, goes_there, record_there}
use Rattle.node_table.proofs.stored.Stored.forget.Goals as goal

pub forget_record-requires-clause-there : goal.forget_record-requires-clause-there
forget_record-requires-clause-there g c = let m = c.requires.may in record_there _ _ (goes_there _ m.0 m.2 m.1 _ m.3).2

pub forget_record-requires-clause-order : goal.forget_record-requires-clause-order
forget_record-requires-clause-order g c = c.requires.may.3.follows.order

pub returns-in-Err-clause-tells : goal.returns-in-Err-clause-tells
returns-in-Err-clause-tells g c = λ tid clock s. down_tells c.in-Err.down (ForgetEffect (serial_of c.args.serial)) _ _ 0 0 c.forget_record.ensures.grows c.in-Err.ensures.cause (forget_writes _) refl clock (λ n act kept may at. c.in-Err.ensures.err n act kept may) tid _ _ (emits_nothing _) (since_same _) s

pub returns-in-Ok-clause-tells : goal.returns-in-Ok-clause-tells
returns-in-Ok-clause-tells g c = forget_tells (serial_of c.args.serial) (tid_of c.in-Ok.tid) _ _ _ _ c.in-Ok.ensures.units c.in-Ok.ensures.tid c.in-Ok.ensures.order c.forget_record.ensures.grows c.in-Ok.ensures.catalog c.in-Ok.ensures.done refl c.emit.ensures.since c.emit.ensures.emits
