use Rattle.std.proofs.Common.{refl}
use Rattle.tm_types.specs.Parts.{log_record_of}
use Rattle.node_table.specs.Code.{stored_of}
use Rattle.node_table.proofs.Settling.{keep_tells, keepable}
use Rattle.node_table.proofs.stored.Stored.keep.Goals as goal

pub keep_record-requires-clause-form : goal.keep_record-requires-clause-form
keep_record-requires-clause-form g c = let m = c.requires.may in (keepable _ m.0 m.2 m.1 _ m.3).form

pub keep_record-requires-clause-there : goal.keep_record-requires-clause-there
keep_record-requires-clause-there g c = let m = c.requires.may in (keepable _ m.0 m.2 m.1 _ m.3).there

pub keep_record-requires-clause-order : goal.keep_record-requires-clause-order
keep_record-requires-clause-order g c = c.requires.may.3.follows.order

pub returns : goal.returns
returns g c = record {
  tells = λ tid clock s a. keep_tells c.keep_record.result (log_record_of c.args.rec.now) (stored_of g.U.RecoveryUnits.state c.args.self.now) _ c.keep_record.ensures.units c.keep_record.ensures.order c.keep_record.ensures.grows c.keep_record.ensures.cause c.keep_record.ensures.catalog c.keep_record.ensures.done c.keep_record.ensures.err refl tid clock s a;
}
