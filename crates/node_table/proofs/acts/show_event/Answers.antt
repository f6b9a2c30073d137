use Rattle.std.proofs.Common.{◌∷◌, [], if◌then◌else◌, ◌∙◌, sym, subst}
use Rattle.emitter_model.specs.Emitting.{Emits}
use Rattle.emitter_model.specs.transcript_model.Lines.{ManagerTold}
use Rattle.emitter_model.proofs.EmittingLemmas.{emits_nothing}
use Rattle.tm_types.specs.Parts.{rm_event_of}
use Rattle.vms_base.specs.Ids.{serial_of, tid_of}
use Rattle.node_table.proofs.acts.show_event.Goals as goal

pub returns-then-not-is_declared-clause-shows : goal.returns-then-not-is_declared-clause-shows
returns-then-not-is_declared-clause-shows g c = let a = g.E.Emit.shows c.args.out.now in
    subst (λ t. Emits a (if t then ManagerTold (rm_event_of c.args.event) (tid_of c.args.tid.now) (serial_of c.args.serial.now) c.args.rm.now ∷ [] else []) a) (sym (sym c.is_declared.ensures ∙ c.if-not-is_declared.true)) (emits_nothing a)

pub returns-clause-shows : goal.returns-clause-shows
returns-clause-shows g c =
    subst (λ t. Emits (g.E.Emit.shows c.args.out.now) (if t then ManagerTold (rm_event_of c.args.event) (tid_of c.args.tid.now) (serial_of c.args.serial.now) c.args.rm.now ∷ [] else []) (g.E.Emit.shows c.emit.new.self))
    (sym (sym c.is_declared.ensures ∙ c.if-not-is_declared.false)) c.emit.ensures.emits
