use Rattle.std.proofs.Common.{◌∷◌, [], Option, if◌then◌else◌, sym, subst, ◌∙◌}
use Rattle.emitter_model.specs.commit_protocol.Messages.{LogRecord}
use Rattle.tm_types.specs.Parts.{log_record_of}
use Rattle.emitter_model.specs.Emitting.{Emits}
use Rattle.emitter_model.proofs.EmittingLemmas.{emits_nothing}
use Rattle.world_laws.specs.run_model.Answers.{owed_line}
use Rattle.node_requests.specs.Managers.{owed_lines_at}
use Rattle.node_requests.proofs.log.show_if_owed.Goals as goal

pub returns-in_default-clause-shows : goal.returns-in_default-clause-shows
returns-in_default-clause-shows g c =
    let a = g.E.Emit.shows c.args.out.now in
    subst (λ (o : Option LogRecord). Emits a (owed_lines_at c.args.rm.now o) a) c.in_default.ensures (emits_nothing a)

pub returns-then-not-is_waited_for-clause-shows : goal.returns-then-not-is_waited_for-clause-shows
returns-then-not-is_waited_for-clause-shows g c =
    let a = g.E.Emit.shows c.args.out.now in
    let r = log_record_of c.in-Some.rec.now in
    subst (λ (o : Option LogRecord). Emits a (owed_lines_at c.args.rm.now o) a) c.in-Some.ensures
    (subst (λ t. Emits a (if t then owed_line c.args.rm.now r ∷ [] else []) a) (sym (sym c.is_waited_for.ensures ∙ c.if-not-is_waited_for.true)) (emits_nothing a))

pub returns-clause-shows : goal.returns-clause-shows
returns-clause-shows g c =
    let a = g.E.Emit.shows c.args.out.now in
    let b = g.E.Emit.shows c.emit.new.self in
    let r = log_record_of c.in-Some.rec.now in
    subst (λ (o : Option LogRecord). Emits a (owed_lines_at c.args.rm.now o) b) c.in-Some.ensures
    (subst (λ t. Emits a (if t then owed_line c.args.rm.now r ∷ [] else []) b) (sym (sym c.is_waited_for.ensures ∙ c.if-not-is_waited_for.false)) c.emit.ensures.emits)
