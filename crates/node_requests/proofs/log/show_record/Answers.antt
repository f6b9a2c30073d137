use Rattle.std.proofs.Common.{◌∷◌, [], Option, ap, subst}
use Rattle.std.specs.Prelude.{is_some}
use Rattle.emitter_model.specs.commit_protocol.Messages.{LogRecord}
use Rattle.emitter_model.specs.Emitting.{Emits}
use Rattle.emitter_model.proofs.EmittingLemmas.{emits_nothing}
use Rattle.node_requests.specs.Managers.{entry_lines_at}
use Rattle.node_requests.proofs.log.show_record.Goals as goal

pub returns-in-Some-clause-shows : goal.returns-in-Some-clause-shows
returns-in-Some-clause-shows g c = subst (λ (o : Option LogRecord). Emits (g.E.Emit.shows c.args.out.now) (entry_lines_at c.args.slot o) (g.E.Emit.shows c.emit.new.self)) c.in-Some.ensures c.emit.ensures.emits

pub returns-in-Some-clause-has : goal.returns-in-Some-clause-has
returns-in-Some-clause-has g c = ap is_some c.in-Some.ensures

pub returns-in-None-clause-shows : goal.returns-in-None-clause-shows
returns-in-None-clause-shows g c =
    let a = g.E.Emit.shows c.args.out.now in
    subst (λ (o : Option LogRecord). Emits a (entry_lines_at c.args.slot o) a) c.in-None.ensures (emits_nothing a)

pub returns-in-None-clause-has : goal.returns-in-None-clause-has
returns-in-None-clause-has g c = ap is_some c.in-None.ensures
