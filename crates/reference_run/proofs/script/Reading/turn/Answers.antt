use Rattle.std.proofs.Common.{◌+◌, ◌≤◌, arith, length, subst, sym}
use Rattle.script_lang.specs.Statements.{statement_of}
use Rattle.reference_run.specs.declared.rack.Rack.{Rack}
use Rattle.reference_run.specs.Served.{IsFit, units_left, world_of}
use Rattle.reference_run.proofs.EarlyLemmas.{read_timely}
use Rattle.reference_run.proofs.FitLemmas.{fit_less}
use Rattle.reference_run.proofs.TurnLemmas.{few_shown, turned_blank}
use Rattle.reference_run.proofs.script.Reading.turn.Goals as goal

pub returns-in-Ok-None-clause-turns : goal.returns-in-Ok-None-clause-turns
returns-in-Ok-None-clause-turns c = λ es more stands limits. turned_blank c.args.self.now c.pass.new.self es (record { text = c.args.line.now; ended = c.args.ended }) more stands limits (rw c.in-Ok-None.field-0-is at c.in-Ok-None.ensures) c.pass.ensures.number c.pass.ensures.size c.pass.ensures.text c.pass.ensures.rack

pub serve-requires : goal.serve-requires
serve-requires c = record {
  fit = fit_less (units_left c.args.self.now.number) 1024 (world_of c.args.self.now.rack) (omega (arith, c.requires.number)) c.requires.fit;
  few = c.requires.few;
  early = read_timely 1024 c.args.line.now (statement_of c.read_statement.new.lit c.in-Ok-Some.statement) (omega arith) (sym (rw c.in-Ok-Some.field-0-is at c.in-Ok-Some.ensures));
}

pub returns-in_ok-put_lines-in-Ok-Some-clause-fit : goal.returns-in_ok-put_lines-in-Ok-Some-clause-fit
returns-in_ok-put_lines-in-Ok-Some-clause-fit c =
    let left = (c.in_ok-lines-in-Ok-Some).ensures.fit (units_left (c.args.self.now.number + 1)) (fit_less (units_left c.args.self.now.number) ((units_left (c.args.self.now.number + 1)) + 1024) (world_of c.args.self.now.rack) (omega (arith, c.requires.number)) c.requires.fit)
    (read_timely ((units_left (c.args.self.now.number + 1)) + 1024) c.args.line.now (statement_of c.read_statement.new.lit c.in-Ok-Some.statement) (omega (arith, c.requires.number)) (sym (rw c.in-Ok-Some.field-0-is at c.in-Ok-Some.ensures))) in
    λ on. subst (λ (r : Rack). IsFit (units_left c.pass-in-Ok-Some.new.self.number) (world_of r)) (sym c.pass-in-Ok-Some.ensures.rack)
    (fit_less (units_left (c.args.self.now.number + 1)) (units_left c.pass-in-Ok-Some.new.self.number) (world_of c.serve.new.self) (omega (arith, c.pass-in-Ok-Some.ensures.number)) left)

pub returns-in_ok-put_lines-in-Ok-Some-clause-few : goal.returns-in_ok-put_lines-in-Ok-Some-clause-few
returns-in_ok-put_lines-in-Ok-Some-clause-few c = subst (λ (r : Rack). length (world_of r).nodes ≤ 8) (sym c.pass-in-Ok-Some.ensures.rack)
    (few_shown c.args.self.now.rack c.serve.new.self (statement_of c.read_statement.new.lit c.in-Ok-Some.statement) (c.in_ok-lines-in-Ok-Some).lines.items (c.in_ok-lines-in-Ok-Some).ensures.shows c.requires.few)
