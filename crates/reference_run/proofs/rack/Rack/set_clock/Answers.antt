use Rattle.std.proofs.Common.{◌+◌, refl, arith}
use Rattle.std.proofs.lemmas.Result.{IfOk-weaker}
use Rattle.script_lang.specs.Statements.{request_of}
use Rattle.reference_tasks.proofs.reference_node.TellLemmas.{on_ok}
use Rattle.reference_run.specs.Served.{world_of}
use Rattle.reference_run.proofs.StatementLemmas.{clock_request_shown}
use Rattle.reference_run.proofs.EarlyLemmas.{set_less}
use Rattle.reference_run.proofs.FitLemmas.{fit_less}
use Rattle.reference_run.proofs.rack.Rack.set_clock.Goals as goal

pub perform_up-requires : goal.perform_up-requires
perform_up-requires c = record { fit = (c.in_ok-serve_request).ensures.fit 1 (fit_less 1024 (1 + 64) (world_of c.args.self.now) (omega arith) c.requires.fit) (set_less 1024 1 (request_of c.args.lit.now c.args.request.now) (omega arith) c.requires.early) }

pub returns-clause-shows : goal.returns-clause-shows
returns-clause-shows c = IfOk-weaker c.all_shown.result _ _ (λ lines shows. clock_request_shown c.args.lit.now c.args.name.now c.args.request.now (world_of c.args.self.now) (world_of c.serve_request.new.self) (world_of c.perform_up.new.self) (c.in_ok-serve_request).field-0.items (c.in_ok-shown).shown lines.items
    c.requires.clock c.requires.there refl (c.in_ok-serve_request).ensures.shows (c.in_ok-shown).ensures.runs shows) c.all_shown.ensures

pub returns-clause-fit : goal.returns-clause-fit
returns-clause-fit c = λ units h early. on_ok c.all_shown.result ((c.in_ok-shown).ensures.fit units ((c.in_ok-serve_request).ensures.fit (units + 1) (fit_less (units + 1024) (units + 1 + 64) (world_of c.args.self.now) (omega arith) h) (set_less (units + 1024) (units + 1) (request_of c.args.lit.now c.args.request.now) (omega arith) early)))
