use Rattle.std.proofs.Common.{ap, ◌∙◌}
use Rattle.std.proofs.lemmas.Result.{IfOk-weaker}
use Rattle.reference_index.specs.run_model.World.{find_file}
use Rattle.script_lang.specs.Statements.{recovery_of}
use Rattle.reference_world.specs.Standing.{directory_of, file_of, serials_of}
use Rattle.reference_disk.specs.Disks.{durable_of}
use Rattle.reference_disk.proofs.FoundLemmas.{refuses_nothing, refuses_recovery}
use Rattle.reference_disk.proofs.disk.Durable.recovery_refused.Goals as goal

pub returns-in-None : goal.returns-in-None
returns-in-None c =
    let found = c.in-None.ensures ∙ ap (λ fs. find_file c.args.name.now (directory_of fs)) c.as_slice.ensures.value in
    λ n same changed. refuses_nothing n (durable_of c.args.self.now).directory c.args.name.now (recovery_of c.args.way.now) same found

pub returns-in-Some : goal.returns-in-Some
returns-in-Some c =
    let found = c.in-Some.ensures ∙ ap (λ fs. find_file c.args.name.now (directory_of fs)) c.as_slice.ensures.value in
    λ n same changed. IfOk-weaker c.recovery_refused.result _ _ (λ refusal is. is
    ∙ refuses_recovery n (durable_of c.args.self.now).directory c.args.name.now (recovery_of c.args.way.now) (file_of c.in-Some.f.now) (serials_of c.args.branches.now) same found changed) c.recovery_refused.ensures
