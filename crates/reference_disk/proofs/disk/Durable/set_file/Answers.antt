use Rattle.std.proofs.Common.{◌≡◌, [], ap, sym, ◌∙◌}
use Rattle.reference_index.specs.run_model.Answers.{start_of}
use Rattle.reference_index.specs.run_model.World.{lowest_free, marked_file}
use Rattle.script_lang.specs.Statements.{setting_of}
use Rattle.reference_world.specs.Directories.{mark_of}
use Rattle.reference_disk.specs.Disks.{durable_of, node_on}
use Rattle.reference_disk.specs.Marks.{blocks_said, mark_said}
use Rattle.reference_disk.proofs.MarkLemmas.{changed_disk, on_ok, sets_marks}
use Rattle.reference_disk.proofs.disk.Durable.set_file.Goals as goal

pub returns-clause-marks : goal.returns-clause-marks
returns-clause-marks c =
    let d = durable_of c.args.self.now in
    let n = node_on [] c.args.blocks d in
    let setting = setting_of c.args.setting in
    let mark : mark_of c.mark_for.result ≡ mark_said setting (start_of (lowest_free n (blocks_said setting))) =
    c.mark_for.ensures ∙ ap (mark_said setting) (c.start_for-start.ensures ∙ ap (λ k. start_of (lowest_free n k)) c.blocks_marked.ensures) in
    on_ok c.one.result (c.in_ok-with_change.ensures ∙ ap (λ m. changed_disk d c.args.name.now (marked_file m d.greatest)) mark ∙ sym (sets_marks n c.args.name.now setting))
