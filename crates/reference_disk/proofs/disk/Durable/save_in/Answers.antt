use Rattle.std.proofs.Common.{[], ◌∷◌, ap, sym, ◌∙◌}
use Rattle.reference_index.specs.transcript_model.Lines as model
use Rattle.reference_disk.specs.Disks.{durable_of, node_on}
use Rattle.reference_disk.proofs.MarkLemmas.{saved_from}
use Rattle.reference_disk.proofs.disk.Durable.save_in.Goals as goal

pub returns-clause-saves : goal.returns-clause-saves
returns-clause-saves c =
    let n = node_on [] c.args.blocks (durable_of c.args.self.now) in
    c.in_ok-with_change.ensures ∙ sym (saved_from n c.args.name.now c.args.need c.start_for-start.result c.after_end-end.result c.requires.need c.start_for-start.ensures c.after_end-end.ensures).disk

pub returns-clause-shows : goal.returns-clause-shows
returns-clause-shows c =
    let n = node_on [] c.args.blocks (durable_of c.args.self.now) in
    c.in_ok-lines.ensures ∙ ap (λ x. model.NormalSave c.after_end-end.result x ∷ []) c.in_ok-moment.ensures
    ∙ ap (λ l. l ∷ []) (sym (saved_from n c.args.name.now c.args.need c.start_for-start.result c.after_end-end.result c.requires.need c.start_for-start.ensures c.after_end-end.ensures).told)
