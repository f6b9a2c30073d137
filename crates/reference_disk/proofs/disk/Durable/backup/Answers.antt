use Rattle.std.proofs.Common.{[], ◌∷◌, ap, sym, ◌∙◌}
use Rattle.std.proofs.lemmas.Result.{IfOk-weaker}
use Rattle.reference_disk.specs.Disks.{durable_of, node_on}
use Rattle.reference_disk.proofs.MarkLemmas.{on_ok, saved_nowhere}
use Rattle.reference_disk.proofs.disk.Durable.backup.Goals as goal

pub returns-in-None-clause-saves : goal.returns-in-None-clause-saves
returns-in-None-clause-saves c = on_ok c.one.result (saved_nowhere (node_on [] c.args.blocks (durable_of c.args.self.now)) c.args.name.now (sym c.in-None.is ∙ c.in_ok-blocks_taken.ensures)).0

pub returns-in-None-clause-shows : goal.returns-in-None-clause-shows
returns-in-None-clause-shows c =
    let nowhere = saved_nowhere (node_on [] c.args.blocks (durable_of c.args.self.now)) c.args.name.now (sym c.in-None.is ∙ c.in_ok-blocks_taken.ensures) in
    IfOk-weaker c.one.result _ _ (λ lines shown. shown ∙ ap (λ l. l ∷ []) nowhere.1) c.one.ensures
