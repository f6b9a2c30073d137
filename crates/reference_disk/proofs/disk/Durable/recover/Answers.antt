use Rattle.std.proofs.Common.{[], ◌∷◌, ap, subst, ◌∙◌}
use Rattle.std.proofs.lemmas.Result.{IfOk-weaker}
use Rattle.reference_index.specs.run_model.World.{find_file}
use Rattle.script_lang.specs.Statements.{recovery_of}
use Rattle.reference_disk.specs.Disks.{durable_of, node_on}
use Rattle.reference_disk.specs.Recovering.{IsGiven}
use Rattle.reference_disk.proofs.MarkLemmas.{loaded_nowhere, on_ok}
use Rattle.reference_disk.proofs.disk.Durable.recover.Goals as goal

pub load_in-requires-clause-given : goal.load_in-requires-clause-given
load_in-requires-clause-given c = subst (λ g. IsGiven (recovery_of c.args.way.now) (find_file c.args.name.now (durable_of c.args.self.now).directory) g) c.in-Some.is c.in_ok-recovered_at.ensures

pub returns-in-None-clause-recovers : goal.returns-in-None-clause-recovers
returns-in-None-clause-recovers c =
    let n = node_on [] c.args.blocks (durable_of c.args.self.now) in
    let nothing = subst (λ g. IsGiven (recovery_of c.args.way.now) (find_file c.args.name.now n.durable.directory) g) c.in-None.is c.in_ok-recovered_at.ensures in
    on_ok c.one.result (loaded_nowhere n c.args.name.now (recovery_of c.args.way.now) nothing).0

pub returns-in-None-clause-shows : goal.returns-in-None-clause-shows
returns-in-None-clause-shows c =
    let n = node_on [] c.args.blocks (durable_of c.args.self.now) in
    let nothing = subst (λ g. IsGiven (recovery_of c.args.way.now) (find_file c.args.name.now n.durable.directory) g) c.in-None.is c.in_ok-recovered_at.ensures in
    IfOk-weaker c.one.result _ _ (λ lines shown. shown ∙ ap (λ l. l ∷ []) (loaded_nowhere n c.args.name.now (recovery_of c.args.way.now) nothing).1) c.one.ensures
