use Rattle.std.proofs.Common.{◌≡◌, [], ◌∷◌, ap, arith, length, sym, ◌∙◌}
use Rattle.std.specs.Prelude.{vec_len}
use Rattle.reference_index.specs.transcript_model.Lines as model
use Rattle.reference_index.specs.run_model.World.{find_file}
use Rattle.script_lang.specs.Statements.{recovery_of}
use Rattle.reference_disk.specs.Disks.{durable_of, node_on}
use Rattle.reference_disk.proofs.MarkLemmas.{given_rows, loaded_from}
use Rattle.reference_disk.proofs.disk.Durable.load_in.Goals as goal

pub with_change-requires : goal.with_change-requires
with_change-requires c = given_rows (recovery_of c.args.way.now) (find_file c.args.name.now (durable_of c.args.self.now).directory) c.args.given c.requires.given

pub returns-clause-recovers : goal.returns-clause-recovers
returns-clause-recovers c =
    let n = node_on [] c.args.blocks (durable_of c.args.self.now) in
    c.in_ok-with_change.ensures ∙ sym (loaded_from n c.args.name.now (recovery_of c.args.way.now) c.args.given c.start_for-start.result c.requires.given c.start_for-start.ensures).disk

pub returns-clause-shows : goal.returns-clause-shows
returns-clause-shows c =
    let rows = c.args.given.rows in
    let len : length rows.items ≡ vec_len rows = omega (arith, rows.ok.0) in
    let n = node_on [] c.args.blocks (durable_of c.args.self.now) in
    c.in_ok-lines.ensures ∙ ap (λ k. model.NormalCount k ∷ []) (c.len.ensures ∙ sym len) ∙ ap (λ l. l ∷ []) (sym (loaded_from n c.args.name.now (recovery_of c.args.way.now) c.args.given c.start_for-start.result c.requires.given c.start_for-start.ensures).told)
