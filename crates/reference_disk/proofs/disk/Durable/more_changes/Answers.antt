use Rattle.std.proofs.Common.{◌≡◌, ap, ◌∙◌, sym, length, ◌+◌}
use Rattle.std.specs.Prelude.{nat_lt}
use Rattle.std.proofs.lemmas.List.{length-map}
use Rattle.reference_index.specs.transcript_model.Lines as model
use Rattle.reference_index.specs.unit_laws.Journal.{units_in}
use Rattle.reference_index.specs.run_model.Operations.{refused_if}
use Rattle.reference_index.specs.run_model.World.{changes_made}
use Rattle.vms_base.specs.Ids.{id_of}
use Rattle.reference_index.specs.Standing.{change_of}
use Rattle.reference_units.specs.Entries.{entries_of, journal_of, units_of}
use Rattle.reference_disk.proofs.disk.Durable.more_changes.Goals as goal

pub returns : goal.returns
returns c =
    let serial = id_of c.args.branch.now.serial in
    let units = journal_of c.args.self.now.units in
    let told : units_of c.as_slice-2.result.now ≡ units_in (entries_of c.args.self.now.units.entries.items) =
    ap units_of c.as_slice-2.ensures.value ∙ c.in_ok-units.ensures.units ∙ ap (λ es. units_in (entries_of es)) c.as_slice.ensures.value in
    let made : c.changes_made-made.result ≡ changes_made serial units = c.changes_made-made.ensures.changes units told in
    let count = length-map c.args.changes.now change_of in
    c.refused_if.ensures ∙ ap (λ n. refused_if (nat_lt 1024 (n + length c.args.changes.now)) (model.QuotaExceeded model.Changes 1024)) made
    ∙ ap (λ n. refused_if (nat_lt 1024 (changes_made serial units + n)) (model.QuotaExceeded model.Changes 1024)) (sym count)
