use Rattle.std.proofs.Common.{◌≡◌, arith, ap}
use Rattle.unit_laws.specs.Journal.{end_of}
use Rattle.vms_base.specs.Ids.{id_of}
use Rattle.reference_world.specs.Standing.{outcome_by}
use Rattle.reference_units.specs.Entries.{journal_of, entered}
use Rattle.reference_units.proofs.EntryLemmas.{entered_end}
use Rattle.reference_units.proofs.journal.with_settled.Goals as goal

pub without_settled-requires : goal.without_settled-requires
without_settled-requires c =
    let s = c.args.s in
    let is : end_of (journal_of c.in_ok-entered.entered) ≡ end_of (entered (id_of s.tid) (id_of s.serial) (outcome_by s.reason) s.moment.hundredths (journal_of c.args.journal)) = ap end_of c.in_ok-entered.ensures in
    let few = entered_end (id_of s.tid) (id_of s.serial) (outcome_by s.reason) s.moment.hundredths (journal_of c.args.journal) in
    omega (arith, is, few, c.requires)
