use Rattle.std.proofs.Common.{arith, FitsSigned, w16, refl}
use Rattle.std.proofs.lemmas.Int.{to_z-of_z}
use Rattle.jiff_core.proofs.SignedLemmas.{signed_arith}
use Rattle.vms_model.specs.Times.{day_after as day_after_of}
use Rattle.vms_times.proofs.DayLemmas.{date_is, day_after_is, year_of}
use Rattle.vms_times.proofs.times.day_after.Goals as goal

pub overflow_cast-result : goal.overflow_cast-result
overflow_cast-result c =
    let d = date_is c.args.days c.from_days_since_min-date.result c.requires c.from_days_since_min-date.ensures in
    let y = year_of c.args.days (day_after_of c.args.days) (day_after_is c.args.days) c.requires in
    let f : FitsSigned w16 c.from_days_since_min-date.result.year = omega (arith, signed_arith, d.0) in
    simp to_z-of_z (rw d.0 (tt, omega arith))

pub returns-clause-value : goal.returns-clause-value
returns-clause-value c =
    let d = date_is c.args.days c.from_days_since_min-date.result c.requires c.from_days_since_min-date.ensures in
    let y = year_of c.args.days (day_after_of c.args.days) (day_after_is c.args.days) c.requires in
    let f : FitsSigned w16 c.from_days_since_min-date.result.year = omega (arith, signed_arith, d.0) in
    simp to_z-of_z (rw (d.0, d.1, d.2) refl)
