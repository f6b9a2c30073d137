-- The readings of times, and the days, that the code's values are.
use Rattle.std.specs.Prelude.{Result, Ok, Err}
use Rattle.vms_model.specs.Times as model
use Rattle.vms_model.specs.Times.{TimeSaid, NoForm, NoDay, MomentSaid}
use Rattle.vms_times.specs.declared.times.CalendarDay.{CalendarDay}
use Rattle.vms_base.specs.declared.moments.Moment.{Moment}
use Rattle.vms_times.specs.declared.times.TimeErr.{TimeErr}
use Rattle.vms_times.specs.declared.times.TimeErr.TheVariants as err

abbrev pub time_of : Result Moment TimeErr → TimeSaid
time_of (Ok m) = MomentSaid m.0
time_of (Err err.Form) = NoForm
time_of (Err err.Range) = NoDay

abbrev pub day_of : CalendarDay → model.Day
day_of d = record { year = d.year; month = d.month; day = d.day }
