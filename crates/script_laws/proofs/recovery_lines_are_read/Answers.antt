use Rattle.std.proofs.Common.{refl}
use Rattle.jiff_core.specs.Calendar.{days_from_civil, day_count, days_of_years, days_of_months}
use Rattle.vms_model.specs.Times.{time_said}
use Rattle.script_laws.proofs.recovery_lines_are_read.Goals as goal

pub returns : goal.returns
unfolding time_said days_from_civil day_count days_of_years days_of_months
returns c = record {
  marked = refl;
  afters = refl;
  no_afters = refl;
  befores = refl;
  no_befores = refl;
  no_blocks = refl;
  more_blocks = refl;
  saved = refl;
  forward = refl;
  forward_until = refl;
  backward = refl;
  no_moment = refl;
  no_day = refl;
  units = refl;
  images = refl;
  named_units = refl;
  named_side = refl;
  alone = refl;
  file_alone = refl;
  file_units = refl;
}
