use Rattle.std.proofs.Common.{ap, ◌∙◌}
use Rattle.vms_model.specs.Times.{two_digits}
use Rattle.vms_times.specs.Times.{day_of}
use Rattle.vms_times.proofs.DigitLemmas.{written}
use Rattle.vms_times.proofs.times.write_time.Goals as goal

pub returns : goal.returns
returns c =
    rw (c.extend-5.ensures, c.push-3.ensures, c.extend-4.ensures, c.extend-3.ensures, c.push-2.ensures, c.extend-2.ensures, c.push.ensures, c.extend.ensures, c.bytes.ensures.value, c.day_digits.ensures, c.new-text.ensures)
    (written c.args.m.0 (day_of c.day_after-day.result) _ _ _ _ c.day_after-day.ensures.value c.month_name.ensures.value
    (c.two_digits-century.ensures ∙ ap two_digits c.from.ensures) (c.two_digits-year.ensures ∙ ap two_digits c.from-2.ensures) c.clock_digits.ensures)
