use Rattle.std.proofs.Common.{arith, sym}
use Rattle.std.proofs.lemmas.Fmt.{decimal_digit}
use Rattle.vms_times.proofs.DigitLemmas.{decimal_two}
use Rattle.vms_times.proofs.times.day_digits.Goals as goal

pub returns-then-day-lt10 : goal.returns-then-day-lt10
returns-then-day-lt10 c = rw (c.from_slice.ensures, c.digit.ensures, c.from-day.ensures) (sym (decimal_digit c.args.day (omega arith)))

pub returns-else-day-lt10 : goal.returns-else-day-lt10
returns-else-day-lt10 c = rw (c.from_slice-else-day-lt10.ensures, c.two_digits.ensures, c.from-day.ensures) (sym (decimal_two c.args.day (omega arith) (omega arith)))
