-- The text of a moment is read as that moment.
use Rattle.std.proofs.Common.{◌≡◌, ℕ, zero, suc, ◌+◌, ◌-◌, ◌*◌, ◌/◌, ◌%◌, ◌<◌, ◌≤◌, List, [], ◌∷◌, ◌++◌, Bool, true, false, refl, ap, ◌∙◌, arith, decimal, Some, ℤ, pos, inl, inr}
use Rattle.std.specs.Prelude.{◌==◌, not, nat_le}
use Rattle.std.specs.List.{list_all}
use Rattle.std.specs.Char.{is_ascii_digit}
use Rattle.std.proofs.lemmas.Bool.Decides.{nat_tests}
use Rattle.std.proofs.lemmas.Bool.{cases_order}
use Rattle.std.proofs.lemmas.Fmt.{decimal_digit}
use Rattle.jiff_core.specs.Calendar.{days_in_month}
use Rattle.jiff_core.proofs.CalendarLemmas.{days_in_month_bounds}
use Rattle.vms_model.specs.Words.{number_next, number_from, among, parted_at}
use Rattle.vms_model.specs.Times.{Day, two_digits, four_digits, day_text, clock_text, time_text, day_after, name_at, month_names, months, day_said, date_said, clock_said, time_said, day_number, MomentSaid, moment_at, time_from, CanBeRead}
use Rattle.vms_base.proofs.NameLemmas.{both}
use Rattle.vms_times.proofs.DigitLemmas.{decimal_two}
use Rattle.vms_times.proofs.DayLemmas.{day_after_is, early_year_of, day_number_of}

-- a byte is none of these
abbrev Lacks : ℕ → List ℕ → Type 0
Lacks mark bytes = list_all (λ b. not (b == mark)) bytes ≡ true

same : (n : ℕ) → (n == n) ≡ true
same n = grind (arith, nat_tests)

not_false : (b : Bool) → not b ≡ true → b ≡ false
not_false true h = cc
not_false false h = refl

part_front : (mark : ℕ) (front back : List ℕ) → Lacks mark front → parted_at mark (front ++ (mark ∷ back)) ≡ Some (front, back)
part_front mark [] back h = rw (same mark) refl
part_front mark (b ∷ front) back h =
    let p = both (not (b == mark)) (list_all (λ b. not (b == mark)) front) h in
    rw (not_false (b == mark) p.0, part_front mark front back p.1) refl

lacks_both : (mark : ℕ) (xs ys : List ℕ) → Lacks mark xs → Lacks mark ys → Lacks mark (xs ++ ys)
lacks_both mark [] ys h k = k
lacks_both mark (x ∷ xs) ys h k =
    let p = both (not (x == mark)) (list_all (λ b. not (b == mark)) xs) h in
    rw (p.0, lacks_both mark xs ys p.1 k) refl

-- digits are above the marks of a date, and below those of a time
digit_apart : (mark d : ℕ) → d < 10 → mark < 48 → ((48 + d) == mark) ≡ false
digit_apart mark d h k = grind (arith, nat_tests)

digit_below : (mark d : ℕ) → d < 10 → 57 < mark → ((48 + d) == mark) ≡ false
digit_below mark d h k = grind (arith, nat_tests)

two_lack : (mark n : ℕ) → n < 100 → mark < 48 → Lacks mark (two_digits n)
two_lack mark n h k = rw (digit_apart mark (n / 10) (omega arith) k, digit_apart mark (n % 10) (omega arith) k) refl

two_lack_above : (mark n : ℕ) → n < 100 → 57 < mark → Lacks mark (two_digits n)
two_lack_above mark n h k = rw (digit_below mark (n / 10) (omega arith) k, digit_below mark (n % 10) (omega arith) k) refl

-- what digits are read as
next_digit : (limit n d : ℕ) → d < 10 → n * 10 + d ≤ limit → number_next limit n (48 + d) ≡ Some (n * 10 + d)
next_digit limit n d h k =
    let digit : is_ascii_digit (48 + d) ≡ true = grind (arith, nat_tests) in
    let back : (48 + d) - 48 ≡ d = omega arith in
    let few : nat_le (n * 10 + d) limit ≡ true = grind (arith, nat_tests) in
    rw (digit, back, few) refl

two_read : (limit n : ℕ) → n < 100 → n ≤ limit → number_from limit 0 (two_digits n) ≡ Some n
two_read limit n h k =
    rw (next_digit limit 0 (n / 10) (omega arith) (omega arith), next_digit limit (0 * 10 + n / 10) (n % 10) (omega arith) (omega arith))
    (ap Some (let e : (0 * 10 + n / 10) * 10 + n % 10 ≡ n = omega arith in e))

four_read : (n : ℕ) → n ≤ 9999 → number_from 9999 0 (four_digits n) ≡ Some n
four_read n k =
    let a = n / 100 in
    let b = n % 100 in
    rw (
      next_digit 9999 0 (n / 100 / 10) (omega arith) (omega arith),
      next_digit 9999 (0 * 10 + n / 100 / 10) (n / 100 % 10) (omega arith) (omega arith),
      next_digit 9999 ((0 * 10 + n / 100 / 10) * 10 + n / 100 % 10) (n % 100 / 10) (omega arith) (omega arith),
      next_digit 9999 (((0 * 10 + n / 100 / 10) * 10 + n / 100 % 10) * 10 + n % 100 / 10) (n % 100 % 10) (omega arith) (omega arith),
    )
    (ap Some (let e : (((0 * 10 + n / 100 / 10) * 10 + n / 100 % 10) * 10 + n % 100 / 10) * 10 + n % 100 % 10 ≡ n = omega arith in e))

-- what holds of the text of a day of the month
record DayReads (day : ℕ) : Type 0 where
  space : Lacks 32 (decimal day)
  dash : Lacks 45 (decimal day)
  reads : day_said (decimal day) ≡ Some day

two_digit_day : (day : ℕ) → 10 ≤ day → day ≤ 31 → DayReads day
two_digit_day day h k =
    let e = decimal_two day h (omega arith) in
    record { space = rw e (two_lack 32 day (omega arith) (omega arith)); dash = rw e (two_lack 45 day (omega arith) (omega arith)); reads = rw e (two_read 99 day (omega arith) (omega arith)) }

day_reads : (day : ℕ) → day ≤ 31 → DayReads day
day_reads day h = elim (cases_order day 10) [
  | inr (inr gt) ↦ two_digit_day day (omega arith) h
  | inl is ↦ two_digit_day day (omega arith) h
  | inr (inl lt) ↦ let e = decimal_digit day lt in
      record { space = rw (e, digit_apart 32 day (omega arith) (omega arith)) refl; dash = rw (e, digit_apart 45 day (omega arith) (omega arith)) refl; reads = rw (e, next_digit 99 0 day (omega arith) (omega arith)) (ap Some (let k : 0 * 10 + day ≡ day = omega arith in k)) }
]

-- and of a month's name
record MonthReads (month : ℕ) : Type 0 where
  space : Lacks 32 (name_at (month - 1) month_names)
  dash : Lacks 45 (name_at (month - 1) month_names)
  reads : among months (name_at (month - 1) month_names) ≡ Some month

month_reads : (month : ℕ) → 1 ≤ month → month ≤ 12 → MonthReads month
month_reads zero h k = absurd (omega arith)
month_reads (suc zero) h k = record { space = refl; dash = refl; reads = refl }
month_reads (suc (suc zero)) h k = record { space = refl; dash = refl; reads = refl }
month_reads (suc (suc (suc zero))) h k = record { space = refl; dash = refl; reads = refl }
month_reads (suc (suc (suc (suc zero)))) h k = record { space = refl; dash = refl; reads = refl }
month_reads (suc (suc (suc (suc (suc zero))))) h k = record { space = refl; dash = refl; reads = refl }
month_reads (suc (suc (suc (suc (suc (suc zero)))))) h k = record { space = refl; dash = refl; reads = refl }
month_reads (suc (suc (suc (suc (suc (suc (suc zero))))))) h k = record { space = refl; dash = refl; reads = refl }
month_reads (suc (suc (suc (suc (suc (suc (suc (suc zero)))))))) h k = record { space = refl; dash = refl; reads = refl }
month_reads (suc (suc (suc (suc (suc (suc (suc (suc (suc zero))))))))) h k = record { space = refl; dash = refl; reads = refl }
month_reads (suc (suc (suc (suc (suc (suc (suc (suc (suc (suc zero)))))))))) h k = record { space = refl; dash = refl; reads = refl }
month_reads (suc (suc (suc (suc (suc (suc (suc (suc (suc (suc (suc zero))))))))))) h k = record { space = refl; dash = refl; reads = refl }
month_reads (suc (suc (suc (suc (suc (suc (suc (suc (suc (suc (suc (suc zero)))))))))))) h k = record { space = refl; dash = refl; reads = refl }
month_reads (suc (suc (suc (suc (suc (suc (suc (suc (suc (suc (suc (suc (suc n))))))))))))) h k = absurd (omega arith)

date_read : (d : Day) → DayReads d.day → MonthReads d.month → d.year ≤ 9999 → date_said (day_text d) ≡ Some (d.year, d.month, d.day)
date_read d day month year =
    rw (
      part_front 45 (decimal d.day) (name_at (d.month - 1) month_names ++ (45 ∷ four_digits d.year)) day.dash,
      part_front 45 (name_at (d.month - 1) month_names) (four_digits d.year) month.dash,
      day.reads,
      month.reads,
      four_read d.year year,
    ) refl

date_lacks : (d : Day) → DayReads d.day → MonthReads d.month → d.year ≤ 9999 → Lacks 32 (day_text d)
date_lacks d day month year =
    lacks_both 32 (decimal d.day) _ day.space
    (lacks_both 32 (name_at (d.month - 1) month_names) _ month.space
    (lacks_both 32 (two_digits (d.year / 100)) (two_digits (d.year % 100)) (two_lack 32 (d.year / 100) (omega arith) (omega arith)) (two_lack 32 (d.year % 100) (omega arith) (omega arith))))

clock_sum : (t : ℕ) → ((t / 360000 * 60 + t / 6000 % 60) * 60 + t / 100 % 60) * 100 + t % 100 ≡ t
clock_sum t = omega arith

clock_read : (t : ℕ) → t < 8640000 → clock_said (clock_text t) ≡ Some t
clock_read t h =
    rw (
      part_front 58 (two_digits (t / 360000)) (two_digits (t / 6000 % 60) ++ (58 ∷ (two_digits (t / 100 % 60) ++ (46 ∷ two_digits (t % 100))))) (two_lack_above 58 (t / 360000) (omega arith) (omega arith)),
      part_front 58 (two_digits (t / 6000 % 60)) (two_digits (t / 100 % 60) ++ (46 ∷ two_digits (t % 100))) (two_lack_above 58 (t / 6000 % 60) (omega arith) (omega arith)),
      part_front 46 (two_digits (t / 100 % 60)) (two_digits (t % 100)) (two_lack 46 (t / 100 % 60) (omega arith) (omega arith)),
      two_read 23 (t / 360000) (omega arith) (omega arith),
      two_read 59 (t / 6000 % 60) (omega arith) (omega arith),
      two_read 59 (t / 100 % 60) (omega arith) (omega arith),
      two_read 99 (t % 100) (omega arith) (omega arith),
    )
    (ap Some (clock_sum t))

said_from : (text front back : List ℕ) → parted_at 32 text ≡ Some (front, back) → time_said text ≡ time_from (date_said front) (clock_said back)
unfolding time_said
said_from text front back e = rw (e, time_said) refl

parts_read : (d : Day) (t : ℕ) → DayReads d.day → MonthReads d.month → d.year ≤ 9999 → t < 8640000 → time_said (day_text d ++ (32 ∷ clock_text t)) ≡ moment_at (day_number d.year d.month d.day) t
parts_read d t day month year h =
    said_from (day_text d ++ (32 ∷ clock_text t)) (day_text d) (clock_text t) (part_front 32 (day_text d) (clock_text t) (date_lacks d day month year))
    ∙ ap (λ date. time_from date (clock_said (clock_text t))) (date_read d day month year)
    ∙ ap (λ clock. time_from (Some (d.year, d.month, d.day)) clock) (clock_read t h)

month_short : (y : ℤ) (m d : ℕ) → d ≤ days_in_month y m → d ≤ 31
month_short y m d h = let b = days_in_month_bounds y m in omega arith

pub written_is_read : (moment : ℕ) → CanBeRead moment → time_said (time_text moment) ≡ MomentSaid moment
unfolding time_text
written_is_read moment h =
    let d = day_after (moment / 8640000) in
    let is = day_after_is (moment / 8640000) in
    let y = early_year_of (moment / 8640000) (day_after (moment / 8640000)) is (omega arith) in
    let day = day_reads (day_after (moment / 8640000)).day (month_short (pos (day_after (moment / 8640000)).year) (day_after (moment / 8640000)).month _ is.day_high) in
    let month = month_reads (day_after (moment / 8640000)).month is.month_low is.month_high in
    parts_read (day_after (moment / 8640000)) (moment % 8640000) day month (omega arith) (omega arith)
    ∙ rw (day_number_of (moment / 8640000) (day_after (moment / 8640000)) is y) (ap MomentSaid (let e : moment / 8640000 * 8640000 + moment % 8640000 ≡ moment = omega arith in e))
