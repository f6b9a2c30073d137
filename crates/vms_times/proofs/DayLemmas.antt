-- Days counted off by years and months are those of the calendar.
use Rattle.std.proofs.Common.{◌≡◌, ℕ, zero, suc, ◌+◌, ◌-◌, ◌*◌, ◌<◌, ◌≤◌, Bool, true, false, refl, arith, pos, ◌+ℤ◌, nat_lt, inl, inr, Some}
use Rattle.std.specs.Prelude.{if◌then◌else◌, nat_le}
use Rattle.std.proofs.lemmas.Bool.{cases_order}
use Rattle.std.proofs.lemmas.Bool.Decides.{nat_tests}
use Rattle.jiff_core.specs.declared.civil.date.Date.{Date}
use Rattle.jiff_core.specs.Calendar.{day_count, days_from_civil, days_in_month, days_in_year, days_of_months}
use Rattle.jiff_core.specs.Date.{epoch_day}
use Rattle.jiff_core.proofs.SignedLemmas.{signed_arith}
use Rattle.jiff_core.proofs.MarchLemmas.{day_count-early}
use Rattle.jiff_core.proofs.CalendarLemmas.{days_from_civil-day_count, day_count-day_of_year, day_count-next_year, day_count-later_year, day_count-end, days_in_year_bounds, days_of_months_more, days_of_months_all, days_of_months-zero}
use Rattle.jiff_core.proofs.DateLemmas.{epoch_day_injective}
use Rattle.vms_model.specs.Times.{Day, year_reached, month_reached, day_after, day_number}

-- r is a year and the days that are left of it, so many days after another year and its days left
record IsReached (year left : ℕ) (r : ℕ × ℕ) : Type 0 where
  counted : day_count (pos r.0) 1 1 + r.1 ≡ day_count (pos year) 1 1 + left
  within : r.1 < days_in_year (pos r.0)

year_by : (b : Bool) (year left : ℕ) (later : ℕ × ℕ) → nat_lt left (days_in_year (pos year)) ≡ b → (days_in_year (pos year) ≤ left → IsReached (year + 1) (left - days_in_year (pos year)) later) → IsReached year left (if b then (year, left) else later)
year_by true year left later h next = record { counted = refl; within = grind (arith, nat_tests) }
year_by false year left later h next =
    let over : days_in_year (pos year) ≤ left = grind (arith, nat_tests) in
    let r = next over in
    let e = day_count-next_year (pos year) (pos (year + 1)) (omega (arith, signed_arith)) (omega (arith, signed_arith)) in
    record { counted = omega (arith, r.counted); within = r.within }

year_reached_is : (more year left : ℕ) → left < 365 * (more + 1) → IsReached year left (year_reached more year left)
year_reached_is zero year left h = let b = days_in_year_bounds (pos year) in record { counted = refl; within = omega arith }
year_reached_is (suc more) year left h = year_by _ year left _ refl (λ over. let b = days_in_year_bounds (pos year) in year_reached_is more (year + 1) (left - days_in_year (pos year)) (omega arith))

-- d is a day of this year, so many days after the first of a month
record IsDayIn (year month left : ℕ) (d : Day) : Type 0 where
  year_is : d.year ≡ year
  month_low : 1 ≤ d.month
  month_high : d.month ≤ 12
  day_low : 1 ≤ d.day
  day_high : d.day ≤ days_in_month (pos year) d.month
  counted : days_of_months (pos year) (d.month - 1) + d.day ≡ days_of_months (pos year) (month - 1) + left + 1

month_by : (b : Bool) (year month left : ℕ) (later : Day) → 1 ≤ month → month ≤ 12 → nat_lt left (days_in_month (pos year) month) ≡ b → (days_in_month (pos year) month ≤ left → IsDayIn year (month + 1) (left - days_in_month (pos year) month) later) → IsDayIn year month left (if b then record { year = year; month = month; day = left + 1 } else later)
month_by true year month left later low high h next =
    let in_month : left < days_in_month (pos year) month = grind (arith, nat_tests) in
    record { year_is = refl; month_low = low; month_high = high; day_low = omega arith; day_high = omega arith; counted = omega arith }
month_by false year month left later low high h next =
    let over : days_in_month (pos year) month ≤ left = grind (arith, nat_tests) in
    let r = next over in
    let back : month + 1 - 1 ≡ month = omega arith in
    let c = rw back at r.counted in
    record { year_is = r.year_is; month_low = r.month_low; month_high = r.month_high; day_low = r.day_low; day_high = r.day_high; counted = omega (arith, c, days_of_months_more (pos year) month low) }

month_reached_is : (more year month left : ℕ) → 1 ≤ month → month + more ≡ 12 → days_of_months (pos year) (month - 1) + left < days_of_months (pos year) 12 → IsDayIn year month left (month_reached more year month left)
month_reached_is zero year month left low sum h =
    let last : month ≡ 12 = omega arith in
    let h12 = rw last at h in
    let in_month : left < days_in_month (pos year) 12 = omega (arith, h12, days_of_months_more (pos year) 12 (omega arith)) in
    record { year_is = refl; month_low = low; month_high = omega arith; day_low = omega arith; day_high = rw last (omega arith); counted = omega arith }
month_reached_is (suc more) year month left low sum h =
    month_by _ year month left _ low (omega arith) refl (λ over.
    let back : month + 1 - 1 ≡ month = omega arith in
    month_reached_is more year (month + 1) (left - days_in_month (pos year) month) (omega arith) (omega arith) (rw back (omega (arith, days_of_months_more (pos year) month low))))

-- d is a day of the calendar, so many days after 17-NOV-1858
pub record IsDayAfter (days : ℕ) (d : Day) : Type 0 where
  pub month_low : 1 ≤ d.month
  pub month_high : d.month ≤ 12
  pub day_low : 1 ≤ d.day
  pub day_high : d.day ≤ days_in_month (pos d.year) d.month
  pub counted : day_count (pos d.year) d.month d.day ≡ days + 4331366

day_count-1858 : day_count (pos 1858) 1 1 ≡ 4331046
day_count-1858 = day_count-early (pos 1858) 11857 1 1 refl (omega arith) (omega arith) (omega arith)

day_from : (days year left : ℕ) (d : Day) → day_count (pos year) 1 1 + left ≡ days + 4331366 → IsDayIn year 1 left d → IsDayAfter days d
day_from days year left d e m =
    let high = rw (← m.year_is) at m.day_high in
    let c = rw (← m.year_is) at m.counted in
    let f = rw (← m.year_is) at e in
    record { month_low = m.month_low; month_high = m.month_high; day_low = m.day_low; day_high = high; counted = omega (arith, c, f, days_of_months-zero (pos d.year), day_count-day_of_year (pos d.year) d.month d.day m.day_low) }

pub day_after_is : (days : ℕ) → IsDayAfter days (day_after days)
unfolding day_after
day_after_is days =
    let y = year_reached_is days 1858 (days + 320) (omega arith) in
    let all = days_of_months_all (pos (year_reached days 1858 (days + 320)).0) in
    let first = days_of_months-zero (pos (year_reached days 1858 (days + 320)).0) in
    day_from days _ _ _ (omega (arith, y.counted, day_count-1858)) (month_reached_is 11 (year_reached days 1858 (days + 320)).0 1 (year_reached days 1858 (days + 320)).1 (omega arith) refl (omega (arith, y.within)))

-- a day before the first of a year is in an earlier one
year_below : (days top count : ℕ) (d : Day) → IsDayAfter days d → day_count (pos top) 1 1 ≡ count → days + 4331366 < count → d.year < top
year_below days top count d h first few =
    elim (cases_order d.year top) [
      | inr (inl lt) ↦ lt
      | inl same ↦ let c = rw same at h.counted in absurd (omega (arith, c, first, day_count-day_of_year (pos top) d.month d.day h.day_low))
      | inr (inr gt) ↦ absurd (omega (arith, h.counted, first, day_count-later_year (pos top) (pos d.year) (omega (arith, signed_arith)) (omega (arith, signed_arith)), day_count-day_of_year (pos d.year) d.month d.day h.day_low))
    ]

-- up to 31-DEC-9999
pub year_of : (days : ℕ) (d : Day) → IsDayAfter days d → days < 2973484 → d.year ≤ 9999
year_of days d h few = let y = year_below days 10000 7304850 d h day_count-end (omega arith) in omega arith

-- up to 31-DEC-8999
pub early_year_of : (days : ℕ) (d : Day) → IsDayAfter days d → days < 2608242 → d.year ≤ 8999
early_year_of days d h few = let y = year_below days 9000 6939608 d h (day_count-early (pos 9000) 18999 1 1 refl (omega arith) (omega arith) (omega arith)) (omega arith) in omega arith

below : (a b : ℕ) → a ≤ b → nat_le a b ≡ true
below a b h = grind (arith, nat_tests)

-- the number of a day
pub day_number_of : (days : ℕ) (d : Day) → IsDayAfter days d → d.year ≤ 8999 → day_number d.year d.month d.day ≡ Some days
day_number_of days d h y =
    let a : nat_le 1 d.day ≡ true = grind (arith, nat_tests, h.day_low) in
    let b : nat_le d.day (days_in_month (pos d.year) d.month) ≡ true = below _ _ h.day_high in
    let c : nat_le d.year 8999 ≡ true = grind (arith, nat_tests) in
    let n = days_from_civil-day_count (pos d.year) d.month d.day in
    let e : days_from_civil (pos d.year) d.month d.day +ℤ pos 40587 ≡ pos days = omega (arith, signed_arith, n, h.counted) in
    rw (a, b, c, e) refl

date_of : (days : ℕ) (d : Day) → IsDayAfter days d → d.year ≤ 9999 → Date
date_of days d h y = record { year = pos d.year; month = d.month; day = d.day; year_in = omega (arith, signed_arith); month_in = (h.month_low, h.month_high); day_in = (h.day_low, h.day_high) }

-- the calendar's date with the same count is this day
pub date_is : (days : ℕ) (date : Date) → days < 2973484 → epoch_day date +ℤ pos 4371587 ≡ pos (days + 4331000) → (date.year ≡ pos (day_after days).year) × (date.month ≡ (day_after days).month) × (date.day ≡ (day_after days).day)
unfolding date_of
date_is days date few e =
    let h = day_after_is days in
    let y = year_of days (day_after days) h few in
    let n = days_from_civil-day_count (pos (day_after days).year) (day_after days).month (day_after days).day in
    epoch_day_injective date (date_of days (day_after days) h y) (omega (arith, signed_arith, n, h.counted))
