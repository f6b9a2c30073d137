-- Digits of small numbers.
use Rattle.std.proofs.Common.{◌≡◌, ℕ, ◌+◌, ◌/◌, ◌%◌, ◌<◌, ◌≤◌, ◌^◌, List, [], ◌∷◌, ◌++◌, ap, ◌∙◌, arith, decimal, append_assoc, ◌-◌}
use Rattle.std.proofs.lemmas.Fmt.{decimal_digit, decimal_step}
use Rattle.vms_model.specs.Times.{Day, two_digits, day_after, name_at, month_names, clock_text, time_text}

-- a number of two digits
pub decimal_two : (n : ℕ) → 10 ≤ n → n < 100 → decimal n ≡ two_digits n
decimal_two n h k =
    let wide : n < 2 ^ 64 = omega arith in
    decimal_step n h wide ∙ ap (λ ds. ds ++ ((48 + n % 10) ∷ [])) (decimal_digit (n / 10) (omega arith))

-- the parts of a moment's text, one behind the other
pub written : (moment : ℕ) (day : Day) (name century year clock : List ℕ) → day ≡ day_after (moment / 8640000) → name ≡ name_at (day.month - 1) month_names → century ≡ two_digits (day.year / 100) → year ≡ two_digits (day.year % 100) → clock ≡ clock_text (moment % 8640000)
    → ((((((decimal day.day ++ 45 ∷ []) ++ name) ++ 45 ∷ []) ++ century) ++ year) ++ 32 ∷ []) ++ clock ≡ time_text moment
unfolding time_text
written moment day name century year clock d n c y k = rw (← d, n, c, y, k) (simp append_assoc)
