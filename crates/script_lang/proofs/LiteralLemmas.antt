-- Bytes that a word says, one byte further.
use Rattle.std.proofs.Common.{◌≡◌, ◌≢◌, ℕ, ◌+◌, ◌-◌, ◌<◌, ◌≤◌, List, [], ◌∷◌, ◌++◌, true, false, refl, ap, sym, ◌∙◌, length, take, drop, get_or, length-append, length-drop, arith, append_assoc, Option, Some, None}
use Rattle.std.proofs.lemmas.List.{take_all, length-take}
use Rattle.std.specs.Prelude.{◌==◌}
use Rattle.std.specs.Option.{option_map}
use Rattle.vms_base.specs.vms_model.Texts.{is_plain}
use Rattle.script_model.specs.Operands.{to_quote, hex_said, hex_value, hex_pairs, with_front}
use Rattle.script_lang.proofs.PartingLemmas.{head_is}

not_this : (b n : ℕ) → b ≢ n → (b == n) ≡ false
not_this b n h = grind arith

onto_front : (self : List ℕ) (b : ℕ) (o : Option (List ℕ)) → option_map (λ r. self ++ r) (option_map (λ r. b ∷ r) o) ≡ option_map (λ r. (self ++ b ∷ []) ++ r) o
onto_front self b None = refl
onto_front self b (Some r) = ap Some (sym (append_assoc self (b ∷ []) r))

front_is_map : (b : ℕ) (o : Option (List ℕ)) → with_front (Some b) o ≡ option_map (λ r. b ∷ r) o
front_is_map b None = refl
front_is_map b (Some r) = refl

pub onto_nothing : (self : List ℕ) (o : Option (List ℕ)) → self ≡ [] → o ≡ option_map (λ r. self ++ r) o
onto_nothing self None e = refl
onto_nothing self (Some r) e = rw e refl

quote_step : (b : ℕ) (bytes : List ℕ) → b ≢ 34 → is_plain b ≡ true → to_quote (b ∷ bytes) ≡ option_map (λ r. b ∷ r) (to_quote bytes)
quote_step b bytes h p = rw (p, not_this b 34 h) refl

pub quoted_more : (text self new : List ℕ) (i b : ℕ) → i < length text → get_or text i 0 ≡ b → b ≢ 34 → is_plain b ≡ true → new ≡ self ++ b ∷ [] → to_quote text ≡ option_map (λ rest. self ++ rest) (to_quote (drop i text)) → to_quote text ≡ option_map (λ rest. new ++ rest) (to_quote (drop (i + 1) text))
quoted_more text self new i b h e n p s w =
    w ∙ ap (λ d. option_map (λ rest. self ++ rest) (to_quote d)) (head_is text i b h e)
    ∙ ap (λ o. option_map (λ rest. self ++ rest) o) (quote_step b (drop (i + 1) text) n p)
    ∙ onto_front self b (to_quote (drop (i + 1) text))
    ∙ ap (λ s. option_map (λ rest. s ++ rest) (to_quote (drop (i + 1) text))) (sym s)

pub hex_more : (text rest more self new : List ℕ) (b : ℕ) → 2 ≤ length rest → hex_said (hex_value (get_or rest 0 0)) (hex_value (get_or rest 1 0)) ≡ Some b → more ≡ take (length rest - 2) (drop 2 rest) → new ≡ self ++ b ∷ [] → hex_pairs text ≡ option_map (λ r. self ++ r) (hex_pairs rest) → hex_pairs text ≡ option_map (λ r. new ++ r) (hex_pairs more)
hex_more text [] more self new b h e m s w = absurd (omega arith)
hex_more text (x ∷ []) more self new b h e m s w = absurd (omega arith)
hex_more text (x ∷ y ∷ bytes) more self new b h e m s w =
    let k : more ≡ bytes = m ∙ take_all _ _ (omega arith) in
    w ∙ ap (λ o. option_map (λ r. self ++ r) (with_front o (hex_pairs bytes))) e
    ∙ ap (λ o. option_map (λ r. self ++ r) o) (front_is_map b (hex_pairs bytes))
    ∙ onto_front self b (hex_pairs bytes)
    ∙ rw (s, k) refl

pub hex_few : (rest self new : List ℕ) (b n : ℕ) → 2 ≤ length rest → new ≡ self ++ b ∷ [] → length self + length rest ≤ 20000 → length new + length (take n (drop 2 rest)) ≤ 20000
hex_few rest self new b n h s w = rw s (simp (length-append, length-take, length-drop) (omega arith))
