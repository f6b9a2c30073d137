-- Parts of slots, and the place at which they are parted.
use Rattle.std.proofs.Common.{◌≡◌, ℕ, suc, List, Bool, true, false, Option, Some, None, refl, sym, ◌∙◌, ap, arith, length, drop}
use Rattle.std.specs.Prelude.{◌-◌, take, option_map, if◌then◌else◌, nat_lt, nat_le, IfSome}
use Rattle.std.proofs.lemmas.List.{take-map, drop-map}
use Rattle.std.proofs.lemmas.Grind.{common_steps}
use Rattle.run_model.specs.records_model.Slots as model
use Rattle.run_model.specs.records_model.Slots.{tidied, put}
use Rattle.run_model.specs.records_model.Parts.{bytes_of, fits_at, best_below, greater_part, better, parted}
use Rattle.run_model.specs.records_model.Chain.{bucket_with, place_of}
use Rattle.reference_index.specs.declared.parts.Place.{Place}
use Rattle.reference_index.specs.declared.layouts.Slot.{Slot}
use Rattle.reference_index.specs.Standing.{slot_of, slots_of}

pub front_slots : (n : ℕ) (xs : List Slot) → slots_of (take n xs) ≡ take n (slots_of xs)
front_slots n xs = sym (take-map slot_of n xs)

whole : (n : ℕ) (xs : List Slot) → take (length xs - n) (drop n xs) ≡ drop n xs
whole n xs = grind (arith, common_steps)

pub behind_slots : (n : ℕ) (xs : List Slot) → slots_of (take (length xs - n) (drop n xs)) ≡ drop n (slots_of xs)
behind_slots n xs = ap slots_of (whole n xs) ∙ sym (drop-map slot_of n xs)

step : (cap j : ℕ) (slots : List model.Slot) (lower : Option ℕ) → fits_at cap slots j ≡ true → lower ≡ best_below cap slots j → best_below cap slots (suc j) ≡ better slots lower j
step cap j slots lower fits e = rw (fits, e) refl

picked : (b : Bool) (x y : Place) → Some ((if b then x else y).at) ≡ (if b then Some x.at else Some y.at)
picked true x y = refl
picked false x y = refl

-- the better of a place that fits and the best below it
pub best_with : (cap j : ℕ) (slots : List model.Slot) (lower : Option Place) (higher result : Place) → higher.at ≡ j → fits_at cap slots j ≡ true → option_map (λ p. p.at) lower ≡ best_below cap slots j →
    IfSome lower (λ p. p.greater ≡ greater_part slots p.at) → higher.greater ≡ greater_part slots j →
    IfSome lower (λ p. result ≡ (if nat_lt higher.greater p.greater then higher else p)) → (lower ≡ None → result ≡ higher) → Some result.at ≡ best_below cap slots (suc j)
best_with cap j slots None higher result at fits below lowers g two one = ap Some (ap (λ p. p.at) (one refl) ∙ at) ∙ sym (step cap j slots None fits below)
best_with cap j slots (Some p) higher result at fits below lowers g two one =
    ap (λ r. Some r.at) two ∙ picked (nat_lt higher.greater p.greater) higher p ∙ (rw (at, g, lowers) refl) ∙ sym (step cap j slots (Some p.at) fits below)

-- a bucket in which a key does not fit is tidied and parted
pub bucket_parted : (cap : ℕ) (held : List ℕ → Bool) (k : List ℕ) (v : Option (List ℕ)) (slots : List model.Slot) → nat_le (bytes_of (put k v slots)) cap ≡ false →
    parted cap (place_of k (put k v (tidied held slots))) (put k v (tidied held slots)) ≡ bucket_with cap held k v slots
bucket_parted cap held k v slots e = rw e refl
