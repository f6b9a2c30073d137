-- What a group writes, and in which order.
use Rattle.std.proofs.Common.{◌≡◌, ◌⊎◌, ⊎_elim, ℕ, ◌<◌, ◌≤◌, ◌+◌, ◌||◌, Bool, true, false, List, [], length, Option, Some, None, option_map, IfSome, set, sym, ◌∙◌, ap, subst, arith, get_or, get_or-set_same}
use Rattle.std.proofs.lemmas.Bool.Decides.{nat_tests}
use Rattle.block_disk.specs.Blocks.{has_number, numbers_of, with_number}
use Rattle.block_disk.specs.Disk.{DiskState}
use Rattle.block_disk.proofs.Laid.{length-numbers_of}
use Rattle.careful_write.specs.Steps.{Touches}
use Rattle.careful_write.specs.Parts.{in_index, in_data, in_intents, in_gate, in_group, in_finish, written_by, HasData, DataFirst}
use Rattle.careful_write.proofs.Intents.{index_within, data_within}
use Rattle.careful_write.proofs.Touched.{touches_then, touches_wide, pending_touched, has_written, has_still}

abbrev Entry : Type 0
Entry = ℕ × List ℕ

left_holds : (a b : Bool) → a ≡ true → (a || b) ≡ true
left_holds a b on = ap (λ (x : Bool). x || b) on

right_holds : (a b : Bool) → b ≡ true → (a || b) ≡ true
right_holds true b on = λ _. true
right_holds false b on = on

pub gate_apart : (n : ℕ) → 1 ≤ n → in_gate n ≡ false
gate_apart n one = grind (arith, nat_tests)

pub data_touched : (count : ℕ) (s0 s1 : DiskState) → Touches (in_data count) s0 s1 → Touches (in_intents count) s0 s1
data_touched count s0 s1 touched = touches_wide (in_data count) (in_intents count) s0 s1 touched (λ n on. data_within count n on)

pub intents_touched : (count : ℕ) (s0 s1 s2 : DiskState) → Touches (in_data count) s0 s1 → Touches (in_index count) s1 s2 → Touches (in_intents count) s0 s2
intents_touched count s0 s1 s2 first rest = touches_then (in_intents count) (in_index count) s0 s1 s2 (data_touched count s0 s1 first) rest (λ n on. index_within count n on)

module _ (es : List Entry) where
  pub home_touched : (s0 s1 : DiskState) → Touches (in_group es) s0 s1 → Touches (in_finish es) s0 s1
  home_touched s0 s1 home = touches_wide (in_group es) (in_finish es) s0 s1 home (λ n on. right_holds (in_gate n) (in_group es n) on)

  pub finish_touched : (s0 s1 s2 : DiskState) → Touches (in_group es) s0 s1 → Touches in_gate s1 s2 → Touches (in_finish es) s0 s2
  finish_touched s0 s1 s2 home gate = touches_then (in_finish es) in_gate s0 s1 s2 (home_touched s0 s1 home) gate (λ n on. left_holds (in_gate n) (in_group es n) on)

  -- the intents are written, then the gate, and then the rest
  pub part_intents : (s0 s1 : DiskState) → Touches (in_intents (length es)) s0 s1 → Touches (written_by (numbers_of es)) s0 s1
  part_intents s0 s1 touched = touches_wide (in_intents (length es)) (written_by (numbers_of es)) s0 s1 touched
      (λ n on. right_holds (in_gate n) _ (left_holds (in_intents (length (numbers_of es)) n) (has_number n (numbers_of es)) (ap (λ (c : ℕ). in_intents c n) (length-numbers_of es) ∙ on)))

  pub part_gate : (s0 s1 s2 : DiskState) → Touches (in_intents (length es)) s0 s1 → Touches in_gate s1 s2 → Touches (written_by (numbers_of es)) s0 s2
  part_gate s0 s1 s2 touched gate = touches_then (written_by (numbers_of es)) in_gate s0 s1 s2 (part_intents s0 s1 touched) gate (λ n on. left_holds (in_gate n) _ on)

  pub part_finish : (s0 s1 s2 s3 : DiskState) → Touches (in_intents (length es)) s0 s1 → Touches in_gate s1 s2 → Touches (in_finish es) s2 s3 → Touches (written_by (numbers_of es)) s0 s3
  part_finish s0 s1 s2 s3 touched gate rest = touches_then (written_by (numbers_of es)) (in_finish es) s0 s2 s3 (part_gate s0 s1 s2 touched gate) rest (λ n on. cases n (in_gate n) refl_of on)
    where
      refl_of : {b : Bool} → b ≡ b
      refl_of {b} = λ _. b

      cases : (n : ℕ) (b : Bool) → b ≡ in_gate n → (in_gate n || in_group es n) ≡ true → written_by (numbers_of es) n ≡ true
      cases n true is on = left_holds (in_gate n) _ (sym is)
      cases n false is on = right_holds (in_gate n) _ (right_holds (in_intents (length (numbers_of es)) n) (has_number n (numbers_of es)) (ap (λ (x : Bool). x || in_group es n) is ∙ on))

  -- where the group's blocks are of the content, the index is apart from them and from the gate
  pub index_off_finish : length es ≤ 512 → ((n : ℕ) → has_number n (numbers_of es) ≡ true → 518 ≤ n) → (n : ℕ) → 1 ≤ n → n ≤ 5 → in_finish es n ≡ false
  index_off_finish few low n one five = cases (has_number n (numbers_of es)) (λ _. has_number n (numbers_of es))
    where
      cases : (b : Bool) → has_number n (numbers_of es) ≡ b → in_finish es n ≡ false
      cases false is = ap (λ (x : Bool). x || in_group es n) (gate_apart n one) ∙ is
      cases true is = let high = low n is in absurd (omega (arith, high, five))

-- blocks of the index have the numbers 1 to 5
pub index_low : (count n : ℕ) → count ≤ 512 → in_index count n ≡ true → (1 ≤ n) × (n ≤ 5)
index_low count n few on = (above count n on, below count n few on)
  where
    above : (count n : ℕ) → in_index count n ≡ true → 1 ≤ n
    above count n on = grind (arith, nat_tests)

    below : (count n : ℕ) → count ≤ 512 → in_index count n ≡ true → n ≤ 5
    below count n few on = grind (arith, nat_tests)

-- where no block of the index was written, the order holds
pub first_off : (p : ℕ → Bool) (count : ℕ) (s0 s : DiskState) → ((n : ℕ) → in_index count n ≡ true → p n ≡ false) → Touches p s0 s → s0.pending ≡ [] → DataFirst count s.pending
first_off p count s0 s off touched settled = λ n on has. absurd (pending_touched p s0 s n touched settled (off n on) has)

pub first_gate : (count : ℕ) (s0 s : DiskState) → count ≤ 512 → Touches in_gate s0 s → s0.pending ≡ [] → DataFirst count s.pending
first_gate count s0 s few touched settled = first_off in_gate count s0 s (λ n on. gate_apart n (index_low count n few on).0) touched settled

-- one block of data more is pending
pub data_more : (i : ℕ) (old new : List ℕ) → new ≡ with_number (6 + i) old → HasData i old → HasData (i + 1) new
data_more i old new is has = λ k below. ap (has_number (6 + k)) is ∙ ⊎_elim
    (λ low. has_still (6 + k) (6 + i) old (has k low))
    (λ last. ap (λ (n : ℕ). has_number n (with_number (6 + i) old)) (ap (λ (m : ℕ). 6 + m) last) ∙ has_written (6 + i) old)
    (below_or_last k i below)
  where
    below_or_last : (m n : ℕ) → m < n + 1 → (m < n) ⊎ (m ≡ n)
    below_or_last m n lt = grind arith

-- the block of the gate, once it is written
pub told_gate : (gate : List ℕ) (size : ℕ) (told new : Option (List (List ℕ))) → new ≡ option_map (λ bs. set bs 0 gate) told → IfSome told (λ b. length b ≡ size) → 0 < size → IfSome new (λ b. get_or b 0 [] ≡ gate)
told_gate gate size None new is long some = subst (λ (o : Option (List (List ℕ))). IfSome o (λ b. get_or b 0 [] ≡ gate)) (sym is) tt
told_gate gate size (Some b) new is long some = subst (λ (o : Option (List (List ℕ))). IfSome o (λ c. get_or c 0 [] ≡ gate)) (sym is) (get_or-set_same b 0 gate [] (omega (arith, long, some)))
