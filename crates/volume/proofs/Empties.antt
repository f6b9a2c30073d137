-- Blocks written to a disk.
use Rattle.std.proofs.Common.{◌≡◌, inl, inr, ℕ, ◌+◌, ◌<◌, ◌≤◌, List, [], ◌∷◌, Bool, true, false, Option, Some, None, IfSome, OnOk, OnErr, Result, Ok, Err, length, get_or, set, replicate, refl, sym, ap, subst, ◌∙◌, arith, option_map}
use Rattle.std.specs.Prelude.{◌==◌}
use Rattle.std.proofs.lemmas.Bool.{cases_eq}
use Rattle.std.proofs.lemmas.Bool.Decides.{nat_tests}
use Rattle.std.proofs.lemmas.List.{get_or-set_same, get_or-set_other, get_or-drop}
use Rattle.careful_write.specs.block_disk.Blocks.{IsWhole, block_at, with_number}
use Rattle.careful_write.specs.block_disk.Disk.{DiskState, put, settled, answered}
use Rattle.careful_write.specs.block_disk.declared.disk.DiskErr.{DiskErr}
use Rattle.careful_write.specs.Content.{content_of, gate_open, gate_block, home}
use Rattle.careful_write.specs.Steps.{Quiet, Touches}
use Rattle.careful_write.specs.Parts.{in_gate}
use Rattle.careful_write.proofs.Touched.{told_put, touches_same, touches_settled, touches_then, touches_wide}
use Rattle.volume_format.specs.declared.home.Home.{Home}
use Rattle.volume_format.specs.Home.{home_block_of}
use Rattle.volume.specs.Empty.{IsEmptyVolume, ZerosTo, is_formatted, is_zeroed}

abbrev Blocks : Type 0
Blocks = List (List ℕ)

zeros_set : (bs : Blocks) (n : ℕ) (b : List ℕ) → b ≡ replicate {A = ℕ} 512 0 → n < length bs → ZerosTo n bs → ZerosTo (n + 1) (set bs n b)
zeros_set bs n b is within zeros k from to =
    elim (cases_eq k n) [
      | inl same ↦ ap (block_at (set bs n b)) same ∙ get_or-set_same bs n b [] within ∙ is
      | inr other ↦ get_or-set_other bs n k b [] other ∙ zeros k from (omega arith)
    ]

zeros_told : (told : Option Blocks) (n size : ℕ) (b : List ℕ) → b ≡ replicate {A = ℕ} 512 0 → n < size → IfSome told (IsWhole size) → IfSome told (ZerosTo n) → IfSome (option_map (λ bs. set bs n b) told) (ZerosTo (n + 1))
zeros_told None n size b is within whole zeros = tt
zeros_told (Some bs) n size b is within whole zeros = let long = whole.count in zeros_set bs n b is (omega arith) zeros

pub zeros_put : (s new : DiskState) (n : ℕ) (b : List ℕ) → new ≡ put n b s → b ≡ replicate {A = ℕ} 512 0 → n < s.size → IfSome s.seen (IsWhole s.size) → IfSome s.seen (ZerosTo n) → IfSome new.seen (ZerosTo (n + 1))
zeros_put s new n b is zero within whole zeros =
    subst (λ (t : DiskState). IfSome t.seen (ZerosTo (n + 1))) (sym is) (zeros_told s.seen n s.size b zero within whole zeros)

gate_set : (bs : Blocks) (n : ℕ) (b : List ℕ) → 1 ≤ n → gate_open bs ≡ false → gate_open (set bs n b) ≡ false
gate_set bs n b some closed = ap (λ x. get_or x 0 0 == 1) (get_or-set_other bs n 0 b [] (λ is. absurd (omega arith))) ∙ closed

number_step : (n m : ℕ) (ms : List ℕ) → length (with_number n ms) ≤ length ms + 1 → length (with_number n (m ∷ ms)) ≤ length (m ∷ ms) + 1
number_step n m ms later = grind (arith, nat_tests)

length-with_number : (n : ℕ) (ms : List ℕ) → length (with_number n ms) ≤ length ms + 1
length-with_number n [] = omega arith
length-with_number n (m ∷ ms) = number_step n m ms (length-with_number n ms)

pub pending_put : (s new : DiskState) (n : ℕ) (b : List ℕ) → new ≡ put n b s → length new.pending ≤ length s.pending + 1
pending_put s new n b is = subst (λ (t : DiskState). length t.pending ≤ length s.pending + 1) (sym is) (length-with_number n s.pending)

pub quiet_put : (s0 s new : DiskState) (n : ℕ) (b : List ℕ) → Quiet s0 s → new ≡ put n b s → Quiet s0 new
quiet_put s0 s new n b quiet is = subst (λ (t : DiskState). Quiet s0 t) (sym is) (record { size = quiet.size; calls = quiet.calls; faults = quiet.faults; stops = quiet.stops; told = told_put n b s ∙ quiet.told })

-- the gate's block is not written with other blocks
gate_told : (told : Option Blocks) (n : ℕ) (b : List ℕ) → 1 ≤ n → IfSome told (λ bs. block_at bs 0 ≡ gate_block 0) → IfSome (option_map (λ bs. set bs n b) told) (λ bs. block_at bs 0 ≡ gate_block 0)
gate_told None n b some gate = tt
gate_told (Some bs) n b some gate = get_or-set_other bs n 0 b [] (λ is. absurd (omega arith)) ∙ gate

pub gate_put : (s new : DiskState) (n : ℕ) (b : List ℕ) → new ≡ put n b s → 1 ≤ n → IfSome s.seen (λ bs. block_at bs 0 ≡ gate_block 0) → IfSome new.seen (λ bs. block_at bs 0 ≡ gate_block 0)
gate_put s new n b is some gate = subst (λ (t : DiskState). IfSome t.seen (λ (bs : Blocks). block_at bs 0 ≡ gate_block 0)) (sym is) (gate_told s.seen n b some gate)

-- the block of zeros at the gate
gate_zeros : (told : Option Blocks) (size : ℕ) (b : List ℕ) → b ≡ gate_block 0 → 0 < size → IfSome told (IsWhole size) → IfSome (option_map (λ bs. set bs 0 b) told) (λ bs. block_at bs 0 ≡ gate_block 0)
gate_zeros None size b is some whole = tt
gate_zeros (Some bs) size b is some whole = let long = whole.count in get_or-set_same bs 0 b [] (omega arith) ∙ is

pub gate_written : (s new : DiskState) (b : List ℕ) → new ≡ put 0 b s → b ≡ gate_block 0 → 0 < s.size → IfSome s.seen (IsWhole s.size) → IfSome new.seen (λ bs. block_at bs 0 ≡ gate_block 0)
gate_written s new b is zeros some whole = subst (λ (t : DiskState). IfSome t.seen (λ (bs : Blocks). block_at bs 0 ≡ gate_block 0)) (sym is) (gate_zeros s.seen s.size b zeros some whole)

-- such a gate is closed
pub gate_shut : (told : Option Blocks) → IfSome told (λ bs. block_at bs 0 ≡ gate_block 0) → IfSome told (λ bs. gate_open bs ≡ false)
gate_shut None gate = tt
gate_shut (Some bs) gate = ap (λ (x : List ℕ). get_or x 0 0 == 1) gate

-- an empty volume stands behind a closed gate
empty_of : (home_said : Home) (bs : Blocks) (b : List ℕ) → b ≡ home_block_of home_said → 518 < length bs → gate_open bs ≡ false → ZerosTo (584 + home_said.slots) bs → IsEmptyVolume home_said (content_of (set bs 518 b))
empty_of h bs b is within closed zeros =
    let image = set bs 518 b in
    let shut : gate_open image ≡ false = gate_set bs 518 b (omega arith) closed in
    let content : content_of image ≡ home image = rw shut refl in
    record {
      home_block = ap (λ c. block_at c 0) content ∙ get_or-drop 518 image 0 [] ∙ get_or-set_same bs 518 b [] within ∙ is;
      zeros = λ n from to. ap (λ c. block_at c n) content ∙ get_or-drop 518 image n [] ∙ get_or-set_other bs 518 (518 + n) b [] (λ same. absurd (omega arith)) ∙ zeros (518 + n) (omega arith) (omega arith);
    }

empty_told : (h : Home) (told : Option Blocks) (size : ℕ) (b : List ℕ) → b ≡ home_block_of h → 518 < size → IfSome told (IsWhole size) → IfSome told (λ bs. gate_open bs ≡ false) → IfSome told (ZerosTo (584 + h.slots))
    → IfSome (option_map (λ bs. set bs 518 b) told) (λ bs. IsEmptyVolume h (content_of bs))
empty_told h None size b is within whole closed zeros = tt
empty_told h (Some bs) size b is within whole closed zeros = let long = whole.count in empty_of h bs b is (omega arith) closed zeros

pub empty_put : (h : Home) (s new : DiskState) (b : List ℕ) → new ≡ put 518 b s → b ≡ home_block_of h → 518 < s.size → IfSome s.seen (IsWhole s.size) → IfSome s.seen (λ bs. gate_open bs ≡ false) → IfSome s.seen (ZerosTo (584 + h.slots))
    → IfSome new.seen (λ bs. IsEmptyVolume h (content_of bs))
empty_put h s new b is bytes within whole closed zeros =
    subst (λ (t : DiskState). IfSome t.seen (λ (bs : Blocks). IsEmptyVolume h (content_of bs))) (sym is) (empty_told h s.seen s.size b bytes within whole closed zeros)

-- a barrier writes no other block
pub after_barrier : (r : Result (Unit {0}) DiskErr) (p : ℕ → Bool) (s0 s new : DiskState) → Touches p s0 s → OnOk r (new ≡ settled s) → OnErr r (new ≡ answered r s) → Touches p s0 new
after_barrier (Ok x) p s0 s new touched ok err = touches_settled p s0 s new touched (ap (λ (t : DiskState). t.pending) ok) (ap (λ (t : DiskState). t.seen) ok)
after_barrier (Err e) p s0 s new touched ok err = touches_same p s0 s new touched (ap (λ (t : DiskState). t.pending) err) (ap (λ (t : DiskState). t.seen) err)

pub on_zeroed : (end n : ℕ) → 519 ≤ n → n < end → is_zeroed end n ≡ true
on_zeroed end n from to = grind (arith, nat_tests)

gate_formatted : (slots n : ℕ) → in_gate n ≡ true → is_formatted slots n ≡ true
gate_formatted slots n on = grind (arith, nat_tests)

zeroed_formatted : (slots n : ℕ) → is_zeroed (584 + slots) n ≡ true → is_formatted slots n ≡ true
zeroed_formatted slots n on = grind (arith, nat_tests)

pub home_formatted : (slots : ℕ) → is_formatted slots 518 ≡ true
home_formatted slots = grind (arith, nat_tests)

pub gate_touched : (slots : ℕ) (s0 s : DiskState) → Touches in_gate s0 s → Touches (is_formatted slots) s0 s
gate_touched slots s0 s touched = touches_wide in_gate (is_formatted slots) s0 s touched (λ n on. gate_formatted slots n on)

pub zeros_touched : (slots : ℕ) (s0 s : DiskState) → Touches (is_zeroed (584 + slots)) s0 s → Touches (is_formatted slots) s0 s
zeros_touched slots s0 s touched = touches_wide (is_zeroed (584 + slots)) (is_formatted slots) s0 s touched (λ n on. zeroed_formatted slots n on)

pub gate_and_rest : (slots : ℕ) (s0 s1 s2 : DiskState) → Touches in_gate s0 s1 → Touches (is_formatted slots) s1 s2 → Touches (is_formatted slots) s0 s2
gate_and_rest slots s0 s1 s2 gate rest = touches_then (is_formatted slots) (is_formatted slots) s0 s1 s2 (gate_touched slots s0 s1 gate) rest (λ n on. on)

-- what follows where the answer is Ok
pub on_ok : {T E P Q : Type 0} (r : Result T E) → OnOk r P → (P → Q) → OnOk r Q
on_ok (Ok x) p f = f p
on_ok (Err e) p f = tt
