-- What a file has once the bucket that was made in a frame is written.
use Rattle.std.proofs.Common.{◌≡◌, ◌≢◌, ◌⊎◌, ⊎_elim, inl, inr, ℕ, suc, ◌<◌, ◌≤◌, ◌+◌, ◌-◌, ◌*◌, ◌++◌, Bool, true, false, List, [], ◌∷◌, length, take, drop, set, get_or, Option, Some, None, Result, Ok, Err, IfOk, IfSome, IfNone, IsSomeAnd, if◌then◌else◌, nat_le, refl, sym, ap, subst, ◌∙◌, arith}
use Rattle.std.proofs.lemmas.Bool.{cases_lt}
use Rattle.std.proofs.lemmas.Bool.Decides.{nat_tests}
use Rattle.std.proofs.lemmas.List.{length-map, get_or-map}
use Rattle.std.proofs.lemmas.Option.{slice_get-get_or}
use Rattle.file_base.specs.declared.head.FileHead.{FileHead}
use Rattle.bucket_page.specs.declared.kind.PageKind.TheVariants.{Seq}
use Rattle.bucket_page.specs.Pages.{slots_of, joined}
use Rattle.seq_file.specs.declared.spot.Rewrite.{Rewrite}
use Rattle.seq_file.specs.Placing.{slots_along}
use Rattle.seq_file.specs.Records.{record_at, list_set}
use Rattle.seq_file.specs.Layout.{bucket_at, slots_at, slot_of, record_of, records_in, capacity, last_bytes, asks, head_with, used_left, IsRecord, IsSequential, IsLaidOut, TakesAt, Becomes, Changed}
use Rattle.seq_file.specs.Frames.{HasSlots, Reads, IsAt, PutBehind, PutAnew, PutOver, Leads, MayWrite}
use Rattle.seq_file.proofs.FileLaws.{after_push, after_next, after_set, after_cut, after_drop}
use Rattle.seq_file.proofs.PlacingLaws.{along_get, along_long}
use Rattle.seq_file.proofs.RecordLaws.{list_set_none, record_at_past}
use Rattle.seq_file.proofs.WalkLaws.{page_read}

abbrev Blocks : Type 0
Blocks = List (List ℕ)

abbrev Records : Type 0
Records = List (List ℕ)

-- the head that is told with these numbers
numbered : (h : FileHead) (u u' n n' : ℕ) (c : Blocks) (rs : Records) → u' ≡ u → n' ≡ n → Becomes (head_with h u n) c rs → Becomes (head_with h u' n') c rs
numbered h u u' n n' c rs used count becomes = subst (λ (m : ℕ). Becomes (head_with h u' m) c rs) (sym count) (subst (λ (m : ℕ). Becomes (head_with h m n) c rs) (sym used) becomes)

moved : (h : FileHead) (i i' : ℕ) (bytes : List ℕ) (b c : Blocks) → i ≡ i' → Changed h i bytes b c → Changed h i' bytes b c
moved h i i' bytes b c same change = subst (λ (m : ℕ). Changed h m bytes b c) same change

-- a position behind the last one is taken only as the next
past_none : (o : Option (List ℕ)) (r : List ℕ) → o ≡ None → IsSomeAnd o (λ old. length r ≡ length old) → ⊥
past_none None r is h = h
past_none (Some x) r is h = cc

takes_next : (h : FileHead) (n : ℕ) (r : List ℕ) (b : Blocks) → h.count < n → TakesAt h n (Some r) b → (n ≡ h.count + 1) × (h.used + asks h b (length r) ≤ h.alloc)
takes_next h n r b past given = ⊎_elim (λ next. next)
    (λ stands. absurd (past_none (record_at (records_in h b) n) r (record_at_past (records_in h b) n (let size = given.0.count in omega arith)) stands)) given.1

takes_same : (h : FileHead) (n : ℕ) (r : List ℕ) (b : Blocks) → n ≤ h.count → TakesAt h n (Some r) b → IsSomeAnd (record_at (records_in h b) n) (λ old. length r ≡ length old)
takes_same h n r b within given = ⊎_elim (λ next. let is = next.0 in absurd (omega arith)) (λ stands. stands) given.1

-- a record more
abbrev Put : FileHead → ℕ → List ℕ → List ℕ → List ℕ → Rewrite → Type 0
Put h n r bytes0 bytes w = PutBehind h n (slots_of Seq bytes0) r bytes w ⊎ PutAnew h n (slots_of Seq bytes0) r bytes w

leads_behind : (h : FileHead) (k n : ℕ) (r bytes0 bytes : List ℕ) (w : Rewrite) (b c : Blocks) → h.used ≡ suc k → IsRecord h.mrs r → n ≡ h.count + 1 → IsLaidOut h b → bytes0 ≡ bucket_at h b k
    → PutBehind h n (slots_of Seq bytes0) r bytes w → Changed h w.bucket bytes b c → Becomes (head_with h w.used w.count) c (list_set n (Some r) (records_in h b))
leads_behind h k n r bytes0 bytes w b c last one next valid page put change =
    let at : w.bucket ≡ k = omega (arith, put.last) in
    numbered h h.used w.used n w.count c (list_set n (Some r) (records_in h b)) put.used put.count
    (after_push h k n bytes r b c last valid (moved h w.bucket k bytes b c at change) put.page.bucket (put.page.are ∙ ap (λ x. slots_of Seq x ++ slot_of r ∷ []) page) one next)

leads_anew : (h : FileHead) (k n : ℕ) (r bytes0 bytes : List ℕ) (w : Rewrite) (b c : Blocks) → h.used ≡ suc k → IsRecord h.mrs r → n ≡ h.count + 1 → IsLaidOut h b → bytes0 ≡ bucket_at h b k
    → PutAnew h n (slots_of Seq bytes0) r bytes w → Changed h w.bucket bytes b c → Becomes (head_with h w.used w.count) c (list_set n (Some r) (records_in h b))
leads_anew h k n r bytes0 bytes w b c last one next valid page put change =
    let size : length (slot_of r) ≡ length r + 2 = omega arith in
    let same = ap (λ x. length (joined (slots_of Seq x))) page in
    let over = put.over in
    numbered h (h.used + 1) w.used n w.count c (list_set n (Some r) (records_in h b)) put.used put.count
    (after_next h k n bytes r b c last valid (moved h w.bucket h.used bytes b c put.next change) put.page.bucket put.page.are (omega (arith, over, same, size)) one next)

leads_put : (told : Option Blocks) (h : FileHead) (k n : ℕ) (r bytes0 bytes : List ℕ) (w : Rewrite) → h.used ≡ suc k → IsRecord h.mrs r → h.count < n → IfSome told (Reads h k bytes0) → Put h n r bytes0 bytes w
    → IfSome told (Leads h w bytes (TakesAt h n (Some r)) (list_set n (Some r)))
leads_put None h k n r bytes0 bytes w last one past read put = tt
leads_put (Some b) h k n r bytes0 bytes w last one past read put = λ given c change.
    let next = (takes_next h n r b past given).0 in
    let page = page_read h k bytes0 b (omega arith) given.0 read in
    ⊎_elim (λ behind. leads_behind h k n r bytes0 bytes w b c last one next given.0 page behind change) (λ anew. leads_anew h k n r bytes0 bytes w b c last one next given.0 page anew change) put

pub append_leads : (o : Option Rewrite) (told : Option Blocks) (h : FileHead) (k n : ℕ) (r bytes0 bytes : List ℕ) → h.used ≡ suc k → IsRecord h.mrs r → h.count < n → IfSome told (Reads h k bytes0) → IfSome o (Put h n r bytes0 bytes)
    → IfSome o (λ w. IfSome told (Leads h w bytes (TakesAt h n (Some r)) (list_set n (Some r))))
append_leads None told h k n r bytes0 bytes last one past read put = tt
append_leads (Some w) told h k n r bytes0 bytes last one past read put = leads_put told h k n r bytes0 bytes w last one past read put

pub append_may : (o : Option Rewrite) (h : FileHead) (n : ℕ) (r bytes0 bytes : List ℕ) → IsSequential h → IfSome o (Put h n r bytes0 bytes) → IfSome o (MayWrite h)
append_may None h n r bytes0 bytes form put = tt
append_may (Some w) h n r bytes0 bytes form put = ⊎_elim
    (λ behind. let last = behind.last in let used = behind.used in let most = form.used in let least = form.one in record { bucket = omega arith; one = omega arith; used = omega arith })
    (λ anew. let next = anew.next in let used = anew.used in let free = anew.free in record { bucket = omega arith; one = omega arith; used = omega arith }) put

-- where a record more does not fit, it asks for a bucket
over_asks : (last size cap n : ℕ) → cap < last + (size + 2) → (if nat_le (last + (size + 2)) cap then 0 else 1) ≡ n → n ≡ 1
over_asks last size cap n over is = grind (arith, nat_tests)

pub append_none : (o : Option Rewrite) (told : Option Blocks) (h : FileHead) (k n : ℕ) (r bytes0 : List ℕ) → h.used ≡ suc k → h.count < n → IfSome told (Reads h k bytes0)
    → IfNone o ((h.alloc ≤ h.used) × (capacity h < length (joined (slots_of Seq bytes0)) + (length r + 2))) → IfNone o (IfSome told (λ b. TakesAt h n (Some r) b → ⊥))
append_none (Some w) told h k n r bytes0 last past read none = tt
append_none None None h k n r bytes0 last past read none = tt
append_none None (Some b) h k n r bytes0 last past read none = λ given.
    let same = ap (λ x. length (joined (slots_of Seq x))) (page_read h k bytes0 b (omega arith) given.0 read) in
    let at : h.used - 1 ≡ k = omega arith in
    let bytes = ap (λ m. length (joined (slots_at h b m))) at in
    let over = none.1 in
    let full = none.0 in
    let one = over_asks (last_bytes h b) (length r) (capacity h) (asks h b (length r)) (omega (arith, over, same, bytes)) refl in
    let free = (takes_next h n r b past given).1 in
    omega (arith, one, free, full)

-- the record that stands at a place
record Standing (h : FileHead) (n k j : ℕ) (b : Blocks) : Type 0 where
  at : record_at (records_in h b) n ≡ Some (record_of (get_or (slots_at h b k) j []))
  one : IsRecord h.mrs (record_of (get_or (slots_at h b k) j []))

standing : (h : FileHead) (n k j : ℕ) (b : Blocks) → k < h.used → j < length (slots_at h b k) → n ≡ length (slots_along (slots_at h b) k) + j + 1 → IsLaidOut h b → Standing h n k j b
standing h n k j b used there place valid =
    let S = slots_at h b in
    let along = slots_along S h.used in
    let m = length (slots_along S k) + j in
    let number : n ≡ suc m = omega (arith, place) in
    let long = along_long S h.used k used in
    let within : m < length along = omega (arith, long, there) in
    let size = length-map along record_of in
    let below : m < length (records_in h b) = omega (arith, size, within) in
    let here : get_or (records_in h b) m [] ≡ record_of (get_or (S k) j []) = get_or-map record_of along m [] [] within ∙ ap record_of (along_get S h.used k j [] used there) in
    record {
      at = ap (record_at (records_in h b)) number ∙ slice_get-get_or (records_in h b) m [] below ∙ ap Some here;
      one = subst (IsRecord h.mrs) here (valid.records m [] below);
    }

-- a record that was read at a place
standing_record : (h : FileHead) (n k j : ℕ) (bytes : List ℕ) (b : Blocks) → k < h.used → IsAt h n k j bytes b → IsLaidOut h b → IsRecord h.mrs (record_of (get_or (slots_of Seq bytes) j []))
standing_record h n k j bytes b used place valid =
    let same : record_of (get_or (slots_of Seq bytes) j []) ≡ record_of (get_or (slots_at h b k) j []) = ap (λ x. record_of (get_or (slots_of Seq x) j [])) place.page in
    subst (IsRecord h.mrs) (sym same) (standing h n k j b used place.there place.number valid).one

pub read_found : (told : Option Blocks) (h : FileHead) (n k j : ℕ) (bytes out : List ℕ) → k < h.used → IfSome told (λ b. IsLaidOut h b → IsAt h n k j bytes b)
    → out ≡ record_of (get_or (slots_of Seq bytes) j []) → IfSome told (λ b. IsLaidOut h b → record_at (records_in h b) n ≡ Some out)
read_found None h n k j bytes out used at is = tt
read_found (Some b) h n k j bytes out used at is = λ valid.
    let place = at valid in
    let same : record_of (get_or (slots_of Seq bytes) j []) ≡ record_of (get_or (slots_at h b k) j []) = ap (λ x. record_of (get_or (slots_of Seq x) j [])) place.page in
    (standing h n k j b used place.there place.number valid).at ∙ ap Some (sym same ∙ sym is)

-- a slot that has no record of the file stands only where the file is not laid out
pub read_none : (told : Option Blocks) (h : FileHead) (n k j : ℕ) (bytes : List ℕ) → k < h.used → IfSome told (λ b. IsLaidOut h b → IsAt h n k j bytes b)
    → (IsRecord h.mrs (record_of (get_or (slots_of Seq bytes) j [])) → ⊥) → IfSome told (λ b. IsLaidOut h b → ⊥)
read_none None h n k j bytes used at none = tt
read_none (Some b) h n k j bytes used at none = λ valid. none (standing_record h n k j bytes b used (at valid) valid)

-- another record of the same length
abbrev SameNumbers : FileHead → ℕ → Rewrite → Type 0
SameNumbers h k w = (w.bucket ≡ k) × (w.used ≡ h.used) × (w.count ≡ h.count)

leads_over : (told : Option Blocks) (h : FileHead) (n k j : ℕ) (r bytes0 bytes : List ℕ) (w : Rewrite) → k < h.used → IsRecord h.mrs r → IfSome told (λ b. IsLaidOut h b → IsAt h n k j bytes0 b)
    → PutOver h j (slots_of Seq bytes0) r bytes → SameNumbers h k w → IfSome told (Leads h w bytes (TakesAt h n (Some r)) (list_set n (Some r)))
leads_over None h n k j r bytes0 bytes w used one at put numbers = tt
leads_over (Some b) h n k j r bytes0 bytes w used one at put numbers = λ given c change.
    let place = at given.0 in
    let size : length (slot_of r) ≡ length r + 2 = omega arith in
    numbered h h.used w.used h.count w.count c (list_set n (Some r) (records_in h b)) numbers.1 numbers.2
    (after_set h k j n bytes r b c used place.there place.number given.0 (moved h w.bucket k bytes b c numbers.0 change) put.page.bucket
    (put.page.are ∙ ap (λ x. set (slots_of Seq x) j (slot_of r)) place.page) (size ∙ put.same ∙ ap (λ x. length (get_or (slots_of Seq x) j [])) place.page) one)

pub overwrite_leads : (o : Option Rewrite) (told : Option Blocks) (h : FileHead) (n k j : ℕ) (r bytes0 bytes : List ℕ) → k < h.used → IsRecord h.mrs r → IfSome told (λ b. IsLaidOut h b → IsAt h n k j bytes0 b)
    → IfSome o (λ w. PutOver h j (slots_of Seq bytes0) r bytes) → IfSome o (SameNumbers h k) → IfSome o (λ w. IfSome told (Leads h w bytes (TakesAt h n (Some r)) (list_set n (Some r))))
overwrite_leads None told h n k j r bytes0 bytes used one at put numbers = tt
overwrite_leads (Some w) told h n k j r bytes0 bytes used one at put numbers = leads_over told h n k j r bytes0 bytes w used one at put numbers

pub overwrite_may : (o : Option Rewrite) (h : FileHead) (k : ℕ) → k < h.used → IsSequential h → IfSome o (SameNumbers h k) → IfSome o (MayWrite h)
overwrite_may None h k used form numbers = tt
overwrite_may (Some w) h k used form numbers =
    let at = numbers.0 in let same = numbers.1 in let most = form.used in let least = form.one in
    record { bucket = omega arith; one = omega arith; used = omega arith }

behind_two : (s : List ℕ) → 1 ≤ length (drop 2 s) → length s ≡ length (drop 2 s) + 2
behind_two [] one = omega arith
behind_two (x ∷ []) one = omega arith
behind_two (x ∷ y ∷ s) one = omega arith

same_length : (o : Option (List ℕ)) (r x : List ℕ) → o ≡ Some x → IsSomeAnd o (λ old. length r ≡ length old) → length r ≡ length x
same_length None r x is h = absurd h
same_length (Some y) r x is h = let e : y ≡ x = cc in h ∙ ap length e

pub overwrite_none : (o : Option Rewrite) (told : Option Blocks) (h : FileHead) (n k j : ℕ) (r bytes0 : List ℕ) → k < h.used → n ≤ h.count → IfSome told (λ b. IsLaidOut h b → IsAt h n k j bytes0 b)
    → IfNone o (length r + 2 ≢ length (get_or (slots_of Seq bytes0) j [])) → IfNone o (IfSome told (λ b. TakesAt h n (Some r) b → ⊥))
overwrite_none (Some w) told h n k j r bytes0 used within at not = tt
overwrite_none None None h n k j r bytes0 used within at not = tt
overwrite_none None (Some b) h n k j r bytes0 used within at not = λ given.
    let place = at given.0 in
    let stands = standing h n k j b used place.there place.number given.0 in
    let size = same_length (record_at (records_in h b) n) r _ stands.at (takes_same h n r b within given) in
    let two = behind_two (get_or (slots_at h b k) j []) stands.one.one in
    let there = ap (λ x. length (get_or (slots_of Seq x) j [])) place.page in
    not (omega (arith, size, two, there))

pub never_laid_out : (told : Option Blocks) (h : FileHead) (n : ℕ) (v : Option (List ℕ)) → IfSome told (λ b. IsLaidOut h b → ⊥) → IfSome told (λ b. TakesAt h n v b → ⊥)
never_laid_out None h n v never = tt
never_laid_out (Some b) h n v never = λ given. never given.0

-- the positions from one on are gone
drops_is : (j k : ℕ) → j ≡ 0 → 1 ≤ k → used_left j k ≡ k
drops_is j k none some = grind (arith, nat_tests)

keeps_first : (j k : ℕ) → k ≡ 0 → used_left j k ≡ k + 1
keeps_first j k first = grind (arith, nat_tests)

keeps_some : (j k : ℕ) → 1 ≤ j → used_left j k ≡ k + 1
keeps_some j k some = grind (arith, nat_tests)

used_cases : (j k : ℕ) → ((used_left j k ≡ k) × ((j ≡ 0) × (1 ≤ k))) ⊎ ((used_left j k ≡ k + 1) × ((k ≡ 0) ⊎ (1 ≤ j)))
used_cases j k = ⊎_elim
    (λ some. inr (keeps_some j k some, inr some))
    (λ none. let zero_left : j ≡ 0 = omega arith in ⊎_elim (λ more. inl (drops_is j k zero_left more, (zero_left, more))) (λ first. let at : k ≡ 0 = omega arith in inr (keeps_first j k at, inl at)) (cases_lt 0 k))
    (cases_lt 0 j)

pub cut_leads : (told : Option Blocks) (h : FileHead) (n k j u : ℕ) (bytes0 bytes : List ℕ) → k < h.used → IfSome told (λ b. IsLaidOut h b → IsAt h n k j bytes0 b) → HasSlots h bytes (take j (slots_of Seq bytes0)) → u ≡ used_left j k
    → IfSome told (Leads h (record { bucket = k; used = u; count = n - 1 }) bytes (IsLaidOut h) (take (n - 1)))
cut_leads None h n k j u bytes0 bytes used at page left = tt
cut_leads (Some b) h n k j u bytes0 bytes used at page left = λ valid c change.
    let place = at valid in
    ⊎_elim
    (λ drops. numbered h k u (n - 1) (n - 1) c (take (n - 1) (records_in h b)) (left ∙ drops.0) refl
    (after_drop h k n b c drops.1.1 used (let number = place.number in let none = drops.1.0 in omega arith) valid (λ i less. change.others i (λ e. omega arith))))
    (λ keeps. numbered h (k + 1) u (n - 1) (n - 1) c (take (n - 1) (records_in h b)) (left ∙ keeps.0) refl
    (after_cut h k j n bytes b c used place.there place.number valid change page.bucket (page.are ∙ ap (λ x. take j (slots_of Seq x)) place.page) keeps.1))
    (used_cases j k)

pub cut_may : (h : FileHead) (n k j u : ℕ) → k < h.used → IsSequential h → u ≡ used_left j k → MayWrite h (record { bucket = k; used = u; count = n - 1 })
cut_may h n k j u used form left =
    let most = form.used in
    record {
      bucket = omega arith;
      one = ⊎_elim (λ drops. let is = drops.0 in let some = drops.1.1 in omega arith) (λ keeps. let is = keeps.0 in omega arith) (used_cases j k);
      used = ⊎_elim (λ drops. let is = drops.0 in omega arith) (λ keeps. let is = keeps.0 in omega arith) (used_cases j k);
    }

-- taking the last position away is taking all from it on away
leads_last : (told : Option Blocks) (h : FileHead) (n : ℕ) (bytes : List ℕ) (w : Rewrite) → IfSome told (Leads h w bytes (IsLaidOut h) (take (n - 1))) → IfSome told (Leads h w bytes (TakesAt h n None) (list_set n None))
leads_last None h n bytes w leads = tt
leads_last (Some b) h n bytes w leads = λ given c change.
    let becomes = leads given.0 c change in
    let last = given.1 in
    record { valid = becomes.valid; are = becomes.are ∙ sym (list_set_none n (records_in h b) (let size = given.0.count in omega arith)) }

last_leads_some : (o : Option Rewrite) (told : Option Blocks) (h : FileHead) (n : ℕ) (bytes : List ℕ) → IfSome o (λ w. IfSome told (Leads h w bytes (IsLaidOut h) (take (n - 1)))) → IfSome o (λ w. IfSome told (Leads h w bytes (TakesAt h n None) (list_set n None)))
last_leads_some None told h n bytes leads = tt
last_leads_some (Some w) told h n bytes leads = leads_last told h n bytes w leads

pub last_leads : {E : Type 0} (r : Result (Option Rewrite) E) (told : Option Blocks) (h : FileHead) (n : ℕ) (bytes : List ℕ) → IfOk r (λ o. IfSome o (λ w. IfSome told (Leads h w bytes (IsLaidOut h) (take (n - 1)))))
    → IfOk r (λ o. IfSome o (λ w. IfSome told (Leads h w bytes (TakesAt h n None) (list_set n None))))
last_leads (Ok o) told h n bytes leads = last_leads_some o told h n bytes leads
last_leads (Err e) told h n bytes leads = tt

-- what a record more asks for
asks_if : (t : Bool) (n : ℕ) → (t ≡ true → n ≡ 0) → (t ≡ false → n ≡ 1) → n ≡ (if t then 0 else 1)
asks_if true n fits over = fits refl
asks_if false n fits over = over refl

fits_is : (last size cap : ℕ) → nat_le (last + (size + 2)) cap ≡ true → last + (size + 2) ≤ cap
fits_is last size cap is = grind (arith, nat_tests)

over_is : (last size cap : ℕ) → nat_le (last + (size + 2)) cap ≡ false → cap < last + (size + 2)
over_is last size cap is = grind (arith, nat_tests)

pub asks_is : (told : Option Blocks) (h : FileHead) (k size n : ℕ) (bytes : List ℕ) → h.used ≡ suc k → 1 ≤ h.bucket → IfSome told (Reads h k bytes)
    → (16 + length (joined (slots_of Seq bytes)) + size + 2 ≤ 512 * h.bucket → n ≡ 0) → (512 * h.bucket < 16 + length (joined (slots_of Seq bytes)) + size + 2 → n ≡ 1) → IfSome told (λ b. IsLaidOut h b → n ≡ asks h b size)
asks_is None h k size n bytes last one read fits over = tt
asks_is (Some b) h k size n bytes last one read fits over = λ valid.
    let same = ap (λ x. length (joined (slots_of Seq x))) (page_read h k bytes b (omega arith) valid read) in
    let back : h.used - 1 ≡ k = omega arith in
    let at = ap (λ m. length (joined (slots_at h b m))) back in
    asks_if (nat_le (last_bytes h b + (size + 2)) (capacity h)) n
    (λ small. fits (let le = fits_is (last_bytes h b) size (capacity h) small in omega (arith, le, same, at)))
    (λ large. over (let gt = over_is (last_bytes h b) size (capacity h) large in omega (arith, gt, same, at)))
