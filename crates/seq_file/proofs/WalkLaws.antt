-- Where positions stand in the used buckets.
use Rattle.std.proofs.Common.{◌≡◌, ℕ, zero, suc, ◌<◌, ◌≤◌, ◌+◌, ◌-◌, List, [], ◌∷◌, ◌⊎◌, ⊎_elim, length, Option, Some, None, IfSome, refl, sym, ap, subst, ◌∙◌, arith, length-append}
use Rattle.std.proofs.lemmas.List.{length-map}
use Rattle.file_base.specs.declared.head.FileHead.{FileHead}
use Rattle.bucket_page.specs.declared.kind.PageKind.TheVariants.{Seq}
use Rattle.bucket_page.specs.Pages.{slots_of, slot_at}
use Rattle.seq_file.specs.Placing.{slots_along, BeginsAnew}
use Rattle.change_set.specs.declared.walk.Place.{Place}
use Rattle.change_set.specs.Files.{first_place}
use Rattle.seq_file.specs.Layout.{bucket_at, slots_at, record_of, CountsBefore, IsLaidOut, IsRecord, Stands}
use Rattle.seq_file.specs.Frames.{Reads, IsRead, IsAt}

abbrev Told : Type 0
Told = Option (List (List ℕ))

pub along_count : (h : FileHead) (b : List (List ℕ)) → IsLaidOut h b → length (slots_along (slots_at h b) h.used) ≡ h.count
along_count h b valid = sym (length-map (slots_along (slots_at h b) h.used) record_of) ∙ valid.count

some_slots : (cap : ℕ) (p q : List (List ℕ)) → BeginsAnew cap p q → 1 ≤ length q
some_slots cap p [] anew = absurd anew
some_slots cap p (s ∷ q) anew = omega arith

-- the last used bucket has a slot, where there is a record
last_some : (h : FileHead) (b : List (List ℕ)) (k : ℕ) → h.used ≡ suc k → IsLaidOut h b → 1 ≤ h.count → 1 ≤ length (slots_at h b k)
last_some h b zero last valid some = omega (arith, along_count h b valid, ap (λ n. length (slots_along (slots_at h b) n)) last)
last_some h b (suc m) last valid some = some_slots _ (slots_at h b m) (slots_at h b (suc m)) (valid.filled m (omega arith))

-- the bytes that were read, of a file that is laid out
pub page_read : (h : FileHead) (k : ℕ) (bytes : List ℕ) (b : List (List ℕ)) → k < h.used → IsLaidOut h b → Reads h k bytes b → bytes ≡ bucket_at h b k
page_read h k bytes b below valid read = ⊎_elim (λ same. same.1) (λ none. absurd (none.0 (valid.buckets k below))) read

-- bytes with a slot are those of a bucket of records
pub is_read : (told : Told) (h : FileHead) (k n : ℕ) (bytes : List ℕ) → IfSome told (Reads h k bytes) → n ≡ length (slots_of Seq bytes) → 1 ≤ n → IfSome told (IsRead h k bytes)
is_read None h k n bytes read number some = tt
is_read (Some b) h k n bytes read number some = ⊎_elim (λ same. same) (λ none. absurd (omega (arith, number, ap length none.1, some))) read

-- a record that was read of a bucket stands in it
pub stands_so : (told : Told) (h : FileHead) (k j : ℕ) (bytes out : List ℕ) → IfSome told (IsRead h k bytes) → k < h.used → j < length (slots_of Seq bytes) → out ≡ record_of (slot_at (slots_of Seq bytes) j) → IsRecord h.mrs out → IfSome told (Stands h out)
stands_so None h k j bytes out read used there is kept = tt
stands_so (Some b) h k j bytes out read used there is kept = record {
  bucket = k;
  slot = j;
  used = used;
  stands = read.0;
  there = omega (arith, there, ap (λ x. length (slots_of Seq x)) read.1);
  is = sym (is ∙ ap (λ x. record_of (slot_at (slots_of Seq x) j)) read.1);
  kept = kept;
}

pub last_found : (told : Told) (h : FileHead) (k n : ℕ) (bytes : List ℕ) → h.used ≡ suc k → IfSome told (Reads h k bytes) → n ≡ length (slots_of Seq bytes) → 1 ≤ n → IfSome told (λ b. IsLaidOut h b → IsAt h h.count k (n - 1) bytes b)
last_found None h k n bytes last read number some = tt
last_found (Some b) h k n bytes last read number some = λ valid.
    let page = page_read h k bytes b (omega arith) valid read in
    let size = number ∙ ap (λ x. length (slots_of Seq x)) page in
    let whole = along_count h b valid in
    let parts = ap (λ m. length (slots_along (slots_at h b) m)) last in
    record {
      page = page;
      there = omega (arith, size);
      number = omega (arith, size, whole, parts, length-append (slots_along (slots_at h b) k) (slots_at h b k));
    }

pub last_none : (told : Told) (h : FileHead) (k n : ℕ) (bytes : List ℕ) → h.used ≡ suc k → IfSome told (Reads h k bytes) → n ≡ length (slots_of Seq bytes) → n ≡ 0 → 1 ≤ h.count → IfSome told (λ b. IsLaidOut h b → ⊥)
last_none None h k n bytes last read number none some = tt
last_none (Some b) h k n bytes last read number none some = λ valid.
    let size = number ∙ ap (λ x. length (slots_of Seq x)) (page_read h k bytes b (omega arith) valid read) in
    let least = last_some h b k last valid some in
    omega (arith, size, least)

pub walk_found : (told : Told) (h : FileHead) (i n left slots : ℕ) (bytes : List ℕ) → i < h.used → IfSome told (λ b. IsLaidOut h b → length (slots_along (slots_at h b) i) + left + 1 ≡ n) → IfSome told (Reads h i bytes)
    → slots ≡ length (slots_of Seq bytes) → left < slots → IfSome told (λ b. IsLaidOut h b → IsAt h n i left bytes b)
walk_found None h i n left slots bytes below place read number there = tt
walk_found (Some b) h i n left slots bytes below place read number there = λ valid.
    let page = page_read h i bytes b below valid read in
    let size = number ∙ ap (λ x. length (slots_of Seq x)) page in
    record { page = page; there = omega (arith, size); number = omega (arith, place valid) }

pub walk_more : (told : Told) (h : FileHead) (i n left slots : ℕ) (bytes : List ℕ) → i < h.used → IfSome told (λ b. IsLaidOut h b → length (slots_along (slots_at h b) i) + left + 1 ≡ n) → IfSome told (Reads h i bytes)
    → slots ≡ length (slots_of Seq bytes) → slots ≤ left → IfSome told (λ b. IsLaidOut h b → length (slots_along (slots_at h b) (i + 1)) + (left - slots) + 1 ≡ n)
walk_more None h i n left slots bytes below place read number past = tt
walk_more (Some b) h i n left slots bytes below place read number past = λ valid.
    let size = number ∙ ap (λ x. length (slots_of Seq x)) (page_read h i bytes b below valid read) in
    let more : i + 1 ≡ suc i = omega arith in
    let along = ap (λ m. length (slots_along (slots_at h b) m)) more in
    omega (arith, size, place valid, along, length-append (slots_along (slots_at h b) i) (slots_at h b i))

pub walk_end : (told : Told) (h : FileHead) (i n left : ℕ) → h.used ≤ i → i ≤ h.used → n ≤ h.count → IfSome told (λ b. IsLaidOut h b → length (slots_along (slots_at h b) i) + left + 1 ≡ n) → IfSome told (λ b. IsLaidOut h b → ⊥)
walk_end None h i n left past within most place = tt
walk_end (Some b) h i n left past within most place = λ valid.
    let last : i ≡ h.used = omega arith in
    let along = ap (λ m. length (slots_along (slots_at h b) m)) last in
    omega (arith, place valid, along, along_count h b valid)

-- no record stands before the first bucket
pub front_counts : (told : Told) (h : FileHead) (place : Place) → place ≡ first_place → IfSome told (λ b. IsLaidOut h b → CountsBefore h b place)
front_counts None h place is = tt
front_counts (Some b) h place is = λ valid. subst (λ (p : Place). CountsBefore h b p) (sym is) refl

-- a walk that begins at a place, or at the front
pub walk_begins : (told : Told) (h : FileHead) (place start : Place) (n : ℕ) → start.passed < n → (start ≡ place) ⊎ (start ≡ first_place) → IfSome told (λ b. IsLaidOut h b → CountsBefore h b place)
    → IfSome told (λ b. IsLaidOut h b → length (slots_along (slots_at h b) start.bucket) + (n - 1 - start.passed) + 1 ≡ n)
walk_begins None h place start n below either before = tt
walk_begins (Some b) h place start n below either before = λ valid.
    let counts : CountsBefore h b start = ⊎_elim
    (λ same. subst (λ (p : Place). CountsBefore h b p) (sym same) (before valid))
    (λ same. subst (λ (p : Place). CountsBefore h b p) (sym same) refl)
    either in
    omega (arith, counts)

-- and where it ends
pub walk_leaves : (told : Told) (h : FileHead) (i n left : ℕ) → IfSome told (λ b. IsLaidOut h b → length (slots_along (slots_at h b) i) + left + 1 ≡ n)
    → IfSome told (λ b. IsLaidOut h b → CountsBefore h b (record { bucket = i; passed = n - 1 - left }))
walk_leaves None h i n left place = tt
walk_leaves (Some b) h i n left place = λ valid. let here = place valid in omega (arith, here)
