-- An entry in the journals of files is one in the journals of those of them that keep one.
use Rattle.std.proofs.Common.{◌≡◌, ◌≢◌, ℕ, suc, ◌+◌, ◌<◌, ◌≤◌, Bool, true, false, List, [], ◌∷◌, Option, Some, None, length, option_map, refl, sym, ap, subst, ◌∙◌, arith, ⊎_elim}
use Rattle.std.specs.Prelude.{◌&&◌, ◌||◌, slice_index_or}
use Rattle.std.proofs.lemmas.Bool.{cases_lt}
use Rattle.std.proofs.lemmas.List.{get_or_past}
use Rattle.file_base.specs.declared.head.FileHead.{FileHead}
use Rattle.journal_format.specs.journal_model.Entries.{Entry, spelling}
use Rattle.unit_table.specs.Units.{OpenUnit}
use Rattle.vms_base.specs.declared.ids.Serial.{Serial}
use Rattle.vms_base.specs.declared.ids.Tid.{Tid}
use Rattle.volume.specs.Catalogs.{head_at}
use Rattle.volume.specs.State.{VolumeState}
use Rattle.volume_format.specs.declared.home.Ending.{Ending}
use Rattle.file_settlements.specs.image_appends.declared.side.Side.TheVariants.{After, Before}
use Rattle.file_settlements.specs.image_appends.Images.{is_kept}
use Rattle.file_settlements.specs.image_appends.Settling.{content_from, content_if, files_in, heads_from, heads_if, one_if}
use Rattle.file_settlements.proofs.image_appends.Growing.{others_if}
use Rattle.file_settlements.specs.Settling.{EntersSettled, KeepsNone, SettlesFiles, content_settled, heads_settled}
use Rattle.file_settlements.proofs.Plain.{content_one, heads_one}
use Rattle.kept_files.specs.Keeping.{TellsKeeping, keeping, keeps_some, kept_from, kept_in}

none_kept : (h : FileHead) → keeps_some (Some h) ≡ false → KeepsNone h
none_kept h is = by_marks (is_kept After h) (is_kept Before h) refl refl is
  where
    by_marks : (a b : Bool) → is_kept After h ≡ a → is_kept Before h ≡ b → (a || b) ≡ false → KeepsNone h
    by_marks false false after before none = record { afters = after; befores = before }
    by_marks true b after before none = let no : ⊥ = cc in absurd no
    by_marks false true after before none = let no : ⊥ = cc in absurd no

none_at : (heads : List (Option FileHead)) (n : ℕ) → keeps_some (head_at heads n) ≡ false → (h : FileHead) → head_at heads n ≡ Some h → KeepsNone h
none_at heads n is h at = none_kept h (ap keeps_some (sym at) ∙ is)

-- One file.

heads_kept : (takes some : Bool) (n size : ℕ) (heads : List (Option FileHead)) → keeps_some (head_at heads n) ≡ some → heads_if takes n size heads ≡ heads_if (takes && some) n size heads
heads_kept true true n size heads is = refl
heads_kept true false n size heads is = heads_one true n size heads (λ same. none_at heads n is)
heads_kept false some n size heads is = refl

content_kept : (takes some : Bool) (n : ℕ) (bytes : List ℕ) (heads : List (Option FileHead)) (c : List (List ℕ)) → keeps_some (head_at heads n) ≡ some → content_if takes n bytes heads c ≡ content_if (takes && some) n bytes heads c
content_kept true true n bytes heads c is = refl
content_kept true false n bytes heads c is = content_one true n bytes heads c (λ same. none_at heads n is)
content_kept false some n bytes heads c is = refl

-- The files from a number on.

abbrev AreKept : (n : ℕ) → (files kept : List Bool) → List (Option FileHead) → Type 0
AreKept n files kept heads = (k : ℕ) → k < length files → slice_index_or kept k false ≡ (slice_index_or files k false && keeps_some (head_at heads (n + k)))

here : (n : ℕ) (takes kept : Bool) (files ks : List Bool) (heads : List (Option FileHead)) → AreKept n (takes ∷ files) (kept ∷ ks) heads → kept ≡ (takes && keeps_some (head_at heads n))
here n takes kept files ks heads are = are 0 (omega arith) ∙ (λ i. takes && keeps_some (head_at heads (same i)))
  where
    same : n + 0 ≡ n
    same = omega arith

later : (n size : ℕ) (takes kept : Bool) (files ks : List Bool) (heads : List (Option FileHead)) → AreKept n (takes ∷ files) (kept ∷ ks) heads → AreKept (suc n) files ks (heads_if takes n size heads)
later n size takes kept files ks heads are k below =
    let next : n + suc k ≡ suc n + k = omega arith in
    let apart : suc n + k ≢ n = (λ same. let no_way : ⊥ = omega (arith, same) in no_way) in
    are (suc k) (omega (arith, below)) ∙ (λ i. slice_index_or files k false && keeps_some (head_at heads (next i))) ∙ (λ i. slice_index_or files k false && keeps_some (sym (others_if takes n (suc n + k) size heads apart) i))

later_same : (n : ℕ) (takes kept : Bool) (files ks : List Bool) (heads : List (Option FileHead)) → AreKept n (takes ∷ files) (kept ∷ ks) heads → AreKept (suc n) files ks heads
later_same n takes kept files ks heads are k below =
    let next : n + suc k ≡ suc n + k = omega arith in
    are (suc k) (omega (arith, below)) ∙ (λ i. slice_index_or files k false && keeps_some (head_at heads (next i)))

heads_alike : (files kept : List Bool) (n size : ℕ) (heads : List (Option FileHead)) → length kept ≡ length files → AreKept n files kept heads → heads_from n files size heads ≡ heads_from n kept size heads
heads_alike [] [] n size heads long are = refl
heads_alike [] (k ∷ ks) n size heads long are = let no : ⊥ = omega (arith, long) in absurd no
heads_alike (t ∷ ts) [] n size heads long are = let no : ⊥ = omega (arith, long) in absurd no
heads_alike (t ∷ ts) (k ∷ ks) n size heads long are =
    let one : heads_if t n size heads ≡ heads_if k n size heads = heads_kept t (keeps_some (head_at heads n)) n size heads refl ∙ (λ i. heads_if (sym (here n t k ts ks heads are) i) n size heads) in
    heads_alike ts ks (suc n) size (heads_if t n size heads) (omega (arith, long)) (later n size t k ts ks heads are) ∙ ap (λ (hs : List (Option FileHead)). heads_from (suc n) ks size hs) one

content_alike : (files kept : List Bool) (n : ℕ) (bytes : List ℕ) (heads : List (Option FileHead)) (c : List (List ℕ)) → length kept ≡ length files → AreKept n files kept heads → content_from n files bytes heads c ≡ content_from n kept bytes heads c
content_alike [] [] n bytes heads c long are = refl
content_alike [] (k ∷ ks) n bytes heads c long are = let no : ⊥ = omega (arith, long) in absurd no
content_alike (t ∷ ts) [] n bytes heads c long are = let no : ⊥ = omega (arith, long) in absurd no
content_alike (t ∷ ts) (k ∷ ks) n bytes heads c long are =
    let is = here n t k ts ks heads are in
    let one : heads_if t n (length bytes) heads ≡ heads_if k n (length bytes) heads = heads_kept t (keeps_some (head_at heads n)) n (length bytes) heads refl ∙ (λ i. heads_if (sym is i) n (length bytes) heads) in
    let two : content_if t n bytes heads c ≡ content_if k n bytes heads c = content_kept t (keeps_some (head_at heads n)) n bytes heads c refl ∙ (λ i. content_if (sym is i) n bytes heads c) in
    content_alike ts ks (suc n) bytes (heads_if t n (length bytes) heads) (content_if t n bytes heads c) (omega (arith, long)) (later n (length bytes) t k ts ks heads are)
    ∙ (λ i. content_from (suc n) ks bytes (one i) (two i))

-- no more than there are
pub kept_few : (files : List Bool) (n : ℕ) (heads : List (Option FileHead)) → kept_from n files heads ≤ length files
kept_few [] n heads = omega arith
kept_few (t ∷ ts) n heads = let rest = kept_few ts (suc n) heads in let one = one_few (t && keeps_some (head_at heads n)) in omega (arith, rest, one)
  where
    one_few : (b : Bool) → one_if b ≤ 1
    one_few true = omega arith
    one_few false = omega arith

-- as many take part
count_alike : (files kept : List Bool) (n : ℕ) (heads : List (Option FileHead)) → length kept ≡ length files → AreKept n files kept heads → files_in kept ≡ kept_from n files heads
count_alike [] [] n heads long are = refl
count_alike [] (k ∷ ks) n heads long are = let no : ⊥ = omega (arith, long) in absurd no
count_alike (t ∷ ts) [] n heads long are = let no : ⊥ = omega (arith, long) in absurd no
count_alike (t ∷ ts) (k ∷ ks) n heads long are =
    let rest = count_alike ts ks (suc n) heads (omega (arith, long)) (later_same n t k ts ks heads are) in
    (λ i. one_if (here n t k ts ks heads are i) + rest i)

-- The entry of a settlement.

module _ (heads : List (Option FileHead)) (files kept : List Bool) (long : length files ≡ 64) (tells : TellsKeeping heads files kept) where
  same_long : length kept ≡ length files
  same_long = tells.long ∙ sym long

  are : AreKept 0 files kept heads
  are k below = tells.each k (omega (arith, below, long)) ∙ (λ i. slice_index_or files k false && keeps_some (head_at heads (same i)))
    where
      same : k ≡ 0 + k
      same = omega arith

  pub count_kept : files_in kept ≡ kept_in files heads
  count_kept = count_alike files kept 0 heads same_long are

  pub heads_settled_alike : (e : Option Entry) → heads_settled e files heads ≡ heads_settled e kept heads
  heads_settled_alike None = refl
  heads_settled_alike (Some e) = heads_alike files kept 0 (length (spelling e)) heads same_long are

  pub content_settled_alike : (e : Option Entry) (c : List (List ℕ)) → content_settled e files heads c ≡ content_settled e kept heads c
  content_settled_alike None c = refl
  content_settled_alike (Some e) c = content_alike files kept 0 (spelling e) heads c same_long are

  -- it is the same in all of them
  current_settled_alike : (e : Option Entry) (o : Option (List (List ℕ))) → option_map (content_settled e kept heads) o ≡ option_map (content_settled e files heads) o
  current_settled_alike e None = refl
  current_settled_alike e (Some c) = ap (λ (x : List (List ℕ)). Some x) (sym (content_settled_alike e c))

-- so the settlement in those that keep a journal is the one in all of them
pub settles_alike : (files kept : List Bool) (tid : Tid) (serial : Serial) (ending : Ending) (moment : ℕ) (e : Option Entry) (left : List (Option OpenUnit)) (v made : VolumeState) → length files ≡ 64 → TellsKeeping v.catalog.heads files kept →
    SettlesFiles kept tid serial ending moment e left v made → SettlesFiles files tid serial ending moment e left v made
settles_alike files kept tid serial ending moment e left v made long tells s = record {
  mid = s.mid;
  entered = record {
    current = s.entered.current ∙ current_settled_alike v.catalog.heads files kept long tells e v.store.current;
    catalog = s.entered.catalog ∙ (λ i. record v.catalog { heads = sym (heads_settled_alike v.catalog.heads files kept long tells e) i });
  };
  settles = s.settles;
}

-- a file that keeps a journal and takes part is one of those that take part
pub kept_takes : (heads : List (Option FileHead)) (files kept : List Bool) → length files ≡ 64 → TellsKeeping heads files kept → (file : ℕ) → slice_index_or kept file false ≡ true → slice_index_or files file false ≡ true
kept_takes heads files kept long tells file is = ⊎_elim (λ below. first_of (slice_index_or files file false) (keeps_some (head_at heads file)) (sym (tells.each file below) ∙ is))
    (λ past. let none = get_or_past kept file false (let l = tells.long in omega (arith, l, past)) in let no : ⊥ = cc in absurd no) (cases_lt file 64)
  where
    first_of : (a b : Bool) → (a && b) ≡ true → a ≡ true
    first_of true b is = refl
    first_of false b is = is
