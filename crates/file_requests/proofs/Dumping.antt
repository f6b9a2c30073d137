-- DUMP, from what the code knows.
use Rattle.std.proofs.Common.{◌≡◌, ℕ, zero, suc, ◌+◌, ◌≤◌, List, [], ◌∷◌, ◌++◌, Option, Some, None, Ok, Err, IfSome, length, take, refl, sym, ◌∙◌, ap, subst, arith}
use Rattle.std.specs.Prelude.{map}
use Rattle.std.specs.FinMap.{get, entries}
use Rattle.careful_write.specs.declared.down.Down.{Down}
use Rattle.change_set.specs.Files.{first_place}
use Rattle.change_set.specs.Maps.{Map, EndsAfter}
use Rattle.file_base.specs.declared.head.FileHead.{FileHead}
use Rattle.file_images.specs.record_files.Any.{Begins, IsFile, IsLaidOut}
use Rattle.file_images.specs.record_files.Local.{begins_first_law}
use Rattle.emitter_model.specs.transcript_model.Lines as line
use Rattle.emitter_model.specs.transcript_model.Lines.{Line}
use Rattle.emitter_model.specs.Emitting.{Shown, Emits}
use Rattle.emitter_model.proofs.EmittingLemmas.{emits_on}
use Rattle.vms_model.specs.Keys.{Key}
use Rattle.records_model.specs.Records.{Records}
use Rattle.directory_model.specs.Files.{IsShown}
use Rattle.directory_model.specs.Laws.{ShowsRecords}
use Rattle.file_requests.specs.Listing.{Shows, record_line}

-- the lines of so many of the first records
abbrev pub ShowsSome : Records → ℕ → Shown → Shown → Type 0
ShowsSome m count a b = Emits a (map record_line (take count (entries m))) b

-- a walk begins at the front
pub begins_anew : (told : Option (List (List ℕ))) (head : FileHead) (key : Option Key) → IfSome told (λ content. IsFile head → IsLaidOut head content → Begins head content key first_place)
begins_anew None head key = tt
begins_anew (Some content) head key = λ form laid. begins_first_law head content key form

-- Showing one record after another.

pub emits_next : (m : Records) (count : ℕ) (key : Key) (bytes : List ℕ) (a b c : Shown) → take (count + 1) (entries m) ≡ take count (entries m) ++ (key, bytes) ∷ [] → ShowsSome m count a b → Emits b (line.Record key bytes ∷ []) c → ShowsSome m (count + 1) a c
emits_next m count key bytes a b c more shown one =
    subst (λ ls. Emits a ls c) (sym (ap (map record_line) more ∙ map-append (take count (entries m)) ((key, bytes) ∷ []))) (emits_on a b c _ _ shown one)
  where
    map-append : (xs ys : List (Key × List ℕ)) → map record_line (xs ++ ys) ≡ map record_line xs ++ map record_line ys
    map-append [] ys = refl
    map-append (x ∷ xs) ys = ap (λ t. record_line x ∷ t) (map-append xs ys)

-- all were shown
pub shows_all : (shows : ShowsRecords) (m : Records) (keys : Map) (count : ℕ) (after : Option Key) (a b d : Shown) → ((k : Key) → get m k ≡ keys k) → IsShown m count after → EndsAfter keys after → ShowsSome m count a b → Emits b (line.NormalCount count ∷ []) d → Shows (Ok tt) m a d
shows_all shows m keys count after a b d same shown ends some counted =
    let l = shows.last m keys count after same shown ends in
    (b, subst (λ es. Emits a (map record_line es) b) l.1 some, subst (λ n. Emits b (line.NormalCount n ∷ []) d) l.0 counted)

take_whole : (es : List (Key × List ℕ)) → take (length es) es ≡ es
take_whole [] = refl
take_whole (e ∷ es) = ap (λ t. e ∷ t) (take_whole es)

-- so many were shown that there are no more
pub shows_most : (m : Records) (count most : ℕ) (after : Option Key) (a b d : Shown) → length (entries m) ≤ most → most ≤ count → IsShown m count after → ShowsSome m count a b → Emits b (line.NormalCount count ∷ []) d → Shows (Ok tt) m a d
shows_most m count most after a b d few full shown some counted =
    let le = shown.few in
    let all : count ≡ length (entries m) = omega (arith, few, full, le) in
    (b, subst (λ es. Emits a (map record_line es) b) (ap (λ n. take n (entries m)) all ∙ take_whole (entries m)) some, subst (λ n. Emits b (line.NormalCount n ∷ []) d) all counted)

take_lines : (k : ℕ) (es : List (Key × List ℕ)) → map record_line (take k es) ≡ take k (map record_line es)
take_lines zero es = refl
take_lines (suc k) [] = refl
take_lines (suc k) (e ∷ es) = ap (λ t. record_line e ∷ t) (take_lines k es)

long_lines : (es : List (Key × List ℕ)) → length (map record_line es) ≡ length es
long_lines [] = refl
long_lines (e ∷ es) = let rest = long_lines es in omega (arith, rest)

pub shown_few : (m : Records) (count : ℕ) (after : Option Key) (a b : Shown) → IsShown m count after → ShowsSome m count a b → (e : Down) → Shows (Err e) m a b
shown_few m count after a b shown some e = (count, (let few = shown.few in let long = long_lines (entries m) in omega (arith, few, long)), subst (λ ls. Emits a ls b) (take_lines count (entries m)) some)
