-- The entries on a disk follow those of the world's journal.
use Rattle.std.proofs.Common.{◌≡◌, ℕ, ◌+◌, ◌≤◌, Bool, true, false, cond, List, [], ◌∷◌, ◌++◌, length, map, Option, Some, None, refl, sym, ◌∙◌, ap, subst, arith, length-append}
use Rattle.std.specs.List.{flat_map, AllByRecursion}
use Rattle.std.proofs.lemmas.List.{map-append}
use Rattle.std.proofs.lemmas.List.Concat.{flat_map-cons}
use Rattle.lmcp_log.specs.file_base.declared.head.FileHead.{FileHead}
use Rattle.unit_laws.specs.vms_model.Ids.{Id}
use Rattle.unit_laws.specs.vms_model.Keys.{Key, Number, Text, End}
use Rattle.unit_laws.specs.records_model.Records.{Change}
use Rattle.unit_laws.specs.records_model.Slots.{size_of}
use Rattle.directory_model.specs.journal_model.Entries.{Entry, IsEntry, spelling}
use Rattle.directory_model.proofs.journal_format.Decoding.{total_is}
use Rattle.unit_laws.specs.Journal.{JournalEntry, ChangeEntry, PreparedEntry, SettledEntry, RecoveryUnit, entries_for, entries_from, entries_size, entry_size, is_of_units, key_size}
use Rattle.unit_laws.proofs.Tests.{picked, passed}
use Rattle.directory_model.specs.Files.{head_at}
use Rattle.directory_model.specs.file_images.Images.{key_bytes, image_bytes}
use Rattle.volume_model.specs.Entries.{AreEntries, IsFileOf, entry_for}
use Rattle.volume_model.specs.Laws.{EntriesFollow, IsTrimmed, KeepsNames}

-- Sizes.

key_long : (key : Key) → length (key_bytes key) ≡ key_size key
key_long (Number n) = refl
key_long (Text bytes) = refl
key_long End = refl

image_long : (before : Option (List ℕ)) → length (image_bytes before) ≡ size_of before
image_long None = refl
image_long (Some bytes) = refl

entry_long : (f : ℕ) (e : JournalEntry) → IsEntry (entry_for f e) → length (spelling (entry_for f e)) ≡ entry_size e
entry_long f (ChangeEntry tid serial file key before) is = let whole = total_is (entry_for f (ChangeEntry tid serial file key before)) is in omega (arith, whole, key_long key, image_long before)
entry_long f (PreparedEntry tid serial) is = total_is (entry_for f (PreparedEntry tid serial)) is
entry_long f (SettledEntry tid serial outcome moment) is = total_is (entry_for f (SettledEntry tid serial outcome moment)) is

sized : (heads : List (Option FileHead)) (es : List JournalEntry) (ds : List Entry) → AreEntries heads es ds → AllByRecursion IsEntry ds → length (flat_map spelling ds) ≡ entries_size es
sized heads [] [] are all = refl
sized heads [] (d ∷ ds) are all = absurd are
sized heads (e ∷ es) [] are all = absurd are
sized heads (e ∷ es) (d ∷ ds) are all =
    let first : length (spelling d) ≡ entry_size e = ap (λ (x : Entry). length (spelling x)) are.2 ∙ entry_long are.0 e (subst IsEntry are.2 all.0) in
    let rest = sized heads es ds are.3 all.1 in
    ap length (flat_map-cons spelling d ds) ∙ length-append (spelling d) (flat_map spelling ds) ∙ ap (λ n. n + length (flat_map spelling ds)) first ∙ ap (λ n. entry_size e + n) rest

-- Names.

renamed : (heads new : List (Option FileHead)) (es : List JournalEntry) (ds : List Entry) → KeepsNames heads new → AreEntries heads es ds → AreEntries new es ds
renamed heads new [] [] keeps are = tt
renamed heads new [] (d ∷ ds) keeps are = absurd are
renamed heads new (e ∷ es) [] keeps are = absurd are
renamed heads new (e ∷ es) (d ∷ ds) keeps are = (are.0, file_of e are.0 are.1, are.2, renamed heads new es ds keeps are.3)
  where
    file_of : (e : JournalEntry) (f : ℕ) → IsFileOf heads e f → IsFileOf new e f
    file_of (ChangeEntry tid serial file key before) f is = let k = keeps f is.0 is.1 in (k.0, k.1, k.2 ∙ is.2)
    file_of (PreparedEntry tid serial) f is = tt
    file_of (SettledEntry tid serial outcome moment) f is = tt

joined : (heads : List (Option FileHead)) (es fs : List JournalEntry) (ds gs : List Entry) → AreEntries heads es ds → AreEntries heads fs gs → AreEntries heads (es ++ fs) (ds ++ gs)
joined heads [] fs [] gs are more = more
joined heads [] fs (d ∷ ds) gs are more = absurd are
joined heads (e ∷ es) fs [] gs are more = absurd are
joined heads (e ∷ es) fs (d ∷ ds) gs are more = (are.0, are.1, are.2, joined heads es fs ds gs are.3 more)

entered : (heads : List (Option FileHead)) (f : ℕ) (h : FileHead) (tid serial : Id) (cs : List Change) → head_at heads f ≡ Some h → AreEntries heads (entries_for tid serial h.name cs) (map (entry_for f) (entries_for tid serial h.name cs))
entered heads f h tid serial [] there = tt
entered heads f h tid serial (c ∷ cs) there =
    let last = ChangeEntry tid serial h.name c.key c.before in
    subst (AreEntries heads (entries_for tid serial h.name cs ++ last ∷ [])) (sym (map-append (entry_for f) (entries_for tid serial h.name cs) (last ∷ [])))
    (joined heads (entries_for tid serial h.name cs) (last ∷ []) (map (entry_for f) (entries_for tid serial h.name cs)) (entry_for f last ∷ []) (entered heads f h tid serial cs there) (f, (h, there, refl), refl, tt))

-- Trimming.

trimmed : (heads : List (Option FileHead)) (us : List RecoveryUnit) (es : List JournalEntry) (ds : List Entry) → AreEntries heads es ds → AllByRecursion IsEntry ds → IsTrimmed heads us es ds
trimmed heads us [] [] are all = record { front = []; back = []; split = refl; alike = tt; size = refl }
trimmed heads us [] (d ∷ ds) are all = absurd are
trimmed heads us (e ∷ es) [] are all = absurd are
trimmed heads us (e ∷ es) (d ∷ ds) are all = step (is_of_units us e) refl (trimmed heads us es ds are.3 all.1)
  where
    first : length (spelling d) ≡ entry_size e
    first = ap (λ (x : Entry). length (spelling x)) are.2 ∙ entry_long are.0 e (subst IsEntry are.2 all.0)

    -- the entries that are left are no larger
    smaller : (fs : List JournalEntry) → entries_size (entries_from us fs) ≤ entries_size fs
    smaller [] = omega arith
    smaller (x ∷ fs) = pick (is_of_units us x) (smaller fs)
      where
        pick : (b : Bool) → entries_size (entries_from us fs) ≤ entries_size fs → entries_size (cond b (x ∷ fs) (entries_from us fs)) ≤ entry_size x + entries_size fs
        pick true less = omega arith
        pick false less = omega (arith, less)

    step : (b : Bool) → is_of_units us e ≡ b → IsTrimmed heads us es ds → IsTrimmed heads us (e ∷ es) (d ∷ ds)
    step true is later =
        let left : entries_from us (e ∷ es) ≡ e ∷ es = picked (is_of_units us e) (e ∷ es) (entries_from us es) is in
        record { front = []; back = d ∷ ds; split = refl; alike = subst (λ (xs : List JournalEntry). AreEntries heads xs (d ∷ ds)) (sym left) are; size = (let same = ap entries_size left in omega (arith, same)) }
    step false is later =
        let left : entries_from us (e ∷ es) ≡ entries_from us es = passed (is_of_units us e) (e ∷ es) (entries_from us es) is in
        record {
          front = d ∷ later.front;
          back = later.back;
          split = ap (λ (xs : List Entry). d ∷ xs) later.split;
          alike = subst (λ (xs : List JournalEntry). AreEntries heads xs later.back) (sym left) later.alike;
          size = (let whole = ap length (flat_map-cons spelling d later.front) ∙ length-append (spelling d) (flat_map spelling later.front) in let less = smaller es in (let same = ap entries_size left in omega (arith, whole, first, later.size, less, same)));
        }

pub entries_follow : EntriesFollow
entries_follow = record { sized = sized; renamed = renamed; joined = joined; entered = entered; trimmed = trimmed }
