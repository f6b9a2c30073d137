-- The units of prepared branches behind a restart are those of the node: with their changes, the files of these and what they hold.
use Rattle.std.proofs.Common.{◌≡◌, ℕ, zero, suc, ◌+◌, ◌≤◌, ◌||◌, not, List, [], ◌∷◌, Bool, true, false, Option, Some, None, if◌then◌else◌, length, map, slice_get, slice_index_or, refl, sym, ◌∙◌, ap, subst, arith}
use Rattle.std.specs.Prelude.{is_some, is_none, nat_lt}
use Rattle.std.specs.FinMap.{get}
use Rattle.std.specs.List.{AllByRecursion}
use Rattle.std.proofs.lemmas.Bool.Decides.{nat_tests}
use Rattle.std.proofs.lemmas.Nat.{from_le_bytes-to_le_bytes_4}
use Rattle.vms_model.specs.Ids.{Id}
use Rattle.vms_model.specs.Keys.{End, Key, Number, Text}
use Rattle.records_model.specs.History.{current, same_id}
use Rattle.file_base.specs.declared.head.FileHead.{FileHead}
use Rattle.file_base.specs.declared.head.Organization.{Organization as Kept}
use Rattle.file_base.specs.declared.head.Organization.TheVariants as kept
use Rattle.journal_model.specs.Entries.{Entry, has_image, spelling}
use Rattle.volume_files.specs.record_files.Any.{LaidOutBy, map_by, map_of}
use Rattle.record_locks.specs.Locks as table
use Rattle.recovery_units.specs.run_model.Locks as world
use Rattle.recovery_units.specs.run_model.World.{Durable, File, find_file}
use Rattle.recovery_units.specs.run_model.World as model
use Rattle.volume_files.specs.seq_file.Layout as sequential
use Rattle.volume_files.specs.seq_file.Records.{record_at}
use Rattle.unit_world.specs.directory_model.Files.{AreFiles, IsFile, file_at, head_at, organized_by}
use Rattle.unit_world.proofs.directory_model.Finding.{found_at}
use Rattle.unit_world.proofs.directory_model.Places.{file_there}
use Rattle.recovery_units.specs.unit_entries.Keys.{key_in}
use Rattle.recovery_units.specs.unit_entries.Reading.{changes_of, is_change_of, placed}
use Rattle.unit_laws.specs.Journal.{ChangeEntry, JournalEntry, PreparedEntry, SettledEntry}
use Rattle.rms_units.specs.unit_returns.Locking as locking
use Rattle.rms_units.specs.unit_returns.Locking.{keys_with_end, moves_end}
use Rattle.unit_world.specs.file_images.Images.{key_bytes}
use Rattle.recovery_units.specs.volume_model.Entries.{AreEntries, IsFileOf, entry_for}
use Rattle.recovery_units.specs.world_laws.Ordered.{IsKeyOf, Suits}
use Rattle.recovery_units.specs.State.{AreLocks}
use Rattle.node_units.proofs.Locking.{AreOnce, locks_more}

-- Keys as entries spell them.

key_read : (o : Kept) (h : FileHead) (key : Key) → IsKeyOf (organized_by o h) key → key_in o (key_bytes key) ≡ Some key
key_read kept.Sequential h (Number n) is = ap (λ (m : ℕ). Some (Number m)) (from_le_bytes-to_le_bytes_4 n is.1)
key_read kept.Sequential h (Text bytes) is = absurd is
key_read kept.Sequential h End is = absurd is
key_read kept.Relative h (Number n) is = ap (λ (m : ℕ). Some (Number m)) (from_le_bytes-to_le_bytes_4 n is.2)
key_read kept.Relative h (Text bytes) is = absurd is
key_read kept.Relative h End is = absurd is
key_read kept.Indexed h (Number n) is = absurd is
key_read kept.Indexed h (Text bytes) is = refl
key_read kept.Indexed h End is = absurd is

had_is : (before : Option (List ℕ)) → has_image 1 (if is_some before then 1 else 0) ≡ is_some before
had_is None = refl
had_is (Some bytes) = refl

-- a record behind the last is none
past_is : (xs : List (List ℕ)) (j : ℕ) → is_none (slice_get xs j) ≡ nat_lt (length xs) (suc j)
past_is [] j = grind (arith, nat_tests)
past_is (x ∷ xs) zero = first (length xs)
  where
    first : (n : ℕ) → false ≡ nat_lt (suc n) 1
    first n = grind (arith, nat_tests)
past_is (x ∷ xs) (suc j) = past_is xs j ∙ both (length xs) j
  where
    both : (n m : ℕ) → nat_lt n (suc m) ≡ nat_lt (suc n) (suc (suc m))
    both n m = grind (arith, nat_tests)

none_at : (xs : List (List ℕ)) (n : ℕ) → 1 ≤ n → is_none (record_at xs n) ≡ nat_lt (length xs) n
none_at xs zero le = absurd (omega (arith, le))
none_at xs (suc j) le = past_is xs j

-- What an entry lets its branch hold.

module _ (content : List (List ℕ)) (h : FileHead) (f : File) (is : IsFile content h f) (key : Key) (before : Option (List ℕ)) (suits : IsKeyOf f.organization key) where
  suits_head : IsKeyOf (organized_by h.organization h) key
  suits_head = subst (λ (o : model.Organization). IsKeyOf o key) is.head.organization suits

  moved : (o : Kept) → h.organization ≡ o → IsKeyOf (organized_by o h) key →
      (if moves_end o h.count (is_some before) key then key ∷ End ∷ [] else key ∷ []) ≡ (elim (organized_by o h) as (λ _. List Key) [
        | model.Sequential ↦ (if model.moved_end (get (current f.history) key) before then key ∷ End ∷ [] else key ∷ [])
        | model.Relative greatest ↦ key ∷ []
        | model.Indexed position size ↦ key ∷ []
      ])
  moved kept.Relative at suits = refl
  moved kept.Indexed at suits = refl
  moved kept.Sequential at suits = go key refl suits
    where
      not_had : (o : Option (List ℕ)) → not (is_some o) ≡ is_none o
      not_had None = refl
      not_had (Some bytes) = refl

      go : (k : Key) → key ≡ k → IsKeyOf model.Sequential k → (if moves_end kept.Sequential h.count (is_some before) k then k ∷ End ∷ [] else k ∷ []) ≡ (if model.moved_end (get (current f.history) k) before then k ∷ End ∷ [] else k ∷ [])
      go (Text bytes) same suits = absurd suits
      go End same suits = absurd suits
      go (Number n) same suits =
          let laid : sequential.IsLaidOut h content = subst (λ (o : Kept). LaidOutBy o h content) at is.laid in
          let map_is : map_of h content (Number n) ≡ record_at (sequential.records_in h content) n = ap (λ (o : Kept). map_by o h content (Number n)) at in
          let now : is_none (get (current f.history) (Number n)) ≡ nat_lt h.count n =
          ap is_none (is.records (Number n) ∙ map_is) ∙ none_at (sequential.records_in h content) n suits.0 ∙ ap (λ (k : ℕ). nat_lt k n) laid.count in
          λ i. if not_had before i || sym now i then Number n ∷ End ∷ [] else Number n ∷ []

  pub keys_alike : (g : ℕ) (tid by : Id) (file : List ℕ) → locking.keys_left (Some h) (entry_for g (ChangeEntry tid by file key before)) ≡ model.keys_left f key before
  keys_alike g tid by file =
      ap (λ (o : Option Key). keys_with_end h.organization h.count (has_image 1 (if is_some before then 1 else 0)) o) (key_read h.organization h key suits_head)
      ∙ ap (λ (had : Bool). if moves_end h.organization h.count had key then key ∷ End ∷ [] else key ∷ []) (had_is before)
      ∙ moved h.organization refl suits_head
      ∙ ap (λ (o : model.Organization). elim o as (λ _. List Key) [
        | model.Sequential ↦ (if model.moved_end (get (current f.history) key) before then key ∷ End ∷ [] else key ∷ [])
        | model.Relative greatest ↦ key ∷ []
        | model.Indexed position size ↦ key ∷ []
      ]) (sym is.head.organization)

-- The units of a volume that is the node's.

module _ (content : List (List ℕ)) (heads : List (Option FileHead)) (d : Durable) (files : AreFiles content heads d.directory) (once : AreOnce heads) (names : (p q : ℕ) (f g : File) → slice_index_or d.directory p None ≡ Some f → slice_index_or d.directory q None ≡ Some g → f.name ≡ g.name → p ≡ q) where
  abbrev directory : List (Option File)
  directory = d.directory

  -- the file of a head
  record IsFound (g : ℕ) (h : FileHead) : Type 0 where
    file : File
    at : file_at directory g ≡ Some file
    found : find_file h.name directory ≡ Some file
    is : IsFile content h file

  found_file : (g : ℕ) (h : FileHead) → head_at heads g ≡ Some h → IsFound g h
  found_file g h there =
      let f = file_there content heads directory g h files there in
      record {
        file = f.0;
        at = f.1;
        found = (found_at h.name directory g f.0 f.1 f.2.head.name (λ p other below at same. let one = names p g other f.0 at f.1 (same ∙ sym f.2.head.name) in omega (arith, below, one))).found;
        is = f.2;
      }

  abbrev pub changed : Id → ℕ → List Entry → List Entry
  changed x p ds = map (λ (e : ℕ × Entry). e.1) (changes_of x (placed p ds))

  -- What a branch holds.

  pub locks_by : (x : Id) (p : ℕ) (es : List JournalEntry) (ds : List Entry) → AreEntries heads es ds → AllByRecursion (Suits directory) es → (ls : List table.Lock) (ms : List world.Lock) → AreLocks heads ls ms →
      AreLocks heads (locking.relocked_by heads x (changed x p ds) ls) (model.relocked_by x directory es ms)
  locks_by x p [] [] are suit ls ms locks = locks
  locks_by x p [] (d ∷ ds) are suit ls ms locks = absurd are
  locks_by x p (e ∷ es) [] are suit ls ms locks = absurd are
  locks_by x p (e ∷ es) (d ∷ ds) are suit ls ms locks =
      subst (λ (y : Entry). AreLocks heads (locking.relocked_by heads x (map (λ (z : ℕ × Entry). z.1) (if is_change_of x y then (p, y) ∷ later else later)) ls) (model.relocked_by x directory es (model.relocked_for x directory e ms))) (sym are.2)
      (one e are.1 suit.0 (locks_by x (p + length (spelling d)) es ds are.3 suit.1))
    where
      later : List (ℕ × Entry)
      later = changes_of x (placed (p + length (spelling d)) ds)

      Rest : Type 0
      Rest = (ls : List table.Lock) (ms : List world.Lock) → AreLocks heads ls ms → AreLocks heads (locking.relocked_by heads x (map (λ (z : ℕ × Entry). z.1) later) ls) (model.relocked_by x directory es ms)

      one : (e : JournalEntry) → IsFileOf heads e are.0 → Suits directory e → Rest →
          AreLocks heads (locking.relocked_by heads x (map (λ (z : ℕ × Entry). z.1) (if is_change_of x (entry_for are.0 e) then (p, entry_for are.0 e) ∷ later else later)) ls) (model.relocked_by x directory es (model.relocked_for x directory e ms))
      one (PreparedEntry tid by) of suits rest = rest ls ms locks
      one (SettledEntry tid by outcome moment) of suits rest = rest ls ms locks
      one (ChangeEntry tid by name key before) of suits rest = go (same_id x by)
        where
          h : FileHead
          h = of.0

          f : IsFound are.0 h
          f = found_file are.0 h of.1

          held : List world.Lock
          held = elim (find_file name directory) [ Some g ↦ world.with_locks x name (model.keys_left g key before) ms | None ↦ ms ]

          found : find_file name directory ≡ Some f.file
          found = ap (λ (y : List ℕ). find_file y directory) (sym of.2) ∙ f.found

          keys : locking.keys_left (head_at heads are.0) (entry_for are.0 (ChangeEntry tid by name key before)) ≡ model.keys_left f.file key before
          keys = ap (λ (o : Option FileHead). locking.keys_left o (entry_for are.0 (ChangeEntry tid by name key before))) of.1 ∙ keys_alike content h f.file f.is key before (suits f.file found).0 are.0 tid by name

          held_is : held ≡ world.with_locks x h.name (model.keys_left f.file key before) ms
          held_is = ap (λ (o : Option File). elim o as (λ _. List world.Lock) [ Some g ↦ world.with_locks x name (model.keys_left g key before) ms | None ↦ ms ]) found ∙ ap (λ (y : List ℕ). world.with_locks x y (model.keys_left f.file key before) ms) (sym of.2)

          more : AreLocks heads (table.with_locks x are.0 (locking.keys_left (head_at heads are.0) (entry_for are.0 (ChangeEntry tid by name key before))) ls) held
          more = subst (λ (ns : List world.Lock). AreLocks heads (table.with_locks x are.0 (locking.keys_left (head_at heads are.0) (entry_for are.0 (ChangeEntry tid by name key before))) ls) ns) (sym held_is)
              (subst (λ (ks : List Key). AreLocks heads (table.with_locks x are.0 ks ls) (world.with_locks x h.name (model.keys_left f.file key before) ms)) (sym keys)
              (locks_more heads once are.0 h of.1 x (model.keys_left f.file key before) ls ms locks))

          go : (b : Bool) → AreLocks heads (locking.relocked_by heads x (map (λ (z : ℕ × Entry). z.1) (if b then (p, entry_for are.0 (ChangeEntry tid by name key before)) ∷ later else later)) ls) (model.relocked_by x directory es (if b then held else ms))
          go true = rest (table.with_locks x are.0 (locking.keys_left (head_at heads are.0) (entry_for are.0 (ChangeEntry tid by name key before))) ls) held more
          go false = rest ls ms locks
