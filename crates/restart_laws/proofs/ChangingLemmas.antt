-- What unsettled branches changed can be restored, once one of them changed more.
use Rattle.std.proofs.Common.{◌≡◌, ◌≢◌, ℕ, zero, suc, ◌+◌, ◌-◌, ◌<◌, ◌≤◌, ◌⊎◌, true, false, List, [], ◌∷◌, ◌++◌, length, map, take, drop, Option, Some, None, slice_set, refl, sym, ◌∙◌, ap, subst, inl, inr, ⊎_elim, arith}
use Rattle.std.specs.Prelude.{IsSome, IsSomeAnd}
use Rattle.std.specs.List.{All, AllByRecursion}
use Rattle.std.proofs.lemmas.Bool.{cases_lt}
use Rattle.std.proofs.lemmas.List.{take-append-drop, length-take-le, drop_all}
use Rattle.file_base.specs.declared.head.FileHead.{FileHead}
use Rattle.file_base.specs.declared.head.Organization.{Organization as Kept}
use Rattle.file_base.specs.declared.head.Organization.TheVariants.{Sequential, Relative, Indexed}
use Rattle.directory_model.specs.change_set.Files.{SameFile}
use Rattle.directory_model.specs.change_set.Maps.{Map, same_key, set_key}
use Rattle.directory_model.proofs.change_set.NumberKeys.{same_test, other_test}
use Rattle.directory_model.specs.record_files.Any as any
use Rattle.directory_model.specs.record_files.Any.{map_of, map_by, FormBy, LaidOutBy, SuitsBy, RestoresBy, IsLaidOut, Suits, Restores, room_at, room_by}
use Rattle.directory_model.specs.seq_file.Layout as sequential
use Rattle.directory_model.specs.seq_file.Layout.{IsRecord, records_in, capacity}
use Rattle.directory_model.specs.seq_file.Placing.{buckets_for}
use Rattle.directory_model.specs.seq_file.Records.{record_at, map_of_list, list_set, cut_from, slot_sizes, MaySet}
use Rattle.directory_model.proofs.seq_file.FileLaws.{used_is}
use Rattle.directory_model.proofs.seq_file.MapLaws.{map_set, map_cut}
use Rattle.directory_model.proofs.seq_file.RecordLaws.{record_at_past}
use Rattle.vms_model.specs.Ids.{Id}
use Rattle.vms_model.specs.Keys.{Key, Number, Text, End}
use Rattle.index_model.specs.records_model.Records.{Change}
use Rattle.index_model.specs.records_model.History.{LiveChanges, is_held, records, with_change, with_changes}
use Rattle.unit_laws.specs.Units.{HasLatest, Represents, SerialsDiffer, has_changes, is_changed, map_in, is_free, moves_end, end_is_free}
use Rattle.unit_laws.specs.Journal.{Journal}
use Rattle.unit_laws.proofs.Tests.{picked, passed}
use Rattle.directory_model.specs.sequence_laws.Undoing.{GoesBack}
use Rattle.world_laws.specs.run_model.Locks.{is_locked}
use Rattle.world_laws.specs.run_model.Operations.{in_order, removed}
use Rattle.world_laws.specs.run_model.World as world
use Rattle.world_laws.specs.run_model.World.{Node, File, AreUnitsOf, TellsUnits, acted, changed_file}
use Rattle.directory_model.specs.Files.{AreFiles, IsFile, IsNamed, IsWithin, file_at, organized_by}
use Rattle.directory_model.specs.Restoring.{AreRestorable, CanRestoreBy}
use Rattle.directory_model.specs.Laws.{SameBut}
use Rattle.directory_model.proofs.Acts.{same_there}
use Rattle.directory_model.proofs.Finding.{finds_files}
use Rattle.directory_model.proofs.Places.{within_list}
use Rattle.directory_model.proofs.ReadingFiles.{order_is}
use Rattle.directory_model.proofs.ReadingLists.{numbered, drop_numbered, same_records}
use Rattle.restart_laws.specs.Units.{EndIsFree, MayChange}
use Rattle.restart_laws.specs.Restorable.{ChangesRestorable}
use Rattle.restart_laws.proofs.ListLemmas.{all_as}
use Rattle.restart_laws.proofs.RestorableLemmas.{goes_same}
use Rattle.restart_laws.proofs.SequenceSetLemmas.{Goes, Holds, one_set, all_cut}
use Rattle.restart_laws.proofs.SetLemmas.{cells_set, slots_set}
use Rattle.restart_laws.proofs.StayLemmas.{others_stand, restorable_at, restorable_set}

-- The records of a sequential file as they are told.

nothing : (o : Option (List ℕ)) → o ≡ None → IsSome o → ⊥
nothing None is some = absurd cc
nothing (Some r) is some = absurd cc

is_some_at : (rs : List (List ℕ)) (n : ℕ) → 1 ≤ n → n ≤ length rs → IsSome (record_at rs n)
is_some_at [] n one within = absurd (omega (arith, one, within))
is_some_at (r ∷ rs) zero one within = absurd (omega (arith, one))
is_some_at (r ∷ rs) (suc zero) one within = refl
is_some_at (r ∷ rs) (suc (suc n)) one within = is_some_at rs (suc n) (omega arith) (omega (arith, within))

-- where a list has records up to a position, it is so long
long_so : (rs : List (List ℕ)) (n : ℕ) → (1 ≤ n → IsSome (record_at rs n)) → n ≤ length rs
long_so rs n some = ⊎_elim (λ past. absurd (behind past)) (λ within. within) (cases_lt (length rs) n)
  where
    behind : length rs < n → ⊥
    behind past = nothing (record_at rs n) (record_at_past rs n past) (some (omega (arith, past)))

-- one position of a list is another
record Sets (n : ℕ) (value : Option (List ℕ)) (now next : List (List ℕ)) : Type 0 where
  here : record_at next n ≡ value
  others : (m : ℕ) → m ≢ n → record_at next m ≡ record_at now m

sets_of : (n : ℕ) (value : Option (List ℕ)) (now next : List (List ℕ)) → map_of_list next ≡ set_key (Number n) value (map_of_list now) → Sets n value now next
sets_of n value now next sets = record {
  here = ap (λ (m : Map). m (Number n)) sets ∙ picked (same_key (Number n) (Number n)) value (record_at now n) (same_test n n refl);
  others = λ m other. ap (λ (k : Map). k (Number m)) sets ∙ passed (same_key (Number m) (Number n)) value (record_at now m) (other_test m n other);
}

there : (o : Option (List ℕ)) (r : List ℕ) → o ≡ Some r → IsSome o
there o r is = subst IsSome (sym is) refl

-- a position of a list may be set back so
abbrev TakesBack : ℕ → List (List ℕ) → Option (List ℕ) → Type 0
TakesBack n next (Some r) = (n ≡ length next + 1) ⊎ IsSomeAnd (record_at next n) (λ (old : List ℕ). length r ≡ length old)
TakesBack n next None = n ≡ length next

-- what was at a position can be set back there: so the position may be set to what it has now, to as long a record where it had one
module _ (n : ℕ) (one : 1 ≤ n) (now next : List (List ℕ)) where
  -- no position behind one that is taken off has a record
  last_gone : Sets n None now next → n ≡ length next + 1 → length now ≤ n
  last_gone sets last = ⊎_elim (λ past. absurd (longer past)) (λ within. within) (cases_lt n (length now))
    where
      longer : n < length now → ⊥
      longer past =
          let some : IsSome (record_at next (length now)) = subst IsSome (sym (sets.others (length now) (λ e. omega (arith, e, past)))) (is_some_at now (length now) (omega (arith, past)) (omega arith)) in
          nothing (record_at next (length now)) (record_at_past next (length now) (omega (arith, last, past))) some

  within_now : (r : List ℕ) → record_at now n ≡ Some r → n ≤ length now
  within_now r was = long_so now n (λ e. there (record_at now n) r was)

  abbrev Allows : Option (List ℕ) → Option (List ℕ) → Type 0
  Allows before value = MaySet n value now × ((old new : List ℕ) → before ≡ Some old → value ≡ Some new → length new ≡ length old)

  some_same : (x y : List ℕ) → Some x ≡ Some y → x ≡ y
  some_same x y e = cc

  allows : (before value : Option (List ℕ)) → record_at now n ≡ before → Sets n value now next → TakesBack n next before → Allows before value
  allows (Some r) (Some v) was sets (inl last) = absurd (nothing (record_at next n) (record_at_past next n (omega (arith, last))) (there (record_at next n) v sets.here))
  allows (Some r) (Some v) was sets (inr stands) =
      let within = within_now r was in
      let long : length r ≡ length v = subst (λ (o : Option (List ℕ)). IsSomeAnd o (λ (old : List ℕ). length r ≡ length old)) sets.here stands in (
        (one, omega (arith, within)),
        λ old new is now_is. ap length (sym (some_same v new now_is)) ∙ sym long ∙ ap length (some_same r old is),
      )
  allows (Some r) None was sets (inl last) = let within = within_now r was in let most = last_gone sets last in ((one, omega (arith, within, most)), λ old new is now_is. let never : ⊥ = cc in absurd never)
  allows (Some r) None was sets (inr stands) = let bad : IsSomeAnd None (λ (old : List ℕ). length r ≡ length old) = subst (λ (o : Option (List ℕ)). IsSomeAnd o (λ (old : List ℕ). length r ≡ length old)) sets.here stands in absurd bad
  allows None (Some v) was sets last =
      let long = long_so now (n - 1) (λ some. subst IsSome (sets.others (n - 1) (λ e. omega (arith, one, e))) (is_some_at next (n - 1) some (omega (arith, last)))) in
      ((one, omega (arith, long)), λ old new is now_is. let never : ⊥ = cc in absurd never)
  allows None None was sets last = absurd (nothing (record_at next n) sets.here (is_some_at next n one (omega (arith, last))))

takes_back : (new : FileHead) (b : List (List ℕ)) (n : ℕ) (v : Option (List ℕ)) → sequential.IsLaidOut new b → sequential.Takes new b (Number n) v → TakesBack n (records_in new b) v
takes_back new b n None laid takes = takes ∙ sym laid.count
takes_back new b n (Some r) laid (inl next) = inl (next.0 ∙ ap (λ m. m + 1) (sym laid.count))
takes_back new b n (Some r) laid (inr stands) = inr stands

-- Sequential files.

number_of : (h : FileHead) (key : Key) (v : Option (List ℕ)) → sequential.Suits h key v → (n : ℕ) × (key ≡ Number n) × (1 ≤ n)
number_of h (Number n) v suits = (n, refl, suits.0)
number_of h (Text t) v suits = absurd suits
number_of h End v suits = absurd suits

-- what goes back in a list goes back in the file that has it
goes_in : (h new : FileHead) (b next : List (List ℕ)) (ls : List LiveChanges) → SameFile h new → next ≡ records_in new b → AllByRecursion (λ (l : LiveChanges). Goes h next l.changes) ls → AllByRecursion (λ (l : LiveChanges). CanRestoreBy Sequential new b l.changes) ls
goes_in h new b next ls same is goes = all_as (λ (l : LiveChanges). Goes h next l.changes) (λ (l : LiveChanges). CanRestoreBy Sequential new b l.changes) ls
    (λ l g. (g.0, goes_same h new l.changes (records_in new b) g.0 same (subst (λ (x : List (List ℕ)). GoesBack h l.changes x g.0) is g.1))) goes

-- what each branch left stands
abbrev AllLatest : Map → List LiveChanges → Type 0
AllLatest m ls = AllByRecursion (λ (l : LiveChanges). HasLatest m l.changes) ls

holds_file : (h : FileHead) (a : List (List ℕ)) (ls : List LiveChanges) (committed : Map) → sequential.IsSequential h → sequential.IsLaidOut h a → Represents ls (sequential.map_of h a) committed → AllLatest (sequential.map_of h a) ls → SerialsDiffer ls →
    AllByRecursion (λ (l : LiveChanges). CanRestoreBy Sequential h a l.changes) ls → Holds h ls (records_in h a) committed
holds_file h a ls committed form laid represents latest differ can = record {
  represents = represents;
  goes = can;
  latest = latest;
  differ = differ;
  records = laid.records;
  fits = let placed = used_is h a form.one laid in omega (arith, placed, form.used);
}

positions_set : (h new : FileHead) (a b : List (List ℕ)) (s : Id) (key : Key) (value : Option (List ℕ)) (ls : List LiveChanges) (committed : Map) → sequential.IsSequential h → sequential.IsLaidOut h a → sequential.Suits h key value → SameFile h new → sequential.IsSequential new →
    sequential.IsLaidOut new b → sequential.map_of new b ≡ set_key key value (sequential.map_of h a) → sequential.Takes new b key (sequential.map_of h a key) → Represents ls (sequential.map_of h a) committed → AllLatest (sequential.map_of h a) ls → SerialsDiffer ls → is_free s ls key ≡ true →
    (moves_end (record { key = key; before = sequential.map_of h a key; after = value } ∷ []) ≡ true → end_is_free s ls ≡ true) → AllByRecursion (λ (l : LiveChanges). CanRestoreBy Sequential h a l.changes) ls →
    AllByRecursion (λ (l : LiveChanges). CanRestoreBy Sequential new b l.changes) (with_change s (record { key = key; before = sequential.map_of h a key; after = value }) ls)
positions_set h new a b s key value ls committed form laid suits same form_new laid_new sets restores represents latest differ free ends can =
    let at = number_of h key value suits in
    let n = at.0 in
    let now = records_in h a in
    let next = records_in new b in
    let c : Change = record { key = key; before = map_of_list now key; after = value } in
    let numbered_sets : map_of_list next ≡ set_key (Number n) value (map_of_list now) = sets ∙ ap (λ k. set_key k value (map_of_list now)) at.1 in
    let back : sequential.Takes new b (Number n) (record_at now n) = subst (λ (k : Key). sequential.Takes new b k (map_of_list now k)) at.1 restores in
    let allowed = allows n at.2 now next (record_at now n) value refl (sets_of n value now next numbered_sets) (takes_back new b n (record_at now n) laid_new back) in
    let found : map_of_list now key ≡ record_at now n = ap (map_of_list now) at.1 in
    let is : list_set n value now ≡ next = same_records (list_set n value now) next (map_set n value now allowed.0 ∙ sym numbered_sets) in
    let mrs : new.mrs ≡ h.mrs = ap (λ (x : FileHead). x.mrs) same.is in
    let bucket : capacity new ≡ capacity h = ap capacity same.is in
    let alloc : new.alloc ≡ h.alloc = ap (λ (x : FileHead). x.alloc) same.is in
    let records : All (IsRecord h.mrs) (list_set n value now) = subst (All (IsRecord h.mrs)) (sym is) (subst (λ (m : ℕ). All (IsRecord m) next) mrs laid_new.records) in
    let placed : buckets_for (capacity new) (slot_sizes next) ≤ new.alloc = (let used = used_is new b form_new.one laid_new in omega (arith, used, form_new.used)) in
    let fits : buckets_for (capacity h) (slot_sizes (list_set n value now)) ≤ h.alloc = subst (λ (x : List (List ℕ)). buckets_for (capacity h) (slot_sizes x) ≤ h.alloc) (sym is)
    (subst (λ (m : ℕ). buckets_for m (slot_sizes next) ≤ h.alloc) bucket (subst (λ (m : ℕ). buckets_for (capacity new) (slot_sizes next) ≤ m) alloc placed)) in
    let after = one_set h s c n ls now committed (holds_file h a ls committed form laid represents latest differ can)
    (record { key = at.1; found = found; may = allowed.0; long = λ old new_one was later. allowed.1 old new_one (sym found ∙ was) later }) free ends records fits in
    goes_in h new b (list_set n value now) (with_change s c ls) same is after.goes

-- Any file.

-- where changes move the end of a sequential file, that is free
end_told : (o : Kept) (h : FileHead) (w : world.Organization) (s : Id) (cs : List Change) (ls : List LiveChanges) → w ≡ organized_by o h → EndIsFree w s cs ls → o ≡ Sequential → moves_end cs ≡ true → end_is_free s ls ≡ true
end_told Sequential h w s cs ls is ends e = subst (λ (x : world.Organization). EndIsFree x s cs ls) is ends
end_told Relative h w s cs ls is ends e = let bad : ⊥ = cc in absurd bad
end_told Indexed h w s cs ls is ends e = let bad : ⊥ = cc in absurd bad

set_by : (o : Kept) (h new : FileHead) (a b : List (List ℕ)) (s : Id) (key : Key) (value : Option (List ℕ)) (ls : List LiveChanges) (committed : Map) → FormBy o h → LaidOutBy o h a → IsWithin a h → SuitsBy o h key value → SameFile h new → FormBy o new → LaidOutBy o new b →
    map_by o new b ≡ set_key key value (map_by o h a) → RestoresBy o new b key (map_by o h a key) → ((other : Key) → is_changed ls other ≡ true → room_by o h a other ≤ room_by o new b other) → Represents ls (map_by o h a) committed → AllLatest (map_by o h a) ls → SerialsDiffer ls → is_free s ls key ≡ true →
    (o ≡ Sequential → moves_end (record { key = key; before = map_by o h a key; after = value } ∷ []) ≡ true → end_is_free s ls ≡ true) → AllByRecursion (λ (l : LiveChanges). CanRestoreBy o h a l.changes) ls →
    AllByRecursion (λ (l : LiveChanges). CanRestoreBy o new b l.changes) (with_change s (record { key = key; before = map_by o h a key; after = value }) ls)
set_by Sequential h new a b s key value ls committed form laid within suits same form_new laid_new sets restores rooms represents latest differ free ends can =
    positions_set h new a b s key value ls committed form laid suits same form_new laid_new sets restores represents latest differ free (ends refl) can
set_by Relative h new a b s key value ls committed form laid within suits same form_new laid_new sets restores rooms represents latest differ free ends can = cells_set h new a b s key value ls form within suits same differ can
set_by Indexed h new a b s key value ls committed form laid within suits same form_new laid_new sets restores rooms represents latest differ free ends can = slots_set h new a b s key value ls laid suits same differ restores rooms can

represents_file : (a : List (List ℕ)) (h : FileHead) (file : File) (j : Journal) → TellsUnits j file → IsFile a h file → Represents file.history.live (map_of h a) (map_in (records file.history))
represents_file a h file j units is = subst (λ (m : Map). Represents file.history.live m (map_in (records file.history))) (λ i key. is.records key i) units.notes.orderly.represents

latest_file : (a : List (List ℕ)) (h : FileHead) (file : File) (j : Journal) → TellsUnits j file → IsFile a h file → AllLatest (map_of h a) file.history.live
latest_file a h file j units is = subst (λ (m : Map). AllLatest m file.history.live) (λ i key. is.records key i) units.notes.orderly.latest

sets : (a b : List (List ℕ)) (heads : List (Option FileHead)) (n : Node) (f : ℕ) (h new : FileHead) (name : List ℕ) (file : File) (tid serial : Id) (key : Key) (value : Option (List ℕ)) (keys : List Key) → AreFiles a heads n.durable.directory → AreUnitsOf n →
    IsNamed heads f h name → file_at n.durable.directory f ≡ Some file → MayChange serial file (record { key = key; before = map_of h a key; after = value } ∷ []) → IsWithin a h → Suits h key value →
    SameFile h new → any.IsFile new → IsLaidOut new b → map_of new b ≡ set_key key value (map_of h a) → Restores new b key (map_of h a key) → ((other : Key) → is_held file.history other ≡ true → room_at h a other ≤ room_at new b other) → SameBut f heads a b →
    AreRestorable a heads n.durable.directory → AreRestorable b (slice_set heads f (Some new)) (acted (world.Changes tid serial name (record { key = key; before = map_of h a key; after = value } ∷ []) keys) n).durable.directory
sets a b heads n f h new name file tid serial key value keys are units named at_f may within suits same form laid now restores rooms others can =
    let directory = n.durable.directory in
    let held = is_locked n.volatile.locks name in
    let cs : List Change = record { key = key; before = map_of h a key; after = value } ∷ [] in
    let at = finds_files.found a heads directory f h name are named in
    let one : at.0 ≡ file = same_there directory f at.0 file at.2.there at_f in
    let mine : IsFile a h file = subst (IsFile a h) one at.1 in
    let tells = units.tells f file at_f in
    let below = within_list heads f h named.there in let long = are.heads_long in let long_too = are.directory_long in
    let is : new.organization ≡ h.organization = ap (λ (x : FileHead). x.organization) same.is in
    subst (AreRestorable b (slice_set heads f (Some new))) (sym (at.2.changed (changed_file held tid serial cs) ∙ ap (λ (x : File). slice_set directory f (Some (changed_file held tid serial cs x))) one))
    (restorable_set b heads directory f new (changed_file held tid serial cs file) below (omega arith)
    (subst (λ (o : Kept). AllByRecursion (λ (l : LiveChanges). CanRestoreBy o new b l.changes) (changed_file held tid serial cs file).history.live) (sym is)
    (set_by h.organization h new a b serial key value file.history.live (map_in (records file.history)) mine.head.form mine.laid within suits same (subst (λ (o : Kept). FormBy o new) is form) (subst (λ (o : Kept). LaidOutBy o new b) is laid)
    (ap (λ o. map_by o new b) (sym is) ∙ now) (subst (λ (o : Kept). RestoresBy o new b key (map_of h a key)) is restores) (λ other there. subst (λ (o : Kept). room_at h a other ≤ room_by o new b other) is (rooms other there))
    (represents_file a h file n.durable.units tells mine) (latest_file a h file n.durable.units tells mine) tells.notes.differ may.keys.0 (end_told h.organization h file.organization serial cs file.history.live mine.head.organization may.end) (restorable_at a heads directory f h file named.there at_f can)))
    (λ g other. others_stand a b heads directory f g are others can other))

-- A sequential file is cut.

some_gone : (n : ℕ) (rs : List (List ℕ)) → has_changes (map removed (numbered n rs)) ≡ true → moves_end (map removed (numbered n rs)) ≡ true
some_gone n [] some = absurd cc
some_gone n (r ∷ rs) some = refl

positions_cut : (h new : FileHead) (a b : List (List ℕ)) (s : Id) (from : ℕ) (ls : List LiveChanges) (committed : Map) → sequential.IsSequential h → sequential.IsLaidOut h a → 1 ≤ from → SameFile h new → sequential.map_of new b ≡ cut_from from (sequential.map_of h a) →
    Represents ls (sequential.map_of h a) committed → AllLatest (sequential.map_of h a) ls → SerialsDiffer ls → has_changes (map removed (numbered from (drop (from - 1) (records_in h a)))) ≡ true →
    AllByRecursion (λ (c : Change). is_free s ls c.key ≡ true) (map removed (numbered from (drop (from - 1) (records_in h a)))) → end_is_free s ls ≡ true → AllByRecursion (λ (l : LiveChanges). CanRestoreBy Sequential h a l.changes) ls →
    AllByRecursion (λ (l : LiveChanges). CanRestoreBy Sequential new b l.changes) (with_changes s (map removed (numbered from (drop (from - 1) (records_in h a)))) ls)
positions_cut h new a b s from ls committed form laid one same now represents latest differ some free ends can =
    let rs = records_in h a in
    let few : from - 1 ≤ length rs = ⊎_elim (λ past. absurd (none_gone rs some past)) (λ within. within) (cases_lt (length rs) (from - 1)) in
    let left : take (from - 1) rs ≡ records_in new b = sym (same_records (records_in new b) (take (from - 1) rs) (now ∙ sym (map_cut from rs one))) in
    let whole : rs ≡ take (from - 1) rs ++ drop (from - 1) rs = sym (take-append-drop (from - 1) rs) in
    let size = length-take-le (from - 1) rs few in
    let after = all_cut h s ls (take (from - 1) rs) (drop (from - 1) rs) from committed (omega (arith, size, one)) (subst (λ (x : List (List ℕ)). Holds h ls x committed) whole (holds_file h a ls committed form laid represents latest differ can)) free ends in
    goes_in h new b (take (from - 1) rs) (with_changes s (map removed (numbered from (drop (from - 1) rs))) ls) same left after.goes
  where
    none_gone : (rs : List (List ℕ)) → has_changes (map removed (numbered from (drop (from - 1) rs))) ≡ true → length rs < from - 1 → ⊥
    none_gone rs some past = let none : false ≡ true = ap (λ (xs : List (List ℕ)). has_changes (map removed (numbered from xs))) (sym (drop_all (from - 1) rs (omega (arith, past)))) ∙ some in cc

cuts : (a b : List (List ℕ)) (heads : List (Option FileHead)) (n : Node) (f from : ℕ) (h new : FileHead) (name : List ℕ) (file : File) (tid serial : Id) (keys : List Key) → AreFiles a heads n.durable.directory → AreUnitsOf n →
    IsNamed heads f h name → file_at n.durable.directory f ≡ Some file → h.organization ≡ Sequential → 1 ≤ from → MayChange serial file (map removed (drop (from - 1) (in_order file))) →
    SameFile h new → any.IsFile new → IsLaidOut new b → map_of new b ≡ cut_from from (map_of h a) → SameBut f heads a b →
    AreRestorable a heads n.durable.directory → AreRestorable b (slice_set heads f (Some new)) (acted (world.Changes tid serial name (map removed (drop (from - 1) (in_order file))) keys) n).durable.directory
cuts a b heads n f from h new name file tid serial keys are units named at_f seq one may same form laid now others can =
    let directory = n.durable.directory in
    let held = is_locked n.volatile.locks name in
    let at = finds_files.found a heads directory f h name are named in
    let same_file : at.0 ≡ file = same_there directory f at.0 file at.2.there at_f in
    let mine : IsFile a h file = subst (IsFile a h) same_file at.1 in
    let tells = units.tells f file at_f in
    let below = within_list heads f h named.there in let long = are.heads_long in let long_too = are.directory_long in
    let is : new.organization ≡ Sequential = ap (λ (x : FileHead). x.organization) same.is ∙ seq in
    let rs = records_in h a in
    let place : 1 + (from - 1) ≡ from = omega (arith, one) in
    let entries_are : drop (from - 1) (in_order file) ≡ numbered from (drop (from - 1) rs) =
    ap (drop (from - 1)) (order_is a h file mine seq) ∙ drop_numbered (from - 1) 1 rs ∙ ap (λ m. numbered m (drop (from - 1) rs)) place in
    let gone : List Change = map removed (numbered from (drop (from - 1) rs)) in
    let cs_are : map removed (drop (from - 1) (in_order file)) ≡ gone = ap (map removed) entries_are in
    let may_cut : MayChange serial file gone = subst (MayChange serial file) cs_are may in
    let moved : moves_end gone ≡ true = some_gone from (drop (from - 1) rs) may_cut.some in
    subst (λ (cs : List Change). AreRestorable b (slice_set heads f (Some new)) (acted (world.Changes tid serial name cs keys) n).durable.directory) (sym cs_are)
    (subst (AreRestorable b (slice_set heads f (Some new))) (sym (at.2.changed (changed_file held tid serial gone) ∙ ap (λ (x : File). slice_set directory f (Some (changed_file held tid serial gone x))) same_file))
    (restorable_set b heads directory f new (changed_file held tid serial gone file) below (omega arith)
    (subst (λ (o : Kept). AllByRecursion (λ (l : LiveChanges). CanRestoreBy o new b l.changes) (changed_file held tid serial gone file).history.live) (sym is)
    (positions_cut h new a b serial from file.history.live (map_in (records file.history)) (subst (λ (o : Kept). FormBy o h) seq mine.head.form) (subst (λ (o : Kept). LaidOutBy o h a) seq mine.laid) one same
    (ap (λ o. map_by o new b) (sym is) ∙ now ∙ ap (λ o. cut_from from (map_by o h a)) seq) (subst (λ (o : Kept). Represents file.history.live (map_by o h a) (map_in (records file.history))) seq (represents_file a h file n.durable.units tells mine))
    (subst (λ (o : Kept). AllLatest (map_by o h a) file.history.live) seq (latest_file a h file n.durable.units tells mine)) tells.notes.differ may_cut.some may_cut.keys
    (end_told h.organization h file.organization serial gone file.history.live mine.head.organization may_cut.end seq moved)
    (subst (λ (o : Kept). AllByRecursion (λ (l : LiveChanges). CanRestoreBy o h a l.changes) file.history.live) seq (restorable_at a heads directory f h file named.there at_f can))))
    (λ g other. others_stand a b heads directory f g are others can other)))

pub changes_restorable : ChangesRestorable
changes_restorable = record { sets = sets; cuts = cuts }
