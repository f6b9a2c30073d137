-- What refuses a truncation for a unit, and for the branch that the unit is.
use Rattle.std.proofs.Common.{◌≡◌, ℕ, ◌+◌, ◌-◌, ◌≤◌, ◌++◌, List, [], ◌∷◌, Bool, true, false, not, Option, Some, None, if◌then◌else◌, length, map, drop, reverse, refl, sym, ◌∙◌, ap, arith, inl, inr, append-nil, subst}
use Rattle.std.proofs.lemmas.Bool.Decides.{nat_tests}
use Rattle.std.proofs.lemmas.List.{reverse-append}
use Rattle.std.specs.Prelude.{◌==◌, nat_le, nat_lt, option_map}
use Rattle.std.specs.List.{AllByRecursion}
use Rattle.std.specs.FinMap.{entries_sorted, get}
use Rattle.vms_model.specs.Limits.{change_limit}
use Rattle.commit_protocol.specs.Table.{Branch}
use Rattle.file_base.specs.declared.head.FileHead.{FileHead}
use Rattle.file_base.specs.declared.head.Organization.TheVariants as kept_by
use Rattle.transcript_model.specs.Lines as line
use Rattle.transcript_model.specs.Lines.{Line}
use Rattle.vms_model.specs.Ids.{Id}
use Rattle.vms_model.specs.Keys.{Key, End}
use Rattle.volume.specs.State.{VolumeState}
use Rattle.change_set.specs.Maps.{Map, empty_map}
use Rattle.records_model.specs.Records.{Change, Records}
use Rattle.records_model.specs.History.{changed_it, current}
use Rattle.recovery_model.specs.File.{all_of}
use Rattle.recovery_model.specs.Images.{afters, befores}
use Rattle.recovery_model.specs.Journal.{is_settled}
use Rattle.recovery_model.specs.Room.{changes_length}
use Rattle.recovery_units.specs.image_room.Room.{images_refused}
use Rattle.unit_laws.specs.Units.{has_changes}
use Rattle.volume_files.specs.record_files.Any.{map_of}
use Rattle.record_operations.specs.Causes.{Cause, Changes, JournalFull, NotForUnits, RecordNotFound, cause_if, first_cause}
use Rattle.record_operations.specs.Forms as form
use Rattle.record_operations.specs.declared.ops.RecordOp.TheVariants as op
use Rattle.rms_units.specs.unit_journal.Room as room
use Rattle.unit_laws.specs.Journal as journal
use Rattle.unit_laws.specs.Journal.{ChangeEntry, entries_for, entries_size, find_unit, units_in}
use Rattle.unit_laws.proofs.TrimLemmas.{size_append}
use Rattle.unit_table.specs.Places.{AreInOrder}
use Rattle.unit_table.specs.Units.{OpenUnit, has_changed, unit_at}
use Rattle.recovery_units.specs.run_model.Answers as answers
use Rattle.recovery_units.specs.run_model.Answers.{found_refused, images_full, is_marked, journal_full, journal_need, keys_refused, more_changes, more_locks}
use Rattle.recovery_units.specs.run_model.Operations.{changes_of, data_refused, file_full, first_of, form_refused, free_buckets, in_order, keys_asked, keys_held, refused_if, removed}
use Rattle.recovery_units.specs.run_model.World.{File, Node, changes_made, find_branch, find_file}
use Rattle.recovery_units.proofs.world_laws.FoundLemmas.{all_got, dropped, sorted_in}
use Rattle.script_model.specs.Statements.{Operation, Truncate}
use Rattle.unit_world.specs.directory_model.Files.{IsCarried, IsFile, IsFoundAt, IsNamed, file_at, head_at}
use Rattle.unit_world.proofs.directory_model.Finding.{finds_files}
use Rattle.recovery_units.specs.Calls.{cause_line, unit_refused_after_reading, unit_refused_before_reading}
use Rattle.recovery_units.specs.State.{IsKept, IsOfBranch, changed_at}
use Rattle.recovery_units.proofs.FormLemmas.{forms, line_if, lines_first}
use Rattle.rms_units.specs.Calls as rms
use Rattle.rms_units.specs.key_changes.Changing as changing
use Rattle.rms_units.specs.State as state
use Rattle.rms_units.specs.State.{IsInOrder}
use Rattle.rms_units.specs.Truncating.{CutRefused, cut_asked, cut_refused_before_reading, number_refused}
use Rattle.rms_units.specs.unit_cuts.Truncating.{entry_sizes, keys_cut, removed_from}
use Rattle.log_laws.specs.Slots.{Slots}
use Rattle.commit_protocol.specs.Allowed.{is_prepared}
use Rattle.recovery_units.specs.world_laws.Nodes.{IsUp}
use Rattle.node_units.specs.Seen.{seen}
use Rattle.node_units.proofs.AskedCut.{data_alike, keys_alike, many_alike}
use Rattle.node_units.proofs.Branches.{found_there}
use Rattle.node_units.proofs.Holding.{once_of}
use Rattle.node_units.proofs.ImagesAlike.{images_alike, left_open}
use Rattle.node_units.proofs.KeyMade.{same_file}
use Rattle.node_units.proofs.KeyRefusals.{entry_sized, first_end, key_size, owed_first_is}
use Rattle.node_units.proofs.Locking.{AreOnce}
use Rattle.node_units.proofs.Looking.{first_again, first_some}
use Rattle.node_units.proofs.ReadLemmas.{asked_file, below_none, first_none, line_none}
use Rattle.node_units.proofs.Refusing.{locks_alike, marked_alike, more_alike}
use Rattle.node_units.proofs.UnitCounts.{branch_is, counted, free_is, is_there, unit_is}

abbrev pub Entries : Type 0
Entries = List (Key × List ℕ)

-- The bytes of the entries.

sizes_more : (m : Map) (ks : List Key) (k : Key) → entry_sizes m (ks ++ k ∷ []) ≡ entry_sizes m ks + room.entry_size k (m k)
sizes_more m [] k = omega arith
sizes_more m (q ∷ ks) k = let rest = sizes_more m ks k in omega (arith, rest)

sizes_alike : (tid serial : Id) (name : List ℕ) (m : Map) (es : Entries) → AllByRecursion (λ (e : Key × List ℕ). m e.0 ≡ Some e.1) es → entries_size (entries_for tid serial name (map removed es)) ≡ entry_sizes m (reverse (map (λ e. e.0) es))
sizes_alike tid serial name m [] all = refl
sizes_alike tid serial name m (e ∷ es) all =
    let rest = sizes_alike tid serial name m es all.1 in
    let more = size_append (entries_for tid serial name (map removed es)) (ChangeEntry tid serial name e.0 (Some e.1) ∷ []) in
    let one : journal.entry_size (ChangeEntry tid serial name e.0 (Some e.1)) ≡ room.entry_size e.0 (m e.0) = entry_sized tid serial name e.0 (Some e.1) ∙ ap (room.entry_size e.0) (sym all.0) in
    let back : entry_sizes m (reverse (map (λ e. e.0) (e ∷ es))) ≡ entry_sizes m (reverse (map (λ e. e.0) es)) + room.entry_size e.0 (m e.0) =
    ap (entry_sizes m) (reverse-append (e.0 ∷ []) (map (λ e. e.0) es)) ∙ sizes_more m (reverse (map (λ e. e.0) es)) e.0 in
    omega (arith, rest, more, one, back)

-- the images of records that go, and of nothing
befores_long : (m : Map) (es : Entries) → AllByRecursion (λ (e : Key × List ℕ). m e.0 ≡ Some e.1) es → changes_length (befores (map removed es)) ≡ entry_sizes m (reverse (map (λ e. e.0) es))
befores_long m [] all = refl
befores_long m (e ∷ es) all =
    let rest = befores_long m es all.1 in
    let k = key_size e.0 in
    let one : room.entry_size e.0 (Some e.1) ≡ room.entry_size e.0 (m e.0) = ap (room.entry_size e.0) (sym all.0) in
    let back : entry_sizes m (reverse (map (λ e. e.0) (e ∷ es))) ≡ entry_sizes m (reverse (map (λ e. e.0) es)) + room.entry_size e.0 (m e.0) =
    ap (entry_sizes m) (reverse-append (e.0 ∷ []) (map (λ e. e.0) es)) ∙ sizes_more m (reverse (map (λ e. e.0) es)) e.0 in
    omega (arith, rest, k, one, back)

afters_long : (es : Entries) → changes_length (afters (map removed es)) ≡ entry_sizes empty_map (reverse (map (λ e. e.0) es))
afters_long [] = refl
afters_long (e ∷ es) =
    let rest = afters_long es in
    let k = key_size e.0 in
    let back : entry_sizes empty_map (reverse (map (λ e. e.0) (e ∷ es))) ≡ entry_sizes empty_map (reverse (map (λ e. e.0) es)) + room.entry_size e.0 None =
    ap (entry_sizes empty_map) (reverse-append (e.0 ∷ []) (map (λ e. e.0) es)) ∙ sizes_more empty_map (reverse (map (λ e. e.0) es)) e.0 in
    omega (arith, rest, k, back)

pub some_made : (cs : List Change) → 1 ≤ length cs → has_changes cs ≡ true
some_made [] some = absurd (omega (arith, some))
some_made (c ∷ cs) some = refl

all_told : (m : Map) (r : Records) (es : Entries) → ((k : Key) → get r k ≡ m k) → AllByRecursion (λ (e : Key × List ℕ). get r e.0 ≡ Some e.1) es → AllByRecursion (λ (e : Key × List ℕ). m e.0 ≡ Some e.1) es
all_told m r [] same all = tt
all_told m r (e ∷ es) same all = (sym (same e.0) ∙ all.0, all_told m r es same all.1)

pub some_position : (count from : ℕ) → (removed_from count from == 0) ≡ false → (1 ≤ from) × (1 ≤ removed_from count from)
some_position count from some = grind (arith, nat_tests)

at_least : (from : ℕ) → 1 ≤ from → nat_le 1 from ≡ true
at_least from one = grind (arith, nat_tests)

pub none_if : (t : Bool) (c : Cause) → cause_if t c ≡ None → t ≡ false
none_if true c none = let never : ⊥ = cc in absurd never
none_if false c none = refl

again : (a b c : Option Cause) → first_cause a (first_cause b c) ≡ first_cause (first_cause a b) c
again None b c = refl
again (Some x) b c = refl

-- the records that go, and their keys
pub told_going : (content : List (List ℕ)) (h : FileHead) (file : File) (from : ℕ) → IsFile content h file → AllByRecursion (λ (e : Key × List ℕ). map_of h content e.0 ≡ Some e.1) (drop (from - 1) (in_order file))
told_going content h file from is = all_told (map_of h content) (current file.history) (drop (from - 1) (in_order file)) is.records
    (dropped (λ e. get (current file.history) e.0 ≡ Some e.1) (from - 1) (in_order file) (all_got (current file.history) (in_order file) (sorted_in (in_order file) (entries_sorted (current file.history)))))

pub keys_going : (content : List (List ℕ)) (h : FileHead) (file : File) (from : ℕ) → IsFile content h file → h.organization ≡ kept_by.Sequential → 1 ≤ from → keys_cut h from ≡ reverse (map (λ e. e.0) (drop (from - 1) (in_order file)))
keys_going content h file from is kind one = tail_same (sym (keys_alike content h file is kind from) ∙ ap (λ (t : Bool). End ∷ (if t then reverse (map (λ e. e.0) (drop (from - 1) (in_order file))) else [])) (at_least from one))
  where
    tail_same : {xs ys : List Key} → ◌≡◌ {A = List Key} (End ∷ xs) (End ∷ ys) → xs ≡ ys
    tail_same e = cc

-- so many bytes their images take
pub images_long : (content : List (List ℕ)) (h : FileHead) (file : File) (from : ℕ) → IsFile content h file → h.organization ≡ kept_by.Sequential → 1 ≤ from →
    (entry_sizes empty_map (keys_cut h from) ≡ changes_length (afters (changes_of file (Truncate from)))) × (entry_sizes (map_of h content) (keys_cut h from) ≡ changes_length (befores (changes_of file (Truncate from))))
images_long content h file from is kind one = (
  ap (entry_sizes empty_map) (keys_going content h file from is kind one) ∙ sym (afters_long (drop (from - 1) (in_order file))),
  ap (entry_sizes (map_of h content)) (keys_going content h file from is kind one) ∙ sym (befores_long (map_of h content) (drop (from - 1) (in_order file)) (told_going content h file from is)),
)

module _ (s : state.UnitsState) (v : VolumeState) (order : IsInOrder s v) (at : AreInOrder s.units.places s.units.order) (place : ℕ) (u : OpenUnit) (at_place : unit_at s.units.places place ≡ Some u) (n : Node) (file : File) (b : Branch) (h : FileHead) (log : Slots) (up : IsUp n) (unprepared : is_prepared b.state ≡ false)
    (kept : IsKept (seen s log) v n) (f from : ℕ) (there : head_at v.catalog.heads f ≡ Some h) (found : find_file h.name n.durable.directory ≡ Some file) (found_b : find_branch u.serial n.volatile.branches ≡ Some b) (allowed : rms.change_refused_before_reading h (op.Truncate f from) [] ≡ None) where
  abbrev said : Operation
  said = Truncate from

  abbrev count : ℕ
  count = removed_from h.count from

  abbrev keys : List Key
  keys = cut_asked h from

  once : AreOnce v.catalog.heads
  once = once_of v.catalog.home.node v.store.disk.size v.catalog order.sound order.heads

  pub cut_file : IsFile kept.content h file
  cut_file = asked_file kept.content v.catalog.heads n f h file kept.has.files kept.has.units there found

  pub cut_own : IsOfBranch u b
  cut_own = branch_is s log v order at n up kept place u at_place b found_b

  parts : (form.truncate_refused h ≡ None) × (cause_if (not h.marks.ru) NotForUnits ≡ None)
  parts = first_none (form.truncate_refused h) (cause_if (not h.marks.ru) NotForUnits) allowed

  pub cut_kind : h.organization ≡ kept_by.Sequential
  cut_kind = sequential h.organization parts.0
    where
      sequential : (o : _) → form.truncate_refused_by o ≡ None → o ≡ kept_by.Sequential
      sequential kept_by.Sequential none = refl
      sequential kept_by.Relative none = let never : ⊥ = cc in absurd never
      sequential kept_by.Indexed none = let never : ⊥ = cc in absurd never

  form_none : form_refused file said ≡ None
  form_none = line_none (form.truncate_refused h) (form_refused file said) (forms.changes h file (op.Truncate f from) [] cut_file.head tt) parts.0

  mark_none : is_marked file ≡ None
  mark_none = line_none (cause_if (not h.marks.ru) NotForUnits) (is_marked file) (marked_alike h file cut_file.head) parts.1

  abbrev L : Option Line
  L = keys_refused n (Some b.key.serial) h.name (keys_asked file said)

  locks_are : option_map cause_line (changing.locks_refuse (Some u.serial) f keys s.locks) ≡ L
  locks_are =
      locks_alike v.catalog.heads once f h there n s.locks kept.locks (Some u.serial) keys
      ∙ (λ i. keys_refused n (Some (sym cut_own.serial i)) h.name (sym (keys_alike kept.content h file cut_file cut_kind from) i))

  early_is : unit_refused_before_reading n b h.name file said ≡ L
  early_is = λ i. first_of (form_none i) (first_of (mark_none i) L)

  -- The file of this number, with its journals of images.

  at_file : (x : File) × IsFile kept.content h x × IsFoundAt h.name n.durable.directory f x × IsCarried kept.content f h x.carried
  at_file = finds_files.found kept.content v.catalog.heads n.durable.directory f h h.name kept.has.files named
    where
      named : IsNamed v.catalog.heads f h h.name
      named = record { there = there; called = refl; lowest = λ g other less at_g same. let e = once g f other h at_g there same in absurd (omega (arith, e, less)) }

  found_is : at_file.0 ≡ file
  found_is = same_file at_file.0 file (sym at_file.2.found ∙ found)

  pub cut_at : file_at n.durable.directory f ≡ Some file
  cut_at = at_file.2.there ∙ ap Some found_is

  pub cut_carried : IsCarried kept.content f h file.carried
  cut_carried = subst (λ (x : File). IsCarried kept.content f h x.carried) found_is at_file.3

  -- Late refusals.

  abbrev Data : Option Cause
  Data = cause_if (count == 0) RecordNotFound

  abbrev Many : Option Cause
  Many = cause_if (nat_lt 1024 (length u.positions + count)) Changes

  abbrev Held : Option Cause
  Held = changing.keys_refused f keys s.locks

  abbrev Room : Option Cause
  Room = room.journal_refused v.catalog.ru s.units.places u (entry_sizes (map_of h kept.content) (keys_cut h from))

  abbrev Images : Option Cause
  Images = images_refused h f s.units.places (has_changed u f) (entry_sizes empty_map (keys_cut h from)) (entry_sizes (map_of h kept.content) (keys_cut h from))

  abbrev cs : List Change
  cs = changes_of file said

  data_is : option_map cause_line Data ≡ found_refused n (Some b.key.serial) h.name said file
  data_is = data_alike kept.content h file cut_file cut_kind from ∙ sym (first_end (data_refused file said))

  many_is : 1 ≤ from → option_map cause_line Many ≡ more_changes n cs b
  many_is one =
      line_if (nat_lt 1024 (length u.positions + count)) Changes
      ∙ (λ i. refused_if (nat_lt change_limit (sym (counted s log v order at n up kept place u at_place) i + sym (many_alike kept.content h file cut_file cut_kind from one) i)) (line.QuotaExceeded line.Changes change_limit))
      ∙ (λ i. refused_if (nat_lt change_limit (changes_made (sym cut_own.serial i) n.durable.units + length cs)) (line.QuotaExceeded line.Changes change_limit))

  held_is : option_map cause_line Held ≡ more_locks n h.name (keys_held file said)
  held_is = more_alike v.catalog.heads once f h there n s.locks kept.locks keys ∙ ap (more_locks n h.name) (sym (append-nil (keys_asked file said) ∙ keys_alike kept.content h file cut_file cut_kind from))

  full_is : file_full file said ≡ None
  full_is = ap (λ (t : Bool). refused_if t (line.FileFull (free_buckets file) 0)) (below_none (free_buckets file))

  pub each_told : AllByRecursion (λ (e : Key × List ℕ). map_of h kept.content e.0 ≡ Some e.1) (drop (from - 1) (in_order file))
  each_told = all_told (map_of h kept.content) (current file.history) (drop (from - 1) (in_order file)) cut_file.records
      (dropped (λ e. get (current file.history) e.0 ≡ Some e.1) (from - 1) (in_order file) (all_got (current file.history) (in_order file) (sorted_in (in_order file) (entries_sorted (current file.history)))))

  pub behind_end : 1 ≤ from → keys_cut h from ≡ reverse (map (λ e. e.0) (drop (from - 1) (in_order file)))
  behind_end one = tail_same (sym (keys_alike kept.content h file cut_file cut_kind from) ∙ ap (λ (t : Bool). End ∷ (if t then reverse (map (λ e. e.0) (drop (from - 1) (in_order file))) else [])) (at_least from one))
    where
      tail_same : {xs ys : List Key} → ◌≡◌ {A = List Key} (End ∷ xs) (End ∷ ys) → xs ≡ ys
      tail_same e = cc

  pub size_is : (tid serial : Id) (name : List ℕ) → 1 ≤ from → entries_size (entries_for tid serial name cs) ≡ entry_sizes (map_of h kept.content) (keys_cut h from)
  size_is tid serial name one = sizes_alike tid serial name (map_of h kept.content) (drop (from - 1) (in_order file)) each_told ∙ ap (entry_sizes (map_of h kept.content)) (sym (behind_end one))

  need_is : 1 ≤ from → 1 ≤ count → journal_need n b h.name cs ≡ room.bytes_wanted u (entry_sizes (map_of h kept.content) (keys_cut h from))
  need_is one some = go cs refl
    where
      go : (ds : List Change) → cs ≡ ds → journal_need n b h.name ds ≡ room.bytes_wanted u (entry_sizes (map_of h kept.content) (keys_cut h from))
      go [] is = let many = sym (many_alike kept.content h file cut_file cut_kind from one) ∙ ap length is in absurd (omega (arith, many, some))
      go (c ∷ ds) is =
          let bytes = ap (λ xs. entries_size (entries_for b.key.tid b.key.serial h.name xs)) (sym is) ∙ size_is b.key.tid b.key.serial h.name one in
          let owing = ap (λ (x : Id). answers.owed_first (find_unit x (units_in n.durable.units.entries))) cut_own.serial ∙ owed_first_is (find_unit u.serial (units_in n.durable.units.entries)) u.positions (is_there s log v order at n up kept place u at_place) in
          omega (arith, bytes, owing)

  room_is : 1 ≤ from → 1 ≤ count → option_map cause_line Room ≡ journal_full n h.name cs b
  room_is one some =
      let size = entry_sizes (map_of h kept.content) (keys_cut h from) in
      line_if (nat_lt (room.free_bytes v.catalog.ru s.units.places) (room.bytes_wanted u size)) (JournalFull (room.free_bytes v.catalog.ru s.units.places) (room.bytes_wanted u size))
      ∙ (λ i. let free = sym (free_is s log v order at n up kept) i in let need = sym (need_is one some) i in refused_if (nat_lt free need) (line.JournalFull free need))

  open_here : (is_settled (all_of file.carried.after.entries) b.key.serial ≡ false) × (is_settled (all_of file.carried.before.entries) b.key.serial ≡ false)
  open_here = left_open s log v at n up kept f h.name file found cut_at h cut_carried b (found_there u.serial n.volatile.branches b found_b) unprepared

  changed_so : has_changed u f ≡ changed_it file.history b.key.serial
  changed_so = sym ((unit_is s log v order at n up kept place u at_place).files f) ∙ ap (changed_at u.serial) cut_at ∙ ap (changed_it file.history) (sym cut_own.serial)

  images_is : 1 ≤ from → 1 ≤ count → option_map cause_line Images ≡ images_full b.key.serial cs file
  images_is one some =
      let more : 1 ≤ length cs = let many = many_alike kept.content h file cut_file cut_kind from one in omega (arith, many, some) in
      (λ i. option_map cause_line (images_refused h f s.units.places (changed_so i)
      ((ap (entry_sizes empty_map) (behind_end one) ∙ sym (afters_long (drop (from - 1) (in_order file)))) i)
      ((ap (entry_sizes (map_of h kept.content)) (behind_end one) ∙ sym (befores_long (map_of h kept.content) (drop (from - 1) (in_order file)) each_told)) i)))
      ∙ images_alike s log v at n up kept f h.name file found cut_at h cut_carried b.key.serial open_here.0 open_here.1 cs (some_made cs more)

  pub cut_late : option_map cause_line (first_cause (number_refused (length u.positions) count) (first_cause Held (first_cause Room Images))) ≡ unit_refused_after_reading n b h.name file said
  cut_late = go (count == 0) refl
    where
      go : (t : Bool) → (count == 0) ≡ t → option_map cause_line (first_cause (first_cause Data Many) (first_cause Held (first_cause Room Images))) ≡ unit_refused_after_reading n b h.name file said
      go true is =
          ap (λ (t : Bool). option_map cause_line (first_cause (first_cause (cause_if t RecordNotFound) Many) (first_cause Held (first_cause Room Images)))) is
          ∙ sym (first_some (found_refused n (Some b.key.serial) h.name said file) (first_of (more_changes n cs b) (first_of (more_locks n h.name (keys_held file said)) (first_of (file_full file said) (first_of (journal_full n h.name cs b) (images_full b.key.serial cs file))))) line.RecordNotFound
          (sym data_is ∙ ap (λ (t : Bool). option_map cause_line (cause_if t RecordNotFound)) is))
      go false is =
          let some = some_position h.count from is in
          ap (λ (t : Bool). option_map cause_line (first_cause (first_cause (cause_if t RecordNotFound) Many) (first_cause Held (first_cause Room Images)))) is
          ∙ lines_first Many _ ∙ (λ i. first_of (many_is some.0 i) ((lines_first Held (first_cause Room Images) ∙ (λ j. first_of (held_is j) ((lines_first Room Images ∙ (λ k. first_of (room_is some.0 some.1 k) (images_is some.0 some.1 k))) j))) i))
          ∙ sym (λ i. first_of ((sym data_is ∙ ap (λ (t : Bool). option_map cause_line (cause_if t RecordNotFound)) is) i) (first_of (more_changes n cs b) (first_of (more_locks n h.name (keys_held file said)) (first_of (full_is i) (first_of (journal_full n h.name cs b) (images_full b.key.serial cs file))))))

  pub cut_begun : cut_refused_before_reading u f h from s.locks ≡ None → unit_refused_before_reading n b h.name file said ≡ None
  cut_begun none = early_is ∙ line_none (changing.locks_refuse (Some u.serial) f keys s.locks) L locks_are (first_none (changing.locks_refuse (Some u.serial) f keys s.locks) _ none).0

  pub cut_refused : (c : Cause) → CutRefused u f h from c s v → first_of (unit_refused_before_reading n b h.name file said) (unit_refused_after_reading n b h.name file said) ≡ Some (cause_line c)
  cut_refused c (inl early) = go (changing.locks_refuse (Some u.serial) f keys s.locks) refl
    where
      go : (x : Option Cause) → changing.locks_refuse (Some u.serial) f keys s.locks ≡ x → first_of (unit_refused_before_reading n b h.name file said) (unit_refused_after_reading n b h.name file said) ≡ Some (cause_line c)
      go (Some q) is =
          let same : Some q ≡ Some c = ap (λ x. first_cause x (first_cause (number_refused (length u.positions) count) Held)) (sym is) ∙ early in
          first_some (unit_refused_before_reading n b h.name file said) (unit_refused_after_reading n b h.name file said) (cause_line c) (early_is ∙ sym locks_are ∙ ap (option_map cause_line) (is ∙ same))
      go None is =
          let late : first_cause (number_refused (length u.positions) count) Held ≡ Some c = ap (λ x. first_cause x (first_cause (number_refused (length u.positions) count) Held)) (sym is) ∙ early in
          (λ i. first_of ((early_is ∙ line_none (changing.locks_refuse (Some u.serial) f keys s.locks) L locks_are is) i) (unit_refused_after_reading n b h.name file said))
          ∙ sym cut_late ∙ ap (option_map cause_line) (again (number_refused (length u.positions) count) Held (first_cause Room Images) ∙ ap (λ x. first_cause x (first_cause Room Images)) late)
  cut_refused c (inr late) =
      let parts_of = first_none (changing.locks_refuse (Some u.serial) f keys s.locks) _ late.0 in
      (λ i. first_of (cut_begun late.0 i) (unit_refused_after_reading n b h.name file said)) ∙ sym cut_late
      ∙ ap (option_map cause_line) (again (number_refused (length u.positions) count) Held (first_cause Room Images) ∙ ap (λ x. first_cause x (first_cause Room Images)) parts_of.1 ∙ late.1 kept.content kept.told cut_file.head.form cut_file.laid)

-- a truncation is refused by its form, by the file's mark, or late
pub cut_cause : (s : state.UnitsState) (v : VolumeState) → (order : IsInOrder s v) → AreInOrder s.units.places s.units.order → (place : ℕ) (u : OpenUnit) → unit_at s.units.places place ≡ Some u → (n : Node) (file : File) (b : Branch) (h : FileHead) (log : Slots) → IsUp n → is_prepared b.state ≡ false → IsKept (seen s log) v n →
    (f from : ℕ) → head_at v.catalog.heads f ≡ Some h → find_file h.name n.durable.directory ≡ Some file → find_branch u.serial n.volatile.branches ≡ Some b → (c : Cause) → rms.ChangeRefused u h (op.Truncate f from) [] c s v →
    first_of (unit_refused_before_reading n b h.name file (Truncate from)) (unit_refused_after_reading n b h.name file (Truncate from)) ≡ Some (cause_line c)
cut_cause s v order at place u at_place n file b h log up unprepared kept f from there found found_b c (inl early) =
    let is = asked_file kept.content v.catalog.heads n f h file kept.has.files kept.has.units there found in
    let form_is = forms.changes h file (op.Truncate f from) [] is.head tt in
    let mark_is = marked_alike h file is.head in
    let k : first_of (form_refused file (Truncate from)) (is_marked file) ≡ Some (cause_line c) =
    (λ i. first_of (sym form_is i) (sym mark_is i)) ∙ sym (lines_first (form.truncate_refused h) (cause_if (not h.marks.ru) NotForUnits)) ∙ ap (option_map cause_line) early in
    let rest = keys_refused n (Some b.key.serial) h.name (keys_asked file (Truncate from)) in
    first_some (unit_refused_before_reading n b h.name file (Truncate from)) (unit_refused_after_reading n b h.name file (Truncate from)) (cause_line c)
    (first_again (form_refused file (Truncate from)) (is_marked file) rest ∙ first_some (first_of (form_refused file (Truncate from)) (is_marked file)) rest (cause_line c) k)
cut_cause s v order at place u at_place n file b h log up unprepared kept f from there found found_b c (inr late) = cut_refused s v order at place u at_place n file b h log up unprepared kept f from there found found_b late.allowed c (late.cut f from refl)
