-- What refuses the change of one key for a unit, and for the branch that the unit is.
use Rattle.std.proofs.Common.{◌≡◌, ℕ, ◌+◌, ◌*◌, ◌<◌, ◌≤◌, List, [], ◌∷◌, true, not, Option, Some, None, length, refl, sym, ◌∙◌, ap, subst, arith, inl, inr, false}
use Rattle.std.proofs.lemmas.Nat.{mul-le}
use Rattle.std.specs.Prelude.{option_map, is_some, nat_lt, unwrap_or}
use Rattle.vms_model.specs.Limits.{change_limit}
use Rattle.file_base.specs.declared.head.FileHead.{FileHead}
use Rattle.file_base.specs.declared.head.Organization.TheVariants as kept_by
use Rattle.transcript_model.specs.Lines as line
use Rattle.transcript_model.specs.Lines.{Line}
use Rattle.commit_protocol.specs.Table.{Branch}
use Rattle.vms_model.specs.Ids.{Id}
use Rattle.vms_model.specs.Keys.{Key, Number, Text, End}
use Rattle.volume.specs.State.{VolumeState}
use Rattle.records_model.specs.Records.{Change}
use Rattle.records_model.specs.Slots.{size_of}
use Rattle.volume_files.specs.record_files.Any.{map_of}
use Rattle.record_operations.specs.Asking.{file_in, is_of_key, written}
use Rattle.record_operations.specs.Causes.{Cause, Changes, JournalFull, NotForUnits, cause_if, first_cause}
use Rattle.record_operations.specs.Forms as form
use Rattle.record_operations.specs.declared.ops.RecordOp.{RecordOp}
use Rattle.rms_units.specs.unit_journal.Entries as spelled
use Rattle.rms_units.specs.unit_journal.Room as room
use Rattle.unit_laws.specs.Journal as journal
use Rattle.unit_laws.specs.Journal.{RecoveryUnit, find_unit, is_settled_in, units_in}
use Rattle.unit_table.specs.Places.{AreInOrder}
use Rattle.unit_table.specs.Units.{OpenUnit, has_changed, unit_at}
use Rattle.recovery_units.specs.run_model.Answers as answers
use Rattle.recovery_units.specs.run_model.Answers.{found_refused, free_journal, images_full, is_marked, journal_full, journal_need, keys_refused, more_changes, more_locks}
use Rattle.recovery_units.specs.run_model.Operations.{changes_of, data_refused, file_full, first_of, form_refused, keys_asked, keys_held, refused_if, set_in}
use Rattle.recovery_units.specs.run_model.World.{File, Node, changes_made, find_branch, find_file}
use Rattle.unit_world.specs.directory_model.Files.{IsCarried, IsFile, IsFoundAt, IsNamed, file_at, head_at}
use Rattle.unit_world.proofs.directory_model.Reading.{reads_files}
use Rattle.script_model.specs.Statements.{Operation}
use Rattle.volume_files.proofs.Places.{fits_at}
use Rattle.rms_units.proofs.OrderLemmas.{placed_in}
use Rattle.unit_world.proofs.directory_model.Finding.{finds_files}
use Rattle.recovery_units.specs.image_room.Room.{images_refused}
use Rattle.recovery_model.specs.File.{all_of}
use Rattle.recovery_model.specs.Images.{afters, befores}
use Rattle.recovery_model.specs.Journal.{is_settled}
use Rattle.recovery_model.specs.Room.{changes_length}
use Rattle.records_model.specs.History.{changed_it}
use Rattle.recovery_units.specs.State.{changed_at}
use Rattle.node_units.proofs.Branches.{found_there}
use Rattle.node_units.proofs.ImagesAlike.{images_alike, left_open}
use Rattle.node_units.proofs.Looking.{first_again, first_some}
use Rattle.node_units.proofs.ReadLemmas.{asked_file, first_none, line_none}
use Rattle.node_units.proofs.UnitCounts.{branch_is, counted, free_is, is_there, unit_is}
use Rattle.recovery_units.specs.Calls.{IsNumbered, cause_line, change_said, unit_refused_after_reading, unit_refused_before_reading}
use Rattle.recovery_units.specs.State.{IsKept, IsOfBranch, are_there}
use Rattle.recovery_units.proofs.FormLemmas.{forms, line_if, lines_first}
use Rattle.rms_units.specs.Calls as rms
use Rattle.rms_units.specs.key_changes.Changing as changing
use Rattle.rms_units.specs.key_changes.Changing.{before_change, need_of}
use Rattle.rms_units.specs.key_changes.Keys.{change_in, key_in}
use Rattle.rms_units.specs.State as state
use Rattle.rms_units.specs.State.{IsInOrder}
use Rattle.rms_units.specs.key_changes.declared.asked.KeyChange.{KeyChange}
use Rattle.rms_units.specs.key_changes.declared.asked.KeyChange.TheVariants as how
use Rattle.log_laws.specs.Slots.{Slots}
use Rattle.commit_protocol.specs.Allowed.{is_prepared}
use Rattle.recovery_units.specs.world_laws.Nodes.{IsUp}
use Rattle.node_units.specs.Seen.{seen}
use Rattle.node_units.proofs.AskedKey.{AsksKey, asks_key}
use Rattle.node_units.proofs.Holding.{once_of}
use Rattle.node_units.proofs.Locking.{AreOnce}
use Rattle.node_units.proofs.Refusing.{locks_alike, marked_alike, more_alike}

pub first_end : (a : Option Line) → first_of a None ≡ a
first_end None = refl
first_end (Some l) = refl

-- Entries by their bytes.

pub key_size : (key : Key) → journal.key_size key ≡ length (spelled.key_bytes key)
key_size (Number n) = refl
key_size (Text bytes) = refl
key_size End = refl

pub image_size : (before : Option (List ℕ)) → size_of before ≡ length (unwrap_or before [])
image_size None = refl
image_size (Some bytes) = refl

pub entry_sized : (tid serial : Id) (file : List ℕ) (key : Key) (before : Option (List ℕ)) → journal.entry_size (journal.ChangeEntry tid serial file key before) ≡ room.entry_size key before
entry_sized tid serial file key before = let k = key_size key in let i = image_size before in omega (arith, k, i)

-- what a change finds that nothing refuses by what is found
pub found_before : (h : FileHead) (change : KeyChange) (key : Key) (found : Option (List ℕ)) (value : List ℕ) → changing.found_refused h change key found value ≡ None → before_change change (unwrap_or found []) ≡ found
found_before h how.Put key None value none = refl
found_before h how.Put key (Some old) value none = let never : ⊥ = cc in absurd never
found_before h how.Replace key None value none = let never : ⊥ = cc in absurd never
found_before h how.Replace key (Some old) value none = refl
found_before h how.Remove key None value none = let never : ⊥ = cc in absurd never
found_before h how.Remove key (Some old) value none = refl

pub owed_first_is : (o : Option RecoveryUnit) (ps : List ℕ) → is_some o ≡ are_there ps → answers.owed_first o ≡ room.owed_first ps
owed_first_is None [] is = refl
owed_first_is None (p ∷ ps) is = let never : ⊥ = cc in absurd never
owed_first_is (Some r) [] is = let never : ⊥ = cc in absurd never
owed_first_is (Some r) (p ∷ ps) is = refl

-- A sequential file has fewer records than numbers of 32 bits tell.
pub few_records : (s : state.UnitsState) (v : VolumeState) → IsInOrder s v → (f : ℕ) (h : FileHead) → head_at v.catalog.heads f ≡ Some h → (content : List (List ℕ)) (file : File) → IsFile content h file → h.organization ≡ kept_by.Sequential → h.count < 4294967295
few_records s v order f h there content file is e =
    let lies = placed_in s v f h order there in
    let fits = fits_at v.catalog.home.node v.store.disk.size v.catalog f h order.heads order.sound there in
    let some : 1 ≤ h.bucket = (let room = fits.bucket.record_fits in omega (arith, room)) in
    let wide : h.alloc * 1 ≤ h.alloc * h.bucket = mul-le h.alloc 1 h.alloc h.bucket (omega arith) some in
    let used = fits.buckets.most in
    let to = lies.to in
    let most = lies.fits in
    reads_files.below content h file is e lies.blocks (omega (arith, wide, used, to, most))

module _ (s : state.UnitsState) (v : VolumeState) (order : IsInOrder s v) (at : AreInOrder s.units.places s.units.order) (place : ℕ) (u : OpenUnit) (at_place : unit_at s.units.places place ≡ Some u) (n : Node) (file : File) (b : Branch) (h : FileHead) (log : Slots) (up : IsUp n) (unprepared : is_prepared b.state ≡ false)
    (kept : IsKept (seen s log) v n) (o : RecordOp) (bytes : List ℕ) (there : head_at v.catalog.heads (file_in o) ≡ Some h) (found : find_file h.name n.durable.directory ≡ Some file) (found_b : find_branch u.serial n.volatile.branches ≡ Some b)
    (one : is_of_key o ≡ true) (number : IsNumbered o) where
  abbrev f : ℕ
  f = file_in o

  abbrev value : List ℕ
  value = written o bytes

  abbrev key : Key
  key = key_in h o value

  abbrev keys : List Key
  keys = changing.keys_asked h (change_in o) key

  abbrev op : Operation
  op = change_said o bytes

  once : AreOnce v.catalog.heads
  once = once_of v.catalog.home.node v.store.disk.size v.catalog order.sound order.heads

  pub is_file : IsFile kept.content h file
  is_file = asked_file kept.content v.catalog.heads n f h file kept.has.files kept.has.units there found

  pub own : IsOfBranch u b
  own = branch_is s log v order at n up kept place u at_place b found_b

  pub few : h.organization ≡ kept_by.Sequential → h.count < 4294967295
  few e = few_records s v order f h there kept.content file is_file e

  named : IsNamed v.catalog.heads f h h.name
  named = record { there = there; called = refl; lowest = λ g other less at_g same. let e = once g f other h at_g there same in absurd (omega (arith, e, less)) }

  at_file : (x : File) × IsFile kept.content h x × IsFoundAt h.name n.durable.directory f x × IsCarried kept.content f h x.carried
  at_file = finds_files.found kept.content v.catalog.heads n.durable.directory f h h.name kept.has.files named

  found_is : at_file.0 ≡ file
  found_is = same at_file.0 file (sym at_file.2.found ∙ found)
    where
      same : (x y : File) → ◌≡◌ {A = Option File} (Some x) (Some y) → x ≡ y
      same x y e = cc

  at_f : file_at n.durable.directory f ≡ Some file
  at_f = at_file.2.there ∙ ap Some found_is

  carried : IsCarried kept.content f h file.carried
  carried = subst (λ (x : File). IsCarried kept.content f h x.carried) found_is at_file.3

  form_is : option_map cause_line (form.form_refused h o (length value)) ≡ form_refused file op
  form_is = forms.changes h file o bytes is_file.head number

  mark_is : option_map cause_line (cause_if (not h.marks.ru) NotForUnits) ≡ is_marked file
  mark_is = marked_alike h file is_file.head

  passes : rms.change_refused_before_reading h o value ≡ None → (form.form_refused h o (length value) ≡ None) × (form_refused file op ≡ None) × (is_marked file ≡ None)
  passes none =
      let both = first_none (form.form_refused h o (length value)) (cause_if (not h.marks.ru) NotForUnits) none in
      (both.0, line_none (form.form_refused h o (length value)) (form_refused file op) form_is both.0, line_none (cause_if (not h.marks.ru) NotForUnits) (is_marked file) mark_is both.1)

  module _ (allowed : rms.change_refused_before_reading h o value ≡ None) where
    pub asks : AsksKey kept.content h file o bytes
    asks = asks_key kept.content h file is_file few o bytes one (passes allowed).0 number

    abbrev L : Option Line
    L = keys_refused n (Some b.key.serial) h.name (keys_asked file op)

    locks_are : option_map cause_line (changing.locks_refuse (Some u.serial) f keys s.locks) ≡ L
    locks_are =
        locks_alike v.catalog.heads once f h there n s.locks kept.locks (Some u.serial) keys
        ∙ (λ i. keys_refused n (Some (sym own.serial i)) h.name (sym asks.asked i))

    -- before records are looked at
    early_is : unit_refused_before_reading n b h.name file op ≡ L
    early_is = let p = passes allowed in λ i. first_of (p.1 i) (first_of (p.2 i) L)

    pub early_none : changing.locks_refuse (Some u.serial) f keys s.locks ≡ None → unit_refused_before_reading n b h.name file op ≡ None
    early_none none = early_is ∙ line_none (changing.locks_refuse (Some u.serial) f keys s.locks) L locks_are none

    abbrev had : Option (List ℕ)
    had = map_of h kept.content key

    abbrev why : Option Cause
    why = changing.found_refused h (change_in o) key had value

    abbrev change : Change
    change = set_in file key (changing.after_change (change_in o) value)

    abbrev size : ℕ
    size = room.entry_size key (before_change (change_in o) (unwrap_or had []))

    A : option_map cause_line why ≡ found_refused n (Some b.key.serial) h.name op file
    A = asks.stands ∙ sym (first_end (data_refused file op)) ∙ ap (λ ks. first_of (data_refused file op) (keys_refused n (Some b.key.serial) h.name ks)) (sym asks.none)

    B : option_map cause_line (changing.changes_refused 1 u) ≡ more_changes n (changes_of file op) b
    B =
        line_if (nat_lt 1024 (length u.positions + 1)) Changes
        ∙ (λ i. refused_if (nat_lt change_limit (sym (counted s log v order at n up kept place u at_place) i + 1)) (line.QuotaExceeded line.Changes change_limit))
        ∙ (λ i. refused_if (nat_lt change_limit (changes_made (sym own.serial i) n.durable.units + length (sym asks.changes i))) (line.QuotaExceeded line.Changes change_limit))

    C : option_map cause_line (changing.keys_refused f keys s.locks) ≡ more_locks n h.name (keys_held file op)
    C = more_alike v.catalog.heads once f h there n s.locks kept.locks keys ∙ ap (more_locks n h.name) (sym asks.held)

    need_is : why ≡ None → journal_need n b h.name (change ∷ []) ≡ room.bytes_wanted u size
    need_is none =
        let before : before_change (change_in o) (unwrap_or had []) ≡ change.before = found_before h (change_in o) key had value none ∙ sym (is_file.records key) in
        let bytes_are : journal.entry_size (journal.ChangeEntry b.key.tid b.key.serial h.name key change.before) ≡ size = entry_sized b.key.tid b.key.serial h.name key change.before ∙ ap (room.entry_size key) (sym before) in
        let owing : answers.owed_first (find_unit b.key.serial (units_in n.durable.units.entries)) ≡ room.owed_first u.positions =
        ap (λ (x : Id). answers.owed_first (find_unit x (units_in n.durable.units.entries))) own.serial ∙ owed_first_is (find_unit u.serial (units_in n.durable.units.entries)) u.positions (is_there s log v order at n up kept place u at_place) in
        omega (arith, bytes_are, owing)

    E : why ≡ None → option_map cause_line (room.journal_refused v.catalog.ru s.units.places u size) ≡ journal_full n h.name (changes_of file op) b
    E none =
        line_if (nat_lt (room.free_bytes v.catalog.ru s.units.places) (room.bytes_wanted u size)) (JournalFull (room.free_bytes v.catalog.ru s.units.places) (room.bytes_wanted u size))
        ∙ (λ i. let free = sym (free_is s log v order at n up kept) i in let need = sym (need_is none) i in refused_if (nat_lt free need) (line.JournalFull free need))
        ∙ ap (λ cs. journal_full n h.name cs b) (sym asks.changes)

    -- the rings of the file's journals of images

    abbrev after : Option (List ℕ)
    after = changing.after_change (change_in o) value

    open_here : (is_settled (all_of file.carried.after.entries) b.key.serial ≡ false) × (is_settled (all_of file.carried.before.entries) b.key.serial ≡ false)
    open_here = left_open s log v at n up kept f h.name file found at_f h carried b (found_there u.serial n.volatile.branches b found_b) unprepared

    changed_so : has_changed u f ≡ changed_it file.history b.key.serial
    changed_so = sym ((unit_is s log v order at n up kept place u at_place).files f) ∙ ap (changed_at u.serial) at_f ∙ ap (changed_it file.history) (sym own.serial)

    after_long : room.entry_size key after ≡ changes_length (afters (change ∷ []))
    after_long = let k = key_size key in let i = image_size after in omega (arith, k, i)

    before_long : why ≡ None → size ≡ changes_length (befores (change ∷ []))
    before_long none =
        let before : before_change (change_in o) (unwrap_or had []) ≡ change.before = found_before h (change_in o) key had value none ∙ sym (is_file.records key) in
        let same : size ≡ room.entry_size key change.before = ap (room.entry_size key) before in
        let k = key_size key in
        let i = image_size change.before in
        omega (arith, same, k, i)

    abbrev full_images : Option Cause
    full_images = images_refused h f s.units.places (has_changed u f) (room.entry_size key after) size

    I : why ≡ None → option_map cause_line full_images ≡ images_full b.key.serial (changes_of file op) file
    I none =
        (λ i. option_map cause_line (images_refused h f s.units.places (changed_so i) (after_long i) (before_long none i)))
        ∙ images_alike s log v at n up kept f h.name file found at_f h carried b.key.serial open_here.0 open_here.1 (change ∷ []) refl ∙ ap (λ cs. images_full b.key.serial cs file) (sym asks.changes)

    abbrev bytes_refused : Option Cause
    bytes_refused = room.journal_refused v.catalog.ru s.units.places u size

    abbrev full : Option Cause
    full = changing.file_refused h (need_of h kept.content (change_in o) (length value))

    pub late_is : option_map cause_line (rms.change_refused_after_reading u f h (change_in o) key value s v kept.content) ≡ unit_refused_after_reading n b h.name file op
    late_is = go why refl
      where
        go : (x : Option Cause) → why ≡ x → option_map cause_line (first_cause why (first_cause (changing.changes_refused 1 u) (first_cause (changing.keys_refused f keys s.locks) (first_cause full (first_cause bytes_refused full_images))))) ≡ unit_refused_after_reading n b h.name file op
        go (Some c) is =
            ap (λ y. option_map cause_line (first_cause y (first_cause (changing.changes_refused 1 u) (first_cause (changing.keys_refused f keys s.locks) (first_cause full (first_cause bytes_refused full_images)))))) is
            ∙ sym (first_some (found_refused n (Some b.key.serial) h.name op file) (first_of (more_changes n (changes_of file op) b) (first_of (more_locks n h.name (keys_held file op)) (first_of (file_full file op) (first_of (journal_full n h.name (changes_of file op) b) (images_full b.key.serial (changes_of file op) file)))))
            (cause_line c) (sym A ∙ ap (option_map cause_line) is))
        go None is =
            lines_first why _ ∙ (λ i. first_of (A i) ((lines_first (changing.changes_refused 1 u) _ ∙ (λ j. first_of (B j) ((lines_first (changing.keys_refused f keys s.locks) _ ∙ (λ k. first_of (C k) ((lines_first full _ ∙ (λ l. first_of (asks.full l) ((lines_first bytes_refused full_images ∙ (λ q. first_of (E is q) (I is q))) l))) k))) j))) i))

    pub late_none : rms.change_refused_after_reading u f h (change_in o) key value s v kept.content ≡ None → unit_refused_after_reading n b h.name file op ≡ None
    late_none none = line_none (rms.change_refused_after_reading u f h (change_in o) key value s v kept.content) (unit_refused_after_reading n b h.name file op) late_is none

    refused_late : (c : Cause) → rms.KeyRefused u f h (change_in o) key value c s v → first_of (unit_refused_before_reading n b h.name file op) (unit_refused_after_reading n b h.name file op) ≡ Some (cause_line c)
    refused_late c (inl locks) = first_some (unit_refused_before_reading n b h.name file op) (unit_refused_after_reading n b h.name file op) (cause_line c) (early_is ∙ sym locks_are ∙ ap (option_map cause_line) locks)
    refused_late c (inr late) =
        (λ i. first_of (early_none late.0 i) (unit_refused_after_reading n b h.name file op)) ∙ sym late_is ∙ ap (option_map cause_line) (late.1 kept.content kept.told is_file.head.form is_file.laid)

  pub key_refused : (c : Cause) → rms.ChangeRefused u h o value c s v → first_of (unit_refused_before_reading n b h.name file op) (unit_refused_after_reading n b h.name file op) ≡ Some (cause_line c)
  key_refused c (inl early) =
      let k : first_of (form_refused file op) (is_marked file) ≡ Some (cause_line c) =
      (λ i. first_of (sym form_is i) (sym mark_is i)) ∙ sym (lines_first (form.form_refused h o (length value)) (cause_if (not h.marks.ru) NotForUnits)) ∙ ap (option_map cause_line) early in
      let rest = keys_refused n (Some b.key.serial) h.name (keys_asked file op) in
      first_some (unit_refused_before_reading n b h.name file op) (unit_refused_after_reading n b h.name file op) (cause_line c)
      (first_again (form_refused file op) (is_marked file) rest ∙ first_some (first_of (form_refused file op) (is_marked file)) rest (cause_line c) k)
  key_refused c (inr late) = refused_late late.allowed c (late.key one)
