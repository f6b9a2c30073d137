-- A change without a unit that was done is one of the world.
use Rattle.std.proofs.Common.{◌≡◌, ℕ, ◌<◌, ◌≤◌, ◌&&◌, List, [], ◌∷◌, Bool, true, Option, Some, None, length, nat_lt, slice_set, refl, sym, ◌∙◌, ap, subst, arith}
use Rattle.std.specs.Prelude.{is_some, option_map, unwrap_or}
use Rattle.std.proofs.Common.{false, ◌+◌, ◌-◌, ◌^◌, get_or-set_same}
use Rattle.std.specs.Option.{IfSome}
use Rattle.vms_model.specs.Limits.{change_limit}
use Rattle.file_base.specs.declared.head.Span.{Span}
use Rattle.unit_world.specs.file_images.Images.{key_bytes}
use Rattle.recovery_units.specs.image_appends.declared.side.Side.TheVariants.{After, Before}
use Rattle.recovery_units.specs.image_appends.Images.{content_with_both, heads_with_both, span_of}
use Rattle.recovery_units.specs.image_appends.Settling.{content_from, heads_from}
use Rattle.undo_laws.specs.image_groups.Groups.{AreFitting, Enters, MayEnter, after_image, before_image, outcome_of, told_file}
use Rattle.recovery_units.specs.image_room.Room.{ImagesAreLow, SettlementsFit, images_refused}
use Rattle.recovery_units.proofs.image_room.Keeping.{afters_have_room, befores_have_room, room_to_change}
use Rattle.journal_format.proofs.Decoding.{entry_size}
use Rattle.journal_model.specs.Entries.{Entry, IsEntry, spelling}
use Rattle.journal_model.specs.Ring.{ring_size}
use Rattle.rms_units.specs.kept_files.Own.{only, own_change}
use Rattle.record_operations.specs.Causes.{first_cause}
use Rattle.records_model.specs.History.{changed_it}
use Rattle.recovery_model.specs.File.{all_of}
use Rattle.recovery_model.specs.Images.{afters, befores}
use Rattle.recovery_model.specs.Journal.{Changed, is_settled}
use Rattle.recovery_model.specs.Room.{changes_length}
use Rattle.recovery_units.specs.run_model.Answers.{images_full}
use Rattle.recovery_units.specs.run_model.Operations.{file_full}
use Rattle.recovery_units.specs.run_model.World.{Settlement, directly_changed, next_moment, with_image, with_outcome}
use Rattle.vms_model.specs.Transactions.{Commit}
use Rattle.recovery_units.proofs.world_laws.ServedLemmas.{undrawn}
use Rattle.recovery_units.proofs.world_laws.ToldImages.{undrawn_open, unsettled_in_images}
use Rattle.unit_world.specs.directory_model.Files.{AreFiles, IsCarried, file_at}
use Rattle.unit_world.specs.directory_model.Laws.{carrying, directly_buckets, spelled_entry}
use Rattle.unit_world.proofs.directory_model.Entering.{enters_images}
use Rattle.unit_world.proofs.directory_model.Finding.{finds_files}
use Rattle.unit_world.proofs.directory_model.Places.{within_list}
use Rattle.rms_units.proofs.unit_cuts.EntrySizes.{spelled_size}
use Rattle.recovery_units.specs.unit_entries.Keys.{key_in as key_in_file}
use Rattle.rms_units.specs.unit_journal.Entries.{change_entry, settled_entry}
use Rattle.rms_units.specs.unit_journal.Room as room
use Rattle.undo_laws.proofs.NoteLemmas.{key_read}
use Rattle.unit_world.proofs.Found.{unchanged}
use Rattle.volume.specs.Catalogs.{TellsCatalog}
use Rattle.volume.specs.Limits.{data_area}
use Rattle.volume.specs.declared.catalog.Catalog.{Catalog}
use Rattle.volume_format.specs.Head.{IsHead}
use Rattle.volume_format.specs.Home.{sizes_of}
use Rattle.undo_laws.proofs.image_groups.Sides.{enters_change}
use Rattle.node_units.proofs.DirectImages.{HasRoomFor, may_settle, told_behind}
use Rattle.node_units.proofs.DirectMade.{moment_of}
use Rattle.node_units.proofs.Directly.{fresh}
use Rattle.node_units.proofs.Imaging.{fits as fits_in, outcome_entry, told_heads}
use Rattle.node_units.proofs.ImagesAlike.{images_alike}
use Rattle.node_units.proofs.KeyImages.{IsImage, change_is, may_enter, now_changed}
use Rattle.node_units.proofs.KeyRefusals.{found_before, image_size, key_size}
use Rattle.node_units.proofs.NotedKey.{Noted, noted_by}
use Rattle.rms_units.specs.key_changes.Changing.{before_change}
use Rattle.volume_files.specs.record_files.Any.{Suits, Takes, map_of, room_at}
use Rattle.script_model.specs.Statements.{Operation}
use Rattle.vms_model.specs.Keys.{Key}
use Rattle.unit_laws.specs.Journal.{trimmed}
use Rattle.unit_table.specs.Places.{AreInOrder}
use Rattle.unit_table.specs.Units.{earliest}
use Rattle.unit_table.proofs.BegunLemmas.{earliest_seen}
use Rattle.volume_files.specs.Staging.{SetsKey}
use Rattle.unit_world.specs.directory_model.Laws.{IsChanged}
use Rattle.rms_units.specs.key_changes.Changing as keys_by
use Rattle.recovery_units.proofs.FormLemmas.{forms, line_if, lines_first}
use Rattle.rms_units.specs.key_changes.Keys.{change_in, key_in, position_by}
use Rattle.node_units.proofs.Looking.{first_again, first_some}
use Rattle.node_units.proofs.DirectMade.{DirectsFile, begins_made, direct_kept, direct_told, own_settlement}
use Rattle.std.proofs.lemmas.Nat.{mul-le}
use Rattle.file_base.specs.declared.head.FileHead.{FileHead}
use Rattle.file_base.specs.declared.head.Organization.TheVariants as kept
use Rattle.transcript_model.specs.Lines as line
use Rattle.transcript_model.specs.Lines.{Line}
use Rattle.vms_model.specs.Ids.{IsId}
use Rattle.vms_base.specs.Ids.{tid_of}
use Rattle.vms_base.specs.declared.ids.Tid.{Tid}
use Rattle.volume.specs.Catalogs.{IsSound}
use Rattle.volume.specs.State.{VolumeState}
use Rattle.volume_files.proofs.Places.{fits_at, placed}
use Rattle.record_locks.specs.Locks as table
use Rattle.record_operations.specs.Asking.{file_in, is_of_key, written}
use Rattle.record_operations.specs.Causes.{Cause, NeedsUnit, cause_if}
use Rattle.record_operations.specs.Forms as form
use Rattle.record_operations.specs.declared.ops.RecordOp.{RecordOp}
use Rattle.record_operations.specs.declared.ops.RecordOp.TheVariants as op
use Rattle.records_model.specs.Records.{Change}
use Rattle.recovery_units.specs.run_model.Answers.{found_refused, keys_refused, needs_unit}
use Rattle.recovery_units.specs.run_model.Locks.{is_locked}
use Rattle.recovery_units.specs.run_model.Operations.{changes_of, data_refused, first_of, form_refused, is_change, keys_asked, keys_found, operation_answer, record_in, refused_if}
use Rattle.recovery_units.specs.run_model.World.{Changes, Directs, File, Node, acted, find_file, next_id}
use Rattle.unit_world.specs.directory_model.Files.{IsFile, IsFoundAt, IsNamed, head_at}
use Rattle.unit_world.proofs.directory_model.Places.{file_there}
use Rattle.unit_world.proofs.directory_model.Reading.{reads_files}
use Rattle.recovery_units.specs.Calls.{IsDone, IsNumbered, KeepsUp, alone_refused_after_reading, alone_refused_before_reading, cause_line, change_said, direct_act, position_line}
use Rattle.recovery_units.specs.State.{IsKept}
use Rattle.rms_units.specs.Calls as rms
use Rattle.rms_units.specs.key_changes.Changing.{after_change, locks_refuse}
use Rattle.rms_units.specs.State as state
use Rattle.rms_units.specs.State.{IsInOrder}
use Rattle.rms_units.specs.unit_journal.Settling as settling
use Rattle.unit_world.proofs.Found.{found_by}
use Rattle.node_units.specs.Seen.{seen}
use Rattle.node_units.proofs.Holding.{once_of}
use Rattle.node_units.proofs.Locking.{AreOnce}
use Rattle.node_units.proofs.ReadLemmas.{asked_file, first_none, line_none}
use Rattle.node_units.proofs.Refusing.{locks_alike}
use Rattle.node_units.proofs.SettingFile.{IsOfNode, KeepsRest, held_alike, keeps_rest, set_change, set_changes}
use Rattle.node_units.proofs.BranchChanges.{held_locked}
use Rattle.node_units.proofs.Directly.{direct_may, live_held}
use Rattle.log_laws.specs.Slots.{Slots}
use Rattle.recovery_units.specs.world_laws.Nodes.{IsUp}
use Rattle.recovery_units.proofs.world_laws.AnswerLemmas.{neither}
use Rattle.unit_world.specs.restart_laws.Units.{MayChange}
use Rattle.unit_world.proofs.restart_laws.ChangingLemmas.{changes_restorable}
use Rattle.unit_world.specs.directory_model.Restoring.{AreRestorable}
use Rattle.unit_laws.specs.Units.{has_changes}
use Rattle.records_model.specs.History.{is_held}
use Rattle.node_units.proofs.AskedKey.{AsksKey, asks_key}
use Rattle.node_units.proofs.SuitsKey.{may_set}

-- a sequential file has fewer records than numbers of 32 bits tell
pub few_records : (content : List (List ℕ)) (v : VolumeState) (node : List ℕ) (f : ℕ) (h : FileHead) (file : File) → IsFile content h file → IsSound node v.store.disk.size v.catalog → length v.catalog.heads ≡ 64 → v.store.disk.size ≤ 65536 →
    head_at v.catalog.heads f ≡ Some h → h.organization ≡ kept.Sequential → h.count < 4294967295
few_records content v node f h file is sound long most there sequential =
    let fits = fits_at node v.store.disk.size v.catalog f h long sound there in
    let lies = placed node v.catalog f h v.store.disk long sound most there in
    let wide = mul-le h.alloc 1 h.alloc h.bucket (omega arith) lies.one in
    let used = fits.buckets.most in
    let to = lies.to in
    let from = lies.from in
    reads_files.below content h file is sequential lies.blocks (omega (arith, wide, used, to, from, most))

-- What is asked for: a file by its number, in the volume of a node.
pub record IsAskedOf (o : RecordOp) (s : state.UnitsState) (log : Slots) (v : VolumeState) (n : Node) (h : FileHead) (file : File) : Type 0 where
  pub kept : IsKept (seen s log) v n
  pub up : IsUp n
  pub order : IsInOrder s v
  pub places : AreInOrder s.units.places s.units.order
  pub named : IsNamed v.catalog.heads (file_in o) h h.name
  pub found : find_file h.name n.durable.directory ≡ Some file
  pub number : IsNumbered o
  pub low : ImagesAreLow (2 ^ 24) v.catalog.heads

module _ (o : RecordOp) (bytes : List ℕ) (s : state.UnitsState) (log : Slots) (v : VolumeState) (n : Node) (h : FileHead) (file : File) (asked : IsAskedOf o s log v n h file) where
  abbrev pub f : ℕ
  f = file_in o

  pub is_file : IsFile asked.kept.content h file
  is_file = asked_file asked.kept.content v.catalog.heads n f h file asked.kept.has.files asked.kept.has.units asked.named.there asked.found

  pub once : AreOnce v.catalog.heads
  once = once_of v.catalog.home.node v.store.disk.size v.catalog asked.order.sound asked.order.heads

  pub few : h.organization ≡ kept.Sequential → h.count < 4294967295
  few = few_records asked.kept.content v v.catalog.home.node f h file is_file asked.order.sound asked.order.heads asked.order.most asked.named.there

  -- the file at its place
  pub at : IsFoundAt h.name n.durable.directory f file
  at =
      let there = file_there asked.kept.content v.catalog.heads n.durable.directory f h asked.kept.has.files asked.named.there in
      let by = subst (λ (x : List ℕ). IsFoundAt x n.durable.directory f there.0) there.2.head.name (found_by n f there.0 asked.kept.has.units there.1) in
      subst (IsFoundAt h.name n.durable.directory f) (one there.0 file (sym by.found ∙ asked.found)) by
    where
      one : (x y : File) → ◌≡◌ {A = Option File} (Some x) (Some y) → x ≡ y
      one x y e = cc

  -- and what it carries
  pub carried : IsCarried asked.kept.content f h file.carried
  carried =
      let found = finds_files.found asked.kept.content v.catalog.heads n.durable.directory f h h.name asked.kept.has.files asked.named in
      subst (λ (x : File). IsCarried asked.kept.content f h x.carried) (one found.0 file (sym found.2.found ∙ asked.found)) found.3
    where
      one : (x y : File) → ◌≡◌ {A = Option File} (Some x) (Some y) → x ≡ y
      one x y e = cc

  -- no entry of its journals of images is of the branch that is drawn next
  pub open_next : (is_settled (all_of file.carried.after.entries) (next_id n) ≡ false) × (is_settled (all_of file.carried.before.entries) (next_id n) ≡ false)
  open_next = unsettled_in_images (next_id n) h.name file (undrawn_open n.name n.durable.boot n.volatile.drawn (next_id n) n.durable.directory (undrawn n) asked.up.running.images.drawn h.name file asked.found)

  -- the journal begins with the earliest change of the units
  pub begins : (c : Change) (more : List Change) → IsUp (acted (Directs h.name (c ∷ more) (own_settlement n)) n) → unwrap_or (earliest s.units.places) v.catalog.ru.end ≡ (trimmed n.durable.units).first
  begins c more comes =
      (λ i. unwrap_or (earliest_seen s.units.places s.units.order asked.places i) (asked.kept.has.journal.end i))
      ∙ begins_made n f h.name file c more asked.kept.has.units asked.up at comes (seen s log).begun asked.kept.branches asked.kept.each

  -- the volume is the node's
  pub of_node : IsOfNode n asked.kept.content v
  of_node = record {
    told = asked.kept.told;
    holds = asked.order.holds;
    sound = subst (λ (x : List ℕ). IsSound x n.blocks v.catalog) (sym asked.kept.name) (subst (λ (x : ℕ). IsSound v.catalog.home.node x v.catalog) (sym asked.kept.blocks) asked.order.sound);
    long = asked.order.heads;
    size = sym asked.kept.blocks;
    home = asked.kept.has.home;
    journal = asked.kept.has.journal;
    log = asked.kept.has.log;
  }

  -- Refusals before a record is read.

  pub form_is : option_map cause_line (form.form_refused h o (length (written o bytes))) ≡ form_refused file (change_said o bytes)
  form_is = forms.changes h file o bytes is_file.head asked.number

  changes_it : (p : RecordOp) → is_change (change_said p bytes) ≡ true
  changes_it (op.Put g key) = refl
  changes_it (op.Update g key) = refl
  changes_it (op.Delete g key) = refl
  changes_it (op.Truncate g from) = refl

  pub needs_is : option_map cause_line (cause_if h.marks.ru NeedsUnit) ≡ needs_unit (change_said o bytes) file
  needs_is =
      line_if h.marks.ru NeedsUnit ∙ ap (λ (b : Bool). refused_if b line.NeedsUnit) (sym is_file.head.units)
      ∙ ap (λ (b : Bool). refused_if (b && file.recovery_units) line.NeedsUnit) (sym (changes_it o))

  pub early_form : rms.direct_refused_before_reading h o (written o bytes) ≡ None → form.form_refused h o (length (written o bytes)) ≡ None
  early_form none = (first_none (form.form_refused h o (length (written o bytes))) (cause_if h.marks.ru NeedsUnit) none).0

  pub form_none : rms.direct_refused_before_reading h o (written o bytes) ≡ None → form_refused file (change_said o bytes) ≡ None
  form_none none = line_none (form.form_refused h o (length (written o bytes))) (form_refused file (change_said o bytes)) form_is (early_form none)

  -- nothing refuses it then
  pub early_none : (ks : List Key) → keys_asked file (change_said o bytes) ≡ ks → rms.direct_refused_before_reading h o (written o bytes) ≡ None → locks_refuse None f ks s.locks ≡ None → alone_refused_before_reading n h.name file (change_said o bytes) ≡ None
  early_none ks asks none free =
      let both = first_none (form.form_refused h o (length (written o bytes))) (cause_if h.marks.ru NeedsUnit) none in
      let one = line_none (form.form_refused h o (length (written o bytes))) (form_refused file (change_said o bytes)) form_is both.0 in
      let two = line_none (cause_if h.marks.ru NeedsUnit) (needs_unit (change_said o bytes) file) needs_is both.1 in
      let three = ap (keys_refused n None h.name) asks ∙ line_none (locks_refuse None f ks s.locks) (keys_refused n None h.name ks) (locks_alike v.catalog.heads once f h asked.named.there n s.locks asked.kept.locks None ks) free in
      λ i. first_of (one i) (first_of (two i) (three i))

-- Refusals before a record is read, where one is.
module _ (o : RecordOp) (bytes : List ℕ) (s : state.UnitsState) (log : Slots) (v : VolumeState) (n : Node) (h : FileHead) (file : File) (asked : IsAskedOf o s log v n h file) where
  -- by the form, or by the file's mark
  pub early_refused : (c : Cause) → rms.direct_refused_before_reading h o (written o bytes) ≡ Some c → alone_refused_before_reading n h.name file (change_said o bytes) ≡ Some (cause_line c)
  early_refused c refused =
      let formed = form_refused file (change_said o bytes) in
      let needs = needs_unit (change_said o bytes) file in
      let locked = keys_refused n None h.name (keys_asked file (change_said o bytes)) in
      first_again formed needs locked
      ∙ first_some (first_of formed needs) locked (cause_line c)
      ((λ i. first_of (sym (form_is o bytes s log v n h file asked) i) (sym (needs_is o bytes s log v n h file asked) i)) ∙ sym (lines_first (form.form_refused h o (length (written o bytes))) (cause_if h.marks.ru NeedsUnit)) ∙ ap (option_map cause_line) refused)

  -- by a lock
  pub early_locked : (ks : List Key) → keys_asked file (change_said o bytes) ≡ ks → rms.direct_refused_before_reading h o (written o bytes) ≡ None → (c : Cause) → locks_refuse None (file_in o) ks s.locks ≡ Some c → alone_refused_before_reading n h.name file (change_said o bytes) ≡ Some (cause_line c)
  early_locked ks asks none c locked =
      let both = first_none (form.form_refused h o (length (written o bytes))) (cause_if h.marks.ru NeedsUnit) none in
      let one = line_none (form.form_refused h o (length (written o bytes))) (form_refused file (change_said o bytes)) (form_is o bytes s log v n h file asked) both.0 in
      let two = line_none (cause_if h.marks.ru NeedsUnit) (needs_unit (change_said o bytes) file) (needs_is o bytes s log v n h file asked) both.1 in
      let three = ap (keys_refused n None h.name) asks
      ∙ sym (locks_alike v.catalog.heads (once o bytes s log v n h file asked) (file_in o) h asked.named.there n s.locks asked.kept.locks None ks) ∙ ap (option_map cause_line) locked in
      λ i. first_of (one i) (first_of (two i) (three i))

-- what no read finds
no_keys : (file : File) (o : RecordOp) (bytes : List ℕ) → keys_found file (change_said o bytes) ≡ []
no_keys file (op.Put g key) bytes = refl
no_keys file (op.Update g key) bytes = refl
no_keys file (op.Delete g key) bytes = refl
no_keys file (op.Truncate g from) bytes = refl

-- only what stands refuses it once a record was read
pub found_is : (n : Node) (name : List ℕ) (file : File) (o : RecordOp) (bytes : List ℕ) → found_refused n None name (change_said o bytes) file ≡ data_refused file (change_said o bytes)
found_is n name file o bytes = ap (λ ks. first_of (data_refused file (change_said o bytes)) (keys_refused n None name ks)) (no_keys file o bytes) ∙ alone (data_refused file (change_said o bytes))
  where
    alone : (l : Option Line) → first_of l None ≡ l
    alone (Some l) = refl
    alone None = refl

-- what stands does not refuse it, and no key does
pub passed_data : (n : Node) (name : List ℕ) (file : File) (o : RecordOp) (bytes : List ℕ) → alone_refused_after_reading n name file (change_said o bytes) ≡ None → data_refused file (change_said o bytes) ≡ None
passed_data n name file o bytes none = sym (found_is n name file o bytes) ∙ (neither (found_refused n None name (change_said o bytes) file) _ none).0

pub passed_keys : (n : Node) (name : List ℕ) (file : File) (op : Operation) → alone_refused_before_reading n name file op ≡ None → keys_refused n None name (keys_asked file op) ≡ None
passed_keys n name file op none = (neither (needs_unit op file) _ (neither (form_refused file op) _ none).1).1

-- A change of one key.
module _ (o : RecordOp) (bytes : List ℕ) (s : state.UnitsState) (log : Slots) (v w : VolumeState) (n : Node) (h : FileHead) (file : File) (asked : IsAskedOf o s log v n h file) (one : is_of_key o ≡ true) (tid : Tid) (clock : ℕ) where
  abbrev pub key : Key
  key = key_in h o (written o bytes)

  abbrev pub value : List ℕ
  value = written o bytes

  abbrev pub change : Change
  change = set_change key (record_in file key) (after_change (change_in o) value)

  abbrev pub told : List (List ℕ)
  told = asked.kept.content

  abbrev pub file_is : IsFile told h file
  file_is = is_file o bytes s log v n h file asked

  abbrev pub below : h.organization ≡ kept.Sequential → h.count < 4294967295
  below = few o bytes s log v n h file asked

  module _ (early : rms.direct_refused_before_reading h o value ≡ None) where
    abbrev pub formed : form.form_refused h o (length value) ≡ None
    formed = early_form o bytes s log v n h file asked early

    asks : AsksKey told h file o bytes
    asks = asks_key told h file file_is below o bytes one formed asked.number

    pub changes_are : changes_of file (change_said o bytes) ≡ change ∷ []
    changes_are = asks.changes

    pub keys_are : keys_asked file (change_said o bytes) ≡ keys_by.keys_asked h (change_in o) key
    keys_are = asks.asked

    pub key_early : locks_refuse None (file_in o) (keys_by.keys_asked h (change_in o) key) s.locks ≡ None → alone_refused_before_reading n h.name file (change_said o bytes) ≡ None
    key_early free = early_none o bytes s log v n h file asked (keys_by.keys_asked h (change_in o) key) keys_are early free

    abbrev had : Option (List ℕ)
    had = map_of h told key

    abbrev after : Option (List ℕ)
    after = after_change (change_in o) value

    abbrev why : Option Cause
    why = keys_by.found_refused h (change_in o) key had value

    abbrev full : Option Cause
    full = keys_by.file_refused h (keys_by.need_of h told (change_in o) (length value))

    abbrev full_images : Option Cause
    full_images = images_refused h (file_in o) s.units.places false (room.entry_size key after) (room.entry_size key (before_change (change_in o) (unwrap_or had [])))

    unchanged_here : changed_it file.history (next_id n) ≡ false
    unchanged_here = unchanged n (file_in o) file (next_id n) asked.kept.has.units (at o bytes s log v n h file asked).there (fresh n asked.kept.has.units asked.up h.name (file_in o) file (at o bytes s log v n h file asked))

    after_long : room.entry_size key after ≡ changes_length (afters (change ∷ []))
    after_long = let k = key_size key in let i = image_size after in omega (arith, k, i)

    before_long : why ≡ None → room.entry_size key (before_change (change_in o) (unwrap_or had [])) ≡ changes_length (befores (change ∷ []))
    before_long none =
        let same : room.entry_size key (before_change (change_in o) (unwrap_or had [])) ≡ room.entry_size key change.before = ap (room.entry_size key) (found_before h (change_in o) key had value none ∙ sym (file_is.records key)) in
        let k = key_size key in
        let i = image_size change.before in
        omega (arith, same, k, i)

    -- the rings of the file's journals of images
    images_are : why ≡ None → option_map cause_line full_images ≡ images_full (next_id n) (changes_of file (change_said o bytes)) file
    images_are none =
        let open_now = open_next o bytes s log v n h file asked in
        (λ i. option_map cause_line (images_refused h (file_in o) s.units.places (sym unchanged_here i) (after_long i) (before_long none i)))
        ∙ images_alike s log v asked.places n asked.up asked.kept (file_in o) h.name file asked.found (at o bytes s log v n h file asked).there h (carried o bytes s log v n h file asked) (next_id n) open_now.0 open_now.1 (change ∷ []) refl
        ∙ ap (λ (cs : List Change). images_full (next_id n) cs file) (sym changes_are)

    -- what refuses it comes
    pub late_is : option_map cause_line (rms.direct_refused_after_reading (file_in o) h (change_in o) key value s told) ≡ alone_refused_after_reading n h.name file (change_said o bytes)
    late_is = go why refl
      where
        found : option_map cause_line why ≡ found_refused n None h.name (change_said o bytes) file
        found = asks.stands ∙ sym (found_is n h.name file o bytes)

        many : refused_if (nat_lt change_limit (length (changes_of file (change_said o bytes)))) (line.QuotaExceeded line.Changes change_limit) ≡ None
        many = ap (λ (cs : List Change). refused_if (nat_lt change_limit (length cs)) (line.QuotaExceeded line.Changes change_limit)) changes_are

        go : (x : Option Cause) → why ≡ x → option_map cause_line (first_cause why (first_cause full full_images)) ≡ alone_refused_after_reading n h.name file (change_said o bytes)
        go (Some c) is =
            ap (λ y. option_map cause_line (first_cause y (first_cause full full_images))) is
            ∙ sym (first_some (found_refused n None h.name (change_said o bytes) file) (first_of (refused_if (nat_lt change_limit (length (changes_of file (change_said o bytes)))) (line.QuotaExceeded line.Changes change_limit))
            (first_of (file_full file (change_said o bytes)) (images_full (next_id n) (changes_of file (change_said o bytes)) file))) (cause_line c) (sym found ∙ ap (option_map cause_line) is))
        go None is =
            lines_first why _ ∙ (λ i. first_of (found i) (first_of (sym many i) ((lines_first full full_images ∙ (λ j. first_of (asks.full j) (images_are is j))) i)))

    -- it is made of the volume
    module _ (made : rms.CommitsChange tid clock (file_in o) h (change_in o) key value s v w) where
      pub late_none : rms.direct_refused_after_reading (file_in o) h (change_in o) key value s told ≡ None
      late_none = made.late told asked.kept.told file_is.head.form file_is.laid

      pub late_is_none : alone_refused_after_reading n h.name file (change_said o bytes) ≡ None
      late_is_none = line_none (rms.direct_refused_after_reading (file_in o) h (change_in o) key value s told) (alone_refused_after_reading n h.name file (change_said o bytes)) late_is late_none

      takes : Suits h key (after_change (change_in o) value) × Takes h told key (after_change (change_in o) value)
      takes =
          let both = first_none why (first_cause full full_images) late_none in
          may_set h told file_is.head.form below o bytes one asked.number formed both.0 (first_none full full_images both.1).0

      had_none : why ≡ None
      had_none = (first_none why (first_cause full full_images) late_none).0

      images_none : full_images ≡ None
      images_none = (first_none full full_images (first_none why (first_cause full full_images) late_none).1).1

      pub key_set : (b : List (List ℕ)) × (made.commits.set.store.current ≡ Some b) × SetsKey h (λ k. is_some (table.holder s.locks (file_in o) k)) key (after_change (change_in o) value) told b made.commits.head
      key_set = made.commits.sets told asked.kept.told file_is.head.form file_is.laid takes.0 takes.1

      abbrev b : List (List ℕ)
      b = key_set.0

      abbrev new : FileHead
      new = made.commits.head

      place : IsFoundAt h.name n.durable.directory (file_in o) file
      place = at o bytes s log v n h file asked

      held_world : ◌≡◌ {A = Key → Bool} (λ k. is_some (table.holder s.locks (file_in o) k)) (is_locked n.volatile.locks h.name)
      held_world = held_alike v.catalog.heads (once o bytes s log v n h file asked) (file_in o) h asked.named.there n s.locks asked.kept.locks

      rest : KeepsRest n (file_in o) new told b v made.commits.set
      rest = keeps_rest n (file_in o) 417 h new told b v made.commits.set (of_node o bytes s log v n h file asked) asked.named.there made.commits.stages key_set.1 key_set.2.whole

      module _ (own : tid_of tid ≡ next_id n) (is_id : IsId (tid_of tid)) (ticks : n.clock ≡ clock) (moment : settling.next_moment clock v.catalog.home ≤ 24113056319999)
          (free : locks_refuse None (file_in o) (keys_by.keys_asked h (change_in o) key) s.locks ≡ None)
          (keeps : KeepsUp (alone_refused_before_reading n h.name file (change_said o bytes)) (alone_refused_after_reading n h.name file (change_said o bytes)) (direct_act n h.name file (change_said o bytes)) n) where
        pub comes : IsUp (acted (Directs h.name (change ∷ []) (own_settlement n)) n)
        comes = subst (λ (cs : List Change). IsUp (acted (Directs h.name cs (own_settlement n)) n)) changes_are (keeps (λ i. first_of (key_early free i) (late_is_none i)))

        may : MayChange (next_id n) file (change ∷ [])
        may = subst (MayChange (next_id n) file) changes_are
            (direct_may n asked.kept.has.units asked.up h.name (file_in o) file place (change_said o bytes) (form_none o bytes s log v n h file asked early) (passed_data n h.name file o bytes late_is_none) (passed_keys n h.name file (change_said o bytes) (key_early free))
            (ap has_changes changes_are))

        -- what the key had is what the file has
        abbrev set_to : Option (List ℕ) → Change
        set_to before = set_change key before (after_change (change_in o) value)

        rooms : (other : Key) → is_held file.history other ≡ true → room_at h told other ≤ room_at new b other
        rooms other is = key_set.2.rooms other ((λ i. held_world i other) ∙ held_locked n.volatile.locks h.name file.history.live other (live_held n asked.kept.has.units asked.up h.name (file_in o) file place) is)

        restorable : AreRestorable b (slice_set v.catalog.heads (file_in o) (Some new)) (acted (Changes (next_id n) (next_id n) h.name (change ∷ []) []) n).durable.directory
        restorable = subst (λ (x : Option (List ℕ)). AreRestorable b (slice_set v.catalog.heads (file_in o) (Some new)) (acted (Changes (next_id n) (next_id n) h.name (set_to x ∷ []) []) n).durable.directory) (sym (file_is.records key))
            (changes_restorable.sets told b v.catalog.heads n (file_in o) h new h.name file (next_id n) (next_id n) key (after_change (change_in o) value) [] asked.kept.has.files asked.kept.has.units asked.named place.there
            (subst (λ (x : Option (List ℕ)). MayChange (next_id n) file (set_to x ∷ [])) (file_is.records key) may)
            (record { from = key_set.2.within.from; to = key_set.2.within.to; whole = key_set.2.within.whole }) takes.0 made.commits.stages.same key_set.2.form key_set.2.laid key_set.2.map key_set.2.back rooms rest.others asked.kept.has.restorable)

        -- The images of the change and its settlement.

        abbrev V : Catalog
        V = made.commits.set.catalog

        abbrev st : Settlement
        st = own_settlement n

        before_is : before_change (change_in o) made.found ≡ had
        before_is = sym (made.had told asked.kept.told file_is.head.form file_is.laid) ∙ found_before h (change_in o) key had value had_none

        noted : Noted h.organization h key had after
        noted = noted_by h.organization h told key after file_is.head.form file_is.laid (record { from = key_set.2.within.from; to = key_set.2.within.to; whole = key_set.2.within.whole }) below mrn_small takes.0 takes.1
          where
            mrn_small : h.mrn < 2 ^ 32
            mrn_small =
                let tells : TellsCatalog v.catalog told = subst (λ x. IfSome x (TellsCatalog v.catalog)) asked.kept.told asked.order.holds in
                (told_heads v.catalog told tells asked.order.heads (file_in o) h asked.named.there).form.mrn

        -- the entries, as the world has them
        after_entry : change_entry (tid_of tid) (tid_of tid) (file_in o) key after ≡ change_entry (next_id n) (next_id n) (file_in o) key after
        after_entry = λ i. change_entry (own i) (own i) (file_in o) key after

        before_entry : change_entry (tid_of tid) (tid_of tid) (file_in o) key (before_change (change_in o) made.found) ≡ change_entry (next_id n) (next_id n) (file_in o) key had
        before_entry = λ i. change_entry (own i) (own i) (file_in o) key (before_is i)

        after_is : IsEntry (change_entry (next_id n) (next_id n) (file_in o) key after)
        after_is = subst IsEntry after_entry made.commits.each.0

        had_is : IsEntry (change_entry (next_id n) (next_id n) (file_in o) key had)
        had_is = subst IsEntry before_entry made.commits.each.1

        of_form : key_in_file h.organization (key_bytes key) ≡ Some key
        of_form = key_read h.organization h key noted.form

        low_here : ((span_of After h).end + 2 ^ 24 ≤ 2 ^ 62) × ((span_of Before h).end + 2 ^ 24 ≤ 2 ^ 62)
        low_here = asked.low (file_in o) h asked.named.there

        fit_here : SettlementsFit After h (file_in o) s.units.places × SettlementsFit Before h (file_in o) s.units.places
        fit_here = asked.order.images (file_in o) h asked.named.there

        abbrev after_size : ℕ
        after_size = room.entry_size key after

        abbrev before_size : ℕ
        before_size = room.entry_size key had

        images_free : images_refused h (file_in o) s.units.places false after_size before_size ≡ None
        images_free = ap (λ x. images_refused h (file_in o) s.units.places false after_size (room.entry_size key x)) (sym (found_before h (change_in o) key had value had_none)) ∙ images_none

        after_room : h.marks.ai ≡ true → h.ai.end - h.ai.first + (48 + after_size) ≤ ring_size h.ai
        after_room kept_on = room_to_change After h (file_in o) s.units.places true (48 + after_size) (afters_have_room h (file_in o) s.units.places false after_size before_size images_free) fit_here.0 kept_on

        before_room : h.marks.bi ≡ true → h.bi.end - h.bi.first + (48 + before_size) ≤ ring_size h.bi
        before_room kept_on = room_to_change Before h (file_in o) s.units.places true (48 + before_size) (befores_have_room h (file_in o) s.units.places false after_size before_size images_free) fit_here.1 kept_on

        after_spelled : length (spelling (change_entry (next_id n) (next_id n) (file_in o) key after)) ≡ after_size
        after_spelled = spelled_size (next_id n) (next_id n) (file_in o) key after after_is

        before_spelled : length (spelling (change_entry (next_id n) (next_id n) (file_in o) key had)) ≡ before_size
        before_spelled = spelled_size (next_id n) (next_id n) (file_in o) key had had_is

        after_image_is : IsImage After (file_in o) h (next_id n) (next_id n) key after
        after_image_is = record { entry = after_is; some = noted.later; of = of_form; suits = takes.0; room = λ kept_on. let enough = after_room kept_on in let size = after_spelled in omega (arith, enough, size); low = low_here.0 }

        had_image_is : IsImage Before (file_in o) h (next_id n) (next_id n) key had
        had_image_is = record { entry = had_is; some = noted.some; of = of_form; suits = noted.suits; room = λ kept_on. let enough = before_room kept_on in let size = before_spelled in omega (arith, enough, size); low = low_here.1 }

        before_image_is : IsImage Before (file_in o) h (next_id n) (next_id n) key (record_in file key)
        before_image_is = subst (IsImage Before (file_in o) h (next_id n) (next_id n) key) (sym (file_is.records key)) had_image_is

        head_there : head_at V.heads (file_in o) ≡ Some new
        head_there = ap (λ hs. head_at hs (file_in o)) rest.heads ∙ get_or-set_same v.catalog.heads (file_in o) (Some new) None (within_list v.catalog.heads (file_in o) h asked.named.there)

        head_new : IsHead new
        head_new = told_heads V b rest.tells rest.long (file_in o) new head_there

        may_after : MayEnter After (file_in o) V.heads (next_id n) (after_image (next_id n) change)
        may_after = may_enter After (file_in o) h new made.commits.stages.same (next_id n) (next_id n) key after after_image_is V.heads head_there head_new

        may_before : MayEnter Before (file_in o) V.heads (next_id n) (before_image (next_id n) change)
        may_before = may_enter Before (file_in o) h new made.commits.stages.same (next_id n) (next_id n) key (record_in file key) before_image_is V.heads head_there head_new

        -- as they are spelled on the disk
        spelled_after : spelling (own_change tid (file_in o) key after) ≡ spelled_entry (file_in o) (next_id n) (after_image (next_id n) change)
        spelled_after = ap spelling (after_entry ∙ sym (change_is (file_in o) (next_id n) (next_id n) key after noted.later))

        spelled_before : spelling (own_change tid (file_in o) key (before_change (change_in o) made.found)) ≡ spelled_entry (file_in o) (next_id n) (before_image (next_id n) change)
        spelled_before = ap spelling (before_entry ∙ sym (change_is (file_in o) (next_id n) (next_id n) key had noted.some)) ∙ (λ i. spelled_entry (file_in o) (next_id n) (Changed (next_id n) key (sym (file_is.records key) i)))

        abbrev a_bytes : List ℕ
        a_bytes = spelled_entry (file_in o) (next_id n) (after_image (next_id n) change)

        abbrev e_bytes : List ℕ
        e_bytes = spelled_entry (file_in o) (next_id n) (before_image (next_id n) change)

        abbrev outcome_bytes : List ℕ
        outcome_bytes = spelled_entry 0 (next_id n) (outcome_of st)

        abbrev heads_now : List (Option FileHead)
        heads_now = heads_with_both (file_in o) (length a_bytes) (length e_bytes) V.heads

        abbrev content_now : List (List ℕ)
        content_now = content_with_both (file_in o) a_bytes e_bytes V.heads b

        abbrev closed_content : List (List ℕ)
        closed_content = content_from 0 (only (file_in o)) outcome_bytes heads_now content_now

        abbrev closed_heads : List (Option FileHead)
        closed_heads = heads_from 0 (only (file_in o)) (length outcome_bytes) heads_now

        imaged_now : made.commits.imaged.store.current ≡ Some content_now
        imaged_now = made.commits.images.current ∙ ap (option_map (content_with_both (file_in o) (spelling (own_change tid (file_in o) key after)) (spelling (own_change tid (file_in o) key (before_change (change_in o) made.found))) V.heads)) key_set.1
            ∙ (λ i. Some (content_with_both (file_in o) (spelled_after i) (spelled_before i) V.heads b))

        imaged_is : made.commits.imaged.catalog ≡ record V { heads = heads_now }
        imaged_is = made.commits.images.catalog ∙ (λ i. record V { heads = heads_with_both (file_in o) (length (spelled_after i)) (length (spelled_before i)) V.heads })

        -- the settlement's entry
        moment_is : settling.next_moment clock v.catalog.home ≡ next_moment n
        moment_is = sym (moment_of n clock v.catalog.home ticks asked.kept.has.home.greatest)

        closing_same : settled_entry (tid_of tid) (tid_of tid) Commit (settling.next_moment clock v.catalog.home) ≡ settled_entry (next_id n) (next_id n) Commit (next_moment n)
        closing_same = λ i. settled_entry (own i) (own i) Commit (moment_is i)

        spelled_closing : spelling (settled_entry (tid_of tid) (tid_of tid) Commit (settling.next_moment clock v.catalog.home)) ≡ outcome_bytes
        spelled_closing = ap spelling (closing_same ∙ sym (outcome_entry 0 (next_id n) (next_id n) Commit (next_moment n)))

        closed_told : made.commits.closed.store.current ≡ Some closed_content
        closed_told = made.commits.closes.current ∙ ap (option_map (content_from 0 (only (file_in o)) (spelling (settled_entry (tid_of tid) (tid_of tid) Commit (settling.next_moment clock v.catalog.home))) made.commits.imaged.catalog.heads)) imaged_now
            ∙ (λ i. Some (content_from 0 (only (file_in o)) (spelled_closing i) (imaged_is i).heads content_now))

        closed_is : made.commits.closed.catalog ≡ record V { heads = closed_heads }
        closed_is = made.commits.closes.catalog ∙ (λ i. record (imaged_is i) { heads = heads_from 0 (only (file_in o)) (length (spelled_closing i)) (imaged_is i).heads })

        abbrev held : Key → Bool
        held = is_locked n.volatile.locks h.name

        abbrev bare : File
        bare = carrying file.carried (directly_changed held st (change ∷ []) file)

        abbrev buckets : List (Option File)
        buckets = directly_buckets held st (change ∷ []) (file_in o) file n.durable.directory

        wide : (file_in o) < length n.durable.directory
        wide = within_list n.durable.directory (file_in o) file place.there

        low_number : (file_in o) < 64
        low_number = let long = asked.kept.has.files.directory_long in let within = wide in omega (arith, long, within)

        bare_there : file_at buckets (file_in o) ≡ Some bare
        bare_there = get_or-set_same n.durable.directory (file_in o) (Some bare) None wide

        module _ (files : AreFiles b V.heads buckets) where
          fitting : AreFitting b (data_area (sizes_of V.home)) V.heads buckets
          fitting = record { files = files; fit = fits_in n.name n.blocks V rest.long rest.sound; behind = omega arith; whole = key_set.2.whole }

          is_next : IsId (next_id n)
          is_next = subst IsId own is_id

          small : next_moment n < 2 ^ 64
          small = let same = moment_is in omega (arith, same, moment)

          after_has : length a_bytes ≡ after_size
          after_has = ap length (sym spelled_after) ∙ ap (λ (e : Entry). length (spelling e)) after_entry ∙ after_spelled

          before_has : length e_bytes ≡ before_size
          before_has = ap length (sym spelled_before) ∙ ap (λ (e : Entry). length (spelling e)) before_entry ∙ before_spelled

          most_after : after_size ≤ 8272
          most_after = let size = after_spelled in let most = (entry_size (change_entry (next_id n) (next_id n) (file_in o) key after) after_is).1 in omega (arith, size, most)

          most_before : before_size ≤ 8272
          most_before = let size = before_spelled in let most = (entry_size (change_entry (next_id n) (next_id n) (file_in o) key had) had_is).1 in omega (arith, size, most)

          span_after : span_of After new ≡ span_of After h
          span_after = ap (λ (x : FileHead). x.ai) made.commits.stages.same.is

          span_before : span_of Before new ≡ span_of Before h
          span_before = ap (λ (x : FileHead). x.bi) made.commits.stages.same.is

          room_after : HasRoomFor After (length a_bytes) new
          room_after = record {
            room = λ kept_on. subst (λ (r : Span). r.end - r.first + (48 + length a_bytes) ≤ ring_size r) (sym span_after) (let enough = after_room (sym (ap (λ (x : FileHead). x.marks.ai) made.commits.stages.same.is) ∙ kept_on) in let size = after_has in omega (arith, enough, size));
            low = λ kept_on. let end = ap (λ (r : Span). r.end) span_after in let low = low_here.0 in let size = after_has in let most = most_after in omega (arith, end, low, size, most);
          }

          room_before : HasRoomFor Before (length e_bytes) new
          room_before = record {
            room = λ kept_on. subst (λ (r : Span). r.end - r.first + (48 + length e_bytes) ≤ ring_size r) (sym span_before) (let enough = before_room (sym (ap (λ (x : FileHead). x.marks.bi) made.commits.stages.same.is) ∙ kept_on) in let size = before_has in omega (arith, enough, size));
            low = λ kept_on. let end = ap (λ (r : Span). r.end) span_before in let low = low_here.1 in let size = before_has in let most = most_before in omega (arith, end, low, size, most);
          }

          one_image : Enters b V.heads content_now (data_area (sizes_of V.home)) heads_now (slice_set buckets (file_in o) (Some (carrying (with_image (next_id n) (next_id n) change file.carried) bare)))
          one_image = enters_change b (data_area (sizes_of V.home)) V.heads buckets (file_in o) bare (next_id n) (next_id n) change fitting low_number bare_there may_after may_before

          heads_imaged : (x : FileHead) → head_at heads_now (file_in o) ≡ Some x → IsHead x
          heads_imaged x there_x = told_heads (record V { heads = heads_now }) content_now (one_image.tells V refl rest.tells) one_image.fitting.fit.heads_long (file_in o) x there_x

          told_both : Enters b V.heads closed_content (data_area (sizes_of V.home)) closed_heads (slice_set buckets (file_in o) (Some (told_file true st (carrying (with_image (next_id n) (next_id n) change file.carried) bare))))
          told_both = told_behind b content_now (data_area (sizes_of V.home)) V.heads heads_now buckets (file_in o) (carrying (with_image (next_id n) (next_id n) change file.carried) bare) st low_number (within_list buckets (file_in o) bare bare_there) files.directory_long one_image
              (may_settle (file_in o) st is_next is_next small V.heads new head_there (length a_bytes) (length e_bytes) heads_imaged After room_after)
              (may_settle (file_in o) st is_next is_next small V.heads new head_there (length a_bytes) (length e_bytes) heads_imaged Before room_before)

          -- the directory is that of the act
          directory_now : slice_set buckets (file_in o) (Some (told_file true st (carrying (with_image (next_id n) (next_id n) change file.carried) bare))) ≡ (acted (Directs h.name (change ∷ []) st) n).durable.directory
          directory_now = ap (λ (t : Bool). slice_set buckets (file_in o) (Some (carrying (with_outcome t st (with_image (next_id n) (next_id n) change file.carried)) bare))) (sym (now_changed (next_id n) change file.history))
              ∙ enters_images.directs n (file_in o) h.name file (change ∷ []) st place

          pub enters_all : Enters b V.heads closed_content (data_area (sizes_of V.home)) closed_heads (acted (Directs h.name (change ∷ []) st) n).durable.directory
          enters_all = subst (Enters b V.heads closed_content (data_area (sizes_of V.home)) closed_heads) directory_now told_both

        pub directs_key : DirectsFile n (file_in o) h h.name file tid clock (change ∷ []) s.units.places told b v made.commits.set w new
        directs_key = record {
          named = asked.named;
          at = place;
          may = may;
          limit = 417;
          stages = made.commits.stages;
          now = key_set.1;
          whole = key_set.2.whole;
          changed = subst (λ (held : Key → Bool). IsChanged held (change ∷ []) told h b new) held_world
              (set_changes (file_in o) 417 h new (λ k. is_some (table.holder s.locks (file_in o) k)) key (record_in file key) (after_change (change_in o) value) told b v made.commits.set made.commits.stages key_set.2);
          restorable = restorable;
          closed = made.commits.closed;
          images = closed_content;
          told = closed_told;
          catalog = closed_is ∙ (λ i. record made.commits.set.catalog { heads = sym (ap (λ (k : Catalog). k.heads) closed_is) i });
          enters = λ files. subst (λ hs. Enters b made.commits.set.catalog.heads closed_content (data_area (sizes_of made.commits.set.catalog.home)) hs (acted (Directs h.name (change ∷ []) (own_settlement n)) n).durable.directory) (sym (ap (λ (k : Catalog). k.heads) closed_is)) (enters_all files);
          makes = made.commits.settles;
          own = own;
          is_id = is_id;
          ticks = ticks;
          early = moment;
          begins = begins o bytes s log v n h file asked change [] comes;
        }

    -- it is done
    pub key_done : (position : ℕ) → rms.DirectsKey tid clock (file_in o) h (change_in o) key value s v w → tid_of tid ≡ next_id n → IsId (tid_of tid) → n.clock ≡ clock → settling.next_moment clock v.catalog.home ≤ 24113056319999 →
        KeepsUp (alone_refused_before_reading n h.name file (change_said o bytes)) (alone_refused_after_reading n h.name file (change_said o bytes)) (direct_act n h.name file (change_said o bytes)) n →
        w.store.disk.size ≡ v.store.disk.size → position ≡ position_by h.organization (change_in o) key →
        IsDone (alone_refused_before_reading n h.name file (change_said o bytes)) (alone_refused_after_reading n h.name file (change_said o bytes)) (direct_act n h.name file (change_said o bytes)) (operation_answer file (change_said o bytes)) (position_line position) n (seen s log) w
    key_done position d own is_id ticks moment keeps size at_position =
        let before = key_early d.early in
        let after = late_is_none d.made in
        let made = directs_key d.made own is_id ticks moment d.early keeps in
        let set = (key_set d.made).0 in
        let content = direct_told n (file_in o) h h.name file tid clock (change ∷ []) s.units.places told set v d.made.commits.set w d.made.commits.head made in
        record {
          allowed = (λ i. first_of (before i) (after i));
          kept = subst (λ (cs : List Change). IsKept (seen s log) w (acted (Directs h.name cs (own_settlement n)) n)) (sym changes_are)
              (direct_kept (seen s log) v n (file_in o) h h.name file tid clock change [] s.units.places set d.made.commits.set w d.made.commits.head content.0 asked.kept asked.up (of_node o bytes s log v n h file asked) made (comes d.made own is_id ticks moment d.early keeps) content.1 size);
          answers = asks.answer ∙ ap position_line (sym at_position);
        }
