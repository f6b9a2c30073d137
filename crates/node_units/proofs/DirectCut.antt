-- A truncation without a unit that was done is one of the world.
use Rattle.std.proofs.Common.{◌≡◌, ℕ, ◌+◌, ◌-◌, ◌*◌, ◌<◌, ◌≤◌, ◌^◌, List, [], ◌∷◌, Bool, true, false, Option, Some, None, drop, length, map, nat_lt, reverse, slice_set, refl, sym, ◌∙◌, ap, subst, arith, get_or-set_same}
use Rattle.std.specs.Prelude.{◌==◌, option_map, unwrap_or}
use Rattle.std.specs.List.{AllByRecursion, flat_map}
use Rattle.std.specs.Option.{IfSome}
use Rattle.std.proofs.lemmas.List.{length-map}
use Rattle.block_disk.specs.Blocks.{block_at}
use Rattle.vms_model.specs.Limits.{change_limit}
use Rattle.change_set.specs.Maps.{empty_map}
use Rattle.unit_world.specs.directory_model.Files.{AreFiles, IsFile, IsFoundAt, IsNamed, file_at, head_at}
use Rattle.unit_world.specs.directory_model.Laws.{IsChanged, carrying, directly_buckets, spelled_entry}
use Rattle.unit_world.specs.directory_model.Restoring.{AreRestorable}
use Rattle.unit_world.proofs.directory_model.Entering.{enters_images}
use Rattle.unit_world.proofs.directory_model.Places.{within_list}
use Rattle.file_base.specs.declared.head.FileHead.{FileHead}
use Rattle.file_base.specs.declared.head.Organization.{Organization as Kept}
use Rattle.file_base.specs.declared.head.Organization.TheVariants as kept
use Rattle.file_base.specs.declared.head.Span.{Span}
use Rattle.unit_world.specs.file_images.Files.{SameRing}
use Rattle.recovery_units.specs.image_appends.Images.{is_kept, span_of}
use Rattle.recovery_units.specs.image_appends.Settling.{content_from, heads_from}
use Rattle.recovery_units.specs.image_appends.declared.side.Side.{Side}
use Rattle.recovery_units.specs.image_appends.declared.side.Side.TheVariants.{After, Before}
use Rattle.undo_laws.proofs.image_groups.Lists.{enters_moved}
use Rattle.undo_laws.specs.image_groups.Groups.{Enters, outcome_of, told_file}
use Rattle.undo_laws.specs.image_groups.Lists.{StandIfKept, images_bytes, moved_ends}
use Rattle.recovery_units.proofs.image_room.Keeping.{afters_have_room, befores_have_room, room_to_change}
use Rattle.recovery_units.specs.image_room.Room.{SettlementsFit, images_refused}
use Rattle.journal_model.specs.Entries.{IsEntry, spelling}
use Rattle.journal_model.specs.Ring.{ring_size}
use Rattle.rms_units.specs.kept_files.Own.{only}
use Rattle.log_laws.specs.Slots.{Slots}
use Rattle.volume_files.specs.record_files.Any.{LaidOutBy, layout_by, map_by, map_of}
use Rattle.record_operations.specs.Causes.{Cause, Changes as TooMany, RecordNotFound, cause_if, first_cause}
use Rattle.record_operations.specs.declared.ops.RecordOp.{RecordOp}
use Rattle.record_operations.specs.declared.ops.RecordOp.TheVariants as op
use Rattle.records_model.specs.History.{changed_it}
use Rattle.records_model.specs.Records.{Change}
use Rattle.recovery_units.specs.Calls.{IsDone, KeepsUp, alone_refused_after_reading, alone_refused_before_reading, cause_line, change_said, direct_act, position_line}
use Rattle.recovery_units.specs.State.{AreLocks, IsKept}
use Rattle.unit_world.proofs.restart_laws.ChangingLemmas.{changes_restorable}
use Rattle.unit_world.specs.restart_laws.Units.{MayChange}
use Rattle.rms_units.specs.Calls as rms
use Rattle.rms_units.specs.key_changes.Changing.{locks_refuse}
use Rattle.rms_units.specs.key_changes.Keys.{change_in, position_by}
use Rattle.rms_units.specs.State as state
use Rattle.rms_units.specs.Truncating.{DirectsCut, IsDirectCut, cut_asked, number_refused}
use Rattle.recovery_units.specs.run_model.Answers.{found_refused, images_full, keys_refused}
use Rattle.recovery_units.specs.run_model.Locks.{is_locked}
use Rattle.recovery_units.specs.run_model.Operations.{changes_of, data_refused, file_full, first_of, in_order, keys_asked, operation_answer, refused_if, removed}
use Rattle.recovery_units.specs.run_model.World.{Act, Changes, Directs, File, Node, Settlement, acted, directly_changed, fallen, next_id, next_moment, with_images, with_outcome}
use Rattle.script_model.specs.Statements.{Operation, Truncate}
use Rattle.volume_files.specs.seq_file.Layout as seq
use Rattle.volume_files.specs.seq_file.Records.{cut_from}
use Rattle.transcript_model.specs.Lines as line
use Rattle.transcript_model.specs.Lines.{Line}
use Rattle.rms_units.proofs.unit_cuts.CutEntering.{entries_long}
use Rattle.rms_units.specs.unit_cuts.Truncating.{CommitsCut, CutEntries, cut_entries, entry_sizes, head_behind, keys_cut, removed_from, with_entries_if}
use Rattle.rms_units.specs.unit_journal.Entries.{settled_entry}
use Rattle.rms_units.specs.unit_journal.Settling as settling
use Rattle.rms_units.specs.unit_journal.Settling.{MakesSettlement}
use Rattle.unit_laws.specs.Journal.{trimmed}
use Rattle.unit_laws.specs.Units.{has_changes}
use Rattle.unit_table.specs.Units.{earliest}
use Rattle.unit_world.proofs.Found.{unchanged}
use Rattle.vms_base.specs.Ids.{tid_of}
use Rattle.vms_base.specs.declared.ids.Tid.{Tid}
use Rattle.vms_model.specs.Ids.{IsId}
use Rattle.vms_model.specs.Keys.{Key, Number}
use Rattle.vms_model.specs.Transactions.{Commit}
use Rattle.volume.specs.Catalogs.{IsSound, TellsCatalog, TellsEntry}
use Rattle.volume.specs.Limits.{data_area}
use Rattle.volume.specs.State.{VolumeState}
use Rattle.volume.specs.declared.catalog.Catalog.{Catalog}
use Rattle.volume_files.specs.Staging.{CutsFile}
use Rattle.volume_format.specs.Head.{IsHead, head_block_of}
use Rattle.volume_format.specs.Home.{sizes_of}
use Rattle.volume_format.specs.declared.home.Ending.TheVariants as ending
use Rattle.recovery_units.specs.volume_model.Volumes.{HasVolume, IsLeftBy}
use Rattle.recovery_units.specs.world_laws.Nodes.{IsUp}
use Rattle.node_units.specs.Seen.{seen}
use Rattle.node_units.proofs.AskedCut.{keys_alike, many_alike}
use Rattle.node_units.proofs.CutAlike.{cut_answers, cut_room, cut_some, is_sequential, number_alike}
use Rattle.node_units.proofs.CutBehind.{NotedAt, each_noted, entries_of, long_so, ring_carried, second_still, spelled_so, stand_so, stands_there}
use Rattle.node_units.proofs.CutImages.{IsStill, sound_here, still_kept}
use Rattle.node_units.proofs.CutKept.{now_changed}
use Rattle.node_units.proofs.CutMade.{ends_behind, most_of}
use Rattle.node_units.proofs.CutRefusals.{Entries, images_long, keys_going, none_if, some_made, told_going}
use Rattle.node_units.proofs.CuttingFile.{cut_changes}
use Rattle.node_units.proofs.DirectDone.{IsAskedOf, at, begins, carried, early_form, early_none, few, form_none, found_is, is_file, once, open_next, passed_data, passed_keys}
use Rattle.node_units.proofs.DirectImages.{HasRoomFor, may_settle_moved, told_behind}
use Rattle.node_units.proofs.DirectMade.{DirectsFile, direct_kept, direct_left, direct_told, moment_of, own_settlement}
use Rattle.node_units.proofs.Directly.{direct_may, fresh}
use Rattle.node_units.proofs.Imaging.{fits as fits_in, outcome_entry, told_heads}
use Rattle.node_units.proofs.ImagesAlike.{images_alike}
use Rattle.node_units.proofs.KeyImages.{kept_same, span_same}
use Rattle.node_units.proofs.Looking.{first_again}
use Rattle.node_units.proofs.ReadLemmas.{asked_file, first_none, line_none}
use Rattle.node_units.proofs.Refusing.{locks_alike}
use Rattle.node_units.proofs.SettingFile.{IsOfNode, KeepsRest, keeps_rest}

abbrev Content : Type 0
Content = List (List ℕ)

module _ (g from : ℕ) (bytes : List ℕ) (s : state.UnitsState) (log : Slots) (v w : VolumeState) (n : Node) (h : FileHead) (file : File) (asked : IsAskedOf (op.Truncate g from) s log v n h file) (tid : Tid) (clock : ℕ) (early : rms.direct_refused_before_reading h (op.Truncate g from) [] ≡ None) where
  abbrev pub cut_op : RecordOp
  cut_op = op.Truncate g from

  abbrev pub cut_file_is : IsFile asked.kept.content h file
  cut_file_is = is_file cut_op bytes s log v n h file asked

  pub sequential : h.organization ≡ kept.Sequential
  sequential = is_sequential h (early_form cut_op bytes s log v n h file asked early)

  abbrev pub cut_said : Operation
  cut_said = Truncate from

  pub cut_early_is : option_map cause_line (locks_refuse None g (cut_asked h from) s.locks) ≡ keys_refused n None h.name (keys_asked file cut_said)
  cut_early_is = locks_alike v.catalog.heads (once cut_op bytes s log v n h file asked) g h asked.named.there n s.locks asked.kept.locks None (cut_asked h from)
      ∙ ap (keys_refused n None h.name) (sym (keys_alike asked.kept.content h file cut_file_is sequential from))

  cut_number : option_map cause_line (number_refused 0 (removed_from h.count from)) ≡
      first_of (found_refused n None h.name (change_said cut_op bytes) file) (first_of (refused_if (nat_lt change_limit (length (changes_of file cut_said))) (line.QuotaExceeded line.Changes change_limit)) (file_full file cut_said))
  cut_number =
      let many = refused_if (nat_lt change_limit (length (changes_of file cut_said))) (line.QuotaExceeded line.Changes change_limit) in
      number_alike asked.kept.content h file cut_file_is sequential from
      ∙ sym (only (first_of (data_refused file cut_said) many))
      ∙ sym (first_again (data_refused file cut_said) many None)
      ∙ (λ i. first_of (sym (found_is n h.name file cut_op bytes) i) (first_of many (sym (cut_room asked.kept.content h file cut_file_is sequential from) i)))
    where
      only : (l : Option Line) → first_of l None ≡ l
      only (Some l) = refl
      only None = refl

  -- the rings of the file's journals of images
  abbrev pub cut_full : Option Cause
  cut_full = images_refused h g s.units.places false (entry_sizes empty_map (keys_cut h from)) (entry_sizes (map_of h asked.kept.content) (keys_cut h from))

  cut_unchanged : changed_it file.history (next_id n) ≡ false
  cut_unchanged = unchanged n g file (next_id n) asked.kept.has.units (at cut_op bytes s log v n h file asked).there (fresh n asked.kept.has.units asked.up h.name g file (at cut_op bytes s log v n h file asked))

  cut_images : number_refused 0 (removed_from h.count from) ≡ None → option_map cause_line cut_full ≡ images_full (next_id n) (changes_of file cut_said) file
  cut_images none =
      let some = cut_some asked.kept.content h file cut_file_is sequential from none in
      let long = images_long asked.kept.content h file from cut_file_is sequential some.0 in
      let open_now = open_next cut_op bytes s log v n h file asked in
      (λ i. option_map cause_line (images_refused h g s.units.places (sym cut_unchanged i) (long.0 i) (long.1 i)))
      ∙ images_alike s log v asked.places n asked.up asked.kept g h.name file asked.found (at cut_op bytes s log v n h file asked).there h (carried cut_op bytes s log v n h file asked) (next_id n) open_now.0 open_now.1 (changes_of file cut_said)
      (some_made (changes_of file cut_said) some.1)

  pub cut_late_is : option_map cause_line (first_cause (number_refused 0 (removed_from h.count from)) cut_full) ≡ alone_refused_after_reading n h.name file cut_said
  cut_late_is = go (number_refused 0 (removed_from h.count from)) refl
    where
      turned : (a b c d : Option Line) → first_of (first_of a (first_of b c)) d ≡ first_of a (first_of b (first_of c d))
      turned (Some a) b c d = refl
      turned None (Some b) c d = refl
      turned None None c d = refl

      go : (x : Option Cause) → number_refused 0 (removed_from h.count from) ≡ x → option_map cause_line (first_cause (number_refused 0 (removed_from h.count from)) cut_full) ≡ alone_refused_after_reading n h.name file cut_said
      go (Some c) is =
          ap (λ (y : Option Cause). option_map cause_line (first_cause y cut_full)) is
          ∙ sym (ap (λ (l : Option Line). first_of l (images_full (next_id n) (changes_of file cut_said) file)) (sym cut_number ∙ ap (option_map cause_line) is))
          ∙ turned (found_refused n None h.name cut_said file) (refused_if (nat_lt change_limit (length (changes_of file cut_said))) (line.QuotaExceeded line.Changes change_limit)) (file_full file cut_said) (images_full (next_id n) (changes_of file cut_said) file)
      go None is =
          ap (λ (y : Option Cause). option_map cause_line (first_cause y cut_full)) is ∙ cut_images is
          ∙ sym (ap (λ (l : Option Line). first_of l (images_full (next_id n) (changes_of file cut_said) file)) (sym cut_number ∙ ap (option_map cause_line) is))
          ∙ turned (found_refused n None h.name cut_said file) (refused_if (nat_lt change_limit (length (changes_of file cut_said))) (line.QuotaExceeded line.Changes change_limit)) (file_full file cut_said) (images_full (next_id n) (changes_of file cut_said) file)

  pub cut_free : locks_refuse None g (cut_asked h from) s.locks ≡ None → alone_refused_before_reading n h.name file cut_said ≡ None
  cut_free free = early_none cut_op bytes s log v n h file asked (cut_asked h from) (keys_alike asked.kept.content h file cut_file_is sequential from) early free

  -- it is made of the volume
  module _ (some : number_refused 0 (removed_from h.count from) ≡ None) (made : IsDirectCut tid clock g h from s v w) where
    abbrev a : Content
    a = asked.kept.content

    abbrev es : CutEntries
    es = made.entries

    abbrev does : CommitsCut g h from es tid (settling.next_moment clock v.catalog.home) s.units.places v w
    does = made.makes

    full_none : cut_full ≡ None
    full_none = made.late a asked.kept.told cut_file_is.head.form cut_file_is.laid

    pub cut_late_none : alone_refused_after_reading n h.name file cut_said ≡ None
    cut_late_none = line_none (first_cause (number_refused 0 (removed_from h.count from)) cut_full) (alone_refused_after_reading n h.name file cut_said) cut_late_is (λ i. first_cause (some i) (full_none i))

    first_one : (1 ≤ from) × (1 ≤ length (changes_of file cut_said))
    first_one = cut_some a h file cut_file_is sequential from some

    cut_place : IsFoundAt h.name n.durable.directory g file
    cut_place = at cut_op bytes s log v n h file asked

    -- The entries of images stand behind the ends of the file's journals: the volume is the node's still.

    abbrev known : IsSound n.name n.blocks v.catalog
    known = sound_here s v asked.order n log asked.kept g h asked.named.there

    still_a : IsStill n v.catalog g h asked.named.there known asked.order.heads a
    still_a = still_kept s v asked.order n log asked.kept g h asked.named.there

    rooms : (side : Side) → is_kept side h ≡ true → (span_of side h).end - (span_of side h).first + length (flat_map spelling (entries_of side es)) ≤ ring_size (span_of side h)
    rooms After on = (does.images.afters.room on).room
    rooms Before on = (does.images.befores.room on).room

    abbrev a2 : Content
    a2 = with_entries_if h.marks.ai h.ai es.gone (with_entries_if h.marks.bi h.bi es.images a)

    still_2 : IsStill n v.catalog g h asked.named.there known asked.order.heads a2
    still_2 = second_still n v.catalog g h asked.named.there known asked.order.heads a still_a es rooms

    abbrev before : VolumeState
    before = does.written

    same : before.catalog ≡ v.catalog
    same = does.images.afters.catalog ∙ does.images.befores.catalog

    size_before : before.store.disk.size ≡ v.store.disk.size
    size_before = does.images.afters.size ∙ does.images.befores.size

    told_2 : before.store.current ≡ Some a2
    told_2 = does.images.afters.current ∙ ap (option_map (with_entries_if h.marks.ai h.ai es.gone)) (does.images.befores.current ∙ ap (option_map (with_entries_if h.marks.bi h.bi es.images)) asked.kept.told)

    has_2 : HasVolume a2 before.catalog n
    has_2 = subst (λ (k : Catalog). HasVolume a2 k n) (sym same) still_2.volume

    abbrev kept_2 : IsKept (seen s log) before n
    kept_2 = record {
      content = a2;
      told = told_2;
      name = asked.kept.name ∙ sym (ap (λ (k : Catalog). k.home.node) same);
      blocks = asked.kept.blocks ∙ sym size_before;
      has = has_2;
      log = asked.kept.log;
      branches = asked.kept.branches;
      locks = subst (λ (k : Catalog). AreLocks k.heads (seen s log).locks n.volatile.locks) (sym same) asked.kept.locks;
      each = asked.kept.each;
    }

    of_2 : IsOfNode n a2 before
    of_2 = record {
      told = told_2;
      holds = subst (λ o. IfSome o (TellsCatalog before.catalog)) (sym told_2) (subst (λ (k : Catalog). TellsCatalog k a2) (sym same) still_2.tells);
      sound = subst (λ (k : Catalog). IsSound n.name n.blocks k) (sym same) known;
      long = ap (λ (k : Catalog). length k.heads) same ∙ asked.order.heads;
      size = size_before ∙ sym asked.kept.blocks;
      home = has_2.home;
      journal = has_2.journal;
      log = has_2.log;
    }

    named_2 : IsNamed before.catalog.heads g h h.name
    named_2 = subst (λ (k : Catalog). IsNamed k.heads g h h.name) (sym same) asked.named

    file_2 : IsFile a2 h file
    file_2 = asked_file a2 v.catalog.heads n g h file still_2.volume.files asked.kept.has.units asked.named.there asked.found

    -- The file is cut.

    abbrev mid : VolumeState
    mid = does.cuts.cut

    abbrev new : FileHead
    new = does.cuts.head

    cut_set : (b : Content) × (mid.store.current ≡ Some b) × CutsFile h from a b new
    cut_set = does.cuts.cuts a asked.kept.told cut_file_is.head.form cut_file_is.laid

    abbrev b : Content
    b = cut_set.0

    cuts_2 : CutsFile h from a2 b new
    cuts_2 = record {
      whole = cut_set.2.whole;
      form = cut_set.2.form;
      laid = cut_set.2.laid;
      map = cut_set.2.map ∙ ap (cut_from from) (λ i k. (sym (cut_file_is.records k) ∙ file_2.records k) i);
      layout = cut_set.2.layout ∙ ap (λ q. layout_by q h a) sequential ∙ sym (ap (λ q. layout_by q h a2) sequential);
    }

    cut_rest : KeepsRest n g new a2 b before mid
    cut_rest = keeps_rest n g 65 h new a2 b before mid of_2 named_2.there does.cuts.stages cut_set.1 cut_set.2.whole

    abbrev V : Catalog
    V = mid.catalog

    abbrev cs : List Change
    cs = changes_of file cut_said

    abbrev going : Entries
    going = drop (from - 1) (in_order file)

    abbrev held : Key → Bool
    held = is_locked n.volatile.locks h.name

    changed_is : IsChanged held cs a2 h b new
    changed_is = cut_changes g 65 from h new held file a2 b before mid file_2 sequential first_one.0 does.cuts.stages cuts_2

    module _ (own : tid_of tid ≡ next_id n) (is_id : IsId (tid_of tid)) (ticks : n.clock ≡ clock) (moment : settling.next_moment clock v.catalog.home ≤ 24113056319999) (free : locks_refuse None g (cut_asked h from) s.locks ≡ None)
        (keeps : KeepsUp (alone_refused_before_reading n h.name file cut_said) (alone_refused_after_reading n h.name file cut_said) (direct_act n h.name file cut_said) n) where
      cut_then : IsUp (acted (direct_act n h.name file cut_said) n)
      cut_then = keeps (λ i. first_of (cut_free free i) (cut_late_none i))

      abbrev st : Settlement
      st = own_settlement n

      -- The images of the records that go.

      keys_are_going : keys_cut h from ≡ reverse (map (λ (e : Key × List ℕ). e.0) going)
      keys_are_going = keys_going a h file from cut_file_is sequential first_one.0

      told : AllByRecursion (λ (e : Key × List ℕ). map_of h a e.0 ≡ Some e.1) going
      told = told_going a h file from cut_file_is

      laid : seq.IsLaidOut h a
      laid = subst (λ (q : Kept). LaidOutBy q h a) sequential cut_file_is.laid

      noted : AllByRecursion (λ (e : Key × List ℕ). NotedAt h e.0 e.1) going
      noted = each_noted h a going laid (few cut_op bytes s log v n h file asked sequential) (subst (λ (q : Kept). AllByRecursion (λ (e : Key × List ℕ). map_by q h a e.0 ≡ Some e.1) going) sequential told)

      few_going : length going ≤ 1024
      few_going =
          let off = none_if (nat_lt 1024 (0 + removed_from h.count from)) TooMany (first_none (cause_if (removed_from h.count from == 0) RecordNotFound) _ some).1 in
          let most = most_of 1024 (0 + removed_from h.count from) off in
          let many = many_alike a h file cut_file_is sequential from first_one.0 in
          let long = length-map going removed in
          omega (arith, most, many, long)

      low_here : ((span_of After h).end + 2 ^ 24 ≤ 2 ^ 62) × ((span_of Before h).end + 2 ^ 24 ≤ 2 ^ 62)
      low_here = asked.low g h asked.named.there

      gone_told : h.marks.ai ≡ true → es.gone ≡ cut_entries (tid_of tid) (tid_of tid) g (λ key. None) (keys_cut h from)
      gone_told on = does.tells.gone on a asked.kept.told cut_file_is.head.form cut_file_is.laid

      images_told : h.marks.bi ≡ true → es.images ≡ cut_entries (tid_of tid) (tid_of tid) g (map_of h a) (keys_cut h from)
      images_told on = does.tells.images on a asked.kept.told cut_file_is.head.form cut_file_is.laid

      gone_is : h.marks.ai ≡ true → es.gone ≡ cut_entries (next_id n) (next_id n) g (λ key. None) (reverse (map (λ (e : Key × List ℕ). e.0) going))
      gone_is on = gone_told on ∙ (λ i. cut_entries (own i) (own i) g (λ key. None) (keys_are_going i))

      images_are : h.marks.bi ≡ true → es.images ≡ cut_entries (next_id n) (next_id n) g (map_of h a) (reverse (map (λ (e : Key × List ℕ). e.0) going))
      images_are on = images_told on ∙ (λ i. cut_entries (own i) (own i) g (map_of h a) (keys_are_going i))

      abbrev a_bytes : List ℕ
      a_bytes = images_bytes After g (next_id n) (next_id n) cs

      abbrev e_bytes : List ℕ
      e_bytes = images_bytes Before g (next_id n) (next_id n) cs

      gone_spelled : h.marks.ai ≡ true → flat_map spelling es.gone ≡ a_bytes
      gone_spelled on = spelled_so After (next_id n) (next_id n) g (map_of h a) h new does.cuts.stages.same sequential going told noted few_going es.gone (gone_is on) does.images.afters.each low_here.0

      images_spelled : h.marks.bi ≡ true → flat_map spelling es.images ≡ e_bytes
      images_spelled on = spelled_so Before (next_id n) (next_id n) g (map_of h a) h new does.cuts.stages.same sequential going told noted few_going es.images (images_are on) does.images.befores.each low_here.1

      gone_few : h.marks.ai ≡ true → length a_bytes ≤ 8272 * 1024
      gone_few on = long_so After (next_id n) (next_id n) g (map_of h a) h new does.cuts.stages.same sequential going told noted few_going es.gone (gone_is on) does.images.afters.each low_here.0

      images_few : h.marks.bi ≡ true → length e_bytes ≤ 8272 * 1024
      images_few on = long_so Before (next_id n) (next_id n) g (map_of h a) h new does.cuts.stages.same sequential going told noted few_going es.images (images_are on) does.images.befores.each low_here.1

      rings_b : (side : Side) → is_kept side h ≡ true → SameRing (span_of side h) a2 b
      rings_b side on = ring_carried h a2 b (cut_rest.carried h named_2.there) side on

      stand_after : StandIfKept After g b new (next_id n) (next_id n) cs
      stand_after mark =
          let on = sym (kept_same After h new does.cuts.stages.same) ∙ mark in
          stand_so After (next_id n) (next_id n) g (map_of h a) h new does.cuts.stages.same sequential going told noted few_going es.gone (gone_is on) does.images.afters.each low_here.0 b (rooms After on)
          (stands_there n v.catalog g h asked.named.there known asked.order.heads a still_a es rooms b After on (rings_b After on))

      stand_before : StandIfKept Before g b new (next_id n) (next_id n) cs
      stand_before mark =
          let on = sym (kept_same Before h new does.cuts.stages.same) ∙ mark in
          stand_so Before (next_id n) (next_id n) g (map_of h a) h new does.cuts.stages.same sequential going told noted few_going es.images (images_are on) does.images.befores.each low_here.1 b (rooms Before on)
          (stands_there n v.catalog g h asked.named.there known asked.order.heads a still_a es rooms b Before on (rings_b Before on))

      -- There is room for the settlement behind them.

      fit_here : SettlementsFit After h g s.units.places × SettlementsFit Before h g s.units.places
      fit_here = asked.order.images g h asked.named.there

      abbrev after_size : ℕ
      after_size = entry_sizes empty_map (keys_cut h from)

      abbrev before_size : ℕ
      before_size = entry_sizes (map_of h a) (keys_cut h from)

      after_long : h.marks.ai ≡ true → length a_bytes ≡ after_size
      after_long on = ap length (sym (gone_spelled on)) ∙ ap (λ xs. length (flat_map spelling xs)) (gone_told on)
          ∙ entries_long (tid_of tid) (tid_of tid) g empty_map (keys_cut h from) (subst (AllByRecursion IsEntry) (gone_told on) does.images.afters.each)

      before_long : h.marks.bi ≡ true → length e_bytes ≡ before_size
      before_long on = ap length (sym (images_spelled on)) ∙ ap (λ xs. length (flat_map spelling xs)) (images_told on)
          ∙ entries_long (tid_of tid) (tid_of tid) g (map_of h a) (keys_cut h from) (subst (AllByRecursion IsEntry) (images_told on) does.images.befores.each)

      span_after : span_of After new ≡ span_of After h
      span_after = span_same After h new does.cuts.stages.same

      span_before : span_of Before new ≡ span_of Before h
      span_before = span_same Before h new does.cuts.stages.same

      room_after : HasRoomFor After (length a_bytes) new
      room_after = record {
        room = λ mark.
            let on = sym (kept_same After h new does.cuts.stages.same) ∙ mark in
            let enough = room_to_change After h g s.units.places true (48 + after_size) (afters_have_room h g s.units.places false after_size before_size full_none) fit_here.0 on in
            let size = after_long on in
            subst (λ (r : Span). r.end - r.first + (48 + length a_bytes) ≤ ring_size r) (sym span_after) (omega (arith, enough, size));
        low = λ mark.
            let on = sym (kept_same After h new does.cuts.stages.same) ∙ mark in
            let end = ap (λ (r : Span). r.end) span_after in
            let low = low_here.0 in
            let most = gone_few on in
            omega (arith, end, low, most);
      }

      room_before : HasRoomFor Before (length e_bytes) new
      room_before = record {
        room = λ mark.
            let on = sym (kept_same Before h new does.cuts.stages.same) ∙ mark in
            let enough = room_to_change Before h g s.units.places true (48 + before_size) (befores_have_room h g s.units.places false after_size before_size full_none) fit_here.1 on in
            let size = before_long on in
            subst (λ (r : Span). r.end - r.first + (48 + length e_bytes) ≤ ring_size r) (sym span_before) (omega (arith, enough, size));
        low = λ mark.
            let on = sym (kept_same Before h new does.cuts.stages.same) ∙ mark in
            let end = ap (λ (r : Span). r.end) span_before in
            let low = low_here.1 in
            let most = images_few on in
            omega (arith, end, low, most);
      }

      -- What they and the settlement make of the volume.

      abbrev moved_head : FileHead
      moved_head = moved_ends (length a_bytes) (length e_bytes) new

      abbrev I : Content
      I = slice_set b (1 + g) (head_block_of moved_head)

      abbrev H : List (Option FileHead)
      H = slice_set V.heads g (Some moved_head)

      abbrev outcome_bytes : List ℕ
      outcome_bytes = spelled_entry 0 (next_id n) (outcome_of st)

      abbrev closed_content : Content
      closed_content = content_from 0 (only g) outcome_bytes H I

      abbrev closed_heads : List (Option FileHead)
      closed_heads = heads_from 0 (only g) (length outcome_bytes) H

      head_is : moved_head ≡ head_behind h es new
      head_is = ends_behind h new does.cuts.stages.same es (length a_bytes) (length e_bytes) (λ on. ap length (gone_spelled on)) (λ on. ap length (images_spelled on))

      moved_told : does.moved.store.current ≡ Some I
      moved_told = does.cuts.current ∙ ap (option_map (λ (x : Content). slice_set x (1 + g) (head_block_of (head_behind h es new)))) cut_set.1 ∙ (λ i. Some (slice_set b (1 + g) (head_block_of (sym head_is i))))

      moved_is : does.moved.catalog ≡ record V { heads = H }
      moved_is = does.cuts.catalog ∙ (λ i. record V { heads = slice_set V.heads g (Some (sym head_is i)) })

      -- the settlement's entry
      moment_is : settling.next_moment clock v.catalog.home ≡ next_moment n
      moment_is = sym (moment_of n clock v.catalog.home ticks asked.kept.has.home.greatest)

      closing_same : settled_entry (tid_of tid) (tid_of tid) Commit (settling.next_moment clock v.catalog.home) ≡ settled_entry (next_id n) (next_id n) Commit (next_moment n)
      closing_same = λ i. settled_entry (own i) (own i) Commit (moment_is i)

      spelled_closing : spelling (settled_entry (tid_of tid) (tid_of tid) Commit (settling.next_moment clock v.catalog.home)) ≡ outcome_bytes
      spelled_closing = ap spelling (closing_same ∙ sym (outcome_entry 0 (next_id n) (next_id n) Commit (next_moment n)))

      closed_told : does.closed.store.current ≡ Some closed_content
      closed_told = does.closes.current ∙ ap (option_map (content_from 0 (only g) (spelling (settled_entry (tid_of tid) (tid_of tid) Commit (settling.next_moment clock v.catalog.home))) does.moved.catalog.heads)) moved_told
          ∙ (λ i. Some (content_from 0 (only g) (spelled_closing i) (moved_is i).heads I))

      closed_is : does.closed.catalog ≡ record V { heads = closed_heads }
      closed_is = does.closes.catalog ∙ (λ i. record (moved_is i) { heads = heads_from 0 (only g) (length (spelled_closing i)) (moved_is i).heads })

      abbrev bare : File
      bare = carrying file.carried (directly_changed held st cs file)

      abbrev buckets : List (Option File)
      buckets = directly_buckets held st cs g file n.durable.directory

      wide : g < length n.durable.directory
      wide = within_list n.durable.directory g file cut_place.there

      numbered : g < 64
      numbered = let long = asked.kept.has.files.directory_long in let below = wide in omega (arith, long, below)

      bare_there : file_at buckets g ≡ Some bare
      bare_there = get_or-set_same n.durable.directory g (Some bare) None wide

      head_there : head_at V.heads g ≡ Some new
      head_there = ap (λ hs. head_at hs g) cut_rest.heads ∙ get_or-set_same before.catalog.heads g (Some new) None (within_list before.catalog.heads g h named_2.there)

      head_new : IsHead new
      head_new = told_heads V b cut_rest.tells cut_rest.long g new head_there

      block_is : head_block_of new ≡ block_at b (1 + g)
      block_is = (subst (λ o. TellsEntry (block_at b (1 + g)) o) head_there (cut_rest.tells.heads g numbered)).bytes

      module _ (files : AreFiles b V.heads buckets) where
        abbrev imaged : File
        imaged = carrying (with_images (next_id n) (next_id n) cs bare.carried) bare

        moved_in : Enters b V.heads I (data_area (sizes_of V.home)) H (slice_set buckets g (Some imaged))
        moved_in = enters_moved b (data_area (sizes_of V.home)) V.heads buckets g new bare (next_id n) (next_id n) cs (record { files = files; fit = fits_in n.name n.blocks V cut_rest.long cut_rest.sound; behind = omega arith; whole = cut_set.2.whole }) numbered head_there bare_there
            head_new block_is stand_after stand_before

        moved_there : head_at H g ≡ Some moved_head
        moved_there = get_or-set_same V.heads g (Some moved_head) None (within_list V.heads g new head_there)

        moved_new : IsHead moved_head
        moved_new = told_heads (record V { heads = H }) I (moved_in.tells V refl cut_rest.tells) moved_in.fitting.fit.heads_long g moved_head moved_there

        is_next : IsId (next_id n)
        is_next = subst IsId own is_id

        small : next_moment n < 2 ^ 64
        small = let same = moment_is in omega (arith, same, moment)

        told_both : Enters b V.heads closed_content (data_area (sizes_of V.home)) closed_heads (slice_set buckets g (Some (told_file true st imaged)))
        told_both = told_behind b I (data_area (sizes_of V.home)) V.heads H buckets g imaged st numbered (within_list buckets g bare bare_there) files.directory_long moved_in
            (may_settle_moved g st is_next is_next small V.heads new head_there (length a_bytes) (length e_bytes) moved_new After room_after)
            (may_settle_moved g st is_next is_next small V.heads new head_there (length a_bytes) (length e_bytes) moved_new Before room_before)

        -- the directory is that of the act
        directory_now : slice_set buckets g (Some (told_file true st imaged)) ≡ (acted (Directs h.name cs st) n).durable.directory
        directory_now = ap (λ (t : Bool). slice_set buckets g (Some (carrying (with_outcome t st (with_images (next_id n) (next_id n) cs file.carried)) bare))) (sym (now_changed (next_id n) cs file.history first_one.1))
            ∙ enters_images.directs n g h.name file cs st cut_place

        enters_all : Enters b V.heads closed_content (data_area (sizes_of V.home)) closed_heads (acted (Directs h.name cs st) n).durable.directory
        enters_all = subst (Enters b V.heads closed_content (data_area (sizes_of V.home)) closed_heads) directory_now told_both

      -- with a first change, and those behind it
      module _ (c : Change) (more : List Change) (is : changes_of file cut_said ≡ c ∷ more) where
        cut_then_more : IsUp (acted (Directs h.name (c ∷ more) (own_settlement n)) n)
        cut_then_more = subst (λ (ds : List Change). IsUp (acted (Directs h.name ds (own_settlement n)) n)) is cut_then

        cut_may : MayChange (next_id n) file (changes_of file cut_said)
        cut_may = direct_may n asked.kept.has.units asked.up h.name g file cut_place cut_said (form_none cut_op bytes s log v n h file asked early) (passed_data n h.name file cut_op bytes cut_late_none) (passed_keys n h.name file cut_said (cut_free free)) (ap has_changes is)

        cut_restorable : AreRestorable b (slice_set before.catalog.heads g (Some new)) (acted (Changes (next_id n) (next_id n) h.name (changes_of file cut_said) []) n).durable.directory
        cut_restorable = changes_restorable.cuts a2 b before.catalog.heads n g from h new h.name file (next_id n) (next_id n) [] has_2.files asked.kept.has.units named_2 cut_place.there sequential first_one.0 cut_may does.cuts.stages.same
            cuts_2.form cuts_2.laid cuts_2.map cut_rest.others has_2.restorable

        directs_cut : DirectsFile n g h h.name file tid clock (c ∷ more) s.units.places a2 b before mid w new
        directs_cut = record {
          named = named_2;
          at = cut_place;
          may = subst (MayChange (next_id n) file) is cut_may;
          limit = 65;
          stages = does.cuts.stages;
          now = cut_set.1;
          whole = cut_set.2.whole;
          changed = subst (λ (ds : List Change). IsChanged held ds a2 h b new) is changed_is;
          restorable = subst (λ (ds : List Change). AreRestorable b (slice_set before.catalog.heads g (Some new)) (acted (Changes (next_id n) (next_id n) h.name ds []) n).durable.directory) is cut_restorable;
          closed = does.closed;
          images = closed_content;
          told = closed_told;
          catalog = closed_is ∙ (λ i. record V { heads = sym (ap (λ (k : Catalog). k.heads) closed_is) i });
          enters = λ files.
              subst (λ hs. Enters b V.heads closed_content (data_area (sizes_of V.home)) hs (acted (Directs h.name (c ∷ more) (own_settlement n)) n).durable.directory) (sym (ap (λ (k : Catalog). k.heads) closed_is))
              (subst (λ (ds : List Change). AreFiles b V.heads (directly_buckets held st ds g file n.durable.directory) → Enters b V.heads closed_content (data_area (sizes_of V.home)) closed_heads (acted (Directs h.name ds st) n).durable.directory) is enters_all files);
          makes = subst (λ (k : Catalog). MakesSettlement tid (record { 0 = tid.0 }) ending.Commit (settling.next_moment clock k.home) None s.units.places does.closed w) (sym same) does.settles;
          own = own;
          is_id = is_id;
          ticks = ticks;
          early = subst (λ (k : Catalog). settling.next_moment clock k.home ≤ 24113056319999) (sym same) moment;
          begins = subst (λ (k : Catalog). unwrap_or (earliest s.units.places) k.ru.end ≡ (trimmed n.durable.units).first) (sym same) (begins cut_op bytes s log v n h file asked c more cut_then_more);
        }

        -- what the node leaves of it that fell meanwhile
        pub left_cut : (x : Content) → w.store.current ≡ Some x → (act : Option Act) → IsLeftBy x (acted (Directs h.name (c ∷ more) (own_settlement n)) (fallen act n))
        left_cut x now act = direct_left n g h h.name file tid clock c more s.units.places a2 b before mid w new has_2 asked.up of_2 directs_cut cut_then_more x now act

      cut_kept : w.store.disk.size ≡ v.store.disk.size → IsKept (seen s log) w (acted (direct_act n h.name file cut_said) n)
      cut_kept size = go (changes_of file cut_said) refl
        where
          go : (ds : List Change) → changes_of file cut_said ≡ ds → IsKept (seen s log) w (acted (Directs h.name (changes_of file cut_said) (own_settlement n)) n)
          go [] is = let many = first_one.1 in let none = ap length is in absurd (omega (arith, many, none))
          go (c ∷ more) is =
              let d = directs_cut c more is in
              let content = direct_told n g h h.name file tid clock (c ∷ more) s.units.places a2 b before mid w new d in
              subst (λ (xs : List Change). IsKept (seen s log) w (acted (Directs h.name xs (own_settlement n)) n)) (sym is)
              (direct_kept (seen s log) before n g h h.name file tid clock c more s.units.places b mid w new content.0 kept_2 asked.up of_2 d (cut_then_more c more is) content.1 (size ∙ sym size_before))

  pub cut_done : (position : ℕ) → DirectsCut tid clock g h from s v w → tid_of tid ≡ next_id n → IsId (tid_of tid) → n.clock ≡ clock → settling.next_moment clock v.catalog.home ≤ 24113056319999 →
      KeepsUp (alone_refused_before_reading n h.name file cut_said) (alone_refused_after_reading n h.name file cut_said) (direct_act n h.name file cut_said) n →
      w.store.disk.size ≡ v.store.disk.size → position ≡ position_by h.organization (change_in (op.Truncate 0 0)) (Number from) →
      IsDone (alone_refused_before_reading n h.name file cut_said) (alone_refused_after_reading n h.name file cut_said) (direct_act n h.name file cut_said) (operation_answer file cut_said) (position_line position) n (seen s log) w
  cut_done position d own is_id ticks moment keeps size at_position =
      let both = first_none (locks_refuse None g (cut_asked h from) s.locks) (number_refused 0 (removed_from h.count from)) d.early in
      let before = cut_free both.0 in
      let after = cut_late_none both.1 d.made in
      record {
        allowed = (λ i. first_of (before i) (after i));
        kept = cut_kept both.1 d.made own is_id ticks moment both.0 keeps size;
        answers = cut_answers h.organization (Number from) ∙ ap position_line (sym at_position);
      }
