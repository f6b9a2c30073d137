-- A unit truncated a file: the volume is that of the node after it.
use Rattle.std.proofs.Common.{◌≡◌, ℕ, suc, ◌+◌, ◌-◌, ◌<◌, ◌≤◌, ◌^◌, Bool, List, [], ◌∷◌, ◌++◌, true, false, not, Option, Some, None, IfSome, length, map, drop, reverse, slice_set, refl, sym, ◌∙◌, ap, subst, arith, inl, inr, append-nil, get_or-set_same, length-append, length-set}
use Rattle.std.specs.Prelude.{◌==◌, nat_lt, option_map}
use Rattle.std.specs.List.{AllByRecursion, flat_map}
use Rattle.std.proofs.lemmas.Bool.Decides.{nat_tests}
use Rattle.std.proofs.lemmas.List.{length-map, reverse-append}
use Rattle.block_disk.specs.Blocks.{block_at}
use Rattle.commit_protocol.specs.Table.{Branch}
use Rattle.careful_write.specs.State.{EachWhole}
use Rattle.change_set.specs.Files.{SameFile}
use Rattle.change_set.specs.Maps.{Map}
use Rattle.file_base.specs.declared.head.FileHead.{FileHead}
use Rattle.file_base.specs.declared.head.Organization.{Organization as Kept}
use Rattle.file_base.specs.declared.head.Organization.TheVariants as kept_by
use Rattle.file_base.specs.declared.head.Span.{Span}
use Rattle.transcript_model.specs.Lines as line
use Rattle.vms_model.specs.Ids.{Id}
use Rattle.vms_model.specs.Keys.{Key}
use Rattle.volume.specs.declared.catalog.Catalog.{Catalog}
use Rattle.volume.specs.Catalogs.{IsSound, TellsCatalog, TellsEntry}
use Rattle.volume.specs.Limits.{data_area}
use Rattle.volume.specs.State.{VolumeState}
use Rattle.volume_files.specs.Staging.{CutsFile}
use Rattle.volume_format.specs.Head.{IsHead, head_block_of}
use Rattle.volume_format.specs.Home.{ru_block_of, sizes_of}
use Rattle.volume_format.specs.Home as home_format
use Rattle.recovery_units.specs.volume_model.Homes.{HasHome}
use Rattle.rms_units.proofs.OrderLemmas.{sound_longer}
use Rattle.recovery_units.specs.Calls.{cause_line}
use Rattle.unit_world.specs.directory_model.Files.{organized_by}
use Rattle.journal_model.specs.Entries.{Entry, IsEntry, spelling}
use Rattle.journal_model.specs.Ring.{IsJournal, ring_size}
use Rattle.journal_store.proofs.Journals.{keeps_others, written_behind}
use Rattle.records_model.specs.Records.{Change}
use Rattle.volume_files.specs.record_files.Any.{LaidOutBy, layout_by, map_by, map_of}
use Rattle.record_operations.specs.Causes.{Changes as TooMany, RecordNotFound, cause_if, first_cause}
use Rattle.record_operations.specs.declared.ops.RecordOp.TheVariants as op
use Rattle.volume_files.specs.seq_file.Layout as sequential
use Rattle.volume_files.specs.seq_file.Records.{cut_from}
use Rattle.rms_units.specs.unit_journal.Entries as spelled
use Rattle.rms_units.specs.unit_journal.Spans.{longer}
use Rattle.unit_laws.specs.Journal.{ChangeEntry, JournalEntry, end_of, entries_for, with_entries as with_more}
use Rattle.unit_laws.specs.Units.{has_changes}
use Rattle.unit_laws.proofs.TrimLemmas.{size_append}
use Rattle.unit_table.specs.Places.{AreInOrder}
use Rattle.unit_table.specs.Units.{OpenUnit, unit_at}
use Rattle.recovery_units.specs.run_model.Answers.{found_refused, held_against, images_full, is_marked, journal_full, keys_refused, more_changes, more_locks, operation_act}
use Rattle.recovery_units.specs.run_model.Locks.{is_locked}
use Rattle.recovery_units.specs.run_model.Locks as world
use Rattle.recovery_units.specs.run_model.Operations.{changes_of, data_refused, file_full, first_of, form_refused, in_order, keys_asked, keys_held, removed}
use Rattle.recovery_units.specs.world_laws.Ordered.{IsImageOf, IsJournalInOrder, IsKeyOf, IsNoteOf}
use Rattle.commit_protocol.specs.World.{In}
use Rattle.recovery_units.specs.run_model.World as nodes
use Rattle.recovery_units.specs.run_model.World.{Act, Changes, File, AreUnitsOf, Node, acted, changed_file, find_branch, find_file, with_images}
use Rattle.recovery_units.proofs.world_laws.AnswerLemmas.{neither, not_refused}
use Rattle.recovery_units.proofs.world_laws.FoundLemmas.{changes_asked, changes_found}
use Rattle.recovery_units.proofs.world_laws.HeldLemmas.{free_for}
use Rattle.recovery_units.proofs.world_laws.RoomLemmas.{changes_have_room}
use Rattle.recovery_units.proofs.world_laws.UndoLemmas.{kept_up}
use Rattle.unit_world.specs.restart_laws.Restorable.{SameLive}
use Rattle.unit_world.specs.restart_laws.Units.{MayChange}
use Rattle.unit_laws.specs.Units.{is_free}
use Rattle.unit_world.proofs.volume_laws.ToldLemmas.{logs_follow}
use Rattle.script_model.specs.Statements.{Operation, Truncate}
use Rattle.unit_world.specs.directory_model.Files.{AgreesOnFile, AreFiles, IsCarried, IsFile, IsFoundAt, IsNamed, file_at, head_at}
use Rattle.unit_world.specs.directory_model.Laws.{IsChanged, SameBut, carrying, changed_buckets}
use Rattle.unit_world.specs.directory_model.Restoring.{AreRestorable}
use Rattle.unit_world.proofs.directory_model.Acts.{keeps_files}
use Rattle.unit_world.proofs.directory_model.Apart.{writes_apart}
use Rattle.unit_world.proofs.directory_model.Entering.{enters_images}
use Rattle.unit_world.proofs.directory_model.Finding.{finds_files}
use Rattle.unit_world.proofs.directory_model.Places.{within_list}
use Rattle.unit_world.proofs.directory_model.Reading.{reads_files}
use Rattle.unit_world.proofs.directory_model.Standing.{stands_on_extents}
use Rattle.unit_world.proofs.restart_laws.ChangingLemmas.{changes_restorable}
use Rattle.unit_world.proofs.restart_laws.ListLemmas.{all_as}
use Rattle.unit_world.proofs.restart_laws.StayLemmas.{keeps_restorable}
use Rattle.recovery_units.specs.volume_model.Entries.{entry_for}
use Rattle.recovery_units.specs.volume_model.Laws.{KeepsNames}
use Rattle.recovery_units.specs.volume_model.Volumes.{HasJournal, HasLog, HasVolume}
use Rattle.unit_world.specs.file_images.Files.{SameRing}
use Rattle.unit_world.proofs.volume_laws.FollowLemmas.{follow}
use Rattle.unit_world.proofs.file_images.Rings.{journal_stands}
use Rattle.recovery_units.specs.image_appends.declared.side.Side.{Side}
use Rattle.recovery_units.specs.image_appends.declared.side.Side.TheVariants.{After, Before}
use Rattle.recovery_units.specs.image_appends.Images.{is_kept, span_of}
use Rattle.undo_laws.specs.image_groups.Groups.{Enters}
use Rattle.undo_laws.specs.image_groups.Lists.{StandIfKept, images_bytes, moved_ends, moved_if}
use Rattle.undo_laws.proofs.image_groups.Lists.{enters_moved}
use Rattle.recovery_units.specs.Calls.{KeepsUp, unit_act, unit_refused_after_reading, unit_refused_before_reading}
use Rattle.recovery_units.specs.State.{IsKept, IsOfBranch}
use Rattle.rms_units.specs.Calls as rms
use Rattle.rms_units.specs.key_changes.Changing as changing
use Rattle.rms_units.specs.unit_cuts.Records.{OfRecords}
use Rattle.rms_units.specs.State as state
use Rattle.rms_units.specs.State.{IsEarly, IsInOrder}
use Rattle.rms_units.specs.Truncating as cutting
use Rattle.rms_units.specs.Truncating.{cut_asked, cut_refused_before_reading, number_refused}
use Rattle.rms_units.specs.unit_cuts.Truncating.{CutEntries, EntersCut, IsBehind, MakesCut, cut_entries, entry_sizes, head_behind, keys_cut, removed_from, span_behind, span_if, with_entries, with_entries_if}
use Rattle.rms_units.proofs.unit_cuts.CutEntering.{entries_long, entries_more, journal_more}
use Rattle.log_laws.specs.Slots.{Slots}
use Rattle.commit_protocol.specs.Allowed.{is_prepared}
use Rattle.recovery_units.specs.world_laws.Nodes.{IsUp}
use Rattle.node_units.specs.Seen.{seen}
use Rattle.node_units.proofs.AskedCut.{keys_alike, many_alike}
use Rattle.node_units.proofs.BranchChanges.{MayMake, frees, may_change, order_after, units_after}
use Rattle.node_units.proofs.Branches.{found_there}
use Rattle.node_units.proofs.CutBehind.{NotedAt, each_noted, entries_of, ring_carried, ring_on, second_still, spelled_so, stand_so, stands_there}
use Rattle.node_units.proofs.CutImages.{IsStill, ru_stands, sound_here, still_kept, still_ru}
use Rattle.node_units.proofs.CutRefusals.{Entries, behind_end, cut_begun, cut_file, cut_kind, cut_late, cut_own, each_told, none_if, size_is, some_position}
use Rattle.node_units.proofs.CuttingFile.{cut_changes}
use Rattle.node_units.proofs.EnteredKey.{ru_long, ru_written}
use Rattle.node_units.proofs.Holding.{once_of}
use Rattle.node_units.proofs.ImagedVolume.{dressed_restorable, live_set, log_entered, names_entered, ring_entered, sound_entered, tells_entered}
use Rattle.node_units.proofs.Imaging.{fits as fits_in, told_heads}
use Rattle.node_units.proofs.KeyImages.{kept_same, span_same}
use Rattle.node_units.proofs.KeyMade.{each_free, entry_is, is_true, same_file}
use Rattle.node_units.proofs.KeyRefusals.{few_records}
use Rattle.node_units.proofs.ReadLemmas.{asked_file, first_none}
use Rattle.node_units.proofs.SettingFile.{IsOfNode, KeepsRest, keeps_rest, ring_same}
use Rattle.unit_world.proofs.Blocks.{other_block, whole_set}

abbrev Content : Type 0
Content = List (List ℕ)

one_content : (x y : Content) → ◌≡◌ {A = Option Content} (Some x) (Some y) → x ≡ y
one_content x y e = cc

-- The records that go.

suit_each : (file : File) (h : FileHead) (es : Entries) → file.organization ≡ nodes.Sequential → file.record_size ≡ h.mrs → AllByRecursion (λ (e : Key × List ℕ). NotedAt h e.0 e.1) es → AllByRecursion (λ (c : Change). IsNoteOf file c.key c.before) (map removed es)
suit_each file h [] kind size all = tt
suit_each file h (e ∷ es) kind size all = (
  subst (λ w. IsKeyOf w e.0 × IsImageOf w file.record_size e.0 (Some e.1)) (sym kind) (all.0.form, (subst (λ k. length e.1 ≤ k) (sym size) all.0.most, tt)),
  suit_each file h es kind size all.1,
)

-- the entries on the disk are the world's
entries_are : (tid serial : Id) (f : ℕ) (name : List ℕ) (m : Map) (h : FileHead) (es : Entries) → AllByRecursion (λ (e : Key × List ℕ). m e.0 ≡ Some e.1) es → AllByRecursion (λ (e : Key × List ℕ). NotedAt h e.0 e.1) es →
    cut_entries tid serial f m (reverse (map (λ e. e.0) es)) ≡ map (entry_for f) (entries_for tid serial name (map removed es))
entries_are tid serial f name m h [] told noted = refl
entries_are tid serial f name m h (e ∷ es) told noted =
    ap (cut_entries tid serial f m) (reverse-append (e.0 ∷ []) (map (λ x. x.0) es))
    ∙ entries_more tid serial f m (reverse (map (λ x. x.0) es)) e.0
    ∙ (λ i. entries_are tid serial f name m h es told.1 noted.1 i ++ (ap (spelled.change_entry tid serial f e.0) told.0 ∙ entry_is tid serial f name e.0 (Some e.1) noted.0.some) i ∷ [])
    ∙ sym (map_more (entries_for tid serial name (map removed es)) (ChangeEntry tid serial name e.0 (Some e.1)))
  where
    map_more : (xs : List JournalEntry) (x : JournalEntry) → map (entry_for f) (xs ++ x ∷ []) ≡ map (entry_for f) xs ++ entry_for f x ∷ []
    map_more [] x = refl
    map_more (y ∷ xs) x = ap (λ zs. entry_for f y ∷ zs) (map_more xs x)

entries_many : (tid serial : Id) (name : List ℕ) (cs : List Change) → length (entries_for tid serial name cs) ≡ length cs
entries_many tid serial name [] = refl
entries_many tid serial name (c ∷ cs) = let rest = entries_many tid serial name cs in let more = length-append (entries_for tid serial name cs) (ChangeEntry tid serial name c.key c.before ∷ []) in omega (arith, rest, more)

all_in : (ks : List Key) → AllByRecursion (λ (k : Key). In k ks) ks
all_in [] = tt
all_in (k ∷ ks) = (inl refl, all_as (λ x. In x ks) (λ x. In x (k ∷ ks)) ks (λ x i. inr i) (all_in ks))

some_changes : (cs : List Change) → 1 ≤ length cs → has_changes cs ≡ true
some_changes [] some = absurd (omega (arith, some))
some_changes (c ∷ cs) some = refl

-- a test that a number is not more than another
pub most_of : (most n : ℕ) → nat_lt most n ≡ false → n ≤ most
most_of most n off = grind (arith, nat_tests)

-- a ring is the same whatever its journal's end
ring_longer : (s : Span) (more : ℕ) (x y : Content) → SameRing s x y → SameRing (longer more s) x y
ring_longer s more x y same = record { size = same.size; whole = same.whole; blocks = same.blocks }

-- The head of a file whose journals of images end behind entries.

moved_span : (b : Bool) (n : ℕ) (s : Span) (es : List Entry) → (b ≡ true → length (flat_map spelling es) ≡ n) → moved_if b n s ≡ span_if b s es
moved_span true n s es long = ap (λ (k : ℕ). longer k s) (sym (long refl))
moved_span false n s es long = refl

pub ends_behind : (h new : FileHead) (same : SameFile h new) (es : CutEntries) (after before : ℕ) → (h.marks.ai ≡ true → length (flat_map spelling es.gone) ≡ after) → (h.marks.bi ≡ true → length (flat_map spelling es.images) ≡ before) →
    moved_ends after before new ≡ head_behind h es new
ends_behind h new same es after before gone had = λ i. record new { ai = ai_is i; bi = bi_is i }
  where
    ai_is : moved_if new.marks.ai after new.ai ≡ span_if h.marks.ai h.ai es.gone
    ai_is = (λ i. moved_if (kept_same After h new same i) after (span_same After h new same i)) ∙ moved_span h.marks.ai after h.ai es.gone gone

    bi_is : moved_if new.marks.bi before new.bi ≡ span_if h.marks.bi h.bi es.images
    bi_is = (λ i. moved_if (kept_same Before h new same i) before (span_same Before h new same i)) ∙ moved_span h.marks.bi before h.bi es.images had

module _ (s : state.UnitsState) (v : VolumeState) (order : IsInOrder s v) (at : AreInOrder s.units.places s.units.order) (place : ℕ) (u : OpenUnit) (at_place : unit_at s.units.places place ≡ Some u) (n : Node) (file : File) (b : Branch) (h : FileHead) (log : Slots) (up : IsUp n) (unprepared : is_prepared b.state ≡ false)
    (kept : IsKept (seen s log) v n) (f from : ℕ) (there : head_at v.catalog.heads f ≡ Some h) (found : find_file h.name n.durable.directory ≡ Some file) (found_b : find_branch u.serial n.volatile.branches ≡ Some b) (allowed : rms.change_refused_before_reading h (op.Truncate f from) [] ≡ None)
    (low : IsEarly v) (early : cut_refused_before_reading u f h from s.locks ≡ None) (w : VolumeState) (late : OfRecords h v (λ m. cutting.cut_refused_after_reading u f h from s v m ≡ None)) (es : CutEntries) (made : MakesCut u.tid u.serial f h from es v w)
    (keeps : KeepsUp (unit_refused_before_reading n b h.name file (Truncate from)) (unit_refused_after_reading n b h.name file (Truncate from)) (unit_act b h.name file (Truncate from)) n) where
  abbrev said : Operation
  said = Truncate from

  abbrev a : Content
  a = kept.content

  abbrev keys : List Key
  keys = cut_asked h from

  abbrev cs : List Change
  cs = changes_of file said

  abbrev js : List JournalEntry
  js = n.durable.units.entries

  abbrev going : Entries
  going = drop (from - 1) (in_order file)

  file_is : IsFile a h file
  file_is = cut_file s v order at place u at_place n file b h log up unprepared kept f from there found found_b allowed

  kind : h.organization ≡ kept_by.Sequential
  kind = cut_kind s v order at place u at_place n file b h log up unprepared kept f from there found found_b allowed

  own_is : IsOfBranch u b
  own_is = cut_own s v order at place u at_place n file b h log up unprepared kept f from there found found_b allowed

  -- Nothing refuses it.

  behind_locks : first_cause (number_refused (length u.positions) (removed_from h.count from)) (changing.keys_refused f keys s.locks) ≡ None
  behind_locks = (first_none (changing.locks_refuse (Some u.serial) f keys s.locks) _ early).1

  number_none : number_refused (length u.positions) (removed_from h.count from) ≡ None
  number_none = (first_none (number_refused (length u.positions) (removed_from h.count from)) (changing.keys_refused f keys s.locks) behind_locks).0

  some : (1 ≤ from) × (1 ≤ removed_from h.count from)
  some = some_position h.count from (none_if (removed_from h.count from == 0) RecordNotFound (first_none (cause_if (removed_from h.count from == 0) RecordNotFound) _ number_none).0)

  late_here : cutting.cut_refused_after_reading u f h from s v (map_of h a) ≡ None
  late_here = late a kept.told file_is.head.form file_is.laid

  pub early_none : unit_refused_before_reading n b h.name file said ≡ None
  early_none = cut_begun s v order at place u at_place n file b h log up unprepared kept f from there found found_b allowed early

  pub late_none : unit_refused_after_reading n b h.name file said ≡ None
  late_none = sym (cut_late s v order at place u at_place n file b h log up unprepared kept f from there found found_b allowed)
      ∙ (λ i. option_map cause_line (first_cause (number_none i) (first_cause ((first_none (number_refused (length u.positions) (removed_from h.count from)) (changing.keys_refused f keys s.locks) behind_locks).1 i) (late_here i))))

  pub many : 1 ≤ length cs
  many = let same = many_alike a h file file_is kind from some.0 in let more = some.1 in omega (arith, same, more)

  keys_are : keys_held file said ≡ keys
  keys_are = append-nil (keys_asked file said) ∙ keys_alike a h file file_is kind from

  abbrev pub deed : Act
  deed = Changes u.tid u.serial h.name cs keys

  abbrev pub m : Node
  m = acted deed n

  pub act_is : deed ≡ unit_act b h.name file said
  act_is = (λ i. Changes (sym own_is.tid i) (sym own_is.serial i) h.name cs keys) ∙ go cs many ∙ ap (operation_act b h.name cs) (sym keys_are)
    where
      go : (ds : List Change) → 1 ≤ length ds → Changes b.key.tid b.key.serial h.name ds keys ≡ operation_act b h.name ds keys
      go [] none = absurd (omega (arith, none))
      go (c ∷ ds) more = refl

  behind_data : first_of (more_changes n cs b) (first_of (more_locks n h.name (keys_held file said)) (first_of (file_full file said) (first_of (journal_full n h.name cs b) (images_full b.key.serial cs file)))) ≡ None
  behind_data = (neither (found_refused n (Some b.key.serial) h.name said file) _ late_none).1

  data_none : data_refused file said ≡ None
  data_none = (neither (data_refused file said) _ (neither (found_refused n (Some b.key.serial) h.name said file) _ late_none).0).0

  behind_form : first_of (is_marked file) (keys_refused n (Some b.key.serial) h.name (keys_asked file said)) ≡ None
  behind_form = (neither (form_refused file said) _ early_none).1

  mark_none : file.recovery_units ≡ true
  mark_none = is_true file.recovery_units (not_refused (not file.recovery_units) line.NotForUnits (neither (is_marked file) (keys_refused n (Some b.key.serial) h.name (keys_asked file said)) behind_form).0)

  keys_none : keys_refused n (Some b.key.serial) h.name (keys_asked file said) ≡ None
  keys_none = (neither (is_marked file) (keys_refused n (Some b.key.serial) h.name (keys_asked file said)) behind_form).1

  bytes_none : journal_full n h.name cs b ≡ None
  bytes_none = (neither (journal_full n h.name cs b) _ (neither (file_full file said) _ (neither (more_locks n h.name (keys_held file said)) _ (neither (more_changes n cs b) _ behind_data).1).1).1).0

  laid : sequential.IsLaidOut h a
  laid = subst (λ (q : Kept). LaidOutBy q h a) kind file_is.laid

  told : AllByRecursion (λ (e : Key × List ℕ). map_of h a e.0 ≡ Some e.1) going
  told = each_told s v order at place u at_place n file b h log up unprepared kept f from there found found_b allowed

  noted : AllByRecursion (λ (e : Key × List ℕ). NotedAt h e.0 e.1) going
  noted = each_noted h a going laid (few_records s v order f h there a file file_is kind) (subst (λ (q : Kept). AllByRecursion (λ (e : Key × List ℕ). map_by q h a e.0 ≡ Some e.1) going) kind told)

  file_kind : file.organization ≡ nodes.Sequential
  file_kind = file_is.head.organization ∙ ap (λ q. organized_by q h) kind

  may : MayMake n b h.name file cs
  may = record {
    some = some_changes cs many;
    found = found;
    marked = mark_none;
    free = changes_asked (λ k. held_against (Some b.key.serial) (world.holder n.volatile.locks h.name k) ≡ None) file said data_none (each_free n b.key.serial h.name (keys_asked file said) keys_none);
    notes = changes_found file said;
    end = λ is moved. (free_for n b.key.serial h.name (keys_asked file said) keys_none).0;
    suit = suit_each file h going file_kind file_is.head.record_size noted;
    room = changes_have_room n b h.name cs kept.has.order (some_changes cs many) (neither (more_changes n cs b) _ behind_data).0 bytes_none;
  }

  -- What was written.

  abbrev pub enters : EntersCut f h from es v w
  enters = made.enters

  abbrev ru : Span
  ru = v.catalog.ru

  abbrev known : IsSound n.name n.blocks v.catalog
  known = sound_here s v order n log kept f h there

  still_a : IsStill n v.catalog f h there known order.heads a
  still_a = still_kept s v order n log kept f h there

  rooms : (side : Side) → is_kept side h ≡ true → (span_of side h).end - (span_of side h).first + length (flat_map spelling (entries_of side es)) ≤ ring_size (span_of side h)
  rooms After on = (enters.images.afters.room on).room
  rooms Before on = (enters.images.befores.room on).room

  -- behind the journals of images, and behind that of recovery units too
  abbrev a2 : Content
  a2 = with_entries_if h.marks.ai h.ai es.gone (with_entries_if h.marks.bi h.bi es.images a)

  still_2 : IsStill n v.catalog f h there known order.heads a2
  still_2 = second_still n v.catalog f h there known order.heads a still_a es rooms

  abbrev p : Content
  p = with_entries ru es.had a2

  ru_room : ru.end - ru.first + length (flat_map spelling es.had) ≤ ring_size ru
  ru_room = (enters.entered.room refl).room

  is_behind : IsBehind ru a2 p
  is_behind = record {
    others = keeps_others (flat_map spelling es.had) a2 ru ru.end still_2.volume.journal.is.ring.some;
    journal = λ ds j. written_behind a2 ru ds ru.end (flat_map spelling es.had) j (omega arith) (let fits = ru_room in let up = order.ascends in omega (arith, fits, up));
  }

  still_p : IsStill n v.catalog f h there known order.heads p
  still_p = still_ru n v.catalog f h there known order.heads a2 p still_2 is_behind

  same_imaged : enters.imaged.catalog ≡ v.catalog
  same_imaged = enters.images.afters.catalog ∙ enters.images.befores.catalog

  same : enters.written.catalog ≡ v.catalog
  same = enters.entered.catalog ∙ same_imaged

  told_p : enters.written.store.current ≡ Some p
  told_p = enters.entered.current
      ∙ ap (option_map (with_entries ru es.had)) (enters.images.afters.current ∙ ap (option_map (with_entries_if h.marks.ai h.ai es.gone)) (enters.images.befores.current ∙ ap (option_map (with_entries_if h.marks.bi h.bi es.images)) kept.told))

  abbrev mid : VolumeState
  mid = enters.cuts.cut

  abbrev new : FileHead
  new = enters.cuts.head

  cut_is : (c : Content) × (mid.store.current ≡ Some c) × CutsFile h from a c new
  cut_is = enters.cuts.cuts a kept.told file_is.head.form file_is.laid

  abbrev c : Content
  c = cut_is.0

  file_p : IsFile p h file
  file_p = asked_file p v.catalog.heads n f h file still_p.volume.files kept.has.units there found

  of_node : IsOfNode n p enters.written
  of_node = record {
    told = told_p;
    holds = subst (λ o. IfSome o (TellsCatalog enters.written.catalog)) (sym told_p) (subst (λ (k : Catalog). TellsCatalog k p) (sym same) still_p.tells);
    sound = subst (λ (k : Catalog). IsSound n.name n.blocks k) (sym same) known;
    long = ap (λ (k : Catalog). length k.heads) same ∙ order.heads;
    size = enters.entered.size ∙ enters.images.afters.size ∙ enters.images.befores.size ∙ sym kept.blocks;
    home = subst (λ (k : Catalog). HasHome k.home n) (sym same) still_p.volume.home;
    journal = subst (λ (k : Catalog). HasJournal p k n) (sym same) still_p.volume.journal;
    log = still_p.volume.log;
  }

  there_w : head_at enters.written.catalog.heads f ≡ Some h
  there_w = ap (λ (k : Catalog). head_at k.heads f) same ∙ there

  rest : KeepsRest n f new p c enters.written mid
  rest = keeps_rest n f 65 h new p c enters.written mid of_node there_w enters.cuts.stages cut_is.1 cut_is.2.whole

  heads_are : mid.catalog.heads ≡ slice_set v.catalog.heads f (Some new)
  heads_are = rest.heads ∙ ap (λ (k : Catalog). slice_set k.heads f (Some new)) same

  names_cut : KeepsNames v.catalog.heads mid.catalog.heads
  names_cut = subst (λ (k : Catalog). KeepsNames k.heads mid.catalog.heads) same rest.names

  others : SameBut f v.catalog.heads p c
  others = subst (λ (k : Catalog). SameBut f k.heads p c) same rest.others

  cuts_p : CutsFile h from p c new
  cuts_p = record {
    whole = cut_is.2.whole;
    form = cut_is.2.form;
    laid = cut_is.2.laid;
    map = cut_is.2.map ∙ ap (cut_from from) (λ i k. (sym (file_is.records k) ∙ file_p.records k) i);
    layout = cut_is.2.layout ∙ ap (λ q. layout_by q h a) kind ∙ sym (ap (λ q. layout_by q h p) kind);
  }

  named : IsNamed v.catalog.heads f h h.name
  named = record { there = there; called = refl; lowest = λ g other less at_g same. let e = once_of v.catalog.home.node v.store.disk.size v.catalog order.sound order.heads g f other h at_g there same in absurd (omega (arith, e, less)) }

  at_file : (x : File) × IsFile a h x × IsFoundAt h.name n.durable.directory f x × IsCarried a f h x.carried
  at_file = finds_files.found a v.catalog.heads n.durable.directory f h h.name kept.has.files named

  found_is : at_file.0 ≡ file
  found_is = same_file at_file.0 file (sym at_file.2.found ∙ found)

  pub at_f : file_at n.durable.directory f ≡ Some file
  at_f = at_file.2.there ∙ ap Some found_is

  found_at : IsFoundAt h.name n.durable.directory f file
  found_at = subst (IsFoundAt h.name n.durable.directory f) found_is at_file.2

  -- the branch is one of the table
  there_b : In b n.volatile.branches
  there_b = found_there u.serial n.volatile.branches b found_b

  -- what holds by the branch holds by its unit
  by_own : (P : Id → Id → Type 0) → P b.key.tid b.key.serial → P u.tid u.serial
  by_own P p = subst (λ y. P u.tid y) own_is.serial (subst (λ x. P x b.key.serial) own_is.tid p)

  free_keys : AllByRecursion (λ (c : Change). is_free u.serial file.history.live c.key ≡ true) cs
  free_keys = by_own (λ t x. AllByRecursion (λ (c : Change). is_free x file.history.live c.key ≡ true) cs) (frees n kept.has.units kept.has.order up b h.name file cs keys f at_f there_b unprepared may)

  changing_may : MayChange u.serial file cs
  changing_may = by_own (λ t x. MayChange x file cs) (may_change n kept.has.units kept.has.order up b h.name file cs keys f at_f there_b unprepared may)

  units_then : AreUnitsOf m
  units_then = by_own (λ t x. AreUnitsOf (acted (Changes t x h.name cs keys) n)) (units_after n kept.has.units kept.has.order up b h.name file cs keys f at_f there_b unprepared may)

  order_then : IsJournalInOrder m.durable
  order_then = by_own (λ t x. IsJournalInOrder (acted (Changes t x h.name cs keys) n).durable) (order_after n kept.has.units kept.has.order up b h.name file cs keys f at_f there_b unprepared may)

  -- the node is up then
  up_then : IsUp m
  up_then = subst (λ (a : Act). IsUp (acted a n)) (sym act_is) (keeps (λ i. first_of (early_none i) (late_none i)))

  -- The images of the records that go.

  abbrev V : Catalog
  V = mid.catalog

  abbrev held : Key → Bool
  held = is_locked n.volatile.locks h.name

  abbrev bare : File
  bare = carrying file.carried (changed_file held u.tid u.serial cs file)

  abbrev buckets : List (Option File)
  buckets = changed_buckets held u.tid u.serial cs f file n.durable.directory

  changed_is : IsChanged held cs p h c new
  changed_is = cut_changes f 65 from h new held file p c enters.written mid file_p kind some.0 enters.cuts.stages cuts_p

  files_set : AreFiles c V.heads buckets
  files_set = subst (λ hs. AreFiles c hs buckets) (sym heads_are)
      (keeps_files.changes p c v.catalog.heads n f h new h.name file u.tid u.serial cs still_p.volume.files kept.has.units named at_f free_keys (reads_files.removed p h file from file_p kind some.0).0 changed_is (rest.carried h there_w) others)

  restorable_set : AreRestorable c V.heads m.durable.directory
  restorable_set = subst (λ hs. AreRestorable c hs m.durable.directory) (sym heads_are)
      (changes_restorable.cuts p c v.catalog.heads n f from h new h.name file u.tid u.serial keys still_p.volume.files kept.has.units named at_f kind some.0 changing_may enters.cuts.stages.same cuts_p.form cuts_p.laid cuts_p.map others still_p.volume.restorable)

  keys_are_going : keys_cut h from ≡ reverse (map (λ (e : Key × List ℕ). e.0) going)
  keys_are_going = behind_end s v order at place u at_place n file b h log up unprepared kept f from there found found_b allowed some.0

  few_going : length going ≤ 1024
  few_going =
      let off = none_if (nat_lt 1024 (length u.positions + removed_from h.count from)) TooMany (first_none (cause_if (removed_from h.count from == 0) RecordNotFound) _ number_none).1 in
      let most = most_of 1024 (length u.positions + removed_from h.count from) off in
      let many = many_alike a h file file_is kind from some.0 in
      let long = length-map going removed in
      omega (arith, most, many, long)

  low_here : ((span_of After h).end + 2 ^ 24 ≤ 2 ^ 62) × ((span_of Before h).end + 2 ^ 24 ≤ 2 ^ 62)
  low_here = low.images f h there

  -- the rings stand in what the cut made
  rings_c : (side : Side) → is_kept side h ≡ true → SameRing (span_of side h) a2 c
  rings_c side on =
      ring_on (span_of side h) a2 p c (ring_carried h a2 p (ru_stands n v.catalog f h there known order.heads a2 p still_2 is_behind f h there).carried side on)
      (ring_carried h p c (rest.carried h there_w) side on)

  gone_is : h.marks.ai ≡ true → es.gone ≡ cut_entries u.tid u.serial f (λ key. None) (reverse (map (λ (e : Key × List ℕ). e.0) going))
  gone_is on = made.images.gone on a kept.told file_is.head.form file_is.laid ∙ ap (cut_entries u.tid u.serial f (λ key. None)) keys_are_going

  images_are : h.marks.bi ≡ true → es.images ≡ cut_entries u.tid u.serial f (map_of h a) (reverse (map (λ (e : Key × List ℕ). e.0) going))
  images_are on = made.images.images on a kept.told file_is.head.form file_is.laid ∙ ap (cut_entries u.tid u.serial f (map_of h a)) keys_are_going

  gone_spelled : h.marks.ai ≡ true → flat_map spelling es.gone ≡ images_bytes After f u.tid u.serial cs
  gone_spelled on = spelled_so After u.tid u.serial f (map_of h a) h new enters.cuts.stages.same kind going told noted few_going es.gone (gone_is on) enters.images.afters.each low_here.0

  images_spelled : h.marks.bi ≡ true → flat_map spelling es.images ≡ images_bytes Before f u.tid u.serial cs
  images_spelled on = spelled_so Before u.tid u.serial f (map_of h a) h new enters.cuts.stages.same kind going told noted few_going es.images (images_are on) enters.images.befores.each low_here.1

  stand_after : StandIfKept After f c new u.tid u.serial cs
  stand_after mark =
      let on = sym (kept_same After h new enters.cuts.stages.same) ∙ mark in
      stand_so After u.tid u.serial f (map_of h a) h new enters.cuts.stages.same kind going told noted few_going es.gone (gone_is on) enters.images.afters.each low_here.0 c (rooms After on)
      (stands_there n v.catalog f h there known order.heads a still_a es rooms c After on (rings_c After on))

  stand_before : StandIfKept Before f c new u.tid u.serial cs
  stand_before mark =
      let on = sym (kept_same Before h new enters.cuts.stages.same) ∙ mark in
      stand_so Before u.tid u.serial f (map_of h a) h new enters.cuts.stages.same kind going told noted few_going es.images (images_are on) enters.images.befores.each low_here.1 c (rooms Before on)
      (stands_there n v.catalog f h there known order.heads a still_a es rooms c Before on (rings_c Before on))

  wide : f < length n.durable.directory
  wide = within_list n.durable.directory f file at_f

  numbered : f < 64
  numbered = let long = kept.has.files.directory_long in let below = wide in omega (arith, long, below)

  bare_there : file_at buckets f ≡ Some bare
  bare_there = get_or-set_same n.durable.directory f (Some bare) None wide

  head_there : head_at V.heads f ≡ Some new
  head_there = ap (λ hs. head_at hs f) heads_are ∙ get_or-set_same v.catalog.heads f (Some new) None (within_list v.catalog.heads f h there)

  head_new : IsHead new
  head_new = told_heads V c rest.tells rest.long f new head_there

  -- the file's directory block tells its head
  block_is : head_block_of new ≡ block_at c (1 + f)
  block_is = (subst (λ o. TellsEntry (block_at c (1 + f)) o) head_there (rest.tells.heads f numbered)).bytes

  abbrev moved_head : FileHead
  moved_head = moved_ends (length (images_bytes After f u.tid u.serial cs)) (length (images_bytes Before f u.tid u.serial cs)) new

  abbrev I : Content
  I = slice_set c (1 + f) (head_block_of moved_head)

  abbrev H : List (Option FileHead)
  H = slice_set V.heads f (Some moved_head)

  moved_in : Enters c V.heads I (data_area (sizes_of V.home)) H (slice_set buckets f (Some (carrying (with_images u.tid u.serial cs bare.carried) bare)))
  moved_in = enters_moved c (data_area (sizes_of V.home)) V.heads buckets f new bare u.tid u.serial cs (record { files = files_set; fit = fits_in n.name n.blocks V rest.long rest.sound; behind = omega arith; whole = rest.whole }) numbered head_there bare_there head_new block_is
      stand_after stand_before

  directory_now : slice_set buckets f (Some (carrying (with_images u.tid u.serial cs bare.carried) bare)) ≡ m.durable.directory
  directory_now = enters_images.changes n f h.name file u.tid u.serial cs keys found_at

  images_in : Enters c V.heads I (data_area (sizes_of V.home)) H m.durable.directory
  images_in = subst (Enters c V.heads I (data_area (sizes_of V.home)) H) directory_now moved_in

  pub directory_after : m.durable.directory ≡ slice_set n.durable.directory f (Some (changed_file (is_locked n.volatile.locks h.name) u.tid u.serial cs file))
  directory_after = found_at.changed (changed_file (is_locked n.volatile.locks h.name) u.tid u.serial cs)

  -- what is unsettled does not change with what a file carries
  live_here : (g : ℕ) → SameLive (file_at m.durable.directory g) (file_at buckets g)
  live_here g = subst (λ fs. SameLive (file_at fs g) (file_at buckets g)) (sym directory_after) (live_set n.durable.directory f g (changed_file held u.tid u.serial cs file) bare refl)

  restorable_imaged : AreRestorable I H m.durable.directory
  restorable_imaged = dressed_restorable c I V.heads H buckets m.durable.directory files_set images_in.dressed live_here restorable_set

  head_is : moved_head ≡ head_behind h es new
  head_is = ends_behind h new enters.cuts.stages.same es (length (images_bytes After f u.tid u.serial cs)) (length (images_bytes Before f u.tid u.serial cs)) (λ on. ap length (gone_spelled on)) (λ on. ap length (images_spelled on))

  moved_told : enters.moved.store.current ≡ Some I
  moved_told = enters.cuts.current ∙ ap (option_map (λ (x : Content). slice_set x (1 + f) (head_block_of (head_behind h es new)))) cut_is.1 ∙ (λ i. Some (slice_set c (1 + f) (head_block_of (sym head_is i))))

  -- The volume after it.

  abbrev M : Catalog
  M = record V { heads = H }

  moved_is : enters.moved.catalog ≡ M
  moved_is = enters.cuts.catalog ∙ (λ i. record V { heads = slice_set V.heads f (Some (sym head_is i)) })

  abbrev after : Span
  after = span_behind es.had ru

  abbrev pub W : Catalog
  W = record M { ru = after }

  pub catalog_is : w.catalog ≡ W
  catalog_is = enters.catalog ∙ (λ i. record (moved_is i) { ru = after })

  pub es_are : es.had ≡ map (entry_for f) (entries_for u.tid u.serial h.name cs)
  es_are = made.tells a kept.told file_is.head.form file_is.laid ∙ ap (cut_entries u.tid u.serial f (map_of h a)) keys_are_going ∙ entries_are u.tid u.serial f h.name (map_of h a) h going told noted

  pub es_many : 1 ≤ length es.had
  es_many = let same = ap length es_are in let long = length_mapped (entries_for u.tid u.serial h.name cs) in let world_long = entries_many u.tid u.serial h.name cs in let more = many in omega (arith, same, long, world_long, more)
    where
      length_mapped : (xs : List JournalEntry) → length (map (entry_for f) xs) ≡ length xs
      length_mapped [] = refl
      length_mapped (x ∷ xs) = ap suc (length_mapped xs)

  pub told_after : (d : Content) × (w.store.current ≡ Some d)
  told_after = (slice_set I 65 (ru_block_of after), enters.current ∙ ap (option_map (λ (x : Content). slice_set x 65 (ru_block_of after))) moved_told)

  pub node_after : w.catalog.home.node ≡ v.catalog.home.node
  node_after = ap (λ (k : Catalog). k.home.node) catalog_is ∙ ap (λ (k : Catalog). k.home.node) enters.cuts.stages.catalog ∙ ap (λ (k : Catalog). k.home.node) same

  ring_v : V.ru ≡ ru
  ring_v = rest.ring ∙ ap (λ (k : Catalog). k.ru) same

  sound_imaged : IsSound n.name n.blocks M
  sound_imaged = sound_entered c I V H m.durable.directory images_in n rest.sound

  names_imaged : KeepsNames V.heads H
  names_imaged = names_entered c I V H m.durable.directory images_in n rest.sound

  pub names_are : KeepsNames v.catalog.heads W.heads
  names_are g other at_g = let x = names_cut g other at_g in let y = names_imaged g x.0 x.1 in (y.0, y.1, y.2 ∙ x.2)

  tells_imaged : TellsCatalog M I
  tells_imaged = tells_entered c I V H m.durable.directory images_in n rest.sound rest.tells

  module _ (d : Content) (now : w.store.current ≡ Some d) where
    set_is : d ≡ slice_set I 65 (ru_block_of after)
    set_is = one_content d (slice_set I 65 (ru_block_of after)) (sym now ∙ enters.current ∙ ap (option_map (λ (x : Content). slice_set x 65 (ru_block_of after))) moved_told)

    stands_at : (k : ℕ) → (k ≡ 65 → ⊥) → block_at d k ≡ block_at I k
    stands_at k other = ap (λ (x : Content). block_at x k) set_is ∙ other_block I 65 k (ru_block_of after) other

    whole_d : EachWhole d
    whole_d = subst EachWhole (sym set_is) (whole_set I 65 (ru_block_of after) images_in.fitting.whole (ru_long after))

    size_d : length d ≡ length I
    size_d = ap length set_is ∙ length-set I 65 (ru_block_of after)

    files_stand : (g : ℕ) (other : FileHead) → head_at H g ≡ Some other → AgreesOnFile other I d
    files_stand = writes_apart.before (data_area (sizes_of M.home)) H I d (fits_in n.name n.blocks M images_in.fitting.fit.heads_long sound_imaged) size_d whole_d
        (λ k from_k. let start = sound_imaged.ru_start in let blocks = sound_imaged.ru_blocks in sym (stands_at k (λ t. absurd (omega (arith, t, from_k, start, blocks)))))

    -- the journal of recovery units has the entries
    abbrev longer_entries : List Entry
    longer_entries = still_2.volume.journal.entries ++ es.had

    ring_p : IsJournal p after longer_entries
    ring_p = journal_more a2 ru still_2.volume.journal.entries es.had still_2.volume.journal.is enters.entered.each ru_room

    ring_c : SameRing ru p c
    ring_c = subst (λ (k : Catalog). SameRing k.ru p c) same (ring_same n f 65 h new p c enters.written mid of_node there_w enters.cuts.stages cut_is.1 cut_is.2.whole)

    ring_i : SameRing ru c I
    ring_i = subst (λ (r : Span). SameRing r c I) ring_v (ring_entered c I V H m.durable.directory images_in n rest.sound)

    ring_d : IsJournal d after longer_entries
    ring_d = journal_stands after I d longer_entries
        (journal_stands after c I longer_entries (journal_stands after p c longer_entries ring_p (ring_longer ru (length (flat_map spelling es.had)) p c ring_c)) (ring_longer ru (length (flat_map spelling es.had)) c I ring_i))
        record {
          size = size_d;
          whole = whole_d;
          blocks = λ k from_k to. stands_at k (λ t. absurd (let start = order.sound.ru_start in omega (arith, t, from_k, start)));
        }

    journal_set : HasJournal d W m
    journal_set = follow.changes a2 d v.catalog W n f h u.tid u.serial cs keys still_2.volume.journal there names_are (subst (λ xs. IsJournal d after (still_2.volume.journal.entries ++ xs)) es_are ring_d) refl ends_at
        (let start = low.low in let fits = ru_room in let most = order.sound.sizes.most_journal in let blocks = order.sound.ru_blocks in let up = order.ascends in omega (arith, start, fits, most, blocks, up))
      where
        ends_at : W.ru.end ≡ end_of (with_more (entries_for u.tid u.serial h.name cs) n.durable.units)
        ends_at =
            let more = size_append js (entries_for u.tid u.serial h.name cs) in
            let end = kept.has.journal.end in
            let told_es = made.tells a kept.told file_is.head.form file_is.laid in
            let long : length (flat_map spelling es.had) ≡ entry_sizes (map_of h a) (keys_cut h from) =
            ap (λ xs. length (flat_map spelling xs)) told_es ∙ entries_long u.tid u.serial f (map_of h a) (keys_cut h from) (subst (AllByRecursion IsEntry) told_es enters.entered.each) in
            let world_size = size_is s v order at place u at_place n file b h log up unprepared kept f from there found found_b allowed u.tid u.serial h.name some.0 in
            omega (arith, more, end, long, world_size)

    log_imaged : HasLog I n
    log_imaged = log_entered c I V H m.durable.directory images_in n rest.sound rest.log (let slots = rest.home.slots in let start = rest.sound.ru_start in omega (arith, slots, start))

    pub volume_after : HasVolume d W m
    volume_after = record {
      home = record { volume = rest.home.volume; slots = rest.home.slots; journal = rest.home.journal; boot = rest.home.boot; greatest = rest.home.greatest; last = rest.home.last };
      log = logs_follow.stays I d n m log_imaged refl (λ i below. stands_at (66 + i) (λ t. absurd (omega (arith, t))));
      journal = journal_set;
      units = units_then;
      order = order_then;
      told = (kept_up m up_then).log;
      files = stands_on_extents I d H m.durable.directory files_stand images_in.fitting.files;
      restorable = keeps_restorable.stands I d H m.durable.directory files_stand images_in.fitting.files restorable_imaged;
    }

    pub tells_after : TellsCatalog W d
    tells_after = record {
      ranges = tells_imaged.ranges;
      home = subst (λ (x : List ℕ). home_format.HasHome x V.home) (sym (stands_at 0 (λ t. absurd (omega (arith, t))))) tells_imaged.home;
      heads = λ g below. subst (λ (x : List ℕ). TellsEntry x (head_at H g)) (sym (stands_at (1 + g) (λ t. absurd (omega (arith, t, below))))) (tells_imaged.heads g below);
      ru = subst (λ (x : List ℕ). home_format.HasRu x after) (sym (ap (λ (x : Content). block_at x 65) set_is ∙ get_or-set_same I 65 (ru_block_of after) [] (let within = ring_p.ring.within in let ring_some = ring_p.ring.some in let size = ring_c.size in let size_i = images_in.size in let start = order.sound.ru_start in omega (arith, within, ring_some, size, size_i, start)))) (ru_written after);
    }

  pub sound_after : IsSound n.name n.blocks W
  sound_after = sound_longer n.name n.blocks (length (flat_map spelling es.had)) M ru sound_imaged ring_v
