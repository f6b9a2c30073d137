-- Changes that are committed at once are made of a node's volume.
use Rattle.volume_format.specs.Home.{sizes_of}
use Rattle.volume.specs.Limits.{data_area}
use Rattle.recovery_units.specs.volume_model.Homes.{HasHome}
use Rattle.node_units.proofs.ImagedVolume.{dressed_restorable, tells_entered, sound_entered, names_entered, log_entered, journal_entered, live_set, same_live}
use Rattle.unit_world.specs.restart_laws.Restorable.{SameLive}
use Rattle.undo_laws.specs.image_groups.Groups.{Enters}
use Rattle.std.proofs.Common.{◌≡◌, ℕ, ◌+◌, ◌≤◌, ◌^◌, List, [], ◌∷◌, ◌++◌, Bool, true, false, Option, Some, None, nat_le, refl, sym, ◌∙◌, ap, subst, arith, append-nil, if◌then◌else◌, inl, inr}
use Rattle.std.specs.Prelude.{is_some, option_map, unwrap_or, slice_set}
use Rattle.std.specs.List.{AllByRecursion}
use Rattle.std.proofs.lemmas.Bool.{both_ways, leb-false}
use Rattle.careful_write.specs.State.{EachWhole}
use Rattle.file_base.specs.declared.head.FileHead.{FileHead}
use Rattle.file_base.specs.declared.head.Span.{Span}
use Rattle.vms_model.specs.Ids.{Id, IsId}
use Rattle.vms_model.specs.Transactions.{Commit}
use Rattle.vms_base.specs.Ids.{tid_of}
use Rattle.vms_base.specs.declared.ids.Tid.{Tid}
use Rattle.volume.specs.declared.catalog.Catalog.{Catalog}
use Rattle.volume.specs.Catalogs.{IsSound, TellsCatalog}
use Rattle.volume.specs.State.{VolumeState}
use Rattle.volume_files.specs.Staging.{StagesFile}
use Rattle.volume_format.specs.declared.home.Ending.TheVariants as ending
use Rattle.journal_model.specs.Entries.{Entry}
use Rattle.journal_model.specs.Ring.{IsJournal}
use Rattle.records_model.specs.History.{LiveChanges, changes_by, same_id}
use Rattle.records_model.specs.Records.{Change}
use Rattle.unit_laws.specs.Journal.{Journal, JournalEntry, RecoveryUnit, SettledEntry, end_of, find_unit, is_settled_in, serial_in, trimmed, units_in, with_entries, with_settled}
use Rattle.unit_laws.specs.JournalLaws.{is_unit}
use Rattle.unit_laws.proofs.TrimLemmas.{trim_keeps_units, trimmed_begins}
use Rattle.unit_table.specs.Units.{OpenUnit, earliest}
use Rattle.rms_units.specs.unit_journal.Settling.{MakesSettlement, entry_if}
use Rattle.rms_units.specs.unit_journal.Settling as settling
use Rattle.rms_units.specs.unit_journal.Entries.{settled_entry}
use Rattle.recovery_units.specs.run_model.Answers.{commit_settlement}
use Rattle.recovery_units.specs.run_model.Locks.{is_locked}
use Rattle.recovery_units.specs.run_model.World.{tid_in}
use Rattle.recovery_units.specs.world_laws.Nodes.{IsUp}
use Rattle.commit_protocol.specs.World.{In}
use Rattle.commit_protocol.specs.Table.{Branch}
use Rattle.recovery_units.specs.run_model.World.{Act, AreUnitsOf, Changes, Directs, File, Node, Settlement, acted, directly_changed, fallen, next_id, next_moment}
use Rattle.recovery_units.proofs.world_laws.DirectLemmas.{live_same}
use Rattle.recovery_units.proofs.world_laws.EntryLemmas.{all_trimmed}
use Rattle.recovery_units.proofs.world_laws.OrderedLemmas.{directs_keep_order}
use Rattle.recovery_units.proofs.world_laws.LogLemmas.{told_log}
use Rattle.unit_world.specs.directory_model.Files.{AreFiles, IsFoundAt, IsNamed, file_at, head_at}
use Rattle.unit_world.specs.directory_model.Laws.{IsChanged, directly_buckets, carrying}
use Rattle.unit_world.specs.directory_model.Restoring.{AreRestorable}
use Rattle.unit_world.proofs.directory_model.Places.{within_list}
use Rattle.unit_world.proofs.directory_model.Standing.{stands_on_extents}
use Rattle.unit_world.specs.restart_laws.Units.{MayChange}
use Rattle.unit_world.proofs.restart_laws.ListLemmas.{both_as}
use Rattle.unit_world.proofs.restart_laws.StayLemmas.{keeps_restorable}
use Rattle.unit_world.proofs.restart_laws.UnitLemmas.{keeps_units}
use Rattle.volume_format.specs.declared.home.Home.{Home}
use Rattle.recovery_units.specs.volume_model.Entries.{entry_for}
use Rattle.recovery_units.specs.volume_model.Laws.{KeepsNames}
use Rattle.recovery_units.specs.volume_model.Volumes.{HasVolume, IsLeftBy, HasJournal, HasLog}
use Rattle.unit_world.specs.volume_laws.Journals.{settled_entries}
use Rattle.unit_world.proofs.volume_laws.FollowLemmas.{follow}
use Rattle.unit_world.proofs.volume_laws.ToldLemmas.{logs_follow}
use Rattle.unit_world.proofs.volume_laws.WholeLemmas.{volume_falls}
use Rattle.undo_laws.specs.settlement_laws.Settled.{IsSettled, Makes}
use Rattle.undo_laws.proofs.settlement_laws.MadeLemmas.{settlements_are_made}
use Rattle.recovery_units.specs.State.{AreOfBranches, IsKept, IsUnitOf, UnitsState, changed_at}
use Rattle.unit_world.proofs.Leaving.{down}
use Rattle.unit_world.proofs.Staying.{changed_set, locks_stay}
use Rattle.unit_table.proofs.BegunLemmas.{earliest_in}
use Rattle.node_units.proofs.Directly.{files_directed, fresh, none_live}
use Rattle.node_units.proofs.Earliest.{first_is}
use Rattle.node_units.proofs.Positions.{positions_trimmed}
use Rattle.node_units.proofs.SettingFile.{IsOfNode, KeepsRest, keeps_rest}

-- A branch that is no unit has no entry, and the journal is trimmed alone.
no_entries : (s : Settlement) (j : Journal) → is_unit s.serial j ≡ false → settled_entries s j ≡ []
no_entries s j none = go (find_unit s.serial (units_in j.entries)) none
  where
    go : (o : Option RecoveryUnit) → is_some o ≡ false → elim o as (λ _. List Entry) [ Some u ↦ entry_for 0 (SettledEntry s.tid s.serial s.outcome s.moment) ∷ [] | None ↦ [] ] ≡ []
    go None is = refl
    go (Some u) is = let never : ⊥ = cc in absurd never

trimmed_alone : (s : Settlement) (j : Journal) → is_unit s.serial j ≡ false → with_settled s.tid s.serial s.outcome s.moment j ≡ trimmed j
trimmed_alone s j none = go (find_unit s.serial (units_in j.entries)) none
  where
    go : (o : Option RecoveryUnit) → is_some o ≡ false → trimmed (elim o as (λ _. Journal) [ Some u ↦ with_entries (SettledEntry s.tid s.serial s.outcome s.moment ∷ []) j | None ↦ j ]) ≡ trimmed j
    go None is = refl
    go (Some u) is = let never : ⊥ = cc in absurd never

-- Moments.
moment_later : (clock greatest : ℕ) → greatest ≤ (if nat_le clock (greatest + 1) then greatest + 1 else clock)
moment_later clock greatest = go (nat_le clock (greatest + 1)) refl
  where
    go : (b : Bool) → nat_le clock (greatest + 1) ≡ b → greatest ≤ (if b then greatest + 1 else clock)
    go true is = omega arith
    go false is = let more = leb-false clock (greatest + 1) is in omega (arith, more)

-- the next moment of a node, by the home that it has
pub moment_of : (n : Node) (clock : ℕ) (h : Home) → n.clock ≡ clock → n.durable.greatest ≡ h.greatest_moment.0 → next_moment n ≡ settling.next_moment clock h
moment_of n clock h ticks greatest = λ i. if nat_le (ticks i) (greatest i + 1) then greatest i + 1 else ticks i

-- What a change that is committed at once makes of a node.

-- the settlement of the branch that is drawn next
abbrev pub own_settlement : Node → Settlement
own_settlement n = commit_settlement n (next_id n) (next_id n)

-- A file is changed in what is staged of a node's volume, at keys that no unsettled branch changed; the journals of images tell it and that it is committed; and it is
-- committed at this clock as the branch that is drawn next. The journal of recovery units begins with the earliest change of a unit. What unsettled branches changed
-- can be restored beside it.
pub record DirectsFile (n : Node) (f : ℕ) (h : FileHead) (name : List ℕ) (file : File) (tid : Tid) (clock : ℕ) (cs : List Change) (left : List (Option OpenUnit)) (a b : List (List ℕ)) (v mid made : VolumeState) (new : FileHead) : Type 0 where
  pub named : IsNamed v.catalog.heads f h name
  pub at : IsFoundAt name n.durable.directory f file
  pub may : MayChange (next_id n) file cs
  pub limit : ℕ
  pub stages : StagesFile f h limit v mid new
  pub now : mid.store.current ≡ Some b
  pub whole : EachWhole b
  pub changed : IsChanged (is_locked n.volatile.locks name) cs a h b new
  pub restorable : AreRestorable b (slice_set v.catalog.heads f (Some new)) (acted (Changes (next_id n) (next_id n) name cs []) n).durable.directory
  pub closed : VolumeState
  pub images : List (List ℕ)
  pub told : closed.store.current ≡ Some images
  pub catalog : closed.catalog ≡ record mid.catalog { heads = closed.catalog.heads }
  pub enters : AreFiles b mid.catalog.heads (directly_buckets (is_locked n.volatile.locks name) (own_settlement n) cs f file n.durable.directory) →
      Enters b mid.catalog.heads images (data_area (sizes_of mid.catalog.home)) closed.catalog.heads (acted (Directs name cs (own_settlement n)) n).durable.directory
  pub makes : MakesSettlement tid (record { 0 = tid.0 }) ending.Commit (settling.next_moment clock v.catalog.home) None left closed made
  pub own : tid_of tid ≡ next_id n
  pub is_id : IsId (tid_of tid)
  pub ticks : n.clock ≡ clock
  pub early : settling.next_moment clock v.catalog.home ≤ 24113056319999
  pub begins : unwrap_or (earliest left) v.catalog.ru.end ≡ (trimmed n.durable.units).first

-- What the changes make of the node's branches: nothing of those that it has.

each_unsettled : (us : List OpenUnit) (bs : List Branch) (es : List JournalEntry) → AreOfBranches us bs → ((b : Branch) → In b bs → is_settled_in b.key.serial es ≡ false) → AllByRecursion (λ (u : OpenUnit). is_settled_in u.serial es ≡ false) us
each_unsettled [] [] es are all = tt
each_unsettled [] (b ∷ bs) es are all = absurd are
each_unsettled (u ∷ us) [] es are all = absurd are
each_unsettled (u ∷ us) (b ∷ bs) es are all = (subst (λ (x : Id). is_settled_in x es ≡ false) are.0.serial (all b (inl refl)), each_unsettled us bs es are.1 (λ c i. all c (inr i)))

module _ (n : Node) (f : ℕ) (name : List ℕ) (file : File) (c : Change) (more : List Change) (are : AreUnitsOf n) (up : IsUp n) (at : IsFoundAt name n.durable.directory f file) (comes : IsUp (acted (Directs name (c ∷ more) (own_settlement n)) n)) where
  abbrev own_st : Settlement
  own_st = own_settlement n

  abbrev own_node : Node
  own_node = acted (Directs name (c ∷ more) own_st) n

  -- no unsettled branch changed more
  changed_still : (x : Id) (g : ℕ) → changed_at x (file_at own_node.durable.directory g) ≡ changed_at x (file_at n.durable.directory g)
  changed_still x g =
      let change = directly_changed (is_locked n.volatile.locks name) own_st (c ∷ more) in
      let same = live_same own_st.serial c more own_st.moment file.history (none_live n are up name f file at) in
      ap (λ (fs : List (Option File)). changed_at x (file_at fs g)) (at.changed change)
      ∙ changed_set n.durable.directory f (change file) x (within_list n.durable.directory f file at.there) (ap (λ (ls : List LiveChanges). elim (changes_by x ls) [ [] ↦ false | e ∷ es ↦ true ]) same ∙ sym (ap (changed_at x) at.there)) g

  unit_still : (u : OpenUnit) → IsUnitOf n u → is_settled_in u.serial n.durable.units.entries ≡ false → IsUnitOf own_node u
  unit_still u k open_still = record {
    positions = k.positions ∙ sym (positions_trimmed u.serial n.durable.units open_still);
    files = λ g. changed_still u.serial g ∙ k.files g;
    transaction = all_trimmed (λ (e : JournalEntry). same_id u.serial (serial_in e) ≡ true → u.tid ≡ tid_in e) n.durable.units k.transaction;
  }

  pub units_made : (us : List OpenUnit) → AreOfBranches us n.volatile.branches → AllByRecursion (IsUnitOf n) us → AllByRecursion (IsUnitOf own_node) us
  units_made us branches each = both_as (IsUnitOf n) (λ (u : OpenUnit). is_settled_in u.serial n.durable.units.entries ≡ false) (IsUnitOf own_node) us unit_still each
      (each_unsettled us n.volatile.branches n.durable.units.entries branches (λ b i. (up.table.entries b i).unsettled))

  -- the journal begins with the earliest change of the units
  pub begins_made : (us : List OpenUnit) → AreOfBranches us n.volatile.branches → AllByRecursion (IsUnitOf n) us → unwrap_or (earliest_in us) (end_of n.durable.units) ≡ (trimmed n.durable.units).first
  begins_made us branches each =
      ap (unwrap_or (earliest_in us)) (sym (trim_keeps_units n.durable.units).end)
      ∙ first_is own_node us branches comes (units_made us branches each) (trimmed_begins (units_in n.durable.units.entries) n.durable.units.entries refl)

module _ (n : Node) (f : ℕ) (h : FileHead) (name : List ℕ) (file : File) (tid : Tid) (clock : ℕ) (c : Change) (more : List Change) (left : List (Option OpenUnit)) (a b : List (List ℕ)) (v mid made : VolumeState) (new : FileHead) (has : HasVolume a v.catalog n)
    (up : IsUp n) (is : IsOfNode n a v) (d : DirectsFile n f h name file tid clock (c ∷ more) left a b v mid made new)
    (comes : IsUp (acted (Directs name (c ∷ more) (own_settlement n)) n)) (content : List (List ℕ)) (told : made.store.current ≡ Some content) where
  abbrev st : Settlement
  st = own_settlement n

  abbrev cs : List Change
  cs = c ∷ more

  abbrev m : Node
  m = acted (Directs name cs st) n

  fresh_here : is_unit (next_id n) n.durable.units ≡ false
  fresh_here = fresh n has.units up name f file d.at

  rest : KeepsRest n f new a b v mid
  rest = keeps_rest n f d.limit h new a b v mid is d.named.there d.stages d.now d.whole

  moment_is : next_moment n ≡ settling.next_moment clock v.catalog.home
  moment_is = moment_of n clock v.catalog.home d.ticks has.home.greatest

  abbrev closed : VolumeState
  closed = d.closed

  home_same : closed.catalog.home ≡ v.catalog.home
  home_same = ap (λ (k : Catalog). k.home) d.catalog ∙ ap (λ (k : Catalog). k.home) d.stages.catalog

  ring_same : closed.catalog.ru ≡ v.catalog.ru
  ring_same = ap (λ (k : Catalog). k.ru) d.catalog ∙ rest.ring

  end_same : made.catalog.ru.end ≡ closed.catalog.ru.end
  end_same = ap (λ (k : Catalog). k.ru.end) d.makes.catalog

  first_made : made.catalog.ru.first ≡ (trimmed n.durable.units).first
  first_made = ap (λ (k : Catalog). k.ru.first) d.makes.catalog ∙ ap (λ (s : Span). unwrap_or (earliest left) s.end) ring_same ∙ d.begins

  makes : Makes n st tid (record { 0 = tid.0 }) ending.Commit left closed made
  makes =
      let entry = settled_entry (next_id n) (next_id n) Commit (next_moment n) in
      record {
        settlement = λ i. record { tid = sym d.own i; serial = sym d.own i; outcome = Commit; reason = None; moment = next_moment n };
        makes = subst (λ (x : ℕ). MakesSettlement tid (record { 0 = tid.0 }) ending.Commit x (entry_if (is_unit (next_id n) n.durable.units) entry) left closed made) (sym moment_is)
            (subst (λ (o : Option Entry). MakesSettlement tid (record { 0 = tid.0 }) ending.Commit (settling.next_moment clock v.catalog.home) o left closed made) (sym (ap (λ (t : Bool). entry_if t entry) fresh_here)) d.makes);
        is_tid = subst IsId d.own d.is_id;
        is_serial = subst IsId d.own d.is_id;
        later = subst (λ (x : ℕ). x ≤ next_moment n) (has.home.greatest ∙ ap (λ (k : Home). k.greatest_moment.0) (sym home_same)) (moment_later n.clock n.durable.greatest);
        early = subst (λ (x : ℕ). x ≤ 24113056319999) (sym moment_is) d.early;
        room = λ unit. absurd (both_ways _ fresh_here unit);
        first = first_made ∙ ap (λ (j : Journal). j.first) (sym (trimmed_alone st n.durable.units fresh_here));
        low = subst (λ (x : ℕ). x ≤ 2 ^ 62) (sym (end_same ∙ ap (λ (s : Span). s.end) ring_same)) has.journal.low;
      }

  -- The file is changed in its buckets, and then its journals of images tell it.

  files_mid : AreFiles b mid.catalog.heads (directly_buckets (is_locked n.volatile.locks name) st cs f file n.durable.directory)
  files_mid = subst (λ (hs : List (Option FileHead)). AreFiles b hs (directly_buckets (is_locked n.volatile.locks name) st cs f file n.durable.directory)) (sym rest.heads)
      (files_directed a b v.catalog.heads n f h new name file cs st has.files has.units refl d.named d.at.there d.may.keys d.may.found d.changed (rest.carried h d.named.there) rest.others)

  enters : Enters b mid.catalog.heads d.images (data_area (sizes_of mid.catalog.home)) closed.catalog.heads m.durable.directory
  enters = d.enters files_mid

  restorable_mid : AreRestorable b mid.catalog.heads m.durable.directory
  restorable_mid = subst (λ (hs : List (Option FileHead)). AreRestorable b hs m.durable.directory) (sym rest.heads)
      (keeps_restorable.directs b (slice_set v.catalog.heads f (Some new)) n f name file (next_id n) [] c more st refl d.at (none_live n has.units up name f file d.at) d.restorable)

  directory_made : m.durable.directory ≡ slice_set n.durable.directory f (Some (directly_changed (is_locked n.volatile.locks name) st cs file))
  directory_made = d.at.changed (directly_changed (is_locked n.volatile.locks name) st cs)

  live_made : (g : ℕ) → SameLive (file_at m.durable.directory g) (file_at (directly_buckets (is_locked n.volatile.locks name) st cs f file n.durable.directory) g)
  live_made g = subst (λ fs. SameLive (file_at fs g) (file_at (directly_buckets (is_locked n.volatile.locks name) st cs f file n.durable.directory) g)) (sym directory_made)
      (live_set n.durable.directory f g (directly_changed (is_locked n.volatile.locks name) st cs file) (carrying file.carried (directly_changed (is_locked n.volatile.locks name) st cs file)) refl)

  restorable_images : AreRestorable d.images closed.catalog.heads m.durable.directory
  restorable_images = dressed_restorable b d.images mid.catalog.heads closed.catalog.heads (directly_buckets (is_locked n.volatile.locks name) st cs f file n.durable.directory) m.durable.directory files_mid enters.dressed live_made restorable_mid

  tells_closed : TellsCatalog closed.catalog d.images
  tells_closed = subst (λ (k : Catalog). TellsCatalog k d.images) (sym d.catalog) (tells_entered b d.images mid.catalog closed.catalog.heads m.durable.directory enters n rest.sound rest.tells)

  sound_closed : IsSound n.name n.blocks closed.catalog
  sound_closed = subst (IsSound n.name n.blocks) (sym d.catalog) (sound_entered b d.images mid.catalog closed.catalog.heads m.durable.directory enters n rest.sound)

  home_closed : HasHome closed.catalog.home n
  home_closed = subst (λ (k : Catalog). HasHome k.home n) (sym d.catalog) rest.home

  journal_closed : (j : HasJournal d.images closed.catalog n) × (j.entries ≡ rest.journal.entries)
  journal_closed = subst (λ (k : Catalog). (j : HasJournal d.images k n) × (j.entries ≡ rest.journal.entries)) (sym d.catalog) (journal_entered b d.images mid.catalog closed.catalog.heads m.durable.directory enters n rest.sound rest.journal)

  log_closed : HasLog d.images n
  log_closed = log_entered b d.images mid.catalog closed.catalog.heads m.durable.directory enters n rest.sound rest.log (let slots = rest.home.slots in let start = rest.sound.ru_start in omega (arith, slots, start))

  names_closed : KeepsNames mid.catalog.heads closed.catalog.heads
  names_closed = names_entered b d.images mid.catalog closed.catalog.heads m.durable.directory enters n rest.sound

  settled : IsSettled n st journal_closed.0.entries d.images content closed.catalog made.catalog × TellsCatalog made.catalog content × IsSound n.name n.blocks made.catalog
  settled = settlements_are_made d.images content n st tid (record { 0 = tid.0 }) ending.Commit left closed made n.name n.blocks d.told told tells_closed sound_closed enters.fitting.fit.heads_long home_closed journal_closed.0 makes

  pub tells_made : TellsCatalog made.catalog content
  tells_made = settled.1

  pub sound_made : IsSound n.name n.blocks made.catalog
  sound_made = settled.2

  names_then : KeepsNames closed.catalog.heads made.catalog.heads
  names_then g k at = (k, ap (λ hs. head_at hs g) settled.0.heads ∙ at, refl)

  pub names_made : KeepsNames v.catalog.heads made.catalog.heads
  names_made g k at = let x = rest.names g k at in let y = names_closed g x.0 x.1 in (y.0, ap (λ hs. head_at hs g) settled.0.heads ∙ y.1, y.2 ∙ x.2)

  entered : IsJournal content (record made.catalog.ru { first = closed.catalog.ru.first }) journal_closed.0.entries
  entered = subst (λ (es : List Entry). IsJournal content (record made.catalog.ru { first = closed.catalog.ru.first }) es)
      (ap (λ (es : List Entry). journal_closed.0.entries ++ es) (no_entries st n.durable.units fresh_here) ∙ append-nil journal_closed.0.entries) settled.0.entered

  pub volume_made : HasVolume content made.catalog m
  volume_made = record {
    home = record { volume = settled.0.home.volume; slots = settled.0.home.slots; journal = settled.0.home.journal; boot = settled.0.home.boot; greatest = settled.0.home.greatest; last = settled.0.home.last };
    log = logs_follow.stays d.images content n m log_closed refl settled.0.log;
    journal = follow.directs d.images content closed.catalog made.catalog n name cs st journal_closed.0 names_then entered first_made end_same;
    units = keeps_units.directs n name file c more st has.units refl d.at.found fresh_here d.may.keys d.may.found;
    order = directs_keep_order n.durable n.volatile name cs st has.order (moment_later n.clock n.durable.greatest);
    told = told_log m comes.table comes.slots;
    files = subst (λ (hs : List (Option FileHead)). AreFiles content hs m.durable.directory) (sym settled.0.heads) (stands_on_extents d.images content closed.catalog.heads m.durable.directory settled.0.files enters.fitting.files);
    restorable = subst (λ (hs : List (Option FileHead)). AreRestorable content hs m.durable.directory) (sym settled.0.heads)
        (keeps_restorable.stands d.images content closed.catalog.heads m.durable.directory settled.0.files enters.fitting.files restorable_images);
  }

-- The node is kept.
pub direct_kept : (s : UnitsState) (v : VolumeState) (n : Node) (f : ℕ) (h : FileHead) (name : List ℕ) (file : File) (tid : Tid) (clock : ℕ) (c : Change) (more : List Change) (left : List (Option OpenUnit)) (b : List (List ℕ)) (mid w : VolumeState) (new : FileHead)
    (content : List (List ℕ)) (kept : IsKept s v n) → IsUp n → IsOfNode n kept.content v → DirectsFile n f h name file tid clock (c ∷ more) left kept.content b v mid w new → IsUp (acted (Directs name (c ∷ more) (own_settlement n)) n) → w.store.current ≡ Some content →
    w.store.disk.size ≡ v.store.disk.size → IsKept s w (acted (Directs name (c ∷ more) (own_settlement n)) n)
direct_kept s v n f h name file tid clock c more left b mid w new content kept up is d comes told size = record {
  content = content;
  told = told;
  name = kept.name ∙ ap (λ (k : Catalog). k.home.node) (sym d.stages.catalog) ∙ ap (λ (k : Catalog). k.home.node) (sym d.catalog) ∙ ap (λ (k : Catalog). k.home.node) (sym d.makes.catalog);
  blocks = kept.blocks ∙ sym size;
  has = volume_made n f h name file tid clock c more left kept.content b v mid w new kept.has up is d comes content told;
  log = kept.log;
  branches = kept.branches;
  locks = locks_stay v.catalog.heads w.catalog.heads s.locks n.volatile.locks (names_made n f h name file tid clock c more left kept.content b v mid w new kept.has up is d comes content told) kept.locks;
  each = units_made n f name file c more kept.has.units up d.at comes s.begun kept.branches kept.each;
}

-- what the node leaves that fell meanwhile
pub direct_left : (n : Node) (f : ℕ) (h : FileHead) (name : List ℕ) (file : File) (tid : Tid) (clock : ℕ) (c : Change) (more : List Change) (left : List (Option OpenUnit)) (a b : List (List ℕ)) (v mid made : VolumeState) (new : FileHead) → HasVolume a v.catalog n → IsUp n →
    IsOfNode n a v → DirectsFile n f h name file tid clock (c ∷ more) left a b v mid made new → IsUp (acted (Directs name (c ∷ more) (own_settlement n)) n) → (content : List (List ℕ)) → made.store.current ≡ Some content → (act : Option Act) →
    IsLeftBy content (acted (Directs name (c ∷ more) (own_settlement n)) (fallen act n))
direct_left n f h name file tid clock c more left a b v mid made new has up is d comes content told act = record {
  catalog = made.catalog;
  tells = tells_made n f h name file tid clock c more left a b v mid made new has up is d comes content told;
  sound = sound_made n f h name file tid clock c more left a b v mid made new has up is d comes content told;
  leaves = λ whole. down content made.catalog (acted (Directs name (c ∷ more) (own_settlement n)) n) (acted (Directs name (c ∷ more) (own_settlement n)) (fallen act n))
      (volume_falls content made.catalog (acted (Directs name (c ∷ more) (own_settlement n)) n) (volume_made n f h name file tid clock c more left a b v mid made new has up is d comes content told)) refl refl refl;
}

-- what the volume tells that is made
abbrev front_made : (tid : Tid) → (moment : ℕ) → (left : List (Option OpenUnit)) → Catalog → List (List ℕ) → List (List ℕ)
front_made tid moment left k c =
    settling.with_front (settling.settled_home tid (record { 0 = tid.0 }) ending.Commit moment k.home) (settling.from_earliest left (settling.span_with None k.ru)) (settling.content_with None k.ru c)

pub direct_told : (n : Node) (f : ℕ) (h : FileHead) (name : List ℕ) (file : File) (tid : Tid) (clock : ℕ) (cs : List Change) (left : List (Option OpenUnit)) (a b : List (List ℕ)) (v mid made : VolumeState) (new : FileHead) →
    DirectsFile n f h name file tid clock cs left a b v mid made new → (content : List (List ℕ)) × (made.store.current ≡ Some content)
direct_told n f h name file tid clock cs left a b v mid made new d =
    let moment = settling.next_moment clock v.catalog.home in
    (front_made tid moment left d.closed.catalog d.images, d.makes.current ∙ ap (option_map (front_made tid moment left d.closed.catalog)) d.told)
