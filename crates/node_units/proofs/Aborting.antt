-- A unit is aborted, as its branch is in the world.
use Rattle.std.proofs.Common.{◌≡◌, ℕ, ◌+◌, ◌≤◌, List, [], ◌∷◌, Bool, true, false, Option, Some, None, if◌then◌else◌, length, refl, sym, ◌∙◌, ap, subst, arith, inl, inr}
use Rattle.std.specs.Option.{IfSome, option_map}
use Rattle.std.proofs.lemmas.Bool.{both_ways, false_from_ne_true}
use Rattle.vms_model.specs.Ids.{Id, IsId}
use Rattle.vms_model.specs.Transactions as model
use Rattle.vms_base.specs.Ids.{serial_of, tid_of}
use Rattle.vms_base.specs.Outcomes.{reason_of}
use Rattle.vms_base.specs.declared.ids.Serial.{Serial}
use Rattle.vms_base.specs.declared.ids.Tid.{Tid}
use Rattle.vms_base.specs.declared.outcomes.Reason.{Reason}
use Rattle.volume.specs.declared.catalog.Catalog.{Catalog}
use Rattle.volume.specs.Catalogs.{IsSound}
use Rattle.volume.specs.State.{VolumeState}
use Rattle.volume_format.specs.declared.home.Ending.TheVariants as ending
use Rattle.volume_format.specs.declared.home.Home.{Home}
use Rattle.volume_format.specs.Head.{IsHead}
use Rattle.file_base.specs.declared.head.FileHead.{FileHead}
use Rattle.rms_units.specs.file_settlements.Settling.{EntersSettled, content_settled}
use Rattle.undo_laws.specs.image_groups.Groups.{HaveRoom}
use Rattle.unit_laws.specs.JournalLaws.{is_unit}
use Rattle.unit_table.specs.Units.{OpenUnit}
use Rattle.rms_units.specs.unit_aborts.Aborting.{Abortion, Aborts, BreaksOff, MakesAbort, abort_entry, has_changes}
use Rattle.undo_laws.specs.unit_undo.Undoing.{GoesOn, journals_at}
use Rattle.undo_laws.specs.unit_undo.Way.{FailsOnTheWay, IsUndone, Undoes}
use Rattle.rms_units.specs.unit_journal.Entries.{settled_entry}
use Rattle.rms_units.specs.unit_journal.Settling.{MakesSettlement, entry_if, next_moment as moment_next}
use Rattle.commit_protocol.specs.Allowed.{is_prepared}
use Rattle.commit_protocol.specs.Effects.{SettleEffect}
use Rattle.commit_protocol.specs.Messages as message
use Rattle.commit_protocol.specs.Messages.{LogRecord}
use Rattle.commit_protocol.specs.Table as table
use Rattle.commit_protocol.specs.Table.{Branch, Key, Settles, branch_serials, record_serials}
use Rattle.commit_protocol.specs.World.{In}
use Rattle.commit_protocol.proofs.Lists.{find-key}
use Rattle.commit_protocol.proofs.Serials.{parts_apart}
use Rattle.log_laws.specs.Slots.{Slots, forgotten, has_slot, records_in}
use Rattle.lmcp_log.proofs.Apart.{same_ids}
use Rattle.lmcp_log.proofs.SlotLemmas.{none_forgotten}
use Rattle.recovery_units.specs.run_model.World.{IsPreparedUnit, Node, Settlement, Tables, acted, next_moment, settlement}
use Rattle.recovery_units.proofs.world_laws.LogLemmas.{prepared_branch, told_log}
use Rattle.recovery_units.proofs.world_laws.TableLemmas.{found_in, in_serials, one_branch}
use Rattle.recovery_units.proofs.world_laws.UpLemmas.{differ}
use Rattle.unit_world.specs.directory_model.Files.{head_at}
use Rattle.undo_laws.specs.settlement_laws.Settled.{Makes}
use Rattle.undo_laws.specs.Aborted.{IsAborted, MayAbort, PutsOutcome}
use Rattle.undo_laws.specs.Undoable.{entries_for, entered_at, positions_for}
use Rattle.undo_laws.specs.Undone.{IsAbort, WaysKeepPrepared}
use Rattle.undo_laws.proofs.AbortLemmas.{aborts_fail, aborts_settle}
use Rattle.undo_laws.proofs.SettledLemmas.{fell_of}
use Rattle.undo_laws.proofs.UndoableLemmas.{units_are_undoable}
use Rattle.undo_laws.proofs.WayLemmas.{names_kept, ways_keep_others}
use Rattle.recovery_units.specs.volume_model.Homes as homes
use Rattle.recovery_units.specs.volume_model.Laws.{KeepsNames}
use Rattle.recovery_units.specs.volume_model.Volumes.{HasVolume, LeavesVolume}
use Rattle.rms_units.specs.Aborting.{AbortsNot, AbortsUnit, abortion_of}
use Rattle.rms_units.specs.Calls.{is_some_change}
use Rattle.rms_units.specs.State as rms
use Rattle.recovery_units.specs.Calls.{Broken, MayDo, SettlesErr, SettlesOk, SettlesTo}
use Rattle.recovery_units.specs.State.{IsKept, UnitsState, committed, positions_of}
use Rattle.recovery_units.specs.declared.settled.SettledUnit.{SettledUnit}
use Rattle.node_units.specs.Seen.{seen}
use Rattle.node_units.proofs.Acting.{settling}
use Rattle.node_units.proofs.Alike.{positions_alike}
use Rattle.node_units.proofs.Committing.{MaySettle, moment_bound, moment_later, moment_same, settled_content}
use Rattle.node_units.proofs.Imaging.{files_telling, imaged_catalog, imaged_current, imaged_home, imaged_ru, names_imaged, room_for, told_by, told_heads}
use Rattle.node_units.proofs.Making.{Closes, Owns, changed, is_unit_of, left_seen, of_branch, makes_it, settles, tid_is}
use Rattle.node_units.proofs.Settling.{kept_settled}

none_changed : (ps : List ℕ) → is_some_change ps ≡ false → ps ≡ []
none_changed [] none = refl
none_changed (p ∷ ps) none = let never : ⊥ = cc in absurd never

tests_alike : (ps : List ℕ) → has_changes ps ≡ is_some_change ps
tests_alike [] = refl
tests_alike (p ∷ ps) = refl

-- A branch that is not prepared has nothing in the log.

record HasRecord (x : Id) (ss : Slots) : Type 0 where
  it : LogRecord
  there : In it (records_in ss)
  own : it.serial ≡ x

record_there : (x : Id) (ss : Slots) → has_slot x ss ≡ true → HasRecord x ss
record_there x [] is = let never : ⊥ = cc in absurd never
record_there x (None ∷ ss) is = let r = record_there x ss is in record { it = r.it; there = r.there; own = r.own }
record_there x (Some q ∷ ss) is = go (message.same_id q.serial x) refl is (record_there x ss)
  where
    go : (t : Bool) → message.same_id q.serial x ≡ t → (if t then true else has_slot x ss) ≡ true → (has_slot x ss ≡ true → HasRecord x ss) → HasRecord x (Some q ∷ ss)
    go true same is rest = record { it = q; there = inl refl; own = same_ids q.serial x same }
    go false other is rest = let r = rest is in record { it = r.it; there = inr r.there; own = r.own }

in_serial : (r : LogRecord) (rs : List LogRecord) → In r rs → In r.serial (record_serials rs)
in_serial r [] i = i
in_serial r (q ∷ rs) i = elim i [ inl e ↦ inl (ap (λ (y : LogRecord). y.serial) e) | inr more ↦ inr (in_serial r rs more) ]

module _ (place : ℕ) (u : OpenUnit) (s : rms.UnitsState) (log : Slots) (v : VolumeState) (n : Node) (k : Key) (o : Owns place u s log v n k) (unprepared : is_prepared o.branch.state ≡ false) where
  own_key : o.branch.key ≡ k
  own_key = find-key k n.volatile.branches o.branch o.found

  own_in : In o.branch n.volatile.branches
  own_in = found_in k n.volatile.branches o.branch o.found

  no_slot : has_slot k.serial n.durable.log ≡ false
  no_slot = false_from_ne_true (has_slot k.serial n.durable.log) (λ is.
      let r = record_there k.serial n.durable.log is in
      elim (o.up.table.log.from r.it r.there) [
        | inl p ↦
            let b = prepared_branch n.volatile.branches r.it p in
            let serial : b.branch.key.serial ≡ o.branch.key.serial = sym (ap (λ (q : LogRecord). q.serial) b.is) ∙ r.own ∙ ap (λ (y : Key). y.serial) (sym own_key) in
            let same : b.branch ≡ o.branch = one_branch n.volatile.branches b.branch o.branch (differ n o.up.table) b.there own_in serial in
            both_ways (is_prepared o.branch.state) unprepared (ap (λ (y : Branch). is_prepared y.state) (sym same) ∙ ap is_prepared b.state)
        | inr c ↦
            let among : In k.serial (record_serials n.volatile.records) = subst (λ (y : Id). In y (record_serials n.volatile.records)) r.own (in_serial r.it n.volatile.records c) in
            let mine : In k.serial (branch_serials n.volatile.branches) = subst (λ (y : Key). In y.serial (branch_serials n.volatile.branches)) own_key (in_serials o.branch n.volatile.branches own_in) in
            (parts_apart (branch_serials n.volatile.branches) (record_serials n.volatile.records) o.up.table.apart).apart k.serial mine among
      ])

  pub log_stays : forgotten k.serial log ≡ log
  log_stays = subst (λ (ss : Slots). forgotten k.serial ss ≡ ss) o.kept.log (none_forgotten k.serial n.durable.log no_slot).0

  -- nor is it prepared in the journal
  pub no_prepared : IsPreparedUnit n.durable.units k.serial → ⊥
  no_prepared p =
      let b = o.up.table.branches k.serial p.0 p.1 in
      let same : b.branch ≡ o.branch = one_branch n.volatile.branches b.branch o.branch (differ n o.up.table) b.there own_in (b.serial ∙ ap (λ (y : Key). y.serial) (sym own_key)) in
      both_ways (is_prepared o.branch.state) unprepared (ap (λ (y : Branch). is_prepared y.state) (sym same) ∙ b.prepared ∙ p.2)

-- The abort of a branch, whether it is prepared or not.
module _ (place : ℕ) (u : OpenUnit) (s : rms.UnitsState) (log : Slots) (v : VolumeState) (n : Node) (k : Key) (reason : Reason) (moment : ℕ) (x : Closes place u s log v n k model.Abort (reason_of reason) None moment) (order : rms.IsInOrder s v) where
  abbrev a : List (List ℕ)
  a = x.owns.kept.content

  abbrev act : table.Act
  act = Settles k model.Abort (reason_of reason) None

  abbrev m : Node
  m = acted (Tables act moment) n

  abbrev c : Settlement
  c = settlement k model.Abort (reason_of reason) moment

  abbrev pub fell : LeavesVolume a v.catalog n
  fell = fell_of a v.catalog n x.owns.kept.has

  pub positions : positions_for n k.serial v.catalog x.owns.kept.has.journal.entries ≡ u.positions
  positions = go (is_unit k.serial n.durable.units) (changed place u s log v n k x.owns)
    where
      go : (b : Bool) → is_some_change u.positions ≡ b → (if b then entered_at k.serial v.catalog x.owns.kept.has.journal.entries else []) ≡ u.positions
      go true is =
          positions_alike v.catalog.heads k.serial v.catalog.ru.first n.durable.units.entries x.owns.kept.has.journal.entries x.owns.kept.has.journal.alike x.owns.kept.has.journal.is.each
          ∙ ap (λ (p : ℕ). positions_of k.serial p n.durable.units.entries) x.owns.kept.has.journal.first
          ∙ ap (λ (y : Id). positions_of y n.durable.units.first n.durable.units.entries) (sym x.owns.own)
          ∙ sym (is_unit_of place u s log v n k x.owns).positions
      go false is = sym (none_changed u.positions is)

  pub is_abort : IsAbort n act moment c
  is_abort = record { settles = refl; abort = refl; may = settles place u s log v n k model.Abort (reason_of reason) None moment x; told = told_log m x.after.table x.after.slots }

  pub sound_now : IsSound n.name n.blocks v.catalog
  sound_now = subst (λ (y : List ℕ). IsSound y n.blocks v.catalog) (sym x.owns.kept.name) (subst (λ (y : ℕ). IsSound v.catalog.home.node y v.catalog) (sym x.owns.kept.blocks) order.sound)

  module _ (mid : VolumeState) (goes : GoesOn v mid) (undoes : Undoes u.positions v mid) where
    pub undoes_for : Undoes (positions_for n k.serial v.catalog x.owns.kept.has.journal.entries) v mid
    undoes_for = subst (λ (ps : List ℕ). Undoes ps v mid) (sym positions) undoes

    pub undone : IsUndone k.serial a v.catalog.heads n.durable.directory mid
    undone = undoes_for k.serial a n.durable.directory (entries_for n k.serial v.catalog x.owns.kept.has.journal.entries) (units_are_undoable a v n k.serial fell x.owns.kept.told order.holds)

    pub names_mid : KeepsNames v.catalog.heads mid.catalog.heads
    names_mid = names_kept a undone.way.now v.catalog.heads mid.catalog.heads n.durable.directory undone.way.grouped

    pub as_told : (tid : Tid) (serial : Serial) → tid_of tid ≡ u.tid → serial_of serial ≡ u.serial → c ≡ homes.settlement_of moment (record { tid = tid; serial = serial; ending = ending.Abort reason })
    as_told tid serial tid_same serial_same =
        let one = sym (tid_is place u s log v n k x.owns) ∙ sym tid_same in
        let two = sym x.owns.own ∙ sym serial_same in
        λ i. record { tid = one i; serial = two i; outcome = model.Abort; reason = Some (reason_of reason); moment = moment }

    -- a settlement that is made of a volume with this home and journal
    pub made_so : (t : rms.UnitsState) (tid : Tid) (serial : Serial) → tid_of tid ≡ u.tid → serial_of serial ≡ u.serial → (old made : VolumeState) →
        MakesSettlement tid serial (ending.Abort reason) moment (entry_if (has_changes u.positions) (settled_entry (tid_of tid) (serial_of serial) model.Abort moment)) t.units.places old made →
        MakesSettlement tid serial (ending.Abort reason) moment (entry_if (is_some_change u.positions) (settled_entry u.tid u.serial model.Abort moment)) t.units.places old made
    made_so t tid serial tid_same serial_same old made makes =
        subst (λ e. MakesSettlement tid serial (ending.Abort reason) moment e t.units.places old made) (λ i. entry_if (tests_alike u.positions i) (settled_entry (tid_same i) (serial_same i) model.Abort moment)) makes

    -- the entry of the settlement, as the world has it
    pub enters_so : (tid : Tid) (serial : Serial) → tid_of tid ≡ u.tid → serial_of serial ≡ u.serial → (old img : VolumeState) →
        EntersSettled u.files (entry_if (has_changes u.positions) (settled_entry (tid_of tid) (serial_of serial) model.Abort moment)) old img → EntersSettled u.files (entry_if (is_unit k.serial n.durable.units) (settled_entry c.tid c.serial c.outcome c.moment)) old img
    enters_so tid serial tid_same serial_same old img enters =
        let units = tests_alike u.positions ∙ changed place u s log v n k x.owns in
        let tids = tid_same ∙ tid_is place u s log v n k x.owns in
        let serials = serial_same ∙ x.owns.own in
        subst (λ e. EntersSettled u.files e old img) (λ i. entry_if (units i) (settled_entry (tids i) (serials i) model.Abort moment)) enters

    -- the journals of images have room for it, in heads that have the journals that they had
    pub room_mid : (heads : List (Option FileHead)) → heads ≡ mid.catalog.heads → ((f : ℕ) (h : FileHead) → head_at heads f ≡ Some h → IsHead h) → rms.IsEarly v → IsId u.tid × IsId u.serial → moment ≤ 24000001000066 →
        HaveRoom c (files_telling (is_unit k.serial n.durable.units) u.files) heads
    room_mid heads same are early ids bound = room_for place u s log v n k x.owns heads (record { journals = λ f. ap (λ (hs : List (Option FileHead)). journals_at hs f) same ∙ goes.journals f; told = are }) order early c
        (subst IsId (tid_is place u s log v n k x.owns) ids.0) (subst IsId x.owns.own ids.1) (omega (arith, bound))

-- The abort of a branch that is not prepared.
module _ (place : ℕ) (u : OpenUnit) (s t : rms.UnitsState) (log : Slots) (v : VolumeState) (n : Node) (k : Key) (reason : Reason) (moment : ℕ) (x : Closes place u s log v n k model.Abort (reason_of reason) None moment) (order : rms.IsInOrder s v)
    (unprepared : is_prepared x.owns.branch.state ≡ false) (early : rms.IsEarly v) (ids : IsId u.tid × IsId u.serial) (bound : moment ≤ 24000001000066) (spent : t ≡ rms.without_place place u.serial s) where
  abbrev now : List (List ℕ)
  now = x.owns.kept.content

  abbrev does : table.Act
  does = Settles k model.Abort (reason_of reason) None

  abbrev st : Settlement
  st = settlement k model.Abort (reason_of reason) moment

  pub ways : WaysKeepPrepared k.serial now v.catalog n
  ways = ways_keep_others k.serial now v.catalog n (fell place u s log v n k reason moment x order) (no_prepared place u s log v n k x.owns unprepared)

  pub may : length now + 518 ≡ v.store.disk.size → MayAbort n does moment st now v
  may size = record {
    told = x.owns.kept.told;
    holds = order.holds;
    sound = sound_now place u s log v n k reason moment x order;
    long = order.heads;
    size = size ∙ sym x.owns.kept.blocks;
    disk = sym x.owns.kept.blocks;
    is = is_abort place u s log v n k reason moment x order;
    log = subst (λ (ss : Slots). forgotten k.serial ss ≡ ss) (sym x.owns.kept.log) (log_stays place u s log v n k x.owns unprepared);
  }

  module _ (mid : VolumeState) (goes : GoesOn v mid) (undoes : Undoes u.positions v mid) (tid : Tid) (serial : Serial) (tid_same : tid_of tid ≡ u.tid) (serial_same : serial_of serial ≡ u.serial) (made : VolumeState)
      (makes : MakesAbort (abortion_of u tid serial reason moment t) mid made) where
    un : IsUndone k.serial now v.catalog.heads n.durable.directory mid
    un = undone place u s log v n k reason moment x order mid goes undoes

    size_is : length now + 518 ≡ v.store.disk.size
    size_is = un.way.size ∙ goes.quiet.size

    abbrev img : VolumeState
    img = makes.mid

    enters : EntersSettled u.files (entry_if (is_unit k.serial n.durable.units) (settled_entry st.tid st.serial st.outcome st.moment)) mid img
    enters = enters_so place u s log v n k reason moment x order mid goes undoes tid serial tid_same serial_same mid img makes.entered

    heads_mid : length mid.catalog.heads ≡ 64
    heads_mid = goes.long ∙ order.heads

    puts : PutsOutcome n st mid img
    puts = record {
      files = files_telling (is_unit k.serial n.durable.units) u.files;
      by = told_by place u s log v n k x.owns st refl;
      room = room_mid place u s log v n k reason moment x order mid goes undoes mid.catalog.heads refl (told_heads mid.catalog un.way.now un.way.tells heads_mid) early ids bound;
      current = imaged_current (is_unit k.serial n.durable.units) u.files st mid img enters;
      catalog = imaged_catalog (is_unit k.serial n.durable.units) u.files st mid img enters;
    }

    home_img : img.catalog.home ≡ v.catalog.home
    home_img = imaged_home (is_unit k.serial n.durable.units) u.files st mid img enters ∙ ap (λ (y : Catalog). y.home) goes.catalog

    is_made : Makes n st tid serial (ending.Abort reason) t.units.places img made
    is_made = makes_it place u s log v n k model.Abort (reason_of reason) None moment x t spent img made tid serial (ending.Abort reason) order early ids bound home_img
        (imaged_ru (is_unit k.serial n.durable.units) u.files st mid img enters ∙ ap (λ (y : Catalog). y.ru) goes.catalog)
        (as_told place u s log v n k reason moment x order mid goes undoes tid serial tid_same serial_same) (made_so place u s log v n k reason moment x order mid goes undoes t tid serial tid_same serial_same img made makes.settles)

    pub is_aborted : IsAborted n st tid serial (ending.Abort reason) t.units.places (positions_for n k.serial v.catalog x.owns.kept.has.journal.entries) v mid img made
    is_aborted = record { goes = goes; undoes = undoes_for place u s log v n k reason moment x order mid goes undoes; tells = puts; makes = is_made }

    pub volume : (b : List (List ℕ)) → made.store.current ≡ Some b → HasVolume b made.catalog (acted (Tables does moment) n)
    volume b told = aborts_settle.has now b n does moment st tid serial (ending.Abort reason) t.units.places v mid img made x.owns.kept.has (may size_is) is_aborted told

    names : KeepsNames v.catalog.heads made.catalog.heads
    names f h is =
        let y = names_mid place u s log v n k reason moment x order mid goes undoes f h is in
        let z = names_imaged (is_unit k.serial n.durable.units) u.files st mid img enters f y.0 y.1 in
        (z.0, ap (λ (z : Catalog). head_at z.heads f) makes.settles.catalog ∙ z.1, z.2 ∙ y.2)

    seen_then : seen t log ≡ committed k.serial None (seen s log)
    seen_then =
        let units = left_seen place u s log v n k model.Abort (reason_of reason) None moment x t spent in
        let entries = sym (log_stays place u s log v n k x.owns unprepared) in
        λ i. record (units i) { log = entries i }

    pub kept_made : (b : List (List ℕ)) → made.store.current ≡ Some b → made.store.disk.size ≡ v.store.disk.size → IsKept (seen t log) made (acted (Tables does moment) n)
    kept_made b told size = subst (λ (y : UnitsState). IsKept y made (acted (Tables does moment) n)) (sym seen_then)
        (kept_settled (seen s log) v n k model.Abort (reason_of reason) None moment x.owns.branch x.owns.kept x.owns.up x.owns.found x.later x.after made b told
        (ap (λ (y : Catalog). y.home.node) makes.settles.catalog ∙ ap (λ (y : Home). y.node) home_img) size names (volume b told))

-- the content of a volume that an abort is made of
pub abort_content : (y : Abortion) (old made : VolumeState) (c : List (List ℕ)) → MakesAbort y old made → old.store.current ≡ Some c → (b : List (List ℕ)) × (made.store.current ≡ Some b)
abort_content y old made c makes told = settled_content y.tid y.serial (ending.Abort y.reason) y.moment (abort_entry y) y.left makes.mid made (content_settled (abort_entry y) y.files old.catalog.heads c) makes.settles
    (makes.entered.current ∙ ap (option_map (content_settled (abort_entry y) y.files old.catalog.heads)) told)

-- The call.
module _ (place : ℕ) (u : OpenUnit) (s t : rms.UnitsState) (log : Slots) (v w : VolumeState) (clock : ℕ) (may_be : MaySettle place u s log v None clock) (reason : Reason) (active : u.prepared ≡ false) where
  closes : (n : Node) (k : Key) (kept : IsKept (seen s log) v n) → MayDo n (Settles k model.Abort (reason_of reason) None) (SettleEffect u.serial model.Abort (reason_of reason) None) → k.serial ≡ u.serial → n.clock ≡ clock →
      Closes place u s log v n k model.Abort (reason_of reason) None (next_moment n)
  closes n k kept does own same = record {
    owns = record { there = may_be.there; at = may_be.at; kept = kept; up = does.up; branch = does.stands.0.0; found = does.stands.0.1; own = sym own };
    after = does.after;
    later = moment_later place u s log v None clock may_be n kept same;
  }

  unprepared : (n : Node) (k : Key) (o : Owns place u s log v n k) → is_prepared o.branch.state ≡ false
  unprepared n k o = (of_branch place u s log v n k o).prepared ∙ active

  module _ (told : SettledUnit) (done : AbortsUnit place u told.tid told.serial reason clock told.moment.0 s v t w) (size : w.store.disk.size ≡ v.store.disk.size) where
    closed : (n : Node) (k : Key) → IsKept (seen s log) v n → MayDo n (Settles k model.Abort (reason_of reason) None) (SettleEffect u.serial model.Abort (reason_of reason) None) → k.serial ≡ u.serial → n.clock ≡ clock →
        SettlesTo model.Abort (reason_of reason) told (seen t log) w n (Settles k model.Abort (reason_of reason) None)
    closed n k kept does own same =
        let x = closes n k kept does own same in
        let plain = unprepared n k x.owns in
        let at : told.moment.0 ≡ next_moment n = done.moment ∙ moment_same place u s log v None clock may_be n kept same in
        let did = subst (λ (y : ℕ). Aborts (abortion_of u told.tid told.serial reason y t) v w) at done.aborts in
        let bound = subst (λ (y : ℕ). y ≤ 24000001000066) (moment_same place u s log v None clock may_be n kept same) (moment_bound place u s log v None clock may_be) in
        let order = may_be.has.order in
        let un = undone place u s log v n k reason (next_moment n) x order did.mid did.goes did.undoes in
        let b = abort_content (abortion_of u told.tid told.serial reason (next_moment n) t) did.mid w un.way.now did.makes un.way.told in
        record {
          settled = (
              let one = sym (tid_is place u s log v n k x.owns) ∙ sym done.tid in
              let two = sym x.owns.own ∙ sym done.serial in
              λ i. Some (record { tid = one i; serial = two i; outcome = model.Abort; reason = Some (reason_of reason); moment = sym at i }));
          done = kept_made place u s t log v n k reason (next_moment n) x order plain may_be.early may_be.ids bound done.spent did.mid did.goes did.undoes told.tid told.serial done.tid done.serial w did.makes b.0 b.1 size;
        }

    pub aborts_ok : SettlesOk u.serial model.Abort (reason_of reason) None clock told (seen s log) v (seen t log) w
    aborts_ok n a kept does same =
        let sg = settling a n.volatile.records u.serial model.Abort (reason_of reason) None does.gives in
        subst (λ (y : table.Act). MayDo n y (SettleEffect u.serial model.Abort (reason_of reason) None) → SettlesTo model.Abort (reason_of reason) told (seen t log) w n y) (sym sg.is) (λ d. closed n sg.key kept d sg.serial same) does

  -- The disk went down in it. The content is as large as the disk says.
  module _ (done : AbortsNot place u reason clock s v t w) (sized : IfSome v.store.current (λ c. length c + 518 ≡ v.store.disk.size)) where
    pub aborts_not : SettlesErr u.serial model.Abort (reason_of reason) None clock (seen s log) v w
    unfolding closes
    aborts_not n a kept does same =
        let sg = settling a n.volatile.records u.serial model.Abort (reason_of reason) None does.gives in
        subst (λ (y : table.Act). MayDo n y (SettleEffect u.serial model.Abort (reason_of reason) None) → Broken w n y) (sym sg.is) (λ d. cut sg.key d sg.serial) does
      where
        cut : (k : Key) → MayDo n (Settles k model.Abort (reason_of reason) None) (SettleEffect u.serial model.Abort (reason_of reason) None) → k.serial ≡ u.serial → Broken w n (Settles k model.Abort (reason_of reason) None)
        cut k does own =
            let x = closes n k kept does own same in
            let plain = unprepared n k x.owns in
            let at : moment_next clock v.catalog.home ≡ next_moment n = moment_same place u s log v None clock may_be n kept same in
            let bound = subst (λ (y : ℕ). y ≤ 24000001000066) at (moment_bound place u s log v None clock may_be) in
            let order = may_be.has.order in
            let act = Settles k model.Abort (reason_of reason) None in
            let st = settlement k model.Abort (reason_of reason) (next_moment n) in
            let whole = fell place u s log v n k reason (next_moment n) x order in
            let places = positions place u s log v n k reason (next_moment n) x order in
            let keeps = ways place u s t log v n k reason (next_moment n) x order plain may_be.early may_be.ids bound done.spent in
            let may = may place u s t log v n k reason (next_moment n) x order plain may_be.early may_be.ids bound done.spent (subst (λ y. IfSome y (λ z. length z + 518 ≡ v.store.disk.size)) kept.told sized) in
            let breaks = subst (λ (y : ℕ). BreaksOff (abortion_of u done.tid done.serial reason y t) v w) at done.breaks in
            elim breaks [
              | inl fails ↦ aborts_fail.undo kept.content n act (next_moment n) st (Some (Tables act (next_moment n))) v w whole keeps may (subst (λ (ps : List ℕ). FailsOnTheWay ps v w) (sym places) fails)
              | inr last ↦ elim last.breaks [
                | inl old ↦ aborts_fail.before kept.content n act (next_moment n) st (Some (Tables act (next_moment n))) v last.mid w whole keeps may last.goes (subst (λ (ps : List ℕ). Undoes ps v last.mid) (sym places) last.undoes) old
                | inr either ↦ aborts_fail.last kept.content n act (next_moment n) st done.tid done.serial (ending.Abort reason) t.units.places v last.mid either.is.mid either.made w whole keeps may
                    (is_aborted place u s t log v n k reason (next_moment n) x order plain may_be.early may_be.ids bound done.spent last.mid last.goes last.undoes done.tid done.serial done.same_tid done.same_serial either.made either.is) either.either
              ]
            ]
