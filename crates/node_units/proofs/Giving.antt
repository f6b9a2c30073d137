-- A prepared unit is aborted, as its branch is in the world: its record goes from the log in the group of its settlement.
use Rattle.std.proofs.Common.{◌≡◌, ℕ, ◌+◌, ◌^◌, ◌<◌, ◌≤◌, List, Option, Some, None, length, refl, sym, ◌∙◌, ap, subst, arith, inl, inr}
use Rattle.std.specs.Option.{IfSome}
use Rattle.careful_write.specs.State.{Leaves, content}
use Rattle.file_base.specs.declared.head.FileHead.{FileHead}
use Rattle.file_base.specs.declared.head.Span.{Span}
use Rattle.vms_model.specs.Ids.{Id}
use Rattle.vms_model.specs.Transactions as model
use Rattle.vms_base.specs.Ids.{serial_of, tid_of}
use Rattle.vms_base.specs.Outcomes.{reason_of}
use Rattle.vms_base.specs.declared.ids.Serial.{Serial}
use Rattle.vms_base.specs.declared.ids.Tid.{Tid}
use Rattle.vms_base.specs.declared.outcomes.Reason.{Reason}
use Rattle.journal_model.specs.Entries.{Entry}
use Rattle.volume.specs.declared.catalog.Catalog.{Catalog}
use Rattle.volume.specs.Catalogs.{IsSound, TellsCatalog}
use Rattle.volume.specs.State.{VolumeState}
use Rattle.volume_format.specs.declared.home.Ending.TheVariants as ending
use Rattle.volume_format.specs.declared.home.Home.{Home}
use Rattle.volume_format.specs.Head.{IsHead}
use Rattle.volume_format.specs.Home.{sizes_of}
use Rattle.volume.specs.Limits.{data_area}
use Rattle.rms_units.specs.file_settlements.Settling.{EntersSettled}
use Rattle.unit_laws.specs.JournalLaws.{is_unit}
use Rattle.rms_units.specs.unit_journal.Entries.{settled_entry}
use Rattle.unit_table.specs.Units.{OpenUnit}
use Rattle.rms_units.specs.unit_aborts.Aborting.{Abortion}
use Rattle.undo_laws.specs.unit_undo.Undoing.{GoesOn}
use Rattle.undo_laws.specs.unit_undo.Way.{FailsOnTheWay, IsOnTheWay, IsUndone, KeepsJournal, Undoes}
use Rattle.undo_laws.proofs.unit_undo.StepLemmas.{same_way}
use Rattle.rms_units.specs.unit_journal.Groups.{Breaks}
use Rattle.rms_units.specs.unit_journal.Settling.{entry_if, next_moment as moment_next}
use Rattle.rms_units.specs.unit_votes.Voting.{AbortsLogged, BreaksOffLogged, MakesLogged, abort_settlement}
use Rattle.commit_protocol.specs.Effects.{SettleEffect}
use Rattle.commit_protocol.specs.Table as table
use Rattle.commit_protocol.specs.Table.{Key, Settles}
use Rattle.log_laws.specs.Slots.{Slots, forgotten}
use Rattle.lmcp_log.specs.Keeping.{IsWhole, Keeps, SameSlots}
use Rattle.lmcp_log.proofs.Keepings.{keeps_beside}
use Rattle.lmcp_log.proofs.Whole.{beside_whole}
use Rattle.recovery_units.specs.run_model.World.{Act, Node, Settlement, Tables, acted, fallen, next_moment, settlement}
use Rattle.unit_world.specs.directory_model.Files.{Fit, head_at}
use Rattle.undo_laws.specs.settlement_laws.Settled.{IsSettled, Makes}
use Rattle.undo_laws.proofs.settlement_laws.MadeLemmas.{settlements_are_made}
use Rattle.undo_laws.specs.Undoable.{entries_for}
use Rattle.undo_laws.specs.Undone.{AgreeOnFiles, IsTold, IsToldIn}
use Rattle.undo_laws.proofs.ToldLemmas.{journal_beside}
use Rattle.undo_laws.proofs.HalfLemmas.{aborts_leave}
use Rattle.undo_laws.proofs.SettledLemmas.{undone_settle}
use Rattle.undo_laws.proofs.UndoableLemmas.{units_are_undoable}
use Rattle.undo_laws.proofs.WayLemmas.{far_off, log_kept, undos_keep_journal}
use Rattle.unit_world.proofs.volume_laws.WholeLemmas.{volume_falls}
use Rattle.recovery_units.specs.volume_model.Homes.{HasHome}
use Rattle.recovery_units.specs.volume_model.Laws.{KeepsNames}
use Rattle.recovery_units.specs.volume_model.Volumes.{HasDisk, HasJournal, HasLog, HasVolume, IsEitherOf, IsLeftBy, LeavesVolume}
use Rattle.rms_units.specs.Aborting.{abortion_of}
use Rattle.rms_units.specs.State as rms
use Rattle.rms_units.specs.Voting.{AbortsPrepared, AbortsPreparedNot}
use Rattle.recovery_units.specs.Calls.{Broken, MayDo, SettlesErr, SettlesOk, SettlesTo}
use Rattle.recovery_units.specs.State.{IsKept, UnitsState, committed}
use Rattle.recovery_units.specs.declared.settled.SettledUnit.{SettledUnit}
use Rattle.unit_world.proofs.Leaving.{down}
use Rattle.node_units.specs.Seen.{seen}
use Rattle.node_units.proofs.Aborting.{as_told, enters_so, fell, is_abort, made_so, names_mid, positions, room_mid, sound_now, undone}
use Rattle.node_units.proofs.Imaging.{fits, imaged, imaged_home, imaged_ru, imaged_told, told_by, told_heads, told_in}
use Rattle.node_units.proofs.Acting.{settling}
use Rattle.node_units.proofs.Committing.{MaySettle, content_long, keeps_now, made_told, moment_bound, moment_later, moment_same, whole_now}
use Rattle.node_units.proofs.Falling.{disk_sound, same_some}
use Rattle.node_units.proofs.Logging.{IsRelogged, catalog_set, files_relogged, relogged, ring_relogged, slots_set, tells_relogged}
use Rattle.node_units.proofs.Making.{Closes, left_seen, makes_it, tid_is}
use Rattle.node_units.proofs.Settling.{kept_settled}

-- What a prepared branch changed is set back in a volume, and what is staged of that is in one group with its settlement, which frees its slot in the log.
pub record IsGivenUp (x : Abortion) (ss ts : Slots) (v made : VolumeState) : Type 0 where
  pub mid : VolumeState
  pub goes : GoesOn v mid
  pub undoes : Undoes x.positions v mid
  pub makes : MakesLogged (abort_settlement x) None ss ts mid made

module _ (place : ℕ) (u : OpenUnit) (s t : rms.UnitsState) (log ts : Slots) (v : VolumeState) (n : Node) (k : Key) (reason : Reason) (moment : ℕ) (x : Closes place u s log v n k model.Abort (reason_of reason) None moment) (clock : ℕ) (is : MaySettle place u s log v None clock)
    (bound : moment ≤ 24000001000066) (spent : t ≡ rms.without_place place u.serial s) (tid : Tid) (serial : Serial) (tid_same : tid_of tid ≡ u.tid) (serial_same : serial_of serial ≡ u.serial) (made : VolumeState) (aborts : IsGivenUp (abortion_of u tid serial reason moment t) log ts v made) where
  abbrev order : rms.IsInOrder s v
  order = is.has.order

  abbrev act : table.Act
  act = Settles k model.Abort (reason_of reason) None

  abbrev m : Node
  m = acted (Tables act moment) n

  abbrev st : Settlement
  st = settlement k model.Abort (reason_of reason) moment

  abbrev a : List (List ℕ)
  a = x.owns.kept.content

  abbrev mid : VolumeState
  mid = aborts.mid

  abbrev old : VolumeState
  old = aborts.makes.logged

  un : IsUndone k.serial a v.catalog.heads n.durable.directory mid
  un = undone place u s log v n k reason moment x order mid aborts.goes aborts.undoes

  abbrev now : List (List ℕ)
  now = un.way.now

  ring : mid.catalog.ru ≡ v.catalog.ru
  ring = ap (λ (y : Catalog). y.ru) aborts.goes.catalog

  keeps_journal : KeepsJournal v.catalog.ru a now
  keeps_journal = subst (λ (r : Span). KeepsJournal r a now) ring un.way.journal

  -- the slots are as they were, once what the unit changed is set back
  slots_stay : SameSlots (length log) a now
  slots_stay i below = log_kept a v.catalog n (fell place u s log v n k reason moment x order) (sound_now place u s log v n k reason moment x order) now keeps_journal i (let same = ap length x.owns.kept.log in omega (arith, below, same))

  relog : (b : List (List ℕ)) × (old.store.current ≡ Some b) × IsRelogged log ts now b
  relog = relogged (serial_of serial) None log ts mid old now aborts.makes.log tt un.way.told (keeps_beside log a now (keeps_now s log ts v None is.has n x.owns.kept) slots_stay) (beside_whole log a now (whole_now s log ts v None is.has n x.owns.kept) slots_stay)
      keeps_journal.whole (let long = content_long s log ts v None is.has n x.owns.kept in let size = keeps_journal.size in omega (arith, long, size))

  same : old.catalog ≡ mid.catalog
  same = catalog_set (serial_of serial) None log ts mid old aborts.makes.log

  before : 584 + length log ≤ mid.catalog.ru.start
  before = subst (λ (r : Span). 584 + length log ≤ r.start) (sym ring) is.has.before

  journal_mid : (j : HasJournal now mid.catalog n) × (j.entries ≡ x.owns.kept.has.journal.entries)
  journal_mid = undos_keep_journal a v.catalog n k.serial mid (fell place u s log v n k reason moment x order) (far_off n.name n.blocks v.catalog (sound_now place u s log v n k reason moment x order)) aborts.goes.catalog un

  journal_old : (j : HasJournal relog.0 mid.catalog n) × (j.entries ≡ journal_mid.0.entries)
  journal_old = journal_beside now relog.0 mid.catalog mid.catalog n (λ f h there. (h, there, refl)) refl (ring_relogged log ts now relog.0 relog.2 mid.catalog before) journal_mid.0

  sound_mid : IsSound n.name n.blocks mid.catalog
  sound_mid = subst (λ (y : List ℕ). IsSound y n.blocks mid.catalog) (sym x.owns.kept.name) (subst (λ (y : ℕ). IsSound v.catalog.home.node y mid.catalog) (sym x.owns.kept.blocks) (aborts.goes.sound v.catalog.home.node order.sound))

  heads_mid : length mid.catalog.heads ≡ 64
  heads_mid = aborts.goes.long ∙ order.heads

  -- its outcome is entered in the journals of images
  abbrev img : VolumeState
  img = aborts.makes.makes.mid

  enters : EntersSettled u.files (entry_if (is_unit k.serial n.durable.units) (settled_entry st.tid st.serial st.outcome st.moment)) old img
  enters = enters_so place u s log v n k reason moment x order mid aborts.goes aborts.undoes tid serial tid_same serial_same old img aborts.makes.makes.entered

  abbrev e : List (List ℕ)
  e = imaged (is_unit k.serial n.durable.units) u.files st old img enters relog.0

  tells_mid : TellsCatalog mid.catalog relog.0
  tells_mid = tells_relogged log ts now relog.0 relog.2 mid.catalog before un.way.tells

  told_at : IsToldIn st n.durable.directory relog.0 e mid.catalog img.catalog
  told_at = subst (λ (y : Catalog). IsToldIn st n.durable.directory relog.0 e y img.catalog) same (told_in (is_unit k.serial n.durable.units) u.files st old img enters n.durable.directory relog.0 (told_by place u s log v n k x.owns st refl)
      (room_mid place u s log v n k reason moment x order mid aborts.goes aborts.undoes old.catalog.heads (ap (λ (y : Catalog). y.heads) same)
      (subst (λ (y : Catalog). (f : ℕ) (h : FileHead) → head_at y.heads f ≡ Some h → IsHead h) (sym same) (told_heads mid.catalog relog.0 tells_mid heads_mid)) is.early is.ids bound)
      (subst (λ (y : Catalog). Fit (data_area (sizes_of y.home)) y.heads) (sym same) (fits n.name n.blocks mid.catalog heads_mid sound_mid)) relog.2.whole)

  beside : AgreeOnFiles mid.catalog now relog.0
  beside f h there = files_relogged log ts now relog.0 relog.2 mid.catalog before n.name n.blocks sound_mid heads_mid f h there

  is_told : IsTold n relog.0 e mid.catalog img.catalog journal_old.0
  is_told = undone_settle.told a relog.0 e v.catalog img.catalog n act moment st mid (fell place u s log v n k reason moment x order) (is_abort place u s log v n k reason moment x order) (sound_now place u s log v n k reason moment x order) aborts.goes.catalog un beside told_at journal_old.0

  home_img : img.catalog.home ≡ v.catalog.home
  home_img = imaged_home (is_unit k.serial n.durable.units) u.files st old img enters ∙ ap (λ (y : Catalog). y.home) (same ∙ aborts.goes.catalog)

  makes_img : Makes n st tid serial (ending.Abort reason) t.units.places img made
  makes_img = makes_it place u s log v n k model.Abort (reason_of reason) None moment x t spent img made tid serial (ending.Abort reason) order is.early is.ids bound home_img
      (imaged_ru (is_unit k.serial n.durable.units) u.files st old img enters ∙ ap (λ (y : Catalog). y.ru) (same ∙ aborts.goes.catalog))
      (as_told place u s log v n k reason moment x order mid aborts.goes aborts.undoes tid serial tid_same serial_same) (made_so place u s log v n k reason moment x order mid aborts.goes aborts.undoes t tid serial tid_same serial_same img made aborts.makes.makes.settles)

  slots : ts ≡ forgotten u.serial log
  slots = slots_set (serial_of serial) None log ts mid old aborts.makes.log ∙ ap (λ (y : Id). forgotten y log) serial_same

  slots_are : ts ≡ m.durable.log
  slots_are = slots ∙ (λ i. forgotten (x.owns.own i) (sym x.owns.kept.log i))

  module _ (b : List (List ℕ)) (told : made.store.current ≡ Some b) where
    settled_img : IsSettled n st is_told.journal.entries e b img.catalog made.catalog × TellsCatalog made.catalog b × IsSound n.name n.blocks made.catalog
    settled_img = settlements_are_made e b n st tid serial (ending.Abort reason) t.units.places img made n.name n.blocks (imaged_told (is_unit k.serial n.durable.units) u.files st old img enters relog.0 relog.1) told
        (is_told.tells tells_mid) (is_told.sound n.name n.blocks sound_mid) is_told.long (subst (λ (y : Home). HasHome y n) (sym home_img) x.owns.kept.has.home) is_told.journal makes_img

    settled : IsSettled n st x.owns.kept.has.journal.entries e b img.catalog made.catalog
    settled = subst (λ (es : List Entry). IsSettled n st es e b img.catalog made.catalog) (is_told.same ∙ journal_old.1 ∙ journal_mid.1) settled_img.0

    same_slots : SameSlots (length ts) relog.0 b
    same_slots i below =
        let long = relog.2.long in
        let logs = ap length x.owns.kept.log in
        settled.log i (omega (arith, below, long, logs)) ∙ is_told.front (66 + i) (omega arith) (omega (arith, below, long, before, ring_some))
      where
        ring_some : 0 < mid.catalog.ru.blocks
        ring_some = journal_mid.0.is.ring.some

    log_then : HasLog b m
    log_then = record {
      keeps = subst (λ (us : Slots). Keeps us b) slots_are (keeps_beside ts relog.0 b relog.2.keeps same_slots);
      whole = subst (λ (us : Slots). IsWhole us b) slots_are (beside_whole ts relog.0 b relog.2.slots same_slots);
    }

    pub volume : HasVolume b made.catalog m
    volume = undone_settle.has a relog.0 e b v.catalog img.catalog made.catalog n act moment st mid x.owns.kept.has (is_abort place u s log v n k reason moment x order) (sound_now place u s log v n k reason moment x order) aborts.goes.catalog un beside told_at settled log_then

    names : KeepsNames v.catalog.heads made.catalog.heads
    names f h there =
        let y = names_mid place u s log v n k reason moment x order mid aborts.goes aborts.undoes f h there in
        let z = is_told.names f y.0 y.1 in
        (z.0, ap (λ (hs : List (Option FileHead)). head_at hs f) settled.heads ∙ z.1, z.2 ∙ y.2)

    seen_then : seen t ts ≡ committed k.serial None (seen s log)
    seen_then =
        let units = left_seen place u s log v n k model.Abort (reason_of reason) None moment x t spent in
        let entries : ts ≡ forgotten k.serial log = slots ∙ ap (λ (y : Id). forgotten y log) x.owns.own in
        λ i. record (units i) { log = entries i }

    pub kept_made : made.store.disk.size ≡ v.store.disk.size → IsKept (seen t ts) made m
    kept_made size = subst (λ (y : UnitsState). IsKept y made m) (sym seen_then)
        (kept_settled (seen s log) v n k model.Abort (reason_of reason) None moment x.owns.branch x.owns.kept x.owns.up x.owns.found x.later x.after made b told
        (ap (λ (y : Catalog). y.home.node) aborts.makes.makes.settles.catalog ∙ ap (λ (y : Home). y.node) home_img) size names volume)

    -- so is each image that has it, where the node fell meanwhile
    pub left_made : IsLeftBy b (acted (Tables act moment) (fallen (Some (Tables act moment)) n))
    left_made = record {
      catalog = made.catalog;
      tells = settled_img.1;
      sound = settled_img.2;
      leaves = λ whole. down b made.catalog m (acted (Tables act moment) (fallen (Some (Tables act moment)) n)) (volume_falls b made.catalog m volume) refl refl refl;
    }

-- The disk went down: in the undo, or in its last group.
module _ (place : ℕ) (u : OpenUnit) (s t : rms.UnitsState) (log ts : Slots) (v w : VolumeState) (n : Node) (k : Key) (reason : Reason) (moment : ℕ) (x : Closes place u s log v n k model.Abort (reason_of reason) None moment) (clock : ℕ) (is : MaySettle place u s log v None clock)
    (bound : moment ≤ 24000001000066) (spent : t ≡ rms.without_place place u.serial s) (tid : Tid) (serial : Serial) (tid_same : tid_of tid ≡ u.tid) (serial_same : serial_of serial ≡ u.serial) (size : length x.owns.kept.content + 518 ≡ v.store.disk.size)
    (breaks : BreaksOffLogged (abortion_of u tid serial reason moment t) log ts v w) where
  abbrev cut : Act
  cut = Tables (Settles k model.Abort (reason_of reason) None) moment

  abbrev start : List (List ℕ)
  start = x.owns.kept.content

  abbrev whole : LeavesVolume start v.catalog n
  whole = fell place u s log v n k reason moment x is.has.order

  on_the_way : (c : List (List ℕ)) → IsOnTheWay k.serial start v.catalog.heads n.durable.directory v.catalog c → IsEitherOf (fallen (Some cut) n) c
  on_the_way = aborts_leave start v.catalog n k (reason_of reason) None moment x.owns.kept.has (sound_now place u s log v n k reason moment x is.has.order) (size ∙ sym x.owns.kept.blocks)

  module _ (mid : VolumeState) (goes : GoesOn v mid) (undoes : Undoes u.positions v mid) where
    way_mid : (un : IsUndone k.serial start v.catalog.heads n.durable.directory mid) → IsOnTheWay k.serial start v.catalog.heads n.durable.directory v.catalog un.way.before
    way_mid un = same_way (record { serial = k.serial; content = start; heads = v.catalog.heads; directory = n.durable.directory }) mid.catalog v.catalog un.way.before (λ i. record (sym goes.catalog i) { heads = v.catalog.heads }) un.way.way

    image_old : (c : List (List ℕ)) → Some c ≡ content mid.store → IsEitherOf (fallen (Some cut) n) c
    image_old c e =
        let un = undone place u s log v n k reason moment x is.has.order mid goes undoes in
        subst (IsEitherOf (fallen (Some cut) n)) (sym (same_some c un.way.before (e ∙ un.way.applied))) (on_the_way un.way.before (way_mid un))

    image_new : (made : VolumeState) → MakesLogged (abort_settlement (abortion_of u tid serial reason moment t)) None log ts mid made → (c : List (List ℕ)) → made.store.current ≡ Some c → IsEitherOf (fallen (Some cut) n) c
    image_new made makes c told = inr (inl (cut, refl, left_made place u s t log ts v n k reason moment x clock is bound spent tid serial tid_same serial_same made (record { mid = mid; goes = goes; undoes = undoes; makes = makes }) c told))

    last_group : Breaks (MakesLogged (abort_settlement (abortion_of u tid serial reason moment t)) None log ts mid) mid w → Leaves (IsEitherOf (fallen (Some cut) n)) w.store.disk
    last_group either image may = elim either [
      | inl was ↦ let l = was image may in (l.0, image_old _ l.1)
      | inr e ↦ let l = e.either image may in (l.0, elim l.1 [ inl was ↦ image_old _ was | inr is ↦ image_new e.made e.is _ (sym is) ])
    ]

  cut_off : Leaves (IsEitherOf (fallen (Some cut) n)) w.store.disk
  cut_off = elim breaks [
    | inl fails ↦ λ image may.
        let at = subst (λ (ps : List ℕ). FailsOnTheWay ps v w) (sym (positions place u s log v n k reason moment x is.has.order)) fails in
        let l = at k.serial start n.durable.directory (entries_for n k.serial v.catalog whole.journal.entries) (units_are_undoable start v n k.serial whole x.owns.kept.told is.has.order.holds) image may in
        (l.0, on_the_way _ l.1)
    | inr b ↦ last_group b.mid b.goes b.undoes b.breaks
  ]

  pub given_not : HasDisk (fallen (Some cut) n) w.store.disk
  given_not = disk_sound (fallen (Some cut) n) w.store.disk x.owns.kept.has.home.volume cut_off

-- The call.
module _ (place : ℕ) (u : OpenUnit) (s t : rms.UnitsState) (log ts : Slots) (v w : VolumeState) (clock : ℕ) (is : MaySettle place u s log v None clock) (reason : Reason) where
  closes : (n : Node) (k : Key) (kept : IsKept (seen s log) v n) → MayDo n (Settles k model.Abort (reason_of reason) None) (SettleEffect u.serial model.Abort (reason_of reason) None) → k.serial ≡ u.serial → n.clock ≡ clock →
      Closes place u s log v n k model.Abort (reason_of reason) None (next_moment n)
  closes n k kept does own same = record {
    owns = record { there = is.there; at = is.at; kept = kept; up = does.up; branch = does.stands.0.0; found = does.stands.0.1; own = sym own };
    after = does.after;
    later = moment_later place u s log v None clock is n kept same;
  }

  module _ (told : SettledUnit) (done : AbortsPrepared place u told.tid told.serial reason clock told.moment.0 s log v t ts w) (size : w.store.disk.size ≡ v.store.disk.size) where
    closed : (n : Node) (k : Key) → IsKept (seen s log) v n → MayDo n (Settles k model.Abort (reason_of reason) None) (SettleEffect u.serial model.Abort (reason_of reason) None) → k.serial ≡ u.serial → n.clock ≡ clock →
        SettlesTo model.Abort (reason_of reason) told (seen t ts) w n (Settles k model.Abort (reason_of reason) None)
    closed n k kept does own same =
        let x = closes n k kept does own same in
        let at : told.moment.0 ≡ next_moment n = done.moment ∙ moment_same place u s log v None clock is n kept same in
        let did = subst (λ (y : ℕ). AbortsLogged (abortion_of u told.tid told.serial reason y t) log ts v w) at done.aborts in
        let gives : IsGivenUp (abortion_of u told.tid told.serial reason (next_moment n) t) log ts v w = record { mid = did.mid; goes = did.goes; undoes = did.undoes; makes = did.makes } in
        let bound = subst (λ (y : ℕ). y ≤ 24000001000066) (moment_same place u s log v None clock is n kept same) (moment_bound place u s log v None clock is) in
        let relogged = relog place u s t log ts v n k reason (next_moment n) x clock is bound done.spent told.tid told.serial done.tid done.serial w gives in
        let b = made_told (abort_settlement (abortion_of u told.tid told.serial reason (next_moment n) t)) None log ts did.mid w relogged.0 did.makes relogged.1 in
        record {
          settled = (
              let one = sym (tid_is place u s log v n k x.owns) ∙ sym done.tid in
              let two = sym x.owns.own ∙ sym done.serial in
              λ i. Some (record { tid = one i; serial = two i; outcome = model.Abort; reason = Some (reason_of reason); moment = sym at i }));
          done = kept_made place u s t log ts v n k reason (next_moment n) x clock is bound done.spent told.tid told.serial done.tid done.serial w gives b.0 b.1 size;
        }

    pub gives_ok : SettlesOk u.serial model.Abort (reason_of reason) None clock told (seen s log) v (seen t ts) w
    gives_ok n a kept does same =
        let sg = settling a n.volatile.records u.serial model.Abort (reason_of reason) None does.gives in
        subst (λ (y : table.Act). MayDo n y (SettleEffect u.serial model.Abort (reason_of reason) None) → SettlesTo model.Abort (reason_of reason) told (seen t ts) w n y) (sym sg.is) (λ d. closed n sg.key kept d sg.serial same) does

  -- The disk went down in it. The content is as large as the disk says.
  module _ (done : AbortsPreparedNot place u reason clock s log v t ts w) (sized : IfSome v.store.current (λ c. length c + 518 ≡ v.store.disk.size)) where
    broken_off : (n : Node) (k : Key) → IsKept (seen s log) v n → MayDo n (Settles k model.Abort (reason_of reason) None) (SettleEffect u.serial model.Abort (reason_of reason) None) → k.serial ≡ u.serial → n.clock ≡ clock →
        Broken w n (Settles k model.Abort (reason_of reason) None)
    unfolding closes
    broken_off n k kept does own same =
        let x = closes n k kept does own same in
        let at : moment_next clock v.catalog.home ≡ next_moment n = moment_same place u s log v None clock is n kept same in
        let bound = subst (λ (y : ℕ). y ≤ 24000001000066) at (moment_bound place u s log v None clock is) in
        let size = subst (λ y. IfSome y (λ z. length z + 518 ≡ v.store.disk.size)) kept.told sized in
        given_not place u s t log ts v w n k reason (next_moment n) x clock is bound done.spent done.tid done.serial done.same_tid done.same_serial size
        (subst (λ (y : ℕ). BreaksOffLogged (abortion_of u done.tid done.serial reason y t) log ts v w) at done.breaks)

    pub gives_not : SettlesErr u.serial model.Abort (reason_of reason) None clock (seen s log) v w
    gives_not n a kept does same =
        let sg = settling a n.volatile.records u.serial model.Abort (reason_of reason) None does.gives in
        subst (λ (y : table.Act). MayDo n y (SettleEffect u.serial model.Abort (reason_of reason) None) → Broken w n y) (sym sg.is) (λ d. broken_off n sg.key kept d sg.serial same) does
