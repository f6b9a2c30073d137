-- A unit is committed, as its branch is in the world.
use Rattle.std.proofs.Common.{◌≡◌, ℕ, ◌+◌, ◌<◌, ◌≤◌, List, Option, Some, None, refl, sym, ◌∙◌, ap, subst, arith, length}
use Rattle.std.specs.Prelude.{option_map}
use Rattle.std.specs.Option.{IfSome}
use Rattle.file_base.specs.declared.head.FileHead.{FileHead}
use Rattle.vms_model.specs.Ids.{Id, IsId}
use Rattle.vms_model.specs.Transactions.{Commit, Reason}
use Rattle.vms_base.specs.Ids.{serial_of, tid_of}
use Rattle.vms_base.specs.declared.ids.Serial.{Serial}
use Rattle.vms_base.specs.declared.ids.Tid.{Tid}
use Rattle.volume.specs.declared.catalog.Catalog.{Catalog}
use Rattle.volume.specs.Catalogs.{IsSound, TellsCatalog}
use Rattle.volume.specs.State.{VolumeState}
use Rattle.volume_format.specs.declared.home.Ending.{Ending}
use Rattle.volume_format.specs.declared.home.Home.{Home}
use Rattle.volume_format.specs.declared.home.Ending.TheVariants as ending
use Rattle.journal_model.specs.Entries.{Entry}
use Rattle.unit_table.specs.Places.{AreInOrder}
use Rattle.unit_table.specs.Units.{OpenUnit, unit_at}
use Rattle.unit_laws.specs.JournalLaws.{is_unit}
use Rattle.rms_units.specs.file_settlements.Settling.{EntersSettled, content_settled}
use Rattle.rms_units.specs.unit_journal.Entries.{settled_entry}
use Rattle.rms_units.specs.unit_journal.Settling.{MakesSettlement, content_with, entry_if, from_earliest, next_moment as moment_next, settled_home, span_with, with_front}
use Rattle.rms_units.specs.unit_votes.Voting.{MakesLogged, Settlement as LoggedSettlement}
use Rattle.commit_protocol.specs.Effects.{SettleEffect}
use Rattle.commit_protocol.specs.Messages.{LogRecord}
use Rattle.commit_protocol.specs.Table as table
use Rattle.commit_protocol.specs.Table.{Key, Settles}
use Rattle.log_laws.specs.Slots.{Slots, settled_in}
use Rattle.lmcp_log.specs.Keeping.{IsWhole, Keeps, SameSlots}
use Rattle.lmcp_log.specs.Slot.{IsRecord}
use Rattle.lmcp_log.proofs.Keepings.{keeps_beside}
use Rattle.lmcp_log.proofs.Whole.{beside_whole}
use Rattle.recovery_units.specs.run_model.World.{Node, Settlement, Tables, acted, fallen, next_moment, settlement}
use Rattle.recovery_units.proofs.world_laws.LogLemmas.{told_log}
use Rattle.unit_world.specs.directory_model.Files.{head_at}
use Rattle.undo_laws.specs.settlement_laws.Settled.{IsSettled, Makes}
use Rattle.undo_laws.proofs.settlement_laws.MadeLemmas.{settlements_are_made}
use Rattle.undo_laws.specs.Committed.{IsCommit}
use Rattle.undo_laws.specs.Undone.{AgreeOnFiles, IsTold, IsToldIn}
use Rattle.undo_laws.proofs.CommitLemmas.{commits_settle}
use Rattle.undo_laws.proofs.ToldLemmas.{journal_beside}
use Rattle.undo_laws.specs.unit_undo.Undoing.{journals_at}
use Rattle.undo_laws.specs.image_groups.Groups.{HaveRoom}
use Rattle.recovery_units.specs.volume_model.Homes as homes
use Rattle.recovery_units.specs.volume_model.Homes.{HasHome}
use Rattle.recovery_units.specs.volume_model.Laws.{KeepsNames}
use Rattle.recovery_units.specs.volume_model.Volumes.{HasDisk, HasJournal, HasVolume, IsLeftBy}
use Rattle.rms_units.specs.State as rms
use Rattle.rms_units.specs.Voting.{CommitsLogged, CommitsLoggedNot, commit_of}
use Rattle.rms_units.proofs.SettledLemmas.{next_bound, next_later}
use Rattle.recovery_units.specs.Calls.{MayDo, SettlesErr, SettlesOk, SettlesTo}
use Rattle.recovery_units.specs.State.{IsKept, UnitsState, committed}
use Rattle.recovery_units.specs.declared.settled.SettledUnit.{SettledUnit}
use Rattle.node_units.specs.Seen.{seen}
use Rattle.node_units.proofs.Acting.{broken, left_after, settling}
use Rattle.node_units.proofs.Alike.{next_alike}
use Rattle.node_units.proofs.Logging.{IsRelogged, catalog_set, files_relogged, relogged, ring_relogged, slots_set, tells_relogged}
use Rattle.node_units.proofs.Imaging.{files_telling, fits, imaged, imaged_home, imaged_ru, imaged_told, room_for, told_by, told_heads, told_in}
use Rattle.node_units.proofs.Making.{Closes, changed, left_seen, makes_it, settles, tid_is}
use Rattle.node_units.proofs.Settling.{kept_settled}

-- the content of a volume that a settlement is made of
pub settled_content : (tid : Tid) (serial : Serial) (ending : Ending) (moment : ℕ) (e : Option Entry) (left : List (Option OpenUnit)) (x made : VolumeState) (c : List (List ℕ)) → MakesSettlement tid serial ending moment e left x made → x.store.current ≡ Some c →
    (b : List (List ℕ)) × (made.store.current ≡ Some b)
settled_content tid serial ending moment e left x made c makes told =
    let f : List (List ℕ) → List (List ℕ) = λ y. with_front (settled_home tid serial ending moment x.catalog.home) (from_earliest left (span_with e x.catalog.ru)) (content_with e x.catalog.ru y) in
    (f c, makes.current ∙ ap (option_map f) told)

pub made_told : (y : LoggedSettlement) (rec : Option LogRecord) (ss ts : Slots) (v made : VolumeState) (c : List (List ℕ)) (m : MakesLogged y rec ss ts v made) → m.logged.store.current ≡ Some c → (b : List (List ℕ)) × (made.store.current ≡ Some b)
made_told y rec ss ts v made c m told = settled_content y.tid y.serial y.ending y.moment y.entry y.left m.makes.mid made (content_settled y.entry y.files m.logged.catalog.heads c) m.makes.settles
    (m.makes.entered.current ∙ ap (option_map (content_settled y.entry y.files m.logged.catalog.heads)) told)

-- What is asked of a volume whose log a call changes.
pub record HasLogged (s : rms.UnitsState) (log : Slots) (v : VolumeState) (rec : Option LogRecord) : Type 0 where
  pub order : rms.IsInOrder s v
  pub before : 584 + length log ≤ v.catalog.ru.start
  pub parts : IfSome rec IsRecord

-- The log is set in what a node's volume tells.
module _ (s : rms.UnitsState) (log ts : Slots) (v : VolumeState) (rec : Option LogRecord) (is : HasLogged s log v rec) (n : Node) (kept : IsKept (seen s log) v n) where
  pub keeps_now : Keeps log kept.content
  keeps_now = subst (λ (us : Slots). Keeps us kept.content) kept.log kept.has.log.keeps

  pub whole_now : IsWhole log kept.content
  whole_now = subst (λ (us : Slots). IsWhole us kept.content) kept.log kept.has.log.whole

  pub content_long : 66 + length log ≤ length kept.content
  content_long = let within = kept.has.journal.is.ring.within in let before = is.before in omega (arith, within, before)

  pub tells_now : TellsCatalog v.catalog kept.content
  tells_now = subst (λ o. IfSome o (TellsCatalog v.catalog)) kept.told is.order.holds

-- A unit is committed, of which the log has this then.
module _ (place : ℕ) (u : OpenUnit) (s t : rms.UnitsState) (log ts : Slots) (v : VolumeState) (n : Node) (k : Key) (reason : Reason) (rec : Option LogRecord) (moment : ℕ) (x : Closes place u s log v n k Commit reason rec moment) (is : HasLogged s log v rec)
    (early : rms.IsEarly v) (ids : IsId u.tid × IsId u.serial) (bound : moment ≤ 24000001000066) (spent : t ≡ rms.without_place place u.serial s) (tid : Tid) (serial : Serial) (tid_same : tid_of tid ≡ u.tid) (serial_same : serial_of serial ≡ u.serial)
    (made : VolumeState) (makes : MakesLogged (commit_of u tid serial moment t) rec log ts v made) where
  abbrev a : table.Act
  a = Settles k Commit reason rec

  abbrev m : Node
  m = acted (Tables a moment) n

  abbrev c : Settlement
  c = settlement k Commit reason moment

  abbrev mid : VolumeState
  mid = makes.logged

  slots : ts ≡ settled_in u.serial rec log
  slots = slots_set (serial_of serial) rec log ts v mid makes.log ∙ ap (λ (y : Id). settled_in y rec log) serial_same

  -- the content with the record
  pub relog : (b : List (List ℕ)) × (mid.store.current ≡ Some b) × IsRelogged log ts x.owns.kept.content b
  relog = relogged (serial_of serial) rec log ts v mid x.owns.kept.content makes.log is.parts x.owns.kept.told (keeps_now s log ts v rec is n x.owns.kept) (whole_now s log ts v rec is n x.owns.kept) x.owns.kept.has.journal.is.ring.whole (content_long s log ts v rec is n x.owns.kept)

  same : mid.catalog ≡ v.catalog
  same = catalog_set (serial_of serial) rec log ts v mid makes.log

  as_told : c ≡ homes.settlement_of moment (record { tid = tid; serial = serial; ending = ending.Commit })
  as_told =
      let one = sym (tid_is place u s log v n k x.owns) ∙ sym tid_same in
      let two = sym x.owns.own ∙ sym serial_same in
      λ i. record { tid = one i; serial = two i; outcome = Commit; reason = None; moment = moment }

  -- its outcome is entered in the journals of images
  abbrev img : VolumeState
  img = makes.makes.mid

  pub enters : EntersSettled u.files (entry_if (is_unit k.serial n.durable.units) (settled_entry c.tid c.serial c.outcome c.moment)) mid img
  enters = subst (λ e. EntersSettled u.files e mid img) (λ i. entry_if (changed place u s log v n k x.owns i) (settled_entry (tid_is place u s log v n k x.owns i) (x.owns.own i) Commit moment)) makes.makes.entered

  abbrev e : List (List ℕ)
  e = imaged (is_unit k.serial n.durable.units) u.files c mid img enters relog.0

  tells_mid : TellsCatalog mid.catalog relog.0
  tells_mid = subst (λ (y : Catalog). TellsCatalog y relog.0) (sym same) (tells_relogged log ts x.owns.kept.content relog.0 relog.2 v.catalog is.before (tells_now s log ts v rec is n x.owns.kept))

  heads_mid : length mid.catalog.heads ≡ 64
  heads_mid = ap (λ (y : Catalog). length y.heads) same ∙ is.order.heads

  sound_mid : IsSound v.catalog.home.node v.store.disk.size mid.catalog
  sound_mid = subst (IsSound v.catalog.home.node v.store.disk.size) (sym same) is.order.sound

  room : HaveRoom c (files_telling (is_unit k.serial n.durable.units) u.files) mid.catalog.heads
  room = room_for place u s log v n k x.owns mid.catalog.heads (record { journals = λ f. ap (λ (y : Catalog). journals_at y.heads f) same; told = told_heads mid.catalog relog.0 tells_mid heads_mid }) is.order early c
      (subst IsId (tid_is place u s log v n k x.owns) ids.0) (subst IsId x.owns.own ids.1) (omega (arith, bound))

  told_now : IsToldIn c n.durable.directory relog.0 e v.catalog img.catalog
  told_now = subst (λ (y : Catalog). IsToldIn c n.durable.directory relog.0 e y img.catalog) same
      (told_in (is_unit k.serial n.durable.units) u.files c mid img enters n.durable.directory relog.0 (told_by place u s log v n k x.owns c refl) room (fits v.catalog.home.node v.store.disk.size mid.catalog heads_mid sound_mid) relog.2.whole)

  beside : AgreeOnFiles v.catalog x.owns.kept.content relog.0
  beside f h there = files_relogged log ts x.owns.kept.content relog.0 relog.2 v.catalog is.before v.catalog.home.node v.store.disk.size is.order.sound is.order.heads f h there

  is_commit : IsCommit n a moment c
  is_commit = record { settles = refl; commit = refl; may = settles place u s log v n k Commit reason rec moment x; told = told_log m x.after.table x.after.slots }

  sound_now : IsSound n.name n.blocks v.catalog
  sound_now = subst (λ (y : List ℕ). IsSound y n.blocks v.catalog) (sym x.owns.kept.name) (subst (λ (y : ℕ). IsSound v.catalog.home.node y v.catalog) (sym x.owns.kept.blocks) is.order.sound)

  pub journal_mid : (j : HasJournal relog.0 v.catalog n) × (j.entries ≡ x.owns.kept.has.journal.entries)
  journal_mid = journal_beside x.owns.kept.content relog.0 v.catalog v.catalog n (λ f h there. (h, there, refl)) refl (ring_relogged log ts x.owns.kept.content relog.0 relog.2 v.catalog is.before) x.owns.kept.has.journal

  pub is_told : IsTold n relog.0 e v.catalog img.catalog journal_mid.0
  is_told = commits_settle.told x.owns.kept.content relog.0 e v.catalog img.catalog n a moment c x.owns.kept.has is_commit sound_now beside told_now journal_mid.0

  home_img : img.catalog.home ≡ v.catalog.home
  home_img = imaged_home (is_unit k.serial n.durable.units) u.files c mid img enters ∙ ap (λ (y : Catalog). y.home) same

  ru_img : img.catalog.ru ≡ v.catalog.ru
  ru_img = imaged_ru (is_unit k.serial n.durable.units) u.files c mid img enters ∙ ap (λ (y : Catalog). y.ru) same

  makes_img : Makes n c tid serial ending.Commit t.units.places img made
  makes_img = makes_it place u s log v n k Commit reason rec moment x t spent img made tid serial ending.Commit is.order early ids bound home_img ru_img as_told makes.makes.settles

  module _ (b : List (List ℕ)) (told : made.store.current ≡ Some b) where
    pub settled : IsSettled n c is_told.journal.entries e b img.catalog made.catalog × TellsCatalog made.catalog b × IsSound v.catalog.home.node v.store.disk.size made.catalog
    settled = settlements_are_made e b n c tid serial ending.Commit t.units.places img made v.catalog.home.node v.store.disk.size (imaged_told (is_unit k.serial n.durable.units) u.files c mid img enters relog.0 relog.1) told
        (is_told.tells (subst (λ (y : Catalog). TellsCatalog y relog.0) same tells_mid)) (is_told.sound v.catalog.home.node v.store.disk.size is.order.sound) is_told.long (subst (λ (y : Home). HasHome y n) (sym home_img) x.owns.kept.has.home) is_told.journal makes_img

    names_made : KeepsNames v.catalog.heads made.catalog.heads
    names_made f h there = let it = is_told.names f h there in (it.0, ap (λ (hs : List (Option FileHead)). head_at hs f) settled.0.heads ∙ it.1, it.2)

    slots_are : ts ≡ m.durable.log
    slots_are = slots ∙ (λ i. settled_in (x.owns.own i) rec (sym x.owns.kept.log i))

    same_slots : SameSlots (length ts) relog.0 b
    same_slots i below =
        let long = relog.2.long in
        let logs = ap length x.owns.kept.log in
        let before = is.before in
        settled.0.log i (omega (arith, below, long, logs)) ∙ is_told.front (66 + i) (omega arith) (omega (arith, below, long, before, ring_some))
      where
        ring_some : 0 < v.catalog.ru.blocks
        ring_some = x.owns.kept.has.journal.is.ring.some

    pub volume : HasVolume b made.catalog m
    volume = commits_settle.has x.owns.kept.content relog.0 e b v.catalog img.catalog made.catalog n a moment c x.owns.kept.has is_commit sound_now beside told_now
        (subst (λ (es : List Entry). IsSettled n c es e b img.catalog made.catalog) (is_told.same ∙ journal_mid.1) settled.0)
        (record {
          keeps = subst (λ (us : Slots). Keeps us b) slots_are (keeps_beside ts relog.0 b relog.2.keeps same_slots);
          whole = subst (λ (us : Slots). IsWhole us b) slots_are (beside_whole ts relog.0 b relog.2.slots same_slots);
        })

    seen_then : seen t ts ≡ committed k.serial rec (seen s log)
    seen_then =
        let units = left_seen place u s log v n k Commit reason rec moment x t spent in
        let entries : ts ≡ settled_in k.serial rec log = slots ∙ ap (λ (y : Id). settled_in y rec log) x.owns.own in
        λ i. record (units i) { log = entries i }

    pub kept_made : made.store.disk.size ≡ v.store.disk.size → IsKept (seen t ts) made m
    kept_made size = subst (λ (y : UnitsState). IsKept y made m) (sym seen_then)
        (kept_settled (seen s log) v n k Commit reason rec moment x.owns.branch x.owns.kept x.owns.up x.owns.found x.later x.after made b told
        (ap (λ (y : Catalog). y.home.node) makes.makes.settles.catalog ∙ ap (λ (h : Home). h.node) home_img) size names_made volume)

    pub left_made : IsLeftBy b (acted (Tables a moment) (fallen (Some (Tables a moment)) n))
    left_made = left_after (seen s log) v n a moment x.owns.kept b made.catalog volume settled.1 settled.2

-- What is known of the unit that is settled at a clock.
pub record MaySettle (place : ℕ) (u : OpenUnit) (s : rms.UnitsState) (log : Slots) (v : VolumeState) (rec : Option LogRecord) (clock : ℕ) : Type 0 where
  pub there : unit_at s.units.places place ≡ Some u
  pub at : AreInOrder s.units.places s.units.order
  pub has : HasLogged s log v rec
  pub early : rms.IsEarly v
  pub clock_early : clock < 24000001000066
  pub ids : IsId u.tid × IsId u.serial

module _ (place : ℕ) (u : OpenUnit) (s : rms.UnitsState) (log : Slots) (v : VolumeState) (rec : Option LogRecord) (clock : ℕ) (may : MaySettle place u s log v rec clock) where
  pub moment_bound : moment_next clock v.catalog.home ≤ 24000001000066
  moment_bound = next_bound clock v.catalog.home may.early.moment may.clock_early

  pub moment_same : (n : Node) → IsKept (seen s log) v n → n.clock ≡ clock → moment_next clock v.catalog.home ≡ next_moment n
  moment_same n kept same = next_alike clock v.catalog.home n kept.has.home same

  pub moment_later : (n : Node) (kept : IsKept (seen s log) v n) → n.clock ≡ clock → n.durable.greatest ≤ next_moment n
  moment_later n kept same = let at = moment_same n kept same in let no_earlier = next_later clock v.catalog.home in let was = kept.has.home.greatest in omega (arith, at, no_earlier, was)

-- A unit is committed.
module _ (place : ℕ) (u : OpenUnit) (s t : rms.UnitsState) (log ts : Slots) (v w : VolumeState) (rec : Option LogRecord) (clock : ℕ) (may : MaySettle place u s log v rec clock) (reason : Reason) where
  closes : (n : Node) (k : Key) (kept : IsKept (seen s log) v n) → MayDo n (Settles k Commit reason rec) (SettleEffect u.serial Commit reason rec) → k.serial ≡ u.serial → n.clock ≡ clock → Closes place u s log v n k Commit reason rec (next_moment n)
  closes n k kept does own same = record {
    owns = record { there = may.there; at = may.at; kept = kept; up = does.up; branch = does.stands.0.0; found = does.stands.0.1; own = sym own };
    after = does.after;
    later = moment_later place u s log v rec clock may n kept same;
  }

  module _ (told : SettledUnit) (done : CommitsLogged place u told.tid told.serial rec clock told.moment.0 s log v t ts w) (size : w.store.disk.size ≡ v.store.disk.size) where
    closed : (n : Node) (k : Key) → IsKept (seen s log) v n → MayDo n (Settles k Commit reason rec) (SettleEffect u.serial Commit reason rec) → k.serial ≡ u.serial → n.clock ≡ clock → SettlesTo Commit reason told (seen t ts) w n (Settles k Commit reason rec)
    closed n k kept does own same =
        let x = closes n k kept does own same in
        let at : told.moment.0 ≡ next_moment n = done.moment ∙ moment_same place u s log v rec clock may n kept same in
        let makes = subst (λ (y : ℕ). MakesLogged (commit_of u told.tid told.serial y t) rec log ts v w) at done.makes in
        let bound = subst (λ (y : ℕ). y ≤ 24000001000066) (moment_same place u s log v rec clock may n kept same) (moment_bound place u s log v rec clock may) in
        let mid = relog place u s t log ts v n k reason rec (next_moment n) x may.has may.early may.ids bound done.spent told.tid told.serial done.tid done.serial w makes in
        let b = made_told (commit_of u told.tid told.serial (next_moment n) t) rec log ts v w mid.0 makes mid.1 in
        record {
          settled = (
              let one = sym (tid_is place u s log v n k x.owns) ∙ sym done.tid in
              let two = sym x.owns.own ∙ sym done.serial in
              λ i. Some (record { tid = one i; serial = two i; outcome = Commit; reason = None; moment = sym at i }));
          done = kept_made place u s t log ts v n k reason rec (next_moment n) x may.has may.early may.ids bound done.spent told.tid told.serial done.tid done.serial w makes b.0 b.1 size;
        }

    pub commits_ok : SettlesOk u.serial Commit reason rec clock told (seen s log) v (seen t ts) w
    commits_ok n a kept does same =
        let sg = settling a n.volatile.records u.serial Commit reason rec does.gives in
        subst (λ (y : table.Act). MayDo n y (SettleEffect u.serial Commit reason rec) → SettlesTo Commit reason told (seen t ts) w n y) (sym sg.is) (λ d. closed n sg.key kept d sg.serial same) does

  -- The disk went down in it.
  module _ (done : CommitsLoggedNot place u rec clock s log v t ts w) where
    pub commits_not : SettlesErr u.serial Commit reason rec clock (seen s log) v w
    commits_not n a kept does same =
        let sg = settling a n.volatile.records u.serial Commit reason rec does.gives in
        subst (λ (y : table.Act). MayDo n y (SettleEffect u.serial Commit reason rec) → HasDisk (fallen (Some (Tables y (next_moment n))) n) w.store.disk) (sym sg.is) (λ d. cut n sg.key kept d sg.serial same) does
      where
        cut : (n : Node) (k : Key) → IsKept (seen s log) v n → MayDo n (Settles k Commit reason rec) (SettleEffect u.serial Commit reason rec) → k.serial ≡ u.serial → n.clock ≡ clock → HasDisk (fallen (Some (Tables (Settles k Commit reason rec) (next_moment n))) n) w.store.disk
        cut n k kept does own same =
            let x = closes n k kept does own same in
            let at : moment_next clock v.catalog.home ≡ next_moment n = moment_same place u s log v rec clock may n kept same in
            let bound = subst (λ (y : ℕ). y ≤ 24000001000066) at (moment_bound place u s log v rec clock may) in
            broken (seen s log) v n (Settles k Commit reason rec) (next_moment n) kept (MakesLogged (commit_of u done.tid done.serial (moment_next clock v.catalog.home) t) rec log ts v) w may.has.order.sound may.has.order.holds may.has.order.idle
            (λ made b makes told. left_made place u s t log ts v n k reason rec (next_moment n) x may.has may.early may.ids bound done.spent done.tid done.serial done.same_tid done.same_serial made
            (subst (λ (y : ℕ). MakesLogged (commit_of u done.tid done.serial y t) rec log ts v made) at makes) b told) done.breaks
