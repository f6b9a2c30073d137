-- A branch of a node is aborted on its volume.
use Rattle.std.proofs.Common.{◌≡◌, ℕ, List, Option, Some, length, map, refl, sym, ◌∙◌, ap, subst, inl, inr, ⊎_elim, arith}
use Rattle.std.specs.Option.{option_map}
use Rattle.careful_write.specs.State.{IsEither, Leaves, content}
use Rattle.vms_base.specs.declared.ids.Serial.{Serial}
use Rattle.vms_base.specs.declared.ids.Tid.{Tid}
use Rattle.journal_model.specs.Entries.{Entry}
use Rattle.world_laws.specs.commit_protocol.Table as table
use Rattle.world_laws.specs.run_model.World.{Node, Act, Settlement, Tables, acted, fallen, settled_file}
use Rattle.file_base.specs.declared.head.Span.{Span}
use Rattle.unit_undo.specs.file_images.Files.{SameRing}
use Rattle.image_groups.specs.image_appends.Settling.{content_from, heads_from}
use Rattle.image_groups.specs.Groups.{EntersLeft, outcome_of}
use Rattle.unit_undo.specs.directory_model.Files.{Fit}
use Rattle.unit_undo.specs.directory_model.Laws.{spelled_entry}
use Rattle.volume.specs.Limits.{data_area}
use Rattle.volume_format.specs.Home.{sizes_of}
use Rattle.settlement_laws.proofs.volume_laws.FollowLemmas.{follow}
use Rattle.volume.specs.declared.catalog.Catalog.{Catalog}
use Rattle.volume.specs.Catalogs.{IsSound, TellsCatalog}
use Rattle.volume.specs.State.{VolumeState}
use Rattle.volume_format.specs.declared.home.Ending.{Ending}
use Rattle.settlement_laws.specs.volume_model.Homes.{HasHome}
use Rattle.settlement_laws.specs.volume_model.Volumes.{HasDisk, HasJournal, HasLog, LeavesVolume, IsEitherOf, IsLeftBy}
use Rattle.settlement_laws.proofs.volume_laws.ToldLemmas.{logs_follow}
use Rattle.unit_table.specs.Units.{OpenUnit}
use Rattle.unit_undo.specs.Undoing.{GoesOn}
use Rattle.unit_undo.specs.Way.{FailsOnTheWay, IsOnTheWay, IsUndone, Undoes}
use Rattle.unit_undo.proofs.StepLemmas.{same_way}
use Rattle.settlement_laws.specs.Settled.{IsSettled, Makes}
use Rattle.settlement_laws.proofs.MadeLemmas.{settlements_are_made}
use Rattle.undo_laws.specs.Undoable.{entries_for, positions_for}
use Rattle.undo_laws.specs.Aborted.{AbortsFail, AbortsSettle, MayAbort, PutsOutcome}
use Rattle.undo_laws.specs.Undone.{AgreeOnFiles, IsAbort, IsToldIn, WaysKeepPrepared}
use Rattle.undo_laws.proofs.UndoableLemmas.{units_are_undoable}
use Rattle.undo_laws.proofs.WayLemmas.{far_off, left_on_the_way, undos_keep_journal}
use Rattle.undo_laws.proofs.SettledLemmas.{entered_left, fell_of, log_settled, names_told, volume_left, volume_there}
use Rattle.undo_laws.proofs.ToldLemmas.{journal_beside}
use Rattle.undo_laws.proofs.FallenLemmas.{has_disk, undos_fail, volume_left_fallen}

some_is : (a b : List (List ℕ)) → Some a ≡ Some b → a ≡ b
some_is a b e = cc

module _ (a : List (List ℕ)) (n : Node) (act : table.Act) (moment : ℕ) (s : Settlement) (v : VolumeState) (fell : LeavesVolume a v.catalog n) (may : MayAbort n act moment s a v) where
  abbrev ps : List ℕ
  ps = positions_for n s.serial v.catalog fell.journal.entries

  -- the act, while it is under way
  abbrev cut : Option Act
  cut = Some (Tables act moment)

  module _ (mid told : VolumeState) (goes : GoesOn v mid) (undoes : Undoes ps v mid) where
    pub undone : IsUndone s.serial a v.catalog.heads n.durable.directory mid
    undone = undoes s.serial a n.durable.directory (entries_for n s.serial v.catalog fell.journal.entries) (units_are_undoable a v n s.serial fell may.told may.holds)

    way : IsOnTheWay s.serial a v.catalog.heads n.durable.directory v.catalog undone.way.before
    way = same_way (record { serial = s.serial; content = a; heads = v.catalog.heads; directory = n.durable.directory }) mid.catalog v.catalog undone.way.before (λ i. record (sym goes.catalog i) { heads = v.catalog.heads }) undone.way.way

    sound_mid : IsSound n.name n.blocks mid.catalog
    sound_mid = subst (λ (m : ℕ). IsSound n.name m mid.catalog) may.disk (goes.sound n.name (subst (λ (m : ℕ). IsSound n.name m v.catalog) (sym may.disk) may.sound))

    pub left_before : (under_way : Option Act) → WaysKeepPrepared s.serial a v.catalog n → IsLeftBy undone.way.before (fallen under_way n)
    left_before under_way ways = left_on_the_way s.serial a v.catalog (fallen under_way n) (volume_left_fallen a v.catalog n under_way fell) ways may.sound may.size undone.way.before way

    abbrev undone_now : List (List ℕ)
    undone_now = undone.way.now

    stay_now : AgreeOnFiles mid.catalog undone_now undone_now
    stay_now f h there = record { own = λ k in_it. refl; carried = record { after = λ m. same_ring_now; before = λ m. same_ring_now; save = λ m k in_it. refl } }
      where
        same_ring_now : {r : Span} → SameRing r undone_now undone_now
        same_ring_now = record { size = refl; whole = undone.way.journal.whole; blocks = λ k from to. refl }

    -- the content in which the outcome is told
    module _ (tells : PutsOutcome n s mid told) where
      abbrev e : List (List ℕ)
      e = content_from 0 tells.files (spelled_entry 0 s.tid (outcome_of s)) mid.catalog.heads undone.way.now

      told_now : told.store.current ≡ Some e
      told_now = tells.current ∙ ap (option_map (content_from 0 tells.files (spelled_entry 0 s.tid (outcome_of s)) mid.catalog.heads)) undone.way.told

      fit_mid : Fit (data_area (sizes_of mid.catalog.home)) mid.catalog.heads
      fit_mid = record { heads_long = goes.long ∙ may.long; behind = omega arith; each = sound_mid.extents }

      pub told_in : IsToldIn s n.durable.directory undone_now e mid.catalog told.catalog
      told_in = record { files = tells.files; by = tells.by; room = tells.room; fit = fit_mid; whole = undone.way.journal.whole; content = refl; catalog = tells.catalog }

      entered_now : EntersLeft undone_now mid.catalog.heads e (data_area (sizes_of mid.catalog.home)) (heads_from 0 tells.files (length (spelled_entry 0 s.tid (outcome_of s))) mid.catalog.heads) (map (option_map (settled_file s)) n.durable.directory)
      unfolding told_in
      entered_now = entered_left a undone_now e v.catalog told.catalog n act moment s mid fell may.is undone stay_now told_in

      sound_told : IsSound n.name n.blocks told.catalog
      sound_told = subst (IsSound n.name n.blocks) (sym tells.catalog) (entered_now.sound n.name n.blocks mid.catalog refl sound_mid)

      tells_told : TellsCatalog told.catalog e
      tells_told = subst (λ (k : Catalog). TellsCatalog k e) (sym tells.catalog) (entered_now.tells mid.catalog refl undone.way.tells)

    module _ (tells : PutsOutcome n s mid told) (c : List (List ℕ)) (tid : Tid) (serial : Serial) (ending : Ending) (left : List (Option OpenUnit)) (w : VolumeState) (makes : Makes n s tid serial ending left told w) (now : w.store.current ≡ Some c) where
      journal_mid : (j : HasJournal undone.way.now mid.catalog n) × (j.entries ≡ fell.journal.entries)
      journal_mid = undos_keep_journal a v.catalog n s.serial mid fell (far_off n.name n.blocks v.catalog may.sound) goes.catalog undone

      -- the journal of recovery units stands in front of the files
      journal_told : (j : HasJournal (e tells) told.catalog n) × (j.entries ≡ journal_mid.0.entries)
      journal_told =
          let entered = entered_now tells in
          journal_beside undone_now (e tells) mid.catalog told.catalog n (names_told a undone_now (e tells) v.catalog told.catalog n act moment s mid fell may.is undone stay_now (told_in tells)) (ap (λ (k : Catalog). k.ru) tells.catalog) (record {
            size = entered.size;
            whole = entered.whole;
            blocks = λ k from to. entered.front k (inr (let start = sound_mid.ru_start in omega (arith, from, start))) (let start = sound_mid.ru_start in let blocks = sound_mid.ru_blocks in omega (arith, to, start, blocks));
          }) journal_mid.0

      settled : IsSettled n s journal_told.0.entries (e tells) c told.catalog w.catalog × TellsCatalog w.catalog c × IsSound n.name n.blocks w.catalog
      settled = settlements_are_made (e tells) c n s tid serial ending left told w n.name n.blocks (told_now tells) now (tells_told tells) (sound_told tells)
          (ap (λ (k : Catalog). length k.heads) tells.catalog ∙ (entered_now tells).fit.heads_long)
          (subst (λ (k : Catalog). HasHome k.home n) (sym (tells.catalog ∙ ap (λ (k : Catalog). record k { heads = heads_from 0 tells.files (length (spelled_entry 0 s.tid (outcome_of s))) mid.catalog.heads }) goes.catalog)) fell.home) journal_told.0 makes

      pub settled_now : IsSettled n s fell.journal.entries (e tells) c told.catalog w.catalog
      settled_now = subst (λ (es : List Entry). IsSettled n s es (e tells) c told.catalog w.catalog) (journal_told.1 ∙ journal_mid.1) settled.0

      pub log_now : HasLog c (acted (Tables act moment) n)
      log_now = log_settled a undone_now (e tells) c v.catalog told.catalog w.catalog n act moment s mid fell may.is may.sound goes.catalog undone stay_now (λ i below. refl) (told_in tells) settled_now may.log

      pub left_settled : LeavesVolume c w.catalog (acted (Tables act moment) n)
      left_settled = volume_left a undone_now (e tells) c v.catalog told.catalog w.catalog n act moment s mid fell may.is may.sound goes.catalog undone stay_now (told_in tells) settled_now log_now

      -- and so after the node fell
      settled_fallen : (under_way : Option Act) → IsSettled (fallen under_way n) s fell.journal.entries (e tells) c told.catalog w.catalog
      settled_fallen under_way = record {
        heads = settled_now.heads;
        log = settled_now.log;
        files = settled_now.files;
        home = record { volume = settled_now.home.volume; slots = settled_now.home.slots; journal = settled_now.home.journal; boot = settled_now.home.boot; greatest = settled_now.home.greatest; last = settled_now.home.last };
        entered = settled_now.entered;
        first = settled_now.first;
        end = settled_now.end;
        low = settled_now.low;
      }

      abort_fallen : (under_way : Option Act) → IsAbort (fallen under_way n) act moment s
      abort_fallen under_way = record {
        settles = may.is.settles;
        abort = may.is.abort;
        may = record { unsettled = may.is.may.unsettled; transaction = may.is.may.transaction; later = may.is.may.later };
        told = logs_follow.told (acted (Tables act moment) n) (acted (Tables act moment) (fallen under_way n)) may.is.told refl (omega arith) refl refl;
      }

      pub left_after : (under_way : Option Act) → IsLeftBy c (acted (Tables act moment) (fallen under_way n))
      left_after under_way = record {
        catalog = w.catalog;
        tells = settled.1;
        sound = settled.2;
        leaves = λ whole. volume_left a undone_now (e tells) c v.catalog told.catalog w.catalog (fallen under_way n) act moment s mid (volume_left_fallen a v.catalog n under_way fell) (abort_fallen under_way) may.sound goes.catalog undone stay_now (told_in tells) (settled_fallen under_way)
            (record { keeps = log_now.keeps; whole = log_now.whole });
      }

    pub before_fails : (under_way : Option Act) (w : VolumeState) → WaysKeepPrepared s.serial a v.catalog n → Leaves (λ c. Some c ≡ content mid.store) w.store.disk → HasDisk (fallen under_way n) w.store.disk
    before_fails under_way w ways leaves = has_disk (fallen under_way n) w.store.disk fell.home.volume (λ image may_be. let l = leaves image may_be in (l.0, old _ l.1))
      where
        old : (x : List (List ℕ)) → Some x ≡ content mid.store → IsEitherOf (fallen under_way n) x
        old x is = inl (subst (λ y. IsLeftBy y (fallen under_way n)) (sym (some_is x undone.way.before (is ∙ undone.way.applied))) (left_before under_way ways))

    pub last_fails : (tid : Tid) (serial : Serial) (ending : Ending) (left : List (Option OpenUnit)) (made w : VolumeState) → WaysKeepPrepared s.serial a v.catalog n → PutsOutcome n s mid told → Makes n s tid serial ending left told made → Leaves (IsEither (content mid.store) made.store.current) w.store.disk →
        HasDisk (fallen cut n) w.store.disk
    last_fails tid serial ending left made w ways tells makes leaves =
        has_disk (fallen cut n) w.store.disk fell.home.volume (λ image may_be. let l = leaves image may_be in (l.0, ⊎_elim (old _) (new _) l.1))
      where
        old : (x : List (List ℕ)) → Some x ≡ content mid.store → IsEitherOf (fallen cut n) x
        old x is = inl (subst (λ y. IsLeftBy y (fallen cut n)) (sym (some_is x undone.way.before (is ∙ undone.way.applied))) (left_before cut ways))

        new : (x : List (List ℕ)) → Some x ≡ made.store.current → IsEitherOf (fallen cut n) x
        new x is = inr (inl (Tables act moment, refl, left_after tells x tid serial ending left made makes (sym is) cut))

  pub undo_fails : (under_way : Option Act) (w : VolumeState) → WaysKeepPrepared s.serial a v.catalog n → FailsOnTheWay ps v w → HasDisk (fallen under_way n) w.store.disk
  undo_fails under_way w ways fails = undos_fail s.serial a v.catalog n under_way fell ways may.sound may.size w.store.disk
      (fails s.serial a n.durable.directory (entries_for n s.serial v.catalog fell.journal.entries) (units_are_undoable a v n s.serial fell may.told may.holds))

pub aborts_settle : AbortsSettle
aborts_settle = record {
  has = λ a c n act moment s tid serial ending left v mid told w has may is current.
      let fell = fell_of a v.catalog n has in
      let undone_mid = undone a n act moment s v fell may mid told is.goes is.undoes in
      volume_there a undone_mid.way.now (e a n act moment s v fell may mid told is.goes is.undoes is.tells) c v.catalog told.catalog w.catalog n act moment s mid has may.is may.sound is.goes.catalog undone_mid
      (stay_now a n act moment s v fell may mid told is.goes is.undoes) (told_in a n act moment s v fell may mid told is.goes is.undoes is.tells)
      (settled_now a n act moment s v fell may mid told is.goes is.undoes is.tells c tid serial ending left w is.makes current)
      (log_now a n act moment s v fell may mid told is.goes is.undoes is.tells c tid serial ending left w is.makes current);
  leaves = λ a c n act moment s tid serial ending left v mid told w fell may is now. left_settled a n act moment s v fell may mid told is.goes is.undoes is.tells c tid serial ending left w is.makes now;
}

pub aborts_fail : AbortsFail
aborts_fail = record {
  undo = λ a n act moment s under_way v w fell ways may fails. undo_fails a n act moment s v fell may under_way w ways fails;
  before = λ a n act moment s under_way v mid w fell ways may goes undoes leaves. before_fails a n act moment s v fell may mid mid goes undoes under_way w ways leaves;
  last = λ a n act moment s tid serial ending left v mid told made w fell ways may is leaves. last_fails a n act moment s v fell may mid told is.goes is.undoes tid serial ending left made w ways is.tells is.makes leaves;
}
