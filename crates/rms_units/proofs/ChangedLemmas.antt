-- A change of one key, from what refuses it not and what is made.
use Rattle.std.proofs.Common.{◌≡◌, ℕ, Bool, List, [], Option, Some, None, true, length, option_map, refl, ap, subst, ◌∙◌, inl}
use Rattle.std.specs.Prelude.{is_some, unwrap_or}
use Rattle.careful_write.specs.State.{IsReady, OneContent, content}
use Rattle.careful_write.specs.declared.down.Down.{Down}
use Rattle.file_base.specs.declared.head.FileHead.{FileHead}
use Rattle.journal_model.specs.Entries.{Entry, spelling}
use Rattle.volume_files.specs.record_files.Any.{IsFile, IsLaidOut}
use Rattle.record_locks.specs.Locks.{Lock, holder, with_locks}
use Rattle.record_operations.specs.declared.errors.RecErr.{RecErr}
use Rattle.record_operations.specs.Causes.{Cause, IfRefused, down_in}
use Rattle.unit_journal.specs.Groups.{Breaks, Caused, DiskAdvances, Grows}
use Rattle.unit_journal.specs.Leaving.{FellIn}
use Rattle.unit_journal.specs.Settling.{next_moment}
use Rattle.unit_journal.specs.Spans.{entered, longer}
use Rattle.unit_journal.proofs.Breaking.{fell_old}
use Rattle.unit_journal.proofs.Falling.{fell_caused, fell_goes, same_goes}
use Rattle.unit_journal.proofs.Growing.{fell_grows, grows_nowhere}
use Rattle.unit_table.specs.Units.{OpenUnit, has_changed, with_position, with_unit}
use Rattle.vms_base.specs.declared.ids.Tid.{Tid}
use Rattle.vms_model.specs.Ids.{Id}
use Rattle.vms_model.specs.Keys.{Key}
use Rattle.volume.specs.State.{SameVolume, VolumeState}
use Rattle.volume_files.specs.Staging.{TellsSet}
use Rattle.volume_files.proofs.StagingLemmas.{stages_read}
use Rattle.unit_votes.proofs.Settled.{breaks_from}
use Rattle.key_changes.specs.declared.asked.KeyChange.{KeyChange}
use Rattle.rms_units.specs.Calls.{ChangesKey, CommitsChange, KeyBroke, MakesEntry, MakesKey, change_refused_after_reading, direct_refused_after_reading}
use Rattle.unit_journal.specs.Entries.{change_entry}
use Rattle.key_changes.specs.Changing.{after_change, before_change, keys_asked, locks_refuse}
use Rattle.kept_files.specs.Own.{own_change}
use Rattle.rms_units.specs.Making.{CommitsKey, EntersKey}
use Rattle.key_changes.specs.unit_cuts.Records.{OfRecords}
use Rattle.rms_units.specs.State.{UnitsState}
use Rattle.rms_units.proofs.Refusing.{either_way, refused_so}

-- What a call leaves that was refused, or in which the disk went down before anything was written.
module _ (e : RecErr) (P : Cause → Type 0) (E : Type 0) (v w : VolumeState) (is : IfRefused e (λ cause. P cause × SameVolume v w) (λ down. E × FellIn down v w)) where
  pub refused_grows : (settlements clock : ℕ) → Grows settlements clock v w
  refused_grows settlements clock = either_way e (λ cause. P cause × SameVolume v w) (λ down. E × FellIn down v w) (λ _. Grows settlements clock v w) is
      (λ cause x. grows_nowhere settlements clock v w (ap (λ (y : VolumeState). y.catalog) x.1)) (λ down x. fell_grows settlements clock down v w x.1)

  pub refused_goes : DiskAdvances v.store.disk w.store.disk
  refused_goes = either_way e (λ cause. P cause × SameVolume v w) (λ down. E × FellIn down v w) (λ _. DiskAdvances v.store.disk w.store.disk) is (λ cause x. same_goes v w x.1) (λ down x. fell_goes down v w x.1)

  pub refused_caused : Caused (down_in e) v.store.disk w.store.disk
  refused_caused = either_way e (λ cause. P cause × SameVolume v w) (λ down. E × FellIn down v w) (λ d. Caused d v.store.disk w.store.disk) is (λ cause x. tt) (λ down x. fell_caused down v w x.1)

  pub refused_pool : w.store.pool ≡ v.store.pool
  refused_pool = either_way e (λ cause. P cause × SameVolume v w) (λ down. E × FellIn down v w) (λ _. w.store.pool ≡ v.store.pool) is (λ cause x. ap (λ (y : VolumeState). y.store.pool) x.1) (λ down x. ap (λ (y : VolumeState). y.store.pool) x.1)

  -- nothing was made then
  pub refused_breaks : (Q : Cause → Type 0) (M : VolumeState → Type 0) (B : Type 0) → OneContent → IsReady v.store → ((cause : Cause) → P cause → Q cause) → (E → Breaks M v w → B) → IfRefused e (λ cause. Q cause × SameVolume v w) (λ down. B)
  refused_breaks Q M B one ready so broke = refused_so e (λ cause. P cause × SameVolume v w) (λ cause. Q cause × SameVolume v w) (λ down. E × FellIn down v w) (λ down. B) is
      (λ cause x. (so cause x.0, x.1)) (λ down x. broke x.0 (inl (fell_old down v v w one ready refl x.1)))

-- What is made of a volume is made of one that is the same but for reads.
module _ (v x : VolumeState) (same : SameVolume v x) where
  same_content : content x.store ≡ content v.store
  same_content = ap (λ (y : VolumeState). content y.store) same

  enters_from : (file : ℕ) (h : FileHead) (held : Key → Bool) (key : Key) (after : Option (List ℕ)) (a e : Entry) (w : VolumeState) → EntersKey file h held key after a e x w → EntersKey file h held key after a e v w
  enters_from file h held key after a e w m = record {
    image = m.image;
    entry = m.entry;
    set = m.set;
    head = m.head;
    stages = stages_read file h m.head 417 v x m.set same m.stages;
    sets = subst (λ (y : VolumeState). TellsSet h held key after y m.set m.head) same m.sets;
    imaged = m.imaged;
    images = m.images;
    current = subst (λ (y : VolumeState). w.store.current ≡ option_map (entered y.catalog.ru (spelling e)) m.imaged.store.current) same m.current;
    catalog = subst (λ (y : VolumeState). w.catalog ≡ record m.imaged.catalog { ru = longer (length (spelling e)) y.catalog.ru }) same m.catalog;
  }

  commits_from : (file : ℕ) (h : FileHead) (held : Key → Bool) (key : Key) (after : Option (List ℕ)) (a e : Entry) (tid : Tid) (moment : ℕ) (left : List (Option OpenUnit)) (w : VolumeState) →
      CommitsKey file h held key after a e tid moment left x w → CommitsKey file h held key after a e tid moment left v w
  commits_from file h held key after a e tid moment left w m = record {
    set = m.set;
    head = m.head;
    stages = stages_read file h m.head 417 v x m.set same m.stages;
    sets = subst (λ (y : VolumeState). TellsSet h held key after y m.set m.head) same m.sets;
    each = m.each;
    imaged = m.imaged;
    images = m.images;
    closing = m.closing;
    closed = m.closed;
    closes = m.closes;
    settles = m.settles;
  }

-- A change by a unit. What is written and where it is made are told by what they are equal to.
module _ (u : OpenUnit) (file : ℕ) (h : FileHead) (how : KeyChange) (key : Key) (value told found : List ℕ) (s : UnitsState) (v x w : VolumeState) (is : told ≡ value) (same : SameVolume v x)
    (had : OfRecords h v (λ m. before_change how (unwrap_or (m key) []) ≡ before_change how found)) where
  entry : (made : VolumeState) → MakesEntry u file h how key told found s.locks x made → MakesEntry u file h how key value found s.locks v made
  entry made m = subst (λ (b : List ℕ). MakesEntry u file h how key b found s.locks v made) is
      (enters_from v x same file h (λ k. is_some (holder s.locks file k)) key (after_change how told) (change_entry u.tid u.serial file key (after_change how told)) (change_entry u.tid u.serial file key (before_change how found)) made m)

  pub changed : (place : ℕ) (by : Id) (t : UnitsState) → by ≡ u.serial → locks_refuse (Some by) file (keys_asked h how key) s.locks ≡ None →
      ((a : List (List ℕ)) → v.store.current ≡ Some a → IsFile h → IsLaidOut h a → change_refused_after_reading u file h how key value s v a ≡ None) → MakesEntry u file h how key told found s.locks x w →
      t.units ≡ with_unit place (with_position x.catalog.ru.end file u) s.units → has_changed (with_position x.catalog.ru.end file u) file ≡ true → t.locks ≡ with_locks by file (keys_asked h how key) s.locks → ChangesKey place u file h how key value s v t w
  changed place by t serial early late makes units noted locks = record {
    early = subst (λ (b : Id). locks_refuse (Some b) file (keys_asked h how key) s.locks ≡ None) serial early;
    made = record {
      late = late;
      found = found;
      had = had;
      enters = entry w makes;
    };
    units = units ∙ (λ i. with_unit place (with_position (same i).catalog.ru.end file u) s.units);
    changed = subst (λ (y : VolumeState). has_changed (with_position y.catalog.ru.end file u) file ≡ true) same noted;
    locks = locks ∙ (λ i. with_locks (serial i) file (keys_asked h how key) s.locks);
  }

  pub broken : (by : Id) → by ≡ u.serial → locks_refuse (Some by) file (keys_asked h how key) s.locks ≡ None →
      ((a : List (List ℕ)) → v.store.current ≡ Some a → IsFile h → IsLaidOut h a → change_refused_after_reading u file h how key value s v a ≡ None) → Breaks (MakesEntry u file h how key told found s.locks x) x w → KeyBroke u file h how key value s v w
  broken by serial early late breaks = record {
    early = subst (λ (b : Id). locks_refuse (Some b) file (keys_asked h how key) s.locks ≡ None) serial early;
    breaks = breaks_from (MakesEntry u file h how key told found s.locks x) (MakesKey u file h how key value s v) v x w (same_content v x same)
        (λ made m. record { late = late; found = found; had = had; enters = entry made m }) breaks;
  }

-- A change without one.
module _ (tid : Tid) (clock moment : ℕ) (file : ℕ) (h : FileHead) (how : KeyChange) (key : Key) (value told found : List ℕ) (s : UnitsState) (v x w : VolumeState) (is : told ≡ value) (same : SameVolume v x) (next : moment ≡ next_moment clock x.catalog.home)
    (had : OfRecords h v (λ m. before_change how (unwrap_or (m key) []) ≡ before_change how found)) where
  abbrev Told : List ℕ → ℕ → VolumeState → VolumeState → Type 0
  Told b m from made = CommitsKey file h (λ k. is_some (holder s.locks file k)) key (after_change how b) (own_change tid file key (after_change how b)) (own_change tid file key (before_change how found)) tid m s.units.places from made

  at : moment ≡ next_moment clock v.catalog.home
  at = next ∙ (λ i. next_moment clock (same i).catalog.home)

  abbrev Late : Type 0
  Late = (a : List (List ℕ)) → v.store.current ≡ Some a → IsFile h → IsLaidOut h a → direct_refused_after_reading file h how key value s a ≡ None

  commits : Late → (made : VolumeState) → Told told moment x made → CommitsChange tid clock file h how key value s v made
  commits late made m = record {
    late = late;
    found = found;
    had = had;
    commits = subst (λ (n : ℕ). Told value n v made) at (subst (λ (b : List ℕ). Told b moment v made) is
        (commits_from v x same file h (λ k. is_some (holder s.locks file k)) key (after_change how told) (own_change tid file key (after_change how told)) (own_change tid file key (before_change how found)) tid moment s.units.places made m));
  }

  pub committed : Late → Told told moment x w → CommitsChange tid clock file h how key value s v w
  committed late m = commits late w m

  pub uncommitted : Late → Breaks (Told told moment x) x w → Breaks (CommitsChange tid clock file h how key value s v) v w
  uncommitted late b = breaks_from (Told told moment x) (CommitsChange tid clock file h how key value s v) v x w (same_content v x same) (commits late) b
