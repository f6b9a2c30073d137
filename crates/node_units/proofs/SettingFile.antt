-- A file of a node's volume is changed by what is staged: all else stays as it was. A key of it is set.
use Rattle.std.proofs.Common.{◌≡◌, ◌+◌, ℕ, List, [], ◌∷◌, length, Bool, Option, Some, None, slice_set, refl, sym, ◌∙◌, ap, subst, arith, length-set}
use Rattle.std.specs.Prelude.{is_some, MatchOption, IsSomeAnd}
use Rattle.std.specs.Option.{IfSome}
use Rattle.careful_write.specs.State.{EachWhole}
use Rattle.careful_write.specs.Steps.{AgreesOff}
use Rattle.file_base.specs.declared.head.FileHead.{FileHead}
use Rattle.record_locks.specs.Locks as table
use Rattle.record_locks.proofs.LockLemmas.{locked_is}
use Rattle.vms_model.specs.Keys.{Key}
use Rattle.volume.specs.declared.catalog.Catalog.{Catalog}
use Rattle.volume.specs.Catalogs.{IsSound, TellsCatalog}
use Rattle.volume.specs.State.{Holds, VolumeState}
use Rattle.volume_files.specs.Staging.{SetsKey, StagesFile, is_of_file}
use Rattle.records_model.specs.Records.{Change}
use Rattle.recovery_units.specs.run_model.Locks.{is_locked}
use Rattle.recovery_units.specs.run_model.World.{Node}
use Rattle.unit_world.specs.directory_model.Files.{AgreesOnCarried, head_at}
use Rattle.unit_world.specs.directory_model.Laws.{IsChanged, SameBut}
use Rattle.recovery_units.specs.volume_model.Homes.{HasHome}
use Rattle.recovery_units.specs.volume_model.Laws.{KeepsNames}
use Rattle.recovery_units.specs.volume_model.Volumes.{HasJournal, HasLog}
use Rattle.lmcp_log.specs.Keeping.{SameSlots}
use Rattle.unit_world.proofs.volume_laws.ToldLemmas.{logs_follow}
use Rattle.unit_world.specs.file_images.Files.{SameRing}
use Rattle.unit_world.proofs.volume_laws.FollowLemmas.{follow}
use Rattle.undo_laws.proofs.unit_undo.ApartLemmas.{carried_keep, journal_off, others_keep}
use Rattle.unit_world.proofs.Staying.{names_set}
use Rattle.recovery_units.specs.State.{AreLocks}
use Rattle.node_units.proofs.Locking.{AreOnce, locked_alike}

-- What a volume has besides a file that was changed: this head is the file's, what the file carries and what the other files have stands, and the home and the journal
-- are the node's still.
pub record KeepsRest (n : Node) (f : ℕ) (new : FileHead) (a b : List (List ℕ)) (v mid : VolumeState) : Type 0 where
  pub heads : mid.catalog.heads ≡ slice_set v.catalog.heads f (Some new)
  pub long : length mid.catalog.heads ≡ 64
  pub names : KeepsNames v.catalog.heads mid.catalog.heads
  pub others : SameBut f v.catalog.heads a b
  pub carried : (h : FileHead) → head_at v.catalog.heads f ≡ Some h → AgreesOnCarried h a b
  pub whole : EachWhole b
  pub tells : TellsCatalog mid.catalog b
  pub sound : IsSound n.name n.blocks mid.catalog
  pub home : HasHome mid.catalog.home n
  pub journal : HasJournal b mid.catalog n
  pub log : HasLog b n
  pub ring : mid.catalog.ru ≡ v.catalog.ru

-- What is asked of a volume in which a file is changed: it tells this content, and is the node's.
pub record IsOfNode (n : Node) (a : List (List ℕ)) (v : VolumeState) : Type 0 where
  pub told : v.store.current ≡ Some a
  pub holds : Holds v
  pub sound : IsSound n.name n.blocks v.catalog
  pub long : length v.catalog.heads ≡ 64
  pub size : v.store.disk.size ≡ n.blocks
  pub home : HasHome v.catalog.home n
  pub journal : HasJournal a v.catalog n
  pub log : HasLog a n

-- a change of a key from what it had
abbrev pub set_change : Key → (before after : Option (List ℕ)) → Change
set_change key before after = record { key = key; before = before; after = after }

module _ (n : Node) (f limit : ℕ) (h new : FileHead) (a b : List (List ℕ)) (v mid : VolumeState) (is : IsOfNode n a v) (there : head_at v.catalog.heads f ≡ Some h) (s : StagesFile f h limit v mid new) (now : mid.store.current ≡ Some b) where
  agrees : AgreesOff (is_of_file f h) a b
  agrees =
      subst (λ o. IsSomeAnd o (AgreesOff (is_of_file f h) a)) now
      (subst (λ o. MatchOption o (mid.store.current ≡ None) (λ x. IsSomeAnd mid.store.current (AgreesOff (is_of_file f h) x))) is.told s.blocks)

  heads_are : mid.catalog.heads ≡ slice_set v.catalog.heads f (Some new)
  heads_are = ap (λ (k : Catalog). k.heads) s.catalog

  called : new.name ≡ h.name
  called = ap (λ (x : FileHead). x.name) s.same.is

  pub ring_same : EachWhole b → SameRing v.catalog.ru a b
  ring_same whole = record {
    size = agrees.size;
    whole = whole;
    blocks = λ k from to. agrees.others k (journal_off n.name n.blocks v.catalog is.long is.sound f h there k (let start = is.sound.ru_start in omega (arith, start, from)) to);
  }

  slots_same : SameSlots (length n.durable.log) a b
  slots_same i below = agrees.others (66 + i) (journal_off n.name n.blocks v.catalog is.long is.sound f h there (66 + i) (omega arith) (let slots = is.home.slots in let start = is.sound.ru_start in omega (arith, below, slots, start)))

  pub keeps_rest : EachWhole b → KeepsRest n f new a b v mid
  keeps_rest whole =
      let names : KeepsNames v.catalog.heads mid.catalog.heads = subst (KeepsNames v.catalog.heads) (sym heads_are) (names_set v.catalog.heads f h new there called) in
      record {
        heads = heads_are;
        long = ap length heads_are ∙ length-set v.catalog.heads f (Some new) ∙ is.long;
        names = names;
        others = λ g other unlike at. record {
          own = others_keep n.name n.blocks v.catalog is.long is.sound f h a b there agrees g other unlike at;
          carried = carried_keep n.name n.blocks v.catalog is.long is.sound f h a b there agrees is.journal.is.ring.whole whole g other at;
        };
        carried = λ k at. carried_keep n.name n.blocks v.catalog is.long is.sound f h a b there agrees is.journal.is.ring.whole whole f k at;
        whole = whole;
        tells = subst (λ o. IfSome o (TellsCatalog mid.catalog)) now (s.holds is.holds);
        sound = subst (λ (x : ℕ). IsSound n.name x mid.catalog) is.size (s.sound n.name (subst (λ (x : ℕ). IsSound n.name x v.catalog) (sym is.size) is.sound));
        home = subst (λ (k : Catalog). HasHome k.home n) (sym s.catalog) is.home;
        journal = follow.stays a b v.catalog mid.catalog n n is.journal refl (ap (λ (k : Catalog). k.ru) s.catalog) names (ring_same whole);
        log = logs_follow.stays a b n n is.log refl slots_same;
        ring = ap (λ (k : Catalog). k.ru) s.catalog;
      }

-- A key was set: the file is changed so, whatever is noted of what it had.
pub set_changes : (f limit : ℕ) (h new : FileHead) (held : Key → Bool) (key : Key) (before value : Option (List ℕ)) (a b : List (List ℕ)) (v mid : VolumeState) → StagesFile f h limit v mid new → SetsKey h held key value a b new →
    IsChanged held (set_change key before value ∷ []) a h b new
set_changes f limit h new held key before value a b v mid s k = record { same = s.same; form = k.form; laid = k.laid; map = k.map; layout = k.layout }

-- the keys of a file that are held, in the world
pub held_alike : (heads : List (Option FileHead)) → AreOnce heads → (f : ℕ) (h : FileHead) → head_at heads f ≡ Some h → (n : Node) (ls : List table.Lock) → AreLocks heads ls n.volatile.locks →
    ◌≡◌ {A = Key → Bool} (λ key. is_some (table.holder ls f key)) (is_locked n.volatile.locks h.name)
held_alike heads once f h there n ls are = λ i key. (sym (locked_is ls f key) ∙ sym (locked_alike heads once f h there ls n.volatile.locks key are)) i
