-- The files of a volume one after another, from what the calls promise.
use Rattle.std.proofs.Common.{◌≡◌, ℕ, ◌+◌, ◌≤◌, List, length, Option, Some, IfSome, refl, sym, ◌∙◌, ap, subst, arith}
use Rattle.careful_write.specs.State.{EachWhole, IsEither, IsIdle, Leaves, content}
use Rattle.unit_entries.specs.change_set.Files.{free_frames}
use Rattle.file_base.specs.declared.head.FileHead.{FileHead}
use Rattle.journal_store.specs.Rings.{IsRing}
use Rattle.vms_model.specs.Ids.{Id}
use Rattle.journal_format.specs.journal_model.Entries.{Entry}
use Rattle.unit_entries.specs.run_model.World.{File}
use Rattle.volume.specs.declared.catalog.Catalog.{Catalog}
use Rattle.volume.specs.Catalogs.{IsSound}
use Rattle.volume.specs.State.{VolumeState}
use Rattle.directory_model.specs.Files.{head_at}
use Rattle.unit_entries.specs.Keys.{KeyTold}
use Rattle.unit_undo.specs.Undoing.{IsFew, MayGoOn}
use Rattle.unit_undo.specs.FileWays.{ChangesOnly, IsStill, FailsGoing, TellsBackFile, TellsFailed, UndoesNumber, there, free, FailsNumber}
use Rattle.unit_undo.specs.UnitWays.{undo_of, HasUndone, IsUndoneIn, TellsUnit}
use Rattle.unit_undo.specs.Way.{IsUndoable, FailsOnTheWay, Undoes}
use Rattle.unit_undo.proofs.StepLemmas.{goes_same, goes_through, fails_going, failed_since, may_go}
use Rattle.unit_undo.proofs.UnitLemmas.{unit_begins, unit_skips, the_file, unit_still, unit_goes_on, unit_ends}

-- A unit of a volume between two groups.
module _ (ps : List ℕ) (ks : List KeyTold) (v : VolumeState) (node : List ℕ) (idle : IsIdle v.store) (sound : IsSound node v.store.disk.size v.catalog) (size : IfSome v.store.current (λ blocks. length blocks + 518 ≡ v.store.disk.size)) (whole : IfSome v.store.current EachWhole) where
  pub undone_begins : HasUndone ps 0 v v 0
  undone_begins = record {
    goes = goes_same v idle.ready;
    few = record { blocks = (let none = ap length idle.unstaged in omega (arith, none)); most = omega arith };
    undone = λ serial a directory es can. unit_begins serial ps v a directory es can v idle refl refl refl size whole;
  }

  pub reading_fails : (w : VolumeState) → Leaves (IsEither (content v.store) v.store.current) w.store.disk → FailsOnTheWay ps v w
  reading_fails w leaves serial a directory es can = fails_going (undo_of serial a v directory) v w (unit_begins serial ps v a directory es can v idle refl refl refl size whole).way leaves

  pub may_number : 4096 ≤ v.store.disk.size → v.store.disk.size ≤ 65536 → 32 ≤ free_frames v.store.pool → IsRing v.catalog.ru v.store.disk → (f : ℕ) (w : VolumeState) (steps : ℕ) → HasUndone ps f v w steps → MayGoOn steps w
  may_number least most frames ring f w steps so =
      may_go 0 v w so.goes (record { ready = idle.ready; node = node; sound = sound; least = least; most = most; frames = frames; ring = ring; few = undone_begins.few }) steps so.few

  module _ (told : TellsUnit ps ks v) (f : ℕ) (w : VolumeState) (steps : ℕ) (so : HasUndone ps f v w steps) where
    same_ru : w.catalog.ru ≡ v.catalog.ru
    same_ru = ap (λ (k : Catalog). k.ru) so.goes.catalog

    module _ (first : FileHead) (at : head_at w.catalog.heads f ≡ Some first) (serial : Id) (a : List (List ℕ)) (directory : List (Option File)) (es : List Entry) (can : IsUndoable serial ps v a directory es) where
      done : IsUndoneIn (undo_of serial a v directory) f w
      done = so.undone serial a directory es can

      abbrev file : File
      file = (the_file serial ps v a directory es can f w done first at).0

      still : IsStill (undo_of serial a v directory) f first file ks w
      still = subst (λ (xs : List KeyTold). IsStill (undo_of serial a v directory) f first file xs w) (sym (told a es can.told can.entries)) (unit_still serial ps v a directory es can f w done first at same_ru)

      number_undone : (x : VolumeState) (new : FileHead) → ChangesOnly f first w x new → TellsBackFile f first ks w x new → IsUndoneIn (undo_of serial a v directory) (f + 1) x
      number_undone x new only back =
          unit_goes_on serial ps v a directory es can f w done first at x new node (so.goes.long ∙ can.left.heads_long) (subst (λ (n : ℕ). IsSound node n w.catalog) (sym so.goes.quiet.size) (so.goes.sound node sound)) only
          (back (undo_of serial a v directory) file still)

      number_failed : (x : VolumeState) → TellsFailed f first ks w x → FailsGoing (undo_of serial a v directory) v x
      number_failed x failed = failed_since (undo_of serial a v directory) v w x so.goes (failed (undo_of serial a v directory) file still)

    pub undone_more : (x : VolumeState) (more : ℕ) → UndoesNumber f ks w x → IsFew more x → HasUndone ps (f + 1) v x more
    undone_more x more (there first new at only back) few = record {
      goes = goes_through v w x so.goes only.goes;
      few = few;
      undone = λ serial a directory es can. number_undone first at serial a directory es can x new only back;
    }
    undone_more x more (free none same) few = subst (λ (y : VolumeState). IsFew more y → HasUndone ps (f + 1) v y more) (sym same)
        (λ is. record { goes = so.goes; few = is; undone = λ serial a directory es can. unit_skips serial ps v a directory es can f w (so.undone serial a directory es can) none }) few

    pub number_fails : (x : VolumeState) → FailsNumber f ks w x → FailsOnTheWay ps v x
    number_fails x fails serial a directory es can = number_failed fails.first fails.there serial a directory es can x fails.failed

  pub undone_ends : (w : VolumeState) (steps : ℕ) → HasUndone ps 64 v w steps → Undoes ps v w
  undone_ends w steps so serial a directory es can = unit_ends serial ps v a directory es can w (so.goes.long ∙ can.left.heads_long) (so.undone serial a directory es can)
