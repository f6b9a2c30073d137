-- What is said of a volume is said of one that is the same but for reads.
use Rattle.std.proofs.Common.{◌≡◌, ℕ, ◌+◌, ◌*◌, ◌<◌, ◌≤◌, List, Option, Some, length, slice_set, sym, subst}
use Rattle.std.specs.Prelude.{◌⊎◌}
use Rattle.careful_write.specs.State.{content}
use Rattle.careful_write.specs.Steps.{Quiet}
use Rattle.careful_write.proofs.Reading.{ready_read}
use Rattle.unit_entries.specs.change_set.Files.{AgreesOut, free_frames}
use Rattle.file_base.specs.declared.head.FileHead.{FileHead}
use Rattle.directory_model.specs.Files.{head_at, file_at}
use Rattle.directory_model.specs.Restoring.{AreGrouped, IsPlaceRestored}
use Rattle.journal_store.specs.Rings.{IsRing}
use Rattle.unit_entries.specs.run_model.World.{File}
use Rattle.vms_model.specs.Ids.{Id}
use Rattle.volume.specs.Catalogs as volume
use Rattle.volume.specs.Catalogs.{IsSound, TellsCatalog}
use Rattle.volume.specs.State.{Holds, SameVolume, VolumeState}
use Rattle.volume.proofs.Reading.{store_of_same}
use Rattle.volume_files.specs.Staging.{is_of_file}
use Rattle.unit_undo.specs.Undoing.{ChangesFile, GoesOn, IsFew, MayUndo, journals_at}
use Rattle.unit_undo.specs.FileWays.{ChangesOnly, IsBackUpTo, Undo}
use Rattle.unit_undo.specs.UnitWays.{HasUndone, IsUndoneIn, undo_of}
use Rattle.unit_undo.specs.Way.{ArePartlyUndone, IsOnTheWay, IsUnderWay, KeepsJournal}

module _ (v w : VolumeState) (same : SameVolume v w) where
  -- from it on
  goes_from : (x : VolumeState) → GoesOn w x → GoesOn v x
  goes_from x g = record {
    ready = g.ready;
    pool = subst (λ (y : VolumeState). x.store.pool ≡ y.store.pool) same g.pool;
    catalog = subst (λ (y : VolumeState). x.catalog ≡ record y.catalog { heads = x.catalog.heads }) same g.catalog;
    long = subst (λ (y : VolumeState). length x.catalog.heads ≡ length y.catalog.heads) same g.long;
    journals = subst (λ (y : VolumeState). (file : ℕ) → journals_at x.catalog.heads file ≡ journals_at y.catalog.heads file) same g.journals;
    sound = subst (λ (y : VolumeState). (node : List ℕ) → IsSound node y.store.disk.size y.catalog → IsSound node y.store.disk.size x.catalog) same g.sound;
    holds = subst (λ (y : VolumeState). Holds y → Holds x) same g.holds;
    quiet = subst (λ (y : VolumeState). Quiet y.store.disk x.store.disk) same g.quiet;
  }

  pub changes_from : (f : ℕ) (h new : FileHead) (x : VolumeState) → ChangesFile f h w x new → ChangesFile f h v x new
  changes_from f h new x c = record {
    goes = goes_from x c.goes;
    same = c.same;
    heads = subst (λ (y : VolumeState). x.catalog.heads ≡ slice_set y.catalog.heads f (Some new)) same c.heads;
    blocks = subst (λ (y : VolumeState). AgreesOut (is_of_file f h) y.store.current x.store.current) same c.blocks;
    applied = subst (λ (y : VolumeState). (content x.store ≡ content y.store) ⊎ (content x.store ≡ y.store.current)) same c.applied;
    whole = c.whole;
  }

  -- and up to it
  goes_to : (u : VolumeState) → GoesOn u v → GoesOn u w
  goes_to u g = record {
    ready = ready_read v.store w.store (store_of_same v w same) g.ready;
    pool = subst (λ (y : VolumeState). y.store.pool ≡ u.store.pool) (sym same) g.pool;
    catalog = subst (λ (y : VolumeState). y.catalog ≡ record u.catalog { heads = y.catalog.heads }) (sym same) g.catalog;
    long = subst (λ (y : VolumeState). length y.catalog.heads ≡ length u.catalog.heads) (sym same) g.long;
    journals = subst (λ (y : VolumeState). (file : ℕ) → journals_at y.catalog.heads file ≡ journals_at u.catalog.heads file) (sym same) g.journals;
    sound = subst (λ (y : VolumeState). (node : List ℕ) → IsSound node u.store.disk.size u.catalog → IsSound node u.store.disk.size y.catalog) (sym same) g.sound;
    holds = subst (λ (y : VolumeState). Holds u → Holds y) (sym same) g.holds;
    quiet = subst (λ (y : VolumeState). Quiet u.store.disk y.store.disk) (sym same) g.quiet;
  }

  pub only_to : (f : ℕ) (h new : FileHead) (u : VolumeState) → ChangesOnly f h u v new → ChangesOnly f h u w new
  only_to f h new u c = record {
    goes = goes_to u c.goes;
    same = c.same;
    heads = subst (λ (y : VolumeState). y.catalog.heads ≡ slice_set u.catalog.heads f (Some new)) (sym same) c.heads;
    blocks = subst (λ (y : VolumeState). AgreesOut (is_of_file f h) u.store.current y.store.current) (sym same) c.blocks;
  }

  pub few_to : (steps : ℕ) → IsFew steps v → IsFew steps w
  few_to steps few = record { blocks = subst (λ (y : VolumeState). length y.store.touched ≤ 17 * steps) (sym same) few.blocks; most = few.most }

  pub may_to : (f : ℕ) (h : FileHead) (steps : ℕ) → MayUndo f h steps v → MayUndo f h steps w
  may_to f h steps may = record {
    ready = ready_read v.store w.store (store_of_same v w same) may.ready;
    there = subst (λ (y : VolumeState). volume.head_at y.catalog.heads f ≡ Some h) (sym same) may.there;
    whole = subst (λ (y : VolumeState). length y.catalog.heads ≡ 64) (sym same) may.whole;
    node = may.node;
    sound = subst (λ (y : VolumeState). IsSound may.node y.store.disk.size y.catalog) (sym same) may.sound;
    least = subst (λ (y : VolumeState). 4096 ≤ y.store.disk.size) (sym same) may.least;
    most = subst (λ (y : VolumeState). y.store.disk.size ≤ 65536) (sym same) may.most;
    frames = subst (λ (y : VolumeState). 32 ≤ free_frames y.store.pool) (sym same) may.frames;
    ring = subst (λ (y : VolumeState). IsRing y.catalog.ru y.store.disk) (sym same) may.ring;
    few = few_to steps may.few;
  }

  way_to : (serial : Id) (a : List (List ℕ)) (heads : List (Option FileHead)) (directory : List (Option File)) → IsUnderWay serial a heads directory v → IsUnderWay serial a heads directory w
  way_to serial a heads directory way = record {
    now = way.now;
    told = subst (λ (y : VolumeState). y.store.current ≡ Some way.now) (sym same) way.told;
    tells = subst (λ (y : VolumeState). TellsCatalog y.catalog way.now) (sym same) way.tells;
    size = subst (λ (y : VolumeState). length a + 518 ≡ y.store.disk.size) (sym same) way.size;
    sound = subst (λ (y : VolumeState). (node : List ℕ) → IsSound node y.store.disk.size (record y.catalog { heads = heads }) → IsSound node y.store.disk.size y.catalog) (sym same) way.sound;
    grouped = subst (λ (y : VolumeState). AreGrouped a heads directory way.now y.catalog.heads) (sym same) way.grouped;
    partly = subst (λ (y : VolumeState). ArePartlyUndone serial a heads directory way.now y.catalog.heads) (sym same) way.partly;
    journal = subst (λ (y : VolumeState). KeepsJournal y.catalog.ru a way.now) (sym same) way.journal;
    before = way.before;
    applied = subst (λ (y : VolumeState). content y.store ≡ Some way.before) (sym same) way.applied;
    way = subst (λ (y : VolumeState). IsOnTheWay serial a heads directory y.catalog way.before) (sym same) way.way;
  }

  pub back_to : (u : Undo) (f : ℕ) (first : FileHead) (file : File) (from : ℕ) (h : FileHead) → IsBackUpTo u f first file from v h → IsBackUpTo u f first file from w h
  unfolding way_to
  back_to u f first file from h b = record { way = way_to u.serial u.content u.heads u.directory b.way; back = b.back; others = b.others }

  undone_to : (u : Undo) (count : ℕ) → IsUndoneIn u count v → IsUndoneIn u count w
  unfolding way_to
  undone_to u count d = record {
    way = way_to u.serial u.content u.heads u.directory d.way;
    done = subst (λ (y : VolumeState). (f : ℕ) → f < count → IsPlaceRestored u.serial u.content (head_at u.heads f) (file_at u.directory f) d.way.now (head_at y.catalog.heads f)) (sym same) d.done;
    rest = subst (λ (y : VolumeState). (f : ℕ) → count ≤ f → head_at y.catalog.heads f ≡ head_at u.heads f) (sym same) d.rest;
    agrees = d.agrees;
  }

  pub has_undone_to : (ps : List ℕ) (count steps : ℕ) (u : VolumeState) → HasUndone ps count u v steps → HasUndone ps count u w steps
  has_undone_to ps count steps u so = record {
    goes = goes_to u so.goes;
    few = few_to steps so.few;
    undone = λ serial a directory es undoable. undone_to (undo_of serial a u directory) count (so.undone serial a directory es undoable);
  }
