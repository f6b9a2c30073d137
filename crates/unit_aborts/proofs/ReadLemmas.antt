-- What a restart made of a volume, where that is the same as another but for reads.
use Rattle.std.proofs.Common.{ℕ, zero, suc, List, Option, ◌∙◌, ap}
use Rattle.careful_write.proofs.Reading.{idle_read}
use Rattle.ru_journal.specs.Told.{UnitTold}
use Rattle.unit_table.specs.Units.{OpenUnit}
use Rattle.volume.specs.State.{SameVolume, VolumeState}
use Rattle.volume.proofs.Reading.{store_of_same, volume_on}
use Rattle.unit_aborts.specs.declared.reopening.AbortedUnit.{AbortedUnit}
use Rattle.unit_aborts.specs.Aborting.{Abortion, MakesAbort}
use Rattle.unit_aborts.specs.Reopening.{HasTaken, Reopens, UndoesOne, broken, failed_at, full, left_after, left_units, taken}

module _ (v w : VolumeState) (same : SameVolume v w) where
  made_to : (x : Abortion) (u : VolumeState) → MakesAbort x u v → MakesAbort x u w
  made_to x u m = record {
    mid = m.mid;
    entered = m.entered;
    settles = record { current = ap (λ (y : VolumeState). y.store.current) same ∙ m.settles.current; catalog = ap (λ (y : VolumeState). y.catalog) same ∙ m.settles.catalog };
  }

  undoes_to : (clock : ℕ) (u : UnitTold) (left : List (Option OpenUnit)) (t : AbortedUnit) (start mid : VolumeState) → UndoesOne clock u left t start mid v → UndoesOne clock u left t start mid w
  undoes_to clock u left t start mid o = record {
    positions = o.positions;
    found = o.found;
    files = o.files;
    filed = o.filed;
    room = o.room;
    tid = o.tid;
    serial = o.serial;
    moment = o.moment;
    aborts = record { mid = o.aborts.mid; goes = o.aborts.goes; undoes = o.aborts.undoes; makes = made_to (failed_at o.positions o.files t.tid t.serial t.moment.0 left) o.aborts.mid o.aborts.makes };
    idle = idle_read v.store w.store (store_of_same v w same) o.idle;
  }

  taken_to : (clock : ℕ) (us : List UnitTold) (many : ℕ) (u : VolumeState) (out : List AbortedUnit) → HasTaken clock us many u v out → HasTaken clock us many u w out
  taken_to clock us zero u out h = (volume_on u v w h.0 same, h.1)
  taken_to clock us (suc k) u out h = (h.0, h.1, h.2, h.3, h.4, h.5, undoes_to clock h.2 (left_units (left_after (suc k) us)) h.3 u h.0 h.6, h.7)

  pub reopens_to : (clock : ℕ) (u : VolumeState) (out : List AbortedUnit) (left : List OpenUnit) → Reopens clock u v out left → Reopens clock u w out left
  reopens_to clock u out left (broken wrong is nothing none) = broken wrong (volume_on u v w is same) nothing none
  reopens_to clock u out left (full us are over is nothing none) = full us are over (volume_on u v w is same) nothing none
  reopens_to clock u out left (taken us many are has all rest) = taken us many are (taken_to clock us many u out has) all rest
