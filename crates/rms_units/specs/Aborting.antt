-- What an abort of a unit promises.
use Rattle.std.specs.Prelude.{◌≡◌, ℕ}
use Rattle.unit_restarts.specs.unit_aborts.Aborting.{Abortion, Aborts, BreaksOff}
use Rattle.unit_journal.specs.Settling.{next_moment}
use Rattle.unit_table.specs.Units.{OpenUnit}
use Rattle.vms_base.specs.Ids.{serial_of, tid_of}
use Rattle.vms_base.specs.declared.ids.Serial.{Serial}
use Rattle.vms_base.specs.declared.ids.Tid.{Tid}
use Rattle.vms_base.specs.declared.outcomes.Reason.{Reason}
use Rattle.volume.specs.State.{VolumeState}
use Rattle.rms_units.specs.State.{UnitsState, without_place}

-- a unit's branch is aborted for a reason at a moment, and the units of this state are left
abbrev pub abortion_of : OpenUnit → Tid → Serial → Reason → (moment : ℕ) → UnitsState → Abortion
abortion_of u tid serial reason moment t = record { positions = u.positions; files = u.files; tid = tid; serial = serial; reason = reason; moment = moment; left = t.units.places }

-- A unit is aborted: it is no more, what it changed is set back, and its settlement is made at this moment.
pub record AbortsUnit (place : ℕ) (u : OpenUnit) (told_tid : Tid) (told_serial : Serial) (reason : Reason) (clock told_moment : ℕ) (s : UnitsState) (v : VolumeState) (t : UnitsState) (w : VolumeState) : Type 0 where
  pub spent : t ≡ without_place place u.serial s
  pub tid : tid_of told_tid ≡ u.tid
  pub serial : serial_of told_serial ≡ u.serial
  pub moment : told_moment ≡ next_moment clock v.catalog.home
  pub aborts : Aborts (abortion_of u told_tid told_serial reason told_moment t) v w

-- The disk went down in it, and the unit is no more: any part of what it changed may be set back, and the last group was perhaps under way.
pub record AbortsNot (place : ℕ) (u : OpenUnit) (reason : Reason) (clock : ℕ) (s : UnitsState) (v : VolumeState) (t : UnitsState) (w : VolumeState) : Type 0 where
  pub spent : t ≡ without_place place u.serial s
  pub tid : Tid
  pub serial : Serial
  pub same_tid : tid_of tid ≡ u.tid
  pub same_serial : serial_of serial ≡ u.serial
  pub breaks : BreaksOff (abortion_of u tid serial reason (next_moment clock v.catalog.home) t) v w
