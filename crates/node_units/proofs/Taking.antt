-- What a restart asks of the units and the volume, and where the journal begins in it on any disk.
use Rattle.std.proofs.Common.{◌≡◌, ◌∙◌, ℕ, zero, suc, ◌+◌, List, [], length, ap, sym, subst}
use Rattle.std.specs.Option.{IfSome}
use Rattle.lmcp_log.specs.Log.{OnlyRead}
use Rattle.log_laws.specs.Slots.{Slots}
use Rattle.ru_journal.specs.Told.{UnitTold}
use Rattle.rms_units.specs.unit_aborts.Reopening.{HasTaken, Reopens, broken, full, taken}
use Rattle.rms_units.specs.unit_aborts.declared.reopening.AbortedUnit.{AbortedUnit}
use Rattle.unit_table.specs.Places.{AreInOrder}
use Rattle.unit_table.specs.Units.{OpenUnit}
use Rattle.volume.specs.State.{VolumeState}
use Rattle.recovery_units.specs.State as calls
use Rattle.recovery_units.specs.State.{HasNoUnit, UnitsState}
use Rattle.rms_units.specs.State as rms
use Rattle.node_units.specs.Seen.{seen}
use Rattle.node_units.proofs.Nothing.{nothing_unseen}
use Rattle.node_units.proofs.Seeing.{order_unseen}
use Rattle.node_units.proofs.Writing.{aborts_start}

-- No unit is begun before it, whatever the log is.
module _ (s : rms.UnitsState) (log : Slots) (v : VolumeState) (was : UnitsState) (at : AreInOrder s.units.places s.units.order) (view : seen s log ≡ was) (empty : HasNoUnit was) (order : calls.IsInOrder (record was { log = [] }) v) where
  pub none_before : s ≡ rms.nothing_begun
  none_before = nothing_unseen s log at (subst HasNoUnit (sym view) empty)

  pub order_before : rms.IsInOrder s v
  order_before = order_unseen s [] v at (subst (λ (z : UnitsState). calls.IsInOrder (record z { log = [] }) v) (sym view) order)

  pub order_none : rms.IsInOrder rms.nothing_begun v
  order_none = subst (λ (z : rms.UnitsState). rms.IsInOrder z v) none_before order_before

-- a content that was read is as large as the disk says
pub sized_read : (v x : VolumeState) → OnlyRead v.store x.store → IfSome v.store.current (λ c. length c + 518 ≡ v.store.disk.size) → IfSome x.store.current (λ c. length c + 518 ≡ x.store.disk.size)
sized_read v x only sized = subst (λ (n : ℕ). IfSome x.store.current (λ c. length c + 518 ≡ n)) (sym only.disk.size) (subst (λ o. IfSome o (λ c. length c + 518 ≡ v.store.disk.size)) (sym only.current) sized)

-- The journal begins in the same block.

start_taken : (clock : ℕ) (us : List UnitTold) (many : ℕ) (v w : VolumeState) (out : List AbortedUnit) → HasTaken clock us many v w out → w.catalog.ru.start ≡ v.catalog.ru.start
start_taken clock us zero v w out t = ap (λ (z : VolumeState). z.catalog.ru.start) t.0
start_taken clock us (suc k) v w out t = aborts_start _ t.0 w t.6.aborts ∙ start_taken clock us k v t.0 t.1 t.4

pub start_reopened : (clock : ℕ) (v w : VolumeState) (out : List AbortedUnit) (left : List OpenUnit) → Reopens clock v w out left → w.catalog.ru.start ≡ v.catalog.ru.start
start_reopened clock v w out left (broken not same told none) = ap (λ (z : VolumeState). z.catalog.ru.start) same
start_reopened clock v w out left (full us are more same told none) = ap (λ (z : VolumeState). z.catalog.ru.start) same
start_reopened clock v w out left (taken us many are took last rest) = start_taken clock us many v w out took
