-- What is in order stays so where a record of the log is written or goes.
use Rattle.std.proofs.Common.{◌≡◌, ◌+◌, ◌-◌, ◌≤◌, ℕ, suc, List, [], ◌∷◌, length, map, Bool, true, false, Option, Some, None, if◌then◌else◌, refl, sym, ap, subst}
use Rattle.std.specs.List.{AllByRecursion}
use Rattle.careful_write.specs.State.{IsIdle}
use Rattle.change_set.specs.Files.{free_frames}
use Rattle.commit_protocol.specs.Messages.{LogRecord, same_id}
use Rattle.recovery_units.specs.image_room.Room.{AllSettlementsFit}
use Rattle.journal_model.specs.Ring.{ring_size}
use Rattle.log_laws.specs.Slots.{Slots, filled, forgotten, has_slot, put_in, replaced, settled_in}
use Rattle.unit_table.specs.Units.{Ascend, OpenUnit}
use Rattle.vms_model.specs.Ids.{Id}
use Rattle.volume.specs.Catalogs.{IsSound}
use Rattle.volume.specs.State.{Holds, VolumeState}
use Rattle.volume.specs.declared.catalog.Catalog.{Catalog}
use Rattle.recovery_units.specs.State as calls
use Rattle.rms_units.specs.State as rms
use Rattle.node_units.specs.Seen.{seen}

long_replaced : (r : LogRecord) (ss : Slots) → length (replaced r ss) ≡ length ss
long_replaced r [] = refl
long_replaced r (None ∷ ss) = ap suc (long_replaced r ss)
long_replaced r (Some q ∷ ss) = go (same_id q.serial r.serial) (long_replaced r ss)
  where
    go : (b : Bool) → length (replaced r ss) ≡ length ss → length (if b then Some r ∷ ss else Some q ∷ replaced r ss) ≡ suc (length ss)
    go true more = refl
    go false more = ap suc more

long_filled : (r : LogRecord) (ss : Slots) → length (filled r ss) ≡ length ss
long_filled r [] = refl
long_filled r (None ∷ ss) = refl
long_filled r (Some q ∷ ss) = ap suc (long_filled r ss)

long_forgotten : (s : Id) (ss : Slots) → length (forgotten s ss) ≡ length ss
long_forgotten s [] = refl
long_forgotten s (None ∷ ss) = ap suc (long_forgotten s ss)
long_forgotten s (Some q ∷ ss) = go (same_id q.serial s) (long_forgotten s ss)
  where
    go : (b : Bool) → length (forgotten s ss) ≡ length ss → length (if b then None ∷ ss else Some q ∷ forgotten s ss) ≡ suc (length ss)
    go true more = refl
    go false more = ap suc more

-- the log has as many slots
pub long_settled : (s : Id) (o : Option LogRecord) (ss : Slots) → length (settled_in s o ss) ≡ length ss
long_settled s None ss = long_forgotten s ss
long_settled s (Some r) ss = go (has_slot r.serial ss)
  where
    go : (b : Bool) → length (if b then replaced r ss else filled r ss) ≡ length ss
    go true = long_replaced r ss
    go false = long_filled r ss

-- A volume has the catalog, the frames and the size that it had, and nothing is staged.
pub order_recorded : (s : rms.UnitsState) (log new : Slots) (v w : VolumeState) → calls.IsInOrder (seen s log) v → w.catalog ≡ v.catalog → w.store.pool ≡ v.store.pool → w.store.disk.size ≡ v.store.disk.size → length new ≡ length log → IsIdle w.store → Holds w →
    calls.IsInOrder (seen s new) w
order_recorded s log new v w order catalog pool size long idle holds = record {
  idle = idle;
  frames = subst (λ p. 32 ≤ free_frames p) (sym pool) order.frames;
  heads = subst (λ (k : Catalog). length k.heads ≡ 64) (sym catalog) order.heads;
  sound = subst (λ (n : ℕ). IsSound w.catalog.home.node n w.catalog) (sym size) (subst (λ (k : Catalog). IsSound k.home.node v.store.disk.size k) (sym catalog) order.sound);
  holds = holds;
  least = subst (λ (n : ℕ). 4096 ≤ n) (sym size) order.least;
  most = subst (λ (n : ℕ). n ≤ 65536) (sym size) order.most;
  ascends = subst (λ (k : Catalog). k.ru.first ≤ k.ru.end) (sym catalog) order.ascends;
  room = subst (λ (k : Catalog). k.ru.end - k.ru.first + calls.owed (seen s log).begun ≤ ring_size k.ru) (sym catalog) order.room;
  within = subst (λ (k : Catalog). AllByRecursion (λ (u : OpenUnit). Ascend k.ru.first k.ru.end u.positions) (seen s log).begun) (sym catalog) order.within;
  few = order.few;
  slots = subst (λ (k : Catalog). 584 + length new ≤ k.ru.start) (sym catalog) (subst (λ (n : ℕ). 584 + n ≤ v.catalog.ru.start) (sym long) order.slots);
  images = subst (λ (k : Catalog). AllSettlementsFit (map Some (seen s log).begun) k.heads) (sym catalog) order.images;
}
