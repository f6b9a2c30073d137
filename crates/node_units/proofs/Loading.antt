-- A volume whose log was read is the one that it was, and so is the restart on it.
use Rattle.std.proofs.Common.{◌≡◌, ◌∙◌, ℕ, ◌+◌, ◌-◌, ◌<◌, ◌≤◌, ◌^◌, List, [], Some, length, map, refl, sym, ap, subst, arith}
use Rattle.std.specs.Option.{IfSome}
use Rattle.block_disk.specs.Disk.{DiskState, MayLeave}
use Rattle.careful_write.specs.State.{IsIdle, StoreState, content}
use Rattle.change_set.specs.Files.{free_frames}
use Rattle.journal_model.specs.Ring.{ring_size}
use Rattle.lmcp_log.specs.Keeping.{Keeps}
use Rattle.lmcp_log.specs.Log.{OnlyRead, with_few_prepared}
use Rattle.log_laws.specs.Slots.{Slots}
use Rattle.record_locks.specs.Locks.{Lock}
use Rattle.rms_units.specs.unit_aborts.Reopening.{reading}
use Rattle.rms_units.specs.unit_aborts.declared.reopening.AbortedUnit.{AbortedUnit}
use Rattle.rms_units.specs.unit_journal.Groups.{LeavesOld}
use Rattle.rms_units.specs.unit_restarts.Restarting.{RestartTold, Restarts, RestartsNot, undoing}
use Rattle.unit_table.specs.Units.{Units, owed}
use Rattle.recovery_units.specs.run_model.World.{Node}
use Rattle.volume.specs.Catalogs.{IsSound, TellsCatalog}
use Rattle.volume.specs.State.{Holds, VolumeState}
use Rattle.recovery_units.specs.image_room.Room.{AllSettlementsFit, images_end}
use Rattle.volume.specs.declared.catalog.Catalog.{Catalog}
use Rattle.recovery_units.specs.volume_model.Volumes.{LeavesVolume}
use Rattle.recovery_units.specs.Calls.{IsRestarting, ReopensErr, ReopensOk}
use Rattle.recovery_units.specs.State.{IsEarly}
use Rattle.recovery_units.specs.Told.{ReopenedTold}
use Rattle.rms_units.specs.State as rms
use Rattle.node_units.specs.Seen.{seen}
use Rattle.node_units.specs.Told.{unit_settled}
use Rattle.node_units.proofs.Coming.{reopens_to}
use Rattle.node_units.proofs.Falling.{idle_leaves}
use Rattle.node_units.proofs.Reopening.{breaks_after}

module _ (v x : VolumeState) (catalog : x.catalog ≡ v.catalog) (only : OnlyRead v.store x.store) where
  idle_read : IsIdle v.store → IsIdle x.store
  idle_read idle = record { ready = only.disk.ready idle.ready; unstaged = only.touched ∙ idle.unstaged; current = only.current ∙ idle.current ∙ sym only.disk.content }

  holds_read : Holds v → Holds x
  holds_read holds = subst (λ o. IfSome o (TellsCatalog x.catalog)) (sym only.current) (subst (λ (k : Catalog). IfSome v.store.current (TellsCatalog k)) (sym catalog) holds)

  pub order_read : (s : rms.UnitsState) → rms.IsInOrder s v → rms.IsInOrder s x
  order_read s order = record {
    idle = idle_read order.idle;
    frames = subst (λ pool. 32 ≤ free_frames pool) (sym only.disk.pool) order.frames;
    heads = ap (λ (k : Catalog). length k.heads) catalog ∙ order.heads;
    sound = subst (λ (n : ℕ). IsSound x.catalog.home.node n x.catalog) (sym only.disk.size) (subst (λ (k : Catalog). IsSound k.home.node v.store.disk.size k) (sym catalog) order.sound);
    holds = holds_read order.holds;
    least = subst (λ (n : ℕ). 4096 ≤ n) (sym only.disk.size) order.least;
    most = subst (λ (n : ℕ). n ≤ 65536) (sym only.disk.size) order.most;
    ascends = subst (λ (k : Catalog). k.ru.first ≤ k.ru.end) (sym catalog) order.ascends;
    room = subst (λ (k : Catalog). k.ru.end - k.ru.first + owed s.units.places ≤ ring_size k.ru) (sym catalog) order.room;
    within = subst (λ (k : Catalog). rms.AreWithin k.ru.first k.ru.end s.units.places) (sym catalog) order.within;
    ascending = subst (λ (k : Catalog). rms.AreAscending k.ru.first k.ru.end s.units.places) (sym catalog) order.ascending;
    images = subst (λ (k : Catalog). AllSettlementsFit s.units.places k.heads) (sym catalog) order.images;
  }

  early_read : IsEarly v → IsEarly x
  early_read early = record { low = subst (λ (k : Catalog). k.ru.end + 2 ^ 22 ≤ 2 ^ 62) (sym catalog) early.low; moment = subst (λ (k : Catalog). k.home.greatest_moment.0 < 24000001000066) (sym catalog) early.moment; images = subst (λ (k : Catalog). images_end k.heads + 2 ^ 24 ≤ 2 ^ 62) (sym catalog) early.images }

  restarting_read : (n : Node) → IsRestarting v n → IsRestarting x n
  restarting_read n r = record {
    content = r.content;
    told = only.current ∙ r.told;
    name = r.name ∙ ap (λ (k : Catalog). k.home.node) (sym catalog);
    blocks = r.blocks ∙ sym only.disk.size;
    leaves = subst (λ (k : Catalog). LeavesVolume r.content k n) (sym catalog) r.leaves;
    disk = r.disk;
    booted = r.booted;
  }

  -- The log is the node's.
  loaded : (n : Node) (r : IsRestarting v n) (found : Slots) → ((ss : Slots) → length ss ≡ v.catalog.home.slots → IfSome v.store.current (λ c. Keeps ss c → found ≡ ss)) → found ≡ n.durable.log
  loaded n r found again = subst (λ o. IfSome o (λ c. Keeps n.durable.log c → found ≡ n.durable.log)) r.told (again n.durable.log r.leaves.home.slots) r.leaves.log.keeps

  -- So a restart promises of each node that the volume may be of, and so does one whose disk goes down.
  module _ (clock : ℕ) (before : clock < 24000001000066) (order : rms.IsInOrder rms.nothing_begun v) (early : IsEarly v) (sized : IfSome x.store.current (λ c. length c + 518 ≡ x.store.disk.size)) where
    pub opens_ok : (found log : Slots) (units : Units) (held : List Lock) (w : VolumeState) (told : RestartTold) (out : ReopenedTold) → ((ss : Slots) → length ss ≡ v.catalog.home.slots → IfSome v.store.current (λ c. Keeps ss c → found ≡ ss)) →
        Restarts clock x found log units held w told → log ≡ with_few_prepared (64 - length told.undone) found → w.store.disk.size ≡ x.store.disk.size → out.settled ≡ map unit_settled told.undone → out.prepared ≡ told.prepared →
        ReopensOk clock out v (seen (record { units = units; locks = held }) log) w
    opens_ok found log units held w told out again restarts log_is size settled prepared n r same =
        reopens_to clock x w n (restarting_read n r) sized same before (order_read rms.nothing_begun order) (early_read early) found log units held told restarts (loaded n r found again) log_is size out settled prepared

    pub opens_err : (w : VolumeState) (out : List AbortedUnit) (told : ReopenedTold) → RestartsNot clock x w out → told.settled ≡ map unit_settled out → ReopensErr clock told v w
    opens_err w out told not settled n r same =
        let b = breaks_after clock x n (restarting_read n r) sized same before (order_read rms.nothing_begun order) (early_read early) w out not told.settled settled in
        record { settled = b.0; disk = b.1 }

-- Where the disk goes down while the log is read, it is as it was.
pub reading_err : (clock : ℕ) (v x : VolumeState) (told : ReopenedTold) → OnlyRead v.store x.store → clock < 24000001000066 → rms.IsInOrder rms.nothing_begun v → IsEarly v → IfSome v.store.current (λ c. length c + 518 ≡ v.store.disk.size) → told.settled ≡ [] → ReopensErr clock told v x
reading_err clock v x told only before order early sized nothing n r same =
    let old : LeavesOld v x.store.disk = λ image may. idle_leaves v r.content (λ c. Some c ≡ content v.store) order.idle r.told (sym r.told ∙ order.idle.current) image (only.disk.images image may) in
    let b = breaks_after clock v n r sized same before order early x [] (undoing (reading old refl)) told.settled nothing in
    record { settled = b.0; disk = b.1 }
