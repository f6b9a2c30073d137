-- A node that is down is opened: its disk is made to run again, and its volume is mounted with a raised boot count.
use Rattle.std.proofs.Common.{◌≡◌, ◌⊎◌, ℕ, List, [], ◌∷◌, Bool, true, false, Some, None, refl, ◌∙◌, ap, sym, subst}
use Rattle.block_disk.specs.Disk.{CallLog, DiskState, IsPowered}
use Rattle.block_disk.specs.declared.disk.DiskErr.{DiskErr}
use Rattle.careful_write.specs.Down.{down_of}
use Rattle.careful_write.specs.declared.down.Down.{Down}
use Rattle.emitter_model.specs.transcript_model.Lines as line
use Rattle.emitter_model.specs.transcript_model.Lines.{Cause, Failed, Line}
use Rattle.emitter_model.specs.transcript_model.Outside.{Rose}
use Rattle.world_laws.specs.run_model.Answers.{Restarts, bootable}
use Rattle.world_laws.specs.run_model.Steps.{count_of}
use Rattle.world_laws.specs.run_model.World.{Boots, Node, Shared, acted, fallen, powered}
use Rattle.recovery_units.specs.volume_model.Volumes.{HasDisk}
use Rattle.world_laws.specs.Nodes.{IsKeptNode, StepsKeepNodes}
use Rattle.recovery_units.specs.Calls.{IsRestarting}
use Rattle.recovery_units.specs.State.{HasNoUnit}
use Rattle.recovery_units.specs.Uses.{DiskAdvances, IsCounted}
use Rattle.node_requests.specs.node_table.Standing.{Up}
use Rattle.dtm_node.specs.Boots.{IsAwake, IsBootRefusal, IsRaised}
use Rattle.dtm_node.specs.Causes.{cause_of}
use Rattle.node_requests.specs.node_standing.Keeping.{IsPromised}
use Rattle.dtm_node.specs.Opening.{EndsBoot, OpensUp, Wakes, kept_down, used}
use Rattle.node_requests.specs.node_standing.Standing.{RepresentsNode, counts_of, disk_of}
use Rattle.dtm_node.proofs.BootEnds.{ends_boot, fallen_end, fallen_rose, lacking_end, refused_end, shares_used}
use Rattle.dtm_node.proofs.Booting.{boot_fell, boot_lacks, boot_refused, boot_unpowered}
use Rattle.node_requests.specs.node_standing.Holding.{HoldsAs}
use Rattle.dtm_node.proofs.Held.{holds_is, holds_on, holds_power}
use Rattle.dtm_node.proofs.Passing.{Unpowers, passes_goes, passes_power, passes_same, power_calls, rose_after}
use Rattle.dtm_node.proofs.Waking.{powered_kept, wakes}

-- memory is missing
pub open_lacks : (name : List ℕ) (clock : ℕ) (d0 : DiskState) → EndsBoot (kept_down name clock false d0) [] line.NoMemory false (kept_down name clock false d0)
open_lacks name clock d0 = ends_boot name clock false false d0 d0 [] line.NoMemory false false (lacking_end name) (passes_same d0) refl (λ cause i. absurd i) (λ unused. holds_is d0 d0 refl)
    (λ t p log w n h early kept promised s share a b m. boot_lacks log w n name clock false d0 h t p early a b s refl share m)

module _ (name : List ℕ) (clock : ℕ) (has_parts : Bool) (d0 : DiskState) where
  -- the disk does not run again
  pub open_unpowered : (e : DiskErr) (d : DiskState) → Unpowers e d0 d → (down : Down) → down ≡ down_of e → EndsBoot (kept_down name clock has_parts d0) (line.Down name (cause_of down) ∷ []) (line.Broken (cause_of down)) true (kept_down name clock true d)
  open_unpowered e d u down is =
      subst (λ (cause : Cause). EndsBoot (kept_down name clock has_parts d0) (line.Down name cause ∷ []) (line.Broken cause) true (kept_down name clock true d)) (sym (ap cause_of is ∙ u.cause))
      (ends_boot name clock has_parts true d0 d (line.Down name Failed ∷ []) (line.Broken Failed) true true (fallen_end name [] Failed tt (λ wire. refl)) u.passes u.calls (fallen_rose name [] Failed d0 d tt (λ counted. u.rose)) (λ unused. (let f : ⊥ = cc in absurd f))
      (λ t p log w n h early kept promised s share a b m. boot_unpowered log w n name clock has_parts d0 h t p early (used s) (shares_used s w share) d u.passes u.calls a b u.pending u.seen u.rose m))

  module _ (steps : StepsKeepNodes) (d1 : DiskState) (power : IsPowered d0 d1) where
    -- the node of the world once its disk runs again
    wakes_here : (log : CallLog) (w : Shared) (n : Node) → RepresentsNode log (kept_down name clock has_parts d0) n → IsKeptNode w n → IsPromised Restarts n → Wakes n d0 d1
    wakes_here log w n h kept promised = wakes w n d0 d1 h.place.down h.blocks h.place.told (λ e. (let clash : true ≡ false = sym (promised e) ∙ h.unmade in let none : ⊥ = cc in none)) kept
        (λ outturn may. powered_kept steps w n kept h.place.down h.unmade outturn d0.stops may) h.place.disk power

    awake_here : (log : CallLog) (n : Node) → RepresentsNode log (kept_down name clock has_parts d0) n → (x : Wakes n d0 d1) → IsAwake name d1 (powered x.outturn d0.stops n)
    awake_here log n h x = subst (λ y. IsAwake y d1 (powered x.outturn d0.stops n)) h.name x.awake

    module _ (d : DiskState) (goes : DiskAdvances d1 d) where
      -- what the disk has refuses the boot, or a quota
      pub open_refused : (refusal : Line) → IsBootRefusal refusal → HoldsAs d1 d → ((n : Node) → IsAwake name d1 n → (bootable n ≡ Some refusal) × HasDisk n d) → EndsBoot (kept_down name clock has_parts d0) [] refusal false (kept_down name clock true d)
      open_refused refusal is held boots =
          ends_boot name clock has_parts true d0 d [] refusal true false (refused_end name refusal is) (passes_goes d0 d1 d (passes_power d0 d1 power) goes) (power_calls d0 d1 d power goes.calls) (λ cause i. absurd i) (λ unused. holds_on d0 d1 d (holds_power d0 d1 power) held)
          (λ t p log w n h early kept promised s share a b m.
          let x = wakes_here log w n h kept promised in
          let to = boots (powered x.outturn d0.stops n) (awake_here log n h x) in
          boot_refused log w n name clock has_parts d0 h t p early d1 x d (passes_goes d0 d1 d (passes_power d0 d1 power) goes) (power_calls d0 d1 d power goes.calls) s refusal a b share to.0 to.1 m)

      -- the disk went down while the volume was mounted, or while the boot count was raised
      pub open_fell : (cause : Cause) → (IsCounted d1 → Rose (count_of cause (counts_of d1)) (count_of cause (counts_of d))) → ((n : Node) → IsAwake name d1 n → HasDisk (fallen None n) d ⊎ ((bootable n ≡ None) × HasDisk (fallen (Some Boots) n) d))
          → EndsBoot (kept_down name clock has_parts d0) (line.Down name cause ∷ []) (line.Broken cause) true (kept_down name clock true d)
      open_fell cause rose boots =
          let from : IsCounted d0 → Rose (count_of cause (counts_of d0)) (count_of cause (counts_of d)) = λ counted. rose_after cause d0 d1 d power (rose ((passes_power d0 d1 power).counted counted)) in
          ends_boot name clock has_parts true d0 d (line.Down name cause ∷ []) (line.Broken cause) true true (fallen_end name [] cause tt (λ wire. refl)) (passes_goes d0 d1 d (passes_power d0 d1 power) goes) (power_calls d0 d1 d power goes.calls)
          (fallen_rose name [] cause d0 d tt from) (λ unused. (let f : ⊥ = cc in absurd f))
          (λ t p log w n h early kept promised s share a b m.
          let x = wakes_here log w n h kept promised in
          boot_fell log w n name clock has_parts d0 h t p early d1 x d (passes_goes d0 d1 d (passes_power d0 d1 power) goes) (power_calls d0 d1 d power goes.calls) (used s) (shares_used s w share) cause (from h.counts) a b
          (boots (powered x.outturn d0.stops n) (awake_here log n h x)) m)

    -- the volume is there
    pub open_up : (r : Up) → DiskAdvances d1 (disk_of r) → IsRaised name r.stored.volume → HasNoUnit r.stored.units → ((n : Node) → IsAwake name d1 n → (bootable n ≡ None) × IsRestarting r.stored.volume (acted Boots n)) → OpensUp (kept_down name clock has_parts d0) r
    open_up r goes raised none boots = record {
      raised = raised;
      none = none;
      passes = passes_goes d0 d1 (disk_of r) (passes_power d0 d1 power) goes;
      calls = power_calls d0 d1 (disk_of r) power goes.calls;
      world = λ log n w h kept promised.
          let x = wakes_here log w n h kept promised in
          let to = boots (powered x.outturn d0.stops n) (awake_here log n h x) in
          record { ready = d1; wakes = x; free = to.0; restarting = to.1 };
    }
