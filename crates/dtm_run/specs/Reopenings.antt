-- The nodes that a run leaves are nodes that the next may begin with.
use Rattle.std.specs.Prelude.{◌≡◌, ◌<◌, ◌≤◌, ℕ, List, [], ◌∷◌, Some, map}
use Rattle.std.specs.List.{All}
use Rattle.block_disk.specs.Blocks.{IsWhole, block_at}
use Rattle.block_disk.specs.Disk.{DiskState, MayLeave}
use Rattle.block_disk.specs.Sizes.{least_disk_size}
use Rattle.world_laws.specs.run_model.World.{World, Node, DiskCounts, IsOpening, find_node, opened}
use Rattle.world_laws.specs.run_model.Transcript.{AreOpening, Entry, Legal}
use Rattle.statement_steps.specs.run_agreement.Laws.{NamesApart}
use Rattle.recovery_runs.specs.run_chains.Chains.{AreNext, IsNext}
use Rattle.recovery_units.specs.Uses.{IsCounted}
use Rattle.day_run.specs.node_standing.Standing.{counts_of}
use Rattle.dtm_run.specs.Headline.{DiskRepresents, DisksRepresent, LeaveNodes, LeavesNode}

-- The disk of the next run has one of the images that a power loss may leave of the disk of this one, and nothing is pending on it. It has 4,096 blocks or more,
-- as a rack asks, and each is of 512 bytes, as every disk tells.
pub record IsTakenUp (left next : DiskState) : Type 0 where
  pub image : List (List ℕ)
  pub may : MayLeave left image
  pub told : next.seen ≡ Some image
  pub settled : next.pending ≡ []
  pub size : next.size ≡ left.size
  pub counted : IsCounted next
  pub least : least_disk_size ≤ next.size
  pub whole : IsWhole next.size image
  pub bytes : (n : ℕ) → n < next.size → All (λ b. b < 256) (block_at image n)

-- so has each disk of a rack, of the one at its place
abbrev pub AreTakenUp : List DiskState → List DiskState → Type 0
AreTakenUp [] [] = Unit {0}
AreTakenUp (left ∷ lefts) (next ∷ nexts) = IsTakenUp left next × AreTakenUp lefts nexts
AreTakenUp [] (next ∷ nexts) = ⊥
AreTakenUp (left ∷ lefts) [] = ⊥

-- On each disk that is taken up so there stands a node as before the first line: the one that the run left. So what a run has committed stands at the beginning of
-- the next, and what it left unsettled is there to be undone.
abbrev pub LeftNodesOpen : Type 0
LeftNodesOpen = (nodes : List Node) (disks : List DiskCounts) (es : List Entry) (closing : World) → AreOpening nodes → Legal (opened nodes disks) es closing →
    (name : List ℕ) (n : Node) → find_node name closing.nodes ≡ Some n → (before left next : DiskState) → LeavesNode before n left → IsTakenUp left next → (m : Node) × IsOpening m × DiskRepresents name next m × IsNext n m

-- So on the disks of a rack there stand the nodes that a run left, from which the next may run.
abbrev pub LeftRacksOpen : Type 0
LeftRacksOpen = (names : List (List ℕ)) (nodes : List Node) (before left next : List DiskState) (es : List Entry) (closing : World) → AreOpening nodes → NamesApart nodes → DisksRepresent names before nodes → Legal (opened nodes (map counts_of before)) es closing →
    LeaveNodes before closing.nodes left → AreTakenUp left next → (ms : List Node) × AreOpening ms × DisksRepresent names next ms × AreNext closing.nodes ms
