-- Within a statement, too, all nodes are as nodes are in the worlds of runs.
use Rattle.std.specs.Prelude.{slice_get}
use Rattle.std.proofs.Common.{◌≡◌, ℕ, zero, suc, List, [], ◌∷◌, Bool, true, false, Option, Some, if◌then◌else◌, refl, subst}
use Rattle.std.specs.Str.{bytes_eq}
use Rattle.world_laws.specs.transcript_model.Lines.{Line}
use Rattle.world_laws.specs.script_model.Statements.{At, Deliver, LinkDown, Settle, Statement}
use Rattle.world_laws.specs.run_model.World.{DiskCounts, Node, Shared, World, disk_of, find_node, with_counts, with_node}
use Rattle.world_laws.specs.run_model.Answers.{Task}
use Rattle.world_laws.specs.run_model.Steps.{NodeStep}
use Rattle.world_laws.specs.run_model.Statements.{begun_with}
use Rattle.world_laws.proofs.run_model.NodeLists.{none_falls_on, none_falls_put, none_falls_same, some_is}
use Rattle.run_agreement.specs.Laws.{NamesApart}
use Rattle.world_laws.specs.Nodes.{IsKeptNode, StepsKeepNodes, StepsKeepOthers}
use Rattle.statement_steps.specs.Doing.{AllKept, IsWithin, moved}
use Rattle.statement_steps.proofs.Places.{apart_put, find_at, step_name}

each_kept : (s after : Shared) (ns : List Node) → ((n : Node) → IsKeptNode s n → IsKeptNode after n) → AllKept s ns → AllKept after ns
each_kept s after [] f h = tt
each_kept s after (n ∷ ns) f h = (f n h.0, each_kept s after ns f h.1)

-- the node of a name is kept
pub kept_found : (s : Shared) (ns : List Node) (node : List ℕ) (n : Node) → AllKept s ns → find_node node ns ≡ Some n → IsKeptNode s n
kept_found s [] node n h e = let none : ⊥ = cc in absurd none
kept_found s (x ∷ ns) node n h e = go (bytes_eq node x.name) (kept_found s ns node n h.1) e
  where
    go : (b : Bool) → (find_node node ns ≡ Some n → IsKeptNode s n) → ◌≡◌ {A = Option Node} (if b then Some x else find_node node ns) (Some n) → IsKeptNode s n
    go true more k = subst (IsKeptNode s) (some_is x n k) h.0
    go false more k = more k

-- and so is the one at a place
pub kept_at : (s : Shared) (ns : List Node) (place : ℕ) (n : Node) → AllKept s ns → slice_get ns place ≡ Some n → IsKeptNode s n
kept_at s [] place n h e = let none : ⊥ = cc in absurd none
kept_at s (x ∷ ns) zero n h e = subst (IsKeptNode s) (some_is x n e) h.0
kept_at s (x ∷ ns) (suc place) n h e = kept_at s ns place n h.1 e

-- All are kept where one of them becomes another that is, as each is.
kept_put : (s after : Shared) (node : List ℕ) (m : Node) (ns : List Node) → ((n : Node) → IsKeptNode s n → IsKeptNode after n) → IsKeptNode after m → AllKept s ns → AllKept after (with_node node (λ k. m) ns)
kept_put s after node m [] f k h = tt
kept_put s after node m (x ∷ ns) f k h = go (bytes_eq node x.name) (kept_put s after node m ns f k h.1)
  where
    go : (b : Bool) → AllKept after (with_node node (λ j. m) ns) → AllKept after (if b then m ∷ ns else x ∷ with_node node (λ j. m) ns)
    go true more = (k, each_kept s after ns f h.1)
    go false more = (f x h.0, more)

-- A step of one node keeps all.
pub step_keeps : StepsKeepNodes → StepsKeepOthers → (s : Shared) (ns : List Node) (node : List ℕ) (n : Node) (old : DiskCounts) (t : Task) (lines : List Line) (answer : Line) (ends : Bool) (m : Node) (after : Shared) (new : DiskCounts) → AllKept s ns → find_node node ns ≡ Some n →
    NodeStep s n old t lines answer ends m after new → AllKept after (with_node node (λ k. m) ns)
step_keeps keeps others s ns node n old t lines answer ends m after new h found step =
    kept_put s after node m ns (others s n old t lines answer ends m after new step) (keeps s n old t lines answer ends m after new (kept_found s ns node n h found) step) h

-- So does what a statement begins with.
used_keeps : (s : Shared) (n : Node) → IsKeptNode s n → IsKeptNode (record s { in_use = true }) n
used_keeps s n h = record { disk = h.disk; way = h.way; runs = h.runs; unused = λ e. let none : ⊥ = cc (e) in absurd none }

pub begun_keeps : (st : Statement) (w : World) → AllKept w.shared w.nodes → AllKept (begun_with st w).shared (begun_with st w).nodes
begun_keeps Settle w h = each_kept w.shared (record w.shared { in_use = true }) w.nodes (used_keeps w.shared) h
begun_keeps (At node request) w h = h
begun_keeps (Deliver number) w h = h
begun_keeps (LinkDown a b) w h = h

-- Where no two nodes have one name, all are kept where each is that is found.
pub all_kept : (s : Shared) (ns : List Node) → NamesApart ns → ((node : List ℕ) (n : Node) → find_node node ns ≡ Some n → IsKeptNode s n) → AllKept s ns
all_kept s ns apart h = by ns (λ place n e. h n.name n (find_at ns place n apart e))
  where
    by : (ms : List Node) → ((place : ℕ) (n : Node) → slice_get ms place ≡ Some n → IsKeptNode s n) → AllKept s ms
    by [] k = tt
    by (m ∷ ms) k = (k 0 m refl, by ms (λ place n e. k (suc place) n e))

-- A world within a statement stays one.
pub within_moved : StepsKeepNodes → StepsKeepOthers → (begun : List DiskCounts) (w : World) (node : List ℕ) (n m : Node) (mid new : DiskCounts) (t : Task) (lines : List Line) (answer : Line) (ends : Bool) (after : Shared) → IsWithin begun w → find_node node w.nodes ≡ Some n →
    disk_of node w.nodes w.disks ≡ Some mid → NodeStep w.shared n mid t lines answer ends m after new → IsWithin begun (moved w node m new after)
within_moved keeps others begun w node n m mid new t lines answer ends after h found disk step = record {
  falls = none_falls_on begun w.disks (with_counts node new w.nodes w.disks) h.falls (none_falls_put node mid new w.nodes w.disks disk step.faults step.stops);
  apart = apart_put node n m w.nodes (step_name w.shared n mid t lines answer ends m after new step) found h.apart;
  kept = step_keeps keeps others w.shared w.nodes node n mid t lines answer ends m after new h.kept found step;
}

-- A statement begins in one.
pub within_begun : (st : Statement) (w : World) → NamesApart w.nodes → AllKept w.shared w.nodes → IsWithin w.disks (begun_with st w)
within_begun st w apart kept = by st
  where
    by : (x : Statement) → IsWithin w.disks (begun_with x w)
    by Settle = record { falls = none_falls_same w.disks; apart = apart; kept = begun_keeps Settle w kept }
    by (At node request) = record { falls = none_falls_same w.disks; apart = apart; kept = kept }
    by (Deliver number) = record { falls = none_falls_same w.disks; apart = apart; kept = kept }
    by (LinkDown a b) = record { falls = none_falls_same w.disks; apart = apart; kept = kept }
