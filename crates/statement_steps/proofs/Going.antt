-- A settling goes from node to node.
use Rattle.std.specs.Prelude.{slice_get}
use Rattle.std.proofs.Common.{◌≡◌, ℕ, suc, List, [], ◌∷◌, ◌++◌, Bool, true, false, Some, if◌then◌else◌, refl, sym, ◌∙◌, ap, subst, append-nil}
use Rattle.world_laws.specs.transcript_model.Lines.{Line, Normal}
use Rattle.world_laws.specs.script_model.Statements.{Settle}
use Rattle.world_laws.specs.run_model.World.{DiskCounts, Node, Shared, World}
use Rattle.world_laws.specs.run_model.Answers.{Restarts, RunsDown}
use Rattle.world_laws.specs.run_model.Steps.{NodeStep}
use Rattle.world_laws.specs.run_model.Statements.{Does, Part, begun_with}
use Rattle.statement_steps.specs.Doing.{DoesParts, IsWithin, moved}
use Rattle.statement_steps.specs.Settling.{Through, restart_of, run_down_of}
use Rattle.statement_steps.proofs.OneParts.{step_on}
use Rattle.statement_steps.proofs.Turning.{does_at, moved_behind, same_there, through_next}
use Rattle.statement_steps.proofs.Walking.{does_none}

-- the statement goes on behind a part that has succeeded
gone_on : (begun : List DiskCounts) (ps : List Part) (w v : World) (lines : List Line) (answer : Line) → answer ≡ Normal → DoesParts begun ps w false lines answer v → DoesParts begun ps w false lines Normal v
gone_on begun ps w v lines answer normal h = subst (λ a. DoesParts begun ps w false lines a v) normal h

-- what a node is to do that is down, and that is up
pub down_restarts : (n : Node) → n.up ≡ false → restart_of n ≡ Does n.name Restarts ∷ []
down_restarts n down = ap (λ (b : Bool). if b then [] else Does n.name Restarts ∷ []) down

pub up_restarts : (n : Node) → n.up ≡ true → restart_of n ≡ []
up_restarts n up = ap (λ (b : Bool). if b then [] else Does n.name Restarts ∷ []) up

-- Nodes are booted: the boot of one,
pub restart_does : (w : World) (place : ℕ) (lines : List Line) (v : World) (n m : Node) (mid new : DiskCounts) (more : List Line) (answer : Line) (ends : Bool) (after : Shared) → Through w.disks restart_of (begun_with Settle w) place lines v → IsWithin w.disks v → slice_get v.nodes place ≡ Some n →
    n.up ≡ false → slice_get v.disks place ≡ Some mid → NodeStep v.shared n mid Restarts more answer ends m after new → DoesParts w.disks (restart_of n) v ends more answer (moved v n.name m new after)
restart_does w place lines v n m mid new more answer ends after h within here down disk step =
    subst (λ ps. DoesParts w.disks ps v ends more answer (moved v n.name m new after)) (sym (down_restarts n down))
    (does_at w.disks v place Restarts n m mid new more answer ends after within.falls within.apart (λ s x. refl) here disk (λ e. same_there w.disks v.disks place (sym h.disks) ∙ disk) step)

-- after which the statement goes on;
pub restart_next : (w : World) (place : ℕ) (lines : List Line) (v : World) (n m : Node) (mid new : DiskCounts) (more : List Line) (answer : Line) (after : Shared) → Through w.disks restart_of (begun_with Settle w) place lines v → IsWithin w.disks v → slice_get v.nodes place ≡ Some n → n.up ≡ false →
    slice_get v.disks place ≡ Some mid → NodeStep v.shared n mid Restarts more answer false m after new → Through w.disks restart_of (begun_with Settle w) (suc place) (lines ++ more) (moved v n.name m new after)
restart_next w place lines v n m mid new more answer after h within here down disk step =
    let behind = moved_behind v place n m new after within.apart here in
    through_next w.disks restart_of (begun_with Settle w) place lines v n more (moved v n.name m new after) h here
    (gone_on w.disks (restart_of n) v (moved v n.name m new after) more answer (step_on v.shared n mid Restarts more answer false m after new (λ s x. refl) step refl)
    (restart_does w place lines v n m mid new more answer false after h within here down disk step)) behind.0 behind.1

-- or nothing, where it is up.
pub restart_none : (w : World) (place : ℕ) (lines : List Line) (v : World) (n : Node) → Through w.disks restart_of (begun_with Settle w) place lines v → slice_get v.nodes place ≡ Some n → n.up ≡ true → Through w.disks restart_of (begun_with Settle w) (suc place) lines v
restart_none w place lines v n h here up =
    subst (λ ls. Through w.disks restart_of (begun_with Settle w) (suc place) ls v) (append-nil lines)
    (through_next w.disks restart_of (begun_with Settle w) place lines v n [] v h here (subst (λ ps. DoesParts w.disks ps v false [] Normal v) (sym (up_restarts n up)) (does_none w.disks v)) refl refl)

-- Each aborts what is not prepared: one does,
pub run_down_does : (begun : List DiskCounts) (place : ℕ) (v : World) (n m : Node) (mid new : DiskCounts) (more : List Line) (answer : Line) (ends : Bool) (after : Shared) → IsWithin begun v → slice_get v.nodes place ≡ Some n → slice_get v.disks place ≡ Some mid →
    NodeStep v.shared n mid RunsDown more answer ends m after new → DoesParts begun (run_down_of n) v ends more answer (moved v n.name m new after)
run_down_does begun place v n m mid new more answer ends after within here disk step =
    does_at begun v place RunsDown n m mid new more answer ends after within.falls within.apart (λ s x. refl) here disk (λ e. let none : ⊥ = cc (e) in absurd none) step

-- after which the statement goes on.
pub run_down_next : (begun : List DiskCounts) (u : World) (place : ℕ) (lines : List Line) (v : World) (n m : Node) (mid new : DiskCounts) (more : List Line) (answer : Line) (after : Shared) → Through begun run_down_of u place lines v → IsWithin begun v → slice_get v.nodes place ≡ Some n →
    slice_get v.disks place ≡ Some mid → NodeStep v.shared n mid RunsDown more answer false m after new → Through begun run_down_of u (suc place) (lines ++ more) (moved v n.name m new after)
run_down_next begun u place lines v n m mid new more answer after h within here disk step =
    let behind = moved_behind v place n m new after within.apart here in
    through_next begun run_down_of u place lines v n more (moved v n.name m new after) h here
    (gone_on begun (run_down_of n) v (moved v n.name m new after) more answer (step_on v.shared n mid RunsDown more answer false m after new (λ s x. refl) step refl)
    (run_down_does begun place v n m mid new more answer false after within here disk step)) behind.0 behind.1
