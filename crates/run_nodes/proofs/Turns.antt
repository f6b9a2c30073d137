-- A node that is down does nothing in its turn.
use Rattle.std.specs.Prelude.{slice_get}
use Rattle.std.proofs.Common.{◌≡◌, ℕ, zero, suc, ◌<◌, List, [], ◌∷◌, length, Bool, true, false, Some, refl, sym, ◌∙◌, arith}
use Rattle.block_disk.specs.Disk.{DiskState}
use Rattle.dtm_node.specs.recovery_units.State.{UnitsState}
use Rattle.emitter_model.specs.Emitting.{Shown}
use Rattle.said_steps.specs.run_model.Answers.{Task}
use Rattle.dtm_node.specs.run_shared.Sharing.{SharedState}
use Rattle.dtm_node.specs.node_standing.Standing.{NodeState, is_up}
use Rattle.dtm_node.specs.declared.node.Node.{Node}
use Rattle.run_nodes.specs.Tasks.{DoesIfUp}
use Rattle.run_nodes.proofs.Entries.{kept_in, names_in}

pub kept_within : {D U : Type 0} (state : D → DiskState) (units : U → UnitsState) (es : List (List ℕ × Node D U)) (place : ℕ) → place < length (names_in state units es) → (k : NodeState) × (slice_get (kept_in state units es) place ≡ Some k)
kept_within state units [] place h = absurd (omega arith)
kept_within state units (e ∷ es) zero h = (_, refl)
kept_within state units (e ∷ es) (suc place) h = kept_within state units es place (omega arith)

pub down_turn : {D U : Type 0} (state : D → DiskState) (units : U → UnitsState) (es : List (List ℕ × Node D U)) (place : ℕ) (task : Task) (s : SharedState) (a : Shown) (r : Bool) → place < length (names_in state units es) → ((k : NodeState) → slice_get (kept_in state units es) place ≡ Some k → r ≡ is_up k.place) → r ≡ false →
    DoesIfUp place task (kept_in state units es) s a a (kept_in state units es) s
down_turn state units es place task s a r there says down =
    let i = kept_within state units es place there in
    record { kept = i.0; there = i.1; up = λ e. (let no : true ≡ false = sym e ∙ (sym (says i.0 i.1) ∙ down) in let none : ⊥ = cc in absurd none); down = λ e. (refl, refl, refl) }
