-- A node that is up falls.
use Rattle.std.proofs.Common.{◌≡◌, ℕ, ◌<◌, [], ◌∷◌, Bool, true, false, refl, sym, subst, ◌∙◌}
use Rattle.block_disk.specs.Disk.{DiskState}
use Rattle.emitter_model.specs.Emitting.{Emits, Shown}
use Rattle.emitter_model.specs.transcript_model.Lines as line
use Rattle.emitter_model.proofs.EmittingLemmas.{emits_on}
use Rattle.script_lang.specs.script_model.Statements.{Crash}
use Rattle.world_laws.specs.run_model.Answers.{Serves}
use Rattle.recovery_units.specs.Laws.{KeepsNodes}
use Rattle.recovery_units.specs.State.{UnitsState}
use Rattle.run_shared.specs.Sharing.{SharedState}
use Rattle.node_requests.specs.node_table.Code.{up_of}
use Rattle.node_requests.specs.node_table.declared.running.Running.{Running}
use Rattle.dtm_node.specs.declared.node.Node.{Node}
use Rattle.dtm_node.specs.declared.node.Place as code
use Rattle.dtm_node.specs.declared.node.Place.TheVariants as code_place
use Rattle.node_requests.specs.node_standing.Keeping.{PerformsRequest}
use Rattle.dtm_node.specs.Nodes.{IsNode, IsPlaceOf, fallen_place, kept_of, place_of}
use Rattle.node_requests.specs.node_standing.Standing.{NodeState, Place, disk_of, is_up}
use Rattle.node_requests.specs.node_standing.Telling.{TellsTask}
use Rattle.dtm_node.proofs.Performing.{kept_fallen, kept_up}
use Rattle.dtm_node.proofs.Simple.{crash_performs, crash_tells}

module _ {D U : Type 0} (state : D → DiskState) (units : U → UnitsState) where
  -- what is kept of the node, and of what is left of it
  was_up : (m : Node D U) (p : code.Place D U) → m.place ≡ p → (count : ℕ) (s : SharedState) → IsPlaceOf state units count s m p → is_up (place_of state units p) ≡ true → (q : Place) → q ≡ fallen_place (place_of state units p) → (P : NodeState → NodeState → Type 0)
      → ((r : Running D U) → IsPlaceOf state units count s m (code_place.Up r) → P (kept_up m.name m.clock.0 (up_of units r)) (kept_fallen m.name m.clock.0 (disk_of (up_of units r)))) → P (kept_of state units m) (record (kept_of state units m) { place = q })
  was_up m (code_place.Down disk parts) is count s h up q fell P f = let none : ⊥ = cc in absurd none
  was_up m (code_place.Up r) is count s h up q fell P f =
      subst (λ x. P x (record (kept_of state units m) { place = q })) (λ i. record { name = m.name; unmade = sym h.3 i; clock = m.clock.0; place = place_of state units (sym is i) })
      (subst (λ x. P (kept_up m.name m.clock.0 (up_of units r)) x) (λ i. record { name = m.name; unmade = sym h.3 i; clock = m.clock.0; place = sym fell i }) (f r h))

  module _ (m : Node D U) (s : SharedState) (h : (count : ℕ) × (count < 1000002) × IsNode state units count s m) (up : is_up (kept_of state units m).place ≡ true) (a b c : Shown) (p : code.Place D U) (fell : place_of state units p ≡ fallen_place (place_of state units m.place)) (crashed : Emits a (line.Crashed m.name ∷ []) b) (answered : Emits b (line.Normal ∷ []) c) where
    shows : Emits a (line.Crashed m.name ∷ line.Normal ∷ []) c
    shows = emits_on a b c (line.Crashed m.name ∷ []) (line.Normal ∷ []) crashed answered

    pub crashes_tell : (ends : Bool) × TellsTask (Serves Crash) true ends (kept_of state units m) s a c (kept_of state units (record m { place = p })) s
    crashes_tell = (false, was_up m m.place refl h.0 s h.2.place up (place_of state units p) fell (λ k l. TellsTask (Serves Crash) true false k s a c l s) (λ r at. crash_tells m.name m.clock.0 (up_of units r) s a c shows))

    pub crashes : KeepsNodes → PerformsRequest Crash (kept_of state units m) s a c (kept_of state units (record m { place = p })) s
    crashes law = was_up m m.place refl h.0 s h.2.place up (place_of state units p) fell (λ k l. PerformsRequest Crash k s a c l s) (λ r at. crash_performs m.name m.clock.0 (up_of units r) s a c shows law at.0 (sym (at.1 ∙ at.0.follows.node)))
