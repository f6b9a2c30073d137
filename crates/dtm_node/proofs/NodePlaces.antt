-- What holds of a node behind a statement that changed its place, or its clock.
use Rattle.std.proofs.Common.{◌≡◌, ℕ, ◌≤◌, ◌+◌, refl, sym, subst, ◌∙◌}
use Rattle.block_disk.specs.Disk.{DiskState}
use Rattle.recovery_units.specs.State.{UnitsState}
use Rattle.run_shared.specs.Sharing.{SharedState}
use Rattle.node_requests.specs.node_table.Code.{up_of}
use Rattle.node_requests.specs.node_table.Standing.{IsUp, Up}
use Rattle.node_requests.specs.node_table.declared.running.Running.{Running}
use Rattle.vms_base.specs.declared.moments.Moment.{Moment}
use Rattle.dtm_node.specs.declared.node.Node.{Node}
use Rattle.dtm_node.specs.declared.node.Place as code
use Rattle.dtm_node.specs.declared.node.Place.TheVariants as code_place
use Rattle.dtm_node.specs.Nodes.{IsFallen, IsNode, IsPlaceOf, MayFall}
use Rattle.node_requests.specs.Running.{HasGrown}
use Rattle.dtm_node.proofs.Arming.{armed_order, armed_volume}
use Rattle.dtm_node.proofs.NodeLemmas.{fallen_place_of, grown_more}

-- a node that is up, over the armed disk
abbrev pub armed_running : ℕ → ℕ → Up → Up
armed_running writes choice r = record r { stored = record r.stored { volume = armed_volume writes choice r.stored.volume } }

armed_grown : (writes choice count : ℕ) (r : Up) → HasGrown count r → HasGrown count (armed_running writes choice r)
armed_grown writes choice count r h = record { moment = h.moment; end = h.end; drawn = h.drawn }

module _ {D U : Type 0} (state : D → DiskState) (units : U → UnitsState) where
  place_same : (count : ℕ) (s : SharedState) (m n : Node D U) (p : code.Place D U) → m.name ≡ n.name → m.unmade ≡ n.unmade → IsPlaceOf state units count s n p → IsPlaceOf state units count s m p
  place_same count s m n (code_place.Down disk parts) name unmade h = h
  place_same count s m n (code_place.Up r) name unmade h = (h.0, name ∙ h.1, h.2, unmade ∙ h.3, h.4)

  may_fall : (count : ℕ) (s : SharedState) (n : Node D U) (p : code.Place D U) → IsPlaceOf state units count s n p → MayFall state units p
  may_fall count s n (code_place.Down disk parts) h = h
  may_fall count s n (code_place.Up r) h = let order = h.0.follows.order in (order.least, order.most, order.frames)

  -- another clock was set
  pub clocked_node : (now : Moment) (count : ℕ) (s : SharedState) (n : Node D U) → now.0 ≤ 24000000000000 → IsNode state units count s n → IsNode state units count s (record n { clock = now })
  clocked_node now count s n early h = record { place = place_same count s (record n { clock = now }) n n.place refl refl h.place; clock = early }

  -- it fell
  pub fallen_node : (p : code.Place D U) (count : ℕ) (s : SharedState) (n : Node D U) → (MayFall state units n.place → IsFallen state units p) → IsNode state units count s n → IsNode state units (count + 1) s (record n { place = p })
  fallen_node p count s n falls h = record { place = fallen_place_of state units (count + 1) s (record n { place = p }) p (falls (may_fall count s n n.place h.place)); clock = h.clock }

  -- its disk was armed
  pub armed_node : (p : code.Place D U) (n : Node D U) → ((count : ℕ) (s : SharedState) (m : Node D U) → IsPlaceOf state units count s m n.place → IsPlaceOf state units (count + 1) s m p) → (count : ℕ) (s : SharedState) → IsNode state units count s n
      → IsNode state units (count + 1) s (record n { place = p })
  armed_node p n keeps count s h = record { place = place_same (count + 1) s (record n { place = p }) n p refl refl (keeps count s n h.place); clock = h.clock }

  pub armed_place : (writes choice : ℕ) (r new : Running D U) → up_of units new ≡ armed_running writes choice (up_of units r) → (count : ℕ) (s : SharedState) (n : Node D U) → IsPlaceOf state units count s n (code_place.Up r) → IsPlaceOf state units (count + 1) s n (code_place.Up new)
  armed_place writes choice r new is count s n h =
      let armed : (x : Up) → up_of units new ≡ x → IsUp x → n.name ≡ x.tm.node → HasGrown count x → IsPlaceOf state units (count + 1) s n (code_place.Up new) =
      λ x e up name grown. (subst IsUp (sym e) up, subst (λ (y : Up). n.name ≡ y.tm.node) (sym e) name, h.2, h.3, grown_more count (up_of units new) (subst (HasGrown count) (sym e) grown)) in
      armed (armed_running writes choice (up_of units r)) is (armed_order writes choice (up_of units r) h.0) h.1 (armed_grown writes choice count (up_of units r) h.4)
