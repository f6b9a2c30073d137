-- Nodes as the code has them, by their places.
use Rattle.std.specs.Prelude.{slice_get, slice_set}
use Rattle.std.proofs.Common.{◌≡◌, ℕ, zero, suc, ◌+◌, List, [], ◌∷◌, map, true, Some, refl, sym, ◌∙◌, ap, subst}
use Rattle.block_disk.specs.Disk.{DiskState}
use Rattle.dtm_node.specs.recovery_units.State.{UnitsState}
use Rattle.said_steps.proofs.run_model.NodeLists.{some_is}
use Rattle.dtm_node.specs.run_shared.Sharing.{SharedState}
use Rattle.indexmap.specs.IndexMap.{set_value_at}
use Rattle.dtm_node.specs.Nodes.{IsNode, kept_of}
use Rattle.dtm_node.specs.node_standing.Standing.{NodeState}
use Rattle.dtm_node.specs.declared.node.Node.{Node}
use Rattle.run_nodes.specs.Held.{AreNodesIn, clocks_of}
use Rattle.run_nodes.proofs.Counts.{node_more, node_shared}
use Rattle.run_nodes.specs.Told.{kept_names}

module _ {D U : Type 0} (state : D → DiskState) (units : U → UnitsState) where
  abbrev pub kept_in : List (List ℕ × Node D U) → List NodeState
  kept_in es = map (λ e. kept_of state units e.1) es

  abbrev pub names_in : List (List ℕ × Node D U) → List (List ℕ)
  names_in es = map (λ e. e.0) es

  pub same_names : (count : ℕ) (s : SharedState) (es : List (List ℕ × Node D U)) → AreNodesIn state units count s es → names_in es ≡ kept_names (kept_in es)
  same_names count s [] h = refl
  same_names count s (e ∷ es) h = (λ i. sym h.0 i ∷ same_names count s es h.2 i)

  pub more_nodes : (count : ℕ) (s : SharedState) (es : List (List ℕ × Node D U)) → AreNodesIn state units count s es → AreNodesIn state units (count + 1) s es
  more_nodes count s [] h = tt
  more_nodes count s (e ∷ es) h = (h.0, node_more state units count s e.1 h.1, more_nodes count s es h.2)

  pub shared_nodes : (count : ℕ) (s t : SharedState) (es : List (List ℕ × Node D U)) → (s.in_use ≡ true → t.in_use ≡ true) → AreNodesIn state units count s es → AreNodesIn state units count t es
  shared_nodes count s t [] given h = tt
  shared_nodes count s t (e ∷ es) given h = (h.0, node_shared state units count s t e.1 given h.1, shared_nodes count s t es given h.2)

  -- the one at a place
  pub node_at : (count : ℕ) (s : SharedState) (es : List (List ℕ × Node D U)) (place : ℕ) (n : Node D U) → AreNodesIn state units count s es → slice_get (map (λ e. e.1) es) place ≡ Some n → IsNode state units count s n
  node_at count s [] place n h f = let none : ⊥ = cc in absurd none
  node_at count s (e ∷ es) zero n h f = subst (IsNode state units count s) (some_is e.1 n f) h.1
  node_at count s (e ∷ es) (suc place) n h f = node_at count s es place n h.2 f

  -- with another at a place
  pub put_nodes : (count : ℕ) (s t : SharedState) (es : List (List ℕ × Node D U)) (place : ℕ) (n m : Node D U) → (s.in_use ≡ true → t.in_use ≡ true) → AreNodesIn state units count s es → slice_get (map (λ e. e.1) es) place ≡ Some n → m.name ≡ n.name → IsNode state units count t m → AreNodesIn state units count t (set_value_at es place m)
  put_nodes count s t [] place n m given h f named k = let none : ⊥ = cc in absurd none
  put_nodes count s t (e ∷ es) zero n m given h f named k = (named ∙ ap (λ (x : Node D U). x.name) (sym (some_is e.1 n f)) ∙ h.0, k, shared_nodes count s t es given h.2)
  put_nodes count s t (e ∷ es) (suc place) n m given h f named k = (h.0, node_shared state units count s t e.1 given h.1, put_nodes count s t es place n m given h.2 f named k)

  pub put_kept : (es : List (List ℕ × Node D U)) (place : ℕ) (m : Node D U) → kept_in (set_value_at es place m) ≡ slice_set (kept_in es) place (kept_of state units m)
  put_kept [] place m = refl
  put_kept (e ∷ es) zero m = refl
  put_kept (e ∷ es) (suc place) m = ap (λ ks. kept_of state units e.1 ∷ ks) (put_kept es place m)

  pub put_names : (es : List (List ℕ × Node D U)) (place : ℕ) (m : Node D U) → names_in (set_value_at es place m) ≡ names_in es
  put_names [] place m = refl
  put_names (e ∷ es) zero m = refl
  put_names (e ∷ es) (suc place) m = ap (λ ns. e.0 ∷ ns) (put_names es place m)

  -- their clocks, with another of the same clock
  pub put_clocks : (es : List (List ℕ × Node D U)) (place : ℕ) (n m : Node D U) → slice_get (map (λ e. e.1) es) place ≡ Some n → m.clock.0 ≡ n.clock.0 → clocks_of (kept_in (set_value_at es place m)) ≡ clocks_of (kept_in es)
  put_clocks [] place n m f same = refl
  put_clocks (e ∷ es) zero n m f same = ap (λ (c : ℕ). c ∷ clocks_of (kept_in es)) (same ∙ ap (λ (x : Node D U). x.clock.0) (sym (some_is e.1 n f)))
  put_clocks (e ∷ es) (suc place) n m f same = ap (λ cs. e.1.clock.0 ∷ cs) (put_clocks es place n m f same)

  pub kept_there : (es : List (List ℕ × Node D U)) (place : ℕ) (n : Node D U) → slice_get (map (λ e. e.1) es) place ≡ Some n → slice_get (kept_in es) place ≡ Some (kept_of state units n)
  kept_there [] place n f = let none : ⊥ = cc in absurd none
  kept_there (e ∷ es) zero n f = ap (λ (x : Node D U). Some (kept_of state units x)) (some_is e.1 n f)
  kept_there (e ∷ es) (suc place) n f = kept_there es place n f
