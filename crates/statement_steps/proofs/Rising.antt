-- Nodes that are up, one after another.
use Rattle.std.specs.Prelude.{slice_get, slice_set}
use Rattle.std.specs.Str.{bytes_eq}
use Rattle.std.proofs.Common.{◌≡◌, ℕ, zero, suc, ◌≤◌, List, [], ◌∷◌, length, take, Bool, true, false, Option, Some, if◌then◌else◌, sym, ◌∙◌, ap, subst}
use Rattle.world_laws.specs.run_model.World.{Node, find_node, with_node}
use Rattle.world_laws.proofs.run_model.NodeLists.{some_is}
use Rattle.run_agreement.specs.Laws.{NamesApart}
use Rattle.statement_steps.specs.Settling.{AreUp}
use Rattle.statement_steps.proofs.Places.{put_at}
use Rattle.statement_steps.proofs.Turning.{taken_all}

-- one that is found is up, and one at a place
pub up_found : (node : List ℕ) (ns : List Node) (n : Node) → AreUp ns → find_node node ns ≡ Some n → n.up ≡ true
up_found node [] n h e = let none : ⊥ = cc in absurd none
up_found node (x ∷ ns) n h e = go (bytes_eq node x.name) (up_found node ns n h.1) e
  where
    go : (b : Bool) → (find_node node ns ≡ Some n → n.up ≡ true) → ◌≡◌ {A = Option Node} (if b then Some x else find_node node ns) (Some n) → n.up ≡ true
    go true more k = ap (λ (y : Node). y.up) (sym (some_is x n k)) ∙ h.0
    go false more k = more k

pub up_at : (ns : List Node) (place : ℕ) (n : Node) → AreUp ns → slice_get ns place ≡ Some n → n.up ≡ true
up_at [] place n h e = let none : ⊥ = cc in absurd none
up_at (x ∷ ns) zero n h e = ap (λ (y : Node). y.up) (sym (some_is x n e)) ∙ h.0
up_at (x ∷ ns) (suc place) n h e = up_at ns place n h.1 e

-- all are where one becomes another that is
pub up_put : (node : List ℕ) (m : Node) (ns : List Node) → m.up ≡ true → AreUp ns → AreUp (with_node node (λ k. m) ns)
up_put node m [] up h = tt
up_put node m (x ∷ ns) up h = go (bytes_eq node x.name) (up_put node m ns up h.1)
  where
    go : (b : Bool) → AreUp (with_node node (λ k. m) ns) → AreUp (if b then m ∷ ns else x ∷ with_node node (λ k. m) ns)
    go true more = (up, h.1)
    go false more = (h.0, more)

-- One more is up: the one at the next place is,
pub up_next : (ns : List Node) (place : ℕ) (n : Node) → AreUp (take place ns) → slice_get ns place ≡ Some n → n.up ≡ true → AreUp (take (suc place) ns)
up_next [] place n h e up = let none : ⊥ = cc in absurd none
up_next (x ∷ ns) zero n h e up = (ap (λ (y : Node). y.up) (some_is x n e) ∙ up, tt)
up_next (x ∷ ns) (suc place) n h e up = (h.0, up_next ns place n h.1 e up)

-- or becomes another that is;
set_next : (ns : List Node) (place : ℕ) (n m : Node) → AreUp (take place ns) → slice_get ns place ≡ Some n → m.up ≡ true → AreUp (take (suc place) (slice_set ns place m))
set_next [] place n m h e up = let none : ⊥ = cc in absurd none
set_next (x ∷ ns) zero n m h e up = (up, tt)
set_next (x ∷ ns) (suc place) n m h e up = (h.0, set_next ns place n m h.1 e up)

pub up_moved : (ns : List Node) (place : ℕ) (n m : Node) → NamesApart ns → AreUp (take place ns) → slice_get ns place ≡ Some n → m.up ≡ true → AreUp (take (suc place) (with_node n.name (λ k. m) ns))
up_moved ns place n m apart h e up = subst (λ ms. AreUp (take (suc place) ms)) (sym (put_at ns place n m apart e)) (set_next ns place n m h e up)

-- behind the last all are.
pub up_all : (ns : List Node) (place : ℕ) → AreUp (take place ns) → length ns ≤ place → AreUp ns
up_all ns place h over = subst AreUp (taken_all ns place over) h
