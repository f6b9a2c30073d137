-- Which disks a settling made run again, by its lines.
use Rattle.std.proofs.Common.{◌≡◌, ℕ, List, [], ◌∷◌, ◌++◌, Bool, true, false, ◌||◌, Option, Some, None, if◌then◌else◌, refl, ◌∙◌, ap, subst}
use Rattle.std.specs.List.{AllByRecursion, last_or}
use Rattle.std.specs.Str.{bytes_eq}
use Rattle.std.proofs.lemmas.Bool.{false_from_ne_true}
use Rattle.std.proofs.lemmas.Slice.Eq.{bytes_eq-Decides}
use Rattle.run_said.specs.transcript_model.Lines as line
use Rattle.run_said.specs.transcript_model.Lines.{Line}
use Rattle.run_said.specs.Said.{SaidNode, node_in}
use Rattle.said_steps.specs.Answers.{stuck_at}
use Rattle.said_steps.specs.Own.{IsOwn}
use Rattle.said_steps.specs.Calls.{AllRestarted, CameUp, SomeRestarted, down_names, restarted, shows_boot, tried_last}

-- What lines show of a boot.

show_line : (name : List ℕ) (l : Line) (ls ms : List Line) → shows_boot name (ls ++ ms) ≡ shows_boot name ls || shows_boot name ms → shows_boot name (l ∷ (ls ++ ms)) ≡ shows_boot name (l ∷ ls) || shows_boot name ms
show_line name (line.Booted node boot) ls ms more = go (bytes_eq name node)
  where
    go : (b : Bool) → ◌≡◌ {A = Bool} (if b then true else shows_boot name (ls ++ ms)) ((if b then true else shows_boot name ls) || shows_boot name ms)
    go true = refl
    go false = more
show_line name _ ls ms more = more

pub shows_append : (name : List ℕ) (ls ms : List Line) → shows_boot name (ls ++ ms) ≡ shows_boot name ls || shows_boot name ms
shows_append name [] ms = refl
shows_append name (l ∷ ls) ms = show_line name l ls ms (shows_append name ls ms)

other_line : (name other : List ℕ) (l : Line) (ls : List Line) → (name ≡ other → ⊥) → IsOwn other l → shows_boot name ls ≡ false → shows_boot name (l ∷ ls) ≡ false
other_line name other (line.Booted node boot) ls ne own more = let away : bytes_eq name node ≡ false = false_from_ne_true (bytes_eq name node) (λ e. ne ((bytes_eq-Decides name node).0 e ∙ own)) in rw away more
other_line name other _ ls ne own more = more

-- lines of another node show no boot of this one
pub shows_other : (name other : List ℕ) (ls : List Line) → (name ≡ other → ⊥) → AllByRecursion (IsOwn other) ls → shows_boot name ls ≡ false
shows_other name other [] ne own = refl
shows_other name other (l ∷ ls) ne own = other_line name other l ls ne own.0 (shows_other name other ls ne own.1)

-- A node that came up did so whatever is shown behind that.
pub came_more : (ns : List SaidNode) (ls ms : List Line) → CameUp ns ls → CameUp ns (ls ++ ms)
came_more [] ls ms h = tt
came_more (n ∷ ns) ls ms h = ((λ down. let k = h.0 down in (k.0, shows_append n.name ls ms ∙ ap (λ b. b || shows_boot n.name ms) k.1)), came_more ns ls ms h.1)

pub came_next : (ns : List SaidNode) (n : SaidNode) (lines : List Line) → CameUp ns lines → (n.up ≡ false → (n.unmade ≡ false) × (shows_boot n.name lines ≡ true)) → CameUp (ns ++ n ∷ []) lines
came_next [] n lines h k = (k, tt)
came_next (x ∷ ns) n lines h k = (h.0, came_next ns n lines h.1 k)

-- Whose disks were made to run again.

pub all_restarted : AllRestarted
all_restarted [] lines h = refl
all_restarted (n ∷ ns) lines h = go n.up refl (all_restarted ns lines h.1)
  where
    go : (b : Bool) → n.up ≡ b → restarted ns lines ≡ down_names ns →
        ◌≡◌ {A = List (List ℕ)} (if b then restarted ns lines else (if n.unmade then [] else (if shows_boot n.name lines then n.name ∷ restarted ns lines else tried_last n.name (last_or None lines)))) (if b then down_names ns else n.name ∷ down_names ns)
    go true e more = more
    go false e more =
        let k = h.0 e in
        (λ i. if k.0 i then [] else (if k.1 i then n.name ∷ more i else tried_last n.name (last_or None lines)))

pub some_restarted : SomeRestarted
some_restarted [] n back lines h down none = (λ i. if down i then restarted back lines else (if n.unmade then [] else (if none i then n.name ∷ restarted back lines else tried_last n.name (last_or None lines))))
some_restarted (x ∷ front) n back lines h down none = go x.up refl (some_restarted front n back lines h.1 down none)
  where
    tail : List (List ℕ)
    tail = if n.unmade then [] else tried_last n.name (last_or None lines)

    go : (b : Bool) → x.up ≡ b → restarted (front ++ n ∷ back) lines ≡ down_names front ++ tail →
        ◌≡◌ {A = List (List ℕ)} (if b then restarted (front ++ n ∷ back) lines else (if x.unmade then [] else (if shows_boot x.name lines then x.name ∷ restarted (front ++ n ∷ back) lines else tried_last x.name (last_or None lines))))
        ((if b then down_names front else x.name ∷ down_names front) ++ tail)
    go true e more = more
    go false e more =
        let k = h.0 e in
        (λ i. if k.0 i then [] else (if k.1 i then x.name ∷ more i else tried_last x.name (last_or None lines)))

-- The node at which the boots of a settling ended.

-- none, where each came up;
pub stuck_none : (ns : List SaidNode) (lines : List Line) → CameUp ns lines → stuck_at ns lines ≡ None
stuck_none [] lines h = refl
stuck_none (n ∷ ns) lines h = go n.up refl (stuck_none ns lines h.1)
  where
    go : (b : Bool) → n.up ≡ b → stuck_at ns lines ≡ None → ◌≡◌ {A = Option SaidNode} (if b then stuck_at ns lines else (if shows_boot n.name lines then stuck_at ns lines else Some n)) None
    go true e more = more
    go false e more = ap (λ b. if b then stuck_at ns lines else Some n) (h.0 e).1 ∙ more

-- the first that did not, where those in front of it did.
pub stuck_here : (front : List SaidNode) (n : SaidNode) (back : List SaidNode) (lines : List Line) → CameUp front lines → n.up ≡ false → shows_boot n.name lines ≡ false → stuck_at (front ++ n ∷ back) lines ≡ Some n
stuck_here [] n back lines h down none = (λ i. if down i then stuck_at back lines else (if none i then stuck_at back lines else Some n))
stuck_here (x ∷ front) n back lines h down none = go x.up refl (stuck_here front n back lines h.1 down none)
  where
    go : (b : Bool) → x.up ≡ b → stuck_at (front ++ n ∷ back) lines ≡ Some n → ◌≡◌ {A = Option SaidNode} (if b then stuck_at (front ++ n ∷ back) lines else (if shows_boot x.name lines then stuck_at (front ++ n ∷ back) lines else Some x)) (Some n)
    go true e more = more
    go false e more = ap (λ b. if b then stuck_at (front ++ n ∷ back) lines else Some x) (h.0 e).1 ∙ more

-- A node that was down came up in lines by which each did.
pub came_in : (name : List ℕ) (ns : List SaidNode) (n : SaidNode) (lines : List Line) → CameUp ns lines → node_in name ns ≡ Some n → n.up ≡ false → shows_boot n.name lines ≡ true
came_in name [] n lines h e down = let none : ⊥ = cc in absurd none
came_in name (x ∷ ns) n lines h e down = go (bytes_eq name x.name) e (λ k. came_in name ns n lines h.1 k down)
  where
    go : (b : Bool) → ◌≡◌ {A = Option SaidNode} (if b then Some x else node_in name ns) (Some n) → (node_in name ns ≡ Some n → shows_boot n.name lines ≡ true) → shows_boot n.name lines ≡ true
    go true k more = let same : x ≡ n = cc in subst (λ (y : SaidNode). y.up ≡ false → shows_boot y.name lines ≡ true) same (λ d. (h.0 d).1) down
    go false k more = more k
