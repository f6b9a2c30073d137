-- What lines have told of a world in which one node is changed.
use Rattle.std.proofs.Common.{◌≡◌, ℕ, List, [], ◌∷◌, ◌++◌, map, take, zero, suc, Bool, true, false, Some, if◌then◌else◌, refl, sym, ◌∙◌, ap, subst}
use Rattle.std.specs.Str.{bytes_eq}
use Rattle.std.proofs.lemmas.Slice.Eq.{bytes_eq-Decides}
use Rattle.run_model.specs.transcript_model.Lines as line
use Rattle.run_model.specs.transcript_model.Lines.{Line}
use Rattle.run_model.specs.World.{World, Shared, Node, Label, find_node, with_node}
use Rattle.run_model.specs.Answers.{Row}
use Rattle.run_model.specs.Steps.{node_after, shared_then, node_after_rows, shared_after_rows, lines_of_rows}
use Rattle.run_model.proofs.NodeLists.{put_same}
use Rattle.run_said.specs.Said.{Said, SaidNode, SaidShared, SaidLabel, with_said, with_up, with_unmade, with_label, line_said, lines_said}
use Rattle.run_said.proofs.Passing.{AllPass}

-- what is told of a world
abbrev pub node_told : Node → SaidNode
node_told n = record { name = n.name; up = n.up; unmade = n.unmade }

abbrev pub label_told : Label → SaidLabel
label_told l = record { name = l.name; node = l.node }

abbrev pub shared_told : Shared → SaidShared
shared_told s = record { labels = map label_told s.labels; in_use = s.in_use; wire = s.wire }

abbrev pub told_in : World → Said
told_in w = record { nodes = map node_told w.nodes; shared = shared_told w.shared }

-- what is told where one node is this
abbrev pub View : List ℕ → List SaidNode → SaidNode → SaidShared → Said
View node base x y = record { nodes = with_said node (λ k. x) base; shared = y }

pub put_told : (node : List ℕ) (m : Node) (ns : List Node) → map node_told (with_node node (λ k. m) ns) ≡ with_said node (λ k. node_told m) (map node_told ns)
put_told node m [] = refl
put_told node m (n ∷ ns) = go (bytes_eq node n.name) (put_told node m ns)
  where
    go : (b : Bool) → map node_told (with_node node (λ k. m) ns) ≡ with_said node (λ k. node_told m) (map node_told ns) →
        ◌≡◌ {A = List SaidNode} (map node_told (if b then m ∷ ns else n ∷ with_node node (λ k. m) ns)) (if b then node_told m ∷ map node_told ns else node_told n ∷ with_said node (λ k. node_told m) (map node_told ns))
    go true more = refl
    go false more = ap (λ ms. node_told n ∷ ms) more

-- what is told of a world in which a node was put
pub told_put : (w : World) (node : List ℕ) (m : Node) (s : Shared) → told_in (record w { nodes = with_node node (λ k. m) w.nodes; shared = s }) ≡ View node (map node_told w.nodes) (node_told m) (shared_told s)
told_put w node m s = ap (λ ns. record { nodes = ns; shared = shared_told s }) (put_told node m w.nodes)

-- and of one in which it is as it was
pub told_same : (w : World) (node : List ℕ) (n : Node) → find_node node w.nodes ≡ Some n → View node (map node_told w.nodes) (node_told n) (shared_told w.shared) ≡ told_in w
told_same w node n found = ap (λ ns. record { nodes = ns; shared = shared_told w.shared }) (sym (put_told node n w.nodes) ∙ ap (map node_told) (put_same node n w.nodes found))

-- a change of the node that was put
changed_said : (node : List ℕ) (f : SaidNode → SaidNode) (x : SaidNode) (base : List SaidNode) → x.name ≡ node → with_said node f (with_said node (λ k. x) base) ≡ with_said node (λ k. f x) base
changed_said node f x [] named = refl
changed_said node f x (n ∷ ns) named = go (bytes_eq node n.name) refl (changed_said node f x ns named)
  where
    here : bytes_eq node x.name ≡ true
    here = (bytes_eq-Decides node x.name).1 (sym named)

    go : (b : Bool) → bytes_eq node n.name ≡ b → with_said node f (with_said node (λ k. x) ns) ≡ with_said node (λ k. f x) ns →
        ◌≡◌ {A = List SaidNode} (with_said node f (if b then x ∷ ns else n ∷ with_said node (λ k. x) ns)) (if b then f x ∷ ns else n ∷ with_said node (λ k. f x) ns)
    go true is more = rw here refl
    go false is more = rw is (ap (λ ms. n ∷ ms) more)

module _ (node : List ℕ) (base : List SaidNode) where
  pub up_view : (other : List ℕ) (up : Bool) (x : SaidNode) (y : SaidShared) → x.name ≡ node → other ≡ node → with_up other up (View node base x y) ≡ View node base (record x { up = up }) y
  up_view other up x y named same = subst (λ name. with_up name up (View node base x y) ≡ View node base (record x { up = up }) y) (sym same) (ap (λ ns. record { nodes = ns; shared = y }) (changed_said node (λ n. record n { up = up }) x base named))

  pub unmade_view : (unmade : Bool) (x : SaidNode) (y : SaidShared) → x.name ≡ node → with_unmade node unmade (View node base x y) ≡ View node base (record x { unmade = unmade }) y
  unmade_view unmade x y named = ap (λ ns. record { nodes = ns; shared = y }) (changed_said node (λ n. record n { unmade = unmade }) x base named)

  -- a row's lines tell what it does; so do those of some rows
  abbrev pub Tells : Row → Node → Shared → Type 0
  Tells r n s = lines_said r.lines (View node base (node_told n) (shared_told s)) ≡ View node base (node_told (node_after r.act n)) (shared_told (shared_then r.act s))

  abbrev pub AllTell : List Row → Node → Shared → Type 0
  AllTell [] n s = Unit {0}
  AllTell (r ∷ rs) n s = Tells r n s × AllTell rs (node_after r.act n) (shared_then r.act s)

pub said_append : (k l : List Line) (said : Said) → lines_said (k ++ l) said ≡ lines_said l (lines_said k said)
said_append [] l said = refl
said_append (x ∷ k) l said = said_append k l (line_said x said)

module _ (node : List ℕ) (base : List SaidNode) where
  pub rows_tell : (rs : List Row) (n : Node) (s : Shared) → AllTell node base rs n s →
      lines_said (lines_of_rows rs) (View node base (node_told n) (shared_told s)) ≡ View node base (node_told (node_after_rows rs n)) (shared_told (shared_after_rows rs s))
  rows_tell [] n s h = refl
  rows_tell (r ∷ rs) n s h =
      said_append r.lines (lines_of_rows rs) (View node base (node_told n) (shared_told s)) ∙ ap (lines_said (lines_of_rows rs)) h.0 ∙ rows_tell rs (node_after r.act n) (shared_then r.act s) h.1

  pub take_tells : (k : ℕ) (rs : List Row) (n : Node) (s : Shared) → AllTell node base rs n s → AllTell node base (take k rs) n s
  take_tells zero rs n s h = tt
  take_tells (suc k) [] n s h = tt
  take_tells (suc k) (r ∷ rs) n s h = (h.0, take_tells k rs (node_after r.act n) (shared_then r.act s) h.1)

-- a line that tells nothing of these
abbrev pub is_neutral : Line → Bool
is_neutral (line.Sent number m) = false
is_neutral (line.Down node cause) = false
is_neutral (line.Crashed node) = false
is_neutral (line.Booted node boot) = false
is_neutral _ = true

pub neutral_line : (l : Line) → is_neutral l ≡ true → (said : Said) → line_said l said ≡ said
neutral_line (line.Sent number m) h said = let no : ⊥ = cc in absurd no
neutral_line (line.Down node cause) h said = let no : ⊥ = cc in absurd no
neutral_line (line.Crashed node) h said = let no : ⊥ = cc in absurd no
neutral_line (line.Booted node boot) h said = let no : ⊥ = cc in absurd no
neutral_line _ h said = refl

abbrev pub AreNeutral : List Line → Type 0
AreNeutral ls = AllPass is_neutral ls

pub neutral_lines : (ls : List Line) → AreNeutral ls → (said : Said) → lines_said ls said ≡ said
neutral_lines [] h said = refl
neutral_lines (l ∷ ls) h said = ap (lines_said ls) (neutral_line l h.0 said) ∙ neutral_lines ls h.1 said

-- a label that was made, before lines or behind them
label_line : (name node : List ℕ) (l : Line) (said : Said) → line_said l (with_label name node said) ≡ with_label name node (line_said l said)
label_line name node (line.Sent number m) said = refl
label_line name node (line.Down other cause) said = refl
label_line name node (line.Crashed other) said = refl
label_line name node (line.Booted other boot) said = refl
label_line name node _ said = refl

pub label_lines : (name node : List ℕ) (ls : List Line) (said : Said) → lines_said ls (with_label name node said) ≡ with_label name node (lines_said ls said)
label_lines name node [] said = refl
label_lines name node (l ∷ ls) said = ap (lines_said ls) (label_line name node l said) ∙ label_lines name node ls (line_said l said)

-- no line tells that a node may be in use
line_use : (l : Line) (said : Said) → (line_said l said).shared.in_use ≡ said.shared.in_use
line_use (line.Sent number m) said = refl
line_use (line.Down node cause) said = refl
line_use (line.Crashed node) said = refl
line_use (line.Booted node boot) said = refl
line_use _ said = refl

pub used_then : (ls : List Line) (said : Said) → said.shared.in_use ≡ true → (lines_said ls said).shared.in_use ≡ true
used_then [] said h = h
used_then (l ∷ ls) said h = used_then ls (line_said l said) (line_use l said ∙ h)
