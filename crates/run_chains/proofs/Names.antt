-- Nodes keep their names, and a node of the next run is found by that of the one that was left.
use Rattle.std.proofs.Common.{◌≡◌, List, [], ◌∷◌, Bool, true, false, Option, Some, None, if◌then◌else◌, refl, sym, ◌∙◌, ap, subst, map}
use Rattle.std.specs.List.{AllByRecursion}
use Rattle.std.specs.Str.{bytes_eq}
use Rattle.world_laws.specs.transcript_model.Lines.{Line, Normal}
use Rattle.world_laws.specs.script_model.Statements.{At, Bad, Blank, Deliver, LinkDown, Reading, Says, Settle, Statement}
use Rattle.world_laws.specs.script_model.Grammar.{reading}
use Rattle.commit_protocol.specs.Messages.{Name}
use Rattle.world_laws.specs.run_model.World.{World, Node, find_node, with_node}
use Rattle.world_laws.specs.run_model.Steps.{Choice, task_effect}
use Rattle.world_laws.specs.run_model.Statements.{Begins, Part, PartEffect, Phases, Step, begun_with, part_effect, phases_of, refused_at_once, stops_at}
use Rattle.world_laws.specs.run_model.Transcript.{Entry, Legal, Turn}
use Rattle.world_laws.proofs.run_model.NodeLists.{found_name, some_is}
use Rattle.world_laws.proofs.run_model.PartLemmas.{phases_fold}
use Rattle.world_laws.proofs.run_model.PartTasks.{View, Doing, Fixed, view}
use Rattle.world_laws.proofs.run_model.TaskLemmas.{effect_name}
use Rattle.run_laws.specs.run_agreement.Laws.{NamesApart}
use Rattle.run_laws.proofs.run_agreement.Begun.{AnyPart, any_phases}
use Rattle.run_laws.proofs.run_agreement.Found.{bytes_itself, bytes_same}
use Rattle.run_laws.specs.Promises.{AreLastApart, IsLastApart}
use Rattle.run_chains.specs.Chains.{AreNext, IsNext}

-- Along a run.

abbrev pub names_of : List Node → List Name
names_of ns = map (λ (n : Node). n.name) ns

put_names : (name : Name) (m : Node) (ns : List Node) → m.name ≡ name → names_of (with_node name (λ x. m) ns) ≡ names_of ns
put_names name m [] named = refl
put_names name m (n ∷ ns) named = go (bytes_eq name n.name) refl (put_names name m ns named)
  where
    go : (b : Bool) → bytes_eq name n.name ≡ b → names_of (with_node name (λ x. m) ns) ≡ names_of ns → names_of (if b then m ∷ ns else n ∷ with_node name (λ x. m) ns) ≡ n.name ∷ names_of ns
    go true e more = ap (λ x. x ∷ names_of ns) (named ∙ bytes_same name n.name e)
    go false e more = ap (λ xs. n.name ∷ xs) more

part_names : (w : World) (p : Part) (c : Choice) → names_of (part_effect w p c).world.nodes ≡ names_of w.nodes
part_names w p c = go (view w p)
  where
    go : View w p → names_of (part_effect w p c).world.nodes ≡ names_of w.nodes
    go (Fixed answer ends kind is) = ap (λ (f : PartEffect). names_of f.world.nodes) (is c)
    go (Doing other t n named found does may) =
        let e = task_effect w.shared (stops_at other w) n t c in
        ap (λ (f : PartEffect). names_of f.world.nodes) (does c) ∙ put_names other e.node w.nodes (effect_name w.shared (stops_at other w) n t c ∙ found_name other w.nodes n found)

step_names : (w v : World) (s : Statement) (lines : List Line) → Step w s lines v → names_of v.nodes ≡ names_of w.nodes
step_names w v s lines step = ap (λ (x : World). names_of x.nodes) step.goes ∙ by (refused_at_once w s) step.does
  where
    begun : (s : Statement) → names_of (begun_with s w).nodes ≡ names_of w.nodes
    begun Settle = refl
    begun (At node request) = refl
    begun (Deliver number) = refl
    begun (LinkDown a b) = refl

    by : (o : Option Line) → Begins o (Phases (phases_of s) v.disks (begun_with s w) Normal) w step.events step.answer step.world → names_of step.world.nodes ≡ names_of w.nodes
    by (Some refusal) d = ap (λ (x : World). names_of x.nodes) d.2
    by None d = phases_fold v.disks AnyPart (λ given. Unit {0}) (λ u rest answer x. names_of x.nodes ≡ names_of u.nodes) (λ u given q. refl)
        (λ u p c ok allowed ends. part_names u p c)
        (λ u p c ok allowed on. (tt, λ rest answer x more. more ∙ part_names u p c))
        (phases_of s) (any_phases (phases_of s)) (begun_with s w) Normal step.events step.answer step.world tt d ∙ begun s

pub legal_names : (start w : World) (es : List Entry) → Legal start es w → names_of w.nodes ≡ names_of start.nodes
legal_names start w [] legal = ap (λ (x : World). names_of x.nodes) legal
legal_names start w (e ∷ es) legal = go (reading e.source.text) legal.2 ∙ legal_names start legal.0 es legal.1
  where
    go : (r : Reading) → Turn legal.0 r e.lines w → names_of w.nodes ≡ names_of legal.0.nodes
    go Blank turn = ap (λ (x : World). names_of x.nodes) turn.1
    go (Says s) step = step_names legal.0 w s e.lines step
    go (Bad column) turn = absurd turn

-- so no two have one name where no two had

tail_names : (n m : Node) (ns ms : List Node) → names_of (n ∷ ns) ≡ names_of (m ∷ ms) → (n.name ≡ m.name) × (names_of ns ≡ names_of ms)
tail_names n m ns ms e = (cc, cc)

none_named : (name : Name) (ns ms : List Node) → names_of ms ≡ names_of ns → find_node name ns ≡ None → find_node name ms ≡ None
none_named name ns [] e f = refl
none_named name [] (m ∷ ms) e f = let no : ⊥ = cc in absurd no
none_named name (n ∷ ns) (m ∷ ms) e f = go (bytes_eq name n.name) refl f (none_named name ns ms (tail_names m n ms ns e).1)
  where
    go : (b : Bool) → bytes_eq name n.name ≡ b → ◌≡◌ {A = Option Node} (if b then Some n else find_node name ns) None → (find_node name ns ≡ None → find_node name ms ≡ None) → find_node name (m ∷ ms) ≡ None
    go true q k more = let no : ⊥ = cc in absurd no
    go false q k more = ap (λ b. if b then Some m else find_node name ms) (ap (bytes_eq name) (tail_names m n ms ns e).0 ∙ q) ∙ more k

pub same_apart : (ns ms : List Node) → names_of ms ≡ names_of ns → NamesApart ns → NamesApart ms
same_apart ns [] e apart = tt
same_apart [] (m ∷ ms) e apart = let no : ⊥ = cc in absurd no
same_apart (n ∷ ns) (m ∷ ms) e apart =
    let t = tail_names m n ms ns e in
    (none_named m.name ns ms t.1 (ap (λ name. find_node name ns) t.0 ∙ apart.0), same_apart ns ms t.1 apart.1)

-- From one run to the next.

-- a name is that of a node in both racks, or in none
pub data Place (name : Name) (ns ms : List Node) : Type 0 where
  Nowhere : find_node name ns ≡ None → find_node name ms ≡ None → Place name ns ms
  Both : (n m : Node) → find_node name ns ≡ Some n → find_node name ms ≡ Some m → IsNext n m → Place name ns ms

pub place : (name : Name) (ns ms : List Node) → AreNext ns ms → Place name ns ms
place name [] [] h = Nowhere refl refl
place name [] (m ∷ ms) h = absurd h
place name (n ∷ ns) [] h = absurd h
place name (n ∷ ns) (m ∷ ms) h = go (bytes_eq name n.name) refl (place name ns ms h.1)
  where
    go : (b : Bool) → bytes_eq name n.name ≡ b → Place name ns ms → Place name (n ∷ ns) (m ∷ ms)
    go true e later = Both n m (ap (λ b. if b then Some n else find_node name ns) e) (ap (λ b. if b then Some m else find_node name ms) (ap (bytes_eq name) h.0.named ∙ e)) h.0
    go false e later = rest later
      where
        left : find_node name (n ∷ ns) ≡ find_node name ns
        left = ap (λ b. if b then Some n else find_node name ns) e

        right : find_node name (m ∷ ms) ≡ find_node name ms
        right = ap (λ b. if b then Some m else find_node name ms) (ap (bytes_eq name) h.0.named ∙ e)

        rest : Place name ns ms → Place name (n ∷ ns) (m ∷ ms)
        rest (Nowhere a b) = Nowhere (left ∙ a) (right ∙ b)
        rest (Both x y a b is) = Both x y (left ∙ a) (right ∙ b) is

pub next_names : (ns ms : List Node) → AreNext ns ms → names_of ms ≡ names_of ns
next_names [] [] h = refl
next_names [] (m ∷ ms) h = absurd h
next_names (n ∷ ns) [] h = absurd h
next_names (n ∷ ns) (m ∷ ms) h = λ i. h.0.named i ∷ next_names ns ms h.1 i

-- nodes are found by their names
pub found_first : (n : Node) (ns : List Node) → find_node n.name (n ∷ ns) ≡ Some n
found_first n ns = ap (λ b. if b then Some n else find_node n.name ns) (bytes_itself n.name n.name refl)

pub found_behind : (n : Node) (ns : List Node) → find_node n.name ns ≡ None → (name : Name) (m : Node) → find_node name ns ≡ Some m → find_node name (n ∷ ns) ≡ Some m
found_behind n ns none name m e = go (bytes_eq name n.name) refl
  where
    go : (b : Bool) → bytes_eq name n.name ≡ b → find_node name (n ∷ ns) ≡ Some m
    go true q = let clash : ◌≡◌ {A = Option Node} None (Some m) = sym none ∙ ap (λ x. find_node x ns) (sym (bytes_same name n.name q)) ∙ e in let no : ⊥ = cc in absurd no
    go false q = ap (λ b. if b then Some n else find_node name ns) q ∙ e

pub all_apart : (ns : List Node) → NamesApart ns → ((name : Name) (n : Node) → find_node name ns ≡ Some n → IsLastApart n) → AreLastApart ns
all_apart [] apart h = tt
all_apart (n ∷ ns) apart h = (h n.name n (found_first n ns), all_apart ns apart.1 (λ name m e. h name m (found_behind n ns apart.0 name m e)))

-- what is so of all nodes is so of the one that has this name
pub node_at : (P : Node → Type 0) (ns : List Node) (name : Name) (n : Node) → AllByRecursion P ns → find_node name ns ≡ Some n → P n
node_at P [] name n all e = let no : ⊥ = cc in absurd no
node_at P (m ∷ ms) name n all e = go (bytes_eq name m.name) e (node_at P ms name n all.1)
  where
    go : (b : Bool) → ◌≡◌ {A = Option Node} (if b then Some m else find_node name ms) (Some n) → (find_node name ms ≡ Some n → P n) → P n
    go true f rest = subst P (some_is m n f) all.0
    go false f rest = rest f
