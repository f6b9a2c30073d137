-- Nodes of a rack, one after another.
use Rattle.std.proofs.Common.{◌-◌, get_or, take, drop, Result, Ok, Err, IfOk, Vec, Global, ◌≡◌, ℕ, ◌≤◌, List, [], ◌∷◌, Bool, true, false, Option, Some, None, if◌then◌else◌, refl, sym, ap, subst, ◌∙◌, map, length, arith}
use Rattle.std.specs.Str.{bytes_eq}
use Rattle.world_laws.specs.run_model.Answers.{Service}
use Rattle.world_laws.specs.run_model.World.{Node, Shared, find_node, with_node}
use Rattle.reference_world.specs.declared.line.Line.{Line}
use Rattle.reference_tasks.specs.Tasks.{Performs}
use Rattle.reference_tasks.specs.Serving.{HasUnits, Serves}
use Rattle.reference_tasks.specs.reference_node.Nodes.{node_of}
use Rattle.reference_tasks.specs.reference_node.declared.node.Node.{Node as Kept}
use Rattle.reference_tasks.proofs.UnitsLemmas.{less_units}
use Rattle.reference_tasks.specs.declared.tasks.TaskShown.{TaskShown}
use Rattle.reference_run.proofs.FitLemmas.{have_less}
use Rattle.reference_run.specs.Served.{AllHave, IsDone, IsDoneBy, IsServedAt, IsServedBy}

take_all : {A : Type 0} (xs : List A) → take (length xs) xs ≡ xs
take_all [] = refl
take_all (x ∷ xs) = ap (λ ys. x ∷ ys) (take_all xs)

-- A node changed: the first, or another.

changed_here : (name : List ℕ) (n m : Node) (ns : List Node) → bytes_eq name n.name ≡ true → with_node name (λ k. m) (n ∷ ns) ≡ m ∷ ns
changed_here name n m ns is = ap (λ (b : Bool). if b then m ∷ ns else n ∷ with_node name (λ k. m) ns) is

changed_there : (name : List ℕ) (n m : Node) (ns : List Node) → bytes_eq name n.name ≡ false → with_node name (λ k. m) (n ∷ ns) ≡ n ∷ with_node name (λ k. m) ns
changed_there name n m ns other = ap (λ (b : Bool). if b then m ∷ ns else n ∷ with_node name (λ k. m) ns) other

-- a list by its first element and the rest, as the code parts it
rest_of : {A : Type 0} (x : A) (xs : List A) → take (length (x ∷ xs) - 1) xs ≡ xs
rest_of x xs = let e : length (x ∷ xs) - 1 ≡ length xs = omega arith in ap (λ k. take k xs) e ∙ take_all xs

pub parted : {A : Type 0} (xs : List A) (x : A) → 1 ≤ length xs → x ≡ get_or xs 0 x → xs ≡ x ∷ take (length xs - 1) (drop 1 xs)
parted [] x some is = absurd (omega arith)
parted (y ∷ ys) x some is = λ i. sym is i ∷ sym (rest_of y ys) i

-- A task or a request at the first node, or at another.

pub done_here : (name : List ℕ) (e : Service) (s t : Shared) (n m : Node) (ns : List Node) (x : TaskShown) → bytes_eq name n.name ≡ true → Performs s n e x m t → IsDone name e s (n ∷ ns) (Some x) (m ∷ ns) t
done_here name e s t n m ns x is p = subst (λ (b : Bool). IsDoneBy (if b then Some n else find_node name ns) name e s (n ∷ ns) (Some x) (m ∷ ns) t) (sym is) (x, m, refl, p, sym (changed_here name n m ns is))

pub done_there : (name : List ℕ) (e : Service) (s t : Shared) (n : Node) (ns ms : List Node) (x : Option (TaskShown)) → bytes_eq name n.name ≡ false → IsDone name e s ns x ms t → IsDone name e s (n ∷ ns) x (n ∷ ms) t
done_there name e s t n ns ms x other done = subst (λ (b : Bool). IsDoneBy (if b then Some n else find_node name ns) name e s (n ∷ ns) x (n ∷ ms) t) (sym other) (go (find_node name ns) done)
  where
    go : (o : Option Node) → IsDoneBy o name e s ns x ms t → IsDoneBy o name e s (n ∷ ns) x (n ∷ ms) t
    go (Some k) d = (d.0, d.1, d.2, d.3, ap (λ ks. n ∷ ks) d.4 ∙ sym (changed_there name n d.1 ns other))
    go None d = (d.0, ap (λ ks. n ∷ ks) d.1, d.2)

pub served_here : (name : List ℕ) (e : Service) (s t : Shared) (n m : Node) (ns : List Node) (x : List Line) → bytes_eq name n.name ≡ true → Serves s n e x m t → IsServedAt name e s (n ∷ ns) (Some x) (m ∷ ns) t
served_here name e s t n m ns x is p = subst (λ (b : Bool). IsServedBy (if b then Some n else find_node name ns) name e s (n ∷ ns) (Some x) (m ∷ ns) t) (sym is) (x, m, refl, p, sym (changed_here name n m ns is))

pub served_there : (name : List ℕ) (e : Service) (s t : Shared) (n : Node) (ns ms : List Node) (x : Option (List Line)) → bytes_eq name n.name ≡ false → IsServedAt name e s ns x ms t → IsServedAt name e s (n ∷ ns) x (n ∷ ms) t
served_there name e s t n ns ms x other done = subst (λ (b : Bool). IsServedBy (if b then Some n else find_node name ns) name e s (n ∷ ns) x (n ∷ ms) t) (sym other) (go (find_node name ns) done)
  where
    go : (o : Option Node) → IsServedBy o name e s ns x ms t → IsServedBy o name e s (n ∷ ns) x (n ∷ ms) t
    go (Some k) d = (d.0, d.1, d.2, d.3, ap (λ ks. n ∷ ks) d.4 ∙ sym (changed_there name n d.1 ns other))
    go None d = (d.0, ap (λ ks. n ∷ ks) d.1, d.2)

-- The same of nodes as they are kept.

pub done_first : (name : List ℕ) (e : Service) (s t : Shared) (ns ms : List Kept) (n m : Kept) (rest : List Kept) (x : TaskShown) → ns ≡ n ∷ rest → ms ≡ m ∷ rest → bytes_eq name (node_of n).name ≡ true → Performs s (node_of n) e x (node_of m) t → IsDone name e s (map node_of ns) (Some x) (map node_of ms) t
done_first name e s t ns ms n m rest x is new same p = subst (λ ks. IsDone name e s (map node_of ks) (Some x) (map node_of ms) t) (sym is) (subst (λ ks. IsDone name e s (map node_of (n ∷ rest)) (Some x) (map node_of ks) t) (sym new) (done_here name e s t (node_of n) (node_of m) (map node_of rest) x same p))

pub done_later : (name : List ℕ) (e : Service) (s t : Shared) (ns ms : List Kept) (n : Kept) (rest ks : List Kept) (x : Option TaskShown) → ns ≡ n ∷ rest → ms ≡ n ∷ ks → bytes_eq name (node_of n).name ≡ false → IsDone name e s (map node_of rest) x (map node_of ks) t → IsDone name e s (map node_of ns) x (map node_of ms) t
done_later name e s t ns ms n rest ks x is new other p = subst (λ js. IsDone name e s (map node_of js) x (map node_of ms) t) (sym is) (subst (λ js. IsDone name e s (map node_of (n ∷ rest)) x (map node_of js) t) (sym new) (done_there name e s t (node_of n) (map node_of rest) (map node_of ks) x other p))

pub served_later : (name : List ℕ) (e : Service) (s t : Shared) (ns ms : List Kept) (n : Kept) (rest ks : List Kept) (x : Option (List Line)) → ns ≡ n ∷ rest → ms ≡ n ∷ ks → bytes_eq name (node_of n).name ≡ false → IsServedAt name e s (map node_of rest) x (map node_of ks) t → IsServedAt name e s (map node_of ns) x (map node_of ms) t
served_later name e s t ns ms n rest ks x is new other p = subst (λ js. IsServedAt name e s (map node_of js) x (map node_of ms) t) (sym is) (subst (λ js. IsServedAt name e s (map node_of (n ∷ rest)) x (map node_of js) t) (sym new) (served_there name e s t (node_of n) (map node_of rest) (map node_of ks) x other p))

pub have_first : (more units : ℕ) (ns ms : List Kept) (n m : Kept) (rest : List Kept) → ns ≡ n ∷ rest → ms ≡ m ∷ rest → units ≤ more → (HasUnits more (node_of n) → HasUnits units (node_of m)) → AllHave more (map node_of ns) → AllHave units (map node_of ms)
have_first more units ns ms n m rest is new few f h = subst (λ ks. AllHave units (map node_of ks)) (sym new) (let g = subst (λ ks. AllHave more (map node_of ks)) is h in (f g.0, have_less more units (map node_of rest) few g.1))

pub have_later : (more units : ℕ) (ns ms : List Kept) (n : Kept) (rest ks : List Kept) → ns ≡ n ∷ rest → ms ≡ n ∷ ks → units ≤ more → (AllHave more (map node_of rest) → AllHave units (map node_of ks)) → AllHave more (map node_of ns) → AllHave units (map node_of ms)
have_later more units ns ms n rest ks is new few f h = subst (λ js. AllHave units (map node_of js)) (sym new) (let g = subst (λ js. AllHave more (map node_of js)) is h in (less_units more units (node_of n) few g.0, f g.1))

-- what was taken out of the rack
pub taken_out : (a b : Vec Kept Global) → a ≡ b → map node_of a.items ≡ map node_of b.items
taken_out a b e = ap (λ (v : Vec Kept Global). map node_of v.items) e

-- the names of two nodes, as they are compared
pub compared : (b : Bool) (x y name other : List ℕ) → b ≡ bytes_eq x y → x ≡ name → y ≡ other → bytes_eq name other ≡ b
compared b x y name other e f g = sym (e ∙ (λ i. bytes_eq (f i) (g i)))

-- three facts of one value that was returned
pub joined_ok : {T E : Type 0} (r : Result T E) (P Q R S : T → Type 0) → ((x : T) → P x → Q x → R x → S x) → IfOk r P → IfOk r Q → IfOk r R → IfOk r S
joined_ok (Ok x) P Q R S f p q r = f x p q r
joined_ok (Err e) P Q R S f p q r = tt
