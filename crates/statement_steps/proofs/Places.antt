-- Nodes by their places, where no two have one name.
use Rattle.std.specs.Prelude.{◌||◌, slice_get, slice_set}
use Rattle.std.proofs.Common.{◌≡◌, ℕ, zero, suc, List, [], ◌∷◌, map, drop, Bool, true, false, Option, Some, None, if◌then◌else◌, refl, sym, ◌∙◌, ap, subst}
use Rattle.std.specs.List.{list_any}
use Rattle.std.specs.Str.{bytes_eq}
use Rattle.std.proofs.lemmas.Bool.{both_ways, false_from_ne_true}
use Rattle.std.proofs.lemmas.Slice.Eq.{bytes_eq-Decides}
use Rattle.world_laws.specs.transcript_model.Lines.{Line}
use Rattle.world_laws.specs.run_model.World.{DiskCounts, Node, Shared, disk_of, find_node, with_counts, with_node}
use Rattle.world_laws.specs.run_model.Answers.{Task}
use Rattle.world_laws.specs.run_model.Steps.{NodeStep}
use Rattle.world_laws.proofs.run_model.NodeLists.{some_is}
use Rattle.world_laws.proofs.run_model.TaskLemmas.{effect_name}
use Rattle.run_agreement.specs.Laws.{NamesApart}

-- a node keeps its name
pub step_name : (s : Shared) (n : Node) (old : DiskCounts) (t : Task) (lines : List Line) (answer : Line) (ends : Bool) (m : Node) (after : Shared) (new : DiskCounts) → NodeStep s n old t lines answer ends m after new → m.name ≡ n.name
step_name s n old t lines answer ends m after new step = ap (λ (x : Node). x.name) step.node ∙ effect_name s old.stops n t step.choice

-- One that is found further on has another name.
pub other_name : (x n : Node) (ns : List Node) → find_node x.name ns ≡ None → find_node n.name ns ≡ Some n → bytes_eq n.name x.name ≡ false
other_name x n ns none found = false_from_ne_true (bytes_eq n.name x.name) (λ e.
    let same = (bytes_eq-Decides n.name x.name).0 e in
    let there : find_node x.name ns ≡ Some n = subst (λ y. find_node y ns ≡ Some n) same found in
    let none : ⊥ = cc in none)

its_name : (name : List ℕ) → bytes_eq name name ≡ true
its_name name = (bytes_eq-Decides name name).1 refl

-- The node at a place is found by its name,
pub find_at : (ns : List Node) (place : ℕ) (n : Node) → NamesApart ns → slice_get ns place ≡ Some n → find_node n.name ns ≡ Some n
find_at [] place n apart e = let none : ⊥ = cc in absurd none
find_at (x ∷ ns) zero n apart e = let same = some_is x n e in subst (λ y. find_node y.name (x ∷ ns) ≡ Some y) same (rw (its_name x.name) refl)
find_at (x ∷ ns) (suc place) n apart e = let more = find_at ns place n apart.1 e in rw (other_name x n ns apart.0 more) more

-- and so are the counts of its disk;
pub disk_at : (ns : List Node) (ds : List DiskCounts) (place : ℕ) (n : Node) (d : DiskCounts) → NamesApart ns → slice_get ns place ≡ Some n → slice_get ds place ≡ Some d → disk_of n.name ns ds ≡ Some d
disk_at [] ds place n d apart e f = let none : ⊥ = cc in absurd none
disk_at (x ∷ ns) [] place n d apart e f = let none : ⊥ = cc in absurd none
disk_at (x ∷ ns) (c ∷ ds) zero n d apart e f = let same = some_is x n e in let one = some_is c d f in subst (λ (y : Node). disk_of y.name (x ∷ ns) (c ∷ ds) ≡ Some d) same (rw (its_name x.name) (ap (λ z. Some z) one))
disk_at (x ∷ ns) (c ∷ ds) (suc place) n d apart e f = rw (other_name x n ns apart.0 (find_at ns place n apart.1 e)) (disk_at ns ds place n d apart.1 e f)

-- what is put there by its name is put at the place;
pub put_at : (ns : List Node) (place : ℕ) (n m : Node) → NamesApart ns → slice_get ns place ≡ Some n → with_node n.name (λ k. m) ns ≡ slice_set ns place m
put_at [] place n m apart e = refl
put_at (x ∷ ns) zero n m apart e = let same = some_is x n e in subst (λ (y : Node). with_node y.name (λ k. m) (x ∷ ns) ≡ m ∷ ns) same (rw (its_name x.name) refl)
put_at (x ∷ ns) (suc place) n m apart e = rw (other_name x n ns apart.0 (find_at ns place n apart.1 e)) (ap (λ ms. x ∷ ms) (put_at ns place n m apart.1 e))

pub counts_at : (ns : List Node) (ds : List DiskCounts) (place : ℕ) (n : Node) (new : DiskCounts) → NamesApart ns → slice_get ns place ≡ Some n → with_counts n.name new ns ds ≡ slice_set ds place new
counts_at [] ds place n new apart e = let none : ⊥ = cc in absurd none
counts_at (x ∷ ns) [] place n new apart e = refl
counts_at (x ∷ ns) (c ∷ ds) zero n new apart e = let same = some_is x n e in subst (λ (y : Node). with_counts y.name new (x ∷ ns) (c ∷ ds) ≡ new ∷ ds) same (rw (its_name x.name) refl)
counts_at (x ∷ ns) (c ∷ ds) (suc place) n new apart e = rw (other_name x n ns apart.0 (find_at ns place n apart.1 e)) (ap (λ cs. c ∷ cs) (counts_at ns ds place n new apart.1 e))

-- and what stands behind it stays.
pub drop_put : {A : Type 0} (xs : List A) (place : ℕ) (x : A) → drop (suc place) (slice_set xs place x) ≡ drop (suc place) xs
drop_put [] place x = refl
drop_put (y ∷ xs) zero x = refl
drop_put (y ∷ xs) (suc place) x = drop_put xs place x

-- Names.

pub names_put : (node : List ℕ) (n m : Node) (ns : List Node) → m.name ≡ n.name → find_node node ns ≡ Some n → map (λ (x : Node). x.name) (with_node node (λ k. m) ns) ≡ map (λ (x : Node). x.name) ns
names_put node n m [] same e = refl
names_put node n m (x ∷ ns) same e = go (bytes_eq node x.name) (names_put node n m ns same) e
  where
    go : (b : Bool) → (find_node node ns ≡ Some n → map (λ (x : Node). x.name) (with_node node (λ k. m) ns) ≡ map (λ (x : Node). x.name) ns) → ◌≡◌ {A = Option Node} (if b then Some x else find_node node ns) (Some n) →
        map (λ (x : Node). x.name) (if b then m ∷ ns else x ∷ with_node node (λ k. m) ns) ≡ x.name ∷ map (λ (x : Node). x.name) ns
    go true more k = let one = some_is x n k in ap (λ y. y ∷ map (λ (x : Node). x.name) ns) (same ∙ ap (λ (y : Node). y.name) (sym one))
    go false more k = ap (λ ys. x.name ∷ ys) (more k)

none_named : (name : List ℕ) (ns ms : List Node) → map (λ (x : Node). x.name) ms ≡ map (λ (x : Node). x.name) ns → find_node name ns ≡ None → find_node name ms ≡ None
none_named name [] [] same e = refl
none_named name [] (m ∷ ms) same e = let none : ⊥ = cc in absurd none
none_named name (n ∷ ns) [] same e = let none : ⊥ = cc in absurd none
none_named name (n ∷ ns) (m ∷ ms) same e = go (bytes_eq name n.name) refl e (none_named name ns ms (cc))
  where
    head : m.name ≡ n.name
    head = cc

    go : (b : Bool) → bytes_eq name n.name ≡ b → ◌≡◌ {A = Option Node} (if b then Some n else find_node name ns) None → (find_node name ns ≡ None → find_node name ms ≡ None) → find_node name (m ∷ ms) ≡ None
    go true is k more = let none : ⊥ = cc in absurd none
    go false is k more = rw (ap (bytes_eq name) head ∙ is) (more k)

pub apart_named : (ns ms : List Node) → map (λ (x : Node). x.name) ms ≡ map (λ (x : Node). x.name) ns → NamesApart ns → NamesApart ms
apart_named [] [] same h = tt
apart_named [] (m ∷ ms) same h = let none : ⊥ = cc in absurd none
apart_named (n ∷ ns) [] same h = let none : ⊥ = cc in absurd none
apart_named (n ∷ ns) (m ∷ ms) same h =
    let head : m.name ≡ n.name = cc in
    let rest : map (λ (x : Node). x.name) ms ≡ map (λ (x : Node). x.name) ns = cc in
    (subst (λ y. find_node y ms ≡ None) (sym head) (none_named n.name ns ms rest h.0), apart_named ns ms rest h.1)

pub apart_put : (node : List ℕ) (n m : Node) (ns : List Node) → m.name ≡ n.name → find_node node ns ≡ Some n → NamesApart ns → NamesApart (with_node node (λ k. m) ns)
apart_put node n m ns same e h = apart_named ns (with_node node (λ k. m) ns) (names_put node n m ns same e) h

-- no node has a name that is none of theirs
pub unnamed : (name : List ℕ) (ns : List Node) → list_any (λ other. bytes_eq other name) (map (λ (x : Node). x.name) ns) ≡ false → find_node name ns ≡ None
unnamed name [] h = refl
unnamed name (n ∷ ns) h = go (bytes_eq n.name name) refl h (unnamed name ns)
  where
    go : (b : Bool) → bytes_eq n.name name ≡ b → ◌≡◌ {A = Bool} (b || list_any (λ other. bytes_eq other name) (map (λ (x : Node). x.name) ns)) false → (list_any (λ other. bytes_eq other name) (map (λ (x : Node). x.name) ns) ≡ false → find_node name ns ≡ None) → find_node name (n ∷ ns) ≡ None
    go true is k more = let none : ⊥ = cc (k) in absurd none
    go false is k more =
        let not_it : bytes_eq name n.name ≡ false = false_from_ne_true (bytes_eq name n.name) (λ e. both_ways (bytes_eq n.name name) is ((bytes_eq-Decides n.name name).1 (sym ((bytes_eq-Decides name n.name).0 e)))) in
        rw not_it (more k)
