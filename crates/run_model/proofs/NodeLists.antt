-- Nodes by their names: what is found, and what is put.
use Rattle.std.proofs.Common.{◌≡◌, ℕ, ◌≤◌, List, [], ◌∷◌, Bool, true, false, Option, Some, if◌then◌else◌, refl, sym, ◌∙◌, ap, subst, arith}
use Rattle.std.specs.Str.{bytes_eq}
use Rattle.std.proofs.lemmas.Slice.Eq.{bytes_eq-Decides}
use Rattle.run_model.specs.World.{Node, DiskCounts, find_node, with_node, disk_of, with_counts}
use Rattle.run_model.specs.Statements.{NoneFalls}

pub some_is : {A : Type 0} (x y : A) → Some x ≡ Some y → x ≡ y
some_is x y e = cc

pub clash : (b : Bool) → b ≡ true → b ≡ false → ⊥
clash b e f = let none : true ≡ false = sym e ∙ f in cc

pub found_name : (node : List ℕ) (ns : List Node) (n : Node) → find_node node ns ≡ Some n → n.name ≡ node
found_name node [] n e = let none : ⊥ = cc in absurd none
found_name node (m ∷ ns) n e = go (bytes_eq node m.name) refl (found_name node ns n) e
  where
    go : (b : Bool) → bytes_eq node m.name ≡ b → (find_node node ns ≡ Some n → n.name ≡ node) → ◌≡◌ {A = Option Node} (if b then Some m else find_node node ns) (Some n) → n.name ≡ node
    go true is more k = let same : m ≡ n = cc in sym (ap (λ x. x.name) same) ∙ sym ((bytes_eq-Decides node m.name).0 is)
    go false is more k = more k

-- a node that is put in the place of the one that was found, under the same name, is found there
pub put_node : (node : List ℕ) (n m : Node) (ns : List Node) → m.name ≡ n.name → find_node node ns ≡ Some n → find_node node (with_node node (λ k. m) ns) ≡ Some m
put_node node n m [] same e = let none : ⊥ = cc in absurd none
put_node node n m (k ∷ ns) same e = go (bytes_eq node k.name) refl (put_node node n m ns same) e
  where
    go : (b : Bool) → bytes_eq node k.name ≡ b → (find_node node ns ≡ Some n → find_node node (with_node node (λ j. m) ns) ≡ Some m) → ◌≡◌ {A = Option Node} (if b then Some k else find_node node ns) (Some n) →
        find_node node (if b then m ∷ ns else k ∷ with_node node (λ j. m) ns) ≡ Some m
    go true is more f = let one : k ≡ n = cc in let name : bytes_eq node m.name ≡ true = ap (bytes_eq node) (same ∙ sym (ap (λ (x : Node). x.name) one)) ∙ is in rw name refl
    go false is more f = rw is (more f)

-- it leaves the nodes where it is the one that was found
pub put_same : (node : List ℕ) (n : Node) (ns : List Node) → find_node node ns ≡ Some n → with_node node (λ m. n) ns ≡ ns
put_same node n [] e = refl
put_same node n (m ∷ ns) e = go (bytes_eq node m.name) (put_same node n ns) e
  where
    go : (b : Bool) → (find_node node ns ≡ Some n → with_node node (λ m. n) ns ≡ ns) → ◌≡◌ {A = Option Node} (if b then Some m else find_node node ns) (Some n) → ◌≡◌ {A = List Node} (if b then n ∷ ns else m ∷ with_node node (λ m. n) ns) (m ∷ ns)
    go true more k = let same : m ≡ n = cc in ap (λ x. x ∷ ns) (sym same)
    go false more k = ap (λ ms. m ∷ ms) (more k)

-- The counts of disks.

-- and each name has the disk that it had
pub put_disk : (other node : List ℕ) (n m : Node) (ns : List Node) (ds : List DiskCounts) → m.name ≡ n.name → find_node node ns ≡ Some n → disk_of other (with_node node (λ k. m) ns) ds ≡ disk_of other ns ds
put_disk other node n m [] ds same e = refl
put_disk other node n m (k ∷ ns) ds same e = go (bytes_eq node k.name) ds (λ es f. put_disk other node n m ns es same f) e
  where
    go : (b : Bool) (ds : List DiskCounts) → ((es : List DiskCounts) → find_node node ns ≡ Some n → disk_of other (with_node node (λ j. m) ns) es ≡ disk_of other ns es) → ◌≡◌ {A = Option Node} (if b then Some k else find_node node ns) (Some n) →
        disk_of other (if b then m ∷ ns else k ∷ with_node node (λ j. m) ns) ds ≡ disk_of other (k ∷ ns) ds
    go true [] more f = refl
    go false [] more f = refl
    go true (d ∷ ds) more f = let one : k ≡ n = cc in ap (λ name. if bytes_eq other name then Some d else disk_of other ns ds) (same ∙ sym (ap (λ (x : Node). x.name) one))
    go false (d ∷ ds) more f = ap (λ o. if bytes_eq other k.name then Some d else o) (more ds f)

pub none_falls_same : (ds : List DiskCounts) → NoneFalls ds ds
none_falls_same [] = tt
none_falls_same (d ∷ ds) = (omega arith, omega arith, none_falls_same ds)

pub none_falls_on : (olds mids news : List DiskCounts) → NoneFalls olds mids → NoneFalls mids news → NoneFalls olds news
none_falls_on [] [] [] h k = tt
none_falls_on [] [] (new ∷ news) h k = absurd k
none_falls_on [] (mid ∷ mids) news h k = absurd h
none_falls_on (old ∷ olds) [] news h k = absurd h
none_falls_on (old ∷ olds) (mid ∷ mids) [] h k = absurd k
none_falls_on (old ∷ olds) (mid ∷ mids) (new ∷ news) h k = (omega arith, omega arith, none_falls_on olds mids news h.2 k.2)

-- the counts of a node's disk, once they are put there
pub counts_put : (node : List ℕ) (old new : DiskCounts) (ns : List Node) (ds : List DiskCounts) → disk_of node ns ds ≡ Some old → disk_of node ns (with_counts node new ns ds) ≡ Some new
counts_put node old new [] ds e = let none : ⊥ = cc in absurd none
counts_put node old new (n ∷ ns) [] e = let none : ⊥ = cc in absurd none
counts_put node old new (n ∷ ns) (d ∷ ds) e = go (bytes_eq node n.name) refl (counts_put node old new ns ds) e
  where
    go : (b : Bool) → bytes_eq node n.name ≡ b → (disk_of node ns ds ≡ Some old → disk_of node ns (with_counts node new ns ds) ≡ Some new) → ◌≡◌ {A = Option DiskCounts} (if b then Some d else disk_of node ns ds) (Some old) →
        disk_of node (n ∷ ns) (if b then new ∷ ds else d ∷ with_counts node new ns ds) ≡ Some new
    go true is more k = rw is refl
    go false is more k = rw is (more k)

-- where they have not fallen, none has
pub none_falls_put : (node : List ℕ) (old new : DiskCounts) (ns : List Node) (ds : List DiskCounts) → disk_of node ns ds ≡ Some old → old.faults ≤ new.faults → old.stops ≤ new.stops → NoneFalls ds (with_counts node new ns ds)
none_falls_put node old new [] ds e f g = none_falls_same ds
none_falls_put node old new (n ∷ ns) [] e f g = tt
none_falls_put node old new (n ∷ ns) (d ∷ ds) e f g = go (bytes_eq node n.name) (λ k. none_falls_put node old new ns ds k f g) e
  where
    go : (b : Bool) → (disk_of node ns ds ≡ Some old → NoneFalls ds (with_counts node new ns ds)) → ◌≡◌ {A = Option DiskCounts} (if b then Some d else disk_of node ns ds) (Some old) →
        NoneFalls (d ∷ ds) (if b then new ∷ ds else d ∷ with_counts node new ns ds)
    go true more k = let same : d ≡ old = cc in subst (λ x. NoneFalls (x ∷ ds) (new ∷ ds)) (sym same) (f, g, none_falls_same ds)
    go false more k = (omega arith, omega arith, more k)

pub none_falls_at : (node : List ℕ) (old new : DiskCounts) (ns : List Node) (ds es : List DiskCounts) → NoneFalls ds es → disk_of node ns ds ≡ Some old → disk_of node ns es ≡ Some new → (old.faults ≤ new.faults) × (old.stops ≤ new.stops)
none_falls_at node old new [] ds es h was now = let none : ⊥ = cc in absurd none
none_falls_at node old new (n ∷ ns) [] es h was now = let none : ⊥ = cc in absurd none
none_falls_at node old new (n ∷ ns) (d ∷ ds) [] h was now = let none : ⊥ = cc in absurd none
none_falls_at node old new (n ∷ ns) (d ∷ ds) (e ∷ es) h was now = go (bytes_eq node n.name) (λ p q. none_falls_at node old new ns ds es h.2 p q) was now
  where
    go : (b : Bool) → (disk_of node ns ds ≡ Some old → disk_of node ns es ≡ Some new → (old.faults ≤ new.faults) × (old.stops ≤ new.stops)) → ◌≡◌ {A = Option DiskCounts} (if b then Some d else disk_of node ns ds) (Some old) →
        ◌≡◌ {A = Option DiskCounts} (if b then Some e else disk_of node ns es) (Some new) → (old.faults ≤ new.faults) × (old.stops ≤ new.stops)
    go true more p q =
        let one : d ≡ old = cc in
        let two : e ≡ new = cc in
        subst (λ x. (x.faults ≤ new.faults) × (x.stops ≤ new.stops)) one (subst (λ x. (d.faults ≤ x.faults) × (d.stops ≤ x.stops)) two (h.0, h.1))
    go false more p q = more p q
