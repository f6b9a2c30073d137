-- Nodes by their places: what is kept of them, what was said of them, and the nodes of the world that they stand for.
use Rattle.std.specs.Prelude.{◌||◌, slice_get, slice_set}
use Rattle.std.proofs.Common.{◌≡◌, ℕ, zero, suc, List, [], ◌∷◌, map, Bool, true, false, Some, None, refl, sym, ◌∙◌, ap, subst}
use Rattle.std.specs.Str.{bytes_eq}
use Rattle.std.proofs.lemmas.Bool.{both_ways, false_from_ne_true}
use Rattle.std.proofs.lemmas.Slice.Eq.{bytes_eq-Decides}
use Rattle.block_disk.specs.Disk.{CallLog}
use Rattle.said_steps.specs.run_model.World.{DiskCounts, Node, Shared, World, disk_of, find_node}
use Rattle.said_steps.proofs.run_model.NodeLists.{some_is}
use Rattle.statement_steps.specs.run_agreement.Laws.{NamesApart}
use Rattle.said_steps.specs.run_said.Said.{node_in, with_said}
use Rattle.dtm_node.specs.run_shared.Sharing.{IsShared, SharedState}
use Rattle.dtm_node.specs.node_standing.Standing.{NodeState, RepresentsNode, counts_of, disk_in}
use Rattle.dtm_node.specs.node_standing.Telling.{said_node}
use Rattle.statement_steps.specs.Doing.{moved}
use Rattle.statement_steps.proofs.Places.{counts_at, disk_at, find_at, put_at, unnamed}
use Rattle.run_nodes.specs.Names.{AreApart, is_among}
use Rattle.run_nodes.specs.Together.{StandAll, StandsTogether, disks_of}
use Rattle.run_nodes.specs.Told.{kept_names}

-- Lists.

pub get_map : {A B : Type 0} (f : A → B) (xs : List A) (place : ℕ) (x : A) → slice_get xs place ≡ Some x → slice_get (map f xs) place ≡ Some (f x)
get_map f [] place x e = let none : ⊥ = cc in absurd none
get_map f (y ∷ xs) zero x e = ap (λ z. Some (f z)) (some_is y x e)
get_map f (y ∷ xs) (suc place) x e = get_map f xs place x e

pub map_set : {A B : Type 0} (f : A → B) (xs : List A) (place : ℕ) (x : A) → map f (slice_set xs place x) ≡ slice_set (map f xs) place (f x)
map_set f [] place x = refl
map_set f (y ∷ xs) zero x = refl
map_set f (y ∷ xs) (suc place) x = ap (λ ys. f y ∷ ys) (map_set f xs place x)

pub set_same : {A : Type 0} (xs : List A) (place : ℕ) (x : A) → slice_get xs place ≡ Some x → slice_set xs place x ≡ xs
set_same [] place x e = refl
set_same (y ∷ xs) zero x e = ap (λ z. z ∷ xs) (sym (some_is y x e))
set_same (y ∷ xs) (suc place) x e = ap (λ ys. y ∷ ys) (set_same xs place x e)

pub get_set : {A : Type 0} (xs : List A) (place : ℕ) (x y : A) → slice_get xs place ≡ Some x → slice_get (slice_set xs place y) place ≡ Some y
get_set [] place x y e = let none : ⊥ = cc in absurd none
get_set (z ∷ xs) zero x y e = refl
get_set (z ∷ xs) (suc place) x y e = get_set xs place x y e

pub names_set : (ks : List NodeState) (place : ℕ) (k l : NodeState) → slice_get ks place ≡ Some k → l.name ≡ k.name → kept_names (slice_set ks place l) ≡ kept_names ks
names_set ks place k l e same = map_set (λ (x : NodeState). x.name) ks place l ∙ ap (slice_set (kept_names ks) place) same ∙ set_same (kept_names ks) place k.name (get_map (λ (x : NodeState). x.name) ks place k e)

-- the one that has the name at a place
pub record IsKeptAt (ks : List NodeState) (place : ℕ) (name : List ℕ) : Type 0 where
  pub kept : NodeState
  pub here : slice_get ks place ≡ Some kept
  pub named : kept.name ≡ name

pub kept_at_place : (ks : List NodeState) (place : ℕ) (name : List ℕ) → slice_get (kept_names ks) place ≡ Some name → IsKeptAt ks place name
kept_at_place [] place name e = let none : ⊥ = cc in absurd none
kept_at_place (x ∷ ks) zero name e = record { kept = x; here = refl; named = some_is x.name name e }
kept_at_place (x ∷ ks) (suc place) name e = let r = kept_at_place ks place name e in record { kept = r.kept; here = r.here; named = r.named }

-- Nodes of the world.

pub names_same : (logs : List CallLog) (ks : List NodeState) (ns : List Node) → StandAll logs ks ns → map (λ (n : Node). n.name) ns ≡ kept_names ks
names_same [] [] [] h = refl
names_same [] [] (n ∷ ns) h = absurd h
names_same [] (k ∷ ks) ns h = absurd h
names_same (log ∷ logs) [] ns h = absurd h
names_same (log ∷ logs) (k ∷ ks) [] h = absurd h
names_same (log ∷ logs) (k ∷ ks) (n ∷ ns) h = (λ i. h.0.name i ∷ names_same logs ks ns h.1 i)

pub apart_nodes : (ns : List Node) → AreApart (map (λ (n : Node). n.name) ns) → NamesApart ns
apart_nodes [] h = tt
apart_nodes (n ∷ ns) h = (unnamed n.name ns h.0, apart_nodes ns h.1)

-- one stands at its place for one
pub record StandsAt (logs : List CallLog) (ns : List Node) (place : ℕ) (k : NodeState) : Type 0 where
  pub log : CallLog
  pub node : Node
  pub logged : slice_get logs place ≡ Some log
  pub at : slice_get ns place ≡ Some node
  pub stands : RepresentsNode log k node

pub stand_at : (logs : List CallLog) (ks : List NodeState) (ns : List Node) (place : ℕ) (k : NodeState) → StandAll logs ks ns → slice_get ks place ≡ Some k → StandsAt logs ns place k
stand_at [] [] ns place k h e = let none : ⊥ = cc in absurd none
stand_at [] (x ∷ ks) ns place k h e = absurd h
stand_at (log ∷ logs) [] ns place k h e = absurd h
stand_at (log ∷ logs) (x ∷ ks) [] place k h e = absurd h
stand_at (log ∷ logs) (x ∷ ks) (n ∷ ns) zero k h e = record { log = log; node = n; logged = refl; at = refl; stands = subst (λ y. RepresentsNode log y n) (some_is x k e) h.0 }
stand_at (log ∷ logs) (x ∷ ks) (n ∷ ns) (suc place) k h e =
    let r = stand_at logs ks ns place k h.1 e in
    record { log = r.log; node = r.node; logged = r.logged; at = r.at; stands = r.stands }

pub stand_put : (logs : List CallLog) (ks : List NodeState) (ns : List Node) (place : ℕ) (log : CallLog) (l : NodeState) (m : Node) → StandAll logs ks ns → slice_get logs place ≡ Some log → RepresentsNode log l m → StandAll logs (slice_set ks place l) (slice_set ns place m)
stand_put [] [] [] place log l m h e s = tt
stand_put [] [] (n ∷ ns) place log l m h e s = absurd h
stand_put [] (x ∷ ks) ns place log l m h e s = absurd h
stand_put (d ∷ logs) [] ns place log l m h e s = absurd h
stand_put (d ∷ logs) (x ∷ ks) [] place log l m h e s = absurd h
stand_put (d ∷ logs) (x ∷ ks) (n ∷ ns) zero log l m h e s = (subst (λ c. RepresentsNode c l m) (sym (some_is d log e)) s, h.1)
stand_put (d ∷ logs) (x ∷ ks) (n ∷ ns) (suc place) log l m h e s = (h.0, stand_put logs ks ns place log l m h.1 e s)

-- The world of the kept nodes, at one place.
module _ (logs : List CallLog) (ks : List NodeState) (s : SharedState) (w : World) (h : StandsTogether logs ks s w) (apart : AreApart (kept_names ks)) where
  pub world_apart : NamesApart w.nodes
  world_apart = apart_nodes w.nodes (subst AreApart (sym (names_same logs ks w.nodes h.nodes)) apart)

  -- a name that none of them has
  pub missing : (name : List ℕ) → is_among name (kept_names ks) ≡ false → find_node name w.nodes ≡ None
  missing name none = unnamed name w.nodes (ap (is_among name) (names_same logs ks w.nodes h.nodes) ∙ none)

  module _ (place : ℕ) (k : NodeState) (e : slice_get ks place ≡ Some k) where
    abbrev pub it : StandsAt logs w.nodes place k
    it = stand_at logs ks w.nodes place k h.nodes e

    pub found : find_node k.name w.nodes ≡ Some it.node
    found = subst (λ x. find_node x w.nodes ≡ Some it.node) it.stands.name (find_at w.nodes place it.node world_apart it.at)

    pub disk_there : slice_get w.disks place ≡ Some (counts_of (disk_in k.place))
    disk_there = subst (λ ds. slice_get ds place ≡ Some (counts_of (disk_in k.place))) (sym h.disks) (get_map counts_of (disks_of ks) place (disk_in k.place) (get_map (λ (x : NodeState). disk_in x.place) ks place k e))

    pub disk_found : disk_of k.name w.nodes w.disks ≡ Some (counts_of (disk_in k.place))
    disk_found = subst (λ x. disk_of x w.nodes w.disks ≡ Some (counts_of (disk_in k.place))) it.stands.name (disk_at w.nodes w.disks place it.node (counts_of (disk_in k.place)) world_apart it.at disk_there)

    -- with another there
    pub together_put : (l : NodeState) (m : Node) (t : SharedState) (after : Shared) → RepresentsNode it.log l m → IsShared t after → StandsTogether logs (slice_set ks place l) t (moved w k.name m (counts_of (disk_in l.place)) after)
    together_put l m t after stands shared = record {
      nodes = subst (StandAll logs (slice_set ks place l)) (sym (subst (λ x. (◌≡◌ {A = List Node} (moved w x m (counts_of (disk_in l.place)) after).nodes (slice_set w.nodes place m))) it.stands.name (put_at w.nodes place it.node m world_apart it.at)))
          (stand_put logs ks w.nodes place it.log l m h.nodes it.logged stands);
      disks = subst (λ x. (◌≡◌ {A = List DiskCounts} (moved w x m (counts_of (disk_in l.place)) after).disks (map counts_of (disks_of (slice_set ks place l))))) it.stands.name
          (counts_at w.nodes w.disks place it.node (counts_of (disk_in l.place)) world_apart it.at
          ∙ ap (λ ds. slice_set ds place (counts_of (disk_in l.place))) h.disks
          ∙ sym (ap (map counts_of) (map_set (λ (x : NodeState). disk_in x.place) ks place l) ∙ map_set counts_of (disks_of ks) place (disk_in l.place)));
      shared = shared;
    }

-- What was said of them.

its_name : (name : List ℕ) → bytes_eq name name ≡ true
its_name name = (bytes_eq-Decides name name).1 refl

pub turned : (x y : List ℕ) → bytes_eq x y ≡ false → bytes_eq y x ≡ false
turned x y e = false_from_ne_true (bytes_eq y x) (λ f. both_ways (bytes_eq x y) e ((bytes_eq-Decides x y).1 (sym ((bytes_eq-Decides y x).0 f))))

pub either_false : (a b : Bool) → (a || b) ≡ false → (a ≡ false) × (b ≡ false)
either_false false b e = (refl, e)
either_false true b e = let none : ⊥ = cc in absurd none

-- one further on has another name
other_there : (name : List ℕ) (ks : List NodeState) (place : ℕ) (k : NodeState) → is_among name (kept_names ks) ≡ false → slice_get ks place ≡ Some k → bytes_eq k.name name ≡ false
other_there name [] place k h e = let none : ⊥ = cc in absurd none
other_there name (x ∷ ks) zero k h e = subst (λ (y : NodeState). bytes_eq y.name name ≡ false) (some_is x k e) (either_false (bytes_eq x.name name) (is_among name (kept_names ks)) h).0
other_there name (x ∷ ks) (suc place) k h e = other_there name ks place k (either_false (bytes_eq x.name name) (is_among name (kept_names ks)) h).1 e

pub said_found : (ks : List NodeState) (place : ℕ) (k : NodeState) → AreApart (kept_names ks) → slice_get ks place ≡ Some k → node_in k.name (map said_node ks) ≡ Some (said_node k)
said_found [] place k apart e = let none : ⊥ = cc in absurd none
said_found (x ∷ ks) zero k apart e = subst (λ (y : NodeState). node_in y.name (map said_node (x ∷ ks)) ≡ Some (said_node y)) (some_is x k e) (rw (its_name x.name) refl)
said_found (x ∷ ks) (suc place) k apart e = rw (other_there x.name ks place k apart.0 e) (said_found ks place k apart.1 e)

pub said_missing : (name : List ℕ) (ks : List NodeState) → is_among name (kept_names ks) ≡ false → node_in name (map said_node ks) ≡ None
said_missing name [] h = refl
said_missing name (x ∷ ks) h = let parts = either_false (bytes_eq x.name name) (is_among name (kept_names ks)) h in rw (turned x.name name parts.0) (said_missing name ks parts.1)

pub said_put : (ks : List NodeState) (place : ℕ) (k l : NodeState) → AreApart (kept_names ks) → slice_get ks place ≡ Some k → with_said k.name (λ n. said_node l) (map said_node ks) ≡ map said_node (slice_set ks place l)
said_put [] place k l apart e = let none : ⊥ = cc in absurd none
said_put (x ∷ ks) zero k l apart e = subst (λ (y : NodeState). with_said y.name (λ n. said_node l) (map said_node (x ∷ ks)) ≡ said_node l ∷ map said_node ks) (some_is x k e) (rw (its_name x.name) refl)
said_put (x ∷ ks) (suc place) k l apart e = rw (other_there x.name ks place k apart.0 e) (ap (λ ns. said_node x ∷ ns) (said_put ks place k l apart.1 e))
