-- Racks whose disks are all of zeros.
use Rattle.std.proofs.Common.{◌≡◌, ℕ, ◌*◌, List, [], ◌∷◌, Bool, false, Option, Some, None, if◌then◌else◌, refl, sym, ap, subst, ◌∙◌, arith}
use Rattle.std.specs.Prelude.{slice_index_or}
use Rattle.std.proofs.lemmas.Slice.Eq.{bytes_eq-Decides}
use Rattle.world_laws.specs.run_model.Rows.{zeros}
use Rattle.world_laws.specs.run_model.World.{AreUnitsOf, DiskCounts, File, IsLogInOrder, IsOpening, Node, Shared, opened}
use Rattle.statement_steps.specs.Doing.{AllKept}
use Rattle.world_laws.specs.Nodes.{IsKeptNode, NodesAreKept}
use Rattle.reference_law.specs.Whole.{PlaceSaid, nodes_at, opening, no_counts as place_counts}
use Rattle.reference_branches.specs.Branches.{nothing_shared}
use Rattle.reference_tasks.specs.Serving.{HasUnits}
use Rattle.reference_run.specs.Served.{AllHave, IsFit, moved, no_counts}
use Rattle.reference_run.proofs.FitLemmas.{fit_moved}

-- no file is in no place
never_there : (place : ℕ) (f : File) → slice_index_or [] place None ≡ Some f → ⊥
never_there place f e = let clash : None ≡ Some f = e in cc

zeros_units : (name : List ℕ) (blocks : ℕ) → AreUnitsOf (zeros name blocks)
zeros_units name blocks = record {
  tells = λ place f e. absurd (never_there place f e);
  marked = λ up. let never : ⊥ = cc (up) in absurd never;
  reached = tt;
  names = λ p q f g e. absurd (never_there p f e);
}

zeros_log : (name : List ℕ) (blocks : ℕ) → IsLogInOrder (zeros name blocks)
zeros_log name blocks = record {
  distinct = tt;
  reached = tt;
  prepared_within = λ r i. absurd i;
  committed_within = λ r i. absurd i;
  prepared = λ serial u e. let never : ⊥ = cc (e) in absurd never;
  active = λ r u i. absurd i;
  transactions = tt;
  unsettled = tt;
  few = omega arith;
  slots = omega arith;
}

zeros_open : (name : List ℕ) (blocks : ℕ) → IsOpening (zeros name blocks)
zeros_open name blocks = record {
  down = refl;
  made = refl;
  was_down = refl;
  clock = refl;
  volatile = refl;
  settled = refl;
  calls = refl;
  under_way = refl;
  resting = tt;
  last = tt;
  units = zeros_units name blocks;
  log = zeros_log name blocks;
  ends = tt;
  images = tt;
  named = λ n e. refl;
  few_locks = omega arith;
}

zeros_kept : NodesAreKept → (name : List ℕ) (blocks : ℕ) → (let s : Shared = record { labels = []; in_use = false; wire = []; accepted = []; read_only = [] } in IsKeptNode s (zeros name blocks))
zeros_kept kept name blocks =
    let n = zeros name blocks in
    let d : DiskCounts = record { faults = 0; stops = 0 } in
    kept (n ∷ []) (d ∷ []) [] (opened (n ∷ []) (d ∷ [])) (zeros_open name blocks, tt) refl name n (ap (λ (b : Bool). (let o : Option Node = if b then Some n else None in o)) ((bytes_eq-Decides name name).1 refl))

pub opening_kept : NodesAreKept → (ps : List PlaceSaid) → (let s : Shared = record { labels = []; in_use = false; wire = []; accepted = []; read_only = [] } in AllKept s (nodes_at ps))
opening_kept kept [] = tt
opening_kept kept (p ∷ ps) = (zeros_kept kept p.name p.blocks, opening_kept kept ps)

-- all that a script may take
zeros_have : (name : List ℕ) (blocks : ℕ) → HasUnits (1024 * 1000000) (zeros name blocks)
zeros_have name blocks = record { journal = omega arith; boot = omega arith; drawn = omega arith; time = record { greatest = omega arith; clock = omega arith; end = omega arith } }

pub opening_has : (ps : List PlaceSaid) → AllHave (1024 * 1000000) (nodes_at ps)
opening_has [] = tt
opening_has (p ∷ ps) = (zeros_have p.name p.blocks, opening_has ps)

-- Their world.

counts_at : (ps : List PlaceSaid) → no_counts (nodes_at ps) ≡ place_counts ps
counts_at [] = refl
counts_at (p ∷ ps) = ap (λ (ds : List DiskCounts). (let d : DiskCounts = record { faults = 0; stops = 0 } in d) ∷ ds) (counts_at ps)

pub opening_is : (ps : List PlaceSaid) (ns : List Node) (s : Shared) → ns ≡ nodes_at ps → s ≡ nothing_shared → moved ns s ≡ opening ps
opening_is ps ns s nodes shared = (λ i. moved (nodes i) (shared i)) ∙ ap (λ ds. opened (nodes_at ps) ds) (counts_at ps)

pub opening_fit : NodesAreKept → (ps : List PlaceSaid) (ns : List Node) (s : Shared) → ns ≡ nodes_at ps → s ≡ nothing_shared → IsFit (1024 * 1000000) (moved ns s)
opening_fit kept ps ns s nodes shared = fit_moved (1024 * 1000000) ns s
    (subst (λ ks. AllKept s ks) (sym nodes) (subst (λ t. AllKept t (nodes_at ps)) (sym shared) (opening_kept kept ps)))
    (subst (AllHave (1024 * 1000000)) (sym nodes) (opening_has ps))
