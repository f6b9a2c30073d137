-- Counts of disks that do not fall, and what they allow.
use Rattle.std.proofs.Common.{◌≡◌, ℕ, ◌≤◌, List, [], ◌∷◌, Bool, true, false, Option, Some, None, if◌then◌else◌, inl, inr, length, refl, sym, ap, subst, arith}
use Rattle.std.specs.Str.{bytes_eq}
use Rattle.world_laws.specs.transcript_model.Outside.{Rose}
use Rattle.world_laws.specs.transcript_model.Lines.{Cause, Failed, Stopped}
use Rattle.world_laws.specs.run_model.World.{DiskCounts, Node, Outturn, Shared, World, disk_of, find_node, powered}
use Rattle.world_laws.specs.run_model.Answers.{Hears, Service, Task, powers, refused_before_reading, spoils, task_service}
use Rattle.world_laws.specs.run_model.Steps.{Choice, Cut, TaskAllowed, Unpowered, Whole, WithoutMemory, count_of, cut, ready_node, rows_to_cut, task_effect, whole, with_unknown_volume, without_power}
use Rattle.world_laws.specs.run_model.Statements.{Allowed, AllowedAt, AllowedOf, Asks, Does, Doubtful, Heard, NoneFalls, Part, Question, RoseAt, Unanswered, question, stops_at}
use Rattle.world_laws.proofs.run_model.NodeLists.{none_falls_at}
use Rattle.world_laws.proofs.run_model.PartLemmas.{allowed_here, here_allowed}

-- neither count of a disk falls
abbrev pub Grows : DiskCounts → DiskCounts → Type 0
Grows old new = (old.faults ≤ new.faults) × (old.stops ≤ new.stops)

pub count_grows : (old new : DiskCounts) → Grows old new → (cause : Cause) → count_of cause old ≤ count_of cause new
count_grows old new h Failed = h.0
count_grows old new h Stopped = h.1

-- what rose in between rose over all
pub rose_over : (a b c d : ℕ) → a ≤ b → c ≤ d → Rose b c → Rose a d
rose_over a b c d h k (inl r) = inl (omega arith)
rose_over a b c d h k (inr r) = inr (omega (arith, r))

-- a disk that has counts has them later too
pub counts_there : (node : List ℕ) (ns : List Node) (olds news : List DiskCounts) → NoneFalls olds news → (old : DiskCounts) → disk_of node ns olds ≡ Some old → (new : DiskCounts) × (disk_of node ns news ≡ Some new)
counts_there node [] olds news h old e = let none : ⊥ = cc in absurd none
counts_there node (n ∷ ns) [] news h old e = let none : ⊥ = cc in absurd none
counts_there node (n ∷ ns) (d ∷ ds) [] h old e = absurd h
counts_there node (n ∷ ns) (d ∷ ds) (c ∷ cs) h old e = go (bytes_eq node n.name) (λ k. counts_there node ns ds cs h.2 old k) e
  where
    go : (b : Bool) → (disk_of node ns ds ≡ Some old → (new : DiskCounts) × (disk_of node ns cs ≡ Some new)) → ◌≡◌ {A = Option DiskCounts} (if b then Some d else disk_of node ns ds) (Some old) →
        (new : DiskCounts) × (◌≡◌ {A = Option DiskCounts} (if b then Some c else disk_of node ns cs) (Some new))
    go true more k = (c, refl)
    go false more k = more k

-- and it had them earlier
pub counts_before : (node : List ℕ) (ns : List Node) (olds news : List DiskCounts) → NoneFalls olds news → (new : DiskCounts) → disk_of node ns news ≡ Some new → (old : DiskCounts) × (disk_of node ns olds ≡ Some old)
counts_before node [] olds news h new e = let none : ⊥ = cc in absurd none
counts_before node (n ∷ ns) olds [] h new e = let none : ⊥ = cc in absurd none
counts_before node (n ∷ ns) [] (c ∷ cs) h new e = absurd h
counts_before node (n ∷ ns) (d ∷ ds) (c ∷ cs) h new e = go (bytes_eq node n.name) (λ k. counts_before node ns ds cs h.2 new k) e
  where
    go : (b : Bool) → (disk_of node ns cs ≡ Some new → (old : DiskCounts) × (disk_of node ns ds ≡ Some old)) → ◌≡◌ {A = Option DiskCounts} (if b then Some c else disk_of node ns cs) (Some new) →
        (old : DiskCounts) × (◌≡◌ {A = Option DiskCounts} (if b then Some d else disk_of node ns ds) (Some old))
    go true more k = (d, refl)
    go false more k = more k

-- What rose by some counts rose by later ones.
pub rose_later : (w : World) (node : List ℕ) (after later : List DiskCounts) → NoneFalls after later → (cause : Cause) → RoseAt w node cause after → RoseAt w node cause later
rose_later w node after later falls cause h = by (disk_of node w.nodes w.disks) h
  where
    Within : DiskCounts → Option DiskCounts → Type 0
    Within old o = elim o [ Some new ↦ Rose (count_of cause old) (count_of cause new) | None ↦ ⊥ ]

    within : (old : DiskCounts) (o : Option DiskCounts) → disk_of node w.nodes after ≡ o → Within old o → Within old (disk_of node w.nodes later)
    within old (Some new) e r =
        let t = counts_there node w.nodes after later falls new e in
        let g = none_falls_at node new t.0 w.nodes after later falls e t.1 in
        subst (Within old) (sym t.1) (rose_over (count_of cause old) (count_of cause old) (count_of cause new) (count_of cause t.0) (omega arith) (count_grows new t.0 g cause) r)
    within old None e r = absurd r

    by : (o : Option DiskCounts) → elim o as (λ x. Type 0) [ Some old ↦ Within old (disk_of node w.nodes after) | None ↦ ⊥ ] → elim o as (λ x. Type 0) [ Some old ↦ Within old (disk_of node w.nodes later) | None ↦ ⊥ ]
    by (Some old) r = within old (disk_of node w.nodes after) refl r
    by None r = r

-- A task that does not make its disk run again does not read how often that was stopped.
same_ready : (outturn : Outturn) (one other : ℕ) (e : Service) (n : Node) → (powers e ≡ true → one ≡ other) → ready_node outturn one e n ≡ ready_node outturn other e n
same_ready outturn one other e n same = go (powers e) same
  where
    go : (b : Bool) → (b ≡ true → one ≡ other) → ◌≡◌ {A = Node} (if b then with_unknown_volume (spoils e) (powered outturn one n) else n) (if b then with_unknown_volume (spoils e) (powered outturn other n) else n)
    go true f = ap (λ stops. with_unknown_volume (spoils e) (powered outturn stops n)) (f refl)
    go false f = refl

-- What is allowed where these causes rise is allowed where those do that rise with them, and comes to the same.
pub allowed_as : (s : Shared) (one other : ℕ) (n : Node) (t : Task) (P Q : Cause → Type 0) → ((cause : Cause) → P cause → Q cause) → (powers (task_service t) ≡ true → one ≡ other) → (c : Choice) → TaskAllowed s one n t P c → TaskAllowed s other n t Q c
allowed_as s one other n t P Q gives same (Whole outturn) h = h
allowed_as s one other n t P Q gives same WithoutMemory h = h
allowed_as s one other n t P Q gives same Unpowered h = (h.0, h.1, gives Failed h.2)
allowed_as s one other n t P Q gives same (Cut outturn done begun cause) h =
    (h.0, h.1, h.2, subst (λ m. done ≤ length (rows_to_cut s m (task_service t))) (same_ready outturn one other (task_service t) n same) h.3, gives cause h.4)

pub same_effect : (s : Shared) (one other : ℕ) (n : Node) (t : Task) (P : Cause → Type 0) → (powers (task_service t) ≡ true → one ≡ other) → (c : Choice) → TaskAllowed s one n t P c → task_effect s one n t c ≡ task_effect s other n t c
same_effect s one other n t P same (Whole outturn) h = ap (λ m. whole s n m (task_service t) (refused_before_reading s n (task_service t))) (same_ready outturn one other (task_service t) n same)
same_effect s one other n t P same WithoutMemory h = refl
same_effect s one other n t P same Unpowered h = ap (λ stops. without_power s stops n (task_service t)) (same h.1)
same_effect s one other n t P same (Cut outturn done begun cause) h = ap (λ m. cut s m (task_service t) (rows_to_cut s m (task_service t)) done begun cause) (same_ready outturn one other (task_service t) n same)

-- So what they allowed is allowed by later ones.
allowed_at_later : (w : World) (node : List ℕ) (t : Task) (after later : List DiskCounts) → NoneFalls after later → (c : Choice) → AllowedAt w node t after c → AllowedAt w node t later c
allowed_at_later w node t after later falls c h = go (find_node node w.nodes) refl
  where
    go : (o : Option Node) → find_node node w.nodes ≡ o → AllowedAt w node t later c
    go (Some n) found = here_allowed w node t n later c found (allowed_as w.shared (stops_at node w) (stops_at node w) n t (λ cause. RoseAt w node cause after) (λ cause. RoseAt w node cause later) (λ cause r. rose_later w node after later falls cause r) (λ e. refl) c (allowed_here w node t n after c found h))
    go None found = rw (found, AllowedAt) tt

pub allowed_later : (w : World) (p : Part) (after later : List DiskCounts) → NoneFalls after later → (c : Choice) → Allowed w p after c → Allowed w p later c
allowed_later w (Does node t) after later falls c h = allowed_at_later w node t after later falls c h
allowed_later w (Asks node serial) after later falls c h = go (question w node serial) h
  where
    go : (q : Question) → AllowedOf w after c q → AllowedOf w later c q
    go (Heard m) k = allowed_at_later w m.to (Hears m) after later falls c k
    go Unanswered k = k
    go (Doubtful b) k = k
