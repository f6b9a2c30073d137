-- One node after another in a phase of a settling.
use Rattle.std.specs.Prelude.{slice_get}
use Rattle.std.proofs.Common.{◌≡◌, ℕ, zero, suc, ◌≤◌, List, [], ◌∷◌, ◌++◌, length, take, drop, Bool, true, false, Some, if◌then◌else◌, refl, sym, ◌∙◌, ap, subst, append_assoc, append-nil, arith}
use Rattle.world_laws.specs.transcript_model.Lines.{Line, Normal}
use Rattle.commit_protocol.specs.Allowed.{is_prepared}
use Rattle.commit_protocol.specs.Table.{Branch}
use Rattle.commit_protocol.specs.World.{arranged}
use Rattle.world_laws.specs.run_model.World.{DiskCounts, Node, Shared, World}
use Rattle.world_laws.specs.run_model.Answers.{Restarts, RunsDown, Task, powers, task_service}
use Rattle.world_laws.specs.run_model.Steps.{NodeStep}
use Rattle.world_laws.specs.run_model.Statements.{Asks, Does, NoneFalls, Part, all_questions, questions_of, restarts_of, run_downs_of}
use Rattle.run_agreement.specs.Laws.{NamesApart}
use Rattle.statement_steps.specs.Doing.{DoesParts, IsPlain, moved}
use Rattle.statement_steps.specs.Settling.{Through, asks, asks_of, each_node, in_doubt_of, restart_of, run_down_of}
use Rattle.statement_steps.proofs.OneParts.{does_task}
use Rattle.statement_steps.proofs.Places.{counts_at, disk_at, drop_put, find_at, put_at}
use Rattle.statement_steps.proofs.Walking.{does_ended, does_more, does_none}

-- The parts of a phase are those of each node.
pub each_restart : (ns : List Node) → restarts_of ns ≡ each_node restart_of ns
each_restart [] = refl
each_restart (n ∷ ns) = go n.up (each_restart ns)
  where
    go : (b : Bool) → restarts_of ns ≡ each_node restart_of ns → ◌≡◌ {A = List Part} (if b then restarts_of ns else Does n.name Restarts ∷ restarts_of ns) ((if b then [] else Does n.name Restarts ∷ []) ++ each_node restart_of ns)
    go true more = more
    go false more = ap (λ ps. Does n.name Restarts ∷ ps) more

pub each_run_down : (ns : List Node) → run_downs_of ns ≡ each_node run_down_of ns
each_run_down [] = refl
each_run_down (n ∷ ns) = ap (λ ps. Does n.name RunsDown ∷ ps) (each_run_down ns)

questions_asked : (node : List ℕ) (bs : List Branch) → questions_of node bs ≡ asks node (in_doubt_of bs)
questions_asked node [] = refl
questions_asked node (b ∷ bs) = go (is_prepared b.state) (questions_asked node bs)
  where
    go : (t : Bool) → questions_of node bs ≡ asks node (in_doubt_of bs) → ◌≡◌ {A = List Part} (if t then Asks node b.key.serial ∷ questions_of node bs else questions_of node bs) (asks node (if t then b.key.serial ∷ in_doubt_of bs else in_doubt_of bs))
    go true more = ap (λ ps. Asks node b.key.serial ∷ ps) more
    go false more = more

pub each_question : (ns : List Node) → all_questions ns ≡ each_node asks_of ns
each_question [] = refl
each_question (n ∷ ns) = λ i. questions_asked n.name (arranged n.volatile.preparation n.volatile.branches) i ++ each_question ns i

-- Lists.

-- what stands at a place stands first behind those in front
get_dropped : {A : Type 0} (xs : List A) (place : ℕ) → slice_get xs place ≡ slice_get (drop place xs) 0
get_dropped xs zero = refl
get_dropped [] (suc place) = refl
get_dropped (x ∷ xs) (suc place) = get_dropped xs place

pub same_there : {A : Type 0} (xs ys : List A) (place : ℕ) → drop place xs ≡ drop place ys → slice_get xs place ≡ slice_get ys place
same_there xs ys place e = get_dropped xs place ∙ ap (λ zs. slice_get zs 0) e ∙ sym (get_dropped ys place)

taken_more : {A : Type 0} (xs : List A) (place : ℕ) (x : A) → slice_get xs place ≡ Some x → take (suc place) xs ≡ take place xs ++ x ∷ []
taken_more [] place x e = let none : ⊥ = cc in absurd none
taken_more (y ∷ xs) zero x e = let same : y ≡ x = cc in ap (λ z. z ∷ []) same
taken_more (y ∷ xs) (suc place) x e = ap (λ ys. y ∷ ys) (taken_more xs place x e)

dropped_more : {A : Type 0} (xs : List A) (place : ℕ) (x : A) → slice_get xs place ≡ Some x → xs ≡ take place xs ++ x ∷ drop (suc place) xs
dropped_more [] place x e = let none : ⊥ = cc in absurd none
dropped_more (y ∷ xs) zero x e = let same : y ≡ x = cc in ap (λ z. z ∷ xs) same
dropped_more (y ∷ xs) (suc place) x e = ap (λ ys. y ∷ ys) (dropped_more xs place x e)

pub taken_all : {A : Type 0} (xs : List A) (place : ℕ) → length xs ≤ place → take place xs ≡ xs
taken_all [] zero h = refl
taken_all [] (suc place) h = refl
taken_all (x ∷ xs) zero h = absurd (omega arith)
taken_all (x ∷ xs) (suc place) h = ap (λ ys. x ∷ ys) (taken_all xs place (omega arith))

behind_it : {A : Type 0} (xs ys : List A) (place : ℕ) → drop place xs ≡ drop place ys → drop (suc place) xs ≡ drop (suc place) ys
behind_it xs ys place e = one xs place ∙ ap (drop 1) e ∙ sym (one ys place)
  where
    one : {A : Type 0} (zs : List A) (k : ℕ) → drop (suc k) zs ≡ drop 1 (drop k zs)
    one zs zero = refl
    one [] (suc k) = refl
    one (z ∷ zs) (suc k) = one zs k

each_append : (parts : Node → List Part) (ns ms : List Node) → each_node parts (ns ++ ms) ≡ each_node parts ns ++ each_node parts ms
each_append parts [] ms = refl
each_append parts (n ∷ ns) ms = ap (λ ps. parts n ++ ps) (each_append parts ns ms) ∙ sym (append_assoc (parts n) (each_node parts ns) (each_node parts ms))

-- A phase begins;
pub through_none : (begun : List DiskCounts) (parts : Node → List Part) (w : World) → Through begun parts w 0 [] w
through_none begun parts w = record { does = does_none begun w; nodes = refl; disks = refl }

-- the next node is as it was when the phase began;
pub through_here : (begun : List DiskCounts) (parts : Node → List Part) (w : World) (place : ℕ) (lines : List Line) (v : World) → Through begun parts w place lines v → slice_get w.nodes place ≡ slice_get v.nodes place
through_here begun parts w place lines v h = same_there w.nodes v.nodes place (sym h.nodes)

-- it does its parts, and the statement goes on;
pub through_next : (begun : List DiskCounts) (parts : Node → List Part) (w : World) (place : ℕ) (lines : List Line) (v : World) (n : Node) (more : List Line) (u : World) → Through begun parts w place lines v → slice_get v.nodes place ≡ Some n → DoesParts begun (parts n) v false more Normal u →
    drop (suc place) u.nodes ≡ drop (suc place) v.nodes → drop (suc place) u.disks ≡ drop (suc place) v.disks → Through begun parts w (suc place) (lines ++ more) u
through_next begun parts w place lines v n more u h here does nodes disks =
    let there = through_here begun parts w place lines v h ∙ here in
    let list : each_node parts (take place w.nodes) ++ parts n ≡ each_node parts (take (suc place) w.nodes) =
    sym (ap (each_node parts) (taken_more w.nodes place n there) ∙ each_append parts (take place w.nodes) (n ∷ []) ∙ ap (λ ps. each_node parts (take place w.nodes) ++ ps) (append-nil (parts n))) in
    record {
      does = subst (λ ps. DoesParts begun ps w false (lines ++ more) Normal u) list (does_more begun (each_node parts (take place w.nodes)) (parts n) w v lines Normal false more Normal u h.does does);
      nodes = nodes ∙ behind_it v.nodes w.nodes place h.nodes;
      disks = disks ∙ behind_it v.disks w.disks place h.disks;
    }

-- or the statement ends with one of them;
pub through_ended : (begun : List DiskCounts) (parts : Node → List Part) (w : World) (place : ℕ) (lines : List Line) (v : World) (n : Node) (more : List Line) (answer : Line) (u : World) → Through begun parts w place lines v → slice_get v.nodes place ≡ Some n →
    DoesParts begun (parts n) v true more answer u → DoesParts begun (each_node parts w.nodes) w true (lines ++ more) answer u
through_ended begun parts w place lines v n more answer u h here does =
    let there = through_here begun parts w place lines v h ∙ here in
    let front = each_node parts (take place w.nodes) in
    let back = each_node parts (drop (suc place) w.nodes) in
    let list : (front ++ parts n) ++ back ≡ each_node parts w.nodes =
    append_assoc front (parts n) back ∙ sym (ap (each_node parts) (dropped_more w.nodes place n there) ∙ each_append parts (take place w.nodes) (n ∷ drop (suc place) w.nodes)) in
    subst (λ ps. DoesParts begun ps w true (lines ++ more) answer u) list (does_ended begun (front ++ parts n) back w (lines ++ more) answer u (does_more begun front (parts n) w v lines Normal true more answer u h.does does))

-- and behind the last node the phase is over.
pub through_all : (begun : List DiskCounts) (parts : Node → List Part) (w : World) (place : ℕ) (lines : List Line) (v : World) → Through begun parts w place lines v → length w.nodes ≤ place → DoesParts begun (each_node parts w.nodes) w false lines Normal v
through_all begun parts w place lines v h over = subst (λ ns. DoesParts begun (each_node parts ns) w false lines Normal v) (taken_all w.nodes place over) h.does

-- A task of the node at a place, which leaves the nodes behind it and their disks.
pub does_at : (begun : List DiskCounts) (w : World) (place : ℕ) (t : Task) (n m : Node) (mid new : DiskCounts) (lines : List Line) (answer : Line) (ends : Bool) (after : Shared) → NoneFalls begun w.disks → NamesApart w.nodes → IsPlain t →
    slice_get w.nodes place ≡ Some n → slice_get w.disks place ≡ Some mid → (powers (task_service t) ≡ true → slice_get begun place ≡ Some mid) → NodeStep w.shared n mid t lines answer ends m after new → DoesParts begun (Does n.name t ∷ []) w ends lines answer (moved w n.name m new after)
does_at begun w place t n m mid new lines answer ends after falls apart plain here disk fresh step =
    does_task begun w (Does n.name t) n.name t n m mid new lines answer ends after falls refl plain (find_at w.nodes place n apart here) (disk_at w.nodes w.disks place n mid apart here disk) (λ e. disk_at w.nodes begun place n mid apart here (fresh e)) step

pub moved_behind : (w : World) (place : ℕ) (n m : Node) (new : DiskCounts) (after : Shared) → NamesApart w.nodes → slice_get w.nodes place ≡ Some n →
    (drop (suc place) (moved w n.name m new after).nodes ≡ drop (suc place) w.nodes) × (drop (suc place) (moved w n.name m new after).disks ≡ drop (suc place) w.disks)
moved_behind w place n m new after apart here =
    (ap (drop (suc place)) (put_at w.nodes place n m apart here) ∙ drop_put w.nodes place m, ap (drop (suc place)) (counts_at w.nodes w.disks place n new apart here) ∙ drop_put w.disks place new)
