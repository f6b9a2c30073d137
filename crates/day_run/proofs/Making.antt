-- An INIT of a day is answered as a success, or the day ends with it; so something is known of both disks before the first boot.
use Rattle.std.proofs.Common.{◌≡◌, ◌⊎◌, inl, inr, ℕ, ◌≤◌, List, [], ◌∷◌, ◌++◌, Bool, true, false, not, ◌||◌, Option, Some, None, map, if◌then◌else◌, refl, sym, ◌∙◌, ap, subst, arith}
use Rattle.std.specs.List.{last_or}
use Rattle.std.specs.Str.{bytes_eq}
use Rattle.std.proofs.lemmas.Bool.{le-leb}
use Rattle.std.proofs.lemmas.Slice.Eq.{bytes_eq-Decides}
use Rattle.block_disk.specs.Disk.{CallLog}
use Rattle.emitter_model.specs.transcript_model.Lines as line
use Rattle.emitter_model.specs.transcript_model.Lines.{Line}
use Rattle.emitter_model.specs.Tally.{Tally, closing_answer, tallied, tallied_by}
use Rattle.script_lang.specs.script_model.Statements.{At, Init}
use Rattle.run_laws.specs.run_agreement.Seen.{IsKnown}
use Rattle.world_laws.specs.run_model.World.{Node, Shared, World, find_node}
use Rattle.world_laws.specs.run_model.Answers.{Serves, is_volume_form, task_service}
use Rattle.world_laws.specs.run_model.Operations.{first_of, refused_if}
use Rattle.world_laws.specs.run_model.Steps as task
use Rattle.world_laws.specs.run_model.Steps.{Choice, Cut, TaskEffect, Unpowered, Whole, WithoutMemory, ready_node, task_effect}
use Rattle.world_laws.specs.run_model.Statements.{Step, stops_at}
use Rattle.world_laws.proofs.run_model.NodeLists.{some_is}
use Rattle.world_laws.proofs.run_model.PartLemmas.{turn}
use Rattle.run_nodes.proofs.statement_steps.Stepping.{request_there}
use Rattle.world_laws.proofs.Induction.{acts_name}
use Rattle.run_nodes.specs.node_standing.Standing.{NodeState}
use Rattle.run_nodes.specs.Together.{StandAll, disks_of}
use Rattle.day_model.specs.Days.{is_broken}
use Rattle.day_run.specs.Serving.{AreLarge}
use Rattle.day_run.proofs.Known.{KnownAt, found_same}

-- the last of these lines is the one that is kept
pub last_tallied : (events : List Line) (answer : Line) (t : Tally) → (tallied_by (events ++ (answer ∷ [])) t).last ≡ closing_answer answer
last_tallied [] answer t = refl
last_tallied (l ∷ ls) answer t = last_tallied ls answer (tallied l t)

-- An INIT that nothing refuses.

not_refused : (up in_use form : Bool) → in_use ≡ false → form ≡ true → first_of (refused_if (not (up || true)) line.NodeDown) (first_of (refused_if in_use line.VolumeInUse) (refused_if (not form) line.BadParameter)) ≡ None
not_refused true true form e f = let none : ⊥ = cc in absurd none
not_refused false true form e f = let none : ⊥ = cc in absurd none
not_refused true false false e f = let none : ⊥ = cc in absurd none
not_refused false false false e f = let none : ⊥ = cc in absurd none
not_refused true false true e f = refl
not_refused false false true e f = refl

or_false : (b : Bool) → b ≡ false → (b || false) ≡ false
or_false false e = refl
or_false true e = let none : ⊥ = cc in absurd none

-- what it leaves: something is known of the disk, and no volume is in use; and it is answered so
abbrev MadeSo : TaskEffect → Type 0
MadeSo e = IsKnown e.node × (e.shared.in_use ≡ false) × (e.answer ≡ line.Normal)

made_by : (s : Shared) (stops : ℕ) (n : Node) (c : Choice) → s.in_use ≡ false → is_volume_form 128 1024 n ≡ true → is_broken (closing_answer (task_effect s stops n (Serves (Init 128 1024)) c).answer) ≡ false → MadeSo (task_effect s stops n (Serves (Init 128 1024)) c)
made_by s stops n (Whole o) unused form e =
    let service = task_service (Serves (Init 128 1024)) in
    subst (λ (q : Option Line). MadeSo (task.whole s n (ready_node o stops service n) service q)) (sym (not_refused n.up s.in_use (is_volume_form 128 1024 n) unused form)) ((λ unknown. let none : ⊥ = cc in absurd none), or_false s.in_use unused, refl)
made_by s stops n WithoutMemory unused form e = let none : ⊥ = cc in absurd none
made_by s stops n Unpowered unused form e = let none : ⊥ = cc in absurd none
made_by s stops n (Cut o done begun cause) unused form e = let none : ⊥ = cc in absurd none

form_large : (n : Node) → 4096 ≤ n.blocks → is_volume_form 128 1024 n ≡ true
form_large n h = le-leb 1737 n.blocks (omega (arith, h))

pub last_behind : (xs : List Line) (x : Line) → last_or None (xs ++ x ∷ []) ≡ Some x
last_behind [] x = refl
last_behind (y ∷ []) x = refl
last_behind (y ∷ z ∷ xs) x = last_behind (z ∷ xs) x

pub record Made (node : List ℕ) (lines : List Line) (v : World) : Type 0 where
  pub known : KnownAt node v
  pub unused : v.shared.in_use ≡ false
  pub answered : last_or None lines ≡ Some line.Normal

pub made : (w v : World) (node : List ℕ) (n : Node) (lines : List Line) (t : Tally) → Step w (At node (Init 128 1024)) lines v → w.shared.in_use ≡ false → find_node node w.nodes ≡ Some n → 4096 ≤ n.blocks → is_broken (tallied_by lines t).last ≡ false → Made node lines v
made w v node n lines t d unused there large going =
    let u = turn w v (At node (Init 128 1024)) node (Serves (Init 128 1024)) n lines (record { begins = request_there w node (Init 128 1024) refl n there; task = refl; found = there }) d in
    let e = task_effect w.shared (stops_at node w) n (Serves (Init 128 1024)) u.choice in
    let last : (tallied_by lines t).last ≡ closing_answer d.answer = ap (λ (ls : List Line). (tallied_by ls t).last) d.shows ∙ last_tallied d.events d.answer t in
    let m : MadeSo e = made_by w.shared (stops_at node w) n u.choice unused (form_large n large) (ap (λ (a : Line). is_broken (closing_answer a)) (sym u.answers) ∙ ap is_broken (sym last) ∙ going) in
    let found : find_node node v.nodes ≡ Some e.node = ap (λ (x : World). find_node node x.nodes) u.goes ∙ found_same node e.node w.nodes n there (acts_name w.shared (stops_at node w) n (Serves (Init 128 1024)) u.choice) in
    record { known = λ k is. subst IsKnown (some_is e.node k (sym found ∙ is)) m.0; unused = ap (λ (x : World). x.shared.in_use) u.goes ∙ m.1; answered = ap (λ (ls : List Line). last_or None ls) d.shows ∙ last_behind d.events d.answer ∙ ap (λ (a : Line). Some a) (u.answers ∙ m.2) }

-- Where both nodes are known, all are.

abbrev pub IsIn : List ℕ → List (List ℕ) → Type 0
IsIn name [] = ⊥
IsIn name (x ∷ xs) = (name ≡ x) ⊎ IsIn name xs

found_in : (name : List ℕ) (ns : List Node) (k : Node) → find_node name ns ≡ Some k → IsIn name (map (λ (n : Node). n.name) ns)
found_in name [] k e = let none : ⊥ = cc in absurd none
found_in name (n ∷ ns) k e = go (bytes_eq name n.name) refl e (found_in name ns k)
  where
    go : (b : Bool) → bytes_eq name n.name ≡ b → ◌≡◌ {A = Option Node} (if b then Some n else find_node name ns) (Some k) → (find_node name ns ≡ Some k → IsIn name (map (λ (m : Node). m.name) ns)) → IsIn name (map (λ (m : Node). m.name) (n ∷ ns))
    go true is f more = inl ((bytes_eq-Decides name n.name).0 is)
    go false is f more = inr (more f)

pub both_known : (w : World) (a b : List ℕ) → map (λ (n : Node). n.name) w.nodes ≡ a ∷ b ∷ [] → KnownAt a w → KnownAt b w → (name : List ℕ) → KnownAt name w
both_known w a b names ka kb name = λ k found. by (subst (IsIn name) names (found_in name w.nodes k found)) k found
  where
    by : (name ≡ a) ⊎ ((name ≡ b) ⊎ ⊥) → KnownAt name w
    by (inl e) = subst (λ x. KnownAt x w) (sym e) ka
    by (inr (inl e)) = subst (λ x. KnownAt x w) (sym e) kb
    by (inr (inr none)) = absurd none

-- A node that is found has a disk as large as the one at its place.

pub found_large : (logs : List CallLog) (ks : List NodeState) (ns : List Node) → StandAll logs ks ns → AreLarge (disks_of ks) → (name : List ℕ) (k : Node) → find_node name ns ≡ Some k → 4096 ≤ k.blocks
found_large [] [] [] h large name k e = let none : ⊥ = cc in absurd none
found_large [] [] (n ∷ ns) h large name k e = absurd h
found_large [] (x ∷ ks) ns h large name k e = absurd h
found_large (log ∷ logs) [] ns h large name k e = absurd h
found_large (log ∷ logs) (x ∷ ks) [] h large name k e = absurd h
found_large (log ∷ logs) (x ∷ ks) (n ∷ ns) h large name k e = go (bytes_eq name n.name) e (found_large logs ks ns h.1 large.1 name k)
  where
    go : (b : Bool) → ◌≡◌ {A = Option Node} (if b then Some n else find_node name ns) (Some k) → (find_node name ns ≡ Some k → 4096 ≤ k.blocks) → 4096 ≤ k.blocks
    go true f more = subst (λ (m : Node). 4096 ≤ m.blocks) (some_is n k f) (subst (λ (size : ℕ). 4096 ≤ size) (sym h.0.blocks) large.0)
    go false f more = more f

-- a node of a name is there
pub found_of : (name : List ℕ) (ns : List Node) → IsIn name (map (λ (n : Node). n.name) ns) → (k : Node) × (find_node name ns ≡ Some k)
found_of name [] h = absurd h
found_of name (n ∷ ns) h = go (bytes_eq name n.name) refl h (found_of name ns)
  where
    go : (b : Bool) → bytes_eq name n.name ≡ b → (name ≡ n.name) ⊎ IsIn name (map (λ (m : Node). m.name) ns) → (IsIn name (map (λ (m : Node). m.name) ns) → (k : Node) × (find_node name ns ≡ Some k)) → (k : Node) × (◌≡◌ {A = Option Node} (if b then Some n else find_node name ns) (Some k))
    go true is x more = (n, refl)
    go false is (inl e) more = let no : true ≡ false = sym ((bytes_eq-Decides name n.name).1 e) ∙ is in let none : ⊥ = cc in absurd none
    go false is (inr x) more = more x
