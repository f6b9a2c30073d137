-- What the lines of a settling tell while nodes are booted one after another.
use Rattle.std.specs.Prelude.{not, ◌||◌, ◌&&◌, slice_get, slice_set}
use Rattle.std.proofs.Common.{◌≡◌, ℕ, zero, suc, ◌+◌, ◌<◌, ◌≤◌, List, [], ◌∷◌, ◌++◌, map, take, drop, length, Bool, true, false, Option, Some, None, IfSome, if◌then◌else◌, ◌⊎◌, inl, inr, refl, sym, ◌∙◌, ap, subst, add-one, append_assoc, arith}
use Rattle.std.specs.List.{AllByRecursion}
use Rattle.std.specs.Str.{bytes_eq}
use Rattle.std.proofs.lemmas.Bool.{false_from_ne_true}
use Rattle.std.proofs.lemmas.Slice.Eq.{bytes_eq-Decides}
use Rattle.block_disk.specs.Disk.{DiskState, noted}
use Rattle.block_disk.specs.declared.disk.DiskCall.TheVariants as disk_call
use Rattle.emitter_model.specs.commit_protocol.World.{In}
use Rattle.emitter_model.proofs.commit_protocol.Lists.{in_parts}
use Rattle.emitter_model.specs.transcript_model.Lines as line
use Rattle.emitter_model.specs.transcript_model.Lines.{Cause, Line, Normal}
use Rattle.emitter_model.specs.Emitting.{Emits, Shown}
use Rattle.emitter_model.proofs.EmittingLemmas.{emits_nothing, emits_on}
use Rattle.script_lang.specs.script_model.Statements.{Crash, Settle}
use Rattle.said_steps.specs.run_said.Said.{Said, SaidNode, SaidShared, down_said, is_by_lines, line_said, lines_said, node_in, with_use}
use Rattle.said_steps.proofs.run_said.Views.{said_append}
use Rattle.said_steps.specs.run_model.Answers.{Restarts, Serves, Task, task_service}
use Rattle.said_steps.specs.run_model.Operations.{refused_if}
use Rattle.said_steps.specs.run_model.Steps.{count_of}
use Rattle.said_steps.proofs.run_model.NodeLists.{some_is}
use Rattle.dtm_node.specs.run_shared.Sharing.{SharedState}
use Rattle.dtm_node.specs.node_standing.Standing.{NodeState, counts_of, disk_in, is_up}
use Rattle.dtm_node.specs.node_standing.Holding.{HoldsAs}
use Rattle.dtm_node.specs.node_standing.Telling.{RestartTold, TellsTask, calls_after_task, is_unpowered, may_answer_task, refused_task, said_node, said_shared, task_used}
use Rattle.dtm_node.proofs.Held.{holds_is}
use Rattle.said_steps.specs.Answers.{FallsTold, IsSteady, answers_so, ends_at, ends_boot, ends_turns, is_answer, is_broken, is_normal, is_unmade_at, stuck_at}
use Rattle.said_steps.specs.Calls.{CameUp, NamesDiffer, has_used, is_boot_refusal, is_named, is_tried, restarted, shows_boot, spoken_to}
use Rattle.said_steps.specs.Own.{IsOwn}
use Rattle.said_steps.proofs.Calling.{restarted_all, restarted_before, restarted_behind, restarted_last, settling_calls, settling_said, used_came, used_stuck}
use Rattle.said_steps.proofs.Falls.{falls_among, falls_behind, falls_none, steady_none, steady_on}
use Rattle.said_steps.proofs.Refusals.{refusal_down}
use Rattle.said_steps.proofs.OwnLines.{last_is, own_down, own_lines_say}
use Rattle.said_steps.proofs.Restarted.{came_in, came_more, came_next, stuck_here, stuck_none, shows_append, shows_other}
use Rattle.statement_steps.proofs.Counting.{rose_over}
use Rattle.run_nodes.specs.Names.{AreApart, is_among}
use Rattle.run_nodes.specs.Tasks.{DoesTask}
use Rattle.run_nodes.specs.Together.{AnswersTogether, said_together}
use Rattle.run_nodes.specs.Told.{AreAllUp, DiskFollowsShown, DiskPowered, DisksFollowShown, IsUnmentioned, Restarted, TurnOver, TurnTold, kept_names}
use Rattle.run_nodes.proofs.Answered.{answered_so, broken_answers, ends_turn, refusal_answers}
use Rattle.run_nodes.proofs.Answers.{IsQuiet, down_is, tells_all}
use Rattle.run_nodes.proofs.Steady.{steady_up, went_steady}
use Rattle.run_nodes.proofs.Places.{either_false, get_map, get_set, names_set, said_found, said_missing, said_put, turned}
use Rattle.run_nodes.proofs.Telling.{Here, There, among_there, count_passes, name_there, not_last, passes_on, passes_same, quiet_rise, task_told, told_none, told_on, was_put}

-- A disk, and more lines.

powered_more : (name : List ℕ) (powered : Bool) (front rest : List Line) (old new : DiskState) → DiskPowered name powered front old new → ((cause : Cause) → In (line.Down name cause) rest → ⊥) → DiskPowered name powered (front ++ rest) old new
powered_more name powered front rest old new h none = record {
  calls = h.calls;
  failures = λ cause i c. elim (in_parts (line.Down name cause) front rest i) [ inl j ↦ h.failures cause j c | inr j ↦ absurd (none cause j) ];
  passes = h.passes;
}

pub powered_on : (name : List ℕ) (powered : Bool) (touched : List (List ℕ)) (front rest : List Line) (x y z : DiskState) → DiskPowered name powered front x y → DiskFollowsShown name touched rest y z → DiskPowered name powered (front ++ rest) x z
powered_on name powered touched front rest x y z h k = record {
  calls = k.calls ∙ h.calls;
  failures = λ cause i c. elim (in_parts (line.Down name cause) front rest i) [
    | inl j ↦ rose_over (count_of cause (counts_of x)) (count_of cause (counts_of x)) (count_of cause (counts_of y)) (count_of cause (counts_of z)) (omega arith) (count_passes cause y z k.passes (h.passes.counted c)) (h.failures cause j c)
    | inr j ↦ rose_over (count_of cause (counts_of x)) (count_of cause (counts_of y)) (count_of cause (counts_of z)) (count_of cause (counts_of z)) (count_passes cause x y h.passes c) (omega arith) (k.failures cause j (h.passes.counted c))
  ];
  passes = passes_on x y z h.passes k.passes;
}

-- Lines that mention a node no more.
unmentioned_more : (name : List ℕ) (front rest : List Line) → IsUnmentioned name front → IsUnmentioned name rest → IsUnmentioned name (front ++ rest)
unmentioned_more name front rest h k = record {
  down = λ cause i. elim (in_parts (line.Down name cause) front rest i) [ inl j ↦ h.down cause j | inr j ↦ k.down cause j ];
  boot = shows_append name front rest ∙ (λ i. h.boot i || k.boot i);
}

own_unmentioned : (name other : List ℕ) (lines : List Line) → (name ≡ other → ⊥) → AllByRecursion (IsOwn other) lines → IsUnmentioned name lines
own_unmentioned name other lines ne own = record { down = λ cause i. ne (own_down name other cause lines own i); boot = shows_other name other lines ne own }

-- Places.

get_other : {A : Type 0} (xs : List A) (place j : ℕ) (y : A) → (j ≡ place → ⊥) → slice_get (slice_set xs place y) j ≡ slice_get xs j
get_other [] place j y ne = refl
get_other (x ∷ xs) zero zero y ne = absurd (ne refl)
get_other (x ∷ xs) zero (suc j) y ne = refl
get_other (x ∷ xs) (suc place) zero y ne = refl
get_other (x ∷ xs) (suc place) (suc j) y ne = get_other xs place j y (λ e. ne (ap suc e))

-- two places have two names
apart_places : (ks : List NodeState) → AreApart (kept_names ks) → (i j : ℕ) (x y : NodeState) → slice_get ks i ≡ Some x → slice_get ks j ≡ Some y → (i ≡ j → ⊥) → x.name ≡ y.name → ⊥
apart_places [] apart i j x y e f ne same = let none : ⊥ = cc in none
apart_places (z ∷ ks) apart zero zero x y e f ne same = ne refl
apart_places (z ∷ ks) apart zero (suc j) x y e f ne same = let no : true ≡ false = sym (among_there z.name ks j y f (sym same ∙ ap (λ (v : NodeState). v.name) (sym (some_is z x e)))) ∙ apart.0 in let none : ⊥ = cc in none
apart_places (z ∷ ks) apart (suc i) zero x y e f ne same = let no : true ≡ false = sym (among_there z.name ks i x e (same ∙ ap (λ (v : NodeState). v.name) (sym (some_is z y f)))) ∙ apart.0 in let none : ⊥ = cc in none
apart_places (z ∷ ks) apart (suc i) (suc j) x y e f ne same = apart_places ks apart.1 i j x y e f (λ q. ne (ap suc q)) same

take_next : {A : Type 0} (xs : List A) (place : ℕ) (x : A) → slice_get xs place ≡ Some x → take (place + 1) xs ≡ take place xs ++ x ∷ []
take_next xs place x e = rw add-one (go xs place e)
  where
    go : {A : Type 0} (ys : List A) (i : ℕ) {y : A} → slice_get ys i ≡ Some y → take (suc i) ys ≡ take i ys ++ y ∷ []
    go [] i f = let none : ⊥ = cc in absurd none
    go (z ∷ ys) zero {y} f = ap (λ v. v ∷ []) (some_is z y f)
    go (z ∷ ys) (suc i) f = ap (λ vs. z ∷ vs) (go ys i f)

-- No node yet.
pub restarted_none : (ks : List NodeState) (s : SharedState) → Restarted 0 [] ks s ks s
restarted_none ks s = record {
  says = refl;
  names = refl;
  front = λ j k l h e f. absurd (omega arith);
  came = tt;
  up = λ j l h e. absurd (omega arith);
  steady = steady_none;
  behind = λ j k h e. (e, record { down = λ cause i. i; boot = refl });
}

-- the next place or one before it
earlier : (j place : ℕ) → j < place + 1 → (j < place) ⊎ (j ≡ place)
earlier j place h = grind arith

-- One is up.
pub restarted_up : (place : ℕ) (lines : List Line) (ks : List NodeState) (s : SharedState) (ls : List NodeState) (t : SharedState) (k : NodeState) → Restarted place lines ks s ls t → slice_get ks place ≡ Some k → is_up k.place ≡ true → Restarted (place + 1) lines ks s ls t
restarted_up place lines ks s ls t k h e up = record {
  says = h.says;
  names = h.names;
  front = λ j x y below f g. elim (earlier j place below) [
    | inl less ↦ h.front j x y less f g
    | inr same ↦
        let here : x ≡ k = some_is x k (sym f ∙ ap (slice_get ks) same ∙ e) in
        let b = h.behind place k (omega arith) e in
        let there : y ≡ k = some_is y k (sym g ∙ ap (slice_get ls) same ∙ b.0) in
        subst (λ (v : NodeState). DiskPowered x.name (not (is_up x.place)) lines (disk_in x.place) (disk_in v.place)) (sym there)
        (subst (λ (v : NodeState). DiskPowered v.name (not (is_up v.place)) lines (disk_in v.place) (disk_in k.place)) (sym here)
        (subst (λ (u : Bool). DiskPowered k.name (not u) lines (disk_in k.place) (disk_in k.place)) (sym up)
        (record { calls = refl; failures = λ cause i c. absurd (b.1.down cause i); passes = passes_same (disk_in k.place) })))
  ];
  came = subst (λ ns. CameUp ns lines) (sym (take_next (map said_node ks) place (said_node k) (get_map said_node ks place k e)))
      (came_next (take place (map said_node ks)) (said_node k) lines h.came (λ down. let no : true ≡ false = sym up ∙ down in let none : ⊥ = cc in absurd none));
  up = λ j y below g. elim (earlier j place below) [
    | inl less ↦ h.up j y less g
    | inr same ↦ ap (λ (v : NodeState). is_up v.place) (some_is y k (sym g ∙ ap (slice_get ls) same ∙ (h.behind place k (omega arith) e).0)) ∙ up
  ];
  steady = h.steady;
  behind = λ j x above f. h.behind j x (omega arith) f;
}

or_true : (b : Bool) → b || true ≡ true
or_true true = refl
or_true false = refl

unmade_not : (b : Bool) → (b ≡ true → false ≡ true) → b ≡ false
unmade_not true f = let no : false ≡ true = f refl in let none : ⊥ = cc in absurd none
unmade_not false f = refl

-- One came up.
module _ (place : ℕ) (lines : List Line) (ks : List NodeState) (s : SharedState) (ls : List NodeState) (t : SharedState) (apart : AreApart (kept_names ks)) (h : Restarted place lines ks s ls t) (k : NodeState) (e : slice_get ks place ≡ Some k) where
  there : slice_get ls place ≡ Some k
  there = (h.behind place k (omega arith) e).0

  apart_now : AreApart (kept_names ls)
  apart_now = subst AreApart (sym h.names) apart

  module _ (answers ends : Bool) (a b : Shown) (l : NodeState) (u : SharedState) (same : l.name ≡ k.name) (d : TellsTask Restarts answers ends k t a b l u) where
    says_more : lines_said (lines ++ d.lines) (said_together ks s) ≡ said_together (slice_set ls place l) u
    says_more = said_append lines d.lines (said_together ks s) ∙ ap (lines_said d.lines) h.says
        ∙ own_lines_say k.name (map said_node ls) d.lines (said_node k) (said_node l) (said_shared t) (said_shared u) d.own (said_found ls place k apart_now there) d.says
        ∙ ap (λ ns. record { nodes = ns; shared = said_shared u }) (said_put ls place k l apart_now there)

    names_more : kept_names (slice_set ls place l) ≡ kept_names ks
    names_more = names_set ls place k l there same ∙ h.names

    other_front : (j : ℕ) (x y : NodeState) → j < place → slice_get ks j ≡ Some x → slice_get (slice_set ls place l) j ≡ Some y → DiskPowered x.name (not (is_up x.place)) (lines ++ d.lines) (disk_in x.place) (disk_in y.place)
    other_front j x y less f g =
        powered_more x.name (not (is_up x.place)) lines d.lines (disk_in x.place) (disk_in y.place) (h.front j x y less f (sym (get_other ls place j l (λ q. omega arith)) ∙ g))
        (λ cause i. apart_places ks apart j place x k f e (λ q. omega arith) (own_down x.name k.name cause d.lines d.own i))

    other_behind : (j : ℕ) (x : NodeState) → place + 1 ≤ j → slice_get ks j ≡ Some x → (slice_get (slice_set ls place l) j ≡ Some x) × IsUnmentioned x.name (lines ++ d.lines)
    other_behind j x above f =
        let b = h.behind j x (omega arith) f in
        (get_other ls place j l (λ q. omega arith) ∙ b.0, unmentioned_more x.name lines d.lines b.1 (own_unmentioned x.name k.name d.lines (apart_places ks apart j place x k f e (λ q. omega arith)) d.own))

    here_powered : (powered : Bool) → calls_after_task Restarts ends d.answer (disk_in k.place).stops (disk_in k.place).calls ≡ (if powered then noted (disk_call.Power (disk_in k.place).stops) (disk_in k.place).calls else (disk_in k.place).calls) → DiskPowered k.name powered (lines ++ d.lines) (disk_in k.place) (disk_in l.place)
    here_powered powered calls = record {
      calls = d.calls ∙ calls;
      failures = λ cause i c. elim (in_parts (line.Down k.name cause) lines d.lines i) [ inl j ↦ absurd ((h.behind place k (omega arith) e).1.down cause j) | inr j ↦ d.failures cause j c ];
      passes = d.passes;
    }

  -- and the settling goes on.
  pub restarted_on : (a b : Shown) (l : NodeState) (u : SharedState) → l.name ≡ k.name → is_up k.place ≡ false → (d : TellsTask Restarts false false k t a b l u) → Restarted (place + 1) (lines ++ d.lines) ks s (slice_set ls place l) u
  restarted_on a b l u same down d = record {
    says = says_more false false a b l u same d;
    names = names_more false false a b l u same d;
    front = λ j x y below f g. elim (earlier j place below) [
      | inl less ↦ other_front false false a b l u same d j x y less f g
      | inr q ↦
          let here : x ≡ k = some_is x k (sym f ∙ ap (slice_get ks) q ∙ e) in
          let put : y ≡ l = some_is y l (sym g ∙ ap (slice_get (slice_set ls place l)) q ∙ get_set ls place k l there) in
          subst (λ (v : NodeState). DiskPowered x.name (not (is_up x.place)) (lines ++ d.lines) (disk_in x.place) (disk_in v.place)) (sym put)
          (subst (λ (v : NodeState). DiskPowered v.name (not (is_up v.place)) (lines ++ d.lines) (disk_in v.place) (disk_in l.place)) (sym here)
          (subst (λ (b : Bool). DiskPowered k.name (not b) (lines ++ d.lines) (disk_in k.place) (disk_in l.place)) (sym down) (here_powered false false a b l u same d true refl)))
    ];
    came = subst (λ ns. CameUp ns (lines ++ d.lines)) (sym (take_next (map said_node ks) place (said_node k) (get_map said_node ks place k e)))
        (came_next (take place (map said_node ks)) (said_node k) (lines ++ d.lines) (came_more (take place (map said_node ks)) lines d.lines h.came)
        (λ f. (unmade_not k.unmade (λ g. (r.unmade g).2), shows_append k.name lines d.lines ∙ ap (λ x. shows_boot k.name lines || x) r.shown ∙ or_true (shows_boot k.name lines))));
    up = λ j y below g. elim (earlier j place below) [
      | inl less ↦ h.up j y less (sym (get_other ls place j l (λ q. omega arith)) ∙ g)
      | inr q ↦ ap (λ (v : NodeState). is_up v.place) (some_is y l (sym g ∙ ap (slice_get (slice_set ls place l)) q ∙ get_set ls place k l there)) ∙ r.up refl
    ];
    steady = steady_on lines d.lines h.steady (went_steady Restarts false k t a b l u d refl (λ answer. refl) (λ q. (let f : ⊥ = cc in f)));
    behind = other_behind false false a b l u same d;
  }
    where
      r : RestartTold k l d.lines d.answer false
      r = d.boots refl

-- Nodes in front of a place, it, and those behind.
split_at : {A : Type 0} (xs : List A) (place : ℕ) (x : A) → slice_get xs place ≡ Some x → xs ≡ take place xs ++ x ∷ drop (suc place) xs
split_at [] place x e = let none : ⊥ = cc in absurd none
split_at (y ∷ xs) zero x e = ap (λ z. z ∷ xs) (some_is y x e)
split_at (y ∷ xs) (suc place) x e = ap (λ ys. y ∷ ys) (split_at xs place x e)

node_front : (ks : List NodeState) (place j : ℕ) (k : NodeState) → AreApart (kept_names ks) → slice_get ks j ≡ Some k → j < place → node_in k.name (take place (map said_node ks)) ≡ Some (said_node k)
node_front [] place j k apart e less = let none : ⊥ = cc in absurd none
node_front (x ∷ ks) zero j k apart e less = absurd (omega arith)
node_front (x ∷ ks) (suc place) zero k apart e less = subst (λ (y : NodeState). node_in y.name (said_node x ∷ take place (map said_node ks)) ≡ Some (said_node y)) (some_is x k e) (rw ((bytes_eq-Decides x.name x.name).1 refl) refl)
node_front (x ∷ ks) (suc place) (suc j) k apart e less =
    let other : bytes_eq k.name x.name ≡ false = name_other k.name x.name (λ q. let no : true ≡ false = sym (among_there x.name ks j k e q) ∙ apart.0 in let none : ⊥ = cc in none) in
    rw other (node_front ks place j k apart.1 e (omega arith))
  where
    name_other : (p q : List ℕ) → (p ≡ q → ⊥) → bytes_eq p q ≡ false
    name_other p q ne = false_from_ne_true (bytes_eq p q) (λ f. ne ((bytes_eq-Decides p q).0 f))

-- one that is not in front is not found there
node_not_front : (ks : List NodeState) (place j : ℕ) (k : NodeState) → AreApart (kept_names ks) → slice_get ks j ≡ Some k → place ≤ j → node_in k.name (take place (map said_node ks)) ≡ None
node_not_front [] place j k apart e above = let none : ⊥ = cc in absurd none
node_not_front (x ∷ ks) zero j k apart e above = refl
node_not_front (x ∷ ks) (suc place) zero k apart e above = absurd (omega arith)
node_not_front (x ∷ ks) (suc place) (suc j) k apart e above =
    let other : bytes_eq k.name x.name ≡ false = false_from_ne_true (bytes_eq k.name x.name) (λ f. let no : true ≡ false = sym (among_there x.name ks j k e ((bytes_eq-Decides k.name x.name).0 f)) ∙ apart.0 in let none : ⊥ = cc in none) in
    rw other (node_not_front ks place j k apart.1 e (omega arith))

said_missing_nodes : (name : List ℕ) (ks : List NodeState) → is_among name (kept_names ks) ≡ false → node_in name (map said_node ks) ≡ None
said_missing_nodes name ks h = said_missing name ks h

names_differ : (ks : List NodeState) → AreApart (kept_names ks) → NamesDiffer (map said_node ks)
names_differ [] h = tt
names_differ (k ∷ ks) h = (said_missing k.name ks h.0, names_differ ks h.1)

front_differ : (ks : List NodeState) (place : ℕ) → AreApart (kept_names ks) → NamesDiffer (take place (map said_node ks))
front_differ ks zero h = tt
front_differ [] (suc place) h = tt
front_differ (k ∷ ks) (suc place) h = (missing_front place k.name ks h.0, front_differ ks place h.1)
  where
    missing_front : (place : ℕ) (name : List ℕ) (ms : List NodeState) → is_among name (kept_names ms) ≡ false → node_in name (take place (map said_node ms)) ≡ None
    missing_front zero name ms h = refl
    missing_front (suc place) name [] h = refl
    missing_front (suc place) name (m ∷ ms) h =
        let parts = either_false (bytes_eq m.name name) (is_among name (kept_names ms)) h in
        rw (turned m.name name parts.0) (missing_front place name ms parts.1)

-- each node is spoken to by a settling
spoken_to_all : (ks : List NodeState) (s : SharedState) (j : ℕ) (k : NodeState) → slice_get ks j ≡ Some k → is_named k.name (spoken_to (said_together ks s) Settle) ≡ true
spoken_to_all [] s j k e = let none : ⊥ = cc in absurd none
spoken_to_all (x ∷ ks) s zero k e = subst (λ (y : NodeState). is_named y.name (spoken_to (said_together (x ∷ ks) s) Settle) ≡ true) (some_is x k e) (rw ((bytes_eq-Decides x.name x.name).1 refl) refl)
spoken_to_all (x ∷ ks) s (suc j) k e = ap (λ b. bytes_eq k.name x.name || b) (spoken_to_all ks s j k e) ∙ or_true (bytes_eq k.name x.name)

-- whose names are these
spoken_names : (ks : List NodeState) (s : SharedState) → spoken_to (said_together ks s) Settle ≡ kept_names ks
spoken_names [] s = refl
spoken_names (k ∷ ks) s = ap (λ ns. k.name ∷ ns) (spoken_names ks s)

named_kept : (ks : List NodeState) (j : ℕ) (k : NodeState) → slice_get ks j ≡ Some k → is_named k.name (kept_names ks) ≡ true
named_kept [] j k e = let none : ⊥ = cc in absurd none
named_kept (x ∷ ks) zero k e = subst (λ (y : NodeState). is_named y.name (kept_names (x ∷ ks)) ≡ true) (some_is x k e) (rw ((bytes_eq-Decides x.name x.name).1 refl) refl)
named_kept (x ∷ ks) (suc j) k e = ap (λ b. bytes_eq k.name x.name || b) (named_kept ks j k e) ∙ or_true (bytes_eq k.name x.name)

-- That a settling was asked for may be said first.
use_line : (l : Line) (said : Said) → with_use (line_said l said) ≡ line_said l (with_use said)
use_line (line.Sent number m) said = refl
use_line (line.Down node cause) said = refl
use_line (line.Crashed node) said = refl
use_line (line.Booted node boot) said = refl
use_line _ said = refl

use_lines : (ls : List Line) (said : Said) → with_use (lines_said ls said) ≡ lines_said ls (with_use said)
use_lines [] said = refl
use_lines (l ∷ ls) said = use_lines ls (line_said l said) ∙ ap (lines_said ls) (use_line l said)

-- What is answered to a settling tells of each disk which calls it had, where this is so of it.
pub settling_answers : (ks : List NodeState) (s : SharedState) (lines : List Line) (answer : Line) (ls : List NodeState) (t : SharedState) (a b : Shown) → kept_names ls ≡ kept_names ks → Emits a (lines ++ answer ∷ []) b → ((said : Said) → line_said answer said ≡ said) → lines_said lines (said_together ks (record s { in_use = true })) ≡ said_together ls t →
    ((j : ℕ) (k l : NodeState) → slice_get ks j ≡ Some k → slice_get ls j ≡ Some l → (powered : Bool) × (is_named k.name (restarted (map said_node ks) (lines ++ answer ∷ [])) ≡ powered) × DiskPowered k.name powered lines (disk_in k.place) (disk_in l.place)) →
    ((j : ℕ) (k l : NodeState) → slice_get ks j ≡ Some k → slice_get ls j ≡ Some l → is_up k.place ≡ false → has_used k.name (said_together ks s) Settle (lines ++ answer ∷ []) ≡ false → HoldsAs (disk_in k.place) (disk_in l.place)) →
    AreApart (kept_names ks) → FallsTold (kept_names ks) lines answer → ((node : List ℕ) → In (line.Crashed node) lines → ⊥) → is_answer answer ≡ true → answers_so (said_together ks s) Settle (lines ++ answer ∷ []) answer ≡ true →
    AnswersTogether (kept_names ks) Settle a b ks s ls t
settling_answers ks s lines answer ls t a b names emits quiet says each holds apart falls uncrashed is may = record {
  lines = lines ++ answer ∷ [];
  emits = emits;
  tells = tells_all (said_together ks s) Settle (lines ++ answer ∷ []) ks ls names (λ j k l e f.
      let x = each j k l e f in
      record {
        calls = x.2.calls ∙ sym (settling_calls k.name (said_together ks s) (lines ++ answer ∷ []) (disk_in k.place).stops (disk_in k.place).calls x.0 x.1);
        failures = λ cause i c. x.2.failures cause (not_last k.name cause lines answer quiet i) c;
        passes = x.2.passes;
        elsewhere = λ g. let no : true ≡ false = sym (spoken_to_all ks s j k e) ∙ g in let none : ⊥ = cc in absurd none;
        refused = λ refusal g. let none : ⊥ = cc in absurd none;
        held = λ down unused. holds j k l e f (down_is ks s j k apart e down) unused;
      });
  follows = (
    (λ refusal g. let none : ⊥ = cc in absurd none),
    (λ g. subst (λ (o : Option Line). IfSome o (λ x. is_by_lines Settle x ≡ false)) (sym (last_is None lines answer)) refl),
    answered_so (said_together ks s) Settle lines answer is (λ g. may) (λ on. subst (λ ns. FallsTold ns lines answer) (sym (spoken_names ks s)) falls) uncrashed (λ node q. (let f : ⊥ = cc in f)),
  );
  says = sym (settling_said lines answer (said_together ks s) quiet ∙ use_lines lines (said_together ks s) ∙ says);
}

-- An answer that says nothing shows no boot.
quiet_boot : (name : List ℕ) (answer : Line) → ((said : Said) → line_said answer said ≡ said) → shows_boot name (answer ∷ []) ≡ false
quiet_boot name (line.Booted node boot) quiet = absurd (quiet_rise node boot quiet)
quiet_boot name _ quiet = refl

-- whether the disk of a node that did not come up was made to run again
tried_so : (unmade : Bool) (answer : Line) (name : List ℕ) → (unmade ≡ true → answer ≡ line.NotInitializedAt name) → (unmade ≡ false → (node : List ℕ) → answer ≡ line.NotInitializedAt node → ⊥) → not (is_unpowered true answer) ≡ (if unmade then false else is_tried (Some answer))
tried_so true answer name gone made = rw (gone refl) refl
tried_so false (line.NotInitializedAt node) name gone made = absurd (made refl node refl)
tried_so false line.NoMemory name gone made = refl
tried_so false _ name gone made = refl

restart_answers : (l : Line) → may_answer_task Restarts true l ≡ true → is_answer l ≡ true
restart_answers (line.NotInitializedAt node) e = refl
restart_answers line.NoMemory e = refl
restart_answers (line.NoVolume node condition block) e = refl
restart_answers (line.QuotaExceeded quota limit) e = refl
restart_answers (line.Broken cause) e = refl
restart_answers _ e = let none : ⊥ = cc in absurd none

restart_ends : (l : Line) → may_answer_task Restarts true l ≡ true → ((node : List ℕ) → l ≡ line.NotInitializedAt node → ⊥) → ends_boot l ≡ true
restart_ends (line.NotInitializedAt node) e made = absurd (made node refl)
restart_ends _ e made = e

by_place : (j place : ℕ) → (j < place) ⊎ ((j ≡ place) ⊎ (place + 1 ≤ j))
by_place j place = grind arith

-- A settling ended with the boot of a node.
pub restarted_over : (place : ℕ) (lines : List Line) (ks : List NodeState) (s : SharedState) (ls : List NodeState) (t : SharedState) (a x b : Shown) (k l : NodeState) (u : SharedState) → AreApart (kept_names ks) → Restarted place lines ks (record s { in_use = true }) ls t → Emits a lines x → slice_get ks place ≡ Some k → is_up k.place ≡ false → l.name ≡ k.name →
    TellsTask Restarts true true k t x b l u → AnswersTogether (kept_names ks) Settle a b ks s (slice_set ls place l) u
restarted_over place lines ks s ls t a x b k l u apart h emits e down same d =
    settling_answers ks s (lines ++ d.lines) d.answer (slice_set ls place l) u a b (names_more place lines ks (record s { in_use = true }) ls t apart h k e true true x b l u same d)
    (subst (λ ms. Emits a ms b) (sym (append_assoc lines d.lines (d.answer ∷ []))) (emits_on a x b lines (d.lines ++ d.answer ∷ []) emits d.emits)) d.quiet (says_more place lines ks (record s { in_use = true }) ls t apart h k e true true x b l u same d) each holds apart
    (falls_behind (kept_names ks) lines d.lines d.answer h.steady.down (falls_among k.name (kept_names ks) d.lines d.answer (named_kept ks place k e) (d.answered.falls refl)))
    (λ node i. elim (in_parts (line.Crashed node) lines d.lines i) [ inl j ↦ h.steady.crash node j | inr j ↦ (let f : Restarts ≡ Serves Crash = d.answered.crashes node j in (let g : ⊥ = cc in g)) ])
    (restart_answers d.answer (d.answered.may refl)) may
  where
    all : List Line
    all = (lines ++ d.lines) ++ d.answer ∷ []

    front : List SaidNode
    front = take place (map said_node ks)

    back : List SaidNode
    back = drop (suc place) (map said_node ks)

    split : map said_node ks ≡ front ++ said_node k ∷ back
    split = split_at (map said_node ks) place (said_node k) (get_map said_node ks place k e)

    came : CameUp front all
    came = came_more front (lines ++ d.lines) (d.answer ∷ []) (came_more front lines d.lines h.came)

    r : RestartTold k l d.lines d.answer true
    r = d.boots refl

    none : shows_boot k.name all ≡ false
    none = shows_append k.name (lines ++ d.lines) (d.answer ∷ []) ∙ (λ i. shown i || quiet_boot k.name d.answer d.quiet i)
      where
        shown : shows_boot k.name (lines ++ d.lines) ≡ false
        shown = shows_append k.name lines d.lines ∙ (λ i. (h.behind place k (omega arith) e).1.boot i || r.shown i)

    stuck : stuck_at (map said_node ks) all ≡ Some (said_node k)
    stuck = ap (λ ns. stuck_at ns all) split ∙ stuck_here front (said_node k) back all came down none

    ends : (unmade : Bool) → k.unmade ≡ unmade → ends_at (record { name = k.name; up = false; unmade = unmade }) d.answer ≡ true
    ends true e = ap (is_unmade_at k.name) (r.unmade e).1 ∙ (bytes_eq-Decides k.name k.name).1 refl
    ends false e = restart_ends d.answer (d.answered.may refl) (r.made e)

    may : answers_so (said_together ks s) Settle all d.answer ≡ true
    may = ap (λ (o : Option SaidNode). elim o [ Some n ↦ ends_at n d.answer | None ↦ ends_turns d.answer ]) stuck ∙ ends k.unmade refl

    tried : not (is_unpowered true d.answer) ≡ (if k.unmade then false else is_tried (Some d.answer))
    tried = tried_so k.unmade d.answer k.name (λ m. (r.unmade m).1) r.made

    last_named : is_named k.name (restarted (map said_node ks) all) ≡ (if k.unmade then false else is_tried (Some d.answer))
    last_named = subst (λ ns. is_named k.name (restarted ns all) ≡ (if k.unmade then false else is_tried (Some d.answer))) (sym split)
        (restarted_last front (said_node k) back all came down none (node_not_front ks place place k apart e (omega arith)) ∙ ap (λ o. if k.unmade then false else is_tried o) (last_is None (lines ++ d.lines) d.answer))

    holds : (j : ℕ) (y z : NodeState) → slice_get ks j ≡ Some y → slice_get (slice_set ls place l) j ≡ Some z → is_up y.place ≡ false → has_used y.name (said_together ks s) Settle all ≡ false → HoldsAs (disk_in y.place) (disk_in z.place)
    holds j y z f g low unused = elim (by_place j place) [
      | inl less ↦
          let found = node_front ks place j y apart f less in
          let named = subst (λ ns. is_named y.name (restarted ns all) ≡ not (is_up y.place)) (sym split) (restarted_before front (said_node k) back all came down none y.name (said_node y) (apart_places ks apart j place y k f e (λ q. omega arith)) (front_differ ks place apart) found) ∙ ap not low in
          let used : has_used y.name (said_together ks s) Settle all ≡ true = used_came y.name (said_together ks s) all named (came_in y.name front (said_node y) all came found low) in
          let no : true ≡ false = sym used ∙ unused in let gone : ⊥ = cc in absurd gone
      | inr more ↦ elim more [
        | inl q ↦
            let here : k ≡ y = some_is k y (sym e ∙ sym (ap (slice_get ks) q) ∙ f) in
            let put : l ≡ z = some_is l z (sym (get_set ls place k l (there place lines ks (record s { in_use = true }) ls t apart h k e)) ∙ sym (ap (slice_get (slice_set ls place l)) q) ∙ g) in
            let spared : task_used Restarts true d.answer ≡ false = ap (λ b. b && not (is_boot_refusal d.answer)) tried
            ∙ used_stuck k.name (said_together ks s) (lines ++ d.lines) d.answer (if k.unmade then false else is_tried (Some d.answer)) last_named none (subst (λ (v : NodeState). has_used v.name (said_together ks s) Settle all ≡ false) (sym here) unused) in
            subst (λ (v : NodeState). HoldsAs (disk_in v.place) (disk_in z.place)) here (subst (λ (v : NodeState). HoldsAs (disk_in k.place) (disk_in v.place)) put (d.held down spared).1)
        | inr above ↦
            let o = other_behind place lines ks (record s { in_use = true }) ls t apart h k e true true x b l u same d j y above f in
            holds_is (disk_in y.place) (disk_in z.place) (ap (λ (v : NodeState). disk_in v.place) (some_is z y (sym g ∙ o.0)))
      ]
    ]

    each : (j : ℕ) (y z : NodeState) → slice_get ks j ≡ Some y → slice_get (slice_set ls place l) j ≡ Some z → (powered : Bool) × (is_named y.name (restarted (map said_node ks) all) ≡ powered) × DiskPowered y.name powered (lines ++ d.lines) (disk_in y.place) (disk_in z.place)
    each j y z f g = elim (by_place j place) [
      | inl less ↦ (
        not (is_up y.place),
        subst (λ ns. is_named y.name (restarted ns all) ≡ not (is_up y.place)) (sym split) (restarted_before front (said_node k) back all came down none y.name (said_node y) (apart_places ks apart j place y k f e (λ q. omega arith)) (front_differ ks place apart) (node_front ks place j y apart f less)),
        other_front place lines ks (record s { in_use = true }) ls t apart h k e true true x b l u same d j y z less f g,
      )
      | inr more ↦ elim more [
        | inl q ↦
            let here : k ≡ y = some_is k y (sym e ∙ sym (ap (slice_get ks) q) ∙ f) in
            let put : l ≡ z = some_is l z (sym (get_set ls place k l (there place lines ks (record s { in_use = true }) ls t apart h k e)) ∙ sym (ap (slice_get (slice_set ls place l)) q) ∙ g) in
            subst (λ (v : NodeState). (powered : Bool) × (is_named v.name (restarted (map said_node ks) all) ≡ powered) × DiskPowered v.name powered (lines ++ d.lines) (disk_in v.place) (disk_in z.place)) here
            (subst (λ (v : NodeState). (powered : Bool) × (is_named k.name (restarted (map said_node ks) all) ≡ powered) × DiskPowered k.name powered (lines ++ d.lines) (disk_in k.place) (disk_in v.place)) put (
              (if k.unmade then false else is_tried (Some d.answer)),
              last_named,
              here_powered place lines ks (record s { in_use = true }) ls t apart h k e true true x b l u same d (if k.unmade then false else is_tried (Some d.answer))
                  (ap (λ (p : Bool). if p then noted (disk_call.Power (disk_in k.place).stops) (disk_in k.place).calls else (disk_in k.place).calls) tried),
            ))
        | inr above ↦
            let o = other_behind place lines ks (record s { in_use = true }) ls t apart h k e true true x b l u same d j y above f in
            let still : y ≡ z = some_is y z (sym o.0 ∙ g) in (
              false,
              subst (λ ns. is_named y.name (restarted ns all) ≡ false) (sym split) (restarted_behind front (said_node k) back all came down none y.name (apart_places ks apart j place y k f e (λ q. omega arith)) (node_not_front ks place j y apart f (omega arith))),
              subst (λ (v : NodeState). DiskPowered y.name false (lines ++ d.lines) (disk_in y.place) (disk_in v.place)) still
                  (record { calls = refl; failures = λ cause i c. absurd (o.1.down cause i); passes = passes_same (disk_in y.place) }),
            )
      ]
    ]

take_all : {A : Type 0} (xs : List A) (place : ℕ) → length xs ≤ place → take place xs ≡ xs
take_all [] zero h = refl
take_all [] (suc place) h = refl
take_all (x ∷ xs) zero h = absurd (omega arith)
take_all (x ∷ xs) (suc place) h = ap (λ ys. x ∷ ys) (take_all xs place (omega arith))

place_within : (ks : List NodeState) (j : ℕ) (k : NodeState) → slice_get ks j ≡ Some k → j < length (map said_node ks)
place_within [] j k e = let none : ⊥ = cc in absurd none
place_within (x ∷ ks) zero k e = omega arith
place_within (x ∷ ks) (suc j) k e = let more = place_within ks j k e in omega arith

-- It was answered behind the boots of all nodes.
pub restarted_behind_all : (place : ℕ) (lines rest : List Line) (answer : Line) (ks : List NodeState) (s : SharedState) (ms : List NodeState) (t : SharedState) (touched : List (List ℕ)) (ls : List NodeState) (u : SharedState) (a x b : Shown) → AreApart (kept_names ks) → length (map said_node ks) ≤ place → Restarted place lines ks (record s { in_use = true }) ms t → Emits a lines x → DisksFollowShown touched rest ms t ls u →
    Emits x (rest ++ answer ∷ []) b → ((said : Said) → line_said answer said ≡ said) → FallsTold (kept_names ks) rest answer → ((node : List ℕ) → In (line.Crashed node) rest → ⊥) → is_answer answer ≡ true → (AreAllUp ms → ends_turns answer ≡ true) → AnswersTogether (kept_names ks) Settle a b ks s ls u
restarted_behind_all place lines rest answer ks s ms t touched ls u a x b apart over h emits told more quiet falls uncrashed is may =
    settling_answers ks s (lines ++ rest) answer ls u a b (told.names ∙ h.names) (subst (λ ns. Emits a ns b) (sym (append_assoc lines rest (answer ∷ []))) (emits_on a x b lines (rest ++ answer ∷ []) emits more)) quiet
    (said_append lines rest (said_together ks (record s { in_use = true })) ∙ ap (lines_said rest) h.says ∙ told.says)
    (λ j k l e f.
    let y = name_there ks ms j k h.names e in (
      not (is_up k.place),
      restarted_all k.name (map said_node ks) (said_node k) all came (names_differ ks apart) (said_found ks j k apart e),
      powered_on k.name (not (is_up k.place)) touched lines rest (disk_in k.place) (disk_in y.0.place) (disk_in l.place) (h.front j k y.0 (let w = place_within ks j k e in omega arith) e y.1)
          (subst (λ n. DiskFollowsShown n touched rest (disk_in y.0.place) (disk_in l.place)) y.2 (told.each j y.0 l y.1 f)),
    ))
    (λ j k l e f low unused.
    let found = said_found ks j k apart e in
    let named = restarted_all k.name (map said_node ks) (said_node k) all came (names_differ ks apart) found ∙ ap not low in
    let used : has_used k.name (said_together ks s) Settle all ≡ true = used_came k.name (said_together ks s) all named (came_in k.name (map said_node ks) (said_node k) all came found low) in
    let no : true ≡ false = sym used ∙ unused in let gone : ⊥ = cc in absurd gone)
    apart (falls_behind (kept_names ks) lines rest answer h.steady.down falls)
    (λ node i. elim (in_parts (line.Crashed node) lines rest i) [ inl j ↦ h.steady.crash node j | inr j ↦ uncrashed node j ]) is
    (ap (λ (o : Option SaidNode). elim o [ Some n ↦ ends_at n answer | None ↦ ends_turns answer ]) (stuck_none (map said_node ks) all came) ∙ may all_up)
  where
    all : List Line
    all = (lines ++ rest) ++ answer ∷ []

    came : CameUp (map said_node ks) all
    came = came_more (map said_node ks) (lines ++ rest) (answer ∷ []) (came_more (map said_node ks) lines rest (subst (λ ns. CameUp ns lines) (take_all (map said_node ks) place over) h.came))

    all_up : AreAllUp ms
    all_up j k e =
        let y = name_there ms ks j k (sym h.names) e in
        h.up j k (let w = place_within ks j y.0 y.1 in omega arith) e

-- Turns one after another.
pub turn_none : (touched : List (List ℕ)) (ks : List NodeState) (s : SharedState) (a : Shown) → TurnTold touched ks s a a ks s
turn_none touched ks s a = record { lines = []; emits = emits_nothing a; told = told_none touched ks s; steady = steady_none; up = λ h. h }

pub turn_on : (touched : List (List ℕ)) (ks : List NodeState) (s : SharedState) (a x b : Shown) (ms : List NodeState) (u : SharedState) (ls : List NodeState) (t : SharedState) → TurnTold touched ks s a x ms u → TurnTold touched ms u x b ls t → TurnTold touched ks s a b ls t
turn_on touched ks s a x b ms u ls t h k = record { lines = h.lines ++ k.lines; emits = emits_on a x b h.lines k.lines h.emits k.emits; told = told_on touched h.lines k.lines ks s ms u ls t h.told k.told; steady = steady_on h.lines k.lines h.steady k.steady; up = λ all. k.up (h.up all) }

pub turn_over : (touched : List (List ℕ)) (ks : List NodeState) (s : SharedState) (a x b : Shown) (ms : List NodeState) (u : SharedState) (ls : List NodeState) (t : SharedState) → TurnTold touched ks s a x ms u → TurnOver touched ms u x b ls t → TurnOver touched ks s a b ls t
turn_over touched ks s a x b ms u ls t h k = record {
  lines = h.lines ++ k.lines;
  answer = k.answer;
  emits = subst (λ ns. Emits a ns b) (sym (append_assoc h.lines k.lines (k.answer ∷ []))) (emits_on a x b h.lines (k.lines ++ k.answer ∷ []) h.emits k.emits);
  quiet = k.quiet;
  told = told_on touched h.lines k.lines ks s ms u ls t h.told k.told;
  falls = falls_behind touched h.lines k.lines k.answer h.steady.down k.falls;
  uncrashed = λ node i. elim (in_parts (line.Crashed node) h.lines k.lines i) [ inl j ↦ h.steady.crash node j | inr j ↦ k.uncrashed node j ];
  is = k.is;
  may = λ all. k.may (h.up all);
}

-- A task of a settling's turn, with which its statement ends where the disk goes down.
pub record IsTurn (task : Task) : Type 0 where
  pub quiet : IsQuiet task
  pub on : (task_service task).goes_on ≡ false
  pub goes : (answer : Line) → may_answer_task task false answer ≡ is_normal answer
  pub ends : (answer : Line) → may_answer_task task true answer ≡ is_broken answer
  pub refused : (s : SaidShared) (n : SaidNode) → refused_task s n task ≡ down_said n

-- the task of the node at a place in its turn
pub task_turn : (names : List (List ℕ)) (place : ℕ) (task : Task) (ks : List NodeState) (s : SharedState) (a b : Shown) (ls : List NodeState) (t : SharedState) → names ≡ kept_names ks → AreApart names → IsTurn task → DoesTask place task false false ks s a b ls t → TurnTold names ks s a b ls t
task_turn names place task ks s a b ls t same apart turn d = record {
  lines = d.tells.lines;
  emits = d.tells.emits;
  told = subst (λ ms. DisksFollowShown names d.tells.lines ks s ms t) (sym d.put)
      (task_told names place task false false ks s a b d.old d.new t (subst AreApart same apart) d.here d.named (ap (is_named d.old.name) same ∙ named_kept ks place d.old d.here) d.tells turn.quiet.unpowered turn.quiet.unarmed (sym (turn.quiet.says d.tells.lines d.tells.answer d.old s) ∙ d.tells.says));
  steady = steady;
  up = λ all. subst AreAllUp (sym d.put) (λ other y g.
      let x = name_there (slice_set ks place d.new) ks other y (sym (names_set ks place d.old d.new d.here d.named)) g in
      elim (was_put ks place d.old d.new (subst AreApart same apart) d.here other x.0 y x.1 g) [
        | Here p q ↦ ap (λ (z : NodeState). is_up z.place) q ∙ steady_up d.tells.lines (said_node d.old) (said_node d.new) (said_shared s) (said_shared t) steady (sym (turn.quiet.says d.tells.lines d.tells.answer d.old s) ∙ d.tells.says) (all place d.old d.here)
        | There p q ↦ ap (λ (z : NodeState). is_up z.place) p ∙ all other x.0 x.1
      ]);
}
  where
    steady : IsSteady d.tells.lines
    steady = went_steady task false d.old s a b d.new t d.tells turn.on turn.goes turn.quiet.no_crash

pub task_over : (names : List (List ℕ)) (place : ℕ) (task : Task) (ks : List NodeState) (s : SharedState) (a b : Shown) (ls : List NodeState) (t : SharedState) → names ≡ kept_names ks → AreApart names → IsTurn task → DoesTask place task true true ks s a b ls t → TurnOver names ks s a b ls t
task_over names place task ks s a b ls t same apart turn d = record {
  lines = d.tells.lines;
  answer = d.tells.answer;
  emits = d.tells.emits;
  quiet = d.tells.quiet;
  told = subst (λ ms. DisksFollowShown names d.tells.lines ks s ms t) (sym d.put)
      (task_told names place task true true ks s a b d.old d.new t (subst AreApart same apart) d.here d.named (ap (is_named d.old.name) same ∙ named_kept ks place d.old d.here) d.tells turn.quiet.unpowered turn.quiet.unarmed (sym (turn.quiet.says d.tells.lines d.tells.answer d.old s) ∙ d.tells.says));
  falls = falls_among d.old.name names d.tells.lines d.tells.answer (ap (is_named d.old.name) same ∙ named_kept ks place d.old d.here) (d.tells.answered.falls turn.on);
  uncrashed = λ node i. turn.quiet.no_crash (d.tells.answered.crashes node i);
  is = answer_is (refused_task (said_shared s) (said_node d.old) task) refl;
  may = λ all. ends_turn d.tells.answer (broken (turn.refused (said_shared s) (said_node d.old) ∙ ap (λ u. refused_if (not u) line.NodeDown) (all place d.old d.here)));
}
  where
    broken : refused_task (said_shared s) (said_node d.old) task ≡ None → is_broken d.tells.answer ≡ true
    broken none = sym (turn.ends d.tells.answer) ∙ d.tells.answered.may none

    answer_is : (o : Option Line) → refused_task (said_shared s) (said_node d.old) task ≡ o → is_answer d.tells.answer ≡ true
    answer_is None f = broken_answers d.tells.answer (broken f)
    answer_is (Some refusal) f = ap is_answer (d.tells.refused refusal f).1 ∙ refusal_answers refusal (refusal_down (said_node d.old) refusal (sym (turn.refused (said_shared s) (said_node d.old)) ∙ f))

-- An answer alone.
pub answer_over : (names : List (List ℕ)) (answer : Line) (ks : List NodeState) (s : SharedState) (a b : Shown) → Emits a (answer ∷ []) b → ((said : Said) → line_said answer said ≡ said) → is_broken answer ≡ false → is_answer answer ≡ true → ends_turns answer ≡ true → TurnOver names ks s a b ks s
answer_over names answer ks s a b emits quiet unbroken is may = record { lines = []; answer = answer; emits = emits; quiet = quiet; told = told_none names ks s; falls = falls_none names [] answer (λ node cause i. i) unbroken; uncrashed = λ node i. i; is = is; may = λ all. may }
