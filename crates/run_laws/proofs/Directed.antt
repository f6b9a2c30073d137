-- A change without a label that was done is committed.
use Rattle.std.proofs.Common.{◌≡◌, ℕ, zero, suc, ◌-◌, ◌<◌, ◌≤◌, ◌||◌, List, [], ◌∷◌, ◌++◌, length, map, drop, Bool, true, false, not, Option, Some, None, if◌then◌else◌, refl, sym, ◌∙◌, ap, subst, inl, inr, arith}
use Rattle.std.specs.Prelude.{nat_lt}
use Rattle.std.proofs.lemmas.Bool.{ltb-false, or_parts}
use Rattle.vms_model.specs.Ids.{Id}
use Rattle.vms_model.specs.Keys.{Key}
use Rattle.run_said.specs.transcript_model.Lines as line
use Rattle.run_said.specs.transcript_model.Lines.{Line, Cause}
use Rattle.run_said.specs.script_model.Statements.{At, Direct, Operation, Put, Update, Delete, Truncate, Get, Next}
use Rattle.unit_laws.specs.records_model.Records.{Change}
use Rattle.commit_protocol.specs.World.{In}
use Rattle.run_said.specs.run_model.World.{World, Node, File, Directs, acted, find_file, find_node, next_id, next_moment}
use Rattle.run_said.specs.run_model.Operations.{changes_of, count_of, data_refused, first_of, in_order, is_change, refused_if, removed}
use Rattle.run_said.specs.run_model.Answers.{Serves, changes_at, commit_settlement, direct_refused, directed, found_refused, of_file, refused_before_reading, service, there_is_file}
use Rattle.run_said.specs.run_model.Steps.{TaskEffect, lines_of_rows, node_after_rows, ready_node, succeeded, task_effect}
use Rattle.run_said.specs.run_model.Statements.{Step, put_into, refused_at_once, stops_at, RoseAt}
use Rattle.run_said.specs.run_model.StepLaws.{is_refusal}
use Rattle.run_said.proofs.run_model.NodeLists.{clash, found_name, put_node}
use Rattle.run_said.proofs.run_model.CauseLemmas.{refuses_first, refuses_then}
use Rattle.run_said.proofs.run_model.TaskLemmas.{Outcome, First, Late, Success, Lacking, Failing, acted_name, outcome}
use Rattle.run_said.proofs.run_model.PartLemmas.{turn}
use Rattle.run_said.proofs.run_model.PartTasks.{task_there}
use Rattle.run_said.proofs.run_model.Failing.{once_refuses}
use Rattle.run_said.proofs.run_model.Refusing.{not_ready, refusals, same_last}
use Rattle.run_laws.specs.Promises.{IsDoneAnswer, commitment, settlements_of}
use Rattle.run_laws.proofs.Staying.{found_settled}

-- What does not refuse.

pub neither : (a b : Option Line) → first_of a b ≡ None → (a ≡ None) × (b ≡ None)
neither (Some refusal) b e = let no : ⊥ = cc in absurd no
neither None b e = (refl, e)

pub not_refused : (b : Bool) (refusal : Line) → refused_if b refusal ≡ None → b ≡ false
not_refused true refusal e = let no : ⊥ = cc in absurd no
not_refused false refusal e = refl

pub there_is : (n : Node) (file : List ℕ) → there_is_file n file ≡ None → (f : File) × (find_file file n.durable.directory ≡ Some f)
there_is n file e = go (find_file file n.durable.directory) refl e
  where
    go : (o : Option File) → find_file file n.durable.directory ≡ o → ◌≡◌ {A = Option Line} (elim o [ Some f ↦ None | None ↦ Some line.FileNotFound ]) None → (f : File) × (find_file file n.durable.directory ≡ Some f)
    go (Some f) found k = (f, found)
    go None found k = let no : ⊥ = cc in absurd no

pub file_says : (n : Node) (file : List ℕ) (f : File) (says : File → Option Line) → find_file file n.durable.directory ≡ Some f → of_file n file says ≡ None → says f ≡ None
file_says n file f says found e = sym (ap (λ (o : Option File). elim o [ Some g ↦ says g | None ↦ None ]) found) ∙ e

-- What is changed by an operation that the records allow: something.

dropped_some : (k : ℕ) (es : List (Key × List ℕ)) → k < length es → (e : Key × List ℕ) × (rest : List (Key × List ℕ)) × (drop k es ≡ e ∷ rest)
dropped_some zero [] h = absurd (omega (arith, h))
dropped_some (suc k) [] h = absurd (omega (arith, h))
dropped_some zero (e ∷ es) h = (e, es, refl)
dropped_some (suc k) (e ∷ es) h = dropped_some k es (omega (arith, h))

pub some_changed : (f : File) (op : Operation) → is_change op ≡ true → data_refused f op ≡ None → (c : Change) × (cs : List Change) × (changes_of f op ≡ c ∷ cs)
some_changed f (Put number bytes) is passes = (_, [], refl)
some_changed f (Update key bytes) is passes = (_, [], refl)
some_changed f (Delete key) is passes = (_, [], refl)
some_changed f (Truncate number) is passes =
    let tests = or_parts (nat_lt number 1) (nat_lt (count_of f) number) (not_refused (nat_lt number 1 || nat_lt (count_of f) number) line.RecordNotFound passes) in
    let least : 1 ≤ number = ltb-false number 1 tests.0 in
    let most : number ≤ count_of f = ltb-false (count_of f) number tests.1 in
    let d = dropped_some (number - 1) (in_order f) (omega (arith, least, most)) in
    (removed d.0, map removed d.1, ap (map removed) d.2)
some_changed f (Get key) is passes = let none : ⊥ = cc in absurd none
some_changed f (Next after) is passes = let none : ⊥ = cc in absurd none

-- What its success shows and does.

-- it shows that a transaction of its own is committed, and nothing besides
pub record IsDone (node : List ℕ) (events : List Line) (v : World) : Type 0 where
  pub tid : Id
  pub moment : ℕ
  pub at : tid.node ≡ node
  pub shows : events ≡ line.Committed tid tid moment ∷ []
  pub settled : In (commitment tid tid moment) (settlements_of node v)

direct_done : (w v : World) (node file : List ℕ) (op : Operation) (n : Node) (events : List Line) (e : TaskEffect) → is_change op ≡ true → find_node node w.nodes ≡ Some n → refused_before_reading w.shared n (service (Direct file op)) ≡ None → direct_refused n file op ≡ None →
    e ≡ succeeded w.shared n (service (Direct file op)) → events ≡ e.lines → v ≡ record (put_into w node e).world { disks = v.disks } → IsDone node events v
direct_done w v node file op n events e is found first late done shows goes =
    let at = there_is n file (neither (there_is_file n file) _ (neither (refused_if (not (n.up || false)) line.NodeDown) _ first).1).0 in
    let passed = (neither (data_refused at.0 op) _ (file_says n file at.0 (found_refused n None file op) at.1 (neither _ _ late).0)).0 in
    let change = some_changed at.0 op is passed in
    let changes : changes_at n file op ≡ change.0 ∷ change.1 = ap (λ (o : Option File). elim o [ Some f ↦ changes_of f op | None ↦ [] ]) at.1 ∙ change.2 in
    let act = Directs file (change.0 ∷ change.1) (commit_settlement n (next_id n) (next_id n)) in
    let lines : events ≡ line.Committed (next_id n) (next_id n) (next_moment n) ∷ [] = shows ∙ ap (λ (x : TaskEffect). x.lines) done ∙ ap (λ cs. lines_of_rows (directed n file cs) ++ []) changes in
    let now : e.node ≡ acted act n = ap (λ (x : TaskEffect). x.node) done ∙ ap (λ cs. node_after_rows (directed n file cs) n) changes in
    let name : e.node.name ≡ n.name = ap (λ (x : Node). x.name) now ∙ acted_name act n in
    let there : find_node node v.nodes ≡ Some e.node = ap (λ (x : World). find_node node x.nodes) goes ∙ put_node node n e.node w.nodes name found in
    let settled : settlements_of node v ≡ commitment (next_id n) (next_id n) (next_moment n) ∷ n.settled = found_settled node v e.node there ∙ ap (λ (x : Node). x.settled) now in
    record { tid = next_id n; moment = next_moment n; at = found_name node w.nodes n found; shows = lines; settled = subst (In (commitment (next_id n) (next_id n) (next_moment n))) (sym settled) (inl refl) }

-- an answer that it is done is no other
pub answer_fine : (answer : Line) → IsDoneAnswer answer → is_refusal answer ≡ false
answer_fine answer (inl normal) = ap is_refusal normal
answer_fine answer (inr position) = ap is_refusal position.1

pub not_ended : (answer : Line) (cause : Cause) (goes_on : Bool) → IsDoneAnswer answer → answer ≡ (if goes_on then line.Normal else line.Broken cause) → ⊥
not_ended answer cause true (inl normal) e = let same : line.RecordNormal ≡ line.Normal = sym normal ∙ e in cc
not_ended answer cause true (inr position) e = let same : line.RecordPosition position.0 ≡ line.Normal = sym position.1 ∙ e in cc
not_ended answer cause false (inl normal) e = let same : line.RecordNormal ≡ line.Broken cause = sym normal ∙ e in cc
not_ended answer cause false (inr position) e = let same : line.RecordPosition position.0 ≡ line.Broken cause = sym position.1 ∙ e in cc

outcome_done : (w v : World) (node file : List ℕ) (op : Operation) (n : Node) (events : List Line) (answer : Line) (rises : Cause → Type 0) (e : TaskEffect) → is_change op ≡ true → IsDoneAnswer answer → find_node node w.nodes ≡ Some n →
    events ≡ e.lines → answer ≡ e.answer → v ≡ record (put_into w node e).world { disks = v.disks } → Outcome w.shared (stops_at node w) n (Serves (Direct file op)) rises e → IsDone node events v
outcome_done w v node file op n events answer rises e is fine found shows answers goes (First refusal first f) =
    absurd (clash _ (ap is_refusal (answers ∙ ap (λ (x : TaskEffect). x.answer) f) ∙ (refuses_first w.shared n (Serves (Direct file op))).says refusal first) (answer_fine answer fine))
outcome_done w v node file op n events answer rises e is fine found shows answers goes (Late outturn refusal may first late f) =
    absurd (clash _ (ap is_refusal (answers ∙ ap (λ (x : TaskEffect). x.answer) f) ∙ (refuses_then w.shared (ready_node outturn (stops_at node w) (service (Direct file op)) n) (Serves (Direct file op))).says refusal late) (answer_fine answer fine))
outcome_done w v node file op n events answer rises e is fine found shows answers goes (Success outturn may first late f) =
    let ready = not_ready outturn (stops_at node w) (service (Direct file op)) n refl in
    direct_done w v node file op n events e is found first (subst (λ m. direct_refused m file op ≡ None) ready late) (f ∙ ap (λ m. succeeded w.shared m (service (Direct file op))) ready) shows goes
outcome_done w v node file op n events answer rises e is fine found shows answers goes (Lacking first takes f) =
    absurd (clash _ (ap is_refusal (answers ∙ ap (λ (x : TaskEffect). x.answer) f)) (answer_fine answer fine))
outcome_done w v node file op n events answer rises e is fine found shows answers goes (Failing cause shown goes_on first rises_so told down failing ends) = absurd (not_ended answer cause goes_on fine (answers ∙ failing))

pub step_done : (w v : World) (node file : List ℕ) (op : Operation) (events : List Line) (answer : Line) → is_change op ≡ true → IsDoneAnswer answer → Step w (At node (Direct file op)) (events ++ answer ∷ []) v → IsDone node events v
step_done w v node file op events answer is fine step = go (refused_at_once w (At node (Direct file op))) refl
  where
    parts : (events ≡ step.events) × (answer ≡ step.answer)
    parts = same_last events step.events answer step.answer step.shows

    go : (o : Option Line) → refused_at_once w (At node (Direct file op)) ≡ o → IsDone node events v
    go (Some refusal) once =
        let alone = refusals.0 w v (At node (Direct file op)) (events ++ answer ∷ []) refusal step once in
        absurd (clash _ (ap is_refusal (same_last events [] answer refusal alone.0).1 ∙ (once_refuses w (At node (Direct file op))).says refusal once) (answer_fine answer fine))
    go None once =
        let there = task_there w (At node (Direct file op)) (record { node = node; task = Serves (Direct file op) }) refl once in
        let u = turn w v (At node (Direct file op)) node (Serves (Direct file op)) there.0 (events ++ answer ∷ []) (record { begins = once; task = refl; found = there.1 }) step in
        let rises = λ (cause : Cause). RoseAt w node cause v.disks in
        outcome_done w v node file op there.0 events answer rises (task_effect w.shared (stops_at node w) there.0 (Serves (Direct file op)) u.choice) is fine there.1 (parts.0 ∙ u.shows) (parts.1 ∙ u.answers) u.goes
        (outcome w.shared (stops_at node w) there.0 (Serves (Direct file op)) rises u.choice u.allowed)
