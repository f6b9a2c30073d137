-- What is shown of each statement tells of each disk, follows what was said, and says what is kept then.
use Rattle.std.specs.Prelude.{◌||◌, not, slice_get, slice_set}
use Rattle.std.proofs.Common.{◌≡◌, inl, inr, ℕ, suc, List, [], ◌∷◌, ◌++◌, map, Bool, true, false, Option, Some, None, IfSome, if◌then◌else◌, refl, sym, ◌∙◌, ap, subst}
use Rattle.std.specs.Str.{bytes_eq}
use Rattle.std.proofs.lemmas.Slice.Eq.{bytes_eq-Decides}
use Rattle.block_disk.specs.Disk.{CallLog, noted}
use Rattle.block_disk.specs.declared.disk.DiskCall.TheVariants as disk_call
use Rattle.emitter_model.specs.commit_protocol.Messages.{Message}
use Rattle.emitter_model.proofs.commit_protocol.Lists.{in_parts}
use Rattle.emitter_model.specs.transcript_model.Lines as line
use Rattle.emitter_model.specs.transcript_model.Lines.{Cause, Line, Normal}
use Rattle.emitter_model.specs.Emitting.{Emits, Shown}
use Rattle.emitter_model.proofs.EmittingLemmas.{emits_nothing, emits_on}
use Rattle.script_lang.specs.script_model.Statements.{AddBranch, At, Boot, Clock, Crash, Deliver, Fuse, Init, LinkDown, Request, Says, StartTrans, Statement}
use Rattle.said_steps.specs.run_said.Said.{Said, SaidNode, answer_said, down_said, is_by_lines, line_said, lines_said, node_in, other_said, refused_by_lines, refused_by_said, request_said, said_here}
use Rattle.said_steps.specs.run_model.Answers.{LosesLink, Serves, Takes, Task, Ticks, service}
use Rattle.said_steps.specs.run_model.Statements.{message_at}
use Rattle.said_steps.proofs.run_model.NodeLists.{some_is}
use Rattle.dtm_node.specs.run_shared.Sharing.{SharedState}
use Rattle.dtm_node.specs.node_standing.Holding.{HoldsAs}
use Rattle.dtm_node.specs.node_standing.Standing.{NodeState, disk_in, is_up}
use Rattle.dtm_node.specs.node_standing.Telling.{TellsTask, armed_task, powered_task, said_node, said_shared, task_said}
use Rattle.dtm_node.proofs.Held.{holds_is}
use Rattle.said_steps.specs.Answers.{IsSteady, is_answer}
use Rattle.said_steps.specs.Calls.{armed_by, calls_after, has_powered, is_named, spoken_to, was_down}
use Rattle.said_steps.specs.Own.{alone}
use Rattle.said_steps.proofs.Calling.{delivery_said, link_said, other_calls, own_calls, used_request}
use Rattle.said_steps.proofs.Falls.{falls_among, falls_none, named_first}
use Rattle.said_steps.proofs.OwnLines.{here_said, last_is, own_crash, own_down, own_requests_say}
use Rattle.said_steps.proofs.Refusals.{delivery_said_at, link_said_at, refusal_of_lines, request_said_at, statement_of_lines}
use Rattle.run_nodes.specs.Calls.{DiskFollowsStatement, DisksFollowLine, IsAnswered, LineFollows}
use Rattle.run_nodes.specs.Names.{AreApart}
use Rattle.run_nodes.specs.Tasks.{DoesIfUp}
use Rattle.run_nodes.specs.Together.{AnswersTogether, disks_of, said_together}
use Rattle.run_nodes.specs.Told.{DiskFollowsShown, DisksFollowShown, TurnShown, kept_names}
use Rattle.run_nodes.proofs.Answered.{answered_refused, answered_so, broken_answers, broken_turn, refusal_answers, request_answers}
use Rattle.run_nodes.proofs.Places.{get_map, kept_at_place, map_set, names_set, said_found, said_put, set_same}
use Rattle.run_nodes.proofs.Serving.{if_up_names}
use Rattle.run_nodes.proofs.Steady.{went_steady, went_unrefused}
use Rattle.run_nodes.proofs.Telling.{disk_same, Here, There, held_same, not_last, passes_same, task_told, told_none, told_on, was_put}

-- All disks, by their places.
pub tells_all : (said : Said) (st : Statement) (lines : List Line) (ks ls : List NodeState) → kept_names ls ≡ kept_names ks → ((place : ℕ) (k l : NodeState) → slice_get ks place ≡ Some k → slice_get ls place ≡ Some l → DiskFollowsStatement k.name said st lines (disk_in k.place) (disk_in l.place)) →
    DisksFollowLine (kept_names ks) said (Says st) lines (disks_of ks) (disks_of ls)
tells_all said st lines [] [] names each = tt
tells_all said st lines [] (l ∷ ls) names each = let none : ⊥ = cc (names) in absurd none
tells_all said st lines (k ∷ ks) [] names each = let none : ⊥ = cc (names) in absurd none
tells_all said st lines (k ∷ ks) (l ∷ ls) names each =
    let more : kept_names ls ≡ kept_names ks = cc (names) in
    (each 0 k l refl refl, tells_all said st lines ks ls more (λ place x y e f. each (suc place) x y e f))

its_name : (name : List ℕ) → bytes_eq name name ≡ true
its_name name = (bytes_eq-Decides name name).1 refl

pub named_second : (one name : List ℕ) → is_named name (one ∷ name ∷ []) ≡ true
named_second one name = ap (λ b. bytes_eq name one || (b || false)) (its_name name) ∙ or_true (bytes_eq name one)
  where
    or_true : (b : Bool) → b || true ≡ true
    or_true true = refl
    or_true false = refl

-- What was down, by what was said.
pub down_is : (ks : List NodeState) (s : SharedState) (place : ℕ) (k : NodeState) → AreApart (kept_names ks) → slice_get ks place ≡ Some k → was_down k.name (said_together ks s) ≡ true → is_up k.place ≡ false
down_is ks s place k apart e down = turned (is_up k.place) (ap (λ (o : Option SaidNode). elim o [ Some n ↦ not n.up | None ↦ false ]) (sym (said_found ks place k apart e)) ∙ down)
  where
    turned : (b : Bool) → not b ≡ true → b ≡ false
    turned true f = let none : ⊥ = cc in absurd none
    turned false f = refl

abbrev HoldDown : Statement → List NodeState → SharedState → List NodeState → Type 0
HoldDown st ks s ls = (place : ℕ) (k l : NodeState) → slice_get ks place ≡ Some k → slice_get ls place ≡ Some l → was_down k.name (said_together ks s) ≡ true → HoldsAs (disk_in k.place) (disk_in l.place)

abbrev LeaveDisks : Statement → List NodeState → SharedState → List NodeState → Type 0
LeaveDisks st ks s ls = (refusal : Line) → refused_by_said (said_together ks s) st ≡ Some refusal → (place : ℕ) (k l : NodeState) → slice_get ks place ≡ Some k → slice_get ls place ≡ Some l → disk_in l.place ≡ disk_in k.place

told_holds : (touched : List (List ℕ)) (lines : List Line) (st : Statement) (ks : List NodeState) (s : SharedState) (ls : List NodeState) (t : SharedState) → AreApart (kept_names ks) → DisksFollowShown touched lines ks s ls t → HoldDown st ks s ls
told_holds touched lines st ks s ls t apart h place k l e f down = (h.held place k l e f (down_is ks s place k apart e down)).1

-- nothing refuses it
none_leaves : (st : Statement) (ks : List NodeState) (s : SharedState) (ls : List NodeState) → refused_by_said (said_together ks s) st ≡ None → LeaveDisks st ks s ls
none_leaves st ks s ls none refusal e place k l f g = absurd (let q : ◌≡◌ {A = Option Line} None (Some refusal) = sym none ∙ e in (let no : ⊥ = cc in no))

-- Tasks were done one after another, which neither arm a disk nor make one run again, and then the statement was answered.
pub answers_told : (st : Statement) (lines : List Line) (answer : Line) (ks : List NodeState) (s : SharedState) (ls : List NodeState) (t : SharedState) (a b : Shown) → DisksFollowShown (spoken_to (said_together ks s) st) lines ks s ls t → Emits a (lines ++ answer ∷ []) b → ((said : Said) → line_said answer said ≡ said) →
    ((name : List ℕ) (stops : ℕ) (calls : CallLog) → calls_after name (said_together ks s) st (lines ++ answer ∷ []) stops calls ≡ calls) → said_here (Says st) (lines ++ answer ∷ []) (said_together ks s) ≡ lines_said lines (said_together ks s) →
    LineFollows (said_together ks s) (Says st) (lines ++ answer ∷ []) → HoldDown st ks s ls → LeaveDisks st ks s ls → AnswersTogether (kept_names ks) st a b ks s ls t
answers_told st lines answer ks s ls t a b h emits quiet calls here follows held leaves = record {
  lines = lines ++ answer ∷ [];
  emits = emits;
  tells = tells_all (said_together ks s) st (lines ++ answer ∷ []) ks ls h.names (λ place k l e f.
      let d = h.each place k l e f in
      record {
        calls = d.calls ∙ sym (calls k.name (disk_in k.place).stops (disk_in k.place).calls);
        failures = λ cause i c. d.failures cause (not_last k.name cause lines answer quiet i) c;
        passes = d.passes;
        elsewhere = d.elsewhere;
        refused = λ refusal g. leaves refusal g place k l e f;
        held = λ down unused. held place k l e f down;
      });
  follows = follows;
  says = sym (here ∙ h.says);
}

-- One that was refused at once.
pub answers_refused : (st : Statement) (refusal : Line) (ks : List NodeState) (s : SharedState) (a b : Shown) → Emits a (refusal ∷ []) b → ((said : Said) → line_said refusal said ≡ said) → ((name : List ℕ) (stops : ℕ) (calls : CallLog) → calls_after name (said_together ks s) st (refusal ∷ []) stops calls ≡ calls) →
    answer_said st refusal (said_together ks s) ≡ said_together ks s → LineFollows (said_together ks s) (Says st) (refusal ∷ []) → AnswersTogether (kept_names ks) st a b ks s ks s
answers_refused st refusal ks s a b emits quiet calls said follows =
    answers_told st [] refusal ks s ks s a b (told_none (spoken_to (said_together ks s) st) ks s) emits quiet calls (ap (answer_said st refusal) (quiet (said_together ks s)) ∙ said) follows
    (λ place k l e f down. holds_is (disk_in k.place) (disk_in l.place) (ap (λ (x : NodeState). disk_in x.place) (some_is l k (sym f ∙ e))))
    (λ refusal g place k l e f. ap (λ (x : NodeState). disk_in x.place) (some_is l k (sym f ∙ e)))

-- by what was said before,
pub follows_refused : (said : Said) (st : Statement) (refusal : Line) → refused_by_said said st ≡ Some refusal → LineFollows said (Says st) (refusal ∷ [])
follows_refused said st refusal e = ((λ other f. ap (λ (l : Line). l ∷ []) (some_is refusal other (sym e ∙ f))), (λ f. let none : ⊥ = (let no : Some refusal ≡ None = sym e ∙ f in cc) in absurd none), answered_refused said st refusal e)

-- or else
pub follows_other : (said : Said) (st : Statement) (lines : List Line) (answer : Line) → refused_by_said said st ≡ None → is_by_lines st answer ≡ false → IsAnswered said st (lines ++ answer ∷ []) → LineFollows said (Says st) (lines ++ answer ∷ [])
follows_other said st lines answer e other answered =
    ((λ refusal f. let none : ⊥ = (let no : None ≡ Some refusal = sym e ∙ f in cc) in absurd none), (λ f. subst (λ (o : Option Line). IfSome o (λ x. is_by_lines st x ≡ false)) (sym (last_is None lines answer)) other), answered)

-- A request to no node, or that names none.
no_node_said : (name : List ℕ) (request : Request) (said : Said) → request_said name request line.NoSuchNode said ≡ said
no_node_said name Boot said = refl
no_node_said name (Init slots journal) said = refl
no_node_said name (StartTrans label seconds) said = refl
no_node_said name (AddBranch label other new) said = refl
no_node_said name _ said = refl

pub answers_nowhere : (name : List ℕ) (request : Request) (ks : List NodeState) (s : SharedState) (a b : Shown) → Emits a (line.NoSuchNode ∷ []) b → refused_by_said (said_together ks s) (At name request) ≡ Some line.NoSuchNode → AnswersTogether (kept_names ks) (At name request) a b ks s ks s
answers_nowhere name request ks s a b emits refused =
    answers_refused (At name request) line.NoSuchNode ks s a b emits (λ said. refl) (λ other stops calls. unarmed other stops calls request) (no_node_said name request (said_together ks s)) (follows_refused (said_together ks s) (At name request) line.NoSuchNode refused)
  where
    unarmed : (other : List ℕ) (stops : ℕ) (calls : CallLog) (r : Request) → calls_after other (said_together ks s) (At name r) (line.NoSuchNode ∷ []) stops calls ≡ calls
    unarmed other stops calls (Fuse writes choice) = refl
    unarmed other stops calls _ = refl

-- A request.
pub answers_request : (request : Request) (ks : List NodeState) (s : SharedState) (a b : Shown) (k l : NodeState) (t : SharedState) (place : ℕ) (ends : Bool) → AreApart (kept_names ks) → slice_get ks place ≡ Some k → l.name ≡ k.name → other_said (said_together ks s) request ≡ None → TellsTask (Serves request) true ends k s a b l t →
    AnswersTogether (kept_names ks) (At k.name request) a b ks s (slice_set ks place l) t
answers_request request ks s a b k l t place ends apart e same other d = record {
  lines = d.lines ++ d.answer ∷ [];
  emits = d.emits;
  tells = tells_all (said_together ks s) (At k.name request) (d.lines ++ d.answer ∷ []) ks (slice_set ks place l) (names_set ks place k l e same) (λ j x y f g. elim (was_put ks place k l apart e j x y f g) [
    | Here p q ↦ subst (λ (z : NodeState). DiskFollowsStatement z.name (said_together ks s) (At k.name request) (d.lines ++ d.answer ∷ []) (disk_in z.place) (disk_in y.place)) (sym p) (subst (λ (z : NodeState). DiskFollowsStatement k.name (said_together ks s) (At k.name request) (d.lines ++ d.answer ∷ []) (disk_in k.place) (disk_in z.place)) (sym q) here)
    | There p q ↦ subst (λ (z : NodeState). DiskFollowsStatement x.name (said_together ks s) (At k.name request) (d.lines ++ d.answer ∷ []) (disk_in x.place) (disk_in z.place)) (sym p) (there x q)
  ]);
  follows = (
    (λ refusal f. let r = d.refused refusal (sym is ∙ f) in (λ i. r.0 i ++ r.1 i ∷ [])),
    (λ f. subst (λ (o : Option Line). IfSome o (λ x. is_by_lines (At k.name request) x ≡ false)) (sym (last_is None d.lines d.answer)) (d.others (sym is ∙ f))),
    answered,
  );
  says = sym (own_requests_say k.name request d.answer (map said_node ks) d.lines (said_node k) (said_node l) (said_shared s) (said_shared t) d.own (said_found ks place k apart e) d.quiet d.says ∙ ap (λ ns. record { nodes = ns; shared = said_shared t }) (said_put ks place k l apart e));
}
  where
    is : refused_by_said (said_together ks s) (At k.name request) ≡ refused_by_lines (said_shared s) (said_node k) request
    is = request_said_at (said_together ks s) k.name request (said_node k) (said_found ks place k apart e) other

    armed : (r : Request) → ((writes choice : ℕ) → Serves r ≡ Serves (Fuse writes choice) → d.answer ≡ Normal) → (calls : CallLog) → armed_task (Serves r) calls ≡ armed_by k.name (At k.name r) (Some d.answer) calls
    armed (Fuse writes choice) fused calls = rw (fused writes choice refl) (rw (its_name k.name) refl)
    armed _ fused calls = refl

    here : DiskFollowsStatement k.name (said_together ks s) (At k.name request) (d.lines ++ d.answer ∷ []) (disk_in k.place) (disk_in l.place)
    here = record {
      calls = d.calls ∙ ap (λ calls. if has_powered request d.answer then noted (disk_call.Power (disk_in k.place).stops) (disk_in k.place).calls else calls) (armed request d.fused (disk_in k.place).calls) ∙ sym (own_calls k.name (said_together ks s) request d.lines d.answer (disk_in k.place).stops (disk_in k.place).calls);
      failures = λ cause i c. d.failures cause (not_last k.name cause d.lines d.answer d.quiet i) c;
      passes = d.passes;
      elsewhere = λ f. let no : true ≡ false = sym (named_first k.name []) ∙ f in let none : ⊥ = cc in absurd none;
      refused = λ refusal f. (d.refused refusal (sym is ∙ f)).3;
      held = λ down unused. (d.held (down_is ks s place k apart e down) (used_request k.name (said_together ks s) request d.lines d.answer unused)).1;
    }

    goes_off : (r : Request) → (service r).goes_on ≡ false
    goes_off (Init slots journal) = refl
    goes_off Boot = refl
    goes_off (Fuse writes choice) = refl
    goes_off (Clock now) = refl
    goes_off _ = refl

    answer_is : (o : Option Line) → refused_by_lines (said_shared s) (said_node k) request ≡ o → is_answer d.answer ≡ true
    answer_is None f = request_answers request d.answer (d.answered.may f)
    answer_is (Some refusal) f = ap is_answer (d.refused refusal f).1 ∙ refusal_answers refusal (refusal_of_lines (said_shared s) (said_node k) request refusal f)

    serves_is : (r : Request) → Serves r ≡ Serves Crash → r ≡ Crash
    serves_is r f = cc

    crash_is : (node : List ℕ) → At k.name request ≡ At node Crash → (k.name ≡ node) × (request ≡ Crash)
    crash_is node f = (let p : k.name ≡ node = cc in p, let q : request ≡ Crash = cc in q)

    answered : IsAnswered (said_together ks s) (At k.name request) (d.lines ++ d.answer ∷ [])
    answered = record {
      events = d.lines;
      answer = d.answer;
      shows = refl;
      is = answer_is (refused_by_lines (said_shared s) (said_node k) request) refl;
      may = λ f. d.answered.may (sym is ∙ f);
      falls = λ on. d.answered.falls (goes_off request);
      crashes = λ node i. (λ j. At (sym (own_crash node k.name d.lines d.own i) j) (serves_is request (d.answered.crashes node i) j));
      crash = λ node same f. (let c = crash_is node same in d.answered.crash (ap Serves c.1) (sym is ∙ f) ∙ ap (λ (x : List ℕ). line.Crashed x ∷ []) c.0);
    }

    there : (x : NodeState) → (x.name ≡ k.name → ⊥) → DiskFollowsStatement x.name (said_together ks s) (At k.name request) (d.lines ++ d.answer ∷ []) (disk_in x.place) (disk_in x.place)
    there x q = record {
      calls = sym (other_calls x.name k.name (said_together ks s) request d.lines d.answer (disk_in x.place).stops (disk_in x.place).calls q);
      failures = λ cause i c. absurd (q (own_down x.name k.name cause d.lines d.own (not_last x.name cause d.lines d.answer d.quiet i)));
      passes = passes_same (disk_in x.place);
      elsewhere = λ f. refl;
      refused = λ refusal f. refl;
      held = λ down unused. holds_is (disk_in x.place) (disk_in x.place) refl;
    }

-- What was said of the receiver of a message.
delivery_is : (number : ℕ) (m : Message) (ks : List NodeState) (s : SharedState) (k : NodeState) (place : ℕ) → AreApart (kept_names ks) → slice_get ks place ≡ Some k → message_at number s.wire ≡ Some m → m.to ≡ k.name → refused_by_said (said_together ks s) (Deliver number) ≡ down_said (said_node k)
delivery_is number m ks s k place apart e there to = delivery_said_at (said_together ks s) number m (said_node k) there (subst (λ x. node_in x (map said_node ks) ≡ Some (said_node k)) (sym to) (said_found ks place k apart e))

spoken : (number : ℕ) (m : Message) (ks : List NodeState) (s : SharedState) → message_at number s.wire ≡ Some m → spoken_to (said_together ks s) (Deliver number) ≡ m.to ∷ []
spoken number m ks s there = ap (λ (o : Option Message). elim o [ Some x ↦ x.to ∷ [] | None ↦ [] ]) there

delivery_told : (number : ℕ) (m : Message) (ks : List NodeState) (s : SharedState) (a b : Shown) (k l : NodeState) (t : SharedState) (place : ℕ) (answers ends : Bool) → AreApart (kept_names ks) → slice_get ks place ≡ Some k → l.name ≡ k.name → message_at number s.wire ≡ Some m → m.to ≡ k.name → (d : TellsTask (Takes m) answers ends k s a b l t) →
    DisksFollowShown (spoken_to (said_together ks s) (Deliver number)) d.lines ks s (slice_set ks place l) t
delivery_told number m ks s a b k l t place answers ends apart e same there to d =
    task_told (spoken_to (said_together ks s) (Deliver number)) place (Takes m) answers ends ks s a b k l t apart e same (ap (is_named k.name) (spoken number m ks s there) ∙ subst (λ x. is_named k.name (x ∷ []) ≡ true) (sym to) (named_first k.name [])) d (λ ending answer. refl) (λ calls. refl) d.says

-- A delivery, whether the statement ended with it
pub answers_over : (number : ℕ) (m : Message) (ks : List NodeState) (s : SharedState) (a b : Shown) (k l : NodeState) (t : SharedState) (place : ℕ) → AreApart (kept_names ks) → slice_get ks place ≡ Some k → l.name ≡ k.name → message_at number s.wire ≡ Some m → m.to ≡ k.name → TellsTask (Takes m) true true k s a b l t →
    AnswersTogether (kept_names ks) (Deliver number) a b ks s (slice_set ks place l) t
answers_over number m ks s a b k l t place apart e same there to d =
    answers_told (Deliver number) d.lines d.answer ks s (slice_set ks place l) t a b (delivery_told number m ks s a b k l t place true true apart e same there to d) d.emits d.quiet (λ name stops calls. refl) (delivery_said number d.lines d.answer (said_together ks s) d.quiet) (
      (λ refusal f. let r = d.refused refusal (sym (delivery_is number m ks s k place apart e there to) ∙ f) in (λ i. r.0 i ++ r.1 i ∷ [])),
      (λ f. subst (λ (o : Option Line). IfSome o (λ x. is_by_lines (Deliver number) x ≡ false)) (sym (last_is None d.lines d.answer)) (d.others (sym (delivery_is number m ks s k place apart e there to) ∙ f))),
      answered,
    )
    (told_holds (spoken_to (said_together ks s) (Deliver number)) d.lines (Deliver number) ks s (slice_set ks place l) t apart (delivery_told number m ks s a b k l t place true true apart e same there to d))
    (λ refusal f other x y g h. elim (was_put ks place k l apart e other x y g h) [
      | Here p q ↦ ap (λ (z : NodeState). disk_in z.place) q ∙ (d.refused refusal (sym (delivery_is number m ks s k place apart e there to) ∙ f)).3 ∙ ap (λ (z : NodeState). disk_in z.place) (sym p)
      | There p q ↦ ap (λ (z : NodeState). disk_in z.place) p
    ])
  where
    answer_is : (o : Option Line) → down_said (said_node k) ≡ o → is_answer d.answer ≡ true
    answer_is None f = broken_answers d.answer (d.answered.may f)
    answer_is (Some refusal) f = ap is_answer (d.refused refusal f).1 ∙ refusal_answers refusal (statement_of_lines (said_together ks s) (Deliver number) refusal (delivery_is number m ks s k place apart e there to ∙ f))

    answered : IsAnswered (said_together ks s) (Deliver number) (d.lines ++ d.answer ∷ [])
    answered = answered_so (said_together ks s) (Deliver number) d.lines d.answer (answer_is (down_said (said_node k)) refl) (λ f. broken_turn d.answer (d.answered.may (sym (delivery_is number m ks s k place apart e there to) ∙ f)))
        (λ on. falls_among k.name (spoken_to (said_together ks s) (Deliver number)) d.lines d.answer (ap (is_named k.name) (spoken number m ks s there) ∙ subst (λ x. is_named k.name (x ∷ []) ≡ true) (sym to) (named_first k.name [])) (d.answered.falls refl))
        (λ node i. (let f : Takes m ≡ Serves Crash = d.answered.crashes node i in (let no : ⊥ = cc in no))) (λ node f. (let no : ⊥ = cc in no))

-- or went on.
pub answers_on : (number : ℕ) (m : Message) (ks : List NodeState) (s : SharedState) (a x b : Shown) (k l : NodeState) (t : SharedState) (place : ℕ) → AreApart (kept_names ks) → slice_get ks place ≡ Some k → l.name ≡ k.name → message_at number s.wire ≡ Some m → m.to ≡ k.name → TellsTask (Takes m) false false k s a x l t → Emits x (Normal ∷ []) b →
    AnswersTogether (kept_names ks) (Deliver number) a b ks s (slice_set ks place l) t
answers_on number m ks s a x b k l t place apart e same there to d emits =
    answers_told (Deliver number) d.lines Normal ks s (slice_set ks place l) t a b (delivery_told number m ks s a x k l t place false false apart e same there to d) (emits_on a x b d.lines (Normal ∷ []) d.emits emits) (λ said. refl) (λ name stops calls. refl) (delivery_said number d.lines Normal (said_together ks s) (λ said. refl)) (
      (λ refusal f. let r = d.refused refusal (sym (delivery_is number m ks s k place apart e there to) ∙ f) in let no : false ≡ true = r.2 in let none : ⊥ = cc in absurd none),
      (λ f. subst (λ (o : Option Line). IfSome o (λ y. is_by_lines (Deliver number) y ≡ false)) (sym (last_is None d.lines Normal)) refl),
      answered_so (said_together ks s) (Deliver number) d.lines Normal refl (λ f. refl) (λ on. falls_none (spoken_to (said_together ks s) (Deliver number)) d.lines Normal steady.down refl) steady.crash (λ node f. (let no : ⊥ = cc in no)),
    )
    (told_holds (spoken_to (said_together ks s) (Deliver number)) d.lines (Deliver number) ks s (slice_set ks place l) t apart (delivery_told number m ks s a x k l t place false false apart e same there to d))
    (none_leaves (Deliver number) ks s (slice_set ks place l) (delivery_is number m ks s k place apart e there to ∙ went_unrefused (Takes m) false k s a x l t d))
  where
    steady : IsSteady d.lines
    steady = went_steady (Takes m) false k s a x l t d refl (λ answer. refl) (λ q. (let no : ⊥ = cc in no))

-- A task of a node that is up, which neither arms its disk nor makes it run again.
pub record IsQuiet (task : Task) : Type 0 where
  pub unpowered : (ending : Bool) (answer : Line) → powered_task task ending answer ≡ false
  pub unarmed : (calls : CallLog) → armed_task task calls ≡ calls
  pub says : (lines : List Line) (answer : Line) (k : NodeState) (s : SharedState) → task_said task lines answer k s ≡ lines_said lines (alone (said_node k) (said_shared s))
  pub no_crash : task ≡ Serves Crash → ⊥

pub if_up_told : (touched : List (List ℕ)) (place : ℕ) (task : Task) (ks : List NodeState) (s : SharedState) (a b : Shown) (ls : List NodeState) (t : SharedState) → AreApart (kept_names ks) → IsQuiet task → (d : DoesIfUp place task ks s a b ls t) → is_named d.kept.name touched ≡ true → TurnShown touched ks s a b ls t
if_up_told touched place task ks s a b ls t apart quiet d named = by (is_up d.kept.place) refl
  where
    by : (up : Bool) → is_up d.kept.place ≡ up → TurnShown touched ks s a b ls t
    by true e =
        let x = d.up e in
        let same : x.old ≡ d.kept = some_is x.old d.kept (sym x.here ∙ d.there) in
        record {
          lines = x.tells.lines;
          emits = x.tells.emits;
          uncrashed = λ node i. quiet.no_crash (x.tells.answered.crashes node i);
          told = subst (λ ms. DisksFollowShown touched x.tells.lines ks s ms t) (sym x.put)
              (task_told touched place task false false ks s a b x.old x.new t apart x.here x.named (subst (λ (y : NodeState). is_named y.name touched ≡ true) (sym same) named) x.tells quiet.unpowered quiet.unarmed (sym (quiet.says x.tells.lines x.tells.answer x.old s) ∙ x.tells.says));
        }
    by false e =
        let x = d.down e in
        record {
          lines = [];
          emits = subst (λ y. Emits a [] y) (sym x.2) (emits_nothing a);
          uncrashed = λ node i. i;
          told = subst (λ ms. DisksFollowShown touched [] ks s ms t) (sym x.0) (subst (λ u. DisksFollowShown touched [] ks s ks u) (sym x.1) (told_none touched ks s));
        }

-- A link that fails.
pub answers_link : (one other : List ℕ) (p q : ℕ) (ks : List NodeState) (s : SharedState) (a x b c : Shown) (ms : List NodeState) (u : SharedState) (ls : List NodeState) (t : SharedState) → AreApart (kept_names ks) → slice_get (kept_names ks) p ≡ Some one → slice_get (kept_names ks) q ≡ Some other →
    DoesIfUp p (LosesLink other) ks s a x ms u → DoesIfUp q (LosesLink one) ms u x b ls t → Emits b (Normal ∷ []) c → AnswersTogether (kept_names ks) (LinkDown one other) a c ks s ls t
answers_link one other p q ks s a x b c ms u ls t apart np nq d f emits =
    let names = if_up_names p (LosesLink other) ks s a x ms u d in
    let first : d.kept.name ≡ one = some_is d.kept.name one (sym (get_map (λ (y : NodeState). y.name) ks p d.kept d.there) ∙ np) in
    let second : f.kept.name ≡ other = some_is f.kept.name other (sym (get_map (λ (y : NodeState). y.name) ms q f.kept f.there) ∙ ap (λ ns. slice_get ns q) names ∙ nq) in
    let g = if_up_told (one ∷ other ∷ []) p (LosesLink other) ks s a x ms u apart (record { unpowered = λ e y. refl; unarmed = λ y. refl; says = λ y z v o. refl; no_crash = λ q. (let no : ⊥ = cc in no) }) d (subst (λ y. is_named y (one ∷ other ∷ []) ≡ true) (sym first) (named_first one (other ∷ []))) in
    let h = if_up_told (one ∷ other ∷ []) q (LosesLink one) ms u x b ls t (subst AreApart (sym names) apart) (record { unpowered = λ e y. refl; unarmed = λ y. refl; says = λ y z v o. refl; no_crash = λ q. (let no : ⊥ = cc in no) }) f (subst (λ y. is_named y (one ∷ other ∷ []) ≡ true) (sym second) (named_second one other)) in
    let i = kept_at_place ks p one np in
    let j = kept_at_place ks q other nq in
    answers_told (LinkDown one other) (g.lines ++ h.lines) Normal ks s ls t a c (told_on (one ∷ other ∷ []) g.lines h.lines ks s ms u ls t g.told h.told)
    (emits_on a b c (g.lines ++ h.lines) (Normal ∷ []) (emits_on a x b g.lines h.lines g.emits h.emits) emits) (λ said. refl) (λ name stops calls. refl)
    (link_said one other (g.lines ++ h.lines) Normal (said_together ks s) (λ said. refl))
    (follows_other (said_together ks s) (LinkDown one other) (g.lines ++ h.lines) Normal
    (link_said_at (said_together ks s) one other (said_node i.kept) (said_node j.kept) (subst (λ y. node_in y (map said_node ks) ≡ Some (said_node i.kept)) i.named (said_found ks p i.kept apart i.here))
    (subst (λ y. node_in y (map said_node ks) ≡ Some (said_node j.kept)) j.named (said_found ks q j.kept apart j.here))) refl
    (answered_so (said_together ks s) (LinkDown one other) (g.lines ++ h.lines) Normal refl (λ none. refl) (λ on. (let no : ⊥ = cc in absurd no))
    (λ node v. elim (in_parts (line.Crashed node) g.lines h.lines v) [ inl w ↦ g.uncrashed node w | inr w ↦ h.uncrashed node w ]) (λ node v. (let no : ⊥ = cc in no))))
    (told_holds (one ∷ other ∷ []) (g.lines ++ h.lines) (LinkDown one other) ks s ls t apart (told_on (one ∷ other ∷ []) g.lines h.lines ks s ms u ls t g.told h.told))
    (none_leaves (LinkDown one other) ks s ls (link_said_at (said_together ks s) one other (said_node i.kept) (said_node j.kept) (subst (λ y. node_in y (map said_node ks) ≡ Some (said_node i.kept)) i.named (said_found ks p i.kept apart i.here))
    (subst (λ y. node_in y (map said_node ks) ≡ Some (said_node j.kept)) j.named (said_found ks q j.kept apart j.here))))

-- one between a node and itself
pub answers_loop : (one other : List ℕ) (p q : ℕ) (ks : List NodeState) (s : SharedState) (a b : Shown) → AreApart (kept_names ks) → slice_get (kept_names ks) p ≡ Some one → slice_get (kept_names ks) q ≡ Some other → Emits a (line.BadParameter ∷ []) b → AnswersTogether (kept_names ks) (LinkDown one other) a b ks s ks s
answers_loop one other p q ks s a b apart np nq emits =
    let i = kept_at_place ks p one np in
    let j = kept_at_place ks q other nq in
    answers_refused (LinkDown one other) line.BadParameter ks s a b emits (λ said. refl) (λ name stops calls. refl) refl
    (follows_other (said_together ks s) (LinkDown one other) [] line.BadParameter
    (link_said_at (said_together ks s) one other (said_node i.kept) (said_node j.kept) (subst (λ y. node_in y (map said_node ks) ≡ Some (said_node i.kept)) i.named (said_found ks p i.kept apart i.here))
    (subst (λ y. node_in y (map said_node ks) ≡ Some (said_node j.kept)) j.named (said_found ks q j.kept apart j.here))) refl
    (answered_so (said_together ks s) (LinkDown one other) [] line.BadParameter refl (λ none. refl) (λ on. (let no : ⊥ = cc in absurd no)) (λ node v. v) (λ node v. (let no : ⊥ = cc in no))))

-- A clock that is set.
clock_told : (touched : List (List ℕ)) (place : ℕ) (ks : List NodeState) (s : SharedState) (k : NodeState) (now : ℕ) → AreApart (kept_names ks) → slice_get ks place ≡ Some k → is_named k.name touched ≡ true → DisksFollowShown touched [] ks s (slice_set ks place (record k { clock = now })) s
clock_told touched place ks s k now apart e named = record {
  says = ap (λ ns. record { nodes = ns; shared = said_shared s }) (sym (set_same (map said_node ks) place (said_node k) (get_map said_node ks place k e)) ∙ sym (map_set said_node ks place (record k { clock = now })));
  names = names_set ks place k (record k { clock = now }) e refl;
  held = λ other x y f g down. elim (was_put ks place k (record k { clock = now }) apart e other x y f g) [
    | Here p q ↦ (ap (λ (z : NodeState). is_up z.place) q ∙ ap (λ (z : NodeState). is_up z.place) (sym p) ∙ down, holds_is (disk_in x.place) (disk_in y.place) (ap (λ (z : NodeState). disk_in z.place) q ∙ ap (λ (z : NodeState). disk_in z.place) (sym p)))
    | There p q ↦ held_same x y p down
  ];
  each = λ other x y f g. elim (was_put ks place k (record k { clock = now }) apart e other x y f g) [
    | Here p q ↦ subst (λ (z : NodeState). DiskFollowsShown z.name touched [] (disk_in z.place) (disk_in y.place)) (sym p) (subst (λ (z : NodeState). DiskFollowsShown k.name touched [] (disk_in k.place) (disk_in z.place)) (sym q) (disk_same k.name touched [] (disk_in k.place) (λ cause i. i)))
    | There p q ↦ subst (λ (z : NodeState). DiskFollowsShown x.name touched [] (disk_in x.place) (disk_in z.place)) (sym p) (disk_same x.name touched [] (disk_in x.place) (λ cause i. i))
  ];
}

pub answers_clock : (place : ℕ) (now : ℕ) (ks : List NodeState) (s : SharedState) (a b c : Shown) (k : NodeState) (ls : List NodeState) (t : SharedState) → AreApart (kept_names ks) → slice_get ks place ≡ Some k → DoesIfUp place Ticks (slice_set ks place (record k { clock = now })) s a b ls t → Emits b (Normal ∷ []) c →
    AnswersTogether (kept_names ks) (At k.name (Clock now)) a c ks s ls t
answers_clock place now ks s a b c k ls t apart e d emits =
    let ms = slice_set ks place (record k { clock = now }) in
    let names : kept_names ms ≡ kept_names ks = names_set ks place k (record k { clock = now }) e refl in
    let named : d.kept.name ≡ k.name = some_is d.kept.name k.name (sym (get_map (λ (y : NodeState). y.name) ms place d.kept d.there) ∙ ap (λ ns. slice_get ns place) names ∙ get_map (λ (y : NodeState). y.name) ks place k e) in
    let g = if_up_told (k.name ∷ []) place Ticks ms s a b ls t (subst AreApart (sym names) apart) (record { unpowered = λ f y. refl; unarmed = λ y. refl; says = λ y z v o. refl; no_crash = λ q. (let no : ⊥ = cc in no) }) d (subst (λ y. is_named y (k.name ∷ []) ≡ true) (sym named) (named_first k.name [])) in
    answers_told (At k.name (Clock now)) g.lines Normal ks s ls t a c (told_on (k.name ∷ []) [] g.lines ks s ms s ls t (clock_told (k.name ∷ []) place ks s k now apart e (named_first k.name [])) g.told)
    (emits_on a b c g.lines (Normal ∷ []) g.emits emits) (λ said. refl) (λ name stops calls. clock_calls name k.name (said_together ks s) g.lines stops calls)
    (ap (λ (o : Option Line). elim o [ Some x ↦ answer_said (At k.name (Clock now)) x (lines_said (g.lines ++ Normal ∷ []) (said_together ks s)) | None ↦ said_together ks s ]) (last_is None g.lines Normal) ∙ here_said g.lines Normal (said_together ks s) (λ said. refl))
    (follows_other (said_together ks s) (At k.name (Clock now)) g.lines Normal (request_said_at (said_together ks s) k.name (Clock now) (said_node k) (said_found ks place k apart e) refl) refl
    (answered_so (said_together ks s) (At k.name (Clock now)) g.lines Normal refl (λ none. refl) (λ on. (let no : ⊥ = cc in absurd no)) g.uncrashed (λ node v. (let no : ⊥ = cc in no))))
    (told_holds (k.name ∷ []) g.lines (At k.name (Clock now)) ks s ls t apart (told_on (k.name ∷ []) [] g.lines ks s ms s ls t (clock_told (k.name ∷ []) place ks s k now apart e (named_first k.name [])) g.told))
    (none_leaves (At k.name (Clock now)) ks s ls (request_said_at (said_together ks s) k.name (Clock now) (said_node k) (said_found ks place k apart e) refl))
  where
    clock_calls : (name node : List ℕ) (said : Said) (lines : List Line) (stops : ℕ) (calls : CallLog) → calls_after name said (At node (Clock now)) (lines ++ Normal ∷ []) stops calls ≡ calls
    clock_calls name node said lines stops calls = ap (λ (o : Option Line). if is_named name (elim o [ Some x ↦ (if has_powered (Clock now) x then node ∷ [] else []) | None ↦ [] ]) then noted (disk_call.Power stops) calls else armed_by name (At node (Clock now)) o calls) (last_is None lines Normal)
