-- Some refusals follow from what was said.
use Rattle.std.proofs.Common.{◌≡◌, ℕ, ◌⊎◌, List, [], ◌∷◌, ◌++◌, inl, inr, map, length, Bool, true, false, not, ◌&&◌, ◌||◌, Option, Some, None, if◌then◌else◌, refl, sym, ◌∙◌, ap, subst}
use Rattle.std.specs.Prelude.{nat_le}
use Rattle.std.specs.Option.{option_map}
use Rattle.std.specs.Str.{bytes_eq}
use Rattle.std.proofs.lemmas.List.{length-map}
use Rattle.vms_model.specs.Limits.{label_limit}
use Rattle.run_said.specs.transcript_model.Lines as line
use Rattle.run_said.specs.transcript_model.Lines.{Line}
use Rattle.run_said.specs.script_model.Statements.{Statement, At, Deliver, LinkDown, Settle, Request, Init, Boot, StartTrans, AddBranch, StartBranch, Records, EndBranch, EndTrans, AbortTrans, Inquire, JoinRm, AckEvent, GetDti, Fuse, Clock, Named, ByLabel, BySerial}
use Rattle.commit_protocol.specs.Messages.{Message}
use Rattle.run_said.specs.run_model.World.{World, Shared, Node, Label, find_node, find_label, opened}
use Rattle.run_said.specs.run_model.Operations.{first_of, refused_if}
use Rattle.run_said.specs.run_model.Answers.{Task, Serves, Takes, service, task_service, made_label, new_label, made_name}
use Rattle.run_said.specs.run_model.Statements.{Step, named_node, other_node, message_at, refused_at_once}
use Rattle.run_said.specs.run_model.Transcript.{Entry, Legal, Turn as LineTurn}
use Rattle.run_said.specs.run_model.StepLaws.{TaskAt, is_refusal, is_sweep, task_of, refused_first}
use Rattle.run_said.proofs.run_model.NodeLists.{clash, some_is}
use Rattle.run_said.proofs.run_model.CauseLemmas as cause
use Rattle.run_said.proofs.run_model.CauseLemmas.{by_lines, by_more, parted, more_refuses, then_by_more, is_by_more, first_again}
use Rattle.run_said.proofs.run_model.PartTasks.{task_there}
use Rattle.run_said.proofs.run_model.Refusing.{refusals, same_last, none_some}
use Rattle.run_said.proofs.run_model.Failing.{successes}
use Rattle.run_said.specs.Said.{Said, SaidNode, SaidLabel, SaidShared, at_said, down_said, find_said, is_by_lines, is_of_lines, is_settling, made_said, named_said, new_said, node_in, other_said, refused_by_lines, refused_by_said, there_said}
use Rattle.run_laws.specs.SaidLaws.{SaidIsSo}
use Rattle.run_said.proofs.Views.{node_told, label_told, shared_told, told_in}
use Rattle.run_laws.proofs.TurnsTell.{legal_told}

-- What is found.

node_found : (node : List ℕ) (ns : List Node) → node_in node (map node_told ns) ≡ option_map node_told (find_node node ns)
node_found node [] = refl
node_found node (n ∷ ns) = go (bytes_eq node n.name) (node_found node ns)
  where
    go : (b : Bool) → node_in node (map node_told ns) ≡ option_map node_told (find_node node ns) → ◌≡◌ {A = Option SaidNode} (if b then Some (node_told n) else node_in node (map node_told ns)) (option_map node_told (if b then Some n else find_node node ns))
    go true more = refl
    go false more = more

label_found : (name : List ℕ) (ls : List Label) → find_said name (map label_told ls) ≡ option_map label_told (find_label name ls)
label_found name [] = refl
label_found name (l ∷ ls) = go (bytes_eq name l.name) (label_found name ls)
  where
    go : (b : Bool) → find_said name (map label_told ls) ≡ option_map label_told (find_label name ls) → ◌≡◌ {A = Option SaidLabel} (if b then Some (label_told l) else find_said name (map label_told ls)) (option_map label_told (if b then Some l else find_label name ls))
    go true more = refl
    go false more = more

made_so : (s : Shared) (n : Node) (name : List ℕ) → made_said (map label_told s.labels) n.name name ≡ made_label s n name
made_so s n name = ap (λ (o : Option SaidLabel). elim o [ Some l ↦ (if bytes_eq n.name l.node then None else Some line.BadLabel) | None ↦ Some line.BadLabel ]) (label_found name s.labels) ∙ go (find_label name s.labels)
  where
    here : (l : Label) (b : Bool) → (if b then None else Some line.BadLabel) ≡ (elim (if b then Some l else None) as (λ x. Option Line) [ Some label ↦ None | None ↦ Some line.BadLabel ])
    here l true = refl
    here l false = refl

    go : (o : Option Label) → (elim (option_map label_told o) as (λ x. Option Line) [ Some l ↦ (if bytes_eq n.name l.node then None else Some line.BadLabel) | None ↦ Some line.BadLabel ])
        ≡ (elim (elim o as (λ x. Option Label) [ Some l ↦ (if bytes_eq n.name l.node then Some l else None) | None ↦ None ]) as (λ x. Option Line) [ Some label ↦ None | None ↦ Some line.BadLabel ])
    go (Some l) = here l (bytes_eq n.name l.node)
    go None = refl

new_so : (s : Shared) (name : List ℕ) → new_said (map label_told s.labels) name ≡ new_label s name
new_so s name = (λ i. elim (label_found name s.labels i) as (λ x. Option Line) [ Some l ↦ Some line.BadLabel | None ↦ refused_if (nat_le label_limit (length-map s.labels label_told i)) line.BadLabel ]) ∙ go (find_label name s.labels)
  where
    go : (o : Option Label) → (elim (option_map label_told o) as (λ x. Option Line) [ Some l ↦ Some line.BadLabel | None ↦ refused_if (nat_le label_limit (length s.labels)) line.BadLabel ])
        ≡ (elim o as (λ x. Option Line) [ Some label ↦ Some line.BadLabel | None ↦ refused_if (nat_le label_limit (length s.labels)) line.BadLabel ])
    go (Some l) = refl
    go None = refl

named_so : (s : Shared) (n : Node) (who : Named) → named_said (map label_told s.labels) n.name who ≡ made_name s n who
named_so s n (ByLabel label) = made_so s n label
named_so s n (BySerial serial) = refl

-- What refuses a request at a node before its disk is read.

or_false : (b : Bool) → (b || false) ≡ b
or_false true = refl
or_false false = refl

or_true : (b : Bool) → (b || true) ≡ true
or_true true = refl
or_true false = refl

-- a node that is down, where it does not serve a request then, and where it does
served_up : (n : Node) → refused_if (not (n.up || false)) line.NodeDown ≡ down_said (node_told n)
served_up n = ap (λ b. refused_if (not b) line.NodeDown) (or_false n.up)

served_down : (n : Node) → refused_if (not (n.up || true)) line.NodeDown ≡ None
served_down n = ap (λ b. refused_if (not b) line.NodeDown) (or_true n.up)

first_none : (o : Option Line) → first_of o None ≡ o
first_none (Some refusal) = refl
first_none None = refl

lines_so : (s : Shared) (n : Node) (request : Request) → first_of (refused_if (not (n.up || (service request).while_down)) line.NodeDown) (by_lines s n request) ≡ refused_by_lines (shared_told s) (node_told n) request
lines_so s n (Init slots blocks) = ap (λ o. first_of o (refused_if s.in_use line.VolumeInUse)) (served_down n)
lines_so s n Boot = ap (λ o. first_of o (by_lines s n Boot)) (served_down n)
lines_so s n (StartTrans label seconds) = λ i. first_of (served_up n i) (sym (new_so s label) i)
lines_so s n (AddBranch label other new) = λ i. first_of (served_up n i) (first_of (sym (made_so s n label) i) (sym (new_so s new) i))
lines_so s n (StartBranch label) = λ i. first_of (served_up n i) (sym (made_so s n label) i)
lines_so s n (Records label file op) = λ i. first_of (served_up n i) (sym (made_so s n label) i)
lines_so s n (EndBranch label) = λ i. first_of (served_up n i) (sym (made_so s n label) i)
lines_so s n (EndTrans label) = λ i. first_of (served_up n i) (sym (made_so s n label) i)
lines_so s n (AbortTrans label) = λ i. first_of (served_up n i) (sym (made_so s n label) i)
lines_so s n (Inquire who) = λ i. first_of (served_up n i) (sym (named_so s n who) i)
lines_so s n (JoinRm label rm) = λ i. first_of (served_up n i) (sym (made_so s n label) i)
lines_so s n (AckEvent who rm reply) = λ i. first_of (served_up n i) (sym (named_so s n who) i)
lines_so s n (GetDti who) = λ i. first_of (served_up n i) (sym (named_so s n who) i)
lines_so s n (Fuse writes choice) = ap (λ o. first_of o None) (served_down n)
lines_so s n (Clock now) = ap (λ o. first_of o None) (served_down n)
lines_so s n _ = ap (λ o. first_of o None) (served_up n) ∙ first_none (down_said (node_told n))

-- what refuses it first is what was said, and then what was not
first_so : (w : World) (n : Node) (request : Request) → refused_first w n (Serves request) ≡ first_of (refused_by_lines (shared_told w.shared) (node_told n) request) (by_more w.shared n request)
first_so w n request =
    ap (first_of (refused_if (not (n.up || (service request).while_down)) line.NodeDown)) (parted w.shared n request)
    ∙ sym (first_again (refused_if (not (n.up || (service request).while_down)) line.NodeDown) (by_lines w.shared n request) (by_more w.shared n request))
    ∙ ap (λ o. first_of o (by_more w.shared n request)) (lines_so w.shared n request)

-- of two causes, where the other is no such refusal
of_first : (a b : Option Line) (refusal : Line) → cause.Says is_by_more b → first_of a b ≡ Some refusal → is_of_lines refusal ≡ true → a ≡ Some refusal
of_first (Some other) b refusal says e h = e
of_first None b refusal says e h = absurd (not_more refusal h (says.says refusal e))
  where
    not_more : (l : Line) → is_of_lines l ≡ true → is_by_more l ≡ true → ⊥
    not_more line.NoSuchNode h k = cc
    not_more line.NodeDown h k = cc
    not_more line.NodeUp h k = cc
    not_more line.VolumeInUse h k = cc
    not_more line.NotInitialized h k = cc
    not_more line.NoSuchMessage h k = cc
    not_more line.BadLabel h k = cc
    not_more _ h k = cc

first_stands : (a b : Option Line) (refusal : Line) → a ≡ Some refusal → first_of a b ≡ Some refusal
first_stands a b refusal e = ap (λ o. first_of o b) e

-- Of a statement.

-- a node that is named
there_so : (w : World) (node : List ℕ) → there_said (told_in w) node ≡ named_node w node
there_so w node = ap (λ (o : Option SaidNode). elim o [ Some n ↦ None | None ↦ Some line.NoSuchNode ]) (node_found node w.nodes) ∙ go (find_node node w.nodes)
  where
    go : (o : Option Node) → (elim (option_map node_told o) as (λ x. Option Line) [ Some n ↦ None | None ↦ Some line.NoSuchNode ]) ≡ (elim o as (λ x. Option Line) [ Some n ↦ None | None ↦ Some line.NoSuchNode ])
    go (Some n) = refl
    go None = refl

other_so : (w : World) (request : Request) → other_said (told_in w) request ≡ other_node w request
other_so w (AddBranch label other new) = there_so w other
other_so w _ = refl

at_so : (w : World) (node : List ℕ) (says : SaidNode → Option Line) (n : Node) → find_node node w.nodes ≡ Some n → at_said (told_in w) node says ≡ says (node_told n)
at_so w node says n found = ap (λ (o : Option SaidNode). elim o [ Some m ↦ says m | None ↦ Some line.NoSuchNode ]) (node_found node w.nodes ∙ ap (option_map node_told) found)

at_none : (w : World) (node : List ℕ) (says : SaidNode → Option Line) → find_node node w.nodes ≡ None → at_said (told_in w) node says ≡ Some line.NoSuchNode
at_none w node says none = ap (λ (o : Option SaidNode). elim o [ Some m ↦ says m | None ↦ Some line.NoSuchNode ]) (node_found node w.nodes ∙ ap (option_map node_told) none)

named_at : (w : World) (node : List ℕ) (n : Node) → find_node node w.nodes ≡ Some n → named_node w node ≡ None
named_at w node n found = rw (found, named_node) refl

named_none : (w : World) (node : List ℕ) → find_node node w.nodes ≡ None → named_node w node ≡ Some line.NoSuchNode
named_none w node none = rw (none, named_node) refl

-- Where a statement is refused at once by such a refusal, it was said so.

once_at : (w : World) (node : List ℕ) (request : Request) (refusal : Line) → refused_at_once w (At node request) ≡ Some refusal → refused_by_said (told_in w) (At node request) ≡ Some refusal
once_at w node request refusal e = go (find_node node w.nodes) refl
  where
    says : SaidNode → Option Line
    says n = first_of (other_said (told_in w) request) (refused_by_lines (shared_told w.shared) n request)

    go : (o : Option Node) → find_node node w.nodes ≡ o → at_said (told_in w) node (λ n. first_of (other_said (told_in w) request) (refused_by_lines (shared_told w.shared) n request)) ≡ Some refusal
    go (Some n) found = at_so w node (λ n. first_of (other_said (told_in w) request) (refused_by_lines (shared_told w.shared) n request)) n found
        ∙ first_stands (other_said (told_in w) request) (refused_by_lines (shared_told w.shared) (node_told n) request) refusal (other_so w request ∙ sym (ap (λ o. first_of o (other_node w request)) (named_at w node n found)) ∙ e)
    go None found = at_none w node (λ n. first_of (other_said (told_in w) request) (refused_by_lines (shared_told w.shared) n request)) found
        ∙ (sym (ap (λ o. first_of o (other_node w request)) (named_none w node found)) ∙ e)

once_delivered : (w : World) (number : ℕ) (refusal : Line) → refused_at_once w (Deliver number) ≡ Some refusal → refused_by_said (told_in w) (Deliver number) ≡ Some refusal
once_delivered w number refusal e = go (message_at number w.shared.wire) e
  where
    there : (m : Message) (o : Option Node) → find_node m.to w.nodes ≡ o → named_node w m.to ≡ Some refusal → at_said (told_in w) m.to down_said ≡ Some refusal
    there m (Some n) found k = absurd (none_some refusal _ (named_at w m.to n found) k)
    there m None found k = at_none w m.to down_said found ∙ sym (named_none w m.to found) ∙ k

    go : (o : Option Message) → (elim o as (λ x. Option Line) [ Some m ↦ named_node w m.to | None ↦ Some line.NoSuchMessage ]) ≡ Some refusal → (elim o as (λ x. Option Line) [ Some m ↦ at_said (told_in w) m.to down_said | None ↦ Some line.NoSuchMessage ]) ≡ Some refusal
    go (Some m) k = there m (find_node m.to w.nodes) refl k
    go None k = k

once_linked : (w : World) (a b : List ℕ) (refusal : Line) → refused_at_once w (LinkDown a b) ≡ Some refusal → is_of_lines refusal ≡ true → refused_by_said (told_in w) (LinkDown a b) ≡ Some refusal
once_linked w a b refusal e h = (λ i. first_of (there_so w a i) (there_so w b i)) ∙ go (named_node w a) (named_node w b) (bytes_eq a b) e
  where
    go : (x y : Option Line) (t : Bool) → first_of x (first_of y (refused_if t line.BadParameter)) ≡ Some refusal → first_of x y ≡ Some refusal
    go (Some other) y t k = k
    go None (Some other) t k = k
    go None None true k = let same : line.BadParameter ≡ refusal = some_is _ _ k in absurd (clash _ h (ap is_of_lines (sym same)))
    go None None false k = let no : ⊥ = cc in absurd no

once_said : (w : World) (s : Statement) (refusal : Line) → refused_at_once w s ≡ Some refusal → is_of_lines refusal ≡ true → refused_by_said (told_in w) s ≡ Some refusal
once_said w (At node request) refusal e h = once_at w node request refusal e
once_said w (Deliver number) refusal e h = once_delivered w number refusal e
once_said w (LinkDown a b) refusal e h = once_linked w a b refusal e h
once_said w Settle refusal e h = let no : ⊥ = cc in absurd no

-- Of one that is one task.

-- what was said of it is what refuses it first
passes_first : (a b : Option Line) → first_of a b ≡ None → b ≡ None
passes_first (Some refusal) b e = let no : ⊥ = cc in absurd no
passes_first None b e = e

said_at : (w : World) (node : List ℕ) (request : Request) (n : Node) → refused_at_once w (At node request) ≡ None → find_node node w.nodes ≡ Some n → refused_by_said (told_in w) (At node request) ≡ refused_by_lines (shared_told w.shared) (node_told n) request
said_at w node request n once found = at_so w node (λ n. first_of (other_said (told_in w) request) (refused_by_lines (shared_told w.shared) n request)) n found
    ∙ ap (λ o. first_of o (refused_by_lines (shared_told w.shared) (node_told n) request)) (other_so w request ∙ passes_first (named_node w node) (other_node w request) once)

-- and it is what refuses its task first, but for what was not said
record Parted (w : World) (s : Statement) (n : Node) (t : Task) : Type 0 where
  more : Option Line
  first : refused_first w n t ≡ first_of (refused_by_said (told_in w) s) more
  says : cause.Says is_by_more more

parted_task : (w : World) (s : Statement) (a : TaskAt) (n : Node) → task_of w s ≡ Some a → refused_at_once w s ≡ None → find_node a.node w.nodes ≡ Some n → Parted w s n a.task
parted_task w (At node request) a n e once found = of_request request e once
  where
    of_request : (request : Request) → task_of w (At node request) ≡ Some a → refused_at_once w (At node request) ≡ None → Parted w (At node request) n a.task
    of_request (Clock now) k f = let no : ⊥ = cc in absurd no
    of_request request k f =
        let is : record { node = node; task = Serves request } ≡ a = some_is _ a k in
        let here : find_node node w.nodes ≡ Some n = subst (λ (x : TaskAt). find_node x.node w.nodes ≡ Some n) (sym is) found in
        subst (λ (x : TaskAt). Parted w (At node request) n x.task) is (record { more = by_more w.shared n request; first = first_so w n request ∙ ap (λ o. first_of o (by_more w.shared n request)) (sym (said_at w node request n f here)); says = more_refuses w.shared n request })
parted_task w (Deliver number) a n e once found = go (message_at number w.shared.wire) refl e
  where
    go : (o : Option Message) → message_at number w.shared.wire ≡ o → option_map (λ m. record { node = m.to; task = Takes m }) o ≡ Some a → Parted w (Deliver number) n a.task
    go (Some m) is k =
        let same : record { node = m.to; task = Takes m } ≡ a = some_is _ a k in
        let here : find_node m.to w.nodes ≡ Some n = subst (λ (x : TaskAt). find_node x.node w.nodes ≡ Some n) (sym same) found in
        let said : refused_by_said (told_in w) (Deliver number) ≡ down_said (node_told n) = ap (λ (o : Option Message). elim o [ Some m ↦ at_said (told_in w) m.to down_said | None ↦ Some line.NoSuchMessage ]) is ∙ at_so w m.to down_said n here in
        subst (λ (x : TaskAt). Parted w (Deliver number) n x.task) same (record { more = None; first = ap (λ o. first_of o None) (served_up n ∙ sym said); says = cause.says_none is_by_more })
    go None is k = let no : ⊥ = cc in absurd no
parted_task w (LinkDown one other) a n e once found = let no : ⊥ = cc in absurd no
parted_task w Settle a n e once found = let no : ⊥ = cc in absurd no

-- An answer that is such a refusal.

lines_refusal : (l : Line) → is_of_lines l ≡ true → is_refusal l ≡ true
lines_refusal line.NoSuchNode h = refl
lines_refusal line.NodeDown h = refl
lines_refusal line.NodeUp h = refl
lines_refusal line.VolumeInUse h = refl
lines_refusal line.NotInitialized h = refl
lines_refusal line.NoSuchMessage h = refl
lines_refusal line.BadLabel h = refl
lines_refusal _ h = let no : ⊥ = cc in absurd no

-- a statement that is neither one task nor a settling is a sweep, or refused at once
sweep_or : (w : World) (s : Statement) → task_of w s ≡ None → refused_at_once w s ≡ None → is_settling s ≡ false → is_sweep s ≡ true
sweep_or w (At node (Clock now)) none once h = refl
sweep_or w (LinkDown a b) none once h = refl
sweep_or w Settle none once h = let no : ⊥ = cc in absurd no
sweep_or w (Deliver number) none once h = go (message_at number w.shared.wire) none once
  where
    go : (o : Option Message) → option_map {U = TaskAt} (λ m. record { node = m.to; task = Takes m }) o ≡ None → (elim o as (λ x. Option Line) [ Some m ↦ named_node w m.to | None ↦ Some line.NoSuchMessage ]) ≡ None → is_sweep (Deliver number) ≡ true
    go (Some m) e k = let no : ⊥ = cc in absurd no
    go None e k = let no : ⊥ = cc in absurd no
sweep_or w (At node _) none once h = let no : ⊥ = cc in absurd no

by_lines_parts : (s : Statement) (answer : Line) → is_by_lines s answer ≡ true → (is_settling s ≡ false) × (is_of_lines answer ≡ true)
by_lines_parts s answer h = go (is_settling s) h
  where
    go : (b : Bool) → (not b && is_of_lines answer) ≡ true → (b ≡ false) × (is_of_lines answer ≡ true)
    go true k = let no : ⊥ = cc in absurd no
    go false k = (refl, k)

answer_said_so : (w v : World) (s : Statement) (events : List Line) (answer : Line) → Step w s (events ++ answer ∷ []) v → is_by_lines s answer ≡ true → refused_by_said (told_in w) s ≡ Some answer
answer_said_so w v s events answer step h = go (refused_at_once w s) refl
  where
    parts : (is_settling s ≡ false) × (is_of_lines answer ≡ true)
    parts = by_lines_parts s answer h

    task : (a : TaskAt) → task_of w s ≡ Some a → refused_at_once w s ≡ None → refused_by_said (told_in w) s ≡ Some answer
    task a is once =
        let there = task_there w s a is once in
        let p = parted_task w s a there.0 is once there.1 in
        let r = refusals.1 w v s a.node a.task there.0 events answer (record { begins = once; task = is; found = there.1 }) step (lines_refusal answer parts.1) in
        elim r.1 [
          | inl k ↦ of_first (refused_by_said (told_in w) s) p.more answer p.says (sym p.first ∙ k.0) parts.1
          | inr k ↦ absurd (elim k [
            | inl m ↦ clash _ parts.1 (ap is_of_lines m.1)
            | inr m ↦ none_some answer None refl (of_first None ((task_service a.task).refused_after_reading w.shared _) answer (then_by_more w.shared _ a.task) m.3 parts.1)
          ])
        ]

    go : (o : Option Line) → refused_at_once w s ≡ o → refused_by_said (told_in w) s ≡ Some answer
    go (Some refusal) e =
        let r = refusals.0 w v s (events ++ answer ∷ []) refusal step e in
        let same : answer ≡ refusal = (same_last events [] answer refusal r.0).1 in
        once_said w s refusal e (sym (ap is_of_lines same) ∙ parts.1) ∙ ap Some (sym same)
    go None e = of_task (task_of w s) refl
      where
        of_task : (o : Option TaskAt) → task_of w s ≡ o → refused_by_said (told_in w) s ≡ Some answer
        of_task (Some a) is = task a is e
        of_task None is = absurd (clash _ (lines_refusal answer parts.1) (refusals.2 w v s events answer (sweep_or w s is e parts.0) e step))

-- What was said to be refused.

says_there : (said : Said) (node : List ℕ) → cause.Says is_of_lines (there_said said node)
says_there said node = cause.says_case is_of_lines (node_in node said.nodes) (λ n. None) _ (λ n. cause.says_none is_of_lines) (cause.says_some is_of_lines _ refl)

says_down : (n : SaidNode) → cause.Says is_of_lines (down_said n)
says_down n = cause.says_if is_of_lines _ _ refl

says_made : (ls : List SaidLabel) (node name : List ℕ) → cause.Says is_of_lines (made_said ls node name)
says_made ls node name = cause.says_case is_of_lines (find_said name ls) (λ l. if bytes_eq node l.node then None else Some line.BadLabel) _ (λ l. here (bytes_eq node l.node)) (cause.says_some is_of_lines _ refl)
  where
    here : (b : Bool) → cause.Says is_of_lines (if b then None else Some line.BadLabel)
    here true = cause.says_none is_of_lines
    here false = cause.says_some is_of_lines _ refl

says_new : (ls : List SaidLabel) (name : List ℕ) → cause.Says is_of_lines (new_said ls name)
says_new ls name = cause.says_case is_of_lines (find_said name ls) (λ l. Some line.BadLabel) _ (λ l. cause.says_some is_of_lines _ refl) (cause.says_if is_of_lines _ _ refl)

says_name : (ls : List SaidLabel) (node : List ℕ) (who : Named) → cause.Says is_of_lines (named_said ls node who)
says_name ls node (ByLabel label) = says_made ls node label
says_name ls node (BySerial serial) = cause.says_none is_of_lines

says_label : (s : SaidShared) (n : SaidNode) (name : List ℕ) → cause.Says is_of_lines (first_of (down_said n) (made_said s.labels n.name name))
says_label s n name = cause.says_first is_of_lines _ _ (says_down n) (says_made s.labels n.name name)

says_request : (s : SaidShared) (n : SaidNode) (request : Request) → cause.Says is_of_lines (refused_by_lines s n request)
says_request s n (Init slots blocks) = cause.says_if is_of_lines _ _ refl
says_request s n Boot = cause.says_first is_of_lines _ _ (cause.says_if is_of_lines _ _ refl) (cause.says_if is_of_lines _ _ refl)
says_request s n (StartTrans label seconds) = cause.says_first is_of_lines _ _ (says_down n) (says_new s.labels label)
says_request s n (AddBranch label other new) = cause.says_first is_of_lines _ _ (says_down n) (cause.says_first is_of_lines _ _ (says_made s.labels n.name label) (says_new s.labels new))
says_request s n (StartBranch label) = says_label s n label
says_request s n (Records label file op) = says_label s n label
says_request s n (EndBranch label) = says_label s n label
says_request s n (EndTrans label) = says_label s n label
says_request s n (AbortTrans label) = says_label s n label
says_request s n (Inquire who) = cause.says_first is_of_lines _ _ (says_down n) (says_name s.labels n.name who)
says_request s n (JoinRm label rm) = says_label s n label
says_request s n (AckEvent who rm reply) = cause.says_first is_of_lines _ _ (says_down n) (says_name s.labels n.name who)
says_request s n (GetDti who) = cause.says_first is_of_lines _ _ (says_down n) (says_name s.labels n.name who)
says_request s n (Fuse writes choice) = cause.says_none is_of_lines
says_request s n (Clock now) = cause.says_none is_of_lines
says_request s n _ = says_down n

says_other : (said : Said) (request : Request) → cause.Says is_of_lines (other_said said request)
says_other said (AddBranch label other new) = says_there said other
says_other said _ = cause.says_none is_of_lines

says_so : (said : Said) (s : Statement) → cause.Says is_of_lines (refused_by_said said s)
says_so said (At node request) = cause.says_case is_of_lines (node_in node said.nodes) (λ n. first_of (other_said said request) (refused_by_lines said.shared n request)) _
    (λ n. cause.says_first is_of_lines _ _ (says_other said request) (says_request said.shared n request)) (cause.says_some is_of_lines _ refl)
says_so said (Deliver number) = cause.says_case is_of_lines (message_at number said.shared.wire) (λ m. at_said said m.to down_said) _
    (λ m. cause.says_case is_of_lines (node_in m.to said.nodes) down_said _ says_down (cause.says_some is_of_lines _ refl)) (cause.says_some is_of_lines _ refl)
says_so said (LinkDown a b) = cause.says_first is_of_lines _ _ (says_there said a) (says_there said b)
says_so said Settle = cause.says_none is_of_lines

-- a refusal at once is such a refusal, or nothing was said
once_or : (w : World) (s : Statement) (refusal : Line) → refused_at_once w s ≡ Some refusal → (is_of_lines refusal ≡ true) ⊎ (refused_by_said (told_in w) s ≡ None)
once_or w (At node request) refusal e = inl ((says_so (told_in w) (At node request)).says refusal (once_at w node request refusal e))
once_or w (Deliver number) refusal e = inl ((says_so (told_in w) (Deliver number)).says refusal (once_delivered w number refusal e))
once_or w Settle refusal e = let no : ⊥ = cc in absurd no
once_or w (LinkDown a b) refusal e = go (named_node w a) (named_node w b) (bytes_eq a b) refl refl e
  where
    named : (node : List ℕ) → cause.Says is_of_lines (named_node w node)
    named node = cause.says_case is_of_lines (find_node node w.nodes) (λ n. None) _ (λ n. cause.says_none is_of_lines) (cause.says_some is_of_lines _ refl)

    go : (x y : Option Line) (t : Bool) → named_node w a ≡ x → named_node w b ≡ y → first_of x (first_of y (refused_if t line.BadParameter)) ≡ Some refusal → (is_of_lines refusal ≡ true) ⊎ (refused_by_said (told_in w) (LinkDown a b) ≡ None)
    go (Some other) y t p q k = inl ((named a).says refusal (p ∙ k))
    go None (Some other) t p q k = inl ((named b).says refusal (q ∙ k))
    go None None t p q k = inr (λ i. first_of ((there_so w a ∙ p) i) ((there_so w b ∙ q) i))

-- nothing was said of a sweep that is not refused at once
nothing_swept : (w : World) (s : Statement) → task_of w s ≡ None → refused_at_once w s ≡ None → refused_by_said (told_in w) s ≡ None
nothing_swept w (At node (Clock now)) none once = go (find_node node w.nodes) refl
  where
    go : (o : Option Node) → find_node node w.nodes ≡ o → refused_by_said (told_in w) (At node (Clock now)) ≡ None
    go (Some n) found = said_at w node (Clock now) n once found
    go None found = absurd (none_some line.NoSuchNode _ once (ap (λ o. first_of o (other_node w (Clock now))) (named_none w node found)))
nothing_swept w (LinkDown a b) none once = go (named_node w a) (named_node w b) (bytes_eq a b) refl refl once
  where
    go : (x y : Option Line) (t : Bool) → named_node w a ≡ x → named_node w b ≡ y → first_of x (first_of y (refused_if t line.BadParameter)) ≡ None → refused_by_said (told_in w) (LinkDown a b) ≡ None
    go (Some other) y t p q k = let no : ⊥ = cc in absurd no
    go None (Some other) t p q k = let no : ⊥ = cc in absurd no
    go None None t p q k = λ i. first_of ((there_so w a ∙ p) i) ((there_so w b ∙ q) i)
nothing_swept w Settle none once = refl
nothing_swept w (Deliver number) none once = go (message_at number w.shared.wire) none once
  where
    go : (o : Option Message) → option_map {U = TaskAt} (λ m. record { node = m.to; task = Takes m }) o ≡ None → (elim o as (λ x. Option Line) [ Some m ↦ named_node w m.to | None ↦ Some line.NoSuchMessage ]) ≡ None → refused_by_said (told_in w) (Deliver number) ≡ None
    go (Some m) e k = let no : ⊥ = cc in absurd no
    go None e k = let no : ⊥ = cc in absurd no
nothing_swept w (At node _) none once = let no : ⊥ = cc in absurd no

of_lines : (s : Statement) (refusal : Line) (said : Said) → refused_by_said said s ≡ Some refusal → is_by_lines s refusal ≡ true
of_lines (At node request) refusal said e = (says_so said (At node request)).says refusal e
of_lines (Deliver number) refusal said e = (says_so said (Deliver number)).says refusal e
of_lines (LinkDown a b) refusal said e = (says_so said (LinkDown a b)).says refusal e
of_lines Settle refusal said e = let no : ⊥ = cc in absurd no

said_refused_so : (w v : World) (s : Statement) (events : List Line) (answer refusal : Line) → Step w s (events ++ answer ∷ []) v → refused_by_said (told_in w) s ≡ Some refusal → (events ≡ []) × (answer ≡ refusal) × (is_by_lines s refusal ≡ true)
said_refused_so w v s events answer refusal step said = go (refused_at_once w s) refl
  where
    alone : (other : Line) → other ≡ refusal → events ++ answer ∷ [] ≡ other ∷ [] → (events ≡ []) × (answer ≡ refusal) × (is_by_lines s refusal ≡ true)
    alone other is shows = let parts = same_last events [] answer other shows in (parts.0, parts.1 ∙ is, of_lines s refusal (told_in w) said)

    of_task : (o : Option TaskAt) → task_of w s ≡ o → refused_at_once w s ≡ None → (events ≡ []) × (answer ≡ refusal) × (is_by_lines s refusal ≡ true)
    of_task (Some a) is once =
        let there = task_there w s a is once in
        let p = parted_task w s a there.0 is once there.1 in
        let r = successes.0 w v s a.node a.task there.0 (events ++ answer ∷ []) (record { begins = once; task = is; found = there.1 }) step in
        alone refusal refl (r.0 refusal (p.first ∙ first_stands (refused_by_said (told_in w) s) p.more refusal said)).0
    of_task None is once = absurd (none_some refusal _ (nothing_swept w s is once) said)

    go : (o : Option Line) → refused_at_once w s ≡ o → (events ≡ []) × (answer ≡ refusal) × (is_by_lines s refusal ≡ true)
    go (Some other) e = elim (once_or w s other e) [
      | inl h ↦ alone other (some_is other refusal (sym (once_said w s other e h) ∙ said)) (refusals.0 w v s (events ++ answer ∷ []) other step e).0
      | inr none ↦ absurd (none_some refusal _ none said)
    ]
    go None e = of_task (task_of w s) refl e

-- Of a transcript.

-- the world in which some of the entries ended
earlier : (opening closing : World) (after before : List Entry) → Legal opening (after ++ before) closing → (w : World) × Legal opening before w
earlier opening closing [] before legal = (closing, legal)
earlier opening closing (e ∷ after) before legal = earlier opening legal.0 after before legal.1

pub said_is_so : SaidIsSo
said_is_so nodes disks es closing opening legal before s events answer there =
    let r = earlier (opened nodes disks) closing there.after (there.entry ∷ before) (subst (λ es. Legal (opened nodes disks) es closing) there.stands legal) in
    let l = r.1 in
    let w = l.0 in
    let step : Step w s (events ++ answer ∷ []) r.0 = subst (λ lines. Step w s lines r.0) there.shown (subst (λ reading. LineTurn w reading there.entry.lines r.0) there.said l.2) in
    let told = (legal_told nodes disks w before opening l.1).0 in (
      λ h. subst (λ said. refused_by_said said s ≡ Some answer) told (answer_said_so w r.0 s events answer step h),
      λ refusal said. said_refused_so w r.0 s events answer refusal step (subst (λ x. refused_by_said x s ≡ Some refusal) (sym told) said),
    )
