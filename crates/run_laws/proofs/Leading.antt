-- Messages by which a branch is brought into a transaction, or to its vote, are of none that is a first one.
use Rattle.run_said.specs.log_laws.Slots.{slot_records}
use Rattle.std.proofs.Common.{◌≡◌, ℕ, zero, suc, ◌⊎◌, List, [], ◌∷◌, ◌++◌, map, take, inl, inr, Bool, true, false, Option, Some, None, if◌then◌else◌, refl, sym, ◌∙◌, ap, subst}
use Rattle.std.specs.Prelude.{nat_lt, length}
use Rattle.std.specs.Option.{option_map, option_and_then}
use Rattle.vms_model.specs.Ids.{Id}
use Rattle.vms_model.specs.Keys.{Key}
use Rattle.vms_model.specs.Transactions.{Aborted}
use Rattle.vms_model.specs.Limits.{message_limit}
use Rattle.run_said.specs.transcript_model.Lines as line
use Rattle.run_said.specs.transcript_model.Lines.{Line}
use Rattle.run_said.specs.script_model.Statements.{Statement, At, Deliver, LinkDown, Settle, Operation, Request, Init, Boot, Create, SetFile, StartTrans, AddBranch, StartBranch, Records, Direct, EndBranch, EndTrans, AbortTrans, Inquire, DeclareRm, JoinRm, AckEvent, ForgetRm, GetDti, LmcpShow, LmcpDump, Dump, DumpJournal, DumpImages, Backup, Recover, Fuse, Crash, Clock, Reading, Blank, Says, Bad}
use Rattle.unit_laws.specs.records_model.Records.{Change}
use Rattle.commit_protocol.specs.Messages as message
use Rattle.commit_protocol.specs.Messages.{Message, Name, Reply}
use Rattle.commit_protocol.specs.Table as table
use Rattle.commit_protocol.specs.Table.{Branch, Child, Sends, Key as BranchKey}
use Rattle.commit_protocol.specs.Rows as rows
use Rattle.commit_protocol.specs.Rows.{Event, row}
use Rattle.commit_protocol.specs.Allowed.{is_prepared}
use Rattle.commit_protocol.specs.World.{In, undo_all}
use Rattle.commit_protocol.proofs.Lists.{in_parts, slice_in}
use Rattle.run_said.specs.run_model.World as world
use Rattle.run_said.specs.run_model.World.{World, Shared, Node, Act, DiskCounts, Label, Tables, acted, find_node, next_id, next_moment, posted, shared_after, shared_tabled, tm_of}
use Rattle.run_said.specs.run_model.Answers as answers
use Rattle.run_said.specs.run_model.Answers.{Row, Service, Task, Serves, Ticks, Takes, Hears, LosesLink, RunsDown, Restarts, begins, branch_labelled, branch_named, just, powers, refused_before_reading, service, silent, table_rows, task_service, told_if, told_rows}
use Rattle.run_said.specs.run_model.Steps.{Choice, Cut, Unpowered, Whole, WithoutMemory, TaskAllowed, begun, ready_node, rows_if, rows_to_cut, shared_after_rows, shared_then, task_effect, whole}
use Rattle.run_said.specs.run_model.Statements.{Part, Does, Asks, PartEffect, Question, Heard, Unanswered, Doubtful, Begins, Phase, Phases, Step, Allowed, RoseAt, begun_with, done_at, message_at, named_node, no_node, part_effect, phases_of, put_into, question, refused_at_once, stops_at}
use Rattle.run_said.specs.run_model.StepLaws.{TaskAt, asked_by, task_of, task_of_part}
use Rattle.run_said.specs.run_model.Transcript.{Entry, Turn as LineTurn}
use Rattle.run_said.proofs.run_model.NodeLists.{some_is}
use Rattle.run_said.proofs.run_model.PartLemmas.{EachPart, EachPhase, allowed_here, done_here, phases_fold}
use Rattle.run_said.proofs.run_model.PartTasks.{View, Doing, Fixed, each_up, view}
use Rattle.run_said.proofs.run_model.Refusing.{not_ready}
use Rattle.run_said.proofs.run_model.TaskLemmas.{effect_name}
use Rattle.run_laws.proofs.Contents.{IsTold}
use Rattle.run_laws.proofs.Drawing.{next_new}
use Rattle.run_laws.proofs.EffectsTell.{effect_step}
use Rattle.run_laws.proofs.Labelling.{found_label, labelled_is}
use Rattle.run_laws.proofs.Named.{Ended, Refused, Turned, Named, ended}
use Rattle.run_laws.proofs.Preparing.{AllTell, PreparesBy, SendsBy, Tells, is_leading, row_tells}
use Rattle.run_laws.proofs.Told.{IsApart}
use Rattle.run_laws.proofs.ToldParts.{IsThinPart, Thins, found_after, link_phases, part_thins, settle_phases}
use Rattle.run_laws.proofs.TurnsTell.{HaveSteps, found_step, put_step}
use Rattle.recovery_laws.proofs.world_laws.FileRows.{images_by, recovers_by, saves_by, sets_by}

-- What the acts of rows send.

abbrev pub SendsIn : Option Act → Type 0
SendsIn (Some (Tables (Sends m) moment)) = IsApart m
SendsIn _ = Unit {0}

abbrev pub AllSend : List Row → Type 0
AllSend [] = Unit {0}
AllSend (r ∷ rs) = SendsIn r.act × AllSend rs

take_sends : (j : ℕ) (rs : List Row) → AllSend rs → AllSend (take j rs)
take_sends zero rs h = tt
take_sends (suc j) [] h = tt
take_sends (suc j) (r ∷ rs) h = (h.0, take_sends j rs h.1)

cut_sends : (o : Option Line) (rs : List Row) → AllSend rs → AllSend (rows_if o rs)
cut_sends (Some refusal) rs h = tt
cut_sends None rs h = h

posts : (m : Message) (wire : List Message) (x : Message) → In x (posted m wire) → In x wire ⊎ (x ≡ m)
posts m wire x = go (nat_lt (length wire) message_limit)
  where
    go : (b : Bool) → In x (if b then wire ++ m ∷ [] else wire) → In x wire ⊎ (x ≡ m)
    go true i = elim (in_parts x wire (m ∷ []) i) [ inl old ↦ inl old | inr new ↦ elim new [ inl same ↦ inr same | inr none ↦ absurd none ] ]
    go false i = inl i

tabled_wire : (a : table.Act) (moment : ℕ) (s : Shared) (x : Message) → SendsIn (Some (Tables a moment)) → In x (shared_tabled a s).wire → In x s.wire ⊎ IsApart x
tabled_wire (Sends m) moment s x h i = elim (posts m s.wire x i) [ inl old ↦ inl old | inr same ↦ inr (subst IsApart (sym same) h) ]
tabled_wire _ moment s x h i = inl i

act_wire : (o : Option Act) (s : Shared) (x : Message) → SendsIn o → In x (shared_then o s).wire → In x s.wire ⊎ IsApart x
act_wire None s x h i = inl i
act_wire (Some (Tables a moment)) s x h i = tabled_wire a moment s x h i
act_wire (Some _) s x h i = inl i

rows_wire : (rs : List Row) (s : Shared) (x : Message) → AllSend rs → In x (shared_after_rows rs s).wire → In x s.wire ⊎ IsApart x
rows_wire [] s x h i = inl i
rows_wire (r ∷ rs) s x h i = elim (rows_wire rs (shared_then r.act s) x h.1 i) [ inl j ↦ act_wire r.act s x h.0 j | inr apart ↦ inr apart ]

-- Rows of tasks.

-- no unprepared branch of a node has accepted its transaction's first one
abbrev pub AcceptsOthers : Node → Type 0
AcceptsOthers n = (b : Branch) → In b n.volatile.branches → is_prepared b.state ≡ false → (c : Child) → In c b.accepted → c.serial ≡ b.key.tid → ⊥

abbrev pub NeverBegins : Event → Type 0
NeverBegins e = (t x bid : Id) → e ≡ rows.Begin t x bid → ⊥

sends_of : (todo : List table.Act) (u : Shared) (m : Node) (S : Message → Type 0) (Q : Branch → Type 0) → AllTell S Q todo → ((x : Message) → S x → IsApart x) → AllSend (table_rows todo u m)
sends_of [] u m S Q h f = tt
sends_of (a ∷ todo) u m S Q h f = (one a h.0, sends_of todo (shared_after (Tables a (next_moment m)) u) (acted (Tables a (next_moment m)) m) S Q h.1 f)
  where
    one : (a : table.Act) → Tells S Q a → SendsIn (Some (Tables a (next_moment m)))
    one (Sends x) s = f x s
    one _ s = tt

event_sends : (n : Node) → AcceptsOthers n → (e : Event) → NeverBegins e → (u : Shared) (m : Node) → AllSend (table_rows (row (tm_of n) e) u m)
event_sends n others e never u m = sends_of (row (tm_of n) e) u m (SendsBy n.volatile.branches e) (PreparesBy n.volatile.branches e) (row_tells (tm_of n) e) (λ x s leading same. by x s (x.kind) refl leading same)
  where
    by : (x : Message) → SendsBy n.volatile.branches e x → (kind : message.Kind) → x.kind ≡ kind → is_leading x.kind ≡ true → x.serial ≡ x.tid → ⊥
    by x s message.Join is leading same = let j = s.0 is in never x.tid x.serial j.0 j.1
    by x s message.Prepare is leading same = let b = s.1 is in others b.0 b.1 b.2 b.4.0 b.4.1 (sym b.4.2 ∙ same ∙ b.3)
    by x s message.JoinOk is leading same = let clash : true ≡ false = sym leading ∙ ap is_leading is in let no : ⊥ = cc in no
    by x s message.JoinNo is leading same = let clash : true ≡ false = sym leading ∙ ap is_leading is in let no : ⊥ = cc in no
    by x s message.Yes is leading same = let clash : true ≡ false = sym leading ∙ ap is_leading is in let no : ⊥ = cc in no
    by x s message.ReadOnly is leading same = let clash : true ≡ false = sym leading ∙ ap is_leading is in let no : ⊥ = cc in no
    by x s message.No is leading same = let clash : true ≡ false = sym leading ∙ ap is_leading is in let no : ⊥ = cc in no
    by x s message.Commit is leading same = let clash : true ≡ false = sym leading ∙ ap is_leading is in let no : ⊥ = cc in no
    by x s message.Abort is leading same = let clash : true ≡ false = sym leading ∙ ap is_leading is in let no : ⊥ = cc in no
    by x s message.Ack is leading same = let clash : true ≡ false = sym leading ∙ ap is_leading is in let no : ⊥ = cc in no
    by x s message.Inquire is leading same = let clash : true ≡ false = sym leading ∙ ap is_leading is in let no : ⊥ = cc in no

undone_sends : (ks : List BranchKey) (s : Shared) (n : Node) → AllSend (table_rows (undo_all ks) s n)
undone_sends [] s n = tt
undone_sends (k ∷ ks) s n = (tt, undone_sends ks (shared_after (Tables (table.Undoes k) (next_moment n)) s) (acted (Tables (table.Undoes k) (next_moment n)) n))

created_sends : (n : Node) (made : ℕ → world.File) (need : ℕ) → AllSend (answers.creates n made need)
created_sends n made need = go (world.free_place n.durable.directory)
  where
    at : (place : ℕ) (o : Option ℕ) → AllSend (elim o [ Some start ↦ record { act = Some (world.Creates place (made start)); lines = [] } ∷ [] | None ↦ [] ])
    at place (Some start) = (tt, tt)
    at place None = tt

    go : (o : Option ℕ) → AllSend (elim o [ Some place ↦ elim (world.lowest_free n need) [ Some start ↦ record { act = Some (world.Creates place (made start)); lines = [] } ∷ [] | None ↦ [] ] | None ↦ [] ])
    go (Some place) = at place (world.lowest_free n need)
    go None = tt

operated_sends : (n : Node) (file : List ℕ) (op : Operation) (b : Branch) → AllSend (answers.operated n file op b ∷ [])
operated_sends n file op b = go (answers.changes_at n file op)
  where
    go : (cs : List Change) → AllSend (silent (answers.operation_act b file cs (answers.keys_at n file op)) ∷ [])
    go [] = (tt, tt)
    go (c ∷ cs) = (tt, tt)

directed_sends : (n : Node) (file : List ℕ) (cs : List Change) → AllSend (answers.directed n file cs)
directed_sends n file [] = tt
directed_sends n file (c ∷ cs) = (tt, tt)

lines_send : (ls : List Line) → AllSend (map answers.shown_line ls)
lines_send [] = tt
lines_send (l ∷ ls) = (tt, lines_send ls)

records_send : (es : List (Key × List ℕ)) → AllSend (map answers.shown_record es)
records_send [] = tt
records_send (e ∷ es) = (tt, records_send es)

branch_sends : (o : Option Branch) (does : Branch → List Row) → ((b : Branch) → AllSend (does b)) → AllSend (elim o [ Some b ↦ does b | None ↦ [] ])
branch_sends (Some b) does h = h b
branch_sends None does h = tt

begins_send : (s : Shared) (n : Node) (o : Option Label) → ((l : Label) → o ≡ Some l → l.tid ≡ next_id n → ⊥) → AllSend (told_if s n (option_and_then (begins n) o))
begins_send s n None h = tt
begins_send s n (Some l) h = go l.bid
  where
    go : (o : Option Id) → AllSend (told_if s n (option_map (λ bid. let t : answers.Telling = record { before = world.Draws ∷ world.Numbers l.name (next_id n) ∷ []; event = rows.Begin l.tid (next_id n) bid } in t) o))
    go None = tt
    go (Some bid) = (tt, (tt, (tt, ((λ leading same. h l refl (sym same)), tt))))

asked_sends : (s : Shared) (n : Node) → AcceptsOthers n → (o : Option Branch) → AllSend (told_if s n (option_map (λ (b : Branch). just (rows.InquireBranch b.key.serial)) o))
asked_sends s n others (Some b) = event_sends n others (rows.InquireBranch b.key.serial) (λ t x bid e. let no : ⊥ = cc in no) s n
asked_sends s n others None = tt

replied_sends : (s : Shared) (n : Node) → AcceptsOthers n → (rm : Name) (reply : Reply) (o : Option Id) → AllSend (told_if s n (option_map (λ serial. just (rows.Replied serial rm reply)) o))
replied_sends s n others rm reply (Some serial) = event_sends n others (rows.Replied serial rm reply) (λ t x bid e. let no : ⊥ = cc in no) s n
replied_sends s n others rm reply None = tt

-- a label that a branch takes at this node is of a transaction with another id
abbrev pub BeginsOthers : Shared → Node → Task → Type 0
BeginsOthers s n (Serves (StartBranch label)) = (l : Label) → world.labelled n.name label s.labels ≡ Some l → l.tid ≡ next_id n → ⊥
BeginsOthers s n _ = Unit {0}

request_sends : (s : Shared) (n : Node) (r : Request) → (powers (service r) ≡ true) ⊎ (AcceptsOthers n × BeginsOthers s n (Serves r)) → AllSend ((service r).rows s n)
request_sends s n (Init slots journal) h = tt
request_sends s n Boot h = (tt, undone_sends _ s (acted world.Boots n))
request_sends s n r (inl on) = powered r on
  where
    powered : (r : Request) → powers (service r) ≡ true → AllSend ((service r).rows s n)
    powered (Init slots journal) e = tt
    powered Boot e = (tt, undone_sends _ s (acted world.Boots n))
    powered _ e = let no : ⊥ = cc in absurd no
request_sends s n r (inr (others, labels)) = go r labels
  where
    go : (r : Request) → BeginsOthers s n (Serves r) → AllSend ((service r).rows s n)
    go (Init slots journal) h = tt
    go Boot h = (tt, undone_sends _ s (acted world.Boots n))
    go (Create file bucket size form) h = created_sends n _ _
    go (SetFile file setting) h = sets_by AllSend tt n file setting (λ mark. (tt, tt))
    go (StartTrans label seconds) h = (tt, (tt, (tt, tt)))
    go (AddBranch label other new) h = branch_sends (branch_labelled s n label) (λ b. told_rows s n (answers.adds n other new b)) (λ b. (tt, (tt, event_sends n others (rows.Authorise b.key.tid (next_id n)) (λ t x bid e. let no : ⊥ = cc in no) _ (acted (world.Labels (record { name = new; node = other; tid = b.key.tid; bid = Some (next_id n); serial = None })) (acted world.Draws n)))))
    go (StartBranch label) h = begins_send s n (world.labelled n.name label s.labels) h
    go (Records label file op) h = branch_sends (branch_labelled s n label) (λ b. answers.operated n file op b ∷ []) (λ b. operated_sends n file op b)
    go (Direct file op) h = directed_sends n file (answers.changes_at n file op)
    go (EndBranch label) h = branch_sends (branch_labelled s n label) (λ b. told_rows s n (just (rows.EndBranch b.key.serial))) (λ b. event_sends n others (rows.EndBranch b.key.serial) (λ t x bid e. let no : ⊥ = cc in no) s n)
    go (EndTrans label) h = branch_sends (branch_labelled s n label) (λ b. told_rows s n (just (rows.EndTrans b.key.tid))) (λ b. event_sends n others (rows.EndTrans b.key.tid) (λ t x bid e. let no : ⊥ = cc in no) s n)
    go (AbortTrans label) h = branch_sends (branch_labelled s n label) (λ b. told_rows s n (just (rows.AbortBranch b.key.serial Aborted))) (λ b. event_sends n others (rows.AbortBranch b.key.serial Aborted) (λ t x bid e. let no : ⊥ = cc in no) s n)
    go (Inquire who) h = asked_sends s n others (branch_named s n who)
    go (DeclareRm rm) h = (tt, tt)
    go (JoinRm label rm) h = branch_sends (branch_labelled s n label) (λ b. told_rows s n (just (rows.JoinRm b.key.serial rm))) (λ b. event_sends n others (rows.JoinRm b.key.serial rm) (λ t x bid e. let no : ⊥ = cc in no) s n)
    go (AckEvent who rm reply) h = replied_sends s n others rm reply (answers.serial_named s n who)
    go (ForgetRm rm) h = (tt, tt)
    go (GetDti who) h = tt
    go LmcpShow h = tt
    go LmcpDump h = lines_send (map answers.log_line (slot_records 0 n.durable.log))
    go (Dump file) h = records_send (answers.records_of n file)
    go DumpJournal h = lines_send (answers.entry_lines n.durable.units.first n.durable.units.entries)
    go (DumpImages file side) h = images_by AllSend tt n file side (λ ls a. lines_send ls)
    go (Backup file) h = saves_by AllSend tt n file (λ start. (tt, tt))
    go (Recover file way) h = recovers_by AllSend tt n file way (λ start buckets m. (tt, tt))
    go (Fuse writes choice) h = (tt, tt)
    go Crash h = (tt, tt)
    go (Clock now) h = (tt, tt)

pub task_sends : (s : Shared) (n : Node) (t : Task) → (powers (task_service t) ≡ true) ⊎ (AcceptsOthers n × BeginsOthers s n t) → AllSend ((task_service t).rows s n)
task_sends s n (Serves r) h = request_sends s n r h
task_sends s n Restarts h = (tt, undone_sends _ s (acted world.Boots n))
task_sends s n t (inl on) = powered t on
  where
    powered : (t : Task) → powers (task_service t) ≡ true → AllSend ((task_service t).rows s n)
    powered (Serves r) e = request_sends s n r (inl e)
    powered Restarts e = (tt, undone_sends _ s (acted world.Boots n))
    powered _ e = let no : ⊥ = cc in absurd no
task_sends s n t (inr (others, labels)) = go t labels
  where
    go : (t : Task) → BeginsOthers s n t → AllSend ((task_service t).rows s n)
    go (Serves r) h = request_sends s n r (inr (others, h))
    go Ticks h = event_sends n others (rows.Clock n.clock) (λ t x bid e. let no : ⊥ = cc in no) s n
    go (Takes m) h = event_sends n others (rows.Got m) (λ t x bid e. let no : ⊥ = cc in no) s n
    go (Hears m) h = (tt, event_sends n others (rows.Got m) (λ t x bid e. let no : ⊥ = cc in no) s n)
    go (LosesLink other) h = event_sends n others (rows.LinkDown other) (λ t x bid e. let no : ⊥ = cc in no) s n
    go RunsDown h = event_sends n others rows.RunDown (λ t x bid e. let no : ⊥ = cc in no) s n
    go Restarts h = (tt, undone_sends _ s (acted world.Boots n))

-- What a task sends.
pub effect_wire : (s : Shared) (stops : ℕ) (n : Node) (t : Task) (c : Choice) → AcceptsOthers n → BeginsOthers s n t → (x : Message) → In x (task_effect s stops n t c).shared.wire → In x s.wire ⊎ IsApart x
effect_wire s stops n t c others labels x i = by c i
  where
    sends : (o : world.Outturn) → AllSend ((task_service t).rows s (ready_node o stops (task_service t) n))
    sends o = go (powers (task_service t)) refl
      where
        go : (b : Bool) → powers (task_service t) ≡ b → AllSend ((task_service t).rows s (ready_node o stops (task_service t) n))
        go true on = task_sends s (ready_node o stops (task_service t) n) t (inl on)
        go false off = subst (λ m. AllSend ((task_service t).rows s m)) (sym (not_ready o stops (task_service t) n off)) (task_sends s n t (inr (others, labels)))

    closing_wire : (t : Task) (u : Shared) → In x (shared_then (task_service t).closing u).wire → In x u.wire
    closing_wire (Serves r) u i = request r i
      where
        request : (r : Request) → In x (shared_then (service r).closing u).wire → In x u.wire
        request (Init slots journal) i = i
        request Boot i = i
        request _ i = i
    closing_wire Restarts u i = i
    closing_wire _ u i = i

    by : (c : Choice) → In x (task_effect s stops n t c).shared.wire → In x s.wire ⊎ IsApart x
    by (Whole o) i = first (refused_before_reading s n (task_service t)) i
      where
        ready : Node
        ready = ready_node o stops (task_service t) n

        late : (q : Option Line) → In x (begun s ready (task_service t) q).shared.wire → In x s.wire ⊎ IsApart x
        late (Some refusal) j = inl j
        late None j = rows_wire ((task_service t).rows s ready) s x (sends o) (closing_wire t (shared_after_rows ((task_service t).rows s ready) s) j)

        first : (q : Option Line) → In x (whole s n ready (task_service t) q).shared.wire → In x s.wire ⊎ IsApart x
        first (Some refusal) j = inl j
        first None j = late ((task_service t).refused_after_reading s ready) j
    by WithoutMemory i = inl i
    by Unpowered i = inl i
    by (Cut o j b cause) i =
        let ready = ready_node o stops (task_service t) n in
        rows_wire (take j (rows_to_cut s ready (task_service t))) s x (take_sends j (rows_to_cut s ready (task_service t)) (cut_sends ((task_service t).refused_after_reading s ready) ((task_service t).rows s ready) (sends o))) i

-- the message that a statement tells a node was sent
pub taken : (w : World) (s : Statement) (node : List ℕ) (n : Node) (t : Task) (m : Message) → task_of w s ≡ Some (record { node = node; task = t }) → IsTold w.shared n t (rows.Got m) → In m w.shared.wire
taken w s node n t m e told = by t e told
  where
    there : (number : ℕ) (x : Message) → message_at number w.shared.wire ≡ Some x → In x w.shared.wire
    there zero x f = let no : ⊥ = cc in absurd no
    there (suc i) x f = slice_in w.shared.wire i x f

    delivered : (s : Statement) (x : Message) → task_of w s ≡ Some (record { node = node; task = Takes x }) → In x w.shared.wire
    delivered (At other (Clock now)) x f = let no : ⊥ = cc in absurd no
    delivered (At other request) x f = let clash : Serves request ≡ Takes x = ap (λ (a : TaskAt). a.task) (some_is _ _ f) in let no : ⊥ = cc in absurd no
    delivered (Deliver number) x f = go (message_at number w.shared.wire) refl f
      where
        go : (o : Option Message) → message_at number w.shared.wire ≡ o → option_map {U = TaskAt} (λ y. record { node = y.to; task = Takes y }) o ≡ Some (record { node = node; task = Takes x }) → In x w.shared.wire
        go (Some y) is g = let same : Takes y ≡ Takes x = ap (λ (a : TaskAt). a.task) (some_is _ _ g) in let one : y ≡ x = cc in subst (λ z. In z w.shared.wire) one (there number y is)
        go None is g = let no : ⊥ = cc in absurd no
    delivered (LinkDown a b) x f = let no : ⊥ = cc in absurd no
    delivered Settle x f = let no : ⊥ = cc in absurd no

    never_hears : (s : Statement) (x : Message) → task_of w s ≡ Some (record { node = node; task = Hears x }) → ⊥
    never_hears (At other (Clock now)) x f = cc
    never_hears (At other request) x f = let clash : Serves request ≡ Hears x = ap (λ (a : TaskAt). a.task) (some_is _ _ f) in let no : ⊥ = cc in no
    never_hears (Deliver number) x f = go (message_at number w.shared.wire) f
      where
        go : (o : Option Message) → option_map {U = TaskAt} (λ y. record { node = y.to; task = Takes y }) o ≡ Some (record { node = node; task = Hears x }) → ⊥
        go (Some y) g = let clash : Takes y ≡ Hears x = ap (λ (a : TaskAt). a.task) (some_is _ _ g) in let no : ⊥ = cc in no
        go None g = cc
    never_hears (LinkDown a b) x f = cc
    never_hears Settle x f = cc

    by : (t : Task) → task_of w s ≡ Some (record { node = node; task = t }) → IsTold w.shared n t (rows.Got m) → In m w.shared.wire
    by (Serves (EndTrans label)) f h = let no : rows.Got m ≡ rows.EndTrans h.0.key.tid = h.2 in let none : ⊥ = cc in absurd none
    by (Serves (AddBranch label other new)) f h = let no : rows.Got m ≡ rows.Authorise h.0.key.tid (next_id n) = h.2 in let none : ⊥ = cc in absurd none
    by (Serves (EndBranch label)) f h = let no : rows.Got m ≡ rows.EndBranch h.0.key.serial = h.1 in let none : ⊥ = cc in absurd none
    by (Serves (AbortTrans label)) f h = let no : rows.Got m ≡ rows.AbortBranch h.0.key.serial Aborted = h.1 in let none : ⊥ = cc in absurd none
    by (Serves (Inquire who)) f h = let no : rows.Got m ≡ rows.InquireBranch h.0.key.serial = h.1 in let none : ⊥ = cc in absurd none
    by (Serves (JoinRm label rm)) f h = let no : rows.Got m ≡ rows.JoinRm h.0.key.serial rm = h.1 in let none : ⊥ = cc in absurd none
    by (Serves (AckEvent who rm reply)) f h = let no : rows.Got m ≡ rows.Replied h.0 rm reply = h.1 in let none : ⊥ = cc in absurd none
    by (Serves _) f h = absurd h
    by Ticks f h = let no : ⊥ = cc in absurd no
    by (Takes x) f h = let one : m ≡ x = cc in subst (λ z. In z w.shared.wire) (sym one) (delivered s x f)
    by (Hears x) f h = absurd (never_hears s x f)
    by (LosesLink other) f h = let no : ⊥ = cc in absurd no
    by RunsDown f h = let no : ⊥ = cc in absurd no
    by Restarts f h = absurd h

-- Worlds.

-- all messages are so; and no unprepared branch has accepted its transaction's first one
abbrev pub AreApart : World → Type 0
AreApart w = (x : Message) → In x w.shared.wire → IsApart x

abbrev pub AcceptOthers : World → Type 0
AcceptOthers w = (node : List ℕ) (n : Node) → find_node node w.nodes ≡ Some n → AcceptsOthers n

part_apart : (w : World) (p : Part) (c : Choice) → ((node : List ℕ) (n : Node) (t : Task) → task_of_part w p ≡ Some (record { node = node; task = t }) → find_node node w.nodes ≡ Some n → BeginsOthers w.shared n t) → AcceptOthers w → AreApart w → AreApart (part_effect w p c).world
part_apart w p c labels others apart x i = go (view w p)
  where
    go : View w p → IsApart x
    go (Fixed answer ends kind is) = apart x (subst (λ (e : PartEffect). In x e.world.shared.wire) (is c) i)
    go (Doing node t n named found does may) = elim (effect_wire w.shared (stops_at node w) n t c (others node n found) (labels node n t named found) x (subst (λ (e : PartEffect). In x e.world.shared.wire) (does c) i)) [ inl old ↦ apart x old | inr new ↦ new ]

-- A statement of more than one part.

thins_others : (w v : World) → Thins w v → AcceptOthers w → AcceptOthers v
thins_others w v f others node m found b i u c j same =
    let x = f.node node m found in
    let y = (x.3 b i u).0 in
    let d = y.3.accepted c j in
    others node x.0 x.1 y.0 y.1 y.2 d.0 d.1 (d.2 ∙ same ∙ ap (λ (k : BranchKey). k.tid) y.3.key)

-- a clock that is set
clock_volatile : (s : Shared) (stops : ℕ) (n : Node) (now : ℕ) (rises : line.Cause → Type 0) (c : Choice) → TaskAllowed s stops n (Serves (Clock now)) rises c → (task_effect s stops n (Serves (Clock now)) c).node.volatile ≡ n.volatile
clock_volatile s stops n now rises (Whole o) may = go (refused_before_reading s n (service (Clock now)))
  where
    late : (q : Option Line) → (begun s n (service (Clock now)) q).node.volatile ≡ n.volatile
    late (Some refusal) = refl
    late None = refl

    go : (q : Option Line) → (whole s n n (service (Clock now)) q).node.volatile ≡ n.volatile
    go (Some refusal) = refl
    go None = late ((service (Clock now)).refused_after_reading s n)
clock_volatile s stops n now rises WithoutMemory may = refl
clock_volatile s stops n now rises Unpowered may = let no : false ≡ true = may.1 in let none : ⊥ = cc in absurd none
clock_volatile s stops n now rises (Cut o j b cause) may = let no : false ≡ true = may.1 in let none : ⊥ = cc in absurd none

-- a thin part, or one that sets a clock
abbrev IsSweep : Part → Type 0
IsSweep p = IsThinPart p ⊎ ((node : List ℕ) × (now : ℕ) × (p ≡ Does node (Serves (Clock now))))

sweep_labels : (w : World) (p : Part) → IsSweep p → (node : List ℕ) (n : Node) (t : Task) → task_of_part w p ≡ Some (record { node = node; task = t }) → find_node node w.nodes ≡ Some n → BeginsOthers w.shared n t
sweep_labels w (Does other t) h node n u e found = subst (λ (a : TaskAt). BeginsOthers w.shared n a.task) (some_is _ _ e) (go t h)
  where
    of_thin : (t : Task) → IsThinPart (Does other t) → BeginsOthers w.shared n t
    of_thin Ticks h = tt
    of_thin (LosesLink x) h = tt
    of_thin RunsDown h = tt
    of_thin Restarts h = tt
    of_thin (Serves r) h = let no : ⊥ = cc in absurd no
    of_thin (Takes m) h = let no : ⊥ = cc in absurd no
    of_thin (Hears m) h = let no : ⊥ = cc in absurd no

    go : (t : Task) → IsSweep (Does other t) → BeginsOthers w.shared n t
    go t (inl h) = of_thin t h
    go t (inr r) = let same : Serves (Clock r.1) ≡ t = cc in subst (BeginsOthers w.shared n) same tt
sweep_labels w (Asks other serial) h node n u e found = hears (question w other serial) e
  where
    hears : (q : Question) → asked_by q ≡ Some (record { node = node; task = u }) → BeginsOthers w.shared n u
    hears (Heard m) f = subst (λ (a : TaskAt). BeginsOthers w.shared n a.task) (some_is _ _ f) tt
    hears Unanswered f = let no : ⊥ = cc in absurd no
    hears (Doubtful j) f = let no : ⊥ = cc in absurd no

sweep_others : (w : World) (p : Part) (c : Choice) (after : List DiskCounts) → Allowed w p after c → IsSweep p → HaveSteps w.nodes → AcceptOthers w → AcceptOthers (part_effect w p c).world × HaveSteps (part_effect w p c).world.nodes
sweep_others w p c after allowed (inl thin) steps others = let t = part_thins w p c thin steps in (thins_others w (part_effect w p c).world t.0 others, t.1)
sweep_others w p c after allowed (inr (node, now, is)) steps others = subst (λ q. AcceptOthers (part_effect w q c).world × HaveSteps (part_effect w q c).world.nodes) (sym is) (go (find_node node w.nodes) refl)
  where
    t : Task
    t = Serves (Clock now)

    go : (o : Option Node) → find_node node w.nodes ≡ o → AcceptOthers (done_at w node (Serves (Clock now)) c).world × HaveSteps (done_at w node (Serves (Clock now)) c).world.nodes
    go (Some n) found =
        let e = task_effect w.shared (stops_at node w) n (Serves (Clock now)) c in
        let may = allowed_here w node (Serves (Clock now)) n after c found (subst (λ q. Allowed w q after c) is allowed) in
        subst (λ (x : PartEffect). AcceptOthers x.world × HaveSteps x.world.nodes) (sym (done_here w node (Serves (Clock now)) n c found)) (
          λ name m there b i u d j same. elim (found_after w (put_into w node e).world node n e.node (effect_name w.shared (stops_at node w) n (Serves (Clock now)) c) found refl name m there) [
            | inl old ↦ others name m old b i u d j same
            | inr both ↦ others name n both.0 b (subst (λ (x : world.Volatile). In b x.branches) (ap (λ (x : Node). x.volatile) both.1 ∙ clock_volatile w.shared (stops_at node w) n now (λ cause. RoseAt w node cause after) c may) i) u d j same
          ],
          put_step node e.node w.nodes (effect_step w.shared (stops_at node w) n (service (Clock now)) c (found_step node w.nodes n steps found)) steps,
        )
    go None found = let none : done_at w node (Serves (Clock now)) c ≡ no_node w = rw (found, done_at) refl in subst (λ (x : PartEffect). AcceptOthers x.world × HaveSteps x.world.nodes) (sym none) (others, steps)

sweeps_apart : (disks : List DiskCounts) (ps : List Phase) → EachPhase IsSweep ps → (w : World) (given : Line) (lines : List Line) (answer : Line) (v : World) → Phases ps disks w given lines answer v → HaveSteps w.nodes → AcceptOthers w → AreApart w → AreApart v
sweeps_apart disks ps ok w given lines answer v d steps others apart = phases_fold disks IsSweep (λ g. Unit {0}) (λ u rest a x. HaveSteps u.nodes → AcceptOthers u → AreApart u → AreApart x)
    (λ u g q s o h. h)
    (λ u p c ok allowed ends s o h. part_apart u p c (sweep_labels u p ok) o h)
    (λ u p c ok allowed on. (tt, λ rest a x more s o h. let next = sweep_others u p c disks allowed ok s o in more next.1 next.0 (part_apart u p c (sweep_labels u p ok) o h)))
    ps ok w given lines answer v tt d steps others apart

each_sweep : (ps : List Part) → EachPart IsThinPart ps → EachPart IsSweep ps
each_sweep [] h = tt
each_sweep (p ∷ ps) h = (inl h.0, each_sweep ps h.1)

thin_sweeps : (ps : List Phase) → EachPhase IsThinPart ps → EachPhase IsSweep ps
thin_sweeps [] h = tt
thin_sweeps (p ∷ ps) h = (λ w. each_sweep (p w) (h.0 w), thin_sweeps ps h.1)

-- Statements.

pub step_apart : (es : List Entry) (w v : World) (s : Statement) (lines : List Line) → Named es w → HaveSteps w.nodes → AcceptOthers w → AreApart w → Step w s lines v → AreApart v
step_apart es w v s lines named steps others apart step = by_task (task_of w s) refl
  where
    at : (node : List ℕ) (t : Task) (n : Node) → task_of w s ≡ Some (record { node = node; task = t }) → find_node node w.nodes ≡ Some n → BeginsOthers w.shared n t
    at node (Serves (StartBranch label)) n is found = λ l labelled same.
        let there = found_label label w.shared.labels l (labelled_is n.name label w.shared.labels l labelled).0 in
        next_new es w node n l.tid named found (named.made l there.0).tid same
    at node (Serves _) n is found = tt
    at node _ n is found = tt

    to_v : AreApart step.world → AreApart v
    to_v h x i = h x (subst (λ (y : World). In x y.shared.wire) step.goes i)

    many : (s : Statement) → task_of w s ≡ None → (o : Option Line) → refused_at_once w s ≡ o → Begins o (Phases (phases_of s) v.disks (begun_with s w) line.Normal) w step.events step.answer step.world → AreApart v
    many s none (Some refusal) e d = to_v (λ x i. apart x (subst (λ (y : World). In x y.shared.wire) d.2 i))
    many Settle none None e d = to_v (sweeps_apart v.disks (phases_of Settle) (thin_sweeps (phases_of Settle) settle_phases) (begun_with Settle w) line.Normal step.events step.answer step.world d steps others apart)
    many (LinkDown a b) none None e d = to_v (sweeps_apart v.disks (phases_of (LinkDown a b)) (thin_sweeps (phases_of (LinkDown a b)) (link_phases a b)) w line.Normal step.events step.answer step.world d steps others apart)
    many (At node (Clock now)) none None e d = to_v (sweeps_apart v.disks (phases_of (At node (Clock now))) ((λ u. (inr (node, now, refl), tt)), (each_up IsSweep node Ticks (inl refl), tt)) w line.Normal step.events step.answer step.world d steps others apart)
    many (At node _) none None e d = let no : ⊥ = cc in absurd no
    many (Deliver number) none None e d = go (message_at number w.shared.wire) none e
      where
        go : (o : Option Message) → option_map {U = TaskAt} (λ m. record { node = m.to; task = Takes m }) o ≡ None → ◌≡◌ {A = Option Line} (elim o [ Some m ↦ named_node w m.to | None ↦ Some line.NoSuchMessage ]) None → AreApart v
        go (Some m) f q = let no : ⊥ = cc in absurd no
        go None f q = let no : ⊥ = cc in absurd no

    by_task : (o : Option TaskAt) → task_of w s ≡ o → AreApart v
    by_task (Some a) is = go (ended w v s lines a.node a.task is step)
      where
        go : Ended w v a.node a.task lines → AreApart v
        go (Refused refusal f shows goes) = λ x i. apart x (subst (λ (y : World). In x y.shared.wire) goes i)
        go (Turned n found c allowed shows goes) = λ x i. elim (effect_wire w.shared (stops_at a.node w) n a.task c (others a.node n found) (at a.node a.task n is found) x (subst (λ (y : World). In x y.shared.wire) goes i)) [ inl old ↦ apart x old | inr new ↦ new ]
    by_task None none = many s none (refused_at_once w s) refl step.does

pub turn_apart : (es : List Entry) (w v : World) (r : Reading) (lines : List Line) → Named es w → HaveSteps w.nodes → AcceptOthers w → AreApart w → LineTurn w r lines v → AreApart v
turn_apart es w v Blank lines named steps others apart turn = λ x i. apart x (subst (λ (y : World). In x y.shared.wire) turn.1 i)
turn_apart es w v (Says s) lines named steps others apart turn = step_apart es w v s lines named steps others apart turn
turn_apart es w v (Bad column) lines named steps others apart turn = absurd turn
