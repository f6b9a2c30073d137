-- What a task shows to be settled has its cause in what the task is told.
use Rattle.run_said.specs.log_laws.Slots.{slot_records}
use Rattle.std.proofs.Common.{◌≡◌, ℕ, List, [], ◌∷◌, ◌++◌, inl, inr, map, take, zero, suc, Bool, true, false, Option, Some, None, refl, sym, ◌∙◌, ap, subst}
use Rattle.std.specs.Option.{option_map, option_and_then}
use Rattle.vms_model.specs.Ids.{Id}
use Rattle.vms_model.specs.Keys.{Key}
use Rattle.vms_model.specs.Transactions.{Outcome, Commit, Abort, Reason, Aborted, SegFail}
use Rattle.run_said.specs.transcript_model.Lines as line
use Rattle.run_said.specs.transcript_model.Lines.{Line, Cause}
use Rattle.run_said.specs.script_model.Statements.{Operation, Request, Init, Boot, Create, SetFile, StartTrans, AddBranch, StartBranch, Records, Direct, EndBranch, EndTrans, AbortTrans, Inquire, DeclareRm, JoinRm, AckEvent, ForgetRm, GetDti, LmcpShow, LmcpDump, Dump, DumpJournal, DumpImages, Backup, Recover, Fuse, Crash, Clock, Named}
use Rattle.unit_laws.specs.records_model.Records.{Change}
use Rattle.commit_protocol.specs.Messages.{Reply, Name}
use Rattle.commit_protocol.specs.Table as table
use Rattle.commit_protocol.specs.Table.{Branch, Key as BranchKey, Settles, Undoes, child, first}
use Rattle.commit_protocol.specs.Rows as rows
use Rattle.commit_protocol.specs.Rows.{Event, row, Got}
use Rattle.commit_protocol.specs.World.{In, undo_all}
use Rattle.run_said.specs.run_model.World as world
use Rattle.run_said.specs.run_model.World.{Shared, Node, Settlement, Act, Tables, Directs, acted, shared_after, next_id, next_moment, tm_of}
use Rattle.run_said.specs.run_model.Answers as answers
use Rattle.run_said.specs.run_model.Answers.{Row, Service, Task, Serves, Ticks, Takes, Hears, LosesLink, RunsDown, Restarts, task_service, service, refused_before_reading, told_if, told_rows, table_rows, begins, just, settled_line, silent, branch_labelled, branch_named, powers}
use Rattle.run_said.specs.run_model.Steps.{Choice, Whole, WithoutMemory, Unpowered, Cut, task_effect, ready_node, node_after, lines_of_rows, rows_if, rows_to_cut, whole, begun}
use Rattle.run_said.proofs.run_model.Refusing.{not_ready}
use Rattle.run_laws.specs.Promises.{shown_in}
use Rattle.run_laws.proofs.EachRow.{ArePlain, EachRow, closing_plain, cut_each, take_each, task_each}
use Rattle.run_laws.proofs.Settling.{ActSettles, AllSettle, EventSettles, row_settles}
use Rattle.run_laws.proofs.ShownSettled.{in_append, none_shown}
use Rattle.recovery_laws.proofs.world_laws.FileRows.{images_by, recovers_by, saves_by, sets_by}

-- Lines of rows.

-- the line of a settlement is that of its act
abbrev ShowsAct : Option Act → Line → Type 0
ShowsAct (Some (Tables (Settles k o reason r) moment)) l = l ≡ settled_line k o reason moment
ShowsAct (Some (Tables (Undoes k) moment)) l = l ≡ settled_line k Abort SegFail moment
ShowsAct (Some (Directs file cs s)) l = l ≡ settled_line (child s.tid s.serial) Commit Aborted s.moment
ShowsAct _ l = ⊥

abbrev ByAct : Row → Node → Type 0
ByAct r n = (l : Line) (x : Settlement) → In l r.lines → shown_in l ≡ Some x → ShowsAct r.act l

by_plain : (act : Option Act) (ls : List Line) (n : Node) → ArePlain ls → ByAct (record { act = act; lines = ls }) n
by_plain act ls n h l x i e = absurd (none_shown ls h l x i e)

by_last : (n : Node) → ByAct (record { act = Some world.Boots; lines = answers.last_lines n }) n
by_last n l x i e = go n.durable.last i
  where
    one : (t : Settlement) (o : Outcome) (r : Option Reason) → In l (elim o [ Commit ↦ line.LastCommitted t.tid t.serial t.moment ∷ [] | Abort ↦ elim r [ Some reason ↦ line.LastAborted t.tid t.serial reason t.moment ∷ [] | None ↦ [] ] ]) → ⊥
    one t Commit r (inl same) = let none : None ≡ Some x = sym (ap shown_in same) ∙ e in cc
    one t Commit r (inr j) = j
    one t Abort (Some reason) (inl same) = let none : None ≡ Some x = sym (ap shown_in same) ∙ e in cc
    one t Abort (Some reason) (inr j) = j
    one t Abort None j = j

    go : (o : Option Settlement) → In l (elim o [ Some t ↦ answers.last_line t | None ↦ [] ]) → ⊥
    go (Some t) j = one t t.outcome t.reason j
    go None j = j

in_one : (l k : Line) → In l (k ∷ []) → l ≡ k
in_one l k (inl same) = same
in_one l k (inr i) = absurd i

by_acts : (s : Shared) (n : Node) (t : Task) → EachRow ByAct ((task_service t).rows s n) n
by_acts s n t = task_each ByAct (λ act ls m h q v. by_plain act ls m h) (λ k o reason r m l x i e. in_one l (settled_line k o reason (next_moment m)) i) (λ k m l x i e. in_one l (settled_line k Abort SegFail (next_moment m)) i)
    (λ file cs m l x i e. in_one l _ i) by_last s n t

-- What settles has a cause.
module _ (P : BranchKey → Outcome → Reason → Type 0) where
  abbrev pub IsCaused : Option Act → Type 0
  IsCaused (Some (Tables (Settles k o reason r) moment)) = P k o reason
  IsCaused (Some (Tables (Undoes k) moment)) = P k Abort SegFail
  IsCaused (Some (Directs file cs s)) = P (child s.tid s.serial) Commit Aborted
  IsCaused _ = Unit {0}

  abbrev pub AreCaused : List Row → Type 0
  AreCaused [] = Unit {0}
  AreCaused (r ∷ rs) = IsCaused r.act × AreCaused rs

  -- the line of a settlement, which has a cause
  abbrev pub ShowsCaused : Line → Type 0
  ShowsCaused l = (k : BranchKey) × (o : Outcome) × (reason : Reason) × (moment : ℕ) × (l ≡ settled_line k o reason moment) × P k o reason

  shown_caused : (act : Option Act) (l : Line) → ShowsAct act l → IsCaused act → ShowsCaused l
  shown_caused (Some (Tables (Settles k o reason r) moment)) l same h = (k, o, reason, moment, same, h)
  shown_caused (Some (Tables (Undoes k) moment)) l same h = (k, Abort, SegFail, moment, same, h)
  shown_caused (Some (Directs file cs s)) l same h = (child s.tid s.serial, Commit, Aborted, s.moment, same, h)
  shown_caused _ l same h = absurd same

  lines_caused : (rs : List Row) (n : Node) → EachRow ByAct rs n → AreCaused rs → (l : Line) (x : Settlement) → In l (lines_of_rows rs) → shown_in l ≡ Some x → ShowsCaused l
  lines_caused [] n by h l x i e = absurd i
  lines_caused (r ∷ rs) n by h l x i e = elim (in_append l r.lines (lines_of_rows rs) i) [
    | inl j ↦ shown_caused r.act l (by.0 l x j e) h.0
    | inr j ↦ lines_caused rs (node_after r.act n) by.1 h.1 l x j e
  ]

  take_caused : (k : ℕ) (rs : List Row) → AreCaused rs → AreCaused (take k rs)
  take_caused zero rs h = tt
  take_caused (suc k) [] h = tt
  take_caused (suc k) (r ∷ rs) h = (h.0, take_caused k rs h.1)

  cut_caused : (o : Option Line) (rs : List Row) → AreCaused rs → AreCaused (rows_if o rs)
  cut_caused (Some refusal) rs h = tt
  cut_caused None rs h = h

  act_caused : (a : table.Act) (moment : ℕ) → ActSettles P a → IsCaused (Some (Tables a moment))
  act_caused (Settles k o reason r) moment h = h
  act_caused (Undoes k) moment h = absurd h
  act_caused _ moment h = tt

  table_caused : (todo : List table.Act) (s : Shared) (n : Node) → AllSettle P todo → AreCaused (table_rows todo s n)
  table_caused [] s n h = tt
  table_caused (a ∷ todo) s n h = (act_caused a (next_moment n) h.0, table_caused todo (shared_after (Tables a (next_moment n)) s) (acted (Tables a (next_moment n)) n) h.1)

  undone_caused : (ks : List BranchKey) (s : Shared) (n : Node) → ((k : BranchKey) → P k Abort SegFail) → AreCaused (table_rows (undo_all ks) s n)
  undone_caused [] s n h = tt
  undone_caused (k ∷ ks) s n h = (h k, undone_caused ks (shared_after (Tables (Undoes k) (next_moment n)) s) (acted (Tables (Undoes k) (next_moment n)) n) h)

  created_caused : (n : Node) (made : ℕ → world.File) (need : ℕ) → AreCaused (answers.creates n made need)
  created_caused n made need = go (world.free_place n.durable.directory)
    where
      at : (place : ℕ) (o : Option ℕ) → AreCaused (elim o [ Some start ↦ record { act = Some (world.Creates place (made start)); lines = [] } ∷ [] | None ↦ [] ])
      at place (Some start) = (tt, tt)
      at place None = tt

      go : (o : Option ℕ) → AreCaused (elim o [ Some place ↦ elim (world.lowest_free n need) [ Some start ↦ record { act = Some (world.Creates place (made start)); lines = [] } ∷ [] | None ↦ [] ] | None ↦ [] ])
      go (Some place) = at place (world.lowest_free n need)
      go None = tt

  operated_caused : (n : Node) (file : List ℕ) (op : Operation) (b : Branch) → AreCaused (answers.operated n file op b ∷ [])
  operated_caused n file op b = go (answers.changes_at n file op)
    where
      go : (cs : List Change) → AreCaused (silent (answers.operation_act b file cs (answers.keys_at n file op)) ∷ [])
      go [] = (tt, tt)
      go (c ∷ cs) = (tt, tt)

  directed_caused : (n : Node) (file : List ℕ) (cs : List Change) → P (first (next_id n)) Commit Aborted → AreCaused (answers.directed n file cs)
  directed_caused n file [] h = tt
  directed_caused n file (c ∷ cs) h = (h, tt)

  shown_lines_caused : (ls : List Line) → AreCaused (map answers.shown_line ls)
  shown_lines_caused [] = tt
  shown_lines_caused (l ∷ ls) = (tt, shown_lines_caused ls)

  records_caused : (es : List (Key × List ℕ)) → AreCaused (map answers.shown_record es)
  records_caused [] = tt
  records_caused (e ∷ es) = (tt, records_caused es)

  branch_caused : (o : Option Branch) (does : Branch → List Row) → ((b : Branch) → o ≡ Some b → AreCaused (does b)) → AreCaused (elim o [ Some b ↦ does b | None ↦ [] ])
  branch_caused (Some b) does h = h b refl
  branch_caused None does h = tt

-- What each task may settle.

abbrev pub RequestCause : Shared → Node → Request → BranchKey → Outcome → Reason → Type 0
RequestCause s n Boot k o reason = (o ≡ Abort) × (reason ≡ SegFail)
RequestCause s n (Direct file op) k o reason = (o ≡ Commit) × (k ≡ first (next_id n))
RequestCause s n (EndTrans label) k o reason = (b : Branch) × (branch_labelled s n label ≡ Some b) × EventSettles (tm_of n) (rows.EndTrans b.key.tid) k o reason
RequestCause s n (AbortTrans label) k o reason = (b : Branch) × (branch_labelled s n label ≡ Some b) × EventSettles (tm_of n) (rows.AbortBranch b.key.serial Aborted) k o reason
RequestCause s n (AckEvent who rm reply) k o reason = (serial : Id) × (answers.serial_named s n who ≡ Some serial) × EventSettles (tm_of n) (rows.Replied serial rm reply) k o reason
RequestCause s n _ k o reason = ⊥

abbrev pub TaskCause : Shared → Node → Task → BranchKey → Outcome → Reason → Type 0
TaskCause s n (Serves request) k o reason = RequestCause s n request k o reason
TaskCause s n Ticks k o reason = EventSettles (tm_of n) (rows.Clock n.clock) k o reason
TaskCause s n (Takes m) k o reason = EventSettles (tm_of n) (Got m) k o reason
TaskCause s n (Hears m) k o reason = EventSettles (tm_of n) (Got m) k o reason
TaskCause s n (LosesLink other) k o reason = EventSettles (tm_of n) (rows.LinkDown other) k o reason
TaskCause s n RunsDown k o reason = EventSettles (tm_of n) rows.RunDown k o reason
TaskCause s n Restarts k o reason = (o ≡ Abort) × (reason ≡ SegFail)

event_caused : (e : Event) (s : Shared) (n : Node) → AreCaused (EventSettles (tm_of n) e) (table_rows (row (tm_of n) e) s n)
event_caused e s n = table_caused (EventSettles (tm_of n) e) (row (tm_of n) e) s n (row_settles (tm_of n) e)

more_caused : (P Q : BranchKey → Outcome → Reason → Type 0) (rs : List Row) → ((k : BranchKey) (o : Outcome) (reason : Reason) → P k o reason → Q k o reason) → AreCaused P rs → AreCaused Q rs
more_caused P Q [] f h = tt
more_caused P Q (r ∷ rs) f h = (one r.act h.0, more_caused P Q rs f h.1)
  where
    one : (o : Option Act) → IsCaused P o → IsCaused Q o
    one (Some (Tables (Settles k o reason r) moment)) p = f k o reason p
    one (Some (Tables (Undoes k) moment)) p = f k Abort SegFail p
    one (Some (Directs file cs s)) p = f (child s.tid s.serial) Commit Aborted p
    one _ p = tt

begins_caused : (s : Shared) (n : Node) (o : Option world.Label) → AreCaused (λ k out reason. ⊥) (told_if s n (option_and_then (begins n) o))
begins_caused s n None = tt
begins_caused s n (Some l) = go l.bid
  where
    go : (o : Option Id) → AreCaused (λ k out reason. ⊥) (told_if s n (option_map (λ bid. let t : answers.Telling = record { before = world.Draws ∷ world.Numbers l.name (next_id n) ∷ []; event = rows.Begin l.tid (next_id n) bid } in t) o))
    go None = tt
    go (Some bid) = (tt, (tt, (tt, (tt, tt))))

asked_caused : (s : Shared) (n : Node) (o : Option Branch) → AreCaused (λ k out reason. ⊥) (told_if s n (option_map (λ (b : Branch). just (rows.InquireBranch b.key.serial)) o))
asked_caused s n (Some b) = event_caused (rows.InquireBranch b.key.serial) s n
asked_caused s n None = tt

replied_caused : (s : Shared) (n : Node) (who : Named) (rm : Name) (reply : Reply) (o : Option Id) → answers.serial_named s n who ≡ o → AreCaused (RequestCause s n (AckEvent who rm reply)) (told_if s n (option_map (λ serial. just (rows.Replied serial rm reply)) o))
replied_caused s n who rm reply (Some serial) is = more_caused (EventSettles (tm_of n) (rows.Replied serial rm reply)) (RequestCause s n (AckEvent who rm reply)) _ (λ k o reason h. (serial, is, h)) (event_caused (rows.Replied serial rm reply) s n)
replied_caused s n who rm reply None is = tt

request_caused : (s : Shared) (n : Node) (request : Request) → AreCaused (RequestCause s n request) ((service request).rows s n)
request_caused s n (Init slots journal) = tt
request_caused s n Boot = (tt, undone_caused (RequestCause s n Boot) _ s (acted world.Boots n) (λ k. (refl, refl)))
request_caused s n (Create file bucket size form) = created_caused _ n _ _
request_caused s n (SetFile file setting) = sets_by (AreCaused (RequestCause s n (SetFile file setting))) tt n file setting (λ mark. (tt, tt))
request_caused s n (StartTrans label seconds) = (tt, (tt, (tt, tt)))
request_caused s n (AddBranch label other new) = branch_caused (λ k o reason. ⊥) (branch_labelled s n label) (λ b. told_rows s n (answers.adds n other new b)) added
  where
    added : (b : Branch) → branch_labelled s n label ≡ Some b → AreCaused (λ k o reason. ⊥) (told_rows s n (answers.adds n other new b))
    added b is =
        let l : world.Label = record { name = new; node = other; tid = b.key.tid; bid = Some (next_id n); serial = None } in
        let e = rows.Authorise b.key.tid (next_id n) in
        (tt, (tt, table_caused (λ k o reason. ⊥) (row (tm_of n) e) (shared_after (world.Labels l) s) (acted (world.Labels l) (acted world.Draws n)) (row_settles (tm_of n) e)))
request_caused s n (StartBranch label) = begins_caused s n (world.labelled n.name label s.labels)
request_caused s n (Records label file op) = branch_caused (λ k o reason. ⊥) (branch_labelled s n label) (λ b. answers.operated n file op b ∷ []) (λ b is. operated_caused _ n file op b)
request_caused s n (Direct file op) = directed_caused (RequestCause s n (Direct file op)) n file (answers.changes_at n file op) (refl, refl)
request_caused s n (EndBranch label) = branch_caused (λ k o reason. ⊥) (branch_labelled s n label) (λ b. told_rows s n (just (rows.EndBranch b.key.serial))) (λ b is. event_caused (rows.EndBranch b.key.serial) s n)
request_caused s n (EndTrans label) = branch_caused (RequestCause s n (EndTrans label)) (branch_labelled s n label) (λ b. told_rows s n (just (rows.EndTrans b.key.tid)))
    (λ b is. more_caused (EventSettles (tm_of n) (rows.EndTrans b.key.tid)) (RequestCause s n (EndTrans label)) _ (λ k o reason h. (b, is, h)) (event_caused (rows.EndTrans b.key.tid) s n))
request_caused s n (AbortTrans label) = branch_caused (RequestCause s n (AbortTrans label)) (branch_labelled s n label) (λ b. told_rows s n (just (rows.AbortBranch b.key.serial Aborted)))
    (λ b is. more_caused (EventSettles (tm_of n) (rows.AbortBranch b.key.serial Aborted)) (RequestCause s n (AbortTrans label)) _ (λ k o reason h. (b, is, h)) (event_caused (rows.AbortBranch b.key.serial Aborted) s n))
request_caused s n (Inquire who) = asked_caused s n (branch_named s n who)
request_caused s n (DeclareRm rm) = (tt, tt)
request_caused s n (JoinRm label rm) = branch_caused (λ k o reason. ⊥) (branch_labelled s n label) (λ b. told_rows s n (just (rows.JoinRm b.key.serial rm))) (λ b is. event_caused (rows.JoinRm b.key.serial rm) s n)
request_caused s n (AckEvent who rm reply) = replied_caused s n who rm reply (answers.serial_named s n who) refl
request_caused s n (ForgetRm rm) = (tt, tt)
request_caused s n (GetDti who) = tt
request_caused s n LmcpShow = tt
request_caused s n LmcpDump = shown_lines_caused (λ k o reason. ⊥) (map answers.log_line (slot_records 0 n.durable.log))
request_caused s n (Dump file) = records_caused (λ k o reason. ⊥) (answers.records_of n file)
request_caused s n DumpJournal = shown_lines_caused (λ k o reason. ⊥) (answers.entry_lines n.durable.units.first n.durable.units.entries)
request_caused s n (DumpImages file side) = images_by (AreCaused (RequestCause s n (DumpImages file side))) tt n file side (λ ls a. shown_lines_caused _ ls)
request_caused s n (Backup file) = saves_by (AreCaused (RequestCause s n (Backup file))) tt n file (λ start. (tt, tt))
request_caused s n (Recover file way) = recovers_by (AreCaused (RequestCause s n (Recover file way))) tt n file way (λ start buckets m. (tt, tt))
request_caused s n (Fuse writes choice) = (tt, tt)
request_caused s n Crash = (tt, tt)
request_caused s n (Clock now) = (tt, tt)

pub task_caused : (s : Shared) (n : Node) (t : Task) → AreCaused (TaskCause s n t) ((task_service t).rows s n)
task_caused s n (Serves request) = request_caused s n request
task_caused s n Ticks = event_caused (rows.Clock n.clock) s n
task_caused s n (Takes m) = event_caused (Got m) s n
task_caused s n (Hears m) = (tt, event_caused (Got m) s n)
task_caused s n (LosesLink other) = event_caused (rows.LinkDown other) s n
task_caused s n RunsDown = event_caused rows.RunDown s n
task_caused s n Restarts = (tt, undone_caused (TaskCause s n Restarts) _ s (acted world.Boots n) (λ k. (refl, refl)))

-- What a task shows.

-- a disk that runs again changes no cause
ready_cause : (s : Shared) (stops : ℕ) (outturn : world.Outturn) (n : Node) (t : Task) (k : BranchKey) (o : Outcome) (reason : Reason) → TaskCause s (ready_node outturn stops (task_service t) n) t k o reason → TaskCause s n t k o reason
ready_cause s stops outturn n t k o reason h = go (powers (task_service t)) refl
  where
    booting : (t : Task) → powers (task_service t) ≡ true → TaskCause s (ready_node outturn stops (task_service t) n) t k o reason → TaskCause s n t k o reason
    booting (Serves request) on g = of_request request on g
      where
        of_request : (r : Request) → powers (service r) ≡ true → RequestCause s (ready_node outturn stops (service r) n) r k o reason → RequestCause s n r k o reason
        of_request Boot on g = g
        of_request (Init slots journal) on g = g
        of_request _ on g = let no : ⊥ = cc in absurd no
    booting Restarts on g = g
    booting _ on g = let no : ⊥ = cc in absurd no

    go : (b : Bool) → powers (task_service t) ≡ b → TaskCause s n t k o reason
    go true on = booting t on h
    go false off = subst (λ m. TaskCause s m t k o reason) (not_ready outturn stops (task_service t) n off) h

front_caused : (P : BranchKey → Outcome → Reason → Type 0) (front back : List Line) → ArePlain back → ((l : Line) (x : Settlement) → In l front → shown_in l ≡ Some x → ShowsCaused P l) → (l : Line) (x : Settlement) → In l (front ++ back) → shown_in l ≡ Some x → ShowsCaused P l
front_caused P front back h f l x i e = elim (in_append l front back i) [ inl j ↦ f l x j e | inr j ↦ absurd (none_shown back h l x j e) ]

pub effect_caused : (s : Shared) (stops : ℕ) (n : Node) (t : Task) (c : Choice) (l : Line) (x : Settlement) → In l (task_effect s stops n t c).lines → shown_in l ≡ Some x → ShowsCaused (TaskCause s n t) l
effect_caused s stops n t (Whole outturn) l x i e = go (refused_before_reading s n (task_service t)) i
  where
    ready : Node
    ready = ready_node outturn stops (task_service t) n

    late : (o : Option Line) → In l (begun s ready (task_service t) o).lines → ShowsCaused (TaskCause s n t) l
    late (Some refusal) j = absurd j
    late None j =
        let rs = (task_service t).rows s ready in
        let r = front_caused (TaskCause s ready t) (lines_of_rows rs) ((task_service t).closing_lines ready) (closing_plain ready t) (lines_caused (TaskCause s ready t) rs ready (by_acts s ready t) (task_caused s ready t)) l x j e in
        (r.0, r.1, r.2, r.3, r.4, ready_cause s stops outturn n t r.0 r.1 r.2 r.5)

    go : (o : Option Line) → In l (whole s n ready (task_service t) o).lines → ShowsCaused (TaskCause s n t) l
    go (Some refusal) j = absurd j
    go None j = late ((task_service t).refused_after_reading s ready) j
effect_caused s stops n t WithoutMemory l x i e = absurd i
effect_caused s stops n t Unpowered l x i e = absurd (none_shown (line.Down n.name line.Failed ∷ []) (refl, tt) l x i e)
effect_caused s stops n t (Cut outturn done started cause) l x i e =
    let ready = ready_node outturn stops (task_service t) n in
    let all = rows_to_cut s ready (task_service t) in
    let r = front_caused (TaskCause s ready t) (lines_of_rows (take done all)) (line.Down ready.name cause ∷ []) (refl, tt)
    (lines_caused (TaskCause s ready t) (take done all) ready (take_each ByAct done all ready (cut_each ByAct ((task_service t).refused_after_reading s ready) ((task_service t).rows s ready) ready (by_acts s ready t)))
    (take_caused (TaskCause s ready t) done all (cut_caused (TaskCause s ready t) ((task_service t).refused_after_reading s ready) ((task_service t).rows s ready) (task_caused s ready t)))) l x i e in
    (r.0, r.1, r.2, r.3, r.4, ready_cause s stops outturn n t r.0 r.1 r.2 r.5)
