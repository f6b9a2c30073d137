-- How the unprepared branches of a node come of those before a task.
use Rattle.run_said.specs.log_laws.Slots.{slot_records}
use Rattle.std.proofs.Common.{◌≡◌, ℕ, ◌⊎◌, List, [], ◌∷◌, ◌++◌, map, take, zero, suc, inl, inr, Bool, true, false, Option, Some, None, if◌then◌else◌, refl, sym, ◌∙◌, ap}
use Rattle.std.specs.Option.{option_map}
use Rattle.vms_model.specs.Ids.{Id}
use Rattle.vms_model.specs.Keys.{Key}
use Rattle.vms_model.specs.Transactions.{Aborted}
use Rattle.run_said.specs.transcript_model.Lines as line
use Rattle.run_said.specs.transcript_model.Lines.{Line}
use Rattle.run_said.specs.script_model.Statements.{Operation, Request, Init, Boot, Create, SetFile, StartTrans, AddBranch, StartBranch, Records, Direct, EndBranch, EndTrans, AbortTrans, Inquire, DeclareRm, JoinRm, AckEvent, ForgetRm, GetDti, LmcpShow, LmcpDump, Dump, DumpJournal, DumpImages, Backup, Recover, Fuse, Crash, Clock}
use Rattle.unit_laws.specs.records_model.Records.{Change}
use Rattle.unit_laws.specs.records_model.History.{same_id}
use Rattle.commit_protocol.specs.Table as table
use Rattle.commit_protocol.specs.Table.{Branch, Child, Prepared, Key as BranchKey, Notes, Accepts, Prepares, Settles, Leaves, Acknowledges, Releases, Undoes, Sends, Prints, branches_of, put, table_after}
use Rattle.commit_protocol.specs.Rows as rows
use Rattle.commit_protocol.specs.Rows.{Event, row}
use Rattle.commit_protocol.specs.Allowed.{is_prepared}
use Rattle.commit_protocol.specs.Standing.{BeginsNothing}
use Rattle.commit_protocol.specs.World.{In, undo_all}
use Rattle.commit_protocol.proofs.Lists.{in_left, in_right}
use Rattle.run_said.specs.run_model.World as world
use Rattle.run_said.specs.run_model.World.{Shared, Node, File, Act, Boots, ComesUp, Tables, Clocks, Outturn, Lost, Taken, Half, acted, shared_after, powered, unpowered, with_changed, is_durable, prepared_left, next_id, next_moment, tm_of}
use Rattle.run_said.specs.run_model.Answers as answers
use Rattle.run_said.specs.run_model.Answers.{Row, Service, Task, Serves, Ticks, Takes, Hears, LosesLink, RunsDown, Restarts, task_service, service, refused_before_reading, shown_by, table_rows, told_if, told_rows, just, silent, branch_labelled, branch_named, powers, spoils}
use Rattle.run_said.specs.run_model.Steps.{node_after, node_after_rows, lines_of_rows, rows_if}
use Rattle.run_said.proofs.run_model.NodeLists.{clash}
use Rattle.run_laws.proofs.Moving.{in_cut, in_put, none_open}
use Rattle.run_laws.proofs.Noting.{Accepted, AllPut, Noted, Puts, row_puts}
use Rattle.recovery_laws.proofs.world_laws.FileRows.{images_by, recovers_by, saves_by, sets_by}

-- a branch but for whether it has changed something
abbrev pub bare : Branch → Branch
bare b = record b { changed = false }

-- An act of a row puts a branch, and shows which branch one accepts.
module _ (N : Branch → Type 0) (A : Branch → Child → Type 0) where
  abbrev pub PutsIn : Option Act → List Line → Type 0
  PutsIn (Some (Tables (Notes b) moment)) ls = N b
  PutsIn (Some (Tables (Accepts b c) moment)) ls = A b c × In (line.Joined b.key.tid c.serial) ls
  PutsIn (Some ComesUp) ls = ⊥
  PutsIn (Some (Clocks now)) ls = ⊥
  PutsIn _ ls = Unit {0}

  abbrev pub ArePutting : List Row → Type 0
  ArePutting [] = Unit {0}
  ArePutting (r ∷ rs) = PutsIn r.act r.lines × ArePutting rs

  -- what these lines tell of a branch that was put
  abbrev pub IsPut : List Line → Branch → Type 0
  IsPut ls y = N y ⊎ ((b : Branch) × (c : Child) × A b c × In (line.Joined b.key.tid c.serial) ls × (y ≡ record b { accepted = b.accepted ++ c ∷ [] }))

  -- a branch comes of one of these, or was put
  abbrev pub From : List Line → List Branch → Branch → Type 0
  From ls bs x = (y : Branch) × (bare x ≡ bare y) × (In y bs ⊎ IsPut ls y)

  -- what is so of a node, of one before it, and the lines between them
  pub record Comes (ls : List Line) (n m : Node) : Type 0 where
    pub from : (x : Branch) → In x m.volatile.branches → is_prepared x.state ≡ false → From ls n.volatile.branches x
    pub up : m.up ≡ true → n.up ≡ true
    pub clock : m.clock ≡ n.clock

  same_comes : (n : Node) → Comes [] n n
  same_comes n = record { from = λ x i u. (x, refl, inl i); up = λ h. h; clock = refl }

  pub more_put : (ks ls : List Line) (y : Branch) → ((l : Line) → In l ks → In l ls) → IsPut ks y → IsPut ls y
  more_put ks ls y f (inl n) = inl n
  more_put ks ls y f (inr a) = inr (a.0, a.1, a.2, f (line.Joined a.0.key.tid a.1.serial) a.3, a.4)

  pub comes_on : (ks ls : List Line) (n m k : Node) → Comes ks n m → Comes ls m k → Comes (ks ++ ls) n k
  comes_on ks ls n m k f g = record {
    from = λ x i u. let y = g.from x i u in elim y.2 [
      | inl j ↦ (
          let z = f.from y.0 j (ap (λ (b : Branch). is_prepared b.state) (sym y.1) ∙ u) in (z.0, y.1 ∙ z.1, elim z.2 [ inl old ↦ inl old | inr put ↦ inr (more_put ks (ks ++ ls) z.0 (λ l i. in_left l ks ls i) put) ])
          )
      | inr put ↦ (y.0, y.1, inr (more_put ls (ks ++ ls) y.0 (λ l i. in_right l ks ls i) put))
    ];
    up = λ h. f.up (g.up h);
    clock = g.clock ∙ f.clock;
  }

  tabled_from : (a : table.Act) (moment : ℕ) (ls : List Line) (bs : List Branch) → PutsIn (Some (Tables a moment)) ls → (x : Branch) → In x (table_after a bs) → is_prepared x.state ≡ false → From ls bs x
  tabled_from (Notes b) moment ls bs h x i u = elim (in_put b x bs i) [ inl same ↦ (b, ap bare same, inr (inl h)) | inr j ↦ (x, refl, inl j) ]
  tabled_from (Accepts b c) moment ls bs h x i u = elim (in_put (record b { accepted = b.accepted ++ c ∷ [] }) x bs i) [
    | inl same ↦ (record b { accepted = b.accepted ++ c ∷ [] }, ap bare same, inr (inr (b, c, h.0, h.1, refl)))
    | inr j ↦ (x, refl, inl j)
  ]
  tabled_from (Prepares b) moment ls bs h x i u = elim (in_put (record b { state = Prepared }) x bs i) [
    | inl same ↦ absurd (clash _ (ap (λ (y : Branch). is_prepared y.state) same) u)
    | inr j ↦ (x, refl, inl j)
  ]
  tabled_from (Settles k o reason r) moment ls bs h x i u = (x, refl, inl (in_cut k x bs i))
  tabled_from (Leaves k) moment ls bs h x i u = (x, refl, inl (in_cut k x bs i))
  tabled_from (Undoes k) moment ls bs h x i u = (x, refl, inl (in_cut k x bs i))
  tabled_from _ moment ls bs h x i u = (x, refl, inl i)

  changed_from : (serial : Id) (bs : List Branch) (x : Branch) → In x (with_changed serial bs) → (y : Branch) × (bare x ≡ bare y) × In y bs
  changed_from serial [] x i = absurd i
  changed_from serial (b ∷ bs) x i = go (same_id serial b.key.serial) i (changed_from serial bs x)
    where
      go : (t : Bool) → In x (if t then record b { changed = true } ∷ bs else b ∷ with_changed serial bs) → (In x (with_changed serial bs) → (y : Branch) × (bare x ≡ bare y) × In y bs) → (y : Branch) × (bare x ≡ bare y) × In y (b ∷ bs)
      go true (inl same) more = (b, ap bare same, inl refl)
      go true (inr j) more = (x, refl, inr j)
      go false (inl same) more = (x, refl, inl same)
      go false (inr j) more = let r = more j in (r.0, r.1, inr r.2)

  pub acted_comes : (act : Act) (ls : List Line) (n : Node) → PutsIn (Some act) ls → Comes ls n (acted act n)
  acted_comes (Tables a moment) ls n h = record { from = tabled_from a moment ls n.volatile.branches h; up = λ u. u; clock = refl }
  acted_comes ComesUp ls n h = absurd h
  acted_comes (Clocks now) ls n h = absurd h
  acted_comes Boots ls n h = record { from = λ x i u. absurd (none_open (prepared_left n.durable) x.key (x, i, u, refl)); up = λ u. u; clock = refl }
  acted_comes (world.Changes tid serial file cs keys) ls n h = record { from = λ x i u. let r = changed_from serial n.volatile.branches x i in (r.0, r.1, inl r.2); up = λ u. u; clock = refl }
  acted_comes world.Falls ls n h = record { from = λ x i u. (x, refl, inl i); up = λ u. let no : ⊥ = cc in absurd no; clock = refl }
  acted_comes _ ls n h = record { from = λ x i u. (x, refl, inl i); up = λ u. u; clock = refl }

  pub none_comes : (ls : List Line) (n : Node) → Comes ls n n
  none_comes ls n = record { from = λ x i u. (x, refl, inl i); up = λ u. u; clock = refl }

  pub after_comes : (o : Option Act) (ls : List Line) (n : Node) → PutsIn o ls → Comes ls n (node_after o n)
  after_comes None ls n h = none_comes ls n
  after_comes (Some act) ls n h = acted_comes act ls n h

  pub rows_come : (rs : List Row) (n : Node) → ArePutting rs → Comes (lines_of_rows rs) n (node_after_rows rs n)
  rows_come [] n h = same_comes n
  rows_come (r ∷ rs) n h = comes_on r.lines (lines_of_rows rs) n (node_after r.act n) (node_after_rows rs (node_after r.act n)) (after_comes r.act r.lines n h.0) (rows_come rs (node_after r.act n) h.1)

  pub take_putting : (k : ℕ) (rs : List Row) → ArePutting rs → ArePutting (take k rs)
  take_putting zero rs h = tt
  take_putting (suc k) [] h = tt
  take_putting (suc k) (r ∷ rs) h = (h.0, take_putting k rs h.1)

  pub cut_putting : (o : Option Line) (rs : List Row) → ArePutting rs → ArePutting (rows_if o rs)
  cut_putting (Some refusal) rs h = tt
  cut_putting None rs h = h

  act_putting : (a : table.Act) (moment : ℕ) (n : Node) (s : Shared) → Puts N A a → PutsIn (Some (Tables a moment)) (shown_by a moment n s)
  act_putting (Notes b) moment n s h = h
  act_putting (Accepts b c) moment n s h = (h, inl refl)
  act_putting _ moment n s h = tt

  pub table_putting : (todo : List table.Act) (s : Shared) (n : Node) → AllPut N A todo → ArePutting (table_rows todo s n)
  table_putting [] s n h = tt
  table_putting (a ∷ todo) s n h = (act_putting a (next_moment n) n s h.0, table_putting todo (shared_after (Tables a (next_moment n)) s) (acted (Tables a (next_moment n)) n) h.1)

  pub undone_putting : (ks : List BranchKey) (s : Shared) (n : Node) → ArePutting (table_rows (undo_all ks) s n)
  undone_putting [] s n = tt
  undone_putting (k ∷ ks) s n = (tt, undone_putting ks (shared_after (Tables (Undoes k) (next_moment n)) s) (acted (Tables (Undoes k) (next_moment n)) n))

  created_putting : (n : Node) (made : ℕ → File) (need : ℕ) → ArePutting (answers.creates n made need)
  created_putting n made need = go (world.free_place n.durable.directory)
    where
      at : (place : ℕ) (o : Option ℕ) → ArePutting (elim o [ Some start ↦ record { act = Some (world.Creates place (made start)); lines = [] } ∷ [] | None ↦ [] ])
      at place (Some start) = (tt, tt)
      at place None = tt

      go : (o : Option ℕ) → ArePutting (elim o [ Some place ↦ elim (world.lowest_free n need) [ Some start ↦ record { act = Some (world.Creates place (made start)); lines = [] } ∷ [] | None ↦ [] ] | None ↦ [] ])
      go (Some place) = at place (world.lowest_free n need)
      go None = tt

  operated_putting : (n : Node) (file : List ℕ) (op : Operation) (b : Branch) → ArePutting (answers.operated n file op b ∷ [])
  operated_putting n file op b = go (answers.changes_at n file op)
    where
      go : (cs : List Change) → ArePutting (silent (answers.operation_act b file cs (answers.keys_at n file op)) ∷ [])
      go [] = (tt, tt)
      go (c ∷ cs) = (tt, tt)

  directed_putting : (n : Node) (file : List ℕ) (cs : List Change) → ArePutting (answers.directed n file cs)
  directed_putting n file [] = tt
  directed_putting n file (c ∷ cs) = (tt, tt)

  lines_putting : (ls : List Line) → ArePutting (map answers.shown_line ls)
  lines_putting [] = tt
  lines_putting (l ∷ ls) = (tt, lines_putting ls)

  records_putting : (es : List (Key × List ℕ)) → ArePutting (map answers.shown_record es)
  records_putting [] = tt
  records_putting (e ∷ es) = (tt, records_putting es)

  branch_putting : (o : Option Branch) (does : Branch → List Row) → ((b : Branch) → o ≡ Some b → ArePutting (does b)) → ArePutting (elim o [ Some b ↦ does b | None ↦ [] ])
  branch_putting (Some b) does h = h b refl
  branch_putting None does h = tt

-- Tasks.

-- the event of which a task tells its node's table
abbrev pub IsTold : Shared → Node → Task → Event → Type 0
IsTold s n (Serves (EndTrans label)) e = (b : Branch) × (branch_labelled s n label ≡ Some b) × (e ≡ rows.EndTrans b.key.tid)
IsTold s n (Serves (AddBranch label other new)) e = (b : Branch) × (branch_labelled s n label ≡ Some b) × (e ≡ rows.Authorise b.key.tid (next_id n))
IsTold s n (Serves (EndBranch label)) e = (b : Branch) × (e ≡ rows.EndBranch b.key.serial)
IsTold s n (Serves (AbortTrans label)) e = (b : Branch) × (e ≡ rows.AbortBranch b.key.serial Aborted)
IsTold s n (Serves (Inquire who)) e = (b : Branch) × (e ≡ rows.InquireBranch b.key.serial)
IsTold s n (Serves (JoinRm label rm)) e = (b : Branch) × (e ≡ rows.JoinRm b.key.serial rm)
IsTold s n (Serves (AckEvent who rm reply)) e = (serial : Id) × (e ≡ rows.Replied serial rm reply)
IsTold s n (Serves _) e = ⊥
IsTold s n Ticks e = e ≡ rows.Clock n.clock
IsTold s n (Takes m) e = e ≡ rows.Got m
IsTold s n (Hears m) e = e ≡ rows.Got m
IsTold s n (LosesLink other) e = e ≡ rows.LinkDown other
IsTold s n RunsDown e = e ≡ rows.RunDown
IsTold s n Restarts e = ⊥

-- what it puts
abbrev pub TaskNotes : Shared → Node → Task → Branch → Type 0
TaskNotes s n t b = (e : Event) × IsTold s n t e × Noted n.volatile.branches e b

abbrev pub TaskAccepts : Shared → Node → Task → Branch → Child → Type 0
TaskAccepts s n t b c = (e : Event) × IsTold s n t e × Accepted n.volatile.branches e b c

-- a task by which no branch begins and no clock is set
abbrev pub begins_none : Task → Bool
begins_none (Serves (StartTrans label seconds)) = false
begins_none (Serves (StartBranch label)) = false
begins_none (Serves (Clock now)) = false
begins_none _ = true

module _ (s : Shared) (n : Node) (t : Task) where
  abbrev N : Branch → Type 0
  N = TaskNotes s n t

  abbrev A : Branch → Child → Type 0
  A = TaskAccepts s n t

  put_all : (e : Event) (acts : List table.Act) → IsTold s n t e → AllPut (Noted n.volatile.branches e) (Accepted n.volatile.branches e) acts → AllPut N A acts
  put_all e [] is h = tt
  put_all e (a ∷ acts) is h = (one a h.0, put_all e acts is h.1)
    where
      one : (a : table.Act) → Puts (Noted n.volatile.branches e) (Accepted n.volatile.branches e) a → Puts N A a
      one (Notes b) p = (e, is, p)
      one (Accepts b c) p = (e, is, p)
      one _ p = tt

  event_putting : (e : Event) → BeginsNothing e → IsTold s n t e → (u : Shared) (m : Node) → m.volatile.branches ≡ n.volatile.branches → tm_of m ≡ tm_of n → ArePutting N A (table_rows (row (tm_of n) e) u m)
  event_putting e b is u m same tm = table_putting N A (row (tm_of n) e) u m (put_all e (row (tm_of n) e) is (row_puts (tm_of n) e b))

request_putting : (s : Shared) (n : Node) (r : Request) → begins_none (Serves r) ≡ true → ArePutting (TaskNotes s n (Serves r)) (TaskAccepts s n (Serves r)) ((service r).rows s n)
request_putting s n (Init slots journal) h = tt
request_putting s n Boot h = (tt, undone_putting _ _ _ s (acted Boots n))
request_putting s n (Create file bucket size form) h = created_putting _ _ n _ _
request_putting s n (SetFile file setting) h = sets_by (ArePutting (TaskNotes s n (Serves (SetFile file setting))) (TaskAccepts s n (Serves (SetFile file setting)))) tt n file setting (λ mark. (tt, tt))
request_putting s n (StartTrans label seconds) h = let no : ⊥ = cc in absurd no
request_putting s n (StartBranch label) h = let no : ⊥ = cc in absurd no
request_putting s n (Clock now) h = let no : ⊥ = cc in absurd no
request_putting s n (AddBranch label other new) h = branch_putting _ _ (branch_labelled s n label) (λ b. told_rows s n (answers.adds n other new b)) (λ b is. (tt, (tt, event_putting s n (Serves (AddBranch label other new)) (rows.Authorise b.key.tid (next_id n)) tt (b, is, refl) _ (acted (world.Labels (record { name = new; node = other; tid = b.key.tid; bid = Some (next_id n); serial = None })) (acted world.Draws n)) refl refl)))
request_putting s n (Records label file op) h = branch_putting _ _ (branch_labelled s n label) (λ b. answers.operated n file op b ∷ []) (λ b is. operated_putting _ _ n file op b)
request_putting s n (Direct file op) h = directed_putting _ _ n file (answers.changes_at n file op)
request_putting s n (EndBranch label) h = branch_putting _ _ (branch_labelled s n label) (λ b. told_rows s n (just (rows.EndBranch b.key.serial))) (λ b is. event_putting s n (Serves (EndBranch label)) (rows.EndBranch b.key.serial) tt (b, refl) s n refl refl)
request_putting s n (EndTrans label) h = branch_putting _ _ (branch_labelled s n label) (λ b. told_rows s n (just (rows.EndTrans b.key.tid))) (λ b is. event_putting s n (Serves (EndTrans label)) (rows.EndTrans b.key.tid) tt (b, is, refl) s n refl refl)
request_putting s n (AbortTrans label) h = branch_putting _ _ (branch_labelled s n label) (λ b. told_rows s n (just (rows.AbortBranch b.key.serial Aborted))) (λ b is. event_putting s n (Serves (AbortTrans label)) (rows.AbortBranch b.key.serial Aborted) tt (b, refl) s n refl refl)
request_putting s n (Inquire who) h = asked (branch_named s n who)
  where
    asked : (o : Option Branch) → ArePutting (TaskNotes s n (Serves (Inquire who))) (TaskAccepts s n (Serves (Inquire who))) (told_if s n (option_map (λ (b : Branch). just (rows.InquireBranch b.key.serial)) o))
    asked (Some b) = event_putting s n (Serves (Inquire who)) (rows.InquireBranch b.key.serial) tt (b, refl) s n refl refl
    asked None = tt
request_putting s n (DeclareRm rm) h = (tt, tt)
request_putting s n (JoinRm label rm) h = branch_putting _ _ (branch_labelled s n label) (λ b. told_rows s n (just (rows.JoinRm b.key.serial rm))) (λ b is. event_putting s n (Serves (JoinRm label rm)) (rows.JoinRm b.key.serial rm) tt (b, refl) s n refl refl)
request_putting s n (AckEvent who rm reply) h = replied (answers.serial_named s n who)
  where
    replied : (o : Option Id) → ArePutting (TaskNotes s n (Serves (AckEvent who rm reply))) (TaskAccepts s n (Serves (AckEvent who rm reply))) (told_if s n (option_map (λ serial. just (rows.Replied serial rm reply)) o))
    replied (Some serial) = event_putting s n (Serves (AckEvent who rm reply)) (rows.Replied serial rm reply) tt (serial, refl) s n refl refl
    replied None = tt
request_putting s n (ForgetRm rm) h = (tt, tt)
request_putting s n (GetDti who) h = tt
request_putting s n LmcpShow h = tt
request_putting s n LmcpDump h = lines_putting _ _ (map answers.log_line (slot_records 0 n.durable.log))
request_putting s n (Dump file) h = records_putting _ _ (answers.records_of n file)
request_putting s n DumpJournal h = lines_putting _ _ (answers.entry_lines n.durable.units.first n.durable.units.entries)
request_putting s n (DumpImages file side) h = images_by (ArePutting (TaskNotes s n (Serves (DumpImages file side))) (TaskAccepts s n (Serves (DumpImages file side)))) tt n file side (λ ls a. lines_putting _ _ ls)
request_putting s n (Backup file) h = saves_by (ArePutting (TaskNotes s n (Serves (Backup file))) (TaskAccepts s n (Serves (Backup file)))) tt n file (λ start. (tt, tt))
request_putting s n (Recover file way) h = recovers_by (ArePutting (TaskNotes s n (Serves (Recover file way))) (TaskAccepts s n (Serves (Recover file way)))) tt n file way (λ start buckets m. (tt, tt))
request_putting s n (Fuse writes choice) h = (tt, tt)
request_putting s n Crash h = (tt, tt)

pub task_putting : (s : Shared) (n : Node) (t : Task) → begins_none t ≡ true → ArePutting (TaskNotes s n t) (TaskAccepts s n t) ((task_service t).rows s n)
task_putting s n (Serves r) h = request_putting s n r h
task_putting s n Ticks h = event_putting s n Ticks (rows.Clock n.clock) tt refl s n refl refl
task_putting s n (Takes m) h = event_putting s n (Takes m) (rows.Got m) tt refl s n refl refl
task_putting s n (Hears m) h = (tt, event_putting s n (Hears m) (rows.Got m) tt refl s n refl refl)
task_putting s n (LosesLink other) h = event_putting s n (LosesLink other) (rows.LinkDown other) tt refl s n refl refl
task_putting s n RunsDown h = event_putting s n RunsDown rows.RunDown tt refl s n refl refl
task_putting s n Restarts h = (tt, undone_putting _ _ _ s (acted Boots n))
