-- What a task leaves of a node by which no label is made or takes a branch, and no volume is made: the ids that the node drew stay drawn, no branch begins, and the
-- labels stay.
use Rattle.run_said.specs.log_laws.Slots.{slot_records}
use Rattle.std.proofs.Common.{◌≡◌, ◌<◌, ◌≤◌, ℕ, ◌+◌, zero, suc, ◌⊎◌, List, [], ◌∷◌, ◌++◌, map, take, inl, inr, Bool, true, false, Option, Some, None, if◌then◌else◌, refl, sym, ◌∙◌, ap, subst, arith}
use Rattle.std.specs.Option.{option_map}
use Rattle.vms_model.specs.Ids.{Id}
use Rattle.vms_model.specs.Keys.{Key}
use Rattle.vms_model.specs.Transactions.{Aborted}
use Rattle.run_said.specs.transcript_model.Lines.{Line}
use Rattle.run_said.specs.script_model.Statements.{Operation, Request, Init, Boot, Create, SetFile, StartTrans, AddBranch, StartBranch, Records, Direct, EndBranch, EndTrans, AbortTrans, Inquire, DeclareRm, JoinRm, AckEvent, ForgetRm, GetDti, LmcpShow, LmcpDump, Dump, DumpJournal, DumpImages, Backup, Recover, Fuse, Crash, Clock}
use Rattle.unit_laws.specs.records_model.Records.{Change}
use Rattle.unit_laws.specs.records_model.History.{same_id}
use Rattle.unit_laws.specs.Units.{Map}
use Rattle.commit_protocol.specs.Messages.{LogRecord, Name, Reply}
use Rattle.commit_protocol.specs.Table as table
use Rattle.commit_protocol.specs.Table.{Branch, Prepared, Key as BranchKey, Notes, Accepts, Prepares, Settles, Leaves, Acknowledges, Releases, Undoes, Sends, Prints, branches_of, cut, put, same_key, table_after}
use Rattle.commit_protocol.specs.Rows as rows
use Rattle.commit_protocol.specs.Rows.{Event, row}
use Rattle.commit_protocol.specs.Allowed.{is_prepared}
use Rattle.commit_protocol.specs.Standing.{BeginsNothing}
use Rattle.commit_protocol.specs.World.{In, undo_all}
use Rattle.run_said.specs.run_model.World as world
use Rattle.run_said.specs.run_model.World.{Shared, Node, File, Settlement, Durable, Act, Boots, ComesUp, Tables, Outturn, Lost, Taken, Half, acted, shared_after, shared_tabled, powered, unpowered, with_changed, with_half, with_settlement, settlement_of, aborted_prepared, is_durable, prepared_left, next_moment, tm_of}
use Rattle.run_said.specs.run_model.Answers as answers
use Rattle.run_said.specs.run_model.Answers.{Row, Service, Task, Serves, Ticks, Takes, Hears, LosesLink, RunsDown, Restarts, task_service, service, refused_before_reading, table_rows, told_if, told_rows, just, silent, branch_labelled, branch_named, powers, spoils}
use Rattle.run_said.specs.run_model.Steps.{Choice, Whole, WithoutMemory, Unpowered, Cut, task_effect, ready_node, node_after, node_after_rows, shared_then, shared_after_rows, rows_if, rows_to_cut, with_unknown_volume, whole, begun}
use Rattle.run_said.proofs.run_model.NodeLists.{clash}
use Rattle.run_laws.proofs.EffectsTell.{IsStep}
use Rattle.run_laws.proofs.Noting.{OpenIn, NotesIn, AllNote, row_notes}
use Rattle.recovery_laws.proofs.world_laws.FileRows.{images_by, recovers_by, saves_by, sets_by}

-- a node has an unsettled branch of this key that is not prepared; while the node is down, it had one when it fell
abbrev pub HasOpen : Node → BranchKey → Type 0
HasOpen n k = OpenIn n.volatile.branches k

-- an id is of an earlier boot than the node's, or of this one and no later than the last that it drew
abbrev pub IsPast : Node → Id → Type 0
IsPast n id = (id.boot < n.durable.boot) ⊎ ((id.boot ≡ n.durable.boot) × (id.seq ≤ n.volatile.drawn))

-- what was drawn stays so, and no branch begins, but for these
pub record Moves (K : BranchKey → Type 0) (n m : Node) : Type 0 where
  pub past : (id : Id) → IsPast n id → IsPast m id
  pub begun : (k : BranchKey) → HasOpen m k → HasOpen n k ⊎ K k

-- and none at all
pub record Follows (n m : Node) : Type 0 where
  pub past : (id : Id) → IsPast n id → IsPast m id
  pub begun : (k : BranchKey) → HasOpen m k → HasOpen n k

pub stays_so : (n : Node) → Follows n n
stays_so n = record { past = λ id h. h; begun = λ k h. h }

pub follows_on : (n m k : Node) → Follows n m → Follows m k → Follows n k
follows_on n m k f g = record { past = λ id h. g.past id (f.past id h); begun = λ j h. f.begun j (g.begun j h) }

moves_on : (K : BranchKey → Type 0) (n m k : Node) → Moves K n m → Moves K m k → Moves K n k
moves_on K n m k f g = record { past = λ id h. g.past id (f.past id h); begun = λ j h. elim (g.begun j h) [ inl i ↦ f.begun j i | inr i ↦ inr i ] }

past_same : (n m : Node) → m.durable.boot ≡ n.durable.boot → m.volatile.drawn ≡ n.volatile.drawn → (id : Id) → IsPast n id → IsPast m id
past_same n m boot drawn id (inl earlier) = inl (subst (λ x. id.boot < x) (sym boot) earlier)
past_same n m boot drawn id (inr here) = inr (here.0 ∙ sym boot, subst (λ x. id.seq ≤ x) (sym drawn) here.1)

pub past_more : (n m : Node) → m.durable.boot ≡ n.durable.boot → m.volatile.drawn ≡ n.volatile.drawn + 1 → (id : Id) → IsPast n id → IsPast m id
past_more n m boot drawn id (inl earlier) = inl (subst (λ x. id.boot < x) (sym boot) earlier)
past_more n m boot drawn id (inr here) = let low = here.1 in inr (here.0 ∙ sym boot, subst (λ x. id.seq ≤ x) (sym drawn) (omega (arith, low)))

past_booted : (n m : Node) → m.durable.boot ≡ n.durable.boot + 1 → (id : Id) → IsPast n id → IsPast m id
past_booted n m boot id (inl earlier) = inl (subst (λ x. id.boot < x) (sym boot) (omega (arith, earlier)))
past_booted n m boot id (inr here) = let same = here.0 in inl (subst (λ x. id.boot < x) (sym boot) (omega (arith, same)))

-- Branches after an act.

pub in_put : (b x : Branch) (bs : List Branch) → In x (put b bs) → (x ≡ b) ⊎ In x bs
in_put b x [] (inl same) = inl same
in_put b x [] (inr i) = absurd i
in_put b x (y ∷ bs) i = go (same_key y.key b.key) i (in_put b x bs)
  where
    go : (t : Bool) → In x (if t then b ∷ bs else y ∷ put b bs) → (In x (put b bs) → (x ≡ b) ⊎ In x bs) → (x ≡ b) ⊎ In x (y ∷ bs)
    go true (inl same) more = inl same
    go true (inr j) more = inr (inr j)
    go false (inl same) more = inr (inl same)
    go false (inr j) more = elim (more j) [ inl same ↦ inl same | inr k ↦ inr (inr k) ]

pub in_cut : (k : BranchKey) (x : Branch) (bs : List Branch) → In x (cut k bs) → In x bs
in_cut k x [] i = i
in_cut k x (y ∷ bs) i = go (same_key y.key k) i (in_cut k x bs)
  where
    go : (t : Bool) → In x (if t then cut k bs else y ∷ cut k bs) → (In x (cut k bs) → In x bs) → In x (y ∷ bs)
    go true j more = inr (more j)
    go false (inl same) more = inl same
    go false (inr j) more = inr (more j)

changed_open : (serial : Id) (bs : List Branch) (k : BranchKey) → OpenIn (with_changed serial bs) k → OpenIn bs k
changed_open serial [] k h = h
changed_open serial (b ∷ bs) k h = go (same_id serial b.key.serial) h (changed_open serial bs k)
  where
    go : (t : Bool) → OpenIn (if t then record b { changed = true } ∷ bs else b ∷ with_changed serial bs) k → (OpenIn (with_changed serial bs) k → OpenIn bs k) → OpenIn (b ∷ bs) k
    go true (x, inl same, unprepared, key) more = (b, inl refl, sym (ap (λ (y : Branch). is_prepared y.state) same) ∙ unprepared, sym (ap (λ (y : Branch). y.key) same) ∙ key)
    go true (x, inr i, unprepared, key) more = (x, inr i, unprepared, key)
    go false (x, inl same, unprepared, key) more = (x, inl same, unprepared, key)
    go false (x, inr i, unprepared, key) more = let r = more (x, i, unprepared, key) in (r.0, inr r.1, r.2, r.3)

pub none_open : (rs : List LogRecord) (k : BranchKey) → OpenIn (branches_of rs) k → ⊥
none_open [] k h = h.1
none_open (r ∷ rs) k (x, inl same, unprepared, key) = let no : true ≡ false = sym (ap (λ (y : Branch). is_prepared y.state) same) ∙ unprepared in cc
none_open (r ∷ rs) k (x, inr i, unprepared, key) = none_open rs k (x, i, unprepared, key)

module _ (K : BranchKey → Type 0) where
  pub put_open : (b : Branch) (bs : List Branch) → K b.key → (k : BranchKey) → OpenIn (put b bs) k → OpenIn bs k ⊎ K k
  put_open b bs h k o = elim (in_put b o.0 bs o.1) [
    | inl same ↦ inr (subst K (sym (ap (λ (y : Branch). y.key) same) ∙ o.3) h)
    | inr i ↦ inl (o.0, i, o.2, o.3)
  ]

  put_prepared : (b : Branch) (bs : List Branch) → is_prepared b.state ≡ true → (k : BranchKey) → OpenIn (put b bs) k → OpenIn bs k ⊎ K k
  put_prepared b bs h k o = elim (in_put b o.0 bs o.1) [
    | inl same ↦ absurd (clash _ h (sym (ap (λ (y : Branch). is_prepared y.state) same) ∙ o.2))
    | inr i ↦ inl (o.0, i, o.2, o.3)
  ]

  cut_open : (j : BranchKey) (bs : List Branch) (k : BranchKey) → OpenIn (cut j bs) k → OpenIn bs k ⊎ K k
  cut_open j bs k o = inl (o.0, in_cut j o.0 bs o.1, o.2, o.3)

  tabled_open : (a : table.Act) (bs : List Branch) → NotesIn K a → (k : BranchKey) → OpenIn (table_after a bs) k → OpenIn bs k ⊎ K k
  tabled_open (Notes b) bs h k o = put_open b bs h k o
  tabled_open (Accepts b c) bs h k o = put_open (record b { accepted = b.accepted ++ c ∷ [] }) bs h k o
  tabled_open (Prepares b) bs h k o = put_prepared (record b { state = Prepared }) bs refl k o
  tabled_open (Settles j out reason r) bs h k o = cut_open j bs k o
  tabled_open (Leaves j) bs h k o = cut_open j bs k o
  tabled_open (Undoes j) bs h k o = cut_open j bs k o
  tabled_open _ bs h k o = inl o

  -- an act that neither makes a label nor gives one a branch, makes no volume, and notes only these branches
  abbrev pub IsMild : Act → Type 0
  IsMild (world.Labels l) = ⊥
  IsMild (world.Numbers label serial) = ⊥
  IsMild (world.Formats slots journal) = ⊥
  IsMild (Tables a moment) = NotesIn K a
  IsMild _ = Unit {0}

  abbrev pub IsMildIf : Option Act → Type 0
  IsMildIf None = Unit {0}
  IsMildIf (Some act) = IsMild act

  abbrev pub AreMild : List Row → Type 0
  AreMild [] = Unit {0}
  AreMild (r ∷ rs) = IsMildIf r.act × AreMild rs

  settled_boot : (o : Option Settlement) (d : Durable) → (with_settlement o d).boot ≡ d.boot
  settled_boot None d = refl
  settled_boot (Some s) d = refl

  acted_moves : (act : Act) (n : Node) → IsMild act → Moves K n (acted act n)
  acted_moves (world.Labels l) n h = absurd h
  acted_moves (world.Numbers label serial) n h = absurd h
  acted_moves (world.Formats slots journal) n h = absurd h
  acted_moves (Tables a moment) n h = record { past = past_same n (acted (Tables a moment) n) (settled_boot (settlement_of a moment) _) refl; begun = tabled_open a n.volatile.branches h }
  acted_moves Boots n h = record { past = past_booted n (acted Boots n) refl; begun = λ k o. absurd (none_open (prepared_left n.durable) k o) }
  acted_moves (world.Changes tid serial file cs keys) n h = record { past = past_same n (acted (world.Changes tid serial file cs keys) n) refl refl; begun = λ k o. inl (changed_open serial n.volatile.branches k o) }
  acted_moves world.Draws n h = record { past = past_more n (acted world.Draws n) refl refl; begun = λ k o. inl o }
  acted_moves (world.Directs file cs s) n h = record { past = past_more n (acted (world.Directs file cs s) n) refl refl; begun = λ k o. inl o }
  acted_moves _ n h = record { past = λ id p. p; begun = λ k o. inl o }

  after_moves : (o : Option Act) (n : Node) → IsMildIf o → Moves K n (node_after o n)
  after_moves None n h = record { past = λ id p. p; begun = λ k o. inl o }
  after_moves (Some act) n h = acted_moves act n h

  pub rows_move : (rs : List Row) (n : Node) → AreMild rs → Moves K n (node_after_rows rs n)
  rows_move [] n h = record { past = λ id p. p; begun = λ k o. inl o }
  rows_move (r ∷ rs) n h = moves_on K n (node_after r.act n) (node_after_rows rs (node_after r.act n)) (after_moves r.act n h.0) (rows_move rs (node_after r.act n) h.1)

  -- Labels.

  tabled_labels : (a : table.Act) (s : Shared) → (shared_tabled a s).labels ≡ s.labels
  tabled_labels (Accepts b c) s = refl
  tabled_labels (Leaves k) s = refl
  tabled_labels (Sends m) s = refl
  tabled_labels _ s = refl

  acted_labels : (act : Act) (s : Shared) → IsMild act → (shared_after act s).labels ≡ s.labels
  acted_labels (world.Labels l) s h = absurd h
  acted_labels (world.Numbers label serial) s h = absurd h
  acted_labels (world.Formats slots journal) s h = absurd h
  acted_labels (Tables a moment) s h = tabled_labels a s
  acted_labels _ s h = refl

  then_labels : (o : Option Act) (s : Shared) → IsMildIf o → (shared_then o s).labels ≡ s.labels
  then_labels None s h = refl
  then_labels (Some act) s h = acted_labels act s h

  pub rows_labels : (rs : List Row) (s : Shared) → AreMild rs → (shared_after_rows rs s).labels ≡ s.labels
  rows_labels [] s h = refl
  rows_labels (r ∷ rs) s h = rows_labels rs (shared_then r.act s) h.1 ∙ then_labels r.act s h.0

  take_mild : (k : ℕ) (rs : List Row) → AreMild rs → AreMild (take k rs)
  take_mild zero rs h = tt
  take_mild (suc k) [] h = tt
  take_mild (suc k) (r ∷ rs) h = (h.0, take_mild k rs h.1)

  cut_mild : (o : Option Line) (rs : List Row) → AreMild rs → AreMild (rows_if o rs)
  cut_mild (Some refusal) rs h = tt
  cut_mild None rs h = h

  append_mild : (rs qs : List Row) → AreMild rs → AreMild qs → AreMild (rs ++ qs)
  append_mild [] qs h g = g
  append_mild (r ∷ rs) qs h g = (h.0, append_mild rs qs h.1 g)

  -- Rows.

  pub table_mild : (todo : List table.Act) (s : Shared) (n : Node) → AllNote K todo → AreMild (table_rows todo s n)
  table_mild [] s n h = tt
  table_mild (a ∷ todo) s n h = (h.0, table_mild todo (shared_after (Tables a (next_moment n)) s) (acted (Tables a (next_moment n)) n) h.1)

  undone_mild : (ks : List BranchKey) (s : Shared) (n : Node) → AreMild (table_rows (undo_all ks) s n)
  undone_mild [] s n = tt
  undone_mild (k ∷ ks) s n = (tt, undone_mild ks (shared_after (Tables (Undoes k) (next_moment n)) s) (acted (Tables (Undoes k) (next_moment n)) n))

  created_mild : (n : Node) (made : ℕ → File) (need : ℕ) → AreMild (answers.creates n made need)
  created_mild n made need = go (world.free_place n.durable.directory)
    where
      at : (place : ℕ) (o : Option ℕ) → AreMild (elim o [ Some start ↦ record { act = Some (world.Creates place (made start)); lines = [] } ∷ [] | None ↦ [] ])
      at place (Some start) = (tt, tt)
      at place None = tt

      go : (o : Option ℕ) → AreMild (elim o [ Some place ↦ elim (world.lowest_free n need) [ Some start ↦ record { act = Some (world.Creates place (made start)); lines = [] } ∷ [] | None ↦ [] ] | None ↦ [] ])
      go (Some place) = at place (world.lowest_free n need)
      go None = tt

  operated_mild : (n : Node) (file : List ℕ) (op : Operation) (b : Branch) → AreMild (answers.operated n file op b ∷ [])
  operated_mild n file op b = go (answers.changes_at n file op)
    where
      go : (cs : List Change) → AreMild (silent (answers.operation_act b file cs (answers.keys_at n file op)) ∷ [])
      go [] = (tt, tt)
      go (c ∷ cs) = (tt, tt)

  directed_mild : (n : Node) (file : List ℕ) (cs : List Change) → AreMild (answers.directed n file cs)
  directed_mild n file [] = tt
  directed_mild n file (c ∷ cs) = (tt, tt)

  lines_mild : (ls : List Line) → AreMild (map answers.shown_line ls)
  lines_mild [] = tt
  lines_mild (l ∷ ls) = (tt, lines_mild ls)

  records_mild : (es : List (Key × List ℕ)) → AreMild (map answers.shown_record es)
  records_mild [] = tt
  records_mild (e ∷ es) = (tt, records_mild es)

  branch_mild : (o : Option Branch) (does : Branch → List Row) → ((b : Branch) → AreMild (does b)) → AreMild (elim o [ Some b ↦ does b | None ↦ [] ])
  branch_mild (Some b) does h = h b
  branch_mild None does h = tt

-- Tasks by which no label is made or takes a branch, and no volume is made.

abbrev pub is_mild_request : Request → Bool
is_mild_request (Init slots journal) = false
is_mild_request (StartTrans label seconds) = false
is_mild_request (AddBranch label other new) = false
is_mild_request (StartBranch label) = false
is_mild_request _ = true

abbrev pub is_mild : Task → Bool
is_mild (Serves request) = is_mild_request request
is_mild _ = true

event_mild : (e : Event) (s : Shared) (n : Node) → BeginsNothing e → AreMild (HasOpen n) (table_rows (row (tm_of n) e) s n)
event_mild e s n h = table_mild (HasOpen n) (row (tm_of n) e) s n (row_notes (tm_of n) e h)

asked_mild : (s : Shared) (n : Node) (o : Option Branch) → AreMild (HasOpen n) (told_if s n (option_map (λ (b : Branch). just (rows.InquireBranch b.key.serial)) o))
asked_mild s n (Some b) = event_mild (rows.InquireBranch b.key.serial) s n tt
asked_mild s n None = tt

replied_mild : (s : Shared) (n : Node) (rm : Name) (reply : Reply) (o : Option Id) → AreMild (HasOpen n) (told_if s n (option_map (λ serial. just (rows.Replied serial rm reply)) o))
replied_mild s n rm reply (Some serial) = event_mild (rows.Replied serial rm reply) s n tt
replied_mild s n rm reply None = tt

request_mild : (s : Shared) (n : Node) (request : Request) → is_mild_request request ≡ true → AreMild (HasOpen n) ((service request).rows s n)
request_mild s n (Init slots journal) h = let no : ⊥ = cc in absurd no
request_mild s n (StartTrans label seconds) h = let no : ⊥ = cc in absurd no
request_mild s n (AddBranch label other new) h = let no : ⊥ = cc in absurd no
request_mild s n (StartBranch label) h = let no : ⊥ = cc in absurd no
request_mild s n Boot h = (tt, undone_mild (HasOpen n) _ s (acted Boots n))
request_mild s n (Create file bucket size form) h = created_mild (HasOpen n) n _ _
request_mild s n (SetFile file setting) h = sets_by (AreMild (HasOpen n)) tt n file setting (λ mark. (tt, tt))
request_mild s n (Records label file op) h = branch_mild (HasOpen n) (branch_labelled s n label) (λ b. answers.operated n file op b ∷ []) (λ b. operated_mild (HasOpen n) n file op b)
request_mild s n (Direct file op) h = directed_mild (HasOpen n) n file (answers.changes_at n file op)
request_mild s n (EndBranch label) h = branch_mild (HasOpen n) (branch_labelled s n label) (λ b. told_rows s n (just (rows.EndBranch b.key.serial))) (λ b. event_mild (rows.EndBranch b.key.serial) s n tt)
request_mild s n (EndTrans label) h = branch_mild (HasOpen n) (branch_labelled s n label) (λ b. told_rows s n (just (rows.EndTrans b.key.tid))) (λ b. event_mild (rows.EndTrans b.key.tid) s n tt)
request_mild s n (AbortTrans label) h = branch_mild (HasOpen n) (branch_labelled s n label) (λ b. told_rows s n (just (rows.AbortBranch b.key.serial Aborted))) (λ b. event_mild (rows.AbortBranch b.key.serial Aborted) s n tt)
request_mild s n (Inquire who) h = asked_mild s n (branch_named s n who)
request_mild s n (DeclareRm rm) h = (tt, tt)
request_mild s n (JoinRm label rm) h = branch_mild (HasOpen n) (branch_labelled s n label) (λ b. told_rows s n (just (rows.JoinRm b.key.serial rm))) (λ b. event_mild (rows.JoinRm b.key.serial rm) s n tt)
request_mild s n (AckEvent who rm reply) h = replied_mild s n rm reply (answers.serial_named s n who)
request_mild s n (ForgetRm rm) h = (tt, tt)
request_mild s n (GetDti who) h = tt
request_mild s n LmcpShow h = tt
request_mild s n LmcpDump h = lines_mild (HasOpen n) (map answers.log_line (slot_records 0 n.durable.log))
request_mild s n (Dump file) h = records_mild (HasOpen n) (answers.records_of n file)
request_mild s n DumpJournal h = lines_mild (HasOpen n) (answers.entry_lines n.durable.units.first n.durable.units.entries)
request_mild s n (DumpImages file side) h = images_by (AreMild (HasOpen n)) tt n file side (λ ls a. lines_mild (HasOpen n) ls)
request_mild s n (Backup file) h = saves_by (AreMild (HasOpen n)) tt n file (λ start. (tt, tt))
request_mild s n (Recover file way) h = recovers_by (AreMild (HasOpen n)) tt n file way (λ start buckets m. (tt, tt))
request_mild s n (Fuse writes choice) h = (tt, tt)
request_mild s n Crash h = (tt, tt)
request_mild s n (Clock now) h = (tt, tt)

pub task_mild : (s : Shared) (n : Node) (t : Task) → is_mild t ≡ true → AreMild (HasOpen n) ((task_service t).rows s n)
task_mild s n (Serves request) h = request_mild s n request h
task_mild s n Ticks h = event_mild (rows.Clock n.clock) s n tt
task_mild s n (Takes m) h = event_mild (rows.Got m) s n tt
task_mild s n (Hears m) h = (tt, event_mild (rows.Got m) s n tt)
task_mild s n (LosesLink other) h = event_mild (rows.LinkDown other) s n tt
task_mild s n RunsDown h = event_mild rows.RunDown s n tt
task_mild s n Restarts h = (tt, undone_mild (HasOpen n) _ s (acted Boots n))

closing_mild : (t : Task) → is_mild t ≡ true → IsMildIf (λ k. ⊥) (task_service t).closing
closing_mild (Serves request) h = go request h
  where
    go : (request : Request) → is_mild_request request ≡ true → IsMildIf (λ k. ⊥) (service request).closing
    go (Init slots journal) k = let no : ⊥ = cc in absurd no
    go Boot k = tt
    go _ k = tt
closing_mild Restarts h = tt
closing_mild _ h = tt

-- What a task leaves.

own : (n m : Node) → Moves (HasOpen n) n m → Follows n m
own n m h = record { past = h.past; begun = λ k o. elim (h.begun k o) [ inl i ↦ i | inr i ↦ i ] }

none_own : (n m : Node) → Moves (λ k. ⊥) n m → Follows n m
none_own n m h = record { past = h.past; begun = λ k o. elim (h.begun k o) [ inl i ↦ i | inr i ↦ absurd i ] }

durable_mild : (act : Act) → is_durable act ≡ true → IsMild (λ k. ⊥) act
durable_mild (world.Labels l) h = let no : ⊥ = cc in absurd no
durable_mild (world.Numbers label serial) h = let no : ⊥ = cc in absurd no
durable_mild (world.Formats slots journal) h = let no : ⊥ = cc in absurd no
durable_mild (Tables a moment) h = go a h
  where
    go : (a : table.Act) → is_durable (Tables a moment) ≡ true → NotesIn (λ k. ⊥) a
    go (Notes b) k = let no : ⊥ = cc in absurd no
    go (Accepts b c) k = let no : ⊥ = cc in absurd no
    go _ k = tt
durable_mild _ h = tt

pub powered_follows : (outturn : Outturn) (stops : ℕ) (n : Node) → IsStep n.under_way → Follows n (powered outturn stops n)
powered_follows outturn stops n h = go outturn n.under_way h
  where
    halved : (standing : List ℕ → Map) (o : Option Id) → (with_half o standing n.durable).boot ≡ n.durable.boot
    halved standing None = refl
    halved standing (Some serial) = refl

    go : (t : Outturn) (o : Option Act) → IsStep o → Follows n (powered t stops (record n { under_way = o }))
    go Taken (Some act) k = let f = none_own (record n { under_way = Some act }) (acted act (record n { under_way = Some act })) (acted_moves (λ k. ⊥) act (record n { under_way = Some act }) (durable_mild act k)) in record { past = f.past; begun = f.begun }
    go Taken None k = record { past = λ id p. p; begun = λ j o. o }
    go Lost o k = record { past = λ id p. p; begun = λ j o. o }
    go (Half standing) o k = record { past = past_same n (powered (Half standing) stops (record n { under_way = o })) (halved standing (aborted_prepared o n.durable)) refl; begun = λ j o. o }

spoilt_follows : (b : Bool) (n m : Node) → Follows n m → Follows n (with_unknown_volume b m)
spoilt_follows true n m f = record { past = f.past; begun = f.begun }
spoilt_follows false n m f = f

pub ready_follows : (outturn : Outturn) (stops : ℕ) (e : Service) (n : Node) → IsStep n.under_way → Follows n (ready_node outturn stops e n)
ready_follows outturn stops e n h = go (powers e)
  where
    go : (b : Bool) → Follows n (if b then with_unknown_volume (spoils e) (powered outturn stops n) else n)
    go true = spoilt_follows (spoils e) n (powered outturn stops n) (powered_follows outturn stops n h)
    go false = stays_so n

pub effect_follows : (s : Shared) (stops : ℕ) (n : Node) (t : Task) (c : Choice) → is_mild t ≡ true → IsStep n.under_way → Follows n (task_effect s stops n t c).node × ((task_effect s stops n t c).shared.labels ≡ s.labels)
effect_follows s stops n t (Whole outturn) mild h = go (refused_before_reading s n e)
  where
    e : Service
    e = task_service t

    ready : Node
    ready = ready_node outturn stops e n

    ready_so : Follows n ready
    ready_so = ready_follows outturn stops e n h

    late : (o : Option Line) → Follows n (begun s ready e o).node × ((begun s ready e o).shared.labels ≡ s.labels)
    late (Some refusal) = (ready_so, refl)
    late None =
        let m = node_after_rows (e.rows s ready) ready in
        let rows = task_mild s ready t mild in
        let closing = closing_mild t mild in (
          follows_on n ready (node_after e.closing m) ready_so (follows_on ready m (node_after e.closing m) (own ready m (rows_move (HasOpen ready) (e.rows s ready) ready rows)) (none_own m (node_after e.closing m) (after_moves (λ k. ⊥) e.closing m closing))),
          then_labels (λ k. ⊥) e.closing (shared_after_rows (e.rows s ready) s) closing ∙ rows_labels (HasOpen ready) (e.rows s ready) s rows,
        )

    go : (o : Option Line) → Follows n (whole s n ready e o).node × ((whole s n ready e o).shared.labels ≡ s.labels)
    go (Some refusal) = (stays_so n, refl)
    go None = late (e.refused_after_reading s ready)
effect_follows s stops n t WithoutMemory mild h = (stays_so n, refl)
effect_follows s stops n t Unpowered mild h = (spoilt_follows (spoils (task_service t)) n (unpowered stops n) (record { past = λ id p. p; begun = λ k o. o }), refl)
effect_follows s stops n t (Cut outturn done started cause) mild h =
    let ready = ready_node outturn stops (task_service t) n in
    let rs = take done (rows_to_cut s ready (task_service t)) in
    let rows = take_mild (HasOpen ready) done (rows_to_cut s ready (task_service t)) (cut_mild (HasOpen ready) ((task_service t).refused_after_reading s ready) ((task_service t).rows s ready) (task_mild s ready t mild)) in
    let f = own ready (node_after_rows rs ready) (rows_move (HasOpen ready) rs ready rows) in
    let g = follows_on n ready (node_after_rows rs ready) (ready_follows outturn stops (task_service t) n h) f in
    (record { past = g.past; begun = g.begun }, rows_labels (HasOpen ready) rs s rows)
