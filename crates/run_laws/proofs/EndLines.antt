-- A task shows how a transaction ended only behind the line of that settlement, where the first branch was ending.
use Rattle.run_said.specs.log_laws.Slots.{slot_records, records_in, committed_of, waiting_for}
use Rattle.std.proofs.Common.{◌≡◌, ℕ, ◌+◌, ◌⊎◌, List, [], ◌∷◌, ◌++◌, inl, inr, map, take, zero, suc, Bool, true, false, Option, Some, None, if◌then◌else◌, refl, sym, ◌∙◌, subst}
use Rattle.std.specs.Prelude.{length, nat_lt}
use Rattle.std.specs.Option.{option_map, option_and_then}
use Rattle.std.specs.List.{AllByRecursion}
use Rattle.vms_model.specs.Ids.{Id}
use Rattle.vms_model.specs.Keys.{Key}
use Rattle.vms_model.specs.Transactions.{Outcome, Commit, Abort, Reason, Aborted}
use Rattle.vms_model.specs.Limits.{message_limit}
use Rattle.run_said.specs.transcript_model.Lines as line
use Rattle.run_said.specs.transcript_model.Lines.{Line, Cause}
use Rattle.run_said.specs.script_model.Statements.{Operation, Request, Init, Boot, Create, SetFile, StartTrans, AddBranch, StartBranch, Records, Direct, EndBranch, EndTrans, AbortTrans, Inquire, DeclareRm, JoinRm, AckEvent, ForgetRm, GetDti, LmcpShow, LmcpDump, Dump, DumpJournal, DumpImages, Backup, Recover, Fuse, Crash, Clock}
use Rattle.unit_laws.specs.records_model.Records.{Change}
use Rattle.unit_laws.specs.Journal as journal
use Rattle.unit_laws.specs.Journal.{JournalEntry, entry_size}
use Rattle.commit_protocol.specs.Messages.{Reply, Name, LogRecord}
use Rattle.commit_protocol.specs.Table as table
use Rattle.commit_protocol.specs.Table.{Branch, Key as BranchKey, Notes, Accepts, Prepares, Settles, Leaves, Acknowledges, Releases, Undoes, Sends, Prints}
use Rattle.commit_protocol.specs.Rows as rows
use Rattle.commit_protocol.specs.Rows.{Event, row, Got}
use Rattle.commit_protocol.specs.World.{In, undo_all}
use Rattle.run_said.specs.run_model.World as world
use Rattle.run_said.specs.run_model.World.{Shared, Node, Act, Tables, acted, shared_after, next_id, next_moment, tm_of}
use Rattle.run_said.specs.run_model.Answers as answers
use Rattle.run_said.specs.run_model.Answers.{Row, Service, Task, Serves, Ticks, Takes, Hears, LosesLink, RunsDown, Restarts, task_service, service, refused_before_reading, told_if, told_rows, table_rows, begins, just, shown_by, settled_line, branch_labelled, branch_named, powers}
use Rattle.run_said.specs.run_model.Steps.{Choice, Whole, WithoutMemory, Unpowered, Cut, task_effect, ready_node, lines_of_rows, rows_if, rows_to_cut, whole, begun}
use Rattle.run_said.proofs.run_model.Refusing.{not_ready}
use Rattle.run_laws.specs.Promises.{ended_line}
use Rattle.run_laws.proofs.EndRows.{ActEnds, AllEnd, IsEndingIn, Seen, SettlesSo, row_ends}
use Rattle.run_laws.proofs.Labelling.{served_up}
use Rattle.run_said.proofs.Passing.{AllPass, acknowledged_passes, append_passes, prepared_passes, released_passes, owed_passes, told_passes}
use Rattle.recovery_laws.proofs.world_laws.FileRows.{images_by, recovers_by, saves_by, sets_by, IsEntryLine}

abbrev pub IsShownIn : List Line → Id → Option Reason → Type 0
IsShownIn ls tid reason = (moment : ℕ) × In (ended_line tid reason moment) ls

-- a line that is no ENDED
abbrev pub is_unended : Line → Bool
is_unended (line.Ended tid reason) = false
is_unended _ = true

-- each ENDED among these lines comes behind the line of its settlement, among these and those seen before
module _ (P : Id → Type 0) where
  abbrev LineEnds : List Line → Line → Type 0
  LineEnds seen (line.Ended tid reason) = P tid × IsShownIn seen tid reason
  LineEnds seen _ = Unit {0}

  abbrev pub LinesEnd : List Line → List Line → Type 0
  LinesEnd seen [] = Unit {0}
  LinesEnd seen (l ∷ ls) = LineEnds seen l × LinesEnd (l ∷ seen) ls

  more_lines : (seen wider ls : List Line) → ((l : Line) → In l seen → In l wider) → LinesEnd seen ls → LinesEnd wider ls
  more_lines seen wider [] f h = tt
  more_lines seen wider (l ∷ ls) f h = (one l h.0, more_lines (l ∷ seen) (l ∷ wider) ls (λ x i. elim i [ inl e ↦ inl e | inr j ↦ inr (f x j) ]) h.1)
    where
      one : (l : Line) → LineEnds seen l → LineEnds wider l
      one (line.Ended tid reason) (p, (moment, i)) = (p, (moment, f (ended_line tid reason moment) i))
      one _ g = tt

  append_lines : (seen xs ys : List Line) → LinesEnd seen xs → LinesEnd seen ys → LinesEnd seen (xs ++ ys)
  append_lines seen [] ys f g = g
  append_lines seen (x ∷ xs) ys f g = (f.0, append_lines (x ∷ seen) xs ys f.1 (more_lines seen (x ∷ seen) ys (λ l i. inr i) g))

  pub unended : (seen ls : List Line) → AllPass is_unended ls → LinesEnd seen ls
  unended seen [] h = tt
  unended seen (l ∷ ls) h = (one l h.0, unended (l ∷ seen) ls h.1)
    where
      one : (l : Line) → is_unended l ≡ true → LineEnds seen l
      one (line.Ended tid reason) e = let no : ⊥ = cc in absurd no
      one _ e = tt

  -- where it stands
  pub ends_there : (seen ls front : List Line) (tid : Id) (reason : Option Reason) (behind : List Line) → LinesEnd seen ls → ls ≡ front ++ line.Ended tid reason ∷ behind → P tid × ((moment : ℕ) × (In (ended_line tid reason moment) front ⊎ In (ended_line tid reason moment) seen))
  ends_there seen [] [] tid reason behind h e = let no : ⊥ = cc in absurd no
  ends_there seen [] (y ∷ front) tid reason behind h e = let no : ⊥ = cc in absurd no
  ends_there seen (l ∷ ls) [] tid reason behind h e =
      let head : l ≡ line.Ended tid reason = cc in
      let g = subst (λ (x : Line). LineEnds seen x) head h.0 in
      (g.0, (g.1.0, inr g.1.1))
  ends_there seen (l ∷ ls) (y ∷ front) tid reason behind h e =
      let head : l ≡ y = cc in
      let tail : ls ≡ front ++ line.Ended tid reason ∷ behind = cc in
      let r = ends_there (l ∷ seen) ls front tid reason behind h.1 tail in
      (r.0, (r.1.0, elim r.1.1 [ inl i ↦ inl (inr i) | inr (inl same) ↦ inl (inl (same ∙ head)) | inr (inr j) ↦ inr j ]))

  -- Rows.

  abbrev pub RowsEnd : List Line → List Row → Type 0
  RowsEnd seen [] = Unit {0}
  RowsEnd seen (r ∷ rs) = LinesEnd seen r.lines × RowsEnd (r.lines ++ seen) rs

  behind_lines : (seen xs ys : List Line) → LinesEnd seen xs → LinesEnd (xs ++ seen) ys → LinesEnd seen (xs ++ ys)
  behind_lines seen [] ys f g = g
  behind_lines seen (x ∷ xs) ys f g = (f.0, behind_lines (x ∷ seen) xs ys f.1 (more_lines (x ∷ xs ++ seen) (xs ++ x ∷ seen) ys (λ l i. elim i [ inl e ↦ inner l xs (inl e) | inr j ↦ between l xs j ]) g))
    where
      inner : (l : Line) (xs : List Line) → In l (x ∷ seen) → In l (xs ++ x ∷ seen)
      inner l [] i = i
      inner l (z ∷ zs) i = inr (inner l zs i)

      between : (l : Line) (xs : List Line) → In l (xs ++ seen) → In l (xs ++ x ∷ seen)
      between l [] i = inr i
      between l (z ∷ zs) (inl e) = inl e
      between l (z ∷ zs) (inr i) = inr (between l zs i)

  lines_end : (seen : List Line) (rs : List Row) → RowsEnd seen rs → LinesEnd seen (lines_of_rows rs)
  lines_end seen [] h = tt
  lines_end seen (r ∷ rs) h = behind_lines seen r.lines (lines_of_rows rs) h.0 (lines_end (r.lines ++ seen) rs h.1)

  take_end : (k : ℕ) (seen : List Line) (rs : List Row) → RowsEnd seen rs → RowsEnd seen (take k rs)
  take_end zero seen rs h = tt
  take_end (suc k) seen [] h = tt
  take_end (suc k) seen (r ∷ rs) h = (h.0, take_end k (r.lines ++ seen) rs h.1)

  cut_end : (o : Option Line) (rs : List Row) → RowsEnd [] rs → RowsEnd [] (rows_if o rs)
  cut_end (Some refusal) rs h = tt
  cut_end None rs h = h

  -- what acts settled is shown by these lines
  abbrev AreShown : List table.Act → List Line → Type 0
  AreShown seen ls = (t : Id) (reason : Option Reason) → Seen seen t reason → IsShownIn ls t reason

  act_lines : (a : table.Act) (moment : ℕ) (n : Node) (s : Shared) (seen : List table.Act) (ls : List Line) → AreShown seen ls → ActEnds P seen a → LinesEnd ls (shown_by a moment n s)
  act_lines (Notes b) moment n s seen ls f h = tt
  act_lines (Accepts b c) moment n s seen ls f h = (tt, tt)
  act_lines (Prepares b) moment n s seen ls f h = (tt, tt)
  act_lines (Settles k Commit reason r) moment n s seen ls f h = (tt, tt)
  act_lines (Settles k Abort reason r) moment n s seen ls f h = (tt, tt)
  act_lines (Leaves k) moment n s seen ls f h = (tt, tt)
  act_lines (Acknowledges k) moment n s seen ls f h = unended ls _ (acknowledged_passes is_unended (λ tid serial. refl) k n.volatile.records)
  act_lines (Releases serial rm) moment n s seen ls f h = unended ls _ (released_passes is_unended (λ tid serial. refl) serial rm n.volatile.records)
  act_lines (Undoes k) moment n s seen ls f h = (tt, tt)
  act_lines (Sends m) moment n s seen ls f h = go (nat_lt (length s.wire) message_limit)
    where
      go : (b : Bool) → LinesEnd ls ((if b then line.Sent (length s.wire + 1) m else line.Unsent m) ∷ [])
      go true = (tt, tt)
      go false = (tt, tt)
  act_lines (Prints (table.Started k)) moment n s seen ls f h = (tt, tt)
  act_lines (Prints (table.Ended t reason)) moment n s seen ls f h = ((h.0, f t reason h.1), tt)
  act_lines (Prints (table.Told event k rm)) moment n s seen ls f h = unended ls _ (told_passes is_unended (λ event tid serial rm. refl) event k rm (answers.is_declared n rm))

  in_more : (l : Line) (xs ls : List Line) → In l ls → In l (xs ++ ls)
  in_more l [] ls i = i
  in_more l (x ∷ xs) ls i = inr (in_more l xs ls i)

  act_shows : (a : table.Act) (moment : ℕ) (n : Node) (s : Shared) (ls : List Line) (t : Id) (reason : Option Reason) → SettlesSo a t reason → IsShownIn (shown_by a moment n s ++ ls) t reason
  act_shows (Settles k Commit why r) moment n s ls t None e = (moment, inl (λ i. line.Committed (sym e i).tid (sym e i).serial moment))
  act_shows (Settles k Abort why r) moment n s ls t (Some reason) (e, q) = (moment, inl (λ i. line.Aborted (sym e i).tid (sym e i).serial (sym q i) moment))
  act_shows (Settles k Commit why r) moment n s ls t (Some reason) e = absurd e
  act_shows (Settles k Abort why r) moment n s ls t None e = absurd e
  act_shows _ moment n s ls t reason e = absurd e

  table_end : (todo : List table.Act) (s : Shared) (n : Node) (seen : List table.Act) (ls : List Line) → AreShown seen ls → AllEnd P seen todo → RowsEnd ls (table_rows todo s n)
  table_end [] s n seen ls f h = tt
  table_end (a ∷ todo) s n seen ls f h = (
    act_lines a (next_moment n) n s seen ls f h.0,
    table_end todo (shared_after (Tables a (next_moment n)) s) (acted (Tables a (next_moment n)) n) (a ∷ seen) (shown_by a (next_moment n) n s ++ ls) more h.1,
  )
    where
      more : AreShown (a ∷ seen) (shown_by a (next_moment n) n s ++ ls)
      more t reason (x, inl same, e) = act_shows a (next_moment n) n s ls t reason (subst (λ (y : table.Act). SettlesSo y t reason) same e)
      more t reason (x, inr i, e) = let r = f t reason (x, i, e) in (r.0, in_more (ended_line t reason r.0) (shown_by a (next_moment n) n s) ls r.1)

  undone_end : (ks : List BranchKey) (s : Shared) (n : Node) (ls : List Line) → RowsEnd ls (table_rows (undo_all ks) s n)
  undone_end [] s n ls = tt
  undone_end (k ∷ ks) s n ls = ((tt, tt), undone_end ks (shared_after (Tables (Undoes k) (next_moment n)) s) (acted (Tables (Undoes k) (next_moment n)) n) _)

-- Tasks.

-- where the first branch of a transaction is ending; nothing is so where a task that a node which is down may do too is done
abbrev pub EndingAt : Node → Task → Id → Type 0
EndingAt n (Serves Boot) tid = ⊥
EndingAt n (Serves (Init slots blocks)) tid = ⊥
EndingAt n (Serves DumpJournal) tid = ⊥
EndingAt n (Serves (DumpImages file side)) tid = ⊥
EndingAt n (Serves (Backup file)) tid = ⊥
EndingAt n (Serves (Recover file way)) tid = ⊥
EndingAt n (Serves (Fuse writes choice)) tid = ⊥
EndingAt n (Serves Crash) tid = ⊥
EndingAt n (Serves (Clock now)) tid = ⊥
EndingAt n Restarts tid = ⊥
EndingAt n _ tid = IsEndingIn n.volatile.branches tid

pub ending_up : (s : Shared) (n : Node) (t : Task) (tid : Id) → refused_before_reading s n (task_service t) ≡ None → EndingAt n t tid → IsEndingIn n.volatile.branches tid × (n.up ≡ true)
ending_up s n (Serves Boot) tid first h = absurd h
ending_up s n (Serves (Init slots blocks)) tid first h = absurd h
ending_up s n (Serves DumpJournal) tid first h = absurd h
ending_up s n (Serves (DumpImages file side)) tid first h = absurd h
ending_up s n (Serves (Backup file)) tid first h = absurd h
ending_up s n (Serves (Recover file way)) tid first h = absurd h
ending_up s n (Serves (Fuse writes choice)) tid first h = absurd h
ending_up s n (Serves Crash) tid first h = absurd h
ending_up s n (Serves (Clock now)) tid first h = absurd h
ending_up s n Restarts tid first h = absurd h
ending_up s n _ tid first h = (h, served_up n _ first)

none_seen : (t : Id) (reason : Option Reason) → Seen [] t reason → IsShownIn [] t reason
none_seen t reason (a, i, e) = absurd i

event_ends : (e : Event) (s : Shared) (n m : Node) → RowsEnd (IsEndingIn n.volatile.branches) [] (table_rows (row (tm_of n) e) s m)
event_ends e s n m = table_end (IsEndingIn n.volatile.branches) (row (tm_of n) e) s m [] [] none_seen (row_ends (tm_of n) e)

module _ (P : Id → Type 0) where
  created_ends : (n : Node) (made : ℕ → world.File) (need : ℕ) → RowsEnd P [] (answers.creates n made need)
  created_ends n made need = go (world.free_place n.durable.directory)
    where
      at : (place : ℕ) (o : Option ℕ) → RowsEnd P [] (elim o [ Some start ↦ record { act = Some (world.Creates place (made start)); lines = [] } ∷ [] | None ↦ [] ])
      at place (Some start) = (tt, tt)
      at place None = tt

      go : (o : Option ℕ) → RowsEnd P [] (elim o [ Some place ↦ elim (world.lowest_free n need) [ Some start ↦ record { act = Some (world.Creates place (made start)); lines = [] } ∷ [] | None ↦ [] ] | None ↦ [] ])
      go (Some place) = at place (world.lowest_free n need)
      go None = tt

  operated_ends : (n : Node) (file : List ℕ) (op : Operation) (b : Branch) → RowsEnd P [] (answers.operated n file op b ∷ [])
  operated_ends n file op b = go (answers.changes_at n file op)
    where
      go : (cs : List Change) → RowsEnd P [] (answers.silent (answers.operation_act b file cs (answers.keys_at n file op)) ∷ [])
      go [] = (tt, tt)
      go (c ∷ cs) = (tt, tt)

  directed_ends : (n : Node) (file : List ℕ) (cs : List Change) → RowsEnd P [] (answers.directed n file cs)
  directed_ends n file [] = tt
  directed_ends n file (c ∷ cs) = ((tt, tt), tt)

  entries_ends : (es : List JournalEntry) (position : ℕ) (seen : List Line) → RowsEnd P seen (map answers.shown_line (answers.entry_lines position es))
  entries_ends [] position seen = tt
  entries_ends (e ∷ es) position seen = (unended P seen (answers.entry_line position e ∷ []) (one e, tt), entries_ends es (position + entry_size e) _)
    where
      one : (e : JournalEntry) → is_unended (answers.entry_line position e) ≡ true
      one (journal.ChangeEntry tid serial file key before) = refl
      one (journal.PreparedEntry tid serial) = refl
      one (journal.SettledEntry tid serial outcome moment) = refl

  images_ends : (ls : List Line) → AllByRecursion IsEntryLine ls → (seen : List Line) → RowsEnd P seen (map answers.shown_line ls)
  images_ends [] a seen = tt
  images_ends (l ∷ ls) a seen = (unended P seen (l ∷ []) (subst (λ (k : Line). is_unended k ≡ true) (sym a.0.2) (one a.0.1), tt), images_ends ls a.1 _)
    where
      one : (e : JournalEntry) → is_unended (answers.entry_line a.0.0 e) ≡ true
      one (journal.ChangeEntry tid serial file key before) = refl
      one (journal.PreparedEntry tid serial) = refl
      one (journal.SettledEntry tid serial outcome moment) = refl

  records_ends : (es : List (Key × List ℕ)) (seen : List Line) → RowsEnd P seen (map answers.shown_record es)
  records_ends [] seen = tt
  records_ends (e ∷ es) seen = ((tt, tt), records_ends es _)

  logs_ends : (es : List (ℕ × LogRecord)) (seen : List Line) → RowsEnd P seen (map answers.shown_line (map answers.log_line es))
  logs_ends [] seen = tt
  logs_ends (e ∷ es) seen = ((tt, tt), logs_ends es _)

  branch_ends : (o : Option Branch) (does : Branch → List Row) → ((b : Branch) → RowsEnd P [] (does b)) → RowsEnd P [] (elim o [ Some b ↦ does b | None ↦ [] ])
  branch_ends (Some b) does h = h b
  branch_ends None does h = tt

  last_unended : (n : Node) → AllPass is_unended (answers.last_lines n)
  last_unended n = go n.durable.last
    where
      one : (t : world.Settlement) (o : Outcome) (r : Option Reason) → AllPass is_unended (elim o [ Commit ↦ line.LastCommitted t.tid t.serial t.moment ∷ [] | Abort ↦ elim r [ Some reason ↦ line.LastAborted t.tid t.serial reason t.moment ∷ [] | None ↦ [] ] ])
      one t Commit r = (refl, tt)
      one t Abort (Some reason) = (refl, tt)
      one t Abort None = tt

      go : (o : Option world.Settlement) → AllPass is_unended (elim o [ Some t ↦ answers.last_line t | None ↦ [] ])
      go (Some t) = one t t.outcome t.reason
      go None = tt

  boot_ends : (s : Shared) (n : Node) → RowsEnd P [] (answers.boot_rows s n)
  boot_ends s n = (unended P [] (answers.last_lines n) (last_unended n), undone_end P _ s (acted world.Boots n) _)

begins_ends : (s : Shared) (n : Node) (o : Option world.Label) → RowsEnd (IsEndingIn n.volatile.branches) [] (told_if s n (option_and_then (begins n) o))
begins_ends s n None = tt
begins_ends s n (Some l) = go l.bid
  where
    go : (o : Option Id) → RowsEnd (IsEndingIn n.volatile.branches) [] (told_if s n (option_map (λ bid. let t : answers.Telling = record { before = world.Draws ∷ world.Numbers l.name (next_id n) ∷ []; event = rows.Begin l.tid (next_id n) bid } in t) o))
    go None = tt
    go (Some bid) = (tt, (tt, event_ends (rows.Begin l.tid (next_id n) bid) (answers.all_shared (world.Draws ∷ world.Numbers l.name (next_id n) ∷ []) s) n (answers.all_acted (world.Draws ∷ world.Numbers l.name (next_id n) ∷ []) n)))

asked_ends : (s : Shared) (n : Node) (o : Option Branch) → RowsEnd (IsEndingIn n.volatile.branches) [] (told_if s n (option_map (λ (b : Branch). just (rows.InquireBranch b.key.serial)) o))
asked_ends s n (Some b) = event_ends (rows.InquireBranch b.key.serial) s n n
asked_ends s n None = tt

replied_ends : (s : Shared) (n : Node) (rm : Name) (reply : Reply) (o : Option Id) → RowsEnd (IsEndingIn n.volatile.branches) [] (told_if s n (option_map (λ serial. just (rows.Replied serial rm reply)) o))
replied_ends s n rm reply (Some serial) = event_ends (rows.Replied serial rm reply) s n n
replied_ends s n rm reply None = tt

request_ends : (s : Shared) (n : Node) (request : Request) → RowsEnd (EndingAt n (Serves request)) [] ((service request).rows s n)
request_ends s n (Init slots blocks) = tt
request_ends s n Boot = boot_ends (EndingAt n (Serves Boot)) s n
request_ends s n (Create file bucket size form) = created_ends (IsEndingIn n.volatile.branches) n _ _
request_ends s n (SetFile file setting) = sets_by (RowsEnd (EndingAt n (Serves (SetFile file setting))) []) tt n file setting (λ mark. (tt, tt))
request_ends s n (StartTrans label seconds) = (tt, (tt, (tt, tt)))
request_ends s n (AddBranch label other new) = branch_ends (IsEndingIn n.volatile.branches) (branch_labelled s n label) (λ b. told_rows s n (answers.adds n other new b)) (λ b. (tt, (tt, event_ends (rows.Authorise b.key.tid (next_id n)) _ n _)))
request_ends s n (StartBranch label) = begins_ends s n (world.labelled n.name label s.labels)
request_ends s n (Records label file op) = branch_ends (IsEndingIn n.volatile.branches) (branch_labelled s n label) (λ b. answers.operated n file op b ∷ []) (λ b. operated_ends (IsEndingIn n.volatile.branches) n file op b)
request_ends s n (Direct file op) = directed_ends (IsEndingIn n.volatile.branches) n file (answers.changes_at n file op)
request_ends s n (EndBranch label) = branch_ends (IsEndingIn n.volatile.branches) (branch_labelled s n label) (λ b. told_rows s n (just (rows.EndBranch b.key.serial))) (λ b. event_ends (rows.EndBranch b.key.serial) s n n)
request_ends s n (EndTrans label) = branch_ends (IsEndingIn n.volatile.branches) (branch_labelled s n label) (λ b. told_rows s n (just (rows.EndTrans b.key.tid))) (λ b. event_ends (rows.EndTrans b.key.tid) s n n)
request_ends s n (AbortTrans label) = branch_ends (IsEndingIn n.volatile.branches) (branch_labelled s n label) (λ b. told_rows s n (just (rows.AbortBranch b.key.serial Aborted))) (λ b. event_ends (rows.AbortBranch b.key.serial Aborted) s n n)
request_ends s n (Inquire who) = asked_ends s n (branch_named s n who)
request_ends s n (DeclareRm rm) = (unended (IsEndingIn n.volatile.branches) [] _ (owed_passes is_unended (λ event tid serial rm. refl) rm (waiting_for rm (committed_of (records_in n.durable.log)))), tt)
request_ends s n (JoinRm label rm) = branch_ends (IsEndingIn n.volatile.branches) (branch_labelled s n label) (λ b. told_rows s n (just (rows.JoinRm b.key.serial rm))) (λ b. event_ends (rows.JoinRm b.key.serial rm) s n n)
request_ends s n (AckEvent who rm reply) = replied_ends s n rm reply (answers.serial_named s n who)
request_ends s n (ForgetRm rm) = (tt, tt)
request_ends s n (GetDti who) = tt
request_ends s n LmcpShow = tt
request_ends s n LmcpDump = logs_ends (IsEndingIn n.volatile.branches) (slot_records 0 n.durable.log) []
request_ends s n (Dump file) = records_ends (IsEndingIn n.volatile.branches) (answers.records_of n file) []
request_ends s n DumpJournal = entries_ends (EndingAt n (Serves DumpJournal)) n.durable.units.entries n.durable.units.first []
request_ends s n (DumpImages file side) = images_by (RowsEnd (EndingAt n (Serves (DumpImages file side))) []) tt n file side (λ ls a. images_ends (EndingAt n (Serves (DumpImages file side))) ls a [])
request_ends s n (Backup file) = saves_by (RowsEnd (EndingAt n (Serves (Backup file))) []) tt n file (λ start. (tt, tt))
request_ends s n (Recover file way) = recovers_by (RowsEnd (EndingAt n (Serves (Recover file way))) []) tt n file way (λ start buckets m. (tt, tt))
request_ends s n (Fuse writes choice) = (tt, tt)
request_ends s n Crash = ((tt, tt), tt)
request_ends s n (Clock now) = (tt, tt)

task_ends : (s : Shared) (n : Node) (t : Task) → RowsEnd (EndingAt n t) [] ((task_service t).rows s n)
task_ends s n (Serves request) = request_ends s n request
task_ends s n Ticks = event_ends (rows.Clock n.clock) s n n
task_ends s n (Takes m) = event_ends (Got m) s n n
task_ends s n (Hears m) = ((tt, tt), table_end (IsEndingIn n.volatile.branches) (row (tm_of n) (Got m)) s n [] _ (λ t reason h. absurd h.1) (row_ends (tm_of n) (Got m)))
task_ends s n (LosesLink other) = event_ends (rows.LinkDown other) s n n
task_ends s n RunsDown = event_ends rows.RunDown s n n
task_ends s n Restarts = boot_ends (EndingAt n Restarts) s n

closing_unended : (n : Node) (t : Task) → AllPass is_unended ((task_service t).closing_lines n)
closing_unended n (Serves request) = of_request request
  where
    of_request : (request : Request) → AllPass is_unended ((service request).closing_lines n)
    of_request Boot = prepared_passes is_unended (λ tid serial. refl) _
    of_request _ = tt
closing_unended n Restarts = append_passes is_unended (answers.prepared_lines n) (line.Booted n.name (n.durable.boot + 1) ∷ []) (prepared_passes is_unended (λ tid serial. refl) _) (refl, tt)
closing_unended n _ = tt

-- a disk that runs again changes nothing of it
ready_ending : (s : Shared) (stops : ℕ) (outturn : world.Outturn) (n : Node) (t : Task) (tid : Id) → EndingAt (ready_node outturn stops (task_service t) n) t tid → EndingAt n t tid
ready_ending s stops outturn n t tid h = go (powers (task_service t)) refl
  where
    booting : (t : Task) → powers (task_service t) ≡ true → EndingAt (ready_node outturn stops (task_service t) n) t tid → EndingAt n t tid
    booting (Serves request) on g = of_request request on g
      where
        of_request : (r : Request) → powers (service r) ≡ true → EndingAt (ready_node outturn stops (service r) n) (Serves r) tid → EndingAt n (Serves r) tid
        of_request Boot on g = g
        of_request (Init slots blocks) on g = g
        of_request _ on g = let no : ⊥ = cc in absurd no
    booting Restarts on g = g
    booting _ on g = let no : ⊥ = cc in absurd no

    go : (b : Bool) → powers (task_service t) ≡ b → EndingAt n t tid
    go true on = booting t on h
    go false off = subst (λ m. EndingAt m t tid) (not_ready outturn stops (task_service t) n off) h

pub effect_ends : (s : Shared) (stops : ℕ) (n : Node) (t : Task) (c : Choice) (front : List Line) (tid : Id) (reason : Option Reason) (behind : List Line) → (task_effect s stops n t c).lines ≡ front ++ line.Ended tid reason ∷ behind → EndingAt n t tid × IsShownIn front tid reason
effect_ends s stops n t c front tid reason behind e = go c e
  where
    found : (ready : Node) (ls : List Line) → (EndingAt ready t tid → EndingAt n t tid) → LinesEnd (EndingAt ready t) [] ls → ls ≡ front ++ line.Ended tid reason ∷ behind → EndingAt n t tid × IsShownIn front tid reason
    found ready ls f h q =
        let r = ends_there (EndingAt ready t) [] ls front tid reason behind h q in
        (f r.0, (r.1.0, elim r.1.1 [ inl i ↦ i | inr none ↦ absurd none ]))

    go : (c : Choice) → (task_effect s stops n t c).lines ≡ front ++ line.Ended tid reason ∷ behind → EndingAt n t tid × IsShownIn front tid reason
    go (Whole outturn) q = begin (refused_before_reading s n (task_service t)) q
      where
        ready : Node
        ready = ready_node outturn stops (task_service t) n

        late : (o : Option Line) → (begun s ready (task_service t) o).lines ≡ front ++ line.Ended tid reason ∷ behind → EndingAt n t tid × IsShownIn front tid reason
        late (Some refusal) q = found n [] (λ h. h) tt q
        late None q =
            let rs = (task_service t).rows s ready in
            found ready _ (ready_ending s stops outturn n t tid) (append_lines (EndingAt ready t) [] (lines_of_rows rs) ((task_service t).closing_lines ready) (lines_end (EndingAt ready t) [] rs (task_ends s ready t)) (unended (EndingAt ready t) [] ((task_service t).closing_lines ready) (closing_unended ready t))) q

        begin : (o : Option Line) → (whole s n ready (task_service t) o).lines ≡ front ++ line.Ended tid reason ∷ behind → EndingAt n t tid × IsShownIn front tid reason
        begin (Some refusal) q = found n [] (λ h. h) tt q
        begin None q = late ((task_service t).refused_after_reading s ready) q
    go WithoutMemory q = found n [] (λ h. h) tt q
    go Unpowered q = found n (line.Down n.name line.Failed ∷ []) (λ h. h) (tt, tt) q
    go (Cut outturn done started cause) q =
        let ready = ready_node outturn stops (task_service t) n in
        let all = rows_to_cut s ready (task_service t) in
        found ready _ (ready_ending s stops outturn n t tid)
        (append_lines (EndingAt ready t) [] (lines_of_rows (take done all)) (line.Down ready.name cause ∷ []) (lines_end (EndingAt ready t) [] (take done all) (take_end (EndingAt ready t) done [] all (cut_end (EndingAt ready t) ((task_service t).refused_after_reading s ready) ((task_service t).rows s ready) (task_ends s ready t)))) (tt, tt)) q
