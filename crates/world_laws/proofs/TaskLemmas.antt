-- What holds of a node in every world is kept by each task, at each choice.
use Rattle.std.proofs.Common.{◌≡◌, ◌≤◌, ◌<◌, ℕ, List, [], ◌∷◌, length, map, Bool, true, false, not, ◌||◌, Option, Some, None, if◌then◌else◌, refl, sym, ◌∙◌, ap, subst, arith, inl, inr}
use Rattle.std.specs.Prelude.{nat_le, nat_lt}
use Rattle.std.specs.Option.{option_and_then, option_map}
use Rattle.std.proofs.lemmas.Bool.{and_from, and_parts, both_ways, leb-false, ltb-false, leb-true}
use Rattle.vms_model.specs.Ids.{Id}
use Rattle.vms_model.specs.Limits.{bid_limit, manager_limit}
use Rattle.run_model.specs.transcript_model.Lines as line
use Rattle.run_model.specs.transcript_model.Lines.{Line, Cause}
use Rattle.run_model.specs.script_model.Statements.{Request, Init, Boot, Create, SetFile, StartTrans, AddBranch, StartBranch, Records, Direct, EndBranch, EndTrans, AbortTrans, Inquire, DeclareRm, JoinRm, AckEvent, ForgetRm, GetDti, LmcpShow, LmcpDump, Dump, DumpJournal, DumpImages, Backup, Recover, Fuse, Crash, Clock, Named, ByLabel, BySerial, Operation}
use Rattle.run_model.specs.records_model.History.{same_id}
use Rattle.run_model.specs.commit_protocol.Messages.{Join, Name, Reply}
use Rattle.run_model.specs.commit_protocol.Table as table
use Rattle.run_model.specs.commit_protocol.Table.{Branch, Key as BranchKey, Active, Joining, Notes, branch_serials, find, find_serial, first, is_first, same_key}
use Rattle.run_model.specs.commit_protocol.Rows as rows
use Rattle.run_model.specs.commit_protocol.Rows.{Event, blank, row}
use Rattle.run_model.specs.commit_protocol.Allowed.{allowed, is_active, is_prepared, is_working, may_authorise, may_end, may_join, there_is}
use Rattle.run_model.specs.commit_protocol.Standing.{BeginsNothing}
use Rattle.run_model.specs.commit_protocol.Agreement.{Distinct}
use Rattle.run_model.specs.commit_protocol.World.{In}
use Rattle.run_model.proofs.commit_protocol.Lists.{find-key, find_serial-key, find_serial-serial, told_id, told_key, same_key-true}
use Rattle.run_model.specs.log_laws.Slots.{slot_records}
use Rattle.run_model.specs.World.{Arms, Clocks, Declares, Draws, Falls, Label, Labels, Node, Numbers, Shared, acted, find_branch, labelled, next_id, serial_labelled, tm_of, next_moment, File, find_file}
use Rattle.run_model.specs.Operations.{data_refused, first_of, form_refused, keys_asked, keys_held, refused_if, changes_of}
use Rattle.run_model.specs.Answers.{Row, Service, Task, Serves, Ticks, Takes, Hears, LosesLink, RunsDown, Restarts, all_shared, adds, begins, branch_labelled, branch_named, directed, found_refused, in_state, is_first_active, image_lines, is_in_doubt, journal_at, setting_refused, shown_line, is_marked, is_open, is_volume_form, just, keys_refused, made_label, made_name, more_bids, more_branches, more_locks, needs_unit, new_file, of_file, operated, operation_refused, refused_before_reading, records_of, entry_lines, service, starts, task_service, there_is_file, to_branch, told_if, told_rows, unsettled, unsettled_label, direct_refused, changes_at, due_after, Telling, awaited_reply, declared_manager, has_joined, is_declared, is_joinable, known, known_branch, known_manager, known_serial, log_line, more_managers, serial_named, Known, Unheard, images_full}
use Rattle.run_model.specs.Steps.{Choice, TaskAllowed, task_effect}
use Rattle.run_model.proofs.ReplyLemmas.{is_so, reply_is_allowed}
use Rattle.world_laws.specs.Nodes.{IsKeptNode, IsRoomy, IsUp}
use Rattle.world_laws.proofs.MomentLemmas.{next_later}
use Rattle.world_laws.proofs.AnswerLemmas.{neither, not_refused}
use Rattle.world_laws.proofs.EffectLemmas.{boot_effect, init_effect, same_kept, up_effect, quiet_effect}
use Rattle.world_laws.proofs.FindLemmas.{some_is, found_serial}
use Rattle.world_laws.proofs.OperationLemmas.{direct_keeps, operation_keeps, changes_there}
use Rattle.world_laws.proofs.RowLemmas.{tabled_up}
use Rattle.world_laws.proofs.ServedLemmas.{RowsKeep, absent_next, begin_keeps, create_keeps, event_keeps, file_says, nothing_done, recovers_keep, roomy, saves_keep, sets_keep, shown_keeps, to_file_keeps, there_is as there_is_one}
use Rattle.world_laws.proofs.TableLemmas.{found_in, one_branch}
use Rattle.world_laws.proofs.UpLemmas.{declared_up, differ, drew_up, same_up}
use Rattle.vms_model.specs.Transactions.{Aborted}

-- Finding branches.

found_branch : (x : Id) (bs : List Branch) (b : Branch) → find_branch x bs ≡ Some b → In b bs
found_branch x [] b e = let none : ⊥ = cc in absurd none
found_branch x (c ∷ bs) b e = go (same_id x c.key.serial) e (found_branch x bs b)
  where
    go : (t : Bool) → ◌≡◌ {A = Option Branch} (if t then Some c else find_branch x bs) (Some b) → (find_branch x bs ≡ Some b → In b bs) → In b (c ∷ bs)
    go true k more = inl (sym (some_is c b k))
    go false k more = inr (more k)

never_none : (b : Branch) (bs : List Branch) → In b bs → find b.key bs ≡ None → ⊥
never_none b [] i e = i
never_none b (a ∷ bs) i e = elim (told_key a.key b.key) [
  | inl q ↦ (let k : ◌≡◌ {A = Option Branch} (Some a) None = rw (q.0) at e in let none : ⊥ = cc in none)
  | inr q ↦ (let k : find b.key bs ≡ None = rw (q.0) at e in elim i [ inl p ↦ q.1 (ap (λ (z : Branch). z.key) (sym p)) | inr more ↦ never_none b bs more k ])
]

find_of : (b : Branch) (bs : List Branch) → Distinct (branch_serials bs) → In b bs → find b.key bs ≡ Some b
find_of b bs d i = go (find b.key bs) refl
  where
    go : (o : Option Branch) → find b.key bs ≡ o → o ≡ Some b
    go (Some c) e = ap Some (one_branch bs c b d (found_in b.key bs c e) i (ap (λ (k : BranchKey). k.serial) (find-key b.key bs c e)))
    go None e = absurd (never_none b bs i e)

never_serial : (b : Branch) (bs : List Branch) → In b bs → find_serial b.key.serial bs ≡ None → ⊥
never_serial b [] i e = i
never_serial b (a ∷ bs) i e = elim (told_id a.key.serial b.key.serial) [
  | inl q ↦ (let k : ◌≡◌ {A = Option Branch} (Some a) None = rw (q.0) at e in let none : ⊥ = cc in none)
  | inr q ↦ (let k : find_serial b.key.serial bs ≡ None = rw (q.0) at e in elim i [ inl p ↦ q.1 (ap (λ (z : Branch). z.key.serial) (sym p)) | inr more ↦ never_serial b bs more k ])
]

serial_of : (b : Branch) (bs : List Branch) → Distinct (branch_serials bs) → In b bs → find_serial b.key.serial bs ≡ Some b
serial_of b bs d i = go (find_serial b.key.serial bs) refl
  where
    go : (o : Option Branch) → find_serial b.key.serial bs ≡ o → o ≡ Some b
    go (Some c) e = ap Some (one_branch bs c b d (found_in c.key bs c (find_serial-key b.key.serial bs c e)) i (find_serial-serial b.key.serial bs c e))
    go None e = absurd (never_serial b bs i e)

-- the branch that a label names
pub labelled_in : (s : Shared) (n : Node) (label : List ℕ) (b : Branch) → branch_labelled s n label ≡ Some b → (serial_labelled n.name label s.labels ≡ Some b.key.serial) × In b n.volatile.branches
labelled_in s n label b e = go (serial_labelled n.name label s.labels) e
  where
    go : (o : Option Id) → option_and_then (λ serial. find_branch serial n.volatile.branches) o ≡ Some b → (o ≡ Some b.key.serial) × In b n.volatile.branches
    go (Some x) k = (ap Some (found_serial x n.volatile.branches b k), found_branch x n.volatile.branches b k)
    go None k = let none : ⊥ = cc in absurd none

-- a state that nothing refuses
pub holds_it : (test : Branch → Bool) (o : Option Branch) (b : Branch) → in_state test o ≡ None → o ≡ Some b → test b ≡ true
holds_it test (Some c) b e f = is_so (test b) line.WrongState (subst (λ (x : Branch). refused_if (not (test x)) line.WrongState ≡ None) (some_is c b f) e)
holds_it test None b e f = let none : ⊥ = cc in absurd none

first_key : (b : Branch) → is_first b ≡ true → b.key ≡ first b.key.tid
first_key b e = same_key-true b.key (first b.key.tid) e

below : (a b : ℕ) → a < b → nat_lt a b ≡ true
below a b l = go (nat_lt a b) refl
  where
    go : (t : Bool) → nat_lt a b ≡ t → t ≡ true
    go true e = refl
    go false e = absurd (let k = ltb-false a b e in omega (arith, k, l))

module _ (s : Shared) (n : Node) (h : IsUp n) (room : IsRoomy n) where
  -- what is done to the branch that a label names
  branch_keeps : (label : List ℕ) (does : Branch → List Row) → ((b : Branch) → branch_labelled s n label ≡ Some b → In b n.volatile.branches → serial_labelled n.name label s.labels ≡ Some b.key.serial → RowsKeep (does b) n) → RowsKeep (to_branch s n label does) n
  branch_keeps label does f = go (branch_labelled s n label) refl
    where
      go : (o : Option Branch) → branch_labelled s n label ≡ o → RowsKeep (elim o [ Some b ↦ does b | None ↦ [] ]) n
      go (Some b) e = let r = labelled_in s n label b e in f b e r.1 r.0
      go None e = nothing_done n h room

  -- the first branch of a transaction
  first_found : (b : Branch) → In b n.volatile.branches → is_first_active b ≡ true → find (first b.key.tid) n.volatile.branches ≡ Some b
  first_found b i e = subst (λ k. find k n.volatile.branches ≡ Some b) (first_key b (and_parts (is_first b) (is_active b.state) e).0) (find_of b n.volatile.branches (differ n h.table) i)

  serial_found : (b : Branch) → In b n.volatile.branches → find_serial b.key.serial n.volatile.branches ≡ Some b
  serial_found b i = serial_of b n.volatile.branches (differ n h.table) i

  -- a transaction begins
  start_keeps : (label : List ℕ) (seconds : Option ℕ) → more_branches n ≡ None → RowsKeep (told_rows s n (starts n label seconds)) n
  start_keeps label seconds few =
      let l : Label = record { name = label; node = n.name; tid = next_id n; bid = None; serial = Some (next_id n) } in
      let due = due_after n seconds in
      let r = begin_keeps n (all_shared (Draws ∷ Labels l ∷ []) s) h room few (blank (next_id n) (next_id n) None Active due) (rows.Start (next_id n) due) refl refl refl (absent_next n (all_shared (Draws ∷ Labels l ∷ []) s) h room few (next_id n)) [] refl (roomy n (all_shared (Draws ∷ Labels l ∷ []) s) h room few) refl (λ m r up. up) in
      record { up = (h, (drew_up n h, r.up)); room = r.room }

  -- a branch begins
  branch_begins : (l : Label) → more_branches n ≡ None → RowsKeep (told_if s n (begins n l)) n
  branch_begins l few = go l.bid
    where
      go : (o : Option Id) → RowsKeep (told_if s n (option_map (λ bid. let t : Telling = record { before = Draws ∷ Numbers l.name (next_id n) ∷ []; event = rows.Begin l.tid (next_id n) bid } in t) o)) n
      go None = nothing_done n h room
      go (Some bid) =
          let t = all_shared (Draws ∷ Numbers l.name (next_id n) ∷ []) s in
          let b = blank l.tid (next_id n) (Some bid) Joining None in
          let r = begin_keeps n t h room few b (rows.Begin l.tid (next_id n) bid) refl refl refl (absent_next n t h room few l.tid) (table.Sends (rows.message Join (table.home_of (table.child l.tid (next_id n))) (table.coordinator_of (table.child l.tid (next_id n))) (table.child l.tid (next_id n)) (Some bid)) ∷ []) refl (roomy n t h room few) refl
          (λ m r up. (up, tabled_up m (next_moment m) up (table.Sends (rows.message Join (table.home_of (table.child l.tid (next_id n))) (table.coordinator_of (table.child l.tid (next_id n))) (table.child l.tid (next_id n)) (Some bid))) (next_later m) (record { stands = tt; told = up.table.log; within = tt; row = tt }))) in
          record { up = (h, (drew_up n h, r.up)); room = r.room }

  -- a branch is authorised
  add_keeps : (label other new : List ℕ) (b : Branch) → In b n.volatile.branches → is_first_active b ≡ true → more_bids b ≡ None → RowsKeep (told_rows s n (adds n other new b)) n
  add_keeps label other new b i e few =
      let l : Label = record { name = new; node = other; tid = b.key.tid; bid = Some (next_id n); serial = None } in
      let less = leb-false bid_limit (length b.bids) (not_refused (nat_le bid_limit (length b.bids)) (line.QuotaExceeded line.Bids bid_limit) few) in
      let ok : allowed (tm_of n) (rows.Authorise b.key.tid (next_id n)) ≡ true =
      ap (λ o. there_is o may_authorise) (first_found b i e) ∙ and_from (is_active b.state) (nat_lt (length b.bids) 15) (and_parts (is_first b) (is_active b.state) e).1 (below (length b.bids) 15 less) in
      let r = event_keeps (rows.Authorise b.key.tid (next_id n)) (all_shared (Draws ∷ Labels l ∷ []) s) (acted Draws n) tt ok (drew_up n h) room in
      record { up = (h, (drew_up n h, r.up)); room = r.room }

-- the events of one branch
told_keeps : (e : Event) (s : Shared) (n : Node) → BeginsNothing e → allowed (tm_of n) e ≡ true → IsUp n → IsRoomy n → RowsKeep (told_rows s n (just e)) n
told_keeps e s n b a h room = event_keeps e s n b a h room

module _ (s : Shared) (stops : ℕ) (n : Node) (h : IsKeptNode s n) where
  passed : (e : Service) → refused_before_reading s n e ≡ None → e.refused_before_reading s n ≡ None
  passed e r = (neither (refused_if (not (n.up || e.while_down)) line.NodeDown) (e.refused_before_reading s n) r).1

  images_there : (serial : Id) (file : List ℕ) (op : Operation) (f : File) → find_file file n.durable.directory ≡ Some f → of_file n file (images_full serial (changes_at n file op)) ≡ None → images_full serial (changes_of f op) f ≡ None
  images_there serial file op f found e = subst (λ cs. images_full serial cs f ≡ None) (changes_there n file op f found) (file_says n file f (images_full serial (changes_at n file op)) found e)

  records_keep : (label file : List ℕ) (op : Operation) → n.up ≡ true → (service (Records label file op)).refused_before_reading s n ≡ None → operation_refused s n label file op ≡ None → RowsKeep (to_branch s n label (λ b. operated n file op b ∷ [])) n
  records_keep label file op up passes late =
      let behind_label = (neither (made_label s n label) _ passes).1 in
      let behind_file = neither (there_is_file n file) _ behind_label in
      let behind_form = neither (of_file n file (λ f. form_refused f op)) _ behind_file.1 in
      let behind_branch = neither (unsettled_label s n label) _ behind_form.1 in
      let behind_state = neither (in_state is_working (branch_labelled s n label)) _ behind_branch.1 in
      let marks = neither (of_file n file is_marked) _ behind_state.1 in
      let there = there_is_one n file behind_file.0 in
      let f = there.0 in
      let late_found = neither (of_file n file (found_refused n (serial_labelled n.name label s.labels) file op)) _ late in
      let late_more = neither _ _ late_found.1 in
      let late_locks = neither (of_file n file (λ f. more_locks n file (keys_held f op))) _ late_more.1 in
      let stands = (neither (data_refused f op) _ (file_says n file f (found_refused n (serial_labelled n.name label s.labels) file op) there.1 late_found.0)).0 in
      let keys = file_says n file f (λ g. keys_refused n (serial_labelled n.name label s.labels) file (keys_asked g op)) there.1 marks.1 in
      let k = h.runs up in
      branch_keeps s n k.0 k.1 label (λ b. operated n file op b ∷ []) (λ b e i named.
      operation_keeps n k.0 k.1 b file op f i (holds_it is_working (branch_labelled s n label) b behind_state.0 e) there.1 (file_says n file f (λ g. form_refused g op) there.1 behind_form.0) stands (file_says n file f is_marked there.1 marks.0)
      (subst (λ o. keys_refused n o file (keys_asked f op) ≡ None) named keys) (file_says n file f (λ g. more_locks n file (keys_held g op)) there.1 late_locks.0)
      (images_there b.key.serial file op f there.1 (subst (λ o. option_and_then (λ (c : Branch). of_file n file (images_full c.key.serial (changes_at n file op))) o ≡ None) e (neither _ _ (neither _ _ late_locks.1).1).1)))

  direct_rows : (file : List ℕ) (op : Operation) → n.up ≡ true → (service (Direct file op)).refused_before_reading s n ≡ None → direct_refused n file op ≡ None → RowsKeep (directed n file (changes_at n file op)) n
  direct_rows file op up passes late =
      let behind_file = neither (there_is_file n file) _ passes in
      let behind_form = neither (of_file n file (λ f. form_refused f op)) _ behind_file.1 in
      let asked = (neither (of_file n file (needs_unit op)) _ behind_form.1).1 in
      let there = there_is_one n file behind_file.0 in
      let f = there.0 in
      let late_found = neither (of_file n file (found_refused n None file op)) _ late in
      let stands = (neither (data_refused f op) _ (file_says n file f (found_refused n None file op) there.1 late_found.0)).0 in
      let k = h.runs up in
      direct_keeps n k.0 k.1 file op f there.1 stands (file_says n file f (λ g. keys_refused n None file (keys_asked g op)) there.1 asked)
      (images_there (next_id n) file op f there.1 (neither _ _ (neither _ _ late_found.1).1).1)

  inquire_keeps : (who : Named) → n.up ≡ true → (service (Inquire who)).refused_before_reading s n ≡ None → RowsKeep (told_if s n (option_map (λ (b : Branch). just (rows.InquireBranch b.key.serial)) (branch_named s n who))) n
  inquire_keeps who up passes = go (branch_named s n who) refl
    where
      state : in_state is_in_doubt (branch_named s n who) ≡ None
      state = (neither (unsettled (branch_named s n who)) _ (neither (made_name s n who) _ passes).1).1

      there : (who : Named) (b : Branch) → branch_named s n who ≡ Some b → In b n.volatile.branches
      there (ByLabel label) b e = (labelled_in s n label b e).1
      there (BySerial x) b e = found_branch x n.volatile.branches b e

      go : (o : Option Branch) → branch_named s n who ≡ o → RowsKeep (told_if s n (option_map (λ (b : Branch). just (rows.InquireBranch b.key.serial)) o)) n
      go None e = let k = h.runs up in nothing_done n k.0 k.1
      go (Some b) e =
          let k = h.runs up in
          told_keeps (rows.InquireBranch b.key.serial) s n tt (ap (λ o. there_is o (λ b. is_prepared b.state)) (serial_found s n k.0 k.1 b (there who b e)) ∙ holds_it is_in_doubt (branch_named s n who) b state e) k.0 k.1

  -- these managers are declared from then on
  declare_keeps : (rms : List Name) (lines : List Line) → n.up ≡ true → RowsKeep (record { act = Some (Declares rms); lines = lines } ∷ []) n
  declare_keeps rms lines up = let k = h.runs up in record { up = (k.0, declared_up rms n k.0); room = k.1 }

  join_keeps : (label : List ℕ) (rm : Name) → n.up ≡ true → (service (JoinRm label rm)).refused_before_reading s n ≡ None → option_and_then more_managers (branch_labelled s n label) ≡ None →
      RowsKeep (to_branch s n label (λ b. told_rows s n (just (rows.JoinRm b.key.serial rm)))) n
  join_keeps label rm up passes few =
      let k = h.runs up in
      let state = (neither (declared_manager n rm) _ (neither (unsettled_label s n label) _ (neither (made_label s n label) _ passes).1).1).1 in
      branch_keeps s n k.0 k.1 label (λ b. told_rows s n (just (rows.JoinRm b.key.serial rm))) (λ b e i named.
      let joinable = and_parts (is_working b) (not (has_joined rm b)) (holds_it (is_joinable rm) (branch_labelled s n label) b state e) in
      let none_more : more_managers b ≡ None = subst (λ o. option_and_then more_managers o ≡ None) e few in
      let less = leb-false manager_limit (length b.managers) (not_refused (nat_le manager_limit (length b.managers)) (line.QuotaExceeded line.Managers manager_limit) none_more) in
      let may : may_join rm b ≡ true = and_from _ _ (and_from (is_working b) (nat_lt (length b.managers) 8) joinable.0 (below (length b.managers) 8 less)) joinable.1 in
      told_keeps (rows.JoinRm b.key.serial rm) s n tt (ap (λ o. there_is o (may_join rm)) (serial_found s n k.0 k.1 b i) ∙ may) k.0 k.1)

  reply_keeps : (who : Named) (rm : Name) (reply : Reply) → n.up ≡ true → (service (AckEvent who rm reply)).refused_before_reading s n ≡ None →
      RowsKeep (told_if s n (option_map (λ serial. just (rows.Replied serial rm reply)) (serial_named s n who))) n
  reply_keeps who rm reply up passes =
      let behind_branch = neither (known_branch (known s n who)) _ (neither (made_name s n who) _ passes).1 in
      let behind_manager = neither (known_manager rm (known s n who)) _ (neither (declared_manager n rm) _ behind_branch.1).1 in
      go (serial_named s n who) behind_branch.0 behind_manager.0 behind_manager.1
    where
      go : (o : Option Id) → known_branch (elim o [ Some serial ↦ known_serial n serial | None ↦ Unheard ]) ≡ None → known_manager rm (elim o [ Some serial ↦ known_serial n serial | None ↦ Unheard ]) ≡ None →
          awaited_reply rm reply (elim o [ Some serial ↦ known_serial n serial | None ↦ Unheard ]) ≡ None → RowsKeep (told_if s n (option_map (λ serial. just (rows.Replied serial rm reply)) o)) n
      go (Some serial) x y z = let k = h.runs up in told_keeps (rows.Replied serial rm reply) s n tt (reply_is_allowed n serial rm reply x y z) k.0 k.1
      go None x y z = let k = h.runs up in nothing_done n k.0 k.1

  start_branch : (label : List ℕ) → n.up ≡ true → more_branches n ≡ None → RowsKeep (told_if s n (option_and_then (begins n) (labelled n.name label s.labels))) n
  start_branch label up few = go (labelled n.name label s.labels)
    where
      go : (o : Option Label) → RowsKeep (told_if s n (option_and_then (begins n) o)) n
      go (Some l) = let k = h.runs up in branch_begins s n k.0 k.1 l few
      go None = let k = h.runs up in nothing_done n k.0 k.1

  -- the rows of a request that nothing refuses at a node that is up
  pub request_rows : (r : Request) → n.up ≡ true → refused_before_reading s n (service r) ≡ None → (service r).refused_after_reading s n ≡ None → RowsKeep ((service r).rows s n) n
  request_rows (Init slots journal) up r q =
      let k = h.runs up in nothing_done n k.0 k.1
  request_rows Boot up r q =
      absurd (both_ways n.up (not_refused n.up line.NodeUp (neither (refused_if n.up line.NodeUp) _ (passed (service Boot) r)).0) up)
  request_rows (Fuse writes choice) up r q =
      let k = h.runs up in record { up = (k.0, same_up n (acted (Arms writes choice) n) refl refl refl k.0); room = k.1 }
  request_rows (Clock now) up r q =
      let k = h.runs up in record { up = (k.0, same_up n (acted (Clocks now) n) refl refl refl k.0); room = k.1 }
  request_rows (Create file bucket size form) up r q =
      let k = h.runs up in create_keeps n file bucket size form (neither (new_file n file) _ (passed (service (Create file bucket size form)) r)).0 k.0 k.1
  request_rows (SetFile file setting) up r q =
      let k = h.runs up in sets_keep n file k.0 k.1 (neither (setting_refused setting) _ (neither (there_is_file n file) _ (passed (service (SetFile file setting)) r)).1).1 setting
  request_rows (StartTrans label seconds) up r q =
      let k = h.runs up in start_keeps s n k.0 k.1 label seconds q
  request_rows (AddBranch label other new) up r q =
      let k = h.runs up in
      let p = neither (made_label s n label) _ (passed (service (AddBranch label other new)) r) in
      let state = (neither (unsettled_label s n label) _ (neither _ _ p.1).1).1 in
      branch_keeps s n k.0 k.1 label (λ b. told_rows s n (adds n other new b)) (λ b e i named.
      add_keeps s n k.0 k.1 label other new b i (holds_it is_first_active (branch_labelled s n label) b state e) (subst (λ o. option_and_then more_bids o ≡ None) e q))
  request_rows (StartBranch label) up r q =
      start_branch label up q
  request_rows (Records label file op) up r q =
      records_keep label file op up (passed (service (Records label file op)) r) q
  request_rows (Direct file op) up r q =
      direct_rows file op up (passed (service (Direct file op)) r) q
  request_rows (EndBranch label) up r q =
      let k = h.runs up in
      let state = (neither (unsettled_label s n label) _ (neither (made_label s n label) _ (passed (service (EndBranch label)) r)).1).1 in
      branch_keeps s n k.0 k.1 label (λ b. told_rows s n (just (rows.EndBranch b.key.serial))) (λ b e i named.
      told_keeps (rows.EndBranch b.key.serial) s n tt (ap (λ o. there_is o may_end) (serial_found s n k.0 k.1 b i) ∙ holds_it may_end (branch_labelled s n label) b state e) k.0 k.1)
  request_rows (EndTrans label) up r q =
      let k = h.runs up in
      let state = (neither (unsettled_label s n label) _ (neither (made_label s n label) _ (passed (service (EndTrans label)) r)).1).1 in
      branch_keeps s n k.0 k.1 label (λ b. told_rows s n (just (rows.EndTrans b.key.tid))) (λ b e i named.
      let first_one = holds_it is_first_active (branch_labelled s n label) b state e in
      told_keeps (rows.EndTrans b.key.tid) s n tt (ap (λ o. there_is o (λ b. is_active b.state)) (first_found s n k.0 k.1 b i first_one) ∙ (and_parts (is_first b) (is_active b.state) first_one).1) k.0 k.1)
  request_rows (AbortTrans label) up r q =
      let k = h.runs up in
      let state = (neither (unsettled_label s n label) _ (neither (made_label s n label) _ (passed (service (AbortTrans label)) r)).1).1 in
      branch_keeps s n k.0 k.1 label (λ b. told_rows s n (just (rows.AbortBranch b.key.serial Aborted))) (λ b e i named.
      told_keeps (rows.AbortBranch b.key.serial Aborted) s n tt (ap (λ o. there_is o (λ b. not (is_prepared b.state))) (serial_found s n k.0 k.1 b i) ∙ holds_it is_open (branch_labelled s n label) b state e) k.0 k.1)
  request_rows (Inquire who) up r q =
      inquire_keeps who up (passed (service (Inquire who)) r)
  request_rows (DeclareRm rm) up r q = declare_keeps _ _ up
  request_rows (JoinRm label rm) up r q = join_keeps label rm up (passed (service (JoinRm label rm)) r) q
  request_rows (AckEvent who rm reply) up r q = reply_keeps who rm reply up (passed (service (AckEvent who rm reply)) r)
  request_rows (ForgetRm rm) up r q = declare_keeps _ _ up
  request_rows (GetDti who) up r q =
      let k = h.runs up in nothing_done n k.0 k.1
  request_rows LmcpShow up r q =
      let k = h.runs up in nothing_done n k.0 k.1
  request_rows LmcpDump up r q =
      let k = h.runs up in shown_keeps (λ l. l ∷ []) (map log_line (slot_records 0 n.durable.log)) n k.0 k.1
  request_rows (Dump file) up r q =
      let k = h.runs up in shown_keeps (λ e. line.Record e.0 e.1 ∷ []) (records_of n file) n k.0 k.1
  request_rows DumpJournal up r q =
      let k = h.runs up in shown_keeps (λ l. l ∷ []) (entry_lines n.durable.units.first n.durable.units.entries) n k.0 k.1
  request_rows (DumpImages file side) up r q =
      let k = h.runs up in
      to_file_keeps n file (λ f. map shown_line (image_lines file (journal_at side f).entries)) (λ f found. shown_keeps (λ l. l ∷ []) (image_lines file (journal_at side f).entries) n k.0 k.1) k.0 k.1
  request_rows (Backup file) up r q =
      let k = h.runs up in saves_keep n file k.0 k.1 (neither (there_is_file n file) _ (passed (service (Backup file)) r)).1
  request_rows (Recover file way) up r q =
      let k = h.runs up in recovers_keep n file k.0 k.1 way (neither (there_is_file n file) _ (passed (service (Recover file way)) r)).1
  request_rows Crash up r q =
      let k = h.runs up in record { up = (k.0, same_up n (acted Falls n) refl refl refl k.0); room = k.1 }

  pub request_kept : (r : Request) (c : Choice) (rises : Cause → Type 0) → TaskAllowed s stops n (Serves r) rises c → IsKeptNode (task_effect s stops n (Serves r) c).shared (task_effect s stops n (Serves r) c).node
  request_kept (Init slots journal) c rises a = init_effect (λ s n. first_of (refused_if s.in_use line.VolumeInUse) (refused_if (not (is_volume_form slots journal n)) line.BadParameter)) slots journal (λ s n. line.Normal) s stops n h
      (λ e. bounds (neither (refused_if s.in_use line.VolumeInUse) _ e).1) (λ e. not_refused s.in_use line.VolumeInUse (neither (refused_if s.in_use line.VolumeInUse) _ e).0) c rises a
    where
      form : refused_if (not (is_volume_form slots journal n)) line.BadParameter ≡ None → is_volume_form slots journal n ≡ true
      form e = is_so (is_volume_form slots journal n) line.BadParameter e

      at_most : (a b : ℕ) → nat_le a b ≡ true → a ≤ b
      at_most a b e = leb-true a b e

      bounds : refused_if (not (is_volume_form slots journal n)) line.BadParameter ≡ None → slots ≤ 512
      bounds e =
          let all = and_parts _ _ (form e) in
          let both = and_parts _ _ all.0 in
          let within = and_parts (nat_le 64 slots) (nat_le slots 512) both.0 in
          at_most slots 512 within.1
  request_kept Boot c rises a = boot_effect (service Boot).refused_before_reading (service Boot).refused_after_reading (service Boot).answer (service Boot).takes_memory (service Boot).closing_lines s stops n h
      (λ e. not_refused n.up line.NodeUp (neither (refused_if n.up line.NodeUp) _ e).0) c rises a
  request_kept (Create file bucket size form) c rises a = up_effect (service (Create file bucket size form)) refl refl refl s stops n h (λ up r q. request_rows (Create file bucket size form) up r q) c rises a
  request_kept (SetFile file setting) c rises a = up_effect (service (SetFile file setting)) refl refl refl s stops n h (λ up r q. request_rows (SetFile file setting) up r q) c rises a
  request_kept (StartTrans label seconds) c rises a = up_effect (service (StartTrans label seconds)) refl refl refl s stops n h (λ up r q. request_rows (StartTrans label seconds) up r q) c rises a
  request_kept (AddBranch label other new) c rises a = up_effect (service (AddBranch label other new)) refl refl refl s stops n h (λ up r q. request_rows (AddBranch label other new) up r q) c rises a
  request_kept (StartBranch label) c rises a = up_effect (service (StartBranch label)) refl refl refl s stops n h (λ up r q. request_rows (StartBranch label) up r q) c rises a
  request_kept (Records label file op) c rises a = up_effect (service (Records label file op)) refl refl refl s stops n h (λ up r q. request_rows (Records label file op) up r q) c rises a
  request_kept (Direct file op) c rises a = up_effect (service (Direct file op)) refl refl refl s stops n h (λ up r q. request_rows (Direct file op) up r q) c rises a
  request_kept (EndBranch label) c rises a = up_effect (service (EndBranch label)) refl refl refl s stops n h (λ up r q. request_rows (EndBranch label) up r q) c rises a
  request_kept (EndTrans label) c rises a = up_effect (service (EndTrans label)) refl refl refl s stops n h (λ up r q. request_rows (EndTrans label) up r q) c rises a
  request_kept (AbortTrans label) c rises a = up_effect (service (AbortTrans label)) refl refl refl s stops n h (λ up r q. request_rows (AbortTrans label) up r q) c rises a
  request_kept (Inquire who) c rises a = up_effect (service (Inquire who)) refl refl refl s stops n h (λ up r q. request_rows (Inquire who) up r q) c rises a
  request_kept (DeclareRm rm) c rises a = up_effect (service (DeclareRm rm)) refl refl refl s stops n h (λ up r q. request_rows (DeclareRm rm) up r q) c rises a
  request_kept (JoinRm label rm) c rises a = up_effect (service (JoinRm label rm)) refl refl refl s stops n h (λ up r q. request_rows (JoinRm label rm) up r q) c rises a
  request_kept (AckEvent who rm reply) c rises a = up_effect (service (AckEvent who rm reply)) refl refl refl s stops n h (λ up r q. request_rows (AckEvent who rm reply) up r q) c rises a
  request_kept (ForgetRm rm) c rises a = up_effect (service (ForgetRm rm)) refl refl refl s stops n h (λ up r q. request_rows (ForgetRm rm) up r q) c rises a
  request_kept (GetDti who) c rises a = up_effect (service (GetDti who)) refl refl refl s stops n h (λ up r q. request_rows (GetDti who) up r q) c rises a
  request_kept LmcpShow c rises a = up_effect (service LmcpShow) refl refl refl s stops n h (λ up r q. request_rows LmcpShow up r q) c rises a
  request_kept LmcpDump c rises a = up_effect (service LmcpDump) refl refl refl s stops n h (λ up r q. request_rows LmcpDump up r q) c rises a
  request_kept (Dump file) c rises a = up_effect (service (Dump file)) refl refl refl s stops n h (λ up r q. request_rows (Dump file) up r q) c rises a
  request_kept DumpJournal c rises a = up_effect (service DumpJournal) refl refl refl s stops n h (λ up r q. request_rows DumpJournal up r q) c rises a
  request_kept (DumpImages file side) c rises a = up_effect (service (DumpImages file side)) refl refl refl s stops n h (λ up r q. request_rows (DumpImages file side) up r q) c rises a
  request_kept (Backup file) c rises a = up_effect (service (Backup file)) refl refl refl s stops n h (λ up r q. request_rows (Backup file) up r q) c rises a
  request_kept (Recover file way) c rises a = up_effect (service (Recover file way)) refl refl refl s stops n h (λ up r q. request_rows (Recover file way) up r q) c rises a
  request_kept Crash c rises a = up_effect (service Crash) refl refl refl s stops n h (λ up r q. request_rows Crash up r q) c rises a
  request_kept (Fuse writes choice) c rises a = quiet_effect (Arms writes choice) s stops n h (same_kept s n (acted (Arms writes choice) n) refl refl refl refl refl h) refl c rises a
  request_kept (Clock now) c rises a = quiet_effect (Clocks now) s stops n h (same_kept s n (acted (Clocks now) n) refl refl refl refl refl h) refl c rises a

  -- and so the rows of any task
  pub task_rows : (t : Task) → n.up ≡ true → refused_before_reading s n (task_service t) ≡ None → (task_service t).refused_after_reading s n ≡ None → RowsKeep ((task_service t).rows s n) n
  task_rows (Serves r) up e q = request_rows r up e q
  task_rows Ticks up e q = let k = h.runs up in told_keeps (rows.Clock n.clock) s n tt refl k.0 k.1
  task_rows (Takes m) up e q = let k = h.runs up in told_keeps (rows.Got m) s n tt refl k.0 k.1
  task_rows (Hears m) up e q = let k = h.runs up in let t = told_keeps (rows.Got m) s n tt refl k.0 k.1 in record { up = (k.0, t.up); room = t.room }
  task_rows (LosesLink other) up e q = let k = h.runs up in told_keeps (rows.LinkDown other) s n tt refl k.0 k.1
  task_rows RunsDown up e q = let k = h.runs up in told_keeps rows.RunDown s n tt refl k.0 k.1
  task_rows Restarts up e q = absurd (both_ways n.up (not_refused n.up line.NodeUp (neither (refused_if n.up line.NodeUp) _ (passed (task_service Restarts) e)).0) up)

  pub task_kept : (t : Task) (c : Choice) (rises : Cause → Type 0) → TaskAllowed s stops n t rises c → IsKeptNode (task_effect s stops n t c).shared (task_effect s stops n t c).node
  task_kept (Serves r) c rises a = request_kept r c rises a
  task_kept Ticks c rises a = up_effect (task_service Ticks) refl refl refl s stops n h (λ up e q. task_rows Ticks up e q) c rises a
  task_kept (Takes m) c rises a = up_effect (task_service (Takes m)) refl refl refl s stops n h (λ up e q. task_rows (Takes m) up e q) c rises a
  task_kept (Hears m) c rises a = up_effect (task_service (Hears m)) refl refl refl s stops n h (λ up e q. task_rows (Hears m) up e q) c rises a
  task_kept (LosesLink other) c rises a = up_effect (task_service (LosesLink other)) refl refl refl s stops n h (λ up e q. task_rows (LosesLink other) up e q) c rises a
  task_kept RunsDown c rises a = up_effect (task_service RunsDown) refl refl refl s stops n h (λ up e q. task_rows RunsDown up e q) c rises a
  task_kept Restarts c rises a = boot_effect (task_service Restarts).refused_before_reading (task_service Restarts).refused_after_reading (task_service Restarts).answer (task_service Restarts).takes_memory (task_service Restarts).closing_lines s stops n h
      (λ e. not_refused n.up line.NodeUp (neither (refused_if n.up line.NodeUp) _ e).0) c rises a
