-- Each task of a node that has a volume, and of one that has none.
use Rattle.std.specs.Prelude.{if◌then◌else◌, ◌||◌, ◌&&◌, not, nat_le, nat_lt, length, option_map}
use Rattle.std.specs.Option.{option_and_then}
use Rattle.std.proofs.Common.{◌≡◌, ℕ, zero, suc, take, map, Bool, true, false, List, [], ◌∷◌, ◌++◌, Option, Some, None, refl, ap, sym, subst, ◌∙◌}
use Rattle.std.proofs.lemmas.Bool.{and_from, leb-false, lt-ltb}
use Rattle.vms_model.specs.Ids.{Id}
use Rattle.vms_model.specs.Keys as keys
use Rattle.vms_model.specs.Transactions.{Aborted as ByRequest}
use Rattle.vms_model.specs.Limits.{bid_limit, manager_limit}
use Rattle.run_model.specs.transcript_model.Lines as line
use Rattle.run_model.specs.transcript_model.Lines.{Line, Cause}
use Rattle.run_model.specs.script_model.Statements.{Request, Init, Boot, Create, SetFile, StartTrans, AddBranch, StartBranch, Records, Direct, EndBranch, EndTrans, AbortTrans, Inquire, DeclareRm, JoinRm, AckEvent, ForgetRm, GetDti, LmcpShow, LmcpDump, Dump, DumpJournal, DumpImages, Backup, Recover, Fuse, Crash, Clock, Named, ByLabel, BySerial, Operation}
use Rattle.run_model.specs.records_model.Records.{Change}
use Rattle.commit_protocol.specs.Messages.{Name, Message, Reply}
use Rattle.commit_protocol.specs.Table.{Branch, is_first, find, find_serial, first, without_rm}
use Rattle.commit_protocol.specs.Rows as rows
use Rattle.commit_protocol.specs.Rows.{row}
use Rattle.commit_protocol.specs.Allowed.{is_active, is_prepared, is_working, may_end, may_join}
use Rattle.commit_protocol.specs.World as protocol
use Rattle.commit_protocol.specs.World.{In}
use Rattle.commit_protocol.specs.Opening.{Opening}
use Rattle.run_model.specs.log_laws.Slots.{slot_records}
use Rattle.run_model.specs.World as world
use Rattle.run_model.specs.World.{Act, Node, Shared, Label, Call, Outturn, acted, find_branch, powered, unpowered, tm_of}
use Rattle.run_model.specs.Operations.{first_of, refused_if}
use Rattle.run_model.specs.Answers as answers
use Rattle.run_model.specs.Answers.{Row, Service, Task, Serves, Ticks, Takes, Hears, LosesLink, RunsDown, Restarts, just, told_rows, task_service, service, refused_before_reading, powers, spoils, touches, branch_labelled, is_first_active, boot_rows}
use Rattle.run_model.specs.Steps as steps
use Rattle.run_model.specs.Steps.{Choice, Whole, WithoutMemory, Unpowered, Cut, node_after_rows, shared_after_rows, ready_node, occupied, whole, cut, rows_if, rows_to_cut, service_effect, task_effect, ServiceAllowed, TaskAllowed}
use Rattle.run_model.proofs.ReplyLemmas.{reply_is_allowed}
use Rattle.run_agreement.specs.Seen.{Face, IsFace, IsDownFace, IsBarred, landed, has_volume}
use Rattle.run_agreement.specs.Following.{Faces}
use Rattle.run_agreement.proofs.Rows.{cut_node, rows_match}
use Rattle.run_agreement.proofs.Telling.{quiet_told}
use Rattle.run_agreement.proofs.Events.{Arrives, IsAt, IsUpAt, RowsGo, up_at, down_of_face, comes_goes}
use Rattle.run_agreement.proofs.Drawing.{WholeGoes, has_room, start_goes, add_goes, begin_goes, labelled_in}
use Rattle.run_agreement.proofs.Changing.{unseen_goes, crash_goes, changes_go, direct_goes, recovers_unseen, saves_unseen, holds_unseen, arms_unseen, clocks_unseen, declares_unseen, branch_found, Working}
use Rattle.run_agreement.proofs.Booting.{boot_whole, boot_cut, taken_of, power_goes, stays_down}
use Rattle.run_agreement.proofs.Serving.{Known, Anything, NodeSimFor, same_sim, follows_in_use, first_none, refused_none, serves_up, IsPlain, plain_sim, rows_sim, unused_sim, event_goes, branch_rows, branch_whole, named_branch, labelled_found, serial_found, first_found, parts_true, there, shown_unseen, creates_are_unseen, on_free_unseen, sets_are_unseen, to_file_unseen}

-- Requests that neither make the disk run nor serve a node that is down.

abbrev pub Sim : Opening → Name → Node → Shared → ℕ → Service → Choice → Type 0
Sim o n x s stops e c = NodeSimFor Anything o n x s (service_effect s stops x e c).node (service_effect s stops x e c).shared

start_sim : (o : Opening) (n : Name) (x : Node) (s : Shared) (stops : ℕ) (label : List ℕ) (seconds : Option ℕ) (rises : Cause → Type 0) (c : Choice) → ServiceAllowed s stops x (service (StartTrans label seconds)) rises c → Sim o n x s stops (service (StartTrans label seconds)) c
start_sim o n x s stops label seconds rises c may = unused_sim o n x s stops (service (StartTrans label seconds)) rises c (record { powers = refl; closing = refl; awake = refl }) refl
    (λ up h q. start_goes o n x s label seconds (has_room x q)) may

add_sim : (o : Opening) (n : Name) (x : Node) (s : Shared) (stops : ℕ) (label other new : List ℕ) (rises : Cause → Type 0) (c : Choice) → ServiceAllowed s stops x (service (AddBranch label other new)) rises c → Sim o n x s stops (service (AddBranch label other new)) c
add_sim o n x s stops label other new rises c may = unused_sim o n x s stops (service (AddBranch label other new)) rises c (record { powers = refl; closing = refl; awake = refl }) refl
    (λ up h q.
    let h1 = first_none (answers.made_label s x label) _ h in
    let h2 = first_none (answers.new_label s new) _ h1.1 in
    let h3 = first_none (answers.unsettled_label s x label) _ h2.1 in
    branch_whole o n s x label is_first_active (λ b. told_rows s x (answers.adds x other new b)) h3.0 h3.1
    (λ b e f g.
    let p = parts_true (is_first b) (is_active b.state) g in
    let few : answers.more_bids b ≡ None = ap (option_and_then answers.more_bids) (sym e) ∙ q in
    let less : nat_lt (length b.bids) 15 ≡ true = lt-ltb (length b.bids) 15 (leb-false 15 (length b.bids) (refused_none (nat_le bid_limit (length b.bids)) _ few)) in
    let both : (is_active b.state && nat_lt (length b.bids) 15) ≡ true = rw (p.1, less) refl in
    add_goes o n x s other new b (there (find (first b.key.tid) x.volatile.branches) b (λ d. is_active d.state && nat_lt (length d.bids) 15) (first_found x b f p.0) both))) may

begin_sim : (o : Opening) (n : Name) (x : Node) (s : Shared) (stops : ℕ) (label : List ℕ) (rises : Cause → Type 0) (c : Choice) → ServiceAllowed s stops x (service (StartBranch label)) rises c → Sim o n x s stops (service (StartBranch label)) c
begin_sim o n x s stops label rises c may = unused_sim o n x s stops (service (StartBranch label)) rises c (record { powers = refl; closing = refl; awake = refl }) refl
    (λ up h q. by (has_room x q) (world.labelled x.name label s.labels) refl (first_none (answers.made_label s x label) _ h).0) may
  where
    told : (r : Rattle.run_agreement.proofs.Drawing.HasRoom x) (l : Label) → world.labelled x.name label s.labels ≡ Some l → (d : Option Id) → l.bid ≡ d
        → WholeGoes o n (answers.told_if s x (option_map (λ bid. let t : answers.Telling = record { before = world.Draws ∷ world.Numbers l.name (world.next_id x) ∷ []; event = rows.Begin l.tid (world.next_id x) bid } in t) d)) x s
    told r l e None f b fs p h = (unseen_goes o n [] x s tt).whole b fs p h
    told r l e (Some bid) f b fs p h = begin_goes o n x s l bid r (labelled_in x.name label s.labels l e) f b fs p h

    by : Rattle.run_agreement.proofs.Drawing.HasRoom x → (d : Option Label) → world.labelled x.name label s.labels ≡ d → (let made : Option Line = elim d [ Some l ↦ None | None ↦ Some line.BadLabel ] in made) ≡ None
        → WholeGoes o n (answers.told_if s x (option_and_then (answers.begins x) d)) x s
    by r None e m = absurd (let f : ⊥ = cc in f)
    by r (Some l) e m = told r l e l.bid refl

end_branch_sim : (o : Opening) (n : Name) (x : Node) (s : Shared) (stops : ℕ) (label : List ℕ) (rises : Cause → Type 0) (c : Choice) → ServiceAllowed s stops x (service (EndBranch label)) rises c → Sim o n x s stops (service (EndBranch label)) c
end_branch_sim o n x s stops label rises c may = rows_sim o n x s stops (service (EndBranch label)) rises c (record { powers = refl; closing = refl; awake = refl })
    (λ up h q.
    let h1 = first_none (answers.made_label s x label) _ h in
    let h2 = first_none (answers.unsettled_label s x label) _ h1.1 in
    branch_rows o n s x label may_end (λ b. told_rows s x (just (rows.EndBranch b.key.serial))) h2.0 h2.1
    (λ b f g. event_goes o n x s (rows.EndBranch b.key.serial) refl (there (find_serial b.key.serial x.volatile.branches) b may_end (serial_found x b f) g) refl tt tt)) may

end_trans_sim : (o : Opening) (n : Name) (x : Node) (s : Shared) (stops : ℕ) (label : List ℕ) (rises : Cause → Type 0) (c : Choice) → ServiceAllowed s stops x (service (EndTrans label)) rises c → Sim o n x s stops (service (EndTrans label)) c
end_trans_sim o n x s stops label rises c may = rows_sim o n x s stops (service (EndTrans label)) rises c (record { powers = refl; closing = refl; awake = refl })
    (λ up h q.
    let h1 = first_none (answers.made_label s x label) _ h in
    let h2 = first_none (answers.unsettled_label s x label) _ h1.1 in
    branch_rows o n s x label is_first_active (λ b. told_rows s x (just (rows.EndTrans b.key.tid))) h2.0 h2.1
    (λ b f g.
    let p = parts_true (is_first b) (is_active b.state) g in
    event_goes o n x s (rows.EndTrans b.key.tid) refl (there (find (first b.key.tid) x.volatile.branches) b (λ d. is_active d.state) (first_found x b f p.0) p.1) refl tt tt)) may

abort_sim : (o : Opening) (n : Name) (x : Node) (s : Shared) (stops : ℕ) (label : List ℕ) (rises : Cause → Type 0) (c : Choice) → ServiceAllowed s stops x (service (AbortTrans label)) rises c → Sim o n x s stops (service (AbortTrans label)) c
abort_sim o n x s stops label rises c may = rows_sim o n x s stops (service (AbortTrans label)) rises c (record { powers = refl; closing = refl; awake = refl })
    (λ up h q.
    let h1 = first_none (answers.made_label s x label) _ h in
    let h2 = first_none (answers.unsettled_label s x label) _ h1.1 in
    branch_rows o n s x label answers.is_open (λ b. told_rows s x (just (rows.AbortBranch b.key.serial ByRequest))) h2.0 h2.1
    (λ b f g. event_goes o n x s (rows.AbortBranch b.key.serial ByRequest) refl (there (find_serial b.key.serial x.volatile.branches) b (λ d. not (is_prepared d.state)) (serial_found x b f) g) refl tt tt)) may

inquire_sim : (o : Opening) (n : Name) (x : Node) (s : Shared) (stops : ℕ) (who : Named) (rises : Cause → Type 0) (c : Choice) → ServiceAllowed s stops x (service (Inquire who)) rises c → Sim o n x s stops (service (Inquire who)) c
inquire_sim o n x s stops who rises c may = unused_sim o n x s stops (service (Inquire who)) rises c (record { powers = refl; closing = refl; awake = refl }) refl
    (λ up h q.
    let h1 = first_none (answers.made_name s x who) _ h in
    let h2 = first_none (answers.unsettled (answers.branch_named s x who)) _ h1.1 in
    let d = named_branch (answers.branch_named s x who) answers.is_in_doubt h2.0 h2.1 in
    let P : Option Branch → Type 0 = λ z. WholeGoes o n (answers.told_if s x (option_map (λ (b : Branch). just (rows.InquireBranch b.key.serial)) z)) x s in
    subst P (sym d.1) (λ b fs p a. (event_goes o n x s (rows.InquireBranch d.0.key.serial) refl (there (find_serial d.0.key.serial x.volatile.branches) d.0 (λ z. is_prepared z.state) (serial_found x d.0 (found who d.0 d.1)) d.2) refl tt tt).whole b fs p a)) may
  where
    found : (w : Named) (b : Branch) → answers.branch_named s x w ≡ Some b → find_branch b.key.serial x.volatile.branches ≡ Some b
    found (ByLabel label) b e = labelled_found s x label b e
    found (BySerial serial) b e = let P : Id → Type 0 = λ i. find_branch i x.volatile.branches ≡ Some b in subst P (sym (Rattle.run_agreement.proofs.Changing.branch_serial serial x.volatile.branches b e)) e

declare_sim : (o : Opening) (n : Name) (x : Node) (s : Shared) (stops : ℕ) (rm : Name) (rises : Cause → Type 0) (c : Choice) → ServiceAllowed s stops x (service (DeclareRm rm)) rises c → Sim o n x s stops (service (DeclareRm rm)) c
declare_sim o n x s stops rm rises c may = unused_sim o n x s stops (service (DeclareRm rm)) rises c (record { powers = refl; closing = refl; awake = refl }) refl
    (λ up h q. (unseen_goes o n (answers.declares x rm) x s (declares_unseen (x.volatile.declared ++ rm ∷ []) x, tt)).whole) may

join_sim : (o : Opening) (n : Name) (x : Node) (s : Shared) (stops : ℕ) (label : List ℕ) (rm : Name) (rises : Cause → Type 0) (c : Choice) → ServiceAllowed s stops x (service (JoinRm label rm)) rises c → Sim o n x s stops (service (JoinRm label rm)) c
join_sim o n x s stops label rm rises c may = unused_sim o n x s stops (service (JoinRm label rm)) rises c (record { powers = refl; closing = refl; awake = refl }) refl
    (λ up h q.
    let h1 = first_none (answers.made_label s x label) _ h in
    let h2 = first_none (answers.unsettled_label s x label) _ h1.1 in
    let h3 = first_none (answers.declared_manager x rm) _ h2.1 in
    branch_whole o n s x label (answers.is_joinable rm) (λ b. told_rows s x (just (rows.JoinRm b.key.serial rm))) h2.0 h3.1
    (λ b e f g.
    let p = parts_true (is_working b) (not (answers.has_joined rm b)) g in
    let few : answers.more_managers b ≡ None = ap (option_and_then answers.more_managers) (sym e) ∙ q in
    let less : nat_lt (length b.managers) 8 ≡ true = lt-ltb (length b.managers) 8 (leb-false 8 (length b.managers) (refused_none (nat_le manager_limit (length b.managers)) _ few)) in
    let may : may_join rm b ≡ true = and_from _ _ (and_from (is_working b) (nat_lt (length b.managers) 8) p.0 less) p.1 in
    (event_goes o n x s (rows.JoinRm b.key.serial rm) refl (there (find_serial b.key.serial x.volatile.branches) b (may_join rm) (serial_found x b f) may) refl tt tt).whole)) may

reply_sim : (o : Opening) (n : Name) (x : Node) (s : Shared) (stops : ℕ) (who : Named) (rm : Name) (reply : Reply) (rises : Cause → Type 0) (c : Choice) → ServiceAllowed s stops x (service (AckEvent who rm reply)) rises c → Sim o n x s stops (service (AckEvent who rm reply)) c
reply_sim o n x s stops who rm reply rises c may = rows_sim o n x s stops (service (AckEvent who rm reply)) rises c (record { powers = refl; closing = refl; awake = refl })
    (λ up h q.
    let h1 = first_none (answers.made_name s x who) _ h in
    let h2 = first_none (answers.known_branch (answers.known s x who)) _ h1.1 in
    let h3 = first_none (answers.declared_manager x rm) _ h2.1 in
    let h4 = first_none (answers.known_manager rm (answers.known s x who)) _ h3.1 in
    by (answers.serial_named s x who) h2.0 h4.0 h4.1) may
  where
    by : (d : Option Id) → answers.known_branch (elim d [ Some serial ↦ answers.known_serial x serial | None ↦ answers.Unheard ]) ≡ None → answers.known_manager rm (elim d [ Some serial ↦ answers.known_serial x serial | None ↦ answers.Unheard ]) ≡ None
        → answers.awaited_reply rm reply (elim d [ Some serial ↦ answers.known_serial x serial | None ↦ answers.Unheard ]) ≡ None → RowsGo o n (answers.told_if s x (option_map (λ serial. just (rows.Replied serial rm reply)) d)) x s
    by (Some serial) f g h = event_goes o n x s (rows.Replied serial rm reply) refl (reply_is_allowed x serial rm reply f g h) refl tt tt
    by None f g h = unseen_goes o n [] x s tt

forget_sim : (o : Opening) (n : Name) (x : Node) (s : Shared) (stops : ℕ) (rm : Name) (rises : Cause → Type 0) (c : Choice) → ServiceAllowed s stops x (service (ForgetRm rm)) rises c → Sim o n x s stops (service (ForgetRm rm)) c
forget_sim o n x s stops rm rises c may = unused_sim o n x s stops (service (ForgetRm rm)) rises c (record { powers = refl; closing = refl; awake = refl }) refl
    (λ up h q. (unseen_goes o n (answers.silent (world.Declares (without_rm rm x.volatile.declared)) ∷ []) x s (declares_unseen (without_rm rm x.volatile.declared) x, tt)).whole) may

state_sim : (o : Opening) (n : Name) (x : Node) (s : Shared) (stops : ℕ) (who : Named) (rises : Cause → Type 0) (c : Choice) → ServiceAllowed s stops x (service (GetDti who)) rises c → Sim o n x s stops (service (GetDti who)) c
state_sim o n x s stops who rises c may = unused_sim o n x s stops (service (GetDti who)) rises c (record { powers = refl; closing = refl; awake = refl }) refl (λ up h q. (unseen_goes o n [] x s tt).whole) may

log_sim : (o : Opening) (n : Name) (x : Node) (s : Shared) (stops : ℕ) (rises : Cause → Type 0) (c : Choice) → ServiceAllowed s stops x (service LmcpShow) rises c → Sim o n x s stops (service LmcpShow) c
log_sim o n x s stops rises c may = unused_sim o n x s stops (service LmcpShow) rises c (record { powers = refl; closing = refl; awake = refl }) refl (λ up h q. (unseen_goes o n [] x s tt).whole) may

records_shown_sim : (o : Opening) (n : Name) (x : Node) (s : Shared) (stops : ℕ) (rises : Cause → Type 0) (c : Choice) → ServiceAllowed s stops x (service LmcpDump) rises c → Sim o n x s stops (service LmcpDump) c
records_shown_sim o n x s stops rises c may = unused_sim o n x s stops (service LmcpDump) rises c (record { powers = refl; closing = refl; awake = refl }) refl
    (λ up h q. let ls = map answers.log_line (slot_records 0 x.durable.log) in (unseen_goes o n (map answers.shown_line ls) x s (shown_unseen Line ls answers.shown_line x (λ y. refl))).whole) may

records_sim : (o : Opening) (n : Name) (x : Node) (s : Shared) (stops : ℕ) (label file : List ℕ) (op : Operation) (rises : Cause → Type 0) (c : Choice) → ServiceAllowed s stops x (service (Records label file op)) rises c → Sim o n x s stops (service (Records label file op)) c
records_sim o n x s stops label file op rises c may = rows_sim o n x s stops (service (Records label file op)) rises c (record { powers = refl; closing = refl; awake = refl })
    (λ up h q.
    let h1 = first_none (answers.made_label s x label) _ h in
    let h2 = first_none (answers.there_is_file x file) _ h1.1 in
    let h3 = first_none (answers.of_file x file (λ f. Rattle.run_model.specs.Operations.form_refused f op)) _ h2.1 in
    let h4 = first_none (answers.unsettled_label s x label) _ h3.1 in
    let h5 = first_none (answers.in_state is_working (branch_labelled s x label)) _ h4.1 in
    branch_rows o n s x label is_working (λ b. answers.operated x file op b ∷ []) h4.0 h5.0 (λ b f g. by b f g (answers.changes_at x file op))) may
  where
    by : (b : Branch) → find_branch b.key.serial x.volatile.branches ≡ Some b → is_working b ≡ true → (cs : List Change) → RowsGo o n (answers.silent (answers.operation_act b file cs (answers.keys_at x file op)) ∷ []) x s
    by b f g [] = unseen_goes o n (answers.silent (world.Holds b.key.serial file (answers.keys_at x file op)) ∷ []) x s (holds_unseen b.key.serial file (answers.keys_at x file op) x, tt)
    by b f g (d ∷ cs) = changes_go o n x s b file d cs (answers.keys_at x file op) (record { found = f; working = g })

direct_sim : (o : Opening) (n : Name) (x : Node) (s : Shared) (stops : ℕ) (file : List ℕ) (op : Operation) (rises : Cause → Type 0) (c : Choice) → ServiceAllowed s stops x (service (Direct file op)) rises c → Sim o n x s stops (service (Direct file op)) c
direct_sim o n x s stops file op rises c may = rows_sim o n x s stops (service (Direct file op)) rises c (record { powers = refl; closing = refl; awake = refl }) (λ up h q. by (answers.changes_at x file op)) may
  where
    by : (cs : List Change) → RowsGo o n (answers.directed x file cs) x s
    by [] = unseen_goes o n [] x s tt
    by (d ∷ cs) = direct_goes o n x s file d cs (answers.commit_settlement x (world.next_id x) (world.next_id x)) (line.Committed (world.next_id x) (world.next_id x) (world.next_moment x) ∷ []) refl

crash_sim : (o : Opening) (n : Name) (x : Node) (s : Shared) (stops : ℕ) (rises : Cause → Type 0) (c : Choice) → ServiceAllowed s stops x (service Crash) rises c → Sim o n x s stops (service Crash) c
crash_sim o n x s stops rises c may = unused_sim o n x s stops (service Crash) rises c (record { powers = refl; closing = refl; awake = refl }) refl (λ up h q b fs p a. crash_goes o n b x s fs p a) may

create_sim : (o : Opening) (n : Name) (x : Node) (s : Shared) (stops : ℕ) (file : List ℕ) (bucket size : ℕ) (form : Rattle.run_model.specs.script_model.Statements.Form) (rises : Cause → Type 0) (c : Choice) → ServiceAllowed s stops x (service (Create file bucket size form)) rises c → Sim o n x s stops (service (Create file bucket size form)) c
create_sim o n x s stops file bucket size form rises c may = rows_sim o n x s stops (service (Create file bucket size form)) rises c (record { powers = refl; closing = refl; awake = refl })
    (λ up h q. unseen_goes o n (answers.creates x (λ start. answers.created file bucket size form start x.durable.greatest) (answers.blocks_for bucket size form)) x s (creates_are_unseen x (λ start. answers.created file bucket size form start x.durable.greatest) (answers.blocks_for bucket size form))) may

mark_sim : (o : Opening) (n : Name) (x : Node) (s : Shared) (stops : ℕ) (file : List ℕ) (setting : Rattle.run_model.specs.script_model.Statements.Setting) (rises : Cause → Type 0) (c : Choice) → ServiceAllowed s stops x (service (SetFile file setting)) rises c → Sim o n x s stops (service (SetFile file setting)) c
mark_sim o n x s stops file setting rises c may = rows_sim o n x s stops (service (SetFile file setting)) rises c (record { powers = refl; closing = refl; awake = refl })
    (λ up h q. unseen_goes o n (answers.sets x file setting) x s (sets_are_unseen x file setting)) may

dump_sim : (o : Opening) (n : Name) (x : Node) (s : Shared) (stops : ℕ) (file : List ℕ) (rises : Cause → Type 0) (c : Choice) → ServiceAllowed s stops x (service (Dump file)) rises c → Sim o n x s stops (service (Dump file)) c
dump_sim o n x s stops file rises c may = rows_sim o n x s stops (service (Dump file)) rises c (record { powers = refl; closing = refl; awake = refl })
    (λ up h q. unseen_goes o n (map answers.shown_record (answers.records_of x file)) x s (shown_unseen (keys.Key × List ℕ) (answers.records_of x file) answers.shown_record x (λ y. refl))) may

journal_sim : (o : Opening) (n : Name) (x : Node) (s : Shared) (stops : ℕ) (rises : Cause → Type 0) (c : Choice) → ServiceAllowed s stops x (service DumpJournal) rises c → Sim o n x s stops (service DumpJournal) c
journal_sim o n x s stops rises c may = rows_sim o n x s stops (service DumpJournal) rises c (record { powers = refl; closing = refl; awake = refl })
    (λ up h q. let ls = answers.entry_lines x.durable.units.first x.durable.units.entries in unseen_goes o n (map answers.shown_line ls) x s (shown_unseen Line ls answers.shown_line x (λ y. refl))) may

images_sim : (o : Opening) (n : Name) (x : Node) (s : Shared) (stops : ℕ) (file : List ℕ) (side : Rattle.run_model.specs.script_model.Statements.Side) (rises : Cause → Type 0) (c : Choice) → ServiceAllowed s stops x (service (DumpImages file side)) rises c → Sim o n x s stops (service (DumpImages file side)) c
images_sim o n x s stops file side rises c may = rows_sim o n x s stops (service (DumpImages file side)) rises c (record { powers = refl; closing = refl; awake = refl })
    (λ up h q. unseen_goes o n (answers.to_file x file (λ f. map answers.shown_line (answers.image_lines file (answers.journal_at side f).entries))) x s
    (to_file_unseen x file (λ f. map answers.shown_line (answers.image_lines file (answers.journal_at side f).entries)) (λ f. shown_unseen Line (answers.image_lines file (answers.journal_at side f).entries) answers.shown_line x (λ y. refl)))) may

save_sim : (o : Opening) (n : Name) (x : Node) (s : Shared) (stops : ℕ) (file : List ℕ) (rises : Cause → Type 0) (c : Choice) → ServiceAllowed s stops x (service (Backup file)) rises c → Sim o n x s stops (service (Backup file)) c
save_sim o n x s stops file rises c may = rows_sim o n x s stops (service (Backup file)) rises c (record { powers = refl; closing = refl; awake = refl })
    (λ up h q. unseen_goes o n (answers.to_file x file (λ f. answers.on_free x (answers.blocks_of f) (world.Saves file))) x s
    (to_file_unseen x file (λ f. answers.on_free x (answers.blocks_of f) (world.Saves file)) (λ f. on_free_unseen x (answers.blocks_of f) (world.Saves file) (λ start. saves_unseen file start x)))) may

recover_sim : (o : Opening) (n : Name) (x : Node) (s : Shared) (stops : ℕ) (file : List ℕ) (way : Rattle.run_model.specs.script_model.Statements.Recovery) (rises : Cause → Type 0) (c : Choice) → ServiceAllowed s stops x (service (Recover file way)) rises c → Sim o n x s stops (service (Recover file way)) c
recover_sim o n x s stops file way rises c may = rows_sim o n x s stops (service (Recover file way)) rises c (record { powers = refl; closing = refl; awake = refl })
    (λ up h q. unseen_goes o n (answers.to_file x file (answers.recovers x file way)) x s
    (to_file_unseen x file (answers.recovers x file way) (λ f. let m = answers.records_recovered way f in
    on_free_unseen x (answers.blocks_recovered way f) (λ start. world.Recovers file start (world.buckets_loaded f m) m) (λ start. recovers_unseen file start (world.buckets_loaded f m) m x)))) may

-- Requests that a node serves while it is down.

-- what does not come from what a node has
pub outside : (act : Act) (x : Node) (calls : List Call) (clock : ℕ) (up : Bool) → (let z : Node = record x { calls = calls; clock = clock; up = up } in ((acted act z).durable ≡ (acted act x).durable) × ((acted act z).settled ≡ (acted act x).settled))
outside (world.Formats slots journal) x c k u = (refl, refl)
outside world.Boots x c k u = (refl, refl)
outside world.ComesUp x c k u = (refl, refl)
outside (world.Creates place file) x c k u = (refl, refl)
outside (world.Marks file mark) x c k u = (refl, refl)
outside (world.Saves file start) x c k u = (refl, refl)
outside (world.Recovers file start buckets m) x c k u = (refl, refl)
outside world.Draws x c k u = (refl, refl)
outside (world.Labels l) x c k u = (refl, refl)
outside (world.Numbers label serial) x c k u = (refl, refl)
outside (world.Tables a moment) x c k u = (refl, refl)
outside (world.Changes tid serial file changes keys) x c k u = (refl, refl)
outside (world.Holds serial file keys) x c k u = (refl, refl)
outside (world.Directs file changes t) x c k u = (refl, refl)
outside (world.Arms writes choice) x c k u = (refl, refl)
outside (world.Clocks now) x c k u = (refl, refl)
outside (world.Declares rms) x c k u = (refl, refl)
outside world.Falls x c k u = (refl, refl)

landed_outside : (b : Bool) (x : Node) (calls : List Call) (clock : ℕ) (up : Bool) → (let z : Node = record x { calls = calls; clock = clock; up = up } in ((landed b z).durable ≡ (landed b x).durable) × ((landed b z).settled ≡ (landed b x).settled))
landed_outside false x c k u = (refl, refl)
landed_outside true x c k u = go x.under_way
  where
    z : Node
    z = record x { calls = c; clock = k; up = u }

    go : (a : Option Act) → ((let y : Node = elim a [ Some act ↦ acted act (record x { calls = c; clock = k; up = u }) | None ↦ record x { calls = c; clock = k; up = u } ] in y).durable ≡ (let y : Node = elim a [ Some act ↦ acted act x | None ↦ x ] in y).durable)
        × ((let y : Node = elim a [ Some act ↦ acted act (record x { calls = c; clock = k; up = u }) | None ↦ record x { calls = c; clock = k; up = u } ] in y).settled ≡ (let y : Node = elim a [ Some act ↦ acted act x | None ↦ x ] in y).settled)
    go None = (refl, refl)
    go (Some act) = outside act x c k u

-- a node that is down, with other calls and another clock
pub down_outside : (o : Opening) (n : Name) (x : Node) (s : Shared) (calls : List Call) (clock : ℕ) → x.up ≡ false → NodeSimFor Anything o n x s (let z : Node = record x { calls = calls; clock = clock; up = false } in z) s
down_outside o n x s calls clock down b = (
  b,
  λ fs f p k h.
      let z : Node = record x { calls = calls; clock = clock; up = false } in
      let d = down_of_face b x f down h.is in
      let e = landed_outside b x calls clock false in
      let P : _ → Type 0 = λ y. Rattle.run_agreement.specs.Seen.IsLeft y f.node in
      stays_down o n b z s fs f p h.follows h.found refl h.named (subst P (sym e.0) d.left) (d.settled ∙ sym e.1) d.begun (sound x.durable.volume h.volume),
)
  where
    sound : (v : world.Volume) → (let t : Bool = elim v [ world.Sound ↦ true | world.Faulty condition block ↦ false | world.Barred bar ↦ false | world.Unknown ↦ false ] in t) ≡ true → v ≡ world.Sound
    sound world.Sound e = refl
    sound (world.Faulty condition block) e = absurd (let f : false ≡ true = e in cc)
    sound (world.Barred bar) e = absurd (let f : false ≡ true = e in cc)
    sound world.Unknown e = absurd (let f : false ≡ true = e in cc)

or_true : (c : Bool) → (c || true) ≡ true
or_true true = refl
or_true false = refl

-- what refuses a service that a node that is down serves too
pub awake_refused : (s : Shared) (x : Node) (e : Service) → e.while_down ≡ true → refused_before_reading s x e ≡ e.refused_before_reading s x
awake_refused s x e wd = ap (λ b. first_of (refused_if (not b) line.NodeDown) (e.refused_before_reading s x)) (ap (λ d. x.up || d) wd ∙ or_true x.up)

-- one act of which nothing is seen, whether or not the node is up
fuse_node : (o : Opening) (n : Name) (x : Node) (s : Shared) (writes choice : ℕ) (u : Bool) → x.up ≡ u → NodeSimFor Anything o n x s (acted (world.Arms writes choice) x) s
fuse_node o n x s writes choice true up = Rattle.run_agreement.proofs.Serving.up_sim Anything o n x (acted (world.Arms writes choice) x) s s up (λ b fs p k a. (unseen_goes o n (answers.silent (world.Arms writes choice) ∷ []) x s (arms_unseen writes choice x, tt)).whole b fs p a)
fuse_node o n x s writes choice false down =
    let P : Bool → Type 0 = λ b. NodeSimFor Anything o n x s (let z : Node = record x { calls = world.Arm writes choice ∷ x.calls; up = b } in z) s in
    subst P (sym down) (down_outside o n x s (world.Arm writes choice ∷ x.calls) x.clock down)

clock_node : (o : Opening) (n : Name) (x : Node) (s : Shared) (now : ℕ) (u : Bool) → x.up ≡ u → NodeSimFor Anything o n x s (acted (world.Clocks now) x) s
clock_node o n x s now true up = Rattle.run_agreement.proofs.Serving.up_sim Anything o n x (acted (world.Clocks now) x) s s up (λ b fs p k a. (unseen_goes o n (answers.silent (world.Clocks now) ∷ []) x s (clocks_unseen now x, tt)).whole b fs p a)
clock_node o n x s now false down =
    let P : Bool → Type 0 = λ b. NodeSimFor Anything o n x s (let z : Node = record x { clock = now; up = b } in z) s in
    subst P (sym down) (down_outside o n x s x.calls now down)

fuse_sim : (o : Opening) (n : Name) (x : Node) (s : Shared) (stops : ℕ) (writes choice : ℕ) (rises : Cause → Type 0) (c : Choice) → ServiceAllowed s stops x (service (Fuse writes choice)) rises c → Sim o n x s stops (service (Fuse writes choice)) c
fuse_sim o n x s stops writes choice rises (Whole outturn) may =
    let e : Service = service (Fuse writes choice) in
    let P : Option Line → Type 0 = λ l. NodeSimFor Anything o n x s (whole s x x e l).node (whole s x x e l).shared in
    subst P (sym (awake_refused s x e refl)) (Rattle.run_agreement.proofs.Serving.occupied_sim Anything o n x (acted (world.Arms writes choice) x) s s e (fuse_node o n x s writes choice x.up refl))
fuse_sim o n x s stops writes choice rises WithoutMemory may = same_sim Anything o n x s
fuse_sim o n x s stops writes choice rises Unpowered may = absurd (let f : false ≡ true = may.1 in cc)
fuse_sim o n x s stops writes choice rises (Cut outturn done begun cause) may = absurd (let f : false ≡ true = may.1 in cc)

clock_sim : (o : Opening) (n : Name) (x : Node) (s : Shared) (stops : ℕ) (now : ℕ) (rises : Cause → Type 0) (c : Choice) → ServiceAllowed s stops x (service (Clock now)) rises c → Sim o n x s stops (service (Clock now)) c
clock_sim o n x s stops now rises (Whole outturn) may =
    let e : Service = service (Clock now) in
    let P : Option Line → Type 0 = λ l. NodeSimFor Anything o n x s (whole s x x e l).node (whole s x x e l).shared in
    subst P (sym (awake_refused s x e refl)) (Rattle.run_agreement.proofs.Serving.occupied_sim Anything o n x (acted (world.Clocks now) x) s s e (clock_node o n x s now x.up refl))
clock_sim o n x s stops now rises WithoutMemory may = same_sim Anything o n x s
clock_sim o n x s stops now rises Unpowered may = absurd (let f : false ≡ true = may.1 in cc)
clock_sim o n x s stops now rises (Cut outturn done begun cause) may = absurd (let f : false ≡ true = may.1 in cc)

-- No volume is made any more.
pub init_refused : (s : Shared) (x : Node) (slots journal : ℕ) → s.in_use ≡ true → refused_before_reading s x (service (Init slots journal)) ≡ Some line.VolumeInUse
init_refused s x slots journal used = awake_refused s x (service (Init slots journal)) refl ∙ ap (λ b. first_of (refused_if b line.VolumeInUse) (refused_if (not (answers.is_volume_form slots journal x)) line.BadParameter)) used

pub none_some : (l : Line) (o : Option Line) → o ≡ Some l → o ≡ None → ⊥
none_some l o e f = let g : Some l ≡ None = sym e ∙ f in cc

init_sim : (o : Opening) (n : Name) (x : Node) (s : Shared) (stops : ℕ) (slots journal : ℕ) (rises : Cause → Type 0) (c : Choice) → s.in_use ≡ true → ServiceAllowed s stops x (service (Init slots journal)) rises c → Sim o n x s stops (service (Init slots journal)) c
init_sim o n x s stops slots journal rises (Whole outturn) used may =
    let e : Service = service (Init slots journal) in
    let P : Option Line → Type 0 = λ l. NodeSimFor Anything o n x s (whole s x (ready_node outturn stops e x) e l).node (whole s x (ready_node outturn stops e x) e l).shared in
    subst P (sym (init_refused s x slots journal used)) (same_sim Anything o n x s)
init_sim o n x s stops slots journal rises WithoutMemory used may = same_sim Anything o n x s
init_sim o n x s stops slots journal rises Unpowered used may = absurd (none_some line.VolumeInUse (refused_before_reading s x (service (Init slots journal))) (init_refused s x slots journal used) may.0)
init_sim o n x s stops slots journal rises (Cut outturn done begun cause) used may = absurd (none_some line.VolumeInUse (refused_before_reading s x (service (Init slots journal))) (init_refused s x slots journal used) may.0)

-- A boot.

pub record IsBoot (e : Service) : Type 0 where
  pub powers : powers e ≡ true
  pub spoils : spoils e ≡ false
  pub rows : (s : Shared) (y : Node) → e.rows s y ≡ boot_rows s y
  pub closing : e.closing ≡ Some world.ComesUp
  pub down : (s : Shared) (x : Node) → refused_before_reading s x e ≡ None → (x.up ≡ false) × (x.unmade ≡ false)
  pub reads : (s : Shared) (y : Node) → e.refused_after_reading s y ≡ answers.bootable y

boot_down : (s : Shared) (x : Node) (e : Service) (l m : Line) → e.while_down ≡ true → e.refused_before_reading s x ≡ first_of (refused_if x.up l) (refused_if x.unmade m) → refused_before_reading s x e ≡ None → (x.up ≡ false) × (x.unmade ≡ false)
boot_down s x e l m wd is h =
    let q = first_none (refused_if x.up l) (refused_if x.unmade m) (sym is ∙ (sym (awake_refused s x e wd) ∙ h)) in
    (refused_none x.up l q.0, refused_none x.unmade m q.1)

pub boot_is : IsBoot (service Boot)
boot_is = record { powers = refl; spoils = refl; rows = λ s y. refl; closing = refl; down = λ s x h. boot_down s x (service Boot) line.NodeUp line.NotInitialized refl refl h; reads = λ s y. refl }

pub restart_is : IsBoot (task_service Restarts)
restart_is = record { powers = refl; spoils = refl; rows = λ s y. refl; closing = refl; down = λ s x h. boot_down s x (task_service Restarts) line.NodeUp (line.NotInitializedAt x.name) refl refl h; reads = λ s y. refl }

pub ready_is : (outturn : Outturn) (stops : ℕ) (e : Service) (x : Node) → IsBoot e → ready_node outturn stops e x ≡ powered outturn stops x
ready_is outturn stops e x boot = ap (λ b. if b then steps.with_unknown_volume (spoils e) (powered outturn stops x) else x) boot.powers ∙ ap (λ b. steps.with_unknown_volume b (powered outturn stops x)) boot.spoils

pub nothing_cut : (j : ℕ) (begun : Bool) (y : Node) → (let none : List Row = [] in cut_node none j begun y) ≡ world.fallen None y
nothing_cut zero true y = refl
nothing_cut zero false y = refl
nothing_cut (suc j) true y = refl
nothing_cut (suc j) false y = refl

pub nothing_shared : (j : ℕ) (s : Shared) → (let none : List Row = [] in shared_after_rows (take j none) s) ≡ s
nothing_shared zero s = refl
nothing_shared (suc j) s = refl

boot_sim : (o : Opening) (n : Name) (x : Node) (s : Shared) (stops : ℕ) (e : Service) (rises : Cause → Type 0) (c : Choice) → IsBoot e → ServiceAllowed s stops x e rises c → Sim o n x s stops e c
boot_sim o n x s stops e rises (Whole outturn) boot may =
    let P : Node → Type 0 = λ y. NodeSimFor Anything o n x s (whole s x y e (refused_before_reading s x e)).node (whole s x y e (refused_before_reading s x e)).shared in
    subst P (sym (ready_is outturn stops e x boot)) (by (refused_before_reading s x e) refl)
  where
    y : Node
    y = powered outturn stops x

    refused : x.up ≡ false → NodeSimFor Anything o n x s (powered outturn stops x) s
    refused down b = (
      taken_of outturn,
      λ fs f p k h.
          let w = power_goes outturn stops x f down (down_of_face (taken_of outturn) x f down h.is) in
          let P : Node → Type 0 = λ z. Rattle.run_agreement.specs.Seen.IsLeft z.durable f.node in
          let l = Rattle.run_agreement.proofs.Booting.quiet_lands b (powered outturn stops x) w.quiet in
          let B : Option Act → Type 0 = λ u. Rattle.run_agreement.specs.Seen.IsBegun u in
          stays_down o n b (powered outturn stops x) s fs f p h.follows h.found w.down (w.named ∙ h.named) (subst P (sym l) w.left) (w.settled ∙ ap (λ (z : Node). z.settled) (sym l)) (subst B (sym w.quiet) tt) w.left.volume,
    )

    boots : x.up ≡ false → NodeSimFor Anything o n x s (acted world.ComesUp (node_after_rows (boot_rows s (powered outturn stops x)) (powered outturn stops x))) (shared_after_rows (boot_rows s (powered outturn stops x)) s)
    boots down b = (
      taken_of outturn,
      λ fs f p k h.
          let w = power_goes outturn stops x f down (down_of_face (taken_of outturn) x f down h.is) in
          boot_whole o n b (powered outturn stops x) s fs f p h.reached h.follows h.found (w.named ∙ h.named) w.quiet w.left w.settled,
    )

    succeeds : x.up ≡ false → NodeSimFor Anything o n x s (steps.succeeded s (powered outturn stops x) e).node (steps.succeeded s (powered outturn stops x) e).shared
    succeeds down =
        let P : Option Act → List Row → Type 0 = λ a rs. NodeSimFor Anything o n x s (steps.node_after a (node_after_rows rs (powered outturn stops x))) (occupied e (steps.shared_then a (shared_after_rows rs s))) in
        let Q : List Row → Type 0 = λ rs. P (Some world.ComesUp) rs in
        let R : Option Act → Type 0 = λ a. P a (e.rows s (powered outturn stops x)) in
        subst R (sym boot.closing) (subst Q (sym (boot.rows s (powered outturn stops x)))
        (Rattle.run_agreement.proofs.Serving.occupied_sim Anything o n x (acted world.ComesUp (node_after_rows (boot_rows s (powered outturn stops x)) (powered outturn stops x))) s (shared_after_rows (boot_rows s (powered outturn stops x)) s) e (boots down)))

    begins : x.up ≡ false → (l : Option Line) → NodeSimFor Anything o n x s (steps.begun s (powered outturn stops x) e l).node (steps.begun s (powered outturn stops x) e l).shared
    begins down (Some l) = refused down
    begins down None = succeeds down

    by : (l : Option Line) → refused_before_reading s x e ≡ l → NodeSimFor Anything o n x s (whole s x (powered outturn stops x) e l).node (whole s x (powered outturn stops x) e l).shared
    by (Some l) h = same_sim Anything o n x s
    by None h = begins (boot.down s x h).0 (e.refused_after_reading s (powered outturn stops x))
boot_sim o n x s stops e rises WithoutMemory boot may = same_sim Anything o n x s
boot_sim o n x s stops e rises Unpowered boot may =
    let down = (boot.down s x may.0).0 in
    let P : Bool → Type 0 = λ b. NodeSimFor Anything o n x s (steps.with_unknown_volume b (unpowered stops x)) (occupied e s) in
    subst P (sym boot.spoils) (Rattle.run_agreement.proofs.Serving.occupied_sim Anything o n x (unpowered stops x) s s e (down_outside o n x s (world.Power stops ∷ x.calls) x.clock down))
boot_sim o n x s stops e rises (Cut outturn done begun cause) boot may =
    let down = (boot.down s x may.0).0 in
    let P : Node → Type 0 = λ y. NodeSimFor Anything o n x s (cut s y e (rows_to_cut s y e) done begun cause).node (cut s y e (rows_to_cut s y e) done begun cause).shared in
    subst P (sym (ready_is outturn stops e x boot)) (by down (e.refused_after_reading s (powered outturn stops x)))
  where
    begins : x.up ≡ false → NodeSimFor Anything o n x s (cut_node (boot_rows s (powered outturn stops x)) done begun (powered outturn stops x)) (shared_after_rows (take done (boot_rows s (powered outturn stops x))) s)
    begins down b = (
      taken_of outturn,
      λ fs f p k h.
          let w = power_goes outturn stops x f down (down_of_face (taken_of outturn) x f down h.is) in
          boot_cut o n b done begun (powered outturn stops x) s fs f p h.reached h.follows h.found (w.named ∙ h.named) w.left w.settled,
    )

    nothing : x.up ≡ false → NodeSimFor Anything o n x s (world.fallen None (powered outturn stops x)) s
    nothing down b = (
      taken_of outturn,
      λ fs f p k h.
          let w = power_goes outturn stops x f down (down_of_face (taken_of outturn) x f down h.is) in
          Rattle.run_agreement.proofs.Booting.boot_unbegun o n b (powered outturn stops x) s fs f p h.follows h.found (w.named ∙ h.named) w.left w.settled,
    )

    by : x.up ≡ false → (l : Option Line) → NodeSimFor Anything o n x s (cut s (powered outturn stops x) e (rows_if l (e.rows s (powered outturn stops x))) done begun cause).node (cut s (powered outturn stops x) e (rows_if l (e.rows s (powered outturn stops x))) done begun cause).shared
    by down None =
        let P : List Row → Type 0 = λ rs. NodeSimFor Anything o n x s (cut_node rs done begun (powered outturn stops x)) (occupied e (shared_after_rows (take done rs) s)) in
        subst P (sym (boot.rows s (powered outturn stops x))) (Rattle.run_agreement.proofs.Serving.occupied_sim Anything o n x (cut_node (boot_rows s (powered outturn stops x)) done begun (powered outturn stops x)) s (shared_after_rows (take done (boot_rows s (powered outturn stops x))) s) e (begins down))
    by down (Some l) =
        let P : Node → Type 0 = λ z. NodeSimFor Anything o n x s z (occupied e (let none : List Row = [] in shared_after_rows (take done none) s)) in
        let Q : Shared → Type 0 = λ t. NodeSimFor Anything o n x s (world.fallen None (powered outturn stops x)) (occupied e t) in
        subst P (sym (nothing_cut done begun (powered outturn stops x))) (subst Q (sym (nothing_shared done s))
        (Rattle.run_agreement.proofs.Serving.occupied_sim Anything o n x (world.fallen None (powered outturn stops x)) s s e (nothing down)))

-- All tasks but that an answer is heard.

-- what a task asks of what nodes share: no volume is made, and a message that comes was numbered
abbrev pub Suits : Task → Name → Shared → Type 0
Suits (Serves (Init slots journal)) n s = s.in_use ≡ true
Suits (Serves request) n s = Unit {0}
Suits (Takes m) n s = (m.to ≡ n) × In m s.wire
Suits (Hears m) n s = ⊥
Suits Ticks n s = Unit {0}
Suits (LosesLink other) n s = Unit {0}
Suits RunsDown n s = Unit {0}
Suits Restarts n s = Unit {0}

pub task_sim : (o : Opening) (n : Name) (x : Node) (s : Shared) (stops : ℕ) (t : Task) (rises : Cause → Type 0) (c : Choice) → Suits t n s → TaskAllowed s stops x t rises c → Sim o n x s stops (task_service t) c
task_sim o n x s stops (Serves (Init slots journal)) rises c suits may = init_sim o n x s stops slots journal rises c suits may
task_sim o n x s stops (Serves Boot) rises c suits may = boot_sim o n x s stops (service Boot) rises c boot_is may
task_sim o n x s stops (Serves (Create file bucket size form)) rises c suits may = create_sim o n x s stops file bucket size form rises c may
task_sim o n x s stops (Serves (SetFile file setting)) rises c suits may = mark_sim o n x s stops file setting rises c may
task_sim o n x s stops (Serves (StartTrans label seconds)) rises c suits may = start_sim o n x s stops label seconds rises c may
task_sim o n x s stops (Serves (AddBranch label other new)) rises c suits may = add_sim o n x s stops label other new rises c may
task_sim o n x s stops (Serves (StartBranch label)) rises c suits may = begin_sim o n x s stops label rises c may
task_sim o n x s stops (Serves (Records label file op)) rises c suits may = records_sim o n x s stops label file op rises c may
task_sim o n x s stops (Serves (Direct file op)) rises c suits may = direct_sim o n x s stops file op rises c may
task_sim o n x s stops (Serves (EndBranch label)) rises c suits may = end_branch_sim o n x s stops label rises c may
task_sim o n x s stops (Serves (EndTrans label)) rises c suits may = end_trans_sim o n x s stops label rises c may
task_sim o n x s stops (Serves (AbortTrans label)) rises c suits may = abort_sim o n x s stops label rises c may
task_sim o n x s stops (Serves (Inquire who)) rises c suits may = inquire_sim o n x s stops who rises c may
task_sim o n x s stops (Serves (DeclareRm rm)) rises c suits may = declare_sim o n x s stops rm rises c may
task_sim o n x s stops (Serves (JoinRm label rm)) rises c suits may = join_sim o n x s stops label rm rises c may
task_sim o n x s stops (Serves (AckEvent who rm reply)) rises c suits may = reply_sim o n x s stops who rm reply rises c may
task_sim o n x s stops (Serves (ForgetRm rm)) rises c suits may = forget_sim o n x s stops rm rises c may
task_sim o n x s stops (Serves (GetDti who)) rises c suits may = state_sim o n x s stops who rises c may
task_sim o n x s stops (Serves LmcpShow) rises c suits may = log_sim o n x s stops rises c may
task_sim o n x s stops (Serves LmcpDump) rises c suits may = records_shown_sim o n x s stops rises c may
task_sim o n x s stops (Serves (Dump file)) rises c suits may = dump_sim o n x s stops file rises c may
task_sim o n x s stops (Serves DumpJournal) rises c suits may = journal_sim o n x s stops rises c may
task_sim o n x s stops (Serves (DumpImages file side)) rises c suits may = images_sim o n x s stops file side rises c may
task_sim o n x s stops (Serves (Backup file)) rises c suits may = save_sim o n x s stops file rises c may
task_sim o n x s stops (Serves (Recover file way)) rises c suits may = recover_sim o n x s stops file way rises c may
task_sim o n x s stops (Serves (Fuse writes choice)) rises c suits may = fuse_sim o n x s stops writes choice rises c may
task_sim o n x s stops (Serves Crash) rises c suits may = crash_sim o n x s stops rises c may
task_sim o n x s stops (Serves (Clock now)) rises c suits may = clock_sim o n x s stops now rises c may
task_sim o n x s stops Ticks rises c suits may = rows_sim o n x s stops (task_service Ticks) rises c (record { powers = refl; closing = refl; awake = refl }) (λ up h q. event_goes o n x s (rows.Clock x.clock) refl refl refl tt tt) may
task_sim o n x s stops (LosesLink other) rises c suits may = rows_sim o n x s stops (task_service (LosesLink other)) rises c (record { powers = refl; closing = refl; awake = refl }) (λ up h q. event_goes o n x s (rows.LinkDown other) refl refl refl tt tt) may
task_sim o n x s stops RunsDown rises c suits may = rows_sim o n x s stops (task_service RunsDown) rises c (record { powers = refl; closing = refl; awake = refl }) (λ up h q. event_goes o n x s rows.RunDown refl refl refl tt tt) may
task_sim o n x s stops Restarts rises c suits may = boot_sim o n x s stops (task_service Restarts) rises c restart_is may
task_sim o n x s stops (Hears m) rises c suits may = absurd suits
task_sim o n x s stops (Takes m) rises c suits may =
    let P : Name → Type 0 = λ k. Sim o k x s stops (task_service (Takes m)) c in
    subst P suits.0 (rows_sim o m.to x s stops (task_service (Takes m)) rises c (record { powers = refl; closing = refl; awake = refl })
    (λ up h q. comes_goes o m (told_rows s x (just (rows.Got m))) x s (λ fs p a. a.follows.sent m suits.1) (λ fs p a. rows_match (row (tm_of x) (rows.Got m)) [] x s (quiet_told (rows.Got m) x a.told a.room tt tt))) may)

-- an answer is heard that was sent
pub hears_sim : (o : Opening) (m : Message) (x : Node) (s : Shared) (stops : ℕ) (rises : Cause → Type 0) (c : Choice) → TaskAllowed s stops x (Hears m) rises c
    → NodeSimFor (λ p. In m p.sent) o m.to x s (task_effect s stops x (Hears m) c).node (task_effect s stops x (Hears m) c).shared
hears_sim o m x s stops rises c may =
    let rs : List Row = told_rows s x (just (rows.Got m)) in
    let match : (fs : Faces) (p : protocol.World) → IsUpAt o m.to x s fs p → Rattle.run_agreement.proofs.Rows.Match rs (row (tm_of x) (rows.Got m)) [] x = λ fs p a. rows_match (row (tm_of x) (rows.Got m)) [] x s (quiet_told (rows.Got m) x a.told a.room tt tt) in
    plain_sim (λ p. In m p.sent) o m.to x s stops (task_service (Hears m)) rises c (record { powers = refl; closing = refl; awake = refl })
    (λ up h q b fs p k a. Rattle.run_agreement.proofs.Events.comes_whole o m b rs x s fs p k a (match fs p a))
    (λ t up h q j begun b fs p k a. by j begun b fs p k a) may
  where
    told : List Row
    told = told_rows s x (just (rows.Got m))

    shown : Row
    shown = answers.shown_line (line.Asked m.tid m.serial (answers.outcome_told m.kind))

    by : (j : ℕ) (begun b : Bool) (fs : Faces) (p : protocol.World) → In m p.sent → IsUpAt o m.to x s fs p
        → Arrives o m.to b (cut_node (answers.shown_line (line.Asked m.tid m.serial (answers.outcome_told m.kind)) ∷ told_rows s x (just (rows.Got m))) j begun x) (shared_after_rows (take j (answers.shown_line (line.Asked m.tid m.serial (answers.outcome_told m.kind)) ∷ told_rows s x (just (rows.Got m)))) s) fs p
    by zero true b fs p k a = (unseen_goes o m.to [] x s tt).cut zero false b fs p a
    by zero false b fs p k a = (unseen_goes o m.to [] x s tt).cut zero false b fs p a
    by (suc j) begun b fs p k a = Rattle.run_agreement.proofs.Events.comes_cut o m j begun b (told_rows s x (just (rows.Got m))) x s fs p k a (rows_match (row (tm_of x) (rows.Got m)) [] x s (quiet_told (rows.Got m) x a.told a.room tt tt))
