-- What a node has to spare behind a request that was served.
use Rattle.std.proofs.Common.{◌≡◌, ℕ, ◌+◌, ◌≤◌, List, [], ◌∷◌, ◌++◌, Bool, true, false, Option, Some, None, if◌then◌else◌, Result, Ok, Err, refl, sym, ap, subst, ◌∙◌, map, arith}
use Rattle.log_laws.specs.commit_protocol.Messages.{Name, Reply}
use Rattle.log_laws.specs.commit_protocol.Rows as rows
use Rattle.log_laws.specs.commit_protocol.Rows.{row}
use Rattle.log_laws.specs.commit_protocol.Table.{Act as TableAct, Branch}
use Rattle.script_lang.specs.script_model.Statements as said
use Rattle.script_lang.specs.declared.literals.Literals.{Literals}
use Rattle.script_lang.specs.declared.statement.Request.{Request}
use Rattle.script_lang.specs.declared.statement.Request.TheVariants as request
use Rattle.script_lang.specs.Statements.{named_of, request_of}
use Rattle.std.specs.Option.{option_and_then}
use Rattle.std.specs.Prelude.{option_map, IfOk, OnOk}
use Rattle.vms_model.specs.Ids.{Id}
use Rattle.vms_model.specs.Transactions.{Aborted}
use Rattle.reference_index.specs.transcript_model.Lines as line
use Rattle.reference_index.specs.run_model.Answers as answers
use Rattle.reference_index.specs.run_model.Answers.{Row, Service, Telling, adds, all_acted, all_shared, begins, boot_rows, just, left_active, powers, refused_before_reading, service, silent, spoils, starts, table_rows, told_if, told_rows, unit_key}
use Rattle.reference_index.specs.run_model.Steps.{begun, node_after, node_after_rows, ready_node, whole, with_unknown_volume}
use Rattle.reference_index.specs.run_model.World as world
use Rattle.reference_index.specs.run_model.World.{Act, Boots, Label, Lost, Node, Shared, acted, powered, tm_of}
use Rattle.log_laws.specs.commit_protocol.World.{undo_all}
use Rattle.tm_types.specs.Parts.{reply_of}
use Rattle.reference_world.specs.declared.line.Line.{Line}
use Rattle.reference_tasks.specs.Serving.{RestsNot, HasUnits, IsSetEarly, Serves}
use Rattle.reference_node.specs.Telling.{HasTime}
use Rattle.reference_tasks.proofs.ServeLemmas.{early_rest}
use Rattle.reference_tasks.proofs.UnitsLemmas.{less_units, rows_boot, rows_drawn, rows_journal, units_pass, units_ready}
use Rattle.reference_tasks.proofs.RequestUnits.{IsQuiet, request_units}

-- at most one boot and one id more
record Passed (n m : Node) : Type 0 where
  journal : m.durable.journal ≡ n.durable.journal
  boot : m.durable.boot ≤ n.durable.boot + 1
  drawn : m.volatile.drawn ≤ n.volatile.drawn + 1

stays : (n : Node) → Passed n n
stays n = record { journal = refl; boot = omega arith; drawn = omega arith }

before_rows : (acts : List Act) (rest : List Row) (n : Node) → node_after_rows (map silent acts ++ rest) n ≡ node_after_rows rest (all_acted acts n)
before_rows [] rest n = refl
before_rows (a ∷ acts) rest n = before_rows acts rest (acted a n)

rows_pass : (acts : List TableAct) (s : Shared) (n o : Node) → Passed n o → Passed n (node_after_rows (table_rows acts s o) o)
rows_pass acts s n o p =
    let m = node_after_rows (table_rows acts s o) o in
    let boot : m.durable.boot ≡ o.durable.boot = rows_boot acts s o in
    let drawn : m.volatile.drawn ≡ o.volatile.drawn = rows_drawn acts s o in
    let b = p.boot in
    let d = p.drawn in
    record { journal = rows_journal acts s o ∙ p.journal; boot = omega (arith, boot, b); drawn = omega (arith, drawn, d) }

told_pass : (s : Shared) (n : Node) (t : Telling) → Passed n (all_acted t.before n) → Passed n (node_after_rows (told_rows s n t) n)
told_pass s n t p = subst (Passed n) (sym (before_rows t.before (table_rows (row (tm_of n) t.event) (all_shared t.before s) (all_acted t.before n)) n)) (rows_pass (row (tm_of n) t.event) (all_shared t.before s) n (all_acted t.before n) p)

draws : (n : Node) → Passed n (acted world.Draws n)
draws n = record { journal = refl; boot = omega arith; drawn = omega arith }

-- behind the rows of a branch, where there is one
branch_pass : (s : Shared) (n : Node) (o : Option Branch) (does : Branch → List Row) → ((b : Branch) → Passed n (node_after_rows (does b) n)) → Passed n (node_after_rows (elim o as (λ _. List Row) [ Some b ↦ does b | None ↦ [] ]) n)
branch_pass s n None does h = stays n
branch_pass s n (Some b) does h = h b

begun_pass : (s : Shared) (n : Node) (o : Option Label) → Passed n (node_after_rows (told_if s n (option_and_then (begins n) o)) n)
begun_pass s n None = stays n
begun_pass s n (Some l) = by l.bid
  where
    beginning : Id → Telling
    beginning x = record { before = world.Draws ∷ world.Numbers l.name (world.next_id n) ∷ []; event = rows.Begin l.tid (world.next_id n) x }

    by : (bid : Option Id) → Passed n (node_after_rows (told_if s n (option_map (λ x. let t : Telling = record { before = world.Draws ∷ world.Numbers l.name (world.next_id n) ∷ []; event = rows.Begin l.tid (world.next_id n) x } in t) bid)) n)
    by None = stays n
    by (Some x) = told_pass s n (beginning x) (draws n)

asked_pass : (s : Shared) (n : Node) (o : Option Branch) → Passed n (node_after_rows (told_if s n (option_map (λ (b : Branch). just (rows.InquireBranch b.key.serial)) o)) n)
asked_pass s n None = stays n
asked_pass s n (Some b) = told_pass s n (just (rows.InquireBranch b.key.serial)) (stays n)

replied_pass : (s : Shared) (n : Node) (o : Option Id) (rm : Name) (reply : Reply) → Passed n (node_after_rows (told_if s n (option_map (λ (serial : Id). just (rows.Replied serial rm reply)) o)) n)
replied_pass s n None rm reply = stays n
replied_pass s n (Some serial) rm reply = told_pass s n (just (rows.Replied serial rm reply)) (stays n)

boot_pass : (s : Shared) (n : Node) → Passed n (acted world.ComesUp (node_after_rows (boot_rows s n) n))
boot_pass s n =
    let acts = undo_all (map unit_key (left_active n)) in
    let o = acted Boots n in
    let m = acted world.ComesUp (node_after_rows (boot_rows s n) n) in
    let boot : m.durable.boot ≡ n.durable.boot + 1 = rows_boot acts s o in
    let drawn : m.volatile.drawn ≡ 0 = rows_drawn acts s o in
    record { journal = rows_journal acts s o; boot = omega (arith, boot); drawn = omega (arith, drawn) }

-- a request that tells the table or boots
restless_pass : (lit : Literals) (r : Request) (s : Shared) (n : Node) → RestsNot r → Passed n (node_after (service (request_of lit r)).closing (node_after_rows ((service (request_of lit r)).rows s n) n))
restless_pass lit (request.Records label file op) s n t = absurd t
restless_pass lit (request.Direct file op) s n t = absurd t
restless_pass lit (request.Init slots blocks) s n t = absurd t
restless_pass lit request.Boot s n t = boot_pass s n
restless_pass lit (request.Create file bucket size form) s n t = absurd t
restless_pass lit (request.SetFile file setting) s n t = absurd t
restless_pass lit (request.StartTrans label seconds) s n t = told_pass s n (starts n label seconds) (draws n)
restless_pass lit (request.AddBranch label other new) s n t = branch_pass s n (answers.branch_labelled s n label) (λ b. told_rows s n (adds n other new b)) (λ b. told_pass s n (adds n other new b) (draws n))
restless_pass lit (request.StartBranch label) s n t = begun_pass s n (world.labelled n.name label s.labels)
restless_pass lit (request.EndBranch label) s n t = branch_pass s n (answers.branch_labelled s n label) (λ b. told_rows s n (just (rows.EndBranch b.key.serial))) (λ b. told_pass s n (just (rows.EndBranch b.key.serial)) (stays n))
restless_pass lit (request.EndTrans label) s n t = branch_pass s n (answers.branch_labelled s n label) (λ b. told_rows s n (just (rows.EndTrans b.key.tid))) (λ b. told_pass s n (just (rows.EndTrans b.key.tid)) (stays n))
restless_pass lit (request.AbortTrans label) s n t = branch_pass s n (answers.branch_labelled s n label) (λ b. told_rows s n (just (rows.AbortBranch b.key.serial Aborted))) (λ b. told_pass s n (just (rows.AbortBranch b.key.serial Aborted)) (stays n))
restless_pass lit (request.Inquire who) s n t = asked_pass s n (answers.branch_named s n (named_of who))
restless_pass lit (request.DeclareRm rm) s n t = absurd t
restless_pass lit (request.JoinRm label rm) s n t = branch_pass s n (answers.branch_labelled s n label) (λ b. told_rows s n (just (rows.JoinRm b.key.serial rm))) (λ b. told_pass s n (just (rows.JoinRm b.key.serial rm)) (stays n))
restless_pass lit (request.AckEvent who rm reply) s n t = replied_pass s n (answers.serial_named s n (named_of who)) rm (reply_of reply)
restless_pass lit (request.ForgetRm rm) s n t = absurd t
restless_pass lit (request.GetDti who) s n t = absurd t
restless_pass lit request.LmcpShow s n t = absurd t
restless_pass lit request.LmcpDump s n t = absurd t
restless_pass lit (request.Dump file) s n t = absurd t
restless_pass lit request.DumpJournal s n t = absurd t
restless_pass lit (request.DumpImages file side) s n t = absurd t
restless_pass lit (request.Backup file) s n t = absurd t
restless_pass lit (request.Recover file way) s n t = absurd t
restless_pass lit (request.Fuse writes choice) s n t = absurd t
restless_pass lit request.Crash s n t = absurd t
restless_pass lit (request.Clock now) s n t = absurd t

-- a request of the one kind or of the other
data Kind (lit : Literals) (r : Request) : Type 0 where
  Quiet : IsQuiet (request_of lit r) → Kind lit r
  Restless : RestsNot r → Kind lit r

kind_of : (lit : Literals) (r : Request) → Kind lit r
kind_of lit (request.Records label file op) = Quiet tt
kind_of lit (request.Direct file op) = Quiet tt
kind_of lit (request.Init slots blocks) = Quiet tt
kind_of lit request.Boot = Restless tt
kind_of lit (request.Create file bucket size form) = Quiet tt
kind_of lit (request.SetFile file setting) = Quiet tt
kind_of lit (request.StartTrans label seconds) = Restless tt
kind_of lit (request.AddBranch label other new) = Restless tt
kind_of lit (request.StartBranch label) = Restless tt
kind_of lit (request.EndBranch label) = Restless tt
kind_of lit (request.EndTrans label) = Restless tt
kind_of lit (request.AbortTrans label) = Restless tt
kind_of lit (request.Inquire who) = Restless tt
kind_of lit (request.DeclareRm rm) = Quiet tt
kind_of lit (request.JoinRm label rm) = Restless tt
kind_of lit (request.AckEvent who rm reply) = Restless tt
kind_of lit (request.ForgetRm rm) = Quiet tt
kind_of lit (request.GetDti who) = Quiet tt
kind_of lit request.LmcpShow = Quiet tt
kind_of lit request.LmcpDump = Quiet tt
kind_of lit (request.Dump file) = Quiet tt
kind_of lit request.DumpJournal = Quiet tt
kind_of lit (request.DumpImages file side) = Quiet tt
kind_of lit (request.Backup file) = Quiet tt
kind_of lit (request.Recover file way) = Quiet tt
kind_of lit (request.Fuse writes choice) = Quiet tt
kind_of lit request.Crash = Quiet tt
kind_of lit (request.Clock now) = Quiet tt

-- what INIT is refused by its form is no matter of a disk that runs again
still_allowed : (s : Shared) (n : Node) (r : said.Request) → IsQuiet r → (service r).refused_before_reading s n ≡ None → (service r).refused_before_reading s (ready_node Lost 0 (service r) n) ≡ None
still_allowed s n (said.Records label file operation) q h = h
still_allowed s n (said.Direct file operation) q h = h
still_allowed s n (said.Init slots blocks) q h = h
still_allowed s n said.Boot q h = absurd q
still_allowed s n (said.Create file bucket size form) q h = h
still_allowed s n (said.SetFile file setting) q h = h
still_allowed s n (said.StartTrans label seconds) q h = absurd q
still_allowed s n (said.AddBranch label other new) q h = absurd q
still_allowed s n (said.StartBranch label) q h = absurd q
still_allowed s n (said.EndBranch label) q h = absurd q
still_allowed s n (said.EndTrans label) q h = absurd q
still_allowed s n (said.AbortTrans label) q h = absurd q
still_allowed s n (said.Inquire who) q h = absurd q
still_allowed s n (said.DeclareRm rm) q h = h
still_allowed s n (said.JoinRm label rm) q h = absurd q
still_allowed s n (said.AckEvent who rm reply) q h = absurd q
still_allowed s n (said.ForgetRm rm) q h = h
still_allowed s n (said.GetDti who) q h = h
still_allowed s n said.LmcpShow q h = h
still_allowed s n said.LmcpDump q h = h
still_allowed s n (said.Dump file) q h = h
still_allowed s n said.DumpJournal q h = h
still_allowed s n (said.DumpImages file side) q h = h
still_allowed s n (said.Backup file) q h = h
still_allowed s n (said.Recover file way) q h = h
still_allowed s n (said.Fuse writes choice) q h = h
still_allowed s n said.Crash q h = h
still_allowed s n (said.Clock now) q h = h

abbrev Same : Node → Node → Type 0
Same x y = (y.durable.journal ≡ x.durable.journal) × (y.durable.boot ≡ x.durable.boot) × (y.volatile.drawn ≡ x.volatile.drawn)

-- the journal's size, the boots and the ids are those of the node before its disk ran again
ready_passed : (n o m : Node) (e : Service) → o ≡ ready_node Lost 0 e n → Passed o m → Passed n m
ready_passed n o m e readied p =
    let same : Same n o = subst (Same n) (sym readied) (go (powers e) (spoils e)) in
    let j = same.0 in
    let b = same.1 in
    let d = same.2 in
    let pb = p.boot in
    let pd = p.drawn in
    record { journal = p.journal ∙ j; boot = omega (arith, b, pb); drawn = omega (arith, d, pd) }
  where
    go : (p q : Bool) → Same n (if p then with_unknown_volume q (powered Lost 0 n) else n)
    go false q = (refl, refl, refl)
    go true false = (refl, refl, refl)
    go true true = (refl, refl, refl)

-- A request was served.
pub served_units : (units : ℕ) (lit : Literals) (r : Request) (s t : Shared) (n m : Node) (shown : List Line) → Serves s n (service (request_of lit r)) shown m t → IsSetEarly units (request_of lit r) →
    (RestsNot r → (count : ℕ) → HasTime (count + 2048) n → HasTime count m) → HasUnits (units + 64) n → HasUnits units m
served_units units lit r s t n m shown serves early time h = go (refused_before_reading s n e) refl (e.refused_after_reading s o) refl
  where
    e : Service
    e = service (request_of lit r)

    o : Node
    o = ready_node Lost 0 e n

    fewer : HasUnits units n
    fewer = less_units (units + 64) units n (omega arith) h

    go : (before : Option line.Line) → refused_before_reading s n e ≡ before → (after : Option line.Line) → e.refused_after_reading s o ≡ after → HasUnits units m
    go (Some refusal) b after a = subst (HasUnits units) (sym (serves.node ∙ ap (λ x. (whole s n o e x).node) b)) fewer
    go None b (Some refusal) a = subst (HasUnits units) (sym (serves.node ∙ ap (λ x. (whole s n o e x).node) b ∙ ap (λ x. (begun s o e x).node) a)) (units_ready units e n o refl fewer)
    go None b None a =
        let is : m ≡ node_after e.closing (node_after_rows (e.rows s o) o) = serves.node ∙ ap (λ x. (whole s n o e x).node) b ∙ ap (λ x. (begun s o e x).node) a in
        elim (kind_of lit r) [
          | Quiet q ↦ request_units units s o m (request_of lit r) q early (still_allowed s n (request_of lit r) q (early_rest s n e b)) a is (units_ready (units + 64) e n o refl h)
          | Restless q ↦ (let p = ready_passed n o m e refl (subst (Passed o) (sym is) (restless_pass lit r s o q)) in units_pass units n m (time q) p.journal p.boot p.drawn (less_units (units + 64) (units + 1) n (omega arith) h))
        ]

-- likewise where memory may be missing
pub served_result : {T E : Type 0} (items : T → List Line) (units : ℕ) (lit : Literals) (r : Request) (s t : Shared) (n m : Node) (res : Result T E) → IfOk res (λ x. Serves s n (service (request_of lit r)) (items x) m t) → IsSetEarly units (request_of lit r) →
    (RestsNot r → (count : ℕ) → HasTime (count + 2048) n → OnOk res (HasTime count m)) → HasUnits (units + 64) n → OnOk res (HasUnits units m)
served_result items units lit r s t n m (Ok x) serves early time h = served_units units lit r s t n m (items x) serves early time h
served_result items units lit r s t n m (Err e) serves early time h = tt
