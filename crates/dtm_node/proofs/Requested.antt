-- The acts of a request leave of their node what is no part of its disk and its table.
use Rattle.std.proofs.Common.{◌≡◌, ℕ, List, [], ◌∷◌, ◌++◌, true, false, Option, Some, None, map, refl, subst}
use Rattle.std.specs.Option.{option_and_then, option_map}
use Rattle.std.specs.List.{AllByRecursion}
use Rattle.vms_model.specs.Keys.{Key}
use Rattle.emitter_model.specs.commit_protocol.Messages.{Name, Reply}
use Rattle.emitter_model.specs.commit_protocol.Rows as rows
use Rattle.emitter_model.specs.commit_protocol.Rows.{row}
use Rattle.emitter_model.specs.commit_protocol.Table.{Branch, without_rm}
use Rattle.world_laws.specs.log_laws.Slots.{slot_records}
use Rattle.emitter_model.specs.transcript_model.Lines as line
use Rattle.emitter_model.specs.transcript_model.Lines.{Line}
use Rattle.records_model.specs.Records.{Change}
use Rattle.script_lang.specs.script_model.Statements.{AbortTrans, AckEvent, AddBranch, Backup, Boot, Clock, Crash, Create, DeclareRm, Direct, Dump, DumpImages, DumpJournal, EndBranch, EndTrans, ForgetRm, Fuse, GetDti, Images, Init, Inquire, JoinRm, LmcpDump, LmcpShow, NoImages, NoRecoveryUnits, Records, Recover, RecoveryUnits, Request, SetFile, Setting, StartBranch, StartTrans}
use Rattle.world_laws.specs.run_model.World.{Act, BeginsImages, Creates, Declares, Draws, EndsImages, File, ForUnits, Label, Marks, Node, Numbers, Recovers, Saves, Shared, buckets_loaded, find_file, free_place, labelled, lowest_free, next_id, tm_of}
use Rattle.vms_model.specs.Ids.{Id}
use Rattle.vms_model.specs.Transactions.{Aborted}
use Rattle.world_laws.specs.run_model.Answers.{Row, Telling, adds, all_acted, all_shared, begins, blocks_for, blocks_of, blocks_recovered, branch_labelled, branch_named, changes_at, created, creates, directed, entry_lines, image_lines, journal_at, just, keys_at, log_line, on_free, operated, operation_act, records_of, records_recovered, recovers, serial_named, service, sets, shown_line, shown_record, silent, start_of, starts, table_rows, to_file, told_if, told_rows}
use Rattle.node_requests.specs.Requests.{IsForUp}
use Rattle.dtm_node.proofs.EventSteps.{rest_some, table_rest}
use Rattle.dtm_node.proofs.Performing.{LeavesRest, leaves_rest}

act_rest : (x : Act) → leaves_rest x ≡ true → LeavesRest (silent x)
act_rest x h = λ act q. rest_some x act q h

none_rest : (ls : List Line) → LeavesRest (record { act = None; lines = ls })
none_rest ls = λ act q. (let f : ⊥ = cc in absurd f)

shown_rest : {A : Type 0} (shown : A → Row) → ((x : A) → LeavesRest (shown x)) → (xs : List A) → AllByRecursion LeavesRest (map shown xs)
shown_rest shown h [] = tt
shown_rest shown h (x ∷ xs) = (h x, shown_rest shown h xs)

before_rest : (acts : List Act) (rs : List Row) → AllByRecursion (λ act. leaves_rest act ≡ true) acts → AllByRecursion LeavesRest rs → AllByRecursion LeavesRest (map silent acts ++ rs)
before_rest [] rs h k = k
before_rest (act ∷ acts) rs h k = (act_rest act h.0, before_rest acts rs h.1 k)

told_rest : (t : Telling) (s : Shared) (n : Node) → AllByRecursion (λ act. leaves_rest act ≡ true) t.before → AllByRecursion LeavesRest (told_rows s n t)
told_rest t s n h = before_rest t.before (table_rows (row (tm_of n) t.event) (all_shared t.before s) (all_acted t.before n)) h (table_rest (row (tm_of n) t.event) (all_shared t.before s) (all_acted t.before n))

branch_rest : (o : Option Branch) (does : Branch → List Row) → ((b : Branch) → AllByRecursion LeavesRest (does b)) → AllByRecursion LeavesRest (elim o [ Some b ↦ does b | None ↦ [] ])
branch_rest (Some b) does h = h b
branch_rest None does h = tt

if_rest : (s : Shared) (n : Node) (o : Option Telling) → ((t : Telling) → o ≡ Some t → AllByRecursion (λ act. leaves_rest act ≡ true) t.before) → AllByRecursion LeavesRest (told_if s n o)
if_rest s n None h = tt
if_rest s n (Some t) h = told_rest t s n (h t refl)

create_rest : (n : Node) (made : ℕ → File) (need : ℕ) → AllByRecursion LeavesRest (creates n made need)
create_rest n made need = go (free_place n.durable.directory) (lowest_free n need)
  where
    go : (place start : Option ℕ) → AllByRecursion LeavesRest (elim place [ Some p ↦ elim start [ Some q ↦ record { act = Some (Creates p (made q)); lines = [] } ∷ [] | None ↦ [] ] | None ↦ [] ])
    go (Some p) (Some q) = (act_rest (Creates p (made q)) refl, tt)
    go (Some p) None = tt
    go None start = tt

operation_rest : (b : Branch) (file : List ℕ) (cs : List Change) (ks : List Key) → LeavesRest (silent (operation_act b file cs ks))
operation_rest b file [] ks = act_rest (operation_act b file [] ks) refl
operation_rest b file (c ∷ cs) ks = act_rest (operation_act b file (c ∷ cs) ks) refl

directed_rest : (n : Node) (file : List ℕ) (cs : List Change) → AllByRecursion LeavesRest (directed n file cs)
directed_rest n file [] = tt
directed_rest n file (c ∷ cs) = (λ act q. rest_some _ act q refl, tt)

begun_rest : (n : Node) (l : Label) (bid : Option Id) (t : Telling) → option_map (λ (x : Id). let u : Telling = record { before = Draws ∷ Numbers l.name (next_id n) ∷ []; event = rows.Begin l.tid (next_id n) x } in u) bid ≡ Some t → AllByRecursion (λ act. leaves_rest act ≡ true) t.before
begun_rest n l None t q = let f : ⊥ = cc in absurd f
begun_rest n l (Some x) t q = let P : Option Telling → Type 0 = λ o. elim o [ Some u ↦ AllByRecursion (λ act. leaves_rest act ≡ true) u.before | None ↦ Unit {0} ] in subst P q (refl, (refl, tt))

begin_rest : (n : Node) (o : Option Label) (t : Telling) → option_and_then (begins n) o ≡ Some t → AllByRecursion (λ act. leaves_rest act ≡ true) t.before
begin_rest n None t q = let f : ⊥ = cc in absurd f
begin_rest n (Some l) t q = begun_rest n l l.bid t q

asked_rest : (o : Option Branch) (t : Telling) → option_map (λ (b : Branch). just (rows.InquireBranch b.key.serial)) o ≡ Some t → AllByRecursion (λ act. leaves_rest act ≡ true) t.before
asked_rest None t q = let f : ⊥ = cc in absurd f
asked_rest (Some b) t q = let P : Option Telling → Type 0 = λ o. elim o [ Some u ↦ AllByRecursion (λ act. leaves_rest act ≡ true) u.before | None ↦ Unit {0} ] in subst P q tt

replied_rest : (o : Option Id) (rm : Name) (reply : Reply) (t : Telling) → option_map (λ (serial : Id). just (rows.Replied serial rm reply)) o ≡ Some t → AllByRecursion (λ act. leaves_rest act ≡ true) t.before
replied_rest None rm reply t q = let f : ⊥ = cc in absurd f
replied_rest (Some serial) rm reply t q = let P : Option Telling → Type 0 = λ o. elim o [ Some u ↦ AllByRecursion (λ act. leaves_rest act ≡ true) u.before | None ↦ Unit {0} ] in subst P q tt

sets_rest : (n : Node) (file : List ℕ) (setting : Setting) → AllByRecursion LeavesRest (sets n file setting)
sets_rest n file RecoveryUnits = (act_rest (Marks file (ForUnits true)) refl, tt)
sets_rest n file NoRecoveryUnits = (act_rest (Marks file (ForUnits false)) refl, tt)
sets_rest n file (Images side blocks) = (act_rest (Marks file (BeginsImages side (start_of (lowest_free n blocks)) blocks)) refl, tt)
sets_rest n file (NoImages side) = (act_rest (Marks file (EndsImages side)) refl, tt)

file_rest : (n : Node) (file : List ℕ) (does : File → List Row) → ((f : File) → AllByRecursion LeavesRest (does f)) → AllByRecursion LeavesRest (to_file n file does)
file_rest n file does each = go (find_file file n.durable.directory)
  where
    go : (o : Option File) → AllByRecursion LeavesRest (elim o [ Some f ↦ does f | None ↦ [] ])
    go None = tt
    go (Some f) = each f

pub rows_rest : (request : Request) → IsForUp request → (s : Shared) (n : Node) → AllByRecursion LeavesRest ((service request).rows s n)
rows_rest (Init slots journal) h s n = absurd h
rows_rest Boot h s n = absurd h
rows_rest (Fuse writes choice) h s n = absurd h
rows_rest Crash h s n = absurd h
rows_rest (Clock now) h s n = absurd h
rows_rest (Create file bucket size form) h s n = create_rest n (λ start. created file bucket size form start n.durable.greatest) (blocks_for bucket size form)
rows_rest (SetFile file setting) h s n = sets_rest n file setting
rows_rest (StartTrans label seconds) h s n = told_rest (starts n label seconds) s n (refl, (refl, tt))
rows_rest (AddBranch label other new) h s n = branch_rest (branch_labelled s n label) (λ b. told_rows s n (adds n other new b)) (λ b. told_rest (adds n other new b) s n (refl, (refl, tt)))
rows_rest (StartBranch label) h s n = if_rest s n (option_and_then (begins n) (labelled n.name label s.labels)) (begin_rest n (labelled n.name label s.labels))
rows_rest (Records label file op) h s n = branch_rest (branch_labelled s n label) (λ b. operated n file op b ∷ []) (λ b. (operation_rest b file (changes_at n file op) (keys_at n file op), tt))
rows_rest (Direct file op) h s n = directed_rest n file (changes_at n file op)
rows_rest (EndBranch label) h s n = branch_rest (branch_labelled s n label) (λ b. told_rows s n (just (rows.EndBranch b.key.serial))) (λ b. told_rest (just (rows.EndBranch b.key.serial)) s n tt)
rows_rest (EndTrans label) h s n = branch_rest (branch_labelled s n label) (λ b. told_rows s n (just (rows.EndTrans b.key.tid))) (λ b. told_rest (just (rows.EndTrans b.key.tid)) s n tt)
rows_rest (AbortTrans label) h s n = branch_rest (branch_labelled s n label) (λ b. told_rows s n (just (rows.AbortBranch b.key.serial Aborted))) (λ b. told_rest (just (rows.AbortBranch b.key.serial Aborted)) s n tt)
rows_rest (Inquire who) h s n = if_rest s n (option_map (λ (b : Branch). just (rows.InquireBranch b.key.serial)) (branch_named s n who)) (asked_rest (branch_named s n who))
rows_rest (DeclareRm rm) h s n = (λ act q. rest_some _ act q refl, tt)
rows_rest (JoinRm label rm) h s n = branch_rest (branch_labelled s n label) (λ b. told_rows s n (just (rows.JoinRm b.key.serial rm))) (λ b. told_rest (just (rows.JoinRm b.key.serial rm)) s n tt)
rows_rest (AckEvent who rm reply) h s n = if_rest s n (option_map (λ (serial : Id). just (rows.Replied serial rm reply)) (serial_named s n who)) (replied_rest (serial_named s n who) rm reply)
rows_rest (ForgetRm rm) h s n = (act_rest (Declares (without_rm rm n.volatile.declared)) refl, tt)
rows_rest (GetDti who) h s n = tt
rows_rest LmcpShow h s n = tt
rows_rest LmcpDump h s n = shown_rest shown_line (λ l. none_rest (l ∷ [])) (map log_line (slot_records 0 n.durable.log))
rows_rest (Dump file) h s n = shown_rest shown_record (λ e. none_rest (line.Record e.0 e.1 ∷ [])) (records_of n file)
rows_rest DumpJournal h s n = shown_rest shown_line (λ l. none_rest (l ∷ [])) (entry_lines n.durable.units.first n.durable.units.entries)
rows_rest (DumpImages file side) h s n = file_rest n file (λ f. map shown_line (image_lines file (journal_at side f).entries)) (λ f. shown_rest shown_line (λ l. none_rest (l ∷ [])) (image_lines file (journal_at side f).entries))
rows_rest (Backup file) h s n = file_rest n file (λ f. on_free n (blocks_of f) (Saves file)) (λ f. (act_rest (Saves file (start_of (lowest_free n (blocks_of f)))) refl, tt))
rows_rest (Recover file way) h s n = file_rest n file (recovers n file way) (λ f. (act_rest (Recovers file (start_of (lowest_free n (blocks_recovered way f))) (buckets_loaded f (records_recovered way f)) (records_recovered way f)) refl, tt))
