-- What the acts of a task that nothing refuses find of files and their images: what operations change may be entered there.
use Rattle.std.proofs.Common.{◌≡◌, ℕ, List, [], ◌∷◌, map, true, false, not, ◌||◌, Option, Some, None, refl, sym, ◌∙◌, subst}
use Rattle.std.specs.FinMap.{empty}
use Rattle.std.specs.Option.{option_and_then, option_map}
use Rattle.vms_model.specs.Ids.{Id}
use Rattle.vms_model.specs.Transactions.{Aborted}
use Rattle.world_laws.specs.transcript_model.Lines as line
use Rattle.world_laws.specs.transcript_model.Lines.{Line}
use Rattle.world_laws.specs.script_model.Statements.{Operation, Recovery, Request, Init, Boot, Create, SetFile, StartTrans, AddBranch, StartBranch, Records, Direct, EndBranch, EndTrans, AbortTrans, Inquire, DeclareRm, JoinRm, AckEvent, ForgetRm, GetDti, LmcpShow, LmcpDump, Dump, DumpJournal, DumpImages, Backup, Recover, Fuse, Crash, Clock}
use Rattle.unit_laws.specs.records_model.Records.{Change}
use Rattle.unit_laws.specs.Units.{has_changes}
use Rattle.world_laws.specs.recovery_model.File as recovery
use Rattle.world_laws.specs.recovery_model.File.{IsOpenIn}
use Rattle.world_laws.specs.recovery_model.Recovery.{rolled}
use Rattle.world_laws.specs.commit_protocol.Allowed.{is_working}
use Rattle.world_laws.specs.commit_protocol.Table as table
use Rattle.world_laws.specs.commit_protocol.Table.{Branch}
use Rattle.world_laws.specs.commit_protocol.Rows as rows
use Rattle.world_laws.specs.commit_protocol.Rows.{row}
use Rattle.world_laws.specs.log_laws.Slots.{slot_records}
use Rattle.world_laws.specs.run_model.World.{Creates, Draws, File, Label, Node, Numbers, Shared, Tables, acted, find_file, free_place, labelled, lowest_free, next_id, next_moment, serial_labelled, shared_after, state_of, tm_of}
use Rattle.world_laws.specs.run_model.Operations.{changes_of, data_refused, form_refused, keys_asked, keys_held, refused_if}
use Rattle.world_laws.specs.run_model.Answers.{Row, Service, Task, Serves, Ticks, Takes, Hears, LosesLink, RunsDown, Restarts, Telling, adds, all_acted, all_shared, begins, branch_labelled, branch_named, changes_at, creates, direct_refused, directed, entry_lines, found_refused, images_full, in_state, is_marked, just, keys_at, keys_refused, log_line, made_label, more_locks, needs_unit, new_file, of_file, operated, operation_act, operation_refused, powers, records_of, refused_before_reading, serial_named, service, setting_refused, silent, starts, table_rows, task_service, there_is_file, to_branch, told_if, told_rows, unchanged_file, unsettled_label, records_recovered, recovers, way_of, to_file}
use Rattle.world_laws.specs.Nodes.{IsKeptNode, IsRoomy, IsUp}
use Rattle.world_laws.proofs.AnswerLemmas.{neither}
use Rattle.world_laws.proofs.FindLemmas.{some_is}
use Rattle.world_laws.proofs.FileRows.{images_by, saves_by, sets_by}
use Rattle.world_laws.proofs.OperationLemmas.{changes_there, enters, refused_to_all, working}
use Rattle.world_laws.proofs.ServedLemmas.{file_says, not_there, recovery_rests, unchanged_rests, undrawn}
use Rattle.world_laws.proofs.TaskLemmas.{holds_it, labelled_in}
use Rattle.world_laws.proofs.ToldImages.{undrawn_open, unsettled_in_images}
use Rattle.recovery_laws.specs.Entering.{AllFind, MayEnterFile, OperationsEnter}
use Rattle.recovery_laws.specs.Loading.{HasNoGap}
use Rattle.recovery_laws.proofs.LoadingLemmas.{loads_leave_no_gap}
use Rattle.recovery_laws.proofs.OperationGaps.{leaves_no_gap}

module _ (s : Shared) (n : Node) (file : List ℕ) (op : Operation) (f : File) (up : IsUp n) (room : IsRoomy n) (found : find_file file n.durable.directory ≡ Some f) (some : has_changes (changes_of f op) ≡ true) where
  entered : (serial : Id) → IsOpenIn serial (state_of f) → form_refused f op ≡ None → data_refused f op ≡ None → keys_refused n (Some serial) file (keys_asked f op) ≡ None → of_file n file (images_full serial (changes_at n file op)) ≡ None → MayEnterFile serial (changes_of f op) f
  entered serial unsettled form passed e images = record {
    images = enters n up room serial file op f (changes_of f op) found refl some unsettled passed e
        (subst (λ cs. images_full serial cs f ≡ None) (changes_there n file op f found) (file_says n file f (images_full serial (changes_at n file op)) found images)) f found;
    gaps = leaves_no_gap f op form passed n up serial file found e;
  }

  pub labelled_enter : (label : List ℕ) (b : Branch) → branch_labelled s n label ≡ Some b → refused_before_reading s n (service (Records label file op)) ≡ None → operation_refused s n label file op ≡ None → MayEnterFile b.key.serial (changes_of f op) f
  labelled_enter label b is before late =
      let passes = (neither (refused_if (not (n.up || false)) line.NodeDown) _ before).1 in
      let behind_file = (neither (there_is_file n file) _ (neither (made_label s n label) _ passes).1).1 in
      let forms = neither (of_file n file (λ f. form_refused f op)) _ behind_file in
      let behind_form = forms.1 in
      let behind_branch = (neither (unsettled_label s n label) _ behind_form).1 in
      let states = neither (in_state is_working (branch_labelled s n label)) _ behind_branch in
      let keys = file_says n file f (λ g. keys_refused n (serial_labelled n.name label s.labels) file (keys_asked g op)) found (neither (of_file n file is_marked) _ states.1).1 in
      let late_found = neither (of_file n file (found_refused n (serial_labelled n.name label s.labels) file op)) _ late in
      let late_locks = (neither _ _ late_found.1).1 in
      let late_room = (neither (of_file n file (λ f. more_locks n file (keys_held f op))) _ late_locks).1 in
      let images = (neither _ _ (neither _ _ late_room).1).1 in
      let passed = (neither (data_refused f op) _ (file_says n file f (found_refused n (serial_labelled n.name label s.labels) file op) found late_found.0)).0 in
      let there = labelled_in s n label b is in
      entered b.key.serial (unsettled_in_images b.key.serial file f (up.running.images.unsettled b there.1 (working b (holds_it is_working (branch_labelled s n label) b states.0 is)) file f found)) (file_says n file f (λ g. form_refused g op) found forms.0) passed
      (subst (λ o. keys_refused n o file (keys_asked f op) ≡ None) there.0 keys)
      (subst (λ o. option_and_then (λ (b : Branch). of_file n file (images_full b.key.serial (changes_at n file op))) o ≡ None) is images)

  pub direct_enter : refused_before_reading s n (service (Direct file op)) ≡ None → direct_refused n file op ≡ None → MayEnterFile (next_id n) (changes_of f op) f
  direct_enter before late =
      let passes = (neither (refused_if (not (n.up || false)) line.NodeDown) _ before).1 in
      let forms = neither (of_file n file (λ f. form_refused f op)) _ (neither (there_is_file n file) _ passes).1 in
      let keys = file_says n file f (λ g. keys_refused n None file (keys_asked g op)) found (neither (of_file n file (needs_unit op)) _ forms.1).1 in
      let late_found = neither (of_file n file (found_refused n None file op)) _ late in
      let images = (neither _ _ (neither _ _ late_found.1).1).1 in
      let passed = (neither (data_refused f op) _ (file_says n file f (found_refused n None file op) found late_found.0)).0 in
      entered (next_id n) (unsettled_in_images (next_id n) file f (undrawn_open n.name n.durable.boot n.volatile.drawn (next_id n) n.durable.directory (undrawn n) up.running.images.drawn file f found)) (file_says n file f (λ g. form_refused g op) found forms.0) passed
      (refused_to_all n (next_id n) file (keys_asked f op) keys) images

pub operations_enter : OperationsEnter
operations_enter s n file op f kept up found some =
    let is_up = kept.runs up in
    record { labelled = labelled_enter s n file op f is_up.0 is_up.1 found some; direct = direct_enter s n file op f is_up.0 is_up.1 found some }

-- Rows.

table_find : (todo : List table.Act) (s : Shared) (n : Node) → AllFind (table_rows todo s n) n
table_find [] s n = tt
table_find (a ∷ todo) s n = (tt, table_find todo (shared_after (Tables a (next_moment n)) s) (acted (Tables a (next_moment n)) n))

branch_find : (n : Node) (o : Option Branch) (does : Branch → List Row) → ((b : Branch) → o ≡ Some b → AllFind (does b) n) → AllFind (elim o [ Some b ↦ does b | None ↦ [] ]) n
branch_find n (Some b) does h = h b refl
branch_find n None does h = tt

lines_find : {A : Type 0} (n : Node) (shows : A → List Line) (xs : List A) → AllFind (map (λ x. record { act = None; lines = shows x }) xs) n
lines_find n shows [] = tt
lines_find n shows (x ∷ xs) = (tt, lines_find n shows xs)

created_find : (n : Node) (name : List ℕ) (made : ℕ → File) (need : ℕ) → find_file name n.durable.directory ≡ None → ((start : ℕ) → (made start).name ≡ name) → ((start : ℕ) → state_of (made start) ≡ recovery.created n.durable.greatest (λ u. empty)) → AllFind (creates n made need) n
created_find n name made need none named new = go (free_place n.durable.directory) refl
  where
    at : (place : ℕ) → free_place n.durable.directory ≡ Some place → (o : Option ℕ) → AllFind (elim o [ Some start ↦ record { act = Some (Creates place (made start)); lines = [] } ∷ [] | None ↦ [] ]) n
    at place free (Some start) = ((subst (λ x. find_file x n.durable.directory ≡ None) (sym (named start)) none, free, new start), tt)
    at place free None = tt

    go : (o : Option ℕ) → free_place n.durable.directory ≡ o → AllFind (elim o [ Some place ↦ elim (lowest_free n need) [ Some start ↦ record { act = Some (Creates place (made start)); lines = [] } ∷ [] | None ↦ [] ] | None ↦ [] ]) n
    go (Some place) e = at place e (lowest_free n need)
    go None e = tt

begins_find : (s : Shared) (n : Node) (o : Option Label) → AllFind (told_if s n (option_and_then (begins n) o)) n
begins_find s n None = tt
begins_find s n (Some l) = go l.bid
  where
    go : (o : Option Id) → AllFind (told_if s n (option_map (λ bid. let t : Telling = record { before = Draws ∷ Numbers l.name (next_id n) ∷ []; event = rows.Begin l.tid (next_id n) bid } in t) o)) n
    go None = tt
    go (Some bid) = let before = Draws ∷ Numbers l.name (next_id n) ∷ [] in (tt, (tt, table_find (row (tm_of n) (rows.Begin l.tid (next_id n) bid)) (all_shared before s) (all_acted before n)))

-- changes of a file that is there, as they are asked for
asked_find : (n : Node) (file : List ℕ) (op : Operation) (serial : Id) (cs : List Change) → changes_at n file op ≡ cs → has_changes cs ≡ true →
    ((f : File) → find_file file n.durable.directory ≡ Some f → has_changes (changes_of f op) ≡ true → MayEnterFile serial (changes_of f op) f) → (f : File) → find_file file n.durable.directory ≡ Some f → MayEnterFile serial cs f
asked_find n file op serial cs is some enter f found =
    let same = sym (changes_there n file op f found) ∙ is in
    subst (λ ds. MayEnterFile serial ds f) same (enter f found (subst (λ ds. has_changes ds ≡ true) (sym same) some))

module _ (s : Shared) (n : Node) (kept : IsKeptNode s n) (up : n.up ≡ true) where
  records_find : (label file : List ℕ) (op : Operation) → refused_before_reading s n (service (Records label file op)) ≡ None → operation_refused s n label file op ≡ None → AllFind (to_branch s n label (λ b. operated n file op b ∷ [])) n
  records_find label file op first late = branch_find n (branch_labelled s n label) (λ b. operated n file op b ∷ []) (λ b is. at b is (changes_at n file op) refl)
    where
      at : (b : Branch) → branch_labelled s n label ≡ Some b → (cs : List Change) → changes_at n file op ≡ cs → AllFind (silent (operation_act b file cs (keys_at n file op)) ∷ []) n
      at b is [] e = (tt, tt)
      at b is (c ∷ cs) e = (asked_find n file op b.key.serial (c ∷ cs) e refl (λ f found some. labelled_enter s n file op f (kept.runs up).0 (kept.runs up).1 found some label b is first late), tt)

  direct_find : (file : List ℕ) (op : Operation) → refused_before_reading s n (service (Direct file op)) ≡ None → direct_refused n file op ≡ None → AllFind (directed n file (changes_at n file op)) n
  direct_find file op first late = at (changes_at n file op) refl
    where
      at : (cs : List Change) → changes_at n file op ≡ cs → AllFind (directed n file cs) n
      at [] e = tt
      at (c ∷ cs) e = (asked_find n file op (next_id n) (c ∷ cs) e refl (λ f found some. direct_enter s n file op f (kept.runs up).0 (kept.runs up).1 found some first late), tt)

  behind : (e : Service) → refused_before_reading s n e ≡ None → e.refused_before_reading s n ≡ None
  behind e first = (neither (refused_if (not (n.up || e.while_down)) line.NodeDown) (e.refused_before_reading s n) first).1

  rest : (file : List ℕ) → of_file n file (unchanged_file n) ≡ None → (f : File) → find_file file n.durable.directory ≡ Some f → f.history.live ≡ []
  rest file unchanged f found = unchanged_rests n file f found (file_says n file f (unchanged_file n) found unchanged) (kept.runs up).0

  -- what a file is recovered to is loaded
  recovered_find : (file : List ℕ) (way : Recovery) → ((f : File) → find_file file n.durable.directory ≡ Some f → f.history.live ≡ []) → AllFind (to_file n file (recovers n file way)) n
  recovered_find file way rests = go (find_file file n.durable.directory) refl
    where
      go : (o : Option File) → find_file file n.durable.directory ≡ o → AllFind (elim o as (λ x. List Row) [ Some f ↦ recovers n file way f | None ↦ [] ]) n
      go (Some f) found = ((λ g at. (rests g at, subst (λ (w : File). HasNoGap w.organization (records_recovered way f)) (some_is f g (sym found ∙ at)) (loads_leave_no_gap f.organization (rolled (way_of way) (state_of f))))), tt)
      go None found = tt

  request_find : (r : Request) → powers (service r) ≡ false → refused_before_reading s n (service r) ≡ None → (service r).refused_after_reading s n ≡ None → AllFind ((service r).rows s n) n
  request_find (Init slots journal) off first late = tt
  request_find Boot off first late = let none : ⊥ = cc in absurd none
  request_find (Create file bucket size form) off first late =
      created_find n file _ _ (not_there n file (neither (new_file n file) _ (behind (service (Create file bucket size form)) first)).0) (λ start. refl) (λ start. refl)
  request_find (SetFile file setting) off first late =
      let rests = rest file (neither (setting_refused setting) _ (neither (there_is_file n file) _ (behind (service (SetFile file setting)) first)).1).1 in
      sets_by (λ rs. AllFind rs n) tt n file setting (λ mark. (rests, tt))
  request_find (StartTrans label seconds) off first late = let t = starts n label seconds in (tt, (tt, table_find (row (tm_of n) t.event) (all_shared t.before s) (all_acted t.before n)))
  request_find (AddBranch label other new) off first late = branch_find n (branch_labelled s n label) (λ b. told_rows s n (adds n other new b)) (λ b is. let t = adds n other new b in (tt, (tt, table_find (row (tm_of n) t.event) (all_shared t.before s) (all_acted t.before n))))
  request_find (StartBranch label) off first late = begins_find s n (labelled n.name label s.labels)
  request_find (Records label file op) off first late = records_find label file op first late
  request_find (Direct file op) off first late = direct_find file op first late
  request_find (EndBranch label) off first late = branch_find n (branch_labelled s n label) (λ b. told_rows s n (just (rows.EndBranch b.key.serial))) (λ b is. table_find _ _ _)
  request_find (EndTrans label) off first late = branch_find n (branch_labelled s n label) (λ b. told_rows s n (just (rows.EndTrans b.key.tid))) (λ b is. table_find _ _ _)
  request_find (AbortTrans label) off first late = branch_find n (branch_labelled s n label) (λ b. told_rows s n (just (rows.AbortBranch b.key.serial Aborted))) (λ b is. table_find _ _ _)
  request_find (Inquire who) off first late = go (branch_named s n who)
    where
      go : (o : Option Branch) → AllFind (told_if s n (option_map (λ (b : Branch). just (rows.InquireBranch b.key.serial)) o)) n
      go (Some b) = table_find _ _ _
      go None = tt
  request_find (DeclareRm rm) off first late = (tt, tt)
  request_find (JoinRm label rm) off first late = branch_find n (branch_labelled s n label) (λ b. told_rows s n (just (rows.JoinRm b.key.serial rm))) (λ b is. table_find _ _ _)
  request_find (AckEvent who rm reply) off first late = go (serial_named s n who)
    where
      go : (o : Option Id) → AllFind (told_if s n (option_map (λ serial. just (rows.Replied serial rm reply)) o)) n
      go (Some serial) = table_find _ _ _
      go None = tt
  request_find (ForgetRm rm) off first late = (tt, tt)
  request_find (GetDti who) off first late = tt
  request_find LmcpShow off first late = tt
  request_find LmcpDump off first late = lines_find n (λ l. l ∷ []) (map log_line (slot_records 0 n.durable.log))
  request_find (Dump file) off first late = lines_find n (λ e. line.Record e.0 e.1 ∷ []) (records_of n file)
  request_find DumpJournal off first late = lines_find n (λ l. l ∷ []) (entry_lines n.durable.units.first n.durable.units.entries)
  request_find (DumpImages file side) off first late = images_by (λ rs. AllFind rs n) tt n file side (λ ls a. lines_find n (λ l. l ∷ []) ls)
  request_find (Backup file) off first late =
      let rests = rest file (neither (there_is_file n file) _ (behind (service (Backup file)) first)).1 in
      saves_by (λ rs. AllFind rs n) tt n file (λ start. (rests, tt))
  request_find (Recover file way) off first late =
      let rests = recovery_rests n file (kept.runs up).0 (kept.runs up).1 way (neither (there_is_file n file) _ (behind (service (Recover file way)) first)).1 in
      recovered_find file way rests
  request_find (Fuse writes choice) off first late = (tt, tt)
  request_find Crash off first late = (tt, tt)
  request_find (Clock now) off first late = (tt, tt)

  pub task_find : (t : Task) → powers (task_service t) ≡ false → refused_before_reading s n (task_service t) ≡ None → (task_service t).refused_after_reading s n ≡ None → AllFind ((task_service t).rows s n) n
  task_find (Serves r) off first late = request_find r off first late
  task_find Ticks off first late = table_find _ _ _
  task_find (Takes m) off first late = table_find _ _ _
  task_find (Hears m) off first late = (tt, table_find _ _ _)
  task_find (LosesLink other) off first late = table_find _ _ _
  task_find RunsDown off first late = table_find _ _ _
  task_find Restarts off first late = let none : ⊥ = cc in absurd none
