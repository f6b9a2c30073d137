-- What refuses a task, and how a success is answered: what holds of each task.
use Rattle.std.proofs.Common.{◌≡◌, ℕ, ◌==◌, List, [], ◌∷◌, Bool, true, false, not, ◌&&◌, Option, Some, None, option_map, refl, subst, sym}
use Rattle.std.specs.Prelude.{nat_lt}
use Rattle.std.specs.Option.{option_and_then}
use Rattle.std.specs.List.{list_any}
use Rattle.transcript_model.specs.vms_model.Ids.{Id}
use Rattle.transcript_model.specs.vms_model.Keys.{Key, Number, Text}
use Rattle.transcript_model.specs.vms_model.Transactions.{Commit, Abort}
use Rattle.transcript_model.specs.vms_model.Limits.{boot_limit, moment_limit, position_limit}
use Rattle.transcript_model.specs.Lines as line
use Rattle.transcript_model.specs.Lines.{Line, Cause}
use Rattle.script_model.specs.Statements.{Request, Init, Boot, Create, SetFile, StartTrans, AddBranch, StartBranch, Records, Direct, EndBranch, EndTrans, AbortTrans, Inquire, DeclareRm, JoinRm, AckEvent, ForgetRm, GetDti, Dump, DumpImages, Backup, Recover, Recovery, Side, Setting, RecoveryUnits, NoRecoveryUnits, Images, NoImages, Named, ByLabel, BySerial, Operation, Put, Update, Delete, Truncate, Get, Next}
use Rattle.recovery_model.specs.records_model.Records.{Change, Records as TheRecords}
use Rattle.recovery_model.specs.records_model.History.{first_to_change}
use Rattle.recovery_model.specs.Recovery.{Refusal, NoJournal, NoSave, InUse, TooEarly, PositionsMissing, MomentsMissing, refusal}
use Rattle.recovery_model.specs.Room.{Full, AftersFull, BeforesFull, full_of}
use Rattle.transcript_model.specs.commit_protocol.Messages.{Name, Reply}
use Rattle.transcript_model.specs.commit_protocol.Table as table
use Rattle.transcript_model.specs.commit_protocol.Table.{Branch, Notes, Settles}
use Rattle.transcript_model.specs.commit_protocol.Rows.{row}
use Rattle.transcript_model.specs.commit_protocol.Rows as rows
use Rattle.transcript_model.specs.commit_protocol.Allowed.{is_working, may_end}
use Rattle.run_model.specs.World.{Shared, Node, File, Organization, Sequential, Relative, Indexed, Volume, Sound, Faulty, Barred, Unknown, NoRing, NoIndex, AllBoots, LateMoment, FarPosition, Label, find_file, find_label, labelled, next_id, serial_labelled, serials_of, state_of, tm_of}
use Rattle.run_model.specs.Locks.{holder}
use Rattle.run_model.specs.Operations.{first_of, refused_if, first_behind, in_order, record_in, current_records, count_of, key_refused, place_refused, delete_refused, truncate_refused, after_refused, form_refused, keys_asked, keys_found, put_refused, other_refused, update_refused, missing, at_end, data_refused, put_answer, found_answer, next_answer, operation_answer}
use Rattle.run_model.specs.Answers.{bar_line, Task, Serves, Restarts, service, task_service, Known, Unsettled, Recorded, Unheard, known, known_branch, known_manager, awaited_reply, declared_manager, is_declared, has_joined, is_joinable, more_managers, authorised, bootable, branch_labelled, branch_named, changes_at, end_answer, found_refused, held_against, in_state, is_file_form, is_first_active, is_in_doubt, is_marked, is_open, is_volume_form, journal_full, keys_refused, last_position, made_label, made_name, more_bids, more_branches, more_changes, blocks_of, blocks_recovered, file_told, full_line, has_journal, images_full, recovery_refused, refusal_line, setting_full, setting_refused, volume_full, way_of, needs_unit, new_file, new_label, of_file, of_label, operation_told, refused_before_reading, seconds_refused, there_is_file, unchanged_file, unsettled, unsettled_label}
use Rattle.run_model.specs.StepLaws.{is_refusal}

-- a line that may stand here passes this test
pub record Says (test : Line → Bool) (cause : Option Line) : Type 0 where
  pub says : (refusal : Line) → cause ≡ Some refusal → test refusal ≡ true

module _ (test : Line → Bool) where
  pub says_none : Says test None
  says_none = record { says = λ refusal e. let none : ⊥ = cc in absurd none }

  pub says_some : (refusal : Line) → test refusal ≡ true → Says test (Some refusal)
  says_some refusal h = record { says = λ other e. let same : refusal ≡ other = cc in rw (← same) h }

  pub says_if : (b : Bool) (refusal : Line) → test refusal ≡ true → Says test (refused_if b refusal)
  says_if true refusal h = says_some refusal h
  says_if false refusal h = says_none

  pub says_first : (a b : Option Line) → Says test a → Says test b → Says test (first_of a b)
  says_first (Some refusal) b h k = h
  says_first None b h k = k

  pub says_case : {A : Type 0} (o : Option A) (says : A → Option Line) (other : Option Line) → ((a : A) → Says test (says a)) → Says test other → Says test (elim o [ Some a ↦ says a | None ↦ other ])
  says_case (Some a) says other h k = h a
  says_case None says other h k = k

  pub says_bootable : (n : Node) → test (line.QuotaExceeded line.Boots boot_limit) ≡ true → test (line.QuotaExceeded line.Moments moment_limit) ≡ true → test (line.QuotaExceeded line.Positions position_limit) ≡ true → ((condition block : ℕ) → test (line.NoVolume n.name condition block) ≡ true) → Says test (bootable n)
  says_bootable n h k p f = go n.durable.volume
    where
      go : (v : Volume) → Says test (elim v [
        | Sound ↦ first_of (refused_if (n.durable.boot == boot_limit) (line.QuotaExceeded line.Boots boot_limit))
            (first_of (refused_if (nat_lt moment_limit n.durable.greatest) (line.QuotaExceeded line.Moments moment_limit)) (refused_if (nat_lt position_limit (last_position n)) (line.QuotaExceeded line.Positions position_limit)))
        | Faulty condition block ↦ Some (line.NoVolume n.name condition block)
        | Barred bar ↦ Some (bar_line n.name bar)
        | Unknown ↦ None
      ])
      go Sound = says_first _ _ (says_if _ _ h) (says_first _ _ (says_if _ _ k) (says_if _ _ p))
      go (Faulty condition block) = says_some _ (f condition block)
      go (Barred (NoRing block)) = says_some _ (f 6 block)
      go (Barred (NoIndex block)) = says_some _ (f 11 block)
      go (Barred AllBoots) = says_some _ h
      go (Barred LateMoment) = says_some _ k
      go (Barred FarPosition) = says_some _ p
      go Unknown = says_none

-- a line that may stand here is a refusal
abbrev pub Refuses : Option Line → Type 0
Refuses cause = Says is_refusal cause

-- a refusal that follows from the lines of a run alone
abbrev pub follows_from_lines : Line → Bool
follows_from_lines line.NoSuchNode = true
follows_from_lines line.NodeDown = true
follows_from_lines line.NodeUp = true
follows_from_lines line.VolumeInUse = true
follows_from_lines line.NotInitialized = true
follows_from_lines line.NoSuchMessage = true
follows_from_lines line.BadLabel = true
follows_from_lines _ = false

-- and one that does not
abbrev pub is_by_more : Line → Bool
is_by_more refusal = is_refusal refusal && not (follows_from_lines refusal)

-- a line that may stand here is such a refusal
abbrev pub RefusesByMore : Option Line → Type 0
RefusesByMore cause = Says is_by_more cause

both_true : (a b : Bool) → (a && b) ≡ true → a ≡ true
both_true true b e = refl
both_true false b e = e

pub weaker : (cause : Option Line) → RefusesByMore cause → Refuses cause
weaker cause h = record { says = λ refusal e. both_true (is_refusal refusal) (not (follows_from_lines refusal)) (h.says refusal e) }

refuses_file : (n : Node) (file : List ℕ) → RefusesByMore (there_is_file n file)
refuses_file n file = says_case is_by_more (find_file file n.durable.directory) (λ f. None) _ (λ f. says_none is_by_more) (says_some is_by_more _ refl)

refuses_of_file : (n : Node) (file : List ℕ) (says : File → Option Line) → ((f : File) → RefusesByMore (says f)) → RefusesByMore (of_file n file says)
refuses_of_file n file says h = says_case is_by_more (find_file file n.durable.directory) says _ h (says_none is_by_more)

refuses_unsettled : (o : Option Branch) → RefusesByMore (unsettled o)
refuses_unsettled o = says_case is_by_more o (λ b. None) _ (λ b. says_none is_by_more) (says_some is_by_more _ refl)

refuses_state : (holds : Branch → Bool) (o : Option Branch) → RefusesByMore (in_state holds o)
refuses_state holds o = says_case is_by_more o (λ b. refused_if (not (holds b)) line.WrongState) _ (λ b. says_if is_by_more _ _ refl) (says_none is_by_more)

refuses_unchanged : (n : Node) (f : File) → RefusesByMore (unchanged_file n f)
refuses_unchanged n f = says_case is_by_more (first_to_change f.history (serials_of n.volatile.branches)) (λ serial. Some (line.FileLocked serial)) _ (λ serial. says_some is_by_more _ refl) (says_none is_by_more)

refuses_free : (n : Node) (file : List ℕ) → RefusesByMore (first_of (there_is_file n file) (of_file n file (unchanged_file n)))
refuses_free n file = says_first is_by_more _ _ (refuses_file n file) (refuses_of_file n file _ (refuses_unchanged n))

-- What refuses a mark, a save or a recovery.

refuses_setting : (setting : Setting) → RefusesByMore (setting_refused setting)
refuses_setting RecoveryUnits = says_none is_by_more
refuses_setting NoRecoveryUnits = says_none is_by_more
refuses_setting (Images side blocks) = says_if is_by_more _ _ refl
refuses_setting (NoImages side) = says_none is_by_more

refuses_marking : (n : Node) (file : List ℕ) (setting : Setting) → RefusesByMore (first_of (there_is_file n file) (first_of (setting_refused setting) (of_file n file (unchanged_file n))))
refuses_marking n file setting = says_first is_by_more _ _ (refuses_file n file) (says_first is_by_more _ _ (refuses_setting setting) (refuses_of_file n file _ (refuses_unchanged n)))

refuses_mapped : {A : Type 0} (told : A → Line) (o : Option A) → ((x : A) → is_by_more (told x) ≡ true) → RefusesByMore (option_map told o)
refuses_mapped told (Some x) h = says_some is_by_more (told x) (h x)
refuses_mapped told None h = says_none is_by_more

refusal_is : (r : Refusal) → is_by_more (refusal_line r) ≡ true
refusal_is NoJournal = refl
refusal_is NoSave = refl
refusal_is (InUse serial) = refl
refusal_is (TooEarly until saved) = refl
refusal_is (PositionsMissing needed first) = refl
refusal_is (MomentsMissing until since) = refl

refuses_recovery : (n : Node) (way : Recovery) (f : File) → RefusesByMore (recovery_refused n way f)
refuses_recovery n way f = refuses_mapped refusal_line (refusal (way_of way) (first_to_change f.history (serials_of n.volatile.branches)) (state_of f)) refusal_is

refuses_volume : (n : Node) (need : ℕ) → RefusesByMore (volume_full n need)
refuses_volume n need = says_if is_by_more _ _ refl

refuses_room : (n : Node) (setting : Setting) → RefusesByMore (setting_full n setting)
refuses_room n RecoveryUnits = says_none is_by_more
refuses_room n NoRecoveryUnits = says_none is_by_more
refuses_room n (Images side blocks) = refuses_volume n blocks
refuses_room n (NoImages side) = says_none is_by_more

full_is : (u : Full) → is_by_more (full_line u) ≡ true
full_is (AftersFull free need) = refl
full_is (BeforesFull free need) = refl

refuses_images : (serial : Id) (cs : List Change) (f : File) → RefusesByMore (images_full serial cs f)
refuses_images serial [] f = says_none is_by_more
refuses_images serial (c ∷ cs) f = refuses_mapped full_line (full_of serial (c ∷ cs) (state_of f)) full_is

-- What refuses keys that are asked for.

refuses_held : (asking holding : Option Id) → RefusesByMore (held_against asking holding)
refuses_held asking None = says_none is_by_more
refuses_held None (Some by) = says_some is_by_more _ refl
refuses_held (Some serial) (Some by) = says_if is_by_more _ _ refl

refuses_keys : (n : Node) (asking : Option Id) (file : List ℕ) (ks : List Key) → RefusesByMore (keys_refused n asking file ks)
refuses_keys n asking file [] = says_none is_by_more
refuses_keys n asking file (k ∷ ks) = says_first is_by_more _ _ (refuses_held asking (holder n.volatile.locks file k)) (refuses_keys n asking file ks)

-- What refuses an operation on records.

refuses_key : (o : Organization) (key : Key) → RefusesByMore (key_refused o key)
refuses_key Sequential (Number n) = says_none is_by_more
refuses_key (Relative greatest) (Number n) = says_if is_by_more _ _ refl
refuses_key (Indexed position size) (Text bytes) = says_if is_by_more _ _ refl
refuses_key _ _ = says_some is_by_more _ refl

refuses_place : (o : Organization) (number : Option ℕ) → RefusesByMore (place_refused o number)
refuses_place Sequential None = says_none is_by_more
refuses_place (Relative greatest) (Some n) = refuses_key (Relative greatest) (Number n)
refuses_place (Indexed position size) None = says_none is_by_more
refuses_place Sequential (Some n) = says_some is_by_more _ refl
refuses_place (Relative greatest) None = says_some is_by_more _ refl
refuses_place (Indexed position size) (Some n) = says_some is_by_more _ refl

refuses_delete : (o : Organization) → RefusesByMore (delete_refused o)
refuses_delete Sequential = says_some is_by_more _ refl
refuses_delete _ = says_none is_by_more

refuses_truncate : (o : Organization) → RefusesByMore (truncate_refused o)
refuses_truncate Sequential = says_none is_by_more
refuses_truncate _ = says_some is_by_more _ refl

refuses_after : (o : Organization) (after : Option Key) → RefusesByMore (after_refused o after)
refuses_after o None = says_none is_by_more
refuses_after o (Some key) = refuses_key o key

refuses_form : (f : File) (op : Operation) → RefusesByMore (form_refused f op)
refuses_form f (Put number bytes) = says_first is_by_more _ _ (refuses_place f.organization number) (says_if is_by_more _ _ refl)
refuses_form f (Update key bytes) = says_first is_by_more _ _ (refuses_key f.organization key) (says_if is_by_more _ _ refl)
refuses_form f (Delete key) = says_first is_by_more _ _ (refuses_key f.organization key) (refuses_delete f.organization)
refuses_form f (Truncate number) = refuses_truncate f.organization
refuses_form f (Get key) = refuses_key f.organization key
refuses_form f (Next after) = refuses_after f.organization after

refuses_put : (o : Organization) (m : TheRecords) (number : Option ℕ) (bytes : List ℕ) → RefusesByMore (put_refused o m number bytes)
refuses_put o m (Some number) bytes = says_if is_by_more _ _ refl
refuses_put Sequential m None bytes = says_none is_by_more
refuses_put (Relative greatest) m None bytes = says_none is_by_more
refuses_put (Indexed position size) m None bytes = says_if is_by_more _ _ refl

refuses_other : (o : Organization) (key : Key) (old new : List ℕ) → RefusesByMore (other_refused o key old new)
refuses_other Sequential key old new = says_if is_by_more _ _ refl
refuses_other (Relative greatest) key old new = says_none is_by_more
refuses_other (Indexed position size) key old new = says_if is_by_more _ _ refl

refuses_update : (o : Organization) (key : Key) (old : Option (List ℕ)) (new : List ℕ) → RefusesByMore (update_refused o key old new)
refuses_update o key None new = says_some is_by_more _ refl
refuses_update o key (Some old) new = refuses_other o key old new

refuses_missing : (o : Option (List ℕ)) → RefusesByMore (missing o)
refuses_missing None = says_some is_by_more _ refl
refuses_missing (Some bytes) = says_none is_by_more

refuses_end : (o : Option (Key × List ℕ)) → RefusesByMore (at_end o)
refuses_end None = says_some is_by_more _ refl
refuses_end (Some e) = says_none is_by_more

refuses_data : (f : File) (op : Operation) → RefusesByMore (data_refused f op)
refuses_data f (Put number bytes) = refuses_put f.organization (current_records f) number bytes
refuses_data f (Update key bytes) = refuses_update f.organization key (record_in f key) bytes
refuses_data f (Delete key) = refuses_missing (record_in f key)
refuses_data f (Truncate number) = says_if is_by_more _ _ refl
refuses_data f (Get key) = refuses_missing (record_in f key)
refuses_data f (Next after) = refuses_end (first_behind after (in_order f))

-- What refuses a request before the disk is read: what the lines of a run tell alone, and what they do not.

abbrev pub by_lines : Shared → Node → Request → Option Line
by_lines s n (Init slots journal) = refused_if s.in_use line.VolumeInUse
by_lines s n Boot = first_of (refused_if n.up line.NodeUp) (refused_if n.unmade line.NotInitialized)
by_lines s n (StartTrans label seconds) = new_label s label
by_lines s n (AddBranch label other new) = first_of (made_label s n label) (new_label s new)
by_lines s n (StartBranch label) = made_label s n label
by_lines s n (Records label file op) = made_label s n label
by_lines s n (EndBranch label) = made_label s n label
by_lines s n (EndTrans label) = made_label s n label
by_lines s n (AbortTrans label) = made_label s n label
by_lines s n (Inquire who) = made_name s n who
by_lines s n (JoinRm label rm) = made_label s n label
by_lines s n (AckEvent who rm reply) = made_name s n who
by_lines s n (GetDti who) = made_name s n who
by_lines s n _ = None

abbrev pub by_more : Shared → Node → Request → Option Line
by_more s n (Init slots journal) = refused_if (not (is_volume_form slots journal n)) line.BadParameter
by_more s n (Create file bucket size form) = first_of (new_file n file) (refused_if (not (is_file_form bucket size form)) line.BadParameter)
by_more s n (SetFile file setting) = first_of (there_is_file n file) (first_of (setting_refused setting) (of_file n file (unchanged_file n)))
by_more s n (StartTrans label seconds) = seconds_refused seconds
by_more s n (AddBranch label other new) = first_of (unsettled_label s n label) (in_state is_first_active (branch_labelled s n label))
by_more s n (StartBranch label) = first_of (of_label s n label authorised) (in_state (λ b. false) (branch_labelled s n label))
by_more s n (Records label file op) = first_of (there_is_file n file) (first_of (of_file n file (λ f. form_refused f op)) (first_of (unsettled_label s n label)
    (first_of (in_state is_working (branch_labelled s n label))
    (first_of (of_file n file is_marked) (of_file n file (λ f. keys_refused n (serial_labelled n.name label s.labels) file (keys_asked f op)))))))
by_more s n (Direct file op) = first_of (there_is_file n file) (first_of (of_file n file (λ f. form_refused f op)) (first_of (of_file n file (needs_unit op)) (of_file n file (λ f. keys_refused n None file (keys_asked f op)))))
by_more s n (EndBranch label) = first_of (unsettled_label s n label) (in_state may_end (branch_labelled s n label))
by_more s n (EndTrans label) = first_of (unsettled_label s n label) (in_state is_first_active (branch_labelled s n label))
by_more s n (AbortTrans label) = first_of (unsettled_label s n label) (in_state is_open (branch_labelled s n label))
by_more s n (Inquire who) = first_of (unsettled (branch_named s n who)) (in_state is_in_doubt (branch_named s n who))
by_more s n (DeclareRm rm) = refused_if (is_declared n rm) line.WrongState
by_more s n (JoinRm label rm) = first_of (unsettled_label s n label) (first_of (declared_manager n rm) (in_state (is_joinable rm) (branch_labelled s n label)))
by_more s n (AckEvent who rm reply) = first_of (known_branch (known s n who)) (first_of (declared_manager n rm) (first_of (known_manager rm (known s n who)) (awaited_reply rm reply (known s n who))))
by_more s n (ForgetRm rm) = first_of (declared_manager n rm) (refused_if (list_any (has_joined rm) n.volatile.branches) line.WrongState)
by_more s n (Dump file) = first_of (there_is_file n file) (of_file n file (unchanged_file n))
by_more s n (DumpImages file side) = first_of (there_is_file n file) (of_file n file (has_journal side))
by_more s n (Backup file) = first_of (there_is_file n file) (of_file n file (unchanged_file n))
by_more s n (Recover file way) = first_of (there_is_file n file) (of_file n file (recovery_refused n way))
by_more s n _ = None

pub first_none : (o : Option Line) → first_of o None ≡ o
first_none (Some refusal) = refl
first_none None = refl

pub first_again : (a b c : Option Line) → first_of (first_of a b) c ≡ first_of a (first_of b c)
first_again (Some refusal) b c = refl
first_again None b c = refl

-- the one stands before the other
pub parted : (s : Shared) (n : Node) (request : Request) → (service request).refused_before_reading s n ≡ first_of (by_lines s n request) (by_more s n request)
parted s n Boot = sym (first_none _)
parted s n (GetDti who) = sym (first_none _)
parted s n (AddBranch label other new) = sym (first_again (made_label s n label) (new_label s new) _)
parted s n _ = refl

refuses_label : (s : Shared) (n : Node) (label : List ℕ) (holds : Branch → Bool) → RefusesByMore (first_of (unsettled_label s n label) (in_state holds (branch_labelled s n label)))
refuses_label s n label holds = says_first is_by_more _ _ (refuses_unsettled (branch_labelled s n label)) (refuses_state holds (branch_labelled s n label))

refuses_seconds : (seconds : Option ℕ) → RefusesByMore (seconds_refused seconds)
refuses_seconds None = says_none is_by_more
refuses_seconds (Some seconds) = says_if is_by_more _ _ refl

refuses_authorised : (l : Label) → RefusesByMore (authorised l)
refuses_authorised l = says_case is_by_more l.bid (λ bid. None) _ (λ bid. says_none is_by_more) (says_some is_by_more _ refl)

refuses_manager : (n : Node) (rm : Name) → RefusesByMore (declared_manager n rm)
refuses_manager n rm = says_if is_by_more _ _ refl

refuses_branch : (k : Known) → RefusesByMore (known_branch k)
refuses_branch (Unsettled b) = says_none is_by_more
refuses_branch (Recorded r) = says_none is_by_more
refuses_branch Unheard = says_some is_by_more _ refl

refuses_known : (rm : Name) (k : Known) → RefusesByMore (known_manager rm k)
refuses_known rm (Unsettled b) = says_if is_by_more _ _ refl
refuses_known rm (Recorded r) = says_if is_by_more _ _ refl
refuses_known rm Unheard = says_none is_by_more

refuses_reply : (rm : Name) (reply : Reply) (k : Known) → RefusesByMore (awaited_reply rm reply k)
refuses_reply rm reply (Unsettled b) = says_if is_by_more _ _ refl
refuses_reply rm reply (Recorded r) = says_if is_by_more _ _ refl
refuses_reply rm reply Unheard = says_none is_by_more

pub more_refuses : (s : Shared) (n : Node) (request : Request) → RefusesByMore (by_more s n request)
more_refuses s n (Init slots journal) = says_if is_by_more _ _ refl
more_refuses s n (Create file bucket size form) =
    says_first is_by_more _ _ (says_case is_by_more (find_file file n.durable.directory) (λ f. Some line.FileExists) _ (λ f. says_some is_by_more _ refl) (says_none is_by_more)) (says_if is_by_more _ _ refl)
more_refuses s n (SetFile file setting) = refuses_marking n file setting
more_refuses s n (StartTrans label seconds) = refuses_seconds seconds
more_refuses s n (AddBranch label other new) = refuses_label s n label is_first_active
more_refuses s n (StartBranch label) =
    says_first is_by_more _ _ (says_case is_by_more (labelled n.name label s.labels) authorised _ refuses_authorised (says_none is_by_more)) (refuses_state (λ b. false) (branch_labelled s n label))
more_refuses s n (Records label file op) =
    says_first is_by_more _ _ (refuses_file n file) (says_first is_by_more _ _ (refuses_of_file n file _ (λ f. refuses_form f op))
    (says_first is_by_more _ _ (refuses_unsettled (branch_labelled s n label)) (says_first is_by_more _ _ (refuses_state is_working (branch_labelled s n label))
    (says_first is_by_more _ _ (refuses_of_file n file _ (λ f. says_if is_by_more _ _ refl)) (refuses_of_file n file _ (λ f. refuses_keys n _ file (keys_asked f op)))))))
more_refuses s n (Direct file op) =
    says_first is_by_more _ _ (refuses_file n file) (says_first is_by_more _ _ (refuses_of_file n file _ (λ f. refuses_form f op))
    (says_first is_by_more _ _ (refuses_of_file n file _ (λ f. says_if is_by_more _ _ refl)) (refuses_of_file n file _ (λ f. refuses_keys n None file (keys_asked f op)))))
more_refuses s n (EndBranch label) = refuses_label s n label may_end
more_refuses s n (EndTrans label) = refuses_label s n label is_first_active
more_refuses s n (AbortTrans label) = refuses_label s n label is_open
more_refuses s n (Inquire who) = says_first is_by_more _ _ (refuses_unsettled (branch_named s n who)) (refuses_state is_in_doubt (branch_named s n who))
more_refuses s n (DeclareRm rm) = says_if is_by_more _ _ refl
more_refuses s n (JoinRm label rm) =
    says_first is_by_more _ _ (refuses_unsettled (branch_labelled s n label)) (says_first is_by_more _ _ (refuses_manager n rm) (refuses_state (is_joinable rm) (branch_labelled s n label)))
more_refuses s n (AckEvent who rm reply) =
    says_first is_by_more _ _ (refuses_branch (known s n who)) (says_first is_by_more _ _ (refuses_manager n rm) (says_first is_by_more _ _ (refuses_known rm (known s n who)) (refuses_reply rm reply (known s n who))))
more_refuses s n (ForgetRm rm) = says_first is_by_more _ _ (refuses_manager n rm) (says_if is_by_more _ _ refl)
more_refuses s n (Dump file) = refuses_free n file
more_refuses s n (DumpImages file side) = says_first is_by_more _ _ (refuses_file n file) (refuses_of_file n file _ (λ f. says_if is_by_more _ _ refl))
more_refuses s n (Backup file) = refuses_free n file
more_refuses s n (Recover file way) = says_first is_by_more _ _ (refuses_file n file) (refuses_of_file n file _ (refuses_recovery n way))
more_refuses s n _ = says_none is_by_more

refuses_made : (s : Shared) (n : Node) (label : List ℕ) → Refuses (made_label s n label)
refuses_made s n label = says_case is_refusal (labelled n.name label s.labels) (λ serial. None) _ (λ serial. says_none is_refusal) (says_some is_refusal _ refl)

refuses_new : (s : Shared) (label : List ℕ) → Refuses (new_label s label)
refuses_new s label = says_case is_refusal (find_label label s.labels) (λ l. Some line.BadLabel) _ (λ l. says_some is_refusal _ refl) (says_if is_refusal _ _ refl)

refuses_name : (s : Shared) (n : Node) (who : Named) → Refuses (made_name s n who)
refuses_name s n (ByLabel label) = refuses_made s n label
refuses_name s n (BySerial serial) = says_none is_refusal

lines_refuse : (s : Shared) (n : Node) (request : Request) → Refuses (by_lines s n request)
lines_refuse s n (Init slots journal) = says_if is_refusal _ _ refl
lines_refuse s n Boot = says_first is_refusal _ _ (says_if is_refusal _ _ refl) (says_if is_refusal _ _ refl)
lines_refuse s n (StartTrans label seconds) = refuses_new s label
lines_refuse s n (AddBranch label other new) = says_first is_refusal _ _ (refuses_made s n label) (refuses_new s new)
lines_refuse s n (StartBranch label) = refuses_made s n label
lines_refuse s n (Records label file op) = refuses_made s n label
lines_refuse s n (EndBranch label) = refuses_made s n label
lines_refuse s n (EndTrans label) = refuses_made s n label
lines_refuse s n (AbortTrans label) = refuses_made s n label
lines_refuse s n (Inquire who) = refuses_name s n who
lines_refuse s n (JoinRm label rm) = refuses_made s n label
lines_refuse s n (AckEvent who rm reply) = refuses_name s n who
lines_refuse s n (GetDti who) = refuses_name s n who
lines_refuse s n _ = says_none is_refusal

request_refuses : (s : Shared) (n : Node) (request : Request) → Refuses ((service request).refused_before_reading s n)
request_refuses s n request = subst Refuses (sym (parted s n request)) (says_first is_refusal _ _ (lines_refuse s n request) (weaker _ (more_refuses s n request)))

task_refuses : (s : Shared) (n : Node) (t : Task) → Refuses ((task_service t).refused_before_reading s n)
task_refuses s n (Serves request) = request_refuses s n request
task_refuses s n Restarts = says_first is_refusal _ _ (says_if is_refusal _ _ refl) (says_if is_refusal _ _ refl)
task_refuses s n _ = says_none is_refusal

-- what refuses a task before the disk is read is a refusal
pub refuses_first : (s : Shared) (n : Node) (t : Task) → Refuses (refused_before_reading s n (task_service t))
refuses_first s n t = says_first is_refusal _ _ (says_if is_refusal _ _ refl) (task_refuses s n t)

-- What refuses it by what the disk has or by a quota.

refuses_found : (n : Node) (asking : Option Id) (file : List ℕ) (op : Operation) (f : File) → RefusesByMore (found_refused n asking file op f)
refuses_found n asking file op f = says_first is_by_more _ _ (refuses_data f op) (refuses_keys n asking file (keys_found f op))

refuses_bootable : (n : Node) → RefusesByMore (bootable n)
refuses_bootable n = says_bootable is_by_more n refl refl refl (λ condition block. refl)

refuses_branches : (n : Node) → RefusesByMore (more_branches n)
refuses_branches n = says_first is_by_more _ _ (says_if is_by_more _ _ refl) (says_if is_by_more _ _ refl)

refuses_of_branch : (says : Branch → Option Line) (o : Option Branch) → ((b : Branch) → RefusesByMore (says b)) → RefusesByMore (option_and_then says o)
refuses_of_branch says (Some b) h = h b
refuses_of_branch says None h = says_none is_by_more

late_refuses : (s : Shared) (n : Node) (request : Request) → RefusesByMore ((service request).refused_after_reading s n)
late_refuses s n Boot = refuses_bootable n
late_refuses s n (Create file bucket size form) = says_first is_by_more _ _ (says_if is_by_more _ _ refl) (says_if is_by_more _ _ refl)
late_refuses s n (StartTrans label seconds) = refuses_branches n
late_refuses s n (AddBranch label other new) = refuses_of_branch more_bids (branch_labelled s n label) (λ b. says_if is_by_more _ _ refl)
late_refuses s n (StartBranch label) = refuses_branches n
late_refuses s n (DeclareRm rm) = says_if is_by_more _ _ refl
late_refuses s n (JoinRm label rm) = refuses_of_branch more_managers (branch_labelled s n label) (λ b. says_if is_by_more _ _ refl)
late_refuses s n (Records label file op) =
    says_first is_by_more _ _ (refuses_of_file n file _ (refuses_found n _ file op)) (says_first is_by_more _ _ (refuses_of_branch (more_changes n (changes_at n file op)) (branch_labelled s n label) (λ b. says_if is_by_more _ _ refl))
    (says_first is_by_more _ _ (refuses_of_file n file _ (λ f. says_if is_by_more _ _ refl))
    (says_first is_by_more _ _ (refuses_of_file n file _ (λ f. says_if is_by_more _ _ refl)) (says_first is_by_more _ _ (refuses_of_branch (journal_full n file (changes_at n file op)) (branch_labelled s n label) (λ b. says_if is_by_more _ _ refl))
    (refuses_of_branch (λ b. of_file n file (images_full b.key.serial (changes_at n file op))) (branch_labelled s n label) (λ b. refuses_of_file n file _ (refuses_images b.key.serial (changes_at n file op))))))))
late_refuses s n (Direct file op) =
    says_first is_by_more _ _ (refuses_of_file n file _ (refuses_found n None file op)) (says_first is_by_more _ _ (says_if is_by_more _ _ refl) (says_first is_by_more _ _ (refuses_of_file n file _ (λ f. says_if is_by_more _ _ refl))
    (refuses_of_file n file _ (refuses_images (next_id n) (changes_at n file op)))))
late_refuses s n (SetFile file setting) = refuses_room n setting
late_refuses s n (Backup file) = refuses_of_file n file _ (λ f. refuses_volume n (blocks_of f))
late_refuses s n (Recover file way) = refuses_of_file n file _ (λ f. refuses_volume n (blocks_recovered way f))
late_refuses s n _ = says_none is_by_more

pub then_by_more : (s : Shared) (n : Node) (t : Task) → RefusesByMore ((task_service t).refused_after_reading s n)
then_by_more s n (Serves request) = late_refuses s n request
then_by_more s n Restarts = refuses_bootable n
then_by_more s n _ = says_none is_by_more

pub refuses_then : (s : Shared) (n : Node) (t : Task) → Refuses ((task_service t).refused_after_reading s n)
refuses_then s n t = weaker _ (then_by_more s n t)

-- Answers of successes.

-- an answer of a success
abbrev pub is_success : Line → Bool
is_success line.Normal = true
is_success (line.NormalCount n) = true
is_success (line.NormalId id) = true
is_success (line.NormalSpan first end) = true
is_success (line.NormalSave position moment) = true
is_success (line.NormalStanding standing) = true
is_success (line.NormalLog committed prepared free) = true
is_success (line.Pending serials rms) = true
is_success (line.TransactionAborted reason) = true
is_success line.RecordNormal = true
is_success (line.RecordPosition position) = true
is_success (line.RecordFound bytes) = true
is_success (line.NextFound key bytes) = true
is_success _ = false

-- a failure of a disk
abbrev pub is_failure : Line → Bool
is_failure (line.Broken cause) = true
is_failure _ = false

operation_succeeds : (n : Node) (file : List ℕ) (op : Operation) → is_success (operation_told n file op) ≡ true
operation_succeeds n file op = go (find_file file n.durable.directory)
  where
    put_is : (o : Organization) (count : ℕ) → is_success (put_answer o count) ≡ true
    put_is Sequential count = refl
    put_is (Relative greatest) count = refl
    put_is (Indexed at size) count = refl

    found_is : (o : Option (List ℕ)) → is_success (found_answer o) ≡ true
    found_is (Some bytes) = refl
    found_is None = refl

    next_is : (o : Option (Key × List ℕ)) → is_success (next_answer o) ≡ true
    next_is (Some e) = refl
    next_is None = refl

    answer_is : (f : File) (op : Operation) → is_success (operation_answer f op) ≡ true
    answer_is f (Put number bytes) = put_is f.organization (count_of f)
    answer_is f (Update key bytes) = refl
    answer_is f (Delete key) = refl
    answer_is f (Truncate number) = refl
    answer_is f (Get key) = found_is (record_in f key)
    answer_is f (Next after) = next_is (first_behind after (in_order f))

    go : (o : Option File) → is_success (elim o [ Some f ↦ operation_answer f op | None ↦ line.RecordNormal ]) ≡ true
    go (Some f) = answer_is f op
    go None = refl

end_succeeds : (todo : List table.Act) (before : Line) → is_success before ≡ true → is_success (end_answer todo before) ≡ true
end_succeeds [] before h = h
end_succeeds (Notes b ∷ todo) before h = end_succeeds todo _ refl
end_succeeds (Settles k Commit reason r ∷ todo) before h = refl
end_succeeds (Settles k Abort reason r ∷ todo) before h = refl
end_succeeds (_ ∷ todo) before h = end_succeeds todo before h

file_succeeds : (n : Node) (file : List ℕ) (says : File → Line) → ((f : File) → is_success (says f) ≡ true) → is_success (file_told n file says) ≡ true
file_succeeds n file says h = go (find_file file n.durable.directory)
  where
    go : (o : Option File) → is_success (elim o [ Some f ↦ says f | None ↦ line.Normal ]) ≡ true
    go (Some f) = h f
    go None = refl

request_succeeds : (s : Shared) (n : Node) (request : Request) → is_success ((service request).answer s n) ≡ true
request_succeeds s n (Records label file op) = operation_succeeds n file op
request_succeeds s n (Direct file op) = operation_succeeds n file op
request_succeeds s n (EndTrans label) = go (branch_labelled s n label)
  where
    go : (o : Option Branch) → is_success (elim o [ Some b ↦ end_answer (row (tm_of n) (rows.EndTrans b.key.tid)) line.Normal | None ↦ line.Normal ]) ≡ true
    go (Some b) = end_succeeds (row (tm_of n) (rows.EndTrans b.key.tid)) line.Normal refl
    go None = refl
request_succeeds s n (DumpImages file side) = file_succeeds n file _ (λ f. refl)
request_succeeds s n (Backup file) = file_succeeds n file _ (λ f. refl)
request_succeeds s n (Recover file way) = file_succeeds n file _ (λ f. refl)
request_succeeds s n _ = refl

pub task_succeeds : (s : Shared) (n : Node) (t : Task) → is_success ((task_service t).answer s n) ≡ true
task_succeeds s n (Serves request) = request_succeeds s n request
task_succeeds s n _ = refl

-- which is neither a refusal nor a failure
pub success_no_refusal : (answer : Line) → is_success answer ≡ true → is_refusal answer ≡ false
success_no_refusal line.Normal h = refl
success_no_refusal (line.NormalCount n) h = refl
success_no_refusal (line.NormalId id) h = refl
success_no_refusal (line.NormalSpan first end) h = refl
success_no_refusal (line.NormalSave position moment) h = refl
success_no_refusal (line.NormalStanding standing) h = refl
success_no_refusal (line.NormalLog committed prepared free) h = refl
success_no_refusal (line.Pending serials rms) h = refl
success_no_refusal (line.TransactionAborted reason) h = refl
success_no_refusal line.RecordNormal h = refl
success_no_refusal (line.RecordPosition position) h = refl
success_no_refusal (line.RecordFound bytes) h = refl
success_no_refusal (line.NextFound key bytes) h = refl
success_no_refusal _ h = let none : ⊥ = cc in absurd none

pub success_no_failure : (cause : Cause) → is_success (line.Broken cause) ≡ true → ⊥
success_no_failure cause h = let none : ⊥ = cc in none
