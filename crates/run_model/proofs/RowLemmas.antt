-- What worked scripts of one node show: a step at a time, since a map of records does not compute.
use Rattle.std.proofs.Common.{false, ◌≡◌, refl, List, [], ◌∷◌, ◌++◌, Option, Some, None, codes, ℕ, ap, ◌∙◌, sym, true, Bool, ◌||◌, not, length, map, if◌then◌else◌}
use Rattle.std.specs.Prelude.{replicate}
use Rattle.std.specs.Str.{bytes_eq}
use Rattle.std.specs.FinMap.{empty, get-empty}
use Rattle.transcript_model.specs.vms_model.Ids.{Id}
use Rattle.transcript_model.specs.vms_model.Keys.{Key, Number}
use Rattle.transcript_model.specs.vms_model.Transactions.{SegFail}
use Rattle.recovery_model.specs.records_model.Records.{Change, key_cmp}
use Rattle.recovery_model.specs.records_model.History.{LiveChanges}
use Rattle.recovery_model.specs.tree_model.Layouts.{no_layout}
use Rattle.recovery_model.specs.unit_laws.Journal.{Journal, ChangeEntry, empty_journal}
use Rattle.transcript_model.specs.commit_protocol.Messages.{same_name, same_id}
use Rattle.transcript_model.specs.commit_protocol.Table.{Branch, Active, same_key}
use Rattle.transcript_model.specs.commit_protocol.Rows.{blank}
use Rattle.transcript_model.specs.Lines as line
use Rattle.transcript_model.specs.Lines.{Line, Stopped}
use Rattle.script_model.specs.Statements.{At, Request, Boot, StartTrans, Records, Direct, EndTrans, Dump, DumpJournal, Fuse, Crash, Put, Get}
use Rattle.run_model.specs.Locks.{Lock}
use Rattle.run_model.specs.World.{World, Shared, Node, Durable, Volatile, File, Relative, Act, Changes, Call, Arm, Power, Sound, Outturn, Lost, Taken, nothing_carried, find_node, find_file, next_id, with_node}
use Rattle.run_model.specs.Operations.{in_order, refused_if, form_refused, file_full, record_in, keys_asked}
use Rattle.run_model.specs.Answers.{Serves, service, changes_at, found_refused, images_full, keys_refused, needs_unit, operation_told, shown_record, unchanged_file, there_is_file, of_file, records_of}
use Rattle.run_model.specs.Steps.{Whole, Cut, lines_of_rows, node_after_rows, shared_after_rows, occupied, task_effect}
use Rattle.run_model.specs.Statements.{stops_at, done_at, put_into, named_node}
use Rattle.run_model.specs.Rows.{Move, Shown, shown, played, zero_world, base_moves, base_lines, put_moves, put_lines, says, id, ChangeIsInJournal, RestartUndoes, StoppedChangeIsGone, TakenChangeIsUndone, TakenCommitIsTold, LostCommitIsUndone, TimeRunsOut, SettlingBoots}
use Rattle.run_model.proofs.EntryLemmas.{no_entries, one_entry}

-- one move more
pub then_plays : (w : World) (m : Move) (lines : List Line) (new : World) (ms : List Move) → shown w m ≡ record { lines = lines; world = new } → played w (m ∷ ms) ≡ lines ∷ played new ms
then_plays w m lines new ms e = ap (λ (x : Shown). x.lines ∷ played x.world ms) e

-- the last one
pub last_plays : (w : World) (m : Move) (lines : List Line) → (shown w m).lines ≡ lines → played w (m ∷ []) ≡ lines ∷ []
last_plays w m lines e = ap (λ (x : List Line). x ∷ []) e

-- the world after moves
abbrev pub after : World → List Move → World
after w [] = w
after w (m ∷ ms) = after (shown w m).world ms

-- a request that is done whole
pub does_whole : (w : World) (node : List ℕ) (request : Request) (n : Node) → find_node node w.nodes ≡ Some n → done_at w node (Serves request) (Whole Lost) ≡ put_into w node (task_effect w.shared (stops_at node w) n (Serves request) (Whole Lost))
does_whole w node request n found = rw (found, done_at) refl

-- a dump shows the records of a file that no branch has changed
dump_effect : (s : Shared) (stops : ℕ) (file : List ℕ) (n : Node) (f : File) (es : List (Key × List ℕ)) → n.up ≡ true → find_file file n.durable.directory ≡ Some f → unchanged_file n f ≡ None → in_order f ≡ es →
    task_effect s stops n (Serves (Dump file)) (Whole Lost) ≡ record { lines = lines_of_rows (map shown_record es) ++ []; answer = line.NormalCount (length es); ends = false; node = node_after_rows (map shown_record es) n; shared = occupied (service (Dump file)) (shared_after_rows (map shown_record es) s) }
dump_effect s stops file n f es up there unchanged is =
    let known : there_is_file n file ≡ None = rw (there, there_is_file) refl in
    let free : of_file n file (unchanged_file n) ≡ None = rw (there, of_file) unchanged in
    let shows : records_of n file ≡ es = rw (there, records_of) is in
    rw (up, known, free, shows) refl

pub dumps : (w : World) (node file : List ℕ) (n : Node) (f : File) (es : List (Key × List ℕ)) → find_node node w.nodes ≡ Some n → n.up ≡ true → find_file file n.durable.directory ≡ Some f → unchanged_file n f ≡ None → in_order f ≡ es →
    (shown w (record { statement = At node (Dump file); choices = [] })).lines ≡ (lines_of_rows (map shown_record es) ++ []) ++ line.NormalCount (length es) ∷ []
dumps w node file n f es found up there unchanged is =
    let named : named_node w node ≡ None = rw (found, named_node) refl in
    rw (named, does_whole w node (Dump file) n found, dump_effect w.shared (stops_at node w) file n f es up there unchanged is) refl

-- a record is read without a label that nobody holds
abbrev pub reads : List ℕ → Key → Request
reads file key = Direct file (Get key)

read_effect : (s : Shared) (stops : ℕ) (file : List ℕ) (key : Key) (n : Node) (f : File) (bytes : List ℕ) → n.up ≡ true → find_file file n.durable.directory ≡ Some f → form_refused f (Get key) ≡ None → keys_refused n None file (key ∷ []) ≡ None →
    file_full f (Get key) ≡ None → record_in f key ≡ Some bytes →
    task_effect s stops n (Serves (reads file key)) (Whole Lost) ≡ record { lines = []; answer = line.RecordFound bytes; ends = false; node = n; shared = occupied (service (reads file key)) s }
read_effect s stops file key n f bytes up there form held room is =
    let known : there_is_file n file ≡ None = rw (there, there_is_file) refl in
    let formed : of_file n file (λ f. form_refused f (Get key)) ≡ None = rw (there, of_file) form in
    let outside : of_file n file (needs_unit (Get key)) ≡ None = rw (there, of_file) refl in
    let free : of_file n file (λ f. keys_refused n None file (keys_asked f (Get key))) ≡ None = rw (there, of_file) held in
    let finds : of_file n file (found_refused n None file (Get key)) ≡ None = rw (there, of_file, is) refl in
    let fits : of_file n file (λ f. file_full f (Get key)) ≡ None = rw (there, of_file) room in
    let nothing : changes_at n file (Get key) ≡ [] = rw (there, changes_at) refl in
    let roomy : of_file n file (images_full (next_id n) (changes_at n file (Get key))) ≡ None = rw (there, of_file, nothing) refl in
    let told : operation_told n file (Get key) ≡ line.RecordFound bytes = rw (there, operation_told, is) refl in
    let awake : refused_if (not (n.up || false)) line.NodeDown ≡ None = rw up refl in
    rw (awake, known, formed, outside, free, finds, nothing, fits, roomy, nothing, told) refl

-- and it leaves the world
put_same : (node : List ℕ) (n : Node) (ns : List Node) → find_node node ns ≡ Some n → with_node node (λ m. n) ns ≡ ns
put_same node n [] e = refl
put_same node n (m ∷ ns) e = go (bytes_eq node m.name) (put_same node n ns) e
  where
    go : (b : Bool) → (find_node node ns ≡ Some n → with_node node (λ m. n) ns ≡ ns) → ◌≡◌ {A = Option Node} (if b then Some m else find_node node ns) (Some n) → ◌≡◌ {A = List Node} (if b then n ∷ ns else m ∷ with_node node (λ m. n) ns) (m ∷ ns)
    go true more k = let same : m ≡ n = cc in ap (λ x. x ∷ ns) (sym same)
    go false more k = ap (λ ms. m ∷ ms) (more k)

or_false : (b : Bool) → (b || false) ≡ b
or_false true = refl
or_false false = refl

left_as_it_was : (w : World) (node : List ℕ) (n : Node) → find_node node w.nodes ≡ Some n → ◌≡◌ {A = World} (record w { nodes = with_node node (λ m. n) w.nodes; shared = record w.shared { in_use = w.shared.in_use || false } }) w
left_as_it_was w node n found = let same = put_same node n w.nodes found in let used = or_false w.shared.in_use in λ i. record w { nodes = same i; shared = record w.shared { in_use = used i } }

pub read_plays : (w : World) (node file : List ℕ) (key : Key) (n : Node) (f : File) (bytes : List ℕ) → find_node node w.nodes ≡ Some n → n.up ≡ true → find_file file n.durable.directory ≡ Some f → form_refused f (Get key) ≡ None → keys_refused n None file (key ∷ []) ≡ None →
    file_full f (Get key) ≡ None → record_in f key ≡ Some bytes → shown w (record { statement = At node (reads file key); choices = [] }) ≡ record { lines = line.RecordFound bytes ∷ []; world = w }
read_plays w node file key n f bytes found up there form held room is =
    let named : named_node w node ≡ None = rw (found, named_node) refl in
    let plays : shown w (record { statement = At node (reads file key); choices = [] })
    ≡ record { lines = line.RecordFound bytes ∷ []; world = record w { nodes = with_node node (λ m. n) w.nodes; shared = record w.shared { in_use = w.shared.in_use || false } } } =
    rw (named, does_whole w node (reads file key) n found, read_effect w.shared (stops_at node w) file key n f bytes up there form held room is) refl in
    plays ∙ ap (λ v. record { lines = line.RecordFound bytes ∷ []; world = v }) (left_as_it_was w node n found)

pub time_runs_out : TimeRunsOut
unfolding same_name same_id same_key
time_runs_out = refl

pub settling_boots : SettlingBoots
unfolding same_name same_id same_key
settling_boots = refl

-- A record that a branch has put.

-- the file F, and what T's change leaves in it
abbrev pub file_f : List LiveChanges → File
file_f live = record {
  name = codes "F";
  bucket = 1;
  record_size = 100;
  organization = Relative 10;
  start = 712;
  buckets = 3;
  carried = nothing_carried;
  recovery_units = true;
  history = record { base = empty; moment = 0; settled = []; live = live };
  past = λ moment. empty;
  layout = no_layout;
}

abbrev pub disk_with : Journal → List (Option File) → Durable
disk_with units files = record { volume = Sound; log = replicate 64 None; journal = 64; boot = 1; greatest = 0; last = None; units = units; directory = files }

abbrev pub world_with : Durable → Volatile → (up : Bool) → List Call → Option Act → World
world_with durable volatile up calls under_way = record {
  nodes = record { name = codes "A"; blocks = 720; durable = durable; volatile = volatile; unmade = false; up = up; was_up = true; clock = 0; settled = []; calls = calls; under_way = under_way } ∷ [];
  disks = record { faults = 0; stops = 0 } ∷ [];
  shared = record { labels = record { name = codes "T"; node = codes "A"; tid = id 1 1; bid = None; serial = Some (id 1 1) } ∷ []; in_use = true; wire = []; accepted = []; read_only = [] };
}

abbrev pub two_powers : List Call
two_powers = Power 0 ∷ Power 0 ∷ []

abbrev branch_t : Bool → Branch
branch_t changed = record (blank (id 1 1) (id 1 1) None Active None) { changed = changed }

abbrev volatile_with : Bool → List Lock → Volatile
volatile_with changed locks = record { drawn = 1; branches = branch_t changed ∷ []; records = []; preparation = []; locks = locks; declared = [] }

-- T has begun
abbrev begun : List Call → World
begun calls = world_with (disk_with empty_journal (Some (file_f []) ∷ replicate 63 None)) (volatile_with false []) true calls None

-- and has put its record
abbrev pub change : List ℕ → Change
change bytes = record { key = Number 1; before = None; after = Some bytes }

abbrev pub lock : List ℕ → Id → Lock
lock file by = record { file = file; key = Number 1; by = by }

abbrev pub entered : (serial : Id) → List ℕ → Journal
entered serial file = record { first = 0; entries = ChangeEntry (id 1 1) serial file (Number 1) None ∷ [] }

abbrev pub live : (serial : Id) → List ℕ → List LiveChanges
live serial bytes = record { serial = serial; changes = change bytes ∷ [] } ∷ []

abbrev put : World
put = world_with (disk_with (entered (id 1 1) (codes "F")) (Some (file_f (live (id 1 1) (codes "a"))) ∷ replicate 63 None)) (volatile_with true (lock (codes "F") (id 1 1) ∷ [])) true two_powers None

abbrev pub put_said : Move
put_said = says (Records (codes "T") (codes "F") (Put (Some 1) (codes "a")))

puts : shown (begun two_powers) put_said ≡ record { lines = line.RecordNormal ∷ []; world = put }
unfolding same_name same_id same_key
puts = rw (get-empty, get-empty) refl

pub from_put : (ms : List Move) → played (zero_world 720) (base_moves ++ put_moves ++ ms) ≡ base_lines ++ put_lines ++ played put ms
unfolding same_name same_id same_key
from_put ms = ap (λ x. base_lines ++ (line.NormalId (id 1 1) ∷ []) ∷ x) (then_plays (begun two_powers) put_said (line.RecordNormal ∷ []) put ms puts)

pub change_is_in_journal : ChangeIsInJournal
unfolding same_name same_id same_key
change_is_in_journal = from_put (says DumpJournal ∷ says (EndTrans (codes "T")) ∷ says DumpJournal ∷ [])

-- F is dumped last, and has no record, or this one.

abbrev dump_said : Move
dump_said = says (Dump (codes "F"))

pub restart_undoes : RestartUndoes
unfolding same_name same_id same_key
restart_undoes = from_put (says Crash ∷ says Boot ∷ dump_said ∷ []) ∙ ap (λ x. base_lines ++ put_lines ++ (line.Crashed (codes "A") ∷ line.Normal ∷ []) ∷ (line.Aborted (id 1 1) (id 1 1) SegFail 1 ∷ line.NormalCount 2 ∷ []) ∷ x)
    (last_plays (after put (says Crash ∷ says Boot ∷ [])) dump_said (line.NormalCount 0 ∷ []) (dumps (after put (says Crash ∷ says Boot ∷ [])) (codes "A") (codes "F") _ _ [] refl refl refl refl (no_entries key_cmp)))

-- Stops.

-- the fuse is lit; then the disk was stopped in the change, which was under way
abbrev lit_calls : List Call
lit_calls = Arm 0 0 ∷ two_powers

abbrev stopped : World
stopped = world_with (disk_with empty_journal (Some (file_f []) ∷ replicate 63 None)) (volatile_with false []) false lit_calls (Some (Changes (id 1 1) (id 1 1) (codes "F") (change (codes "a") ∷ []) (Number 1 ∷ [])))

abbrev stopped_put : Move
stopped_put = record { statement = At (codes "A") (Records (codes "T") (codes "F") (Put (Some 1) (codes "a"))); choices = Cut Lost 0 true Stopped ∷ [] }

stops : shown (begun lit_calls) stopped_put ≡ record { lines = line.Down (codes "A") Stopped ∷ line.Broken Stopped ∷ []; world = stopped }
unfolding same_name same_id same_key
stops = rw get-empty refl

abbrev down_lines : List (List Line)
down_lines = (line.NormalId (id 1 1) ∷ []) ∷ (line.Normal ∷ []) ∷ (line.Down (codes "A") Stopped ∷ line.Broken Stopped ∷ []) ∷ []

from_stop : (ms : List Move) → played (zero_world 720) (base_moves ++ says (StartTrans (codes "T") None) ∷ says (Fuse 0 0) ∷ stopped_put ∷ ms) ≡ base_lines ++ down_lines ++ played stopped ms
unfolding same_name same_id same_key
from_stop ms = ap (λ x. base_lines ++ (line.NormalId (id 1 1) ∷ []) ∷ (line.Normal ∷ []) ∷ x) (then_plays (begun lit_calls) stopped_put (line.Down (codes "A") Stopped ∷ line.Broken Stopped ∷ []) stopped ms stops)

abbrev boots : Outturn → Move
boots taken = record { statement = At (codes "A") Boot; choices = Whole taken ∷ [] }

pub stopped_change_is_gone : StoppedChangeIsGone
unfolding same_name same_id same_key
stopped_change_is_gone = from_stop (dump_said ∷ boots Lost ∷ dump_said ∷ []) ∙ ap (λ x. base_lines ++ down_lines ++ (line.NodeDown ∷ []) ∷ (line.NormalCount 2 ∷ []) ∷ x)
    (last_plays (after stopped (dump_said ∷ boots Lost ∷ [])) dump_said (line.NormalCount 0 ∷ []) (dumps (after stopped (dump_said ∷ boots Lost ∷ [])) (codes "A") (codes "F") _ _ [] refl refl refl refl (no_entries key_cmp)))

pub taken_change_is_undone : TakenChangeIsUndone
unfolding same_name same_id same_key
taken_change_is_undone = from_stop (dump_said ∷ boots Taken ∷ dump_said ∷ []) ∙ ap (λ x. base_lines ++ down_lines ++ (line.NodeDown ∷ []) ∷ (line.Aborted (id 1 1) (id 1 1) SegFail 1 ∷ line.NormalCount 2 ∷ []) ∷ x)
    (last_plays (after stopped (dump_said ∷ boots Taken ∷ [])) dump_said (line.NormalCount 0 ∷ []) (dumps (after stopped (dump_said ∷ boots Taken ∷ [])) (codes "A") (codes "F") _ _ [] refl refl refl refl (no_entries key_cmp)))

-- A stop in a commitment.

abbrev stopped_end : Move
stopped_end = record { statement = At (codes "A") (EndTrans (codes "T")); choices = Cut Lost 1 true Stopped ∷ [] }

pub taken_commit_is_told : TakenCommitIsTold
unfolding same_name same_id same_key
taken_commit_is_told = from_put (stopped_end ∷ boots Taken ∷ dump_said ∷ [])
    ∙ ap (λ x. base_lines ++ put_lines ++ (line.Down (codes "A") Stopped ∷ line.Broken Stopped ∷ []) ∷ (line.LastCommitted (id 1 1) (id 1 1) 1 ∷ line.NormalCount 2 ∷ []) ∷ x)
    (last_plays (after put (stopped_end ∷ boots Taken ∷ [])) dump_said (line.Record (Number 1) (codes "a") ∷ line.NormalCount 1 ∷ [])
    (dumps (after put (stopped_end ∷ boots Taken ∷ [])) (codes "A") (codes "F") _ _ ((Number 1, codes "a") ∷ []) refl refl refl refl (one_entry (Number 1) (codes "a"))))

pub lost_commit_is_undone : LostCommitIsUndone
unfolding same_name same_id same_key
lost_commit_is_undone = from_put (stopped_end ∷ boots Lost ∷ dump_said ∷ [])
    ∙ ap (λ x. base_lines ++ put_lines ++ (line.Down (codes "A") Stopped ∷ line.Broken Stopped ∷ []) ∷ (line.Aborted (id 1 1) (id 1 1) SegFail 1 ∷ line.NormalCount 2 ∷ []) ∷ x)
    (last_plays (after put (stopped_end ∷ boots Lost ∷ [])) dump_said (line.NormalCount 0 ∷ []) (dumps (after put (stopped_end ∷ boots Lost ∷ [])) (codes "A") (codes "F") _ _ [] refl refl refl refl (no_entries key_cmp)))
