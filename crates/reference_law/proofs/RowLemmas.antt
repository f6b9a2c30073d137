-- What single scripts show.
use Rattle.std.proofs.Common.{false, ◌≡◌, refl, List, [], ◌∷◌, ◌++◌, Option, Some, None, codes, ℕ, ap, ◌∙◌, true, Bool}
use Rattle.std.specs.Prelude.{replicate}
use Rattle.std.specs.FinMap.{empty, get-empty, get-insert}
use Rattle.vms_model.specs.Ids.{Id}
use Rattle.vms_model.specs.Keys.{Number}
use Rattle.vms_model.specs.Transactions as settled
use Rattle.records_model.specs.Records.{Change}
use Rattle.records_model.specs.History.{SettledChanges, LiveChanges}
use Rattle.records_model.proofs.KeyLemmas.{key_cmp_total}
use Rattle.run_model.specs.transcript_model.Lines as line
use Rattle.run_model.specs.transcript_model.Lines.{lines_text}
use Rattle.run_model.specs.transcript_model.Script.{ScriptLine, lines_of}
use Rattle.run_model.specs.script_model.Statements as said
use Rattle.tree_model.specs.Layouts.{no_layout, first_layout}
use Rattle.run_model.specs.unit_laws.Journal.{Journal, ChangeEntry, empty_journal}
use Rattle.run_model.specs.commit_protocol.Messages.{same_id}
use Rattle.run_model.specs.commit_protocol.Table.{Branch, Active, same_key}
use Rattle.run_model.specs.commit_protocol.Rows.{blank}
use Rattle.run_model.specs.Locks.{Lock}
use Rattle.run_model.specs.World.{World, Node, Volatile, File, Label, Settlement, Relative, Indexed, nothing_carried, Sound, Power}
use Rattle.run_model.specs.Transcript.{Entry, Done, BadLine, text_of}
use Rattle.reference_law.specs.Whole.{Ended, run_of, run_from, shown_whole}
use Rattle.reference_law.specs.Rows.{alone, fed, disk_size, base_script, base_shown, CommittedRecordIsShown, AbortedRecordIsGone, UnsettledRecordStands, ZerosAreNoVolume, BootBehindCrashTellsLast, OpenQuoteIsBad, FileIsFull}
use Rattle.reference_law.proofs.DigitLemmas.{digit_0, digit_1, digit_2, digit_3, digit_4, digit_5, digit_6, digit_7, digit_8, digit_9, fourteen, block_518, first_moment}
use Rattle.reference_world.proofs.EntryLemmas.{no_entries, one_entry}
use Rattle.reference_law.proofs.RunLemmas.{says, told}

-- what the base tells
abbrev pub told_first : List Entry
told_first = told (codes "A: SET_FILE F RU") (line.Normal ∷ []) (told (codes "A: CREATE F REL 1 100 10") (line.Normal ∷ [])
    (told (codes "A: BOOT") (line.NormalCount 1 ∷ []) (told (codes "A: INIT 64 64") (line.Normal ∷ []) [])))

-- the first id that the node draws
abbrev pub first_id : Id
first_id = record { node = codes "A"; boot = 1; seq = 1 }

abbrev pub first_branch : (changed : Bool) → Branch
first_branch changed = record (blank first_id first_id None Active None) { changed = changed }

abbrev pub first_label : Label
first_label = record { name = codes "T"; node = codes "A"; tid = first_id; bid = None; serial = Some first_id }

-- the second one, and what stands by it
abbrev pub second_id : Id
second_id = record { node = codes "A"; boot = 1; seq = 2 }

abbrev pub second_branch : (changed : Bool) → Branch
second_branch changed = record (blank second_id second_id None Active None) { changed = changed }

abbrev pub both_labels : List Label
both_labels = record { name = codes "U"; node = codes "A"; tid = second_id; bid = None; serial = Some second_id } ∷ first_label ∷ []

-- a journal that has its last entry behind it
abbrev pub ended_at : ℕ → Journal
ended_at position = record { first = position; entries = [] }

-- what the node has that is up, where one id was drawn
abbrev pub one_drawn : List Branch → List Lock → Volatile
one_drawn branches locks = record { drawn = 1; branches = branches; records = []; preparation = []; locks = locks; declared = [] }

-- and where two were
abbrev pub two_drawn : List Branch → List Lock → Volatile
two_drawn branches locks = record { drawn = 2; branches = branches; records = []; preparation = []; locks = locks; declared = [] }

-- the file F
abbrev pub file_at : List SettledChanges → List LiveChanges → File
file_at done live = record {
  name = codes "F";
  bucket = 1;
  record_size = 100;
  organization = Relative 10;
  start = 712;
  buckets = 3;
  carried = nothing_carried;
  recovery_units = true;
  history = record { base = empty; moment = 0; settled = done; live = live };
  past = λ moment. empty;
  layout = no_layout;
}

-- the node behind the base, with these files in front of its directory's other places
abbrev pub node_at : (greatest : ℕ) → Option Settlement → Journal → List (Option File) → Volatile → List Settlement → Node
node_at greatest last units files volatile settled = record {
  name = codes "A";
  blocks = disk_size;
  durable = record { volume = Sound; log = replicate 64 None; journal = 64; boot = 1; greatest = greatest; last = last; units = units; directory = files };
  volatile = volatile;
  unmade = false;
  up = true;
  was_up = true;
  clock = 0;
  settled = settled;
  calls = Power 0 ∷ Power 0 ∷ [];
  under_way = None;
}

-- the world of that node
abbrev pub world_of : Node → List Label → World
world_of n labels = record { nodes = n ∷ []; disks = record { faults = 0; stops = 0 } ∷ []; shared = record { labels = labels; in_use = true; wire = []; accepted = []; read_only = [] } }

-- that in which the file F is, and one id was drawn
abbrev world_at : (greatest : ℕ) → Option Settlement → Journal → List Settlement → Volatile → List SettledChanges → List LiveChanges → World
world_at greatest last units settled volatile done live = world_of (node_at greatest last units (Some (file_at done live) ∷ replicate 63 None) volatile settled) (first_label ∷ [])

-- this record is put at this number
abbrev put_change : ℕ → List ℕ → Change
put_change n bytes = record { key = Number n; before = None; after = Some bytes }

abbrev begun : World
begun = world_at 0 None empty_journal [] (one_drawn (first_branch false ∷ []) []) [] []

abbrev told_begun : List Entry
told_begun = told (codes "A: START_TRANS T") (line.NormalId first_id ∷ []) told_first

abbrev put : ℕ → List ℕ → World
put n bytes = world_at 0 None (record { first = 0; entries = ChangeEntry first_id first_id (codes "F") (Number n) None ∷ [] }) []
    (one_drawn (first_branch true ∷ []) (record { file = codes "F"; key = Number n; by = first_id } ∷ [])) [] (record { serial = first_id; changes = put_change n bytes ∷ [] } ∷ [])

abbrev pub settlement : settled.Outcome → Option settled.Reason → Settlement
settlement outcome reason = record { tid = first_id; serial = first_id; outcome = outcome; reason = reason; moment = 1 }

abbrev settled_as : settled.Outcome → Option settled.Reason → World
settled_as outcome reason = world_at 1 (Some (settlement outcome reason)) (ended_at 100) (settlement outcome reason ∷ []) (one_drawn [] [])
    (record { serial = first_id; outcome = outcome; moment = 1; changes = put_change 1 (codes "a") ∷ [] } ∷ []) []

abbrev put_said : ℕ → List ℕ → said.Statement
put_said n bytes = said.At (codes "A") (said.Records (codes "T") (codes "F") (said.Put (Some n) bytes))

abbrev dump_said : said.Statement
dump_said = said.At (codes "A") (said.Dump (codes "F"))

abbrev pub line_said : List ℕ → ScriptLine
line_said text = record { text = text; ended = true }

-- the lines behind the opening, and behind those the rest
abbrev script : List (List ℕ) → List ℕ
script texts = fed (base_script ++ texts)

abbrev pub rest : List (List ℕ) → List ScriptLine
rest texts = lines_of (fed texts)

abbrev pub done : List Entry → Ended
done es = record { exit = Done; text = text_of es }

puts_a : shown_whole begun (put_said 1 (codes "a")) ≡ record { lines = line.RecordNormal ∷ []; world = put 1 (codes "a") }
puts_a = rw (get-empty, get-empty) refl

puts_j : shown_whole begun (put_said 10 (codes "j")) ≡ record { lines = line.RecordNormal ∷ []; world = put 10 (codes "j") }
puts_j = rw (get-empty, get-empty) refl

abbrev told_put : List Entry
told_put = told (codes "A: PUT T F 1 \"a\"") (line.RecordNormal ∷ []) told_begun

abbrev told_put_j : List Entry
told_put_j = told (codes "A: PUT T F 11 \"k\"") (line.BadRecordNumber ∷ []) (told (codes "A: PUT T F 10 \"j\"") (line.RecordNormal ∷ []) told_begun)

runs_to_put : (more : List ScriptLine) → run_from begun told_begun (line_said (codes "A: PUT T F 1 \"a\"") ∷ more) ≡ run_from (put 1 (codes "a")) told_put more
runs_to_put more = says begun told_begun (line_said (codes "A: PUT T F 1 \"a\"")) more (put_said 1 (codes "a")) (line.RecordNormal ∷ []) (put 1 (codes "a")) refl refl puts_a

-- A committed record.

abbrev committed : World
committed = settled_as settled.Commit None

dumps_record : shown_whole committed dump_said ≡ record { lines = line.Record (Number 1) (codes "a") ∷ line.NormalCount 1 ∷ []; world = committed }
dumps_record = rw one_entry refl

abbrev told_committed : List Entry
told_committed = told (codes "A: END_TRANS T") (line.Committed first_id first_id 1 ∷ line.Normal ∷ []) told_put

abbrev told_record : List Entry
told_record = told (codes "A: DUMP F") (line.Record (Number 1) (codes "a") ∷ line.NormalCount 1 ∷ []) told_committed

shows_record : run_from committed told_committed (line_said (codes "A: DUMP F") ∷ []) ≡ done told_record
shows_record = says committed told_committed (line_said (codes "A: DUMP F")) [] dump_said (line.Record (Number 1) (codes "a") ∷ line.NormalCount 1 ∷ []) committed refl refl dumps_record

record_text : text_of told_record ≡ fed (base_shown ++ codes "5 SS$_NORMAL A.1.1" ∷ codes "6 RMS$_NORMAL" ∷ codes "7 COMMIT A.1.1 A.1.1 \"17-NOV-1858 00:00:00.01\"" ∷ codes "7 SS$_NORMAL" ∷ codes "8 RECORD 1 \"a\"" ∷ codes "8 SS$_NORMAL 1" ∷ [])
record_text = simp (digit_1, digit_2, digit_3, digit_4, digit_5, digit_6, digit_7, digit_8, first_moment)

pub committed_record_is_shown : CommittedRecordIsShown
unfolding same_key same_id
committed_record_is_shown = runs_to_put (rest (codes "A: END_TRANS T" ∷ codes "A: DUMP F" ∷ [])) ∙ shows_record ∙ ap (λ t. record { exit = Done; text = t }) record_text

-- An aborted record.

abbrev undone : World
undone = settled_as settled.Abort (Some settled.Aborted)

dumps_nothing : shown_whole undone dump_said ≡ record { lines = line.NormalCount 0 ∷ []; world = undone }
dumps_nothing = rw no_entries refl

abbrev told_aborted : List Entry
told_aborted = told (codes "A: ABORT_TRANS T") (line.Aborted first_id first_id settled.Aborted 1 ∷ line.Normal ∷ []) told_put

abbrev told_nothing : List Entry
told_nothing = told (codes "A: DUMP F") (line.NormalCount 0 ∷ []) told_aborted

abbrev told_no_transaction : List Entry
told_no_transaction = told (codes "A: END_TRANS T") (line.NoSuchTransaction ∷ []) told_nothing

shows_nothing : run_from undone told_aborted (rest (codes "A: DUMP F" ∷ codes "A: END_TRANS T" ∷ [])) ≡ done told_no_transaction
shows_nothing = says undone told_aborted (line_said (codes "A: DUMP F")) (rest (codes "A: END_TRANS T" ∷ [])) dump_said (line.NormalCount 0 ∷ []) undone refl refl dumps_nothing

nothing_text : text_of told_no_transaction ≡ fed (base_shown ++ codes "5 SS$_NORMAL A.1.1" ∷ codes "6 RMS$_NORMAL" ∷ codes "7 ABORT A.1.1 A.1.1 DDTM$_ABORTED \"17-NOV-1858 00:00:00.01\"" ∷ codes "7 SS$_NORMAL" ∷ codes "8 SS$_NORMAL 0" ∷ codes "9 SS$_NOSUCHTID" ∷ [])
nothing_text = simp (digit_0, digit_1, digit_2, digit_3, digit_4, digit_5, digit_6, digit_7, digit_8, digit_9, first_moment)

pub aborted_record_is_gone : AbortedRecordIsGone
unfolding same_key same_id
aborted_record_is_gone = runs_to_put (rest (codes "A: ABORT_TRANS T" ∷ codes "A: DUMP F" ∷ codes "A: END_TRANS T" ∷ [])) ∙ shows_nothing ∙ ap (λ t. record { exit = Done; text = t }) nothing_text

-- A record that is not settled.

exists_already : shown_whole (put 10 (codes "j")) (put_said 10 (codes "k")) ≡ record { lines = line.RecordExists ∷ []; world = put 10 (codes "j") }
exists_already = rw (get-insert key_cmp_total) refl

abbrev told_exists : List Entry
told_exists = told (codes "A: PUT T F 10 \"k\"") (line.RecordExists ∷ []) told_put_j

abbrev told_locked : List Entry
told_locked = told (codes "A: DUMP F") (line.FileLocked first_id ∷ []) told_exists

runs_to_put_j : run_of (alone disk_size) (script (codes "A: START_TRANS T" ∷ codes "A: PUT T F 10 \"j\"" ∷ codes "A: PUT T F 11 \"k\"" ∷ codes "A: PUT T F 10 \"k\"" ∷ codes "A: DUMP F" ∷ []))
    ≡ run_from (put 10 (codes "j")) told_put_j (rest (codes "A: PUT T F 10 \"k\"" ∷ codes "A: DUMP F" ∷ []))
runs_to_put_j = says begun told_begun (line_said (codes "A: PUT T F 10 \"j\"")) (rest (codes "A: PUT T F 11 \"k\"" ∷ codes "A: PUT T F 10 \"k\"" ∷ codes "A: DUMP F" ∷ []))
    (put_said 10 (codes "j")) (line.RecordNormal ∷ []) (put 10 (codes "j")) refl refl puts_j

shows_lock : run_from (put 10 (codes "j")) told_put_j (rest (codes "A: PUT T F 10 \"k\"" ∷ codes "A: DUMP F" ∷ [])) ≡ done told_locked
shows_lock = says (put 10 (codes "j")) told_put_j (line_said (codes "A: PUT T F 10 \"k\"")) (rest (codes "A: DUMP F" ∷ [])) (put_said 10 (codes "k")) (line.RecordExists ∷ []) (put 10 (codes "j")) refl refl exists_already

lock_text : text_of told_locked ≡ fed (base_shown ++ codes "5 SS$_NORMAL A.1.1" ∷ codes "6 RMS$_NORMAL" ∷ codes "7 RMS$_MRN" ∷ codes "8 RMS$_REX" ∷ codes "9 RMS$_FLK A.1.1" ∷ [])
lock_text = simp (digit_1, digit_2, digit_3, digit_4, digit_5, digit_6, digit_7, digit_8, digit_9)

pub unsettled_record_stands : UnsettledRecordStands
unsettled_record_stands = runs_to_put_j ∙ shows_lock ∙ ap (λ t. record { exit = Done; text = t }) lock_text

-- A disk of zeros.

abbrev told_zeros : List Entry
told_zeros = told (codes "A: INIT 64 64") (line.VolumeInUse ∷ []) (told (codes "A: BOOT") (line.NormalCount 1 ∷ [])
    (told (codes "A: INIT 64 64") (line.Normal ∷ []) (told (codes "A: BOOT") (line.NoVolume (codes "A") 1 518 ∷ []) [])))

zeros_text : text_of told_zeros ≡ fed (codes "1 VOLUME A 1 518" ∷ codes "2 SS$_NORMAL" ∷ codes "3 SS$_NORMAL 1" ∷ codes "4 VOLINUSE" ∷ [])
zeros_text = simp (digit_1, digit_2, digit_3, digit_4, block_518)

pub zeros_are_no_volume : ZerosAreNoVolume
zeros_are_no_volume = ap (λ t. record { exit = Done; text = t }) zeros_text

-- A crash behind a commit.

abbrev told_last : List Entry
told_last = told (codes "A: BOOT") (line.LastCommitted first_id first_id 1 ∷ line.NormalCount 2 ∷ []) (told (codes "CRASH A") (line.Crashed (codes "A") ∷ line.Normal ∷ []) told_committed)

last_text : text_of told_last ≡ fed (base_shown ++ codes "5 SS$_NORMAL A.1.1" ∷ codes "6 RMS$_NORMAL" ∷ codes "7 COMMIT A.1.1 A.1.1 \"17-NOV-1858 00:00:00.01\"" ∷ codes "7 SS$_NORMAL" ∷ codes "8 DOWN A CRASH" ∷ codes "8 SS$_NORMAL"
    ∷ codes "9 LAST COMMIT A.1.1 A.1.1 \"17-NOV-1858 00:00:00.01\"" ∷ codes "9 SS$_NORMAL 2" ∷ [])
last_text = simp (digit_1, digit_2, digit_3, digit_4, digit_5, digit_6, digit_7, digit_8, digit_9, first_moment)

pub boot_behind_crash_tells_last : BootBehindCrashTellsLast
unfolding same_key same_id
boot_behind_crash_tells_last = runs_to_put (rest (codes "A: END_TRANS T" ∷ codes "CRASH A" ∷ codes "A: BOOT" ∷ [])) ∙ ap (λ t. record { exit = Done; text = t }) last_text

-- A quote that is not closed.

quote_text : lines_text 1 (line.BadLine 14 ∷ []) ≡ fed (codes "1 BADLINE 14" ∷ [])
quote_text = simp (digit_1, fourteen)

pub open_quote_is_bad : OpenQuoteIsBad
open_quote_is_bad = ap (λ t. record { exit = BadLine; text = t }) quote_text

-- A file with too few buckets.

abbrev small_file : File
small_file = record {
  name = codes "I";
  bucket = 1;
  record_size = 40;
  organization = Indexed 0 2;
  start = 715;
  buckets = 2;
  carried = nothing_carried;
  recovery_units = true;
  history = record { base = empty; moment = 0; settled = []; live = [] };
  past = λ moment. empty;
  layout = first_layout 2;
}

abbrev with_small : World
with_small = world_of (node_at 0 None empty_journal (Some (file_at [] []) ∷ Some small_file ∷ replicate 62 None) (one_drawn (first_branch false ∷ []) []) []) (first_label ∷ [])

abbrev told_small : List Entry
told_small = told (codes "A: START_TRANS T") (line.NormalId first_id ∷ []) (told (codes "A: SET_FILE I RU") (line.Normal ∷ [])
    (told (codes "A: CREATE I IDX 1 40 2 0 2") (line.Normal ∷ []) told_first))

abbrev put_small : said.Statement
put_small = said.At (codes "A") (said.Records (codes "T") (codes "I") (said.Put None (codes "aa")))

is_full : shown_whole with_small put_small ≡ record { lines = line.FileFull 1 3 ∷ []; world = with_small }
is_full = rw get-empty refl

abbrev told_full : List Entry
told_full = told (codes "A: PUT T I \"aa\"") (line.FileFull 1 3 ∷ []) told_small

shows_full : run_from with_small told_small (line_said (codes "A: PUT T I \"aa\"") ∷ []) ≡ done told_full
shows_full = says with_small told_small (line_said (codes "A: PUT T I \"aa\"")) [] put_small (line.FileFull 1 3 ∷ []) with_small refl refl is_full

full_text : text_of told_full ≡ fed (base_shown ++ codes "5 SS$_NORMAL" ∷ codes "6 SS$_NORMAL" ∷ codes "7 SS$_NORMAL A.1.1" ∷ codes "8 RMS$_FUL FILE 1 3" ∷ [])
full_text = simp (digit_1, digit_2, digit_3, digit_4, digit_5, digit_6, digit_7, digit_8)

pub file_is_full : FileIsFull
file_is_full = shows_full ∙ ap (λ t. record { exit = Done; text = t }) full_text
