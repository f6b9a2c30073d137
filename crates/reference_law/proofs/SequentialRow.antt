-- What a script shows that puts records into a sequential file and truncates it.
use Rattle.std.proofs.Common.{false, ◌≡◌, refl, sym, List, [], ◌∷◌, ◌++◌, Option, Some, None, codes, ℕ, ap, ◌∙◌, true}
use Rattle.std.specs.Prelude.{replicate, map, length, drop, reverse, ◌+◌, ◌-◌, ◌||◌, nat_lt, nat_le, if◌then◌else◌}
use Rattle.std.specs.FinMap.{empty, entries, insert, remove, get, get-empty, get-insert, get-remove, entries-insert}
use Rattle.std.specs.FinMap.Entries.{put, where_key}
use Rattle.vms_model.specs.Ids.{Id}
use Rattle.vms_model.specs.Keys.{Key, Number, End}
use Rattle.vms_model.specs.Transactions as settled
use Rattle.records_model.specs.Records.{Change, Records, key_cmp}
use Rattle.records_model.specs.History.{SettledChanges, LiveChanges}
use Rattle.records_model.proofs.KeyLemmas.{key_cmp_total}
use Rattle.run_model.specs.transcript_model.Lines as line
use Rattle.run_model.specs.transcript_model.Lines.{Line}
use Rattle.run_model.specs.script_model.Statements as said
use Rattle.tree_model.specs.Layouts.{no_layout}
use Rattle.run_model.specs.unit_laws.Journal.{Journal, JournalEntry, ChangeEntry, empty_journal}
use Rattle.run_model.specs.commit_protocol.Messages.{same_id}
use Rattle.run_model.specs.commit_protocol.Table.{Branch, same_key}
use Rattle.run_model.specs.Locks.{Lock}
use Rattle.records_model.specs.Placing.{Filled, filled_by, first_bucket}
use Rattle.run_model.specs.World.{World, Node, Volatile, acted, shared_after, File, Settlement, Sequential, nothing_carried}
use Rattle.run_model.specs.Operations.{first_of, refused_if, removed}
use Rattle.run_model.specs.Answers.{images_full, journal_full, keys_refused, more_changes, more_locks, of_file, operation_act, service}
use Rattle.run_model.specs.Steps.{begun, whole, occupied}
use Rattle.run_model.specs.Statements.{put_into}
use Rattle.run_model.specs.Transcript.{Entry, Done, text_of}
use Rattle.reference_law.specs.Whole.{StatementShown, run_from, shown_whole, then_shown}
use Rattle.reference_law.specs.Rows.{alone, fed, base_shown, SequentialFileIsTruncated}
use Rattle.reference_law.proofs.DigitLemmas.{digit_1, digit_2, digit_3, digit_4, digit_5, digit_6, digit_7, digit_8, digit_9, ten, eleven, twelve, thirteen, fourteen, fifteen, sixteen, seventeen, first_moment, second_moment}
use Rattle.reference_world.proofs.EntryLemmas.{no_entries, one_entry}
use Rattle.reference_world.proofs.ChangeLemmas.{entries_removed}
use Rattle.reference_world.specs.Rows.{is_other}
use Rattle.reference_law.proofs.RunLemmas.{says, told}
use Rattle.reference_law.proofs.RowLemmas.{told_first, first_id, first_branch, first_label, one_drawn, ended_at, file_at, node_at, world_of, line_said, rest, done, settlement, second_id, second_branch, both_labels, two_drawn}

abbrev seq_file : List SettledChanges → List LiveChanges → File
seq_file done live = record {
  name = codes "S";
  bucket = 1;
  record_size = 100;
  organization = Sequential;
  start = 715;
  buckets = 4;
  carried = nothing_carried;
  recovery_units = true;
  history = record { base = empty; moment = 0; settled = done; live = live };
  past = λ moment. empty;
  layout = no_layout;
}

abbrev node_seq : (greatest : ℕ) → Option Settlement → Journal → Volatile → List Settlement → List SettledChanges → List LiveChanges → Node
node_seq greatest last units volatile ended done live = node_at greatest last units (Some (file_at [] []) ∷ Some (seq_file done live) ∷ replicate 62 None) volatile ended

-- at the first position
abbrev set_first : Option (List ℕ) → Option (List ℕ) → Change
set_first before after = record { key = Number 1; before = before; after = after }

-- its entry, by what was there
abbrev entered : Id → Option (List ℕ) → JournalEntry
entered id before = ChangeEntry id id (codes "S") (Number 1) before

-- the end of the file and its first position are held
abbrev held_by : Id → List Lock
held_by id = record { file = codes "S"; key = End; by = id } ∷ record { file = codes "S"; key = Number 1; by = id } ∷ []

-- behind the first START_TRANS
abbrev first_node : Node
first_node = node_seq 0 None empty_journal (one_drawn (first_branch false ∷ []) []) [] [] []

abbrev first_world : World
first_world = world_of first_node (first_label ∷ [])

abbrev first_changes : List Change
first_changes = set_first None (Some (codes "x")) ∷ []

abbrev with_x : World
with_x = world_of (node_seq 0 None (record { first = 0; entries = entered first_id None ∷ [] }) (one_drawn (first_branch true ∷ []) (held_by first_id)) [] [] (record { serial = first_id; changes = first_changes } ∷ [])) (first_label ∷ [])

abbrev first_end : Settlement
first_end = settlement settled.Abort (Some settled.Aborted)

abbrev first_done : SettledChanges
first_done = record { serial = first_id; outcome = settled.Abort; moment = 1; changes = first_changes }

-- behind the second one, and with changes of its branch
abbrev second_node : Node
second_node = node_seq 1 (Some first_end) (ended_at 100) (two_drawn (second_branch false ∷ []) []) (first_end ∷ []) (first_done ∷ []) []

abbrev second_begun : World
second_begun = world_of second_node both_labels

abbrev node_with : List JournalEntry → List Change → Node
node_with es cs = node_seq 1 (Some first_end) (record { first = 100; entries = es }) (two_drawn (second_branch true ∷ []) (held_by second_id)) (first_end ∷ []) (first_done ∷ []) (record { serial = second_id; changes = cs } ∷ [])

abbrev put_y : List Change
put_y = set_first None (Some (codes "y")) ∷ []

abbrev gone_y : List Change
gone_y = set_first (Some (codes "y")) None ∷ put_y

abbrev put_w : List Change
put_w = set_first None (Some (codes "w")) ∷ gone_y

abbrev node_y : Node
node_y = node_with (entered second_id None ∷ []) put_y

abbrev with_y : World
with_y = world_of node_y both_labels

abbrev node_gone : Node
node_gone = node_with (entered second_id None ∷ entered second_id (Some (codes "y")) ∷ []) gone_y

abbrev without_y : World
without_y = world_of node_gone both_labels

abbrev with_w : World
with_w = world_of (node_with (entered second_id None ∷ entered second_id (Some (codes "y")) ∷ entered second_id None ∷ []) put_w) both_labels

abbrev second_end : Settlement
second_end = record { tid = second_id; serial = second_id; outcome = settled.Commit; reason = None; moment = 2 }

-- behind its end
abbrev last_world : World
last_world = world_of (node_seq 2 (Some second_end) (ended_at 305) (two_drawn [] []) (second_end ∷ first_end ∷ []) (record { serial = second_id; outcome = settled.Commit; moment = 2; changes = put_w } ∷ first_done ∷ []) []) both_labels

abbrev asks : List ℕ → said.Operation → said.Statement
asks label op = said.At (codes "A") (said.Records label (codes "S") op)

-- The maps that come up.

abbrev only_y : Records
only_y = insert empty (Number 1) (codes "y")

none_left : entries (remove only_y (Number 1)) ≡ []
none_left = sym (entries_removed only_y (Number 1)) ∙ ap (where_key key_cmp (is_other (Number 1))) (one_entry (Number 1) (codes "y"))

only_w : entries (insert (remove only_y (Number 1)) (Number 1) (codes "w")) ≡ (Number 1, codes "w") ∷ []
only_w = entries-insert key_cmp_total _ (Number 1) (codes "w") ∙ ap (put key_cmp (Number 1) (codes "w")) none_left

-- What is said of the entries and of one record of records that stand, where there are no entries and not that record.
at_end : {A : Type 0} (say : List (Key × List ℕ) → Option (List ℕ) → A) (m : Records) → entries m ≡ [] → get m (Number 1) ≡ None → say (entries m) (get m (Number (length (entries m) + 1))) ≡ say [] None
at_end say m none gone = ap (λ es. say es (get m (Number (length es + 1)))) none ∙ ap (say []) gone

-- The statements that look at them.

module _ (w : World) (n : Node) (q : said.Request) where
  -- what a request at the node of a world shows and makes, once this refuses it or nothing does: before its disk is read, or behind that
  abbrev shown_early : Option Line → StatementShown
  shown_early refusal = let e = put_into w (codes "A") (whole w.shared n n (service q) refusal) in then_shown e (record { lines = e.answer ∷ []; world = e.world })

  abbrev shown_by : Option Line → StatementShown
  shown_by refusal = let e = put_into w (codes "A") (begun w.shared n (service q) refusal) in then_shown e (record { lines = e.answer ∷ []; world = e.world })

-- how the records lie in the file's buckets, and what refuses one that wants so many
abbrev laid : List (Key × List ℕ) → Filled
laid es = filled_by 496 first_bucket (map (λ e. length e.1 + 2) es)

abbrev one_wanted : List ℕ → List (Key × List ℕ) → ℕ
one_wanted bytes es = if nat_le ((laid es).bytes + (length bytes + 2)) 496 then 0 else 1

abbrev full_by : ℕ → List (Key × List ℕ) → Option Line
full_by need es = refused_if (nat_lt (4 - (laid es).buckets) need) (line.FileFull (4 - (laid es).buckets) need)

-- the keys of a record that is put behind these, and its change
abbrev keys_behind : List (Key × List ℕ) → List Key
keys_behind es = End ∷ Number (length es + 1) ∷ []

abbrev set_behind : List ℕ → List (Key × List ℕ) → Option (List ℕ) → List Change
set_behind bytes es before = record { key = Number (length es + 1); before = before; after = Some bytes } ∷ []

-- what refuses one more of these bytes, and what it does
abbrev put_refusal : Node → Branch → List ℕ → List (Key × List ℕ) → Option (List ℕ) → Option Line
put_refusal n b bytes es before = first_of (more_locks n (codes "S") (keys_behind es)) (first_of (full_by (one_wanted bytes es) es)
    (first_of (journal_full n (codes "S") (set_behind bytes es before) b) (of_file n (codes "S") (images_full b.key.serial (set_behind bytes es before)))))

abbrev after_put : World → Node → Branch → List ℕ → List (Key × List ℕ) → Option (List ℕ) → StatementShown
after_put w n b bytes es before = record {
  lines = line.RecordPosition (length es + 1) ∷ [];
  world = record w { nodes = acted (operation_act b (codes "S") (set_behind bytes es before) (keys_behind es)) n ∷ [] };
}

abbrev put_asked : List ℕ → List ℕ → said.Request
put_asked label bytes = said.Records label (codes "S") (said.Put None bytes)

puts_x : shown_whole first_world (asks (codes "T") (said.Put None (codes "x"))) ≡ record { lines = line.RecordPosition 1 ∷ []; world = with_x }
puts_x = at_end (λ es before. shown_by first_world first_node (put_asked (codes "T") (codes "x")) (put_refusal first_node (first_branch false) (codes "x") es before)) empty (no_entries key_cmp) (get-empty key_cmp (Number 1))
    ∙ at_end (after_put first_world first_node (first_branch false) (codes "x")) empty (no_entries key_cmp) (get-empty key_cmp (Number 1))

puts_y : shown_whole second_begun (asks (codes "U") (said.Put None (codes "y"))) ≡ record { lines = line.RecordPosition 1 ∷ []; world = with_y }
puts_y = at_end (λ es before. shown_by second_begun second_node (put_asked (codes "U") (codes "y")) (put_refusal second_node (second_branch false) (codes "y") es before)) empty (no_entries key_cmp) (get-empty key_cmp (Number 1))
    ∙ at_end (after_put second_begun second_node (second_branch false) (codes "y")) empty (no_entries key_cmp) (get-empty key_cmp (Number 1))

keeps_length : shown_whole with_y (asks (codes "U") (said.Update (Number 1) (codes "zz"))) ≡ record { lines = line.BadRecordSize ∷ []; world = with_y }
keeps_length = rw (get-insert key_cmp_total) refl

-- the file is truncated at its first position
abbrev cut_asked : said.Request
cut_asked = said.Records (codes "U") (codes "S") (said.Truncate 1)

abbrev keys_cut : List (Key × List ℕ) → List Key
keys_cut es = End ∷ reverse (map (λ e. e.0) (drop (1 - 1) es))

abbrev cut_by : List (Key × List ℕ) → List Change
cut_by es = map removed (drop (1 - 1) es)

abbrev cut_refusal : Node → List (Key × List ℕ) → Option Line
cut_refusal n es = first_of (first_of (refused_if (nat_lt 1 1 || nat_lt (length es) 1) line.RecordNotFound) None)
    (first_of (more_changes n (cut_by es) (second_branch true)) (first_of (more_locks n (codes "S") (keys_cut es ++ [])) (first_of (full_by 0 es)
    (first_of (journal_full n (codes "S") (cut_by es) (second_branch true)) (of_file n (codes "S") (images_full second_id (cut_by es)))))))

abbrev after_cut : World → Node → List (Key × List ℕ) → StatementShown
after_cut w n es =
    let act = operation_act (second_branch true) (codes "S") (cut_by es) (keys_cut es ++ []) in
    record { lines = line.RecordNormal ∷ []; world = record w { nodes = acted act n ∷ []; shared = occupied (service cut_asked) (shared_after act w.shared) } }

truncates : shown_whole with_y (asks (codes "U") (said.Truncate 1)) ≡ record { lines = line.RecordNormal ∷ []; world = without_y }
truncates =
    let one = one_entry (Number 1) (codes "y") in
    ap (λ es. shown_early with_y node_y cut_asked (keys_refused node_y (Some second_id) (codes "S") (keys_cut es))) one
    ∙ ap (λ es. shown_by with_y node_y cut_asked (cut_refusal node_y es)) one ∙ ap (after_cut with_y node_y) one

puts_w : shown_whole without_y (asks (codes "U") (said.Put None (codes "w"))) ≡ record { lines = line.RecordPosition 1 ∷ []; world = with_w }
puts_w =
    let left = remove only_y (Number 1) in
    let asked = put_asked (codes "U") (codes "w") in
    let gone = get-remove key_cmp_total only_y (Number 1) (Number 1) in
    ap (λ es. shown_early without_y node_gone asked (keys_refused node_gone (Some second_id) (codes "S") (keys_behind es))) none_left
    ∙ at_end (λ es before. shown_by without_y node_gone asked (put_refusal node_gone (second_branch true) (codes "w") es before)) left none_left gone
    ∙ at_end (after_put without_y node_gone (second_branch true) (codes "w")) left none_left gone

dumps_w : shown_whole last_world (said.At (codes "A") (said.Dump (codes "S"))) ≡ record { lines = line.Record (Number 1) (codes "w") ∷ line.NormalCount 1 ∷ []; world = last_world }
dumps_w = rw only_w refl

-- What is told.

abbrev told_7 : List Entry
told_7 = told (codes "A: START_TRANS T") (line.NormalId first_id ∷ []) (told (codes "A: SET_FILE S RU") (line.Normal ∷ []) (told (codes "A: CREATE S SEQ 1 100 4") (line.Normal ∷ []) told_first))

abbrev told_10 : List Entry
told_10 = told (codes "A: START_TRANS U") (line.NormalId second_id ∷ []) (told (codes "A: ABORT_TRANS T") (line.Aborted first_id first_id settled.Aborted 1 ∷ line.Normal ∷ [])
    (told (codes "A: PUT T S \"x\"") (line.RecordPosition 1 ∷ []) told_7))

abbrev told_11 : List Entry
told_11 = told (codes "A: PUT U S \"y\"") (line.RecordPosition 1 ∷ []) told_10

abbrev told_13 : List Entry
told_13 = told (codes "A: DELETE U S 1") (line.BadOperation ∷ []) (told (codes "A: UPDATE U S 1 \"zz\"") (line.BadRecordSize ∷ []) told_11)

abbrev told_14 : List Entry
told_14 = told (codes "A: TRUNCATE U S 1") (line.RecordNormal ∷ []) told_13

abbrev told_16 : List Entry
told_16 = told (codes "A: END_TRANS U") (line.Committed second_id second_id 2 ∷ line.Normal ∷ []) (told (codes "A: PUT U S \"w\"") (line.RecordPosition 1 ∷ []) told_14)

abbrev told_17 : List Entry
told_17 = told (codes "A: DUMP S") (line.Record (Number 1) (codes "w") ∷ line.NormalCount 1 ∷ []) told_16

abbrev last_lines : List (List ℕ)
last_lines = codes "A: END_TRANS U" ∷ codes "A: DUMP S" ∷ []

abbrev second_lines : List (List ℕ)
second_lines = codes "A: TRUNCATE U S 1" ∷ codes "A: PUT U S \"w\"" ∷ last_lines

runs_first : run_from first_world told_7 (rest (codes "A: PUT T S \"x\"" ∷ codes "A: ABORT_TRANS T" ∷ codes "A: START_TRANS U" ∷ codes "A: PUT U S \"y\"" ∷ codes "A: UPDATE U S 1 \"zz\"" ∷ codes "A: DELETE U S 1" ∷ second_lines))
    ≡ run_from second_begun told_10 (rest (codes "A: PUT U S \"y\"" ∷ codes "A: UPDATE U S 1 \"zz\"" ∷ codes "A: DELETE U S 1" ∷ second_lines))
unfolding same_key same_id
runs_first = says first_world told_7 (line_said (codes "A: PUT T S \"x\"")) (rest (codes "A: ABORT_TRANS T" ∷ codes "A: START_TRANS U" ∷ codes "A: PUT U S \"y\"" ∷ codes "A: UPDATE U S 1 \"zz\"" ∷ codes "A: DELETE U S 1" ∷ second_lines))
    (asks (codes "T") (said.Put None (codes "x"))) (line.RecordPosition 1 ∷ []) with_x refl refl puts_x

runs_y : run_from second_begun told_10 (rest (codes "A: PUT U S \"y\"" ∷ codes "A: UPDATE U S 1 \"zz\"" ∷ codes "A: DELETE U S 1" ∷ second_lines))
    ≡ run_from with_y told_11 (rest (codes "A: UPDATE U S 1 \"zz\"" ∷ codes "A: DELETE U S 1" ∷ second_lines))
runs_y = says second_begun told_10 (line_said (codes "A: PUT U S \"y\"")) (rest (codes "A: UPDATE U S 1 \"zz\"" ∷ codes "A: DELETE U S 1" ∷ second_lines))
    (asks (codes "U") (said.Put None (codes "y"))) (line.RecordPosition 1 ∷ []) with_y refl refl puts_y

runs_zz : run_from with_y told_11 (rest (codes "A: UPDATE U S 1 \"zz\"" ∷ codes "A: DELETE U S 1" ∷ second_lines)) ≡ run_from with_y told_13 (rest second_lines)
runs_zz = says with_y told_11 (line_said (codes "A: UPDATE U S 1 \"zz\"")) (rest (codes "A: DELETE U S 1" ∷ second_lines))
    (asks (codes "U") (said.Update (Number 1) (codes "zz"))) (line.BadRecordSize ∷ []) with_y refl refl keeps_length

runs_truncate : run_from with_y told_13 (rest second_lines) ≡ run_from without_y told_14 (rest (codes "A: PUT U S \"w\"" ∷ last_lines))
runs_truncate = says with_y told_13 (line_said (codes "A: TRUNCATE U S 1")) (rest (codes "A: PUT U S \"w\"" ∷ last_lines))
    (asks (codes "U") (said.Truncate 1)) (line.RecordNormal ∷ []) without_y refl refl truncates

runs_w : run_from without_y told_14 (rest (codes "A: PUT U S \"w\"" ∷ last_lines)) ≡ run_from last_world told_16 (rest (codes "A: DUMP S" ∷ []))
unfolding same_key same_id
runs_w = says without_y told_14 (line_said (codes "A: PUT U S \"w\"")) (rest last_lines)
    (asks (codes "U") (said.Put None (codes "w"))) (line.RecordPosition 1 ∷ []) with_w refl refl puts_w

shows_w : run_from last_world told_16 (rest (codes "A: DUMP S" ∷ [])) ≡ done told_17
unfolding same_key same_id
shows_w = says last_world told_16 (line_said (codes "A: DUMP S")) [] (said.At (codes "A") (said.Dump (codes "S"))) (line.Record (Number 1) (codes "w") ∷ line.NormalCount 1 ∷ []) last_world refl refl dumps_w

text_17 : text_of told_17 ≡ fed (base_shown ++ codes "5 SS$_NORMAL" ∷ codes "6 SS$_NORMAL" ∷ codes "7 SS$_NORMAL A.1.1" ∷ codes "8 RMS$_NORMAL 1" ∷ codes "9 ABORT A.1.1 A.1.1 DDTM$_ABORTED \"17-NOV-1858 00:00:00.01\"" ∷ codes "9 SS$_NORMAL"
    ∷ codes "10 SS$_NORMAL A.1.2" ∷ codes "11 RMS$_NORMAL 1" ∷ codes "12 RMS$_RSZ" ∷ codes "13 RMS$_IOP" ∷ codes "14 RMS$_NORMAL" ∷ codes "15 RMS$_NORMAL 1"
    ∷ codes "16 COMMIT A.1.2 A.1.2 \"17-NOV-1858 00:00:00.02\"" ∷ codes "16 SS$_NORMAL" ∷ codes "17 RECORD 1 \"w\"" ∷ codes "17 SS$_NORMAL 1" ∷ [])
text_17 = simp (digit_1, digit_2, digit_3, digit_4, digit_5, digit_6, digit_7, digit_8, digit_9, ten, eleven, twelve, thirteen, fourteen, fifteen, sixteen, seventeen, first_moment, second_moment)

pub sequential_file_is_truncated : SequentialFileIsTruncated
sequential_file_is_truncated = runs_first ∙ runs_y ∙ runs_zz ∙ runs_truncate ∙ runs_w ∙ shows_w ∙ ap (λ t. record { exit = Done; text = t }) text_17
