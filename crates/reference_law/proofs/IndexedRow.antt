-- What a script shows that puts records into an indexed file, and undoes changes of it.
use Rattle.std.proofs.Common.{false, ◌≡◌, refl, List, [], ◌∷◌, ◌++◌, Option, Some, None, codes, ℕ, ap, ◌∙◌, true}
use Rattle.std.specs.Prelude.{replicate}
use Rattle.std.specs.FinMap.{empty, entries, insert, get-empty, get-insert, get-remove, entries-insert}
use Rattle.std.specs.FinMap.Entries.{put}
use Rattle.vms_model.specs.Ids.{Id}
use Rattle.vms_model.specs.Keys.{Text}
use Rattle.vms_model.specs.Transactions as settled
use Rattle.records_model.specs.Records.{Change, key_cmp}
use Rattle.records_model.specs.Slots.{Slot}
use Rattle.records_model.specs.History.{SettledChanges, LiveChanges}
use Rattle.records_model.proofs.KeyLemmas.{key_cmp_total}
use Rattle.run_model.specs.transcript_model.Lines as line
use Rattle.run_model.specs.script_model.Statements as said
use Rattle.run_model.specs.unit_laws.Journal.{Journal, JournalEntry, ChangeEntry, empty_journal}
use Rattle.run_model.specs.commit_protocol.Messages.{same_id}
use Rattle.run_model.specs.commit_protocol.Table.{same_key}
use Rattle.run_model.specs.Locks.{Lock}
use Rattle.run_model.specs.World.{World, Volatile, File, Label, Settlement, Indexed, nothing_carried}
use Rattle.run_model.specs.Transcript.{Entry, Done, text_of}
use Rattle.reference_law.specs.Whole.{run_from, shown_whole}
use Rattle.reference_law.specs.Rows.{alone, fed, larger_disk, base_shown, IndexedFileIsRestored}
use Rattle.reference_law.proofs.DigitLemmas.{digit_1, digit_2, digit_3, digit_4, digit_5, digit_6, digit_7, digit_8, digit_9, ten, eleven, twelve, thirteen, fourteen, fifteen, sixteen, seventeen, eighteen, first_moment, second_moment}
use Rattle.reference_world.proofs.EntryLemmas.{one_entry}
use Rattle.reference_law.proofs.RunLemmas.{says, told}
use Rattle.reference_law.proofs.RowLemmas.{told_first, first_id, first_branch, first_label, one_drawn, ended_at, file_at, node_at, world_of, line_said, rest, done, settlement, second_id, second_branch, both_labels, two_drawn}

abbrev index_file : List SettledChanges → List LiveChanges → List Slot → File
index_file done live slots = record {
  name = codes "I";
  bucket = 1;
  record_size = 40;
  organization = Indexed 0 2;
  start = 715;
  buckets = 20;
  carried = nothing_carried;
  recovery_units = true;
  history = record { base = empty; moment = 0; settled = done; live = live };
  past = λ moment. empty;
  layout = record { leaves = record { lowest = 0 ∷ 0 ∷ []; slots = slots } ∷ []; index = [] };
}

abbrev world_idx : (greatest : ℕ) → Option Settlement → Journal → Volatile → List Settlement → List Label → List SettledChanges → List LiveChanges → List Slot → World
world_idx greatest last units volatile ended labels done live slots =
    world_of (record (node_at greatest last units (Some (file_at [] []) ∷ Some (index_file done live slots) ∷ replicate 62 None) volatile ended) { blocks = larger_disk }) labels

abbrev set_at : List ℕ → Option (List ℕ) → Option (List ℕ) → Change
set_at key before after = record { key = Text key; before = before; after = after }

abbrev slot_at : List ℕ → Option (List ℕ) → Slot
slot_at key value = record { key = key; room = 3; value = value }

-- a change's entry, by what was there, and the lock of its key
abbrev entered : Id → List ℕ → Option (List ℕ) → JournalEntry
entered id key before = ChangeEntry id id (codes "I") (Text key) before

abbrev lock_at : Id → List ℕ → Lock
lock_at id key = record { file = codes "I"; key = Text key; by = id }

-- behind the first START_TRANS, and with changes of its branch
abbrev first_begun : World
first_begun = world_idx 0 None empty_journal (one_drawn (first_branch false ∷ []) []) [] (first_label ∷ []) [] [] []

abbrev first_world : List JournalEntry → List Lock → List Change → List Slot → World
first_world es locks cs slots = world_idx 0 None (record { first = 0; entries = es }) (one_drawn (first_branch true ∷ []) locks) [] (first_label ∷ []) [] (record { serial = first_id; changes = cs } ∷ []) slots

abbrev put_bb : List Change
put_bb = set_at (codes "bb") None (Some (codes "bb1")) ∷ []

abbrev put_aa : List Change
put_aa = set_at (codes "aa") None (Some (codes "aa2")) ∷ put_bb

abbrev slot_bb : Slot
slot_bb = slot_at (codes "bb") (Some (codes "bb1"))

abbrev slot_aa : Slot
slot_aa = slot_at (codes "aa") (Some (codes "aa2"))

abbrev with_bb : World
with_bb = first_world (entered first_id (codes "bb") None ∷ []) (lock_at first_id (codes "bb") ∷ []) put_bb (slot_bb ∷ [])

abbrev both_put : World
both_put = first_world (entered first_id (codes "bb") None ∷ entered first_id (codes "aa") None ∷ []) (lock_at first_id (codes "aa") ∷ lock_at first_id (codes "bb") ∷ []) put_aa (slot_aa ∷ slot_bb ∷ [])

abbrev first_end : Settlement
first_end = settlement settled.Commit None

abbrev first_done : SettledChanges
first_done = record { serial = first_id; outcome = settled.Commit; moment = 1; changes = put_aa }

-- behind the second one
abbrev begun_again : World
begun_again = world_idx 1 (Some first_end) (ended_at 148) (two_drawn (second_branch false ∷ []) []) (first_end ∷ []) both_labels (first_done ∷ []) [] (slot_aa ∷ slot_bb ∷ [])

abbrev second_world : List JournalEntry → List Lock → List Change → List Slot → World
second_world es locks cs slots = world_idx 1 (Some first_end) (record { first = 148; entries = es }) (two_drawn (second_branch true ∷ []) locks) (first_end ∷ []) both_labels (first_done ∷ []) (record { serial = second_id; changes = cs } ∷ []) slots

abbrev gone_aa : List Change
gone_aa = set_at (codes "aa") (Some (codes "aa2")) None ∷ []

abbrev put_ab : List Change
put_ab = set_at (codes "ab") None (Some (codes "ab3")) ∷ gone_aa

abbrev without_aa : World
without_aa = second_world (entered second_id (codes "aa") (Some (codes "aa2")) ∷ []) (lock_at second_id (codes "aa") ∷ []) gone_aa (slot_at (codes "aa") None ∷ slot_bb ∷ [])

abbrev with_ab : World
with_ab = second_world (entered second_id (codes "aa") (Some (codes "aa2")) ∷ entered second_id (codes "ab") None ∷ []) (lock_at second_id (codes "ab") ∷ lock_at second_id (codes "aa") ∷ []) put_ab
    (slot_at (codes "aa") None ∷ slot_at (codes "ab") (Some (codes "ab3")) ∷ slot_bb ∷ [])

abbrev second_end : Settlement
second_end = record { tid = second_id; serial = second_id; outcome = settled.Abort; reason = Some settled.Aborted; moment = 2 }

-- behind its end
abbrev last_world : World
last_world = world_idx 2 (Some second_end) (ended_at 299) (two_drawn [] []) (second_end ∷ first_end ∷ []) both_labels
    (record { serial = second_id; outcome = settled.Abort; moment = 2; changes = put_ab } ∷ first_done ∷ []) [] (slot_aa ∷ slot_at (codes "ab") None ∷ slot_bb ∷ [])

abbrev asks : List ℕ → said.Operation → said.Statement
asks label op = said.At (codes "A") (said.Records label (codes "I") op)

two_entries : entries (insert (insert (empty {R = key_cmp}) (Text (codes "bb")) (codes "bb1")) (Text (codes "aa")) (codes "aa2")) ≡ (Text (codes "aa"), codes "aa2") ∷ (Text (codes "bb"), codes "bb1") ∷ []
two_entries = entries-insert key_cmp_total _ (Text (codes "aa")) (codes "aa2") ∙ ap (put key_cmp (Text (codes "aa")) (codes "aa2")) (one_entry (Text (codes "bb")) (codes "bb1"))

-- The statements that look at the records.

puts_bb : shown_whole first_begun (asks (codes "T") (said.Put None (codes "bb1"))) ≡ record { lines = line.RecordNormal ∷ []; world = with_bb }
puts_bb = rw (get-empty, get-empty) refl

puts_aa : shown_whole with_bb (asks (codes "T") (said.Put None (codes "aa2"))) ≡ record { lines = line.RecordNormal ∷ []; world = both_put }
puts_aa = rw (get-insert key_cmp_total, get-empty, get-insert key_cmp_total, get-empty) refl

is_there : shown_whole both_put (asks (codes "T") (said.Put None (codes "aa9"))) ≡ record { lines = line.KeyExists ∷ []; world = both_put }
is_there = rw (get-insert key_cmp_total) refl

keeps_key : shown_whole both_put (asks (codes "T") (said.Update (Text (codes "aa")) (codes "ab2"))) ≡ record { lines = line.KeyChanged ∷ []; world = both_put }
keeps_key = rw (get-insert key_cmp_total) refl

deletes_aa : shown_whole begun_again (asks (codes "U") (said.Delete (Text (codes "aa")))) ≡ record { lines = line.RecordNormal ∷ []; world = without_aa }
deletes_aa = rw (get-insert key_cmp_total, get-insert key_cmp_total) refl

puts_ab : shown_whole without_aa (asks (codes "U") (said.Put None (codes "ab3"))) ≡ record { lines = line.RecordNormal ∷ []; world = with_ab }
puts_ab = rw (get-remove key_cmp_total, get-insert key_cmp_total, get-insert key_cmp_total, get-empty, get-remove key_cmp_total, get-insert key_cmp_total, get-insert key_cmp_total, get-empty) refl

dumps_both : shown_whole last_world (said.At (codes "A") (said.Dump (codes "I")))
    ≡ record { lines = line.Record (Text (codes "aa")) (codes "aa2") ∷ line.Record (Text (codes "bb")) (codes "bb1") ∷ line.NormalCount 2 ∷ []; world = last_world }
dumps_both = rw two_entries refl

-- What is told.

abbrev told_7 : List Entry
told_7 = told (codes "A: START_TRANS T") (line.NormalId first_id ∷ []) (told (codes "A: SET_FILE I RU") (line.Normal ∷ []) (told (codes "A: CREATE I IDX 1 40 20 0 2") (line.Normal ∷ []) told_first))

abbrev told_8 : List Entry
told_8 = told (codes "A: PUT T I \"bb1\"") (line.RecordNormal ∷ []) told_7

abbrev told_9 : List Entry
told_9 = told (codes "A: PUT T I \"aa2\"") (line.RecordNormal ∷ []) told_8

abbrev told_10 : List Entry
told_10 = told (codes "A: PUT T I \"aa9\"") (line.KeyExists ∷ []) told_9

abbrev told_14 : List Entry
told_14 = told (codes "A: START_TRANS U") (line.NormalId second_id ∷ []) (told (codes "A: END_TRANS T") (line.Committed first_id first_id 1 ∷ line.Normal ∷ [])
    (told (codes "A: PUT T I \"a\"") (line.BadRecordSize ∷ []) (told (codes "A: UPDATE T I \"aa\" \"ab2\"") (line.KeyChanged ∷ []) told_10)))

abbrev told_15 : List Entry
told_15 = told (codes "A: DELETE U I \"aa\"") (line.RecordNormal ∷ []) told_14

abbrev told_17 : List Entry
told_17 = told (codes "A: ABORT_TRANS U") (line.Aborted second_id second_id settled.Aborted 2 ∷ line.Normal ∷ []) (told (codes "A: PUT U I \"ab3\"") (line.RecordNormal ∷ []) told_15)

abbrev told_18 : List Entry
told_18 = told (codes "A: DUMP I") (line.Record (Text (codes "aa")) (codes "aa2") ∷ line.Record (Text (codes "bb")) (codes "bb1") ∷ line.NormalCount 2 ∷ []) told_17

abbrev last_lines : List (List ℕ)
last_lines = codes "A: ABORT_TRANS U" ∷ codes "A: DUMP I" ∷ []

abbrev second_lines : List (List ℕ)
second_lines = codes "A: DELETE U I \"aa\"" ∷ codes "A: PUT U I \"ab3\"" ∷ last_lines

abbrev middle_lines : List (List ℕ)
middle_lines = codes "A: PUT T I \"a\"" ∷ codes "A: END_TRANS T" ∷ codes "A: START_TRANS U" ∷ second_lines

abbrev refused_lines : List (List ℕ)
refused_lines = codes "A: PUT T I \"aa9\"" ∷ codes "A: UPDATE T I \"aa\" \"ab2\"" ∷ middle_lines

runs_bb : run_from first_begun told_7 (rest (codes "A: PUT T I \"bb1\"" ∷ codes "A: PUT T I \"aa2\"" ∷ refused_lines)) ≡ run_from with_bb told_8 (rest (codes "A: PUT T I \"aa2\"" ∷ refused_lines))
runs_bb = says first_begun told_7 (line_said (codes "A: PUT T I \"bb1\"")) (rest (codes "A: PUT T I \"aa2\"" ∷ refused_lines))
    (asks (codes "T") (said.Put None (codes "bb1"))) (line.RecordNormal ∷ []) with_bb refl refl puts_bb

runs_aa : run_from with_bb told_8 (rest (codes "A: PUT T I \"aa2\"" ∷ refused_lines)) ≡ run_from both_put told_9 (rest refused_lines)
runs_aa = says with_bb told_8 (line_said (codes "A: PUT T I \"aa2\"")) (rest refused_lines)
    (asks (codes "T") (said.Put None (codes "aa2"))) (line.RecordNormal ∷ []) both_put refl refl puts_aa

runs_again : run_from both_put told_9 (rest refused_lines) ≡ run_from both_put told_10 (rest (codes "A: UPDATE T I \"aa\" \"ab2\"" ∷ middle_lines))
runs_again = says both_put told_9 (line_said (codes "A: PUT T I \"aa9\"")) (rest (codes "A: UPDATE T I \"aa\" \"ab2\"" ∷ middle_lines))
    (asks (codes "T") (said.Put None (codes "aa9"))) (line.KeyExists ∷ []) both_put refl refl is_there

runs_other : run_from both_put told_10 (rest (codes "A: UPDATE T I \"aa\" \"ab2\"" ∷ middle_lines)) ≡ run_from begun_again told_14 (rest second_lines)
unfolding same_key same_id
runs_other = says both_put told_10 (line_said (codes "A: UPDATE T I \"aa\" \"ab2\"")) (rest middle_lines)
    (asks (codes "T") (said.Update (Text (codes "aa")) (codes "ab2"))) (line.KeyChanged ∷ []) both_put refl refl keeps_key

runs_delete : run_from begun_again told_14 (rest second_lines) ≡ run_from without_aa told_15 (rest (codes "A: PUT U I \"ab3\"" ∷ last_lines))
runs_delete = says begun_again told_14 (line_said (codes "A: DELETE U I \"aa\"")) (rest (codes "A: PUT U I \"ab3\"" ∷ last_lines))
    (asks (codes "U") (said.Delete (Text (codes "aa")))) (line.RecordNormal ∷ []) without_aa refl refl deletes_aa

runs_ab : run_from without_aa told_15 (rest (codes "A: PUT U I \"ab3\"" ∷ last_lines)) ≡ run_from last_world told_17 (rest (codes "A: DUMP I" ∷ []))
unfolding same_key same_id
runs_ab = says without_aa told_15 (line_said (codes "A: PUT U I \"ab3\"")) (rest last_lines)
    (asks (codes "U") (said.Put None (codes "ab3"))) (line.RecordNormal ∷ []) with_ab refl refl puts_ab

shows_both : run_from last_world told_17 (rest (codes "A: DUMP I" ∷ [])) ≡ done told_18
shows_both = says last_world told_17 (line_said (codes "A: DUMP I")) [] (said.At (codes "A") (said.Dump (codes "I")))
    (line.Record (Text (codes "aa")) (codes "aa2") ∷ line.Record (Text (codes "bb")) (codes "bb1") ∷ line.NormalCount 2 ∷ []) last_world refl refl dumps_both

text_18 : text_of told_18 ≡ fed (base_shown ++ codes "5 SS$_NORMAL" ∷ codes "6 SS$_NORMAL" ∷ codes "7 SS$_NORMAL A.1.1" ∷ codes "8 RMS$_NORMAL" ∷ codes "9 RMS$_NORMAL" ∷ codes "10 RMS$_DUP" ∷ codes "11 RMS$_CHG" ∷ codes "12 RMS$_RSZ"
    ∷ codes "13 COMMIT A.1.1 A.1.1 \"17-NOV-1858 00:00:00.01\"" ∷ codes "13 SS$_NORMAL" ∷ codes "14 SS$_NORMAL A.1.2" ∷ codes "15 RMS$_NORMAL" ∷ codes "16 RMS$_NORMAL"
    ∷ codes "17 ABORT A.1.2 A.1.2 DDTM$_ABORTED \"17-NOV-1858 00:00:00.02\"" ∷ codes "17 SS$_NORMAL" ∷ codes "18 RECORD \"aa\" \"aa2\"" ∷ codes "18 RECORD \"bb\" \"bb1\"" ∷ codes "18 SS$_NORMAL 2" ∷ [])
text_18 = simp (digit_1, digit_2, digit_3, digit_4, digit_5, digit_6, digit_7, digit_8, digit_9, ten, eleven, twelve, thirteen, fourteen, fifteen, sixteen, seventeen, eighteen, first_moment, second_moment)

pub indexed_file_is_restored : IndexedFileIsRestored
indexed_file_is_restored = runs_bb ∙ runs_aa ∙ runs_again ∙ runs_other ∙ runs_delete ∙ runs_ab ∙ shows_both ∙ ap (λ t. record { exit = Done; text = t }) text_18
