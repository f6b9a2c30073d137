-- What a worked script of two branches of a node shows, and one of a file with too few buckets.
use Rattle.std.proofs.Common.{false, ◌≡◌, refl, List, [], ◌∷◌, ◌++◌, Some, None, codes, ℕ, ap, ◌∙◌, true}
use Rattle.std.specs.Prelude.{replicate}
use Rattle.std.specs.FinMap.{empty, get-empty, get-insert}
use Rattle.transcript_model.specs.vms_model.Ids.{Id}
use Rattle.transcript_model.specs.vms_model.Keys.{Number}
use Rattle.transcript_model.specs.vms_model.Transactions.{Commit}
use Rattle.recovery_model.specs.tree_model.Layouts.{first_layout}
use Rattle.recovery_model.proofs.records_model.KeyLemmas.{key_cmp_total}
use Rattle.recovery_model.specs.unit_laws.Journal.{empty_journal}
use Rattle.transcript_model.specs.commit_protocol.Messages.{same_name, same_id}
use Rattle.transcript_model.specs.commit_protocol.Table.{Active, same_key}
use Rattle.transcript_model.specs.commit_protocol.Rows.{blank}
use Rattle.transcript_model.specs.Lines as line
use Rattle.transcript_model.specs.Lines.{Line}
use Rattle.script_model.specs.Statements.{StartTrans, Records, Direct, EndTrans, Put, Get, Next, Delete}
use Rattle.run_model.specs.Locks.{Lock}
use Rattle.run_model.specs.World.{World, Durable, Volatile, File, Label, Settlement, Indexed, nothing_carried, nothing_volatile}
use Rattle.run_model.specs.Rows.{Move, shown, played, base_lines, put_lines, says, id, LockedRecordIsRefused, FileIsFull}
use Rattle.run_model.proofs.EntryLemmas.{one_entry}
use Rattle.run_model.proofs.RowLemmas.{then_plays, file_f, disk_with, two_powers, change, lock, from_put}

-- U has begun besides, and then T is committed; then U holds what it read, or nothing

abbrev label_of : List ℕ → Id → Label
label_of name serial = record { name = name; node = codes "A"; tid = serial; bid = None; serial = Some serial }

abbrev two_labels : List Label
two_labels = label_of (codes "U") (id 1 2) ∷ label_of (codes "T") (id 1 1) ∷ []

abbrev settlement : Settlement
settlement = record { tid = id 1 1; serial = id 1 1; outcome = Commit; reason = None; moment = 1 }

abbrev file_done : File
file_done = record (file_f []) { history = record { base = empty; moment = 0; settled = record { serial = id 1 1; outcome = Commit; moment = 1; changes = change (codes "a") ∷ [] } ∷ []; live = [] } }

abbrev world_of : Durable → Volatile → List Settlement → List Label → World
world_of durable volatile settled labels = record {
  nodes = record { name = codes "A"; blocks = 720; durable = durable; volatile = volatile; unmade = false; up = true; was_up = true; clock = 0; settled = settled; calls = two_powers; under_way = None } ∷ [];
  disks = record { faults = 0; stops = 0 } ∷ [];
  shared = record { labels = labels; in_use = true; wire = []; accepted = []; read_only = [] };
}

abbrev u_alone : List Lock → World
u_alone locks = world_of (record (disk_with (record { first = 100; entries = [] }) (Some file_done ∷ replicate 63 None)) { greatest = 1; last = Some settlement })
    (record { drawn = 2; branches = blank (id 1 2) (id 1 2) None Active None ∷ []; records = []; preparation = []; locks = locks; declared = [] }) (settlement ∷ []) two_labels

abbrev lock_u : List Lock
lock_u = lock (codes "F") (id 1 2) ∷ []

abbrev get_said : Move
get_said = says (Records (codes "U") (codes "F") (Get (Number 1)))

abbrev next_said : Move
next_said = says (Records (codes "U") (codes "F") (Next (Some (Number 1))))

abbrev delete_said : Move
delete_said = says (Records (codes "U") (codes "F") (Delete (Number 2)))

gets : shown (u_alone []) get_said ≡ record { lines = line.RecordFound (codes "a") ∷ []; world = u_alone lock_u }
unfolding same_name same_id same_key
gets = rw (get-insert key_cmp_total, get-insert key_cmp_total) refl

ends : shown (u_alone lock_u) next_said ≡ record { lines = line.EndOfFile ∷ []; world = u_alone lock_u }
unfolding same_name same_id same_key
ends = rw one_entry refl

finds_none : shown (u_alone lock_u) delete_said ≡ record { lines = line.RecordNotFound ∷ []; world = u_alone lock_u }
unfolding same_name same_id same_key
finds_none = rw (get-insert key_cmp_total, get-empty) refl

deletes : played (u_alone lock_u) (delete_said ∷ []) ≡ (line.RecordNotFound ∷ []) ∷ []
deletes = then_plays (u_alone lock_u) delete_said (line.RecordNotFound ∷ []) (u_alone lock_u) [] finds_none

nexts : played (u_alone lock_u) (next_said ∷ delete_said ∷ []) ≡ (line.EndOfFile ∷ []) ∷ (line.RecordNotFound ∷ []) ∷ []
nexts = then_plays (u_alone lock_u) next_said (line.EndOfFile ∷ []) (u_alone lock_u) (delete_said ∷ []) ends ∙ ap (λ x. (line.EndOfFile ∷ []) ∷ x) deletes

reads_then : played (u_alone []) (get_said ∷ next_said ∷ delete_said ∷ []) ≡ (line.RecordFound (codes "a") ∷ []) ∷ (line.EndOfFile ∷ []) ∷ (line.RecordNotFound ∷ []) ∷ []
reads_then = then_plays (u_alone []) get_said (line.RecordFound (codes "a") ∷ []) (u_alone lock_u) (next_said ∷ delete_said ∷ []) gets ∙ ap (λ x. (line.RecordFound (codes "a") ∷ []) ∷ x) nexts

pub locked_record_is_refused : LockedRecordIsRefused
unfolding same_name same_id same_key
locked_record_is_refused = from_put (says (StartTrans (codes "U") None) ∷ get_said ∷ says (EndTrans (codes "T")) ∷ get_said ∷ next_said ∷ delete_said ∷ [])
    ∙ ap (λ x. base_lines ++ put_lines ++ (line.NormalId (id 1 2) ∷ []) ∷ (line.RecordLocked (id 1 1) ∷ []) ∷ (line.Committed (id 1 1) (id 1 1) 1 ∷ line.Normal ∷ []) ∷ x) reads_then

-- A file with too few buckets.

abbrev file_i : File
file_i = record {
  name = codes "I";
  bucket = 1;
  record_size = 40;
  organization = Indexed 0 2;
  start = 715;
  buckets = 2;
  carried = nothing_carried;
  recovery_units = false;
  history = record { base = empty; moment = 0; settled = []; live = [] };
  past = λ moment. empty;
  layout = first_layout 2;
}

abbrev two_files : World
two_files = world_of (disk_with empty_journal (Some (file_f []) ∷ Some file_i ∷ replicate 62 None)) nothing_volatile [] []

abbrev full_said : Move
full_said = says (Direct (codes "I") (Put None (codes "aa")))

is_full : shown two_files full_said ≡ record { lines = line.FileFull 1 3 ∷ []; world = two_files }
unfolding same_name same_id same_key
is_full = rw get-empty refl

pub file_is_full : FileIsFull
unfolding same_name same_id same_key
file_is_full = ap (λ x. base_lines ++ (line.Normal ∷ []) ∷ x) (then_plays two_files full_said (line.FileFull 1 3 ∷ []) two_files [] is_full)
