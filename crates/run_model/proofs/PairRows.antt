-- What worked scripts of two nodes show.
use Rattle.std.proofs.Common.{false, ◌≡◌, refl, List, [], ◌∷◌, ◌++◌, Some, None, codes, ap, ◌∙◌, true, Bool, if◌then◌else◌}
use Rattle.std.specs.Prelude.{replicate}
use Rattle.std.specs.FinMap.{empty, get-empty, get-insert}
use Rattle.transcript_model.specs.vms_model.Keys.{Number}
use Rattle.recovery_model.proofs.records_model.KeyLemmas.{key_cmp_total}
use Rattle.recovery_model.specs.records_model.History.{LiveChanges}
use Rattle.recovery_model.specs.unit_laws.Journal.{empty_journal}
use Rattle.transcript_model.specs.commit_protocol.Messages as message
use Rattle.transcript_model.specs.commit_protocol.Messages.{Message, same_name, same_id}
use Rattle.transcript_model.specs.commit_protocol.Table.{Branch, Child, Active, same_key}
use Rattle.transcript_model.specs.commit_protocol.Rows.{blank}
use Rattle.transcript_model.specs.commit_protocol.Table as table
use Rattle.transcript_model.specs.Lines as line
use Rattle.transcript_model.specs.Lines.{Line}
use Rattle.script_model.specs.Statements.{At, Deliver, LinkDown, Settle, Boot, Records, Inquire, ByLabel, Dump, Crash, Put}
use Rattle.run_model.specs.World.{World, Node, File}
use Rattle.run_model.specs.Rows.{Move, played, shown, says, tells_b, does, id, id_b, to_a, to_b, two_zeros, pair_moves, pair_lines, join_moves, join_lines, prepare_moves, prepare_lines, vote_moves, vote_lines, BothCommit, DoubtIsResolved, AbortIsPresumed, MissingBranchAborts, LostLinkAborts, SettlingAsks}
use Rattle.run_model.proofs.EntryLemmas.{one_entry}
use Rattle.run_model.proofs.RowLemmas.{then_plays, last_plays, after, dumps, reads, read_plays, file_f, disk_with, two_powers, lock, entered, live}

pub missing_branch_aborts : MissingBranchAborts
unfolding same_name same_id same_key
missing_branch_aborts = refl

-- The branch has joined, and T, or U too, has put its record.

abbrev file_g : List LiveChanges → File
file_g live = record (file_f live) { name = codes "G" }

abbrev child_u : Child
child_u = record { bid = id 1 2; serial = id_b 1 1; vote = None }

abbrev branch_t : Bool → Branch
branch_t changed = record (blank (id 1 1) (id 1 1) None Active None) { changed = changed; bids = id 1 2 ∷ []; accepted = child_u ∷ [] }

abbrev branch_u : Bool → Branch
branch_u changed = record (blank (id 1 1) (id_b 1 1) (Some (id 1 2)) Active None) { changed = changed }

abbrev node_a : Bool → Node
node_a put = record {
  name = codes "A";
  blocks = 720;
  durable = disk_with (if put then entered (id 1 1) (codes "F") else empty_journal) (Some (file_f (if put then live (id 1 1) (codes "a") else [])) ∷ replicate 63 None);
  volatile = record { drawn = 2; branches = branch_t put ∷ []; records = []; preparation = []; locks = if put then lock (codes "F") (id 1 1) ∷ [] else []; declared = [] };
  unmade = false;
  up = true;
  was_up = true;
  clock = 0;
  settled = [];
  calls = two_powers;
  under_way = None;
}

abbrev node_b : Bool → Node
node_b put = record {
  name = codes "B";
  blocks = 720;
  durable = disk_with (if put then entered (id_b 1 1) (codes "G") else empty_journal) (Some (file_g (if put then live (id_b 1 1) (codes "b") else [])) ∷ replicate 63 None);
  volatile = record { drawn = 1; branches = branch_u put ∷ []; records = []; preparation = []; locks = if put then lock (codes "G") (id_b 1 1) ∷ [] else []; declared = [] };
  unmade = false;
  up = true;
  was_up = true;
  clock = 0;
  settled = [];
  calls = two_powers;
  under_way = None;
}

abbrev pair : (a b : Bool) → World
pair a b = record {
  nodes = node_a a ∷ node_b b ∷ [];
  disks = record { faults = 0; stops = 0 } ∷ record { faults = 0; stops = 0 } ∷ [];
  shared = record {
    labels = record { name = codes "U"; node = codes "B"; tid = id 1 1; bid = Some (id 1 2); serial = Some (id_b 1 1) } ∷ record { name = codes "T"; node = codes "A"; tid = id 1 1; bid = None; serial = Some (id 1 1) } ∷ [];
    in_use = true;
    wire = record (to_a message.Join) { bid = Some (id 1 2) } ∷ to_b message.JoinOk ∷ [];
    accepted = table.child (id 1 1) (id_b 1 1) ∷ [];
    read_only = [];
  };
}

abbrev put_a : Move
put_a = says (Records (codes "T") (codes "F") (Put (Some 1) (codes "a")))

abbrev put_b : Move
put_b = tells_b (Records (codes "U") (codes "G") (Put (Some 1) (codes "b")))

puts_a : shown (pair false false) put_a ≡ record { lines = line.RecordNormal ∷ []; world = pair true false }
unfolding same_name same_id same_key
puts_a = rw (get-empty, get-empty) refl

puts_b : shown (pair true false) put_b ≡ record { lines = line.RecordNormal ∷ []; world = pair true true }
unfolding same_name same_id same_key
puts_b = rw (get-empty, get-empty) refl

abbrev joins_lines : List (List Line)
joins_lines = pair_lines ++ (line.Sent 1 (record (to_a message.Join) { bid = Some (id 1 2) }) ∷ line.Pending (id_b 1 1 ∷ []) [] ∷ [])
    ∷ (line.Joined (id 1 1) (id_b 1 1) ∷ line.Sent 2 (to_b message.JoinOk) ∷ line.Normal ∷ []) ∷ (line.Started (id 1 1) (id_b 1 1) ∷ line.Normal ∷ []) ∷ []

-- behind the puts these moves show the same as from that world
from_join : (ms : List Move) → played two_zeros (pair_moves ++ join_moves ++ ms) ≡ pair_lines ++ join_lines ++ played (pair true true) ms
unfolding same_name same_id same_key
from_join ms = ap (λ x. joins_lines ++ x) (then_plays (pair false false) put_a (line.RecordNormal ∷ []) (pair true false) (put_b ∷ ms) puts_a)
    ∙ ap (λ x. joins_lines ++ (line.RecordNormal ∷ []) ∷ x) (then_plays (pair true false) put_b (line.RecordNormal ∷ []) (pair true true) ms puts_b)

pub lost_link_aborts : LostLinkAborts
unfolding same_name same_id same_key
lost_link_aborts = from_join (does (LinkDown (codes "A") (codes "B")) ∷ [])

pub settling_asks : SettlingAsks
unfolding same_name same_id same_key
settling_asks = from_join (prepare_moves ++ vote_moves ++ does Settle ∷ [])

pub abort_is_presumed : AbortIsPresumed
unfolding same_name same_id same_key
abort_is_presumed = from_join (prepare_moves ++ says Crash ∷ says Boot ∷ tells_b (Inquire (ByLabel (codes "U"))) ∷ does (Deliver 5) ∷ does (Deliver 6) ∷ [])

-- G is dumped last.
abbrev dump_g : Move
dump_g = tells_b (Dump (codes "G"))

abbrev voted_lines : List (List Line)
voted_lines = pair_lines ++ join_lines ++ prepare_lines ++ vote_lines

abbrev commit_moves : List Move
commit_moves = prepare_moves ++ vote_moves ++ does (Deliver 5) ∷ does (Deliver 6) ∷ []

pub both_commit : BothCommit
unfolding same_name same_id same_key
both_commit = from_join (commit_moves ++ dump_g ∷ [])
    ∙ ap (λ x. voted_lines ++ (line.Committed (id 1 1) (id_b 1 1) 1 ∷ line.Sent 6 (to_a message.Ack) ∷ line.Normal ∷ []) ∷ (line.Forgot (id 1 1) (id 1 1) ∷ line.Normal ∷ []) ∷ x)
    (last_plays (after (pair true true) commit_moves) dump_g (line.Record (Number 1) (codes "b") ∷ line.NormalCount 1 ∷ [])
    (dumps (after (pair true true) commit_moves) (codes "B") (codes "G") _ _ ((Number 1, codes "b") ∷ []) refl refl refl refl (one_entry (Number 1) (codes "b"))))

-- The branch is in doubt, and its record is read before and behind its commitment.

abbrev get_g : Move
get_g = tells_b (reads (codes "G") (Number 1))

abbrev doubt_moves : List Move
doubt_moves = prepare_moves ++ vote_moves ++ does (At (codes "B") Crash) ∷ tells_b Boot ∷ get_g ∷ tells_b (Inquire (ByLabel (codes "U"))) ∷ does (Deliver 6) ∷ does (Deliver 7) ∷ []

abbrev doubt_lines : List (List Line)
doubt_lines = voted_lines ++ (line.Crashed (codes "B") ∷ line.Normal ∷ []) ∷ (line.Prepared (id 1 1) (id_b 1 1) ∷ line.NormalCount 2 ∷ []) ∷ (line.RecordLocked (id_b 1 1) ∷ [])
    ∷ (line.Sent 6 (to_a message.Inquire) ∷ line.Normal ∷ []) ∷ (line.Sent 7 (to_b message.Commit) ∷ line.Normal ∷ []) ∷ (line.Committed (id 1 1) (id_b 1 1) 1 ∷ line.Sent 8 (to_a message.Ack) ∷ line.Normal ∷ []) ∷ []

abbrev late_moves : List Move
late_moves = does (Deliver 8) ∷ does (Deliver 3) ∷ does (Deliver 6) ∷ does (Deliver 9) ∷ does (Deliver 10) ∷ []

abbrev late_lines : List (List Line)
late_lines = (line.Forgot (id 1 1) (id 1 1) ∷ line.Normal ∷ []) ∷ (line.Sent 9 (to_a message.No) ∷ line.Normal ∷ []) ∷ (line.Sent 10 (to_b message.Abort) ∷ line.Normal ∷ []) ∷ (line.Normal ∷ []) ∷ (line.Normal ∷ []) ∷ []

abbrev doubtful : World
doubtful = after (pair true true) doubt_moves

read_g : shown doubtful get_g ≡ record { lines = line.RecordFound (codes "b") ∷ []; world = doubtful }
unfolding same_name same_id same_key
read_g = read_plays doubtful (codes "B") (codes "G") (Number 1) _ _ (codes "b") refl refl refl refl refl refl (get-insert key_cmp_total empty (Number 1) (codes "b") (Number 1))

last_dump : played doubtful (late_moves ++ dump_g ∷ []) ≡ late_lines ++ (line.Record (Number 1) (codes "b") ∷ line.NormalCount 1 ∷ []) ∷ []
unfolding same_name same_id same_key
last_dump = ap (λ x. late_lines ++ x) (last_plays (after doubtful late_moves) dump_g (line.Record (Number 1) (codes "b") ∷ line.NormalCount 1 ∷ [])
    (dumps (after doubtful late_moves) (codes "B") (codes "G") _ _ ((Number 1, codes "b") ∷ []) refl refl refl refl (one_entry (Number 1) (codes "b"))))

pub doubt_is_resolved : DoubtIsResolved
unfolding same_name same_id same_key
doubt_is_resolved = from_join (doubt_moves ++ get_g ∷ late_moves ++ dump_g ∷ [])
    ∙ ap (λ x. doubt_lines ++ x) (then_plays doubtful get_g (line.RecordFound (codes "b") ∷ []) doubtful (late_moves ++ dump_g ∷ []) read_g ∙ ap (λ x. (line.RecordFound (codes "b") ∷ []) ∷ x) last_dump)
