-- What worked changes without a label show.
use Rattle.std.proofs.Common.{false, ◌≡◌, refl, List, [], ◌∷◌, ◌++◌, Option, Some, None, codes, ℕ, ap, ◌∙◌, true, length}
use Rattle.std.specs.Prelude.{replicate}
use Rattle.std.specs.FinMap.{empty, get-empty}
use Rattle.transcript_model.specs.vms_model.Keys.{Number}
use Rattle.transcript_model.specs.vms_model.Transactions.{Commit}
use Rattle.transcript_model.specs.commit_protocol.Messages.{same_name, same_id}
use Rattle.transcript_model.specs.commit_protocol.Table.{same_key}
use Rattle.recovery_model.specs.records_model.History.{SettledChanges}
use Rattle.recovery_model.specs.tree_model.Layouts.{no_layout}
use Rattle.recovery_model.specs.unit_laws.Journal.{empty_journal}
use Rattle.transcript_model.specs.Lines as line
use Rattle.transcript_model.specs.Lines.{Line}
use Rattle.script_model.specs.Statements as said
use Rattle.script_model.specs.Statements.{StartTrans, Records, Direct, Put, Get}
use Rattle.run_model.specs.World.{World, File, Settlement, Relative, Sound, nothing_carried}
use Rattle.run_model.specs.Rows.{Move, shown, played, zero_world, base_moves, base_lines, says, id, ChangeWithoutLabel}
use Rattle.run_model.proofs.RowLemmas.{then_plays, file_f, two_powers}

-- the file G, of four records of any size
abbrev file_g : List SettledChanges → File
file_g done = record {
  name = codes "G";
  bucket = 16;
  record_size = 8160;
  organization = Relative 4;
  start = 715;
  buckets = 4;
  carried = nothing_carried;
  recovery_units = false;
  history = record { base = empty; moment = 0; settled = done; live = [] };
  past = λ moment. empty;
  layout = no_layout;
}

abbrev settlement : Settlement
settlement = record { tid = id 1 1; serial = id 1 1; outcome = Commit; reason = None; moment = 1 }

abbrev world_g : (greatest drawn : ℕ) → Option Settlement → List Settlement → List SettledChanges → World
world_g greatest drawn last settled done = record {
  nodes = record {
    name = codes "A";
    blocks = 784;
    durable = record { volume = Sound; log = replicate 64 None; journal = 64; boot = 1; greatest = greatest; last = last; units = empty_journal; directory = Some (file_f []) ∷ Some (file_g done) ∷ replicate 62 None };
    volatile = record { drawn = drawn; branches = []; records = []; preparation = []; locks = []; declared = [] };
    unmade = false;
    up = true;
    was_up = true;
    clock = 0;
    settled = settled;
    calls = two_powers;
    under_way = None;
  } ∷ [];
  disks = record { faults = 0; stops = 0 } ∷ [];
  shared = record { labels = []; in_use = true; wire = []; accepted = []; read_only = [] };
}

abbrev made_g : World
made_g = world_g 0 0 None [] []

abbrev put_g : List ℕ → World
put_g bytes = world_g 1 1 (Some (settlement)) (settlement ∷ []) (record { serial = id 1 1; outcome = Commit; moment = 1; changes = record { key = Number 4; before = None; after = Some bytes } ∷ [] } ∷ [])

abbrev direct_g : List ℕ → Move
direct_g bytes = says (Direct (codes "G") (Put (Some 4) bytes))

directs : (bytes : List ℕ) → length bytes ≡ 8160 → shown made_g (direct_g bytes) ≡ record { lines = line.Committed (id 1 1) (id 1 1) 1 ∷ line.RecordNormal ∷ []; world = put_g bytes }
unfolding same_name same_id same_key
directs bytes e = rw (e, get-empty, get-empty) refl

is_too_long : (bytes longer : List ℕ) → length longer ≡ 8161 → shown (put_g bytes) (direct_g longer) ≡ record { lines = line.BadRecordSize ∷ []; world = put_g bytes }
unfolding same_name same_id same_key
is_too_long bytes longer e = rw e refl

abbrev last_moves : List Move
last_moves = says (StartTrans (codes "T") None) ∷ says (Records (codes "T") (codes "G") (Get (Number 4))) ∷ says (Direct (codes "F") (Put (Some 1) (codes "a"))) ∷ []

abbrev last_lines : List (List Line)
last_lines = (line.NormalId (id 1 2) ∷ []) ∷ (line.NotForUnits ∷ []) ∷ (line.NeedsUnit ∷ []) ∷ []

last_play : (bytes : List ℕ) → played (put_g bytes) last_moves ≡ last_lines
unfolding same_name same_id same_key
last_play bytes = refl

too_long_then : (bytes longer : List ℕ) → length longer ≡ 8161 → played (put_g bytes) (direct_g longer ∷ last_moves) ≡ (line.BadRecordSize ∷ []) ∷ last_lines
unfolding same_name same_id same_key
too_long_then bytes longer e = then_plays (put_g bytes) (direct_g longer) (line.BadRecordSize ∷ []) (put_g bytes) last_moves (is_too_long bytes longer e) ∙ ap (λ x. (line.BadRecordSize ∷ []) ∷ x) (last_play bytes)

directs_then : (bytes longer : List ℕ) → length bytes ≡ 8160 → length longer ≡ 8161 → played made_g (direct_g bytes ∷ direct_g longer ∷ last_moves)
    ≡ (line.Committed (id 1 1) (id 1 1) 1 ∷ line.RecordNormal ∷ []) ∷ (line.BadRecordSize ∷ []) ∷ last_lines
unfolding same_name same_id same_key
directs_then bytes longer e f = then_plays made_g (direct_g bytes) (line.Committed (id 1 1) (id 1 1) 1 ∷ line.RecordNormal ∷ []) (put_g bytes) (direct_g longer ∷ last_moves) (directs bytes e)
    ∙ ap (λ x. (line.Committed (id 1 1) (id 1 1) 1 ∷ line.RecordNormal ∷ []) ∷ x) (too_long_then bytes longer f)

from_g : (ms : List Move) → played (zero_world 784) (base_moves ++ says (said.Create (codes "G") 16 8160 (said.Relative 4)) ∷ ms) ≡ base_lines ++ (line.Normal ∷ []) ∷ played made_g ms
unfolding same_name same_id same_key
from_g ms = refl

pub change_without_label : ChangeWithoutLabel
unfolding same_name same_id same_key
change_without_label bytes longer e f = from_g (direct_g bytes ∷ direct_g longer ∷ last_moves) ∙ ap (λ x. base_lines ++ (line.Normal ∷ []) ∷ x) (directs_then bytes longer e f)
