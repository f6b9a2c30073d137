-- A node as the next run finds it.
use Rattle.std.specs.Prelude.{◌≡◌, ◌⊎◌, ℕ, List, [], false, Option, Some, None, map, option_map}
use Rattle.records_model.specs.History.{History, records}
use Rattle.unit_laws.specs.Units.{Map}
use Rattle.world_laws.specs.recovery_model.File.{all_of}
use Rattle.world_laws.specs.recovery_model.Opening.{past_of}
use Rattle.world_laws.specs.run_model.World.{Node, File, Act, Half, MayTurnOut, Sound, Faulty, Barred, Unknown, aborted_prepared, acted, nothing_volatile, with_half}

-- a history from this moment on: the records that were committed are its base, and branches that are not settled have their changes on top
abbrev pub rebased : ℕ → History → History
rebased moment h = record { base = records h; moment = moment; settled = []; live = h.live }

-- a file so; what its records were at the moments before is what its journals of images and its save tell
abbrev pub rebased_file : ℕ → File → File
rebased_file moment f = record f { history = rebased moment f.history; past = past_of f.carried.after f.carried.save (all_of f.carried.before.entries) (records f.history) }

abbrev pub rebased_files : ℕ → List (Option File) → List (Option File)
rebased_files moment fs = map (option_map (rebased_file moment)) fs

-- A node as the next run finds it: down, with what its disk has.
abbrev pub reopened : Node → Node
reopened n = record {
  name = n.name;
  blocks = n.blocks;
  durable = record n.durable { directory = rebased_files n.durable.greatest n.durable.directory };
  volatile = nothing_volatile;
  unmade = false;
  up = false;
  was_up = false;
  clock = 0;
  settled = [];
  calls = [];
  under_way = None;
}

-- The next run finds the node that this one left, or that node after the act that was under way, or with a part of it, where that is the abort of a prepared branch;
-- of a disk that fails a condition it finds this condition, of one that bars each boot what bars it, and of one of which nothing is known nothing.
abbrev pub IsReopened : Node → Node → Type 0
IsReopened n m = elim n.durable.volume [
  | Sound ↦ (m ≡ reopened n) ⊎ (((act : Act) × (n.under_way ≡ Some act) × (m ≡ reopened (acted act n))) ⊎ ((standing : List ℕ → Map) × MayTurnOut n (Half standing) × (m ≡ reopened (record n { durable = with_half (aborted_prepared n.under_way n.durable) standing n.durable }))))
  | Faulty condition block ↦ m.durable.volume ≡ Faulty condition block
  | Barred bar ↦ m.durable.volume ≡ Barred bar
  | Unknown ↦ m.durable.volume ≡ Unknown
]
