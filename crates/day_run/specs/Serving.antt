-- How a day was served.
use Rattle.std.specs.Prelude.{◌≡◌, ◌⊎◌, ◌≤◌, ℕ, List, [], ◌∷◌, false, codes, length}
use Rattle.std.specs.List.{AllByRecursion}
use Rattle.block_disk.specs.Disk.{CallLog, DiskState}
use Rattle.block_disk.specs.Sizes.{least_disk_size}
use Rattle.emitter_model.specs.Tally.{Tally}
use Rattle.script_lang.specs.script_model.Grammar.{reading}
use Rattle.script_lang.specs.script_model.Statements.{Says, Statement}
use Rattle.run_laws.specs.Anew.{Makes}
use Rattle.world_laws.specs.run_model.Transcript.{Entry, Legal}
use Rattle.world_laws.specs.run_model.World.{World}
use Rattle.run_shared.specs.Sharing.{SharedState}
use Rattle.run_nodes.specs.node_standing.Standing.{NodeState}
use Rattle.day_run.specs.Tells.{EntriesTell}
use Rattle.run_nodes.specs.Together.{StandsTogether}
use Rattle.day_model.specs.Pieces.{Piece, day}
use Rattle.day_model.specs.Days.{DayReached, Stops, tally_of}
use Rattle.day_model.specs.Readings.{makes_volume}
use Rattle.day_tally.specs.declared.counts.Ended.{Ended}
use Rattle.day_tally.specs.declared.counts.Ended.TheVariants as ended

-- each disk has 4,096 blocks or more
abbrev pub AreLarge : List DiskState → Type 0
AreLarge ds = AllByRecursion (λ (d : DiskState). least_disk_size ≤ d.size) ds

-- a script that ended so, with these entries, and with these counts where it ended whole
abbrev pub EndsSo : List Piece → List Entry → Ended → (counts : List ℕ) → Type 0
EndsSo all es ended.Whole counts = DayReached all es [] counts
EndsSo all es ended.Stopped counts = Stops all es

-- an entry of a statement that makes no volume
abbrev pub MakesNone : Entry → Type 0
MakesNone e = (s : Statement) × (reading e.source.text ≡ Says s) × (makes_volume s ≡ false)

-- The first two of these entries made the volumes, of A and then of B, and the others made none.
abbrev pub BothMade : List Entry → Type 0
BothMade [] = ⊥
BothMade (e ∷ []) = ⊥
BothMade (e ∷ f ∷ []) = Makes (codes "B") e × Makes (codes "A") f
BothMade (e ∷ f ∷ g ∷ es) = MakesNone e × BothMade (f ∷ g ∷ es)

-- From an opening world on the entries of a day were legal, and this was counted of their lines; the nodes that are kept stand for the world that they led to.
pub record DayServed (logs : List CallLog) (opening : World) (count start : ℕ) (t : Tally) (how : Ended) (counts : List ℕ) (ks : List NodeState) (s : SharedState) : Type 0 where
  pub entries : List Entry
  pub closing : World
  pub legal : Legal opening entries closing
  pub stands : StandsTogether logs ks s closing
  pub counted : t ≡ tally_of entries
  pub ends : EndsSo (day count start) entries how counts
  -- both volumes were made, or the day ended with one of them
  pub made : BothMade entries ⊎ (length entries ≤ 2)

-- Whatever the disks have: the entries of a day tell of them from the first states to the last, and this was counted of their lines.
pub record DayTells (names : List (List ℕ)) (before after : List DiskState) (count start : ℕ) (t : Tally) (how : Ended) (counts : List ℕ) : Type 0 where
  pub entries : List Entry
  pub tell : EntriesTell names before entries after
  pub counted : t ≡ tally_of entries
  pub ends : EndsSo (day count start) entries how counts
