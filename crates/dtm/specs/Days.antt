-- What the program does for words that ask for a day.
use Rattle.std.specs.Prelude.{◌≡◌, ℕ, ◌⊎◌, List, [], ◌∷◌, Bool, true, false, Option, Some, codes, replicate}
use Rattle.std.specs.List.{AllByRecursion}
use Rattle.std.specs.Str.{bytes_eq}
use Rattle.block_disk.specs.Disk.{DiskState}
use Rattle.dtm_run.specs.Racks.{names_in, disks_in, states_in}
use Rattle.dtm_run.specs.declared.rack.Rack.{Rack}
use Rattle.dtm_run.specs.declared.top.Exit.{Exit}
use Rattle.dtm_run.specs.declared.top.Exit.TheVariants as exit
use Rattle.run_model.specs.World.{Node}
use Rattle.run_model.specs.Transcript.{AreOpening}
use Rattle.script_model.specs.Command.{is_run_form}
use Rattle.day_model.specs.Command.{Asked, day_asked}
use Rattle.dtm_run.specs.Days.{DayRan, DayTold}
use Rattle.dtm_run.specs.Headline.{DisksRepresent, is_command, Unread}

-- whether MAKE stands behind the program's name
abbrev pub is_for_a_day : List (List ℕ) → Bool
is_for_a_day (program ∷ command ∷ more) = bytes_eq command (codes "MAKE")
is_for_a_day (program ∷ []) = false
is_for_a_day [] = false

-- a new disk: it has 16,384 blocks of zeros, none of which is pending, and nothing was counted of it
pub record IsBlank (d : DiskState) : Type 0 where
  pub size : d.size ≡ 16384
  pub zeros : d.seen ≡ Some (replicate d.size (replicate 512 0))
  pub settled : d.pending ≡ []
  pub faults : d.faults ≡ 0
  pub stops : d.stops ≡ 0

-- A command that ended so: over new disks of the nodes A and B the day was run for which its words ask, or they ask for none. The script was not read. The rack that is
-- left has the disks as that left them.
pub record DayCommandRan {Image : Type 0} (state : Image → DiskState) (words : List (List ℕ)) (script rest old new : Option (List ℕ)) (ended : Exit) (left : Rack Image) : Type 0 where
  pub rack : Rack Image
  pub nodes : names_in rack ≡ codes "A" ∷ (codes "B" ∷ [])
  pub blank : AllByRecursion IsBlank (states_in state rack)
  -- On these disks there stand nodes as before a first line, so that what a day promises from such nodes on holds.
  pub begins : (nodes : List Node) × AreOpening nodes × DisksRepresent (names_in rack) (states_in state rack) nodes
  pub names : names_in left ≡ names_in rack
  pub makes : (asked : Asked) → day_asked (names_in rack) words ≡ Some asked → (nodes : List Node) → AreOpening nodes → DisksRepresent (names_in rack) (states_in state rack) nodes →
      (ended ≡ exit.Memory) ⊎ DayRan nodes (states_in state rack) (states_in state left) asked.count asked.start old new ended
  pub made : (asked : Asked) → day_asked (names_in rack) words ≡ Some asked → (ended ≡ exit.Memory) ⊎ DayTold (names_in rack) (states_in state rack) (states_in state left) asked.count asked.start old new ended
  pub unread_day : is_run_form (names_in rack) words ≡ false → rest ≡ script
  pub usage : is_command (names_in rack) words ≡ false → (ended ≡ exit.Memory) ⊎ Unread old new ended
  pub commanded : is_command (names_in rack) words ≡ true → ended ≡ exit.Usage → ⊥
  -- Words that are no command, and a day for which memory is missing, leave the disks as they were.
  pub unread : is_command (names_in rack) words ≡ false → (rest ≡ script) × (disks_in left ≡ disks_in rack)
  pub memory : ended ≡ exit.Memory → (new ≡ old) × (rest ≡ script) × (disks_in left ≡ disks_in rack)
