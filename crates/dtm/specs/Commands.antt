-- What the program does for the words of its command.
use Rattle.std.specs.Prelude.{◌≡◌, ℕ, ◌⊎◌, List, [], true, false, Option}
use Rattle.std.specs.Option.{option_map}
use Rattle.block_disk.specs.Disk.{DiskState}
use Rattle.dtm_run.specs.Racks.{names_in, disks_in, states_in}
use Rattle.dtm_run.specs.declared.rack.Rack.{Rack}
use Rattle.dtm_run.specs.declared.top.Exit.{Exit}
use Rattle.dtm_run.specs.declared.top.Exit.TheVariants as exit
use Rattle.run_model.specs.World.{Node}
use Rattle.run_model.specs.Transcript.{AreOpening}
use Rattle.transcript_model.specs.Script.{lines_of}
use Rattle.script_model.specs.Command.{is_run_form}
use Rattle.dtm_run.specs.Calls.{DisksFollowRun}
use Rattle.dtm_run.specs.Headline.{DisksRepresent, is_command, Unread}
use Rattle.dtm_run.specs.Leading.{RunOver}
use Rattle.dtm_command.specs.Images.{Store, IsImageOf, images_of}
use Rattle.dtm.specs.Images.{IsFilled}

-- A command that ended so: a rack was filled with the nodes and images that its words name, and by these nodes the script was run, or the words are no command over
-- them. The rack that is left has their disks as that left them.
pub record CommandRan {File Image : Type 0} (store : Store File Image) (state : Image → DiskState) (words : List (List ℕ)) (script rest old new : Option (List ℕ)) (ended : Exit) (left : Rack Image) : Type 0 where
  pub rack : Rack Image
  pub filled : IsFilled (IsImageOf store state) (λ image. (state image).size) (images_of words) [] [] (names_in rack) (disks_in rack)
  pub names : names_in left ≡ names_in rack
  pub ran : is_run_form (names_in rack) words ≡ true → (nodes : List Node) → AreOpening nodes → DisksRepresent (names_in rack) (states_in state rack) nodes → RunOver (names_in rack) nodes (states_in state rack) (states_in state left) script old new ended
  -- Whether or not the images tell their content.
  pub calls : is_run_form (names_in rack) words ≡ true → DisksFollowRun (names_in rack) (states_in state rack) (states_in state left) (option_map lines_of script) old new ended
  pub usage : is_command (names_in rack) words ≡ false → (ended ≡ exit.Memory) ⊎ Unread old new ended
  pub commanded : is_command (names_in rack) words ≡ true → ended ≡ exit.Usage → ⊥
  -- Words that are no command, and a run for which memory is missing, leave the script and the disks as they were.
  pub unread : is_command (names_in rack) words ≡ false → (rest ≡ script) × (disks_in left ≡ disks_in rack)
  pub memory : ended ≡ exit.Memory → (new ≡ old) × (rest ≡ script) × (disks_in left ≡ disks_in rack)
