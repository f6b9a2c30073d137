-- What entries tell of the disks, whether or not these tell their content.
use Rattle.std.specs.Prelude.{◌≡◌, ℕ, List, [], ◌∷◌}
use Rattle.block_disk.specs.Disk.{DiskState}
use Rattle.script_lang.specs.script_model.Grammar.{reading}
use Rattle.run_laws.specs.run_said.Said.{said_of}
use Rattle.world_laws.specs.run_model.Transcript.{Entry}
use Rattle.run_nodes.specs.Calls.{DisksFollowLine, LineFollows}

-- These entries, the newest first, lead from the disks before to those after, and each follows what those before it said.
abbrev pub EntriesTell : List (List ℕ) → List DiskState → List Entry → List DiskState → Type 0
EntriesTell names before [] after = after ≡ before
EntriesTell names before (e ∷ es) after = (mid : List DiskState) × EntriesTell names before es mid
    × DisksFollowLine names (said_of names es) (reading e.source.text) e.lines mid after × LineFollows (said_of names es) (reading e.source.text) e.lines
