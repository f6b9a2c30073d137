-- Files that agree with their journals and saves, from run to run.
use Rattle.std.specs.Prelude.{◌≡◌, ℕ, List, [], ◌∷◌, false, Some}
use Rattle.world_laws.specs.run_model.World.{DiskCounts, Node, World, opened}
use Rattle.world_laws.specs.run_model.Transcript.{Entry, Legal}
use Rattle.world_laws.specs.Running.{AllFound}
use Rattle.run_laws.specs.run_agreement.Seen.{has_volume}
use Rattle.recovery_runs.specs.run_chains.Chains.{AreNext, Follow, MadeAreNew, MayAgree, RunOf}
use Rattle.recovery_runs.specs.Promises.{FilesAgree, LastImagesAgree, RecoveriesGiven}
use Rattle.recovery_runs.specs.Runs.{StandsAt}

-- A disk without a volume has no files, unless these entries replace what it had.
abbrev pub AreBare : World → List Entry → Type 0
AreBare opening es = (node : List ℕ) (n : Node) → StandsAt node es opening n → has_volume n ≡ false → AllFound (λ file f. ⊥) n.durable.directory

-- Let the premises hold under which all is promised of a run that is promised where images agree, and let the files that it finds agree with their journals and saves, and
-- with the branches that may yet commit, and have no gaps. Then so do the files that the next run finds, whatever turned out of the acts that were under way at the end.
abbrev pub FilesAgreeAgain : Type 0
FilesAgreeAgain = (nodes : List Node) (disks : List DiskCounts) (es : List Entry) (closing : World) → MayAgree nodes es → Legal (opened nodes disks) es closing → FilesAgree (opened nodes disks) es →
    (next : List Node) → AreNext closing.nodes next → (others : List DiskCounts) (fs : List Entry) → AreBare (opened next others) fs → MadeAreNew next fs → FilesAgree (opened next others) fs

-- Let besides, in each file that it finds, the last after images of the branches that may yet commit be the values that stand, over all entries of the journal. Then so it
-- is in the files that the next run finds.
abbrev pub LastImagesAgreeAgain : Type 0
LastImagesAgreeAgain = (nodes : List Node) (disks : List DiskCounts) (es : List Entry) (closing : World) → MayAgree nodes es → Legal (opened nodes disks) es closing → FilesAgree (opened nodes disks) es → LastImagesAgree (opened nodes disks) es →
    (next : List Node) → AreNext closing.nodes next → (others : List DiskCounts) (fs : List Entry) → AreBare (opened next others) fs → MadeAreNew next fs → LastImagesAgree (opened next others) fs

-- Of runs one after another, the newest first: the files agree that the first finds, and of each other no disk without a volume has files.
abbrev pub FilesBegin : RunOf → List RunOf → Type 0
FilesBegin r [] = FilesAgree (opened r.nodes r.disks) r.entries
FilesBegin r (before ∷ rs) = FilesBegin before rs × AreBare (opened r.nodes r.disks) r.entries

-- Then the files agree that each run finds, and so each recovery that a line shows to have succeeded gave the records of its moment.
abbrev pub RecoveryChainsAgree : Type 0
RecoveryChainsAgree = (r : RunOf) (rs : List RunOf) → Follow (r ∷ rs) → FilesBegin r rs → FilesAgree (opened r.nodes r.disks) r.entries × RecoveriesGiven (opened r.nodes r.disks) r.entries r.closing

-- And the last after images are the values that stand in the files that each run finds, where they are so in those that the first finds.
abbrev pub LastImagesBegin : RunOf → List RunOf → Type 0
LastImagesBegin r [] = LastImagesAgree (opened r.nodes r.disks) r.entries
LastImagesBegin r (before ∷ rs) = LastImagesBegin before rs

abbrev pub LastImageChainsAgree : Type 0
LastImageChainsAgree = (r : RunOf) (rs : List RunOf) → Follow (r ∷ rs) → FilesBegin r rs → LastImagesBegin r rs → LastImagesAgree (opened r.nodes r.disks) r.entries
