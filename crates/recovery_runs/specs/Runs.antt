-- Recoveries in whole runs: which files a run may find, and what then holds of each file and of each recovery.
use Rattle.std.specs.Prelude.{◌≡◌, ℕ, List, [], ◌∷◌, ◌++◌, length, Bool, true, false, Option, Some, None, ◌&&◌}
use Rattle.std.specs.List.{list_any}
use Rattle.std.specs.FinMap.{entries}
use Rattle.vms_model.specs.Ids.{Id}
use Rattle.vms_model.specs.Transactions.{Abort, Commit, Reason}
use Rattle.transcript_model.specs.Lines.{NormalCount}
use Rattle.script_model.specs.Grammar.{reading}
use Rattle.script_model.specs.Statements.{At, Recover, Recovery, Says}
use Rattle.records_model.specs.History.{current, same_id}
use Rattle.transcript_model.specs.commit_protocol.Messages.{LogRecord}
use Rattle.transcript_model.specs.commit_protocol.Table.{Key as BranchKey, Settles}
use Rattle.transcript_model.specs.commit_protocol.World.{In}
use Rattle.recovery_model.specs.Journal.{is_commit}
use Rattle.recovery_model.specs.Laws.{GivesMaps}
use Rattle.recovery_model.specs.Opening.{IsOpening, MayCommit, as_found}
use Rattle.recovery_model.specs.Recovery.{records_by}
use Rattle.recovery_laws.specs.run_model.World.{Act, DiskCounts, File, Node, Settlement, Sound, Tables, World, acted, find_file, find_node, opened, state_of}
use Rattle.recovery_laws.specs.run_model.Answers.{refused_before_reading, service, way_of}
use Rattle.recovery_laws.specs.run_model.Transcript.{AreOpening, Entry, Legal, Turn}
use Rattle.recovery_laws.specs.world_laws.Running.{AllFound}
use Rattle.run_laws.specs.run_agreement.Laws.{IsReplaced}
use Rattle.run_laws.specs.Promises.{AbortsStand, settlements_of}
use Rattle.run_chains.specs.Reopenings.{IsReopened}
use Rattle.recovery_laws.specs.Gaps.{IsGapless}
use Rattle.recovery_runs.specs.LastImages.{LastImagesStand}
use Rattle.recovery_laws.specs.Led.{IsTold}
use Rattle.recovery_laws.specs.Loading.{HasNoGap}
use Rattle.recovery_laws.specs.Recovering.{IsRecovered}

-- whether its node committed a branch
abbrev pub committed_in : World → Id → Bool
committed_in w x = list_any (λ (s : Settlement). same_id x s.serial && is_commit s.outcome) (settlements_of x.node w)

-- These branches may commit in a run that ends in this world: each that it commits, and none of which a fall cut the abort short.
pub record MayOnly (may : Id → Bool) (opening : World) (es : List Entry) (closing : World) : Type 0 where
  pub commits : (s : Settlement) → In s (settlements_of s.serial.node closing) → s.outcome ≡ Commit → may s.serial ≡ true
  pub aborts : (later after before : List Entry) (w : World) (node : List ℕ) (n : Node) (k : BranchKey) (reason : Reason) (r : Option LogRecord) (moment : ℕ) → es ≡ later ++ (after ++ before) → Legal opening before w → Legal w after closing →
      find_node node w.nodes ≡ Some n → n.under_way ≡ Some (Tables (Settles k Abort reason r) moment) → may k.serial ≡ false

-- Where aborts stand, those that the run commits are such.
abbrev pub CommittedOnly : Type 0
CommittedOnly = (nodes : List Node) (disks : List DiskCounts) (es : List Entry) (closing : World) → AreOpening nodes → Legal (opened nodes disks) es closing → AbortsStand (opened nodes disks) es → MayOnly (committed_in closing) (opened nodes disks) es closing

-- A file has no gap, neither as it stands nor as it was committed; and each recovery that its journals and its save reach is to give records without one.
pub record HasNoGaps (f : File) : Type 0 where
  pub gapless : IsGapless f.organization f.history
  pub given : GivesMaps (HasNoGap f.organization) (state_of f)

-- A node of this name stood there at the opening, and none of these entries replaces what its disk had: an INIT of it that succeeds, or that a failure ends.
abbrev pub StandsAt : List ℕ → List Entry → World → Node → Type 0
StandsAt node es opening n = (find_node node opening.nodes ≡ Some n) × (IsReplaced node es → ⊥)

-- Each file that a run with these entries finds, on a disk of which none of them replaces what it had, has no gap; or neither it nor what its recoveries are to give has one.
abbrev pub AreGapless : World → List Entry → Type 0
AreGapless opening es = (node : List ℕ) (n : Node) → StandsAt node es opening n → AllFound (λ file f. IsGapless f.organization f.history) n.durable.directory

abbrev pub AreWhole : World → List Entry → Type 0
AreWhole opening es = (node : List ℕ) (n : Node) → StandsAt node es opening n → AllFound (λ file f. HasNoGaps f) n.durable.directory

-- Then no file has a gap in any world of the run, neither as it stands nor as it was committed, over all falls, restarts and aborts that are cut short; nothing is said of
-- a disk whose INIT failed.
abbrev pub NoFileHasGaps : Type 0
NoFileHasGaps = (nodes : List Node) (disks : List DiskCounts) (es : List Entry) (w : World) → AreOpening nodes → AreGapless (opened nodes disks) es → Legal (opened nodes disks) es w → (node : List ℕ) (n : Node) → find_node node w.nodes ≡ Some n → n.unmade ≡ false →
    AllFound (λ file f. IsGapless f.organization f.history) n.durable.directory

-- Each file that a run with these entries finds, on a disk of which none of them replaces what it had, agrees with its journals and its save, and with the branches that may commit: of
-- unsettled ones these may yet commit, and a branch that may commit in the run is one of them, or had changed nothing in the file before.
abbrev pub AreLawful : (may waits : Id → Bool) → World → List Entry → Type 0
AreLawful may waits opening es = (node : List ℕ) (n : Node) → StandsAt node es opening n → AllFound (λ file f. IsOpening waits n.durable.greatest (state_of f) × MayCommit may waits (state_of f)) n.durable.directory

-- So recovery can tell of each file in each world of the run, but on a disk whose INIT failed.
abbrev pub FilesStayTold : Type 0
FilesStayTold = (nodes : List Node) (disks : List DiskCounts) (later after es : List Entry) (w closing : World) (may waits : Id → Bool) → AreOpening nodes → AreLawful may waits (opened nodes disks) es → MayOnly may (opened nodes disks) (later ++ (after ++ es)) closing →
    Legal (opened nodes disks) es w → Legal w after closing → (node : List ℕ) (n : Node) → find_node node w.nodes ≡ Some n → n.unmade ≡ false → AllFound (λ file f. IsTold may waits n.durable.greatest f) n.durable.directory

-- And where no file that the run finds has a gap, nor what its recoveries are to give, so it is there.
abbrev pub FilesStayWhole : Type 0
FilesStayWhole = (nodes : List Node) (disks : List DiskCounts) (later after es : List Entry) (w closing : World) (may waits : Id → Bool) → AreOpening nodes → AreLawful may waits (opened nodes disks) es → AreWhole (opened nodes disks) es →
    MayOnly may (opened nodes disks) (later ++ (after ++ es)) closing → Legal (opened nodes disks) es w → Legal w after closing → (node : List ℕ) (n : Node) → find_node node w.nodes ≡ Some n → n.unmade ≡ false → AllFound (λ file f. HasNoGaps f) n.durable.directory

-- So each recovery that nothing refuses gives the records of its moment.
abbrev pub RecoveriesHold : Type 0
RecoveriesHold = (nodes : List Node) (disks : List DiskCounts) (later after es : List Entry) (w closing : World) (may waits : Id → Bool) → AreOpening nodes → AreLawful may waits (opened nodes disks) es → MayOnly may (opened nodes disks) (later ++ (after ++ es)) closing →
    Legal (opened nodes disks) es w → Legal w after closing → (node : List ℕ) (n : Node) → find_node node w.nodes ≡ Some n → n.up ≡ true → (file : List ℕ) (way : Recovery) (f : File) → find_file file n.durable.directory ≡ Some f →
    refused_before_reading w.shared n (service (Recover file way)) ≡ None → IsRecovered w.shared n file way f

-- And what the run leaves is what the next run may find, as far as recovery asks, with those branches that may yet commit then.
abbrev pub LeftFilesHold : Type 0
LeftFilesHold = (nodes : List Node) (disks : List DiskCounts) (es : List Entry) (closing : World) (may waits next : Id → Bool) → AreOpening nodes → AreLawful may waits (opened nodes disks) es → MayOnly may (opened nodes disks) es closing → Legal (opened nodes disks) es closing →
    ((x : Id) → next x ≡ true → may x ≡ true) → (node : List ℕ) (n : Node) → find_node node closing.nodes ≡ Some n → n.unmade ≡ false → AllFound (λ file f. IsOpening next n.durable.greatest (as_found n.durable.greatest (state_of f))) n.durable.directory

-- A recovery that a line shows to have succeeded: the file was there in the world before it; in the one behind it the file has just the records of the moment; and
-- their number was shown.
pub record HasRecovered (w v : World) (node file : List ℕ) (way : Recovery) (count : ℕ) : Type 0 where
  pub before : Node
  pub found : find_node node w.nodes ≡ Some before
  pub old : File
  pub was_there : find_file file before.durable.directory ≡ Some old
  pub after : Node
  pub stands : find_node node v.nodes ≡ Some after
  pub new : File
  pub is_there : find_file file after.durable.directory ≡ Some new
  pub gives : current new.history ≡ records_by (way_of way) (state_of old)
  pub counted : count ≡ length (entries (current new.history))

-- So it is of each in a transcript, from a world before it that its statement leads to this one.
abbrev pub ShownRecoveriesHold : Type 0
ShownRecoveriesHold = (nodes : List Node) (disks : List DiskCounts) (later after es : List Entry) (e : Entry) (v closing : World) (may waits : Id → Bool) (node file : List ℕ) (way : Recovery) (count : ℕ) → AreOpening nodes → AreLawful may waits (opened nodes disks) (after ++ e ∷ es) →
    AreWhole (opened nodes disks) (after ++ e ∷ es) → MayOnly may (opened nodes disks) (later ++ (after ++ e ∷ es)) closing → reading e.source.text ≡ Says (At node (Recover file way)) → e.lines ≡ NormalCount count ∷ [] → Legal (opened nodes disks) (e ∷ es) v → Legal v after closing →
    (w : World) × Legal (opened nodes disks) es w × Turn w (reading e.source.text) e.lines v × HasRecovered w v node file way count

-- What an act that is under way at the end commits may commit too.
abbrev pub EndMay : (may : Id → Bool) → World → Type 0
EndMay may closing = (node : List ℕ) (n : Node) (act : Act) (s : Settlement) → find_node node closing.nodes ≡ Some n → n.under_way ≡ Some act → In s (acted act n).settled → s.outcome ≡ Commit → may s.serial ≡ true

-- So the files agree again that the next run finds on a disk, whatever turned out of an act that was under way: it took place, it did not, or a part of an abort did.
abbrev pub NextFilesHold : Type 0
NextFilesHold = (nodes : List Node) (disks : List DiskCounts) (es : List Entry) (closing : World) (may waits next : Id → Bool) → AreOpening nodes → AreLawful may waits (opened nodes disks) es → MayOnly may (opened nodes disks) es closing → EndMay may closing →
    Legal (opened nodes disks) es closing → ((x : Id) → next x ≡ true → may x ≡ true) → (node : List ℕ) (n m : Node) → find_node node closing.nodes ≡ Some n → n.durable.volume ≡ Sound → IsReopened n m →
    AllFound (λ file f. IsOpening next m.durable.greatest (state_of f)) m.durable.directory

-- And neither they nor what their recoveries are to give have a gap.
abbrev pub NextFilesWhole : Type 0
NextFilesWhole = (nodes : List Node) (disks : List DiskCounts) (es : List Entry) (closing : World) (may waits : Id → Bool) → AreOpening nodes → AreLawful may waits (opened nodes disks) es → AreWhole (opened nodes disks) es → MayOnly may (opened nodes disks) es closing →
    EndMay may closing → Legal (opened nodes disks) es closing → (node : List ℕ) (n m : Node) → find_node node closing.nodes ≡ Some n → n.durable.volume ≡ Sound → IsReopened n m → AllFound (λ file f. HasNoGaps f) m.durable.directory

-- Last after images.

-- In each file that a run with these entries finds, on a disk of which none of them replaces what it had, the last after images of these branches are the values that stand.
abbrev pub AreStanding : (waits : Id → Bool) → World → List Entry → Type 0
AreStanding waits opening es = (node : List ℕ) (n : Node) → StandsAt node es opening n → AllFound (λ file f. LastImagesStand waits (state_of f)) n.durable.directory

-- Then so are those of the branches that may commit, in each file in each world of the run.
abbrev pub LastImagesHold : Type 0
LastImagesHold = (nodes : List Node) (disks : List DiskCounts) (later after es : List Entry) (w closing : World) (may waits : Id → Bool) → AreOpening nodes → AreLawful may waits (opened nodes disks) es → AreStanding waits (opened nodes disks) es →
    MayOnly may (opened nodes disks) (later ++ (after ++ es)) closing → Legal (opened nodes disks) es w → Legal w after closing → (node : List ℕ) (n : Node) → find_node node w.nodes ≡ Some n → n.unmade ≡ false →
    AllFound (λ file f. LastImagesStand may (state_of f)) n.durable.directory

-- And in each that the next run finds, those of the branches that may yet commit then, whatever turned out of an act that was under way.
abbrev pub NextLastImagesHold : Type 0
NextLastImagesHold = (nodes : List Node) (disks : List DiskCounts) (es : List Entry) (closing : World) (may waits next : Id → Bool) → AreOpening nodes → AreLawful may waits (opened nodes disks) es → AreStanding waits (opened nodes disks) es →
    MayOnly may (opened nodes disks) es closing → Legal (opened nodes disks) es closing → ((x : Id) → next x ≡ true → may x ≡ true) → (node : List ℕ) (n m : Node) → find_node node closing.nodes ≡ Some n → n.durable.volume ≡ Sound → IsReopened n m →
    AllFound (λ file f. LastImagesStand next (state_of f)) m.durable.directory
