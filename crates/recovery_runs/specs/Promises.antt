-- What a run promises of its recoveries.
use Rattle.std.specs.List.{list_any}
use Rattle.std.specs.Prelude.{◌≡◌, ℕ, List, [], ◌∷◌, ◌++◌, Bool, true, false, Some, ◌&&◌}
use Rattle.vms_model.specs.Ids.{Id}
use Rattle.transcript_model.specs.Lines.{NormalCount}
use Rattle.script_model.specs.Grammar.{reading}
use Rattle.script_model.specs.Statements.{At, Recover, Recovery, Says}
use Rattle.transcript_model.specs.commit_protocol.Messages.{LogRecord, same_id}
use Rattle.transcript_model.specs.commit_protocol.Opening.{IsAgreeing, Opening, commits_in, image_at}
use Rattle.recovery_model.specs.Opening.{IsOpening}
use Rattle.recovery_laws.specs.run_model.World.{Node, Sound, World, find_node, state_of}
use Rattle.recovery_laws.specs.run_model.Transcript.{Entry, InAllRuns, Legal, Turn}
use Rattle.recovery_laws.specs.world_laws.Running.{AllFound}
use Rattle.run_laws.specs.run_agreement.Laws.{NamesApart, opening_told}
use Rattle.run_laws.specs.Anew.{AreKnownOrAnew}
use Rattle.run_laws.specs.Promises.{AbortsStand}
use Rattle.run_chains.specs.Reopenings.{IsReopened}
use Rattle.recovery_laws.specs.Gaps.{IsGapless}
use Rattle.recovery_runs.specs.LastImages.{LastImagesStand}
use Rattle.recovery_runs.specs.Runs.{AreGapless, AreLawful, AreStanding, AreWhole, EndMay, HasNoGaps, HasRecovered, MayOnly, StandsAt, committed_in}
use Rattle.recovery_runs.specs.Answered.{IsAnswered}

-- an entry of a transcript asks for a recovery, between those after it and those before it
pub record RecoversThere (es before : List Entry) (node file : List ℕ) (way : Recovery) : Type 0 where
  pub later : List Entry
  pub entry : Entry
  pub stands : es ≡ later ++ entry ∷ before
  pub said : reading entry.source.text ≡ Says (At node (Recover file way))

-- A recovery that shows to have succeeded gave the file just the records of its moment, and showed their number: so it is between a world to which the entries before it
-- lead and one to which its statement leads from there.
abbrev pub RecoveriesGiven : World → List Entry → World → Type 0
RecoveriesGiven opening es closing = (before : List Entry) (node file : List ℕ) (way : Recovery) (count : ℕ) (there : RecoversThere es before node file way) → there.entry.lines ≡ NormalCount count ∷ [] →
    (w : World) × (v : World) × Legal opening before w × Turn w (reading there.entry.source.text) there.entry.lines v × Legal v there.later closing × HasRecovered w v node file way count

-- So it is where each file that the run finds agrees with its journals and its save, and with what the run commits, whichever unsettled branches may yet commit; and where
-- no sequential file that it finds has a gap.
abbrev pub RecoveriesGive : World → List Entry → World → Type 0
RecoveriesGive opening es closing = (waits : Id → Bool) → AreLawful (committed_in closing) waits opening es → AreWhole opening es → RecoveriesGiven opening es closing

-- And so it is where the images agree with which the run begins, and the journals and saves with the files, of which nothing is asked but by these images: of the unsettled
-- branches those may yet commit of whose transaction an image shows a commit. In a sequential file the positions are those from 1 on, of what stands, of what was
-- committed and of what recoveries are to give. Of a disk that an INIT of the run replaces nothing is asked, whether that succeeds or a failure ends it.
abbrev pub may_yet_commit : Opening → Id → Bool
may_yet_commit o x = list_any (λ (r : LogRecord). same_id x r.serial && list_any (same_id r.tid) (commits_in o)) (image_at o x.node).prepared

abbrev pub FilesAgree : World → List Entry → Type 0
FilesAgree opening es = (node : List ℕ) (n : Node) → StandsAt node es opening n → AllFound (λ file f. IsOpening (may_yet_commit (opening_told opening.nodes es)) n.durable.greatest (state_of f) × HasNoGaps f) n.durable.directory

abbrev pub RecoveriesAgree : World → List Entry → World → Type 0
RecoveriesAgree opening es closing = NamesApart opening.nodes → AreKnownOrAnew es opening.nodes → IsAgreeing (opening_told opening.nodes es) → FilesAgree opening es → RecoveriesGiven opening es closing

-- Each recovery succeeds, or is refused for the cause that its line names, or memory is missing, or the disk of its node fails; between two such worlds.
abbrev pub RecoveriesAreAnswered : World → List Entry → Type 0
RecoveriesAreAnswered opening es = (before : List Entry) (node file : List ℕ) (way : Recovery) (there : RecoversThere es before node file way) →
    (w : World) × (v : World) × Legal opening before w × Turn w (reading there.entry.source.text) there.entry.lines v × IsAnswered w v node file way there.entry.lines

-- Let the files that the run finds agree so with the branches that may commit in it or in an act that is under way at its end, and let some of these be all that may yet
-- commit in the next run. Then the files that this one finds agree with their journals and saves again, whatever turned out of such an act: it took place, it did not, or a
-- part of an abort did.
abbrev pub RecoveriesGoOn : World → List Entry → World → Type 0
RecoveriesGoOn opening es closing = (may waits next : Id → Bool) → AreLawful may waits opening es → MayOnly may opening es closing → EndMay may closing → ((x : Id) → next x ≡ true → may x ≡ true) → (node : List ℕ) (n m : Node) →
    find_node node closing.nodes ≡ Some n → n.durable.volume ≡ Sound → IsReopened n m → AllFound (λ file f. IsOpening next m.durable.greatest (state_of f)) m.durable.directory

-- Neither have they a gap, nor what their recoveries are to give, where no file has that the run finds.
abbrev pub GapsStayAway : World → List Entry → World → Type 0
GapsStayAway opening es closing = (may waits : Id → Bool) → AreLawful may waits opening es → AreWhole opening es → MayOnly may opening es closing → EndMay may closing → (node : List ℕ) (n m : Node) →
    find_node node closing.nodes ≡ Some n → n.durable.volume ≡ Sound → IsReopened n m → AllFound (λ file f. HasNoGaps f) m.durable.directory

-- Let besides, in each file that the run finds, the last after images of the branches that may yet commit be the values that stand, over all entries of the journal, with a
-- save or without. Then so are those of the branches that may yet commit in the next run, in each file that this one finds. What recoveries are promised does not rest on it.
abbrev pub LastImagesGoOn : World → List Entry → World → Type 0
LastImagesGoOn opening es closing = (may waits next : Id → Bool) → AreLawful may waits opening es → AreStanding waits opening es → MayOnly may opening es closing → ((x : Id) → next x ≡ true → may x ≡ true) → (node : List ℕ) (n m : Node) →
    find_node node closing.nodes ≡ Some n → n.durable.volume ≡ Sound → IsReopened n m → AllFound (λ file f. LastImagesStand next (state_of f)) m.durable.directory

-- Of the images with which a run begins, it is so of those branches of whose transaction an image shows a commit.
abbrev pub LastImagesAgree : World → List Entry → Type 0
LastImagesAgree opening es = AreStanding (may_yet_commit (opening_told opening.nodes es)) opening es

-- And no sequential file has a gap at the end, neither as it stands nor as it was committed, where none has that the run finds; for nothing else is asked. Nothing is said
-- of a disk whose INIT failed.
abbrev pub FilesHaveNoGaps : World → List Entry → World → Type 0
FilesHaveNoGaps opening es closing = AreGapless opening es → (node : List ℕ) (n : Node) → find_node node closing.nodes ≡ Some n → n.unmade ≡ false → AllFound (λ file f. IsGapless f.organization f.history) n.durable.directory

-- What a run promises: the first where aborts stand that a fall cut short, and besides where the images agree with which it begins.
pub record RecoveryPromises (opening : World) (es : List Entry) (closing : World) : Type 0 where
  pub give : AbortsStand opening es → RecoveriesGive opening es closing
  pub agree : RecoveriesAgree opening es closing
  pub answered : RecoveriesAreAnswered opening es
  pub leaves : RecoveriesGoOn opening es closing
  pub whole : GapsStayAway opening es closing
  pub lasts : LastImagesGoOn opening es closing
  pub gapless : FilesHaveNoGaps opening es closing

-- Each legal transcript keeps that.
abbrev pub RecoveryPromisesHold : Type 0
RecoveryPromisesHold = InAllRuns RecoveryPromises
