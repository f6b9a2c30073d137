-- What a recovery is answered in any run: it succeeds, or is refused for the cause that its line names, or memory is missing, or its disk fails.
use Rattle.std.specs.Prelude.{◌≡◌, ◌<◌, ◌*◌, ℕ, List, [], ◌∷◌, true, false, Option, Some, None}
use Rattle.vms_model.specs.Ids.{Id}
use Rattle.transcript_model.specs.Lines as line
use Rattle.transcript_model.specs.Lines.{Cause, Line}
use Rattle.script_model.specs.Statements.{Backward, Forward, Recovery}
use Rattle.records_model.specs.History.{changed_it}
use Rattle.recovery_model.specs.File.{ImageJournal, Save}
use Rattle.recovery_laws.specs.run_model.World.{File, Node, World, buckets_loaded, find_file, find_node, longest_free}
use Rattle.recovery_laws.specs.run_model.Answers.{records_recovered}
use Rattle.recovery_laws.specs.run_model.Statements.{RoseAt}

-- the journal that a recovery reads: forward that of after images, backward that of before images
abbrev pub journal_read : Recovery → File → ImageJournal
journal_read (Forward until) f = f.carried.after
journal_read (Backward until) f = f.carried.before

-- Why a file refuses its recovery, and the line that says so, with its numbers: it has no such journal; forward, no save; an unsettled branch changed it; forward, the
-- moment is before the save's, or the journal begins behind the save's position; backward, the journal tells only since a later moment; or the longest run of free
-- blocks is too short for the buckets that the records take.
pub data FileRefuses (n : Node) (way : Recovery) (f : File) (answer : Line) : Type 0 where
  NoJournal : (journal_read way f).on ≡ false → answer ≡ line.NoJournal → FileRefuses n way f answer
  NoSave : (until : Option ℕ) → way ≡ Forward until → f.carried.save ≡ None → answer ≡ line.NoSave → FileRefuses n way f answer
  InUse : (serial : Id) → changed_it f.history serial ≡ true → answer ≡ line.FileLocked serial → FileRefuses n way f answer
  TooEarly : (until : ℕ) (v : Save) → way ≡ Forward (Some until) → f.carried.save ≡ Some v → until < v.moment → answer ≡ line.TooEarly until v.moment → FileRefuses n way f answer
  PositionsMissing : (until : Option ℕ) (v : Save) → way ≡ Forward until → f.carried.save ≡ Some v → v.position < f.carried.after.first → answer ≡ line.PositionsMissing v.position f.carried.after.first → FileRefuses n way f answer
  MomentsMissing : (until : ℕ) → way ≡ Backward until → until < f.carried.since → answer ≡ line.MomentsMissing until f.carried.since → FileRefuses n way f answer
  Full : longest_free n < buckets_loaded f (records_recovered way f) * f.bucket → answer ≡ line.VolumeFull (longest_free n) (buckets_loaded f (records_recovered way f) * f.bucket) → FileRefuses n way f answer

-- Why a recovery is refused in this world: there is no such node, it is down, it has no such file, or the file refuses it.
pub data Refuses (w : World) (node file : List ℕ) (way : Recovery) (answer : Line) : Type 0 where
  NodeMissing : find_node node w.nodes ≡ None → answer ≡ line.NoSuchNode → Refuses w node file way answer
  NodeDown : (n : Node) → find_node node w.nodes ≡ Some n → n.up ≡ false → answer ≡ line.NodeDown → Refuses w node file way answer
  FileMissing : (n : Node) → find_node node w.nodes ≡ Some n → n.up ≡ true → find_file file n.durable.directory ≡ None → answer ≡ line.FileNotFound → Refuses w node file way answer
  ByFile : (n : Node) (f : File) → find_node node w.nodes ≡ Some n → n.up ≡ true → find_file file n.durable.directory ≡ Some f → FileRefuses n way f answer → Refuses w node file way answer

-- What its lines are, between these worlds: a success; one refusal, or that memory is missing, which leave the nodes and what they share as they were; or
-- a failure of the node's disk, whose count rose.
pub data IsAnswered (w v : World) (node file : List ℕ) (way : Recovery) (lines : List Line) : Type 0 where
  Done : (count : ℕ) → lines ≡ line.NormalCount count ∷ [] → IsAnswered w v node file way lines
  Refused : (answer : Line) → lines ≡ answer ∷ [] → Refuses w node file way answer → (v.nodes ≡ w.nodes) × (v.shared ≡ w.shared) → IsAnswered w v node file way lines
  NoMemory : lines ≡ line.NoMemory ∷ [] → (v.nodes ≡ w.nodes) × (v.shared ≡ w.shared) → IsAnswered w v node file way lines
  Broken : (cause : Cause) → lines ≡ line.Down node cause ∷ line.Broken cause ∷ [] → RoseAt w node cause v.disks → IsAnswered w v node file way lines
