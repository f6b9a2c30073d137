-- No branch is prepared, leaves as read-only or is committed while the reply of a resource manager is missing that has joined it.
use Rattle.std.specs.Prelude.{◌≡◌, ◌⊎◌, ℕ, List, ◌∷◌, ◌++◌, true, false}
use Rattle.vms_model.specs.Ids.{Id}
use Rattle.world_laws.specs.transcript_model.Lines as line
use Rattle.world_laws.specs.transcript_model.Lines.{Line, Cause}
use Rattle.world_laws.specs.script_model.Statements.{At, AckEvent, JoinRm, Named, Reading}
use Rattle.commit_protocol.specs.Allowed.{answers}
use Rattle.commit_protocol.specs.Messages.{ForgetReply, OnePhaseEvent, PrepareEvent, Reply}
use Rattle.commit_protocol.specs.Rows.{is_veto}
use Rattle.world_laws.specs.run_model.World.{World}
use Rattle.world_laws.specs.run_model.Transcript.{Entry, InAllRuns}
use Rattle.run_laws.specs.Causes.{Names}
use Rattle.run_laws.specs.Naming.{IsNamed}
use Rattle.run_laws.specs.Promises.{ShownThere, WasLast}
use Rattle.run_laws.specs.SaidLaws.{SaidThere}

-- a reply was taken: it was answered with its success, or a failure of the disk ended what came of it
abbrev pub IsTaken : Line → Type 0
IsTaken answer = (answer ≡ line.Normal) ⊎ ((cause : Cause) × (answer ≡ line.Broken cause))

-- a reply is one that the event PREPARE may have, or ONEPHASE
abbrev pub AnswersAsking : Reply → Type 0
AnswersAsking reply = (answers PrepareEvent reply ≡ true) ⊎ (answers OnePhaseEvent reply ≡ true)

-- In these entries, which stand behind the earlier ones, a resource manager replied so for a branch, and not with a veto: by an ACK_EVENT with a label of the branch
-- or with its serial.
abbrev pub HasReplied : (since earlier : List Entry) → (tid serial : Id) → (rm : List ℕ) → Type 0
HasReplied since earlier tid serial rm = (before : List Entry) × (who : Named) × (reply : Reply) × (events : List Line) × (answer : Line) ×
    SaidThere since before (At serial.node (AckEvent who rm reply)) events answer × Names (before ++ earlier) who tid serial × AnswersAsking reply × (is_veto reply ≡ false) × IsTaken answer

-- A line that shows that a branch is prepared, has left as read-only, or is committed; or, by a boot, that it is committed, which its disk did not have as its last
-- settlement before the first line, or had no more once an INIT had made its volume anew.
abbrev pub Decides : World → List Entry → Line → (tid serial : Id) → Type 0
Decides opening before this tid serial =
    (this ≡ line.Prepared tid serial)
    ⊎ (this ≡ line.ReadOnly tid serial)
    ⊎ ((moment : ℕ) × (this ≡ line.Committed tid serial moment))
    ⊎ ((moment : ℕ) × (this ≡ line.LastCommitted tid serial moment) × (WasLast serial.node this opening before → ⊥))

-- Where such a line is shown, each resource manager that joined the branch before, by a JOIN_RM which succeeded, has given since a reply that PREPARE or ONEPHASE may have, and no veto.
abbrev pub RepliesComeFirst : World → List Entry → Type 0
RepliesComeFirst opening es = (before : List Entry) (said : Reading) (front behind : List Line) (this : Line) (tid serial : Id) → (there : ShownThere es before said front this behind) → Decides opening before this tid serial →
    (earlier : List Entry) (label rm : List ℕ) (events : List Line) → (join : SaidThere before earlier (At serial.node (JoinRm label rm)) events line.Normal) → IsNamed earlier serial.node label tid serial →
    HasReplied (there.entry ∷ join.after) (join.entry ∷ earlier) tid serial rm

-- in these entries a resource manager replied FORGET for a branch, likewise
abbrev pub HasForgotten : (since earlier : List Entry) → (tid serial : Id) → (rm : List ℕ) → Type 0
HasForgotten since earlier tid serial rm = (before : List Entry) × (who : Named) × (events : List Line) × (answer : Line) ×
    SaidThere since before (At serial.node (AckEvent who rm ForgetReply)) events answer × Names (before ++ earlier) who tid serial × IsTaken answer

-- Where a branch leaves as read-only, each resource manager that joined it before has replied FORGET since: one that replied that it is prepared is owed the outcome.
abbrev pub LeavesForget : List Entry → Type 0
LeavesForget es = (before : List Entry) (said : Reading) (front behind : List Line) (tid serial : Id) → (there : ShownThere es before said front (line.ReadOnly tid serial) behind) →
    (earlier : List Entry) (label rm : List ℕ) (events : List Line) → (join : SaidThere before earlier (At serial.node (JoinRm label rm)) events line.Normal) → IsNamed earlier serial.node label tid serial →
    HasForgotten (there.entry ∷ join.after) (join.entry ∷ earlier) tid serial rm

abbrev pub LeavesHold : Type 0
LeavesHold = InAllRuns (λ opening es closing. LeavesForget es)

abbrev pub RepliesHold : Type 0
RepliesHold = InAllRuns (λ opening es closing. RepliesComeFirst opening es)
