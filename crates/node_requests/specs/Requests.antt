-- What a request to a node that is up comes to.
use Rattle.std.specs.Prelude.{◌≡◌, ◌≤◌, ◌<◌, ◌+◌, ◌^◌, ℕ, max, List, [], ◌∷◌, ◌++◌, Bool, true, false, Some, None, Result, Ok, Err, OnErr, OnOk, MatchResult, if◌then◌else◌}
use Rattle.std.specs.List.{AllByRecursion}
use Rattle.vms_model.specs.Limits.{branch_limit, moment_ceiling}
use Rattle.careful_write.specs.declared.down.Down.{Down}
use Rattle.emitter_model.specs.commit_protocol.Table.{Branch, Tm}
use Rattle.emitter_model.specs.Emitting.{Emits, Shown, Since}
use Rattle.emitter_model.specs.transcript_model.Lines as line
use Rattle.emitter_model.specs.transcript_model.Lines.{Line}
use Rattle.script_lang.specs.script_model.Statements.{AbortTrans, AckEvent, AddBranch, Boot, Clock, Crash, DeclareRm, EndBranch, EndTrans, ForgetRm, Fuse, GetDti, Init, Inquire, JoinRm, LmcpDump, LmcpShow, Recover, Request, StartBranch, StartTrans}
use Rattle.vms_model.specs.Ids.{Id}
use Rattle.unit_table.specs.Units.{OpenUnit}
use Rattle.file_requests.specs.said_steps.Answers.{is_served, may_answer}
use Rattle.file_requests.specs.run_said.Said.{Said, SaidNode, line_said, lines_said, refused_by_lines, request_said}
use Rattle.world_laws.specs.run_model.Answers.{Service, service, touches}
use Rattle.world_laws.specs.run_model.World.{Node, Shared, with_changed}
use Rattle.run_shared.specs.Sharing.{IsShared, SharedState}
use Rattle.world_laws.specs.Nodes.{IsKeptNode}
use Rattle.node_table.specs.recovery_units.State.{has_changed_by}
use Rattle.node_table.specs.recovery_units.Uses.{Caused, DiskAdvances, down_of}
use Rattle.file_requests.specs.node_standing.Moments.{CanTell}
use Rattle.file_requests.specs.declared.recovery.Reply.{Reply}
use Rattle.file_requests.specs.declared.recovery.Reply.TheVariants.{Told, NoMemory}
use Rattle.node_table.specs.Growing.{end_to_come, moment_to_come}
use Rattle.node_table.specs.Serving.{DoesService, service_at}
use Rattle.node_table.specs.Standing.{IsUp, Up, UpRepresents}
use Rattle.node_table.specs.Telling.{IsOfWork}
use Rattle.file_requests.specs.node_standing.Standing.{disk_of}
use Rattle.file_requests.specs.node_standing.Telling.{said_shared}

-- what is asked of a node that is up before a request: numbers that only grow are far from their ends
pub record MayServe (clock : ℕ) (r : Up) : Type 0 where
  pub up : IsUp r
  pub moment : moment_to_come r.stored + 1 ≤ moment_ceiling
  pub low : end_to_come r.stored + 2 ^ 25 ≤ 2 ^ 62
  pub drawn : r.drawn < 4294967295
  pub time : clock + branch_limit ≤ moment_ceiling

-- such numbers have grown by one statement: the greatest moment with the settlements to come, and the journal's end with the groups to come
pub record HasMoved (clock : ℕ) (old new : Up) : Type 0 where
  pub moment : moment_to_come new.stored ≤ max (moment_to_come old.stored + 1) (clock + branch_limit)
  pub end : end_to_come new.stored ≤ end_to_come old.stored + 2 ^ 25

-- What is kept in order over a request, whatever the disk has.
pub record KeepsRequest {T : Type 0} (r : Result T Down) (clock : ℕ) (old new : Up) (a b : Shown) : Type 0 where
  pub up : OnOk r (IsUp new)
  pub goes : DiskAdvances (disk_of old) (disk_of new)
  pub cause : Caused (down_of r) (disk_of old) (disk_of new)
  pub pool : new.stored.volume.store.pool ≡ old.stored.volume.store.pool
  pub node : new.stored.volume.catalog.home.node ≡ old.stored.volume.catalog.home.node
  pub boot : new.stored.volume.catalog.home.boot ≡ old.stored.volume.catalog.home.boot
  pub drawn : (old.drawn ≤ new.drawn) × (new.drawn ≤ old.drawn + 1)
  pub moved : OnOk r (HasMoved clock old new)
  pub since : Since a b

-- what was said of the node of a name, which is up, and of what nodes share
abbrev pub node_up : List ℕ → SaidNode
node_up name = record { name = name; up = true; unmade = false }

abbrev pub said_up : List ℕ → SharedState → Said
said_up name s = record { nodes = node_up name ∷ []; shared = said_shared s }

-- What is shown of a request: lines of the node's work and an answer, or such lines alone where the disk went down. They say what is shared then; and what was said
-- before refuses it just where they show that refusal.
pub record SaysRequest {T : Type 0} (r : Result T Down) (name : List ℕ) (request : Request) (before after : SharedState) (a b : Shown) : Type 0 where
  pub lines : List Line
  pub answer : Line
  pub emits : MatchResult r (λ _. Emits a (lines ++ answer ∷ []) b) (λ _. Emits a lines b)
  pub work : AllByRecursion IsOfWork lines
  pub still : (said : Said) → line_said answer said ≡ said
  pub refused : (refusal : Line) → refused_by_lines (said_shared before) (node_up name) request ≡ Some refusal → MatchResult r (λ _. (lines ≡ []) × (answer ≡ refusal)) (λ _. ⊥)
  pub others : refused_by_lines (said_shared before) (node_up name) request ≡ None → OnOk r (is_served answer ≡ true)
  pub says : MatchResult r (λ _. request_said name request answer (lines_said lines (said_up name before)) ≡ said_up name after) (λ _. lines_said lines (said_up name before) ≡ said_up name after)

-- At each node of the world that what is kept stands for, its service was done.
abbrev pub ServesUp : {T : Type 0} → Result T Down → Service → (clock : ℕ) → (old new : Up) → (before after : SharedState) → (a b : Shown) → Type 0
ServesUp r e clock old new before after a b = (s : Shared) (n : Node) → UpRepresents clock old n → IsShared before s → IsKeptNode s n →
    DoesService r (service_at e s n) s n a b (UpRepresents clock new n × IsShared after s) (IsShared after) (UpRepresents clock new) (disk_of new)

-- All three of a request. The disk goes down in none that uses no disk, and is left as it was where what was said before refuses the request.
pub record DoesRequest {T : Type 0} (r : Result T Down) (request : Request) (clock : ℕ) (old new : Up) (before after : SharedState) (a b : Shown) : Type 0 where
  pub keeps : KeepsRequest r clock old new a b
  pub uses : OnErr r (touches (service request) ≡ true)
  pub leaves : (refusal : Line) → refused_by_lines (said_shared before) (node_up old.stored.volume.catalog.home.node) request ≡ Some refusal → disk_of new ≡ disk_of old
  pub says : SaysRequest r old.stored.volume.catalog.home.node request before after a b
  pub serves : ServesUp r (service request) clock old new before after a b

-- Memory was missing for a request, which is not told yet: at no node of the world is it refused before the disk is read, and all is as it was but for reads.
pub record LacksMemory (request : Request) (clock : ℕ) (old new : Up) (before after : SharedState) (a b : Shown) : Type 0 where
  pub keeps : KeepsRequest {T = Unit {0}} (Ok tt) clock old new a b
  pub shared : after ≡ before
  pub shown : b ≡ a
  pub unrefused : refused_by_lines (said_shared before) (node_up old.stored.volume.catalog.home.node) request ≡ None
  pub still : (said : Said) → request_said old.stored.volume.catalog.home.node request line.NoMemory said ≡ said
  pub takes : (n : Node) → (service request).takes_memory n ≡ true
  pub may : may_answer request line.NoMemory ≡ true
  pub serves : (s : Shared) (n : Node) → UpRepresents clock old n → IsShared before s → IsKeptNode s n → ((service_at (service request) s n).early ≡ None) × UpRepresents clock new n × IsShared after s

-- The request was answered, or the disk went down; or memory was missing for it.
abbrev pub AnswersRequest : Result Reply Down → Request → (clock : ℕ) → (old new : Up) → (before after : SharedState) → (a b : Shown) → Type 0
AnswersRequest (Ok Told) request clock old new before after a b = DoesRequest {T = Unit {0}} (Ok tt) request clock old new before after a b
AnswersRequest (Ok NoMemory) request clock old new before after a b = LacksMemory request clock old new before after a b
AnswersRequest (Err down) request clock old new before after a b = DoesRequest {T = Unit {0}} (Err down) request clock old new before after a b

-- a request that a node has to be up for, and that is answered there
abbrev pub IsForUp : Request → Type 0
IsForUp (Init slots journal) = ⊥
IsForUp Boot = ⊥
IsForUp (Fuse writes choice) = ⊥
IsForUp Crash = ⊥
IsForUp (Clock now) = ⊥
IsForUp request = Unit {0}

-- one that takes no memory but what a node has reserved
abbrev pub IsReserved : Request → Type 0
IsReserved (Init slots journal) = ⊥
IsReserved Boot = ⊥
IsReserved (Fuse writes choice) = ⊥
IsReserved Crash = ⊥
IsReserved (Clock now) = ⊥
IsReserved (Recover file way) = ⊥
IsReserved request = Unit {0}

-- one on a transaction, on a resource manager, on how a branch stands, or on the transaction log
abbrev pub IsOfTransaction : Request → Type 0
IsOfTransaction (StartTrans label seconds) = Unit {0}
IsOfTransaction (AddBranch label other new) = Unit {0}
IsOfTransaction (StartBranch label) = Unit {0}
IsOfTransaction (EndBranch label) = Unit {0}
IsOfTransaction (EndTrans label) = Unit {0}
IsOfTransaction (AbortTrans label) = Unit {0}
IsOfTransaction (Inquire who) = Unit {0}
IsOfTransaction (DeclareRm rm) = Unit {0}
IsOfTransaction (JoinRm label rm) = Unit {0}
IsOfTransaction (AckEvent who rm reply) = Unit {0}
IsOfTransaction (ForgetRm rm) = Unit {0}
IsOfTransaction (GetDti who) = Unit {0}
IsOfTransaction LmcpShow = Unit {0}
IsOfTransaction LmcpDump = Unit {0}
IsOfTransaction request = ⊥

-- one of these but on a transaction
abbrev pub IsOfManager : Request → Type 0
IsOfManager (DeclareRm rm) = Unit {0}
IsOfManager (JoinRm label rm) = Unit {0}
IsOfManager (AckEvent who rm reply) = Unit {0}
IsOfManager (ForgetRm rm) = Unit {0}
IsOfManager (GetDti who) = Unit {0}
IsOfManager LmcpShow = Unit {0}
IsOfManager LmcpDump = Unit {0}
IsOfManager request = ⊥

-- branches of which that of a serial is noted to have changed something, where its unit has; and a table with these
abbrev pub with_noted : Id → List OpenUnit → List Branch → List Branch
with_noted serial us bs = if has_changed_by serial us then with_changed serial bs else bs

abbrev pub noted : Id → List OpenUnit → Tm → Tm
noted serial us tm = record tm { table = with_noted serial us tm.table }
