-- Requests: what a node has to spare for them, which of them tell its table an event, and how they are served.
use Rattle.std.specs.Prelude.{◌≡◌, ℕ, ◌+◌, ◌*◌, ◌^◌, ◌<◌, ◌≤◌, List, [], ◌∷◌, ◌++◌, map}
use Rattle.vms_model.specs.Times.{CanBeWritten}
use Rattle.script_lang.specs.script_model.Statements as said
use Rattle.reference_index.specs.run_model.Answers.{Service}
use Rattle.reference_index.specs.run_model.Steps.{Whole, service_effect}
use Rattle.reference_index.specs.run_model.World as world
use Rattle.reference_index.specs.run_model.World.{Node, Shared}
use Rattle.reference_world.specs.Standing.{line_of}
use Rattle.reference_world.specs.declared.line.Line.{Line}
use Rattle.script_lang.specs.declared.statement.Request.{Request}
use Rattle.script_lang.specs.declared.statement.Request.TheVariants as request
use Rattle.reference_node.specs.Telling.{HasTime}

-- the request tells the table of its node an event
abbrev pub TellsTable : Request → Type 0
TellsTable (request.Records label file operation) = ⊥
TellsTable (request.Direct file operation) = ⊥
TellsTable (request.Init slots blocks) = ⊥
TellsTable request.Boot = ⊥
TellsTable (request.Create file bucket size form) = ⊥
TellsTable (request.SetFile file setting) = ⊥
TellsTable (request.StartTrans label seconds) = Unit {0}
TellsTable (request.AddBranch label other new) = Unit {0}
TellsTable (request.StartBranch label) = Unit {0}
TellsTable (request.EndBranch label) = Unit {0}
TellsTable (request.EndTrans label) = Unit {0}
TellsTable (request.AbortTrans label) = Unit {0}
TellsTable (request.Inquire who) = Unit {0}
TellsTable (request.DeclareRm rm) = ⊥
TellsTable (request.JoinRm label rm) = Unit {0}
TellsTable (request.AckEvent who rm reply) = Unit {0}
TellsTable (request.ForgetRm rm) = ⊥
TellsTable (request.GetDti who) = ⊥
TellsTable request.LmcpShow = ⊥
TellsTable request.LmcpDump = ⊥
TellsTable (request.Dump file) = ⊥
TellsTable request.DumpJournal = ⊥
TellsTable (request.DumpImages file side) = ⊥
TellsTable (request.Backup file) = ⊥
TellsTable (request.Recover file way) = ⊥
TellsTable (request.Fuse writes choice) = ⊥
TellsTable request.Crash = ⊥
TellsTable (request.Clock now) = ⊥

-- a request that tells the table an event, or boots the node
abbrev pub RestsNot : Request → Type 0
RestsNot (request.Records label file operation) = ⊥
RestsNot (request.Direct file operation) = ⊥
RestsNot (request.Init slots blocks) = ⊥
RestsNot request.Boot = Unit {0}
RestsNot (request.Create file bucket size form) = ⊥
RestsNot (request.SetFile file setting) = ⊥
RestsNot (request.StartTrans label seconds) = Unit {0}
RestsNot (request.AddBranch label other new) = Unit {0}
RestsNot (request.StartBranch label) = Unit {0}
RestsNot (request.EndBranch label) = Unit {0}
RestsNot (request.EndTrans label) = Unit {0}
RestsNot (request.AbortTrans label) = Unit {0}
RestsNot (request.Inquire who) = Unit {0}
RestsNot (request.DeclareRm rm) = ⊥
RestsNot (request.JoinRm label rm) = Unit {0}
RestsNot (request.AckEvent who rm reply) = Unit {0}
RestsNot (request.ForgetRm rm) = ⊥
RestsNot (request.GetDti who) = ⊥
RestsNot request.LmcpShow = ⊥
RestsNot request.LmcpDump = ⊥
RestsNot (request.Dump file) = ⊥
RestsNot request.DumpJournal = ⊥
RestsNot (request.DumpImages file side) = ⊥
RestsNot (request.Backup file) = ⊥
RestsNot (request.Recover file way) = ⊥
RestsNot (request.Fuse writes choice) = ⊥
RestsNot request.Crash = ⊥
RestsNot (request.Clock now) = ⊥

-- A node has so many units to spare: with each it may be booted once, draw one id, and settle 2,048 branches or write as many bytes of journal as these take. And its journal has no
-- more blocks than a volume may have.
pub record HasUnits (units : ℕ) (n : Node) : Type 0 where
  pub journal : n.durable.journal ≤ 8192
  pub boot : n.durable.boot + units < 2 ^ 32
  pub drawn : n.volatile.drawn + units < 2 ^ 32
  pub time : HasTime (2048 * units) n

-- A task was served whole, where no act was under way and no disk was stopped: so it shows its lines and its answer, and so the node is then, and what nodes share.
pub record Serves (s : Shared) (n : Node) (e : Service) (shown : List Line) (m : Node) (t : Shared) : Type 0 where
  pub shows : (let x = service_effect s 0 n e (Whole world.Lost) in map line_of shown ≡ x.lines ++ x.answer ∷ [])
  pub node : m ≡ (service_effect s 0 n e (Whole world.Lost)).node
  pub shared : t ≡ (service_effect s 0 n e (Whole world.Lost)).shared

-- a clock is set early enough for so many units
abbrev pub IsSetEarly : ℕ → said.Request → Type 0
IsSetEarly units (said.Clock now) = CanBeWritten (now + 2048 * units)
IsSetEarly units (said.Records label file operation) = Unit {0}
IsSetEarly units (said.Direct file operation) = Unit {0}
IsSetEarly units (said.Init slots blocks) = Unit {0}
IsSetEarly units said.Boot = Unit {0}
IsSetEarly units (said.Create file bucket size form) = Unit {0}
IsSetEarly units (said.SetFile file setting) = Unit {0}
IsSetEarly units (said.StartTrans label seconds) = Unit {0}
IsSetEarly units (said.AddBranch label other new) = Unit {0}
IsSetEarly units (said.StartBranch label) = Unit {0}
IsSetEarly units (said.EndBranch label) = Unit {0}
IsSetEarly units (said.EndTrans label) = Unit {0}
IsSetEarly units (said.AbortTrans label) = Unit {0}
IsSetEarly units (said.Inquire who) = Unit {0}
IsSetEarly units (said.DeclareRm rm) = Unit {0}
IsSetEarly units (said.JoinRm label rm) = Unit {0}
IsSetEarly units (said.AckEvent who rm reply) = Unit {0}
IsSetEarly units (said.ForgetRm rm) = Unit {0}
IsSetEarly units (said.GetDti who) = Unit {0}
IsSetEarly units said.LmcpShow = Unit {0}
IsSetEarly units said.LmcpDump = Unit {0}
IsSetEarly units (said.Dump file) = Unit {0}
IsSetEarly units said.DumpJournal = Unit {0}
IsSetEarly units (said.DumpImages file side) = Unit {0}
IsSetEarly units (said.Backup file) = Unit {0}
IsSetEarly units (said.Recover file way) = Unit {0}
IsSetEarly units (said.Fuse writes choice) = Unit {0}
IsSetEarly units said.Crash = Unit {0}
