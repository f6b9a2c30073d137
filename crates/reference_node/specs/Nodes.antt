-- The node that the code's values stand for, and what nodes share.
use Rattle.std.specs.Prelude.{◌≡◌, ◌++◌, List, [], ◌∷◌, Some, None, map}
use Rattle.vms_model.specs.Ids.{Id}
use Rattle.commit_protocol.specs.Table.{Branch, Key, cut}
use Rattle.world_laws.specs.run_model.Answers.{Service}
use Rattle.world_laws.specs.run_model.Steps.{lines_of_rows, node_after, node_after_rows, shared_then, shared_after_rows}
use Rattle.world_laws.specs.run_model.World as world
use Rattle.world_laws.specs.run_model.Locks.{released}
use Rattle.reference_index.specs.Standing.{locks_of}
use Rattle.reference_world.specs.Standing.{branch_key_of, settlement_of, is_unmade, call_of, line_of}
use Rattle.reference_disk.specs.Disks.{durable_of}
use Rattle.reference_world.specs.declared.line.Line.{Line}
use Rattle.script_lang.specs.declared.statement.Request.{Request}
use Rattle.script_lang.specs.declared.statement.Request.TheVariants as request
use Rattle.reference_node.specs.declared.node.Node.{Node}

-- what a node has while it is up
abbrev pub volatile_of : Node → world.Volatile
volatile_of n = record { drawn = n.drawn; branches = n.table.table; records = n.table.records; preparation = map branch_key_of n.preparation.items; locks = locks_of n.locks.items; declared = n.declared.items }

-- the node that is kept
abbrev pub node_of : Node → world.Node
node_of n = record {
  name = n.name;
  blocks = n.blocks;
  durable = durable_of n.durable;
  volatile = volatile_of n;
  unmade = is_unmade n.durable.volume;
  up = n.up;
  was_up = n.was_up;
  clock = n.clock;
  settled = map settlement_of n.settled.items;
  calls = map call_of n.calls.items;
  under_way = None;
}

-- the request is none of records, and neither saves a file nor recovers it
abbrev pub IsPlain : Request → Type 0
IsPlain (request.Records label file operation) = ⊥
IsPlain (request.Direct file operation) = ⊥
IsPlain (request.Init slots blocks) = Unit {0}
IsPlain request.Boot = Unit {0}
IsPlain (request.Create file bucket size form) = Unit {0}
IsPlain (request.SetFile file setting) = Unit {0}
IsPlain (request.StartTrans label seconds) = Unit {0}
IsPlain (request.AddBranch label other new) = Unit {0}
IsPlain (request.StartBranch label) = Unit {0}
IsPlain (request.EndBranch label) = Unit {0}
IsPlain (request.EndTrans label) = Unit {0}
IsPlain (request.AbortTrans label) = Unit {0}
IsPlain (request.Inquire who) = Unit {0}
IsPlain (request.DeclareRm rm) = Unit {0}
IsPlain (request.JoinRm label rm) = Unit {0}
IsPlain (request.AckEvent who rm reply) = Unit {0}
IsPlain (request.ForgetRm rm) = Unit {0}
IsPlain (request.GetDti who) = Unit {0}
IsPlain request.LmcpShow = Unit {0}
IsPlain request.LmcpDump = Unit {0}
IsPlain (request.Dump file) = Unit {0}
IsPlain request.DumpJournal = Unit {0}
IsPlain (request.DumpImages file side) = Unit {0}
IsPlain (request.Backup file) = ⊥
IsPlain (request.Recover file way) = ⊥
IsPlain (request.Fuse writes choice) = Unit {0}
IsPlain request.Crash = Unit {0}
IsPlain (request.Clock now) = Unit {0}

-- A task that nothing refuses was done at a node, where nodes shared this: these lines were shown, and the node and what nodes share are those after it.
pub record Does (s : world.Shared) (n : world.Node) (e : Service) (lines : List Line) (m : world.Node) (t : world.Shared) : Type 0 where
  pub shows : map line_of lines ≡ lines_of_rows (e.rows s n) ++ (e.closing_lines n ++ e.answer s n ∷ [])
  pub node : m ≡ node_after e.closing (node_after_rows (e.rows s n) n)
  pub shared : t ≡ shared_then e.closing (shared_after_rows (e.rows s n) s)

-- a node whose table notes that a branch has changed something
abbrev pub noted : Id → world.Node → world.Node
noted serial n = record n { volatile = record n.volatile { branches = world.with_changed serial n.volatile.branches } }

-- a node whose branch holds no key any more
abbrev pub released_by : Id → world.Node → world.Node
released_by serial n = record n { volatile = record n.volatile { locks = released serial n.volatile.locks } }

-- a node whose branch is settled, where its table and its log are seen to apart
abbrev pub settled_by : world.Settlement → world.Node → world.Node
settled_by s n = record (released_by s.serial n) { durable = world.with_settlement (Some s) n.durable; settled = s ∷ n.settled }

-- none of these branches is in a table
abbrev pub AreUnknown : List Key → List Branch → Type 0
AreUnknown [] bs = Unit {0}
AreUnknown (k ∷ ks) bs = (cut k bs ≡ bs) × AreUnknown ks bs
