-- Which requests are left behind some kinds of them.
use Rattle.std.proofs.Common.{◌≡◌, ℕ, Option, refl}
use Rattle.vms_base.specs.declared.names.FileName.{FileName}
use Rattle.vms_base.specs.declared.names.Label.{Label}
use Rattle.vms_base.specs.declared.names.NodeName.{NodeName}
use Rattle.vms_base.specs.declared.names.RmName.{RmName}
use Rattle.vms_base.specs.declared.protocol.Reply.{Reply}
use Rattle.script_lang.specs.Statements.{request_of}
use Rattle.script_lang.specs.script_model.Statements as said
use Rattle.script_lang.specs.declared.statement.Form.{Form}
use Rattle.script_lang.specs.declared.literals.Literals.{Literals}
use Rattle.script_lang.specs.declared.statement.Named.{Named}
use Rattle.script_lang.specs.declared.statement.Operation.{Operation}
use Rattle.script_lang.specs.declared.statement.Request.{Request}
use Rattle.script_lang.specs.declared.statement.Request.TheVariants as request
use Rattle.script_lang.specs.declared.statement.Recovery.{Recovery}
use Rattle.script_lang.specs.declared.statement.Setting.{Setting}
use Rattle.script_lang.specs.declared.statement.Side.{Side}
use Rattle.node_requests.specs.Requests.{IsForUp, IsOfManager, IsOfTransaction, IsReserved}

-- none is of a file or of the journal
pub record IsNoneOfFiles (r : Request) : Type 0 where
  pub create : (file : FileName) (bucket size : ℕ) (form : Form) → r ≡ request.Create file bucket size form → ⊥
  pub set_file : (file : FileName) (setting : Setting) → r ≡ request.SetFile file setting → ⊥
  pub records : (label : Label) (file : FileName) (op : Operation) → r ≡ request.Records label file op → ⊥
  pub direct : (file : FileName) (op : Operation) → r ≡ request.Direct file op → ⊥
  pub dump : (file : FileName) → r ≡ request.Dump file → ⊥
  pub dump_journal : r ≡ request.DumpJournal → ⊥
  pub dump_images : (file : FileName) (side : Side) → r ≡ request.DumpImages file side → ⊥
  pub backup : (file : FileName) → r ≡ request.Backup file → ⊥

-- one that is no recovery takes no memory
pub of_reserved : (lit : Literals) (r : Request) → IsForUp (request_of lit r) → ((file : FileName) (way : Recovery) → r ≡ request.Recover file way → ⊥) → IsReserved (request_of lit r)
of_reserved lit (request.Init slots blocks) up h = absurd up
of_reserved lit request.Boot up h = absurd up
of_reserved lit (request.Create file bucket size form) up h = tt
of_reserved lit (request.SetFile file setting) up h = tt
of_reserved lit (request.StartTrans label seconds) up h = tt
of_reserved lit (request.AddBranch label other new) up h = tt
of_reserved lit (request.StartBranch label) up h = tt
of_reserved lit (request.Records label file op) up h = tt
of_reserved lit (request.Direct file op) up h = tt
of_reserved lit (request.EndBranch label) up h = tt
of_reserved lit (request.EndTrans label) up h = tt
of_reserved lit (request.AbortTrans label) up h = tt
of_reserved lit (request.Inquire who) up h = tt
of_reserved lit (request.DeclareRm rm) up h = tt
of_reserved lit (request.JoinRm label rm) up h = tt
of_reserved lit (request.AckEvent who rm reply) up h = tt
of_reserved lit (request.ForgetRm rm) up h = tt
of_reserved lit (request.GetDti who) up h = tt
of_reserved lit request.LmcpShow up h = tt
of_reserved lit request.LmcpDump up h = tt
of_reserved lit (request.Dump file) up h = tt
of_reserved lit request.DumpJournal up h = tt
of_reserved lit (request.DumpImages file side) up h = tt
of_reserved lit (request.Backup file) up h = tt
of_reserved lit (request.Recover file way) up h = absurd (h file way refl)
of_reserved lit (request.Fuse writes choice) up h = absurd up
of_reserved lit request.Crash up h = absurd up
of_reserved lit (request.Clock now) up h = absurd up

pub of_transaction : (lit : Literals) (r : Request) → IsReserved (request_of lit r) → IsNoneOfFiles r → IsOfTransaction (request_of lit r)
of_transaction lit (request.Init slots blocks) up h = absurd up
of_transaction lit request.Boot up h = absurd up
of_transaction lit (request.Create file bucket size form) up h = absurd (h.create file bucket size form refl)
of_transaction lit (request.SetFile file setting) up h = absurd (h.set_file file setting refl)
of_transaction lit (request.StartTrans label seconds) up h = tt
of_transaction lit (request.AddBranch label other new) up h = tt
of_transaction lit (request.StartBranch label) up h = tt
of_transaction lit (request.Records label file op) up h = absurd (h.records label file op refl)
of_transaction lit (request.Direct file op) up h = absurd (h.direct file op refl)
of_transaction lit (request.EndBranch label) up h = tt
of_transaction lit (request.EndTrans label) up h = tt
of_transaction lit (request.AbortTrans label) up h = tt
of_transaction lit (request.Inquire who) up h = tt
of_transaction lit (request.DeclareRm rm) up h = tt
of_transaction lit (request.JoinRm label rm) up h = tt
of_transaction lit (request.AckEvent who rm reply) up h = tt
of_transaction lit (request.ForgetRm rm) up h = tt
of_transaction lit (request.GetDti who) up h = tt
of_transaction lit request.LmcpShow up h = tt
of_transaction lit request.LmcpDump up h = tt
of_transaction lit (request.Dump file) up h = absurd (h.dump file refl)
of_transaction lit request.DumpJournal up h = absurd (h.dump_journal refl)
of_transaction lit (request.DumpImages file side) up h = absurd (h.dump_images file side refl)
of_transaction lit (request.Backup file) up h = absurd (h.backup file refl)
of_transaction lit (request.Recover file way) up h = absurd up
of_transaction lit (request.Fuse writes choice) up h = absurd up
of_transaction lit request.Crash up h = absurd up
of_transaction lit (request.Clock now) up h = absurd up

-- none is of a transaction
pub record IsNoneOfTransactions (r : Request) : Type 0 where
  pub start : (label : Label) (seconds : Option ℕ) → r ≡ request.StartTrans label seconds → ⊥
  pub add_branch : (label : Label) (other : NodeName) (new : Label) → r ≡ request.AddBranch label other new → ⊥
  pub start_branch : (label : Label) → r ≡ request.StartBranch label → ⊥
  pub end_branch : (label : Label) → r ≡ request.EndBranch label → ⊥
  pub end : (label : Label) → r ≡ request.EndTrans label → ⊥
  pub abort : (label : Label) → r ≡ request.AbortTrans label → ⊥
  pub inquire : (who : Named) → r ≡ request.Inquire who → ⊥

pub of_manager : (lit : Literals) (r : Request) → IsOfTransaction (request_of lit r) → IsNoneOfTransactions r → IsOfManager (request_of lit r)
of_manager lit (request.Init slots blocks) is h = absurd is
of_manager lit request.Boot is h = absurd is
of_manager lit (request.Create file bucket size form) is h = absurd is
of_manager lit (request.SetFile file setting) is h = absurd is
of_manager lit (request.StartTrans label seconds) is h = absurd (h.start label seconds refl)
of_manager lit (request.AddBranch label other new) is h = absurd (h.add_branch label other new refl)
of_manager lit (request.StartBranch label) is h = absurd (h.start_branch label refl)
of_manager lit (request.Records label file op) is h = absurd is
of_manager lit (request.Direct file op) is h = absurd is
of_manager lit (request.EndBranch label) is h = absurd (h.end_branch label refl)
of_manager lit (request.EndTrans label) is h = absurd (h.end label refl)
of_manager lit (request.AbortTrans label) is h = absurd (h.abort label refl)
of_manager lit (request.Inquire who) is h = absurd (h.inquire who refl)
of_manager lit (request.DeclareRm rm) is h = tt
of_manager lit (request.JoinRm label rm) is h = tt
of_manager lit (request.AckEvent who rm reply) is h = tt
of_manager lit (request.ForgetRm rm) is h = tt
of_manager lit (request.GetDti who) is h = tt
of_manager lit request.LmcpShow is h = tt
of_manager lit request.LmcpDump is h = tt
of_manager lit (request.Dump file) is h = absurd is
of_manager lit request.DumpJournal is h = absurd is
of_manager lit (request.DumpImages file side) is h = absurd is
of_manager lit (request.Backup file) is h = absurd is
of_manager lit (request.Recover file way) is h = absurd is
of_manager lit (request.Fuse writes choice) is h = absurd is
of_manager lit request.Crash is h = absurd is
of_manager lit (request.Clock now) is h = absurd is

-- none is of a resource manager, on how a branch stands, or on the log
pub record IsNoneOfManagers (r : Request) : Type 0 where
  pub declare : (rm : RmName) → r ≡ request.DeclareRm rm → ⊥
  pub join : (label : Label) (rm : RmName) → r ≡ request.JoinRm label rm → ⊥
  pub reply : (who : Named) (rm : RmName) (reply : Reply) → r ≡ request.AckEvent who rm reply → ⊥
  pub forget : (rm : RmName) → r ≡ request.ForgetRm rm → ⊥
  pub state : (who : Named) → r ≡ request.GetDti who → ⊥
  pub show : r ≡ request.LmcpShow → ⊥
  pub dump : r ≡ request.LmcpDump → ⊥

pub none_left : (lit : Literals) (r : Request) → IsOfManager (request_of lit r) → IsNoneOfManagers r → ⊥
none_left lit (request.Init slots blocks) is h = absurd is
none_left lit request.Boot is h = absurd is
none_left lit (request.Create file bucket size form) is h = absurd is
none_left lit (request.SetFile file setting) is h = absurd is
none_left lit (request.StartTrans label seconds) is h = absurd is
none_left lit (request.AddBranch label other new) is h = absurd is
none_left lit (request.StartBranch label) is h = absurd is
none_left lit (request.Records label file op) is h = absurd is
none_left lit (request.Direct file op) is h = absurd is
none_left lit (request.EndBranch label) is h = absurd is
none_left lit (request.EndTrans label) is h = absurd is
none_left lit (request.AbortTrans label) is h = absurd is
none_left lit (request.Inquire who) is h = absurd is
none_left lit (request.DeclareRm rm) is h = h.declare rm refl
none_left lit (request.JoinRm label rm) is h = h.join label rm refl
none_left lit (request.AckEvent who rm reply) is h = h.reply who rm reply refl
none_left lit (request.ForgetRm rm) is h = h.forget rm refl
none_left lit (request.GetDti who) is h = h.state who refl
none_left lit request.LmcpShow is h = h.show refl
none_left lit request.LmcpDump is h = h.dump refl
none_left lit (request.Dump file) is h = absurd is
none_left lit request.DumpJournal is h = absurd is
none_left lit (request.DumpImages file side) is h = absurd is
none_left lit (request.Backup file) is h = absurd is
none_left lit (request.Recover file way) is h = absurd is
none_left lit (request.Fuse writes choice) is h = absurd is
none_left lit request.Crash is h = absurd is
none_left lit (request.Clock now) is h = absurd is

-- none is of a volume or a disk, and none sets the clock
pub record IsNoneOfNode (r : Request) : Type 0 where
  pub init : (slots blocks : ℕ) → r ≡ request.Init slots blocks → ⊥
  pub boot : r ≡ request.Boot → ⊥
  pub fuse : (writes choice : ℕ) → r ≡ request.Fuse writes choice → ⊥
  pub crash : r ≡ request.Crash → ⊥

pub for_up : (lit : Literals) (r : Request) → ((now : ℕ) → request_of lit r ≡ said.Clock now → ⊥) → IsNoneOfNode r → IsForUp (request_of lit r)
for_up lit (request.Init slots blocks) clock h = absurd (h.init slots blocks refl)
for_up lit request.Boot clock h = absurd (h.boot refl)
for_up lit (request.Create file bucket size form) clock h = tt
for_up lit (request.SetFile file setting) clock h = tt
for_up lit (request.StartTrans label seconds) clock h = tt
for_up lit (request.AddBranch label other new) clock h = tt
for_up lit (request.StartBranch label) clock h = tt
for_up lit (request.Records label file op) clock h = tt
for_up lit (request.Direct file op) clock h = tt
for_up lit (request.EndBranch label) clock h = tt
for_up lit (request.EndTrans label) clock h = tt
for_up lit (request.AbortTrans label) clock h = tt
for_up lit (request.Inquire who) clock h = tt
for_up lit (request.DeclareRm rm) clock h = tt
for_up lit (request.JoinRm label rm) clock h = tt
for_up lit (request.AckEvent who rm reply) clock h = tt
for_up lit (request.ForgetRm rm) clock h = tt
for_up lit (request.GetDti who) clock h = tt
for_up lit request.LmcpShow clock h = tt
for_up lit request.LmcpDump clock h = tt
for_up lit (request.Dump file) clock h = tt
for_up lit request.DumpJournal clock h = tt
for_up lit (request.DumpImages file side) clock h = tt
for_up lit (request.Backup file) clock h = tt
for_up lit (request.Recover file way) clock h = tt
for_up lit (request.Fuse writes choice) clock h = absurd (h.fuse writes choice refl)
for_up lit request.Crash clock h = absurd (h.crash refl)
for_up lit (request.Clock now) clock h = absurd (clock now.0 refl)
