-- The statements that the code's values are.
use Rattle.std.specs.Prelude.{ℕ, List, Result, Ok, Err, Option, Some, None}
use Rattle.std.specs.Option.{option_map}
use Rattle.vms_base.specs.vms_model.Keys.{Key}
use Rattle.vms_base.specs.Ids.{serial_of}
use Rattle.script_model.specs.Operands as operands
use Rattle.script_model.specs.Operands.{key_of}
use Rattle.script_model.specs.LineWords.{Ahead}
use Rattle.script_model.specs.Statements as model
use Rattle.script_model.specs.Grammar as grammar
use Rattle.script_model.specs.Grammar.{Shape}
use Rattle.tm_types.specs.Parts.{reply_of}
use Rattle.script_lang.specs.Reads.{Reads}
use Rattle.script_lang.specs.declared.words.LineErr.{LineErr}
use Rattle.script_lang.specs.declared.literals.Literals.{Literals}
use Rattle.script_lang.specs.declared.statement.Form.{Form}
use Rattle.script_lang.specs.declared.statement.Form.TheVariants as form
use Rattle.script_lang.specs.declared.statement.Organization.{Organization}
use Rattle.script_lang.specs.declared.statement.Organization.TheVariants as organization
use Rattle.script_lang.specs.declared.statement.KeyWord.{KeyWord}
use Rattle.script_lang.specs.declared.statement.KeyWord.TheVariants as key_word
use Rattle.script_lang.specs.declared.statement.Operation.{Operation}
use Rattle.script_lang.specs.declared.statement.Operation.TheVariants as operation
use Rattle.script_lang.specs.declared.statement.Setting.{Setting}
use Rattle.script_lang.specs.declared.statement.Setting.TheVariants as setting
use Rattle.script_lang.specs.declared.statement.Side.{Side}
use Rattle.script_lang.specs.declared.statement.Side.TheVariants as side
use Rattle.script_lang.specs.declared.statement.Mark.{Mark}
use Rattle.script_lang.specs.declared.statement.Mark.TheVariants as mark
use Rattle.script_lang.specs.declared.statement.Recovery.{Recovery}
use Rattle.script_lang.specs.declared.statement.Recovery.TheVariants as recovery
use Rattle.script_lang.specs.declared.statement.LogWord.{LogWord}
use Rattle.script_lang.specs.declared.statement.LogWord.TheVariants as log_word
use Rattle.script_lang.specs.declared.statement.Named.{Named}
use Rattle.script_lang.specs.declared.statement.Named.TheVariants as named
use Rattle.script_lang.specs.declared.statement.Verb.{Verb}
use Rattle.script_lang.specs.declared.statement.Verb.TheVariants as verb
use Rattle.script_lang.specs.declared.statement.WorldVerb.{WorldVerb}
use Rattle.script_lang.specs.declared.statement.WorldVerb.TheVariants as world_verb
use Rattle.script_lang.specs.declared.statement.First.{First}
use Rattle.script_lang.specs.declared.statement.First.TheVariants as first
use Rattle.script_lang.specs.declared.statement.Request.{Request}
use Rattle.script_lang.specs.declared.statement.Request.TheVariants as request
use Rattle.script_lang.specs.declared.statement.Statement.{Statement}
use Rattle.script_lang.specs.declared.statement.Statement.TheVariants as statement

abbrev pub form_of : Form → model.Form
form_of (form.Sequential buckets) = model.Sequential buckets
form_of (form.Relative records) = model.Relative records
form_of (form.Indexed buckets position key_size) = model.Indexed buckets position key_size

abbrev pub organization_of : Organization → grammar.Organization
organization_of organization.Sequential = grammar.Sequential
organization_of organization.Relative = grammar.Relative
organization_of organization.Indexed = grammar.Indexed

abbrev pub side_of : Side → model.Side
side_of side.AfterImages = model.AfterImages
side_of side.BeforeImages = model.BeforeImages

abbrev pub setting_of : Setting → model.Setting
setting_of setting.RecoveryUnits = model.RecoveryUnits
setting_of setting.NoRecoveryUnits = model.NoRecoveryUnits
setting_of (setting.Images s blocks) = model.Images (side_of s) blocks
setting_of (setting.NoImages s) = model.NoImages (side_of s)

abbrev pub mark_of : Mark → grammar.Mark
mark_of (mark.Whole s) = grammar.Whole (setting_of s)
mark_of (mark.OfBlocks s) = grammar.OfBlocks (side_of s)

abbrev pub recovery_of : Recovery → model.Recovery
recovery_of (recovery.Forward until) = model.Forward (option_map (λ moment. moment.0) until)
recovery_of (recovery.Backward until) = model.Backward until.0

abbrev pub log_word_of : LogWord → grammar.LogWord
log_word_of log_word.Show = grammar.Show
log_word_of log_word.Dump = grammar.Dumped

abbrev pub verb_of : Verb → grammar.Verb
verb_of verb.Init = grammar.Init
verb_of verb.Boot = grammar.Boot
verb_of verb.Create = grammar.Create
verb_of verb.SetFile = grammar.SetFile
verb_of verb.StartTrans = grammar.StartTrans
verb_of verb.AddBranch = grammar.AddBranch
verb_of verb.StartBranch = grammar.StartBranch
verb_of verb.Put = grammar.Put
verb_of verb.Update = grammar.Update
verb_of verb.Delete = grammar.Delete
verb_of verb.Truncate = grammar.Truncate
verb_of verb.Get = grammar.Get
verb_of verb.Next = grammar.Next
verb_of verb.EndBranch = grammar.EndBranch
verb_of verb.EndTrans = grammar.EndTrans
verb_of verb.AbortTrans = grammar.AbortTrans
verb_of verb.Inquire = grammar.Inquire
verb_of verb.DeclareRm = grammar.DeclareRm
verb_of verb.JoinRm = grammar.JoinRm
verb_of verb.AckEvent = grammar.AckEvent
verb_of verb.ForgetRm = grammar.ForgetRm
verb_of verb.GetDti = grammar.GetDti
verb_of verb.Lmcp = grammar.Lmcp
verb_of verb.Dump = grammar.Dump
verb_of verb.DumpJournal = grammar.DumpJournal
verb_of verb.Backup = grammar.Backup
verb_of verb.Recover = grammar.Recover

abbrev pub world_verb_of : WorldVerb → grammar.WorldVerb
world_verb_of world_verb.Fuse = grammar.Fuse
world_verb_of world_verb.Crash = grammar.Crash
world_verb_of world_verb.Clock = grammar.Clock
world_verb_of world_verb.Deliver = grammar.Deliver
world_verb_of world_verb.LinkDown = grammar.LinkDown
world_verb_of world_verb.Settle = grammar.Settle

abbrev pub first_of : First → grammar.First
first_of (first.ToNode node) = grammar.ToNode node
first_of (first.ToWorld v) = grammar.ToWorld (world_verb_of v)

abbrev pub named_of : Named → model.Named
named_of (named.Label label) = model.ByLabel label
named_of (named.Serial serial) = model.BySerial (serial_of serial)

-- a word for a key, where these are its bytes if it has bytes
abbrev pub word_in : List ℕ → KeyWord → operands.KeyWord
word_in bytes (key_word.Number n) = operands.Numbered n
word_in bytes key_word.Bytes = operands.Spelled bytes

-- the key that it stands for
abbrev pub key_in : List ℕ → KeyWord → Key
key_in bytes word = key_of (word_in bytes word)

-- an operation, where these bytes are kept beside it
abbrev pub operation_of : Literals → Operation → model.Operation
operation_of lit (operation.Put number) = model.Put number lit.record
operation_of lit (operation.Update key) = model.Update (key_in lit.key key) lit.record
operation_of lit (operation.Delete key) = model.Delete (key_in lit.key key)
operation_of lit (operation.Truncate number) = model.Truncate number
operation_of lit (operation.Get key) = model.Get (key_in lit.key key)
operation_of lit (operation.Next after) = model.Next (option_map (key_in lit.key) after)

-- a request, where these bytes are kept beside it
abbrev pub request_of : Literals → Request → model.Request
request_of lit (request.Init slots blocks) = model.Init slots blocks
request_of lit request.Boot = model.Boot
request_of lit (request.Create file bucket size form) = model.Create file bucket size (form_of form)
request_of lit (request.SetFile file setting) = model.SetFile file (setting_of setting)
request_of lit (request.StartTrans label seconds) = model.StartTrans label seconds
request_of lit (request.AddBranch label other new) = model.AddBranch label other new
request_of lit (request.StartBranch label) = model.StartBranch label
request_of lit (request.Records label file operation) = model.Records label file (operation_of lit operation)
request_of lit (request.Direct file operation) = model.Direct file (operation_of lit operation)
request_of lit (request.EndBranch label) = model.EndBranch label
request_of lit (request.EndTrans label) = model.EndTrans label
request_of lit (request.AbortTrans label) = model.AbortTrans label
request_of lit (request.Inquire named) = model.Inquire (named_of named)
request_of lit (request.DeclareRm rm) = model.DeclareRm rm
request_of lit (request.JoinRm label rm) = model.JoinRm label rm
request_of lit (request.AckEvent named rm reply) = model.AckEvent (named_of named) rm (reply_of reply)
request_of lit (request.ForgetRm rm) = model.ForgetRm rm
request_of lit (request.GetDti named) = model.GetDti (named_of named)
request_of lit request.LmcpShow = model.LmcpShow
request_of lit request.LmcpDump = model.LmcpDump
request_of lit (request.Dump file) = model.Dump file
request_of lit request.DumpJournal = model.DumpJournal
request_of lit (request.DumpImages file s) = model.DumpImages file (side_of s)
request_of lit (request.Backup file) = model.Backup file
request_of lit (request.Recover file way) = model.Recover file (recovery_of way)
request_of lit (request.Fuse writes choice) = model.Fuse writes choice
request_of lit request.Crash = model.Crash
request_of lit (request.Clock now) = model.Clock now.0

-- a statement, where these bytes are kept beside it
abbrev pub statement_of : Literals → Statement → model.Statement
statement_of lit (statement.At node r) = model.At node (request_of lit r)
statement_of lit (statement.Deliver number) = model.Deliver number
statement_of lit (statement.LinkDown a b) = model.LinkDown a b
statement_of lit statement.Settle = model.Settle

-- what was read is what words in this shape say, whatever bytes are kept beside it
abbrev pub ReadsPlain : Shape → Ahead → Result Statement LineErr → Type 0
ReadsPlain shape old result = (lit : Literals) → Reads (statement_of lit) shape old result

-- what a line says, as it is answered, where these bytes are kept beside the statement
abbrev pub reading_of : Literals → Result (Option Statement) LineErr → model.Reading
reading_of lit (Ok None) = model.Blank
reading_of lit (Ok (Some s)) = model.Says (statement_of lit s)
reading_of lit (Err e) = model.Bad e.column
