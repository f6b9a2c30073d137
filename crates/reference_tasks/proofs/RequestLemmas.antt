-- Requests that tell the table of their node an event.
use Rattle.std.proofs.Common.{◌≡◌, ℕ, true, false, None, refl}
use Rattle.reference_index.specs.run_model.Answers.{powers, refused_before_reading, service}
use Rattle.reference_index.specs.run_model.World.{Node, Shared}
use Rattle.script_lang.specs.declared.statement.Form.{Form}
use Rattle.script_lang.specs.declared.literals.Literals.{Literals}
use Rattle.script_lang.specs.declared.statement.Named.{Named}
use Rattle.script_lang.specs.declared.statement.Operation.{Operation}
use Rattle.script_lang.specs.declared.statement.Request.{Request}
use Rattle.script_lang.specs.declared.statement.Request.TheVariants as request
use Rattle.script_lang.specs.declared.statement.Setting.{Setting}
use Rattle.script_lang.specs.declared.statement.Side.{Side}
use Rattle.script_lang.specs.declared.statement.Recovery.{Recovery}
use Rattle.script_lang.specs.Statements.{request_of}
use Rattle.vms_base.specs.declared.names.FileName.{FileName}
use Rattle.vms_base.specs.declared.names.Label.{Label}
use Rattle.vms_base.specs.declared.names.RmName.{RmName}
use Rattle.vms_base.specs.declared.moments.Moment.{Moment}
use Rattle.reference_tasks.specs.Serving.{TellsTable}
use Rattle.reference_tasks.proofs.ServeLemmas.{early_up}

-- a node that is asked so is up
pub telling_up : (lit : Literals) (s : Shared) (n : Node) (r : Request) → TellsTable r → (powers (service (request_of lit r)) ≡ false → refused_before_reading s n (service (request_of lit r)) ≡ None) → n.up ≡ true
telling_up lit s n (request.Records label file op) t e = absurd t
telling_up lit s n (request.Direct file op) t e = absurd t
telling_up lit s n (request.Init slots blocks) t e = absurd t
telling_up lit s n request.Boot t e = absurd t
telling_up lit s n (request.Create file bucket size form) t e = absurd t
telling_up lit s n (request.SetFile file setting) t e = absurd t
telling_up lit s n (request.StartTrans label seconds) t e = early_up s n (service (request_of lit (request.StartTrans label seconds))) refl (e refl)
telling_up lit s n (request.AddBranch label other new) t e = early_up s n (service (request_of lit (request.AddBranch label other new))) refl (e refl)
telling_up lit s n (request.StartBranch label) t e = early_up s n (service (request_of lit (request.StartBranch label))) refl (e refl)
telling_up lit s n (request.EndBranch label) t e = early_up s n (service (request_of lit (request.EndBranch label))) refl (e refl)
telling_up lit s n (request.EndTrans label) t e = early_up s n (service (request_of lit (request.EndTrans label))) refl (e refl)
telling_up lit s n (request.AbortTrans label) t e = early_up s n (service (request_of lit (request.AbortTrans label))) refl (e refl)
telling_up lit s n (request.Inquire who) t e = early_up s n (service (request_of lit (request.Inquire who))) refl (e refl)
telling_up lit s n (request.DeclareRm rm) t e = absurd t
telling_up lit s n (request.JoinRm label rm) t e = early_up s n (service (request_of lit (request.JoinRm label rm))) refl (e refl)
telling_up lit s n (request.AckEvent who rm reply) t e = early_up s n (service (request_of lit (request.AckEvent who rm reply))) refl (e refl)
telling_up lit s n (request.ForgetRm rm) t e = absurd t
telling_up lit s n (request.GetDti who) t e = absurd t
telling_up lit s n request.LmcpShow t e = absurd t
telling_up lit s n request.LmcpDump t e = absurd t
telling_up lit s n (request.Dump file) t e = absurd t
telling_up lit s n request.DumpJournal t e = absurd t
telling_up lit s n (request.DumpImages file side) t e = absurd t
telling_up lit s n (request.Backup file) t e = absurd t
telling_up lit s n (request.Recover file way) t e = absurd t
telling_up lit s n (request.Fuse writes choice) t e = absurd t
telling_up lit s n request.Crash t e = absurd t
telling_up lit s n (request.Clock now) t e = absurd t

-- every request that is none of the others tells the table
pub default_up : (lit : Literals) (s : Shared) (n : Node) (r : Request) → ((slots : ℕ) (blocks : ℕ) → r ≡ request.Init slots blocks → ⊥) → (r ≡ request.Boot → ⊥) → ((file : FileName) (bucket : ℕ) (size : ℕ) (form : Form) → r ≡ request.Create file bucket size form → ⊥) → ((file : FileName) (setting : Setting) → r ≡ request.SetFile file setting → ⊥) → ((label : Label) (file : FileName) (op : Operation) → r ≡ request.Records label file op → ⊥) → ((file : FileName) (op : Operation) → r ≡ request.Direct file op → ⊥) → ((file : FileName) → r ≡ request.Dump file → ⊥) → (r ≡ request.DumpJournal → ⊥) → ((file : FileName) (side : Side) → r ≡ request.DumpImages file side → ⊥) → ((file : FileName) → r ≡ request.Backup file → ⊥) → ((file : FileName) (way : Recovery) → r ≡ request.Recover file way → ⊥) → ((writes : ℕ) (choice : ℕ) → r ≡ request.Fuse writes choice → ⊥) → (r ≡ request.Crash → ⊥) → ((now : Moment) → r ≡ request.Clock now → ⊥) → ((rm : RmName) → r ≡ request.DeclareRm rm → ⊥) → ((rm : RmName) → r ≡ request.ForgetRm rm → ⊥) → ((who : Named) → r ≡ request.GetDti who → ⊥) → (r ≡ request.LmcpShow → ⊥) → (r ≡ request.LmcpDump → ⊥)
    → (powers (service (request_of lit r)) ≡ false → refused_before_reading s n (service (request_of lit r)) ≡ None) → n.up ≡ true
default_up lit s n (request.Records label file op) not_init not_boot not_create not_setfile not_records not_direct not_dump not_dumpjournal not_images not_backup not_recover not_fuse not_crash not_clock not_declare not_forget not_dti not_show not_log e = absurd (not_records label file op refl)
default_up lit s n (request.Direct file op) not_init not_boot not_create not_setfile not_records not_direct not_dump not_dumpjournal not_images not_backup not_recover not_fuse not_crash not_clock not_declare not_forget not_dti not_show not_log e = absurd (not_direct file op refl)
default_up lit s n (request.Init slots blocks) not_init not_boot not_create not_setfile not_records not_direct not_dump not_dumpjournal not_images not_backup not_recover not_fuse not_crash not_clock not_declare not_forget not_dti not_show not_log e = absurd (not_init slots blocks refl)
default_up lit s n request.Boot not_init not_boot not_create not_setfile not_records not_direct not_dump not_dumpjournal not_images not_backup not_recover not_fuse not_crash not_clock not_declare not_forget not_dti not_show not_log e = absurd (not_boot refl)
default_up lit s n (request.Create file bucket size form) not_init not_boot not_create not_setfile not_records not_direct not_dump not_dumpjournal not_images not_backup not_recover not_fuse not_crash not_clock not_declare not_forget not_dti not_show not_log e = absurd (not_create file bucket size form refl)
default_up lit s n (request.SetFile file setting) not_init not_boot not_create not_setfile not_records not_direct not_dump not_dumpjournal not_images not_backup not_recover not_fuse not_crash not_clock not_declare not_forget not_dti not_show not_log e = absurd (not_setfile file setting refl)
default_up lit s n (request.StartTrans label seconds) not_init not_boot not_create not_setfile not_records not_direct not_dump not_dumpjournal not_images not_backup not_recover not_fuse not_crash not_clock not_declare not_forget not_dti not_show not_log e = telling_up lit s n (request.StartTrans label seconds) tt e
default_up lit s n (request.AddBranch label other new) not_init not_boot not_create not_setfile not_records not_direct not_dump not_dumpjournal not_images not_backup not_recover not_fuse not_crash not_clock not_declare not_forget not_dti not_show not_log e = telling_up lit s n (request.AddBranch label other new) tt e
default_up lit s n (request.StartBranch label) not_init not_boot not_create not_setfile not_records not_direct not_dump not_dumpjournal not_images not_backup not_recover not_fuse not_crash not_clock not_declare not_forget not_dti not_show not_log e = telling_up lit s n (request.StartBranch label) tt e
default_up lit s n (request.EndBranch label) not_init not_boot not_create not_setfile not_records not_direct not_dump not_dumpjournal not_images not_backup not_recover not_fuse not_crash not_clock not_declare not_forget not_dti not_show not_log e = telling_up lit s n (request.EndBranch label) tt e
default_up lit s n (request.EndTrans label) not_init not_boot not_create not_setfile not_records not_direct not_dump not_dumpjournal not_images not_backup not_recover not_fuse not_crash not_clock not_declare not_forget not_dti not_show not_log e = telling_up lit s n (request.EndTrans label) tt e
default_up lit s n (request.AbortTrans label) not_init not_boot not_create not_setfile not_records not_direct not_dump not_dumpjournal not_images not_backup not_recover not_fuse not_crash not_clock not_declare not_forget not_dti not_show not_log e = telling_up lit s n (request.AbortTrans label) tt e
default_up lit s n (request.Inquire who) not_init not_boot not_create not_setfile not_records not_direct not_dump not_dumpjournal not_images not_backup not_recover not_fuse not_crash not_clock not_declare not_forget not_dti not_show not_log e = telling_up lit s n (request.Inquire who) tt e
default_up lit s n (request.DeclareRm rm) not_init not_boot not_create not_setfile not_records not_direct not_dump not_dumpjournal not_images not_backup not_recover not_fuse not_crash not_clock not_declare not_forget not_dti not_show not_log e = absurd (not_declare rm refl)
default_up lit s n (request.JoinRm label rm) not_init not_boot not_create not_setfile not_records not_direct not_dump not_dumpjournal not_images not_backup not_recover not_fuse not_crash not_clock not_declare not_forget not_dti not_show not_log e = telling_up lit s n (request.JoinRm label rm) tt e
default_up lit s n (request.AckEvent who rm reply) not_init not_boot not_create not_setfile not_records not_direct not_dump not_dumpjournal not_images not_backup not_recover not_fuse not_crash not_clock not_declare not_forget not_dti not_show not_log e = telling_up lit s n (request.AckEvent who rm reply) tt e
default_up lit s n (request.ForgetRm rm) not_init not_boot not_create not_setfile not_records not_direct not_dump not_dumpjournal not_images not_backup not_recover not_fuse not_crash not_clock not_declare not_forget not_dti not_show not_log e = absurd (not_forget rm refl)
default_up lit s n (request.GetDti who) not_init not_boot not_create not_setfile not_records not_direct not_dump not_dumpjournal not_images not_backup not_recover not_fuse not_crash not_clock not_declare not_forget not_dti not_show not_log e = absurd (not_dti who refl)
default_up lit s n request.LmcpShow not_init not_boot not_create not_setfile not_records not_direct not_dump not_dumpjournal not_images not_backup not_recover not_fuse not_crash not_clock not_declare not_forget not_dti not_show not_log e = absurd (not_show refl)
default_up lit s n request.LmcpDump not_init not_boot not_create not_setfile not_records not_direct not_dump not_dumpjournal not_images not_backup not_recover not_fuse not_crash not_clock not_declare not_forget not_dti not_show not_log e = absurd (not_log refl)
default_up lit s n (request.Dump file) not_init not_boot not_create not_setfile not_records not_direct not_dump not_dumpjournal not_images not_backup not_recover not_fuse not_crash not_clock not_declare not_forget not_dti not_show not_log e = absurd (not_dump file refl)
default_up lit s n request.DumpJournal not_init not_boot not_create not_setfile not_records not_direct not_dump not_dumpjournal not_images not_backup not_recover not_fuse not_crash not_clock not_declare not_forget not_dti not_show not_log e = absurd (not_dumpjournal refl)
default_up lit s n (request.DumpImages file side) not_init not_boot not_create not_setfile not_records not_direct not_dump not_dumpjournal not_images not_backup not_recover not_fuse not_crash not_clock not_declare not_forget not_dti not_show not_log e = absurd (not_images file side refl)
default_up lit s n (request.Backup file) not_init not_boot not_create not_setfile not_records not_direct not_dump not_dumpjournal not_images not_backup not_recover not_fuse not_crash not_clock not_declare not_forget not_dti not_show not_log e = absurd (not_backup file refl)
default_up lit s n (request.Recover file way) not_init not_boot not_create not_setfile not_records not_direct not_dump not_dumpjournal not_images not_backup not_recover not_fuse not_crash not_clock not_declare not_forget not_dti not_show not_log e = absurd (not_recover file way refl)
default_up lit s n (request.Fuse writes choice) not_init not_boot not_create not_setfile not_records not_direct not_dump not_dumpjournal not_images not_backup not_recover not_fuse not_crash not_clock not_declare not_forget not_dti not_show not_log e = absurd (not_fuse writes choice refl)
default_up lit s n request.Crash not_init not_boot not_create not_setfile not_records not_direct not_dump not_dumpjournal not_images not_backup not_recover not_fuse not_crash not_clock not_declare not_forget not_dti not_show not_log e = absurd (not_crash refl)
default_up lit s n (request.Clock now) not_init not_boot not_create not_setfile not_records not_direct not_dump not_dumpjournal not_images not_backup not_recover not_fuse not_crash not_clock not_declare not_forget not_dti not_show not_log e = absurd (not_clock now refl)
