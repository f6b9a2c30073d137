use Rattle.std.proofs.Common.{◌≡◌, ◌+◌, None, arith, false, refl, subst}
use Rattle.log_laws.specs.commit_protocol.Allowed.{is_working}
use Rattle.reference_index.specs.run_model.Answers.{branch_labelled, in_state, is_marked, keys_refused, made_label, of_file, powers, refused_before_reading, service, there_is_file, unsettled_label}
use Rattle.reference_index.specs.run_model.Operations.{first_of, form_refused, keys_asked}
use Rattle.reference_index.specs.run_model.World.{serial_labelled}
use Rattle.script_lang.specs.Statements.{operation_of, request_of}
use Rattle.script_lang.specs.declared.statement.Request.{Request}
use Rattle.script_lang.specs.declared.statement.Request.TheVariants as request
use Rattle.reference_node.specs.Nodes.{node_of}
use Rattle.reference_tasks.specs.Serving.{RestsNot}
use Rattle.reference_branches.specs.Branches.{shared_of}
use Rattle.reference_node.proofs.ManagerLemmas.{none_first}
use Rattle.reference_tasks.proofs.ServeLemmas.{early_rest}
use Rattle.reference_tasks.proofs.RequestLemmas.{default_up}
use Rattle.reference_node.proofs.TellLemmas.{less_time}
use Rattle.reference_tasks.proofs.serving.act.Goals as goal

pub operate-requires : goal.operate-requires
operate-requires c =
    let s = shared_of c.args.shared.now in
    let n = node_of c.args.node.now in
    let lit = c.args.lit.now in
    let l = c.in-Records.label in
    let f = c.in-Records.file in
    let op = operation_of lit c.in-Records.operation in
    let e = subst (λ (r : Request). powers (service (request_of lit r)) ≡ false → refused_before_reading s n (service (request_of lit r)) ≡ None) c.in-Records.is c.requires.early refl in
    let held = of_file n f (λ x. keys_refused n (serial_labelled n.name l s.labels) f (keys_asked x op)) in
    let marked = first_of (of_file n f is_marked) held in
    let state = first_of (in_state is_working (branch_labelled s n l)) marked in
    let unit = first_of (unsettled_label s n l) state in
    let form = first_of (of_file n f (λ x. form_refused x op)) unit in
    let there = first_of (there_is_file n f) form in
    let one = none_first (made_label s n l) there (early_rest s n (service (request_of lit (request.Records l f c.in-Records.operation))) e) in
    record { allowed = (none_first (in_state is_working (branch_labelled s n l)) marked (none_first (unsettled_label s n l) state (none_first (of_file n f (λ x. form_refused x op)) unit (none_first (there_is_file n f) form one.1).1).1).1).0 }

pub act_on_branches-requires-clause-can : goal.act_on_branches-requires-clause-can
act_on_branches-requires-clause-can c =
    let d = c.in_default in
    c.requires.can (default_up c.args.lit.now (shared_of c.args.shared.now) (node_of c.args.node.now) c.args.request.now d.not-Init d.not-Boot d.not-Create d.not-SetFile d.not-Records d.not-Direct d.not-Dump d.not-DumpJournal d.not-DumpImages d.not-Backup d.not-Recover d.not-Fuse d.not-Crash d.not-Clock d.not-DeclareRm d.not-ForgetRm d.not-GetDti d.not-LmcpShow d.not-LmcpDump c.requires.early)

pub returns-in-Init-clause-time : goal.returns-in-Init-clause-time
returns-in-Init-clause-time c = λ t. absurd (subst RestsNot c.in-Init.is t)

pub returns-in-Create-clause-time : goal.returns-in-Create-clause-time
returns-in-Create-clause-time c = λ t. absurd (subst RestsNot c.in-Create.is t)

pub returns-in-SetFile-clause-time : goal.returns-in-SetFile-clause-time
returns-in-SetFile-clause-time c = λ t. absurd (subst RestsNot c.in-SetFile.is t)

pub returns-in-Records-clause-time : goal.returns-in-Records-clause-time
returns-in-Records-clause-time c = λ t. absurd (subst RestsNot c.in-Records.is t)

pub returns-in-Direct-clause-time : goal.returns-in-Direct-clause-time
returns-in-Direct-clause-time c = λ t. absurd (subst RestsNot c.in-Direct.is t)

pub returns-in-Dump-clause-time : goal.returns-in-Dump-clause-time
returns-in-Dump-clause-time c = λ t. absurd (subst RestsNot c.in-Dump.is t)

pub returns-in-DumpJournal-clause-time : goal.returns-in-DumpJournal-clause-time
returns-in-DumpJournal-clause-time c = λ t. absurd (subst RestsNot c.in-DumpJournal.is t)

pub returns-in-DumpImages-clause-time : goal.returns-in-DumpImages-clause-time
returns-in-DumpImages-clause-time c = λ t. absurd (subst RestsNot c.in-DumpImages.is t)

pub returns-in-Backup-clause-time : goal.returns-in-Backup-clause-time
returns-in-Backup-clause-time c = λ t. absurd (subst RestsNot c.in-Backup.is t)

pub returns-in-Recover-clause-time : goal.returns-in-Recover-clause-time
returns-in-Recover-clause-time c = λ t. absurd (subst RestsNot c.in-Recover.is t)

pub returns-in-Fuse-clause-time : goal.returns-in-Fuse-clause-time
returns-in-Fuse-clause-time c = λ t. absurd (subst RestsNot c.in-Fuse.is t)

pub returns-in-Crash-clause-time : goal.returns-in-Crash-clause-time
returns-in-Crash-clause-time c = λ t. absurd (subst RestsNot c.in-Crash.is t)

pub returns-in-Clock-clause-time : goal.returns-in-Clock-clause-time
returns-in-Clock-clause-time c = λ t. absurd (subst RestsNot c.in-Clock.is t)

pub returns-in-Boot-clause-time : goal.returns-in-Boot-clause-time
returns-in-Boot-clause-time c = λ t count h. c.boot.ensures.time count (less_time (count + 2048) (count + 64) (node_of c.args.node.now) (omega arith) h)

pub returns-in-DeclareRm-clause-time : goal.returns-in-DeclareRm-clause-time
returns-in-DeclareRm-clause-time c = λ t. absurd (subst RestsNot c.in-DeclareRm.is t)

pub returns-in-ForgetRm-clause-time : goal.returns-in-ForgetRm-clause-time
returns-in-ForgetRm-clause-time c = λ t. absurd (subst RestsNot c.in-ForgetRm.is t)

pub returns-in-GetDti-clause-time : goal.returns-in-GetDti-clause-time
returns-in-GetDti-clause-time c = λ t. absurd (subst RestsNot c.in-GetDti.is t)

pub returns-in-LmcpShow-clause-time : goal.returns-in-LmcpShow-clause-time
returns-in-LmcpShow-clause-time c = λ t. absurd (subst RestsNot c.in-LmcpShow.is t)

pub returns-in-LmcpDump-clause-time : goal.returns-in-LmcpDump-clause-time
returns-in-LmcpDump-clause-time c = λ t. absurd (subst RestsNot c.in-LmcpDump.is t)
