-- What refuses statements of resource managers, by the managers that are declared and by the table of their node.
use Rattle.std.specs.Prelude.{List, Bool, not, Option, Some, None, length, nat_le}
use Rattle.std.specs.List.{list_any}
use Rattle.std.specs.Option.{option_and_then}
use Rattle.vms_model.specs.Ids.{Id}
use Rattle.vms_model.specs.Limits.{declared_limit}
use Rattle.run_model.specs.transcript_model.Lines as line
use Rattle.run_model.specs.transcript_model.Lines.{Line, Quota}
use Rattle.run_model.specs.commit_protocol.Messages.{Name, Reply, same_name}
use Rattle.run_model.specs.commit_protocol.Table.{Branch, Tm, find_serial}
use Rattle.run_model.specs.Answers.{Known, Unsettled, Recorded, Unheard, awaited_reply, has_joined, in_state, is_joinable, known_branch, known_manager, more_managers, unsettled}
use Rattle.run_model.specs.Operations.{first_of, refused_if}
use Rattle.tm_table.specs.Restarts.{record_of}
use Rattle.participants.specs.declared.refusals.RmErr.{RmErr}
use Rattle.participants.specs.declared.refusals.RmErr.TheVariants as error

-- a manager is among these
abbrev pub is_among : Name → List Name → Bool
is_among rm rms = list_any (λ x. same_name x rm) rms

-- the refusal that an error is, where a quota is of this
abbrev pub refusal_line : Quota → RmErr → Line
refusal_line quota error.NoTid = line.NoSuchTransaction
refusal_line quota error.NoRm = line.NoSuchManager
refusal_line quota error.State = line.WrongState
refusal_line quota (error.Quota limit) = line.QuotaExceeded quota limit

-- a manager is not among those that are declared
abbrev pub undeclared : Name → List Name → Option Line
undeclared rm rms = refused_if (not (is_among rm rms)) line.NoSuchManager

-- A manager is to be declared: it is, or as many are as may be.
abbrev pub refused_declaration : Name → List Name → Option Line
refused_declaration rm rms = first_of (refused_if (is_among rm rms) line.WrongState) (refused_if (nat_le declared_limit (length rms)) (line.QuotaExceeded line.Declared declared_limit))

-- A manager is to be declared no more: it is not declared, or has joined one of these branches.
abbrev pub refused_forgetting : Name → List Name → List Branch → Option Line
refused_forgetting rm rms bs = first_of (undeclared rm rms) (refused_if (list_any (has_joined rm) bs) line.WrongState)

-- A manager is to join a branch, which is this one, if it is unsettled.
abbrev pub refused_joining : Name → List Name → Option Branch → Option Line
refused_joining rm rms o = first_of (unsettled o) (first_of (undeclared rm rms) (first_of (in_state (is_joinable rm) o) (option_and_then more_managers o)))

-- what a table knows of a serial
abbrev pub known_in : Tm → Id → Known
known_in tm serial = elim (find_serial serial tm.table) [ Some b ↦ Unsettled b | None ↦ elim (record_of serial tm.records) [ Some r ↦ Recorded r | None ↦ Unheard ] ]

-- A manager replies, of a branch of which this is known.
abbrev pub refused_reply : Name → Reply → List Name → Known → Option Line
refused_reply rm reply rms k = first_of (known_branch k) (first_of (undeclared rm rms) (first_of (known_manager rm k) (awaited_reply rm reply k)))
