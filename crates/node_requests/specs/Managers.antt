-- Statements of resource managers, and on the log, by the labels, the table and the log of their node.
use Rattle.std.specs.Prelude.{ℕ, List, [], ◌∷◌, Bool, false, Option, Some, None, if◌then◌else◌}
use Rattle.std.specs.List.{list_any}
use Rattle.emitter_model.specs.commit_protocol.Messages.{LogRecord, Name, same_name}
use Rattle.emitter_model.specs.commit_protocol.Table.{Tm}
use Rattle.world_laws.specs.log_laws.Slots.{is_prepared_record}
use Rattle.vms_model.specs.Ids.{Id}
use Rattle.emitter_model.specs.transcript_model.Lines as line
use Rattle.emitter_model.specs.transcript_model.Lines.{Line}
use Rattle.script_lang.specs.script_model.Statements.{ByLabel, BySerial, Named}
use Rattle.world_laws.specs.run_model.Answers.{Known, Unheard, log_line, owed_line}
use Rattle.world_laws.specs.run_model.Operations.{first_of}
use Rattle.world_laws.specs.run_model.World.{Label, serial_labelled}
use Rattle.node_table.specs.Standing.{Up}
use Rattle.participants.specs.Refusing.{known_in}
use Rattle.node_requests.specs.Labelled.{made_in}
use Rattle.node_requests.specs.Running.{name_of}

-- whether a label is one of this node, where a label is named
abbrev pub made_of : Named → List ℕ → List Label → Option Line
made_of (ByLabel label) node ls = made_in node label ls
made_of (BySerial serial) node ls = None

-- the serial that a label or a serial names
abbrev pub serial_in : Named → List Label → Up → Option Id
serial_in (ByLabel label) ls r = serial_labelled (name_of r) label ls
serial_in (BySerial serial) ls r = Some serial

-- none is named, since no branch has begun for the label
abbrev pub without_serial : Option Id → Option Line
without_serial (Some serial) = None
without_serial None = Some line.NoSuchTransaction

-- what refuses a statement that asks for a serial
abbrev pub unheard_in : Named → List Label → Up → Option Line
unheard_in who ls r = first_of (made_of who (name_of r) ls) (without_serial (serial_in who ls r))

-- what a table knows of the serial that is named, if one is
abbrev pub known_at : Tm → Option Id → Known
known_at tm (Some serial) = known_in tm serial
known_at tm None = Unheard

-- whether a record is a committed one that waits for a manager
abbrev pub waits_for : Name → LogRecord → Bool
waits_for rm r = if is_prepared_record r.kind then false else list_any (λ x. same_name x rm) r.rms

-- what a manager is told of the record of a slot, where it has one
abbrev pub owed_lines_at : Name → Option LogRecord → List Line
owed_lines_at rm None = []
owed_lines_at rm (Some r) = if waits_for rm r then owed_line rm r ∷ [] else []

-- the line of a slot, where it has a record
abbrev pub entry_lines_at : ℕ → Option LogRecord → List Line
entry_lines_at slot None = []
entry_lines_at slot (Some r) = log_line (slot, r) ∷ []
