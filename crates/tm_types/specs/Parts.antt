-- The states, accepted serials, managers and replies of the protocol that the code's values are.
use Rattle.std.specs.Prelude.{map, Bool, true, false, Option, Some}
use Rattle.std.specs.Option.{option_map}
use Rattle.commit_protocol.specs.Messages as model
use Rattle.commit_protocol.specs.Table as table
use Rattle.vms_base.specs.Ids.{tid_of, serial_of, bid_of}
use Rattle.vms_base.specs.declared.protocol.RmEvent.{RmEvent}
use Rattle.vms_base.specs.declared.protocol.RmEvent.TheVariants as event
use Rattle.vms_base.specs.declared.protocol.Reply.{Reply}
use Rattle.vms_base.specs.declared.protocol.Reply.TheVariants as reply
use Rattle.vms_base.specs.declared.protocol.LogKind.{LogKind}
use Rattle.vms_base.specs.declared.protocol.LogKind.TheVariants as kind
use Rattle.vms_base.specs.declared.protocol.LogRec.{LogRec}
use Rattle.net_wire.specs.Messages.{kind_of}
use Rattle.tm_types.specs.declared.lists.State.{State}
use Rattle.tm_types.specs.declared.lists.State.TheVariants as state
use Rattle.tm_types.specs.declared.lists.Child.{Child}
use Rattle.tm_types.specs.declared.lists.Manager.{Manager}

abbrev pub rm_event_of : RmEvent → model.RmEvent
rm_event_of event.Prepare = model.PrepareEvent
rm_event_of event.Commit = model.CommitEvent
rm_event_of event.Abort = model.AbortEvent
rm_event_of event.OnePhase = model.OnePhaseEvent

abbrev pub reply_of : Reply → model.Reply
reply_of reply.Prepared = model.PreparedReply
reply_of reply.Forget = model.ForgetReply
reply_of reply.Veto = model.VetoReply
reply_of reply.Remember = model.RememberReply
reply_of reply.Normal = model.NormalReply

abbrev pub log_kind_of : LogKind → model.RecordKind
log_kind_of kind.Prepared = model.PreparedRecord
log_kind_of kind.Committed = model.CommittedRecord

abbrev pub log_record_of : LogRec → model.LogRecord
log_record_of r = record { kind = log_kind_of r.kind; tid = tid_of r.tid; serial = serial_of r.serial; waiting = map serial_of r.waiting; rms = r.rms }

abbrev pub state_of : State → table.State
state_of state.Joining = table.Joining
state_of state.Active = table.Active
state_of state.Ending = table.Ending
state_of state.Voting = table.Voting
state_of state.Prepared = table.Prepared

abbrev pub child_of : Child → table.Child
child_of c = record { bid = bid_of c.bid; serial = serial_of c.serial; vote = option_map kind_of c.vote }

abbrev pub manager_of : Manager → table.Manager
manager_of m = record { rm = m.rm; event = option_map rm_event_of m.event; reply = option_map reply_of m.reply }

abbrev pub is_read_only : Option model.Kind → Bool
is_read_only (Some model.ReadOnly) = true
is_read_only _ = false
