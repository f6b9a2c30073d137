-- The events of the protocol that the code's values are.
use Rattle.std.specs.Option.{option_map}
use Rattle.commit_protocol.specs.Rows as rows
use Rattle.vms_base.specs.Ids.{tid_of, serial_of, bid_of}
use Rattle.vms_base.specs.Outcomes.{reason_of}
use Rattle.net_wire.specs.Messages.{message_of}
use Rattle.tm_types.specs.Parts.{reply_of}
use Rattle.tm_types.specs.Branches.{moment_of}
use Rattle.tm_types.specs.declared.events.Event.{Event}
use Rattle.tm_types.specs.declared.events.Event.TheVariants as event

abbrev pub event_of : Event → rows.Event
event_of (event.Start t due) = rows.Start (tid_of t) (option_map moment_of due)
event_of (event.Authorise t bid) = rows.Authorise (tid_of t) (bid_of bid)
event_of (event.Begin t s bid) = rows.Begin (tid_of t) (serial_of s) (bid_of bid)
event_of (event.JoinRm s rm) = rows.JoinRm (serial_of s) rm
event_of (event.Changed s) = rows.Changed (serial_of s)
event_of (event.EndTrans t) = rows.EndTrans (tid_of t)
event_of (event.EndBranch s) = rows.EndBranch (serial_of s)
event_of (event.Abort s reason) = rows.AbortBranch (serial_of s) (reason_of reason)
event_of (event.Replied s rm reply) = rows.Replied (serial_of s) rm (reply_of reply)
event_of (event.Got m) = rows.Got (message_of m)
event_of (event.Clock now) = rows.Clock (moment_of now)
event_of (event.LinkDown other) = rows.LinkDown other
event_of event.RunDown = rows.RunDown
event_of (event.Inquire s) = rows.InquireBranch (serial_of s)
