-- The messages of the protocol that the code's values are.
use Rattle.std.specs.Option.{option_map}
use Rattle.commit_protocol.specs.Messages as model
use Rattle.vms_base.specs.Ids.{tid_of, serial_of, bid_of}
use Rattle.vms_base.specs.declared.protocol.Kind.{Kind}
use Rattle.vms_base.specs.declared.protocol.Kind.TheVariants as kind
use Rattle.net_wire.specs.declared.wire.Message.{Message}

abbrev pub kind_of : Kind → model.Kind
kind_of kind.Join = model.Join
kind_of kind.JoinOk = model.JoinOk
kind_of kind.JoinNo = model.JoinNo
kind_of kind.Prepare = model.Prepare
kind_of kind.Yes = model.Yes
kind_of kind.ReadOnly = model.ReadOnly
kind_of kind.No = model.No
kind_of kind.Commit = model.Commit
kind_of kind.Abort = model.Abort
kind_of kind.Ack = model.Ack
kind_of kind.Inquire = model.Inquire

abbrev pub message_of : Message → model.Message
message_of m = record { kind = kind_of m.kind; from = m.from; to = m.to; tid = tid_of m.tid; serial = serial_of m.serial; bid = option_map bid_of m.bid }
