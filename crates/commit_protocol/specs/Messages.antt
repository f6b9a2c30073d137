-- Messages of the commit protocol, what resource managers are told and what they reply, and records of the log.
use Rattle.std.specs.Prelude.{ℕ, Bool, ◌==◌, ◌&&◌, List, Option}
use Rattle.std.specs.Str.{bytes_eq}
use Rattle.vms_model.specs.Ids.{Id}

-- the name of a node or of a resource manager, as it is kept
abbrev pub Name : Type 0
Name = List ℕ

-- the kinds of messages between coordinator and branch
pub data Kind : Type 0 where
  Join : Kind
  JoinOk : Kind
  JoinNo : Kind
  Prepare : Kind
  Yes : Kind
  ReadOnly : Kind
  No : Kind
  Commit : Kind
  Abort : Kind
  Ack : Kind
  Inquire : Kind

-- a message speaks of one branch, which is a transaction and a serial; a Join has the branch's identifier besides
pub record Message : Type 0 where
  pub kind : Kind
  pub from : Name
  pub to : Name
  pub tid : Id
  pub serial : Id
  pub bid : Option Id

-- what a resource manager is told
pub data RmEvent : Type 0 where
  PrepareEvent : RmEvent
  CommitEvent : RmEvent
  AbortEvent : RmEvent
  OnePhaseEvent : RmEvent

-- what it replies
pub data Reply : Type 0 where
  PreparedReply : Reply
  ForgetReply : Reply
  VetoReply : Reply
  RememberReply : Reply
  NormalReply : Reply

-- the two kinds of records of the log
pub data RecordKind : Type 0 where
  PreparedRecord : RecordKind
  CommittedRecord : RecordKind

-- A record of the log. A prepared record has the managers that replied prepared, and no waiting serials. A committed record has the serials whose
-- acknowledgement and the managers whose reply it waits for.
pub record LogRecord : Type 0 where
  pub kind : RecordKind
  pub tid : Id
  pub serial : Id
  pub waiting : List Id
  pub rms : List Name

-- the names are the same
unfoldable pub same_name : Name → Name → Bool
same_name a b = bytes_eq a b

-- the ids are the same
unfoldable pub same_id : Id → Id → Bool
same_id a b = bytes_eq a.node b.node && ((a.boot == b.boot) && (a.seq == b.seq))
