-- With which event an abort for a reason may come.
use Rattle.std.specs.Prelude.{◌≡◌, List, [], ◌∷◌, Some}
use Rattle.vms_model.specs.Transactions.{Abort as ToAbort, Reason, Aborted, Vetoed, SyncFail, Timeout, CommFail, SegFail}
use Rattle.commit_protocol.specs.Messages.{Kind, JoinNo, No, Abort, Message, VetoReply}
use Rattle.commit_protocol.specs.Table.{Key, Act, Settles, Undoes, Prints, Ended, key_of}
use Rattle.commit_protocol.specs.Rows.{Event, EndTrans, AbortBranch, Replied, Got, Clock, LinkDown, RunDown}

-- a refused Join, an Abort, and a No of another branch of the transaction
abbrev pub MessageCauses : Kind → Message → Key → Reason → Type 0
MessageCauses JoinNo m k reason = (k ≡ key_of m) × (reason ≡ SyncFail)
MessageCauses Abort m k reason = (k ≡ key_of m) × (reason ≡ Aborted)
MessageCauses No m k reason = (k.tid ≡ m.tid) × (reason ≡ Vetoed)
MessageCauses _ m k reason = ⊥

-- the event may abort this branch for this reason
abbrev pub Causes : Event → Key → Reason → Type 0
Causes (EndTrans t) k reason = (k.tid ≡ t) × (reason ≡ SyncFail)
Causes (AbortBranch s why) k reason = (k.serial ≡ s) × (reason ≡ why)
Causes (Replied s x r) k reason = (k.serial ≡ s) × (r ≡ VetoReply) × (reason ≡ Vetoed)
Causes (Got m) k reason = MessageCauses m.kind m k reason
Causes (Clock now) k reason = reason ≡ Timeout
Causes (LinkDown x) k reason = reason ≡ CommFail
Causes RunDown k reason = reason ≡ SegFail
Causes _ k reason = ⊥

-- each abort, and each outcome of an END_TRANS that is shown as one, has its cause; no event undoes a unit, which a boot alone does
abbrev pub HasCause : Event → Act → Type 0
HasCause e (Settles k ToAbort reason r) = Causes e k reason
HasCause e (Prints (Ended t (Some reason))) = (k : Key) × (k.tid ≡ t) × Causes e k reason
HasCause e (Undoes k) = ⊥
HasCause e _ = Unit {0}

-- so has each act of these
abbrev pub HaveCauses : Event → List Act → Type 0
HaveCauses e [] = Unit {0}
HaveCauses e (a ∷ acts) = HasCause e a × HaveCauses e acts
