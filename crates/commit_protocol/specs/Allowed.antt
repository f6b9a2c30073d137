-- Which events a node is told: a statement that is refused, by the state of its branch or by a limit, is none.
use Rattle.std.specs.Prelude.{◌+◌, ◌&&◌, Bool, true, false, List, Option, Some, None, not, nat_lt, length}
use Rattle.std.specs.List.{list_any}
use Rattle.vms_model.specs.Ids.{Id}
use Rattle.vms_model.specs.Limits.{bid_limit, branch_limit, slot_limit}
use Rattle.commit_protocol.specs.Messages.{Name, RmEvent, PrepareEvent, CommitEvent, OnePhaseEvent, Reply, PreparedReply, ForgetReply, VetoReply, RememberReply, NormalReply, LogRecord, same_name}
use Rattle.commit_protocol.specs.Table.{Branch, State, Active, Prepared, Tm, first, is_first, find, find_serial, holds}
use Rattle.commit_protocol.specs.Rows.{Event, Start, Authorise, Begin, JoinRm, Changed, EndTrans, EndBranch, AbortBranch, Replied, Got, Clock, LinkDown, RunDown, InquireBranch}

-- the branch is active
abbrev pub is_active : State → Bool
is_active Active = true
is_active _ = false

-- the branch is prepared
abbrev pub is_prepared : State → Bool
is_prepared Prepared = true
is_prepared _ = false

-- there is such a branch, and this is true of it
abbrev pub there_is : Option Branch → (Branch → Bool) → Bool
there_is None test = false
there_is (Some b) test = test b

-- A node has at most 64 unsettled branches, and a log has at most 512 slots for them and for committed records. A log with fewer slots refuses earlier.
abbrev pub has_room : Tm → Bool
has_room tm = nat_lt (length tm.table) branch_limit && nat_lt (length tm.table + length tm.records) slot_limit

-- at most 15 branches are authorised for a transaction
abbrev pub may_authorise : Branch → Bool
may_authorise b = is_active b.state && nat_lt (length b.bids) bid_limit

-- a branch that has joined its coordinator and is not ended
abbrev pub is_working : Branch → Bool
is_working b = is_active b.state && not b.ended

-- at most 8 managers join a branch, each once
abbrev pub may_join : Name → Branch → Bool
may_join x b = is_working b && nat_lt (length b.managers) 8 && not (list_any (λ m. same_name m.rm x) b.managers)

-- END_BRANCH is of another branch than the first
abbrev pub may_end : Branch → Bool
may_end b = is_working b && not (is_first b)

-- the replies to an event
abbrev pub answers : RmEvent → Reply → Bool
answers PrepareEvent PreparedReply = true
answers PrepareEvent ForgetReply = true
answers PrepareEvent VetoReply = true
answers CommitEvent ForgetReply = true
answers CommitEvent RememberReply = true
answers OnePhaseEvent NormalReply = true
answers OnePhaseEvent PreparedReply = true
answers OnePhaseEvent VetoReply = true
answers _ _ = false

-- the reply is one to the event that waits, if one waits
abbrev pub answers_waiting : Option RmEvent → Reply → Bool
answers_waiting None r = false
answers_waiting (Some e) r = answers e r

-- the manager has joined the branch, and the reply is one to the event that waits for it
abbrev pub may_reply : Name → Reply → Branch → Bool
may_reply x r b = list_any (λ m. same_name m.rm x && answers_waiting m.event r) b.managers

-- an unsettled branch of the serial waits for the reply, or else its committed record does
abbrev pub reply_allowed : Id → Name → Reply → Option Branch → List LogRecord → Bool
reply_allowed s x r (Some b) rs = may_reply x r b
reply_allowed s x r None rs = list_any (λ q. holds s x q) rs && answers CommitEvent r

-- the node may be told of this event
abbrev pub allowed : Tm → Event → Bool
allowed tm (Start t due) = has_room tm
allowed tm (Authorise t bid) = there_is (find (first t) tm.table) may_authorise
allowed tm (Begin t s bid) = has_room tm
allowed tm (JoinRm s x) = there_is (find_serial s tm.table) (may_join x)
allowed tm (Changed s) = there_is (find_serial s tm.table) is_working
allowed tm (EndTrans t) = there_is (find (first t) tm.table) (λ b. is_active b.state)
allowed tm (EndBranch s) = there_is (find_serial s tm.table) may_end
allowed tm (AbortBranch s reason) = there_is (find_serial s tm.table) (λ b. not (is_prepared b.state))
allowed tm (Replied s x r) = reply_allowed s x r (find_serial s tm.table) tm.records
allowed tm (Got m) = true
allowed tm (Clock now) = true
allowed tm (LinkDown x) = true
allowed tm RunDown = true
allowed tm (InquireBranch s) = there_is (find_serial s tm.table) (λ b. is_prepared b.state)
