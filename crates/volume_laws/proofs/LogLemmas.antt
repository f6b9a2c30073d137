-- The log in the slots follows the acts of the node.
use Rattle.std.proofs.Common.{◌≡◌, ◌≤◌, ◌+◌, ℕ, List, [], ◌∷◌, length, true, Some, refl, sym, ◌∙◌, ap, subst, arith}
use Rattle.std.specs.List.{AllByRecursion}
use Rattle.volume_model.specs.commit_protocol.Agreement.{Distinct}
use Rattle.volume_model.specs.commit_protocol.Messages.{LogRecord}
use Rattle.volume_model.specs.commit_protocol.Table.{record_serials}
use Rattle.volume_model.specs.log_laws.Slots.{Slots, records_in}
use Rattle.volume_model.specs.lmcp_log.Keeping.{IsWhole, Keeps, SameSlots}
use Rattle.volume_model.proofs.lmcp_log.Keepings.{keeps_beside}
use Rattle.volume_model.proofs.lmcp_log.Whole.{beside_whole}
use Rattle.vms_model.specs.Ids.{Id}
use Rattle.unit_laws.specs.Journal.{Journal}
use Rattle.restart_laws.specs.run_model.World.{IsLogInOrder, IsReached, Node}
use Rattle.volume_model.specs.Volumes.{HasLog}

pub stays : (a b : List (List ℕ)) (n m : Node) → HasLog a n → m.durable.log ≡ n.durable.log → SameSlots (length n.durable.log) a b → HasLog b m
stays a b n m has log same = record {
  keeps = subst (λ (ss : Slots). Keeps ss b) (sym log) (keeps_beside n.durable.log a b has.keeps same);
  whole = subst (λ (ss : Slots). IsWhole ss b) (sym log) (beside_whole n.durable.log a b has.whole same);
}

-- an id that was reached is, in later boots of the node
reached_later : (n m : Node) (x : Id) → m.name ≡ n.name → n.durable.boot ≤ m.durable.boot → IsReached n x → IsReached m x
reached_later n m x name boot is = (is.0 ∙ sym name, (let below = is.1 in omega (arith, boot, below)))

all_reached : (n m : Node) (rs : List LogRecord) → m.name ≡ n.name → n.durable.boot ≤ m.durable.boot → AllByRecursion (λ (r : LogRecord). IsReached n r.serial) rs → AllByRecursion (λ (r : LogRecord). IsReached m r.serial) rs
all_reached n m [] name boot all = tt
all_reached n m (r ∷ rs) name boot all = (reached_later n m r.serial name boot all.0, all_reached n m rs name boot all.1)

-- a node with this log and journal in place of its own
abbrev with_both : Node → Slots → Journal → Node
with_both m log units = record m { durable = record m.durable { log = log; units = units } }

pub told : (n m : Node) → IsLogInOrder n → m.name ≡ n.name → n.durable.boot ≤ m.durable.boot → m.durable.log ≡ n.durable.log → m.durable.units ≡ n.durable.units → IsLogInOrder m
told n m is name boot log units = subst (λ (j : Journal). IsLogInOrder (with_both m m.durable.log j)) (sym units) (subst (λ (ss : Slots). IsLogInOrder (with_both m ss n.durable.units)) (sym log) (record {
  distinct = is.distinct;
  reached = all_reached n (with_both m n.durable.log n.durable.units) (records_in n.durable.log) name boot is.reached;
  prepared_within = is.prepared_within;
  committed_within = is.committed_within;
  prepared = is.prepared;
  active = is.active;
  transactions = is.transactions;
  unsettled = is.unsettled;
  few = is.few;
  slots = is.slots;
}))
