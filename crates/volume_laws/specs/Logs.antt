-- How the log in a volume's slots follows the acts of its node.
use Rattle.std.specs.Prelude.{◌≡◌, ◌≤◌, ℕ, List, Some, false, length}
use Rattle.volume_format.specs.declared.home.Home.{Home}
use Rattle.volume_model.specs.volume.Empty.{IsEmptyVolume}
use Rattle.volume_model.specs.lmcp_log.Keeping.{SameSlots}
use Rattle.unit_laws.specs.Journal.{RecoveryUnit, find_unit, units_in}
use Rattle.volume_model.specs.commit_protocol.Table as table
use Rattle.restart_laws.specs.run_model.World.{IsLogInOrder, Node, Settlement, Formats, Tables, acted, settlement_of}
use Rattle.volume_model.specs.Volumes.{HasLog}

pub record LogsFollow : Type 0 where
  -- a new volume has no record
  pub formats : (c : List (List ℕ)) (home : Home) (n : Node) (journal : ℕ) → IsEmptyVolume home c → HasLog c (acted (Formats home.slots journal) n)
  -- an act that leaves the log
  pub stays : (a b : List (List ℕ)) (n m : Node) → HasLog a n → m.durable.log ≡ n.durable.log → SameSlots (length n.durable.log) a b → HasLog b m
  -- and one that leaves the journal too: they tell one another still
  pub told : (n m : Node) → IsLogInOrder n → m.name ≡ n.name → n.durable.boot ≤ m.durable.boot → m.durable.log ≡ n.durable.log → m.durable.units ≡ n.durable.units → IsLogInOrder m
  -- and once a unit is settled that is not prepared
  pub settles : (n : Node) (a : table.Act) (moment : ℕ) (s : Settlement) (u : RecoveryUnit) → settlement_of a moment ≡ Some s → IsLogInOrder n → find_unit s.serial (units_in n.durable.units.entries) ≡ Some u → u.prepared ≡ false →
      (acted (Tables a moment) n).durable.log ≡ n.durable.log → IsLogInOrder (acted (Tables a moment) n)
