-- The laws that a node's tasks rest on.
use Rattle.world_laws.specs.Nodes.{BootsKeepUp, RowsKeepUp}
use Rattle.node_table.specs.recovery_units.Laws.{KeepsNodes}

pub record TheLaws : Type 0 where
  pub nodes : KeepsNodes
  pub rows : RowsKeepUp
  pub boots : BootsKeepUp
