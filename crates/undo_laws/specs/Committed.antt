-- A branch of a node is committed on its volume.
use Rattle.std.specs.Prelude.{◌≡◌, ℕ, List, Some}
use Rattle.vms_model.specs.Transactions.{Commit}
use Rattle.world_laws.specs.commit_protocol.Table as table
use Rattle.world_laws.specs.run_model.World.{Node, IsLogInOrder, Settlement, Tables, acted, settlement_of}
use Rattle.volume.specs.declared.catalog.Catalog.{Catalog}
use Rattle.volume.specs.Catalogs.{IsSound}
use Rattle.settlement_laws.specs.volume_model.Volumes.{HasJournal, HasLog, HasVolume}
use Rattle.settlement_laws.specs.Settled.{IsSettled, MaySettle}
use Rattle.undo_laws.specs.Undone.{AgreeOnFiles, IsTold, IsToldIn}

-- An act of the table commits a branch of a node so: the branch may be settled, and the log and the journal tell one another after it.
pub record IsCommit (n : Node) (act : table.Act) (moment : ℕ) (s : Settlement) : Type 0 where
  pub settles : settlement_of act moment ≡ Some s
  pub commit : s.outcome ≡ Commit
  pub may : MaySettle n s
  pub told : IsLogInOrder (acted (Tables act moment) n)

-- The volume is that of the node after a branch is committed: its record in the log may have been written, then its outcome is put into the journals of images of the
-- files that it changed, and then it is settled.
pub record CommitsSettle : Type 0 where
  pub told : (a b e : List (List ℕ)) (k t : Catalog) (n : Node) (act : table.Act) (moment : ℕ) (s : Settlement) → HasVolume a k n → IsCommit n act moment s → IsSound n.name n.blocks k → AgreeOnFiles k a b → IsToldIn s n.durable.directory b e k t → (j : HasJournal b k n) →
      IsTold n b e k t j
  pub has : (a b e c : List (List ℕ)) (k t w : Catalog) (n : Node) (act : table.Act) (moment : ℕ) (s : Settlement) (has : HasVolume a k n) → IsCommit n act moment s → IsSound n.name n.blocks k → AgreeOnFiles k a b → IsToldIn s n.durable.directory b e k t →
      IsSettled n s has.journal.entries e c t w → HasLog c (acted (Tables act moment) n) → HasVolume c w (acted (Tables act moment) n)
