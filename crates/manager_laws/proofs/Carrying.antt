-- What holds of each branch of a node holds of each behind an act of a row, where the row keeps it.
use Rattle.std.proofs.Common.{Bool, true, false, List, [], ◌∷◌, ◌++◌, inl, inr, Option, Some, None, if◌then◌else◌, refl, sym, subst}
use Rattle.vms_model.specs.Ids.{Id}
use Rattle.records_model.specs.History.{same_id}
use Rattle.commit_protocol.specs.Messages.{Name}
use Rattle.commit_protocol.specs.Table as table
use Rattle.commit_protocol.specs.Table.{Branch, Prepared, table_after}
use Rattle.commit_protocol.specs.World.{In}
use Rattle.world_laws.specs.run_model.World as world
use Rattle.world_laws.specs.run_model.World.{Act, Node, Tables, with_changed}
use Rattle.world_laws.specs.run_model.Steps.{node_after}
use Rattle.run_laws.proofs.Moving.{in_cut, in_put}
use Rattle.manager_laws.proofs.Taking.{HoldsIn, IsSteady}
use Rattle.manager_laws.proofs.TasksTake.{AllSo, RowHolds}

module _ (P : Branch → Type 0) (Q : List Name → Type 0) (steady : IsSteady P) where
  table_so : (a : table.Act) (bs : List Branch) → HoldsIn P a → ((b : Branch) → In b bs → P b) → (x : Branch) → In x (table_after a bs) → P x
  table_so (table.Notes b) bs q h x i = elim (in_put b x bs i) [ inl same ↦ subst P (sym same) q | inr old ↦ h x old ]
  table_so (table.Accepts b c) bs q h x i = elim (in_put (record b { accepted = b.accepted ++ c ∷ [] }) x bs i) [ inl same ↦ subst P (sym same) (steady.accepts b c q) | inr old ↦ h x old ]
  table_so (table.Prepares b) bs q h x i = elim (in_put (record b { state = Prepared }) x bs i) [ inl same ↦ subst P (sym same) (steady.prepares b q.1 q.0) | inr old ↦ h x old ]
  table_so (table.Settles k o reason r) bs q h x i = h x (in_cut k x bs i)
  table_so (table.Leaves k) bs q h x i = h x (in_cut k x bs i)
  table_so (table.Undoes k) bs q h x i = h x (in_cut k x bs i)
  table_so _ bs q h x i = h x i

  changed_so : (serial : Id) (bs : List Branch) → ((b : Branch) → In b bs → P b) → (x : Branch) → In x (with_changed serial bs) → P x
  changed_so serial [] h x i = absurd i
  changed_so serial (b ∷ bs) h x i = go (same_id serial b.key.serial) i (changed_so serial bs (λ y j. h y (inr j)) x)
    where
      go : (t : Bool) → In x (if t then record b { changed = true } ∷ bs else b ∷ with_changed serial bs) → (In x (with_changed serial bs) → P x) → P x
      go true (inl same) more = subst P (sym same) (steady.changed b (h b (inl refl)))
      go true (inr j) more = h x (inr j)
      go false (inl same) more = subst P (sym same) (h b (inl refl))
      go false (inr j) more = more j

  pub act_so : (o : Option Act) (n : Node) → RowHolds P Q o → AllSo P n → AllSo P (node_after o n)
  act_so None n q h = h
  act_so (Some (Tables a moment)) n q h = table_so a n.volatile.branches q h
  act_so (Some (world.Changes tid serial file cs keys)) n q h = changed_so serial n.volatile.branches h
  act_so (Some world.Boots) n q h = absurd q
  act_so (Some _) n q h = h
