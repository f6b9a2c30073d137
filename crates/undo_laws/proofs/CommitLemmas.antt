-- A branch of a node is committed on its volume.
use Rattle.std.proofs.Common.{◌≡◌, ℕ, List, ◌++◌, Option, refl, sym, ◌∙◌, ap, subst}
use Rattle.world_laws.specs.commit_protocol.Table as table
use Rattle.file_base.specs.declared.head.FileHead.{FileHead}
use Rattle.file_base.specs.declared.head.Span.{Span}
use Rattle.journal_model.specs.Ring.{IsJournal}
use Rattle.world_laws.specs.run_model.World.{Node, Settlement, Tables, acted}
use Rattle.world_laws.proofs.OrderedLemmas.{tables_keep_order}
use Rattle.volume.specs.Catalogs.{IsSound}
use Rattle.volume.specs.declared.catalog.Catalog.{Catalog}
use Rattle.unit_undo.specs.directory_model.Files.{AreFiles, head_at}
use Rattle.unit_undo.specs.directory_model.Laws.{settled_buckets}
use Rattle.unit_undo.specs.directory_model.Restoring.{AreRestorable}
use Rattle.unit_undo.proofs.directory_model.Acts.{keeps_files}
use Rattle.unit_undo.proofs.directory_model.Standing.{stands_on_extents}
use Rattle.image_groups.proofs.restart_laws.StayLemmas.{keeps_restorable}
use Rattle.image_groups.proofs.restart_laws.UnitLemmas.{keeps_units}
use Rattle.settlement_laws.specs.volume_model.Laws.{KeepsNames}
use Rattle.settlement_laws.specs.volume_model.Volumes.{HasJournal, HasLog, HasVolume}
use Rattle.settlement_laws.proofs.volume_laws.FollowLemmas.{follow}
use Rattle.settlement_laws.specs.volume_laws.Journals.{settled_entries}
use Rattle.settlement_laws.specs.Settled.{IsSettled}
use Rattle.undo_laws.specs.Committed.{CommitsSettle, IsCommit}
use Rattle.undo_laws.specs.Undone.{AgreeOnFiles, IsTold, IsToldIn}
use Rattle.undo_laws.proofs.SettledLemmas.{home_settled, may_table}
use Rattle.undo_laws.proofs.ToldLemmas.{files_told, is_told, names_told, restorable_told, ru_told}

module _ (a b e : List (List ℕ)) (k t : Catalog) (n : Node) (act : table.Act) (moment : ℕ) (s : Settlement) (has : HasVolume a k n) (is : IsCommit n act moment s) (sound : IsSound n.name n.blocks k) (beside : AgreeOnFiles k a b) (told : IsToldIn s n.durable.directory b e k t) where
  abbrev after : Node
  after = acted (Tables act moment) n

  files_beside : AreFiles b k.heads n.durable.directory
  files_beside = stands_on_extents a b k.heads n.durable.directory beside has.files

  -- the branch is committed in the buckets
  files_bare : AreFiles b k.heads (settled_buckets s n.durable.directory)
  files_bare = keeps_files.commits b k.heads n s files_beside has.units is.commit

  restorable_after : AreRestorable b k.heads after.durable.directory
  restorable_after = keeps_restorable.commits b k.heads n act moment s is.settles has.units (keeps_restorable.stands a b k.heads n.durable.directory beside has.files has.restorable)

  pub told_so : (j : HasJournal b k n) → IsTold n b e k t j
  told_so j = is_told n act moment s is.settles b e k t told files_bare sound j

  module _ (c : List (List ℕ)) (w : Catalog) (settled : IsSettled n s has.journal.entries e c t w) (log : HasLog c after) where
    names : KeepsNames k.heads w.heads
    names f h there = let it = names_told n act moment s is.settles b e k t told files_bare f h there in (it.0, ap (λ (hs : List (Option FileHead)). head_at hs f) settled.heads ∙ it.1, it.2)

    entered : IsJournal c (record w.ru { first = k.ru.first }) (has.journal.entries ++ settled_entries s n.durable.units)
    entered = subst (λ (r : Span). IsJournal c (record w.ru { first = r.first }) (has.journal.entries ++ settled_entries s n.durable.units)) (ru_told n act moment s is.settles b e k t told files_bare) settled.entered

    files_now : AreFiles e t.heads after.durable.directory
    files_now = files_told n act moment s is.settles b e k t told files_bare

    pub volume_committed : HasVolume c w after
    volume_committed = record {
      home = home_settled w.home n act moment s is.settles settled.home;
      log = log;
      journal = follow.settles a c k w n act moment s has.journal is.settles names entered settled.first settled.end settled.low;
      units = keeps_units.tables n act moment has.units;
      order = tables_keep_order n.durable n.volatile act moment has.order (may_table n act moment s is.settles is.may);
      told = is.told;
      files = subst (λ (hs : List (Option FileHead)). AreFiles c hs after.durable.directory) (sym settled.heads) (stands_on_extents e c t.heads after.durable.directory settled.files files_now);
      restorable = subst (λ (hs : List (Option FileHead)). AreRestorable c hs after.durable.directory) (sym settled.heads)
          (keeps_restorable.stands e c t.heads after.durable.directory settled.files files_now (restorable_told n act moment s is.settles b e k t told files_bare restorable_after));
    }

pub commits_settle : CommitsSettle
commits_settle = record {
  told = λ a b e k t n act moment s has is sound beside told j. told_so a b e k t n act moment s has is sound beside told j;
  has = λ a b e c k t w n act moment s has is sound beside told settled log. volume_committed a b e k t n act moment s has is sound beside told c w settled log;
}
