-- The entries of a journal that is in order can be shown.
use Rattle.std.proofs.Common.{◌≤◌, ℕ, List, sym, ◌∙◌, ap, subst}
use Rattle.std.specs.List.{AllByRecursion}
use Rattle.extents.specs.file_base.declared.head.FileHead.{FileHead}
use Rattle.extents.specs.file_base.declared.head.Organization.{Organization as Kept}
use Rattle.extents.specs.file_base.declared.head.Organization.TheVariants as kept
use Rattle.recovery_units.specs.volume.declared.catalog.Catalog.{Catalog}
use Rattle.vms_model.specs.Keys.{Key, Number, Text, End}
use Rattle.unit_laws.specs.Journal.{ChangeEntry, JournalEntry, PreparedEntry, SettledEntry}
use Rattle.recovery_units.specs.run_model.World.{Node, find_file}
use Rattle.recovery_units.specs.world_laws.Ordered.{IsKeyOf, IsSettledBy, Suits}
use Rattle.volume_laws.specs.directory_model.Files.{organized_by}
use Rattle.volume_laws.proofs.directory_model.Places.{file_there}
use Rattle.volume_laws.proofs.restart_laws.ListLemmas.{both_as}
use Rattle.recovery_units.specs.volume_model.Volumes.{HasVolume}
use Rattle.recovery_units.specs.State.{IsKeyBy, IsShowable}
use Rattle.unit_world.proofs.Found.{found_by}

key_by : (o : Kept) (h : FileHead) (key : Key) → IsKeyOf (organized_by o h) key → IsKeyBy o key
key_by kept.Sequential h (Number n) is = is.1
key_by kept.Sequential h (Text bytes) is = absurd is
key_by kept.Sequential h End is = absurd is
key_by kept.Relative h (Number n) is = is.2
key_by kept.Relative h (Text bytes) is = absurd is
key_by kept.Relative h End is = absurd is
key_by kept.Indexed h (Number n) is = absurd is
key_by kept.Indexed h (Text bytes) is = tt
key_by kept.Indexed h End is = absurd is

pub shows : (content : List (List ℕ)) (v : Catalog) (n : Node) → HasVolume content v n → AllByRecursion (IsShowable v.heads v.home.greatest_moment.0) n.durable.units.entries
shows content v n has = both_as (Suits n.durable.directory) (IsSettledBy n.durable.greatest) (IsShowable v.heads v.home.greatest_moment.0) n.durable.units.entries each has.order.suit has.order.moments
  where
    each : (e : JournalEntry) → Suits n.durable.directory e → IsSettledBy n.durable.greatest e → IsShowable v.heads v.home.greatest_moment.0 e
    each (ChangeEntry tid serial file key before) suits by = λ f h at called.
        let there = file_there content v.heads n.durable.directory f h has.files at in
        let found = (found_by n f there.0 has.units there.1).found in
        let is = suits there.0 (ap (λ x. find_file x n.durable.directory) (sym (there.2.head.name ∙ called)) ∙ found) in
        key_by h.organization h key (subst (λ o. IsKeyOf o key) there.2.head.organization is.0)
    each (PreparedEntry tid serial) suits by = tt
    each (SettledEntry tid serial outcome moment) suits by = subst (λ k. moment ≤ k) has.home.greatest by
