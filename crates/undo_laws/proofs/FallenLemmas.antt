-- What a node that falls leaves of a volume in which a branch is undone.
use Rattle.std.proofs.Common.{◌≡◌, ℕ, List, Option, None, refl, sym, subst, inl, arith}
use Rattle.block_disk.specs.Disk.{DiskState}
use Rattle.careful_write.specs.State.{Leaves}
use Rattle.world_laws.specs.run_model.World.{Node, Act, Volume, Sound, Faulty, Barred, Unknown, AreUnitsOf, fallen}
use Rattle.volume.specs.declared.catalog.Catalog.{Catalog}
use Rattle.volume_format.specs.declared.home.Home.{Home}
use Rattle.settlement_laws.specs.volume_model.Homes.{HasHome}
use Rattle.settlement_laws.specs.volume_model.Volumes.{BarsBoots, FailsFirst, HasDisk, LeavesVolume, IsEitherOf}
use Rattle.settlement_laws.proofs.volume_laws.ToldLemmas.{logs_follow}
use Rattle.undo_laws.specs.Undone.{UndosFail}
use Rattle.undo_laws.proofs.WayLemmas.{left_on_the_way}

pub home_falls : (h : Home) (n : Node) (act : Option Act) → HasHome h n → HasHome h (fallen act n)
home_falls h n act has = record { volume = has.volume; slots = has.slots; journal = has.journal; boot = has.boot; greatest = has.greatest; last = has.last }

pub units_fall : (n : Node) (act : Option Act) → AreUnitsOf n → AreUnitsOf (fallen act n)
units_fall n act are = record { tells = are.tells; marked = λ up. let never : ⊥ = cc in absurd never; reached = are.reached; names = are.names }

abbrev pub volume_left_fallen : (a : List (List ℕ)) (k : Catalog) (n : Node) (act : Option Act) → LeavesVolume a k n → LeavesVolume a k (fallen act n)
volume_left_fallen a k n act left = record {
  home = home_falls k.home n act left.home;
  log = record { keeps = left.log.keeps; whole = left.log.whole };
  journal = record { entries = left.journal.entries; is = left.journal.is; alike = left.journal.alike; first = left.journal.first; end = left.journal.end; low = left.journal.low };
  units = units_fall n act left.units;
  order = left.order;
  told = logs_follow.told n (fallen act n) left.told refl (omega arith) refl refl;
  files = left.files;
  prepared = left.prepared;
}

abbrev disk_with : Node → DiskState → Volume → Type 0
disk_with m d Sound = Leaves (IsEitherOf m) d
disk_with m d (Faulty condition block) = FailsFirst m.name condition block d × (m.under_way ≡ None)
disk_with m d (Barred bar) = BarsBoots m.name m.blocks bar d × (m.under_way ≡ None)
disk_with m d Unknown = Unit {0}

disk_is : (m : Node) (d : DiskState) (x : Volume) → x ≡ Sound → Leaves (IsEitherOf m) d → disk_with m d x
disk_is m d x is leaves = subst (disk_with m d) (sym is) leaves

pub has_disk : (m : Node) (d : DiskState) → m.durable.volume ≡ Sound → Leaves (IsEitherOf m) d → HasDisk m d
has_disk m d is leaves = go m.durable.volume (disk_is m d m.durable.volume is leaves)
  where
    go : (x : Volume) → disk_with m d x → elim x as (λ _. Type 0) [ Sound ↦ Leaves (IsEitherOf m) d | Faulty condition block ↦ FailsFirst m.name condition block d × (m.under_way ≡ None) | Barred bar ↦ BarsBoots m.name m.blocks bar d × (m.under_way ≡ None) | Unknown ↦ Unit {0} ]
    go Sound is = is
    go (Faulty condition block) is = is
    go (Barred bar) is = is
    go Unknown is = is

pub undos_fail : UndosFail
undos_fail serial a k n act left ways sound size d leaves =
    has_disk (fallen act n) d left.home.volume (λ image may. let l = leaves image may in (l.0, inl (left_on_the_way serial a k (fallen act n) (volume_left_fallen a k n act left) ways sound size _ l.1)))
