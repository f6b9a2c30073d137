-- How a node's numbers grow that only grow: the greatest moment of its settlements, and the ends of its journals.
use Rattle.std.specs.Prelude.{◌≡◌, ◌≤◌, ◌+◌, ◌*◌, ◌^◌, ℕ, List, [], ◌∷◌, length, max, Result, OnOk, if◌then◌else◌}
use Rattle.vms_model.specs.Limits.{branch_limit, moment_ceiling}
use Rattle.careful_write.specs.declared.down.Down.{Down}
use Rattle.recovery_units.specs.Uses.{Caused, DiskAdvances, down_of}
use Rattle.unit_table.specs.Units.{OpenUnit}
use Rattle.recovery_units.specs.image_room.Room.{images_end}
use Rattle.volume.specs.State.{VolumeState}
use Rattle.node_table.specs.Standing.{Stored}

-- how many groups with an entry of theirs units may still write: their settlement, and before it their preparation
abbrev pub groups_left : List OpenUnit → ℕ
groups_left [] = 0
groups_left (u ∷ us) = (if u.prepared then 1 else 2) + groups_left us

-- the furthest end of the volume's journals
abbrev pub furthest : VolumeState → ℕ
furthest v = max v.catalog.ru.end (images_end v.catalog.heads)

-- what the greatest moment may become by settlements of these units, and the furthest end by such groups, which have a ring's bytes at the most
abbrev pub moment_to_come : Stored → ℕ
moment_to_come s = s.volume.catalog.home.greatest_moment.0 + length s.units.begun

abbrev pub end_to_come : Stored → ℕ
end_to_come s = furthest s.volume + groups_left s.units.begun * 2 ^ 24

-- they are far from their ends
pub record IsEarlyFor (s : Stored) : Type 0 where
  pub moment : moment_to_come s ≤ moment_ceiling
  pub low : end_to_come s ≤ 2 ^ 62

-- They have not grown by more than settlements at this clock, and not at all by those of the units that there were.
pub record Grown (clock : ℕ) (old new : Stored) : Type 0 where
  pub moment : moment_to_come new ≤ max (moment_to_come old) (clock + branch_limit)
  pub end : end_to_come new ≤ end_to_come old

-- What calls leave, up to the first that fails: the volume's node, its boot and its frames; a failure raised its count.
pub record Stays {T : Type 0} (r : Result T Down) (clock : ℕ) (old new : Stored) : Type 0 where
  pub goes : DiskAdvances old.volume.store.disk new.volume.store.disk
  pub cause : Caused (down_of r) old.volume.store.disk new.volume.store.disk
  pub pool : new.volume.store.pool ≡ old.volume.store.pool
  pub node : new.volume.catalog.home.node ≡ old.volume.catalog.home.node
  pub boot : new.volume.catalog.home.boot ≡ old.volume.catalog.home.boot
  pub grown : OnOk r (Grown clock old new)
