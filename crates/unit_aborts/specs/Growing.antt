-- How numbers of a volume that only grow have grown in aborts.
use Rattle.std.specs.Prelude.{◌≡◌, ◌≤◌, ◌*◌, ◌+◌, ℕ, max, List}
use Rattle.std.specs.List.{AllByRecursion}
use Rattle.volume.specs.State.{VolumeState}
use Rattle.unit_aborts.specs.declared.reopening.AbortedUnit.{AbortedUnit}

-- What so many aborts at a clock leave, however the last of them ended: the node and its boot are the same, the greatest moment is no earlier, and later by no
-- more than a tick for each beyond the clock, and the journal is longer by no more than their entries.
pub record GrowsBy (units clock : ℕ) (v w : VolumeState) : Type 0 where
  pub node : w.catalog.home.node ≡ v.catalog.home.node
  pub boot : w.catalog.home.boot ≡ v.catalog.home.boot
  pub later : v.catalog.home.greatest_moment.0 ≤ w.catalog.home.greatest_moment.0
  pub greatest : w.catalog.home.greatest_moment.0 ≤ max v.catalog.home.greatest_moment.0 clock + units
  pub end : w.catalog.ru.end ≤ v.catalog.ru.end + 48 * units

-- no settlement that was told is later than the greatest moment
abbrev pub AreTold : VolumeState → List AbortedUnit → Type 0
AreTold v out = AllByRecursion (λ (t : AbortedUnit). t.moment.0 ≤ v.catalog.home.greatest_moment.0) out
