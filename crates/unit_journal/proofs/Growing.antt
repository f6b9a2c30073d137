-- How numbers that only grow have grown in a call.
use Rattle.std.proofs.Common.{◌≡◌, ℕ, ◌+◌, ◌*◌, ◌<◌, ◌≤◌, ◌^◌, List, Option, Some, None, length, ap, arith, subst, sym, inl, inr}
use Rattle.std.specs.Prelude.{max}
use Rattle.journal_format.specs.journal_model.Entries.{Entry, spelling}
use Rattle.unit_table.specs.Units.{OpenUnit, earliest}
use Rattle.vms_base.specs.declared.ids.Serial.{Serial}
use Rattle.vms_base.specs.declared.ids.Tid.{Tid}
use Rattle.volume.specs.State.{VolumeState}
use Rattle.volume.specs.declared.catalog.Catalog.{Catalog}
use Rattle.volume_format.specs.declared.home.Ending.{Ending}
use Rattle.careful_write.specs.declared.down.Down.{Down}
use Rattle.unit_journal.specs.Groups.{Grows, GrowsOnce}
use Rattle.unit_journal.specs.Leaving.{FellIn}
use Rattle.unit_journal.specs.Settling.{from_earliest, settled_home, span_with, starting}

-- where home and journal are as they were
pub grows_as : (settlements clock : ℕ) (v w : VolumeState) → w.catalog.home ≡ v.catalog.home → w.catalog.ru.end ≤ v.catalog.ru.end + 2 ^ 22 → Grows settlements clock v w
grows_as settlements clock v w home end = record {
  node = λ i. (home i).node;
  boot = λ i. (home i).boot;
  greatest = let same : w.catalog.home.greatest_moment.0 ≡ v.catalog.home.greatest_moment.0 = λ i. (home i).greatest_moment.0 in omega (arith, same);
  end = end;
}

pub grows_nowhere : (settlements clock : ℕ) (v w : VolumeState) → w.catalog ≡ v.catalog → Grows settlements clock v w
grows_nowhere settlements clock v w same =
    let end : w.catalog.ru.end ≡ v.catalog.ru.end = λ i. (same i).ru.end in
    grows_as settlements clock v w (λ i. (same i).home) (omega (arith, end))

pub fell_grows : (settlements clock : ℕ) (down : Down) (v w : VolumeState) → FellIn down v w → Grows settlements clock v w
fell_grows settlements clock down v w is = grows_nowhere settlements clock v w (λ i. (is i).catalog)

-- where a branch was settled at this moment, and its entry is no longer than any
pub grows_from : (tid : Tid) (serial : Serial) (ending : Ending) (moment : ℕ) (e : Option Entry) (first : Option ℕ) (v w : VolumeState) → (span_with e v.catalog.ru).end ≤ v.catalog.ru.end + 2 ^ 22 →
    w.catalog ≡ record v.catalog { home = settled_home tid serial ending moment v.catalog.home; ru = starting first (span_with e v.catalog.ru) } → Grows 0 moment v w
grows_from tid serial ending moment e first v w short is = record {
  node = λ i. (is i).home.node;
  boot = λ i. (is i).home.boot;
  greatest = let at : w.catalog.home.greatest_moment.0 ≡ moment = λ i. (is i).home.greatest_moment.0 in omega (arith, at);
  end = let at : w.catalog.ru.end ≡ (span_with e v.catalog.ru).end = λ i. (is i).ru.end in omega (arith, at, short);
}

pub grows_settled : (tid : Tid) (serial : Serial) (ending : Ending) (moment : ℕ) (e : Option Entry) (left : List (Option OpenUnit)) (v w : VolumeState) → (span_with e v.catalog.ru).end ≤ v.catalog.ru.end + 2 ^ 22 →
    w.catalog ≡ record v.catalog { home = settled_home tid serial ending moment v.catalog.home; ru = from_earliest left (span_with e v.catalog.ru) } → Grows 0 moment v w
grows_settled tid serial ending moment e left v w short is = grows_from tid serial ending moment e (earliest left) v w short is

-- one settlement, where nothing was kept of it, and where it was

pub once_nowhere : (moment : ℕ) (v w : VolumeState) → w.catalog ≡ v.catalog → GrowsOnce moment v w
once_nowhere moment v w same = record { greatest = inl (λ i. (same i).home.greatest_moment.0); end = let at : w.catalog.ru.end ≡ v.catalog.ru.end = λ i. (same i).ru.end in omega (arith, at) }

pub once_from : (tid : Tid) (serial : Serial) (ending : Ending) (moment : ℕ) (e : Option Entry) (first : Option ℕ) (v w : VolumeState) → (span_with e v.catalog.ru).end ≤ v.catalog.ru.end + 48 →
    w.catalog ≡ record v.catalog { home = settled_home tid serial ending moment v.catalog.home; ru = starting first (span_with e v.catalog.ru) } → GrowsOnce moment v w
once_from tid serial ending moment e first v w short is = record {
  greatest = inr (λ i. (is i).home.greatest_moment.0);
  end = let at : w.catalog.ru.end ≡ (span_with e v.catalog.ru).end = λ i. (is i).ru.end in omega (arith, at, short);
}
