-- How numbers that only grow have grown, one abort after another.
use Rattle.std.proofs.Common.{◌≡◌, List, [], ◌∷◌, ◌++◌, ℕ, ◌+◌, ◌≤◌, Bool, true, false, if◌then◌else◌, refl, ◌∙◌, arith, inl, inr}
use Rattle.std.specs.Prelude.{max, nat_le}
use Rattle.std.proofs.lemmas.Bool.{leb-false}
use Rattle.unit_journal.specs.Groups.{Grows, GrowsOnce}
use Rattle.unit_journal.specs.Settling.{next_moment}
use Rattle.unit_undo.specs.Undoing.{ChangesHeads}
use Rattle.volume.specs.State.{VolumeState}
use Rattle.volume_format.specs.declared.home.Home.{Home}
use Rattle.unit_aborts.specs.Growing.{AreTold, GrowsBy}
use Rattle.unit_aborts.specs.declared.reopening.AbortedUnit.{AbortedUnit}

-- An undo changes heads alone.

pub undone_grows : (moment : ℕ) (v w : VolumeState) → ChangesHeads v w → Grows 0 moment v w
undone_grows moment v w same = record {
  node = λ i. (same i).home.node;
  boot = λ i. (same i).home.boot;
  greatest = let at : w.catalog.home.greatest_moment.0 ≡ v.catalog.home.greatest_moment.0 = λ i. (same i).home.greatest_moment.0 in omega (arith, at);
  end = let at : w.catalog.ru.end ≡ v.catalog.ru.end = λ i. (same i).ru.end in omega (arith, at);
}

pub undone_once : (moment : ℕ) (v w : VolumeState) → ChangesHeads v w → GrowsOnce moment v w
undone_once moment v w same = record { greatest = inl (λ i. (same i).home.greatest_moment.0); end = let at : w.catalog.ru.end ≡ v.catalog.ru.end = λ i. (same i).ru.end in omega (arith, at) }

-- and so a settlement behind it grows them as it does alone
module _ (moment : ℕ) (v mid w : VolumeState) (same : ChangesHeads v mid) where
  greatest : mid.catalog.home.greatest_moment.0 ≡ v.catalog.home.greatest_moment.0
  greatest = λ i. (same i).home.greatest_moment.0

  end : mid.catalog.ru.end ≡ v.catalog.ru.end
  end = λ i. (same i).ru.end

  pub grows_behind : Grows 0 moment mid w → Grows 0 moment v w
  grows_behind g = record {
    node = g.node ∙ (λ i. (same i).home.node);
    boot = g.boot ∙ (λ i. (same i).home.boot);
    greatest = let a = g.greatest in omega (arith, a, greatest);
    end = let a = g.end in omega (arith, a, end);
  }

  pub once_behind : GrowsOnce moment mid w → GrowsOnce moment v w
  once_behind g = record { greatest = elim g.greatest [ inl stays ↦ inl (stays ∙ greatest) | inr is ↦ inr is ]; end = let a = g.end in omega (arith, a, end) }

-- The next moment is later, by a tick beyond the clock at most.
next_near : (clock : ℕ) (home : Home) → (home.greatest_moment.0 ≤ next_moment clock home) × (next_moment clock home ≤ max home.greatest_moment.0 clock + 1)
next_near clock home = go (nat_le clock (home.greatest_moment.0 + 1)) refl
  where
    go : (b : Bool) → nat_le clock (home.greatest_moment.0 + 1) ≡ b →
        (home.greatest_moment.0 ≤ (if b then home.greatest_moment.0 + 1 else clock)) × ((if b then home.greatest_moment.0 + 1 else clock) ≤ max home.greatest_moment.0 clock + 1)
    go true e = (omega arith, omega arith)
    go false e = let far = leb-false clock (home.greatest_moment.0 + 1) e in (omega (arith, far), omega arith)

-- Aborts of units.

pub by_none : (units clock : ℕ) (v w : VolumeState) → w.catalog ≡ v.catalog → GrowsBy units clock v w
by_none units clock v w same =
    let greatest : w.catalog.home.greatest_moment.0 ≡ v.catalog.home.greatest_moment.0 = λ i. (same i).home.greatest_moment.0 in
    let end : w.catalog.ru.end ≡ v.catalog.ru.end = λ i. (same i).ru.end in
    record {
      node = λ i. (same i).home.node;
      boot = λ i. (same i).home.boot;
      later = omega (arith, greatest);
      greatest = omega (arith, greatest);
      end = omega (arith, end);
    }

pub by_one : (clock moment : ℕ) (v w : VolumeState) → moment ≡ next_moment clock v.catalog.home → Grows 0 moment v w → GrowsOnce moment v w → GrowsBy 1 clock v w
by_one clock moment v w is g once =
    let near = next_near clock v.catalog.home in
    record {
      node = g.node;
      boot = g.boot;
      later = elim once.greatest [ inl stays ↦ omega (arith, stays) | inr at ↦ omega (arith, at, is, near.0) ];
      greatest = elim once.greatest [ inl stays ↦ omega (arith, stays) | inr at ↦ omega (arith, at, is, near.1) ];
      end = let a = once.end in omega (arith, a);
    }

pub by_more : (units clock : ℕ) (u v w : VolumeState) → GrowsBy units clock u v → GrowsBy 1 clock v w → GrowsBy (units + 1) clock u w
by_more units clock u v w first second = record {
  node = second.node ∙ first.node;
  boot = second.boot ∙ first.boot;
  later = let a = first.later in let b = second.later in omega (arith, a, b);
  greatest = let a = first.greatest in let b = second.greatest in omega (arith, a, b);
  end = let a = first.end in let b = second.end in omega (arith, a, b);
}

pub by_most : (most clock : ℕ) (u v : VolumeState) (units : ℕ) → units ≤ most → GrowsBy units clock u v → GrowsBy most clock u v
by_most most clock u v units le g = record {
  node = g.node;
  boot = g.boot;
  later = g.later;
  greatest = let a = g.greatest in omega (arith, a, le);
  end = let a = g.end in omega (arith, a, le);
}

-- What was told is no later than the greatest moment.

pub told_on : (v w : VolumeState) (out : List AbortedUnit) → v.catalog.home.greatest_moment.0 ≤ w.catalog.home.greatest_moment.0 → AreTold v out → AreTold w out
told_on v w [] le all = tt
told_on v w (t ∷ ts) le all = ((let one = all.0 in omega (arith, one, le)), told_on v w ts le all.1)

pub told_more : (w : VolumeState) (out : List AbortedUnit) (t : AbortedUnit) → t.moment.0 ≤ w.catalog.home.greatest_moment.0 → AreTold w out → AreTold w (out ++ t ∷ [])
told_more w [] t is all = (is, tt)
told_more w (s ∷ ts) t is all = (all.0, told_more w ts t is all.1)
