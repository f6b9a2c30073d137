-- That no journal of images of a node tells of a settlement at a later moment than the greatest on its disk.
use Rattle.std.proofs.Common.{◌≡◌, ◌<◌, ◌≤◌, ℕ, ◌+◌, List, [], ◌∷◌, Bool, true, false, Option, Some, None, if◌then◌else◌, refl, sym, subst, arith}
use Rattle.std.specs.Prelude.{nat_le}
use Rattle.std.specs.List.{AllByRecursion}
use Rattle.std.proofs.lemmas.Bool.{leb-false}
use Rattle.run_model.specs.recovery_model.Journal as image
use Rattle.run_model.specs.recovery_model.Journal.{Before}
use Rattle.run_model.specs.recovery_model.File.{ImageJournal, IsInOrder, Placed, all_of}
use Rattle.run_model.specs.World.{Carried, File, KeepsImages, Node, next_moment}
use Rattle.world_laws.specs.Nodes.{IsTellingBy}
use Rattle.world_laws.specs.Running.{AllImages}
use Rattle.world_laws.proofs.ImageLemmas.{images_more}

by_later : (g k : ℕ) → g ≤ k → (e : image.Entry) → IsTellingBy g e → IsTellingBy k e
by_later g k low (image.Changed serial key value) h = tt
by_later g k low (image.Settled serial outcome at) h = omega (arith, low, h)

pub carries_later : (g k : ℕ) (r : Carried) → g ≤ k → AllImages (IsTellingBy g) r → AllImages (IsTellingBy k) r
carries_later g k r low h = images_more (IsTellingBy g) (IsTellingBy k) r (by_later g k low) h

-- a settlement comes later than all that are on the disk
pub next_later : (n : Node) → n.durable.greatest < next_moment n
next_later n = go (nat_le n.clock (n.durable.greatest + 1)) refl
  where
    go : (b : Bool) → nat_le n.clock (n.durable.greatest + 1) ≡ b → n.durable.greatest < (if b then n.durable.greatest + 1 else n.clock)
    go true e = omega arith
    go false e = let less = leb-false n.clock (n.durable.greatest + 1) e in omega (arith, less)

-- What journals tell of branches has it.

told_before : (g k : ℕ) (es : List image.Entry) → k ≤ g + 1 → Before k es → AllByRecursion (IsTellingBy g) es
told_before g k [] low h = tt
told_before g k (image.Changed serial key value ∷ es) low h = (tt, told_before g k es low h)
told_before g k (image.Settled serial outcome at ∷ es) low h = let less = h.0 in (omega (arith, low, less), told_before g at es (omega (arith, low, less)) h.1)

told_on : (g : ℕ) (j : ImageJournal) → IsInOrder j → (j.on ≡ true → Before (g + 1) (all_of j.entries)) → AllByRecursion (IsTellingBy g) (all_of j.entries)
told_on g j order rises = go j.on refl
  where
    go : (b : Bool) → j.on ≡ b → AllByRecursion (IsTellingBy g) (all_of j.entries)
    go true e = told_before g (g + 1) (all_of j.entries) (omega arith) (rises e)
    go false e = subst (λ (xs : List Placed). AllByRecursion (IsTellingBy g) (all_of xs)) (sym (order.bare e).2) tt

pub kept_by : (name : List ℕ) (boot g : ℕ) (f : File) → KeepsImages name boot g f → AllImages (IsTellingBy g) f.carried
kept_by name boot g f k = record {
  after = told_on g f.carried.after k.after_order (λ on. (k.after_branches on).rises);
  before = told_on g f.carried.before k.before_order (λ on. (k.before_branches on).rises);
}
