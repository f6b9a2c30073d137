-- Groups that set a record of the log too.
use Rattle.std.proofs.Common.{◌≡◌, ℕ, ◌+◌, ◌≤◌, ◌^◌, Bool, true, false, List, Option, Some, ap, subst, ◌∙◌, arith, inl, inr}
use Rattle.std.specs.Prelude.{◌⊎◌, if◌then◌else◌, max}
use Rattle.journal_model.specs.Entries.{Entry}
use Rattle.unit_journal.specs.Settling.{span_with}
use Rattle.careful_write.specs.Reads.{SameButReads}
use Rattle.careful_write.specs.State.{IsEither, Leaves, content}
use Rattle.unit_journal.specs.Groups.{Breaks, Grows, GrowsOnce}
use Rattle.volume.specs.State.{VolumeState}
use Rattle.volume.specs.declared.catalog.Catalog.{Catalog}

-- the disk's content is as it was, where only other blocks were staged
pub same_content : (v mid : VolumeState) → SameButReads (record v.store { current = mid.store.current; touched = mid.store.touched }) mid.store → content mid.store ≡ content v.store
same_content v mid rest = ap content rest

-- what broke from there on broke from the start
pub breaks_from : (P Q : VolumeState → Type 0) (v mid w : VolumeState) → content mid.store ≡ content v.store → ((x : VolumeState) → P x → Q x) → Breaks P mid w → Breaks Q v w
breaks_from P Q v mid w same so (inl old) = inl (subst (λ (o : Option (List (List ℕ))). Leaves (λ c. Some c ≡ o) w.store.disk) same old)
breaks_from P Q v mid w same so (inr either) = inr (record {
  made = either.made;
  is = so either.made either.is;
  either = subst (λ (o : Option (List (List ℕ))). Leaves (IsEither o either.made.store.current) w.store.disk) same either.either;
})

pub grows_from_there : (n clock : ℕ) (v mid w : VolumeState) → mid.catalog ≡ v.catalog → Grows n clock mid w → Grows n clock v w
grows_from_there n clock v mid w same g = record {
  node = g.node ∙ ap (λ (k : Catalog). k.home.node) same;
  boot = g.boot ∙ ap (λ (k : Catalog). k.home.boot) same;
  greatest = subst (λ (k : Catalog). w.catalog.home.greatest_moment.0 ≤ max (k.home.greatest_moment.0 + n) clock) same g.greatest;
  end = subst (λ (k : Catalog). w.catalog.ru.end ≤ k.ru.end + 2 ^ 22) same g.end;
}

pub once_from_there : (moment : ℕ) (v mid w : VolumeState) → mid.catalog ≡ v.catalog → GrowsOnce moment mid w → GrowsOnce moment v w
once_from_there moment v mid w same g = record {
  greatest = subst (λ (k : Catalog). (w.catalog.home.greatest_moment.0 ≡ k.home.greatest_moment.0) ⊎ (w.catalog.home.greatest_moment.0 ≡ moment)) same g.greatest;
  end = subst (λ (k : Catalog). w.catalog.ru.end ≤ k.ru.end + 48) same g.end;
}

-- numbers grow by an entry at the most, where a branch is prepared
pub grows_voted : (changed : Bool) (e : Option Entry) (v w : VolumeState) → w.catalog ≡ record v.catalog { ru = span_with e v.catalog.ru } → w.catalog.ru.end ≡ v.catalog.ru.end + (if changed then 48 else 0) → Grows 0 0 v w
grows_voted changed e v w same end = record {
  node = ap (λ (k : Catalog). k.home.node) same;
  boot = ap (λ (k : Catalog). k.home.boot) same;
  greatest = let g = ap (λ (k : Catalog). k.home.greatest_moment.0) same in omega (arith, g);
  end = let few = few_bytes changed in omega (arith, end, few);
}
  where
    few_bytes : (b : Bool) → (if b then 48 else 0) ≤ 48
    few_bytes true = omega arith
    few_bytes false = omega arith
