-- What a group leaves where heads alone were other before it.
use Rattle.std.proofs.Common.{◌≡◌, ℕ, List, Option, Some, subst, inl, inr}
use Rattle.careful_write.specs.State.{IsEither, Leaves, content}
use Rattle.unit_journal.specs.Groups.{Breaks}
use Rattle.volume.specs.State.{VolumeState}

pub breaks_behind : (P Q : VolumeState → Type 0) (v mid w : VolumeState) → content mid.store ≡ content v.store → ((x : VolumeState) → P x → Q x) → Breaks P mid w → Breaks Q v w
breaks_behind P Q v mid w same so (inl old) = inl (subst (λ (o : Option (List (List ℕ))). Leaves (λ c. Some c ≡ o) w.store.disk) same old)
breaks_behind P Q v mid w same so (inr either) = inr (record {
  made = either.made;
  is = so either.made either.is;
  either = subst (λ (o : Option (List (List ℕ))). Leaves (IsEither o either.made.store.current) w.store.disk) same either.either;
})
