-- What mounting answers where it does not mount.
use Rattle.std.specs.Prelude.{ℕ, List, IfSome}
use Rattle.careful_write.specs.Down.{went_down}
use Rattle.careful_write.specs.Reads.{SameButReads}
use Rattle.careful_write.specs.State.{StoreState}
use Rattle.volume.specs.declared.volume.MountErr.{MountErr}
use Rattle.volume.specs.declared.volume.MountErr.TheVariants.{Condition, Down}
use Rattle.volume.specs.Conditions.{IsFirstFinding}

-- the lowest failing condition at its lowest block, with the store as it was but for reads; or the disk went down, and nothing else changed
abbrev pub Finds : {D : Type 0} → List ℕ → StoreState → MountErr D → Type 0
Finds node s (Condition number block store) = SameButReads s store × IfSome s.current (λ content. IsFirstFinding node s.fits content number block)
Finds node s (Down down store) = SameButReads (record s { disk = went_down down s.disk }) store
