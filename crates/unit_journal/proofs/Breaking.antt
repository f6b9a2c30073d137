-- Groups of which the disk went down.
use Rattle.std.proofs.Common.{◌≡◌, ℕ, List, Option, sym, ap, subst, ◌∙◌, inr}
use Rattle.careful_write.specs.Down.{went_down}
use Rattle.careful_write.specs.Reads.{SameButReads}
use Rattle.careful_write.specs.State.{IsEither, IsReady, Leaves, OneContent, StoreState, content}
use Rattle.careful_write.specs.declared.down.Down.{Down}
use Rattle.volume.specs.State.{VolumeState}
use Rattle.unit_journal.specs.Groups.{Breaks, LeavesOld}
use Rattle.unit_journal.specs.Leaving.{FellIn}

-- Where the disk went down before anything was written, each image has the content as it was.

went_old : (down : Down) (v : VolumeState) → OneContent → IsReady v.store → LeavesOld v (went_down down v.store.disk)
went_old down v one ready = one (record v.store { disk = went_down down v.store.disk }) (record { fitting = ready.fitting; settled = ready.settled; closed = ready.closed })

-- the disk of a store of which only other blocks were staged
pub staged_disk : (v mid : VolumeState) → SameButReads (record v.store { current = mid.store.current; touched = mid.store.touched }) mid.store → mid.store.disk ≡ v.store.disk
staged_disk v mid rest = ap (λ (s : StoreState). s.disk) rest

pub fell_disk : (down : Down) (v w : VolumeState) → FellIn down v w → w.store.disk ≡ went_down down v.store.disk
fell_disk down v w is = ap (λ (x : VolumeState). x.store.disk) is

pub fell_old : (down : Down) (v mid w : VolumeState) → OneContent → IsReady v.store → mid.store.disk ≡ v.store.disk → FellIn down mid w → LeavesOld v w.store.disk
fell_old down v mid w one ready same is = subst (LeavesOld v) (sym (fell_disk down mid w is ∙ ap (went_down down) same)) (went_old down v one ready)

-- A group that broke has made nothing, or such a volume.
pub breaks_made : (P : VolumeState → Type 0) (v made w : VolumeState) → P made → content made.store ≡ content v.store → Leaves (IsEither (content made.store) made.store.current) w.store.disk → Breaks P v w
breaks_made P v made w is same leaves = inr (record { made = made; is = is; either = subst (λ (c : Option (List (List ℕ))). Leaves (IsEither c made.store.current) w.store.disk) same leaves })
