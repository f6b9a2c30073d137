-- Volumes that are the same but for reads.
use Rattle.std.proofs.Common.{◌≡◌, ◌∙◌, sym, subst}
use Rattle.careful_write.specs.Reads.{SameButReads, as_read_by}
use Rattle.careful_write.specs.State.{StoreState}
use Rattle.volume.specs.State.{VolumeState, Holds, SameVolume}

-- where the volumes are the same, they are so but for reads
pub volume_so : (v w : VolumeState) → w ≡ v → SameVolume v w
volume_so v w same = λ i. record (same i) { store = as_read_by w.store (same i).store }

-- one relation after the other
pub volume_on : (v w x : VolumeState) → SameVolume v w → SameVolume w x → SameVolume v x
volume_on v w x first second = second ∙ (λ i. record (first i) { store = as_read_by x.store (first i).store })

-- the stores of such volumes
pub store_of_same : (v w : VolumeState) → SameVolume v w → SameButReads v.store w.store
store_of_same v w same = λ i. (same i).store

-- a volume whose store alone was read
pub volume_read : (v w : VolumeState) (s : StoreState) → w ≡ record v { store = s } → SameButReads v.store s → SameVolume v w
volume_read v w s is same = is ∙ (λ i. record v { store = same i }) ∙ (λ i. record v { store = as_read_by (sym is i).store v.store })

-- what is kept of the content is what it tells, whatever was read
pub holds_read : (v w : VolumeState) → SameVolume v w → Holds v → Holds w
holds_read v w same holds = subst Holds (sym same) holds
