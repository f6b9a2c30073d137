-- What is stored, where it is the same but for reads.
use Rattle.std.proofs.Common.{◌≡◌, ◌∙◌, sym, ap, subst}
use Rattle.careful_write.specs.Reads.{as_read_by}
use Rattle.recovery_units.specs.State.{IsInOrder, IsKept, UnitsState}
use Rattle.recovery_units.proofs.ReadLemmas.{kept_read, order_read}
use Rattle.file_images.specs.run_model.World.{Node}
use Rattle.volume.specs.State.{SameVolume, VolumeState}
use Rattle.node_standing.specs.node_table.Standing.{Stored}
use Rattle.file_requests.specs.Serving.{SameStored}

-- one relation after the other
pub stored_on : (u v w : Stored) → SameStored u v → SameStored v w → SameStored u w
stored_on u v w first second = second ∙ (λ i. record (first i) { volume = record (first i).volume { store = as_read_by w.volume.store (first i).volume.store } })

module _ (u new : Stored) where
  -- it is, where its volume is
  pub stored_of_volume : SameVolume u.volume new.volume → new.units ≡ u.units → new.in_doubt ≡ u.in_doubt → SameStored u new
  stored_of_volume same units doubts = λ i. record { volume = same i; units = units i; in_doubt = doubts i }

  module _ (same : SameStored u new) where
    -- and its volume is, where it is
    pub volume_of_stored : SameVolume u.volume new.volume
    volume_of_stored = λ i. (same i).volume

    units_are : new.units ≡ u.units
    units_are = ap (λ (v : Stored). v.units) same

    -- units and volume stay in order
    pub order_still : IsInOrder u.units u.volume → IsInOrder new.units new.volume
    order_still o = subst (λ (s : UnitsState). IsInOrder s new.volume) (sym units_are) (order_read u.volume new.volume volume_of_stored u.units o)

    -- and stand for the node
    pub kept_still : (n : Node) → IsKept u.units u.volume n → IsKept new.units new.volume n
    kept_still n k = subst (λ (s : UnitsState). IsKept s new.volume n) (sym units_are) (kept_read u.volume new.volume volume_of_stored u.units n k)
