-- Keys of branches.
use Rattle.std.proofs.Common.{◌≡◌, sym, ap}
use Rattle.std.specs.Prelude.{◌&&◌}
use Rattle.commit_protocol.specs.Messages as messages
use Rattle.commit_protocol.specs.Table.{Key, first, same_key}
use Rattle.commit_protocol.proofs.Lists.{same_id-refl}

-- the first branch of a transaction has its id as serial
pub first_told : (k : Key) → messages.same_id k.serial k.tid ≡ same_key k (first k.tid)
unfolding same_key
first_told k = sym (ap (λ b. b && messages.same_id k.serial k.tid) (same_id-refl k.tid))
