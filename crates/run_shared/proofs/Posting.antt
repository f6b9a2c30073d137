-- Messages by their numbers.
use Rattle.std.proofs.Common.{◌≡◌, ℕ, zero, suc, ◌+◌, ◌<◌, Bool, true, false, List, [], ◌∷◌, ◌++◌, Some, None, map, length, slice_get, nat_lt, if◌then◌else◌, refl, sym, ap, ◌∙◌}
use Rattle.std.specs.Option.{option_map}
use Rattle.std.proofs.lemmas.Bool.{lt-ltb}
use Rattle.vms_model.specs.Limits.{message_limit}
use Rattle.net_wire.specs.commit_protocol.Messages as model
use Rattle.net_wire.specs.declared.wire.Message.{Message}
use Rattle.net_wire.specs.Messages.{message_of}
use Rattle.net_wire.specs.Network.{numbered}
use Rattle.run_model.specs.Statements.{message_at}
use Rattle.run_model.specs.World.{posted}

slice_get-map : (ms : List Message) (k : ℕ) → option_map message_of (slice_get ms k) ≡ slice_get (map message_of ms) k
slice_get-map [] k = refl
slice_get-map (m ∷ ms) zero = refl
slice_get-map (m ∷ ms) (suc k) = slice_get-map ms k

pub numbered_alike : (k : ℕ) (ms : List Message) → option_map message_of (numbered k ms) ≡ message_at k (map message_of ms)
numbered_alike zero ms = refl
numbered_alike (suc k) ms = slice_get-map ms k

length-mapped : (ms : List Message) → length (map message_of ms) ≡ length ms
length-mapped [] = refl
length-mapped (m ∷ ms) = ap suc (length-mapped ms)

map-behind : (ms : List Message) (m : Message) → map message_of (ms ++ m ∷ []) ≡ map message_of ms ++ message_of m ∷ []
map-behind [] m = refl
map-behind (x ∷ xs) m = ap (λ (ys : List model.Message). message_of x ∷ ys) (map-behind xs m)

-- Where all messages were sent that are numbered, one more is lost.
module _ (ms : List Message) (m : Message) (full : length ms ≡ message_limit) where
  is_full : nat_lt (length (map message_of ms)) message_limit ≡ false
  is_full = ap (λ (k : ℕ). nat_lt k message_limit) (length-mapped ms ∙ full)

  pub lost : posted (message_of m) (map message_of ms) ≡ map message_of ms
  lost = ap (λ (b : Bool). if b then map message_of ms ++ message_of m ∷ [] else map message_of ms) is_full

  pub unnumbered : (if nat_lt (length (map message_of ms)) message_limit then Some (length (map message_of ms) + 1) else None) ≡ None
  unnumbered = ap (λ (b : Bool). if b then Some (length (map message_of ms) + 1) else None) is_full

-- Else it has the next number.
module _ (ms : List Message) (m : Message) (room : length ms < message_limit) where
  has_room : nat_lt (length (map message_of ms)) message_limit ≡ true
  has_room = ap (λ (k : ℕ). nat_lt k message_limit) (length-mapped ms) ∙ lt-ltb (length ms) message_limit room

  pub kept : posted (message_of m) (map message_of ms) ≡ map message_of (ms ++ m ∷ [])
  kept = ap (λ (b : Bool). if b then map message_of ms ++ message_of m ∷ [] else map message_of ms) has_room ∙ sym (map-behind ms m)

  pub next_number : (if nat_lt (length (map message_of ms)) message_limit then Some (length (map message_of ms) + 1) else None) ≡ Some (length ms + 1)
  next_number = ap (λ (b : Bool). if b then Some (length (map message_of ms) + 1) else None) has_room ∙ ap (λ (k : ℕ). Some (k + 1)) (length-mapped ms)
