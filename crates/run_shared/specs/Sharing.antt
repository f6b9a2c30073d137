-- What the nodes of a run share, as the code has it.
use Rattle.std.specs.Prelude.{◌≡◌, Bool, List}
use Rattle.net_wire.specs.commit_protocol.Messages.{Message}
use Rattle.run_model.specs.World.{Label, Shared}

-- The labels, the newest first; whether a volume may still be made; and the messages that were sent, by their numbers from 1 on.
pub record SharedState : Type 0 where
  pub labels : List Label
  pub in_use : Bool
  pub wire : List Message

-- What nodes of the world share is so. The code does not keep which branches were told to be accepted or read-only: only promises speak of that.
pub record IsShared (s : SharedState) (w : Shared) : Type 0 where
  pub labels : w.labels ≡ s.labels
  pub in_use : w.in_use ≡ s.in_use
  pub wire : w.wire ≡ s.wire
