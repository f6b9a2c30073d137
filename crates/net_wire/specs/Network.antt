-- The network: every message that was sent and kept, in order, and how many are kept at most.
use Rattle.std.specs.Prelude.{ℕ, zero, suc, List, Option, None, slice_get}
use Rattle.net_wire.specs.declared.wire.Message.{Message}

pub record Network : Type 0 where
  pub messages : List Message
  pub limit : ℕ

-- the message with this number; the first has the number 1
abbrev pub numbered : ℕ → List Message → Option Message
numbered zero ms = None
numbered (suc k) ms = slice_get ms k
