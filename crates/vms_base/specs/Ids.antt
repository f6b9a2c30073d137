-- The ids that the code's values are.
use Rattle.std.specs.Prelude.{ℕ, List, [], ◌∷◌, ◌==◌, if◌then◌else◌}
use Rattle.vms_model.specs.Ids as model
use Rattle.vms_base.specs.declared.ids.Id.{Id}
use Rattle.vms_base.specs.declared.ids.Tid.{Tid}
use Rattle.vms_base.specs.declared.ids.Serial.{Serial}
use Rattle.vms_base.specs.declared.ids.Bid.{Bid}

abbrev pub id_of : Id → model.Id
id_of i = record { node = i.node; boot = i.boot; seq = i.seq }

abbrev pub tid_of : Tid → model.Id
tid_of t = id_of t.0

abbrev pub serial_of : Serial → model.Id
serial_of s = id_of s.0

abbrev pub bid_of : Bid → model.Id
bid_of b = id_of b.0

-- the bytes before the first zero
abbrev pub until_zero : List ℕ → List ℕ
until_zero [] = []
until_zero (b ∷ bytes) = if b == 0 then [] else b ∷ until_zero bytes
