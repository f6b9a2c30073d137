-- What a text of an id says.
use Rattle.std.specs.Prelude.{ℕ, List, [], ◌∷◌, ◌==◌, Option, Some, None, if◌then◌else◌}
use Rattle.std.specs.Option.{option_map, option_and_then}
use Rattle.vms_model.specs.Names.{node_named}
use Rattle.vms_model.specs.Ids.{Id}
use Rattle.vms_model.specs.Words.{parted_at, number_from}

-- a number from 1 on, of 32 bits, whose first digit is not a zero
abbrev pub id_number : List ℕ → Option ℕ
id_number [] = None
id_number (b ∷ bs) = if b == 48 then None else number_from 4294967295 0 (b ∷ bs)

-- node.boot.sequence, the node in either case of letters
abbrev pub id_said : List ℕ → Option Id
id_said text =
    option_and_then (λ a. option_and_then (λ b.
    option_and_then (λ node. option_and_then (λ boot. option_map (λ seq. let id : Id = record { node = node; boot = boot; seq = seq } in id) (id_number b.1)) (id_number b.0)) (node_named a.0))
    (parted_at 46 a.1)) (parted_at 46 text)
