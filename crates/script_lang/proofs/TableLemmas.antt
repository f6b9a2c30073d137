-- What stands beside a word of a table, seen as something else.
use Rattle.std.proofs.Common.{◌≡◌, ℕ, List, [], ◌∷◌, true, false, refl, map, Some}
use Rattle.std.specs.Prelude.{if◌then◌else◌}
use Rattle.std.specs.Option.{option_map}
use Rattle.std.specs.Str.{bytes_eq}
use Rattle.vms_base.specs.vms_model.Names.{upper}
use Rattle.vms_base.specs.vms_model.Words.{among}

pub among_map : {A B : Type 0} (f : A → B) (rows : List (List ℕ × A)) (text : List ℕ) → option_map f (among rows text) ≡ among (map (λ row. (row.0, f row.1)) rows) text
among_map f [] text = refl
among_map f (row ∷ rows) text =
    elim (bytes_eq row.0 (upper text)) as (λ v. option_map f (if v then Some row.1 else among rows text) ≡ (if v then Some (f row.1) else among (map (λ r. (r.0, f r.1)) rows) text)) [
      | true ↦ refl
      | false ↦ among_map f rows text
    ]
