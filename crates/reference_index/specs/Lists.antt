-- Lists by their first element.
use Rattle.std.specs.Prelude.{List, [], ◌∷◌, Option, Some, None}

-- an element in front of others, or nothing
abbrev pub joined : {A : Type 0} → Option A → List A → List A
joined (Some x) xs = x ∷ xs
joined None xs = []
