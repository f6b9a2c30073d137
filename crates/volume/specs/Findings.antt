-- Lists of findings.
use Rattle.std.specs.Prelude.{◌≡◌, ◌<◌, ◌⊎◌, ◌==◌, ◌||◌, ◌&&◌, List, [], ◌∷◌, Bool, if◌then◌else◌, nat_lt, take}
use Rattle.std.specs.List.{AllPairs}
use Rattle.volume.specs.declared.load.Finding.{Finding}

-- one finding comes before another: by its number, and then by its block
abbrev pub is_before : Finding → Finding → Bool
is_before x y = nat_lt x.number y.number || ((x.number == y.number) && nat_lt x.block y.block)

-- they are the same condition at the same block
abbrev pub is_same : Finding → Finding → Bool
is_same x y = (x.number == y.number) && (x.block == y.block)

-- the same, as a fact
abbrev pub IsBefore : Finding → Finding → Type 0
IsBefore x y = (x.number < y.number) ⊎ ((x.number ≡ y.number) × (x.block < y.block))

-- each comes before all later ones
abbrev pub Ascends : List Finding → Type 0
Ascends found = AllPairs IsBefore found

-- the findings with one more at its place, where it is not there
abbrev pub with_finding : Finding → List Finding → List Finding
with_finding x [] = x ∷ []
with_finding x (y ∷ ys) = if is_before y x then y ∷ with_finding x ys else (if is_same y x then y ∷ ys else x ∷ y ∷ ys)

-- the first 1,000 of them
abbrev pub first_thousand : List Finding → List Finding
first_thousand found = take 1000 found

-- of findings that are added one after the other, the first 1,000 are kept, whatever was dropped on the way
abbrev pub KeepsFirst : Type 0
KeepsFirst = (x : Finding) (found : List Finding) → first_thousand (with_finding x (first_thousand found)) ≡ first_thousand (with_finding x found)
