-- Names of nodes.
use Rattle.std.specs.Prelude.{◌≡◌, ◌==◌, ◌&&◌, ℕ, List, [], ◌∷◌, Bool, false, Some, slice_get}
use Rattle.std.specs.Str.{bytes_eq}
use Rattle.std.specs.List.{list_any}
use Rattle.vms_model.specs.Ids.{Id}
use Rattle.script_lang.specs.declared.statement.Request.{Request}
use Rattle.script_lang.specs.declared.statement.Request.TheVariants as request

-- whether two serials are one
abbrev pub is_one : Id → Id → Bool
is_one a b = bytes_eq a.node b.node && (a.boot == b.boot) && (a.seq == b.seq)

-- whether a name is one of these
abbrev pub is_among : List ℕ → List (List ℕ) → Bool
is_among name names = list_any (λ other. bytes_eq other name) names

-- no name is there twice
abbrev pub AreApart : List (List ℕ) → Type 0
AreApart [] = Unit {0}
AreApart (name ∷ names) = (is_among name names ≡ false) × AreApart names

-- the other node that a request names is one of these
abbrev pub IsOtherThere : List (List ℕ) → Request → Type 0
IsOtherThere names (request.AddBranch label other new) = (place : ℕ) × (slice_get names place ≡ Some other)
IsOtherThere names r = Unit {0}

-- it names one that is none of them
abbrev pub IsOtherMissing : List (List ℕ) → Request → Type 0
IsOtherMissing names (request.AddBranch label other new) = is_among other names ≡ false
IsOtherMissing names r = ⊥
