-- The units that are begun as their tokens have them.
use Rattle.std.specs.Prelude.{◌≡◌, ℕ, List, [], ◌∷◌, Bool, true, false, map}
use Rattle.std.specs.List.{AllByRecursion}
use Rattle.records_model.specs.History.{same_id}
use Rattle.unit_table.specs.Units.{OpenUnit, begun}
use Rattle.vms_base.specs.Ids.{serial_of, tid_of}
use Rattle.vms_base.specs.declared.protocol.LogRec.{LogRec}
use Rattle.vms_model.specs.Ids.{Id}
use Rattle.rms_units.specs.State.{UnitsState}
use Rattle.node_units.specs.declared.begun.BegunUnit.{BegunUnit}
use Rattle.node_units.specs.declared.begun.Token.{Token}
use Rattle.node_units.specs.declared.begun.Token.TheVariants as token

-- the place of a unit by its token; one that is spent has none
abbrev pub place_in : Token → ℕ
place_in (token.Active place) = place
place_in (token.Prepared place) = place
place_in token.Spent = 0

-- whether it may be changed, whether it waits for its outcome, and whether it is either
abbrev pub is_active : Token → Bool
is_active (token.Active place) = true
is_active (token.Prepared place) = false
is_active token.Spent = false

abbrev pub is_waiting : Token → Bool
is_waiting (token.Active place) = false
is_waiting (token.Prepared place) = true
is_waiting token.Spent = false

abbrev pub is_held : Token → Bool
is_held (token.Active place) = true
is_held (token.Prepared place) = true
is_held token.Spent = false

-- whether a unit is of a branch
abbrev pub is_of : Id → BegunUnit → Bool
is_of serial t = same_id serial (serial_of t.serial)

-- the tokens are those of the units, in the order in which these were begun, with their branches and by whether they are prepared
pub record TokensRepresent (tokens : List BegunUnit) (s : UnitsState) : Type 0 where
  pub places : map (λ (t : BegunUnit). place_in t.token) tokens ≡ s.units.order
  pub tids : map (λ (t : BegunUnit). tid_of t.tid) tokens ≡ map (λ (u : OpenUnit). u.tid) (begun s.units)
  pub serials : map (λ (t : BegunUnit). serial_of t.serial) tokens ≡ map (λ (u : OpenUnit). u.serial) (begun s.units)
  pub prepared : map (λ (t : BegunUnit). is_waiting t.token) tokens ≡ map (λ (u : OpenUnit). u.prepared) (begun s.units)
  pub held : AllByRecursion (λ (t : BegunUnit). is_held t.token ≡ true) tokens

-- prepared units at places, with the branches of their records
abbrev pub tokens_for : List LogRec → (places : List ℕ) → List BegunUnit
tokens_for [] places = []
tokens_for (r ∷ rs) [] = []
tokens_for (r ∷ rs) (place ∷ places) = record { tid = r.tid; serial = r.serial; token = token.Prepared place } ∷ tokens_for rs places
