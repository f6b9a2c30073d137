-- The records that a map in memory has.
use Rattle.std.specs.Prelude.{◌≡◌, ℕ, zero, suc, List, [], ◌∷◌, map, Vec, refl}
use Rattle.std.specs.Coded.{Coded, code_by, coded_list, coded_ℕ}
use Rattle.std.specs.FinMap.{from_entries}
use Rattle.std.specs.Global.{Global}
use Rattle.std.specs.FinMap as finite
use Rattle.vms_model.specs.Keys.{Key, Number, Text, End}
use Rattle.vms_base.specs.Keys.{key_of}
use Rattle.records_model.specs.Records.{Records}
use Rattle.record_maps.specs.declared.key.OrderedKey.{OrderedKey}

-- a key as a list of numbers, and back
abbrev pub key_numbers : Key → List ℕ
key_numbers (Number n) = 0 ∷ n ∷ []
key_numbers (Text bytes) = 1 ∷ bytes
key_numbers End = []

abbrev pub key_from : List ℕ → Key
key_from [] = End
key_from (zero ∷ []) = End
key_from (zero ∷ n ∷ ns) = Number n
key_from (suc m ∷ bytes) = Text bytes

pub from_numbers : (k : Key) → key_from (key_numbers k) ≡ k
from_numbers (Number n) = refl
from_numbers (Text bytes) = refl
from_numbers End = refl

abbrev pub key_code : Coded Key
key_code = code_by (List ℕ) (coded_list coded_ℕ) key_numbers key_from from_numbers

-- records are kept as a list of keys and bytes
abbrev pub records_code : Coded Records
records_code = finite.code key_code (coded_list coded_ℕ)

-- a key with the bytes of its record
abbrev pub record_told : OrderedKey × Vec ℕ Global → Key × List ℕ
record_told e = (key_of e.0.key, e.1.items)

abbrev pub records_told : List (OrderedKey × Vec ℕ Global) → Records
records_told es = from_entries (map record_told es)
