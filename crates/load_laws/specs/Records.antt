-- Records under their keys.
use Rattle.std.specs.Prelude.{ℕ, List, [], map}
use Rattle.std.specs.FinMap.Entries.{find}
use Rattle.vms_model.specs.Keys.{Key, Number, Text, End}
use Rattle.records_model.specs.Records.{key_cmp}
use Rattle.record_files.specs.change_set.Maps.{Map}

-- a key with the bytes of its record
abbrev pub Keyed : Type 0
Keyed = Key × List ℕ

-- what each key has: the record of the first one that is the same
abbrev pub what_has : List Keyed → Map
what_has es k = find key_cmp k es

-- the bytes of a key
abbrev pub bytes_in : Key → List ℕ
bytes_in (Text t) = t
bytes_in (Number n) = []
bytes_in End = []

-- the bytes of the keys with those of their records
abbrev pub texts_of : List Keyed → List (List ℕ × List ℕ)
texts_of es = map (λ (e : Keyed). (bytes_in e.0, e.1)) es

-- the bytes of the records
abbrev pub values_of : List Keyed → List (List ℕ)
values_of es = map (λ (e : Keyed). e.1) es
