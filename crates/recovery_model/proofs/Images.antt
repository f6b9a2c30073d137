-- Images that are set and taken back.
use Rattle.std.specs.Prelude.{List, [], ◌∷◌, Bool}
use Rattle.std.specs.Ordering.{eq_by_cmp}
use Rattle.unit_laws.specs.vms_model.Keys.{Key}
use Rattle.unit_laws.specs.records_model.Records.{Records, Change, key_cmp, set_key}
use Rattle.recovery_model.specs.Images.{Image, afters, touches}

abbrev pub same : Key → Key → Bool
same q k = eq_by_cmp key_cmp q k

-- whether one of the changes is of the key
abbrev pub changes : Key → List Change → Bool
changes k cs = touches k (afters cs)

-- images set, from the oldest on
abbrev pub sets : List Image → Records → Records
sets [] m = m
sets (i ∷ is) m = set_key (sets is m) i.0 i.1

-- and from the newest on
abbrev pub unsets : List Image → Records → Records
unsets [] m = m
unsets (i ∷ is) m = unsets is (set_key m i.0 i.1)
