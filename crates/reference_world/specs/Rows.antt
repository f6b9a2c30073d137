-- Records by their keys.
use Rattle.std.specs.Prelude.{Bool, not}
use Rattle.std.specs.Ordering.{eq_by_cmp}
use Rattle.vms_base.specs.vms_model.Keys.{Key}
use Rattle.reference_index.specs.records_model.Records.{key_cmp}

-- whether a key is another than this one
abbrev pub is_other : Key → Key → Bool
is_other k x = not (eq_by_cmp key_cmp k x)
