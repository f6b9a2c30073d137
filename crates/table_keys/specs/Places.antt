-- When two places of records are one.
use Rattle.std.specs.Prelude.{◌==◌, ◌&&◌, Bool}
use Rattle.std.specs.Ordering.{eq_by_cmp}
use Rattle.records_model.specs.Records.{key_cmp}
use Rattle.vms_base.specs.Keys.{key_of}
use Rattle.table_keys.specs.declared.place.Place.{Place}

abbrev pub same_place : Place → Place → Bool
same_place a b = (a.file == b.file) && eq_by_cmp key_cmp (key_of a.key) (key_of b.key)
