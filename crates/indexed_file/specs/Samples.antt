-- What tests ask of a file and of held keys.
use Rattle.std.specs.Prelude.{◌==◌, ◌%◌, Bool, false, slice_index}
use Rattle.vms_base.specs.vms_model.Keys.{Key, Number, Text, End}

-- the first byte of a key is even
abbrev pub is_even_text : Key → Bool
is_even_text (Text bytes) = slice_index bytes 0 % 2 == 0
is_even_text (Number n) = false
is_even_text End = false
