-- What the code's values ask of the records of a file, and what they say of them.
use Rattle.std.specs.Prelude.{◌≡◌, List, map, option_map}
use Rattle.reference_index.specs.script_model.Statements as said
use Rattle.reference_index.specs.records_model.Placing as placing
use Rattle.reference_index.specs.run_model.Operations.{in_order}
use Rattle.reference_world.specs.declared.world.File.{File}
use Rattle.reference_world.specs.declared.world.Row.{Row}
use Rattle.reference_index.specs.Standing.{lent_key}
use Rattle.reference_world.specs.Standing.{file_of, entry_of}
use Rattle.reference_records.specs.declared.asked.Asked.{Asked}
use Rattle.reference_records.specs.declared.asked.Asked.TheVariants as asked
use Rattle.reference_records.specs.declared.records.Filled.{Filled}

abbrev pub asked_of : Asked → said.Operation
asked_of (asked.Put number bytes) = said.Put number bytes.now
asked_of (asked.Update k bytes) = said.Update (lent_key k) bytes.now
asked_of (asked.Delete k) = said.Delete (lent_key k)
asked_of (asked.Truncate number) = said.Truncate number
asked_of (asked.Get k) = said.Get (lent_key k)
asked_of (asked.Next after) = said.Next (option_map lent_key after)

-- these rows are the records of a file as they stand, in the order of their keys
abbrev pub AreRowsOf : File → List Row → Type 0
AreRowsOf f rows = map entry_of rows ≡ in_order (file_of f)

-- how many buckets are used, and how many bytes of the last of them
abbrev pub filled_of : Filled → placing.Filled
filled_of f = record { buckets = f.buckets; bytes = f.bytes }
