-- How many buckets records take.
use Rattle.std.specs.Prelude.{◌≤◌, ◌+◌, ℕ, List, [], ◌∷◌, length, map}
use Rattle.vms_model.specs.Limits.{record_limit}
use Rattle.load_pages.specs.declared.records.KeyedRecord.{KeyedRecord}

-- each record has at most as many bytes as any file's may
abbrev pub AllTell : List KeyedRecord → Type 0
AllTell [] = Unit {0}
AllTell (r ∷ rs) = (length r.bytes.items ≤ record_limit) × AllTell rs

-- the sizes of their slots, each with so many bytes beside the record's
abbrev pub sizes_behind : ℕ → List KeyedRecord → List ℕ
sizes_behind beside rs = map (λ (r : KeyedRecord). length r.bytes.items + beside) rs
