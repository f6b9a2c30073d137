-- What reads leave of a store.
use Rattle.std.specs.Prelude.{◌≡◌}
use Rattle.careful_write.specs.State.{StoreState}

-- a store, with what another one tells of reads
abbrev pub as_read_by : StoreState → StoreState → StoreState
as_read_by other s = record s { reads = other.reads }

-- the store is the same but for what tells of reads
abbrev pub SameButReads : StoreState → StoreState → Type 0
SameButReads old new = new ≡ as_read_by new old
