-- Why an entry was not added.
use Rattle.std.specs.Prelude.{◌≡◌, ℕ, ◌<◌, Result, Ok}
use Rattle.careful_write.specs.State.{StoreState}
use Rattle.careful_write.specs.declared.down.Down as reason
use Rattle.journal_store.specs.Leaving.{OnlyReads, Fell}
use Rattle.journal_store.specs.declared.appending.AppendErr.{AppendErr}
use Rattle.journal_store.specs.declared.appending.AppendErr.TheVariants.{Full, Down}

-- the store is as it was
abbrev pub Stays : StoreState → StoreState → Type 0
Stays old new = let r : Result (Unit {0}) reason.Down = Ok tt in OnlyReads r old new

-- fewer bytes are free than the entry has, and nothing changed; or the disk went down
abbrev pub Refuses : AppendErr → (room size : ℕ) → StoreState → StoreState → Type 0
Refuses (Full free need) room size old new = (free ≡ room) × (need ≡ size) × (room < size) × Stays old new
Refuses (Down down) room size old new = Fell down old new
