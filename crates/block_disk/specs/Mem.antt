-- What a platter in memory has been told.
use Rattle.std.specs.Prelude.{ℕ, ◌==◌, Bool, true, List}
use Rattle.std.specs.List.{list_any}
use Rattle.block_disk.specs.Counts.{counted}
use Rattle.block_disk.specs.declared.mem.MemPlatter.{MemPlatter}

-- its blocks
abbrev pub blocks_of : MemPlatter → List (List ℕ)
blocks_of m = m.blocks.items

-- the calls that are to fail
abbrev pub failing_of : MemPlatter → List ℕ
failing_of m = m.failing.items

-- how many calls there were
abbrev pub calls_of : MemPlatter → ℕ
calls_of m = m.calls

-- whether the next call is to fail
abbrev pub fails_next : MemPlatter → Bool
fails_next m = list_any (λ call. call == counted true m.calls) m.failing.items
