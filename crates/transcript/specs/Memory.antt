-- What a source and a sink in memory hold.
use Rattle.std.specs.Prelude.{ℕ, ◌+◌, ◌-◌, ◌^◌, min, List, drop, length, Bool, ◌==◌}
use Rattle.std.specs.List.{list_any}
use Rattle.transcript.specs.declared.memory.MemSource.{MemSource}
use Rattle.transcript.specs.declared.memory.MemSink.{MemSink}

-- whether this call is among those that are named
abbrev pub is_named : ℕ → List ℕ → Bool
is_named call named = list_any (λ n. n == call) named

-- a count that is raised: it stays at the greatest number of 64 bits
abbrev pub count_after : ℕ → ℕ
count_after n = min (n + 1) (2 ^ 64 - 1)

-- the bytes that are left, the number of the next read, and the reads that fail
abbrev pub source_left : MemSource → List ℕ
source_left s = drop s.position s.bytes.items

abbrev pub source_call : MemSource → ℕ
source_call s = count_after s.calls

abbrev pub source_named : MemSource → List ℕ
source_named s = s.named.items

-- the bytes written, how many more there is room for, the number of the next write, and the writes that fail
abbrev pub sink_shown : MemSink → List ℕ
sink_shown s = s.bytes.items

abbrev pub sink_room : MemSink → ℕ
sink_room s = s.room - length s.bytes.items

abbrev pub sink_call : MemSink → ℕ
sink_call s = count_after s.calls

abbrev pub sink_named : MemSink → List ℕ
sink_named s = s.named.items
