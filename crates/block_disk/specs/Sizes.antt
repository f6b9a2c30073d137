-- How many blocks of 512 bytes a disk has, and where its content begins.
use Rattle.std.specs.Prelude.{ℕ}

-- at least
abbrev pub least_disk_size : ℕ
least_disk_size = 4096

-- at most
abbrev pub greatest_disk_size : ℕ
greatest_disk_size = 65536

-- how many blocks are written and not settled at the most
abbrev pub pending_limit : ℕ
pending_limit = 1024

-- the block with which the content of a disk begins: before it stand the gate, the index and the data of the group that is being applied
abbrev pub content_start : ℕ
content_start = 518
