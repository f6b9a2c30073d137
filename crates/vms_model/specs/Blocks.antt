-- Which blocks of a disk a volume has for itself.
use Rattle.std.specs.Prelude.{ℕ}

-- the home block
abbrev pub home_block : ℕ
home_block = 518

-- the first block of the directory: there is one for each file number
abbrev pub directory_start : ℕ
directory_start = 519

-- the block that tells of the journal of recovery units
abbrev pub journal_block : ℕ
journal_block = 583

-- the first slot of the log
abbrev pub log_start : ℕ
log_start = 584
