-- What a run, a node, a file and a script have at the most. Each limit is named here alone.
use Rattle.std.specs.Prelude.{ℕ}

-- how many labels a run makes, and how many of its messages are numbered; a later message is lost
abbrev pub label_limit : ℕ
label_limit = 100000

abbrev pub message_limit : ℕ
message_limit = 1000000

-- how many unsettled branches a node has, how many changes a branch, and how many keys the branches of a node hold
abbrev pub branch_limit : ℕ
branch_limit = 64

abbrev pub change_limit : ℕ
change_limit = 1024

abbrev pub lock_limit : ℕ
lock_limit = 4096

-- how many records the log of a node has
abbrev pub slot_limit : ℕ
slot_limit = 512

-- how many files a volume has, and how many bytes a record and a key
abbrev pub file_limit : ℕ
file_limit = 64

abbrev pub record_limit : ℕ
record_limit = 8160

abbrev pub key_limit : ℕ
key_limit = 64

-- How many entries the journal of recovery units holds: an entry has 48 bytes at the least, and the journal 8,192 blocks of 512 bytes.
abbrev pub entry_limit : ℕ
entry_limit = 87381

-- how often a node is booted, and the greatest moment and the greatest position of a journal with which it is
abbrev pub boot_limit : ℕ
boot_limit = 4294967295

abbrev pub moment_limit : ℕ
moment_limit = 24000000000000

abbrev pub position_limit : ℕ
position_limit = 2305843009213693952

-- how many branches are authorised for a transaction, and how many seconds it may be given
abbrev pub bid_limit : ℕ
bid_limit = 15

abbrev pub second_limit : ℕ
second_limit = 1000000

-- how many resource managers are declared at a node, and how many join a branch
abbrev pub declared_limit : ℕ
declared_limit = 64

abbrev pub manager_limit : ℕ
manager_limit = 8

-- how many bytes a line of a script has, how many bytes a script, and how many lines
abbrev pub line_size_limit : ℕ
line_size_limit = 20000

abbrev pub script_size_limit : ℕ
script_size_limit = 67108864

abbrev pub line_limit : ℕ
line_limit = 1000000

-- More than the statements of a script: one for each of its 1,000,000 lines, and one more.
abbrev pub statement_bound : ℕ
statement_bound = 1000002

-- The moment below which a script stays. A boot has at most the moment limit, each statement takes at most one moment more, and a restart one for each of 64
-- branches: 24,000,000,000,000 + 1,000,002 + 64.
abbrev pub moment_ceiling : ℕ
moment_ceiling = 24000001000066
