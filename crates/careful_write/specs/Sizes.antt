-- How many blocks a group has.
use Rattle.std.specs.Prelude.{ℕ}

-- how many blocks a group has at the most
abbrev pub group_limit : ℕ
group_limit = 512

-- how many blocks are staged at the most where a change of a file begins
abbrev pub staged_limit : ℕ
staged_limit = 64
