-- What holds of a node's table between any two acts.
use Rattle.std.specs.Prelude.{ℕ, ◌≡◌, ◌+◌, ◌≤◌, List, [], ◌∷◌, length, None, remove, slice_set, if◌then◌else◌}
use Rattle.vms_model.specs.Ids.{Id}
use Rattle.vms_model.specs.Limits.{branch_limit, slot_limit}
use Rattle.commit_protocol.specs.Messages.{LogRecord}
use Rattle.commit_protocol.specs.Table.{Branch, Child, find, nothing_left}
use Rattle.commit_protocol.specs.Rows.{has_bid}

-- how many of these identifiers have no serial
abbrev pub untaken : List Id → List Child → ℕ
untaken [] cs = 0
untaken (x ∷ xs) cs = if has_bid x cs then untaken xs cs else 1 + untaken xs cs

-- each accepted serial took an identifier of its own
abbrev pub Fits : Branch → Type 0
Fits b = length b.accepted + untaken b.bids b.accepted ≤ length b.bids

abbrev pub AllFit : List Branch → Type 0
AllFit [] = Unit {0}
AllFit (b ∷ bs) = Fits b × AllFit bs

-- no key stands twice
abbrev pub Unique : List Branch → Type 0
Unique [] = Unit {0}
Unique (b ∷ bs) = (find b.key bs ≡ None) × Unique bs

pub record Keeps (table : List Branch) (records : List LogRecord) : Type 0 where
  pub few : length table ≤ branch_limit
  pub slots : length table + length records ≤ slot_limit
  pub unique : Unique table
  pub fit : AllFit table

-- a record is written again at its place, or goes where nothing is left
abbrev pub kept_at : ℕ → LogRecord → List LogRecord → List LogRecord
kept_at i r rs = if nothing_left r.waiting r.rms then remove rs i else slice_set rs i r
