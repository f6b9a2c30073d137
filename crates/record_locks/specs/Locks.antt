-- The locks of a node as a list, the newest first.
use Rattle.std.specs.Prelude.{ℕ, ◌==◌, ◌&&◌, Bool, List, [], ◌∷◌, ◌++◌, Option, Some, None, map, nat_le, if◌then◌else◌}
use Rattle.std.specs.List.{list_any}
use Rattle.std.specs.Ordering.{eq_by_cmp}
use Rattle.vms_base.specs.vms_model.Ids.{Id}
use Rattle.vms_base.specs.vms_model.Keys.{Key}
use Rattle.table_keys.specs.records_model.Records.{key_cmp}
use Rattle.table_keys.specs.records_model.History.{same_id}

-- a key of a file, or a sequential file's end, which this branch holds
pub record Lock : Type 0 where
  pub file : ℕ
  pub key : Key
  pub by : Id

abbrev pub is_lock_of : (file : ℕ) → Key → Lock → Bool
is_lock_of file key l = (file == l.file) && eq_by_cmp key_cmp key l.key

-- the branch that holds a key
abbrev pub holder : List Lock → (file : ℕ) → Key → Option Id
holder [] file key = None
holder (l ∷ ls) file key = if is_lock_of file key l then Some l.by else holder ls file key

-- whether one does
abbrev pub is_locked : List Lock → (file : ℕ) → Key → Bool
is_locked ls file key = list_any (is_lock_of file key) ls

-- those of some keys that nobody holds
abbrev pub not_locked : List Lock → (file : ℕ) → List Key → List Key
not_locked ls file [] = []
not_locked ls file (k ∷ ks) = if is_locked ls file k then not_locked ls file ks else k ∷ not_locked ls file ks

-- the locks once a branch holds these keys too
abbrev pub with_locks : Id → (file : ℕ) → List Key → List Lock → List Lock
with_locks serial file ks ls = map (λ k. record { file = file; key = k; by = serial }) (not_locked ls file ks) ++ ls

-- the locks but for those of one branch
abbrev pub released : Id → List Lock → List Lock
released serial [] = []
released serial (l ∷ ls) = if same_id serial l.by then released serial ls else l ∷ released serial ls

-- who holds a key once a branch let go of its own
abbrev pub held_by_other : Id → Option Id → Option Id
held_by_other serial None = None
held_by_other serial (Some by) = if same_id serial by then None else Some by

-- a table of locks, and how many it may have
pub record LockTable : Type 0 where
  pub most : ℕ
  pub locks : List Lock

-- why a branch does not get a key
pub data Refusal : Type 0 where
  -- another branch has it
  Held : Id → Refusal
  -- nobody has it, and as many are held as may be
  Full : Refusal

abbrev pub lock_refused : (serial : Id) → Option Id → (held most : ℕ) → Option Refusal
lock_refused serial (Some by) held most = if same_id serial by then None else Some (Held by)
lock_refused serial None held most = if nat_le most held then Some Full else None
