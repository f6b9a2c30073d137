-- The keys that unsettled branches of a node hold.
use Rattle.std.specs.Prelude.{ℕ, ◌&&◌, ◌++◌, List, [], ◌∷◌, Bool, Option, Some, None, map, if◌then◌else◌}
use Rattle.std.specs.List.{list_any}
use Rattle.std.specs.Ordering.{eq_by_cmp}
use Rattle.std.specs.Str.{bytes_eq}
use Rattle.transcript_model.specs.vms_model.Ids.{Id}
use Rattle.transcript_model.specs.vms_model.Keys.{Key}
use Rattle.recovery_model.specs.records_model.Records.{key_cmp}
use Rattle.recovery_model.specs.records_model.History.{same_id}

-- a key of a file, or a sequential file's end, which this unsettled branch holds
pub record Lock : Type 0 where
  pub file : List ℕ
  pub key : Key
  pub by : Id

-- whether a lock is of this key of this file
abbrev pub is_lock_of : (file : List ℕ) → Key → Lock → Bool
is_lock_of file key l = bytes_eq file l.file && eq_by_cmp key_cmp key l.key

-- the branch that holds a key, where one does
abbrev pub holder : List Lock → (file : List ℕ) → Key → Option Id
holder [] file key = None
holder (l ∷ ls) file key = if is_lock_of file key l then Some l.by else holder ls file key

-- whether one does
abbrev pub is_locked : List Lock → (file : List ℕ) → Key → Bool
is_locked ls file key = list_any (is_lock_of file key) ls

-- those of some keys that nobody holds
abbrev pub not_locked : List Lock → (file : List ℕ) → List Key → List Key
not_locked ls file [] = []
not_locked ls file (k ∷ ks) = if is_locked ls file k then not_locked ls file ks else k ∷ not_locked ls file ks

-- the locks once a branch holds these keys too
abbrev pub with_locks : Id → (file : List ℕ) → List Key → List Lock → List Lock
with_locks serial file ks ls = map (λ k. record { file = file; key = k; by = serial }) (not_locked ls file ks) ++ ls

-- the locks but for those of one branch
abbrev pub released : Id → List Lock → List Lock
released serial [] = []
released serial (l ∷ ls) = if same_id serial l.by then released serial ls else l ∷ released serial ls
