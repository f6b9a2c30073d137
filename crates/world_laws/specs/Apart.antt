-- The locks of a node lie apart: no key of a file stands twice.
use Rattle.std.specs.Prelude.{◌≡◌, ℕ, List, [], ◌∷◌, false, None}
use Rattle.std.specs.List.{AllByRecursion}
use Rattle.std.specs.Ordering.{eq_by_cmp}
use Rattle.std.specs.FinMap.{get}
use Rattle.vms_model.specs.Ids.{Id}
use Rattle.vms_model.specs.Keys.{Key, End}
use Rattle.run_model.specs.script_model.Statements.{Operation}
use Rattle.run_model.specs.records_model.Records.{key_cmp}
use Rattle.run_model.specs.Locks.{Lock, is_locked, released, with_locks}
use Rattle.run_model.specs.World.{File}
use Rattle.run_model.specs.Operations.{current_records, keys_held}

-- no two of these keys are one
abbrev pub KeysDiffer : List Key → Type 0
KeysDiffer [] = Unit {0}
KeysDiffer (k ∷ ks) = AllByRecursion (λ (j : Key). eq_by_cmp key_cmp k j ≡ false) ks × KeysDiffer ks

-- no two of these locks are of one key of one file
abbrev pub LocksDiffer : List Lock → Type 0
LocksDiffer [] = Unit {0}
LocksDiffer (l ∷ ls) = (is_locked ls l.file l.key ≡ false) × LocksDiffer ls

-- A branch holds more keys,
abbrev pub MoreLocksDiffer : Type 0
MoreLocksDiffer = (serial : Id) (file : List ℕ) (ks : List Key) (ls : List Lock) → KeysDiffer ks → LocksDiffer ls → LocksDiffer (with_locks serial file ks ls)

-- or lets go of all of them.
abbrev pub FewerLocksDiffer : Type 0
FewerLocksDiffer = (serial : Id) (ls : List Lock) → LocksDiffer ls → LocksDiffer (released serial ls)

-- The keys that it holds for an operation are such, where no record of the file stands at its end.
abbrev pub HeldKeysDiffer : Type 0
HeldKeysDiffer = (f : File) (op : Operation) → get (current_records f) End ≡ None → KeysDiffer (keys_held f op)
