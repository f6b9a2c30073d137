-- The keys that units hold, as units change and go.
use Rattle.std.proofs.Common.{◌≡◌, ◌⊎◌, ℕ, suc, ◌≤◌, Bool, true, false, List, [], ◌∷◌, length, if◌then◌else◌, ap, ◌∙◌, arith, inl, inr}
use Rattle.record_locks.specs.Locks.{Lock, LockTable, released}
use Rattle.records_model.specs.History.{same_id}
use Rattle.vms_model.specs.Ids.{Id}

pub released_few : (serial : Id) (ls : List Lock) → length (released serial ls) ≤ length ls
released_few serial [] = omega arith
released_few serial (l ∷ ls) = go (same_id serial l.by) (released_few serial ls)
  where
    go : (t : Bool) → length (released serial ls) ≤ length ls → length (if t then released serial ls else l ∷ released serial ls) ≤ suc (length ls)
    go true le = omega (arith, le)
    go false le = omega (arith, le)

-- a table of locks without those of one branch
pub released_fits : (serial : Id) (old new : LockTable) → new ≡ record old { locks = released serial old.locks } → old.most ≡ 4096 → length old.locks ≤ 4096 → (new.most ≡ 4096) × (length new.locks ≤ 4096)
released_fits serial old new is most few =
    let many : length new.locks ≡ length (released serial old.locks) = ap (λ (t : LockTable). length t.locks) is in
    (ap (λ (t : LockTable). t.most) is ∙ most, omega (arith, many, released_few serial old.locks, few))

-- or the same table
pub kept_fits : (serial : Id) (old new : LockTable) → (new ≡ old) ⊎ (new ≡ record old { locks = released serial old.locks }) → old.most ≡ 4096 → length old.locks ≤ 4096 → (new.most ≡ 4096) × (length new.locks ≤ 4096)
kept_fits serial old new (inl same) most few = (ap (λ (t : LockTable). t.most) same ∙ most, (let many = ap (λ (t : LockTable). length t.locks) same in omega (arith, many, few)))
kept_fits serial old new (inr is) most few = released_fits serial old new is most few
