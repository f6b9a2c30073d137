-- What a node knows after a restart keeps what holds of every table.
use Rattle.std.proofs.Common.{◌≡◌, ◌||◌, Bool, true, false, List, [], ◌∷◌, ◌++◌, None, length, suc, refl, ap, subst, arith, inl, inr}
use Rattle.std.specs.List.{list_any}
use Rattle.commit_protocol.specs.Messages.{LogRecord, same_id}
use Rattle.commit_protocol.specs.Table.{Key, branches_of, find, same_key, record_key}
use Rattle.commit_protocol.proofs.Lists.{told_key, same_id-refl}
use Rattle.tm_table.specs.Kept.{AllFit, Unique, Keeps}
use Rattle.tm_table.specs.Restarts.{MayRestart, Distinct, serials_of}

length-branches_of : (rs : List LogRecord) → length (branches_of rs) ≡ length rs
length-branches_of [] = refl
length-branches_of (r ∷ rs) = ap (λ n. suc n) (length-branches_of rs)

all_fit : (rs : List LogRecord) → AllFit (branches_of rs)
all_fit [] = tt
all_fit (r ∷ rs) = (omega arith, all_fit rs)

other_serial : (a b : Key) → same_id a.serial b.serial ≡ false → same_key a b ≡ false
other_serial a b h =
    elim (told_key a b) [
      | inl t ↦ absurd (let q : same_id a.serial b.serial ≡ true = (let P : Key → Type 0 = λ k. same_id a.serial k.serial ≡ true in subst P t.1 (same_id-refl a.serial)) in cc)
      | inr t ↦ t.0
    ]

neither : (a b : Bool) → (a || b) ≡ false → (a ≡ false) × (b ≡ false)
neither true b h = absurd cc
neither false b h = (refl, h)

not_among : (k : Key) (rs cs : List LogRecord) → list_any (λ x. same_id x k.serial) (serials_of (rs ++ cs)) ≡ false → find k (branches_of rs) ≡ None
not_among k [] cs h = refl
not_among k (r ∷ rs) cs h =
    let q = neither (same_id r.serial k.serial) (list_any (λ x. same_id x k.serial) (serials_of (rs ++ cs))) h in
    let e = other_serial (record_key r) k q.0 in
    rw e (not_among k rs cs q.1)

unique_restart : (rs cs : List LogRecord) → Distinct (serials_of (rs ++ cs)) → Unique (branches_of rs)
unique_restart [] cs d = tt
unique_restart (r ∷ rs) cs d = (not_among (record_key r) rs cs d.0, unique_restart rs cs d.1)

pub keeps_restart : (rs cs : List LogRecord) → MayRestart rs cs → Keeps (branches_of rs) cs
keeps_restart rs cs m =
    let e = length-branches_of rs in let few = m.few in let slots = m.slots in
    record { few = omega arith; slots = omega arith; unique = unique_restart rs cs m.distinct; fit = all_fit rs }
