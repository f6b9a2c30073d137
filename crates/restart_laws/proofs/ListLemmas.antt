-- Facts of each of several branches.
use Rattle.std.proofs.Common.{◌≡◌, Bool, true, false, cond, List, [], ◌∷◌, refl, sym, subst}
use Rattle.std.specs.List.{AllByRecursion}
use Rattle.vms_model.specs.Ids.{Id}
use Rattle.index_model.specs.records_model.Records.{Change}
use Rattle.index_model.specs.records_model.History.{LiveChanges, same_id, with_change}
use Rattle.unit_laws.specs.Units.{SerialsDiffer}
use Rattle.unit_laws.proofs.LiveLemmas.{id_is}

pub all_as : {A : Type 0} (P Q : A → Type 0) (xs : List A) → ((x : A) → P x → Q x) → AllByRecursion P xs → AllByRecursion Q xs
all_as P Q [] f h = tt
all_as P Q (x ∷ xs) f h = (f x h.0, all_as P Q xs f h.1)

pub both_as : {A : Type 0} (P Q R : A → Type 0) (xs : List A) → ((x : A) → P x → Q x → R x) → AllByRecursion P xs → AllByRecursion Q xs → AllByRecursion R xs
both_as P Q R [] f p q = tt
both_as P Q R (x ∷ xs) f p q = (f x p.0 q.0, both_as P Q R xs f p.1 q.1)

pub all_of : {A : Type 0} (P : A → Type 0) (xs : List A) → ((x : A) → P x) → AllByRecursion P xs
all_of P [] f = tt
all_of P (x ∷ xs) f = (f x, all_of P xs f)

-- One branch changes more: what holds of its changes then, and still of the others'.
pub change_all : (P Q : List Change → Type 0) (s : Id) (c : Change) (ls : List LiveChanges) → SerialsDiffer ls → P [] → ((cs : List Change) → P cs → Q (c ∷ cs)) → AllByRecursion (λ (l : LiveChanges). P l.changes) ls →
    AllByRecursion (λ (l : LiveChanges). same_id s l.serial ≡ false → Q l.changes) ls → AllByRecursion (λ (l : LiveChanges). Q l.changes) (with_change s c ls)
change_all P Q s c [] differ none own all others = (own [] none, tt)
change_all P Q s c (l ∷ ls) differ none own all others = step (same_id s l.serial) refl (change_all P Q s c ls differ.1 none own all.1 others.1)
  where
    rest : same_id s l.serial ≡ true → AllByRecursion (λ (k : LiveChanges). Q k.changes) ls
    rest is = both_as (λ (k : LiveChanges). same_id s k.serial ≡ false) (λ (k : LiveChanges). same_id s k.serial ≡ false → Q k.changes) (λ (k : LiveChanges). Q k.changes) ls (λ k other so. so other)
        (subst (λ (q : Id). AllByRecursion (λ (k : LiveChanges). same_id q k.serial ≡ false) ls) (sym (id_is s l.serial is)) differ.0) others.1

    step : (x : Bool) → same_id s l.serial ≡ x → AllByRecursion (λ (k : LiveChanges). Q k.changes) (with_change s c ls) →
        AllByRecursion (λ (k : LiveChanges). Q k.changes) (cond x (record l { changes = c ∷ l.changes } ∷ ls) (l ∷ with_change s c ls))
    step true is later = (own l.changes all.0, rest is)
    step false is later = (others.0 is, later)
