-- Units stay those of the branches of a table, act by act.
use Rattle.std.proofs.Common.{◌≡◌, List, [], ◌∷◌, ◌++◌, Bool, true, false, Option, Some, None, if◌then◌else◌, sym, ◌∙◌, ap, subst, inl, inr}
use Rattle.std.specs.List.{AllByRecursion}
use Rattle.commit_protocol.specs.Allowed.{is_prepared}
use Rattle.commit_protocol.specs.Table.{Branch, Key as BranchKey, find, put, same_key}
use Rattle.commit_protocol.specs.World.{In}
use Rattle.commit_protocol.proofs.Lists.{find-key}
use Rattle.recovery_units.proofs.world_laws.FindLemmas.{some_is}
use Rattle.unit_table.specs.Units.{OpenUnit}
use Rattle.recovery_units.specs.State.{AreOfBranches, IsOfBranch}

-- a branch is stated anew
pub restated : (b old : Branch) (us : List OpenUnit) (bs : List Branch) → find b.key bs ≡ Some old → ((u : OpenUnit) → IsOfBranch u old → IsOfBranch u b) → AreOfBranches us bs → AreOfBranches us (put b bs)
restated b old [] [] e so h = let none : ⊥ = cc in absurd none
restated b old [] (x ∷ bs) e so h = absurd h
restated b old (u ∷ us) [] e so h = absurd h
restated b old (u ∷ us) (x ∷ bs) e so h = go (same_key x.key b.key) e (restated b old us bs)
  where
    go : (t : Bool) → ◌≡◌ {A = Option Branch} (if t then Some x else find b.key bs) (Some old) → (find b.key bs ≡ Some old → ((u : OpenUnit) → IsOfBranch u old → IsOfBranch u b) → AreOfBranches us bs → AreOfBranches us (put b bs)) →
        AreOfBranches (u ∷ us) (if t then b ∷ bs else x ∷ put b bs)
    go true k more = (so u (subst (IsOfBranch u) (some_is x old k) h.0), h.1)
    go false k more = (h.0, more k so h.1)

-- one that stays as prepared as it was, and has changed something or not as before
pub stays_of : (b old : Branch) (bs : List Branch) → find b.key bs ≡ Some old → is_prepared b.state ≡ is_prepared old.state → b.changed ≡ old.changed → (u : OpenUnit) → IsOfBranch u old → IsOfBranch u b
stays_of b old bs e state changed u is =
    let key = find-key b.key bs old e in record {
      tid = ap (λ (k : BranchKey). k.tid) (sym key) ∙ is.tid;
      serial = ap (λ (k : BranchKey). k.serial) (sym key) ∙ is.serial;
      prepared = state ∙ is.prepared;
      changed = λ still. changed ∙ is.changed still;
    }

-- a branch begins
pub begun : (u : OpenUnit) (b : Branch) (us : List OpenUnit) (bs : List Branch) → find b.key bs ≡ None → IsOfBranch u b → AreOfBranches us bs → AreOfBranches (us ++ u ∷ []) (put b bs)
begun u b [] [] e is h = (is, tt)
begun u b [] (x ∷ bs) e is h = absurd h
begun u b (w ∷ us) [] e is h = absurd h
begun u b (w ∷ us) (x ∷ bs) e is h = go (same_key x.key b.key) e (begun u b us bs)
  where
    go : (t : Bool) → ◌≡◌ {A = Option Branch} (if t then Some x else find b.key bs) None → (find b.key bs ≡ None → IsOfBranch u b → AreOfBranches us bs → AreOfBranches (us ++ u ∷ []) (put b bs)) →
        AreOfBranches (w ∷ us ++ u ∷ []) (if t then b ∷ bs else x ∷ put b bs)
    go true k more = let none : ⊥ = cc in absurd none
    go false k more = (h.0, more k is h.1)

-- the unit of a branch, and what holds of each unit holds of it
pub record HasUnit (P : OpenUnit → Type 0) (b : Branch) : Type 0 where
  pub unit : OpenUnit
  pub of : IsOfBranch unit b
  pub holds : P unit

pub unit_there : (P : OpenUnit → Type 0) (us : List OpenUnit) (bs : List Branch) (b : Branch) → AllByRecursion P us → AreOfBranches us bs → In b bs → HasUnit P b
unit_there P [] [] b all h i = absurd i
unit_there P [] (x ∷ bs) b all h i = absurd h
unit_there P (u ∷ us) [] b all h i = absurd i
unit_there P (u ∷ us) (x ∷ bs) b all h i = elim i [
  | inl same ↦ record { unit = u; of = subst (IsOfBranch u) (sym same) h.0; holds = all.0 }
  | inr more ↦ unit_there P us bs b all.1 h.1 more
]
