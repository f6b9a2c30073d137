-- The units of a node, each of a branch of its table.
use Rattle.std.proofs.Common.{◌≡◌, List, [], ◌∷◌, Bool, true, false, Option, Some, if◌then◌else◌, map, refl, sym, ◌∙◌, ap, subst, inl, inr}
use Rattle.std.specs.List.{AllByRecursion}
use Rattle.vms_model.specs.Ids.{Id}
use Rattle.records_model.specs.History.{same_id}
use Rattle.unit_table.specs.Units.{OpenUnit}
use Rattle.commit_protocol.specs.Agreement as agreement
use Rattle.commit_protocol.specs.Table.{Branch, branch_serials}
use Rattle.commit_protocol.specs.World.{In}
use Rattle.recovery_units.specs.run_model.World.{Node, find_branch, serials_of, without_branch}
use Rattle.recovery_units.specs.world_laws.Nodes.{IsUp}
use Rattle.recovery_units.specs.world_laws.Running.{Each}
use Rattle.recovery_units.proofs.world_laws.FindLemmas.{some_is}
use Rattle.recovery_units.proofs.world_laws.IdLemmas.{each_at, id_itself, id_other, in_map}
use Rattle.recovery_units.proofs.world_laws.TableLemmas.{same_serials}
use Rattle.recovery_units.proofs.world_laws.ToldLemmas.{id_apart}
use Rattle.recovery_units.proofs.world_laws.UpLemmas.{differ}
use Rattle.recovery_units.specs.State.{AreOfBranches, IsOfBranch, without_unit}

-- no id is twice among these
abbrev pub Apart : Id → List Id → Type 0
Apart x ys = Each (λ (y : Id). same_id x y ≡ false) ys

abbrev pub Distinct : List Id → Type 0
Distinct [] = Unit {0}
Distinct (x ∷ xs) = Apart x xs × Distinct xs

apart_each : (x : Id) (ys : List Id) → (In x ys → ⊥) → Apart x ys
apart_each x [] f = tt
apart_each x (y ∷ ys) f = (id_apart x y (λ e. f (inl e)), apart_each x ys (λ i. f (inr i)))

pub distinct_ids : (xs : List Id) → agreement.Distinct xs → Distinct xs
distinct_ids [] d = tt
distinct_ids (x ∷ xs) d = (apart_each x xs d.0, distinct_ids xs d.1)

-- the serials of units
abbrev pub serials : List OpenUnit → List Id
serials us = map (λ (u : OpenUnit). u.serial) us

pub serials_are : (us : List OpenUnit) (bs : List Branch) → AreOfBranches us bs → serials_of bs ≡ serials us
serials_are [] [] h = refl
serials_are [] (b ∷ bs) h = absurd h
serials_are (u ∷ us) [] h = absurd h
serials_are (u ∷ us) (b ∷ bs) h = λ i. h.0.serial i ∷ serials_are us bs h.1 i

pub serials_differ : (us : List OpenUnit) (bs : List Branch) → AreOfBranches us bs → agreement.Distinct (branch_serials bs) → Distinct (serials us)
serials_differ us bs h d = distinct_ids (serials us) (subst agreement.Distinct (sym (same_serials bs) ∙ serials_are us bs h) d)

-- the units of a node that is up are of different branches
pub units_differ : (us : List OpenUnit) (n : Node) → AreOfBranches us n.volatile.branches → IsUp n → Distinct (serials us)
units_differ us n h up = serials_differ us n.volatile.branches h (differ n up.table)

-- a unit among them, and its serial
pub serial_among : (u : OpenUnit) (us : List OpenUnit) → In u us → In u.serial (serials us)
serial_among u us i = in_map (λ (x : OpenUnit). x.serial) u us i

pub apart_at : (x : Id) (us : List OpenUnit) (u : OpenUnit) → Apart x (serials us) → In u us → same_id x u.serial ≡ false
apart_at x us u apart i = each_at (λ (y : Id). same_id x y ≡ false) u.serial (serials us) apart (serial_among u us i)

-- A branch that is found is one of them, of a unit that is one of them.
pub found_there : (x : Id) (bs : List Branch) (b : Branch) → find_branch x bs ≡ Some b → In b bs
found_there x [] b e = let none : ⊥ = cc in absurd none
found_there x (c ∷ bs) b e = go (same_id x c.key.serial) e (found_there x bs b)
  where
    go : (t : Bool) → ◌≡◌ {A = Option Branch} (if t then Some c else find_branch x bs) (Some b) → (find_branch x bs ≡ Some b → In b bs) → In b (c ∷ bs)
    go true is more = inl (sym (some_is c b is))
    go false is more = inr (more is)

pub found_among : (x : Id) (bs : List Branch) (b : Branch) → find_branch x bs ≡ Some b → In b.key.serial (serials_of bs)
found_among x bs b e = in_map (λ (c : Branch). c.key.serial) b bs (found_there x bs b e)

-- the unit of a branch that is found, and what holds of each unit
pub record HasUnit (x : Id) (us : List OpenUnit) (b : Branch) : Type 0 where
  pub unit : OpenUnit
  pub there : In unit us
  pub of : IsOfBranch unit b
  pub serial : unit.serial ≡ x

pub unit_for : (x : Id) (us : List OpenUnit) (bs : List Branch) (b : Branch) → AreOfBranches us bs → find_branch x bs ≡ Some b → x ≡ b.key.serial → HasUnit x us b
unit_for x [] [] b h e own = let none : ⊥ = cc in absurd none
unit_for x [] (c ∷ bs) b h e own = absurd h
unit_for x (u ∷ us) [] b h e own = absurd h
unit_for x (u ∷ us) (c ∷ bs) b h e own = go (same_id x c.key.serial) e (unit_for x us bs b h.1)
  where
    go : (t : Bool) → ◌≡◌ {A = Option Branch} (if t then Some c else find_branch x bs) (Some b) → (find_branch x bs ≡ Some b → x ≡ b.key.serial → HasUnit x us b) → HasUnit x (u ∷ us) b
    go true is more = let of = subst (IsOfBranch u) (some_is c b is) h.0 in record { unit = u; there = inl refl; of = of; serial = sym of.serial ∙ sym own }
    go false is more = let r = more is own in record { unit = r.unit; there = inr r.there; of = r.of; serial = r.serial }

-- the branch of a unit is found by its serial
pub record HasBranch (u : OpenUnit) (bs : List Branch) : Type 0 where
  pub branch : Branch
  pub found : find_branch u.serial bs ≡ Some branch
  pub of : IsOfBranch u branch

pub found_unit : (us : List OpenUnit) (bs : List Branch) (u : OpenUnit) → AreOfBranches us bs → Distinct (serials us) → In u us → HasBranch u bs
found_unit [] bs u h d i = absurd i
found_unit (w ∷ us) [] u h d i = absurd h
found_unit (w ∷ us) (b ∷ bs) u h d i = elim i [
  | inl same ↦
      let own : same_id u.serial b.key.serial ≡ true = subst (λ (x : Id). same_id u.serial x ≡ true) (ap (λ (x : OpenUnit). x.serial) same ∙ sym h.0.serial) (id_itself u.serial) in
      record { branch = b; found = ap (λ (t : Bool). if t then Some b else find_branch u.serial bs) own; of = subst (λ (x : OpenUnit). IsOfBranch x b) (sym same) h.0 }
  | inr more ↦
      let r = found_unit us bs u h.1 d.1 more in
      let other : same_id u.serial b.key.serial ≡ false = subst (λ (x : Id). same_id u.serial x ≡ false) (sym h.0.serial) (id_other w.serial u.serial (apart_at w.serial us u d.0 more)) in
      record { branch = r.branch; found = ap (λ (t : Bool). if t then Some b else find_branch u.serial bs) other ∙ r.found; of = r.of }
]

-- and one that is found by it is the unit's
pub own_branch : (us : List OpenUnit) (bs : List Branch) (u : OpenUnit) (b : Branch) → AreOfBranches us bs → Distinct (serials us) → In u us → find_branch u.serial bs ≡ Some b → IsOfBranch u b
own_branch us bs u b h d i e = let r = found_unit us bs u h d i in subst (IsOfBranch u) (some_is r.branch b (sym r.found ∙ e)) r.of

pub all_at : (P : OpenUnit → Type 0) (us : List OpenUnit) (u : OpenUnit) → AllByRecursion P us → In u us → P u
all_at P [] u h i = absurd i
all_at P (w ∷ us) u h i = elim i [ inl same ↦ subst P (sym same) h.0 | inr more ↦ all_at P us u h.1 more ]

-- Without the branch of one serial.
pub left_branches : (x : Id) (us : List OpenUnit) (bs : List Branch) → AreOfBranches us bs → AreOfBranches (without_unit x us) (without_branch x bs)
left_branches x [] [] h = tt
left_branches x [] (b ∷ bs) h = absurd h
left_branches x (u ∷ us) [] h = absurd h
left_branches x (u ∷ us) (b ∷ bs) h = subst (λ (y : Id). AreOfBranches (without_unit x (u ∷ us)) (if same_id x y then bs else b ∷ without_branch x bs)) (sym h.0.serial) (go (same_id x u.serial) (left_branches x us bs h.1))
  where
    go : (t : Bool) → AreOfBranches (without_unit x us) (without_branch x bs) → AreOfBranches (if t then us else u ∷ without_unit x us) (if t then bs else b ∷ without_branch x bs)
    go true rest = h.1
    go false rest = (h.0, rest)
