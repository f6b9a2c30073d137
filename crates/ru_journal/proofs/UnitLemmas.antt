-- The first unit of a branch, and what becomes of the units with one entry more.
use Rattle.std.proofs.Common.{◌≡◌, ℕ, zero, suc, ◌+◌, ◌<◌, Bool, true, false, List, [], ◌∷◌, ◌++◌, ◌||◌, ◌==◌, length, map, take, set, get_or, Option, Some, None, Result, Ok, Err, IsOk, IfOk, is_some, slice_get, if◌then◌else◌, refl, sym, ap, subst, ◌∙◌, arith}
use Rattle.std.proofs.lemmas.Bool.{false≢true}
use Rattle.std.proofs.lemmas.List.{length-append}
use Rattle.std.specs.List.{AllByRecursion, list_any, remove}
use Rattle.indexmap.specs.IndexSet.{insert_key}
use Rattle.vms_base.specs.vms_model.Ids.{Id}
use Rattle.vms_base.specs.Ids.{serial_of}
use Rattle.table_keys.specs.records_model.History.{same_id}
use Rattle.table_keys.specs.declared.key.BranchKey.{BranchKey}
use Rattle.journal_format.specs.journal_model.Entries.{Entry}
use Rattle.ru_journal.specs.declared.unit.UnitInfo.{UnitInfo}
use Rattle.ru_journal.specs.Told.{UnitTold, find_unit, with_unit, without_unit, more_told, first_told, units_after}
use Rattle.ru_journal.specs.Units.{unit_of, id_of_key, IsPlace}

pub of_ok : {T E P : Type 0} (r : Result T E) → IsOk r → IfOk r (λ x. P) → P
of_ok (Ok x) ok h = h
of_ok (Err e) ok h = absurd (false≢true ok)

no_some : {X : Type 0} {x : X} → None ≡ Some x → ⊥
no_some e = false≢true (ap is_some e)

same_some : {X : Type 0} (x y : X) → Some x ≡ Some y → x ≡ y
same_some x y e = ap (λ (o : Option _). elim o [ Some z ↦ z | None ↦ x ]) e

pub indexed : {X : Type 0} (xs : List X) (i : ℕ) (x : X) → i < length xs → x ≡ get_or xs i x → slice_get xs i ≡ Some x
indexed [] i x lt at = absurd (omega (arith, lt))
indexed (y ∷ xs) zero x lt at = ap Some (sym at)
indexed (y ∷ xs) (suc i) x lt at = indexed xs i x (omega (arith, lt)) at

same_at : {X : Type 0} (xs : List X) (i : ℕ) (x y : X) → slice_get xs i ≡ Some y → x ≡ get_or xs i x → x ≡ y
same_at [] i x y got at = absurd (no_some got)
same_at (z ∷ xs) zero x y got at = at ∙ same_some z y got
same_at (z ∷ xs) (suc i) x y got at = same_at xs i x y got at

-- a branch that is not the first of these units' is not in them where it is not in the others
skipped : (b : Bool) (u : UnitTold) (r : Option UnitTold) → (if b then Some u else r) ≡ None → (b ≡ false) × (r ≡ None)
skipped true u r h = absurd (no_some (sym h))
skipped false u r h = (refl, h)

-- one unit more without the branch
pub none_more : (serial : Id) (us : List UnitInfo) (i : ℕ) (u : UnitInfo) → slice_get us i ≡ Some u → find_unit serial (map unit_of (take i us)) ≡ None → same_id serial (serial_of u.serial) ≡ false
    → find_unit serial (map unit_of (take (suc i) us)) ≡ None
none_more serial [] i u at before other = absurd (no_some at)
none_more serial (x ∷ us) zero u at before other =
    ap (λ (b : Bool). if b then Some (unit_of x) else None) (ap (λ (y : UnitInfo). same_id serial (serial_of y.serial)) (same_some x u at) ∙ other)
none_more serial (x ∷ us) (suc i) u at before other = let s = skipped (same_id serial (serial_of x.serial)) (unit_of x) (find_unit serial (map unit_of (take i us))) before in
    ap (λ (b : Bool). if b then Some (unit_of x) else find_unit serial (map unit_of (take (suc i) us))) s.0 ∙ none_more serial us i u at s.1 other

pub found_at : (serial : Id) (us : List UnitInfo) (i : ℕ) (u : UnitInfo) → slice_get us i ≡ Some u → find_unit serial (map unit_of (take i us)) ≡ None → same_id serial (serial_of u.serial) ≡ true
    → find_unit serial (map unit_of us) ≡ Some (unit_of u)
found_at serial [] i u at before here = absurd (no_some at)
found_at serial (x ∷ us) zero u at before here =
    ap (λ (b : Bool). if b then Some (unit_of x) else find_unit serial (map unit_of us)) (ap (λ (y : UnitInfo). same_id serial (serial_of y.serial)) (same_some x u at) ∙ here)
    ∙ ap (λ (y : UnitInfo). Some (unit_of y)) (same_some x u at)
found_at serial (x ∷ us) (suc i) u at before here = let s = skipped (same_id serial (serial_of x.serial)) (unit_of x) (find_unit serial (map unit_of (take i us))) before in
    ap (λ (b : Bool). if b then Some (unit_of x) else find_unit serial (map unit_of us)) s.0 ∙ found_at serial us i u at s.1 here

-- what is read at the place of a branch is its unit
pub placed : (serial : Id) (us : List UnitInfo) (i : ℕ) (x : UnitInfo) → IsPlace serial us i → x ≡ get_or us i x → (slice_get us i ≡ Some x) × (same_id serial (serial_of x.serial) ≡ true)
placed serial us i x is at = let same = sym (same_at us i x is.unit is.at at) in (is.at ∙ ap Some same, ap (λ (u : UnitInfo). same_id serial (serial_of u.serial)) (sym same) ∙ is.here)

pub found_there : (serial : Id) (us : List UnitInfo) (i : ℕ) (x : UnitInfo) → IsPlace serial us i → x ≡ get_or us i x → find_unit serial (map unit_of us) ≡ Some (unit_of x)
found_there serial us i x is at = let p = placed serial us i x is at in found_at serial us i x p.0 is.before p.1

pub changed_at : (serial : Id) (f : UnitTold → UnitTold) (y : UnitInfo) (us : List UnitInfo) (i : ℕ) (u : UnitInfo) → slice_get us i ≡ Some u → find_unit serial (map unit_of (take i us)) ≡ None
    → same_id serial (serial_of u.serial) ≡ true → unit_of y ≡ f (unit_of u) → map unit_of (set us i y) ≡ with_unit serial f (map unit_of us)
changed_at serial f y [] i u at before here is = absurd (no_some at)
changed_at serial f y (x ∷ us) zero u at before here is =
    ap (λ (z : UnitTold). z ∷ map unit_of us) (is ∙ ap (λ (z : UnitInfo). f (unit_of z)) (sym (same_some x u at)))
    ∙ ap (λ (b : Bool). if b then f (unit_of x) ∷ map unit_of us else unit_of x ∷ with_unit serial f (map unit_of us)) (sym (ap (λ (z : UnitInfo). same_id serial (serial_of z.serial)) (same_some x u at) ∙ here))
changed_at serial f y (x ∷ us) (suc i) u at before here is = let s = skipped (same_id serial (serial_of x.serial)) (unit_of x) (find_unit serial (map unit_of (take i us))) before in
    ap (λ (r : List UnitTold). unit_of x ∷ r) (changed_at serial f y us i u at s.1 here is)
    ∙ ap (λ (b : Bool). if b then f (unit_of x) ∷ map unit_of us else unit_of x ∷ with_unit serial f (map unit_of us)) (sym s.0)

pub removed_at : (serial : Id) (us : List UnitInfo) (i : ℕ) (u : UnitInfo) → slice_get us i ≡ Some u → find_unit serial (map unit_of (take i us)) ≡ None → same_id serial (serial_of u.serial) ≡ true
    → map unit_of (remove us i) ≡ without_unit serial (map unit_of us)
removed_at serial [] i u at before here = absurd (no_some at)
removed_at serial (x ∷ us) zero u at before here =
    ap (λ (b : Bool). if b then map unit_of us else unit_of x ∷ without_unit serial (map unit_of us)) (sym (ap (λ (z : UnitInfo). same_id serial (serial_of z.serial)) (same_some x u at) ∙ here))
removed_at serial (x ∷ us) (suc i) u at before here = let s = skipped (same_id serial (serial_of x.serial)) (unit_of x) (find_unit serial (map unit_of (take i us))) before in
    ap (λ (r : List UnitTold). unit_of x ∷ r) (removed_at serial us i u at s.1 here)
    ∙ ap (λ (b : Bool). if b then map unit_of us else unit_of x ∷ without_unit serial (map unit_of us)) (sym s.0)

pub without_none : (serial : Id) (us : List UnitTold) → find_unit serial us ≡ None → without_unit serial us ≡ us
without_none serial [] none = refl
without_none serial (u ∷ us) none = let s = skipped (same_id serial u.serial) u (find_unit serial us) none in
    ap (λ (b : Bool). if b then us else u ∷ without_unit serial us) s.0 ∙ ap (λ (r : List UnitTold). u ∷ r) (without_none serial us s.1)

module _ {X : Type 0} (P : X → Type 0) where
  pub all_at : (xs : List X) (i : ℕ) (x : X) → slice_get xs i ≡ Some x → AllByRecursion P xs → P x
  all_at [] i x at all = absurd (no_some at)
  all_at (y ∷ xs) zero x at all = subst P (same_some y x at) all.0
  all_at (y ∷ xs) (suc i) x at all = all_at xs i x at all.1

  pub all_set : (xs : List X) (i : ℕ) (x : X) → P x → AllByRecursion P xs → AllByRecursion P (set xs i x)
  all_set [] i x is all = tt
  all_set (y ∷ xs) zero x is all = (is, all.1)
  all_set (y ∷ xs) (suc i) x is all = (all.0, all_set xs i x is all.1)

  pub all_removed : (xs : List X) (i : ℕ) → AllByRecursion P xs → AllByRecursion P (remove xs i)
  all_removed [] zero all = tt
  all_removed [] (suc i) all = tt
  all_removed (y ∷ xs) zero all = all.1
  all_removed (y ∷ xs) (suc i) all = (all.0, all_removed xs i all.1)

  pub all_behind : (xs : List X) (x : X) → P x → AllByRecursion P xs → AllByRecursion P (xs ++ x ∷ [])
  all_behind [] x is all = (is, tt)
  all_behind (y ∷ xs) x is all = (all.0, all_behind xs x is all.1)

-- a set of branches has one where its keys' serials do
pub any_key : (serial : Id) (ks : List BranchKey) → list_any (λ k. same_id serial (serial_of k.serial)) ks ≡ list_any (same_id serial) (map id_of_key ks)
any_key serial [] = refl
any_key serial (k ∷ ks) = ap (λ (b : Bool). same_id serial (serial_of k.serial) || b) (any_key serial ks)

-- a branch that is new in a set comes last
put_key : (ks : List BranchKey) (k : BranchKey) → list_any (same_id (serial_of k.serial)) (map id_of_key ks) ≡ false → insert_key (λ a b. same_id (serial_of a.serial) (serial_of b.serial)) ks k ≡ ks ++ k ∷ []
put_key ks k none = ap (λ (b : Bool). if b then ks else ks ++ k ∷ []) (any_key (serial_of k.serial) ks ∙ none)

mapped_behind : (ks : List BranchKey) (k : BranchKey) → map id_of_key (ks ++ k ∷ []) ≡ map id_of_key ks ++ serial_of k.serial ∷ []
mapped_behind [] k = refl
mapped_behind (x ∷ ks) k = ap (λ (r : List Id). id_of_key x ∷ r) (mapped_behind ks k)

pub noted : (ks new : List BranchKey) (k : BranchKey) → list_any (same_id (serial_of k.serial)) (map id_of_key ks) ≡ false → new ≡ insert_key (λ a b. same_id (serial_of a.serial) (serial_of b.serial)) ks k
    → map id_of_key new ≡ map id_of_key ks ++ serial_of k.serial ∷ []
noted ks new k none is = ap (map id_of_key) (is ∙ put_key ks k none) ∙ mapped_behind ks k

pub noted_longer : (ks new : List BranchKey) (k : BranchKey) → list_any (same_id (serial_of k.serial)) (map id_of_key ks) ≡ false → new ≡ insert_key (λ a b. same_id (serial_of a.serial) (serial_of b.serial)) ks k
    → length new ≡ length ks + 1
noted_longer ks new k none is = ap length (is ∙ put_key ks k none) ∙ length-append ks (k ∷ [])

-- the units after one entry more, by what it is and whether its branch has a unit
pub settled_after : (position : ℕ) (e : Entry) (us : List UnitTold) → (e.kind == 3) ≡ true → units_after position e us ≡ without_unit e.serial us
settled_after position e us is =
    ap (λ (b : Bool). if b then without_unit e.serial us else (if is_some (find_unit e.serial us) then with_unit e.serial (more_told e) us else (if e.kind == 1 then us ++ first_told position e ∷ [] else us))) is

pub more_after : (position : ℕ) (e : Entry) (us : List UnitTold) (u : UnitTold) → (e.kind == 3) ≡ false → find_unit e.serial us ≡ Some u → units_after position e us ≡ with_unit e.serial (more_told e) us
more_after position e us u other found =
    ap (λ (b : Bool). if b then without_unit e.serial us else (if is_some (find_unit e.serial us) then with_unit e.serial (more_told e) us else (if e.kind == 1 then us ++ first_told position e ∷ [] else us))) other
    ∙ ap (λ (o : Option UnitTold). if is_some o then with_unit e.serial (more_told e) us else (if e.kind == 1 then us ++ first_told position e ∷ [] else us)) found
