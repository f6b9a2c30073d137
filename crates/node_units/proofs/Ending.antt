-- A branch that changed nothing leaves its node, and its unit is no more.
use Rattle.std.proofs.Common.{◌≡◌, ◌+◌, ◌≤◌, ℕ, length, arith, List, [], ◌∷◌, Bool, true, false, Option, Some, if◌then◌else◌, refl, sym, ◌∙◌, ap, subst, inl, inr, map, ◌*◌, ◌-◌}
use Rattle.std.specs.List.{AllByRecursion}
use Rattle.std.proofs.lemmas.Bool.{both_ways, cond_both}
use Rattle.vms_model.specs.Ids.{Id}
use Rattle.volume.specs.State.{VolumeState}
use Rattle.records_model.specs.History.{same_id}
use Rattle.file_base.specs.declared.head.FileHead.{FileHead}
use Rattle.recovery_units.specs.image_room.Room.{AllSettlementsFit}
use Rattle.unit_table.specs.Units.{Ascend, OpenUnit, changers, owed_for}
use Rattle.commit_protocol.specs.Effects.{Effect, ForgetEffect, KeepEffect, ReadOnlyEffect, acknowledge_effects, line_effect, record_effects, release_effects}
use Rattle.commit_protocol.specs.Messages.{LogRecord, Name}
use Rattle.commit_protocol.specs.Table.{Accepts, Acknowledges, Branch, Ended, Key, Leaves, Line, Notes, Prepares, Prints, Releases, Sends, Settles, Started, Told, Undoes, acknowledged, cut, find, holds, nothing_left, released, same_key, waits_for}
use Rattle.commit_protocol.specs.World.{In}
use Rattle.commit_protocol.proofs.Lists.{find-key, same_key-true}
use Rattle.recovery_units.specs.run_model.World.{Node, Tables, acted, next_moment}
use Rattle.recovery_units.proofs.world_laws.IdLemmas.{each_at, id_itself, id_other}
use Rattle.recovery_units.proofs.world_laws.TableLemmas.{found_in}
use Rattle.unit_world.proofs.restart_laws.ListLemmas.{all_as}
use Rattle.recovery_units.specs.Calls as calls
use Rattle.recovery_units.specs.Calls.{MayDo}
use Rattle.recovery_units.specs.State.{AreOfBranches, IsInOrder, IsKept, IsUnitOf, UnitsState, owed, without_begun, without_unit}
use Rattle.unit_world.proofs.Keeping.{volume_as}
use Rattle.node_units.proofs.Branches.{Apart, Distinct, serials, units_differ}
use Rattle.node_units.proofs.Locking.{locks_less}

-- The branches without one.

-- a branch that is one of them has its unit's serial among theirs
pub serial_in : (us : List OpenUnit) (bs : List Branch) (b : Branch) → AreOfBranches us bs → In b bs → In b.key.serial (serials us)
serial_in [] [] b h i = absurd i
serial_in [] (c ∷ bs) b h i = absurd h
serial_in (u ∷ us) [] b h i = absurd h
serial_in (u ∷ us) (c ∷ bs) b h i = elim i [
  | inl same ↦ inl (ap (λ (x : Branch). x.key.serial) same ∙ h.0.serial)
  | inr more ↦ inr (serial_in us bs b h.1 more)
]

cut_none : (k : Key) (us : List OpenUnit) (bs : List Branch) → AreOfBranches us bs → Apart k.serial (serials us) → cut k bs ≡ bs
cut_none k [] [] h apart = refl
cut_none k [] (b ∷ bs) h apart = absurd h
cut_none k (u ∷ us) [] h apart = absurd h
cut_none k (u ∷ us) (b ∷ bs) h apart = go (same_key b.key k) refl (cut_none k us bs h.1 apart.1)
  where
    go : (t : Bool) → same_key b.key k ≡ t → cut k bs ≡ bs → (if t then cut k bs else b ∷ cut k bs) ≡ b ∷ bs
    go true is rest =
        let own : k.serial ≡ u.serial = ap (λ (x : Key). x.serial) (sym (same_key-true b.key k is)) ∙ h.0.serial in
        absurd (both_ways _ apart.0 (subst (λ (x : Id). same_id k.serial x ≡ true) own (id_itself k.serial)))
    go false is rest = ap (λ cs. b ∷ cs) rest

pub cut_branches : (k : Key) (us : List OpenUnit) (bs : List Branch) (b : Branch) → find k bs ≡ Some b → AreOfBranches us bs → Distinct (serials us) → AreOfBranches (without_unit k.serial us) (cut k bs)
cut_branches k [] [] b e h d = tt
cut_branches k [] (c ∷ bs) b e h d = absurd h
cut_branches k (u ∷ us) [] b e h d = absurd h
cut_branches k (u ∷ us) (c ∷ bs) b e h d = go (same_key c.key k) refl e (cut_branches k us bs b)
  where
    go : (t : Bool) → same_key c.key k ≡ t → ◌≡◌ {A = Option Branch} (if t then Some c else find k bs) (Some b) → (find k bs ≡ Some b → AreOfBranches us bs → Distinct (serials us) → AreOfBranches (without_unit k.serial us) (cut k bs)) →
        AreOfBranches (if same_id k.serial u.serial then us else u ∷ without_unit k.serial us) (if t then cut k bs else c ∷ cut k bs)
    go true is found rest =
        let own : k.serial ≡ u.serial = ap (λ (x : Key). x.serial) (sym (same_key-true c.key k is)) ∙ h.0.serial in
        let test : same_id k.serial u.serial ≡ true = subst (λ (x : Id). same_id k.serial x ≡ true) own (id_itself k.serial) in
        subst (λ (t : Bool). AreOfBranches (if t then us else u ∷ without_unit k.serial us) (cut k bs)) (sym test)
        (subst (AreOfBranches us) (sym (cut_none k us bs h.1 (subst (λ (x : Id). Apart x (serials us)) (sym own) d.0))) h.1)
    go false is found rest =
        let among : In k.serial (serials us) = subst (λ (x : Key). In x.serial (serials us)) (find-key k bs b found) (serial_in us bs b h.1 (found_in k bs b found)) in
        let other : same_id k.serial u.serial ≡ false = id_other u.serial k.serial (each_at (λ (y : Id). same_id u.serial y ≡ false) k.serial (serials us) d.0 among) in
        subst (λ (t : Bool). AreOfBranches (if t then us else u ∷ without_unit k.serial us) (c ∷ cut k bs)) (sym other) (h.0, rest found h.1 d.1)

all_without : (P : OpenUnit → Type 0) (x : Id) (us : List OpenUnit) → AllByRecursion P us → AllByRecursion P (without_unit x us)
all_without P x [] h = tt
all_without P x (u ∷ us) h = cond_both (same_id x u.serial) us (u ∷ without_unit x us) (AllByRecursion P) (λ e. h.1) (λ e. (h.0, all_without P x us h.1))

-- The node without it, of which nothing was written.
pub left_kept : (s : UnitsState) (v : VolumeState) (n : Node) (k : Key) (moment : ℕ) (b : Branch) → IsKept s v n → Distinct (serials s.begun) → find k n.volatile.branches ≡ Some b → IsKept (without_begun k.serial s) v (acted (Tables (Leaves k) moment) n)
left_kept s v n k moment b kept differ found =
    let m = acted (Tables (Leaves k) moment) n in
    record {
      content = kept.content;
      told = kept.told;
      name = kept.name;
      blocks = kept.blocks;
      has = volume_as kept.content v.catalog n m kept.has refl refl refl;
      log = kept.log;
      branches = cut_branches k s.begun n.volatile.branches b found kept.branches differ;
      locks = locks_less v.catalog.heads k.serial s.locks n.volatile.locks kept.locks;
      each = all_as (IsUnitOf n) (IsUnitOf m) (without_unit k.serial s.begun) (λ u is. record { positions = is.positions; files = is.files; transaction = is.transaction }) (all_without (IsUnitOf n) k.serial s.begun kept.each);
    }

-- What an act of the table makes of a record is no other effect.
abbrev pub IsOfRecord : Effect → Type 0
IsOfRecord (KeepEffect r) = Unit {0}
IsOfRecord (ForgetEffect x) = Unit {0}
IsOfRecord _ = ⊥

one_of : (d e : Effect) → ◌≡◌ {A = List Effect} (d ∷ []) (e ∷ []) → d ≡ e
one_of d e is = cc

of_record : (r : LogRecord) (e : Effect) → record_effects r ≡ e ∷ [] → IsOfRecord e
of_record r e is = go (nothing_left r.waiting r.rms) is
  where
    go : (t : Bool) → ◌≡◌ {A = List Effect} (if t then ForgetEffect r.serial ∷ [] else KeepEffect r ∷ []) (e ∷ []) → IsOfRecord e
    go true same = subst IsOfRecord (one_of (ForgetEffect r.serial) e same) tt
    go false same = subst IsOfRecord (one_of (KeepEffect r) e same) tt

pub of_acknowledged : (k : Key) (rs : List LogRecord) (e : Effect) → acknowledge_effects k rs ≡ e ∷ [] → IsOfRecord e
of_acknowledged k [] e is = let never : ⊥ = cc in absurd never
of_acknowledged k (r ∷ rs) e is = go (waits_for k r) is (of_acknowledged k rs e)
  where
    go : (t : Bool) → (if t then record_effects (acknowledged k r) else acknowledge_effects k rs) ≡ e ∷ [] → (acknowledge_effects k rs ≡ e ∷ [] → IsOfRecord e) → IsOfRecord e
    go true same rest = of_record (acknowledged k r) e same
    go false same rest = rest same

pub of_released : (x : Id) (rm : Name) (rs : List LogRecord) (e : Effect) → release_effects x rm rs ≡ e ∷ [] → IsOfRecord e
of_released x rm [] e is = let never : ⊥ = cc in absurd never
of_released x rm (r ∷ rs) e is = go (holds x rm r) is (of_released x rm rs e)
  where
    go : (t : Bool) → (if t then record_effects (released rm r) else release_effects x rm rs) ≡ e ∷ [] → (release_effects x rm rs ≡ e ∷ [] → IsOfRecord e) → IsOfRecord e
    go true same rest = of_record (released rm r) e same
    go false same rest = rest same

same_left : (x y : Id) → ReadOnlyEffect x ≡ ReadOnlyEffect y → x ≡ y
same_left x y e = cc

no_line : (l : Line) (x : Id) → line_effect l ≡ ReadOnlyEffect x → ⊥
no_line (Started k) x e = cc
no_line (Ended t reason) x e = cc
no_line (Told d k rm) x e = cc

-- A unit leaves.
pub leaves : (serial : Id) (s : UnitsState) (v : VolumeState) → calls.Leaves serial s v (without_begun serial s)
leaves serial s v n (Leaves k) kept may =
    let own : k.serial ≡ serial = same_left k.serial serial (one_of (ReadOnlyEffect k.serial) (ReadOnlyEffect serial) may.gives) in
    subst (λ (x : Id). IsKept (without_begun x s) v (acted (Tables (Leaves k) (next_moment n)) n)) own
    (left_kept s v n k (next_moment n) may.stands.branch kept (units_differ s.begun n kept.branches may.up) may.stands.there)
leaves serial s v n (Notes b) kept may = let is = may.gives in let never : ⊥ = cc in absurd never
leaves serial s v n (Accepts b c) kept may = let is = may.gives in let never : ⊥ = cc in absurd never
leaves serial s v n (Prepares b) kept may = let is = may.gives in let never : ⊥ = cc in absurd never
leaves serial s v n (Settles k outcome reason r) kept may = let is = may.gives in let never : ⊥ = cc in absurd never
leaves serial s v n (Acknowledges k) kept may = absurd (of_acknowledged k n.volatile.records (ReadOnlyEffect serial) may.gives)
leaves serial s v n (Releases x rm) kept may = absurd (of_released x rm n.volatile.records (ReadOnlyEffect serial) may.gives)
leaves serial s v n (Undoes k) kept may = let is = may.gives in let never : ⊥ = cc in absurd never
leaves serial s v n (Sends m) kept may = let is = may.gives in let never : ⊥ = cc in absurd never
leaves serial s v n (Prints l) kept may = absurd (no_line l serial (one_of (line_effect l) (ReadOnlyEffect serial) may.gives))

-- What is in order is so without one of the units.

owed_less : (x : Id) (us : List OpenUnit) → owed (without_unit x us) ≤ owed us
owed_less x [] = omega arith
owed_less x (u ∷ us) = go (same_id x u.serial) (owed_less x us)
  where
    go : (t : Bool) → owed (without_unit x us) ≤ owed us → owed (if t then us else u ∷ without_unit x us) ≤ owed_for u.prepared u.positions + owed us
    go true rest = omega arith
    go false rest = omega (arith, rest)

few_less : (x : Id) (us : List OpenUnit) → length (without_unit x us) ≤ length us
few_less x [] = omega arith
few_less x (u ∷ us) = go (same_id x u.serial) (few_less x us)
  where
    go : (t : Bool) → length (without_unit x us) ≤ length us → length (if t then us else u ∷ without_unit x us) ≤ length (u ∷ us)
    go true rest = omega arith
    go false rest = omega (arith, rest)

-- nor do more units change a file
changers_less : (f : ℕ) (x : Id) (us : List OpenUnit) → changers f (map Some (without_unit x us)) ≤ changers f (map Some us)
changers_less f x [] = omega arith
changers_less f x (u ∷ us) = go (same_id x u.serial) (changers_less f x us)
  where
    go : (t : Bool) → changers f (map Some (without_unit x us)) ≤ changers f (map Some us) → changers f (map Some (if t then us else u ∷ without_unit x us)) ≤ changers f (map Some (u ∷ us))
    go true rest = omega arith
    go false rest = omega (arith, rest)

fits_less : (x : Id) (us : List OpenUnit) (heads : List (Option FileHead)) → AllSettlementsFit (map Some us) heads → AllSettlementsFit (map Some (without_unit x us)) heads
fits_less x us heads fits f h there = (
  λ kept. let fit = (fits f h there).0 kept in let less = changers_less f x us in omega (arith, fit, less),
  λ kept. let fit = (fits f h there).1 kept in let less = changers_less f x us in omega (arith, fit, less),
)

pub order_left : (x : Id) (s : UnitsState) (v : VolumeState) → IsInOrder s v → IsInOrder (without_begun x s) v
order_left x s v is = record {
  idle = is.idle;
  frames = is.frames;
  heads = is.heads;
  sound = is.sound;
  holds = is.holds;
  least = is.least;
  most = is.most;
  ascends = is.ascends;
  room = (let less = owed_less x s.begun in let room = is.room in omega (arith, less, room));
  within = all_without (λ (u : OpenUnit). Ascend v.catalog.ru.first v.catalog.ru.end u.positions) x s.begun is.within;
  few = (let less = few_less x s.begun in let few = is.few in omega (arith, less, few));
  slots = is.slots;
  images = fits_less x s.begun v.catalog.heads is.images;
}
