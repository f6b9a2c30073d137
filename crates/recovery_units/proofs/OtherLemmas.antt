-- What stands of all other branches, whatever is done for one of them.
use Rattle.std.proofs.Common.{◌≡◌, ◌∙◌, ℕ, List, [], ◌∷◌, ◌++◌, map, Bool, true, false, Option, Some, None, if◌then◌else◌, refl, sym, ap, subst}
use Rattle.std.specs.List.{AllByRecursion}
use Rattle.vms_model.specs.Ids.{Id}
use Rattle.vms_model.specs.Keys.{Key}
use Rattle.records_model.specs.History.{same_id}
use Rattle.record_locks.specs.Locks.{Lock, not_locked, released, with_locks}
use Rattle.volume_model.specs.run_model.World.{Node}
use Rattle.volume_model.proofs.run_model.NodeLists.{some_is}
use Rattle.unit_table.specs.Units.{OpenUnit, new_unit, prepared_unit}
use Rattle.volume.specs.State.{VolumeState}
use Rattle.volume_model.proofs.world_laws.IdLemmas.{id_is, id_other}
use Rattle.recovery_units.specs.Others.{OthersStand, UnitsStandApart}
use Rattle.recovery_units.specs.State.{AreLater, IsKept, IsUnitOf, UnitsState, locks_of, positions_of, unit_of, with_prepared, without_unit}

-- what is the branch's own is not another's
beside : (serial other own : Id) → same_id serial other ≡ false → same_id serial own ≡ true → same_id other own ≡ false
beside serial other own apart is = subst (λ x. same_id other x ≡ false) (id_is serial own is) (id_other serial other apart)

-- Units.

more_behind : (serial other : Id) → same_id serial other ≡ false → (new : OpenUnit) → new.serial ≡ serial → (us : List OpenUnit) → unit_of other (us ++ new ∷ []) ≡ unit_of other us
more_behind serial other apart new own [] = let no : same_id other new.serial ≡ false = ap (same_id other) own ∙ id_other serial other apart in rw no refl
more_behind serial other apart new own (u ∷ us) = ap (λ (o : Option OpenUnit). if same_id other u.serial then Some u else o) (more_behind serial other apart new own us)

prepared_apart : (serial other : Id) → same_id serial other ≡ false → (us : List OpenUnit) → unit_of other (with_prepared serial us) ≡ unit_of other us
prepared_apart serial other apart [] = refl
prepared_apart serial other apart (u ∷ us) = go (same_id serial u.serial) refl (prepared_apart serial other apart us)
  where
    go : (b : Bool) → same_id serial u.serial ≡ b → unit_of other (with_prepared serial us) ≡ unit_of other us → unit_of other (if b then prepared_unit u ∷ us else u ∷ with_prepared serial us) ≡ unit_of other (u ∷ us)
    go true own rest = let no : same_id other u.serial ≡ false = beside serial other u.serial apart own in rw no refl
    go false own rest = ap (λ (o : Option OpenUnit). if same_id other u.serial then Some u else o) rest

without_apart : (serial other : Id) → same_id serial other ≡ false → (us : List OpenUnit) → unit_of other (without_unit serial us) ≡ unit_of other us
without_apart serial other apart [] = refl
without_apart serial other apart (u ∷ us) = go (same_id serial u.serial) refl (without_apart serial other apart us)
  where
    go : (b : Bool) → same_id serial u.serial ≡ b → unit_of other (without_unit serial us) ≡ unit_of other us → unit_of other (if b then us else u ∷ without_unit serial us) ≡ unit_of other (u ∷ us)
    go true own rest = let no : same_id other u.serial ≡ false = beside serial other u.serial apart own in rw no refl
    go false own rest = ap (λ (o : Option OpenUnit). if same_id other u.serial then Some u else o) rest

later_apart : (serial other : Id) → same_id serial other ≡ false → (us ws : List OpenUnit) → AreLater serial us ws → unit_of other ws ≡ unit_of other us
later_apart serial other apart [] [] later = refl
later_apart serial other apart [] (w ∷ ws) later = absurd later
later_apart serial other apart (u ∷ us) [] later = absurd later
later_apart serial other apart (u ∷ us) (w ∷ ws) later = go (same_id serial u.serial) refl (later_apart serial other apart us ws later.1)
  where
    go : (b : Bool) → same_id serial u.serial ≡ b → unit_of other ws ≡ unit_of other us → unit_of other (w ∷ ws) ≡ unit_of other (u ∷ us)
    go true own rest =
        let no : same_id other u.serial ≡ false = beside serial other u.serial apart own in
        let now : same_id other w.serial ≡ false = ap (same_id other) later.0.serial_is ∙ no in
        ap (λ b. if b then Some w else unit_of other ws) now ∙ rest ∙ sym (ap (λ b. if b then Some u else unit_of other us) no)
    go false own rest = ap (λ (z : OpenUnit). unit_of other (z ∷ ws)) (later.0.others own) ∙ ap (λ (o : Option OpenUnit). if same_id other u.serial then Some u else o) rest

-- Keys.

released_apart : (serial other : Id) → same_id serial other ≡ false → (ls : List Lock) → locks_of other (released serial ls) ≡ locks_of other ls
released_apart serial other apart [] = refl
released_apart serial other apart (l ∷ ls) = go (same_id serial l.by) refl (released_apart serial other apart ls)
  where
    go : (b : Bool) → same_id serial l.by ≡ b → locks_of other (released serial ls) ≡ locks_of other ls → locks_of other (if b then released serial ls else l ∷ released serial ls) ≡ locks_of other (l ∷ ls)
    go true own rest = let no : same_id other l.by ≡ false = beside serial other l.by apart own in rest ∙ sym (ap (λ b. if b then l ∷ locks_of other ls else locks_of other ls) no)
    go false own rest = ap (λ (zs : List Lock). if same_id other l.by then l ∷ zs else zs) rest

-- more keys of one branch are none of another
pub held_apart : (serial other : Id) → same_id serial other ≡ false → (file : ℕ) (ks : List Key) (ls : List Lock) → locks_of other (with_locks serial file ks ls) ≡ locks_of other ls
held_apart serial other apart file ks ls = go (not_locked ls file ks)
  where
    go : (qs : List Key) → locks_of other (map (λ k. record { file = file; key = k; by = serial }) qs ++ ls) ≡ locks_of other ls
    go [] = refl
    go (q ∷ qs) =
        let l : Lock = record { file = file; key = q; by = serial } in
        let more : List Lock = locks_of other (map (λ k. record { file = file; key = k; by = serial }) qs ++ ls) in
        ap (λ b. if b then l ∷ more else more) (id_other serial other apart) ∙ go qs

-- Entries.

unit_there : (P : OpenUnit → Type 0) (x : Id) (u : OpenUnit) (us : List OpenUnit) → AllByRecursion P us → unit_of x us ≡ Some u → P u × (u.serial ≡ x)
unit_there P x u [] each e = let none : ⊥ = cc in absurd none
unit_there P x u (w ∷ ws) each e = go (same_id x w.serial) refl e (unit_there P x u ws each.1)
  where
    go : (b : Bool) → same_id x w.serial ≡ b → ◌≡◌ {A = Option OpenUnit} (if b then Some w else unit_of x ws) (Some u) → (unit_of x ws ≡ Some u → P u × (u.serial ≡ x)) → P u × (u.serial ≡ x)
    go true own f rest = let same : w ≡ u = some_is w u f in (subst P same each.0, sym (ap (λ (z : OpenUnit). z.serial) same) ∙ sym (id_is x w.serial own))
    go false own f rest = rest f

begin_there : (x : Id) (u : OpenUnit) (s : UnitsState) (v : VolumeState) (n : Node) → unit_of x s.begun ≡ Some u → IsKept s v n → u.positions ≡ positions_of x n.durable.units.first n.durable.units.entries
begin_there x u s v n e kept =
    let is = unit_there (IsUnitOf n) x u s.begun kept.each e in
    is.0.positions ∙ ap (λ (y : Id). positions_of y n.durable.units.first n.durable.units.entries) is.1

pub stand_apart : UnitsStandApart
stand_apart = record {
  begins = λ tid serial s. record { units = λ other apart. more_behind serial other apart (new_unit tid serial) refl s.begun; locks = λ other apart. refl };
  works = λ serial s t works. record { units = λ other apart. later_apart serial other apart s.begun t.begun works.units; locks = works.locks };
  votes = λ u rms s. record { units = λ other apart. prepared_apart u.serial other apart s.begun; locks = λ other apart. refl };
  leaves = λ serial s. record { units = λ other apart. without_apart serial other apart s.begun; locks = λ other apart. released_apart serial other apart s.locks };
  commits = λ serial r s. record { units = λ other apart. without_apart serial other apart s.begun; locks = λ other apart. released_apart serial other apart s.locks };
  aborts = λ u s. record { units = λ other apart. without_apart u.serial other apart s.begun; locks = λ other apart. released_apart u.serial other apart s.locks };
  entries = λ serial other u s v n t w m stand apart e before behind. sym (begin_there other u t w m (stand.units other apart ∙ e) behind) ∙ begin_there other u s v n e before;
}
