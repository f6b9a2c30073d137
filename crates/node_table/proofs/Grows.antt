-- How numbers grow by the calls of the units.
use Rattle.std.proofs.Common.{◌≡◌, ◌≤◌, ◌+◌, ℕ, suc, false, Some, Result, ap, sym, subst, ◌∙◌, length, arith}
use Rattle.std.specs.Prelude.{OnOk, max}
use Rattle.volume.specs.declared.catalog.Catalog.{Catalog}
use Rattle.careful_write.specs.declared.down.Down.{Down}
use Rattle.vms_model.specs.Ids.{Id}
use Rattle.unit_table.specs.Units.{OpenUnit}
use Rattle.volume.specs.State.{VolumeState}
use Rattle.recovery_units.specs.State.{IsEarly, unit_of, with_prepared, without_unit}
use Rattle.recovery_units.specs.image_room.Room.{images_end}
use Rattle.recovery_units.specs.Uses.{Caused, Grows, ImagesGrow, down_of}
use Rattle.node_table.specs.Growing.{Grown, IsEarlyFor, Stays, furthest, groups_left}
use Rattle.node_table.specs.Standing.{Stored}
use Rattle.node_table.proofs.Branching.{fewer_left, prepared_left}

-- a call may be made of a unit that there is
pub early : (s : Stored) (serial : Id) (u : OpenUnit) → IsEarlyFor s → unit_of serial s.units.begun ≡ Some u → IsEarly s.volume
early s serial u h e =
    let r = fewer_left serial s.units.begun u e in
    let one = r.0 in
    let two = r.1 in
    let m = h.moment in
    let l = h.low in
    record { low = omega arith; moment = omega arith; images = omega arith }

-- how a volume goes
pub stays : {T : Type 0} (r : Result T Down) (settlements at clock : ℕ) (s t : Stored) → Grows settlements at s.volume t.volume → Caused (down_of r) s.volume.store.disk t.volume.store.disk → OnOk r (Grown clock s t) → Stays r clock s t
stays r settlements at clock s t g c grown = record { goes = g.goes; cause = c; pool = g.pool; node = g.node; boot = g.boot; grown = grown }

-- a unit is prepared
pub grown_prepared : (clock : ℕ) (s t : Stored) (serial : Id) (u : OpenUnit) → Grows 0 0 s.volume t.volume → ImagesGrow s.volume t.volume → unit_of serial s.units.begun ≡ Some u → u.prepared ≡ false → t.units.begun ≡ with_prepared serial s.units.begun → Grown clock s t
grown_prepared clock s t serial u g i e p same =
    let r = prepared_left serial s.units.begun u e p in
    let one : length t.units.begun ≡ length s.units.begun = ap length same ∙ r.0 in
    let two : groups_left t.units.begun + 1 ≡ groups_left s.units.begun = ap (λ z. groups_left z + 1) same ∙ r.1 in
    let m = g.greatest in
    let n = g.end in
    record { moment = omega arith; end = omega arith }

-- a unit is settled
pub grown_settled : (clock : ℕ) (s t : Stored) (serial : Id) (u : OpenUnit) → IsEarlyFor s → Grows 1 clock s.volume t.volume → ImagesGrow s.volume t.volume → length s.units.begun ≤ 64 → unit_of serial s.units.begun ≡ Some u → t.units.begun ≡ without_unit serial s.units.begun → Grown clock s t
grown_settled clock s t serial u h g i few e same =
    let r = fewer_left serial s.units.begun u e in
    let one : suc (length t.units.begun) ≡ length s.units.begun = ap (λ z. suc (length z)) same ∙ r.0 in
    let two : groups_left t.units.begun + 1 ≤ groups_left s.units.begun = subst (λ z. groups_left z + 1 ≤ groups_left s.units.begun) (sym same) r.1 in
    let m = g.greatest in
    let n = g.end in
    record { moment = omega arith; end = omega arith }

-- a unit leaves, and nothing is written
pub grown_left : (clock : ℕ) (s t : Stored) (serial : Id) (u : OpenUnit) → t.volume ≡ s.volume → unit_of serial s.units.begun ≡ Some u → t.units.begun ≡ without_unit serial s.units.begun → Grown clock s t
grown_left clock s t serial u v e same =
    let r = fewer_left serial s.units.begun u e in
    let one : suc (length t.units.begun) ≡ length s.units.begun = ap (λ z. suc (length z)) same ∙ r.0 in
    let two : groups_left t.units.begun + 1 ≤ groups_left s.units.begun = subst (λ z. groups_left z + 1 ≤ groups_left s.units.begun) (sym same) r.1 in
    let m : t.volume.catalog.home.greatest_moment.0 ≡ s.volume.catalog.home.greatest_moment.0 = ap (λ (x : VolumeState). x.catalog.home.greatest_moment.0) v in
    let n : furthest t.volume ≡ furthest s.volume = ap furthest v in
    record { moment = omega arith; end = omega arith }

-- the units stay, and the volume's numbers
pub grown_same : (clock : ℕ) (s t : Stored) → t.volume.catalog ≡ s.volume.catalog → t.units.begun ≡ s.units.begun → Grown clock s t
grown_same clock s t v same =
    let one : length t.units.begun ≡ length s.units.begun = ap length same in
    let two : groups_left t.units.begun ≡ groups_left s.units.begun = ap groups_left same in
    let m : t.volume.catalog.home.greatest_moment.0 ≡ s.volume.catalog.home.greatest_moment.0 = ap (λ (x : Catalog). x.home.greatest_moment.0) v in
    let n : furthest t.volume ≡ furthest s.volume = ap (λ (x : Catalog). max x.ru.end (images_end x.heads)) v in
    record { moment = omega arith; end = omega arith }
