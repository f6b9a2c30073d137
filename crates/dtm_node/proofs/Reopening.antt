-- Reopening a volume whose boot count was just raised.
use Rattle.std.proofs.Common.{◌≡◌, ℕ, suc, ◌+◌, ◌*◌, ◌<◌, ◌≤◌, List, [], ◌∷◌, ◌++◌, Bool, true, false, Some, if◌then◌else◌, length, map, max, take, get_or, sym, ap, subst, ◌∙◌, arith}
use Rattle.std.specs.List.{AllByRecursion}
use Rattle.std.proofs.Math.Seq.{take-suc}
use Rattle.std.proofs.lemmas.List.{map-append}
use Rattle.careful_write.specs.declared.down.Down.{Down}
use Rattle.emitter_model.specs.commit_protocol.Messages.{Name}
use Rattle.emitter_model.specs.commit_protocol.Table.{Tm, branches_of}
use Rattle.tm_types.specs.Parts.{log_record_of}
use Rattle.emitter_model.specs.Emitting.{Emits, Shown}
use Rattle.emitter_model.proofs.EmittingLemmas.{emits_on}
use Rattle.emitter_model.specs.transcript_model.Lines.{Line}
use Rattle.unit_table.specs.Units.{OpenUnit}
use Rattle.vms_model.specs.Ids.{Id}
use Rattle.volume.specs.State.{VolumeState}
use Rattle.world_laws.specs.run_model.World.{Node}
use Rattle.recovery_units.specs.Calls.{MayBegin, ReopensErr, ReopensOk}
use Rattle.recovery_units.specs.State.{AreOfBranches, HasNoUnit, IsEarly, IsInOrder, UnitsState}
use Rattle.recovery_units.specs.Told.{ReopenedTold}
use Rattle.recovery_units.specs.Uses.{Caused, Grows, ImagesGrow}
use Rattle.recovery_units.specs.declared.settled.SettledUnit.{SettledUnit}
use Rattle.node_requests.specs.node_table.Growing.{groups_left}
use Rattle.node_requests.specs.node_table.Running.{IsBooted}
use Rattle.node_requests.specs.node_table.Standing.{IsUp, Stored, UpRepresents}
use Rattle.dtm_node.specs.Boots.{IsRaised}
use Rattle.dtm_node.specs.Nodes.{last_lines_of, undone_line}
use Rattle.dtm_node.specs.Opening.{Breaks, ReopensUp, prepared_told}
use Rattle.change_set.specs.Files.{free_frames}

-- its numbers that only grow are low
pub raised_early : (name : List ℕ) (v : VolumeState) → IsRaised name v → IsEarly v
raised_early name v h = let greatest = h.greatest in let end = h.end in let images = h.images in record { low = omega (arith, end); moment = omega (arith, greatest); images = omega (arith, images) }

-- the moments of what was undone can be shown
times_by : (us : List SettledUnit) (most : ℕ) → most < 24000001000067 → AllByRecursion (λ (u : SettledUnit). u.moment.0 ≤ most) us → AllByRecursion (λ (u : SettledUnit). u.moment.0 < 24000001000067) us
times_by [] most low h = tt
times_by (u ∷ us) most low h = (let le = h.0 in omega (arith, le, low), times_by us most low h.1)

pub undone_times : (name : List ℕ) (clock : ℕ) (v w : VolumeState) (us : List SettledUnit) → IsRaised name v → clock ≤ 24000000000000 → Grows 64 (clock + 64) v w → AllByRecursion (λ (u : SettledUnit). u.moment.0 ≤ w.catalog.home.greatest_moment.0) us → AllByRecursion (λ (u : SettledUnit). u.moment.0 < 24000001000067) us
undone_times name clock v w us h early g all = let greatest = h.greatest in let more = g.greatest in times_by us w.catalog.home.greatest_moment.0 (omega (arith, greatest, more, early)) all

-- as many groups as units are twice
groups_few : (us : List OpenUnit) → groups_left us ≤ 2 * length us
groups_few [] = omega arith
groups_few (u ∷ us) = go u.prepared (groups_few us)
  where
    go : (b : Bool) → groups_left us ≤ 2 * length us → (let n : ℕ = if b then 1 else 2 in n) + groups_left us ≤ 2 * suc (length us)
    go true few = omega (arith, few)
    go false few = omega (arith, few)

-- a volume that is raised has what a fall leaves
pub falls_still : (name : List ℕ) (settlements clock : ℕ) (v w : VolumeState) → IsRaised name v → (s : UnitsState) → HasNoUnit s → Grows settlements clock v w → (4096 ≤ w.store.disk.size) × (w.store.disk.size ≤ 65536) × (32 ≤ free_frames w.store.pool)
falls_still name settlements clock v w h s none g =
    let order = h.order s none in (
      subst (λ n. 4096 ≤ n) (sym g.goes.size) order.least,
      subst (λ n. n ≤ 65536) (sym g.goes.size) order.most,
      rw g.pool order.frames,
    )

-- What was shown, in one.
pub three_shown : (a b c d : Shown) (x y z : List Line) → Emits a x b → Emits b y c → Emits c z d → Emits a (x ++ (y ++ z)) d
three_shown a b c d x y z f g h = emits_on a b d x (y ++ z) f (emits_on b c d y z g h)

module _ (name : List ℕ) (clock : ℕ) (v w : VolumeState) (t : UnitsState) (told : ReopenedTold) (raised : IsRaised name v) (early : clock ≤ 24000000000000) (grows : Grows 64 (clock + 64) v w) where
  -- the node is up
  pub reopened_up : (doubt ids : List Id) (st : Stored) (tm : Tm) (drawn : ℕ) (rms : List Name) (boot : ℕ) (a b : Shown) → w.catalog.home.greatest_moment.0 + length t.begun ≤ max v.catalog.home.greatest_moment.0 clock + 64 → ImagesGrow v w → IsInOrder t w → AreOfBranches t.begun (branches_of (map log_record_of told.prepared)) → MayBegin told t.log → ReopensOk clock told v t w
      → st ≡ record { volume = w; units = t; in_doubt = ids } → drawn ≡ 0 → boot ≡ st.volume.catalog.home.boot → IsUp (record { stored = st; tm = tm; drawn = drawn; declared = rms })
      → ((c : ℕ) (n : Node) → IsBooted c told (record { volume = w; units = t; in_doubt = doubt }) n → UpRepresents c (record { stored = st; tm = tm; drawn = drawn; declared = rms }) n)
      → Emits a (last_lines_of v.catalog.home ++ (map undone_line told.settled ++ map prepared_told told.prepared)) b → ReopensUp clock v boot (record { stored = st; tm = tm; drawn = drawn; declared = rms }) a b
  reopened_up doubt ids st tm drawn rms boot a b room images order units begins done is none boot_is up stands shows =
      subst (λ (x : Stored). boot ≡ x.volume.catalog.home.boot → IsUp (record { stored = x; tm = tm; drawn = drawn; declared = rms }) → ((c : ℕ) (n : Node) → IsBooted c told (record { volume = w; units = t; in_doubt = doubt }) n → UpRepresents c (record { stored = x; tm = tm; drawn = drawn; declared = rms }) n)
      → ReopensUp clock v boot (record { stored = x; tm = tm; drawn = drawn; declared = rms }) a b) (sym is) here boot_is up stands
    where
      here : boot ≡ w.catalog.home.boot → IsUp (record { stored = record { volume = w; units = t; in_doubt = ids }; tm = tm; drawn = drawn; declared = rms }) → ((c : ℕ) (n : Node) → IsBooted c told (record { volume = w; units = t; in_doubt = doubt }) n → UpRepresents c (record { stored = record { volume = w; units = t; in_doubt = ids }; tm = tm; drawn = drawn; declared = rms }) n)
          → ReopensUp clock v boot (record { stored = record { volume = w; units = t; in_doubt = ids }; tm = tm; drawn = drawn; declared = rms }) a b
      here counted up stands = record {
        told = told;
        emits = shows;
        boot_is = counted ∙ grows.boot;
        up = up;
        grown =
            let greatest = raised.greatest in
            let end = raised.end in
            let more = grows.end in
            let far = raised.images in
            let groups = groups_few t.begun in
            let few = order.few in
            record { moment = omega (arith, room, greatest, early); end = omega (arith, end, far, more, images, groups, few); drawn = omega (arith, none) };
        drawn = none;
        goes = grows.goes;
        node = grows.node;
        units = units;
        committed = begins.committed;
        done = done;
        stands = λ n x. stands clock n (record { kept = x.kept; is_up = x.is_up; name = x.name; branches = x.branches; records = x.records; preparation = x.preparation; drawn = x.drawn; declared = x.declared; clock_is = x.clock_is; up = x.up; was_up = x.was_up; under_way = x.under_way });
      }

  -- or the disk went down
  pub reopened_down : (s : UnitsState) → HasNoUnit s → (down : Down) (a b c : Shown) → Caused (Some down) v.store.disk w.store.disk → ReopensErr clock told v w → Emits a (last_lines_of v.catalog.home) b → Emits b (map undone_line told.settled) c → Breaks clock v w down a c
  reopened_down s none down a b c cause err first second = record {
    told = told;
    emits = emits_on a b c (last_lines_of v.catalog.home) (map undone_line told.settled) first second;
    goes = grows.goes;
    falls = falls_still name 64 (clock + 64) v w raised s none grows;
    cause = cause;
    done = err;
  }

-- One line more.

one_more : (i : ℕ) → suc i ≡ i + 1
one_more i = omega arith

pub lines_more : {A : Type 0} (f : A → Line) (xs : List A) (i : ℕ) (x : A) → i < length xs → get_or xs i x ≡ x → map f (take i xs) ++ f x ∷ [] ≡ map f (take (i + 1) xs)
lines_more f xs i x below is =
    ap (λ y. map f (take i xs) ++ f y ∷ []) (sym is)
    ∙ sym (map-append f (take i xs) (get_or xs i x ∷ []))
    ∙ ap (map f) (sym (take-suc xs i x below))
    ∙ ap (λ k. map f (take k xs)) (one_more i)
