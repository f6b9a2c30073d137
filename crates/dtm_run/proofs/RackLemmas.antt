-- What adding a node keeps of a rack.
use Rattle.std.proofs.Common.{◌≡◌, ℕ, ◌+◌, ◌≤◌, ◌<◌, List, [], ◌∷◌, ◌++◌, Bool, true, false, Option, Some, None, map, length, refl, sym, ◌∙◌, ap, subst, arith, nat_le, nat_lt, if◌then◌else◌, ◌⊎◌, inl, inr}
use Rattle.std.specs.Prelude.{◌||◌}
use Rattle.std.specs.Str.{bytes_eq}
use Rattle.block_disk.specs.Disk.{DiskState}
use Rattle.std.proofs.lemmas.Bool.{leb-false, ltb-false, lt-ltb, le-ltb, le-leb, lt-leb}
use Rattle.std.proofs.lemmas.List.Folds.{list_any-append}
use Rattle.std.proofs.lemmas.Slice.Eq.{bytes_eq-Decides}
use Rattle.dtm_run.specs.declared.rack.RackCause.{RackCause}
use Rattle.dtm_run.specs.declared.rack.RackCause.TheVariants as cause
use Rattle.std.proofs.lemmas.List.{map-append, length-append}
use Rattle.dtm_run.specs.declared.rack.Rack.{Rack}
use Rattle.dtm_run.specs.Racks.{names_in, states_in, refusal_of, AreSized, IsRack}
use Rattle.day_run.specs.run_nodes.Names.{AreApart, is_among}

pub sized_more : (ds : List DiskState) (d : DiskState) → 4096 ≤ d.size → d.size ≤ 65536 → AreSized ds → AreSized (ds ++ d ∷ [])
sized_more [] d low high h = (low, high, tt)
sized_more (e ∷ ds) d low high h = (h.0, h.1, sized_more ds d low high h.2)

-- what is refused, and what is not

pub refused_name : (names : List (List ℕ)) (name : List ℕ) (size : ℕ) → is_among name names ≡ true → refusal_of names name size ≡ Some cause.Name
refused_name names name size h = ap (λ b. if b then Some cause.Name else (if nat_lt size 4096 || nat_lt 65536 size then Some cause.Size else (if nat_le 8 (length names) then Some cause.Full else None))) h

refused_later : (names : List (List ℕ)) (name : List ℕ) (size : ℕ) → is_among name names ≡ false → refusal_of names name size ≡ (if nat_lt size 4096 || nat_lt 65536 size then Some cause.Size else (if nat_le 8 (length names) then Some cause.Full else None))
refused_later names name size h = ap (λ b. if b then Some cause.Name else (if nat_lt size 4096 || nat_lt 65536 size then Some cause.Size else (if nat_le 8 (length names) then Some cause.Full else None))) h

pub refused_size : (names : List (List ℕ)) (name : List ℕ) (size : ℕ) → is_among name names ≡ false → (size < 4096) ⊎ ((4096 ≤ size) × (65536 < size)) → refusal_of names name size ≡ Some cause.Size
refused_size names name size h e = refused_later names name size h ∙ ap (λ b. if b then Some cause.Size else (if nat_le 8 (length names) then Some cause.Full else None)) (wrong e)
  where
    wrong : (size < 4096) ⊎ ((4096 ≤ size) × (65536 < size)) → (nat_lt size 4096 || nat_lt 65536 size) ≡ true
    wrong (inl low) = ap (λ b. b || nat_lt 65536 size) (lt-ltb size 4096 low)
    wrong (inr high) = ap (λ b. b || nat_lt 65536 size) (le-ltb size 4096 high.0) ∙ lt-ltb 65536 size high.1

fits : (names : List (List ℕ)) (name : List ℕ) (size : ℕ) → is_among name names ≡ false → (4096 ≤ size) × (size ≤ 65536) → refusal_of names name size ≡ (if nat_le 8 (length names) then Some cause.Full else None)
fits names name size h e = refused_later names name size h ∙ ap (λ b. if b then Some cause.Size else (if nat_le 8 (length names) then Some cause.Full else None)) right
  where
    right : (nat_lt size 4096 || nat_lt 65536 size) ≡ false
    right = ap (λ b. b || nat_lt 65536 size) (le-ltb size 4096 e.0) ∙ le-ltb 65536 size e.1

pub refused_full : (names : List (List ℕ)) (name : List ℕ) (size : ℕ) → is_among name names ≡ false → (4096 ≤ size) × (size ≤ 65536) → 8 ≤ length names → refusal_of names name size ≡ Some cause.Full
refused_full names name size h e f = fits names name size h e ∙ ap (λ b. if b then Some cause.Full else None) (le-leb 8 (length names) f)

pub refused_nothing : (names : List (List ℕ)) (name : List ℕ) (size : ℕ) → is_among name names ≡ false → (4096 ≤ size) × (size ≤ 65536) → length names < 8 → refusal_of names name size ≡ None
refused_nothing names name size h e f = fits names name size h e ∙ ap (λ b. if b then Some cause.Full else None) (lt-leb 8 (length names) f)

-- what is known where nothing is refused
pub record IsAccepted (names : List (List ℕ)) (name : List ℕ) (size : ℕ) : Type 0 where
  pub new : is_among name names ≡ false
  pub low : 4096 ≤ size
  pub high : size ≤ 65536
  pub room : length names < 8

or_false : (a b : Bool) → (a || b) ≡ false → (a ≡ false) × (b ≡ false)
or_false false b e = (refl, e)
or_false true b e = let none : ⊥ = cc in absurd none

pub accepted : (names : List (List ℕ)) (name : List ℕ) (size : ℕ) → refusal_of names name size ≡ None → IsAccepted names name size
accepted names name size = go (is_among name names) (nat_lt size 4096 || nat_lt 65536 size) (nat_le 8 (length names)) refl refl refl
  where
    go : (a b d : Bool) → is_among name names ≡ a → (nat_lt size 4096 || nat_lt 65536 size) ≡ b → nat_le 8 (length names) ≡ d →
        ◌≡◌ {A = Option RackCause} (if a then Some cause.Name else (if b then Some cause.Size else (if d then Some cause.Full else None))) None → IsAccepted names name size
    go true b d ea eb ed e = let none : ⊥ = cc in absurd none
    go false true d ea eb ed e = let none : ⊥ = cc in absurd none
    go false false true ea eb ed e = let none : ⊥ = cc in absurd none
    go false false false ea eb ed e =
        let parts = or_false (nat_lt size 4096) (nat_lt 65536 size) eb in
        record { new = ea; low = ltb-false size 4096 parts.0; high = ltb-false 65536 size parts.1; room = leb-false 8 (length names) ed }

apart_name : (name other : List ℕ) (names : List (List ℕ)) → is_among name (other ∷ names) ≡ false → bytes_eq other name ≡ false
apart_name name other names e = (or_false (bytes_eq other name) (is_among name names) e).0

eq_turned : (x y : List ℕ) → bytes_eq x y ≡ false → bytes_eq y x ≡ false
eq_turned x y e = go (bytes_eq y x) refl
  where
    go : (b : Bool) → bytes_eq y x ≡ b → bytes_eq y x ≡ false
    go false f = f
    go true f = let same : y ≡ x = (bytes_eq-Decides y x).0 f in f ∙ sym (subst (λ z. bytes_eq x z ≡ true) (sym same) ((bytes_eq-Decides x x).1 refl)) ∙ e

pub apart_more : (names : List (List ℕ)) (name : List ℕ) → is_among name names ≡ false → AreApart names → AreApart (names ++ name ∷ [])
apart_more [] name e h = (refl, tt)
apart_more (other ∷ names) name e h =
    let parts = or_false (bytes_eq other name) (is_among name names) e in
    let last : (bytes_eq name other || false) ≡ false = ap (λ b. b || false) (eq_turned other name parts.0) in
    (list_any-append (λ x. bytes_eq x other) names (name ∷ []) ∙ ap (λ b. b || (bytes_eq name other || false)) h.0 ∙ last, apart_more names name parts.1 h.1)

-- a rack with one node more

pub names_more : {D : Type 0} (ps qs : List (List ℕ × D)) (place : List ℕ × D) → qs ≡ ps ++ place ∷ [] → map (λ p. p.0) qs ≡ map (λ p. p.0) ps ++ place.0 ∷ []
names_more ps qs place e = ap (map (λ p. p.0)) e ∙ map-append (λ p. p.0) ps (place ∷ [])

pub disks_more : {D : Type 0} (ps qs : List (List ℕ × D)) (place : List ℕ × D) → qs ≡ ps ++ place ∷ [] → map (λ p. p.1) qs ≡ map (λ p. p.1) ps ++ place.1 ∷ []
disks_more ps qs place e = ap (map (λ p. p.1)) e ∙ map-append (λ p. p.1) ps (place ∷ [])

pub states_more : {D : Type 0} (state : D → DiskState) (ps qs : List (List ℕ × D)) (place : List ℕ × D) → qs ≡ ps ++ place ∷ [] → map (λ p. state p.1) qs ≡ map (λ p. state p.1) ps ++ state place.1 ∷ []
states_more state ps qs place e = ap (map (λ p. state p.1)) e ∙ map-append (λ p. state p.1) ps (place ∷ [])

pub rack_more : {D : Type 0} (state : D → DiskState) (old new : Rack D) (place : List ℕ × D) → new.nodes.entries ≡ old.nodes.entries ++ place ∷ [] → refusal_of (names_in old) place.0 (state place.1).size ≡ None →
    IsRack state old → IsRack state new
rack_more state old new place e none r =
    let a = accepted (names_in old) place.0 (state place.1).size none in
    let names : names_in new ≡ names_in old ++ place.0 ∷ [] = names_more old.nodes.entries new.nodes.entries place e in
    let longer : length (names_in new) ≡ length (names_in old) + 1 = ap length names ∙ length-append (names_in old) (place.0 ∷ []) in
    let few = r.few in
    let room = a.room in
    record {
      apart = subst AreApart (sym names) (apart_more (names_in old) place.0 a.new r.apart);
      few = omega (arith, longer, room);
      sized = subst AreSized (sym (states_more state old.nodes.entries new.nodes.entries place e)) (sized_more (states_in state old) (state place.1) a.low a.high r.sized);
    }
