-- The fields of a slot's block.
use Rattle.std.proofs.Common.{◌≡◌, ℕ, zero, ◌+◌, ◌*◌, ◌≤◌, ◌<◌, ◌++◌, List, [], ◌∷◌, length, map, take, get_or, arith, rules, refl, ◌∙◌, ap, sym, subst, replicate, suc, length-append, Some}
use Rattle.std.specs.List.{concat}
use Rattle.std.proofs.lemmas.List.{length-replicate, take_more, take-map, get_or-map, length-take-le}
use Rattle.vms_base.specs.vms_model.Names.{label_named}
use Rattle.vms_base.specs.vms_model.Ids.{Id, IsId, id_bytes, padded}
use Rattle.log_laws.specs.commit_protocol.Messages.{Name, LogRecord}
use Rattle.file_base.specs.Bytes.{piece_at, spliced}
use Rattle.vms_base.specs.Ids.{serial_of}
use Rattle.vms_base.specs.declared.ids.Serial.{Serial}
use Rattle.tm_types.proofs.ListLemmas.{map_push}
use Rattle.volume_format.specs.Layout.{AllWide, AllStand}
use Rattle.volume_format.proofs.Splices.{laid_stand}
use Rattle.volume_format.proofs.Names.{length-padded, length-id_bytes}
use Rattle.lmcp_log.specs.Slot.{kind_number, name_bytes, slot_rows, slot_block, AllIds, AllNames, IsParts}
use Rattle.lmcp_log.proofs.Pieces.{All16, length_pieces, padded_more, piece_read}

pub ids_16 : (ss : List Id) → AllIds ss → All16 (map id_bytes ss)
ids_16 [] a = tt
ids_16 (s ∷ ss) a = (length-id_bytes s a.0, ids_16 ss a.1)

pub name_wide : (x : Name) → label_named x ≡ Some x → length (name_bytes x) ≡ 16
name_wide x h = length-padded 16 15 (95 ∷ []) x (omega arith) h

pub names_16 : (xs : List Name) → AllNames xs → All16 (map name_bytes xs)
names_16 [] a = tt
names_16 (x ∷ xs) a = (name_wide x a.0, names_16 xs a.1)

pub length_mapped : {X Y : Type 0} (f : X → Y) (xs : List X) → length (map f xs) ≡ length xs
length_mapped f [] = refl
length_mapped f (x ∷ xs) = ap suc (length_mapped f xs)

-- places of sixteen bytes, with zeros behind them
padded_wide : (w : ℕ) (ps : List (List ℕ)) → All16 ps → 16 * length ps ≤ w → length (padded w (concat ps)) ≡ w
padded_wide w ps a fits =
    let l = length_pieces ps a in
    length-append (concat ps) _ ∙ (ap (λ n. length (concat ps) + n) (length-replicate _ _) ∙ omega (arith, l))

slot_wide : (r : LogRecord) → IsParts r → AllWide (slot_rows r)
unfolding slot_rows
slot_wide r p = (
  refl,
  (
    refl,
    (
      refl,
      (
        length-id_bytes r.tid p.tid,
        (
          length-id_bytes r.serial p.serial,
          (
            padded_wide 240 (map id_bytes r.waiting) (ids_16 r.waiting p.waiting) (let l = length_mapped id_bytes r.waiting in let f = p.few in omega arith),
            (
              padded_wide 128 (map name_bytes r.rms) (names_16 r.rms p.rms) (let l = length_mapped name_bytes r.rms in let f = p.few_rms in omega arith),
              tt,
            ),
          ),
        ),
      ),
    ),
  ),
)

-- what a block with a record has where
pub record SlotFields (block : List ℕ) (r : LogRecord) : Type 0 where
  pub kind : piece_at block 0 1 ≡ kind_number r.kind ∷ []
  pub waiting_count : piece_at block 1 1 ≡ length r.waiting ∷ []
  pub rms_count : piece_at block 2 1 ≡ length r.rms ∷ []
  pub tid : piece_at block 8 16 ≡ id_bytes r.tid
  pub serial : piece_at block 24 16 ≡ id_bytes r.serial
  pub waiting : piece_at block 40 240 ≡ padded 240 (concat (map id_bytes r.waiting))
  pub rms : piece_at block 280 128 ≡ padded 128 (concat (map name_bytes r.rms))

pub slot_fields : (r : LogRecord) (block : List ℕ) → IsParts r → slot_block r ≡ block → SlotFields block r
unfolding slot_rows
slot_fields r block p is =
    let all : AllStand block (slot_rows r) = subst (λ b. AllStand b (slot_rows r)) is (laid_stand 0 (slot_rows r) (replicate 512 0) refl (slot_wide r p) (length-replicate {A = ℕ} 512 0)) in
    record { kind = all.0; waiting_count = all.1.0; rms_count = all.1.1.0; tid = all.1.1.1.0; serial = all.1.1.1.1.0; waiting = all.1.1.1.1.1.0; rms = all.1.1.1.1.1.1.0 }

-- Places that a loop writes, one after the other.

taken : {X : Type 0} (xs : List X) (i : ℕ) (x : X) → i < length xs → x ≡ get_or xs i x → take (i + 1) xs ≡ take i xs ++ x ∷ []
taken xs i x lt at = take_more xs i x lt ∙ ap (λ y. take i xs ++ y ∷ []) (sym at)

places_step : {X : Type 0} (f : X → List ℕ) (w : ℕ) (xs : List X) (i : ℕ) (x : X) → i < length xs → 16 * length xs ≤ w → x ≡ get_or xs i x → All16 (map f (take i xs)) → length (f x) ≡ 16
    → spliced (padded w (concat (map f (take i xs)))) (16 * i) (f x) ≡ padded w (concat (map f (take (i + 1) xs)))
places_step f w xs i x lt fits at a e =
    let n : length (map f (take i xs)) ≡ i = length_mapped f (take i xs) ∙ length-take-le i xs (omega arith) in
    ap (λ k. spliced (padded w (concat (map f (take i xs)))) (16 * k) (f x)) (sym n)
    ∙ (padded_more w (map f (take i xs)) (f x) a e (omega (arith, n)) ∙ ap (λ ps. padded w (concat ps)) (sym (map_push f (take i xs) x) ∙ ap (map f) (sym (taken xs i x lt at))))

ids_more : (ss : List Id) (s : Id) → AllIds ss → IsId s → AllIds (ss ++ s ∷ [])
ids_more [] s a h = (h, a)
ids_more (x ∷ ss) s a h = (a.0, ids_more ss s a.1 h)

names_more : (xs : List Name) (x : Name) → AllNames xs → label_named x ≡ Some x → AllNames (xs ++ x ∷ [])
names_more [] x a h = (h, a)
names_more (y ∷ xs) x a h = (a.0, names_more xs x a.1 h)

pub record SerialsWritten (new : List ℕ) (xs : List Serial) (i : ℕ) : Type 0 where
  pub bytes : new ≡ padded 240 (concat (map id_bytes (map serial_of (take i xs))))
  pub ids : AllIds (map serial_of (take i xs))

pub serials_step : (xs : List Serial) (i : ℕ) (x : Serial) (old new : List ℕ) → i < length xs → length xs ≤ 15 → x ≡ get_or xs i x → SerialsWritten old xs i → IsId (serial_of x) → new ≡ spliced old (16 * i) (id_bytes (serial_of x)) → SerialsWritten new xs (i + 1)
serials_step xs i x old new lt few at h is e =
    let ys : List Id = map serial_of xs in
    let n : length ys ≡ length xs = length_mapped serial_of xs in
    let there : map serial_of (take i xs) ≡ take i ys = sym (take-map serial_of i xs) in
    let next : map serial_of (take (i + 1) xs) ≡ take (i + 1) ys = sym (take-map serial_of (i + 1) xs) in
    let A : List Id → Type 0 = λ ss. AllIds ss in
    let at_y : serial_of x ≡ get_or ys i (serial_of x) = ap serial_of at ∙ sym (get_or-map serial_of xs i x (serial_of x) lt) in
    let ids : AllIds (take i ys) = subst A there h.ids in
    let step = places_step id_bytes 240 ys i (serial_of x) (omega (arith, n)) (omega (arith, n)) at_y (ids_16 (take i ys) ids) (length-id_bytes (serial_of x) is) in
    record {
      bytes = e ∙ (ap (λ b. spliced b (16 * i) (id_bytes (serial_of x))) (h.bytes ∙ ap (λ ss. padded 240 (concat (map id_bytes ss))) there) ∙ (step ∙ ap (λ ss. padded 240 (concat (map id_bytes ss))) (sym next)));
      ids = subst A (sym (taken ys i (serial_of x) (omega (arith, n)) at_y) ∙ sym next) (ids_more (take i ys) (serial_of x) ids is);
    }

pub record NamesWritten (new : List ℕ) (xs : List Name) (i : ℕ) : Type 0 where
  pub bytes : new ≡ padded 128 (concat (map name_bytes (take i xs)))
  pub names : AllNames (take i xs)

pub names_step : (xs : List Name) (i : ℕ) (x : Name) (old new : List ℕ) → i < length xs → length xs ≤ 8 → x ≡ get_or xs i x → NamesWritten old xs i → label_named x ≡ Some x → new ≡ spliced old (16 * i) (name_bytes x) → NamesWritten new xs (i + 1)
names_step xs i x old new lt few at h is e =
    let A : List Name → Type 0 = λ ys. AllNames ys in
    record {
      bytes = e ∙ (ap (λ b. spliced b (16 * i) (name_bytes x)) h.bytes ∙ places_step name_bytes 128 xs i x lt (omega arith) at (names_16 (take i xs) h.names) (name_wide x is));
      names = subst A (sym (taken xs i x lt at)) (names_more (take i xs) x h.names is);
    }

-- Places that a loop reads.

ids_at : (ss : List Id) (i : ℕ) (d : Id) → AllIds ss → i < length ss → IsId (get_or ss i d)
ids_at [] i d a h = absurd (search rules)
ids_at (s ∷ ss) zero d a h = a.0
ids_at (s ∷ ss) (suc i) d a h = ids_at ss i d a.1 (omega arith)

names_at : (xs : List Name) (i : ℕ) (d : Name) → AllNames xs → i < length xs → label_named (get_or xs i d) ≡ Some (get_or xs i d)
names_at [] i d a h = absurd (search rules)
names_at (x ∷ xs) zero d a h = a.0
names_at (x ∷ xs) (suc i) d a h = names_at xs i d a.1 (omega arith)

-- what stands in the i-th place
pub serial_stands : (block : List ℕ) (ss : List Id) (i : ℕ) (d : Id) → AllIds ss → length ss ≤ 15 → i < length ss → piece_at block 40 240 ≡ padded 240 (concat (map id_bytes ss)) → IsId (get_or ss i d) × (piece_at block (40 + 16 * i) 16 ≡ id_bytes (get_or ss i d))
serial_stands block ss i d a few lt is =
    let n : length (map id_bytes ss) ≡ length ss = length_mapped id_bytes ss in
    (ids_at ss i d a lt, piece_read block 40 240 (map id_bytes ss) i (id_bytes d) (ids_16 ss a) (omega (arith, n)) (omega (arith, n)) is ∙ get_or-map id_bytes ss i d (id_bytes d) lt)

pub name_stands : (block : List ℕ) (xs : List Name) (i : ℕ) (d : Name) → AllNames xs → length xs ≤ 8 → i < length xs → piece_at block 280 128 ≡ padded 128 (concat (map name_bytes xs))
    → (label_named (get_or xs i d) ≡ Some (get_or xs i d)) × (piece_at block (280 + 16 * i) 16 ≡ name_bytes (get_or xs i d))
name_stands block xs i d a few lt is =
    let n : length (map name_bytes xs) ≡ length xs = length_mapped name_bytes xs in
    (names_at xs i d a lt, piece_read block 280 128 (map name_bytes xs) i (name_bytes d) (names_16 xs a) (omega (arith, n)) (omega (arith, n)) is ∙ get_or-map name_bytes xs i d (name_bytes d) lt)

-- a list with one more of another's elements
pub taken_more : {X Y : Type 0} (f : X → Y) (list new : List X) (z : X) (ys : List Y) (i : ℕ) (d : Y) → i < length ys → map f list ≡ take i ys → f z ≡ get_or ys i d → new ≡ list ++ z ∷ [] → map f new ≡ take (i + 1) ys
taken_more f list new z ys i d lt made one is =
    ap (map f) is ∙ (map_push f list z ∙ ((λ k. made k ++ one k ∷ []) ∙ sym (take_more ys i d lt)))
