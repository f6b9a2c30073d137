-- That a block has a home, and one that meets the first three conditions, can be decided.
use Rattle.std.proofs.Common.{◌≡◌, ◌⊎◌, inl, inr, ℕ, ◌<◌, ◌+◌, ◌^◌, List, [], ◌∷◌, ◌++◌, Bool, true, false, Option, Some, None, length, drop, get_or, refl, sym, ap, subst, ◌∙◌, arith}
use Rattle.std.specs.Prelude.{if◌then◌else◌, ◌==◌}
use Rattle.std.specs.Int.{to_le_bytes, from_le_bytes, w16, w32, w64}
use Rattle.std.proofs.lemmas.Bool.{cond-false}
use Rattle.std.proofs.lemmas.Nat.{from_le_bytes-to_le_bytes_2, from_le_bytes-to_le_bytes_4, from_le_bytes-to_le_bytes_8}
use Rattle.file_base.specs.vms_model.Names.{node_named}
use Rattle.file_base.specs.vms_model.Ids.{IsId, id_bytes}
use Rattle.file_base.specs.vms_base.Ids.{id_of, until_zero}
use Rattle.file_base.specs.vms_base.declared.ids.Id.{Id}
use Rattle.file_base.specs.vms_base.declared.outcomes.Reason.{Reason}
use Rattle.file_base.specs.vms_base.declared.outcomes.Reason.TheVariants as reason
use Rattle.file_base.proofs.vms_base.IdLemmas.{node_read, rest_read}
use Rattle.file_base.specs.Bytes.{piece_at}
use Rattle.volume_format.specs.declared.home.Home.{Home}
use Rattle.volume_format.specs.declared.home.Sizes.{Sizes}
use Rattle.volume_format.specs.declared.home.Settled.{Settled}
use Rattle.volume_format.specs.declared.home.Ending.{Ending}
use Rattle.volume_format.specs.declared.home.Ending.TheVariants as ending
use Rattle.volume_format.specs.Layout.{laid}
use Rattle.volume_format.specs.Home.{IsHome, HasHome, IsSizes, HasSizes, IsLast, home_rows, size_rows, reason_number, ending_kind, ending_reason, last_tid, last_serial, last_kind, last_reason}
use Rattle.volume_format.proofs.Homes.{home_fields, same_home, size_fields, same_sizes, sizes_of_home, version_of_home}
use Rattle.volume_format.proofs.Names.{until_padded}
use Rattle.volume.specs.Limits.{SizesFit, HomeFits}
use Rattle.volume.specs.Load.{HomeFound, HomeMisses}
use Rattle.volume.proofs.Entries.{some_same}
use Rattle.volume.proofs.Deciding.{Decided, alike, both, less, same_bool, same_list, same_text}
use Rattle.volume.proofs.LimitsDecided.{sizes_fit, home_fits}

-- the numbers that stand in one, two, four and eight bytes of a block
pub byte_in : List ℕ → ℕ → ℕ
byte_in block at = get_or (piece_at block at 1) 0 0

pub short_in : List ℕ → ℕ → ℕ
short_in block at = from_le_bytes w16 (piece_at block at 2)

pub word_in : List ℕ → ℕ → ℕ
word_in block at = from_le_bytes w32 (piece_at block at 4)

pub long_in : List ℕ → ℕ → ℕ
long_in block at = from_le_bytes w64 (piece_at block at 8)

pub byte_read : (block : List ℕ) (at n : ℕ) → piece_at block at 1 ≡ n ∷ [] → byte_in block at ≡ n
unfolding byte_in
byte_read block at n is = ap (λ (t : List ℕ). get_or t 0 0) is

pub short_read : (block : List ℕ) (at n : ℕ) → n < 2 ^ 16 → piece_at block at 2 ≡ to_le_bytes w16 n → short_in block at ≡ n
unfolding short_in
short_read block at n less is = ap (from_le_bytes w16) is ∙ from_le_bytes-to_le_bytes_2 n less

pub word_read : (block : List ℕ) (at n : ℕ) → n < 2 ^ 32 → piece_at block at 4 ≡ to_le_bytes w32 n → word_in block at ≡ n
unfolding word_in
word_read block at n less is = ap (from_le_bytes w32) is ∙ from_le_bytes-to_le_bytes_4 n less

pub long_read : (block : List ℕ) (at n : ℕ) → n < 2 ^ 64 → piece_at block at 8 ≡ to_le_bytes w64 n → long_in block at ≡ n
unfolding long_in
long_read block at n less is = ap (from_le_bytes w64) is ∙ from_le_bytes-to_le_bytes_8 n less

pub long_is : (block : List ℕ) (at : ℕ) → long_in block at ≡ from_le_bytes w64 (piece_at block at 8)
unfolding long_in
long_is block at = refl

-- the id that stands in sixteen bytes
number_behind : List ℕ → ℕ → ℕ
number_behind rest k = from_le_bytes w32 (get_or rest k 0 ∷ get_or rest (k + 1) 0 ∷ get_or rest (k + 2) 0 ∷ get_or rest (k + 3) 0 ∷ [])

id_in : List ℕ → Id
id_in bytes = record { node = until_zero bytes; boot = number_behind (drop 8 bytes) 0; seq = number_behind (drop 8 bytes) 4 }

same_id : (id : Id) (node : List ℕ) (boot seq : ℕ) → node ≡ id.node → boot ≡ id.boot → seq ≡ id.seq → record { node = node; boot = boot; seq = seq } ≡ id
same_id id node boot seq n b s = rw (n, b, s) refl

boot_read : (rest : List ℕ) (boot seq : ℕ) → boot < 2 ^ 32 → rest ≡ to_le_bytes w32 boot ++ to_le_bytes w32 seq → number_behind rest 0 ≡ boot
unfolding number_behind
boot_read rest boot seq h e = rw e (from_le_bytes-to_le_bytes_4 boot h)

seq_read : (rest : List ℕ) (boot seq : ℕ) → seq < 2 ^ 32 → rest ≡ to_le_bytes w32 boot ++ to_le_bytes w32 seq → number_behind rest 4 ≡ seq
unfolding number_behind
seq_read rest boot seq h e = rw e (from_le_bytes-to_le_bytes_4 seq h)

id_read : (id : Id) (bytes : List ℕ) → IsId (id_of id) → bytes ≡ id_bytes (id_of id) → id_in bytes ≡ id
unfolding id_in
id_read id bytes h e =
    let rest = rest_read (id_of id) bytes h (sym e) in
    same_id id _ _ _ (node_read (id_of id) bytes h (sym e)) (boot_read _ id.boot id.seq h.boot rest) (seq_read _ id.boot id.seq h.seq rest)

-- the last settlement that its fields tell
reason_in : ℕ → Reason
reason_in r = if r == 1 then reason.Aborted else (if r == 2 then reason.Vetoed else (if r == 3 then reason.SyncFail else (if r == 4 then reason.Timeout else (if r == 5 then reason.CommFail else reason.SegFail))))

reason_read : (r : Reason) → reason_in (reason_number r) ≡ r
unfolding reason_in
reason_read reason.Aborted = refl
reason_read reason.Vetoed = refl
reason_read reason.SyncFail = refl
reason_read reason.Timeout = refl
reason_read reason.CommFail = refl
reason_read reason.SegFail = refl

ending_in : ℕ → ℕ → Ending
ending_in k r = if k == 1 then ending.Commit else ending.Abort (reason_in r)

ending_read : (e : Ending) → ending_in (ending_kind e) (ending_reason e) ≡ e
unfolding ending_in
ending_read ending.Commit = refl
ending_read (ending.Abort r) = ap ending.Abort (reason_read r)

some_kind : (e : Ending) → (ending_kind e == 0) ≡ false
some_kind ending.Commit = refl
some_kind (ending.Abort r) = refl

last_in : ℕ → ℕ → List ℕ → List ℕ → Option Settled
last_in k r tid serial = if k == 0 then None else Some (record { tid = record { 0 = id_in tid }; serial = record { 0 = id_in serial }; ending = ending_in k r })

same_settled : (s : Settled) (tid serial : Id) (e : Ending) → tid ≡ s.tid.0 → serial ≡ s.serial.0 → e ≡ s.ending → record { tid = record { 0 = tid }; serial = record { 0 = serial }; ending = e } ≡ s
same_settled s tid serial e t u v = rw (t, u, v) refl

last_read : (l : Option Settled) (tid serial : List ℕ) → IsLast l → tid ≡ last_tid l → serial ≡ last_serial l → last_in (last_kind l) (last_reason l) tid serial ≡ l
unfolding last_in
last_read None tid serial is t u = refl
last_read (Some s) tid serial is t u =
    cond-false (ending_kind s.ending == 0) _ _ (some_kind s.ending) ∙ ap Some (same_settled s _ _ _ (id_read s.tid.0 tid is.0 t) (id_read s.serial.0 serial is.1 u) (ending_read s.ending))

-- the home that a block has, if it has one
pub home_in : List ℕ → Home
home_in block = record {
  version = word_in block 8;
  blocks = word_in block 12;
  slots = word_in block 16;
  ru_blocks = word_in block 20;
  node = until_zero (piece_at block 24 8);
  boot = word_in block 32;
  greatest_moment = record { 0 = long_in block 40 };
  last = last_in (byte_in block 80) (byte_in block 81) (piece_at block 48 16) (piece_at block 64 16);
}

pub home_one : (block : List ℕ) (h : Home) → length block ≡ 512 → IsHome h → HasHome block h → home_in block ≡ h
unfolding home_in
home_one block h long is has =
    let f = home_fields h block is long has in
    let last : last_in (byte_in block 80) (byte_in block 81) (piece_at block 48 16) (piece_at block 64 16) ≡ h.last =
    rw (byte_read block 80 (last_kind h.last) f.kind, byte_read block 81 (last_reason h.last) f.reason) (last_read h.last (piece_at block 48 16) (piece_at block 64 16) is.last f.tid f.serial) in
    some_same _ _ (same_home h _ _ _ _ _ _ _ _
    (word_read block 8 h.version is.version f.version)
    (word_read block 12 h.blocks is.blocks f.blocks)
    (word_read block 16 h.slots is.slots f.slots)
    (word_read block 20 h.ru_blocks is.ru_blocks f.ru_blocks)
    (ap Some (ap until_zero f.node ∙ until_padded 8 6 [] h.node refl is.node))
    (word_read block 32 h.boot is.boot f.boot)
    (long_read block 40 h.greatest_moment.0 is.greatest_moment f.greatest_moment)
    (ap Some last))

is_id : (id : Id) → Decided (IsId (id_of id))
is_id id = alike (both (same_text (node_named id.node) (Some id.node)) (both (less id.boot (2 ^ 32)) (less id.seq (2 ^ 32)))) (λ p. record { node = p.0; boot = p.1.0; seq = p.1.1 }) (λ r. (r.node, (r.boot, r.seq)))

is_last : (l : Option Settled) → Decided (IsLast l)
is_last None = inl tt
is_last (Some s) = both (is_id s.tid.0) (is_id s.serial.0)

is_home : (h : Home) → Decided (IsHome h)
is_home h = alike
    (both (less h.version (2 ^ 32)) (both (less h.blocks (2 ^ 32)) (both (less h.slots (2 ^ 32)) (both (less h.ru_blocks (2 ^ 32)) (both (same_text (node_named h.node) (Some h.node)) (both (less h.boot (2 ^ 32)) (both (less h.greatest_moment.0 (2 ^ 64)) (is_last h.last))))))))
    (λ p. record { version = p.0; blocks = p.1.0; slots = p.1.1.0; ru_blocks = p.1.1.1.0; node = p.1.1.1.1.0; boot = p.1.1.1.1.1.0; greatest_moment = p.1.1.1.1.1.1.0; last = p.1.1.1.1.1.1.1 })
    (λ r. (r.version, (r.blocks, (r.slots, (r.ru_blocks, (r.node, (r.boot, (r.greatest_moment, r.last))))))))

-- the sizes that its front tells, if it has the tag
sizes_in : List ℕ → Sizes
sizes_in block = record { blocks = word_in block 12; slots = word_in block 16; ru_blocks = word_in block 20 }

sizes_one : (block : List ℕ) (s : Sizes) → length block ≡ 512 → IsSizes s → HasSizes block s → sizes_in block ≡ s
unfolding sizes_in
sizes_one block s long is has =
    let f = size_fields s block long has in
    same_sizes s _ _ _ (word_read block 12 s.blocks is.blocks f.blocks) (word_read block 16 s.slots is.slots f.slots) (word_read block 20 s.ru_blocks is.ru_blocks f.ru_blocks)

is_sizes : (s : Sizes) → Decided (IsSizes s)
is_sizes s = alike (both (less s.blocks (2 ^ 32)) (both (less s.slots (2 ^ 32)) (less s.ru_blocks (2 ^ 32)))) (λ p. record { blocks = p.0; slots = p.1.0; ru_blocks = p.1.1 }) (λ r. (r.blocks, (r.slots, r.ru_blocks)))

-- a block has a home that meets the first three conditions, or one of them fails first
module _ (node : List ℕ) (fits : Bool) (disk : ℕ) (block : List ℕ) (long : length block ≡ 512) where
  no_front : (IsSizes (sizes_in block) × HasSizes block (sizes_in block) → ⊥) → HomeMisses node fits disk block 1
  no_front none = record {
    least = omega arith;
    most = omega arith;
    no_front = λ e front.
        let P : Sizes → Type 0 = λ s. IsSizes s × HasSizes block s in
        none (subst P (sym (sizes_one block front.sizes long front.ranges front.stands)) (front.ranges, front.stands));
    unsized = λ e. absurd (omega arith);
    foreign = λ e. absurd (omega arith);
    front = λ h. absurd (omega arith);
    sized = λ h. absurd (omega arith);
  }

  unsized : IsSizes (sizes_in block) → HasSizes block (sizes_in block) → (SizesFit disk (sizes_in block) × (fits ≡ true) → ⊥) → HomeMisses node fits disk block 2
  unsized ranges stands none = record {
    least = omega arith;
    most = omega arith;
    no_front = λ e. absurd (omega arith);
    unsized = λ e sized. none (subst (SizesFit disk) (sym (sizes_one block sized.sizes long sized.ranges sized.stands)) sized.fit, sized.group);
    foreign = λ e. absurd (omega arith);
    front = λ h. record { sizes = sizes_in block; ranges = ranges; stands = stands };
    sized = λ h. absurd (omega arith);
  }

  foreign : IsSizes (sizes_in block) → HasSizes block (sizes_in block) → SizesFit disk (sizes_in block) → fits ≡ true → ((IsHome (home_in block) × HasHome block (home_in block)) × HomeFits node (home_in block) → ⊥) → HomeMisses node fits disk block 3
  foreign ranges stands fit group none = record {
    least = omega arith;
    most = omega arith;
    no_front = λ e. absurd (omega arith);
    unsized = λ e. absurd (omega arith);
    foreign = λ e owned.
        let P : Home → Type 0 = λ h. (IsHome h × HasHome block h) × HomeFits node h in
        none (subst P (sym (home_one block owned.home long owned.ranges owned.stands)) ((owned.ranges, owned.stands), owned.fit));
    front = λ h. record { sizes = sizes_in block; ranges = ranges; stands = stands };
    sized = λ h. record { sizes = sizes_in block; ranges = ranges; stands = stands; fit = fit; group = group };
  }

  found : IsSizes (sizes_in block) → HasSizes block (sizes_in block) → SizesFit disk (sizes_in block) → fits ≡ true → IsHome (home_in block) → HasHome block (home_in block) → HomeFits node (home_in block)
      → HomeFound node fits disk block (home_in block)
  found ranges stands fit group is has owned = record {
    ranges = is;
    stands = has;
    one = λ h in_range has_too. sym (home_one block h long in_range has_too);
    version = version_of_home (home_in block) (sizes_in block) block is long has stands;
    sizes = subst (SizesFit disk) (sizes_of_home (home_in block) (sizes_in block) block is ranges long has stands) fit;
    group = group;
    fit = owned;
    front = record { sizes = sizes_in block; ranges = ranges; stands = stands };
    sized = record { sizes = sizes_in block; ranges = ranges; stands = stands; fit = fit; group = group };
  }

  pub home_tried : ((home : Home) × HomeFound node fits disk block home) ⊎ ((number : ℕ) × HomeMisses node fits disk block number)
  home_tried = elim (both (is_sizes (sizes_in block)) (same_list (laid (size_rows 1 (sizes_in block)) block) block)) [
    | inr none ↦ inr (1, no_front none)
    | inl s ↦ elim (both (sizes_fit disk (sizes_in block)) (same_bool fits true)) [
      | inr none ↦ inr (2, unsized s.0 s.1 none)
      | inl f ↦ elim (both (both (is_home (home_in block)) (same_list (laid (home_rows (home_in block)) block) block)) (home_fits node (home_in block))) [
        | inr none ↦ inr (3, foreign s.0 s.1 f.0 f.1 none)
        | inl h ↦ inl (home_in block, found s.0 s.1 f.0 f.1 h.0.0 h.0.1 h.1)
      ]
    ]
  ]
