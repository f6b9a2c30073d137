-- Buckets at the front of frames.
use Rattle.std.proofs.Common.{◌≡◌, ◌≢◌, ℕ, zero, suc, ◌<◌, ◌≤◌, ◌+◌, ◌-◌, ◌%◌, ◌/◌, ◌*◌, ◌++◌, true, false, List, [], ◌∷◌, length, take, drop, replicate, get_or, set, Option, Some, None, unwrap_or, refl, sym, ap, subst, ◌∙◌, arith, rules, get_or-set_same, get_or-set_other}
use Rattle.std.proofs.lemmas.List.{same_lists, places, length-take-le, take_at}
use Rattle.frame_pool.specs.Pool.{IsOut}
use Rattle.file_base.specs.Bytes.{spliced}
use Rattle.file_base.proofs.Splices.{take-spliced, length-spliced}
use Rattle.bucket_page.specs.declared.kind.PageKind.{PageKind}
use Rattle.bucket_page.specs.declared.kind.PageKind.TheVariants.{Seq, Rel, Data, Index}
use Rattle.bucket_page.specs.Pages.{u32_bytes, tag_of, slots_of, next_of, joined, all_suit, ascend, may_count, may_follow, has_cells, header, page_of, IsPacked, Packs, Holds}
use Rattle.bucket_page.specs.Frames.{frame_bytes, bucket_in}
use Rattle.bucket_page.proofs.PageLaws.{held}

abbrev Frames : Type 0
Frames = List (Option (List ℕ))

-- a frame that is out is one of the pool
pub out_within : (pool : Frames) (f : ℕ) → IsOut pool f → f < length pool
out_within [] f out = cc
out_within (o ∷ os) zero out = omega arith
out_within (o ∷ os) (suc f) out = let rest = out_within os f out in omega (arith, rest)

-- a frame has what was written to it last
pub bucket_put : (pool : Frames) (f size : ℕ) (bytes : List ℕ) → IsOut pool f → bucket_in (set pool f (Some bytes)) f size ≡ take size bytes
bucket_put pool f size bytes out = ap (λ o. take size (unwrap_or o [])) (get_or-set_same pool f (Some bytes) None (out_within pool f out))

-- and another one what it had
pub frame_kept : (pool : Frames) (f other : ℕ) (bytes : List ℕ) → other ≢ f → frame_bytes (set pool f (Some bytes)) other ≡ frame_bytes pool other
frame_kept pool f other bytes apart = ap (λ o. unwrap_or o []) (get_or-set_other pool f other (Some bytes) None apart)

no_cells : (kind : PageKind) (size n : ℕ) → has_cells kind ≡ false → may_count kind size n ≡ true
no_cells Seq size n h = refl
no_cells (Rel mrs) size n h = cc
no_cells (Data pos key_size) size n h = refl
no_cells (Index key_size) size n h = refl

-- packed bytes whose slots ascend are a bucket
pub bucket_of : (kind : PageKind) (size : ℕ) (slots : List (List ℕ)) (next : ℕ) (bytes : List ℕ) → Packs kind size slots next bytes
    → ascend kind slots ≡ true → may_count kind size (length slots) ≡ true → may_follow kind next ≡ true → Holds kind size slots next bytes
bucket_of kind size slots next bytes packs order number follows = record {
  bucket = record {
    packed = packs.packed;
    order = ap (ascend kind) packs.slots_are ∙ order;
    number = ap (λ (ss : List (List ℕ)). may_count kind size (length ss)) packs.slots_are ∙ number;
    next = ap (may_follow kind) packs.next_is ∙ follows;
  };
  slots_are = packs.slots_are;
  next_is = packs.next_is;
}

pub plain_bucket_of : (kind : PageKind) (size : ℕ) (slots : List (List ℕ)) (next : ℕ) (bytes : List ℕ) → Packs kind size slots next bytes
    → ascend kind slots ≡ true → has_cells kind ≡ false → may_follow kind next ≡ true → Holds kind size slots next bytes
plain_bucket_of kind size slots next bytes packs order plain follows = bucket_of kind size slots next bytes packs order (no_cells kind size (length slots) plain) follows

-- the same, of bytes that are equal
pub held_as : (kind : PageKind) (size : ℕ) (slots : List (List ℕ)) (next : ℕ) (a b : List ℕ) → b ≡ a → Packs kind size slots next a → Packs kind size slots next b
held_as kind size slots next a b is packs =
    let here : slots_of kind b ≡ slots = ap (slots_of kind) is ∙ packs.slots_are in
    let behind : next_of b ≡ next = ap next_of is ∙ packs.next_is in
    record {
      packed = record {
        is = is ∙ packs.packed.is ∙ (λ i. page_of kind size (slots_of kind (sym is i)) (next_of (sym is i)));
        suit = ap (λ x. all_suit kind (slots_of kind x)) is ∙ packs.packed.suit;
        fits = omega (arith, packs.packed.fits, ap (λ x. length (joined (slots_of kind x))) is);
      };
      slots_are = here;
      next_is = behind;
    }

four_bytes : (n : ℕ) → n % 256 + 256 * (n / 256 % 256) + 65536 * (n / 65536 % 256 + 256 * (n / 16777216)) ≡ n
four_bytes n = omega arith

pub linked : (kind : PageKind) (size next : ℕ) (frame b1 : List ℕ) → size ≤ length frame → IsPacked kind size (take size frame) → b1 ≡ spliced frame 8 (u32_bytes next)
    → Packs kind size (slots_of kind (take size frame)) next (take size b1)
linked kind size next frame b1 within packed first =
    let bytes = take size frame in
    let slots = slots_of kind bytes in
    let front : take size b1 ≡ spliced bytes 8 (u32_bytes next) = ap (take size) first ∙ take-spliced frame size 8 (u32_bytes next) (omega (arith, packed.fits)) within in
    let page : take size b1 ≡ page_of kind size slots next = front ∙ ap (λ b. spliced b 8 (u32_bytes next)) packed.is in
    held kind size slots next (take size b1) page packed.suit packed.fits (four_bytes next)

blank_front : (frame : List ℕ) (size : ℕ) → size ≤ length frame → take size (spliced frame 0 (replicate size 0)) ≡ replicate size 0
blank_front frame size within = same_lists _ _ (search (rules, places)) (λ k d h. grind (arith, places))

header_over : (size : ℕ) (head : List ℕ) → length head ≡ 16 → 16 ≤ size → spliced (replicate size 0) 0 head ≡ head ++ replicate (size - 16) 0
header_over size head is least = same_lists _ _ (search (rules, places)) (λ k d h. grind (arith, places))

pub drop-spliced : (bytes : List ℕ) (n at : ℕ) (piece : List ℕ) → at + length piece ≤ n → n ≤ length bytes → drop n (spliced bytes at piece) ≡ drop n bytes
drop-spliced bytes n at piece within long = same_lists _ _ (search (rules, places)) (λ k d h. grind (arith, places))

pub cleared : (kind : PageKind) (size next : ℕ) (frame b1 b2 : List ℕ) → 16 ≤ size → size ≤ length frame → b1 ≡ spliced frame 0 (replicate size 0) → b2 ≡ spliced b1 0 (header (tag_of kind) 0 0 next)
    → Packs kind size [] next (take size b2)
cleared kind size next frame b1 b2 least within first second =
    let head = header (tag_of kind) 0 0 next in
    let long : size ≤ length b1 = omega (arith, ap length first, length-spliced frame 0 (replicate size 0) (search (rules, places))) in
    let none : size - 16 ≡ size - 16 - 0 = omega arith in
    let page : take size b2 ≡ page_of kind size [] next =
    ap (take size) second ∙ take-spliced b1 size 0 head least long
    ∙ ap (λ b. spliced b 0 head) (ap (take size) first ∙ blank_front frame size within)
    ∙ header_over size head refl least ∙ ap (λ n. head ++ replicate n 0) none in
    held kind size [] next (take size b2) page refl (omega arith) (four_bytes next)

-- what was made of the front of a frame
pub front_held : (kind : PageKind) (size : ℕ) (slots : List (List ℕ)) (next : ℕ) (frame x : List ℕ) → size ≤ length frame → length x ≡ length (take size frame)
    → Packs kind (length (take size frame)) slots next x → Packs kind size slots next (take size (x ++ drop size frame))
front_held kind size slots next frame x within same packs =
    let P : ℕ → Type 0 = λ n. Packs kind n slots next x in
    let long = length-take-le size frame within in
    held_as kind size slots next x (take size (x ++ drop size frame)) (take_at x (drop size frame) size (same ∙ long)) (subst P long packs)

-- what was made of the bucket in a frame of a pool
pub pool_held : (kind : PageKind) (size : ℕ) (pool : Frames) (f : ℕ) (slots : List ℕ → List (List ℕ)) (next : List ℕ → ℕ) (now x : List ℕ) → IsOut pool f → get_or pool f None ≡ Some now
    → Packs kind size (slots (take size now)) (next (take size now)) (take size x)
    → Packs kind size (slots (bucket_in pool f size)) (next (bucket_in pool f size)) (bucket_in (set pool f (Some x)) f size)
pool_held kind size pool f slots next now x out value packs =
    let was : bucket_in pool f size ≡ take size now = ap (λ o. take size (unwrap_or o [])) value in
    let P : List ℕ → Type 0 = λ b. Packs kind size (slots b) (next b) (bucket_in (set pool f (Some x)) f size) in
    subst P (sym was) (held_as kind size (slots (take size now)) (next (take size now)) (take size x) (bucket_in (set pool f (Some x)) f size) (bucket_put pool f size x out) packs)

-- the same, where its size is given by another list
pub front_held_by : (kind : PageKind) (size n : ℕ) (slots : List (List ℕ)) (next : ℕ) (frame x : List ℕ) → size ≤ length frame → length x ≡ length (take size frame) → n ≡ size
    → Packs kind n slots next x → Packs kind size slots next (take size (x ++ drop size frame))
front_held_by kind size n slots next frame x within same is packs =
    let P : ℕ → Type 0 = λ m. Packs kind m slots next x in
    front_held kind size slots next frame x within same (subst P (is ∙ sym (length-take-le size frame within)) packs)
