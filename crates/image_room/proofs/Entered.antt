-- The room of rings behind the images of a change, and behind a settlement.
use Rattle.std.proofs.Common.{◌≡◌, ◌≢◌, ℕ, zero, suc, ◌+◌, ◌-◌, ◌*◌, ◌<◌, ◌≤◌, Bool, true, false, List, [], ◌∷◌, Option, Some, None, length, slice_set, refl, sym, ap, subst, ◌∙◌, ◌^◌, arith, inl, inr, if◌then◌else◌, length-set}
use Rattle.std.specs.Prelude.{slice_index_or}
use Rattle.std.proofs.lemmas.Bool.{cases_eq}
use Rattle.std.proofs.lemmas.List.{get_or-set_same}
use Rattle.file_base.specs.declared.head.FileHead.{FileHead}
use Rattle.file_base.specs.declared.head.Span.{Span}
use Rattle.image_appends.specs.unit_journal.Spans.{longer}
use Rattle.unit_table.specs.Units.{OpenUnit, changers, has_changed, one_changer, unit_at, with_position}
use Rattle.volume.specs.Catalogs.{head_at}
use Rattle.image_appends.specs.declared.side.Side.{Side}
use Rattle.image_appends.specs.declared.side.Side.TheVariants.{After, Before}
use Rattle.image_appends.specs.Images.{files_grown, grown, heads_with, heads_with_both, is_kept, span_of}
use Rattle.image_appends.specs.Settling.{heads_from, heads_if}
use Rattle.image_appends.proofs.Growing.{below_length, others_both, others_if}
use Rattle.image_room.specs.Room.{AllSettlementsFit, ImagesAreLow, SettlementsFit, images_refused, images_wanted, kept_span, ring_refused}
use Rattle.image_room.proofs.Keeping.{LongerBy, afters_have_room, befores_have_room, changers_set, fits_beside, fits_changed, fits_fewer, fits_less, other_file}

-- a file whose journal of a side has grown, where it keeps it
abbrev pub grow : Side → ℕ → FileHead → FileHead
grow side size h = if is_kept side h then grown side size h else h

one_head : (a b : FileHead) → ◌≡◌ {A = Option FileHead} (Some a) (Some b) → a ≡ b
one_head a b e = cc

pub grown_at : (heads : List (Option FileHead)) (file : ℕ) (side : Side) (size : ℕ) (k : FileHead) → head_at (heads_with file side size heads) file ≡ Some k → (h : FileHead) × (head_at heads file ≡ Some h) × (k ≡ grow side size h)
grown_at heads file side size k at = go (head_at heads file) refl at
  where
    go : (o : Option FileHead) → head_at heads file ≡ o → head_at (files_grown o file side size heads) file ≡ Some k → (h : FileHead) × (head_at heads file ≡ Some h) × (k ≡ grow side size h)
    go None is at = let no : ⊥ = cc in absurd no
    go (Some h) is at = (h, is, by_mark (is_kept side h) at)
      where
        by_mark : (b : Bool) → head_at (if b then slice_set heads file (Some (grown side size h)) else heads) file ≡ Some k → k ≡ (if b then grown side size h else h)
        by_mark true at = one_head k (grown side size h) (sym at ∙ get_or-set_same heads file (Some (grown side size h)) None (below_length heads file h is))
        by_mark false at = one_head k h (sym at ∙ is)

kept_grown : (s side : Side) (size : ℕ) (h : FileHead) → is_kept s (grown side size h) ≡ is_kept s h
kept_grown After After size h = refl
kept_grown After Before size h = refl
kept_grown Before After size h = refl
kept_grown Before Before size h = refl

pub kept_grow : (s side : Side) (size : ℕ) (h : FileHead) → is_kept s (grow side size h) ≡ is_kept s h
kept_grow s side size h = by_mark (is_kept side h)
  where
    by_mark : (b : Bool) → is_kept s (if b then grown side size h else h) ≡ is_kept s h
    by_mark true = kept_grown s side size h
    by_mark false = refl

-- the other journal stays
pub befores_grow : (size : ℕ) (h : FileHead) → span_of Before (grow After size h) ≡ span_of Before h
befores_grow size h = by_mark (is_kept After h)
  where
    by_mark : (b : Bool) → span_of Before (if b then grown After size h else h) ≡ span_of Before h
    by_mark true = refl
    by_mark false = refl

pub afters_grow : (size : ℕ) (h : FileHead) → span_of After (grow Before size h) ≡ span_of After h
afters_grow size h = by_mark (is_kept Before h)
  where
    by_mark : (b : Bool) → span_of After (if b then grown Before size h else h) ≡ span_of After h
    by_mark true = refl
    by_mark false = refl

span_grown : (side : Side) (size : ℕ) (h : FileHead) → span_of side (grown side size h) ≡ longer size (span_of side h)
span_grown After size h = refl
span_grown Before size h = refl

pub self_grow : (side : Side) (size : ℕ) (h : FileHead) → is_kept side h ≡ true → span_of side (grow side size h) ≡ longer size (span_of side h)
self_grow side size h kept = ap (λ (b : Bool). span_of side (if b then grown side size h else h)) kept ∙ span_grown side size h

end_grow : (side : Side) (size : ℕ) (h : FileHead) → (span_of side (grow side size h)).end ≤ (span_of side h).end + size
end_grow side size h = by_mark (is_kept side h)
  where
    by_mark : (b : Bool) → (span_of side (if b then grown side size h else h)).end ≤ (span_of side h).end + size
    by_mark true = let end = ap (λ (s : Span). s.end) (span_grown side size h) in omega (arith, end)
    by_mark false = omega arith

pub longer_by : (size : ℕ) (s t : Span) → t ≡ longer size s → LongerBy size s t
longer_by size s t is = record { start = ap (λ (x : Span). x.start) is; first = ap (λ (x : Span). x.first) is; end = ap (λ (x : Span). x.end) is; blocks = ap (λ (x : Span). x.blocks) is }

-- Both journals of a file.

pub record BothLonger (after before : ℕ) (h k : FileHead) : Type 0 where
  pub kept : (side : Side) → is_kept side k ≡ is_kept side h
  pub afters : is_kept After h ≡ true → LongerBy after (span_of After h) (span_of After k)
  pub befores : is_kept Before h ≡ true → LongerBy before (span_of Before h) (span_of Before k)
  pub after_end : (span_of After k).end ≤ (span_of After h).end + after
  pub before_end : (span_of Before k).end ≤ (span_of Before h).end + before

pub both_at : (heads : List (Option FileHead)) (file after before : ℕ) (k : FileHead) → head_at (heads_with_both file after before heads) file ≡ Some k → (h : FileHead) × (head_at heads file ≡ Some h) × BothLonger after before h k
both_at heads file after before k at =
    let second = grown_at (heads_with file After after heads) file Before before k at in
    let first = grown_at heads file After after second.0 second.1 in
    let h = first.0 in
    let is : k ≡ grow Before before (grow After after h) = second.2 ∙ ap (grow Before before) first.2 in (
      h,
      first.1,
      record {
        kept = λ side. ap (is_kept side) is ∙ kept_grow side Before before (grow After after h) ∙ kept_grow side After after h;
        afters = λ kept. longer_by after (span_of After h) (span_of After k) (ap (span_of After) is ∙ afters_grow before (grow After after h) ∙ self_grow After after h kept);
        befores = λ kept. longer_by before (span_of Before h) (span_of Before k)
            (ap (span_of Before) is ∙ self_grow Before before (grow After after h) (kept_grow Before After after h ∙ kept) ∙ ap (longer before) (befores_grow after h));
        after_end = let same = ap (λ (s : Span). s.end) (ap (span_of After) is ∙ afters_grow before (grow After after h)) in let most = end_grow After after h in omega (arith, same, most);
        before_end =
            let same = ap (λ (x : FileHead). (span_of Before x).end) is in
            let most = end_grow Before before (grow After after h) in
            let was = ap (λ (s : Span). s.end) (befores_grow after h) in
            omega (arith, same, most, was);
      },
    )

-- The images of a change that is not refused.

pub all_changed : (heads : List (Option FileHead)) (file after before : ℕ) (us : List (Option OpenUnit)) (p position : ℕ) (u : OpenUnit) → unit_at us p ≡ Some u → p < length us → has_changed (with_position position file u) file ≡ true →
    ((h : FileHead) → head_at heads file ≡ Some h → images_refused h file us (has_changed u file) after before ≡ None) → AllSettlementsFit us heads → AllSettlementsFit (slice_set us p (Some (with_position position file u))) (heads_with_both file after before heads)
all_changed heads file after before us p position u at below noted free all g k there = elim (cases_eq g file) [
  | inl same ↦ here g same there
  | inr apart ↦ (let is = sym (others_both file g after before heads apart) ∙ there in let had = all g k is in let one = other_file position file g u apart ∙ ap (one_changer g) (sym at) in
      (fits_beside After k g us p (Some w) below one had.0, fits_beside Before k g us p (Some w) below one had.1))
]
  where
    w : OpenUnit
    w = with_position position file u

    at_file : head_at (heads_with_both file after before heads) file ≡ Some k → SettlementsFit After k file (slice_set us p (Some w)) × SettlementsFit Before k file (slice_set us p (Some w))
    at_file there =
        let was = both_at heads file after before k there in
        let h = was.0 in
        let had = all file h was.1 in
        let none = free h was.1 in (
          (λ kept. fits_changed After h k file us p u w after at below noted (afters_have_room h file us (has_changed u file) after before none) had.0 (was.2.kept After) (was.2.afters (sym (was.2.kept After) ∙ kept)) kept),
          (λ kept. fits_changed Before h k file us p u w before at below noted (befores_have_room h file us (has_changed u file) after before none) had.1 (was.2.kept Before) (was.2.befores (sym (was.2.kept Before) ∙ kept)) kept),
        )

    here : (n : ℕ) → n ≡ file → head_at (heads_with_both file after before heads) n ≡ Some k → SettlementsFit After k n (slice_set us p (Some w)) × SettlementsFit Before k n (slice_set us p (Some w))
    here n same there = subst (λ (m : ℕ). SettlementsFit After k m (slice_set us p (Some w)) × SettlementsFit Before k m (slice_set us p (Some w))) (sym same) (at_file (ap (λ (m : ℕ). head_at (heads_with_both file after before heads) m) (sym same) ∙ there))

-- The entry of a settlement in the journals of the files from a number on.

from_before : (files : List Bool) (n g size : ℕ) (heads : List (Option FileHead)) → g < n → head_at (heads_from n files size heads) g ≡ head_at heads g
from_before [] n g size heads below = refl
from_before (t ∷ ts) n g size heads below =
    from_before ts (suc n) g size (heads_if t n size heads) (omega (arith, below)) ∙ others_if t n g size heads (λ same. omega (arith, same, below))

-- what a file is then, by whether it takes part
pub record IsSettled (size : ℕ) (takes : Bool) (h k : FileHead) : Type 0 where
  pub taking : takes ≡ true → BothLonger size size h k
  pub beside : takes ≡ false → k ≡ h

if_at : (t : Bool) (n size : ℕ) (heads : List (Option FileHead)) (k : FileHead) → head_at (heads_if t n size heads) n ≡ Some k → (h : FileHead) × (head_at heads n ≡ Some h) × IsSettled size t h k
if_at true n size heads k at = let both = both_at heads n size size k at in (both.0, both.1, record { taking = λ is. both.2; beside = λ is. (let no : ⊥ = cc in absurd no) })
if_at false n size heads k at = (k, at, record { taking = λ is. (let no : ⊥ = cc in absurd no); beside = λ is. refl })

pub from_at : (files : List Bool) (n i size : ℕ) (heads : List (Option FileHead)) (k : FileHead) → head_at (heads_from n files size heads) (n + i) ≡ Some k → (h : FileHead) × (head_at heads (n + i) ≡ Some h) × IsSettled size (slice_index_or files i false) h k
from_at [] n i size heads k at = (k, at, record { taking = λ is. (let no : ⊥ = cc in absurd no); beside = λ is. refl })
from_at (t ∷ ts) n zero size heads k at =
    let same : n + 0 ≡ n = omega arith in
    let one = if_at t n size heads k (sym (from_before ts (suc n) n size (heads_if t n size heads) (omega arith)) ∙ (λ i. head_at (heads_from (suc n) ts size (heads_if t n size heads)) (sym same i)) ∙ at) in
    (one.0, (λ i. head_at heads (same i)) ∙ one.1, one.2)
from_at (t ∷ ts) n (suc i) size heads k at =
    let next : n + suc i ≡ suc n + i = omega arith in
    let apart : suc n + i ≢ n = (λ same. let no_way : ⊥ = omega (arith, same) in no_way) in
    let one = from_at ts (suc n) i size (heads_if t n size heads) k ((λ j. head_at (heads_from (suc n) ts size (heads_if t n size heads)) (sym next j)) ∙ at) in
    (one.0, (λ j. head_at heads (next j)) ∙ sym (others_if t n (suc n + i) size heads apart) ∙ one.1, one.2)

pub at_zero : (files : List Bool) (g size : ℕ) (heads : List (Option FileHead)) (k : FileHead) → head_at (heads_from 0 files size heads) g ≡ Some k → (h : FileHead) × (head_at heads g ≡ Some h) × IsSettled size (slice_index_or files g false) h k
at_zero files g size heads k at =
    let same : 0 + g ≡ g = omega arith in
    let was = from_at files 0 g size heads k (ap (λ (n : ℕ). head_at (heads_from 0 files size heads) n) same ∙ at) in
    (was.0, ap (λ (n : ℕ). head_at heads n) (sym same) ∙ was.1, was.2)

-- one unit less changed each of these files
abbrev pub Counts : (us vs : List (Option OpenUnit)) → (files : List Bool) → Type 0
Counts us vs files = (file : ℕ) → changers file us ≡ changers file vs + (if slice_index_or files file false then 1 else 0)

-- A settlement takes the room that was kept for it.
module _ (heads : List (Option FileHead)) (us vs : List (Option OpenUnit)) (files : List Bool) where
  pub all_less : Counts us vs files → AllSettlementsFit us heads → AllSettlementsFit vs heads
  all_less counts all g h there =
      let had = all g h there in
      let is = counts g in
      let less : changers g vs ≤ changers g us = omega (arith, is) in
      (fits_less After h g us vs less had.0, fits_less Before h g us vs less had.1)

  pub all_settled_by : (size : ℕ) → size ≤ 48 → Counts us vs files → AllSettlementsFit us heads → AllSettlementsFit vs (heads_from 0 files size heads)
  all_settled_by size few counts all g k there =
      let was = at_zero files g size heads k there in
      by_mark was.0 was.2 (all g was.0 was.1) (slice_index_or files g false) refl
    where
      by_mark : (h : FileHead) → IsSettled size (slice_index_or files g false) h k → SettlementsFit After h g us × SettlementsFit Before h g us → (b : Bool) → slice_index_or files g false ≡ b → SettlementsFit After k g vs × SettlementsFit Before k g vs
      by_mark h is had true changed =
          let both = is.taking changed in
          let one : changers g us ≡ changers g vs + 1 = counts g ∙ ap (λ (b : Bool). changers g vs + (if b then 1 else 0)) changed in
          (fits_fewer After h k g us vs size few one had.0 (both.kept After) both.afters, fits_fewer Before h k g us vs size few one had.1 (both.kept Before) both.befores)
      by_mark h is had false changed =
          let same = is.beside changed in
          let none = counts g ∙ ap (λ (b : Bool). changers g vs + (if b then 1 else 0)) changed in
          let less : changers g vs ≤ changers g us = omega (arith, none) in (
            subst (λ (x : FileHead). SettlementsFit After x g vs) (sym same) (fits_less After h g us vs less had.0),
            subst (λ (x : FileHead). SettlementsFit Before x g vs) (sym same) (fits_less Before h g us vs less had.1),
          )

-- so the settlement of the unit at a place
pub counts_at : (us : List (Option OpenUnit)) (p : ℕ) (u : OpenUnit) → unit_at us p ≡ Some u → p < length us → Counts us (slice_set us p None) u.files
counts_at us p u at below file =
    let set = changers_set file us p None below in
    let was = ap (one_changer file) at in
    omega (arith, set, was)

pub all_settled : (heads : List (Option FileHead)) (us : List (Option OpenUnit)) (p : ℕ) (u : OpenUnit) → unit_at us p ≡ Some u → p < length us → AllSettlementsFit us heads → AllSettlementsFit (slice_set us p None) (heads_from 0 u.files 48 heads)
all_settled heads us p u at below all = all_settled_by heads us (slice_set us p None) u.files 48 (omega arith) (counts_at us p u at below) all

-- Positions stay low.

pub low_settled : (files : List Bool) (size more : ℕ) (heads : List (Option FileHead)) → ImagesAreLow (more + size) heads → ImagesAreLow more (heads_from 0 files size heads)
low_settled files size more heads low g k there =
    let was = at_zero files g size heads k there in
    let had = low g was.0 was.1 in
    by_mark was.0 was.2 had (slice_index_or files g false) refl
  where
    by_mark : (h : FileHead) → IsSettled size (slice_index_or files g false) h k → ((span_of After h).end + (more + size) ≤ 2 ^ 62) × ((span_of Before h).end + (more + size) ≤ 2 ^ 62) → (b : Bool) → slice_index_or files g false ≡ b →
        ((span_of After k).end + more ≤ 2 ^ 62) × ((span_of Before k).end + more ≤ 2 ^ 62)
    by_mark h is had true changed =
        let both = is.taking changed in
        let after = both.after_end in
        let before = both.before_end in
        (omega (arith, had.0, after), omega (arith, had.1, before))
    by_mark h is had false changed =
        let same = is.beside changed in
        let after = ap (λ (x : FileHead). (span_of After x).end) same in
        let before = ap (λ (x : FileHead). (span_of Before x).end) same in
        (omega (arith, had.0, after), omega (arith, had.1, before))

-- As many numbers of files are there.

long_grown : (o : Option FileHead) (file : ℕ) (side : Side) (size : ℕ) (heads : List (Option FileHead)) → length (files_grown o file side size heads) ≡ length heads
long_grown None file side size heads = refl
long_grown (Some h) file side size heads = by_mark (is_kept side h)
  where
    by_mark : (b : Bool) → length (if b then slice_set heads file (Some (grown side size h)) else heads) ≡ length heads
    by_mark true = length-set heads file (Some (grown side size h))
    by_mark false = refl

pub long_with : (file : ℕ) (side : Side) (size : ℕ) (heads : List (Option FileHead)) → length (heads_with file side size heads) ≡ length heads
long_with file side size heads = long_grown (head_at heads file) file side size heads

pub long_if : (takes : Bool) (file size : ℕ) (heads : List (Option FileHead)) → length (heads_if takes file size heads) ≡ length heads
long_if true file size heads = long_with file Before size (heads_with file After size heads) ∙ long_with file After size heads
long_if false file size heads = refl

pub long_from : (files : List Bool) (n size : ℕ) (heads : List (Option FileHead)) → length (heads_from n files size heads) ≡ length heads
long_from [] n size heads = refl
long_from (t ∷ ts) n size heads = long_from ts (suc n) size (heads_if t n size heads) ∙ long_if t n size heads

-- The journal of before images lies as it lay where the other grows.
pub befores_same : (heads : List (Option FileHead)) (file size : ℕ) (k : FileHead) → head_at (heads_with file After size heads) file ≡ Some k → (h : FileHead) × (head_at heads file ≡ Some h) × (span_of Before k ≡ span_of Before h)
befores_same heads file size k at = let g = grown_at heads file After size k at in (g.0, g.1, ap (span_of Before) g.2 ∙ befores_grow size g.0)
