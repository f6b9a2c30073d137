-- The room of rings as journals of images of one file grow.
use Rattle.std.proofs.Common.{◌≡◌, ◌≢◌, ℕ, zero, suc, ◌+◌, ◌-◌, ◌*◌, ◌<◌, ◌≤◌, ◌^◌, Bool, true, false, List, [], ◌∷◌, Option, Some, None, length, slice_set, replicate, refl, sym, ap, subst, ◌∙◌, arith, inl, inr, if◌then◌else◌, get_or-set_same, get_or-set_other}
use Rattle.std.specs.Prelude.{slice_index_or}
use Rattle.std.specs.List.{flat_map}
use Rattle.std.proofs.lemmas.Bool.{cases_eq}
use Rattle.std.proofs.lemmas.List.{set-get_or}
use Rattle.change_set.specs.Files.{SameFile}
use Rattle.file_base.specs.declared.head.FileHead.{FileHead}
use Rattle.file_base.specs.declared.head.Span.{Span}
use Rattle.journal_model.specs.Entries.{spelling}
use Rattle.journal_model.specs.Ring.{ring_size}
use Rattle.unit_table.specs.Units.{OpenUnit, has_changed, one_changer, unit_at}
use Rattle.volume.specs.Catalogs.{head_at}
use Rattle.image_appends.specs.declared.side.Side.{Side}
use Rattle.image_appends.specs.declared.side.Side.TheVariants.{After, Before}
use Rattle.image_appends.specs.Images.{files_grown, grown, heads_with, heads_with_both, is_kept, span_of}
use Rattle.image_appends.specs.Settling.{heads_from}
use Rattle.image_appends.proofs.Growing.{below_length, others_both}
use Rattle.image_room.specs.Room.{AllSettlementsFit, SettlementsFit, images_refused, images_wanted, kept_span, ring_refused}
use Rattle.image_room.proofs.Entered.{BothLonger, both_at, grow, kept_grow}
use Rattle.image_room.proofs.Keeping.{LongerBy, afters_have_room, befores_have_room, changers_set, fits_beside, fits_unsettled, ring_room, wanted_more}
use Rattle.kept_files.specs.Own.{only}
use Rattle.key_changes.specs.unit_cuts.Truncating.{CutEntries, head_behind, span_if}
use Rattle.rms_units.proofs.ImageLemmas.{kept_same, span_same}

-- The journals of one file have so many bytes more, where it keeps them, and the other files are as they were.
pub record FileGrows (file after before : ℕ) (heads new : List (Option FileHead)) : Type 0 where
  pub at : (k : FileHead) → head_at new file ≡ Some k → (h : FileHead) × (head_at heads file ≡ Some h) × BothLonger after before h k
  pub others : (g : ℕ) → g ≢ file → head_at new g ≡ head_at heads g

longer_on : (m n sum : ℕ) (a b c : Span) → sum ≡ m + n → LongerBy m a b → LongerBy n b c → LongerBy sum a c
longer_on m n sum a b c is x y = record {
  start = y.start ∙ x.start;
  first = y.first ∙ x.first;
  end = let p = x.end in let q = y.end in omega (arith, p, q, is);
  blocks = y.blocks ∙ x.blocks;
}

both_on : (m n i j s t : ℕ) (a b c : FileHead) → s ≡ m + i → t ≡ n + j → BothLonger m n a b → BothLonger i j b c → BothLonger s t a c
both_on m n i j s t a b c is is_too x y = record {
  kept = λ side. y.kept side ∙ x.kept side;
  afters = λ kept. longer_on m i s (span_of After a) (span_of After b) (span_of After c) is (x.afters kept) (y.afters (x.kept After ∙ kept));
  befores = λ kept. longer_on n j t (span_of Before a) (span_of Before b) (span_of Before c) is_too (x.befores kept) (y.befores (x.kept Before ∙ kept));
  after_end = let p = x.after_end in let q = y.after_end in omega (arith, p, q, is);
  before_end = let p = x.before_end in let q = y.before_end in omega (arith, p, q, is_too);
}

-- one after the other
pub grows_on : (file m n i j s t : ℕ) (a b c : List (Option FileHead)) → s ≡ m + i → t ≡ n + j → FileGrows file m n a b → FileGrows file i j b c → FileGrows file s t a c
grows_on file m n i j s t a b c is is_too x y = record {
  at = λ k there. (let second = y.at k there in let first = x.at second.0 second.1 in (first.0, first.1, both_on m n i j s t first.0 second.0 k is is_too first.2 second.2));
  others = λ g apart. y.others g apart ∙ x.others g apart;
}

longer_none : (s t : Span) → t ≡ s → LongerBy 0 s t
longer_none s t same = record { start = ap (λ (x : Span). x.start) same; first = ap (λ (x : Span). x.first) same; end = let e = ap (λ (x : Span). x.end) same in omega (arith, e); blocks = ap (λ (x : Span). x.blocks) same }

one_head : (a b : FileHead) → ◌≡◌ {A = Option FileHead} (Some a) (Some b) → a ≡ b
one_head a b e = cc

-- another head of the same file
pub grows_same : (file : ℕ) (h new : FileHead) (heads : List (Option FileHead)) → head_at heads file ≡ Some h → SameFile h new → FileGrows file 0 0 heads (slice_set heads file (Some new))
grows_same file h new heads there same = record {
  at = λ k now. (
      let is : new ≡ k = one_head new k (sym (get_or-set_same heads file (Some new) None (below_length heads file h there)) ∙ now) in (
        h,
        there,
        subst (BothLonger 0 0 h) is (record {
          kept = λ side. kept_same side h new same;
          afters = λ kept. longer_none (span_of After h) (span_of After new) (span_same After h new same);
          befores = λ kept. longer_none (span_of Before h) (span_of Before new) (span_same Before h new same);
          after_end = let e = ap (λ (x : Span). x.end) (span_same After h new same) in omega (arith, e);
          before_end = let e = ap (λ (x : Span). x.end) (span_same Before h new same) in omega (arith, e);
        }),
      ));
  others = λ g apart. get_or-set_other heads file g (Some new) None apart;
}

-- the images of a change
pub grows_both : (file after before : ℕ) (heads : List (Option FileHead)) → FileGrows file after before heads (heads_with_both file after before heads)
grows_both file after before heads = record { at = λ k there. both_at heads file after before k there; others = λ g apart. others_both file g after before heads apart }

-- the settlement of a change of that file alone
none_from : (k n size : ℕ) (heads : List (Option FileHead)) → heads_from n (replicate k false) size heads ≡ heads
none_from zero n size heads = refl
none_from (suc k) n size heads = none_from k (suc n) size heads

only_from : (k i n size : ℕ) (heads : List (Option FileHead)) → i < k → heads_from n (slice_set (replicate k false) i true) size heads ≡ heads_with_both (n + i) size size heads
only_from zero i n size heads below = let no : ⊥ = omega (arith, below) in absurd no
only_from (suc k) zero n size heads below = none_from k (suc n) size (heads_with_both n size size heads) ∙ ap (λ (m : ℕ). heads_with_both m size size heads) (let e : n ≡ n + 0 = omega arith in e)
only_from (suc k) (suc i) n size heads below = only_from k i (suc n) size heads (omega (arith, below)) ∙ ap (λ (m : ℕ). heads_with_both m size size heads) (let e : suc n + i ≡ n + suc i = omega arith in e)

pub only_is : (file : ℕ) (heads : List (Option FileHead)) → file < 64 → heads_from 0 (only file) 48 heads ≡ heads_with_both file 48 48 heads
only_is file heads below = only_from 64 file 0 48 heads below ∙ ap (λ (m : ℕ). heads_with_both m 48 48 heads) (let e : 0 + file ≡ file = omega arith in e)

pub grows_own : (file : ℕ) (heads : List (Option FileHead)) → file < 64 → FileGrows file 48 48 heads (heads_from 0 (only file) 48 heads)
grows_own file heads below = subst (FileGrows file 48 48 heads) (sym (only_is file heads below)) (grows_both file 48 48 heads)

-- The entries of a truncation.

twice : (xs : List (Option FileHead)) (i : ℕ) (a b : Option FileHead) → slice_set (slice_set xs i a) i b ≡ slice_set xs i b
twice [] i a b = refl
twice (x ∷ xs) zero a b = refl
twice (x ∷ xs) (suc i) a b = ap (λ (ys : List (Option FileHead)). x ∷ ys) (twice xs i a b)

with_is : (heads : List (Option FileHead)) (file : ℕ) (side : Side) (size : ℕ) (h : FileHead) → head_at heads file ≡ Some h → heads_with file side size heads ≡ slice_set heads file (Some (grow side size h))
with_is heads file side size h there = ap (λ (o : Option FileHead). files_grown o file side size heads) there ∙ by_mark (is_kept side h)
  where
    by_mark : (b : Bool) → (if b then slice_set heads file (Some (grown side size h)) else heads) ≡ slice_set heads file (Some (if b then grown side size h else h))
    by_mark true = refl
    by_mark false = sym (set-get_or heads file None) ∙ ap (slice_set heads file) there

both_is : (heads : List (Option FileHead)) (file after before : ℕ) (h : FileHead) → head_at heads file ≡ Some h → heads_with_both file after before heads ≡ slice_set heads file (Some (grow Before before (grow After after h)))
both_is heads file after before h there =
    let below = below_length heads file h there in
    ap (heads_with file Before before) (with_is heads file After after h there)
    ∙ with_is (slice_set heads file (Some (grow After after h))) file Before before (grow After after h) (get_or-set_same heads file (Some (grow After after h)) None below)
    ∙ twice heads file (Some (grow After after h)) (Some (grow Before before (grow After after h)))

marks_is : (es : CutEntries) (new : FileHead) (l m : Bool) → record new { ai = span_if l new.ai es.gone; bi = span_if m new.bi es.images } ≡
    (if m then grown Before (length (flat_map spelling es.images)) (if l then grown After (length (flat_map spelling es.gone)) new else new) else (if l then grown After (length (flat_map spelling es.gone)) new else new))
marks_is es new true true = refl
marks_is es new true false = refl
marks_is es new false true = refl
marks_is es new false false = refl

behind_is : (h : FileHead) (es : CutEntries) (new : FileHead) → SameFile h new → head_behind h es new ≡ grow Before (length (flat_map spelling es.images)) (grow After (length (flat_map spelling es.gone)) new)
behind_is h es new same =
    let ai = span_same After h new same in
    let bi = span_same Before h new same in
    let a = kept_same After h new same in
    let b = kept_same Before h new same in
    (λ i. record new { ai = span_if (sym a i) (sym ai i) es.gone; bi = span_if (sym b i) (sym bi i) es.images })
    ∙ marks_is es new (is_kept After new) (is_kept Before new)
    ∙ ap (λ (m : Bool). if m then grown Before (length (flat_map spelling es.images)) (grow After (length (flat_map spelling es.gone)) new) else grow After (length (flat_map spelling es.gone)) new) (sym (kept_grow Before After (length (flat_map spelling es.gone)) new))

-- the heads with the ends behind them are those with as many bytes more in both journals
pub moved_is : (heads : List (Option FileHead)) (file : ℕ) (h : FileHead) (es : CutEntries) (new : FileHead) → SameFile h new → head_at heads file ≡ Some new →
    slice_set heads file (Some (head_behind h es new)) ≡ heads_with_both file (length (flat_map spelling es.gone)) (length (flat_map spelling es.images)) heads
moved_is heads file h es new same there =
    ap (λ (k : FileHead). slice_set heads file (Some k)) (behind_is h es new same) ∙ sym (both_is heads file (length (flat_map spelling es.gone)) (length (flat_map spelling es.images)) new there)

-- What is not refused has room.

-- the journals of the file keep room for the settlements of the units, where so many bytes more are taken that were not refused
still_fits : (side : Side) (h k : FileHead) (file : ℕ) (us : List (Option OpenUnit)) (need size : ℕ) → size ≤ need → ring_refused side (kept_span side h) file us need ≡ None → SettlementsFit side h file us → is_kept side k ≡ is_kept side h →
    (is_kept side h ≡ true → LongerBy size (span_of side h) (span_of side k)) → SettlementsFit side k file us
still_fits side h k file us need size few none fit same longer kept =
    let marked = sym same ∙ kept in
    let room = ring_room side h file us need none fit marked in
    let l = longer marked in
    let a = l.first in
    let b = l.end in
    let c = l.blocks in
    omega (arith, few, room, a, b, c)

-- and where a unit has perhaps changed the file that had not
noted_fits : (side : Side) (h k : FileHead) (file : ℕ) (us : List (Option OpenUnit)) (p : ℕ) (u w : OpenUnit) (need size : ℕ) → unit_at us p ≡ Some u → p < length us → size ≤ need →
    ring_refused side (kept_span side h) file us (images_wanted (has_changed u file) need) ≡ None → SettlementsFit side h file us → is_kept side k ≡ is_kept side h → (is_kept side h ≡ true → LongerBy size (span_of side h) (span_of side k)) →
    SettlementsFit side k file (slice_set us p (Some w))
noted_fits side h k file us p u w need size at below few none fit same longer kept =
    let marked = sym same ∙ kept in
    let room = ring_room side h file us (images_wanted (has_changed u file) need) none fit marked in
    let l = longer marked in
    let a = l.first in
    let b = l.end in
    let c = l.blocks in
    let set = changers_set file us p (Some w) below in
    let was = ap (one_changer file) at in
    let now = at_most (has_changed w file) in
    let more = wanted_more (has_changed u file) need in
    let counts = by_mark (has_changed u file) in
    omega (arith, few, room, a, b, c, set, was, now, more, counts)
  where
    at_most : (b : Bool) → (if b then 1 else 0) ≤ 1
    at_most true = omega arith
    at_most false = omega arith

    by_mark : (b : Bool) → 48 * (if b then 1 else 0) + (if b then 0 else 48) ≡ 48
    by_mark true = refl
    by_mark false = refl

module _ (heads new : List (Option FileHead)) (file after before : ℕ) (us : List (Option OpenUnit)) (grows : FileGrows file after before heads new) (all : AllSettlementsFit us heads) where
  -- a change by no unit
  pub all_direct : (a b : ℕ) → after ≤ 48 + a → before ≤ 48 + b → ((h : FileHead) → head_at heads file ≡ Some h → images_refused h file us false a b ≡ None) → AllSettlementsFit us new
  all_direct a b few few_too free g k there = elim (cases_eq g file) [
    | inl same ↦ subst (λ (n : ℕ). SettlementsFit After k n us × SettlementsFit Before k n us) (sym same) (here (ap (head_at new) (sym same) ∙ there))
    | inr apart ↦ all g k (sym (grows.others g apart) ∙ there)
  ]
    where
      here : head_at new file ≡ Some k → SettlementsFit After k file us × SettlementsFit Before k file us
      here there =
          let was = grows.at k there in
          let h = was.0 in
          let had = all file h was.1 in
          let none = free h was.1 in (
            still_fits After h k file us (images_wanted false a) after few (afters_have_room h file us false a b none) had.0 (was.2.kept After) was.2.afters,
            still_fits Before h k file us (images_wanted false b) before few_too (befores_have_room h file us false a b none) had.1 (was.2.kept Before) was.2.befores,
          )

  -- a change by a unit
  pub all_noted : (a b p : ℕ) (u w : OpenUnit) → unit_at us p ≡ Some u → p < length us → ((g : ℕ) → g ≢ file → has_changed w g ≡ has_changed u g) → after ≤ a → before ≤ b →
      ((h : FileHead) → head_at heads file ≡ Some h → images_refused h file us (has_changed u file) a b ≡ None) → AllSettlementsFit (slice_set us p (Some w)) new
  all_noted a b p u w at below beside few few_too free g k there = elim (cases_eq g file) [
    | inl same ↦ subst (λ (n : ℕ). SettlementsFit After k n (slice_set us p (Some w)) × SettlementsFit Before k n (slice_set us p (Some w))) (sym same) (here (ap (head_at new) (sym same) ∙ there))
    | inr apart ↦ (let had = all g k (sym (grows.others g apart) ∙ there) in let one : one_changer g (Some w) ≡ one_changer g (unit_at us p) = ap (λ (b : Bool). if b then 1 else 0) (beside g apart) ∙ ap (one_changer g) (sym at) in
        (fits_beside After k g us p (Some w) below one had.0, fits_beside Before k g us p (Some w) below one had.1))
  ]
    where
      here : head_at new file ≡ Some k → SettlementsFit After k file (slice_set us p (Some w)) × SettlementsFit Before k file (slice_set us p (Some w))
      here there =
          let was = grows.at k there in
          let h = was.0 in
          let had = all file h was.1 in
          let none = free h was.1 in (
            noted_fits After h k file us p u w a after at below few (afters_have_room h file us (has_changed u file) a b none) had.0 (was.2.kept After) was.2.afters,
            noted_fits Before h k file us p u w b before at below few_too (befores_have_room h file us (has_changed u file) a b none) had.1 (was.2.kept Before) was.2.befores,
          )

-- Other heads or other units.

-- a unit that stands in place of another, and changed the same files
pub fits_same_files : (us : List (Option OpenUnit)) (heads : List (Option FileHead)) (p : ℕ) (u w : OpenUnit) → unit_at us p ≡ Some u → p < length us → w.files ≡ u.files → AllSettlementsFit us heads → AllSettlementsFit (slice_set us p (Some w)) heads
fits_same_files us heads p u w at below same all g k there =
    let had = all g k there in
    let one : one_changer g (Some w) ≡ one_changer g (unit_at us p) = ap (λ (fs : List Bool). if slice_index_or fs g false then 1 else 0) same ∙ ap (one_changer g) (sym at) in
    (fits_beside After k g us p (Some w) below one had.0, fits_beside Before k g us p (Some w) below one had.1)

-- a unit that is no more
pub fits_gone : (us : List (Option OpenUnit)) (heads : List (Option FileHead)) (p : ℕ) → p < length us → AllSettlementsFit us heads → AllSettlementsFit (slice_set us p None) heads
fits_gone us heads p below all g k there = let had = all g k there in (fits_unsettled After k g us p below had.0, fits_unsettled Before k g us p below had.1)
