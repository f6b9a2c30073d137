-- The images of changes and their settlement, in the journals of one file.
use Rattle.std.proofs.Common.{◌≡◌, ℕ, suc, zero, ◌+◌, ◌-◌, ◌<◌, ◌≤◌, ◌^◌, List, [], ◌∷◌, Bool, true, false, Option, Some, None, if◌then◌else◌, length, slice_set, slice_index_or, refl, sym, ◌∙◌, ap, subst, arith, inl, inr, get_or-set_same, get_or-set_other, length-set}
use Rattle.std.proofs.lemmas.Bool.{cases_eq, cases_lt}
use Rattle.std.specs.Option.{option_map}
use Rattle.std.specs.Prelude.{replicate}
use Rattle.file_base.specs.declared.head.FileHead.{FileHead}
use Rattle.file_base.specs.declared.head.Span.{Span}
use Rattle.unit_world.specs.file_images.Images.{entry_by}
use Rattle.recovery_units.specs.image_appends.declared.side.Side.{Side}
use Rattle.recovery_units.specs.image_appends.declared.side.Side.TheVariants.{After, Before}
use Rattle.recovery_units.specs.image_appends.Images.{files_grown, grown, heads_with, heads_with_both, is_kept, span_of}
use Rattle.recovery_units.specs.image_appends.Settling.{content_from, heads_from, heads_if}
use Rattle.rms_units.proofs.image_appends.Growing.{others_both}
use Rattle.recovery_units.specs.image_room.Room.{ImagesAreLow}
use Rattle.undo_laws.specs.image_groups.Groups.{Enters, MayEnter, MayGrow, TellsOutcome, outcome_of, told_file}
use Rattle.undo_laws.specs.image_groups.Lists.{moved_ends, moved_if}
use Rattle.undo_laws.proofs.image_groups.Dressed.{all_after, sound_after, tells_after}
use Rattle.undo_laws.proofs.image_groups.Outcomes.{enters_told}
use Rattle.journal_format.proofs.Decoding.{total_is}
use Rattle.journal_model.specs.Entries.{Entry, IsEntry, spelling}
use Rattle.journal_model.specs.Ring.{ring_size}
use Rattle.rms_units.specs.kept_files.Own.{only}
use Rattle.recovery_units.specs.run_model.World.{File, Settlement}
use Rattle.unit_world.specs.directory_model.Files.{IsPlace, file_at, head_at}
use Rattle.unit_world.specs.directory_model.Laws.{spelled_entry}
use Rattle.unit_world.proofs.directory_model.Places.{within_list}
use Rattle.extents.specs.declared.extent.Extent.{Extent as Area}
use Rattle.rms_units.specs.unit_journal.Entries.{settled_entry}
use Rattle.rms_units.specs.unit_journal.Spans.{longer}
use Rattle.rms_units.proofs.unit_journal.EntryLemmas.{settled_is}
use Rattle.unit_table.specs.Units.{no_files}
use Rattle.vms_model.specs.Ids.{IsId}
use Rattle.volume_format.specs.Head.{IsHead}
use Rattle.node_units.proofs.Imaging.{outcome_entry}

-- A head whose journals have so many bytes more, where it keeps them.

abbrev grow_by : Bool → Side → (size : ℕ) → FileHead → FileHead
grow_by true side size h = grown side size h
grow_by false side size h = h

abbrev pub both_grown : (after before : ℕ) → FileHead → FileHead
both_grown after before h = grow_by h.marks.bi Before before (grow_by h.marks.ai After after h)

one_head : (x y : FileHead) → ◌≡◌ {A = Option FileHead} (Some x) (Some y) → x ≡ y
one_head x y e = cc

grown_there : (f : ℕ) (side : Side) (size : ℕ) (heads : List (Option FileHead)) (h : FileHead) → head_at heads f ≡ Some h → head_at (heads_with f side size heads) f ≡ Some (grow_by (is_kept side h) side size h)
grown_there f side size heads h there = subst (λ (o : Option FileHead). head_at (files_grown o f side size heads) f ≡ Some (grow_by (is_kept side h) side size h)) (sym there) (by_mark (is_kept side h))
  where
    by_mark : (b : Bool) → head_at (if b then slice_set heads f (Some (grown side size h)) else heads) f ≡ Some (grow_by b side size h)
    by_mark true = get_or-set_same heads f (Some (grown side size h)) None (within_list heads f h there)
    by_mark false = there

kept_before : (b : Bool) (size : ℕ) (h : FileHead) → is_kept Before (grow_by b After size h) ≡ h.marks.bi
kept_before true size h = refl
kept_before false size h = refl

both_there : (f after before : ℕ) (heads : List (Option FileHead)) (h : FileHead) → head_at heads f ≡ Some h → head_at (heads_with_both f after before heads) f ≡ Some (both_grown after before h)
both_there f after before heads h there =
    grown_there f Before before (heads_with f After after heads) (grow_by h.marks.ai After after h) (grown_there f After after heads h there)
    ∙ (λ i. Some (grow_by (kept_before h.marks.ai after h i) Before before (grow_by h.marks.ai After after h)))

kept_both : (side : Side) (a b : Bool) (after before : ℕ) (h : FileHead) → is_kept side (grow_by b Before before (grow_by a After after h)) ≡ is_kept side h
kept_both After true true after before h = refl
kept_both After true false after before h = refl
kept_both After false true after before h = refl
kept_both After false false after before h = refl
kept_both Before true true after before h = refl
kept_both Before true false after before h = refl
kept_both Before false true after before h = refl
kept_both Before false false after before h = refl

abbrev size_by : Side → (after before : ℕ) → ℕ
size_by After after before = after
size_by Before after before = before

span_both : (side : Side) (a b : Bool) (after before : ℕ) (h : FileHead) → a ≡ h.marks.ai → b ≡ h.marks.bi → is_kept side h ≡ true → span_of side (grow_by b Before before (grow_by a After after h)) ≡ longer (size_by side after before) (span_of side h)
span_both After true true after before h first second kept = refl
span_both After true false after before h first second kept = refl
span_both After false b after before h first second kept = let no : false ≡ true = first ∙ kept in absurd (let never : ⊥ = cc in never)
span_both Before true true after before h first second kept = refl
span_both Before false true after before h first second kept = refl
span_both Before a false after before h first second kept = let no : false ≡ true = second ∙ kept in absurd (let never : ⊥ = cc in never)

kept_moved : (side : Side) (after before : ℕ) (h : FileHead) → is_kept side (moved_ends after before h) ≡ is_kept side h
kept_moved After after before h = refl
kept_moved Before after before h = refl

span_moved : (side : Side) (after before : ℕ) (h : FileHead) → is_kept side h ≡ true → span_of side (moved_ends after before h) ≡ longer (size_by side after before) (span_of side h)
span_moved After after before h kept = ap (λ (b : Bool). moved_if b after h.ai) kept
span_moved Before after before h kept = ap (λ (b : Bool). moved_if b before h.bi) kept

-- What is asked of a settlement in the journals of a file behind the images of changes.
pub record HasRoomFor (side : Side) (size : ℕ) (h : FileHead) : Type 0 where
  pub room : is_kept side h ≡ true → (span_of side h).end - (span_of side h).first + (48 + size) ≤ ring_size (span_of side h)
  pub low : is_kept side h ≡ true → (span_of side h).end + size + 48 ≤ 2 ^ 62

module _ (f : ℕ) (s : Settlement) (tid : IsId s.tid) (serial : IsId s.serial) (bound : s.moment < 2 ^ 64) where
  entry_is : IsEntry (settled_entry s.tid s.serial s.outcome s.moment)
  entry_is = settled_is s.tid s.serial s.outcome s.moment tid serial bound

  same : entry_by f s.tid (outcome_of s) ≡ settled_entry s.tid s.serial s.outcome s.moment
  same = outcome_entry f s.tid s.serial s.outcome s.moment

  entry_long : length (spelling (settled_entry s.tid s.serial s.outcome s.moment)) ≡ 48
  entry_long = total_is (settled_entry s.tid s.serial s.outcome s.moment) entry_is

  settle_at : (side : Side) (size : ℕ) (h x : FileHead) → HasRoomFor side size h → is_kept side h ≡ true → longer size (span_of side h) ≡ span_of side x → IsHead x → MayGrow side f x s.tid (outcome_of s)
  settle_at side size h x has kept span is_head =
      let room = has.room kept in
      let low = has.low kept in
      let end : (span_of side h).end + size ≡ (span_of side x).end = ap (λ (r : Span). r.end) span in
      let long : length (spelled_entry f s.tid (outcome_of s)) ≡ 48 = ap (λ (e : Entry). length (spelling e)) same ∙ entry_long in
      record {
        can = record {
          is = subst IsEntry (sym same) entry_is;
          of = tt;
          suited = tt;
          room = subst (λ (r : Span). r.end - r.first + 48 ≤ ring_size r) span (omega (arith, room));
        };
        head = is_head;
        far = omega (arith, low, end, long);
      }

  module _ (heads : List (Option FileHead)) (h : FileHead) (there : head_at heads f ≡ Some h) (after before : ℕ) where
    pub may_settle : ((x : FileHead) → head_at (heads_with_both f after before heads) f ≡ Some x → IsHead x) → (side : Side) → HasRoomFor side (size_by side after before) h → MayEnter side f (heads_with_both f after before heads) s.tid (outcome_of s)
    may_settle is_head side has x at kept =
        let here : both_grown after before h ≡ x = one_head (both_grown after before h) x (sym (both_there f after before heads h there) ∙ at) in
        let kept_old : is_kept side h ≡ true = sym (kept_both side h.marks.ai h.marks.bi after before h) ∙ ap (is_kept side) here ∙ kept in
        settle_at side (size_by side after before) h x has kept_old (sym (span_both side h.marks.ai h.marks.bi after before h refl refl kept_old) ∙ ap (span_of side) here) (is_head x at)

    -- behind the images of several changes
    pub may_settle_moved : IsHead (moved_ends after before h) → (side : Side) → HasRoomFor side (size_by side after before) h → MayEnter side f (slice_set heads f (Some (moved_ends after before h))) s.tid (outcome_of s)
    may_settle_moved is_head side has x at kept =
        let here : moved_ends after before h ≡ x = one_head (moved_ends after before h) x (sym (get_or-set_same heads f (Some (moved_ends after before h)) None (within_list heads f h there)) ∙ at) in
        let kept_old : is_kept side h ≡ true = sym (kept_moved side after before h) ∙ ap (is_kept side) here ∙ kept in
        settle_at side (size_by side after before) h x has kept_old (sym (span_moved side after before h kept_old) ∙ ap (span_of side) here) (subst IsHead here is_head)

-- One file alone.

only_takes : (f g : ℕ) → slice_index_or (only f) g false ≡ true → g ≡ f
only_takes f g takes = elim (cases_eq g f) [
  | inl same ↦ same
  | inr other ↦ absurd (never (none g) (sym (get_or-set_other no_files f g true false other) ∙ takes))
]
  where
    none : (g : ℕ) → slice_index_or no_files g false ≡ false
    none g = go 64 g
      where
        go : (n g : ℕ) → slice_index_or (replicate n false) g false ≡ false
        go zero g = refl
        go (suc n) zero = refl
        go (suc n) (suc g) = go n g

    never : {b : Bool} → b ≡ false → b ≡ true → ⊥
    never off on = let no : false ≡ true = sym off ∙ on in cc

only_there : (f : ℕ) → f < 64 → slice_index_or (only f) f false ≡ true
only_there f low = get_or-set_same no_files f true false low

-- The images of changes, and then the settlement, which the file alone tells.
module _ (c b : List (List ℕ)) (area : Area) (heads new : List (Option FileHead)) (directory : List (Option File)) (f : ℕ) (imaged : File) (s : Settlement) (low : f < 64) (wide : f < length directory) (full : length directory ≡ 64)
    (first : Enters c heads b area new (slice_set directory f (Some imaged))) where
  abbrev outcome : List ℕ
  outcome = spelled_entry 0 s.tid (outcome_of s)

  abbrev settled : File
  settled = told_file true s imaged

  imaged_there : file_at (slice_set directory f (Some imaged)) f ≡ Some imaged
  imaged_there = get_or-set_same directory f (Some imaged) None wide

  module _ (settle_after : MayEnter After f new s.tid (outcome_of s)) (settle_before : MayEnter Before f new s.tid (outcome_of s)) where
    second : TellsOutcome b area new (slice_set directory f (Some imaged)) (only f) s
    second = enters_told b area new (slice_set directory f (Some imaged)) (only f) s first.fitting (record {
      there = λ g takes. subst (λ j. (y : File) × (file_at (slice_set directory f (Some imaged)) j ≡ Some y)) (sym (only_takes f g takes)) (imaged, imaged_there);
      may = λ g takes. subst (λ j. MayEnter After j new s.tid (outcome_of s) × MayEnter Before j new s.tid (outcome_of s)) (sym (only_takes f g takes)) (settle_after, settle_before);
    })

    told_none : (p : Option File) → option_map (told_file false s) p ≡ p
    told_none None = refl
    told_none (Some y) = refl

    -- the directory is that with the file alone changed
    alike : (g : ℕ) → file_at second.after g ≡ file_at (slice_set directory f (Some settled)) g
    alike g = elim (cases_eq g f) [
      | inl here ↦ subst (λ j. file_at second.after j ≡ file_at (slice_set directory f (Some settled)) j) (sym here)
          (second.each f ∙ (λ i. option_map (told_file (only_there f low i) s) (imaged_there i)) ∙ sym (get_or-set_same directory f (Some settled) None wide))
      | inr other ↦ second.each g ∙ ap (λ (b : Bool). option_map (told_file b s) (file_at (slice_set directory f (Some imaged)) g)) (off g other) ∙ told_none (file_at (slice_set directory f (Some imaged)) g)
          ∙ get_or-set_other directory f g (Some imaged) None other ∙ sym (get_or-set_other directory f g (Some settled) None other)
    ]
      where
        false_unless : (b : Bool) → (b ≡ true → ⊥) → b ≡ false
        false_unless true never = absurd (never refl)
        false_unless false never = refl

        off : (g : ℕ) → (g ≡ f → ⊥) → slice_index_or (only f) g false ≡ false
        off g other = false_unless (slice_index_or (only f) g false) (λ takes. other (only_takes f g takes))

    pub told_behind : Enters c heads (content_from 0 (only f) outcome new b) area (heads_from 0 (only f) (length outcome) new) (slice_set directory f (Some settled))
    told_behind = record {
      fitting = record {
        files = record {
          heads_long = second.enters.fitting.files.heads_long;
          directory_long = length-set directory f (Some settled) ∙ full;
          each = λ g. subst (λ (p : Option File). IsPlace (content_from 0 (only f) outcome new b) g (head_at (heads_from 0 (only f) (length outcome) new) g) p) (alike g) (second.enters.fitting.files.each g);
        };
        fit = second.enters.fitting.fit;
        behind = second.enters.fitting.behind;
        whole = second.enters.fitting.whole;
      };
      dressed = all_after c b (content_from 0 (only f) outcome new b) heads new (heads_from 0 (only f) (length outcome) new) first.dressed second.enters.dressed;
      size = second.enters.size ∙ first.size;
      front = λ k side near. second.enters.front k side near ∙ first.front k side near;
      tells = tells_after c b (content_from 0 (only f) outcome new b) heads new (heads_from 0 (only f) (length outcome) new) first.tells second.enters.tells;
      sound = sound_after heads new (heads_from 0 (only f) (length outcome) new) first.sound second.enters.sound;
    }

-- Positions in all rings stay low behind an entry.

abbrev IsLow : ℕ → FileHead → Type 0
IsLow more h = ((span_of After h).end + more ≤ 2 ^ 62) × ((span_of Before h).end + more ≤ 2 ^ 62)

low_grown : (a b : Bool) (size more : ℕ) (h : FileHead) → IsLow (size + more) h → IsLow more (grow_by b Before size (grow_by a After size h))
low_grown true true size more h low = let one = low.0 in let two = low.1 in (omega (arith, one), omega (arith, two))
low_grown true false size more h low = let one = low.0 in let two = low.1 in (omega (arith, one), omega (arith, two))
low_grown false true size more h low = let one = low.0 in let two = low.1 in (omega (arith, one), omega (arith, two))
low_grown false false size more h low = let one = low.0 in let two = low.1 in (omega (arith, one), omega (arith, two))

none_there : (f after before : ℕ) (heads : List (Option FileHead)) → head_at heads f ≡ None → head_at (heads_with_both f after before heads) f ≡ None
none_there f after before heads none = one Before before (heads_with f After after heads) (one After after heads none)
  where
    one : (side : Side) (size : ℕ) (hs : List (Option FileHead)) → head_at hs f ≡ None → head_at (heads_with f side size hs) f ≡ None
    one side size hs is = subst (λ (o : Option FileHead). head_at (files_grown o f side size hs) f ≡ None) (sym is) is

low_both : (f size more : ℕ) (heads : List (Option FileHead)) (h x : FileHead) → head_at heads f ≡ Some h → IsLow (size + more) h → head_at (heads_with_both f size size heads) f ≡ Some x → IsLow more x
low_both f size more heads h x there low at = subst (IsLow more) (one_head (both_grown size size h) x (sym (both_there f size size heads h there) ∙ at)) (low_grown h.marks.ai h.marks.bi size more h low)

-- before a file they are as low as they are to be, and from it on an entry's bytes lower
record AreLowFrom (f size more : ℕ) (heads : List (Option FileHead)) : Type 0 where
  behind : (g : ℕ) (h : FileHead) → f ≤ g → head_at heads g ≡ Some h → IsLow (size + more) h
  before : (g : ℕ) (h : FileHead) → g < f → head_at heads g ≡ Some h → IsLow more h

low_less : (size more : ℕ) (h : FileHead) → IsLow (size + more) h → IsLow more h
low_less size more h low = let one = low.0 in let two = low.1 in (omega (arith, one), omega (arith, two))

low_step : (f size more : ℕ) (heads : List (Option FileHead)) (takes : Bool) → AreLowFrom f size more heads → AreLowFrom (suc f) size more (heads_if takes f size heads)
low_step f size more heads false low = record {
  behind = λ g h from at. low.behind g h (omega (arith, from)) at;
  before = λ g h less at. elim (cases_eq g f) [
    | inl here ↦ low_less size more h (low.behind g h (omega (arith, here)) at)
    | inr other ↦ low.before g h (omega (arith, less, other)) at
  ];
}
low_step f size more heads true low = record {
  behind = λ g h from at. low.behind g h (omega (arith, from)) (sym (others_both f g size size heads (λ is. omega (arith, from, is))) ∙ at);
  before = λ g h less at. elim (cases_eq g f) [
    | inl here ↦ own (head_at heads f) refl h (ap (head_at (heads_with_both f size size heads)) (sym here) ∙ at)
    | inr other ↦ low.before g h (omega (arith, less, other)) (sym (others_both f g size size heads other) ∙ at)
  ];
}
  where
    own : (o : Option FileHead) → head_at heads f ≡ o → (x : FileHead) → head_at (heads_with_both f size size heads) f ≡ Some x → IsLow more x
    own None none x at = let no : ⊥ = (let both : ◌≡◌ {A = Option FileHead} None (Some x) = sym (none_there f size size heads none) ∙ at in cc) in absurd no
    own (Some h) there x at = low_both f size more heads h x there (low.behind f h (omega arith) there) at

low_through : (f : ℕ) (files : List Bool) (size more : ℕ) (heads : List (Option FileHead)) → AreLowFrom f size more heads → (g : ℕ) (h : FileHead) → head_at (heads_from f files size heads) g ≡ Some h → IsLow more h
low_through f [] size more heads low g h at = elim (cases_lt g f) [ inl less ↦ low.before g h less at | inr from ↦ low_less size more h (low.behind g h from at) ]
low_through f (takes ∷ files) size more heads low g h at = low_through (suc f) files size more (heads_if takes f size heads) (low_step f size more heads takes low) g h at

pub low_from : (files : List Bool) (size more : ℕ) (heads : List (Option FileHead)) → ImagesAreLow (size + more) heads → ImagesAreLow more (heads_from 0 files size heads)
low_from files size more heads low g h at = low_through 0 files size more heads (record { behind = λ k x from there. low k x there; before = λ k x less there. absurd (omega (arith, less)) }) g h at
