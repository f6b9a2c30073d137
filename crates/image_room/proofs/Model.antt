-- What refuses a change for a full ring is what the model of recovery says.
use Rattle.std.proofs.Common.{◌≡◌, ℕ, ◌+◌, ◌-◌, ◌*◌, Bool, true, false, List, [], ◌∷◌, Option, Some, None, option_map, refl, sym, ap, ◌∙◌, if◌then◌else◌}
use Rattle.std.specs.Prelude.{◌&&◌, nat_lt}
use Rattle.file_base.specs.declared.head.FileHead.{FileHead}
use Rattle.image_appends.specs.journal_model.Ring.{ring_size}
use Rattle.recovery_model.specs.records_model.History.{LiveChanges}
use Rattle.recovery_model.specs.records_model.Records.{Change}
use Rattle.record_operations.specs.Causes.{Cause, AfterImagesFull, BeforeImagesFull, cause_if, first_cause}
use Rattle.recovery_model.specs.File.{FileState, ImageJournal, all_of}
use Rattle.recovery_model.specs.Images.{Image, afters, befores}
use Rattle.recovery_model.specs.Room.{AftersFull, BeforesFull, Full, changes_length, free_in, full_of, has_entry, is_short, need_in, unsettled_in}
use Rattle.unit_table.specs.Units.{OpenUnit, changers}
use Rattle.file_base.specs.vms_model.Ids.{Id}
use Rattle.image_appends.specs.declared.side.Side.{Side}
use Rattle.image_appends.specs.declared.side.Side.TheVariants.{After, Before}
use Rattle.image_appends.specs.Images.{is_kept, span_of}
use Rattle.image_room.specs.Room.{free_images, full_by, images_refused, images_wanted, kept_span, ring_refused}

-- a journal of the model is that of a head; where it is kept, as many unsettled branches have entries there as units changed the file, and a branch has one where it
-- changed the file
pub record IsJournalOf (side : Side) (h : FileHead) (file : ℕ) (units : List (Option OpenUnit)) (s : Id) (has : Bool) (live : List LiveChanges) (j : ImageJournal) : Type 0 where
  pub on : j.on ≡ is_kept side h
  pub blocks : j.blocks ≡ (span_of side h).blocks
  pub first : j.first ≡ (span_of side h).first
  pub end : j.end ≡ (span_of side h).end
  pub unsettled : is_kept side h ≡ true → unsettled_in (all_of j.entries) live ≡ changers file units
  pub entry : is_kept side h ≡ true → has_entry s (all_of j.entries) ≡ has

-- the cause
abbrev pub cause_full : Full → Cause
cause_full (AftersFull free need) = AfterImagesFull free need
cause_full (BeforesFull free need) = BeforeImagesFull free need

abbrev full_in : Side → (free need : ℕ) → Full
full_in After free need = AftersFull free need
full_in Before free need = BeforesFull free need

cause_in : (side : Side) (free need : ℕ) → cause_full (full_in side free need) ≡ full_by side free need
cause_in After free need = refl
cause_in Before free need = refl

abbrev full_one : Side → Id → List Image → ImageJournal → List LiveChanges → Option Full
full_one side s is j live = if is_short s is j live then Some (full_in side (free_in j live) (need_in s is j)) else None

module _ (side : Side) (h : FileHead) (file : ℕ) (units : List (Option OpenUnit)) (s : Id) (has : Bool) (live : List LiveChanges) (j : ImageJournal) (of : IsJournalOf side h file units s has live j) (is : List Image) where
  free_same : is_kept side h ≡ true → free_in j live ≡ free_images (span_of side h) file units
  free_same kept = λ i. 512 * of.blocks i - (of.end i - of.first i) - 48 * of.unsettled kept i

  need_same : is_kept side h ≡ true → need_in s is j ≡ images_wanted has (changes_length is)
  need_same kept = ap (λ (b : Bool). if b then changes_length is else 48 + changes_length is) (of.entry kept)

  abbrev Goal : (kept : Bool) → (free need : ℕ) → Type 0
  Goal kept free need = option_map cause_full (if kept && nat_lt free need then Some (full_in side free need) else None) ≡ ring_refused side (if kept then Some (span_of side h) else None) file units (images_wanted has (changes_length is))

  by_test : (free need : ℕ) (t : Bool) → option_map cause_full (if t then Some (full_in side free need) else None) ≡ cause_if t (full_by side free need)
  by_test free need true = ap (λ (c : Cause). Some c) (cause_in side free need)
  by_test free need false = refl

  by_mark : (kept : Bool) → is_kept side h ≡ kept → Goal kept (free_in j live) (need_in s is j)
  by_mark true kept = by_test (free_in j live) (need_in s is j) (nat_lt (free_in j live) (need_in s is j)) ∙ (λ i. cause_if (nat_lt (free_same kept i) (need_same kept i)) (full_by side (free_same kept i) (need_same kept i)))
  by_mark false kept = refl

  one_same : option_map cause_full (full_one side s is j live) ≡ ring_refused side (kept_span side h) file units (images_wanted has (changes_length is))
  one_same = (λ i. option_map cause_full (if of.on i && nat_lt (free_in j live) (need_in s is j) then Some (full_in side (free_in j live) (need_in s is j)) else None)) ∙ by_mark (is_kept side h) refl

two_fulls : (a b : Bool) (x y : Full) → option_map cause_full (if a then Some x else (if b then Some y else None)) ≡ first_cause (option_map cause_full (if a then Some x else None)) (option_map cause_full (if b then Some y else None))
two_fulls true b x y = refl
two_fulls false b x y = refl

-- a statement's changes of a file are refused as they are there
pub refused_as_told : (h : FileHead) (file : ℕ) (units : List (Option OpenUnit)) (s : Id) (has : Bool) (cs : List Change) (f : FileState) → IsJournalOf After h file units s has f.timeline.history.live f.ai → IsJournalOf Before h file units s has f.timeline.history.live f.bi →
    option_map cause_full (full_of s cs f) ≡ images_refused h file units has (changes_length (afters cs)) (changes_length (befores cs))
refused_as_told h file units s has cs f ai bi =
    let live = f.timeline.history.live in
    two_fulls (is_short s (afters cs) f.ai live) (is_short s (befores cs) f.bi live) (AftersFull (free_in f.ai live) (need_in s (afters cs) f.ai)) (BeforesFull (free_in f.bi live) (need_in s (befores cs) f.bi))
    ∙ (λ i. first_cause (one_same After h file units s has live f.ai ai (afters cs) i) (one_same Before h file units s has live f.bi bi (befores cs) i))
