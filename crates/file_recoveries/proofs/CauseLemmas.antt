-- The head of a file refuses a recovery for what its journals and its save refuse it for.
use Rattle.std.proofs.Common.{◌≡◌, ℕ, Bool, true, false, List, Option, Some, None, if◌then◌else◌, refl, sym, ◌∙◌, ap, subst}
use Rattle.std.specs.Prelude.{not, nat_lt, option_map}
use Rattle.file_base.specs.declared.head.FileHead.{FileHead}
use Rattle.vms_base.specs.declared.ids.Serial.{Serial}
use Rattle.vms_base.specs.declared.moments.Moment.{Moment}
use Rattle.vms_base.specs.Ids.{serial_of}
use Rattle.vms_model.specs.Ids.{Id}
use Rattle.image_entries.specs.recovery_model.File.{ImageJournal, Save, FileState}
use Rattle.image_entries.specs.recovery_model.Recovery as model
use Rattle.image_entries.specs.recovery_model.Recovery.{Refusal, refusal, first_of, no_journal, no_save, in_use, refused_if, too_early, positions_missing}
use Rattle.file_recoveries.specs.Causes as said
use Rattle.file_recoveries.specs.Causes.{cause_of, first_cause, refusal_by, way_of}
use Rattle.rolled_records.specs.file_images.Files.{HasSave, HasSide, SavedIn}
use Rattle.file_recoveries.specs.Files.{HasFile}
use Rattle.file_recoveries.specs.Laws.{CausesAreRefusals}
use Rattle.file_recoveries.specs.declared.causes.Way.{Way}
use Rattle.file_recoveries.specs.declared.causes.Way.TheVariants.{Forward, Backward}
use Rattle.file_recoveries.specs.declared.errors.RecoverErr.{RecoverErr}
use Rattle.file_recoveries.specs.declared.errors.RecoverErr.TheVariants as err

-- Forward, by a save that has these numbers.

missing_so : (b : Bool) (until : Option Moment) (p q : ℕ) → refused_if b (model.PositionsMissing p q) ≡ refusal_by (Forward until) (if b then Some (err.Span p q) else None)
missing_so true until p q = refl
missing_so false until p q = refl

-- a save's numbers, and the journal's first position
early_so : (h : FileHead) (until : Option Moment) (v : Save) (j : ImageJournal) → h.save.position ≡ v.position → h.save.moment.0 ≡ v.moment → h.ai.first ≡ j.first →
    first_of (too_early (option_map (λ (m : Moment). m.0) until) (Some v)) (positions_missing j (Some v)) ≡ refusal_by (Forward until) (said.save_cause h until)
early_so h None v j position moment first = (λ i. refused_if (nat_lt (sym position i) (sym first i)) (model.PositionsMissing (sym position i) (sym first i))) ∙ missing_so (nat_lt h.save.position h.ai.first) None h.save.position h.ai.first
early_so h (Some until) v j position moment first =
    (λ i. first_of (refused_if (nat_lt until.0 (sym moment i)) (model.TooEarly until.0 (sym moment i))) (refused_if (nat_lt (sym position i) (sym first i)) (model.PositionsMissing (sym position i) (sym first i)))) ∙ go (nat_lt until.0 h.save.moment.0)
  where
    go : (b : Bool) → first_of (refused_if b (model.TooEarly until.0 h.save.moment.0)) (refused_if (nat_lt h.save.position h.ai.first) (model.PositionsMissing h.save.position h.ai.first)) ≡
        refusal_by (Forward (Some until)) (first_cause (if b then Some (err.Early until h.save.moment) else None) (if nat_lt h.save.position h.ai.first then Some (err.Span h.save.position h.ai.first) else None))
    go true = refl
    go false = missing_so (nat_lt h.save.position h.ai.first) (Some until) h.save.position h.ai.first

used_on : (h : FileHead) (until : Option Moment) (user : Option Serial) (rest : Option Refusal) → rest ≡ refusal_by (Forward until) (said.save_cause h until) →
    first_of (in_use (option_map serial_of user)) rest ≡ refusal_by (Forward until) (first_cause (said.in_use user) (said.save_cause h until))
used_on h until None rest same = same
used_on h until (Some user) rest same = refl

forward_so : (h : FileHead) (until : Option Moment) (user : Option Serial) (s : FileState) (c : List (List ℕ)) (a b : Bool) → s.ai.on ≡ a → HasSave c b h s.save → h.ai.first ≡ s.ai.first →
    refusal (model.Forward (option_map (λ (m : Moment). m.0) until)) (option_map serial_of user) s ≡
    refusal_by (Forward until) (if not a then Some err.NoJournal else (if not b then Some err.NoSave else first_cause (said.in_use user) (said.save_cause h until)))
forward_so h until user s c false b on save first =
    ap (λ (x : Bool). first_of (refused_if (not x) model.NoJournal) (first_of (no_save s.save) (first_of (in_use (option_map serial_of user)) (first_of (too_early (option_map (λ (m : Moment). m.0) until) s.save) (positions_missing s.ai s.save))))) on
forward_so h until user s c true b on save first =
    ap (λ (x : Bool). first_of (refused_if (not x) model.NoJournal) (first_of (no_save s.save) (first_of (in_use (option_map serial_of user)) (first_of (too_early (option_map (λ (m : Moment). m.0) until) s.save) (positions_missing s.ai s.save))))) on ∙ by_save b s.save save
  where
    by_save : (b : Bool) (v : Option Save) → HasSave c b h v → first_of (no_save v) (first_of (in_use (option_map serial_of user)) (first_of (too_early (option_map (λ (m : Moment). m.0) until) v) (positions_missing s.ai v))) ≡
        refusal_by (Forward until) (if not b then Some err.NoSave else first_cause (said.in_use user) (said.save_cause h until))
    by_save true (Some v) saved = used_on h until user _ (early_so h until v s.ai saved.position saved.moment first)
    by_save false None saved = refl
    by_save true None saved = absurd saved
    by_save false (Some v) saved = absurd saved

-- Backward.

since_so : (b : Bool) (until : Moment) (p q : ℕ) → refused_if b (model.MomentsMissing p q) ≡ refusal_by (Backward until) (if b then Some (err.Span p q) else None)
since_so true until p q = refl
since_so false until p q = refl

used_off : (h : FileHead) (until : Moment) (user : Option Serial) (rest : Option Refusal) → rest ≡ refusal_by (Backward until) (said.since_cause h until) →
    first_of (in_use (option_map serial_of user)) rest ≡ refusal_by (Backward until) (first_cause (said.in_use user) (said.since_cause h until))
used_off h until None rest same = same
used_off h until (Some user) rest same = refl

backward_so : (h : FileHead) (until : Moment) (user : Option Serial) (s : FileState) (a : Bool) → s.bi.on ≡ a → h.bi_since.0 ≡ s.bi_since →
    refusal (model.Backward until.0) (option_map serial_of user) s ≡ refusal_by (Backward until) (if not a then Some err.NoJournal else first_cause (said.in_use user) (said.since_cause h until))
backward_so h until user s false on since =
    ap (λ (x : Bool). first_of (refused_if (not x) model.NoJournal) (first_of (in_use (option_map serial_of user)) (refused_if (nat_lt until.0 s.bi_since) (model.MomentsMissing until.0 s.bi_since)))) on
backward_so h until user s true on since =
    ap (λ (x : Bool). first_of (refused_if (not x) model.NoJournal) (first_of (in_use (option_map serial_of user)) (refused_if (nat_lt until.0 s.bi_since) (model.MomentsMissing until.0 s.bi_since)))) on
    ∙ used_off h until user _ ((λ i. refused_if (nat_lt until.0 (sym since i)) (model.MomentsMissing until.0 (sym since i))) ∙ since_so (nat_lt until.0 h.bi_since.0) until until.0 h.bi_since.0)

pub causes_are_refusals : CausesAreRefusals
causes_are_refusals c f h m s (Forward until) user has = forward_so h until user s c h.marks.ai h.marks.save has.ai.on has.save has.ai.first
causes_are_refusals c f h m s (Backward until) user has = backward_so h until user s h.marks.bi has.bi.on has.since
