-- Refusals of a recovery, as they are shown.
use Rattle.std.proofs.Common.{◌≡◌, ℕ, Bool, true, false, Option, Some, None, refl, ap, ◌∙◌}
use Rattle.std.specs.Prelude.{not, option_map, nat_lt}
use Rattle.vms_model.specs.Ids.{Id}
use Rattle.reference_index.specs.transcript_model.Lines as line
use Rattle.reference_index.specs.recovery_model.File.{FileState, Save}
use Rattle.reference_index.specs.recovery_model.Recovery as model
use Rattle.reference_index.specs.recovery_model.Recovery.{Refusal, Forward, Backward, refusal}
use Rattle.reference_index.specs.run_model.Answers.{refusal_line}
use Rattle.reference_index.specs.run_model.Operations.{first_of, refused_if}
use Rattle.reference_recovery.specs.Refusing.{early_line, used_line}

map_first : (a b : Option Refusal) → option_map refusal_line (model.first_of a b) ≡ first_of (option_map refusal_line a) (option_map refusal_line b)
map_first None b = refl
map_first (Some a) b = refl

map_refused : (b : Bool) (r : Refusal) → option_map refusal_line (model.refused_if b r) ≡ refused_if b (refusal_line r)
map_refused true r = refl
map_refused false r = refl

used_is : (user : Option Id) → option_map refusal_line (model.in_use user) ≡ used_line user
used_is None = refl
used_is (Some serial) = refl

early_is : (until : Option ℕ) (v : Save) → option_map refusal_line (model.too_early until (Some v)) ≡ early_line until v.moment
early_is None v = refl
early_is (Some u) v = map_refused (nat_lt u v.moment) (model.TooEarly u v.moment)

-- a refusal by whether the file has the journal, and by its save
abbrev forward_by : Bool → Option Save → (until : Option ℕ) (user : Option Id) (f : FileState) → Option line.Line
forward_by on v until user f = option_map refusal_line (model.first_of (model.refused_if (not on) model.NoJournal)
    (model.first_of (model.no_save v) (model.first_of (model.in_use user) (model.first_of (model.too_early until v) (model.positions_missing f.ai v)))))

abbrev backward_by : Bool → (until : ℕ) (user : Option Id) (f : FileState) → Option line.Line
backward_by on until user f = option_map refusal_line (model.first_of (model.refused_if (not on) model.NoJournal)
    (model.first_of (model.in_use user) (model.refused_if (nat_lt until f.bi_since) (model.MomentsMissing until f.bi_since))))

pub forward_unmarked : (until : Option ℕ) (user : Option Id) (f : FileState) → f.ai.on ≡ false → option_map refusal_line (refusal (Forward until) user f) ≡ Some line.NoJournal
forward_unmarked until user f off = ap (λ on. forward_by on f.save until user f) off

pub forward_unsaved : (until : Option ℕ) (user : Option Id) (f : FileState) → f.ai.on ≡ true → f.save ≡ None → option_map refusal_line (refusal (Forward until) user f) ≡ Some line.NoSave
forward_unsaved until user f on none = λ i. forward_by (on i) (none i) until user f

pub forward_line : (until : Option ℕ) (user : Option Id) (f : FileState) (v : Save) → f.ai.on ≡ true → f.save ≡ Some v →
    option_map refusal_line (refusal (Forward until) user f) ≡ first_of (used_line user) (first_of (early_line until v.moment) (refused_if (nat_lt v.position f.ai.first) (line.PositionsMissing v.position f.ai.first)))
forward_line until user f v on saved = (λ i. forward_by (on i) (saved i) until user f)
    ∙ map_first (model.in_use user) (model.first_of (model.too_early until (Some v)) (model.positions_missing f.ai (Some v)))
    ∙ (λ i. first_of (used_is user i) (map_first (model.too_early until (Some v)) (model.positions_missing f.ai (Some v)) i))
    ∙ (λ i. first_of (used_line user) (first_of (early_is until v i) (map_refused (nat_lt v.position f.ai.first) (model.PositionsMissing v.position f.ai.first) i)))

pub backward_unmarked : (until : ℕ) (user : Option Id) (f : FileState) → f.bi.on ≡ false → option_map refusal_line (refusal (Backward until) user f) ≡ Some line.NoJournal
backward_unmarked until user f off = ap (λ on. backward_by on until user f) off

pub backward_line : (until : ℕ) (user : Option Id) (f : FileState) → f.bi.on ≡ true →
    option_map refusal_line (refusal (Backward until) user f) ≡ first_of (used_line user) (refused_if (nat_lt until f.bi_since) (line.MomentsMissing until f.bi_since))
backward_line until user f on = ap (λ b. backward_by b until user f) on
    ∙ map_first (model.in_use user) (model.refused_if (nat_lt until f.bi_since) (model.MomentsMissing until f.bi_since))
    ∙ (λ i. first_of (used_is user i) (map_refused (nat_lt until f.bi_since) (model.MomentsMissing until f.bi_since) i))
