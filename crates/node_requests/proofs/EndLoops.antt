-- The loops of an answer to END_TRANS.
use Rattle.std.proofs.Common.{◌≡◌, Bool, true, false, [], ◌∷◌, Option, Some, None, refl, ap, ◌∙◌}
use Rattle.std.specs.Prelude.{if◌then◌else◌}
use Rattle.vms_model.specs.Ids.{Id}
use Rattle.vms_base.specs.Ids.{serial_of}
use Rattle.vms_base.specs.Outcomes.{outcome_of, reason_of}
use Rattle.vms_base.specs.declared.ids.Serial.{Serial}
use Rattle.vms_base.specs.declared.protocol.LogRec.{LogRec}
use Rattle.vms_base.specs.declared.outcomes.Outcome.{Outcome}
use Rattle.vms_base.specs.declared.outcomes.Reason.{Reason}
use Rattle.emitter_model.specs.commit_protocol.Messages.{same_id}
use Rattle.tm_types.specs.Effects.{effect_of}
use Rattle.tm_types.specs.declared.effects.Effect.{Effect}
use Rattle.tm_types.specs.declared.effects.Effect.TheVariants as effect
use Rattle.node_requests.specs.Transacting.{ending_in, ending_line}

-- an effect that settles under this serial, or another, or none
pub settles_own : (t : Id) (x : Effect) (s : Serial) (outcome : Outcome) (reason : Reason) (rec : Option LogRec) → x ≡ effect.Settle s outcome reason rec → same_id (serial_of s) t ≡ true → ending_in t (effect_of x ∷ []) ≡ Some (ending_line (outcome_of outcome) (reason_of reason))
settles_own t x s outcome reason rec is same = ap (λ y. ending_in t (effect_of y ∷ [])) is ∙ ap (λ (b : Bool). if b then Some (ending_line (outcome_of outcome) (reason_of reason)) else None) same

pub settles_other : (t : Id) (x : Effect) (s : Serial) (outcome : Outcome) (reason : Reason) (rec : Option LogRec) → x ≡ effect.Settle s outcome reason rec → same_id (serial_of s) t ≡ false → ending_in t (effect_of x ∷ []) ≡ None
settles_other t x s outcome reason rec is other = ap (λ y. ending_in t (effect_of y ∷ [])) is ∙ ap (λ (b : Bool). if b then Some (ending_line (outcome_of outcome) (reason_of reason)) else None) other

pub settles_none : (t : Id) (x : Effect) → ((s : Serial) (outcome : Outcome) (reason : Reason) (rec : Option LogRec) → x ≡ effect.Settle s outcome reason rec → ⊥) → ending_in t (effect_of x ∷ []) ≡ None
settles_none t (effect.Settle s outcome reason rec) h = absurd (h s outcome reason rec refl)
settles_none t (effect.Prepare s rms) h = refl
settles_none t (effect.Keep rec) h = refl
settles_none t (effect.Forget s) h = refl
settles_none t (effect.Send m) h = refl
settles_none t (effect.Tell event tid s rm) h = refl
settles_none t (effect.Joined s) h = refl
settles_none t (effect.Started s) h = refl
settles_none t (effect.ReadOnly s) h = refl
settles_none t (effect.Ended tid reason) h = refl
