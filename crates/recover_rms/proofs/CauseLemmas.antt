-- A cause of the head is one of five.
use Rattle.std.proofs.Common.{◌≡◌, ℕ, Bool, true, false, Option, Some, None, IfSome, if◌then◌else◌, refl, subst}
use Rattle.std.specs.Prelude.{not, nat_lt}
use Rattle.file_base.specs.declared.head.FileHead.{FileHead}
use Rattle.vms_base.specs.declared.ids.Serial.{Serial}
use Rattle.vms_base.specs.declared.moments.Moment.{Moment}
use Rattle.volume.specs.State.{VolumeState}
use Rattle.file_recoveries.specs.Causes.{cause_of, early_cause, first_cause, in_use, save_cause, since_cause}
use Rattle.file_recoveries.specs.declared.causes.Way.{Way}
use Rattle.file_recoveries.specs.declared.causes.Way.TheVariants.{Backward, Forward}
use Rattle.file_recoveries.specs.declared.errors.RecoverErr.{RecoverErr}
use Rattle.file_recoveries.specs.declared.errors.RecoverErr.TheVariants as err
use Rattle.recover_rms.specs.Calls.{NotRecovered}

abbrev IsOfHead : RecoverErr → Type 0
IsOfHead err.NoJournal = Unit {0}
IsOfHead err.NoSave = Unit {0}
IsOfHead (err.InUse serial) = Unit {0}
IsOfHead (err.Early until save) = Unit {0}
IsOfHead (err.Span needed first) = Unit {0}
IsOfHead err.Memory = ⊥
IsOfHead (err.Down down) = ⊥
IsOfHead (err.Full free needed) = ⊥

chosen : (b : Bool) (x y : Option RecoverErr) → IfSome x IsOfHead → IfSome y IsOfHead → IfSome (if b then x else y) IsOfHead
chosen true x y p q = p
chosen false x y p q = q

first : (x y : Option RecoverErr) → IfSome x IsOfHead → IfSome y IsOfHead → IfSome (first_cause x y) IsOfHead
first (Some e) y p q = p
first None y p q = q

by_user : (u : Option Serial) → IfSome (in_use u) IsOfHead
by_user None = tt
by_user (Some s) = tt

early : (h : FileHead) (until : Option Moment) → IfSome (early_cause h until) IsOfHead
early h None = tt
early h (Some until) = chosen (nat_lt until.0 h.save.moment.0) (Some (err.Early until h.save.moment)) None tt tt

by_save : (h : FileHead) (until : Option Moment) → IfSome (save_cause h until) IsOfHead
by_save h until = first (early_cause h until) (if nat_lt h.save.position h.ai.first then Some (err.Span h.save.position h.ai.first) else None) (early h until) (chosen (nat_lt h.save.position h.ai.first) (Some (err.Span h.save.position h.ai.first)) None tt tt)

of_head : (h : FileHead) (way : Way) (user : Option Serial) → IfSome (cause_of h way user) IsOfHead
of_head h (Forward until) user =
    chosen (not h.marks.ai) (Some err.NoJournal) (if not h.marks.save then Some err.NoSave else first_cause (in_use user) (save_cause h until)) tt
    (chosen (not h.marks.save) (Some err.NoSave) (first_cause (in_use user) (save_cause h until)) tt (first (in_use user) (save_cause h until) (by_user user) (by_save h until)))
of_head h (Backward until) user =
    chosen (not h.marks.bi) (Some err.NoJournal) (first_cause (in_use user) (since_cause h until)) tt
    (first (in_use user) (since_cause h until) (by_user user) (chosen (nat_lt until.0 h.bi_since.0) (Some (err.Span until.0 h.bi_since.0)) None tt tt))

-- what the head refuses, is refused for that, and nothing changes
pub refused_so : (f : ℕ) (way : Way) (user : Option Serial) (h : FileHead) (v : VolumeState) (e : RecoverErr) → cause_of h way user ≡ Some e → NotRecovered f way user h e v v
refused_so f way user h v e is = go e is (subst (λ (o : Option RecoverErr). IfSome o IsOfHead) is (of_head h way user))
  where
    go : (e : RecoverErr) → cause_of h way user ≡ Some e → IsOfHead e → NotRecovered f way user h e v v
    go err.NoJournal is of = (refl, is)
    go err.NoSave is of = (refl, is)
    go (err.InUse serial) is of = (refl, is)
    go (err.Early until save) is of = (refl, is)
    go (err.Span needed first) is of = (refl, is)
    go err.Memory is of = absurd of
    go (err.Down down) is of = absurd of
    go (err.Full free needed) is of = absurd of
