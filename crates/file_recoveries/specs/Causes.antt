-- What refuses a recovery by the head of its file and the unit that is told alone.
use Rattle.std.specs.Prelude.{ℕ, Bool, true, false, not, Option, Some, None, if◌then◌else◌, nat_lt, option_map}
use Rattle.file_base.specs.declared.head.FileHead.{FileHead}
use Rattle.vms_base.specs.declared.moments.Moment.{Moment}
use Rattle.vms_base.specs.declared.ids.Serial.{Serial}
use Rattle.vms_base.specs.Ids.{serial_of}
use Rattle.image_entries.specs.recovery_model.Recovery as model
use Rattle.file_recoveries.specs.declared.errors.RecoverErr.{RecoverErr}
use Rattle.file_recoveries.specs.declared.errors.RecoverErr.TheVariants as err
use Rattle.file_recoveries.specs.declared.causes.Way.{Way}
use Rattle.file_recoveries.specs.declared.causes.Way.TheVariants.{Forward, Backward}

-- the moment is before the save's
abbrev pub early_cause : FileHead → Option Moment → Option RecoverErr
early_cause h None = None
early_cause h (Some until) = if nat_lt until.0 h.save.moment.0 then Some (err.Early until h.save.moment) else None

abbrev pub first_cause : Option RecoverErr → Option RecoverErr → Option RecoverErr
first_cause (Some e) other = Some e
first_cause None other = other

-- or the journal begins behind the save's position
abbrev pub save_cause : FileHead → Option Moment → Option RecoverErr
save_cause h until = first_cause (early_cause h until) (if nat_lt h.save.position h.ai.first then Some (err.Span h.save.position h.ai.first) else None)

abbrev pub in_use : Option Serial → Option RecoverErr
in_use None = None
in_use (Some serial) = Some (err.InUse serial)

abbrev pub forward_cause : FileHead → Option Moment → (user : Option Serial) → Option RecoverErr
forward_cause h until user = if not h.marks.ai then Some err.NoJournal else (if not h.marks.save then Some err.NoSave else first_cause (in_use user) (save_cause h until))

abbrev pub since_cause : FileHead → Moment → Option RecoverErr
since_cause h until = if nat_lt until.0 h.bi_since.0 then Some (err.Span until.0 h.bi_since.0) else None

abbrev pub backward_cause : FileHead → Moment → (user : Option Serial) → Option RecoverErr
backward_cause h until user = if not h.marks.bi then Some err.NoJournal else first_cause (in_use user) (since_cause h until)

-- the first cause, in their order
abbrev pub cause_of : FileHead → Way → (user : Option Serial) → Option RecoverErr
cause_of h (Forward until) user = forward_cause h until user
cause_of h (Backward until) user = backward_cause h until user

-- the way of a recovery in the world
abbrev pub way_of : Way → model.Way
way_of (Forward until) = model.Forward (option_map (λ (m : Moment). m.0) until)
way_of (Backward until) = model.Backward until.0

-- What an answer says of the file; none where blocks or memory are missing or the disk went down.
abbrev pub refusal_of : Way → RecoverErr → Option model.Refusal
refusal_of (Forward until) (err.Span needed first) = Some (model.PositionsMissing needed first)
refusal_of (Backward until) (err.Span needed first) = Some (model.MomentsMissing needed first)
refusal_of way (err.InUse serial) = Some (model.InUse (serial_of serial))
refusal_of way err.NoJournal = Some model.NoJournal
refusal_of way (err.Early until save) = Some (model.TooEarly until.0 save.0)
refusal_of way err.NoSave = Some model.NoSave
refusal_of way err.Memory = None
refusal_of way (err.Down down) = None
refusal_of way (err.Full free needed) = None

abbrev pub refusal_by : Way → Option RecoverErr → Option model.Refusal
refusal_by way None = None
refusal_by way (Some e) = refusal_of way e
