-- Lines that count nothing.
use Rattle.std.proofs.Common.{◌≡◌, ℕ, refl}
use Rattle.std.specs.Borrow.{Bor}
use Rattle.vms_base.specs.declared.ids.Tid.{Tid}
use Rattle.vms_base.specs.declared.ids.Serial.{Serial}
use Rattle.vms_base.specs.declared.moments.Moment.{Moment}
use Rattle.net_wire.specs.declared.wire.Message.{Message}
use Rattle.emitter_model.specs.Tally.{commits_in, sent_behind}
use Rattle.transcript.specs.Forms.{line_of}
use Rattle.transcript.specs.declared.form.Form.{Form}
use Rattle.transcript.specs.declared.form.Form.TheVariants as form

pub nothing_sent : (f : Form) (before : ℕ) → ((number : ℕ) (message : Bor Message) → f ≡ form.Sent number message → ⊥) → sent_behind (line_of f) before ≡ before
nothing_sent (form.Sent number message) before other = absurd (other number message refl)
nothing_sent _ before other = refl

pub nothing_committed : (f : Form) → ((tid : Tid) (serial : Serial) (moment : Moment) → f ≡ form.Committed tid serial moment → ⊥) → commits_in (line_of f) ≡ 0
nothing_committed (form.Committed tid serial moment) other = absurd (other tid serial moment refl)
nothing_committed _ other = refl
