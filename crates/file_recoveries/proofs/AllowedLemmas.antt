-- What a head has that refuses nothing.
use Rattle.std.proofs.Common.{◌≡◌, ◌≤◌, ℕ, Bool, true, false, Option, Some, None, if◌then◌else◌, refl, arith}
use Rattle.std.specs.Prelude.{not, nat_lt}
use Rattle.std.proofs.lemmas.Bool.Decides.{nat_tests}
use Rattle.file_base.specs.declared.head.FileHead.{FileHead}
use Rattle.vms_base.specs.declared.ids.Serial.{Serial}
use Rattle.vms_base.specs.declared.moments.Moment.{Moment}
use Rattle.file_recoveries.specs.Causes as said
use Rattle.file_recoveries.specs.Causes.{backward_cause, cause_of, first_cause, forward_cause}
use Rattle.file_recoveries.specs.declared.causes.Way.{Way}
use Rattle.file_recoveries.specs.declared.causes.Way.TheVariants.{Backward, Forward}
use Rattle.file_recoveries.specs.declared.errors.RecoverErr.{RecoverErr}
use Rattle.file_recoveries.specs.declared.errors.RecoverErr.TheVariants as err

reaches : (e : Option RecoverErr) (p f : ℕ) (b : Bool) → nat_lt p f ≡ b → first_cause e (if b then Some (err.Span p f) else None) ≡ None → f ≤ p
reaches (Some x) p f b is none = let no : ⊥ = cc in absurd no
reaches None p f true is none = let no : ⊥ = cc in absurd no
reaches None p f false is none = grind (arith, nat_tests)

-- the journal and the save are there, and the journal reaches back to the save
pub record IsOn (h : FileHead) : Type 0 where
  pub marked : h.marks.ai ≡ true
  pub saved : h.marks.save ≡ true
  pub behind : h.ai.first ≤ h.save.position

on_by : (h : FileHead) (until : Option Moment) (a b : Bool) → h.marks.ai ≡ a → h.marks.save ≡ b → (if not a then Some err.NoJournal else (if not b then Some err.NoSave else first_cause (said.in_use None) (said.save_cause h until))) ≡ None → IsOn h
on_by h until false b marked saved none = let no : ⊥ = cc in absurd no
on_by h until true false marked saved none = let no : ⊥ = cc in absurd no
on_by h until true true marked saved none = record { marked = marked; saved = saved; behind = reaches (said.early_cause h until) h.save.position h.ai.first (nat_lt h.save.position h.ai.first) refl none }

pub on_allowed : (h : FileHead) (until : Option Moment) → forward_cause h until None ≡ None → IsOn h
on_allowed h until none = on_by h until h.marks.ai h.marks.save refl refl none

off_by : (h : FileHead) (until : Moment) (a : Bool) → h.marks.bi ≡ a → (if not a then Some err.NoJournal else first_cause (said.in_use None) (said.since_cause h until)) ≡ None → h.marks.bi ≡ true
off_by h until false marked none = let no : ⊥ = cc in absurd no
off_by h until true marked none = marked

pub off_allowed : (h : FileHead) (until : Moment) → backward_cause h until None ≡ None → h.marks.bi ≡ true
off_allowed h until none = off_by h until h.marks.bi refl none

-- where nothing is refused, there is no user

used_on : (a b : Bool) (u : Serial) (rest : Option RecoverErr) → (if not a then Some err.NoJournal else (if not b then Some err.NoSave else first_cause (said.in_use (Some u)) rest)) ≡ None → ⊥
used_on false b u rest none = cc
used_on true false u rest none = cc
used_on true true u rest none = cc

used_off : (a : Bool) (u : Serial) (rest : Option RecoverErr) → (if not a then Some err.NoJournal else first_cause (said.in_use (Some u)) rest) ≡ None → ⊥
used_off false u rest none = cc
used_off true u rest none = cc

pub no_user : (h : FileHead) (way : Way) (user : Option Serial) → cause_of h way user ≡ None → cause_of h way None ≡ None
no_user h way None none = none
no_user h (Forward until) (Some u) none = absurd (used_on h.marks.ai h.marks.save u (said.save_cause h until) none)
no_user h (Backward until) (Some u) none = absurd (used_off h.marks.bi u (said.since_cause h until) none)

pub unused : (h : FileHead) (way : Way) (user : Option Serial) → cause_of h way user ≡ None → user ≡ None
unused h way None none = refl
unused h (Forward until) (Some u) none = absurd (used_on h.marks.ai h.marks.save u (said.save_cause h until) none)
unused h (Backward until) (Some u) none = absurd (used_off h.marks.bi u (said.since_cause h until) none)
