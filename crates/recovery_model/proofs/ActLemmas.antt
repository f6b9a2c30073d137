-- Each act keeps what ties a file's journals and its save to its timeline.
use Rattle.unit_laws.specs.vms_model.Ids.{Id}
use Rattle.unit_laws.specs.vms_model.Transactions.{Outcome}
use Rattle.unit_laws.specs.records_model.History.{changed_it}
use Rattle.recovery_model.specs.File.{FileState}
use Rattle.recovery_model.specs.Acts.{Act, Changes, Settles, HalfAborts, BeginsAfters, EndsAfters, BeginsBefores, EndsBefores, Saves, Recovers, greatest_after, file_after, MayDo}
use Rattle.std.proofs.Common.{◌≡◌, ℕ, Bool, true, false, refl, sym, ◌∙◌, subst, arith}
use Rattle.std.specs.Prelude.{if◌then◌else◌}
use Rattle.recovery_model.proofs.Covering.{Kept}
use Rattle.recovery_model.proofs.BranchLemmas.{free_for, current_own}
use Rattle.recovery_model.proofs.FileLemmas.{settled_row, still, settled_is, change_keeps, settle_keeps, pass_keeps, ai_keeps, noai_keeps, bi_keeps, nobi_keeps, backup_keeps, recover_keeps}
use Rattle.recovery_model.proofs.HalfLemmas.{half_keeps}
use Rattle.recovery_model.proofs.OrderLemmas.{Ordered, open_in, open_in_changed}

settles_keep : (may : Id → Bool) (tid s : Id) (outcome : Outcome) (t g : ℕ) (f : FileState) (b : Bool) → changed_it f.timeline.history s ≡ b → MayDo may (Settles tid s outcome t) g f → Ordered g f → Kept may g f → Kept may t (if b then settled_row tid s outcome t f else f)
settles_keep may tid s outcome t g f true e m o w = settle_keeps may g tid s outcome t f m.0 (m.1 e) (open_in_changed g f s o e) w
settles_keep may tid s outcome t g f false e m o w = pass_keeps may g t f (let x = m.0 in omega arith) w

pub act_keeps : (may : Id → Bool) (a : Act) (g : ℕ) (f : FileState) → MayDo may a g f → Ordered g f → Kept may g f → Kept may (greatest_after a g) (file_after a g f)
act_keeps may (Changes tid s c) g f m o w =
    change_keeps may g tid s c f (open_in g f s o m.begins) (m.found ∙ current_own f.timeline.history.live _ c.key s m.free) (free_for c.key s f.timeline.history.live m.free) w
act_keeps may (Settles tid s outcome t) g f m o w =
    subst (Kept may t) (sym (settled_is tid s outcome t f (changed_it f.timeline.history s) refl)) (settles_keep may tid s outcome t g f (changed_it f.timeline.history s) refl m o w)
act_keeps may (HalfAborts s cs) g f m o w = half_keeps may g s cs f m w
act_keeps may (BeginsAfters start blocks) g f m o w = ai_keeps may g start blocks f w
act_keeps may EndsAfters g f m o w = noai_keeps may g f w
act_keeps may (BeginsBefores start blocks) g f m o w = bi_keeps may g start blocks f (still f m) w
act_keeps may EndsBefores g f m o w = nobi_keeps may g f w
act_keeps may (Saves start buckets) g f m o w = backup_keeps may g start buckets f (still f m) w
act_keeps may (Recovers x) g f m o w = recover_keeps may g x f (still f m) w
