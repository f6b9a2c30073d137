-- Each act keeps what the entries since a save tell in the words of an opening.
use Rattle.std.proofs.Common.{◌≡◌, ℕ, ◌≤◌, List, ◌∷◌, Bool, true, false, Option, Some, None, refl, sym, subst, arith}
use Rattle.std.specs.Prelude.{if◌then◌else◌}
use Rattle.unit_laws.specs.vms_model.Ids.{Id}
use Rattle.unit_laws.specs.vms_model.Transactions.{Outcome}
use Rattle.unit_laws.specs.records_model.Records.{Change}
use Rattle.unit_laws.specs.records_model.History.{LiveChanges, changed_it}
use Rattle.recovery_model.specs.Images.{befores}
use Rattle.recovery_model.specs.Journal.{Entry, Changed, Settled}
use Rattle.recovery_model.specs.File.{ImageJournal, Save, FileState, append, renewed, ended, renewed_if_on, with_its, IsCovering, since}
use Rattle.recovery_model.specs.Opening.{IsLawful}
use Rattle.recovery_model.specs.Acts.{Act, Changes, Settles, HalfAborts, BeginsAfters, EndsAfters, BeginsBefores, EndsBefores, Saves, Recovers, file_after, MayDo}
use Rattle.recovery_model.proofs.Covering.{unsettled, Kept}
use Rattle.recovery_model.proofs.BranchLemmas.{free_for}
use Rattle.recovery_model.proofs.FileLemmas.{settled_row, end_up, since_append, first_append, on_append, span_up, nothing_since, still, settled_is}
use Rattle.recovery_model.proofs.TellingLemmas.{ToldKeys, keys_changed_too, keys_settled, keys_none}
use Rattle.recovery_model.proofs.HalfLemmas.{keys_half}

abbrev pub SaveTold : ImageJournal → Option Save → List LiveChanges → Type 0
SaveTold j None live = Unit {0}
SaveTold j (Some v) live = (v.position ≤ j.end) × (j.on ≡ true → IsCovering j v → ToldKeys live (since v.position j.entries))

told_append : (tid : Id) (e : Entry) (j : ImageJournal) (sv : Option Save) (live new : List LiveChanges) → ((p : ℕ) → ToldKeys live (since p j.entries) → ToldKeys new (e ∷ since p j.entries)) → SaveTold j sv live → SaveTold (append tid e j) sv new
told_append tid e j None live new step w = tt
told_append tid e j (Some v) live new step w = (
  end_up tid e j v.position j.on refl w.0,
  λ on cov.
      let old : j.on ≡ true = on_append tid e j j.on refl on in
      let low : j.first ≤ v.position = subst (λ x. x ≤ v.position) (first_append tid e j j.on refl) cov in
      subst (ToldKeys new) (sym (since_append tid e j v.position old w.0)) (step v.position (w.1 old low)),
)

told_renewed : (start blocks : ℕ) (j : ImageJournal) (sv : Option Save) (live new : List LiveChanges) → SaveTold j sv live → SaveTold (renewed start blocks j) sv new
told_renewed start blocks j None live new w = tt
told_renewed start blocks j (Some v) live new w = (let x = span_up j.end in let y = w.0 in omega arith, λ on cov. let x = span_up j.end in let y = w.0 in absurd (omega arith))

told_ended : (j : ImageJournal) (sv : Option Save) (live : List LiveChanges) → SaveTold j sv live → SaveTold (ended j) sv live
told_ended j None live w = tt
told_ended j (Some v) live w = (w.0, λ on cov. let no : ⊥ = cc in absurd no)

told_again : (j : ImageJournal) (sv : Option Save) (live : List LiveChanges) (on : Bool) → j.on ≡ on → SaveTold j sv live → SaveTold (renewed_if_on j) sv live
told_again j sv live true on w = rw on (told_renewed j.start j.blocks j sv live live w)
told_again j None live false on w = tt
told_again j (Some v) live false on w = rw on (w.0, λ x cov. let no : ⊥ = cc in absurd no)

save_half_told : (s : Id) (cs : List Change) (j : ImageJournal) (sv : Option Save) (live : List LiveChanges) → befores cs ≡ befores (unsettled live s) → SaveTold j sv live → SaveTold j sv (with_its s cs live)
save_half_told s cs j None live e w = tt
save_half_told s cs j (Some v) live e w = (w.0, λ on cov. keys_half s cs live (since v.position j.entries) e (w.1 on cov))

-- what the entries since the save of a file tell
abbrev pub Told : FileState → Type 0
Told f = SaveTold f.ai f.save f.timeline.history.live

settled_told : (tid s : Id) (outcome : Outcome) (t : ℕ) (f : FileState) (b : Bool) → Told f → Told (if b then settled_row tid s outcome t f else f)
settled_told tid s outcome t f true w = told_append tid (Settled s outcome t) f.ai f.save f.timeline.history.live _ (λ p x. keys_settled t (since p f.ai.entries) f.timeline.history.live s outcome x) w
settled_told tid s outcome t f false w = w

pub act_told : (may : Id → Bool) (a : Act) (g : ℕ) (f : FileState) → MayDo may a g f → Kept may g f → Told f → Told (file_after a g f)
act_told may (Changes tid s c) g f m k w =
    told_append tid (Changed s c.key c.after) f.ai f.save f.timeline.history.live _ (λ p x. keys_changed_too (since p f.ai.entries) f.timeline.history.live s c (free_for c.key s f.timeline.history.live m.free) x) w
act_told may (Settles tid s outcome t) g f m k w =
    subst Told (sym (settled_is tid s outcome t f (changed_it f.timeline.history s) refl)) (settled_told tid s outcome t f (changed_it f.timeline.history s) w)
act_told may (HalfAborts s cs) g f m k w = save_half_told s cs f.ai f.save f.timeline.history.live m.same w
act_told may (BeginsAfters start blocks) g f m k w = told_renewed start blocks f.ai f.save f.timeline.history.live f.timeline.history.live w
act_told may EndsAfters g f m k w = told_ended f.ai f.save f.timeline.history.live w
act_told may (BeginsBefores start blocks) g f m k w = w
act_told may EndsBefores g f m k w = w
act_told may (Saves start buckets) g f m k w =
    (omega arith, λ on cov. subst (ToldKeys f.timeline.history.live) (sym (nothing_since f.ai.end f.ai.entries k.ai_ascends)) (keys_none f.timeline.history.live (still f m)))
act_told may (Recovers x) g f m k w = told_again f.ai f.save f.timeline.history.live f.ai.on refl w

-- What a run finds tells so.

save_found : (waits : Id → Bool) (g : ℕ) (f : FileState) (save : Option Save) → f.save ≡ save → IsLawful waits g f → SaveTold f.ai save f.timeline.history.live
save_found waits g f None e w = tt
save_found waits g f (Some v) e w = ((w.saved v e).position, λ on cov. let x = w.by_save v e on cov in record { locked = x.locked; same = x.same })

pub found_told : (waits : Id → Bool) (g : ℕ) (f : FileState) → IsLawful waits g f → Told f
found_told waits g f w = save_found waits g f f.save refl w
