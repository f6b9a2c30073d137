-- Each step of a file keeps what is kept.
use Rattle.unit_laws.specs.vms_model.Ids.{Id}
use Rattle.unit_laws.specs.vms_model.Transactions.{Outcome, Commit}
use Rattle.unit_laws.specs.records_model.Records.{Records, Change, applied}
use Rattle.unit_laws.specs.records_model.History.{History, changed_it, current, records, settled_with, without}
use Rattle.unit_laws.proofs.records_model.SlotLaws.{if_true, if_false}
use Rattle.recovery_model.specs.Journal.{Entry, Changed, Settled, is_settled}
use Rattle.recovery_model.specs.Timeline.{Timeline, records_at}
use Rattle.recovery_model.specs.File.{Placed, ImageJournal, Save, FileState, all_of, since, append, next_span, renewed, ended, renewed_if_on, changed_file, saved_file, recovered_file, rebased, created, settled_file, IsOpenIn, IsStill}
use Rattle.std.proofs.Common.{◌≡◌, ℕ, ◌<◌, ◌≤◌, List, [], ◌∷◌, Bool, true, false, Option, Some, None, refl, sym, ◌∙◌, ap, subst, arith}
use Rattle.std.specs.Prelude.{if◌then◌else◌, nat_le}
use Rattle.std.specs.FinMap.{get}
use Rattle.std.proofs.lemmas.Bool.{le-leb, lt-leb}
use Rattle.recovery_model.proofs.Covering.{unsettled, changed_now, settled_now, Free, Sound, CoversForward, CoversBackward, SaveGives, Ascends, Kept}
use Rattle.recovery_model.proofs.BranchLemmas.{on_top_none}
use Rattle.recovery_model.proofs.PositionLemmas.{entry_counts}
use Rattle.recovery_model.proofs.TimelineLemmas.{sound_changed, sound_settled, sound_rebased, sound_passed}
use Rattle.recovery_model.proofs.CoverLemmas.{forward_changed, forward_settled, backward_changed, backward_settled, backward_passed, forward_passed, saved, new_span}

-- no unsettled branch changed the file
abbrev pub Unchanged : FileState → Type 0
Unchanged f = (s : Id) → unsettled f.timeline.history.live s ≡ []

ascends_append : (tid : Id) (e : Entry) (j : ImageJournal) (on : Bool) → j.on ≡ on → Ascends j.end j.entries → Ascends (append tid e j).end (append tid e j).entries
ascends_append tid e j true on h = rw on (let x = entry_counts e in omega arith, h)
ascends_append tid e j false on h = rw on h

rest_false : (b x : Bool) → (if b then true else x) ≡ false → x ≡ false
rest_false true x h = let no : ⊥ = cc in absurd no
rest_false false x h = h

swapped : (b x y : Bool) → (if b then true else x) ≡ false → y ≡ false → (if b then true else y) ≡ false
swapped true x y h k = h
swapped false x y h k = k

settled_head : (s : Id) (e : Entry) (es : List Entry) → is_settled (e ∷ es) s ≡ false → is_settled es s ≡ false
settled_head s (Changed r k v) es h = h
settled_head s (Settled r c t) es h = rest_false _ (is_settled es s) h

settled_front : (s : Id) (e : Entry) (es fs : List Entry) → is_settled (e ∷ es) s ≡ false → is_settled fs s ≡ false → is_settled (e ∷ fs) s ≡ false
settled_front s (Changed r k v) es fs h k' = k'
settled_front s (Settled r c t) es fs h k' = swapped _ (is_settled es s) (is_settled fs s) h k'

settled_in : (s : Id) (e : Entry) (es fs : List Entry) (b : Bool) → is_settled (e ∷ es) s ≡ false → is_settled fs s ≡ false → is_settled (if b then e ∷ fs else []) s ≡ false
settled_in s e es fs true h k = settled_front s e es fs h k
settled_in s e es fs false h k = refl

settled_since : (p : ℕ) (s : Id) (xs : List Placed) → is_settled (all_of xs) s ≡ false → is_settled (since p xs) s ≡ false
settled_since p s [] h = refl
settled_since p s (x ∷ xs) h = settled_in s x.entry (all_of xs) (since p xs) (nat_le p x.at) h (settled_since p s xs (settled_head s x.entry (all_of xs) h))

pub end_up : (tid : Id) (e : Entry) (j : ImageJournal) (v : ℕ) (on : Bool) → j.on ≡ on → v ≤ j.end → v ≤ (append tid e j).end
end_up tid e j v true on h = rw on (omega arith)
end_up tid e j v false on h = rw on h

pub since_append : (tid : Id) (e : Entry) (j : ImageJournal) (p : ℕ) → j.on ≡ true → p ≤ j.end → since p (append tid e j).entries ≡ e ∷ since p j.entries
since_append tid e j p on h = rw on (if_true (nat_le p j.end) _ _ (le-leb p j.end h))

pub all_append : (tid : Id) (e : Entry) (j : ImageJournal) → j.on ≡ true → all_of (append tid e j).entries ≡ e ∷ all_of j.entries
all_append tid e j on = rw on refl

pub first_append : (tid : Id) (e : Entry) (j : ImageJournal) (on : Bool) → j.on ≡ on → (append tid e j).first ≡ j.first
first_append tid e j true on = rw on refl
first_append tid e j false on = rw on refl

pub on_append : (tid : Id) (e : Entry) (j : ImageJournal) (on : Bool) → j.on ≡ on → (append tid e j).on ≡ true → j.on ≡ true
on_append tid e j true on h = on
on_append tid e j false on h = let same : (append tid e j).on ≡ j.on = rw on refl in sym same ∙ h

-- what one entry more does to what the save gives
save_append : (may : Id → Bool) (g t : ℕ) (tid : Id) (e : Entry) (j : ImageJournal) (sv : Option Save) (h k : Timeline) →
    ((p : ℕ) (start : Records) (from : ℕ) → CoversForward may (since p j.entries) start from g h → CoversForward may (e ∷ since p j.entries) start from t k) → SaveGives may g j sv h → SaveGives may t (append tid e j) sv k
save_append may g t tid e j None h k step w = tt
save_append may g t tid e j (Some v) h k step w = (
  end_up tid e j v.position j.on refl w.0,
  λ on cov.
      let old : j.on ≡ true = on_append tid e j j.on refl on in
      let low : j.first ≤ v.position = subst (λ x. x ≤ v.position) (first_append tid e j j.on refl) cov in
      subst (λ es. CoversForward may es v.records v.moment t k) (sym (since_append tid e j v.position old w.0)) (step v.position v.records v.moment (w.1 old low)),
)

pub change_keeps : (may : Id → Bool) (g : ℕ) (tid s : Id) (c : Change) (f : FileState) → IsOpenIn s f → c.before ≡ get (applied (unsettled f.timeline.history.live s) (records_at f.timeline None)) c.key → Free c.key s (unsettled f.timeline.history.live) →
    Kept may g f → Kept may g (changed_file tid s c f)
change_keeps may g tid s c f open_in found free w = record {
  sound = sound_changed g f.timeline s c found free w.sound;
  ai_ascends = ascends_append tid (Changed s c.key c.after) f.ai f.ai.on refl w.ai_ascends;
  bi_ascends = ascends_append tid (Changed s c.key c.before) f.bi f.bi.on refl w.bi_ascends;
  save = save_append may g g tid (Changed s c.key c.after) f.ai f.save f.timeline (changed_now s c f.timeline)
      (λ p start from x. forward_changed may (since p f.ai.entries) start from g f.timeline s c (settled_since p s f.ai.entries open_in.0) free x) w.save;
  bi = λ on. let old : f.bi.on ≡ true = on_append tid (Changed s c.key c.before) f.bi f.bi.on refl on in
      subst (λ es. CoversBackward es f.bi_since g (changed_now s c f.timeline)) (sym (all_append tid (Changed s c.key c.before) f.bi old)) (backward_changed (all_of f.bi.entries) f.bi_since g f.timeline s c open_in.1 found free (w.bi old));
}

-- a file after a branch is settled that changed it
abbrev pub settled_row : (tid serial : Id) → Outcome → ℕ → FileState → FileState
settled_row tid s outcome t f = record f { timeline = settled_now s outcome t f.timeline; ai = append tid (Settled s outcome t) f.ai; bi = append tid (Settled s outcome t) f.bi }

none_if : (cs : List Change) → (elim (cs) [ [] ↦ false | c ∷ more ↦ true ]) ≡ false → cs ≡ []
none_if [] e = refl
none_if (c ∷ cs) e = let no : ⊥ = cc in absurd no

pub still : (f : FileState) → IsStill f → Unchanged f
still f h s = none_if (unsettled f.timeline.history.live s) (h s)

settled_some : (h : History) (s : Id) (outcome : Outcome) (t : ℕ) (cs : List Change) → (elim (cs) [ [] ↦ false | c ∷ more ↦ true ]) ≡ true →
    settled_with s outcome t cs h ≡ record h { settled = record { serial = s; outcome = outcome; moment = t; changes = cs } ∷ h.settled; live = without s h.live }
settled_some h s outcome t [] e = let no : ⊥ = cc in absurd no
settled_some h s outcome t (c ∷ cs) e = refl

-- what a settlement is to a file, by whether its branch changed it
pub settled_is : (tid s : Id) (outcome : Outcome) (t : ℕ) (f : FileState) (b : Bool) → changed_it f.timeline.history s ≡ b → settled_file tid s outcome t f ≡ (if b then settled_row tid s outcome t f else f)
settled_is tid s outcome t f true e =
    rw e (ap (λ x. record (settled_row tid s outcome t f) { timeline = record f.timeline { history = x } }) (settled_some f.timeline.history s outcome t (unsettled f.timeline.history.live s) e))
settled_is tid s outcome t f false e = rw e refl

pub settle_keeps : (may : Id → Bool) (g : ℕ) (tid s : Id) (outcome : Outcome) (t : ℕ) (f : FileState) → g < t → (outcome ≡ Commit → may s ≡ true) → IsOpenIn s f →
    Kept may g f → Kept may t (settled_row tid s outcome t f)
settle_keeps may g tid s outcome t f l y open_in w = record {
  sound = sound_settled g f.timeline s outcome t l w.sound;
  ai_ascends = ascends_append tid (Settled s outcome t) f.ai f.ai.on refl w.ai_ascends;
  bi_ascends = ascends_append tid (Settled s outcome t) f.bi f.bi.on refl w.bi_ascends;
  save = save_append may g t tid (Settled s outcome t) f.ai f.save f.timeline (settled_now s outcome t f.timeline)
      (λ q start from x. forward_settled may (since q f.ai.entries) start from g f.timeline s outcome t (let z = w.sound.start in omega arith) l y (settled_since q s f.ai.entries open_in.0) x) w.save;
  bi = λ on. let old : f.bi.on ≡ true = on_append tid (Settled s outcome t) f.bi f.bi.on refl on in
      subst (λ es. CoversBackward es f.bi_since t (settled_now s outcome t f.timeline)) (sym (all_append tid (Settled s outcome t) f.bi old)) (backward_settled (all_of f.bi.entries) f.bi_since g f.timeline s outcome t l open_in.1 w.sound (w.bi old));
}

save_passed : (may : Id → Bool) (g t : ℕ) (j : ImageJournal) (sv : Option Save) (h : Timeline) → g ≤ t → SaveGives may g j sv h → SaveGives may t j sv h
save_passed may g t j None h l w = tt
save_passed may g t j (Some v) h l w = (w.0, λ on cov. forward_passed may (since v.position j.entries) v.records v.moment g t h l (w.1 on cov))

-- a settlement of a branch that did not change the file
pub pass_keeps : (may : Id → Bool) (g t : ℕ) (f : FileState) → g ≤ t → Kept may g f → Kept may t f
pass_keeps may g t f l w = record {
  sound = sound_passed g t f.timeline l w.sound;
  ai_ascends = w.ai_ascends;
  bi_ascends = w.bi_ascends;
  save = save_passed may g t f.ai f.save f.timeline l w.save;
  bi = λ on. backward_passed (all_of f.bi.entries) f.bi_since g t f.timeline l (w.bi on);
}

pub span_up : (end : ℕ) → end < next_span end
span_up end = omega arith

save_renewed : (may : Id → Bool) (g start blocks : ℕ) (j : ImageJournal) (sv : Option Save) (h k : Timeline) → SaveGives may g j sv h → SaveGives may g (renewed start blocks j) sv k
save_renewed may g start blocks j None h k w = tt
save_renewed may g start blocks j (Some v) h k w = (let x = span_up j.end in let y = w.0 in omega arith, λ on cov. let x = span_up j.end in let y = w.0 in absurd (omega arith))

save_ended : (may : Id → Bool) (g : ℕ) (j : ImageJournal) (sv : Option Save) (h : Timeline) → SaveGives may g j sv h → SaveGives may g (ended j) sv h
save_ended may g j None h w = tt
save_ended may g j (Some v) h w = (w.0, λ on cov. let no : ⊥ = cc in absurd no)

pub ai_keeps : (may : Id → Bool) (g start blocks : ℕ) (f : FileState) → Kept may g f → Kept may g (record f { ai = renewed start blocks f.ai })
ai_keeps may g start blocks f w = record { sound = w.sound; ai_ascends = tt; bi_ascends = w.bi_ascends; save = save_renewed may g start blocks f.ai f.save f.timeline f.timeline w.save; bi = w.bi }

pub noai_keeps : (may : Id → Bool) (g : ℕ) (f : FileState) → Kept may g f → Kept may g (record f { ai = ended f.ai })
noai_keeps may g f w = record { sound = w.sound; ai_ascends = tt; bi_ascends = w.bi_ascends; save = save_ended may g f.ai f.save f.timeline w.save; bi = w.bi }

pub bi_keeps : (may : Id → Bool) (g start blocks : ℕ) (f : FileState) → Unchanged f → Kept may g f → Kept may g (record f { bi = renewed start blocks f.bi; bi_since = g })
bi_keeps may g start blocks f n w = record { sound = w.sound; ai_ascends = w.ai_ascends; bi_ascends = tt; save = w.save; bi = λ on. new_span g f.timeline n w.sound }

pub nobi_keeps : (may : Id → Bool) (g : ℕ) (f : FileState) → Kept may g f → Kept may g (record f { bi = ended f.bi })
nobi_keeps may g f w = record { sound = w.sound; ai_ascends = w.ai_ascends; bi_ascends = tt; save = w.save; bi = λ on. let no : ⊥ = cc in absurd no }

pub nothing_since : (end : ℕ) (xs : List Placed) → Ascends end xs → since end xs ≡ []
nothing_since end [] h = refl
nothing_since end (x ∷ xs) h = if_false (nat_le end x.at) _ _ (lt-leb end x.at h.0)

pub backup_keeps : (may : Id → Bool) (g start buckets : ℕ) (f : FileState) → Unchanged f → Kept may g f → Kept may g (saved_file start buckets g f)
backup_keeps may g start buckets f n w = record {
  sound = w.sound;
  ai_ascends = w.ai_ascends;
  bi_ascends = w.bi_ascends;
  save = (
    omega arith,
    λ on cov. subst (λ es. CoversForward may es (current f.timeline.history) g g f.timeline) (sym (nothing_since f.ai.end f.ai.entries w.ai_ascends))
        (subst (λ m. CoversForward may [] m g g f.timeline) (sym (on_top_none f.timeline.history.live (records f.timeline.history) w.sound.one n)) (saved may g f.timeline n w.sound)),
  );
  bi = w.bi;
}

renewed_ascends : (j : ImageJournal) (on : Bool) → j.on ≡ on → Ascends j.end j.entries → Ascends (renewed_if_on j).end (renewed_if_on j).entries
renewed_ascends j true on h = rw on tt
renewed_ascends j false on h = rw on h

save_recovered : (may : Id → Bool) (g : ℕ) (j : ImageJournal) (sv : Option Save) (h k : Timeline) (on : Bool) → j.on ≡ on → SaveGives may g j sv h → SaveGives may g (renewed_if_on j) sv k
save_recovered may g j sv h k true on w = rw on (save_renewed may g j.start j.blocks j sv h k w)
save_recovered may g j None h k false on w = tt
save_recovered may g j (Some v) h k false on w = rw on (w.0, λ x cov. let no : ⊥ = cc in absurd no)

bi_recovered : (g : ℕ) (m : Records) (f : FileState) (on : Bool) → f.bi.on ≡ on → Unchanged f → Sound g f.timeline → (renewed_if_on f.bi).on ≡ true → CoversBackward (all_of (renewed_if_on f.bi).entries) (if f.bi.on then g else f.bi_since) g (rebased m g f.timeline)
bi_recovered g m f true on n w = rw on (λ x. new_span g (rebased m g f.timeline) n (sound_rebased g f.timeline m n w))
bi_recovered g m f false on n w = λ x. let same : (renewed_if_on f.bi).on ≡ f.bi.on = rw on refl in let no : ⊥ = cc in absurd no

-- the map may be any: it is the base from here on
pub recover_keeps : (may : Id → Bool) (g : ℕ) (m : Records) (f : FileState) → Unchanged f → Kept may g f → Kept may g (recovered_file m g f)
recover_keeps may g m f n w = record {
  sound = sound_rebased g f.timeline m n w.sound;
  ai_ascends = renewed_ascends f.ai f.ai.on refl w.ai_ascends;
  bi_ascends = renewed_ascends f.bi f.bi.on refl w.bi_ascends;
  save = save_recovered may g f.ai f.save f.timeline (rebased m g f.timeline) f.ai.on refl w.save;
  bi = bi_recovered g m f f.bi.on refl n w.sound;
}

pub create_keeps : (may : Id → Bool) (g : ℕ) (past : ℕ → Records) → Kept may g (created g past)
create_keeps may g past = record {
  sound = record { start = omega arith; moments = tt; one = tt; found = λ s. tt; apart = λ k r s x y. let no : ⊥ = cc in absurd no };
  ai_ascends = tt;
  bi_ascends = tt;
  save = tt;
  bi = λ on. let no : ⊥ = cc in absurd no;
}
