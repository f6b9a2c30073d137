-- Each act has no effect or one, so that a front of the effects is that of a front of the acts.
use Rattle.std.specs.Prelude.{if◌then◌else◌}
use Rattle.std.proofs.Common.{◌≡◌, Bool, true, false, List, [], ◌∷◌, ◌++◌, ◌⊎◌, inl, inr, refl, ap, sym, ◌∙◌}
use Rattle.commit_protocol.specs.Messages.{LogRecord}
use Rattle.commit_protocol.specs.Table.{Act, Key, Notes, Accepts, Prepares, Settles, Leaves, Acknowledges, Releases, Undoes, Sends, Prints, records_after, waits_for, holds, acknowledged, released, nothing_left}
use Rattle.commit_protocol.specs.Effects.{Effect, KeepEffect, ForgetEffect, record_effects, acknowledge_effects, release_effects, act_effects, effects_of}
use Rattle.commit_protocol.specs.vms_model.Ids.{Id}
use Rattle.commit_protocol.specs.Messages.{Name}
use Rattle.log_laws.specs.Handing.{HandsOn}

-- no effect, or one
abbrev Few : List Effect → Type 0
Few es = (es ≡ []) ⊎ ((x : Effect) × (es ≡ x ∷ []))

few_record : (r : LogRecord) → Few (record_effects r)
few_record r = go (nothing_left r.waiting r.rms)
  where
    go : (b : Bool) → Few (if b then ForgetEffect r.serial ∷ [] else KeepEffect r ∷ [])
    go true = inr (ForgetEffect r.serial, refl)
    go false = inr (KeepEffect r, refl)

few_acknowledge : (k : Key) (rs : List LogRecord) → Few (acknowledge_effects k rs)
few_acknowledge k [] = inl refl
few_acknowledge k (r ∷ rs) = go (waits_for k r) (few_acknowledge k rs)
  where
    go : (b : Bool) → Few (acknowledge_effects k rs) → Few (if b then record_effects (acknowledged k r) else acknowledge_effects k rs)
    go true more = few_record (acknowledged k r)
    go false more = more

few_release : (s : Id) (x : Name) (rs : List LogRecord) → Few (release_effects s x rs)
few_release s x [] = inl refl
few_release s x (r ∷ rs) = go (holds s x r) (few_release s x rs)
  where
    go : (b : Bool) → Few (release_effects s x rs) → Few (if b then record_effects (released x r) else release_effects s x rs)
    go true more = few_record (released x r)
    go false more = more

few : (a : Act) (rs : List LogRecord) → Few (act_effects a rs)
few (Notes b) rs = inl refl
few (Accepts b c) rs = inr (_, refl)
few (Prepares b) rs = inr (_, refl)
few (Settles k o reason r) rs = inr (_, refl)
few (Leaves k) rs = inr (_, refl)
few (Acknowledges k) rs = few_acknowledge k rs
few (Releases s x) rs = few_release s x rs
few (Undoes k) rs = inl refl
few (Sends m) rs = inr (_, refl)
few (Prints l) rs = inr (_, refl)

-- an act more before
hands_after : (a : Act) (acts : List Act) (rs : List LogRecord) (given before : List Effect) (e : Effect) (after : List Effect) → act_effects a rs ≡ given → HandsOn acts (records_after a rs) before e after → HandsOn (a ∷ acts) rs (given ++ before) e after
hands_after a acts rs given before e after is h = record {
  done = a ∷ h.done;
  act = h.act;
  rest = h.rest;
  parts = ap (λ xs. a ∷ xs) h.parts;
  gave = (λ i. is i ++ h.gave i);
  gives = h.gives;
  left = h.left;
}

abbrev head_of : Effect → List Effect → Effect
head_of d [] = d
head_of d (x ∷ xs) = x

abbrev tail_of : List Effect → List Effect
tail_of [] = []
tail_of (x ∷ xs) = xs

pub effects_are_acts : (acts : List Act) (rs : List LogRecord) (before : List Effect) (e : Effect) (after : List Effect) → effects_of acts rs ≡ before ++ e ∷ after → HandsOn acts rs before e after
effects_are_acts [] rs [] e after h = absurd cc
effects_are_acts [] rs (x ∷ before) e after h = absurd cc
effects_are_acts (a ∷ acts) rs before e after h = elim (few a rs) [
  | inl none ↦ hands_after a acts rs [] before e after none (effects_are_acts acts (records_after a rs) before e after (sym (ap (λ es. es ++ effects_of acts (records_after a rs)) none) ∙ h))
  | inr one ↦ first before one.0 one.1 (sym (ap (λ es. es ++ effects_of acts (records_after a rs)) one.1) ∙ h) (λ bs k. effects_are_acts acts (records_after a rs) bs e after k)
]
  where
    first : (bs : List Effect) (x : Effect) → act_effects a rs ≡ x ∷ [] → x ∷ effects_of acts (records_after a rs) ≡ bs ++ e ∷ after
        → ((cs : List Effect) → effects_of acts (records_after a rs) ≡ cs ++ e ∷ after → HandsOn acts (records_after a rs) cs e after) → HandsOn (a ∷ acts) rs bs e after
    first [] x is k more = record {
      done = [];
      act = a;
      rest = acts;
      parts = refl;
      gave = refl;
      gives = is ∙ (λ i. ap (head_of x) k i ∷ []);
      left = ap tail_of k;
    }
    first (y ∷ cs) x is k more = hands_after a acts rs (y ∷ []) cs e after (is ∙ (λ i. ap (head_of x) k i ∷ [])) (more cs (ap tail_of k))
