-- The abort of a branch that was cut short keeps what is kept.
use Rattle.std.proofs.Common.{◌≡◌, ℕ, List, [], ◌∷◌, Bool, true, false, Option, Some, None, cond, refl, sym, ◌∙◌, ap, subst}
use Rattle.std.specs.List.{AllByRecursion}
use Rattle.std.specs.FinMap.{get}
use Rattle.unit_laws.specs.vms_model.Ids.{Id}
use Rattle.unit_laws.specs.vms_model.Keys.{Key}
use Rattle.unit_laws.specs.records_model.Records.{Records, Change, Found, applied}
use Rattle.unit_laws.specs.records_model.History.{LiveChanges, same_id, changes_by, records}
use Rattle.unit_laws.proofs.records_model.SlotLaws.{if_true, if_false}
use Rattle.unit_laws.specs.Units.{SerialsDiffer}
use Rattle.unit_laws.proofs.LiveLemmas.{id_is}
use Rattle.recovery_model.specs.Images.{Image, afters, befores, touches, keys_of}
use Rattle.recovery_model.specs.Journal.{Entry, images_by}
use Rattle.recovery_model.specs.Timeline.{Timeline, records_at}
use Rattle.recovery_model.specs.File.{ImageJournal, Save, FileState, with_its, half_aborted, all_of, since}
use Rattle.recovery_model.specs.Acts.{MayHalfAbort}
use Rattle.recovery_model.proofs.Images.{changes, unsets}
use Rattle.recovery_model.proofs.Covering.{unsettled, Sound, TiesForward, TiesBackward, SaveGives, Kept}
use Rattle.recovery_model.proofs.ImageLemmas.{touches-befores}
use Rattle.recovery_model.proofs.OldestLemmas.{oldest, get-unsets_oldest, backward_tie}
use Rattle.recovery_model.proofs.TellingLemmas.{ToldKeys}

-- The changes of each branch then.

pub no_befores : (cs : List Change) → befores cs ≡ [] → cs ≡ []
no_befores [] e = refl
no_befores (c ∷ cs) e = let no : ⊥ = cc in absurd no

pub its_other : (s r : Id) (cs : List Change) (bs : List LiveChanges) → same_id r s ≡ false → unsettled (with_its s cs bs) r ≡ unsettled bs r
its_other s r cs [] other = refl
its_other s r cs (b ∷ bs) other = step (same_id s b.serial) refl (its_other s r cs bs other)
  where
    away : same_id s b.serial ≡ true → same_id r b.serial ≡ false
    away is = subst (λ (x : Id). same_id r x ≡ false) (id_is s b.serial is) other

    pick : (y : Bool) → y ≡ false → cond y cs (changes_by r bs) ≡ cond y b.changes (changes_by r bs)
    pick true e = absurd cc
    pick false e = refl

    either : (y : Bool) (u v : List Change) → u ≡ v → cond y b.changes u ≡ cond y b.changes v
    either true u v e = refl
    either false u v e = e

    step : (x : Bool) → same_id s b.serial ≡ x → changes_by r (with_its s cs bs) ≡ changes_by r bs → changes_by r (cond x (record b { changes = cs } ∷ bs) (b ∷ with_its s cs bs)) ≡ cond (same_id r b.serial) b.changes (changes_by r bs)
    step true is later = pick (same_id r b.serial) (away is)
    step false is later = either (same_id r b.serial) _ _ later

pub its_own : (s : Id) (cs : List Change) (bs : List LiveChanges) → befores cs ≡ befores (unsettled bs s) → unsettled (with_its s cs bs) s ≡ cs
its_own s cs [] e = sym (no_befores cs e)
its_own s cs (b ∷ bs) e = step (same_id s b.serial) refl (its_own s cs bs)
  where
    step : (x : Bool) → same_id s b.serial ≡ x → (befores cs ≡ befores (changes_by s bs) → changes_by s (with_its s cs bs) ≡ cs) → changes_by s (cond x (record b { changes = cs } ∷ bs) (b ∷ with_its s cs bs)) ≡ cs
    step true is later = if_true (same_id s b.serial) cs (changes_by s bs) is
    step false is later = if_false (same_id s b.serial) b.changes (changes_by s (with_its s cs bs)) is ∙ later (e ∙ ap befores (if_false (same_id s b.serial) b.changes (changes_by s bs) is))

-- each branch changed the same keys and found the same
pub its_befores : (s r : Id) (cs : List Change) (bs : List LiveChanges) (b : Bool) → same_id r s ≡ b → befores cs ≡ befores (unsettled bs s) → befores (unsettled (with_its s cs bs) r) ≡ befores (unsettled bs r)
its_befores s r cs bs true is e =
    let p : r ≡ s = id_is r s is in
    ap (λ x. befores (unsettled (with_its s cs bs) x)) p ∙ ap befores (its_own s cs bs e) ∙ e ∙ ap (λ x. befores (unsettled bs x)) (sym p)
its_befores s r cs bs false is e = ap befores (its_other s r cs bs is)

pub keys_befores : (cs : List Change) → keys_of (befores cs) ≡ keys_of (afters cs)
keys_befores [] = refl
keys_befores (c ∷ cs) = ap (λ ks. c.key ∷ ks) (keys_befores cs)

pub its_keys : (s r : Id) (cs : List Change) (bs : List LiveChanges) → befores cs ≡ befores (unsettled bs s) → keys_of (afters (unsettled (with_its s cs bs) r)) ≡ keys_of (afters (unsettled bs r))
its_keys s r cs bs e = sym (keys_befores (unsettled (with_its s cs bs) r)) ∙ ap keys_of (its_befores s r cs bs (same_id r s) refl e) ∙ keys_befores (unsettled bs r)

pub its_changes : (s r : Id) (cs : List Change) (bs : List LiveChanges) (k : Key) → befores cs ≡ befores (unsettled bs s) → changes k (unsettled (with_its s cs bs) r) ≡ changes k (unsettled bs r)
its_changes s r cs bs k e = sym (touches-befores k (unsettled (with_its s cs bs) r)) ∙ ap (touches k) (its_befores s r cs bs (same_id r s) refl e) ∙ touches-befores k (unsettled bs r)

all_its : (P : Id → Type 0) (s : Id) (cs : List Change) (bs : List LiveChanges) → AllByRecursion (λ (l : LiveChanges). P l.serial) bs → AllByRecursion (λ (l : LiveChanges). P l.serial) (with_its s cs bs)
all_its P s cs [] h = tt
all_its P s cs (b ∷ bs) h = step (same_id s b.serial) (all_its P s cs bs h.1)
  where
    step : (x : Bool) → AllByRecursion (λ (l : LiveChanges). P l.serial) (with_its s cs bs) → AllByRecursion (λ (l : LiveChanges). P l.serial) (cond x (record b { changes = cs } ∷ bs) (b ∷ with_its s cs bs))
    step true later = (h.0, h.1)
    step false later = (h.0, later)

pub once_its : (s : Id) (cs : List Change) (bs : List LiveChanges) → SerialsDiffer bs → SerialsDiffer (with_its s cs bs)
once_its s cs [] h = tt
once_its s cs (b ∷ bs) h = step (same_id s b.serial) (once_its s cs bs h.1)
  where
    step : (x : Bool) → SerialsDiffer (with_its s cs bs) → SerialsDiffer (cond x (record b { changes = cs } ∷ bs) (b ∷ with_its s cs bs))
    step true later = (h.0, h.1)
    step false later = (all_its (λ (q : Id). same_id b.serial q ≡ false) s cs bs h.0, later)

-- What is kept.

-- a timeline then
abbrev half_now : Id → List Change → Timeline → Timeline
half_now s cs t = record t { history = record t.history { live = with_its s cs t.history.live } }

pub half_at : (s : Id) (cs : List Change) (t : Timeline) (u : Option ℕ) → records_at (half_now s cs t) u ≡ records_at t u
half_at s cs t None = refl
half_at s cs t (Some u) = refl

found_half : (s r : Id) (cs : List Change) (bs : List LiveChanges) (m : Records) (b : Bool) → same_id r s ≡ b → befores cs ≡ befores (unsettled bs s) → Found cs m → Found (unsettled bs r) m → Found (unsettled (with_its s cs bs) r) m
found_half s r cs bs m true is e f old = subst (λ x. Found x m) (sym (ap (unsettled (with_its s cs bs)) (id_is r s is) ∙ its_own s cs bs e)) f
found_half s r cs bs m false is e f old = subst (λ x. Found x m) (sym (its_other s r cs bs is)) old

sound_half : (may : Id → Bool) (g : ℕ) (s : Id) (cs : List Change) (f : FileState) → MayHalfAbort may s cs f → Sound g f.timeline → Sound g (half_now s cs f.timeline)
sound_half may g s cs f m w = record {
  start = w.start;
  moments = w.moments;
  one = once_its s cs f.timeline.history.live w.one;
  found = λ r. found_half s r cs f.timeline.history.live (records f.timeline.history) (same_id r s) refl m.same m.found (w.found r);
  apart = λ k r t x y. w.apart k r t (sym (its_changes s r cs f.timeline.history.live k m.same) ∙ x) (sym (its_changes s t cs f.timeline.history.live k m.same) ∙ y);
}

-- one that may commit is another
holds_half : (may : Id → Bool) (s r : Id) (cs : List Change) (bs : List LiveChanges) (x m : Records) (b : Bool) → same_id r s ≡ b → may s ≡ false → may r ≡ true → x ≡ applied (unsettled bs r) m → x ≡ applied (unsettled (with_its s cs bs) r) m
holds_half may s r cs bs x m true is off on h = let both : may s ≡ true = ap may (sym (id_is r s is)) ∙ on in let never : ⊥ = cc in absurd never
holds_half may s r cs bs x m false is off on h = h ∙ ap (λ y. applied y m) (sym (its_other s r cs bs is))

forward_half : (may : Id → Bool) (s : Id) (cs : List Change) (bs : List LiveChanges) (es : List Entry) → may s ≡ false → befores cs ≡ befores (unsettled bs s) → TiesForward may es (unsettled bs) → TiesForward may es (unsettled (with_its s cs bs))
forward_half may s cs bs es off e t = record {
  keys = λ r k u. t.keys r k u ∙ sym (its_changes s r cs bs k e);
  stands = t.stands;
  holds = λ r m u y. holds_half may s r cs bs _ m (same_id r s) refl off y (t.holds r m u y);
}

-- what images put back at a key that they touch
put_back : (is : List Image) (m total : Records) (q : Key) → unsets is m ≡ total → touches q is ≡ true → oldest q is ≡ get total q
put_back is m total q h t = sym (if_true (touches q is) (oldest q is) (get m q) t) ∙ sym (get-unsets_oldest is m q) ∙ ap (λ x. get x q) h

backward_half : (s : Id) (cs : List Change) (bs : List LiveChanges) (es : List Entry) (total : Records) → befores cs ≡ befores (unsettled bs s) → TiesBackward es (unsettled bs) total → TiesBackward es (unsettled (with_its s cs bs)) total
backward_half s cs bs es total e t = record {
  keys = λ r k u. t.keys r k u ∙ sym (its_changes s r cs bs k e);
  stands = t.stands;
  holds = λ r u. backward_tie (images_by r es) (unsettled (with_its s cs bs) r) total (λ q. t.keys r q u ∙ sym (its_changes s r cs bs q e)) (λ q. put_back (images_by r es) (applied (unsettled bs r) total) total q (t.holds r u));
}

save_half : (may : Id → Bool) (g : ℕ) (s : Id) (cs : List Change) (j : ImageJournal) (sv : Option Save) (t : Timeline) → may s ≡ false → befores cs ≡ befores (unsettled t.history.live s) → SaveGives may g j sv t → SaveGives may g j sv (half_now s cs t)
save_half may g s cs j None t off e w = tt
save_half may g s cs j (Some v) t off e w = (
  w.0,
  λ on cov. let x = w.1 on cov in record {
    ties = forward_half may s cs t.history.live (since v.position j.entries) off e x.ties;
    low = x.low;
    gives = λ u r. x.gives u r ∙ sym (half_at s cs t u);
  },
)

pub half_keeps : (may : Id → Bool) (g : ℕ) (s : Id) (cs : List Change) (f : FileState) → MayHalfAbort may s cs f → Kept may g f → Kept may g (half_aborted s cs f)
half_keeps may g s cs f m w = record {
  sound = sound_half may g s cs f m w.sound;
  ai_ascends = w.ai_ascends;
  bi_ascends = w.bi_ascends;
  save = save_half may g s cs f.ai f.save f.timeline m.aborts m.same w.save;
  bi = λ on. let x = w.bi on in record {
    ties = backward_half s cs f.timeline.history.live (all_of f.bi.entries) (records f.timeline.history) m.same x.ties;
    low = x.low;
    gives = λ u l. x.gives u l;
  };
}

-- What is told.

pub keys_half : (s : Id) (cs : List Change) (bs : List LiveChanges) (es : List Entry) → befores cs ≡ befores (unsettled bs s) → ToldKeys bs es → ToldKeys (with_its s cs bs) es
keys_half s cs bs es e t = record { locked = t.locked; same = λ r u. t.same r u ∙ sym (its_keys s r cs bs e) }
