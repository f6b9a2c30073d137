-- All that is kept of a file by acts, one after another; and what is left is what the next run may find.
use Rattle.std.proofs.Common.{◌≡◌, ℕ, List, [], ◌∷◌, Bool, true, Option, Some, None, refl, sym, ◌∙◌, ap, subst}
use Rattle.std.specs.FinMap.{empty, get}
use Rattle.unit_laws.specs.vms_model.Ids.{Id}
use Rattle.unit_laws.specs.vms_model.Keys.{Key}
use Rattle.unit_laws.specs.records_model.Records.{Records, Change, applied}
use Rattle.unit_laws.specs.records_model.History.{records}
use Rattle.unit_laws.proofs.records_model.SlotLaws.{if_true}
use Rattle.recovery_model.specs.Images.{Image, afters, touches, newest}
use Rattle.recovery_model.specs.Journal.{images_by}
use Rattle.recovery_model.specs.Timeline.{Timeline}
use Rattle.recovery_model.specs.File.{ImageJournal, Save, FileState, since, IsCovering, created}
use Rattle.recovery_model.specs.Opening.{TellsSinceSave, IsSaved, IsLawful, IsOpening, MayCommit, as_found}
use Rattle.recovery_model.specs.Acts.{Act, file_after, greatest_after, MayDo, Leads}
use Rattle.recovery_model.proofs.Images.{sets}
use Rattle.recovery_model.proofs.Covering.{unsettled, SaveGives, Kept}
use Rattle.recovery_model.proofs.ImageLemmas.{applied-sets}
use Rattle.recovery_model.proofs.OldestLemmas.{get-sets_newest}
use Rattle.recovery_model.proofs.FileLemmas.{create_keeps}
use Rattle.recovery_model.proofs.ActLemmas.{act_keeps}
use Rattle.recovery_model.proofs.OpeningLemmas.{same_touches, apart_out, found_keeps}
use Rattle.recovery_model.proofs.LeftLemmas.{SaveTold, Told, act_told, found_told}
use Rattle.recovery_model.proofs.OrderLemmas.{SaveStands, Ordered, act_ordered, found_ordered, created_ordered}

pub record Holds (may : Id → Bool) (g : ℕ) (f : FileState) : Type 0 where
  pub kept : Kept may g f
  pub told : Told f
  pub ordered : Ordered g f

act_holds : (may : Id → Bool) (a : Act) (g : ℕ) (f : FileState) → MayDo may a g f → Holds may g f → Holds may (greatest_after a g) (file_after a g f)
act_holds may a g f m w = record { kept = act_keeps may a g f m w.ordered w.kept; told = act_told may a g f m w.kept w.told; ordered = act_ordered may a g f m w.kept.sound.one w.ordered }

pub acts_hold : (may : Id → Bool) (acts : List Act) (g : ℕ) (f : FileState) (n : ℕ) (e : FileState) → Leads may acts g f n e → Holds may g f → Holds may n e
acts_hold may [] g f n e l w = rw (l.0, l.1) w
acts_hold may (a ∷ acts) g f n e l w = rw (l.4, l.5) (act_holds may a l.0 l.1 l.3 (acts_hold may acts g f l.0 l.1 l.2 w))

pub found_holds : (may waits : Id → Bool) (g : ℕ) (f : FileState) → MayCommit may waits f → IsOpening waits g f → Holds may g f
found_holds may waits g f c a = record { kept = found_keeps may waits g f c a; told = found_told waits g f a.lawful; ordered = found_ordered waits g f a.lawful }

pub created_holds : (may : Id → Bool) (g : ℕ) (past : ℕ → Records) → Holds may g (created g past)
created_holds may g past = record { kept = create_keeps may g past; told = tt; ordered = created_ordered g past }

-- What is left is lawful.

-- the newest image of a key, where images do what changes do
last_image : (is : List Image) (cs : List Change) (q : Key) → touches q is ≡ true → touches q (afters cs) ≡ true → ((m : Records) → sets is m ≡ applied cs m) → newest q is ≡ newest q (afters cs)
last_image is cs q a b e =
    sym (if_true (touches q is) (newest q is) (get empty q) a) ∙ sym (get-sets_newest is empty q) ∙ ap (λ m. get m q) (e empty ∙ applied-sets cs empty) ∙
    get-sets_newest (afters cs) empty q ∙ if_true (touches q (afters cs)) (newest q (afters cs)) (get empty q) b

told_known : (f : FileState) (v : Save) → f.save ≡ Some v → Told f → SaveTold f.ai (Some v) f.timeline.history.live
told_known f v e w = subst (λ x. SaveTold f.ai x f.timeline.history.live) e w

stands_known : (g : ℕ) (f : FileState) (v : Save) → f.save ≡ Some v → Ordered g f → IsSaved g f.ai v
stands_known g f v e w = subst (λ x. SaveStands g f.ai x) e w.saved

save_known : (may : Id → Bool) (g : ℕ) (j : ImageJournal) (sv : Option Save) (h : Timeline) (v : Save) → sv ≡ Some v → SaveGives may g j sv h → SaveGives may g j (Some v) h
save_known may g j sv h v e w = subst (λ x. SaveGives may g j x h) e w

by_save_left : (may waits : Id → Bool) (g : ℕ) (f : FileState) (v : Save) → ((s : Id) → waits s ≡ true → may s ≡ true) → SaveGives may g f.ai (Some v) f.timeline → SaveTold f.ai (Some v) f.timeline.history.live → f.ai.on ≡ true → IsCovering f.ai v →
    TellsSinceSave waits g (records f.timeline.history) f.timeline.history.live (since v.position f.ai.entries) v
by_save_left may waits g f v n k w on cov =
    let x = k.1 on cov in
    let y = w.1 on cov in
    record {
      locked = y.locked;
      low = x.low;
      same = y.same;
      last = λ s q u a t. last_image (images_by s (since v.position f.ai.entries)) (unsettled f.timeline.history.live s) q t (sym (same_touches (images_by s (since v.position f.ai.entries)) (afters (unsettled f.timeline.history.live s)) q (y.same s u)) ∙ t) (λ m. x.ties.holds s m u (n s a));
      ends = x.gives None tt;
    }

left_lawful : (may waits : Id → Bool) (g : ℕ) (f : FileState) → ((s : Id) → waits s ≡ true → may s ≡ true) → Holds may g f → IsLawful waits g f
left_lawful may waits g f n w = let k = w.kept in let o = w.ordered in record {
  found = k.sound.found;
  apart = apart_out f.timeline.history.live k.sound.apart;
  one = k.sound.one;
  ai_order = o.ai_order;
  bi_order = o.bi_order;
  ai_room = λ on. (o.ai on).room;
  bi_room = λ on. (o.bi on).room;
  ai_branches = λ on. (o.ai on).branches;
  bi_branches = λ on. (o.bi on).branches;
  ai_keys = λ on. (o.ai on).keys;
  bi_found = o.bi_found;
  begun = o.since;
  saved = λ v e. stands_known g f v e o;
  by_save = λ v e on cov. by_save_left may waits g f v n (save_known may g f.ai f.save f.timeline v e k.save) (told_known f v e w.told) on cov;
  both = λ v u e on cov back l m. ((save_known may g f.ai f.save f.timeline v e k.save).1 on cov).gives (Some u) l ∙ sym ((k.bi back).gives u m);
}

-- the next run finds it with the same records and the same unsettled branches
pub left_found : (may waits : Id → Bool) (g : ℕ) (f : FileState) → ((s : Id) → waits s ≡ true → may s ≡ true) → Holds may g f → IsOpening waits g (as_found g f)
left_found may waits g f n w = let x = left_lawful may waits g f n w in record {
  settled = refl;
  moment = refl;
  past = refl;
  lawful = record {
    found = x.found;
    apart = x.apart;
    one = x.one;
    ai_order = x.ai_order;
    bi_order = x.bi_order;
    ai_room = x.ai_room;
    bi_room = x.bi_room;
    ai_branches = x.ai_branches;
    bi_branches = x.bi_branches;
    ai_keys = x.ai_keys;
    bi_found = x.bi_found;
    begun = x.begun;
    saved = x.saved;
    by_save = x.by_save;
    both = x.both;
  };
}
