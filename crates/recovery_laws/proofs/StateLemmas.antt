-- What recovery knows of a file follows each act.
use Rattle.std.proofs.Common.{◌≡◌, ◌+◌, List, [], ◌∷◌, Bool, true, false, if◌then◌else◌, refl, ◌∙◌, ap}
use Rattle.vms_model.specs.Ids.{Id}
use Rattle.unit_laws.specs.records_model.Records.{Change}
use Rattle.unit_laws.specs.records_model.History.{changed_it, changed_with}
use Rattle.world_laws.specs.recovery_model.Journal as image
use Rattle.world_laws.specs.recovery_model.File.{FileState, ImageJournal, append}
use Rattle.world_laws.specs.run_model.World.{Carried, Settlement, changed_file, state_of, with_images, with_outcome}
use Rattle.world_laws.proofs.StateLemmas.{all_follow, half_follows, settled_follows}
use Rattle.recovery_laws.specs.States.{FilesFollow, MadeFilesBegin, UnmarkedCarryOn, after_settlement}

pub files_follow : FilesFollow
files_follow f = record {
  changes = all_follow f;
  directs = λ held s cs. settled_follows s _ (state_of (changed_file held s.tid s.serial cs f)) refl ∙ ap (after_settlement s) (all_follow f held s.tid s.serial cs);
  settles = λ s. settled_follows s _ (state_of f) refl;
  halves = λ serial standing g. ap (λ ls. let h : FileState = record (state_of f) { timeline = record { history = record f.history { live = ls }; past = f.past } } in h) (half_follows serial (standing f.name) f.history.live);
  units = λ units g. refl;
  begins_afters = λ start blocks g. refl;
  begins_befores = λ start blocks g. refl;
  ends_afters = λ g. refl;
  ends_befores = λ g. refl;
  saves = λ start g. refl;
  recovers = λ start buckets m g. refl;
}

pub made_files_begin : MadeFilesBegin
made_files_begin name bucket size form start moment = refl

-- Files that are not marked.

unmarked_append : (tid : Id) (e : image.Entry) (j : ImageJournal) → j.on ≡ false → append tid e j ≡ j
unmarked_append tid e j off = ap (λ b. if b then record j { end = j.end + image.entry_length e; entries = record { at = j.end; tid = tid; entry = e } ∷ j.entries } else j) off

unmarked_images : (tid serial : Id) (cs : List Change) (r : Carried) → r.after.on ≡ false → r.before.on ≡ false → with_images tid serial cs r ≡ r
unmarked_images tid serial [] r a b = refl
unmarked_images tid serial (c ∷ cs) r a b =
    (λ i. record (unmarked_images tid serial cs r a b i) {
      after = append tid (image.Changed serial c.key c.after) (unmarked_images tid serial cs r a b i).after;
      before = append tid (image.Changed serial c.key c.before) (unmarked_images tid serial cs r a b i).before;
    }) ∙ (λ i. record r { after = unmarked_append tid (image.Changed serial c.key c.after) r.after a i; before = unmarked_append tid (image.Changed serial c.key c.before) r.before b i })

unmarked_outcome : (changed : Bool) (s : Settlement) (r : Carried) → r.after.on ≡ false → r.before.on ≡ false → with_outcome changed s r ≡ r
unmarked_outcome false s r a b = refl
unmarked_outcome true s r a b =
    (λ i. record r { after = unmarked_append s.tid (image.Settled s.serial s.outcome s.moment) r.after a i; before = unmarked_append s.tid (image.Settled s.serial s.outcome s.moment) r.before b i })

pub unmarked_carry_on : UnmarkedCarryOn
unmarked_carry_on f u = record {
  changes = λ held tid serial cs. unmarked_images tid serial cs f.carried u.afters u.befores;
  directs = λ held s cs.
      ap (with_outcome (changed_it (changed_with s.serial cs f.history) s.serial) s) (unmarked_images s.tid s.serial cs f.carried u.afters u.befores)
      ∙ unmarked_outcome (changed_it (changed_with s.serial cs f.history) s.serial) s f.carried u.afters u.befores;
  settles = λ s. unmarked_outcome (changed_it f.history s.serial) s f.carried u.afters u.befores;
}
