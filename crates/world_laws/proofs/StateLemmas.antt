-- What recovery knows of a file follows each act of the world on it.
use Rattle.std.proofs.Common.{◌≡◌, ℕ, List, [], ◌∷◌, Bool, true, false, Option, if◌then◌else◌, cond, refl, sym, ◌∙◌, ap}
use Rattle.std.specs.List.{AllByRecursion}
use Rattle.std.specs.FinMap.{get}
use Rattle.vms_model.specs.Ids.{Id}
use Rattle.vms_model.specs.Keys.{Key}
use Rattle.run_model.specs.records_model.Records.{Change, Found, Records, applied}
use Rattle.run_model.specs.records_model.History.{History, LiveChanges, changed_it, changed_with, changes_by, current, on_top, same_id, settled_at, settled_with, with_changes}
use Rattle.run_model.proofs.records_model.RecordsLemmas.{get-set_key, same_key}
use Rattle.run_model.specs.unit_laws.Units.{Map, is_free, is_of}
use Rattle.run_model.proofs.unit_laws.CurrentLemmas.{current_change}
use Rattle.run_model.proofs.unit_laws.LiveLemmas.{by_change, free_changes}
use Rattle.run_model.specs.recovery_model.Journal as image
use Rattle.run_model.specs.recovery_model.File as recovery
use Rattle.run_model.specs.recovery_model.File.{FileState, IsOpenIn, append, with_its}
use Rattle.run_model.specs.recovery_model.Acts.{MayChange}
use Rattle.run_model.specs.recovery_model.Laws.{EachFits, all_changed}
use Rattle.run_model.specs.World.{File, Settlement, changed_file, leaving, live_leaving, state_of}

pub all_follow : (f : File) (held : Key → Bool) (tid serial : Id) (cs : List Change) → state_of (changed_file held tid serial cs f) ≡ all_changed tid serial cs (state_of f)
all_follow f held tid serial [] = refl
all_follow f held tid serial (c ∷ cs) = ap (recovery.changed_file tid serial c) (all_follow f held tid serial cs)

-- a file with these journals and history, once a branch was settled
pub settled_follows : (s : Settlement) (h : History) (f : FileState) → f.timeline.history ≡ h →
    (let g : FileState = record f {
      timeline = record f.timeline { history = settled_at s.serial s.outcome s.moment f.timeline.history };
      ai = if changed_it f.timeline.history s.serial then append s.tid (image.Settled s.serial s.outcome s.moment) f.ai else f.ai;
      bi = if changed_it f.timeline.history s.serial then append s.tid (image.Settled s.serial s.outcome s.moment) f.bi else f.bi;
    } in g) ≡ recovery.settled_file s.tid s.serial s.outcome s.moment f
settled_follows s h f is = go (changes_by s.serial f.timeline.history.live)
  where
    go : (cs : List Change) →
        (let b : Bool = elim cs [ [] ↦ false | c ∷ ds ↦ true ] in let g : FileState = record f {
          timeline = record f.timeline { history = settled_with s.serial s.outcome s.moment cs f.timeline.history };
          ai = if b then append s.tid (image.Settled s.serial s.outcome s.moment) f.ai else f.ai;
          bi = if b then append s.tid (image.Settled s.serial s.outcome s.moment) f.bi else f.bi;
        } in g)
        ≡ (if (elim cs as (λ x. Bool) [ [] ↦ false | c ∷ ds ↦ true ]) then (let g : FileState = record f {
          timeline = record f.timeline { history = settled_with s.serial s.outcome s.moment cs f.timeline.history };
          ai = append s.tid (image.Settled s.serial s.outcome s.moment) f.ai;
          bi = append s.tid (image.Settled s.serial s.outcome s.moment) f.bi;
        } in g) else f)
    go [] = refl
    go (c ∷ cs) = refl

pub half_follows : (serial : Id) (standing : Map) (ls : List LiveChanges) → live_leaving serial standing ls ≡ with_its serial (leaving standing [] (changes_by serial ls)) ls
half_follows serial standing [] = refl
half_follows serial standing (l ∷ ls) = go (same_id serial l.serial) (half_follows serial standing ls)
  where
    go : (b : Bool) → live_leaving serial standing ls ≡ with_its serial (leaving standing [] (changes_by serial ls)) ls →
        (if b then (let m : LiveChanges = record l { changes = leaving standing [] l.changes } in m) ∷ ls else l ∷ live_leaving serial standing ls)
        ≡ (if b then (let m : LiveChanges = record l { changes = leaving standing [] (if b then l.changes else changes_by serial ls) } in m) ∷ ls
        else l ∷ with_its serial (leaving standing [] (if b then l.changes else changes_by serial ls)) ls)
    go true more = refl
    go false more = ap (λ x. l ∷ x) more

-- Several changes of a branch are several acts.

-- what stands behind changes of keys that are free
current_changes : (s : Id) (cs : List Change) (ls : List LiveChanges) (m : Records) → AllByRecursion (λ (c : Change). is_free s ls c.key ≡ true) cs → (key : Key) → get (on_top (with_changes s cs ls) m) key ≡ get (applied cs (on_top ls m)) key
current_changes s [] ls m free key = refl
current_changes s (c ∷ cs) ls m free key =
    current_change s c (with_changes s cs ls) m key (λ is. free_changes s cs ls key ∙ ap (is_free s ls) (same_key key c.key is) ∙ free.0)
    ∙ ap (λ (v : Option (List ℕ)). cond (is_of key c) c.after v) (current_changes s cs ls m free.1 key) ∙ sym (get-set_key (applied cs (on_top ls m)) c.key key c.after)

module _ (tid s : Id) (f : FileState) where
  history_is : (cs : List Change) → (all_changed tid s cs f).timeline.history ≡ changed_with s cs f.timeline.history
  history_is [] = refl
  history_is (c ∷ cs) = ap (changed_with s (c ∷ [])) (history_is cs)

  -- what one change keeps that may be made, several do
  pub changes_keep : (P : FileState → Type 0) → ((c : Change) (e : FileState) → MayChange s c e → P e → P (recovery.changed_file tid s c e)) → (cs : List Change) → (changes_by s f.timeline.history.live ≡ [] → IsOpenIn s f) →
      AllByRecursion (λ (c : Change). is_free s f.timeline.history.live c.key ≡ true) cs → Found cs (current f.timeline.history) → EachFits tid s cs f → P f → P (all_changed tid s cs f)
  changes_keep P one [] begins free found fits h = h
  changes_keep P one (c ∷ cs) begins free found fits h = one c (all_changed tid s cs f) (record {
    begins = then_begins cs;
    found = found.0 ∙ sym (ap (λ h. get (current h) c.key) (history_is cs) ∙ current_changes s cs f.timeline.history.live _ free.1 c.key);
    free = ap (λ h. is_free s h.live c.key) (history_is cs) ∙ free_changes s cs f.timeline.history.live c.key ∙ free.0;
    fits = fits.0;
  }) (changes_keep P one cs begins free.1 found.1 fits.1 h)
    where
      then_begins : (cs : List Change) → changes_by s (all_changed tid s cs f).timeline.history.live ≡ [] → IsOpenIn s (all_changed tid s cs f)
      then_begins [] e = begins e
      then_begins (d ∷ ds) e =
          let some : ◌≡◌ {A = List Change} (d ∷ changes_by s (all_changed tid s ds f).timeline.history.live) [] = sym (by_change s d (all_changed tid s ds f).timeline.history.live) ∙ e in
          let none : ⊥ = cc in absurd none
