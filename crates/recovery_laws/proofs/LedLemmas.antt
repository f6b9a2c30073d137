-- What keeps files so that recovery can tell of them, and what follows.
use Rattle.std.proofs.Common.{◌≡◌, ◌⊎◌, ◌<◌, inl, inr, ℕ, List, [], ◌∷◌, Bool, true, Option, None, refl, sym, subst}
use Rattle.vms_model.specs.Ids.{Id}
use Rattle.vms_model.specs.Keys.{Key}
use Rattle.world_laws.specs.script_model.Statements.{AfterImages, BeforeImages}
use Rattle.unit_laws.specs.records_model.Records.{Change, Records}
use Rattle.unit_laws.specs.records_model.History.{changes_by, records}
use Rattle.unit_laws.specs.Units.{Map}
use Rattle.world_laws.specs.recovery_model.File.{FileState, IsStill}
use Rattle.world_laws.specs.recovery_model.Acts as act
use Rattle.world_laws.specs.recovery_model.Acts.{Act, MayDo, MayHalfAbort, file_after, greatest_after}
use Rattle.world_laws.specs.recovery_model.Laws.{RoomSuffices, all_changed}
use Rattle.world_laws.specs.recovery_model.Opening.{IsOpening, as_found}
use Rattle.world_laws.specs.recovery_model.Recovery.{IsUser, Way, records_by, refusal, rolled}
use Rattle.world_laws.proofs.recovery_model.Recoveries.{created_has_room, created_is_found, created_recovers, found_has_room, found_recovers, left_is_found}
use Rattle.world_laws.specs.run_model.World.{BeginsImages, EndsImages, File, ForUnits, Mark, Settlement, changed_file, directly_changed, half_undone, leaving, marked_file, recovered_file, saved_file, settled_file, state_of}
use Rattle.world_laws.specs.Entering.{MayEnterImages}
use Rattle.world_laws.proofs.StateLemmas.{changes_keep}
use Rattle.recovery_laws.specs.Led.{ActsKeepTold, MayBeSettled, ToldAgree, ToldRecover, WasFound, WasMade}
use Rattle.recovery_laws.proofs.StateLemmas.{files_follow}

-- What acts keep of a file: something that each act on one file keeps, where its records are so behind it, and by which changes fit the rings that are not full for them.
module _ (may : Id → Bool) (Led : ℕ → FileState → Type 0) (Has : Records → Type 0)
    (one_more : (a : Act) (g : ℕ) (f : FileState) → MayDo may a g f → Has (records (file_after a g f).timeline.history) → Led g f → Led (greatest_after a g) (file_after a g f))
    (stays : (g : ℕ) (f : FileState) → Led g f → Has (records f.timeline.history)) (has_room : (g : ℕ) (f : FileState) → Led g f → RoomSuffices f) where
  entered : (g : ℕ) (f : File) (tid serial : Id) (cs : List Change) → Led g (state_of f) → MayEnterImages serial cs f → Led g (all_changed tid serial cs (state_of f))
  entered g f tid serial cs h m =
      changes_keep tid serial (state_of f) (Led g) (λ c e d k. one_more (act.Changes tid serial c) g e d (stays g e k) k) cs m.begins m.free m.found
      ((has_room g (state_of f) h).changes tid serial cs m.begins m.fits) h

  pub changes_lead : (g : ℕ) (f : File) (held : Key → Bool) (tid serial : Id) (cs : List Change) → Led g (state_of f) → MayEnterImages serial cs f → Led g (state_of (changed_file held tid serial cs f))
  changes_lead g f held tid serial cs h m = subst (Led g) (sym ((files_follow f).changes held tid serial cs)) (entered g f tid serial cs h m)

  pub directs_lead : (g : ℕ) (f : File) (held : Key → Bool) (s : Settlement) (cs : List Change) → Led g (state_of f) → MayEnterImages s.serial cs f → g < s.moment → may s.serial ≡ true →
      Has (records (directly_changed held s cs f).history) → Led s.moment (state_of (directly_changed held s cs f))
  directs_lead g f held s cs h m later commits has = subst (Led s.moment) (sym ((files_follow f).directs held s cs))
      (one_more (act.Settles s.tid s.serial s.outcome s.moment) g (all_changed s.tid s.serial cs (state_of f)) (later, λ here is. commits)
      (subst (λ (e : FileState). Has (records e.timeline.history)) ((files_follow f).directs held s cs) has) (entered g f s.tid s.serial cs h m))

  pub settles_lead : (g : ℕ) (f : File) (s : Settlement) → Led g (state_of f) → MayBeSettled may g s f → Has (records (settled_file s f).history) → Led s.moment (state_of (settled_file s f))
  settles_lead g f s h m has = subst (Led s.moment) (sym ((files_follow f).settles s))
      (one_more (act.Settles s.tid s.serial s.outcome s.moment) g (state_of f) (m.later, m.commits) (subst (λ (e : FileState). Has (records e.timeline.history)) ((files_follow f).settles s) has) h)

  pub halves_lead : (g : ℕ) (f : File) (serial : Id) (standing : List ℕ → Map) → Led g (state_of f) → MayHalfAbort may serial (leaving (standing f.name) [] (changes_by serial f.history.live)) (state_of f) → Led g (state_of (half_undone serial standing f))
  halves_lead g f serial standing h m = subst (Led g) (sym ((files_follow f).halves serial standing g)) (one_more (act.HalfAborts serial _) g (state_of f) m (stays g (state_of f) h) h)

  pub marks_lead : (g : ℕ) (f : File) (mark : Mark) → Led g (state_of f) → IsStill (state_of f) → Led g (state_of (marked_file mark g f))
  marks_lead g f (ForUnits units) h still = h
  marks_lead g f (BeginsImages AfterImages start blocks) h still = one_more (act.BeginsAfters start blocks) g (state_of f) still (stays g (state_of f) h) h
  marks_lead g f (BeginsImages BeforeImages start blocks) h still = one_more (act.BeginsBefores start blocks) g (state_of f) still (stays g (state_of f) h) h
  marks_lead g f (EndsImages AfterImages) h still = one_more act.EndsAfters g (state_of f) still (stays g (state_of f) h) h
  marks_lead g f (EndsImages BeforeImages) h still = one_more act.EndsBefores g (state_of f) still (stays g (state_of f) h) h

  pub saves_lead : (g : ℕ) (f : File) (start : ℕ) → Led g (state_of f) → IsStill (state_of f) → Led g (state_of (saved_file start g f))
  saves_lead g f start h still = one_more (act.Saves start f.buckets) g (state_of f) still (stays g (state_of f) h) h

  pub recovers_lead : (g : ℕ) (f : File) (start buckets : ℕ) (m : Records) → Led g (state_of f) → IsStill (state_of f) → Has m → Led g (state_of (recovered_file start buckets m g f))
  recovers_lead g f start buckets m h still has = one_more (act.Recovers m) g (state_of f) still has h

module _ (may waits : Id → Bool) where
  abbrev Told : ℕ → FileState → Type 0
  Told g f = WasFound may waits g f ⊎ WasMade may g f

  abbrev Any : Records → Type 0
  Any m = Unit {0}

  one_more : (a : Act) (g : ℕ) (f : FileState) → MayDo may a g f → Any (records (file_after a g f).timeline.history) → Told g f → Told (greatest_after a g) (file_after a g f)
  one_more a g f d any (inl w) = inl (record { acts = a ∷ w.acts; moment = w.moment; first = w.first; opening = w.opening; commits = w.commits; leads = (g, f, w.leads, d, refl, refl) })
  one_more a g f d any (inr w) = inr (record { acts = a ∷ w.acts; moment = w.moment; past = w.past; leads = (g, f, w.leads, d, refl, refl) })

  stays : (g : ℕ) (f : FileState) → Told g f → Any (records f.timeline.history)
  stays g f h = tt

  pub has_room : (g : ℕ) (f : FileState) → Told g f → RoomSuffices f
  has_room g f (inl w) = found_has_room may waits w.acts w.moment w.first g f w.opening w.commits w.leads
  has_room g f (inr w) = created_has_room may w.acts w.past w.moment g f w.leads

pub acts_keep_told : ActsKeepTold
acts_keep_told may waits = record {
  changes = changes_lead may (Told may waits) (Any may waits) (one_more may waits) (stays may waits) (has_room may waits);
  directs = λ g f held s cs h m later commits. directs_lead may (Told may waits) (Any may waits) (one_more may waits) (stays may waits) (has_room may waits) g f held s cs h m later commits tt;
  settles = λ g f s h m. settles_lead may (Told may waits) (Any may waits) (one_more may waits) (stays may waits) (has_room may waits) g f s h m tt;
  halves = halves_lead may (Told may waits) (Any may waits) (one_more may waits) (stays may waits) (has_room may waits);
  marks = marks_lead may (Told may waits) (Any may waits) (one_more may waits) (stays may waits) (has_room may waits);
  saves = saves_lead may (Told may waits) (Any may waits) (one_more may waits) (stays may waits) (has_room may waits);
  recovers = λ g f start buckets m h still. recovers_lead may (Told may waits) (Any may waits) (one_more may waits) (stays may waits) (has_room may waits) g f start buckets m h still tt;
}

pub told_recover : ToldRecover
told_recover may waits g f h = go h
  where
    go : WasFound may waits g (state_of f) ⊎ WasMade may g (state_of f) → (way : Way) (user : Option Id) → IsUser user (state_of f) → refusal way user (state_of f) ≡ None → rolled way (state_of f) ≡ records_by way (state_of f)
    go (inl w) = found_recovers may waits w.acts w.moment w.first g (state_of f) w.opening w.commits w.leads
    go (inr w) = created_recovers may w.acts w.past w.moment g (state_of f) w.leads

pub told_agree : ToldAgree
told_agree may waits next g f h fewer = go h
  where
    go : WasFound may waits g (state_of f) ⊎ WasMade may g (state_of f) → IsOpening next g (as_found g (state_of f))
    go (inl w) = left_is_found may waits next w.acts w.moment w.first g (state_of f) w.opening w.commits fewer w.leads
    go (inr w) = created_is_found may next w.acts w.past w.moment g (state_of f) fewer w.leads
