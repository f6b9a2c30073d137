-- That a file keeps what the disk of a node is to say of its journals of images and of its save, act by act.
use Rattle.std.proofs.Common.{◌≡◌, ◌≤◌, ◌<◌, ℕ, ◌+◌, List, [], ◌∷◌, Bool, true, false, Option, Some, None, if◌then◌else◌, refl, sym, ◌∙◌, ap, subst, arith}
use Rattle.std.specs.FinMap.{empty}
use Rattle.std.specs.Str.{bytes_eq}
use Rattle.vms_model.specs.Ids.{Id}
use Rattle.vms_model.specs.Keys.{Key}
use Rattle.run_model.specs.script_model.Statements.{AfterImages, BeforeImages, Form}
use Rattle.run_model.specs.records_model.Records.{Change, Records}
use Rattle.run_model.specs.records_model.History.{LiveChanges, changed_it, changed_with, changes_by, changes_key}
use Rattle.run_model.specs.unit_laws.Units.{Map, SerialsDiffer}
use Rattle.run_model.proofs.unit_laws.LiveLemmas.{once_change, once_changes}
use Rattle.run_model.specs.recovery_model.Images.{befores, keys_of}
use Rattle.run_model.specs.recovery_model.Journal as image
use Rattle.run_model.specs.recovery_model.File as recovery
use Rattle.run_model.specs.recovery_model.File.{FileState, IsStill, Save}
use Rattle.run_model.specs.recovery_model.Acts as act
use Rattle.run_model.specs.recovery_model.Acts.{MayChange}
use Rattle.run_model.specs.recovery_model.Laws.{all_changed}
use Rattle.run_model.proofs.recovery_model.HalfLemmas.{keys_befores}
use Rattle.run_model.proofs.recovery_model.OrderLemmas.{Ordered, SaveStands, act_ordered, created_ordered, ordered_half, ordered_passed}
use Rattle.run_model.proofs.recovery_model.StatementLemmas.{room_suffices}
use Rattle.run_model.specs.World.{BeginsImages, EndsImages, File, ForUnits, KeepAllImages, KeepsImages, Mark, Node, Settlement, changed_file, directly_changed, find_file, half_undone, leaving, marked_file, recovered_file, saved_file, serial_of_image, settled_file, state_of, with_images}
use Rattle.run_model.specs.Answers.{created}
use Rattle.world_laws.specs.Running.{AllImages}
use Rattle.world_laws.specs.Entering.{MayEnterImages}
use Rattle.world_laws.specs.Nodes.{IsOf}
use Rattle.world_laws.proofs.FindLemmas.{some_is}
use Rattle.world_laws.proofs.ImageLemmas.{images_changed, images_marked, images_more, images_recovered, images_settled}
use Rattle.world_laws.proofs.StateLemmas.{all_follow, changes_keep, half_follows, settled_follows}

-- a file that no unsettled branch changed
still_rests : (f : File) → f.history.live ≡ [] → IsStill (state_of f)
still_rests f rests x = ap (λ (ls : List LiveChanges). elim (changes_by x ls) as (λ y. Bool) [ [] ↦ false | c ∷ cs ↦ true ]) rests

-- changes that leave something else found the same
same_befores : (standing : Map) (newer cs : List Change) → befores (leaving standing newer cs) ≡ befores cs
same_befores standing newer [] = refl
same_befores standing newer (c ∷ cs) = go (changes_key c.key newer) (same_befores standing (c ∷ newer) cs)
  where
    go : (b : Bool) → befores (leaving standing (c ∷ newer) cs) ≡ befores cs → befores ((if b then c else record c { after = standing c.key }) ∷ leaving standing (c ∷ newer) cs) ≡ (c.key, c.before) ∷ befores cs
    go true more = ap (λ xs. (c.key, c.before) ∷ xs) more
    go false more = ap (λ xs. (c.key, c.before) ∷ xs) more

module _ (name : List ℕ) (boot : ℕ) where
  abbrev IsOurs : image.Entry → Type 0
  IsOurs e = IsOf name boot (serial_of_image e)

  reached : (g : ℕ) (f : File) → KeepsImages name boot g f → AllImages IsOurs f.carried
  reached g f k = record { after = k.after_reached; before = k.before_reached }

  ordered_by : (g : ℕ) (f : File) → KeepsImages name boot g f → Ordered g (state_of f)
  ordered_by g f k = record {
    ai_order = k.after_order;
    bi_order = k.before_order;
    ai = λ on. record { room = k.after_room on; branches = k.after_branches on; keys = k.keys on };
    bi = λ on. record { room = k.before_room on; branches = k.before_branches on; keys = λ s u. ap keys_of (k.found on s u) ∙ keys_befores (changes_by s f.history.live) };
    bi_found = k.found;
    since = k.begun;
    saved = save_by f.carried.save refl;
  }
    where
      save_by : (o : Option Save) → f.carried.save ≡ o → SaveStands g f.carried.after o
      save_by None e = tt
      save_by (Some v) e = k.saved v e

  kept_from : (g : ℕ) (f : File) → Ordered g (state_of f) → AllImages IsOurs f.carried → KeepsImages name boot g f
  kept_from g f w r = record {
    after_order = w.ai_order;
    before_order = w.bi_order;
    after_room = λ on. (w.ai on).room;
    before_room = λ on. (w.bi on).room;
    after_branches = λ on. (w.ai on).branches;
    before_branches = λ on. (w.bi on).branches;
    keys = λ on. (w.ai on).keys;
    found = w.bi_found;
    begun = w.since;
    saved = λ v e. subst (SaveStands g f.carried.after) e w.saved;
    after_reached = r.after;
    before_reached = r.before;
  }

  pub keeps_later : (g t : ℕ) (f : File) → g ≤ t → KeepsImages name boot g f → KeepsImages name boot t f
  keeps_later g t f low k = kept_from t f (ordered_passed g t (state_of f) low (ordered_by g f k)) (reached g f k)

  pub keeps_changed : (g : ℕ) (f : File) (held : Key → Bool) (tid serial : Id) (cs : List Change) → SerialsDiffer f.history.live → IsOf name boot serial → MayEnterImages serial cs f → KeepsImages name boot g f → KeepsImages name boot g (changed_file held tid serial cs f)
  keeps_changed g f held tid serial cs differ of may k =
      let w = ordered_by g f k in
      kept_from g (changed_file held tid serial cs f)
      (subst (Ordered g) (sym (all_follow f held tid serial cs))
      (changes_keep tid serial (state_of f) (λ (e : FileState). SerialsDiffer e.timeline.history.live × Ordered g e)
      (λ c e m h. (once_change serial c e.timeline.history.live h.0, act_ordered (λ x. true) (act.Changes tid serial c) g e m h.0 h.1)) cs may.begins may.free may.found
      ((room_suffices g (state_of f) differ w).changes tid serial cs may.begins may.fits) (differ, w)).1)
      (images_changed IsOurs tid serial cs f.carried (λ key v. of) (reached g f k))

  pub keeps_settled : (g : ℕ) (f : File) (s : Settlement) → g < s.moment → SerialsDiffer f.history.live → IsOf name boot s.serial → KeepsImages name boot g f → KeepsImages name boot s.moment (settled_file s f)
  keeps_settled g f s later differ of k = kept_from s.moment (settled_file s f)
      (subst (Ordered s.moment) (sym (settled_follows s f.history (state_of f) refl)) (act_ordered (λ x. true) (act.Settles s.tid s.serial s.outcome s.moment) g (state_of f) (later, λ c o. refl) differ (ordered_by g f k)))
      (images_settled IsOurs (changed_it f.history s.serial) s f.carried of (reached g f k))

  -- changes of a branch of their own, which was committed at once
  pub keeps_directs : (g : ℕ) (f : File) (held : Key → Bool) (s : Settlement) (cs : List Change) → g < s.moment → SerialsDiffer f.history.live → IsOf name boot s.serial → MayEnterImages s.serial cs f → KeepsImages name boot g f →
      KeepsImages name boot s.moment (directly_changed held s cs f)
  keeps_directs g f held s cs later differ of may k =
      let c = changed_file held s.tid s.serial cs f in
      let d = keeps_settled g c s later (once_changes s.serial cs f.history.live differ) of (keeps_changed g f held s.tid s.serial cs differ of may k) in
      kept_from s.moment (directly_changed held s cs f) (ordered_by s.moment (settled_file s c) d)
      (images_settled IsOurs (changed_it (changed_with s.serial cs f.history) s.serial) s (with_images s.tid s.serial cs f.carried) of (images_changed IsOurs s.tid s.serial cs f.carried (λ key v. of) (reached g f k)))

  -- an abort is done in part
  pub keeps_half : (g : ℕ) (f : File) (serial : Id) (standing : List ℕ → Map) → KeepsImages name boot g f → KeepsImages name boot g (half_undone serial standing f)
  keeps_half g f serial standing k = kept_from g (half_undone serial standing f)
      (subst (λ ls. Ordered g (let e : FileState = record (state_of f) { timeline = record { history = record f.history { live = ls }; past = f.past } } in e)) (sym (half_follows serial (standing f.name) f.history.live))
      (ordered_half g serial (leaving (standing f.name) [] (changes_by serial f.history.live)) (state_of f) (same_befores (standing f.name) [] (changes_by serial f.history.live)) (ordered_by g f k)))
      (record { after = k.after_reached; before = k.before_reached })

  pub keeps_marked : (g : ℕ) (f : File) (mark : Mark) → f.history.live ≡ [] → KeepsImages name boot g f → KeepsImages name boot g (marked_file mark g f)
  keeps_marked g f mark rests k = kept_from g (marked_file mark g f) (go mark) (images_marked IsOurs mark g f.carried (reached g f k))
    where
      none : SerialsDiffer f.history.live
      none = subst SerialsDiffer (sym rests) tt

      go : (mark : Mark) → Ordered g (state_of (marked_file mark g f))
      go (ForUnits units) = ordered_by g f k
      go (BeginsImages AfterImages start blocks) = act_ordered (λ x. true) (act.BeginsAfters start blocks) g (state_of f) (still_rests f rests) none (ordered_by g f k)
      go (BeginsImages BeforeImages start blocks) = act_ordered (λ x. true) (act.BeginsBefores start blocks) g (state_of f) (still_rests f rests) none (ordered_by g f k)
      go (EndsImages AfterImages) = act_ordered (λ x. true) act.EndsAfters g (state_of f) (still_rests f rests) none (ordered_by g f k)
      go (EndsImages BeforeImages) = act_ordered (λ x. true) act.EndsBefores g (state_of f) (still_rests f rests) none (ordered_by g f k)

  pub keeps_saved : (g : ℕ) (f : File) (start : ℕ) → f.history.live ≡ [] → KeepsImages name boot g f → KeepsImages name boot g (saved_file start g f)
  keeps_saved g f start rests k = kept_from g (saved_file start g f)
      (act_ordered (λ x. true) (act.Saves start f.buckets) g (state_of f) (still_rests f rests) (subst SerialsDiffer (sym rests) tt) (ordered_by g f k)) (record { after = k.after_reached; before = k.before_reached })

  pub keeps_recovered : (g : ℕ) (f : File) (start buckets : ℕ) (m : Records) → f.history.live ≡ [] → KeepsImages name boot g f → KeepsImages name boot g (recovered_file start buckets m g f)
  keeps_recovered g f start buckets m rests k = kept_from g (recovered_file start buckets m g f)
      (act_ordered (λ x. true) (act.Recovers m) g (state_of f) (still_rests f rests) (subst SerialsDiffer (sym rests) tt) (ordered_by g f k)) (images_recovered IsOurs g f.carried (reached g f k))

  pub keeps_created : (g : ℕ) (file : List ℕ) (bucket size : ℕ) (form : Form) (start : ℕ) → KeepsImages name boot g (created file bucket size form start g)
  keeps_created g file bucket size form start = kept_from g (created file bucket size form start g) (created_ordered g (λ u. empty)) (record { after = tt; before = tt })

-- a boot is counted
pub keeps_booted : (name : List ℕ) (boot g : ℕ) (f : File) → KeepsImages name boot g f → KeepsImages name (boot + 1) g f
keeps_booted name boot g f k = kept_from name (boot + 1) g f (ordered_by name boot g f k) (images_more (IsOurs name boot) (IsOurs name (boot + 1)) f.carried (λ e h. (h.0, let low = h.1 in omega (arith, low))) (reached name boot g f k))

-- What a run finds.

pub all_keep : (n : Node) (fs : List (Option File)) → KeepAllImages n fs → (file : List ℕ) (f : File) → find_file file fs ≡ Some f → KeepsImages n.name n.durable.boot n.durable.greatest f
all_keep n [] h file f e = let none : ⊥ = cc in absurd none
all_keep n (None ∷ fs) h file f e = all_keep n fs h file f e
all_keep n (Some g ∷ fs) h file f e = go (bytes_eq file g.name) e (all_keep n fs h.1 file f)
  where
    go : (b : Bool) → ◌≡◌ {A = Option File} (if b then Some g else find_file file fs) (Some f) → (find_file file fs ≡ Some f → KeepsImages n.name n.durable.boot n.durable.greatest f) → KeepsImages n.name n.durable.boot n.durable.greatest f
    go true t more = subst (KeepsImages n.name n.durable.boot n.durable.greatest) (some_is g f t) h.0
    go false t more = more t
