-- What keeps the last after images of unsettled branches the values that stand.
use Rattle.std.proofs.Common.{◌≡◌, ◌⊎◌, ℕ, List, [], ◌∷◌, Bool, true, false, not, ◌&&◌, ◌||◌, Option, if◌then◌else◌, inl, inr, refl, sym, ◌∙◌, ap, subst}
use Rattle.std.proofs.lemmas.Bool.{and_from, both_ways, false_from_ne_true}
use Rattle.std.specs.FinMap.{get}
use Rattle.vms_model.specs.Ids.{Id}
use Rattle.vms_model.specs.Keys.{Key}
use Rattle.vms_model.specs.Transactions.{Outcome}
use Rattle.script_model.specs.Statements.{AfterImages, BeforeImages}
use Rattle.records_model.specs.Records.{Change}
use Rattle.records_model.specs.History.{LiveChanges, changed_it, changes_by, changes_key, current, records, same_id, with_change, without}
use Rattle.records_model.proofs.SlotLaws.{if_true}
use Rattle.recovery_model.specs.unit_laws.Units.{SerialsDiffer, is_changed, is_free}
use Rattle.recovery_model.proofs.unit_laws.LiveLemmas.{id_is, id_itself}
use Rattle.recovery_model.specs.Images.{afters, newest, touches}
use Rattle.recovery_model.specs.Journal.{Changed, Entry, Settled, images_by, is_settled}
use Rattle.recovery_model.specs.File.{FileState, ImageJournal, all_of, append, half_aborted, renewed, renewed_if_on, with_its}
use Rattle.recovery_model.specs.File as recovery
use Rattle.recovery_model.specs.Laws.{all_changed}
use Rattle.recovery_model.specs.Opening.{IsLawful}
use Rattle.recovery_model.proofs.Images.{same}
use Rattle.recovery_model.proofs.BranchLemmas.{current_own, gone_other, gone_same, live_other, live_same, same_from, turned}
use Rattle.recovery_model.proofs.FileLemmas.{all_append, on_append, settled_is, settled_row, still}
use Rattle.recovery_model.proofs.HalfLemmas.{its_other}
use Rattle.recovery_model.proofs.ImageLemmas.{applied-sets, changes-key}
use Rattle.recovery_model.proofs.OldestLemmas.{get-sets_newest}
use Rattle.recovery_model.proofs.OpeningLemmas.{same_touches}
use Rattle.recovery_model.proofs.TieLemmas.{not_this, of_other, of_same}
use Rattle.recovery_laws.specs.run_model.World.{BeginsImages, EndsImages, File, ForUnits, Mark, Settlement, changed_file, marked_file, state_of}
use Rattle.recovery_runs.specs.LastImages.{ActsKeepLastImages, FewerLastImages, LastImagesAreValues, LastImagesStand, MoreLastImages, StillFilesStand}
use Rattle.recovery_laws.specs.States.{after_settlement}
use Rattle.recovery_laws.proofs.world_laws.StateLemmas.{all_follow, half_follows, settled_follows}

-- an image more, in front of both
in_front : (b t : Bool) (v x y : Option (List ℕ)) → (if b then true else t) ≡ true → (t ≡ true → x ≡ y) → (if b then v else x) ≡ (if b then v else y)
in_front true t v x y h more = refl
in_front false t v x y h more = more h

module _ (may : Id → Bool) where
  -- of unsettled branches and entries of after images
  abbrev Stand : List LiveChanges → List Entry → Type 0
  Stand live es = (s : Id) (q : Key) → is_settled es s ≡ false → may s ≡ true → touches q (images_by s es) ≡ true → newest q (images_by s es) ≡ newest q (afters (changes_by s live))

  stand_none : (live : List LiveChanges) → Stand live []
  stand_none live s q u y t = let no : ⊥ = cc in absurd no

  stand_changed : (live : List LiveChanges) (es : List Entry) (s : Id) (c : Change) → Stand live es → Stand (with_change s c live) (Changed s c.key c.after ∷ es)
  stand_changed live es s c h r q u y t = go (same_id r s) refl
    where
      go : (b : Bool) → same_id r s ≡ b → newest q (images_by r (Changed s c.key c.after ∷ es)) ≡ newest q (afters (changes_by r (with_change s c live)))
      go true is =
          let own = of_same s r c.key c.after es is in
          ap (newest q) own
          ∙ in_front (same q c.key) (touches q (images_by r es)) c.after (newest q (images_by r es)) (newest q (afters (changes_by s live))) (sym (ap (touches q) own) ∙ t) (λ k. h r q u y k ∙ ap (λ x. newest q (afters (changes_by x live))) (id_is r s is))
          ∙ ap (λ x. newest q (afters x)) (sym (live_same s r c live is))
      go false is =
          let other = of_other s r c.key c.after es is in
          ap (newest q) other ∙ h r q u y (sym (ap (touches q) other) ∙ t) ∙ ap (λ x. newest q (afters x)) (sym (live_other s r c live is))

  stand_settled : (live : List LiveChanges) (es : List Entry) (s : Id) (outcome : Outcome) (m : ℕ) → Stand live es → Stand (without s live) (Settled s outcome m ∷ es)
  stand_settled live es s outcome m h r q u y t = let x = not_this s r (same_id r s) (is_settled es r) refl u in h r q x.1 y t ∙ ap (λ z. newest q (afters z)) (sym (gone_other s r live x.0))

  stand_half : (live : List LiveChanges) (es : List Entry) (s : Id) (cs : List Change) → may s ≡ false → Stand live es → Stand (with_its s cs live) es
  stand_half live es s cs off h r q u y t = go (same_id r s) refl
    where
      go : (b : Bool) → same_id r s ≡ b → newest q (images_by r es) ≡ newest q (afters (changes_by r (with_its s cs live)))
      go true is = let both : may s ≡ true = ap may (sym (id_is r s is)) ∙ y in let no : ⊥ = cc in absurd no
      go false is = h r q u y t ∙ ap (λ z. newest q (afters z)) (sym (its_other s r cs live is))

  -- Files.

  stands_changed : (tid s : Id) (c : Change) (f : FileState) → LastImagesStand may f → LastImagesStand may (recovery.changed_file tid s c f)
  stands_changed tid s c f h on =
      let old = on_append tid (Changed s c.key c.after) f.ai f.ai.on refl on in
      subst (Stand (with_change s c f.timeline.history.live)) (sym (all_append tid (Changed s c.key c.after) f.ai old)) (stand_changed f.timeline.history.live (all_of f.ai.entries) s c (h old))

  stands_all : (tid s : Id) (cs : List Change) (f : FileState) → LastImagesStand may f → LastImagesStand may (all_changed tid s cs f)
  stands_all tid s [] f h = h
  stands_all tid s (c ∷ cs) f h = stands_changed tid s c (all_changed tid s cs f) (stands_all tid s cs f h)

  stands_row : (tid s : Id) (outcome : Outcome) (t : ℕ) (f : FileState) → LastImagesStand may f → LastImagesStand may (settled_row tid s outcome t f)
  stands_row tid s outcome t f h on =
      let old = on_append tid (Settled s outcome t) f.ai f.ai.on refl on in
      subst (Stand (without s f.timeline.history.live)) (sym (all_append tid (Settled s outcome t) f.ai old)) (stand_settled f.timeline.history.live (all_of f.ai.entries) s outcome t (h old))

  stands_settled : (s : Settlement) (f : FileState) → LastImagesStand may f → LastImagesStand may (after_settlement s f)
  stands_settled s f h = subst (LastImagesStand may) (sym (settled_is s.tid s.serial s.outcome s.moment f (changed_it f.timeline.history s.serial) refl)) (go (changed_it f.timeline.history s.serial))
    where
      go : (b : Bool) → LastImagesStand may (if b then settled_row s.tid s.serial s.outcome s.moment f else f)
      go true = stands_row s.tid s.serial s.outcome s.moment f h
      go false = h

  stands_anew : (live : List LiveChanges) (j : ImageJournal) → (j.on ≡ true → Stand live (all_of j.entries)) → (renewed_if_on j).on ≡ true → Stand live (all_of (renewed_if_on j).entries)
  stands_anew live j h = go j.on
    where
      go : (b : Bool) → (let k : ImageJournal = if b then renewed j.start j.blocks j else j in k.on ≡ true → Stand live (all_of k.entries))
      go true on = stand_none live
      go false on = h on

  stands_marked : (mark : Mark) (g : ℕ) (f : File) → LastImagesStand may (state_of f) → LastImagesStand may (state_of (marked_file mark g f))
  stands_marked (ForUnits units) g f h = h
  stands_marked (BeginsImages AfterImages start blocks) g f h = λ on. stand_none f.history.live
  stands_marked (BeginsImages BeforeImages start blocks) g f h = h
  stands_marked (EndsImages AfterImages) g f h = λ on. stand_none f.history.live
  stands_marked (EndsImages BeforeImages) g f h = h

pub acts_keep_last_images : ActsKeepLastImages
acts_keep_last_images may f h = record {
  changes = changed;
  directs = λ held s cs. subst (LastImagesStand may) (sym (settled_follows s _ (state_of (changed_file held s.tid s.serial cs f)) refl)) (stands_settled may s (state_of (changed_file held s.tid s.serial cs f)) (changed held s.tid s.serial cs));
  settles = λ s. subst (LastImagesStand may) (sym (settled_follows s _ (state_of f) refl)) (stands_settled may s (state_of f) h);
  halves = λ serial standing off on. subst (λ ls. Stand may ls (all_of f.carried.after.entries)) (sym (half_follows serial (standing f.name) f.history.live)) (stand_half may f.history.live (all_of f.carried.after.entries) serial _ off (h on));
  marks = λ mark g. stands_marked may mark g f h;
  saves = λ start g. h;
  recovers = λ start buckets g m. stands_anew may f.history.live f.carried.after h;
}
  where
    changed : (held : Key → Bool) (tid serial : Id) (cs : List Change) → LastImagesStand may (state_of (changed_file held tid serial cs f))
    changed held tid serial cs = subst (LastImagesStand may) (sym (all_follow f held tid serial cs)) (stands_all may tid serial cs (state_of f) h)

-- Which branches.

pub more_last_images : MoreLastImages
more_last_images may waits f commits keys h on s q u y t = go (commits s y)
  where
    go : (waits s ≡ true) ⊎ (changes_by s f.timeline.history.live ≡ []) → newest q (images_by s (all_of f.ai.entries)) ≡ newest q (afters (changes_by s f.timeline.history.live))
    go (inl w) = h on s q u w t
    go (inr none) =
        let bare : touches q (images_by s (all_of f.ai.entries)) ≡ false = same_touches (images_by s (all_of f.ai.entries)) (afters (changes_by s f.timeline.history.live)) q (keys on s u) ∙ ap (λ x. touches q (afters x)) none in
        let no : ⊥ = cc in absurd no

pub still_files_stand : StillFilesStand
still_files_stand waits lasts g f w rests = more_last_images lasts (λ s. false) f (λ s y. inr (still f rests s)) w.ai_keys (λ on s q u never t. let no : ⊥ = cc in absurd no)

pub fewer_last_images : FewerLastImages
fewer_last_images may next f fewer h on s q u y t = h on s q u (fewer s y) t

-- The value that stands.

-- behind the first of several branches it has no other changes
own_once : (l : LiveChanges) (ls : List LiveChanges) → SerialsDiffer (l ∷ ls) → changes_by l.serial ls ≡ []
own_once l ls d = ap (changes_by l.serial) (sym (if_true (same_id l.serial l.serial) ls (l ∷ without l.serial ls) (id_itself l.serial))) ∙ gone_same l.serial l.serial (l ∷ ls) d (id_itself l.serial)

own_first : (q : Key) (l : LiveChanges) (ls : List LiveChanges) → changes_key q (changes_by l.serial (l ∷ ls)) ≡ false → changes_key q l.changes ≡ false
own_first q l ls h = ap (changes_key q) (sym (if_true (same_id l.serial l.serial) l.changes (changes_by l.serial ls) (id_itself l.serial))) ∙ h

behind : (q : Key) (r : Id) (l : LiveChanges) (ls : List LiveChanges) → SerialsDiffer (l ∷ ls) → changes_key q (changes_by r (l ∷ ls)) ≡ false → changes_key q (changes_by r ls) ≡ false
behind q r l ls d = go (same_id r l.serial) refl
  where
    go : (b : Bool) → same_id r l.serial ≡ b → changes_key q (if b then l.changes else changes_by r ls) ≡ false → changes_key q (changes_by r ls) ≡ false
    go true is h = ap (λ x. changes_key q (changes_by x ls)) (id_is r l.serial is) ∙ ap (changes_key q) (own_once l ls d)
    go false is h = h

neither : (a b : Bool) → a ≡ false → b ≡ false → (a || b) ≡ false
neither true b x y = x
neither false b x y = y

-- a key that no branch changed
none_changed : (q : Key) (ls : List LiveChanges) → SerialsDiffer ls → ((r : Id) → changes_key q (changes_by r ls) ≡ false) → is_changed ls q ≡ false
none_changed q [] d h = refl
none_changed q (l ∷ ls) d h = neither (changes_key q l.changes) (is_changed ls q) (own_first q l ls (h l.serial)) (none_changed q ls d.1 (λ r. behind q r l ls d (h r)))

-- and one that no other branch changed
own_free : (s : Id) (q : Key) (ls : List LiveChanges) → SerialsDiffer ls → ((r : Id) → same_id r s ≡ false → changes_key q (changes_by r ls) ≡ false) → is_free s ls q ≡ true
own_free s q [] d h = refl
own_free s q (l ∷ ls) d h = go (same_id s l.serial) refl (own_free s q ls d.1 (λ r other. behind q r l ls d (h r other)))
  where
    others : same_id s l.serial ≡ true → (r : Id) (b : Bool) → same_id r s ≡ b → changes_key q (changes_by r ls) ≡ false
    others is r true same = ap (λ x. changes_key q (changes_by x ls)) (id_is r s same ∙ id_is s l.serial is) ∙ ap (changes_key q) (own_once l ls d)
    others is r false other = behind q r l ls d (h r other)

    go : (b : Bool) → same_id s l.serial ≡ b → is_free s ls q ≡ true → (if b then not (is_changed ls q) else (not (changes_key q l.changes) && is_free s ls q)) ≡ true
    go true is more = ap not (none_changed q ls d.1 (λ r. others is r (same_id r s) refl))
    go false is more = and_from (not (changes_key q l.changes)) (is_free s ls q) (ap not (own_first q l ls (h l.serial (turned l.serial s false is)))) more

module _ (waits : Id → Bool) (g : ℕ) (f : FileState) (w : IsLawful waits g f) where
  abbrev live : List LiveChanges
  live = f.timeline.history.live

  touched : f.ai.on ≡ true → (s : Id) (q : Key) → is_settled (all_of f.ai.entries) s ≡ false → touches q (images_by s (all_of f.ai.entries)) ≡ true → touches q (afters (changes_by s live)) ≡ true
  touched on s q u t = sym (same_touches (images_by s (all_of f.ai.entries)) (afters (changes_by s live)) q (w.ai_keys on s u)) ∙ t

  alone : (s r : Id) (q : Key) → changes_key q (changes_by s live) ≡ true → same_id r s ≡ false → changes_key q (changes_by r live) ≡ false
  alone s r q own other = false_from_ne_true (changes_key q (changes_by r live)) (λ e. both_ways (same_id r s) other (same_from r s (w.apart q r s e own)))

  value : (s : Id) (q : Key) → touches q (afters (changes_by s live)) ≡ true → get (current f.timeline.history) q ≡ newest q (afters (changes_by s live))
  value s q t =
      current_own live (records f.timeline.history) q s (own_free s q live w.one (λ r. alone s r q (sym (changes-key q (changes_by s live)) ∙ t)))
      ∙ ap (λ m. get m q) (applied-sets (changes_by s live) (records f.timeline.history)) ∙ get-sets_newest (afters (changes_by s live)) (records f.timeline.history) q
      ∙ if_true (touches q (afters (changes_by s live))) (newest q (afters (changes_by s live))) (get (records f.timeline.history) q) t

pub last_images_are_values : LastImagesAreValues
last_images_are_values waits lasts g f w = record {
  values = λ h on s q u y t. h on s q u y t ∙ sym (value waits g f w s q (touched waits g f w on s q u t));
  back = λ h on s q u y t. h on s q u y t ∙ value waits g f w s q (touched waits g f w on s q u t);
}
