-- Records that are made of a file may be its own.
use Rattle.std.proofs.Common.{◌≡◌, ℕ, Bool, true, false, List, [], ◌∷◌, Option, Some, None, if◌then◌else◌, refl, sym, ◌∙◌, ap, subst}
use Rattle.std.specs.Prelude.{cond, nat_le, option_map}
use Rattle.std.specs.FinMap.{get, get-insert, get-remove}
use Rattle.std.specs.Ordering.{is_eq}
use Rattle.std.specs.declared.cmp.Ordering.{Ordering}
use Rattle.std.specs.declared.cmp.Ordering.TheVariants.{Equal, Greater, Less}
use Rattle.file_base.specs.declared.head.FileHead.{FileHead}
use Rattle.vms_model.specs.Ids.{Id}
use Rattle.vms_model.specs.Keys.{Key}
use Rattle.rolled_records.specs.record_files.Any.{Suits}
use Rattle.records_model.specs.Records.{Records, key_cmp, set_key}
use Rattle.records_model.specs.History.{current, reached}
use Rattle.records_model.proofs.KeyLemmas.{key_cmp-IsAntisymmetric, key_cmp_total}
use Rattle.image_entries.specs.recovery_model.File.{FileState, Placed, Save, all_of, since}
use Rattle.image_entries.specs.recovery_model.Journal.{Changed, Entry, Settled, backward, beyond, chosen, forward}
use Rattle.image_entries.specs.recovery_model.Recovery.{rolled, rolled_on}
use Rattle.vms_base.specs.declared.moments.Moment.{Moment}
use Rattle.rolled_records.specs.file_images.Files.{HasSave, form_of}
use Rattle.rolled_records.specs.file_images.Images.{AreSuited}
use Rattle.rolled_records.proofs.file_images.Forms.{suited_by_head}
use Rattle.file_recoveries.specs.Causes.{way_of}
use Rattle.file_recoveries.specs.Files.{HasFile}
use Rattle.file_recoveries.specs.Suiting.{MayHave, RecordsSuit}
use Rattle.file_recoveries.specs.declared.causes.Way.TheVariants.{Backward as Back, Forward as On}
use Rattle.file_recoveries.proofs.AllowedLemmas.{on_allowed}

-- One key is set.

module _ (h : FileHead) (m : Records) (may : MayHave h m) (k : Key) where
  put_may : (w : List ℕ) → Suits h k (Some w) → MayHave h (set_key m k (Some w))
  put_may w suits q v is = go (key_cmp q k) refl (sym (get-insert key_cmp_total m k w q) ∙ is)
    where
      go : (r : Ordering) → key_cmp q k ≡ r → cond (is_eq r) (Some w) (get m q) ≡ Some v → Suits h q (Some v)
      go Less order has = may q v has
      go Equal order has = subst (λ (x : Key). Suits h x (Some v)) (sym (key_cmp-IsAntisymmetric q k order)) (subst (λ (o : Option (List ℕ)). Suits h k o) has suits)
      go Greater order has = may q v has

  removed_may : MayHave h (set_key m k None)
  removed_may q v is = go (key_cmp q k) (sym (get-remove key_cmp_total m k q) ∙ is)
    where
      go : (r : Ordering) → cond (is_eq r) None (get m q) ≡ Some v → Suits h q (Some v)
      go Less has = may q v has
      go Equal has = let no : ⊥ = cc in absurd no
      go Greater has = may q v has

  set_may : (w : Option (List ℕ)) → Suits h k w → MayHave h (set_key m k w)
  set_may (Some w) suits = put_may w suits
  set_may None suits = removed_may

-- Images are set.

if_may : (h : FileHead) (b : Bool) (x y : Records) → MayHave h x → MayHave h y → MayHave h (if b then x else y)
if_may h true x y p q = p
if_may h false x y p q = q

module _ (h : FileHead) (p : Id → Bool) where
  forward_may : (es : List Entry) (m : Records) → AreSuited h es → MayHave h m → MayHave h (forward p es m)
  forward_may [] m all may = may
  forward_may (Changed s k v ∷ es) m all may =
      let rest = forward_may es m all.1 may in
      if_may h (p s) (set_key (forward p es m) k v) (forward p es m) (set_may h (forward p es m) rest k v all.0) rest
  forward_may (Settled s outcome t ∷ es) m all may = forward_may es m all.1 may

  backward_may : (es : List Entry) (m : Records) → AreSuited h es → MayHave h m → MayHave h (backward p es m)
  backward_may [] m all may = may
  backward_may (Changed s k v ∷ es) m all may = backward_may es (if p s then set_key m k v else m) all.1 (if_may h (p s) (set_key m k v) m (set_may h m may k v all.0) may)
  backward_may (Settled s outcome t ∷ es) m all may = backward_may es m all.1 may

-- Entries of the file.

by_head : (h : FileHead) (es : List Entry) → AreSuited (form_of h) es → AreSuited h es
by_head h [] all = tt
by_head h (e ∷ es) all = (suited_by_head h e all.0, by_head h es all.1)

since_suited : (h : FileHead) (p : ℕ) (xs : List Placed) → AreSuited h (all_of xs) → AreSuited h (since p xs)
since_suited h p [] all = tt
since_suited h p (x ∷ xs) all = go (nat_le p x.at) (since_suited h p xs all.1)
  where
    go : (b : Bool) → AreSuited h (since p xs) → AreSuited h (if b then x.entry ∷ since p xs else [])
    go true rest = (all.0, rest)
    go false rest = tt

pub records_suit : RecordsSuit
records_suit c f h (On until) s has allowed current_may saved_may = by_save s.save refl (subst (λ (b : Bool). HasSave c b h s.save) (on_allowed h until allowed).saved has.save)
  where
    by_save : (v : Option Save) → s.save ≡ v → HasSave c true h v → MayHave h (rolled (way_of (On until)) s)
    by_save (Some v) is saved =
        subst (λ (o : Option Save). MayHave h (rolled_on (option_map (λ (u : Moment). u.0) until) o s)) (sym is)
        (forward_may h (chosen (reached (option_map (λ (u : Moment). u.0) until)) (since v.position s.ai.entries)) (since v.position s.ai.entries) v.records (since_suited h v.position s.ai.entries (by_head h (all_of s.ai.entries) has.ai.suited)) (saved_may v is))
    by_save None is saved = absurd saved
records_suit c f h (Back until) s has allowed current_may saved_may =
    backward_may h (chosen (beyond until.0) (all_of s.bi.entries)) (all_of s.bi.entries) (current s.timeline.history) (by_head h (all_of s.bi.entries) has.bi.suited) current_may
