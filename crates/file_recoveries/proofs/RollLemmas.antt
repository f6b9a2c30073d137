-- The records that a recovery makes of a file are those of the world.
use Rattle.std.proofs.Common.{◌≡◌, ℕ, ◌+◌, ◌<◌, ◌≤◌, ◌^◌, Bool, true, false, List, [], ◌∷◌, ◌++◌, Option, Some, None, IfSome, refl, sym, ◌∙◌, ap, subst, arith}
use Rattle.std.specs.Prelude.{option_map}
use Rattle.std.specs.FinMap.{get, same_map}
use Rattle.std.specs.List.{AllByRecursion}
use Rattle.file_base.specs.declared.head.FileHead.{FileHead}
use Rattle.file_base.specs.declared.head.Organization.{Organization}
use Rattle.vms_model.specs.Keys.{Key}
use Rattle.vms_base.specs.declared.moments.Moment.{Moment}
use Rattle.records_model.specs.Records.{Records, key_cmp}
use Rattle.records_model.specs.History.{current}
use Rattle.records_model.proofs.KeyLemmas.{key_cmp_total, key_cmp-IsAntisymmetric}
use Rattle.rolled_records.specs.record_files.Any.{IsFile, IsLaidOut, map_of}
use Rattle.image_entries.specs.recovery_model.File.{Placed, ImageJournal, Save, FileState, IsPlace, all_of, since}
use Rattle.image_entries.specs.recovery_model.Journal.{Entry, Changed, Settled, Below, rolled_forward, rolled_back}
use Rattle.image_entries.specs.recovery_model.Recovery.{rolled, rolled_on}
use Rattle.journal_model.specs.Entries.{IsEntry}
use Rattle.rolled_records.specs.file_images.Images.{AreOf, HasImageJournal, IsOf, entry_by}
use Rattle.rolled_records.specs.file_images.Files.{HasSave, HasSide, SavedIn}
use Rattle.rolled_records.specs.image_laws.Laws.{ImagesAreRead, ImagesArePlaced, IsPlacedIn}
use Rattle.rolled_records.specs.Rolling.{RollsTo, RollsForward, RollsBack}
use Rattle.rolled_records.specs.declared.rolling.Images.{Images}
use Rattle.rolled_records.specs.save_laws.Saves.{save_head}
use Rattle.file_recoveries.specs.Files.{HasFile}
use Rattle.file_recoveries.specs.Rolling.{RollsFile, RollsOn, RollsOff, last_of}

-- the records of a file, read into memory
abbrev pub ReadOf : FileHead → Records → List (List ℕ) → Type 0
ReadOf h m c = IsFile h → IsLaidOut h c → (key : Key) → get m key ≡ map_of h c key

all_parts : (newer older : List Placed) → all_of (newer ++ older) ≡ all_of newer ++ all_of older
all_parts [] older = refl
all_parts (x ∷ newer) older = ap (λ (es : List Entry). x.entry ∷ es) (all_parts newer older)

front_of : {X : Type 0} (P : X → Type 0) (xs ys : List X) → AllByRecursion P (xs ++ ys) → AllByRecursion P xs
front_of P [] ys all = tt
front_of P (x ∷ xs) ys all = (all.0, front_of P xs ys all.1)

-- the entries since a place are of the file, as all are
since_of : (o : Organization) (j : ImageJournal) (p : ℕ) (place : IsPlace p j) → since p j.entries ≡ all_of place.newer → AreOf o (all_of j.entries) → AreOf o (since p j.entries)
since_of o j p place are of = subst (AreOf o) (sym are) (front_of (IsOf o) (all_of place.newer) (all_of place.older) (subst (AreOf o) (ap all_of place.split ∙ all_parts place.newer place.older) of))

-- no moment of an entry is later than the greatest number
all_below : (c : List (List ℕ)) (h : FileHead) (f : ℕ) (xs : List Placed) → AllByRecursion (IsPlacedIn c h.ai f) xs → Below 18446744073709551615 (all_of xs)
all_below c h f [] all = tt
all_below c h f (x ∷ xs) all = by_entry x.entry refl (all_below c h f xs all.1)
  where
    by_entry : (e : Entry) → x.entry ≡ e → Below 18446744073709551615 (all_of xs) → Below 18446744073709551615 (e ∷ all_of xs)
    by_entry (Changed s k v) is rest = rest
    by_entry (Settled s outcome t) is rest = (let fits = subst (λ (y : Entry). IsEntry (entry_by f x.tid y)) is all.0.is in let low = fits.fits in omega (arith, low), rest)

module _ (follow : ImagesAreRead) (stand : ImagesArePlaced) (h : FileHead) (c : List (List ℕ)) where
  with_save : (until : Option Moment) (m0 m : Records) (f : ℕ) (s : FileState) (v : Save) → s.save ≡ Some v → SavedIn c h v → HasFile c f h (current s.timeline.history) s → h.marks.ai ≡ true → h.ai.first ≤ h.save.position → ReadOf (save_head h) m0 c →
      RollsForward (record { span = h.ai; organization = h.organization }) h.save.position (last_of until) m0 m c → m ≡ rolled_on (option_map (λ (u : Moment). u.0) until) (Some v) s
  with_save until m0 m f s v is saved has marked behind read rolls =
      let same : m0 ≡ v.records = same_map key_cmp_total key_cmp-IsAntisymmetric m0 v.records (λ q. read saved.form saved.laid q ∙ saved.records q) in
      let first = has.ai.first in
      let at = saved.position in
      let place = subst (λ (p : ℕ). IsPlace p s.ai) (sym at) (has.place v is (has.ai.on ∙ marked) (omega (arith, behind, first, at))) in
      let images = has.ai.images marked in
      let r = follow c h.ai f s.ai place.newer place.older h.save.position images place.split place.at in
      let so = rolls f s.ai images place (since_of h.organization s.ai h.save.position place r.newer_since has.ai.of) in
      let low = subst (Below 18446744073709551615) (sym r.newer_since) (all_below c h f place.newer (front_of (IsPlacedIn c h.ai f) place.newer place.older (subst (AllByRecursion (IsPlacedIn c h.ai f)) place.split (stand c h.ai f s.ai images)))) in
      by_until until so low same at
    where
      by_until : (until : Option Moment) → RollsTo (last_of until) (since h.save.position s.ai.entries) m0 m → Below 18446744073709551615 (since h.save.position s.ai.entries) → m0 ≡ v.records → h.save.position ≡ v.position → m ≡ rolled_on (option_map (λ (u : Moment). u.0) until) (Some v) s
      by_until (Some until) so low same at = so.by_then ∙ λ i. rolled_forward (Some until.0) (since (at i) s.ai.entries) (same i)
      by_until None so low same at = so.last low ∙ λ i. rolled_forward None (since (at i) s.ai.entries) (same i)

  pub on_so : (until : Option Moment) (m0 m : Records) → h.ai.first ≤ h.save.position → ReadOf (save_head h) m0 c → RollsForward (record { span = h.ai; organization = h.organization }) h.save.position (last_of until) m0 m c → RollsOn h until m c
  on_so until m0 m behind read rolls marked kept f s has = by_save s.save refl (subst (λ (b : Bool). HasSave c b h s.save) kept has.save)
    where
      by_save : (v : Option Save) → s.save ≡ v → HasSave c true h v → m ≡ rolled_on (option_map (λ (u : Moment). u.0) until) s.save s
      by_save (Some v) is saved = with_save until m0 m f s v is saved has marked behind read rolls ∙ ap (λ (x : Option Save). rolled_on (option_map (λ (u : Moment). u.0) until) x s) (sym is)
      by_save None is saved = absurd saved

module _ (h : FileHead) (c : List (List ℕ)) where
  pub off_so : (until : Moment) (m0 m : Records) → ReadOf h m0 c → RollsBack (record { span = h.bi; organization = h.organization }) until.0 m0 m c → RollsOff h until m c
  off_so until m0 m read rolls marked f s has =
      let same : m0 ≡ current s.timeline.history = same_map key_cmp_total key_cmp-IsAntisymmetric m0 (current s.timeline.history) (λ q. read has.form has.laid q ∙ has.records q) in
      rolls f s.bi (has.bi.images marked) has.bi.of ∙ ap (rolled_back until.0 (all_of s.bi.entries)) same

-- The same, in what is told of a content.

pub on_told : (follow : ImagesAreRead) (stand : ImagesArePlaced) (h k : FileHead) (until : Option Moment) (last : Moment) (m0 m : Records) (o a : Option (List (List ℕ))) → o ≡ a → k ≡ save_head h → last.0 ≡ last_of until → h.ai.first ≤ h.save.position → IfSome a (ReadOf k m0) →
    IfSome o (RollsForward (record { span = h.ai; organization = h.organization }) h.save.position last.0 m0 m) → IfSome a (RollsOn h until m)
on_told follow stand h k until last m0 m o a same head is behind read rolls = by_content a read (subst (λ (x : Option (List (List ℕ))). IfSome x (RollsForward (record { span = h.ai; organization = h.organization }) h.save.position last.0 m0 m)) same rolls)
  where
    by_content : (a : Option (List (List ℕ))) → IfSome a (ReadOf k m0) → IfSome a (RollsForward (record { span = h.ai; organization = h.organization }) h.save.position last.0 m0 m) → IfSome a (RollsOn h until m)
    by_content None read rolls = tt
    by_content (Some c) read rolls = on_so follow stand h c until m0 m behind (subst (λ (x : FileHead). ReadOf x m0 c) head read) (subst (λ (n : ℕ). RollsForward (record { span = h.ai; organization = h.organization }) h.save.position n m0 m c) is rolls)

pub off_told : (h : FileHead) (until : Moment) (m0 m : Records) (o a : Option (List (List ℕ))) → o ≡ a → IfSome a (ReadOf h m0) → IfSome o (RollsBack (record { span = h.bi; organization = h.organization }) until.0 m0 m) → IfSome a (RollsOff h until m)
off_told h until m0 m o a same read rolls = by_content a read (subst (λ (x : Option (List (List ℕ))). IfSome x (RollsBack (record { span = h.bi; organization = h.organization }) until.0 m0 m)) same rolls)
  where
    by_content : (a : Option (List (List ℕ))) → IfSome a (ReadOf h m0) → IfSome a (RollsBack (record { span = h.bi; organization = h.organization }) until.0 m0 m) → IfSome a (RollsOff h until m)
    by_content None read rolls = tt
    by_content (Some c) read rolls = off_so h c until m0 m read rolls
