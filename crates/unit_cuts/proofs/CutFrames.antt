-- What entries behind the ends of journals leave of a file.
use Rattle.std.proofs.Common.{◌≡◌, ℕ, ◌+◌, ◌-◌, ◌<◌, ◌≤◌, Bool, true, false, List, Option, Some, None, IfSome, length, option_map, refl, sym, ap, subst, ◌∙◌, arith}
use Rattle.std.specs.Prelude.{IsSomeAnd}
use Rattle.std.specs.List.{AllByRecursion, flat_map}
use Rattle.change_set.specs.Files.{AgreesOn}
use Rattle.change_set.specs.Maps.{Map}
use Rattle.change_set.specs.declared.walk.Place.{Place}
use Rattle.file_base.specs.declared.head.FileHead.{FileHead}
use Rattle.file_base.specs.declared.head.Organization.TheVariants.{Sequential}
use Rattle.file_base.specs.declared.head.Span.{Span}
use Rattle.journal_model.specs.Entries.{Entry, spelling}
use Rattle.journal_store.proofs.Journals.{keeps_others}
use Rattle.volume_files.specs.record_files.Any.{Begins, IsFile, IsLaidOut, map_of}
use Rattle.volume_files.specs.seq_file.Records.{cut_from}
use Rattle.unit_journal.proofs.Entered.{still_tells}
use Rattle.vms_model.specs.Keys.{Key}
use Rattle.volume.specs.Catalogs.{StandsOnTheFront, TellsCatalog}
use Rattle.volume.specs.declared.catalog.Catalog.{Catalog}
use Rattle.volume.specs.State.{VolumeState, Holds}
use Rattle.volume_files.specs.Staging.{TellsCut}
use Rattle.image_appends.specs.Images.{HasRoom}
use Rattle.unit_cuts.specs.Records.{OfRecords}
use Rattle.unit_cuts.specs.Truncating.{AllTold, AreBegun, IsBehindIf, IsPlaceOf, IsTold, LiesBeside, WritesBehind, WritesImages, CutEntries, with_entries, with_entries_if}
use Rattle.unit_cuts.specs.Moving.{ImagesLieBeside}
use Rattle.unit_cuts.proofs.CutEntering.{behind_entries, behind_none, file_stays, laid_agrees, laid_agrees_back, layout_agrees, map_agrees, place_agrees, places_agree}

abbrev Content : Type 0
Content = List (List ℕ)

-- Two volumes tell contents with the same blocks of a file, or neither tells one.
pub record KeepsFile (h : FileHead) (v w : VolumeState) : Type 0 where
  pub on : (a : Content) → v.store.current ≡ Some a → (b : Content) × (w.store.current ≡ Some b) × AgreesOn h a b
  pub back : (b : Content) → w.store.current ≡ Some b → (a : Content) × (v.store.current ≡ Some a) × AgreesOn h a b

pub keeps_then : (h : FileHead) (u v w : VolumeState) → KeepsFile h u v → KeepsFile h v w → KeepsFile h u w
keeps_then h u v w first second = record {
  on = λ a told. (let x = first.on a told in let y = second.on x.0 x.1 in (y.0, y.1, λ n is. x.2 n is ∙ y.2 n is));
  back = λ b told. (let y = second.back b told in let x = first.back y.0 y.1 in (x.0, x.1, λ n is. x.2 n is ∙ y.2 n is));
}

module _ (h : FileHead) (v w : VolumeState) (keeps : KeepsFile h v w) where
  pub records_on : (P : Map → Type 0) → OfRecords h v P → OfRecords h w P
  records_on P holds b told form laid =
      let x = keeps.back b told in
      let was = laid_agrees_back h x.0 b x.2 form laid in
      subst P (map_agrees h x.0 b x.2 form was) (holds x.0 x.1 form was)

  pub records_back : (P : Map → Type 0) → OfRecords h w P → OfRecords h v P
  records_back P holds a told form laid =
      let x = keeps.on a told in
      subst P (sym (map_agrees h a x.0 x.2 form laid)) (holds x.0 x.1 form (laid_agrees h a x.0 x.2 form laid))

  pub begun_on : (places : List Place) → h.organization ≡ Sequential → AreBegun h v places → AreBegun h w places
  begun_on places seq begun b told form laid =
      let x = keeps.back b told in
      places_agree h x.0 b x.2 places seq form (begun x.0 x.1 form (laid_agrees_back h x.0 b x.2 form laid))

  pub begins_on : (place : Place) (key : Option Key) → h.organization ≡ Sequential → ((a : Content) → v.store.current ≡ Some a → IsFile h → IsLaidOut h a → IsPlaceOf h a place) → IfSome w.store.current (λ b. IsFile h → IsLaidOut h b → Begins h b key place)
  begins_on place key seq at = go w.store.current refl
    where
      go : (o : Option Content) → w.store.current ≡ o → IfSome o (λ b. IsFile h → IsLaidOut h b → Begins h b key place)
      go None is = tt
      go (Some b) is = λ form laid. let x = keeps.back b is in (place_agrees h x.0 b x.2 place seq form (at x.0 x.1 form (laid_agrees_back h x.0 b x.2 form laid))).begins key

  pub cuts_back : (from : ℕ) (cut : VolumeState) (head : FileHead) → TellsCut h from w cut head → TellsCut h from v cut head
  cuts_back from cut head cuts a told form laid =
      let x = keeps.on a told in
      let is = cuts x.0 x.1 form (laid_agrees h a x.0 x.2 form laid) in (
        is.0,
        is.1,
        record {
          whole = is.2.whole;
          form = is.2.form;
          laid = is.2.laid;
          map = is.2.map ∙ ap (cut_from from) (sym (map_agrees h a x.0 x.2 form laid));
          layout = is.2.layout ∙ sym (layout_agrees h a x.0 x.2 form laid);
        },
      )

-- Entries behind the end of a journal, where it is kept.

-- a journal has room
abbrev pub HasRoomFor : (kept : Bool) → Span → List Entry → VolumeState → Type 0
HasRoomFor kept s es v = kept ≡ true → HasRoom (length (flat_map spelling es)) s v.store.disk

module _ (s : Span) (es : List Entry) (v : VolumeState) where
  agrees_if : (h : FileHead) (kept : Bool) → (kept ≡ true → LiesBeside h s) → HasRoomFor kept s es v → (a : Content) → AgreesOn h a (with_entries_if kept s es a)
  agrees_if h true beside room a = file_stays h s (beside refl) (room refl).ring.some a es
  agrees_if h false beside room a = λ n is. refl

  pub behind_if : (kept : Bool) → HasRoomFor kept s es v → (a : Content) → IsBehindIf kept s a (with_entries_if kept s es a)
  behind_if true room a = let r = room refl in behind_entries s es a r.ring.some (omega (arith, r.room, r.ring.order))
  behind_if false room a = refl

  pub tells_if : (kept : Bool) (k : Catalog) (o : Option Content) → StandsOnTheFront → HasRoomFor kept s es v → IfSome o (TellsCatalog k) → IfSome (option_map (with_entries_if kept s es) o) (TellsCatalog k)
  tells_if true k o front room tells = let r = room refl in still_tells k s s.end (flat_map spelling es) o front (λ bs c t p blocks. keeps_others bs c t p blocks) r.behind r.ring.some tells
  tells_if false k None front room tells = tt
  tells_if false k (Some c) front room tells = tells

behind_if_none : (kept : Bool) (s : Span) (a : Content) → IsBehindIf kept s a a
behind_if_none true s a = behind_none s a
behind_if_none false s a = refl

module _ (kept : Bool) (s : Span) (es : List Entry) (v w : VolumeState) (writes : WritesBehind kept s es v w) where
  pub now_at : (a : Content) → v.store.current ≡ Some a → w.store.current ≡ Some (with_entries_if kept s es a)
  now_at a told = writes.current ∙ ap (option_map (with_entries_if kept s es)) told

  before_at : (b : Content) → w.store.current ≡ Some b → (a : Content) × (v.store.current ≡ Some a) × (with_entries_if kept s es a ≡ b)
  before_at b told = go v.store.current refl (sym writes.current ∙ told)
    where
      go : (o : Option Content) → v.store.current ≡ o → option_map (with_entries_if kept s es) o ≡ Some b → (a : Content) × (v.store.current ≡ Some a) × (with_entries_if kept s es a ≡ b)
      go None was is = let no : ⊥ = cc in absurd no
      go (Some a) was is = (a, was, (let e : with_entries_if kept s es a ≡ b = cc in e))

  pub writes_keep : (h : FileHead) → (kept ≡ true → LiesBeside h s) → KeepsFile h v w
  writes_keep h beside = record {
    on = λ a told. (with_entries_if kept s es a, now_at a told, agrees_if s es v h kept beside writes.room a);
    back = λ b told. (let x = before_at b told in (x.0, x.1, subst (AgreesOn h x.0) x.2 (agrees_if s es v h kept beside writes.room x.0)));
  }

  pub writes_hold : StandsOnTheFront → Holds v → Holds w
  writes_hold front holds = subst (λ (o : Option Content). IfSome o (TellsCatalog w.catalog)) (sym writes.current)
      (subst (λ (k : Catalog). IfSome (option_map (with_entries_if kept s es) v.store.current) (TellsCatalog k)) (sym writes.catalog)
      (tells_if s es v kept v.catalog v.store.current front writes.room holds))

-- What is told while a truncation writes its entries.

module _ (h : FileHead) (ru : Span) where
  pub told_none : (o : Option Content) (c : Content) → Some c ≡ o → AllTold h ru o c
  told_none None c is = let no : ⊥ = cc in absurd no
  told_none (Some a) c is = let same : a ≡ c = cc in subst (AllTold h ru (Some a)) same
      (record { befores = a; in_befores = behind_if_none h.marks.bi h.bi a; afters = a; in_afters = behind_if_none h.marks.ai h.ai a; in_ru = behind_none ru a })

  pub told_befores : (o : Option Content) (c : Content) → IsTold h.marks.bi h.bi o c → AllTold h ru o c
  told_befores None c told = absurd told
  told_befores (Some a) c told = record { befores = c; in_befores = told; afters = c; in_afters = behind_if_none h.marks.ai h.ai c; in_ru = behind_none ru c }

  pub told_afters : (es : List Entry) (v mid : VolumeState) (c : Content) → WritesBehind h.marks.bi h.bi es v mid → IsTold h.marks.ai h.ai mid.store.current c → AllTold h ru v.store.current c
  told_afters es v mid c writes told = go v.store.current (subst (λ (o : Option Content). IsTold h.marks.ai h.ai o c) writes.current told)
    where
      go : (o : Option Content) → IsTold h.marks.ai h.ai (option_map (with_entries_if h.marks.bi h.bi es) o) c → AllTold h ru o c
      go None told = absurd told
      go (Some a) told = record { befores = with_entries_if h.marks.bi h.bi es a; in_befores = behind_if h.bi es v h.marks.bi writes.room a; afters = c; in_afters = told; in_ru = behind_none ru c }

  pub told_ru : (es : CutEntries) (v w : VolumeState) (c : Content) → WritesImages h es v w → IsTold true ru w.store.current c → AllTold h ru v.store.current c
  told_ru es v w c writes told = go v.store.current
      (subst (λ (o : Option Content). IsTold true ru (option_map (with_entries_if h.marks.ai h.ai es.gone) o) c) writes.befores.current (subst (λ (o : Option Content). IsTold true ru o c) writes.afters.current told))
    where
      go : (o : Option Content) → IsTold true ru (option_map (with_entries_if h.marks.ai h.ai es.gone) (option_map (with_entries_if h.marks.bi h.bi es.images) o)) c → AllTold h ru o c
      go None told = absurd told
      go (Some a) told =
          let b = with_entries_if h.marks.bi h.bi es.images a in
          record { befores = b; in_befores = behind_if h.bi es.images v h.marks.bi writes.befores.room a; afters = with_entries_if h.marks.ai h.ai es.gone b; in_afters = behind_if h.ai es.gone writes.mid h.marks.ai writes.afters.room b; in_ru = told }

-- so once all are written
pub told_written : (h : FileHead) (es : CutEntries) (v imaged written : VolumeState) (ru : Span) (c : Content) → WritesImages h es v imaged → WritesBehind true ru es.had imaged written → Some c ≡ written.store.current → AllTold h ru v.store.current c
told_written h es v imaged written ru c images writes is = told_ru h ru es v imaged c images (go imaged.store.current (is ∙ writes.current))
  where
    go : (o : Option Content) → Some c ≡ option_map (with_entries ru es.had) o → IsTold true ru o c
    go None is = let no : ⊥ = cc in absurd no
    go (Some b) is = let same : with_entries ru es.had b ≡ c = cc in subst (IsTold true ru (Some b)) same (behind_if ru es.had imaged true writes.room b)

-- so once the images alone are written
pub told_images : (h : FileHead) (es : CutEntries) (v w : VolumeState) (ru : Span) (c : Content) → WritesImages h es v w → Some c ≡ w.store.current → AllTold h ru v.store.current c
told_images h es v w ru c writes is = told_ru h ru es v w c writes (go w.store.current is)
  where
    go : (o : Option Content) → Some c ≡ o → IsTold true ru o c
    go None is = let no : ⊥ = cc in absurd no
    go (Some b) is = let same : b ≡ c = cc in subst (IsTold true ru (Some b)) same (behind_none ru b)

-- The images of a truncation leave the file's buckets.
pub images_keep : (h : FileHead) (es : CutEntries) (v w : VolumeState) → ImagesLieBeside h → WritesImages h es v w → KeepsFile h v w
images_keep h es v w beside writes = keeps_then h v writes.mid w (writes_keep h.marks.bi h.bi es.images v writes.mid writes.befores h beside.befores) (writes_keep h.marks.ai h.ai es.gone writes.mid w writes.afters h beside.afters)

pub images_hold : (h : FileHead) (es : CutEntries) (v w : VolumeState) → StandsOnTheFront → WritesImages h es v w → Holds v → Holds w
images_hold h es v w front writes holds = writes_hold h.marks.ai h.ai es.gone writes.mid w writes.afters front (writes_hold h.marks.bi h.bi es.images v writes.mid writes.befores front holds)

pub images_catalog : (h : FileHead) (es : CutEntries) (v w : VolumeState) → WritesImages h es v w → w.catalog ≡ v.catalog
images_catalog h es v w writes = writes.afters.catalog ∙ writes.befores.catalog

pub images_size : (h : FileHead) (es : CutEntries) (v w : VolumeState) → WritesImages h es v w → w.store.disk.size ≡ v.store.disk.size
images_size h es v w writes = writes.afters.size ∙ writes.befores.size
