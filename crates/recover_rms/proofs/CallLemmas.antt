-- What calls leave of a volume.
use Rattle.std.proofs.Common.{◌≡◌, ◌*◌, ℕ, List, Option, Some, None, IfSome, Result, Ok, Err, IfOk, IfErr, refl, sym, ◌∙◌, ap, subst, inl}
use Rattle.std.specs.Prelude.{unwrap_or}
use Rattle.block_disk.specs.Disk.{DiskState}
use Rattle.careful_write.specs.Content.{content_of}
use Rattle.careful_write.specs.Down.{CountsDown, went_down}
use Rattle.careful_write.specs.Reads.{as_read_by}
use Rattle.careful_write.specs.State.{IsIdle, OneContent, StoreState}
use Rattle.careful_write.specs.Steps.{AgreesOff}
use Rattle.careful_write.specs.declared.down.Down.{Down}
use Rattle.file_base.specs.declared.head.FileHead.{FileHead}
use Rattle.image_entries.specs.journal_store.Refusing.{Stays}
use Rattle.load_pages.specs.load_laws.Records.{Keyed}
use Rattle.records_model.specs.Records.{Records}
use Rattle.image_entries.specs.recovery_model.File.{FileState}
use Rattle.image_entries.specs.recovery_model.Recovery.{rolled}
use Rattle.save_sets.proofs.CopyLaws.{answer_leaves}
use Rattle.vms_base.specs.declared.ids.Serial.{Serial}
use Rattle.volume.specs.declared.catalog.Catalog.{Catalog}
use Rattle.volume.specs.Catalogs.{head_at}
use Rattle.volume.specs.State.{SameVolume, VolumeState}
use Rattle.file_recoveries.specs.Causes.{cause_of, way_of}
use Rattle.file_recoveries.specs.Rolling.{RollsFile}
use Rattle.file_recoveries.specs.declared.causes.Way.{Way}
use Rattle.file_recoveries.specs.declared.errors.RecoverErr.{RecoverErr}
use Rattle.file_recoveries.specs.declared.errors.RecoverErr.TheVariants as err
use Rattle.recover_rms.specs.Calls.{AreMade, IsAsked, IsRecovered, NotMade, NotRecovered}
use Rattle.file_recoveries.specs.Suiting.{MayHave}
use Rattle.recover_rms.specs.Loading.{KeepsAll, as_loaded}
use Rattle.recover_rms.specs.Replacing.{IsOldOrNew, NotReplaced, Replaced, is_unused, wanted_buckets}

-- a store that is as it was, but for reads
pub stays_same : (v : VolumeState) (s : StoreState) → Stays v.store s → SameVolume v (record v { store = s })
stays_same v s stays = λ i. record v { store = record { disk = stays.disk i; current = stays.current i; touched = stays.touched i; pool = stays.pool i; fits = stays.fits i; reads = s.reads } }

-- the records that are kept are those that are made
pub made_so : (f : ℕ) (way : Way) (v : VolumeState) (h : FileHead) (m : Records) (es : List Keyed) → IfSome v.store.current (RollsFile h way m) → KeepsAll h m es → AreMade f way v h es
made_so f way v h m es rolls keeps content s asked =
    let is : m ≡ rolled (way_of way) s = (subst (λ (o : Option (List (List ℕ))). IfSome o (RollsFile h way m)) asked.told rolls) f s asked.file in
    keeps (subst (MayHave h) (sym is) asked.may) ∙ ap (as_loaded h) is

-- A disk that went down where it was read.
fell_counts : (down : Down) (a b : DiskState) → b ≡ went_down down a → CountsDown down a b
fell_counts down a b is = subst (CountsDown down a) (sym is) (record { size = refl; calls = refl; faults = refl; stops = refl; told = refl })

-- what an image has where each has what was there
old_stands : (f : ℕ) (v : VolumeState) (h : FileHead) (es : List Keyed) (content image : List (List ℕ)) → v.store.current ≡ Some content → IfSome v.store.current (λ before. AgreesOff (is_unused v.catalog) before image) → IsOldOrNew f v.catalog h es content image
old_stands f v h es content image told agrees = inl (subst (λ (o : Option (List (List ℕ))). IfSome o (λ before. AgreesOff (is_unused v.catalog) before image)) told agrees)

module _ (f : ℕ) (way : Way) (user : Option Serial) (h : FileHead) (v w : VolumeState) (allowed : cause_of h way user ≡ None) where
  -- nothing was made
  pub not_made_so : (e : RecoverErr) → OneContent → IsIdle v.store → NotMade e v w → NotRecovered f way user h e v w
  not_made_so err.Memory one idle same = record { allowed = allowed; same = same }
  not_made_so (err.Down down) one idle fell = record {
    allowed = allowed;
    leaves = λ content s asked image may.
        let r : Result (Unit {0}) Down = Err down in
        let at = answer_leaves (is_unused v.catalog) r v.store w.store.disk one idle fell.1.disk image may in
        (at.0, old_stands f v h (as_loaded h (rolled (way_of way) s)) content (content_of image) asked.told at.1);
    counts = fell_counts down v.store.disk w.store.disk fell.1.disk;
    pool = fell.1.pool;
    home = ap (λ (x : Catalog). x.home) fell.0;
    ru = ap (λ (x : Catalog). x.ru) fell.0;
  }
  not_made_so (err.Full free needed) one idle other = absurd other
  not_made_so err.NoJournal one idle other = absurd other
  not_made_so err.NoSave one idle other = absurd other
  not_made_so (err.InUse serial) one idle other = absurd other
  not_made_so (err.Early until save) one idle other = absurd other
  not_made_so (err.Span needed first) one idle other = absurd other

  module _ (es : List Keyed) (made : AreMade f way v h es) (x : StoreState) where
    -- the volume with other reads
    abbrev read : VolumeState
    read = record v { store = as_read_by x v.store }

    pub recovered_so : (count : ℕ) → Replaced f h es count read w → IsRecovered f way user h count v w
    recovered_so count r = record {
      allowed = allowed;
      records = es;
      made = made;
      replaced = record { new = r.new; head = r.head; told = r.told; catalog = r.catalog; counted = r.counted; holds = r.holds; idle = r.idle; quiet = r.quiet; pool = r.pool };
    }

    same_so : w ≡ read → SameVolume v w
    same_so same = subst (SameVolume v) (sym same) refl

    one_of : (content image : List (List ℕ)) (s : FileState) → IsAsked f way v h content s → IfSome v.store.current (λ c. IsOldOrNew f v.catalog h es c image) → IsOldOrNew f v.catalog h (as_loaded h (rolled (way_of way) s)) content image
    one_of content image s asked either =
        subst (λ (ks : List Keyed). IsOldOrNew f v.catalog h ks content image) (made content s asked) (subst (λ (o : Option (List (List ℕ))). IfSome o (λ c. IsOldOrNew f v.catalog h es c image)) asked.told either)

    pub not_recovered_so : (e : RecoverErr) → NotReplaced f h es e read w → NotRecovered f way user h e v w
    not_recovered_so err.Memory same = record { allowed = allowed; same = same_so same }
    not_recovered_so (err.Full free needed) full = record {
      allowed = allowed;
      same = same_so full.same;
      longest = full.longest;
      fewer = full.fewer;
      needed_is = λ content s asked. full.needed_is ∙ ap (λ (ks : List Keyed). wanted_buckets h ks * h.bucket) (made content s asked);
    }
    not_recovered_so (err.Down down) fell = record {
      allowed = allowed;
      leaves = λ content s asked image may. let at = fell.leaves image may in (at.0, one_of content (content_of image) s asked at.1);
      counts = fell.counts;
      pool = fell.pool;
      home = fell.home;
      ru = fell.ru;
    }
    not_recovered_so err.NoJournal other = absurd other
    not_recovered_so err.NoSave other = absurd other
    not_recovered_so (err.InUse serial) other = absurd other
    not_recovered_so (err.Early until save) other = absurd other
    not_recovered_so (err.Span needed first) other = absurd other

-- Answers.

pub if_ok : {T E : Type 0} (r : Result T E) {P Q : T → Type 0} → ((x : T) → P x → Q x) → IfOk r P → IfOk r Q
if_ok (Ok x) f p = f x p
if_ok (Err e) f p = tt

pub if_err : {T E : Type 0} (r : Result T E) {P Q : E → Type 0} → ((e : E) → P e → Q e) → IfErr r P → IfErr r Q
if_err (Ok x) f p = tt
if_err (Err e) f p = f e p

-- a file number has one head
pub same_head : (heads : List (Option FileHead)) (f : ℕ) (h k : FileHead) → head_at heads f ≡ Some h → head_at heads f ≡ Some k → h ≡ k
same_head heads f h k one other = some_is h k (sym one ∙ other)
  where
    some_is : (x y : FileHead) → Some x ≡ Some y → x ≡ y
    some_is x y e = ap (λ (o : Option FileHead). unwrap_or o x) e
