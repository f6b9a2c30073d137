-- The outcome of a branch in the journals of files that a fall left, once the branch is undone in their buckets.
use Rattle.std.proofs.Common.{◌≡◌, ℕ, suc, zero, ◌<◌, ◌≤◌, Bool, true, false, List, [], ◌∷◌, Option, Some, None, length, map, slice_index_or, refl, sym, ◌∙◌, ap, subst, arith}
use Rattle.std.specs.Option.{option_map}
use Rattle.std.proofs.lemmas.List.{length-map}
use Rattle.std.specs.FinMap.{get}
use Rattle.careful_write.specs.State.{EachWhole}
use Rattle.extents.specs.declared.extent.Extent.{Extent as Area}
use Rattle.file_base.specs.declared.head.FileHead.{FileHead}
use Rattle.file_base.specs.declared.head.Organization.{Organization as Kept}
use Rattle.file_base.specs.declared.head.Organization.TheVariants.{Sequential, Relative, Indexed}
use Rattle.restart_laws.specs.change_set.Files.{AgreesOn}
use Rattle.restart_laws.specs.change_set.Maps.{Map}
use Rattle.restart_laws.specs.record_files.Any.{map_of}
use Rattle.vms_model.specs.Keys.{Key}
use Rattle.records_model.specs.Records.{Records}
use Rattle.records_model.specs.History.{records}
use Rattle.tree_model.specs.Layouts.{Layout}
use Rattle.recovery_model.specs.unit_laws.Units.{map_in, Represents}
use Rattle.restart_laws.specs.run_model.World.{Carried, File, Settlement, settled_file, with_outcome}
use Rattle.image_room.specs.image_appends.Settling.{content_from, heads_from}
use Rattle.restart_laws.specs.directory_model.Files.{AreFiles, Fit, IsCarried, IsFile, IsPlace, file_at, head_at, layout_of}
use Rattle.restart_laws.specs.directory_model.Restoring.{AlikeBare, AreLeft, IsLayoutOf, IsLeft, IsPlaceLeft}
use Rattle.restart_laws.specs.directory_model.Laws.{carrying, settled_buckets, spelled_entry}
use Rattle.restart_laws.proofs.directory_model.Places.{file_mapped}
use Rattle.restart_laws.proofs.directory_model.ReadingEntries.{some}
use Rattle.restart_laws.specs.Restorable.{IsDressed, SameBuckets}
use Rattle.restart_laws.proofs.StayLemmas.{can_same, can_stand}
use Rattle.image_groups.specs.Groups.{AllDressed, AreFitting, AreToldBy, EntersOutcomeLeft, HaveRoom, IsToldBy, outcome_of, told_file}
use Rattle.image_groups.proofs.Outcomes.{enters_told, there_changed}

-- A file whose records are what its buckets have.
abbrev as_it_is : Records → Layout → File → File
as_it_is m layout file = record file { history = record { base = m; moment = 0; settled = []; live = [] }; layout = layout }

record IsAs (c : List (List ℕ)) (h : FileHead) (file x : File) : Type 0 where
  has : Records
  told : (key : Key) → get has key ≡ map_of h c key
  is : x ≡ as_it_is has (layout_of h c) file

file_as : (c : List (List ℕ)) (h : FileHead) (file : File) → IsLeft c h file → (x : File) × IsFile c h x × IsAs c h file x
file_as c h file left =
    let m = some c h left.head.form left.laid in (
      as_it_is m.0 (layout_of h c) file,
      record {
        head = record { name = left.head.name; bucket = left.head.bucket; record_size = left.head.record_size; organization = left.head.organization; start = left.head.start; buckets = left.head.buckets; units = left.head.units; form = left.head.form };
        laid = left.laid;
        records = m.1;
        layout = refl;
      },
      record { has = m.0; told = m.1; is = refl },
    )

-- so at a place
abbrev PlaceAs : List (List ℕ) → Option FileHead → Option File → Option File → Type 0
PlaceAs c None p x = Unit {0}
PlaceAs c (Some h) (Some file) (Some x) = IsAs c h file x
PlaceAs c (Some h) None x = ⊥
PlaceAs c (Some h) (Some file) None = ⊥

place_as : (c : List (List ℕ)) (f : ℕ) (o : Option FileHead) (p : Option File) → IsPlaceLeft c f o p → (x : Option File) × IsPlace c f o x × PlaceAs c o p x
place_as c f None None left = (None, tt, tt)
place_as c f None (Some file) left = absurd left
place_as c f (Some h) None left = absurd left
place_as c f (Some h) (Some file) left = let it = file_as c h file left.0 in (Some it.0, (it.1, subst (λ (y : File). IsCarried c f h y.carried) (sym it.2.is) left.1), it.2)

-- and at all places
record AllAs (c : List (List ℕ)) (number : ℕ → ℕ) (heads : List (Option FileHead)) (directory : List (Option File)) : Type 0 where
  all : List (Option File)
  long : length all ≡ length directory
  are : (f : ℕ) → IsPlace c (number f) (head_at heads f) (file_at all f)
  as_left : (f : ℕ) → PlaceAs c (head_at heads f) (file_at directory f) (file_at all f)

all_as_left : (c : List (List ℕ)) (number : ℕ → ℕ) (heads : List (Option FileHead)) (directory : List (Option File)) → length heads ≡ length directory → ((f : ℕ) → IsPlaceLeft c (number f) (head_at heads f) (file_at directory f)) → AllAs c number heads directory
all_as_left c number [] [] long left = record { all = []; long = refl; are = λ f. tt; as_left = λ f. tt }
all_as_left c number [] (p ∷ directory) long left = absurd (omega (arith, long))
all_as_left c number (o ∷ heads) [] long left = absurd (omega (arith, long))
all_as_left c number (o ∷ heads) (p ∷ directory) long left =
    let first = place_as c (number 0) o p (left 0) in
    let rest = all_as_left c (λ f. number (suc f)) heads directory (omega (arith, long)) (λ f. left (suc f)) in
    record { all = first.0 ∷ rest.all; long = let l = rest.long in omega (arith, l); are = are_all first.0 first.1 rest; as_left = as_all first.0 first.2 rest }
  where
    are_all : (x : Option File) → IsPlace c (number 0) o x → (rest : AllAs c (λ f. number (suc f)) heads directory) → (f : ℕ) → IsPlace c (number f) (head_at (o ∷ heads) f) (file_at (x ∷ rest.all) f)
    are_all x is rest zero = is
    are_all x is rest (suc f) = rest.are f

    as_all : (x : Option File) → PlaceAs c o p x → (rest : AllAs c (λ f. number (suc f)) heads directory) → (f : ℕ) → PlaceAs c (head_at (o ∷ heads) f) (file_at (p ∷ directory) f) (file_at (x ∷ rest.all) f)
    as_all x is rest zero = is
    as_all x is rest (suc f) = rest.as_left f

-- What is left of a file, by a head of the same buckets.

own_still : (o : Kept) (file : File) (r : Carried) → IsLayoutOf o (carrying r file) → IsLayoutOf o file
own_still Sequential file r own = own
own_still Relative file r own = own
own_still Indexed file r own = record { ordered = own.ordered; tells = own.tells }

module _ (s : Settlement) (c b : List (List ℕ)) (f : ℕ) where
  abbrev bare : File → File
  bare file = carrying file.carried (settled_file s file)

  file_told : (h new : FileHead) (told : Bool) (file x : File) → IsAs c h (bare file) x → IsLeft c h (bare file) → SameBuckets h new → AgreesOn h c b → IsFile b new (told_file told s x) → IsLeft b new (settled_file s file)
  file_told h new told file x is left same agrees now =
      let made = subst (λ (y : File). IsFile b new (told_file told s y)) is.is now in
      let maps : map_of h c ≡ map_of new b = λ i key. (sym (is.told key) ∙ made.records key) i in
      record {
        head = record { name = made.head.name; bucket = made.head.bucket; record_size = made.head.record_size; organization = made.head.organization; start = made.head.start; buckets = made.head.buckets; units = made.head.units; form = made.head.form };
        laid = made.laid;
        represents = subst (λ (m : Map). Represents (settled_file s file).history.live m (map_in (records (settled_file s file).history))) maps left.represents;
        layout = subst (λ (l : Layout). AlikeBare l (settled_file s file).layout) made.layout left.layout;
        own = subst (λ (k : Kept). IsLayoutOf k (settled_file s file)) (sym (ap (λ (k : FileHead). k.organization) same.is)) (own_still h.organization (settled_file s file) file.carried left.own);
        can = can_same b h new (settled_file s file).history.live same (can_stand h.organization h c b (settled_file s file).history.live left.head.form agrees left.laid left.can);
      }

  -- the keys have what they had
  place_maps : (told : Bool) (o o' : Option FileHead) (p x : Option File) (h new : FileHead) → o ≡ Some h → o' ≡ Some new → IsPlaceLeft c f o p → PlaceAs c o p x → IsPlace b f o' (option_map (told_file told s) x) → map_of h c ≡ map_of new b
  place_maps told None o' p x h new there now_there left is now = let no : ⊥ = cc in absurd no
  place_maps told (Some k) None p x h new there now_there left is now = let no : ⊥ = cc in absurd no
  place_maps told (Some k) (Some l) None x h new there now_there left is now = absurd left
  place_maps told (Some k) (Some l) (Some file) None h new there now_there left is now = absurd is
  place_maps told (Some k) (Some l) (Some file) (Some x) h new there now_there left is now =
      let first : k ≡ h = cc in
      let second : l ≡ new = cc in
      let made = subst (λ (y : File). IsFile b l (told_file told s y)) is.is now.0 in
      let maps : map_of k c ≡ map_of l b = λ i key. (sym (is.told key) ∙ made.records key) i in
      ap (λ (y : FileHead). map_of y c) (sym first) ∙ maps ∙ ap (λ (y : FileHead). map_of y b) second

  place_told : (told : Bool) (o o' : Option FileHead) (p x : Option File) → IsPlaceLeft c f o (option_map bare p) → PlaceAs c o (option_map bare p) x → IsDressed c o b o' → IsPlace b f o' (option_map (told_file told s) x) → IsToldBy s told p →
      IsPlaceLeft b f o' (option_map (settled_file s) p)
  place_told told None None None x left is dressed now tells = tt
  place_told told None None (Some file) x left is dressed now tells = absurd left
  place_told told None (Some new) p x left is dressed now tells = absurd dressed
  place_told told (Some h) None p x left is dressed now tells = absurd dressed
  place_told told (Some h) (Some new) None x left is dressed now tells = absurd left
  place_told told (Some h) (Some new) (Some file) None left is dressed now tells = absurd is
  place_told told (Some h) (Some new) (Some file) (Some x) left is dressed now tells = (
    file_told h new told file x is left.0 dressed.0 dressed.1 now.0,
    subst (λ (t : Bool). IsCarried b f new (with_outcome t s file.carried)) (sym tells) (subst (λ (y : File). IsCarried b f new (with_outcome told s y.carried)) is.is now.1),
  )

abbrev content_told : List Bool → Settlement → List (Option FileHead) → List (List ℕ) → List (List ℕ)
content_told files s heads c = content_from 0 files (spelled_entry 0 s.tid (outcome_of s)) heads c

abbrev heads_told : List Bool → Settlement → List (Option FileHead) → List (Option FileHead)
heads_told files s heads = heads_from 0 files (length (spelled_entry 0 s.tid (outcome_of s))) heads

pub enters_outcome_left : EntersOutcomeLeft
enters_outcome_left c area heads directory files s left fit behind whole told room =
    let all = all_as_left c (λ f. f) heads (settled_buckets s directory) (left.heads_long ∙ sym left.directory_long) left.each in
    let tells = enters_told c area heads all.all files s
    (record { files = record { heads_long = left.heads_long; directory_long = all.long ∙ left.directory_long; each = all.are }; fit = fit; behind = behind; whole = whole })
    (record { there = λ f on. there_as f (there_changed s (file_at directory f) (subst (λ b. IsToldBy s b (file_at directory f)) on (told f))) all.all (file_at all.all f) refl (head_at heads f) (left.each f) (all.as_left f); may = room }) in
    record {
      left = record {
        heads_long = tells.enters.fitting.files.heads_long;
        directory_long = length-map directory (option_map (settled_file s)) ∙ sym (length-map directory (option_map (λ file. carrying file.carried (settled_file s file)))) ∙ left.directory_long;
        each = λ f. subst (λ p. IsPlaceLeft (content_told files s heads c) f (head_at (heads_told files s heads) f) p) (sym (file_mapped (settled_file s) directory f))
            (place_told s c (content_told files s heads c) f (slice_index_or files f false) (head_at heads f) (head_at (heads_told files s heads) f) (file_at directory f) (file_at all.all f)
            (subst (λ p. IsPlaceLeft c f (head_at heads f) p) (mapped f) (left.each f)) (subst (λ p. PlaceAs c (head_at heads f) p (file_at all.all f)) (mapped f) (all.as_left f)) (tells.enters.dressed f)
            (subst (λ p. IsPlace (content_told files s heads c) f (head_at (heads_told files s heads) f) p) (tells.each f) (tells.enters.fitting.files.each f)) (told f));
      };
      maps = λ f h k there now_there. place_maps s c (content_told files s heads c) f (slice_index_or files f false) (head_at heads f) (head_at (heads_told files s heads) f) (file_at (settled_buckets s directory) f) (file_at all.all f) h k there now_there (left.each f) (all.as_left f)
          (subst (λ p. IsPlace (content_told files s heads c) f (head_at (heads_told files s heads) f) p) (tells.each f) (tells.enters.fitting.files.each f));
      fit = tells.enters.fitting.fit;
      whole = tells.enters.fitting.whole;
      dressed = tells.enters.dressed;
      size = tells.enters.size;
      front = tells.enters.front;
      tells = tells.enters.tells;
      sound = tells.enters.sound;
    }
  where
    mapped : (f : ℕ) → file_at (settled_buckets s directory) f ≡ option_map (λ file. carrying file.carried (settled_file s file)) (file_at directory f)
    mapped f = file_mapped (λ file. carrying file.carried (settled_file s file)) directory f

    -- where there is a file, there is one that is as its buckets are
    there_as : (f : ℕ) → (file : File) × (file_at directory f ≡ Some file) → (all : List (Option File)) (x : Option File) → file_at all f ≡ x → (o : Option FileHead) → IsPlaceLeft c f o (file_at (settled_buckets s directory) f) → PlaceAs c o (file_at (settled_buckets s directory) f) (file_at all f) →
        (y : File) × (file_at all f ≡ Some y)
    there_as f at all x is o here alike = go x is o (subst (λ p. IsPlaceLeft c f o p) (mapped f ∙ ap (option_map (λ file. carrying file.carried (settled_file s file))) at.1) here)
        (subst (λ p. PlaceAs c o p (file_at all f)) (mapped f ∙ ap (option_map (λ file. carrying file.carried (settled_file s file))) at.1) alike)
      where
        go : (x : Option File) → file_at all f ≡ x → (o : Option FileHead) → IsPlaceLeft c f o (Some (carrying at.0.carried (settled_file s at.0))) → PlaceAs c o (Some (carrying at.0.carried (settled_file s at.0))) (file_at all f) → (y : File) × (file_at all f ≡ Some y)
        go (Some y) is o here alike = (y, is)
        go None is None here alike = absurd here
        go None is (Some h) here alike = absurd (subst (λ z. PlaceAs c (Some h) (Some (carrying at.0.carried (settled_file s at.0))) z) is alike)
