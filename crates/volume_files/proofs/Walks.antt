-- Where the walks over a file's buckets begin.
use Rattle.std.proofs.Common.{◌≡◌, ℕ, ◌<◌, ◌≤◌, List, Option, Some, None, IfSome, length, sym, ap, subst, ◌∙◌, arith}
use Rattle.record_files.specs.bucket_page.declared.kind.PageKind.TheVariants.{Seq}
use Rattle.record_files.specs.bucket_page.Pages.{slots_of}
use Rattle.change_set.proofs.Extents.{extent_bucket}
use Rattle.file_base.specs.declared.head.FileHead.{FileHead}
use Rattle.file_base.specs.declared.head.Organization.{Organization}
use Rattle.file_base.specs.declared.head.Organization.TheVariants.{Sequential}
use Rattle.change_set.specs.Files.{AgreesOn, first_place}
use Rattle.change_set.specs.declared.walk.Place.{Place}
use Rattle.vms_base.specs.vms_model.Keys.{Key}
use Rattle.record_files.specs.Any.{Begins, BeginsBy, FormBy, IsFile, IsLaidOut}
use Rattle.record_files.specs.Local.{begins_first_law}
use Rattle.record_files.specs.seq_file.Layout.{CountsBefore, IsSequential, slots_at}
use Rattle.record_files.specs.seq_file.Local.{along_same}

-- what is so of a head that is formed
pub formed_begins : (told : Option (List (List ℕ))) (h : FileHead) (P : List (List ℕ) → Type 0) → IsFile h → IfSome told (λ a. IsFile h → IsLaidOut h a → P a) → IfSome told (λ a. IsLaidOut h a → P a)
formed_begins None h P form p = tt
formed_begins (Some a) h P form p = λ laid. p form laid

-- each walk may begin at the front
pub each_in_front : (told : Option (List (List ℕ))) (h : FileHead) (place : Place) → place ≡ first_place → IfSome told (λ a. IsFile h → IsLaidOut h a → (key : Option Key) → Begins h a key place)
each_in_front None h place is = tt
each_in_front (Some a) h place is = λ form laid key. subst (λ (p : Place). Begins h a key p) (sym is) (begins_first_law h a key form)

pub one_in_front : (told : Option (List (List ℕ))) (h : FileHead) (key : Option Key) (place : Place) → place ≡ first_place → IfSome told (λ a. IsFile h → IsLaidOut h a → Begins h a key place)
one_in_front None h key place is = tt
one_in_front (Some a) h key place is = λ form laid. subst (λ (p : Place). Begins h a key p) (sym is) (begins_first_law h a key form)

-- in a sequential file a place is told by what is counted before it, whatever is walked to
pub for_each_key : (told : Option (List (List ℕ))) (h : FileHead) (one : Option Key) (place : Place) → h.organization ≡ Sequential → IfSome told (λ a. IsFile h → IsLaidOut h a → Begins h a one place) → IfSome told (λ a. IsFile h → IsLaidOut h a → (key : Option Key) → Begins h a key place)
for_each_key None h one place seq begins = tt
for_each_key (Some a) h one place seq begins = λ form laid key.
    subst (λ (o : Organization). BeginsBy o h a key place) (sym seq) (subst (λ (o : Organization). BeginsBy o h a one place) seq (begins form laid))

counts_still : (h : FileHead) (a b : List (List ℕ)) (place : Place) → IsSequential h → AgreesOn h a b → place.bucket ≤ h.used → CountsBefore h a place → CountsBefore h b place
counts_still h a b place form agrees used counts =
    sym (ap length (along_same (slots_at h a) (slots_at h b) place.bucket (λ i below. ap (slots_of Seq) (extent_bucket h a b i (omega (arith, form.used, used, below)) agrees)))) ∙ counts

-- a place among the used buckets stays one where the blocks of the file stay
pub begins_still : (h : FileHead) (a b : List (List ℕ)) (key : Option Key) (place : Place) → h.organization ≡ Sequential → IsFile h → AgreesOn h a b → place.bucket ≤ h.used → Begins h a key place → Begins h b key place
begins_still h a b key place seq form agrees used begins =
    subst (λ (o : Organization). BeginsBy o h b key place) (sym seq)
    (counts_still h a b place (subst (λ (o : Organization). FormBy o h) seq form) agrees used (subst (λ (o : Organization). BeginsBy o h a key place) seq begins))
