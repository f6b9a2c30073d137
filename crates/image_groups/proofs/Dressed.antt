-- Files that keep their buckets.
use Rattle.std.proofs.Common.{◌≡◌, ℕ, List, Option, Some, None, slice_set, refl, sym, ◌∙◌, ap, subst, inl, inr, get_or-set_same, get_or-set_other}
use Rattle.std.proofs.lemmas.Bool.{cases_eq}
use Rattle.file_base.specs.declared.head.FileHead.{FileHead}
use Rattle.restart_laws.specs.change_set.Files.{AgreesOn}
use Rattle.restart_laws.specs.directory_model.Files.{AgreesOnFile, head_at}
use Rattle.restart_laws.specs.directory_model.Laws.{SameBut}
use Rattle.restart_laws.proofs.directory_model.Places.{within_list}
use Rattle.restart_laws.specs.Restorable.{IsDressed, SameBuckets}
use Rattle.volume.specs.declared.catalog.Catalog.{Catalog}
use Rattle.volume.specs.Catalogs.{IsSound, TellsCatalog}
use Rattle.image_groups.specs.Groups.{AllDressed, StaySound, TellsOther}

-- the blocks of a head of the same buckets
agrees_same : (h new : FileHead) (a b : List (List ℕ)) → SameBuckets h new → AgreesOn new a b → AgreesOn h a b
agrees_same h new a b same agrees = subst (λ (k : FileHead). AgreesOn k a b) same.is agrees

one_after_another : (h m k : FileHead) → SameBuckets h m → SameBuckets m k → SameBuckets h k
one_after_another h m k first second = record { is = second.is ∙ ap (λ (x : FileHead). record x { marks = k.marks; ai = k.ai; bi = k.bi; bi_since = k.bi_since; save = k.save }) first.is }

place_after : (a b c : List (List ℕ)) (o m k : Option FileHead) → IsDressed a o b m → IsDressed b m c k → IsDressed a o c k
place_after a b c None None None first second = tt
place_after a b c None None (Some k) first second = absurd second
place_after a b c None (Some m) k first second = absurd first
place_after a b c (Some h) None k first second = absurd first
place_after a b c (Some h) (Some m) None first second = absurd second
place_after a b c (Some h) (Some m) (Some k) first second = (one_after_another h m k first.0 second.0, λ n in_it. first.1 n in_it ∙ agrees_same h m b c first.0 second.1 n in_it)

pub all_after : (a b c : List (List ℕ)) (heads middle new : List (Option FileHead)) → AllDressed a heads b middle → AllDressed b middle c new → AllDressed a heads c new
all_after a b c heads middle new first second f = place_after a b c (head_at heads f) (head_at middle f) (head_at new f) (first f) (second f)

place_stays : (a b : List (List ℕ)) (o : Option FileHead) → ((h : FileHead) → o ≡ Some h → AgreesOnFile h a b) → IsDressed a o b o
place_stays a b None stand = tt
place_stays a b (Some h) stand = (record { is = refl }, (stand h refl).own)

-- what all files have stands
pub all_stay : (a b : List (List ℕ)) (heads : List (Option FileHead)) → ((f : ℕ) (h : FileHead) → head_at heads f ≡ Some h → AgreesOnFile h a b) → AllDressed a heads b heads
all_stay a b heads stand f = place_stays a b (head_at heads f) (stand f)

place_same : (a : List (List ℕ)) (o : Option FileHead) → IsDressed a o a o
place_same a None = tt
place_same a (Some h) = (record { is = refl }, λ n in_it. refl)

pub all_same : (a : List (List ℕ)) (heads : List (Option FileHead)) → AllDressed a heads a heads
all_same a heads f = place_same a (head_at heads f)

-- one head is another of the same buckets
pub one_dressed : (a b : List (List ℕ)) (heads : List (Option FileHead)) (f : ℕ) (h new : FileHead) → head_at heads f ≡ Some h → SameBuckets h new → AgreesOn h a b → SameBut f heads a b → AllDressed a heads b (slice_set heads f (Some new))
one_dressed a b heads f h new there same agrees others g = elim (cases_eq g f) [
  | inl here ↦ subst (λ k. IsDressed a (head_at heads k) b (head_at (slice_set heads f (Some new)) k)) (sym here)
      (subst (λ o. IsDressed a o b (head_at (slice_set heads f (Some new)) f)) (sym there) (subst (λ o. IsDressed a (Some h) b o) (sym (get_or-set_same heads f (Some new) None (within_list heads f h there))) (same, agrees)))
  | inr other ↦ subst (λ o. IsDressed a (head_at heads g) b o) (sym (get_or-set_other heads f g (Some new) None other)) (place_stays a b (head_at heads g) (λ k at. others g k other at))
]

-- Catalogs that are told, and sound.

pub tells_after : (a b c : List (List ℕ)) (heads middle new : List (Option FileHead)) → TellsOther a heads b middle → TellsOther b middle c new → TellsOther a heads c new
tells_after a b c heads middle new first second k is told = second (record k { heads = middle }) refl (first k is told)

pub tells_same : (a : List (List ℕ)) (heads : List (Option FileHead)) → TellsOther a heads a heads
tells_same a heads k is told = subst (λ hs. TellsCatalog (record k { heads = hs }) a) is told

pub sound_after : (heads middle new : List (Option FileHead)) → StaySound heads middle → StaySound middle new → StaySound heads new
sound_after heads middle new first second node size k is sound = second node size (record k { heads = middle }) refl (first node size k is sound)

pub sound_same : (heads : List (Option FileHead)) → StaySound heads heads
sound_same heads node size k is sound = subst (λ hs. IsSound node size (record k { heads = hs })) is sound
