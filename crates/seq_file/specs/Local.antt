-- The laws of a sequential file: its map and its layout rest on the file's extent alone.
use Rattle.std.specs.Prelude.{◌≡◌, ◌<◌, ◌*◌, ◌++◌, List, ℕ, suc, zero, length, map, refl}
use Rattle.std.specs.List.{All}
use Rattle.std.proofs.Common.{sym, ap, subst, ◌∙◌, arith}
use Rattle.file_base.specs.declared.head.FileHead.{FileHead}
use Rattle.change_set.specs.Files.{AgreesOn}
use Rattle.change_set.proofs.Extents.{extent_bucket}
use Rattle.bucket_page.specs.declared.kind.PageKind.TheVariants.{Seq}
use Rattle.bucket_page.specs.Pages.{slots_of, IsBucket}
use Rattle.seq_file.specs.Placing.{slots_along, BeginsAnew}
use Rattle.seq_file.specs.Records.{map_of_list}
use Rattle.seq_file.specs.Layout.{bucket_at, slots_at, record_of, records_in, map_of, capacity, IsSequential, IsRecord, IsLaidOut}

pub along_same : (S T : ℕ → List (List ℕ)) (n : ℕ) → ((i : ℕ) → i < n → S i ≡ T i) → slots_along S n ≡ slots_along T n
along_same S T zero same = refl
along_same S T (suc n) same = λ i. along_same S T n (λ k below. same k (omega arith)) i ++ same n (omega arith) i

records_same : (h : FileHead) (a b : List (List ℕ)) → IsSequential h → AgreesOn h a b → records_in h a ≡ records_in h b
records_same h a b form agrees = ap (map record_of) (along_same (slots_at h a) (slots_at h b) h.used (λ i below. ap (slots_of Seq) (extent_bucket h a b i (omega (arith, form.used)) agrees)))

pub local_law : (h : FileHead) (a b : List (List ℕ)) → IsSequential h → AgreesOn h a b → map_of h a ≡ map_of h b
local_law h a b form agrees = ap map_of_list (records_same h a b form agrees)

pub valid_local_law : (h : FileHead) (a b : List (List ℕ)) → IsSequential h → AgreesOn h a b → IsLaidOut h a → IsLaidOut h b
valid_local_law h a b form agrees valid = record {
  buckets = λ i below. subst (λ (x : List ℕ). IsBucket Seq (512 * h.bucket) x) (extent_bucket h a b i (omega (arith, form.used)) agrees) (valid.buckets i below);
  filled = λ i below. subst (λ (x : List ℕ). BeginsAnew (capacity h) (slots_of Seq (bucket_at h b i)) (slots_of Seq x)) (extent_bucket h a b (suc i) (omega (arith, form.used)) agrees)
      (subst (λ (x : List ℕ). BeginsAnew (capacity h) (slots_of Seq x) (slots_at h a (suc i))) (extent_bucket h a b i (omega (arith, form.used)) agrees) (valid.filled i below));
  records = subst (λ (rs : List (List ℕ)). All (IsRecord h.mrs) rs) (records_same h a b form agrees) valid.records;
  count = ap length (sym (records_same h a b form agrees)) ∙ valid.count;
}
