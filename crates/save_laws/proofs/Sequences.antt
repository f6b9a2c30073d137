-- A sequential file at another place.
use Rattle.std.proofs.Common.{◌≡◌, ℕ, suc, ◌<◌, ◌*◌, List, length, map, sym, ap, subst, ◌∙◌, arith}
use Rattle.std.specs.List.{All}
use Rattle.record_files.specs.file_base.declared.head.FileHead.{FileHead}
use Rattle.record_files.specs.bucket_page.declared.kind.PageKind.TheVariants.{Seq}
use Rattle.record_files.specs.bucket_page.Pages.{slots_of, IsBucket}
use Rattle.record_files.specs.seq_file.Placing.{BeginsAnew}
use Rattle.record_files.specs.seq_file.Records.{map_of_list}
use Rattle.record_files.specs.seq_file.Layout.{bucket_at, slots_at, record_of, records_in, map_of, capacity, IsSequential, IsRecord, IsLaidOut}
use Rattle.record_files.specs.seq_file.Local.{along_same}
use Rattle.save_laws.specs.Saves.{kept_as, StandAt}
use Rattle.save_laws.proofs.Moves.{moved_bucket}

pub is_sequential : (h own : FileHead) → IsSequential h → IsSequential (kept_as h own)
is_sequential h own form = record { organization = form.organization; one = form.one; used = form.used; root = form.root; levels = form.levels }

module _ (h own : FileHead) (a b : List (List ℕ)) (form : IsSequential h) (stands : StandAt h own.start a b) where
  bucket_moved : (i : ℕ) → i < h.used → bucket_at (kept_as h own) b i ≡ bucket_at h a i
  bucket_moved i below = let used = form.used in moved_bucket h own.start a b i (omega arith) stands

  records_moved : records_in (kept_as h own) b ≡ records_in h a
  records_moved = ap (map record_of) (along_same (slots_at (kept_as h own) b) (slots_at h a) h.used (λ i below. ap (slots_of Seq) (bucket_moved i below)))

  pub map_moved : map_of (kept_as h own) b ≡ map_of h a
  map_moved = ap map_of_list records_moved

  pub laid_out_moved : IsLaidOut h a → IsLaidOut (kept_as h own) b
  laid_out_moved valid = record {
    buckets = λ i below. subst (λ (x : List ℕ). IsBucket Seq (512 * h.bucket) x) (sym (bucket_moved i below)) (valid.buckets i below);
    filled = λ i below. subst (λ (x : List ℕ). BeginsAnew (capacity h) (slots_of Seq (bucket_at (kept_as h own) b i)) (slots_of Seq x)) (sym (bucket_moved (suc i) below))
        (subst (λ (x : List ℕ). BeginsAnew (capacity h) (slots_of Seq x) (slots_at h a (suc i))) (sym (bucket_moved i (omega arith))) (valid.filled i below));
    records = subst (λ (rs : List (List ℕ)). All (IsRecord h.mrs) rs) (sym records_moved) valid.records;
    count = ap length records_moved ∙ valid.count;
  }
