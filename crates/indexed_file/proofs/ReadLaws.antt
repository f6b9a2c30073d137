-- What is read of a bucket.
use Rattle.std.proofs.Common.{◌≡◌, ℕ, ◌<◌, ◌≤◌, ◌*◌, Bool, List, length, take, Option, Some, None, IfSome, IfOk, Result, Ok, Err, sym, subst, ◌∙◌, arith}
use Rattle.std.proofs.lemmas.List.{length-take-le}
use Rattle.change_set.specs.careful_write.declared.down.Down.{Down}
use Rattle.file_base.specs.declared.head.FileHead.{FileHead}
use Rattle.bucket_page.specs.Pages.{IsBucket}
use Rattle.indexed_file.specs.Chain.{kind_of, bucket_at, HasSlot, Stands}

abbrev Told : Type 0
Told = Option (List (List ℕ))

-- a slot that was read of a bucket's bytes stands in the bucket
pub read_stands : (told : Told) (h : FileHead) (k : List ℕ) (n size : ℕ) (frame bytes value : List ℕ) → frame ≡ bytes → size ≡ 512 * h.bucket → n < h.used → 512 * h.bucket ≤ length bytes
    → IfSome told (λ b. take (512 * h.bucket) frame ≡ bucket_at h b n) → IsBucket (kind_of h) (length (take size bytes)) (take size bytes) × HasSlot h (take size bytes) k value → IfSome told (Stands h k value)
read_stands None h k n size frame bytes value same is below long read fact = tt
read_stands (Some b) h k n size frame bytes value same is below long read fact =
    let here : take size bytes ≡ bucket_at h b n = (λ i. take (is i) (sym same i)) ∙ read in
    let count : length (take size bytes) ≡ 512 * h.bucket = length-take-le size bytes (omega (arith, is, long)) ∙ is in
    let P : List ℕ → Type 0 = λ x. IsBucket (kind_of h) (512 * h.bucket) x in
    let Q : ℕ → Type 0 = λ m. IsBucket (kind_of h) m (take size bytes) in
    record {
      bucket = n;
      used = below;
      stands = subst P here (subst Q count fact.0);
      slot = subst (λ (x : List ℕ). HasSlot h x k value) here fact.1;
    }

pub on_ok : (r : Result Bool Down) (P Q : Bool → Type 0) → ((x : Bool) → P x → Q x) → IfOk r P → IfOk r Q
on_ok (Ok x) P Q f p = f x p
on_ok (Err e) P Q f p = tt
