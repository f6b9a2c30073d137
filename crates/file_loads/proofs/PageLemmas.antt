-- Pages that stand in buckets.
use Rattle.std.proofs.Common.{◌≡◌, ◌<◌, ◌≤◌, ◌+◌, ◌*◌, ℕ, suc, List, [], ◌∷◌, ◌++◌, length, take, Option, Some, None, IfSome, option_map, inl, sym, ap, subst, ◌∙◌, append-nil, append_assoc, length-append, arith}
use Rattle.file_base.specs.declared.head.FileHead.{FileHead}
use Rattle.change_set.specs.Buckets.{with_bucket}
use Rattle.change_set.proofs.BucketLaws.{block_at-with_bucket_other, bucket_bytes_agree, bucket_bytes-with_bucket}
use Rattle.change_set.proofs.Extents.{ranges_apart}
use Rattle.index_blocks.specs.Buckets.{bucket_first, bucket_at}
use Rattle.load_pages.specs.load_laws.Pages.{Page, IsPage, Stand, StandTold, Adds}

-- bucket n was written, and those before it have what they had
before_same : (h : FileHead) (b : List (List ℕ)) (bytes : List ℕ) (i n : ℕ) → i < n → bucket_at h (with_bucket bytes b (bucket_first h n) h.bucket) i ≡ bucket_at h b i
before_same h b bytes i n less =
    let apart = ranges_apart i n h.bucket less in
    bucket_bytes_agree _ b (bucket_first h i) h.bucket (λ k from to. block_at-with_bucket_other bytes b (bucket_first h n) h.bucket k (inl (omega arith)))

stand_more : (h : FileHead) (b : List (List ℕ)) (bytes : List ℕ) (page : Page) (n i : ℕ) (pages : List Page) → i + length pages ≡ n → bucket_first h n + h.bucket ≤ length b → IsPage h page (take (512 * h.bucket) bytes)
    → Stand h b i pages → Stand h (with_bucket bytes b (bucket_first h n) h.bucket) i (pages ++ page ∷ [])
stand_more h b bytes page n i [] long within is stand =
    let same : n ≡ i = omega (arith, long) in
    let here : bucket_at h (with_bucket bytes b (bucket_first h n) h.bucket) i ≡ take (512 * h.bucket) bytes =
    ap (λ j. bucket_at h (with_bucket bytes b (bucket_first h n) h.bucket) j) (sym same) ∙ bucket_bytes-with_bucket bytes b (bucket_first h n) h.bucket within in
    (subst (IsPage h page) (sym here) is, tt)
stand_more h b bytes page n i (p ∷ ps) long within is stand =
    (subst (IsPage h p) (sym (before_same h b bytes i n (omega (arith, long)))) stand.0, stand_more h b bytes page n (suc i) ps (omega (arith, long)) within is stand.1)

-- a bucket of the extent was written behind so many pages
pub adds_one : (h : FileHead) (n size : ℕ) (bytes : List ℕ) (page : Page) (old new : Option (List (List ℕ))) → n < h.alloc → 518 ≤ h.start → h.start + h.alloc * h.bucket ≤ size → IfSome old (λ b. length b + 518 ≡ size)
    → new ≡ option_map (λ b. with_bucket bytes b (bucket_first h n) h.bucket) old → IsPage h page (take (512 * h.bucket) bytes) → Adds h n (page ∷ []) old new
adds_one h n size bytes page None new below from to whole is page_is pages long stand = subst (λ (x : Option (List (List ℕ))). StandTold h x (pages ++ page ∷ [])) (sym is) tt
adds_one h n size bytes page (Some b) new below from to whole is page_is pages long stand =
    let lies = ranges_apart n h.alloc h.bucket below in
    subst (λ (x : Option (List (List ℕ))). StandTold h x (pages ++ page ∷ [])) (sym is) (stand_more h b bytes page n 0 pages (omega (arith, long)) (omega (arith, lies, whole, from, to)) page_is stand)

pub adds_none : (h : FileHead) (n : ℕ) (x : Option (List (List ℕ))) → Adds h n [] x x
adds_none h n x pages long stand = subst (λ (ps : List Page). StandTold h x ps) (sym (append-nil pages)) stand

pub adds_more : (h : FileHead) (n : ℕ) (a b : List Page) (x y z : Option (List (List ℕ))) → Adds h n a x y → Adds h (n + length a) b y z → Adds h n (a ++ b) x z
adds_more h n a b x y z first second pages long stand =
    subst (λ (ps : List Page). StandTold h z ps) (append_assoc pages a b) (second (pages ++ a) (length-append pages a ∙ ap (λ m. m + length a) long) (first pages long stand))
