-- What stands in single buckets of a chain.
use Rattle.std.proofs.Common.{◌≡◌, ◌<◌, ◌≤◌, ◌+◌, ◌*◌, ℕ, zero, suc, Bool, true, false, List, [], ◌∷◌, ◌++◌, length, take, get_or, nat_lt, refl, sym, ap, subst, ◌∙◌, arith, append-nil, append_assoc}
use Rattle.std.proofs.lemmas.List.{take_more}
use Rattle.record_files.specs.file_base.declared.head.FileHead.{FileHead}
use Rattle.bucket_page.specs.declared.kind.PageKind.{PageKind}
use Rattle.bucket_page.specs.Pages.{slots_of, next_of, IsPacked, Packs}
use Rattle.record_files.specs.index_blocks.Buckets.{bucket_at}
use Rattle.record_files.specs.seq_file.Placing.{slots_along, BeginsAnew}
use Rattle.load_laws.specs.Pages.{Page, Slots, Stand}
use Rattle.load_laws.specs.Chains.{packed, next_for, chain_pages}
use Rattle.load_laws.proofs.ChainLemmas.{all_in, BeginBehind, AllBegin}

-- bucket i of a chain has the slots of its part
pub record StandsPart (kind : PageKind) (size : ℕ) (slots : List (List ℕ)) (bytes : List ℕ) : Type 0 where
  pub packed : IsPacked kind size bytes
  pub slots_are : slots_of kind bytes ≡ slots

pub part_at : (h : FileHead) (b : List (List ℕ)) (kind : PageKind) (n : ℕ) (parts : List (List (List ℕ))) → Stand h b n (chain_pages kind n parts) → (i : ℕ) → i < length parts
    → StandsPart kind (512 * h.bucket) (get_or parts i []) (bucket_at h b (n + i))
part_at h b kind n [] stand i below = absurd (omega (arith, below))
part_at h b kind n (p ∷ ps) stand zero below = record { packed = subst (λ m. IsPacked kind (512 * h.bucket) (bucket_at h b m)) same stand.0.packed; slots_are = ap (λ m. slots_of kind (bucket_at h b m)) (sym same) ∙ stand.0.slots_are }
  where
    same : n ≡ n + 0
    same = omega arith
part_at h b kind n (p ∷ ps) stand (suc i) below =
    let same : suc n + i ≡ n + suc i = omega arith in
    subst (λ m. StandsPart kind (512 * h.bucket) (get_or ps i []) (bucket_at h b m)) same (part_at h b kind (suc n) ps stand.1 i (omega (arith, below)))

-- all slots of the first buckets
pub along_parts : (S : ℕ → List (List ℕ)) (parts : List (List (List ℕ))) (k : ℕ) → k ≤ length parts → ((i : ℕ) → i < length parts → S i ≡ get_or parts i []) → slots_along S k ≡ all_in (take k parts)
along_parts S parts zero few same = refl
along_parts S parts (suc k) few same =
    (λ i. along_parts S parts k (omega (arith, few)) same i ++ same k (omega (arith, few)) i)
    ∙ sym (all_in_last (take k parts) (get_or parts k []))
    ∙ ap all_in (sym (take_more parts k [] (omega (arith, few))))
    ∙ ap (λ n. all_in (take n parts)) (let more : k + 1 ≡ suc k = omega arith in more)
  where
    all_in_last : (ps : List (List (List ℕ))) (q : List (List ℕ)) → all_in (ps ++ q ∷ []) ≡ all_in ps ++ q
    all_in_last [] q = append-nil q
    all_in_last (p ∷ ps) q = ap (λ x. p ++ x) (all_in_last ps q) ∙ sym (append_assoc p (all_in ps) q)

pub begin_at : (cap : ℕ) (parts : List (List (List ℕ))) → AllBegin cap parts → (i : ℕ) → suc i < length parts → BeginsAnew cap (get_or parts i []) (get_or parts (suc i) [])
begin_at cap [] all i below = absurd (omega (arith, below))
begin_at cap (p ∷ []) all zero below = absurd (omega (arith, below))
begin_at cap (p ∷ []) all (suc i) below = absurd (omega (arith, below))
begin_at cap (p ∷ q ∷ qs) all zero below = all.0
begin_at cap (p ∷ q ∷ qs) all (suc i) below = begin_at cap (q ∷ qs) all.1 i (omega (arith, below))
