-- The empty file.
use Rattle.std.proofs.Common.{◌≡◌, ℕ, ◌≤◌, ◌+◌, ◌-◌, ◌*◌, List, [], length, take, map, set, Option, Some, None, IfSome, option_map, sym, ap, subst, ◌∙◌, arith}
use Rattle.std.specs.List.{All}
use Rattle.change_set.specs.careful_write.State.{StoreState}
use Rattle.change_set.proofs.careful_write.Reading.{same_all, same_so}
use Rattle.change_set.specs.block_disk.Disk.{DiskState}
use Rattle.file_base.specs.declared.head.FileHead.{FileHead}
use Rattle.change_set.specs.Buckets.{frame_of, with_frame, with_bucket, with_numbers, WasFree}
use Rattle.change_set.specs.Files.{in_extent, AgreesOut}
use Rattle.change_set.proofs.Extents.{ranges_apart, agrees_bucket}
use Rattle.change_set.proofs.Frames.{lent_taken, lent_read, lent_staged, lent_given}
use Rattle.bucket_page.specs.declared.kind.PageKind.TheVariants.{Seq}
use Rattle.bucket_page.specs.Pages.{slots_of, IsBucket}
use Rattle.seq_file.specs.Placing.{slots_along}
use Rattle.seq_file.specs.Layout.{bucket_first, bucket_at, slots_at, record_of, records_in, IsFresh, IsRecord, Becomes}
use Rattle.seq_file.specs.Frames.{HasSlots}
use Rattle.seq_file.proofs.FileLaws.{changed}

abbrev Blocks : Type 0
Blocks = List (List ℕ)

-- the first bucket is staged from a frame that was taken and given back
pub staged_first : (h : FileHead) (f : ℕ) (s0 s1 s2 s3 s4 : StoreState) → 518 ≤ h.start → WasFree s0.pool f → s1 ≡ with_frame f (frame_of s1.pool f) s0 → s2 ≡ with_frame f (frame_of s2.pool f) s1
    → s3 ≡ record s2 { current = option_map (λ b. with_bucket (frame_of s2.pool f) b (h.start - 518) h.bucket) s2.current; touched = with_numbers h.start h.bucket s2.touched }
    → s4 ≡ record s3 { pool = set s3.pool f None }
    → s4 ≡ record s0 { current = option_map (λ b. with_bucket (frame_of s2.pool f) b (bucket_first h 0) h.bucket) s0.current; touched = with_numbers h.start h.bucket s0.touched }
staged_first h f s0 s1 s2 s3 s4 from was taken filled staged gave =
    let at : h.start - 518 ≡ bucket_first h 0 = omega arith in
    let lent1 = lent_taken f s0 s1 was taken in
    let lent2 = lent_read f s0 s1 s2 (λ (d : DiskState). d) lent1 (same_so _ s2 filled) in
    let lent3 = lent_staged f s0 s2 s3 (option_map (λ (b : Blocks). with_bucket (frame_of s2.pool f) b (h.start - 518) h.bucket)) (with_numbers h.start h.bucket) lent2 staged in
    same_all _ s4 (lent_given f _ s3 s4 lent3 gave) (ap (λ (s : StoreState). s.reads) gave ∙ ap (λ (s : StoreState). s.reads) staged ∙ ap (λ (s : StoreState). s.reads) filled ∙ ap (λ (s : StoreState). s.reads) taken) ∙ (λ i. record s0 { current = option_map (λ (b : Blocks). with_bucket (frame_of s2.pool f) b (at i) h.bucket) s0.current; touched = with_numbers h.start h.bucket s0.touched })

empty_file : (h : FileHead) (c : Blocks) (bytes : List ℕ) → IsFresh h → bucket_at h c 0 ≡ bytes → HasSlots h bytes [] → Becomes h c []
empty_file h c bytes fresh here page =
    let none : records_in h c ≡ [] = ap (λ u. map record_of (slots_along (slots_at h c) u)) fresh.one ∙ ap (λ x. map record_of (slots_of Seq x)) here ∙ ap (map record_of) page.are in
    record {
      valid = record {
        buckets = λ i below. let first : 0 ≡ i = omega (arith, fresh.one) in
            subst (λ (m : ℕ). IsBucket Seq (512 * h.bucket) (bucket_at h c m)) first (subst (λ (x : List ℕ). IsBucket Seq (512 * h.bucket) x) (sym here) page.bucket);
        filled = λ i below. absurd (omega (arith, fresh.one));
        records = subst (λ (rs : Blocks). All (IsRecord h.mrs) rs) (sym none) (λ k d below. absurd (omega arith));
        count = ap length none ∙ sym fresh.none;
      };
      are = none;
    }

pub made : (h : FileHead) (size : ℕ) (told now : Option Blocks) (bytes : List ℕ) → IsFresh h → 1 ≤ h.alloc → 518 ≤ h.start → h.start + h.alloc * h.bucket ≤ size → IfSome told (λ b. length b + 518 ≡ size)
    → now ≡ option_map (λ b. with_bucket bytes b (bucket_first h 0) h.bucket) told → HasSlots h (take (512 * h.bucket) bytes) [] → IfSome now (λ b. Becomes h b [])
made h size None now bytes fresh some from to whole is page = subst (λ (o : Option Blocks). IfSome o (λ b. Becomes h b [])) (sym is) tt
made h size (Some b) now bytes fresh some from to whole is page =
    let within = ranges_apart 0 h.alloc h.bucket some in
    subst (λ (o : Option Blocks). IfSome o (λ c. Becomes h c [])) (sym is) (empty_file h _ (take (512 * h.bucket) bytes) fresh (changed h 0 bytes b (omega (arith, within, whole))).here page)

pub outside : (h : FileHead) (told now : Option Blocks) (bytes : List ℕ) → 1 ≤ h.alloc → now ≡ option_map (λ b. with_bucket bytes b (bucket_first h 0) h.bucket) told → AgreesOut (in_extent h) told now
outside h None now bytes some is = is
outside h (Some b) now bytes some is = subst (λ (o : Option Blocks). AgreesOut (in_extent h) (Some b) o) (sym is) (agrees_bucket h 0 bytes b some)
