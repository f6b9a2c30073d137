-- A file once the bucket that was made in a frame is staged, and the frame given back.
use Rattle.std.proofs.Common.{◌≡◌, inl, ℕ, ◌≤◌, ◌+◌, ◌*◌, List, length, take, set, Bool, Option, Some, None, IfSome, IfNone, IsSomeAnd, MatchOption, option_map, refl, sym, ap, subst, ◌∙◌, arith}
use Rattle.change_set.specs.careful_write.Reads.{SameButReads}
use Rattle.change_set.specs.careful_write.State.{StoreState}
use Rattle.change_set.proofs.careful_write.Reading.{same_as}
use Rattle.change_set.specs.careful_write.Steps.{AgreesOff}
use Rattle.change_set.specs.block_disk.Disk.{DiskState}
use Rattle.file_base.specs.declared.head.FileHead.{FileHead}
use Rattle.change_set.specs.Buckets.{frame_of, with_frame, with_bucket, with_numbers, WasFree}
use Rattle.change_set.specs.Files.{IsPlaced, StagesIn, SameFile, in_extent}
use Rattle.change_set.proofs.Extents.{ranges_apart, bucket_staged, stages_read}
use Rattle.change_set.proofs.Frames.{Lent, lent_taken, lent_read, lent_given, given_back}
use Rattle.seq_file.specs.declared.spot.Rewrite.{Rewrite}
use Rattle.seq_file.specs.Layout.{bucket_first, head_with, records_in, IsSequential, Becomes}
use Rattle.seq_file.specs.Frames.{page_in, ReadsInFrame, Leads, MayWrite, Changes, Written}
use Rattle.seq_file.proofs.FileLaws.{changed}

abbrev Blocks : Type 0
Blocks = List (List ℕ)

-- a store whose frame was taken and made into a bucket
lent_made : (f : ℕ) (s0 s1 s2 : StoreState) → WasFree s0.pool f → s1 ≡ with_frame f (frame_of s1.pool f) s0 → ReadsInFrame f s1 s2 → Lent f s0 s2
lent_made f s0 s1 s2 was taken made = lent_read f s0 s1 s2 (λ (d : DiskState). d) (lent_taken f s0 s1 was taken) made

-- only a bucket was staged
staged_whole : (h : FileHead) (w : Rewrite) (f : ℕ) (s0 s2 s3 : StoreState) → Lent f s0 s2 → Written h w f s2 s3
    → SameButReads (record s0 {
      current = option_map (λ b. with_bucket (frame_of s2.pool f) b (bucket_first h w.bucket) h.bucket) s0.current;
      touched = with_numbers (518 + bucket_first h w.bucket) h.bucket s0.touched;
    }) s3
staged_whole h w f s0 s2 s3 lent written =
    let bytes = frame_of s2.pool f in
    let W : Option Blocks → Option Blocks = option_map (λ b. with_bucket bytes b (bucket_first h w.bucket) h.bucket) in
    let N : List ℕ → List ℕ = with_numbers (518 + bucket_first h w.bucket) h.bucket in
    same_as s3 (record s0 { current = W s0.current; touched = N s0.touched }) s2.reads
    (written.is ∙ (λ i. record (lent.is i) { current = W (lent.is i).current; touched = N (lent.is i).touched; pool = set (lent.is i).pool f None })
    ∙ (λ i. record s0 { current = W s0.current; touched = N s0.touched; pool = given_back s0.pool f bytes lent.was i; reads = s2.reads }))

becomes_told : (h : FileHead) (w : Rewrite) (bytes : List ℕ) (size : ℕ) (given : Blocks → Type 0) (after : Blocks → Blocks) (told : Option Blocks) → bucket_first h w.bucket + h.bucket + 518 ≤ size
    → IfSome told (λ b. length b + 518 ≡ size) → IfSome told (Leads h w (take (512 * h.bucket) bytes) given after)
    → IfSome told (λ b. given b → IsSomeAnd (option_map (λ a. with_bucket bytes a (bucket_first h w.bucket) h.bucket) told) (λ c. Becomes (head_with h w.used w.count) c (after (records_in h b))))
becomes_told h w bytes size given after None within whole leads = tt
becomes_told h w bytes size given after (Some b) within whole leads = λ holds. leads holds _ (changed h w.bucket bytes b (omega (arith, within, whole)))

same_file : (h h' : FileHead) (u n : ℕ) → h' ≡ head_with h u n → SameFile h h'
same_file h h' u n is = subst (SameFile h) (sym is) (record { is = refl })

same_form : (h h' : FileHead) (u n : ℕ) → h' ≡ head_with h u n → IsSequential h → 1 ≤ u → u ≤ h.alloc → IsSequential h'
same_form h h' u n is form one most = subst IsSequential (sym is) (record { organization = form.organization; one = one; used = most; root = form.root; levels = form.levels })

changed_some : (h h' : FileHead) (w : Rewrite) (given : Blocks → Type 0) (after : Blocks → Blocks) (f : ℕ) (s0 s2 s3 : StoreState) → IsPlaced h s0.disk → IsSequential h → IfSome s0.current (λ b. length b + 518 ≡ s0.disk.size) → Lent f s0 s2
    → MayWrite h w → IfSome s0.current (Leads h w (page_in h s2 f) given after) → Written h w f s2 s3 → h' ≡ head_with h w.used w.count → Changes h h' given after s0 s3
changed_some h h' w given after f s0 s2 s3 placed form whole lent may leads written tells =
    let state = staged_whole h w f s0 s2 s3 lent written in
    let below = may.bucket in
    let lies = ranges_apart w.bucket h.alloc h.bucket below in
    let bytes = frame_of s2.pool f in
    let from = placed.from in
    let to = placed.to in
    let P : Option Blocks → FileHead → Type 0 = λ now k. IfSome s0.current (λ b. given b → IsSomeAnd now (λ c. Becomes k c (after (records_in h b)))) in
    record {
      becomes = subst (λ (k : FileHead). P s3.current k) (sym tells) (subst (λ (now : Option Blocks). P now (head_with h w.used w.count)) (sym (ap (λ (s : StoreState). s.current) state))
          (becomes_told h w bytes s0.disk.size given after s0.current (omega (arith, lies, from, to)) whole leads));
      staged = bucket_staged h w.bucket bytes s0 s3 below state;
      file = same_file h h' w.used w.count tells;
      form = same_form h h' w.used w.count tells form may.one may.used;
    }

stays : (p : ℕ → Bool) (o : Option Blocks) → MatchOption o (o ≡ None) (λ before. IsSomeAnd o (AgreesOff p before))
stays p None = refl
stays p (Some b) = record { size = refl; others = λ k off. refl }

never_becomes : (h h' : FileHead) (given : Blocks → Type 0) (after : Blocks → Blocks) (told now : Option Blocks) → IfSome told (λ b. given b → ⊥) → IfSome told (λ b. given b → IsSomeAnd now (λ c. Becomes h' c (after (records_in h b))))
never_becomes h h' given after None now never = tt
never_becomes h h' given after (Some b) now never = λ holds. absurd (never holds)

changed_none : (h h' : FileHead) (given : Blocks → Type 0) (after : Blocks → Blocks) (f : ℕ) (s0 s2 s3 : StoreState) → IsSequential h → Lent f s0 s2 → IfSome s0.current (λ b. given b → ⊥) → s3 ≡ record s2 { pool = set s2.pool f None } → h' ≡ h → Changes h h' given after s0 s3
changed_none h h' given after f s0 s2 s3 form lent never gave same =
    let end : SameButReads s0 s3 = lent_given f s0 s2 s3 lent gave in
    let none : StagesIn h h.bucket s0 s0 = record { rest = refl; blocks = stays (in_extent h) s0.current; touched = λ k has. inl has; few = omega arith } in
    record {
      becomes = never_becomes h h' given after s0.current s3.current never;
      staged = subst (λ (s : StoreState). StagesIn h h.bucket s0 s) (sym end) (stages_read h h.bucket s3.reads s0 s0 none);
      file = subst (SameFile h) (sym same) (record { is = refl });
      form = subst IsSequential (sym same) form;
    }

-- whichever bucket was to be written, if any
pub changed_by : (o : Option Rewrite) (h h' : FileHead) (given : Blocks → Type 0) (after : Blocks → Blocks) (f : ℕ) (s0 s1 s2 s3 : StoreState) → IsPlaced h s0.disk → IsSequential h → IfSome s0.current (λ b. length b + 518 ≡ s0.disk.size)
    → WasFree s0.pool f → s1 ≡ with_frame f (frame_of s1.pool f) s0 → ReadsInFrame f s1 s2 → IfSome o (MayWrite h) → IfSome o (λ w. IfSome s1.current (Leads h w (page_in h s2 f) given after)) → IfNone o (IfSome s1.current (λ b. given b → ⊥))
    → IfSome o (λ w. Written h w f s2 s3) → IfSome o (λ w. h' ≡ head_with h w.used w.count) → IfNone o (s3 ≡ record s2 { pool = set s2.pool f None }) → IfNone o (h' ≡ h) → Changes h h' given after s0 s3
changed_by (Some w) h h' given after f s0 s1 s2 s3 placed form whole was taken made may leads never written tells gave same =
    changed_some h h' w given after f s0 s2 s3 placed form whole (lent_made f s0 s1 s2 was taken made) may
    (subst (λ (told : Option Blocks). IfSome told (Leads h w (page_in h s2 f) given after)) (ap (λ (s : StoreState). s.current) taken) leads) written tells
changed_by None h h' given after f s0 s1 s2 s3 placed form whole was taken made may leads never written tells gave same =
    changed_none h h' given after f s0 s2 s3 form (lent_made f s0 s1 s2 was taken made)
    (subst (λ (told : Option Blocks). IfSome told (λ b. given b → ⊥)) (ap (λ (s : StoreState). s.current) taken) never) gave same
