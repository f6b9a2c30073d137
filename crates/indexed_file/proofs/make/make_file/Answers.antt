use Rattle.std.proofs.Common.{◌≡◌, ◌-◌, Result, Ok, Err, OnErr, Option, option_map, None, set, List, ℕ, sym, ap, subst, ◌∙◌, arith}
use Rattle.block_disk.specs.Disk.{DiskState}
use Rattle.change_set.specs.careful_write.State.{StoreState, IsEither, content}
use Rattle.change_set.proofs.careful_write.Reading.{same_all, same_so}
use Rattle.file_base.specs.declared.head.FileHead.{FileHead}
use Rattle.change_set.specs.careful_write.Content.{content_of}
use Rattle.change_set.specs.Buckets.{frame_of, with_frame, with_bucket, with_numbers, WasFree}
use Rattle.change_set.proofs.Frames.{lent_taken, lent_read, lent_staged, lent_given}
use Rattle.indexed_file.specs.Chain.{bucket_first}
use Rattle.change_set.proofs.Extents.{either_out}
use Rattle.indexed_file.proofs.make.make_file.Goals as goal

on_err_then : {T E A B : Type 0} (r : Result T E) → (A → B) → OnErr r A → OnErr r B
on_err_then (Ok x) f a = tt
on_err_then (Err e) f a = f a

given : (h : FileHead) (f n : ℕ) (s0 s1 s2 s3 s4 : StoreState) → WasFree s0.pool f → s1 ≡ with_frame f (frame_of s1.pool f) s0 → s2 ≡ with_frame f (frame_of s2.pool f) s1
    → s3 ≡ record s2 { current = option_map (λ b. with_bucket (frame_of s2.pool f) b (n - 518) h.bucket) s2.current; touched = with_numbers n h.bucket s2.touched }
    → s4 ≡ record s3 { pool = set s3.pool f None }
    → s4 ≡ record s0 { current = option_map (λ b. with_bucket (frame_of s2.pool f) b (n - 518) h.bucket) s0.current; touched = with_numbers n h.bucket s0.touched }
given h f n s0 s1 s2 s3 s4 was taken filled staged gave =
    let lent1 = lent_taken f s0 s1 was taken in
    let lent2 = lent_read f s0 s1 s2 (λ (d : DiskState). d) lent1 (same_so _ s2 filled) in
    let lent3 = lent_staged f s0 s2 s3 (option_map (λ (b : List (List ℕ)). with_bucket (frame_of s2.pool f) b (n - 518) h.bucket)) (with_numbers n h.bucket) lent2 staged in
    same_all _ s4 (lent_given f _ s3 s4 lent3 gave) (ap (λ (s : StoreState). s.reads) gave ∙ ap (λ (s : StoreState). s.reads) staged ∙ ap (λ (s : StoreState). s.reads) filled ∙ ap (λ (s : StoreState). s.reads) taken)

pub returns-clause-down : goal.returns-clause-down
returns-clause-down g c =
    let h = c.args.head.now in
    let s0 = c.args.store.now in
    let bytes = frame_of c.clear_frame.new.store.pool c.take_frame-frame.result in
    let end = given h c.take_frame-frame.result h.start s0 _ _ _ c.give_frame.new.store c.take_frame-frame.ensures.free c.take_frame-frame.ensures.state c.clear_frame.ensures.put c.stage_bucket.ensures c.give_frame.ensures in
    let before : content c.give_frame.new.store ≡ s0.current = ap content end ∙ sym c.requires.idle.current in
    let at : h.start - 518 ≡ bucket_first h 0 = omega (arith, c.requires.placed.from) in
    let after = ap (λ (s : StoreState). s.current) end ∙ ap (λ (m : ℕ). option_map (λ (b : List (List ℕ)). with_bucket bytes b m h.bucket) s0.current) at in
    on_err_then c.apply.result (λ leaves. λ image left. (
      (leaves image left).0,
      either_out h 0 bytes s0.current c.give_frame.new.store.current _ c.requires.some after
          (subst (λ (o : Option (List (List ℕ))). IsEither o c.give_frame.new.store.current (content_of image)) before (leaves image left).1),
    ))
    c.apply.ensures.err

pub returns-clause-pool : goal.returns-clause-pool
returns-clause-pool g c =
    let h = c.args.head.now in
    let end = given h c.take_frame-frame.result h.start c.args.store.now _ _ _ c.give_frame.new.store c.take_frame-frame.ensures.free c.take_frame-frame.ensures.state c.clear_frame.ensures.put c.stage_bucket.ensures c.give_frame.ensures in
    c.apply.ensures.pool ∙ ap (λ (s : StoreState). s.pool) end
