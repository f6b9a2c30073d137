use Rattle.std.proofs.Common.{◌≡◌, ◌+◌, ◌-◌, ◌*◌, Option, option_map, None, set, length, List, ℕ, sym, ap, ◌∙◌, arith}
use Rattle.block_disk.specs.Disk.{DiskState}
use Rattle.change_set.specs.careful_write.State.{StoreState}
use Rattle.change_set.proofs.careful_write.Reading.{same_all, same_so}
use Rattle.file_base.specs.declared.head.FileHead.{FileHead}
use Rattle.change_set.specs.Buckets.{frame_of, with_frame, with_bucket, with_numbers, WasFree}
use Rattle.change_set.proofs.Frames.{lent_taken, lent_read, lent_staged, lent_given}
use Rattle.change_set.proofs.Loading.{length-with_numbers}
use Rattle.relative_file.specs.Cells.{bucket_first}
use Rattle.relative_file.proofs.make.stage_empty.Goals as goal

given : (h : FileHead) (f n : ℕ) (s0 s1 s2 s3 s4 : StoreState) → WasFree s0.pool f → s1 ≡ with_frame f (frame_of s1.pool f) s0 → s2 ≡ with_frame f (frame_of s2.pool f) s1
    → s3 ≡ record s2 { current = option_map (λ b. with_bucket (frame_of s2.pool f) b (n - 518) h.bucket) s2.current; touched = with_numbers n h.bucket s2.touched }
    → s4 ≡ record s3 { pool = set s3.pool f None }
    → s4 ≡ record s0 { current = option_map (λ b. with_bucket (frame_of s2.pool f) b (n - 518) h.bucket) s0.current; touched = with_numbers n h.bucket s0.touched }
given h f n s0 s1 s2 s3 s4 was taken filled staged gave =
    let lent1 = lent_taken f s0 s1 was taken in
    let lent2 = lent_read f s0 s1 s2 (λ (d : DiskState). d) lent1 (same_so _ s2 filled) in
    let lent3 = lent_staged f s0 s2 s3 (option_map (λ (b : List (List ℕ)). with_bucket (frame_of s2.pool f) b (n - 518) h.bucket)) (with_numbers n h.bucket) lent2 staged in
    same_all _ s4 (lent_given f _ s3 s4 lent3 gave) (ap (λ (s : StoreState). s.reads) gave ∙ ap (λ (s : StoreState). s.reads) staged ∙ ap (λ (s : StoreState). s.reads) filled ∙ ap (λ (s : StoreState). s.reads) taken)

only_these : (old new : StoreState) (current : Option (List (List ℕ))) (touched : List ℕ) → new ≡ record old { current = current; touched = touched } → new ≡ record old { current = new.current; touched = new.touched }
only_these old new current touched is = is ∙ (λ k. let back = sym is in record old { current = (back k).current; touched = (back k).touched })

pub returns-clause-empty : goal.returns-clause-empty
returns-clause-empty g c =
    let h = c.args.head.now in
    let s0 = c.args.store.now in
    let bytes = frame_of c.fill_frame.new.store.pool c.take_frame-frame.result in
    let n = h.start + c.args.i * h.bucket in
    let end = given h c.take_frame-frame.result n s0 _ _ _ c.give_frame.new.store c.take_frame-frame.ensures.free c.take_frame-frame.ensures.state c.fill_frame.ensures.put c.stage_bucket.ensures c.give_frame.ensures in
    let at : n - 518 ≡ bucket_first h c.args.i = omega (arith, c.requires.placed.from) in
    record {
      bytes = bytes;
      front = c.fill_frame.ensures.front;
      is = ap (λ (s : StoreState). s.current) end ∙ ap (λ (m : ℕ). option_map (λ (b : List (List ℕ)). with_bucket bytes b m h.bucket) s0.current) at;
    }

pub returns-clause-rest : goal.returns-clause-rest
returns-clause-rest g c =
    let h = c.args.head.now in
    let end = given h c.take_frame-frame.result (h.start + c.args.i * h.bucket) c.args.store.now _ _ _ c.give_frame.new.store c.take_frame-frame.ensures.free c.take_frame-frame.ensures.state c.fill_frame.ensures.put c.stage_bucket.ensures c.give_frame.ensures in
    only_these c.args.store.now c.give_frame.new.store _ _ end

pub returns-clause-few : goal.returns-clause-few
returns-clause-few g c =
    let h = c.args.head.now in
    let n = h.start + c.args.i * h.bucket in
    let end = given h c.take_frame-frame.result n c.args.store.now _ _ _ c.give_frame.new.store c.take_frame-frame.ensures.free c.take_frame-frame.ensures.state c.fill_frame.ensures.put c.stage_bucket.ensures c.give_frame.ensures in
    omega (arith, ap (λ (s : StoreState). length s.touched) end, length-with_numbers n h.bucket c.args.store.now.touched)
