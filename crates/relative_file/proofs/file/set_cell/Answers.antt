use Rattle.std.proofs.Common.{Result, Err, ◌≡◌, ◌-◌, ◌*◌, ℕ, List, Option, IfSome, option_map, length, take, ap, ◌∙◌, subst, arith}
use Rattle.change_set.specs.careful_write.declared.down.Down.{Down}
use Rattle.block_disk.specs.Disk.{DiskState}
use Rattle.change_set.specs.careful_write.Down.{answered}
use Rattle.change_set.specs.careful_write.State.{StoreState}
use Rattle.file_base.specs.Bytes.{spliced}
use Rattle.change_set.specs.Buckets.{frame_of, with_bucket, with_numbers}
use Rattle.change_set.proofs.Frames.{lent_taken, lent_read, lent_written, lent_staged, lent_out, lent_given, put_more}
use Rattle.relative_file.specs.Cells.{place_of, first_of, cell_of, bucket_at}
use Rattle.relative_file.proofs.Places.{cell_within}
use Rattle.relative_file.proofs.CellLaws.{length-cell_of}
use Rattle.relative_file.proofs.CellMoves.{cell_lies, bucket_told, long_told}
use Rattle.relative_file.proofs.file.set_cell.Goals as goal

pub read_bucket-requires-clause-in_home : goal.read_bucket-requires-clause-in_home
read_bucket-requires-clause-in_home g c =
    cell_lies c.args.head.now c.args.store.now.disk _ c.args.n _ c.requires.form c.requires.placed c.requires.there c.cell_place-first.ensures.first
    (ap (λ (s : StoreState). s.disk.size) c.take_frame-frame.ensures.state)

pub stage_bucket-requires-clause-in_home : goal.stage_bucket-requires-clause-in_home
stage_bucket-requires-clause-in_home g c =
    cell_lies c.args.head.now c.args.store.now.disk _ c.args.n _ c.requires.form c.requires.placed c.requires.there c.cell_place-first.ensures.first
    (ap (λ (s : StoreState). s.disk.size) (c.put_cell.ensures.put) ∙ ap (λ (s : StoreState). s.disk.size) c.in-Ok.ensures.state ∙ ap (λ (s : StoreState). s.disk.size) c.take_frame-frame.ensures.state)

pub returns-in-Err-clause-err : goal.returns-in-Err-clause-err
returns-in-Err-clause-err g c =
    let f = c.take_frame-frame.result in
    let lent = lent_taken f c.args.store.now _ c.take_frame-frame.ensures.free c.take_frame-frame.ensures.state in
    let r : Result (Unit {0}) Down = Err c.in-Err.down in
    lent_given f _ _ _ (lent_read f c.args.store.now _ _ (answered r) lent c.in-Err.ensures.state) c.give_frame-in-Err.ensures

pub returns-in-Ok-clause-ok : goal.returns-in-Ok-clause-ok
returns-in-Ok-clause-ok g c =
    let h = c.args.head.now in
    let n = c.args.n in
    let f = c.take_frame-frame.result in
    let s0 = c.args.store.now in
    let first = c.cell_place-first.result.0 in
    let place = c.cell_place-first.result.1 in
    let s1 = c.take_frame-frame.new.store in
    let s2 = c.read_bucket.new.store in
    let s3 = c.put_cell.new.store in
    let s4 = c.stage_bucket.new.store in
    let cell = cell_of h.mrs c.args.value.now in
    let frame = frame_of s2.pool f in
    let lent1 = lent_taken f s0 s1 c.take_frame-frame.ensures.free c.take_frame-frame.ensures.state in
    let lent2 = lent_read f s0 s1 s2 (λ (d : DiskState). d) lent1 c.in-Ok.ensures.state in
    let puts = put_more f (spliced frame place cell) s0 s2 s3 (lent_out f s0 s2 lent2) lent2.is c.put_cell.ensures.put in
    let lent3 = lent_written f (spliced frame place cell) s0 s2 s3 (lent_out f s0 s2 lent2) lent2 c.put_cell.ensures.put in
    let bytes = spliced frame place cell in
    let staged = c.stage_bucket.ensures ∙ (λ k. record s3 {
      current = option_map (λ (b : List (List ℕ)). with_bucket (puts.frame k) b (first - 518) h.bucket) s3.current;
      touched = with_numbers first h.bucket s3.touched;
    }) in
    let lent4 = lent_staged f s0 s3 s4 (option_map (λ (b : List (List ℕ)). with_bucket bytes b (first - 518) h.bucket)) (with_numbers first h.bucket) lent3 staged in
    let given = lent_given f _ s4 _ lent4 c.give_frame.ensures in
    let at : first - 518 ≡ first_of h n = omega (arith, c.cell_place-first.ensures.first) in
    let size = length-cell_of h.mrs c.args.value.now c.requires.holds in
    let current = ap (λ (s : StoreState). s.current) c.take_frame-frame.ensures.state in
    record {
      bytes = bytes;
      is = subst (λ (told : Option (List (List ℕ))). IfSome told (λ (b : List (List ℕ)). take (512 * h.bucket) bytes ≡ spliced (bucket_at h b (first_of h n)) (place_of h n) cell)) current
          (bucket_told s1.current (bucket_at h) (first - 518) (first_of h n) (512 * h.bucket) place (place_of h n) frame cell c.in-Ok.ensures.read at c.cell_place-first.ensures.place
          (omega (arith, size, cell_within n h.bucket h.mrs c.requires.form.one c.requires.placed.records)) (omega (arith, c.put_cell.ensures.size, c.requires.placed.blocks)));
      long = subst (λ (told : Option (List (List ℕ))). IfSome told (λ (b : List (List ℕ)). length (bucket_at h b (first_of h n)) ≡ 512 * h.bucket)) current
          (long_told s1.current (bucket_at h) (first - 518) (first_of h n) (512 * h.bucket) frame c.in-Ok.ensures.read at (omega (arith, c.put_cell.ensures.size, c.requires.placed.blocks)));
      state = given ∙ (λ k. record s0 {
        current = option_map (λ (b : List (List ℕ)). with_bucket bytes b (at k) h.bucket) s0.current;
        touched = with_numbers (c.cell_place-first.ensures.first k) h.bucket s0.touched;
        reads = c.give_frame.new.store.reads;
      });
    }
