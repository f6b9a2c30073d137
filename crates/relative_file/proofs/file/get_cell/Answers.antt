use Rattle.std.proofs.Common.{Result, Err, ◌≡◌, ◌-◌, ◌*◌, ℕ, List, Option, Some, None, IfSome, take, ap, subst, arith}
use Rattle.block_disk.specs.Disk.{DiskState}
use Rattle.change_set.specs.careful_write.Down.{answered}
use Rattle.change_set.specs.careful_write.declared.down.Down.{Down}
use Rattle.change_set.specs.careful_write.State.{StoreState}
use Rattle.change_set.proofs.Frames.{read_and_given, frame_is}
use Rattle.relative_file.specs.Cells.{cells_in, place_of, first_of, record_in, cell_at, bucket_at}
use Rattle.relative_file.proofs.Places.{bucket_within, cell_within}
use Rattle.relative_file.proofs.CellLaws.{cell_told}
use Rattle.relative_file.proofs.file.get_cell.Goals as goal

pub read_bucket-loaded-requires-clause-in_home : goal.read_bucket-loaded-requires-clause-in_home
read_bucket-loaded-requires-clause-in_home g c =
    let h = c.args.head.now in
    let within = bucket_within c.args.n h.mrn h.alloc (cells_in h) h.bucket c.requires.there c.requires.form.cells c.requires.form.one in
    let disk = ap (λ (s : StoreState). s.disk.size) c.take_frame-frame.ensures.state in
    record {
      from = omega (arith, c.cell_place-first.ensures.first);
      to = omega (arith, c.cell_place-first.ensures.first, within, disk, c.requires.placed.to, c.requires.placed.from);
      fits = omega (arith, c.cell_place-first.ensures.first, within, c.requires.placed.to, c.requires.placed.from, c.requires.placed.fits);
    }

pub returns-in-Err-clause-state : goal.returns-in-Err-clause-state
returns-in-Err-clause-state g c =
    let r : Result (Unit {0}) Down = Err c.in-Err.down in
    read_and_given c.take_frame-frame.result c.args.store.now _ _ _ (answered r) _ c.take_frame-frame.ensures.free c.take_frame-frame.ensures.state c.in-Err.ensures.state c.pool.ensures.value c.give_frame.ensures

pub returns-in-Ok-clause-state : goal.returns-in-Ok-clause-state
returns-in-Ok-clause-state g c =
    read_and_given c.take_frame-frame.result c.args.store.now _ _ _ (λ (d : DiskState). d) _ c.take_frame-frame.ensures.free c.take_frame-frame.ensures.state c.in-Ok.ensures.state c.pool.ensures.value c.give_frame.ensures

pub returns-in-Ok-clause-found : goal.returns-in-Ok-clause-found
returns-in-Ok-clause-found g c = λ is.
    let h = c.args.head.now in
    let f = c.take_frame-frame.result in
    let frame = frame_is c.pool.result.now c.read_bucket-loaded.new.store.pool f c.bytes.result.now c.pool.ensures.value c.bytes.ensures.value in
    let read = subst (λ (b : List ℕ). IfSome c.take_frame-frame.new.store.current (λ (blocks : List (List ℕ)). take (512 * h.bucket) b ≡ bucket_at h blocks (c.cell_place-first.result.0 - 518))) frame c.in-Ok.ensures.read in
    let current = ap (λ (s : StoreState). s.current) c.take_frame-frame.ensures.state in
    subst (λ (told : Option (List (List ℕ))). IfSome told (λ (blocks : List (List ℕ)). record_in h.mrs (cell_at h blocks c.args.n) ≡ Some c.read_cell-found.new.out)) current
    (cell_told _ (bucket_at h) h.mrs _ (first_of h c.args.n) (512 * h.bucket) _ (place_of h c.args.n) c.bytes.result.now (Some c.read_cell-found.new.out) read
    (cell_within c.args.n h.bucket h.mrs c.requires.form.one c.requires.placed.records) (omega (arith, c.bytes.ensures.size, c.requires.placed.blocks)) (omega (arith, c.cell_place-first.ensures.first)) c.cell_place-first.ensures.place (c.read_cell-found.ensures.some is))

pub returns-in-Ok-clause-absent : goal.returns-in-Ok-clause-absent
returns-in-Ok-clause-absent g c = λ is.
    let h = c.args.head.now in
    let f = c.take_frame-frame.result in
    let frame = frame_is c.pool.result.now c.read_bucket-loaded.new.store.pool f c.bytes.result.now c.pool.ensures.value c.bytes.ensures.value in
    let read = subst (λ (b : List ℕ). IfSome c.take_frame-frame.new.store.current (λ (blocks : List (List ℕ)). take (512 * h.bucket) b ≡ bucket_at h blocks (c.cell_place-first.result.0 - 518))) frame c.in-Ok.ensures.read in
    let current = ap (λ (s : StoreState). s.current) c.take_frame-frame.ensures.state in
    subst (λ (told : Option (List (List ℕ))). IfSome told (λ (blocks : List (List ℕ)). record_in h.mrs (cell_at h blocks c.args.n) ≡ None)) current
    (cell_told _ (bucket_at h) h.mrs _ (first_of h c.args.n) (512 * h.bucket) _ (place_of h c.args.n) c.bytes.result.now (None) read
    (cell_within c.args.n h.bucket h.mrs c.requires.form.one c.requires.placed.records) (omega (arith, c.bytes.ensures.size, c.requires.placed.blocks)) (omega (arith, c.cell_place-first.ensures.first)) c.cell_place-first.ensures.place (c.read_cell-found.ensures.none is))

pub returns-in-Ok-clause-reads : goal.returns-in-Ok-clause-reads
returns-in-Ok-clause-reads g c =
    let taken = ap (λ (s : StoreState). s.reads) c.take_frame-frame.ensures.state in
    let given = ap (λ (s : StoreState). s.reads) c.give_frame.ensures in omega (arith, taken, given, c.read_bucket-loaded.ensures.reads)

pub returns-in-Err-clause-reads : goal.returns-in-Err-clause-reads
returns-in-Err-clause-reads g c =
    let taken = ap (λ (s : StoreState). s.reads) c.take_frame-frame.ensures.state in
    let given = ap (λ (s : StoreState). s.reads) c.give_frame.ensures in omega (arith, taken, given, c.read_bucket-loaded.ensures.reads)
