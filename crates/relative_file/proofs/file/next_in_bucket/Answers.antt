use Rattle.std.proofs.Common.{Result, Err, ◌≡◌, ◌≤◌, ◌<◌, min, ◌+◌, ◌-◌, ◌*◌, ℕ, List, Option, IfSome, take, ap, subst, refl, ◌%◌, arith}
use Rattle.block_disk.specs.Disk.{DiskState}
use Rattle.change_set.specs.careful_write.Down.{answered}
use Rattle.change_set.specs.careful_write.declared.down.Down.{Down}
use Rattle.change_set.specs.careful_write.State.{StoreState}
use Rattle.change_set.proofs.Frames.{read_and_given, frame_is}
use Rattle.relative_file.specs.Cells.{FindsCell, NoneFrom, last_in, bucket_at}
use Rattle.relative_file.proofs.Places.{in_range}
use Rattle.relative_file.proofs.CellMoves.{cell_lies}
use Rattle.relative_file.proofs.Scans.{scan_none, scan_found}
use Rattle.relative_file.proofs.file.next_in_bucket.Goals as goal

pub read_bucket-loaded-requires-clause-in_home : goal.read_bucket-loaded-requires-clause-in_home
read_bucket-loaded-requires-clause-in_home g c =
    cell_lies c.args.head.now c.args.store.now.disk _ c.args.n _ c.requires.form c.requires.placed c.requires.there c.cell_place-first.ensures.first
    (ap (λ (s : StoreState). s.disk.size) c.take_frame-frame.ensures.state)

pub returns-in-Err-clause-state : goal.returns-in-Err-clause-state
returns-in-Err-clause-state g c =
    let r : Result (Unit {0}) Down = Err c.in-Err.down in
    read_and_given c.take_frame-frame.result c.args.store.now _ _ _ (answered r) _ c.take_frame-frame.ensures.free c.take_frame-frame.ensures.state c.in-Err.ensures.state c.pool.ensures.value c.give_frame.ensures

pub returns-in-None-clause-state : goal.returns-in-None-clause-state
returns-in-None-clause-state g c =
    read_and_given c.take_frame-frame.result c.args.store.now _ _ _ (λ (d : DiskState). d) _ c.take_frame-frame.ensures.free c.take_frame-frame.ensures.state c.in-Ok.ensures.state c.pool.ensures.value c.give_frame.ensures

pub returns-in-Some-clause-state : goal.returns-in-Some-clause-state
returns-in-Some-clause-state g c =
    read_and_given c.take_frame-frame.result c.args.store.now _ _ _ (λ (d : DiskState). d) _ c.take_frame-frame.ensures.free c.take_frame-frame.ensures.state c.in-Ok.ensures.state c.pool.ensures.value c.give_frame.ensures

pub returns-in-None-clause-none : goal.returns-in-None-clause-none
returns-in-None-clause-none g c =
    let h = c.args.head.now in
    let f = c.take_frame-frame.result in
    let range = in_range c.args.n h.mrn c.requires.there in
    let frame = frame_is c.pool.result.now c.read_bucket-loaded.new.store.pool f c.bytes.result.now c.pool.ensures.value c.bytes.ensures.value in
    let read = subst (λ (b : List ℕ). IfSome c.take_frame-frame.new.store.current (λ (blocks : List (List ℕ)). take (512 * h.bucket) b ≡ bucket_at h blocks (c.cell_place-first.result.0 - 518))) frame c.in-Ok.ensures.read in
    let current = ap (λ (s : StoreState). s.current) c.take_frame-frame.ensures.state in
    subst (λ (told : Option (List (List ℕ))). IfSome told (λ (b : List (List ℕ)). NoneFrom h b (c.args.n - 1) (last_in h c.args.n))) current
    (subst (λ (last : ℕ). IfSome c.take_frame-frame.new.store.current (λ (b : List (List ℕ)). NoneFrom h b (c.args.n - 1) last)) c.last_number.ensures
    (scan_none c.take_frame-frame.new.store.current h c.args.n (c.cell_place-first.result.0 - 518) ((c.args.n - 1) % c.cells.result) ((c.args.n - 1) % c.cells.result + (c.last_number.result - c.args.n) + 1) c.last_number.result c.bytes.result.now c.requires.form c.requires.placed.records read
    (omega (arith, c.cell_place-first.ensures.first)) (omega (arith, c.bytes.ensures.size, c.requires.placed.blocks)) range.0 range.1 (ap (λ m. (c.args.n - 1) % m) c.cells.ensures) c.last_number.ensures refl c.in-None.ensures.none))

pub returns-in-Some-clause-found : goal.returns-in-Some-clause-found
returns-in-Some-clause-found g c =
    let h = c.args.head.now in
    let f = c.take_frame-frame.result in
    let range = in_range c.args.n h.mrn c.requires.there in
    let frame = frame_is c.pool.result.now c.read_bucket-loaded.new.store.pool f c.bytes.result.now c.pool.ensures.value c.bytes.ensures.value in
    let read = subst (λ (b : List ℕ). IfSome c.take_frame-frame.new.store.current (λ (blocks : List (List ℕ)). take (512 * h.bucket) b ≡ bucket_at h blocks (c.cell_place-first.result.0 - 518))) frame c.in-Ok.ensures.read in
    let current = ap (λ (s : StoreState). s.current) c.take_frame-frame.ensures.state in
    subst (λ (told : Option (List (List ℕ))). IfSome told (FindsCell h (c.args.n - 1) (c.args.n + (c.in-Some.k - (c.args.n - 1) % c.cells.result)) c.first_record-found.new.out)) current
    (scan_found c.take_frame-frame.new.store.current h c.args.n (c.cell_place-first.result.0 - 518) ((c.args.n - 1) % c.cells.result) ((c.args.n - 1) % c.cells.result + (c.last_number.result - c.args.n) + 1) c.last_number.result c.in-Some.k c.bytes.result.now c.first_record-found.new.out c.requires.form c.requires.placed.records read
    (omega (arith, c.cell_place-first.ensures.first)) (omega (arith, c.bytes.ensures.size, c.requires.placed.blocks)) range.0 range.1 (ap (λ m. (c.args.n - 1) % m) c.cells.ensures) c.last_number.ensures refl c.in-Some.ensures.found)

there_in : (n mrn last from k extra : ℕ) → n ≤ mrn → last ≡ min mrn (n + extra) → k < from + (last - n) + 1 → n + (k - from) ≤ mrn
there_in n mrn last from k extra le is below = omega arith

pub returns-in-Some-clause-there : goal.returns-in-Some-clause-there
returns-in-Some-clause-there g c =
    let range = in_range c.args.n c.args.head.now.mrn c.requires.there in
    (omega arith, there_in c.args.n c.args.head.now.mrn c.last_number.result ((c.args.n - 1) % c.cells.result) c.in-Some.k _ range.1 c.last_number.ensures c.in-Some.ensures.found.below)
