-- The numbers of a relative file's cells, bucket after bucket.
use Rattle.std.proofs.Common.{◌≡◌, ◌<◌, ◌≤◌, ◌+◌, ◌-◌, ◌*◌, ℕ, arith}
use Rattle.std.proofs.lemmas.Nat.{mul-le}
use Rattle.std.proofs.Math.Nat.{div-mul-le_self}
use Rattle.block_disk.specs.Disk.{DiskState}
use Rattle.file_base.specs.declared.head.FileHead.{FileHead}
use Rattle.change_set.specs.Files.{IsPlaced}
use Rattle.load_pages.specs.relative_file.Cells.{cells_in}

thrice : (a c : ℕ) → a * (c * 3) ≡ 3 * (a * c)
thrice a c = omega arith

-- all cells of an extent are few
few_cells : (h : FileHead) (disk : DiskState) → IsPlaced h disk → h.alloc * cells_in h ≤ 11184810
few_cells h disk placed =
    let c = cells_in h in
    let cells = div-mul-le_self (512 * h.bucket - 16) (h.mrs + 2) in
    let least = placed.least in
    let each : c * 3 ≤ c * (h.mrs + 2) = mul-le c 3 c (h.mrs + 2) (omega arith) (omega (arith, least)) in
    let bucket : c * 3 ≤ 512 * h.bucket = omega (arith, cells, each) in
    let all : h.alloc * (c * 3) ≤ h.alloc * (512 * h.bucket) = mul-le h.alloc (c * 3) h.alloc (512 * h.bucket) (omega arith) bucket in
    let turned : h.alloc * (512 * h.bucket) ≡ 512 * (h.alloc * h.bucket) = omega arith in
    let three = thrice h.alloc c in
    let to = placed.to in
    let fits = placed.fits in
    omega (arith, all, turned, three, to, fits)

-- so are those up to the end of a bucket
pub cells_low : (h : FileHead) (disk : DiskState) (i : ℕ) → IsPlaced h disk → i < h.alloc → i * cells_in h ≤ 11184810
cells_low h disk i placed below =
    let few = few_cells h disk placed in
    let less : i * cells_in h ≤ h.alloc * cells_in h = mul-le i (cells_in h) h.alloc (cells_in h) (omega (arith, below)) (omega arith) in omega (arith, few, less)

-- the next bucket's are those behind
pub next_cells : (i c : ℕ) → i * c + c ≡ (i + 1) * c
next_cells i c = omega arith
