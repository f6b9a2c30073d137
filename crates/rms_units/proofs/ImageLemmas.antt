-- The journals of images of a file of which something is staged.
use Rattle.std.proofs.Common.{◌≡◌, ℕ, ◌+◌, ◌<◌, ◌≤◌, ◌^◌, Bool, true, List, Option, Some, None, length, slice_set, refl, sym, ap, subst, ◌∙◌, arith, get_or-set_same}
use Rattle.block_disk.specs.Disk.{DiskState}
use Rattle.careful_write.specs.State.{StoreState}
use Rattle.change_set.specs.Files.{SameFile}
use Rattle.file_base.specs.declared.head.FileHead.{FileHead}
use Rattle.file_base.specs.declared.head.Span.{Span}
use Rattle.volume.specs.declared.catalog.Catalog.{Catalog}
use Rattle.volume.specs.Catalogs.{head_at}
use Rattle.volume.specs.State.{VolumeState}
use Rattle.volume_files.proofs.Places.{head_below}
use Rattle.volume_files.specs.Staging.{StagesFile}
use Rattle.image_appends.specs.declared.side.Side.{Side}
use Rattle.image_appends.specs.declared.side.Side.TheVariants.{After, Before}
use Rattle.image_appends.specs.Images.{FileHasRoom, HasRoom, heads_with_both, is_kept, span_of}
use Rattle.image_room.proofs.Entered.{both_at}
use Rattle.image_room.proofs.Keeping.{LongerBy}
use Rattle.rms_units.specs.Making.{AreLow}

pub span_same : (side : Side) (h new : FileHead) → SameFile h new → span_of side new ≡ span_of side h
span_same After h new same = ap (λ (x : FileHead). x.ai) same.is
span_same Before h new same = ap (λ (x : FileHead). x.bi) same.is

pub kept_same : (side : Side) (h new : FileHead) → SameFile h new → is_kept side new ≡ is_kept side h
kept_same After h new same = ap (λ (x : FileHead). x.marks.ai) same.is
kept_same Before h new same = ap (λ (x : FileHead). x.marks.bi) same.is

one_head : (a b : FileHead) → ◌≡◌ {A = Option FileHead} (Some a) (Some b) → a ≡ b
one_head a b e = cc

-- a journal keeps its room where buckets of its file alone are staged
pub staged_room : (side : Side) (size file : ℕ) (h new : FileHead) (v mid : VolumeState) → head_at v.catalog.heads file ≡ Some h → length v.catalog.heads ≡ 64 → StagesFile file h 417 v mid new → FileHasRoom side size file v.catalog.heads v.store.disk → FileHasRoom side size file mid.catalog.heads mid.store.disk
staged_room side size file h new v mid there long stages has k at kept =
    let now : head_at mid.catalog.heads file ≡ Some new = ap (λ (c : Catalog). head_at c.heads file) stages.catalog ∙ get_or-set_same v.catalog.heads file (Some new) None (let below = head_below v.catalog.heads file h long there in omega (arith, below, long)) in
    let same : new ≡ k = one_head new k (sym now ∙ at) in
    let marked : is_kept side h ≡ true = sym (kept_same side h new stages.same) ∙ ap (is_kept side) same ∙ kept in
    subst (λ (s : Span). HasRoom size s mid.store.disk) (sym (span_same side h new stages.same) ∙ ap (span_of side) same)
    (subst (λ (d : DiskState). HasRoom size (span_of side h) d) (sym (ap (λ (s : StoreState). s.disk) stages.rest)) (has h there marked))

-- with fewer bytes more
pub room_less : (side : Side) (size file : ℕ) (heads : List (Option FileHead)) (disk : DiskState) → FileHasRoom side (size + 48) file heads disk → FileHasRoom side size file heads disk
room_less side size file heads disk has h at kept =
    let room = has h at kept in
    record { ring = room.ring; behind = room.behind; room = let r = room.room in omega (arith, r) }

-- a journal of which so many bytes more are taken
longer_room : (size more : ℕ) (s t : Span) (disk : DiskState) → LongerBy more s t → t.end ≤ 2 ^ 62 → HasRoom (more + size) s disk → HasRoom size t disk
longer_room size more s t disk longer low has = record {
  ring = record {
    from = let a = has.ring.from in let b = longer.start in omega (arith, a, b);
    to = let a = has.ring.to in let b = longer.start in let d = longer.blocks in omega (arith, a, b, d);
    fits = has.ring.fits;
    some = let a = has.ring.some in let b = longer.blocks in omega (arith, a, b);
    order = let a = has.ring.order in let b = longer.first in let d = longer.end in omega (arith, a, b, d);
    low = low;
    room = let a = has.room in let o = has.ring.order in let b = longer.first in let d = longer.end in let e = longer.blocks in omega (arith, a, o, b, d, e);
  };
  behind = let a = has.behind in let b = longer.start in omega (arith, a, b);
  room = let a = has.room in let o = has.ring.order in let b = longer.first in let d = longer.end in let e = longer.blocks in omega (arith, a, o, b, d, e);
}

-- what is left for a settlement once the images of a change are entered
pub entered_room : (file after before : ℕ) (heads : List (Option FileHead)) (disk : DiskState) → AreLow after before file heads → FileHasRoom After (after + 48) file heads disk → FileHasRoom Before (before + 48) file heads disk →
    FileHasRoom After 48 file (heads_with_both file after before heads) disk × FileHasRoom Before 48 file (heads_with_both file after before heads) disk
entered_room file after before heads disk low afters befores = (
  (λ k at kept.
      let was = both_at heads file after before k at in
      let marked = sym (was.2.kept After) ∙ kept in
      let longer = was.2.afters marked in
      longer_room 48 after (span_of After was.0) (span_of After k) disk longer (let l = (low was.0 was.1).0 marked in let e = longer.end in omega (arith, l, e)) (afters was.0 was.1 marked)),
  (λ k at kept.
      let was = both_at heads file after before k at in
      let marked = sym (was.2.kept Before) ∙ kept in
      let longer = was.2.befores marked in
      longer_room 48 before (span_of Before was.0) (span_of Before k) disk longer (let l = (low was.0 was.1).1 marked in let e = longer.end in omega (arith, l, e)) (befores was.0 was.1 marked)),
)

-- so it is of the heads of a volume of which buckets of the file are staged
pub staged_low : (after before file limit : ℕ) (h new : FileHead) (v mid : VolumeState) → head_at v.catalog.heads file ≡ Some h → length v.catalog.heads ≡ 64 → StagesFile file h limit v mid new → AreLow after before file v.catalog.heads → AreLow after before file mid.catalog.heads
staged_low after before file limit h new v mid there long stages low k at =
    let now : head_at mid.catalog.heads file ≡ Some new = ap (λ (c : Catalog). head_at c.heads file) stages.catalog ∙ get_or-set_same v.catalog.heads file (Some new) None (let below = head_below v.catalog.heads file h long there in omega (arith, below, long)) in
    let same : new ≡ k = one_head new k (sym now ∙ at) in
    let was = low h there in (
      (λ kept. subst (λ (s : Span). s.end + after ≤ 2 ^ 62) (sym (span_same After h new stages.same) ∙ ap (span_of After) same) (was.0 (sym (kept_same After h new stages.same) ∙ ap (is_kept After) same ∙ kept))),
      (λ kept. subst (λ (s : Span). s.end + before ≤ 2 ^ 62) (sym (span_same Before h new stages.same) ∙ ap (span_of Before) same) (was.1 (sym (kept_same Before h new stages.same) ∙ ap (is_kept Before) same ∙ kept))),
    )
