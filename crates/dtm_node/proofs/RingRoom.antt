-- A volume whose boot count was raised is in order without units: journals of images that lie in their rings have room for the settlements of none.
use Rattle.std.proofs.Common.{◌≡◌, ℕ, zero, suc, ◌+◌, ◌-◌, ◌<◌, ◌≤◌, ◌^◌, List, [], ◌∷◌, Bool, true, false, Option, Some, None, IfSome, if◌then◌else◌, length, map, nat_lt, refl, sym, ap, subst, ◌∙◌, arith}
use Rattle.std.specs.Prelude.{◌&&◌, nat_le}
use Rattle.std.specs.List.{AllByRecursion}
use Rattle.std.proofs.lemmas.Bool.Decides.{nat_tests}
use Rattle.block_disk.specs.Disk.{DiskState}
use Rattle.careful_write.specs.State.{IsIdle}
use Rattle.change_set.specs.Files.{free_frames}
use Rattle.file_base.specs.declared.head.FileHead.{FileHead}
use Rattle.file_base.specs.declared.head.Span.{Span}
use Rattle.recovery_units.specs.image_appends.declared.side.Side.{Side}
use Rattle.recovery_units.specs.image_appends.declared.side.Side.TheVariants.{After, Before}
use Rattle.recovery_units.specs.image_appends.Images.{is_kept, span_of}
use Rattle.recovery_units.specs.image_room.Room.{AllSettlementsFit, SettlementsFit, images_end}
use Rattle.recovery_units.proofs.image_room.Rings.{first_in}
use Rattle.journal_model.specs.Ring.{ring_size}
use Rattle.recovery_units.specs.State.{HasNoUnit, IsInOrder, UnitsState, owed}
use Rattle.unit_table.specs.Units.{Ascend, OpenUnit}
use Rattle.volume.specs.declared.catalog.Catalog.{Catalog}
use Rattle.volume.specs.Catalogs.{IsSound, TellsCatalog, head_at}
use Rattle.volume.specs.State.{Holds, VolumeState}
use Rattle.recovery_units.specs.volume_model.Bars.{is_within, lowest_by, lowest_odd_ring, no_block, odd_ring, odd_span}
use Rattle.dtm_node.specs.Boots.{IsInRing, IsRaised}
use Rattle.dtm_node.proofs.Raising.{raised, raised_sound}

not_less : (m n : ℕ) → nat_lt m n ≡ false → n ≤ m
not_less m n e = grind (arith, nat_tests)

le_of : (m n : ℕ) → nat_le m n ≡ true → m ≤ n
le_of m n e = grind (arith, nat_tests)

-- the lowest of the blocks of files is no higher than that of each
lowest_of : (block : FileHead → ℕ) (hs : List (Option FileHead)) (f : ℕ) (h : FileHead) → head_at hs f ≡ Some h → lowest_by block hs ≤ block h
lowest_of block [] f h there = let no : ⊥ = cc in absurd no
lowest_of block (None ∷ hs) zero h there = let no : ⊥ = cc in absurd no
lowest_of block (Some g ∷ hs) zero h there = let same : g ≡ h = cc in let is = ap block same in omega (arith, is)
lowest_of block (None ∷ hs) (suc f) h there = lowest_of block hs f h there
lowest_of block (Some g ∷ hs) (suc f) h there = let rest = lowest_of block hs f h there in omega (arith, rest)

second : (a b : Bool) → (a && b) ≡ true → b ≡ true
second true b e = e
second false b e = let no : ⊥ = cc in absurd no

-- a journal that is kept lies in its ring, where that begins at a block and no block is odd
lies_within : (marked : Bool) (s : Span) → marked ≡ true → no_block ≤ odd_span marked s → s.start < no_block → s.end - s.first ≤ ring_size s
lies_within false s kept far low = let no : ⊥ = cc in absurd no
lies_within true s kept far low = go (is_within s) refl far
  where
    go : (b : Bool) → is_within s ≡ b → no_block ≤ (if b then no_block else s.start) → s.end - s.first ≤ ring_size s
    go true e far = le_of (s.end - s.first) (ring_size s) (second (nat_le s.first s.end) (nat_le (s.end - s.first) (ring_size s)) e)
    go false e far = let no : ⊥ = omega (arith, far, low) in absurd no

module _ (name : List ℕ) (v : Catalog) (disk : DiskState) (long : length v.heads ≡ 64) (sound : IsSound name disk.size v) (most : disk.size ≤ 65536) (rings : nat_lt (lowest_odd_ring v.heads) no_block ≡ false) where
  far : (f : ℕ) (h : FileHead) → head_at v.heads f ≡ Some h → no_block ≤ odd_ring h
  far f h there = let lowest = lowest_of odd_ring v.heads f h there in let none = not_less (lowest_odd_ring v.heads) no_block rings in omega (arith, lowest, none)

  starts : (side : Side) (f : ℕ) (h : FileHead) → head_at v.heads f ≡ Some h → is_kept side h ≡ true → (span_of side h).start < no_block
  starts side f h there kept = let first = first_in name v disk long sound side f h there kept in let size = sound.sizes.blocks in omega (arith, first.1, size, most)

  after_fits : (f : ℕ) (h : FileHead) → head_at v.heads f ≡ Some h → SettlementsFit After h f []
  after_fits f h there = λ kept. (let off = far f h there in let lies = lies_within h.marks.ai h.ai kept (omega (arith, off)) (starts After f h there kept) in omega (arith, lies))

  before_fits : (f : ℕ) (h : FileHead) → head_at v.heads f ≡ Some h → SettlementsFit Before h f []
  before_fits f h there = λ kept. (let off = far f h there in let lies = lies_within h.marks.bi h.bi kept (omega (arith, off)) (starts Before f h there kept) in omega (arith, lies))

  pub settlements_fit : (s : UnitsState) → HasNoUnit s → AllSettlementsFit (map Some s.begun) v.heads
  settlements_fit s none = subst (λ (us : List OpenUnit). AllSettlementsFit (map Some us) v.heads) (sym none.begun) (λ f h there. (after_fits f h there, before_fits f h there))

-- what the volume was as it was mounted, where nothing barred its boot
pub record IsUnbarred (v : VolumeState) : Type 0 where
  pub least : 4096 ≤ v.store.disk.size
  pub most : v.store.disk.size ≤ 65536
  pub frames : 32 ≤ free_frames v.store.pool
  pub heads : length v.catalog.heads ≡ 64
  pub sound : IsSound v.catalog.home.node v.store.disk.size v.catalog
  pub ring : IsInRing v.catalog.ru
  pub rings : nat_lt (lowest_odd_ring v.catalog.heads) no_block ≡ false
  pub moments : v.catalog.home.greatest_moment.0 ≤ 24000000000000
  pub end : v.catalog.ru.end ≤ 2 ^ 61
  pub images : images_end v.catalog.heads ≤ 2 ^ 61

-- and what it is with a boot count that was raised
pub record IsWritten (v new : VolumeState) : Type 0 where
  pub idle : IsIdle new.store
  pub catalog : new.catalog ≡ record v.catalog { home = raised v.catalog.home }
  pub size : new.store.disk.size ≡ v.store.disk.size
  pub pool : new.store.pool ≡ v.store.pool
  pub holds : Holds new

pub holds_written : (new : VolumeState) (after : Option (List (List ℕ))) (k : Catalog) → IfSome after (TellsCatalog k) → new.store.current ≡ after → new.catalog ≡ k → Holds new
holds_written new after k tells current catalog = subst (λ (x : Catalog). IfSome new.store.current (TellsCatalog x)) (sym catalog) (subst (λ o. IfSome o (TellsCatalog k)) (sym current) tells)

module _ (v new : VolumeState) (u : IsUnbarred v) (w : IsWritten v new) where
  heads_same : new.catalog.heads ≡ v.catalog.heads
  heads_same = ap (λ (k : Catalog). k.heads) w.catalog

  in_order : (s : UnitsState) → HasNoUnit s → IsInOrder (record s { log = [] }) new
  in_order s none =
      let ru = ap (λ (k : Catalog). k.ru) w.catalog in
      let start : new.catalog.ru.start ≡ v.catalog.ru.start = ap (λ (x : Span). x.start) ru in
      let first : new.catalog.ru.first ≡ v.catalog.ru.first = ap (λ (x : Span). x.first) ru in
      let end : new.catalog.ru.end ≡ v.catalog.ru.end = ap (λ (x : Span). x.end) ru in
      let blocks : ring_size new.catalog.ru ≡ ring_size v.catalog.ru = ap ring_size ru in
      let nothing : owed s.begun ≡ 0 = ap owed none.begun in
      let few : length s.begun ≡ 0 = ap length none.begun in
      record {
        idle = w.idle;
        frames = subst (λ p. 32 ≤ free_frames p) (sym w.pool) u.frames;
        heads = ap length heads_same ∙ u.heads;
        sound = subst (λ (k : Catalog). IsSound k.home.node new.store.disk.size k) (sym w.catalog) (subst (λ z. IsSound v.catalog.home.node z (record v.catalog { home = raised v.catalog.home })) (sym w.size) (raised_sound v.catalog.home.node v.store.disk.size v.catalog u.sound));
        holds = w.holds;
        least = let size = w.size in let least = u.least in omega (arith, size, least);
        most = let size = w.size in let most = u.most in omega (arith, size, most);
        ascends = let order = u.ring.order in omega (arith, first, end, order);
        room = let room = u.ring.room in omega (arith, first, end, blocks, nothing, room);
        within = subst (AllByRecursion (λ (x : OpenUnit). Ascend new.catalog.ru.first new.catalog.ru.end x.positions)) (sym none.begun) tt;
        few = omega (arith, few);
        slots = let at = u.sound.ru_start in omega (arith, start, at);
        images = subst (λ (hs : List (Option FileHead)). AllSettlementsFit (map Some s.begun) hs) (sym heads_same) (settlements_fit v.catalog.home.node v.catalog v.store.disk u.heads u.sound u.most u.rings s none);
      }

  pub volume_raised : IsRaised v.catalog.home.node new
  volume_raised =
      let moment : new.catalog.home.greatest_moment.0 ≡ v.catalog.home.greatest_moment.0 = ap (λ (k : Catalog). k.home.greatest_moment.0) w.catalog in
      let end : new.catalog.ru.end ≡ v.catalog.ru.end = ap (λ (k : Catalog). k.ru.end) w.catalog in
      let images : images_end new.catalog.heads ≡ images_end v.catalog.heads = ap images_end heads_same in
      let low = u.moments in
      let near = u.end in
      let close = u.images in
      record {
        named = ap (λ (k : Catalog). k.home.node) w.catalog;
        order = in_order;
        greatest = omega (arith, moment, low);
        end = omega (arith, end, near);
        images = omega (arith, images, close);
      }
