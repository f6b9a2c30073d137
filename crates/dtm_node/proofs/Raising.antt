-- A boot from the volume that is mounted to the one whose boot count is raised.
use Rattle.std.proofs.Common.{◌≡◌, ⊎_elim, inl, inr, ℕ, zero, suc, ◌+◌, ◌-◌, ◌*◌, ◌<◌, ◌≤◌, ◌^◌, List, [], ◌∷◌, Bool, true, false, Option, Some, None, IfSome, if◌then◌else◌, length, take, replicate, slice_set, map, option_map, refl, sym, ap, subst, ◌∙◌, arith, nat_lt, max, min}
use Rattle.std.specs.Prelude.{◌==◌, ◌&&◌, nat_le}
use Rattle.std.proofs.lemmas.Bool.Decides.{nat_tests}
use Rattle.vms_model.specs.Limits.{boot_limit, moment_limit, position_limit}
use Rattle.journal_model.specs.Ring.{ring_size}
use Rattle.std.proofs.Math.Seq.{take-length}
use Rattle.block_disk.specs.Disk.{DiskState}
use Rattle.careful_write.specs.State.{IsEither, IsIdle, Leaves, content}
use Rattle.emitter_model.specs.transcript_model.Lines as line
use Rattle.emitter_model.specs.transcript_model.Lines.{Line}
use Rattle.file_base.specs.declared.head.FileHead.{FileHead}
use Rattle.file_base.specs.declared.head.Organization.{Organization as Kept}
use Rattle.file_base.specs.declared.head.Organization.TheVariants.{Sequential, Relative, Indexed}
use Rattle.node_files.specs.record_files.Any as any
use Rattle.node_files.specs.indexed_tree.Laws.{TellsHead}
use Rattle.node_files.proofs.indexed_tree.RootLaws.{layout_tells}
use Rattle.volume_format.specs.declared.home.Home.{Home}
use Rattle.volume_format.specs.Home.{IsHome, home_block_of, home_rows}
use Rattle.volume_format.proofs.Homes.{home_wide}
use Rattle.volume_format.proofs.Splices.{length-laid}
use Rattle.std.proofs.lemmas.List.{length-replicate}
use Rattle.volume.specs.declared.catalog.Catalog.{Catalog}
use Rattle.volume.specs.Catalogs.{IsSound, TellsCatalog}
use Rattle.volume.specs.State.{VolumeState, Holds}
use Rattle.world_laws.specs.run_model.World.{Node, File, Carried, Boots, Volume, Sound, Faulty, Barred, Unknown, Bar, NoRing, NoIndex, AllBoots, LateMoment, FarPosition, Shared, acted, booted, fallen, prepared_left}
use Rattle.world_laws.specs.run_model.Answers.{Row, bar_line, bootable, images_end as files_end, last_position, left_active, table_rows, unit_key}
use Rattle.world_laws.specs.run_model.Operations.{first_of, refused_if}
use Rattle.emitter_model.specs.commit_protocol.World.{undo_all}
use Rattle.file_base.specs.declared.head.Span.{Span}
use Rattle.node_files.specs.file_images.Files.{HasSide}
use Rattle.world_laws.specs.recovery_model.File.{ImageJournal}
use Rattle.node_files.specs.directory_model.Files.{file_at, head_at}
use Rattle.node_files.specs.directory_model.Restoring.{IsPlaceLeft}
use Rattle.recovery_units.specs.image_room.Room.{images_end}
use Rattle.recovery_units.specs.volume_model.Bars.{first_bar, is_in_ring, lowest_odd_root, no_block, odd_root, odd_root_by, lowest_by, lowest_odd_ring, odd_span, units_block}
use Rattle.recovery_units.specs.volume_model.Volumes.{HasBarred, HasDisk, IsEitherOf, IsLeftBy, LeavesVolume}
use Rattle.world_laws.specs.Nodes.{AreKept, BootsKeepUp, IsKeptDisk}
use Rattle.world_laws.proofs.UndoLemmas.{relocked_booted}
use Rattle.recovery_units.specs.Calls.{IsRestarting}
use Rattle.recovery_units.specs.Laws.{KeepsNodes}
use Rattle.dtm_node.specs.Boots.{IsMounted, IsWide}
use Rattle.dtm_node.proofs.DiskLemmas.{Content, DiskBy, disk_sound, idle_leaves, same_some}
use Rattle.dtm_node.proofs.Mounting.{MountedBy}
use Rattle.dtm_node.proofs.SameNodes.{SameDisk, same_fallen, same_left}

-- The greatest position of a journal.

max_apart : (a b c : ℕ) → max a (max b c) ≡ max (max a b) c
max_apart a b c = omega arith

-- the ends of one head more
abbrev end_at : Option FileHead → ℕ
end_at None = 0
end_at (Some h) = max h.ai.end h.bi.end

ends_more : (hs : List (Option FileHead)) (f : ℕ) → f < length hs → images_end (take (suc f) hs) ≡ max (images_end (take f hs)) (end_at (head_at hs f))
ends_more [] f below = absurd (omega (arith, below))
ends_more (None ∷ hs) zero below = refl
ends_more (Some h ∷ hs) zero below = omega arith
ends_more (None ∷ hs) (suc f) below = ends_more hs f (omega (arith, below))
ends_more (Some h ∷ hs) (suc f) below = ap (λ x. max (max h.ai.end h.bi.end) x) (ends_more hs f (omega (arith, below))) ∙ max_apart (max h.ai.end h.bi.end) (images_end (take f hs)) (end_at (head_at hs f))

one_more : (f : ℕ) → suc f ≡ f + 1
one_more f = omega arith

pub ends_before : (hs : List (Option FileHead)) (f last end : ℕ) → f < length hs → head_at hs f ≡ None → last ≡ max end (images_end (take f hs)) → last ≡ max end (images_end (take (f + 1) hs))
ends_before hs f last end below none is = let more = sym (ap (λ x. images_end (take x hs)) (one_more f)) ∙ ends_more hs f below ∙ ap (λ (o : Option FileHead). max (images_end (take f hs)) (end_at o)) none in omega (arith, more, is)

pub ends_with : (hs : List (Option FileHead)) (f last end : ℕ) (h : FileHead) → f < length hs → head_at hs f ≡ Some h → last ≡ max end (images_end (take f hs)) → max (max last h.ai.end) h.bi.end ≡ max end (images_end (take (f + 1) hs))
ends_with hs f last end h below there is = let more = sym (ap (λ x. images_end (take x hs)) (one_more f)) ∙ ends_more hs f below ∙ ap (λ (o : Option FileHead). max (images_end (take f hs)) (end_at o)) there in omega (arith, more, is)

pub ends_whole : (hs : List (Option FileHead)) (f : ℕ) → f ≡ length hs → images_end (take f hs) ≡ images_end hs
ends_whole hs f is = ap (λ x. images_end (take x hs)) is ∙ ap images_end (take-length hs)

-- the files carry what their heads do
ends_same : (c : Content) (number : ℕ → ℕ) (hs : List (Option FileHead)) (fs : List (Option File)) → length hs ≡ length fs → ((f : ℕ) → IsPlaceLeft c (number f) (head_at hs f) (file_at fs f)) → files_end fs ≡ images_end hs
ends_same c number [] [] long each = refl
ends_same c number [] (g ∷ fs) long each = let none : ⊥ = cc in absurd none
ends_same c number (h ∷ hs) [] long each = let none : ⊥ = cc in absurd none
ends_same c number (None ∷ hs) (None ∷ fs) long each = ends_same c (λ f. number (suc f)) hs fs (omega (arith, long)) (λ f. each (suc f))
ends_same c number (None ∷ hs) (Some g ∷ fs) long each = absurd (each 0)
ends_same c number (Some h ∷ hs) (None ∷ fs) long each = absurd (each 0)
ends_same c number (Some h ∷ hs) (Some g ∷ fs) long each =
    let carried = (each 0).1 in
    let rest = ends_same c (λ f. number (suc f)) hs fs (omega (arith, long)) (λ f. each (suc f)) in
    λ i. max (max (sym carried.after.end i) (sym carried.before.end i)) (rest i)

pub position_is : (c : Content) (v : Catalog) (n : Node) → LeavesVolume c v n → last_position n ≡ max v.ru.end (images_end v.heads)
position_is c v n h =
    λ i. max (sym h.journal.end i) (ends_same c (λ f. f) v.heads n.durable.directory (h.files.heads_long ∙ sym h.files.directory_long) h.files.each i)

-- the journal of a volume that a node left lies in its ring
both_true : (a b c : Bool) → a ≡ true → b ≡ true → c ≡ true → (a && (b && c)) ≡ true
both_true true true true p q r = refl
both_true true true false p q r = r
both_true true false c p q r = let none : ⊥ = cc in absurd none
both_true false b c p q r = let none : ⊥ = cc in absurd none

le_true : (m n : ℕ) → m ≤ n → nat_le m n ≡ true
le_true m n le = grind (arith, nat_tests)

left_in_ring : (c : Content) (v : Catalog) (n : Node) → LeavesVolume c v n → is_in_ring v.ru ≡ true
left_in_ring c v n h =
    both_true (nat_le v.ru.first v.ru.end) (nat_le (v.ru.end - v.ru.first) (ring_size v.ru)) (nat_le v.ru.end (2 ^ 62)) (le_true v.ru.first v.ru.end h.journal.is.order)
    (le_true (v.ru.end - v.ru.first) (ring_size v.ru) h.journal.is.room) (le_true v.ru.end (2 ^ 62) h.journal.low)

-- Files that are laid out have the index that their buckets want.

same_number : (m n : ℕ) → (m == n) ≡ true → m ≡ n
same_number m n e = grind (arith, nat_tests)

other_number : (m n : ℕ) → (m == n) ≡ false → m ≡ n → ⊥
other_number m n e same = grind (arith, nat_tests)

no_odd_root : (o : Kept) (h : FileHead) (c : Content) → any.FormBy o h → any.LaidOutBy o h c → odd_root_by o h ≡ no_block
no_odd_root Sequential h c form laid = refl
no_odd_root Relative h c form laid = refl
no_odd_root Indexed h c form laid = go (h.levels == 1) (h.used == 1) refl refl
  where
    tells : TellsHead h c
    tells = layout_tells h c form.root.some laid

    go : (a b : Bool) → (h.levels == 1) ≡ a → (h.used == 1) ≡ b → (if a then (if b then no_block else h.start + h.root * h.bucket) else (if b then h.start + h.root * h.bucket else no_block)) ≡ no_block
    go true true a b = refl
    go true false a b = absurd (other_number h.used 1 b (tells.one_level (same_number h.levels 1 a)))
    go false true a b = absurd (other_number h.levels 1 a (tells.one_bucket (same_number h.used 1 b)))
    go false false a b = refl

no_odd_roots : (c : Content) (number : ℕ → ℕ) (hs : List (Option FileHead)) (fs : List (Option File)) → length hs ≡ length fs → ((f : ℕ) → IsPlaceLeft c (number f) (head_at hs f) (file_at fs f)) → lowest_odd_root hs ≡ no_block
no_odd_roots c number [] [] long each = refl
no_odd_roots c number [] (g ∷ fs) long each = let none : ⊥ = cc in absurd none
no_odd_roots c number (h ∷ hs) [] long each = let none : ⊥ = cc in absurd none
no_odd_roots c number (None ∷ hs) (None ∷ fs) long each = no_odd_roots c (λ f. number (suc f)) hs fs (omega (arith, long)) (λ f. each (suc f))
no_odd_roots c number (None ∷ hs) (Some g ∷ fs) long each = absurd (each 0)
no_odd_roots c number (Some h ∷ hs) (None ∷ fs) long each = absurd (each 0)
no_odd_roots c number (Some h ∷ hs) (Some g ∷ fs) long each =
    let left = (each 0).0 in
    let own = no_odd_root h.organization h c left.head.form left.laid in
    let rest = no_odd_roots c (λ f. number (suc f)) hs fs (omega (arith, long)) (λ f. each (suc f)) in
    omega (arith, own, rest)

left_indexed : (c : Content) (v : Catalog) (n : Node) → LeavesVolume c v n → nat_lt (lowest_odd_root v.heads) no_block ≡ false
left_indexed c v n h = ap (λ x. nat_lt x no_block) (no_odd_roots c (λ f. f) v.heads n.durable.directory (h.files.heads_long ∙ sym h.files.directory_long) h.files.each)

-- The journals of images that files have lie in their rings.

both_within : (a b : Bool) → a ≡ true → b ≡ true → (a && b) ≡ true
both_within true true p q = refl
both_within true false p q = q
both_within false b p q = let none : ⊥ = cc in absurd none

no_odd_span : (c : Content) (marked : Bool) (s : Span) (f : ℕ) (k : FileHead) (j : ImageJournal) → HasSide c marked s f k j → odd_span marked s ≡ no_block
no_odd_span c false s f k j h = refl
no_odd_span c true s f k j h =
    let spelled = (h.images refl).spelled in
    ap (λ t. if t then no_block else s.start) (both_within (nat_le s.first s.end) (nat_le (s.end - s.first) (ring_size s)) (le_true s.first s.end spelled.order) (le_true (s.end - s.first) (ring_size s) spelled.room))

no_odd_rings : (c : Content) (number : ℕ → ℕ) (hs : List (Option FileHead)) (fs : List (Option File)) → length hs ≡ length fs → ((f : ℕ) → IsPlaceLeft c (number f) (head_at hs f) (file_at fs f)) → lowest_odd_ring hs ≡ no_block
no_odd_rings c number [] [] long each = refl
no_odd_rings c number [] (g ∷ fs) long each = let none : ⊥ = cc in absurd none
no_odd_rings c number (h ∷ hs) [] long each = let none : ⊥ = cc in absurd none
no_odd_rings c number (None ∷ hs) (None ∷ fs) long each = no_odd_rings c (λ f. number (suc f)) hs fs (omega (arith, long)) (λ f. each (suc f))
no_odd_rings c number (None ∷ hs) (Some g ∷ fs) long each = absurd (each 0)
no_odd_rings c number (Some h ∷ hs) (None ∷ fs) long each = absurd (each 0)
no_odd_rings c number (Some h ∷ hs) (Some g ∷ fs) long each =
    let carried = (each 0).1 in
    let a = no_odd_span c h.marks.ai h.ai (number 0) _ _ carried.after in
    let b = no_odd_span c h.marks.bi h.bi (number 0) _ _ carried.before in
    let rest = no_odd_rings c (λ f. number (suc f)) hs fs (omega (arith, long)) (λ f. each (suc f)) in
    omega (arith, a, b, rest)

left_within : (c : Content) (v : Catalog) (n : Node) → LeavesVolume c v n → nat_lt (lowest_odd_ring v.heads) no_block ≡ false
left_within c v n h = ap (λ x. nat_lt x no_block) (no_odd_rings c (λ f. f) v.heads n.durable.directory (h.files.heads_long ∙ sym h.files.directory_long) h.files.each)

-- The lowest of some blocks of a volume's files, file by file.

module _ (block : FileHead → ℕ) where
  abbrev block_at : Option FileHead → ℕ
  block_at None = no_block
  block_at (Some h) = block h

  lowest_more : (hs : List (Option FileHead)) (f : ℕ) → f < length hs → lowest_by block (take (suc f) hs) ≡ min (lowest_by block (take f hs)) (block_at (head_at hs f))
  lowest_more [] f below = absurd (omega (arith, below))
  lowest_more (None ∷ hs) zero below = refl
  lowest_more (Some h ∷ hs) zero below = omega arith
  lowest_more (None ∷ hs) (suc f) below = lowest_more hs f (omega (arith, below))
  lowest_more (Some h ∷ hs) (suc f) below = ap (λ x. min (block h) x) (lowest_more hs f (omega (arith, below))) ∙ min_apart (block h) (lowest_by block (take f hs)) (block_at (head_at hs f))
    where
      min_apart : (a b c : ℕ) → min a (min b c) ≡ min (min a b) c
      min_apart a b c = omega arith

  pub lowest_before : (hs : List (Option FileHead)) (f lowest : ℕ) → f < length hs → head_at hs f ≡ None → lowest ≡ lowest_by block (take f hs) → lowest ≤ no_block → lowest ≡ lowest_by block (take (f + 1) hs)
  lowest_before hs f lowest below none is most =
      let more = sym (ap (λ x. lowest_by block (take x hs)) (one_more f)) ∙ lowest_more hs f below ∙ ap (λ (o : Option FileHead). min (lowest_by block (take f hs)) (block_at o)) none in omega (arith, more, is, most)

  pub lowest_with : (hs : List (Option FileHead)) (f lowest : ℕ) (h : FileHead) → f < length hs → head_at hs f ≡ Some h → lowest ≡ lowest_by block (take f hs) → min lowest (block h) ≡ lowest_by block (take (f + 1) hs)
  lowest_with hs f lowest h below there is =
      let more = sym (ap (λ x. lowest_by block (take x hs)) (one_more f)) ∙ lowest_more hs f below ∙ ap (λ (o : Option FileHead). min (lowest_by block (take f hs)) (block_at o)) there in omega (arith, more, is)

  pub lowest_whole : (hs : List (Option FileHead)) (f : ℕ) → f ≡ length hs → lowest_by block (take f hs) ≡ lowest_by block hs
  lowest_whole hs f is = ap (λ x. lowest_by block (take x hs)) is ∙ ap (lowest_by block) (take-length hs)

-- What refuses the boot: the first of the bars.

abbrev refused_by : (boot greatest last : ℕ) → Option Line
refused_by boot greatest last = first_of (refused_if (boot == boot_limit) (line.QuotaExceeded line.Boots boot_limit))
    (first_of (refused_if (nat_lt moment_limit greatest) (line.QuotaExceeded line.Moments moment_limit)) (refused_if (nat_lt position_limit last) (line.QuotaExceeded line.Positions position_limit)))

abbrev bar_among : (ring loose : Bool) (journal : ℕ) (odd : Bool) (root : ℕ) (boots late far : Bool) → Option Bar
bar_among ring loose journal odd root boots late far =
    if ring then (if loose then Some (NoRing journal) else (if odd then Some (NoIndex root) else (if boots then Some AllBoots else (if late then Some LateMoment else (if far then Some FarPosition else None))))) else Some (NoRing units_block)

bars_refuse : (name : List ℕ) (ring loose : Bool) (journal : ℕ) (odd : Bool) (root : ℕ) (boots late far : Bool) → ring ≡ true → loose ≡ false → odd ≡ false → option_map (bar_line name) (bar_among ring loose journal odd root boots late far)
    ≡ first_of (refused_if boots (line.QuotaExceeded line.Boots boot_limit)) (first_of (refused_if late (line.QuotaExceeded line.Moments moment_limit)) (refused_if far (line.QuotaExceeded line.Positions position_limit)))
bars_refuse name true false journal false root true late far e l k = refl
bars_refuse name true false journal false root false true far e l k = refl
bars_refuse name true false journal false root false false true e l k = refl
bars_refuse name true false journal false root false false false e l k = refl
bars_refuse name true false journal true root boots late far e l k = let none : ⊥ = cc in absurd none
bars_refuse name true true journal odd root boots late far e l k = let none : ⊥ = cc in absurd none
bars_refuse name false loose journal odd root boots late far e l k = let none : ⊥ = cc in absurd none

-- which of them is so
pub bar_of : (v : Catalog) (ring loose odd boots late far : Bool) → is_in_ring v.ru ≡ ring → nat_lt (lowest_odd_ring v.heads) no_block ≡ loose → nat_lt (lowest_odd_root v.heads) no_block ≡ odd → (v.home.boot == boot_limit) ≡ boots → nat_lt moment_limit v.home.greatest_moment.0 ≡ late
    → nat_lt position_limit (max v.ru.end (images_end v.heads)) ≡ far → bar_among ring loose (lowest_odd_ring v.heads) odd (lowest_odd_root v.heads) boots late far ≡ first_bar v
bar_of v ring loose odd boots late far r j o b l f = λ i. bar_among (sym r i) (sym j i) (lowest_odd_ring v.heads) (sym o i) (lowest_odd_root v.heads) (sym b i) (sym l i) (sym f i)

pub bar_without_ring : (v : Catalog) → is_in_ring v.ru ≡ false → Some (NoRing units_block) ≡ first_bar v
bar_without_ring v r =
    bar_of v false (nat_lt (lowest_odd_ring v.heads) no_block) (nat_lt (lowest_odd_root v.heads) no_block) (v.home.boot == boot_limit) (nat_lt moment_limit v.home.greatest_moment.0) (nat_lt position_limit (max v.ru.end (images_end v.heads))) r refl refl refl refl refl

bootable_sound : (n : Node) → n.durable.volume ≡ Sound → bootable n ≡ refused_by n.durable.boot n.durable.greatest (last_position n)
bootable_sound n e = rw e refl

bootable_barred : (n : Node) (bar : Bar) → n.durable.volume ≡ Barred bar → bootable n ≡ Some (bar_line n.name bar)
bootable_barred n bar e = rw e refl

module _ (v : VolumeState) (n : Node) (wide : IsWide v.catalog.ru) (m : IsMounted v n) where
  pub bootable_is : (o : Option Line) → o ≡ option_map (bar_line v.catalog.home.node) (first_bar v.catalog) → bootable n ≡ o
  bootable_is o says = go n.durable.volume refl m.has ∙ sym says
    where
      go : (x : Volume) → n.durable.volume ≡ x → MountedBy n m.content v x → bootable n ≡ option_map (bar_line v.catalog.home.node) (first_bar v.catalog)
      go Sound e h =
          let l = h wide in
          bootable_sound n e
          ∙ (λ i. refused_by (l.home.boot i) (l.home.greatest i) (position_is m.content v.catalog n l i))
          ∙ sym (bars_refuse v.catalog.home.node (is_in_ring v.catalog.ru) (nat_lt (lowest_odd_ring v.catalog.heads) no_block) (lowest_odd_ring v.catalog.heads) (nat_lt (lowest_odd_root v.catalog.heads) no_block) (lowest_odd_root v.catalog.heads) (v.catalog.home.boot == boot_limit) (nat_lt moment_limit v.catalog.home.greatest_moment.0) (nat_lt position_limit (max v.catalog.ru.end (images_end v.catalog.heads))) (left_in_ring m.content v.catalog n l) (left_within m.content v.catalog n l) (left_indexed m.content v.catalog n l))
      go (Faulty condition block) e h = absurd h
      go (Barred bar) e h = bootable_barred n bar e ∙ (λ i. Some (bar_line (m.booting.name_is i) bar)) ∙ sym (ap (option_map (bar_line v.catalog.home.node)) (h wide))
      go Unknown e h = absurd h

  -- where nothing bars it, the volume is what the node left
  pub mounted_left : None ≡ option_map (bar_line v.catalog.home.node) (first_bar v.catalog) → LeavesVolume m.content v.catalog n
  mounted_left none = go n.durable.volume m.has
    where
      go : (x : Volume) → MountedBy n m.content v x → LeavesVolume m.content v.catalog n
      go Sound h = h wide
      go (Faulty condition block) h = absurd h
      go (Barred bar) h = absurd (let e : None ≡ Some (bar_line v.catalog.home.node bar) = none ∙ ap (option_map (bar_line v.catalog.home.node)) (h wide) in (let f : ⊥ = cc in f))
      go Unknown h = absurd h

-- the volume of the node as it was mounted
pub left_mounted : (v : VolumeState) (n m : Node) → (h : IsMounted v n) → LeavesVolume h.content v.catalog n → Holds v → IsSound v.catalog.home.node v.store.disk.size v.catalog → SameDisk m n → IsLeftBy h.content m
left_mounted v n m h leaves holds sound same = same_left m n same h.content (record {
  catalog = v.catalog;
  tells = subst (λ o. IfSome o (TellsCatalog v.catalog)) h.told holds;
  sound = rw (h.booting.name_is, h.booting.blocks) sound;
  leaves = λ whole. leaves;
})

pub raise_refused : (v : VolumeState) (n : Node) (d : DiskState) → IsWide v.catalog.ru → IsIdle v.store → Holds v → IsSound v.catalog.home.node v.store.disk.size v.catalog → length v.catalog.heads ≡ 64 → d ≡ v.store.disk → IsMounted v n → HasDisk n d
raise_refused v n d wide idle holds sound heads same m = subst (HasDisk n) (sym same) (go n.durable.volume m.has)
  where
    go : (x : Volume) → MountedBy n m.content v x → DiskBy n v.store.disk x
    go Sound h = idle_leaves v.store m.content (IsEitherOf n) idle m.told (inl (left_mounted v n n m (h wide) holds sound (record { name = refl; blocks = refl; durable = refl; up = λ e. e })))
    go (Faulty condition block) h = absurd h
    go (Barred bar) h = (
      idle_leaves v.store m.content (HasBarred n.name n.blocks bar) idle m.told (record {
        catalog = v.catalog;
        tells = subst (λ o. IfSome o (TellsCatalog v.catalog)) m.told holds;
        heads = heads;
        sound = rw (m.booting.name_is, m.booting.blocks) sound;
        wide = wide;
        bars = h wide;
      }),
      m.booting.under_way,
    )
    go Unknown h = absurd h

-- Raising the boot count.

abbrev pub raised : Home → Home
raised h = record h { boot = h.boot + 1 }

pub raised_sound : (name : List ℕ) (size : ℕ) (v : Catalog) → IsSound name size v → IsSound name size (record v { home = raised v.home })
raised_sound name size v s = record {
  version = s.version;
  sizes = s.sizes;
  home = record { owner = s.home.owner; moment = s.home.moment };
  files = s.files;
  names = s.names;
  extents = s.extents;
  ru_start = s.ru_start;
  ru_blocks = s.ru_blocks;
}

-- the block of a home has 512 bytes
home_long : (h : Home) → IsHome h → length (home_block_of h) ≡ 512
unfolding home_rows
home_long h is = length-laid 0 (home_rows h) (replicate {A = ℕ} 512 0) refl (home_wide h is) (length-replicate {A = ℕ} 512 0)

-- rows keep a disk that is kept before them
kept_first : (rs : List Row) (n : Node) → AreKept rs n → IsKeptDisk n
kept_first [] n h = h
kept_first (r ∷ rs) n h = h.0

nothing_shared : Shared
nothing_shared = record { labels = []; in_use = false; wire = []; accepted = []; read_only = [] }

boots_kept : BootsKeepUp → (n : Node) → IsKeptDisk n → IsKeptDisk (acted Boots n)
boots_kept boots n h = kept_first (table_rows (undo_all (map unit_key (left_active n))) nothing_shared (acted Boots n)) (acted Boots n) (boots nothing_shared n h).rows.1

-- The home block is written, which tells this catalog then.
module _ (v : VolumeState) (n : Node) (k : Catalog) (law : KeepsNodes) (boots : BootsKeepUp) (sound : IsSound v.catalog.home.node v.store.disk.size v.catalog) (is : k ≡ record v.catalog { home = raised v.catalog.home })
    (tells : IfSome (option_map (λ b. slice_set b 0 (home_block_of k.home)) v.store.current) (TellsCatalog k)) (m : IsMounted v n) (left : LeavesVolume m.content v.catalog n) where
  abbrev written : Content
  written = slice_set m.content 0 (home_block_of k.home)

  is_written : option_map (λ b. slice_set b 0 (home_block_of k.home)) v.store.current ≡ Some written
  is_written = ap (option_map (λ b. slice_set b 0 (home_block_of k.home))) m.told

  told : TellsCatalog k written
  told = subst (λ o. IfSome o (TellsCatalog k)) is_written tells

  raised_leaves : LeavesVolume written k (acted Boots n)
  raised_leaves = subst (λ (x : Catalog). LeavesVolume written x (acted Boots n)) (sym is)
      (law.boots m.content (home_block_of k.home) v.catalog n left (rw (m.booting.name_is, m.booting.blocks) sound) (home_long k.home told.ranges))

  pub raise_up : (new : VolumeState) → new.store.current ≡ option_map (λ b. slice_set b 0 (home_block_of k.home)) v.store.current → new.catalog ≡ k → new.store.disk.size ≡ v.store.disk.size → IsRestarting new (acted Boots n)
  raise_up new current catalog size = record {
    content = written;
    told = current ∙ is_written;
    name = m.booting.name_is ∙ sym (ap (λ (x : Catalog). x.home.node) (catalog ∙ is));
    blocks = m.booting.blocks ∙ sym size;
    leaves = subst (λ x. LeavesVolume written x (acted Boots n)) (sym catalog) raised_leaves;
    disk = boots_kept boots n m.booting.kept;
    booted = λ i. record (booted n.durable) { locks = sym (relocked_booted n.durable (n.durable.boot + 1) (prepared_left n.durable) []) i };
  }

  pub raise_fell : (d : DiskState) → IsIdle v.store → Holds v → Leaves (IsEither (content v.store) (option_map (λ b. slice_set b 0 (home_block_of k.home)) v.store.current)) d → HasDisk (fallen (Some Boots) n) d
  raise_fell d idle holds leaves =
      disk_sound (fallen (Some Boots) n) d left.home.volume (λ image there.
      let l = leaves image there in (
        l.0,
        ⊎_elim
            (λ was. inl (subst (λ x. IsLeftBy x (fallen (Some Boots) n)) (sym (same_some _ _ (was ∙ sym idle.current ∙ m.told))) (left_mounted v n (fallen (Some Boots) n) m left holds sound (same_fallen (Some Boots) n))))
            (λ now. inr (inl (Boots, refl, subst (λ x. IsLeftBy x (acted Boots (fallen (Some Boots) n))) (sym (same_some _ _ (now ∙ is_written))) taken)))
            l.1,
      ))
    where
      taken : IsLeftBy written (acted Boots (fallen (Some Boots) n))
      taken = same_left (acted Boots (fallen (Some Boots) n)) (acted Boots n) (record { name = refl; blocks = refl; durable = refl; up = λ e. let none : ⊥ = cc in absurd none }) written
          (record { catalog = k; tells = told; sound = rw (is, m.booting.name_is, m.booting.blocks) (raised_sound _ _ v.catalog sound); leaves = λ whole. raised_leaves })
