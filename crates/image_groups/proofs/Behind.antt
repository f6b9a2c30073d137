-- Bytes behind the end of a file's journal.
use Rattle.std.proofs.Common.{◌≡◌, ℕ, suc, ◌+◌, ◌*◌, ◌<◌, ◌≤◌, Bool, true, false, List, Option, Some, None, length, slice_set, refl, sym, ◌∙◌, ap, subst, arith}
use Rattle.block_disk.specs.Blocks.{block_at}
use Rattle.extents.specs.declared.extent.Extent.{Extent as Area}
use Rattle.file_base.specs.declared.head.FileHead.{FileHead}
use Rattle.file_base.specs.declared.head.Span.{Span}
use Rattle.restart_laws.specs.file_images.Files.{HasSide, form_of}
use Rattle.restart_laws.proofs.file_images.Sides.{saves_follow, sides_follow}
use Rattle.image_room.specs.image_appends.declared.side.Side.{Side}
use Rattle.image_room.specs.image_appends.declared.side.Side.TheVariants.{After, Before}
use Rattle.image_room.specs.image_appends.Images.{is_kept, span_of}
use Rattle.journal_model.specs.Entries.{Entry as Spelled}
use Rattle.journal_model.specs.Ring.{IsJournal, KeepsOthers}
use Rattle.recovery_model.specs.File.{ImageJournal}
use Rattle.restart_laws.specs.run_model.World.{File}
use Rattle.volume.specs.declared.catalog.Catalog.{Catalog}
use Rattle.volume.specs.Catalogs.{TellsCatalog, TellsEntry}
use Rattle.volume_format.specs.Home.{HasHome, HasRu}
use Rattle.restart_laws.specs.directory_model.Files.{AreFiles, file_at, head_at}
use Rattle.restart_laws.proofs.directory_model.Apart.{after_is, before_is, off_ring, writes_apart}
use Rattle.restart_laws.proofs.directory_model.Entering.{is_there}
use Rattle.restart_laws.proofs.directory_model.Moving.{places_moved}
use Rattle.restart_laws.proofs.directory_model.Places.{file_there}
use Rattle.restart_laws.proofs.directory_model.Standing.{file_stands}
use Rattle.image_groups.proofs.Dressed.{one_dressed, sound_same}
use Rattle.image_groups.proofs.Sides.{near_stays, set_back}
use Rattle.image_groups.specs.Groups.{AllDressed, AreFitting, Enters, TellsOther}
use Rattle.image_groups.specs.Lists.{EntersBehind}

-- the blocks that tell the volume stay
tells_front : (c b : List (List ℕ)) (heads : List (Option FileHead)) → ((k : ℕ) → k < 66 → block_at b k ≡ block_at c k) → TellsOther c heads b heads
tells_front c b heads front k same told = record {
  ranges = told.ranges;
  home = subst (λ (x : List ℕ). HasHome x k.home) (sym (front 0 (omega arith))) told.home;
  heads = λ g below. subst (λ (x : List ℕ). TellsEntry x (head_at heads g)) (sym (front (1 + g) (omega (arith, below)))) (subst (λ hs. TellsEntry (block_at c (1 + g)) (head_at hs g)) same (told.heads g below));
  ru = subst (λ (x : List ℕ). HasRu x k.ru) (sym (front 65 (omega arith))) told.ru;
}

-- a journal of a file stands
side_behind : (c b : List (List ℕ)) (marked : Bool) (s : Span) (f : ℕ) (form : FileHead) (j : ImageJournal) → HasSide c marked s f form j → ((es : List Spelled) → IsJournal c s es → IsJournal b s es) → HasSide b marked s f form j
side_behind c b marked s f form j has journal = record {
  on = has.on;
  start = has.start;
  blocks = has.blocks;
  first = has.first;
  end = has.end;
  images = λ m. let i = has.images m in record { on = i.on; start = i.start; blocks = i.blocks; first = i.first; end = i.end; spelled = journal _ i.spelled; places = i.places };
  bare = has.bare;
  of = has.of;
  suited = has.suited;
}

module _ (c b : List (List ℕ)) (area : Area) (heads : List (Option FileHead)) (directory : List (Option File)) (f : ℕ) (h : FileHead) (are : AreFitting c area heads directory) (low : f < 64) (there : head_at heads f ≡ Some h) where
  -- both lists are as they were
  as_before : (file : File) → file_at directory f ≡ Some file → AreFiles b (slice_set heads f (Some h)) (slice_set directory f (Some file)) → AreFiles b heads directory
  as_before file at files = subst (λ ds. AreFiles b heads ds) (set_back directory f file at) (subst (λ hs. AreFiles b hs (slice_set directory f (Some file))) (set_back heads f h there) files)

  after_behind : h.marks.ai ≡ true → KeepsOthers h.ai c b → ((es : List Spelled) → IsJournal c h.ai es → IsJournal b h.ai es) → Enters c heads b area heads directory
  after_behind on others journal =
      let found = file_there c heads directory f h are.files there in
      let it = is_there c heads directory f h found.0 are.files there found.1 in
      let off = off_ring h.ai c b others in
      let whole = (journal _ (it.1.after.images on).spelled).ring.whole in
      let rest = writes_apart.in_after area heads f h c b are.fit there off whole in
      let near = near_stays area heads c b are.fit (4 * f + 1) h.ai.start h.ai.blocks (omega (arith, low)) (after_is area heads are.fit f h there) off in
      let behind = are.behind in
      record {
        fitting = record {
          files = as_before found.0 found.1 (places_moved c b heads directory f h h found.0 are.files there (file_stands c b h found.0 rest.1 it.0) (record {
            after = side_behind c b h.marks.ai h.ai f (form_of h) (found.0).carried.after it.1.after journal;
            before = sides_follow.stays c b h.marks.bi h.bi f (form_of h) (found.0).carried.before it.1.before (λ m. rest.2);
            since = it.1.since;
            save = saves_follow.stays c b h.marks.save h h (found.0).carried.save it.1.save (record { organization = refl; bucket = refl; mrs = refl; mrn = refl; key_pos = refl; key_size = refl; save = refl }) (λ m. rest.3);
          }) rest.0);
          fit = are.fit;
          behind = behind;
          whole = whole;
        };
        dressed = subst (λ hs. AllDressed c heads b hs) (set_back heads f h there) (one_dressed c b heads f h h there (record { is = refl }) rest.1 rest.0);
        size = off.size;
        front = λ k side near_by. near k near_by;
        tells = tells_front c b heads (λ k below. near k (omega (arith, behind, below)));
        sound = sound_same heads;
      }

  before_behind : h.marks.bi ≡ true → KeepsOthers h.bi c b → ((es : List Spelled) → IsJournal c h.bi es → IsJournal b h.bi es) → Enters c heads b area heads directory
  before_behind on others journal =
      let found = file_there c heads directory f h are.files there in
      let it = is_there c heads directory f h found.0 are.files there found.1 in
      let off = off_ring h.bi c b others in
      let whole = (journal _ (it.1.before.images on).spelled).ring.whole in
      let rest = writes_apart.in_before area heads f h c b are.fit there off whole in
      let near = near_stays area heads c b are.fit (4 * f + 2) h.bi.start h.bi.blocks (omega (arith, low)) (before_is area heads are.fit f h there) off in
      let behind = are.behind in
      record {
        fitting = record {
          files = as_before found.0 found.1 (places_moved c b heads directory f h h found.0 are.files there (file_stands c b h found.0 rest.1 it.0) (record {
            after = sides_follow.stays c b h.marks.ai h.ai f (form_of h) (found.0).carried.after it.1.after (λ m. rest.2);
            before = side_behind c b h.marks.bi h.bi f (form_of h) (found.0).carried.before it.1.before journal;
            since = it.1.since;
            save = saves_follow.stays c b h.marks.save h h (found.0).carried.save it.1.save (record { organization = refl; bucket = refl; mrs = refl; mrn = refl; key_pos = refl; key_size = refl; save = refl }) (λ m. rest.3);
          }) rest.0);
          fit = are.fit;
          behind = behind;
          whole = whole;
        };
        dressed = subst (λ hs. AllDressed c heads b hs) (set_back heads f h there) (one_dressed c b heads f h h there (record { is = refl }) rest.1 rest.0);
        size = off.size;
        front = λ k side near_by. near k near_by;
        tells = tells_front c b heads (λ k below. near k (omega (arith, behind, below)));
        sound = sound_same heads;
      }

  by_side : (side : Side) → is_kept side h ≡ true → KeepsOthers (span_of side h) c b → ((es : List Spelled) → IsJournal c (span_of side h) es → IsJournal b (span_of side h) es) → Enters c heads b area heads directory
  by_side After on others journal = after_behind on others journal
  by_side Before on others journal = before_behind on others journal

pub enters_behind : EntersBehind
enters_behind c b area heads directory f h side are low there on others journal = by_side c b area heads directory f h are low there side on others journal
