-- The head of a file in free blocks of its volume.
use Rattle.std.proofs.Common.{◌≡◌, ◌<◌, ◌≤◌, ◌+◌, ◌-◌, ◌*◌, ◌/◌, ◌%◌, ℕ, zero, suc, Bool, true, false, List, [], ◌∷◌, length, max, Option, Some, None, refl, sym, ◌∙◌, ap, subst, arith}
use Rattle.std.specs.Prelude.{◌&&◌, nat_le, nat_lt}
use Rattle.std.proofs.lemmas.Nat.{mod_below, div-add-mod'}
use Rattle.std.proofs.lemmas.Bool.Decides.{nat_tests}
use Rattle.block_disk.specs.Disk.{DiskState}
use Rattle.change_set.specs.Files.{IsPlaced, in_extent}
use Rattle.volume.specs.extents.Extents.{is_free, all_extents, covers}
use Rattle.volume.proofs.extents.Used.{covered, free_is}
use Rattle.file_base.specs.declared.head.FileHead.{FileHead}
use Rattle.file_base.specs.declared.head.Organization.{Organization}
use Rattle.file_base.specs.declared.head.Organization.TheVariants.{Sequential, Relative, Indexed}
use Rattle.record_files.specs.indexed_file.Chain as leaf
use Rattle.load_pages.specs.load_laws.Loads.{AllSuitBy, AreLoadable, HeadBy, head_by, buckets_by, loaded_buckets, loaded_head}
use Rattle.load_pages.specs.load_laws.Records.{Keyed}
use Rattle.record_files.specs.relative_file.Cells as relative
use Rattle.vms_base.specs.declared.moments.Moment.{Moment}
use Rattle.vms_model.specs.Keys.{Key, Number, Text, End}
use Rattle.volume.specs.declared.catalog.Catalog.{Catalog}
use Rattle.volume.specs.Catalogs.{IsSound}
use Rattle.volume.specs.Limits.{BucketFits, FileFits, KeysFit, RootFits, buckets_of, cells_of, data_area, file_buckets}
use Rattle.volume.specs.volume_format.Home.{sizes_of}
use Rattle.recover_rms.specs.Loading.{AreKept}
use Rattle.recover_rms.specs.Replacing.{IsRun, is_unused, moved_head, wanted_buckets}

-- What a load tells of a head besides what the records determine.

pub start_stays : (o : Organization) (h : FileHead) (es : List Keyed) → (head_by o h es).start ≡ h.start
start_stays Sequential h es = refl
start_stays Relative h es = refl
start_stays Indexed h es = refl

pub alloc_stays : (o : Organization) (h : FileHead) (es : List Keyed) → (head_by o h es).alloc ≡ h.alloc
alloc_stays Sequential h es = refl
alloc_stays Relative h es = refl
alloc_stays Indexed h es = refl

pub bucket_stays : (o : Organization) (h : FileHead) (es : List Keyed) → (head_by o h es).bucket ≡ h.bucket
bucket_stays Sequential h es = refl
bucket_stays Relative h es = refl
bucket_stays Indexed h es = refl

pub extent_stays : (o : Organization) (h : FileHead) (es : List Keyed) (n : ℕ) → in_extent (head_by o h es) n ≡ in_extent h n
extent_stays Sequential h es n = refl
extent_stays Relative h es n = refl
extent_stays Indexed h es n = refl

-- A run of free blocks.

some_more : (a b : ℕ) → 1 ≤ a → 1 ≤ b → 1 ≤ a * b
some_more zero b p q = let no_way : ⊥ = omega (arith, p) in absurd no_way
some_more (suc a) zero p q = let no_way : ⊥ = omega (arith, q) in absurd no_way
some_more (suc a) (suc b) p q = omega arith

extent_holds : (from size n : ℕ) → (nat_le from n && nat_lt n (from + size)) ≡ true → (from ≤ n) × (n < from + size)
extent_holds from size n is = (grind (arith, nat_tests), grind (arith, nat_tests))

module _ (v : Catalog) (start blocks : ℕ) (run : IsRun v start blocks) where
  in_area : (n : ℕ) → start ≤ n → n < start + blocks → ((data_area (sizes_of v.home)).start ≤ n) × (n < (data_area (sizes_of v.home)).end)
  in_area n from to = covered (data_area (sizes_of v.home)) n (free_is (data_area (sizes_of v.home)) (all_extents v.heads) n (run.all n from to)).0

  pub run_from : 584 ≤ start
  run_from = let at = covered (data_area (sizes_of v.home)) start (free_is (data_area (sizes_of v.home)) (all_extents v.heads) start run.first).0 in omega (arith, at.0)

  pub run_to : 1 ≤ blocks → start + blocks ≤ v.home.blocks
  run_to some = let at = in_area (start + blocks - 1) (omega (arith, some)) (omega (arith, some)) in omega (arith, at.1, some)

  -- the blocks of a file that lies there are free
  pub run_unused : (h : FileHead) → h.start ≡ start → h.alloc * h.bucket ≡ blocks → (n : ℕ) → in_extent h n ≡ true → is_unused v n ≡ true
  run_unused h at long n is =
      let lies = extent_holds (h.start - 518) (h.alloc * h.bucket) n is in
      let first = run_from in
      run.all (n + 518) (omega (arith, lies, at, first)) (omega (arith, lies, at, first, long))

  -- and lie behind the front
  pub run_behind : (h : FileHead) → h.start ≡ start → (n : ℕ) → in_extent h n ≡ true → 66 ≤ n
  run_behind h at n is =
      let lies = extent_holds (h.start - 518) (h.alloc * h.bucket) n is in
      let first = run_from in
      omega (arith, lies, at, first)

-- The file in the run.

module _ (h : FileHead) (g : Moment) (start buckets : ℕ) where
  abbrev moved : FileHead
  moved = moved_head h g start buckets

  cell_moves : (k : Key) (v : List ℕ) → relative.Suits h k (Some v) → relative.Suits moved k (Some v)
  cell_moves (Number n) v suits = suits
  cell_moves (Text t) v suits = suits
  cell_moves End v suits = suits

  cells_move : (es : List Keyed) → AllSuitBy Relative h es → AllSuitBy Relative moved es
  cells_move [] all = tt
  cells_move (e ∷ es) all = (cell_moves e.0 e.1 all.0, cells_move es all.1)

  text_moves : (k : Key) (v : List ℕ) → leaf.Suits h k (Some v) → leaf.Suits moved k (Some v)
  text_moves (Text t) v suits = record { size = suits.size; has = suits.has; most = suits.most }
  text_moves (Number n) v suits = suits
  text_moves End v suits = suits

  texts_move : (es : List Keyed) → AllSuitBy Indexed h es → AllSuitBy Indexed moved es
  texts_move [] all = tt
  texts_move (e ∷ es) all = (text_moves e.0 e.1 all.0, texts_move es all.1)

  position_moves : (k : Key) (v : List ℕ) → AllSuitBy Sequential h ((k, v) ∷ []) → AllSuitBy Sequential moved ((k, v) ∷ [])
  position_moves (Number n) v suits = suits
  position_moves (Text t) v suits = suits
  position_moves End v suits = suits

  positions_move : (es : List Keyed) → AllSuitBy Sequential h es → AllSuitBy Sequential moved es
  positions_move [] all = tt
  positions_move (e ∷ es) all = ((position_moves e.0 e.1 (all.0, tt)).0, positions_move es all.1)

  all_move : (o : Organization) (es : List Keyed) → AllSuitBy o h es → AllSuitBy o moved es
  all_move Sequential es all = positions_move es all
  all_move Relative es all = cells_move es all
  all_move Indexed es all = texts_move es all

  bucket_moves : BucketFits h → BucketFits moved
  bucket_moves fits = record { least_blocks = fits.least_blocks; most_blocks = fits.most_blocks; least_record = fits.least_record; most_record = fits.most_record; record_fits = fits.record_fits }

  -- how many buckets the load takes there
  buckets_move : (o : Organization) (es : List Keyed) → buckets ≡ max h.alloc (buckets_by o h es) → buckets_by o moved es ≤ buckets
  buckets_move Sequential es wanted = omega (arith, wanted)
  buckets_move Relative es wanted = omega arith
  buckets_move Indexed es wanted = omega (arith, wanted)

cells_more : (n c : ℕ) → 1 ≤ c → n ≤ (n + c - 1) / c * c
cells_more n c some = let parts = div-add-mod' (n + c - 1) c in let below = mod_below (n + c - 1) c some in omega (arith, parts, below, some)

-- a relative file has a cell for each number, and the keys of an indexed one lie in its records
head_moves : (o : Organization) (h : FileHead) (g : Moment) (start buckets : ℕ) (es : List Keyed) → BucketFits h → KeysFit o h → RootFits o h (file_buckets h) → buckets ≡ max h.alloc (buckets_by o h es) → HeadBy o (moved_head h g start buckets)
head_moves Sequential h g start buckets es fits keys root wanted = tt
head_moves Relative h g start buckets es fits keys root wanted =
    let same : buckets ≡ h.alloc = omega (arith, wanted) in
    let cells = cells_more h.mrn (cells_of h) (one_cell h.bucket h.mrs fits.least_record fits.record_fits) in
    subst (λ (b : ℕ). h.mrn ≤ b * cells_of h) (sym (same ∙ root.3)) cells
  where
    one_cell : (bucket mrs : ℕ) → 1 ≤ mrs → mrs + 32 ≤ 512 * bucket → 1 ≤ (512 * bucket - 16) / (mrs + 2)
    one_cell bucket mrs least fits = let parts = div-add-mod' (512 * bucket - 16) (mrs + 2) in let below = mod_below (512 * bucket - 16) (mrs + 2) (omega arith) in at_least_one ((512 * bucket - 16) / (mrs + 2)) (sym parts) below
      where
        at_least_one : (q : ℕ) → 512 * bucket - 16 ≡ q * (mrs + 2) + (512 * bucket - 16) % (mrs + 2) → (512 * bucket - 16) % (mrs + 2) < mrs + 2 → 1 ≤ q
        at_least_one zero parts below = let no_way : ⊥ = omega (arith, parts, below, fits) in absurd no_way
        at_least_one (suc q) parts below = omega arith
head_moves Indexed h g start buckets es fits keys root wanted = record { key = keys.1; short = keys.2; holds = keys.3 }

module _ (v : Catalog) (h : FileHead) (start buckets : ℕ) (es : List Keyed) (fits : FileFits v.home.greatest_moment.0 h) (wanted : buckets ≡ wanted_buckets h es) (run : IsRun v start (buckets * h.bucket)) where
  some_buckets : 1 ≤ buckets
  some_buckets = let least = fits.buckets.least in let most = fits.buckets.most in omega (arith, wanted, least, most)

  some_blocks : 1 ≤ buckets * h.bucket
  some_blocks = some_more buckets h.bucket some_buckets fits.bucket.least_blocks

  pub moved_placed : (disk : DiskState) → v.home.blocks ≡ disk.size → disk.size ≤ 65536 → IsPlaced (moved_head h v.home.greatest_moment start buckets) disk
  moved_placed disk size most =
      let from = run_from v start (buckets * h.bucket) run in
      let to = run_to v start (buckets * h.bucket) run some_blocks in
      record {
        from = omega (arith, from);
        to = omega (arith, to, size);
        fits = most;
        blocks = fits.bucket.most_blocks;
        one = fits.bucket.least_blocks;
        least = fits.bucket.least_record;
        records = fits.bucket.record_fits;
        greatest = fits.bucket.most_record;
      }

  pub moved_loadable : AreKept h es → AreLoadable (moved_head h v.home.greatest_moment start buckets) es
  moved_loadable kept = record {
    ordered = kept.ordered;
    suit = all_move h v.home.greatest_moment start buckets h.organization es kept.suit;
    numbered = kept.numbered;
    head = head_moves h.organization h v.home.greatest_moment start buckets es fits.bucket fits.keys fits.buckets.root wanted;
    fits = buckets_move h v.home.greatest_moment start buckets h.organization es wanted;
  }

-- a run of fewer blocks
pub shorter : (v : Catalog) (start more fewer : ℕ) → fewer ≤ more → IsRun v start more → IsRun v start fewer
shorter v start more fewer le run = record { first = run.first; all = λ n from to. run.all n from (omega (arith, to, le)) }
