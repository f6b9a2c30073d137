-- BACKUP, from what the code knows.
use Rattle.std.proofs.Common.{◌≡◌, ⊎_elim, inl, inr, ℕ, ◌+◌, ◌-◌, ◌*◌, ◌<◌, ◌≤◌, ◌^◌, List, [], ◌∷◌, Bool, true, false, Option, Some, None, IfSome, Result, Ok, Err, length, map, slice_set, nat_le, nat_lt, refl, sym, ap, subst, ◌∙◌, arith}
use Rattle.std.specs.Prelude.{◌&&◌, ◌⊎◌}
use Rattle.std.proofs.lemmas.Bool.{cases_lt}
use Rattle.std.proofs.lemmas.Bool.Decides.{nat_tests}
use Rattle.block_disk.specs.Blocks.{block_at}
use Rattle.careful_write.specs.State.{EachWhole}
use Rattle.careful_write.specs.declared.down.Down.{Down}
use Rattle.change_set.specs.Files.{AgreesOut, IsPlaced, LeavesOut, in_extent}
use Rattle.extents.specs.Extents.{all_extents}
use Rattle.file_base.specs.declared.head.FileHead.{FileHead}
use Rattle.emitter_model.specs.transcript_model.Lines as line
use Rattle.emitter_model.specs.transcript_model.Lines.{Line}
use Rattle.emitter_model.specs.Emitting.{Shown, Emits}
use Rattle.emitter_model.proofs.EmittingLemmas.{emits_nothing, since_same}
use Rattle.file_images.specs.save_laws.Saves.{StandAt}
use Rattle.node_files.specs.save_sets.Copies.{AreApart, AreBlocks, Copies, CopiesTo, is_within}
use Rattle.script_lang.specs.script_model.Statements.{Backup}
use Rattle.vms_model.specs.Ids.{Id}
use Rattle.volume.specs.declared.catalog.Catalog.{Catalog}
use Rattle.volume.specs.Limits.{data_area}
use Rattle.volume.specs.State.{VolumeState}
use Rattle.volume.specs.volume_format.Home.{sizes_of}
use Rattle.recovery_units.specs.volume_model.Volumes.{HasDisk}
use Rattle.file_images.specs.run_model.World.{File, Node, Saves, Shared, fallen, longest_free, lowest_free}
use Rattle.file_images.specs.run_model.Answers.{Service, blocks_of, service, silent, start_of, volume_full}
use Rattle.file_images.specs.run_model.Operations.{first_of, refused_if}
use Rattle.directory_model.specs.Files.{IsNamed, NoneNamed, head_at}
use Rattle.directory_model.specs.Laws.{area_of, saved_head}
use Rattle.recovery_units.specs.image_room.Room.{AllSettlementsFit, images_end}
use Rattle.unit_table.specs.Units as units
use Rattle.recovery_units.specs.world_laws.Nodes.{IsUp}
use Rattle.recovery_units.specs.Laws.{HeadWritten, IsSaveOf}
use Rattle.recovery_units.specs.State.{IsEarly, IsInOrder, IsKept, UnitsState}
use Rattle.recovery_units.specs.Uses.{Caused, DiskAdvances, Grows, ImagesGrow, down_of}
use Rattle.node_standing.specs.node_table.Serving.{service_at}
use Rattle.node_standing.specs.node_table.Standing.{Stored}
use Rattle.node_files.proofs.CatalogLemmas.{fit_of, fits_at, placed, some_blocks}
use Rattle.file_requests.specs.Replying.{IsPlain}
use Rattle.file_requests.specs.Serving.{DoesThere, KeepsStored, SameStored, ServesFile, disk_of, name_of}
use Rattle.file_requests.specs.Settings.{IsLongest, IsLowestRun, LacksRun, SavesFile, save_at, saving}
use Rattle.file_requests.specs.TheLaws.{TheLaws}
use Rattle.file_requests.proofs.Calls.{grows_still}
use Rattle.file_requests.proofs.Filing.{backup_absent, backup_early, locked_by}
use Rattle.file_requests.proofs.FileLemmas.{file_at_name, no_file}
use Rattle.file_requests.proofs.FreeWrites as free
use Rattle.file_requests.proofs.FreeWrites.{WrittenFree}
use Rattle.file_requests.proofs.HeadWrites.{Content, WritesHead, catalog_with}
use Rattle.file_requests.proofs.Kept.{keeps_same}
use Rattle.file_requests.proofs.Marking.{HeadTaken, IsActOf, IsOneAct, below_is, ends, far_of, head_cut, head_done, head_in_order, not_below, old_after, old_before, rings_of, stay_far}
use Rattle.file_requests.proofs.Replied.{quiet_none, replies_one, since_emits}
use Rattle.file_requests.proofs.Served.{cut_first, first_is, refused, second_is}
use Rattle.file_requests.proofs.SettingHeads.{sound_saved}

-- Two runs of blocks, where no block of the one is one of the other.

within_first : (start size : ℕ) → 1 ≤ size → (nat_le start start && nat_lt start (start + size)) ≡ true
within_first start size some = grind (arith, nat_tests)

within_at : (start size n : ℕ) → start ≤ n → n < start + size → (nat_le start n && nat_lt n (start + size)) ≡ true
within_at start size n from below = grind (arith, nat_tests)

not_within : (start size n : ℕ) → (n < start) ⊎ (start + size ≤ n) → (nat_le start n && nat_lt n (start + size)) ≡ false
not_within start size n off = ⊎_elim (λ below. before start size n below) (λ behind. after start size n behind) off
  where
    before : (start size n : ℕ) → n < start → (nat_le start n && nat_lt n (start + size)) ≡ false
    before start size n below = grind (arith, nat_tests)

    after : (start size n : ℕ) → start + size ≤ n → (nat_le start n && nat_lt n (start + size)) ≡ false
    after start size n behind = grind (arith, nat_tests)

true_false : {P : Type 0} (b : Bool) → b ≡ true → b ≡ false → P
true_false b t f = let none : ⊥ = cc in absurd none

-- no other blocks were written
pub copies_out : (from to count : ℕ) (old new : Option Content) → CopiesTo from to count old new → AgreesOut (is_within to count) old new
copies_out from to count None new c = c
copies_out from to count (Some a) None c = absurd c
copies_out from to count (Some a) (Some b) c = c.rest

-- A file's buckets take blocks of the disk.
module _ (f : ℕ) (head : FileHead) (u : Stored) (o : IsInOrder u.units u.volume) (laws : TheLaws) (there : head_at u.volume.catalog.heads f ≡ Some head) where
  pub some_blocks_here : 1 ≤ head.alloc * head.bucket
  some_blocks_here = let fits = fits_at (name_of u) (disk_of u).size u.volume.catalog f head o.heads o.sound there in some_blocks head.alloc head.bucket (omega (arith, fits.buckets.least, fits.buckets.most)) fits.bucket.least_blocks

  pub blocks_fit : head.alloc * head.bucket ≤ 65536
  blocks_fit = let lies = placed (name_of u) u.volume.catalog f head (disk_of u) laws.apart o.heads o.sound o.most there in omega (arith, lies.to, lies.fits)

-- A copy of a file's buckets in a free run.
module _ (f : ℕ) (head : FileHead) (start : ℕ) (u : Stored) (o : IsInOrder u.units u.volume) (laws : TheLaws) (there : head_at u.volume.catalog.heads f ≡ Some head) (run : IsLowestRun u.volume.catalog (head.alloc * head.bucket) start) where
  abbrev here : Catalog
  here = u.volume.catalog

  -- the blocks of the run are those of a head that begins there
  abbrev at_run : FileHead
  at_run = record head { start = start }

  pub lies_here : IsPlaced head (disk_of u)
  lies_here = placed (name_of u) here f head (disk_of u) laws.apart o.heads o.sound o.most there

  some_here : 1 ≤ head.alloc * head.bucket
  some_here = some_blocks_here f head u o laws there

  pub behind : 584 ≤ start
  behind = free.run_behind at_run u o laws run.free some_here

  pub within : start + head.alloc * head.bucket ≤ (disk_of u).size
  within = free.run_within at_run u o laws run.free some_here

  pub source_is : AreBlocks head.start (head.alloc * head.bucket) (disk_of u)
  source_is = record { from = lies_here.from; to = lies_here.to; fits = lies_here.fits }

  pub target_is : AreBlocks start (head.alloc * head.bucket) (disk_of u)
  target_is = record { from = (let b = behind in omega (arith, b)); to = within; fits = lies_here.fits }

  off_run : (n : ℕ) → in_extent at_run n ≡ true → in_extent head n ≡ false
  off_run n t = laws.apart.free (data_area (sizes_of here.home)) here.heads f n at_run head (fit_of (name_of u) (disk_of u).size here o.heads o.sound) run.free there t

  pub apart_is : AreApart head.start start (head.alloc * head.bucket)
  apart_is =
      let from = lies_here.from in
      let b = behind in
      ⊎_elim
      (λ overlap. ⊎_elim
      (λ also. absurd (meets overlap also))
      (λ done. inr done)
      (cases_lt head.start (start + head.alloc * head.bucket)))
      (λ done. inl done)
      (cases_lt start (head.start + head.alloc * head.bucket))
    where
      size : ℕ
      size = head.alloc * head.bucket

      meets : start < head.start + size → head.start < start + size → ⊥
      meets p q =
          let from = lies_here.from in
          let b = behind in
          ⊎_elim
          (λ lower. true_false (in_extent head (start - 518)) (within_at (head.start - 518) size (start - 518) (omega (arith, from, b, lower)) (omega (arith, from, b, p))) (off_run (start - 518) (within_first (start - 518) size some_here)))
          (λ upper. true_false (in_extent head (head.start - 518)) (within_first (head.start - 518) size some_here) (off_run (head.start - 518) (within_at (start - 518) size (head.start - 518) (omega (arith, from, b, upper)) (omega (arith, from, b, q)))))
          (cases_lt head.start start)

  -- The copy is made.
  module _ (early : IsEarly u.volume) (unchanged : units.first_to_change f u.units.begun ≡ None) (mid : VolumeState) (m : WrittenFree at_run u.volume mid) (copied : CopiesTo (head.start - 518) (start - 518) (head.alloc * head.bucket) u.volume.store.current mid.store.current) where
    abbrev stored_mid : Stored
    stored_mid = record u { volume = mid }

    -- the head of the file with its save
    abbrev new : FileHead
    new = saved_head (save_at start here.home.greatest_moment head) head

    order_mid : IsInOrder u.units mid
    order_mid = free.order_mid at_run u o laws run.free some_here mid m

    copies_are : (a c : Content) → u.volume.store.current ≡ Some a → mid.store.current ≡ Some c → Copies (head.start - 518) (start - 518) (head.alloc * head.bucket) a c
    copies_are a c before after = let it = rw (before, after) at copied in it

    off_target : (i : ℕ) → i < head.alloc * head.bucket → is_within (start - 518) (head.alloc * head.bucket) (head.start - 518 + i) ≡ false
    off_target i below =
        let from = lies_here.from in
        let b = behind in
        not_within (start - 518) (head.alloc * head.bucket) (head.start - 518 + i) (⊎_elim (λ lower. inl (omega (arith, from, b, below, lower))) (λ upper. inr (omega (arith, from, b, below, upper))) apart_is)

    stands : (a c : Content) → u.volume.store.current ≡ Some a → mid.store.current ≡ Some c → StandAt head start c c
    stands a c before after = λ i below. let it = copies_are a c before after in it.copied i below ∙ sym (it.rest.others (head.start - 518 + i) (off_target i below))

    taken : HeadTaken stored_mid f new
    taken = record {
      sound = rw (m.catalog, m.size) (sound_saved (name_of u) (disk_of u).size here f head laws.heads o.heads there o.sound start run.free);
      rings = rw m.catalog (rings_of u o early laws f head there unchanged new (old_after u o early laws f head there unchanged) (old_before u o early laws f head there unchanged));
      far = rw m.catalog (far_of u o early laws f head there unchanged new (stay_far u o early laws f head there unchanged head.ai.end (ends u o early laws f head there unchanged).0) (stay_far u o early laws f head there unchanged head.bi.end (ends u o early laws f head there unchanged).1));
    }

    kept_mid : (n : Node) → IsKept u.units u.volume n → IsKept u.units mid n
    kept_mid n k = free.kept_mid at_run u o laws run.free some_here mid m n k

    save_is : (n : Node) (k : IsKept u.units u.volume n) (c : Content) → mid.store.current ≡ Some c → IsSaveOf n.durable.greatest c head (save_at start here.home.greatest_moment head)
    save_is n k c told = record {
      now = record { alloc = refl; used = refl; root = refl; levels = refl; count = refl };
      position = refl;
      moment = sym k.has.home.greatest;
      copied = stands k.content c k.told told;
    }

    is_act : (n : Node) (name : List ℕ) → IsKept u.units u.volume n → IsUp n → IsNamed here.heads f head name → IsActOf stored_mid f new n (Saves name start)
    is_act n name k up named = record {
      durable = refl;
      shared = λ s. refl;
      down = record { name = refl; blocks = refl; durable = refl; down = refl };
      blocks = refl;
      named = refl;
      keeps = λ w c written told each sized. laws.nodes.saves u.units mid w n f head name (save_at start here.home.greatest_moment head) c (kept_mid n k) up order_mid (rw m.catalog named) unchanged written told each behind (λ old is. save_is n k old is);
    }

    one_act : (n : Node) (name : List ℕ) → IsOneAct (saving name start head.ai.end n.durable.greatest) (Saves name start) (line.NormalSave head.ai.end n.durable.greatest)
    one_act n name = record { early = refl; late = refl; rows = refl; told = refl }

    module _ {T : Type 0} (r : Result T Down) (after : Stored) (bytes : List ℕ) (same : after.units ≡ u.units) (doubts : after.in_doubt ≡ u.in_doubt) (wr : WritesHead r f new bytes mid after.volume) (goes : DiskAdvances (disk_of u) (disk_of after)) where
      grows : Grows 0 0 u.volume after.volume
      grows =
          let catalog = wr.catalog ∙ ap (catalog_with f new) m.catalog in
          grows_still u.volume after.volume (ap (λ (k : Catalog). k.home) catalog) (ap (λ (k : Catalog). k.ru) catalog) (wr.pool ∙ m.pool) goes

      images : ImagesGrow u.volume after.volume
      images =
          subst (λ (k : Catalog). images_end k.heads ≤ images_end here.heads + 2 ^ 24) (sym (wr.catalog ∙ ap (catalog_with f new) m.catalog))
          (far_of u o early laws f head there unchanged new (stay_far u o early laws f head there unchanged head.ai.end (ends u o early laws f head there unchanged).0) (stay_far u o early laws f head there unchanged head.bi.end (ends u o early laws f head there unchanged).1))

      pub saved_done : (x : T) (a b : Shown) → r ≡ Ok x → Emits a (line.NormalSave head.ai.end here.home.greatest_moment.0 ∷ []) b → SavesFile {T = Unit {0}} (Ok tt) f head start u after a b
      saved_done x a b is m = record {
        keeps = record { order = head_in_order stored_mid order_mid laws f new taken r after bytes same wr x is; in_doubt = doubts; grows = grows; images = images; cause = tt; since = since_emits a b _ m; replies = replies_one a b (line.NormalSave head.ai.end here.home.greatest_moment.0) m (refl, refl) };
        units = same;
        acts = λ s n name k up named.
            head_done stored_mid order_mid laws f new taken r after bytes same wr n (Saves name start) (kept_mid n k) (is_act n name k up named) (saving name start head.ai.end n.durable.greatest) (line.NormalSave head.ai.end n.durable.greatest) (one_act n name) s u x a b is
            (subst (λ (t : ℕ). Emits a (line.NormalSave head.ai.end t ∷ []) b) (sym k.has.home.greatest) m);
      }

      pub saved_cut : (e : Down) (a : Shown) → r ≡ Err e → Caused (Some e) (disk_of u) (disk_of after) → SavesFile {T = Unit {0}} (Err e) f head start u after a a
      saved_cut e a is caused = record {
        keeps = record { order = tt; in_doubt = doubts; grows = grows; images = tt; cause = caused; since = since_same a; replies = quiet_none a a (emits_nothing a) };
        units = same;
        acts = λ s n name k up named.
            head_cut stored_mid order_mid laws f new taken r after bytes same wr n (Saves name start) (kept_mid n k) (is_act n name k up named) (saving name start head.ai.end n.durable.greatest) (line.NormalSave head.ai.end n.durable.greatest) (one_act n name) s u e a is;
      }

  -- The disk went down while it was made.
  pub saved_first : (e : Down) (after : Stored) (a : Shown) → after.units ≡ u.units → after.in_doubt ≡ u.in_doubt → after.volume.catalog ≡ here → after.volume.store.pool ≡ u.volume.store.pool → LeavesOut (in_extent at_run) u.volume.store.current (disk_of after) → DiskAdvances (disk_of u) (disk_of after) →
      Caused (Some e) (disk_of u) (disk_of after) → SavesFile {T = Unit {0}} (Err e) f head start u after a a
  saved_first e after a same doubts catalog pool leaves goes caused = record {
    keeps = record {
      order = tt;
      in_doubt = doubts;
      grows = grows_still u.volume after.volume (ap (λ (k : Catalog). k.home) catalog) (ap (λ (k : Catalog). k.ru) catalog) pool goes;
      images = tt;
      cause = caused;
      since = since_same a;
      replies = quiet_none a a (emits_nothing a);
    };
    units = same;
    acts = λ s n name k up named. cut_first (saving name start head.ai.end n.durable.greatest) s n a a (SameStored u after) (IsKept after.units after.volume) (disk_of after) (Unit {0}) e refl (free.free_fell at_run u o laws run.free some_here after leaves n k) (emits_nothing a);
  }

-- BACKUP

module _ (name : List ℕ) (u : Stored) (o : IsInOrder u.units u.volume) (laws : TheLaws) where
  abbrev asks : Service
  asks = service (Backup name)

  refused_by : (l : Line) (a b : Shown) → IsPlain l → Emits a (l ∷ []) b → ((s : Shared) (n : Node) → IsKept u.units u.volume n → (let q = service_at asks s n in first_of q.early q.late ≡ Some l)) → ServesFile {T = Unit {0}} (Ok tt) asks u u a b
  refused_by l a b plain m is = record {
    keeps = keeps_same tt u u a b l o refl plain m;
    units = refl;
    serves = λ s n r. refused (service_at asks s n) s n a b (SameStored u u) (IsKept u.units u.volume) (disk_of u) (Unit {0}) tt l (is s n r.kept) refl m;
  }

  pub save_absent : (a b : Shown) → NoneNamed u.volume.catalog.heads 64 name → Emits a (line.FileNotFound ∷ []) b → ServesFile {T = Unit {0}} (Ok tt) asks u u a b
  save_absent a b none m = refused_by line.FileNotFound a b (refl, refl) m (λ s n k. let q = service_at asks s n in first_is q.early q.late line.FileNotFound (backup_absent s n name (no_file n u k laws name none)))

  module _ (f : ℕ) (head : FileHead) (there : IsNamed u.volume.catalog.heads f head name) where
    pub save_locked : (serial : Id) (a b : Shown) → units.first_to_change f u.units.begun ≡ Some serial → Emits a (line.FileLocked serial ∷ []) b → ServesFile {T = Unit {0}} (Ok tt) asks u u a b
    save_locked serial a b by m = refused_by (line.FileLocked serial) a b (refl, refl) m (λ s n k. let q = service_at asks s n in first_is q.early q.late (line.FileLocked serial) (backup_early n u k laws f head name there s ∙ ap locked_by by))

    module _ (unchanged : units.first_to_change f u.units.begun ≡ None) where
      early_is : (s : Shared) (n : Node) → IsKept u.units u.volume n → (service_at asks s n).early ≡ None
      early_is s n k = backup_early n u k laws f head name there s ∙ ap locked_by unchanged

      area_same : (n : Node) → IsKept u.units u.volume n → data_area (sizes_of u.volume.catalog.home) ≡ area_of n
      area_same n k = λ i. record { start = 584 + sym k.has.home.slots i + sym k.has.home.journal i; end = (o.sound.sizes.blocks ∙ sym k.blocks) i }

      longest_is : (n : Node) (most : ℕ) → IsKept u.units u.volume n → IsLongest u.volume.catalog most → longest_free n ≡ most
      longest_is n most k l = laws.runs.longest k.content u.volume.catalog.heads n (data_area (sizes_of u.volume.catalog.home)) most k.has.files (area_same n k) l.some l.longest

      -- the file takes as many blocks as its head says
      takes : (n : Node) (k : IsKept u.units u.volume n) → blocks_of (file_at_name n u k laws f head name there).file ≡ head.alloc * head.bucket
      takes n k = let x = file_at_name n u k laws f head name there in (λ i. x.is.head.buckets i * x.is.head.bucket i)

      late_is : (s : Shared) (n : Node) (k : IsKept u.units u.volume n) → (service_at asks s n).late ≡ volume_full n (head.alloc * head.bucket)
      late_is s n k = let x = file_at_name n u k laws f head name there in (λ i. by (x.at.found i)) ∙ ap (volume_full n) (takes n k)
        where
          by : Option File → Option Line
          by o = elim o [ Some f ↦ volume_full n (blocks_of f) | None ↦ None ]

      pub save_full : (most : ℕ) (a b : Shown) → LacksRun u.volume.catalog (head.alloc * head.bucket) most → Emits a (line.VolumeFull most (head.alloc * head.bucket) ∷ []) b → ServesFile {T = Unit {0}} (Ok tt) asks u u a b
      save_full most a b l m = refused_by (line.VolumeFull most (head.alloc * head.bucket)) a b (refl, refl) m
          (λ s n k.
          let q = service_at asks s n in
          let longest = longest_is n most k l.longest in
          second_is q.early q.late (line.VolumeFull most (head.alloc * head.bucket)) (early_is s n k)
          (late_is s n k ∙ (λ i. refused_if (nat_lt (longest i) (head.alloc * head.bucket)) (line.VolumeFull (longest i) (head.alloc * head.bucket))) ∙ ap (λ t. refused_if t (line.VolumeFull most (head.alloc * head.bucket))) (below_is most (head.alloc * head.bucket) l.less)))

      pub save_made : {T : Type 0} (r : Result T Down) (start : ℕ) (after : Stored) (a b : Shown) → 1 ≤ head.alloc * head.bucket → IsLowestRun u.volume.catalog (head.alloc * head.bucket) start → SavesFile r f head start u after a b → ServesFile r asks u after a b
      save_made r start after a b some run saves = record {
        keeps = saves.keeps;
        units = saves.units;
        serves = λ s n ready. subst (λ q. DoesThere r q s n u after a b) (sym (is_saving s n ready.kept)) (saves.acts s n name ready.kept ready.up there);
      }
        where
          blocks : ℕ
          blocks = head.alloc * head.bucket

          is_saving : (s : Shared) (n : Node) → IsKept u.units u.volume n → service_at asks s n ≡ saving name start head.ai.end n.durable.greatest
          is_saving s n k =
              let x = file_at_name n u k laws f head name there in
              let longest = longest_is n run.most k run.longest in
              let lowest = laws.runs.lowest k.content u.volume.catalog.heads n (data_area (sizes_of u.volume.catalog.home)) blocks start k.has.files (area_same n k) some run.free run.lowest in
              let early = early_is s n k in
              let late = late_is s n k ∙ (λ i. refused_if (nat_lt (longest i) blocks) (line.VolumeFull (longest i) blocks)) ∙ ap (λ t. refused_if t (line.VolumeFull run.most blocks)) (not_below run.most blocks run.enough) in
              let rows = (λ i. elim (x.at.found i) [ Some g ↦ silent (Saves name (start_of (lowest_free n (blocks_of g)))) ∷ [] | None ↦ [] ])
              ∙ ap (λ (w : ℕ). silent (Saves name (start_of (lowest_free n w))) ∷ []) (takes n k)
              ∙ ap (λ w. silent (Saves name (start_of w)) ∷ []) lowest in
              let answer = (λ i. elim (x.at.found i) [ Some g ↦ line.NormalSave g.carried.after.end n.durable.greatest | None ↦ line.Normal ]) ∙ ap (λ (w : ℕ). line.NormalSave w n.durable.greatest) (sym x.carried.after.end) in
              λ i. record { early = early i; late = late i; rows = rows i; answer = answer i }
