-- A file is made, from what the code knows.
use Rattle.std.proofs.Common.{◌≡◌, inl, ℕ, ◌+◌, ◌-◌, ◌*◌, ◌^◌, ◌<◌, ◌≤◌, List, [], ◌∷◌, Bool, true, false, Option, Some, None, IfSome, Result, Ok, Err, is_some, slice_set, nat_le, nat_lt, refl, sym, ap, subst, ◌∙◌, arith}
use Rattle.std.specs.Prelude.{◌&&◌, map}
use Rattle.std.proofs.lemmas.Bool.Decides.{nat_tests}
use Rattle.careful_write.specs.Content.{content_of}
use Rattle.careful_write.specs.State.{EachWhole, IsIdle}
use Rattle.careful_write.specs.Steps.{AgreesOff}
use Rattle.careful_write.specs.declared.down.Down.{Down}
use Rattle.change_set.specs.Files.{AgreesOut, IsPlaced, LeavesOut, in_extent}
use Rattle.change_set.specs.Maps.{empty_map}
use Rattle.extents.specs.Extents.{IsFreeRun, all_extents}
use Rattle.file_base.specs.declared.head.FileHead.{FileHead}
use Rattle.file_images.specs.record_files.Any as any
use Rattle.file_images.specs.record_files.Any.{IsLaidOut, first_layout_of, layout_of, map_of}
use Rattle.script_lang.specs.declared.statement.Form.{Form as CodeForm}
use Rattle.script_lang.specs.declared.statement.Form.TheVariants as code_form
use Rattle.script_lang.specs.Statements.{form_of}
use Rattle.emitter_model.specs.Emitting.{Shown, Emits}
use Rattle.emitter_model.specs.transcript_model.Lines as line
use Rattle.emitter_model.proofs.EmittingLemmas.{emits_nothing, since_same}
use Rattle.volume.specs.declared.catalog.Catalog.{Catalog}
use Rattle.volume.specs.Catalogs.{IsSound, TellsCatalog}
use Rattle.volume.specs.Limits.{FileFits, KeysFit, RootFits, data_area, file_buckets}
use Rattle.volume.specs.State.{VolumeState}
use Rattle.volume.specs.volume_format.Home.{sizes_of}
use Rattle.recovery_units.specs.volume_model.Volumes.{HasDisk, IsLeftBy, LeavesVolume}
use Rattle.file_images.specs.run_model.Answers.{is_file_form}
use Rattle.file_images.specs.run_model.World.{Creates, File, Node, acted, fallen, nothing_carried}
use Rattle.directory_model.specs.Files.{IsCarried, IsFile, IsNewHead, IsOrganized, NoneNamed}
use Rattle.node_files.specs.declared.sizes.Sizes.{Sizes}
use Rattle.node_files.specs.NewFile.{AreSizes, buckets_in, kept_by, new_head}
use Rattle.node_files.proofs.CatalogLemmas.{fit_of, holds_out, named_once, off_front, out_some, sound_set}
use Rattle.node_files.proofs.NewHead.{new_head_is}
use Rattle.recovery_units.specs.State.{IsInOrder, IsKept, UnitsState}
use Rattle.file_requests.specs.Making.{BecomesFile, IsFresh, MakesFile, making}
use Rattle.recovery_units.specs.world_laws.Nodes.{IsUp}
use Rattle.recovery_units.specs.Uses.{Caused, DiskAdvances, Grows}
use Rattle.node_standing.specs.node_table.Standing.{Stored}
use Rattle.file_requests.specs.Serving.{SameStored, disk_of, name_of}
use Rattle.file_requests.specs.TheLaws.{TheLaws}
use Rattle.recovery_units.specs.image_room.Room.{AllSettlementsFit, images_end}
use Rattle.file_requests.proofs.Calls.{grows_still}
use Rattle.file_requests.proofs.FreeWrites as free
use Rattle.file_requests.proofs.FreeWrites.{WrittenFree}
use Rattle.file_requests.proofs.RingHeads.{all_fit_new, end_set}
use Rattle.file_requests.proofs.HeadWrites.{Content, WritesHead, catalog_with, disk_sound, each_after, fallen_as, told_after, told_new, head_fell, head_is_written, kept_left, left_down, order_written, same_some, volume_is_written, volume_with}
use Rattle.file_requests.proofs.Marking.{long_set}
use Rattle.file_requests.proofs.Replied.{quiet_none, replies_one, since_emits}
use Rattle.file_requests.proofs.Served.{cut_act, cut_first, served}

-- The head of a new file.

right_of : (a b : Bool) → (a && b) ≡ true → b ≡ true
right_of true b e = e
right_of false b e = let none : ⊥ = cc in absurd none

least_one : (n : ℕ) → nat_le 1 n ≡ true → 1 ≤ n
least_one n e = grind (arith, nat_tests)

-- the keys and the buckets of a form
keys_new : (form : CodeForm) (name : List ℕ) (bucket mrs start : ℕ) → is_file_form bucket mrs (form_of form) ≡ true → IsOrganized (form_of form) (new_head name (record { bucket = bucket; mrs = mrs; form = form }) start) →
    KeysFit (kept_by form) (new_head name (record { bucket = bucket; mrs = mrs; form = form }) start)
keys_new (code_form.Sequential buckets) name bucket mrs start fine o = (refl, refl, refl)
keys_new (code_form.Relative records) name bucket mrs start fine o = (least_one records (right_of _ (nat_le 1 records) fine), refl, refl)
keys_new (code_form.Indexed buckets position size) name bucket mrs start fine o = (refl, o.5, o.6, o.7)

buckets_new : (form : CodeForm) (name : List ℕ) (bucket mrs start : ℕ) → 1 ≤ buckets_in (record { bucket = bucket; mrs = mrs; form = form }) →
    (let h = new_head name (record { bucket = bucket; mrs = mrs; form = form }) start in
    (1 ≤ h.used) × (h.used ≤ h.alloc) × RootFits (kept_by form) h (file_buckets h))
buckets_new (code_form.Sequential buckets) name bucket mrs start some = (omega arith, some, (refl, refl))
buckets_new (code_form.Relative records) name bucket mrs start some = (some, omega arith, (refl, refl, refl, refl, refl))
buckets_new (code_form.Indexed buckets position size) name bucket mrs start some = (omega arith, some, (omega arith, refl))

new_fits : (greatest : ℕ) (name : List ℕ) (s : Sizes) (start : ℕ) → AreSizes s → FileFits greatest (new_head name s start)
new_fits greatest name s start a =
    let new = new_head_is name s start a in
    let b = buckets_new s.form name s.bucket s.mrs start new.some in
    record {
      bucket = record { least_blocks = a.least_blocks; most_blocks = a.most_blocks; least_record = a.least_record; most_record = a.most_record; record_fits = a.record_fits };
      keys = keys_new s.form name s.bucket s.mrs start a.form new.organized;
      buckets = record { least = b.0; most = b.1; root = b.2 };
      ai = record { blocks = (refl, refl); ordered = omega arith; most = omega arith };
      bi = record { blocks = (refl, refl); ordered = omega arith; most = omega arith };
      since = omega arith;
      save = refl;
    }

-- the buckets of the new file are made
pub record MadeRecords (h : FileHead) (old mid : VolumeState) : Type 0 where
  pub map_is : IfSome mid.store.current (λ c. map_of h c ≡ empty_map)
  pub laid : IfSome mid.store.current (IsLaidOut h)
  pub layout : IfSome mid.store.current (λ c. layout_of h c ≡ first_layout_of h)
  pub outside : AgreesOut (in_extent h) old.store.current mid.store.current
  pub each : IfSome mid.store.current EachWhole
  pub idle : IsIdle mid.store
  pub catalog : mid.catalog ≡ old.catalog
  pub size : mid.store.disk.size ≡ old.store.disk.size
  pub pool : mid.store.pool ≡ old.store.pool

module _ (f : ℕ) (h : FileHead) (u : Stored) (o : IsInOrder u.units u.volume) (laws : TheLaws) (fresh : IsFresh f h u.volume.catalog) where
  abbrev here : Catalog
  here = u.volume.catalog

  new_here : IsNewHead (form_of fresh.sizes.form) h
  new_here = subst (IsNewHead (form_of fresh.sizes.form)) (sym fresh.is) (new_head_is fresh.name fresh.sizes fresh.start fresh.fits)

  pub file_form : any.IsFile h
  file_form = (laws.makes.form (form_of fresh.sizes.form) h new_here).0

  pub file_new : any.IsNew h
  file_new = (laws.makes.form (form_of fresh.sizes.form) h new_here).1

  carried_here : (file : File) → file.carried ≡ nothing_carried → (content : List (List ℕ)) → IsCarried content f h file.carried
  carried_here file bare content = subst (IsCarried content f h) (sym bare) (laws.makes.carried content f (form_of fresh.sizes.form) h new_here)

  run_here : IsFreeRun (data_area (sizes_of here.home)) (all_extents here.heads) h.start (h.alloc * h.bucket)
  run_here = subst (λ (x : FileHead). IsFreeRun (data_area (sizes_of here.home)) (all_extents here.heads) x.start (x.alloc * x.bucket)) (sym fresh.is) fresh.run

  none_here : NoneNamed here.heads 64 h.name
  none_here = subst (λ (x : FileHead). NoneNamed here.heads 64 x.name) (sym fresh.is) fresh.none

  fits_here : FileFits here.home.greatest_moment.0 h
  fits_here = subst (FileFits here.home.greatest_moment.0) (sym fresh.is) (new_fits here.home.greatest_moment.0 fresh.name fresh.sizes fresh.start fresh.fits)

  some_here : 1 ≤ h.alloc * h.bucket
  some_here = laws.makes.some (form_of fresh.sizes.form) h new_here

  -- the new file has no rings
  rings_new : AllSettlementsFit (map Some u.units.begun) (slice_set here.heads f (Some h))
  rings_new = all_fit_new here.heads f h (map Some u.units.begun) o.heads fresh.below o.images (ap (λ (x : FileHead). x.marks.ai) fresh.is) (ap (λ (x : FileHead). x.marks.bi) fresh.is)

  far_new : images_end (slice_set here.heads f (Some h)) ≤ images_end here.heads + 2 ^ 24
  far_new =
      let a : h.ai.end ≡ 0 = ap (λ (x : FileHead). x.ai.end) fresh.is in
      let b : h.bi.end ≡ 0 = ap (λ (x : FileHead). x.bi.end) fresh.is in
      end_set here.heads f h (images_end here.heads + 2 ^ 24) (omega arith) (omega (arith, a)) (omega (arith, b))

  sound_new : IsSound (name_of u) (disk_of u).size (catalog_with f h here)
  sound_new =
      sound_set (name_of u) (disk_of u).size here f h o.heads fresh.below (laws.heads.creates (data_area (sizes_of here.home)) here.heads f (form_of fresh.sizes.form) h (fit_of (name_of u) (disk_of u).size here o.heads o.sound) fresh.below new_here run_here)
      (laws.heads.creates_named here.heads f h (named_once (name_of u) (disk_of u).size here o.heads o.sound) o.heads none_here) fits_here o.sound

  pub placed_new : IsPlaced h (disk_of u)
  placed_new =
      let lies = laws.apart.run_lies (data_area (sizes_of here.home)) here.heads h.start (h.alloc * h.bucket) run_here some_here in
      let b = fits_here.bucket in
      record {
        from = omega (arith, lies.0);
        to = (let blocks = o.sound.sizes.blocks in omega (arith, lies.1, blocks));
        fits = o.most;
        blocks = b.most_blocks;
        one = b.least_blocks;
        least = b.least_record;
        records = b.record_fits;
        greatest = b.most_record;
      }

  -- The buckets were made.

  module _ (mid : VolumeState) (m : MadeRecords h u.volume mid) where
    written : WrittenFree h u.volume mid
    written = record { outside = m.outside; each = m.each; idle = m.idle; catalog = m.catalog; size = m.size; pool = m.pool }

    order_mid : IsInOrder u.units mid
    order_mid = free.order_mid h u o laws run_here some_here mid written

    rings_mid : AllSettlementsFit (map Some u.units.begun) (slice_set mid.catalog.heads f (Some h))
    rings_mid = subst (λ (k : Catalog). AllSettlementsFit (map Some u.units.begun) (slice_set k.heads f (Some h))) (sym m.catalog) rings_new

    sound_mid : IsSound mid.catalog.home.node mid.store.disk.size (catalog_with f h mid.catalog)
    sound_mid = subst (λ (k : Catalog). IsSound k.home.node mid.store.disk.size (catalog_with f h k)) (sym m.catalog) (subst (λ k. IsSound (name_of u) k (catalog_with f h here)) (sym m.size) sound_new)

    run_mid : IsFreeRun (data_area (sizes_of mid.catalog.home)) (all_extents mid.catalog.heads) h.start (h.alloc * h.bucket)
    run_mid = subst (λ (v : Catalog). IsFreeRun (data_area (sizes_of v.home)) (all_extents v.heads) h.start (h.alloc * h.bucket)) (sym m.catalog) run_here

    module _ (n : Node) (k : IsKept u.units u.volume n) where
      abbrev out_mid : (c : Content) × (mid.store.current ≡ Some c) × AgreesOff (in_extent h) k.content c
      out_mid = free.out_mid h u o laws run_here some_here mid written n k

      kept_mid : IsKept u.units mid n
      kept_mid = free.kept_mid h u o laws run_here some_here mid written n k

      file_mid : (file : File) → BecomesFile h file → IsFile out_mid.0 h file
      file_mid file becomes = becomes out_mid.0 (subst (λ o. IfSome o (λ c. map_of h c ≡ empty_map)) out_mid.1 m.map_is) (subst (λ o. IfSome o (IsLaidOut h)) out_mid.1 m.laid) (subst (λ o. IfSome o (λ c. layout_of h c ≡ first_layout_of h)) out_mid.1 m.layout)

    -- and then the head was to be written
    module _ {T : Type 0} (r : Result T Down) (new : Stored) (bytes : List ℕ) (same : new.units ≡ u.units) (doubts : new.in_doubt ≡ u.in_doubt) (wr : WritesHead r f h bytes mid new.volume) (goes : DiskAdvances (disk_of u) (disk_of new)) where
      made_grows : Grows 0 0 u.volume new.volume
      made_grows = grows_still u.volume new.volume (ap (λ (k : Catalog). k.home) (wr.catalog ∙ ap (catalog_with f h) m.catalog)) (ap (λ (k : Catalog). k.ru) (wr.catalog ∙ ap (catalog_with f h) m.catalog)) (wr.pool ∙ m.pool) goes

      made_now : (x : T) (n : Node) (file : File) → r ≡ Ok x → IsKept u.units u.volume n → IsUp n → file.history.live ≡ [] → file.carried ≡ nothing_carried → BecomesFile h file → IsKept new.units new.volume (acted (Creates f file) n)
      made_now x n file is k up live bare becomes = subst (λ (s : UnitsState). IsKept s new.volume (acted (Creates f file) n)) (sym same)
          (laws.nodes.creates u.units mid new.volume n f h file (out_mid n k).0 (slice_set (out_mid n k).0 (519 + f - 518) bytes) (kept_mid n k) order_mid fresh.below (rw m.catalog fresh.free) (rw m.catalog fresh.lowest) (rw m.catalog none_here) run_mid live (out_mid n k).1 (file_mid n k file becomes) (carried_here file bare)
          (head_is_written r f h bytes mid new.volume wr x is) (told_new r f h bytes mid new.volume wr x (out_mid n k).0 is (out_mid n k).1) (each_after r f h bytes mid new.volume wr (out_mid n k).0 (out_mid n k).1))

      pub made_done : (x : T) (a b : Shown) → r ≡ Ok x → Emits a (line.Normal ∷ []) b → MakesFile {T = Unit {0}} (Ok tt) f h u new a b
      made_done x a b is shown = record {
        keeps = record {
          order = subst (λ (s : UnitsState). IsInOrder s new.volume) (sym same) (order_written r f h bytes mid new.volume wr x u.units is (long_set mid.catalog.heads f _ ∙ order_mid.heads) sound_mid rings_mid order_mid);
          in_doubt = doubts;
          grows = made_grows;
          images = subst (λ (k : Catalog). images_end k.heads ≤ images_end here.heads + 2 ^ 24) (sym (wr.catalog ∙ ap (catalog_with f h) m.catalog)) far_new;
          cause = tt;
          since = since_emits a b _ shown;
          replies = replies_one a b line.Normal shown (refl, refl);
        };
        units = same;
        acts = λ s n file k up live bare becomes. served (making f file) s n a b (SameStored u new) (IsKept new.units new.volume) (disk_of new) (Unit {0}) tt (Creates f file) [] refl refl refl (made_now x n file is k up live bare becomes) shown;
      }

      pub made_fell : (e : Down) (a : Shown) → r ≡ Err e → Caused (Some e) (disk_of u) (disk_of new) → MakesFile {T = Unit {0}} (Err e) f h u new a a
      made_fell e a is caused = record {
        keeps = record { order = tt; in_doubt = doubts; grows = made_grows; images = tt; cause = caused; since = since_same a; replies = quiet_none a a (emits_nothing a) };
        units = same;
        acts = λ s n file k up live bare becomes. cut_act (making f file) s n a a (SameStored u new) (IsKept new.units new.volume) (disk_of new) (Unit {0}) e (Creates f file) [] refl refl refl refl (has n file k up live bare becomes) (emits_nothing a);
      }
        where
          has : (n : Node) (file : File) → IsKept u.units u.volume n → IsUp n → file.history.live ≡ [] → file.carried ≡ nothing_carried → BecomesFile h file → HasDisk (fallen (Some (Creates f file)) n) (disk_of new)
          has n file k up live bare becomes =
              let act = Creates f file in
              let kept = kept_mid n k in
              head_fell r f h bytes mid new.volume wr e u.units n act kept.content is laws.nodes kept.has.home.volume kept.blocks kept.name sound_mid order_mid.holds (sym order_mid.idle.current ∙ kept.told)
              (kept_left u.units mid n (fallen (Some act) n) kept order_mid laws.nodes (fallen_as (Some act) n)) (record { name = refl; blocks = refl; durable = refl; down = refl }) refl refl
              (laws.nodes.creates u.units mid (volume_with f h bytes mid) n f h file (out_mid n k).0 (slice_set (out_mid n k).0 (519 + f - 518) bytes) kept order_mid fresh.below (rw m.catalog fresh.free) (rw m.catalog fresh.lowest) (rw m.catalog none_here) run_mid live (out_mid n k).1 (file_mid n k file becomes) (carried_here file bare)
              (volume_is_written f h bytes mid) (told_after r f h bytes mid new.volume wr (out_mid n k).0 (out_mid n k).1) (each_after r f h bytes mid new.volume wr (out_mid n k).0 (out_mid n k).1))

  -- The buckets were not all made: the disk went down.
  module _ (new : Stored) (same : new.units ≡ u.units) (doubts : new.in_doubt ≡ u.in_doubt) (catalog : new.volume.catalog ≡ here) (pool : new.volume.store.pool ≡ u.volume.store.pool) (leaves : LeavesOut (in_extent h) u.volume.store.current (disk_of new)) where
    pub made_first : (e : Down) (a : Shown) → DiskAdvances (disk_of u) (disk_of new) → Caused (Some e) (disk_of u) (disk_of new) → MakesFile {T = Unit {0}} (Err e) f h u new a a
    made_first e a goes caused = record {
      keeps = record { order = tt; in_doubt = doubts; grows = grows_still u.volume new.volume (ap (λ (k : Catalog). k.home) catalog) (ap (λ (k : Catalog). k.ru) catalog) pool goes; images = tt; cause = caused; since = since_same a; replies = quiet_none a a (emits_nothing a) };
      units = same;
      acts = λ s n file k up live bare becomes. cut_first (making f file) s n a a (SameStored u new) (IsKept new.units new.volume) (disk_of new) (Unit {0}) e refl (has n k) (emits_nothing a);
    }
      where
        has : (n : Node) → IsKept u.units u.volume n → HasDisk (fallen None n) (disk_of new)
        has n k = free.free_fell h u o laws run_here some_here new leaves n k
