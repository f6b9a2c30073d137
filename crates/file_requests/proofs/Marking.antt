-- A directory block is written as an act of a node; and SET_FILE, from what the code knows.
use Rattle.std.proofs.Common.{◌≡◌, ℕ, ◌+◌, ◌-◌, ◌*◌, ◌/◌, ◌<◌, ◌≤◌, ◌^◌, ◌==◌, List, [], ◌∷◌, ◌++◌, Bool, true, false, Option, Some, None, IfSome, Result, Ok, Err, length, length-set, slice_set, nat_lt, refl, sym, ap, subst, ◌∙◌, arith}
use Rattle.std.specs.Prelude.{map, not}
use Rattle.std.proofs.lemmas.Bool.Decides.{nat_tests}
use Rattle.careful_write.specs.State.{EachWhole}
use Rattle.careful_write.specs.declared.down.Down.{Down}
use Rattle.extents.specs.Extents.{all_extents}
use Rattle.extents.specs.declared.extent.Extent.{Extent as Area}
use Rattle.file_base.specs.declared.head.FileHead.{FileHead}
use Rattle.file_base.specs.declared.head.Span.{Span}
use Rattle.emitter_model.specs.transcript_model.Lines as line
use Rattle.emitter_model.specs.transcript_model.Lines.{Line}
use Rattle.emitter_model.specs.Emitting.{Shown, Emits}
use Rattle.emitter_model.proofs.EmittingLemmas.{emits_nothing, since_same}
use Rattle.journal_format.specs.journal_model.Ring.{HasRing, ring_size}
use Rattle.file_images.specs.recovery_model.File.{next_span}
use Rattle.script_lang.specs.script_model.Statements.{SetFile, Setting, RecoveryUnits, NoRecoveryUnits, Images, NoImages, Side, AfterImages, BeforeImages}
use Rattle.vms_model.specs.Ids.{Id}
use Rattle.volume.specs.Catalogs.{IsSound}
use Rattle.volume.specs.State.{VolumeState}
use Rattle.volume.specs.Limits.{data_area}
use Rattle.volume.specs.volume_format.Home.{sizes_of}
use Rattle.recovery_units.specs.volume_model.Volumes.{HasDisk}
use Rattle.file_images.specs.run_model.World.{Act, Mark, Marks, ForUnits, BeginsImages, EndsImages, Node, Shared, acted, fallen, is_durable, longest_free, lowest_free, shared_after}
use Rattle.file_images.specs.run_model.Answers.{Row, Service, service, setting_full, setting_refused, sets, silent, start_of}
use Rattle.file_images.specs.run_model.Operations.{first_of, refused_if}
use Rattle.directory_model.specs.Files.{IsNamed, NoneNamed, head_at}
use Rattle.directory_model.specs.Laws.{area_of, begun_head, end_by, ended_head, marked}
use Rattle.recovery_units.specs.image_appends.declared.side.Side.TheVariants.{After, Before}
use Rattle.recovery_units.specs.image_appends.Images.{is_kept, span_of}
use Rattle.recovery_units.specs.image_room.Room.{AllSettlementsFit, SettlementsFit, images_end}
use Rattle.unit_table.specs.Units as units
use Rattle.recovery_units.specs.world_laws.Nodes.{IsUp}
use Rattle.recovery_units.specs.Laws.{HeadWritten, MarksHead}
use Rattle.recovery_units.specs.State.{IsEarly, IsInOrder, IsKept, UnitsState}
use Rattle.recovery_units.specs.Uses.{Caused, Grows, down_of}
use Rattle.node_standing.specs.node_table.Serving.{ServiceAt, service_at}
use Rattle.node_standing.specs.node_table.Standing.{Stored}
use Rattle.node_files.proofs.CatalogLemmas.{head_below, sound_marked}
use Rattle.file_requests.specs.Replying.{IsPlain}
use Rattle.file_requests.specs.Serving.{DoesThere, KeepsStored, SameStored, ServesFile, disk_of, name_of}
use Rattle.file_requests.specs.Settings.{IsLongest, IsLowestRun, LacksBlocks, SetsHead, asks_for_none, begun_at, span_from}
use Rattle.file_requests.specs.TheLaws.{TheLaws}
use Rattle.file_requests.proofs.Calls.{caused_counts}
use Rattle.file_requests.proofs.Filing.{locked_by, set_file_absent, set_file_early}
use Rattle.file_requests.proofs.FileLemmas.{no_file}
use Rattle.file_requests.proofs.HeadWrites.{Content, IsDownAs, WritesHead, catalog_with, each_after, fallen_as, told_after, told_new, head_far, head_fell, head_grows, head_is_written, kept_left, order_written, sized_after, volume_is_written, volume_with}
use Rattle.file_requests.proofs.Kept.{keeps_same}
use Rattle.file_requests.proofs.Replied.{quiet_none, replies_one, since_emits}
use Rattle.file_requests.proofs.RingHeads.{all_fit_set, end_at, end_set, fits_within, unchanged_fits}
use Rattle.file_requests.proofs.Served.{cut_act, first_is, refused, second_is, served}
use Rattle.file_requests.proofs.SettingHeads.{sound_begun, sound_ended}

pub long_set : {A : Type 0} (xs : List A) (k : ℕ) (x : A) → length (slice_set xs k x) ≡ length xs
long_set xs k x = length-set xs k x

-- What a service is at a node where nothing refuses it and it is one act that shows nothing.
pub record IsOneAct (q : ServiceAt) (act : Act) (answer : Line) : Type 0 where
  pub early : q.early ≡ None
  pub late : q.late ≡ None
  pub rows : q.rows ≡ silent act ∷ []
  pub told : q.answer ≡ answer

-- A head takes the place of a file's in a catalog.
pub record HeadTaken (u : Stored) (f : ℕ) (new : FileHead) : Type 0 where
  pub sound : IsSound (name_of u) (disk_of u).size (catalog_with f new u.volume.catalog)
  pub rings : AllSettlementsFit (map Some u.units.begun) (slice_set u.volume.catalog.heads f (Some new))
  pub far : images_end (slice_set u.volume.catalog.heads f (Some new)) ≤ images_end u.volume.catalog.heads + 2 ^ 24

-- That is this act of a node.
pub record IsActOf (u : Stored) (f : ℕ) (new : FileHead) (n : Node) (act : Act) : Type 0 where
  pub durable : is_durable act ≡ true
  pub shared : (s : Shared) → shared_after act s ≡ s
  pub down : IsDownAs (acted act (fallen (Some act) n)) (acted act n)
  pub blocks : (acted act n).blocks ≡ n.blocks
  pub named : (acted act n).name ≡ n.name
  pub keeps : (w : VolumeState) (c : Content) → HeadWritten f new u.volume w → w.store.current ≡ Some c → EachWhole c → length c + 518 ≡ (disk_of u).size → IsKept u.units w (acted act n)

module _ (u : Stored) (o : IsInOrder u.units u.volume) (laws : TheLaws) (f : ℕ) (new : FileHead) (taken : HeadTaken u f new) {T : Type 0} (r : Result T Down) (after : Stored) (bytes : List ℕ) (same : after.units ≡ u.units) (wr : WritesHead r f new bytes u.volume after.volume) where
  pub head_in_order : (x : T) → r ≡ Ok x → IsInOrder after.units after.volume
  head_in_order x is = subst (λ (s : UnitsState). IsInOrder s after.volume) (sym same) (order_written r f new bytes u.volume after.volume wr x u.units is (long_set u.volume.catalog.heads f _ ∙ o.heads) taken.sound taken.rings o)

  module _ (n : Node) (act : Act) (k : IsKept u.units u.volume n) (is_act : IsActOf u f new n act) (q : ServiceAt) (answer : Line) (one : IsOneAct q act answer) (s : Shared) (first : Stored) where
    pub head_done : (x : T) (a b : Shown) → r ≡ Ok x → Emits a (answer ∷ []) b → DoesThere {T = Unit {0}} (Ok tt) q s n first after a b
    head_done x a b is m =
        served q s n a b (SameStored first after) (IsKept after.units after.volume) (disk_of after) (Unit {0}) tt act [] (ap (λ e. first_of e q.late) one.early ∙ one.late) one.rows (is_act.shared s)
        (subst (λ (st : UnitsState). IsKept st after.volume (acted act n)) (sym same)
        (is_act.keeps after.volume (slice_set k.content (519 + f - 518) bytes) (head_is_written r f new bytes u.volume after.volume wr x is) (told_new r f new bytes u.volume after.volume wr x k.content is k.told) (each_after r f new bytes u.volume after.volume wr k.content k.told) (sized_after r f new bytes u.volume after.volume wr k.content k.told)))
        (subst (λ l. Emits a (l ∷ []) b) (sym one.told) m)

    pub head_cut : (e : Down) (a : Shown) → r ≡ Err e → DoesThere {T = Unit {0}} (Err e) q s n first after a a
    head_cut e a is = cut_act q s n a a (SameStored first after) (IsKept after.units after.volume) (disk_of after) (Unit {0}) e act [] one.early one.late one.rows is_act.durable has (emits_nothing a)
      where
        has : HasDisk (fallen (Some act) n) (disk_of after)
        has =
            head_fell r f new bytes u.volume after.volume wr e u.units n act k.content is laws.nodes k.has.home.volume k.blocks k.name taken.sound o.holds (sym o.idle.current ∙ k.told)
            (kept_left u.units u.volume n (fallen (Some act) n) k o laws.nodes (fallen_as (Some act) n)) is_act.down is_act.blocks is_act.named
            (is_act.keeps (volume_with f new bytes u.volume) (slice_set k.content (519 + f - 518) bytes) (volume_is_written f new bytes u.volume) (told_after r f new bytes u.volume after.volume wr k.content k.told) (each_after r f new bytes u.volume after.volume wr k.content k.told) (sized_after r f new bytes u.volume after.volume wr k.content k.told))

  module _ (doubts : after.in_doubt ≡ u.in_doubt) where
    pub keeps_done : (x : T) (a b : Shown) (l : Line) → r ≡ Ok x → IsPlain l → Emits a (l ∷ []) b → KeepsStored {T = Unit {0}} 0 0 (Ok tt) u after a b
    keeps_done x a b l is plain m = record { order = head_in_order x is; in_doubt = doubts; grows = head_grows r f new bytes u.volume after.volume wr; images = head_far r f new bytes u.volume after.volume wr taken.far; cause = tt; since = since_emits a b _ m; replies = replies_one a b l m plain }

    pub keeps_cut : (e : Down) (a : Shown) → r ≡ Err e → KeepsStored {T = Unit {0}} 0 0 (Err e) u after a a
    keeps_cut e a is = record {
      order = tt;
      in_doubt = doubts;
      grows = head_grows r f new bytes u.volume after.volume wr;
      images = tt;
      cause = subst (λ (x : Result T Down). Caused (down_of x) (disk_of u) (disk_of after)) is (caused_counts r (disk_of u) (disk_of after) wr.counts);
      since = since_same a;
      replies = quiet_none a a (emits_nothing a);
    }

-- What settings make of a file's rings.

pub below_is : (a b : ℕ) → a < b → nat_lt a b ≡ true
below_is a b lt = grind (arith, nat_tests)

pub not_below : (a b : ℕ) → b ≤ a → nat_lt a b ≡ false
not_below a b le = grind (arith, nat_tests)

setting_fine : (setting : Setting) → asks_for_none setting ≡ false → setting_refused setting ≡ None
setting_fine RecoveryUnits fine = refl
setting_fine NoRecoveryUnits fine = refl
setting_fine (Images side blocks) fine = ap (λ t. refused_if t line.BadParameter) fine
setting_fine (NoImages side) fine = refl

setting_bad : (setting : Setting) → asks_for_none setting ≡ true → setting_refused setting ≡ Some line.BadParameter
setting_bad RecoveryUnits bad = let none : ⊥ = cc in absurd none
setting_bad NoRecoveryUnits bad = let none : ⊥ = cc in absurd none
setting_bad (Images side blocks) bad = ap (λ t. refused_if t line.BadParameter) bad
setting_bad (NoImages side) bad = let none : ⊥ = cc in absurd none

some_blocks : (blocks : ℕ) → (blocks == 0) ≡ false → 1 ≤ blocks
some_blocks blocks fine = grind (arith, nat_tests)

module _ (u : Stored) (o : IsInOrder u.units u.volume) (early : IsEarly u.volume) (laws : TheLaws) (f : ℕ) (head : FileHead) (there : head_at u.volume.catalog.heads f ≡ Some head) (free : units.first_to_change f u.units.begun ≡ None) where
  pub old_after : is_kept After head ≡ true → head.ai.end - head.ai.first ≤ ring_size head.ai
  old_after kept = fits_within After head f (map Some u.units.begun) (o.images f head there).0 kept

  pub old_before : is_kept Before head ≡ true → head.bi.end - head.bi.first ≤ ring_size head.bi
  old_before kept = fits_within Before head f (map Some u.units.begun) (o.images f head there).1 kept

  pub ends : (head.ai.end ≤ images_end u.volume.catalog.heads) × (head.bi.end ≤ images_end u.volume.catalog.heads)
  ends = end_at u.volume.catalog.heads f head there

  -- a head that keeps its rings where they are, or that has an empty one in place of one
  pub rings_of : (new : FileHead) → (is_kept After new ≡ true → new.ai.end - new.ai.first ≤ ring_size new.ai) → (is_kept Before new ≡ true → new.bi.end - new.bi.first ≤ ring_size new.bi) → AllSettlementsFit (map Some u.units.begun) (slice_set u.volume.catalog.heads f (Some new))
  rings_of new a b = all_fit_set u.volume.catalog.heads f head new (map Some u.units.begun) o.heads there o.images (unchanged_fits After new f u.units.begun free a, unchanged_fits Before new f u.units.begun free b)

  pub far_of : (new : FileHead) → new.ai.end ≤ images_end u.volume.catalog.heads + 2 ^ 24 → new.bi.end ≤ images_end u.volume.catalog.heads + 2 ^ 24 → images_end (slice_set u.volume.catalog.heads f (Some new)) ≤ images_end u.volume.catalog.heads + 2 ^ 24
  far_of new a b = end_set u.volume.catalog.heads f new (images_end u.volume.catalog.heads + 2 ^ 24) (omega arith) a b

  next_far : (end : ℕ) → end ≤ images_end u.volume.catalog.heads → next_span end ≤ images_end u.volume.catalog.heads + 2 ^ 24
  next_far end le = omega (arith, le)

  pub stay_far : (end : ℕ) → end ≤ images_end u.volume.catalog.heads → end ≤ images_end u.volume.catalog.heads + 2 ^ 24
  stay_far end le = omega (arith, le)

  nothing_fits : (end size : ℕ) → end - end ≤ size
  nothing_fits end size = omega arith

  pub taken_marked : (marks : Bool) → HeadTaken u f (marked marks head)
  taken_marked marks = record {
    sound = sound_marked (name_of u) (disk_of u).size u.volume.catalog f head marks laws.heads o.heads there o.sound;
    rings = rings_of (marked marks head) old_after old_before;
    far = far_of (marked marks head) (stay_far head.ai.end ends.0) (stay_far head.bi.end ends.1);
  }

  low_of : (side : Side) → end_by side head + 2 ^ 22 ≤ 2 ^ 62
  low_of AfterImages = let low = early.images in let e = ends.0 in omega (arith, low, e)
  low_of BeforeImages = let low = early.images in let e = ends.1 in omega (arith, low, e)

  pub taken_begun : (side : Side) (start blocks : ℕ) → 1 ≤ blocks → IsLowestRun u.volume.catalog blocks start → HeadTaken u f (begun_at side start blocks u.volume.catalog.home.greatest_moment head)
  taken_begun AfterImages start blocks some run =
      let new = begun_at AfterImages start blocks u.volume.catalog.home.greatest_moment head in
      record {
        sound = sound_begun (name_of u) (disk_of u).size u.volume.catalog f head laws.heads o.heads there o.sound AfterImages start blocks some (low_of AfterImages) run.free;
        rings = rings_of new (λ kept. nothing_fits (next_span head.ai.end) (ring_size new.ai)) old_before;
        far = far_of new (next_far head.ai.end ends.0) (stay_far head.bi.end ends.1);
      }
  taken_begun BeforeImages start blocks some run =
      let new = begun_at BeforeImages start blocks u.volume.catalog.home.greatest_moment head in
      record {
        sound = sound_begun (name_of u) (disk_of u).size u.volume.catalog f head laws.heads o.heads there o.sound BeforeImages start blocks some (low_of BeforeImages) run.free;
        rings = rings_of new old_after (λ kept. nothing_fits (next_span head.bi.end) (ring_size new.bi));
        far = far_of new (stay_far head.ai.end ends.0) (next_far head.bi.end ends.1);
      }

  unkept : {P : Type 0} → ◌≡◌ {A = Bool} false true → P
  unkept e = let none : ⊥ = cc in absurd none

  pub taken_ended : (side : Side) → HeadTaken u f (ended_head side head)
  taken_ended AfterImages = record {
    sound = sound_ended (name_of u) (disk_of u).size u.volume.catalog f head laws.heads o.heads there o.sound AfterImages;
    rings = rings_of (ended_head AfterImages head) (λ kept. unkept kept) old_before;
    far = far_of (ended_head AfterImages head) (stay_far head.ai.end ends.0) (stay_far head.bi.end ends.1);
  }
  taken_ended BeforeImages = record {
    sound = sound_ended (name_of u) (disk_of u).size u.volume.catalog f head laws.heads o.heads there o.sound BeforeImages;
    rings = rings_of (ended_head BeforeImages head) old_after (λ kept. unkept kept);
    far = far_of (ended_head BeforeImages head) (stay_far head.ai.end ends.0) (stay_far head.bi.end ends.1);
  }

-- SET_FILE

module _ (name : List ℕ) (setting : Setting) (u : Stored) (o : IsInOrder u.units u.volume) (early : IsEarly u.volume) (laws : TheLaws) where
  abbrev asks : Service
  asks = service (SetFile name setting)

  refused_by : (l : Line) (a b : Shown) → IsPlain l → Emits a (l ∷ []) b → ((s : Shared) (n : Node) → IsKept u.units u.volume n → (let q = service_at asks s n in first_of q.early q.late ≡ Some l)) → ServesFile {T = Unit {0}} (Ok tt) asks u u a b
  refused_by l a b plain m is = record {
    keeps = keeps_same tt u u a b l o refl plain m;
    units = refl;
    serves = λ s n r. refused (service_at asks s n) s n a b (SameStored u u) (IsKept u.units u.volume) (disk_of u) (Unit {0}) tt l (is s n r.kept) refl m;
  }

  pub mark_absent : (a b : Shown) → NoneNamed u.volume.catalog.heads 64 name → Emits a (line.FileNotFound ∷ []) b → ServesFile {T = Unit {0}} (Ok tt) asks u u a b
  mark_absent a b none m = refused_by line.FileNotFound a b (refl, refl) m (λ s n k. let q = service_at asks s n in first_is q.early q.late line.FileNotFound (set_file_absent s n name (no_file n u k laws name none) setting))

  module _ (f : ℕ) (head : FileHead) (there : IsNamed u.volume.catalog.heads f head name) where
    pub mark_empty : (a b : Shown) → asks_for_none setting ≡ true → Emits a (line.BadParameter ∷ []) b → ServesFile {T = Unit {0}} (Ok tt) asks u u a b
    mark_empty a b bad m = refused_by line.BadParameter a b (refl, refl) m
        (λ s n k. let q = service_at asks s n in first_is q.early q.late line.BadParameter (set_file_early n u k laws f head name there s setting ∙ ap (λ x. first_of x (locked_by (units.first_to_change f u.units.begun))) (setting_bad setting bad)))

    module _ (fine : asks_for_none setting ≡ false) where
      early_is : (s : Shared) (n : Node) (by : Option Id) → IsKept u.units u.volume n → units.first_to_change f u.units.begun ≡ by → (service_at asks s n).early ≡ locked_by by
      early_is s n by k is = set_file_early n u k laws f head name there s setting ∙ (λ i. first_of (setting_fine setting fine i) (locked_by (is i)))

      pub mark_locked : (serial : Id) (a b : Shown) → units.first_to_change f u.units.begun ≡ Some serial → Emits a (line.FileLocked serial ∷ []) b → ServesFile {T = Unit {0}} (Ok tt) asks u u a b
      mark_locked serial a b by m = refused_by (line.FileLocked serial) a b (refl, refl) m (λ s n k. let q = service_at asks s n in first_is q.early q.late (line.FileLocked serial) (early_is s n (Some serial) k by))

      module _ (free : units.first_to_change f u.units.begun ≡ None) where
        area_same : (n : Node) → IsKept u.units u.volume n → data_area (sizes_of u.volume.catalog.home) ≡ area_of n
        area_same n k = λ i. record { start = 584 + sym k.has.home.slots i + sym k.has.home.journal i; end = (o.sound.sizes.blocks ∙ sym k.blocks) i }

        longest_is : (n : Node) (most : ℕ) → IsKept u.units u.volume n → IsLongest u.volume.catalog most → longest_free n ≡ most
        longest_is n most k l = laws.runs.longest k.content u.volume.catalog.heads n (data_area (sizes_of u.volume.catalog.home)) most k.has.files (area_same n k) l.some l.longest

        lacks : (s : Setting) (n : Node) (need most : ℕ) → IsKept u.units u.volume n → LacksBlocks s u.volume.catalog need most → setting_full n s ≡ Some (line.VolumeFull most need)
        lacks RecoveryUnits n need most k l = absurd l
        lacks NoRecoveryUnits n need most k l = absurd l
        lacks (NoImages side) n need most k l = absurd l
        lacks (Images side blocks) n need most k l =
            let longest = longest_is n most k l.1.longest in
            (λ i. refused_if (nat_lt (longest i) blocks) (line.VolumeFull (longest i) blocks))
            ∙ ap (λ t. refused_if t (line.VolumeFull most blocks)) (below_is most blocks l.1.less)
            ∙ ap (λ w. Some (line.VolumeFull most w)) (sym l.0)

        pub mark_full : (need most : ℕ) (a b : Shown) → LacksBlocks setting u.volume.catalog need most → Emits a (line.VolumeFull most need ∷ []) b → ServesFile {T = Unit {0}} (Ok tt) asks u u a b
        mark_full need most a b l m = refused_by (line.VolumeFull most need) a b (refl, refl) m (λ s n k. let q = service_at asks s n in second_is q.early q.late (line.VolumeFull most need) (early_is s n None k free) (lacks setting n need most k l))

        -- which mark it is, and that it is so at a node
        abbrev IsMark : Setting → FileHead → Mark → Type 0
        IsMark t new mark =
            HeadTaken u f new × ((n : Node) → IsKept u.units u.volume n →
            (setting_full n t ≡ None) × (sets n name t ≡ silent (Marks name mark) ∷ []) × ((w : VolumeState) (c : Content) → HeadWritten f new u.volume w → w.store.current ≡ Some c → EachWhole c → length c + 518 ≡ (disk_of u).size → MarksHead mark n.durable.greatest c head new))

        mark_is : (t : Setting) (new : FileHead) → asks_for_none t ≡ false → SetsHead t u.volume.catalog head new → (mark : Mark) × IsMark t new mark
        mark_is RecoveryUnits new good is = (ForUnits true, (subst (HeadTaken u f) (sym is) (taken_marked u o early laws f head there.there free true), λ n k. (refl, refl, λ w c written told each sized. is)))
        mark_is NoRecoveryUnits new good is = (ForUnits false, (subst (HeadTaken u f) (sym is) (taken_marked u o early laws f head there.there free false), λ n k. (refl, refl, λ w c written told each sized. is)))
        mark_is (NoImages side) new good is = (EndsImages side, (subst (HeadTaken u f) (sym is) (taken_ended u o early laws f head there.there free side), λ n k. (refl, refl, λ w c written told each sized. is)))
        mark_is (Images side blocks) new good is =
            let start = is.0 in
            let run = is.1 in
            let some = some_blocks blocks good in
            let span = span_from start blocks (end_by side head) in (
              BeginsImages side start blocks,
              (
                subst (HeadTaken u f) (sym is.2) (taken_begun u o early laws f head there.there free side start blocks some run),
                λ n k.
                    let lowest = laws.runs.lowest k.content u.volume.catalog.heads n (data_area (sizes_of u.volume.catalog.home)) blocks start k.has.files (area_same n k) some run.free run.lowest in
                    let longest = longest_is n run.most k run.longest in (
                      (λ i. refused_if (nat_lt (longest i) blocks) (line.VolumeFull (longest i) blocks)) ∙ ap (λ t. refused_if t (line.VolumeFull run.most blocks)) (not_below run.most blocks run.enough),
                      ap (λ x. silent (Marks name (BeginsImages side (start_of x) blocks)) ∷ []) lowest,
                      λ w c written told each sized. (span, u.volume.catalog.home.greatest_moment, ring c blocks start some run each sized, refl, refl, refl, refl, sym k.has.home.greatest, is.2),
                    ),
              ),
            )
          where
            ring : (c : Content) (blocks start : ℕ) → 1 ≤ blocks → IsLowestRun u.volume.catalog blocks start → EachWhole c → length c + 518 ≡ (disk_of u).size → HasRing c (span_from start blocks (end_by side head))
            ring c blocks start some run each sized =
                let lies = laws.apart.run_lies (data_area (sizes_of u.volume.catalog.home)) u.volume.catalog.heads start blocks run.free some in
                let end = o.sound.sizes.blocks in
                record { some = some; within = omega (arith, lies.0, lies.1, end, sized); whole = each }

        -- the mark is an act of a node
        act_is : (mark : Mark) (new : FileHead) (n : Node) → IsKept u.units u.volume n → IsUp n → ((w : VolumeState) (c : Content) → HeadWritten f new u.volume w → w.store.current ≡ Some c → EachWhole c → length c + 518 ≡ (disk_of u).size → MarksHead mark n.durable.greatest c head new) →
            IsActOf u f new n (Marks name mark)
        act_is mark new n k up marks = record {
          durable = refl;
          shared = λ s. refl;
          down = record { name = refl; blocks = refl; durable = refl; down = refl };
          blocks = refl;
          named = refl;
          keeps = λ w c written told each sized. laws.nodes.marks u.units u.volume w n f head new name mark c k up o there free written told each (marks w c written told each sized);
        }

        one_act : (s : Shared) (n : Node) (new : FileHead) (mark : Mark) → IsKept u.units u.volume n → IsMark setting new mark → IsOneAct (service_at asks s n) (Marks name mark) line.Normal
        one_act s n new mark k is = record { early = early_is s n None k free; late = (is.1 n k).0; rows = (is.1 n k).1; told = refl }

        module _ {T : Type 0} (r : Result T Down) (after : Stored) (bytes : List ℕ) (new : FileHead) (sets : SetsHead setting u.volume.catalog head new) (same : after.units ≡ u.units) (doubts : after.in_doubt ≡ u.in_doubt) (wr : WritesHead r f new bytes u.volume after.volume) where
          abbrev the_mark : (mark : Mark) × IsMark setting new mark
          the_mark = mark_is setting new fine sets

          pub mark_done : (x : T) (a b : Shown) → r ≡ Ok x → Emits a (line.Normal ∷ []) b → ServesFile {T = Unit {0}} (Ok tt) asks u after a b
          mark_done x a b is m = record {
            keeps = keeps_done u o laws f new the_mark.1.0 r after bytes same wr doubts x a b line.Normal is (refl, refl) m;
            units = same;
            serves = λ s n ready. head_done u o laws f new the_mark.1.0 r after bytes same wr n (Marks name the_mark.0) ready.kept (act_is the_mark.0 new n ready.kept ready.up (the_mark.1.1 n ready.kept).2) (service_at asks s n) line.Normal (one_act s n new the_mark.0 ready.kept the_mark.1) s u x a b is m;
          }

          pub mark_fell : (e : Down) (a : Shown) → r ≡ Err e → ServesFile {T = Unit {0}} (Err e) asks u after a a
          mark_fell e a is = record {
            keeps = keeps_cut u o laws f new the_mark.1.0 r after bytes same wr doubts e a is;
            units = same;
            serves = λ s n ready. head_cut u o laws f new the_mark.1.0 r after bytes same wr n (Marks name the_mark.0) ready.kept (act_is the_mark.0 new n ready.kept ready.up (the_mark.1.1 n ready.kept).2) (service_at asks s n) line.Normal (one_act s n new the_mark.0 ready.kept the_mark.1) s u e a is;
          }
