-- Entries of images that a truncation wrote behind the ends of a file's journals: the volume of a node tells what it told.
use Rattle.rms_units.specs.State as state
use Rattle.node_units.specs.Seen.{seen}
use Rattle.unit_world.proofs.volume_laws.ToldLemmas.{logs_follow}
use Rattle.log_laws.specs.Slots.{Slots}
use Rattle.rms_units.specs.State.{IsInOrder}
use Rattle.recovery_units.specs.State.{IsKept}
use Rattle.unit_world.proofs.Leaving.{down}
use Rattle.unit_world.proofs.volume_laws.WholeLemmas.{volume_falls}
use Rattle.unit_world.proofs.restart_laws.StayLemmas.{keeps_restorable}
use Rattle.unit_world.proofs.directory_model.Standing.{stands_on_extents}
use Rattle.unit_world.proofs.directory_model.Apart.{writes_apart}
use Rattle.volume.specs.State.{VolumeState}
use Rattle.block_disk.specs.Blocks.{block_at}
use Rattle.std.specs.Prelude.{◌⊎◌}
use Rattle.std.proofs.Common.{◌≡◌, ℕ, ◌+◌, ◌-◌, ◌≤◌, List, Bool, true, false, Some, length, refl, sym, subst, arith, IfSome, inl, inr, ◌∙◌, None, Option, ◌<◌}
use Rattle.std.specs.List.{flat_map}
use Rattle.careful_write.specs.State.{EachWhole, content}
use Rattle.file_base.specs.declared.head.FileHead.{FileHead}
use Rattle.recovery_units.specs.image_appends.declared.side.Side.{Side}
use Rattle.recovery_units.specs.image_appends.declared.side.Side.TheVariants.{After, Before}
use Rattle.recovery_units.specs.image_appends.Images.{is_kept, span_of}
use Rattle.undo_laws.specs.image_groups.Groups.{Enters}
use Rattle.undo_laws.proofs.image_groups.Behind.{enters_behind}
use Rattle.journal_model.specs.Entries.{Entry, spelling}
use Rattle.journal_model.specs.Ring.{IsJournal, ring_size}
use Rattle.journal_store.proofs.Journals.{keeps_others, written_behind}
use Rattle.unit_world.specs.directory_model.Files.{AgreesOnFile, file_at, head_at}
use Rattle.unit_world.proofs.directory_model.Places.{file_there, within_list}
use Rattle.recovery_units.specs.run_model.World.{Node, Act, fallen}
use Rattle.rms_units.specs.unit_cuts.Truncating.{IsBehindIf, with_entries_if, AllTold, IsBehind, IsBehindAll}
use Rattle.volume.specs.declared.catalog.Catalog.{Catalog}
use Rattle.volume.specs.Catalogs.{IsSound, TellsCatalog, TellsEntry}
use Rattle.volume.specs.Limits.{data_area}
use Rattle.volume_format.specs.Home.{sizes_of, HasHome, HasRu}
use Rattle.recovery_units.specs.volume_model.Volumes.{HasVolume, IsLeftBy}
use Rattle.node_units.proofs.ImagedVolume.{dressed_restorable, journal_entered, log_entered, same_live, tells_entered}
use Rattle.node_units.proofs.Imaging.{fits as fits_in}

abbrev Content : Type 0
Content = List (List ℕ)

module _ (n : Node) (k : Catalog) (f : ℕ) (h : FileHead) (there : head_at k.heads f ≡ Some h) (sound : IsSound n.name n.blocks k) (long : length k.heads ≡ 64) where
  -- a content tells the node's volume
  pub record IsStill (a : Content) : Type 0 where
    pub volume : HasVolume a k n
    pub tells : TellsCatalog k a
    pub whole : EachWhole a

  -- the journals of the file, by the ring of a side
  pub journal_of : (a : Content) → IsStill a → (side : Side) → is_kept side h ≡ true → (es : List Entry) × IsJournal a (span_of side h) es
  journal_of a is After on =
      let found = file_there a k.heads n.durable.directory f h is.volume.files there in
      let carried = found.3 in
      (_, (carried.after.images on).spelled)
  journal_of a is Before on =
      let found = file_there a k.heads n.durable.directory f h is.volume.files there in
      let carried = found.3 in
      (_, (carried.before.images on).spelled)

  -- what is behind a journal's end
  pub behind_if : (a : Content) → IsStill a → (side : Side) (es : List Entry) → (is_kept side h ≡ true → (span_of side h).end - (span_of side h).first + length (flat_map spelling es) ≤ ring_size (span_of side h)) →
      IsBehindIf (is_kept side h) (span_of side h) a (with_entries_if (is_kept side h) (span_of side h) es a)
  behind_if a is side es room = go (is_kept side h) refl
    where
      go : (b : Bool) → is_kept side h ≡ b → IsBehindIf b (span_of side h) a (with_entries_if b (span_of side h) es a)
      go false off = refl
      go true on =
          let j = journal_of a is side on in
          record {
            others = keeps_others (flat_map spelling es) a (span_of side h) (span_of side h).end j.1.ring.some;
            journal = λ ds d. written_behind a (span_of side h) ds (span_of side h).end (flat_map spelling es) d (omega arith) (let fits = room on in let up = d.order in omega (arith, fits, up));
          }

  -- so the volume stays
  pub still : (a b : Content) → IsStill a → (side : Side) → IsBehindIf (is_kept side h) (span_of side h) a b → IsStill b
  still a b is side behind = go (is_kept side h) refl behind
    where
      go : (t : Bool) → is_kept side h ≡ t → IsBehindIf t (span_of side h) a b → IsStill b
      go false off same = subst IsStill (sym same) is
      go true on by =
          let low = within_list k.heads f h there in
          let enters : Enters a k.heads b (data_area (sizes_of k.home)) k.heads n.durable.directory = enters_behind a b (data_area (sizes_of k.home)) k.heads n.durable.directory f h side
          (record { files = is.volume.files; fit = fits_in n.name n.blocks k long sound; behind = omega arith; whole = is.whole }) (omega (arith, low, long)) there on by.others by.journal in
          record {
            volume = record {
              home = is.volume.home;
              log = log_entered a b k k.heads n.durable.directory enters n sound is.volume.log (let slots = is.volume.home.slots in let start = sound.ru_start in omega (arith, slots, start));
              journal = (journal_entered a b k k.heads n.durable.directory enters n sound is.volume.journal).0;
              units = is.volume.units;
              order = is.volume.order;
              told = is.volume.told;
              files = enters.fitting.files;
              restorable = dressed_restorable a b k.heads k.heads n.durable.directory n.durable.directory is.volume.files enters.dressed (λ g. same_live (file_at n.durable.directory g)) is.volume.restorable;
            };
            tells = tells_entered a b k k.heads n.durable.directory enters n sound is.tells;
            whole = enters.fitting.whole;
          }

  -- Bytes behind the end of the journal of recovery units.
  module _ (a p : Content) (is : IsStill a) (behind : IsBehind k.ru a p) where
    ru_apart : (i : ℕ) → (i < k.ru.start - 518) ⊎ (k.ru.start - 518 + k.ru.blocks ≤ i) → block_at p i ≡ block_at a i
    ru_apart i out = behind.others.others i out

    ru_whole : EachWhole p
    ru_whole = (behind.journal is.volume.journal.entries is.volume.journal.is).ring.whole

    -- each file stands
    pub ru_stands : (g : ℕ) (other : FileHead) → head_at k.heads g ≡ Some other → AgreesOnFile other a p
    ru_stands = writes_apart.before (data_area (sizes_of k.home)) k.heads a p (fits_in n.name n.blocks k long sound) behind.others.size ru_whole
        (λ i from. let start = sound.ru_start in let blocks = sound.ru_blocks in sym (ru_apart i (inr (omega (arith, from, start, blocks)))))

    ru_front : (i : ℕ) → i < 66 → block_at p i ≡ block_at a i
    ru_front i low = ru_apart i (inl (let start = sound.ru_start in omega (arith, low, start)))

    -- and so the volume stays
    pub still_ru : IsStill p
    still_ru = record {
      volume = record {
        home = is.volume.home;
        log = logs_follow.stays a p n n is.volume.log refl (λ i below. ru_apart (66 + i) (inl (let slots = is.volume.home.slots in let start = sound.ru_start in omega (arith, below, slots, start))));
        journal = record {
          entries = is.volume.journal.entries;
          is = behind.journal is.volume.journal.entries is.volume.journal.is;
          alike = is.volume.journal.alike;
          first = is.volume.journal.first;
          end = is.volume.journal.end;
          low = is.volume.journal.low;
        };
        units = is.volume.units;
        order = is.volume.order;
        told = is.volume.told;
        files = stands_on_extents a p k.heads n.durable.directory ru_stands is.volume.files;
        restorable = keeps_restorable.stands a p k.heads n.durable.directory ru_stands is.volume.files is.volume.restorable;
      };
      tells = record {
        ranges = is.tells.ranges;
        home = subst (λ (x : List ℕ). HasHome x k.home) (sym (ru_front 0 (omega arith))) is.tells.home;
        heads = λ g below. subst (λ (x : List ℕ). TellsEntry x (head_at k.heads g)) (sym (ru_front (1 + g) (omega (arith, below)))) (is.tells.heads g below);
        ru = subst (λ (x : List ℕ). HasRu x k.ru) (sym (ru_front 65 (omega arith))) is.tells.ru;
      };
      whole = ru_whole;
    }

  -- all that a truncation writes behind the ends of journals
  pub still_all : (a c : Content) → IsStill a → IsBehindAll h k.ru a c → IsStill c
  still_all a c is b = still_ru b.afters c (still b.befores b.afters (still a b.befores is Before b.in_befores) After b.in_afters) b.in_ru

  -- what the node leaves of it
  pub left_still : (c : Content) → IsStill c → (act : Option Act) → IsLeftBy c (fallen act n)
  left_still c is act = record { catalog = k; tells = is.tells; sound = sound; leaves = λ whole. down c k n (fallen act n) (volume_falls c k n is.volume) refl refl refl }

one_content : (x y : Content) → ◌≡◌ {A = Option Content} (Some x) (Some y) → x ≡ y
one_content x y e = cc

module _ (s : state.UnitsState) (v : VolumeState) (order : IsInOrder s v) (n : Node) (log : Slots) (kept : IsKept (seen s log) v n) (f : ℕ) (h : FileHead) (there : head_at v.catalog.heads f ≡ Some h) where
  pub sound_here : IsSound n.name n.blocks v.catalog
  sound_here = subst (λ (x : List ℕ). IsSound x n.blocks v.catalog) (sym kept.name) (subst (λ (x : ℕ). IsSound v.catalog.home.node x v.catalog) (sym kept.blocks) order.sound)

  -- the volume of a node that is up
  pub still_kept : IsStill n v.catalog f h there sound_here order.heads kept.content
  still_kept = record {
    volume = kept.has;
    tells = subst (λ o. IfSome o (TellsCatalog v.catalog)) kept.told order.holds;
    whole = kept.has.journal.is.ring.whole;
  }

  -- an image that tells what was told is what the node leaves
  pub cut_left : (act : Option Act) (c : Content) → AllTold h v.catalog.ru (content v.store) c → IsLeftBy c (fallen act n)
  cut_left act c told = left_still n v.catalog f h there sound_here order.heads c (still_all n v.catalog f h there sound_here order.heads kept.content c still_kept (go (content v.store) (sym kept.told ∙ order.idle.current) told)) act
    where
      go : (o : Option Content) → Some kept.content ≡ o → AllTold h v.catalog.ru o c → IsBehindAll h v.catalog.ru kept.content c
      go None is t = let never : ⊥ = cc in absurd never
      go (Some a) is t = subst (λ (x : Content). IsBehindAll h v.catalog.ru x c) (sym (one_content kept.content a is)) t
