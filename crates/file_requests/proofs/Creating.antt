-- CREATE, from what the code knows.
use Rattle.std.proofs.Common.{◌≡◌, ℕ, ◌+◌, ◌*◌, ◌<◌, ◌≤◌, List, [], ◌∷◌, Bool, true, false, Option, Some, None, Result, Ok, nat_lt, refl, sym, ap, subst, ◌∙◌, arith}
use Rattle.std.specs.Prelude.{not}
use Rattle.std.proofs.lemmas.Bool.Decides.{nat_tests}
use Rattle.careful_write.specs.declared.down.Down.{Down}
use Rattle.extents.specs.Extents.{IsFreeRun, all_extents}
use Rattle.extents.specs.declared.extent.Extent.{Extent as Area}
use Rattle.file_base.specs.declared.head.FileHead.{FileHead}
use Rattle.emitter_model.specs.Emitting.{Shown, Emits}
use Rattle.emitter_model.specs.transcript_model.Lines as line
use Rattle.emitter_model.specs.transcript_model.Lines.{Line}
use Rattle.script_lang.specs.script_model.Statements.{Create, Form}
use Rattle.script_lang.specs.Statements.{form_of}
use Rattle.volume.specs.Limits.{data_area}
use Rattle.volume.specs.volume_format.Home.{sizes_of}
use Rattle.file_images.specs.run_model.World.{Creates, File, Node, Shared, free_place, longest_free, lowest_free}
use Rattle.file_images.specs.run_model.Answers.{Row, Service, blocks_for, created, is_file_form, room_for, service, silent}
use Rattle.file_images.specs.run_model.Operations.{first_of, refused_if}
use Rattle.directory_model.specs.Files.{IsNamed, NoneNamed, head_at}
use Rattle.directory_model.specs.Laws.{area_of}
use Rattle.node_files.specs.NewFile.{AreSizes, buckets_in, new_head}
use Rattle.node_files.specs.declared.sizes.Sizes.{Sizes}
use Rattle.node_files.proofs.NewHead.{new_head_is}
use Rattle.recovery_units.specs.State.{IsInOrder, IsKept}
use Rattle.node_standing.specs.node_table.Serving.{ServiceAt, service_at}
use Rattle.node_standing.specs.node_table.Standing.{Stored}
use Rattle.file_requests.specs.Making.{BecomesFile, IsFresh, MakesFile, making}
use Rattle.file_requests.specs.Replying.{IsPlain}
use Rattle.file_requests.specs.Serving.{DoesThere, SameStored, ServesFile, disk_of}
use Rattle.file_requests.specs.TheLaws.{TheLaws}
use Rattle.file_requests.proofs.FileLemmas.{file_at_name, no_file}
use Rattle.file_requests.proofs.Kept.{keeps_same}
use Rattle.file_requests.proofs.Served.{first_is, refused, second_is}

-- what the volume finds: the lowest free number and the longest free run
pub record Room (u : Stored) (f most : ℕ) : Type 0 where
  pub below : f < 64
  pub free : head_at u.volume.catalog.heads f ≡ None
  pub lowest : (g : ℕ) → g < f → head_at u.volume.catalog.heads g ≡ None → ⊥
  pub some : 0 < most → (start : ℕ) × IsFreeRun (data_area (sizes_of u.volume.catalog.home)) (all_extents u.volume.catalog.heads) start most
  pub longest : (start blocks : ℕ) → IsFreeRun (data_area (sizes_of u.volume.catalog.home)) (all_extents u.volume.catalog.heads) start blocks → blocks ≤ most

below_is : (a b : ℕ) → a < b → nat_lt a b ≡ true
below_is a b lt = grind (arith, nat_tests)

not_below : (a b : ℕ) → b ≤ a → nat_lt a b ≡ false
not_below a b le = grind (arith, nat_tests)

abbrev new_by : Option File → Option Line
new_by o = elim o [ Some f ↦ Some line.FileExists | None ↦ None ]

module _ (name : List ℕ) (bucket size : ℕ) (form : Form) (u : Stored) (o : IsInOrder u.units u.volume) (laws : TheLaws) where
  abbrev asks : Service
  asks = service (Create name bucket size form)

  abbrev area : Area
  area = data_area (sizes_of u.volume.catalog.home)

  -- refused, before the disk is read or by what the volume has
  refused_by : (l : Line) (a b : Shown) → IsPlain l → Emits a (l ∷ []) b → ((s : Shared) (n : Node) → IsKept u.units u.volume n → (let q = service_at asks s n in first_of q.early q.late ≡ Some l)) → ServesFile {T = Unit {0}} (Ok tt) asks u u a b
  refused_by l a b plain m is = record {
    keeps = keeps_same tt u u a b l o refl plain m;
    units = refl;
    serves = λ s n r. refused (service_at asks s n) s n a b (SameStored u u) (IsKept u.units u.volume) (disk_of u) (Unit {0}) tt l (is s n r.kept) refl m;
  }

  pub create_exists : (f : ℕ) (head : FileHead) (a b : Shown) → IsNamed u.volume.catalog.heads f head name → Emits a (line.FileExists ∷ []) b → ServesFile {T = Unit {0}} (Ok tt) asks u u a b
  create_exists f head a b named m = refused_by line.FileExists a b (refl, refl) m
      (λ s n k.
      let x = file_at_name n u k laws f head name named in
      let q = service_at asks s n in
      first_is q.early q.late line.FileExists (ap (λ o. first_of (new_by o) (refused_if (not (is_file_form bucket size form)) line.BadParameter)) x.at.found))

  -- its name is new
  module _ (none : NoneNamed u.volume.catalog.heads 64 name) where
    create_early : (s : Shared) (n : Node) (good : Bool) → IsKept u.units u.volume n → is_file_form bucket size form ≡ good → (service_at asks s n).early ≡ refused_if (not good) line.BadParameter
    create_early s n good k is = λ i. first_of (new_by (no_file n u k laws name none i)) (refused_if (not (is i)) line.BadParameter)

    pub create_bad : (a b : Shown) → is_file_form bucket size form ≡ false → Emits a (line.BadParameter ∷ []) b → ServesFile {T = Unit {0}} (Ok tt) asks u u a b
    create_bad a b bad m = refused_by line.BadParameter a b (refl, refl) m (λ s n k. let q = service_at asks s n in first_is q.early q.late line.BadParameter (create_early s n false k bad))

    module _ (good : is_file_form bucket size form ≡ true) where
      pub create_crowded : (a b : Shown) → ((g : ℕ) → g < 64 → head_at u.volume.catalog.heads g ≡ None → ⊥) → Emits a (line.QuotaExceeded line.Files 64 ∷ []) b → ServesFile {T = Unit {0}} (Ok tt) asks u u a b
      create_crowded a b taken m = refused_by (line.QuotaExceeded line.Files 64) a b (refl, refl) m
          (λ s n k. let q = service_at asks s n in second_is q.early q.late (line.QuotaExceeded line.Files 64) (create_early s n true k good) (no_place n k))
        where
          no_place : (n : Node) → IsKept u.units u.volume n → room_for (blocks_for bucket size form) n ≡ Some (line.QuotaExceeded line.Files 64)
          no_place n k = rw (laws.places.none k.content u.volume.catalog.heads n.durable.directory k.has.files taken) refl

      module _ (f most : ℕ) (room : Room u f most) where
        module _ (n : Node) (k : IsKept u.units u.volume n) where
          area_same : area ≡ area_of n
          area_same = λ i. record { start = 584 + sym k.has.home.slots i + sym k.has.home.journal i; end = (o.sound.sizes.blocks ∙ sym k.blocks) i }

          place_is : free_place n.durable.directory ≡ Some f
          place_is = laws.places.lowest k.content u.volume.catalog.heads n.durable.directory f k.has.files room.below room.free room.lowest

          longest_is : longest_free n ≡ most
          longest_is = laws.runs.longest k.content u.volume.catalog.heads n area most k.has.files area_same room.some room.longest

          room_full : (need : ℕ) → most < need → room_for need n ≡ Some (line.VolumeFull most need)
          room_full need small = let t : nat_lt most need ≡ true = below_is most need small in rw (place_is, longest_is, t) refl

          room_there : (need : ℕ) → need ≤ most → room_for need n ≡ None
          room_there need enough = let t : nat_lt most need ≡ false = not_below most need enough in rw (place_is, longest_is, t) refl

        pub create_full : (need : ℕ) (a b : Shown) → need ≡ blocks_for bucket size form → most < need → Emits a (line.VolumeFull most need ∷ []) b → ServesFile {T = Unit {0}} (Ok tt) asks u u a b
        create_full need a b is small m = refused_by (line.VolumeFull most need) a b (refl, refl) m
            (λ s n k. let q = service_at asks s n in second_is q.early q.late (line.VolumeFull most need) (create_early s n true k good) (ap (λ w. room_for w n) (sym is) ∙ room_full n k need small))

        -- there is room for it
        module _ (s : Sizes) (start : ℕ) (fits : AreSizes s) (buckets : s.bucket ≡ bucket) (records : s.mrs ≡ size) (kind : form_of s.form ≡ form) (enough : buckets_in s * s.bucket ≤ most)
            (run : IsFreeRun area (all_extents u.volume.catalog.heads) start (buckets_in s * s.bucket)) (lowest : (lower : ℕ) → lower < start → IsFreeRun area (all_extents u.volume.catalog.heads) lower (buckets_in s * s.bucket) → ⊥) where
          pub create_fresh : (h : FileHead) → h ≡ new_head name s start → IsFresh f h u.volume.catalog
          create_fresh h is = record { name = name; sizes = s; start = start; is = is; fits = fits; below = room.below; free = room.free; lowest = room.lowest; none = none; run = run }

          need_is : buckets_in s * s.bucket ≡ blocks_for bucket size form
          need_is = λ i. blocks_for (buckets i) (records i) (kind i)

          abbrev file_made : Node → File
          file_made n = created name bucket size form start n.durable.greatest

          become : (h : FileHead) (n : Node) → h ≡ new_head name s start → BecomesFile h (file_made n)
          become h n is = subst (λ x. BecomesFile x (file_made n)) (sym is)
              (subst (λ (file : File). BecomesFile (new_head name s start) file) (λ i. created name (buckets i) (records i) (kind i) start n.durable.greatest)
              (λ content map laid layout. laws.makes.file content (form_of s.form) (new_head name s start) n.durable.greatest (new_head_is name s start fits) map laid layout))

          abbrev row_made : Node → ℕ → ℕ → Row
          row_made n place at = silent (Creates place (created name bucket size form at n.durable.greatest))

          -- nothing refuses it
          create_is : (shared : Shared) (n : Node) → IsKept u.units u.volume n → service_at asks shared n ≡ making f (file_made n)
          create_is shared n k =
              let some = laws.makes.some (form_of s.form) (new_head name s start) (new_head_is name s start fits) in
              let found : lowest_free n (blocks_for bucket size form) ≡ Some start = ap (lowest_free n) (sym need_is) ∙ laws.runs.lowest k.content u.volume.catalog.heads n area (buckets_in s * s.bucket) start k.has.files (area_same n k) some run lowest in
              let early = create_early shared n true k good in
              let late : room_for (blocks_for bucket size form) n ≡ None = ap (λ w. room_for w n) (sym need_is) ∙ room_there n k (buckets_in s * s.bucket) enough in
              let rows = ap (λ (o : Option ℕ). elim o [ Some place ↦ elim (lowest_free n (blocks_for bucket size form)) [ Some at ↦ row_made n place at ∷ [] | None ↦ [] ] | None ↦ [] ]) (place_is n k)
              ∙ ap (λ (o : Option ℕ). elim o [ Some at ↦ row_made n f at ∷ [] | None ↦ [] ]) found in
              λ i. record { early = early i; late = late i; rows = rows i; answer = line.Normal }

          pub create_made : (h : FileHead) (r : Result (Unit {0}) Down) (new : Stored) (a b : Shown) → h ≡ new_head name s start → MakesFile r f h u new a b → ServesFile r asks u new a b
          create_made h r new a b is makes = record {
            keeps = makes.keeps;
            units = makes.units;
            serves = λ shared n ready.
                subst (λ (q : ServiceAt). DoesThere r q shared n u new a b) (sym (create_is shared n ready.kept)) (makes.acts shared n (file_made n) ready.kept ready.up refl refl (become h n is));
          }
