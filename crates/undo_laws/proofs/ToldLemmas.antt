-- A volume once the outcome of a branch, which is settled in the buckets, is put into the journals of images.
use Rattle.std.proofs.Common.{◌≡◌, ℕ, ◌+◌, ◌-◌, ◌≤◌, ◌<◌, ◌^◌, List, Option, Some, None, length, map, refl, sym, ◌∙◌, ap, subst, arith, inr}
use Rattle.std.specs.Option.{option_map}
use Rattle.block_disk.specs.Blocks.{block_at}
use Rattle.careful_write.specs.State.{EachWhole}
use Rattle.world_laws.specs.commit_protocol.Table as table
use Rattle.journal_model.specs.Entries.{Entry}
use Rattle.journal_model.specs.Ring.{IsJournal}
use Rattle.world_laws.specs.run_model.World.{File, Node, Settlement, Tables, acted, settled_file, settlement_of}
use Rattle.file_base.specs.declared.head.FileHead.{FileHead}
use Rattle.file_base.specs.declared.head.Span.{Span}
use Rattle.unit_undo.specs.file_images.Files.{SameRing}
use Rattle.unit_undo.proofs.file_images.Rings.{journal_stands}
use Rattle.volume.specs.Catalogs.{IsSound, TellsCatalog}
use Rattle.volume.specs.declared.catalog.Catalog.{Catalog}
use Rattle.volume.specs.Limits.{data_area}
use Rattle.volume_format.specs.Home.{sizes_of}
use Rattle.settlement_laws.specs.volume_model.Laws.{KeepsNames}
use Rattle.settlement_laws.specs.volume_model.Volumes.{HasJournal}
use Rattle.settlement_laws.proofs.volume_model.EntryLemmas.{entries_follow}
use Rattle.image_groups.specs.image_appends.Settling.{content_from, heads_from}
use Rattle.image_groups.specs.Groups.{AllDressed, Enters, outcome_of}
use Rattle.image_groups.proofs.Outcomes.{enters_outcome}
use Rattle.unit_undo.specs.directory_model.Files.{AreFiles, file_at, head_at}
use Rattle.unit_undo.specs.directory_model.Laws.{carrying, settled_buckets, spelled_entry}
use Rattle.unit_undo.specs.directory_model.Restoring.{AreRestorable, CanRestore, IsPlaceRestorable}
use Rattle.unit_undo.proofs.directory_model.Acts.{settled_directory}
use Rattle.unit_undo.proofs.directory_model.Places.{file_mapped}
use Rattle.image_groups.specs.restart_laws.Restorable.{IsDressed, SameLive}
use Rattle.image_groups.proofs.restart_laws.StayLemmas.{keeps_restorable}
use Rattle.undo_laws.specs.Undone.{IsTold, IsToldIn}

-- the journal of recovery units stands, where its blocks do and files keep their names
pub journal_beside : (b e : List (List ℕ)) (k t : Catalog) (n : Node) → KeepsNames k.heads t.heads → t.ru ≡ k.ru → SameRing k.ru b e → (j : HasJournal b k n) → (x : HasJournal e t n) × (x.entries ≡ j.entries)
journal_beside b e k t n names ru same j = (
  record {
    entries = j.entries;
    is = subst (λ (r : Span). IsJournal e r j.entries) (sym ru) (journal_stands k.ru b e j.entries j.is same);
    alike = entries_follow.renamed k.heads t.heads n.durable.units.entries j.entries names j.alike;
    first = ap (λ (r : Span). r.first) ru ∙ j.first;
    end = ap (λ (r : Span). r.end) ru ∙ j.end;
    low = subst (λ (r : Span). r.end ≤ 2 ^ 62) (sym ru) j.low;
  },
  refl,
)

-- heads keep their names where they are of the same buckets
pub names_dressed : (b e : List (List ℕ)) (heads new : List (Option FileHead)) → AllDressed b heads e new → KeepsNames heads new
names_dressed b e heads new dressed f h there = named (head_at new f) refl (subst (λ o. IsDressed b o e (head_at new f)) there (dressed f))
  where
    named : (m : Option FileHead) → head_at new f ≡ m → IsDressed b (Some h) e m → (x : FileHead) × (head_at new f ≡ Some x) × (x.name ≡ h.name)
    named None now dressed = absurd dressed
    named (Some x) now dressed = (x, now, ap (λ (y : FileHead). y.name) dressed.0.is)

-- What is unsettled in the files once a branch is settled does not change with what they carry.
module _ (n : Node) (act : table.Act) (moment : ℕ) (s : Settlement) (settles : settlement_of act moment ≡ Some s) where
  abbrev after : Node
  after = acted (Tables act moment) n

  pub live_same : (f : ℕ) → SameLive (file_at (settled_buckets s n.durable.directory) f) (file_at after.durable.directory f)
  live_same f = subst (λ p. SameLive p (file_at after.durable.directory f)) (sym (file_mapped (λ file. carrying file.carried (settled_file s file)) n.durable.directory f))
      (subst (SameLive (option_map (λ file. carrying file.carried (settled_file s file)) (file_at n.durable.directory f))) (sym (ap (λ (d : List (Option File)). file_at d f) (settled_directory n act moment s settles) ∙ file_mapped (settled_file s) n.durable.directory f))
      (place (file_at n.durable.directory f)))
    where
      place : (p : Option File) → SameLive (option_map (λ file. carrying file.carried (settled_file s file)) p) (option_map (settled_file s) p)
      place None = tt
      place (Some file) = refl

  back_live : (f : ℕ) → SameLive (file_at after.durable.directory f) (file_at (settled_buckets s n.durable.directory) f)
  back_live f = turned (file_at (settled_buckets s n.durable.directory) f) (file_at after.durable.directory f) (live_same f)
    where
      turned : (p q : Option File) → SameLive p q → SameLive q p
      turned None None same = tt
      turned None (Some y) same = absurd same
      turned (Some x) None same = absurd same
      turned (Some x) (Some y) same = sym same

  restorable_alike : (b : List (List ℕ)) (heads : List (Option FileHead)) (d e : List (Option File)) → ((f : ℕ) → SameLive (file_at d f) (file_at e f)) → AreRestorable b heads d → AreRestorable b heads e
  restorable_alike b heads d e alike restorable f = place (head_at heads f) (file_at d f) (file_at e f) (alike f) (restorable f)
    where
      place : (o : Option FileHead) (p q : Option File) → SameLive p q → IsPlaceRestorable b o p → IsPlaceRestorable b o q
      place None p q same can = tt
      place (Some h) None None same can = tt
      place (Some h) None (Some y) same can = absurd same
      place (Some h) (Some x) None same can = absurd same
      place (Some h) (Some x) (Some y) same can = subst (CanRestore h b) (sym same) can

  pub restorable_bare : (b : List (List ℕ)) (heads : List (Option FileHead)) → AreRestorable b heads after.durable.directory → AreRestorable b heads (settled_buckets s n.durable.directory)
  restorable_bare b heads restorable = restorable_alike b heads after.durable.directory (settled_buckets s n.durable.directory) back_live restorable

  pub restorable_full : (b : List (List ℕ)) (heads : List (Option FileHead)) → AreRestorable b heads (settled_buckets s n.durable.directory) → AreRestorable b heads after.durable.directory
  restorable_full b heads restorable = restorable_alike b heads (settled_buckets s n.durable.directory) after.durable.directory live_same restorable

  -- The outcome is told over these buckets.
  module _ (b e : List (List ℕ)) (k t : Catalog) (told : IsToldIn s n.durable.directory b e k t) (files : AreFiles b k.heads (settled_buckets s n.durable.directory)) where
    pub enters : Enters b k.heads (content_from 0 told.files (spelled_entry 0 s.tid (outcome_of s)) k.heads b) (data_area (sizes_of k.home)) (heads_from 0 told.files (length (spelled_entry 0 s.tid (outcome_of s))) k.heads) (map (option_map (settled_file s)) n.durable.directory)
    enters = enters_outcome b (data_area (sizes_of k.home)) k.heads n.durable.directory told.files s (record { files = files; fit = told.fit; behind = omega arith; whole = told.whole }) told.by told.room

    heads_told : t.heads ≡ heads_from 0 told.files (length (spelled_entry 0 s.tid (outcome_of s))) k.heads
    heads_told = ap (λ (x : Catalog). x.heads) told.catalog

    pub ru_told : t.ru ≡ k.ru
    ru_told = ap (λ (x : Catalog). x.ru) told.catalog

    pub files_told : AreFiles e t.heads after.durable.directory
    files_told = subst (AreFiles e t.heads) (sym (settled_directory n act moment s settles)) (subst (λ (x : List (List ℕ)). AreFiles x t.heads (map (option_map (settled_file s)) n.durable.directory)) (sym told.content)
        (subst (λ hs. AreFiles (content_from 0 told.files (spelled_entry 0 s.tid (outcome_of s)) k.heads b) hs (map (option_map (settled_file s)) n.durable.directory)) (sym heads_told) enters.fitting.files))

    dressed_told : AllDressed b k.heads e t.heads
    dressed_told = subst (λ (x : List (List ℕ)). AllDressed b k.heads x t.heads) (sym told.content)
        (subst (λ hs. AllDressed b k.heads (content_from 0 told.files (spelled_entry 0 s.tid (outcome_of s)) k.heads b) hs) (sym heads_told) enters.dressed)

    pub names_told : KeepsNames k.heads t.heads
    names_told = names_dressed b e k.heads t.heads dressed_told

    pub restorable_told : AreRestorable b k.heads after.durable.directory → AreRestorable e t.heads after.durable.directory
    restorable_told restorable = keeps_restorable.dresses b e k.heads t.heads (settled_buckets s n.durable.directory) after.durable.directory files dressed_told live_same (restorable_bare b k.heads restorable)

    pub tells_so : TellsCatalog k b → TellsCatalog t e
    tells_so tells = subst (TellsCatalog t) (sym told.content) (subst (λ (x : Catalog). TellsCatalog x (content_from 0 told.files (spelled_entry 0 s.tid (outcome_of s)) k.heads b)) (sym told.catalog) (enters.tells k refl tells))

    pub sound_so : (node : List ℕ) (size : ℕ) → IsSound node size k → IsSound node size t
    sound_so node size sound = subst (IsSound node size) (sym told.catalog) (enters.sound node size k refl sound)

    -- the log and the ring of the journal of recovery units lie in front of the files
    front_told : IsSound n.name n.blocks k → (i : ℕ) → 65 ≤ i → i + 518 < k.ru.start + k.ru.blocks → block_at e i ≡ block_at b i
    front_told sound i from to = ap (λ (x : List (List ℕ)). block_at x i) told.content ∙ enters.front i (inr from) (let start = sound.ru_start in let blocks = sound.ru_blocks in omega (arith, to, start, blocks))

    ring_told : IsSound n.name n.blocks k → SameRing k.ru b e
    ring_told sound = record {
      size = ap length told.content ∙ enters.size;
      whole = subst EachWhole (sym told.content) enters.fitting.whole;
      blocks = λ i from to. front_told sound i (let start = sound.ru_start in omega (arith, from, start)) (let start = sound.ru_start in omega (arith, to, start));
    }

    pub is_told : IsSound n.name n.blocks k → (j : HasJournal b k n) → IsTold n b e k t j
    is_told sound j =
        let it = journal_beside b e k t n names_told ru_told (ring_told sound) j in
        record { journal = it.0; same = it.1; size = ap length told.content ∙ enters.size; names = names_told; long = ap length heads_told ∙ enters.fitting.fit.heads_long; front = front_told sound; tells = tells_so; sound = sound_so }
