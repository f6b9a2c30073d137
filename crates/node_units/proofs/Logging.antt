-- The slots of a content, once the log has something else of a branch.
use Rattle.std.specs.Prelude.{IfSome, option_map, ◌⊎◌}
use Rattle.std.proofs.Common.{◌≡◌, ℕ, ◌+◌, ◌*◌, ◌<◌, ◌≤◌, Bool, true, false, List, [], ◌∷◌, length, map, replicate, slice_set, Option, Some, None, if◌then◌else◌, inl, inr, refl, ap, sym, subst, ◌∙◌, arith, length-append, length-set, get_or-set_same, get_or-set_other}
use Rattle.std.specs.List.{concat}
use Rattle.std.proofs.lemmas.Bool.{both_ways, cases_eq}
use Rattle.std.proofs.lemmas.List.{length-replicate}
use Rattle.block_disk.specs.Blocks.{block_at}
use Rattle.careful_write.specs.State.{EachWhole}
use Rattle.commit_protocol.specs.Agreement.{Distinct}
use Rattle.commit_protocol.specs.Messages.{LogRecord, same_id}
use Rattle.commit_protocol.specs.Table.{record_serials}
use Rattle.commit_protocol.specs.World.{In}
use Rattle.commit_protocol.proofs.Lists.{same_id-refl}
use Rattle.vms_model.specs.Ids.{Id, id_bytes, padded}
use Rattle.volume_format.specs.Layout.{AllWide}
use Rattle.volume_format.proofs.Names.{length-id_bytes}
use Rattle.volume_format.proofs.Splices.{length-laid}
use Rattle.log_laws.specs.Slots.{Slots, filled, has_slot, put_in, records_in, replaced, settled_in}
use Rattle.log_laws.proofs.Slotting.{slot_of}
use Rattle.lmcp_log.specs.Keeping.{Has, IsWhole, Keeps}
use Rattle.lmcp_log.specs.Log.{block_of, block_of_slot, slot_at}
use Rattle.lmcp_log.specs.Slot.{IsParts, IsRecord, name_bytes, slot_block, slot_rows}
use Rattle.lmcp_log.proofs.Apart.{freed_distinct, same_ids}
use Rattle.lmcp_log.proofs.Fields.{ids_16, length_mapped, names_16}
use Rattle.lmcp_log.proofs.Keepings.{keeps_set, none_in_zeros}
use Rattle.lmcp_log.proofs.SlotLemmas.{none_forgotten}
use Rattle.lmcp_log.proofs.Pieces.{All16, length_pieces}
use Rattle.file_base.specs.declared.head.FileHead.{FileHead}
use Rattle.volume.specs.declared.catalog.Catalog.{Catalog}
use Rattle.volume.specs.Catalogs.{IsSound, TellsCatalog, TellsEntry}
use Rattle.volume.specs.Limits.{data_area}
use Rattle.volume.specs.State.{VolumeState}
use Rattle.volume_format.specs.Home.{HasHome, HasRu, sizes_of}
use Rattle.unit_world.specs.directory_model.Files.{AgreesOnFile, head_at}
use Rattle.unit_world.proofs.directory_model.Apart.{writes_apart}
use Rattle.unit_world.specs.file_images.Files.{SameRing}
use Rattle.rms_units.specs.unit_votes.Logging.{SetsRecord, nothing, written}
use Rattle.unit_world.proofs.Blocks.{fit, other_block, whole_set}

abbrev Content : Type 0
Content = List (List ℕ)

-- The block of a slot.

padded_wide : (w : ℕ) (ps : List (List ℕ)) → All16 ps → 16 * length ps ≤ w → length (padded w (concat ps)) ≡ w
padded_wide w ps a fits =
    let l = length_pieces ps a in
    length-append (concat ps) _ ∙ (ap (λ n. length (concat ps) + n) (length-replicate _ _) ∙ omega (arith, l))

slot_wide : (r : LogRecord) → IsParts r → AllWide (slot_rows r)
unfolding slot_rows
slot_wide r p =
    let ids = ids_16 r.waiting p.waiting in
    let names = names_16 r.rms p.rms in
    let few = p.few in
    let few_rms = p.few_rms in
    let many = length_mapped id_bytes r.waiting in
    let many_rms = length_mapped name_bytes r.rms in
    (refl, (refl, (refl, (length-id_bytes r.tid p.tid, (length-id_bytes r.serial p.serial, (padded_wide 240 (map id_bytes r.waiting) ids (omega (arith, many, few)), (padded_wide 128 (map name_bytes r.rms) names (omega (arith, many_rms, few_rms)), tt)))))))

slot_long : (r : LogRecord) → IsParts r → length (slot_block r) ≡ 512
unfolding slot_rows
slot_long r p = length-laid 0 (slot_rows r) (replicate {A = ℕ} 512 0) refl (slot_wide r p) (length-replicate {A = ℕ} 512 0)

block_long : (o : Option LogRecord) → IfSome o IsRecord → length (block_of o) ≡ 512
block_long None is = length-replicate {A = ℕ} 512 0
block_long (Some r) is = slot_long r is.0

has_block : (o : Option LogRecord) → IfSome o IsRecord → Has o (block_of o)
has_block None is = none_in_zeros
has_block (Some r) is = (is, refl)

-- No serial stands twice after it.

abbrev serials : Slots → List Id
serials ss = record_serials (records_in ss)

serials_replaced : (r : LogRecord) (ss : Slots) → serials (replaced r ss) ≡ serials ss
serials_replaced r [] = refl
serials_replaced r (None ∷ ss) = serials_replaced r ss
serials_replaced r (Some q ∷ ss) = go (same_id q.serial r.serial) refl (serials_replaced r ss)
  where
    go : (t : Bool) → same_id q.serial r.serial ≡ t → serials (replaced r ss) ≡ serials ss → serials (if t then Some r ∷ ss else Some q ∷ replaced r ss) ≡ q.serial ∷ serials ss
    go true is rest = ap (λ (x : Id). x ∷ serials ss) (sym (same_ids q.serial r.serial is))
    go false is rest = ap (λ (xs : List Id). q.serial ∷ xs) rest

in_filled : (r : LogRecord) (ss : Slots) (x : Id) → In x (serials (filled r ss)) → (x ≡ r.serial) ⊎ In x (serials ss)
in_filled r [] x i = inr i
in_filled r (None ∷ ss) x i = elim i [ inl e ↦ inl e | inr more ↦ inr more ]
in_filled r (Some q ∷ ss) x i = elim i [ inl e ↦ inr (inl e) | inr more ↦ elim (in_filled r ss x more) [ inl e ↦ inl e | inr rest ↦ inr (inr rest) ] ]

filled_apart : (r : LogRecord) (ss : Slots) → has_slot r.serial ss ≡ false → Distinct (serials ss) → Distinct (serials (filled r ss))
filled_apart r [] none d = d
filled_apart r (None ∷ ss) none d = ((λ i. both_ways _ none (slot_of r.serial ss i)), d)
filled_apart r (Some q ∷ ss) none d = go (same_id q.serial r.serial) refl none (λ free. filled_apart r ss free d.1)
  where
    go : (t : Bool) → same_id q.serial r.serial ≡ t → (if t then true else has_slot r.serial ss) ≡ false → (has_slot r.serial ss ≡ false → Distinct (serials (filled r ss))) → Distinct (q.serial ∷ serials (filled r ss))
    go true is clash rest = let never : ⊥ = cc in absurd never
    go false is free rest = (
      λ i. elim (in_filled r ss q.serial i) [
        | inl e ↦ both_ways _ is (subst (λ (x : Id). same_id q.serial x ≡ true) e (same_id-refl q.serial))
        | inr more ↦ d.0 more
      ],
      rest free,
    )

pub put_apart : (r : LogRecord) (ss : Slots) → Distinct (serials ss) → Distinct (serials (put_in r ss))
put_apart r ss d = go (has_slot r.serial ss) refl
  where
    go : (t : Bool) → has_slot r.serial ss ≡ t → Distinct (serials (if t then replaced r ss else filled r ss))
    go true is = subst Distinct (sym (serials_replaced r ss)) d
    go false is = filled_apart r ss is d

-- A content has these slots in place of those, and is the same elsewhere.
pub record IsRelogged (ss ts : Slots) (a b : List (List ℕ)) : Type 0 where
  pub size : length b ≡ length a
  pub long : length ts ≡ length ss
  pub others : (k : ℕ) → (k < 66) ⊎ (66 + length ss ≤ k) → block_at b k ≡ block_at a k
  pub whole : EachWhole b
  pub keeps : Keeps ts b
  pub slots : IsWhole ts b

whole_slots : (ss : Slots) (c : Content) (p : ℕ) (o : Option LogRecord) → IsWhole ss c → p < length ss → 66 + length ss ≤ length c → IsWhole (slice_set ss p o) (slice_set c (66 + p) (block_of o))
whole_slots ss c p o w lt fits i below =
    let n = length-set ss p o in
    elim (cases_eq i p) [
      | inl e ↦ (let P : ℕ → Type 0 = λ m. block_of_slot (slice_set c (66 + p) (block_of o)) m ≡ block_of (slot_at (slice_set ss p o) m) in
          subst P (sym e) (get_or-set_same c (66 + p) (block_of o) [] (omega (arith, fits, lt)) ∙ ap block_of (sym (get_or-set_same ss p o None lt))))
      | inr e ↦ get_or-set_other c (66 + p) (66 + i) (block_of o) [] (λ f. e (omega (arith, f)))
          ∙ (w i (omega (arith, n, below)) ∙ ap block_of (sym (get_or-set_other ss p i o None e)))
    ]

apart_then : (x : Id) (entry : Option LogRecord) (ss ts : Slots) (p : ℕ) → ts ≡ settled_in x entry ss → ts ≡ slice_set ss p entry → Distinct (serials ss) → Distinct (serials (slice_set ss p entry))
apart_then x None ss ts p slots is d = freed_distinct ss p d
apart_then x (Some r) ss ts p slots is d = subst (λ (us : Slots). Distinct (serials us)) (sym slots ∙ is) (put_apart r ss d)

pub relogged : (x : Id) (entry : Option LogRecord) (ss ts : Slots) (v w : VolumeState) (a : List (List ℕ)) → SetsRecord x entry ss ts v w → IfSome entry IsRecord → v.store.current ≡ Some a → Keeps ss a → IsWhole ss a → EachWhole a → 66 + length ss ≤ length a →
    (b : List (List ℕ)) × (w.store.current ≡ Some b) × IsRelogged ss ts a b
relogged x entry ss ts v w a (nothing none free same current catalog) is told keeps slots whole fits = (
  a,
  current ∙ told,
  record {
    size = refl;
    long = ap length same;
    others = λ k out. refl;
    whole = whole;
    keeps = subst (λ (us : Slots). Keeps us a) (sym same) keeps;
    slots = subst (λ (us : Slots). IsWhole us a) (sym same) slots;
  },
)
relogged x entry ss ts v w a (written settled writes) is told keeps slots whole fits =
    let p = writes.place in
    let b : Content = slice_set a (66 + p) (block_of entry) in
    let within = writes.within in (
      b,
      writes.current ∙ ap (option_map (λ (c : Content). slice_set c (66 + p) (block_of entry))) told,
      record {
        size = length-set a (66 + p) (block_of entry);
        long = ap length writes.slots ∙ length-set ss p entry;
        others = λ k out. other_block a (66 + p) k (block_of entry) (λ e. elim out [ inl low ↦ absurd (omega (arith, low, e)) | inr high ↦ absurd (omega (arith, high, e, within)) ]);
        whole = whole_set a (66 + p) (block_of entry) whole (block_long entry is);
        keeps = subst (λ (us : Slots). Keeps us b) (sym writes.slots) (keeps_set ss a p entry keeps within fits (has_block entry is) (apart_then x entry ss ts p settled writes.slots keeps.distinct));
        slots = subst (λ (us : Slots). IsWhole us b) (sym writes.slots) (whole_slots ss a p entry slots within fits);
      },
    )

-- So the catalog stays, and what it tells, the ring and the files do.

pub catalog_set : (x : Id) (entry : Option LogRecord) (ss ts : Slots) (v w : VolumeState) → SetsRecord x entry ss ts v w → w.catalog ≡ v.catalog
catalog_set x entry ss ts v w (nothing none free same current catalog) = catalog
catalog_set x entry ss ts v w (written settled writes) = writes.catalog

-- what the slots are then
pub slots_set : (x : Id) (entry : Option LogRecord) (ss ts : Slots) (v w : VolumeState) → SetsRecord x entry ss ts v w → ts ≡ settled_in x entry ss
slots_set x entry ss ts v w (nothing none free same current catalog) = same ∙ sym (none_forgotten x ss free).0 ∙ ap (λ (e : Option LogRecord). settled_in x e ss) (sym none)
slots_set x entry ss ts v w (written settled writes) = settled

module _ (ss ts : Slots) (a b : List (List ℕ)) (re : IsRelogged ss ts a b) (k : Catalog) (before : 584 + length ss ≤ k.ru.start) where
  pub tells_relogged : TellsCatalog k a → TellsCatalog k b
  tells_relogged tells = record {
    ranges = tells.ranges;
    home = subst (λ (x : List ℕ). HasHome x k.home) (sym (re.others 0 (inl (omega arith)))) tells.home;
    heads = λ f within. subst (λ (x : List ℕ). TellsEntry x (head_at k.heads f)) (sym (re.others (1 + f) (inl (omega (arith, within))))) (tells.heads f within);
    ru = subst (λ (x : List ℕ). HasRu x k.ru) (sym (re.others 65 (inl (omega arith)))) tells.ru;
  }

  pub ring_relogged : SameRing k.ru a b
  ring_relogged = record { size = re.size; whole = re.whole; blocks = λ i from to. re.others i (inr (omega (arith, before, from))) }

  pub files_relogged : (node : List ℕ) (size : ℕ) → IsSound node size k → length k.heads ≡ 64 → (f : ℕ) (h : FileHead) → head_at k.heads f ≡ Some h → AgreesOnFile h a b
  files_relogged node size sound long = writes_apart.before (data_area (sizes_of k.home)) k.heads a b (fit node size k sound long) re.size re.whole
      (λ i from. sym (re.others i (inr (let start = sound.ru_start in let blocks = sound.ru_blocks in omega (arith, before, from, start, blocks)))))
