-- A boot up to the volume that is mounted, from what its steps do to the node of the world.
use Rattle.std.proofs.Common.{◌≡◌, inl, inr, ℕ, ◌+◌, ◌<◌, ◌≤◌, ◌^◌, List, [], Bool, true, false, Some, None, IfSome, length, option_map, refl, sym, ap, subst, ◌∙◌, arith}
use Rattle.std.proofs.lemmas.Bool.{cases_lt}
use Rattle.std.specs.Int.{from_le_bytes, to_le_bytes, w64}
use Rattle.std.proofs.lemmas.Nat.{from_le_bytes-to_le_bytes_8}
use Rattle.block_disk.specs.Blocks.{block_at}
use Rattle.block_disk.specs.Disk.{DiskState}
use Rattle.careful_write.specs.Content.{content_of}
use Rattle.careful_write.specs.Load.{fitting}
use Rattle.careful_write.specs.Reads.{SameButReads}
use Rattle.careful_write.specs.State.{EachWhole, IsIdle, LeavesAsItWas, StoreState}
use Rattle.careful_write.proofs.GroupParts.{stop_reading}
use Rattle.emitter_model.specs.transcript_model.Lines as line
use Rattle.file_base.specs.Bytes.{piece_at}
use Rattle.file_base.specs.declared.head.Span.{Span}
use Rattle.volume_format.specs.declared.home.Home.{Home}
use Rattle.volume_format.specs.Home.{HasRu, ru_rows}
use Rattle.volume_format.specs.Layout.{Row, row_at}
use Rattle.volume_format.proofs.Splices.{laid_read}
use Rattle.volume.specs.declared.catalog.Catalog.{Catalog}
use Rattle.volume.specs.Catalogs.{IsSound, TellsCatalog, TellsOnly}
use Rattle.volume.specs.Conditions.{IsFirstFinding, IsValid, SoundIsValid}
use Rattle.volume.specs.State.{VolumeState, Holds}
use Rattle.world_laws.specs.run_model.World.{Node, Volume, Sound, Faulty, Barred, Unknown, fallen}
use Rattle.world_laws.specs.run_model.Answers.{bootable}
use Rattle.recovery_units.specs.volume_model.Bars.{first_bar}
use Rattle.recovery_units.specs.volume_model.Volumes.{HasDisk, LeavesVolume}
use Rattle.dtm_node.specs.Boots.{AllHave, HasContent, IsAwake, IsMounted, IsOpened, IsWide}
use Rattle.dtm_node.proofs.DiskLemmas.{Content, ContentBy, alike_on, as_it_was, content_fallen, have_disk, idle_alike}

-- Opening.

pub opened : (name : List ℕ) (d : DiskState) (s : StoreState) (n : Node) → d.pending ≡ [] → (s.fits ≡ true → IsIdle s) → s.current ≡ option_map content_of d.seen → IfSome d.seen (λ b. s.fits ≡ fitting b) → (s.fits ≡ false → s.disk ≡ d) → s.disk.size ≡ d.size →
    IsAwake name d n → IsOpened name s n
opened name d s n settled idle current fits unfit size a = record {
  booting = record { name_is = a.booting.name_is; blocks = a.booting.blocks ∙ sym size; under_way = a.booting.under_way; kept = a.booting.kept };
  content = content_of a.image;
  told = told;
  alike = go s.fits refl;
  has = subst (λ f. HasContent n f (content_of a.image)) (sym same) a.has;
}
  where
    told : s.current ≡ Some (content_of a.image)
    told = current ∙ ap (option_map content_of) a.told

    same : s.fits ≡ fitting a.image
    same = subst (λ o. IfSome o (λ b. s.fits ≡ fitting b)) a.told fits

    go : (f : Bool) → s.fits ≡ f → AllHave s.fits (content_of a.image) s.disk
    go true e = subst (λ f. AllHave f (content_of a.image) s.disk) (sym e) (idle_alike s (content_of a.image) (idle e) told)
    go false e = subst (AllHave s.fits (content_of a.image)) (sym (unfit e)) (subst (λ f. AllHave f (content_of a.image) d) (sym same) (as_it_was d.seen a.image d a.told (stop_reading d d settled refl refl)))

pub open_fell : (name : List ℕ) (d after : DiskState) (n : Node) → LeavesAsItWas d.seen after → IsAwake name d n → HasDisk (fallen None n) after
open_fell name d after n leaves a = have_disk (fallen None n) (fitting a.image) (content_of a.image) after refl (as_it_was d.seen a.image after a.told leaves) (content_fallen n None (fitting a.image) (content_of a.image) a.has)

-- Mounting.

-- a block of the journal tells one span
span_told : (n : ℕ) (block : List ℕ) (s : Span) (r : Row) → row_at n (ru_rows s) ≡ Some r → length block ≡ 512 → HasRu block s → piece_at block r.at r.wide ≡ r.bytes
span_told n block s r at long has = ap (λ b. piece_at b r.at r.wide) (sym has) ∙ laid_read 0 n (ru_rows s) block r at refl (refl, (refl, tt)) long

-- a number of 64 bits is read as it was written
wide_same : (x y : ℕ) → x < 2 ^ 64 → y < 2 ^ 64 → to_le_bytes w64 x ≡ to_le_bytes w64 y → x ≡ y
wide_same x y f g same = sym (from_le_bytes-to_le_bytes_8 x f) ∙ ap (from_le_bytes w64) same ∙ from_le_bytes-to_le_bytes_8 y g

span_same : (block : List ℕ) (a b : Span) → length block ≡ 512 → HasRu block a → HasRu block b → a.start ≡ b.start → a.blocks ≡ b.blocks → IsWide a → IsWide b → a ≡ b
span_same block a b long f g start blocks wide_a wide_b =
    let first = wide_same a.first b.first wide_a.0 wide_b.0 (sym (span_told 0 block a _ refl long f) ∙ span_told 0 block b _ refl long g) in
    let end = wide_same a.end b.end wide_a.1 wide_b.1 (sym (span_told 1 block a _ refl long f) ∙ span_told 1 block b _ refl long g) in
    λ i. record { start = start i; blocks = blocks i; first = first i; end = end i }

left_wide : (c : Content) (v : Catalog) (n : Node) → LeavesVolume c v n → IsWide v.ru
left_wide c v n h = let order = h.journal.is.order in let low = h.journal.low in (omega (arith, order, low), omega (arith, low))

-- what the volume of a node is, by what its disk has
abbrev pub MountedBy : Node → Content → VolumeState → Volume → Type 0
MountedBy n c v x = elim x [ Sound ↦ (IsWide v.catalog.ru → LeavesVolume c v.catalog n) | Faulty condition block ↦ ⊥ | Barred bar ↦ (IsWide v.catalog.ru → first_bar v.catalog ≡ Some bar) | Unknown ↦ ⊥ ]

pub mounted : (name : List ℕ) (s : StoreState) (v : VolumeState) (n : Node) → SameButReads s v.store → 4096 ≤ s.disk.size → IfSome s.current (λ c. length c + 518 ≡ s.disk.size) → IfSome s.current EachWhole → Holds v → IsSound name s.disk.size v.catalog → IfSome s.current (TellsOnly v.catalog) →
    IfSome s.current (IsValid name s.fits) → IsOpened name s n → IsMounted v n
mounted name s v n store least whole each holds sound only valid o = record {
  booting = record { name_is = o.booting.name_is ∙ sym sound.home.owner; blocks = o.booting.blocks ∙ sym (ap (λ (t : StoreState). t.disk.size) store); under_way = o.booting.under_way; kept = o.booting.kept };
  content = o.content;
  told = told;
  has = go n.durable.volume o.has;
}
  where
    told : v.store.current ≡ Some o.content
    told = ap (λ (t : StoreState). t.current) store ∙ o.told

    is_valid : IsValid n.name s.fits o.content
    is_valid = subst (λ x. IsValid x s.fits o.content) (sym o.booting.name_is) (subst (λ t. IfSome t (IsValid name s.fits)) o.told valid)

    one : TellsOnly v.catalog o.content
    one = subst (λ t. IfSome t (TellsOnly v.catalog)) o.told only

    bytes : EachWhole o.content
    bytes = subst (λ t. IfSome t EachWhole) o.told each

    block : length (block_at o.content 65) ≡ 512
    block =
        let long : length o.content + 518 ≡ s.disk.size = subst (λ t. IfSome t (λ c. length c + 518 ≡ s.disk.size)) o.told whole in
        bytes 65 (omega (arith, long, least))

    -- a catalog that the content tells is that of the volume
    same_catalog : (k : Catalog) → TellsCatalog k o.content → length k.heads ≡ 64 → IsSound n.name n.blocks k → IsWide k.ru → IsWide v.catalog.ru → k ≡ v.catalog
    same_catalog k k_tells long k_sound k_wide wide =
        let same = one k k_tells long in
        let tells : TellsCatalog v.catalog o.content = subst (λ t. IfSome t (TellsCatalog v.catalog)) told holds in
        let units : k.ru ≡ v.catalog.ru = span_same (block_at o.content 65) k.ru v.catalog.ru block k_tells.ru tells.ru
        (k_sound.ru_start ∙ ap (λ (h : Home). 584 + h.slots) same.0 ∙ sym sound.ru_start) (k_sound.ru_blocks ∙ ap (λ (h : Home). h.ru_blocks) same.0 ∙ sym sound.ru_blocks) k_wide wide in
        λ i. record { home = same.0 i; heads = same.1 i; ru = units i }

    go : (x : Volume) → ContentBy n s.fits o.content x → MountedBy n o.content v x
    go Sound h = λ wide.
        let leaves = h.1.leaves bytes in
        subst (λ (k : Catalog). LeavesVolume o.content k n) (same_catalog h.1.catalog h.1.tells leaves.files.heads_long h.1.sound (left_wide o.content h.1.catalog n leaves) wide) leaves
    go (Faulty condition block) h = h.finding.fails (is_valid condition block h.finding.tested)
    go (Barred bar) h = λ wide. subst (λ (k : Catalog). first_bar k ≡ Some bar) (same_catalog h.1.catalog h.1.tells h.1.heads h.1.sound h.1.wide wide) h.1.bars
    go Unknown h = h

-- Two conditions that fail first are one.

same_finding : (name : List ℕ) (fits : Bool) (c : Content) (a b i j : ℕ) → IsFirstFinding name fits c a i → IsFirstFinding name fits c b j → (a ≡ b) × (i ≡ j)
same_finding name fits c a b i j f g =
    let numbers : a ≡ b = elim (cases_lt a b) [
      | inl lt ↦ absurd (f.finding.fails (g.finding.before a i lt f.finding.tested))
      | inr le ↦ elim (cases_lt b a) [
        | inl lt ↦ absurd (g.finding.fails (f.finding.before b j lt g.finding.tested))
        | inr ge ↦ omega (arith, le, ge)
      ]
    ] in
    let h : IsFirstFinding name fits c a j = subst (λ x. IsFirstFinding name fits c x j) (sym numbers) g in (
      numbers,
      elim (cases_lt i j) [
        | inl lt ↦ absurd (f.finding.fails (h.lowest i lt f.finding.tested))
        | inr le ↦ elim (cases_lt j i) [
          | inl lt ↦ absurd (h.finding.fails (f.lowest j lt h.finding.tested))
          | inr ge ↦ omega (arith, le, ge)
        ]
      ],
    )

sound_size : (c : Content) (size : ℕ) → length c + 518 ≡ size → 4096 ≤ size → 0 < length c
sound_size c size long least = omega arith

faulty_by : (n : Node) (condition block : ℕ) → n.durable.volume ≡ Faulty condition block → bootable n ≡ Some (line.NoVolume n.name condition block)
faulty_by n condition block e = rw e refl

pub condition_found : (name : List ℕ) (s : StoreState) (n : Node) (number block : ℕ) (d : DiskState) → SoundIsValid → 4096 ≤ s.disk.size → IfSome s.current (λ c. length c + 518 ≡ s.disk.size) → IfSome s.current EachWhole → IfSome s.current (λ c. IsFirstFinding name s.fits c number block) →
    d ≡ s.disk → IsOpened name s n → (bootable n ≡ Some (line.NoVolume name number block)) × HasDisk n d
condition_found name s n number block d law least whole each finds same o =
    (go n.durable.volume refl o.has, subst (HasDisk n) (sym same) (have_disk n s.fits o.content s.disk o.booting.under_way o.alike o.has))
  where
    found : IsFirstFinding n.name s.fits o.content number block
    found = subst (λ x. IsFirstFinding x s.fits o.content number block) (sym o.booting.name_is) (subst (λ t. IfSome t (λ c. IsFirstFinding name s.fits c number block)) o.told finds)

    long : length o.content + 518 ≡ s.disk.size
    long = subst (λ t. IfSome t (λ c. length c + 518 ≡ s.disk.size)) o.told whole

    bytes : EachWhole o.content
    bytes = subst (λ t. IfSome t EachWhole) o.told each

    -- no condition of a sound volume fails
    none_fails : s.fits ≡ true → (k : Catalog) → TellsCatalog k o.content → length k.heads ≡ 64 → IsSound n.name n.blocks k → ⊥
    none_fails fits k tells heads k_sound =
        let sound : IsSound n.name (length o.content + 518) k = subst (λ m. IsSound n.name m k) (o.booting.blocks ∙ sym long) k_sound in
        let valid : IsValid n.name true o.content = law n.name o.content k tells sound heads (bytes 0 (sound_size o.content s.disk.size long least)) in
        let fails : IsFirstFinding n.name true o.content number block = subst (λ f. IsFirstFinding n.name f o.content number block) fits found in
        fails.finding.fails (valid number block fails.finding.tested)

    go : (x : Volume) → n.durable.volume ≡ x → ContentBy n s.fits o.content x → bootable n ≡ Some (line.NoVolume name number block)
    go Sound e h = absurd (none_fails h.0 h.1.catalog h.1.tells (h.1.leaves bytes).files.heads_long h.1.sound)
    go (Faulty condition place) e h =
        let one = same_finding n.name s.fits o.content condition number place block h found in
        faulty_by n condition place e ∙ rw (o.booting.name_is, one.0, one.1) refl
    go (Barred bar) e h = absurd (none_fails h.0 h.1.catalog h.1.tells h.1.heads h.1.sound)
    go Unknown e h = absurd h

pub mount_fell : (name : List ℕ) (s : StoreState) (n : Node) (d : DiskState) → d.pending ≡ s.disk.pending → d.seen ≡ s.disk.seen → IsOpened name s n → HasDisk (fallen None n) d
mount_fell name s n d pending seen o = have_disk (fallen None n) s.fits o.content d refl (alike_on s.fits o.content s.disk d pending seen o.alike) (content_fallen n None s.fits o.content o.has)
