-- Entries at the ends of one file's journals.
use Rattle.std.proofs.Common.{◌≡◌, ℕ, suc, zero, ◌+◌, ◌*◌, ◌<◌, ◌≤◌, ◌^◌, ◌⊎◌, Bool, true, false, List, [], ◌∷◌, Option, Some, None, length, slice_set, slice_index_or, refl, sym, ◌∙◌, ap, subst, arith, inl, inr, length-set, get_or-set_same, get_or-set_other}
use Rattle.std.specs.Prelude.{if◌then◌else◌, replicate}
use Rattle.std.proofs.lemmas.Bool.{cases_eq}
use Rattle.std.proofs.lemmas.List.{length-replicate}
use Rattle.block_disk.specs.Blocks.{block_at}
use Rattle.careful_write.specs.State.{EachWhole}
use Rattle.careful_write.specs.Steps.{AgreesOff}
use Rattle.extents.specs.declared.extent.Extent.{Extent as Area}
use Rattle.extents.specs.Extents.{all_extents, covers, extent, nowhere}
use Rattle.extents.proofs.Used.{covered, covering}
use Rattle.file_base.specs.declared.head.FileHead.{FileHead}
use Rattle.journal_model.specs.Ring.{put_stream, HasRing}
use Rattle.journal_store.proofs.Journals.{keeps_others, ring_stream}
use Rattle.volume.specs.declared.catalog.Catalog.{Catalog}
use Rattle.volume.specs.Catalogs.{IsSound, TellsCatalog, TellsEntry}
use Rattle.volume_format.specs.Home.{HasHome, HasRu}
use Rattle.volume_format.specs.Head.{IsHead, head_block_of, head_rows}
use Rattle.volume_format.proofs.Heads.{head_wide}
use Rattle.volume_format.proofs.Splices.{length-laid}
use Rattle.vms_model.specs.Ids.{Id}
use Rattle.records_model.specs.Records.{Change}
use Rattle.recovery_model.specs.Journal.{Entry}
use Rattle.recovery_model.specs.File.{ImageJournal}
use Rattle.restart_laws.specs.run_model.World.{Carried, File}
use Rattle.image_room.specs.image_appends.declared.side.Side.{Side}
use Rattle.image_room.specs.image_appends.declared.side.Side.TheVariants.{After, Before}
use Rattle.image_room.specs.image_appends.Images.{content_grown, content_with, content_with_both, entered, files_grown, grown, heads_with, heads_with_both, is_kept, span_of}
use Rattle.restart_laws.specs.directory_model.Files.{AreFiles, Fit, IsCarried, file_at, head_at}
use Rattle.restart_laws.specs.directory_model.Laws.{carrying, in_blocks, longer_after, longer_before, spelled_entry}
use Rattle.restart_laws.proofs.directory_model.Apart.{after_is, before_is, in_area, off_ring, writes_apart}
use Rattle.restart_laws.proofs.directory_model.Entering.{enters_images, is_there}
use Rattle.restart_laws.proofs.directory_model.Heads.{keeps_heads}
use Rattle.restart_laws.proofs.directory_model.Places.{head_there, set_twice, within_list}
use Rattle.restart_laws.proofs.directory_model.Standing.{stands_on_extents}
use Rattle.image_groups.proofs.Dressed.{all_after, all_same, all_stay, one_dressed, sound_after, sound_same, tells_after, tells_same}
use Rattle.image_room.proofs.Sound.{sound_grown}
use Rattle.image_groups.specs.Groups.{AllDressed, AreFitting, Enters, EntersChange, EntersSide, MayEnter, MayGrow, StaySound, TellsOther, after_image, appended_to, before_image}

-- Blocks of 512 bytes.

other_block : (c : List (List ℕ)) (k n : ℕ) (bytes : List ℕ) → (n ≡ k → ⊥) → block_at (slice_set c k bytes) n ≡ block_at c n
other_block c k n bytes other = get_or-set_other c k n bytes [] other

pub whole_set : (c : List (List ℕ)) (k : ℕ) (bytes : List ℕ) → EachWhole c → length bytes ≡ 512 → EachWhole (slice_set c k bytes)
whole_set c k bytes whole is n below = elim (cases_eq n k) [
  | inl here ↦ subst (λ j. length (block_at (slice_set c k bytes) j) ≡ 512) (sym here) (ap length (get_or-set_same c k bytes [] (let size = length-set c k bytes in omega (arith, below, here, size))) ∙ is)
  | inr other ↦ ap length (other_block c k n bytes other) ∙ whole n (let size = length-set c k bytes in omega (arith, below, size))
]

pub head_long : (h : FileHead) → IsHead h → length (head_block_of h) ≡ 512
unfolding head_rows
head_long h is = length-laid 0 (head_rows h) (replicate {A = ℕ} 512 0) refl (head_wide h is) (length-replicate {A = ℕ} 512 0)

-- Heads with longer journals.

after_head : (h : FileHead) (n : ℕ) → IsHead h → h.ai.end + n ≤ 2 ^ 62 → IsHead (longer_after n h)
after_head h n is far = record {
  form = record { name = is.form.name; bucket = is.form.bucket; mrs = is.form.mrs; mrn = is.form.mrn; key_pos = is.form.key_pos; key_size = is.form.key_size };
  extent = record { start = is.extent.start; alloc = is.extent.alloc; used = is.extent.used; root = is.extent.root; levels = is.extent.levels; count = is.extent.count };
  ai = record { start = is.ai.start; blocks = is.ai.blocks; first = is.ai.first; end = omega (arith, far) };
  bi = is.bi;
  bi_since = is.bi_since;
  save = is.save;
}

before_head : (h : FileHead) (n : ℕ) → IsHead h → h.bi.end + n ≤ 2 ^ 62 → IsHead (longer_before n h)
before_head h n is far = record {
  form = record { name = is.form.name; bucket = is.form.bucket; mrs = is.form.mrs; mrn = is.form.mrn; key_pos = is.form.key_pos; key_size = is.form.key_size };
  extent = record { start = is.extent.start; alloc = is.extent.alloc; used = is.extent.used; root = is.extent.root; levels = is.extent.levels; count = is.extent.count };
  ai = is.ai;
  bi = record { start = is.bi.start; blocks = is.bi.blocks; first = is.bi.first; end = omega (arith, far) };
  bi_since = is.bi_since;
  save = is.save;
}

-- The directory block tells the head, and the volume stays sound.

tells_set : (c b : List (List ℕ)) (heads : List (Option FileHead)) (f : ℕ) (new : FileHead) → f < 64 → f < length heads → length b ≡ length c → 1 + f < length b → ((k : ℕ) → k < 66 → block_at b k ≡ block_at c k) → IsHead new →
    TellsOther c heads (slice_set b (1 + f) (head_block_of new)) (slice_set heads f (Some new))
tells_set c b heads f new low within size inside front is k same told = record {
  ranges = told.ranges;
  home = subst (λ (x : List ℕ). HasHome x k.home) (sym (other_block b (1 + f) 0 (head_block_of new) (λ e. omega (arith, e)) ∙ front 0 (omega arith))) told.home;
  heads = each;
  ru = subst (λ (x : List ℕ). HasRu x k.ru) (sym (other_block b (1 + f) 65 (head_block_of new) (λ e. omega (arith, e, low)) ∙ front 65 (omega arith))) told.ru;
}
  where
    each : (g : ℕ) → g < 64 → TellsEntry (block_at (slice_set b (1 + f) (head_block_of new)) (1 + g)) (head_at (slice_set heads f (Some new)) g)
    each g below = elim (cases_eq g f) [
      | inl here ↦ subst (λ j. TellsEntry (block_at (slice_set b (1 + f) (head_block_of new)) (1 + j)) (head_at (slice_set heads f (Some new)) j)) (sym here)
          (subst (λ (o : Option FileHead). TellsEntry (block_at (slice_set b (1 + f) (head_block_of new)) (1 + f)) o) (sym (get_or-set_same heads f (Some new) None within))
          (subst (λ (x : List ℕ). TellsEntry x (Some new)) (sym (get_or-set_same b (1 + f) (head_block_of new) [] inside)) (record { ranges = is; bytes = refl })))
      | inr other ↦ subst (λ (o : Option FileHead). TellsEntry (block_at (slice_set b (1 + f) (head_block_of new)) (1 + g)) o) (sym (get_or-set_other heads f g (Some new) None other))
          (subst (λ (x : List ℕ). TellsEntry x (head_at heads g)) (sym (other_block b (1 + f) (1 + g) (head_block_of new) (λ e. other (omega (arith, e))) ∙ front (1 + g) (omega (arith, below))))
          (subst (λ hs. TellsEntry (block_at c (1 + g)) (head_at hs g)) same (told.heads g below)))
    ]

sound_set : (heads : List (Option FileHead)) (f : ℕ) (side : Side) (n : ℕ) (h : FileHead) → length heads ≡ 64 → head_at heads f ≡ Some h → is_kept side h ≡ true → (span_of side h).end + n ≤ 2 ^ 62 → StaySound heads (slice_set heads f (Some (grown side n h)))
sound_set heads f side n h long there on far node size k same sound =
    subst (λ (b : Bool). IsSound node size (record k { heads = if b then slice_set heads f (Some (grown side n h)) else heads })) on
    (subst (λ (o : Option FileHead). IsSound node size (record k { heads = files_grown o f side n heads })) there
    (subst (λ hs. IsSound node size (record k { heads = heads_with f side n hs })) same (sound_grown node size k f side n (ap length same ∙ long) (λ x is kept_too. far_too x (sym there ∙ ap (λ hs. head_at hs f) (sym same) ∙ is)) sound)))
  where
    far_too : (x : FileHead) → ◌≡◌ {A = Option FileHead} (Some h) (Some x) → (span_of side x).end + n ≤ 2 ^ 62
    far_too x is = subst (λ (y : FileHead). (span_of side y).end + n ≤ 2 ^ 62) (one h x is) far
      where
        one : (x y : FileHead) → Some x ≡ Some y → x ≡ y
        one x y e = cc

-- what is set to what it was stays
pub set_back : {A : Type 0} (xs : List (Option A)) (f : ℕ) (x : A) → slice_index_or xs f None ≡ Some x → slice_set xs f (Some x) ≡ xs
set_back [] f x there = refl
set_back (y ∷ xs) zero x there = ap (λ z. z ∷ xs) (sym there)
set_back (y ∷ xs) (suc f) x there = ap (λ ys. y ∷ ys) (set_back xs f x there)

-- One journal.

-- the directory block of a file, once its journal is in place
block_written : (c b : List (List ℕ)) (area : Area) (old heads : List (Option FileHead)) (directory : List (Option File)) (f : ℕ) (bytes : List ℕ) → AllDressed c old b heads → length b ≡ length c → ((k : ℕ) → k + 518 < area.start → block_at b k ≡ block_at c k) → AreFiles b heads directory → Fit area heads → 584 ≤ area.start → f < 64 → EachWhole b →
    length bytes ≡ 512 → TellsOther c old (slice_set b (1 + f) bytes) heads → StaySound old heads → Enters c old (slice_set b (1 + f) bytes) area heads directory
block_written c b area old heads directory f bytes dressed size before are fit behind low whole long tells sound =
    let now = whole_set b (1 + f) bytes whole long in
    let stand = writes_apart.before area heads b (slice_set b (1 + f) bytes) fit (length-set b (1 + f) bytes) now (λ n from. sym (other_block b (1 + f) n bytes (λ is. absurd (omega (arith, from, behind, is, low))))) in
    record {
      fitting = record { files = stands_on_extents b (slice_set b (1 + f) bytes) heads directory stand are; fit = fit; behind = behind; whole = now };
      dressed = all_after c b (slice_set b (1 + f) bytes) old heads heads dressed (all_stay b (slice_set b (1 + f) bytes) heads stand);
      size = length-set b (1 + f) bytes ∙ size;
      front = λ k side near. other_block b (1 + f) k bytes (λ is. elim side [ inl zero_block ↦ omega (arith, is, zero_block) | inr behind_heads ↦ omega (arith, is, behind_heads, low) ]) ∙ before k near;
      tells = tells;
      sound = sound;
    }

-- blocks before the area are in none of its extents
pub near_stays : (area : Area) (heads : List (Option FileHead)) (c b : List (List ℕ)) (fit : Fit area heads) (i start blocks : ℕ) → i < 256 → slice_index_or (all_extents heads) i nowhere ≡ extent start blocks → AgreesOff (in_blocks start blocks) c b →
    (k : ℕ) → k + 518 < area.start → block_at b k ≡ block_at c k
near_stays area heads c b fit i start blocks within is off k near = off.others k (go (in_blocks start blocks k) refl)
  where
    go : (x : Bool) → in_blocks start blocks k ≡ x → in_blocks start blocks k ≡ false
    go true has = let inside = in_area area heads fit i start blocks k within is has in absurd (let from = inside.0 in omega (arith, near, from))
    go false has = has

-- an extent that has a block lies in the area
pub ring_far : (area : Area) (heads : List (Option FileHead)) → Fit area heads → (i start blocks : ℕ) → i < 256 → slice_index_or (all_extents heads) i nowhere ≡ extent start blocks → 0 < blocks → area.start ≤ start
ring_far area heads fit i start blocks below is some =
    (covered area start ((fit.each i below).inside start (ap (λ (e : Area). covers e start) is ∙ covering (extent start blocks) start (omega arith) (omega (arith, some))))).0

module _ (c : List (List ℕ)) (area : Area) (heads : List (Option FileHead)) (directory : List (Option File)) (f : ℕ) (file : File) (tid : Id) (e : Entry) (are : AreFitting c area heads directory) (low : f < 64) (at : file_at directory f ≡ Some file) where
  abbrev bytes : List ℕ
  bytes = spelled_entry f tid e

  after_on : (h : FileHead) → head_at heads f ≡ Some h → h.marks.ai ≡ true → MayGrow After f h tid e →
      Enters c heads (entered f After bytes h c) area (slice_set heads f (Some (grown After (length bytes) h))) (slice_set directory f (Some (carrying (appended_to After tid e file.carried) file)))
  after_on h there on may =
      let new = longer_after (length bytes) h in
      let it = is_there c heads directory f h file are.files there at in
      let ring : HasRing c h.ai = (it.1.after.images on).spelled.ring in
      let whole : EachWhole (put_stream c h.ai h.ai.end bytes) = (ring_stream bytes c h.ai h.ai.end ring).whole in
      let off = off_ring h.ai c (put_stream c h.ai h.ai.end bytes) (keeps_others bytes c h.ai h.ai.end ring.some) in
      let rest = writes_apart.in_after area heads f h c (put_stream c h.ai h.ai.end bytes) are.fit there off whole in
      let near = near_stays area heads c (put_stream c h.ai h.ai.end bytes) are.fit (4 * f + 1) h.ai.start h.ai.blocks (omega (arith, low)) (after_is area heads are.fit f h there) off in
      let far = ring_far area heads are.fit (4 * f + 1) h.ai.start h.ai.blocks (omega (arith, low)) (after_is area heads are.fit f h there) ring.some in
      let inside : 1 + f < length (put_stream c h.ai h.ai.end bytes) = let within = ring.within in let size = off.size in let some = ring.some in let behind = are.behind in omega (arith, far, within, size, some, behind, low) in
      let is_head : IsHead new = after_head h (length bytes) may.head may.far in
      block_written c (put_stream c h.ai h.ai.end bytes) area heads (slice_set heads f (Some new)) (slice_set directory f (Some (carrying (appended_to After tid e file.carried) file))) f (head_block_of new)
      (one_dressed c (put_stream c h.ai h.ai.end bytes) heads f h new there (record { is = refl }) rest.1 rest.0) off.size
      near
      (enters_images.after c area heads directory f h file tid e are.files are.fit there at on may.can) (keeps_heads.stays area heads f h new are.fit there refl) are.behind low whole (head_long new is_head)
      (tells_set c (put_stream c h.ai h.ai.end bytes) heads f new low (let l = are.files.heads_long in omega (arith, l, low)) off.size inside (λ k below. near k (let b = are.behind in omega (arith, b, below))) is_head) (sound_set heads f After (length bytes) h are.files.heads_long there on may.far)

  before_on : (h : FileHead) → head_at heads f ≡ Some h → h.marks.bi ≡ true → MayGrow Before f h tid e →
      Enters c heads (entered f Before bytes h c) area (slice_set heads f (Some (grown Before (length bytes) h))) (slice_set directory f (Some (carrying (appended_to Before tid e file.carried) file)))
  before_on h there on may =
      let new = longer_before (length bytes) h in
      let it = is_there c heads directory f h file are.files there at in
      let ring : HasRing c h.bi = (it.1.before.images on).spelled.ring in
      let whole : EachWhole (put_stream c h.bi h.bi.end bytes) = (ring_stream bytes c h.bi h.bi.end ring).whole in
      let off = off_ring h.bi c (put_stream c h.bi h.bi.end bytes) (keeps_others bytes c h.bi h.bi.end ring.some) in
      let rest = writes_apart.in_before area heads f h c (put_stream c h.bi h.bi.end bytes) are.fit there off whole in
      let near = near_stays area heads c (put_stream c h.bi h.bi.end bytes) are.fit (4 * f + 2) h.bi.start h.bi.blocks (omega (arith, low)) (before_is area heads are.fit f h there) off in
      let far = ring_far area heads are.fit (4 * f + 2) h.bi.start h.bi.blocks (omega (arith, low)) (before_is area heads are.fit f h there) ring.some in
      let inside : 1 + f < length (put_stream c h.bi h.bi.end bytes) = let within = ring.within in let size = off.size in let some = ring.some in let behind = are.behind in omega (arith, far, within, size, some, behind, low) in
      let is_head : IsHead new = before_head h (length bytes) may.head may.far in
      block_written c (put_stream c h.bi h.bi.end bytes) area heads (slice_set heads f (Some new)) (slice_set directory f (Some (carrying (appended_to Before tid e file.carried) file))) f (head_block_of new)
      (one_dressed c (put_stream c h.bi h.bi.end bytes) heads f h new there (record { is = refl }) rest.1 rest.0) off.size
      near
      (enters_images.before c area heads directory f h file tid e are.files are.fit there at on may.can) (keeps_heads.stays area heads f h new are.fit there refl) are.behind low whole (head_long new is_head)
      (tells_set c (put_stream c h.bi h.bi.end bytes) heads f new low (let l = are.files.heads_long in omega (arith, l, low)) off.size inside (λ k below. near k (let b = are.behind in omega (arith, b, below))) is_head) (sound_set heads f Before (length bytes) h are.files.heads_long there on may.far)

  -- a file that does not keep the journal carries what it did
  same_directory : (r : Carried) → r ≡ file.carried → slice_set directory f (Some (carrying r file)) ≡ directory
  same_directory r is = ap (λ (x : Carried). slice_set directory f (Some (carrying x file))) is ∙ set_back directory f file at

  nothing_on : (side : Side) (h : FileHead) → head_at heads f ≡ Some h → is_kept side h ≡ false → appended_to side tid e file.carried ≡ file.carried
  nothing_on After h there off = ap (λ (j : ImageJournal). record file.carried { after = j }) (enters_images.no_after c heads directory f h file tid e are.files there at off)
  nothing_on Before h there off = ap (λ (j : ImageJournal). record file.carried { before = j }) (enters_images.no_before c heads directory f h file tid e are.files there at off)

  side_on : (side : Side) (h : FileHead) → head_at heads f ≡ Some h → is_kept side h ≡ true → MayGrow side f h tid e →
      Enters c heads (entered f side bytes h c) area (slice_set heads f (Some (grown side (length bytes) h))) (slice_set directory f (Some (carrying (appended_to side tid e file.carried) file)))
  side_on After h there on may = after_on h there on may
  side_on Before h there on may = before_on h there on may

  side_of : (side : Side) → MayEnter side f heads tid e → (o : Option FileHead) → head_at heads f ≡ o →
      Enters c heads (content_grown o f side bytes c) area (files_grown o f side (length bytes) heads) (slice_set directory f (Some (carrying (appended_to side tid e file.carried) file)))
  side_of side may None none = let head = head_there c heads directory f file are.files at in let no : ⊥ = (let both : None ≡ Some head.0 = sym none ∙ head.1 in cc) in absurd no
  side_of side may (Some h) there = kept (is_kept side h) refl
    where
      kept : (k : Bool) → is_kept side h ≡ k → Enters c heads (if k then entered f side bytes h c else c) area (if k then slice_set heads f (Some (grown side (length bytes) h)) else heads) (slice_set directory f (Some (carrying (appended_to side tid e file.carried) file)))
      kept true on = side_on side h there on (may h there on)
      kept false off = record { fitting = subst (AreFitting c area heads) (sym (same_directory (appended_to side tid e file.carried) (nothing_on side h there off))) are; dressed = all_same c heads; size = refl; front = λ k side near. refl; tells = tells_same c heads; sound = sound_same heads }

pub enters_side : EntersSide
enters_side c area heads directory f file side tid e are low at may = side_of c area heads directory f file tid e are low at side may (head_at heads f) refl

-- Both journals.

-- the other journal can take an entry still
before_still : (heads : List (Option FileHead)) (f n : ℕ) (tid : Id) (d e : Entry) → n ≡ length (spelled_entry f tid d) → MayEnter After f heads tid d → MayEnter Before f heads tid e → (o : Option FileHead) → head_at heads f ≡ o → MayEnter Before f (files_grown o f After n heads) tid e
before_still heads f n tid d e size first second None none = second
before_still heads f n tid d e size first second (Some h) there = kept h.marks.ai refl
  where
    kept : (k : Bool) → h.marks.ai ≡ k → MayEnter Before f (if k then slice_set heads f (Some (grown After n h)) else heads) tid e
    kept true on k there_too on_too =
        let placed : head_at (slice_set heads f (Some (grown After n h))) f ≡ Some (grown After n h) = get_or-set_same heads f (Some (grown After n h)) None (within_list heads f h there) in
        let same : grown After n h ≡ k = one (grown After n h) k (sym placed ∙ there_too) in
        let own : h.marks.bi ≡ true = ap (λ (x : FileHead). x.marks.bi) same ∙ on_too in
        let may = second h there own in
        let far = (first h there on).far in
        subst (λ (x : FileHead). MayGrow Before f x tid e) same (record {
          can = record { is = may.can.is; of = may.can.of; suited = may.can.suited; room = may.can.room };
          head = after_head h n may.head (subst (λ (x : ℕ). h.ai.end + x ≤ 2 ^ 62) (sym size) far);
          far = may.far;
        })
      where
        one : (x y : FileHead) → Some x ≡ Some y → x ≡ y
        one x y e = cc
    kept false off k there_too on_too = second k there_too on_too

pub enters_both : (c : List (List ℕ)) (area : Area) (heads : List (Option FileHead)) (directory : List (Option File)) (f : ℕ) (file : File) (tid : Id) (d e : Entry) → AreFitting c area heads directory → f < 64 → file_at directory f ≡ Some file →
    MayEnter After f heads tid d → MayEnter Before f heads tid e →
    Enters c heads (content_with_both f (spelled_entry f tid d) (spelled_entry f tid e) heads c) area (heads_with_both f (length (spelled_entry f tid d)) (length (spelled_entry f tid e)) heads)
    (slice_set directory f (Some (carrying (appended_to Before tid e (appended_to After tid d file.carried)) file)))
enters_both c area heads directory f file tid d e are low at first second =
    let middle = carrying (appended_to After tid d file.carried) file in
    let a = content_with f After (spelled_entry f tid d) heads c in
    let old = heads_with f After (length (spelled_entry f tid d)) heads in
    let b = content_with_both f (spelled_entry f tid d) (spelled_entry f tid e) heads c in
    let new = heads_with_both f (length (spelled_entry f tid d)) (length (spelled_entry f tid e)) heads in
    let one = enters_side c area heads directory f file After tid d are low at first in
    let there : file_at (slice_set directory f (Some middle)) f ≡ Some middle = get_or-set_same directory f (Some middle) None (within_list directory f file at) in
    let two = enters_side a area old (slice_set directory f (Some middle)) f middle Before tid e one.fitting low there (before_still heads f (length (spelled_entry f tid d)) tid d e refl first second (head_at heads f) refl) in
    record {
      fitting = subst (AreFitting b area new) (set_twice directory f (Some middle) (Some (carrying (appended_to Before tid e (appended_to After tid d file.carried)) file))) two.fitting;
      dressed = all_after c a b heads old new one.dressed two.dressed;
      size = two.size ∙ one.size;
      front = λ k side near. two.front k side near ∙ one.front k side near;
      tells = tells_after c a b heads old new one.tells two.tells;
      sound = sound_after heads old new one.sound two.sound;
    }

pub enters_change : EntersChange
enters_change c area heads directory f file tid serial change are low at first second = enters_both c area heads directory f file tid (after_image serial change) (before_image serial change) are low at first second
