-- What entries at the ends of journals leave of files and of stores.
use Rattle.std.proofs.Common.{◌≡◌, ◌≢◌, ◌∙◌, ℕ, zero, suc, ◌+◌, ◌<◌, ◌≤◌, Bool, true, false, List, [], ◌∷◌, Option, Some, None, length, option_map, slice_set, refl, sym, ap, subst, arith, get_or-set_other, if◌then◌else◌}
use Rattle.std.specs.Prelude.{Result, Err, drop, slice_index_or}
use Rattle.std.proofs.lemmas.List.{at_drop_all, at_drop_more, get_or-set_same}
use Rattle.block_disk.specs.Disk.{DiskState}
use Rattle.careful_write.specs.Reads.{SameButReads}
use Rattle.careful_write.specs.State.{StoreState}
use Rattle.careful_write.specs.declared.down.Down.{Down}
use Rattle.unit_journal.specs.change_set.Files.{fell}
use Rattle.file_base.specs.declared.head.FileHead.{FileHead}
use Rattle.file_base.specs.declared.head.Span.{Span}
use Rattle.journal_format.proofs.Decoding.{total_is}
use Rattle.journal_format.specs.journal_model.Entries.{IsEntry, spelling}
use Rattle.unit_journal.specs.Entries.{change_entry}
use Rattle.unit_journal.specs.Leaving.{FellIn}
use Rattle.unit_journal.specs.Room.{entry_size}
use Rattle.vms_base.specs.vms_model.Ids.{Id}
use Rattle.vms_base.specs.vms_model.Keys.{Key}
use Rattle.volume.specs.Catalogs.{head_at}
use Rattle.volume.specs.State.{VolumeState}
use Rattle.image_appends.specs.declared.side.Side.{Side}
use Rattle.image_appends.specs.declared.side.Side.TheVariants.{After, Before}
use Rattle.image_appends.specs.Images.{FellPast, FileHasRoom, HasRoom, files_grown, grown, heads_with, heads_with_both, is_kept, span_of}
use Rattle.image_appends.specs.Settling.{content_from, content_if, files_in, heads_from, heads_if, one_if}

-- one group of staged blocks after the other
pub rest_on : (a b c : StoreState) → SameButReads (record a { current = b.current; touched = b.touched }) b → SameButReads (record b { current = c.current; touched = c.touched }) c → SameButReads (record a { current = c.current; touched = c.touched }) c
rest_on a b c first second = second ∙ (λ i. record (first i) { current = c.current; touched = c.touched; reads = c.reads })

pub rest_self : (a b : StoreState) → b ≡ a → SameButReads (record a { current = b.current; touched = b.touched }) b
rest_self a b same = λ i. record (same i) { current = b.current; touched = b.touched; reads = b.reads }

pub disk_so : (a b : StoreState) → SameButReads (record a { current = b.current; touched = b.touched }) b → b.disk ≡ a.disk
disk_so a b rest = ap (λ (s : StoreState). s.disk) rest

pub both_maps : (f g : List (List ℕ) → List (List ℕ)) (o : Option (List (List ℕ))) → option_map f (option_map g o) ≡ option_map (λ c. f (g c)) o
both_maps f g None = refl
both_maps f g (Some c) = refl

pub map_self : (o : Option (List (List ℕ))) → option_map (λ (c : List (List ℕ)). c) o ≡ o
map_self None = refl
map_self (Some c) = refl

-- there is a file of this number
pub below_length : (heads : List (Option FileHead)) (file : ℕ) (h : FileHead) → head_at heads file ≡ Some h → file < length heads
below_length [] file h is = let no_way : ⊥ = cc in absurd no_way
below_length (x ∷ xs) zero h is = omega arith
below_length (x ∷ xs) (suc file) h is = let rest = below_length xs file h is in omega (arith, rest)

-- The other files stay.

pub others_grown : (o : Option FileHead) (file g : ℕ) (side : Side) (size : ℕ) (heads : List (Option FileHead)) → g ≢ file → head_at (files_grown o file side size heads) g ≡ head_at heads g
others_grown None file g side size heads other = refl
others_grown (Some h) file g side size heads other = by_mark (is_kept side h)
  where
    by_mark : (b : Bool) → head_at (if b then slice_set heads file (Some (grown side size h)) else heads) g ≡ head_at heads g
    by_mark true = get_or-set_other heads file g (Some (grown side size h)) None other
    by_mark false = refl

pub others_both : (file g after before : ℕ) (heads : List (Option FileHead)) → g ≢ file → head_at (heads_with_both file after before heads) g ≡ head_at heads g
others_both file g after before heads other =
    let mid = heads_with file After after heads in
    others_grown (head_at mid file) file g Before before mid other ∙ others_grown (head_at heads file) file g After after heads other

-- The journal of before images stays where the other grows.

module _ (heads : List (Option FileHead)) (file size : ℕ) where
  -- the file has the same journal of before images
  abbrev pub SameBefores : FileHead → Type 0
  SameBefores new = (h : FileHead) × (head_at heads file ≡ Some h) × (is_kept Before h ≡ is_kept Before new) × (span_of Before h ≡ span_of Before new)

  same_of : (o : Option FileHead) → head_at heads file ≡ o → (new : FileHead) → head_at (files_grown o file After size heads) file ≡ Some new → SameBefores new
  same_of None is new at = (new, at, refl, refl)
  same_of (Some h) is new at = by_mark (is_kept After h) at
    where
      by_mark : (b : Bool) → head_at (if b then slice_set heads file (Some (grown After size h)) else heads) file ≡ Some new → SameBefores new
      by_mark false at = (new, at, refl, refl)
      by_mark true at =
          let grew : Some (grown After size h) ≡ Some new = sym (get_or-set_same heads file (Some (grown After size h)) None (below_length heads file h is)) ∙ at in
          let same : grown After size h ≡ new = some_same (grown After size h) new grew in
          (h, is, ap (λ (x : FileHead). x.marks.bi) same, ap (λ (x : FileHead). x.bi) same)
        where
          some_same : (a b : FileHead) → Some a ≡ Some b → a ≡ b
          some_same a b e = cc

  pub befores_stay : (other : ℕ) (disk : DiskState) → FileHasRoom Before other file heads disk → FileHasRoom Before other file (heads_with file After size heads) disk
  befores_stay other disk room new at kept =
      let s = same_of (head_at heads file) refl new at in
      subst (λ (x : Span). HasRoom other x disk) s.3 (room s.0 s.1 (s.2 ∙ kept))

-- The files from a number on.

pub content_next : (files : List Bool) (i : ℕ) (bytes : List ℕ) (heads : List (Option FileHead)) (c : List (List ℕ)) (takes : Bool) → i < length files → slice_index_or files i false ≡ takes →
    content_from i (drop i files) bytes heads c ≡ content_from (i + 1) (drop (i + 1) files) bytes (heads_if takes i (length bytes) heads) (content_if takes i bytes heads c)
content_next files i bytes heads c takes within is =
    at_drop_more (λ (fs : List Bool). content_from i fs bytes heads c) files i false within
    ∙ (λ k. content_from (next k) (drop (i + 1) files) bytes (heads_if (is k) i (length bytes) heads) (content_if (is k) i bytes heads c))
  where
    next : suc i ≡ i + 1
    next = omega arith

pub heads_next : (files : List Bool) (i size : ℕ) (heads : List (Option FileHead)) (takes : Bool) → i < length files → slice_index_or files i false ≡ takes →
    heads_from i (drop i files) size heads ≡ heads_from (i + 1) (drop (i + 1) files) size (heads_if takes i size heads)
heads_next files i size heads takes within is =
    at_drop_more (λ (fs : List Bool). heads_from i fs size heads) files i false within ∙ (λ k. heads_from (next k) (drop (i + 1) files) size (heads_if (is k) i size heads))
  where
    next : suc i ≡ i + 1
    next = omega arith

pub count_next : (files : List Bool) (i : ℕ) (takes : Bool) → i < length files → slice_index_or files i false ≡ takes → files_in (drop i files) ≡ one_if takes + files_in (drop (i + 1) files)
count_next files i takes within is = at_drop_more files_in files i false within ∙ (λ k. one_if (is k) + files_in (drop (i + 1) files))

pub others_if : (takes : Bool) (file g size : ℕ) (heads : List (Option FileHead)) → g ≢ file → head_at (heads_if takes file size heads) g ≡ head_at heads g
others_if true file g size heads other = others_both file g size size heads other
others_if false file g size heads other = refl

-- nothing is left behind the last file
pub content_last : (files : List Bool) (i : ℕ) (bytes : List ℕ) (heads : List (Option FileHead)) (o : Option (List (List ℕ))) → length files ≤ i → option_map (content_from i (drop i files) bytes heads) o ≡ o
content_last files i bytes heads None past = refl
content_last files i bytes heads (Some c) past = ap (λ (x : List (List ℕ)). Some x) (at_drop_all (λ (fs : List Bool). content_from i fs bytes heads c) files i past)

pub content_all : (files : List Bool) (i : ℕ) (bytes : List ℕ) (heads : List (Option FileHead)) (o : Option (List (List ℕ))) (takes : Bool) → i < length files → slice_index_or files i false ≡ takes →
    option_map (content_from i (drop i files) bytes heads) o ≡ option_map (content_from (i + 1) (drop (i + 1) files) bytes (heads_if takes i (length bytes) heads)) (option_map (content_if takes i bytes heads) o)
content_all files i bytes heads None takes within is = refl
content_all files i bytes heads (Some c) takes within is = ap (λ (x : List (List ℕ)). Some x) (content_next files i bytes heads c takes within is)

-- Where the disk goes down.

pub fell_first : (down : Down) (v w : VolumeState) → FellIn down v w → FellPast down v w
fell_first down v w is = record { store = λ i. (is i).store; catalog = ap (λ (x : VolumeState). x.catalog) is ∙ (λ i. record v.catalog { heads = sym (ap (λ (x : VolumeState). x.catalog.heads) is) i }) }

pub fell_later : (down : Down) (v m w : VolumeState) (heads : List (Option FileHead)) → SameButReads (record v.store { current = m.store.current; touched = m.store.touched }) m.store → m.catalog ≡ record v.catalog { heads = heads } → FellPast down m w → FellPast down v w
fell_later down v m w heads rest catalog past = record {
  store = past.store ∙ (λ i. let r : Result (Unit {0}) Down = Err down in record (fell r (rest i)) { reads = w.store.reads });
  catalog = past.catalog ∙ (λ i. record (catalog i) { heads = w.catalog.heads });
}

-- the bytes of the entry of a change
pub change_long : (tid serial : Id) (file : ℕ) (key : Key) (image : Option (List ℕ)) → IsEntry (change_entry tid serial file key image) → length (spelling (change_entry tid serial file key image)) ≡ entry_size key image
change_long tid serial file key image is = total_is (change_entry tid serial file key image) is
