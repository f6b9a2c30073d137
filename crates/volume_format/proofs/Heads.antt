-- The directory block is read as it was written.
use Rattle.std.proofs.Common.{◌≡◌, ◌≢◌, ℕ, ◌+◌, ◌%◌, ◌/◌, ◌++◌, List, [], ◌∷◌, Bool, arith, true, false, refl, ◌∙◌, ap, sym, Some, Option, replicate, subst, option_map}
use Rattle.std.specs.Prelude.{if◌then◌else◌, ◌==◌}
use Rattle.std.proofs.lemmas.List.{length-replicate}
use Rattle.file_base.specs.declared.head.FileHead.{FileHead}
use Rattle.volume_format.specs.declared.head.DirectoryEntry.{DirectoryEntry}
use Rattle.volume_format.specs.declared.head.DirectoryEntry.TheVariants as entry
use Rattle.file_base.specs.declared.head.Marks.{Marks}
use Rattle.file_base.specs.declared.head.Span.{Span}
use Rattle.file_base.specs.declared.head.Save.{Save}
use Rattle.file_base.specs.declared.head.Organization.{Organization}
use Rattle.file_base.specs.Bytes.{piece_at}
use Rattle.volume_format.specs.Layout.{number_64, laid, AllWide, AllStand}
use Rattle.volume_format.specs.Head.{head_rows, form_rows, extent_rows, span_rows, save_rows, IsHead, IsEntry, head_block_of, entry_block}
use Rattle.volume_format.proofs.Splices.{laid_stand, laid_parts, stand_parts}
use Rattle.volume_format.proofs.Names.{length-padded}

-- the marks of their number
pub marks_read : (ru ai bi save : Bool) (n : ℕ) → n ≡ (if ru then 1 else 0) + (if ai then 2 else 0) + (if bi then 4 else 0) + (if save then 8 else 0)
    → (((n % 2 == 1) ≡ ru) × ((n / 2 % 2 == 1) ≡ ai)) × (((n / 4 % 2 == 1) ≡ bi) × ((n / 8 % 2 == 1) ≡ save))
marks_read false false false false n is = rw is ((refl, refl), (refl, refl))
marks_read true false false false n is = rw is ((refl, refl), (refl, refl))
marks_read false true false false n is = rw is ((refl, refl), (refl, refl))
marks_read true true false false n is = rw is ((refl, refl), (refl, refl))
marks_read false false true false n is = rw is ((refl, refl), (refl, refl))
marks_read true false true false n is = rw is ((refl, refl), (refl, refl))
marks_read false true true false n is = rw is ((refl, refl), (refl, refl))
marks_read true true true false n is = rw is ((refl, refl), (refl, refl))
marks_read false false false true n is = rw is ((refl, refl), (refl, refl))
marks_read true false false true n is = rw is ((refl, refl), (refl, refl))
marks_read false true false true n is = rw is ((refl, refl), (refl, refl))
marks_read true true false true n is = rw is ((refl, refl), (refl, refl))
marks_read false false true true n is = rw is ((refl, refl), (refl, refl))
marks_read true false true true n is = rw is ((refl, refl), (refl, refl))
marks_read false true true true n is = rw is ((refl, refl), (refl, refl))
marks_read true true true true n is = rw is ((refl, refl), (refl, refl))

-- each field is as wide as the table says
pub head_wide : (h : FileHead) → IsHead h → AllWide (head_rows h)
unfolding head_rows
head_wide h is =
    (refl, (refl, (refl, (refl, (length-padded 40 39 (95 ∷ 36 ∷ 46 ∷ []) h.name (omega arith) is.form.name, (refl, (refl, (refl, (refl, (refl, (refl, (refl, (refl, (refl, (refl, (refl, (refl, (refl, (refl, (refl, (refl, (refl, (refl, (refl, (refl, (refl, (refl, (refl, (refl, (refl, (refl, (refl, (refl, tt)))))))))))))))))))))))))))))))))

-- each field of a file stands in its directory block
pub head_stands : (h : FileHead) (block : List ℕ) → IsHead h → head_block_of h ≡ block → AllStand block (head_rows h)
unfolding head_rows
head_stands h block is has = subst (λ b. AllStand b (head_rows h)) has (laid_stand 0 (head_rows h) (replicate {A = ℕ} 512 0) refl (head_wide h is) (length-replicate {A = ℕ} 512 0))

-- the parts of the table
pub record Parts (block : List ℕ) (h : FileHead) : Type 0 where
  pub form : AllStand block (form_rows h)
  pub extent : AllStand block (extent_rows h)
  pub ai : AllStand block (span_rows 80 h.ai)
  pub bi : AllStand block (span_rows 104 h.bi)
  pub bi_since : AllStand block (number_64 128 h.bi_since.0 ∷ [])
  pub save : AllStand block (save_rows h.save)

pub head_parts : (h : FileHead) (block : List ℕ) → AllStand block (head_rows h) → Parts block h
unfolding head_rows
head_parts h block all =
    let since = number_64 128 h.bi_since.0 ∷ save_rows h.save in
    let bi = span_rows 104 h.bi ++ since in
    let ai = span_rows 80 h.ai ++ bi in
    let a = stand_parts block (form_rows h) (extent_rows h ++ ai) all in
    let b = stand_parts block (extent_rows h) ai a.1 in
    let d = stand_parts block (span_rows 80 h.ai) bi b.1 in
    let e = stand_parts block (span_rows 104 h.bi) since d.1 in
    record { form = a.0; extent = b.0; ai = d.0; bi = e.0; bi_since = (e.1.0, tt); save = e.1.1 }

-- the parts of a file's block, written one behind the other
pub head_written : (h : FileHead) (b0 b1 b2 b3 b4 b5 b6 : List ℕ) → b1 ≡ laid (form_rows h) b0 → b2 ≡ laid (extent_rows h) b1 → b3 ≡ laid (span_rows 80 h.ai) b2 → b4 ≡ laid (span_rows 104 h.bi) b3
    → b5 ≡ laid (number_64 128 h.bi_since.0 ∷ []) b4 → b6 ≡ laid (save_rows h.save) b5 → b6 ≡ laid (head_rows h) b0
unfolding head_rows
head_written h b0 b1 b2 b3 b4 b5 b6 form extent ai bi since save =
    let after_bi = number_64 128 h.bi_since.0 ∷ save_rows h.save in
    let after_ai = span_rows 104 h.bi ++ after_bi in
    let after_extent = span_rows 80 h.ai ++ after_ai in
    let after_form = extent_rows h ++ after_extent in
    let e4 : b6 ≡ laid after_bi b4 = save ∙ ap (laid (save_rows h.save)) since in
    let e3 : b6 ≡ laid after_ai b3 = e4 ∙ ap (laid after_bi) bi ∙ sym (laid_parts (span_rows 104 h.bi) after_bi b3) in
    let e2 : b6 ≡ laid after_extent b2 = e3 ∙ ap (laid after_ai) ai ∙ sym (laid_parts (span_rows 80 h.ai) after_ai b2) in
    let e1 : b6 ≡ laid after_form b1 = e2 ∙ ap (laid after_extent) extent ∙ sym (laid_parts (extent_rows h) after_extent b1) in
    e1 ∙ ap (laid after_form) form ∙ sym (laid_parts (form_rows h) after_form b0)

-- what is read of the parts is these parts
pub same_span : (s : Span) (start blocks first end : ℕ) → start ≡ s.start → blocks ≡ s.blocks → first ≡ s.first → end ≡ s.end
    → record { start = start; blocks = blocks; first = first; end = end } ≡ s
same_span s start blocks first end a b f e = rw (a, b, f, e) refl

pub same_save : (s : Save) (start alloc position moment used root levels count : ℕ) → start ≡ s.start → alloc ≡ s.alloc → position ≡ s.position → moment ≡ s.moment.0 → used ≡ s.used → root ≡ s.root → levels ≡ s.levels → count ≡ s.count
    → record { start = start; alloc = alloc; position = position; moment = record { 0 = moment }; used = used; root = root; levels = levels; count = count } ≡ s
same_save s start alloc position moment used root levels count a b d e f g i j = rw (a, b, d, e, f, g, i, j) refl

pub same_head : (h : FileHead) (name : List ℕ) (organization : Organization) (marks : Marks) (bucket mrs mrn key_pos key_size start alloc used root levels count : ℕ) (ai bi : Span) (bi_since : ℕ) (save : Save)
    → Some name ≡ Some h.name → Some organization ≡ Some h.organization → marks ≡ h.marks → bucket ≡ h.bucket → mrs ≡ h.mrs → mrn ≡ h.mrn → key_pos ≡ h.key_pos → key_size ≡ h.key_size
    → start ≡ h.start → alloc ≡ h.alloc → used ≡ h.used → root ≡ h.root → levels ≡ h.levels → count ≡ h.count → ai ≡ h.ai → bi ≡ h.bi → bi_since ≡ h.bi_since.0 → save ≡ h.save
    → Some (record { name = name; organization = organization; marks = marks; bucket = bucket; mrs = mrs; mrn = mrn; key_pos = key_pos; key_size = key_size; start = start; alloc = alloc; used = used; root = root; levels = levels; count = count; ai = ai; bi = bi; bi_since = record { 0 = bi_since }; save = save }) ≡ Some h
same_head h name organization marks bucket mrs mrn key_pos key_size start alloc used root levels count ai bi bi_since save n o m a b d e f g i j k l q r s t u =
    let n2 : name ≡ h.name = cc in
    let o2 : organization ≡ h.organization = cc in
    rw (n2, o2, m, a, b, d, e, f, g, i, j, k, l, q, r, s, t, u) refl

-- the first byte of a directory block
pub first_byte : DirectoryEntry → ℕ
first_byte entry.Free = 0
first_byte (entry.File h) = 1

pub entry_first : (e : DirectoryEntry) (block : List ℕ) → IsEntry e → entry_block e ≡ block → piece_at block 0 1 ≡ first_byte e ∷ []
unfolding first_byte
entry_first entry.Free block is has = ap (λ b. piece_at b 0 1) (sym has) ∙ refl
entry_first (entry.File h) block is has = (head_parts h block (head_stands h block is has)).form.0

-- a directory block that begins with zero is free
pub free_read : (e : DirectoryEntry) (n : ℕ) → n ≡ first_byte e → n ≡ 0 → Some entry.Free ≡ Some e
unfolding first_byte
free_read entry.Free n first zero = refl
free_read (entry.File h) n first zero = absurd (omega arith)

-- and another is a file's
pub file_read : (e : DirectoryEntry) (block : List ℕ) (n : ℕ) (found : Option FileHead) → IsEntry e → entry_block e ≡ block → n ≡ first_byte e → n ≢ 0
    → ((h : FileHead) → IsHead h → AllStand block (head_rows h) → found ≡ Some h) → option_map entry.File found ≡ Some e
unfolding first_byte
file_read entry.Free block n found is has first more one = absurd (more first)
file_read (entry.File h) block n found is has first more one = ap (option_map entry.File) (one h is (head_stands h block is has))
