-- That a block is the directory block of an entry, and of one that fits, can be decided.
use Rattle.std.proofs.Common.{◌≡◌, ◌⊎◌, inl, inr, ℕ, ◌<◌, ◌≤◌, ◌+◌, ◌%◌, ◌/◌, ◌^◌, List, [], ◌∷◌, Bool, Option, Some, None, length, set, replicate, refl, sym, ap, subst, ◌∙◌, zero, suc, arith, length-set}
use Rattle.std.specs.Prelude.{if◌then◌else◌, ◌==◌}
use Rattle.std.proofs.lemmas.List.{length-replicate}
use Rattle.careful_write.specs.block_disk.Blocks.{block_at}
use Rattle.file_base.specs.vms_model.Names.{file_named}
use Rattle.file_base.specs.vms_base.Ids.{until_zero}
use Rattle.file_base.specs.Bytes.{piece_at}
use Rattle.file_base.specs.declared.head.FileHead.{FileHead}
use Rattle.file_base.specs.declared.head.Marks.{Marks}
use Rattle.file_base.specs.declared.head.Organization.{Organization}
use Rattle.file_base.specs.declared.head.Organization.TheVariants as organization
use Rattle.file_base.specs.declared.head.Save.{Save}
use Rattle.file_base.specs.declared.head.Span.{Span}
use Rattle.volume_format.specs.Layout.{AllStand}
use Rattle.volume_format.specs.Head.{IsForm, IsExtent, IsSpan, IsSave, IsHead, IsEntry, entry_block, head_rows, span_rows, save_rows, marks_number, organization_number}
use Rattle.volume_format.proofs.Heads.{marks_read, head_stands, head_parts, same_span, same_save, same_head}
use Rattle.volume_format.proofs.Names.{until_padded}
use Rattle.volume.specs.Limits.{EntryFits}
use Rattle.volume.specs.Catalogs.{TellsEntry, IsNew, entry_of}
use Rattle.volume.specs.Load.{EntryFound, EntryMisses, HeadsFound}
use Rattle.volume.proofs.Entries.{some_same, heads_more}
use Rattle.volume.proofs.Deciding.{Decided, alike, both, less, same_list, same_text}
use Rattle.volume.proofs.LimitsDecided.{entry_fits, is_new}
use Rattle.volume.proofs.HomesDecided.{byte_in, short_in, word_in, long_in, byte_read, short_read, word_read, long_read}

organization_in : ℕ → Organization
organization_in n = if n == 1 then organization.Sequential else (if n == 2 then organization.Relative else organization.Indexed)

organization_read : (o : Organization) → organization_in (organization_number o) ≡ o
unfolding organization_in
organization_read organization.Sequential = refl
organization_read organization.Relative = refl
organization_read organization.Indexed = refl

marks_in : ℕ → Marks
marks_in n = record { ru = n % 2 == 1; ai = n / 2 % 2 == 1; bi = n / 4 % 2 == 1; save = n / 8 % 2 == 1 }

same_marks : (m : Marks) (ru ai bi save : Bool) → ru ≡ m.ru → ai ≡ m.ai → bi ≡ m.bi → save ≡ m.save → record { ru = ru; ai = ai; bi = bi; save = save } ≡ m
same_marks m ru ai bi save r a b s = rw (r, a, b, s) refl

marks_told : (m : Marks) (n : ℕ) → n ≡ marks_number m → marks_in n ≡ m
unfolding marks_in
marks_told m n is = let r = marks_read m.ru m.ai m.bi m.save n is in same_marks m _ _ _ _ r.0.0 r.0.1 r.1.0 r.1.1

span_in : List ℕ → ℕ → Span
span_in block at = record { start = word_in block at; blocks = word_in block (at + 4); first = long_in block (at + 8); end = long_in block (at + 16) }

span_read : (block : List ℕ) (at : ℕ) (s : Span) → IsSpan s → AllStand block (span_rows at s) → span_in block at ≡ s
unfolding span_in
span_read block at s is all = same_span s _ _ _ _
    (word_read block at s.start is.start all.0)
    (word_read block (at + 4) s.blocks is.blocks all.1.0)
    (long_read block (at + 8) s.first is.first all.1.1.0)
    (long_read block (at + 16) s.end is.end all.1.1.1.0)

save_in : List ℕ → Save
save_in block = record {
  start = word_in block 136;
  alloc = word_in block 140;
  position = long_in block 144;
  moment = record { 0 = long_in block 152 };
  used = word_in block 160;
  root = word_in block 164;
  levels = word_in block 168;
  count = word_in block 172;
}

save_read : (block : List ℕ) (s : Save) → IsSave s → AllStand block (save_rows s) → save_in block ≡ s
unfolding save_in
save_read block s is all = same_save s _ _ _ _ _ _ _ _
    (word_read block 136 s.start is.start all.0)
    (word_read block 140 s.alloc is.alloc all.1.0)
    (long_read block 144 s.position is.position all.1.1.0)
    (long_read block 152 s.moment.0 is.moment all.1.1.1.0)
    (word_read block 160 s.used is.used all.1.1.1.1.0)
    (word_read block 164 s.root is.root all.1.1.1.1.1.0)
    (word_read block 168 s.levels is.levels all.1.1.1.1.1.1.0)
    (word_read block 172 s.count is.count all.1.1.1.1.1.1.1.0)

-- the file that a directory block tells, if it tells one
head_in : List ℕ → FileHead
head_in block = record {
  name = until_zero (piece_at block 4 40);
  organization = organization_in (byte_in block 1);
  marks = marks_in (byte_in block 2);
  bucket = short_in block 44;
  mrs = short_in block 46;
  mrn = word_in block 48;
  key_pos = short_in block 52;
  key_size = short_in block 54;
  start = word_in block 56;
  alloc = word_in block 60;
  used = word_in block 64;
  root = word_in block 68;
  levels = word_in block 72;
  count = word_in block 76;
  ai = span_in block 80;
  bi = span_in block 104;
  bi_since = record { 0 = long_in block 128 };
  save = save_in block;
}

head_one : (block : List ℕ) (h : FileHead) → IsHead h → AllStand block (head_rows h) → head_in block ≡ h
unfolding head_in
head_one block h is all =
    let p = head_parts h block all in
    let after_name = p.form.1.1.1.1.1 in
    some_same _ _ (same_head h _ _ _ _ _ _ _ _ _ _ _ _ _ _ _ _ _ _
    (ap Some (ap until_zero p.form.1.1.1.1.0 ∙ until_padded 40 39 (95 ∷ 36 ∷ 46 ∷ []) h.name refl is.form.name))
    (ap Some (ap organization_in (byte_read block 1 _ p.form.1.0) ∙ organization_read h.organization))
    (marks_told h.marks _ (byte_read block 2 _ p.form.1.1.0))
    (short_read block 44 h.bucket is.form.bucket after_name.0)
    (short_read block 46 h.mrs is.form.mrs after_name.1.0)
    (word_read block 48 h.mrn is.form.mrn after_name.1.1.0)
    (short_read block 52 h.key_pos is.form.key_pos after_name.1.1.1.0)
    (short_read block 54 h.key_size is.form.key_size after_name.1.1.1.1.0)
    (word_read block 56 h.start is.extent.start p.extent.0)
    (word_read block 60 h.alloc is.extent.alloc p.extent.1.0)
    (word_read block 64 h.used is.extent.used p.extent.1.1.0)
    (word_read block 68 h.root is.extent.root p.extent.1.1.1.0)
    (word_read block 72 h.levels is.extent.levels p.extent.1.1.1.1.0)
    (word_read block 76 h.count is.extent.count p.extent.1.1.1.1.1.0)
    (span_read block 80 h.ai is.ai p.ai)
    (span_read block 104 h.bi is.bi p.bi)
    (long_read block 128 h.bi_since.0 is.bi_since p.bi_since.0)
    (save_read block h.save is.save p.save))

-- the entry that a directory block tells, if it tells one
entry_in : List ℕ → Option FileHead
entry_in block = if byte_in block 0 == 0 then None else Some (head_in block)

entry_one : (block : List ℕ) (o : Option FileHead) → TellsEntry block o → entry_in block ≡ o
unfolding entry_in
entry_one block None tells = rw (byte_read block 0 0 (ap (λ b. piece_at b 0 1) (sym tells.bytes) ∙ refl)) refl
entry_one block (Some h) tells =
    let stands = head_stands h block tells.ranges tells.bytes in
    rw (byte_read block 0 1 (head_parts h block stands).form.0) (ap Some (head_one block h tells.ranges stands))

is_form : (h : FileHead) → Decided (IsForm h)
is_form h = alike (both (same_text (file_named h.name) (Some h.name)) (both (less h.bucket (2 ^ 16)) (both (less h.mrs (2 ^ 16)) (both (less h.mrn (2 ^ 32)) (both (less h.key_pos (2 ^ 16)) (less h.key_size (2 ^ 16)))))))
    (λ p. record { name = p.0; bucket = p.1.0; mrs = p.1.1.0; mrn = p.1.1.1.0; key_pos = p.1.1.1.1.0; key_size = p.1.1.1.1.1 })
    (λ r. (r.name, (r.bucket, (r.mrs, (r.mrn, (r.key_pos, r.key_size))))))

is_extent : (h : FileHead) → Decided (IsExtent h)
is_extent h = alike (both (less h.start (2 ^ 32)) (both (less h.alloc (2 ^ 32)) (both (less h.used (2 ^ 32)) (both (less h.root (2 ^ 32)) (both (less h.levels (2 ^ 32)) (less h.count (2 ^ 32)))))))
    (λ p. record { start = p.0; alloc = p.1.0; used = p.1.1.0; root = p.1.1.1.0; levels = p.1.1.1.1.0; count = p.1.1.1.1.1 })
    (λ r. (r.start, (r.alloc, (r.used, (r.root, (r.levels, r.count))))))

is_span : (s : Span) → Decided (IsSpan s)
is_span s = alike (both (less s.start (2 ^ 32)) (both (less s.blocks (2 ^ 32)) (both (less s.first (2 ^ 64)) (less s.end (2 ^ 64))))) (λ p. record { start = p.0; blocks = p.1.0; first = p.1.1.0; end = p.1.1.1 }) (λ r. (r.start, (r.blocks, (r.first, r.end))))

is_save : (s : Save) → Decided (IsSave s)
is_save s = alike
    (both (less s.start (2 ^ 32)) (both (less s.alloc (2 ^ 32)) (both (less s.position (2 ^ 64)) (both (less s.moment.0 (2 ^ 64)) (both (less s.used (2 ^ 32)) (both (less s.root (2 ^ 32)) (both (less s.levels (2 ^ 32)) (less s.count (2 ^ 32)))))))))
    (λ p. record { start = p.0; alloc = p.1.0; position = p.1.1.0; moment = p.1.1.1.0; used = p.1.1.1.1.0; root = p.1.1.1.1.1.0; levels = p.1.1.1.1.1.1.0; count = p.1.1.1.1.1.1.1 })
    (λ r. (r.start, (r.alloc, (r.position, (r.moment, (r.used, (r.root, (r.levels, r.count))))))))

is_head : (h : FileHead) → Decided (IsHead h)
is_head h = alike (both (is_form h) (both (is_extent h) (both (is_span h.ai) (both (is_span h.bi) (both (less h.bi_since.0 (2 ^ 64)) (is_save h.save))))))
    (λ p. record { form = p.0; extent = p.1.0; ai = p.1.1.0; bi = p.1.1.1.0; bi_since = p.1.1.1.1.0; save = p.1.1.1.1.1 })
    (λ r. (r.form, (r.extent, (r.ai, (r.bi, (r.bi_since, r.save))))))

is_entry : (o : Option FileHead) → Decided (IsEntry (entry_of o))
is_entry None = inl tt
is_entry (Some h) = is_head h

tells_entry : (block : List ℕ) (o : Option FileHead) → Decided (TellsEntry block o)
tells_entry block o = alike (both (is_entry o) (same_list (entry_block (entry_of o)) block)) (λ p. record { ranges = p.0; bytes = p.1 }) (λ r. (r.ranges, r.bytes))

-- a directory block is that of an entry that fits under a new name, or of none
module _ (greatest : ℕ) (heads : List (Option FileHead)) (f : ℕ) (block : List ℕ) where
  Suits : Option FileHead → Type 0
  Suits o = TellsEntry block o × (EntryFits greatest o × IsNew heads f o)

  found : Suits (entry_in block) → EntryFound greatest heads f block (entry_in block)
  unfolding Suits
  found s = record { tells = s.0; one = λ other tells. sym (entry_one block other tells); fits = s.1.0; new = s.1.1 }

  missed : (Suits (entry_in block) → ⊥) → EntryMisses greatest heads f block
  unfolding Suits
  missed none o tells fits new = none (subst Suits (sym (entry_one block o tells)) (tells, (fits, new)))

  suited : Decided (Suits (entry_in block))
  unfolding Suits
  suited = both (tells_entry block (entry_in block)) (both (entry_fits greatest (entry_in block)) (is_new heads f (entry_in block)))

  entry_tried : ((o : Option FileHead) × EntryFound greatest heads f block o) ⊎ EntryMisses greatest heads f block
  entry_tried = elim suited [ inl s ↦ inl (entry_in block, found s) | inr none ↦ inr (missed none) ]

-- the first entries of a directory were found
pub record Read (greatest : ℕ) (content : List (List ℕ)) (count : ℕ) : Type 0 where
  pub heads : List (Option FileHead)
  pub long : length heads ≡ 64
  pub found : HeadsFound greatest heads count content

-- there is a lowest entry that was not found
pub record Stopped (greatest : ℕ) (content : List (List ℕ)) : Type 0 where
  pub heads : List (Option FileHead)
  pub at : ℕ
  pub within : at < 64
  pub found : HeadsFound greatest heads at content
  pub misses : EntryMisses greatest heads at (block_at content (1 + at))

-- one entry more
one_more : (greatest : ℕ) (content : List (List ℕ)) (n : ℕ) → n < 64 → Read greatest content n → Read greatest content (suc n) ⊎ Stopped greatest content
one_more greatest content n within r = elim (entry_tried greatest r.heads n (block_at content (1 + n))) [
  | inl here ↦ let long = r.long in
      let more = heads_more greatest r.heads n content here.0 (omega arith) r.found here.1 in
      inl (record { heads = set r.heads n here.0; long = length-set r.heads n here.0 ∙ long; found = λ k below. more k (omega arith) })
  | inr misses ↦ inr (record { heads = r.heads; at = n; within = within; found = r.found; misses = misses })
]

-- all entries of a directory are found, or there is a lowest that is not
pub heads_tried : (greatest : ℕ) (content : List (List ℕ)) (count : ℕ) → count ≤ 64 → Read greatest content count ⊎ Stopped greatest content
heads_tried greatest content zero few = inl (record { heads = replicate 64 None; long = length-replicate {A = Option FileHead} 64 None; found = λ k below. absurd (omega arith) })
heads_tried greatest content (suc n) few = elim (heads_tried greatest content n (omega arith)) [
  | inl read ↦ one_more greatest content n (omega arith) read
  | inr stopped ↦ inr stopped
]
