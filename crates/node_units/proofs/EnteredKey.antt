-- An entry was entered behind the journal of a content: the ring, the files and the front of the new one.
use Rattle.std.proofs.Common.{◌≡◌, ℕ, ◌+◌, ◌-◌, ◌<◌, ◌≤◌, ◌++◌, List, [], ◌∷◌, Some, length, replicate, refl, sym, ◌∙◌, ap, subst, arith, inl, inr, length-set, get_or-set_same}
use Rattle.std.proofs.lemmas.List.{length-replicate}
use Rattle.std.specs.Prelude.{◌⊎◌}
use Rattle.block_disk.specs.Blocks.{block_at}
use Rattle.careful_write.specs.State.{EachWhole}
use Rattle.file_base.specs.declared.head.FileHead.{FileHead}
use Rattle.file_base.specs.declared.head.Span.{Span}
use Rattle.journal_model.specs.Entries.{Entry, IsEntry, spelling}
use Rattle.journal_model.specs.Ring.{IsJournal, KeepsOthers, put_stream, ring_size}
use Rattle.journal_store.proofs.Journals.{appended, keeps_others}
use Rattle.rms_units.specs.unit_journal.Spans.{entered, longer}
use Rattle.lmcp_log.specs.Keeping.{SameSlots}
use Rattle.volume.specs.declared.catalog.Catalog.{Catalog}
use Rattle.volume.specs.Catalogs.{IsSound, TellsCatalog, TellsEntry}
use Rattle.volume_format.specs.Home.{HasHome, HasRu, ru_block_of, ru_rows, sizes_of}
use Rattle.volume_format.proofs.Splices.{laid_again, laid_stand, length-laid}
use Rattle.unit_world.specs.directory_model.Files.{AgreesOnFile, head_at}
use Rattle.unit_world.proofs.directory_model.Apart.{writes_apart}
use Rattle.volume.specs.Limits.{data_area}
use Rattle.unit_world.proofs.file_images.Rings.{journal_stands}
use Rattle.unit_world.proofs.Blocks.{fit, other_block, whole_set}

abbrev Content : Type 0
Content = List (List ℕ)

pub ru_long : (s : Span) → length (ru_block_of s) ≡ 512
ru_long s = length-laid 0 (ru_rows s) (replicate {A = ℕ} 512 0) refl (refl, (refl, tt)) (length-replicate {A = ℕ} 512 0)

pub ru_written : (s : Span) → HasRu (ru_block_of s) s
ru_written s =
    let long : length (replicate {A = ℕ} 512 0) ≡ 512 = length-replicate {A = ℕ} 512 0 in
    laid_again 0 (ru_rows s) (ru_block_of s) refl (refl, (refl, tt)) (ru_long s) (laid_stand 0 (ru_rows s) (replicate {A = ℕ} 512 0) refl (refl, (refl, tt)) long)

module _ (node : List ℕ) (size : ℕ) (v : Catalog) (sound : IsSound node size v) (long : length v.heads ≡ 64) (b c : Content) (e : Entry) (is : c ≡ entered v.ru (spelling e) b) (es : List Entry) (j : IsJournal b v.ru es) (entry : IsEntry e)
    (room : v.ru.end - v.ru.first + length (spelling e) ≤ ring_size v.ru) where
  abbrev ru : Span
  ru = v.ru

  abbrev put : Content
  put = put_stream b ru ru.end (spelling e)

  abbrev after : Span
  after = longer (length (spelling e)) ru

  others : KeepsOthers ru b put
  others = keeps_others (spelling e) b ru ru.end j.ring.some

  behind_put : IsJournal put after (es ++ e ∷ [])
  behind_put = appended b ru es e j entry room

  whole : EachWhole c
  whole = subst EachWhole (sym is) (whole_set put 65 (ru_block_of after) behind_put.ring.whole (ru_long after))

  -- a block that is not the span's is what was put in
  put_at : (k : ℕ) → (k ≡ 65 → ⊥) → block_at c k ≡ block_at put k
  put_at k other = ap (λ (x : Content). block_at x k) is ∙ other_block put 65 k (ru_block_of after) other

  -- and outside of the ring it is as it was
  stands_at : (k : ℕ) → (k ≡ 65 → ⊥) → (k < ru.start - 518) ⊎ (ru.start - 518 + ru.blocks ≤ k) → block_at c k ≡ block_at b k
  stands_at k other out = put_at k other ∙ others.others k out

  -- the entry stands behind the others
  pub entered_journal : IsJournal c after (es ++ e ∷ [])
  entered_journal = journal_stands after put c (es ++ e ∷ []) behind_put record {
    size = ap length is ∙ length-set put 65 (ru_block_of after);
    whole = whole;
    blocks = λ k low high. put_at k (λ t. absurd (let start = sound.ru_start in omega (arith, t, low, start)));
  }

  -- the files stand
  pub entered_files : (f : ℕ) (h : FileHead) → head_at v.heads f ≡ Some h → AgreesOnFile h b c
  entered_files = writes_apart.before (data_area (sizes_of v.home)) v.heads b c (fit node size v sound long) (ap length is ∙ length-set put 65 (ru_block_of after) ∙ others.size) whole
      (λ k from. let start = sound.ru_start in let blocks = sound.ru_blocks in sym (stands_at k (λ t. absurd (omega (arith, t, from))) (inr (omega (arith, from, start, blocks)))))

  -- and the log
  pub entered_slots : (n : ℕ) → 584 + n ≤ ru.start → SameSlots n b c
  entered_slots n before i below = stands_at (66 + i) (λ t. absurd (omega (arith, t))) (inl (omega (arith, before, below)))

  -- and so does what the front tells, but for the span
  pub entered_tells : TellsCatalog v b → TellsCatalog (record v { ru = after }) c
  entered_tells tells = record {
    ranges = tells.ranges;
    home = subst (λ (x : List ℕ). HasHome x v.home) (sym (front 0 (λ t. absurd (omega (arith, t))) (omega arith))) tells.home;
    heads = λ f below. subst (λ (x : List ℕ). TellsEntry x (head_at v.heads f)) (sym (front (1 + f) (λ t. absurd (omega (arith, t, below))) (omega (arith, below)))) (tells.heads f below);
    ru = subst (λ (x : List ℕ). HasRu x after) (sym last) (ru_written after);
  }
    where
      front : (k : ℕ) → (k ≡ 65 → ⊥) → k < 66 → block_at c k ≡ block_at b k
      front k other low = stands_at k other (inl (let start = sound.ru_start in omega (arith, low, start)))

      last : block_at c 65 ≡ ru_block_of after
      last = ap (λ (x : Content). block_at x 65) is ∙ get_or-set_same put 65 (ru_block_of after) [] (let within = j.ring.within in let some = j.ring.some in let start = sound.ru_start in let alike = others.size in omega (arith, within, some, start, alike))
