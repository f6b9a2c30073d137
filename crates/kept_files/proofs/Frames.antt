-- Which blocks an entry in the journals of files leaves as they are.
use Rattle.std.proofs.Common.{◌≡◌, ◌≢◌, ℕ, suc, ◌+◌, ◌-◌, ◌<◌, ◌≤◌, Bool, true, false, List, [], ◌∷◌, Option, Some, None, length, slice_set, refl, sym, ap, subst, ◌∙◌, arith, get_or-set_other, if◌then◌else◌}
use Rattle.std.proofs.lemmas.List.{get_or-set_same}
use Rattle.std.specs.Prelude.{◌⊎◌, slice_index_or}
use Rattle.block_disk.specs.Blocks.{block_at}
use Rattle.file_base.specs.declared.head.FileHead.{FileHead}
use Rattle.file_base.specs.declared.head.Span.{Span}
use Rattle.journal_format.specs.journal_model.Entries.{Entry, spelling}
use Rattle.journal_format.specs.journal_model.Ring.{put_stream}
use Rattle.volume.specs.Catalogs.{head_at}
use Rattle.volume_format.specs.Head.{head_block_of}
use Rattle.file_settlements.proofs.unit_journal.Entered.{OthersStay}
use Rattle.file_settlements.specs.image_appends.declared.side.Side.{Side}
use Rattle.file_settlements.specs.image_appends.declared.side.Side.TheVariants.{After, Before}
use Rattle.file_settlements.specs.image_appends.Images.{content_grown, content_with, content_with_both, entered, files_grown, grown, heads_with, is_kept, span_of}
use Rattle.file_settlements.specs.image_appends.Settling.{content_from, content_if, heads_if}
use Rattle.file_settlements.proofs.image_appends.Growing.{below_length, others_if}
use Rattle.file_settlements.specs.Settling.{content_settled}

-- a block is none of a ring's
pub record IsBeside (i : ℕ) (s : Span) : Type 0 where
  pub some : 0 < s.blocks
  pub beside : (i < s.start - 518) ⊎ (s.start - 518 + s.blocks ≤ i)

-- nor is it one of a file's journal of a side, where that is kept
abbrev pub FileBeside : (i : ℕ) → Side → (file : ℕ) → List (Option FileHead) → Type 0
FileBeside i side file heads = (h : FileHead) → head_at heads file ≡ Some h → is_kept side h ≡ true → IsBeside i (span_of side h)

-- a file whose journal of after images has grown has the same one of before images
same_befores : (heads : List (Option FileHead)) (file size : ℕ) (new : FileHead) → head_at (heads_with file After size heads) file ≡ Some new → (h : FileHead) × (head_at heads file ≡ Some h) × (is_kept Before h ≡ is_kept Before new) × (span_of Before h ≡ span_of Before new)
same_befores heads file size new at = go (head_at heads file) refl at
  where
    one : (a b : FileHead) → ◌≡◌ {A = Option FileHead} (Some a) (Some b) → a ≡ b
    one a b e = cc

    go : (o : Option FileHead) → head_at heads file ≡ o → head_at (files_grown o file After size heads) file ≡ Some new → (h : FileHead) × (head_at heads file ≡ Some h) × (is_kept Before h ≡ is_kept Before new) × (span_of Before h ≡ span_of Before new)
    go None is at = (new, at, refl, refl)
    go (Some h) is at = by_mark (is_kept After h) at
      where
        by_mark : (b : Bool) → head_at (if b then slice_set heads file (Some (grown After size h)) else heads) file ≡ Some new → (k : FileHead) × (head_at heads file ≡ Some k) × (is_kept Before k ≡ is_kept Before new) × (span_of Before k ≡ span_of Before new)
        by_mark false at = (new, at, refl, refl)
        by_mark true at =
            let grew : Some (grown After size h) ≡ Some new = sym (get_or-set_same heads file (Some (grown After size h)) None (below_length heads file h is)) ∙ at in
            let same : grown After size h ≡ new = one (grown After size h) new grew in
            (h, is, ap (λ (x : FileHead). x.marks.bi) same, ap (λ (x : FileHead). x.bi) same)

module _ (stay : OthersStay) (i : ℕ) where
  stays_entered : (file : ℕ) (side : Side) (bytes : List ℕ) (h : FileHead) (c : List (List ℕ)) → IsBeside i (span_of side h) → i ≢ 1 + file → block_at (entered file side bytes h c) i ≡ block_at c i
  stays_entered file side bytes h c is apart =
      get_or-set_other (put_stream c (span_of side h) (span_of side h).end bytes) (1 + file) i (head_block_of (grown side (length bytes) h)) [] apart
      ∙ (stay bytes c (span_of side h) (span_of side h).end is.some).others i is.beside

  stays_grown : (o : Option FileHead) (file : ℕ) (side : Side) (bytes : List ℕ) (c : List (List ℕ)) → ((h : FileHead) → o ≡ Some h → is_kept side h ≡ true → IsBeside i (span_of side h)) → i ≢ 1 + file → block_at (content_grown o file side bytes c) i ≡ block_at c i
  stays_grown None file side bytes c is apart = refl
  stays_grown (Some h) file side bytes c is apart = by_mark (is_kept side h) refl
    where
      by_mark : (b : Bool) → is_kept side h ≡ b → block_at (if b then entered file side bytes h c else c) i ≡ block_at c i
      by_mark true kept = stays_entered file side bytes h c (is h refl kept) apart
      by_mark false kept = refl

  -- the journal of before images lies where it lay, where the other has grown
  befores_beside : (file size : ℕ) (heads : List (Option FileHead)) → FileBeside i Before file heads → FileBeside i Before file (heads_with file After size heads)
  befores_beside file size heads is new at kept =
      let s = same_befores heads file size new at in
      subst (λ (x : Span). IsBeside i x) s.3 (is s.0 s.1 (s.2 ∙ kept))

  pub stays_both : (file : ℕ) (after before : List ℕ) (heads : List (Option FileHead)) (c : List (List ℕ)) → FileBeside i After file heads → FileBeside i Before file heads → i ≢ 1 + file → block_at (content_with_both file after before heads c) i ≡ block_at c i
  stays_both file after before heads c afters befores apart =
      stays_grown (head_at (heads_with file After (length after) heads) file) file Before before (content_with file After after heads c) (befores_beside file (length after) heads befores) apart
      ∙ stays_grown (head_at heads file) file After after c afters apart

  stays_if : (takes : Bool) (file : ℕ) (bytes : List ℕ) (heads : List (Option FileHead)) (c : List (List ℕ)) → (takes ≡ true → FileBeside i After file heads × FileBeside i Before file heads) → i ≢ 1 + file → block_at (content_if takes file bytes heads c) i ≡ block_at c i
  stays_if true file bytes heads c is apart = let both = is refl in stays_both file bytes bytes heads c both.0 both.1 apart
  stays_if false file bytes heads c is apart = refl

  -- the files from a number on
  stays_from : (files : List Bool) (n : ℕ) (bytes : List ℕ) (heads : List (Option FileHead)) (c : List (List ℕ)) → n + length files < i → ((k : ℕ) → slice_index_or files k false ≡ true → FileBeside i After (n + k) heads × FileBeside i Before (n + k) heads) →
      block_at (content_from n files bytes heads c) i ≡ block_at c i
  stays_from [] n bytes heads c high is = refl
  stays_from (t ∷ ts) n bytes heads c high is =
      stays_from ts (suc n) bytes (heads_if t n (length bytes) heads) (content_if t n bytes heads c) (omega (arith, high)) later
      ∙ stays_if t n bytes heads c here (λ same. omega (arith, same, high))
    where
      zero_more : n + 0 ≡ n
      zero_more = omega arith

      here : t ≡ true → FileBeside i After n heads × FileBeside i Before n heads
      here takes = subst (λ (m : ℕ). FileBeside i After m heads × FileBeside i Before m heads) zero_more (is 0 takes)

      later : (k : ℕ) → slice_index_or ts k false ≡ true → FileBeside i After (suc n + k) (heads_if t n (length bytes) heads) × FileBeside i Before (suc n + k) (heads_if t n (length bytes) heads)
      later k takes =
          let next : n + suc k ≡ suc n + k = omega arith in
          let apart : suc n + k ≢ n = (λ same. let no_way : ⊥ = omega (arith, same) in no_way) in
          let others = others_if t n (suc n + k) (length bytes) heads apart in
          let both = subst (λ (m : ℕ). FileBeside i After m heads × FileBeside i Before m heads) next (is (suc k) takes) in
          ((λ h at kept. both.0 h (sym others ∙ at) kept), (λ h at kept. both.1 h (sym others ∙ at) kept))

  -- A block behind the directory stays where the entry of a settlement is in journals beside it.
  pub stays_settled : (e : Option Entry) (files : List Bool) (heads : List (Option FileHead)) (c : List (List ℕ)) → length files < i → ((file : ℕ) → slice_index_or files file false ≡ true → FileBeside i After file heads × FileBeside i Before file heads) →
      block_at (content_settled e files heads c) i ≡ block_at c i
  stays_settled None files heads c high is = refl
  stays_settled (Some e) files heads c high is = stays_from files 0 (spelling e) heads c (omega (arith, high)) (λ k takes. let same : k ≡ 0 + k = omega arith in subst (λ (m : ℕ). FileBeside i After m heads × FileBeside i Before m heads) same (is k takes))
