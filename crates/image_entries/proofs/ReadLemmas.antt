-- Entries are read one after another.
use Rattle.std.proofs.Common.{◌≡◌, ℕ, ◌+◌, ◌<◌, ◌≤◌, List, [], ◌∷◌, ◌++◌, length, None, refl, sym, ◌∙◌, ap, subst, arith, append_assoc, append-nil, length-append}
use Rattle.std.specs.List.{flat_map}
use Rattle.file_base.specs.declared.head.Span.{Span}
use Rattle.journal_format.specs.journal_model.Entries.{Entry, spelling}
use Rattle.journal_format.specs.journal_model.Ring.{IsJournal}
use Rattle.journal_format.specs.Heads.{entry_of}
use Rattle.journal_format.specs.declared.head.EntryHead.{EntryHead}
use Rattle.journal_store.specs.Reading.{Stands, ReadsAt}
use Rattle.unit_entries.specs.Reading.{placed, AreRead}
use Rattle.unit_entries.proofs.ReadLemmas.{next_entry, entry_stands, entry_is, all_read, one_is_there, read_on}
use Rattle.image_entries.specs.Entries.{AreHeadsOf}

-- the entries that were read from a position on, up to another
pub record HaveRead (s : Span) (es front : List Entry) (from position : ℕ) (all : List Entry) (hs : List EntryHead) (ps : List ℕ) : Type 0 where
  pub part : List Entry
  pub read : AreRead s es (front ++ part) position
  pub told : AreHeadsOf hs ps (placed from part)
  pub size : position ≡ from + length (flat_map spelling part)
  pub rest : all ≡ part ++ read.back

-- heads and positions in a vector each
pub put_so : (s : Span) (es front : List Entry) (from position : ℕ) (all : List Entry) (hs : List EntryHead) (ps : List ℕ) (new_hs : List EntryHead) (new_ps : List ℕ) → new_hs ≡ hs → new_ps ≡ ps →
    HaveRead s es front from position all hs ps → HaveRead s es front from position all new_hs new_ps
put_so s es front from position all hs ps new_hs new_ps same_heads same_positions r = record { part = r.part; read = r.read; told = told; size = r.size; rest = r.rest }
  where
    told : AreHeadsOf new_hs new_ps (placed from r.part)
    told = subst (λ (x : List EntryHead). AreHeadsOf x new_ps (placed from r.part)) (sym same_heads) (subst (λ (x : List ℕ). AreHeadsOf hs x (placed from r.part)) (sym same_positions) r.told)

put_behind : (hs : List EntryHead) (ps : List ℕ) (xs : List (ℕ × Entry)) (h : EntryHead) (p : ℕ) (x : ℕ × Entry) → AreHeadsOf hs ps xs → p ≡ x.0 → entry_of h x.1.image ≡ x.1 → AreHeadsOf (hs ++ h ∷ []) (ps ++ p ∷ []) (xs ++ x ∷ [])
put_behind [] [] [] h p x all at is = (at, is, tt)
put_behind [] [] (y ∷ xs) h p x all at is = absurd all
put_behind [] (q ∷ ps) xs h p x all at is = absurd all
put_behind (g ∷ hs) [] xs h p x all at is = absurd all
put_behind (g ∷ hs) (q ∷ ps) [] h p x all at is = absurd all
put_behind (g ∷ hs) (q ∷ ps) (y ∷ xs) h p x all at is = (all.0, all.1, put_behind hs ps xs h p x all.2 at is)

placed_behind : (p : ℕ) (es : List Entry) (e : Entry) → placed p (es ++ e ∷ []) ≡ placed p es ++ (p + length (flat_map spelling es), e) ∷ []
placed_behind p [] e = let same : p ≡ p + 0 = omega arith in ap (λ (q : ℕ). (q, e) ∷ []) same
placed_behind p (x ∷ es) e =
    let size = length-append (spelling x) (flat_map spelling es) in
    let same : p + length (spelling x) + length (flat_map spelling es) ≡ p + length (flat_map spelling (x ∷ es)) = omega (arith, size) in
    ap (λ (xs : List (ℕ × Entry)). (p, x) ∷ xs) (placed_behind (p + length (spelling x)) es e ∙ ap (λ (q : ℕ). placed (p + length (spelling x)) es ++ (q, e) ∷ []) same)

sized_behind : (es : List Entry) (e : Entry) → length (flat_map spelling (es ++ e ∷ [])) ≡ length (flat_map spelling es) + length (spelling e)
sized_behind [] e = let n = ap length (append-nil (spelling e)) in omega (arith, n)
sized_behind (x ∷ es) e =
    let later = sized_behind es e in
    let whole = length-append (spelling x) (flat_map spelling (es ++ e ∷ [])) in
    let part = length-append (spelling x) (flat_map spelling es) in
    omega (arith, later, whole, part)

module _ (c : List (List ℕ)) (s : Span) (es : List Entry) (journal : IsJournal c s es) (front : List Entry) (from : ℕ) (start : AreRead s es front from) where
  pub nothing_read : HaveRead s es front from from start.back [] []
  nothing_read = record {
    part = [];
    read = record { back = start.back; split = start.split ∙ ap (λ (xs : List Entry). xs ++ start.back) (sym (append-nil front)); place = start.place ∙ ap (λ (xs : List Entry). s.first + length (flat_map spelling xs)) (sym (append-nil front)) };
    told = tt;
    size = omega arith;
    rest = refl;
  }

  -- the entry that is read there is the next
  next_is : (position : ℕ) (part : List Entry) (r : AreRead s es (front ++ part) position) → position < s.end → (h : EntryHead) (next : ℕ) (image : List ℕ) → Stands s position h next image c → (rest : List Entry) × (r.back ≡ entry_of h image ∷ rest)
  next_is position part r before h next image stands =
      let n = next_entry c s es journal (front ++ part) position before r in
      (n.1, n.2 ∙ ap (λ (e : Entry). e ∷ n.1) (sym (stands.only n.0 (entry_is c s es journal (front ++ part) position r n.0 n.1 n.2) (entry_stands c s es journal (front ++ part) position r n.0 n.1 n.2))))

  pub read_more : (position : ℕ) (hs : List EntryHead) (ps : List ℕ) (h : EntryHead) (next : ℕ) (image : List ℕ) → position < s.end → HaveRead s es front from position start.back hs ps → Stands s position h next image c →
      HaveRead s es front from next start.back (hs ++ h ∷ []) (ps ++ position ∷ [])
  read_more position hs ps h next image before r stands =
      let e = entry_of h image in
      let n = next_is position r.part r.read before h next image stands in
      let on = read_on c s es journal (front ++ r.part) position r.read e n.0 n.1 in
      let size = r.size in
      let behind = stands.behind in
      let grown = sized_behind r.part e in
      record {
        part = r.part ++ e ∷ [];
        read = record { back = n.0; split = on.split ∙ ap (λ (xs : List Entry). xs ++ n.0) (append_assoc front r.part (e ∷ [])); place = behind ∙ on.place ∙ ap (λ (xs : List Entry). s.first + length (flat_map spelling xs)) (append_assoc front r.part (e ∷ [])) };
        told = subst (AreHeadsOf (hs ++ h ∷ []) (ps ++ position ∷ [])) (sym (placed_behind from r.part e)) (put_behind hs ps (placed from r.part) h position (from + length (flat_map spelling r.part), e) r.told r.size refl);
        size = omega (arith, size, behind, grown);
        rest = r.rest ∙ ap (λ (xs : List Entry). r.part ++ xs) n.1 ∙ sym (append_assoc r.part (e ∷ []) n.0);
      }

  pub none_missing : (position : ℕ) (hs : List EntryHead) (ps : List ℕ) → position < s.end → HaveRead s es front from position start.back hs ps → (image : List ℕ) → ReadsAt s position None image c → ⊥
  none_missing position hs ps before r image none = one_is_there c s es journal (front ++ r.part) position r.read before image none

  -- at the end all were read
  nothing_left : (position : ℕ) (part : List Entry) (r : AreRead s es (front ++ part) position) → s.end ≤ position → r.back ≡ []
  nothing_left position part r end = go r.back refl (r.split ∙ ap (λ (xs : List Entry). xs ++ r.back) (all_read c s es journal (front ++ part) position r end))
    where
      none_behind : (xs : List Entry) (y : Entry) (ys : List Entry) → xs ≡ xs ++ y ∷ ys → ⊥
      none_behind xs y ys e = let n = ap length e ∙ length-append xs (y ∷ ys) in omega (arith, n)

      go : (back : List Entry) → r.back ≡ back → es ≡ es ++ r.back → r.back ≡ []
      go [] is all = is
      go (y ∷ ys) is all = absurd (none_behind es y ys (all ∙ ap (λ (xs : List Entry). es ++ xs) is))

  pub all_told : (position : ℕ) (hs : List EntryHead) (ps : List ℕ) → HaveRead s es front from position start.back hs ps → s.end ≤ position → AreHeadsOf hs ps (placed from start.back)
  all_told position hs ps r end =
      subst (λ (xs : List Entry). AreHeadsOf hs ps (placed from xs)) (sym (r.rest ∙ ap (λ (xs : List Entry). r.part ++ xs) (nothing_left position r.part r.read end) ∙ append-nil r.part)) r.told
