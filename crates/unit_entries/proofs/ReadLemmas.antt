-- A journal is read entry by entry.
use Rattle.std.proofs.Common.{◌≡◌, ℕ, ◌+◌, ◌-◌, ◌<◌, ◌≤◌, ◌==◌, Bool, true, false, List, [], ◌∷◌, ◌++◌, length, map, None, if◌then◌else◌, refl, sym, ◌∙◌, ap, subst, arith, append_assoc, append-nil, length-append}
use Rattle.std.specs.List.{flat_map}
use Rattle.file_base.specs.declared.head.Span.{Span}
use Rattle.vms_base.specs.vms_model.Ids.{Id}
use Rattle.journal_format.specs.journal_model.Entries.{Entry, IsEntry, spelling}
use Rattle.journal_format.specs.journal_model.Ring.{StandsAt, IsJournal}
use Rattle.journal_format.specs.Heads.{entry_of, kind_code}
use Rattle.journal_format.specs.declared.head.EntryKind.{EntryKind}
use Rattle.journal_format.specs.declared.head.EntryKind.TheVariants as kind
use Rattle.journal_format.specs.declared.head.EntryHead.{EntryHead}
use Rattle.journal_store.specs.Reading.{Stands, ReadsAt}
use Rattle.journal_store.proofs.EntriesAt.{stands_in, length-stream}
use Rattle.table_keys.specs.records_model.History.{same_id}
use Rattle.ru_journal.specs.Told.{JournalScan, after, is_out_of_order, nothing_told, told_by, told_onto}
use Rattle.std.specs.List.{AllByRecursion, list_any}
use Rattle.std.proofs.lemmas.Bool.{or_parts}
use Rattle.unit_table.specs.Units.{OpenUnit, first_that, is_of}
use Rattle.unit_entries.specs.Opening.{AreChangesIn, Differ, HasOpened, opened_after}
use Rattle.unit_entries.specs.Reading.{placed, AreInOrder, is_change_of, changes_of, positions_of, AreRead, HasRead}
use Rattle.unit_entries.proofs.OpenLemmas.{found_after}

spelled_append : (es fs : List Entry) → flat_map spelling (es ++ fs) ≡ flat_map spelling es ++ flat_map spelling fs
spelled_append [] fs = refl
spelled_append (e ∷ es) fs = ap (λ (bs : List ℕ). spelling e ++ bs) (spelled_append es fs) ∙ sym (append_assoc (spelling e) (flat_map spelling es) (flat_map spelling fs))

pub spelled_more : (es : List Entry) (e : Entry) → length (flat_map spelling (es ++ e ∷ [])) ≡ length (flat_map spelling es) + length (spelling e)
spelled_more es e = ap length (spelled_append es (e ∷ [])) ∙ length-append (flat_map spelling es) (spelling e ++ []) ∙ ap (λ (bs : List ℕ). length (flat_map spelling es) + length bs) (append-nil (spelling e))

placed_append : (p : ℕ) (es fs : List Entry) → placed p (es ++ fs) ≡ placed p es ++ placed (p + length (flat_map spelling es)) fs
placed_append p [] fs = let same : p ≡ p + 0 = omega arith in ap (λ (q : ℕ). placed q fs) same
placed_append p (e ∷ es) fs =
    let size = length-append (spelling e) (flat_map spelling es) in
    let same : p + length (spelling e) + length (flat_map spelling es) ≡ p + length (flat_map spelling (e ∷ es)) = omega (arith, size) in
    ap (λ (xs : List (ℕ × Entry)). (p, e) ∷ xs) (placed_append (p + length (spelling e)) es fs ∙ ap (λ (q : ℕ). placed (p + length (spelling e)) es ++ placed q fs) same)

told_append : (t : JournalScan) (xs ys : List (ℕ × Entry)) → told_onto t (xs ++ ys) ≡ told_onto (told_onto t xs) ys
told_append t [] ys = refl
told_append t (x ∷ xs) ys = told_append (after x.0 x.1 t) xs ys

changes_append : (serial : Id) (xs ys : List (ℕ × Entry)) → changes_of serial (xs ++ ys) ≡ changes_of serial xs ++ changes_of serial ys
changes_append serial [] ys = refl
changes_append serial (x ∷ xs) ys = go (is_change_of serial x.1) (changes_append serial xs ys)
  where
    go : (b : Bool) → changes_of serial (xs ++ ys) ≡ changes_of serial xs ++ changes_of serial ys
        → (if b then x ∷ changes_of serial (xs ++ ys) else changes_of serial (xs ++ ys)) ≡ (if b then x ∷ changes_of serial xs else changes_of serial xs) ++ changes_of serial ys
    go true later = ap (λ (zs : List (ℕ × Entry)). x ∷ zs) later
    go false later = later

map_append : (xs ys : List (ℕ × Entry)) → map (λ (e : ℕ × Entry). e.0) (xs ++ ys) ≡ map (λ (e : ℕ × Entry). e.0) xs ++ map (λ (e : ℕ × Entry). e.0) ys
map_append [] ys = refl
map_append (x ∷ xs) ys = ap (λ (ps : List ℕ). x.0 ∷ ps) (map_append xs ys)

-- a settlement is no change
settled_kind : (k : EntryKind) → (kind_code k == 3) ≡ true → (kind_code k == 1) ≡ false
settled_kind kind.Change is = let never : ⊥ = cc in absurd never
settled_kind kind.Prepared is = refl
settled_kind kind.Settled is = refl

-- one that is neither a change nor a settlement is that it is prepared
pub prepared_kind : (k : EntryKind) → (kind_code k == 1) ≡ false → (kind_code k == 3) ≡ false → (kind_code k == 2) ≡ true
prepared_kind kind.Change is open_ = let never : ⊥ = cc in absurd never
prepared_kind kind.Prepared is open_ = refl
prepared_kind kind.Settled is open_ = let never : ⊥ = cc in absurd never

module _ (c : List (List ℕ)) (s : Span) (es : List Entry) (journal : IsJournal c s es) where
  whole : s.end - s.first ≡ length (flat_map spelling es)
  whole = sym (length-stream (s.end - s.first) c s s.first) ∙ ap length journal.spelled

  -- while the end is not reached there is an entry more
  pub next_entry : (front : List Entry) (position : ℕ) → position < s.end → (r : AreRead s es front position) → (e : Entry) × (rest : List Entry) × (r.back ≡ e ∷ rest)
  next_entry front position before r = go r.back refl
    where
      go : (back : List Entry) → r.back ≡ back → (e : Entry) × (rest : List Entry) × (r.back ≡ e ∷ rest)
      go [] is =
          let all : es ≡ front = r.split ∙ ap (λ (xs : List Entry). front ++ xs) is ∙ append-nil front in
          let size = ap (λ (xs : List Entry). length (flat_map spelling xs)) all in
          let place = r.place in
          let order = journal.order in
          absurd (omega (arith, whole, size, place, order, before))
      go (e ∷ rest) is = (e, rest, is)

  pub entry_stands : (front : List Entry) (position : ℕ) (r : AreRead s es front position) (e : Entry) (rest : List Entry) → r.back ≡ e ∷ rest → StandsAt s position e c
  entry_stands front position r e rest is = stands_in c s es position e journal (record { front = front; back = rest; split = r.split ∙ ap (λ (xs : List Entry). front ++ xs) is; place = r.place })

  is_entry : (xs ys : List Entry) (e : Entry) → AllByRecursion IsEntry (xs ++ e ∷ ys) → IsEntry e
  is_entry [] ys e all = all.0
  is_entry (x ∷ xs) ys e all = is_entry xs ys e all.1

  pub entry_is : (front : List Entry) (position : ℕ) (r : AreRead s es front position) (e : Entry) (rest : List Entry) → r.back ≡ e ∷ rest → IsEntry e
  entry_is front position r e rest is = is_entry front rest e (subst (λ (xs : List Entry). AllByRecursion IsEntry xs) (r.split ∙ ap (λ (ys : List Entry). front ++ ys) is) journal.each)

  abbrev pub read_on : (front : List Entry) (position : ℕ) (r : AreRead s es front position) (e : Entry) (rest : List Entry) → r.back ≡ e ∷ rest → AreRead s es (front ++ e ∷ []) (position + length (spelling e))
  read_on front position r e rest is = record {
    back = rest;
    split = r.split ∙ ap (λ (xs : List Entry). front ++ xs) is ∙ sym (append_assoc front (e ∷ []) rest);
    place = (let place = r.place in let more = spelled_more front e in omega (arith, place, more));
  }

  abbrev pub begins_read : AreRead s es [] s.first
  begins_read = record { back = es; split = refl; place = (let same : s.first ≡ s.first + 0 = omega arith in same) }

  pub nothing_read : HasRead c s es s.first nothing_told
  nothing_read = record { front = []; read = begins_read; told = refl; count = refl; order = λ order. order }

  pub has_read_on : (position : ℕ) (t : JournalScan) (r : HasRead c s es position t) (e : Entry) (rest : List Entry) → r.read.back ≡ e ∷ rest → HasRead c s es (position + length (spelling e)) (after position e t)
  has_read_on position t r e rest is = record {
    front = r.front ++ e ∷ [];
    read = read_on r.front position r.read e rest is;
    told = ap (after position e) r.told ∙ sym (ap (told_onto nothing_told) (placed_append s.first r.front (e ∷ [])) ∙ told_append nothing_told (placed s.first r.front) (placed (s.first + length (flat_map spelling r.front)) (e ∷ []))
        ∙ ap (λ (q : ℕ). told_onto (told_by (placed s.first r.front)) ((q, e) ∷ [])) (sym r.read.place));
    count = (let count = r.count in let more = length-append r.front (e ∷ []) in omega (arith, count, more));
    order = λ all. (subst (λ (xs : List Entry). AreInOrder t (placed position xs)) is (r.order all)).2;
  }

  -- at the end all were read
  pub all_read : (front : List Entry) (position : ℕ) (r : AreRead s es front position) → s.end ≤ position → front ≡ es
  all_read front position r end = go r.back refl
    where
      go : (back : List Entry) → r.back ≡ back → front ≡ es
      go [] is = sym (r.split ∙ ap (λ (xs : List Entry). front ++ xs) is ∙ append-nil front)
      go (e ∷ rest) is =
          let all = r.split ∙ ap (λ (xs : List Entry). front ++ xs) is in
          let size = ap (λ (xs : List Entry). length (flat_map spelling xs)) all ∙ ap length (spelled_append front (e ∷ rest)) ∙ length-append (flat_map spelling front) (flat_map spelling (e ∷ rest)) in
          let more = length-append (spelling e) (flat_map spelling rest) in
          let place = r.place in
          let order = journal.order in
          absurd (omega (arith, whole, size, more, place, order, end))

  -- the entry that is read there is the next
  next_is : (front : List Entry) (position : ℕ) (r : AreRead s es front position) → position < s.end → (h : EntryHead) (next : ℕ) (image : List ℕ) → Stands s position h next image c → (rest : List Entry) × (r.back ≡ entry_of h image ∷ rest)
  next_is front position r before h next image stands =
      let n = next_entry front position before r in
      (n.1, n.2 ∙ ap (λ (e : Entry). e ∷ n.1) (sym (stands.only n.0 (entry_is front position r n.0 n.1 n.2) (entry_stands front position r n.0 n.1 n.2))))

  -- and one is read
  pub one_is_there : (front : List Entry) (position : ℕ) → AreRead s es front position → position < s.end → (image : List ℕ) → ReadsAt s position None image c → ⊥
  one_is_there front position r before image none =
      let n = next_entry front position before r in
      none n.0 (entry_is front position r n.0 n.1 n.2) (entry_stands front position r n.0 n.1 n.2)

  pub read_more : (position : ℕ) (t new : JournalScan) (h : EntryHead) (next : ℕ) (image : List ℕ) → position < s.end → HasRead c s es position t → Stands s position h next image c → new ≡ after position (entry_of h []) t → HasRead c s es next new
  read_more position t new h next image before r stands taken =
      let n = next_is r.front position r.read before h next image stands in
      let read = has_read_on position t r (entry_of h image) n.0 n.1 in
      subst (λ (p : ℕ). HasRead c s es p new) (sym stands.behind) (subst (HasRead c s es (position + length (spelling (entry_of h image)))) (sym taken) read)

  -- where all are in order, the next may be taken
  pub may_take : (position : ℕ) (t : JournalScan) (h : EntryHead) (next : ℕ) (image : List ℕ) → position < s.end → HasRead c s es position t → Stands s position h next image c → length es ≤ 87381 → AreInOrder nothing_told (placed s.first es)
      → (t.entries < 87381) × (h.file < 64) × (is_out_of_order (entry_of h []) t ≡ false)
  may_take position t h next image before r stands few order =
      let n = next_is r.front position r.read before h next image stands in
      let e = entry_of h image in
      let left = subst (λ (xs : List Entry). AreInOrder t (placed position xs)) n.1 (r.order order) in
      let all = ap length (r.read.split ∙ ap (λ (xs : List Entry). r.front ++ xs) n.1) ∙ length-append r.front (e ∷ n.0) in
      let count = r.count in
      (omega (arith, few, all, count), left.1, left.0)

  pub told_all : (position : ℕ) (t : JournalScan) → HasRead c s es position t → s.end ≤ position → t ≡ told_by (placed s.first es)
  told_all position t r end = r.told ∙ ap (λ (xs : List Entry). told_by (placed s.first xs)) (all_read r.front position r.read end)

  -- The positions of branches' changes.

  one_position : (serial : Id) (position : ℕ) (e : Entry) → positions_of serial ((position, e) ∷ []) ≡ (if is_change_of serial e then position ∷ [] else [])
  one_position serial position e = go (is_change_of serial e)
    where
      go : (b : Bool) → map (λ (e : ℕ × Entry). e.0) (if b then (position, e) ∷ [] else []) ≡ (if b then position ∷ [] else [])
      go true = refl
      go false = refl

  positions_on : (front : List Entry) (position : ℕ) → AreRead s es front position → (e : Entry) (x : Id) → positions_of x (placed s.first (front ++ e ∷ [])) ≡ positions_of x (placed s.first front) ++ (if is_change_of x e then position ∷ [] else [])
  positions_on front position r e x =
      ap (positions_of x) (placed_append s.first front (e ∷ []) ∙ ap (λ (p : ℕ). placed s.first front ++ ((p, e) ∷ [])) (sym r.place))
      ∙ ap (map (λ (e : ℕ × Entry). e.0)) (changes_append x (placed s.first front) ((position, e) ∷ []))
      ∙ map_append (changes_of x (placed s.first front)) (changes_of x ((position, e) ∷ []))
      ∙ ap (λ (qs : List ℕ). positions_of x (placed s.first front) ++ qs) (one_position x position e)

  pub nothing_opened : HasOpened s es s.first nothing_told []
  nothing_opened = record { front = []; read = begins_read; found = tt; differ = tt; fresh = λ x none off. refl }

  pub opened_more : (position : ℕ) (t new : JournalScan) (ws vs : List OpenUnit) (h : EntryHead) (next : ℕ) (image : List ℕ) → position < s.end → HasOpened s es position t ws → Stands s position h next image c →
      is_out_of_order (entry_of h []) t ≡ false → new ≡ after position (entry_of h []) t → vs ≡ opened_after position (entry_of h []) ws → HasOpened s es next new vs
  opened_more position t new ws vs h next image before r stands may taken opened =
      let n = next_is r.front position r.read before h next image stands in
      let e = entry_of h image in
      let after_ = found_after (λ x. positions_of x (placed s.first r.front)) (λ x. positions_of x (placed s.first (r.front ++ e ∷ []))) position e (positions_on r.front position r.read e) t ws r.found r.differ r.fresh (or_parts _ _ may).0 (settled_kind h.kind) in
      subst (λ (p : ℕ). HasOpened s es p new vs) (sym stands.behind) record {
        front = r.front ++ e ∷ [];
        read = read_on r.front position r.read e n.0 n.1;
        found = subst (AreChangesIn (placed s.first (r.front ++ e ∷ []))) (sym opened) after_.0;
        differ = subst Differ (sym opened) after_.1;
        fresh = λ x none off. after_.2 x (ap (first_that (is_of x)) (sym opened) ∙ none) (ap (λ (u : JournalScan). list_any (same_id x) u.settled) (sym taken) ∙ off);
      }

  pub opened_all : (position : ℕ) (t : JournalScan) (ws : List OpenUnit) → HasOpened s es position t ws → s.end ≤ position → AreChangesIn (placed s.first es) ws
  opened_all position t ws r end = subst (λ (xs : List Entry). AreChangesIn (placed s.first xs) ws) (all_read r.front position r.read end) r.found
