-- The entries of a journal, shown one after another.
use Rattle.std.proofs.Common.{◌≡◌, ℕ, ◌+◌, ◌<◌, ◌≤◌, List, [], ◌∷◌, ◌++◌, Option, Some, None, Result, Ok, Err, MatchResult, length, take, refl, sym, ap, subst, ◌∙◌, arith, append_assoc, length-append}
use Rattle.std.specs.List.{AllByRecursion}
use Rattle.std.proofs.lemmas.List.{append-nil}
use Rattle.std.proofs.Math.Seq.{take-append_seam}
use Rattle.careful_write.specs.declared.down.Down.{Down}
use Rattle.file_base.specs.declared.head.FileHead.{FileHead}
use Rattle.file_base.specs.declared.head.Span.{Span}
use Rattle.journal_format.specs.journal_model.Entries.{Entry, IsEntry}
use Rattle.journal_format.specs.journal_model.Ring.{StandsAt}
use Rattle.journal_store.proofs.EntriesAt.{stands_in}
use Rattle.emitter_model.specs.Emitting.{Shown, Emits}
use Rattle.emitter_model.specs.transcript_model.Lines as line
use Rattle.emitter_model.specs.transcript_model.Lines.{Line}
use Rattle.emitter_model.proofs.EmittingLemmas.{emits_nothing, emits_on}
use Rattle.volume.specs.State.{SameVolume, VolumeState}
use Rattle.file_images.specs.unit_laws.Journal.{Journal, JournalEntry, ChangeEntry, PreparedEntry, SettledEntry, end_of, entries_size, entry_size}
use Rattle.file_images.proofs.unit_laws.TrimLemmas.{size_append}
use Rattle.file_images.specs.run_model.Answers.{entry_line, entry_lines}
use Rattle.recovery_units.specs.volume_model.Entries.{AreEntries, IsFileOf, entry_for}
use Rattle.recovery_units.proofs.volume_model.EntryLemmas.{entries_follow}
use Rattle.recovery_units.specs.State.{IsShowable}
use Rattle.file_requests.specs.Listing.{HasShowable, ShowsEntry, ShowsJournal}

-- Lines.

pub lines_more : (position : ℕ) (es fs : List JournalEntry) → entry_lines position (es ++ fs) ≡ entry_lines position es ++ entry_lines (position + entries_size es) fs
lines_more position [] fs = ap (λ (p : ℕ). entry_lines p fs) (omega arith)
lines_more position (e ∷ es) fs =
    let place : position + entry_size e + entries_size es ≡ position + (entry_size e + entries_size es) = omega arith in
    ap (λ ls. entry_line position e ∷ ls) (lines_more (position + entry_size e) es fs ∙ ap (λ (p : ℕ). entry_lines (position + entry_size e) es ++ entry_lines p fs) place)

sized_least : (e : JournalEntry) → 48 ≤ entry_size e
sized_least (ChangeEntry tid serial file key before) = omega arith
sized_least (PreparedEntry tid serial) = omega arith
sized_least (SettledEntry tid serial outcome moment) = omega arith

-- the entries before a position were shown
pub record HasShown (j : Journal) (position : ℕ) (a b : Shown) : Type 0 where
  pub front : List JournalEntry
  pub back : List JournalEntry
  pub split : j.entries ≡ front ++ back
  pub place : position ≡ j.first + entries_size front
  pub emits : Emits a (entry_lines j.first front) b

pub shown_none : (j : Journal) (a : Shown) → HasShown j j.first a a
shown_none j a = record { front = []; back = j.entries; split = refl; place = omega arith; emits = emits_nothing a }

-- no more are left
nothing_left : (front back : List JournalEntry) (j : Journal) → j.entries ≡ front ++ back → end_of j ≤ j.first + entries_size front → back ≡ []
nothing_left front [] j split le = refl
nothing_left front (e ∷ back) j split le =
    let whole = ap entries_size split ∙ size_append front (e ∷ back) in
    let least = sized_least e in
    absurd (omega (arith, whole, least, le))

pub shown_all : (j : Journal) (position : ℕ) (a b d : Shown) → HasShown j position a b → end_of j ≤ position → Emits b (line.NormalSpan j.first (end_of j) ∷ []) d → ShowsJournal (Ok tt) j a d
shown_all j position a b d h le m =
    let place = h.place in
    let none = nothing_left h.front h.back j h.split (omega (arith, le, place)) in
    let same : j.entries ≡ h.front = h.split ∙ ap (λ es. h.front ++ es) none ∙ append-nil h.front in
    (b, subst (λ es. Emits a (entry_lines j.first es) b) (sym same) h.emits, m)

-- so many were shown, and then a call of the disk failed
pub shown_some : (e : Down) (j : Journal) (position : ℕ) (a b : Shown) → HasShown j position a b → ShowsJournal (Err e) j a b
shown_some e j position a b h =
    let lines = entry_lines j.first h.front in
    let more = entry_lines (j.first + entries_size h.front) h.back in
    let whole : entry_lines j.first j.entries ≡ lines ++ more = ap (entry_lines j.first) h.split ∙ lines_more j.first h.front h.back in
    (length lines, subst (λ ls. length lines ≤ length ls) (sym whole) (let long = length-append lines more in omega (arith, long)), subst (λ ls. Emits a ls b) (sym (ap (take (length lines)) whole ∙ take-append_seam lines more)) h.emits)

-- The entry at a position.

pub record Next (heads : List (Option FileHead)) (greatest : ℕ) (s : Span) (content : List (List ℕ)) (j : Journal) (front : List JournalEntry) : Type 0 where
  pub entry : JournalEntry
  pub rest : List JournalEntry
  pub number : ℕ
  pub split : j.entries ≡ front ++ entry ∷ rest
  pub file : IsFileOf heads entry number
  pub showable : IsShowable heads greatest entry
  pub is : IsEntry (entry_for number entry)
  pub stands : StandsAt s (s.first + entries_size front) (entry_for number entry) content

-- the entries on a disk, where those of the world are two lists
record Parted (heads : List (Option FileHead)) (front : List JournalEntry) (e : JournalEntry) (ds : List Entry) : Type 0 where
  before : List Entry
  here : Entry
  behind : List Entry
  number : ℕ
  split : ds ≡ before ++ here ∷ behind
  alike : AreEntries heads front before
  file : IsFileOf heads e number
  is : here ≡ entry_for number e

parted : (heads : List (Option FileHead)) (front : List JournalEntry) (e : JournalEntry) (rest : List JournalEntry) (ds : List Entry) → AreEntries heads (front ++ e ∷ rest) ds → Parted heads front e ds
parted heads [] e rest [] are = absurd are
parted heads [] e rest (d ∷ ds) are = record { before = []; here = d; behind = ds; number = are.0; split = refl; alike = tt; file = are.1; is = are.2 }
parted heads (x ∷ front) e rest [] are = absurd are
parted heads (x ∷ front) e rest (d ∷ ds) are =
    let p = parted heads front e rest ds are.3 in
    record { before = d ∷ p.before; here = p.here; behind = p.behind; number = p.number; split = ap (λ (xs : List Entry). d ∷ xs) p.split; alike = (are.0, are.1, are.2, p.alike); file = p.file; is = p.is }

all_of : {A : Type 0} (P : A → Type 0) (xs : List A) (y : A) (ys : List A) → AllByRecursion P (xs ++ y ∷ ys) → AllByRecursion P xs × P y
all_of P [] y ys h = (tt, h.0)
all_of P (x ∷ xs) y ys h = let rest = all_of P xs y ys h.1 in ((h.0, rest.0), rest.1)

module _ (v : VolumeState) (s : Span) (content : List (List ℕ)) (j : Journal) (h : HasShowable v s content j) where
  next_at : (front back : List JournalEntry) → j.entries ≡ front ++ back → j.first + entries_size front < end_of j → Next v.catalog.heads v.catalog.home.greatest_moment.0 s content j front
  next_at front [] split below = let whole = ap entries_size split ∙ size_append front [] in absurd (omega (arith, whole, below))
  next_at front (e ∷ rest) split below =
      let p = parted v.catalog.heads front e rest h.entries (subst (λ es. AreEntries v.catalog.heads es h.entries) split h.alike) in
      let each = all_of IsEntry p.before p.here p.behind (subst (λ ds. AllByRecursion IsEntry ds) p.split h.is.each) in
      let is : IsEntry (entry_for p.number e) = subst IsEntry p.is each.1 in
      let size = entries_follow.sized v.catalog.heads front p.before p.alike each.0 in
      let stands = stands_in content s h.entries (s.first + entries_size front) p.here h.is (record { front = p.before; back = p.behind; split = p.split; place = ap (λ (x : ℕ). s.first + x) (sym size) }) in
      record {
        entry = e;
        rest = rest;
        number = p.number;
        split = split;
        file = p.file;
        showable = (all_of (IsShowable v.catalog.heads v.catalog.home.greatest_moment.0) front e rest (subst (λ es. AllByRecursion (IsShowable v.catalog.heads v.catalog.home.greatest_moment.0) es) split h.showable)).1;
        is = is;
        stands = subst (λ (d : Entry). StandsAt s (s.first + entries_size front) d content) p.is stands;
      }

  -- the next entry, where not all were shown
  pub shown_next : (position : ℕ) (a b : Shown) (shown : HasShown j position a b) → position < s.end → Next v.catalog.heads v.catalog.home.greatest_moment.0 s content j shown.front
  shown_next position a b shown below = next_at shown.front shown.back shown.split (let end = h.end in let place = shown.place in omega (arith, end, place, below))

pub shown_more : (heads : List (Option FileHead)) (greatest : ℕ) (s : Span) (content : List (List ℕ)) (j : Journal) (position next : ℕ) (a b d : Shown) (h : HasShown j position a b) (x : Next heads greatest s content j h.front) → next ≡ position + entry_size x.entry →
    Emits b (entry_line position x.entry ∷ []) d → HasShown j next a d
shown_more heads greatest s content j position next a b d h x is m = record {
  front = h.front ++ x.entry ∷ [];
  back = x.rest;
  split = x.split ∙ sym (append_assoc h.front (x.entry ∷ []) x.rest);
  place = (let size = size_append h.front (x.entry ∷ []) in let place = h.place in omega (arith, is, place, size));
  emits = subst (λ ls. Emits a ls d) (sym (lines_more j.first h.front (x.entry ∷ []) ∙ ap (λ (p : ℕ). entry_lines j.first h.front ++ entry_line p x.entry ∷ []) (sym h.place))) (emits_on a b d _ _ h.emits m);
}

-- an entry was read and shown where one stands
pub entry_shown : (v : VolumeState) (s : Span) (content : List (List ℕ)) (j : Journal) (h : HasShowable v s content j) (r : Result (Option ℕ) Down) (position : ℕ) (a b d : Shown) (shown : HasShown j position a b) (below : position < s.end) → v.store.current ≡ Some content → ShowsEntry r position s v b d →
    MatchResult r (λ next. (next ≡ Some (position + entry_size (shown_next v s content j h position a b shown below).entry)) × Emits b (entry_line position (shown_next v s content j h position a b shown below).entry ∷ []) d) (λ down. Emits b [] d)
entry_shown v s content j h r position a b d shown below told shows =
    let x = shown_next v s content j h position a b shown below in
    shows content x.entry x.number told x.file x.showable x.is (subst (λ p. StandsAt s p (entry_for x.number x.entry) content) (ap (λ (p : ℕ). p + entries_size shown.front) h.first ∙ sym shown.place) x.stands)

-- nothing more was shown
shown_still : (j : Journal) (position : ℕ) (a b d : Shown) → HasShown j position a b → Emits b [] d → HasShown j position a d
shown_still j position a b d h m = record { front = h.front; back = h.back; split = h.split; place = h.place; emits = subst (λ ls. Emits a ls d) (append-nil (entry_lines j.first h.front)) (emits_on a b d _ _ h.emits m) }

module _ (v w : VolumeState) (same : SameVolume v w) (s : Span) (content : List (List ℕ)) (j : Journal) (x : HasShowable v s content j) (told : v.store.current ≡ Some content) (position : ℕ) (a b d : Shown) (h : HasShown j position a b) (below : position < s.end) where
  pub entry_done : (o : Option ℕ) (next : ℕ) → o ≡ Some next → ShowsEntry (Ok o) position s w b d → HasShown j next a d
  entry_done o next is shows =
      let y = shown_next v s content j x position a b h below in
      let m = entry_shown v s content j x (Ok o) position a b d h below told (subst (λ y. ShowsEntry (Ok o) position s y b d) same shows) in
      let at : Some next ≡ Some (position + entry_size y.entry) = sym is ∙ m.0 in
      shown_more v.catalog.heads v.catalog.home.greatest_moment.0 s content j position next a b d h y (some_number at) m.1
    where
      some_number : {p q : ℕ} → ◌≡◌ {A = Option ℕ} (Some p) (Some q) → p ≡ q
      some_number e = cc

  pub entry_there : (o : Option ℕ) → o ≡ None → ShowsEntry (Ok o) position s w b d → ⊥
  entry_there o is shows =
      let m = entry_shown v s content j x (Ok o) position a b d h below told (subst (λ y. ShowsEntry (Ok o) position s y b d) same shows) in
      let at : None ≡ Some (position + entry_size (shown_next v s content j x position a b h below).entry) = sym is ∙ m.0 in
      cc

  pub entry_cut : (e : Down) → ShowsEntry (Err e) position s w b d → ShowsJournal (Err e) j a d
  entry_cut e shows = shown_some e j position a d (shown_still j position a b d h (entry_shown v s content j x (Err e) position a b d h below told (subst (λ y. ShowsEntry (Err e) position s y b d) same shows)))
