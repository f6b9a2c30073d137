-- The journal has the notes of unsettled branches, whatever is entered, and these restore what they found.
use Rattle.std.proofs.Common.{◌≡◌, ◌⊎◌, ℕ, Bool, true, false, cond, ◌||◌, ◌&&◌, List, [], ◌∷◌, ◌++◌, map, Option, Some, None, refl, sym, ◌∙◌, ap, subst, inl, inr, append-nil, append_assoc}
use Rattle.std.specs.Prelude.{is_some}
use Rattle.std.specs.List.{list_any, AllByRecursion}
use Rattle.std.specs.Str.{bytes_eq}
use Rattle.std.proofs.lemmas.Bool.{and_from, false_from_ne_true}
use Rattle.std.proofs.lemmas.Slice.Eq.{bytes_eq-Decides}
use Rattle.std.proofs.lemmas.List.{map-append}
use Rattle.tree_model.specs.vms_model.Ids.{Id}
use Rattle.tree_model.specs.vms_model.Keys.{Key}
use Rattle.tree_model.specs.vms_model.Transactions.{Outcome, Commit, Abort}
use Rattle.tree_model.specs.records_model.Records.{Records, Change}
use Rattle.tree_model.specs.records_model.History.{History, LiveChanges, same_id, changes_key, changes_by, with_changes, without, records, on_top, settled_at, settled_with}
use Rattle.unit_laws.specs.Units.{Map, map_in, is_of, with_key, earliest_before, with_before_images, has_changes, SerialsDiffer, Represents, IsOrderly, IsUndoGroup, UndoGroups, none, more}
use Rattle.unit_laws.specs.Journal.{Journal, JournalEntry, ChangeEntry, PreparedEntry, SettledEntry, RecoveryUnit, Note, find_unit, units_in, entries_for, with_entries, trimmed, is_settled_in, is_of_file, note_of, notes_of, notes_in, put_back}
use Rattle.unit_laws.specs.JournalLaws.{HasNotes, is_unit, UnchangedHasNotes, ChangesKeepNotes, ChangesElsewhereKeepNotes, PreparesKeepNotes, SettlesKeepNotes, NotesRestore, NotesCutShort}
use Rattle.unit_laws.proofs.Tests.{both_ways, or_first, or_second, picked, passed}
use Rattle.unit_laws.proofs.LiveLemmas.{clash, id_is, id_itself, by_changes, by_others, by_without, all_changes, made_changes, once_changes, left_so, differ_left, others_left, no_such}
use Rattle.unit_laws.proofs.HistoryLaws.{changes_more, commits_one, aborts_one}
use Rattle.unit_laws.proofs.RepresentLemmas.{group_keeps}
use Rattle.unit_laws.proofs.RestartLemmas.{before_image_is_group}
use Rattle.unit_laws.proofs.UnitLemmas.{units_follow, found_prepared, found_settled, changes_make_unit}
use Rattle.unit_laws.proofs.TrimLemmas.{had_onto, found_onto, mapped_in, none_in, trim_keeps_units}

-- What entries note.

pub notes_append : (s : Id) (n : List ℕ) (es fs : List JournalEntry) → notes_in s n (es ++ fs) ≡ notes_in s n fs ++ notes_in s n es
notes_append s n [] fs = sym (append-nil (notes_in s n fs))
notes_append s n (e ∷ es) fs = ap (λ (ns : List Note). ns ++ notes_of s n e) (notes_append s n es fs) ∙ append_assoc (notes_in s n fs) (notes_in s n es) (notes_of s n e)

none_if : (b : Bool) (x : Note) → b ≡ false → cond {A = List Note} b (x ∷ []) [] ≡ []
none_if true x e = absurd cc
none_if false x e = refl

not_both : (a b : Bool) → (a ≡ false) ⊎ (b ≡ false) → (a && b) ≡ false
not_both true true e = elim e [ inl p ↦ absurd cc | inr p ↦ absurd cc ]
not_both true false e = refl
not_both false b e = refl

notes_same : (s tid : Id) (n : List ℕ) (cs : List Change) → notes_in s n (entries_for tid s n cs) ≡ map note_of cs
notes_same s tid n [] = refl
notes_same s tid n (c ∷ cs) =
    notes_append s n (entries_for tid s n cs) (ChangeEntry tid s n c.key c.before ∷ [])
    ∙ ap (λ (ns : List Note). ns ++ notes_in s n (entries_for tid s n cs)) (picked (same_id s s && bytes_eq n n) _ _ (and_from _ _ (id_itself s) ((bytes_eq-Decides n n).1 refl)))
    ∙ ap (λ (ns : List Note). (c.key, c.before) ∷ ns) (notes_same s tid n cs)

notes_other : (s tid t : Id) (n m : List ℕ) (cs : List Change) → (same_id s t ≡ false) ⊎ (bytes_eq n m ≡ false) → notes_in s n (entries_for tid t m cs) ≡ []
notes_other s tid t n m [] other = refl
notes_other s tid t n m (c ∷ cs) other =
    notes_append s n (entries_for tid t m cs) (ChangeEntry tid t m c.key c.before ∷ [])
    ∙ ap (λ (ns : List Note). ns ++ notes_in s n (entries_for tid t m cs)) (none_if _ (c.key, c.before) (not_both (same_id s t) (bytes_eq n m) other))
    ∙ notes_other s tid t n m cs other

-- which branches are units once changes were entered
entered : (q tid t : Id) (m : List ℕ) (cs : List Change) (es : List JournalEntry) → is_some (find_unit q (units_in (es ++ entries_for tid t m cs))) ≡ cond (has_changes cs && same_id q t) true (is_some (find_unit q (units_in es)))
entered q tid t m [] es = ap (λ (fs : List JournalEntry). is_some (find_unit q (units_in fs))) (append-nil es)
entered q tid t m (c ∷ cs) es = elim (both_ways (same_id q t)) [
  | inl same ↦ subst (λ (x : Id). is_some (find_unit x (units_in (es ++ entries_for tid t m (c ∷ cs)))) ≡ cond (same_id x t) true (is_some (find_unit x (units_in es)))) (sym (id_is q t same))
      (ap is_some (changes_make_unit tid t m (c ∷ cs) es refl).own ∙ sym (picked (same_id t t) _ _ (id_itself t)))
  | inr other ↦ ap is_some ((changes_make_unit tid t m (c ∷ cs) es refl).others q other) ∙ sym (passed (same_id q t) _ _ other)
]

stays : (x y : Bool) → y ≡ true → cond x true y ≡ true
stays true y e = refl
stays false y e = e

still_unit : (q tid t : Id) (m : List ℕ) (cs : List Change) (j : Journal) → is_unit q j ≡ true → is_unit q (with_entries (entries_for tid t m cs) j) ≡ true
still_unit q tid t m cs j there = entered q tid t m cs j.entries ∙ stays (has_changes cs && same_id q t) _ there

was_unit : (q tid t : Id) (m : List ℕ) (cs : List Change) (j : Journal) → same_id q t ≡ false → is_unit q (with_entries (entries_for tid t m cs) j) ≡ true → is_unit q j ≡ true
was_unit q tid t m cs j other there = sym (passed (has_changes cs && same_id q t) _ _ (not_both (has_changes cs) (same_id q t) (inr other))) ∙ sym (entered q tid t m cs j.entries) ∙ there

-- A branch that is not settled is a unit from its first change on, so one that is none has no notes.
kept_unit : (q : Id) (es : List JournalEntry) → is_settled_in q es ≡ false → had_onto q true es ≡ true
kept_unit q [] h = refl
kept_unit q (ChangeEntry tid t file key before ∷ es) h = ap (λ (b : Bool). had_onto q b es) (stays (same_id q t) true refl) ∙ kept_unit q es h
kept_unit q (PreparedEntry tid t ∷ es) h = kept_unit q es h
kept_unit q (SettledEntry tid t outcome moment ∷ es) h = step (same_id q t) h (kept_unit q es)
  where
    step : (x : Bool) → (x || is_settled_in q es) ≡ false → (is_settled_in q es ≡ false → had_onto q true es ≡ true) → had_onto q (cond x false true) es ≡ true
    step true e later = absurd cc
    step false e later = later e

quiet : (q : Id) (n : List ℕ) (es : List JournalEntry) (b : Bool) → is_settled_in q es ≡ false → had_onto q b es ≡ false → notes_in q n es ≡ []
quiet q n [] b h no_unit = refl
quiet q n (ChangeEntry tid t file key before ∷ es) b h no_unit = step (same_id q t) refl no_unit (quiet q n es b h)
  where
    step : (x : Bool) → same_id q t ≡ x → had_onto q (cond x true b) es ≡ false → (had_onto q b es ≡ false → notes_in q n es ≡ []) → notes_in q n (ChangeEntry tid t file key before ∷ es) ≡ []
    step true is e later = clash (had_onto q true es) (kept_unit q es h) e
    step false is e later = ap (λ (ns : List Note). ns ++ notes_of q n (ChangeEntry tid t file key before)) (later e) ∙ none_if _ (key, before) (not_both (same_id q t) (bytes_eq n file) (inl is))
quiet q n (PreparedEntry tid t ∷ es) b h no_unit = ap (λ (ns : List Note). ns ++ []) (quiet q n es b h no_unit)
quiet q n (SettledEntry tid t outcome moment ∷ es) b h no_unit = step (same_id q t) h no_unit (quiet q n es b)
  where
    step : (x : Bool) → (x || is_settled_in q es) ≡ false → had_onto q (cond x false b) es ≡ false → (is_settled_in q es ≡ false → had_onto q b es ≡ false → notes_in q n es ≡ []) → (notes_in q n es ++ []) ≡ []
    step true e f later = absurd cc
    step false e f later = ap (λ (ns : List Note). ns ++ []) (later e f)

-- a branch that is no unit changed nothing
not_there : (s : Id) (j : Journal) (ls : List LiveChanges) → is_unit s j ≡ false → AllByRecursion (λ (l : LiveChanges). is_unit l.serial j ≡ true) ls → changes_by s ls ≡ []
not_there s j [] not own = refl
not_there s j (l ∷ ls) not own = step (same_id s l.serial) refl (not_there s j ls not own.1)
  where
    step : (b : Bool) → same_id s l.serial ≡ b → changes_by s ls ≡ [] → cond b l.changes (changes_by s ls) ≡ []
    step true is later = clash (is_unit s j) (ap (λ (x : Id). is_unit x j) (id_is s l.serial is) ∙ own.0) not
    step false is later = later

all_so : (P Q : LiveChanges → Type 0) (ls : List LiveChanges) → ((l : LiveChanges) → P l → Q l) → AllByRecursion P ls → AllByRecursion Q ls
all_so P Q [] f p = tt
all_so P Q (l ∷ ls) f p = (f l p.0, all_so P Q ls f p.1)

both_so : (P Q R : LiveChanges → Type 0) (ls : List LiveChanges) → ((l : LiveChanges) → P l → Q l → R l) → AllByRecursion P ls → AllByRecursion Q ls → AllByRecursion R ls
both_so P Q R [] f p q = tt
both_so P Q R (l ∷ ls) f p q = (f l p.0 q.0, both_so P Q R ls f p.1 q.1)

-- a branch that is not settled has the notes of its changes, also before its first
own_notes : (j : Journal) (file : List ℕ) (h : History) (serial : Id) → HasNotes j file h → is_settled_in serial j.entries ≡ false → notes_in serial file j.entries ≡ map note_of (changes_by serial h.live)
own_notes j file h serial n fresh = elim (both_ways (is_unit serial j)) [
  | inl there ↦ n.notes serial there
  | inr without_it ↦ quiet serial file j.entries false fresh (sym (found_onto serial j.entries []) ∙ without_it) ∙ sym (ap (map note_of) (not_there serial j h.live without_it n.units))
]

-- Changes.

pub changes_keep_notes : ChangesKeepNotes
changes_keep_notes j file h tid serial cs n fresh some free found = record {
  notes = notes;
  units = all_changes (λ (q : Id). is_unit q (with_entries (entries_for tid serial file cs) j) ≡ true) serial cs h.live own
      (all_so (λ (l : LiveChanges). is_unit l.serial j ≡ true) (λ (l : LiveChanges). is_unit l.serial (with_entries (entries_for tid serial file cs) j) ≡ true) h.live (λ l there. still_unit l.serial tid serial file cs j there) n.units);
  some = made_changes serial cs h.live n.some;
  differ = once_changes serial cs h.live n.differ;
  orderly = (changes_more h serial cs n.orderly free found).orderly;
}
  where
    own : is_unit serial (with_entries (entries_for tid serial file cs) j) ≡ true
    own = entered serial tid serial file cs j.entries ∙ picked (has_changes cs && same_id serial serial) _ _ (and_from _ _ some (id_itself serial))

    mine : notes_in serial file (j.entries ++ entries_for tid serial file cs) ≡ map note_of (changes_by serial (with_changes serial cs h.live))
    mine = notes_append serial file j.entries (entries_for tid serial file cs) ∙ ap (λ (ns : List Note). ns ++ notes_in serial file j.entries) (notes_same serial tid file cs)
        ∙ ap (λ (ns : List Note). map note_of cs ++ ns) (own_notes j file h serial n fresh) ∙ sym (map-append note_of cs (changes_by serial h.live)) ∙ ap (map note_of) (sym (by_changes serial cs h.live))

    notes : (q : Id) → is_unit q (with_entries (entries_for tid serial file cs) j) ≡ true → notes_in q file (j.entries ++ entries_for tid serial file cs) ≡ map note_of (changes_by q (with_changes serial cs h.live))
    notes q there = elim (both_ways (same_id q serial)) [
      | inl same ↦ subst (λ (x : Id). notes_in x file (j.entries ++ entries_for tid serial file cs) ≡ map note_of (changes_by x (with_changes serial cs h.live))) (sym (id_is q serial same)) mine
      | inr other ↦ notes_append q file j.entries (entries_for tid serial file cs) ∙ ap (λ (ns : List Note). ns ++ notes_in q file j.entries) (notes_other q tid serial file file cs (inl other))
          ∙ n.notes q (was_unit q tid serial file cs j other there) ∙ ap (map note_of) (sym (by_others q serial cs h.live other))
    ]

pub changes_elsewhere_keep_notes : ChangesElsewhereKeepNotes
changes_elsewhere_keep_notes j file other h tid serial cs n differs fresh = record {
  notes = notes;
  units = all_so (λ (l : LiveChanges). is_unit l.serial j ≡ true) (λ (l : LiveChanges). is_unit l.serial (with_entries (entries_for tid serial other cs) j) ≡ true) h.live (λ l there. still_unit l.serial tid serial other cs j there) n.units;
  some = n.some;
  differ = n.differ;
  orderly = n.orderly;
}
  where
    elsewhere : bytes_eq file other ≡ false
    elsewhere = false_from_ne_true _ (λ (e : bytes_eq file other ≡ true). differs ((bytes_eq-Decides file other).0 e))

    alike : (q : Id) → notes_in q file (j.entries ++ entries_for tid serial other cs) ≡ notes_in q file j.entries
    alike q = notes_append q file j.entries (entries_for tid serial other cs) ∙ ap (λ (ns : List Note). ns ++ notes_in q file j.entries) (notes_other q tid serial file other cs (inr elsewhere))

    notes : (q : Id) → is_unit q (with_entries (entries_for tid serial other cs) j) ≡ true → notes_in q file (j.entries ++ entries_for tid serial other cs) ≡ map note_of (changes_by q h.live)
    notes q there = elim (both_ways (same_id q serial)) [
      | inl same ↦ alike q ∙ subst (λ (x : Id). notes_in x file j.entries ≡ map note_of (changes_by x h.live)) (sym (id_is q serial same)) (own_notes j file h serial n fresh)
      | inr not ↦ alike q ∙ n.notes q (was_unit q tid serial other cs j not there)
    ]

-- A branch is prepared.

pub prepares_keep_notes : PreparesKeepNotes
prepares_keep_notes j file h tid serial n = record {
  notes = λ q there. notes_append q file j.entries (PreparedEntry tid serial ∷ []) ∙ n.notes q (sym (same q) ∙ there);
  units = all_so (λ (l : LiveChanges). is_unit l.serial j ≡ true) (λ (l : LiveChanges). is_unit l.serial (with_entries (PreparedEntry tid serial ∷ []) j) ≡ true) h.live (λ l there. same l.serial ∙ there) n.units;
  some = n.some;
  differ = n.differ;
  orderly = n.orderly;
}
  where
    same : (q : Id) → is_unit q (with_entries (PreparedEntry tid serial ∷ []) j) ≡ is_unit q j
    same q = ap (λ (us : List RecoveryUnit). is_some (find_unit q us)) (units_follow j.entries (PreparedEntry tid serial ∷ [])) ∙ ap is_some (found_prepared q serial (units_in j.entries)) ∙ mapped_in (same_id q serial) (find_unit q (units_in j.entries))

-- A branch is settled.

trimmed_has_notes : (j : Journal) (file : List ℕ) (h : History) → HasNotes j file h → HasNotes (trimmed j) file h
trimmed_has_notes j file h n =
    let t = trim_keeps_units j in
    let same : (q : Id) → is_unit q (trimmed j) ≡ is_unit q j = λ q. ap (λ (us : List RecoveryUnit). is_some (find_unit q us)) t.units in
    record {
      notes = λ q there. t.notes q file (sym (same q) ∙ there) ∙ n.notes q (sym (same q) ∙ there);
      units = all_so (λ (l : LiveChanges). is_unit l.serial j ≡ true) (λ (l : LiveChanges). is_unit l.serial (trimmed j) ≡ true) h.live (λ l there. same l.serial ∙ there) n.units;
      some = n.some;
      differ = n.differ;
      orderly = n.orderly;
    }

orderly_after : (o : Outcome) (h : History) (s : Id) (moment : ℕ) → IsOrderly h → IsOrderly (settled_at s o moment h)
orderly_after Commit h s moment orderly = (commits_one h s moment orderly).orderly
orderly_after Abort h s moment orderly = (aborts_one h s moment orderly).orderly

-- the unsettled branches once one is settled are those without it
live_after : (h : History) (s : Id) (o : Outcome) (moment : ℕ) → AllByRecursion (λ (l : LiveChanges). has_changes l.changes ≡ true) h.live → (settled_at s o moment h).live ≡ without s h.live
live_after h s o moment some = go (changes_by s h.live) refl
  where
    go : (cs : List Change) → changes_by s h.live ≡ cs → (settled_with s o moment cs h).live ≡ without s h.live
    go [] is = sym (no_such s h.live is some)
    go (c ∷ cs) is = refl

settled_has_notes : (j : Journal) (file : List ℕ) (h : History) (tid serial : Id) (outcome : Outcome) (moment : ℕ) → HasNotes j file h
    → HasNotes (with_entries (SettledEntry tid serial outcome moment ∷ []) j) file (settled_at serial outcome moment h)
settled_has_notes j file h tid serial outcome moment n = record {
  notes = λ q there. notes_append q file j.entries (SettledEntry tid serial outcome moment ∷ []) ∙ notes q (kept q there);
  units = subst (AllByRecursion (λ (l : LiveChanges). is_unit l.serial (with_entries (SettledEntry tid serial outcome moment ∷ []) j) ≡ true)) (sym live)
      (both_so (λ (l : LiveChanges). is_unit l.serial j ≡ true) (λ (l : LiveChanges). same_id l.serial serial ≡ false) (λ (l : LiveChanges). is_unit l.serial (with_entries (SettledEntry tid serial outcome moment ∷ []) j) ≡ true) (without serial h.live)
      (λ l there other. left l.serial ∙ passed (same_id l.serial serial) _ _ other ∙ there) (left_so (λ (l : LiveChanges). is_unit l.serial j ≡ true) serial h.live n.units) (others_left serial h.live n.differ));
  some = subst (AllByRecursion (λ (l : LiveChanges). has_changes l.changes ≡ true)) (sym live) (left_so (λ (l : LiveChanges). has_changes l.changes ≡ true) serial h.live n.some);
  differ = subst SerialsDiffer (sym live) (differ_left serial h.live n.differ);
  orderly = orderly_after outcome h serial moment n.orderly;
}
  where
    live : (settled_at serial outcome moment h).live ≡ without serial h.live
    live = live_after h serial outcome moment n.some

    left : (q : Id) → is_unit q (with_entries (SettledEntry tid serial outcome moment ∷ []) j) ≡ cond (same_id q serial) false (is_unit q j)
    left q = ap (λ (us : List RecoveryUnit). is_some (find_unit q us)) (units_follow j.entries (SettledEntry tid serial outcome moment ∷ [])) ∙ ap is_some (found_settled q serial (units_in j.entries)) ∙ none_in (same_id q serial) (find_unit q (units_in j.entries))

    parts : (x y : Bool) → cond x false y ≡ true → (x ≡ false) × (y ≡ true)
    parts true y e = absurd cc
    parts false y e = (refl, e)

    kept : (q : Id) → is_unit q (with_entries (SettledEntry tid serial outcome moment ∷ []) j) ≡ true → (same_id q serial ≡ false) × (is_unit q j ≡ true)
    kept q there = parts (same_id q serial) (is_unit q j) (sym (left q) ∙ there)

    notes : (q : Id) → (same_id q serial ≡ false) × (is_unit q j ≡ true) → notes_in q file j.entries ≡ map note_of (changes_by q (settled_at serial outcome moment h).live)
    notes q is = n.notes q is.1 ∙ ap (map note_of) (sym (by_without q serial h.live is.0)) ∙ ap (λ (ls : List LiveChanges). map note_of (changes_by q ls)) (sym live)

pub settles_keep_notes : SettlesKeepNotes
settles_keep_notes j file h tid serial outcome moment n = go (find_unit serial (units_in j.entries)) refl
  where
    go : (o : Option RecoveryUnit) → find_unit serial (units_in j.entries) ≡ o → HasNotes (trimmed (elim o [ Some u ↦ with_entries (SettledEntry tid serial outcome moment ∷ []) j | None ↦ j ])) file (settled_at serial outcome moment h)
    go (Some u) is = trimmed_has_notes (with_entries (SettledEntry tid serial outcome moment ∷ []) j) file (settled_at serial outcome moment h) (settled_has_notes j file h tid serial outcome moment n)
    go None is = trimmed_has_notes j file (settled_at serial outcome moment h)
        (subst (λ (cs : List Change). HasNotes j file (settled_with serial outcome moment cs h)) (sym (not_there serial j h.live (ap is_some is) n.units)) n)

-- A file that no branch changed.

none_live : (ls : List LiveChanges) (m : Records) → ls ≡ [] → Represents ls (map_in (on_top ls m)) (map_in m)
none_live [] m e = record { apart = tt; restores = λ key. refl; images = tt }
none_live (l ∷ ls) m e = absurd cc

none_of : (P : LiveChanges → Type 0) (ls : List LiveChanges) → ls ≡ [] → AllByRecursion P ls
none_of P [] e = tt
none_of P (l ∷ ls) e = absurd cc

none_differ : (ls : List LiveChanges) → ls ≡ [] → SerialsDiffer ls
none_differ [] e = tt
none_differ (l ∷ ls) e = absurd cc

none_noted : (q : Id) (file : List ℕ) (es : List JournalEntry) → list_any (is_of_file file) es ≡ false → notes_in q file es ≡ []
none_noted q file [] no_entry = refl
none_noted q file (e ∷ es) no_entry = ap (λ (ns : List Note). ns ++ notes_of q file e) (none_noted q file es (or_second (is_of_file file e) _ no_entry)) ∙ one e (or_first _ _ no_entry)
  where
    one : (e : JournalEntry) → is_of_file file e ≡ false → notes_of q file e ≡ []
    one (ChangeEntry tid t of key before) other = none_if _ (key, before) (not_both (same_id q t) (bytes_eq file of) (inr other))
    one (PreparedEntry tid t) other = refl
    one (SettledEntry tid t outcome moment) other = refl

pub unchanged_has_notes : UnchangedHasNotes
unchanged_has_notes j file h rests no_entry = record {
  notes = λ q there. none_noted q file j.entries no_entry ∙ ap (λ (ls : List LiveChanges). map note_of (changes_by q ls)) (sym rests);
  units = none_of _ h.live rests;
  some = none_of _ h.live rests;
  differ = none_differ h.live rests;
  orderly = record { represents = none_live h.live (records h) rests; latest = none_of _ h.live rests };
}

-- What is restored.

notes_back : (cs : List Change) (m : Map) (key : Key) → put_back (map note_of cs) m key ≡ with_before_images cs m key
notes_back [] m key = refl
notes_back (c ∷ cs) m key = notes_back cs (with_key m c.key c.before) key ∙ step (is_of key c) (changes_key key cs)
  where
    step : (x y : Bool) → cond y (earliest_before cs key) (cond x c.before (m key)) ≡ cond (x || y) (cond y (earliest_before cs key) c.before) (m key)
    step true true = refl
    step true false = refl
    step false true = refl
    step false false = refl

pub notes_restore : NotesRestore
notes_restore j file h serial n there m key = ap (λ (ns : List Note). put_back ns m key) (n.notes serial there) ∙ notes_back (changes_by serial h.live) m key

group_first : (ls : List LiveChanges) (m n o : Map) → IsUndoGroup ls m n → UndoGroups ls n o → UndoGroups ls m o
group_first ls m n o g none = more m n none g
group_first ls m n o g (more k p gs last) = more k p (group_first ls m n k g gs) last

-- the branch of a serial among others
pub record IsAmong (serial : Id) (ls : List LiveChanges) : Type 0 where
  front : List LiveChanges
  branch : LiveChanges
  back : List LiveChanges
  parts : ls ≡ front ++ branch ∷ back
  changes : branch.changes ≡ changes_by serial ls

among : (serial : Id) (ls : List LiveChanges) → (changes_by serial ls ≡ []) ⊎ IsAmong serial ls
among serial [] = inl refl
among serial (l ∷ ls) = step (same_id serial l.serial) refl (among serial ls)
  where
    step : (x : Bool) → same_id serial l.serial ≡ x → (changes_by serial ls ≡ []) ⊎ IsAmong serial ls → (changes_by serial (l ∷ ls) ≡ []) ⊎ IsAmong serial (l ∷ ls)
    step true is later = inr (record { front = []; branch = l; back = ls; parts = refl; changes = sym (picked (same_id serial l.serial) _ _ is) })
    step false is (inl none_made) = inl (passed (same_id serial l.serial) _ _ is ∙ none_made)
    step false is (inr a) = inr (record { front = l ∷ a.front; branch = a.branch; back = a.back; parts = ap (λ (ks : List LiveChanges). l ∷ ks) a.parts; changes = a.changes ∙ sym (passed (same_id serial l.serial) _ _ is) })

no_more : (newer older : List Note) → [] ≡ newer ++ older → newer ≡ []
no_more [] older e = refl
no_more (x ∷ newer) older e = absurd cc

-- notes of the changes that are left of a branch, of which those before are put back already
cut_short : (ls front back : List LiveChanges) (l : LiveChanges) (done left : List Change) (newer older : List Note) (m committed : Map) → ls ≡ front ++ l ∷ back → l.changes ≡ done ++ left → map note_of left ≡ newer ++ older
    → Represents ls m committed → UndoGroups ls m (put_back newer m)
cut_short ls front back l done left [] older m committed parts changes are h = none
cut_short ls front back l done [] (x ∷ newer) older m committed parts changes are h = absurd cc
cut_short ls front back l done (c ∷ left) (x ∷ newer) older m committed parts changes are h =
    let first : IsUndoGroup ls m (with_key m c.key c.before) = before_image_is_group ls front back l done left c m committed h parts changes in
    let rest : UndoGroups ls (with_key m c.key c.before) (put_back newer (with_key m c.key c.before)) =
    cut_short ls front back l (done ++ c ∷ []) left newer older (with_key m c.key c.before) committed parts (changes ∙ sym (append_assoc done (c ∷ []) left)) (tail_is are) (group_keeps ls m (with_key m c.key c.before) committed h first.others first.images) in
    subst (λ (y : Note). UndoGroups ls m (put_back newer (with_key m y.0 y.1))) (head_is are) (group_first ls m (with_key m c.key c.before) (put_back newer (with_key m c.key c.before)) first rest)
  where
    head_is : note_of c ∷ map note_of left ≡ x ∷ newer ++ older → note_of c ≡ x
    head_is e = cc

    tail_is : note_of c ∷ map note_of left ≡ x ∷ newer ++ older → map note_of left ≡ newer ++ older
    tail_is e = cc

pub notes_cut_short : NotesCutShort
notes_cut_short j file h serial newer older m n there represents are = go (among serial h.live)
  where
    told : map note_of (changes_by serial h.live) ≡ newer ++ older
    told = sym (n.notes serial there) ∙ are

    go : (changes_by serial h.live ≡ []) ⊎ IsAmong serial h.live → UndoGroups h.live m (put_back newer m)
    go (inl none_made) = subst (λ (ns : List Note). UndoGroups h.live m (put_back ns m)) (sym (no_more newer older (sym (ap (map note_of) none_made) ∙ told))) none
    go (inr a) = cut_short h.live a.front a.back a.branch [] (changes_by serial h.live) newer older m (map_in (records h)) a.parts a.changes told represents
