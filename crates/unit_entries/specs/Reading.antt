-- Entries of a journal with the positions at which they begin, and those of one branch.
use Rattle.std.specs.Prelude.{◌≡◌, ℕ, ◌+◌, ◌<◌, ◌==◌, ◌&&◌, Bool, false, List, [], ◌∷◌, ◌++◌, length, map, if◌then◌else◌}
use Rattle.std.specs.List.{flat_map}
use Rattle.vms_base.specs.vms_model.Limits.{file_limit}
use Rattle.file_base.specs.declared.head.Span.{Span}
use Rattle.vms_base.specs.vms_model.Ids.{Id}
use Rattle.table_keys.specs.records_model.History.{same_id}
use Rattle.journal_format.specs.journal_model.Entries.{Entry, spelling}
use Rattle.ru_journal.specs.Told.{JournalScan, after, is_out_of_order, nothing_told, told_by}

-- each entry with its position, of which the first has this one
abbrev pub placed : ℕ → List Entry → List (ℕ × Entry)
placed p [] = []
placed p (e ∷ es) = (p, e) ∷ placed (p + length (spelling e)) es

-- each may stand behind those before it, and is of a file that may be
abbrev pub AreInOrder : JournalScan → List (ℕ × Entry) → Type 0
AreInOrder t [] = Unit {0}
AreInOrder t (e ∷ es) = (is_out_of_order e.1 t ≡ false) × (e.1.file < file_limit) × AreInOrder (after e.0 e.1 t) es

-- whether an entry is of a change that a branch made
abbrev pub is_change_of : Id → Entry → Bool
is_change_of serial e = (e.kind == 1) && same_id serial e.serial

-- the changes of a branch among entries, the oldest first
abbrev pub changes_of : Id → List (ℕ × Entry) → List (ℕ × Entry)
changes_of serial [] = []
changes_of serial (e ∷ es) = if is_change_of serial e.1 then e ∷ changes_of serial es else changes_of serial es

-- where they begin
abbrev pub positions_of : Id → List (ℕ × Entry) → List ℕ
positions_of serial es = map (λ (e : ℕ × Entry). e.0) (changes_of serial es)

-- the first of a journal's entries were read, up to this position
pub record AreRead (s : Span) (es front : List Entry) (position : ℕ) : Type 0 where
  pub back : List Entry
  pub split : es ≡ front ++ back
  pub place : position ≡ s.first + length (flat_map spelling front)

-- up to this position the entries of a journal told this
pub record HasRead (c : List (List ℕ)) (s : Span) (es : List Entry) (position : ℕ) (t : JournalScan) : Type 0 where
  pub front : List Entry
  pub read : AreRead s es front position
  pub told : t ≡ told_by (placed s.first front)
  pub count : t.entries ≡ length front
  pub order : AreInOrder nothing_told (placed s.first es) → AreInOrder t (placed position read.back)
