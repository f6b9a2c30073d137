-- The lines of a journal, by its first entry.
use Rattle.std.proofs.Common.{◌≡◌, ◌≤◌, ℕ, ◌+◌, List, [], ◌∷◌, ◌++◌, ap, sym, ◌∙◌, length, get_or, arith}
use Rattle.reference_index.specs.transcript_model.Lines.{Line, NormalSpan}
use Rattle.unit_laws.specs.Journal.{entry_size, entries_size}
use Rattle.reference_index.specs.run_model.Answers.{entry_line, entry_lines}
use Rattle.reference_index.proofs.ListLemmas.{behind_first, parts}
use Rattle.reference_units.specs.declared.journal.JournalEntry.{JournalEntry}
use Rattle.reference_units.specs.Entries.{entry_of, entries_of}

-- the lines of entries from a position on, and that of the span of which these are the last
abbrev pub shown_from : (first position : ℕ) → List JournalEntry → List Line
shown_from first position es = entry_lines position (entries_of es) ++ NormalSpan first (position + entries_size (entries_of es)) ∷ []

pub first_shown : (first position size : ℕ) (es : List JournalEntry) (e : JournalEntry) → 1 ≤ length es → e ≡ get_or es 0 e → size ≡ entry_size (entry_of e) →
    entry_line position (entry_of e) ∷ shown_from first (position + size) (behind_first es) ≡ shown_from first position es
first_shown first position size es e some is sized =
    let now = entry_size (entry_of e) in
    let rest = entries_of (behind_first es) in
    let sum : (position + now) + entries_size rest ≡ position + (now + entries_size rest) = omega arith in
    ap (λ n. entry_line position (entry_of e) ∷ shown_from first (position + n) (behind_first es)) sized
    ∙ ap (λ n. entry_line position (entry_of e) ∷ (entry_lines (position + now) rest ++ NormalSpan first n ∷ [])) sum
    ∙ ap (shown_from first position) (sym (parts es e some is))
