-- Where a line leaves the grammar.
use Rattle.std.specs.Prelude.{◌≡◌, ℕ, ◌⊎◌, List, [], ◌∷◌, ◌++◌, true}
use Rattle.script_model.specs.LineWords.{Word, words_of}
use Rattle.script_model.specs.Statements.{Statement, Reading, Blank, Says, Bad}
use Rattle.script_model.specs.Grammar.{Shape, is_side, reads, line_shape, reading}

-- with some words behind them these words are a statement of this shape
pub record CanGoOn (shape : Shape) (words : List Word) : Type 0 where
  pub more : List Word
  pub statement : Statement
  pub says : reads shape (words ++ more) 0 ≡ Says statement

-- these words are the front of a statement, and the column is that behind the line
pub record WantsMore (shape : Shape) (words : List Word) (end column : ℕ) : Type 0 where
  pub column_is : column ≡ end
  pub goes_on : CanGoOn shape words

-- the words before one of these words are the front of a statement, with that word they are the front of none, and the column is that word's
pub record BreaksAt (shape : Shape) (words : List Word) (column : ℕ) : Type 0 where
  pub before : List Word
  pub word : Word
  pub after : List Word
  pub words_are : words ≡ before ++ word ∷ after
  pub column_is : column ≡ word.column
  pub goes_on : CanGoOn shape before
  pub breaks : CanGoOn shape (before ++ word ∷ []) → ⊥

-- the last of these words names a journal of a file, which is no file without a word behind it; these words are the front of a statement, and the column is that word's
pub record MayNotEnd (shape : Shape) (words : List Word) (column : ℕ) : Type 0 where
  pub before : List Word
  pub word : Word
  pub words_are : words ≡ before ++ word ∷ []
  pub column_is : column ≡ word.column
  pub names_journal : is_side word.text ≡ true
  pub goes_on : CanGoOn shape words

-- a column is told where a word is missing, at the first word that cannot stand there, or at a last word that cannot stand last
abbrev pub TellsWhere : Shape → List Word → ℕ → Reading → Type 0
TellsWhere shape words end Blank = Unit {0}
TellsWhere shape words end (Says s) = Unit {0}
TellsWhere shape words end (Bad column) = WantsMore shape words end column ⊎ (BreaksAt shape words column ⊎ MayNotEnd shape words column)

-- what a line says tells where it leaves the grammar
abbrev pub LineTellsWhere : List ℕ → Type 0
LineTellsWhere line = TellsWhere line_shape (words_of line).words (words_of line).end (reading line)
