-- What readers of words read.
use Rattle.std.specs.Prelude.{◌≡◌, Bool, Result, Ok, Err}
use Rattle.script_model.specs.LineWords.{Ahead}
use Rattle.script_model.specs.Statements as model
use Rattle.script_model.specs.Statements.{Reading}
use Rattle.script_model.specs.Grammar.{Kind, Meaning, Shape, Then, ThenMore, Ends, reads}
use Rattle.script_lang.specs.declared.statement.Statement.{Statement}
use Rattle.script_lang.specs.declared.words.LineErr.{LineErr}

-- what the rest of a line says in a shape
abbrev pub reads_on : Shape → Ahead → Reading
reads_on shape ahead = reads shape ahead.words ahead.end

-- what comes of a value that was read, or of the column where there was none
abbrev pub goes : {V M : Type 0} → (V → M) → Result V LineErr → (M → Reading) → Reading
goes view (Ok v) next = next (view v)
goes view (Err e) next = model.Bad e.column

-- a word of this kind was read, whatever the shape of what comes then
pub record Takes {V : Type 0} (k : Kind) (view : V → Meaning k) (old : Ahead) (result : Result V LineErr) (new : Ahead) : Type 0 where
  pub is : (next : Meaning k → Shape) → reads_on (Then k next) old ≡ goes view result (λ m. reads_on (next m) new)

-- and one that does not stand last where this holds of its meaning
pub record TakesMore {V : Type 0} (k : Kind) (not_last : Meaning k → Bool) (view : V → Meaning k) (old : Ahead) (result : Result V LineErr) (new : Ahead) : Type 0 where
  pub is : (next : Meaning k → Shape) → reads_on (ThenMore k not_last next) old ≡ goes view result (λ m. reads_on (next m) new)

-- the line ends here, whatever it then says
pub record Finishes {V : Type 0} (old : Ahead) (result : Result V LineErr) : Type 0 where
  pub is : (s : model.Statement) → reads_on (Ends s) old ≡ goes (λ _. s) result model.Says

-- what was read is what words in this shape say
pub record Reads (view : Statement → model.Statement) (shape : Shape) (old : Ahead) (result : Result Statement LineErr) : Type 0 where
  pub is : reads_on shape old ≡ goes view result model.Says
