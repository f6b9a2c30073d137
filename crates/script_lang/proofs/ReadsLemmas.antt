-- Shapes, and the words that are left.
use Rattle.std.proofs.Common.{◌≡◌, ℕ, Bool, List, [], ◌∷◌, true, false, refl, subst, ◌∙◌, Result, Ok, Err}
use Rattle.std.specs.Result.{IsErrAnd}
use Rattle.std.proofs.lemmas.Result.{err_from_is_err_and}
use Rattle.script_model.specs.LineWords.{Ahead, Word, is_empty}
use Rattle.script_model.specs.Statements as model
use Rattle.script_model.specs.Grammar.{Kind, Meaning, Shape, EndsOr, Then, ThenMore, reads}
use Rattle.script_lang.specs.Reads.{Takes, TakesMore, Reads}
use Rattle.script_lang.specs.declared.statement.Statement.{Statement}
use Rattle.script_lang.specs.declared.words.LineErr.{LineErr}

ends_or_goes_on : (s : model.Statement) (shape : Shape) (ws : List Word) (end : ℕ) → is_empty ws ≡ false → reads (EndsOr s shape) ws end ≡ reads shape ws end
ends_or_goes_on s shape [] end h = cc
ends_or_goes_on s shape (w ∷ ws) end h = refl

-- one word was read, and then what comes behind it
pub took : {V : Type 0} {k : Kind} {meant : V → Meaning k} {next : Meaning k → Shape} {view : Statement → model.Statement} {old mid : Ahead} {r : Result V LineErr} {v : V} {result : Result Statement LineErr} → Takes k meant old r mid → r ≡ Ok v → Reads view (next (meant v)) mid result → Reads view (Then k next) old result
took {next = next} t e rest = record { is = t.is next ∙ rw e rest.is }

-- no such word was there
pub missed : {V : Type 0} {k : Kind} {meant : V → Meaning k} {next : Meaning k → Shape} {view : Statement → model.Statement} {old mid : Ahead} {r : Result V LineErr} {e : LineErr} {result : Result Statement LineErr} → Takes k meant old r mid → r ≡ Err e → IsErrAnd result (λ y. y ≡ e) → Reads view (Then k next) old result
missed {next = next} {result = result} t e p = let q = err_from_is_err_and result p in record { is = t.is next ∙ rw (e, q.1, q.2) refl }

-- nor where a word of this kind may not stand last
pub took_more : {V : Type 0} {k : Kind} {not_last : Meaning k → Bool} {meant : V → Meaning k} {next : Meaning k → Shape} {view : Statement → model.Statement} {old mid : Ahead} {r : Result V LineErr} {v : V} {result : Result Statement LineErr} → TakesMore k not_last meant old r mid → r ≡ Ok v → Reads view (next (meant v)) mid result → Reads view (ThenMore k not_last next) old result
took_more {next = next} t e rest = record { is = t.is next ∙ rw e rest.is }

pub missed_more : {V : Type 0} {k : Kind} {not_last : Meaning k → Bool} {meant : V → Meaning k} {next : Meaning k → Shape} {view : Statement → model.Statement} {old mid : Ahead} {r : Result V LineErr} {e : LineErr} {result : Result Statement LineErr} → TakesMore k not_last meant old r mid → r ≡ Err e → IsErrAnd result (λ y. y ≡ e) → Reads view (ThenMore k not_last next) old result
missed_more {next = next} {result = result} t e p = let q = err_from_is_err_and result p in record { is = t.is next ∙ rw (e, q.1, q.2) refl }

ends_here : (s : model.Statement) (shape : Shape) (ws : List Word) (end : ℕ) → is_empty ws ≡ true → reads (EndsOr s shape) ws end ≡ model.Says s
ends_here s shape [] end h = refl
ends_here s shape (w ∷ ws) end h = cc

-- no word was left
pub or_ended : {view : Statement → model.Statement} {old : Ahead} {shape : Shape} (v : Statement) → is_empty old.words ≡ true → Reads view (EndsOr (view v) shape) old (Ok v)
or_ended {view = view} {old = old} {shape = shape} v h = record { is = ends_here (view v) shape old.words old.end h }

-- nor where it is said that this statement ends there
pub or_ended_as : {view : Statement → model.Statement} {old : Ahead} {shape : Shape} (v : Statement) (s : model.Statement) → view v ≡ s → is_empty old.words ≡ true → Reads view (EndsOr s shape) old (Ok v)
or_ended_as {view = view} {old = old} {shape = shape} v s e h = subst (λ t. Reads view (EndsOr t shape) old (Ok v)) e (or_ended v h)

-- a word was left
pub or_went_on : {view : Statement → model.Statement} {old : Ahead} {result : Result Statement LineErr} {shape : Shape} (s : model.Statement) → is_empty old.words ≡ false → Reads view shape old result → Reads view (EndsOr s shape) old result
or_went_on {old = old} {shape = shape} s h r = record { is = ends_or_goes_on s shape old.words old.end h ∙ r.is }
