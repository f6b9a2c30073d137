-- What a line was read to say.
use Rattle.std.proofs.Common.{◌≡◌, ℕ, List, Option, Some, None, Ok, sym, ◌∙◌, ap, arith}
use Rattle.script_lang.specs.script_model.Statements.{At, Backward, Bad, Blank, Clock, Deliver, Forward, LinkDown, Recover, Says, Settle, Statement}
use Rattle.script_lang.specs.script_model.Grammar.{reading}
use Rattle.script_lang.specs.Statements.{reading_of, statement_of}
use Rattle.script_lang.specs.declared.literals.Literals.{Literals}
use Rattle.script_lang.specs.declared.statement.Statement as code
use Rattle.script_laws.specs.Clocks.{ClocksAreEarly, IsEarly}
use Rattle.run_nodes.specs.Untold.{IsTimely}

pub read_blank : (lit : Literals) (o : Option code.Statement) (given line : List ℕ) → o ≡ None → given ≡ line → reading_of lit (Ok o) ≡ reading given → reading line ≡ Blank
read_blank lit o given line e is h = ap reading (sym is) ∙ sym h ∙ ap (λ x. reading_of lit (Ok x)) e

pub read_says : (lit : Literals) (o : Option code.Statement) (s : code.Statement) (given line : List ℕ) → o ≡ Some s → given ≡ line → reading_of lit (Ok o) ≡ reading given → reading line ≡ Says (statement_of lit s)
read_says lit o s given line e is h = ap reading (sym is) ∙ sym h ∙ ap (λ x. reading_of lit (Ok x)) e

pub read_bad : (column : ℕ) (given line : List ℕ) → given ≡ line → Bad column ≡ reading given → reading line ≡ Bad column
read_bad column given line is h = ap reading (sym is) ∙ sym h

-- a line that says a statement is neither skipped nor outside the grammar

pub not_skipped : (line : List ℕ) (s : Statement) → reading line ≡ Says s → reading line ≡ Blank → ⊥
not_skipped line s says blank = let same : Says s ≡ Blank = sym says ∙ blank in let none : ⊥ = cc in none

pub not_bad : (line : List ℕ) (s : Statement) (column : ℕ) → reading line ≡ Says s → reading line ≡ Bad column → ⊥
not_bad line s column says bad = let same : Says s ≡ Bad column = sym says ∙ bad in let none : ⊥ = cc in none

-- a clock that is set is set to a moment that can be read, and so is the moment up to which a file is recovered
pub timely : ClocksAreEarly → (line : List ℕ) (s : Statement) → reading line ≡ Says s → IsTimely s
timely law line s says = by s (law line s says)
  where
    by : (x : Statement) → IsEarly x → IsTimely x
    by (At node (Clock now)) h = omega (arith, h)
    by (At node (Recover file (Forward None))) h = tt
    by (At node (Recover file (Forward (Some until)))) h = omega (arith, h)
    by (At node (Recover file (Backward until))) h = omega (arith, h)
    by (At node _) h = tt
    by (Deliver number) h = tt
    by (LinkDown a b) h = tt
    by Settle h = tt
