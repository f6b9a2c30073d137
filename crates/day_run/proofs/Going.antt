-- One line of a day more: what is counted, and how far the script has come.
use Rattle.std.proofs.Common.{◌≡◌, ℕ, zero, suc, ◌+◌, ◌*◌, ◌≤◌, ◌==◌, if◌then◌else◌, codes, decimal, List, [], ◌∷◌, ◌++◌, Bool, true, false, Option, Some, None, length, refl, sym, ◌∙◌, ap, subst, arith, length-append}
use Rattle.std.specs.Option.{option_map}
use Rattle.emitter_model.specs.transcript_model.Lines as line
use Rattle.emitter_model.specs.transcript_model.Lines.{Line}
use Rattle.emitter_model.specs.Emitting.{Emits, Shown}
use Rattle.emitter_model.specs.Tally.{Tally, tallied_by}
use Rattle.world_laws.specs.run_model.Transcript.{Entry}
use Rattle.world_laws.proofs.run_model.NodeLists.{some_is}
use Rattle.day_model.specs.Draws.{below, next}
use Rattle.day_model.specs.Pieces as piece
use Rattle.day_model.specs.Pieces.{Piece, Words, changed, day, dumps, ended, ending, opening, transaction, transaction_start, transactions, written}
use Rattle.day_script.specs.Steps.{piece_of}
use Rattle.day_script.specs.declared.steps.Step.{Step}
use Rattle.day_script.specs.declared.steps.Step.TheVariants as step
use Rattle.day_model.specs.Days.{DayReached, IsOf, Stops, counted, stops, tally_of}
use Rattle.day_model.specs.Readings.{AllSpeakOn}

-- What an emitter counts of lines.
pub tally_on : (a b : Shown) (lines : List Line) (t u : Tally) → Emits a lines b → a.tally ≡ Some t → b.tally ≡ Some u → u ≡ tallied_by lines t
tally_on a b lines t u m e f = some_is u (tallied_by lines t) (sym f ∙ m.counted ∙ ap (option_map (tallied_by lines)) e)

module _ (all left : List Piece) (p : Piece) (es : List Entry) (counts : List ℕ) (t u : Tally) (goes : DayReached all es (p ∷ left) counts) (same : t ≡ tally_of es) (e : Entry) (source : e.source ≡ written t.sent p) (count : u ≡ tallied_by e.lines t) where
  pub counted_on : u ≡ tally_of (e ∷ es)
  counted_on = count ∙ ap (tallied_by e.lines) same

  of : IsOf p es e
  of = source ∙ ap (λ (x : Tally). written x.sent p) same

  pub goes_on : (more : List ℕ) → stops p u.last ≡ false → more ≡ counts ++ counted p u.last → DayReached all (e ∷ es) left more
  goes_on more stop is = (p, counts, goes, of, ap (λ (x : Tally). stops p x.last) (sym counted_on) ∙ stop, is ∙ ap (λ (x : Tally). counts ++ counted p x.last) counted_on)

  pub stops_here : stops p u.last ≡ true → Stops all (e ∷ es)
  stops_here stop = (p, left, counts, goes, of, ap (λ (x : Tally). stops p x.last) (sym counted_on) ∙ stop)

head_is : (p q : Piece) (ps qs : List Piece) → p ∷ ps ≡ q ∷ qs → p ≡ q
head_is p q ps qs e = cc

tail_is : (p q : Piece) (ps qs : List Piece) → p ∷ ps ≡ q ∷ qs → ps ≡ qs
tail_is p q ps qs e = cc

-- the pieces at the head of a script, by the entries so far
module _ (all : List Piece) (a b : Piece) (rest : List Piece) (parts : all ≡ a ∷ (b ∷ rest)) where
  pub first_piece : (p : Piece) (left : List Piece) (counts : List ℕ) → DayReached all [] (p ∷ left) counts → p ≡ a
  first_piece p left counts g = head_is p a left (b ∷ rest) (g.0 ∙ parts)

  pub second_piece : (e : Entry) (p : Piece) (left : List Piece) (counts : List ℕ) → DayReached all (e ∷ []) (p ∷ left) counts → p ≡ b
  second_piece e p left counts g = head_is p b left rest (tail_is g.0 a (p ∷ left) (b ∷ rest) (g.2.0 ∙ parts))

  -- behind the first two all speak on
  pub left_speaks : (e f : Entry) (es : List Entry) (left : List Piece) (counts : List ℕ) → AllSpeakOn rest → DayReached all (e ∷ f ∷ es) left counts → AllSpeakOn left
  left_speaks e f [] left counts h g = subst AllSpeakOn (sym (tail_is g.0 b left rest (tail_is g.2.0 a (g.0 ∷ left) (b ∷ rest) (g.2.2.0 ∙ parts)))) h
  left_speaks e f (x ∷ es) left counts h g = (left_speaks f x es (g.0 ∷ left) g.1 h g.2).1

-- How many pieces and how many dumps a day has.

-- one, where a piece is a dump
abbrev pub is_dump : Piece → ℕ
is_dump (piece.Dump node file) = 1
is_dump _ = 0

abbrev pub dumps_in : List Piece → ℕ
dumps_in [] = 0
dumps_in (p ∷ ps) = is_dump p + dumps_in ps

dumps_on : (xs ys : List Piece) → dumps_in (xs ++ ys) ≡ dumps_in xs + dumps_in ys
dumps_on [] ys = omega arith
dumps_on (x ∷ xs) ys = omega (arith, dumps_on xs ys)

ended_dumps : (i choice : ℕ) → dumps_in (ended i choice) ≡ 0
ended_dumps i choice = by (choice == 0) (choice == 1) (choice == 2)
  where
    by : (a b c : Bool) → dumps_in (if a then Words (codes "A: ABORT_TRANS T" ++ decimal i) ∷ piece.Settle ∷ []
        else if b then Words (codes "CRASH A") ∷ piece.Settle ∷ []
        else if c then ending i ++ (Words (codes "CRASH B") ∷ piece.Settle ∷ [])
        else ending i ++ (piece.Deliver ∷ piece.Deliver ∷ piece.Deliver ∷ piece.Deliver ∷ [])) ≡ 0
    by true b c = refl
    by false true c = refl
    by false false true = refl
    by false false false = refl

ended_few : (i choice : ℕ) → length (ended i choice) ≤ 6
ended_few i choice = by (choice == 0) (choice == 1) (choice == 2)
  where
    by : (a b c : Bool) → length (if a then Words (codes "A: ABORT_TRANS T" ++ decimal i) ∷ piece.Settle ∷ []
        else if b then Words (codes "CRASH A") ∷ piece.Settle ∷ []
        else if c then ending i ++ (Words (codes "CRASH B") ∷ piece.Settle ∷ [])
        else ending i ++ (piece.Deliver ∷ piece.Deliver ∷ piece.Deliver ∷ piece.Deliver ∷ [])) ≤ 6
    by true b c = omega arith
    by false true c = omega arith
    by false false true = omega arith
    by false false false = omega arith

transactions_dumps : (count i x : ℕ) → dumps_in (transactions count i x) ≡ 0
transactions_dumps zero i x = refl
transactions_dumps (suc count) i x =
    let key = below 200 (next x) + 1 in
    let choice = below 10 (next (next x)) in
    omega (arith, dumps_on (transaction i key choice) (transactions count (i + 1) (next (next x))), dumps_on (transaction_start i) (changed i key ++ ended i choice), dumps_on (changed i key) (ended i choice), ended_dumps i choice, transactions_dumps count (i + 1) (next (next x)))

transactions_few : (count i x : ℕ) → length (transactions count i x) ≤ 14 * count
transactions_few zero i x = omega arith
transactions_few (suc count) i x =
    let key = below 200 (next x) + 1 in
    let choice = below 10 (next (next x)) in
    omega (arith, length-append (transaction i key choice) (transactions count (i + 1) (next (next x))), length-append (transaction_start i) (changed i key ++ ended i choice), length-append (changed i key) (ended i choice), ended_few i choice, transactions_few count (i + 1) (next (next x)))

pub day_dumps : (count start : ℕ) → dumps_in (day count start) ≡ 6
day_dumps count start =
    omega (arith, dumps_on opening (transactions count 1 start ++ (piece.Settle ∷ dumps)), dumps_on (transactions count 1 start) (piece.Settle ∷ dumps), transactions_dumps count 1 start)

pub day_few : (count start : ℕ) → count ≤ 10000 → length (day count start) ≤ 140023
day_few count start le =
    omega (arith, le, length-append opening (transactions count 1 start ++ (piece.Settle ∷ dumps)), length-append (transactions count 1 start) (piece.Settle ∷ dumps), transactions_few count 1 start)

-- a dump alone has a count, and one

counted_few : (p : Piece) (answer : Option Line) → length (counted p answer) ≤ is_dump p
counted_few (piece.Dump node file) None = omega arith
counted_few (piece.Dump node file) (Some (line.NormalCount n)) = omega arith
counted_few (piece.Dump node file) (Some _) = omega arith
counted_few (Words text) answer = omega arith
counted_few piece.Deliver answer = omega arith
counted_few piece.Settle answer = omega arith

same_dump : (s : Step) (number key n k : ℕ) → is_dump (piece_of number key s) ≡ is_dump (piece_of n k s)
same_dump (step.Dump side file) number key n k = refl
same_dump _ number key n k = refl

pub dump_few : (s : Step) (answer : Option Line) (number key n k : ℕ) → length (counted (piece_of number key s) answer) ≤ is_dump (piece_of n k s)
dump_few s answer number key n k = omega (arith, counted_few (piece_of number key s) answer, same_dump s number key n k)
