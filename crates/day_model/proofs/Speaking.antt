-- Each line of a day says a statement.
use Rattle.std.proofs.Common.{◌≡◌, ℕ, zero, suc, ◌+◌, ◌/◌, ◌^◌, ◌<◌, ◌≤◌, ◌==◌, List, [], ◌∷◌, ◌++◌, Bool, true, false, Some, None, length, decimal, codes, refl, sym, ◌∙◌, ap, subst, arith, if◌then◌else◌}
use Rattle.std.proofs.lemmas.Fmt.{decimal_nonempty, length-decimal-le}
use Rattle.vms_model.specs.Names.{label_named, upper}
use Rattle.run_model.specs.script_model.LineWords.{Between, Inside, Quoted, word_rest}
use Rattle.run_model.specs.script_model.Statements.{Says, Settle, At, Init, Deliver as Delivers, StartTrans, AddBranch, StartBranch, EndBranch, EndTrans, AbortTrans, Records, Put}
use Rattle.run_model.specs.script_model.Grammar.{reading}
use Rattle.day_model.specs.Draws.{next, below}
use Rattle.day_model.specs.Pieces as piece
use Rattle.day_model.specs.Pieces.{Piece, Words, changed, day, dumps, ended, ending, last_digit, makes_files, quoted, six_digits, transaction, transaction_start, transactions, words_of}
use Rattle.day_model.specs.Readings.{AllSpeak, AllSpeakOn, DaysMakeOnce, DaysSpeak, SpeaksOn}
use Rattle.day_model.proofs.Decimals.{AreClear, Digits, IsClear, clear_on, decimal_digits, digits_clear, inside_end, inside_quoted, inside_then, label_said, number_said, quoted_said, rest_end, rest_quoted, rest_then, word_end, word_then}
use Rattle.day_model.proofs.Hearing.{heard, said_by, texts_from}

-- the digits of the number of a transaction
pub record Number (ds : List ℕ) : Type 0 where
  digits : Digits ds
  clear : AreClear ds
  few : length ds ≤ 14

number : (n : ℕ) → n ≤ 10000 → Number (decimal n)
number n h =
    let small : n < 2 ^ 64 = omega (arith, h) in
    let ds = decimal_digits n small in
    record { digits = ds; clear = digits_clear (decimal n) ds; few = length-decimal-le 14 n (omega arith) (omega (arith, h)) small }

six_clear : (n : ℕ) → AreClear (six_digits n)
six_clear n = (at (n / 100000), (at (n / 10000), (at (n / 1000), (at (n / 100), (at (n / 10), (at n, tt))))))
  where
    at : (m : ℕ) → IsClear (last_digit m)
    at m = (omega arith, omega arith)

module _ (ds : List ℕ) (d : Number ds) where
  t_named : label_named (84 ∷ ds) ≡ Some (upper (84 ∷ ds))
  t_named = label_said 84 ds (omega arith, omega arith) d.digits d.few

  u_named : label_named (85 ∷ ds) ≡ Some (upper (85 ∷ ds))
  u_named = label_said 85 ds (omega arith, omega arith) d.digits d.few

  -- a last word of a letter and these digits
  last_word : (letter : ℕ) → (letter ∷ word_rest Inside ds) ∷ texts_from Inside ds ≡ (letter ∷ ds) ∷ []
  last_word letter = λ i. (letter ∷ rest_end ds d.clear i) ∷ inside_end ds d.clear i

  starts : reading (codes "A: START_TRANS T" ++ ds) ≡ Says (At (codes "A") (StartTrans (upper (84 ∷ ds)) None))
  starts = said_by (codes "A: START_TRANS T" ++ ds) _ _ (codes "START_TRANS" ∷ (84 ∷ ds) ∷ []) _ (ap (λ ts. codes "A:" ∷ codes "START_TRANS" ∷ ts) (last_word 84)) refl (rw (heard, t_named) refl)

  joins : reading (codes "B: START_BRANCH U" ++ ds) ≡ Says (At (codes "B") (StartBranch (upper (85 ∷ ds))))
  joins = said_by (codes "B: START_BRANCH U" ++ ds) _ _ (codes "START_BRANCH" ∷ (85 ∷ ds) ∷ []) _ (ap (λ ts. codes "B:" ∷ codes "START_BRANCH" ∷ ts) (last_word 85)) refl (rw (heard, u_named) refl)

  aborts : reading (codes "A: ABORT_TRANS T" ++ ds) ≡ Says (At (codes "A") (AbortTrans (upper (84 ∷ ds))))
  aborts = said_by (codes "A: ABORT_TRANS T" ++ ds) _ _ (codes "ABORT_TRANS" ∷ (84 ∷ ds) ∷ []) _ (ap (λ ts. codes "A:" ∷ codes "ABORT_TRANS" ∷ ts) (last_word 84)) refl (rw (heard, t_named) refl)

  ends_branch : reading (codes "B: END_BRANCH U" ++ ds) ≡ Says (At (codes "B") (EndBranch (upper (85 ∷ ds))))
  ends_branch = said_by (codes "B: END_BRANCH U" ++ ds) _ _ (codes "END_BRANCH" ∷ (85 ∷ ds) ∷ []) _ (ap (λ ts. codes "B:" ∷ codes "END_BRANCH" ∷ ts) (last_word 85)) refl (rw (heard, u_named) refl)

  ends : reading (codes "A: END_TRANS T" ++ ds) ≡ Says (At (codes "A") (EndTrans (upper (84 ∷ ds))))
  ends = said_by (codes "A: END_TRANS T" ++ ds) _ _ (codes "END_TRANS" ∷ (84 ∷ ds) ∷ []) _ (ap (λ ts. codes "A:" ∷ codes "END_TRANS" ∷ ts) (last_word 84)) refl (rw (heard, t_named) refl)

  adds : reading (codes "A: ADD_BRANCH T" ++ (ds ++ (codes " B U" ++ ds))) ≡ Says (At (codes "A") (AddBranch (upper (84 ∷ ds)) (codes "B") (upper (85 ∷ ds))))
  adds = said_by (codes "A: ADD_BRANCH T" ++ (ds ++ (codes " B U" ++ ds))) _ _ (codes "ADD_BRANCH" ∷ (84 ∷ ds) ∷ codes "B" ∷ (85 ∷ ds) ∷ []) _
      (λ i. codes "A:" ∷ codes "ADD_BRANCH" ∷ (84 ∷ rest_then ds (66 ∷ 32 ∷ 85 ∷ ds) d.clear i) ∷ (inside_then ds (66 ∷ 32 ∷ 85 ∷ ds) d.clear ∙ ap (λ ts. codes "B" ∷ ts) (last_word 85)) i) refl (rw (heard, t_named, u_named) refl)

  -- bytes between quotes are the last word
  last_quoted : (bytes : List ℕ) → AreClear bytes → (34 ∷ word_rest Quoted (bytes ++ (34 ∷ []))) ∷ texts_from Quoted (bytes ++ (34 ∷ [])) ≡ quoted bytes ∷ []
  last_quoted bytes h = λ i. (34 ∷ rest_quoted bytes h i) ∷ inside_quoted bytes h i

  puts_last : (n : ℕ) → reading (codes "A: PUT T" ++ (ds ++ (codes " S " ++ quoted (six_digits n)))) ≡ Says (At (codes "A") (Records (upper (84 ∷ ds)) (codes "S") (Put None (six_digits n))))
  puts_last n = said_by (codes "A: PUT T" ++ (ds ++ (codes " S " ++ quoted (six_digits n)))) _ _ (codes "PUT" ∷ (84 ∷ ds) ∷ codes "S" ∷ quoted (six_digits n) ∷ []) _
      (λ i. codes "A:" ∷ codes "PUT" ∷ (84 ∷ rest_then ds (codes "S " ++ quoted (six_digits n)) d.clear i) ∷ (inside_then ds (codes "S " ++ quoted (six_digits n)) d.clear ∙ ap (λ ts. codes "S" ∷ ts) (last_quoted (six_digits n) (six_clear n))) i)
      refl (rw (heard, t_named, quoted_said (six_digits n) (six_clear n)) refl)

  puts_keyed : (n : ℕ) → reading (codes "B: PUT U" ++ (ds ++ (codes " I " ++ quoted (six_digits n ++ (120 ∷ []))))) ≡ Says (At (codes "B") (Records (upper (85 ∷ ds)) (codes "I") (Put None (six_digits n ++ (120 ∷ [])))))
  puts_keyed n =
      let clear = clear_on (six_digits n) (120 ∷ []) (six_clear n) ((omega arith, omega arith), tt) in
      said_by (codes "B: PUT U" ++ (ds ++ (codes " I " ++ quoted (six_digits n ++ (120 ∷ []))))) _ _ (codes "PUT" ∷ (85 ∷ ds) ∷ codes "I" ∷ quoted (six_digits n ++ (120 ∷ [])) ∷ []) _
      (λ i. codes "B:" ∷ codes "PUT" ∷ (85 ∷ rest_then ds (codes "I " ++ quoted (six_digits n ++ (120 ∷ []))) d.clear i) ∷ (inside_then ds (codes "I " ++ quoted (six_digits n ++ (120 ∷ []))) d.clear ∙ ap (λ ts. codes "I" ∷ ts) (last_quoted (six_digits n ++ (120 ∷ [])) clear)) i)
      refl (rw (heard, u_named, quoted_said (six_digits n ++ (120 ∷ [])) clear) refl)

  puts_at : (n key : ℕ) → key ≤ 200 → reading (codes "A: PUT T" ++ (ds ++ (codes " R " ++ (decimal key ++ (32 ∷ quoted (six_digits n)))))) ≡ Says (At (codes "A") (Records (upper (84 ∷ ds)) (codes "R") (Put (Some key) (six_digits n))))
  puts_at n key le =
      let small : key < 2 ^ 64 = omega (arith, le) in
      let clear = digits_clear (decimal key) (decimal_digits key small) in
      let more = decimal key ++ (32 ∷ quoted (six_digits n)) in
      said_by (codes "A: PUT T" ++ (ds ++ (codes " R " ++ (decimal key ++ (32 ∷ quoted (six_digits n)))))) _ _ (codes "PUT" ∷ (84 ∷ ds) ∷ codes "R" ∷ decimal key ∷ quoted (six_digits n) ∷ []) _
      (λ i. codes "A:" ∷ codes "PUT" ∷ (84 ∷ rest_then ds (codes "R " ++ more) d.clear i) ∷ (inside_then ds (codes "R " ++ more) d.clear ∙ ap (λ ts. codes "R" ∷ ts) (number_then key small clear n)) i)
      refl (rw (heard, t_named, number_said 4294967295 key small (omega (arith, le)), quoted_said (six_digits n) (six_clear n)) refl)
    where
      number_then : (key : ℕ) → key < 2 ^ 64 → AreClear (decimal key) → (n : ℕ) → texts_from Between (decimal key ++ (32 ∷ quoted (six_digits n))) ≡ decimal key ∷ quoted (six_digits n) ∷ []
      number_then key small clear n = word_then (decimal key) (quoted (six_digits n)) clear (decimal_nonempty key small) ∙ ap (λ ts. decimal key ∷ ts) (last_quoted (six_digits n) (six_clear n))

-- The pieces.

delivers : SpeaksOn piece.Deliver
delivers = λ sent small.
    let wide : sent < 2 ^ 64 = omega (arith, small) in
    let clear = digits_clear (decimal sent) (decimal_digits sent wide) in
    (Delivers sent, said_by (codes "DELIVER " ++ decimal sent) _ _ (decimal sent ∷ []) _ (ap (λ ts. codes "DELIVER" ∷ ts) (word_end (decimal sent) clear (decimal_nonempty sent wide))) refl (rw (heard, number_said 4294967295 sent wide (omega (arith, small))) refl), refl)

settles : SpeaksOn piece.Settle
settles = λ sent small. (Settle, refl, refl)

all_on : (xs ys : List Piece) → AllSpeakOn xs → AllSpeakOn ys → AllSpeakOn (xs ++ ys)
all_on [] ys h k = k
all_on (x ∷ xs) ys h k = (h.0, all_on xs ys h.1 k)

-- what comes behind both volumes, up to the first transaction
abbrev opened : List Piece
opened = Words (codes "A: BOOT") ∷ (Words (codes "B: BOOT") ∷ (makes_files (codes "A") ++ makes_files (codes "B")))

opened_speaks : AllSpeakOn opened
opened_speaks = ((λ sent small. (_, refl, refl)), ((λ sent small. (_, refl, refl)), ((λ sent small. (_, refl, refl)), ((λ sent small. (_, refl, refl)), ((λ sent small. (_, refl, refl)), ((λ sent small. (_, refl, refl)), ((λ sent small. (_, refl, refl)), ((λ sent small. (_, refl, refl)), ((λ sent small. (_, refl, refl)), ((λ sent small. (_, refl, refl)), ((λ sent small. (_, refl, refl)), ((λ sent small. (_, refl, refl)), ((λ sent small. (_, refl, refl)), ((λ sent small. (_, refl, refl)), tt))))))))))))))

dumps_speak : AllSpeakOn dumps
dumps_speak = ((λ sent small. (_, refl, refl)), ((λ sent small. (_, refl, refl)), ((λ sent small. (_, refl, refl)), ((λ sent small. (_, refl, refl)), ((λ sent small. (_, refl, refl)), ((λ sent small. (_, refl, refl)), tt))))))

module _ (i : ℕ) (d : Number (decimal i)) where
  begun_speaks : AllSpeakOn (transaction_start i)
  begun_speaks = ((λ sent small. (_, starts (decimal i) d, refl)), ((λ sent small. (_, adds (decimal i) d, refl)), ((λ sent small. (_, joins (decimal i) d, refl)), (delivers, (delivers, tt)))))

  changed_speaks : (key : ℕ) → key ≤ 200 → AllSpeakOn (changed i key)
  changed_speaks key le = ((λ sent small. (_, puts_last (decimal i) d i, refl)), ((λ sent small. (_, puts_at (decimal i) d i key le, refl)), ((λ sent small. (_, puts_keyed (decimal i) d i, refl)), tt)))

  ending_speaks : AllSpeakOn (ending i)
  ending_speaks = ((λ sent small. (_, ends_branch (decimal i) d, refl)), ((λ sent small. (_, ends (decimal i) d, refl)), tt))

  ended_speaks : (choice : ℕ) → AllSpeakOn (ended i choice)
  ended_speaks choice = by (choice == 0) (choice == 1) (choice == 2)
    where
      by : (a b c : Bool) → AllSpeakOn (if a then Words (codes "A: ABORT_TRANS T" ++ decimal i) ∷ piece.Settle ∷ []
          else if b then Words (codes "CRASH A") ∷ piece.Settle ∷ []
          else if c then ending i ++ (Words (codes "CRASH B") ∷ piece.Settle ∷ [])
          else ending i ++ (piece.Deliver ∷ piece.Deliver ∷ piece.Deliver ∷ piece.Deliver ∷ []))
      by true b c = ((λ sent small. (_, aborts (decimal i) d, refl)), (settles, tt))
      by false true c = ((λ sent small. (_, refl, refl)), (settles, tt))
      by false false true = all_on (ending i) (Words (codes "CRASH B") ∷ piece.Settle ∷ []) ending_speaks ((λ sent small. (_, refl, refl)), (settles, tt))
      by false false false = all_on (ending i) (piece.Deliver ∷ piece.Deliver ∷ piece.Deliver ∷ piece.Deliver ∷ []) ending_speaks (delivers, (delivers, (delivers, (delivers, tt))))

transactions_speak : (count i x : ℕ) → i + count ≤ 10001 → AllSpeakOn (transactions count i x)
transactions_speak zero i x le = tt
transactions_speak (suc count) i x le =
    let d = number i (omega (arith, le)) in
    let key : below 200 (next x) + 1 ≤ 200 = omega arith in
    all_on (transaction i (below 200 (next x) + 1) (below 10 (next (next x)))) (transactions count (i + 1) (next (next x)))
    (all_on (transaction_start i) (changed i (below 200 (next x) + 1) ++ ended i (below 10 (next (next x)))) (begun_speaks i d) (all_on (changed i (below 200 (next x) + 1)) (ended i (below 10 (next (next x)))) (changed_speaks i d (below 200 (next x) + 1) key) (ended_speaks i d (below 10 (next (next x))))))
    (transactions_speak count (i + 1) (next (next x)) (omega (arith, le)))

pub days_make_once : DaysMakeOnce
days_make_once count start le = record {
  rest = opened ++ (transactions count 1 start ++ (piece.Settle ∷ dumps));
  parts = refl;
  first = refl;
  second = refl;
  later = all_on opened (transactions count 1 start ++ (piece.Settle ∷ dumps)) opened_speaks (all_on (transactions count 1 start) (piece.Settle ∷ dumps) (transactions_speak count 1 start (omega (arith, le))) (settles, dumps_speak));
}

weaker : (ps : List Piece) → AllSpeakOn ps → AllSpeak ps
weaker [] h = tt
weaker (p ∷ ps) h = ((λ sent small. (let said = h.0 sent small in (said.0, said.1))), weaker ps h.1)

pub days_speak : DaysSpeak
days_speak count start le =
    let once = days_make_once count start le in
    subst AllSpeak (sym once.parts) ((λ sent small. (At (codes "A") (Init 128 1024), once.first)), ((λ sent small. (At (codes "B") (Init 128 1024), once.second)), weaker once.rest once.later))
