-- What is shown and counted of the slots of a log, one after the other.
use Rattle.std.proofs.Common.{◌≡◌, ℕ, suc, ◌+◌, ◌<◌, ◌≤◌, List, [], ◌∷◌, ◌++◌, Bool, true, false, Option, Some, None, if◌then◌else◌, map, flat_map, take, length, get_or, refl, ◌∙◌, ap, sym, subst, append_assoc, append-nil, arith}
use Rattle.std.proofs.lemmas.List.{get_or_default, length-append, length-take-le, take_all, take_more}
use Rattle.std.proofs.lemmas.Grind.{flat_map-append}
use Rattle.std.specs.Prelude.{is_some}
use Rattle.std.specs.List.{list_any}
use Rattle.emitter_model.specs.commit_protocol.Messages.{LogRecord, Name, same_name}
use Rattle.world_laws.specs.log_laws.Slots.{Slots, committed_of, free_slots, is_prepared_record, prepared_of, records_in, slot_records, waiting_for}
use Rattle.node_table.specs.lmcp_log.Log.{slot_at}
use Rattle.world_laws.specs.run_model.Answers.{log_line, owed_line}
use Rattle.node_requests.specs.Managers.{entry_lines_at, owed_lines_at}

-- one slot more
pub slots_more : {A : Type 0} (f : Option LogRecord → List A) (ss : Slots) (k : ℕ) → k < length ss → flat_map f (take (k + 1) ss) ≡ flat_map f (take k ss) ++ f (slot_at ss k)
slots_more f ss k below =
    ap (flat_map f) (take_more ss k None below) ∙ flat_map-append f (take k ss) (get_or ss k None ∷ [])
    ∙ ap (λ x. flat_map f (take k ss) ++ x) (append-nil (f (get_or ss k None)) ∙ ap f (get_or_default ss k None None below))

-- What a manager is told of the slots, one after the other, is what it is told of the committed records that wait for it.
pub owed_slots : (rm : Name) (ss : Slots) → flat_map (owed_lines_at rm) ss ≡ map (owed_line rm) (waiting_for rm (committed_of (records_in ss)))
owed_slots rm [] = refl
owed_slots rm (None ∷ ss) = owed_slots rm ss
owed_slots rm (Some r ∷ ss) = go (is_prepared_record r.kind) (owed_slots rm ss)
  where
    waits : Bool
    waits = list_any (λ x. same_name x rm) r.rms

    owes : (t : Bool) → flat_map (owed_lines_at rm) ss ≡ map (owed_line rm) (waiting_for rm (committed_of (records_in ss))) →
        (if t then owed_line rm r ∷ [] else []) ++ flat_map (owed_lines_at rm) ss ≡ map (owed_line rm) (if t then r ∷ waiting_for rm (committed_of (records_in ss)) else waiting_for rm (committed_of (records_in ss)))
    owes true h = ap (λ x. owed_line rm r ∷ x) h
    owes false h = h

    go : (p : Bool) → flat_map (owed_lines_at rm) ss ≡ map (owed_line rm) (waiting_for rm (committed_of (records_in ss))) →
        (if (if p then false else waits) then owed_line rm r ∷ [] else []) ++ flat_map (owed_lines_at rm) ss ≡ map (owed_line rm) (waiting_for rm (if p then committed_of (records_in ss) else r ∷ committed_of (records_in ss)))
    go true h = h
    go false h = owes waits h

-- Counts.

records_append : (xs ys : Slots) → records_in (xs ++ ys) ≡ records_in xs ++ records_in ys
records_append [] ys = refl
records_append (None ∷ xs) ys = records_append xs ys
records_append (Some r ∷ xs) ys = ap (λ x. r ∷ x) (records_append xs ys)

committed_append : (xs ys : List LogRecord) → committed_of (xs ++ ys) ≡ committed_of xs ++ committed_of ys
committed_append [] ys = refl
committed_append (r ∷ xs) ys = go (is_prepared_record r.kind) (committed_append xs ys)
  where
    go : (p : Bool) → committed_of (xs ++ ys) ≡ committed_of xs ++ committed_of ys → (if p then committed_of (xs ++ ys) else r ∷ committed_of (xs ++ ys)) ≡ (if p then committed_of xs else r ∷ committed_of xs) ++ committed_of ys
    go true h = h
    go false h = ap (λ x. r ∷ x) h

prepared_append : (xs ys : List LogRecord) → prepared_of (xs ++ ys) ≡ prepared_of xs ++ prepared_of ys
prepared_append [] ys = refl
prepared_append (r ∷ xs) ys = go (is_prepared_record r.kind) (prepared_append xs ys)
  where
    go : (p : Bool) → prepared_of (xs ++ ys) ≡ prepared_of xs ++ prepared_of ys → (if p then r ∷ prepared_of (xs ++ ys) else prepared_of (xs ++ ys)) ≡ (if p then r ∷ prepared_of xs else prepared_of xs) ++ prepared_of ys
    go true h = ap (λ x. r ∷ x) h
    go false h = h

free_append : (xs ys : Slots) → free_slots (xs ++ ys) ≡ free_slots xs + free_slots ys
free_append [] ys = omega arith
free_append (None ∷ xs) ys = let rest = free_append xs ys in omega arith
free_append (Some r ∷ xs) ys = free_append xs ys

one_more : (ss : Slots) (k : ℕ) → k < length ss → take (k + 1) ss ≡ take k ss ++ slot_at ss k ∷ []
one_more ss k below = take_more ss k None below ∙ ap (λ x. take k ss ++ x ∷ []) (get_or_default ss k None None below)

pub committed_more : (ss : Slots) (k : ℕ) → k < length ss → length (committed_of (records_in (take (k + 1) ss))) ≡ length (committed_of (records_in (take k ss))) + length (committed_of (records_in (slot_at ss k ∷ [])))
committed_more ss k below =
    ap (λ x. length (committed_of (records_in x))) (one_more ss k below) ∙ ap (λ x. length (committed_of x)) (records_append (take k ss) (slot_at ss k ∷ []))
    ∙ ap length (committed_append (records_in (take k ss)) (records_in (slot_at ss k ∷ []))) ∙ length-append (committed_of (records_in (take k ss))) (committed_of (records_in (slot_at ss k ∷ [])))

pub prepared_more : (ss : Slots) (k : ℕ) → k < length ss → length (prepared_of (records_in (take (k + 1) ss))) ≡ length (prepared_of (records_in (take k ss))) + length (prepared_of (records_in (slot_at ss k ∷ [])))
prepared_more ss k below =
    ap (λ x. length (prepared_of (records_in x))) (one_more ss k below) ∙ ap (λ x. length (prepared_of x)) (records_append (take k ss) (slot_at ss k ∷ []))
    ∙ ap length (prepared_append (records_in (take k ss)) (records_in (slot_at ss k ∷ []))) ∙ length-append (prepared_of (records_in (take k ss))) (prepared_of (records_in (slot_at ss k ∷ [])))

pub free_more : (ss : Slots) (k : ℕ) → k < length ss → free_slots (take (k + 1) ss) ≡ free_slots (take k ss) + free_slots (slot_at ss k ∷ [])
free_more ss k below = ap free_slots (one_more ss k below) ∙ free_append (take k ss) (slot_at ss k ∷ [])

pub records_more : (ss : Slots) (k : ℕ) → k < length ss → length (records_in (take (k + 1) ss)) ≡ length (records_in (take k ss)) + length (records_in (slot_at ss k ∷ []))
records_more ss k below = ap (λ x. length (records_in x)) (one_more ss k below) ∙ ap length (records_append (take k ss) (slot_at ss k ∷ [])) ∙ length-append (records_in (take k ss)) (records_in (slot_at ss k ∷ []))

pub one_record : (o : Option LogRecord) → is_some o ≡ true → length (records_in (o ∷ [])) ≡ 1
one_record None h = let f : ⊥ = cc in absurd f
one_record (Some r) h = refl

pub no_record : (o : Option LogRecord) → is_some o ≡ false → length (records_in (o ∷ [])) ≡ 0
no_record None h = refl
no_record (Some r) h = let f : ⊥ = cc in absurd f

-- The lines of slots with their numbers.

slots_append : (n : ℕ) (xs ys : Slots) → slot_records n (xs ++ ys) ≡ slot_records n xs ++ slot_records (n + length xs) ys
slots_append n [] ys = ap (λ m. slot_records m ys) (let same : n ≡ n + 0 = omega arith in same)
slots_append n (None ∷ xs) ys = slots_append (n + 1) xs ys ∙ ap (λ m. slot_records (n + 1) xs ++ slot_records m ys) (let same : n + 1 + length xs ≡ n + suc (length xs) = omega arith in same)
slots_append n (Some r ∷ xs) ys = ap (λ x. (n, r) ∷ x) (slots_append (n + 1) xs ys ∙ ap (λ m. slot_records (n + 1) xs ++ slot_records m ys) (let same : n + 1 + length xs ≡ n + suc (length xs) = omega arith in same))

lines_append : (xs ys : List (ℕ × LogRecord)) → map log_line (xs ++ ys) ≡ map log_line xs ++ map log_line ys
lines_append [] ys = refl
lines_append (x ∷ xs) ys = ap (λ z. log_line x ∷ z) (lines_append xs ys)

entry_is : (slot : ℕ) (o : Option LogRecord) → map log_line (slot_records slot (o ∷ [])) ≡ entry_lines_at slot o
entry_is slot None = refl
entry_is slot (Some r) = refl

pub entries_more : (ss : Slots) (k : ℕ) → k < length ss → map log_line (slot_records 0 (take (k + 1) ss)) ≡ map log_line (slot_records 0 (take k ss)) ++ entry_lines_at k (slot_at ss k)
entries_more ss k below =
    let taken : 0 + length (take k ss) ≡ k = (let e = length-take-le k ss (omega arith) in omega arith) in
    ap (λ x. map log_line (slot_records 0 x)) (one_more ss k below) ∙ ap (map log_line) (slots_append 0 (take k ss) (slot_at ss k ∷ []))
    ∙ lines_append (slot_records 0 (take k ss)) (slot_records (0 + length (take k ss)) (slot_at ss k ∷ []))
    ∙ ap (λ x. map log_line (slot_records 0 (take k ss)) ++ x) (ap (λ m. map log_line (slot_records m (slot_at ss k ∷ []))) taken ∙ entry_is k (slot_at ss k))
