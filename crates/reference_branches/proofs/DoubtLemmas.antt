-- What a coordinator answers a branch, by the effects of its row; and a message by its number.
use Rattle.std.proofs.Common.{◌≡◌, ℕ, ◌+◌, ◌-◌, suc, ◌≤◌, List, [], ◌∷◌, Bool, true, false, Option, Some, None, if◌then◌else◌, refl, ap, ◌∙◌, map, length, arith}
use Rattle.std.specs.Prelude.{slice_get, get_or, drop, take}
use Rattle.std.specs.List.{list_any}
use Rattle.std.proofs.lemmas.List.{length-map}
use Rattle.commit_protocol.specs.Effects.{effects_of}
use Rattle.commit_protocol.specs.Messages.{Commit, LogRecord, Message, same_id}
use Rattle.commit_protocol.specs.Rows.{answer, answer_state, down, inquire_row}
use Rattle.commit_protocol.specs.Table.{Branch, State, Joining, Active, Ending, Voting, Prepared, Key, Sends, Tm, after, cut, find, key_of, same_key}
use Rattle.commit_protocol.specs.World.{arranged, arranged_by}
use Rattle.vms_model.specs.Ids.{Id}
use Rattle.commit_protocol.specs.Allowed.{is_prepared}
use Rattle.reference_index.specs.run_model.Statements.{answer_in, message_at}
use Rattle.tm_types.specs.Branches.{branch_of}
use Rattle.tm_types.specs.declared.branch.BranchState.{BranchState}
use Rattle.reference_world.specs.Standing.{branch_key_of}
use Rattle.reference_world.specs.declared.world.BranchKey.{BranchKey}
use Rattle.reference_branches.specs.Branches.{sent_alone, serials_in_doubt}

-- an Inquire is answered by its row's one message, or by nothing
pub answered : (m : Message) (found : Option Branch) (rs recs : List LogRecord) → sent_alone (effects_of (inquire_row m found rs) recs) ≡ answer_in (inquire_row m found rs)
answered m found rs recs = go (list_any (λ r. same_id r.tid m.tid) rs) found
  where
    by_state : (b : Branch) (state : State) → sent_alone (effects_of (answer_state m b state) recs) ≡ answer_in (answer_state m b state)
    by_state b Joining = refl
    by_state b Active = refl
    by_state b Ending = refl
    by_state b Voting = refl
    by_state b Prepared = refl

    undecided : (found : Option Branch) → sent_alone (effects_of (answer m found) recs) ≡ answer_in (answer m found)
    undecided None = refl
    undecided (Some b) = by_state b b.state

    go : (known : Bool) (found : Option Branch) → (let acts = if known then Sends (down Commit (key_of m)) ∷ [] else answer m found in sent_alone (effects_of acts recs) ≡ answer_in acts)
    go true found = refl
    go false found = undecided found

-- and it changes no table
pub unchanged : (m : Message) (found : Option Branch) (rs : List LogRecord) (tm : Tm) → after (inquire_row m found rs) tm ≡ tm
unchanged m found rs tm = go (list_any (λ r. same_id r.tid m.tid) rs) found
  where
    by_state : (b : Branch) (state : State) → after (answer_state m b state) tm ≡ tm
    by_state b Joining = refl
    by_state b Active = refl
    by_state b Ending = refl
    by_state b Voting = refl
    by_state b Prepared = refl

    undecided : (found : Option Branch) → after (answer m found) tm ≡ tm
    undecided None = refl
    undecided (Some b) = by_state b b.state

    go : (known : Bool) (found : Option Branch) → after (if known then Sends (down Commit (key_of m)) ∷ [] else answer m found) tm ≡ tm
    go true found = refl
    go false found = undecided found

-- the messages are numbered from one on
pub message_found : (number k : ℕ) (ms : List Message) → number ≡ suc k → message_at number ms ≡ slice_get ms k
message_found number k ms is = ap (λ j. message_at j ms) is

-- Branches by their keys.

take_all : {A : Type 0} (xs : List A) → take (length xs) xs ≡ xs
take_all [] = refl
take_all (x ∷ xs) = ap (λ ys. x ∷ ys) (take_all xs)

-- what is behind the first
rest_of : {A : Type 0} (x : A) (xs : List A) → take (length (x ∷ xs) - 1) xs ≡ xs
rest_of x xs = let e : length (x ∷ xs) - 1 ≡ length xs = omega arith in ap (λ k. take k xs) e ∙ take_all xs

pub found_here : (k : Key) (bs : List BranchState) (b : BranchState) → 1 ≤ length bs → b ≡ get_or bs 0 b → true ≡ same_key (branch_of b).key k → Some (branch_of b) ≡ find k (map branch_of bs)
found_here k [] b few is same = absurd (omega arith)
found_here k (x ∷ bs) b few is same = ap (λ y. Some (branch_of y)) is ∙ ap (λ c. if c then Some (branch_of x) else find k (map branch_of bs)) (same ∙ ap (λ y. same_key (branch_of y).key k) is)

pub found_later : (k : Key) (bs : List BranchState) (b : BranchState) → 1 ≤ length bs → b ≡ get_or bs 0 b → false ≡ same_key (branch_of b).key k → find k (map branch_of (take (length bs - 1) (drop 1 bs))) ≡ find k (map branch_of bs)
found_later k [] b few is same = absurd (omega arith)
found_later k (x ∷ bs) b few is same = ap (λ ys. find k (map branch_of ys)) (rest_of x bs) ∙ ap (λ c. if c then Some (branch_of x) else find k (map branch_of bs)) (same ∙ ap (λ y. same_key (branch_of y).key k) is)

pub arranged_first : (order : List BranchKey) (key : BranchKey) (bs : List Branch) → 1 ≤ length order → key ≡ get_or order 0 key →
    arranged_by (find (branch_key_of key) bs) (arranged (map branch_key_of (take (length order - 1) (drop 1 order))) (cut (branch_key_of key) bs)) ≡ arranged (map branch_key_of order) bs
arranged_first [] key bs few is = absurd (omega arith)
arranged_first (k ∷ order) key bs few is = ap (λ ks. arranged_by (find (branch_key_of key) bs) (arranged (map branch_key_of ks) (cut (branch_key_of key) bs))) (rest_of k order) ∙ ap (λ j. arranged_by (find (branch_key_of j) bs) (arranged (map branch_key_of order) (cut (branch_key_of j) bs))) is

-- No more are in doubt than there are.

cut_less : (k : Key) (bs : List Branch) → length (cut k bs) ≤ length bs
cut_less k [] = omega arith
cut_less k (b ∷ bs) = go (same_key b.key k) (cut_less k bs)
  where
    go : (t : Bool) → length (cut k bs) ≤ length bs → length (if t then cut k bs else b ∷ cut k bs) ≤ length (b ∷ bs)
    go true more = omega arith
    go false more = omega arith

cut_found : (k : Key) (bs : List Branch) (b : Branch) → find k bs ≡ Some b → length (cut k bs) + 1 ≤ length bs
cut_found k [] b e = let never : ⊥ = cc in absurd never
cut_found k (x ∷ xs) b e = go (same_key x.key k) e (cut_less k xs) (λ f. cut_found k xs b f)
  where
    go : (t : Bool) → (let o : Option Branch = if t then Some x else find k xs in o) ≡ Some b → length (cut k xs) ≤ length xs → (find k xs ≡ Some b → length (cut k xs) + 1 ≤ length xs) →
        length (if t then cut k xs else x ∷ cut k xs) + 1 ≤ length (x ∷ xs)
    go true f less more = omega arith
    go false f less more = let m = more f in omega arith

arranged_few : (order : List Key) (bs : List Branch) → length (arranged order bs) ≤ length bs
arranged_few [] bs = omega arith
arranged_few (k ∷ order) bs = go (find k bs) refl (arranged_few order (cut k bs)) (cut_less k bs) (cut_found k bs)
  where
    go : (o : Option Branch) → find k bs ≡ o → length (arranged order (cut k bs)) ≤ length (cut k bs) → length (cut k bs) ≤ length bs → ((b : Branch) → find k bs ≡ Some b → length (cut k bs) + 1 ≤ length bs) →
        length (arranged_by o (arranged order (cut k bs))) ≤ length bs
    go None is more less found = omega arith
    go (Some b) is more less found = let f = found b is in omega arith

serials_few : (bs : List Branch) → length (serials_in_doubt bs) ≤ length bs
serials_few [] = omega arith
serials_few (b ∷ bs) = go (is_prepared b.state) (serials_few bs)
  where
    go : (t : Bool) → length (serials_in_doubt bs) ≤ length bs → length (if t then b.key.serial ∷ serials_in_doubt bs else serials_in_doubt bs) ≤ length (b ∷ bs)
    go true more = omega arith
    go false more = omega arith

pub doubts_few : {A B : Type 0} (f : A → Id) (g : B → Branch) (order : List Key) (table all now : List B) (ids : List A) → map f ids ≡ serials_in_doubt (map g now) → now ≡ all → map g all ≡ arranged order (map g table) → length table ≤ 64 → length ids ≤ 64
doubts_few f g order table all now ids serials is arranges few =
    omega (arith, length-map ids f, ap length serials, ap (λ bs. length (serials_in_doubt (map g bs))) is, serials_few (map g all), ap length arranges, arranged_few order (map g table), length-map table g)
