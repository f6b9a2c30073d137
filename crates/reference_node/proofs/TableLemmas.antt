-- Branches of a table, by their serials and places.
use Rattle.std.proofs.Common.{◌≡◌, ◌+◌, ℕ, List, [], ◌∷◌, Bool, true, false, Option, Some, None, inl, inr, refl, sym, subst, ap, ◌∙◌, drop, add-one}
use Rattle.std.specs.Option.{option_and_then}
use Rattle.std.specs.Prelude.{suc, cond, if◌then◌else◌, ◌&&◌, ◌||◌, not, slice_get}
use Rattle.std.specs.List.{list_any}
use Rattle.std.proofs.Math.Seq.{drop-cons}
use Rattle.std.proofs.Math.ListN.{drop_of_length-le}
use Rattle.std.proofs.lemmas.Bool.{false_from_ne_true, both_ways}
use Rattle.std.proofs.lemmas.Option.{get_or_from_slice_get, slice_get_within, slice_get_cases}
use Rattle.vms_model.specs.Ids.{Id}
use Rattle.records_model.specs.History.{same_id}
use Rattle.unit_laws.proofs.LiveLemmas.{id_is, id_itself}
use Rattle.commit_protocol.specs.Messages as messages
use Rattle.commit_protocol.specs.Messages.{LogRecord}
use Rattle.commit_protocol.specs.Table.{Key, Branch, State, Joining, Active, Ending, Voting, Prepared, Tm, Act, Notes, find_serial, put, same_key, after}
use Rattle.commit_protocol.specs.Allowed.{is_active, is_working}
use Rattle.commit_protocol.specs.Rows.{Changed, row, note_row, note_state, has_changed}
use Rattle.commit_protocol.proofs.Lists.{told_id, told_key, same_key-refl}
use Rattle.world_laws.specs.run_model.World.{find_branch, find_record, with_changed}
use Rattle.tm_table.specs.Restarts.{record_of}

-- Ids are compared in either order.
pub ids_turned : (a b : Id) → messages.same_id b a ≡ same_id a b
ids_turned a b = elim (told_id b a) [
  | inl q ↦ q.0 ∙ sym (subst (λ (x : Id). same_id a x ≡ true) (sym q.1) (id_itself a))
  | inr q ↦ q.0 ∙ sym (false_from_ne_true (same_id a b) (λ (same : same_id a b ≡ true). q.1 (sym (id_is a b same))))
]

-- the branch of a serial is found by both
pub found_by_serial : (s : Id) (bs : List Branch) → find_serial s bs ≡ find_branch s bs
found_by_serial s [] = refl
found_by_serial s (b ∷ bs) = ap (λ c. cond c (Some b) (find_serial s bs)) (ids_turned s b.key.serial) ∙ ap (λ (o : Option Branch). cond (same_id s b.key.serial) (Some b) o) (found_by_serial s bs)

-- and its committed record
pub found_record : (s : Id) (rs : List LogRecord) → record_of s rs ≡ find_record s rs
found_record s [] = refl
found_record s (r ∷ rs) = ap (λ c. cond c (Some r) (record_of s rs)) (ids_turned s r.serial) ∙ ap (λ (o : Option LogRecord). cond (same_id s r.serial) (Some r) o) (found_record s rs)

-- Lists from a place on.
pub nothing_left : {A : Type 0} (xs : List A) (i : ℕ) → slice_get xs i ≡ None → drop i xs ≡ []
nothing_left xs i none = elim (slice_get_cases xs i).1 [
  | inl there ↦ absurd (let e : Some there.0 ≡ None = sym there.2 ∙ none in let never : ⊥ = cc in never)
  | inr past ↦ drop_of_length-le xs past.0
]

pub one_left : {A : Type 0} (xs : List A) (i : ℕ) (x : A) → slice_get xs i ≡ Some x → x ∷ drop (i + 1) xs ≡ drop i xs
one_left xs i x there =
    rw add-one (ap (λ y. y ∷ drop (suc i) xs) (sym (get_or_from_slice_get xs i x x there)) ∙ sym (drop-cons xs i x (slice_get_within xs i x there)))

pub any_left : {A : Type 0} (test : A → Bool) (xs : List A) (i : ℕ) (x : A) → slice_get xs i ≡ Some x → (test x || list_any test (drop (i + 1) xs)) ≡ list_any test (drop i xs)
any_left test xs i x there = ap (list_any test) (one_left xs i x there)

-- The table notes that a branch has changed something.
pub branch_serial : (serial : Id) (bs : List Branch) (b : Branch) → find_branch serial bs ≡ Some b → serial ≡ b.key.serial
branch_serial serial [] b e = let never : ⊥ = cc in absurd never
branch_serial serial (y ∷ ys) b e = go (same_id serial y.key.serial) refl e (branch_serial serial ys b)
  where
    go : (c : Bool) → same_id serial y.key.serial ≡ c → (let o : Option Branch = if c then Some y else find_branch serial ys in o) ≡ Some b → (find_branch serial ys ≡ Some b → serial ≡ b.key.serial) → serial ≡ b.key.serial
    go true is k more = let same : y ≡ b = cc in id_is serial y.key.serial is ∙ ap (λ (z : Branch). z.key.serial) same
    go false is k more = more k

pub changed_put : (serial : Id) (bs : List Branch) (b : Branch) → find_branch serial bs ≡ Some b → put (has_changed b) bs ≡ with_changed serial bs
changed_put serial [] b e = let never : ⊥ = cc in absurd never
changed_put serial (y ∷ ys) b e = go (same_id serial y.key.serial) refl e (changed_put serial ys b)
  where
    go : (c : Bool) → same_id serial y.key.serial ≡ c → (let o : Option Branch = if c then Some y else find_branch serial ys in o) ≡ Some b → (find_branch serial ys ≡ Some b → put (has_changed b) ys ≡ with_changed serial ys)
        → put (has_changed b) (y ∷ ys) ≡ (let o : List Branch = if c then record y { changed = true } ∷ ys else y ∷ with_changed serial ys in o)
    go true is k more =
        let same : y ≡ b = cc in
        let here : same_key y.key b.key ≡ true = (let P : Branch → Type 0 = λ z. same_key y.key z.key ≡ true in subst P same (same_key-refl y.key)) in
        rw here (sym (ap (λ (z : Branch). has_changed z ∷ ys) same))
    go false is k more = elim (told_key y.key b.key) [
      | inl q ↦ absurd (both_ways (same_id serial y.key.serial) is
          (subst (λ (x : Id). same_id x y.key.serial ≡ true) (ap (λ (z : Key). z.serial) q.1 ∙ sym (branch_serial serial ys b k)) (id_itself y.key.serial)))
      | inr q ↦ rw (q.0) (ap (λ zs. y ∷ zs) (more k))
    ]

active_of : (b : Branch) → is_working b ≡ true → is_active b.state ≡ true
active_of b e = left (is_active b.state) (not b.ended) e
  where
    left : (c d : Bool) → (c && d) ≡ true → c ≡ true
    left true d h = refl
    left false d h = h

noted_row : (b : Branch) (state : State) → is_active state ≡ true → note_state has_changed b state ≡ Notes (has_changed b) ∷ []
noted_row b Active e = refl
noted_row b Joining e = let never : ⊥ = cc in absurd never
noted_row b Ending e = let never : ⊥ = cc in absurd never
noted_row b Voting e = let never : ⊥ = cc in absurd never
noted_row b Prepared e = let never : ⊥ = cc in absurd never

pub noted_table : (tm : Tm) (b : Branch) → find_branch b.key.serial tm.table ≡ Some b → is_working b ≡ true →
    after (row tm (Changed b.key.serial)) tm ≡ record tm { table = with_changed b.key.serial tm.table }
noted_table tm b there working =
    ap (λ (o : Option Branch). after (note_row has_changed o) tm) (found_by_serial b.key.serial tm.table ∙ there)
    ∙ ap (λ (acts : List Act). after acts tm) (noted_row b b.state (active_of b working))
    ∙ ap (λ (bs : List Branch). record tm { table = bs }) (changed_put b.key.serial tm.table b there)

-- the branch that a label names is the one of its own serial
pub labelled_there : (bs : List Branch) (o : Option Id) (b : Branch) → Some b ≡ option_and_then (λ serial. find_branch serial bs) o → find_branch b.key.serial bs ≡ Some b
labelled_there bs None b e = let never : ⊥ = cc in absurd never
labelled_there bs (Some serial) b e = subst (λ (x : Id). find_branch x bs ≡ Some b) (branch_serial serial bs b (sym e)) (sym e)
