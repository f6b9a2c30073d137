-- Sweeps over a table, from which branches are taken out on the way.
use Rattle.std.proofs.Common.{◌≡◌, ℕ, ◌+◌, ◌<◌, ◌≤◌, ◌&&◌, Bool, true, false, List, [], ◌∷◌, ◌++◌, None, length, get_or, take, drop, zero, suc, refl, ap, sym, subst, ◌∙◌, arith, inl, inr, is_some, not, append_assoc}
use Rattle.std.specs.List.{remove}
use Rattle.std.proofs.lemmas.Bool.{cases_Bool}
use Rattle.std.proofs.lemmas.List.{at_drop_more, at_drop_all, append-nil, take_more}
use Rattle.vms_model.specs.Transactions.{Reason}
use Rattle.commit_protocol.specs.Table.{Key, Branch, State, Joining, Active, Ending, Voting, Prepared, Act, find, cut, same_key}
use Rattle.commit_protocol.specs.Rows.{sweep, aborted_if, abort_by_state, abort_running}
use Rattle.commit_protocol.proofs.Lists.{told_key, same_key-refl}
use Rattle.tm_table.specs.Doing.{Doing, does, IsThere}
use Rattle.tm_table.specs.Kept.{Unique}
use Rattle.tm_table.specs.Choices.{taken, may_abort, swept, HasRoomForAll}
use Rattle.tm_table.proofs.TableLemmas.{cut_none}
use Rattle.tm_table.proofs.DoingLemmas.{does_append}

pub there_at : (t : List Branch) (i : ℕ) (x : Branch) → i < length t → x ≡ get_or t i x → IsThere x.key t
there_at [] i x lt at = absurd (omega arith)
there_at (y ∷ ys) zero x lt at = let P : Branch → Type 0 = λ z. IsThere z.key (y ∷ ys) in subst P (sym at) (rw (same_key-refl y.key) refl)
there_at (y ∷ ys) (suc j) x lt at =
    elim (cases_Bool (same_key y.key x.key)) [ inl e ↦ rw e refl | inr e ↦ rw e (there_at ys j x (omega arith) at) ]

-- in a table where no key stands twice a branch is taken out at its place
pub cut_middle : (t : List Branch) (i : ℕ) (x : Branch) → Unique t → i < length t → x ≡ get_or t i x → cut x.key t ≡ remove t i
cut_middle [] i x u lt at = absurd (omega arith)
cut_middle (y ∷ ys) zero x u lt at =
    let P : Branch → Type 0 = λ z. cut z.key (y ∷ ys) ≡ ys in
    subst P (sym at) (rw (same_key-refl y.key) (cut_none y.key ys u.0))
cut_middle (y ∷ ys) (suc j) x u lt at =
    let there = there_at ys j x (omega arith) at in
    elim (told_key y.key x.key) [
      | inl e ↦ absurd (let q : find x.key ys ≡ None = (let P : Key → Type 0 = λ k. find k ys ≡ None in subst P e.1 u.0) in let r : is_some (find x.key ys) ≡ false = rw q refl in cc)
      | inr e ↦ rw (e.0) (ap (λ rest. y ∷ rest) (cut_middle ys j x u.1 (omega arith) at))
    ]

pub take_remove : {X : Type 0} (t : List X) (i : ℕ) → take i (remove t i) ≡ take i t
take_remove [] zero = refl
take_remove [] (suc i) = refl
take_remove (y ∷ ys) zero = refl
take_remove (y ∷ ys) (suc i) = ap (λ rest. y ∷ rest) (take_remove ys i)

pub drop_remove : {X : Type 0} (t : List X) (i : ℕ) → i < length t → drop i (remove t i) ≡ drop (suc i) t
drop_remove [] i lt = absurd (omega arith)
drop_remove (y ∷ ys) zero lt = refl
drop_remove (y ∷ ys) (suc i) lt = drop_remove ys i (omega arith)

pub take_push : {X : Type 0} (t : List X) (i : ℕ) (x : X) → i < length t → x ≡ get_or t i x → take (i + 1) t ≡ take i t ++ x ∷ []
take_push t i x lt at = take_more t i x lt ∙ ap (λ y. take i t ++ y ∷ []) (sym at)

pub drop_after : {X : Type 0} (t : List X) (i : ℕ) → i < length t → drop i (remove t i) ≡ drop (i + 1) t
drop_after t i lt = let e : suc i ≡ i + 1 = omega arith in drop_remove t i lt ∙ ap (λ n. drop n t) e

-- a chosen branch that is not prepared is aborted, and another is not
by_state : (reason : Reason) (b : Branch) (s : State) → may_abort s ≡ true → abort_by_state reason b s ≡ abort_running reason b
by_state reason b Prepared h = absurd cc
by_state reason b _ h = refl

by_no_state : (reason : Reason) (b : Branch) (s : State) → may_abort s ≡ false → abort_by_state reason b s ≡ []
by_no_state reason b Prepared h = refl
by_no_state reason b Joining h = absurd cc
by_no_state reason b Active h = absurd cc
by_no_state reason b Ending h = absurd cc
by_no_state reason b Voting h = absurd cc

taken_by : (c : Bool) (reason : Reason) (b : Branch) → (c && may_abort b.state) ≡ true → aborted_if c reason b ≡ abort_running reason b
taken_by true reason b h = by_state reason b b.state h
taken_by false reason b h = absurd cc

left_by : (c : Bool) (reason : Reason) (b : Branch) → (c && may_abort b.state) ≡ false → aborted_if c reason b ≡ []
left_by true reason b h = by_no_state reason b b.state h
left_by false reason b h = refl

-- what a sweep has still to do at a place, where the branch there is aborted
pub sweep_taken : (reason : Reason) (chosen : Branch → Bool) (t : List Branch) (i : ℕ) (x : Branch) (s s1 end : Doing)
    → i < length t → x ≡ get_or t i x → taken chosen x ≡ true → s1 ≡ does (abort_running reason x) s
    → does (sweep reason chosen (drop i t)) s ≡ end → does (sweep reason chosen (drop (i + 1) t)) s1 ≡ end
sweep_taken reason chosen t i x s s1 end lt at h done before =
    let F : List Branch → Doing = λ ys. does (sweep reason chosen ys) s in
    let rest = sweep reason chosen (drop (i + 1) t) in
    let e : F (drop i t) ≡ F (x ∷ drop (i + 1) t) = at_drop_more F t i x lt ∙ ap (λ y. F (y ∷ drop (i + 1) t)) (sym at) in
    let f : F (x ∷ drop (i + 1) t) ≡ does (abort_running reason x ++ rest) s = ap (λ (acts : List Act). does (acts ++ rest) s) (taken_by (chosen x) reason x h) in
    let g = does_append (abort_running reason x) rest s in
    ap (λ (z : Doing). does rest z) done ∙ (sym g ∙ (sym f ∙ (sym e ∙ before)))

-- where it is not
pub sweep_left : (reason : Reason) (chosen : Branch → Bool) (t : List Branch) (i : ℕ) (x : Branch) (s end : Doing)
    → i < length t → x ≡ get_or t i x → taken chosen x ≡ false
    → does (sweep reason chosen (drop i t)) s ≡ end → does (sweep reason chosen (drop (i + 1) t)) s ≡ end
sweep_left reason chosen t i x s end lt at h before =
    let F : List Branch → Doing = λ ys. does (sweep reason chosen ys) s in
    let rest = sweep reason chosen (drop (i + 1) t) in
    let e : F (drop i t) ≡ F (x ∷ drop (i + 1) t) = at_drop_more F t i x lt ∙ ap (λ y. F (y ∷ drop (i + 1) t)) (sym at) in
    let f : F (x ∷ drop (i + 1) t) ≡ does rest s = ap (λ (acts : List Act). does (acts ++ rest) s) (left_by (chosen x) reason x h) in
    sym f ∙ (sym e ∙ before)

pub swept_taken : (chosen : Branch → Bool) (t : List Branch) (i : ℕ) (x : Branch) (end : List Branch)
    → i < length t → x ≡ get_or t i x → taken chosen x ≡ true
    → take i t ++ swept chosen (drop i t) ≡ end → take i t ++ swept chosen (drop (i + 1) t) ≡ end
swept_taken chosen t i x end lt at h before =
    let e : swept chosen (drop i t) ≡ swept chosen (drop (i + 1) t) = at_drop_more (swept chosen) t i x lt ∙ (ap (λ y. swept chosen (y ∷ drop (i + 1) t)) (sym at) ∙ rw h refl) in
    ap (λ (rest : List Branch). take i t ++ rest) (sym e) ∙ before

pub swept_left : (chosen : Branch → Bool) (t : List Branch) (i : ℕ) (x : Branch) (end : List Branch)
    → i < length t → x ≡ get_or t i x → taken chosen x ≡ false
    → take i t ++ swept chosen (drop i t) ≡ end → take (i + 1) t ++ swept chosen (drop (i + 1) t) ≡ end
swept_left chosen t i x end lt at h before =
    let rest = swept chosen (drop (i + 1) t) in
    let e : swept chosen (drop i t) ≡ x ∷ rest = at_drop_more (swept chosen) t i x lt ∙ (ap (λ y. swept chosen (y ∷ drop (i + 1) t)) (sym at) ∙ rw h refl) in
    ap (λ (front : List Branch). front ++ rest) (take_push t i x lt at) ∙ (append_assoc (take i t) (x ∷ []) rest ∙ (ap (λ (back : List Branch). take i t ++ back) (sym e) ∙ before))

take-all : {X : Type 0} (t : List X) (i : ℕ) → length t ≤ i → take i t ≡ t
take-all [] zero le = refl
take-all [] (suc i) le = refl
take-all (y ∷ ys) zero le = absurd (omega arith)
take-all (y ∷ ys) (suc i) le = ap (λ rest. y ∷ rest) (take-all ys i (omega arith))

-- a sweep has come to a place
pub record Sweeping (reason : Reason) (chosen : Branch → Bool) (start s : Doing) (i : ℕ) : Type 0 where
  pub todo : does (sweep reason chosen (drop i s.tm.table)) s ≡ does (sweep reason chosen start.tm.table) start
  pub left : take i s.tm.table ++ swept chosen (drop i s.tm.table) ≡ swept chosen start.tm.table
  pub room : HasRoomForAll s

pub sweeping_taken : (reason : Reason) (chosen : Branch → Bool) (start s s1 : Doing) (i : ℕ) (x : Branch) → Sweeping reason chosen start s i → Unique s.tm.table
    → i < length s.tm.table → x ≡ get_or s.tm.table i x → taken chosen x ≡ true → s1 ≡ does (abort_running reason x) s → s1.tm.table ≡ cut x.key s.tm.table
    → length s1.effects ≤ length s.effects + 32 → length s1.tm.table + 1 ≤ length s.tm.table → Sweeping reason chosen start s1 i
sweeping_taken reason chosen start s s1 i x before u lt at h done cuts few fewer =
    let t = s.tm.table in
    let gone : s1.tm.table ≡ remove t i = cuts ∙ cut_middle t i x u lt at in
    let rest : drop i s1.tm.table ≡ drop (i + 1) t = ap (λ (ys : List Branch). drop i ys) gone ∙ drop_after t i lt in
    let front : take i s1.tm.table ≡ take i t = ap (λ (ys : List Branch). take i ys) gone ∙ take_remove t i in
    let room = before.room in
    record {
      todo = ap (λ (ys : List Branch). does (sweep reason chosen ys) s1) rest ∙ sweep_taken reason chosen t i x s s1 (does (sweep reason chosen start.tm.table) start) lt at h done before.todo;
      left = ap (λ (ys : List Branch). take i s1.tm.table ++ swept chosen ys) rest ∙ (ap (λ (ys : List Branch). ys ++ swept chosen (drop (i + 1) t)) front ∙ swept_taken chosen t i x (swept chosen start.tm.table) lt at h before.left);
      room = omega arith;
    }

pub sweeping_left : (reason : Reason) (chosen : Branch → Bool) (start s : Doing) (i : ℕ) (x : Branch) → Sweeping reason chosen start s i
    → i < length s.tm.table → x ≡ get_or s.tm.table i x → taken chosen x ≡ false → Sweeping reason chosen start s (i + 1)
sweeping_left reason chosen start s i x before lt at h =
    record {
      todo = sweep_left reason chosen s.tm.table i x s (does (sweep reason chosen start.tm.table) start) lt at h before.todo;
      left = swept_left chosen s.tm.table i x (swept chosen start.tm.table) lt at h before.left;
      room = before.room;
    }

pub sweeping_begins : (reason : Reason) (chosen : Branch → Bool) (start : Doing) → HasRoomForAll start → Sweeping reason chosen start start 0
sweeping_begins reason chosen start room = record { todo = refl; left = refl; room = room }

pub sweeping_done : (reason : Reason) (chosen : Branch → Bool) (start s : Doing) (i : ℕ) → Sweeping reason chosen start s i → length s.tm.table ≤ i → s ≡ does (sweep reason chosen start.tm.table) start
sweeping_done reason chosen start s i before le =
    sym (at_drop_all (λ ys. does (sweep reason chosen ys) s) s.tm.table i le) ∙ before.todo

pub sweeping_leaves : (reason : Reason) (chosen : Branch → Bool) (start s : Doing) (i : ℕ) → Sweeping reason chosen start s i → length s.tm.table ≤ i → s.tm.table ≡ swept chosen start.tm.table
sweeping_leaves reason chosen start s i before le =
    sym (append-nil s.tm.table) ∙ (ap (λ (ys : List Branch). ys ++ []) (sym (take-all s.tm.table i le)) ∙ (ap (λ (ys : List Branch). take i s.tm.table ++ ys) (sym (at_drop_all (swept chosen) s.tm.table i le)) ∙ before.left))

-- a sweep of other branches does the same after a first one
pub sweep_apart : (reason : Reason) (p q : Branch → Bool) → ((b : Branch) → p b ≡ true → q b ≡ false) → (t : List Branch) → sweep reason q (swept p t) ≡ sweep reason q t
sweep_apart reason p q apart [] = refl
sweep_apart reason p q apart (b ∷ bs) =
    let r = sweep_apart reason p q apart bs in
    elim (cases_Bool (taken p b)) [
      | inl h ↦ rw h (r ∙ sym (ap (λ (acts : List Act). acts ++ sweep reason q bs) (let c : p b ≡ true = first_true (p b) (may_abort b.state) h in let d = apart b c in (let P : Bool → Type 0 = λ v. aborted_if v reason b ≡ [] in subst P (sym d) refl))))
      | inr h ↦ rw h (ap (λ (rest : List Act). aborted_if (q b) reason b ++ rest) r)
    ]
  where
    first_true : (a b : Bool) → (a && b) ≡ true → a ≡ true
    first_true true b h = refl
    first_true false b h = absurd cc

-- a sweep, and then one of branches that it left alone
pub sweeps_apart : (reason : Reason) (p q : Branch → Bool) → ((b : Branch) → p b ≡ true → q b ≡ false) → (s0 s1 s2 : Doing)
    → s1 ≡ does (sweep reason p s0.tm.table) s0 → s1.tm.table ≡ swept p s0.tm.table → s2 ≡ does (sweep reason q s1.tm.table) s1
    → s2 ≡ does (sweep reason p s0.tm.table ++ sweep reason q s0.tm.table) s0
sweeps_apart reason p q apart s0 s1 s2 e l f =
    let same : sweep reason q s1.tm.table ≡ sweep reason q s0.tm.table = ap (λ (t : List Branch). sweep reason q t) l ∙ sweep_apart reason p q apart s0.tm.table in
    f ∙ (ap (λ (acts : List Act). does acts s1) same ∙ (ap (λ (z : Doing). does (sweep reason q s0.tm.table) z) e ∙ sym (does_append (sweep reason p s0.tm.table) (sweep reason q s0.tm.table) s0)))

pub apart_first : (f other : Bool) → (f && other) ≡ true → (g : Bool) → (not f && g) ≡ false
apart_first true other h g = refl
apart_first false other h g = absurd cc

pub apart_other : (f : Bool) → f ≡ true → not f ≡ false
apart_other true h = refl
apart_other false h = absurd cc
