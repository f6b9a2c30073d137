-- Events that abort each of several branches.
use Rattle.std.proofs.lemmas.Bool.{cases_Bool, and_parts}
use Rattle.std.specs.Prelude.{not, ◌&&◌}
use Rattle.std.specs.List.{list_any}
use Rattle.std.proofs.Common.{◌≡◌, ◌≢◌, Bool, true, false, List, [], ◌∷◌, ◌++◌, Option, Some, None, inl, inr, refl, ap, sym, subst, ◌∙◌}
use Rattle.vms_model.specs.Transactions.{Abort as ToAbort, Reason, CommFail, SegFail}
use Rattle.commit_protocol.specs.Messages.{Name, No, Message, AbortEvent, same_name}
use Rattle.commit_protocol.specs.Table.{Key, Branch, State, Joining, Active, Ending, Voting, Prepared, Act, Sends, same_key, first, coordinator_of, is_first, find}
use Rattle.commit_protocol.specs.World.{World, In, tm_at}
use Rattle.commit_protocol.specs.Agreement.{View, view}
use Rattle.commit_protocol.specs.Rows.{up, sends_all, tells, interested, is_noted, ended, told_abort, aborts, refuses, abort_running, abort_by_state, aborted_if, sweep, is_cut_off, is_under, is_other, row, LinkDown, RunDown}
use Rattle.commit_protocol.proofs.Lists.{set_at, set_cases, told_key, same_key-refl, Unique}
use Rattle.commit_protocol.proofs.Invariant.{Inv}
use Rattle.commit_protocol.proofs.Settling.{settles}
use Rattle.commit_protocol.proofs.Bridge.{acted}
use Rattle.commit_protocol.proofs.Acting.{Good, MayAll, may_append, acted_all, kept_all}
use Rattle.commit_protocol.proofs.JoinRows.{Found, found, may_abort_by_state, at_tells, at_ended}
use Rattle.commit_protocol.proofs.VoteRows.{at_sends}

in_find : (bs : List Branch) (b : Branch) (k : Key) → In b bs → b.key ≡ k → find k bs ≡ None → ⊥
in_find [] b k i e n = i
in_find (x ∷ xs) b k i e n =
    elim (told_key x.key k) [
      | inl q ↦ let z : Some x ≡ None = rw (q.0) at n in cc
      | inr q ↦ let n' : find k xs ≡ None = rw (q.0) at n in elim i [
        | inl z ↦ q.1 (ap (λ (y : Branch). y.key) (sym z) ∙ e)
        | inr z ↦ in_find xs b k z e n'
      ]
    ]

pub unique_find : (bs : List Branch) (b : Branch) → Unique bs → In b bs → find b.key bs ≡ Some b
unique_find [] b u i = absurd i
unique_find (x ∷ xs) b u i =
    elim i [
      | inl z ↦ let P : Branch → Type 0 = λ y. find y.key (x ∷ xs) ≡ Some y in subst P (sym z) (rw (same_key-refl x.key) refl)
      | inr z ↦ elim (told_key x.key b.key) [
        | inl q ↦ absurd (in_find xs b x.key z (sym q.1) u.0)
        | inr q ↦ rw (q.0) (unique_find xs b u.1 z)
      ]
    ]

set_away : (j k : Key) (o : Option Branch) (f : Key → Option Branch) → j ≢ k → set_at j o f k ≡ f k
set_away j k o f ne = elim (set_cases j k o f) [ inl e ↦ absurd (ne e.0) | inr e ↦ e.1 ]

acted_append : (n : Name) (xs ys : List Act) (v : View) → acted_all n (xs ++ ys) v ≡ acted_all n ys (acted_all n xs v)
acted_append n [] ys v = refl
acted_append n (a ∷ xs) ys v = acted_append n xs ys (acted n a v)

-- aborting one branch changes no other
at_aborts : (n : Name) (b : Branch) (why : Reason) (v : View) (j : Key) → b.key ≢ j → (acted_all n (aborts why b) v).at j ≡ v.at j
at_aborts n b why v j ne =
    let w : View = settles v v.lost b.key ToAbort in
    let msgs : List Message = told_abort b.key.tid b.accepted in
    let xs : List Name = interested b.managers in
    let u : View = acted_all n (sends_all msgs) w in
    let P : View → Type 0 = λ x. x.at j ≡ v.at j in
    let sent : u.at j ≡ v.at j = ap (λ (f : Key → Option Branch). f j) (at_sends n msgs w) ∙ set_away b.key j None v.at ne in
    let told : (acted_all n (tells AbortEvent b.key xs) u).at j ≡ v.at j = subst P (sym (at_tells n AbortEvent b.key xs u)) sent in
    let shown : (acted_all n (ended b b.state (Some why)) (acted_all n (tells AbortEvent b.key xs) u)).at j ≡ v.at j = subst P (sym (at_ended n b b.state (Some why) (acted_all n (tells AbortEvent b.key xs) u))) told in
    subst P (sym (acted_append n (sends_all msgs) (tells AbortEvent b.key xs ++ ended b b.state (Some why)) w ∙ acted_append n (tells AbortEvent b.key xs) (ended b b.state (Some why)) u)) shown

at_refuses : (n : Name) (b : Branch) (why : Reason) (v : View) (j : Key) → b.key ≢ j → (acted_all n (refuses why b) v).at j ≡ v.at j
at_refuses n b why v j ne =
    let w : View = acted n (Sends (up No b.key)) (settles v v.lost b.key ToAbort) in
    let P : View → Type 0 = λ x. x.at j ≡ v.at j in
    subst P (sym (at_tells n AbortEvent b.key (interested b.managers) w)) (set_away b.key j None v.at ne)

at_running : (n : Name) (b : Branch) (why : Reason) (v : View) (j : Key) → b.key ≢ j → (acted_all n (abort_running why b) v).at j ≡ v.at j
at_running n b why v j ne =
    elim (cases_Bool (is_first b)) [
      | inl e ↦ rw e (at_aborts n b why v j ne)
      | inr e ↦ rw e (at_refuses n b why v j ne)
    ]

at_state : (n : Name) (b : Branch) (why : Reason) (v : View) (j : Key) → b.key ≢ j → (s : State) → (acted_all n (abort_by_state why b s) v).at j ≡ v.at j
at_state n b why v j ne Prepared = refl
at_state n b why v j ne Joining = at_running n b why v j ne
at_state n b why v j ne Active = at_running n b why v j ne
at_state n b why v j ne Ending = at_running n b why v j ne
at_state n b why v j ne Voting = at_running n b why v j ne

at_if : (n : Name) (b : Branch) (why : Reason) (v : View) (j : Key) (c : Bool) → (c ≡ true → b.key ≢ j) → (acted_all n (aborted_if c why b) v).at j ≡ v.at j
at_if n b why v j true ne = at_state n b why v j (ne refl) b.state
at_if n b why v j false ne = refl

at_swept : (n : Name) (why : Reason) (chosen : Branch → Bool) (bs : List Branch) (v : View) (j : Key) → ((b : Branch) → In b bs → chosen b ≡ true → b.key ≢ j) → (acted_all n (sweep why chosen bs) v).at j ≡ v.at j
at_swept n why chosen [] v j ne = refl
at_swept n why chosen (b ∷ bs) v j ne =
    ap (λ (x : View). x.at j) (acted_append n (aborted_if (chosen b) why b) (sweep why chosen bs) v)
    ∙ (at_swept n why chosen bs (acted_all n (aborted_if (chosen b) why b) v) j (λ x i s. ne x (inr i) s) ∙ at_if n b why v j (chosen b) (λ s. ne b (inl refl) s))

may_if : (v : View) (n : Name) (why : Reason) (b : Branch) → Inv v → (c : Bool) → (c ≡ true → Found v n b.key b) → MayAll n (aborted_if c why b) v
may_if v n why b i true f = may_abort_by_state v n b.key b i (f refl) why b.state refl
may_if v n why b i false f = tt

found_same : (v w : View) (n : Name) (b : Branch) → w.at b.key ≡ v.at b.key → Found v n b.key b → Found w n b.key b
found_same v w n b e f = record { at = e ∙ f.at; home = f.home; key = f.key }

pub may_swept : (v : View) (n : Name) (why : Reason) (chosen : Branch → Bool) (bs : List Branch) → Inv v → Unique bs → ((b : Branch) → In b bs → chosen b ≡ true → Found v n b.key b) → MayAll n (sweep why chosen bs) v
may_swept v n why chosen [] i u f = tt
may_swept v n why chosen (b ∷ bs) i u f =
    let one : MayAll n (aborted_if (chosen b) why b) v = may_if v n why b i (chosen b) (λ s. f b (inl refl) s) in
    let w : View = acted_all n (aborted_if (chosen b) why b) v in
    may_append n (aborted_if (chosen b) why b) (sweep why chosen bs) v one
    (may_swept w n why chosen bs (kept_all n (aborted_if (chosen b) why b) v i one).inv u.1
    (λ x j s. found_same v w n x (at_if n b why v x.key (chosen b) (λ q e. in_find bs x b.key j (sym e) u.0)) (f x (inr j) s)))

-- all branches of the table
pub table_found : (w : World) (n : Name) → Good w → (b : Branch) → In b (w.nodes n).table → Found (view w) n b.key b
table_found w n g b i = found w n b.key b g (unique_find (w.nodes n).table b (g.unique n) i)

pub may_sweep : (w : World) (n : Name) (why : Reason) (chosen : Branch → Bool) → Good w → MayAll n (sweep why chosen (w.nodes n).table) (view w)
may_sweep w n why chosen g = may_swept (view w) n why chosen (w.nodes n).table g.inv (g.unique n) (λ b i s. table_found w n g b i)

-- first the one choice, then another that chooses other keys
pub may_sweep_two : (w : World) (n : Name) (why : Reason) (one two : Branch → Bool) → Good w → ((a b : Branch) → one a ≡ true → two b ≡ true → a.key ≢ b.key) → MayAll n (sweep why one (w.nodes n).table ++ sweep why two (w.nodes n).table) (view w)
may_sweep_two w n why one two g apart =
    let bs : List Branch = (w.nodes n).table in
    let v : View = acted_all n (sweep why one bs) (view w) in
    let a = may_sweep w n why one g in
    may_append n (sweep why one bs) (sweep why two bs) (view w) a
    (may_swept v n why two bs (kept_all n (sweep why one bs) (view w) g.inv a).inv (g.unique n)
    (λ b i s. found_same (view w) v n b (at_swept n why one bs (view w) b.key (λ x j q. apart x b q s)) (table_found w n g b i)))

first_same : (a b : Branch) → a.key ≡ b.key → is_first a ≡ is_first b
first_same a b e = ap (λ (k : Key). same_key k (first k.tid)) e

first_or : (a b : Branch) (t : Bool) → is_first b ≡ t → is_first a ≡ true → not t ≡ true → a.key ≢ b.key
first_or a b true e h n k = let z : false ≡ true = n in cc
first_or a b false e h n k = let z : true ≡ false = sym h ∙ (first_same a b k ∙ e) in cc

pub may_link_down : (w : World) (n x : Name) → Good w → MayAll n (row (tm_at w n) (LinkDown x)) (view w)
may_link_down w n x g = may_sweep_two w n CommFail (is_cut_off x) (is_under x) g (λ a b p q.
    first_or a b (is_first b) refl (and_parts (is_first a) (list_any (λ c. same_name c.serial.node x && not (is_noted c.vote)) a.accepted) p).0 (and_parts (not (is_first b)) (same_name (coordinator_of b.key) x) q).0)

pub may_run_down : (w : World) (n : Name) → Good w → MayAll n (row (tm_at w n) RunDown) (view w)
may_run_down w n g = may_sweep_two w n SegFail is_first is_other g (λ a b p q. first_or a b (is_first b) refl p q)
