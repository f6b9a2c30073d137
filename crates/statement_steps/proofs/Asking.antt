-- One branch after another asks at a node.
use Rattle.std.specs.Prelude.{slice_get}
use Rattle.std.proofs.Common.{◌≡◌, ℕ, ◌+◌, List, [], ◌∷◌, ◌++◌, length, Bool, true, false, Some, None, inl, inr, refl, sym, ◌∙◌, ap, subst, append_assoc, append-nil, length-append, arith}
use Rattle.vms_model.specs.Ids.{Id}
use Rattle.world_laws.specs.transcript_model.Lines.{Line, Normal}
use Rattle.commit_protocol.specs.Agreement.{Distinct}
use Rattle.commit_protocol.specs.Messages.{Message}
use Rattle.commit_protocol.specs.Rows.{Got, row}
use Rattle.commit_protocol.specs.Table.{without}
use Rattle.commit_protocol.specs.World.{In}
use Rattle.commit_protocol.proofs.Lists.{in_right, same_id-refl, told_id}
use Rattle.world_laws.specs.run_model.World.{DiskCounts, Node, Shared, World, tm_of}
use Rattle.world_laws.specs.run_model.Answers.{Hears}
use Rattle.world_laws.specs.run_model.Steps.{NodeStep}
use Rattle.world_laws.specs.run_model.Statements.{Asks, answer_in}
use Rattle.world_laws.specs.Nodes.{IsKeptNode}
use Rattle.statement_steps.specs.Doing.{DoesParts}
use Rattle.statement_steps.specs.Settling.{Asking, asks, doubts_of, question_in}
use Rattle.statement_steps.proofs.Hearing.{answers_so, hears_leaves, home_is}
use Rattle.statement_steps.proofs.Questions.{asker}
use Rattle.statement_steps.proofs.Walking.{does_ended, does_more, does_none}

-- Lists.

get_behind : (kept rest : List Id) → slice_get (kept ++ rest) (length kept) ≡ slice_get rest 0
get_behind [] rest = refl
get_behind (i ∷ kept) rest = get_behind kept rest

without_none : (r : Id) (xs : List Id) → (In r xs → ⊥) → without r xs ≡ xs
without_none r [] h = refl
without_none r (x ∷ xs) h = elim (told_id x r) [
  | inl q ↦ absurd (h (inl (sym q.1)))
  | inr q ↦ rw (q.0) (ap (λ ys. x ∷ ys) (without_none r xs (λ i. h (inr i))))
]

-- one that stands once
without_one : (r : Id) (kept rest : List Id) → Distinct (kept ++ r ∷ rest) → without r (kept ++ r ∷ rest) ≡ kept ++ rest
without_one r [] rest d = rw (same_id-refl r) (without_none r rest d.0)
without_one r (x ∷ kept) rest d = elim (told_id x r) [
  | inl q ↦ absurd (d.0 (in_right x kept (r ∷ rest) (inl q.1)))
  | inr q ↦ rw (q.0) (ap (λ ys. x ∷ ys) (without_one r kept rest d.1))
]

distinct_without : (kept rest : List Id) (r : Id) → Distinct (kept ++ r ∷ rest) → Distinct (kept ++ rest)
distinct_without [] rest r d = d.1
distinct_without (x ∷ kept) rest r d = ((λ i. d.0 (more kept i)), distinct_without kept rest r d.1)
  where
    more : (ks : List Id) → In x (ks ++ rest) → In x (ks ++ r ∷ rest)
    more [] i = inr i
    more (k ∷ ks) i = elim i [ inl e ↦ inl e | inr j ↦ inr (more ks j) ]

not_behind : (kept rest : List Id) (r : Id) → Distinct (kept ++ r ∷ rest) → In r rest → ⊥
not_behind [] rest r d i = d.0 i
not_behind (x ∷ kept) rest r d i = not_behind kept rest r d.1 i

first_in : (rest : List Id) (r : Id) → slice_get rest 0 ≡ Some r → In r rest
first_in [] r e = let none : ⊥ = cc in absurd none
first_in (x ∷ rest) r e = let same : r ≡ x = cc in inl same

asks_append : (node : List ℕ) (xs ys : List Id) → asks node (xs ++ ys) ≡ asks node xs ++ asks node ys
asks_append node [] ys = refl
asks_append node (x ∷ xs) ys = ap (λ ps. Asks node x ∷ ps) (asks_append node xs ys)

-- The first that is still to ask.
record IsNext {begun : List DiskCounts} {node : List ℕ} {serials : List Id} {w : World} {unanswered : ℕ} {doubts : List Id} {lines : List Line} {v : World} (h : Asking begun node serials w unanswered doubts lines v) (r : Id) : Type 0 where
  rest : List Id
  is : h.rest ≡ r ∷ rest
  now : doubts ≡ h.kept ++ r ∷ rest
  distinct : Distinct (h.kept ++ r ∷ rest)
  all : serials ≡ (h.asked ++ r ∷ []) ++ rest

-- A node begins to ask.
pub asking_none : (begun : List DiskCounts) (node : List ℕ) (doubts : List Id) (w : World) → Distinct doubts → Asking begun node doubts w 0 doubts [] w
asking_none begun node doubts w d = record { asked = []; kept = []; rest = doubts; all = refl; now = refl; count = refl; distinct = d; does = does_none begun w }

module _ (begun : List DiskCounts) (node : List ℕ) (serials : List Id) (w : World) (unanswered : ℕ) (doubts : List Id) (lines : List Line) (v : World) (h : Asking begun node serials w unanswered doubts lines v) where
  at_next : slice_get doubts unanswered ≡ slice_get h.rest 0
  at_next = (λ i. slice_get (h.now i) (sym h.count i)) ∙ get_behind h.kept h.rest

  next_is : (r : Id) → slice_get doubts unanswered ≡ Some r → IsNext h r
  next_is r e = by h.rest refl
    where
      by : (xs : List Id) → h.rest ≡ xs → IsNext h r
      by [] f = let g : None ≡ Some r = ap (λ ys. slice_get ys 0) (sym f) ∙ sym at_next ∙ e in let none : ⊥ = cc in absurd none
      by (x ∷ rest) f =
          let g : Some x ≡ Some r = ap (λ ys. slice_get ys 0) (sym f) ∙ sym at_next ∙ e in
          let same : x ≡ r = cc in
          let is : h.rest ≡ r ∷ rest = f ∙ ap (λ y. y ∷ rest) same in
          let now : doubts ≡ h.kept ++ r ∷ rest = h.now ∙ ap (λ ys. h.kept ++ ys) is in
          record { rest = rest; is = is; now = now; distinct = subst Distinct now h.distinct; all = h.all ∙ ap (λ ys. h.asked ++ ys) is ∙ sym (append_assoc h.asked (r ∷ []) rest) }

  asked_more : (r : Id) (more : List Line) (answer : Line) (ends : Bool) (u : World) → DoesParts begun (Asks node r ∷ []) v ends more answer u → DoesParts begun (asks node (h.asked ++ r ∷ [])) w ends (lines ++ more) answer u
  asked_more r more answer ends u does = subst (λ ps. DoesParts begun ps w ends (lines ++ more) answer u) (sym (asks_append node h.asked (r ∷ []))) (does_more begun (asks node h.asked) (Asks node r ∷ []) w v lines Normal ends more answer u h.does does)

  -- The next one got no answer: it is in doubt at its place still.
  pub asking_stays : (r : Id) (more : List Line) (u : World) → slice_get doubts unanswered ≡ Some r → DoesParts begun (Asks node r ∷ []) v false more Normal u → Asking begun node serials w (unanswered + 1) doubts (lines ++ more) u
  asking_stays r more u e does =
      let x = next_is r e in
      record {
        asked = h.asked ++ r ∷ [];
        kept = h.kept ++ r ∷ [];
        rest = x.rest;
        all = x.all;
        now = x.now ∙ sym (append_assoc h.kept (r ∷ []) x.rest);
        count = length-append h.kept (r ∷ []) ∙ ap (λ k. k + 1) h.count;
        distinct = h.distinct;
        does = asked_more r more Normal false u does;
      }

  -- It heard its outcome: it is in doubt no more, and another one, or none, stands at its place.
  pub asking_leaves : (r : Id) (left : List Id) (more : List Line) (u : World) → slice_get doubts unanswered ≡ Some r → left ≡ without r doubts → DoesParts begun (Asks node r ∷ []) v false more Normal u →
      Asking begun node serials w unanswered left (lines ++ more) u × (slice_get left unanswered ≡ Some r → ⊥) × (length doubts ≡ length left + 1)
  asking_leaves r left more u e gone does =
      let x = next_is r e in
      let now : left ≡ h.kept ++ x.rest = gone ∙ ap (without r) x.now ∙ without_one r h.kept x.rest x.distinct in (
        record {
          asked = h.asked ++ r ∷ [];
          kept = h.kept;
          rest = x.rest;
          all = x.all;
          now = now;
          count = h.count;
          distinct = subst Distinct (sym now) (distinct_without h.kept x.rest r x.distinct);
          does = asked_more r more Normal false u does;
        },
        (λ f. not_behind h.kept x.rest r x.distinct (first_in x.rest r (sym (get_behind h.kept x.rest) ∙ (λ i. slice_get (sym now i) (h.count i)) ∙ f))),
        ap length x.now ∙ length-append h.kept (r ∷ x.rest) ∙ omega (arith, length-append h.kept x.rest, ap length now),
      )

  -- The statement ended with its question.
  pub asking_ended : (r : Id) (more : List Line) (answer : Line) (u : World) → slice_get doubts unanswered ≡ Some r → DoesParts begun (Asks node r ∷ []) v true more answer u → DoesParts begun (asks node serials) w true (lines ++ more) answer u
  asking_ended r more answer u e does =
      let x = next_is r e in
      subst (λ ps. DoesParts begun ps w true (lines ++ more) answer u) (sym (ap (asks node) x.all ∙ asks_append node (h.asked ++ r ∷ []) x.rest))
      (does_ended begun (asks node (h.asked ++ r ∷ [])) (asks node x.rest) w (lines ++ more) answer u (asked_more r more answer true u does))

  -- All have asked.
  pub asking_all : slice_get doubts unanswered ≡ None → DoesParts begun (asks node serials) w false lines Normal v
  asking_all e = by h.rest refl
    where
      by : (xs : List Id) → h.rest ≡ xs → DoesParts begun (asks node serials) w false lines Normal v
      by [] f = subst (λ is. DoesParts begun (asks node is) w false lines Normal v) (sym (h.all ∙ ap (λ ys. h.asked ++ ys) f ∙ append-nil h.asked)) h.does
      by (x ∷ rest) f = let g : Some x ≡ None = ap (λ ys. slice_get ys 0) (sym f) ∙ sym at_next ∙ e in let none : ⊥ = cc in absurd none

-- Where a branch of a kept node that is up asks, the answer comes to that node,
pub answer_comes : (s : Shared) (n c : Node) (serial : Id) (q m : Message) → IsKeptNode s n → n.up ≡ true → question_in serial n.volatile.branches ≡ Some q → answer_in (row (tm_of c) (Got q)) ≡ Some m → m.to ≡ n.name
answer_comes s n c serial q m h up e answer =
    let a = asker serial n q e in
    let k = answers_so c a.branch.key m (subst (λ (x : Message). answer_in (row (tm_of c) (Got x)) ≡ Some m) a.asks answer) in
    ap (λ (x : Message). x.to) k.is ∙ home_is s n serial a.branch h up a.among

-- and once it is heard the branch is in doubt no more.
pub answer_leaves : (s : Shared) (n c : Node) (serial : Id) (q m : Message) → IsKeptNode s n → n.up ≡ true → question_in serial n.volatile.branches ≡ Some q → answer_in (row (tm_of c) (Got q)) ≡ Some m →
    (old new : DiskCounts) (lines : List Line) (last : Line) (y : Node) (after : Shared) → NodeStep s n old (Hears m) lines last false y after new → doubts_of y ≡ without serial (doubts_of n)
answer_leaves s n c serial q m h up e answer old new lines last y after step =
    let a = asker serial n q e in
    hears_leaves s n c old serial a.branch m lines last y after new h up a.among a.prepared (subst (λ (x : Message). answer_in (row (tm_of c) (Got x)) ≡ Some m) a.asks answer) step
