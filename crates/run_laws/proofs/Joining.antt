-- A branch is told to have joined only where its node takes a Join; and what that leaves of the first branch of its transaction.
use Rattle.std.proofs.Common.{◌≡◌, ℕ, zero, suc, ◌+◌, ◌⊎◌, List, [], ◌∷◌, ◌++◌, take, inl, inr, Bool, true, false, not, ◌&&◌, Option, Some, None, if◌then◌else◌, refl, sym, ap, subst}
use Rattle.std.specs.Prelude.{nat_lt, length}
use Rattle.std.specs.List.{list_any}
use Rattle.std.specs.Option.{option_map, option_and_then}
use Rattle.std.proofs.lemmas.Bool.{cases_Bool}
use Rattle.vms_model.specs.Ids.{Id}
use Rattle.vms_model.specs.Transactions.{Aborted}
use Rattle.vms_model.specs.Limits.{message_limit}
use Rattle.run_said.specs.transcript_model.Lines as line
use Rattle.run_said.specs.transcript_model.Lines.{Line, Cause}
use Rattle.run_said.specs.script_model.Statements.{Request, Boot, StartTrans, AddBranch, StartBranch, EndBranch, EndTrans, AbortTrans, Inquire, JoinRm, AckEvent, Clock}
use Rattle.commit_protocol.specs.Messages as message
use Rattle.commit_protocol.specs.Messages.{Message, same_id}
use Rattle.commit_protocol.specs.Table as table
use Rattle.commit_protocol.specs.Table.{Branch, Child, State, Act, Notes, Accepts, Prepares, Settles, Leaves, Sends, find, first, put}
use Rattle.commit_protocol.specs.Allowed.{is_prepared}
use Rattle.commit_protocol.specs.Rows as rows
use Rattle.commit_protocol.specs.Rows.{Event, Got, grants_join, has_bid, join_row, join_state, joined_as, refuses_join, row}
use Rattle.commit_protocol.specs.World.{In}
use Rattle.run_said.specs.run_model.World as world
use Rattle.run_said.specs.run_model.World.{Shared, Node, Label, Tables, next_id, next_moment, labelled, tm_of}
use Rattle.run_said.specs.run_model.Answers as answers
use Rattle.run_said.specs.run_model.Answers.{Row, Service, Task, Serves, Ticks, Takes, Hears, LosesLink, RunsDown, Restarts, begins, powers, prepared_lines, refused_before_reading, sent_line, service, table_rows, task_service, told_if}
use Rattle.run_said.specs.run_model.Steps.{Choice, Whole, WithoutMemory, Unpowered, Cut, begun, lines_of_rows, node_after, node_after_rows, ready_node, rows_if, task_effect, whole}
use Rattle.run_laws.proofs.Contents.{ArePutting, IsTold, PutsIn, TaskAccepts, TaskNotes, begins_none, task_putting}
use Rattle.run_laws.proofs.EachRow.{AreVoteless, EachRow, VotesSo, cut_each, is_voteless, take_each}
use Rattle.run_said.proofs.Passing.{AllPass, append_passes, prepared_passes}
use Rattle.run_laws.proofs.PreparedLines.{passes_in}
use Rattle.run_laws.proofs.RowFits.{Votes, each_votes}
use Rattle.run_laws.proofs.ShownSettled.{in_append}

-- Rows.

-- an act that accepts a branch does so
abbrev AcceptsIn : (Branch → Child → Type 0) → Option world.Act → Type 0
AcceptsIn A (Some (Tables (Accepts b c) moment)) = A b c
AcceptsIn A _ = Unit {0}

abbrev AllAccept : (Branch → Child → Type 0) → List Row → Type 0
AllAccept A [] = Unit {0}
AllAccept A (r ∷ rs) = AcceptsIn A r.act × AllAccept A rs

of_putting : (N : Branch → Type 0) (A : Branch → Child → Type 0) (rs : List Row) → ArePutting N A rs → AllAccept A rs
of_putting N A [] h = tt
of_putting N A (r ∷ rs) h = (one r.act r.lines h.0, of_putting N A rs h.1)
  where
    one : (o : Option world.Act) (ls : List Line) → PutsIn N A o ls → AcceptsIn A o
    one (Some (Tables (Accepts b c) moment)) ls k = k.0
    one _ ls k = tt

take_accepts : (A : Branch → Child → Type 0) (j : ℕ) (rs : List Row) → AllAccept A rs → AllAccept A (take j rs)
take_accepts A zero rs h = tt
take_accepts A (suc j) [] h = tt
take_accepts A (suc j) (r ∷ rs) h = (h.0, take_accepts A j rs h.1)

cut_accepts : (A : Branch → Child → Type 0) (o : Option Line) (rs : List Row) → AllAccept A rs → AllAccept A (rows_if o rs)
cut_accepts A (Some refusal) rs h = tt
cut_accepts A None rs h = h

task_accepts : (s : Shared) (n : Node) (t : Task) → AllAccept (TaskAccepts s n t) ((task_service t).rows s n)
task_accepts s n t = go t (cases_Bool (begins_none t))
  where
    begun_so : (A : Branch → Child → Type 0) (o : Option Label) → AllAccept A (told_if s n (option_and_then (begins n) o))
    begun_so A None = tt
    begun_so A (Some l) = by l.bid
      where
        by : (o : Option Id) → AllAccept A (told_if s n (option_map (λ bid. let t : answers.Telling = record { before = world.Draws ∷ world.Numbers l.name (next_id n) ∷ []; event = rows.Begin l.tid (next_id n) bid } in t) o))
        by None = tt
        by (Some bid) = (tt, (tt, (tt, (tt, tt))))

    go : (t : Task) → (begins_none t ≡ true) ⊎ (begins_none t ≡ false) → AllAccept (TaskAccepts s n t) ((task_service t).rows s n)
    go t (inl e) = of_putting (TaskNotes s n t) (TaskAccepts s n t) ((task_service t).rows s n) (task_putting s n t e)
    go (Serves (StartTrans label seconds)) (inr e) = (tt, (tt, (tt, tt)))
    go (Serves (StartBranch label)) (inr e) = begun_so (TaskAccepts s n (Serves (StartBranch label))) (labelled n.name label s.labels)
    go (Serves (Clock now)) (inr e) = (tt, tt)
    go (Serves _) (inr e) = let no : ⊥ = cc in absurd no
    go _ (inr e) = let no : ⊥ = cc in absurd no

-- a task is told a Join
abbrev pub HearsJoin : Task → Type 0
HearsJoin t = (x : Message) × ((t ≡ Takes x) ⊎ (t ≡ Hears x)) × (x.kind ≡ message.Join)

-- A task that tells that a branch joined is told one.
module _ (tid serial : Id) where
  -- a branch that is accepted is the one that is told
  abbrev IsAccepted : (Branch → Child → Type 0) → Type 0
  IsAccepted A = (b : Branch) × (c : Child) × A b c × (tid ≡ b.key.tid) × (serial ≡ c.serial)

  in_voteless : (ls : List Line) → AreVoteless ls → In (line.Joined tid serial) ls → ⊥
  in_voteless ls h i = let clash : false ≡ true = passes_in is_voteless ls (line.Joined tid serial) h i in let no : ⊥ = cc in no

  row_joined : (A : Branch → Child → Type 0) (o : Option world.Act) (ls : List Line) → VotesSo o ls → AcceptsIn A o → In (line.Joined tid serial) ls → IsAccepted A
  row_joined A (Some (Tables (Accepts b c) moment)) ls v a i = elim (subst (In (line.Joined tid serial)) v i) [
    | inl same ↦ (let is : line.Joined tid serial ≡ line.Joined b.key.tid c.serial = same in (b, c, a, cc, cc))
    | inr none ↦ absurd none
  ]
  row_joined A (Some (Tables (Prepares b) moment)) ls v a i = elim (subst (In (line.Joined tid serial)) v i) [ inl same ↦ (let no : ⊥ = cc in absurd no) | inr none ↦ absurd none ]
  row_joined A (Some (Tables (Leaves k) moment)) ls v a i = elim (subst (In (line.Joined tid serial)) v i) [ inl same ↦ (let no : ⊥ = cc in absurd no) | inr none ↦ absurd none ]
  row_joined A (Some (Tables _ moment)) ls v a i = absurd (in_voteless ls v i)
  row_joined A _ ls v a i = absurd (in_voteless ls v i)

  rows_joined : (A : Branch → Child → Type 0) (rs : List Row) (n : Node) → EachRow Votes rs n → AllAccept A rs → In (line.Joined tid serial) (lines_of_rows rs) → IsAccepted A
  rows_joined A [] n v a i = absurd i
  rows_joined A (r ∷ rs) n v a i = elim (in_append (line.Joined tid serial) r.lines (lines_of_rows rs) i) [ inl j ↦ row_joined A r.act r.lines v.0 a.0 j | inr j ↦ rows_joined A rs (node_after r.act n) v.1 a.1 j ]

  -- Tasks.

  abbrev is_unjoined : Line → Bool
  is_unjoined (line.Joined t s) = false
  is_unjoined _ = true

  in_unjoined : (ls : List Line) → AllPass is_unjoined ls → In (line.Joined tid serial) ls → ⊥
  in_unjoined ls h i = let clash : false ≡ true = passes_in is_unjoined ls (line.Joined tid serial) h i in let no : ⊥ = cc in no

  closing_unjoined : (t : Task) (n : Node) → AllPass is_unjoined ((task_service t).closing_lines n)
  closing_unjoined (Serves r) n = of_request r
    where
      of_request : (r : Request) → AllPass is_unjoined ((service r).closing_lines n)
      of_request Boot = prepared_passes is_unjoined (λ t s. refl) _
      of_request _ = tt
  closing_unjoined Restarts n = append_passes is_unjoined (prepared_lines n) _ (prepared_passes is_unjoined (λ t s. refl) _) (refl, tt)
  closing_unjoined _ n = tt

  -- what it accepts it is told of by a message
  told_message : (s : Shared) (n : Node) (t : Task) (x : Message) → IsTold s n t (Got x) → (t ≡ Takes x) ⊎ (t ≡ Hears x)
  told_message s n (Takes m) x h = let same : m ≡ x = cc in inl (ap Takes same)
  told_message s n (Hears m) x h = let same : m ≡ x = cc in inr (ap Hears same)
  told_message s n (Serves (EndTrans label)) x h = let no : Got x ≡ rows.EndTrans h.0.key.tid = h.2 in let none : ⊥ = cc in absurd none
  told_message s n (Serves (AddBranch label other new)) x h = let no : Got x ≡ rows.Authorise h.0.key.tid (next_id n) = h.2 in let none : ⊥ = cc in absurd none
  told_message s n (Serves (EndBranch label)) x h = let no : Got x ≡ rows.EndBranch h.0.key.serial = h.1 in let none : ⊥ = cc in absurd none
  told_message s n (Serves (AbortTrans label)) x h = let no : Got x ≡ rows.AbortBranch h.0.key.serial Aborted = h.1 in let none : ⊥ = cc in absurd none
  told_message s n (Serves (Inquire who)) x h = let no : Got x ≡ rows.InquireBranch h.0.key.serial = h.1 in let none : ⊥ = cc in absurd none
  told_message s n (Serves (JoinRm label rm)) x h = let no : Got x ≡ rows.JoinRm h.0.key.serial rm = h.1 in let none : ⊥ = cc in absurd none
  told_message s n (Serves (AckEvent who rm reply)) x h = let no : Got x ≡ rows.Replied h.0 rm reply = h.1 in let none : ⊥ = cc in absurd none
  told_message s n (Serves _) x h = absurd h
  told_message s n Ticks x h = let no : ⊥ = cc in absurd no
  told_message s n (LosesLink other) x h = let no : ⊥ = cc in absurd no
  told_message s n RunsDown x h = let no : ⊥ = cc in absurd no
  told_message s n Restarts x h = absurd h

  of_accepted : (s : Shared) (n : Node) (t : Task) → IsAccepted (TaskAccepts s n t) → HearsJoin t
  of_accepted s n t (b, c, (e, told, a), of, is) = (a.2, told_message s n t a.2 (subst (IsTold s n t) a.3 told), a.7)

  pub effect_joined : (s : Shared) (stops : ℕ) (n : Node) (t : Task) (c : Choice) → In (line.Joined tid serial) (task_effect s stops n t c).lines → HearsJoin t
  effect_joined s stops n t (Whole o) i = at_first (refused_before_reading s n (task_service t)) i
    where
      ready : Node
      ready = ready_node o stops (task_service t) n

      late : (q : Option Line) → In (line.Joined tid serial) (begun s ready (task_service t) q).lines → HearsJoin t
      late (Some refusal) j = absurd j
      late None j = elim (in_append (line.Joined tid serial) (lines_of_rows ((task_service t).rows s ready)) ((task_service t).closing_lines ready) j) [
        | inl k ↦ of_accepted s ready t (rows_joined (TaskAccepts s ready t) ((task_service t).rows s ready) ready (each_votes s ready t) (task_accepts s ready t) k)
        | inr k ↦ absurd (in_unjoined ((task_service t).closing_lines ready) (closing_unjoined t ready) k)
      ]

      at_first : (q : Option Line) → In (line.Joined tid serial) (whole s n ready (task_service t) q).lines → HearsJoin t
      at_first (Some refusal) j = absurd j
      at_first None j = late ((task_service t).refused_after_reading s ready) j
  effect_joined s stops n t WithoutMemory i = absurd i
  effect_joined s stops n t Unpowered i = absurd (in_unjoined (line.Down n.name line.Failed ∷ []) (refl, tt) i)
  effect_joined s stops n t (Cut o j b cause) i =
      let ready = ready_node o stops (task_service t) n in
      let late = (task_service t).refused_after_reading s ready in
      let all = (task_service t).rows s ready in
      elim (in_append (line.Joined tid serial) (lines_of_rows (take j (rows_if late all))) (line.Down ready.name cause ∷ []) i) [
        | inl k ↦ of_accepted s ready t (rows_joined (TaskAccepts s ready t) (take j (rows_if late all)) ready (take_each Votes j (rows_if late all) ready (cut_each Votes late all ready (each_votes s ready t))) (take_accepts (TaskAccepts s ready t) j (rows_if late all) (cut_accepts (TaskAccepts s ready t) late all (task_accepts s ready t))) k)
        | inr k ↦ absurd (in_unjoined (line.Down ready.name cause ∷ []) (refl, tt) k)
      ]

-- A node that takes a Join.

abbrev pub accepting : Branch → Id → Message → Branch
accepting b bid m = record b { accepted = b.accepted ++ record { bid = bid; serial = m.serial; vote = None } ∷ [] }

-- its row sends an answer, and perhaps accepts the branch before
data Shape (m : Message) (o : Option Branch) (acts : List Act) : Type 0 where
  Answers : (y : Message) → acts ≡ Sends y ∷ [] → Shape m o acts
  Accepting : (b : Branch) (bid : Id) (y : Message) → o ≡ Some b → is_prepared b.state ≡ false → m.bid ≡ Some bid → acts ≡ Accepts b (record { bid = bid; serial = m.serial; vote = None }) ∷ Sends y ∷ [] → Shape m o acts

join_shape : (m : Message) (o : Option Branch) → Shape m o (join_row m o)
join_shape m None = Answers _ refl
join_shape m (Some b) = go b.state m.bid refl refl
  where
    known : (bid : Id) (t : Bool) (more : List Act) → Shape m (Some b) more → Shape m (Some b) (if t then grants_join m else more)
    known bid true more h = Answers _ refl
    known bid false more h = h

    new : (bid : Id) (t : Bool) → is_prepared b.state ≡ false → m.bid ≡ Some bid → Shape m (Some b) (if t then Accepts b (record { bid = bid; serial = m.serial; vote = None }) ∷ grants_join m else refuses_join m)
    new bid true u e = Accepting b bid _ refl u e refl
    new bid false u e = Answers _ refl

    go : (s : State) (o : Option Id) → b.state ≡ s → m.bid ≡ o → Shape m (Some b) (join_state m b s o)
    go table.Active (Some bid) a e = known bid (joined_as bid m.serial b.accepted) _ (new bid (list_any (λ x. same_id x bid) b.bids && not (has_bid bid b.accepted)) (ap is_prepared a) e)
    go table.Ending (Some bid) a e = known bid (joined_as bid m.serial b.accepted) (refuses_join m) (Answers _ refl)
    go table.Active None a e = Answers _ refl
    go table.Ending None a e = Answers _ refl
    go table.Joining bid a e = Answers _ refl
    go table.Voting bid a e = Answers _ refl
    go table.Prepared bid a e = Answers _ refl

pub record TakesJoin (tid serial : Id) (n : Node) (m : Message) (left : List Branch) : Type 0 where
  pub b : Branch
  pub bid : Id
  pub found : find (first m.tid) n.volatile.branches ≡ Some b
  pub open_still : is_prepared b.state ≡ false
  pub named : m.bid ≡ Some bid
  pub of : tid ≡ b.key.tid
  pub is : serial ≡ m.serial
  pub puts : left ≡ put (accepting b bid m) n.volatile.branches

module _ (tid serial : Id) (s : Shared) (stops : ℕ) (n : Node) (m : Message) (join : m.kind ≡ message.Join) where
  sent_unjoined : (y : Message) (wire : List Message) → is_unjoined tid serial (sent_line y wire) ≡ true
  sent_unjoined y wire = go (nat_lt (length wire) message_limit)
    where
      go : (t : Bool) → is_unjoined tid serial (if t then line.Sent (length wire + 1) y else line.Unsent y) ≡ true
      go true = refl
      go false = refl

  abbrev Result : List Branch → Type 0
  Result left = TakesJoin tid serial n m left

  acts_are : row (tm_of n) (Got m) ≡ join_row m (find (first m.tid) n.volatile.branches)
  acts_are = ap (rows.got (tm_of n) m) join

  -- of these rows, cut or not
  of_rows : (acts : List Act) → Shape m (find (first m.tid) n.volatile.branches) acts → (more : List Line) → AllPass (is_unjoined tid serial) more → (j : ℕ) →
      (In (line.Joined tid serial) (lines_of_rows (take j (table_rows acts s n)) ++ more) → Result (node_after_rows (take j (table_rows acts s n)) n).volatile.branches)
      × (In (line.Joined tid serial) (lines_of_rows (table_rows acts s n) ++ more) → Result (node_after_rows (table_rows acts s n) n).volatile.branches)
  of_rows acts (Answers y is) more plain j = subst (λ acts. (In (line.Joined tid serial) (lines_of_rows (take j (table_rows acts s n)) ++ more) → Result (node_after_rows (take j (table_rows acts s n)) n).volatile.branches)
      × (In (line.Joined tid serial) (lines_of_rows (table_rows acts s n) ++ more) → Result (node_after_rows (table_rows acts s n) n).volatile.branches)) (sym is) (λ i. absurd (cut j i), λ i. absurd (all i))
    where
      all : In (line.Joined tid serial) (lines_of_rows (table_rows (Sends y ∷ []) s n) ++ more) → ⊥
      all i = in_unjoined tid serial (sent_line y s.wire ∷ more) (sent_unjoined y s.wire, plain) i

      cut : (j : ℕ) → In (line.Joined tid serial) (lines_of_rows (take j (table_rows (Sends y ∷ []) s n)) ++ more) → ⊥
      cut zero i = in_unjoined tid serial more plain i
      cut (suc zero) i = all i
      cut (suc (suc j)) i = all i
  of_rows acts (Accepting b bid y found open_still named is) more plain j = subst (λ acts. (In (line.Joined tid serial) (lines_of_rows (take j (table_rows acts s n)) ++ more) → Result (node_after_rows (take j (table_rows acts s n)) n).volatile.branches)
      × (In (line.Joined tid serial) (lines_of_rows (table_rows acts s n) ++ more) → Result (node_after_rows (table_rows acts s n) n).volatile.branches)) (sym is) (λ i. cut j i, λ i. told _ (all i) refl)
    where
      c : Child
      c = record { bid = bid; serial = m.serial; vote = None }

      told : (left : List Branch) → line.Joined tid serial ≡ line.Joined b.key.tid m.serial → left ≡ put (accepting b bid m) n.volatile.branches → Result left
      told left same puts = record { b = b; bid = bid; found = found; open_still = open_still; named = named; of = cc; is = cc; puts = puts }

      sent : List Message → Line
      sent wire = sent_line y wire

      all : In (line.Joined tid serial) (lines_of_rows (table_rows (Accepts b (record { bid = bid; serial = m.serial; vote = None }) ∷ Sends y ∷ []) s n) ++ more) → line.Joined tid serial ≡ line.Joined b.key.tid m.serial
      all i = elim i [ inl same ↦ same | inr k ↦ absurd (in_unjoined tid serial (sent_line y s.wire ∷ more) (sent_unjoined y s.wire, plain) k) ]

      cut : (j : ℕ) → In (line.Joined tid serial) (lines_of_rows (take j (table_rows (Accepts b (record { bid = bid; serial = m.serial; vote = None }) ∷ Sends y ∷ []) s n)) ++ more) → Result (node_after_rows (take j (table_rows (Accepts b (record { bid = bid; serial = m.serial; vote = None }) ∷ Sends y ∷ []) s n)) n).volatile.branches
      cut zero i = absurd (in_unjoined tid serial more plain i)
      cut (suc zero) i = told _ (elim i [ inl same ↦ same | inr k ↦ absurd (in_unjoined tid serial more plain k) ]) refl
      cut (suc (suc zero)) i = told _ (all i) refl
      cut (suc (suc (suc j))) i = told _ (all i) refl

  pub take_joined : (c : Choice) → In (line.Joined tid serial) (task_effect s stops n (Takes m) c).lines → Result (task_effect s stops n (Takes m) c).node.volatile.branches
  take_joined (Whole o) i = at_first (refused_before_reading s n (task_service (Takes m))) i
    where
      shape : Shape m (find (first m.tid) n.volatile.branches) (row (tm_of n) (Got m))
      shape = subst (Shape m (find (first m.tid) n.volatile.branches)) (sym acts_are) (join_shape m (find (first m.tid) n.volatile.branches))

      at_first : (q : Option Line) → In (line.Joined tid serial) (whole s n n (task_service (Takes m)) q).lines → Result (whole s n n (task_service (Takes m)) q).node.volatile.branches
      at_first (Some refusal) j = absurd j
      at_first None j = (of_rows (row (tm_of n) (Got m)) shape [] tt zero).1 j
  take_joined WithoutMemory i = absurd i
  take_joined Unpowered i = absurd (in_unjoined tid serial (line.Down n.name line.Failed ∷ []) (refl, tt) i)
  take_joined (Cut o j b cause) i = (of_rows (row (tm_of n) (Got m)) (subst (Shape m (find (first m.tid) n.volatile.branches)) (sym acts_are) (join_shape m (find (first m.tid) n.volatile.branches))) (line.Down n.name cause ∷ []) (refl, tt) j).0 i
