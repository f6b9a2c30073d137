-- Where in its lines a statement shows a settlement.
use Rattle.std.proofs.Common.{◌≡◌, ℕ, ◌+◌, ◌⊎◌, List, [], ◌∷◌, ◌++◌, take, zero, suc, inl, inr, Bool, true, false, Option, Some, None, if◌then◌else◌, refl, sym, ◌∙◌, ap, subst}
use Rattle.std.specs.Prelude.{length, nat_lt}
use Rattle.vms_model.specs.Limits.{message_limit}
use Rattle.run_said.specs.transcript_model.Lines as line
use Rattle.run_said.specs.transcript_model.Lines.{Line, Cause}
use Rattle.commit_protocol.specs.Messages as message
use Rattle.commit_protocol.specs.Messages.{Message}
use Rattle.commit_protocol.specs.Table as table
use Rattle.commit_protocol.specs.Table.{Branch, State, Prepared, Ending, Notes, Accepts, Prepares, Settles, Leaves, Acknowledges, Releases, Undoes, Sends, Prints, find, key_of}
use Rattle.commit_protocol.specs.Rows as rows
use Rattle.commit_protocol.specs.Rows.{got, row, Got}
use Rattle.commit_protocol.specs.World.{In}
use Rattle.run_said.specs.run_model.World.{Shared, Node, Settlement, Tables, acted, next_moment, shared_after, tm_of}
use Rattle.run_said.specs.run_model.Answers.{Row, Hears, Takes, outcome_told, refused_before_reading, shown_by, table_rows, task_service}
use Rattle.run_said.specs.run_model.Steps.{Choice, Whole, WithoutMemory, Unpowered, Cut, lines_of_rows, ready_node, task_effect, whole}
use Rattle.run_laws.specs.Promises.{shown_in}
use Rattle.run_laws.proofs.EachRow.{ArePlain, is_plain}
use Rattle.run_said.proofs.Passing.{acknowledged_passes, append_passes, printed_passes, released_passes}
use Rattle.run_laws.proofs.Settling.{ActSettles, AllSettle, tells_settle}
use Rattle.run_laws.proofs.ShownSettled.{here_in, none_shown}

-- a line of two lists stands in the first, and behind it the second, or in the second
pub split_append : (xs ys front : List Line) (this : Line) (behind : List Line) → xs ++ ys ≡ front ++ this ∷ behind →
    ((rest : List Line) × (xs ≡ front ++ this ∷ rest) × (behind ≡ rest ++ ys)) ⊎ ((more : List Line) × (front ≡ xs ++ more) × (ys ≡ more ++ this ∷ behind))
split_append [] ys front this behind e = inr (front, refl, e)
split_append (x ∷ xs) ys [] this behind e = let head : x ≡ this = cc in let tail : behind ≡ xs ++ ys = cc in inl (xs, ap (λ l. l ∷ xs) head, tail)
split_append (x ∷ xs) ys (y ∷ front) this behind e =
    let head : x ≡ y = cc in
    let tail : xs ++ ys ≡ front ++ this ∷ behind = cc in
    elim (split_append xs ys front this behind tail) [
      | inl r ↦ inl (r.0, (λ i. head i ∷ r.1 i), r.2)
      | inr r ↦ inr (r.0, (λ i. sym head i ∷ r.1 i), r.2)
    ]

-- The line of a settlement stands at the head alone.
abbrev pub OnlyHead : List Line → Type 0
OnlyHead ls = (front : List Line) (this : Line) (behind : List Line) (x : Settlement) → ls ≡ front ++ this ∷ behind → shown_in this ≡ Some x → front ≡ []

plain_split : (ls front : List Line) (this : Line) (behind : List Line) (x : Settlement) → ArePlain ls → ls ≡ front ++ this ∷ behind → shown_in this ≡ Some x → ⊥
plain_split ls front this behind x h e s = none_shown ls h this x (subst (In this) (sym e) (here_in front this behind)) s

head_plain : (l : Line) (ls : List Line) → ArePlain ls → OnlyHead (l ∷ ls)
head_plain l ls h [] this behind x e s = refl
head_plain l ls h (y ∷ front) this behind x e s = let tail : ls ≡ front ++ this ∷ behind = cc in absurd (plain_split ls front this behind x h tail s)

plain_head : (ls : List Line) → ArePlain ls → OnlyHead ls
plain_head ls h front this behind x e s = absurd (plain_split ls front this behind x h e s)

-- Acts that settle nothing show none.

act_plain : (a : table.Act) (moment : ℕ) (n : Node) (s : Shared) → ActSettles (λ k o reason. ⊥) a → ArePlain (shown_by a moment n s)
act_plain (Notes b) moment n s h = tt
act_plain (Accepts b c) moment n s h = (refl, tt)
act_plain (Prepares b) moment n s h = (refl, tt)
act_plain (Settles k o reason r) moment n s h = absurd h
act_plain (Leaves k) moment n s h = (refl, tt)
act_plain (Acknowledges k) moment n s h = acknowledged_passes is_plain (λ tid serial. refl) k n.volatile.records
act_plain (Releases serial rm) moment n s h = released_passes is_plain (λ tid serial. refl) serial rm n.volatile.records
act_plain (Undoes k) moment n s h = absurd h
act_plain (Sends m) moment n s h = go (nat_lt (length s.wire) message_limit)
  where
    go : (b : Bool) → ArePlain ((if b then line.Sent (length s.wire + 1) m else line.Unsent m) ∷ [])
    go true = (refl, tt)
    go false = (refl, tt)
act_plain (Prints l) moment n s h = printed_passes is_plain (λ event tid serial rm. refl) (λ tid serial. refl) (λ tid reason. refl) n l

rows_plain : (todo : List table.Act) (s : Shared) (n : Node) (k : ℕ) → AllSettle (λ k o reason. ⊥) todo → ArePlain (lines_of_rows (take k (table_rows todo s n)))
rows_plain todo s n zero h = tt
rows_plain [] s n (suc k) h = tt
rows_plain (a ∷ todo) s n (suc k) h =
    append_passes is_plain (shown_by a (next_moment n) n s) (lines_of_rows (take k (table_rows todo (shared_after (Tables a (next_moment n)) s) (acted (Tables a (next_moment n)) n)))) (act_plain a (next_moment n) n s h.0)
    (rows_plain todo (shared_after (Tables a (next_moment n)) s) (acted (Tables a (next_moment n)) n) k h.1)

all_rows_plain : (todo : List table.Act) (s : Shared) (n : Node) → AllSettle (λ k o reason. ⊥) todo → ArePlain (lines_of_rows (table_rows todo s n))
all_rows_plain [] s n h = tt
all_rows_plain (a ∷ todo) s n h =
    append_passes is_plain (shown_by a (next_moment n) n s) (lines_of_rows (table_rows todo (shared_after (Tables a (next_moment n)) s) (acted (Tables a (next_moment n)) n))) (act_plain a (next_moment n) n s h.0)
    (all_rows_plain todo (shared_after (Tables a (next_moment n)) s) (acted (Tables a (next_moment n)) n) h.1)

-- A branch that hears a Commit or an Abort is settled first of all.

-- acts of which only the first may settle
abbrev FirstSettles : List table.Act → Type 0
FirstSettles [] = Unit {0}
FirstSettles (a ∷ todo) = (AllSettle (λ k o reason. ⊥) (a ∷ todo) ⊎ ((k : table.Key) × (o : _) × (reason : _) × (r : _) × (a ≡ Settles k o reason r))) × AllSettle (λ k o reason. ⊥) todo

first_of_commit : (m : Message) (o : Option Branch) → FirstSettles (rows.commit_row m o)
first_of_commit m None = (inl (tt, tt), tt)
first_of_commit m (Some b) = go b.state
  where
    go : (s : State) → FirstSettles (rows.commit_state b s)
    go Prepared = (inr (b.key, _, _, _, refl), (tt, tells_settle (λ k o reason. ⊥) message.CommitEvent b.key (table.holding b.managers)))
    go _ = tt

first_of_abort : (o : Option Branch) → FirstSettles (rows.abort_row o)
first_of_abort None = tt
first_of_abort (Some b) = go b.state
  where
    go : (s : State) → FirstSettles (rows.abort_state b s)
    go Ending = tt
    go _ = (inr (b.key, _, _, _, refl), tells_settle (λ k o reason. ⊥) message.AbortEvent b.key (rows.interested b.managers))

heard_first : (n : Node) (m : Message) → (m.kind ≡ message.Commit) ⊎ (m.kind ≡ message.Abort) → FirstSettles (row (tm_of n) (Got m))
heard_first n m (inl e) = subst (λ d. FirstSettles (got (tm_of n) m d)) (sym e) (first_of_commit m (find (key_of m) n.volatile.branches))
heard_first n m (inr e) = subst (λ d. FirstSettles (got (tm_of n) m d)) (sym e) (first_of_abort (find (key_of m) n.volatile.branches))

-- the lines of such acts, cut and followed by plain ones
first_head : (todo : List table.Act) (s : Shared) (n : Node) (k : ℕ) (back : List Line) → FirstSettles todo → ArePlain back → OnlyHead (lines_of_rows (take k (table_rows todo s n)) ++ back)
first_head todo s n zero back h p = plain_head back p
first_head [] s n (suc k) back h p = plain_head back p
first_head (a ∷ todo) s n (suc k) back h p = go h.0
  where
    u : Shared
    u = shared_after (Tables a (next_moment n)) s

    m : Node
    m = acted (Tables a (next_moment n)) n

    rest : ArePlain (lines_of_rows (take k (table_rows todo u m)) ++ back)
    rest = append_passes is_plain (lines_of_rows (take k (table_rows todo u m))) back (rows_plain todo u m k h.1) p

    go : (AllSettle (λ k o reason. ⊥) (a ∷ todo) ⊎ ((k : table.Key) × (o : _) × (reason : _) × (r : _) × (a ≡ Settles k o reason r))) → OnlyHead (lines_of_rows (take (suc k) (table_rows (a ∷ todo) s n)) ++ back)
    go (inl none) = plain_head _ (append_passes is_plain (lines_of_rows (take (suc k) (table_rows (a ∷ todo) s n))) back (rows_plain (a ∷ todo) s n (suc k) none) p)
    go (inr settles) = subst (λ (x : table.Act). OnlyHead ((shown_by x (next_moment n) n s ++ lines_of_rows (take k (table_rows todo u m))) ++ back)) (sym settles.4) (head_plain _ _ rest)

-- What a branch that hears its outcome shows to be settled stands right behind the line that it is told so.
heard_rows : (s : Shared) (n : Node) (m : Message) (k : ℕ) (back : List Line) → (m.kind ≡ message.Commit) ⊎ (m.kind ≡ message.Abort) → ArePlain back → (front : List Line) (this : Line) (behind : List Line) (x : Settlement) →
    lines_of_rows (take k ((task_service (Hears m)).rows s n)) ++ back ≡ front ++ this ∷ behind → shown_in this ≡ Some x → front ≡ line.Asked m.tid m.serial (outcome_told m.kind) ∷ []
heard_rows s n m zero back kind p front this behind x e shown = absurd (plain_split back front this behind x p e shown)
heard_rows s n m (suc k) back kind p front this behind x e shown = go front e
  where
    rest : List Line
    rest = lines_of_rows (take k (table_rows (row (tm_of n) (Got m)) s n)) ++ back

    go : (front : List Line) → line.Asked m.tid m.serial (outcome_told m.kind) ∷ rest ≡ front ++ this ∷ behind → front ≡ line.Asked m.tid m.serial (outcome_told m.kind) ∷ []
    go [] f = let same : line.Asked m.tid m.serial (outcome_told m.kind) ≡ this = cc in let no : ◌≡◌ {A = Option Settlement} None (Some x) = ap shown_in same ∙ shown in let none : ⊥ = cc in absurd none
    go (y ∷ more) f =
        let head : line.Asked m.tid m.serial (outcome_told m.kind) ≡ y = cc in
        let tail : rest ≡ more ++ this ∷ behind = cc in
        let empty = first_head (row (tm_of n) (Got m)) s n k back (heard_first n m kind) p more this behind x tail shown in
        λ i. sym head i ∷ empty i

take_whole : (rs : List Row) → take (length rs) rs ≡ rs
take_whole [] = refl
take_whole (r ∷ rs) = ap (λ xs. r ∷ xs) (take_whole rs)

pub heard_front : (s : Shared) (stops : ℕ) (n : Node) (m : Message) (c : Choice) → (m.kind ≡ message.Commit) ⊎ (m.kind ≡ message.Abort) → (front : List Line) (this : Line) (behind : List Line) (x : Settlement) → (task_effect s stops n (Hears m) c).lines ≡ front ++ this ∷ behind → shown_in this ≡ Some x →
    front ≡ line.Asked m.tid m.serial (outcome_told m.kind) ∷ []
heard_front s stops n m (Whole outturn) kind front this behind x e shown = go (refused_before_reading s n (task_service (Hears m))) e
  where
    ready : Node
    ready = ready_node outturn stops (task_service (Hears m)) n

    rs : List Row
    rs = (task_service (Hears m)).rows s ready

    go : (o : Option Line) → (whole s n ready (task_service (Hears m)) o).lines ≡ front ++ this ∷ behind → front ≡ line.Asked m.tid m.serial (outcome_told m.kind) ∷ []
    go (Some refusal) f = absurd (plain_split [] front this behind x tt f shown)
    go None f = heard_rows s ready m (length rs) [] kind tt front this behind x (ap (λ qs. lines_of_rows qs ++ []) (take_whole rs) ∙ f) shown
heard_front s stops n m WithoutMemory kind front this behind x e shown = absurd (plain_split [] front this behind x tt e shown)
heard_front s stops n m Unpowered kind front this behind x e shown = absurd (plain_split (line.Down n.name line.Failed ∷ []) front this behind x (refl, tt) e shown)
heard_front s stops n m (Cut outturn done started cause) kind front this behind x e shown = let ready = ready_node outturn stops (task_service (Hears m)) n in heard_rows s ready m done (line.Down ready.name cause ∷ []) kind (refl, tt) front this behind x e shown

-- What one that takes such a message shows to be settled stands first of all.
pub taken_front : (s : Shared) (stops : ℕ) (n : Node) (m : Message) (c : Choice) → (m.kind ≡ message.Commit) ⊎ (m.kind ≡ message.Abort) → (front : List Line) (this : Line) (behind : List Line) (x : Settlement) → (task_effect s stops n (Takes m) c).lines ≡ front ++ this ∷ behind → shown_in this ≡ Some x →
    front ≡ []
taken_front s stops n m (Whole outturn) kind front this behind x e shown = go (refused_before_reading s n (task_service (Takes m))) e
  where
    ready : Node
    ready = ready_node outturn stops (task_service (Takes m)) n

    rs : List Row
    rs = (task_service (Takes m)).rows s ready

    go : (o : Option Line) → (whole s n ready (task_service (Takes m)) o).lines ≡ front ++ this ∷ behind → front ≡ []
    go (Some refusal) f = absurd (plain_split [] front this behind x tt f shown)
    go None f = first_head (row (tm_of ready) (Got m)) s ready (length rs) [] (heard_first ready m kind) tt front this behind x (ap (λ qs. lines_of_rows qs ++ []) (take_whole rs) ∙ f) shown
taken_front s stops n m WithoutMemory kind front this behind x e shown = absurd (plain_split [] front this behind x tt e shown)
taken_front s stops n m Unpowered kind front this behind x e shown = absurd (plain_split (line.Down n.name line.Failed ∷ []) front this behind x (refl, tt) e shown)
taken_front s stops n m (Cut outturn done started cause) kind front this behind x e shown =
    let ready = ready_node outturn stops (task_service (Takes m)) n in
    first_head (row (tm_of ready) (Got m)) s ready done (line.Down ready.name cause ∷ []) (heard_first ready m kind) (refl, tt) front this behind x e shown
