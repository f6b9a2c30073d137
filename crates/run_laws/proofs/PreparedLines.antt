-- In a settling, only a node that comes up shows prepared branches, and shows with them that it is up.
use Rattle.std.proofs.Common.{◌≡◌, ℕ, zero, suc, ◌+◌, List, [], ◌∷◌, ◌++◌, map, take, inl, inr, Bool, true, false, Option, Some, None, if◌then◌else◌, refl, sym, ◌∙◌, ap, subst}
use Rattle.std.specs.Prelude.{nat_lt, length}
use Rattle.std.proofs.lemmas.Bool.{both_ways}
use Rattle.vms_model.specs.Ids.{Id}
use Rattle.vms_model.specs.Transactions.{Outcome, Commit, Abort, Reason}
use Rattle.vms_model.specs.Limits.{message_limit}
use Rattle.run_said.specs.transcript_model.Lines as line
use Rattle.run_said.specs.transcript_model.Lines.{Line, Cause}
use Rattle.commit_protocol.specs.Messages as message
use Rattle.commit_protocol.specs.Messages.{LogRecord, Message}
use Rattle.commit_protocol.specs.Table as table
use Rattle.commit_protocol.specs.Table.{Branch, Key as BranchKey, Notes, Accepts, Prepares, Settles, Leaves, Acknowledges, Releases, Undoes, Sends, Prints}
use Rattle.commit_protocol.specs.Rows as rows
use Rattle.commit_protocol.specs.Rows.{Event, row}
use Rattle.commit_protocol.specs.World.{In, undo_all}
use Rattle.commit_protocol.proofs.Lists.{in_right}
use Rattle.run_said.proofs.log_laws.Reading.{prepared_is}
use Rattle.run_said.specs.log_laws.Slots.{prepared_of, records_in}
use Rattle.run_said.specs.run_model.World as world
use Rattle.run_said.specs.run_model.World.{World, DiskCounts, Shared, Node, Settlement, Outturn, MayTurnOut, Tables, acted, next_moment, powered, prepared_left, prepared_serials, shared_after, tm_of}
use Rattle.run_said.specs.run_model.Answers as answers
use Rattle.run_said.specs.run_model.Answers.{Row, Task, Serves, Ticks, Takes, Hears, LosesLink, RunsDown, Restarts, boot_rows, last_line, last_lines, left_active, powers, refused_before_reading, shown_by, shown_line, table_rows, task_service, unit_key}
use Rattle.run_said.specs.run_model.Steps.{Choice, Cut, TaskAllowed, TaskEffect, Unpowered, Whole, WithoutMemory, begun, lines_of_rows, ready_node, rows_if, rows_to_cut, task_effect, whole}
use Rattle.run_said.specs.run_model.Statements.{Part, Does, Asks, PartEffect, Question, Heard, Unanswered, Doubtful, Allowed, RoseAt, part_effect, question, stops_at}
use Rattle.run_said.specs.run_model.StepLaws.{TaskAt, asked_by, task_of_part}
use Rattle.run_said.proofs.run_model.NodeLists.{some_is}
use Rattle.run_said.proofs.run_model.TaskLemmas as tasks
use Rattle.run_said.proofs.run_model.TaskLemmas.{First, Failing, Lacking, Late, Success, outcome}
use Rattle.run_said.proofs.run_model.PartTasks.{View, Doing, Fixed, view}
use Rattle.run_said.proofs.run_model.Refusing.{not_ready}
use Rattle.recovery_laws.specs.world_laws.Nodes.{IsKeptDisk, IsKeptNode}
use Rattle.recovery_laws.proofs.world_laws.BootLemmas.{branch_in}
use Rattle.recovery_laws.proofs.world_laws.IdLemmas.{each_at}
use Rattle.recovery_laws.proofs.world_laws.NodeLemmas.{powered_ready}
use Rattle.run_laws.proofs.Labelling.{served_up}
use Rattle.run_laws.proofs.OneBranch.{in_order}
use Rattle.run_said.proofs.Passing.{AllPass, acknowledged_passes, append_passes, printed_passes, released_passes}
use Rattle.run_laws.proofs.Preparing.{AllTell, CastsBy, PreparesBy, SendsBy, Tells, row_tells}
use Rattle.run_laws.proofs.ShownSettled.{in_append}
use Rattle.run_laws.proofs.SoundWorlds.{IsSound, sound_node}
use Rattle.run_laws.proofs.ToldParts.{IsThinning, IsThinPart}

abbrev pub is_other : Line → Bool
is_other (line.Prepared tid serial) = false
is_other (line.NormalCount count) = false
is_other _ = true

pub passes_in : (test : Line → Bool) (ls : List Line) (l : Line) → AllPass test ls → In l ls → test l ≡ true
passes_in test [] l h i = absurd i
passes_in test (x ∷ ls) l h i = elim i [ inl same ↦ ap test same ∙ h.0 | inr j ↦ passes_in test ls l h.1 j ]

-- Rows.

act_other : (Q : Branch → Type 0) (S : Message → Type 0) (a : table.Act) → Tells S Q a → ((b : Branch) → Q b → ⊥) → (moment : ℕ) (n : Node) (s : Shared) → AllPass is_other (shown_by a moment n s)
act_other Q S (Notes b) q f moment n s = tt
act_other Q S (Accepts b c) q f moment n s = (refl, tt)
act_other Q S (Prepares b) q f moment n s = absurd (f b q)
act_other Q S (Settles k Commit reason r) q f moment n s = (refl, tt)
act_other Q S (Settles k Abort reason r) q f moment n s = (refl, tt)
act_other Q S (Leaves k) q f moment n s = (refl, tt)
act_other Q S (Acknowledges k) q f moment n s = acknowledged_passes is_other (λ tid serial. refl) k n.volatile.records
act_other Q S (Releases serial rm) q f moment n s = released_passes is_other (λ tid serial. refl) serial rm n.volatile.records
act_other Q S (Undoes k) q f moment n s = (refl, tt)
act_other Q S (Sends m) q f moment n s = go (nat_lt (length s.wire) message_limit)
  where
    go : (b : Bool) → AllPass is_other ((if b then line.Sent (length s.wire + 1) m else line.Unsent m) ∷ [])
    go true = (refl, tt)
    go false = (refl, tt)
act_other Q S (Prints l) q f moment n s = printed_passes is_other (λ event tid serial rm. refl) (λ tid serial. refl) (λ tid reason. refl) n l

table_other : (Q : Branch → Type 0) (S : Message → Type 0) (todo : List table.Act) → AllTell S Q todo → ((b : Branch) → Q b → ⊥) → (s : Shared) (n : Node) (j : ℕ) → AllPass is_other (lines_of_rows (take j (table_rows todo s n))) × AllPass is_other (lines_of_rows (table_rows todo s n))
table_other Q S [] h f s n zero = (tt, tt)
table_other Q S [] h f s n (suc j) = (tt, tt)
table_other Q S (a ∷ todo) h f s n zero = (tt, append_passes is_other _ _ (act_other Q S a h.0 f (next_moment n) n s) (table_other Q S todo h.1 f (shared_after (Tables a (next_moment n)) s) (acted (Tables a (next_moment n)) n) zero).1)
table_other Q S (a ∷ todo) h f s n (suc j) =
    let more = table_other Q S todo h.1 f (shared_after (Tables a (next_moment n)) s) (acted (Tables a (next_moment n)) n) j in
    (append_passes is_other _ _ (act_other Q S a h.0 f (next_moment n) n s) more.0, append_passes is_other _ _ (act_other Q S a h.0 f (next_moment n) n s) more.1)

pub event_here : (m : Node) (e : Event) → ((b : Branch) → In b m.volatile.branches → CastsBy e b → ⊥) → (s : Shared) (j : ℕ) → AllPass is_other (lines_of_rows (take j (table_rows (row (tm_of m) e) s m))) × AllPass is_other (lines_of_rows (table_rows (row (tm_of m) e) s m))
event_here m e f s j = table_other (PreparesBy m.volatile.branches e) (SendsBy m.volatile.branches e) (row (tm_of m) e) (row_tells (tm_of m) e) (λ b q. f q.0 q.1 q.4) s m j

pub event_other : (m : Node) (e : Event) → ((b : Branch) → CastsBy e b → ⊥) → (s : Shared) (j : ℕ) → AllPass is_other (lines_of_rows (take j (table_rows (row (tm_of m) e) s m))) × AllPass is_other (lines_of_rows (table_rows (row (tm_of m) e) s m))
event_other m e f s j = event_here m e (λ b i q. f b q) s j

undoes_tell : (ks : List BranchKey) → AllTell (λ m. Unit {0}) (λ b. ⊥) (undo_all ks)
undoes_tell [] = tt
undoes_tell (k ∷ ks) = (tt, undoes_tell ks)

lasts_other : (n : Node) → AllPass is_other (last_lines n)
lasts_other n = go n.durable.last
  where
    at : (x : Settlement) (o : Outcome) (r : Option Reason) → AllPass is_other (elim o as (λ y. List Line) [ Commit ↦ line.LastCommitted x.tid x.serial x.moment ∷ [] | Abort ↦ elim r as (λ y. List Line) [ Some reason ↦ line.LastAborted x.tid x.serial reason x.moment ∷ [] | None ↦ [] ] ])
    at x Commit r = (refl, tt)
    at x Abort (Some reason) = (refl, tt)
    at x Abort None = tt

    go : (o : Option Settlement) → AllPass is_other (elim o as (λ y. List Line) [ Some x ↦ last_line x | None ↦ [] ])
    go (Some x) = at x x.outcome x.reason
    go None = tt

pub boot_other : (s : Shared) (n : Node) (j : ℕ) → AllPass is_other (lines_of_rows (take j (boot_rows s n))) × AllPass is_other (lines_of_rows (boot_rows s n))
boot_other s n zero = (tt, append_passes is_other (last_lines n) _ (lasts_other n) (table_other (λ b. ⊥) (λ m. Unit {0}) (undo_all (map unit_key (left_active n))) (undoes_tell (map unit_key (left_active n))) (λ b q. q) s (acted world.Boots n) zero).1)
boot_other s n (suc j) =
    let t = table_other (λ b. ⊥) (λ m. Unit {0}) (undo_all (map unit_key (left_active n))) (undoes_tell (map unit_key (left_active n))) (λ b q. q) s (acted world.Boots n) j in
    (append_passes is_other (last_lines n) _ (lasts_other n) t.0, append_passes is_other (last_lines n) _ (lasts_other n) t.1)

pub if_other : (rs : List Row) (j : ℕ) (o : Option Line) → AllPass is_other (lines_of_rows (take j rs)) → AllPass is_other (lines_of_rows (take j (rows_if o rs)))
if_other rs zero (Some refusal) h = tt
if_other rs (suc j) (Some refusal) h = tt
if_other rs j None h = h

-- Tasks that show none.
pub told_other : (s : Shared) (stops : ℕ) (n : Node) (t : Task) → ((m : Node) (j : ℕ) (o : Option Line) → AllPass is_other (lines_of_rows (take j (rows_if o ((task_service t).rows s m))))) → ((m : Node) → AllPass is_other (lines_of_rows ((task_service t).rows s m))) → ((m : Node) → (task_service t).closing_lines m ≡ []) → (c : Choice) (l : Line) → is_other l ≡ false → In l (task_effect s stops n t c).lines → ⊥
told_other s stops n t cut all closes c l off i = by c i
  where
    clash : (ls : List Line) → AllPass is_other ls → In l ls → ⊥
    clash ls h j = both_ways (is_other l) off (passes_in is_other ls l h j)

    by : (c : Choice) → In l (task_effect s stops n t c).lines → ⊥
    by (Whole o) j = first (refused_before_reading s n (task_service t)) j
      where
        ready : Node
        ready = ready_node o stops (task_service t) n

        late : (q : Option Line) → In l (begun s ready (task_service t) q).lines → ⊥
        late (Some refusal) k = k
        late None k = elim (in_append l (lines_of_rows ((task_service t).rows s ready)) ((task_service t).closing_lines ready) k) [ inl x ↦ clash _ (all ready) x | inr x ↦ subst (In l) (closes ready) x ]

        first : (q : Option Line) → In l (whole s n ready (task_service t) q).lines → ⊥
        first (Some refusal) k = k
        first None k = late ((task_service t).refused_after_reading s ready) k
    by WithoutMemory j = j
    by Unpowered j = clash (line.Down n.name line.Failed ∷ []) (refl, tt) j
    by (Cut o k b cause) j =
        let ready = ready_node o stops (task_service t) n in
        clash _ (append_passes is_other (lines_of_rows (take k (rows_to_cut s ready (task_service t)))) (line.Down ready.name cause ∷ []) (cut ready k ((task_service t).refused_after_reading s ready)) (refl, tt)) j

-- a task that does not power its node, by its rows at this node alone
pub told_here : (s : Shared) (stops : ℕ) (n : Node) (t : Task) → powers (task_service t) ≡ false → ((j : ℕ) (o : Option Line) → AllPass is_other (lines_of_rows (take j (rows_if o ((task_service t).rows s n))))) → AllPass is_other (lines_of_rows ((task_service t).rows s n)) → (task_service t).closing_lines n ≡ [] →
    (c : Choice) (l : Line) → is_other l ≡ false → In l (task_effect s stops n t c).lines → ⊥
told_here s stops n t off cut all closes c l is_off i = by c i
  where
    clash : (ls : List Line) → AllPass is_other ls → In l ls → ⊥
    clash ls h j = both_ways (is_other l) is_off (passes_in is_other ls l h j)

    by : (c : Choice) → In l (task_effect s stops n t c).lines → ⊥
    by (Whole o) j = first (refused_before_reading s n (task_service t)) (subst (λ m. In l (whole s n m (task_service t) (refused_before_reading s n (task_service t))).lines) (not_ready o stops (task_service t) n off) j)
      where
        late : (q : Option Line) → In l (begun s n (task_service t) q).lines → ⊥
        late (Some refusal) k = k
        late None k = elim (in_append l (lines_of_rows ((task_service t).rows s n)) ((task_service t).closing_lines n) k) [ inl x ↦ clash _ all x | inr x ↦ subst (In l) closes x ]

        first : (q : Option Line) → In l (whole s n n (task_service t) q).lines → ⊥
        first (Some refusal) k = k
        first None k = late ((task_service t).refused_after_reading s n) k
    by WithoutMemory j = j
    by Unpowered j = clash (line.Down n.name line.Failed ∷ []) (refl, tt) j
    by (Cut o k b cause) j =
        let shown = subst (λ (m : Node). In l (lines_of_rows (take k (rows_to_cut s m (task_service t))) ++ line.Down m.name cause ∷ [])) (not_ready o stops (task_service t) n off) j in
        clash _ (append_passes is_other (lines_of_rows (take k (rows_to_cut s n (task_service t)))) (line.Down n.name cause ∷ []) (cut k ((task_service t).refused_after_reading s n)) (refl, tt)) shown

pub down_other : (s : Shared) (stops : ℕ) (n : Node) (c : Choice) (l : Line) → is_other l ≡ false → In l (task_effect s stops n RunsDown c).lines → ⊥
down_other s stops n c l off = told_other s stops n RunsDown (λ m j o. if_other _ j o (event_other m rows.RunDown (λ b q. q) s j).0) (λ m. (event_other m rows.RunDown (λ b q. q) s zero).1) (λ m. refl) c l off

pub tick_other : (s : Shared) (stops : ℕ) (n : Node) (c : Choice) (l : Line) → is_other l ≡ false → In l (task_effect s stops n Ticks c).lines → ⊥
tick_other s stops n c l off = told_other s stops n Ticks (λ m j o. if_other _ j o (event_other m (rows.Clock m.clock) (λ b q. q) s j).0) (λ m. (event_other m (rows.Clock m.clock) (λ b q. q) s zero).1) (λ m. refl) c l off

pub link_other : (s : Shared) (stops : ℕ) (n : Node) (other : List ℕ) (c : Choice) (l : Line) → is_other l ≡ false → In l (task_effect s stops n (LosesLink other) c).lines → ⊥
link_other s stops n other c l off = told_other s stops n (LosesLink other) (λ m j o. if_other _ j o (event_other m (rows.LinkDown other) (λ b q. q) s j).0) (λ m. (event_other m (rows.LinkDown other) (λ b q. q) s zero).1) (λ m. refl) c l off

pub heard_other : (s : Shared) (stops : ℕ) (n : Node) (x : Message) → IsThinning (Hears x) → (c : Choice) (l : Line) → is_other l ≡ false → In l (task_effect s stops n (Hears x) c).lines → ⊥
heard_other s stops n x thin c l off = told_other s stops n (Hears x) (λ m j o. if_other _ j o (taken m j)) (λ m. (refl, (event_other m (rows.Got x) never s zero).1)) (λ m. refl) c l off
  where
    never : (b : Branch) → CastsBy (rows.Got x) b → ⊥
    never b q = elim thin [
      | inl commit ↦ (let clash : message.Commit ≡ message.Prepare = sym commit ∙ q.0 in let no : ⊥ = cc in no)
      | inr abort ↦ (let clash : message.Abort ≡ message.Prepare = sym abort ∙ q.0 in let no : ⊥ = cc in no)
    ]

    taken : (m : Node) (j : ℕ) → AllPass is_other (lines_of_rows (take j (shown_line (line.Asked x.tid x.serial (answers.outcome_told x.kind)) ∷ table_rows (row (tm_of m) (rows.Got x)) s m)))
    taken m zero = tt
    taken m (suc j) = (refl, (event_other m (rows.Got x) never s j).0)

-- A node that comes up.

prepared_own : (r : Node) → IsKeptDisk r → (tid serial : Id) → In (line.Prepared tid serial) (answers.prepared_lines r) → serial.node ≡ r.name
prepared_own r kept tid serial i = go (world.booted r.durable).branches (λ b j. own b j) i
  where
    own : (b : Branch) → In b (world.booted r.durable).branches → b.key.serial.node ≡ r.name
    own b j =
        let q = branch_in (prepared_left r.durable) b j in
        let there = in_order (prepared_serials r.durable.units.entries) (prepared_of (records_in r.durable.log)) q.0 q.1 in
        let reached = each_at (λ (y : LogRecord). world.IsReached r y.serial) q.0 (records_in r.durable.log) kept.log.reached (prepared_is (records_in r.durable.log) q.0 there).0 in
        ap (λ (c : Branch). c.key.serial.node) q.2 ∙ reached.0

    go : (bs : List Branch) → ((b : Branch) → In b bs → b.key.serial.node ≡ r.name) → In (line.Prepared tid serial) (map answers.prepared_line bs) → serial.node ≡ r.name
    go [] h j = absurd j
    go (b ∷ bs) h j = elim j [
      | inl same ↦ (let is : line.Prepared tid serial ≡ line.Prepared b.key.tid b.key.serial = same in let one : serial ≡ b.key.serial = cc in ap (λ (y : Id). y.node) one ∙ h b (inl refl))
      | inr k ↦ go bs (λ c m. h c (inr m)) k
    ]

restart_prepared : (s : Shared) (stops : ℕ) (n : Node) (c : Choice) (rises : Cause → Type 0) (tid serial : Id) → IsKeptNode s n → TaskAllowed s stops n Restarts rises c → In (line.Prepared tid serial) (task_effect s stops n Restarts c).lines → (count : ℕ) × In (line.Booted serial.node count) (task_effect s stops n Restarts c).lines
restart_prepared s stops n (Whole o) rises tid serial known may i = first (refused_before_reading s n (task_service Restarts)) i
  where
    r : Node
    r = powered o stops n

    late : (q : Option Line) → In (line.Prepared tid serial) (begun s r (task_service Restarts) q).lines → (count : ℕ) × In (line.Booted serial.node count) (begun s r (task_service Restarts) q).lines
    late (Some refusal) k = absurd k
    late None k = elim (in_append (line.Prepared tid serial) (lines_of_rows (boot_rows s r)) (answers.prepared_lines r ++ line.Booted r.name (r.durable.boot + 1) ∷ []) k) [
      | inl front ↦ (let clash : false ≡ true = passes_in is_other _ (line.Prepared tid serial) (boot_other s r zero).1 front in let no : ⊥ = cc in absurd no)
      | inr back ↦ elim (in_append (line.Prepared tid serial) (answers.prepared_lines r) (line.Booted r.name (r.durable.boot + 1) ∷ []) back) [
        | inl j ↦ (
          r.durable.boot + 1,
          in_right _ (lines_of_rows (boot_rows s r)) _ (in_right _ (answers.prepared_lines r) (line.Booted r.name (r.durable.boot + 1) ∷ []) (inl (ap (λ name. line.Booted name (r.durable.boot + 1)) (prepared_own r (powered_ready o stops s n may known).disk tid serial j)))),
        )
        | inr last ↦ elim last [ inl same ↦ (let no : ⊥ = cc in absurd no) | inr none ↦ absurd none ]
      ]
    ]

    first : (q : Option Line) → In (line.Prepared tid serial) (whole s n r (task_service Restarts) q).lines → (count : ℕ) × In (line.Booted serial.node count) (whole s n r (task_service Restarts) q).lines
    first (Some refusal) k = absurd k
    first None k = late ((task_service Restarts).refused_after_reading s r) k
restart_prepared s stops n WithoutMemory rises tid serial known may i = absurd i
restart_prepared s stops n Unpowered rises tid serial known may i = elim i [ inl same ↦ (let no : ⊥ = cc in absurd no) | inr none ↦ absurd none ]
restart_prepared s stops n (Cut o j b cause) rises tid serial known may i = elim (in_append (line.Prepared tid serial) (lines_of_rows (take j (rows_to_cut s (powered o stops n) (task_service Restarts)))) (line.Down (powered o stops n).name cause ∷ []) i) [
  | inl front ↦ (let clash : false ≡ true = passes_in is_other _ (line.Prepared tid serial) (if_other _ j ((task_service Restarts).refused_after_reading s (powered o stops n)) (boot_other s (powered o stops n) j).0) front in let no : ⊥ = cc in absurd no)
  | inr last ↦ elim last [ inl same ↦ (let no : ⊥ = cc in absurd no) | inr none ↦ absurd none ]
]

-- It shows no count.
pub restart_uncounted : (s : Shared) (stops : ℕ) (n : Node) (c : Choice) (number : ℕ) → In (line.NormalCount number) (task_effect s stops n Restarts c).lines → ⊥
restart_uncounted s stops n (Whole o) number i = first (refused_before_reading s n (task_service Restarts)) i
  where
    r : Node
    r = powered o stops n

    of_branches : (bs : List Branch) → In (line.NormalCount number) (map answers.prepared_line bs) → ⊥
    of_branches [] j = j
    of_branches (b ∷ bs) j = elim j [ inl same ↦ (let no : ⊥ = cc in no) | inr k ↦ of_branches bs k ]

    late : (q : Option Line) → In (line.NormalCount number) (begun s r (task_service Restarts) q).lines → ⊥
    late (Some refusal) k = k
    late None k = elim (in_append (line.NormalCount number) (lines_of_rows (boot_rows s r)) (answers.prepared_lines r ++ line.Booted r.name (r.durable.boot + 1) ∷ []) k) [
      | inl front ↦ (let clash : false ≡ true = passes_in is_other _ (line.NormalCount number) (boot_other s r zero).1 front in let no : ⊥ = cc in no)
      | inr back ↦ elim (in_append (line.NormalCount number) (answers.prepared_lines r) (line.Booted r.name (r.durable.boot + 1) ∷ []) back) [
        | inl j ↦ of_branches (world.booted r.durable).branches j
        | inr last ↦ elim last [ inl same ↦ (let no : ⊥ = cc in no) | inr none ↦ none ]
      ]
    ]

    first : (q : Option Line) → In (line.NormalCount number) (whole s n r (task_service Restarts) q).lines → ⊥
    first (Some refusal) k = k
    first None k = late ((task_service Restarts).refused_after_reading s r) k
restart_uncounted s stops n WithoutMemory number i = i
restart_uncounted s stops n Unpowered number i = elim i [ inl same ↦ (let no : ⊥ = cc in no) | inr none ↦ none ]
restart_uncounted s stops n (Cut o j b cause) number i = elim (in_append (line.NormalCount number) (lines_of_rows (take j (rows_to_cut s (powered o stops n) (task_service Restarts)))) (line.Down (powered o stops n).name cause ∷ []) i) [
  | inl front ↦ (let clash : false ≡ true = passes_in is_other _ (line.NormalCount number) (if_other _ j ((task_service Restarts).refused_after_reading s (powered o stops n)) (boot_other s (powered o stops n) j).0) front in let no : ⊥ = cc in no)
  | inr last ↦ elim last [ inl same ↦ (let no : ⊥ = cc in no) | inr none ↦ none ]
]

-- the task of such a part
pub thin_done : (u : World) (p : Part) (other : List ℕ) (t : Task) → IsThinPart p → task_of_part u p ≡ Some (record { node = other; task = t }) → IsThinning t
thin_done u (Does name s) other t h e = go s t (ap (λ (a : TaskAt). a.task) (some_is _ _ e)) h
  where
    go : (s t : Task) → s ≡ t → Rattle.run_laws.proofs.ToldParts.is_thinning s ≡ true → IsThinning t
    go s Ticks same h = refl
    go s (LosesLink o) same h = refl
    go s RunsDown same h = refl
    go s Restarts same h = refl
    go s (Serves r) same h = ap Rattle.run_laws.proofs.ToldParts.is_thinning (sym same) ∙ h
    go s (Takes m) same h = ap Rattle.run_laws.proofs.ToldParts.is_thinning (sym same) ∙ h
    go s (Hears m) same h = let clash : false ≡ true = ap Rattle.run_laws.proofs.ToldParts.is_thinning (sym same) ∙ h in let no : ⊥ = cc in absurd no
thin_done u (Asks name y) other t h e = hears (question u name y) refl e
  where
    hears : (q : Question) → question u name y ≡ q → asked_by q ≡ Some (record { node = other; task = t }) → IsThinning t
    hears (Heard m) k f = subst IsThinning (ap (λ (a : TaskAt). a.task) (some_is _ _ f)) (Rattle.run_laws.proofs.Reasons.heard_kind u name y m k)
    hears Unanswered k f = let no : ⊥ = cc in absurd no
    hears (Doubtful d) k f = let no : ⊥ = cc in absurd no

-- it shows no count, and is answered with none
pub thin_uncounted : (s : Shared) (stops : ℕ) (n : Node) (t : Task) (c : Choice) (number : ℕ) → IsThinning t → In (line.NormalCount number) (task_effect s stops n t c).lines → ⊥
thin_uncounted s stops n Ticks c number h i = tick_other s stops n c (line.NormalCount number) refl i
thin_uncounted s stops n (LosesLink o) c number h i = link_other s stops n o c (line.NormalCount number) refl i
thin_uncounted s stops n RunsDown c number h i = down_other s stops n c (line.NormalCount number) refl i
thin_uncounted s stops n Restarts c number h i = restart_uncounted s stops n c number i
thin_uncounted s stops n (Hears m) c number h i = heard_other s stops n m h c (line.NormalCount number) refl i
thin_uncounted s stops n (Serves r) c number h i = let no : ⊥ = cc in no
thin_uncounted s stops n (Takes m) c number h i = let no : ⊥ = cc in no

pub thin_answer : (s : Shared) (n : Node) (t : Task) → IsThinning t → (task_service t).answer s n ≡ line.Normal
thin_answer s n Ticks h = refl
thin_answer s n (LosesLink o) h = refl
thin_answer s n RunsDown h = refl
thin_answer s n Restarts h = refl
thin_answer s n (Hears m) h = refl
thin_answer s n (Serves r) h = let no : ⊥ = cc in absurd no
thin_answer s n (Takes m) h = let no : ⊥ = cc in absurd no

-- at a node that is down only a restart shows anything
pub thin_silent : (s : Shared) (stops : ℕ) (n : Node) (t : Task) (c : Choice) (rises : Cause → Type 0) (l : Line) → IsThinning t → (t ≡ Restarts → ⊥) → n.up ≡ false → TaskAllowed s stops n t rises c → In l (task_effect s stops n t c).lines → ⊥
thin_silent s stops n t c rises l h other down may i = by t h other (outcome s stops n t rises c may)
  where
    off : (t : Task) → IsThinning t → (t ≡ Restarts → ⊥) → refused_before_reading s n (task_service t) ≡ None → ⊥
    off Ticks h other first = both_ways n.up down (served_up n _ first)
    off (LosesLink o) h other first = both_ways n.up down (served_up n _ first)
    off RunsDown h other first = both_ways n.up down (served_up n _ first)
    off Restarts h other first = other refl
    off (Hears m) h other first = both_ways n.up down (served_up n _ first)
    off (Serves r) h other first = let no : ⊥ = cc in no
    off (Takes m) h other first = let no : ⊥ = cc in no

    by : (u : Task) → IsThinning u → (u ≡ Restarts → ⊥) → tasks.Outcome s stops n t rises (task_effect s stops n t c) → ⊥
    by u g q (First refusal first is) = subst (λ (e : TaskEffect). In l e.lines) is i
    by u g q (Late o refusal may2 first late is) = off t h other first
    by u g q (Success o may2 first late is) = off t h other first
    by u g q (Lacking first takes is) = off t h other first
    by u g q (Failing cause shown goes_on first rose lines d is ends) = off t h other first

-- A part that shows a prepared branch shows that the branch's node is up.
pub part_prepared : (u : World) (p : Part) (c : Choice) (disks : List DiskCounts) (tid serial : Id) → IsSound u → IsThinPart p → Allowed u p disks c → In (line.Prepared tid serial) (part_effect u p c).lines → (count : ℕ) × In (line.Booted serial.node count) (part_effect u p c).lines
part_prepared u p c disks tid serial sound thin allowed i = go (view u p)
  where
    go : View u p → (count : ℕ) × In (line.Booted serial.node count) (part_effect u p c).lines
    go (Fixed answer ends kind is) = absurd (subst (λ (e : PartEffect). In (line.Prepared tid serial) e.lines) (is c) i)
    go (Doing other t n named found does may) = by p thin named
      where
        j : In (line.Prepared tid serial) (task_effect u.shared (stops_at other u) n t c).lines
        j = subst (λ (e : PartEffect). In (line.Prepared tid serial) e.lines) (does c) i

        of : (s : Task) → s ≡ t → In (line.Prepared tid serial) (task_effect u.shared (stops_at other u) n s c).lines
        of s is = subst (λ y. In (line.Prepared tid serial) (task_effect u.shared (stops_at other u) n y c).lines) (sym is) (subst (λ (e : PartEffect). In (line.Prepared tid serial) e.lines) (does c) i)

        of_thin : (s : Task) → IsThinPart (Does other s) → s ≡ t → (count : ℕ) × In (line.Booted serial.node count) (part_effect u p c).lines
        of_thin Ticks h is = absurd (tick_other u.shared (stops_at other u) n c (line.Prepared tid serial) refl (of Ticks is))
        of_thin (LosesLink o) h is = absurd (link_other u.shared (stops_at other u) n o c (line.Prepared tid serial) refl (of (LosesLink o) is))
        of_thin RunsDown h is = absurd (down_other u.shared (stops_at other u) n c (line.Prepared tid serial) refl (of RunsDown is))
        of_thin Restarts h is =
            let r = restart_prepared u.shared (stops_at other u) n c (λ cause. RoseAt u other cause disks) tid serial (sound_node u sound other n found).kept (subst (λ y. TaskAllowed u.shared (stops_at other u) n y (λ cause. RoseAt u other cause disks) c) (sym is) (may disks c allowed)) (of Restarts is) in
            (r.0, subst (λ (e : PartEffect). In (line.Booted serial.node r.0) e.lines) (sym (does c)) (subst (λ y. In (line.Booted serial.node r.0) (task_effect u.shared (stops_at other u) n y c).lines) is r.1))
        of_thin (Serves r) h is = let no : ⊥ = cc in absurd no
        of_thin (Takes m) h is = let no : ⊥ = cc in absurd no
        of_thin (Hears m) h is = let no : ⊥ = cc in absurd no

        by : (q : Part) → IsThinPart q → task_of_part u q ≡ Some (record { node = other; task = t }) → (count : ℕ) × In (line.Booted serial.node count) (part_effect u p c).lines
        by (Does name s) h e = of_thin s h (ap (λ (a : TaskAt). a.task) (some_is _ _ e))
        by (Asks name y) h e = hears (question u name y) refl e
          where
            hears : (q : Question) → question u name y ≡ q → asked_by q ≡ Some (record { node = other; task = t }) → (count : ℕ) × In (line.Booted serial.node count) (part_effect u p c).lines
            hears (Heard m) k f = absurd (heard_other u.shared (stops_at other u) n m (Rattle.run_laws.proofs.Reasons.heard_kind u name y m k) c (line.Prepared tid serial) refl (of (Hears m) (ap (λ (a : TaskAt). a.task) (some_is _ _ f))))
            hears Unanswered k f = let no : ⊥ = cc in absurd no
            hears (Doubtful d) k f = let no : ⊥ = cc in absurd no
