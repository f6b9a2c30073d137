-- What a boot shows, and what it leaves of its node.
use Rattle.std.proofs.Common.{◌≡◌, ℕ, zero, suc, ◌+◌, List, [], ◌∷◌, ◌++◌, map, take, inl, inr, Bool, true, false, ◌||◌, Option, Some, None, if◌then◌else◌, refl, sym, ◌∙◌, ap, subst}
use Rattle.std.specs.Prelude.{nat_lt, length}
use Rattle.vms_model.specs.Transactions.{Outcome, Commit, Abort, Reason, SegFail}
use Rattle.vms_model.specs.Limits.{message_limit}
use Rattle.run_said.specs.transcript_model.Lines as line
use Rattle.run_said.specs.transcript_model.Lines.{Line, Cause}
use Rattle.run_said.specs.script_model.Statements.{Boot}
use Rattle.commit_protocol.specs.Messages.{Message}
use Rattle.commit_protocol.specs.Table as table
use Rattle.commit_protocol.specs.Table.{Branch, Key as BranchKey, Notes, Accepts, Prepares, Settles, Leaves, Acknowledges, Releases, Undoes, Sends, Prints}
use Rattle.commit_protocol.specs.Rows as rows
use Rattle.commit_protocol.specs.Rows.{row}
use Rattle.commit_protocol.specs.World.{In, undo_all}
use Rattle.run_said.specs.run_model.World as world
use Rattle.run_said.specs.run_model.World.{Shared, Node, Settlement, Outturn, MayTurnOut, Tables, acted, next_moment, powered, shared_after, tm_of, unpowered}
use Rattle.run_said.specs.run_model.Answers as answers
use Rattle.run_said.specs.run_model.Answers.{Row, Service, Task, Serves, Hears, RunsDown, Restarts, boot_rows, left_active, last_line, last_lines, refused_before_reading, settled_line, shown_by, shown_line, spoils, table_rows, task_service, unit_key}
use Rattle.run_said.specs.run_model.Steps.{Choice, Cut, TaskAllowed, TaskEffect, Unpowered, Whole, WithoutMemory, begun, lines_of_rows, node_after, node_after_rows, occupied, ready_node, shared_after_rows, shared_then, rows_if, rows_to_cut, task_effect, whole}
use Rattle.run_laws.specs.Promises.{last_in}
use Rattle.recovery_laws.specs.world_laws.Nodes.{IsKeptNode}
use Rattle.run_laws.proofs.Keeping.{behind_down, node_down}
use Rattle.run_laws.proofs.LastBoots.{NoLast, append_last, boots, else_last, none_last, settled_last}
use Rattle.run_said.proofs.Passing.{AllPass, acknowledged_passes, append_passes, prepared_passes, printed_passes, released_passes}
use Rattle.run_laws.proofs.ShownSettled.{in_append}
use Rattle.run_laws.proofs.Staying.{Grows, after_grows, rows_grow}
use Rattle.commit_protocol.proofs.Lists.{in_left}

or_true : (b : Bool) → (b || true) ≡ true
or_true true = refl
or_true false = refl

-- The line of a last settlement.

pub undone_last : (ks : List BranchKey) (s : Shared) (n : Node) (j : ℕ) → NoLast (lines_of_rows (take j (table_rows (undo_all ks) s n))) × NoLast (lines_of_rows (table_rows (undo_all ks) s n))
undone_last [] s n zero = (none_last, none_last)
undone_last [] s n (suc j) = (none_last, none_last)
undone_last (k ∷ ks) s n zero = (none_last, append_last (settled_line k Abort SegFail (next_moment n) ∷ []) _ (settled_last k Abort SegFail (next_moment n)) (undone_last ks (shared_after (Tables (Undoes k) (next_moment n)) s) (acted (Tables (Undoes k) (next_moment n)) n) zero).1)
undone_last (k ∷ ks) s n (suc j) =
    let more = undone_last ks (shared_after (Tables (Undoes k) (next_moment n)) s) (acted (Tables (Undoes k) (next_moment n)) n) j in
    (append_last (settled_line k Abort SegFail (next_moment n) ∷ []) _ (settled_last k Abort SegFail (next_moment n)) more.0, append_last (settled_line k Abort SegFail (next_moment n) ∷ []) _ (settled_last k Abort SegFail (next_moment n)) more.1)

-- the lines of a boot, whole or cut
boot_last : (s : Shared) (r : Node) (l : Line) (x : Settlement) → In l (lines_of_rows (boot_rows s r)) → last_in l ≡ Some x → In l (last_lines r)
boot_last s r l x i e = elim (in_append l (last_lines r) _ i) [ inl j ↦ j | inr j ↦ absurd ((undone_last (map unit_key (left_active r)) s (acted world.Boots r) zero).1 l x j e) ]

cut_last : (s : Shared) (r : Node) (j : ℕ) (o : Option Line) (l : Line) (x : Settlement) → In l (lines_of_rows (take j (rows_if o (boot_rows s r)))) → last_in l ≡ Some x → In l (last_lines r)
cut_last s r zero (Some refusal) l x i e = absurd i
cut_last s r (suc j) (Some refusal) l x i e = absurd i
cut_last s r zero None l x i e = absurd i
cut_last s r (suc j) None l x i e = elim (in_append l (last_lines r) _ i) [ inl k ↦ k | inr k ↦ absurd ((undone_last (map unit_key (left_active r)) s (acted world.Boots r) j).0 l x k e) ]

-- what a task shows as a last settlement is that of a disk which it made to run again
pub record LastSeen (s : Shared) (stops : ℕ) (n : Node) (t : Task) (c : Choice) (l : Line) : Type 0 where
  pub outturn : Outturn
  pub may : MayTurnOut n outturn
  pub boots : boots t ≡ true
  pub down : n.up ≡ false
  pub there : In l (last_lines (powered outturn stops n))
  pub grows : Grows (powered outturn stops n) (task_effect s stops n t c).node
  pub used : (task_effect s stops n t c).shared.in_use ≡ true

pub prepared_last : (bs : List Branch) → NoLast (map answers.prepared_line bs)
prepared_last [] l x i e = i
prepared_last (b ∷ bs) l x i e = elim i [ inl same ↦ (let clash : ◌≡◌ {A = Option Settlement} None (Some x) = sym (ap last_in same) ∙ e in let no : ⊥ = cc in no) | inr j ↦ prepared_last bs l x j e ]

module _ (s : Shared) (stops : ℕ) (n : Node) where
  down_last : (name : List ℕ) (cause : Cause) → NoLast (line.Down name cause ∷ [])
  down_last name cause l x i e = elim i [ inl same ↦ (let clash : ◌≡◌ {A = Option Settlement} None (Some x) = sym (ap last_in same) ∙ e in let no : ⊥ = cc in no) | inr none ↦ none ]

  closing_last : (t : Task) (r : Node) → boots t ≡ true → NoLast ((task_service t).closing_lines r)
  closing_last (Serves Boot) r on = prepared_last (world.booted r.durable).branches
  closing_last Restarts r on = append_last (answers.prepared_lines r) (line.Booted r.name (r.durable.boot + 1) ∷ []) (prepared_last (world.booted r.durable).branches) (λ l x i e. elim i [ inl same ↦ (let clash : ◌≡◌ {A = Option Settlement} None (Some x) = sym (ap last_in same) ∙ e in let no : ⊥ = cc in no) | inr none ↦ none ])
  closing_last (Serves _) r on = let no : ⊥ = cc in absurd no
  closing_last _ r on = let no : ⊥ = cc in absurd no

  boot_ready : (t : Task) (o : Outturn) → boots t ≡ true → ready_node o stops (task_service t) n ≡ powered o stops n
  boot_ready (Serves Boot) o on = refl
  boot_ready Restarts o on = refl
  boot_ready (Serves _) o on = let no : ⊥ = cc in absurd no
  boot_ready _ o on = let no : ⊥ = cc in absurd no

  boot_rows_are : (t : Task) (r : Node) → boots t ≡ true → (task_service t).rows s r ≡ boot_rows s r
  boot_rows_are (Serves Boot) r on = refl
  boot_rows_are Restarts r on = refl
  boot_rows_are (Serves _) r on = let no : ⊥ = cc in absurd no
  boot_rows_are _ r on = let no : ⊥ = cc in absurd no

  dead_last : (b : Bool) (name : List ℕ) → NoLast (line.Down name line.Failed ∷ [])
  dead_last b name = down_last name line.Failed

  boot_down : (t : Task) → boots t ≡ true → refused_before_reading s n (task_service t) ≡ None → n.up ≡ false
  boot_down (Serves Boot) on first = node_down n _ (behind_down n (task_service (Serves Boot)) s first)
  boot_down Restarts on first = node_down n _ (behind_down n (task_service Restarts) s first)
  boot_down (Serves _) on first = let no : ⊥ = cc in absurd no
  boot_down _ on first = let no : ⊥ = cc in absurd no

  boot_used : (t : Task) (u : Shared) → boots t ≡ true → (occupied (task_service t) u).in_use ≡ true
  boot_used (Serves Boot) u on = or_true u.in_use
  boot_used Restarts u on = or_true u.in_use
  boot_used (Serves _) u on = let no : ⊥ = cc in absurd no
  boot_used _ u on = let no : ⊥ = cc in absurd no

  pub last_seen : (t : Task) (c : Choice) (rises : Cause → Type 0) (l : Line) (x : Settlement) → IsKeptNode s n → TaskAllowed s stops n t rises c → In l (task_effect s stops n t c).lines → last_in l ≡ Some x → LastSeen s stops n t c l
  last_seen t c rises l x kept may i e = go (boots t) refl
    where
      of_boot : boots t ≡ true → (c : Choice) → TaskAllowed s stops n t rises c → In l (task_effect s stops n t c).lines → LastSeen s stops n t c l
      of_boot on (Whole o) may j = first (refused_before_reading s n (task_service t)) refl j
        where
          ready : Node
          ready = ready_node o stops (task_service t) n

          Seen : TaskEffect → Type 0
          Seen f = In l (last_lines (powered o stops n)) × (n.up ≡ false) × Grows (powered o stops n) f.node × (f.shared.in_use ≡ true)

          late : refused_before_reading s n (task_service t) ≡ None → (q : Option Line) → In l (begun s ready (task_service t) q).lines → Seen (begun s ready (task_service t) q)
          late first (Some refusal) k = absurd k
          late first None k = (
            subst (λ m. In l (last_lines m)) (boot_ready t o on) (elim (in_append l (lines_of_rows ((task_service t).rows s ready)) ((task_service t).closing_lines ready) k) [
              | inl front ↦ boot_last s ready l x (subst (λ rs. In l (lines_of_rows rs)) (boot_rows_are t ready on) front) e
              | inr back ↦ absurd (closing_last t ready on l x back e)
            ]),
            boot_down t on first,
            subst (λ m. Grows m (node_after (task_service t).closing (node_after_rows ((task_service t).rows s ready) ready))) (boot_ready t o on) (λ y h. after_grows (task_service t).closing (node_after_rows ((task_service t).rows s ready) ready) y (rows_grow ((task_service t).rows s ready) ready y h)),
            boot_used t (shared_then (task_service t).closing (shared_after_rows ((task_service t).rows s ready) s)) on,
          )

          first : (q : Option Line) → refused_before_reading s n (task_service t) ≡ q → In l (whole s n ready (task_service t) q).lines → LastSeen s stops n t (Whole o) l
          first (Some refusal) is k = absurd k
          first None is k =
              let seen = late is ((task_service t).refused_after_reading s ready) k in
              let same : task_effect s stops n t (Whole o) ≡ begun s ready (task_service t) ((task_service t).refused_after_reading s ready) = ap (whole s n ready (task_service t)) is in
              record { outturn = o; may = may; boots = on; down = seen.1; there = seen.0; grows = subst (λ (f : TaskEffect). Grows (powered o stops n) f.node) (sym same) seen.2; used = ap (λ (f : TaskEffect). f.shared.in_use) same ∙ seen.3 }
      of_boot on WithoutMemory may j = absurd j
      of_boot on Unpowered may j = absurd (down_last n.name line.Failed l x j e)
      of_boot on (Cut o k b cause) may j =
          let ready = ready_node o stops (task_service t) n in
          let rs = take k (rows_to_cut s ready (task_service t)) in
          record {
            outturn = o;
            may = may.2;
            boots = on;
            down = boot_down t on may.0;
            there = subst (λ m. In l (last_lines m)) (boot_ready t o on) (elim (in_append l (lines_of_rows (take k (rows_to_cut s ready (task_service t)))) (line.Down ready.name cause ∷ []) j) [
              | inl front ↦ cut_last s ready k ((task_service t).refused_after_reading s ready) l x (subst (λ rs. In l (lines_of_rows (take k (rows_if ((task_service t).refused_after_reading s ready) rs)))) (boot_rows_are t ready on) front) e
              | inr back ↦ absurd (down_last ready.name cause l x back e)
            ]);
            grows = subst (λ m. Grows m (task_effect s stops n t (Cut o k b cause)).node) (boot_ready t o on) (λ y h. rows_grow rs ready y h);
            used = boot_used t (shared_after_rows rs s) on;
          }

      go : (b : Bool) → boots t ≡ b → LastSeen s stops n t c l
      go true on = of_boot on c may i
      go false off = absurd (else_last s stops n t c rises kept off may l x i e)

-- The line of a restart.

abbrev is_unbooted : Line → Bool
is_unbooted (line.Booted node count) = false
is_unbooted _ = true

passes_in : (test : Line → Bool) (ls : List Line) (l : Line) → AllPass test ls → In l ls → test l ≡ true
passes_in test [] l h i = absurd i
passes_in test (x ∷ ls) l h i = elim i [ inl same ↦ ap test same ∙ h.0 | inr j ↦ passes_in test ls l h.1 j ]

act_unbooted : (a : table.Act) (moment : ℕ) (n : Node) (s : Shared) → AllPass is_unbooted (shown_by a moment n s)
act_unbooted (Notes b) moment n s = tt
act_unbooted (Accepts b c) moment n s = (refl, tt)
act_unbooted (Prepares b) moment n s = (refl, tt)
act_unbooted (Settles k Commit reason r) moment n s = (refl, tt)
act_unbooted (Settles k Abort reason r) moment n s = (refl, tt)
act_unbooted (Leaves k) moment n s = (refl, tt)
act_unbooted (Acknowledges k) moment n s = acknowledged_passes is_unbooted (λ tid serial. refl) k n.volatile.records
act_unbooted (Releases serial rm) moment n s = released_passes is_unbooted (λ tid serial. refl) serial rm n.volatile.records
act_unbooted (Undoes k) moment n s = (refl, tt)
act_unbooted (Sends m) moment n s = go (nat_lt (length s.wire) message_limit)
  where
    go : (b : Bool) → AllPass is_unbooted ((if b then line.Sent (length s.wire + 1) m else line.Unsent m) ∷ [])
    go true = (refl, tt)
    go false = (refl, tt)
act_unbooted (Prints l) moment n s = printed_passes is_unbooted (λ event tid serial rm. refl) (λ tid serial. refl) (λ tid reason. refl) n l

table_unbooted : (todo : List table.Act) (s : Shared) (n : Node) (j : ℕ) → AllPass is_unbooted (lines_of_rows (take j (table_rows todo s n))) × AllPass is_unbooted (lines_of_rows (table_rows todo s n))
table_unbooted [] s n zero = (tt, tt)
table_unbooted [] s n (suc j) = (tt, tt)
table_unbooted (a ∷ todo) s n zero = (tt, append_passes is_unbooted _ _ (act_unbooted a (next_moment n) n s) (table_unbooted todo (shared_after (Tables a (next_moment n)) s) (acted (Tables a (next_moment n)) n) zero).1)
table_unbooted (a ∷ todo) s n (suc j) =
    let more = table_unbooted todo (shared_after (Tables a (next_moment n)) s) (acted (Tables a (next_moment n)) n) j in
    (append_passes is_unbooted _ _ (act_unbooted a (next_moment n) n s) more.0, append_passes is_unbooted _ _ (act_unbooted a (next_moment n) n s) more.1)

lasts_unbooted : (n : Node) → AllPass is_unbooted (last_lines n)
lasts_unbooted n = go n.durable.last
  where
    at : (x : Settlement) (o : Outcome) (r : Option Reason) → AllPass is_unbooted (elim o as (λ y. List Line) [ Commit ↦ line.LastCommitted x.tid x.serial x.moment ∷ [] | Abort ↦ elim r as (λ y. List Line) [ Some reason ↦ line.LastAborted x.tid x.serial reason x.moment ∷ [] | None ↦ [] ] ])
    at x Commit r = (refl, tt)
    at x Abort (Some reason) = (refl, tt)
    at x Abort None = tt

    go : (o : Option Settlement) → AllPass is_unbooted (elim o as (λ y. List Line) [ Some x ↦ last_line x | None ↦ [] ])
    go (Some x) = at x x.outcome x.reason
    go None = tt

boot_unbooted : (s : Shared) (n : Node) → AllPass is_unbooted (lines_of_rows (boot_rows s n))
boot_unbooted s n = append_passes is_unbooted (last_lines n) _ (lasts_unbooted n) (table_unbooted (undo_all (map unit_key (left_active n))) s (acted world.Boots n) zero).1

cut_unbooted : (s : Shared) (n : Node) (j : ℕ) (o : Option Line) → AllPass is_unbooted (lines_of_rows (take j (rows_if o (boot_rows s n))))
cut_unbooted s n zero (Some refusal) = tt
cut_unbooted s n (suc j) (Some refusal) = tt
cut_unbooted s n zero None = tt
cut_unbooted s n (suc j) None = append_passes is_unbooted (last_lines n) _ (lasts_unbooted n) (table_unbooted (undo_all (map unit_key (left_active n))) s (acted world.Boots n) j).0

-- A restart that was whole: its node is up, and all its branches are prepared.
pub record IsBooted (s : Shared) (stops : ℕ) (n : Node) (name : List ℕ) (e : TaskEffect) : Type 0 where
  pub outturn : Outturn
  pub may : MayTurnOut n outturn
  pub named : (powered outturn stops n).name ≡ name
  pub node : e.node ≡ acted world.ComesUp (node_after_rows (boot_rows s (powered outturn stops n)) (powered outturn stops n))
  pub lasts : (l : Line) → In l (last_lines (powered outturn stops n)) → In l e.lines
  pub down : n.up ≡ false
  pub shows : e.lines ≡ lines_of_rows (boot_rows s (powered outturn stops n)) ++ (answers.prepared_lines (powered outturn stops n) ++ line.Booted (powered outturn stops n).name ((powered outturn stops n).durable.boot + 1) ∷ [])

front_lasts : (s : Shared) (r : Node) (more : List Line) (l : Line) → In l (last_lines r) → In l (lines_of_rows (boot_rows s r) ++ more)
front_lasts s r more l i = in_left l (lines_of_rows (boot_rows s r)) more (in_left l (last_lines r) _ i)

pub restart_seen : (s : Shared) (stops : ℕ) (n : Node) (c : Choice) (rises : Cause → Type 0) (name : List ℕ) (count : ℕ) → TaskAllowed s stops n Restarts rises c → In (line.Booted name count) (task_effect s stops n Restarts c).lines → IsBooted s stops n name (task_effect s stops n Restarts c)
restart_seen s stops n (Whole o) rises name count may i = first (refused_before_reading s n (task_service Restarts)) refl i
  where
    r : Node
    r = powered o stops n

    late : refused_before_reading s n (task_service Restarts) ≡ None → (q : Option Line) → In (line.Booted name count) (begun s r (task_service Restarts) q).lines → IsBooted s stops n name (begun s r (task_service Restarts) q)
    late none (Some refusal) k = absurd k
    late none None k = elim (in_append (line.Booted name count) (lines_of_rows (boot_rows s r)) (answers.prepared_lines r ++ line.Booted r.name (r.durable.boot + 1) ∷ []) k) [
      | inl front ↦ (let clash : false ≡ true = passes_in is_unbooted _ (line.Booted name count) (boot_unbooted s r) front in let no : ⊥ = cc in absurd no)
      | inr back ↦ elim (in_append (line.Booted name count) (answers.prepared_lines r) (line.Booted r.name (r.durable.boot + 1) ∷ []) back) [
        | inl front ↦ (let clash : false ≡ true = passes_in is_unbooted _ (line.Booted name count) (prepared_passes is_unbooted (λ tid serial. refl) (world.booted r.durable).branches) front in let no : ⊥ = cc in absurd no)
        | inr last ↦ elim last [
          | inl same ↦ record { outturn = o; may = may; named = (let is : line.Booted name count ≡ line.Booted r.name (r.durable.boot + 1) = same in cc); node = refl; lasts = λ l j. front_lasts s r _ l j; down = boot_down s stops n Restarts refl none; shows = refl }
          | inr none ↦ absurd none
        ]
      ]
    ]

    first : (q : Option Line) → refused_before_reading s n (task_service Restarts) ≡ q → In (line.Booted name count) (whole s n r (task_service Restarts) q).lines → IsBooted s stops n name (whole s n r (task_service Restarts) q)
    first (Some refusal) is k = absurd k
    first None is k = late is ((task_service Restarts).refused_after_reading s r) k
restart_seen s stops n WithoutMemory rises name count may i = absurd i
restart_seen s stops n Unpowered rises name count may i = elim i [ inl same ↦ (let no : ⊥ = cc in absurd no) | inr none ↦ absurd none ]
restart_seen s stops n (Cut o j b cause) rises name count may i = elim (in_append (line.Booted name count) (lines_of_rows (take j (rows_to_cut s (powered o stops n) (task_service Restarts)))) (line.Down (powered o stops n).name cause ∷ []) i) [
  | inl front ↦ (let clash : false ≡ true = passes_in is_unbooted _ (line.Booted name count) (cut_unbooted s (powered o stops n) j ((task_service Restarts).refused_after_reading s (powered o stops n))) front in let no : ⊥ = cc in absurd no)
  | inr last ↦ elim last [ inl same ↦ (let no : ⊥ = cc in absurd no) | inr none ↦ absurd none ]
]

-- a run-down, and a branch that hears its answer, show none
told_unbooted : (s : Shared) (stops : ℕ) (n : Node) (t : Task) (front : List Line) → ((m : Node) (j : ℕ) (o : Option Line) → AllPass is_unbooted (lines_of_rows (take j (rows_if o ((task_service t).rows s m))))) → ((m : Node) → AllPass is_unbooted (lines_of_rows ((task_service t).rows s m))) → ((m : Node) → (task_service t).closing_lines m ≡ []) → (c : Choice) (name : List ℕ) (count : ℕ) → In (line.Booted name count) (task_effect s stops n t c).lines → ⊥
told_unbooted s stops n t front cut all closes c name count i = by c i
  where
    clash : (ls : List Line) → AllPass is_unbooted ls → In (line.Booted name count) ls → ⊥
    clash ls h j = let no : false ≡ true = passes_in is_unbooted ls (line.Booted name count) h j in let none : ⊥ = cc in none

    by : (c : Choice) → In (line.Booted name count) (task_effect s stops n t c).lines → ⊥
    by (Whole o) j = first (refused_before_reading s n (task_service t)) j
      where
        ready : Node
        ready = ready_node o stops (task_service t) n

        late : (q : Option Line) → In (line.Booted name count) (begun s ready (task_service t) q).lines → ⊥
        late (Some refusal) k = k
        late None k = elim (in_append (line.Booted name count) (lines_of_rows ((task_service t).rows s ready)) ((task_service t).closing_lines ready) k) [ inl x ↦ clash _ (all ready) x | inr x ↦ subst (In (line.Booted name count)) (closes ready) x ]

        first : (q : Option Line) → In (line.Booted name count) (whole s n ready (task_service t) q).lines → ⊥
        first (Some refusal) k = k
        first None k = late ((task_service t).refused_after_reading s ready) k
    by WithoutMemory j = j
    by Unpowered j = clash (line.Down n.name line.Failed ∷ []) (refl, tt) j
    by (Cut o k b cause) j =
        let ready = ready_node o stops (task_service t) n in
        clash _ (append_passes is_unbooted (lines_of_rows (take k (rows_to_cut s ready (task_service t)))) (line.Down ready.name cause ∷ []) (cut ready k ((task_service t).refused_after_reading s ready)) (refl, tt)) j

if_unbooted : (rs : List Row) (j : ℕ) (o : Option Line) → AllPass is_unbooted (lines_of_rows (take j rs)) → AllPass is_unbooted (lines_of_rows (take j (rows_if o rs)))
if_unbooted rs zero (Some refusal) h = tt
if_unbooted rs (suc j) (Some refusal) h = tt
if_unbooted rs j None h = h

pub down_unbooted : (s : Shared) (stops : ℕ) (n : Node) (c : Choice) (name : List ℕ) (count : ℕ) → In (line.Booted name count) (task_effect s stops n RunsDown c).lines → ⊥
down_unbooted s stops n c name count = told_unbooted s stops n RunsDown [] (λ m j o. if_unbooted _ j o (table_unbooted (row (tm_of m) rows.RunDown) s m j).0) (λ m. (table_unbooted (row (tm_of m) rows.RunDown) s m zero).1) (λ m. refl) c name count

pub heard_unbooted : (s : Shared) (stops : ℕ) (n : Node) (x : Message) (c : Choice) (name : List ℕ) (count : ℕ) → In (line.Booted name count) (task_effect s stops n (Hears x) c).lines → ⊥
heard_unbooted s stops n x c name count = told_unbooted s stops n (Hears x) [] (λ m j o. if_unbooted _ j o (taken m j)) (λ m. (refl, (table_unbooted (row (tm_of m) (rows.Got x)) s m zero).1)) (λ m. refl) c name count
  where
    taken : (m : Node) (j : ℕ) → AllPass is_unbooted (lines_of_rows (take j (shown_line (line.Asked x.tid x.serial (answers.outcome_told x.kind)) ∷ table_rows (row (tm_of m) (rows.Got x)) s m)))
    taken m zero = tt
    taken m (suc j) = (refl, (table_unbooted (row (tm_of m) (rows.Got x)) s m j).0)

pub tick_unbooted : (s : Shared) (stops : ℕ) (n : Node) (c : Choice) (name : List ℕ) (count : ℕ) → In (line.Booted name count) (task_effect s stops n answers.Ticks c).lines → ⊥
tick_unbooted s stops n c name count = told_unbooted s stops n answers.Ticks [] (λ m j o. if_unbooted _ j o (table_unbooted (row (tm_of m) (rows.Clock m.clock)) s m j).0) (λ m. (table_unbooted (row (tm_of m) (rows.Clock m.clock)) s m zero).1) (λ m. refl) c name count

pub link_unbooted : (s : Shared) (stops : ℕ) (n : Node) (other : List ℕ) (c : Choice) (name : List ℕ) (count : ℕ) → In (line.Booted name count) (task_effect s stops n (answers.LosesLink other) c).lines → ⊥
link_unbooted s stops n other c name count = told_unbooted s stops n (answers.LosesLink other) [] (λ m j o. if_unbooted _ j o (table_unbooted (row (tm_of m) (rows.LinkDown other)) s m j).0) (λ m. (table_unbooted (row (tm_of m) (rows.LinkDown other)) s m zero).1) (λ m. refl) c name count
