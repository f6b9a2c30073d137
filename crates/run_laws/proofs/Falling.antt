-- What a task leaves of a node at which it leaves an abort under way.
use Rattle.std.specs.Option.{option_map}
use Rattle.std.proofs.Common.{◌≡◌, ℕ, zero, suc, ◌⊎◌, List, [], ◌∷◌, map, take, drop, inl, inr, Bool, true, false, not, ◌||◌, Option, Some, None, refl, sym, ◌∙◌, ap, subst}
use Rattle.std.proofs.lemmas.Bool.{both_ways}
use Rattle.vms_model.specs.Ids.{Id}
use Rattle.vms_model.specs.Transactions.{Outcome, Commit, Abort, Reason, Vetoed}
use Rattle.run_said.specs.transcript_model.Lines as line
use Rattle.run_said.specs.transcript_model.Lines.{Line, Cause}
use Rattle.run_said.specs.script_model.Statements.{Init, Boot, Direct, EndTrans, AbortTrans, AckEvent, Fuse, Clock}
use Rattle.commit_protocol.specs.Messages as message
use Rattle.commit_protocol.specs.Messages.{LogRecord, Message, Name, Kind, RmEvent}
use Rattle.commit_protocol.specs.Table as table
use Rattle.commit_protocol.specs.Table.{Branch, Key as BranchKey, State, Ending, Prints, Settles, find, key_of}
use Rattle.commit_protocol.specs.Rows as rows
use Rattle.commit_protocol.specs.Rows.{Event, Got, abort_row, abort_state, interested, row, tells, undone_quietly, is_veto}
use Rattle.commit_protocol.specs.Allowed.{is_prepared}
use Rattle.commit_protocol.specs.World.{In, undo_all}
use Rattle.commit_protocol.proofs.Lists.{find-key}
use Rattle.run_said.specs.log_laws.Slots.{prepared_of, records_in}
use Rattle.run_said.specs.run_model.World as world
use Rattle.run_said.specs.run_model.World.{Shared, Node, Act, Tables, Outturn, acted, fallen, next_moment, powered, shared_after, tm_of, unpowered}
use Rattle.run_said.specs.run_model.Answers as answers
use Rattle.run_said.specs.run_model.Answers.{Row, Service, Task, Serves, Ticks, Takes, Hears, LosesLink, RunsDown, Restarts, boot_rows, branch_labelled, just, powers, refused_before_reading, service, shown_line, spoils, table_rows, task_service, told_if, told_rows, touches, unit_key}
use Rattle.run_said.specs.run_model.Operations.{refused_if}
use Rattle.run_said.specs.run_model.Steps.{Choice, Cut, TaskAllowed, Unpowered, Whole, WithoutMemory, act_begun, begun, node_after, node_after_rows, ready_node, rows_if, rows_to_cut, task_effect, whole, with_unknown_volume}
use Rattle.run_said.proofs.run_model.Refusing.{not_ready}
use Rattle.recovery_laws.specs.world_laws.Nodes.{IsKeptNode, IsUp}
use Rattle.recovery_laws.proofs.world_laws.AnswerLemmas.{neither, not_refused}
use Rattle.recovery_laws.proofs.world_laws.LogLemmas.{branch_of}
use Rattle.recovery_laws.proofs.world_laws.TableLemmas.{found_in, in_serials, one_branch}
use Rattle.recovery_laws.proofs.world_laws.UpLemmas.{branch_drawn, differ}
use Rattle.run_laws.proofs.EffectsTell.{after_under, rows_under}
use Rattle.run_laws.proofs.Keeping.{AllTake, begun_act, closes_none, rows_cut}
use Rattle.run_laws.proofs.Moments.{ready_either}
use Rattle.run_laws.proofs.OneBranch.{IsOn, one, one_keeps}
use Rattle.run_laws.proofs.Preparing.{AllTell, CastsBy, PreparesBy, SendsBy, Tells, row_tells}
use Rattle.run_laws.proofs.RowFits.{EachFits, Fits, free_after, task_fits}
use Rattle.run_laws.proofs.Settling.{IsOpen, MessageSettles}
use Rattle.run_laws.proofs.TaskCauses.{AreCaused, IsCaused, TaskCause, task_caused}

-- no record of a log is that of a prepared branch of this serial; and those that are are of this branch
abbrev pub NoRecord : Node → Id → Type 0
NoRecord m x = (q : LogRecord) → In q (prepared_of (records_in m.durable.log)) → q.serial ≡ x → ⊥

abbrev pub RecordsOf : Node → BranchKey → Type 0
RecordsOf m k = (q : LogRecord) → In q (prepared_of (records_in m.durable.log)) → q.serial ≡ k.serial → q.tid ≡ k.tid

-- the message that a task tells its node
abbrev pub IsMessage : Task → Message → Type 0
IsMessage (Takes m) x = m ≡ x
IsMessage (Hears m) x = m ≡ x
IsMessage _ x = ⊥

abbrev pub aborting : BranchKey → Reason → Option LogRecord → ℕ → Act
aborting k reason r moment = Tables (Settles k Abort reason r) moment

-- The abort was under way before; or its branch is not prepared; or the branch was told to abort.
pub data Fell (n : Node) (t : Task) (k : BranchKey) (reason : Reason) (r : Option LogRecord) (moment : ℕ) (m : Node) : Type 0 where
  Was : n.under_way ≡ Some (aborting k reason r moment) → m.durable.log ≡ n.durable.log → Fell n t k reason r moment m
  Unprepared : n.up ≡ true → NoRecord m k.serial → Fell n t k reason r moment m
  ToldSo : (x : Message) → IsMessage t x → x.kind ≡ message.Abort → k ≡ key_of x → n.up ≡ true → RecordsOf m k → ((t ≡ Hears x) → (m.durable ≡ n.durable) × (m.volatile ≡ n.volatile)) → Fell n t k reason r moment m

-- Rows that are cut.

cut_fits : (free b : Bool) (j : ℕ) (rs : List Row) (n : Node) (act : Act) → EachFits free rs n → act_begun b (drop j rs) ≡ Some act → (f : Bool) × Fits f (Some act) (node_after_rows (take j rs) n) × IsUp (node_after_rows (take j rs) n)
cut_fits free false j rs n act f e = let no : ⊥ = cc in absurd no
cut_fits free true zero [] n act f e = let no : ⊥ = cc in absurd no
cut_fits free true zero (q ∷ rs) n act f e = (free, subst (λ o. Fits free o n) (begun_act q.act act e).0 f.0.fits, f.0.up)
cut_fits free true (suc j) [] n act f e = let no : ⊥ = cc in absurd no
cut_fits free true (suc j) (q ∷ rs) n act f e = cut_fits (free_after free q.act) true j rs (node_after q.act n) act f.1 e

pub cut_cause : (P : BranchKey → Outcome → Reason → Type 0) (b : Bool) (j : ℕ) (rs : List Row) (act : Act) → AreCaused P rs → act_begun b (drop j rs) ≡ Some act → IsCaused P (Some act)
cut_cause P false j rs act h e = let no : ⊥ = cc in absurd no
cut_cause P true zero [] act h e = let no : ⊥ = cc in absurd no
cut_cause P true zero (q ∷ rs) act h e = subst (IsCaused P) (begun_act q.act act e).0 h.0
cut_cause P true (suc j) [] act h e = let no : ⊥ = cc in absurd no
cut_cause P true (suc j) (q ∷ rs) act h e = cut_cause P true j rs act h.1 e

none_begun : (b : Bool) (j : ℕ) (act : Act) → act_begun b (drop j []) ≡ Some act → ⊥
none_begun false j act e = cc
none_begun true zero act e = cc
none_begun true (suc j) act e = cc

module _ (k : BranchKey) (reason : Reason) (r : Option LogRecord) (moment : ℕ) where
  abbrev act : Act
  act = aborting k reason r moment

  -- rows of a boot settle none so
  undo_begun : (b : Bool) (j : ℕ) (ks : List BranchKey) (s : Shared) (n : Node) → act_begun b (drop j (table_rows (undo_all ks) s n)) ≡ Some act → ⊥
  undo_begun b j [] s n e = none_begun b j act e
  undo_begun false zero (x ∷ ks) s n e = cc
  undo_begun true zero (x ∷ ks) s n e = cc
  undo_begun b (suc j) (x ∷ ks) s n e = undo_begun b j ks (shared_after (Tables (table.Undoes x) (next_moment n)) s) (acted (Tables (table.Undoes x) (next_moment n)) n) e

  boot_begun : (b : Bool) (j : ℕ) (s : Shared) (n : Node) → act_begun b (drop j (boot_rows s n)) ≡ Some act → ⊥
  boot_begun false zero s n e = cc
  boot_begun true zero s n e = cc
  boot_begun b (suc j) s n e = undo_begun b j (map unit_key (answers.left_active n)) s (acted world.Boots n) e

  tells_begun : (b : Bool) (j : ℕ) (v : RmEvent) (x : BranchKey) (xs : List Name) (s : Shared) (n : Node) → act_begun b (drop j (table_rows (tells v x xs) s n)) ≡ Some act → ⊥
  tells_begun b j v x [] s n e = none_begun b j act e
  tells_begun false zero v x (y ∷ xs) s n e = cc
  tells_begun true zero v x (y ∷ xs) s n e = cc
  tells_begun b (suc j) v x (y ∷ xs) s n e = tells_begun b j v x xs (shared_after (Tables (Prints (table.Told v x y)) (next_moment n)) s) (acted (Tables (Prints (table.Told v x y)) (next_moment n)) n) e

  -- a branch that is told to abort is settled first of all
  abort_begun : (b : Bool) (j : ℕ) (o : Option Branch) (s : Shared) (n : Node) → act_begun b (drop j (table_rows (abort_row o) s n)) ≡ Some act → node_after_rows (take j (table_rows (abort_row o) s n)) n ≡ n
  abort_begun b j None s n e = absurd (none_begun b j act e)
  abort_begun b j (Some x) s n e = go x.state e
    where
      undone : (b : Bool) (j : ℕ) → act_begun b (drop j (table_rows (undone_quietly Rattle.vms_model.specs.Transactions.Aborted x) s n)) ≡ Some act → node_after_rows (take j (table_rows (undone_quietly Rattle.vms_model.specs.Transactions.Aborted x) s n)) n ≡ n
      undone b zero e = refl
      undone b (suc j) e = absurd (tells_begun b j message.AbortEvent x.key (interested x.managers) _ _ e)

      go : (z : State) → act_begun b (drop j (table_rows (abort_state x z) s n)) ≡ Some act → node_after_rows (take j (table_rows (abort_state x z) s n)) n ≡ n
      go Ending q = absurd (none_begun b j act q)
      go _ q = undone b j q

  -- At a node that is up.
  module _ (s : Shared) (n : Node) (kept : IsKeptNode s n) (up : n.up ≡ true) where
    up_n : IsUp n
    up_n = (kept.runs up).0

    -- the branch was not prepared, and no row prepares it
    abbrev unprepared : Rattle.run_laws.proofs.Keeping.Scheme
    unprepared = one k.serial (λ t. Unit {0}) (λ t. ⊥) (λ x. Unit {0})

    takes_of : (todo : List table.Act) (u : Shared) (m : Node) (S : Message → Type 0) (Q : Branch → Type 0) → AllTell S Q todo → ((b : Branch) → Q b → b.key.serial ≡ k.serial → ⊥) → AllTake unprepared (table_rows todo u m)
    takes_of [] u m S Q h f = tt
    takes_of (a ∷ todo) u m S Q h f = (one_act a h.0, takes_of todo (shared_after (Tables a (next_moment m)) u) (acted (Tables a (next_moment m)) m) S Q h.1 f)
      where
        one_act : (a : table.Act) → Tells S Q a → unprepared.Takes (Some (Tables a (next_moment m)))
        one_act (table.Prepares b) q = λ e t. f b q e
        one_act _ q = tt

    event_takes : (e : Event) → ((b : Branch) → CastsBy e b → ⊥) → AllTake unprepared (told_rows s n (just e))
    event_takes e f = takes_of (row (tm_of n) e) s n (SendsBy n.volatile.branches e) (PreparesBy n.volatile.branches e) (row_tells (tm_of n) e) (λ b q same. f q.0 q.4)

    is_on : IsOpen n.volatile.branches k → IsOn k.serial (λ t. Unit {0}) (λ t. ⊥) (λ x. Unit {0}) false n
    is_on o = record {
      drawn = branch_drawn n up_n.table k.serial (subst (λ (j : BranchKey). In j.serial (table.branch_serials n.volatile.branches)) o.key (in_serials o.branch n.volatile.branches o.there));
      fresh = λ e. let no : ⊥ = cc in absurd no;
      branch = λ b i e. (
        tt,
        λ p. (let same = one_branch n.volatile.branches b o.branch (differ n up_n.table) i o.there (e ∙ ap (λ (j : BranchKey). j.serial) (sym o.key)) in
            both_ways (is_prepared o.branch.state) o.unprepared (ap (λ (y : Branch). is_prepared y.state) (sym same) ∙ p)),
      );
      commits = λ x i e c. tt;
    }

    none_recorded : (j : ℕ) (rs : List Row) → IsOpen n.volatile.branches k → AllTake unprepared rs → EachFits false rs n → NoRecord (node_after_rows (take j rs) n) k.serial
    none_recorded j rs o takes fits = (rows_cut unprepared (one_keeps k.serial (λ t. Unit {0}) (λ t. ⊥) (λ x. Unit {0}) (λ t p. absurd p) (λ x e h. tt)) false j rs n tt takes fits (is_on o)).prepared

    -- the records of what is settled are of its branch
    records_so : (free : Bool) (m : Node) → Fits free (Some act) m → IsUp m → RecordsOf m k
    records_so free m f u q i e = elim f.stands [
      | inl stands ↦ (
          let b = branch_of m u.table q i in
          let x = stands.0 in
          let key = find-key k m.volatile.branches x.0 x.1 in
          let same = one_branch m.volatile.branches b.branch x.0 (differ m u.table) b.there (found_in k m.volatile.branches x.0 x.1) (ap (λ (y : LogRecord). y.serial) (sym b.is) ∙ e ∙ ap (λ (j : BranchKey). j.serial) (sym key)) in
          ap (λ (y : LogRecord). y.tid) b.is ∙ ap (λ (y : Branch). y.key.tid) same ∙ ap (λ (j : BranchKey). j.tid) key
          )
      | inr none ↦ absurd none
    ]

    -- the branch was open, or it was told so
    abbrev Caused : Task → Type 0
    Caused t = (IsOpen n.volatile.branches k × AllTake unprepared ((task_service t).rows s n)) ⊎ ((x : Message) × IsMessage t x × (x.kind ≡ message.Abort) × (k ≡ key_of x))

    message_caused : (t : Task) (x : Message) (kind : Kind) → x.kind ≡ kind → IsMessage t x → (AllTake unprepared (told_rows s n (just (Got x))) → AllTake unprepared ((task_service t).rows s n)) → MessageSettles (tm_of n) kind x k Abort reason → Caused t
    message_caused t x message.Yes is told f h = let no : Abort ≡ Commit = h.0 in let none : ⊥ = cc in absurd none
    message_caused t x message.ReadOnly is told f h = let no : Abort ≡ Commit = h.0 in let none : ⊥ = cc in absurd none
    message_caused t x message.Commit is told f h = let no : Abort ≡ Commit = h.0 in let none : ⊥ = cc in absurd none
    message_caused t x message.Abort is told f h = inr (x, told, is, h.2)
    message_caused t x message.JoinNo is told f h = inl (h.3, f (event_takes (Got x) (λ b c. let clash : message.JoinNo ≡ message.Prepare = sym is ∙ c.0 in cc)))
    message_caused t x message.No is told f h = inl (h.3, f (event_takes (Got x) (λ b c. let clash : message.No ≡ message.Prepare = sym is ∙ c.0 in cc)))
    message_caused t x message.Join is told f h = absurd h
    message_caused t x message.JoinOk is told f h = absurd h
    message_caused t x message.Prepare is told f h = absurd h
    message_caused t x message.Ack is told f h = absurd h
    message_caused t x message.Inquire is told f h = absurd h

    abbrev labelled_rows : (Branch → List Row) → Option Branch → List Row
    labelled_rows does o = elim o as (λ y. List Row) [ Some b ↦ does b | None ↦ [] ]

    caused : (t : Task) → powers (task_service t) ≡ false → TaskCause s n t k Abort reason → Caused t
    caused (Serves (EndTrans label)) off (b, is, h) = inl (h.1, subst (λ o. AllTake unprepared (labelled_rows (λ y. told_rows s n (just (rows.EndTrans y.key.tid))) o)) (sym is) (event_takes (rows.EndTrans b.key.tid) (λ y c. c)))
    caused (Serves (AbortTrans label)) off (b, is, h) = inl (h.3, subst (λ o. AllTake unprepared (labelled_rows (λ y. told_rows s n (just (rows.AbortBranch y.key.serial Rattle.vms_model.specs.Transactions.Aborted))) o)) (sym is) (event_takes (rows.AbortBranch b.key.serial Rattle.vms_model.specs.Transactions.Aborted) (λ y c. c)))
    caused (Serves (AckEvent who rm reply)) off (serial, is, (same, x, how)) = inl (x, subst (λ o. AllTake unprepared (told_if s n (option_map (λ y. just (rows.Replied y rm reply)) o))) (sym is) (event_takes (rows.Replied serial rm reply) (λ y c. never c.1 how)))
      where
        never : is_veto reply ≡ false → ((Abort ≡ Commit) × (is_veto reply ≡ false) × (x.branch.state ≡ Ending) × (k ≡ table.first k.tid)) ⊎ ((Abort ≡ Abort) × (reason ≡ Vetoed) × (is_veto reply ≡ true)) → ⊥
        never v (inl wrong) = let no : Abort ≡ Commit = wrong.0 in let none : ⊥ = cc in none
        never v (inr veto) = both_ways (is_veto reply) v veto.2
    caused (Serves (Direct file op)) off h = let no : Abort ≡ Commit = h.0 in let none : ⊥ = cc in absurd none
    caused (Serves Boot) off h = let no : ⊥ = cc in absurd no
    caused (Serves _) off h = absurd h
    caused Ticks off h = inl (h.2, event_takes (rows.Clock n.clock) (λ y c. c))
    caused (Takes x) off h = message_caused (Takes x) x x.kind refl refl (λ z. z) h
    caused (Hears x) off h = message_caused (Hears x) x x.kind refl refl (λ z. (tt, z)) h
    caused (LosesLink other) off h = inl (h.2, event_takes (rows.LinkDown other) (λ y c. c))
    caused RunsDown off h = inl (h.2, event_takes rows.RunDown (λ y c. c))
    caused Restarts off h = let no : ⊥ = cc in absurd no

    hears_first : (b : Bool) (j : ℕ) (x : Message) (kind : Kind) → kind ≡ message.Abort →
        let rs = shown_line (line.Asked x.tid x.serial (answers.outcome_told x.kind)) ∷ table_rows (rows.got (tm_of n) x kind) s n in act_begun b (drop j rs) ≡ Some act → node_after_rows (take j rs) n ≡ n
    hears_first b zero x kind is e = refl
    hears_first b (suc j) x kind is e = subst (λ d. act_begun b (drop j (table_rows (rows.got (tm_of n) x d) s n)) ≡ Some act → node_after_rows (take j (table_rows (rows.got (tm_of n) x d) s n)) n ≡ n) (sym is) (abort_begun b j (find (key_of x) n.volatile.branches) s n) e

    -- a task was cut
    fell_up : (t : Task) (off : powers (task_service t) ≡ false) (b : Bool) (j : ℕ) → EachFits false ((task_service t).rows s n) n → act_begun b (drop j ((task_service t).rows s n)) ≡ Some act → (m : Node) → m.durable ≡ (node_after_rows (take j ((task_service t).rows s n)) n).durable → m.volatile ≡ (node_after_rows (take j ((task_service t).rows s n)) n).volatile → Fell n t k reason r moment m
    fell_up t off b j fits e m durable volatile = go (caused t off (cut_cause (TaskCause s n t) b j rs act (task_caused s n t) e))
      where
        rs : List Row
        rs = (task_service t).rows s n

        go : Caused t → Fell n t k reason r moment m
        go (inl o) = Unprepared up (subst (λ (d : world.Durable). (q : LogRecord) → In q (prepared_of (records_in d.log)) → q.serial ≡ k.serial → ⊥) (sym durable) (none_recorded j rs o.0 o.1 fits))
        go (inr x) =
            let f = cut_fits false b j rs n act fits e in
            ToldSo x.0 x.1 x.2 x.3 up (subst (λ (d : world.Durable). (q : LogRecord) → In q (prepared_of (records_in d.log)) → q.serial ≡ k.serial → q.tid ≡ k.tid) (sym durable) (records_so f.0 (node_after_rows (take j rs) n) f.1 f.2))
            (λ is. (let e2 = subst (λ u. act_begun b (drop j ((task_service u).rows s n)) ≡ Some act) is e in
            let same = hears_first b j x.0 x.0.kind x.2 e2 in
            let all = subst (λ u. (m.durable ≡ (node_after_rows (take j ((task_service u).rows s n)) n).durable) × (m.volatile ≡ (node_after_rows (take j ((task_service u).rows s n)) n).volatile)) is (durable, volatile) in
            (all.0 ∙ ap (λ (y : Node). y.durable) same, all.1 ∙ ap (λ (y : Node). y.volatile) same)))

  -- What a task leaves.
  module _ (s : Shared) (stops : ℕ) (n : Node) (kept : IsKeptNode s n) where
    -- a node that is down does nothing but arm its disk or set its clock, unless its disk is made to run again
    down_serves : (t : Task) → n.up ≡ false → powers (task_service t) ≡ false → refused_before_reading s n (task_service t) ≡ None → (task_service t).while_down ≡ true
    down_serves t down off first = go (task_service t).while_down (subst (λ up. not (up || (task_service t).while_down) ≡ false) down (not_refused _ line.NodeDown (neither (refused_if (not (n.up || (task_service t).while_down)) line.NodeDown) _ first).0))
      where
        go : (b : Bool) → not (false || b) ≡ false → b ≡ true
        go true e = refl
        go false e = let no : ⊥ = cc in absurd no

    quiet_down : (t : Task) → (task_service t).while_down ≡ true → powers (task_service t) ≡ false → (touches (task_service t) ≡ false) × ((m : Node) (o : Option Line) → (begun s m (task_service t) o).node.durable ≡ m.durable)
    quiet_down (Serves (Fuse writes choice)) w off = (refl, λ m o. by m o)
      where
        by : (m : Node) (o : Option Line) → (begun s m (service (Fuse writes choice)) o).node.durable ≡ m.durable
        by m (Some refusal) = refl
        by m None = refl
    quiet_down (Serves (Clock now)) w off = (refl, λ m o. by m o)
      where
        by : (m : Node) (o : Option Line) → (begun s m (service (Clock now)) o).node.durable ≡ m.durable
        by m (Some refusal) = refl
        by m None = refl
    quiet_down (Serves (Init slots journal)) w off = let no : ⊥ = cc in absurd no
    quiet_down (Serves Boot) w off = let no : ⊥ = cc in absurd no
    quiet_down (Serves _) w off = let no : ⊥ = cc in absurd no
    quiet_down Restarts w off = let no : ⊥ = cc in absurd no
    quiet_down _ w off = let no : ⊥ = cc in absurd no

    down_now : n.under_way ≡ Some act → n.up ≡ false
    down_now e = (kept.way act e).2

    late_under : (e : Service) (m : Node) (o : Option Line) → (begun s m e o).node.under_way ≡ m.under_way
    late_under e m (Some refusal) = refl
    late_under e m None = after_under e.closing (node_after_rows (e.rows s m) m) ∙ rows_under (e.rows s m) m

    cut_powered : (t : Task) → powers (task_service t) ≡ true → (m : Node) (b : Bool) (j : ℕ) (o : Option Line) → act_begun b (drop j (rows_if o ((task_service t).rows s m))) ≡ Some act → ⊥
    cut_powered t on m b j (Some refusal) e = none_begun b j act e
    cut_powered (Serves (Init slots journal)) on m b j None e = none_begun b j act e
    cut_powered (Serves Boot) on m b j None e = boot_begun b j s m e
    cut_powered (Serves _) on m b j None e = let no : ⊥ = cc in absurd no
    cut_powered Restarts on m b j None e = boot_begun b j s m e
    cut_powered _ on m b j None e = let no : ⊥ = cc in absurd no

    pub fell_effect : (t : Task) (c : Choice) (rises : Cause → Type 0) → TaskAllowed s stops n t rises c → (task_effect s stops n t c).node.under_way ≡ Some act → Fell n t k reason r moment (task_effect s stops n t c).node
    fell_effect t (Whole o) rises may e = go (refused_before_reading s n (task_service t)) refl e
      where
        ready : Node
        ready = ready_node o stops (task_service t) n

        late : (q : Option Line) → refused_before_reading s n (task_service t) ≡ None → (begun s ready (task_service t) q).node.under_way ≡ Some act → Fell n t k reason r moment (begun s ready (task_service t) q).node
        late q first is = elim (ready_either o stops (task_service t) n) [
          | inl none ↦ (let clash : ◌≡◌ {A = Option Act} None (Some act) = sym none ∙ sym (late_under (task_service t) ready q) ∙ is in let no : ⊥ = cc in absurd no)
          | inr same ↦ (
              let was = ap (λ (y : Node). y.under_way) (sym same.1) ∙ sym (late_under (task_service t) ready q) ∙ is in
              let quiet = quiet_down t (down_serves t (down_now was) same.0 first) same.0 in
              Was was (ap (λ (d : world.Durable). d.log) (quiet.1 ready q ∙ ap (λ (y : Node). y.durable) same.1))
              )
        ]

        go : (q : Option Line) → refused_before_reading s n (task_service t) ≡ q → (whole s n ready (task_service t) q).node.under_way ≡ Some act → Fell n t k reason r moment (whole s n ready (task_service t) q).node
        go (Some refusal) first is = Was is refl
        go None first is = late ((task_service t).refused_after_reading s ready) first is
    fell_effect t WithoutMemory rises may e = Was e refl
    fell_effect t Unpowered rises may e = go (spoils (task_service t)) e
      where
        go : (b : Bool) → (with_unknown_volume b (unpowered stops n)).under_way ≡ Some act → Fell n t k reason r moment (with_unknown_volume b (unpowered stops n))
        go true is = Was is refl
        go false is = Was is refl
    fell_effect t (Cut o j b cause) rises may e = go (powers (task_service t)) refl
      where
        go : (on : Bool) → powers (task_service t) ≡ on → Fell n t k reason r moment (task_effect s stops n t (Cut o j b cause)).node
        go true on = absurd (cut_powered t on (ready_node o stops (task_service t) n) b j ((task_service t).refused_after_reading s (ready_node o stops (task_service t) n)) e)
        go false off = subst (λ m. (fallen (act_begun b (drop j (rows_to_cut s m (task_service t)))) (node_after_rows (take j (rows_to_cut s m (task_service t))) m)).under_way ≡ Some act → Fell n t k reason r moment (fallen (act_begun b (drop j (rows_to_cut s m (task_service t)))) (node_after_rows (take j (rows_to_cut s m (task_service t))) m)))
            (sym (not_ready o stops (task_service t) n off)) (by n.up refl) e
          where
            late : n.up ≡ true → (q : Option Line) → (task_service t).refused_after_reading s n ≡ q → let rs = rows_if q ((task_service t).rows s n) in
                act_begun b (drop j rs) ≡ Some act → Fell n t k reason r moment (fallen (act_begun b (drop j rs)) (node_after_rows (take j rs) n))
            late up (Some refusal) is f = absurd (none_begun b j act f)
            late up None is f = fell_up s n kept up t off b j (task_fits s n t kept up off may.0 is) f (fallen (act_begun b (drop j ((task_service t).rows s n))) (node_after_rows (take j ((task_service t).rows s n)) n)) refl refl

            by : (up : Bool) → n.up ≡ up → act_begun b (drop j (rows_to_cut s n (task_service t))) ≡ Some act → Fell n t k reason r moment (fallen (act_begun b (drop j (rows_to_cut s n (task_service t)))) (node_after_rows (take j (rows_to_cut s n (task_service t))) n))
            by true up f = late up ((task_service t).refused_after_reading s n) refl f
            by false down f = absurd (both_ways (touches (task_service t)) (quiet_down t (down_serves t down off may.0) off).0 may.1)
