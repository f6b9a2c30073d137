-- A task settles a branch that is told to be prepared only where it takes or hears a message that tells the outcome.
use Rattle.std.specs.Option.{option_map}
use Rattle.std.proofs.Common.{◌≡◌, ◌+◌, ℕ, zero, suc, ◌⊎◌, List, [], ◌∷◌, ◌++◌, inl, inr, map, take, Bool, true, false, Option, Some, None, if◌then◌else◌, refl, sym, ◌∙◌, ap, subst, arith}
use Rattle.std.proofs.lemmas.Bool.{both_ways, cases_Bool}
use Rattle.vms_model.specs.Ids.{Id}
use Rattle.vms_model.specs.Transactions.{Outcome, Commit, Abort, Reason, Aborted, SegFail, Vetoed}
use Rattle.run_said.specs.transcript_model.Lines as line
use Rattle.run_said.specs.transcript_model.Lines.{Line, Cause}
use Rattle.run_said.specs.script_model.Statements.{Request, Init, Boot, Direct, EndTrans, AbortTrans, AckEvent}
use Rattle.unit_laws.specs.records_model.History.{same_id}
use Rattle.unit_laws.specs.records_model.Records.{Change}
use Rattle.unit_laws.specs.Journal.{RecoveryUnit, active_units, find_unit, units_in}
use Rattle.commit_protocol.specs.Allowed.{is_prepared}
use Rattle.commit_protocol.specs.Messages as message
use Rattle.commit_protocol.specs.Messages.{Message}
use Rattle.commit_protocol.specs.Rows as rows
use Rattle.commit_protocol.specs.Rows.{row, is_veto}
use Rattle.commit_protocol.specs.Table as table
use Rattle.commit_protocol.specs.Table.{Branch, Key as BranchKey, child, first, key_of}
use Rattle.commit_protocol.specs.World.{In, undo_all}
use Rattle.run_said.specs.run_model.World as world
use Rattle.run_said.specs.run_model.World.{Shared, Node, MayTurnOut, Outturn, Settlement, Tables, acted, next_id, next_moment, powered, settlement, shared_after, tm_of}
use Rattle.run_said.specs.run_model.Answers as answers
use Rattle.run_said.specs.run_model.Answers.{Row, Serves, Task, Ticks, Takes, Hears, LosesLink, RunsDown, Restarts, boot_rows, branch_labelled, changes_at, directed, just, last_line, last_lines, left_active, powers, refused_before_reading, service, settled_line, table_rows, task_service, told_if, told_rows, unit_key}
use Rattle.run_said.specs.run_model.Steps.{Choice, Cut, TaskAllowed, Unpowered, Whole, WithoutMemory, TaskEffect, begun, lines_of_rows, rows_if, task_effect, whole}
use Rattle.run_said.proofs.run_model.TaskLemmas as tasks
use Rattle.run_said.proofs.run_model.TaskLemmas.{Failing, First, Lacking, Late, Success, outcome}
use Rattle.recovery_laws.specs.world_laws.Nodes.{IsKeptDisk}
use Rattle.recovery_laws.proofs.world_laws.IdLemmas.{id_is, id_itself}
use Rattle.recovery_laws.proofs.world_laws.NodeLemmas.{powered_ready}
use Rattle.recovery_laws.proofs.world_laws.TableLemmas.{in_serials, one_branch}
use Rattle.recovery_laws.proofs.world_laws.UnitSets.{UnitsDiffer, units_differ}
use Rattle.recovery_laws.proofs.world_laws.UpLemmas.{branch_drawn, differ}
use Rattle.run_laws.specs.Promises.{prepared_by, prepared_here, shown_in}
use Rattle.run_laws.proofs.EachRow.{ArePlain, closing_plain}
use Rattle.run_laws.proofs.Keeping.{Kept, powered_kept}
use Rattle.run_laws.proofs.Labelling.{served_up}
use Rattle.run_said.proofs.Passing.{AllPass}
use Rattle.run_laws.proofs.PreparedLines.{event_here, event_other, if_other, is_other, told_here, told_other}
use Rattle.run_laws.proofs.Settling.{IsOpen, MessageSettles}
use Rattle.run_laws.proofs.ShownSettled.{here_in, none_shown}
use Rattle.run_laws.proofs.SoundWorlds.{IsSoundNode}
use Rattle.run_laws.proofs.Splits.{split_append}
use Rattle.run_laws.proofs.StayPrepared.{HasRecord, IsIn, IsLast, lasts_clear, lasts_keep, preparing, preparing_keeps, told_append}
use Rattle.run_laws.proofs.TaskCauses.{RequestCause, TaskCause, effect_caused}

-- Lines.

-- where a branch is told to be prepared by lines alone, one of them tells it
pub told_there : (serial : Id) (ls : List Line) → prepared_by serial ls false ≡ true → (tid : Id) × In (line.Prepared tid serial) ls
told_there serial [] e = let no : ⊥ = cc in absurd no
told_there serial (l ∷ ls) e = go (prepared_here serial l false) refl (λ k. told_there serial ls k) e
  where
    one : (l : Line) → prepared_here serial l false ≡ true → (tid : Id) × In (line.Prepared tid serial) (l ∷ ls)
    one (line.Prepared tid s) k = (tid, inl (ap (line.Prepared tid) (id_is serial s k)))
    one (line.Committed tid s moment) k = let no : ⊥ = cc in absurd no
    one (line.Aborted tid s reason moment) k = let no : ⊥ = cc in absurd no
    one (line.LastCommitted tid s moment) k = let no : ⊥ = cc in absurd no
    one (line.LastAborted tid s reason moment) k = let no : ⊥ = cc in absurd no
    one _ k = let no : ⊥ = cc in absurd no

    go : (b : Bool) → prepared_here serial l false ≡ b → (prepared_by serial ls false ≡ true → (tid : Id) × In (line.Prepared tid serial) ls) → prepared_by serial ls b ≡ true → (tid : Id) × In (line.Prepared tid serial) (l ∷ ls)
    go true is more k = one l is
    go false is more k = let r = more k in (r.0, inr r.1)

in_front : (l this : Line) (front behind : List Line) → In l front → In l (front ++ this ∷ behind)
in_front l this [] behind i = absurd i
in_front l this (x ∷ front) behind (inl same) = inl same
in_front l this (x ∷ front) behind (inr i) = inr (in_front l this front behind i)

shown_settles : (k : BranchKey) (o : Outcome) (reason : Reason) (moment : ℕ) → shown_in (settled_line k o reason moment) ≡ Some (settlement k o reason moment)
shown_settles k Commit reason moment = refl
shown_settles k Abort reason moment = refl

-- Units that a boot undoes.

unit_active : (u : RecoveryUnit) (us : List RecoveryUnit) → In u (active_units us) → In u us × (u.prepared ≡ false)
unit_active u [] i = absurd i
unit_active u (v ∷ us) i = go v.prepared refl i (λ j. unit_active u us j)
  where
    go : (b : Bool) → v.prepared ≡ b → In u (if b then active_units us else v ∷ active_units us) → (In u (active_units us) → In u us × (u.prepared ≡ false)) → In u (v ∷ us) × (u.prepared ≡ false)
    go true is j more = let r = more j in (inr r.0, r.1)
    go false is (inl same) more = (inl same, ap (λ (x : RecoveryUnit). x.prepared) same ∙ is)
    go false is (inr j) more = let r = more j in (inr r.0, r.1)

found_self : (us : List RecoveryUnit) (u : RecoveryUnit) → UnitsDiffer us → In u us → find_unit u.serial us ≡ Some u
found_self [] u d i = absurd i
found_self (v ∷ us) u d (inl same) = ap (λ b. if b then Some v else find_unit u.serial us) (ap (λ (x : RecoveryUnit). same_id u.serial x.serial) (sym same) ∙ id_itself u.serial) ∙ ap Some (sym same)
found_self (v ∷ us) u d (inr i) = go (same_id u.serial v.serial) refl (found_self us u d.1 i)
  where
    go : (b : Bool) → same_id u.serial v.serial ≡ b → find_unit u.serial us ≡ Some u → ◌≡◌ {A = Option RecoveryUnit} (if b then Some v else find_unit u.serial us) (Some u)
    go true is more = let clash : ◌≡◌ {A = Option RecoveryUnit} None (Some u) = sym d.0 ∙ ap (λ x. find_unit x us) (sym (id_is u.serial v.serial is)) ∙ more in let no : ⊥ = cc in absurd no
    go false is more = more

-- a task takes or hears a message that tells the outcome of a branch
abbrev pub IsToldBy : Task → BranchKey → Outcome → Reason → Type 0
IsToldBy t k o reason = (m : Message) × ((t ≡ Takes m) ⊎ (t ≡ Hears m)) × (((m.kind ≡ message.Commit) × (o ≡ Commit) × (k ≡ key_of m)) ⊎ ((m.kind ≡ message.Abort) × (o ≡ Abort) × (reason ≡ Aborted) × (k ≡ key_of m)))

-- what settles a branch: it is open; or it is told; or a change without a label makes it; or a boot undoes it
data Settler (n : Node) (t : Task) (k : BranchKey) (o : Outcome) (reason : Reason) : Type 0 where
  Opened : IsOpen n.volatile.branches k → Settler n t k o reason
  ToldSo : IsToldBy t k o reason → Settler n t k o reason
  MadeNow : k ≡ first (next_id n) → Settler n t k o reason
  Undone : powers (task_service t) ≡ true → Settler n t k o reason

settler : (s : Shared) (n : Node) (t : Task) (k : BranchKey) (o : Outcome) (reason : Reason) → TaskCause s n t k o reason → Settler n t k o reason
settler s n t k o reason c = go t c
  where
    by_message : (t : Task) (m : Message) → (t ≡ Takes m) ⊎ (t ≡ Hears m) → (kind : message.Kind) → m.kind ≡ kind → MessageSettles (tm_of n) kind m k o reason → Settler n t k o reason
    by_message t m is message.Yes e h = Opened h.2
    by_message t m is message.ReadOnly e h = Opened h.2
    by_message t m is message.Commit e h = ToldSo (m, is, inl (e, h.0, h.1))
    by_message t m is message.Abort e h = ToldSo (m, is, inr (e, h.0, h.1, h.2))
    by_message t m is message.JoinNo e h = Opened h.3
    by_message t m is message.No e h = Opened h.3
    by_message t m is _ e h = absurd h

    request : (r : Request) → RequestCause s n r k o reason → Settler n (Serves r) k o reason
    request Boot h = Undone refl
    request (Direct file op) h = MadeNow h.1
    request (EndTrans label) h = Opened h.2.1
    request (AbortTrans label) h = Opened h.2.3
    request (AckEvent who rm reply) h = Opened h.2.1
    request _ h = absurd h

    go : (t : Task) → TaskCause s n t k o reason → Settler n t k o reason
    go (Serves r) h = request r h
    go Ticks h = Opened h.2
    go (Takes m) h = by_message (Takes m) m (inl refl) m.kind refl h
    go (Hears m) h = by_message (Hears m) m (inr refl) m.kind refl h
    go (LosesLink other) h = Opened h.2
    go RunsDown h = Opened h.2
    go Restarts h = Undone refl

-- such a task is done at a node that is up
cause_up : (s : Shared) (n : Node) (t : Task) (k : BranchKey) (o : Outcome) (reason : Reason) → powers (task_service t) ≡ false → TaskCause s n t k o reason → refused_before_reading s n (task_service t) ≡ None → n.up ≡ true
cause_up s n t k o reason off c none = go t off c none
  where
    request : (r : Request) → powers (service r) ≡ false → RequestCause s n r k o reason → refused_before_reading s n (service r) ≡ None → n.up ≡ true
    request Boot p h e = let no : ⊥ = cc in absurd no
    request (Direct file op) p h e = served_up n _ e
    request (EndTrans label) p h e = served_up n _ e
    request (AbortTrans label) p h e = served_up n _ e
    request (AckEvent who rm reply) p h e = served_up n _ e
    request _ p h e = absurd h

    go : (t : Task) → powers (task_service t) ≡ false → TaskCause s n t k o reason → refused_before_reading s n (task_service t) ≡ None → n.up ≡ true
    go (Serves r) p h e = request r p h e
    go Ticks p h e = served_up n _ e
    go (Takes m) p h e = served_up n _ e
    go (Hears m) p h e = served_up n _ e
    go (LosesLink other) p h e = served_up n _ e
    go RunsDown p h e = served_up n _ e
    go Restarts p h e = let no : ⊥ = cc in absurd no

-- and shows no branch that it prepares
none_other : (j : ℕ) (q : Option Line) → AllPass is_other (lines_of_rows (take j (rows_if q [])))
none_other zero None = tt
none_other (suc j) None = tt
none_other zero (Some refusal) = tt
none_other (suc j) (Some refusal) = tt

-- no two branches of a node have the same serial
abbrev OneSerial : Node → Type 0
OneSerial n = (b x : Branch) → In b n.volatile.branches → In x n.volatile.branches → b.key.serial ≡ x.key.serial → b ≡ x

cause_other : (s : Shared) (stops : ℕ) (n : Node) (t : Task) (c : Choice) (k : BranchKey) (o : Outcome) (reason : Reason) → OneSerial n → powers (task_service t) ≡ false → TaskCause s n t k o reason → (l : Line) → is_other l ≡ false → In l (task_effect s stops n t c).lines → ⊥
cause_other s stops n t c k o reason one off cause l shows i = go t off cause i
  where
    branch_rows : (s : Shared) (m : Node) (e : Branch → rows.Event) → ((b x : Branch) → Rattle.run_laws.proofs.Preparing.CastsBy (e b) x → ⊥) → (o : Option Branch) (j : ℕ) (q : Option Line) →
        AllPass is_other (lines_of_rows (take j (rows_if q (elim o as (λ x. List Row) [ Some b ↦ told_rows s m (just (e b)) | None ↦ [] ])))) × AllPass is_other (lines_of_rows (elim o as (λ x. List Row) [ Some b ↦ told_rows s m (just (e b)) | None ↦ [] ]))
    branch_rows s m e never None j q = (none_other j q, tt)
    branch_rows s m e never (Some b) j q = (if_other _ j q (event_other m (e b) (never b) s j).0, (event_other m (e b) (never b) s zero).1)

    direct_rows : (m : Node) (file : List ℕ) (cs : List Change) (j : ℕ) (q : Option Line) → AllPass is_other (lines_of_rows (take j (rows_if q (directed m file cs)))) × AllPass is_other (lines_of_rows (directed m file cs))
    direct_rows m file [] j q = (none_other j q, tt)
    direct_rows m file (c ∷ cs) zero None = (tt, (refl, tt))
    direct_rows m file (c ∷ cs) (suc zero) None = ((refl, tt), (refl, tt))
    direct_rows m file (c ∷ cs) (suc (suc j)) None = ((refl, tt), (refl, tt))
    direct_rows m file (c ∷ cs) zero (Some refusal) = (tt, (refl, tt))
    direct_rows m file (c ∷ cs) (suc j) (Some refusal) = (tt, (refl, tt))

    never_votes : (m : Message) → MessageSettles (tm_of n) m.kind m k o reason → (b : Branch) → Rattle.run_laws.proofs.Preparing.CastsBy (rows.Got m) b → ⊥
    never_votes m h b q = subst (λ kind. MessageSettles (tm_of n) kind m k o reason) q.0 h

    request : (r : Request) → powers (service r) ≡ false → RequestCause s n r k o reason → In l (task_effect s stops n (Serves r) c).lines → ⊥
    request Boot p h i = let no : ⊥ = cc in no
    request (Direct file op) p h i = told_other s stops n (Serves (Direct file op)) (λ m j q. (direct_rows m file (changes_at m file op) j q).0) (λ m. (direct_rows m file (changes_at m file op) zero None).1) (λ m. refl) c l shows i
    request (EndTrans label) p h i = told_other s stops n (Serves (EndTrans label)) (λ m j q. (branch_rows s m (λ b. rows.EndTrans b.key.tid) (λ b x f. f) (branch_labelled s m label) j q).0) (λ m. (branch_rows s m (λ b. rows.EndTrans b.key.tid) (λ b x f. f) (branch_labelled s m label) zero None).1) (λ m. refl) c l shows i
    request (AbortTrans label) p h i = told_other s stops n (Serves (AbortTrans label)) (λ m j q. (branch_rows s m (λ b. rows.AbortBranch b.key.serial Aborted) (λ b x f. f) (branch_labelled s m label) j q).0) (λ m. (branch_rows s m (λ b. rows.AbortBranch b.key.serial Aborted) (λ b x f. f) (branch_labelled s m label) zero None).1) (λ m. refl) c l shows i
    request (AckEvent who rm reply) p (serial, is, (same, x, how)) i = told_here s stops n (Serves (AckEvent who rm reply)) refl (λ j q. (reply_rows j q).0) (reply_rows zero None).1 refl c l shows i
      where
        never : (b : Branch) → In b n.volatile.branches → Rattle.run_laws.proofs.Preparing.CastsBy (rows.Replied serial rm reply) b →
            ((o ≡ Commit) × (is_veto reply ≡ false) × (x.branch.state ≡ table.Ending) × (k ≡ first k.tid)) ⊎ ((o ≡ Abort) × (reason ≡ Vetoed) × (is_veto reply ≡ true)) → ⊥
        never b there casts (inl ends) =
            let b_is : b ≡ x.branch = one b x.branch there x.there (casts.3 ∙ sym same ∙ ap (λ (j : BranchKey). j.serial) (sym x.key)) in
            let clash : table.Voting ≡ table.Ending = sym casts.2 ∙ ap (λ (y : Branch). y.state) b_is ∙ ends.2 in
            let no : ⊥ = cc in no
        never b there casts (inr veto) = both_ways (is_veto reply) casts.1 veto.2

        reply_rows : (j : ℕ) (q : Option Line) → AllPass is_other (lines_of_rows (take j (rows_if q ((service (AckEvent who rm reply)).rows s n)))) × AllPass is_other (lines_of_rows ((service (AckEvent who rm reply)).rows s n))
        reply_rows j q = subst (λ y. AllPass is_other (lines_of_rows (take j (rows_if q (told_if s n (option_map (λ z. just (rows.Replied z rm reply)) y))))) × AllPass is_other (lines_of_rows (told_if s n (option_map (λ z. just (rows.Replied z rm reply)) y)))) (sym is)
            (if_other _ j q (event_here n (rows.Replied serial rm reply) (λ b there casts. never b there casts how) s j).0, (event_here n (rows.Replied serial rm reply) (λ b there casts. never b there casts how) s zero).1)
    request _ p h i = h

    heard : (x : Message) → MessageSettles (tm_of n) x.kind x k o reason → (m : Node) (j : ℕ) → AllPass is_other (lines_of_rows (take j (answers.shown_line (line.Asked x.tid x.serial (answers.outcome_told x.kind)) ∷ table_rows (row (tm_of m) (rows.Got x)) s m)))
    heard x h m zero = tt
    heard x h m (suc j) = (refl, (event_other m (rows.Got x) (never_votes x h) s j).0)

    go : (t : Task) → powers (task_service t) ≡ false → TaskCause s n t k o reason → In l (task_effect s stops n t c).lines → ⊥
    go (Serves r) p h i = request r p h i
    go Ticks p h i = Rattle.run_laws.proofs.PreparedLines.tick_other s stops n c l shows i
    go (Takes x) p h i = told_other s stops n (Takes x) (λ m j q. if_other _ j q (event_other m (rows.Got x) (never_votes x h) s j).0) (λ m. (event_other m (rows.Got x) (never_votes x h) s zero).1) (λ m. refl) c l shows i
    go (Hears x) p h i = told_other s stops n (Hears x) (λ m j q. if_other _ j q (heard x h m j)) (λ m. (refl, (event_other m (rows.Got x) (never_votes x h) s zero).1)) (λ m. refl) c l shows i
    go (LosesLink other) p h i = Rattle.run_laws.proofs.PreparedLines.link_other s stops n other c l shows i
    go RunsDown p h i = Rattle.run_laws.proofs.PreparedLines.down_other s stops n c l shows i
    go Restarts p h i = let no : ⊥ = cc in no

-- Settlements of a branch that is told to be prepared.

module _ (serial : Id) where
  -- a line of its settlement, where it is told to be prepared
  pub record SettledThere (a : Bool) (ls : List Line) : Type 0 where
    pub front : List Line
    pub behind : List Line
    pub this : Line
    pub it : Settlement
    pub stands : ls ≡ front ++ this ∷ behind
    pub shows : shown_in this ≡ Some it
    pub same : it.serial ≡ serial
    pub told : prepared_by serial front a ≡ true

  abbrev pub NoneShown : List Line → Type 0
  NoneShown ls = (l : Line) (x : Settlement) → In l ls → shown_in l ≡ Some x → x.serial ≡ serial → ⊥

  pub none_settled : (a : Bool) (ls : List Line) → NoneShown ls → SettledThere a ls → ⊥
  none_settled a ls none t = none t.this t.it (subst (In t.this) (sym t.stands) (here_in t.front t.this t.behind)) t.shows t.same

  pub plain_settled : (a : Bool) (ls : List Line) → ArePlain ls → SettledThere a ls → ⊥
  plain_settled a ls plain t = none_settled a ls (λ l x i e same. none_shown ls plain l x i e) t

  -- of two lists, it stands in the first, or in the second
  pub split_so : (a : Bool) (xs ys : List Line) → (t : SettledThere a (xs ++ ys)) → ((q : SettledThere a xs) × (t.it ≡ q.it)) ⊎ ((q : SettledThere (prepared_by serial xs a) ys) × (t.it ≡ q.it))
  split_so a xs ys t = elim (split_append xs ys t.front t.this t.behind t.stands) [
    | inl r ↦ inl (record { front = t.front; behind = r.0; this = t.this; it = t.it; stands = r.1; shows = t.shows; same = t.same; told = t.told }, refl)
    | inr r ↦ inr (record { front = r.0; behind = t.behind; this = t.this; it = t.it; stands = r.2; shows = t.shows; same = t.same; told = sym (told_append serial xs r.0 a) ∙ ap (λ ls. prepared_by serial ls a) (sym r.1) ∙ t.told }, refl)
  ]

  split_settled : (a : Bool) (xs ys : List Line) → SettledThere a (xs ++ ys) → SettledThere a xs ⊎ SettledThere (prepared_by serial xs a) ys
  split_settled a xs ys t = elim (split_so a xs ys t) [ inl q ↦ inl q.0 | inr q ↦ inr q.0 ]

  -- where no line tells that a branch is prepared
  unvoted_settled : (ls : List Line) → ((tid : Id) → In (line.Prepared tid serial) ls → ⊥) → SettledThere false ls → ⊥
  unvoted_settled ls none t = let r = told_there serial t.front t.told in none r.0 (subst (In (line.Prepared r.0 serial)) (sym t.stands) (in_front (line.Prepared r.0 serial) t.this t.front t.behind r.1))

  -- A boot.

  undo_none : (j : ℕ) (us : List RecoveryUnit) (s : Shared) (n : Node) → ((u : RecoveryUnit) → In u us → u.serial ≡ serial → ⊥) → NoneShown (lines_of_rows (take j (table_rows (undo_all (map unit_key us)) s n)))
  undo_none zero us s n f l x i e same = i
  undo_none (suc j) [] s n f l x i e same = i
  undo_none (suc j) (u ∷ us) s n f l x i e same = elim i [
    | inl here ↦ (let is : x ≡ settlement (unit_key u) Abort SegFail (next_moment n) = Rattle.run_said.proofs.run_model.NodeLists.some_is x _ (sym e ∙ ap shown_in here) in f u (inl refl) (ap (λ (y : Settlement). y.serial) (sym is) ∙ same))
    | inr k ↦ undo_none j us (shared_after (Tables (table.Undoes (unit_key u)) (next_moment n)) s) (acted (Tables (table.Undoes (unit_key u)) (next_moment n)) n) (λ v m. f v (inr m)) l x k e same
  ]

  undo_unvoted : (j : ℕ) (us : List RecoveryUnit) (s : Shared) (n : Node) (tid : Id) → In (line.Prepared tid serial) (lines_of_rows (take j (table_rows (undo_all (map unit_key us)) s n))) → ⊥
  undo_unvoted zero us s n tid i = i
  undo_unvoted (suc j) [] s n tid i = i
  undo_unvoted (suc j) (u ∷ us) s n tid i = elim i [
    | inl here ↦ (let no : ⊥ = cc in no)
    | inr k ↦ undo_unvoted j us (shared_after (Tables (table.Undoes (unit_key u)) (next_moment n)) s) (acted (Tables (table.Undoes (unit_key u)) (next_moment n)) n) tid k
  ]

  lasts_none : (n : Node) → NoneShown (last_lines n)
  lasts_none n l x i e same = go n.durable.last i
    where
      none : (y : Line) → l ≡ y → shown_in y ≡ None → ⊥
      none y is off = let clash : ◌≡◌ {A = Option Settlement} None (Some x) = sym off ∙ ap shown_in (sym is) ∙ e in let no : ⊥ = cc in no

      at : (t : Settlement) (o : Outcome) (r : Option Reason) → In l (elim o as (λ y. List Line) [ Commit ↦ line.LastCommitted t.tid t.serial t.moment ∷ [] | Abort ↦ elim r as (λ y. List Line) [ Some reason ↦ line.LastAborted t.tid t.serial reason t.moment ∷ [] | None ↦ [] ] ]) → ⊥
      at t Commit r j = elim j [ inl is ↦ none (line.LastCommitted t.tid t.serial t.moment) is refl | inr k ↦ k ]
      at t Abort (Some reason) j = elim j [ inl is ↦ none (line.LastAborted t.tid t.serial reason t.moment) is refl | inr k ↦ k ]
      at t Abort None j = j

      go : (o : Option Settlement) → In l (elim o as (λ y. List Line) [ Some t ↦ last_line t | None ↦ [] ]) → ⊥
      go (Some t) j = at t t.outcome t.reason j
      go None j = j

  boot_settled : (s : Shared) (r : Node) (a : Bool) → IsKeptDisk r → (a ≡ true → HasRecord serial r.durable ⊎ IsLast serial r.durable) → (j : ℕ) → SettledThere a (lines_of_rows (take j (boot_rows s r))) → ⊥
  boot_settled s r a kept known zero t = plain_settled a [] tt t
  boot_settled s r a kept known (suc j) t = elim (split_settled a (last_lines r) (lines_of_rows (take j (table_rows (undo_all (map unit_key (left_active r))) s (acted world.Boots r)))) t) [
    | inl front ↦ none_settled a (last_lines r) (lasts_none r) front
    | inr behind ↦ elim (cases_Bool (prepared_by serial (last_lines r) a)) [
      | inl told ↦ none_settled _ _ (undo_none j (left_active r) s (acted world.Boots r) (λ u i same. of_record (elim (known (lasts_keep serial r a told)) [ inl h ↦ h | inr last ↦ absurd (lasts_clear serial r a last told) ]) u i same)) behind
      | inr off ↦ unvoted_settled _ (undo_unvoted j (left_active r) s (acted world.Boots r)) (subst (λ b. SettledThere b (lines_of_rows (take j (table_rows (undo_all (map unit_key (left_active r))) s (acted world.Boots r))))) off behind)
    ]
  ]
    where
      of_record : HasRecord serial r.durable → (u : RecoveryUnit) → In u (left_active r) → u.serial ≡ serial → ⊥
      of_record (q, i, is) u m same =
          let at = unit_active u (units_in r.durable.units.entries) m in
          let found = found_self (units_in r.durable.units.entries) u (units_differ r.durable.units.entries) at.0 in
          both_ways u.prepared at.1 (kept.log.active q u i (ap (λ x. find_unit x (units_in r.durable.units.entries)) (is ∙ sym same) ∙ found)).0

  take_all : {A : Type 0} (xs : List A) → (j : ℕ) × (take j xs ≡ xs)
  take_all [] = (zero, refl)
  take_all (x ∷ xs) = let r = take_all xs in (suc r.0, ap (λ ys. x ∷ ys) r.1)

  boot_all : (s : Shared) (r : Node) (a : Bool) → IsKeptDisk r → (a ≡ true → HasRecord serial r.durable ⊎ IsLast serial r.durable) → SettledThere a (lines_of_rows (boot_rows s r)) → ⊥
  boot_all s r a kept known t = let q = take_all (boot_rows s r) in boot_settled s r a kept known q.0 (subst (λ rs. SettledThere a (lines_of_rows rs)) (sym q.1) t)

  module _ (s : Shared) (stops : ℕ) (n : Node) (rises : Cause → Type 0) (a : Bool) (sound : IsSoundNode s n) (h : Kept (preparing serial) (preparing_keeps serial) a n) where
    ready_disk : (o : Outturn) → MayTurnOut n o → IsKeptDisk (powered o stops n) × (a ≡ true → HasRecord serial (powered o stops n).durable ⊎ IsLast serial (powered o stops n).durable)
    ready_disk o may = ((powered_ready o stops s n may sound.kept).disk, (powered_kept (preparing serial) (preparing_keeps serial) o stops s n a sound.kept tt may h).0)

    -- rows of a boot, with what closes it
    closed : (o : Outturn) → MayTurnOut n o → (back : List Line) → ArePlain back → SettledThere a (lines_of_rows (boot_rows s (powered o stops n)) ++ back) → ⊥
    closed o may back plain t = elim (split_settled a (lines_of_rows (boot_rows s (powered o stops n))) back t) [
      | inl front ↦ (let r = ready_disk o may in boot_all s (powered o stops n) a r.0 r.1 front)
      | inr behind ↦ plain_settled _ back plain behind
    ]

    boot_cut : (o : Outturn) → MayTurnOut n o → (j : ℕ) (q : Option Line) (cause : Cause) → SettledThere a (lines_of_rows (take j (rows_if q (boot_rows s (powered o stops n)))) ++ line.Down (powered o stops n).name cause ∷ []) → ⊥
    boot_cut o may j q cause t = elim (split_settled a (lines_of_rows (take j (rows_if q (boot_rows s (powered o stops n))))) (line.Down (powered o stops n).name cause ∷ []) t) [
      | inl front ↦ cut q j front
      | inr behind ↦ plain_settled _ (line.Down (powered o stops n).name cause ∷ []) (refl, tt) behind
    ]
      where
        cut : (q : Option Line) (j : ℕ) → SettledThere a (lines_of_rows (take j (rows_if q (boot_rows s (powered o stops n))))) → ⊥
        cut None j front = let r = ready_disk o may in boot_settled s (powered o stops n) a r.0 r.1 j front
        cut (Some refusal) zero front = plain_settled a [] tt front
        cut (Some refusal) (suc j) front = plain_settled a [] tt front

    boot_request : (c : Choice) → TaskAllowed s stops n (Serves Boot) rises c → SettledThere a (task_effect s stops n (Serves Boot) c).lines → ⊥
    boot_request (Whole o) may t = first (refused_before_reading s n (service Boot)) t
      where
        late : (q : Option Line) → SettledThere a (begun s (powered o stops n) (service Boot) q).lines → ⊥
        late (Some refusal) u = plain_settled a [] tt u
        late None u = closed o may (answers.prepared_lines (powered o stops n)) (closing_plain (powered o stops n) (Serves Boot)) u

        first : (q : Option Line) → SettledThere a (whole s n (powered o stops n) (service Boot) q).lines → ⊥
        first (Some refusal) u = plain_settled a [] tt u
        first None u = late ((service Boot).refused_after_reading s (powered o stops n)) u
    boot_request WithoutMemory may t = plain_settled a [] tt t
    boot_request Unpowered may t = plain_settled a (line.Down n.name line.Failed ∷ []) (refl, tt) t
    boot_request (Cut o j b cause) may t = boot_cut o may.2 j ((service Boot).refused_after_reading s (powered o stops n)) cause t

    restart_settled : (c : Choice) → TaskAllowed s stops n Restarts rises c → SettledThere a (task_effect s stops n Restarts c).lines → ⊥
    restart_settled (Whole o) may t = first (refused_before_reading s n (task_service Restarts)) t
      where
        late : (q : Option Line) → SettledThere a (begun s (powered o stops n) (task_service Restarts) q).lines → ⊥
        late (Some refusal) u = plain_settled a [] tt u
        late None u = closed o may (answers.prepared_lines (powered o stops n) ++ line.Booted (powered o stops n).name ((powered o stops n).durable.boot + 1) ∷ []) (closing_plain (powered o stops n) Restarts) u

        first : (q : Option Line) → SettledThere a (whole s n (powered o stops n) (task_service Restarts) q).lines → ⊥
        first (Some refusal) u = plain_settled a [] tt u
        first None u = late ((task_service Restarts).refused_after_reading s (powered o stops n)) u
    restart_settled WithoutMemory may t = plain_settled a [] tt t
    restart_settled Unpowered may t = plain_settled a (line.Down n.name line.Failed ∷ []) (refl, tt) t
    restart_settled (Cut o j b cause) may t = boot_cut o may.2 j ((task_service Restarts).refused_after_reading s (powered o stops n)) cause t

    -- Any task.

    pub record ToldThere (t : Task) (x : Settlement) : Type 0 where
      pub key : BranchKey
      pub outcome_is : Outcome
      pub reason_is : Reason
      pub moment : ℕ
      pub is : x ≡ settlement key outcome_is reason_is moment
      pub by : IsToldBy t key outcome_is reason_is

    pub task_settled : (t : Task) (c : Choice) → TaskAllowed s stops n t rises c → (p : SettledThere a (task_effect s stops n t c).lines) → ToldThere t p.it
    task_settled t c may p = go (powers (task_service t)) refl
      where
        there : In p.this (task_effect s stops n t c).lines
        there = subst (In p.this) (sym p.stands) (here_in p.front p.this p.behind)

        request_power : (r : Request) → powers (service r) ≡ true → TaskAllowed s stops n (Serves r) rises c → (q : SettledThere a (task_effect s stops n (Serves r) c).lines) → ⊥
        request_power Boot on may q = boot_request c may q
        request_power (Init slots journal) on may q = (effect_caused s stops n (Serves (Init slots journal)) c q.this q.it (subst (In q.this) (sym q.stands) (here_in q.front q.this q.behind)) q.shows).5
        request_power _ on may q = let no : ⊥ = cc in no

        booting : (t : Task) → powers (task_service t) ≡ true → TaskAllowed s stops n t rises c → SettledThere a (task_effect s stops n t c).lines → ⊥
        booting (Serves r) on may q = request_power r on may q
        booting Restarts on may q = restart_settled c may q
        booting _ on may q = let no : ⊥ = cc in no

        not_refused : In p.this (task_effect s stops n t c).lines → refused_before_reading s n (task_service t) ≡ None
        not_refused i = by (outcome s stops n t rises c may)
          where
            by : tasks.Outcome s stops n t rises (task_effect s stops n t c) → refused_before_reading s n (task_service t) ≡ None
            by (First refusal first is) = absurd (subst (λ (e : TaskEffect). In p.this e.lines) is i)
            by (Late o refusal m first late is) = first
            by (Success o m first late is) = first
            by (Lacking first takes is) = first
            by (Failing cause shown on first rose lines down is ends) = first

        quiet : (k : BranchKey) (o : Outcome) (reason : Reason) (moment : ℕ) → p.this ≡ settled_line k o reason moment → powers (task_service t) ≡ false → n.up ≡ true → TaskCause s n t k o reason → ToldThere t p.it
        quiet k o reason moment is off up cause = by (settler s n t k o reason cause)
          where
            it_is : p.it ≡ settlement k o reason moment
            it_is = Rattle.run_said.proofs.run_model.NodeLists.some_is p.it (settlement k o reason moment) (sym p.shows ∙ ap shown_in is ∙ shown_settles k o reason moment)

            serial_is : k.serial ≡ serial
            serial_is = ap (λ (y : Settlement). y.serial) (sym it_is) ∙ p.same

            told_before : a ≡ true
            told_before = elim (cases_Bool a) [
              | inl is_told ↦ is_told
              | inr none ↦ absurd (unvoted_settled (task_effect s stops n t c).lines (λ tid i. cause_other s stops n t c k o reason (λ b x i j e. one_branch n.volatile.branches b x (differ n (sound.kept.runs up).0.table) i j e) off cause (line.Prepared tid serial) refl i) (subst (λ b. SettledThere b (task_effect s stops n t c).lines) none p))
            ]

            in_table : IsIn serial n.volatile.branches
            in_table = (h.runs up).0 told_before

            by : Settler n t k o reason → ToldThere t p.it
            by (Opened x) =
                let one = one_branch n.volatile.branches in_table.0 x.branch (differ n (sound.kept.runs up).0.table) in_table.1 x.there (in_table.3 ∙ sym (ap (λ (j : BranchKey). j.serial) x.key ∙ serial_is)) in
                absurd (both_ways (is_prepared x.branch.state) x.unprepared (ap (λ (y : Branch). is_prepared y.state) (sym one) ∙ in_table.2))
            by (ToldSo m) = record { key = k; outcome_is = o; reason_is = reason; moment = moment; is = it_is; by = m }
            by (MadeNow e) =
                let new : in_table.0.key.serial ≡ next_id n = in_table.3 ∙ sym serial_is ∙ ap (λ (j : BranchKey). j.serial) e in
                let d = branch_drawn n (sound.kept.runs up).0.table (next_id n) (subst (λ y. In y (table.branch_serials n.volatile.branches)) new (in_serials in_table.0 n.volatile.branches in_table.1)) in
                absurd (elim d.1 [ inl low ↦ omega (arith, low) | inr here ↦ (let low = here.1 in omega (arith, low)) ])
            by (Undone on) = absurd (both_ways (powers (task_service t)) off on)

        go : (b : Bool) → powers (task_service t) ≡ b → ToldThere t p.it
        go true on = absurd (booting t on may p)
        go false off =
            let r = effect_caused s stops n t c p.this p.it there p.shows in
            quiet r.0 r.1 r.2 r.3 r.4 off (cause_up s n t r.0 r.1 r.2 off r.5 (not_refused there)) r.5
