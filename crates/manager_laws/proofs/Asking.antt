-- An END_TRANS that is answered that something is missing names just the resource managers that it asks.
use Rattle.std.proofs.Common.{◌≡◌, ◌⊎◌, ◌+◌, Bool, true, false, ◌&&◌, List, [], ◌∷◌, ◌++◌, inl, inr, Option, Some, None, if◌then◌else◌, refl, sym, ◌∙◌, ap, subst}
use Rattle.std.specs.Prelude.{length, nat_lt}
use Rattle.vms_model.specs.Ids.{Id}
use Rattle.vms_model.specs.Transactions.{SyncFail}
use Rattle.vms_model.specs.Limits.{message_limit}
use Rattle.world_laws.specs.transcript_model.Lines as line
use Rattle.world_laws.specs.transcript_model.Lines.{Line}
use Rattle.world_laws.specs.script_model.Statements.{At, EndTrans}
use Rattle.commit_protocol.specs.Messages as message
use Rattle.commit_protocol.specs.Messages.{Message, Name, OnePhaseEvent, PrepareEvent, RmEvent}
use Rattle.commit_protocol.specs.Table as table
use Rattle.commit_protocol.specs.Table.{Branch, Child, Key as BranchKey, Manager, Notes, Prints, Sends, first}
use Rattle.commit_protocol.specs.Rows as rows
use Rattle.commit_protocol.specs.Rows.{all_replied, all_voted, asks, begins_ending, commits_if_all, ending, joined, sends_all, tells, to_each, which_event}
use Rattle.commit_protocol.specs.World.{In}
use Rattle.commit_protocol.proofs.Lists.{in_left, in_right}
use Rattle.world_laws.specs.run_model.World.{Node, Shared, Tables, acted, next_moment, shared_after}
use Rattle.world_laws.specs.run_model.Answers as answers
use Rattle.world_laws.specs.run_model.Answers.{Row, branch_labelled, is_declared, just, service, table_rows, told_rows}
use Rattle.world_laws.specs.run_model.Steps.{lines_of_rows}
use Rattle.run_laws.proofs.Ending.{active_is, active_unprepared, done, end_lists, end_row, ends_waiting, row_is, standing}
use Rattle.run_laws.proofs.Labelling.{label_of, served_up}
use Rattle.manager_laws.specs.Asking.{IsAsked, PendingAskedHold}
use Rattle.manager_laws.proofs.Declared.{joined_declared}

-- Managers.

-- none of those that are asked has replied
pub asked_names : (e : RmEvent) (ms : List Manager) → answers.unreplied (asks e ms) ≡ joined ms
asked_names e [] = refl
asked_names e (m ∷ ms) = ap (λ xs. m.rm ∷ xs) (asked_names e ms)

pub joined_in : (ms : List Manager) (rm : Name) → In rm (joined ms) → (m : Manager) × In m ms × (m.rm ≡ rm)
joined_in [] rm i = absurd i
joined_in (m ∷ ms) rm (inl same) = (m, inl refl, sym same)
joined_in (m ∷ ms) rm (inr i) = let r = joined_in ms rm i in (r.0, inr r.1, r.2)

asking : (changed : Bool) (cs : List Child) (ms : List Manager) → (which_event changed cs ms ≡ PrepareEvent) ⊎ (which_event changed cs ms ≡ OnePhaseEvent)
asking true cs ms = inl refl
asking false (c ∷ cs) ms = inl refl
asking false [] [] = inl refl
asking false [] (m ∷ []) = inr refl
asking false [] (m ∷ n ∷ ms) = inl refl

-- Acts.

tells_in : (e : RmEvent) (k : BranchKey) (xs : List Name) (rm : Name) → In rm xs → In (Prints (table.Told e k rm)) (tells e k xs)
tells_in e k [] rm i = absurd i
tells_in e k (x ∷ xs) rm (inl same) = inl (ap (λ y. Prints (table.Told e k y)) same)
tells_in e k (x ∷ xs) rm (inr i) = inr (tells_in e k xs rm i)

-- what is told to a manager that is declared is shown
told_shown : (todo : List table.Act) (s : Shared) (n : Node) (e : RmEvent) (k : BranchKey) (rm : Name) → is_declared n rm ≡ true → In (Prints (table.Told e k rm)) todo → In (line.ManagerTold e k.tid k.serial rm) (lines_of_rows (table_rows todo s n))
told_shown [] s n e k rm declared i = absurd i
told_shown (a ∷ todo) s n e k rm declared (inl same) = subst (λ (y : table.Act). In (line.ManagerTold e k.tid k.serial rm) (lines_of_rows (table_rows (y ∷ todo) s n))) same
    (in_left (line.ManagerTold e k.tid k.serial rm) (if is_declared n rm then line.ManagerTold e k.tid k.serial rm ∷ [] else []) (lines_of_rows (table_rows todo (shared_after (Tables (Prints (table.Told e k rm)) (next_moment n)) s) (acted (Tables (Prints (table.Told e k rm)) (next_moment n)) n)))
    (subst (λ t. In (line.ManagerTold e k.tid k.serial rm) (if t then line.ManagerTold e k.tid k.serial rm ∷ [] else [])) (sym declared) (inl refl)))
told_shown (a ∷ todo) s n e k rm declared (inr i) = in_right (line.ManagerTold e k.tid k.serial rm) (answers.shown_by a (next_moment n) n s) _ (told_shown todo (shared_after (Tables a (next_moment n)) s) (acted (Tables a (next_moment n)) n) e k rm declared i)

-- acts that tell these managers alone
abbrev Asks : List Name → table.Act → Type 0
Asks xs (Notes b) = Unit {0}
Asks xs (Sends m) = Unit {0}
Asks xs (Prints (table.Told e k rm)) = In rm xs
Asks xs _ = ⊥

abbrev AllAsk : List Name → List table.Act → Type 0
AllAsk xs [] = Unit {0}
AllAsk xs (a ∷ todo) = Asks xs a × AllAsk xs todo

append_asks : (xs : List Name) (todo more : List table.Act) → AllAsk xs todo → AllAsk xs more → AllAsk xs (todo ++ more)
append_asks xs [] more h g = g
append_asks xs (a ∷ todo) more h g = (h.0, append_asks xs todo more h.1 g)

sends_ask : (xs : List Name) (ms : List Message) → AllAsk xs (sends_all ms)
sends_ask xs [] = tt
sends_ask xs (m ∷ ms) = (tt, sends_ask xs ms)

tells_ask : (all : List Name) (e : RmEvent) (k : BranchKey) (xs : List Name) → ((rm : Name) → In rm xs → In rm all) → AllAsk all (tells e k xs)
tells_ask all e k [] f = tt
tells_ask all e k (x ∷ xs) f = (f x (inl refl), tells_ask all e k xs (λ rm i. f rm (inr i)))

shown_asked : (xs : List Name) (todo : List table.Act) (s : Shared) (n : Node) → AllAsk xs todo → (event : RmEvent) (t serial : Id) (rm : Name) → In (line.ManagerTold event t serial rm) (lines_of_rows (table_rows todo s n)) → In rm xs
shown_asked xs [] s n h event t serial rm i = absurd i
shown_asked xs (a ∷ todo) s n h event t serial rm i = go a h.0 i (shown_asked xs todo (shared_after (Tables a (next_moment n)) s) (acted (Tables a (next_moment n)) n) h.1 event t serial rm)
  where
    told : Line
    told = line.ManagerTold event t serial rm

    sent : (b : Bool) (m : Message) (rest : List Line) → In (line.ManagerTold event t serial rm) ((if b then line.Sent (length s.wire + 1) m else line.Unsent m) ∷ rest) → In (line.ManagerTold event t serial rm) rest
    sent true m rest (inl same) = let no : ⊥ = cc in absurd no
    sent false m rest (inl same) = let no : ⊥ = cc in absurd no
    sent b m rest (inr j) = j

    shows : (b : Bool) (e : RmEvent) (k : BranchKey) (x : Name) (rest : List Line) → In x xs → In (line.ManagerTold event t serial rm) ((if b then line.ManagerTold e k.tid k.serial x ∷ [] else []) ++ rest) → (In (line.ManagerTold event t serial rm) rest → In rm xs) → In rm xs
    shows true e k x rest there (inl same) more = let name : rm ≡ x = cc in subst (λ y. In y xs) (sym name) there
    shows true e k x rest there (inr j) more = more j
    shows false e k x rest there j more = more j

    go : (a : table.Act) → Asks xs a → In (line.ManagerTold event t serial rm) (answers.shown_by a (next_moment n) n s ++ lines_of_rows (table_rows todo (shared_after (Tables a (next_moment n)) s) (acted (Tables a (next_moment n)) n))) →
        (In (line.ManagerTold event t serial rm) (lines_of_rows (table_rows todo (shared_after (Tables a (next_moment n)) s) (acted (Tables a (next_moment n)) n))) → In rm xs) → In rm xs
    go (Notes b) q j more = more j
    go (Sends m) q j more = more (sent (nat_lt (length s.wire) message_limit) m _ j)
    go (Prints (table.Told e k x)) q j more = shows (is_declared n x) e k x _ q j more
    go _ q j more = absurd q

-- The law.

-- nothing is committed where something is missing
uncommitted : (b : Branch) → (all_voted b.accepted ≡ true → all_replied (ending b).managers ≡ true → ⊥) → commits_if_all (ending b) [] ≡ []
uncommitted b never = go (all_voted b.accepted) (all_replied (ending b).managers) refl refl
  where
    go : (t u : Bool) → all_voted b.accepted ≡ t → all_replied (ending b).managers ≡ u → (if t && u then rows.commits (ending b) [] else []) ≡ []
    go true true v r = absurd (never v r)
    go false u v r = refl
    go true false v r = refl

pub pending_asked : PendingAskedHold
pending_asked nodes disks es closing opening legal before node label events serials rms there =
    let s = standing nodes disks es before (At node (EndTrans label)) events (line.Pending serials rms) closing opening legal there in
    let d = done s.w s.v node (EndTrans label) events (line.Pending serials rms) refl refl refl refl (λ cause e. let no : ⊥ = cc in no) s.step in
    let r = ends_waiting before s.w s.v node label events (line.Pending serials rms) s.named d serials rms refl in
    let b = r.0 in
    let a = active_is b r.2 in
    let l = label_of s.w.shared d.n label b r.1 in
    let lists = end_lists b serials rms r.5 in
    let event = which_event b.changed b.accepted b.managers in
    let names : rms ≡ joined b.managers = lists.1 ∙ asked_names event b.managers in
    let same : b.key.serial ≡ b.key.tid = ap (λ (k : BranchKey). k.serial) a.0 in
    let sent = sends_all (to_each message.Prepare b.key.tid (rows.serials b.accepted)) in
    let acts : end_row b ≡ Notes (ending b) ∷ (sent ++ (tells event b.key (joined b.managers) ++ [])) =
    ap (λ t. if t then begins_ending b else rows.aborts SyncFail b) r.4 ∙ ap (λ (more : List table.Act). Notes (ending b) ∷ (sent ++ (tells event b.key (joined b.managers) ++ more))) (uncommitted b lists.2) in
    let rows_so : (service (EndTrans label)).rows s.w.shared d.n ≡ table_rows (Notes (ending b) ∷ (sent ++ (tells event b.key (joined b.managers) ++ []))) s.w.shared d.n =
    ap (λ (o : Option Branch). elim o as (λ y. List Row) [ Some y ↦ told_rows s.w.shared d.n (just (rows.EndTrans y.key.tid)) | None ↦ [] ]) r.1 ∙ ap (λ todo. table_rows todo s.w.shared d.n) (row_is d.n b l.finds r.2 ∙ acts) in
    let lines_so : events ≡ lines_of_rows (table_rows (Notes (ending b) ∷ (sent ++ (tells event b.key (joined b.managers) ++ []))) s.w.shared d.n) ++ [] = d.shows ∙ ap (λ rs. lines_of_rows rs ++ []) rows_so in (
      b.key.tid,
      r.3,
      λ rm i.
          let named = subst (In rm) names i in
          let m = joined_in b.managers rm named in
          let declared : is_declared d.n rm ≡ true = subst (λ y. is_declared d.n y ≡ true) m.2 (joined_declared nodes disks before s.w opening s.legal node d.n d.found (served_up d.n _ d.first) b l.branch (active_unprepared b a.1) m.0 m.1) in
          let act : In (Prints (table.Told event b.key rm)) (Notes (ending b) ∷ (sent ++ (tells event b.key (joined b.managers) ++ []))) = inr (in_right _ sent (tells event b.key (joined b.managers) ++ []) (in_left _ (tells event b.key (joined b.managers)) [] (tells_in event b.key (joined b.managers) rm named))) in
          let shown : In (line.ManagerTold event b.key.tid b.key.serial rm) events = subst (In (line.ManagerTold event b.key.tid b.key.serial rm)) (sym lines_so) (in_left _ (lines_of_rows (table_rows (Notes (ending b) ∷ (sent ++ (tells event b.key (joined b.managers) ++ []))) s.w.shared d.n)) [] (told_shown (Notes (ending b) ∷ (sent ++ (tells event b.key (joined b.managers) ++ []))) s.w.shared d.n event b.key rm declared act)) in
          of_event b.key.tid rm events event (asking b.changed b.accepted b.managers) (subst (λ y. In (line.ManagerTold event b.key.tid y rm) events) same shown),
      λ e t serial rm i. subst (In rm) (sym names) (shown_asked (joined b.managers) (Notes (ending b) ∷ (sent ++ (tells event b.key (joined b.managers) ++ []))) s.w.shared d.n
          (tt, append_asks (joined b.managers) sent (tells event b.key (joined b.managers) ++ []) (sends_ask (joined b.managers) (to_each message.Prepare b.key.tid (rows.serials b.accepted))) (append_asks (joined b.managers) (tells event b.key (joined b.managers)) [] (tells_ask (joined b.managers) event b.key (joined b.managers) (λ y j. j)) tt))
          e t serial rm (back (line.ManagerTold e t serial rm) (lines_of_rows (table_rows (Notes (ending b) ∷ (sent ++ (tells event b.key (joined b.managers) ++ []))) s.w.shared d.n)) (subst (In (line.ManagerTold e t serial rm)) lines_so i))),
    )
  where
    of_event : (tid : Id) (rm : Name) (events : List Line) (event : RmEvent) → (event ≡ PrepareEvent) ⊎ (event ≡ OnePhaseEvent) → In (line.ManagerTold event tid tid rm) events → IsAsked tid rm events
    of_event tid rm events event (inl is) i = inl (subst (λ v. In (line.ManagerTold v tid tid rm) events) is i)
    of_event tid rm events event (inr is) i = inr (subst (λ v. In (line.ManagerTold v tid tid rm) events) is i)

    back : (l : Line) (ls : List Line) → In l (ls ++ []) → In l ls
    back l [] i = i
    back l (x ∷ ls) (inl same) = inl same
    back l (x ∷ ls) (inr i) = inr (back l ls i)
