-- What an END_TRANS that a failure ended leaves of the first branch: where it is committed, that is the last settlement of its disk.
use Rattle.std.proofs.Common.{◌≡◌, ℕ, zero, suc, ◌⊎◌, List, [], ◌∷◌, ◌++◌, take, drop, inl, inr, Bool, true, false, not, ◌&&◌, ◌||◌, Option, Some, None, if◌then◌else◌, refl, sym, ◌∙◌, ap, subst}
use Rattle.std.proofs.lemmas.Bool.{both_ways}
use Rattle.vms_model.specs.Ids.{Id}
use Rattle.vms_model.specs.Transactions.{Commit, Abort, Reason, SyncFail}
use Rattle.run_said.specs.transcript_model.Lines as line
use Rattle.run_said.specs.transcript_model.Lines.{Line, Cause}
use Rattle.run_said.specs.script_model.Statements.{At, EndTrans}
use Rattle.commit_protocol.specs.Messages as message
use Rattle.commit_protocol.specs.Messages.{LogRecord, Message, Name, RmEvent}
use Rattle.commit_protocol.specs.Table as table
use Rattle.commit_protocol.specs.Table.{Branch, State, Ending, Key as BranchKey, Settles, branch_serials, first}
use Rattle.commit_protocol.specs.Rows as rows
use Rattle.commit_protocol.specs.Rows.{all_replied, all_taken, all_voted, begins_ending, commits_if_all, ending, row, sends_all, serials, tells, to_each, which_event, joined}
use Rattle.commit_protocol.specs.World.{In}
use Rattle.run_said.specs.run_model.World as world
use Rattle.run_said.specs.run_model.World.{World, Shared, Node, Act, Settlement, Tables, acted, fallen, find_node, next_moment, shared_after, tm_of}
use Rattle.run_said.specs.run_model.Answers as answers
use Rattle.run_said.specs.run_model.Answers.{Row, Task, Serves, Service, service, task_service, refused_before_reading, branch_labelled, end_answer, in_state, is_first_active, just, made_label, powers, table_rows, told_rows, unsettled_label}
use Rattle.run_said.specs.run_model.Steps.{Choice, Whole, WithoutMemory, Unpowered, Cut, TaskAllowed, act_begun, begun, node_after_rows, task_effect, whole}
use Rattle.run_said.specs.run_model.Statements.{Step, stops_at, RoseAt}
use Rattle.run_said.specs.run_model.Transcript.{Entry}
use Rattle.run_said.specs.run_model.StepLaws.{is_refusal}
use Rattle.run_said.proofs.run_model.CauseLemmas.{refuses_first}
use Rattle.run_said.proofs.run_model.NodeLists.{clash, put_node, some_is}
use Rattle.run_said.proofs.run_model.Refusing.{same_last}
use Rattle.run_said.proofs.run_model.TaskLemmas.{effect_name}
use Rattle.recovery_laws.proofs.world_laws.TableLemmas.{in_serials}
use Rattle.run_laws.specs.Causes.{WasBegun}
use Rattle.run_laws.proofs.Directed.{neither}
use Rattle.run_laws.proofs.Ending.{active_is, active_unprepared, end_row, named_branch, row_is}
use Rattle.run_laws.proofs.Keeping.{acted_durable, acted_settled, begun_act}
use Rattle.run_laws.proofs.Labelling.{label_of, refused_rest, served_up}
use Rattle.run_laws.proofs.Making.{branch_there, state_holds}
use Rattle.run_laws.proofs.Named.{Ended, Refused, Turned, Named, ended}
use Rattle.run_laws.proofs.SoundWorlds.{IsSound}

-- Acts of which at most one settles a branch.

abbrev IsQuiet : table.Act → Type 0
IsQuiet a = (moment : ℕ) → world.settlement_of a moment ≡ None

abbrev AllQuiet : List table.Act → Type 0
AllQuiet [] = Unit {0}
AllQuiet (a ∷ todo) = IsQuiet a × AllQuiet todo

abbrev OneSettles : List table.Act → Type 0
OneSettles [] = Unit {0}
OneSettles (a ∷ todo) = (IsQuiet a × OneSettles todo) ⊎ AllQuiet todo

quiet_append : (xs ys : List table.Act) → AllQuiet xs → AllQuiet ys → AllQuiet (xs ++ ys)
quiet_append [] ys h g = g
quiet_append (x ∷ xs) ys h g = (h.0, quiet_append xs ys h.1 g)

one_append : (xs ys : List table.Act) → AllQuiet xs → OneSettles ys → OneSettles (xs ++ ys)
one_append [] ys h g = g
one_append (x ∷ xs) ys h g = inl (h.0, one_append xs ys h.1 g)

sends_quiet : (ms : List Message) → AllQuiet (sends_all ms)
sends_quiet [] = tt
sends_quiet (m ∷ ms) = (λ moment. refl, sends_quiet ms)

tells_quiet : (event : RmEvent) (k : BranchKey) (xs : List Name) → AllQuiet (tells event k xs)
tells_quiet event k [] = tt
tells_quiet event k (x ∷ xs) = (λ moment. refl, tells_quiet event k xs)

ended_quiet : (b : Branch) (s : State) (o : Option Reason) → AllQuiet (rows.ended b s o)
ended_quiet b Ending o = (λ moment. refl, tt)
ended_quiet b _ o = tt

commits_one : (b : Branch) → OneSettles (commits_if_all b [])
commits_one b = go (all_voted b.accepted && all_replied b.managers)
  where
    go : (t : Bool) → OneSettles (if t then rows.commits b [] else [])
    go true = inr (quiet_append (sends_all (to_each message.Commit b.key.tid (rows.yes_of b.accepted))) _ (sends_quiet _) (quiet_append (tells message.CommitEvent b.key (table.holding b.managers)) [] (tells_quiet message.CommitEvent b.key (table.holding b.managers)) tt))
    go false = tt

end_one : (b : Branch) → OneSettles (end_row b)
end_one b = go (all_taken b.bids b.accepted)
  where
    go : (t : Bool) → OneSettles (if t then begins_ending b else rows.aborts SyncFail b)
    go true = inl (λ moment. refl, one_append (sends_all (to_each message.Prepare b.key.tid (serials b.accepted))) _ (sends_quiet _) (one_append (tells (which_event b.changed b.accepted b.managers) b.key (joined b.managers)) _ (tells_quiet (which_event b.changed b.accepted b.managers) b.key (joined b.managers)) (commits_one (ending b))))
    go false = inr (quiet_append (sends_all (rows.told_abort b.key.tid b.accepted)) _ (sends_quiet _) (quiet_append (tells message.AbortEvent b.key (rows.interested b.managers)) _ (tells_quiet message.AbortEvent b.key (rows.interested b.managers)) (ended_quiet b b.state (Some SyncFail))))

module _ (x : Id) where
  -- no commitment of the branch; and each is the last settlement
  abbrev NoCommit : Node → Type 0
  NoCommit n = (s : Settlement) → In s n.settled → s.serial ≡ x → s.outcome ≡ Commit → ⊥

  abbrev pub IsLastOf : Node → Type 0
  IsLastOf n = (s : Settlement) → In s n.settled → s.serial ≡ x → s.outcome ≡ Commit → n.durable.last ≡ Some s

  none_last : (n : Node) → NoCommit n → IsLastOf n
  none_last n h s i e c = absurd (h s i e c)

  after_so : (a : table.Act) (moment : ℕ) (n : Node) (o : Option Settlement) → world.settlement_of a moment ≡ o → ((acted (Tables a moment) n).settled ≡ world.settled_more o n.settled) × ((acted (Tables a moment) n).durable.last ≡ elim o [ Some s ↦ Some s | None ↦ n.durable.last ])
  after_so (Settles k o reason r) moment n w e = (ap (λ y. world.settled_more y n.settled) e, ap (λ y. elim y as (λ z. Option Settlement) [ Some s ↦ Some s | None ↦ n.durable.last ]) e)
  after_so (table.Undoes k) moment n w e = (ap (λ y. world.settled_more y n.settled) e, ap (λ y. elim y as (λ z. Option Settlement) [ Some s ↦ Some s | None ↦ n.durable.last ]) e)
  after_so _ moment n w e = (ap (λ y. world.settled_more y n.settled) e, ap (λ y. elim y as (λ z. Option Settlement) [ Some s ↦ Some s | None ↦ n.durable.last ]) e)

  quiet_none : (a : table.Act) (moment : ℕ) (n : Node) → IsQuiet a → NoCommit n → NoCommit (acted (Tables a moment) n)
  quiet_none a moment n q h s i e c = h s (subst (In s) (after_so a moment n None (q moment)).0 i) e c

  quiet_last : (a : table.Act) (moment : ℕ) (n : Node) → IsQuiet a → IsLastOf n → IsLastOf (acted (Tables a moment) n)
  quiet_last a moment n q h s i e c = let r = after_so a moment n None (q moment) in r.1 ∙ h s (subst (In s) r.0 i) e c

  settles_last : (a : table.Act) (moment : ℕ) (n : Node) → NoCommit n → IsLastOf (acted (Tables a moment) n)
  settles_last a moment n h s i e c = go (world.settlement_of a moment) refl
    where
      go : (o : Option Settlement) → world.settlement_of a moment ≡ o → (acted (Tables a moment) n).durable.last ≡ Some s
      go None is = absurd (h s (subst (In s) (after_so a moment n None is).0 i) e c)
      go (Some y) is = let r = after_so a moment n (Some y) is in elim (subst (In s) r.0 i) [ inl same ↦ r.1 ∙ ap Some (sym same) | inr j ↦ absurd (h s j e c) ]

  -- So it is where such rows are cut, and by what was under way then.
  abbrev CutSo : List Row → Node → ℕ → Type 0
  CutSo rs n j = IsLastOf (node_after_rows (take j rs) n) × ((b : Bool) (act : Act) → act_begun b (drop j rs) ≡ Some act → IsLastOf (acted act (node_after_rows (take j rs) n)))

  none_begun : (n : Node) (b : Bool) (j : ℕ) (act : Act) → act_begun b (drop j []) ≡ Some act → IsLastOf (acted act n)
  none_begun n false j act e = let no : ⊥ = cc in absurd no
  none_begun n true zero act e = let no : ⊥ = cc in absurd no
  none_begun n true (suc j) act e = let no : ⊥ = cc in absurd no

  first_begun : (b : Bool) (r : Row) (rs : List Row) (act : Act) → act_begun b (r ∷ rs) ≡ Some act → r.act ≡ Some act
  first_begun false r rs act e = let no : ⊥ = cc in absurd no
  first_begun true r rs act e = (begun_act r.act act e).0

  quiet_cut : (todo : List table.Act) (s : Shared) (n : Node) (j : ℕ) → AllQuiet todo → IsLastOf n → CutSo (table_rows todo s n) n j
  quiet_cut [] s n zero q h = (h, λ b act e. none_begun n b zero act e)
  quiet_cut [] s n (suc j) q h = (h, λ b act e. none_begun n b (suc j) act e)
  quiet_cut (a ∷ todo) s n zero q h = (h, λ b act e. subst (λ y. IsLastOf (acted y n)) (some_is (Tables a (next_moment n)) act (first_begun b _ _ act e)) (quiet_last a (next_moment n) n q.0 h))
  quiet_cut (a ∷ todo) s n (suc j) q h = quiet_cut todo (shared_after (Tables a (next_moment n)) s) (acted (Tables a (next_moment n)) n) j q.1 (quiet_last a (next_moment n) n q.0 h)

  one_cut : (todo : List table.Act) (s : Shared) (n : Node) (j : ℕ) → OneSettles todo → NoCommit n → CutSo (table_rows todo s n) n j
  one_cut [] s n zero q h = (none_last n h, λ b act e. none_begun n b zero act e)
  one_cut [] s n (suc j) q h = (none_last n h, λ b act e. none_begun n b (suc j) act e)
  one_cut (a ∷ todo) s n zero q h = (none_last n h, λ b act e. subst (λ y. IsLastOf (acted y n)) (some_is (Tables a (next_moment n)) act (first_begun b _ _ act e)) (settles_last a (next_moment n) n h))
  one_cut (a ∷ todo) s n (suc j) (inl q) h = one_cut todo (shared_after (Tables a (next_moment n)) s) (acted (Tables a (next_moment n)) n) j q.1 (quiet_none a (next_moment n) n q.0 h)
  one_cut (a ∷ todo) s n (suc j) (inr q) h = quiet_cut todo (shared_after (Tables a (next_moment n)) s) (acted (Tables a (next_moment n)) n) j q (settles_last a (next_moment n) n h)

  pub fallen_last : (act : Act) (o : Option Act) (n : Node) → IsLastOf (acted act n) → IsLastOf (acted act (fallen o n))
  fallen_last act o n h s i e c =
      ap (λ (d : world.Durable). d.last) (acted_durable act (fallen o n) ∙ sym (acted_durable act n)) ∙ h s (subst (In s) (acted_settled act (fallen o n) ∙ sym (acted_settled act n)) i) e c

-- An END_TRANS that is whole is not answered so.
end_unbroken : (todo : List table.Act) (given : Line) (cause : Cause) → (given ≡ line.Broken cause → ⊥) → end_answer todo given ≡ line.Broken cause → ⊥
end_unbroken [] given cause h e = h e
end_unbroken (table.Notes b ∷ todo) given cause h e = end_unbroken todo (line.Pending (answers.missing b.accepted) (answers.unreplied b.managers)) cause (λ k. let no : ⊥ = cc in no) e
end_unbroken (Settles k Commit reason r ∷ todo) given cause h e = let no : ⊥ = cc in no
end_unbroken (Settles k Abort reason r ∷ todo) given cause h e = let no : ⊥ = cc in no
end_unbroken (_ ∷ todo) given cause h e = end_unbroken todo given cause h e

-- What it leaves.
pub record FellEnding (before : List Entry) (node label : List ℕ) (v : World) : Type 0 where
  pub tid : Id
  pub begun : WasBegun before node label tid
  pub home : tid.node ≡ node
  pub m : Node
  pub found : find_node tid.node v.nodes ≡ Some m
  pub down : m.up ≡ false
  pub last : IsLastOf tid m
  pub way : (act : Act) → m.under_way ≡ Some act → IsLastOf tid (acted act m)

pub ending_falls : (before : List Entry) (w v : World) (node label : List ℕ) (events : List Line) (cause : Cause) → IsSound w → Named before w → Step w (At node (EndTrans label)) (events ++ line.Broken cause ∷ []) v → FellEnding before node label v
ending_falls before w v node label events cause sound h step = go (ended w v (At node (EndTrans label)) (events ++ line.Broken cause ∷ []) node (Serves (EndTrans label)) refl step)
  where
    go : Ended w v node (Serves (EndTrans label)) (events ++ line.Broken cause ∷ []) → FellEnding before node label v
    go (Refused refusal r shows goes) = absurd (clash _ (ap is_refusal (same_last events [] (line.Broken cause) refusal shows).1 ∙ r) refl)
    go (Turned n found c allowed shows goes) = by c allowed (same_last events (task_effect w.shared (stops_at node w) n (Serves (EndTrans label)) c).lines (line.Broken cause) (task_effect w.shared (stops_at node w) n (Serves (EndTrans label)) c).answer shows).1 goes
      where
        e : Service
        e = service (EndTrans label)

        answered : (o : Option Branch) → elim o as (λ y. Line) [ Some b ↦ end_answer (row (tm_of n) (rows.EndTrans b.key.tid)) line.Normal | None ↦ line.Normal ] ≡ line.Broken cause → ⊥
        answered (Some b) k = end_unbroken (row (tm_of n) (rows.EndTrans b.key.tid)) line.Normal cause (λ q. let no : ⊥ = cc in no) k
        answered None k = let no : ⊥ = cc in no

        late : (o : Option Line) → (service (EndTrans label)).refused_after_reading w.shared n ≡ o → (begun w.shared n (service (EndTrans label)) o).answer ≡ line.Broken cause → ⊥
        late (Some refusal) is k = let no : ⊥ = cc in no
        late None is k = answered (branch_labelled w.shared n label) k

        first_refused : (o : Option Line) → refused_before_reading w.shared n (service (EndTrans label)) ≡ o → (whole w.shared n n (service (EndTrans label)) o).answer ≡ line.Broken cause → ⊥
        first_refused (Some refusal) is k = both_ways (is_refusal (line.Broken cause)) refl (ap is_refusal (sym k) ∙ (refuses_first w.shared n (Serves (EndTrans label))).says refusal is)
        first_refused None is k = late ((service (EndTrans label)).refused_after_reading w.shared n) refl k

        by : (c : Choice) → TaskAllowed w.shared (stops_at node w) n (Serves (EndTrans label)) (λ cause. RoseAt w node cause v.disks) c → line.Broken cause ≡ (task_effect w.shared (stops_at node w) n (Serves (EndTrans label)) c).answer →
            v ≡ record (Rattle.run_said.specs.run_model.Statements.put_into w node (task_effect w.shared (stops_at node w) n (Serves (EndTrans label)) c)).world { disks = v.disks } → FellEnding before node label v
        by (Whole o) may k goes = absurd (first_refused (refused_before_reading w.shared n (service (EndTrans label))) refl (sym k))
        by WithoutMemory may k goes = let no : ⊥ = cc in absurd no
        by Unpowered may k goes = absurd (clash _ may.1 refl)
        by (Cut o j started why) may k goes =
            record {
              tid = b.key.tid;
              begun = nb.begun same;
              home = home;
              m = (task_effect w.shared (stops_at node w) n (Serves (EndTrans label)) (Cut o j started why)).node;
              found = ap (λ name. find_node name v.nodes) home ∙ ap (λ (y : World). find_node node y.nodes) goes ∙ put_node node n (task_effect w.shared (stops_at node w) n (Serves (EndTrans label)) (Cut o j started why)).node w.nodes (effect_name w.shared (stops_at node w) n (Serves (EndTrans label)) (Cut o j started why)) found;
              down = refl;
              last = so.0;
              way = λ act is. fallen_last (there.0).key.tid act (act_begun started (drop j ((service (EndTrans label)).rows w.shared n))) (node_after_rows (take j ((service (EndTrans label)).rows w.shared n)) n) (so.1 started act is);
            }
          where
            states : (unsettled_label w.shared n label ≡ None) × (in_state is_first_active (branch_labelled w.shared n label) ≡ None)
            states = neither (unsettled_label w.shared n label) _ (neither (made_label w.shared n label) _ (refused_rest (not (n.up || false)) _ may.0)).1

            there : (b : Branch) × (branch_labelled w.shared n label ≡ Some b)
            there = branch_there (branch_labelled w.shared n label) states.0

            b : Branch
            b = there.0

            active : is_first_active (there.0) ≡ true
            active = state_holds is_first_active (branch_labelled w.shared n label) there.0 there.1 states.1

            a : ((there.0).key ≡ first (there.0).key.tid) × ((there.0).state ≡ table.Active)
            a = active_is there.0 active

            nb : Rattle.run_laws.proofs.Ending.NamedBranch before node label there.0
            nb = named_branch before w node label n there.0 h found there.1 (active_unprepared there.0 a.1)

            same : (there.0).key.tid ≡ (there.0).key.serial
            same = sym (ap (λ (k : BranchKey). k.serial) a.0)

            home : (there.0).key.tid.node ≡ node
            home = ap (λ (x : Id). x.node) same ∙ nb.home

            up : n.up ≡ true
            up = served_up n _ may.0

            in_table : In (there.0).key.tid (branch_serials n.volatile.branches)
            in_table = subst (λ y. In y (branch_serials n.volatile.branches)) (sym same) (in_serials there.0 n.volatile.branches (label_of w.shared n label there.0 there.1).branch)

            none : (s : Settlement) → In s n.settled → s.serial ≡ (there.0).key.tid → s.outcome ≡ Commit → ⊥
            none s i q c = ((sound.once node n found).runs up).apart s i (subst (λ y. In y (branch_serials n.volatile.branches)) (sym q) in_table)

            rows_so : (service (EndTrans label)).rows w.shared n ≡ table_rows (end_row there.0) w.shared n
            rows_so = ap (λ (o : Option Branch). elim o as (λ y. List Row) [ Some x ↦ told_rows w.shared n (just (rows.EndTrans x.key.tid)) | None ↦ [] ]) there.1 ∙ ap (λ todo. table_rows todo w.shared n) (row_is n there.0 (label_of w.shared n label there.0 there.1).finds active)

            so : CutSo (there.0).key.tid ((service (EndTrans label)).rows w.shared n) n j
            so = subst (λ rs. CutSo (there.0).key.tid rs n j) (sym rows_so) (one_cut (there.0).key.tid (end_row there.0) w.shared n j (end_one there.0) none)
