-- Each resource manager that has joined a branch which is not prepared is declared.
use Rattle.std.proofs.Common.{◌≡◌, ℕ, Bool, true, false, not, ◌||◌, List, [], ◌∷◌, ◌++◌, map, inl, inr, Option, Some, None, if◌then◌else◌, refl, sym, ◌∙◌, ap, subst}
use Rattle.std.specs.List.{list_any}
use Rattle.std.specs.Prelude.{is_some}
use Rattle.std.proofs.lemmas.Bool.{both_ways}
use Rattle.vms_model.specs.Ids.{Id}
use Rattle.world_laws.specs.transcript_model.Lines as line
use Rattle.world_laws.specs.transcript_model.Lines.{Line, Cause}
use Rattle.world_laws.specs.script_model.Statements.{Request, Init, Boot, StartTrans, StartBranch, DeclareRm, JoinRm, AckEvent, ForgetRm, Fuse, Clock}
use Rattle.records_model.specs.History.{same_id}
use Rattle.commit_protocol.specs.Messages as message
use Rattle.commit_protocol.specs.Messages.{LogRecord, Message, Name, Reply, RmEvent, same_name}
use Rattle.commit_protocol.specs.Table as table
use Rattle.commit_protocol.specs.Table.{Branch, Manager, Prepared, branches_of, table_after, without_rm}
use Rattle.commit_protocol.specs.Rows.{asks, note_reply, with_manager, with_reply}
use Rattle.commit_protocol.specs.Allowed.{is_prepared}
use Rattle.commit_protocol.specs.World.{In, undo_all}
use Rattle.commit_protocol.proofs.Lists.{in_parts, same_name-eq, same_name-ne, same_name-true}
use Rattle.world_laws.specs.run_model.World as world
use Rattle.world_laws.specs.run_model.World.{Act, IsOpening, Node, Shared, Tables, acted, next_id, next_moment, powered, prepared_left, shared_after, with_changed}
use Rattle.world_laws.specs.run_model.Operations.{refused_if}
use Rattle.world_laws.specs.run_model.Answers as answers
use Rattle.world_laws.specs.run_model.Answers.{Hears, LosesLink, Restarts, Row, RunsDown, Serves, Service, Takes, Task, Ticks, boot_rows, has_joined, is_declared, left_active, powers, refused_before_reading, service, table_rows, task_service, unit_key}
use Rattle.world_laws.specs.run_model.Steps.{Choice, TaskAllowed, TaskEffect, node_after, node_after_rows, ready_node, succeeded, task_effect, with_unknown_volume}
use Rattle.world_laws.proofs.run_model.TaskLemmas.{Failing, First, Lacking, Late, Outcome, Success, outcome}
use Rattle.world_laws.proofs.run_model.Refusing.{not_ready}
use Rattle.world_laws.specs.Nodes.{IsKeptNode}
use Rattle.world_laws.proofs.AnswerLemmas.{neither, not_refused}
use Rattle.world_laws.proofs.BootLemmas.{branch_in}
use Rattle.world_laws.proofs.NodeLemmas.{powered_ready}
use Rattle.run_laws.proofs.Keeping.{behind_down, node_down}
use Rattle.run_laws.proofs.Moving.{in_cut, in_put}
use Rattle.run_laws.proofs.SoundWorlds.{IsSoundNode}
use Rattle.manager_laws.specs.Joined.{AreDeclared, JoinedAreDeclared}
use Rattle.manager_laws.proofs.Taking.{HoldsIn, IsSteady, VoteHolds}
use Rattle.manager_laws.proofs.TasksTake.{AllSo, RowHolds, RowsHold, TaskHolds, task_holds}
use Rattle.manager_laws.proofs.Worlds.{in_all_worlds}

-- a manager is among these
abbrev IsAmong : List Name → Name → Type 0
IsAmong names rm = list_any (λ x. same_name x rm) names ≡ true

-- managers with the names of others
pub asked_names : (e : RmEvent) (ms : List Manager) (m : Manager) → In m (asks e ms) → (y : Manager) × In y ms × (m.rm ≡ y.rm)
asked_names e [] m i = absurd i
asked_names e (x ∷ ms) m (inl same) = (x, inl refl, ap (λ (y : Manager). y.rm) same)
asked_names e (x ∷ ms) m (inr i) = let y = asked_names e ms m i in (y.0, inr y.1, y.2)

pub noted_names : (x : Name) (r : Reply) (ms : List Manager) (m : Manager) → In m (note_reply x r ms) → (y : Manager) × In y ms × (m.rm ≡ y.rm)
noted_names x r [] m i = absurd i
noted_names x r (y ∷ ms) m i = go (same_name y.rm x) i (noted_names x r ms m)
  where
    go : (b : Bool) → In m (if b then record y { event = None; reply = Some r } ∷ ms else y ∷ note_reply x r ms) → (In m (note_reply x r ms) → (z : Manager) × In z ms × (m.rm ≡ z.rm)) → (z : Manager) × In z (y ∷ ms) × (m.rm ≡ z.rm)
    go true (inl same) more = (y, inl refl, ap (λ (z : Manager). z.rm) same)
    go true (inr j) more = (m, inr j, refl)
    go false (inl same) more = (y, inl refl, ap (λ (z : Manager). z.rm) same)
    go false (inr j) more = let z = more j in (z.0, inr z.1, z.2)

module _ (declared : List Name) where
  -- the managers of a branch that is not prepared are among these
  abbrev Within : Branch → Type 0
  Within b = is_prepared b.state ≡ false → (m : Manager) → In m b.managers → IsAmong declared m.rm

  -- and so are these among others
  abbrev Holds : List Name → Type 0
  Holds names = (x : Name) → IsAmong declared x → IsAmong names x

  within_steady : IsSteady Within
  within_steady = record {
    alike = λ b x u v off key managers accepted h p m i. h u m (subst (In m) managers i);
    asked = λ b x e asking one u v key managers accepted h p m i. let y = asked_names e b.managers m (subst (In m) managers i) in subst (IsAmong declared) (sym y.2) (h u y.0 y.1);
    accepts = λ b c h. h;
    prepares = λ b all h p. let no : ⊥ = cc in absurd no;
    changed = λ b h. h;
  }

  joined_within : (x : Name) (b : Branch) → IsAmong declared x → Within b → Within (with_manager x b)
  joined_within x b there h p m i = elim (in_parts m b.managers (record { rm = x; event = None; reply = None } ∷ []) i) [
    | inl old ↦ h p m old
    | inr new ↦ elim new [ inl same ↦ subst (IsAmong declared) (sym (ap (λ (y : Manager). y.rm) same)) there | inr none ↦ absurd none ]
  ]

  replied_within : (x : Name) (r : Reply) (b : Branch) → Within b → Within (with_reply x r b)
  replied_within x r b h p m i = let y = noted_names x r b.managers m i in subst (IsAmong declared) (sym y.2) (h p y.0 y.1)

  -- Acts.

  table_within : (a : table.Act) (bs : List Branch) → HoldsIn Within a → ((b : Branch) → In b bs → Within b) → (x : Branch) → In x (table_after a bs) → Within x
  table_within (table.Notes b) bs q h x i = elim (in_put b x bs i) [ inl same ↦ subst Within (sym same) q | inr old ↦ h x old ]
  table_within (table.Accepts b c) bs q h x i = elim (in_put (record b { accepted = b.accepted ++ c ∷ [] }) x bs i) [ inl same ↦ subst Within (sym same) q | inr old ↦ h x old ]
  table_within (table.Prepares b) bs q h x i = elim (in_put (record b { state = Prepared }) x bs i) [ inl same ↦ subst Within (sym same) (within_steady.prepares b q.1 q.0) | inr old ↦ h x old ]
  table_within (table.Settles k o reason r) bs q h x i = h x (in_cut k x bs i)
  table_within (table.Leaves k) bs q h x i = h x (in_cut k x bs i)
  table_within (table.Undoes k) bs q h x i = h x (in_cut k x bs i)
  table_within _ bs q h x i = h x i

  changed_within : (serial : Id) (bs : List Branch) → ((b : Branch) → In b bs → Within b) → (x : Branch) → In x (with_changed serial bs) → Within x
  changed_within serial [] h x i = absurd i
  changed_within serial (b ∷ bs) h x i = go (same_id serial b.key.serial) i (changed_within serial bs (λ y j. h y (inr j)) x)
    where
      go : (t : Bool) → In x (if t then record b { changed = true } ∷ bs else b ∷ with_changed serial bs) → (In x (with_changed serial bs) → Within x) → Within x
      go true (inl same) more = subst Within (sym same) (h b (inl refl))
      go true (inr j) more = h x (inr j)
      go false (inl same) more = subst Within (sym same) (h b (inl refl))
      go false (inr j) more = more j

  abbrev IsHeld : Node → Type 0
  IsHeld n = Holds n.volatile.declared × AllSo Within n

  act_within : (o : Option Act) (n : Node) → RowHolds Within Holds o → IsHeld n → IsHeld (node_after o n)
  act_within None n q h = h
  act_within (Some (Tables a moment)) n q h = (h.0, table_within a n.volatile.branches q h.1)
  act_within (Some (world.Changes tid serial file cs keys)) n q h = (h.0, changed_within serial n.volatile.branches h.1)
  act_within (Some (world.Declares rms)) n q h = (q, h.1)
  act_within (Some world.Boots) n q h = absurd q
  act_within (Some _) n q h = h

  rows_within : (rs : List Row) (n : Node) → RowsHold Within Holds rs → IsHeld n → IsHeld (node_after_rows rs n)
  rows_within [] n q h = h
  rows_within (r ∷ rs) n q h = rows_within rs (node_after r.act n) q.1 (act_within r.act n q.0 h)

  held_declared : (n : Node) → IsHeld n → AreDeclared n
  held_declared n h b i p m j = h.0 m.rm (h.1 b i p m j)

-- Tasks.

none_clash : {A X : Type 0} {x : A} → ◌≡◌ {A = Option A} None (Some x) → X
none_clash e = let no : false ≡ true = ap is_some e in let none : ⊥ = cc in absurd none

more_among : (names : List Name) (rm x : Name) → IsAmong names x → IsAmong (names ++ rm ∷ []) x
more_among [] rm x e = let no : ⊥ = cc in absurd no
more_among (y ∷ names) rm x e = go (same_name y x) e (more_among names rm x)
  where
    go : (b : Bool) → (b || list_any (λ z. same_name z x) names) ≡ true → (list_any (λ z. same_name z x) names ≡ true → IsAmong (names ++ rm ∷ []) x) → (b || list_any (λ z. same_name z x) (names ++ rm ∷ [])) ≡ true
    go true k more = refl
    go false k more = more k

less_among : (names : List Name) (rm x : Name) → (rm ≡ x → ⊥) → IsAmong names x → IsAmong (without_rm rm names) x
less_among [] rm x apart e = e
less_among (y ∷ names) rm x apart e = go (same_name y rm) refl (less_among names rm x apart)
  where
    -- the first of these is another where it goes
    other : same_name y rm ≡ true → same_name y x ≡ false
    other is = same_name-ne y x (λ same. apart (sym (same_name-true y rm is) ∙ same))

    stays : (b : Bool) → same_name y x ≡ b → (IsAmong names x → IsAmong (without_rm rm names) x) → (b || list_any (λ z. same_name z x) (without_rm rm names)) ≡ true
    stays true t more = refl
    stays false t more = more (subst (λ b. (b || list_any (λ z. same_name z x) names) ≡ true) t e)

    go : (b : Bool) → same_name y rm ≡ b → (IsAmong names x → IsAmong (without_rm rm names) x) → IsAmong (if b then without_rm rm names else y ∷ without_rm rm names) x
    go true t more = more (subst (λ b. (b || list_any (λ z. same_name z x) names) ≡ true) (other t) e)
    go false t more = stays (same_name y x) refl more

-- a manager that has joined none of these branches is the name of none of their managers
joined_none : (rm : Name) (bs : List Branch) → list_any (has_joined rm) bs ≡ false → (b : Branch) → In b bs → (m : Manager) → In m b.managers → rm ≡ m.rm → ⊥
joined_none rm [] e b i m j same = i
joined_none rm (x ∷ bs) e b i m j same = go (has_joined rm x) refl e i (λ k l. joined_none rm bs k b l m j same)
  where
    there : (ms : List Manager) → In m ms → list_any (λ y. same_name y.rm rm) ms ≡ true
    there [] k = absurd k
    there (y ∷ ms) (inl is) = ap (λ t. t || list_any (λ z. same_name z.rm rm) ms) (same_name-eq y.rm rm (sym (ap (λ (z : Manager). z.rm) is) ∙ sym same))
    there (y ∷ ms) (inr k) = at (same_name y.rm rm) (there ms k)
      where
        at : (t : Bool) → list_any (λ z. same_name z.rm rm) ms ≡ true → (t || list_any (λ z. same_name z.rm rm) ms) ≡ true
        at true h = refl
        at false h = h

    go : (t : Bool) → has_joined rm x ≡ t → (t || list_any (has_joined rm) bs) ≡ false → In b (x ∷ bs) → (list_any (has_joined rm) bs ≡ false → In b bs → ⊥) → ⊥
    go true is k l more = let no : ⊥ = cc in no
    go false is k (inl one) more = both_ways (has_joined rm x) is (there x.managers (subst (λ (y : Branch). In m y.managers) one j))
    go false is k (inr l) more = more k l

-- whether a task is a FORGET_RM
abbrev is_forgetting : Task → Bool
is_forgetting (Serves (ForgetRm rm)) = true
is_forgetting _ = false

yes : (t : Bool) → not t ≡ false → t ≡ true
yes true e = refl
yes false e = let no : ⊥ = cc in absurd no

votes_within : (declared : List Name) (bs : List Branch) (m : Message) (k : message.Kind) → VoteHolds (Within declared) bs m k
votes_within declared bs m message.Yes = λ b i key h. h
votes_within declared bs m message.ReadOnly = λ b i key h. h
votes_within declared bs m _ = tt

-- what another task that makes no disk run again makes of branches besides
request_within : (s : Shared) (n : Node) (r : Request) → powers (service r) ≡ false → refused_before_reading s n (service r) ≡ None → is_forgetting (Serves r) ≡ false → TaskHolds (Within n.volatile.declared) (Holds n.volatile.declared) s n (Serves r)
request_within s n (StartTrans label seconds) off first other = λ p m i. absurd i
request_within s n (StartBranch label) off first other = λ t bid p m i. absurd i
request_within s n (JoinRm label rm) off first other = λ b is x i same active h. joined_within n.volatile.declared rm x there h
  where
    there : IsAmong n.volatile.declared rm
    there =
        let a = neither (refused_if (not (n.up || false)) line.NodeDown) _ first in
        let b = neither (answers.made_label s n label) _ a.1 in
        let c = neither (answers.unsettled_label s n label) _ b.1 in
        let d = neither (answers.declared_manager n rm) _ c.1 in
        yes (is_declared n rm) (not_refused (not (is_declared n rm)) line.NoSuchManager d.0)
request_within s n (AckEvent who rm reply) off first other = λ serial is b i same plain h. replied_within n.volatile.declared rm reply b h
request_within s n (DeclareRm rm) off first other = λ x e. more_among n.volatile.declared rm x e
request_within s n (ForgetRm rm) off first other = let no : ⊥ = cc in absurd no
request_within s n Boot off first other = let no : ⊥ = cc in absurd no
request_within s n _ off first other = tt

task_within : (s : Shared) (n : Node) (t : Task) → powers (task_service t) ≡ false → refused_before_reading s n (task_service t) ≡ None → is_forgetting t ≡ false → TaskHolds (Within n.volatile.declared) (Holds n.volatile.declared) s n t
task_within s n (Serves r) off first other = request_within s n r off first other
task_within s n (Takes m) off first other = votes_within n.volatile.declared n.volatile.branches m m.kind
task_within s n (Hears m) off first other = votes_within n.volatile.declared n.volatile.branches m m.kind
task_within s n Restarts off first other = let no : ⊥ = cc in absurd no
task_within s n _ off first other = tt

-- FORGET_RM is refused of one that has joined a branch
forgets_declared : (s : Shared) (n : Node) (rm : Name) → refused_before_reading s n (service (ForgetRm rm)) ≡ None → AreDeclared n → AreDeclared (acted (world.Declares (without_rm rm n.volatile.declared)) n)
forgets_declared s n rm first h = λ b i p m j.
    let a = neither (refused_if (not (n.up || false)) line.NodeDown) _ first in
    let d = neither (answers.declared_manager n rm) _ a.1 in
    less_among n.volatile.declared rm m.rm (joined_none rm n.volatile.branches (not_refused (list_any (has_joined rm) n.volatile.branches) line.WrongState d.1) b i m j) (h b i p m j)

rows_declared : (s : Shared) (n : Node) (t : Task) → powers (task_service t) ≡ false → refused_before_reading s n (task_service t) ≡ None → AreDeclared n → AreDeclared (node_after_rows ((task_service t).rows s n) n)
rows_declared s n t off first h = go (is_forgetting t) refl
  where
    forgets : (t : Task) → is_forgetting t ≡ true → refused_before_reading s n (task_service t) ≡ None → AreDeclared (node_after_rows ((task_service t).rows s n) n)
    forgets (Serves (ForgetRm rm)) is first = forgets_declared s n rm first h
    forgets (Serves _) is first = let no : ⊥ = cc in absurd no
    forgets _ is first = let no : ⊥ = cc in absurd no

    go : (b : Bool) → is_forgetting t ≡ b → AreDeclared (node_after_rows ((task_service t).rows s n) n)
    go true is = forgets t is first
    go false is =
        let d = n.volatile.declared in
        held_declared d (node_after_rows ((task_service t).rows s n) n) (rows_within d ((task_service t).rows s n) n (task_holds (Within d) (Holds d) (within_steady d) s n h t (task_within s n t off first is)) ((λ x e. e), h))

-- Boots.

-- all branches of a node are prepared
abbrev AllPrepared : Node → Type 0
AllPrepared n = (b : Branch) → In b n.volatile.branches → is_prepared b.state ≡ true

undone_prepared : (ks : List table.Key) (s : Shared) (n : Node) → AllPrepared n → AllPrepared (node_after_rows (table_rows (undo_all ks) s n) n)
undone_prepared [] s n h = h
undone_prepared (k ∷ ks) s n h = undone_prepared ks (shared_after (Tables (table.Undoes k) (next_moment n)) s) (acted (Tables (table.Undoes k) (next_moment n)) n) (λ b i. h b (in_cut k b n.volatile.branches i))

booted_prepared : (s : Shared) (n : Node) → AllPrepared (node_after_rows (boot_rows s n) n)
booted_prepared s n = undone_prepared (map unit_key (left_active n)) s (acted world.Boots n) (λ b i. let r = branch_in (prepared_left n.durable) b i in ap (λ (x : Branch). is_prepared x.state) r.2)

prepared_declared : (n : Node) → AllPrepared n → AreDeclared n
prepared_declared n h b i p = absurd (both_ways (is_prepared b.state) p (h b i))

-- Nodes.

-- so it is of a node while it is up
abbrev DeclaredUp : Node → Type 0
DeclaredUp n = n.up ≡ true → AreDeclared n

down_so : (n : Node) → n.up ≡ false → DeclaredUp n
down_so n down up = absurd (both_ways n.up down up)

-- a boot that succeeds
boots_declared : (s : Shared) (r : Node) (e : Service) → ((x : Shared) (m : Node) → e.rows x m ≡ boot_rows x m) → e.closing ≡ Some world.ComesUp → DeclaredUp (node_after e.closing (node_after_rows (e.rows s r) r))
boots_declared s r e rows closing up =
    subst (λ o. AreDeclared (node_after o (node_after_rows (e.rows s r) r))) (sym closing)
    (subst (λ rs. AreDeclared (acted world.ComesUp (node_after_rows rs r))) (sym (rows s r)) (prepared_declared (acted world.ComesUp (node_after_rows (boot_rows s r) r)) (booted_prepared s r)))

-- a volume is made only where the node is down
made_down : (s : Shared) (n : Node) (slots journal : ℕ) → IsKeptNode s n → refused_before_reading s n (service (Init slots journal)) ≡ None → n.up ≡ false
made_down s n slots journal kept first =
    (kept.unused (not_refused s.in_use line.VolumeInUse (neither (refused_if s.in_use line.VolumeInUse) _ (neither (refused_if (not (n.up || true)) line.NodeDown) _ first).1).0)).0

-- a task that makes no disk run again does nothing behind its rows
nothing_behind : (t : Task) → powers (task_service t) ≡ false → (task_service t).closing ≡ None
nothing_behind (Serves r) off = go r off
  where
    go : (r : Request) → powers (service r) ≡ false → (service r).closing ≡ None
    go (Init slots journal) e = let no : ⊥ = cc in absurd no
    go Boot e = let no : ⊥ = cc in absurd no
    go _ e = refl
nothing_behind Restarts off = let no : ⊥ = cc in absurd no
nothing_behind _ off = refl

-- and brings no node up
down_rows : (s : Shared) (n : Node) (t : Task) → (task_service t).while_down ≡ true → powers (task_service t) ≡ false → (node_after_rows ((task_service t).rows s n) n).up ≡ n.up
down_rows s n (Serves r) serves off = go r serves off
  where
    go : (r : Request) → (service r).while_down ≡ true → powers (service r) ≡ false → (node_after_rows ((service r).rows s n) n).up ≡ n.up
    go (Fuse writes choice) q e = refl
    go (Clock now) q e = refl
    go (Init slots journal) q e = let no : ⊥ = cc in absurd no
    go Boot q e = let no : ⊥ = cc in absurd no
    go _ q e = let no : ⊥ = cc in absurd no
down_rows s n Restarts serves off = let no : ⊥ = cc in absurd no
down_rows s n _ serves off = let no : ⊥ = cc in absurd no

was_up : (s : Shared) (n : Node) (t : Task) → powers (task_service t) ≡ false → refused_before_reading s n (task_service t) ≡ None → (node_after_rows ((task_service t).rows s n) n).up ≡ true → n.up ≡ true
was_up s n t off first up = go n.up refl
  where
    served : n.up ≡ false → (b : Bool) → (task_service t).while_down ≡ b → not (n.up || (task_service t).while_down) ≡ false → b ≡ true
    served down true is e = refl
    served down false is e = let no : true ≡ false = sym (λ i. not (down i || is i)) ∙ e in let none : ⊥ = cc in absurd none

    go : (b : Bool) → n.up ≡ b → b ≡ true
    go true is = refl
    go false down =
        let serves = served down (task_service t).while_down refl (not_refused (not (n.up || (task_service t).while_down)) line.NodeDown (neither (refused_if (not (n.up || (task_service t).while_down)) line.NodeDown) _ first).0) in
        absurd (both_ways n.up down (sym (down_rows s n t serves off) ∙ up))

own_declared : (s : Shared) (stops : ℕ) (n : Node) (t : Task) (c : Choice) (rises : Cause → Type 0) → IsSoundNode s n → TaskAllowed s stops n t rises c → DeclaredUp n → DeclaredUp (task_effect s stops n t c).node
own_declared s stops n t c rises sound may h = go (outcome s stops n t rises c may)
  where
    effect : TaskEffect
    effect = task_effect s stops n t c

    as_ready : (outturn : world.Outturn) → world.MayTurnOut n outturn → (powered outturn stops n).up ≡ n.up
    as_ready outturn turns = (powered_ready outturn stops s n turns sound.kept).up

    -- where it makes its disk run again
    late_on : (t : Task) → powers (task_service t) ≡ true → (outturn : world.Outturn) → world.MayTurnOut n outturn → refused_before_reading s n (task_service t) ≡ None → DeclaredUp (ready_node outturn stops (task_service t) n)
    late_on (Serves (Init slots journal)) on outturn turns first = down_so (ready_node outturn stops (service (Init slots journal)) n) (as_ready outturn turns ∙ made_down s n slots journal sound.kept first)
    late_on (Serves Boot) on outturn turns first = down_so (ready_node outturn stops (service Boot) n) (as_ready outturn turns ∙ node_down n _ (behind_down n (service Boot) s first))
    late_on Restarts on outturn turns first = down_so (ready_node outturn stops (task_service Restarts) n) (as_ready outturn turns ∙ node_down n _ (behind_down n (task_service Restarts) s first))
    late_on (Serves _) on outturn turns first = let no : ⊥ = cc in absurd no
    late_on _ on outturn turns first = let no : ⊥ = cc in absurd no

    done_on : (t : Task) → powers (task_service t) ≡ true → (outturn : world.Outturn) → world.MayTurnOut n outturn → refused_before_reading s n (task_service t) ≡ None → DeclaredUp (succeeded s (ready_node outturn stops (task_service t) n) (task_service t)).node
    done_on (Serves (Init slots journal)) on outturn turns first = down_so (acted (world.Formats slots journal) (with_unknown_volume true (powered outturn stops n))) (as_ready outturn turns ∙ made_down s n slots journal sound.kept first)
    done_on (Serves Boot) on outturn turns first = boots_declared s (ready_node outturn stops (service Boot) n) (service Boot) (λ x m. refl) refl
    done_on Restarts on outturn turns first = boots_declared s (ready_node outturn stops (task_service Restarts) n) (task_service Restarts) (λ x m. refl) refl
    done_on (Serves _) on outturn turns first = let no : ⊥ = cc in absurd no
    done_on _ on outturn turns first = let no : ⊥ = cc in absurd no

    -- and where it does not
    late_off : powers (task_service t) ≡ false → (outturn : world.Outturn) → DeclaredUp (ready_node outturn stops (task_service t) n)
    late_off off outturn = subst DeclaredUp (sym (not_ready outturn stops (task_service t) n off)) h

    done_off : powers (task_service t) ≡ false → (outturn : world.Outturn) → refused_before_reading s n (task_service t) ≡ None → DeclaredUp (succeeded s (ready_node outturn stops (task_service t) n) (task_service t)).node
    done_off off outturn first = subst (λ m. DeclaredUp (succeeded s m (task_service t)).node) (sym (not_ready outturn stops (task_service t) n off))
        (subst (λ o. DeclaredUp (node_after o (node_after_rows ((task_service t).rows s n) n))) (sym (nothing_behind t off)) (λ up. rows_declared s n t off first (h (was_up s n t off first up))))

    go : Outcome s stops n t rises effect → DeclaredUp effect.node
    go (First refusal first is) = subst (λ (x : TaskEffect). DeclaredUp x.node) (sym is) h
    go (Late outturn refusal turns first late is) = subst (λ (x : TaskEffect). DeclaredUp x.node) (sym is) (by (powers (task_service t)) refl)
      where
        by : (b : Bool) → powers (task_service t) ≡ b → DeclaredUp (ready_node outturn stops (task_service t) n)
        by true on = late_on t on outturn turns first
        by false off = late_off off outturn
    go (Success outturn turns first late is) = subst (λ (x : TaskEffect). DeclaredUp x.node) (sym is) (by (powers (task_service t)) refl)
      where
        by : (b : Bool) → powers (task_service t) ≡ b → DeclaredUp (succeeded s (ready_node outturn stops (task_service t) n) (task_service t)).node
        by true on = done_on t on outturn turns first
        by false off = done_off off outturn first
    go (Lacking first memory is) = subst (λ (x : TaskEffect). DeclaredUp x.node) (sym is) h
    go (Failing cause shown goes_on first rose lines down answers ends) = down_so effect.node down

pub joined_declared : JoinedAreDeclared
joined_declared = in_all_worlds DeclaredUp (λ n o. down_so n o.down) own_declared
