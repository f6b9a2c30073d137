-- A branch of which a resource manager has not replied FORGET does not leave as read-only, whatever else is done.
use Rattle.std.proofs.Common.{◌≡◌, ◌⊎◌, ℕ, ◌+◌, ◌<◌, ◌≤◌, Bool, true, false, ◌&&◌, ◌||◌, List, [], ◌∷◌, ◌++◌, map, inl, inr, Option, Some, None, if◌then◌else◌, refl, sym, ◌∙◌, ap, subst, arith}
use Rattle.std.specs.List.{list_any}
use Rattle.std.proofs.lemmas.Bool.{and_parts, both_ways}
use Rattle.vms_model.specs.Ids.{Id}
use Rattle.world_laws.specs.transcript_model.Lines as line
use Rattle.world_laws.specs.transcript_model.Lines.{Line, Cause}
use Rattle.world_laws.specs.script_model.Statements.{Request, Boot, StartTrans, StartBranch, JoinRm, AckEvent, DeclareRm, ForgetRm, Named as SaidName}
use Rattle.records_model.specs.History.{same_id}
use Rattle.unit_laws.specs.Units.{Map}
use Rattle.commit_protocol.specs.Messages as message
use Rattle.commit_protocol.specs.Messages.{ForgetReply, LogRecord, Message, Name, NormalReply, OnePhaseEvent, PrepareEvent, PreparedReply, RememberReply, Reply, RmEvent, VetoReply, same_name}
use Rattle.commit_protocol.specs.Table as table
use Rattle.commit_protocol.specs.Table.{Branch, Ending, Key as BranchKey, Manager, Prepared, State, Voting, child, holding, replied_prepared, table_after}
use Rattle.commit_protocol.specs.Rows as rows
use Rattle.commit_protocol.specs.Rows.{all_replied, asks, is_empty, is_forget, is_replied, is_veto, note_reply, with_manager, with_reply}
use Rattle.commit_protocol.specs.Allowed.{answers, answers_waiting, is_prepared, may_reply}
use Rattle.commit_protocol.specs.World.{In}
use Rattle.commit_protocol.proofs.Lists.{in_left, in_parts, same_name-eq, same_name-true}
use Rattle.world_laws.specs.run_model.World as world
use Rattle.world_laws.specs.run_model.World.{Act, Boots, Durable, Node, Shared, Tables, aborted_prepared, acted, find_branch, next_id, prepared_left, settlement_of, with_changed, with_half}
use Rattle.world_laws.specs.run_model.Answers as answering
use Rattle.world_laws.specs.run_model.Answers.{Hears, Restarts, Row, Serves, Takes, Task, powers, prepared_line, refused_before_reading, serial_named, service, task_service, unit_key}
use Rattle.world_laws.specs.run_model.Steps.{Choice, TaskAllowed, node_after, task_effect}
use Rattle.world_laws.specs.Nodes.{IsOf, IsUp}
use Rattle.world_laws.specs.Running.{IsDrawn}
use Rattle.world_laws.proofs.BootLemmas.{branch_in}
use Rattle.world_laws.proofs.IdLemmas.{id_is}
use Rattle.world_laws.proofs.ServedLemmas.{undrawn}
use Rattle.world_laws.proofs.TableLemmas.{one_branch}
use Rattle.world_laws.proofs.UpLemmas.{differ, drawn_more, drawn_of}
use Rattle.run_laws.proofs.EachRow.{AreVoteless, VotesSo, is_voteless}
use Rattle.run_laws.proofs.Keeping.{AllTake, Kept, Keeps, Scheme, down_effect, else_effect, is_init, is_special}
use Rattle.run_laws.proofs.Moving.{in_cut, in_put}
use Rattle.run_laws.proofs.RowFits.{Fits, lasts_voteless}
use Rattle.run_laws.proofs.SoundWorlds.{IsSoundNode, Tracks}
use Rattle.run_laws.proofs.VoteOwners.{vote_owns, voter_in}
use Rattle.manager_laws.proofs.Replied.{found_branch_in, found_none}
use Rattle.manager_laws.proofs.Requests.{refused_kept, reply_fits}
use Rattle.manager_laws.proofs.Taking.{EventHolds, HoldsIn, IsAsking, IsSteady, VoteHolds}
use Rattle.manager_laws.proofs.TasksTake.{AllSo, RowHolds, RowsHold, TaskHolds, task_holds}
use Rattle.manager_laws.proofs.Unreplied.{or_false}

none_holds : (a b : Bool) → (a || b) ≡ false → (a ≡ false) × (b ≡ false)
none_holds true b e = let no : ⊥ = cc in absurd no
none_holds false b e = (refl, e)

-- Replies of a manager that has not replied FORGET, and events for which a reply of it may wait, by the state of its branch: one phase serves a branch that is ending.

abbrev pub Lacks : State → Option Reply → Type 0
Lacks s None = Unit {0}
Lacks s (Some PreparedReply) = Unit {0}
Lacks s (Some NormalReply) = s ≡ Ending
Lacks s (Some ForgetReply) = ⊥
Lacks s (Some VetoReply) = ⊥
Lacks s (Some RememberReply) = ⊥

abbrev pub Asks : State → Option RmEvent → Type 0
Asks s o = (o ≡ None) ⊎ (o ≡ Some PrepareEvent) ⊎ ((o ≡ Some OnePhaseEvent) × (s ≡ Ending))

lacks_on : (s t : State) → (s ≡ Ending → ⊥) → (o : Option Reply) → Lacks s o → Lacks t o
lacks_on s t off None h = tt
lacks_on s t off (Some PreparedReply) h = tt
lacks_on s t off (Some NormalReply) h = absurd (off h)
lacks_on s t off (Some ForgetReply) h = absurd h
lacks_on s t off (Some VetoReply) h = absurd h
lacks_on s t off (Some RememberReply) h = absurd h

asks_on : (s t : State) → (s ≡ Ending → ⊥) → (o : Option RmEvent) → Asks s o → Asks t o
asks_on s t off o (inl none) = inl none
asks_on s t off o (inr (inl prepare)) = inr (inl prepare)
asks_on s t off o (inr (inr (one, ending))) = absurd (off ending)

-- what such a manager may reply, and is no FORGET
fits : (s : State) (reply : Reply) (o : Option RmEvent) → Asks s o → answers_waiting o reply ≡ true → (answers PrepareEvent reply ≡ true) ⊎ ((answers OnePhaseEvent reply ≡ true) × (s ≡ Ending))
fits s reply o (inl none) h = let no : false ≡ true = ap (λ x. answers_waiting x reply) (sym none) ∙ h in let never : ⊥ = cc in absurd never
fits s reply o (inr (inl prepare)) h = inl (ap (λ x. answers_waiting x reply) (sym prepare) ∙ h)
fits s reply o (inr (inr (one, ending))) h = inr (ap (λ x. answers_waiting x reply) (sym one) ∙ h, ending)

lacks_so : (s : State) (reply : Reply) → is_veto reply ≡ false → is_forget reply ≡ false → (answers PrepareEvent reply ≡ true) ⊎ ((answers OnePhaseEvent reply ≡ true) × (s ≡ Ending)) → Lacks s (Some reply)
lacks_so s PreparedReply veto forget h = tt
lacks_so s NormalReply veto forget (inl none) = let no : ⊥ = cc in absurd no
lacks_so s NormalReply veto forget (inr (one, ending)) = ending
lacks_so s ForgetReply veto forget h = let no : ⊥ = cc in absurd no
lacks_so s VetoReply veto forget h = let no : ⊥ = cc in absurd no
lacks_so s RememberReply veto forget (inl none) = let no : ⊥ = cc in absurd no
lacks_so s RememberReply veto forget (inr (none, ending)) = let no : ⊥ = cc in absurd no

module _ (tid serial : Id) (rm : Name) where
  -- Managers.

  abbrev pub Missing : State → List Manager → Type 0
  Missing s ms = (m : Manager) × In m ms × (m.rm ≡ rm) × Lacks s m.reply

  abbrev pub AreAsked : State → List Manager → Type 0
  AreAsked s ms = (m : Manager) → In m ms → m.rm ≡ rm → Asks s m.event

  -- where all have replied, it replied that it is prepared, and is owed the outcome
  not_left : (ms : List Manager) → Missing Voting ms → all_replied ms ≡ true → is_empty (holding ms) ≡ true → ⊥
  not_left [] (m, i, name, lacks) all none = i
  not_left (x ∷ ms) (m, inr i, name, lacks) all none = not_left ms (m, i, name, lacks) (and_parts (is_replied x.reply) (all_replied ms) all).1 (rest (replied_prepared x.reply) none)
    where
      rest : (b : Bool) → is_empty (if b then x.rm ∷ holding ms else holding ms) ≡ true → is_empty (holding ms) ≡ true
      rest true e = let no : ⊥ = cc in absurd no
      rest false e = e
  not_left (x ∷ ms) (m, inl same, name, lacks) all none = go x.reply (subst (λ (y : Manager). Lacks Voting y.reply) same lacks) (and_parts (is_replied x.reply) (all_replied ms) all).0 none
    where
      go : (o : Option Reply) → Lacks Voting o → is_replied o ≡ true → is_empty (if replied_prepared o then x.rm ∷ holding ms else holding ms) ≡ true → ⊥
      go None l r e = let no : ⊥ = cc in no
      go (Some PreparedReply) l r e = let no : ⊥ = cc in no
      go (Some NormalReply) l r e = let no : Voting ≡ Ending = l in let never : ⊥ = cc in never
      go (Some ForgetReply) l r e = l
      go (Some VetoReply) l r e = l
      go (Some RememberReply) l r e = l

  missing_on : (s t : State) → (s ≡ Ending → ⊥) → (ms : List Manager) → Missing s ms → Missing t ms
  missing_on s t off ms (m, i, name, lacks) = (m, i, name, lacks_on s t off m.reply lacks)

  asked_missing : (e : RmEvent) (s t : State) (ms : List Manager) → Missing s ms → Missing t (asks e ms)
  asked_missing e s t [] (m, i, name, lacks) = absurd i
  asked_missing e s t (x ∷ ms) (m, inl same, name, lacks) = (record { rm = x.rm; event = Some e; reply = None }, inl refl, ap (λ (y : Manager). y.rm) (sym same) ∙ name, tt)
  asked_missing e s t (x ∷ ms) (m, inr i, name, lacks) = let y = asked_missing e s t ms (m, i, name, lacks) in (y.0, inr y.1, y.2, y.3)

  asked_event : (e : RmEvent) (ms : List Manager) (m : Manager) → In m (asks e ms) → m.event ≡ Some e
  asked_event e [] m i = absurd i
  asked_event e (x ∷ ms) m (inl same) = ap (λ (y : Manager). y.event) same
  asked_event e (x ∷ ms) m (inr i) = asked_event e ms m i

  asks_so : (e : RmEvent) (s : State) → IsAsking e → (e ≡ OnePhaseEvent → s ≡ Ending) → (o : Option RmEvent) → o ≡ Some e → Asks s o
  asks_so e s (inl prepare) one o is = inr (inl (is ∙ ap Some prepare))
  asks_so e s (inr phase) one o is = inr (inr (is ∙ ap Some phase, one phase))

  noted_missing : (x : Name) (r : Reply) (s : State) → (x ≡ rm → Lacks s (Some r)) → (ms : List Manager) → Missing s ms → Missing s (note_reply x r ms)
  noted_missing x r s ok [] (m, i, name, lacks) = absurd i
  noted_missing x r s ok (y ∷ ms) (m, i, name, lacks) = go (same_name y.rm x) refl i (λ j. noted_missing x r s ok ms (m, j, name, lacks))
    where
      go : (b : Bool) → same_name y.rm x ≡ b → In m (y ∷ ms) → (In m ms → Missing s (note_reply x r ms)) → Missing s (if b then record y { event = None; reply = Some r } ∷ ms else y ∷ note_reply x r ms)
      go true is (inl same) more =
          let named : y.rm ≡ rm = ap (λ (z : Manager). z.rm) (sym same) ∙ name in
          (record y { event = None; reply = Some r }, inl refl, named, ok (sym (same_name-true y.rm x is) ∙ named))
      go true is (inr j) more = (m, inr j, name, lacks)
      go false is (inl same) more = (m, inl same, name, lacks)
      go false is (inr j) more = let z = more j in (z.0, inr z.1, z.2, z.3)

  noted_asked : (x : Name) (r : Reply) (s : State) (ms : List Manager) → AreAsked s ms → AreAsked s (note_reply x r ms)
  noted_asked x r s [] h m i name = absurd i
  noted_asked x r s (y ∷ ms) h m i name = go (same_name y.rm x) i (λ j. noted_asked x r s ms (λ z k. h z (inr k)) m j name)
    where
      go : (b : Bool) → In m (if b then record y { event = None; reply = Some r } ∷ ms else y ∷ note_reply x r ms) → (In m (note_reply x r ms) → Asks s m.event) → Asks s m.event
      go true (inl same) more = inl (ap (λ (z : Manager). z.event) same)
      go true (inr j) more = h m (inr j) name
      go false (inl same) more = h m (inl same) name
      go false (inr j) more = more j

  pub joined_asked : (x : Name) (s : State) (ms : List Manager) → AreAsked s ms → AreAsked s (ms ++ record { rm = x; event = None; reply = None } ∷ [])
  joined_asked x s ms h m i name = elim (in_parts m ms (record { rm = x; event = None; reply = None } ∷ []) i) [
    | inl old ↦ h m old name
    | inr new ↦ elim new [ inl same ↦ inl (ap (λ (z : Manager). z.event) same) | inr none ↦ absurd none ]
  ]

  waits_so : (reply : Reply) (s : State) (ms : List Manager) → AreAsked s ms → list_any (λ m. same_name m.rm rm && answers_waiting m.event reply) ms ≡ true → (answers PrepareEvent reply ≡ true) ⊎ ((answers OnePhaseEvent reply ≡ true) × (s ≡ Ending))
  waits_so reply s [] h may = let no : ⊥ = cc in absurd no
  waits_so reply s (x ∷ ms) h may = go (same_name x.rm rm && answers_waiting x.event reply) refl may (waits_so reply s ms (λ m i. h m (inr i)))
    where
      go : (b : Bool) → (same_name x.rm rm && answers_waiting x.event reply) ≡ b → (b || list_any (λ m. same_name m.rm rm && answers_waiting m.event reply) ms) ≡ true →
          (list_any (λ m. same_name m.rm rm && answers_waiting m.event reply) ms ≡ true → (answers PrepareEvent reply ≡ true) ⊎ ((answers OnePhaseEvent reply ≡ true) × (s ≡ Ending))) → (answers PrepareEvent reply ≡ true) ⊎ ((answers OnePhaseEvent reply ≡ true) × (s ≡ Ending))
      go true is k more = let parts = and_parts (same_name x.rm rm) (answers_waiting x.event reply) is in fits s reply x.event (h x (inl refl) (same_name-true x.rm rm parts.0)) parts.1
      go false is k more = more k

  -- Branches.

  -- what is known of a branch that is not prepared: it is that of the transaction, and FORGET is missing
  pub record IsWaiting (b : Branch) : Type 0 where
    pub key : b.key ≡ child tid serial
    pub unprepared : is_prepared b.state ≡ false
    pub missing : Missing b.state b.managers
    pub asked : AreAsked b.state b.managers

  abbrev pub Awaits : Branch → Type 0
  Awaits b = b.key.serial ≡ serial → (is_prepared b.state ≡ true) ⊎ IsWaiting b

  pub awaits_steady : IsSteady Awaits
  awaits_steady = record {
    alike = λ b x u v off key managers accepted h same. elim (h (ap (λ (k : BranchKey). k.serial) (sym key) ∙ same)) [
      | inl p ↦ absurd (both_ways (is_prepared b.state) u p)
      | inr y ↦ inr (record {
        key = key ∙ y.key;
        unprepared = v;
        missing = subst (Missing x.state) (sym managers) (missing_on b.state x.state off b.managers y.missing);
        asked = λ m i name. asks_on b.state x.state off m.event (y.asked m (subst (In m) managers i) name);
      })
    ];
    asked = λ b x e asking one u v key managers accepted h same. elim (h (ap (λ (k : BranchKey). k.serial) (sym key) ∙ same)) [
      | inl p ↦ absurd (both_ways (is_prepared b.state) u p)
      | inr y ↦ inr (record {
        key = key ∙ y.key;
        unprepared = v;
        missing = subst (Missing x.state) (sym managers) (asked_missing e b.state x.state b.managers y.missing);
        asked = λ m i name. asks_so e x.state asking one m.event (asked_event e b.managers m (subst (In m) managers i));
      })
    ];
    accepts = λ b c h same. elim (h same) [ inl p ↦ inl p | inr y ↦ inr (record { key = y.key; unprepared = y.unprepared; missing = y.missing; asked = y.asked }) ];
    prepares = λ b all h same. inl refl;
    changed = λ b h same. elim (h same) [ inl p ↦ inl p | inr y ↦ inr (record { key = y.key; unprepared = y.unprepared; missing = y.missing; asked = y.asked }) ];
  }

  joined_awaits : (x : Name) (b : Branch) → Awaits b → Awaits (with_manager x b)
  joined_awaits x b h same = elim (h same) [
    | inl p ↦ inl p
    | inr y ↦ inr (record {
      key = y.key;
      unprepared = y.unprepared;
      missing = ((y.missing).0, in_left (y.missing).0 b.managers (record { rm = x; event = None; reply = None } ∷ []) (y.missing).1, (y.missing).2, (y.missing).3);
      asked = joined_asked x b.state b.managers y.asked;
    })
  ]

  voted_awaits : (m : Message) (v : message.Kind) (b : Branch) → Awaits b → Awaits (rows.with_vote m.serial v b)
  voted_awaits m v b h same = elim (h same) [ inl p ↦ inl p | inr y ↦ inr (record { key = y.key; unprepared = y.unprepared; missing = y.missing; asked = y.asked }) ]

  -- a reply of another manager, or one of this that is no FORGET
  replied_awaits : (x : Name) (r : Reply) (b : Branch) → (IsWaiting b → x ≡ rm → Lacks b.state (Some r)) → Awaits b → Awaits (with_reply x r b)
  replied_awaits x r b ok h same = elim (h same) [
    | inl p ↦ inl p
    | inr y ↦ inr (record { key = y.key; unprepared = y.unprepared; missing = noted_missing x r b.state (ok y) b.managers y.missing; asked = noted_asked x r b.state b.managers y.asked })
  ]

  -- Lines.

  abbrev pub leaves_here : Line → Bool
  leaves_here (line.ReadOnly t s) = same_id serial s
  leaves_here _ = false

  abbrev pub told_leaves : List Line → Bool → Bool
  told_leaves [] a = a
  told_leaves (l ∷ ls) a = told_leaves ls (a || leaves_here l)

  told_append : (xs ys : List Line) (a : Bool) → told_leaves (xs ++ ys) a ≡ told_leaves ys (told_leaves xs a)
  told_append [] ys a = refl
  told_append (x ∷ xs) ys a = told_append xs ys (a || leaves_here x)

  voteless_here : (l : Line) → is_voteless l ≡ true → leaves_here l ≡ false
  voteless_here (line.ReadOnly t s) h = let no : ⊥ = cc in absurd no
  voteless_here _ h = refl

  told_steady : (ls : List Line) (a : Bool) → AreVoteless ls → told_leaves ls a ≡ a
  told_steady [] a h = refl
  told_steady (l ∷ ls) a h = told_steady ls (a || leaves_here l) h.1 ∙ (ap (λ b. a || b) (voteless_here l h.0) ∙ or_false a)

  told_true : (ls : List Line) → told_leaves ls true ≡ true
  told_true [] = refl
  told_true (l ∷ ls) = told_true ls

  -- what is shown is told
  pub told_in : (ls : List Line) (l : Line) (a : Bool) → In l ls → leaves_here l ≡ true → told_leaves ls a ≡ true
  told_in [] l a i is = absurd i
  told_in (x ∷ ls) l a (inl same) is = ap (told_leaves ls) (ap (λ b. a || b) (ap leaves_here (sym same) ∙ is) ∙ either a) ∙ told_true ls
    where
      either : (a : Bool) → (a || true) ≡ true
      either true = refl
      either false = refl
  told_in (x ∷ ls) l a (inr i) is = told_in ls l (a || leaves_here x) i is

  foreign : (ls : List Line) (a : Bool) → ((l : Line) → In l ls → leaves_here l ≡ true → ⊥) → told_leaves ls a ≡ a
  foreign [] a h = refl
  foreign (l ∷ ls) a h = foreign ls (a || leaves_here l) (λ x i. h x (inr i)) ∙ (ap (λ b. a || b) (off (leaves_here l) refl) ∙ or_false a)
    where
      off : (b : Bool) → leaves_here l ≡ b → b ≡ false
      off true e = absurd (h l (inl refl) e)
      off false e = refl

  here_voter : (l : Line) → leaves_here l ≡ true → voter_in l ≡ Some serial
  here_voter (line.ReadOnly t s) e = ap Some (sym (id_is serial s e))
  here_voter _ e = let no : ⊥ = cc in absurd no

  -- Nodes.

  -- what is known of a node that is up, and of one that is booted, where each branch is prepared
  pub record IsLate (n : Node) : Type 0 where
    pub branches : AllSo Awaits n
    pub drawn : IsDrawn n.name n.durable.boot n.volatile.drawn serial

  pub record IsLateBoot (n : Node) : Type 0 where
    pub home : serial.node ≡ n.name
    pub earlier : serial.boot < n.durable.boot
    pub branches : (b : Branch) → In b n.volatile.branches → is_prepared b.state ≡ true

  abbrev Any : List Name → Type 0
  Any rms = Unit {0}

  -- whether a request is a reply FORGET of the manager
  abbrev pub forgets : Request → Bool
  forgets (AckEvent who x reply) = same_name x rm && is_forget reply
  forgets _ = false

  abbrev pub unforgotten : Scheme
  unforgotten = record {
    Told = Bool;
    more = told_leaves;
    Up = λ free a n. (a ≡ false) × IsLate n;
    Disk = λ a n. (a ≡ false) × IsOf n.name n.durable.boot serial;
    Boots = λ a n. (a ≡ false) × IsLateBoot n;
    Ready = λ n. Unit {0};
    Takes = λ o. RowHolds Awaits Any o;
    special = λ r. is_init (Serves r) || forgets r;
  }

  -- Acts.

  table_awaits : (a : table.Act) (bs : List Branch) → HoldsIn Awaits a → ((b : Branch) → In b bs → Awaits b) → (x : Branch) → In x (table_after a bs) → Awaits x
  table_awaits (table.Notes b) bs q h x i = elim (in_put b x bs i) [ inl same ↦ subst Awaits (sym same) q | inr old ↦ h x old ]
  table_awaits (table.Accepts b c) bs q h x i = elim (in_put (record b { accepted = b.accepted ++ c ∷ [] }) x bs i) [ inl same ↦ subst Awaits (sym same) (awaits_steady.accepts b c q) | inr old ↦ h x old ]
  table_awaits (table.Prepares b) bs q h x i = elim (in_put (record b { state = Prepared }) x bs i) [ inl same ↦ subst Awaits (sym same) (awaits_steady.prepares b q.1 q.0) | inr old ↦ h x old ]
  table_awaits (table.Settles k o reason r) bs q h x i = h x (in_cut k x bs i)
  table_awaits (table.Leaves k) bs q h x i = h x (in_cut k x bs i)
  table_awaits (table.Undoes k) bs q h x i = h x (in_cut k x bs i)
  table_awaits _ bs q h x i = h x i

  changed_awaits : (id : Id) (bs : List Branch) → ((b : Branch) → In b bs → Awaits b) → (x : Branch) → In x (with_changed id bs) → Awaits x
  changed_awaits id [] h x i = absurd i
  changed_awaits id (b ∷ bs) h x i = go (same_id id b.key.serial) i (changed_awaits id bs (λ y j. h y (inr j)) x)
    where
      go : (t : Bool) → In x (if t then record b { changed = true } ∷ bs else b ∷ with_changed id bs) → (In x (with_changed id bs) → Awaits x) → Awaits x
      go true (inl same) more = subst Awaits (sym same) (awaits_steady.changed b (h b (inl refl)))
      go true (inr j) more = h x (inr j)
      go false (inl same) more = subst Awaits (sym same) (h b (inl refl))
      go false (inr j) more = more j

  boot_same : (o : Option world.Settlement) (d : Durable) → (world.with_settlement o d).boot ≡ d.boot
  boot_same None d = refl
  boot_same (Some s) d = refl

  act_late : (free : Bool) (o : Option Act) (n : Node) → RowHolds Awaits Any o → Fits free o n → IsLate n → IsLate (node_after o n)
  act_late free None n q f h = h
  act_late free (Some (Tables a moment)) n q f h = record { branches = table_awaits a n.volatile.branches q h.branches; drawn = subst (λ boot. IsDrawn n.name boot n.volatile.drawn serial) (sym (boot_same (settlement_of a moment) _)) h.drawn }
  act_late free (Some (world.Changes t id file cs keys)) n q f h = record { branches = changed_awaits id n.volatile.branches h.branches; drawn = h.drawn }
  act_late free (Some (world.Directs file cs s)) n q f h = record { branches = h.branches; drawn = drawn_more n.name n.durable.boot n.volatile.drawn serial h.drawn }
  act_late free (Some world.Draws) n q f h = record { branches = h.branches; drawn = drawn_more n.name n.durable.boot n.volatile.drawn serial h.drawn }
  act_late free (Some Boots) n q f h = absurd q
  act_late free (Some (world.Formats slots journal)) n q f h = absurd f
  act_late free (Some _) n q f h = record { branches = h.branches; drawn = h.drawn }

  -- no row shows that it leaves
  act_told : (o : Option Act) (ls : List Line) (a : Bool) → RowHolds Awaits Any o → VotesSo o ls → told_leaves ls a ≡ a
  act_told o ls a q v = go o q v
    where
      not_it : (x : Id) → (x ≡ serial → ⊥) → same_id serial x ≡ false
      not_it x apart = by (same_id serial x) refl
        where
          by : (b : Bool) → same_id serial x ≡ b → b ≡ false
          by true e = absurd (apart (sym (id_is serial x e)))
          by false e = refl

      stays : (b : Branch) → Awaits b → all_replied b.managers ≡ true → b.state ≡ Voting → is_empty (holding b.managers) ≡ true → b.key.serial ≡ serial → ⊥
      stays b h all voting none same = elim (h same) [
        | inl p ↦ both_ways (is_prepared b.state) (ap is_prepared voting) p
        | inr y ↦ not_left b.managers (subst (λ s. Missing s b.managers) voting y.missing) all none
      ]

      tabled : (x : table.Act) (moment : ℕ) → HoldsIn Awaits x → VotesSo (Some (Tables x moment)) ls → told_leaves ls a ≡ a
      tabled (table.Prepares b) moment h w = ap (λ ms. told_leaves ms a) w ∙ or_false a
      tabled (table.Leaves k) moment (b, h, key, all, voting, none) w =
          ap (λ ms. told_leaves ms a) w ∙ (ap (λ b. a || b) (not_it k.serial (λ same. stays b h all voting none (ap (λ (j : BranchKey). j.serial) key ∙ same))) ∙ or_false a)
      tabled (table.Accepts b c) moment h w = ap (λ ms. told_leaves ms a) w ∙ or_false a
      tabled (table.Notes b) moment h w = told_steady ls a w
      tabled (table.Settles k out reason r) moment h w = told_steady ls a w
      tabled (table.Acknowledges k) moment h w = told_steady ls a w
      tabled (table.Releases x m) moment h w = told_steady ls a w
      tabled (table.Undoes k) moment h w = told_steady ls a w
      tabled (table.Sends m) moment h w = told_steady ls a w
      tabled (table.Prints l) moment h w = told_steady ls a w

      go : (o : Option Act) → RowHolds Awaits Any o → VotesSo o ls → told_leaves ls a ≡ a
      go None q w = told_steady ls a w
      go (Some (Tables x moment)) q w = tabled x moment q w
      go (Some _) q w = told_steady ls a w

  fallen_of : (n : Node) → IsLate n → IsOf n.name n.durable.boot serial
  fallen_of n h = drawn_of n.name n.durable.boot n.volatile.drawn serial h.drawn

  half_of : (o : Option Id) (standing : List ℕ → Map) (name : List ℕ) (d : Durable) → IsOf name d.boot serial → IsOf name (with_half o standing d).boot serial
  half_of None standing name d h = h
  half_of (Some id) standing name d h = h

  found_prepared : (d : Durable) (b : Branch) → In b (table.branches_of (prepared_left d)) → is_prepared b.state ≡ true
  found_prepared d b i = let r = branch_in (prepared_left d) b i in ap (λ (x : Branch). is_prepared x.state) r.2

  closes_told : (bs : List Branch) (a : Bool) → told_leaves (map prepared_line bs) a ≡ a
  closes_told [] a = refl
  closes_told (b ∷ bs) a = closes_told bs (a || false) ∙ or_false a

  pub unforgotten_keeps : Keeps unforgotten
  unforgotten_keeps = record {
    none = λ a. refl;
    append = told_append;
    plain = λ ls a h v. told_steady ls a v;
    closes = λ a n m log up h. (closes_told (table.branches_of (prepared_left n.durable)) a ∙ h.0, h.1);
    same = λ a n m name durable settled h. (h.0, subst (λ x. IsOf x m.durable.boot serial) (sym name) (subst (λ (d : Durable). IsOf n.name d.boot serial) (sym durable) h.1));
    row = λ free r n a q f up h. (act_told r.act r.lines a q f.votes ∙ h.0, act_late free r.act n q f.fits h.1);
    under = λ free r n a act q f is d up h. (h.0, fallen_of (acted act n) (subst (λ o. IsLate (node_after o n)) is (act_late free r.act n q f.fits h.1)));
    falls = λ free a n up h. (h.0, fallen_of n h.1);
    weaken = λ free a n h. h;
    half = λ a n standing k ready may h. (h.0, half_of (aborted_prepared n.under_way n.durable) standing n.name n.durable h.1);
    spoils = λ a n h. (h.0, h.1);
    boots = λ a n k h. (told_steady (answering.last_lines n) a (lasts_voteless n) ∙ h.0, record { home = (h.1).0; earlier = later n.durable.boot (h.1).1; branches = found_prepared n.durable });
    booting = λ a n k h. (h.0, ((h.1).0, more n.durable.boot (h.1).1));
    undoes = λ a n u next h. (ap (λ t. t || false) h.0, record { home = (h.1).home; earlier = (h.1).earlier; branches = λ b i. (h.1).branches b (in_cut (unit_key u) b n.volatile.branches i) });
    undoing = λ a n u next h. (h.0, ((h.1).home, below n.durable.boot (h.1).earlier));
    rests = λ a n k h. (h.0, ((h.1).home, below n.durable.boot (h.1).earlier));
    none_ready = λ n e. tt;
    same_ready = λ n m e h. tt;
    comes = λ a n up h closed. (h.0, record { branches = λ b i same. inl ((h.1).branches b i); drawn = ((h.1).home, inl (h.1).earlier) });
  }
    where
      later : (boot : ℕ) → serial.boot ≤ boot → serial.boot < boot + 1
      later boot h = omega arith

      more : (boot : ℕ) → serial.boot ≤ boot → serial.boot ≤ boot + 1
      more boot h = omega arith

      below : (boot : ℕ) → serial.boot < boot → serial.boot ≤ boot
      below boot h = omega arith

  -- Tasks.

  takes_of : (rs : List Row) → RowsHold Awaits Any rs → AllTake unforgotten rs
  takes_of [] h = tt
  takes_of (r ∷ rs) h = (h.0, takes_of rs h.1)

  new_awaits : (n : Node) (b : Branch) → IsLate n → b.key.serial ≡ next_id n → Awaits b
  new_awaits n b h is same = absurd (undrawn n serial h.drawn (sym same ∙ is))

  votes_await : (bs : List Branch) (m : Message) (k : message.Kind) → VoteHolds Awaits bs m k
  votes_await bs m message.Yes = λ b i key h. voted_awaits m message.Yes b h
  votes_await bs m message.ReadOnly = λ b i key h. voted_awaits m message.ReadOnly b h
  votes_await bs m _ = tt

  -- where a reply is one of another manager, or is no FORGET, or is for another branch
  abbrev pub RepliesElse : Shared → Node → Task → Type 0
  RepliesElse s n (Serves (AckEvent who x reply)) = (id : Id) → serial_named s n who ≡ Some id → EventHolds Awaits n.volatile.branches (rows.Replied id x reply)
  RepliesElse s n _ = Unit {0}

  task_awaits : (s : Shared) (n : Node) (t : Task) → powers (task_service t) ≡ false → IsLate n → RepliesElse s n t → TaskHolds Awaits Any s n t
  task_awaits s n (Serves r) off h else_so = of_request r off else_so
    where
      of_request : (r : Request) → powers (service r) ≡ false → RepliesElse s n (Serves r) → TaskHolds Awaits Any s n (Serves r)
      of_request (StartTrans label seconds) off v = new_awaits n (rows.blank (next_id n) (next_id n) None table.Active (answering.due_after n seconds)) h refl
      of_request (StartBranch label) off v = λ t bid. new_awaits n (rows.blank t (next_id n) (Some bid) table.Joining None) h refl
      of_request (JoinRm label x) off v = λ b is y i same active k. joined_awaits x y k
      of_request (AckEvent who x reply) off v = v
      of_request (DeclareRm x) off v = tt
      of_request (ForgetRm x) off v = tt
      of_request Boot off v = let no : ⊥ = cc in absurd no
      of_request _ off v = tt
  task_awaits s n (Takes m) off h else_so = votes_await n.volatile.branches m m.kind
  task_awaits s n (Hears m) off h else_so = votes_await n.volatile.branches m m.kind
  task_awaits s n Restarts off h else_so = let no : ⊥ = cc in absurd no
  task_awaits s n _ off h else_so = tt

  abbrev pub Unforgotten : Bool → Node → Type 0
  Unforgotten a n = Kept unforgotten unforgotten_keeps a n

  -- a task that makes no volume
  pub own_unforgotten : (a : Bool) (s : Shared) (stops : ℕ) (n : Node) (task : Task) (c : Choice) (rises : Cause → Type 0) → IsSoundNode s n → is_init task ≡ false → (n.up ≡ true → refused_before_reading s n (task_service task) ≡ None → RepliesElse s n task) → TaskAllowed s stops n task rises c → Unforgotten a n →
      Unforgotten (told_leaves (task_effect s stops n task c).lines a) (task_effect s stops n task c).node
  own_unforgotten a s stops n task c rises sound other else_so may h = first (refused_before_reading s n (task_service task)) refl
    where
      any : (powers (task_service task) ≡ false → AllTake unforgotten ((task_service task).rows s n)) → Unforgotten (told_leaves (task_effect s stops n task c).lines a) (task_effect s stops n task c).node
      any takes = else_effect unforgotten unforgotten_keeps s stops n a sound.kept h task other takes (λ on. tt) c rises may

      go : refused_before_reading s n (task_service task) ≡ None → (b : Bool) → n.up ≡ b → (p : Bool) → powers (task_service task) ≡ p → Unforgotten (told_leaves (task_effect s stops n task c).lines a) (task_effect s stops n task c).node
      go q true up p is = any (λ off. takes_of ((task_service task).rows s n) (task_holds Awaits Any awaits_steady s n ((h.runs up).1).branches task (task_awaits s n task off (h.runs up).1 (else_so up q))))
      go q false down true on = any (λ off. absurd (both_ways (powers (task_service task)) off on))
      go q false down false off = down_effect unforgotten unforgotten_keeps s stops n task a sound.kept h off down c rises may

      first : (q : Option Line) → refused_before_reading s n (task_service task) ≡ q → Unforgotten (told_leaves (task_effect s stops n task c).lines a) (task_effect s stops n task c).node
      first (Some refusal) is = refused_kept unforgotten unforgotten_keeps serial.node a s stops n task c rises refusal is may h
      first None is = go is n.up refl (powers (task_service task)) refl

  not_init : (task : Task) → is_special unforgotten task ≡ false → is_init task ≡ false
  not_init (Serves r) e = (none_holds (is_init (Serves r)) (forgets r) e).0
  not_init _ e = refl

  -- a reply that is no FORGET of the manager
  pub plain_reply : (s : Shared) (n : Node) (who : SaidName) (x : Name) (reply : Reply) → IsUp n → AllSo Awaits n → (same_name x rm && is_forget reply) ≡ false → refused_before_reading s n (service (AckEvent who x reply)) ≡ None → RepliesElse s n (Serves (AckEvent who x reply))
  plain_reply s n who x reply up all plain first id is b i key veto h = replied_awaits x reply b (λ w same. lacks w same (find_branch id n.volatile.branches) refl) h
    where
      off : x ≡ rm → is_forget reply ≡ false
      off same = go (same_name x rm) (same_name-eq x rm same) plain
        where
          go : (t : Bool) → t ≡ true → (t && is_forget reply) ≡ false → is_forget reply ≡ false
          go true e k = k
          go false e k = let no : ⊥ = cc in absurd no

      lacks : IsWaiting b → x ≡ rm → (o : Option Branch) → find_branch id n.volatile.branches ≡ o → Lacks b.state (Some reply)
      lacks w same None at = absurd (found_none id n.volatile.branches at b i key)
      lacks w same (Some y) at =
          let there = found_branch_in id n.volatile.branches y at in
          let one : y ≡ b = one_branch n.volatile.branches y b (differ n up.table) there.0 i (there.1 ∙ sym key) in
          let may : may_reply rm reply b ≡ true = subst (λ z. may_reply z reply b ≡ true) same (subst (λ (z : Branch). may_reply x reply z ≡ true) one (reply_fits s n who x reply id y first is at)) in
          lacks_so b.state reply veto (off same) (waits_so reply b.state b.managers w.asked may)

  -- a task that is no such reply
  plain_else : (s : Shared) (n : Node) (task : Task) → IsUp n → AllSo Awaits n → is_special unforgotten task ≡ false → refused_before_reading s n (task_service task) ≡ None → RepliesElse s n task
  plain_else s n (Serves (AckEvent who x reply)) up all e first = plain_reply s n who x reply up all e first
  plain_else s n (Serves _) up all e first = tt
  plain_else s n _ up all e first = tt

  pub unforgotten_tracks : Tracks unforgotten unforgotten_keeps serial.node
  unforgotten_tracks = record {
    own = λ a s stops n task c rises named sound plain ready may h. own_unforgotten a s stops n task c rises sound (not_init task plain) (λ up first. plain_else s n task ((sound.kept).runs up).0 ((h.runs up).1).branches plain first) may h;
    beside = λ a s stops n m task c rises other sound may h.
        subst (λ b. Unforgotten b n) (sym (foreign (task_effect s stops m task c).lines a (λ l i is. other (sym (vote_owns s stops m task c rises sound may l serial i (here_voter l is)))))) h;
  }
