-- A branch whose resource manager has not replied is not prepared, does not leave and is not committed, whatever else is done.
use Rattle.std.proofs.Common.{◌≡◌, ◌⊎◌, ℕ, ◌+◌, ◌<◌, ◌≤◌, Bool, true, false, not, ◌&&◌, ◌||◌, List, [], ◌∷◌, ◌++◌, map, inl, inr, Option, Some, None, if◌then◌else◌, refl, sym, ◌∙◌, ap, subst, arith}
use Rattle.std.proofs.lemmas.Bool.{and_parts, both_ways}
use Rattle.vms_model.specs.Ids.{Id}
use Rattle.vms_model.specs.Transactions.{Abort, Commit, SegFail}
use Rattle.world_laws.specs.transcript_model.Lines as line
use Rattle.world_laws.specs.transcript_model.Lines.{Line, Cause}
use Rattle.world_laws.specs.script_model.Statements.{Request, Boot, StartTrans, StartBranch, JoinRm, AckEvent, DeclareRm, ForgetRm}
use Rattle.records_model.specs.History.{same_id}
use Rattle.unit_laws.specs.Units.{Map}
use Rattle.commit_protocol.specs.Messages as message
use Rattle.commit_protocol.specs.Messages.{LogRecord, Message, Name, Reply, RmEvent, same_name}
use Rattle.commit_protocol.specs.Table as table
use Rattle.commit_protocol.specs.Table.{Branch, Key as BranchKey, Manager, Prepared, child, table_after}
use Rattle.commit_protocol.specs.Rows as rows
use Rattle.commit_protocol.specs.Rows.{all_replied, asks, is_replied, is_veto, note_reply, with_manager, with_reply}
use Rattle.commit_protocol.specs.Allowed.{is_prepared}
use Rattle.commit_protocol.specs.World.{In}
use Rattle.commit_protocol.proofs.Lists.{in_left, in_parts, same_name-true}
use Rattle.world_laws.specs.log_laws.Slots.{prepared_of, records_in}
use Rattle.world_laws.specs.run_model.World as world
use Rattle.world_laws.specs.run_model.World.{Act, Boots, ComesUp, Durable, Node, Settlement, Shared, Tables, aborted_prepared, acted, find_record, next_id, prepared_left, records_by, settlement, settlement_of, settled_more, with_changed, with_half, without_record}
use Rattle.world_laws.specs.run_model.Answers as answers
use Rattle.world_laws.specs.run_model.Answers.{Hears, LosesLink, Restarts, Row, RunsDown, Serves, Takes, Task, Ticks, powers, prepared_line, prepared_lines, service, task_service, unit_key}
use Rattle.world_laws.specs.run_model.Steps.{Choice, TaskAllowed, node_after, task_effect}
use Rattle.world_laws.specs.Nodes.{IsOf, IsUp}
use Rattle.world_laws.specs.Running.{IsDrawn}
use Rattle.world_laws.proofs.BootLemmas.{branch_in}
use Rattle.world_laws.proofs.IdLemmas.{id_is}
use Rattle.world_laws.proofs.LogLemmas.{branch_of}
use Rattle.world_laws.proofs.ServedLemmas.{undrawn}
use Rattle.world_laws.proofs.UpLemmas.{drawn_more, drawn_of}
use Rattle.run_laws.proofs.EachRow.{AreVoteless, VotesSo, is_voteless}
use Rattle.run_laws.proofs.Keeping.{AllTake, Kept, Keeps, Scheme, down_effect, else_effect, is_init, is_special}
use Rattle.run_laws.proofs.Moving.{in_cut, in_put}
use Rattle.run_laws.proofs.RowFits.{Fits, lasts_voteless}
use Rattle.run_laws.proofs.SoundWorlds.{IsSoundNode, Tracks}
use Rattle.run_laws.proofs.VoteOwners.{vote_owns, voter_in}
use Rattle.manager_laws.proofs.Taking.{EventHolds, HoldsIn, IsAsking, IsSteady, LacksNothing, VoteHolds}
use Rattle.manager_laws.proofs.TasksTake.{AllSo, RowHolds, RowsHold, TaskHolds, task_holds}

none_holds : (a b : Bool) → (a || b) ≡ false → (a ≡ false) × (b ≡ false)
none_holds true b e = let no : ⊥ = cc in absurd no
none_holds false b e = (refl, e)

pub or_false : (a : Bool) → (a || false) ≡ a
or_false true = refl
or_false false = refl

-- a record that stands among reordered ones stands among these
left_in : (rs : List LogRecord) (serial : Id) (r : LogRecord) → In r (without_record serial rs) → In r rs
left_in [] serial r i = i
left_in (q ∷ rs) serial r i = go (same_id serial q.serial) i (left_in rs serial r)
  where
    go : (b : Bool) → In r (if b then rs else q ∷ without_record serial rs) → (In r (without_record serial rs) → In r rs) → In r (q ∷ rs)
    go true j more = inr j
    go false (inl same) more = inl same
    go false (inr j) more = inr (more j)

pub record_in : (rs : List LogRecord) (serial : Id) (r : LogRecord) → find_record serial rs ≡ Some r → In r rs
record_in [] serial r e = let no : ⊥ = cc in absurd no
record_in (q ∷ rs) serial r e = go (same_id serial q.serial) e (record_in rs serial r)
  where
    go : (b : Bool) → ◌≡◌ {A = Option LogRecord} (if b then Some q else find_record serial rs) (Some r) → (find_record serial rs ≡ Some r → In r rs) → In r (q ∷ rs)
    go true f more = inl (sym (Rattle.world_laws.proofs.run_model.NodeLists.some_is q r f))
    go false f more = inr (more f)

pub ordered_in : (ids : List Id) (rs : List LogRecord) (r : LogRecord) → In r (records_by ids rs) → In r rs
ordered_in [] rs r i = i
ordered_in (x ∷ ids) rs r i = go (find_record x rs) refl i (λ qs j. ordered_in ids qs r j)
  where
    go : (o : Option LogRecord) → find_record x rs ≡ o → In r (elim o [ Some q ↦ q ∷ records_by ids (without_record x rs) | None ↦ records_by ids rs ]) → ((qs : List LogRecord) → In r (records_by ids qs) → In r qs) → In r rs
    go (Some q) e (inl same) more = subst (λ (y : LogRecord). In y rs) (sym same) (record_in rs x q e)
    go (Some q) e (inr j) more = left_in rs x r (more (without_record x rs) j)
    go None e j more = more rs j

module _ (tid serial : Id) (rm : Name) where
  -- Managers.

  -- one of this name has not replied
  abbrev pub Missing : List Manager → Type 0
  Missing ms = (m : Manager) × In m ms × (m.rm ≡ rm) × (m.reply ≡ None)

  pub not_all : (ms : List Manager) → Missing ms → all_replied ms ≡ true → ⊥
  not_all [] (m, i, name, none) e = i
  not_all (x ∷ ms) (m, inl same, name, none) e = both_ways (is_replied x.reply) (ap (λ (y : Manager). is_replied y.reply) (sym same) ∙ ap is_replied none) (and_parts (is_replied x.reply) (all_replied ms) e).0
  not_all (x ∷ ms) (m, inr i, name, none) e = not_all ms (m, i, name, none) (and_parts (is_replied x.reply) (all_replied ms) e).1

  asked_missing : (e : RmEvent) (ms : List Manager) → Missing ms → Missing (asks e ms)
  asked_missing e [] (m, i, name, none) = absurd i
  asked_missing e (x ∷ ms) (m, inl same, name, none) = (record { rm = x.rm; event = Some e; reply = None }, inl refl, ap (λ (y : Manager). y.rm) (sym same) ∙ name, refl)
  asked_missing e (x ∷ ms) (m, inr i, name, none) = let y = asked_missing e ms (m, i, name, none) in (y.0, inr y.1, y.2, y.3)

  noted_missing : (x : Name) (r : Reply) → (x ≡ rm → ⊥) → (ms : List Manager) → Missing ms → Missing (note_reply x r ms)
  noted_missing x r apart [] (m, i, name, none) = absurd i
  noted_missing x r apart (y ∷ ms) (m, i, name, none) = go (same_name y.rm x) refl i (λ j. noted_missing x r apart ms (m, j, name, none))
    where
      go : (b : Bool) → same_name y.rm x ≡ b → In m (y ∷ ms) → (In m ms → Missing (note_reply x r ms)) → Missing (if b then record y { event = None; reply = Some r } ∷ ms else y ∷ note_reply x r ms)
      go true is (inl same) more = absurd (apart (sym (same_name-true y.rm x is) ∙ (ap (λ (z : Manager). z.rm) (sym same) ∙ name)))
      go true is (inr j) more = (m, inr j, name, none)
      go false is (inl same) more = (m, inl same, name, none)
      go false is (inr j) more = let z = more j in (z.0, inr z.1, z.2, z.3)

  -- each of this name waits for a reply to an event that asks, or to none
  abbrev pub AreAsked : List Manager → Type 0
  AreAsked ms = (m : Manager) → In m ms → m.rm ≡ rm → (m.event ≡ None) ⊎ ((e : RmEvent) × IsAsking e × (m.event ≡ Some e))

  asked_asked : (e : RmEvent) → IsAsking e → (ms : List Manager) → AreAsked (asks e ms)
  asked_asked e asking [] m i name = absurd i
  asked_asked e asking (x ∷ ms) m (inl same) name = inr (e, asking, ap (λ (y : Manager). y.event) same)
  asked_asked e asking (x ∷ ms) m (inr i) name = asked_asked e asking ms m i name

  noted_asked : (x : Name) (r : Reply) (ms : List Manager) → AreAsked ms → AreAsked (note_reply x r ms)
  noted_asked x r [] h m i name = absurd i
  noted_asked x r (y ∷ ms) h m i name = go (same_name y.rm x) i (λ j. noted_asked x r ms (λ z k. h z (inr k)) m j name)
    where
      go : (b : Bool) → In m (if b then record y { event = None; reply = Some r } ∷ ms else y ∷ note_reply x r ms) → (In m (note_reply x r ms) → (m.event ≡ None) ⊎ ((e : RmEvent) × IsAsking e × (m.event ≡ Some e))) → (m.event ≡ None) ⊎ ((e : RmEvent) × IsAsking e × (m.event ≡ Some e))
      go true (inl same) more = inl (ap (λ (z : Manager). z.event) same)
      go true (inr j) more = h m (inr j) name
      go false (inl same) more = h m (inl same) name
      go false (inr j) more = more j

  pub joined_asked : (x : Name) (ms : List Manager) → AreAsked ms → AreAsked (ms ++ record { rm = x; event = None; reply = None } ∷ [])
  joined_asked x ms h m i name = elim (in_parts m ms (record { rm = x; event = None; reply = None } ∷ []) i) [
    | inl old ↦ h m old name
    | inr new ↦ elim new [ inl same ↦ inl (ap (λ (z : Manager). z.event) same) | inr none ↦ absurd none ]
  ]

  -- Branches.

  -- a branch of this serial is that of the transaction, is not prepared, and lacks the reply, for which perhaps an event that asks waits
  abbrev pub Awaits : Branch → Type 0
  Awaits b = b.key.serial ≡ serial → (b.key ≡ child tid serial) × (is_prepared b.state ≡ false) × Missing b.managers × AreAsked b.managers

  pub awaits_steady : IsSteady Awaits
  awaits_steady = record {
    alike = λ b x u v off key managers accepted h same. let y = h (ap (λ (k : BranchKey). k.serial) (sym key) ∙ same) in (key ∙ y.0, v, subst Missing (sym managers) y.2, subst AreAsked (sym managers) y.3);
    asked = λ b x e asking one u v key managers accepted h same. let y = h (ap (λ (k : BranchKey). k.serial) (sym key) ∙ same) in (key ∙ y.0, v, subst Missing (sym managers) (asked_missing e b.managers y.2), subst AreAsked (sym managers) (asked_asked e asking b.managers));
    accepts = λ b c h. h;
    prepares = λ b all h same. absurd (not_all b.managers (h same).2 all);
    changed = λ b h. h;
  }

  joined_awaits : (x : Name) (b : Branch) → Awaits b → Awaits (with_manager x b)
  joined_awaits x b h same = let y = h same in (y.0, y.1, ((y.2).0, in_left (y.2).0 b.managers (record { rm = x; event = None; reply = None } ∷ []) (y.2).1, (y.2).2, (y.2).3), joined_asked x b.managers y.3)

  pub replied_awaits : (x : Name) (r : Reply) (b : Branch) → (x ≡ rm → ⊥) → Awaits b → Awaits (with_reply x r b)
  replied_awaits x r b apart h same = let y = h same in (y.0, y.1, noted_missing x r apart b.managers y.2, noted_asked x r b.managers y.3)

  -- such a branch lacks something
  lacks : (b : Branch) → Awaits b → LacksNothing b → b.key.serial ≡ serial → ⊥
  lacks b h (inl prepared) same = both_ways (is_prepared b.state) (h same).1 prepared
  lacks b h (inr all) same = not_all b.managers (h same).2 all.1

  -- Lines.

  -- a line shows that the branch is prepared or has left, and whether one of these lines does
  abbrev pub votes_here : Line → Bool
  votes_here (line.Prepared t s) = same_id serial s
  votes_here (line.ReadOnly t s) = same_id serial s
  votes_here _ = false

  abbrev pub told_votes : List Line → Bool → Bool
  told_votes [] a = a
  told_votes (l ∷ ls) a = told_votes ls (a || votes_here l)

  pub told_append : (xs ys : List Line) (a : Bool) → told_votes (xs ++ ys) a ≡ told_votes ys (told_votes xs a)
  told_append [] ys a = refl
  told_append (x ∷ xs) ys a = told_append xs ys (a || votes_here x)

  voteless_here : (l : Line) → is_voteless l ≡ true → votes_here l ≡ false
  voteless_here (line.Prepared t s) h = let no : ⊥ = cc in absurd no
  voteless_here (line.ReadOnly t s) h = let no : ⊥ = cc in absurd no
  voteless_here _ h = refl

  pub told_steady : (ls : List Line) (a : Bool) → AreVoteless ls → told_votes ls a ≡ a
  told_steady [] a h = refl
  told_steady (l ∷ ls) a h = told_steady ls (a || votes_here l) h.1 ∙ ap (λ b. a || b) (voteless_here l h.0) ∙ or_false a

  told_true : (ls : List Line) → told_votes ls true ≡ true
  told_true [] = refl
  told_true (l ∷ ls) = told_true ls

  -- what is shown is told
  pub told_in : (ls : List Line) (l : Line) (a : Bool) → In l ls → votes_here l ≡ true → told_votes ls a ≡ true
  told_in [] l a i is = absurd i
  told_in (x ∷ ls) l a (inl same) is = ap (told_votes ls) (ap (λ b. a || b) (ap votes_here (sym same) ∙ is) ∙ either a) ∙ told_true ls
    where
      either : (a : Bool) → (a || true) ≡ true
      either true = refl
      either false = refl
  told_in (x ∷ ls) l a (inr i) is = told_in ls l (a || votes_here x) i is

  -- and what is not shown is not
  foreign : (ls : List Line) (a : Bool) → ((l : Line) → In l ls → votes_here l ≡ true → ⊥) → told_votes ls a ≡ a
  foreign [] a h = refl
  foreign (l ∷ ls) a h = foreign ls (a || votes_here l) (λ x i. h x (inr i)) ∙ ap (λ b. a || b) (off (votes_here l) refl) ∙ or_false a
    where
      off : (b : Bool) → votes_here l ≡ b → b ≡ false
      off true e = absurd (h l (inl refl) e)
      off false e = refl

  here_voter : (l : Line) → votes_here l ≡ true → voter_in l ≡ Some serial
  here_voter (line.Prepared t s) e = ap Some (sym (id_is serial s e))
  here_voter (line.ReadOnly t s) e = ap Some (sym (id_is serial s e))
  here_voter _ e = let no : ⊥ = cc in absurd no

  -- Nodes.

  -- no settlement commits it, and no disk tells it to be prepared
  abbrev pub NotCommitted : List Settlement → Type 0
  NotCommitted ss = (s : Settlement) → In s ss → s.serial ≡ serial → s.outcome ≡ Abort

  abbrev NoRecord : Durable → Type 0
  NoRecord d = (r : LogRecord) → In r (prepared_of (records_in d.log)) → r.serial ≡ serial → ⊥

  -- what is known of a node that is up
  pub record IsLate (n : Node) : Type 0 where
    pub settled : NotCommitted n.settled
    pub branches : AllSo Awaits n
    pub drawn : IsDrawn n.name n.durable.boot n.volatile.drawn serial

  -- of its disk
  pub record IsLateDisk (name : List ℕ) (d : Durable) (ss : List Settlement) : Type 0 where
    pub settled : NotCommitted ss
    pub unrecorded : NoRecord d
    pub of : IsOf name d.boot serial

  -- and of a node that is booted, which has no such branch
  pub record IsLateBoot (n : Node) : Type 0 where
    pub settled : NotCommitted n.settled
    pub unrecorded : NoRecord n.durable
    pub home : serial.node ≡ n.name
    pub earlier : serial.boot < n.durable.boot
    pub branches : (b : Branch) → In b n.volatile.branches → b.key.serial ≡ serial → ⊥

  abbrev Any : List Name → Type 0
  Any rms = Unit {0}

  -- whether a request is a reply of the manager that is no veto
  abbrev pub is_reply : Request → Bool
  is_reply (AckEvent who x reply) = same_name x rm && not (is_veto reply)
  is_reply _ = false

  abbrev pub unreplied : Scheme
  unreplied = record {
    Told = Bool;
    more = told_votes;
    Up = λ free a n. (a ≡ false) × IsLate n;
    Disk = λ a n. (a ≡ false) × IsLateDisk n.name n.durable n.settled;
    Boots = λ a n. (a ≡ false) × IsLateBoot n;
    Ready = λ n. Unit {0};
    Takes = λ o. RowHolds Awaits Any o;
    special = λ r. is_init (Serves r) || is_reply r;
  }

  -- Acts.

  table_awaits : (a : table.Act) (bs : List Branch) → HoldsIn Awaits a → ((b : Branch) → In b bs → Awaits b) → (x : Branch) → In x (table_after a bs) → Awaits x
  table_awaits (table.Notes b) bs q h x i = elim (in_put b x bs i) [ inl same ↦ subst Awaits (sym same) q | inr old ↦ h x old ]
  table_awaits (table.Accepts b c) bs q h x i = elim (in_put (record b { accepted = b.accepted ++ c ∷ [] }) x bs i) [ inl same ↦ subst Awaits (sym same) q | inr old ↦ h x old ]
  table_awaits (table.Prepares b) bs q h x i = elim (in_put (record b { state = Prepared }) x bs i) [ inl same ↦ subst Awaits (sym same) (awaits_steady.prepares b q.1 q.0) | inr old ↦ h x old ]
  table_awaits (table.Settles k o reason r) bs q h x i = h x (in_cut k x bs i)
  table_awaits (table.Leaves k) bs q h x i = h x (in_cut k x bs i)
  table_awaits (table.Undoes k) bs q h x i = h x (in_cut k x bs i)
  table_awaits _ bs q h x i = h x i

  changed_awaits : (id : Id) (bs : List Branch) → ((b : Branch) → In b bs → Awaits b) → (x : Branch) → In x (with_changed id bs) → Awaits x
  changed_awaits id [] h x i = absurd i
  changed_awaits id (b ∷ bs) h x i = go (same_id id b.key.serial) i (changed_awaits id bs (λ y j. h y (inr j)) x)
    where
      go : (t : Bool) → In x (if t then record b { changed = true } ∷ bs else b ∷ with_changed id bs) → (In x (with_changed id bs) → Awaits x) → Awaits x
      go true (inl same) more = subst Awaits (sym same) (h b (inl refl))
      go true (inr j) more = h x (inr j)
      go false (inl same) more = subst Awaits (sym same) (h b (inl refl))
      go false (inr j) more = more j

  settled_late : (a : table.Act) (moment : ℕ) (ss : List Settlement) → HoldsIn Awaits a → NotCommitted ss → NotCommitted (settled_more (settlement_of a moment) ss)
  settled_late (table.Settles k Commit reason r) moment ss (b, h, key, nothing, written, owed) q s (inl same) e =
      absurd (lacks b h nothing (ap (λ (j : BranchKey). j.serial) key ∙ (ap (λ (x : Settlement). x.serial) (sym same) ∙ e)))
  settled_late (table.Settles k Commit reason r) moment ss h q s (inr i) e = q s i e
  settled_late (table.Settles k Abort reason r) moment ss h q s (inl same) e = ap (λ (x : Settlement). x.outcome) same
  settled_late (table.Settles k Abort reason r) moment ss h q s (inr i) e = q s i e
  settled_late (table.Undoes k) moment ss h q s (inl same) e = ap (λ (x : Settlement). x.outcome) same
  settled_late (table.Undoes k) moment ss h q s (inr i) e = q s i e
  settled_late _ moment ss h q s i e = q s i e

  boot_same : (o : Option Settlement) (d : Durable) → (world.with_settlement o d).boot ≡ d.boot
  boot_same None d = refl
  boot_same (Some s) d = refl

  act_late : (free : Bool) (o : Option Act) (n : Node) → RowHolds Awaits Any o → Fits free o n → IsLate n → IsLate (node_after o n)
  act_late free None n q f h = h
  act_late free (Some (Tables a moment)) n q f h = record { settled = settled_late a moment n.settled q h.settled; branches = table_awaits a n.volatile.branches q h.branches; drawn = subst (λ boot. IsDrawn n.name boot n.volatile.drawn serial) (sym (boot_same (settlement_of a moment) _)) h.drawn }
  act_late free (Some (world.Changes t id file cs keys)) n q f h = record { settled = h.settled; branches = changed_awaits id n.volatile.branches h.branches; drawn = h.drawn }
  act_late free (Some (world.Directs file cs s)) n q f h = record {
    settled = λ x i e. elim i [
      | inl same ↦ absurd (undrawn n serial h.drawn (sym e ∙ (ap (λ (y : Settlement). y.serial) same ∙ ap (λ (y : Settlement). y.serial) f)))
      | inr j ↦ h.settled x j e
    ];
    branches = h.branches;
    drawn = drawn_more n.name n.durable.boot n.volatile.drawn serial h.drawn;
  }
  act_late free (Some world.Draws) n q f h = record { settled = h.settled; branches = h.branches; drawn = drawn_more n.name n.durable.boot n.volatile.drawn serial h.drawn }
  act_late free (Some Boots) n q f h = absurd q
  act_late free (Some (world.Formats slots journal)) n q f h = absurd f
  act_late free (Some _) n q f h = record { settled = h.settled; branches = h.branches; drawn = h.drawn }

  -- no row shows its vote
  act_told : (o : Option Act) (ls : List Line) (a : Bool) → RowHolds Awaits Any o → VotesSo o ls → told_votes ls a ≡ a
  act_told o ls a q v = go o q v
    where
      not_it : (x : Id) → (x ≡ serial → ⊥) → same_id serial x ≡ false
      not_it x apart = by (same_id serial x) refl
        where
          by : (b : Bool) → same_id serial x ≡ b → b ≡ false
          by true e = absurd (apart (sym (id_is serial x e)))
          by false e = refl

      tabled : (x : table.Act) (moment : ℕ) → HoldsIn Awaits x → VotesSo (Some (Tables x moment)) ls → told_votes ls a ≡ a
      tabled (table.Prepares b) moment (h, all) w = ap (λ ms. told_votes ms a) w ∙ (ap (λ b. a || b) (not_it b.key.serial (λ same. not_all b.managers (h same).2 all)) ∙ or_false a)
      tabled (table.Leaves k) moment (b, h, key, all, voting, none) w =
          ap (λ ms. told_votes ms a) w ∙ (ap (λ b. a || b) (not_it k.serial (λ same. not_all b.managers (h (ap (λ (j : BranchKey). j.serial) key ∙ same)).2 all)) ∙ or_false a)
      tabled (table.Accepts b c) moment h w = ap (λ ms. told_votes ms a) w ∙ or_false a
      tabled (table.Notes b) moment h w = told_steady ls a w
      tabled (table.Settles k out reason r) moment h w = told_steady ls a w
      tabled (table.Acknowledges k) moment h w = told_steady ls a w
      tabled (table.Releases x m) moment h w = told_steady ls a w
      tabled (table.Undoes k) moment h w = told_steady ls a w
      tabled (table.Sends m) moment h w = told_steady ls a w
      tabled (table.Prints l) moment h w = told_steady ls a w

      go : (o : Option Act) → RowHolds Awaits Any o → VotesSo o ls → told_votes ls a ≡ a
      go None q w = told_steady ls a w
      go (Some (Tables x moment)) q w = tabled x moment q w
      go (Some _) q w = told_steady ls a w

  -- a node that falls
  fallen_late : (n : Node) → IsUp n → IsLate n → IsLateDisk n.name n.durable n.settled
  fallen_late n up h = record {
    settled = h.settled;
    unrecorded = λ r i e.
        let b = branch_of n up.table r i in
        both_ways (is_prepared b.branch.state) (h.branches b.branch b.there (sym (ap (λ (q : LogRecord). q.serial) b.is) ∙ e)).1 (ap is_prepared b.state);
    of = drawn_of n.name n.durable.boot n.volatile.drawn serial h.drawn;
  }

  half_late : (o : Option Id) (standing : List ℕ → Map) (name : List ℕ) (d : Durable) (ss : List Settlement) → IsLateDisk name d ss → IsLateDisk name (with_half o standing d) ss
  half_late None standing name d ss h = h
  half_late (Some id) standing name d ss h = record { settled = h.settled; unrecorded = h.unrecorded; of = h.of }

  booted_none : (d : Durable) → NoRecord d → (b : Branch) → In b (table.branches_of (prepared_left d)) → b.key.serial ≡ serial → ⊥
  booted_none d h b i e =
      let r = branch_in (prepared_left d) b i in
      h r.0 (ordered_in (world.prepared_serials d.units.entries) (prepared_of (records_in d.log)) r.0 r.1) (ap (λ (x : Branch). x.key.serial) (sym r.2) ∙ e)

  closes_told : (bs : List Branch) (a : Bool) → ((b : Branch) → In b bs → b.key.serial ≡ serial → ⊥) → told_votes (map prepared_line bs) a ≡ a
  closes_told [] a h = refl
  closes_told (b ∷ bs) a h = closes_told bs (a || same_id serial b.key.serial) (λ x i. h x (inr i)) ∙ (ap (λ t. a || t) (off (same_id serial b.key.serial) refl) ∙ or_false a)
    where
      off : (t : Bool) → same_id serial b.key.serial ≡ t → t ≡ false
      off true e = absurd (h b (inl refl) (sym (id_is serial b.key.serial e)))
      off false e = refl

  pub unreplied_keeps : Keeps unreplied
  unreplied_keeps = record {
    none = λ a. refl;
    append = told_append;
    plain = λ ls a h v. told_steady ls a v;
    closes = λ a n m log up h. (
      closes_told (table.branches_of (prepared_left n.durable)) a (booted_none n.durable (λ r i. (h.1).unrecorded r (subst (λ ss. In r (prepared_of (records_in ss))) (sym log) i))) ∙ h.0,
      h.1,
    );
    same = λ a n m name durable settled h. (h.0, subst (λ x. IsLateDisk x m.durable m.settled) (sym name) (subst (λ d. IsLateDisk n.name d m.settled) (sym durable) (subst (IsLateDisk n.name n.durable) (sym settled) h.1)));
    row = λ free r n a q f up h. (act_told r.act r.lines a q f.votes ∙ h.0, act_late free r.act n q f.fits h.1);
    under = λ free r n a act q f is d up h. (h.0, fallen_late (acted act n) up (subst (λ o. IsLate (node_after o n)) is (act_late free r.act n q f.fits h.1)));
    falls = λ free a n up h. (h.0, fallen_late n up h.1);
    weaken = λ free a n h. h;
    half = λ a n standing k ready may h. (h.0, half_late (aborted_prepared n.under_way n.durable) standing n.name n.durable n.settled h.1);
    spoils = λ a n h. (h.0, record { settled = (h.1).settled; unrecorded = (h.1).unrecorded; of = (h.1).of });
    boots = λ a n k h. (told_steady (answers.last_lines n) a (lasts_voteless n) ∙ h.0, record { settled = (h.1).settled; unrecorded = (h.1).unrecorded; home = (h.1).of.0; earlier = later n.durable.boot (h.1).of.1; branches = booted_none n.durable (h.1).unrecorded });
    booting = λ a n k h. (h.0, record { settled = (h.1).settled; unrecorded = (h.1).unrecorded; of = ((h.1).of.0, more n.durable.boot (h.1).of.1) });
    undoes = λ a n u next h. (ap (λ t. t || false) h.0, record { settled = undone n (unit_key u) h.1; unrecorded = (h.1).unrecorded; home = (h.1).home; earlier = (h.1).earlier; branches = λ b i. (h.1).branches b (in_cut (unit_key u) b n.volatile.branches i) });
    undoing = λ a n u next h. (h.0, record { settled = undone n (unit_key u) h.1; unrecorded = (h.1).unrecorded; of = ((h.1).home, below n.durable.boot (h.1).earlier) });
    rests = λ a n k h. (h.0, record { settled = (h.1).settled; unrecorded = (h.1).unrecorded; of = ((h.1).home, below n.durable.boot (h.1).earlier) });
    none_ready = λ n e. tt;
    same_ready = λ n m e h. tt;
    comes = λ a n up h closed. (h.0, record { settled = (h.1).settled; branches = λ b i same. absurd ((h.1).branches b i same); drawn = ((h.1).home, inl (h.1).earlier) });
  }
    where
      later : (boot : ℕ) → serial.boot ≤ boot → serial.boot < boot + 1
      later boot h = omega arith

      more : (boot : ℕ) → serial.boot ≤ boot → serial.boot ≤ boot + 1
      more boot h = omega arith

      below : (boot : ℕ) → serial.boot < boot → serial.boot ≤ boot
      below boot h = omega arith

      undone : (n : Node) (k : BranchKey) → IsLateBoot n → NotCommitted (settlement k Abort SegFail (world.next_moment n) ∷ n.settled)
      undone n k h s (inl same) e = ap (λ (x : Settlement). x.outcome) same
      undone n k h s (inr i) e = h.settled s i e

  -- Tasks.

  takes_of : (rs : List Row) → RowsHold Awaits Any rs → AllTake unreplied rs
  takes_of [] h = tt
  takes_of (r ∷ rs) h = (h.0, takes_of rs h.1)

  -- what a task makes of branches besides
  new_awaits : (n : Node) (b : Branch) → IsLate n → b.key.serial ≡ next_id n → Awaits b
  new_awaits n b h is same = absurd (undrawn n serial h.drawn (sym same ∙ is))

  votes_await : (bs : List Branch) (m : Message) (k : message.Kind) → VoteHolds Awaits bs m k
  votes_await bs m message.Yes = λ b i key h. h
  votes_await bs m message.ReadOnly = λ b i key h. h
  votes_await bs m _ = tt

  -- where a reply is one of another manager, or is a veto, or is for another branch
  abbrev pub RepliesElse : Shared → Node → Task → Type 0
  RepliesElse s n (Serves (AckEvent who x reply)) = (id : Id) → answers.serial_named s n who ≡ Some id → EventHolds Awaits n.volatile.branches (rows.Replied id x reply)
  RepliesElse s n _ = Unit {0}

  task_awaits : (s : Shared) (n : Node) (t : Task) → powers (task_service t) ≡ false → IsLate n → RepliesElse s n t → TaskHolds Awaits Any s n t
  task_awaits s n (Serves r) off h else_so = of_request r off else_so
    where
      of_request : (r : Request) → powers (service r) ≡ false → RepliesElse s n (Serves r) → TaskHolds Awaits Any s n (Serves r)
      of_request (StartTrans label seconds) off v = new_awaits n (rows.blank (next_id n) (next_id n) None table.Active (answers.due_after n seconds)) h refl
      of_request (StartBranch label) off v = λ t bid. new_awaits n (rows.blank t (next_id n) (Some bid) table.Joining None) h refl
      of_request (JoinRm label x) off v = λ b is y i same active k. joined_awaits x y k
      of_request (AckEvent who x reply) off v = v
      of_request (DeclareRm x) off v = tt
      of_request (ForgetRm x) off v = tt
      of_request Boot off v = let no : ⊥ = cc in absurd no
      of_request _ off v = tt
  task_awaits s n (Takes m) off h else_so = votes_await n.volatile.branches m m.kind
  task_awaits s n (Hears m) off h else_so = votes_await n.volatile.branches m m.kind
  task_awaits s n Restarts off h else_so = let no : ⊥ = cc in absurd no
  task_awaits s n _ off h else_so = tt

  abbrev pub Unreplied : Bool → Node → Type 0
  Unreplied a n = Kept unreplied unreplied_keeps a n

  -- a task that makes no volume
  pub own_unreplied : (a : Bool) (s : Shared) (stops : ℕ) (n : Node) (task : Task) (c : Choice) (rises : Cause → Type 0) → IsSoundNode s n → is_init task ≡ false → (n.up ≡ true → RepliesElse s n task) → TaskAllowed s stops n task rises c → Unreplied a n →
      Unreplied (told_votes (task_effect s stops n task c).lines a) (task_effect s stops n task c).node
  own_unreplied a s stops n task c rises sound other else_so may h = go n.up refl (powers (task_service task)) refl
    where
      any : (powers (task_service task) ≡ false → AllTake unreplied ((task_service task).rows s n)) → Unreplied (told_votes (task_effect s stops n task c).lines a) (task_effect s stops n task c).node
      any takes = else_effect unreplied unreplied_keeps s stops n a sound.kept h task other takes (λ on. tt) c rises may

      go : (b : Bool) → n.up ≡ b → (p : Bool) → powers (task_service task) ≡ p → Unreplied (told_votes (task_effect s stops n task c).lines a) (task_effect s stops n task c).node
      go true up p is = any (λ off. takes_of ((task_service task).rows s n) (task_holds Awaits Any awaits_steady s n ((h.runs up).1).branches task (task_awaits s n task off (h.runs up).1 (else_so up))))
      go false down true on = any (λ off. absurd (both_ways (powers (task_service task)) off on))
      go false down false off = down_effect unreplied unreplied_keeps s stops n task a sound.kept h off down c rises may

  not_init : (task : Task) → is_special unreplied task ≡ false → is_init task ≡ false
  not_init (Serves r) e = (none_holds (is_init (Serves r)) (is_reply r) e).0
  not_init _ e = refl

  -- a task that is no such reply
  plain_else : (s : Shared) (n : Node) (task : Task) → is_special unreplied task ≡ false → RepliesElse s n task
  plain_else s n (Serves (AckEvent who x reply)) e = λ id is b i same plain h. by b (same_name x rm) refl plain h
    where
      by : (b : Branch) (t : Bool) → same_name x rm ≡ t → is_veto reply ≡ false → Awaits b → Awaits (with_reply x reply b)
      by b true is plain h = let no : true ≡ false = sym (λ i. is i && not (plain i)) ∙ e in let none : ⊥ = cc in absurd none
      by b false is plain h = replied_awaits x reply b (λ same. both_ways (same_name x rm) is (Rattle.commit_protocol.proofs.Lists.same_name-eq x rm same)) h
  plain_else s n (Serves _) e = tt
  plain_else s n _ e = tt

  pub unreplied_tracks : Tracks unreplied unreplied_keeps serial.node
  unreplied_tracks = record {
    own = λ a s stops n task c rises named sound plain ready may h. own_unreplied a s stops n task c rises sound (not_init task plain) (λ up. plain_else s n task plain) may h;
    beside = λ a s stops n m task c rises other sound may h.
        subst (λ b. Unreplied b n) (sym (foreign (task_effect s stops m task c).lines a (λ l i is. other (sym (vote_owns s stops m task c rises sound may l serial i (here_voter l is)))))) h;
  }
