-- Each resource manager that joined a branch has replied before the branch is prepared, leaves or is committed.
use Rattle.std.proofs.Common.{◌≡◌, ◌⊎◌, ℕ, Bool, true, false, not, ◌&&◌, ◌||◌, List, [], ◌∷◌, ◌++◌, inl, inr, Option, Some, None, if◌then◌else◌, refl, sym, ◌∙◌, ap, subst}
use Rattle.std.specs.List.{list_any}
use Rattle.std.specs.Prelude.{is_some}
use Rattle.std.proofs.lemmas.Bool.{and_parts, both_ways}
use Rattle.std.specs.Str.{bytes_eq}
use Rattle.std.proofs.lemmas.Slice.Eq.{bytes_eq-Decides}
use Rattle.vms_model.specs.Ids.{Id}
use Rattle.vms_model.specs.Transactions as settles
use Rattle.vms_model.specs.Transactions.{Abort, Commit}
use Rattle.world_laws.specs.transcript_model.Lines as line
use Rattle.world_laws.specs.transcript_model.Lines.{Line, Cause}
use Rattle.world_laws.specs.script_model.Statements.{At, Request, Init, JoinRm, AckEvent, Named as SaidName, Reading, Says, Blank, Bad}
use Rattle.world_laws.specs.script_model.Grammar.{reading}
use Rattle.records_model.specs.History.{same_id}
use Rattle.commit_protocol.specs.Messages.{Name, Reply, RmEvent, same_name}
use Rattle.commit_protocol.specs.Table as table
use Rattle.commit_protocol.specs.Table.{Active, Branch, Key as BranchKey, Manager, Notes, State, branch_serials, child, find_serial, put}
use Rattle.commit_protocol.specs.Rows as rows
use Rattle.commit_protocol.specs.Rows.{is_veto, note_row, note_state, row, with_manager}
use Rattle.commit_protocol.specs.Allowed.{answers_waiting, is_active, is_prepared, is_working}
use Rattle.commit_protocol.specs.World.{In}
use Rattle.commit_protocol.proofs.Lists.{in_left, in_right, same_name-eq, same_name-true}
use Rattle.world_laws.specs.run_model.World.{DiskCounts, Node, Tables, World, acted, find_branch, find_node, opened, next_moment, tm_of}
use Rattle.world_laws.specs.run_model.Answers as answers
use Rattle.world_laws.specs.run_model.Answers.{Row, Serves, Task, branch_labelled, is_joinable, just, refused_before_reading, serial_named, service, table_rows, task_service, told_rows}
use Rattle.world_laws.specs.run_model.Statements.{RoseAt, Step, stops_at}
use Rattle.world_laws.specs.run_model.Steps.{Choice, Cut, TaskAllowed, TaskEffect, Unpowered, Whole, WithoutMemory, begun, whole, node_after_rows, task_effect}
use Rattle.world_laws.specs.run_model.StepLaws.{is_refusal}
use Rattle.world_laws.specs.run_model.Transcript.{AreOpening, Entry, Legal, Turn}
use Rattle.world_laws.proofs.run_model.NodeLists.{put_node, some_is}
use Rattle.world_laws.proofs.run_model.Refusing.{same_last}
use Rattle.world_laws.proofs.run_model.TaskLemmas.{Failing, First, Lacking, Late, Outcome, Success, effect_name, outcome}
use Rattle.world_laws.specs.Nodes.{IsUp}
use Rattle.world_laws.specs.Running.{IsDrawn}
use Rattle.world_laws.proofs.AnswerLemmas.{neither}
use Rattle.world_laws.proofs.IdLemmas.{id_is, id_itself}
use Rattle.world_laws.proofs.TableLemmas.{in_serials, one_branch, own_in}
use Rattle.world_laws.proofs.UpLemmas.{differ}
use Rattle.run_laws.specs.Causes.{Names}
use Rattle.run_laws.specs.Naming.{IsNamed, ToldLabel}
use Rattle.run_laws.specs.Promises.{ShownThere, WasLast, commitment, settlements_of}
use Rattle.run_laws.proofs.CausesHold.{Known, named_so}
use Rattle.run_laws.proofs.CauseRuns.{commits_hold, known_before}
use Rattle.run_laws.proofs.Deciding.{join_legal, split_legal}
use Rattle.run_laws.proofs.Dying.{runs_used}
use Rattle.run_laws.proofs.Ending.{Done, done, found_serial, named_branch}
use Rattle.run_laws.proofs.Keeping.{is_init}
use Rattle.run_laws.proofs.Labelling.{refused_rest, served_up}
use Rattle.run_laws.proofs.LastBoots.{lasts_hold}
use Rattle.run_laws.proofs.Making.{state_holds}
use Rattle.run_laws.proofs.Named.{Ended, Refused, Turned, ended}
use Rattle.run_laws.proofs.Noting.{serial_in}
use Rattle.run_laws.proofs.NamedRuns.{legal_named}
use Rattle.run_laws.proofs.Settling.{IsOpen}
use Rattle.run_laws.proofs.SoundWorlds.{IsPlainReading, IsSound, Tracked, legal_sound, opening_sound, sound_node, turn_tracked}
use Rattle.run_laws.proofs.VoteOwners.{step_voter, voter_in}
use Rattle.manager_laws.specs.Replying.{AnswersAsking, Decides, HasReplied, IsTaken, RepliesHold}
use Rattle.manager_laws.proofs.Requests.{init_on, reply_fits, request_on}
use Rattle.manager_laws.proofs.Taking.{IsAsking}
use Rattle.manager_laws.proofs.Unreplied.{AreAsked, Awaits, joined_asked, IsLate, Missing, NotCommitted, RepliesElse, Unreplied, awaits_steady, own_unreplied, replied_awaits, told_append, told_in, told_steady, told_votes, unreplied, unreplied_keeps, unreplied_tracks, votes_here}

-- no branch that is found stands in a table in which none is found
pub found_none : (serial : Id) (bs : List Branch) → find_branch serial bs ≡ None → (b : Branch) → In b bs → b.key.serial ≡ serial → ⊥
found_none serial [] e b i same = i
found_none serial (x ∷ bs) e b i same = go (same_id serial x.key.serial) refl e i (λ k j. found_none serial bs k b j same)
  where
    go : (t : Bool) → same_id serial x.key.serial ≡ t → ◌≡◌ {A = Option Branch} (if t then Some x else find_branch serial bs) None → In b (x ∷ bs) → (find_branch serial bs ≡ None → In b bs → ⊥) → ⊥
    go true is k j more = let no : true ≡ false = ap is_some k in let none : ⊥ = cc in none
    go false is k (inl one) more = both_ways (same_id serial x.key.serial) is (ap (same_id serial) (ap (λ (y : Branch). y.key.serial) (sym one) ∙ same) ∙ id_itself serial)
    go false is k (inr j) more = more k j

pub found_branch_in : (serial : Id) (bs : List Branch) (b : Branch) → find_branch serial bs ≡ Some b → In b bs × (b.key.serial ≡ serial)
found_branch_in serial bs b e = (serial_in serial bs b (found_serial serial bs b e), Rattle.commit_protocol.proofs.Lists.find_serial-serial serial bs b (found_serial serial bs b e))

-- a reply for which an event of the manager waits is one to an event that asks
waiting_fits : (reply : Reply) (o : Option RmEvent) → (o ≡ None) ⊎ ((e : RmEvent) × IsAsking e × (o ≡ Some e)) → answers_waiting o reply ≡ true → AnswersAsking reply
waiting_fits reply o (inl none) h = let no : false ≡ true = ap (λ x. answers_waiting x reply) (sym none) ∙ h in let never : ⊥ = cc in absurd never
waiting_fits reply o (inr (e, inl prepare, is)) h = inl (ap (λ x. answers_waiting (Some x) reply) (sym prepare) ∙ (ap (λ x. answers_waiting x reply) (sym is) ∙ h))
waiting_fits reply o (inr (e, inr one, is)) h = inr (ap (λ x. answers_waiting (Some x) reply) (sym one) ∙ (ap (λ x. answers_waiting x reply) (sym is) ∙ h))

asked_fits : (rm : Name) (reply : Reply) (ms : List Manager) → ((m : Manager) → In m ms → m.rm ≡ rm → (m.event ≡ None) ⊎ ((e : RmEvent) × IsAsking e × (m.event ≡ Some e))) → list_any (λ m. same_name m.rm rm && answers_waiting m.event reply) ms ≡ true → AnswersAsking reply
asked_fits rm reply [] h may = let no : ⊥ = cc in absurd no
asked_fits rm reply (x ∷ ms) h may = go (same_name x.rm rm && answers_waiting x.event reply) refl may (asked_fits rm reply ms (λ m i. h m (inr i)))
  where
    go : (b : Bool) → (same_name x.rm rm && answers_waiting x.event reply) ≡ b → (b || list_any (λ m. same_name m.rm rm && answers_waiting m.event reply) ms) ≡ true → (list_any (λ m. same_name m.rm rm && answers_waiting m.event reply) ms ≡ true → AnswersAsking reply) → AnswersAsking reply
    go true is k more = let parts = and_parts (same_name x.rm rm) (answers_waiting x.event reply) is in waiting_fits reply x.event (h x (inl refl) (same_name-true x.rm rm parts.0)) parts.1
    go false is k more = more k

module _ (tid serial : Id) (rm : Name) where
  abbrev On : Bool → World → Type 0
  On a w = Tracked (unreplied tid serial rm) (unreplied_keeps tid serial rm) serial.node a w

  abbrev more : List Line → Bool → Bool
  more ls a = told_votes tid serial rm ls a

  -- One entry.

  -- A reply of the manager: what is known is kept, or it is a reply for the branch that is taken.
  module _ (es : List Entry) (w v : World) (known : Known es w) (sound : IsSound w) (who : SaidName) (reply : Reply) (plain : is_veto reply ≡ false) where
    abbrev Taken : List Line → Type 0
    Taken lines = (events : List Line) × (answer : Line) × (lines ≡ events ++ answer ∷ []) × Names es who tid serial × AnswersAsking reply × IsTaken answer

    reply_on : (lines : List Line) (a : Bool) → Step w (At serial.node (AckEvent who rm reply)) lines v → On a w → Taken lines ⊎ On (more lines a) v
    reply_on lines a step h = request_on (unreplied tid serial rm) (unreplied_keeps tid serial rm) serial.node w v (AckEvent who rm reply) lines a (Taken lines) refl step (λ n c found allowed shows k. one n c found allowed shows k) h
      where
        Effect : Node → Choice → TaskEffect
        Effect n c = task_effect w.shared (stops_at serial.node w) n (Serves (AckEvent who rm reply)) c

        one : (n : Node) (c : Choice) → find_node serial.node w.nodes ≡ Some n → TaskAllowed w.shared (stops_at serial.node w) n (Serves (AckEvent who rm reply)) (λ cause. RoseAt w serial.node cause v.disks) c → lines ≡ (Effect n c).lines ++ (Effect n c).answer ∷ [] →
            Unreplied tid serial rm a n → Taken lines ⊎ Unreplied tid serial rm (more (Effect n c).lines a) (Effect n c).node
        one n c found allowed shows k = named (serial_named w.shared n who) refl
          where
            else_kept : (n.up ≡ true → RepliesElse tid serial rm w.shared n (Serves (AckEvent who rm reply))) → Taken lines ⊎ Unreplied tid serial rm (more (Effect n c).lines a) (Effect n c).node
            else_kept else_so = inr (own_unreplied tid serial rm a w.shared (stops_at serial.node w) n (Serves (AckEvent who rm reply)) c (λ cause. RoseAt w serial.node cause v.disks) (sound_node w sound serial.node n found) refl else_so allowed k)

            -- it is one for the branch
            taken : (b : Branch) → serial_named w.shared n who ≡ Some serial → find_branch serial n.volatile.branches ≡ Some b → Taken lines ⊎ Unreplied tid serial rm (more (Effect n c).lines a) (Effect n c).node
            taken b is at = go (outcome w.shared (stops_at serial.node w) n (Serves (AckEvent who rm reply)) (λ cause. RoseAt w serial.node cause v.disks) c allowed)
              where
                names : refused_before_reading w.shared n (service (AckEvent who rm reply)) ≡ None → Names es who tid serial
                names first =
                    let up = served_up n _ first in
                    let there = found_branch_in serial n.volatile.branches b at in
                    let late = ((k.runs up).1).branches b there.0 there.1 in
                    let open_k : IsOpen n.volatile.branches b.key = record { branch = b; there = there.0; key = refl; unprepared = late.1 } in
                    subst (λ (j : BranchKey). Names es who j.tid j.serial) late.0 (named_so es w known serial.node n found who serial b.key is open_k there.1)

                -- the event for which it waits asks
                fits : refused_before_reading w.shared n (service (AckEvent who rm reply)) ≡ None → AnswersAsking reply
                fits first =
                    let there = found_branch_in serial n.volatile.branches b at in
                    let asked = ((k.runs (served_up n _ first)).1).branches b there.0 there.1 in
                    asked_fits rm reply b.managers asked.3 (reply_fits w.shared n who rm reply serial b first is at)

                go : Outcome w.shared (stops_at serial.node w) n (Serves (AckEvent who rm reply)) (λ cause. RoseAt w serial.node cause v.disks) (Effect n c) → Taken lines ⊎ Unreplied tid serial rm (more (Effect n c).lines a) (Effect n c).node
                go (First refusal first same) = inr (subst (λ (x : TaskEffect). Unreplied tid serial rm (more x.lines a) x.node) (sym same) k)
                go (Late outturn refusal turns first late same) = let no : ⊥ = cc in absurd no
                go (Lacking first memory same) = let no : ⊥ = cc in absurd no
                go (Success outturn turns first late same) = inl ((Effect n c).lines, (Effect n c).answer, shows, names first, fits first, inl (ap (λ (x : TaskEffect). x.answer) same))
                go (Failing cause shown true first rose ls down answered_so ends) = inl ((Effect n c).lines, (Effect n c).answer, shows, names first, fits first, inl answered_so)
                go (Failing cause shown false first rose ls down answered_so ends) = inl ((Effect n c).lines, (Effect n c).answer, shows, names first, fits first, inr (cause, answered_so))

            named : (o : Option Id) → serial_named w.shared n who ≡ o → Taken lines ⊎ Unreplied tid serial rm (more (Effect n c).lines a) (Effect n c).node
            named None is = else_kept (λ up id e. let no : false ≡ true = ap is_some (sym is ∙ e) in let none : ⊥ = cc in absurd none)
            named (Some z) is = same (same_id serial z) refl
              where
                at : serial ≡ z → (o : Option Branch) → find_branch serial n.volatile.branches ≡ o → Taken lines ⊎ Unreplied tid serial rm (more (Effect n c).lines a) (Effect n c).node
                at mine (Some b) there = taken b (is ∙ ap Some (sym mine)) there
                at mine None there = else_kept (λ up id e b i key veto h. absurd (found_none serial n.volatile.branches there b i (key ∙ (some_is id z (sym e ∙ is) ∙ sym mine))))

                same : (t : Bool) → same_id serial z ≡ t → Taken lines ⊎ Unreplied tid serial rm (more (Effect n c).lines a) (Effect n c).node
                same true mine = at (id_is serial z mine) (find_branch serial n.volatile.branches) refl
                same false other = else_kept (λ up id e b i key veto h this. absurd (both_ways (same_id serial z) other (ap (same_id serial) (sym (some_is id z (sym e ∙ is)) ∙ (sym key ∙ this)) ∙ id_itself serial)))

  -- Entries.

  -- whether a reading is none of which something is to be said
  data Kind (r : Reading) : Type 0 where
    Plain : IsPlainReading (unreplied tid serial rm) (unreplied_keeps tid serial rm) serial.node (unreplied_tracks tid serial rm) r → Kind r
    Makes : (slots journal : ℕ) → r ≡ Says (At serial.node (Init slots journal)) → Kind r
    Replying : (who : SaidName) (reply : Reply) → is_veto reply ≡ false → r ≡ Says (At serial.node (AckEvent who rm reply)) → Kind r

  never : (b : Bool) → (b && false) ≡ false
  never true = refl
  never false = refl

  kind : (r : Reading) → Kind r
  kind (Says (At node request)) = of_request request (bytes_eq node serial.node) refl
    where
      plainly : (request : Request) → (b : Bool) → bytes_eq node serial.node ≡ b → (b && (is_init (Serves request) || Rattle.manager_laws.proofs.Unreplied.is_reply tid serial rm request)) ≡ false → Kind (Says (At node request))
      plainly request b is e = Plain (subst (λ t. (t && (is_init (Serves request) || Rattle.manager_laws.proofs.Unreplied.is_reply tid serial rm request)) ≡ false) (sym is) e)

      of_request : (request : Request) (b : Bool) → bytes_eq node serial.node ≡ b → Kind (Says (At node request))
      of_request (Init slots journal) true is = Makes slots journal (ap (λ x. Says (At x (Init slots journal))) ((bytes_eq-Decides node serial.node).0 is))
      of_request (Init slots journal) false is = plainly (Init slots journal) false is refl
      of_request (AckEvent who x reply) false is = plainly (AckEvent who x reply) false is refl
      of_request (AckEvent who x reply) true is = go (same_name x rm) refl (is_veto reply) refl
        where
          go : (s : Bool) → same_name x rm ≡ s → (t : Bool) → is_veto reply ≡ t → Kind (Says (At node (AckEvent who x reply)))
          go true same false plain = Replying who reply plain (λ i. Says (At ((bytes_eq-Decides node serial.node).0 is i) (AckEvent who (same_name-true x rm same i) reply)))
          go true same true veto = plainly (AckEvent who x reply) true is (λ i. same i && not (veto i))
          go false other t veto = plainly (AckEvent who x reply) true is (ap (λ y. y && not (is_veto reply)) other)
      of_request request b is = plainly request b is (never b)
  kind (Says _) = Plain tt
  kind _ = Plain tt

  -- what many entries tell
  abbrev told : List Entry → Bool
  told [] = false
  told (e ∷ es) = more e.lines (told es)

  -- Many entries, behind some at which nothing was told yet.
  module _ (nodes : List Node) (disks : List DiskCounts) (opening : AreOpening nodes) (earlier : List Entry) (base : World) (begins : Legal (opened nodes disks) earlier base) (used : base.shared.in_use ≡ true) (awaits : On false base) where
    abbrev Replied : List Entry → Type 0
    Replied es = HasReplied es earlier tid serial rm

    later_replied : (e : Entry) (es : List Entry) → Replied es → Replied (e ∷ es)
    later_replied e es (before, who, reply, events, answer, there, names, asking, plain, taken) =
        (before, who, reply, events, answer, record { after = e ∷ there.after; entry = there.entry; stands = ap (λ xs. e ∷ xs) there.stands; said = there.said; shown = there.shown }, names, asking, plain, taken)

    turn_on : (e : Entry) (es : List Entry) (w v : World) → Legal base es w → Turn w (reading e.source.text) e.lines v → On (told es) w → Replied (e ∷ es) ⊎ On (told (e ∷ es)) v
    turn_on e es w v legal turn h = go (kind (reading e.source.text))
      where
        whole : Legal (opened nodes disks) (es ++ earlier) w
        whole = join_legal (opened nodes disks) base w es earlier begins legal

        sound : IsSound w
        sound = legal_sound (opened nodes disks) w (es ++ earlier) (opening_sound nodes disks opening) whole

        known : Known (es ++ earlier) w
        known = known_before nodes disks (es ++ earlier) w opening whole

        go : Kind (reading e.source.text) → Replied (e ∷ es) ⊎ On (told (e ∷ es)) v
        go (Plain p) = inr (turn_tracked (unreplied tid serial rm) (unreplied_keeps tid serial rm) serial.node (unreplied_tracks tid serial rm) w v (λ n found. tt) (reading e.source.text) e.lines (told es) p turn sound h)
        go (Makes slots journal is) = inr (init_on (unreplied tid serial rm) (unreplied_keeps tid serial rm) serial.node w v slots journal e.lines (told es) (runs_used base w es legal used).1 (subst (λ r. Turn w r e.lines v) is turn) h)
        go (Replying who reply plain is) = elim (reply_on (es ++ earlier) w v known sound who reply plain e.lines (told es) (subst (λ r. Turn w r e.lines v) is turn) h) [
          | inl taken ↦ inl (es, who, reply, taken.0, taken.1, record { after = []; entry = e; stands = refl; said = is; shown = taken.2 }, taken.3, taken.4, plain, taken.5)
          | inr k ↦ inr k
        ]

    pub walk : (es : List Entry) (w : World) → Legal base es w → Replied es ⊎ On (told es) w
    walk [] w legal = inr (subst (On false) (sym legal) awaits)
    walk (e ∷ es) w legal = elim (walk es legal.0 legal.1) [ inl r ↦ inl (later_replied e es r) | inr h ↦ turn_on e es legal.0 w legal.1 legal.2 h ]

-- What a JOIN_RM leaves.

-- none of the managers has this name, where none is found
none_named : (rm : Name) (ms : List Manager) → list_any (λ m. same_name m.rm rm) ms ≡ false → (m : Manager) → In m ms → m.rm ≡ rm → ⊥
none_named rm [] e m i name = i
none_named rm (x ∷ ms) e m i name = go (same_name x.rm rm) refl e i (λ k j. none_named rm ms k m j name)
  where
    go : (b : Bool) → same_name x.rm rm ≡ b → (b || list_any (λ y. same_name y.rm rm) ms) ≡ false → In m (x ∷ ms) → (list_any (λ y. same_name y.rm rm) ms ≡ false → In m ms → ⊥) → ⊥
    go true is k j more = let no : ⊥ = cc in no
    go false is k (inl same) more = both_ways (same_name x.rm rm) is (same_name-eq x.rm rm (ap (λ (y : Manager). y.rm) (sym same) ∙ name))
    go false is k (inr j) more = more k j

working_active : (rm : Name) (b : Branch) → is_joinable rm b ≡ true → b.state ≡ Active
working_active rm b h = go b.state refl
  where
    parts : is_active b.state ≡ true
    parts = (and_parts (is_active b.state) (not b.ended) (and_parts (is_working b) (not (answers.has_joined rm b)) h).0).0

    go : (s : State) → b.state ≡ s → b.state ≡ Active
    go Active e = e
    go table.Joining e = let no : false ≡ true = ap is_active (sym e) ∙ parts in let none : ⊥ = cc in absurd none
    go table.Ending e = let no : false ≡ true = ap is_active (sym e) ∙ parts in let none : ⊥ = cc in absurd none
    go table.Voting e = let no : false ≡ true = ap is_active (sym e) ∙ parts in let none : ⊥ = cc in absurd none
    go table.Prepared e = let no : false ≡ true = ap is_active (sym e) ∙ parts in let none : ⊥ = cc in absurd none

-- the branch of a label that refuses nothing
there_labelled : (o : Option Branch) → answers.unsettled o ≡ None → (b : Branch) × (o ≡ Some b)
there_labelled (Some b) e = (b, refl)
there_labelled None e = let no : ⊥ = cc in absurd no

-- one label names one branch
one_named : (es : List Entry) (node label : List ℕ) (t s tid serial : Id) → IsNamed es node label t s → IsNamed es node label tid serial → child t s ≡ child tid serial
one_named es node label t s tid serial (l, found, at, transaction, branch) (m, found_too, at_too, transaction_too, branch_too) =
    let same : l ≡ m = some_is l m (sym found ∙ found_too) in
    let tids : t ≡ tid = sym transaction ∙ (ap (λ (x : ToldLabel). x.tid) same ∙ transaction_too) in
    let serials : s ≡ serial = some_is s serial (sym branch ∙ (ap (λ (x : ToldLabel). x.serial) same ∙ branch_too)) in
    λ i. child (tids i) (serials i)

module _ (nodes : List Node) (disks : List DiskCounts) (opening : AreOpening nodes) (earlier : List Entry) (w v : World) (begins : Legal (opened nodes disks) earlier w) (tid serial : Id) (label rm : List ℕ) (events : List Line)
    (step : Step w (At serial.node (JoinRm label rm)) (events ++ line.Normal ∷ []) v) (named : IsNamed earlier serial.node label tid serial) (sound_v : IsSound v) where
  abbrev request : Request
  request = JoinRm label rm

  -- what is known of the node behind it
  pub record Joins : Type 0 where
    pub m : Node
    pub there : find_node serial.node v.nodes ≡ Some m
    pub up : m.up ≡ true
    pub known : Unreplied tid serial rm false m
    -- the branch, and the managers that joined it before
    pub branch : Branch
    pub old : List Manager
    pub one : (x : Branch) → In x m.volatile.branches → x.key.serial ≡ serial → branch ≡ x
    pub key : branch.key ≡ child tid serial
    pub active : branch.state ≡ Active
    pub managers : branch.managers ≡ old ++ record { rm = rm; event = None; reply = None } ∷ []
    pub others : (x : Manager) → In x old → x.rm ≡ rm → ⊥
    pub drawn : IsDrawn m.name m.durable.boot m.volatile.drawn serial

  joins_at : (n : Node) → find_node serial.node w.nodes ≡ Some n → refused_before_reading w.shared n (service request) ≡ None → find_node serial.node v.nodes ≡ Some (node_after_rows ((service request).rows w.shared n) n) → Joins
  joins_at n found first there = at_branch (there_labelled (branch_labelled w.shared n label) labelled.0)
    where
      labelled : (answers.unsettled_label w.shared n label ≡ None) × (Rattle.world_laws.specs.run_model.Operations.first_of (answers.declared_manager n rm) (answers.in_state (is_joinable rm) (branch_labelled w.shared n label)) ≡ None)
      labelled = neither (answers.unsettled_label w.shared n label) _ (neither (answers.made_label w.shared n label) _ (refused_rest (not (n.up || false)) _ first)).1

      at_branch : (b : Branch) × (branch_labelled w.shared n label ≡ Some b) → Joins
      at_branch (b, is) = record {
        m = m;
        there = there_m;
        up = served_up n _ first;
        known = known;
        branch = joined;
        old = b.managers;
        one = λ x i same. one_branch m.volatile.branches joined x (differ m up.table) standing i (ap (λ (k : BranchKey). k.serial) key ∙ sym same);
        key = key;
        active = active;
        managers = refl;
        others = λ x i name. none_named rm b.managers unjoined x i name;
        drawn = late.drawn;
      }
        where
          active : b.state ≡ Active
          active = working_active rm b (state_holds (is_joinable rm) (branch_labelled w.shared n label) b is (neither (answers.declared_manager n rm) _ labelled.1).1)

          unjoined : answers.has_joined rm b ≡ false
          unjoined = off (answers.has_joined rm b) (and_parts (is_working b) (not (answers.has_joined rm b)) (state_holds (is_joinable rm) (branch_labelled w.shared n label) b is (neither (answers.declared_manager n rm) _ labelled.1).1)).1
            where
              off : (t : Bool) → not t ≡ true → t ≡ false
              off true e = let no : ⊥ = cc in absurd no
              off false e = refl

          joined : Branch
          joined = with_manager rm b

          m : Node
          m = acted (Tables (Notes joined) (next_moment n)) n

          finds : find_branch b.key.serial n.volatile.branches ≡ Some b
          finds = (Rattle.run_laws.proofs.Labelling.label_of w.shared n label b is).finds

          acts : row (tm_of n) (rows.JoinRm b.key.serial rm) ≡ Notes joined ∷ []
          acts = ap (note_row (with_manager rm)) (found_serial b.key.serial n.volatile.branches b finds) ∙ ap (note_state (with_manager rm) b) active

          does : (service request).rows w.shared n ≡ table_rows (Notes joined ∷ []) w.shared n
          does = ap (λ (o : Option Branch). elim o as (λ x. List Row) [ Some c ↦ told_rows w.shared n (just (rows.JoinRm c.key.serial rm)) | None ↦ [] ]) is ∙ ap (λ xs. table_rows xs w.shared n) acts

          there_m : find_node serial.node v.nodes ≡ Some m
          there_m = there ∙ ap (λ rs. Some (node_after_rows rs n)) does

          up : IsUp m
          up = ((sound_v.kept serial.node m there_m).runs (served_up n _ first)).0

          key : b.key ≡ child tid serial
          key = one_named earlier serial.node label b.key.tid b.key.serial tid serial (named_branch earlier w serial.node label n b (legal_named nodes disks earlier w opening begins) found is (ap is_prepared active)).named named

          standing : In joined m.volatile.branches
          standing = own_in joined n.volatile.branches

          late : IsLate tid serial rm m
          late = record {
            settled = λ s i e. absurd (((sound_v.once serial.node m there_m).runs (served_up n _ first)).apart s i (subst (λ x. In x (branch_serials m.volatile.branches)) (ap (λ (k : BranchKey). k.serial) key ∙ sym e) (in_serials joined m.volatile.branches standing)));
            branches = λ x i same. subst (λ (y : Branch). (y.key ≡ child tid serial) × (is_prepared y.state ≡ false) × Missing tid serial rm y.managers × AreAsked tid serial rm y.managers)
                (one_branch m.volatile.branches joined x (differ m up.table) standing i (ap (λ (k : BranchKey). k.serial) key ∙ sym same))
                (key, ap is_prepared active, (record { rm = rm; event = None; reply = None }, in_right _ b.managers (record { rm = rm; event = None; reply = None } ∷ []) (inl refl), refl, refl), joined_asked tid serial rm rm b.managers (λ z i name. absurd (none_named rm b.managers unjoined z i name)));
            drawn = up.table.drawn serial (in_left serial (branch_serials m.volatile.branches) (table.record_serials m.volatile.records) (subst (λ x. In x (branch_serials m.volatile.branches)) (ap (λ (k : BranchKey). k.serial) key) (in_serials joined m.volatile.branches standing)));
          }

          known : Unreplied tid serial rm false m
          known = record {
            disk = (unreplied_keeps tid serial rm).falls false false m up (refl, late);
            way = λ act e. absurd (both_ways m.up ((sound_v.kept serial.node m there_m).way act e).2 (served_up n _ first));
            runs = λ on. (refl, late);
          }

  pub joins : Joins
  joins = go (ended w v (At serial.node request) (events ++ line.Normal ∷ []) serial.node (Serves request) refl step)
    where
      go : Ended w v serial.node (Serves request) (events ++ line.Normal ∷ []) → Joins
      go (Refused refusal h shows goes) = let is : line.Normal ≡ refusal = (same_last events [] line.Normal refusal shows).1 in let no : false ≡ true = ap is_refusal is ∙ h in let none : ⊥ = cc in absurd none
      go (Turned n found c allowed shows goes) = by c allowed (ap (λ (x : World). find_node serial.node x.nodes) goes ∙ put_node serial.node n (task_effect w.shared (stops_at serial.node w) n (Serves request) c).node w.nodes (effect_name w.shared (stops_at serial.node w) n (Serves request) c) found)
        where
          d : Done w v serial.node request events line.Normal
          d = done w v serial.node request events line.Normal refl refl refl refl (λ cause e. let no : ⊥ = cc in no) step

          same : d.n ≡ n
          same = some_is d.n n (sym d.found ∙ found)

          first : refused_before_reading w.shared n (service request) ≡ None
          first = subst (λ x. refused_before_reading w.shared x (service request) ≡ None) same d.first

          late : (service request).refused_after_reading w.shared n ≡ None
          late = subst (λ x. (service request).refused_after_reading w.shared x ≡ None) same d.late

          by : (c : Choice) → TaskAllowed w.shared (stops_at serial.node w) n (Serves request) (λ cause. RoseAt w serial.node cause v.disks) c → find_node serial.node v.nodes ≡ Some (task_effect w.shared (stops_at serial.node w) n (Serves request) c).node → Joins
          by (Whole outturn) may at = joins_at n found first (at ∙ ap (λ o. Some (whole w.shared n n (service request) o).node) first ∙ ap (λ o. Some (begun w.shared n (service request) o).node) late)
          by WithoutMemory may at = let no : ⊥ = cc in absurd no
          by Unpowered may at = let no : ⊥ = cc in absurd no
          by (Cut outturn done begun cause) may at = let no : ⊥ = cc in absurd no

-- What a line shows is not so where the reply is missing.

shown_in_lines : (front behind : List Line) (this : Line) (lines : List Line) → lines ≡ front ++ this ∷ behind → In this lines
shown_in_lines front behind this lines is = subst (In this) (sym is) (in_right this front (this ∷ behind) (inl refl))

module _ (nodes : List Node) (disks : List DiskCounts) (opening : AreOpening nodes) (entry : Entry) (before : List Entry) (v : World) (legal : Legal (opened nodes disks) (entry ∷ before) v) (said : Reading) (front behind : List Line) (tid serial : Id) (rm : Name) (a : Bool)
    (read : reading entry.source.text ≡ said) (k : Tracked (unreplied tid serial rm) (unreplied_keeps tid serial rm) serial.node (told_votes tid serial rm entry.lines a) v) where
  there_of : (this : Line) → entry.lines ≡ front ++ this ∷ behind → ShownThere (entry ∷ before) before said front this behind
  there_of this shown = record { after = []; entry = entry; stands = refl; read = read; shown = shown }

  -- a vote
  no_vote : (this : Line) → entry.lines ≡ front ++ this ∷ behind → voter_in this ≡ Some serial → votes_here tid serial rm this ≡ true → ⊥
  no_vote this shown voter votes = go (reading entry.source.text) legal.2
    where
      here : In this entry.lines
      here = shown_in_lines front behind this entry.lines shown

      go : (r : Reading) → Turn legal.0 r entry.lines v → ⊥
      go (Says s) turn =
          let n = step_voter legal.0 v s entry.lines (legal_sound (opened nodes disks) legal.0 before (opening_sound nodes disks opening) legal.1) turn this serial here voter in
          both_ways (told_votes tid serial rm entry.lines a) ((k n.0 n.1).disk).0 (told_in tid serial rm entry.lines this a here votes)
      go Blank turn = subst (In this) turn.0 here
      go (Bad column) turn = turn

  -- a commitment
  no_commitment : (moment : ℕ) → In (commitment tid serial moment) (settlements_of serial.node v) → ⊥
  no_commitment moment i = go (find_node serial.node v.nodes) refl i
    where
      go : (o : Option Node) → find_node serial.node v.nodes ≡ o → In (commitment tid serial moment) (elim o [ Some n ↦ n.settled | None ↦ [] ]) → ⊥
      go (Some n) found j = let no : ◌≡◌ {A = settles.Outcome} Commit Abort = ((k n found).disk).1.settled (commitment tid serial moment) j refl in let none : ⊥ = cc in none
      go None found j = j

  pub decided : (this : Line) → entry.lines ≡ front ++ this ∷ behind → Decides (opened nodes disks) before this tid serial → ⊥
  decided this shown (inl is) = no_vote this shown (ap voter_in is) (ap (votes_here tid serial rm) is ∙ id_itself serial)
  decided this shown (inr (inl is)) = no_vote this shown (ap voter_in is) (ap (votes_here tid serial rm) is ∙ id_itself serial)
  decided this shown (inr (inr (inl (moment, is)))) =
      let s = (commits_hold nodes disks (entry ∷ before) v opening legal before said front behind tid serial moment (there_of (line.Committed tid serial moment) (shown ∙ ap (λ l. front ++ l ∷ behind) is))).1 in
      no_commitment moment (subst (λ x. In x (settlements_of serial.node v)) s.2 s.1)
  decided this shown (inr (inr (inr (moment, is, never)))) =
      elim (lasts_hold nodes disks (entry ∷ before) v opening legal before said front behind (line.LastCommitted tid serial moment) (commitment tid serial moment) (there_of (line.LastCommitted tid serial moment) (shown ∙ ap (λ l. front ++ l ∷ behind) is)) refl).1 [
        | inl i ↦ no_commitment moment i
        | inr was ↦ never (subst (λ l. WasLast serial.node l (opened nodes disks) before) (sym is) was)
      ]

-- The law.

pub replies_hold : RepliesHold
replies_hold nodes disks es closing opening legal before said front behind this tid serial there decides earlier label rm events join named =
    let start = opened nodes disks in
    let r = split_legal start closing there.after (there.entry ∷ before) (subst (λ xs. Legal start xs closing) there.stands legal) in
    let q = split_legal start (r.1).0 join.after (join.entry ∷ earlier) (subst (λ xs. Legal start xs (r.1).0) join.stands (r.1).1) in
    let u = (q.1).0 in
    let step : Step u (At serial.node (JoinRm label rm)) (events ++ line.Normal ∷ []) q.0 = subst (λ ls. Step u (At serial.node (JoinRm label rm)) ls q.0) join.shown (subst (λ x. Turn u x join.entry.lines q.0) join.said (q.1).2) in
    let sound_v : IsSound q.0 = legal_sound start q.0 (join.entry ∷ earlier) (opening_sound nodes disks opening) q.1 in
    let j = joins nodes disks opening earlier u q.0 (q.1).1 tid serial label rm events step named sound_v in
    let kept = sound_v.kept serial.node j.m j.there in
    let used : (q.0).shared.in_use ≡ true = in_use_of (q.0).shared.in_use (q.0).shared.in_use refl (λ off. both_ways (j.m).up (kept.unused off).0 j.up) in
    let on : Tracked (unreplied tid serial rm) (unreplied_keeps tid serial rm) serial.node false q.0 = λ n found. subst (Unreplied tid serial rm false) (some_is j.m n (sym j.there ∙ found)) j.known in
    let since : List Entry = there.entry ∷ join.after in
    let last : Legal q.0 since r.0 = ((r.1).0, q.2, (r.1).2) in
    elim (walk tid serial rm nodes disks opening (join.entry ∷ earlier) q.0 q.1 used on since r.0 last) [
      | inl replied ↦ replied
      | inr k ↦ absurd (decided nodes disks opening there.entry before r.0 r.1 said front behind tid serial rm (told tid serial rm join.after) there.read k this there.shown decides)
    ]
  where
    in_use_of : (b c : Bool) → c ≡ b → (c ≡ false → ⊥) → c ≡ true
    in_use_of true c is off = is
    in_use_of false c is off = absurd (off is)
