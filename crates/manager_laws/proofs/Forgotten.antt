-- Each resource manager that joined a branch has replied FORGET before the branch leaves as read-only.
use Rattle.std.proofs.Common.{◌≡◌, ◌⊎◌, ℕ, Bool, true, false, ◌&&◌, ◌||◌, List, [], ◌∷◌, ◌++◌, inl, inr, Option, Some, None, refl, sym, ◌∙◌, ap, subst}
use Rattle.std.specs.Prelude.{is_some}
use Rattle.std.proofs.lemmas.Bool.{both_ways}
use Rattle.std.specs.Str.{bytes_eq}
use Rattle.std.proofs.lemmas.Slice.Eq.{bytes_eq-Decides}
use Rattle.vms_model.specs.Ids.{Id}
use Rattle.world_laws.specs.transcript_model.Lines as line
use Rattle.world_laws.specs.transcript_model.Lines.{Line, Cause}
use Rattle.world_laws.specs.script_model.Statements.{At, Request, Init, JoinRm, AckEvent, Named as SaidName, Reading, Says, Blank, Bad}
use Rattle.world_laws.specs.script_model.Grammar.{reading}
use Rattle.records_model.specs.History.{same_id}
use Rattle.commit_protocol.specs.Messages.{ForgetReply, Name, NormalReply, PreparedReply, RememberReply, Reply, VetoReply, same_name}
use Rattle.commit_protocol.specs.Table.{Active, Branch, Key as BranchKey, Manager, child}
use Rattle.commit_protocol.specs.Rows.{is_forget}
use Rattle.commit_protocol.specs.Allowed.{is_prepared}
use Rattle.commit_protocol.specs.World.{In}
use Rattle.commit_protocol.proofs.Lists.{in_right, same_name-true}
use Rattle.world_laws.specs.run_model.World.{DiskCounts, Node, Shared, World, find_branch, find_node, opened}
use Rattle.world_laws.specs.run_model.Answers.{Serves, refused_before_reading, serial_named, service}
use Rattle.world_laws.specs.run_model.Statements.{RoseAt, Step, stops_at}
use Rattle.world_laws.specs.run_model.Steps.{Choice, TaskAllowed, TaskEffect, task_effect}
use Rattle.world_laws.specs.run_model.Transcript.{AreOpening, Entry, Legal, Turn}
use Rattle.world_laws.proofs.run_model.NodeLists.{some_is}
use Rattle.world_laws.proofs.run_model.TaskLemmas.{Failing, First, Lacking, Late, Outcome, Success, outcome}
use Rattle.world_laws.specs.Nodes.{IsKeptNode}
use Rattle.world_laws.specs.Running.{IsDrawn}
use Rattle.world_laws.proofs.IdLemmas.{id_is, id_itself}
use Rattle.world_laws.proofs.TableLemmas.{one_branch}
use Rattle.world_laws.proofs.UpLemmas.{differ, drawn_of}
use Rattle.run_laws.specs.Causes.{Names}
use Rattle.run_laws.proofs.CausesHold.{Known, named_so}
use Rattle.run_laws.proofs.CauseRuns.{known_before}
use Rattle.run_laws.proofs.Deciding.{join_legal, split_legal}
use Rattle.run_laws.proofs.Dying.{runs_used}
use Rattle.run_laws.proofs.Keeping.{is_init}
use Rattle.run_laws.proofs.Labelling.{served_up}
use Rattle.run_laws.proofs.Settling.{IsOpen}
use Rattle.run_laws.proofs.SoundWorlds.{IsPlainReading, IsSound, Tracked, legal_sound, opening_sound, sound_node, turn_tracked}
use Rattle.run_laws.proofs.VoteOwners.{step_voter}
use Rattle.manager_laws.specs.Replying.{HasForgotten, IsTaken, LeavesHold}
use Rattle.manager_laws.proofs.Replied.{Joins, found_branch_in, found_none, joins}
use Rattle.manager_laws.proofs.Requests.{init_on, request_on}
use Rattle.manager_laws.proofs.Unforgotten.{IsLate, IsWaiting, Missing, RepliesElse, Unforgotten, forgets, joined_asked, own_unforgotten, told_in, told_leaves, unforgotten, unforgotten_keeps, unforgotten_tracks}

forgets_reply : (reply : Reply) → is_forget reply ≡ true → reply ≡ ForgetReply
forgets_reply ForgetReply e = refl
forgets_reply PreparedReply e = let no : ⊥ = cc in absurd no
forgets_reply VetoReply e = let no : ⊥ = cc in absurd no
forgets_reply RememberReply e = let no : ⊥ = cc in absurd no
forgets_reply NormalReply e = let no : ⊥ = cc in absurd no

module _ (tid serial : Id) (rm : Name) where
  abbrev On : Bool → World → Type 0
  On a w = Tracked (unforgotten tid serial rm) (unforgotten_keeps tid serial rm) serial.node a w

  abbrev more : List Line → Bool → Bool
  more ls a = told_leaves tid serial rm ls a

  -- A reply FORGET of the manager: what is known is kept, or it is one for the branch that is taken.
  module _ (es : List Entry) (w v : World) (known : Known es w) (sound : IsSound w) (who : SaidName) where
    abbrev Taken : List Line → Type 0
    Taken lines = (events : List Line) × (answer : Line) × (lines ≡ events ++ answer ∷ []) × Names es who tid serial × IsTaken answer

    abbrev request : Request
    request = AckEvent who rm ForgetReply

    forget_on : (lines : List Line) (a : Bool) → Step w (At serial.node (AckEvent who rm ForgetReply)) lines v → On a w → Taken lines ⊎ On (more lines a) v
    forget_on lines a step h = request_on (unforgotten tid serial rm) (unforgotten_keeps tid serial rm) serial.node w v request lines a (Taken lines) refl step (λ n c found allowed shows k. one n c found allowed shows k) h
      where
        Effect : Node → Choice → TaskEffect
        Effect n c = task_effect w.shared (stops_at serial.node w) n (Serves request) c

        one : (n : Node) (c : Choice) → find_node serial.node w.nodes ≡ Some n → TaskAllowed w.shared (stops_at serial.node w) n (Serves request) (λ cause. RoseAt w serial.node cause v.disks) c → lines ≡ (Effect n c).lines ++ (Effect n c).answer ∷ [] →
            Unforgotten tid serial rm a n → Taken lines ⊎ Unforgotten tid serial rm (more (Effect n c).lines a) (Effect n c).node
        one n c found allowed shows k = named (serial_named w.shared n who) refl
          where
            else_kept : (n.up ≡ true → RepliesElse tid serial rm w.shared n (Serves request)) → Taken lines ⊎ Unforgotten tid serial rm (more (Effect n c).lines a) (Effect n c).node
            else_kept else_so = inr (own_unforgotten tid serial rm a w.shared (stops_at serial.node w) n (Serves request) c (λ cause. RoseAt w serial.node cause v.disks) (sound_node w sound serial.node n found) refl (λ up first. else_so up) allowed k)

            -- it is one for the branch
            taken : (b : Branch) → serial_named w.shared n who ≡ Some serial → find_branch serial n.volatile.branches ≡ Some b → Taken lines ⊎ Unforgotten tid serial rm (more (Effect n c).lines a) (Effect n c).node
            taken b is at = go (outcome w.shared (stops_at serial.node w) n (Serves request) (λ cause. RoseAt w serial.node cause v.disks) c allowed)
              where
                there : In b n.volatile.branches × (b.key.serial ≡ serial)
                there = found_branch_in serial n.volatile.branches b at

                names : IsWaiting tid serial rm b → Names es who tid serial
                names late =
                    let open_k : IsOpen n.volatile.branches b.key = record { branch = b; there = there.0; key = refl; unprepared = late.unprepared } in
                    subst (λ (j : BranchKey). Names es who j.tid j.serial) late.key (named_so es w known serial.node n found who serial b.key is open_k there.1)

                result : refused_before_reading w.shared n (service request) ≡ None → IsTaken (Effect n c).answer → Taken lines ⊎ Unforgotten tid serial rm (more (Effect n c).lines a) (Effect n c).node
                result first answer = elim (((k.runs (served_up n _ first)).1).branches b there.0 there.1) [
                  | inl prepared ↦ else_kept (λ up id e x i key veto h same. inl (subst (λ (y : Branch). is_prepared y.state ≡ true) (one_branch n.volatile.branches b x (differ n (((sound_node w sound serial.node n found).kept).runs up).0.table) there.0 i (there.1 ∙ sym same)) prepared))
                  | inr late ↦ inl ((Effect n c).lines, (Effect n c).answer, shows, names late, answer)
                ]

                go : Outcome w.shared (stops_at serial.node w) n (Serves request) (λ cause. RoseAt w serial.node cause v.disks) (Effect n c) → Taken lines ⊎ Unforgotten tid serial rm (more (Effect n c).lines a) (Effect n c).node
                go (First refusal first same) = inr (subst (λ (x : TaskEffect). Unforgotten tid serial rm (more x.lines a) x.node) (sym same) k)
                go (Late outturn refusal turns first late same) = let no : ⊥ = cc in absurd no
                go (Lacking first memory same) = let no : ⊥ = cc in absurd no
                go (Success outturn turns first late same) = result first (inl (ap (λ (x : TaskEffect). x.answer) same))
                go (Failing cause shown true first rose ls down answered_so ends) = result first (inl answered_so)
                go (Failing cause shown false first rose ls down answered_so ends) = result first (inr (cause, answered_so))

            named : (o : Option Id) → serial_named w.shared n who ≡ o → Taken lines ⊎ Unforgotten tid serial rm (more (Effect n c).lines a) (Effect n c).node
            named None is = else_kept (λ up id e. let no : false ≡ true = ap is_some (sym is ∙ e) in let none : ⊥ = cc in absurd none)
            named (Some z) is = same (same_id serial z) refl
              where
                at : serial ≡ z → (o : Option Branch) → find_branch serial n.volatile.branches ≡ o → Taken lines ⊎ Unforgotten tid serial rm (more (Effect n c).lines a) (Effect n c).node
                at mine (Some b) there = taken b (is ∙ ap Some (sym mine)) there
                at mine None there = else_kept (λ up id e b i key veto h. absurd (found_none serial n.volatile.branches there b i (key ∙ (some_is id z (sym e ∙ is) ∙ sym mine))))

                same : (t : Bool) → same_id serial z ≡ t → Taken lines ⊎ Unforgotten tid serial rm (more (Effect n c).lines a) (Effect n c).node
                same true mine = at (id_is serial z mine) (find_branch serial n.volatile.branches) refl
                same false other = else_kept (λ up id e b i key veto h this. absurd (both_ways (same_id serial z) other (ap (same_id serial) (sym (some_is id z (sym e ∙ is)) ∙ (sym key ∙ this)) ∙ id_itself serial)))

  -- Entries.

  -- whether a reading is none of which something is to be said
  data Kind (r : Reading) : Type 0 where
    Plain : IsPlainReading (unforgotten tid serial rm) (unforgotten_keeps tid serial rm) serial.node (unforgotten_tracks tid serial rm) r → Kind r
    Makes : (slots journal : ℕ) → r ≡ Says (At serial.node (Init slots journal)) → Kind r
    Forgets : (who : SaidName) → r ≡ Says (At serial.node (AckEvent who rm ForgetReply)) → Kind r

  never : (b : Bool) → (b && false) ≡ false
  never true = refl
  never false = refl

  kind : (r : Reading) → Kind r
  kind (Says (At node request)) = of_request request (bytes_eq node serial.node) refl
    where
      plainly : (request : Request) → (b : Bool) → bytes_eq node serial.node ≡ b → (b && (is_init (Serves request) || forgets tid serial rm request)) ≡ false → Kind (Says (At node request))
      plainly request b is e = Plain (subst (λ t. (t && (is_init (Serves request) || forgets tid serial rm request)) ≡ false) (sym is) e)

      of_request : (request : Request) (b : Bool) → bytes_eq node serial.node ≡ b → Kind (Says (At node request))
      of_request (Init slots journal) true is = Makes slots journal (ap (λ x. Says (At x (Init slots journal))) ((bytes_eq-Decides node serial.node).0 is))
      of_request (Init slots journal) false is = plainly (Init slots journal) false is refl
      of_request (AckEvent who x reply) false is = plainly (AckEvent who x reply) false is refl
      of_request (AckEvent who x reply) true is = go (same_name x rm) refl (is_forget reply) refl
        where
          go : (s : Bool) → same_name x rm ≡ s → (t : Bool) → is_forget reply ≡ t → Kind (Says (At node (AckEvent who x reply)))
          go true same true forget = Forgets who (λ i. Says (At ((bytes_eq-Decides node serial.node).0 is i) (AckEvent who (same_name-true x rm same i) (forgets_reply reply forget i))))
          go true same false plain = plainly (AckEvent who x reply) true is (λ i. same i && plain i)
          go false other t plain = plainly (AckEvent who x reply) true is (ap (λ y. y && is_forget reply) other)
      of_request request b is = plainly request b is (never b)
  kind (Says _) = Plain tt
  kind _ = Plain tt

  -- what many entries tell
  abbrev told : List Entry → Bool
  told [] = false
  told (e ∷ es) = more e.lines (told es)

  -- Many entries, behind some at which nothing was told yet.
  module _ (nodes : List Node) (disks : List DiskCounts) (opening : AreOpening nodes) (earlier : List Entry) (base : World) (begins : Legal (opened nodes disks) earlier base) (used : base.shared.in_use ≡ true) (awaits : On false base) where
    abbrev Forgotten : List Entry → Type 0
    Forgotten es = HasForgotten es earlier tid serial rm

    later_forgotten : (e : Entry) (es : List Entry) → Forgotten es → Forgotten (e ∷ es)
    later_forgotten e es (before, who, events, answer, there, names, taken) =
        (before, who, events, answer, record { after = e ∷ there.after; entry = there.entry; stands = ap (λ xs. e ∷ xs) there.stands; said = there.said; shown = there.shown }, names, taken)

    turn_on : (e : Entry) (es : List Entry) (w v : World) → Legal base es w → Turn w (reading e.source.text) e.lines v → On (told es) w → Forgotten (e ∷ es) ⊎ On (told (e ∷ es)) v
    turn_on e es w v legal turn h = go (kind (reading e.source.text))
      where
        whole : Legal (opened nodes disks) (es ++ earlier) w
        whole = join_legal (opened nodes disks) base w es earlier begins legal

        sound : IsSound w
        sound = legal_sound (opened nodes disks) w (es ++ earlier) (opening_sound nodes disks opening) whole

        known : Known (es ++ earlier) w
        known = known_before nodes disks (es ++ earlier) w opening whole

        go : Kind (reading e.source.text) → Forgotten (e ∷ es) ⊎ On (told (e ∷ es)) v
        go (Plain p) = inr (turn_tracked (unforgotten tid serial rm) (unforgotten_keeps tid serial rm) serial.node (unforgotten_tracks tid serial rm) w v (λ n found. tt) (reading e.source.text) e.lines (told es) p turn sound h)
        go (Makes slots journal is) = inr (init_on (unforgotten tid serial rm) (unforgotten_keeps tid serial rm) serial.node w v slots journal e.lines (told es) (runs_used base w es legal used).1 (subst (λ r. Turn w r e.lines v) is turn) h)
        go (Forgets who is) = elim (forget_on (es ++ earlier) w v known sound who e.lines (told es) (subst (λ r. Turn w r e.lines v) is turn) h) [
          | inl taken ↦ inl (es, who, taken.0, taken.1, record { after = []; entry = e; stands = refl; said = is; shown = taken.2 }, taken.3, taken.4)
          | inr k ↦ inr k
        ]

    pub walk : (es : List Entry) (w : World) → Legal base es w → Forgotten es ⊎ On (told es) w
    walk [] w legal = inr (subst (On false) (sym legal) awaits)
    walk (e ∷ es) w legal = elim (walk es legal.0 legal.1) [ inl r ↦ inl (later_forgotten e es r) | inr h ↦ turn_on e es legal.0 w legal.1 legal.2 h ]

-- the branch does not leave where FORGET is missing
stays : (nodes : List Node) (disks : List DiskCounts) (opening : AreOpening nodes) (entry : Entry) (before : List Entry) (v : World) (legal : Legal (opened nodes disks) (entry ∷ before) v) (front behind : List Line) (tid serial : Id) (rm : Name) (a : Bool) → On tid serial rm (told_leaves tid serial rm entry.lines a) v →
    entry.lines ≡ front ++ line.ReadOnly tid serial ∷ behind → ⊥
stays nodes disks opening entry before v legal front behind tid serial rm a k shown = go (reading entry.source.text) legal.2
  where
    here : In (line.ReadOnly tid serial) entry.lines
    here = subst (In (line.ReadOnly tid serial)) (sym shown) (in_right (line.ReadOnly tid serial) front (line.ReadOnly tid serial ∷ behind) (inl refl))

    go : (r : Reading) → Turn legal.0 r entry.lines v → ⊥
    go (Says s) turn =
        let n = step_voter legal.0 v s entry.lines (legal_sound (opened nodes disks) legal.0 before (opening_sound nodes disks opening) legal.1) turn (line.ReadOnly tid serial) serial here refl in
        both_ways (told_leaves tid serial rm entry.lines a) ((k n.0 n.1).disk).0 (told_in tid serial rm entry.lines (line.ReadOnly tid serial) a here (id_itself serial))
    go Blank turn = subst (In (line.ReadOnly tid serial)) turn.0 here
    go (Bad column) turn = turn

-- a branch that a manager has just joined
joined_waits : (tid serial : Id) (rm : Name) (s : Shared) (m : Node) (b : Branch) (old : List Manager) → IsKeptNode s m → m.up ≡ true → ((x : Branch) → In x m.volatile.branches → x.key.serial ≡ serial → b ≡ x) → b.key ≡ child tid serial → b.state ≡ Active →
    b.managers ≡ old ++ record { rm = rm; event = None; reply = None } ∷ [] → ((x : Manager) → In x old → x.rm ≡ rm → ⊥) → IsDrawn m.name m.durable.boot m.volatile.drawn serial → Unforgotten tid serial rm false m
joined_waits tid serial rm s m b old kept up one key active managers others drawn = record {
  disk = (refl, drawn_of m.name m.durable.boot m.volatile.drawn serial drawn);
  way = λ act e. absurd (both_ways m.up (kept.way act e).2 up);
  runs = λ on. (refl, late);
}
  where
    waiting : IsWaiting tid serial rm b
    waiting = record {
      key = key;
      unprepared = ap is_prepared active;
      missing = subst (Missing tid serial rm b.state) (sym managers) (record { rm = rm; event = None; reply = None }, in_right _ old (record { rm = rm; event = None; reply = None } ∷ []) (inl refl), refl, tt);
      asked = λ x i name. joined_asked tid serial rm rm b.state old (λ z j same. absurd (others z j same)) x (subst (In x) managers i) name;
    }

    late : IsLate tid serial rm m
    late = record { branches = λ x i same. inr (subst (IsWaiting tid serial rm) (one x i same) waiting); drawn = drawn }

-- The law.

pub leaves_hold : LeavesHold
leaves_hold nodes disks es closing opening legal before said front behind tid serial there earlier label rm events join named =
    let start = opened nodes disks in
    let r = split_legal start closing there.after (there.entry ∷ before) (subst (λ xs. Legal start xs closing) there.stands legal) in
    let q = split_legal start (r.1).0 join.after (join.entry ∷ earlier) (subst (λ xs. Legal start xs (r.1).0) join.stands (r.1).1) in
    let u = (q.1).0 in
    let step : Step u (At serial.node (JoinRm label rm)) (events ++ line.Normal ∷ []) q.0 = subst (λ ls. Step u (At serial.node (JoinRm label rm)) ls q.0) join.shown (subst (λ x. Turn u x join.entry.lines q.0) join.said (q.1).2) in
    let sound_v : IsSound q.0 = legal_sound start q.0 (join.entry ∷ earlier) (opening_sound nodes disks opening) q.1 in
    let j : Joins nodes disks opening earlier u q.0 (q.1).1 tid serial label rm events step named sound_v = joins nodes disks opening earlier u q.0 (q.1).1 tid serial label rm events step named sound_v in
    let kept = sound_v.kept serial.node j.m j.there in
    let used : (q.0).shared.in_use ≡ true = in_use_of (q.0).shared.in_use (q.0).shared.in_use refl (λ off. both_ways (j.m).up (kept.unused off).0 j.up) in
    let on : On tid serial rm false q.0 = λ n found. subst (Unforgotten tid serial rm false) (some_is j.m n (sym j.there ∙ found)) (joined_waits tid serial rm (q.0).shared j.m j.branch j.old kept j.up j.one j.key j.active j.managers j.others j.drawn) in
    let since : List Entry = there.entry ∷ join.after in
    let last : Legal q.0 since r.0 = ((r.1).0, q.2, (r.1).2) in
    elim (walk tid serial rm nodes disks opening (join.entry ∷ earlier) q.0 q.1 used on since r.0 last) [
      | inl forgotten ↦ forgotten
      | inr k ↦ absurd (stays nodes disks opening there.entry before r.0 r.1 front behind tid serial rm (told tid serial rm join.after) k there.shown)
    ]
  where
    in_use_of : (b c : Bool) → c ≡ b → (c ≡ false → ⊥) → c ≡ true
    in_use_of true c is off = is
    in_use_of false c is off = absurd (off is)
