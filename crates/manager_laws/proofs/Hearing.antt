-- A resource manager is told something only of a branch that it joined.
use Rattle.std.proofs.Common.{◌≡◌, ℕ, Bool, true, false, ◌&&◌, List, [], ◌∷◌, inl, inr, Option, Some, None, refl, sym, ◌∙◌, ap, subst}
use Rattle.std.specs.Str.{bytes_eq}
use Rattle.std.proofs.lemmas.Bool.{both_ways}
use Rattle.std.proofs.lemmas.Slice.Eq.{bytes_eq-Decides}
use Rattle.vms_model.specs.Ids.{Id}
use Rattle.world_laws.specs.transcript_model.Lines as line
use Rattle.world_laws.specs.transcript_model.Lines.{Line, Cause}
use Rattle.world_laws.specs.script_model.Statements.{Statement, At, Deliver, LinkDown, Settle, Request, DeclareRm, JoinRm, Clock, Reading, Blank, Says, Bad}
use Rattle.commit_protocol.specs.Messages.{LogRecord, Message, Name, RmEvent}
use Rattle.commit_protocol.specs.Table as table
use Rattle.commit_protocol.specs.Table.{Branch, Key as BranchKey, Prints, branch_serials, record_serials}
use Rattle.commit_protocol.specs.World.{In}
use Rattle.commit_protocol.proofs.Lists.{in_left, in_parts, in_right}
use Rattle.commit_protocol.proofs.Serials.{in_serial}
use Rattle.world_laws.specs.log_laws.Slots.{records_in}
use Rattle.world_laws.proofs.log_laws.Reading.{committed_is}
use Rattle.world_laws.specs.run_model.World.{DiskCounts, Node, Shared, Tables, World, find_node, opened}
use Rattle.world_laws.specs.run_model.Answers as answers
use Rattle.world_laws.specs.run_model.Answers.{LosesLink, Row, Serves, Takes, Task, Ticks, service, task_service}
use Rattle.world_laws.specs.run_model.Steps.{Choice, TaskAllowed, lines_of_rows, task_effect}
use Rattle.world_laws.specs.run_model.Statements.{Allowed, Begins, Does, Part, PartEffect, Phase, Phases, RoseAt, Step, begun_with, message_at, part_effect, phases_of, refused_at_once, stops_at}
use Rattle.world_laws.specs.run_model.Transcript.{Legal, Turn}
use Rattle.world_laws.proofs.run_model.NodeLists.{found_name}
use Rattle.world_laws.proofs.run_model.PartLemmas.{EachPart, EachPhase}
use Rattle.world_laws.proofs.run_model.PartTasks.{Doing, Fixed, View, all_asked, each_restart, each_run_down, each_up, view}
use Rattle.world_laws.proofs.run_model.Refusing.{same_last}
use Rattle.world_laws.specs.Nodes.{IsUp}
use Rattle.world_laws.proofs.TableLemmas.{in_serials}
use Rattle.run_laws.proofs.Deciding.{split_legal}
use Rattle.run_laws.proofs.Keeping.{is_special}
use Rattle.run_laws.proofs.Named.{Ended, Refused, Turned, ended}
use Rattle.run_laws.proofs.Owed.{in_table}
use Rattle.run_laws.proofs.SoundWorlds.{IsPlain, IsSound, Tracked, begins_sound, legal_sound, opening_sound, part_sound, part_tracked, special_part}
use Rattle.run_laws.proofs.Walking.{phases_walk, sighted, walk_keeps}
use Rattle.commit_protocol.specs.Table.{Active, State, find_serial}
use Rattle.commit_protocol.specs.Rows as rows
use Rattle.commit_protocol.specs.Rows.{note_row, note_state, with_manager}
use Rattle.world_laws.specs.run_model.Answers.{branch_labelled, just, table_rows, told_rows}
use Rattle.manager_laws.specs.Members.{EventsOfMembersHold, IsMember}
use Rattle.manager_laws.proofs.Members.{AnyNames, Has, Joins, Kind, Plain, has_steady, has_tracks, joins_it, kind, legal_members, members, members_keeps, task_has}
use Rattle.manager_laws.proofs.Taking.{HoldsIn}
use Rattle.manager_laws.proofs.TasksTake.{AllSo, RowHolds, RowsHold, task_holds}
use Rattle.manager_laws.proofs.Telling.{Quiet, QuietStatement, is_declaring, quiet_task}
use Rattle.manager_laws.proofs.Tells.{RowsTell, TellsByRows, task_tells, tells_by_rows, untold_none}
use Rattle.manager_laws.proofs.Told.{Declares, Declaring, None_declared, answer_untold, declare_lines, declaring}

-- a JOIN_RM shows nothing
joins_show_none : (s : Shared) (n : Node) (label x : List ℕ) → lines_of_rows ((service (JoinRm label x)).rows s n) ≡ []
joins_show_none s n label x = by (branch_labelled s n label)
  where
    noted : (c : Branch) (z : State) → lines_of_rows (table_rows (note_state (with_manager x) c z) s n) ≡ []
    noted c Active = refl
    noted c _ = refl

    at : (o : Option Branch) → lines_of_rows (table_rows (note_row (with_manager x) o) s n) ≡ []
    at (Some c) = noted c c.state
    at None = refl

    by : (o : Option Branch) → lines_of_rows (elim o as (λ y. List Row) [ Some b ↦ told_rows s n (just (rows.JoinRm b.key.serial x)) | None ↦ [] ]) ≡ []
    by (Some b) = at (find_serial b.key.serial n.volatile.branches)
    by None = refl

rows_member : (E : Type 0) (v : RmEvent) (tid serial : Id) (rm : Name) (rs : List Row) → RowsHold (Has tid serial rm E) AnyNames rs → RowsTell rs → In (line.ManagerTold v tid serial rm) (lines_of_rows rs) → E
rows_member E v tid serial rm [] h t i = absurd i
rows_member E v tid serial rm (r ∷ rs) h t i = elim (in_parts (line.ManagerTold v tid serial rm) r.lines (lines_of_rows rs) i) [
  | inl here ↦ one (t.0 v tid serial rm here)
  | inr later ↦ rows_member E v tid serial rm rs h.1 t.1 later
]
  where
    one : (k : BranchKey) × (moment : ℕ) × (r.act ≡ Some (Tables (Prints (table.Told v k rm)) moment)) × (k.tid ≡ tid) × (k.serial ≡ serial) → E
    one (k, moment, is, tids, serials) = by (subst (RowHolds (Has tid serial rm E) AnyNames) is h.0)
      where
        by : HoldsIn (Has tid serial rm E) (Prints (table.Told v k rm)) → E
        by (b, has, key, j) = has (ap (λ (y : BranchKey). y.tid) key ∙ tids) (ap (λ (y : BranchKey). y.serial) key ∙ serials) j

module _ (E : Type 0) (v : RmEvent) (tid serial : Id) (rm : Name) where
  abbrev it : Line
  it = line.ManagerTold v tid serial rm

  join_tells_none : (s : Shared) (n : Node) (task : Task) → is_special (members tid serial rm E) task ≡ true → In it (lines_of_rows ((task_service task).rows s n)) → ⊥
  join_tells_none s n (Serves (JoinRm label x)) is i = subst (In it) (joins_show_none s n label x) i
  join_tells_none s n (Serves _) is i = let no : ⊥ = cc in no
  join_tells_none s n _ is i = let no : ⊥ = cc in no

  effect_member : (s : Shared) (stops : ℕ) (n : Node) (task : Task) (c : Choice) (rises : Cause → Type 0) → TaskAllowed s stops n task rises c → is_declaring task ≡ false → (n.up ≡ true → AllSo (Has tid serial rm E) n) → In it (task_effect s stops n task c).lines → E
  effect_member s stops n task c rises may other all i = by (is_special (members tid serial rm E) task) refl
    where
      x : TellsByRows s n task it
      x = tells_by_rows s stops n task v tid serial rm c rises may i

      by : (b : Bool) → is_special (members tid serial rm E) task ≡ b → E
      by true special = absurd (join_tells_none s n task special x.here)
      by false plain = rows_member E v tid serial rm ((task_service task).rows s n) (task_holds (Has tid serial rm E) AnyNames (has_steady tid serial rm E) s n (all x.up) task (task_has tid serial rm E s n task plain x.off)) (task_tells s n task other x.off) x.here

  abbrev On : World → Type 0
  On w = Tracked (members tid serial rm E) (members_keeps tid serial rm E) serial.node tt w

  -- a branch of the serial stands at its node alone
  all_has : (u : World) → IsSound u → On u → (node : List ℕ) (n : Node) → find_node node u.nodes ≡ Some n → n.up ≡ true → AllSo (Has tid serial rm E) n
  all_has u sound on node n found up = go (bytes_eq node serial.node) refl
    where
      go : (b : Bool) → bytes_eq node serial.node ≡ b → AllSo (Has tid serial rm E) n
      go true same = ((on n (subst (λ x. find_node x u.nodes ≡ Some n) ((bytes_eq-Decides node serial.node).0 same) found)).runs up).0
      go false other = λ b i t s w.
          let runs : IsUp n = ((sound.kept node n found).runs up).0 in
          let home : b.key.serial.node ≡ node = (runs.table.drawn b.key.serial (in_left b.key.serial (branch_serials n.volatile.branches) (record_serials n.volatile.records) (in_serials b n.volatile.branches i))).0 ∙ found_name node u.nodes n found in
          absurd (both_ways (bytes_eq node serial.node) other ((bytes_eq-Decides node serial.node).1 (sym home ∙ ap (λ (y : Id). y.node) s)))

  part_member : (u : World) (p : Part) (c : Choice) (after : List DiskCounts) → Quiet p → Allowed u p after c → IsSound u → On u → In it (part_effect u p c).lines → E
  part_member u p c after q allowed sound on i = go (view u p)
    where
      go : View u p → E
      go (Fixed answer ends kind is) = absurd (subst (λ (x : PartEffect). In it x.lines) (is c) i)
      go (Doing node t n named found does may) = effect_member u.shared (stops_at node u) n t c (λ cause. RoseAt u node cause after) (may after c allowed) (quiet_task u p node t named q) (all_has u sound on node n found) (subst (λ (x : PartEffect). In it x.lines) (does c) i)

  -- parts that neither declare a manager nor have this one join
  abbrev Ordinary : Part → Type 0
  Ordinary p = Quiet p × (special_part (members tid serial rm E) (members_keeps tid serial rm E) serial.node p ≡ false)

  never : (b : Bool) → (b && false) ≡ false
  never true = refl
  never false = refl

  abbrev Unjoined : Statement → Type 0
  Unjoined s = IsPlain (members tid serial rm E) (members_keeps tid serial rm E) serial.node (has_tracks tid serial rm E serial.node) s

  each_ordinary : (s : Statement) → QuietStatement s → Unjoined s → EachPhase Ordinary (phases_of s)
  each_ordinary (LinkDown x y) q p = ((λ u. each_up Ordinary x (LosesLink y) (refl, never _) u), ((λ u. each_up Ordinary y (LosesLink x) (refl, never _) u), tt))
  each_ordinary (Deliver number) q p = ((λ u. delivered (message_at number u.shared.wire)), tt)
    where
      delivered : (o : Option Message) → EachPart Ordinary (elim o [ Some m ↦ Does m.to (Takes m) ∷ [] | None ↦ [] ])
      delivered (Some m) = ((refl, never _), tt)
      delivered None = tt
  each_ordinary Settle q p = ((λ u. each_restart Ordinary (λ x. (refl, never _)) u.nodes), ((λ u. each_run_down Ordinary (λ x. (refl, never _)) u.nodes), ((λ u. all_asked Ordinary (λ x y. (tt, refl)) u.nodes), tt)))
  each_ordinary (At other request) q p = go request q p
    where
      one : (r : Request) → is_declaring (Serves r) ≡ false → (bytes_eq other serial.node && joins_it rm r) ≡ false → phases_of (At other r) ≡ (λ u. Does other (Serves r) ∷ []) ∷ [] → EachPhase Ordinary (phases_of (At other r))
      one r d e is = subst (λ (ps : List Phase). EachPhase Ordinary ps) (sym is) ((λ u. ((d, e), tt)), tt)

      go : (r : Request) → is_declaring (Serves r) ≡ false → (bytes_eq other serial.node && joins_it rm r) ≡ false → EachPhase Ordinary (phases_of (At other r))
      go (Clock now) d e = ((λ u. ((d, e), tt)), ((λ u. each_up Ordinary other Ticks (refl, never _) u), tt))
      go r d e = one r d e refl

  step_member : (w z : World) (s : Statement) (lines : List Line) → QuietStatement s → Unjoined s → IsSound w → On w → (step : Step w s lines z) → In it step.events → E
  step_member w z s lines quiet plain sound on step i = go (refused_at_once w s) step.does
    where
      begins_on : (s : Statement) → On (begun_with s w)
      begins_on Settle = on
      begins_on (At other request) = on
      begins_on (Deliver number) = on
      begins_on (LinkDown x y) = on

      go : (o : Option Line) → Begins o (Phases (phases_of s) z.disks (begun_with s w) line.Normal) w step.events step.answer step.world → E
      go (Some refusal) d = absurd (subst (In it) d.0 i)
      go None d =
          let r = phases_walk Ordinary z.disks (phases_of s) (each_ordinary s quiet plain) (begun_with s w) line.Normal step.events step.answer step.world d in
          let x = sighted Ordinary z.disks r.0 (begun_with s w) step.events step.world it r.1 i in
          let there = walk_keeps Ordinary z.disks (λ u. IsSound u × On u) (λ u p c ok allowed h. (
            part_sound u p c z.disks allowed h.0,
            part_tracked (members tid serial rm E) (members_keeps tid serial rm E) serial.node (has_tracks tid serial rm E serial.node) u p c z.disks tt ok.1 (λ on n found. tt) allowed h.0 h.1,
          )) x.front (begun_with s w) x.before x.there x.first (begins_sound s w sound, begins_on s) in
          part_member x.there x.part x.choice z.disks (x.ok).0 x.allowed there.0 there.1 x.shown

  -- a JOIN_RM tells no manager anything
  join_told : (w z : World) (node label x : List ℕ) (lines : List Line) → (step : Step w (At node (JoinRm label x)) lines z) → In it step.events → ⊥
  join_told w z node label x lines step i = go (ended w z (At node (JoinRm label x)) lines node (Serves (JoinRm label x)) refl step)
    where
      go : Ended w z node (Serves (JoinRm label x)) lines → ⊥
      go (Refused refusal h shows goes) = subst (In it) (same_last step.events [] step.answer refusal (sym step.shows ∙ shows)).0 i
      go (Turned n found c allowed shows goes) =
          let effect = task_effect w.shared (stops_at node w) n (Serves (JoinRm label x)) c in
          let y = tells_by_rows w.shared (stops_at node w) n (Serves (JoinRm label x)) v tid serial rm c (λ cause. RoseAt w node cause z.disks) allowed (subst (In it) (same_last step.events effect.lines step.answer effect.answer (sym step.shows ∙ shows)).0 i) in
          subst (In it) (joins_show_none w.shared n label x) y.here

pub events_of_members : EventsOfMembersHold
events_of_members nodes disks es closing opening legal before said front behind v tid serial rm there =
    let start = opened nodes disks in
    let r = split_legal start closing there.after (there.entry ∷ before) (subst (λ xs. Legal start xs closing) there.stands legal) in
    go said (r.1).0 r.0 (r.1).1 there.entry.lines (subst (λ x. Turn (r.1).0 x there.entry.lines r.0) there.read (r.1).2) (subst (In line_told) (sym there.shown) (in_right line_told front (line_told ∷ behind) (inl refl)))
  where
    line_told : Line
    line_told = line.ManagerTold v tid serial rm

    E : Type 0
    E = IsMember (opened nodes disks) before tid serial rm

    -- what a DECLARE_RM tells stands in the log
    declared : (w z : World) (node x : List ℕ) (lines : List Line) → Legal (opened nodes disks) before w → (step : Step w (At node (DeclareRm x)) lines z) → In line_told step.events → E
    declared w z node x lines path step i = by (ended w z (At node (DeclareRm x)) lines node (Serves (DeclareRm x)) refl step)
      where
        names : (r : LogRecord) → line_told ≡ answers.owed_line x r → (r.tid ≡ tid) × (r.serial ≡ serial) × (x ≡ rm)
        names r e = (cc, cc, cc)

        by : Ended w z node (Serves (DeclareRm x)) lines → E
        by (Refused refusal h shows goes) = absurd (subst (In line_told) (same_last step.events [] step.answer refusal (sym step.shows ∙ shows)).0 i)
        by (Turned n found c allowed shows goes) =
            let effect = task_effect w.shared (stops_at node w) n (Serves (DeclareRm x)) c in
            let o = declare_lines w.shared (stops_at node w) n x c (λ cause. RoseAt w node cause z.disks) allowed line_told (subst (In line_told) (same_last step.events effect.lines step.answer effect.answer (sym step.shows ∙ shows)).0 i) in
            let is = names o.log o.is in
            let up : IsUp n = (((legal_sound (opened nodes disks) w before (opening_sound nodes disks opening) path).kept node n found).runs o.up).0 in
            let r = in_table (o.log).tid (o.log).serial x n up (o.log, o.there, refl, refl, o.waits) in
            let home : serial.node ≡ node =
            ap (λ (y : Id). y.node) (sym is.1 ∙ sym r.2) ∙ ((up.table.drawn (r.0).serial (in_right (r.0).serial (branch_serials n.volatile.branches) (record_serials n.volatile.records) (in_serial r.0 n.volatile.records r.1))).0 ∙ found_name node w.nodes n found) in
            ((legal_members nodes disks opening tid serial rm before w path) n (subst (λ y. find_node y w.nodes ≡ Some n) (sym home) found)).disk
            (o.log, (committed_is (records_in n.durable.log) o.log o.there).0, is.1, is.0, subst (λ y. In y (o.log).rms) is.2 o.waits)

    statement : (s : Statement) (w z : World) → Legal (opened nodes disks) before w → (lines : List Line) → (step : Step w s lines z) → In line_told step.events → E
    statement s w z path lines step i = by (declaring s)
      where
        sound : IsSound w
        sound = legal_sound (opened nodes disks) w before (opening_sound nodes disks opening) path

        quietly : QuietStatement s → Kind tid serial rm E serial.node (Says s) → E
        quietly q (Plain p) = step_member E v tid serial rm w z s lines q p sound (legal_members nodes disks opening tid serial rm before w path) step i
        quietly q (Joins label is) = absurd (joined s (says_same s (At serial.node (JoinRm label rm)) is) step i)
          where
            says_same : (a b : Statement) → Says a ≡ Says b → a ≡ b
            says_same a b e = cc

            joined : (s : Statement) → s ≡ At serial.node (JoinRm label rm) → (step : Step w s lines z) → In line_told step.events → ⊥
            joined (At node (JoinRm other x)) e step i = join_told E v tid serial rm w z node other x lines step i
            joined (At node _) e step i = let no : ⊥ = cc in no
            joined (Deliver number) e step i = let no : ⊥ = cc in no
            joined (LinkDown a b) e step i = let no : ⊥ = cc in no
            joined Settle e step i = let no : ⊥ = cc in no

        by : Declaring s → E
        by (Declares node x is) = told s is step i
          where
            told : (s : Statement) → s ≡ At node (DeclareRm x) → (step : Step w s lines z) → In line_told step.events → E
            told (At other (DeclareRm y)) e step i = declared w z other y lines path step i
            told (At other _) e step i = let no : ⊥ = cc in absurd no
            told (Deliver number) e step i = let no : ⊥ = cc in absurd no
            told (LinkDown a b) e step i = let no : ⊥ = cc in absurd no
            told Settle e step i = let no : ⊥ = cc in absurd no
        by (None_declared q) = quietly q (kind tid serial rm E serial.node (Says s))

    go : (said : Reading) (w z : World) → Legal (opened nodes disks) before w → (lines : List Line) → Turn w said lines z → In line_told lines → E
    go Blank w z path lines turn i = absurd (subst (In line_told) turn.0 i)
    go (Bad column) w z path lines turn i = absurd turn
    go (Says s) w z path lines turn i = elim (in_parts line_told turn.events (turn.answer ∷ []) (subst (In line_told) turn.shows i)) [
      | inl here ↦ statement s w z path lines turn here
      | inr last ↦ absurd (untold_none (turn.answer ∷ []) v tid serial rm (answer_untold w z s lines turn, tt) last)
    ]
