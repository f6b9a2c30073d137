-- What a line shows to be settled is settled, for good.
use Rattle.std.proofs.Common.{◌≡◌, ℕ, ◌⊎◌, List, [], ◌∷◌, ◌++◌, inl, inr, take, Bool, true, false, Option, Some, None, refl, sym, ◌∙◌, ap, subst}
use Rattle.vms_model.specs.Transactions.{Outcome, Commit, Abort, Reason, SegFail}
use Rattle.run_said.specs.transcript_model.Lines as line
use Rattle.run_said.specs.transcript_model.Lines.{Line, Cause}
use Rattle.run_said.specs.script_model.Statements.{Statement, Reading, Blank, Says, Bad}
use Rattle.run_said.specs.script_model.Grammar.{reading}
use Rattle.unit_laws.specs.records_model.Records.{Change}
use Rattle.commit_protocol.specs.Table.{Key as BranchKey}
use Rattle.commit_protocol.specs.World.{In}
use Rattle.run_said.specs.run_model.World as world
use Rattle.run_said.specs.run_model.World.{World, Shared, Node, File, Label, Settlement, Act, Boots, Creates, Tables, DiskCounts, acted, shared_after, next_moment, labelled, free_place, lowest_free, find_node, opened}
use Rattle.run_said.specs.run_model.Answers as answers
use Rattle.run_said.specs.run_model.Answers.{Row, Service, Task, Serves, Ticks, Takes, Hears, LosesLink, RunsDown, Restarts, task_service, service, refused_before_reading, told_if, told_rows, table_rows, begins, just, boot_rows, shown_by, settled_line, forgot_lines, acknowledged_lines, released_lines, table_lines, last_line, last_lines, branch_labelled, branch_named, creates, operated, directed, changes_at, keys_at, records_of, shown_record, entry_line, entry_lines, shown_line, prepared_line, prepared_lines, silent}
use Rattle.run_said.specs.run_model.Steps.{Choice, Whole, WithoutMemory, Unpowered, Cut, TaskEffect, task_effect, ready_node, node_after, node_after_rows, lines_of_rows, rows_to_cut, whole, begun}
use Rattle.run_said.specs.run_model.Statements.{Part, PartEffect, Begins, Phases, Step, Allowed, part_effect, put_into, stops_at, RoseAt, phases_of, refused_at_once, begun_with}
use Rattle.run_said.specs.run_model.Transcript.{Legal, Turn as LineTurn}
use Rattle.run_said.specs.run_model.StepLaws.{is_refusal}
use Rattle.run_said.proofs.run_model.NodeLists.{put_node, some_is}
use Rattle.run_said.proofs.run_model.CauseLemmas.{is_success, refuses_first, refuses_then, task_succeeds}
use Rattle.run_said.proofs.run_model.Failing.{once_refuses}
use Rattle.run_said.proofs.run_model.TaskLemmas as task
use Rattle.run_said.proofs.run_model.TaskLemmas.{First, Late, Success, Lacking, Failing, outcome, effect_name}
use Rattle.run_said.proofs.run_model.PartLemmas.{phases_fold}
use Rattle.run_said.proofs.run_model.PartTasks.{View, Doing, Fixed, view}
use Rattle.run_said.proofs.run_model.Refusing.{each_phase}
use Rattle.run_laws.specs.Promises.{settlements_of, shown_in}
use Rattle.run_laws.specs.Laws.{ShownAreSettled}
use Rattle.run_laws.proofs.EachRow.{ArePlain, EachRow, closing_plain, cut_each, is_plain, is_voteless, take_each, task_each}
use Rattle.run_laws.proofs.Staying.{Stay, part_stays, after_grows, rows_grow, found_settled, stays}

-- Lines that show no settlement of their statement.

pub plain_shows : (l : Line) (s : Settlement) → is_plain l ≡ true → shown_in l ≡ Some s → ⊥
plain_shows (line.Committed tid serial moment) s h e = cc
plain_shows (line.Aborted tid serial reason moment) s h e = cc
plain_shows _ s h e = cc

pub none_shown : (ls : List Line) → ArePlain ls → (l : Line) (s : Settlement) → In l ls → shown_in l ≡ Some s → ⊥
none_shown [] h l s i e = i
none_shown (x ∷ ls) h l s (inl same) e = plain_shows x s h.0 (sym (ap shown_in same) ∙ e)
none_shown (x ∷ ls) h l s (inr i) e = none_shown ls h.1 l s i e

pub in_append : {A : Type 0} (x : A) (xs ys : List A) → In x (xs ++ ys) → In x xs ⊎ In x ys
in_append x [] ys i = inr i
in_append x (y ∷ xs) ys (inl e) = inl (inl e)
in_append x (y ∷ xs) ys (inr i) = elim (in_append x xs ys i) [ inl j ↦ inl (inr j) | inr j ↦ inr j ]

-- Rows whose lines show what their acts settle.

abbrev Shows : Row → Node → Type 0
Shows r n = (l : Line) (s : Settlement) → In l r.lines → shown_in l ≡ Some s → In s (node_after r.act n).settled

quietly : (act : Option Act) (ls : List Line) (n : Node) → ArePlain ls → Shows (record { act = act; lines = ls }) n
quietly act ls n h l s i e = absurd (none_shown ls h l s i e)

rows_show : (rs : List Row) (n : Node) → EachRow Shows rs n → (l : Line) (s : Settlement) → In l (lines_of_rows rs) → shown_in l ≡ Some s → In s (node_after_rows rs n).settled
rows_show [] n h l s i e = absurd i
rows_show (r ∷ rs) n h l s i e = elim (in_append l r.lines (lines_of_rows rs) i) [
  | inl j ↦ rows_grow rs (node_after r.act n) s (h.0 l s j e)
  | inr j ↦ rows_show rs (node_after r.act n) h.1 l s j e
]

settled_shows : (k : BranchKey) (o : Outcome) (reason : Reason) (moment : ℕ) (ss : List Settlement) (l : Line) (s : Settlement) → In l (settled_line k o reason moment ∷ []) → shown_in l ≡ Some s → In s (world.settlement k o reason moment ∷ ss)
settled_shows k Commit reason moment ss l s (inl same) e = inl (some_is s (world.settlement k Commit reason moment) (sym e ∙ ap shown_in same))
settled_shows k Abort reason moment ss l s (inl same) e = inl (some_is s (world.settlement k Abort reason moment) (sym e ∙ ap shown_in same))
settled_shows k o reason moment ss l s (inr i) e = absurd i

directed_shows : (file : List ℕ) (cs : List Change) (n : Node) → Shows (record { act = Some (world.Directs file cs (answers.commit_settlement n (world.next_id n) (world.next_id n))); lines = line.Committed (world.next_id n) (world.next_id n) (next_moment n) ∷ [] }) n
directed_shows file cs n l s (inl same) e = inl (some_is s _ (sym e ∙ ap shown_in same))
directed_shows file cs n l s (inr i) e = absurd i

-- a boot shows the last settlement of its disk, which is none of its statement
last_shows : (n : Node) → Shows (record { act = Some Boots; lines = last_lines n }) n
last_shows n l s i e = absurd (go n.durable.last i)
  where
    one : (t : Settlement) (o : Outcome) (r : Option Reason) → In l (elim o [ Commit ↦ line.LastCommitted t.tid t.serial t.moment ∷ [] | Abort ↦ elim r [ Some reason ↦ line.LastAborted t.tid t.serial reason t.moment ∷ [] | None ↦ [] ] ]) → ⊥
    one t Commit r (inl same) = let none : None ≡ Some s = sym (ap shown_in same) ∙ e in cc
    one t Commit r (inr j) = j
    one t Abort (Some reason) (inl same) = let none : None ≡ Some s = sym (ap shown_in same) ∙ e in cc
    one t Abort (Some reason) (inr j) = j
    one t Abort None j = j

    go : (o : Option Settlement) → In l (elim o [ Some t ↦ last_line t | None ↦ [] ]) → ⊥
    go (Some t) j = one t t.outcome t.reason j
    go None j = j

shows_all : (s : Shared) (n : Node) (t : Task) → EachRow Shows ((task_service t).rows s n) n
shows_all s n t = task_each Shows (λ act ls n h q v. quietly act ls n h) (λ k o reason r n. settled_shows k o reason (next_moment n) n.settled) (λ k n. settled_shows k Abort SegFail (next_moment n) n.settled) directed_shows last_shows s n t

-- What a task shows.

-- lines behind others that show no settlement
behind_other : (front back : List Line) (l : Line) → ArePlain back → (s : Settlement) → In l (front ++ back) → shown_in l ≡ Some s → In l front
behind_other front back l h s i e = elim (in_append l front back i) [ inl j ↦ j | inr j ↦ absurd (none_shown back h l s j e) ]

pub effect_shows : (s : Shared) (stops : ℕ) (n : Node) (t : Task) (c : Choice) (l : Line) (x : Settlement) → In l (task_effect s stops n t c).lines → shown_in l ≡ Some x → In x (task_effect s stops n t c).node.settled
effect_shows s stops n t (Whole outturn) l x i e = go (refused_before_reading s n (task_service t)) i
  where
    ready : Node
    ready = ready_node outturn stops (task_service t) n

    late : (o : Option Line) → In l (begun s ready (task_service t) o).lines → In x (begun s ready (task_service t) o).node.settled
    late (Some refusal) j = absurd j
    late None j =
        let rs = (task_service t).rows s ready in
        after_grows (task_service t).closing (node_after_rows rs ready) x (rows_show rs ready (shows_all s ready t) l x (behind_other (lines_of_rows rs) ((task_service t).closing_lines ready) l (closing_plain ready t) x j e) e)

    go : (o : Option Line) → In l (whole s n ready (task_service t) o).lines → In x (whole s n ready (task_service t) o).node.settled
    go (Some refusal) j = absurd j
    go None j = late ((task_service t).refused_after_reading s ready) j
effect_shows s stops n t WithoutMemory l x i e = absurd i
effect_shows s stops n t Unpowered l x i e = absurd (none_shown (line.Down n.name line.Failed ∷ []) (refl, tt) l x i e)
effect_shows s stops n t (Cut outturn done started cause) l x i e =
    let ready = ready_node outturn stops (task_service t) n in
    let rs = take done (rows_to_cut s ready (task_service t)) in
    rows_show rs ready (take_each Shows done (rows_to_cut s ready (task_service t)) ready (cut_each Shows ((task_service t).refused_after_reading s ready) ((task_service t).rows s ready) ready (shows_all s ready t))) l x
    (behind_other (lines_of_rows rs) (line.Down ready.name cause ∷ []) l (refl, tt) x i e) e

-- What a statement shows.

-- each settlement that these lines show is one of a node of this world
abbrev AreSettled : List Line → World → Type 0
AreSettled lines v = (l : Line) (x : Settlement) → In l lines → shown_in l ≡ Some x → (node : List ℕ) × In x (settlements_of node v)

part_settled : (w : World) (p : Part) (c : Choice) → AreSettled (part_effect w p c).lines (part_effect w p c).world
part_settled w p c = go (view w p)
  where
    go : View w p → AreSettled (part_effect w p c).lines (part_effect w p c).world
    go (Fixed answer ends kind is) = subst (λ (y : PartEffect). AreSettled y.lines y.world) (sym (is c)) (λ l x i e. absurd i)
    go (Doing node t n named found does may) =
        let e = task_effect w.shared (stops_at node w) n t c in
        let v = (put_into w node e).world in
        subst (λ (y : PartEffect). AreSettled y.lines y.world) (sym (does c)) (λ l x i shows.
        (node, subst (λ ss. In x ss) (sym (found_settled node v e.node (put_node node n e.node w.nodes (effect_name w.shared (stops_at node w) n t c) found))) (effect_shows w.shared (stops_at node w) n t c l x i shows)))

-- An answer shows none.

pub refusal_other : (l : Line) → is_refusal l ≡ true → is_plain l ≡ true
refusal_other (line.Committed tid serial moment) h = let no : ⊥ = cc in absurd no
refusal_other (line.Aborted tid serial reason moment) h = let no : ⊥ = cc in absurd no
refusal_other (line.LastCommitted tid serial moment) h = let no : ⊥ = cc in absurd no
refusal_other (line.LastAborted tid serial reason moment) h = let no : ⊥ = cc in absurd no
refusal_other _ h = refl

pub success_other : (l : Line) → is_success l ≡ true → is_plain l ≡ true
success_other (line.Committed tid serial moment) h = let no : ⊥ = cc in absurd no
success_other (line.Aborted tid serial reason moment) h = let no : ⊥ = cc in absurd no
success_other (line.LastCommitted tid serial moment) h = let no : ⊥ = cc in absurd no
success_other (line.LastAborted tid serial reason moment) h = let no : ⊥ = cc in absurd no
success_other _ h = refl

module _ (test : Line → Bool) (refuses : (l : Line) → is_refusal l ≡ true → test l ≡ true) (succeeds : (l : Line) → is_success l ≡ true → test l ≡ true) (breaks : (cause : Cause) → test (line.Broken cause) ≡ true) (normal : test line.Normal ≡ true) where
  outcome_passes : (s : Shared) (stops : ℕ) (n : Node) (t : Task) (rises : Cause → Type 0) (e : TaskEffect) → task.Outcome s stops n t rises e → test e.answer ≡ true
  outcome_passes s stops n t rises e (First refusal first f) = ap (λ (x : TaskEffect). test x.answer) f ∙ refuses refusal ((refuses_first s n t).says refusal first)
  outcome_passes s stops n t rises e (Late outturn refusal may first late f) = ap (λ (x : TaskEffect). test x.answer) f ∙ refuses refusal ((refuses_then s _ t).says refusal late)
  outcome_passes s stops n t rises e (Success outturn may first late f) = ap (λ (x : TaskEffect). test x.answer) f ∙ succeeds _ (task_succeeds s _ t)
  outcome_passes s stops n t rises e (Lacking first takes f) = ap (λ (x : TaskEffect). test x.answer) f ∙ refuses line.NoMemory refl
  outcome_passes s stops n t rises e (Failing cause shown true first rises_so shows down answers ends) = ap test answers ∙ normal
  outcome_passes s stops n t rises e (Failing cause shown false first rises_so shows down answers ends) = ap test answers ∙ breaks cause

  part_passes : (w : World) (p : Part) (c : Choice) (after : List DiskCounts) → Allowed w p after c → test (part_effect w p c).answer ≡ true
  part_passes w p c after allowed = go (view w p)
    where
      go : View w p → test (part_effect w p c).answer ≡ true
      go (Doing node t n named found does may) = ap (λ (x : PartEffect). test x.answer) (does c) ∙ outcome_passes w.shared (stops_at node w) n t (λ cause. RoseAt w node cause after) _ (outcome w.shared (stops_at node w) n t (λ cause. RoseAt w node cause after) c (may after c allowed))
      go (Fixed answer ends (inl h) is) = ap (λ (x : PartEffect). test x.answer) (is c) ∙ refuses answer h
      go (Fixed answer ends (inr h) is) = ap (λ (x : PartEffect). test x.answer) (is c) ∙ ap test h ∙ normal

  -- so is the answer of a statement, which is its last line
  answer_passes : (w v : World) (s : Statement) (lines : List Line) → (step : Step w s lines v) → test step.answer ≡ true
  answer_passes w v s lines step = go (refused_at_once w s) refl step.does
    where
      go : (o : Option Line) → refused_at_once w s ≡ o → Begins o (Phases (phases_of s) v.disks (begun_with s w) line.Normal) w step.events step.answer step.world → test step.answer ≡ true
      go (Some refusal) is d = ap test d.1 ∙ refuses refusal ((once_refuses w s).says refusal is)
      go None is d = phases_fold v.disks (λ p. Unit {0}) (λ given. test given ≡ true) (λ u rest answer x. test answer ≡ true)
          (λ u given q. q)
          (λ u p c ok allowed ends. part_passes u p c v.disks allowed)
          (λ u p c ok allowed on. (part_passes u p c v.disks allowed, λ rest answer x more. more))
          (phases_of s) (each_phase s) (begun_with s w) line.Normal step.events step.answer step.world normal d

pub outcome_other : (s : Shared) (stops : ℕ) (n : Node) (t : Task) (rises : Cause → Type 0) (e : TaskEffect) → task.Outcome s stops n t rises e → is_plain e.answer ≡ true
outcome_other s stops n t rises e o = outcome_passes is_plain refusal_other success_other (λ cause. refl) refl s stops n t rises e o

pub answer_plain : (w v : World) (s : Statement) (lines : List Line) → (step : Step w s lines v) → is_plain step.answer ≡ true
answer_plain w v s lines step = answer_passes is_plain refusal_other success_other (λ cause. refl) refl w v s lines step

pub refusal_voteless : (l : Line) → is_refusal l ≡ true → is_voteless l ≡ true
refusal_voteless (line.Prepared tid serial) h = let no : ⊥ = cc in absurd no
refusal_voteless (line.ReadOnly tid serial) h = let no : ⊥ = cc in absurd no
refusal_voteless (line.Joined tid serial) h = let no : ⊥ = cc in absurd no
refusal_voteless _ h = refl

success_voteless : (l : Line) → is_success l ≡ true → is_voteless l ≡ true
success_voteless (line.Prepared tid serial) h = let no : ⊥ = cc in absurd no
success_voteless (line.ReadOnly tid serial) h = let no : ⊥ = cc in absurd no
success_voteless (line.Joined tid serial) h = let no : ⊥ = cc in absurd no
success_voteless _ h = refl

-- nor does it show a vote
pub answer_voteless : (w v : World) (s : Statement) (lines : List Line) → (step : Step w s lines v) → is_voteless step.answer ≡ true
answer_voteless w v s lines step = answer_passes is_voteless refusal_voteless success_voteless (λ cause. refl) refl w v s lines step

abbrev Leads : World → List Line → Line → World → Type 0
Leads w lines answer v = AreSettled lines v × Stay w v

then_settled : (w u : World) (front rest : List Line) (answer : Line) (v : World) → AreSettled front u → Stay w u → Leads u rest answer v → Leads w (front ++ rest) answer v
then_settled w u front rest answer v shown stay more = (
  λ l x i e. elim (in_append l front rest i) [ inl j ↦ (let r = shown l x j e in (r.0, more.1 r.0 x r.1)) | inr j ↦ more.0 l x j e ],
  λ node t i. more.1 node t (stay node t i),
)

step_settled : (w v : World) (s : Statement) (lines : List Line) → Step w s lines v → AreSettled lines v
step_settled w v s lines step = subst (λ ls. AreSettled ls v) (sym step.shows) (subst (AreSettled (step.events ++ step.answer ∷ [])) (sym step.goes) (all (go (refused_at_once w s) step.does)))
  where
    all : AreSettled step.events step.world → AreSettled (step.events ++ step.answer ∷ []) (record step.world { disks = v.disks })
    all h l x i e = h l x (behind_other step.events (step.answer ∷ []) l (answer_plain w v s lines step, tt) x i e) e

    go : (o : Option Line) → Begins o (Phases (phases_of s) v.disks (begun_with s w) line.Normal) w step.events step.answer step.world → AreSettled step.events step.world
    go (Some refusal) d = subst (λ ls. AreSettled ls step.world) (sym d.0) (λ l x i e. absurd i)
    go None d = (phases_fold v.disks (λ p. Unit {0}) (λ given. Unit {0}) Leads
        (λ u given q. (λ l x i e. absurd i, λ node t i. i))
        (λ u p c ok allowed ends. (part_settled u p c, part_stays u p c))
        (λ u p c ok allowed on. (tt, λ rest answer x more. then_settled u (part_effect u p c).world (part_effect u p c).lines rest answer x (part_settled u p c) (part_stays u p c) more))
        (phases_of s) (each_phase s) (begun_with s w) line.Normal step.events step.answer step.world tt d).0

turn_settled : (w v : World) (r : Reading) (lines : List Line) → LineTurn w r lines v → AreSettled lines v
turn_settled w v Blank lines t = subst (λ ls. AreSettled ls v) (sym t.0) (λ l x i e. absurd i)
turn_settled w v (Says s) lines t = step_settled w v s lines t
turn_settled w v (Bad column) lines t = absurd t

pub here_in : (front : List Line) (this : Line) (behind : List Line) → In this (front ++ this ∷ behind)
here_in [] this behind = inl refl
here_in (x ∷ front) this behind = inr (here_in front this behind)

pub shown_settled : ShownAreSettled
shown_settled nodes disks es closing opening legal before said front behind this s there is =
    let r = stays (opened nodes disks) closing there.after (there.entry ∷ before) (subst (λ es. Legal (opened nodes disks) es closing) there.stands legal) in
    let l = r.1 in
    let found = turn_settled l.0 r.0 (reading there.entry.source.text) there.entry.lines l.2 this s (subst (λ ls. In this ls) (sym there.shown) (here_in front this behind)) is in
    (found.0, r.2 found.0 s found.1)
