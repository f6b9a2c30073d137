-- What managers are told of an outcome is the outcome of their branch.
use Rattle.std.proofs.Common.{◌≡◌, ◌⊎◌, ℕ, Bool, true, false, ◌||◌, List, [], ◌∷◌, ◌++◌, map, inl, inr, Option, Some, None, if◌then◌else◌, refl, sym, ◌∙◌, ap, subst, append_assoc, append-nil}
use Rattle.std.specs.List.{list_any}
use Rattle.std.proofs.lemmas.Bool.{both_ways}
use Rattle.vms_model.specs.Ids.{Id}
use Rattle.vms_model.specs.Transactions as settles
use Rattle.vms_model.specs.Transactions.{Reason}
use Rattle.world_laws.specs.transcript_model.Lines as line
use Rattle.world_laws.specs.transcript_model.Lines.{Line, Cause}
use Rattle.world_laws.specs.script_model.Statements.{Statement, At, Deliver, LinkDown, Settle, Request, DeclareRm, Reading, Blank, Says, Bad}
use Rattle.commit_protocol.specs.Messages.{AbortEvent, CommitEvent, LogRecord, Name, same_name}
use Rattle.commit_protocol.specs.Table.{branch_serials, record_serials}
use Rattle.commit_protocol.specs.World.{In}
use Rattle.commit_protocol.proofs.Lists.{in_parts, in_right, same_name-true}
use Rattle.commit_protocol.proofs.Serials.{in_serial}
use Rattle.world_laws.specs.log_laws.Slots.{committed_of, records_in, waiting_for}
use Rattle.world_laws.specs.run_model.World.{DiskCounts, Node, Shared, World, find_node, opened}
use Rattle.world_laws.specs.run_model.Answers.{Serves, Task, owed_line, refused_before_reading, service}
use Rattle.world_laws.specs.run_model.Steps.{Choice, Cut, TaskAllowed, TaskEffect, Unpowered, Whole, WithoutMemory, begun, task_effect, whole}
use Rattle.world_laws.specs.run_model.Statements.{Allowed, Begins, Part, PartEffect, Phases, RoseAt, Step, begun_with, part_effect, phases_of, refused_at_once, stops_at}
use Rattle.world_laws.specs.run_model.StepLaws.{is_refusal}
use Rattle.world_laws.specs.run_model.Transcript.{AreOpening, Entry, Legal, Turn}
use Rattle.world_laws.proofs.run_model.CauseLemmas.{is_success, refuses_first, refuses_then, task_succeeds}
use Rattle.world_laws.proofs.run_model.Failing.{once_refuses}
use Rattle.world_laws.proofs.run_model.NodeLists.{found_name, some_is}
use Rattle.world_laws.proofs.run_model.PartLemmas.{phases_fold}
use Rattle.world_laws.proofs.run_model.PartTasks.{Doing, Fixed, View, view}
use Rattle.world_laws.proofs.run_model.Refusing.{each_phase}
use Rattle.world_laws.proofs.run_model.TaskLemmas.{Failing, First, Lacking, Late, Outcome, Success, outcome}
use Rattle.world_laws.specs.Nodes.{IsUp}
use Rattle.run_laws.specs.Owing.{Waits}
use Rattle.run_laws.specs.Promises.{IsSettledSo, IsShown, ShownThere, commitment, settlements_of}
use Rattle.run_laws.proofs.AllShown.{shown_hold}
use Rattle.run_laws.proofs.CauseRuns.{aborted_hold, commits_hold}
use Rattle.run_laws.proofs.Deciding.{join_legal, split_legal}
use Rattle.run_laws.proofs.Labelling.{served_up}
use Rattle.run_laws.proofs.Named.{Ended, Refused, Turned, ended}
use Rattle.run_laws.proofs.Owed.{in_table}
use Rattle.run_laws.proofs.SoundWorlds.{IsSound, legal_sound, opening_sound}
use Rattle.run_laws.proofs.Staying.{Stay, found_settled, stays}
use Rattle.manager_laws.specs.Telling.{AbortsToldHold, CommitsToldHold, WasOwed}
use Rattle.manager_laws.proofs.Backing.{legal_backed}
use Rattle.manager_laws.proofs.Telling.{Backed, Nothing, Preceded, QuietStatement, is_untold, preceded_append, preceded_split, step_told, untold_preceded}

-- Answers tell a manager nothing.

refusal_untold : (l : Line) → is_refusal l ≡ true → is_untold l ≡ true
refusal_untold (line.ManagerTold event tid serial rm) h = let no : ⊥ = cc in absurd no
refusal_untold _ h = refl

success_untold : (l : Line) → is_success l ≡ true → is_untold l ≡ true
success_untold (line.ManagerTold event tid serial rm) h = let no : ⊥ = cc in absurd no
success_untold _ h = refl

outcome_untold : (s : Shared) (stops : ℕ) (n : Node) (t : Task) (rises : Cause → Type 0) (e : TaskEffect) → Outcome s stops n t rises e → is_untold e.answer ≡ true
outcome_untold s stops n t rises e (First refusal first f) = ap (λ (x : TaskEffect). is_untold x.answer) f ∙ refusal_untold refusal ((refuses_first s n t).says refusal first)
outcome_untold s stops n t rises e (Late outturn refusal may first late f) = ap (λ (x : TaskEffect). is_untold x.answer) f ∙ refusal_untold refusal ((refuses_then s _ t).says refusal late)
outcome_untold s stops n t rises e (Success outturn may first late f) = ap (λ (x : TaskEffect). is_untold x.answer) f ∙ success_untold _ (task_succeeds s _ t)
outcome_untold s stops n t rises e (Lacking first takes f) = ap (λ (x : TaskEffect). is_untold x.answer) f
outcome_untold s stops n t rises e (Failing cause shown true first rose shows down answers ends) = ap is_untold answers
outcome_untold s stops n t rises e (Failing cause shown false first rose shows down answers ends) = ap is_untold answers

part_untold : (w : World) (p : Part) (c : Choice) (after : List DiskCounts) → Allowed w p after c → is_untold (part_effect w p c).answer ≡ true
part_untold w p c after allowed = go (view w p)
  where
    go : View w p → is_untold (part_effect w p c).answer ≡ true
    go (Doing node t n named found does may) = ap (λ (x : PartEffect). is_untold x.answer) (does c) ∙ outcome_untold w.shared (stops_at node w) n t (λ cause. RoseAt w node cause after) _ (outcome w.shared (stops_at node w) n t (λ cause. RoseAt w node cause after) c (may after c allowed))
    go (Fixed answer ends (inl h) is) = ap (λ (x : PartEffect). is_untold x.answer) (is c) ∙ refusal_untold answer h
    go (Fixed answer ends (inr h) is) = ap (λ (x : PartEffect). is_untold x.answer) (is c) ∙ ap is_untold h

pub answer_untold : (w v : World) (s : Statement) (lines : List Line) → (step : Step w s lines v) → is_untold step.answer ≡ true
answer_untold w v s lines step = go (refused_at_once w s) refl step.does
  where
    go : (o : Option Line) → refused_at_once w s ≡ o → Begins o (Phases (phases_of s) v.disks (begun_with s w) line.Normal) w step.events step.answer step.world → is_untold step.answer ≡ true
    go (Some refusal) is d = ap is_untold d.1 ∙ refusal_untold refusal ((once_refuses w s).says refusal is)
    go None is d = phases_fold v.disks (λ p. Unit {0}) (λ given. is_untold given ≡ true) (λ u rest answer x. is_untold answer ≡ true)
        (λ u given q. q)
        (λ u p c ok allowed ends. part_untold u p c v.disks allowed)
        (λ u p c ok allowed on. (part_untold u p c v.disks allowed, λ rest answer x more. more))
        (phases_of s) (each_phase s) (begun_with s w) line.Normal step.events step.answer step.world refl d

-- Lines of a DECLARE_RM.

pub among : (rm : Name) (xs : List Name) → list_any (λ x. same_name x rm) xs ≡ true → In rm xs
among rm [] e = let no : ⊥ = cc in absurd no
among rm (x ∷ xs) e = go (same_name x rm) refl e (among rm xs)
  where
    go : (b : Bool) → same_name x rm ≡ b → (b || list_any (λ y. same_name y rm) xs) ≡ true → (list_any (λ y. same_name y rm) xs ≡ true → In rm xs) → In rm (x ∷ xs)
    go true is k more = inl (sym (same_name-true x rm is))
    go false is k more = inr (more k)

pub owed_of_line : (rm : Name) (rs : List LogRecord) (l : Line) → In l (map (owed_line rm) (waiting_for rm rs)) → (r : LogRecord) × In r rs × In rm r.rms × (l ≡ owed_line rm r)
owed_of_line rm [] l i = absurd i
owed_of_line rm (q ∷ rs) l i = go (list_any (λ x. same_name x rm) q.rms) refl i (owed_of_line rm rs l)
  where
    go : (b : Bool) → list_any (λ x. same_name x rm) q.rms ≡ b → In l (map (owed_line rm) (if b then q ∷ waiting_for rm rs else waiting_for rm rs)) → (In l (map (owed_line rm) (waiting_for rm rs)) → (r : LogRecord) × In r rs × In rm r.rms × (l ≡ owed_line rm r)) →
        (r : LogRecord) × In r (q ∷ rs) × In rm r.rms × (l ≡ owed_line rm r)
    go true is (inl e) more = (q, inl refl, among rm q.rms is, e)
    go true is (inr j) more = let x = more j in (x.0, inr x.1, x.2, x.3)
    go false is j more = let x = more j in (x.0, inr x.1, x.2, x.3)

-- such a line is of a record that waits
pub record IsOwedLine (n : Node) (rm : Name) (l : Line) : Type 0 where
  pub up : n.up ≡ true
  pub log : LogRecord
  pub there : In log (committed_of (records_in n.durable.log))
  pub waits : In rm log.rms
  pub is : l ≡ owed_line rm log

in_front : (l : Line) (ls : List Line) → In l (ls ++ []) → In l ls
in_front l ls i = elim (in_parts l ls [] i) [ inl j ↦ j | inr none ↦ absurd none ]

pub declare_lines : (s : Shared) (stops : ℕ) (n : Node) (rm : Name) (c : Choice) (rises : Cause → Type 0) → TaskAllowed s stops n (Serves (DeclareRm rm)) rises c → (l : Line) → In l (task_effect s stops n (Serves (DeclareRm rm)) c).lines → IsOwedLine n rm l
declare_lines s stops n rm (Whole o) rises may l i = go (refused_before_reading s n (service (DeclareRm rm))) refl i
  where
    late : refused_before_reading s n (service (DeclareRm rm)) ≡ None → (q : Option Line) → In l (begun s n (service (DeclareRm rm)) q).lines → IsOwedLine n rm l
    late first (Some refusal) j = absurd j
    late first None j =
        let ls = map (owed_line rm) (waiting_for rm (committed_of (records_in n.durable.log))) in
        let x = owed_of_line rm (committed_of (records_in n.durable.log)) l (in_front l ls (in_front l (ls ++ []) j)) in
        record { up = served_up n _ first; log = x.0; there = x.1; waits = x.2; is = x.3 }

    go : (q : Option Line) → refused_before_reading s n (service (DeclareRm rm)) ≡ q → In l (whole s n n (service (DeclareRm rm)) q).lines → IsOwedLine n rm l
    go (Some refusal) first j = absurd j
    go None first j = late first ((service (DeclareRm rm)).refused_after_reading s n) j
declare_lines s stops n rm WithoutMemory rises may l i = absurd i
declare_lines s stops n rm Unpowered rises may l i = let no : ⊥ = cc in absurd no
declare_lines s stops n rm (Cut o j b cause) rises may l i = let no : ⊥ = cc in absurd no

-- a statement declares a manager, or none
pub data Declaring (s : Statement) : Type 0 where
  Declares : (node : List ℕ) (rm : Name) → s ≡ At node (DeclareRm rm) → Declaring s
  None_declared : QuietStatement s → Declaring s

pub declaring : (s : Statement) → Declaring s
declaring (At node request) = go request
  where
    go : (r : Request) → Declaring (At node r)
    go (DeclareRm rm) = Declares node rm refl
    go r = None_declared refl
declaring (Deliver number) = None_declared tt
declaring (LinkDown a b) = None_declared tt
declaring Settle = None_declared tt

-- Statements.

-- a line that is shown stands between others
pub in_split : (l : Line) (ls : List Line) → In l ls → (a : List Line) × (b : List Line) × (ls ≡ a ++ l ∷ b)
in_split l [] i = absurd i
in_split l (x ∷ ls) (inl same) = ([], ls, ap (λ y. y ∷ ls) (sym same))
in_split l (x ∷ ls) (inr i) = let r = in_split l ls i in (x ∷ r.0, r.1, ap (λ ys. x ∷ ys) r.2)

-- a line that tells a manager something is backed by those in front of it, or shown for a DECLARE_RM
data Told (w : World) (said : Reading) (front : List Line) (l : Line) : Type 0 where
  Behind : Backed (λ x. Nothing x ⊎ In x front) l → Told w said front l
  Owed : (node : List ℕ) (rm : Name) (n : Node) → said ≡ Says (At node (DeclareRm rm)) → find_node node w.nodes ≡ Some n → IsOwedLine n rm l → Told w said front l

step_tells : (w v : World) (s : Statement) (lines front : List Line) (this : Line) (behind : List Line) → Step w s lines v → lines ≡ front ++ this ∷ behind → is_untold this ≡ false → Told w (Says s) front this
step_tells w v s lines front this behind step shown told = go (declaring s)
  where
    here : In this lines
    here = subst (In this) (sym shown) (in_right this front (this ∷ behind) (inl refl))

    go : Declaring s → Told w (Says s) front this
    go (None_declared q) = Behind (preceded_split Nothing front this behind (subst (Preceded Nothing) (sym step.shows ∙ shown) (preceded_append Nothing step.events (step.answer ∷ []) (step_told w v s lines q step) (untold_preceded Nothing (step.answer ∷ []) (answer_untold w v s lines step, tt)))))
    go (Declares node rm is) = by (ended w v (At node (DeclareRm rm)) lines node (Serves (DeclareRm rm)) refl (subst (λ x. Step w x lines v) is step))
      where
        by : Ended w v node (Serves (DeclareRm rm)) lines → Told w (Says s) front this
        by (Refused refusal h shows goes) = absurd (elim (subst (In this) shows here) [ inl same ↦ both_ways (is_untold this) told (ap is_untold same ∙ refusal_untold refusal h) | inr none ↦ none ])
        by (Turned n found c allowed shows goes) =
            let e = task_effect w.shared (stops_at node w) n (Serves (DeclareRm rm)) c in
            elim (in_parts this e.lines (e.answer ∷ []) (subst (In this) shows here)) [
              | inl i ↦ Owed node rm n (ap Says is) found (declare_lines w.shared (stops_at node w) n rm c (λ cause. RoseAt w node cause v.disks) allowed this i)
              | inr i ↦ absurd (elim i [ inl same ↦ both_ways (is_untold this) told (ap is_untold same ∙ outcome_untold w.shared (stops_at node w) n (Serves (DeclareRm rm)) (λ cause. RoseAt w node cause v.disks) e (outcome w.shared (stops_at node w) n (Serves (DeclareRm rm)) (λ cause. RoseAt w node cause v.disks) c allowed)) | inr none ↦ none ])
            ]

turn_tells : (w v : World) (said : Reading) (lines front : List Line) (this : Line) (behind : List Line) → Turn w said lines v → lines ≡ front ++ this ∷ behind → is_untold this ≡ false → Told w said front this
turn_tells w v Blank lines front this behind turn shown told = absurd (subst (In this) (sym shown ∙ turn.0) (in_right this front (this ∷ behind) (inl refl)))
turn_tells w v (Says s) lines front this behind turn shown told = step_tells w v s lines front this behind turn shown told
turn_tells w v (Bad column) lines front this behind turn shown told = absurd turn

-- Runs.

module _ (nodes : List Node) (disks : List DiskCounts) (es : List Entry) (closing : World) (opening : AreOpening nodes) (legal : Legal (opened nodes disks) es closing) (before : List Entry) (said : Reading) (front behind : List Line) (this : Line) (there : ShownThere es before said front this behind) where
  -- a line in front of it is shown too
  earlier : (l : Line) → In l front → (a : List Line) × (b : List Line) × ShownThere es before said a l b
  earlier l i =
      let r = in_split l front i in
      (r.0, r.1 ++ this ∷ behind, record { after = there.after; entry = there.entry; stands = there.stands; read = there.read; shown = there.shown ∙ (ap (λ xs. xs ++ this ∷ behind) r.2 ∙ append_assoc r.0 (l ∷ r.1) (this ∷ behind)) })

  -- the world before it
  record Place : Type 0 where
    w : World
    path : Legal (opened nodes disks) before w
    told : is_untold this ≡ false → Told w said front this
    stay : Stay w closing

  place : Place
  place =
      let r = split_legal (opened nodes disks) closing there.after (there.entry ∷ before) (subst (λ xs. Legal (opened nodes disks) xs closing) there.stands legal) in
      let on : Legal (r.1).0 (there.after ++ there.entry ∷ []) closing = join_legal (r.1).0 r.0 closing there.after (there.entry ∷ []) ((r.1).0, refl, (r.1).2) r.2 in
      let s = stays (r.1).0 closing (there.after ++ there.entry ∷ []) [] (subst (λ xs. Legal (r.1).0 xs closing) (sym (append-nil (there.after ++ there.entry ∷ []))) on) in
      record {
        w = (r.1).0;
        path = (r.1).1;
        told = λ off. turn_tells (r.1).0 r.0 said there.entry.lines front this behind (subst (λ x. Turn (r.1).0 x there.entry.lines r.0) there.read (r.1).2) there.shown off;
        stay = subst (λ x. Stay x closing) s.1 s.2;
      }

pub serial_owed : (tid serial : Id) (x rm : Name) (r : LogRecord) → line.ManagerTold CommitEvent tid serial x ≡ owed_line rm r → r.serial ≡ serial
serial_owed tid serial x rm r e = cc

pub tid_owed : (tid serial : Id) (x rm : Name) (r : LogRecord) → line.ManagerTold CommitEvent tid serial x ≡ owed_line rm r → r.tid ≡ tid
tid_owed tid serial x rm r e = cc

pub name_owed : (tid serial : Id) (x rm : Name) (r : LogRecord) → line.ManagerTold CommitEvent tid serial x ≡ owed_line rm r → x ≡ rm
name_owed tid serial x rm r e = cc

never_owed : (tid serial : Id) (x rm : Name) (r : LogRecord) → line.ManagerTold AbortEvent tid serial x ≡ owed_line rm r → ⊥
never_owed tid serial x rm r e = let no : ⊥ = cc in no

pub aborts_told : AbortsToldHold
aborts_told nodes disks es closing opening legal before said front behind tid serial rm there =
    go ((place nodes disks es closing opening legal before said front behind (line.ManagerTold AbortEvent tid serial rm) there).told refl)
  where
    go : Told (place nodes disks es closing opening legal before said front behind (line.ManagerTold AbortEvent tid serial rm) there).w said front (line.ManagerTold AbortEvent tid serial rm) →
        (reason : Reason) × (moment : ℕ) × In (line.Aborted tid serial reason moment) front × IsSettledSo tid serial settles.Abort (Some reason) moment closing
    go (Behind (reason, moment, inr i)) =
        let e = earlier nodes disks es closing opening legal before said front behind (line.ManagerTold AbortEvent tid serial rm) there (line.Aborted tid serial reason moment) i in
        (reason, moment, i, (aborted_hold nodes disks es closing opening legal before said e.0 e.1 tid serial reason moment e.2).1)
    go (Behind (reason, moment, inl none)) = absurd none
    go (Owed node x n is found owed) = absurd (never_owed tid serial rm x owed.log owed.is)

pub commits_told : CommitsToldHold
commits_told nodes disks es closing opening legal before said front behind tid serial rm there = go (p.told refl)
  where
    p : Place nodes disks es closing opening legal before said front behind (line.ManagerTold CommitEvent tid serial rm) there
    p = place nodes disks es closing opening legal before said front behind (line.ManagerTold CommitEvent tid serial rm) there

    Result : Type 0
    Result = ((moment : ℕ) × (In (line.Committed tid serial moment) front ⊎ IsShown (commitment tid serial moment) before) × IsSettledSo tid serial settles.Commit None moment closing) ⊎ ((said ≡ Says (At serial.node (DeclareRm rm))) × WasOwed tid serial rm (opened nodes disks) before)

    go : Told p.w said front (line.ManagerTold CommitEvent tid serial rm) → Result
    go (Behind (moment, inr i)) =
        let e = earlier nodes disks es closing opening legal before said front behind (line.ManagerTold CommitEvent tid serial rm) there (line.Committed tid serial moment) i in
        inl (moment, inl i, (commits_hold nodes disks es closing opening legal before said e.0 e.1 tid serial moment e.2).1)
    go (Behind (moment, inl none)) = absurd none
    go (Owed node x n is found owed) =
        let name : rm ≡ x = name_owed tid serial rm x owed.log owed.is in
        let waits : Waits tid serial rm n.durable = (owed.log, owed.there, serial_owed tid serial rm x owed.log owed.is, tid_owed tid serial rm x owed.log owed.is, subst (λ y. In y (owed.log).rms) (sym name) owed.waits) in
        let sound : IsSound p.w = legal_sound (opened nodes disks) p.w before (opening_sound nodes disks opening) p.path in
        let up : IsUp n = ((sound.kept node n found).runs owed.up).0 in
        let r = in_table tid serial rm n up waits in
        let home : serial.node ≡ node = ap (λ (z : Id). z.node) (sym r.2) ∙ ((up.table.drawn (r.0).serial (in_right (r.0).serial (branch_serials n.volatile.branches) (record_serials n.volatile.records) (in_serial r.0 n.volatile.records r.1))).0 ∙ found_name node (p.w).nodes n found) in
        let at : find_node serial.node (p.w).nodes ≡ Some n = subst (λ y. find_node y (p.w).nodes ≡ Some n) (sym home) found in
        elim ((legal_backed nodes disks opening tid serial rm before p.w p.path n at).disk waits) [
          | inl c ↦ settled n owed.up at c.0 c.1
          | inr was ↦ inr (is ∙ (λ i. Says (At (sym home i) (DeclareRm (sym name i)))), was)
        ]
      where
        -- while the node is up each settlement of it was shown
        settled : (n : Node) → n.up ≡ true → find_node serial.node (p.w).nodes ≡ Some n → (moment : ℕ) → In (commitment tid serial moment) n.settled → Result
        settled n up at moment i = elim (shown_hold nodes disks before p.w opening p.path serial.node (commitment tid serial moment) there_is).1 [
          | inl shown ↦ inl (moment, inr shown, (commitment tid serial moment, p.stay serial.node (commitment tid serial moment) there_is, refl))
          | inr (m, found, last, down) ↦ absurd (both_ways m.up down (ap (λ (y : Node). y.up) (some_is m n (sym found ∙ at)) ∙ up))
        ]
          where
            there_is : In (commitment tid serial moment) (settlements_of serial.node p.w)
            there_is = subst (In (commitment tid serial moment)) (sym (found_settled serial.node p.w n at)) i
