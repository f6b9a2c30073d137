-- Statements that a failure of a disk ended, and those in which no count of a disk rose.
use Rattle.std.proofs.Common.{◌≡◌, ℕ, ◌+◌, ◌<◌, ◌^◌, ◌⊎◌, List, [], ◌∷◌, ◌++◌, inl, inr, Bool, true, false, Option, Some, None, if◌then◌else◌, refl, sym, ◌∙◌, ap, subst, arith, append_assoc}
use Rattle.std.specs.Option.{option_map}
use Rattle.std.specs.Str.{bytes_eq}
use Rattle.transcript_model.specs.Outside.{Rose}
use Rattle.transcript_model.specs.Lines as line
use Rattle.transcript_model.specs.Lines.{Line, Cause, Failed, Stopped, NoMemory}
use Rattle.script_model.specs.Statements.{Statement, At, Deliver, LinkDown, Settle, Request, AddBranch}
use Rattle.run_model.specs.World.{World, Node, DiskCounts, Outturn, MayTurnOut, find_node, disk_of}
use Rattle.run_model.specs.Answers.{Task}
use Rattle.run_model.specs.Steps.{Choice, TaskEffect, task_effect, count_of}
use Rattle.run_model.specs.Statements.{Part, PartEffect, Begins, Phases, Step, named_node, other_node, message_at, part_effect, put_into, stops_at, RoseAt, phases_of, refused_at_once, begun_with}
use Rattle.run_model.specs.StepLaws.{CanRise, EndsWhole, FailurePutsDown, IsTask, SuccessIsGiven, is_refusal, may_lack_memory, ready_in_world, refused_first, refused_then}
use Rattle.run_model.proofs.NodeLists.{clash, found_name, put_node, put_disk, some_is}
use Rattle.run_model.proofs.CauseLemmas.{Refuses, is_success, says_none, says_some, says_if, says_first, says_case, refuses_first, refuses_then, task_succeeds, success_no_failure}
use Rattle.run_model.proofs.TaskLemmas.{Outcome, First, Late, Success, Lacking, Failing, outcome, effect_name}
use Rattle.run_model.proofs.PartLemmas.{Way, Done, Missing, Idle, Doubted, turn, way, phases_fold}
use Rattle.run_model.proofs.Refusing.{same_last, each_phase, left_by, left_same, none_some}

-- A part leaves the counts of the disks, and each name has the disk that it had.
pub record KeepsDisks (w v : World) : Type 0 where
  pub disks : v.disks ≡ w.disks
  pub at : (other : List ℕ) (ds : List DiskCounts) → disk_of other v.nodes ds ≡ disk_of other w.nodes ds

pub way_keeps : (w : World) (p : Part) (c : Choice) (after : List DiskCounts) → Way w p c after → KeepsDisks w (part_effect w p c).world
way_keeps w p c after (Done node t n found allowed is) =
    let e = task_effect w.shared (stops_at node w) n t c in
    subst (λ (x : PartEffect). KeepsDisks w x.world) (sym is) (record { disks = refl; at = λ other ds. put_disk other node n e.node w.nodes ds (effect_name w.shared (stops_at node w) n t c) found })
way_keeps w p c after (Missing node none is) = subst (λ (x : PartEffect). KeepsDisks w x.world) (sym is) (record { disks = refl; at = λ other ds. refl })
way_keeps w p c after (Idle is) = subst (λ (x : PartEffect). KeepsDisks w x.world) (sym is) (record { disks = refl; at = λ other ds. refl })
way_keeps w p c after (Doubted node serial b there none is) = subst (λ (x : PartEffect). KeepsDisks w x.world) (sym is) (record { disks = refl; at = λ other ds. refl })

-- a count that rose behind a part rose in its statement
pub rose_before : (w v : World) (node : List ℕ) (cause : Cause) (after : List DiskCounts) → KeepsDisks w v → RoseAt v node cause after → RoseAt w node cause after
rose_before w v node cause after keeps rose =
    let was : disk_of node v.nodes v.disks ≡ disk_of node w.nodes w.disks = ap (disk_of node v.nodes) keeps.disks ∙ keeps.at node w.disks in
    subst (λ (o : Option DiskCounts). elim o as (λ x. Type 0) [ Some old ↦ elim (disk_of node w.nodes after) as (λ x. Type 0) [ Some new ↦ Rose (count_of cause old) (count_of cause new) | None ↦ ⊥ ] | None ↦ ⊥ ]) was
    (subst (λ (p : Option DiskCounts). elim (disk_of node v.nodes v.disks) as (λ x. Type 0) [ Some old ↦ elim p as (λ x. Type 0) [ Some new ↦ Rose (count_of cause old) (count_of cause new) | None ↦ ⊥ ] | None ↦ ⊥ ]) (keeps.at node after) rose)

-- What a failure leaves.

-- the node is told to be down last, and is down, and the count rose
record IsDown (w : World) (after : List DiskCounts) (cause : Cause) (node : List ℕ) (lines : List Line) (v : World) : Type 0 where
  shown : List Line
  told : lines ≡ shown ++ line.Down node cause ∷ []
  down : option_map (λ n. n.up) (find_node node v.nodes) ≡ Some false
  rose : RoseAt w node cause after

abbrev PutsDown : List DiskCounts → World → List Line → Line → World → Type 0
PutsDown after w lines answer v = (cause : Cause) → answer ≡ line.Broken cause → (node : List ℕ) × IsDown w after cause node lines v

broken_is : (a b : Cause) → line.Broken a ≡ line.Broken b → a ≡ b
broken_is a b e = cc

not_broken : (answer : Line) (cause : Cause) → is_refusal answer ≡ true → answer ≡ line.Broken cause → ⊥
not_broken answer cause h e = clash _ (sym (ap is_refusal e) ∙ h) refl

-- of a task
task_down : (w : World) (node : List ℕ) (t : Task) (n : Node) (after : List DiskCounts) (e : TaskEffect) (cause : Cause) → find_node node w.nodes ≡ Some n → e.node.name ≡ n.name → e.answer ≡ line.Broken cause →
    Outcome w.shared (stops_at node w) n t (λ cause. RoseAt w node cause after) e → IsDown w after cause node e.lines (put_into w node e).world
task_down w node t n after e cause found named is (First refusal first f) = absurd (not_broken refusal cause ((refuses_first w.shared n t).says refusal first) (sym (ap (λ (x : TaskEffect). x.answer) f) ∙ is))
task_down w node t n after e cause found named is (Late outturn refusal may first late f) =
    absurd (not_broken refusal cause ((refuses_then w.shared (ready_in_world outturn w node t n) t).says refusal late) (sym (ap (λ (x : TaskEffect). x.answer) f) ∙ is))
task_down w node t n after e cause found named is (Success outturn may first late f) =
    absurd (success_no_failure cause (subst (λ l. is_success l ≡ true) (sym (ap (λ (x : TaskEffect). x.answer) f) ∙ is) (task_succeeds w.shared (ready_in_world outturn w node t n) t)))
task_down w node t n after e cause found named is (Lacking first takes f) = absurd (not_broken line.NoMemory cause refl (sym (ap (λ (x : TaskEffect). x.answer) f) ∙ is))
task_down w node t n after e cause found named is (Failing other shown true first rises shows down answers ends) = let none : line.Normal ≡ line.Broken cause = sym answers ∙ is in let no : ⊥ = cc in absurd no
task_down w node t n after e cause found named is (Failing other shown false first rises shows down answers ends) =
    let same = broken_is other cause (sym answers ∙ is) in
    record {
      shown = shown;
      told = shows ∙ (λ i. shown ++ line.Down (found_name node w.nodes n found i) (same i) ∷ []);
      down = ap (option_map (λ n. n.up)) (put_node node n e.node w.nodes named found) ∙ ap Some down;
      rose = subst (λ x. RoseAt w node x after) same rises;
    }

way_down : (w : World) (p : Part) (c : Choice) (after : List DiskCounts) → Way w p c after → PutsDown after w (part_effect w p c).lines (part_effect w p c).answer (part_effect w p c).world
way_down w p c after (Done node t n found allowed is) =
    let e = task_effect w.shared (stops_at node w) n t c in
    subst (λ (x : PartEffect). PutsDown after w x.lines x.answer x.world) (sym is)
    (λ cause broken. (node, task_down w node t n after e cause found (effect_name w.shared (stops_at node w) n t c) broken (outcome w.shared (stops_at node w) n t (λ cause. RoseAt w node cause after) c allowed)))
way_down w p c after (Missing node none is) = subst (λ (x : PartEffect). PutsDown after w x.lines x.answer x.world) (sym is) (λ cause broken. absurd (not_broken line.NoSuchNode cause refl broken))
way_down w p c after (Idle is) = subst (λ (x : PartEffect). PutsDown after w x.lines x.answer x.world) (sym is) (λ cause broken. let no : ⊥ = cc in absurd no)
way_down w p c after (Doubted node serial b there none is) = subst (λ (x : PartEffect). PutsDown after w x.lines x.answer x.world) (sym is) (λ cause broken. absurd (not_broken _ cause refl broken))

-- a part with which its statement does not end is not answered with a failure
outcome_not_broken : (w : World) (node : List ℕ) (t : Task) (n : Node) (rises : Cause → Type 0) (e : TaskEffect) (cause : Cause) → e.ends ≡ false → e.answer ≡ line.Broken cause → Outcome w.shared (stops_at node w) n t rises e → ⊥
outcome_not_broken w node t n rises e cause on is (First refusal first f) = clash _ (ap (λ (x : TaskEffect). x.ends) f) on
outcome_not_broken w node t n rises e cause on is (Late outturn refusal may first late f) = clash _ (ap (λ (x : TaskEffect). x.ends) f) on
outcome_not_broken w node t n rises e cause on is (Success outturn may first late f) =
    success_no_failure cause (subst (λ l. is_success l ≡ true) (sym (ap (λ (x : TaskEffect). x.answer) f) ∙ is) (task_succeeds w.shared (ready_in_world outturn w node t n) t))
outcome_not_broken w node t n rises e cause on is (Lacking first takes f) = clash _ (ap (λ (x : TaskEffect). x.ends) f) on
outcome_not_broken w node t n rises e cause on is (Failing other shown true first rises_so shows down answers ends) = let none : line.Normal ≡ line.Broken cause = sym answers ∙ is in let no : ⊥ = cc in no
outcome_not_broken w node t n rises e cause on is (Failing other shown false first rises_so shows down answers ends) = clash _ ends on

abbrev NoBroken : Line → Type 0
NoBroken given = (cause : Cause) → given ≡ line.Broken cause → ⊥

way_not_broken : (w : World) (p : Part) (c : Choice) (after : List DiskCounts) → Way w p c after → (part_effect w p c).ends ≡ false → NoBroken (part_effect w p c).answer
way_not_broken w p c after (Done node t n found allowed is) on cause broken =
    let e = task_effect w.shared (stops_at node w) n t c in
    outcome_not_broken w node t n (λ cause. RoseAt w node cause after) e cause (sym (ap (λ (x : PartEffect). x.ends) is) ∙ on) (sym (ap (λ (x : PartEffect). x.answer) is) ∙ broken) (outcome w.shared (stops_at node w) n t (λ cause. RoseAt w node cause after) c allowed)
way_not_broken w p c after (Missing node none is) on cause broken = clash _ (ap (λ (x : PartEffect). x.ends) is) on
way_not_broken w p c after (Idle is) on cause broken = let none : line.Normal ≡ line.Broken cause = sym (ap (λ (x : PartEffect). x.answer) is) ∙ broken in let no : ⊥ = cc in no
way_not_broken w p c after (Doubted node serial b there none is) on cause broken = clash _ (ap (λ (x : PartEffect). x.ends) is) on

later_down : (w u : World) (front : List Line) (after : List DiskCounts) (rest : List Line) (answer : Line) (v : World) → KeepsDisks w u → PutsDown after u rest answer v → PutsDown after w (front ++ rest) answer v
later_down w u front after rest answer v keeps h cause broken =
    let d = h cause broken in
    let node = d.0 in (
      node,
      record {
        shown = front ++ d.1.shown;
        told = ap (λ ls. front ++ ls) d.1.told ∙ sym (append_assoc front d.1.shown (line.Down node cause ∷ []));
        down = d.1.down;
        rose = rose_before w u node cause after keeps d.1.rose;
      },
    )

-- what refuses a statement at once is a refusal
refuses_named : (w : World) (node : List ℕ) → Refuses (named_node w node)
refuses_named w node = says_case is_refusal (find_node node w.nodes) (λ n. None) _ (λ n. says_none is_refusal) (says_some is_refusal _ refl)

refuses_other : (w : World) (request : Request) → Refuses (other_node w request)
refuses_other w (AddBranch label other new) = refuses_named w other
refuses_other w _ = says_none is_refusal

pub once_refuses : (w : World) (s : Statement) → Refuses (refused_at_once w s)
once_refuses w (At node request) = says_first is_refusal _ _ (refuses_named w node) (refuses_other w request)
once_refuses w (Deliver number) = says_case is_refusal (message_at number w.shared.wire) (λ m. named_node w m.to) _ (λ m. refuses_named w m.to) (says_some is_refusal _ refl)
once_refuses w (LinkDown a b) = says_first is_refusal _ _ (refuses_named w a) (says_first is_refusal _ _ (refuses_named w b) (says_if is_refusal _ _ refl))
once_refuses w Settle = says_none is_refusal

pub begins_keeps : (s : Statement) (w : World) → KeepsDisks w (begun_with s w)
begins_keeps Settle w = record { disks = refl; at = λ other ds. refl }
begins_keeps (At node request) w = record { disks = refl; at = λ other ds. refl }
begins_keeps (Deliver number) w = record { disks = refl; at = λ other ds. refl }
begins_keeps (LinkDown a b) w = record { disks = refl; at = λ other ds. refl }

broken_down : (w v : World) (s : Statement) (events : List Line) (cause : Cause) → (step : Step w s (events ++ line.Broken cause ∷ []) v) → (node : List ℕ) × IsDown w v.disks cause node events v
broken_down w v s events cause step = go (refused_at_once w s) refl step.does
  where
    parts : (events ≡ step.events) × (line.Broken cause ≡ step.answer)
    parts = same_last events step.events (line.Broken cause) step.answer step.shows

    -- what is refused at once is refused with no failure
    at_once : (refusal : Line) → refused_at_once w s ≡ Some refusal → is_refusal refusal ≡ true
    at_once refusal e = (once_refuses w s).says refusal e

    begun : KeepsDisks w (begun_with s w)
    begun = begins_keeps s w

    of_step : (node : List ℕ) → IsDown (begun_with s w) v.disks cause node step.events step.world → IsDown w v.disks cause node events v
    of_step node down = record {
      shown = down.shown;
      told = parts.0 ∙ down.told;
      down = subst (λ (x : World). option_map (λ n. n.up) (find_node node x.nodes) ≡ Some false) (sym step.goes) down.down;
      rose = rose_before w (begun_with s w) node cause v.disks begun down.rose;
    }

    go : (o : Option Line) → refused_at_once w s ≡ o → Begins o (Phases (phases_of s) v.disks (begun_with s w) line.Normal) w step.events step.answer step.world → (node : List ℕ) × IsDown w v.disks cause node events v
    go (Some refusal) e d = absurd (not_broken refusal cause (at_once refusal e) (sym d.1 ∙ sym parts.1))
    go None e d =
        let r : PutsDown v.disks (begun_with s w) step.events step.answer step.world = phases_fold v.disks (λ p. Unit {0}) NoBroken (PutsDown v.disks)
        (λ u given q x broken. absurd (q x broken))
        (λ u p c ok allowed ends. way_down u p c v.disks (way u p c v.disks allowed))
        (λ u p c ok allowed on. (way_not_broken u p c v.disks (way u p c v.disks allowed) on, λ rest answer x k. later_down u (part_effect u p c).world (part_effect u p c).lines v.disks rest answer x (way_keeps u p c v.disks (way u p c v.disks allowed)) k))
        (phases_of s) (each_phase s) (begun_with s w) line.Normal step.events step.answer step.world (λ x broken. let no : ⊥ = cc in no) d in
        let found = r cause (sym parts.1) in
        (found.0, of_step found.0 found.1)

-- Where no count rises.

-- both counts are below the greatest number of 64 bits
abbrev BothCanRise : DiskCounts → Type 0
BothCanRise d = (d.faults + 1 < 2 ^ 64) × (d.stops + 1 < 2 ^ 64)

can_rise_at : (node : List ℕ) (ns : List Node) (ds : List DiskCounts) (d : DiskCounts) → CanRise ds → disk_of node ns ds ≡ Some d → BothCanRise d
can_rise_at node [] ds d h e = let none : ⊥ = cc in absurd none
can_rise_at node (n ∷ ns) [] d h e = let none : ⊥ = cc in absurd none
can_rise_at node (n ∷ ns) (f ∷ ds) d h e = go (bytes_eq node n.name) (λ k. can_rise_at node ns ds d h.2 k) e
  where
    go : (b : Bool) → (disk_of node ns ds ≡ Some d → BothCanRise d) → ◌≡◌ {A = Option DiskCounts} (if b then Some f else disk_of node ns ds) (Some d) → BothCanRise d
    go true later k = let same : f ≡ d = cc in subst BothCanRise same (h.0, h.1)
    go false later k = later k

no_rise : (d : DiskCounts) (cause : Cause) → BothCanRise d → Rose (count_of cause d) (count_of cause d) → ⊥
no_rise d Failed h r = elim r [ inl less ↦ omega arith | inr top ↦ omega arith ]
no_rise d Stopped h r = elim r [ inl less ↦ omega arith | inr top ↦ omega arith ]

pub not_risen : (w : World) (node : List ℕ) (cause : Cause) (after : List DiskCounts) → after ≡ w.disks → CanRise w.disks → RoseAt w node cause after → ⊥
not_risen w node cause after same h rose =
    go (disk_of node w.nodes w.disks) refl (subst (λ disks. RoseAt w node cause disks) same rose)
  where
    go : (o : Option DiskCounts) → disk_of node w.nodes w.disks ≡ o →
        elim o as (λ x. Type 0) [ Some old ↦ elim o as (λ x. Type 0) [ Some new ↦ Rose (count_of cause old) (count_of cause new) | None ↦ ⊥ ] | None ↦ ⊥ ] → ⊥
    go (Some d) e r = no_rise d cause (can_rise_at node w.nodes w.disks d h e) r
    go None e r = r

not_broken_then : (w v : World) (s : Statement) (events : List Line) (cause : Cause) → Step w s (events ++ line.Broken cause ∷ []) v → v.disks ≡ w.disks → CanRise w.disks → ⊥
not_broken_then w v s events cause step same h = let d = broken_down w v s events cause step in not_risen w d.0 cause v.disks same h d.1.rose

-- what is refused before the disk is read
first_refused : (w v : World) (node : List ℕ) (t : Task) (n : Node) (lines : List Line) (refusal : Line) (e : TaskEffect) → find_node node w.nodes ≡ Some n → refused_first w n t ≡ Some refusal → lines ≡ e.lines ++ e.answer ∷ [] → v ≡ record (put_into w node e).world { disks = v.disks } →
    Outcome w.shared (stops_at node w) n t (λ cause. RoseAt w node cause v.disks) e → (lines ≡ refusal ∷ []) × (v ≡ record w { disks = v.disks })
first_refused w v node t n lines refusal e found is shows goes (First other first f) =
    let same : other ≡ refusal = some_is other refusal (sym first ∙ is) in
    (shows ∙ ap (λ (x : TaskEffect). x.lines ++ x.answer ∷ []) f ∙ ap (λ l. l ∷ []) same, goes ∙ left_by w node n n other e v.disks f ∙ left_same w node n v.disks found)
first_refused w v node t n lines refusal e found is shows goes (Late outturn other may first late f) = absurd (none_some refusal _ first is)
first_refused w v node t n lines refusal e found is shows goes (Success outturn may first late f) = absurd (none_some refusal _ first is)
first_refused w v node t n lines refusal e found is shows goes (Lacking first takes f) = absurd (none_some refusal _ first is)
first_refused w v node t n lines refusal e found is shows goes (Failing cause shown goes_on first rises told down answers ends) = absurd (none_some refusal _ first is)

-- what is not
given : (w v : World) (node : List ℕ) (t : Task) (n : Node) (lines : List Line) (e : TaskEffect) → find_node node w.nodes ≡ Some n → refused_first w n t ≡ None → lines ≡ e.lines ++ e.answer ∷ [] → v ≡ record (put_into w node e).world { disks = v.disks } →
    v.disks ≡ w.disks → CanRise w.disks → Outcome w.shared (stops_at node w) n t (λ cause. RoseAt w node cause v.disks) e →
    ((outturn : Outturn) × MayTurnOut n outturn × EndsWhole w node t (ready_in_world outturn w node t n) (refused_then w (ready_in_world outturn w node t n) t) lines v)
    ⊎ ((lines ≡ NoMemory ∷ []) × (may_lack_memory n t ≡ true) × (v ≡ record w { disks = v.disks }))
given w v node t n lines e found is shows goes same h (First refusal first f) = absurd (none_some refusal _ is first)
given w v node t n lines e found is shows goes same h (Late outturn refusal may first late f) =
    inl (outturn, may, subst (λ o. EndsWhole w node t (ready_in_world outturn w node t n) o lines v) (sym late) (shows ∙ ap (λ (x : TaskEffect). x.lines ++ x.answer ∷ []) f, goes ∙ left_by w node n (ready_in_world outturn w node t n) refusal e v.disks f))
given w v node t n lines e found is shows goes same h (Success outturn may first late f) =
    inl (outturn, may, subst (λ o. EndsWhole w node t (ready_in_world outturn w node t n) o lines v) (sym late) (shows ∙ ap (λ (x : TaskEffect). x.lines ++ x.answer ∷ []) f, goes ∙ ap (λ (x : TaskEffect). record (put_into w node x).world { disks = v.disks }) f))
given w v node t n lines e found is shows goes same h (Lacking first takes f) =
    inr (shows ∙ ap (λ (x : TaskEffect). x.lines ++ x.answer ∷ []) f, takes, goes ∙ left_by w node n n line.NoMemory e v.disks f ∙ left_same w node n v.disks found)
given w v node t n lines e found is shows goes same h (Failing cause shown goes_on first rises told down answers ends) = absurd (not_risen w node cause v.disks same h rises)

task_given : (w v : World) (s : Statement) (node : List ℕ) (t : Task) (n : Node) (lines : List Line) → IsTask w s node t n → Step w s lines v →
    ((refusal : Line) → refused_first w n t ≡ Some refusal → (lines ≡ refusal ∷ []) × (v ≡ record w { disks = v.disks }))
    × (v.disks ≡ w.disks → CanRise w.disks → refused_first w n t ≡ None →
    ((outturn : Outturn) × MayTurnOut n outturn × EndsWhole w node t (ready_in_world outturn w node t n) (refused_then w (ready_in_world outturn w node t n) t) lines v)
    ⊎ ((lines ≡ NoMemory ∷ []) × (may_lack_memory n t ≡ true) × (v ≡ record w { disks = v.disks })))
task_given w v s node t n lines task step =
    let u = turn w v s node t n lines task step in
    let e = task_effect w.shared (stops_at node w) n t u.choice in
    let o = outcome w.shared (stops_at node w) n t (λ cause. RoseAt w node cause v.disks) u.choice u.allowed in
    let shows : lines ≡ e.lines ++ e.answer ∷ [] = step.shows ∙ (λ i. u.shows i ++ u.answers i ∷ []) in
    (λ refusal is. first_refused w v node t n lines refusal e task.found is shows u.goes o, λ same h is. given w v node t n lines e task.found is shows u.goes same h o)

pub successes : SuccessIsGiven
successes = (task_given, not_broken_then)

-- The node of a failure of a statement that is one task is its own.

here_down : (w v : World) (s : Statement) (events : List Line) (cause : Cause) (node : List ℕ) (shown : List Line) → events ≡ shown ++ line.Down node cause ∷ [] → Step w s (events ++ line.Broken cause ∷ []) v → (here : List ℕ) (t : Task) (n : Node) → IsTask w s here t n → node ≡ here
here_down w v s events cause node shown told step here t n task =
    let u = turn w v s here t n (events ++ line.Broken cause ∷ []) task step in
    let e = task_effect w.shared (stops_at here w) n t u.choice in
    let parts = same_last events step.events (line.Broken cause) step.answer step.shows in
    let d = task_down w here t n v.disks e cause task.found (effect_name w.shared (stops_at here w) n t u.choice) (sym u.answers ∙ sym parts.1) (outcome w.shared (stops_at here w) n t (λ cause. RoseAt w here cause v.disks) u.choice u.allowed) in
    let same = (same_last shown d.shown (line.Down node cause) (line.Down here cause) (sym told ∙ parts.0 ∙ u.shows ∙ d.told)).1 in
    down_is node here cause same
  where
    down_is : (a b : List ℕ) (cause : Cause) → line.Down a cause ≡ line.Down b cause → a ≡ b
    down_is a b cause e = cc

pub failures : FailurePutsDown
failures w v s events cause step =
    let d = broken_down w v s events cause step in
    (d.0, d.1.shown, d.1.told, d.1.down, d.1.rose, here_down w v s events cause d.0 d.1.shown d.1.told step)
