-- A settling is refused for the volume of a node only where the last INIT of that node was said to have failed.
use Rattle.std.proofs.Common.{◌≡◌, ℕ, ◌⊎◌, List, [], ◌∷◌, ◌++◌, map, inl, inr, Bool, true, false, not, ◌||◌, Option, Some, None, if◌then◌else◌, refl, sym, ◌∙◌, ap, subst}
use Rattle.std.specs.Str.{bytes_eq}
use Rattle.run_said.specs.transcript_model.Lines as line
use Rattle.run_said.specs.transcript_model.Lines.{Line, Cause}
use Rattle.run_said.specs.script_model.Statements.{Settle}
use Rattle.run_said.specs.run_model.World.{World, Shared, Node, DiskCounts, find_node}
use Rattle.run_said.specs.run_model.Operations.{first_of, refused_if}
use Rattle.run_said.specs.run_model.Answers.{Task, Serves, Ticks, Takes, Hears, LosesLink, RunsDown, Restarts, refused_before_reading, service, task_service}
use Rattle.run_said.specs.run_model.Steps.{Choice, TaskEffect, ready_node, refused, task_effect}
use Rattle.commit_protocol.specs.Table.{coordinator_of}
use Rattle.run_said.specs.run_model.Statements.{Part, Does, Asks, PartEffect, Phase, Question, Heard, Unanswered, Doubtful, Allowed, AllowedAt, AllowedOf, Step, done_at, no_node, question, question_effect, part_effect, stops_at, RoseAt, phases_of, begun_with}
use Rattle.run_said.proofs.run_model.CauseLemmas as cause
use Rattle.run_said.proofs.run_model.CauseLemmas.{is_success, task_succeeds}
use Rattle.run_said.proofs.run_model.NodeLists.{found_name}
use Rattle.run_said.proofs.run_model.PartLemmas.{EachPart, EachPhase, Way, Done, Missing, Idle, Doubted, allowed_here, done_here, phases_fold, way}
use Rattle.run_said.proofs.run_model.PartTasks.{IsOk, sweep_ok}
use Rattle.run_said.proofs.run_model.Refusing.{same_last}
use Rattle.run_said.proofs.run_model.TaskLemmas as tasks
use Rattle.run_said.proofs.run_model.TaskLemmas.{First, Late, Success, Lacking, Failing, outcome}
use Rattle.run_said.specs.Said.{Said, SaidNode, line_said, lines_said, node_in, with_said}
use Rattle.run_laws.specs.Laws.{UnmadeAreSaid}
use Rattle.run_laws.proofs.Ending.{standing}
use Rattle.run_laws.proofs.ToldParts.{IsThinPart, is_thinning, settle_phases}
use Rattle.run_laws.proofs.TurnsTell.{Good, HaveSteps, legal_told, part_told}
use Rattle.run_said.proofs.Views.{node_told, told_in}

-- a line that is no such refusal
abbrev is_other : Line → Bool
is_other (line.NotInitializedAt node) = false
is_other _ = true

-- it is told of the node that its last INIT failed
abbrev IsUnmade : List ℕ → Said → Type 0
IsUnmade node said = (x : SaidNode) × (node_in node said.nodes ≡ Some x) × (x.unmade ≡ true)

-- Lines tell nothing of that.

up_unmade : (node other : List ℕ) (up : Bool) (ns : List SaidNode) (x : SaidNode) → node_in node (with_said other (λ n. record n { up = up }) ns) ≡ Some x → x.unmade ≡ true → (y : SaidNode) × (node_in node ns ≡ Some y) × (y.unmade ≡ true)
up_unmade node other up [] x e h = let no : ⊥ = cc in absurd no
up_unmade node other up (n ∷ ns) x e h = go (bytes_eq other n.name) e (up_unmade node other up ns x)
  where
    here : (b : Bool) → bytes_eq node n.name ≡ b → (m : SaidNode) → (m.name ≡ n.name) → (m.unmade ≡ n.unmade) → (rest : List SaidNode) → (node_in node rest ≡ Some x → x.unmade ≡ true → (y : SaidNode) × (node_in node ns ≡ Some y) × (y.unmade ≡ true)) → node_in node (m ∷ rest) ≡ Some x → (y : SaidNode) × (node_in node (n ∷ ns) ≡ Some y) × (y.unmade ≡ true)
    here true is m name unmade rest more f =
        let found : bytes_eq node m.name ≡ true = ap (bytes_eq node) name ∙ is in
        let same : Some m ≡ Some x = sym (ap (λ b. if b then Some m else node_in node rest) found) ∙ f in
        let one : m ≡ x = cc in
        (n, ap (λ b. if b then Some n else node_in node ns) is, sym unmade ∙ ap (λ (y : SaidNode). y.unmade) one ∙ h)
    here false is m name unmade rest more f =
        let other_one : bytes_eq node m.name ≡ false = ap (bytes_eq node) name ∙ is in
        let r = more (sym (ap (λ b. if b then Some m else node_in node rest) other_one) ∙ f) h in
        (r.0, ap (λ b. if b then Some n else node_in node ns) is ∙ r.1, r.2)

    go : (b : Bool) → node_in node (if b then record n { up = up } ∷ ns else n ∷ with_said other (λ m. record m { up = up }) ns) ≡ Some x → (node_in node (with_said other (λ m. record m { up = up }) ns) ≡ Some x → x.unmade ≡ true → (y : SaidNode) × (node_in node ns ≡ Some y) × (y.unmade ≡ true)) → (y : SaidNode) × (node_in node (n ∷ ns) ≡ Some y) × (y.unmade ≡ true)
    go true f more = here (bytes_eq node n.name) refl (record n { up = up }) refl refl ns (λ g k. (x, g, k)) f
    go false f more = here (bytes_eq node n.name) refl n refl refl (with_said other (λ m. record m { up = up }) ns) more f

line_unmade : (node : List ℕ) (l : Line) (said : Said) → IsUnmade node (line_said l said) → IsUnmade node said
line_unmade node (line.Sent number m) said h = h
line_unmade node (line.Down other why) said h = up_unmade node other false said.nodes h.0 h.1 h.2
line_unmade node (line.Crashed other) said h = up_unmade node other false said.nodes h.0 h.1 h.2
line_unmade node (line.Booted other boot) said h = up_unmade node other true said.nodes h.0 h.1 h.2
line_unmade node _ said h = h

lines_unmade : (node : List ℕ) (ls : List Line) (said : Said) → IsUnmade node (lines_said ls said) → IsUnmade node said
lines_unmade node [] said h = h
lines_unmade node (l ∷ ls) said h = line_unmade node l said (lines_unmade node ls (line_said l said) h)

-- What a settling is refused for.

says_served : (s : Shared) (n : Node) (t : Task) → Good Settle t → cause.Says (λ l. is_other l) (refused_before_reading s n (task_service t)) ⊎ (t ≡ Restarts)
says_served s n (Serves request) h = subst (λ r. cause.Says (λ l. is_other l) (refused_before_reading s n (service r)) ⊎ (Serves r ≡ Restarts)) (sym h.1) (inl (cause.says_first _ _ _ (cause.says_if _ _ _ refl) (cause.says_none _)))
says_served s n Restarts h = inr refl
says_served s n Ticks h = inl (cause.says_first _ _ _ (cause.says_if _ _ _ refl) (cause.says_none _))
says_served s n (Takes m) h = inl (cause.says_first _ _ _ (cause.says_if _ _ _ refl) (cause.says_none _))
says_served s n (Hears m) h = inl (cause.says_first _ _ _ (cause.says_if _ _ _ refl) (cause.says_none _))
says_served s n (LosesLink other) h = inl (cause.says_first _ _ _ (cause.says_if _ _ _ refl) (cause.says_none _))
says_served s n RunsDown h = inl (cause.says_first _ _ _ (cause.says_if _ _ _ refl) (cause.says_none _))

says_late : (s : Shared) (n : Node) (t : Task) → Good Settle t → cause.Says (λ l. is_other l) ((task_service t).refused_after_reading s n)
says_late s n (Serves request) h = subst (λ r. cause.Says (λ l. is_other l) ((service r).refused_after_reading s n)) (sym h.1) (cause.says_none _)
says_late s n Restarts h = cause.says_bootable _ n refl refl refl (λ condition block. refl)
says_late s n Ticks h = cause.says_none _
says_late s n (Takes m) h = cause.says_none _
says_late s n (Hears m) h = cause.says_none _
says_late s n (LosesLink other) h = cause.says_none _
says_late s n RunsDown h = cause.says_none _

restart_unmade : (s : Shared) (n : Node) (node : List ℕ) → refused_before_reading s n (task_service Restarts) ≡ Some (line.NotInitializedAt node) → (n.name ≡ node) × (n.unmade ≡ true)
restart_unmade s n node e = by (not (n.up || true)) n.up n.unmade refl e
  where
    by : (a b c : Bool) → n.unmade ≡ c → first_of (refused_if a line.NodeDown) (first_of (refused_if b line.NodeUp) (refused_if c (line.NotInitializedAt n.name))) ≡ Some (line.NotInitializedAt node) → (n.name ≡ node) × (n.unmade ≡ true)
    by true b c is f = let no : ⊥ = cc in absurd no
    by false true c is f = let no : ⊥ = cc in absurd no
    by false false true is f = let same : n.name ≡ node = cc in (same, is)
    by false false false is f = let no : ⊥ = cc in absurd no

other_success : (l : Line) → is_success l ≡ true → is_other l ≡ true
other_success (line.NotInitializedAt node) h = let no : ⊥ = cc in absurd no
other_success _ h = refl

node_found : (node : List ℕ) (ns : List Node) (n : Node) → find_node node ns ≡ Some n → node_in node (map node_told ns) ≡ Some (node_told n)
node_found node [] n e = let no : ⊥ = cc in absurd no
node_found node (m ∷ ns) n e = go (bytes_eq node m.name) e (node_found node ns n)
  where
    go : (b : Bool) → ◌≡◌ {A = Option Node} (if b then Some m else find_node node ns) (Some n) → (find_node node ns ≡ Some n → node_in node (map node_told ns) ≡ Some (node_told n)) → ◌≡◌ {A = Option SaidNode} (if b then Some (node_told m) else node_in node (map node_told ns)) (Some (node_told n))
    go true f more = let same : m ≡ n = cc in ap (λ y. Some (node_told y)) same
    go false f more = more f

-- a task is answered so only where the node is told so
task_unmade : (w : World) (at node : List ℕ) (t : Task) (n : Node) (rises : Cause → Type 0) (e : TaskEffect) → Good Settle t → find_node at w.nodes ≡ Some n → tasks.Outcome w.shared (stops_at at w) n t rises e → e.answer ≡ line.NotInitializedAt node → IsUnmade node (told_in w)
task_unmade w at node t n rises e good found o answered = go o
  where
    clashes : {A : Type 0} (l : Line) → is_other l ≡ true → l ≡ line.NotInitializedAt node → A
    clashes l h same = let no : true ≡ false = sym h ∙ ap (λ x. is_other x) same in let none : ⊥ = cc in absurd none

    go : tasks.Outcome w.shared (stops_at at w) n t rises e → IsUnmade node (told_in w)
    go (First refusal first f) = elim (says_served w.shared n t good) [
      | inl says ↦ clashes refusal (says.says refusal first) (sym (ap (λ (x : TaskEffect). x.answer) f) ∙ answered)
      | inr restarts ↦ (
          let same : refusal ≡ line.NotInitializedAt node = sym (ap (λ (x : TaskEffect). x.answer) f) ∙ answered in
          let r = restart_unmade w.shared n node (subst (λ t. refused_before_reading w.shared n (task_service t) ≡ Some (line.NotInitializedAt node)) restarts (first ∙ ap Some same)) in
          let here : find_node node w.nodes ≡ Some n = subst (λ name. find_node name w.nodes ≡ Some n) (sym (found_name at w.nodes n found) ∙ r.0) found in
          (node_told n, node_found node w.nodes n here, r.1)
          )
    ]
    go (Late outturn refusal may first late f) = clashes refusal ((says_late w.shared (ready_node outturn (stops_at at w) (task_service t) n) t good).says refusal late) (sym (ap (λ (x : TaskEffect). x.answer) f) ∙ answered)
    go (Success outturn may first late f) = clashes _ (other_success _ (task_succeeds w.shared (ready_node outturn (stops_at at w) (task_service t) n) t)) (sym (ap (λ (x : TaskEffect). x.answer) f) ∙ answered)
    go (Lacking first takes f) = clashes line.NoMemory refl (sym (ap (λ (x : TaskEffect). x.answer) f) ∙ answered)
    go (Failing why shown true first rises_so shows down answers ends) = clashes line.Normal refl (sym answers ∙ answered)
    go (Failing why shown false first rises_so shows down answers ends) = clashes (line.Broken why) refl (sym answers ∙ answered)

-- Parts of a settling.

done_unmade : (w : World) (at : List ℕ) (t : Task) (c : Choice) (after : List DiskCounts) (node : List ℕ) → Good Settle t → AllowedAt w at t after c → (done_at w at t c).answer ≡ line.NotInitializedAt node → IsUnmade node (told_in w)
done_unmade w at t c after node good allowed answered = go (find_node at w.nodes) refl
  where
    go : (o : Option Node) → find_node at w.nodes ≡ o → IsUnmade node (told_in w)
    go (Some n) found = task_unmade w at node t n (λ why. RoseAt w at why after) (task_effect w.shared (stops_at at w) n t c) good found (outcome w.shared (stops_at at w) n t (λ why. RoseAt w at why after) c (allowed_here w at t n after c found allowed)) (ap (λ (x : PartEffect). x.answer) (sym (done_here w at t n c found)) ∙ answered)
    go None found = let none : done_at w at t c ≡ no_node w = rw (found, done_at) refl in let no : line.NoSuchNode ≡ line.NotInitializedAt node = ap (λ (x : PartEffect). x.answer) (sym none) ∙ answered in let never : ⊥ = cc in absurd never

good_thin : (t : Task) → is_thinning t ≡ true → Good Settle t
good_thin Ticks h = tt
good_thin (LosesLink other) h = tt
good_thin RunsDown h = tt
good_thin Restarts h = refl
good_thin _ h = let no : ⊥ = cc in absurd no

clash_line : {A : Type 0} (node : List ℕ) (l : Line) → is_other l ≡ true → l ≡ line.NotInitializedAt node → A
clash_line node l h same = let no : true ≡ false = sym h ∙ ap (λ x. is_other x) same in let none : ⊥ = cc in absurd none

part_unmade : (w : World) (p : Part) (c : Choice) (after : List DiskCounts) (node : List ℕ) → IsThinPart p → Allowed w p after c → (part_effect w p c).answer ≡ line.NotInitializedAt node → IsUnmade node (told_in w)
part_unmade w (Does at t) c after node ok allowed answered = done_unmade w at t c after node (good_thin t ok) allowed answered
part_unmade w (Asks at serial) c after node ok allowed answered = go (question w at serial) refl
  where
    go : (q : Question) → question w at serial ≡ q → IsUnmade node (told_in w)
    go (Heard m) e = done_unmade w m.to (Hears m) c after node tt (subst (AllowedOf w after c) e allowed) (ap (λ q. (question_effect w c q).answer) (sym e) ∙ answered)
    go Unanswered e = clash_line node line.Normal refl (ap (λ q. (question_effect w c q).answer) (sym e) ∙ answered)
    go (Doubtful k) e = clash_line node (line.InDoubt k.serial (coordinator_of k)) refl (ap (λ q. (question_effect w c q).answer) (sym e) ∙ answered)

-- a part with which a settling does not end is answered otherwise
part_other : (w : World) (p : Part) (c : Choice) (after : List DiskCounts) (node : List ℕ) → Allowed w p after c → (part_effect w p c).ends ≡ false → (part_effect w p c).answer ≡ line.NotInitializedAt node → ⊥
part_other w p c after node allowed on answered = go (way w p c after allowed)
  where
    ended_not : (e : TaskEffect) (s : Shared) (n : Node) (refusal : Line) → e ≡ refused s n refusal → e.ends ≡ false → ⊥
    ended_not e s n refusal f k = let no : true ≡ false = sym (ap (λ (x : TaskEffect). x.ends) f) ∙ k in cc

    task : (n : Node) (at : List ℕ) (t : Task) (rises : Cause → Type 0) (e : TaskEffect) → tasks.Outcome w.shared (stops_at at w) n t rises e → e.ends ≡ false → e.answer ≡ line.NotInitializedAt node → ⊥
    task n at t rises e (First refusal first f) k a = ended_not e w.shared n refusal f k
    task n at t rises e (Late outturn refusal may first late f) k a = ended_not e w.shared _ refusal f k
    task n at t rises e (Success outturn may first late f) k a = clash_line node _ (other_success _ (task_succeeds w.shared (ready_node outturn (stops_at at w) (task_service t) n) t)) (sym (ap (λ (x : TaskEffect). x.answer) f) ∙ a)
    task n at t rises e (Lacking first takes f) k a = ended_not e w.shared n line.NoMemory f k
    task n at t rises e (Failing why shown true first rises_so shows down answers ends) k a = clash_line node line.Normal refl (sym answers ∙ a)
    task n at t rises e (Failing why shown false first rises_so shows down answers ends) k a = clash_line node (line.Broken why) refl (sym answers ∙ a)

    go : Way w p c after → ⊥
    go (Done at t n found may is) = task n at t (λ why. RoseAt w at why after) (task_effect w.shared (stops_at at w) n t c) (outcome w.shared (stops_at at w) n t (λ why. RoseAt w at why after) c may) (ap (λ (x : PartEffect). x.ends) (sym is) ∙ on) (ap (λ (x : PartEffect). x.answer) (sym is) ∙ answered)
    go (Missing at none is) = clash_line node line.NoSuchNode refl (ap (λ (x : PartEffect). x.answer) (sym is) ∙ answered)
    go (Idle is) = clash_line node line.Normal refl (ap (λ (x : PartEffect). x.answer) (sym is) ∙ answered)
    go (Doubted at serial b asks none is) = clash_line node (line.InDoubt b.key.serial (coordinator_of b.key)) refl (ap (λ (x : PartEffect). x.answer) (sym is) ∙ answered)

-- The settling.

module _ (P Q : Part → Type 0) where
  both_parts : (ps : List Part) → EachPart P ps → EachPart Q ps → EachPart (λ p. P p × Q p) ps
  both_parts [] h g = tt
  both_parts (p ∷ ps) h g = ((h.0, g.0), both_parts ps h.1 g.1)

  both_phases : (ps : List Phase) → EachPhase P ps → EachPhase Q ps → EachPhase (λ p. P p × Q p) ps
  both_phases [] h g = tt
  both_phases (p ∷ ps) h g = (λ w. both_parts (p w) (h.0 w) (g.0 w), both_phases ps h.1 g.1)

settling_unmade : (w v : World) (lines : List Line) (node : List ℕ) → HaveSteps w.nodes → (step : Step w Settle lines v) → step.answer ≡ line.NotInitializedAt node → IsUnmade node (told_in w)
settling_unmade w v lines node steps step answered =
    let Ok : Part → Type 0 = λ p. IsOk (Good Settle) p × IsThinPart p in
    let ok = both_phases (IsOk (Good Settle)) IsThinPart (phases_of Settle) (sweep_ok (Good Settle) (λ m. tt) tt tt (λ other. tt) (λ now. (now, refl)) w Settle (λ settle. refl) refl refl) settle_phases in
    (phases_fold v.disks Ok (λ given. given ≡ line.NotInitializedAt node → ⊥) (λ u rest answer x. HaveSteps u.nodes → u.shared.in_use ≡ true → answer ≡ line.NotInitializedAt node → IsUnmade node (told_in u))
    (λ u given q h k a. absurd (q a))
    (λ u p c good allowed ends h k a. part_unmade u p c v.disks node good.1 allowed a)
    (λ u p c good allowed on. (
      λ a. part_other u p c v.disks node allowed on a,
      λ rest answer x more h k a.
          let one = part_told Settle u p c v.disks good.0 allowed h (λ s. k) in
          lines_unmade node (part_effect u p c).lines (told_in u) (subst (IsUnmade node) one.told (more one.steps (one.used refl) a)),
    ))
    (phases_of Settle) ok (begun_with Settle w) line.Normal step.events step.answer step.world (λ a. clash_line node line.Normal refl a) step.does) steps refl answered

pub unmade_are_said : UnmadeAreSaid
unmade_are_said nodes disks es closing opening legal before events node there =
    let s = standing nodes disks es before Settle events (line.NotInitializedAt node) closing opening legal there in
    let t = legal_told nodes disks s.w before opening s.legal in
    subst (IsUnmade node) t.0 (settling_unmade s.w s.v (events ++ line.NotInitializedAt node ∷ []) node t.1 s.step (sym (same_last events s.step.events (line.NotInitializedAt node) s.step.answer s.step.shows).1))
