-- Where what each disk had of which nothing is known is replaced before its node is booted, a run leads on whole.
use Rattle.std.proofs.Common.{◌≡◌, ◌⊎◌, inl, inr, ℕ, zero, suc, List, [], ◌∷◌, ◌++◌, Bool, true, false, not, ◌||◌, Option, Some, None, if◌then◌else◌, refl, sym, ◌∙◌, ap, subst, append_assoc}
use Rattle.std.specs.Str.{bytes_eq}
use Rattle.std.specs.List.{last_or}
use Rattle.std.specs.Option.{option_map}
use Rattle.std.proofs.lemmas.Slice.Eq.{bytes_eq-Decides}
use Rattle.block_disk.specs.Disk.{DiskState}
use Rattle.transcript_model.specs.Lines as line
use Rattle.transcript_model.specs.Lines.{Cause, Line, Normal}
use Rattle.transcript_model.specs.Script.{lines_of}
use Rattle.script_model.specs.Statements.{At, Boot, Deliver, Init, LinkDown, Request, Says, Settle, Statement}
use Rattle.script_model.specs.Grammar.{reading}
use Rattle.statement_steps.specs.run_agreement.Laws.{IsReplaced, Replaces}
use Rattle.statement_steps.specs.run_agreement.Seen.{IsKnown}
use Rattle.world_laws.specs.run_model.World.{Node, Shared, Unknown, World, find_node, powered}
use Rattle.world_laws.specs.run_model.Answers.{Serves, refused_before_reading, task_service}
use Rattle.world_laws.specs.run_model.StepLaws.{is_refusal}
use Rattle.world_laws.specs.run_model.Steps as task
use Rattle.world_laws.specs.run_model.Steps.{Choice, Cut, Unpowered, Whole, WithoutMemory, ready_node, task_effect}
use Rattle.world_laws.specs.run_model.Statements.{Begins, Phases, Step, begun_with, phases_of, refused_at_once, stops_at}
use Rattle.world_laws.specs.run_model.Transcript.{AreInLimits, Ends, Entry, Legal, Turn}
use Rattle.world_laws.proofs.run_model.CauseLemmas.{refuses_first}
use Rattle.world_laws.proofs.run_model.NodeLists.{some_is}
use Rattle.world_laws.proofs.run_model.PartLemmas.{turn}
use Rattle.run_laws.specs.Promises.{KeptPromises}
use Rattle.manager_laws.specs.Promises.{ManagerPromises}
use Rattle.recovery_runs.specs.Promises.{RecoveryPromises}
use Rattle.statement_steps.proofs.Stepping.{request_missing, request_there}
use Rattle.day_run.specs.run_nodes.Untold.{BootsUnknown, IsUntold}
use Rattle.world_laws.proofs.Induction.{acts_name}
use Rattle.dtm_run.specs.Headline.{KeepsAgreed, Leaves, WholeRun, exit_of, is_known}
use Rattle.dtm_run.specs.Leading.{AreKnown, AreMadeFirst, Beginning, IsReplacedFirst, IsUnknown, KnownRunsAreWhole, Leads, LeadsNowhere, LeavesOver, MadeRunsAreWhole, RunOver, world_at}
use Rattle.dtm_run.specs.declared.top.Exit.{Exit}
use Rattle.day_run.proofs.Known.{KnownAt, found_same, turn_known}
use Rattle.day_run.proofs.Making.{last_behind}
use Rattle.dtm_run.proofs.Leading.{is_unknown, since_legal}

-- An INIT that is answered so.

-- such an answer
abbrev IsReplacing : Line → Type 0
IsReplacing l = (l ≡ Normal) ⊎ ((cause : Cause) × (l ≡ line.Broken cause))

no_refusal : (l : Line) → is_refusal l ≡ true → IsReplacing l → ⊥
no_refusal l is (inl e) = let clash : true ≡ false = sym is ∙ ap is_refusal e in let no : ⊥ = cc in no
no_refusal l is (inr e) = let clash : true ≡ false = sym is ∙ ap is_refusal e.1 in let no : ⊥ = cc in no

made_known : (s : Shared) (stops : ℕ) (n : Node) (slots journal : ℕ) (c : Choice) → IsReplacing (task_effect s stops n (Serves (Init slots journal)) c).answer → IsKnown (task_effect s stops n (Serves (Init slots journal)) c).node
made_known s stops n slots journal (Whole o) e = go (refused_before_reading s n (task_service (Serves (Init slots journal)))) refl e
  where
    go : (q : Option Line) → refused_before_reading s n (task_service (Serves (Init slots journal))) ≡ q → IsReplacing (task.whole s n (ready_node o stops (task_service (Serves (Init slots journal))) n) (task_service (Serves (Init slots journal))) q).answer →
        IsKnown (task.whole s n (ready_node o stops (task_service (Serves (Init slots journal))) n) (task_service (Serves (Init slots journal))) q).node
    go (Some refusal) is e = absurd (no_refusal refusal ((refuses_first s n (Serves (Init slots journal))).says refusal is) e)
    go None is e = λ unknown. let none : ⊥ = cc in absurd none
made_known s stops n slots journal WithoutMemory e = absurd (no_refusal line.NoMemory refl e)
made_known s stops n slots journal Unpowered e = λ unknown. refl
made_known s stops n slots journal (Cut o done begun cause) e = go done begun
  where
    go : (k : ℕ) (b : Bool) → IsKnown (task.cut s (task.with_unknown_volume true (powered o stops n)) (task_service (Serves (Init slots journal))) [] k b cause).node
    go zero true = λ unknown. refl
    go zero false = λ unknown. refl
    go (suc k) true = λ unknown. refl
    go (suc k) false = λ unknown. refl

-- a statement that a node is not there to serve is refused
refused_so : (w v : World) (s : Statement) (lines : List Line) (refusal : Line) (d : Step w s lines v) → refused_at_once w s ≡ Some refusal → d.answer ≡ refusal
refused_so w v s lines refusal d e = (subst (λ o. Begins o (Phases (phases_of s) v.disks (begun_with s w) Normal) w d.events d.answer d.world) e d.does).1

step_made : (w v : World) (node : List ℕ) (slots journal : ℕ) (lines : List Line) → Step w (At node (Init slots journal)) lines v → ((last_or None lines ≡ Some Normal) ⊎ ((cause : Cause) × (last_or None lines ≡ Some (line.Broken cause)))) → KnownAt node v
step_made w v node slots journal lines d answered = go (find_node node w.nodes) refl
  where
    answer : (l : Line) → last_or None lines ≡ Some l → d.answer ≡ l
    answer l is = some_is d.answer l (sym (last_behind d.events d.answer) ∙ sym (ap (λ (ls : List Line). last_or None ls) d.shows) ∙ is)

    replacing : IsReplacing d.answer
    replacing = elim answered [ inl made ↦ inl (answer Normal made) | inr broken ↦ inr (broken.0, answer (line.Broken broken.0) broken.1) ]

    go : (o : Option Node) → find_node node w.nodes ≡ o → KnownAt node v
    go None missing = absurd (no_refusal line.NoSuchNode refl (subst IsReplacing (refused_so w v (At node (Init slots journal)) lines line.NoSuchNode d (request_missing w node (Init slots journal) missing)) replacing))
    go (Some n) there = λ k e.
        let t = turn w v (At node (Init slots journal)) node (Serves (Init slots journal)) n lines (record { begins = request_there w node (Init slots journal) refl n there; task = refl; found = there }) d in
        let m = (task_effect w.shared (stops_at node w) n (Serves (Init slots journal)) t.choice).node in
        let found : find_node node v.nodes ≡ Some m = ap (λ (x : World). find_node node x.nodes) t.goes ∙ found_same node m w.nodes n there (acts_name w.shared (stops_at node w) n (Serves (Init slots journal)) t.choice) in
        subst IsKnown (some_is m k (sym found ∙ e)) (made_known w.shared (stops_at node w) n slots journal t.choice (subst IsReplacing t.answers replacing))

turn_made : (w v : World) (node : List ℕ) (e : Entry) → Replaces node e → Turn w (reading e.source.text) e.lines v → KnownAt node v
turn_made w v node e m t = step_made w v node m.slots m.journal e.lines (subst (λ r. Turn w r e.lines v) m.says t) m.answered

-- Of each node something is known at the first beginning, or what its disk had is replaced before it is booted.
abbrev Sure : Beginning → List Entry → Type 0
Sure first full = (name : List ℕ) → KnownAt name (world_at first) ⊎ IsReplacedFirst name full

record LeadMade (first last : Beginning) (es since : List Entry) (w : World) : Type 0 where
  same : last ≡ first
  all : since ≡ es
  old : (name : List ℕ) → KnownAt name (world_at first) → KnownAt name w
  made : (name : List ℕ) → IsReplaced name es → KnownAt name w

-- So a node of which nothing is known is not booted.
not_unknown : (first last : Beginning) (full later es since : List Entry) (e : Entry) (w : World) (unused : Bool) → Sure first full → full ≡ later ++ e ∷ es → LeadMade first last es since w → IsUnknown w e unused → ⊥
not_unknown first last full later es since e w unused sure parts led h = by h.statement h.says h.boots
  where
    booted : (s : Statement) → reading e.source.text ≡ Says s → (name : List ℕ) (n : Node) → find_node name w.nodes ≡ Some n → IsUntold n → (s ≡ At name Boot) ⊎ (s ≡ Settle) → ⊥
    booted s says name n found untold which = elim (sure name) [
      | inl k ↦ never (led.old name k)
      | inr m ↦ never (led.made name (m es later e s parts says which))
    ]
      where
        never : KnownAt name w → ⊥
        never k = let no : true ≡ false = sym (k n found untold.unknown) ∙ untold.made in let none : ⊥ = cc in none

    request : (name : List ℕ) (r : Request) → reading e.source.text ≡ Says (At name r) → BootsUnknown w (At name r) → ⊥
    request name Boot says b = booted (At name Boot) says name b.0 b.1 b.2 (inl refl)
    request name _ says b = b

    by : (s : Statement) → reading e.source.text ≡ Says s → BootsUnknown w s → ⊥
    by (At name r) says b = request name r says b
    by (Deliver number) says b = b
    by (LinkDown x y) says b = b
    by Settle says b = booted Settle says b.0 b.1 b.2 b.3 (inr refl)

-- the next entry is one of those that are later
moved_on : (full later es : List Entry) (e : Entry) → full ≡ later ++ e ∷ es → full ≡ (later ++ e ∷ []) ++ es
moved_on full later es e parts = parts ∙ sym (append_assoc later (e ∷ []) es)

leads_made : (names : List (List ℕ)) (first last : Beginning) (es since : List Entry) (w : World) (full later : List Entry) → full ≡ later ++ es → Sure first full → Leads names first es last since w → LeadMade first last es since w
leads_made names first last [] since w full later parts sure h = record {
  same = h.0;
  all = h.1;
  old = λ name k. subst (KnownAt name) (sym h.2) k;
  made = λ name none. absurd none;
}
leads_made names first last (e ∷ es) [] w full later parts sure h =
    absurd (not_unknown first h.0 full later es h.1 e h.2 true sure parts (leads_made names first h.0 es h.1 h.2 full (later ++ e ∷ []) (moved_on full later es e parts) sure h.3) h.4.unknown)
leads_made names first last (e ∷ es) (latest ∷ since) w full later parts sure h =
    let before = leads_made names first last es since h.1 full (later ++ e ∷ []) (moved_on full later es e parts) sure h.2 in
    record {
      same = before.same;
      all = λ i. h.0 i ∷ before.all i;
      old = λ name k. turn_known name h.1 w (reading e.source.text) e.lines h.3 (before.old name k);
      made = λ name m. elim m [ inl here ↦ turn_made h.1 w name e here h.3 | inr was ↦ turn_known name h.1 w (reading e.source.text) e.lines h.3 (before.made name was) ];
    }

-- nor does an entry that is left over lead nowhere
nowhere_made : (first last : Beginning) (full later left es since : List Entry) (w : World) → Sure first full → full ≡ later ++ (left ++ es) → LeadMade first last es since w → LeadsNowhere w left → ⊥
nowhere_made first last full later [] es since w sure parts led h = h
nowhere_made first last full later (e ∷ []) es since w sure parts led h = not_unknown first last full later es since e w false sure parts led h
nowhere_made first last full later (e ∷ f ∷ left) es since w sure parts led h = nowhere_made first last full (later ++ e ∷ []) (f ∷ left) es since w sure (moved_on full later ((f ∷ left) ++ es) e parts) led h

-- what is so since a beginning
abbrev KeptSince : Beginning → List Entry → World → Type 0
KeptSince b since w = Legal (world_at b) since w × KeptPromises (world_at b) since w × ManagerPromises (world_at b) since w × RecoveryPromises (world_at b) since w × KeepsAgreed (world_at b) b.nodes since w

whole : (names : List (List ℕ)) (nodes : List Node) (before after : List DiskState) (script old new : Option (List ℕ)) (ended : Exit) (r : RunOver names nodes before after script old new ended) →
    Sure (record { nodes = nodes; disks = before }) (r.run.left_over ++ r.run.led) → WholeRun nodes before after script old new ended
whole names nodes before after script old new ended r sure = go r.run.left_over refl r.run.leaves
  where
    first : Beginning
    first = record { nodes = nodes; disks = before }

    led : LeadMade (record { nodes = nodes; disks = before }) r.run.last r.run.led r.run.since r.run.closing
    led = leads_made names (record { nodes = nodes; disks = before }) r.run.last r.run.led r.run.since r.run.closing (r.run.left_over ++ r.run.led) r.run.left_over refl sure r.run.leads

    since : KeptSince (record { nodes = nodes; disks = before }) r.run.led r.run.closing
    since = subst (λ (b : Beginning). KeptSince b r.run.led r.run.closing) led.same
        (subst (λ (es : List Entry). KeptSince r.run.last es r.run.closing) led.all (since_legal names (record { nodes = nodes; disks = before }) r.run.last r.run.led r.run.since r.run.closing r.run.leads, r.promises, r.managers, r.recoveries, r.agreed))

    go : (left : List Entry) → r.run.left_over ≡ left → LeavesOver r.run.last r.run.closing left after → WholeRun nodes before after script old new ended
    go (e ∷ es) is leaves = absurd (nowhere_made (record { nodes = nodes; disks = before }) r.run.last (r.run.left_over ++ r.run.led) [] (e ∷ es) r.run.led r.run.since r.run.closing sure (ap (λ (l : List Entry). l ++ r.run.led) is) led leaves)
    go [] is leaves = record {
      run = record {
        ran = record {
          entries = r.run.led;
          closing = r.run.closing;
          legal = since.0;
          in_limits = subst (λ (es : List Entry). AreInLimits (es ++ r.run.led)) is r.run.in_limits;
          added = r.run.added;
          shows = r.run.shows;
          ends = subst (λ (es : List Entry). Ends (exit_of ended) (option_map lines_of script) (es ++ r.run.led) r.run.added) is r.run.ends;
        };
        leaves = subst (λ (b : Beginning). Leaves b.disks r.run.closing after) led.same leaves;
      };
      promises = since.1;
      managers = since.2;
      recoveries = since.3;
      agreed = since.4;
    }

found_made : (name : List ℕ) (ns : List Node) (n : Node) (es : List Entry) → AreMadeFirst ns es → find_node name ns ≡ Some n → (n.durable.volume ≡ Unknown → IsReplacedFirst n.name es) × (name ≡ n.name)
found_made name [] n es h e = let none : ⊥ = cc in absurd none
found_made name (x ∷ ns) n es h e = go (bytes_eq name x.name) refl e (found_made name ns n es h.1)
  where
    go : (b : Bool) → bytes_eq name x.name ≡ b → ◌≡◌ {A = Option Node} (if b then Some x else find_node name ns) (Some n) → (find_node name ns ≡ Some n → (n.durable.volume ≡ Unknown → IsReplacedFirst n.name es) × (name ≡ n.name)) → (n.durable.volume ≡ Unknown → IsReplacedFirst n.name es) × (name ≡ n.name)
    go true is f more = subst (λ (y : Node). (y.durable.volume ≡ Unknown → IsReplacedFirst y.name es) × (name ≡ y.name)) (some_is x n f) (h.0, (bytes_eq-Decides name x.name).0 is)
    go false is f more = more f

pub made_runs_are_whole : MadeRunsAreWhole
made_runs_are_whole names nodes before after script old new ended r made = whole names nodes before after script old new ended r (λ name. sure name (find_node name nodes) refl)
  where
    sure : (name : List ℕ) (o : Option Node) → find_node name nodes ≡ o → KnownAt name (world_at (record { nodes = nodes; disks = before })) ⊎ IsReplacedFirst name (r.run.left_over ++ r.run.led)
    sure name None none = inl (λ n e. let no : None ≡ Some n = sym none ∙ e in let never : ⊥ = cc in absurd never)
    sure name (Some n) found =
        let m = found_made name nodes n (r.run.left_over ++ r.run.led) made found in
        elim (is_unknown n.durable.volume) [
          | inl unknown ↦ inr (subst (λ y. IsReplacedFirst y (r.run.left_over ++ r.run.led)) (sym m.1) (m.0 unknown))
          | inr known ↦ inl (λ k e u. absurd (known (ap (λ (x : Node). x.durable.volume) (some_is n k (sym found ∙ e)) ∙ u)))
        ]

known_made : (ns : List Node) (es : List Entry) → AreKnown ns → AreMadeFirst ns es
known_made [] es h = tt
known_made (n ∷ ns) es h = ((λ unknown. let no : false ≡ true = ap is_known (sym unknown) ∙ h.0 in let none : ⊥ = cc in absurd none), known_made ns es h.1)

pub known_runs_are_whole : KnownRunsAreWhole
known_runs_are_whole names nodes before after script old new ended known r = made_runs_are_whole names nodes before after script old new ended r (known_made nodes (r.run.left_over ++ r.run.led) known)
