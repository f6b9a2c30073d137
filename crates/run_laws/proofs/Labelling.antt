-- Statements by which labels are made, or take a branch.
use Rattle.std.proofs.Common.{◌≡◌, ℕ, ◌⊎◌, List, [], ◌∷◌, ◌++◌, map, inl, inr, Bool, true, false, not, ◌||◌, Option, Some, None, if◌then◌else◌, refl, sym, ◌∙◌, ap, subst}
use Rattle.std.specs.List.{last_or}
use Rattle.std.specs.Option.{option_and_then}
use Rattle.std.specs.Str.{bytes_eq}
use Rattle.std.proofs.lemmas.Slice.Eq.{bytes_eq-Decides}
use Rattle.vms_model.specs.Ids.{Id}
use Rattle.run_said.specs.transcript_model.Lines as line
use Rattle.run_said.specs.transcript_model.Lines.{Line, Cause}
use Rattle.run_said.specs.script_model.Statements.{Statement, At, Request, StartTrans, AddBranch, StartBranch, Direct, Reading, Says}
use Rattle.run_said.specs.script_model.Grammar.{reading}
use Rattle.unit_laws.specs.records_model.History.{same_id}
use Rattle.unit_laws.proofs.LiveLemmas.{id_is}
use Rattle.commit_protocol.specs.Table.{Branch}
use Rattle.commit_protocol.specs.World.{In}
use Rattle.run_said.specs.run_model.World.{World, Shared, Node, Label, find_branch, find_label, find_node, labelled}
use Rattle.run_said.specs.run_model.Operations.{first_of, refused_if}
use Rattle.run_said.specs.run_model.Answers.{Task, Serves, Service, service, task_service, refused_before_reading, branch_labelled, powers, touches}
use Rattle.run_said.specs.run_model.Steps.{Choice, Whole, WithoutMemory, Unpowered, Cut, TaskAllowed, TaskEffect, task_effect, ready_node, refused, succeeded, whole, begun}
use Rattle.run_said.specs.run_model.Statements.{Step, put_into, stops_at, RoseAt}
use Rattle.run_said.specs.run_model.Transcript.{Entry}
use Rattle.run_said.specs.run_model.StepLaws.{is_refusal, task_of}
use Rattle.run_said.proofs.run_model.NodeLists.{clash, found_name, put_node, put_same, some_is}
use Rattle.run_said.proofs.run_model.CauseLemmas.{refuses_first, refuses_then}
use Rattle.run_said.proofs.run_model.Refusing.{not_ready}
use Rattle.run_said.proofs.run_model.TaskLemmas as tasks
use Rattle.run_said.proofs.run_model.TaskLemmas.{First, Late, Success, Lacking, Failing, outcome}
use Rattle.run_laws.specs.Naming.{ToldLabel, find_told, ids_here, ids_told, labels_here, labels_told}
use Rattle.run_laws.proofs.Directed.{neither, not_refused}
use Rattle.run_laws.proofs.Moving.{IsPast, stays_so}
use Rattle.run_laws.proofs.Named.{Ended, Refused, Turned, Leads, Named, ended, put_leads, leads_disks, same_lead, succeeded_use, told}
use Rattle.run_laws.proofs.Drawing.{calm_named}
use Rattle.run_laws.proofs.TurnsTell.{last_is}

-- Requests that do not use the disk.

-- such a task is refused, and leaves its node, or succeeds
pub unused_outcome : (s : Shared) (stops : ℕ) (n : Node) (t : Task) (rises : Cause → Type 0) (c : Choice) → powers (task_service t) ≡ false → touches (task_service t) ≡ false → TaskAllowed s stops n t rises c →
    ((refusal : Line) × (is_refusal refusal ≡ true) × (task_effect s stops n t c ≡ refused s n refusal))
    ⊎ ((refused_before_reading s n (task_service t) ≡ None) × ((task_service t).refused_after_reading s n ≡ None) × (task_effect s stops n t c ≡ succeeded s n (task_service t)))
unused_outcome s stops n t rises (Whole outturn) off dry may = go (refused_before_reading s n e) refl
  where
    e : Service
    e = task_service t

    same : ready_node outturn stops e n ≡ n
    same = not_ready outturn stops e n off

    late : refused_before_reading s n e ≡ None → (o : Option Line) → e.refused_after_reading s n ≡ o →
        ((refusal : Line) × (is_refusal refusal ≡ true) × (begun s n e o ≡ refused s n refusal)) ⊎ ((refused_before_reading s n e ≡ None) × (e.refused_after_reading s n ≡ None) × (begun s n e o ≡ succeeded s n e))
    late f (Some refusal) is = inl (refusal, (refuses_then s n t).says refusal is, refl)
    late f None is = inr (f, is, refl)

    go : (o : Option Line) → refused_before_reading s n e ≡ o →
        ((refusal : Line) × (is_refusal refusal ≡ true) × (whole s n (ready_node outturn stops e n) e o ≡ refused s n refusal)) ⊎ ((refused_before_reading s n e ≡ None) × (e.refused_after_reading s n ≡ None) × (whole s n (ready_node outturn stops e n) e o ≡ succeeded s n e))
    go (Some refusal) is = inl (refusal, (refuses_first s n t).says refusal is, refl)
    go None is = subst (λ m. ((refusal : Line) × (is_refusal refusal ≡ true) × (begun s m e (e.refused_after_reading s m) ≡ refused s n refusal)) ⊎ ((refused_before_reading s n e ≡ None) × (e.refused_after_reading s n ≡ None) × (begun s m e (e.refused_after_reading s m) ≡ succeeded s n e))) (sym same) (late is (e.refused_after_reading s n) refl)
unused_outcome s stops n t rises WithoutMemory off dry may = inl (line.NoMemory, refl, refl)
unused_outcome s stops n t rises Unpowered off dry may = absurd (clash _ may.1 off)
unused_outcome s stops n t rises (Cut outturn done started cause) off dry may = absurd (clash _ may.1 dry)

-- So ends a request of a node that does not use its disk.
pub record Succeeds (w v : World) (node : List ℕ) (request : Request) (lines : List Line) : Type 0 where
  pub n : Node
  pub found : find_node node w.nodes ≡ Some n
  pub first : refused_before_reading w.shared n (service request) ≡ None
  pub late : (service request).refused_after_reading w.shared n ≡ None
  pub shows : lines ≡ (succeeded w.shared n (service request)).lines ++ (succeeded w.shared n (service request)).answer ∷ []
  pub goes : v ≡ record (put_into w node (succeeded w.shared n (service request))).world { disks = v.disks }

pub request_ends : (w v : World) (node : List ℕ) (request : Request) (lines : List Line) → task_of w (At node request) ≡ Some (record { node = node; task = Serves request }) → powers (service request) ≡ false → touches (service request) ≡ false → Step w (At node request) lines v →
    ((refusal : Line) × (is_refusal refusal ≡ true) × (lines ≡ refusal ∷ []) × Leads w v × (v ≡ record w { disks = v.disks })) ⊎ Succeeds w v node request lines
request_ends w v node request lines is off dry step = go (ended w v (At node request) lines node (Serves request) is step)
  where
    go : Ended w v node (Serves request) lines → ((refusal : Line) × (is_refusal refusal ≡ true) × (lines ≡ refusal ∷ []) × Leads w v × (v ≡ record w { disks = v.disks })) ⊎ Succeeds w v node request lines
    go (Refused refusal h shows goes) = inl (refusal, h, shows, same_lead w v goes, goes)
    go (Turned n found c allowed shows goes) = elim (unused_outcome w.shared (stops_at node w) n (Serves request) (λ cause. RoseAt w node cause v.disks) c off dry allowed) [
      | inl r ↦ inl (
        r.0,
        r.1,
        shows ∙ (λ i. (r.2 i).lines ++ (r.2 i).answer ∷ []),
        subst (Leads w) (sym (goes ∙ ap (λ (e : TaskEffect). record (put_into w node e).world { disks = v.disks }) r.2)) (leads_disks w (put_into w node (refused w.shared n r.0)).world v.disks (put_leads w node n n w.shared refl found (stays_so n) refl (λ k. k))),
        goes ∙ ap (λ (e : TaskEffect). record (put_into w node e).world { disks = v.disks }) r.2 ∙ ap (λ ns. record w { nodes = ns; disks = v.disks }) (put_same node n w.nodes found),
      )
      | inr r ↦ inr (record { n = n; found = found; first = r.0; late = r.1; shows = shows ∙ (λ i. (r.2 i).lines ++ (r.2 i).answer ∷ []); goes = goes ∙ ap (λ (e : TaskEffect). record (put_into w node e).world { disks = v.disks }) r.2 })
    ]

-- a refusal tells of no label and no id
refused_labels : (said : Reading) (refusal : Line) (ls : List ToldLabel) → is_refusal refusal ≡ true → labels_here said (Some refusal) ls ≡ ls
refused_labels (Says (At node (StartTrans label seconds))) (line.NormalId id) ls h = let no : ⊥ = cc in absurd no
refused_labels (Says (At node (AddBranch label other new))) (line.NormalId id) ls h = let no : ⊥ = cc in absurd no
refused_labels (Says (At node (StartBranch label))) (line.Pending serials rms) ls h = let no : ⊥ = cc in absurd no
refused_labels (Says (At node (StartTrans label seconds))) _ ls h = refl
refused_labels (Says (At node (AddBranch label other new))) _ ls h = refl
refused_labels (Says (At node (StartBranch label))) _ ls h = refl
refused_labels _ refusal ls h = refl

-- one that was refused
pub refused_named : (e : Entry) (es : List Entry) (w v : World) (s : Statement) (refusal : Line) → reading e.source.text ≡ Says s → is_refusal refusal ≡ true → e.lines ≡ refusal ∷ [] → ids_here (Says s) (refusal ∷ []) ≡ [] → Leads w v → Named es w → Named (e ∷ es) v
refused_named e es w v s refusal said is shows none f h =
    calm_named e es w v ((λ i. labels_here (said i) (last_or None (shows i)) (labels_told es)) ∙ refused_labels (Says s) refusal (labels_told es) is) ((λ i. ids_here (said i) (shows i)) ∙ none) f h

pub refused_draws : (node : List ℕ) (request : Request) (refusal : Line) → is_refusal refusal ≡ true → ids_here (Says (At node request)) (refusal ∷ []) ≡ []
refused_draws node (StartTrans label seconds) (line.NormalId id) h = let no : ⊥ = cc in absurd no
refused_draws node (AddBranch label other new) (line.NormalId id) h = let no : ⊥ = cc in absurd no
refused_draws node (StartBranch label) (line.Pending serials rms) h = let no : ⊥ = cc in absurd no
refused_draws node (StartTrans label seconds) _ h = refl
refused_draws node (AddBranch label other new) _ h = refl
refused_draws node (StartBranch label) _ h = refl
refused_draws node (Direct file op) (line.Committed tid serial moment) h = let no : ⊥ = cc in absurd no
refused_draws node (Direct file op) _ h = refl
refused_draws node _ refusal h = refl

-- What a label names.

pub found_label : (name : List ℕ) (ls : List Label) (l : Label) → find_label name ls ≡ Some l → In l ls × (l.name ≡ name)
found_label name [] l e = let no : ⊥ = cc in absurd no
found_label name (x ∷ ls) l e = go (bytes_eq name x.name) refl e (found_label name ls l)
  where
    go : (t : Bool) → bytes_eq name x.name ≡ t → ◌≡◌ {A = Option Label} (if t then Some x else find_label name ls) (Some l) → (find_label name ls ≡ Some l → In l ls × (l.name ≡ name)) → In l (x ∷ ls) × (l.name ≡ name)
    go true is f more = let same : x ≡ l = some_is x l f in (inl (sym same), ap (λ (y : Label). y.name) (sym same) ∙ sym ((bytes_eq-Decides name x.name).0 is))
    go false is f more = let r = more f in (inr r.0, r.1)

pub labelled_is : (node name : List ℕ) (ls : List Label) (l : Label) → labelled node name ls ≡ Some l → (find_label name ls ≡ Some l) × (l.node ≡ node)
labelled_is node name ls l e = go (find_label name ls) refl e
  where
    at : (x : Label) (t : Bool) → bytes_eq node x.node ≡ t → ◌≡◌ {A = Option Label} (if t then Some x else None) (Some l) → (x ≡ l) × (l.node ≡ node)
    at x true is f = let same : x ≡ l = some_is x l f in (same, ap (λ (y : Label). y.node) (sym same) ∙ sym ((bytes_eq-Decides node x.node).0 is))
    at x false is f = let no : ⊥ = cc in absurd no

    go : (o : Option Label) → find_label name ls ≡ o → ◌≡◌ {A = Option Label} (elim o [ Some x ↦ (if bytes_eq node x.node then Some x else None) | None ↦ None ]) (Some l) → (find_label name ls ≡ Some l) × (l.node ≡ node)
    go (Some x) is f = let r = at x (bytes_eq node x.node) refl f in (is ∙ ap Some r.0, r.1)
    go None is f = let no : ⊥ = cc in absurd no

pub found_branch : (serial : Id) (bs : List Branch) (b : Branch) → find_branch serial bs ≡ Some b → In b bs × (serial ≡ b.key.serial)
found_branch serial [] b e = let no : ⊥ = cc in absurd no
found_branch serial (x ∷ bs) b e = go (same_id serial x.key.serial) refl e (found_branch serial bs b)
  where
    go : (t : Bool) → same_id serial x.key.serial ≡ t → ◌≡◌ {A = Option Branch} (if t then Some x else find_branch serial bs) (Some b) → (find_branch serial bs ≡ Some b → In b bs × (serial ≡ b.key.serial)) → In b (x ∷ bs) × (serial ≡ b.key.serial)
    go true is f more = let same : x ≡ b = some_is x b f in (inl (sym same), id_is serial x.key.serial is ∙ ap (λ (y : Branch). y.key.serial) same)
    go false is f more = let r = more f in (inr r.0, r.1)

-- the label of a branch that a request names
pub record LabelOf (s : Shared) (n : Node) (name : List ℕ) (b : Branch) : Type 0 where
  pub label : Label
  pub found : find_label name s.labels ≡ Some label
  pub node : label.node ≡ n.name
  pub serial : label.serial ≡ Some b.key.serial
  pub branch : In b n.volatile.branches
  pub finds : find_branch b.key.serial n.volatile.branches ≡ Some b

pub label_of : (s : Shared) (n : Node) (name : List ℕ) (b : Branch) → branch_labelled s n name ≡ Some b → LabelOf s n name b
label_of s n name b e = go (labelled n.name name s.labels) refl e
  where
    at : (l : Label) → labelled n.name name s.labels ≡ Some l → (o : Option Id) → l.serial ≡ o → option_and_then (λ serial. find_branch serial n.volatile.branches) o ≡ Some b → LabelOf s n name b
    at l is (Some serial) has f =
        let r = labelled_is n.name name s.labels l is in
        let x = found_branch serial n.volatile.branches b f in
        record { label = l; found = r.0; node = r.1; serial = has ∙ ap Some x.1; branch = x.0; finds = subst (λ i. find_branch i n.volatile.branches ≡ Some b) x.1 f }
    at l is None has f = let no : ⊥ = cc in absurd no

    go : (o : Option Label) → labelled n.name name s.labels ≡ o → option_and_then (λ serial. find_branch serial n.volatile.branches) (option_and_then (λ (l : Label). l.serial) o) ≡ Some b → LabelOf s n name b
    go (Some l) is f = at l is l.serial refl f
    go None is f = let no : ⊥ = cc in absurd no

-- what lines tell of the label of this name
pub find_map : (name : List ℕ) (ls : List Label) (l : Label) → find_label name ls ≡ Some l → find_told name (map told ls) ≡ Some (told l)
find_map name [] l e = let no : ⊥ = cc in absurd no
find_map name (x ∷ ls) l e = go (bytes_eq name x.name) e (find_map name ls l)
  where
    go : (t : Bool) → ◌≡◌ {A = Option Label} (if t then Some x else find_label name ls) (Some l) → (find_label name ls ≡ Some l → find_told name (map told ls) ≡ Some (told l)) → ◌≡◌ {A = Option ToldLabel} (if t then Some (told x) else find_told name (map told ls)) (Some (told l))
    go true f more = ap (λ y. Some (told y)) (some_is x l f)
    go false f more = more f

-- A node that serves such a request is up.
pub served_up : (n : Node) (more : Option Line) → first_of (refused_if (not (n.up || false)) line.NodeDown) more ≡ None → n.up ≡ true
served_up n more e = go n.up (not_refused (not (n.up || false)) line.NodeDown (neither (refused_if (not (n.up || false)) line.NodeDown) more e).0)
  where
    go : (b : Bool) → not (b || false) ≡ false → b ≡ true
    go true k = refl
    go false k = let no : ⊥ = cc in absurd no

pub refused_rest : (b : Bool) (more : Option Line) → first_of (refused_if b line.NodeDown) more ≡ None → more ≡ None
refused_rest b more e = (neither (refused_if b line.NodeDown) more e).1

-- A task shows something only where nothing refuses it first.
pub first_none : (s : Shared) (stops : ℕ) (n : Node) (t : Task) (rises : Cause → Type 0) (c : Choice) (l : Line) → TaskAllowed s stops n t rises c → In l (task_effect s stops n t c).lines → refused_before_reading s n (task_service t) ≡ None
first_none s stops n t rises c l may i = go (outcome s stops n t rises c may)
  where
    go : tasks.Outcome s stops n t rises (task_effect s stops n t c) → refused_before_reading s n (task_service t) ≡ None
    go (First refusal first f) = absurd (subst (λ (e : TaskEffect). In l e.lines) f i)
    go (Late outturn refusal may first late f) = first
    go (Success outturn may first late f) = first
    go (Lacking first takes f) = first
    go (Failing cause shown goes_on first rises_so shows down answers ends) = first

-- What each of the three has in common.

module _ (e : Entry) (es : List Entry) (w v : World) (node : List ℕ) (request : Request) (h : Named es w) (down : (n : Node) → find_node node w.nodes ≡ Some n → w.shared.in_use ≡ false → n.up ≡ false)
    (said : reading e.source.text ≡ Says (At node request)) (x : Succeeds w v node request e.lines) where
  abbrev m : Node
  m = (succeeded w.shared x.n (service request)).node

  pub answered : (answer : Line) → (succeeded w.shared x.n (service request)).answer ≡ answer → last_or None e.lines ≡ Some answer
  answered answer is = ap (last_or None) x.shows ∙ last_is None (succeeded w.shared x.n (service request)).lines (succeeded w.shared x.n (service request)).answer ∙ ap Some is

  pub in_use : x.n.up ≡ true → v.shared.in_use ≡ false → ⊥
  in_use up off = clash _ up (down x.n x.found (effect_use_so (subst (λ (y : World). y.shared.in_use ≡ false) x.goes off)))
    where
      effect_use_so : (succeeded w.shared x.n (service request)).shared.in_use ≡ false → w.shared.in_use ≡ false
      effect_use_so k = succeeded_use w.shared x.n (service request) k

  -- an id is past where it was told
  pub past_told : (id : Id) → In id (ids_told es) → id.node ≡ x.n.name → IsPast x.n id
  past_told id i name = h.drawn id i x.n (subst (λ y. find_node y w.nodes ≡ Some x.n) (sym (name ∙ found_name node w.nodes x.n x.found)) x.found)

  pub there : m.name ≡ x.n.name → (y : Node) → find_node x.n.name v.nodes ≡ Some y → y ≡ m
  there named y is =
      let name : x.n.name ≡ node = found_name node w.nodes x.n x.found in
      sym (some_is m y (sym (put_node node x.n m w.nodes named x.found) ∙ subst (λ ns. find_node node ns ≡ Some y) (ap (λ (z : World). z.nodes) x.goes) (subst (λ z. find_node z v.nodes ≡ Some y) name is)))
