-- In each world of a run the labels are as its lines tell, and no id was told twice.
use Rattle.std.proofs.Common.{◌≡◌, ℕ, zero, suc, ◌⊎◌, List, [], ◌∷◌, ◌++◌, map, take, drop, inl, inr, true, false, not, ◌||◌, Option, Some, None, refl, sym, ◌∙◌, ap, subst}
use Rattle.std.specs.List.{last_or}
use Rattle.vms_model.specs.Ids.{Id}
use Rattle.run_said.specs.transcript_model.Lines as line
use Rattle.run_said.specs.transcript_model.Lines.{Line, Cause}
use Rattle.run_said.specs.script_model.Statements.{Statement, At, Request, Init, StartTrans, AddBranch, StartBranch, Direct, Operation, Reading, Blank, Says, Bad}
use Rattle.run_said.specs.script_model.Grammar.{reading}
use Rattle.unit_laws.specs.records_model.Records.{Change}
use Rattle.commit_protocol.specs.Table.{Key as BranchKey}
use Rattle.commit_protocol.specs.World.{In}
use Rattle.run_said.specs.run_model.World as world
use Rattle.run_said.specs.run_model.World.{World, Shared, Node, Label, DiskCounts, Act, acted, fallen, Volatile, find_node, next_id, next_moment, opened, with_node}
use Rattle.run_said.specs.run_model.Operations.{refused_if}
use Rattle.run_said.specs.run_model.Answers as answers
use Rattle.run_said.specs.run_model.Answers.{Row, Serves, Service, service, task_service, refused_before_reading, directed, changes_at}
use Rattle.run_said.specs.run_model.Steps.{Choice, Whole, WithoutMemory, Unpowered, Cut, TaskAllowed, TaskEffect, task_effect, ready_node, whole, begun, cut, act_begun, lines_of_rows, node_after_rows, shared_after_rows, rows_if, rows_to_cut}
use Rattle.run_said.specs.run_model.Statements.{Step, put_into, stops_at, RoseAt}
use Rattle.run_said.specs.run_model.Transcript.{Entry, Legal, Turn as LineTurn, AreOpening}
use Rattle.run_said.specs.run_model.StepLaws.{is_refusal}
use Rattle.run_said.proofs.run_model.NodeLists.{clash, some_is}
use Rattle.run_said.proofs.run_model.TaskLemmas.{effect_name, outcome}
use Rattle.run_said.proofs.run_model.Refusing.{not_ready}
use Rattle.run_laws.specs.Naming.{IdsDiffer, committed_ids, ids_here, ids_told, labels_here, labels_told}
use Rattle.run_laws.proofs.Directed.{neither, not_refused}
use Rattle.run_laws.proofs.EachRow.{is_plain}
use Rattle.run_laws.proofs.EffectsTell.{IsStep}
use Rattle.run_laws.proofs.Moments.{opening_found, unused_down}
use Rattle.run_laws.proofs.Moving.{Follows, HasOpen, IsPast, effect_follows, past_more, ready_follows, stays_so}
use Rattle.run_laws.proofs.Named.{Ended, Refused, Turned, Leads, Named, calm_draws, calm_leads, calm_tells, effect_use, ended, is_calm, leads_disks, leads_same, put_leads, same_lead, told}
use Rattle.run_laws.proofs.Drawing.{calm_named, drawn_named}
use Rattle.run_laws.proofs.Labelling.{Succeeds, refused_draws, refused_named, request_ends, served_up}
use Rattle.run_laws.proofs.Making.{AreDown, added_named, branch_begun_named, drew_next, started_named}
use Rattle.run_laws.proofs.ShownSettled.{outcome_other}
use Rattle.run_laws.proofs.Staying.{find_put}
use Rattle.run_laws.proofs.TurnsTell.{HaveSteps, found_step, legal_told}

-- INIT.

take_none : (k : ℕ) → ◌≡◌ {A = List Row} (take k []) []
take_none zero = refl
take_none (suc k) = refl

-- it leaves the node, or makes a volume where no node may be in use
init_effect : (s : Shared) (stops : ℕ) (n : Node) (slots blocks : ℕ) (c : Choice) → IsStep n.under_way → (let e = task_effect s stops n (Serves (Init slots blocks)) c in (e.shared.labels ≡ s.labels) × (Follows n e.node ⊎ ((s.in_use ≡ false) × ((k : BranchKey) → HasOpen e.node k → HasOpen n k))))
init_effect s stops n slots blocks (Whole outturn) h = go (refused_before_reading s n e) refl
  where
    e : Service
    e = service (Init slots blocks)

    ready : Node
    ready = ready_node outturn stops e n

    go : (o : Option Line) → refused_before_reading s n e ≡ o → ((whole s n ready e o).shared.labels ≡ s.labels) × (Follows n (whole s n ready e o).node ⊎ ((s.in_use ≡ false) × ((k : BranchKey) → HasOpen (whole s n ready e o).node k → HasOpen n k)))
    go (Some refusal) is = (refl, inl (stays_so n))
    go None is =
        let off = not_refused s.in_use line.VolumeInUse (neither (refused_if s.in_use line.VolumeInUse) _ (neither (refused_if (not (n.up || true)) line.NodeDown) _ is).1).0 in
        (refl, inr (off, λ k o. (ready_follows outturn stops e n h).begun k o))
init_effect s stops n slots blocks WithoutMemory h = (refl, inl (stays_so n))
init_effect s stops n slots blocks Unpowered h = (refl, inl (record { past = λ id p. p; begun = λ k o. o }))
init_effect s stops n slots blocks (Cut outturn done started cause) h =
    let e = service (Init slots blocks) in
    let f = ready_follows outturn stops e n h in
    let none = take_none done in (
      ap (λ rs. (shared_after_rows rs s).labels) none,
      inl (record {
        past = λ id p. subst (λ rs. IsPast (node_after_rows rs (ready_node outturn stops e n)) id) (sym none) (f.past id p);
        begun = λ k o. f.begun k (subst (λ rs. HasOpen (node_after_rows rs (ready_node outturn stops e n)) k) none o);
      }),
    )

module _ (e : Entry) (es : List Entry) (w v : World) (node : List ℕ) (slots blocks : ℕ) (h : Named es w) (said : reading e.source.text ≡ Says (At node (Init slots blocks))) where
  none_told : labels_here (reading e.source.text) (last_or None e.lines) (labels_told es) ≡ labels_told es
  none_told = ap (λ r. labels_here r (last_or None e.lines) (labels_told es)) said

  none_drawn : ids_here (reading e.source.text) e.lines ≡ []
  none_drawn = ap (λ r. ids_here r e.lines) said

  -- where no node may be in use nothing was told
  fresh_named : w.shared.in_use ≡ false → v.shared.labels ≡ w.shared.labels → ((name : List ℕ) (m : Node) → find_node name v.nodes ≡ Some m → (n : Node) × (find_node name w.nodes ≡ Some n) × ((k : BranchKey) → HasOpen m k → HasOpen n k)) → Named (e ∷ es) v
  fresh_named off same nodes =
      let u = h.unused off in
      let ids : ids_told (e ∷ es) ≡ [] = (λ i. none_drawn i ++ u.0 i) in
      let empty : (id : Id) → In id (ids_told (e ∷ es)) → ⊥ = λ id i. subst (In id) ids i in
      record {
        labels = none_told ∙ h.labels ∙ ap (map told) (sym same);
        made = λ l i. absurd (subst (In l.tid) u.0 (h.made l (subst (λ ls. In l ls) same i)).tid);
        drawn = λ id i. absurd (empty id i);
        differ = subst IdsDiffer (sym ids) tt;
        past = λ name m found k o. let x = nodes name m found in absurd (u.1 name x.0 x.1 k (x.2 k o));
        home = λ name m found k o. let x = nodes name m found in absurd (u.1 name x.0 x.1 k (x.2 k o));
        born = λ name m found k o. let x = nodes name m found in absurd (u.1 name x.0 x.1 k (x.2 k o));
        unused = λ still. (ids, λ name m found k o. let x = nodes name m found in u.1 name x.0 x.1 k (x.2 k o));
      }

  init_named : HaveSteps w.nodes → Step w (At node (Init slots blocks)) e.lines v → Named (e ∷ es) v
  init_named steps step = go (ended w v (At node (Init slots blocks)) e.lines node (Serves (Init slots blocks)) refl step)
    where
      go : Ended w v node (Serves (Init slots blocks)) e.lines → Named (e ∷ es) v
      go (Refused refusal is shows goes) = calm_named e es w v none_told none_drawn (same_lead w v goes) h
      go (Turned n found c allowed shows goes) =
          let t = task_effect w.shared (stops_at node w) n (Serves (Init slots blocks)) c in
          let r = init_effect w.shared (stops_at node w) n slots blocks c (found_step node w.nodes n steps found) in
          let named = effect_name w.shared (stops_at node w) n (Serves (Init slots blocks)) c in
          elim r.1 [
            | inl f ↦ calm_named e es w v none_told none_drawn (subst (Leads w) (sym goes) (leads_disks w (put_into w node t).world v.disks (put_leads w node n t.node t.shared named found f r.0 (effect_use w.shared (stops_at node w) n (Serves (Init slots blocks)) c)))) h
            | inr f ↦ fresh_named f.0 (ap (λ (y : World). y.shared.labels) goes ∙ r.0) (λ name m is.
                elim (find_put name node n t.node w.nodes named found) [
                  | inl same ↦ (m, sym same ∙ subst (λ ns. find_node name ns ≡ Some m) (ap (λ (y : World). y.nodes) goes) is, λ k o. o)
                  | inr both ↦ (n, both.1, λ k o. f.1 k (subst (λ y. HasOpen y k) (sym (some_is t.node m (sym both.0 ∙ subst (λ ns. find_node name ns ≡ Some m) (ap (λ (y : World). y.nodes) goes) is))) o))
                ])
          ]

-- Changes without a label.

committed_append : (xs ys : List Line) → committed_ids (xs ++ ys) ≡ committed_ids xs ++ committed_ids ys
committed_append [] ys = refl
committed_append (x ∷ xs) ys = go x (committed_append xs ys)
  where
    go : (x : Line) → committed_ids (xs ++ ys) ≡ committed_ids xs ++ committed_ids ys → committed_ids (x ∷ xs ++ ys) ≡ committed_ids (x ∷ xs) ++ committed_ids ys
    go (line.Committed tid serial moment) more = ap (λ ids. serial ∷ ids) more
    go _ more = more

plain_none : (l : Line) → is_plain l ≡ true → committed_ids (l ∷ []) ≡ []
plain_none (line.Committed tid serial moment) h = let no : ⊥ = cc in absurd no
plain_none _ h = refl

append_none : (ids : List Id) → ids ++ [] ≡ ids
append_none [] = refl
append_none (i ∷ ids) = ap (λ xs. i ∷ xs) (append_none ids)

-- what one leaves, and what it shows: nothing, or that it is committed under the next id
abbrev Directly : Node → TaskEffect → Type 0
Directly n e = (Follows n e.node × (committed_ids e.lines ≡ [])) ⊎ (((id : Id) → IsPast n id → IsPast e.node id) × IsPast e.node (next_id n) × ((k : BranchKey) → HasOpen e.node k → HasOpen n k) × (committed_ids e.lines ≡ next_id n ∷ []))

-- its act
abbrev direct_act : Node → List ℕ → List Change → Act
direct_act n file cs = world.Directs file cs (answers.commit_settlement n (next_id n) (next_id n))

direct_effect : (s : Shared) (stops : ℕ) (n : Node) (file : List ℕ) (op : Operation) (c : Choice) → Directly n (task_effect s stops n (Serves (Direct file op)) c)
direct_effect s stops n file op (Whole outturn) = go (refused_before_reading s n e)
  where
    e : Service
    e = service (Direct file op)

    done : (cs : List Change) → Directly n (record (begun s n e None) { lines = lines_of_rows (directed n file cs) ++ []; node = node_after_rows (directed n file cs) n })
    done [] = inl (stays_so n, refl)
    done (c ∷ cs) = let m = acted (direct_act n file (c ∷ cs)) n in inr (past_more n m refl refl, drew_next n m refl refl, λ k o. o, refl)

    late : (o : Option Line) → Directly n (begun s n e o)
    late (Some refusal) = inl (stays_so n, refl)
    late None = done (changes_at n file op)

    go : (o : Option Line) → Directly n (whole s n (ready_node outturn stops e n) e o)
    go (Some refusal) = inl (stays_so n, refl)
    go None = subst (λ m. Directly n (begun s m e (e.refused_after_reading s m))) (sym (not_ready outturn stops e n refl)) (late (e.refused_after_reading s n))
direct_effect s stops n file op WithoutMemory = inl (stays_so n, refl)
direct_effect s stops n file op Unpowered = inl (record { past = λ id p. p; begun = λ k o. o }, refl)
direct_effect s stops n file op (Cut outturn done started cause) = subst (λ m. Directly n (cut_at m)) (sym (not_ready outturn stops e n refl)) (go (e.refused_after_reading s n) (changes_at n file op) done)
  where
    e : Service
    e = service (Direct file op)

    cut_at : Node → TaskEffect
    cut_at m = cut s m e (rows_to_cut s m e) done started cause

    shown : (rs : List Row) → TaskEffect
    shown rs = record (cut_at n) { lines = lines_of_rows rs ++ line.Down n.name cause ∷ []; node = fallen (act_begun started (drop done (rows_to_cut s n e))) (node_after_rows rs n) }

    none : (rs : List Row) → rs ≡ [] → Directly n (shown rs)
    none rs is = subst (λ qs. Directly n (shown qs)) (sym is) (inl (record { past = λ id p. p; begun = λ k o. o }, refl))

    go : (o : Option Line) (cs : List Change) (k : ℕ) → Directly n (shown (take k (rows_if o (directed n file cs))))
    go (Some refusal) cs k = none (take k []) (take_none k)
    go None [] k = none (take k []) (take_none k)
    go None (c ∷ cs) zero = none [] refl
    go None (c ∷ cs) (suc k) = let m = acted (direct_act n file (c ∷ cs)) n in subst (λ qs. Directly n (shown (record { act = Some (direct_act n file (c ∷ cs)); lines = line.Committed (next_id n) (next_id n) (next_moment n) ∷ [] } ∷ qs))) (sym (take_none k)) (inr (past_more n m refl refl, drew_next n m refl refl, λ j o. o, refl))

direct_up : (s : Shared) (stops : ℕ) (n : Node) (file : List ℕ) (op : Operation) (rises : Cause → Type 0) (c : Choice) → TaskAllowed s stops n (Serves (Direct file op)) rises c → (refused_before_reading s n (service (Direct file op)) ≡ None) ⊎ (committed_ids (task_effect s stops n (Serves (Direct file op)) c).lines ≡ [])
direct_up s stops n file op rises (Whole outturn) may = go (refused_before_reading s n (service (Direct file op))) refl
  where
    go : (o : Option Line) → refused_before_reading s n (service (Direct file op)) ≡ o → (refused_before_reading s n (service (Direct file op)) ≡ None) ⊎ (committed_ids (whole s n (ready_node outturn stops (service (Direct file op)) n) (service (Direct file op)) o).lines ≡ [])
    go (Some refusal) is = inr refl
    go None is = inl is
direct_up s stops n file op rises WithoutMemory may = inr refl
direct_up s stops n file op rises Unpowered may = inr refl
direct_up s stops n file op rises (Cut outturn done started cause) may = inl may.0

module _ (e : Entry) (es : List Entry) (w v : World) (node file : List ℕ) (op : Operation) (h : Named es w) (down : AreDown w) (said : reading e.source.text ≡ Says (At node (Direct file op))) where
  same_told : labels_here (reading e.source.text) (last_or None e.lines) (labels_told es) ≡ labels_told es
  same_told = ap (λ r. labels_here r (last_or None e.lines) (labels_told es)) said

  direct_named : HaveSteps w.nodes → Step w (At node (Direct file op)) e.lines v → Named (e ∷ es) v
  direct_named steps step = go (ended w v (At node (Direct file op)) e.lines node (Serves (Direct file op)) refl step)
    where
      go : Ended w v node (Serves (Direct file op)) e.lines → Named (e ∷ es) v
      go (Refused refusal is shows goes) = refused_named e es w v (At node (Direct file op)) refusal said is shows (refused_draws node (Direct file op) refusal is) (same_lead w v goes) h
      go (Turned n found c allowed shows goes) = either (direct_effect w.shared (stops_at node w) n file op c) (direct_up w.shared (stops_at node w) n file op (λ cause. RoseAt w node cause v.disks) c allowed)
        where
          t : TaskEffect
          t = task_effect w.shared (stops_at node w) n (Serves (Direct file op)) c

          named : t.node.name ≡ n.name
          named = effect_name w.shared (stops_at node w) n (Serves (Direct file op)) c

          labels : t.shared.labels ≡ w.shared.labels
          labels = (effect_follows w.shared (stops_at node w) n (Serves (Direct file op)) c refl (found_step node w.nodes n steps found)).1

          plain : is_plain t.answer ≡ true
          plain = outcome_other w.shared (stops_at node w) n (Serves (Direct file op)) (λ cause. RoseAt w node cause v.disks) t (outcome w.shared (stops_at node w) n (Serves (Direct file op)) (λ cause. RoseAt w node cause v.disks) c allowed)

          ids : ids_here (reading e.source.text) e.lines ≡ committed_ids t.lines
          ids = ap (λ r. ids_here r e.lines) said ∙ ap committed_ids shows ∙ committed_append t.lines (t.answer ∷ []) ∙ ap (λ xs. committed_ids t.lines ++ xs) (plain_none t.answer plain) ∙ append_none (committed_ids t.lines)

          quiet : committed_ids t.lines ≡ [] → Follows n t.node → Named (e ∷ es) v
          quiet none f = calm_named e es w v same_told (ids ∙ none) (subst (Leads w) (sym goes) (leads_disks w (put_into w node t).world v.disks (put_leads w node n t.node t.shared named found f labels (effect_use w.shared (stops_at node w) n (Serves (Direct file op)) c)))) h

          either : Directly n t → (refused_before_reading w.shared n (service (Direct file op)) ≡ None) ⊎ (committed_ids t.lines ≡ []) → Named (e ∷ es) v
          either (inl f) first = quiet f.1 f.0
          either (inr d) (inr none) = quiet none (record { past = d.0; begun = d.2 })
          either (inr d) (inl first) = drawn_named e es w v node n t.node h (record {
            found = found;
            named = named;
            nodes = ap (λ (y : World). y.nodes) goes;
            past = d.0;
            drew = d.1;
            begun = λ k o. inl (d.2 k o);
            told_so = same_told ∙ h.labels ∙ ap (map told) (sym (ap (λ (y : World). y.shared.labels) goes ∙ labels));
            ids = ids ∙ d.3;
            in_use = λ off. clash n.up (served_up n _ first) (down node n found (effect_use w.shared (stops_at node w) n (Serves (Direct file op)) c (subst (λ (y : World). y.shared.in_use ≡ false) goes off)));
            labels = λ l i. inl (subst (λ ls. In l ls) (ap (λ (y : World). y.shared.labels) goes ∙ labels) i);
          })

-- Runs.

module _ (e : Entry) (es : List Entry) (w v : World) (h : Named es w) (down : AreDown w) (steps : HaveSteps w.nodes) where
  made_named : (node : List ℕ) (request : Request) → reading e.source.text ≡ Says (At node request) → (((refusal : Line) × (is_refusal refusal ≡ true) × (e.lines ≡ refusal ∷ []) × Leads w v × (v ≡ record w { disks = v.disks })) ⊎ Succeeds w v node request e.lines) → (Succeeds w v node request e.lines → Named (e ∷ es) v) → Named (e ∷ es) v
  made_named node request said (inl r) done = refused_named e es w v (At node request) r.0 said r.1 r.2 (refused_draws node request r.0 r.1) r.3 h
  made_named node request said (inr x) done = done x

  step_named : (s : Statement) → reading e.source.text ≡ Says s → Step w s e.lines v → Named (e ∷ es) v
  step_named (At node request) said step = go request said step
    where
      calm : (request : Request) → is_calm (At node request) ≡ true → reading e.source.text ≡ Says (At node request) → Step w (At node request) e.lines v → Named (e ∷ es) v
      calm request is said step = calm_named e es w v (ap (λ r. labels_here r (last_or None e.lines) (labels_told es)) said ∙ calm_tells (At node request) (last_or None e.lines) (labels_told es) is) (ap (λ r. ids_here r e.lines) said ∙ calm_draws (At node request) e.lines is) (calm_leads w v (At node request) e.lines is steps step) h

      go : (request : Request) → reading e.source.text ≡ Says (At node request) → Step w (At node request) e.lines v → Named (e ∷ es) v
      go (Init slots blocks) said step = init_named e es w v node slots blocks h said steps step
      go (StartTrans label seconds) said step = made_named node (StartTrans label seconds) said (request_ends w v node (StartTrans label seconds) e.lines refl refl refl step) (started_named e es w v node label seconds h down said)
      go (AddBranch label other new) said step = made_named node (AddBranch label other new) said (request_ends w v node (AddBranch label other new) e.lines refl refl refl step) (added_named e es w v node label other new h down said)
      go (StartBranch label) said step = made_named node (StartBranch label) said (request_ends w v node (StartBranch label) e.lines refl refl refl step) (branch_begun_named e es w v node label h down said)
      go (Direct file op) said step = direct_named e es w v node file op h down said steps step
      go request said step = calm request refl said step
  step_named s said step = calm_named e es w v (ap (λ r. labels_here r (last_or None e.lines) (labels_told es)) said ∙ calm_tells s (last_or None e.lines) (labels_told es) refl) (ap (λ r. ids_here r e.lines) said ∙ calm_draws s e.lines refl) (calm_leads w v s e.lines refl steps step) h

  turn_named : (r : Reading) → reading e.source.text ≡ r → LineTurn w r e.lines v → Named (e ∷ es) v
  turn_named Blank said t = calm_named e es w v (ap (λ r. labels_here r (last_or None e.lines) (labels_told es)) said) (ap (λ r. ids_here r e.lines) said) (subst (Leads w) (sym t.1) (leads_same w)) h
  turn_named (Says s) said t = step_named s said t
  turn_named (Bad column) said t = absurd t

opening_named : (nodes : List Node) (disks : List DiskCounts) → AreOpening nodes → Named [] (opened nodes disks)
opening_named nodes disks opening = record {
  labels = refl;
  made = λ l i. absurd i;
  drawn = λ id i. absurd i;
  differ = tt;
  past = λ node n found k o. absurd (none node n found k o);
  home = λ node n found k o. absurd (none node n found k o);
  born = λ node n found k o. absurd (none node n found k o);
  unused = λ off. (refl, none);
}
  where
    none : (node : List ℕ) (n : Node) → find_node node nodes ≡ Some n → (k : BranchKey) → HasOpen n k → ⊥
    none node n found k o = let bs = ap (λ (y : Volatile). y.branches) (opening_found nodes opening node n found).volatile in subst (In o.0) bs o.1

pub legal_named : (nodes : List Node) (disks : List DiskCounts) (es : List Entry) (w : World) → AreOpening nodes → Legal (opened nodes disks) es w → Named es w
legal_named nodes disks [] w opening legal = subst (Named []) (sym legal) (opening_named nodes disks opening)
legal_named nodes disks (e ∷ es) w opening legal =
    turn_named e es legal.0 w (legal_named nodes disks es legal.0 opening legal.1) (unused_down nodes disks es legal.0 opening legal.1) (legal_told nodes disks legal.0 es opening legal.1).1 (reading e.source.text) refl legal.2
