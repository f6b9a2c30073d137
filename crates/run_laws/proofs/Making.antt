-- START_TRANS, ADD_BRANCH and START_BRANCH keep what lines tell of labels and ids.
use Rattle.std.proofs.Common.{◌≡◌, ◌≤◌, ℕ, ◌+◌, ◌⊎◌, List, [], ◌∷◌, ◌++◌, map, inl, inr, Bool, true, false, not, ◌||◌, Option, Some, None, if◌then◌else◌, refl, sym, ◌∙◌, ap, subst, arith}
use Rattle.std.specs.List.{last_or}
use Rattle.std.specs.Option.{option_map, option_and_then}
use Rattle.std.specs.Str.{bytes_eq}
use Rattle.std.proofs.lemmas.Bool.{and_parts}
use Rattle.vms_model.specs.Ids.{Id}
use Rattle.run_said.specs.transcript_model.Lines as line
use Rattle.run_said.specs.transcript_model.Lines.{Line}
use Rattle.run_said.specs.script_model.Statements.{At, StartTrans, AddBranch, StartBranch, Says}
use Rattle.run_said.specs.script_model.Grammar.{reading}
use Rattle.commit_protocol.specs.Table as table
use Rattle.commit_protocol.specs.Table.{Branch, State, Active, Joining, Key as BranchKey, child, is_first}
use Rattle.commit_protocol.specs.Allowed.{is_active, is_prepared}
use Rattle.commit_protocol.specs.Rows as rows
use Rattle.commit_protocol.specs.Rows.{blank, row}
use Rattle.commit_protocol.specs.World.{In}
use Rattle.run_said.specs.run_model.World as world
use Rattle.run_said.specs.run_model.World.{World, Shared, Node, Label, Act, acted, find_label, find_node, labelled, next_id, shared_after, tm_of, with_node, with_serial}
use Rattle.run_said.specs.run_model.Operations.{first_of, refused_if}
use Rattle.run_said.specs.run_model.Answers as answers
use Rattle.run_said.specs.run_model.Answers.{Row, Service, service, refused_before_reading, branch_labelled, in_state, is_first_active, made_label, new_label, of_label, authorised, silent, table_rows, to_branch, told_if, begins, unsettled, unsettled_label}
use Rattle.run_said.specs.run_model.Steps.{succeeded, node_after_rows, shared_after_rows}
use Rattle.run_said.specs.run_model.Transcript.{Entry}
use Rattle.run_said.proofs.run_model.NodeLists.{found_name, some_is}
use Rattle.run_said.proofs.run_model.TaskLemmas.{rows_name}
use Rattle.run_laws.specs.Causes.{HasBegun}
use Rattle.run_laws.specs.Naming.{ToldLabel, find_told, id_given, serial_begun, ids_here, ids_told, labels_here, labels_told, numbered}
use Rattle.run_laws.proofs.Directed.{neither, not_refused}
use Rattle.run_laws.proofs.Moving.{AreMild, HasOpen, IsPast, Moves, past_more, put_open, rows_labels, rows_move, table_mild}
use Rattle.run_laws.proofs.Named.{IsMadeSo, Named, told}
use Rattle.run_laws.proofs.Drawing.{drawn_named, next_new}
use Rattle.run_laws.proofs.Labelling.{LabelOf, Succeeds, answered, find_map, found_label, in_use, label_of, labelled_is, refused_rest, served_up, there}
use Rattle.run_laws.proofs.Noting.{row_notes}

-- nodes are down where none may be in use
abbrev pub AreDown : World → Type 0
AreDown w = (node : List ℕ) (n : Node) → find_node node w.nodes ≡ Some n → w.shared.in_use ≡ false → n.up ≡ false

-- the next id is past once it is drawn
pub drew_next : (n m : Node) → m.durable.boot ≡ n.durable.boot → m.volatile.drawn ≡ n.volatile.drawn + 1 → IsPast m (next_id n)
drew_next n m boot drawn = inr (sym boot, subst (λ d. n.volatile.drawn + 1 ≤ d) (sym drawn) (omega arith))

pub not_past : (n : Node) → IsPast n (next_id n) → ⊥
not_past n (inl earlier) = omega (arith, earlier)
not_past n (inr here) = let low = here.1 in omega (arith, low)

-- A branch that a request names.

pub branch_there : (o : Option Branch) → unsettled o ≡ None → (b : Branch) × (o ≡ Some b)
branch_there (Some b) e = (b, refl)
branch_there None e = let no : ⊥ = cc in absurd no

pub state_holds : (holds : Branch → Bool) (o : Option Branch) (b : Branch) → o ≡ Some b → in_state holds o ≡ None → holds b ≡ true
state_holds holds o b is e = go (holds b) refl (ap (in_state holds) (sym is) ∙ e)
  where
    go : (t : Bool) → holds b ≡ t → refused_if (not (holds b)) line.WrongState ≡ None → holds b ≡ true
    go true h k = h
    go false h k = let no : true ≡ false = sym (ap not h) ∙ not_refused (not (holds b)) line.WrongState k in let none : ⊥ = cc in absurd none

active_open : (b : Branch) → is_first_active b ≡ true → is_prepared b.state ≡ false
active_open b h = go b.state (and_parts (is_first b) (is_active b.state) h).1
  where
    go : (s : State) → is_active s ≡ true → is_prepared s ≡ false
    go table.Prepared k = let no : ⊥ = cc in absurd no
    go _ k = refl

-- START_TRANS.

module _ (e : Entry) (es : List Entry) (w v : World) (node label : List ℕ) (seconds : Option ℕ) (h : Named es w) (down : AreDown w) (said : reading e.source.text ≡ Says (At node (StartTrans label seconds))) (x : Succeeds w v node (StartTrans label seconds) e.lines) where
  abbrev n : Node
  n = x.n

  abbrev m : Node
  m = (succeeded w.shared n (service (StartTrans label seconds))).node

  abbrev new : Label
  new = record { name = label; node = n.name; tid = next_id n; bid = None; serial = Some (next_id n) }

  node_is : n.name ≡ node
  node_is = found_name node w.nodes n x.found

  last : last_or None e.lines ≡ Some (line.NormalId (next_id n))
  last = answered e es w v node (StartTrans label seconds) h (λ y found. down node y found) said x (line.NormalId (next_id n)) refl

  labels : v.shared.labels ≡ new ∷ w.shared.labels
  labels = ap (λ (y : World). y.shared.labels) x.goes

  ids : ids_here (reading e.source.text) e.lines ≡ next_id n ∷ []
  ids = ap (λ r. ids_here r e.lines) said ∙ ap id_given last

  told_so : labels_told (e ∷ es) ≡ map told v.shared.labels
  told_so = (λ i. labels_here (said i) (last i) (labels_told es)) ∙ (λ i. record { name = label; node = sym node_is i; tid = next_id n; serial = Some (next_id n) } ∷ h.labels i) ∙ ap (map told) (sym labels)

  made : IsMadeSo (e ∷ es) v new
  made = record {
    begun = λ none. (refl, (es, seconds, record { after = []; entry = e; stands = refl; said = said ∙ ap (λ y. Says (At y (StartTrans label seconds))) (sym node_is); shown = x.shows }));
    own = λ s is. ap (λ (y : Id). y.node) (sym (some_is (next_id n) s is));
    apart = λ bid none. let no : ⊥ = cc in absurd no;
    tid = subst (λ ids. In (next_id n) (ids ++ ids_told es)) (sym ids) (inl refl);
    serial = λ s is. subst (λ ids. In s (ids ++ ids_told es)) (sym ids) (inl (sym (some_is (next_id n) s is)));
    fits = λ y found k o serial.
        let o_m : HasOpen m k = subst (λ z. HasOpen z k) (there e es w v node (StartTrans label seconds) h (λ z f. down node z f) said x refl y found) o in
        elim (put_open (λ k. k ≡ child (next_id n) (next_id n)) (blank (next_id n) (next_id n) None Active (answers.due_after n seconds)) n.volatile.branches refl k o_m) [
          | inl old ↦ absurd (not_past n (subst (IsPast n) (sym (some_is (next_id n) k.serial serial)) (h.past node n x.found k old)))
          | inr new ↦ ap (λ (j : BranchKey). j.tid) new
        ];
  }

  pub started_named : Named (e ∷ es) v
  started_named = drawn_named e es w v node n m h (record {
    found = x.found;
    named = refl;
    nodes = ap (λ (y : World). y.nodes) x.goes;
    past = past_more n m refl refl;
    drew = drew_next n m refl refl;
    begun = put_open (λ k. (k.serial ≡ next_id n) × HasBegun (e ∷ es) k.tid k.serial) (blank (next_id n) (next_id n) None Active (answers.due_after n seconds)) n.volatile.branches (refl, inl (label, refl, (made.begun refl).1));
    told_so = told_so;
    ids = ids;
    in_use = in_use e es w v node (StartTrans label seconds) h (λ y found. down node y found) said x (served_up n _ x.first);
    labels = λ l i. elim (subst (λ ls. In l ls) labels i) [ inl same ↦ inr (subst (IsMadeSo (e ∷ es) v) (sym same) made) | inr old ↦ inl old ];
  })

-- ADD_BRANCH.

module _ (e : Entry) (es : List Entry) (w v : World) (node label other new : List ℕ) (h : Named es w) (down : AreDown w) (said : reading e.source.text ≡ Says (At node (AddBranch label other new))) (x : Succeeds w v node (AddBranch label other new) e.lines) where
  abbrev at : Node
  at = x.n

  rest : first_of (made_label w.shared at label) (first_of (new_label w.shared new) (first_of (unsettled_label w.shared at label) (in_state is_first_active (branch_labelled w.shared at label)))) ≡ None
  rest = refused_rest (not (at.up || false)) _ x.first

  branches : (unsettled_label w.shared at label ≡ None) × (in_state is_first_active (branch_labelled w.shared at label) ≡ None)
  branches = neither (unsettled_label w.shared at label) _ (neither (new_label w.shared new) _ (neither (made_label w.shared at label) _ rest).1).1

  module _ (b : Branch) (found : branch_labelled w.shared at label ≡ Some b) where
    l : LabelOf w.shared at label b
    l = label_of w.shared at label b found

    abbrev added : Label
    added = record { name = new; node = other; tid = b.key.tid; bid = Some (next_id at); serial = None }

    abbrev base : Node
    base = acted (world.Labels added) (acted world.Draws at)

    abbrev shared : Shared
    shared = shared_after (world.Labels added) w.shared

    abbrev rs : List Row
    rs = table_rows (row (tm_of base) (rows.Authorise b.key.tid (next_id at))) shared base

    abbrev end : Node
    end = node_after_rows rs base

    rows_are : (service (AddBranch label other new)).rows w.shared at ≡ silent world.Draws ∷ silent (world.Labels added) ∷ rs
    rows_are = rw (found, to_branch) refl

    nodes_are : (succeeded w.shared at (service (AddBranch label other new))).node ≡ end
    nodes_are = ap (λ qs. node_after_rows qs at) rows_are

    mild : AreMild (HasOpen at) rs
    mild = table_mild (HasOpen at) (row (tm_of base) (rows.Authorise b.key.tid (next_id at))) shared base (row_notes (tm_of base) (rows.Authorise b.key.tid (next_id at)) tt)

    moves : Moves (HasOpen at) base end
    moves = rows_move (HasOpen at) rs base mild

    added_labels : v.shared.labels ≡ added ∷ w.shared.labels
    added_labels = ap (λ (y : World). y.shared.labels) x.goes ∙ ap (λ qs. (shared_after_rows qs w.shared).labels) rows_are ∙ rows_labels (HasOpen at) rs shared mild

    added_last : last_or None e.lines ≡ Some (line.NormalId (next_id at))
    added_last = answered e es w v node (AddBranch label other new) h (λ y found. down node y found) said x (line.NormalId (next_id at)) refl

    added_ids : ids_here (reading e.source.text) e.lines ≡ next_id at ∷ []
    added_ids = ap (λ r. ids_here r e.lines) said ∙ ap id_given added_last

    old : IsMadeSo es w l.label
    old = h.made l.label (found_label label w.shared.labels l.label l.found).0

    -- the branch is of the label's transaction
    tid_is : b.key.tid ≡ l.label.tid
    tid_is = old.fits at (subst (λ name. find_node name w.nodes ≡ Some at) (sym (l.node ∙ found_name node w.nodes at x.found)) x.found) b.key (b, l.branch, active_open b (state_holds is_first_active (branch_labelled w.shared at label) b found branches.1), refl) l.serial

    added_told : labels_told (e ∷ es) ≡ map told v.shared.labels
    added_told =
        (λ i. labels_here (said i) (added_last i) (labels_told es))
        ∙ ap (λ (o : Option ToldLabel). elim o [ Some t ↦ record { name = new; node = other; tid = t.tid; serial = None } ∷ labels_told es | None ↦ labels_told es ]) (ap (find_told label) h.labels ∙ find_map label w.shared.labels l.label l.found)
        ∙ (λ i. record { name = new; node = other; tid = sym tid_is i; serial = None } ∷ h.labels i) ∙ ap (map told) (sym added_labels)

    added_made : IsMadeSo (e ∷ es) v added
    added_made = record {
      begun = λ none. let no : ⊥ = cc in absurd no;
      own = λ s is. let no : ⊥ = cc in absurd no;
      apart = λ bid is s none. let no : ⊥ = cc in absurd no;
      tid = subst (λ ids. In b.key.tid (ids ++ ids_told es)) (sym added_ids) (inr (subst (λ t. In t (ids_told es)) (sym tid_is) old.tid));
      serial = λ s is. let no : ⊥ = cc in absurd no;
      fits = λ y is k o serial. let no : ⊥ = cc in absurd no;
    }

    with_branch : Named (e ∷ es) v
    with_branch = drawn_named e es w v node at (succeeded w.shared at (service (AddBranch label other new))).node h (record {
      found = x.found;
      named = ap (λ (y : Node). y.name) nodes_are ∙ rows_name rs base;
      nodes = ap (λ (y : World). y.nodes) x.goes;
      past = λ id p. subst (λ y. IsPast y id) (sym nodes_are) (moves.past id (past_more at base refl refl id p));
      drew = subst (λ y. IsPast y (next_id at)) (sym nodes_are) (moves.past (next_id at) (drew_next at base refl refl));
      begun = λ k o. elim (moves.begun k (subst (λ y. HasOpen y k) nodes_are o)) [ inl i ↦ inl i | inr i ↦ inl i ];
      told_so = added_told;
      ids = added_ids;
      in_use = in_use e es w v node (AddBranch label other new) h (λ y found. down node y found) said x (served_up at _ x.first);
      labels = λ i j. elim (subst (λ ls. In i ls) added_labels j) [ inl same ↦ inr (subst (IsMadeSo (e ∷ es) v) (sym same) added_made) | inr before ↦ inl before ];
    })

  pub added_named : Named (e ∷ es) v
  added_named = let b = branch_there (branch_labelled w.shared at label) branches.0 in with_branch b.0 b.1

-- START_BRANCH.

-- the labels, of which one took a serial
in_numbered : (name : List ℕ) (serial : Id) (ls : List Label) (one i : Label) → find_label name ls ≡ Some one → In i (with_serial name serial ls) → In i ls ⊎ (i ≡ record one { serial = Some serial })
in_numbered name serial [] one i e j = absurd j
in_numbered name serial (l ∷ ls) one i e j = go (bytes_eq name l.name) e j (in_numbered name serial ls one i)
  where
    go : (t : Bool) → ◌≡◌ {A = Option Label} (if t then Some l else find_label name ls) (Some one) → In i (if t then record l { serial = Some serial } ∷ ls else l ∷ with_serial name serial ls) → (find_label name ls ≡ Some one → In i (with_serial name serial ls) → In i ls ⊎ (i ≡ record one { serial = Some serial })) → In i (l ∷ ls) ⊎ (i ≡ record one { serial = Some serial })
    go true f (inl same) more = inr (same ∙ ap (λ (y : Label). record y { serial = Some serial }) (some_is l one f))
    go true f (inr k) more = inl (inr k)
    go false f (inl same) more = inl (inl same)
    go false f (inr k) more = elim (more f k) [ inl before ↦ inl (inr before) | inr new ↦ inr new ]

told_numbered : (name : List ℕ) (serial : Id) (ls : List Label) → numbered name serial (map told ls) ≡ map told (with_serial name serial ls)
told_numbered name serial [] = refl
told_numbered name serial (l ∷ ls) = go (bytes_eq name l.name) (told_numbered name serial ls)
  where
    go : (t : Bool) → numbered name serial (map told ls) ≡ map told (with_serial name serial ls) → ◌≡◌ {A = List ToldLabel} (if t then record (told l) { serial = Some serial } ∷ map told ls else told l ∷ numbered name serial (map told ls)) (map told (if t then record l { serial = Some serial } ∷ ls else l ∷ with_serial name serial ls))
    go true more = refl
    go false more = ap (λ ts. told l ∷ ts) more

label_there : (s : Shared) (n : Node) (label : List ℕ) → made_label s n label ≡ None → (l : Label) × (labelled n.name label s.labels ≡ Some l)
label_there s n label e = go (labelled n.name label s.labels) refl e
  where
    go : (o : Option Label) → labelled n.name label s.labels ≡ o → ◌≡◌ {A = Option Line} (elim o [ Some l ↦ None | None ↦ Some line.BadLabel ]) None → (l : Label) × (labelled n.name label s.labels ≡ Some l)
    go (Some l) is k = (l, is)
    go None is k = let no : ⊥ = cc in absurd no

bid_there : (l : Label) → authorised l ≡ None → (bid : Id) × (l.bid ≡ Some bid)
bid_there l e = go l.bid refl e
  where
    go : (o : Option Id) → l.bid ≡ o → ◌≡◌ {A = Option Line} (elim o [ Some bid ↦ None | None ↦ Some line.NoSuchBranchId ]) None → (bid : Id) × (l.bid ≡ Some bid)
    go (Some bid) is k = (bid, is)
    go None is k = let no : ⊥ = cc in absurd no

module _ (e : Entry) (es : List Entry) (w v : World) (node label : List ℕ) (h : Named es w) (down : AreDown w) (said : reading e.source.text ≡ Says (At node (StartBranch label))) (x : Succeeds w v node (StartBranch label) e.lines) where
  abbrev here : Node
  here = x.n

  rest_is : (made_label w.shared here label ≡ None) × (first_of (of_label w.shared here label authorised) (in_state (λ b. false) (branch_labelled w.shared here label)) ≡ None)
  rest_is = neither (made_label w.shared here label) _ (refused_rest (not (here.up || false)) _ x.first)

  module _ (l : Label) (is : labelled here.name label w.shared.labels ≡ Some l) (bid : Id) (has : l.bid ≡ Some bid) where
    abbrev start : Node
    start = acted (world.Numbers l.name (next_id here)) (acted world.Draws here)

    abbrev begun_shared : Shared
    begun_shared = shared_after (world.Numbers l.name (next_id here)) w.shared

    abbrev begun_rows : List Row
    begun_rows = table_rows (row (tm_of start) (rows.Begin l.tid (next_id here) bid)) begun_shared start

    abbrev begun_end : Node
    begun_end = node_after_rows begun_rows start

    -- the branch that begins
    abbrev Begins : BranchKey → Type 0
    Begins k = k ≡ child l.tid (next_id here)

    begins_so : begins here l ≡ Some (record { before = world.Draws ∷ world.Numbers l.name (next_id here) ∷ []; event = rows.Begin l.tid (next_id here) bid })
    begins_so = ap (λ (o : Option Id). option_map (λ bid. let t : answers.Telling = record { before = world.Draws ∷ world.Numbers l.name (next_id here) ∷ []; event = rows.Begin l.tid (next_id here) bid } in t) o) has

    begun_are : (service (StartBranch label)).rows w.shared here ≡ silent world.Draws ∷ silent (world.Numbers l.name (next_id here)) ∷ begun_rows
    begun_are = ap (λ (o : Option Label). told_if w.shared here (option_and_then (begins here) o)) is ∙ ap (told_if w.shared here) begins_so

    begun_nodes : (succeeded w.shared here (service (StartBranch label))).node ≡ begun_end
    begun_nodes = ap (λ qs. node_after_rows qs here) begun_are

    begun_mild : AreMild Begins begun_rows
    begun_mild = table_mild Begins (row (tm_of start) (rows.Begin l.tid (next_id here) bid)) begun_shared start (refl, (tt, tt))

    begun_moves : Moves Begins start begun_end
    begun_moves = rows_move Begins begun_rows start begun_mild

    found_one : (find_label label w.shared.labels ≡ Some l) × (l.node ≡ here.name)
    found_one = labelled_is here.name label w.shared.labels l is

    named_so : l.name ≡ label
    named_so = (found_label label w.shared.labels l found_one.0).1

    begun_labels : v.shared.labels ≡ with_serial l.name (next_id here) w.shared.labels
    begun_labels = ap (λ (y : World). y.shared.labels) x.goes ∙ ap (λ qs. (shared_after_rows qs w.shared).labels) begun_are ∙ rows_labels Begins begun_rows begun_shared begun_mild

    begun_last : last_or None e.lines ≡ Some (line.Pending (next_id here ∷ []) [])
    begun_last = answered e es w v node (StartBranch label) h (λ y found. down node y found) said x (line.Pending (next_id here ∷ []) []) refl

    begun_ids : ids_here (reading e.source.text) e.lines ≡ next_id here ∷ []
    begun_ids = ap (λ r. ids_here r e.lines) said ∙ ap serial_begun begun_last

    begun_told : labels_told (e ∷ es) ≡ map told v.shared.labels
    begun_told =
        (λ i. labels_here (said i) (begun_last i) (labels_told es)) ∙ ap (numbered label (next_id here)) h.labels ∙ told_numbered label (next_id here) w.shared.labels
        ∙ ap (λ name. map told (with_serial name (next_id here) w.shared.labels)) (sym named_so) ∙ ap (map told) (sym begun_labels)

    before : IsMadeSo es w l
    before = h.made l (found_label label w.shared.labels l found_one.0).0

    begun_made : IsMadeSo (e ∷ es) v (record l { serial = Some (next_id here) })
    begun_made = record {
      begun = λ none. let no : ◌≡◌ {A = Option Id} None (Some bid) = sym none ∙ has in let never : ⊥ = cc in absurd never;
      own = λ s is_s. ap (λ (y : Id). y.node) (sym (some_is (next_id here) s is_s)) ∙ sym found_one.1;
      apart = λ other is_b s is_s same. next_new es w node here l.tid h x.found before.tid (same ∙ sym (some_is (next_id here) s is_s));
      tid = subst (λ ids. In l.tid (ids ++ ids_told es)) (sym begun_ids) (inr before.tid);
      serial = λ s is_s. subst (λ ids. In s (ids ++ ids_told es)) (sym begun_ids) (inl (sym (some_is (next_id here) s is_s)));
      fits = λ y found k o serial.
          let o_m : HasOpen begun_end k = subst (λ z. HasOpen z k) (there e es w v node (StartBranch label) h (λ z f. down node z f) said x (ap (λ (z : Node). z.name) begun_nodes ∙ rows_name begun_rows start) y (subst (λ name. find_node name v.nodes ≡ Some y) found_one.1 found) ∙ begun_nodes) o in
          elim (begun_moves.begun k o_m) [
            | inl old ↦ absurd (not_past here (subst (IsPast here) (sym (some_is (next_id here) k.serial serial)) (h.past node here x.found k old)))
            | inr new ↦ ap (λ (j : BranchKey). j.tid) new
          ];
    }

    born_so : HasBegun (e ∷ es) l.tid (next_id here)
    born_so = inr (
      es,
      label,
      (succeeded w.shared here (service (StartBranch label))).lines,
      told l,
      record { after = []; entry = e; stands = refl; said = said ∙ ap (λ y. Says (At y (StartBranch label))) (sym (found_name node w.nodes here x.found)); shown = x.shows },
      ap (find_told label) h.labels ∙ find_map label w.shared.labels l found_one.0,
      refl,
    )

    with_serial_named : Named (e ∷ es) v
    with_serial_named = drawn_named e es w v node here (succeeded w.shared here (service (StartBranch label))).node h (record {
      found = x.found;
      named = ap (λ (y : Node). y.name) begun_nodes ∙ rows_name begun_rows start;
      nodes = ap (λ (y : World). y.nodes) x.goes;
      past = λ id p. subst (λ y. IsPast y id) (sym begun_nodes) (begun_moves.past id (past_more here start refl refl id p));
      drew = subst (λ y. IsPast y (next_id here)) (sym begun_nodes) (begun_moves.past (next_id here) (drew_next here start refl refl));
      begun = λ k o. elim (begun_moves.begun k (subst (λ y. HasOpen y k) begun_nodes o)) [ inl i ↦ inl i | inr new ↦ inr (ap (λ (j : BranchKey). j.serial) new, subst (λ (j : BranchKey). HasBegun (e ∷ es) j.tid j.serial) (sym new) born_so) ];
      told_so = begun_told;
      ids = begun_ids;
      in_use = in_use e es w v node (StartBranch label) h (λ y found. down node y found) said x (served_up here _ x.first);
      labels = λ i j. elim (in_numbered l.name (next_id here) w.shared.labels l i (subst (λ name. find_label name w.shared.labels ≡ Some l) (sym named_so) found_one.0) (subst (λ ls. In i ls) begun_labels j)) [
        | inl old ↦ inl old
        | inr new ↦ inr (subst (IsMadeSo (e ∷ es) v) (sym new) begun_made)
      ];
    })

  pub branch_begun_named : Named (e ∷ es) v
  branch_begun_named =
      let l = label_there w.shared here label rest_is.0 in
      let b = bid_there l.0 (sym (ap (λ (o : Option Label). elim o [ Some y ↦ authorised y | None ↦ None ]) l.1) ∙ (neither (of_label w.shared here label authorised) _ rest_is.1).0) in
      with_serial_named l.0 l.1 b.0 b.1
