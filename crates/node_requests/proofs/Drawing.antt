-- Statements for which a node draws an id.
use Rattle.std.proofs.Common.{◌≡◌, inl, inr, ℕ, ◌+◌, List, [], ◌∷◌, ◌++◌, Bool, true, false, Option, Some, None, map, refl, ◌∙◌, ap, sym, subst, arith}
use Rattle.std.specs.Prelude.{not}
use Rattle.std.specs.Option.{option_and_then, option_map}
use Rattle.emitter_model.specs.commit_protocol.Rows as rows
use Rattle.emitter_model.specs.commit_protocol.Rows.{row}
use Rattle.emitter_model.specs.commit_protocol.Table.{Branch, Key, Tm, branch_serials, record_serials}
use Rattle.emitter_model.specs.commit_protocol.World.{In}
use Rattle.vms_model.specs.Ids.{Id}
use Rattle.emitter_model.specs.transcript_model.Lines as line
use Rattle.script_lang.specs.script_model.Statements.{AddBranch, StartBranch, StartTrans}
use Rattle.world_laws.specs.run_model.Operations.{first_of, refused_if}
use Rattle.world_laws.specs.run_model.World.{Act, Draws, Label, Labels, Node, Numbers, Shared, acted, labelled, next_id, tm_of, with_serial}
use Rattle.world_laws.specs.run_model.Answers.{Telling, adds, all_acted, all_shared, authorised, begins, branch_labelled, in_state, is_first_active, more_bids, more_branches, new_label, seconds_refused, silent, table_rows, told_if, told_rows, unsettled}
use Rattle.world_laws.specs.Nodes.{IsKeptNode}
use Rattle.world_laws.specs.Running.{IsDrawn}
use Rattle.run_shared.specs.Sharing.{IsShared, SharedState}
use Rattle.node_table.specs.Standing.{Up, UpRepresents}
use Rattle.node_requests.specs.Labelled.{branch_in, made_in}
use Rattle.node_requests.specs.Running.{name_of}
use Rattle.node_requests.specs.Transacting.{due_in, more_in, new_in}
use Rattle.node_requests.proofs.Statements.{branch_is, made_is}
use Rattle.node_requests.proofs.Transacting.{IsToldBy}

-- the id that is drawn next, and the node with one drawn more
abbrev pub id_next : Up → Id
id_next r = record { node = name_of r; boot = r.stored.volume.catalog.home.boot; seq = r.drawn + 1 }

abbrev pub with_drawn : Up → Up
with_drawn r = record r { drawn = r.drawn + 1 }

-- an id that was drawn is not the next
not_next : (name : List ℕ) (boot drawn : ℕ) (id : Id) → IsDrawn name boot drawn id → id ≡ record { node = name; boot = boot; seq = drawn + 1 } → ⊥
not_next name boot drawn id h e = elim h.1 [
  | inl earlier ↦ (let b : id.boot ≡ boot = ap (λ (i : Id). i.boot) e in omega (arith, b, earlier))
  | inr here ↦ (let q : id.seq ≡ drawn + 1 = ap (λ (i : Id). i.seq) e in let l = here.1 in omega (arith, q, l))
]

module _ (clock : ℕ) (r : Up) (sh : SharedState) (s : Shared) (n : Node) (h : UpRepresents clock r n) (share : IsShared sh s) where
  pub next_is : next_id n ≡ id_next r
  next_is = λ i. record { node = h.stands.kept.name i; boot = h.stands.kept.has.home.boot i; seq = h.drawn i + 1 }

  -- no branch that was prepared has it,
  pub next_new : (k : Key) → In k n.volatile.preparation → k.serial ≡ id_next r → ⊥
  next_new k i e = not_next n.name n.durable.boot n.volatile.drawn k.serial (h.preparation k i) (e ∙ sym next_is)

  -- nor has a branch or a committed record of the table
  pub next_free : IsKeptNode s n → In (id_next r) (branch_serials r.tm.table ++ record_serials r.tm.records) → ⊥
  next_free kept i =
      let there : In (next_id n) (branch_serials n.volatile.branches ++ record_serials n.volatile.records) = subst (λ (t : Tm). In (next_id n) (branch_serials t.table ++ record_serials t.records)) (sym h.stands.table) (subst (λ x. In x (branch_serials r.tm.table ++ record_serials r.tm.records)) (sym next_is) i) in
      not_next n.name n.durable.boot n.volatile.drawn (next_id n) ((kept.runs h.stands.up).0.table.drawn (next_id n) there) refl

  pub new_is : (label : List ℕ) → new_label s label ≡ new_in label sh.labels
  new_is label = ap (λ ls. new_in label ls) share.labels

  pub more_is : more_branches n ≡ more_in r
  more_is = (λ i. more_in (record r { tm = h.stands.table i; stored = record r.stored { units = record r.stored.units { log = h.stands.kept.log i } } }))

-- START_TRANS.
module _ (clock : ℕ) (r : Up) (sh : SharedState) (label : List ℕ) (seconds : Option ℕ) (draws : (n : Node) → UpRepresents clock r n → UpRepresents clock (with_drawn r) (acted Draws n)) where
  abbrev pub start_label : Label
  start_label = record { name = label; node = name_of r; tid = id_next r; bid = None; serial = Some (id_next r) }

  abbrev pub start_acts : Node → List Act
  start_acts n = Draws ∷ Labels (record { name = label; node = n.name; tid = next_id n; bid = None; serial = Some (next_id n) }) ∷ []

  pub start_told : new_in label sh.labels ≡ None → seconds_refused seconds ≡ None → more_in r ≡ None → (s : Shared) (n : Node) → UpRepresents clock r n → IsShared sh s → IsKeptNode s n
      → IsToldBy (StartTrans label seconds) (start_acts n) (rows.Start (id_next r) (due_in clock seconds)) clock (with_drawn r) (record sh { labels = start_label ∷ sh.labels }) s n
  start_told made given room s n h share kept = record {
    early = ap (λ x. first_of x (seconds_refused seconds)) (new_is clock r sh s n h share label ∙ made) ∙ given;
    late = more_is clock r sh s n h share ∙ room;
    rows = λ i. map silent (start_acts n) ++ table_rows (row (tm_of n) (rows.Start (next_is clock r sh s n h share i) (due_in (h.stands.clock_is i) seconds))) (all_shared (start_acts n) s) (all_acted (start_acts n) n);
    stands = draws n h;
    shares = record { labels = (λ i. record { name = label; node = h.stands.kept.name i; tid = next_is clock r sh s n h share i; bid = None; serial = Some (next_is clock r sh s n h share i) } ∷ share.labels i); in_use = share.in_use; wire = share.wire };
    new = next_new clock r sh s n h share;
  }

-- ADD_BRANCH.
module _ (clock : ℕ) (r : Up) (sh : SharedState) (label other new : List ℕ) (draws : (n : Node) → UpRepresents clock r n → UpRepresents clock (with_drawn r) (acted Draws n)) (x : Branch) (found : branch_in (name_of r) label sh.labels r.tm.table ≡ Some x) where
  abbrev pub add_label : Label
  add_label = record { name = new; node = other; tid = x.key.tid; bid = Some (id_next r); serial = None }

  abbrev pub add_acts : Node → List Act
  add_acts n = Draws ∷ Labels (record { name = new; node = other; tid = x.key.tid; bid = Some (next_id n); serial = None }) ∷ []

  pub add_told : made_in (name_of r) label sh.labels ≡ None → new_in new sh.labels ≡ None → is_first_active x ≡ true → more_bids x ≡ None → (s : Shared) (n : Node) → UpRepresents clock r n → IsShared sh s → IsKeptNode s n
      → IsToldBy (AddBranch label other new) (add_acts n) (rows.Authorise x.key.tid (id_next r)) clock (with_drawn r) (record sh { labels = add_label ∷ sh.labels }) s n
  add_told made fresh first few s n h share kept =
      let b = branch_is clock r sh s n h share label ∙ found in
      record {
        early = (λ i. first_of ((made_is clock r sh s n h share label ∙ made) i) (first_of ((new_is clock r sh s n h share new ∙ fresh) i) (first_of (unsettled (b i)) (in_state is_first_active (b i)))))
            ∙ ap (λ (t : Bool). refused_if (not t) line.WrongState) first;
        late = ap (λ (o : Option Branch). option_and_then more_bids o) b ∙ few;
        rows = ap (λ (o : Option Branch). elim o [ Some y ↦ told_rows s n (adds n other new y) | None ↦ [] ]) b
            ∙ (λ i. map silent (add_acts n) ++ table_rows (row (tm_of n) (rows.Authorise x.key.tid (next_is clock r sh s n h share i))) (all_shared (add_acts n) s) (all_acted (add_acts n) n));
        stands = draws n h;
        shares = record { labels = (λ i. record { name = new; node = other; tid = x.key.tid; bid = Some (next_is clock r sh s n h share i); serial = None } ∷ share.labels i); in_use = share.in_use; wire = share.wire };
        new = tt;
      }

-- START_BRANCH.
module _ (clock : ℕ) (r : Up) (sh : SharedState) (label : List ℕ) (draws : (n : Node) → UpRepresents clock r n → UpRepresents clock (with_drawn r) (acted Draws n)) (l : Label) (bid : Id) (found : labelled (name_of r) label sh.labels ≡ Some l) (authorised_by : l.bid ≡ Some bid) where
  abbrev pub begin_acts : Node → List Act
  begin_acts n = Draws ∷ Numbers l.name (next_id n) ∷ []

  pub begin_told : branch_in (name_of r) label sh.labels r.tm.table ≡ None → more_in r ≡ None → (s : Shared) (n : Node) → UpRepresents clock r n → IsShared sh s → IsKeptNode s n
      → IsToldBy (StartBranch label) (begin_acts n) (rows.Begin l.tid (id_next r) bid) clock (with_drawn r) (record sh { labels = with_serial l.name (id_next r) sh.labels }) s n
  begin_told none room s n h share kept =
      let there : labelled n.name label s.labels ≡ Some l = (λ i. labelled (h.stands.kept.name i) label (share.labels i)) ∙ found in
      record {
        early = (λ i. first_of (elim (there i) [ Some x ↦ None | None ↦ Some line.BadLabel ]) (first_of (elim (there i) [ Some x ↦ authorised x | None ↦ None ]) (in_state (λ b. false) (branch_labelled s n label))))
            ∙ (λ i. first_of (elim (authorised_by i) [ Some x ↦ None | None ↦ Some line.NoSuchBranchId ]) (in_state (λ b. false) ((branch_is clock r sh s n h share label ∙ none) i)));
        late = more_is clock r sh s n h share ∙ room;
        rows = (λ i. told_if s n (option_and_then (begins n) (there i)))
            ∙ (λ i. told_if s n (option_map (λ (y : Id). let t : Telling = record { before = begin_acts n; event = rows.Begin l.tid (next_id n) y } in t) (authorised_by i)))
            ∙ (λ i. map silent (begin_acts n) ++ table_rows (row (tm_of n) (rows.Begin l.tid (next_is clock r sh s n h share i) bid)) (all_shared (begin_acts n) s) (all_acted (begin_acts n) n));
        stands = draws n h;
        shares = record { labels = (λ i. with_serial l.name (next_is clock r sh s n h share i) (share.labels i)); in_use = share.in_use; wire = share.wire };
        new = next_new clock r sh s n h share;
      }
