-- Each step of the protocol keeps the serials of each node's log distinct.
use Rattle.std.specs.Prelude.{if◌then◌else◌, slice_get}
use Rattle.std.proofs.Common.{◌≡◌, ◌≢◌, ℕ, zero, suc, ◌+◌, ◌≤◌, take, Bool, true, false, List, [], ◌∷◌, ◌++◌, Option, Some, None, ◌⊎◌, inl, inr, refl, ap, sym, subst, ◌∙◌, arith}
use Rattle.vms_model.specs.Ids.{Id}
use Rattle.commit_protocol.specs.Messages.{Name, Message, LogRecord}
use Rattle.commit_protocol.specs.Table as table
use Rattle.commit_protocol.specs.Table.{Key, Branch, State, Joining, Active, Ending, Voting, Prepared, Tm, Act, Notes, Accepts, Prepares, Settles, Leaves, Acknowledges, Releases, Undoes, Sends, Prints, child, find, find_serial, put, cut, prepared_records, branches_of, branch_serials, record_serials, home_of, coordinator_of}
use Rattle.commit_protocol.specs.Rows as rows
use Rattle.commit_protocol.specs.Rows.{Event, Start, Authorise, Begin, Got, row, blank, message, has_changed}
use Rattle.commit_protocol.specs.Messages.{Join}
use Rattle.commit_protocol.specs.Allowed.{allowed}
use Rattle.commit_protocol.specs.World.{Node, World, In, Step, Does, Stops, Crash, Boot, BootStops, Swaps, Happening, At, Comes, StartTrans, AddBranch, StartBranch, DirectChange, Given, Plan, plan, plan_if, given, draws_none, begins, comes, planned, happens, run, node_after, acts, acts_all, tm_at, next_id, draws, labelled, commits_alone, crashed, crashes, raised, raised_node, arranged, arranged_by, undo_all, undoes_lost, may_boot, swapped, swaps}
use Rattle.commit_protocol.specs.Agreement.{Gone, phase, phase_of, Distinct, IsOld, view}
use Rattle.commit_protocol.specs.Opening.{Image, Opening, OldIn, IsAgreeing, image_at, image_left, log_serials, opened}
use Rattle.commit_protocol.proofs.Lists.{Unique, find-key, in_parts, told_key, same_key-refl, find_serial-key, cases_name}
use Rattle.commit_protocol.proofs.Invariant.{Later}
use Rattle.commit_protocol.proofs.Bridge.{node_same, node_other}
use Rattle.commit_protocol.proofs.Acting.{Good}
use Rattle.commit_protocol.proofs.Running.{up_if, goes_step}
use Rattle.commit_protocol.proofs.Following.{others_stay}
use Rattle.commit_protocol.proofs.Gathered.{is_shown}
use Rattle.commit_protocol.proofs.Opened.{good_opened, old_of}
use Rattle.commit_protocol.specs.Standing.{IsThere, BeginsNothing, HasApartLog}
use Rattle.commit_protocol.proofs.StandingRows.{rows_stand}
use Rattle.commit_protocol.proofs.Serials.{unique_of, AreApart, LogApart, parts_apart, apart_distinct, serial_in, AllKeyed, all_keyed, take_keyed, there_serial, distinct_more, serials_new, in_cut_serials, cut_gone, cut_distinct, ApartAfter, apart_same, nodes_after, acts_apart}

-- the node's log is apart, and its records are of serials that it had
record Fine (x y : Node) : Type 0 where
  log : LogApart y
  records : (i : Id) → In i (record_serials y.records) → In i (branch_serials x.table) ⊎ In i (record_serials x.records)

fine : (x y : Node) → ApartAfter x y → Fine x y
fine x y a = record { log = a.log; records = a.records }

fine_on : (x y z : Node) → ApartAfter x y → Fine y z → Fine x z
fine_on x y z a b = record { log = b.log; records = λ i l. elim (b.records i l) [ inl j ↦ inl (a.branches i j) | inr j ↦ a.records i j ] }

-- what holds of all nodes
pub record Apart (w : World) : Type 0 where
  pub each : (n : Name) → LogApart (w.nodes n)
  pub own : (n : Name) (i : Id) → In i (record_serials (w.nodes n).records) → i.node ≡ n
  pub old : (n : Name) (i : Id) → In i (record_serials (w.nodes n).records) → IsOld (view w) i

-- the serial of a branch of a node is old
serial_key : (bs : List Branch) (i : Id) → In i (branch_serials bs) → (k : Key) × (k.serial ≡ i) × IsThere bs k
serial_key [] i h = absurd h
serial_key (b ∷ bs) i h = elim h [
  | inl e ↦ (b.key, sym e, (b, rw (same_key-refl b.key) refl))
  | inr j ↦
      let q = serial_key bs i j in
      elim (told_key b.key q.0) [
        | inl t ↦ (q.0, q.1, (b, rw (t.0) refl))
        | inr t ↦ (q.0, q.1, (q.2.0, rw (t.0) q.2.1))
      ]
]

never_gone : (s : State) → phase_of s ≡ Gone → ⊥
never_gone Joining e = cc
never_gone Active e = cc
never_gone Ending e = cc
never_gone Voting e = cc
never_gone Prepared e = cc

branch_old : (w : World) → Good w → (n : Name) (i : Id) → In i (branch_serials (w.nodes n).table) → IsOld (view w) i
branch_old w g n i h =
    let q = serial_key (w.nodes n).table i h in
    let k : Key = q.0 in
    let home : k.serial.node ≡ n = g.home n k q.2.0 q.2.1 in
    let found : find k (w.nodes k.serial.node).table ≡ Some q.2.0 = ap (λ m. find k (w.nodes m).table) home ∙ q.2.1 in
    let there : phase ((view w).at k) ≢ Gone = λ e. never_gone q.2.0.state (ap phase (sym found) ∙ e) in
    let P : Id → Type 0 = λ j. IsOld (view w) j in
    subst P q.1 (g.inv.old_at k there).serial

branch_home : (w : World) → Good w → (n : Name) (i : Id) → In i (branch_serials (w.nodes n).table) → i.node ≡ n
branch_home w g n i h =
    let q = serial_key (w.nodes n).table i h in
    let P : Id → Type 0 = λ j. j.node ≡ n in
    subst P q.1 (g.home n q.0 q.2.0 q.2.1)

-- One node has changed.
goes_apart : (w x : World) (n : Name) → Good w → Apart w → Later (view w) (view x) → Fine (w.nodes n) (x.nodes n) → ((m : Name) → (m ≡ n → ⊥) → x.nodes m ≡ w.nodes m) → Apart x
goes_apart w x n g a later f same = record {
  each = λ m. elim (cases_name m n) [
    | inl e ↦ (let P : Name → Type 0 = λ y. LogApart (x.nodes y) in subst P (sym e) f.log)
    | inr e ↦ subst LogApart (sym (same m e)) (a.each m)
  ];
  own = λ m i h. elim (cases_name m n) [
    | inl e ↦
        let P : Name → Type 0 = λ y. In i (record_serials (x.nodes y).records) in
        elim (f.records i (subst P e h)) [ inl j ↦ branch_home w g n i j ∙ sym e | inr j ↦ a.own n i j ∙ sym e ]
    | inr e ↦ (let P : Node → Type 0 = λ y. In i (record_serials y.records) in a.own m i (subst P (same m e) h))
  ];
  old = λ m i h. elim (cases_name m n) [
    | inl e ↦
        let P : Name → Type 0 = λ y. In i (record_serials (x.nodes y).records) in
        elim (f.records i (subst P e h)) [ inl j ↦ later.old i (branch_old w g n i j) | inr j ↦ later.old i (a.old n i j) ]
    | inr e ↦ (let P : Node → Type 0 = λ y. In i (record_serials y.records) in later.old i (a.old m i (subst P (same m e) h)))
  ];
}

-- The nodes after acts.

act_node : (n : Name) (a : Act) (w : World) → (acts n a w).nodes n ≡ node_after a (w.nodes n)
act_node n (Notes b) w = node_same n (node_after (Notes b) (w.nodes n)) w.nodes
act_node n (Accepts b c) w = node_same n (node_after (Accepts b c) (w.nodes n)) w.nodes
act_node n (Prepares b) w = node_same n (node_after (Prepares b) (w.nodes n)) w.nodes
act_node n (Settles k o why r) w = node_same n (node_after (Settles k o why r) (w.nodes n)) w.nodes
act_node n (Leaves k) w = node_same n (node_after (Leaves k) (w.nodes n)) w.nodes
act_node n (Acknowledges k) w = node_same n (node_after (Acknowledges k) (w.nodes n)) w.nodes
act_node n (Releases s x) w = node_same n (node_after (Releases s x) (w.nodes n)) w.nodes
act_node n (Undoes k) w = node_same n (node_after (Undoes k) (w.nodes n)) w.nodes
act_node n (Sends m) w = refl
act_node n (Prints l) w = refl

all_node : (n : Name) (todo : List Act) (w : World) → (acts_all n todo w).nodes n ≡ nodes_after todo (w.nodes n)
all_node n [] w = refl
all_node n (a ∷ todo) w = all_node n todo (acts n a w) ∙ ap (nodes_after todo) (act_node n a w)

-- A fall, a boot, another order of the records.

in_restored : (bs : List Branch) (i : Id) → In i (branch_serials (branches_of (prepared_records bs))) → In i (branch_serials bs)
in_restored [] i h = h
in_restored (b ∷ bs) i h = go b.state h (in_restored bs i)
  where
    go : (s : State) → In i (branch_serials (branches_of (table.prepared_state b s (prepared_records bs)))) → (In i (branch_serials (branches_of (prepared_records bs))) → In i (branch_serials bs)) → In i (b.key.serial ∷ branch_serials bs)
    go Prepared j more = elim j [ inl e ↦ inl e | inr z ↦ inr (more z) ]
    go Joining j more = inr (more j)
    go Active j more = inr (more j)
    go Ending j more = inr (more j)
    go Voting j more = inr (more j)

restored_distinct : (bs : List Branch) → Distinct (branch_serials bs) → Distinct (branch_serials (branches_of (prepared_records bs)))
restored_distinct [] d = tt
restored_distinct (b ∷ bs) d = go b.state (restored_distinct bs d.1)
  where
    go : (s : State) → Distinct (branch_serials (branches_of (prepared_records bs))) → Distinct (branch_serials (branches_of (table.prepared_state b s (prepared_records bs))))
    go Prepared more = ((λ h. d.0 (in_restored bs b.key.serial h)), more)
    go Joining more = more
    go Active more = more
    go Ending more = more
    go Voting more = more

crash_apart : (x : Node) → LogApart x → ApartAfter x (crashed x)
crash_apart x h = record {
  log = record { one = restored_distinct x.table h.one; two = h.two; apart = λ i j l. h.apart i (in_restored x.table i j) l };
  branches = in_restored x.table;
  records = λ i l. inr l;
}

found_serial : (k : Key) (bs : List Branch) (b : Branch) → find k bs ≡ Some b → b.key.serial ≡ k.serial
found_serial k bs b e = ap (λ (j : Key). j.serial) (find-key k bs b e)

in_arranged : (order : List Key) (bs : List Branch) (i : Id) → In i (branch_serials (arranged order bs)) → In i (branch_serials bs)
in_arranged [] bs i h = h
in_arranged (k ∷ order) bs i h = go (find k bs) refl h (λ j. in_cut_serials k bs i (in_arranged order (cut k bs) i j))
  where
    go : (o : Option Branch) → find k bs ≡ o → In i (branch_serials (arranged_by o (arranged order (cut k bs)))) → (In i (branch_serials (arranged order (cut k bs))) → In i (branch_serials bs)) → In i (branch_serials bs)
    go None e j rest = rest j
    go (Some b) e j rest = elim j [
      | inl q ↦ (let P : Id → Type 0 = λ z. In z (branch_serials bs) in subst P (sym (q ∙ found_serial k bs b e)) (there_serial k bs (b, e)))
      | inr z ↦ rest z
    ]

arranged_distinct : (order : List Key) (bs : List Branch) → Distinct (branch_serials bs) → Distinct (branch_serials (arranged order bs))
arranged_distinct [] bs d = d
arranged_distinct (k ∷ order) bs d = go (find k bs) refl (arranged_distinct order (cut k bs) (cut_distinct k bs d))
  where
    go : (o : Option Branch) → find k bs ≡ o → Distinct (branch_serials (arranged order (cut k bs))) → Distinct (branch_serials (arranged_by o (arranged order (cut k bs))))
    go None e more = more
    go (Some b) e more = ((λ h. cut_gone k bs d (b, e) (let P : Id → Type 0 = λ z. In z (branch_serials (cut k bs)) in subst P (found_serial k bs b e) (in_arranged order (cut k bs) b.key.serial h))), more)

raise_apart : (order : List Key) (x : Node) → LogApart x → ApartAfter x (raised_node order x)
raise_apart order x h = record {
  log = record { one = arranged_distinct order x.table h.one; two = h.two; apart = λ i j l. h.apart i (in_arranged order x.table i j) l };
  branches = in_arranged order x.table;
  records = λ i l. inr l;
}

in_swapped : (i : ℕ) (rs : List LogRecord) (s : Id) → In s (record_serials (swapped i rs)) → In s (record_serials rs)
in_swapped zero (x ∷ (y ∷ rest)) s h = elim h [ inl e ↦ inr (inl e) | inr k ↦ elim k [ inl e ↦ inl e | inr j ↦ inr (inr j) ] ]
in_swapped zero (x ∷ []) s h = h
in_swapped zero [] s h = h
in_swapped (suc i) (x ∷ rest) s h = elim h [ inl e ↦ inl e | inr k ↦ inr (in_swapped i rest s k) ]
in_swapped (suc i) [] s h = h

swapped_distinct : (i : ℕ) (rs : List LogRecord) → Distinct (record_serials rs) → Distinct (record_serials (swapped i rs))
swapped_distinct zero (x ∷ (y ∷ rest)) d = ((λ h. elim h [ inl e ↦ d.0 (inl (sym e)) | inr k ↦ d.1.0 k ]), ((λ h. d.0 (inr h)), d.1.1))
swapped_distinct zero (x ∷ []) d = d
swapped_distinct zero [] d = d
swapped_distinct (suc i) (x ∷ rest) d = ((λ h. d.0 (in_swapped i rest x.serial h)), swapped_distinct i rest d.1)
swapped_distinct (suc i) [] d = d

swap_apart : (i : ℕ) (x : Node) → LogApart x → ApartAfter x (record x { records = swapped i x.records })
swap_apart i x h = record {
  log = record { one = h.one; two = swapped_distinct i x.records h.two; apart = λ s j l. h.apart s j (in_swapped i x.records s l) };
  branches = λ s j. j;
  records = λ s l. inr (in_swapped i x.records s l);
}

undone_keyed : (ks : List Key) (bs : List Branch) → AllKeyed bs (undo_all ks)
undone_keyed [] bs = tt
undone_keyed (k ∷ ks) bs = (tt, undone_keyed ks (cut k bs))

-- A branch begins.

new_id : (w : World) (n : Name) → (w.nodes n).up ≡ true → IsOld (view w) (next_id w n) → ⊥
new_id w n up h = let q : (w.nodes n).seq + 1 ≤ (w.nodes n).seq = h.seq up refl in omega arith

begun_apart : (x : Node) (b : Branch) → LogApart x → (In b.key.serial (branch_serials x.table) → ⊥) → (In b.key.serial (record_serials x.records) → ⊥) → Fine x (node_after (Notes b) x)
begun_apart x b h fresh unrecorded = go (find b.key x.table) refl
  where
    go : (o : Option Branch) → find b.key x.table ≡ o → Fine x (node_after (Notes b) x)
    go (Some c) e = absurd (fresh (there_serial b.key x.table (c, e)))
    go None e =
        let is : branch_serials (put b x.table) ≡ branch_serials x.table ++ b.key.serial ∷ [] = serials_new b x.table e in
        let D : List Id → Type 0 = λ is. Distinct is in
        record {
          log = record {
            one = subst D (sym is) (distinct_more (branch_serials x.table) b.key.serial h.one fresh);
            two = h.two;
            apart = λ i j l. (let P : List Id → Type 0 = λ is. In i is in elim (in_parts i (branch_serials x.table) (b.key.serial ∷ []) (subst P is j)) [
              | inl k ↦ h.apart i k l
              | inr k ↦ elim k [ inl q ↦ (let Q : Id → Type 0 = λ z. In z (record_serials x.records) in unrecorded (subst Q q l)) | inr z ↦ absurd z ]
            ]);
          };
          records = λ i l. inr l;
        }

-- Plans.

-- any front of what is planned leaves the node fine, and the rest as it was
record Planned (w : World) (p : Plan) : Type 0 where
  front : (j : ℕ) → Fine (w.nodes p.node) (nodes_after (take j p.todo) (p.base.nodes p.node))
  whole : Fine (w.nodes p.node) (nodes_after p.todo (p.base.nodes p.node))
  others : (m : Name) → (m ≡ p.node → ⊥) → p.base.nodes m ≡ w.nodes m

-- acts on keys that are there, over a base in which the node has drawn
keyed_planned : (w base : World) (n : Name) (new : Node) (todo : List Act) → Apart w → base.nodes n ≡ new → new.table ≡ (w.nodes n).table → new.records ≡ (w.nodes n).records → ((m : Name) → (m ≡ n → ⊥) → base.nodes m ≡ w.nodes m)
    → AllKeyed (w.nodes n).table todo → Planned w (plan n base todo)
keyed_planned w base n new todo a here ts rs same keyed =
    let x : Node = w.nodes n in
    let log : LogApart new = record {
      one = (let D : List Branch → Type 0 = λ bs. Distinct (branch_serials bs) in subst D (sym ts) (a.each n).one);
      two = (let D : List LogRecord → Type 0 = λ qs. Distinct (record_serials qs) in subst D (sym rs) (a.each n).two);
      apart = λ i j l. (a.each n).apart i (let P : List Branch → Type 0 = λ bs. In i (branch_serials bs) in subst P ts j) (let P : List LogRecord → Type 0 = λ qs. In i (record_serials qs) in subst P rs l);
    } in
    let first : ApartAfter x new = record {
      log = log;
      branches = λ i j. (let P : List Branch → Type 0 = λ bs. In i (branch_serials bs) in subst P ts j);
      records = λ i l. inr (let P : List LogRecord → Type 0 = λ qs. In i (record_serials qs) in subst P rs l);
    } in
    let K : List Branch → Type 0 = λ bs. AllKeyed bs todo in
    let keyed_new : AllKeyed new.table todo = subst K (sym ts) keyed in
    let F : List Act → Node → Type 0 = λ acts y. Fine x (nodes_after acts y) in
    record {
      front = λ j. (let P : Node → Type 0 = λ y. Fine x (nodes_after (take j todo) y) in subst P (sym here) (fine_on x new (nodes_after (take j todo) new) first (fine new (nodes_after (take j todo) new) (acts_apart (take j todo) new log (take_keyed j todo new.table keyed_new)))));
      whole = (let P : Node → Type 0 = λ y. Fine x (nodes_after todo y) in subst P (sym here) (fine_on x new (nodes_after todo new) first (fine new (nodes_after todo new) (acts_apart todo new log keyed_new))));
      others = same;
    }

nothing_planned : (w : World) (n : Name) → Apart w → Planned w (plan n w [])
nothing_planned w n a = keyed_planned w w n (w.nodes n) [] a refl refl refl (λ m ne. refl) tt

plan_if_planned : (t : Bool) (n : Name) (w base : World) (e : Event) → Apart w → Planned w (plan n base (row (tm_at w n) e)) → Planned w (plan_if t n w base e)
plan_if_planned true n w base e a h = h
plan_if_planned false n w base e a h = nothing_planned w n a

changed_keyed : (bs : List Branch) (o : Option Branch) → ((b : Branch) → o ≡ Some b → find b.key bs ≡ Some b) → AllKeyed bs (rows.note_row has_changed o)
changed_keyed bs None there = tt
changed_keyed bs (Some b) there = go b.state
  where
    go : (s : State) → AllKeyed bs (rows.note_state has_changed b s)
    go Active = ((b, there b refl), tt)
    go Joining = tt
    go Ending = tt
    go Voting = tt
    go Prepared = tt

row_keyed : (tm : Tm) (e : Event) → Unique tm.table → BeginsNothing e → AllKeyed tm.table (row tm e)
row_keyed tm e u h = all_keyed (row tm e) tm.table (rows_stand tm e u h)

given_keyed : (tm : Tm) (e : Event) → Unique tm.table → draws_none e ≡ true → AllKeyed tm.table (row tm e)
given_keyed tm (rows.Start t due) u h = absurd (let f : false ≡ true = h in cc)
given_keyed tm (rows.Authorise t bid) u h = absurd (let f : false ≡ true = h in cc)
given_keyed tm (rows.Begin t s bid) u h = absurd (let f : false ≡ true = h in cc)
given_keyed tm (rows.Got m) u h = absurd (let f : false ≡ true = h in cc)
given_keyed tm (rows.Changed s) u h = changed_keyed tm.table (find_serial s tm.table) (λ b e. find_serial-key s tm.table b e)
given_keyed tm (rows.JoinRm s x) u h = row_keyed tm (rows.JoinRm s x) u tt
given_keyed tm (rows.EndTrans t) u h = row_keyed tm (rows.EndTrans t) u tt
given_keyed tm (rows.EndBranch s) u h = row_keyed tm (rows.EndBranch s) u tt
given_keyed tm (rows.AbortBranch s why) u h = row_keyed tm (rows.AbortBranch s why) u tt
given_keyed tm (rows.Replied s x r) u h = row_keyed tm (rows.Replied s x r) u tt
given_keyed tm (rows.Clock now) u h = row_keyed tm (rows.Clock now) u tt
given_keyed tm (rows.LinkDown x) u h = row_keyed tm (rows.LinkDown x) u tt
given_keyed tm rows.RunDown u h = row_keyed tm rows.RunDown u tt
given_keyed tm (rows.InquireBranch s) u h = row_keyed tm (rows.InquireBranch s) u tt

-- a plan by which a branch begins
begins_planned : (w : World) (n : Name) (b : Branch) (rest : List Message) → Good w → Apart w → (w.nodes n).up ≡ true → b.key.serial ≡ next_id w n → Planned w (plan n (draws n w) (Notes b ∷ rows.sends_all rest))
begins_planned w n b rest g a up is =
    let x : Node = w.nodes n in
    let drawn : Node = record x { seq = x.seq + 1 } in
    let P : Id → Type 0 = λ i. In i (branch_serials x.table) in
    let Q : Id → Type 0 = λ i. In i (record_serials x.records) in
    let here : (draws n w).nodes n ≡ drawn = node_same n drawn w.nodes in
    let log : LogApart drawn = record { one = (a.each n).one; two = (a.each n).two; apart = (a.each n).apart } in
    let f : Fine drawn (node_after (Notes b) drawn) = begun_apart drawn b log (λ j. new_id w n up (branch_old w g n (next_id w n) (subst P is j))) (λ j. new_id w n up (a.old n (next_id w n) (subst Q is j))) in
    let y : Node = node_after (Notes b) drawn in
    let begun : Fine x y = record { log = f.log; records = f.records } in
    let shown : (ms : List Message) → nodes_after (rows.sends_all ms) y ≡ y = sends_same y in
    let F : Node → Type 0 = λ z. Fine x z in
    record {
      front = λ j. (let R : Node → Type 0 = λ z. Fine x (nodes_after (take j (Notes b ∷ rows.sends_all rest)) z) in subst R (sym here) (fronts x drawn y j rest (record { log = log; records = λ i l. inr l }) begun refl));
      whole = (let R : Node → Type 0 = λ z. Fine x (nodes_after (Notes b ∷ rows.sends_all rest) z) in subst R (sym here) (subst F (sym (shown rest)) begun));
      others = λ m ne. node_other n drawn w.nodes m ne;
    }
  where
    sends_same : (y : Node) (ms : List Message) → nodes_after (rows.sends_all ms) y ≡ y
    sends_same y [] = refl
    sends_same y (m ∷ ms) = sends_same y ms

    take_same : (y : Node) (j : ℕ) (ms : List Message) → nodes_after (take j (rows.sends_all ms)) y ≡ y
    take_same y zero ms = refl
    take_same y (suc j) [] = refl
    take_same y (suc j) (m ∷ ms) = take_same y j ms

    fronts : (x drawn y : Node) (j : ℕ) (ms : List Message) → Fine x drawn → Fine x y → node_after (Notes b) drawn ≡ y → Fine x (nodes_after (take j (Notes b ∷ rows.sends_all ms)) drawn)
    fronts x drawn y zero ms one two e = one
    fronts x drawn y (suc j) ms one two e = (let F : Node → Type 0 = λ z. Fine x z in subst F (sym (ap (nodes_after (take j (rows.sends_all ms))) e ∙ take_same y j ms)) two)

plans : (w : World) (h : Happening) → Good w → Apart w → (w.nodes (planned w h).node).up ≡ true → Planned w (planned w h)
plans w (At n (StartTrans due)) g a up =
    let e : Event = Start (next_id w n) due in
    plan_if_planned (allowed (tm_at w n) e) n w (draws n w) e a (begins_planned w n (blank (next_id w n) (next_id w n) None Active due) [] g a (up_if (allowed (tm_at w n) e) n w (draws n w) e up) refl)
plans w (At n (AddBranch t)) g a up =
    let e : Event = Authorise t (next_id w n) in
    let drawn : Node = record (w.nodes n) { seq = (w.nodes n).seq + 1 } in
    plan_if_planned (allowed (tm_at w n) e) n w (labelled n w t) e a (keyed_planned w (labelled n w t) n drawn (row (tm_at w n) e) a (node_same n drawn w.nodes) refl refl (λ m ne. node_other n drawn w.nodes m ne)
    (row_keyed (tm_at w n) e (unique_of (w.nodes n).table (a.each n).one) tt))
plans w (At n (StartBranch which)) g a up = by (slice_get w.labels which) up
  where
    by : (o : Option (Id × Id)) → (w.nodes (begins n w o).node).up ≡ true → Planned w (begins n w o)
    by None u = nothing_planned w n a
    by (Some p) u =
        let s : Id = next_id w n in
        let e : Event = Begin p.0 s p.1 in
        plan_if_planned (allowed (tm_at w n) e) n w (draws n w) e a (begins_planned w n (blank p.0 s (Some p.1) Joining None) (message Join (home_of (child p.0 s)) (coordinator_of (child p.0 s)) (child p.0 s) (Some p.1) ∷ []) g a (up_if (allowed (tm_at w n) e) n w (draws n w) e u) refl)
plans w (At n DirectChange) g a up =
    let alone : Node = (commits_alone n w).nodes n in
    keyed_planned w (commits_alone n w) n alone [] a refl (ap (λ (y : Node). y.table) (node_same n _ w.nodes)) (ap (λ (y : Node). y.records) (node_same n _ w.nodes)) (λ m ne. node_other n _ w.nodes m ne) tt
plans w (At n (Given e)) g a up = by (draws_none e) refl
  where
    by : (t : Bool) → draws_none e ≡ t → Planned w (given t n w e)
    by true is = plan_if_planned (allowed (tm_at w n) e) n w w e a (keyed_planned w w n (w.nodes n) (row (tm_at w n) e) a refl refl refl (λ m ne. refl) (given_keyed (tm_at w n) e (unique_of (w.nodes n).table (a.each n).one) is))
    by false is = nothing_planned w n a
plans w (Comes which) g a up = by (slice_get w.sent which)
  where
    by : (o : Option Message) → Planned w (comes w o)
    by None = nothing_planned w [] a
    by (Some m) = keyed_planned w w m.to (w.nodes m.to) (row (tm_at w m.to) (Got m)) a refl refl refl (λ k ne. refl) (row_keyed (tm_at w m.to) (Got m) (unique_of (w.nodes m.to).table (a.each m.to).one) tt)

-- Steps.

-- what is planned is done, or stopped
done_apart : (w : World) (p : Plan) (todo : List Act) → Good w → Apart w → Later (view w) (view (acts_all p.node todo p.base)) → Fine (w.nodes p.node) (nodes_after todo (p.base.nodes p.node)) → ((m : Name) → (m ≡ p.node → ⊥) → p.base.nodes m ≡ w.nodes m)
    → Apart (acts_all p.node todo p.base)
done_apart w p todo g a later f others =
    let x : World = acts_all p.node todo p.base in
    let F : Node → Type 0 = λ z. Fine (w.nodes p.node) z in
    goes_apart w x p.node g a later (subst F (sym (all_node p.node todo p.base)) f) (λ m ne. others_stay p.base p.node m todo ne ∙ others m ne)

fine_crash : (x y : Node) → Fine x y → Fine x (crashed y)
fine_crash x y f = record { log = (crash_apart y f.log).log; records = f.records }

crash_all : (w : World) (n : Name) (y : World) → Good w → Apart w → Later (view w) (view (crashes n y)) → Fine (w.nodes n) (y.nodes n) → ((m : Name) → (m ≡ n → ⊥) → y.nodes m ≡ w.nodes m) → Apart (crashes n y)
crash_all w n y g a later f others =
    let F : Node → Type 0 = λ z. Fine (w.nodes n) z in
    goes_apart w (crashes n y) n g a later (subst F (sym (node_same n (crashed (y.nodes n)) y.nodes)) (fine_crash (w.nodes n) (y.nodes n) f)) (λ m ne. node_other n (crashed (y.nodes n)) y.nodes m ne ∙ others m ne)

apart_if : (w x : World) (t : Bool) (u : World) → Later (view w) (view (if t then x else w)) → (t ≡ true → Later (view w) (view x) → Apart x) → Apart w → Apart (if t then x else w)
apart_if w x true u later f a = f refl later
apart_if w x false u later f a = a

boot_fine : (w : World) (n : Name) (order : List Key) (todo : List Act) → Apart w → AllKeyed (raised_node order (w.nodes n)).table todo → Fine (w.nodes n) ((acts_all n todo (raised n order w)).nodes n)
boot_fine w n order todo a keyed =
    let x : Node = w.nodes n in
    let r : Node = raised_node order x in
    let one = raise_apart order x (a.each n) in
    let F : Node → Type 0 = λ z. Fine x z in
    subst F (sym (all_node n todo (raised n order w) ∙ ap (nodes_after todo) (node_same n r w.nodes))) (fine_on x r (nodes_after todo r) one (fine r (nodes_after todo r) (acts_apart todo r one.log keyed)))

boot_others : (w : World) (n : Name) (order : List Key) (todo : List Act) (m : Name) → (m ≡ n → ⊥) → (acts_all n todo (raised n order w)).nodes m ≡ w.nodes m
boot_others w n order todo m ne = others_stay (raised n order w) n m todo ne ∙ node_other n (raised_node order (w.nodes n)) w.nodes m ne

step_apart : (w : World) (s : Step) → Good w → Apart w → Apart (happens w s)
step_apart w (Does h) g a =
    let p : Plan = planned w h in
    apart_if w (acts_all p.node p.todo p.base) (w.nodes p.node).up w (goes_step w (Does h) g).later
    (λ up later. let q = plans w h g a up in done_apart w p p.todo g a later q.whole q.others) a
step_apart w (Stops j h) g a =
    let p : Plan = planned w h in
    apart_if w (crashes p.node (acts_all p.node (take j p.todo) p.base)) (w.nodes p.node).up w (goes_step w (Stops j h) g).later
    (λ up later. let q = plans w h g a up in
    let y : World = acts_all p.node (take j p.todo) p.base in
    let F : Node → Type 0 = λ z. Fine (w.nodes p.node) z in
    crash_all w p.node y g a later (subst F (sym (all_node p.node (take j p.todo) p.base)) (q.front j)) (λ m ne. others_stay p.base p.node m (take j p.todo) ne ∙ q.others m ne)) a
step_apart w (Crash n) g a = crash_all w n w g a (goes_step w (Crash n) g).later (fine (w.nodes n) (w.nodes n) (apart_same (w.nodes n) (a.each n))) (λ m ne. refl)
step_apart w (Boot n order) g a =
    let todo : List Act = undoes_lost n order w in
    apart_if w (acts_all n todo (raised n order w)) (may_boot n w) w (goes_step w (Boot n order) g).later
    (λ may later. goes_apart w (acts_all n todo (raised n order w)) n g a later (boot_fine w n order todo a (undone_keyed _ _)) (boot_others w n order todo)) a
step_apart w (BootStops j n order) g a =
    let todo : List Act = undoes_lost n order w in
    let y : World = acts_all n (take j todo) (raised n order w) in
    apart_if w (crashes n y) (may_boot n w) w (goes_step w (BootStops j n order) g).later
    (λ may later. crash_all w n y g a later (boot_fine w n order (take j todo) a (take_keyed j todo _ (undone_keyed _ _))) (boot_others w n order (take j todo))) a
step_apart w (Swaps i n) g a =
    let new : Node = record (w.nodes n) { records = swapped i (w.nodes n).records } in
    let F : Node → Type 0 = λ z. Fine (w.nodes n) z in
    goes_apart w (swaps i n w) n g a (goes_step w (Swaps i n) g).later (subst F (sym (node_same n new w.nodes)) (fine (w.nodes n) new (swap_apart i (w.nodes n) (a.each n)))) (λ m ne. node_other n new w.nodes m ne)

run_apart : (steps : List Step) (w : World) → Good w → Apart w → Apart (run steps w)
run_apart [] w g a = a
run_apart (s ∷ steps) w g a = run_apart steps (happens w s) (goes_step w s g).good (step_apart w s g a)

-- The opening.

branches_serials : (rs : List LogRecord) → branch_serials (branches_of rs) ≡ record_serials rs
branches_serials [] = refl
branches_serials (r ∷ rs) = ap (λ is. r.serial ∷ is) (branches_serials rs)

serial_opened : (o : Opening) → IsAgreeing o → (n : Name) (i : Id) → In i (record_serials (image_at o n).committed) → (i.node ≡ n) × OldIn o i
serial_opened o a n i h =
    let q = serial_in i (image_at o n).committed h in
    let P : Id → Type 0 = λ j. (j.node ≡ n) × OldIn o j in
    subst P q.2 (a.own_committed n q.0 q.1, (a.old_committed n q.0 q.1).serial)

opening_apart : (o : Opening) → IsAgreeing o → Apart (opened o)
opening_apart o a = record {
  each = λ n. (
      let i : Image = image_at o n in
      let h : AreApart (record_serials i.prepared) (record_serials i.committed) = parts_apart (record_serials i.prepared) (record_serials i.committed) (a.distinct n) in
      let P : List Id → Type 0 = λ is. AreApart is (record_serials i.committed) in
      subst P (sym (branches_serials i.prepared)) h);
  own = λ n i h. (serial_opened o a n i h).0;
  old = λ n i h. old_of o i (serial_opened o a n i h).1;
}

pub apart_from : (o : Opening) → IsAgreeing o → (steps : List Step) → Apart (run steps (opened o))
apart_from o a steps = run_apart steps (opened o) (good_opened o a (is_shown o a)) (opening_apart o a)

pub logs_apart : (o : Opening) → IsAgreeing o → (steps : List Step) (n : Name) → HasApartLog (tm_at (run steps (opened o)) n)
logs_apart o a steps n =
    let x : Node = (run steps (opened o)).nodes n in
    apart_distinct (branch_serials x.table) (record_serials x.records) ((apart_from o a steps).each n)

-- the serials of the log that a node leaves
pub left_distinct : (x : Node) → LogApart x → Distinct (log_serials (image_left x))
left_distinct x h =
    let e : branch_serials (branches_of (prepared_records x.table)) ≡ record_serials (prepared_records x.table) = branches_serials (prepared_records x.table) in
    let P : List Id → Type 0 = λ is. AreApart is (record_serials x.records) in
    apart_distinct (record_serials (prepared_records x.table)) (record_serials x.records) (subst P e (crash_apart x h).log)
