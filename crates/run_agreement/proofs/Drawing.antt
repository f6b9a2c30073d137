-- Statements that draw an id: what is drawn and labelled, and then their event.
use Rattle.std.specs.Prelude.{if◌then◌else◌, nat_le, nat_lt, ◌&&◌}
use Rattle.std.specs.Str.{bytes_eq}
use Rattle.std.proofs.Common.{◌≡◌, ℕ, ◌+◌, ◌≤◌, ◌<◌, length, Bool, true, false, List, [], ◌∷◌, Option, Some, None, inl, inr, refl, ap, sym, subst, ◌∙◌, arith}
use Rattle.std.proofs.lemmas.Bool.{leb-false, lt-ltb}
use Rattle.vms_model.specs.Ids.{Id}
use Rattle.vms_model.specs.Limits.{branch_limit}
use Rattle.run_model.specs.transcript_model.Lines as line
use Rattle.run_model.specs.transcript_model.Lines.{Line}
use Rattle.commit_protocol.specs.Messages.{Name}
use Rattle.commit_protocol.specs.Table as table
use Rattle.commit_protocol.specs.Table.{Key, Branch}
use Rattle.commit_protocol.specs.Rows.{Event, Start, Authorise, Begin, row}
use Rattle.commit_protocol.specs.Allowed.{allowed}
use Rattle.commit_protocol.specs.World as protocol
use Rattle.commit_protocol.specs.World.{In, Does, At, StartTrans, AddBranch, StartBranch, happens, done, plan, plan_if, tells_event, begins, draws, labelled, acts_all, tm_at, Step}
use Rattle.commit_protocol.specs.Standing.{HasApartLog}
use Rattle.commit_protocol.proofs.Following.{tables_follow}
use Rattle.commit_protocol.proofs.LogSteps.{logs_apart}
use Rattle.commit_protocol.specs.Opening.{Opening}
use Rattle.commit_protocol.proofs.Lists.{in_slice}
use Rattle.run_model.specs.log_laws.Slots.{size}
use Rattle.run_model.proofs.log_laws.RowSlots.{row_size}
use Rattle.run_model.specs.World as world
use Rattle.run_model.specs.World.{Act, Draws, Labels, Numbers, Label, Node, Shared, acted, shared_after, with_serial, find_label, tm_of}
use Rattle.run_model.specs.Operations.{first_of, refused_if}
use Rattle.run_model.specs.Answers.{Row, told_rows, table_rows, starts, adds, due_after, more_branches}
use Rattle.run_model.specs.Steps.{node_after_rows, shared_after_rows}
use Rattle.run_agreement.specs.Seen.{Face, IsTold}
use Rattle.run_agreement.specs.Following.{Faces, Follows}
use Rattle.run_agreement.proofs.Faces.{put_face, put_here, follows_draw}
use Rattle.run_agreement.proofs.Rows.{standing, rows_match, put_on}
use Rattle.run_agreement.proofs.Telling.{quiet_told, start_told, begin_told}
use Rattle.run_agreement.proofs.Events.{Arrives, IsUpAt, next_is_new, reached_on, tm_is, id_is, alive_at, done_is, fits_after, whole_arrives}

-- Only the count of draws is other.
pub told_drawn : (x : Node) → IsTold [] x → IsTold [] (acted Draws x)
told_drawn x t = record { log = t.log; apart = t.apart; kinds = t.kinds; slots = t.slots; volume = t.volume; there = t.there; back = t.back; units = t.units }

pub arrives_on : (o : Opening) (n : Name) (b : Bool) (z : Node) (t : Shared) (f : Face) (fs : Faces) (p : protocol.World) → Arrives o n b z t (put_face n f fs) p → Arrives o n b z t fs p
arrives_on o n b z t f fs p h = record { steps = h.steps; face = h.face; is = h.is; follows = put_on o n f h.face fs t (protocol.run h.steps p) h.follows; named = h.named; volume = h.volume }

draw_goes : (o : Opening) (n : Name) (x : Node) (s : Shared) (fs : Faces) (p : protocol.World) → IsUpAt o n x s fs p → Follows o (put_face n (standing [] (acted Draws x)) fs) s (draws n p)
draw_goes o n x s fs p h = follows_draw o n (standing [] x) fs s p h.follows h.found

-- a label of a transaction
label_goes : (o : Opening) (l : Label) (fs : Faces) (s : Shared) (p : protocol.World) → l.bid ≡ None → Follows o fs s p → Follows o fs (record s { labels = l ∷ s.labels }) p
label_goes o l fs s p none h = record {
  rack = h.rack;
  nodes = h.nodes;
  sent = h.sent;
  accepted = h.accepted;
  read_only = h.read_only;
  labels = λ k bid i e. elim i [
    | inl same ↦ absurd (let f : None ≡ Some bid = sym none ∙ (ap (λ (y : Label). y.bid) (sym same) ∙ e) in cc)
    | inr old ↦ h.labels k bid old e
  ];
  settled = h.settled;
  given = h.given;
  back = h.back;
}

-- one of an identifier
bid_goes : (o : Opening) (l : Label) (bid : Id) (fs : Faces) (s : Shared) (p : protocol.World) → l.bid ≡ Some bid → Follows o fs s p → Follows o fs (record s { labels = l ∷ s.labels }) (record p { labels = (l.tid, bid) ∷ p.labels })
bid_goes o l bid fs s p is h = record {
  rack = h.rack;
  nodes = h.nodes;
  sent = h.sent;
  accepted = h.accepted;
  read_only = h.read_only;
  labels = λ k b i e. elim i [
    | inl same ↦ inl (
        let f : Some b ≡ Some bid = sym e ∙ (ap (λ (y : Label). y.bid) same ∙ is) in
        let eb : b ≡ bid = cc in
        let et : k.tid ≡ l.tid = ap (λ (y : Label). y.tid) same in
        λ j. (et j, eb j))
    | inr old ↦ inr (h.labels k b old e)
  ];
  settled = h.settled;
  given = h.given;
  back = h.back;
}

numbered_from : (name : List ℕ) (serial : Id) (ls : List Label) (l : Label) → In l (with_serial name serial ls) → (k : Label) × In k ls × (k.tid ≡ l.tid) × (k.bid ≡ l.bid)
numbered_from name serial [] l i = absurd i
numbered_from name serial (k ∷ ks) l i = go (bytes_eq name k.name) i (numbered_from name serial ks l)
  where
    go : (b : Bool) → In l (if b then record k { serial = Some serial } ∷ ks else k ∷ with_serial name serial ks) → (In l (with_serial name serial ks) → (j : Label) × In j ks × (j.tid ≡ l.tid) × (j.bid ≡ l.bid))
        → (j : Label) × In j (k ∷ ks) × (j.tid ≡ l.tid) × (j.bid ≡ l.bid)
    go true h more = elim h [
      | inl e ↦ (k, inl refl, ap (λ (y : Label). y.tid) (sym e), ap (λ (y : Label). y.bid) (sym e))
      | inr old ↦ (l, inr old, refl, refl)
    ]
    go false h more = elim h [
      | inl e ↦ (k, inl refl, ap (λ (y : Label). y.tid) (sym e), ap (λ (y : Label). y.bid) (sym e))
      | inr old ↦ let m = more old in (m.0, inr m.1, m.2, m.3)
    ]

-- the latest serial of a label
number_goes : (o : Opening) (label : List ℕ) (serial : Id) (fs : Faces) (s : Shared) (p : protocol.World) → Follows o fs s p → Follows o fs (record s { labels = with_serial label serial s.labels }) p
number_goes o label serial fs s p h = record {
  rack = h.rack;
  nodes = h.nodes;
  sent = h.sent;
  accepted = h.accepted;
  read_only = h.read_only;
  labels = λ l bid i e. (
      let k = numbered_from label serial s.labels l i in
      let P : Id → Type 0 = λ t. In (t, bid) p.labels in
      subst P k.2 (h.labels k.0 bid k.1 (k.3 ∙ e)));
  settled = h.settled;
  given = h.given;
  back = h.back;
}

-- a label that is found was made
pub found_label : (name : List ℕ) (ls : List Label) (l : Label) → find_label name ls ≡ Some l → In l ls
found_label name [] l e = absurd cc
found_label name (k ∷ ks) l e = go (bytes_eq name k.name) (found_label name ks l) e
  where
    go : (b : Bool) → (find_label name ks ≡ Some l → In l ks) → (let o : Option Label = if b then Some k else find_label name ks in o) ≡ Some l → In l (k ∷ ks)
    go true more h = let same : k ≡ l = cc in inl (sym same)
    go false more h = inr (more h)

pub labelled_in : (node name : List ℕ) (ls : List Label) (l : Label) → world.labelled node name ls ≡ Some l → In l ls
labelled_in node name ls l e = go (find_label name ls) refl e
  where
    its_node : (k : Label) (b : Bool) → (let o : Option Label = if b then Some k else None in o) ≡ Some l → k ≡ l
    its_node k true h = cc
    its_node k false h = absurd cc

    go : (o : Option Label) → find_label name ls ≡ o → (let d : Option Label = elim o [ Some k ↦ (if bytes_eq node k.node then Some k else None) | None ↦ None ] in d) ≡ Some l → In l ls
    go None f h = absurd cc
    go (Some k) f h = let same = its_node k (bytes_eq node k.node) h in found_label name ls l (f ∙ ap (λ d. Some d) same)

-- Room for a branch that begins.

pub record HasRoom (x : Node) : Type 0 where
  pub few : length x.volatile.branches < 64
  pub free : length x.volatile.branches + length x.volatile.records < length x.durable.log

pub has_room : (x : Node) → more_branches x ≡ None → HasRoom x
has_room x e = by (nat_le branch_limit (length x.volatile.branches)) (nat_le (length x.durable.log) (length x.volatile.branches + length x.volatile.records)) refl refl e
  where
    by : (a b : Bool) → nat_le branch_limit (length x.volatile.branches) ≡ a → nat_le (length x.durable.log) (length x.volatile.branches + length x.volatile.records) ≡ b
        → first_of (refused_if a (line.QuotaExceeded line.Branches branch_limit)) (refused_if b (line.QuotaExceeded line.Slots (length x.durable.log))) ≡ None → HasRoom x
    by true b f g k = absurd cc
    by false true f g k = absurd cc
    by false false f g k = record { few = leb-false branch_limit (length x.volatile.branches) f; free = leb-false (length x.durable.log) (length x.volatile.branches + length x.volatile.records) g }

may_begin : (x : Node) → HasRoom x → IsTold [] x → (nat_lt (length x.volatile.branches) 64 && nat_lt (length x.volatile.branches + length x.volatile.records) 512) ≡ true
may_begin x r t =
    let one : nat_lt (length x.volatile.branches) 64 ≡ true = lt-ltb (length x.volatile.branches) 64 r.few in
    let free = r.free in
    let slots = t.slots in
    let two : nat_lt (length x.volatile.branches + length x.volatile.records) 512 ≡ true = lt-ltb (length x.volatile.branches + length x.volatile.records) 512 (omega arith) in
    rw (one, two) refl

-- there is room after the row
fits_more : (x : Node) (e : Event) → HasRoom x → IsTold [] x → Rattle.run_model.specs.log_laws.Slots.branches_added e ≡ 1 → size (table.after (row (tm_of x) e) (tm_of x)) ≤ length x.durable.log
fits_more x e r t one =
    let grown = row_size (tm_of x) e t.apart in
    let P : ℕ → Type 0 = λ m. size (table.after (row (tm_of x) e) (tm_of x)) ≤ size (tm_of x) + m in
    let more : size (table.after (row (tm_of x) e) (tm_of x)) ≤ size (tm_of x) + 1 = subst P one grown in
    let free = r.free in
    omega arith

-- what a node knows once an id is drawn
drawn_tm : (o : Opening) (n : Name) (x : Node) (s : Shared) (fs : Faces) (p : protocol.World) → IsUpAt o n x s fs p → tm_at (draws n p) n ≡ tm_of x
drawn_tm o n x s fs p h =
    let e = (draw_goes o n x s fs p h).nodes n (standing [] (acted Draws x)) (put_here n (standing [] (acted Draws x)) fs) in
    λ i. record { node = sym h.named i; table = (e i).table; records = (e i).records }

-- no serial stands twice in its log after such a step
apart_begun : (o : Opening) (n : Name) (x : Node) (s : Shared) (fs : Faces) (p : protocol.World) (st : Step) (base : protocol.World) (todo : List table.Act) → IsUpAt o n x s fs p → happens p st ≡ acts_all n todo base → tm_at base n ≡ tm_of x → HasApartLog (table.after todo (tm_of x))
apart_begun o n x s fs p st base todo h is same =
    let r = reached_on o p (st ∷ []) h.reached in
    let law = logs_apart o r.agrees r.steps n in
    let P : protocol.World → Type 0 = λ q. HasApartLog (tm_at q n) in
    let Q : table.Tm → Type 0 = λ t. HasApartLog t in
    subst Q (tables_follow base n todo ∙ ap (table.after todo) same) (subst P (sym r.is ∙ is) law)

-- The rows of such a statement, whole.

abbrev pub WholeGoes : Opening → Name → List Row → Node → Shared → Type 0
WholeGoes o n rs x s = (b : Bool) (fs : Faces) (p : protocol.World) → IsUpAt o n x s fs p → Arrives o n b (node_after_rows rs x) (shared_after_rows rs s) fs p

pub start_goes : (o : Opening) (n : Name) (x : Node) (s : Shared) (label : List ℕ) (seconds : Option ℕ) → HasRoom x
    → WholeGoes o n (told_rows s x (starts x label seconds)) x s
start_goes o n x s label seconds room b fs p h =
    let id : Id = world.next_id x in
    let due : Option ℕ = due_after x seconds in
    let e : Event = Start id due in
    let y : Node = acted Draws x in
    let l : Label = record { name = label; node = x.name; tid = id; bid = None; serial = Some id } in
    let t : Shared = record s { labels = l ∷ s.labels } in
    let f1 : Face = standing [] y in
    let v : Id → Event = λ i. Start i due in
    let may : allowed (tm_of x) e ≡ true = may_begin x room h.told in
    let is : happens p (Does (At n (StartTrans due))) ≡ acts_all n (row (tm_of x) e) (draws n p) =
    ap (λ i. done p (tells_event n p (draws n p) (v i))) (id_is o n x s fs p h)
    ∙ (ap (λ c. done p (plan_if c n p (draws n p) e)) (ap (λ m. allowed m e) (tm_is o n x s fs p h) ∙ may)
    ∙ (ap (λ m. done p (plan n (draws n p) (row m e))) (tm_is o n x s fs p h) ∙ done_is p (draws n p) n (row (tm_of x) e) (alive_at o n x s fs p h))) in
    let rs : List Row = table_rows (row (tm_of x) e) t y in
    arrives_on o n b (node_after_rows rs y) (shared_after_rows rs t) f1 fs p
    (whole_arrives o n b rs (row (tm_of x) e) (Does (At n (StartTrans due))) y t (put_face n f1 fs) p (draws n p) (rows_match (row (tm_of x) e) [] y t (start_told id due y (told_drawn x h.told) h.room (next_is_new o n x s fs p h id) (apart_begun o n x s fs p (Does (At n (StartTrans due))) (draws n p) (row (tm_of x) e) h is (drawn_tm o n x s fs p h)))) (label_goes o l (put_face n f1 fs) s (draws n p) refl (draw_goes o n x s fs p h))
    (put_here n f1 fs) (told_drawn x h.told) h.up h.quiet h.named h.volume (fits_more x e room h.told refl) is)

pub add_goes : (o : Opening) (n : Name) (x : Node) (s : Shared) (other new : List ℕ) (d : Branch) → allowed (tm_of x) (Authorise d.key.tid (world.next_id x)) ≡ true
    → WholeGoes o n (told_rows s x (adds x other new d)) x s
add_goes o n x s other new d may b fs p h =
    let id : Id = world.next_id x in
    let tid : Id = d.key.tid in
    let e : Event = Authorise tid id in
    let y : Node = acted Draws x in
    let l : Label = record { name = new; node = other; tid = tid; bid = Some id; serial = None } in
    let t : Shared = record s { labels = l ∷ s.labels } in
    let f1 : Face = standing [] y in
    let base : protocol.World = labelled n p tid in
    let v : Id → Event = λ i. Authorise tid i in
    let is : happens p (Does (At n (AddBranch tid))) ≡ acts_all n (row (tm_of x) e) base =
    ap (λ i. done p (tells_event n p base (v i))) (id_is o n x s fs p h)
    ∙ (ap (λ c. done p (plan_if c n p base e)) (ap (λ m. allowed m e) (tm_is o n x s fs p h) ∙ may)
    ∙ (ap (λ m. done p (plan n base (row m e))) (tm_is o n x s fs p h) ∙ done_is p base n (row (tm_of x) e) (alive_at o n x s fs p h))) in
    let rs : List Row = table_rows (row (tm_of x) e) t y in
    let P : Id → Type 0 = λ i. Follows o (put_face n f1 fs) t (record (draws n p) { labels = (tid, i) ∷ p.labels }) in
    arrives_on o n b (node_after_rows rs y) (shared_after_rows rs t) f1 fs p
    (whole_arrives o n b rs (row (tm_of x) e) (Does (At n (AddBranch tid))) y t (put_face n f1 fs) p base (rows_match (row (tm_of x) e) [] y t (quiet_told e y (told_drawn x h.told) h.room tt tt))
    (subst P (sym (id_is o n x s fs p h)) (bid_goes o l id (put_face n f1 fs) s (draws n p) refl (draw_goes o n x s fs p h)))
    (put_here n f1 fs) (told_drawn x h.told) h.up h.quiet h.named h.volume (fits_after o n x s fs p e h refl) is)

pub begin_goes : (o : Opening) (n : Name) (x : Node) (s : Shared) (l : Label) (bid : Id) → HasRoom x → In l s.labels → l.bid ≡ Some bid
    → WholeGoes o n (told_rows s x (record { before = Draws ∷ Numbers l.name (world.next_id x) ∷ []; event = Begin l.tid (world.next_id x) bid })) x s
begin_goes o n x s l bid room there named b fs p h =
    let id : Id = world.next_id x in
    let e : Event = Begin l.tid id bid in
    let y : Node = acted Draws x in
    let t : Shared = record s { labels = with_serial l.name id s.labels } in
    let f1 : Face = standing [] y in
    let base : protocol.World = draws n p in
    let at = in_slice p.labels (l.tid, bid) (h.follows.labels l bid there named) in
    let v : Id → Event = λ i. Begin l.tid i bid in
    let may : allowed (tm_of x) e ≡ true = may_begin x room h.told in
    let is : happens p (Does (At n (StartBranch at.0))) ≡ acts_all n (row (tm_of x) e) base =
    ap (λ d. done p (begins n p d)) at.1
    ∙ (ap (λ i. done p (tells_event n p base (v i))) (id_is o n x s fs p h)
    ∙ (ap (λ c. done p (plan_if c n p base e)) (ap (λ m. allowed m e) (tm_is o n x s fs p h) ∙ may)
    ∙ (ap (λ m. done p (plan n base (row m e))) (tm_is o n x s fs p h) ∙ done_is p base n (row (tm_of x) e) (alive_at o n x s fs p h)))) in
    let rs : List Row = table_rows (row (tm_of x) e) t y in
    arrives_on o n b (node_after_rows rs y) (shared_after_rows rs t) f1 fs p
    (whole_arrives o n b rs (row (tm_of x) e) (Does (At n (StartBranch at.0))) y t (put_face n f1 fs) p base (rows_match (row (tm_of x) e) [] y t (begin_told l.tid id bid y (told_drawn x h.told) h.room (next_is_new o n x s fs p h l.tid) (apart_begun o n x s fs p (Does (At n (StartBranch at.0))) base (row (tm_of x) e) h is (drawn_tm o n x s fs p h)))) (number_goes o l.name id (put_face n f1 fs) s (draws n p) (draw_goes o n x s fs p h))
    (put_here n f1 fs) (told_drawn x h.told) h.up h.quiet h.named h.volume (fits_more x e room h.told refl) is)
