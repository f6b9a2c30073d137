-- What agreement sees of an act, and that each act that may be done keeps what must hold.
use Rattle.std.proofs.lemmas.Bool.{cases_Bool}
use mathlib.Core.Path.{fun_ext}
use Rattle.std.specs.Prelude.{if◌then◌else◌}
use Rattle.std.proofs.Common.{◌≡◌, ◌≢◌, false, List, [], ◌∷◌, ◌++◌, Option, Some, None, ◌⊎◌, inl, inr, refl, ap, sym, subst, ◌∙◌}
use Rattle.vms_model.specs.Ids.{Id}
use Rattle.vms_model.specs.Transactions.{Commit as ToCommit, Abort as ToAbort, Aborted}
use Rattle.commit_protocol.specs.Messages.{Name, Yes, ReadOnly, LogRecord, same_name}
use Rattle.commit_protocol.specs.Table.{Key, Branch, Child, Act, Notes, Accepts, Prepares, Settles, Leaves, Acknowledges, Releases, Undoes, Sends, Prints, first, key_of, child, find, put, cut, cut_keys, without_rm, nothing_left, keep_record, holds, released, acknowledge, release, table_after, records_after}
use Rattle.commit_protocol.specs.World.{Node, World, In, at_node, lost_after, node_after, touched, acts}
use Rattle.commit_protocol.specs.Agreement.{Running, phase_of, Status, View, view, IsRunning, IsReady, IsCommitted, IsAccepted, Commits, IsDead, Waits, AreOld}
use Rattle.commit_protocol.proofs.Lists.{same_name-eq, same_name-ne, cases_name, in_left, in_parts, set_at, told_key, find-put, find-put_other, find-cut, find-cut_other}
use Rattle.commit_protocol.proofs.Invariant.{Says, LacksBid, later_trans, Noted, Inv, Later, Kept, later_by}
use Rattle.commit_protocol.proofs.Quiet.{with_records, records_keep}
use Rattle.commit_protocol.proofs.Settling.{settles, abort_keeps, abort_ready_keeps, commit_keeps, undo_keeps}
use Rattle.commit_protocol.proofs.Sending.{sends, notes, sends_keeps, notes_keeps}
use Rattle.commit_protocol.proofs.Deciding.{decides_keeps, Records}
use Rattle.commit_protocol.proofs.Voting.{prepared, prepares, prepares_keeps, leaves, leaves_keeps, with_records_keeps, Taken}
use Rattle.commit_protocol.proofs.Beginning.{with_child, accepts, accepts_keeps}

pub node_same : (n : Name) (new : Node) (nodes : Name → Node) → at_node n new nodes n ≡ new
node_same n new nodes = rw (same_name-eq n n refl) refl

pub node_other : (n : Name) (new : Node) (nodes : Name → Node) (m : Name) → (m ≡ n → ⊥) → at_node n new nodes m ≡ nodes m
node_other n new nodes m ne = rw (same_name-ne m n ne) refl

-- what an act does to what agreement sees
abbrev pub records_at : Name → List LogRecord → (Name → List LogRecord) → Name → List LogRecord
records_at n rs all m = if same_name m n then rs else all m

abbrev pub lost_at : Name → List Key → (Name → List Key) → Name → List Key
lost_at n ks all m = if same_name m n then ks else all m

abbrev pub acted : Name → Act → View → View
acted n (Notes b) v = notes v b
acted n (Accepts b c) v = accepts v b c
acted n (Prepares b) v = prepares v b
acted n (Settles k o why None) v = settles v v.lost k o
acted n (Settles k o why (Some r)) v = record v { at = set_at k None v.at; records = records_at n (v.records n ++ r ∷ []) v.records; settled = (k, o) ∷ v.settled }
acted n (Leaves k) v = leaves v k
acted n (Acknowledges k) v = with_records v (records_at n (acknowledge k (v.records n)) v.records)
acted n (Releases s x) v = with_records v (records_at n (release s x (v.records n)) v.records)
acted n (Undoes k) v = settles v (lost_at n (cut_keys k (v.lost n)) v.lost) k ToAbort
acted n (Sends m) v = sends v m
acted n (Prints l) v = v

pub at_there : (n : Name) (a : Act) (nodes : Name → Node) (k : Key) → k.serial.node ≡ n → find k (touched n a nodes k.serial.node).table ≡ find k (table_after a (nodes n).table)
at_there n a nodes k e =
    let P : Name → Type 0 = λ m. find k (touched n a nodes m).table ≡ find k (table_after a (nodes n).table) in
    subst P (sym e) (ap (λ (x : Node). find k x.table) (node_same n (node_after a (nodes n)) nodes))

pub at_elsewhere : (n : Name) (a : Act) (nodes : Name → Node) (k : Key) → (k.serial.node ≡ n → ⊥) → find k (touched n a nodes k.serial.node).table ≡ find k (nodes k.serial.node).table
at_elsewhere n a nodes k ne =
    ap (λ (x : Node). find k x.table) (node_other n (node_after a (nodes n)) nodes k.serial.node ne)

abbrev pub seen_at : (Name → Node) → Key → Option Branch
seen_at nodes k = find k (nodes k.serial.node).table

pub at_put : (n : Name) (a : Act) (b : Branch) (nodes : Name → Node) → table_after a (nodes n).table ≡ put b (nodes n).table → b.key.serial.node ≡ n → (k : Key) → seen_at (touched n a nodes) k ≡ set_at b.key (Some b) (seen_at nodes) k
at_put n a b nodes is home k =
    elim (told_key b.key k) [
      | inl e ↦
          let here : k.serial.node ≡ n = ap (λ (x : Key). x.serial.node) (sym e.1) ∙ home in
          let found : find k (put b (nodes n).table) ≡ Some b = (let P : Key → Type 0 = λ x. find x (put b (nodes n).table) ≡ Some b in subst P e.1 (find-put b (nodes n).table)) in
          rw (e.0) (at_there n a nodes k here ∙ (ap (λ (t : List Branch). find k t) is ∙ found))
      | inr e ↦ rw (e.0) (elim (cases_name k.serial.node n) [
        | inl here ↦ at_there n a nodes k here ∙ (ap (λ (t : List Branch). find k t) is ∙ (find-put_other k b (nodes n).table e.1 ∙ ap (λ (m : Name). find k (nodes m).table) (sym here)))
        | inr away ↦ at_elsewhere n a nodes k away
      ])
    ]

pub at_cut : (n : Name) (a : Act) (j : Key) (nodes : Name → Node) → table_after a (nodes n).table ≡ cut j (nodes n).table → j.serial.node ≡ n → (k : Key) → seen_at (touched n a nodes) k ≡ set_at j None (seen_at nodes) k
at_cut n a j nodes is home k =
    elim (told_key j k) [
      | inl e ↦
          let here : k.serial.node ≡ n = ap (λ (x : Key). x.serial.node) (sym e.1) ∙ home in
          let found : find k (cut j (nodes n).table) ≡ None = (let P : Key → Type 0 = λ x. find x (cut j (nodes n).table) ≡ None in subst P e.1 (find-cut j (nodes n).table)) in
          rw (e.0) (at_there n a nodes k here ∙ (ap (λ (t : List Branch). find k t) is ∙ found))
      | inr e ↦ rw (e.0) (elim (cases_name k.serial.node n) [
        | inl here ↦ at_there n a nodes k here ∙ (ap (λ (t : List Branch). find k t) is ∙ (find-cut_other j k (nodes n).table e.1 ∙ ap (λ (m : Name). find k (nodes m).table) (sym here)))
        | inr away ↦ at_elsewhere n a nodes k away
      ])
    ]

pub at_same : (n : Name) (a : Act) (nodes : Name → Node) → table_after a (nodes n).table ≡ (nodes n).table → (k : Key) → seen_at (touched n a nodes) k ≡ seen_at nodes k
at_same n a nodes is k =
    elim (cases_name k.serial.node n) [
      | inl here ↦ at_there n a nodes k here ∙ (ap (λ (t : List Branch). find k t) is ∙ ap (λ (m : Name). find k (nodes m).table) (sym here))
      | inr away ↦ at_elsewhere n a nodes k away
    ]

-- the rest of a node stays
pub part_same : {A : Type 0} (part : Node → A) (n : Name) (new : Node) (nodes : Name → Node) → part new ≡ part (nodes n) → (m : Name) → part (at_node n new nodes m) ≡ part (nodes m)
part_same part n new nodes e m =
    elim (cases_name m n) [
      | inl here ↦ let P : Name → Type 0 = λ x. part (at_node n new nodes x) ≡ part (nodes x) in subst P (sym here) (ap part (node_same n new nodes) ∙ e)
      | inr away ↦ ap part (node_other n new nodes m away)
    ]

pub records_put : (n : Name) (new : Node) (nodes : Name → Node) (m : Name) → (at_node n new nodes m).records ≡ records_at n new.records (λ x. (nodes x).records) m
records_put n new nodes m =
    elim (cases_name m n) [
      | inl here ↦ rw (same_name-eq m n here) refl
      | inr away ↦ rw (same_name-ne m n away) refl
    ]

pub lost_put : (n : Name) (new : Node) (nodes : Name → Node) (m : Name) → (at_node n new nodes m).lost ≡ lost_at n new.lost (λ x. (nodes x).lost) m
lost_put n new nodes m =
    elim (cases_name m n) [
      | inl here ↦ rw (same_name-eq m n here) refl
      | inr away ↦ rw (same_name-ne m n away) refl
    ]

pub touched_records : (n : Name) (a : Act) (nodes : Name → Node) → records_after a (nodes n).records ≡ (nodes n).records → (m : Name) → (touched n a nodes m).records ≡ (nodes m).records
touched_records n a nodes e m = part_same (λ x. x.records) n (node_after a (nodes n)) nodes e m

pub touched_clock : (n : Name) (a : Act) (nodes : Name → Node) (m : Name) → (let c : Status = record { up = (touched n a nodes m).up; boot = (touched n a nodes m).boot; seq = (touched n a nodes m).seq } in c) ≡ record { up = (nodes m).up; boot = (nodes m).boot; seq = (nodes m).seq }
touched_clock n a nodes m =
    let part : Node → Status = λ x. record { up = x.up; boot = x.boot; seq = x.seq } in
    part_same part n (node_after a (nodes n)) nodes refl m

pub touched_lost : (n : Name) (a : Act) (nodes : Name → Node) → lost_after a (nodes n).lost ≡ (nodes n).lost → (m : Name) → (touched n a nodes m).lost ≡ (nodes m).lost
touched_lost n a nodes e m = part_same (λ x. x.lost) n (node_after a (nodes n)) nodes e m

-- the node that an act speaks of is this one
abbrev pub AtHome : Name → Act → Type 0
AtHome n (Notes b) = b.key.serial.node ≡ n
AtHome n (Accepts b c) = b.key.serial.node ≡ n
AtHome n (Prepares b) = b.key.serial.node ≡ n
AtHome n (Settles k o why r) = k.serial.node ≡ n
AtHome n (Leaves k) = k.serial.node ≡ n
AtHome n (Acknowledges k) = Unit {0}
AtHome n (Releases s x) = Unit {0}
AtHome n (Undoes k) = k.serial.node ≡ n
AtHome n (Sends m) = Unit {0}
AtHome n (Prints l) = Unit {0}

pub view_acts : (n : Name) (a : Act) (w : World) → AtHome n a → view (acts n a w) ≡ acted n a (view w)
view_acts n (Notes b) w h =
    let pa = fun_ext (at_put n (Notes b) b w.nodes refl h) in
    let pr = fun_ext (touched_records n (Notes b) w.nodes refl) in
    let pc = fun_ext (touched_clock n (Notes b) w.nodes) in
    let pl = fun_ext (touched_lost n (Notes b) w.nodes refl) in
    λ i. record { there = w.rack; at = pa i; records = pr i; status = pc i; sent = w.sent; accepted = w.accepted; read_only = w.read_only; settled = w.settled; shown = w.shown; lost = pl i; made = w.made }
view_acts n (Accepts b c) w h =
    let pa = fun_ext (at_put n (Accepts b c) (with_child b c) w.nodes refl h) in
    let pr = fun_ext (touched_records n (Accepts b c) w.nodes refl) in
    let pc = fun_ext (touched_clock n (Accepts b c) w.nodes) in
    let pl = fun_ext (touched_lost n (Accepts b c) w.nodes refl) in
    λ i. record { there = w.rack; at = pa i; records = pr i; status = pc i; sent = w.sent; accepted = child b.key.tid c.serial ∷ w.accepted; read_only = w.read_only; settled = w.settled; shown = w.shown; lost = pl i; made = w.made }
view_acts n (Prepares b) w h =
    let pa = fun_ext (at_put n (Prepares b) (prepared b) w.nodes refl h) in
    let pr = fun_ext (touched_records n (Prepares b) w.nodes refl) in
    let pc = fun_ext (touched_clock n (Prepares b) w.nodes) in
    let pl = fun_ext (touched_lost n (Prepares b) w.nodes refl) in
    λ i. record { there = w.rack; at = pa i; records = pr i; status = pc i; sent = w.sent; accepted = w.accepted; read_only = w.read_only; settled = w.settled; shown = w.shown; lost = pl i; made = w.made }
view_acts n (Settles k o why None) w h =
    let pa = fun_ext (at_cut n (Settles k o why None) k w.nodes refl h) in
    let pr = fun_ext (touched_records n (Settles k o why None) w.nodes refl) in
    let pc = fun_ext (touched_clock n (Settles k o why None) w.nodes) in
    let pl = fun_ext (touched_lost n (Settles k o why None) w.nodes refl) in
    λ i. record { there = w.rack; at = pa i; records = pr i; status = pc i; sent = w.sent; accepted = w.accepted; read_only = w.read_only; settled = (k, o) ∷ w.settled; shown = w.shown; lost = pl i; made = w.made }
view_acts n (Settles k o why (Some r)) w h =
    let pa = fun_ext (at_cut n (Settles k o why (Some r)) k w.nodes refl h) in
    let pr = fun_ext (records_put n (node_after (Settles k o why (Some r)) (w.nodes n)) w.nodes) in
    let pc = fun_ext (touched_clock n (Settles k o why (Some r)) w.nodes) in
    let pl = fun_ext (touched_lost n (Settles k o why (Some r)) w.nodes refl) in
    λ i. record { there = w.rack; at = pa i; records = pr i; status = pc i; sent = w.sent; accepted = w.accepted; read_only = w.read_only; settled = (k, o) ∷ w.settled; shown = w.shown; lost = pl i; made = w.made }
view_acts n (Leaves k) w h =
    let pa = fun_ext (at_cut n (Leaves k) k w.nodes refl h) in
    let pr = fun_ext (touched_records n (Leaves k) w.nodes refl) in
    let pc = fun_ext (touched_clock n (Leaves k) w.nodes) in
    let pl = fun_ext (touched_lost n (Leaves k) w.nodes refl) in
    λ i. record { there = w.rack; at = pa i; records = pr i; status = pc i; sent = w.sent; accepted = w.accepted; read_only = k ∷ w.read_only; settled = w.settled; shown = w.shown; lost = pl i; made = w.made }
view_acts n (Acknowledges k) w h =
    let pa = fun_ext (at_same n (Acknowledges k) w.nodes refl) in
    let pr = fun_ext (records_put n (node_after (Acknowledges k) (w.nodes n)) w.nodes) in
    let pc = fun_ext (touched_clock n (Acknowledges k) w.nodes) in
    let pl = fun_ext (touched_lost n (Acknowledges k) w.nodes refl) in
    λ i. record { there = w.rack; at = pa i; records = pr i; status = pc i; sent = w.sent; accepted = w.accepted; read_only = w.read_only; settled = w.settled; shown = w.shown; lost = pl i; made = w.made }
view_acts n (Releases s x) w h =
    let pa = fun_ext (at_same n (Releases s x) w.nodes refl) in
    let pr = fun_ext (records_put n (node_after (Releases s x) (w.nodes n)) w.nodes) in
    let pc = fun_ext (touched_clock n (Releases s x) w.nodes) in
    let pl = fun_ext (touched_lost n (Releases s x) w.nodes refl) in
    λ i. record { there = w.rack; at = pa i; records = pr i; status = pc i; sent = w.sent; accepted = w.accepted; read_only = w.read_only; settled = w.settled; shown = w.shown; lost = pl i; made = w.made }
view_acts n (Undoes k) w h =
    let pa = fun_ext (at_cut n (Undoes k) k w.nodes refl h) in
    let pr = fun_ext (touched_records n (Undoes k) w.nodes refl) in
    let pc = fun_ext (touched_clock n (Undoes k) w.nodes) in
    let pl = fun_ext (lost_put n (node_after (Undoes k) (w.nodes n)) w.nodes) in
    λ i. record { there = w.rack; at = pa i; records = pr i; status = pc i; sent = w.sent; accepted = w.accepted; read_only = w.read_only; settled = (k, ToAbort) ∷ w.settled; shown = w.shown; lost = pl i; made = w.made }
view_acts n (Sends m) w h = refl
view_acts n (Prints l) w h = refl

pub records_here : (n : Name) (rs : List LogRecord) (all : Name → List LogRecord) → records_at n rs all n ≡ rs
records_here n rs all = rw (same_name-eq n n refl) refl

pub records_away : (n : Name) (rs : List LogRecord) (all : Name → List LogRecord) (m : Name) → (m ≡ n → ⊥) → records_at n rs all m ≡ all m
records_away n rs all m ne = rw (same_name-ne m n ne) refl

pub lost_here : (n : Name) (ks : List Key) (all : Name → List Key) → lost_at n ks all n ≡ ks
lost_here n ks all = rw (same_name-eq n n refl) refl

pub lost_away : (n : Name) (ks : List Key) (all : Name → List Key) (m : Name) → (m ≡ n → ⊥) → lost_at n ks all m ≡ all m
lost_away n ks all m ne = rw (same_name-ne m n ne) refl

pub in_cut_keys : (k : Key) (ls : List Key) (x : Key) → In x (cut_keys k ls) → (k ≢ x) × In x ls
in_cut_keys k [] x h = absurd h
in_cut_keys k (j ∷ js) x h =
    elim (told_key j k) [
      | inl e ↦ let h' : In x (cut_keys k js) = rw (e.0) at h in (let q = in_cut_keys k js x h' in q.0, inr (in_cut_keys k js x h').1)
      | inr e ↦ let h' : In x (j ∷ cut_keys k js) = rw (e.0) at h in elim h' [
        | inl z ↦ ((λ q. e.1 (sym z ∙ sym q)), inl z)
        | inr z ↦ (let q = in_cut_keys k js x z in q.0, inr (in_cut_keys k js x z).1)
      ]
    ]

-- when an act may be done
pub record Voted (v : View) (n : Name) (k : Key) (r : Option LogRecord) : Type 0 where
  pub tid : Id
  pub branch : Branch
  pub recs : Name → List LogRecord
  pub key : k ≡ first tid
  pub at : v.at k ≡ Some branch
  pub runs : phase_of branch.state ≡ Running
  pub votes : (c : Child) → In c branch.accepted → (c.vote ≡ Some Yes) ⊎ (c.vote ≡ Some ReadOnly)
  pub is : recs ≡ (acted n (Settles k ToCommit Aborted r) v).records
  pub records : Records v branch tid recs

abbrev pub May : Name → Act → View → Type 0
May n (Notes b) v = IsRunning v b.key × (phase_of b.state ≡ Running) × Noted v b
May n (Accepts b c) v = (v.at b.key ≡ Some b) × (phase_of b.state ≡ Running) × (b.key ≡ first b.key.tid) × AreOld v (child b.key.tid c.serial) × (c.vote ≡ None) × LacksBid c.bid b.accepted
May n (Prepares b) v = (v.at b.key ≡ Some b) × (phase_of b.state ≡ Running) × IsAccepted v b.key
May n (Settles k ToAbort why None) v = IsRunning v k ⊎ (IsReady v k × IsDead v k.tid)
May n (Settles k ToAbort why (Some r)) v = ⊥
May n (Settles k ToCommit why None) v = (IsReady v k × Commits v k.tid) ⊎ Voted v n k None
May n (Settles k ToCommit why (Some r)) v = (IsReady v k × Commits v k.tid × (r.tid ≡ k.tid) × (r.waiting ≡ [])) ⊎ Voted v n k (Some r)
May n (Leaves k) v = IsRunning v k
May n (Acknowledges k) v = IsCommitted v k × Taken v k (records_at n (acknowledge k (v.records n)) v.records)
May n (Releases s x) v = Unit {0}
May n (Prints l) v = Unit {0}
May n (Undoes k) v = In k (v.lost n) × ((m : Name) (x : Key) → In x (v.lost m) → (m ≡ n → ⊥) → k ≢ x)
May n (Sends m) v = Says v m.kind m.to (key_of m) × AreOld v (key_of m)

pub voted_keeps : (n : Name) (k : Key) (r : Option LogRecord) (v : View) → Inv v → Voted v n k r → Kept v (acted n (Settles k ToCommit Aborted r) v)
voted_keeps n k None v i h =
    let P : Key → Type 0 = λ x. v.at x ≡ Some h.branch in
    let q = decides_keeps v h.tid h.branch h.recs i (subst P h.key h.at) h.runs h.votes h.records in
    let Q : Key → (Name → List LogRecord) → Type 0 = λ x rs. Kept v (record v { at = set_at x None v.at; records = rs; settled = (x, ToCommit) ∷ v.settled }) in
    let R : Key → Type 0 = λ x. Q x h.recs in let S : (Name → List LogRecord) → Type 0 = λ rs. Q k rs in
    subst S h.is (subst R (sym h.key) q)
voted_keeps n k (Some r) v i h =
    let P : Key → Type 0 = λ x. v.at x ≡ Some h.branch in
    let q = decides_keeps v h.tid h.branch h.recs i (subst P h.key h.at) h.runs h.votes h.records in
    let Q : Key → (Name → List LogRecord) → Type 0 = λ x rs. Kept v (record v { at = set_at x None v.at; records = rs; settled = (x, ToCommit) ∷ v.settled }) in
    let R : Key → Type 0 = λ x. Q x h.recs in let S : (Name → List LogRecord) → Type 0 = λ rs. Q k rs in
    subst S h.is (subst R (sym h.key) q)

-- a record that waits for no serial is added, of a committed transaction
pub adds_keeps : (n : Name) (r : LogRecord) (v : View) → Inv v → Commits v r.tid → r.waiting ≡ [] → Kept v (with_records v (records_at n (v.records n ++ r ∷ []) v.records))
adds_keeps n r v i c none =
    let recs : Name → List LogRecord = records_at n (v.records n ++ r ∷ []) v.records in
    let w : View = with_records v recs in
    let from : (m : Name) (q : LogRecord) → In q (recs m) → In q (v.records m) ⊎ (q ≡ r) = λ m q h. elim (cases_name m n) [
      | inl e ↦ let P : Name → Type 0 = λ x. In q (recs x) in
          let h' : In q (v.records n ++ r ∷ []) = (let T : List LogRecord → Type 0 = λ x. In q x in subst T (records_here n (v.records n ++ r ∷ []) v.records) (subst P e h)) in
          elim (in_parts q (v.records n) (r ∷ []) h') [
            | inl y ↦ inl (let Q : Name → Type 0 = λ x. In q (v.records x) in subst Q (sym e) y)
            | inr y ↦ elim y [ inl z ↦ inr z | inr z ↦ absurd z ]
          ]
      | inr e ↦ let T : List LogRecord → Type 0 = λ x. In q x in inl (subst T (records_away n (v.records n ++ r ∷ []) v.records m e) h)
    ] in
    let kept : (m : Name) (q : LogRecord) → In q (v.records m) → In q (recs m) = λ m q h. elim (cases_name m n) [
      | inl e ↦ let Q : Name → Type 0 = λ x. In q (v.records x) in let P : Name → Type 0 = λ x. In q (recs x) in
          let T : List LogRecord → Type 0 = λ x. In q x in
          subst P (sym e) (subst T (sym (records_here n (v.records n ++ r ∷ []) v.records)) (in_left q (v.records n) (r ∷ []) (subst Q e h)))
      | inr e ↦ let T : List LogRecord → Type 0 = λ x. In q x in subst T (sym (records_away n (v.records n ++ r ∷ []) v.records m e)) h
    ] in
    let l : Later v w = later_by v w (λ n h. h) (λ x h. h) (λ x q h. h) (λ x h. h) refl refl refl (λ x h. inl h) (λ u h. h.undecided) (λ u h. h.commits)
    (λ m x idle h. elim (from m h.0 h.1) [
      | inl o ↦ (h.0, o, h.2, h.3)
      | inr o ↦ absurd (let T : List Id → Type 0 = λ y. In x.serial y in subst T (ap (λ (y : LogRecord). y.waiting) o ∙ none) h.3)
    ]) in
    records_keep v recs i l
    (λ x h d there. let q = i.owed x h d there in (q.0, kept x.tid.node q.0 q.1, q.2, q.3))
    (λ m x h. elim (from m h.0 h.1) [
      | inl o ↦ i.waits m x (h.0, o, h.2, h.3)
      | inr o ↦ absurd (let T : List Id → Type 0 = λ y. In x.serial y in subst T (ap (λ (y : LogRecord). y.waiting) o ∙ none) h.3)
    ])
    (λ m q h. elim (from m q h) [ inl o ↦ i.recorded m q o | inr o ↦ let T : LogRecord → Type 0 = λ y. Commits v y.tid in subst T (sym o) c ])

pub commit_record_keeps : (n : Name) (k : Key) (r : LogRecord) (v : View) → Inv v → IsReady v k → Commits v k.tid → r.tid ≡ k.tid → r.waiting ≡ [] → Kept v (acted n (Settles k ToCommit Aborted (Some r)) v)
commit_record_keeps n k r v i ready c tid none =
    let w : View = with_records v (records_at n (v.records n ++ r ∷ []) v.records) in
    let a = adds_keeps n r v i (let P : Id → Type 0 = λ x. Commits v x in subst P (sym tid) c) none in
    let b = commit_keeps w k a.inv ready c in
    record { inv = b.inv; later = later_trans v w (acted n (Settles k ToCommit Aborted (Some r)) v) a.later b.later }

-- a manager is taken out: each record keeps the serials that it waits for
pub release_from : (s : Id) (x : Name) (rs : List LogRecord) (r : LogRecord) → In r (release s x rs) → (q : LogRecord) × In q rs × (q.tid ≡ r.tid) × ((z : Id) → In z r.waiting → In z q.waiting)
release_from s x [] r h = absurd h
release_from s x (q ∷ rs) r h =
    let same : In r rs → (o : LogRecord) × In o (q ∷ rs) × (o.tid ≡ r.tid) × ((z : Id) → In z r.waiting → In z o.waiting) = λ i. (r, inr i, refl, λ z t. t) in
    elim (cases_Bool (holds s x q)) [
      | inl e ↦ let h' : In r (keep_record (released x q) rs) = rw e at h in
          elim (cases_Bool (nothing_left q.waiting (without_rm x q.rms))) [
            | inl f ↦ let g : In r rs = rw f at h' in same g
            | inr f ↦ let g : In r (released x q ∷ rs) = rw f at h' in elim g [
              | inl z ↦ (q, inl refl, ap (λ (y : LogRecord). y.tid) (sym z), λ y t. let T : LogRecord → Type 0 = λ o. In y o.waiting in subst T z t)
              | inr z ↦ same z
            ]
          ]
      | inr e ↦ let h' : In r (q ∷ release s x rs) = rw e at h in elim h' [
        | inl z ↦ (q, inl refl, ap (λ (y : LogRecord). y.tid) (sym z), λ y t. let T : LogRecord → Type 0 = λ o. In y o.waiting in subst T z t)
        | inr z ↦ let o = release_from s x rs r z in (o.0, inr o.1, o.2, o.3)
      ]
    ]

pub some_left : (s : Id) (ws : List Id) (xs : List Name) → In s ws → nothing_left ws xs ≡ false
some_left s [] xs h = absurd h
some_left s (w ∷ ws) [] h = refl
some_left s (w ∷ ws) (x ∷ xs) h = refl

pub release_kept : (s : Id) (x : Name) (rs : List LogRecord) (t z : Id) (r : LogRecord) → In r rs → r.tid ≡ t → In z r.waiting → (q : LogRecord) × In q (release s x rs) × (q.tid ≡ t) × In z q.waiting
release_kept s x [] t z r i e h = absurd i
release_kept s x (q ∷ rs) t z r i e h =
    elim (cases_Bool (holds s x q)) [
      | inl f ↦ elim i [
        | inl y ↦
            let h' : In z q.waiting = (let T : LogRecord → Type 0 = λ o. In z o.waiting in subst T y h) in
            (released x q, rw (f, some_left z q.waiting (without_rm x q.rms) h') (inl refl), ap (λ (o : LogRecord). o.tid) (sym y) ∙ e, h')
        | inr y ↦ (r, rw f (elim (cases_Bool (nothing_left q.waiting (without_rm x q.rms))) [ inl g ↦ rw g y | inr g ↦ rw g (inr y) ]), e, h)
      ]
      | inr f ↦ elim i [
        | inl y ↦ (q, rw f (inl refl), ap (λ (o : LogRecord). o.tid) (sym y) ∙ e, (let T : LogRecord → Type 0 = λ o. In z o.waiting in subst T y h))
        | inr y ↦ let o = release_kept s x rs t z r y e h in (o.0, rw f (inr o.1), o.2, o.3)
      ]
    ]

pub release_keeps : (n : Name) (s : Id) (x : Name) (v : View) → Inv v → Kept v (with_records v (records_at n (release s x (v.records n)) v.records))
release_keeps n s x v i =
    let recs : Name → List LogRecord = records_at n (release s x (v.records n)) v.records in
    let w : View = with_records v recs in
    let here = records_here n (release s x (v.records n)) v.records in
    let away = records_away n (release s x (v.records n)) v.records in
    let from : (m : Name) (r : LogRecord) → In r (recs m) → (q : LogRecord) × In q (v.records m) × (q.tid ≡ r.tid) × ((z : Id) → In z r.waiting → In z q.waiting) = λ m r h. elim (cases_name m n) [
      | inl e ↦ let P : Name → Type 0 = λ y. In r (recs y) in let T : List LogRecord → Type 0 = λ y. In r y in
          let R : Name → Type 0 = λ y. (q : LogRecord) × In q (v.records y) × (q.tid ≡ r.tid) × ((z : Id) → In z r.waiting → In z q.waiting) in
          subst R (sym e) (release_from s x (v.records n) r (subst T here (subst P e h)))
      | inr e ↦ let T : List LogRecord → Type 0 = λ y. In r y in (r, subst T (away m e) h, refl, λ z t. t)
    ] in
    let kept : (m : Name) (y : Key) → Waits v m y → Waits w m y = λ m y h. elim (cases_name m n) [
      | inl e ↦ let Q : Name → Type 0 = λ z. In h.0 (v.records z) in
          let o = release_kept s x (v.records n) y.tid y.serial h.0 (subst Q e h.1) h.2 h.3 in
          let P : Name → Type 0 = λ z. In o.0 (recs z) in let T : List LogRecord → Type 0 = λ z. In o.0 z in
          (o.0, subst P (sym e) (subst T (sym here) o.1), o.2, o.3)
      | inr e ↦ let T : List LogRecord → Type 0 = λ z. In h.0 z in (h.0, subst T (sym (away m e)) h.1, h.2, h.3)
    ] in
    let l : Later v w = later_by v w (λ n h. h) (λ x h. h) (λ x q h. h) (λ x h. h) refl refl refl (λ x h. inl h) (λ u h. h.undecided) (λ u h. h.commits)
    (λ m y idle h. let q = from m h.0 h.1 in (q.0, q.1, q.2 ∙ h.2, q.3 y.serial h.3)) in
    records_keep v recs i l
    (λ y h d there. kept y.tid.node y (i.owed y h d there))
    (λ m y h. let q = from m h.0 h.1 in i.waits m y (q.0, q.1, q.2 ∙ h.2, q.3 y.serial h.3))
    (λ m r h. let q = from m r h in let P : Id → Type 0 = λ y. Commits v y in subst P q.2 (i.recorded m q.0 q.1))

pub later_same : (v : View) → Later v v
later_same v = later_by v v (λ n h. h) (λ k h. h) (λ k o h. h) (λ k h. h) refl refl refl (λ k h. inl h) (λ t h. h.undecided) (λ t h. h.commits) (λ n x i h. h)

pub kept_act : (n : Name) (a : Act) (v : View) → Inv v → May n a v → Kept v (acted n a v)
kept_act n (Notes b) v i h = notes_keeps v b i h.0 h.1 h.2
kept_act n (Accepts b c) v i h = accepts_keeps v b c i h.0 h.1 h.2 h.3 h.4 h.5
kept_act n (Prepares b) v i h = prepares_keeps v b i h.0 h.1 h.2
kept_act n (Settles k ToAbort why None) v i (inl h) = abort_keeps v k i h
kept_act n (Settles k ToAbort why None) v i (inr h) = abort_ready_keeps v k i h.0 h.1
kept_act n (Settles k ToAbort why (Some r)) v i h = absurd h
kept_act n (Settles k ToCommit why None) v i (inl h) = commit_keeps v k i h.0 h.1
kept_act n (Settles k ToCommit why None) v i (inr h) = voted_keeps n k None v i h
kept_act n (Settles k ToCommit why (Some r)) v i (inl h) = commit_record_keeps n k r v i h.0 h.1 h.2 h.3
kept_act n (Settles k ToCommit why (Some r)) v i (inr h) = voted_keeps n k (Some r) v i h
kept_act n (Releases s x) v i h = release_keeps n s x v i
kept_act n (Undoes k) v i h = undo_keeps v (lost_at n (cut_keys k (v.lost n)) v.lost) n k i h.0 (λ m x j. elim (cases_name m n) [
  | inl e ↦
      let P : Name → Type 0 = λ y. In x (lost_at n (cut_keys k (v.lost n)) v.lost y) in
      let T : List Key → Type 0 = λ y. In x y in
      let q = in_cut_keys k (v.lost n) x (subst T (lost_here n (cut_keys k (v.lost n)) v.lost) (subst P e j)) in
      (q.0, (let Q : Name → Type 0 = λ y. In x (v.lost y) in subst Q (sym e) q.1))
  | inr e ↦
      let T : List Key → Type 0 = λ y. In x y in
      let j' : In x (v.lost m) = subst T (lost_away n (cut_keys k (v.lost n)) v.lost m e) j in
      (h.1 m x j' e, j')
])
kept_act n (Prints l) v i h = record { inv = i; later = later_same v }
kept_act n (Leaves k) v i h = leaves_keeps v k i h
kept_act n (Acknowledges k) v i h = with_records_keeps v k (records_at n (acknowledge k (v.records n)) v.records) i h.0 h.1
kept_act n (Sends m) v i h = sends_keeps v m i h.0 h.1
