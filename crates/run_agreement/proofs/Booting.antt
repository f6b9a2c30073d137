-- A node whose disk runs again, and its boot.
use Rattle.std.specs.Prelude.{if◌then◌else◌, ◌&&◌, not, length, ◌+◌, is_some}
use Rattle.std.proofs.Common.{◌≡◌, ◌≤◌, ℕ, zero, suc, take, map, Bool, true, false, List, [], ◌∷◌, ◌++◌, Option, Some, None, inl, inr, refl, ap, sym, subst, ◌∙◌, arith}
use Rattle.std.proofs.lemmas.Bool.{both_ways}
use Rattle.std.proofs.lemmas.List.{length-append}
use Rattle.vms_model.specs.Ids.{Id}
use Rattle.vms_model.specs.Transactions.{Abort as ToAbort}
use Rattle.run_model.specs.records_model.History.{same_id}
use Rattle.run_model.specs.unit_laws.Units.{Map}
use Rattle.run_model.specs.unit_laws.Journal.{RecoveryUnit, find_unit, active_units, units_in, with_settled}
use Rattle.run_model.specs.unit_laws.JournalLaws.{is_unit}
use Rattle.run_model.proofs.unit_laws.TrimLemmas.{settles_unit}
use Rattle.commit_protocol.specs.Messages.{Name, LogRecord, PreparedRecord}
use Rattle.commit_protocol.specs.Table as table
use Rattle.commit_protocol.specs.Table.{Key, Branch, Prepared, Undoes, Tm, restarted, record_key, branch_of, branches_of, prepared_records, record_serials, branch_serials, find, cut, cut_keys, same_key}
use Rattle.commit_protocol.specs.World as protocol
use Rattle.commit_protocol.specs.World.{In, Step, Boot, BootStops, Swaps, units_of, units_in_order, each_once, has_key, crashed, crashes, raised, raised_node, undo_all, undoes_lost, may_boot, boots, boots_some, acts_all, happens, run, tm_at, lost_after, at_node}
use Rattle.commit_protocol.specs.Agreement.{Gone, phase, view}
use Rattle.commit_protocol.specs.Opening.{Opening, AreRearranged, DistinctKeys, record_keys, opened}
use Rattle.commit_protocol.specs.Orders.{IsPermuted, reordered, swaps_of}
use Rattle.commit_protocol.specs.Standing.{HasApartLog}
use Rattle.commit_protocol.proofs.Lists.{told_key, in_parts, Unique}
use Rattle.commit_protocol.proofs.Bridge.{node_same, node_other, in_cut_keys}
use Rattle.commit_protocol.proofs.Acting.{Good}
use Rattle.commit_protocol.proofs.Running.{goes_run, run-append}
use Rattle.commit_protocol.proofs.Gathered.{is_shown}
use Rattle.commit_protocol.proofs.Opened.{good_opened}
use Rattle.commit_protocol.proofs.Following.{restart_tm, gone_none, Rearranged}
use Rattle.commit_protocol.proofs.Following as following
use Rattle.commit_protocol.proofs.Ordering.{any_order, restart_in_any_order}
use Rattle.commit_protocol.proofs.LogSteps.{logs_apart}
use Rattle.commit_protocol.proofs.Within.{length_cut}
use Rattle.commit_protocol.proofs.Serials.{in_serial, serial_in}
use Rattle.run_model.specs.log_laws.Slots.{Slots, LogTells, AreUnwaiting, records_in, prepared_of, committed_of, size}
use Rattle.run_model.proofs.log_laws.Reading.{prepared_keys, prepared_is, is_prepared_one, committed_is, is_committed_one, all_again, kind_or}
use Rattle.run_model.proofs.log_laws.RowSlots.{among}
use Rattle.run_model.specs.World as world
use Rattle.run_model.specs.World.{Act, Boots, ComesUp, Tables, Node, Durable, Shared, Call, Outturn, Lost, Taken, Half, Sound, acted, booted, prepared_left, prepared_serials, powered, unpowered, with_half, aborted_prepared, fallen, is_durable, next_moment, tm_of}
use Rattle.run_model.specs.Answers.{Row, boot_rows, table_rows, unit_key}
use Rattle.run_model.specs.Steps.{node_after_rows, shared_after_rows}
use Rattle.run_agreement.specs.Seen.{Face, IsDownFace, IsTold, IsLeft, HavePrepared, ArePrepared, IsBegun, raw, landed, left_keys}
use Rattle.run_agreement.specs.Following.{Faces, Follows}
use Rattle.run_agreement.proofs.Faces.{put_face, put_here, follows_same, follows_moved, follows_raise, follows_crash}
use Rattle.run_agreement.proofs.Left.{by_serials, told_left}
use Rattle.run_agreement.proofs.Rows.{standing, lying, lost_all, AllTold, Match, cut_node, put_on, put_itself, rows_match, rows_go, rows_told, rows_keep, rows_tm, take_match, cut_goes, fell_on}
use Rattle.run_agreement.proofs.Units.{same_is, same_from, other_from, other_ids, single_units, IsActive, active_to, active_from, active_alone, settled_to, settled_from}
use Rattle.run_agreement.proofs.Events.{IsReached, reached_on, Arrives, face_down}

-- Lists of keys.

cut_keys_in : (k : Key) (ls : List Key) (x : Key) → (k ≡ x → ⊥) → In x ls → In x (cut_keys k ls)
cut_keys_in k [] x ne h = absurd h
cut_keys_in k (j ∷ js) x ne h = elim (told_key j k) [
  | inl e ↦ rw (e.0) (elim h [ inl z ↦ absurd (ne (sym e.1 ∙ sym z)) | inr z ↦ cut_keys_in k js x ne z ])
  | inr e ↦ rw (e.0) (elim h [ inl z ↦ inl z | inr z ↦ inr (cut_keys_in k js x ne z) ])
]

-- no two of these keys are one
abbrev pub KeysApart : List Key → Type 0
KeysApart [] = Unit {0}
KeysApart (k ∷ ks) = (In k ks → ⊥) × KeysApart ks

has_key_in : (k : Key) (ls : List Key) → In k ls → has_key k ls ≡ true
has_key_in k [] h = absurd h
has_key_in k (j ∷ js) h = elim (told_key j k) [
  | inl e ↦ rw (e.0) refl
  | inr e ↦ rw (e.0) (elim h [ inl z ↦ absurd (e.1 (sym z)) | inr z ↦ has_key_in k js z ])
]

has_key_not : (k : Key) (ls : List Key) → (In k ls → ⊥) → has_key k ls ≡ false
has_key_not k [] h = refl
has_key_not k (j ∷ js) h = elim (told_key j k) [
  | inl e ↦ absurd (h (inl (sym e.1)))
  | inr e ↦ rw (e.0) (has_key_not k js (λ z. h (inr z)))
]

empty_of : (ls : List Key) → ((x : Key) → In x ls → ⊥) → ls ≡ []
empty_of [] h = refl
empty_of (x ∷ xs) h = absurd (h x (inl refl))

ordered_units : (us ls : List Key) → KeysApart us → ((x : Key) → In x us → In x ls) → ((x : Key) → In x ls → In x us) → units_in_order us ls ≡ us
ordered_units [] ls d there back = ap each_once (empty_of ls back)
ordered_units (u ∷ us) ls d there back =
    let here : has_key u ls ≡ true = has_key_in u ls (there u (inl refl)) in
    rw here (ap (λ ks. u ∷ ks) (ordered_units us (cut_keys u ls) d.1
    (λ x i. cut_keys_in u ls x (λ e. d.0 (let P : Key → Type 0 = λ k. In k us in subst P (sym e) i)) (there x (inr i)))
    (λ x i. let q = in_cut_keys u ls x i in elim (back x q.1) [ inl e ↦ absurd (q.0 (sym e)) | inr z ↦ z ])))

ordered_all : (ks us ls : List Key) → ((k : Key) → In k ks → In k ls → ⊥) → KeysApart us → ((x : Key) → In x us → In x ls) → ((x : Key) → In x ls → In x us) → units_in_order (ks ++ us) ls ≡ us
ordered_all [] us ls away d there back = ordered_units us ls d there back
ordered_all (k ∷ ks) us ls away d there back =
    let none : has_key k ls ≡ false = has_key_not k ls (away k (inl refl)) in
    rw none (ordered_all ks us ls (λ j i. away j (inr i)) d there back)

-- Keys of units.

keys_apart_in : (us : List RecoveryUnit) → Rattle.run_agreement.proofs.Units.Single us → KeysApart (map unit_key (active_units us))
keys_apart_in [] h = tt
keys_apart_in (u ∷ us) h = go u.prepared (keys_apart_in us h.1)
  where
    go : (b : Bool) → KeysApart (map unit_key (active_units us)) → KeysApart (map unit_key (if b then active_units us else u ∷ active_units us))
    go true more = more
    go false more = (
      (λ i. let a = active_to us (unit_key u) h.1 i in let none : None ≡ Some a.unit = sym h.0 ∙ a.found in let f : ⊥ = cc in f),
      more,
    )

pub left_apart : (d : Durable) → KeysApart (left_keys d)
left_apart d = keys_apart_in (units_in d.units.entries) (single_units d.units.entries)

-- The records of a disk.

-- what is kept of a disk of which the protocol has this
pub record IsReady (d : Durable) : Type 0 where
  pub distinct : Rattle.commit_protocol.specs.Agreement.Distinct (record_serials (records_in d.log))
  pub unwaiting : AreUnwaiting (records_in d.log)
  pub units : HavePrepared (prepared_of (records_in d.log)) d
  pub slots : length d.log ≤ 512
  pub volume : d.volume ≡ Sound

pub ready_of : (d : Durable) (y : protocol.Node) → IsLeft d y → IsReady d
ready_of d y h = record { distinct = h.distinct; unwaiting = h.unwaiting; units = h.units; slots = h.slots; volume = h.volume }

pub left_rearranged : (d : Durable) → IsReady d → AreRearranged (prepared_left d) (prepared_of (records_in d.log))
left_rearranged d h = by_serials (prepared_serials d.units.entries) (prepared_of (records_in d.log)) (prepared_keys (records_in d.log) h.distinct)

pub left_form : (d : Durable) → IsReady d → (r : LogRecord) → In r (prepared_left d) → (r.kind ≡ PreparedRecord) × (r.waiting ≡ [])
left_form d h r i = let p = prepared_is (records_in d.log) r ((left_rearranged d h).there r i) in (p.1, h.unwaiting r p.0 p.1)

left_again : (d : Durable) → IsReady d → prepared_records (branches_of (prepared_left d)) ≡ prepared_left d
left_again d h = all_again (prepared_left d) (left_form d h)

pub no_units : (rs : List LogRecord) → units_of (branches_of rs) ≡ []
no_units [] = refl
no_units (r ∷ rs) = no_units rs

-- the node's name may be any
disk_tells : (n : Name) (d : Durable) → IsReady d → LogTells (restarted n (prepared_left d) (committed_of (records_in d.log))) d.log
disk_tells n d h =
    let rs : List LogRecord = records_in d.log in
    let P : (q : LogRecord) → List LogRecord → Type 0 = λ q xs. In q xs in
    record {
      from = λ q j. elim (kind_or q.kind) [
        | inl k ↦ inl (subst (P q) (sym (left_again d h)) ((left_rearranged d h).back q (is_prepared_one rs q j k)))
        | inr k ↦ inr (is_committed_one rs q j k)
      ];
      prepared = λ q j. (prepared_is rs q ((left_rearranged d h).there q (subst (P q) (left_again d h) j))).0;
      committed = λ q j. (committed_is rs q j).0;
      distinct = h.distinct;
    }

-- The node that a boot raises.

raised_told : (lost : List Key) (y : Node) → IsReady y.durable → HasApartLog (restarted y.name (prepared_left y.durable) (committed_of (records_in y.durable.log)))
    → ((k : Key) → In k lost → In k (left_keys y.durable)) → ((k : Key) → In k (left_keys y.durable) → In k lost) → IsTold lost (acted Boots y)
raised_told lost y h apart there back =
    let d : Durable = y.durable in
    let none = no_units (prepared_left d) in
    let P : List Key → Type 0 = λ us. (k : Key) → In k (us ++ lost) → In k (left_keys d) in
    let Q : List Key → Type 0 = λ us. (k : Key) → In k (left_keys d) → In k (us ++ lost) in
    let same = left_rearranged d h in
    record {
      log = disk_tells y.name d h;
      apart = apart;
      kinds = λ r i. (committed_is (records_in d.log) r i).1;
      slots = h.slots;
      volume = h.volume;
      there = subst P (sym none) there;
      back = subst Q (sym none) back;
      units = λ s u e p. (let r = h.units s u e p in (branch_of r.0, following.find_record (prepared_left d) r.0 same.distinct (same.back r.0 r.1), r.2, refl));
    }

-- a record's branch is in a table of such branches
never_absent : (rs : List LogRecord) (r : LogRecord) → In r rs → find (record_key r) (branches_of rs) ≡ None → ⊥
never_absent [] r i e = i
never_absent (q ∷ rs) r i e = elim (told_key (record_key q) (record_key r)) [
  | inl t ↦ (let none : Some (branch_of q) ≡ None = rw (t.0) at e in let f : ⊥ = cc in f)
  | inr t ↦ (let rest : find (record_key r) (branches_of rs) ≡ None = rw (t.0) at e in elim i [ inl z ↦ absurd (t.1 (ap record_key (sym z))) | inr j ↦ never_absent rs r j rest ])
]

key_of_record : (ks : List LogRecord) (k : Key) → In k (record_keys ks) → (r : LogRecord) × In r ks × (record_key r ≡ k)
key_of_record [] k i = absurd i
key_of_record (r ∷ rs) k i = elim i [ inl e ↦ (r, inl refl, sym e) | inr j ↦ (let q = key_of_record rs k j in (q.0, inr q.1, q.2)) ]

distinct_keys_of : (rs : List LogRecord) → Unique (branches_of rs) → DistinctKeys rs
distinct_keys_of [] u = tt
distinct_keys_of (r ∷ rs) u = ((λ q i e. never_absent rs q i (let P : Key → Type 0 = λ k. find k (branches_of rs) ≡ None in subst P (sym e) u.0)), distinct_keys_of rs u.1)

pub good_at : (o : Opening) (p : protocol.World) → IsReached o p → Good p
good_at o p r = let P : protocol.World → Type 0 = λ q. Good q in subst P (sym r.is) ((goes_run r.steps (opened o) (good_opened o r.agrees (is_shown o r.agrees))).good)

-- what a boot is to the protocol, once the committed records stand in the order of the slots
record Raised (o : Opening) (n : Name) (y : Node) (s : Shared) (fs : Faces) (p : protocol.World) : Type 0 where
  places : List ℕ
  order : List Key
  lost : List Key
  may : may_boot n (run (swaps_of places n) p) ≡ true
  undoes : undoes_lost n order (run (swaps_of places n) p) ≡ undo_all (left_keys y.durable)
  follows : Follows o (put_face n (standing lost (acted Boots y)) fs) s (raised n order (run (swaps_of places n) p))
  told : IsTold lost (acted Boots y)
  all : (k : Key) → In k (left_keys y.durable) → In k lost
  only : (k : Key) → In k lost → In k (left_keys y.durable)
  absent : (k : Key) → In k (record_keys (prepared_left y.durable)) → In k lost → ⊥

raises : (o : Opening) (n : Name) (y : Node) (s : Shared) (fs : Faces) (f : Face) (p : protocol.World) → IsReached o p → Follows o fs s p → fs n ≡ Some f → y.name ≡ n → IsLeft y.durable f.node → f.settled ≡ y.settled → Raised o n y s fs p
raises o n y s fs f p r h found named left settled =
    let d : Durable = y.durable in
    let ready = ready_of d f.node left in
    let committed : List LogRecord = committed_of (records_in d.log) in
    let node : p.nodes n ≡ f.node = h.nodes n f found in
    let good = good_at o p r in
    let Pm : List LogRecord → Type 0 = λ rs. IsPermuted committed rs in
    let permuted : IsPermuted committed (p.nodes n).records = subst Pm (ap (λ (z : protocol.Node). z.records) (sym node)) left.committed in
    let swap = any_order p n committed permuted in
    let w : protocol.World = reordered n committed p in
    let is : run (swaps_of swap.0 n) p ≡ w = swap.1 in
    let order : List Key = record_keys (prepared_left d) ++ left_keys d in
    let new : protocol.Node = record (p.nodes n) { records = committed } in
    let wn : w.nodes n ≡ new = node_same n new p.nodes in
    let f1 : Face = record f { node = record f.node { records = committed } } in
    let wf : w.nodes n ≡ f1.node = wn ∙ ap (λ (z : protocol.Node). (let k : protocol.Node = record z { records = committed } in k)) node in
    let one : Follows o (put_face n f1 fs) s w = follows_moved o n f1 f fs s p w h found refl wf (λ m ne. node_other n new p.nodes m ne) refl refl refl refl refl refl in
    let two = follows_raise o n order f1 (put_face n f1 fs) s w one (put_here n f1 fs) in
    let table : (w.nodes n).table ≡ branches_of left.records = ap (λ (z : protocol.Node). z.table) wf ∙ left.table in
    let Pu : List Branch → Type 0 = λ bs. Unique bs in
    let uniq : Unique (branches_of left.records) = subst Pu (ap (λ (z : protocol.Node). z.table) node ∙ left.table) (good.unique n) in
    let both : Rearranged (prepared_left d) left.records = record { distinct = left.prepared.distinct; distinct_before = distinct_keys_of left.records uniq; there = left.prepared.there; back = left.prepared.back } in
    let tm : tm_at (raised n order w) n ≡ restarted n (prepared_left d) (w.nodes n).records = restart_tm w n (prepared_left d) left.records (left_keys d) table both in
    let y1 : Node = acted Boots y in
    let up : protocol.Node = raised_node order f1.node in
    let rn : (raised n order w).nodes n ≡ up = node_same n (raised_node order (w.nodes n)) w.nodes ∙ ap (raised_node order) wf in
    let e1 : up.table ≡ branches_of (prepared_left d) = ap (λ (z : protocol.Node). z.table) (sym rn) ∙ ap (λ (t : Tm). t.table) tm in
    let same : (let g : Face = record f1 { node = up } in g) ≡ standing f.node.lost y1 =
    λ i. record { node = record { up = true; boot = left.boot i + 1; seq = 0; table = e1 i; records = committed; lost = f.node.lost; last = left.last i }; settled = settled i } in
    let F : Face → Type 0 = λ g. Follows o (put_face n g fs) s (raised n order w) in
    let three : Follows o (put_face n (standing f.node.lost y1) fs) s (raised n order w) = subst F same (put_on o n f1 (record f1 { node = up }) fs s (raised n order w) two) in
    let away : (k : Key) → In k (record_keys (prepared_left d)) → In k f.node.lost → ⊥ = λ k i j. (
    let q = key_of_record (prepared_left d) k i in
    let Pl : protocol.Node → Type 0 = λ z. In k z.lost in
    let l : In k (p.nodes n).lost = subst Pl (sym node) j in
    let Ph : Name → Type 0 = λ m. find k (p.nodes m).table ≡ None in
    let none : find k (p.nodes n).table ≡ None = subst Ph (good.lost_home n k l) (gone_none ((view p).at k) (good.inv.lost n k l).gone) in
    let Pk : Key → Type 0 = λ m. find m (branches_of left.records) ≡ None in
    never_absent left.records q.0 (left.prepared.there q.0 q.1) (subst Pk (sym q.2) (ap (find k) (sym (ap (λ (z : protocol.Node). z.table) node ∙ left.table)) ∙ none))) in
    let undo : units_in_order order f.node.lost ≡ left_keys d = ordered_all (record_keys (prepared_left d)) (left_keys d) f.node.lost away (left_apart d) left.back left.there in
    let mayp : may_boot n p ≡ true = ap (λ b. b && not (p.nodes n).up) (h.rack n ∙ ap is_some found) ∙ ap (λ (z : protocol.Node). not z.up) node ∙ ap not left.down in
    let mayw : may_boot n w ≡ true = ap (λ b. b && not (w.nodes n).up) (h.rack n ∙ ap is_some found) ∙ ap (λ (z : protocol.Node). not z.up) wf ∙ ap not left.down in
    let G : protocol.World → Type 0 = λ q. Follows o (put_face n (standing f.node.lost y1) fs) s (raised n order q) in
    let M : protocol.World → Type 0 = λ q. may_boot n q ≡ true in
    let U : protocol.World → Type 0 = λ q. undoes_lost n order q ≡ undo_all (left_keys d) in
    let kinds : (q : LogRecord) → In q left.records → (q.kind ≡ PreparedRecord) × (q.waiting ≡ []) = λ q i. left_form d ready q (left.prepared.back q i) in
    let Pr : List LogRecord → Type 0 = λ rs. AreRearranged (prepared_left d) rs in
    let W : protocol.World → Type 0 = λ q. AreRearranged (prepared_left d) (prepared_records (q.nodes n).table) in
    let V : protocol.World → Type 0 = λ q. IsPermuted committed (q.nodes n).records in
    let rearranged : AreRearranged (prepared_left d) (prepared_records (p.nodes n).table) = subst Pr (sym (ap prepared_records (ap (λ (z : protocol.Node). z.table) node ∙ left.table) ∙ all_again left.records kinds)) left.prepared in
    let restart = restart_in_any_order o r.agrees r.steps n (prepared_left d) committed (left_keys d) (subst M r.is mayp) (subst W r.is rearranged) (subst V r.is permuted) in
    let B : protocol.World → Type 0 = λ q. tm_at (boots n order (reordered n committed q)) n ≡ restarted n (prepared_left d) committed in
    let at : tm_at (boots n order w) n ≡ restarted n (prepared_left d) committed = subst B (sym r.is) restart in
    let later = reached_on o (run (swaps_of swap.0 n) p) (Boot n order ∷ []) (reached_on o p (swaps_of swap.0 n) r) in
    let law = logs_apart o later.agrees later.steps n in
    let L : protocol.World → Type 0 = λ q. HasApartLog (tm_at q n) in
    let apart0 : HasApartLog (tm_at (boots n order w) n) = subst L (sym later.is ∙ ap (λ q. boots n order q) is) law in
    let T : Tm → Type 0 = λ t. HasApartLog t in
    let N : Name → Type 0 = λ m. HasApartLog (restarted m (prepared_left d) committed) in
    record {
      places = swap.0;
      order = order;
      lost = f.node.lost;
      may = subst M (sym is) mayw;
      undoes = subst U (sym is) (ap (λ (z : protocol.Node). undo_all (units_in_order order z.lost)) wf ∙ ap undo_all undo);
      follows = subst G (sym is) three;
      told = raised_told f.node.lost y ready (subst N (sym named) (subst T at apart0)) left.there left.back;
      all = left.back;
      only = left.there;
      absent = away;
    }

-- Units are undone.

cut_absent : (k : Key) (bs : List Branch) → find k bs ≡ None → cut k bs ≡ bs
cut_absent k [] e = refl
cut_absent k (b ∷ bs) e = elim (told_key b.key k) [
  | inl q ↦ absurd (let e' : Some b ≡ None = rw (q.0) at e in let f : ⊥ = cc in f)
  | inr q ↦ let e' : find k bs ≡ None = rw (q.0) at e in rw (q.0) (ap (λ xs. b ∷ xs) (cut_absent k bs e'))
]

undo_told : (k : Key) (moment : ℕ) (lost : List Key) (y : Node) → IsTold lost y → units_of y.volatile.branches ≡ [] → find k y.volatile.branches ≡ None → In k lost → IsTold (cut_keys k lost) (acted (Tables (Undoes k) moment) y)
undo_told k moment lost y t none absent here =
    let bs : List Branch = y.volatile.branches in
    let us : List RecoveryUnit = units_in y.durable.units.entries in
    let e : cut k bs ≡ bs = cut_absent k bs absent in
    let tm : tm_of (acted (Tables (Undoes k) moment) y) ≡ tm_of y = ap (λ (xs : List Branch). (let m : Tm = record { node = y.name; table = xs; records = y.volatile.records } in m)) e in
    let L : Tm → Type 0 = λ m. LogTells m y.durable.log in
    let A : Tm → Type 0 = λ m. HasApartLog m in
    let j = y.durable.units in
    let U : List Key → Type 0 = λ ks. (x : Key) → In x (ks ++ lost) → In x (left_keys y.durable) in
    let V : List Key → Type 0 = λ ks. (x : Key) → In x (left_keys y.durable) → In x (ks ++ lost) in
    let there : (x : Key) → In x lost → In x (left_keys y.durable) = subst U none t.there in
    let back : (x : Key) → In x (left_keys y.durable) → In x lost = subst V none t.back in
    let single = single_units y.durable.units.entries in
    let active : (x : Key) → In x lost → IsActive us x = λ x i. active_to us x single (there x i) in
    let W : List Branch → Type 0 = λ xs. (x : Key) → In x (units_of xs ++ cut_keys k lost) → In x (left_keys (acted (Tables (Undoes k) moment) y).durable) in
    let X : List Branch → Type 0 = λ xs. (x : Key) → In x (left_keys (acted (Tables (Undoes k) moment) y).durable) → In x (units_of xs ++ cut_keys k lost) in
    let Y : List Key → Type 0 = λ ks. (x : Key) → In x (ks ++ cut_keys k lost) → In x (left_keys (acted (Tables (Undoes k) moment) y).durable) in
    let Z : List Key → Type 0 = λ ks. (x : Key) → In x (left_keys (acted (Tables (Undoes k) moment) y).durable) → In x (ks ++ cut_keys k lost) in
    let new = with_settled k.tid k.serial ToAbort moment j in
    let new_there : (x : Key) → In x (cut_keys k lost) → In x (left_keys (acted (Tables (Undoes k) moment) y).durable) = λ x i. (
    let q = in_cut_keys k lost x i in
    active_from (units_in new.entries) x (settled_from j k.tid k.serial ToAbort moment x (active x q.1) (other_from x.serial k.serial (λ s. q.0 (active_alone us k x (active k here) (active x q.1) (sym s)))))) in
    let new_back : (x : Key) → In x (left_keys (acted (Tables (Undoes k) moment) y).durable) → In x (cut_keys k lost) = λ x i. (
    let a = settled_to j k.tid k.serial ToAbort moment x (active_to (units_in new.entries) x (single_units new.entries) i) in
    cut_keys_in k lost x (λ s. other_ids x.serial k.serial a.1 (ap (λ (z : Key). z.serial) (sym s))) (back x (active_from us x a.0))) in
    let Q : List Branch → Type 0 = λ xs. ArePrepared xs (acted (Tables (Undoes k) moment) y).durable in
    record {
      log = subst L (sym tm) t.log;
      apart = subst A (sym tm) t.apart;
      kinds = t.kinds;
      slots = t.slots;
      volume = t.volume;
      there = subst W (sym e) (subst Y (sym none) new_there);
      back = subst X (sym e) (subst Z (sym none) new_back);
      units = subst Q (sym e) (λ s u f p.
          let law = settles_unit k.tid k.serial ToAbort moment j in
          let apart : same_id s k.serial ≡ false = other_from s k.serial (λ q.
          let P : Id → Type 0 = λ z. find_unit z (units_in new.entries) ≡ Some u in
          both_ways (is_unit k.serial new) law.gone (ap is_some (subst P q f))) in
          t.units s u (sym (law.others s apart) ∙ f) p);
    }

undo_all_told : (ks lost : List Key) (y : Node) → KeysApart ks → ((k : Key) → In k ks → In k lost) → ((k : Key) → In k ks → find k y.volatile.branches ≡ None) → IsTold lost y → units_of y.volatile.branches ≡ [] → AllTold (undo_all ks) lost y
undo_all_told [] lost y d there absent t none = tt
undo_all_told (k ∷ ks) lost y d there absent t none =
    let m : ℕ = next_moment y in
    let z : Node = acted (Tables (Undoes k) m) y in
    let e : cut k y.volatile.branches ≡ y.volatile.branches = cut_absent k y.volatile.branches (absent k (inl refl)) in
    let one = undo_told k m lost y t none (absent k (inl refl)) (there k (inl refl)) in (
      one,
      undo_all_told ks (cut_keys k lost) z d.1 (λ x i. cut_keys_in k lost x (λ q. d.0 (let P : Key → Type 0 = λ w. In w ks in subst P (sym q) i)) (there x (inr i)))
          (λ x i. ap (find x) e ∙ absent x (inr i)) one (ap units_of e ∙ none),
    )

lost_in : (ks lost : List Key) (x : Key) → In x (lost_all (undo_all ks) lost) → In x lost × (In x ks → ⊥)
lost_in [] lost x i = (i, λ j. j)
lost_in (k ∷ ks) lost x i =
    let q = lost_in ks (cut_keys k lost) x i in
    let c = in_cut_keys k lost x q.0 in
    (c.1, λ j. elim j [ inl e ↦ c.0 (sym e) | inr z ↦ q.1 z ])

lost_undone : (ks lost : List Key) → ((x : Key) → In x lost → In x ks) → lost_all (undo_all ks) lost ≡ []
lost_undone ks lost h = empty_of (lost_all (undo_all ks) lost) (λ x i. let q = lost_in ks lost x i in q.1 (h x q.0))

absent_of : (rs : List LogRecord) (k : Key) → (In k (record_keys rs) → ⊥) → find k (branches_of rs) ≡ None
absent_of [] k h = refl
absent_of (r ∷ rs) k h = elim (told_key (record_key r) k) [
  | inl e ↦ absurd (h (inl (sym e.1)))
  | inr e ↦ rw (e.0) (absent_of rs k (λ i. h (inr i)))
]

-- Room.

in_branch_serials : (rs : List LogRecord) (i : Id) → In i (branch_serials (branches_of rs)) → (r : LogRecord) × In r rs × (r.serial ≡ i)
in_branch_serials [] i h = absurd h
in_branch_serials (r ∷ rs) i h = elim h [ inl e ↦ (r, inl refl, sym e) | inr j ↦ (let q = in_branch_serials rs i j in (q.0, inr q.1, q.2)) ]

length_branch_serials : (bs : List Branch) → length (branch_serials bs) ≡ length bs
length_branch_serials [] = refl
length_branch_serials (b ∷ bs) = ap suc (length_branch_serials bs)

length_record_serials : (rs : List LogRecord) → length (record_serials rs) ≡ length rs
length_record_serials [] = refl
length_record_serials (r ∷ rs) = ap suc (length_record_serials rs)

records_fit : (ss : Slots) → length (record_serials (records_in ss)) ≤ length ss
records_fit [] = omega arith
records_fit (None ∷ ss) = let h = records_fit ss in omega arith
records_fit (Some r ∷ ss) = let h = records_fit ss in omega arith

raised_fits : (y : Node) → IsReady y.durable → HasApartLog (tm_of (acted Boots y)) → size (tm_of (acted Boots y)) ≤ length y.durable.log
raised_fits y h apart =
    let d : Durable = y.durable in
    let rs : List LogRecord = records_in d.log in
    let xs : List Id = branch_serials (branches_of (prepared_left d)) in
    let cs : List Id = record_serials (committed_of rs) in
    let few : length (xs ++ cs) ≤ length (record_serials rs) = among (xs ++ cs) (record_serials rs) apart (λ i k. elim (in_parts i xs cs k) [
      | inl j ↦ (let q = in_branch_serials (prepared_left d) i j in
          let P : Id → Type 0 = λ z. In z (record_serials rs) in
          subst P q.2 (in_serial q.0 rs (prepared_is rs q.0 ((left_rearranged d h).there q.0 q.1)).0))
      | inr j ↦ (let q = serial_in i (committed_of rs) j in
          let P : Id → Type 0 = λ z. In z (record_serials rs) in
          subst P q.2 (in_serial q.0 rs (committed_is rs q.0 q.1).0))
    ]) in
    let one = length-append xs cs in
    let two = length_branch_serials (branches_of (prepared_left d)) in
    let three = length_record_serials (committed_of rs) in
    let four = records_fit d.log in
    let A : ℕ → Type 0 = λ m. m ≤ length (record_serials rs) in
    let five : length xs + length cs ≤ length (record_serials rs) = subst A one few in
    omega arith

undo_size : (ks : List Key) (tm : Tm) → size (table.after (undo_all ks) tm) ≤ size tm
undo_size [] tm = omega arith
undo_size (k ∷ ks) tm =
    let one = length_cut k tm.table in
    let rest = undo_size ks (table.after_act (Undoes k) tm) in
    omega arith

-- The boot, whole and cut.

boots_is : (n : Name) (order : List Key) (p : protocol.World) (todo : List table.Act) → may_boot n p ≡ true → undoes_lost n order p ≡ todo → happens p (Boot n order) ≡ acts_all n todo (raised n order p)
boots_is n order p todo may is = ap (λ b. if b then acts_all n (undoes_lost n order p) (raised n order p) else p) may ∙ ap (λ t. acts_all n t (raised n order p)) is

boots_some_is : (j : ℕ) (n : Name) (order : List Key) (p : protocol.World) (todo : List table.Act) → may_boot n p ≡ true → undoes_lost n order p ≡ todo → happens p (BootStops j n order) ≡ crashes n (acts_all n (take j todo) (raised n order p))
boots_some_is j n order p todo may is = ap (λ b. if b then crashes n (acts_all n (take j (undoes_lost n order p)) (raised n order p)) else p) may ∙ ap (λ t. crashes n (acts_all n (take j t) (raised n order p))) is

-- the rows behind the one that raises the boot count
abbrev undo_rows : Node → Shared → List Row
undo_rows y s = table_rows (undo_all (left_keys y.durable)) s (acted Boots y)

undo_match : (o : Opening) (n : Name) (y : Node) (s : Shared) (fs : Faces) (p : protocol.World) (b : Raised o n y s fs p) → Match (undo_rows y s) (undo_all (left_keys y.durable)) b.lost (acted Boots y)
undo_match o n y s fs p b =
    let ks : List Key = left_keys y.durable in
    rows_match (undo_all ks) b.lost (acted Boots y) s
    (undo_all_told ks b.lost (acted Boots y) (left_apart y.durable) b.all (λ k i. absent_of (prepared_left y.durable) k (λ j. b.absent k j (b.all k i))) b.told (no_units (prepared_left y.durable)))

pub boot_whole : (o : Opening) (n : Name) (b : Bool) (y : Node) (s : Shared) (fs : Faces) (f : Face) (p : protocol.World) → IsReached o p → Follows o fs s p → fs n ≡ Some f → y.name ≡ n → y.under_way ≡ None → IsLeft y.durable f.node → f.settled ≡ y.settled
    → Arrives o n b (acted ComesUp (node_after_rows (boot_rows s y) y)) (shared_after_rows (boot_rows s y) s) fs p
boot_whole o n b y s fs f p r h found named quiet left settled =
    let v = raises o n y s fs f p r h found named left settled in
    let ks : List Key = left_keys y.durable in
    let todo : List table.Act = undo_all ks in
    let y1 : Node = acted Boots y in
    let rs : List Row = undo_rows y s in
    let match = undo_match o n y s fs p v in
    let k = rows_keep rs todo v.lost y1 match in
    let z : Node = node_after_rows rs y1 in
    let w : protocol.World = run (swaps_of v.places n) p in
    let f1 : Face = standing v.lost y1 in
    let done = rows_go o n rs todo v.lost y1 (put_face n f1 fs) s (raised n v.order w) match v.follows (put_here n f1 fs) in
    let last : Face = standing (lost_all todo v.lost) z in
    let none : lost_all todo v.lost ≡ [] = lost_undone ks v.lost v.only in
    let told : IsTold [] z = (let P : List Key → Type 0 = λ ls. IsTold ls z in subst P none (rows_told rs todo v.lost y1 match v.told)) in
    let is : run (swaps_of v.places n ++ Boot n v.order ∷ []) p ≡ acts_all n todo (raised n v.order w) = run-append (swaps_of v.places n) (Boot n v.order ∷ []) p ∙ boots_is n v.order w todo v.may v.undoes in
    let F : protocol.World → Type 0 = λ q. Follows o (put_face n last fs) (shared_after_rows rs s) q in
    let S : Tm → Type 0 = λ t. size t ≤ length z.durable.log in
    let less = undo_size ks (tm_of y1) in
    let fits = raised_fits y (ready_of y.durable f.node left) v.told.apart in
    let L : ℕ → Type 0 = λ m. size (table.after todo (tm_of y1)) ≤ m in
    let room : size (table.after todo (tm_of y1)) ≤ length z.durable.log = subst L (sym k.slots) (omega arith) in
    record {
      steps = swaps_of v.places n ++ Boot n v.order ∷ [];
      face = last;
      is = record {
        node = ap (λ ls. raw ls z) none;
        settled = refl;
        told = record { log = told.log; apart = told.apart; kinds = told.kinds; slots = told.slots; volume = told.volume; there = told.there; back = told.back; units = told.units };
        room = subst S (sym (rows_tm rs todo v.lost y1 match)) room;
        quiet = k.under_way ∙ quiet;
      };
      follows = subst F (sym is) (put_on o n f1 last fs (shared_after_rows rs s) (acts_all n todo (raised n v.order w)) done);
      named = k.name ∙ named;
      volume = ap (λ d. elim d [ Sound ↦ true | world.Faulty condition block ↦ false | world.Barred bar ↦ false | world.Unknown ↦ false ]) told.volume;
    }

-- before the boot count is raised nothing has happened
pub stays_down : (o : Opening) (n : Name) (b : Bool) (z : Node) (s : Shared) (fs : Faces) (f : Face) (p : protocol.World) → Follows o fs s p → fs n ≡ Some f → z.up ≡ false → z.name ≡ n → IsLeft (landed b z).durable f.node → f.settled ≡ (landed b z).settled → IsBegun z.under_way → z.durable.volume ≡ Sound → Arrives o n b z s fs p
stays_down o n b z s fs f p h found down named left settled begun volume = record {
  steps = [];
  face = f;
  is = face_down b z f down (record { left = left; settled = settled; begun = begun });
  follows = follows_same o fs (put_face n f fs) s p (put_itself n f fs found) h;
  named = named;
  volume = ap (λ d. elim d [ Sound ↦ true | world.Faulty condition block ↦ false | world.Barred bar ↦ false | world.Unknown ↦ false ]) volume;
}

pub quiet_lands : (b : Bool) (z : Node) → z.under_way ≡ None → landed b z ≡ z
quiet_lands false z e = refl
quiet_lands true z e = ap (λ u. elim u [ Some act ↦ acted act z | None ↦ z ]) e

pub boot_unbegun : (o : Opening) (n : Name) (b : Bool) (y : Node) (s : Shared) (fs : Faces) (f : Face) (p : protocol.World) → Follows o fs s p → fs n ≡ Some f → y.name ≡ n → IsLeft y.durable f.node → f.settled ≡ y.settled → Arrives o n b (fallen None y) s fs p
boot_unbegun o n b y s fs f p h found named left settled =
    let z : Node = fallen None y in
    let P : Node → Type 0 = λ w. IsLeft w.durable f.node in
    stays_down o n b z s fs f p h found refl named (subst P (sym (quiet_lands b z refl)) left) (settled ∙ ap (λ (w : Node). w.settled) (sym (quiet_lands b z refl))) tt left.volume

boot_begun : (o : Opening) (n : Name) (b : Bool) (y : Node) (s : Shared) (fs : Faces) (f : Face) (p : protocol.World) → IsReached o p → Follows o fs s p → fs n ≡ Some f → y.name ≡ n → IsLeft y.durable f.node → f.settled ≡ y.settled → Arrives o n b (fallen (Some Boots) y) s fs p
boot_begun o n false y s fs f p r h found named left settled = stays_down o n false (fallen (Some Boots) y) s fs f p h found refl named left settled refl left.volume
boot_begun o n true y s fs f p r h found named left settled =
    let v = raises o n y s fs f p r h found named left settled in
    let y1 : Node = acted Boots y in
    let f1 : Face = standing v.lost y1 in
    let w : protocol.World = run (swaps_of v.places n) p in
    let fell = follows_crash o n f1 (put_face n f1 fs) s (raised n v.order w) v.follows (put_here n f1 fs) in
    let is : run (swaps_of v.places n ++ BootStops 0 n v.order ∷ []) p ≡ crashes n (raised n v.order w) = run-append (swaps_of v.places n) (BootStops 0 n v.order ∷ []) p ∙ boots_some_is 0 n v.order w (undo_all (left_keys y.durable)) v.may v.undoes in
    let F : protocol.World → Type 0 = λ q. Follows o (put_face n (lying v.lost y1) fs) s q in
    record {
      steps = swaps_of v.places n ++ BootStops 0 n v.order ∷ [];
      face = lying v.lost y1;
      is = face_down true (fallen (Some Boots) y) (lying v.lost y1) refl (record { left = told_left v.lost y1 v.told; settled = refl; begun = refl });
      follows = subst F (sym is) (put_on o n f1 (lying v.lost y1) fs s (crashes n (raised n v.order w)) fell);
      named = named;
      volume = ap (λ d. elim d [ Sound ↦ true | world.Faulty condition block ↦ false | world.Barred bar ↦ false | world.Unknown ↦ false ]) left.volume;
    }

pub boot_cut : (o : Opening) (n : Name) (b : Bool) (j : ℕ) (begun : Bool) (y : Node) (s : Shared) (fs : Faces) (f : Face) (p : protocol.World) → IsReached o p → Follows o fs s p → fs n ≡ Some f → y.name ≡ n → IsLeft y.durable f.node → f.settled ≡ y.settled
    → Arrives o n b (cut_node (boot_rows s y) j begun y) (shared_after_rows (take j (boot_rows s y)) s) fs p
boot_cut o n b zero true y s fs f p r h found named left settled = boot_begun o n b y s fs f p r h found named left settled
boot_cut o n b zero false y s fs f p r h found named left settled = boot_unbegun o n b y s fs f p h found named left settled
boot_cut o n b (suc j) begun y s fs f p r h found named left settled =
    let v = raises o n y s fs f p r h found named left settled in
    let todo : List table.Act = undo_all (left_keys y.durable) in
    let y1 : Node = acted Boots y in
    let rs : List Row = undo_rows y s in
    let match = undo_match o n y s fs p v in
    let k = rows_keep (take j rs) (take j todo) v.lost y1 (take_match j rs todo v.lost y1 match) in
    let f1 : Face = standing v.lost y1 in
    let w : protocol.World = run (swaps_of v.places n) p in
    let c = cut_goes o n b rs todo j begun v.lost y1 (put_face n f1 fs) s (raised n v.order w) match v.told v.follows (put_here n f1 fs) in
    let q : protocol.World = crashes n (acts_all n (take c.done todo) (raised n v.order w)) in
    let fell = fell_on o n b (cut_node rs j begun y1) (shared_after_rows (take j rs) s) f1 fs q c.fell in
    let is : run (swaps_of v.places n ++ BootStops c.done n v.order ∷ []) p ≡ q = run-append (swaps_of v.places n) (BootStops c.done n v.order ∷ []) p ∙ boots_some_is c.done n v.order w todo v.may v.undoes in
    let F : protocol.World → Type 0 = λ u. Follows o (put_face n fell.face fs) (shared_after_rows (take j rs) s) u in
    record {
      steps = swaps_of v.places n ++ BootStops c.done n v.order ∷ [];
      face = fell.face;
      is = face_down b (cut_node rs j begun y1) fell.face refl fell.is;
      follows = subst F (sym is) fell.follows;
      named = k.name ∙ named;
      volume = k.volume ∙ ap (λ d. elim d [ Sound ↦ true | world.Faulty condition block ↦ false | world.Barred bar ↦ false | world.Unknown ↦ false ]) left.volume;
    }

-- The disk runs again.

-- whether an act that was under way has taken place, where it turned out so
abbrev pub taken_of : Outturn → Bool
taken_of Lost = false
taken_of Taken = true
taken_of (Half standing) = false

half_left : (a : Option Id) (m : List ℕ → Map) (d : Durable) (y : protocol.Node) → IsLeft d y → IsLeft (with_half a m d) y
half_left None m d y h = h
half_left (Some serial) m d y h = record {
  down = h.down;
  boot = h.boot;
  last = h.last;
  records = h.records;
  table = h.table;
  prepared = h.prepared;
  committed = h.committed;
  there = h.there;
  back = h.back;
  distinct = h.distinct;
  unwaiting = h.unwaiting;
  slots = h.slots;
  volume = h.volume;
  units = h.units;
}

-- what is left of a node once its disk runs again
pub record Powered (x y : Node) (f : Face) : Type 0 where
  pub left : IsLeft y.durable f.node
  pub settled : f.settled ≡ y.settled
  pub quiet : y.under_way ≡ None
  pub down : y.up ≡ false
  pub named : y.name ≡ x.name

kept_by : (act : Act) (x : Node) → x.up ≡ false → is_durable act ≡ true → ((acted act x).up ≡ false) × ((acted act x).name ≡ x.name)
kept_by Boots x e n = (e, refl)
kept_by (world.Creates place file) x e n = (e, refl)
kept_by (world.Marks file mark) x e n = (e, refl)
kept_by (world.Saves file start) x e n = (e, refl)
kept_by (world.Recovers file start buckets m) x e n = (e, refl)
kept_by (Tables a moment) x e n = (e, refl)
kept_by (world.Changes tid serial file changes keys) x e n = (e, refl)
kept_by (world.Directs file changes t) x e n = (e, refl)
kept_by (world.Formats slots journal) x e n = absurd (let f : false ≡ true = n in cc)
kept_by ComesUp x e n = absurd (let f : false ≡ true = n in cc)
kept_by world.Draws x e n = absurd (let f : false ≡ true = n in cc)
kept_by (world.Labels l) x e n = absurd (let f : false ≡ true = n in cc)
kept_by (world.Numbers label serial) x e n = absurd (let f : false ≡ true = n in cc)
kept_by (world.Holds serial file keys) x e n = absurd (let f : false ≡ true = n in cc)
kept_by (world.Arms writes choice) x e n = absurd (let f : false ≡ true = n in cc)
kept_by (world.Clocks now) x e n = absurd (let f : false ≡ true = n in cc)
kept_by (world.Declares rms) x e n = absurd (let f : false ≡ true = n in cc)
kept_by world.Falls x e n = absurd (let f : false ≡ true = n in cc)

pub power_goes : (outturn : Outturn) (stops : ℕ) (x : Node) (f : Face) → x.up ≡ false → IsDownFace (taken_of outturn) x f → Powered x (powered outturn stops x) f
power_goes Lost stops x f down h = record { left = h.left; settled = h.settled; quiet = refl; down = down; named = refl }
power_goes (Half standing) stops x f down h = record { left = half_left (aborted_prepared x.under_way x.durable) standing x.durable f.node h.left; settled = h.settled; quiet = refl; down = down; named = refl }
power_goes Taken stops x f down h = go x.under_way refl
  where
    go : (u : Option Act) → x.under_way ≡ u → Powered x (powered Taken stops x) f
    go None e =
        let P : Option Act → Type 0 = λ a. Powered x (let z : Node = powered Taken stops (record x { under_way = a }) in z) f in
        let Q : Option Act → Type 0 = λ a. IsLeft (landed true (record x { under_way = a })).durable f.node in
        let R : Option Act → Type 0 = λ a. f.settled ≡ (landed true (record x { under_way = a })).settled in
        subst P (sym e) (record { left = subst Q e h.left; settled = subst R e h.settled; quiet = refl; down = down; named = refl })
    go (Some act) e =
        let P : Option Act → Type 0 = λ a. Powered x (let z : Node = powered Taken stops (record x { under_way = a }) in z) f in
        let Q : Option Act → Type 0 = λ a. IsLeft (landed true (record x { under_way = a })).durable f.node in
        let R : Option Act → Type 0 = λ a. f.settled ≡ (landed true (record x { under_way = a })).settled in
        let B : Option Act → Type 0 = λ a. IsBegun a in
        let k = kept_by act (record x { under_way = Some act }) down (subst B e h.begun) in
        subst P (sym e) (record { left = subst Q e h.left; settled = subst R e h.settled; quiet = refl; down = k.0; named = k.1 })
