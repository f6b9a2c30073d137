-- Draws, crashes and boots.
use Rattle.std.proofs.lemmas.Bool.{cases_Bool, and_parts, not-true}
use Rattle.std.specs.Prelude.{if◌then◌else◌, not}
use Rattle.std.proofs.Common.{◌≡◌, ◌≢◌, ℕ, ◌≤◌, Bool, true, false, List, [], ◌∷◌, ◌++◌, Option, Some, None, ◌⊎◌, inl, inr, refl, ap, sym, subst, ◌∙◌, arith, ◌+◌, take}
use mathlib.Core.Path.{fun_ext}
use Rattle.vms_model.specs.Ids.{Id}
use Rattle.vms_model.specs.Transactions.{Outcome, Commit as ToCommit}
use Rattle.commit_protocol.specs.Messages.{Name}
use Rattle.commit_protocol.specs.Table.{Key, Branch, State, Joining, Active, Ending, Voting, Prepared, Act, Notes, same_key, first, home_of, find, cut, prepared_record, prepared_state, prepared_records, branch_of, branches_of}
use Rattle.commit_protocol.specs.World.{Node, World, In, at_node, node_after, acts, acts_all, next_id, draws, unit_of, units_of, crashed, crashes, commits_alone, arranged_by, arranged, units_in_order, undoes_lost, raised_node, raised, may_boot, boots, boots_some}
use Rattle.commit_protocol.specs.Agreement.{Gone, Running, Ready, phase_of, phase, Status, View, view, IsRunning, IsOld}
use Rattle.commit_protocol.proofs.Lists.{find-cut, find-cut_other, unique-cut, set_at, told_key, find-key, same_key-refl, cases_name, in_parts, Unique}
use Rattle.commit_protocol.proofs.Invariant.{Inv, Later, Kept}
use Rattle.commit_protocol.proofs.Settling.{not_both}
use Rattle.commit_protocol.proofs.Bridge.{acted, view_acts, part_same, node_same, node_other}
use Rattle.commit_protocol.proofs.Acting.{Good, Goes, LastFrom, last_same, some_same, goes_refl, goes_trans, goes_all, home_acts, unique_acts, lost_acts, acts_up, may_undo, apart_in_order, in_order, MayAll, may_take}
use Rattle.commit_protocol.proofs.Beginning.{directs, directs_keeps, ticks, ticks_keeps, opens, opens_keeps, falls, falls_keeps}

-- a node whose counts alone changed
find_part : (n : Name) (new : Node) (nodes : Name → Node) → new.table ≡ (nodes n).table → (k : Key) → find k (at_node n new nodes k.serial.node).table ≡ find k (nodes k.serial.node).table
find_part n new nodes e k = part_same (λ x. find k x.table) n new nodes (ap (λ (t : List Branch). find k t) e) k.serial.node

-- an id stays old where boots rise, and sequences too within a boot
pub record Rises (there : Bool) (old new : Node) : Type 0 where
  pub boot : old.boot ≤ new.boot
  pub seq : (i : Id) → (there ≡ true → i.boot ≤ old.boot) → (old.up ≡ true → i.boot ≡ old.boot → i.seq ≤ old.seq) → new.up ≡ true → i.boot ≡ new.boot → i.seq ≤ new.seq

rises_all : (rack : Name → Bool) (n : Name) (new : Node) (nodes : Name → Node) → Rises (rack n) (nodes n) new → (m : Name) → Rises (rack m) (nodes m) (at_node n new nodes m)
rises_all rack n new nodes r m =
    elim (cases_name m n) [
      | inl q ↦ let P : Name → Type 0 = λ x. Rises (rack x) (nodes x) (at_node n new nodes x) in let Q : Node → Type 0 = λ x. Rises (rack n) (nodes n) x in
          subst P (sym q) (subst Q (sym (node_same n new nodes)) r)
      | inr q ↦ let Q : Node → Type 0 = λ x. Rises (rack m) (nodes m) x in subst Q (sym (node_other n new nodes m q)) (record { boot = omega arith; seq = λ i b s. s })
    ]

old_boot : (w x : World) (i : Id) → Rises (w.rack i.node) (w.nodes i.node) (x.nodes i.node) → IsOld (view w) i → w.rack i.node ≡ true → i.boot ≤ (x.nodes i.node).boot
old_boot w x i r h t = let a : i.boot ≤ (w.nodes i.node).boot = h.boot t in let b = r.boot in omega arith

abbrev pub drawn : Name → World → Option (Key × Outcome) → Node
drawn n w last = record (w.nodes n) { seq = (w.nodes n).seq + 1; last = last }

rises_drawn : (n : Name) (w : World) (last : Option (Key × Outcome)) → Rises (w.rack n) (w.nodes n) (drawn n w last)
rises_drawn n w last = record { boot = omega arith; seq = λ i b s u e. let q = s u e in omega arith }

new_not_old : (n : Name) (w : World) → (w.nodes n).up ≡ true → IsOld (view w) (next_id w n) → ⊥
new_not_old n w u h = let q = h.seq u refl in omega arith

-- the nodes after a draw
abbrev pub drew : Name → World → Option (Key × Outcome) → Name → Node
drew n w last = at_node n (drawn n w last) w.nodes

abbrev pub status_of : (Name → Node) → Name → Status
status_of nodes m = record { up = (nodes m).up; boot = (nodes m).boot; seq = (nodes m).seq }

new_boot : (n : Name) (w : World) (last : Option (Key × Outcome)) → (w.nodes n).boot ≤ (drew n w last n).boot
new_boot n w last = rw (node_same n (drawn n w last) w.nodes) (omega arith)

new_seq : (n : Name) (w : World) (last : Option (Key × Outcome)) → (w.nodes n).seq + 1 ≤ (drew n w last n).seq
new_seq n w last = rw (node_same n (drawn n w last) w.nodes) (omega arith)

-- what a draw keeps of each node
at_drew : (n : Name) (w : World) (last : Option (Key × Outcome)) → (λ (k : Key). find k (drew n w last (home_of k)).table) ≡ (view w).at
at_drew n w last = fun_ext (find_part n (drawn n w last) w.nodes refl)

records_drew : (n : Name) (w : World) (last : Option (Key × Outcome)) → (λ (m : Name). (drew n w last m).records) ≡ (view w).records
records_drew n w last = fun_ext (part_same (λ x. x.records) n (drawn n w last) w.nodes refl)

lost_drew : (n : Name) (w : World) (last : Option (Key × Outcome)) → (λ (m : Name). (drew n w last m).lost) ≡ (view w).lost
lost_drew n w last = fun_ext (part_same (λ x. x.lost) n (drawn n w last) w.nodes refl)

current_drew : (n : Name) (w : World) (last : Option (Key × Outcome)) → Good w → (k : Key) → IsRunning (view w) k → ((status_of (drew n w last) (home_of k)).up ≡ true) × (k.serial.boot ≡ (status_of (drew n w last) (home_of k)).boot)
current_drew n w last g k h =
    let q = g.inv.current k h in
    (part_same (λ x. x.up) n (drawn n w last) w.nodes refl k.serial.node ∙ q.0, q.1 ∙ sym (part_same (λ x. x.boot) n (drawn n w last) w.nodes refl k.serial.node))

rises_drew : (n : Name) (w : World) (last : Option (Key × Outcome)) (m : Name) → Rises (w.rack m) (w.nodes m) (drew n w last m)
rises_drew n w last = rises_all w.rack n (drawn n w last) w.nodes (rises_drawn n w last)

old_drew : (n : Name) (w : World) (last : Option (Key × Outcome)) (v : View) → v.there ≡ w.rack → v.status ≡ status_of (drew n w last) → (i : Id) → IsOld (view w) i → IsOld v i
old_drew n w last v there status i h =
    let r = rises_drew n w last i.node in
    record {
      boot = λ t. let q : w.rack i.node ≡ true = ap (λ (f : Name → Bool). f i.node) (sym there) ∙ t in
          let a : i.boot ≤ (drew n w last i.node).boot = (let b : i.boot ≤ (w.nodes i.node).boot = h.boot q in let c = r.boot in omega arith) in
          let P : (Name → Status) → Type 0 = λ f. i.boot ≤ (f i.node).boot in subst P (sym status) a;
      seq = let P : (Name → Status) → Type 0 = λ f. (f i.node).up ≡ true → i.boot ≡ (f i.node).boot → i.seq ≤ (f i.node).seq in subst P (sym status) (λ a b. r.seq i h.boot h.seq a b);
    }

new_old : (n : Name) (w : World) (last : Option (Key × Outcome)) (v : View) → v.status ≡ status_of (drew n w last) → IsOld v (next_id w n)
new_old n w last v status = record {
  boot = λ t. let P : (Name → Status) → Type 0 = λ f. (w.nodes n).boot ≤ (f n).boot in subst P (sym status) (new_boot n w last);
  seq = λ a b. let P : (Name → Status) → Type 0 = λ f. (w.nodes n).seq + 1 ≤ (f n).seq in subst P (sym status) (new_seq n w last);
}

-- the rest of what holds of a world, after a draw
pub good_drew : (n : Name) (w x : World) (last : Option (Key × Outcome)) → Good w → x.nodes ≡ drew n w last → x.rack ≡ w.rack → Later (view w) (view x) → Inv (view x) → ((p : Id × Id) → In p x.labels → IsOld (view x) p.0) → Good x
good_drew n w x last g nodes rack later inv labels =
    let N : (Name → Node) → Type 0 = λ f. ((m : Name) (k : Key) (b : Branch) → find k (f m).table ≡ Some b → k.serial.node ≡ m) in
    let U : (Name → Node) → Type 0 = λ f. (m : Name) → Unique (f m).table in
    let L : (Name → Node) → Type 0 = λ f. (m : Name) (k : Key) → In k (f m).lost → k.serial.node ≡ m in
    let R : (Name → Node) → Type 0 = λ f. (m : Name) → (f m).up ≡ true → w.rack m ≡ true in
    let S : (Name → Bool) → Type 0 = λ f. (m : Name) → (x.nodes m).up ≡ true → f m ≡ true in
    record {
      inv = inv;
      home = subst N (sym nodes) (λ m k b e. g.home m k b (sym (part_same (λ y. find k y.table) n (drawn n w last) w.nodes refl m) ∙ e));
      unique = subst U (sym nodes) (λ m. let P : List Branch → Type 0 = λ y. Unique y in subst P (sym (part_same (λ y. y.table) n (drawn n w last) w.nodes refl m)) (g.unique m));
      labels = labels;
      rack_up = subst S (sym rack) (subst R (sym nodes) (λ m u. g.rack_up m (sym (part_same (λ y. y.up) n (drawn n w last) w.nodes refl m) ∙ u)));
      lost_home = subst L (sym nodes) (λ m k j. g.lost_home m k (let T : List Key → Type 0 = λ y. In k y in subst T (part_same (λ y. y.lost) n (drawn n w last) w.nodes refl m) j));
    }

last_drew : (n : Name) (w : World) (m : Name) → (drew n w (w.nodes n).last m).last ≡ (w.nodes m).last
last_drew n w m = part_same (λ x. x.last) n (drawn n w (w.nodes n).last) w.nodes refl m

view_draws : (n : Name) (w : World) → view (draws n w) ≡ ticks (view w) (status_of (drew n w (w.nodes n).last)) (next_id w n ∷ w.made)
view_draws n w =
    let last = (w.nodes n).last in
    let pa = at_drew n w last in
    let pr = records_drew n w last in
    let pl = lost_drew n w last in
    λ i. record { there = w.rack; at = pa i; records = pr i; status = status_of (drew n w last); sent = w.sent; accepted = w.accepted; read_only = w.read_only; settled = w.settled; shown = w.shown; lost = pl i; made = next_id w n ∷ w.made }

pub goes_draws : (n : Name) (w : World) → Good w → (w.nodes n).up ≡ true → Goes w (draws n w)
goes_draws n w g u =
    let last = (w.nodes n).last in
    let c = status_of (drew n w last) in
    let made : List Id = next_id w n ∷ w.made in
    let v : View = view w in
    let t : View = ticks v c made in
    let old : (i : Id) → IsOld v i → IsOld t i = old_drew n w last t refl refl in
    let new : IsOld t (next_id w n) = new_old n w last t refl in
    let k = ticks_keeps v c made g.inv old (current_drew n w last g)
    (λ i h. elim h [ inl e ↦ let P : Id → Type 0 = λ x. IsOld t x in subst P (sym e) new | inr e ↦ old i (g.inv.old_made i e) ])
    ((λ h. new_not_old n w u (g.inv.old_made (next_id w n) h)), g.inv.distinct) in
    let P : View → Type 0 = λ x. Kept v x in
    let q : Kept v (view (draws n w)) = subst P (sym (view_draws n w)) k in
    record {
      good = good_drew n w (draws n w) last g refl refl q.later q.inv (λ p h. q.later.old p.0 (g.labels p h));
      later = q.later;
      last = last_same w (draws n w) (last_drew n w);
      rack = refl;
    }

-- a change without a transaction
abbrev alone : World → Name → Option (Key × Outcome)
alone w n = Some (first (next_id w n), ToCommit)

view_alone : (n : Name) (w : World) → view (commits_alone n w) ≡ directs (view w) (next_id w n) (status_of (drew n w (alone w n)))
view_alone n w =
    let last = alone w n in
    let pa = at_drew n w last in
    let pr = records_drew n w last in
    let pl = lost_drew n w last in
    λ i. record { there = w.rack; at = pa i; records = pr i; status = status_of (drew n w last); sent = w.sent; accepted = w.accepted; read_only = w.read_only; settled = (first (next_id w n), ToCommit) ∷ w.settled; shown = w.shown; lost = pl i; made = next_id w n ∷ w.made }

last_alone : (n : Name) (w : World) → LastFrom w (commits_alone n w)
last_alone n w m p e =
    elim (cases_name m n) [
      | inl q ↦
          let A : Name → Type 0 = λ x. (drew n w (alone w n) x).last ≡ Some p in
          let e' : alone w n ≡ Some p = ap (λ (x : Node). x.last) (sym (node_same n (drawn n w (alone w n)) w.nodes)) ∙ subst A q e in
          let same : (first (next_id w n), ToCommit) ≡ p = some_same e' in
          inl ((ap (λ (x : Key × Outcome). home_of x.0) (sym same) ∙ sym q), inl (sym same))
      | inr q ↦ inr (ap (λ (x : Node). x.last) (sym (node_other n (drawn n w (alone w n)) w.nodes m q)) ∙ e)
    ]

pub goes_alone : (n : Name) (w : World) → Good w → (w.nodes n).up ≡ true → Goes w (commits_alone n w)
goes_alone n w g u =
    let last = alone w n in
    let c = status_of (drew n w last) in
    let v : View = view w in
    let x : View = directs v (next_id w n) c in
    let k = directs_keeps v (next_id w n) c g.inv (old_drew n w last x refl refl) (new_not_old n w u) (new_old n w last x refl) (current_drew n w last g) in
    let P : View → Type 0 = λ y. Kept v y in
    let q : Kept v (view (commits_alone n w)) = subst P (sym (view_alone n w)) k in
    record {
      good = good_drew n w (commits_alone n w) last g refl refl q.later q.inv (λ p h. q.later.old p.0 (g.labels p h));
      later = q.later;
      last = last_alone n w;
      rack = refl;
    }

-- a branch with the id that was drawn
pub goes_opens : (n : Name) (w : World) (b : Branch) → Good w → (w.nodes n).up ≡ true → b.key.serial ≡ next_id w n → (b.key.tid ≡ next_id w n) ⊎ IsOld (view w) b.key.tid
    → phase_of b.state ≡ Running → b.accepted ≡ [] → b.asked ≡ false → Goes w (acts n (Notes b) (draws n w))
goes_opens n w b g u id tid runs blank unasked =
    let last = (w.nodes n).last in
    let c = status_of (drew n w last) in
    let v : View = view w in
    let home : b.key.serial.node ≡ n = ap (λ (x : Id). x.node) id in
    let o : View = opens v b c in
    let old : (i : Id) → IsOld v i → IsOld o i = old_drew n w last o refl refl in
    let new : IsOld o (next_id w n) = new_old n w last o refl in
    let P : Id → Type 0 = λ x. IsOld o x in
    let N : Id → Type 0 = λ x. IsOld v x → ⊥ in
    let U : Id → Type 0 = λ x. ((c x.node).up ≡ true) × (x.boot ≡ (c x.node).boot) in
    let k = opens_keeps v b c g.inv (record {
      old = old;
      new = subst N (sym id) (new_not_old n w u);
      tid = elim tid [ inl e ↦ subst P (sym e) new | inr e ↦ old b.key.tid e ];
      serial = subst P (sym id) new;
      runs = runs;
      blank = blank;
      unasked = unasked;
      now = subst U (sym id) (ap (λ (x : Node). x.up) (node_same n (drawn n w last) w.nodes) ∙ u, sym (ap (λ (x : Node). x.boot) (node_same n (drawn n w last) w.nodes)));
      current = current_drew n w last g;
    }) in
    let d = goes_draws n w g u in
    let made : Id → Type 0 = λ x. Kept v (record v { at = set_at b.key (Some b) v.at; status = c; made = x ∷ v.made }) in
    let V : View → Type 0 = λ x. Kept v x in
    let W : View → Type 0 = λ x. Kept v (acted n (Notes b) x) in
    let q : Kept v (view (acts n (Notes b) (draws n w))) = subst V (sym (view_acts n (Notes b) (draws n w) home)) (subst W (sym (view_draws n w)) (subst made id k)) in
    record {
      good = record {
        inv = q.inv;
        home = home_acts n (Notes b) (draws n w) home d.good;
        unique = unique_acts n (Notes b) (draws n w) d.good;
        labels = λ p h. q.later.old p.0 (g.labels p h);
        rack_up = λ m u. d.good.rack_up m (sym (acts_up n (Notes b) (draws n w) m) ∙ u);
        lost_home = λ m k j. d.good.lost_home m k (lost_acts n (Notes b) (draws n w) m k j);
      };
      later = q.later;
      last = last_same w (acts n (Notes b) (draws n w)) (λ m. part_same (λ x. x.last) n (node_after (Notes b) ((draws n w).nodes n)) (draws n w).nodes refl m ∙ last_drew n w m);
      rack = refl;
    }

-- a crash
abbrev pub restored : List Branch → List Branch
restored bs = branches_of (prepared_records bs)

restored_none : (k : Key) (bs : List Branch) → find k bs ≡ None → find k (restored bs) ≡ None
restored_none k [] h = refl
restored_none k (b ∷ bs) h =
    elim (cases_Bool (same_key b.key k)) [
      | inl e ↦ absurd (let q : Some b ≡ None = rw e at h in cc)
      | inr e ↦ let h' : find k bs ≡ None = rw e at h in go b.state (restored_none k bs h') e
    ]
  where
    go : (s : State) → find k (restored bs) ≡ None → same_key b.key k ≡ false → find k (branches_of (prepared_state b s (prepared_records bs))) ≡ None
    go Prepared q e = rw e q
    go _ q e = q

abbrev pub RestoredAt : Option Branch → Option Branch → Type 0
RestoredAt old new = ((new ≡ None) × (phase old ≢ Ready)) ⊎ ((b : Branch) × (old ≡ Some b) × (b.state ≡ Prepared) × (new ≡ Some (branch_of (prepared_record b))))

restored_cases : (k : Key) (bs : List Branch) → Unique bs → RestoredAt (find k bs) (find k (restored bs))
restored_cases k [] u = inl (refl, λ h. let e : Gone ≡ Ready = h in cc)
restored_cases k (b ∷ bs) u =
    elim (told_key b.key k) [
      | inl e ↦ rw (e.0) (here b.state refl (let P : Key → Type 0 = λ x. find x bs ≡ None in subst P e.1 u.0) e.0)
      | inr e ↦ rw (e.0) (there b.state (restored_cases k bs u.1) e.0)
    ]
  where
    here : (s : State) → b.state ≡ s → find k bs ≡ None → same_key b.key k ≡ true → RestoredAt (Some b) (find k (branches_of (prepared_state b s (prepared_records bs))))
    here Prepared e n t = inr (b, refl, e, rw t refl)
    here Joining e n t = inl (restored_none k bs n, λ h. let q : Running ≡ Ready = sym (ap phase_of e) ∙ h in cc)
    here Active e n t = inl (restored_none k bs n, λ h. let q : Running ≡ Ready = sym (ap phase_of e) ∙ h in cc)
    here Ending e n t = inl (restored_none k bs n, λ h. let q : Running ≡ Ready = sym (ap phase_of e) ∙ h in cc)
    here Voting e n t = inl (restored_none k bs n, λ h. let q : Running ≡ Ready = sym (ap phase_of e) ∙ h in cc)

    there : (s : State) → RestoredAt (find k bs) (find k (restored bs)) → same_key b.key k ≡ false → RestoredAt (find k bs) (find k (branches_of (prepared_state b s (prepared_records bs))))
    there Prepared q t = rw t q
    there _ q t = q

-- a unit that a crash leaves is of a branch that was unprepared
abbrev pub WasRunning : Key → List Branch → Type 0
WasRunning k bs = (b : Branch) × (find k bs ≡ Some b) × (phase_of b.state ≡ Running)

behind : (k : Key) (b : Branch) (bs : List Branch) → find b.key bs ≡ None → WasRunning k bs → WasRunning k (b ∷ bs)
behind k b bs none h =
    elim (told_key b.key k) [
      | inl e ↦ absurd (let P : Key → Type 0 = λ x. find x bs ≡ None in let q : None ≡ Some h.0 = sym (subst P e.1 none) ∙ h.1 in cc)
      | inr e ↦ rw (e.0) h
    ]

in_front : (k : Key) (b : Branch) (bs : List Branch) → k ≡ b.key → phase_of b.state ≡ Running → WasRunning k (b ∷ bs)
in_front k b bs e p = let P : Key → Type 0 = λ x. find x (b ∷ bs) ≡ Some b in (b, subst P (sym e) (rw (same_key-refl b.key) refl), p)

unit_running : (k : Key) (b : Branch) (bs : List Branch) → phase_of b.state ≡ Running → (In k (units_of bs) → WasRunning k (b ∷ bs)) → In k (if b.changed then b.key ∷ units_of bs else units_of bs) → WasRunning k (b ∷ bs)
unit_running k b bs p rest h =
    elim (cases_Bool b.changed) [
      | inl t ↦ let h' : In k (b.key ∷ units_of bs) = rw t at h in elim h' [ inl e ↦ in_front k b bs e p | inr e ↦ rest e ]
      | inr t ↦ let h' : In k (units_of bs) = rw t at h in rest h'
    ]

unit_cases : (k : Key) (b : Branch) (bs : List Branch) (s : State) → b.state ≡ s → (In k (units_of bs) → WasRunning k (b ∷ bs)) → In k (unit_of b s (units_of bs)) → WasRunning k (b ∷ bs)
unit_cases k b bs Prepared e rest h = rest h
unit_cases k b bs Joining e rest h = unit_running k b bs (ap phase_of e) rest h
unit_cases k b bs Active e rest h = unit_running k b bs (ap phase_of e) rest h
unit_cases k b bs Ending e rest h = unit_running k b bs (ap phase_of e) rest h
unit_cases k b bs Voting e rest h = unit_running k b bs (ap phase_of e) rest h

pub in_units : (k : Key) (bs : List Branch) → Unique bs → In k (units_of bs) → WasRunning k bs
in_units k [] u h = absurd h
in_units k (b ∷ bs) u h = unit_cases k b bs b.state refl (λ i. behind k b bs u.0 (in_units k bs u.1 i)) h

unique-restored : (bs : List Branch) → Unique bs → Unique (restored bs)
unique-restored [] u = tt
unique-restored (b ∷ bs) u = go b.state (unique-restored bs u.1)
  where
    go : (s : State) → Unique (restored bs) → Unique (branches_of (prepared_state b s (prepared_records bs)))
    go Prepared q = (restored_none b.key bs u.0, q)
    go _ q = q

rises_crashed : (n : Name) (w : World) → Rises (w.rack n) (w.nodes n) (crashed (w.nodes n))
rises_crashed n w = record { boot = omega arith; seq = λ i b s u e. absurd cc }

-- a key's branch after the crash
crash_cases : (n : Name) (w : World) → Good w → (k : Key) → ((k.serial.node ≡ n) × RestoredAt ((view w).at k) ((view (crashes n w)).at k)) ⊎ ((k.serial.node ≡ n → ⊥) × ((view (crashes n w)).at k ≡ (view w).at k))
crash_cases n w g k =
    elim (cases_name k.serial.node n) [
      | inl q ↦ let P : Node → Type 0 = λ x. RestoredAt (find k (w.nodes n).table) (find k x.table) in
          let R : Name → Type 0 = λ m. RestoredAt (find k (w.nodes m).table) (find k ((crashes n w).nodes m).table) in
          inl (q, subst R (sym q) (subst P (sym (node_same n (crashed (w.nodes n)) w.nodes)) (restored_cases k (w.nodes n).table (g.unique n))))
      | inr q ↦ inr (q, ap (λ (x : Node). find k x.table) (node_other n (crashed (w.nodes n)) w.nodes k.serial.node q))
    ]

crash_lost : (n : Name) (w : World) → Good w → (m : Name) (k : Key) → In k ((crashes n w).nodes m).lost → In k (w.nodes m).lost ⊎ (IsRunning (view w) k × (phase ((view (crashes n w)).at k) ≡ Gone))
crash_lost n w g m k h =
    elim (cases_name m n) [
      | inl q ↦
          let P : Name → Type 0 = λ x. In k ((crashes n w).nodes x).lost in
          let Q : Node → Type 0 = λ x. In k x.lost in
          let h' : In k (units_of (w.nodes n).table ++ (w.nodes n).lost) = subst Q (node_same n (crashed (w.nodes n)) w.nodes) (subst P q h) in
          elim (in_parts k (units_of (w.nodes n).table) (w.nodes n).lost h') [
            | inl i ↦
                let r = in_units k (w.nodes n).table (g.unique n) i in
                let home : k.serial.node ≡ n = g.home n k r.0 r.1 in
                let S : Name → Type 0 = λ x. find k (w.nodes x).table ≡ Some r.0 in
                let at : (view w).at k ≡ Some r.0 = subst S (sym home) r.1 in
                let run : IsRunning (view w) k = ap phase at ∙ r.2 in
                elim (crash_cases n w g k) [
                  | inl c ↦ elim (c.1) [
                    | inl d ↦ inr (run, ap phase d.0)
                    | inr d ↦ absurd (not_both ((view w).at k) run (ap phase d.1 ∙ ap phase_of d.2))
                  ]
                  | inr c ↦ absurd (c.0 home)
                ]
            | inr i ↦ inl (let R : Name → Type 0 = λ x. In k (w.nodes x).lost in subst R (sym q) i)
          ]
      | inr q ↦ inl (let Q : Node → Type 0 = λ x. In k x.lost in subst Q (node_other n (crashed (w.nodes n)) w.nodes m q) h)
    ]

view_crashes : (n : Name) (w : World) → view (crashes n w) ≡ falls (view w) (view (crashes n w)).at (view (crashes n w)).status (view (crashes n w)).lost
view_crashes n w =
    let pr = fun_ext (part_same (λ x. x.records) n (crashed (w.nodes n)) w.nodes refl) in
    λ i. record { there = w.rack; at = (view (crashes n w)).at; records = pr i; status = (view (crashes n w)).status; sent = w.sent; accepted = w.accepted; read_only = w.read_only; settled = w.settled; shown = w.shown; lost = (view (crashes n w)).lost; made = w.made }

pub goes_crashes : (n : Name) (w : World) → Good w → Goes w (crashes n w)
goes_crashes n w g =
    let v : View = view w in
    let at = (view (crashes n w)).at in
    let c = (view (crashes n w)).status in
    let lost = (view (crashes n w)).lost in
    let x : View = falls v at c lost in
    let rise : (m : Name) → Rises (w.rack m) (w.nodes m) ((crashes n w).nodes m) = rises_all w.rack n (crashed (w.nodes n)) w.nodes (rises_crashed n w) in
    let k = falls_keeps v at c lost g.inv (record {
      ready = λ k h. elim (crash_cases n w g k) [
        | inl q ↦ elim (q.1) [ inl d ↦ absurd (d.1 h) | inr d ↦ ap phase d.3 ]
        | inr q ↦ ap phase q.1 ∙ h
      ];
      back = λ k h. elim (crash_cases n w g k) [
        | inl q ↦ elim (q.1) [
          | inl d ↦ absurd (h (ap phase d.0))
          | inr d ↦ ap phase d.3 ∙ sym (ap phase d.1 ∙ ap phase_of d.2)
        ]
        | inr q ↦ ap phase q.1
      ];
      keyed = λ k b e. elim (crash_cases n w g k) [
        | inl q ↦ elim (q.1) [
          | inl d ↦ absurd (let z : None ≡ Some b = sym d.0 ∙ e in cc)
          | inr d ↦ let z : Some (branch_of (prepared_record d.0)) ≡ Some b = sym d.3 ∙ e in let s : branch_of (prepared_record d.0) ≡ b = cc in ap (λ (y : Branch). y.key) (sym s) ∙ g.inv.keyed k d.0 d.1
        ]
        | inr q ↦ g.inv.keyed k b (sym q.1 ∙ e)
      ];
      kept = λ k b e r. elim (crash_cases n w g k) [
        | inl q ↦ elim (q.1) [
          | inl d ↦ absurd (let z : None ≡ Some b = sym d.0 ∙ e in cc)
          | inr d ↦ absurd (let z : Some (branch_of (prepared_record d.0)) ≡ Some b = sym d.3 ∙ e in let s : branch_of (prepared_record d.0) ≡ b = cc in let y : Ready ≡ Running = ap (λ (y : Branch). phase_of y.state) s ∙ r in cc)
        ]
        | inr q ↦ sym q.1 ∙ e
      ];
      old = λ i h. record { boot = old_boot w (crashes n w) i (rise i.node) h; seq = λ a b. (rise i.node).seq i h.boot h.seq a b };
      current = λ k h. elim (crash_cases n w g k) [
        | inl q ↦ elim (q.1) [
          | inl d ↦ absurd (let z : Gone ≡ Running = sym (ap phase d.0) ∙ h in cc)
          | inr d ↦ absurd (let z : Ready ≡ Running = sym (ap phase d.3) ∙ h in cc)
        ]
        | inr q ↦
            let r = g.inv.current k (sym (ap phase q.1) ∙ h) in
            let e = node_other n (crashed (w.nodes n)) w.nodes k.serial.node q.0 in
            (ap (λ (y : Node). y.up) e ∙ r.0, r.1 ∙ sym (ap (λ (y : Node). y.boot) e))
      ];
      lost = λ m k h. crash_lost n w g m k h;
    }) in
    let P : View → Type 0 = λ x. Kept v x in
    let q : Kept v (view (crashes n w)) = subst P (sym (view_crashes n w)) k in
    record {
      good = record {
        inv = q.inv;
        home = λ m k b e. elim (cases_name m n) [
          | inl r ↦
              let A : Name → Type 0 = λ x. find k ((crashes n w).nodes x).table ≡ Some b in
              let e' : find k (restored (w.nodes n).table) ≡ Some b = ap (λ (y : Node). find k y.table) (sym (node_same n (crashed (w.nodes n)) w.nodes)) ∙ subst A r e in
              elim (restored_cases k (w.nodes n).table (g.unique n)) [
                | inl d ↦ absurd (let z : None ≡ Some b = sym d.0 ∙ e' in cc)
                | inr d ↦ g.home n k d.0 d.1 ∙ sym r
              ]
          | inr r ↦ g.home m k b (ap (λ (y : Node). find k y.table) (sym (node_other n (crashed (w.nodes n)) w.nodes m r)) ∙ e)
        ];
        unique = λ m. elim (cases_name m n) [
          | inl r ↦ let A : Name → Type 0 = λ x. Unique ((crashes n w).nodes x).table in let B : Node → Type 0 = λ x. Unique x.table in
              subst A (sym r) (subst B (sym (node_same n (crashed (w.nodes n)) w.nodes)) (unique-restored (w.nodes n).table (g.unique n)))
          | inr r ↦ let B : Node → Type 0 = λ x. Unique x.table in subst B (sym (node_other n (crashed (w.nodes n)) w.nodes m r)) (g.unique m)
        ];
        labels = λ p h. q.later.old p.0 (g.labels p h);
        rack_up = λ m u. elim (cases_name m n) [
          | inl r ↦ absurd (let A : Name → Type 0 = λ y. ((crashes n w).nodes y).up ≡ true in let z : false ≡ true = sym (ap (λ (y : Node). y.up) (node_same n (crashed (w.nodes n)) w.nodes)) ∙ subst A r u in cc)
          | inr r ↦ g.rack_up m (ap (λ (y : Node). y.up) (sym (node_other n (crashed (w.nodes n)) w.nodes m r)) ∙ u)
        ];
        lost_home = λ m k h. elim (cases_name m n) [
          | inl r ↦ let A : Name → Type 0 = λ y. In k ((crashes n w).nodes y).lost in let B : Node → Type 0 = λ y. In k y.lost in
              elim (in_parts k (units_of (w.nodes n).table) (w.nodes n).lost (subst B (node_same n (crashed (w.nodes n)) w.nodes) (subst A r h))) [
                | inl u ↦ let z = in_units k (w.nodes n).table (g.unique n) u in g.home n k z.0 z.1 ∙ sym r
                | inr u ↦ g.lost_home n k u ∙ sym r
              ]
          | inr r ↦ let B : Node → Type 0 = λ y. In k y.lost in g.lost_home m k (subst B (node_other n (crashed (w.nodes n)) w.nodes m r) h)
        ];
      };
      later = q.later;
      last = last_same w (crashes n w) (λ m. part_same (λ x. x.last) n (crashed (w.nodes n)) w.nodes refl m);
      rack = refl;
    }

-- a boot: the prepared branches are put in order
pub find-arranged : (order : List Key) (bs : List Branch) (k : Key) → find k (arranged order bs) ≡ find k bs
find-arranged [] bs k = refl
find-arranged (j ∷ order) bs k = go (find j bs) refl (λ x. find-arranged order (cut j bs) x)
  where
    go : (o : Option Branch) → find j bs ≡ o → ((x : Key) → find x (arranged order (cut j bs)) ≡ find x (cut j bs)) → find k (arranged_by o (arranged order (cut j bs))) ≡ find k bs
    go None e rest =
        elim (told_key j k) [
          | inl q ↦ (let P : Key → Type 0 = λ x. find x (arranged order (cut j bs)) ≡ find x bs in subst P q.1 (rest j ∙ (find-cut j bs ∙ sym e)))
          | inr q ↦ rest k ∙ find-cut_other j k bs q.1
        ]
    go (Some b) e rest =
        let key : b.key ≡ j = find-key j bs b e in
        elim (told_key b.key k) [
          | inl q ↦ rw (q.0) (let P : Key → Type 0 = λ x. Some b ≡ find x bs in subst P (sym key ∙ q.1) (sym e))
          | inr q ↦ rw (q.0) (rest k ∙ find-cut_other j k bs (λ z. q.1 (key ∙ z)))
        ]

unique-arranged : (order : List Key) (bs : List Branch) → Unique bs → Unique (arranged order bs)
unique-arranged [] bs u = u
unique-arranged (j ∷ order) bs u = go (find j bs) refl (unique-arranged order (cut j bs) (unique-cut j bs u))
  where
    go : (o : Option Branch) → find j bs ≡ o → Unique (arranged order (cut j bs)) → Unique (arranged_by o (arranged order (cut j bs)))
    go None e q = q
    go (Some b) e q = ((let P : Key → Type 0 = λ x. find x (arranged order (cut j bs)) ≡ None in subst P (sym (find-key j bs b e)) (find-arranged order (cut j bs) j ∙ find-cut j bs)), q)

rises_raised : (n : Name) (order : List Key) (w : World) → w.rack n ≡ true → Rises (w.rack n) (w.nodes n) (raised_node order (w.nodes n))
rises_raised n order w t = record { boot = omega arith; seq = λ i b s u e. absurd (let q : i.boot ≤ (w.nodes n).boot = b t in omega arith) }

view_raised : (n : Name) (order : List Key) (w : World) → view (raised n order w) ≡ ticks (view w) (view (raised n order w)).status w.made
view_raised n order w =
    let pa = fun_ext (λ (k : Key). part_same (λ x. find k x.table) n (raised_node order (w.nodes n)) w.nodes (find-arranged order (w.nodes n).table k) k.serial.node) in
    let pr = fun_ext (part_same (λ x. x.records) n (raised_node order (w.nodes n)) w.nodes refl) in
    let pl = fun_ext (part_same (λ x. x.lost) n (raised_node order (w.nodes n)) w.nodes refl) in
    λ i. record { there = w.rack; at = pa i; records = pr i; status = (view (raised n order w)).status; sent = w.sent; accepted = w.accepted; read_only = w.read_only; settled = w.settled; shown = w.shown; lost = pl i; made = w.made }

pub goes_raised : (n : Name) (order : List Key) (w : World) → Good w → w.rack n ≡ true → (w.nodes n).up ≡ false → Goes w (raised n order w)
goes_raised n order w g rack down =
    let c = (view (raised n order w)).status in
    let v : View = view w in
    let rise : (m : Name) → Rises (w.rack m) (w.nodes m) ((raised n order w).nodes m) = rises_all w.rack n (raised_node order (w.nodes n)) w.nodes (rises_raised n order w rack) in
    let old : (i : Id) → IsOld v i → IsOld (ticks v c w.made) i = λ i h. record { boot = old_boot w (raised n order w) i (rise i.node) h; seq = λ a b. (rise i.node).seq i h.boot h.seq a b } in
    let k = ticks_keeps v c w.made g.inv old
    (λ k h. let q = g.inv.current k h in elim (cases_name k.serial.node n) [
      | inl r ↦ absurd (let U : Name → Type 0 = λ x. (w.nodes x).up ≡ true in let z : false ≡ true = sym down ∙ subst U r q.0 in cc)
      | inr r ↦ let e = node_other n (raised_node order (w.nodes n)) w.nodes k.serial.node r in (ap (λ (y : Node). y.up) e ∙ q.0, q.1 ∙ sym (ap (λ (y : Node). y.boot) e))
    ])
    (λ i h. old i (g.inv.old_made i h)) g.inv.distinct in
    let P : View → Type 0 = λ x. Kept v x in
    let q : Kept v (view (raised n order w)) = subst P (sym (view_raised n order w)) k in
    record {
      good = record {
        inv = q.inv;
        home = λ m k b e. g.home m k b (sym (part_same (λ x. find k x.table) n (raised_node order (w.nodes n)) w.nodes (find-arranged order (w.nodes n).table k) m) ∙ e);
        unique = λ m. elim (cases_name m n) [
          | inl r ↦ let A : Name → Type 0 = λ y. Unique ((raised n order w).nodes y).table in let B : Node → Type 0 = λ y. Unique y.table in
              subst A (sym r) (subst B (sym (node_same n (raised_node order (w.nodes n)) w.nodes)) (unique-arranged order (w.nodes n).table (g.unique n)))
          | inr r ↦ let B : Node → Type 0 = λ y. Unique y.table in subst B (sym (node_other n (raised_node order (w.nodes n)) w.nodes m r)) (g.unique m)
        ];
        labels = λ p h. q.later.old p.0 (g.labels p h);
        rack_up = λ m u. elim (cases_name m n) [
          | inl r ↦ let A : Name → Type 0 = λ y. w.rack y ≡ true in subst A (sym r) rack
          | inr r ↦ g.rack_up m (ap (λ (y : Node). y.up) (sym (node_other n (raised_node order (w.nodes n)) w.nodes m r)) ∙ u)
        ];
        lost_home = λ m k h. g.lost_home m k (let T : List Key → Type 0 = λ x. In k x in subst T (part_same (λ x. x.lost) n (raised_node order (w.nodes n)) w.nodes refl m) h);
      };
      later = q.later;
      last = last_same w (raised n order w) (λ m. part_same (λ x. x.last) n (raised_node order (w.nodes n)) w.nodes refl m);
      rack = refl;
    }

pub goes_if : (w x y : World) (t : Bool) → (t ≡ true → Goes w x) → (t ≡ false → Goes w y) → Goes w (if t then x else y)
goes_if w x y true f g = f refl
goes_if w x y false f g = g refl

-- the lost units may be undone once the boot count is raised
may_undo_lost : (n : Name) (order : List Key) (w : World) → Good w → MayAll n (undoes_lost n order w) (view (raised n order w))
may_undo_lost n order w g =
    let same = part_same (λ x. x.lost) n (raised_node order (w.nodes n)) w.nodes refl in
    may_undo n (units_in_order order (w.nodes n).lost) (view (raised n order w)) (apart_in_order order (w.nodes n).lost)
    (λ k h. let T : List Key → Type 0 = λ x. In k x in subst T (sym (same n)) (in_order order (w.nodes n).lost k h))
    (λ m k h. let T : List Key → Type 0 = λ x. In k x in g.lost_home m k (subst T (same m) h))

pub goes_boots : (n : Name) (order : List Key) (w : World) → Good w → Goes w (boots n order w)
goes_boots n order w g =
    let todo : List Act = undoes_lost n order w in
    goes_if w (acts_all n todo (raised n order w)) w (may_boot n w)
    (λ h. let p = and_parts (w.rack n) (not (w.nodes n).up) h in let a = goes_raised n order w g p.0 (not-true (w.nodes n).up p.1) in
    goes_trans w (raised n order w) (acts_all n todo (raised n order w)) a (goes_all n todo (raised n order w) a.good (may_undo_lost n order w g)))
    (λ h. goes_refl w g)

pub goes_boots_some : (j : ℕ) (n : Name) (order : List Key) (w : World) → Good w → Goes w (boots_some j n order w)
goes_boots_some j n order w g =
    let todo : List Act = undoes_lost n order w in
    let x : World = acts_all n (take j todo) (raised n order w) in
    goes_if w (crashes n x) w (may_boot n w)
    (λ h. let p = and_parts (w.rack n) (not (w.nodes n).up) h in let a = goes_raised n order w g p.0 (not-true (w.nodes n).up p.1) in
    let b = goes_trans w (raised n order w) x a (goes_all n (take j todo) (raised n order w) a.good (may_take n j todo (view (raised n order w)) (may_undo_lost n order w g))) in
    goes_trans w x (crashes n x) b (goes_crashes n x b.good))
    (λ h. goes_refl w g)
