-- Every order of a node's committed records is reached by swaps of neighbours, and a node may restart with it.
use mathlib.Core.Path.{fun_ext}
use Rattle.std.proofs.lemmas.Bool.{cases_Bool}
use Rattle.std.specs.Prelude.{not, ◌&&◌}
use Rattle.std.proofs.Common.{◌≡◌, ℕ, suc, true, List, [], ◌∷◌, ◌++◌, inl, inr, refl, ap, sym, subst, ◌∙◌}
use Rattle.commit_protocol.specs.Messages.{Name, LogRecord, same_name}
use Rattle.commit_protocol.specs.Table.{Key, prepared_records, restarted}
use Rattle.commit_protocol.specs.World.{Node, World, Step, at_node, swapped, swaps, run, tm_at, may_boot, boots}
use Rattle.commit_protocol.specs.Opening.{Opening, IsAgreeing, AreRearranged, record_keys, opened}
use Rattle.commit_protocol.specs.Orders.{IsPermuted, reordered, swaps_of}
use Rattle.commit_protocol.proofs.Lists.{cases_name}
use Rattle.commit_protocol.proofs.Bridge.{node_same, node_other}
use Rattle.commit_protocol.proofs.Running.{run-append}
use Rattle.commit_protocol.proofs.Resting.{restart_from}

-- the records after these swaps
abbrev ordered : List ℕ → List LogRecord → List LogRecord
ordered [] rs = rs
ordered (i ∷ is) rs = ordered is (swapped i rs)

-- the same swaps behind one more record
abbrev later : List ℕ → List ℕ
later [] = []
later (i ∷ is) = suc i ∷ later is

ordered_later : (is : List ℕ) (r : LogRecord) (rs : List LogRecord) → ordered (later is) (r ∷ rs) ≡ r ∷ ordered is rs
ordered_later [] r rs = refl
ordered_later (i ∷ is) r rs = ordered_later is r (swapped i rs)

ordered_append : (is js : List ℕ) (rs : List LogRecord) → ordered (is ++ js) rs ≡ ordered js (ordered is rs)
ordered_append [] js rs = refl
ordered_append (i ∷ is) js rs = ordered_append is js (swapped i rs)

to_front : (front : List LogRecord) (p : LogRecord) (back : List LogRecord) → (is : List ℕ) × (ordered is (front ++ p ∷ back) ≡ p ∷ (front ++ back))
to_front [] p back = ([], refl)
to_front (x ∷ front) p back =
    let q = to_front front p back in
    (later q.0 ++ 0 ∷ [], ordered_append (later q.0) (0 ∷ []) (x ∷ (front ++ p ∷ back)) ∙ ap (swapped 0) (ordered_later q.0 x (front ++ p ∷ back) ∙ ap (λ rs. x ∷ rs) q.1))

permuted : (ps qs : List LogRecord) → IsPermuted ps qs → (is : List ℕ) × (ordered is qs ≡ ps)
permuted [] qs h = ([], h)
permuted (p ∷ ps) qs h =
    let one = to_front h.0 p h.1 in
    let two = permuted ps (h.0 ++ h.1) h.3 in
    (one.0 ++ later two.0, ordered_append one.0 (later two.0) qs ∙ (ap (ordered (later two.0)) (ap (ordered one.0) h.2 ∙ one.1) ∙ (ordered_later two.0 p (h.0 ++ h.1) ∙ ap (λ rs. p ∷ rs) two.1)))

-- a node set twice, and set as it is
at_twice : (n : Name) (a b : Node) (nodes : Name → Node) (m : Name) → at_node n b (at_node n a nodes) m ≡ at_node n b nodes m
at_twice n a b nodes m = elim (cases_Bool (same_name m n)) [
  | inl e ↦ rw e refl
  | inr e ↦ rw e refl
]

at_same : (n : Name) (nodes : Name → Node) (m : Name) → nodes m ≡ at_node n (nodes n) nodes m
at_same n nodes m = elim (cases_name m n) [
  | inl e ↦ (let P : Name → Type 0 = λ x. nodes x ≡ at_node n (nodes n) nodes x in subst P (sym e) (sym (node_same n (nodes n) nodes)))
  | inr e ↦ sym (node_other n (nodes n) nodes m e)
]

with_nodes : (w : World) (f g : Name → Node) → ((m : Name) → f m ≡ g m) → (let x : World = record w { nodes = f } in x) ≡ (let y : World = record w { nodes = g } in y)
with_nodes w f g e = ap (λ h. (let x : World = record w { nodes = h } in x)) (fun_ext e)

reordered_same : (n : Name) (w : World) → w ≡ reordered n (w.nodes n).records w
reordered_same n w = with_nodes w w.nodes (at_node n (w.nodes n) w.nodes) (at_same n w.nodes)

reordered_twice : (n : Name) (rs qs : List LogRecord) (w : World) → reordered n qs (reordered n rs w) ≡ reordered n qs w
reordered_twice n rs qs w =
    let a : Node = record (w.nodes n) { records = rs } in
    let here : at_node n a w.nodes n ≡ a = node_same n a w.nodes in
    ap (λ (x : Node). (let z : World = record w { nodes = at_node n (record x { records = qs }) (at_node n a w.nodes) } in z)) here
    ∙ with_nodes w (at_node n (record (w.nodes n) { records = qs }) (at_node n a w.nodes)) (at_node n (record (w.nodes n) { records = qs }) w.nodes) (at_twice n a (record (w.nodes n) { records = qs }) w.nodes)

run_reordered : (is : List ℕ) (n : Name) (w : World) → run (swaps_of is n) w ≡ reordered n (ordered is (w.nodes n).records) w
run_reordered [] n w = reordered_same n w
run_reordered (i ∷ is) n w =
    let rs : List LogRecord = swapped i (w.nodes n).records in
    let here : ((swaps i n w).nodes n).records ≡ rs = ap (λ (x : Node). x.records) (node_same n (record (w.nodes n) { records = rs }) w.nodes) in
    run_reordered is n (swaps i n w) ∙ (ap (λ qs. reordered n (ordered is qs) (swaps i n w)) here ∙ reordered_twice n rs (ordered is rs) w)

pub any_order : (w : World) (n : Name) (ps : List LogRecord) → IsPermuted ps (w.nodes n).records → (places : List ℕ) × (run (swaps_of places n) w ≡ reordered n ps w)
any_order w n ps h =
    let q = permuted ps (w.nodes n).records h in
    (q.0, run_reordered q.0 n w ∙ ap (λ rs. reordered n rs w) q.1)

pub restart_in_any_order : (o : Opening) → IsAgreeing o → (steps : List Step) (n : Name) (prepared committed : List LogRecord) (units : List Key)
    → may_boot n (run steps (opened o)) ≡ true → AreRearranged prepared (prepared_records ((run steps (opened o)).nodes n).table) → IsPermuted committed ((run steps (opened o)).nodes n).records
    → tm_at (boots n (record_keys prepared ++ units) (reordered n committed (run steps (opened o)))) n ≡ restarted n prepared committed
restart_in_any_order o a steps n prepared committed units may same order =
    let w : World = run steps (opened o) in
    let q = any_order w n committed order in
    let x : World = run (steps ++ swaps_of q.0 n) (opened o) in
    let is : x ≡ reordered n committed w = run-append steps (swaps_of q.0 n) (opened o) ∙ q.1 in
    let new : Node = record (w.nodes n) { records = committed } in
    let here : (reordered n committed w).nodes n ≡ new = node_same n new w.nodes in
    let M : World → Type 0 = λ y. may_boot n y ≡ true in
    let R : World → Type 0 = λ y. AreRearranged prepared (prepared_records (y.nodes n).table) in
    let T : World → Type 0 = λ y. tm_at (boots n (record_keys prepared ++ units) y) n ≡ restarted n prepared (y.nodes n).records in
    let S : List LogRecord → Type 0 = λ rs. AreRearranged prepared rs in
    let up : may_boot n (reordered n committed w) ≡ true = ap (λ (y : Node). w.rack n && not y.up) here ∙ may in
    let table : AreRearranged prepared (prepared_records ((reordered n committed w).nodes n).table) = subst S (sym (ap (λ (y : Node). prepared_records y.table) here)) same in
    let t : tm_at (boots n (record_keys prepared ++ units) (reordered n committed w)) n ≡ restarted n prepared ((reordered n committed w).nodes n).records =
    subst T is (restart_from o a (steps ++ swaps_of q.0 n) n prepared units (subst M (sym is) up) (subst R (sym is) table)) in
    t ∙ ap (λ (y : Node). restarted n prepared y.records) here
