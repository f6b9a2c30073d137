-- The serials that the code keeps in doubt are those of a node's prepared branches, in the order of their preparation.
use Rattle.std.specs.Prelude.{◌&&◌, ◌==◌, slice_get, IsTrue, ◌↔◌}
use Rattle.std.proofs.Common.{◌≡◌, ℕ, zero, suc, List, [], ◌∷◌, Bool, true, false, Option, Some, None, is_some, if◌then◌else◌, inl, inr, refl, sym, ◌∙◌, ap, subst}
use Rattle.std.specs.Str.{bytes_eq}
use Rattle.vms_model.specs.Ids.{Id}
use Rattle.emitter_model.specs.commit_protocol.Agreement.{Distinct}
use Rattle.emitter_model.specs.commit_protocol.Allowed.{is_prepared}
use Rattle.emitter_model.specs.commit_protocol.Table.{Branch, Key, cut, find}
use Rattle.emitter_model.specs.commit_protocol.World.{In, arranged, arranged_by}
use Rattle.emitter_model.specs.commit_protocol.Messages.{same_id}
use Rattle.emitter_model.proofs.commit_protocol.Lists.{find-cut_other, find-key, told_id, told_key}
use Rattle.said_steps.specs.run_model.World.{Node}
use Rattle.said_steps.proofs.run_model.NodeLists.{some_is}
use Rattle.dtm_node.specs.recovery_units.State.{UnitsState}
use Rattle.dtm_node.specs.run_shared.Sharing.{SharedState}
use Rattle.dtm_node.specs.node_table.Standing.{NamesPrepared, unsettled_serials}
use Rattle.dtm_node.specs.Asking.{in_doubt_in}
use Rattle.dtm_node.specs.Nodes.{IsPlaceOf, kept_of, place_of}
use Rattle.dtm_node.specs.node_standing.Standing.{IsDown, IsRunning, NodeState, Place, PlaceRepresents, RepresentsNode}
use Rattle.dtm_node.specs.declared.node.Node as code
use Rattle.dtm_node.specs.declared.node.Place as code_of
use Rattle.dtm_node.specs.declared.node.Place.TheVariants as code_place
use Rattle.block_disk.specs.Disk.{CallLog, DiskState}
use Rattle.run_nodes.specs.Held.{AreNodesIn}
use Rattle.run_nodes.specs.Names.{is_one}
use Rattle.run_nodes.proofs.Entries.{kept_in}
use Rattle.statement_steps.specs.Settling.{doubts_of, in_doubt_of}

-- Branches.

none_in_doubt : (bs : List Branch) → ((b : Branch) → In b bs → is_prepared b.state ≡ true → ⊥) → in_doubt_of bs ≡ []
none_in_doubt [] h = refl
none_in_doubt (b ∷ bs) h = go (is_prepared b.state) refl (none_in_doubt bs (λ x i. h x (inr i)))
  where
    go : (t : Bool) → is_prepared b.state ≡ t → in_doubt_of bs ≡ [] → ◌≡◌ {A = List Id} (if t then b.key.serial ∷ in_doubt_of bs else in_doubt_of bs) []
    go true e more = absurd (h b (inl refl) e)
    go false e more = more

there : (b : Branch) (bs : List Branch) → In b bs → find b.key bs ≡ None → ⊥
there b [] i e = i
there b (x ∷ xs) i e = elim (told_key x.key b.key) [
  | inl q ↦ (let f : Some x ≡ None = rw (q.0) at e in let none : ⊥ = cc in none)
  | inr q ↦ elim i [
    | inl same ↦ q.1 (ap (λ (y : Branch). y.key) (sym same))
    | inr j ↦ there b xs j (rw (q.0) at e)
  ]
]

found_in : (k : Key) (bs : List Branch) (b : Branch) → find k bs ≡ Some b → In b bs
found_in k [] b e = let none : ⊥ = cc in absurd none
found_in k (x ∷ xs) b e = elim (told_key x.key k) [
  | inl q ↦ (let f : Some x ≡ Some b = rw (q.0) at e in let same : b ≡ x = cc in inl same)
  | inr q ↦ inr (found_in k xs b (rw (q.0) at e))
]

in_cut : (k : Key) (bs : List Branch) (b : Branch) → In b (cut k bs) → In b bs × (b.key ≡ k → ⊥)
in_cut k [] b i = absurd i
in_cut k (x ∷ xs) b i = elim (told_key x.key k) [
  | inl q ↦ (let j : In b (cut k xs) = rw (q.0) at i in let r = in_cut k xs b j in (inr r.0, r.1))
  | inr q ↦ (let j : In b (x ∷ cut k xs) = rw (q.0) at i in elim j [
    | inl same ↦ (inl same, λ e. q.1 (ap (λ (y : Branch). y.key) (sym same) ∙ e))
    | inr l ↦ (let r = in_cut k xs b l in (inr r.0, r.1))
  ])
]

cut_none : (k : Key) (bs : List Branch) → find k bs ≡ None → cut k bs ≡ bs
cut_none k [] e = refl
cut_none k (x ∷ xs) e = elim (told_key x.key k) [
  | inl q ↦ (let f : Some x ≡ None = rw (q.0) at e in let none : ⊥ = cc in absurd none)
  | inr q ↦ rw (q.0) (ap (λ ys. x ∷ ys) (cut_none k xs (rw (q.0) at e)))
]

-- Keys that stand among branches without one of them.
standing_cut : (k : Key) (ks : List Key) (bs : List Branch) → is_some (find k bs) ≡ true → (In k.serial (unsettled_serials ks bs) → ⊥) → unsettled_serials ks (cut k bs) ≡ unsettled_serials ks bs
standing_cut k [] bs e none = refl
standing_cut k (j ∷ ks) bs e none = elim (told_key k j) [
  | inl q ↦ absurd (none (subst (λ y. In y.serial (if is_some (find j bs) then j.serial ∷ unsettled_serials ks bs else unsettled_serials ks bs)) (sym q.1) (rw (subst (λ y. is_some (find y bs) ≡ true) q.1 e) (inl refl))))
  | inr q ↦ rw (find-cut_other k j bs q.1) (go (is_some (find j bs)) refl (λ n. standing_cut k ks bs e n))
]
  where
    go : (t : Bool) → is_some (find j bs) ≡ t → ((In k.serial (unsettled_serials ks bs) → ⊥) → unsettled_serials ks (cut k bs) ≡ unsettled_serials ks bs) → ◌≡◌ {A = List Id} (if t then j.serial ∷ unsettled_serials ks (cut k bs) else unsettled_serials ks (cut k bs)) (if t then j.serial ∷ unsettled_serials ks bs else unsettled_serials ks bs)
    go true f more = ap (λ ys. j.serial ∷ ys) (more (λ i. none (rw f (inr i))))
    go false f more = more (λ i. none (rw f i))

names_cut : (k : Key) (ks : List Key) (bs : List Branch) → NamesPrepared (k ∷ ks) bs → NamesPrepared ks (cut k bs)
names_cut k ks bs h = record {
  named = λ b i p. (let r = in_cut k bs b i in elim (h.named b r.0 p) [ inl q ↦ absurd (r.1 q) | inr j ↦ j ]);
  prepared = λ b i j. h.prepared b (in_cut k bs b i).0 (inr j);
}

pub standing_is : (ks : List Key) (bs : List Branch) → Distinct (unsettled_serials ks bs) → NamesPrepared ks bs → unsettled_serials ks bs ≡ in_doubt_of (arranged ks bs)
standing_is [] bs d h = sym (none_in_doubt bs (λ b i p. h.named b i p))
standing_is (k ∷ ks) bs d h = by (find k bs) refl (λ cs x y. standing_is ks cs x y)
  where
    by : (o : Option Branch) → find k bs ≡ o → ((cs : List Branch) → Distinct (unsettled_serials ks cs) → NamesPrepared ks cs → unsettled_serials ks cs ≡ in_doubt_of (arranged ks cs)) → unsettled_serials (k ∷ ks) bs ≡ in_doubt_of (arranged (k ∷ ks) bs)
    by None e again =
        let less : unsettled_serials (k ∷ ks) bs ≡ unsettled_serials ks bs = rw e refl in
        let same = cut_none k bs e in
        let more = again bs (subst Distinct less d) (subst (NamesPrepared ks) same (names_cut k ks bs h)) in
        less ∙ more ∙ sym (ap in_doubt_of (ap (λ o. arranged_by o (arranged ks (cut k bs))) e ∙ ap (arranged ks) same))
    by (Some b) e again =
        let less : unsettled_serials (k ∷ ks) bs ≡ k.serial ∷ unsettled_serials ks bs = rw e refl in
        let parts : Distinct (k.serial ∷ unsettled_serials ks bs) = subst Distinct less d in
        let stands : is_some (find k bs) ≡ true = ap is_some e in
        let left = standing_cut k ks bs stands parts.0 in
        let more = again (cut k bs) (subst Distinct (sym left) parts.1) (names_cut k ks bs h) in
        let key : b.key ≡ k = find-key k bs b e in
        let prepared : is_prepared b.state ≡ true = h.prepared b (found_in k bs b e) (inl key) in
        let first : in_doubt_of (b ∷ arranged ks (cut k bs)) ≡ b.key.serial ∷ in_doubt_of (arranged ks (cut k bs)) = ap (λ (t : Bool). if t then b.key.serial ∷ in_doubt_of (arranged ks (cut k bs)) else in_doubt_of (arranged ks (cut k bs))) prepared in
        less ∙ ap (λ ys. k.serial ∷ ys) (sym left ∙ more) ∙ ap (λ (y : Key). y.serial ∷ in_doubt_of (arranged ks (cut k bs))) (sym key) ∙ sym first ∙ sym (ap in_doubt_of (ap (λ o. arranged_by o (arranged ks (cut k bs))) e))

-- What is kept in doubt of a node that is up.
pub doubts_kept : (log : CallLog) (k : NodeState) (n : Node) → RepresentsNode log k n → n.up ≡ true → Distinct (in_doubt_in k.place) → in_doubt_in k.place ≡ doubts_of n
doubts_kept log k n h up d = by k.place h.place d
  where
    by : (p : Place) → PlaceRepresents k.clock p n → Distinct (in_doubt_in p) → in_doubt_in p ≡ doubts_of n
    by (IsDown has_parts disk) s e = let no : true ≡ false = sym up ∙ s.down in let none : ⊥ = cc in absurd none
    by (IsRunning r) s e = sym s.stands.doubt ∙ standing_is n.volatile.preparation n.volatile.branches (subst Distinct (sym s.stands.doubt) e) s.stands.names

-- No two that the code keeps in doubt are one, whatever its disk has.
pub in_doubt_apart : {D U : Type 0} (state : D → DiskState) (units : U → UnitsState) (count : ℕ) (s : SharedState) (es : List (List ℕ × code.Node D U)) (place : ℕ) (k : NodeState) → AreNodesIn state units count s es → slice_get (kept_in state units es) place ≡ Some k → Distinct (in_doubt_in k.place)
in_doubt_apart {D} {U} state units count s [] place k h e = let none : ⊥ = cc in absurd none
in_doubt_apart {D} {U} state units count s (e ∷ es) zero k h at = subst (λ (x : NodeState). Distinct (in_doubt_in x.place)) (some_is (kept_of state units e.1) k at) (by e.1.place h.1.place)
  where
    by : (p : code_of.Place D U) → IsPlaceOf state units count s e.1 p → Distinct (in_doubt_in (place_of state units p))
    by (code_place.Down disk parts) q = tt
    by (code_place.Up r) q = q.0.follows.doubt.apart
in_doubt_apart {D} {U} state units count s (e ∷ es) (suc place) k h at = in_doubt_apart state units count s es place k h.2 at

-- One that stands somewhere is another just where their serials are one.

both_ways : (a b c : Bool) → (a && b && c) ≡ (a && (b && c))
both_ways true b c = refl
both_ways false b c = refl

one_same : (x y : Id) → is_one x y ≡ same_id x y
unfolding same_id
one_same x y = both_ways (bytes_eq x.node y.node) (x.boot == y.boot) (x.seq == y.seq)

pub same_serial : (x y : Id) (o : Option Id) → o ≡ Some x → IsTrue (is_one x y) ↔ (o ≡ Some y)
same_serial x y o e = elim (told_id x y) [
  | inl t ↦ (λ h. e ∙ ap (λ (z : Id). Some z) t.1, λ h. one_same x y ∙ t.0)
  | inr t ↦ (λ h. (let no : true ≡ false = sym h ∙ one_same x y ∙ t.0 in let none : ⊥ = cc in absurd none), λ h. absurd (t.1 (some_is x y (sym e ∙ h))))
]
