-- The branches that a node asks for in the world are those that it has in doubt, in their order.
use Rattle.std.proofs.Common.{◌≡◌, inl, inr, ℕ, Bool, true, false, List, [], ◌∷◌, Option, Some, None, refl, ap, sym, subst, ◌∙◌}
use Rattle.std.specs.Prelude.{if◌then◌else◌, is_some}
use Rattle.emitter_model.specs.commit_protocol.Agreement.{Distinct}
use Rattle.emitter_model.specs.commit_protocol.Allowed.{is_prepared}
use Rattle.emitter_model.specs.commit_protocol.Table.{Branch, Key, branch_serials, cut, find, record_serials, without}
use Rattle.emitter_model.specs.commit_protocol.World.{In, arranged, arranged_by}
use Rattle.emitter_model.proofs.commit_protocol.Lists.{find-cut, find-cut_other, find-key, told_id, told_key}
use Rattle.emitter_model.proofs.commit_protocol.Serials.{cut_distinct, parts_apart}
use Rattle.emitter_model.proofs.commit_protocol.Within.{find_in}
use Rattle.vms_model.specs.Ids.{Id}
use Rattle.world_laws.specs.run_model.World as world
use Rattle.world_laws.specs.run_model.World.{Node}
use Rattle.statement_steps.specs.Settling.{doubts_of, in_doubt_of}
use Rattle.world_laws.specs.Nodes.{IsKeptNode}
use Rattle.node_requests.specs.node_table.Standing.{IsUp, NamesPrepared, Up, UpRepresents, unsettled_serials}
use Rattle.node_requests.proofs.node_table.Doubting.{in_cut, standing_settled, stands}

-- none is prepared where none is named
none_prepared : (bs : List Branch) → ((b : Branch) → In b bs → is_prepared b.state ≡ true → ⊥) → in_doubt_of bs ≡ []
none_prepared [] h = refl
none_prepared (b ∷ bs) h = go (is_prepared b.state) refl (none_prepared bs (λ c i. h c (inr i)))
  where
    go : (t : Bool) → is_prepared b.state ≡ t → in_doubt_of bs ≡ [] → (let xs : List Id = if t then b.key.serial ∷ in_doubt_of bs else in_doubt_of bs in xs) ≡ []
    go true e rest = absurd (h b (inl refl) e)
    go false e rest = rest

without_none : (s : Id) (xs : List Id) → (In s xs → ⊥) → without s xs ≡ xs
without_none s [] none = refl
without_none s (x ∷ xs) none = elim (told_id x s) [
  | inl t ↦ absurd (none (inl (sym t.1)))
  | inr t ↦ rw (t.0) (ap (λ (ys : List Id). x ∷ ys) (without_none s xs (λ i. none (inr i))))
]

-- the others, where one is cut
names_cut : (k : Key) (ks : List Key) (bs : List Branch) → Distinct (branch_serials bs) → NamesPrepared (k ∷ ks) bs → NamesPrepared ks (cut k bs)
names_cut k ks bs d n = record {
  named = λ b i p. elim (n.named b (in_cut k b bs i) p) [
    | inl e ↦ absurd (
        let found : find b.key (cut k bs) ≡ Some b = stands (cut k bs) b (cut_distinct k bs d) i in
        let gone : find b.key (cut k bs) ≡ None = subst (λ (j : Key). find j (cut k bs) ≡ None) (sym e) (find-cut k bs) in
        let f : ◌≡◌ {A = Option Branch} None (Some b) = sym gone ∙ found in
        let no : ⊥ = cc in
        no)
    | inr j ↦ j
  ];
  prepared = λ b i j. n.prepared b (in_cut k b bs i) (inr j);
}

standing_same : (ks : List Key) (bs cs : List Branch) → ((k : Key) → In k ks → is_some (find k bs) ≡ is_some (find k cs)) → unsettled_serials ks bs ≡ unsettled_serials ks cs
standing_same [] bs cs h = refl
standing_same (k ∷ ks) bs cs h = λ i. if h k (inl refl) i then k.serial ∷ standing_same ks bs cs (λ j m. h j (inr m)) i else standing_same ks bs cs (λ j m. h j (inr m)) i

cut_absent : (k : Key) (ks : List Key) (bs : List Branch) → find k bs ≡ None → unsettled_serials ks (cut k bs) ≡ unsettled_serials ks bs
cut_absent k ks bs e = standing_same ks (cut k bs) bs (λ j i. elim (told_key k j) [
  | inl t ↦ subst (λ (x : Key). is_some (find x (cut k bs)) ≡ is_some (find x bs)) t.1 (ap is_some (find-cut k bs) ∙ ap is_some (sym e))
  | inr t ↦ ap is_some (find-cut_other k j bs t.1)
])

pub doubts_standing : (ks : List Key) (bs : List Branch) → Distinct (branch_serials bs) → NamesPrepared ks bs → Distinct (unsettled_serials ks bs) → in_doubt_of (arranged ks bs) ≡ unsettled_serials ks bs
doubts_standing [] bs d n u = none_prepared bs (λ b i p. n.named b i p)
doubts_standing (k ∷ ks) bs d n u = go (find k bs) refl u (doubts_standing ks (cut k bs) (cut_distinct k bs d) (names_cut k ks bs d n))
  where
    go : (o : Option Branch) → find k bs ≡ o → Distinct (if is_some o then k.serial ∷ unsettled_serials ks bs else unsettled_serials ks bs) → (Distinct (unsettled_serials ks (cut k bs)) → in_doubt_of (arranged ks (cut k bs)) ≡ unsettled_serials ks (cut k bs))
        → in_doubt_of (arranged_by o (arranged ks (cut k bs))) ≡ (if is_some o then k.serial ∷ unsettled_serials ks bs else unsettled_serials ks bs)
    go None e v more = (let same = cut_absent k ks bs e in more (subst Distinct (sym same) v) ∙ same)
    go (Some b) e v more =
        let same : unsettled_serials ks (cut k bs) ≡ unsettled_serials ks bs = standing_settled ks k b bs d e ∙ without_none k.serial (unsettled_serials ks bs) v.0 in
        let key : b.key ≡ k = find-key k bs b e in
        let prepared : is_prepared b.state ≡ true = n.prepared b (find_in k bs b e) (inl key) in
        ap (λ (t : Bool). if t then b.key.serial ∷ in_doubt_of (arranged ks (cut k bs)) else in_doubt_of (arranged ks (cut k bs))) prepared
        ∙ (λ i. (key i).serial ∷ (more (subst Distinct (sym same) v.1) ∙ same) i)

pub doubts_kept : (clock : ℕ) (r : Up) (s : world.Shared) (n : Node) → IsUp r → UpRepresents clock r n → IsKeptNode s n → doubts_of n ≡ r.stored.in_doubt
doubts_kept clock r s n up h kept =
    doubts_standing n.volatile.preparation n.volatile.branches
    (parts_apart (branch_serials n.volatile.branches) (record_serials n.volatile.records) (kept.runs h.stands.up).0.table.apart).one
    h.stands.names (subst Distinct (sym h.stands.doubt) up.follows.doubt.apart)
    ∙ h.stands.doubt
