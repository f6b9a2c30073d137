-- The committed records of a node come in another order.
use mathlib.Core.Path.{fun_ext}
use Rattle.std.proofs.Common.{◌≡◌, ℕ, zero, suc, List, [], ◌∷◌, inl, inr, refl, sym, subst, ◌∙◌}
use Rattle.commit_protocol.specs.Messages.{Name, LogRecord}
use Rattle.commit_protocol.specs.Table.{Key, Branch, find}
use Rattle.commit_protocol.specs.World.{Node, World, In, swapped, swaps}
use Rattle.commit_protocol.specs.Agreement.{Status, View, view}
use Rattle.commit_protocol.proofs.Lists.{cases_name, Unique}
use Rattle.commit_protocol.proofs.Invariant.{Inv, Later, Kept, later_by}
use Rattle.commit_protocol.proofs.Quiet.{with_records, records_keep}
use Rattle.commit_protocol.proofs.Bridge.{part_same, records_at, records_put, records_here, records_away}
use Rattle.commit_protocol.proofs.Acting.{Good, Goes, last_same}

swapped_in : (i : ℕ) (rs : List LogRecord) (r : LogRecord) → In r (swapped i rs) → In r rs
swapped_in zero (x ∷ (y ∷ rest)) r h = elim h [ inl e ↦ inr (inl e) | inr k ↦ elim k [ inl e ↦ inl e | inr j ↦ inr (inr j) ] ]
swapped_in zero (x ∷ []) r h = h
swapped_in zero [] r h = h
swapped_in (suc i) (x ∷ rest) r h = elim h [ inl e ↦ inl e | inr k ↦ inr (swapped_in i rest r k) ]
swapped_in (suc i) [] r h = h

in_swapped : (i : ℕ) (rs : List LogRecord) (r : LogRecord) → In r rs → In r (swapped i rs)
in_swapped zero (x ∷ (y ∷ rest)) r h = elim h [ inl e ↦ inr (inl e) | inr k ↦ elim k [ inl e ↦ inl e | inr j ↦ inr (inr j) ] ]
in_swapped zero (x ∷ []) r h = h
in_swapped zero [] r h = h
in_swapped (suc i) (x ∷ rest) r h = elim h [ inl e ↦ inl e | inr k ↦ inr (in_swapped i rest r k) ]
in_swapped (suc i) [] r h = h

-- records with the same members
pub same_records_keep : (v : View) (recs : Name → List LogRecord) → Inv v → ((n : Name) (r : LogRecord) → In r (recs n) → In r (v.records n)) → ((n : Name) (r : LogRecord) → In r (v.records n) → In r (recs n)) → Kept v (with_records v recs)
same_records_keep v recs i from to =
    let w : View = with_records v recs in
    let l : Later v w = later_by v w (λ n h. h) (λ x h. h) (λ x q h. h) (λ x h. h) refl refl refl (λ x h. inl h) (λ u h. h.undecided) (λ u h. h.commits) (λ n x idle h. (h.0, from n h.0 h.1, h.2, h.3)) in
    records_keep v recs i l
    (λ x h c there. let q = i.owed x h c there in (q.0, to x.tid.node q.0 q.1, q.2, q.3))
    (λ n x h. i.waits n x (h.0, from n h.0 h.1, h.2, h.3))
    (λ n r h. i.recorded n r (from n r h))

view_swaps : (i : ℕ) (n : Name) (w : World) → view (swaps i n w) ≡ with_records (view w) (records_at n (swapped i (w.nodes n).records) (view w).records)
view_swaps i n w =
    let new : Node = record (w.nodes n) { records = swapped i (w.nodes n).records } in
    let pa = fun_ext (λ (k : Key). part_same (λ x. find k x.table) n new w.nodes refl k.serial.node) in
    let pr = fun_ext (records_put n new w.nodes) in
    let pc = fun_ext (part_same (λ x. (let c : Status = record { up = x.up; boot = x.boot; seq = x.seq } in c)) n new w.nodes refl) in
    let pl = fun_ext (part_same (λ x. x.lost) n new w.nodes refl) in
    λ j. record { there = w.rack; at = pa j; records = pr j; status = pc j; sent = w.sent; accepted = w.accepted; read_only = w.read_only; settled = w.settled; shown = w.shown; lost = pl j; made = w.made }

pub goes_swaps : (i : ℕ) (n : Name) (w : World) → Good w → Goes w (swaps i n w)
goes_swaps i n w g =
    let v : View = view w in
    let rs : List LogRecord = swapped i (w.nodes n).records in
    let recs : Name → List LogRecord = records_at n rs v.records in
    let new : Node = record (w.nodes n) { records = rs } in
    let from : (m : Name) (r : LogRecord) → In r (recs m) → In r (v.records m) = λ m r h. elim (cases_name m n) [
      | inl e ↦
          let A : Name → Type 0 = λ x. In r (v.records x) in
          let B : Name → Type 0 = λ x. In r (recs x) in
          let T : List LogRecord → Type 0 = λ x. In r x in
          subst A (sym e) (swapped_in i (w.nodes n).records r (subst T (records_here n rs v.records) (subst B e h)))
      | inr e ↦ let T : List LogRecord → Type 0 = λ x. In r x in subst T (records_away n rs v.records m e) h
    ] in
    let to : (m : Name) (r : LogRecord) → In r (v.records m) → In r (recs m) = λ m r h. elim (cases_name m n) [
      | inl e ↦
          let A : Name → Type 0 = λ x. In r (v.records x) in
          let B : Name → Type 0 = λ x. In r (recs x) in
          let T : List LogRecord → Type 0 = λ x. In r x in
          subst B (sym e) (subst T (sym (records_here n rs v.records)) (in_swapped i (w.nodes n).records r (subst A e h)))
      | inr e ↦ let T : List LogRecord → Type 0 = λ x. In r x in subst T (sym (records_away n rs v.records m e)) h
    ] in
    let P : View → Type 0 = λ x. Kept v x in
    let q : Kept v (view (swaps i n w)) = subst P (sym (view_swaps i n w)) (same_records_keep v recs g.inv from to) in
    record {
      good = record {
        inv = q.inv;
        home = λ m k b e. g.home m k b (sym (part_same (λ x. find k x.table) n new w.nodes refl m) ∙ e);
        unique = λ m. let T : List Branch → Type 0 = λ bs. Unique bs in subst T (sym (part_same (λ x. x.table) n new w.nodes refl m)) (g.unique m);
        labels = λ p h. q.later.old p.0 (g.labels p h);
        rack_up = λ m u. g.rack_up m (sym (part_same (λ x. x.up) n new w.nodes refl m) ∙ u);
        lost_home = λ m k h. g.lost_home m k (let T : List Key → Type 0 = λ x. In k x in subst T (part_same (λ x. x.lost) n new w.nodes refl m) h);
      };
      later = q.later;
      last = last_same w (swaps i n w) (λ m. part_same (λ x. x.last) n new w.nodes refl m);
      rack = refl;
    }
