-- The units of the branches of a table, act by act.
use Rattle.std.proofs.Common.{◌≡◌, ◌≤◌, ◌+◌, suc, Bool, true, false, List, [], ◌∷◌, ◌++◌, Option, Some, None, ◌⊎◌, inl, inr, refl, ap, sym, subst, ◌∙◌, length, arith}
use Rattle.std.specs.Prelude.{if◌then◌else◌}
use Rattle.vms_model.specs.Ids.{Id}
use Rattle.records_model.specs.History.{same_id}
use Rattle.unit_laws.proofs.LiveLemmas.{id_is, id_itself}
use Rattle.net_wire.specs.commit_protocol.Agreement.{Distinct}
use Rattle.net_wire.specs.commit_protocol.Allowed.{is_prepared}
use Rattle.net_wire.specs.commit_protocol.Table.{Branch, Key, Prepared, branch_serials, cut, find, put}
use Rattle.net_wire.specs.commit_protocol.World.{In}
use Rattle.emitter_model.proofs.commit_protocol.Lasting.{lasts_absent}
use Rattle.emitter_model.proofs.commit_protocol.Lists.{find-key, told_key}
use Rattle.emitter_model.proofs.commit_protocol.Serials.{there_serial}
use Rattle.unit_table.specs.Units.{OpenUnit, new_unit, prepared_unit}
use Rattle.recovery_units.specs.State.{AreOfBranches, IsOfBranch, unit_of, with_prepared, without_unit}
use Rattle.node_table.specs.Growing.{groups_left}

-- two ids are one or not, as the units compare them
pub told_serial : (a b : Id) → ((same_id a b ≡ true) × (a ≡ b)) ⊎ ((same_id a b ≡ false) × (a ≡ b → ⊥))
told_serial a b = go (same_id a b) refl
  where
    go : (t : Bool) → same_id a b ≡ t → ((same_id a b ≡ true) × (a ≡ b)) ⊎ ((same_id a b ≡ false) × (a ≡ b → ⊥))
    go true e = inl (e, id_is a b e)
    go false e = inr (e, λ q. let P : Id → Type 0 = λ x. same_id a x ≡ true in let f : same_id a b ≡ true = subst P q (id_itself a) in let g : true ≡ false = sym f ∙ e in cc)

pub length_units : (us : List OpenUnit) (bs : List Branch) → AreOfBranches us bs → length us ≡ length bs
length_units [] [] h = refl
length_units [] (b ∷ bs) h = absurd h
length_units (u ∷ us) [] h = absurd h
length_units (u ∷ us) (b ∷ bs) h = ap suc (length_units us bs h.1)

-- no other branch than that of a key has its serial
other_serial : (b : Branch) (k : Key) (bs : List Branch) (o : Branch) → Distinct (branch_serials (b ∷ bs)) → find k bs ≡ Some o → k.serial ≡ b.key.serial → ⊥
other_serial b k bs o d e q = d.0 (subst (λ s. In s (branch_serials bs)) q (there_serial k bs (o, e)))

-- The unit of a branch.
pub record HasUnit (us : List OpenUnit) (b : Branch) : Type 0 where
  pub unit : OpenUnit
  pub there : unit_of b.key.serial us ≡ Some unit
  pub of : IsOfBranch unit b

pub has_unit : (us : List OpenUnit) (bs : List Branch) (k : Key) (o : Branch) → AreOfBranches us bs → Distinct (branch_serials bs) → find k bs ≡ Some o → HasUnit us o
has_unit [] [] k o h d e = absurd (let f : None ≡ Some o = e in cc)
has_unit [] (b ∷ bs) k o h d e = absurd h
has_unit (u ∷ us) [] k o h d e = absurd h
has_unit (u ∷ us) (b ∷ bs) k o h d e = elim (told_key b.key k) [
  | inl q ↦
      let e' : Some b ≡ Some o = rw (q.0) at e in
      let same : b ≡ o = cc in
      subst (λ x. HasUnit (u ∷ us) x) same (record {
        unit = u;
        there = (let f : same_id b.key.serial u.serial ≡ true = subst (λ x. same_id b.key.serial x ≡ true) h.0.serial (id_itself b.key.serial) in rw f refl);
        of = h.0;
      })
  | inr q ↦
      let e' : find k bs ≡ Some o = rw (q.0) at e in
      let r : HasUnit us o = has_unit us bs k o h.1 d.1 e' in
      let key : o.key ≡ k = find-key k bs o e' in
      elim (told_serial o.key.serial u.serial) [
        | inl t ↦ absurd (other_serial b k bs o d e' (ap (λ (j : Key). j.serial) (sym key) ∙ t.1 ∙ sym h.0.serial))
        | inr t ↦ record { unit = r.unit; there = (rw (t.0) r.there); of = r.of }
      ]
]

-- A branch is put in the place of one that its unit is of, too.
pub put_units : (us : List OpenUnit) (bs : List Branch) (b o : Branch) → AreOfBranches us bs → find b.key bs ≡ Some o → is_prepared b.state ≡ is_prepared o.state → (is_prepared o.state ≡ false → b.changed ≡ o.changed) → AreOfBranches us (put b bs)
put_units [] [] b o h e p c = absurd (let f : None ≡ Some o = e in cc)
put_units [] (x ∷ bs) b o h e p c = absurd h
put_units (u ∷ us) [] b o h e p c = absurd h
put_units (u ∷ us) (x ∷ bs) b o h e p c = elim (told_key x.key b.key) [
  | inl q ↦
      let e' : Some x ≡ Some o = rw (q.0) at e in
      let same : x ≡ o = cc in
      let of : IsOfBranch u o = subst (λ y. IsOfBranch u y) same h.0 in
      let key : b.key ≡ o.key = sym q.1 ∙ ap (λ (y : Branch). y.key) same in
      rw (q.0) (
        record {
          tid = ap (λ (k : Key). k.tid) key ∙ of.tid;
          serial = ap (λ (k : Key). k.serial) key ∙ of.serial;
          prepared = p ∙ of.prepared;
          changed = λ un. c (of.prepared ∙ un) ∙ of.changed un;
        },
        h.1,
      )
  | inr q ↦ let e' : find b.key bs ≡ Some o = rw (q.0) at e in rw (q.0) (h.0, put_units us bs b o h.1 e' p c)
]

-- A branch is prepared.
pub prepared_units : (us : List OpenUnit) (bs : List Branch) (b o : Branch) → AreOfBranches us bs → Distinct (branch_serials bs) → find b.key bs ≡ Some o → AreOfBranches (with_prepared b.key.serial us) (put (record b { state = Prepared }) bs)
prepared_units [] [] b o h d e = absurd (let f : None ≡ Some o = e in cc)
prepared_units [] (x ∷ bs) b o h d e = absurd h
prepared_units (u ∷ us) [] b o h d e = absurd h
prepared_units (u ∷ us) (x ∷ bs) b o h d e = elim (told_key x.key b.key) [
  | inl q ↦
      let f : same_id b.key.serial u.serial ≡ true = subst (λ y. same_id b.key.serial y ≡ true) (ap (λ (k : Key). k.serial) (sym q.1) ∙ h.0.serial) (id_itself b.key.serial) in
      let of : IsOfBranch (prepared_unit u) (record b { state = Prepared }) = record {
        tid = ap (λ (k : Key). k.tid) (sym q.1) ∙ h.0.tid;
        serial = ap (λ (k : Key). k.serial) (sym q.1) ∙ h.0.serial;
        prepared = refl;
        changed = λ un. absurd (let g : true ≡ false = un in cc);
      } in
      rw (q.0, f) (of, h.1)
  | inr q ↦
      let e' : find b.key bs ≡ Some o = rw (q.0) at e in
      elim (told_serial b.key.serial u.serial) [
        | inl t ↦ absurd (other_serial x b.key bs o d e' (t.1 ∙ sym h.0.serial))
        | inr t ↦ rw (q.0, t.0) (h.0, prepared_units us bs b o h.1 d.1 e')
      ]
]

-- A branch is no more.
pub fewer_units : (us : List OpenUnit) (bs : List Branch) (k : Key) (o : Branch) → AreOfBranches us bs → Distinct (branch_serials bs) → find k bs ≡ Some o → AreOfBranches (without_unit k.serial us) (cut k bs)
fewer_units [] [] k o h d e = absurd (let f : None ≡ Some o = e in cc)
fewer_units [] (x ∷ bs) k o h d e = absurd h
fewer_units (u ∷ us) [] k o h d e = absurd h
fewer_units (u ∷ us) (x ∷ bs) k o h d e = elim (told_key x.key k) [
  | inl q ↦
      let f : same_id k.serial u.serial ≡ true = subst (λ y. same_id k.serial y ≡ true) (ap (λ (j : Key). j.serial) (sym q.1) ∙ h.0.serial) (id_itself k.serial) in
      let none : find k bs ≡ None = gone (find k bs) refl (λ y found. other_serial x k bs y d found (ap (λ (j : Key). j.serial) (sym q.1))) in
      rw (q.0, f) (subst (λ ys. AreOfBranches us ys) (sym (lasts_absent k bs none)) h.1)
  | inr q ↦
      let e' : find k bs ≡ Some o = rw (q.0) at e in
      elim (told_serial k.serial u.serial) [
        | inl t ↦ absurd (other_serial x k bs o d e' (t.1 ∙ sym h.0.serial))
        | inr t ↦ rw (q.0, t.0) (h.0, fewer_units us bs k o h.1 d.1 e')
      ]
]
  where
    gone : (found : Option Branch) → find k bs ≡ found → ((y : Branch) → find k bs ≡ Some y → ⊥) → find k bs ≡ None
    gone None e not = e
    gone (Some y) e not = absurd (not y e)

-- A branch begins.
pub begun_units : (us : List OpenUnit) (bs : List Branch) (b : Branch) → AreOfBranches us bs → find b.key bs ≡ None → is_prepared b.state ≡ false → b.changed ≡ false → AreOfBranches (us ++ new_unit b.key.tid b.key.serial ∷ []) (put b bs)
begun_units [] [] b h e p c = (record { tid = refl; serial = refl; prepared = p; changed = λ un. c }, tt)
begun_units [] (x ∷ bs) b h e p c = absurd h
begun_units (u ∷ us) [] b h e p c = absurd h
begun_units (u ∷ us) (x ∷ bs) b h e p c = elim (told_key x.key b.key) [
  | inl q ↦ absurd (let e' : Some x ≡ None = rw (q.0) at e in cc)
  | inr q ↦ let e' : find b.key bs ≡ None = rw (q.0) at e in rw (q.0) (h.0, begun_units us bs b h.1 e' p c)
]

-- Where no branch has a serial, no unit is of it.
pub none_begun : (us : List OpenUnit) (bs : List Branch) (serial : Id) → AreOfBranches us bs → (In serial (branch_serials bs) → ⊥) → unit_of serial us ≡ None
none_begun [] [] serial h not = refl
none_begun [] (b ∷ bs) serial h not = absurd h
none_begun (u ∷ us) [] serial h not = absurd h
none_begun (u ∷ us) (b ∷ bs) serial h not = elim (told_serial serial u.serial) [
  | inl t ↦ absurd (not (inl (t.1 ∙ sym h.0.serial)))
  | inr t ↦ rw (t.0) (none_begun us bs serial h.1 (λ i. not (inr i)))
]

-- What units may still write.

pub fewer_left : (serial : Id) (us : List OpenUnit) (u : OpenUnit) → unit_of serial us ≡ Some u → (suc (length (without_unit serial us)) ≡ length us) × (groups_left (without_unit serial us) + 1 ≤ groups_left us)
fewer_left serial [] u e = absurd (let f : None ≡ Some u = e in cc)
fewer_left serial (x ∷ us) u e = go (same_id serial x.serial) refl (λ f. fewer_left serial us u f)
  where
    least : (p : Bool) → 1 ≤ (if p then 1 else 2)
    least true = omega arith
    least false = omega arith

    go : (t : Bool) → same_id serial x.serial ≡ t → (unit_of serial us ≡ Some u → (suc (length (without_unit serial us)) ≡ length us) × (groups_left (without_unit serial us) + 1 ≤ groups_left us)) → (suc (length (without_unit serial (x ∷ us))) ≡ length (x ∷ us)) × (groups_left (without_unit serial (x ∷ us)) + 1 ≤ groups_left (x ∷ us))
    go true q more = let l = least x.prepared in rw q (refl, omega arith)
    go false q more =
        let e' : unit_of serial us ≡ Some u = rw q at e in
        let r = more e' in
        rw q (ap suc r.0, omega arith)

pub prepared_left : (serial : Id) (us : List OpenUnit) (u : OpenUnit) → unit_of serial us ≡ Some u → u.prepared ≡ false → (length (with_prepared serial us) ≡ length us) × (groups_left (with_prepared serial us) + 1 ≡ groups_left us)
prepared_left serial [] u e p = absurd (let f : None ≡ Some u = e in cc)
prepared_left serial (x ∷ us) u e p = go (same_id serial x.serial) refl (λ f. prepared_left serial us u f p)
  where
    go : (t : Bool) → same_id serial x.serial ≡ t → (unit_of serial us ≡ Some u → (length (with_prepared serial us) ≡ length us) × (groups_left (with_prepared serial us) + 1 ≡ groups_left us)) → (length (with_prepared serial (x ∷ us)) ≡ length (x ∷ us)) × (groups_left (with_prepared serial (x ∷ us)) + 1 ≡ groups_left (x ∷ us))
    go true q more =
        let e' : Some x ≡ Some u = rw q at e in
        let same : x ≡ u = cc in
        let un : x.prepared ≡ false = ap (λ (y : OpenUnit). y.prepared) same ∙ p in
        rw q (refl, (rw un (omega arith)))
    go false q more =
        let e' : unit_of serial us ≡ Some u = rw q at e in
        let r = more e' in
        rw q (ap suc r.0, omega arith)
