-- Units and the log stay together.
use Rattle.std.proofs.Common.{◌≡◌, ◌≢◌, ℕ, ◌<◌, Bool, true, false, List, [], ◌∷◌, Option, Some, None, length, slice_set, refl, sym, ap, subst, ◌∙◌, inl, inr, get_or-set_same, get_or-set_other}
use Rattle.std.specs.Prelude.{if◌then◌else◌, ◌⊎◌, IsSome}
use Rattle.std.proofs.lemmas.Bool.{cases_eq}
use Rattle.commit_protocol.specs.Agreement.{Distinct}
use Rattle.commit_protocol.specs.Messages.{CommittedRecord, LogRecord, Name, PreparedRecord, same_id}
use Rattle.commit_protocol.specs.Table.{record_serials}
use Rattle.commit_protocol.specs.World.{In}
use Rattle.commit_protocol.proofs.Lists.{told_id}
use Rattle.lmcp_log.specs.Log.{record_with}
use Rattle.lmcp_log.proofs.Apart.{apart_ids, other_ids, same_ids}
use Rattle.lmcp_log.proofs.SlotLemmas.{clash}
use Rattle.unit_entries.specs.log_laws.Slots.{Slots, filled, forgotten, has_free, has_slot, put_in, records_in, replaced, settled_in}
use Rattle.unit_table.specs.Units.{OpenUnit, new_unit, prepared_unit, unit_at}
use Rattle.unit_table.proofs.OrderLemmas.{at_below}
use Rattle.vms_model.specs.Ids.{Id}
use Rattle.unit_votes.specs.Tied.{AreTied, IsOfNone, IsOutcome, IsPreparedAt, IsRecorded, IsSameUnit}
use Rattle.unit_votes.specs.Voting.{vote_record}

-- Records by serial.

itself : (s : Id) → same_id s s ≡ true
itself s = elim (told_id s s) [ inl e ↦ e.0 | inr e ↦ absurd (e.1 refl) ]

replaced_same : (r : LogRecord) (ss : Slots) → has_slot r.serial ss ≡ true → record_with r.serial (replaced r ss) ≡ Some r
replaced_same r [] has = absurd (clash (sym has))
replaced_same r (None ∷ ss) has = replaced_same r ss has
replaced_same r (Some q ∷ ss) has = go (same_id q.serial r.serial) refl (λ h. replaced_same r ss h) has
  where
    go : (b : Bool) → same_id q.serial r.serial ≡ b → (has_slot r.serial ss ≡ true → record_with r.serial (replaced r ss) ≡ Some r) → (if b then true else has_slot r.serial ss) ≡ true → record_with r.serial (if b then Some r ∷ ss else Some q ∷ replaced r ss) ≡ Some r
    go true is rest h = ap (λ (c : Bool). if c then Some r else record_with r.serial ss) (itself r.serial)
    go false is rest h = ap (λ (c : Bool). if c then Some q else record_with r.serial (replaced r ss)) is ∙ rest h

filled_same : (r : LogRecord) (ss : Slots) → has_slot r.serial ss ≡ false → has_free ss ≡ true → record_with r.serial (filled r ss) ≡ Some r
filled_same r [] none free = absurd (clash (sym free))
filled_same r (None ∷ ss) none free = ap (λ (c : Bool). if c then Some r else record_with r.serial ss) (itself r.serial)
filled_same r (Some q ∷ ss) none free = go (same_id q.serial r.serial) (λ h. filled_same r ss h free) none
  where
    go : (b : Bool) → (has_slot r.serial ss ≡ false → record_with r.serial (filled r ss) ≡ Some r) → (if b then true else has_slot r.serial ss) ≡ false → (if b then Some q else record_with r.serial (filled r ss)) ≡ Some r
    go true rest h = absurd (clash h)
    go false rest h = rest h

replaced_other : (r : LogRecord) (s : Id) (ss : Slots) → same_id r.serial s ≡ false → record_with s (replaced r ss) ≡ record_with s ss
replaced_other r s [] other = refl
replaced_other r s (None ∷ ss) other = replaced_other r s ss other
replaced_other r s (Some q ∷ ss) other = go (same_id q.serial r.serial) refl (replaced_other r s ss other)
  where
    go : (b : Bool) → same_id q.serial r.serial ≡ b → record_with s (replaced r ss) ≡ record_with s ss → record_with s (if b then Some r ∷ ss else Some q ∷ replaced r ss) ≡ (if same_id q.serial s then Some q else record_with s ss)
    go true is rest =
        ap (λ (c : Bool). if c then Some r else record_with s ss) other
        ∙ sym (ap (λ (c : Bool). if c then Some q else record_with s ss) (ap (λ (x : Id). same_id x s) (same_ids q.serial r.serial is) ∙ other))
    go false is rest = λ i. if same_id q.serial s then Some q else rest i

filled_other : (r : LogRecord) (s : Id) (ss : Slots) → same_id r.serial s ≡ false → record_with s (filled r ss) ≡ record_with s ss
filled_other r s [] other = refl
filled_other r s (None ∷ ss) other = ap (λ (c : Bool). if c then Some r else record_with s ss) other
filled_other r s (Some q ∷ ss) other = let rest = filled_other r s ss other in λ i. if same_id q.serial s then Some q else rest i

pub put_same : (r : LogRecord) (ss : Slots) → (has_slot r.serial ss ≡ true) ⊎ (has_free ss ≡ true) → record_with r.serial (put_in r ss) ≡ Some r
put_same r ss slot = go (has_slot r.serial ss) refl slot
  where
    go : (b : Bool) → has_slot r.serial ss ≡ b → (b ≡ true) ⊎ (has_free ss ≡ true) → record_with r.serial (if b then replaced r ss else filled r ss) ≡ Some r
    go true is h = replaced_same r ss is
    go false is (inl never) = absurd (clash (sym never))
    go false is (inr free) = filled_same r ss is free

pub put_other : (r : LogRecord) (s : Id) (ss : Slots) → same_id r.serial s ≡ false → record_with s (put_in r ss) ≡ record_with s ss
put_other r s ss other = go (has_slot r.serial ss)
  where
    go : (b : Bool) → record_with s (if b then replaced r ss else filled r ss) ≡ record_with s ss
    go true = replaced_other r s ss other
    go false = filled_other r s ss other

pub forgotten_other : (k s : Id) (ss : Slots) → same_id k s ≡ false → record_with s (forgotten k ss) ≡ record_with s ss
forgotten_other k s [] other = refl
forgotten_other k s (None ∷ ss) other = forgotten_other k s ss other
forgotten_other k s (Some q ∷ ss) other = go (same_id q.serial k) refl (forgotten_other k s ss other)
  where
    go : (b : Bool) → same_id q.serial k ≡ b → record_with s (forgotten k ss) ≡ record_with s ss → record_with s (if b then None ∷ ss else Some q ∷ forgotten k ss) ≡ (if same_id q.serial s then Some q else record_with s ss)
    go true is rest = sym (ap (λ (c : Bool). if c then Some q else record_with s ss) (ap (λ (x : Id). same_id x s) (same_ids q.serial k is) ∙ other))
    go false is rest = λ i. if same_id q.serial s then Some q else rest i

-- a serial that no record has
none_with : (s : Id) (ss : Slots) → (In s (record_serials (records_in ss)) → ⊥) → record_with s ss ≡ None
none_with s [] none = refl
none_with s (None ∷ ss) none = none_with s ss none
none_with s (Some q ∷ ss) none =
    ap (λ (c : Bool). if c then Some q else record_with s ss) (apart_ids q.serial s (λ same. none (inl (sym same)))) ∙ none_with s ss (λ more. none (inr more))

pub forgotten_same : (s : Id) (ss : Slots) → Distinct (record_serials (records_in ss)) → record_with s (forgotten s ss) ≡ None
forgotten_same s [] d = refl
forgotten_same s (None ∷ ss) d = forgotten_same s ss d
forgotten_same s (Some q ∷ ss) d = go (same_id q.serial s) refl (forgotten_same s ss d.1)
  where
    go : (b : Bool) → same_id q.serial s ≡ b → record_with s (forgotten s ss) ≡ None → record_with s (if b then None ∷ ss else Some q ∷ forgotten s ss) ≡ None
    go true is rest = none_with s ss (subst (λ (x : Id). In x (record_serials (records_in ss)) → ⊥) (same_ids q.serial s is) d.0)
    go false is rest = ap (λ (c : Bool). if c then Some q else record_with s (forgotten s ss)) is ∙ rest

-- Serials stay apart.

in_replaced : (r : LogRecord) (ss : Slots) (x : Id) → In x (record_serials (records_in (replaced r ss))) → In x (record_serials (records_in ss))
in_replaced r [] x h = h
in_replaced r (None ∷ ss) x h = in_replaced r ss x h
in_replaced r (Some q ∷ ss) x h = go (same_id q.serial r.serial) refl (λ k. in_replaced r ss x k) h
  where
    go : (b : Bool) → same_id q.serial r.serial ≡ b → (In x (record_serials (records_in (replaced r ss))) → In x (record_serials (records_in ss))) → In x (record_serials (records_in (if b then Some r ∷ ss else Some q ∷ replaced r ss))) → In x (q.serial ∷ record_serials (records_in ss))
    go true is rest (inl e) = inl (e ∙ sym (same_ids q.serial r.serial is))
    go true is rest (inr more) = inr more
    go false is rest (inl e) = inl e
    go false is rest (inr more) = inr (rest more)

replaced_distinct : (r : LogRecord) (ss : Slots) → Distinct (record_serials (records_in ss)) → Distinct (record_serials (records_in (replaced r ss)))
replaced_distinct r [] d = d
replaced_distinct r (None ∷ ss) d = replaced_distinct r ss d
replaced_distinct r (Some q ∷ ss) d = go (same_id q.serial r.serial) refl (replaced_distinct r ss d.1)
  where
    go : (b : Bool) → same_id q.serial r.serial ≡ b → Distinct (record_serials (records_in (replaced r ss))) → Distinct (record_serials (records_in (if b then Some r ∷ ss else Some q ∷ replaced r ss)))
    go true is rest = (subst (λ (x : Id). In x (record_serials (records_in ss)) → ⊥) (same_ids q.serial r.serial is) d.0, d.1)
    go false is rest = ((λ h. d.0 (in_replaced r ss q.serial h)), rest)

none_in : (s : Id) (ss : Slots) → has_slot s ss ≡ false → In s (record_serials (records_in ss)) → ⊥
none_in s [] none h = h
none_in s (None ∷ ss) none h = none_in s ss none h
none_in s (Some q ∷ ss) none h = go (same_id q.serial s) refl (λ e k. none_in s ss e k) none h
  where
    go : (b : Bool) → same_id q.serial s ≡ b → (has_slot s ss ≡ false → In s (record_serials (records_in ss)) → ⊥) → (if b then true else has_slot s ss) ≡ false → In s (q.serial ∷ record_serials (records_in ss)) → ⊥
    go true is rest never k = clash never
    go false is rest never (inl e) = other_ids q.serial s is (sym e)
    go false is rest never (inr more) = rest never more

in_filled : (r : LogRecord) (ss : Slots) (x : Id) → In x (record_serials (records_in (filled r ss))) → (x ≡ r.serial) ⊎ In x (record_serials (records_in ss))
in_filled r [] x h = inr h
in_filled r (None ∷ ss) x (inl e) = inl e
in_filled r (None ∷ ss) x (inr more) = inr more
in_filled r (Some q ∷ ss) x (inl e) = inr (inl e)
in_filled r (Some q ∷ ss) x (inr more) = elim (in_filled r ss x more) [ inl e ↦ inl e | inr k ↦ inr (inr k) ]

filled_distinct : (r : LogRecord) (ss : Slots) → has_slot r.serial ss ≡ false → Distinct (record_serials (records_in ss)) → Distinct (record_serials (records_in (filled r ss)))
filled_distinct r [] none d = d
filled_distinct r (None ∷ ss) none d = (none_in r.serial ss none, d)
filled_distinct r (Some q ∷ ss) none d = go (same_id q.serial r.serial) refl (λ h. filled_distinct r ss h d.1) none
  where
    go : (b : Bool) → same_id q.serial r.serial ≡ b → (has_slot r.serial ss ≡ false → Distinct (record_serials (records_in (filled r ss)))) → (if b then true else has_slot r.serial ss) ≡ false → Distinct (q.serial ∷ record_serials (records_in (filled r ss)))
    go true is rest never = absurd (clash never)
    go false is rest never = ((λ h. elim (in_filled r ss q.serial h) [ inl e ↦ other_ids q.serial r.serial is e | inr k ↦ d.0 k ]), rest never)

put_distinct : (r : LogRecord) (ss : Slots) → Distinct (record_serials (records_in ss)) → Distinct (record_serials (records_in (put_in r ss)))
put_distinct r ss d = go (has_slot r.serial ss) refl
  where
    go : (b : Bool) → has_slot r.serial ss ≡ b → Distinct (record_serials (records_in (if b then replaced r ss else filled r ss)))
    go true is = replaced_distinct r ss d
    go false is = filled_distinct r ss is d

in_forgotten : (k x : Id) (ss : Slots) → In x (record_serials (records_in (forgotten k ss))) → In x (record_serials (records_in ss))
in_forgotten k x [] h = h
in_forgotten k x (None ∷ ss) h = in_forgotten k x ss h
in_forgotten k x (Some q ∷ ss) h = go (same_id q.serial k) (λ i. in_forgotten k x ss i) h
  where
    go : (b : Bool) → (In x (record_serials (records_in (forgotten k ss))) → In x (record_serials (records_in ss))) → In x (record_serials (records_in (if b then None ∷ ss else Some q ∷ forgotten k ss))) → In x (q.serial ∷ record_serials (records_in ss))
    go true rest more = inr more
    go false rest (inl e) = inl e
    go false rest (inr more) = inr (rest more)

forgotten_distinct : (k : Id) (ss : Slots) → Distinct (record_serials (records_in ss)) → Distinct (record_serials (records_in (forgotten k ss)))
forgotten_distinct k [] d = d
forgotten_distinct k (None ∷ ss) d = forgotten_distinct k ss d
forgotten_distinct k (Some q ∷ ss) d = go (same_id q.serial k) (forgotten_distinct k ss d.1)
  where
    go : (b : Bool) → Distinct (record_serials (records_in (forgotten k ss))) → Distinct (record_serials (records_in (if b then None ∷ ss else Some q ∷ forgotten k ss)))
    go true rest = d.1
    go false rest = ((λ h. d.0 (in_forgotten k q.serial ss h)), rest)

-- Units.

some_same : (u w : OpenUnit) → Some u ≡ Some w → u ≡ w
some_same u w e = cc

none_some : (u : OpenUnit) → ◌≡◌ {A = Option OpenUnit} None (Some u) → ⊥
none_some u e = cc

some_record : (q r : LogRecord) → Some q ≡ Some r → q ≡ r
some_record q r e = cc

none_record : (r : LogRecord) → ◌≡◌ {A = Option LogRecord} None (Some r) → ⊥
none_record r e = cc

not_both : CommittedRecord ≡ PreparedRecord → ⊥
not_both e = cc

module _ (places : List (Option OpenUnit)) (ss : Slots) (p : ℕ) (t : AreTied places ss) where
  -- another unit, or none, at a place
  abbrev now : Option OpenUnit → List (Option OpenUnit)
  now x = slice_set places p x

  here : (x : Option OpenUnit) → p < length places → unit_at (now x) p ≡ x
  here x below = get_or-set_same places p x None below

  there : (x : Option OpenUnit) (q : ℕ) → q ≢ p → unit_at (now x) q ≡ unit_at places q
  there x q other = get_or-set_other places p q x None other

  -- a unit of the units then is the new one, or was there before
  was : (x : Option OpenUnit) (q : ℕ) (w : OpenUnit) → p < length places → unit_at (now x) q ≡ Some w → ((q ≡ p) × (x ≡ Some w)) ⊎ ((q ≢ p) × (unit_at places q ≡ Some w))
  was x q w below at = elim (cases_eq q p) [
    | inl same ↦ inl (same, sym (here x below) ∙ ap (unit_at (now x)) (sym same) ∙ at)
    | inr other ↦ inr (other, sym (there x q other) ∙ at)
  ]

  -- a unit of another branch than the new one
  apart_now : (x : OpenUnit) → p < length places → ((q : ℕ) (w : OpenUnit) → q ≢ p → unit_at places q ≡ Some w → w.serial ≡ x.serial → ⊥)
      → (q r : ℕ) (u w : OpenUnit) → unit_at (now (Some x)) q ≡ Some u → unit_at (now (Some x)) r ≡ Some w → u.serial ≡ w.serial → q ≡ r
  apart_now x below none q r u w at_q at_r same = elim (was (Some x) q u below at_q) [
    | inl a ↦ elim (was (Some x) r w below at_r) [
      | inl b ↦ a.0 ∙ sym b.0
      | inr b ↦ absurd (none r w b.0 b.1 (sym same ∙ ap (λ (y : OpenUnit). y.serial) (sym (some_same x u a.1))))
    ]
    | inr a ↦ elim (was (Some x) r w below at_r) [
      | inl b ↦ absurd (none q u a.0 a.1 (same ∙ ap (λ (y : OpenUnit). y.serial) (sym (some_same x w b.1))))
      | inr b ↦ t.apart q r u w a.1 b.1 same
    ]
  ]

  apart_without : p < length places → (q r : ℕ) (u w : OpenUnit) → unit_at (now None) q ≡ Some u → unit_at (now None) r ≡ Some w → u.serial ≡ w.serial → q ≡ r
  apart_without below q r u w at_q at_r same = elim (was None q u below at_q) [
    | inl a ↦ absurd (none_some u a.1)
    | inr a ↦ elim (was None r w below at_r) [ inl b ↦ absurd (none_some w b.1) | inr b ↦ t.apart q r u w a.1 b.1 same ]
  ]

  pub begins : (tid serial : Id) → p < length places → unit_at places p ≡ None → IsOfNone serial places → record_with serial ss ≡ None → AreTied (now (Some (new_unit tid serial))) ss
  begins tid serial below free none new = record {
    recorded = λ q w at. elim (was (Some (new_unit tid serial)) q w below at) [
      | inl a ↦ subst (λ (y : OpenUnit). IsRecorded y.prepared y (record_with y.serial ss)) (some_same (new_unit tid serial) w a.1) new
      | inr a ↦ t.recorded q w a.1
    ];
    owned = λ s r found kind.
        let o = t.owned s r found kind in
        record {
          place = o.place;
          unit = o.unit;
          here = there (Some (new_unit tid serial)) o.place (λ same. none_some o.unit (sym free ∙ ap (unit_at places) (sym same) ∙ o.here)) ∙ o.here;
          own = o.own;
          prepared = o.prepared;
        };
    apart = apart_now (new_unit tid serial) below (λ q w other at same. none q w at same);
    distinct = t.distinct;
  }

  module _ (u : OpenUnit) (at_p : unit_at places p ≡ Some u) where
    below_p : p < length places
    below_p = at_below places p (subst (λ (x : Option OpenUnit). IsSome x) (sym at_p) refl)

    alone : (q : ℕ) (w : OpenUnit) → q ≢ p → unit_at places q ≡ Some w → w.serial ≡ u.serial → ⊥
    alone q w other at same = other (t.apart q p w u at at_p same)

    pub changes : (w : OpenUnit) → IsSameUnit u w → AreTied (now (Some w)) ss
    changes w same = record {
      recorded = λ q x at. elim (was (Some w) q x below_p at) [
        | inl a ↦ subst (λ (y : OpenUnit). IsRecorded y.prepared y (record_with y.serial ss)) (some_same w x a.1) own
        | inr a ↦ t.recorded q x a.1
      ];
      owned = λ s r found kind. stands s (t.owned s r found kind);
      apart = apart_now w below_p (λ q x other at e. alone q x other at (e ∙ same.serial));
      distinct = t.distinct;
    }
      where
        moved : (b : Bool) → IsRecorded b u (record_with u.serial ss) → IsRecorded b w (record_with w.serial ss)
        moved true k = (k.0, subst (λ (x : Id). record_with x ss ≡ Some (vote_record w.tid x k.0)) (sym same.serial) (subst (λ (x : Id). record_with u.serial ss ≡ Some (vote_record x u.serial k.0)) (sym same.tid) k.1))
        moved false k = subst (λ (x : Id). record_with x ss ≡ None) (sym same.serial) k

        own : IsRecorded w.prepared w (record_with w.serial ss)
        own = subst (λ (b : Bool). IsRecorded b w (record_with w.serial ss)) (sym same.prepared) (moved u.prepared (t.recorded p u at_p))

        stands : (s : Id) → IsPreparedAt places s → IsPreparedAt (now (Some w)) s
        stands s o = elim (cases_eq o.place p) [
          | inl here_p ↦
              let is : o.unit ≡ u = some_same o.unit u (sym o.here ∙ ap (unit_at places) here_p ∙ at_p) in
              record {
                place = p;
                unit = w;
                here = here (Some w) below_p;
                own = same.serial ∙ ap (λ (y : OpenUnit). y.serial) (sym is) ∙ o.own;
                prepared = same.prepared ∙ ap (λ (y : OpenUnit). y.prepared) (sym is) ∙ o.prepared;
              }
          | inr other ↦ record { place = o.place; unit = o.unit; here = there (Some w) o.place other ∙ o.here; own = o.own; prepared = o.prepared }
        ]

    pub prepares : (rms : List Name) → u.prepared ≡ false → has_free ss ≡ true → AreTied (now (Some (prepared_unit u))) (put_in (vote_record u.tid u.serial rms) ss)
    prepares rms active free = record {
      recorded = λ q x at. elim (was (Some w) q x below_p at) [
        | inl a ↦ subst (λ (y : OpenUnit). IsRecorded y.prepared y (record_with y.serial (put_in r ss))) (some_same w x a.1) (rms, put_same r ss (inr free))
        | inr a ↦ subst (IsRecorded x.prepared x) (sym (put_other r x.serial ss (apart_ids u.serial x.serial (λ e. alone q x a.0 a.1 (sym e))))) (t.recorded q x a.1)
      ];
      owned = λ s k found kind. elim (told_id u.serial s) [
        | inl e ↦ record { place = p; unit = w; here = here (Some w) below_p; own = e.1; prepared = refl }
        | inr e ↦
            let o = t.owned s k (sym (put_other r s ss e.0) ∙ found) kind in
            let apart_p : o.place ≢ p = λ here_p. e.1 (ap (λ (y : OpenUnit). y.serial) (sym (some_same o.unit u (sym o.here ∙ ap (unit_at places) here_p ∙ at_p))) ∙ o.own) in
            record { place = o.place; unit = o.unit; here = there (Some w) o.place apart_p ∙ o.here; own = o.own; prepared = o.prepared }
      ];
      apart = apart_now w below_p alone;
      distinct = put_distinct r ss t.distinct;
    }
      where
        r : LogRecord
        r = vote_record u.tid u.serial rms

        w : OpenUnit
        w = prepared_unit u

  -- what the log has of a branch once it is settled
  settled_other : (serial s : Id) (rec : Option LogRecord) → IsOutcome serial rec ss → same_id serial s ≡ false → record_with s (settled_in serial rec ss) ≡ record_with s ss
  settled_other serial s None outcome other = forgotten_other serial s ss other
  settled_other serial s (Some r) outcome other = put_other r s ss (ap (λ (x : Id). same_id x s) outcome.0 ∙ other)

  settled_own : (serial : Id) (rec : Option LogRecord) (r : LogRecord) → IsOutcome serial rec ss → record_with serial (settled_in serial rec ss) ≡ Some r → r.kind ≡ PreparedRecord → ⊥
  settled_own serial None r outcome found kind = none_record r (sym (forgotten_same serial ss t.distinct) ∙ found)
  settled_own serial (Some q) r outcome found kind =
      let put : record_with serial (put_in q ss) ≡ Some q =
      subst (λ (x : Id). record_with x (put_in q ss) ≡ Some q) outcome.0 (put_same q ss (subst (λ (x : Id). (has_slot x ss ≡ true) ⊎ (has_free ss ≡ true)) (sym outcome.0) outcome.2)) in
      not_both (sym outcome.1 ∙ ap (λ (x : LogRecord). x.kind) (some_record q r (sym put ∙ found)) ∙ kind)

  settled_distinct : (serial : Id) (rec : Option LogRecord) → Distinct (record_serials (records_in (settled_in serial rec ss)))
  settled_distinct serial None = forgotten_distinct serial ss t.distinct
  settled_distinct serial (Some r) = put_distinct r ss t.distinct

  pub settles : (u : OpenUnit) (rec : Option LogRecord) → unit_at places p ≡ Some u → IsOutcome u.serial rec ss → AreTied (now None) (settled_in u.serial rec ss)
  settles u rec at_p outcome = record {
    recorded = λ q x at. elim (was None q x below at) [
      | inl a ↦ absurd (none_some x a.1)
      | inr a ↦ subst (IsRecorded x.prepared x) (sym (settled_other u.serial x.serial rec outcome (apart_ids u.serial x.serial (λ e. a.0 (t.apart q p x u a.1 at_p (sym e)))))) (t.recorded q x a.1)
    ];
    owned = λ s r found kind. elim (told_id u.serial s) [
      | inl e ↦ absurd (settled_own u.serial rec r outcome (subst (λ (x : Id). record_with x (settled_in u.serial rec ss) ≡ Some r) (sym e.1) found) kind)
      | inr e ↦
          let o = t.owned s r (sym (settled_other u.serial s rec outcome e.0) ∙ found) kind in
          let apart_p : o.place ≢ p = λ here_p. e.1 (ap (λ (y : OpenUnit). y.serial) (sym (some_same o.unit u (sym o.here ∙ ap (unit_at places) here_p ∙ at_p))) ∙ o.own) in
          record { place = o.place; unit = o.unit; here = there None o.place apart_p ∙ o.here; own = o.own; prepared = o.prepared }
    ];
    apart = apart_without below;
    distinct = settled_distinct u.serial rec;
  }
    where
      below : p < length places
      below = at_below places p (subst (λ (x : Option OpenUnit). IsSome x) (sym at_p) refl)

  pub keeps : (serial : Id) (rec : Option LogRecord) → IsOfNone serial places → IsOutcome serial rec ss → AreTied places (settled_in serial rec ss)
  keeps serial rec none outcome = record {
    recorded = λ q x at. subst (IsRecorded x.prepared x) (sym (settled_other serial x.serial rec outcome (apart_ids serial x.serial (λ e. none q x at (sym e))))) (t.recorded q x at);
    owned = λ s r found kind. elim (told_id serial s) [
      | inl e ↦ absurd (settled_own serial rec r outcome (subst (λ (x : Id). record_with x (settled_in serial rec ss) ≡ Some r) (sym e.1) found) kind)
      | inr e ↦ t.owned s r (sym (settled_other serial s rec outcome e.0) ∙ found) kind
    ];
    apart = t.apart;
    distinct = settled_distinct serial rec;
  }
