-- Where log and journal tell the table of a node, they tell one another.
use Rattle.std.proofs.Common.{◌≡◌, ◌≤◌, suc, ◌+◌, List, [], ◌∷◌, ◌++◌, length, Bool, true, false, Option, Some, None, if◌then◌else◌, refl, sym, ◌∙◌, ap, subst, arith, inl, inr}
use Rattle.std.specs.Prelude.{is_some}
use Rattle.std.specs.List.{AllByRecursion}
use Rattle.std.proofs.lemmas.Bool.{both_ways, cond_both}
use Rattle.std.proofs.lemmas.List.{length-append}
use Rattle.vms_model.specs.Ids.{Id}
use Rattle.run_model.specs.records_model.History.{same_id}
use Rattle.run_model.specs.unit_laws.Journal.{Journal, RecoveryUnit, find_unit, units_in, is_settled_in}
use Rattle.run_model.specs.unit_laws.JournalLaws.{is_unit}
use Rattle.run_model.specs.commit_protocol.Messages.{LogRecord, RecordKind, CommittedRecord, PreparedRecord}
use Rattle.run_model.specs.commit_protocol.Table.{Branch, Prepared, State, Joining, Active, Ending, Voting, branch_serials, prepared_record, prepared_records, record_serials}
use Rattle.run_model.specs.commit_protocol.Allowed.{is_prepared}
use Rattle.run_model.specs.commit_protocol.Agreement.{Distinct}
use Rattle.run_model.specs.commit_protocol.Limits.{PreparedWithin, RecordWithin}
use Rattle.run_model.specs.commit_protocol.World.{In}
use Rattle.run_model.proofs.commit_protocol.Lists.{in_left, in_parts, in_right}
use Rattle.run_model.proofs.commit_protocol.Serials.{in_serial, parts_apart}
use Rattle.run_model.proofs.commit_protocol.Within.{length_holding}
use Rattle.run_model.specs.log_laws.Slots.{prepared_of, committed_of, is_prepared_record, records_in}
use Rattle.run_model.proofs.log_laws.Slotting.{in_state, state_first, state_rest}
use Rattle.run_model.proofs.log_laws.Reading.{prepared_is, is_prepared_one, committed_is}
use Rattle.run_model.specs.World.{IsLogInOrder, IsOfTransaction, IsReached, Node, without_units}
use Rattle.world_laws.specs.Running.{IsDrawn, TellTable}
use Rattle.world_laws.proofs.IdLemmas.{id_is}
use Rattle.world_laws.proofs.FindLemmas.{some_is}
use Rattle.world_laws.proofs.Counting.{AllDiffer, no_more}
use Rattle.world_laws.proofs.UnitSets.{units_differ}
use Rattle.world_laws.proofs.RoomLemmas.{in_units, unit_serials, unit_serials_differ, units_length}
use Rattle.world_laws.proofs.TableLemmas.{in_serials, one_branch}

pub all_in : {A : Type 0} (P : A → Type 0) (xs : List A) → ((x : A) → In x xs → P x) → AllByRecursion P xs
all_in P [] f = tt
all_in P (x ∷ xs) f = (f x (inl refl), all_in P xs (λ y i. f y (inr i)))

-- an id that was drawn is of a boot that was counted
pub drawn_reached : (n : Node) (x : Id) → IsDrawn n.name n.durable.boot n.volatile.drawn x → IsReached n x
drawn_reached n x d = (d.0, elim d.1 [ inl earlier ↦ omega arith | inr here ↦ omega arith ])

-- Records of prepared branches.

pub record IsPreparedOf (bs : List Branch) (q : LogRecord) : Type 0 where
  pub branch : Branch
  pub there : In branch bs
  pub state : branch.state ≡ Prepared
  pub is : q ≡ prepared_record branch

pub prepared_branch : (bs : List Branch) (q : LogRecord) → In q (prepared_records bs) → IsPreparedOf bs q
prepared_branch [] q i = absurd i
prepared_branch (b ∷ bs) q i = elim (in_state b b.state (prepared_records bs) q i) [
  | inl here ↦ record { branch = b; there = inl refl; state = here.0; is = here.1 }
  | inr more ↦ let r = prepared_branch bs q more in record { branch = r.branch; there = inr r.there; state = r.state; is = r.is }
]

pub record_there : (bs : List Branch) (b : Branch) → In b bs → b.state ≡ Prepared → In (prepared_record b) (prepared_records bs)
record_there [] b i e = absurd i
record_there (c ∷ bs) b i e = elim i [
  | inl same ↦ state_first c c.state (prepared_records bs) (prepared_record b) (ap (λ (x : Branch). x.state) (sym same) ∙ e) (ap prepared_record same)
  | inr more ↦ state_rest c c.state (prepared_records bs) (prepared_record b) (record_there bs b more e)
]

pub state_prepared : (s : State) → is_prepared s ≡ true → s ≡ Prepared
state_prepared Prepared e = refl
state_prepared Joining e = let none : ⊥ = cc in absurd none
state_prepared Active e = let none : ⊥ = cc in absurd none
state_prepared Ending e = let none : ⊥ = cc in absurd none
state_prepared Voting e = let none : ⊥ = cc in absurd none

pub found_unit : (x : Id) (us : List RecoveryUnit) (u : RecoveryUnit) → find_unit x us ≡ Some u → u.serial ≡ x
found_unit x [] u e = let none : ⊥ = cc in absurd none
found_unit x (v ∷ us) u e = go (same_id x v.serial) refl e (found_unit x us u)
  where
    go : (t : Bool) → same_id x v.serial ≡ t → ◌≡◌ {A = Option RecoveryUnit} (if t then Some v else find_unit x us) (Some u) → (find_unit x us ≡ Some u → u.serial ≡ x) → u.serial ≡ x
    go true t k more = ap (λ (w : RecoveryUnit). w.serial) (sym (some_is v u k)) ∙ sym (id_is x v.serial t)
    go false t k more = more k

-- Counts.

serials_length : (bs : List Branch) → length (branch_serials bs) ≡ length bs
serials_length [] = refl
serials_length (b ∷ bs) = ap suc (serials_length bs)

records_length : (rs : List LogRecord) → length (record_serials rs) ≡ length rs
records_length [] = refl
records_length (r ∷ rs) = ap suc (records_length rs)

in_without : (j : Journal) (rs : List LogRecord) (x : Id) → In x (record_serials (without_units j rs)) → (r : LogRecord) × In r rs × (x ≡ r.serial) × (is_unit x j ≡ false)
in_without j [] x i = absurd i
in_without j (r ∷ rs) x i = go (is_unit r.serial j) refl i (in_without j rs x)
  where
    go : (b : Bool) → is_unit r.serial j ≡ b → In x (record_serials (if b then without_units j rs else r ∷ without_units j rs)) → (In x (record_serials (without_units j rs)) → (q : LogRecord) × In q rs × (x ≡ q.serial) × (is_unit x j ≡ false)) →
        (q : LogRecord) × In q (r ∷ rs) × (x ≡ q.serial) × (is_unit x j ≡ false)
    go true t k more = let m = more k in (m.0, inr m.1, m.2, m.3)
    go false t k more = elim k [ inl e ↦ (r, inl refl, e, ap (λ y. is_unit y j) e ∙ t) | inr rest ↦ let m = more rest in (m.0, inr m.1, m.2, m.3) ]

without_differ : (j : Journal) (rs : List LogRecord) → AllDiffer (record_serials rs) → AllDiffer (record_serials (without_units j rs))
without_differ j [] d = tt
without_differ j (r ∷ rs) d = cond_both (is_unit r.serial j) (without_units j rs) (r ∷ without_units j rs) (λ qs. AllDiffer (record_serials qs)) (λ t. without_differ j rs d.1)
    (λ t. ((λ i. let m = in_without j rs r.serial i in d.0 (subst (λ y. In y (record_serials rs)) (sym m.2) (in_serial m.0 rs m.1))), without_differ j rs d.1))

prepared_serials_in : (rs : List LogRecord) (x : Id) → In x (record_serials (prepared_of rs)) → In x (record_serials rs)
prepared_serials_in [] x i = i
prepared_serials_in (r ∷ rs) x i = go r.kind i (prepared_serials_in rs x)
  where
    go : (k : RecordKind) → In x (record_serials (if is_prepared_record k then r ∷ prepared_of rs else prepared_of rs)) → (In x (record_serials (prepared_of rs)) → In x (record_serials rs)) → In x (r.serial ∷ record_serials rs)
    go PreparedRecord j more = elim j [ inl e ↦ inl e | inr rest ↦ inr (more rest) ]
    go CommittedRecord j more = inr (more j)

pub prepared_differ : (rs : List LogRecord) → Distinct (record_serials rs) → AllDiffer (record_serials (prepared_of rs))
prepared_differ [] d = tt
prepared_differ (r ∷ rs) d = go r.kind (prepared_differ rs d.1)
  where
    go : (k : RecordKind) → AllDiffer (record_serials (prepared_of rs)) → AllDiffer (record_serials (if is_prepared_record k then r ∷ prepared_of rs else prepared_of rs))
    go PreparedRecord more = ((λ i. d.0 (prepared_serials_in rs r.serial i)), more)
    go CommittedRecord more = more

pub differ_append : (xs ys : List Id) → AllDiffer xs → AllDiffer ys → ((x : Id) → In x xs → In x ys → ⊥) → AllDiffer (xs ++ ys)
differ_append [] ys d e apart = e
differ_append (x ∷ xs) ys d e apart =
    ((λ i. elim (in_parts x xs ys i) [ inl j ↦ d.0 j | inr j ↦ apart x (inl refl) j ]), differ_append xs ys d.1 e (λ y i j. apart y (inr i) j))

-- The log.

module _ (n : Node) (t : TellTable n) where
  abbrev rs : List LogRecord
  rs = records_in n.durable.log

  abbrev j : Journal
  j = n.durable.units

  serials_differ : Distinct (branch_serials n.volatile.branches)
  serials_differ = (parts_apart (branch_serials n.volatile.branches) (record_serials n.volatile.records) t.apart).one

  pub branch_of : (r : LogRecord) → In r (prepared_of rs) → IsPreparedOf n.volatile.branches r
  branch_of r i = let k = prepared_is rs r i in elim (t.log.from r k.0) [
    | inl p ↦ prepared_branch n.volatile.branches r p
    | inr c ↦ let clash : CommittedRecord ≡ PreparedRecord = sym (t.limits.records r c).kind ∙ k.1 in let none : ⊥ = cc in absurd none
  ]

  reached : (r : LogRecord) → In r rs → IsReached n r.serial
  reached r i = elim (t.log.from r i) [
    | inl p ↦ (let b = prepared_branch n.volatile.branches r p in
        subst (IsReached n) (ap (λ (q : LogRecord). q.serial) (sym b.is)) (drawn_reached n (b.branch).key.serial (t.drawn (b.branch).key.serial (in_left (b.branch).key.serial (branch_serials n.volatile.branches) (record_serials n.volatile.records) (in_serials b.branch n.volatile.branches b.there)))))
    | inr c ↦ drawn_reached n r.serial (t.drawn r.serial (in_right r.serial (branch_serials n.volatile.branches) (record_serials n.volatile.records) (in_serial r n.volatile.records c)))
  ]

  within : (r : LogRecord) → In r (prepared_of rs) → PreparedWithin r
  within r i =
      let b = branch_of r i in
      let most = (t.limits.branches b.branch b.there).managers in
      let held = length_holding (b.branch).managers in
      subst PreparedWithin (sym b.is) (record { kind = refl; waiting = refl; rms = omega (arith, most, held) })

  committed : (r : LogRecord) → In r (committed_of rs) → RecordWithin r
  committed r i = let k = committed_is rs r i in elim (t.log.from r k.0) [
    | inl p ↦ (let b = prepared_branch n.volatile.branches r p in let clash : PreparedRecord ≡ CommittedRecord = ap (λ (q : LogRecord). q.kind) (sym b.is) ∙ k.1 in let none : ⊥ = cc in absurd none)
    | inr c ↦ t.limits.records r c
  ]

  prepared : (x : Id) (u : RecoveryUnit) → find_unit x (units_in j.entries) ≡ Some u → u.prepared ≡ true → (r : LogRecord) × In r (prepared_of rs) × (r.serial ≡ u.serial) × (r.tid ≡ u.tid)
  prepared x u e p =
      let b = t.branches x u e in
      let r = prepared_record b.branch in
      let state = state_prepared (b.branch).state (b.prepared ∙ p) in
      (r, is_prepared_one rs r (t.log.prepared r (record_there n.volatile.branches b.branch b.there state)) refl, b.serial ∙ sym (found_unit x (units_in j.entries) u e), b.tid)

  active : (r : LogRecord) (u : RecoveryUnit) → In r (prepared_of rs) → find_unit r.serial (units_in j.entries) ≡ Some u → (u.prepared ≡ true) × (r.tid ≡ u.tid)
  active r u i e =
      let b = branch_of r i in
      let c = t.branches r.serial u e in
      let same : c.branch ≡ b.branch = one_branch n.volatile.branches c.branch b.branch serials_differ c.there b.there (c.serial ∙ ap (λ (q : LogRecord). q.serial) b.is) in
      (sym c.prepared ∙ ap (λ (y : Branch). is_prepared y.state) same ∙ ap is_prepared b.state, ap (λ (q : LogRecord). q.tid) b.is ∙ ap (λ (y : Branch). y.key.tid) (sym same) ∙ c.tid)

  few : length (units_in j.entries) + length (without_units j (prepared_of rs)) ≤ 64
  few =
      let us = units_in j.entries in
      let qs = without_units j (prepared_of rs) in
      let all = no_more (unit_serials us ++ record_serials qs) (branch_serials n.volatile.branches)
      (differ_append (unit_serials us) (record_serials qs) (unit_serials_differ us (units_differ j.entries)) (without_differ j (prepared_of rs) (prepared_differ rs t.log.distinct))
      (λ x i k. both_ways _ (in_without j (prepared_of rs) x k).3 (in_units x us i))) known in
      let one = length-append (unit_serials us) (record_serials qs) in
      let two = units_length us in
      let three = records_length qs in
      let four = serials_length n.volatile.branches in
      let most = t.limits.table in
      omega (arith, all, one, two, three, four, most)
    where
      unit_at : (x : Id) (o : Option RecoveryUnit) → find_unit x (units_in j.entries) ≡ o → is_some o ≡ true → In x (branch_serials n.volatile.branches)
      unit_at x (Some u) e k = let b = t.branches x u e in subst (λ y. In y (branch_serials n.volatile.branches)) b.serial (in_serials b.branch n.volatile.branches b.there)
      unit_at x None e k = let none : ⊥ = cc in absurd none

      known : (x : Id) → In x (unit_serials (units_in j.entries) ++ record_serials (without_units j (prepared_of rs))) → In x (branch_serials n.volatile.branches)
      known x i = elim (in_parts x (unit_serials (units_in j.entries)) (record_serials (without_units j (prepared_of rs))) i) [
        | inl k ↦ unit_at x (find_unit x (units_in j.entries)) refl (in_units x (units_in j.entries) k)
        | inr k ↦ (let m = in_without j (prepared_of rs) x k in let b = branch_of m.0 m.1 in
            subst (λ y. In y (branch_serials n.volatile.branches)) (sym (m.2 ∙ ap (λ (q : LogRecord). q.serial) b.is)) (in_serials b.branch n.volatile.branches b.there))
      ]

  pub told_log : length n.durable.log ≤ 512 → IsLogInOrder n
  told_log slots = record {
    distinct = t.log.distinct;
    reached = all_in (λ r. IsReached n r.serial) rs reached;
    prepared_within = within;
    committed_within = committed;
    prepared = prepared;
    active = active;
    transactions = all_in _ (prepared_of rs) (λ r i. let b = branch_of r i in subst (λ (q : LogRecord). AllByRecursion (IsOfTransaction q.tid q.serial) j.entries) (sym b.is) (t.entries b.branch b.there).transaction);
    unsettled = all_in _ (prepared_of rs) (λ r i. let b = branch_of r i in subst (λ (q : LogRecord). is_settled_in q.serial j.entries ≡ false) (sym b.is) (t.entries b.branch b.there).unsettled);
    few = few;
    slots = slots;
  }
