-- What a boot leaves of a node, and what its disk keeps wherever the boot is cut.
use Rattle.std.proofs.Common.{◌≡◌, ◌⊎◌, ◌≤◌, suc, ◌+◌, List, [], ◌∷◌, ◌++◌, length, Bool, true, false, Option, Some, None, if◌then◌else◌, refl, sym, ◌∙◌, ap, subst, arith, inl, inr}
use Rattle.std.specs.Prelude.{is_some}
use Rattle.std.specs.List.{AllByRecursion}
use Rattle.std.proofs.lemmas.Bool.{both_ways}
use Rattle.std.proofs.lemmas.List.{length-append}
use Rattle.vms_model.specs.Ids.{Id}
use Rattle.run_model.specs.records_model.History.{same_id}
use Rattle.run_model.specs.unit_laws.Journal.{RecoveryUnit, find_unit, is_settled_in, units_in}
use Rattle.run_model.specs.unit_laws.JournalLaws.{is_unit}
use Rattle.run_model.specs.commit_protocol.Messages.{Name, LogRecord, RecordKind, CommittedRecord, PreparedRecord}
use Rattle.run_model.specs.commit_protocol.Table.{Branch, branch_of, branch_serials, branches_of, holding, managers_of, prepared_record, prepared_records, record_serials, Key as BranchKey}
use Rattle.run_model.specs.commit_protocol.Agreement.{Distinct}
use Rattle.run_model.specs.commit_protocol.Limits.{PreparedWithin, TmWithin}
use Rattle.run_model.specs.commit_protocol.World.{In}
use Rattle.run_model.proofs.commit_protocol.Lists.{in_left, in_parts, in_right}
use Rattle.run_model.proofs.commit_protocol.Serials.{in_serial, serial_in as record_of_serial}
use Rattle.run_model.proofs.commit_protocol.WithinRows.{restarted_within}
use Rattle.run_model.specs.log_laws.Slots.{Slots, committed_of, is_prepared_record, prepared_of, records_in, size}
use Rattle.run_model.proofs.log_laws.Reading.{committed_is, is_committed_one, is_prepared_one, prepared_is}
use Rattle.run_model.specs.Locks.{Lock}
use Rattle.run_model.specs.World.{Durable, IsLogInOrder, IsOfTransaction, Node, find_record, prepared_left, prepared_serials, records_by, tm_of, without_record, without_units}
use Rattle.world_laws.specs.Running.{AreEntriesOf, IsDrawn, TellTable, IsUnitOf}
use Rattle.world_laws.proofs.IdLemmas.{id_is, id_itself}
use Rattle.world_laws.proofs.FindLemmas.{some_is}
use Rattle.world_laws.proofs.Counting.{AllDiffer, no_more}
use Rattle.world_laws.proofs.LogLemmas.{differ_append, prepared_differ, found_unit}
use Rattle.world_laws.proofs.RoomLemmas.{unit_serials, units_length}

-- A disk.

-- Records in another order.

record IsFound (x : Id) (rs : List LogRecord) (r : LogRecord) : Type 0 where
  serial : x ≡ r.serial
  there : In r rs
  rest : (q : LogRecord) → In q rs → (q ≡ r) ⊎ In q (without_record x rs)

in_rest : (x : Id) (rs : List LogRecord) (q : LogRecord) → In q (without_record x rs) → In q rs
in_rest x [] q i = i
in_rest x (r ∷ rs) q i = go (same_id x r.serial) i (in_rest x rs q)
  where
    go : (b : Bool) → In q (if b then rs else r ∷ without_record x rs) → (In q (without_record x rs) → In q rs) → In q (r ∷ rs)
    go true j more = inr j
    go false j more = elim j [ inl e ↦ inl e | inr k ↦ inr (more k) ]

found_record : (x : Id) (rs : List LogRecord) (r : LogRecord) → find_record x rs ≡ Some r → IsFound x rs r
found_record x [] r e = let none : ⊥ = cc in absurd none
found_record x (p ∷ rs) r e = go (same_id x p.serial) refl e (found_record x rs r)
  where
    go : (b : Bool) → same_id x p.serial ≡ b → ◌≡◌ {A = Option LogRecord} (if b then Some p else find_record x rs) (Some r) → (find_record x rs ≡ Some r → IsFound x rs r) → IsFound x (p ∷ rs) r
    go true t k more =
        let is = some_is p r k in
        record {
          serial = id_is x p.serial t ∙ ap (λ (q : LogRecord). q.serial) is;
          there = inl (sym is);
          rest = λ q i. elim i [ inl f ↦ inl (f ∙ is) | inr m ↦ inr (subst (λ b. In q (if b then rs else p ∷ without_record x rs)) (sym t) m) ];
        }
    go false t k more =
        let f = more k in
        record {
          serial = f.serial;
          there = inr f.there;
          rest = λ q i. elim i [
            | inl s ↦ inr (subst (λ b. In q (if b then rs else p ∷ without_record x rs)) (sym t) (inl s))
            | inr m ↦ elim (f.rest q m) [ inl s ↦ inl s | inr z ↦ inr (subst (λ b. In q (if b then rs else p ∷ without_record x rs)) (sym t) (inr z)) ]
          ];
        }

rest_differ : (x : Id) (rs : List LogRecord) → AllDiffer (record_serials rs) → AllDiffer (record_serials (without_record x rs)) × (In x (record_serials (without_record x rs)) → ⊥)
rest_differ x [] d = (tt, λ i. i)
rest_differ x (r ∷ rs) d = go (same_id x r.serial) refl (rest_differ x rs d.1)
  where
    serials_in : (y : Id) → In y (record_serials (without_record x rs)) → In y (record_serials rs)
    serials_in y i = let s = record_of_serial y (without_record x rs) i in subst (λ z. In z (record_serials rs)) s.2 (in_serial s.0 rs (in_rest x rs s.0 s.1))

    go : (b : Bool) → same_id x r.serial ≡ b → AllDiffer (record_serials (without_record x rs)) × (In x (record_serials (without_record x rs)) → ⊥) →
        AllDiffer (record_serials (if b then rs else r ∷ without_record x rs)) × (In x (record_serials (if b then rs else r ∷ without_record x rs)) → ⊥)
    go true t more = (d.1, λ i. d.0 (subst (λ y. In y (record_serials rs)) (id_is x r.serial t) i))
    go false t more = (((λ i. d.0 (serials_in r.serial i)), more.0), λ i. elim i [ inl e ↦ both_ways _ t (subst (λ y. same_id x y ≡ true) e (id_itself x)) | inr k ↦ more.1 k ])

-- the same records, each once
pub record IsReordered (ps qs : List LogRecord) : Type 0 where
  pub there : (q : LogRecord) → In q ps → In q qs
  pub back : (q : LogRecord) → In q qs → In q ps
  pub differ : AllDiffer (record_serials ps)

pub reordered : (xs : List Id) (rs : List LogRecord) → AllDiffer (record_serials rs) → IsReordered (records_by xs rs) rs
reordered [] rs d = record { there = λ q i. i; back = λ q i. i; differ = d }
reordered (x ∷ xs) rs d = go (find_record x rs) refl (reordered xs (without_record x rs) (rest_differ x rs d).0) (reordered xs rs d)
  where
    go : (o : Option LogRecord) → find_record x rs ≡ o → IsReordered (records_by xs (without_record x rs)) (without_record x rs) → IsReordered (records_by xs rs) rs →
        IsReordered (elim o [ Some r ↦ r ∷ records_by xs (without_record x rs) | None ↦ records_by xs rs ]) rs
    go (Some r) e h k =
        let f = found_record x rs r e in
        record {
          there = λ q i. elim i [ inl s ↦ subst (λ (z : LogRecord). In z rs) (sym s) f.there | inr m ↦ in_rest x rs q (h.there q m) ];
          back = λ q i. elim (f.rest q i) [ inl s ↦ inl s | inr m ↦ inr (h.back q m) ];
          differ = (
            (λ i. let s = record_of_serial r.serial (records_by xs (without_record x rs)) i in (rest_differ x rs d).1
                (subst (λ y. In y (record_serials (without_record x rs))) (s.2 ∙ sym f.serial) (in_serial s.0 (without_record x rs) (h.there s.0 s.1)))),
            h.differ,
          );
        }
    go None e h k = k

pub left_reordered : (d : Durable) → Distinct (record_serials (records_in d.log)) → IsReordered (prepared_left d) (prepared_of (records_in d.log))
left_reordered d distinct = reordered (prepared_serials d.units.entries) (prepared_of (records_in d.log)) (prepared_differ (records_in d.log) distinct)

-- Branches of records.

held_again : (xs : List Name) → holding (managers_of xs) ≡ xs
held_again [] = refl
held_again (x ∷ xs) = ap (λ ys. x ∷ ys) (held_again xs)

again : (r : LogRecord) → PreparedWithin r → prepared_record (branch_of r) ≡ r
again r w = λ i. record { kind = sym w.kind i; tid = r.tid; serial = r.serial; waiting = sym w.waiting i; rms = held_again r.rms i }

all_again : (ps : List LogRecord) → ((r : LogRecord) → In r ps → PreparedWithin r) → prepared_records (branches_of ps) ≡ ps
all_again [] w = refl
all_again (r ∷ ps) w = λ i. again r (w r (inl refl)) i ∷ all_again ps (λ q j. w q (inr j)) i

pub serials_again : (ps : List LogRecord) → branch_serials (branches_of ps) ≡ record_serials ps
serials_again [] = refl
serials_again (r ∷ ps) = ap (λ xs. r.serial ∷ xs) (serials_again ps)

pub branch_in : (ps : List LogRecord) (b : Branch) → In b (branches_of ps) → (r : LogRecord) × In r ps × (b ≡ branch_of r)
branch_in [] b i = absurd i
branch_in (r ∷ ps) b i = elim i [ inl e ↦ (r, inl refl, e) | inr more ↦ let m = branch_in ps b more in (m.0, inr m.1, m.2) ]

in_branches : (ps : List LogRecord) (r : LogRecord) → In r ps → In (branch_of r) (branches_of ps)
in_branches [] r i = absurd i
in_branches (q ∷ ps) r i = elim i [ inl e ↦ inl (ap branch_of e) | inr more ↦ inr (in_branches ps r more) ]

-- Counts.

kinds_length : (rs : List LogRecord) → length (prepared_of rs) + length (committed_of rs) ≡ length rs
kinds_length [] = refl
kinds_length (r ∷ rs) = go r.kind (kinds_length rs)
  where
    go : (k : RecordKind) → length (prepared_of rs) + length (committed_of rs) ≡ length rs →
        length (if is_prepared_record k then r ∷ prepared_of rs else prepared_of rs) + length (if is_prepared_record k then committed_of rs else r ∷ committed_of rs) ≡ suc (length rs)
    go PreparedRecord e = omega (arith, e)
    go CommittedRecord e = omega (arith, e)

records_fit : (ss : Slots) → length (records_in ss) ≤ length ss
records_fit [] = omega arith
records_fit (None ∷ ss) = let more = records_fit ss in omega (arith, more)
records_fit (Some r ∷ ss) = let more = records_fit ss in omega (arith, more)

serials_count : (rs : List LogRecord) → length (record_serials rs) ≡ length rs
serials_count [] = refl
serials_count (r ∷ rs) = ap suc (serials_count rs)

same_length : (ps qs : List LogRecord) → IsReordered ps qs → length ps ≤ length qs
same_length ps qs h =
    let most = no_more (record_serials ps) (record_serials qs) h.differ (λ x i. let s = record_of_serial x ps i in subst (λ z. In z (record_serials qs)) s.2 (in_serial s.0 qs (h.there s.0 s.1))) in
    let a = serials_count ps in
    let b = serials_count qs in
    omega (arith, most, a, b)

branches_count : (ps : List LogRecord) → length (branches_of ps) ≡ length ps
branches_count [] = refl
branches_count (r ∷ ps) = ap suc (branches_count ps)

committed_serials : (rs : List LogRecord) → Distinct (record_serials rs) → AllDiffer (record_serials (committed_of rs))
committed_serials [] d = tt
committed_serials (r ∷ rs) d = go r.kind (committed_serials rs d.1)
  where
    go : (k : RecordKind) → AllDiffer (record_serials (committed_of rs)) → AllDiffer (record_serials (if is_prepared_record k then committed_of rs else r ∷ committed_of rs))
    go PreparedRecord more = more
    go CommittedRecord more = ((λ i. let s = record_of_serial r.serial (committed_of rs) i in d.0 (subst (λ z. In z (record_serials rs)) s.2 (in_serial s.0 rs (committed_is rs s.0 s.1).0))), more)

one_record : (rs : List LogRecord) (p q : LogRecord) → Distinct (record_serials rs) → In p rs → In q rs → p.serial ≡ q.serial → p ≡ q
one_record [] p q d i j e = absurd i
one_record (r ∷ rs) p q d i j e = elim i [
  | inl a ↦ elim j [ inl b ↦ a ∙ sym b | inr b ↦ absurd (d.0 (subst (λ x. In x (record_serials rs)) (sym e ∙ ap (λ (z : LogRecord). z.serial) a) (in_serial q rs b))) ]
  | inr a ↦ elim j [ inl b ↦ absurd (d.0 (subst (λ x. In x (record_serials rs)) (e ∙ ap (λ (z : LogRecord). z.serial) b) (in_serial p rs a))) | inr b ↦ one_record rs p q d.1 a b e ]
]

-- The table of a boot.

module _ (m : Node) (l : IsLogInOrder m) (ps : List LogRecord) (o : IsReordered ps (prepared_of (records_in m.durable.log))) (drawn : (r : LogRecord) → In r (records_in m.durable.log) → IsDrawn m.name m.durable.boot 0 r.serial)
    (all : (x : Id) (u : RecoveryUnit) → find_unit x (units_in m.durable.units.entries) ≡ Some u → u.prepared ≡ true) (order : List BranchKey) (locks : List Lock) where
  abbrev rs : List LogRecord
  rs = records_in m.durable.log

  abbrev pub up : Node
  up = record m { volatile = record { drawn = 0; branches = branches_of ps; records = committed_of rs; preparation = order; locks = locks; declared = [] } }

  within : (r : LogRecord) → In r ps → PreparedWithin r
  within r i = l.prepared_within r (o.there r i)

  few : length (prepared_of rs) ≤ 64
  few =
      let us = units_in m.durable.units.entries in
      let qs = without_units m.durable.units (prepared_of rs) in
      let most = no_more (record_serials (prepared_of rs)) (unit_serials us ++ record_serials qs) (prepared_differ rs l.distinct) known in
      let a = serials_count (prepared_of rs) in
      let b = length-append (unit_serials us) (record_serials qs) in
      let c = units_length us in
      let e = serials_count qs in
      let limit = l.few in
      omega (arith, most, a, b, c, e, limit)
    where
      without : (rs : List LogRecord) (r : LogRecord) → In r rs → is_unit r.serial m.durable.units ≡ false → In r (without_units m.durable.units rs)
      without [] r i e = i
      without (q ∷ rs) r i e = go (is_unit q.serial m.durable.units) refl i (λ k. without rs r k e)
        where
          go : (b : Bool) → is_unit q.serial m.durable.units ≡ b → In r (q ∷ rs) → (In r rs → In r (without_units m.durable.units rs)) → In r (if b then without_units m.durable.units rs else q ∷ without_units m.durable.units rs)
          go true t k more = elim k [ inl s ↦ absurd (both_ways _ e (subst (λ (z : LogRecord). is_unit z.serial m.durable.units ≡ true) (sym s) t)) | inr z ↦ more z ]
          go false t k more = elim k [ inl s ↦ inl s | inr z ↦ inr (more z) ]

      serial_there : (us : List RecoveryUnit) (x : Id) → is_some (find_unit x us) ≡ true → In x (unit_serials us)
      serial_there [] x e = let none : ⊥ = cc in absurd none
      serial_there (u ∷ us) x e = go (same_id x u.serial) refl e (serial_there us x)
        where
          go : (b : Bool) → same_id x u.serial ≡ b → is_some (if b then Some u else find_unit x us) ≡ true → (is_some (find_unit x us) ≡ true → In x (unit_serials us)) → In x (u.serial ∷ unit_serials us)
          go true t k more = inl (id_is x u.serial t)
          go false t k more = inr (more k)

      known : (x : Id) → In x (record_serials (prepared_of rs)) → In x (unit_serials (units_in m.durable.units.entries) ++ record_serials (without_units m.durable.units (prepared_of rs)))
      known x i =
          let s = record_of_serial x (prepared_of rs) i in
          subst (λ z. In z (unit_serials (units_in m.durable.units.entries) ++ record_serials (without_units m.durable.units (prepared_of rs)))) s.2 (go s.0 s.1 (is_unit (s.0).serial m.durable.units) refl)
        where
          go : (r : LogRecord) → In r (prepared_of rs) → (b : Bool) → is_unit r.serial m.durable.units ≡ b → In r.serial (unit_serials (units_in m.durable.units.entries) ++ record_serials (without_units m.durable.units (prepared_of rs)))
          go r j true t = in_left r.serial (unit_serials (units_in m.durable.units.entries)) (record_serials (without_units m.durable.units (prepared_of rs))) (serial_there (units_in m.durable.units.entries) r.serial t)
          go r j false t = in_right r.serial (unit_serials (units_in m.durable.units.entries)) (record_serials (without_units m.durable.units (prepared_of rs))) (in_serial r (without_units m.durable.units (prepared_of rs)) (without (prepared_of rs) r j t))

  total : length ps + length (committed_of rs) ≤ length m.durable.log
  total =
      let a = kinds_length rs in
      let b = records_fit m.durable.log in
      let c = same_length ps (prepared_of rs) o in
      omega (arith, a, b, c)

  pub boot_limits : TmWithin (tm_of up)
  boot_limits = restarted_within m.name ps (committed_of rs) (record {
    prepared = within;
    committed = l.committed_within;
    table = let a = few in let c = same_length ps (prepared_of rs) o in omega (arith, a, c);
    log = let a = total in let b = l.slots in omega (arith, a, b);
  })

  pub boot_room : size (tm_of up) ≤ length m.durable.log
  boot_room = let a = branches_count ps in let b = total in omega (arith, a, b)

  pub boot_table : TellTable up
  boot_table = record {
    log = record {
      from = λ q i. go q i q.kind refl;
      prepared = λ q i. (prepared_is rs q (o.there q (subst (In q) (all_again ps within) i))).0;
      committed = λ q i. (committed_is rs q i).0;
      distinct = l.distinct;
    };
    apart = subst (λ xs. Distinct (xs ++ record_serials (committed_of rs))) (sym (serials_again ps)) (differ_append (record_serials ps) (record_serials (committed_of rs)) o.differ (committed_serials rs l.distinct) apart);
    limits = boot_limits;
    drawn = λ x i. of x (subst (λ xs. In x (xs ++ record_serials (committed_of rs))) (serials_again ps) i);
    branches = λ x u e.
        let p = l.prepared x u e (all x u e) in
        record {
          branch = branch_of p.0;
          there = in_branches ps p.0 (o.back p.0 p.1);
          serial = p.2 ∙ found_unit x (units_in m.durable.units.entries) u e;
          tid = p.3;
          prepared = sym (all x u e);
          changed = λ f. absurd (both_ways _ f (all x u e));
        };
    units = λ b i. let p = branch_in ps b i in subst (λ (c : Branch). IsUnitOf m.durable.units c) (sym p.2) (λ f g. let none : ⊥ = cc in absurd none);
    entries = λ b i. let p = branch_in ps b i in subst (AreEntriesOf m.durable.units.entries) (sym p.2) (record {
      unsettled = each (λ (r : LogRecord). is_settled_in r.serial m.durable.units.entries ≡ false) (prepared_of rs) l.unsettled p.0 (o.there p.0 p.1);
      unprepared = λ f. let none : ⊥ = cc in absurd none;
      transaction = each (λ (r : LogRecord). AllByRecursion (IsOfTransaction r.tid r.serial) m.durable.units.entries) (prepared_of rs) l.transactions p.0 (o.there p.0 p.1);
    });
  }
    where
      go : (q : LogRecord) → In q rs → (k : RecordKind) → q.kind ≡ k → In q (prepared_records (branches_of ps)) ⊎ In q (committed_of rs)
      go q i PreparedRecord e = inl (subst (In q) (sym (all_again ps within)) (o.back q (is_prepared_one rs q i e)))
      go q i CommittedRecord e = inr (is_committed_one rs q i e)

      apart : (x : Id) → In x (record_serials ps) → In x (record_serials (committed_of rs)) → ⊥
      apart x i j =
          let p = record_of_serial x ps i in
          let q = record_of_serial x (committed_of rs) j in
          let a = prepared_is rs p.0 (o.there p.0 p.1) in
          let b = committed_is rs q.0 q.1 in
          let same = one_record rs p.0 q.0 l.distinct a.0 b.0 (p.2 ∙ sym q.2) in
          let clash : PreparedRecord ≡ CommittedRecord = sym a.1 ∙ ap (λ (z : LogRecord). z.kind) same ∙ b.1 in
          let none : ⊥ = cc in none

      of : (x : Id) → In x (record_serials ps ++ record_serials (committed_of rs)) → IsDrawn m.name m.durable.boot 0 x
      of x i = elim (in_parts x (record_serials ps) (record_serials (committed_of rs)) i) [
        | inl j ↦ (let p = record_of_serial x ps j in subst (IsDrawn m.name m.durable.boot 0) p.2 (drawn p.0 (prepared_is rs p.0 (o.there p.0 p.1)).0))
        | inr j ↦ (let p = record_of_serial x (committed_of rs) j in subst (IsDrawn m.name m.durable.boot 0) p.2 (drawn p.0 (committed_is rs p.0 p.1).0))
      ]

      each : {A : Type 0} (P : A → Type 0) (xs : List A) → AllByRecursion P xs → (x : A) → In x xs → P x
      each P [] h x i = absurd i
      each P (y ∷ ys) h x i = elim i [ inl e ↦ subst P (sym e) h.0 | inr more ↦ each P ys h.1 x more ]
