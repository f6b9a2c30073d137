-- What a fall leaves of a node whose disk tells its table.
use Rattle.std.specs.Prelude.{if◌then◌else◌}
use Rattle.std.proofs.Common.{◌≡◌, Bool, true, false, List, [], ◌∷◌, Option, Some, None, ◌⊎◌, inl, inr, refl, ap, sym, subst, ◌∙◌}
use Rattle.vms_model.specs.Ids.{Id}
use Rattle.run_model.specs.records_model.History.{same_id}
use Rattle.commit_protocol.specs.Messages.{LogRecord, PreparedRecord, CommittedRecord}
use Rattle.commit_protocol.specs.Table.{Key, Branch, record_key, prepared_record, prepared_records}
use Rattle.commit_protocol.specs.World.{In, crashed}
use Rattle.commit_protocol.specs.Opening.{DistinctKeys, AreRearranged}
use Rattle.run_model.specs.log_laws.Slots.{records_in, prepared_of}
use Rattle.run_model.proofs.log_laws.Slotting.{in_state}
use Rattle.run_model.proofs.log_laws.Reading.{read_records}
use Rattle.run_model.proofs.log_laws.RowSlots.{prepared_in}
use Rattle.run_model.specs.World.{Node, find_record, without_record, records_by, prepared_serials, prepared_left, tm_of}
use Rattle.run_agreement.specs.Seen.{IsTold, IsLeft, raw}
use Rattle.run_agreement.proofs.Found.{some_is}

-- one record is taken out of several of distinct branches
record Taken (s : Id) (rs : List LogRecord) (r : LogRecord) : Type 0 where
  among : In r rs
  distinct : DistinctKeys (without_record s rs)
  there : (q : LogRecord) → In q (without_record s rs) → In q rs × (record_key q ≡ record_key r → ⊥)
  back : (q : LogRecord) → In q rs → (q ≡ r) ⊎ In q (without_record s rs)

takes_out : (s : Id) (rs : List LogRecord) (r : LogRecord) → DistinctKeys rs → find_record s rs ≡ Some r → Taken s rs r
takes_out s [] r d e = absurd (let f : ⊥ = cc in f)
takes_out s (x ∷ rs) r d e = go (same_id s x.serial) refl e (takes_out s rs r d.1)
  where
    go : (b : Bool) → same_id s x.serial ≡ b → (let o : Option LogRecord = if b then Some x else find_record s rs in o) ≡ Some r → (find_record s rs ≡ Some r → Taken s rs r) → Taken s (x ∷ rs) r
    go true is k more =
        let same : x ≡ r = some_is x r k in
        let left : without_record s (x ∷ rs) ≡ rs = rw is refl in
        let P : LogRecord → Type 0 = λ z. (q : LogRecord) → In q rs → record_key q ≡ record_key z → ⊥ in
        record {
          among = inl (sym same);
          distinct = subst DistinctKeys (sym left) d.1;
          there = λ q i. (let Q : List LogRecord → Type 0 = λ zs. In q zs in let j : In q rs = subst Q left i in (inr j, subst P same d.0 q j));
          back = λ q i. elim i [ inl z ↦ inl (z ∙ same) | inr j ↦ inr (let Q : List LogRecord → Type 0 = λ zs. In q zs in subst Q (sym left) j) ];
        }
    go false is k more =
        let m = more k in
        let left : without_record s (x ∷ rs) ≡ x ∷ without_record s rs = rw is refl in
        record {
          among = inr m.among;
          distinct = subst DistinctKeys (sym left) ((λ q i. d.0 q (m.there q i).0), m.distinct);
          there = λ q i. (let Q : List LogRecord → Type 0 = λ zs. In q zs in elim (let j : In q (x ∷ without_record s rs) = subst Q left i in j) [
            | inl z ↦ (inl z, λ same. d.0 r m.among (sym same ∙ ap record_key z))
            | inr j ↦ (let t = m.there q j in (inr t.0, t.1))
          ]);
          back = λ q i. (let Q : List LogRecord → Type 0 = λ zs. In q zs in elim i [
            | inl z ↦ inr (subst Q (sym left) (inl z))
            | inr j ↦ elim (m.back q j) [ inl z ↦ inl z | inr z ↦ inr (subst Q (sym left) (inr z)) ]
          ]);
        }

pub by_serials : (ss : List Id) (rs : List LogRecord) → DistinctKeys rs → AreRearranged (records_by ss rs) rs
by_serials [] rs d = record { distinct = d; there = λ q i. i; back = λ q i. i }
by_serials (s ∷ ss) rs d = go (find_record s rs) refl (λ ts e. by_serials ss ts e)
  where
    go : (o : Option LogRecord) → find_record s rs ≡ o → ((ts : List LogRecord) → DistinctKeys ts → AreRearranged (records_by ss ts) ts) → AreRearranged (elim o [ Some r ↦ r ∷ records_by ss (without_record s rs) | None ↦ records_by ss rs ]) rs
    go None e more = more rs d
    go (Some r) e more =
        let t = takes_out s rs r d e in
        let rest = more (without_record s rs) t.distinct in
        record {
          distinct = ((λ q i. (t.there q (rest.there q i)).1), rest.distinct);
          there = λ q i. elim i [ inl z ↦ (let P : LogRecord → Type 0 = λ y. In y rs in subst P (sym z) t.among) | inr j ↦ (t.there q (rest.there q j)).0 ];
          back = λ q i. elim (t.back q i) [ inl z ↦ inl z | inr j ↦ inr (rest.back q j) ];
        }

rearranged_on : (ps qs rs : List LogRecord) → AreRearranged ps qs → AreRearranged qs rs → AreRearranged ps rs
rearranged_on ps qs rs a b = record { distinct = a.distinct; there = λ q i. b.there q (a.there q i); back = λ q i. a.back q (b.back q i) }

-- a prepared record of a table waits for no serial
unwaiting_in : (bs : List Branch) (q : LogRecord) → In q (prepared_records bs) → q.waiting ≡ []
unwaiting_in [] q h = absurd h
unwaiting_in (b ∷ bs) q h = elim (in_state b b.state (prepared_records bs) q h) [ inl z ↦ ap (λ (x : LogRecord). x.waiting) z.1 | inr j ↦ unwaiting_in bs q j ]

pub told_left : (lost : List Key) (x : Node) → IsTold lost x → IsLeft x.durable (crashed (raw lost x))
told_left lost x t =
    let read = read_records (tm_of x) x.durable.log t.apart t.kinds t.log in
    let ps : List LogRecord = prepared_of (records_in x.durable.log) in
    record {
      down = refl;
      boot = refl;
      last = refl;
      records = prepared_records x.volatile.branches;
      table = refl;
      prepared = rearranged_on (prepared_left x.durable) ps (prepared_records x.volatile.branches) (by_serials (prepared_serials x.durable.units.entries) ps read.0.distinct) read.0;
      committed = read.1;
      there = t.there;
      back = t.back;
      distinct = t.log.distinct;
      unwaiting = λ q i k. elim (t.log.from q i) [
        | inl j ↦ unwaiting_in x.volatile.branches q j
        | inr j ↦ absurd (let f : PreparedRecord ≡ CommittedRecord = sym k ∙ t.kinds q j in cc)
      ];
      slots = t.slots;
      volume = t.volume;
      units = λ s u e p. (let b = t.units s u e p in (prepared_record b.0, read.0.back (prepared_record b.0) (prepared_in b.0.key x.volatile.branches b.0 b.1 b.3), b.2));
    }
