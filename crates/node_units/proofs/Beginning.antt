-- What a restart tells is what a table may begin with, on any disk.
use Rattle.std.proofs.Common.{inl, inr, ◌≡◌, ◌⊎◌, ℕ, suc, ◌+◌, ◌-◌, ◌<◌, ◌≤◌, List, [], ◌∷◌, ◌++◌, Bool, true, false, Option, Some, None, if◌then◌else◌, length, map, refl, sym, ◌∙◌, ap, subst, arith}
use Rattle.std.proofs.lemmas.Bool.{both_ways}
use Rattle.std.proofs.lemmas.List.{length-map}
use Rattle.vms_model.specs.Ids.{Id}
use Rattle.records_model.specs.History.{same_id}
use Rattle.commit_protocol.specs.Agreement.{Distinct}
use Rattle.commit_protocol.specs.Limits.{LogWithin, PreparedWithin, RecordWithin}
use Rattle.commit_protocol.specs.Messages.{CommittedRecord, LogRecord, Name, PreparedRecord, RecordKind}
use Rattle.commit_protocol.specs.Table.{branches_of, prepared_records, record_serials, restarted}
use Rattle.commit_protocol.specs.World.{In}
use Rattle.commit_protocol.proofs.Serials.{in_serial, serial_in as record_of_serial}
use Rattle.log_laws.specs.Slots.{LogTells, Slots, committed_of, is_prepared_record, prepared_of, records_in}
use Rattle.log_laws.proofs.Reading.{all_again, committed_distinct, committed_is, is_committed_one, is_prepared_one, kind_or, prepared_is}
use Rattle.lmcp_log.specs.Log.{with_few_prepared}
use Rattle.lmcp_log.specs.Slot.{HasForm, IsRecord}
use Rattle.lmcp_log.proofs.Few.{few_distinct, few_in, few_long}
use Rattle.recovery_units.specs.run_model.World.{find_record, records_by, without_record}
use Rattle.recovery_units.proofs.world_laws.BootLemmas.{IsReordered, reordered}
use Rattle.recovery_units.proofs.world_laws.LogLemmas.{differ_append, prepared_differ}
use Rattle.lmcp_log.specs.tm_types.Parts.{log_record_of}
use Rattle.rms_units.specs.unit_returns.Returning.{AreOfRecords}
use Rattle.unit_table.specs.Units.{OpenUnit}
use Rattle.recovery_units.specs.Calls.{MayBegin}
use Rattle.recovery_units.specs.State.{AreOfBranches}
use Rattle.recovery_units.specs.Told.{ReopenedTold}

-- The units of records are those of their branches.
pub of_records : (rs : List LogRecord) (us : List OpenUnit) → AreOfRecords rs us → AreOfBranches us (branches_of rs)
of_records [] [] of = tt
of_records [] (u ∷ us) of = absurd of
of_records (r ∷ rs) [] of = absurd of
of_records (r ∷ rs) (u ∷ us) of = (record { tid = sym of.0.tid; serial = sym of.0.serial; prepared = sym of.0.prepared; changed = λ active. absurd (both_ways u.prepared active of.0.prepared) }, of_records rs us of.1)

-- Records in another order are as many.

long_without : (x : Id) (rs : List LogRecord) (r : LogRecord) → find_record x rs ≡ Some r → length rs ≡ suc (length (without_record x rs))
long_without x [] r at = let never : ⊥ = cc in absurd never
long_without x (q ∷ rs) r at = go (same_id x q.serial) at (long_without x rs r)
  where
    go : (b : Bool) → (if b then Some q else find_record x rs) ≡ Some r → (find_record x rs ≡ Some r → length rs ≡ suc (length (without_record x rs))) → suc (length rs) ≡ suc (length (if b then rs else q ∷ without_record x rs))
    go true at rest = refl
    go false at rest = ap suc (rest at)

pub long_by : (xs : List Id) (rs : List LogRecord) → length (records_by xs rs) ≡ length rs
long_by [] rs = refl
long_by (x ∷ xs) rs = go (find_record x rs) refl (long_by xs (without_record x rs)) (long_by xs rs)
  where
    go : (o : Option LogRecord) → find_record x rs ≡ o → length (records_by xs (without_record x rs)) ≡ length (without_record x rs) → length (records_by xs rs) ≡ length rs →
        length {A = LogRecord} (elim o as (λ _. List LogRecord) [ Some r ↦ r ∷ records_by xs (without_record x rs) | None ↦ records_by xs rs ]) ≡ length rs
    go (Some r) at less same = ap suc less ∙ sym (long_without x rs r at)
    go None at less same = same

pub long_kinds : (rs : List LogRecord) → length (prepared_of rs) + length (committed_of rs) ≡ length rs
long_kinds [] = refl
long_kinds (r ∷ rs) = go r.kind (long_kinds rs)
  where
    go : (k : RecordKind) → length (prepared_of rs) + length (committed_of rs) ≡ length rs →
        length (if is_prepared_record k then r ∷ prepared_of rs else prepared_of rs) + length (if is_prepared_record k then committed_of rs else r ∷ committed_of rs) ≡ suc (length rs)
    go PreparedRecord e = omega (arith, e)
    go CommittedRecord e = omega (arith, e)

pub long_records : (ss : Slots) → length (records_in ss) ≤ length ss
long_records [] = omega arith
long_records (None ∷ ss) = let more = long_records ss in omega (arith, more)
long_records (Some r ∷ ss) = let more = long_records ss in omega (arith, more)

-- What is within the limits of a log.

prepared_within : (r : LogRecord) → IsRecord r → r.kind ≡ PreparedRecord → PreparedWithin r
prepared_within r is kind = record { kind = kind; waiting = subst (λ (k : RecordKind). HasForm k r.waiting r.rms) kind is.1; rms = is.0.few_rms }

committed_within : (r : LogRecord) → IsRecord r → r.kind ≡ CommittedRecord → RecordWithin r
committed_within r is kind = record { kind = kind; left = subst (λ (k : RecordKind). HasForm k r.waiting r.rms) kind is.1; waiting = is.0.few; rms = is.0.few_rms }

one_record : (rs : List LogRecord) (p q : LogRecord) → Distinct (record_serials rs) → In p rs → In q rs → p.serial ≡ q.serial → p ≡ q
one_record [] p q d i j e = absurd i
one_record (r ∷ rs) p q d i j e = elim i [
  | inl a ↦ elim j [ inl b ↦ a ∙ sym b | inr b ↦ absurd (d.0 (subst (λ x. In x (record_serials rs)) (sym e ∙ ap (λ (z : LogRecord). z.serial) a) (in_serial q rs b))) ]
  | inr a ↦ elim j [ inl b ↦ absurd (d.0 (subst (λ x. In x (record_serials rs)) (e ∙ ap (λ (z : LogRecord). z.serial) b) (in_serial p rs a))) | inr b ↦ one_record rs p q d.1 a b e ]
]

-- A log whose records are records, no two of one branch; the prepared ones are told in some order.
module _ (ss : Slots) (are : (r : LogRecord) → In r (records_in ss) → IsRecord r) (distinct : Distinct (record_serials (records_in ss))) (slots : length ss ≤ 512) (votes : List Id) where
  abbrev ps : List LogRecord
  ps = records_by votes (prepared_of (records_in ss))

  abbrev cs : List LogRecord
  cs = committed_of (records_in ss)

  order : IsReordered ps (prepared_of (records_in ss))
  order = reordered votes (prepared_of (records_in ss)) (prepared_differ (records_in ss) distinct)

  within_prepared : (r : LogRecord) → In r ps → PreparedWithin r
  within_prepared r i = let p = prepared_is (records_in ss) r (order.there r i) in prepared_within r (are r p.0) p.1

  apart : (x : Id) → In x (record_serials ps) → In x (record_serials cs) → ⊥
  apart x i j =
      let p = record_of_serial x ps i in
      let q = record_of_serial x cs j in
      let a = prepared_is (records_in ss) p.0 (order.there p.0 p.1) in
      let b = committed_is (records_in ss) q.0 q.1 in
      let same = one_record (records_in ss) p.0 q.0 distinct a.0 b.0 (p.2 ∙ sym q.2) in
      let clash : PreparedRecord ≡ CommittedRecord = sym a.1 ∙ ap (λ (z : LogRecord). z.kind) same ∙ b.1 in
      let none : ⊥ = cc in none

  pub all_apart : Distinct (record_serials ps ++ record_serials cs)
  all_apart = differ_append (record_serials ps) (record_serials cs) order.differ (committed_distinct (records_in ss) distinct) apart

  again : prepared_records (branches_of ps) ≡ ps
  again = all_again ps (λ r i. let w = within_prepared r i in (w.kind, w.waiting))

  tells : (name : Name) → LogTells (restarted name ps cs) ss
  tells name = record {
    from = λ q i. elim (kind_or q.kind) [
      | inl prepared ↦ inl (subst (In q) (sym again) (order.back q (is_prepared_one (records_in ss) q i prepared)))
      | inr committed ↦ inr (is_committed_one (records_in ss) q i committed)
    ];
    prepared = λ q i. (prepared_is (records_in ss) q (order.there q (subst (In q) again i))).0;
    committed = λ q i. (committed_is (records_in ss) q i).0;
    distinct = distinct;
  }

  limits : length ps ≤ 64 → LogWithin ps cs
  limits few = record {
    prepared = within_prepared;
    committed = λ r i. let c = committed_is (records_in ss) r i in committed_within r (are r c.0) c.1;
    table = few;
    log = let a = long_by votes (prepared_of (records_in ss)) in let b = long_kinds (records_in ss) in let c = long_records ss in omega (arith, a, b, c, slots);
  }

  pub begins : (told : ReopenedTold) → map log_record_of told.prepared ≡ ps → map log_record_of told.committed ≡ cs → length told.prepared ≤ 64 → MayBegin told ss
  begins told prepared committed few = record {
    committed = committed;
    within = subst (λ (xs : List LogRecord). LogWithin xs (map log_record_of told.committed)) (sym prepared) (subst (LogWithin ps) (sym committed)
        (limits (let long = sym (length-map told.prepared log_record_of) ∙ ap length prepared in omega (arith, long, few))));
    tells = λ name. subst (λ (xs : List LogRecord). LogTells (restarted name xs (map log_record_of told.committed)) ss) (sym prepared) (subst (λ (xs : List LogRecord). LogTells (restarted name ps xs) ss) (sym committed) (tells name));
    apart = subst (λ (xs : List LogRecord). Distinct (record_serials xs ++ record_serials (map log_record_of told.committed))) (sym prepared) (subst (λ (xs : List LogRecord). Distinct (record_serials ps ++ record_serials xs)) (sym committed) all_apart);
  }

-- So it is where few of the prepared records of a log are left.
pub begins_few : (most : ℕ) (found : Slots) (log : Slots) (told : ReopenedTold) (votes : List Id) → ((r : LogRecord) → In r (records_in found) → IsRecord r) → Distinct (record_serials (records_in found)) → length found ≤ 512 → log ≡ with_few_prepared most found →
    map log_record_of told.prepared ≡ records_by votes (prepared_of (records_in log)) → map log_record_of told.committed ≡ committed_of (records_in log) → length told.prepared ≤ 64 → MayBegin told log
begins_few most found log told votes are distinct slots is prepared committed few = begins log
    (λ r i. are r (few_in most found r (subst (λ (ss : Slots). In r (records_in ss)) is i)))
    (subst (λ (ss : Slots). Distinct (record_serials (records_in ss))) (sym is) (few_distinct most found distinct))
    (let long = ap length is ∙ few_long most found in omega (arith, long, slots)) votes told prepared committed few
