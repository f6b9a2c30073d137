-- What a boot reads from the slots are the prepared and the committed records of the table that fell, each in some order; and the table that it begins with is told
-- by the same slots.
use Rattle.std.specs.Prelude.{if◌then◌else◌}
use Rattle.std.proofs.Common.{◌≡◌, List, [], ◌∷◌, ◌++◌, ◌⊎◌, inl, inr, refl, ap, sym, subst, ◌∙◌}
use Rattle.commit_protocol.specs.vms_model.Ids.{Id}
use Rattle.commit_protocol.specs.Messages.{Name, LogRecord, RecordKind, PreparedRecord, CommittedRecord}
use Rattle.commit_protocol.specs.Table.{Key, Branch, State, Joining, Active, Ending, Voting, Prepared, Tm, holding, managers_of, prepared_record, prepared_state, prepared_records, record_serials, branch_serials, branch_of, branches_of, restarted}
use Rattle.commit_protocol.specs.World.{In}
use Rattle.commit_protocol.specs.Agreement.{Distinct}
use Rattle.commit_protocol.specs.Opening.{DistinctKeys, AreRearranged}
use Rattle.commit_protocol.specs.Orders.{IsPermuted}
use Rattle.commit_protocol.specs.Standing.{HasApartLog}
use Rattle.commit_protocol.proofs.Serials.{parts_apart, in_serial}
use Rattle.log_laws.specs.Slots.{Slots, records_in, is_prepared_record, prepared_of, committed_of, LogTells, AreCommitted, AreUnwaiting}

-- Records by kind.

pub prepared_is : (rs : List LogRecord) (q : LogRecord) → In q (prepared_of rs) → In q rs × (q.kind ≡ PreparedRecord)
prepared_is [] q h = absurd h
prepared_is (r ∷ rs) q h = go r.kind refl h (prepared_is rs q)
  where
    go : (k : RecordKind) → r.kind ≡ k → In q (if is_prepared_record k then r ∷ prepared_of rs else prepared_of rs) → (In q (prepared_of rs) → In q rs × (q.kind ≡ PreparedRecord)) → In q (r ∷ rs) × (q.kind ≡ PreparedRecord)
    go PreparedRecord e j more = elim j [ inl s ↦ (inl s, ap (λ (x : LogRecord). x.kind) s ∙ e) | inr z ↦ (let m = more z in (inr m.0, m.1)) ]
    go CommittedRecord e j more = let m = more j in (inr m.0, m.1)

pub is_prepared_one : (rs : List LogRecord) (q : LogRecord) → In q rs → q.kind ≡ PreparedRecord → In q (prepared_of rs)
is_prepared_one [] q h e = h
is_prepared_one (r ∷ rs) q h e = go r.kind refl h (λ j. is_prepared_one rs q j e)
  where
    go : (k : RecordKind) → r.kind ≡ k → In q (r ∷ rs) → (In q rs → In q (prepared_of rs)) → In q (if is_prepared_record k then r ∷ prepared_of rs else prepared_of rs)
    go PreparedRecord f j more = elim j [ inl s ↦ inl s | inr z ↦ inr (more z) ]
    go CommittedRecord f j more = elim j [ inl s ↦ absurd (let z : CommittedRecord ≡ PreparedRecord = sym f ∙ (ap (λ (x : LogRecord). x.kind) (sym s) ∙ e) in cc) | inr z ↦ more z ]

pub committed_is : (rs : List LogRecord) (q : LogRecord) → In q (committed_of rs) → In q rs × (q.kind ≡ CommittedRecord)
committed_is [] q h = absurd h
committed_is (r ∷ rs) q h = go r.kind refl h (committed_is rs q)
  where
    go : (k : RecordKind) → r.kind ≡ k → In q (if is_prepared_record k then committed_of rs else r ∷ committed_of rs) → (In q (committed_of rs) → In q rs × (q.kind ≡ CommittedRecord)) → In q (r ∷ rs) × (q.kind ≡ CommittedRecord)
    go CommittedRecord e j more = elim j [ inl s ↦ (inl s, ap (λ (x : LogRecord). x.kind) s ∙ e) | inr z ↦ (let m = more z in (inr m.0, m.1)) ]
    go PreparedRecord e j more = let m = more j in (inr m.0, m.1)

pub is_committed_one : (rs : List LogRecord) (q : LogRecord) → In q rs → q.kind ≡ CommittedRecord → In q (committed_of rs)
is_committed_one [] q h e = h
is_committed_one (r ∷ rs) q h e = go r.kind refl h (λ j. is_committed_one rs q j e)
  where
    go : (k : RecordKind) → r.kind ≡ k → In q (r ∷ rs) → (In q rs → In q (committed_of rs)) → In q (if is_prepared_record k then committed_of rs else r ∷ committed_of rs)
    go CommittedRecord f j more = elim j [ inl s ↦ inl s | inr z ↦ inr (more z) ]
    go PreparedRecord f j more = elim j [ inl s ↦ absurd (let z : PreparedRecord ≡ CommittedRecord = sym f ∙ (ap (λ (x : LogRecord). x.kind) (sym s) ∙ e) in cc) | inr z ↦ more z ]

pub prepared_keys : (rs : List LogRecord) → Distinct (record_serials rs) → DistinctKeys (prepared_of rs)
prepared_keys [] d = tt
prepared_keys (r ∷ rs) d = go r.kind (prepared_keys rs d.1)
  where
    go : (k : RecordKind) → DistinctKeys (prepared_of rs) → DistinctKeys (if is_prepared_record k then r ∷ prepared_of rs else prepared_of rs)
    go PreparedRecord more = ((λ q h e. d.0 (let P : Id → Type 0 = λ i. In i (record_serials rs) in subst P (ap (λ (k : Key). k.serial) e) (in_serial q rs (prepared_is rs q h).0))), more)
    go CommittedRecord more = more

in_committed_serials : (rs : List LogRecord) (i : Id) → In i (record_serials (committed_of rs)) → In i (record_serials rs)
in_committed_serials [] i h = h
in_committed_serials (r ∷ rs) i h = go r.kind h (in_committed_serials rs i)
  where
    go : (k : RecordKind) → In i (record_serials (if is_prepared_record k then committed_of rs else r ∷ committed_of rs)) → (In i (record_serials (committed_of rs)) → In i (record_serials rs)) → In i (r.serial ∷ record_serials rs)
    go CommittedRecord j more = elim j [ inl e ↦ inl e | inr z ↦ inr (more z) ]
    go PreparedRecord j more = inr (more j)

pub committed_distinct : (rs : List LogRecord) → Distinct (record_serials rs) → Distinct (record_serials (committed_of rs))
committed_distinct [] d = tt
committed_distinct (r ∷ rs) d = go r.kind (committed_distinct rs d.1)
  where
    go : (k : RecordKind) → Distinct (record_serials (committed_of rs)) → Distinct (record_serials (if is_prepared_record k then committed_of rs else r ∷ committed_of rs))
    go CommittedRecord more = ((λ h. d.0 (in_committed_serials rs r.serial h)), more)
    go PreparedRecord more = more

-- the prepared records of a table are of that kind, and are what a restart makes of them
prepared_form : (bs : List Branch) (q : LogRecord) → In q (prepared_records bs) → (b : Branch) × (q ≡ prepared_record b)
prepared_form [] q h = absurd h
prepared_form (b ∷ bs) q h = go b.state h (prepared_form bs q)
  where
    go : (s : State) → In q (prepared_state b s (prepared_records bs)) → (In q (prepared_records bs) → (c : Branch) × (q ≡ prepared_record c)) → (c : Branch) × (q ≡ prepared_record c)
    go Prepared j more = elim j [ inl e ↦ (b, e) | inr z ↦ more z ]
    go Joining j more = more j
    go Active j more = more j
    go Ending j more = more j
    go Voting j more = more j

held_again : (xs : List Name) → holding (managers_of xs) ≡ xs
held_again [] = refl
held_again (x ∷ xs) = ap (λ ys. x ∷ ys) (held_again xs)

recorded_again : (b : Branch) → prepared_record (branch_of (prepared_record b)) ≡ prepared_record b
recorded_again b = λ i. record { kind = PreparedRecord; tid = b.key.tid; serial = b.key.serial; waiting = []; rms = held_again (holding b.managers) i }

-- Permutations.

around_in : (front : List LogRecord) (p : LogRecord) (back : List LogRecord) (q : LogRecord) → In q (front ++ p ∷ back) → (q ≡ p) ⊎ In q (front ++ back)
around_in [] p back q h = h
around_in (x ∷ front) p back q h = elim h [
  | inl e ↦ inr (inl e)
  | inr j ↦ elim (around_in front p back q j) [ inl e ↦ inl e | inr z ↦ inr (inr z) ]
]

in_around : (front : List LogRecord) (p : LogRecord) (back : List LogRecord) (q : LogRecord) → In q (front ++ back) → In q (front ++ p ∷ back)
in_around [] p back q h = inr h
in_around (x ∷ front) p back q h = elim h [ inl e ↦ inl e | inr j ↦ inr (in_around front p back q j) ]

serial_around : (front : List LogRecord) (p : LogRecord) (back : List LogRecord) (i : Id) → In i (record_serials (front ++ back)) → In i (record_serials (front ++ p ∷ back))
serial_around [] p back i h = inr h
serial_around (x ∷ front) p back i h = elim h [ inl e ↦ inl e | inr j ↦ inr (serial_around front p back i j) ]

middle_serial : (front : List LogRecord) (p : LogRecord) (back : List LogRecord) → In p.serial (record_serials (front ++ p ∷ back))
middle_serial [] p back = inl refl
middle_serial (x ∷ front) p back = inr (middle_serial front p back)

around_distinct : (front : List LogRecord) (p : LogRecord) (back : List LogRecord) → Distinct (record_serials (front ++ p ∷ back)) → Distinct (record_serials (front ++ back)) × (In p.serial (record_serials (front ++ back)) → ⊥)
around_distinct [] p back d = (d.1, d.0)
around_distinct (x ∷ front) p back d =
    let rest = around_distinct front p back d.1 in (
      ((λ h. d.0 (serial_around front p back x.serial h)), rest.0),
      (λ h. elim h [
        | inl e ↦ d.0 (let P : Id → Type 0 = λ i. In i (record_serials (front ++ p ∷ back)) in subst P e (middle_serial front p back))
        | inr j ↦ rest.1 j
      ]),
    )

parted : (qs : List LogRecord) (p : LogRecord) → In p qs → (front : List LogRecord) × (back : List LogRecord) × (qs ≡ front ++ p ∷ back)
parted [] p h = absurd h
parted (q ∷ qs) p h = elim h [
  | inl e ↦ ([], qs, ap (λ (x : LogRecord). x ∷ qs) (sym e))
  | inr j ↦ (let r = parted qs p j in (q ∷ r.0, r.1, ap (λ xs. q ∷ xs) r.2))
]

-- lists of distinct serials with the same members
permuted_by : (ps qs : List LogRecord) → Distinct (record_serials ps) → Distinct (record_serials qs) → ((r : LogRecord) → In r ps → In r qs) → ((r : LogRecord) → In r qs → In r ps) → IsPermuted ps qs
permuted_by [] [] d e there back = refl
permuted_by [] (q ∷ qs) d e there back = absurd (back q (inl refl))
permuted_by (p ∷ ps) qs d e there back =
    let r = parted qs p (there p (inl refl)) in
    let P : List LogRecord → Type 0 = λ xs. Distinct (record_serials xs) in
    let Q : List LogRecord → Type 0 = λ xs. (q : LogRecord) → In q ps → In q xs in
    let R : List LogRecord → Type 0 = λ xs. (q : LogRecord) → In q xs → In q (p ∷ ps) in
    let rest = around_distinct r.0 p r.1 (subst P r.2 e) in
    let to : (q : LogRecord) → In q ps → In q (r.0 ++ r.1) = λ q j. elim (around_in r.0 p r.1 q (subst Q r.2 (λ x k. there x (inr k)) q j)) [
      | inl s ↦ absurd (d.0 (let S : LogRecord → Type 0 = λ x. In x.serial (record_serials ps) in subst S s (in_serial q ps j)))
      | inr z ↦ z
    ] in
    let from : (q : LogRecord) → In q (r.0 ++ r.1) → In q ps = λ q j. elim (subst R r.2 back q (in_around r.0 p r.1 q j)) [
      | inl s ↦ absurd (rest.1 (let S : LogRecord → Type 0 = λ x. In x.serial (record_serials (r.0 ++ r.1)) in subst S s (in_serial q (r.0 ++ r.1) j)))
      | inr z ↦ z
    ] in
    (r.0, r.1, r.2, permuted_by ps (r.0 ++ r.1) d.1 rest.0 to from)

-- permuted lists have the same members
pub permuted_to : (ps qs : List LogRecord) → IsPermuted ps qs → (r : LogRecord) → In r ps → In r qs
permuted_to [] qs h r j = absurd j
permuted_to (p ∷ ps) qs h r j =
    let P : List LogRecord → Type 0 = λ xs. In r xs in
    subst P (sym h.2) (elim j [
      | inl e ↦ (let Q : LogRecord → Type 0 = λ x. In x (h.0 ++ p ∷ h.1) in subst Q (sym e) (middle h.0))
      | inr k ↦ in_around h.0 p h.1 r (permuted_to ps (h.0 ++ h.1) h.3 r k)
    ])
  where
    middle : (front : List LogRecord) → In p (front ++ p ∷ h.1)
    middle [] = inl refl
    middle (x ∷ front) = inr (middle front)

pub permuted_back : (ps qs : List LogRecord) → IsPermuted ps qs → (r : LogRecord) → In r qs → In r ps
permuted_back [] qs h r j = let P : List LogRecord → Type 0 = λ xs. In r xs in subst P h j
permuted_back (p ∷ ps) qs h r j =
    let P : List LogRecord → Type 0 = λ xs. In r xs in
    elim (around_in h.0 p h.1 r (subst P h.2 j)) [ inl e ↦ inl e | inr k ↦ inr (permuted_back ps (h.0 ++ h.1) h.3 r k) ]

-- The laws.

pub read_records : (tm : Tm) (ss : Slots) → HasApartLog tm → AreCommitted tm.records → LogTells tm ss → AreRearranged (prepared_of (records_in ss)) (prepared_records tm.table) × IsPermuted (committed_of (records_in ss)) tm.records
read_records tm ss apart kinds l =
    let rs : List LogRecord = records_in ss in
    let d = parts_apart (branch_serials tm.table) (record_serials tm.records) apart in
    let kind : (q : LogRecord) → In q (prepared_records tm.table) → q.kind ≡ PreparedRecord = λ q j. (let f = prepared_form tm.table q j in ap (λ (x : LogRecord). x.kind) f.1) in
    let clash : (q : LogRecord) → q.kind ≡ PreparedRecord → q.kind ≡ CommittedRecord → ⊥ = λ q e f. (let z : PreparedRecord ≡ CommittedRecord = sym e ∙ f in cc) in (
      record {
        distinct = prepared_keys rs l.distinct;
        there = λ q j. (let p = prepared_is rs q j in elim (l.from q p.0) [ inl k ↦ k | inr k ↦ absurd (clash q p.1 (kinds q k)) ]);
        back = λ q j. is_prepared_one rs q (l.prepared q j) (kind q j);
      },
      permuted_by (committed_of rs) tm.records (committed_distinct rs l.distinct) d.two
          (λ q j. let p = committed_is rs q j in elim (l.from q p.0) [ inl k ↦ absurd (clash q (kind q k) p.1) | inr k ↦ k ])
          (λ q j. is_committed_one rs q (l.committed q j) (kinds q j)),
    )

-- the records of the branches that a restart makes of these
pub kept_again : (bs : List Branch) (ps : List LogRecord) → ((q : LogRecord) → In q ps → In q (prepared_records bs)) → prepared_records (branches_of ps) ≡ ps
kept_again bs [] h = refl
kept_again bs (p ∷ ps) h =
    let f = prepared_form bs p (h p (inl refl)) in
    let same : prepared_record (branch_of p) ≡ p = ap (λ x. prepared_record (branch_of x)) f.1 ∙ (recorded_again f.0 ∙ sym f.1) in
    λ i. same i ∷ kept_again bs ps (λ q j. h q (inr j)) i

pub restart_tells : (n : Name) (tm : Tm) (ss : Slots) (prepared committed : List LogRecord) → AreRearranged prepared (prepared_records tm.table) → IsPermuted committed tm.records → LogTells tm ss → LogTells (restarted n prepared committed) ss
restart_tells n tm ss prepared committed a p l =
    let e : prepared_records (branches_of prepared) ≡ prepared = kept_again tm.table prepared a.there in
    record {
      from = λ q j. elim (l.from q j) [
        | inl k ↦ inl (let P : List LogRecord → Type 0 = λ xs. In q xs in subst P (sym e) (a.back q k))
        | inr k ↦ inr (permuted_back committed tm.records p q k)
      ];
      prepared = λ q j. l.prepared q (a.there q (let P : List LogRecord → Type 0 = λ xs. In q xs in subst P e j));
      committed = λ q j. l.committed q (permuted_to committed tm.records p q j);
      distinct = l.distinct;
    }

-- a log whose prepared records wait for no serial, read for the first time
unwaiting_again : (r : LogRecord) → r.kind ≡ PreparedRecord → r.waiting ≡ [] → prepared_record (branch_of r) ≡ r
unwaiting_again r k w = λ i. record { kind = sym k i; tid = r.tid; serial = r.serial; waiting = sym w i; rms = held_again r.rms i }

pub all_again : (ps : List LogRecord) → ((r : LogRecord) → In r ps → (r.kind ≡ PreparedRecord) × (r.waiting ≡ [])) → prepared_records (branches_of ps) ≡ ps
all_again [] h = refl
all_again (p ∷ ps) h =
    let f = h p (inl refl) in
    let same : prepared_record (branch_of p) ≡ p = unwaiting_again p f.0 f.1 in
    λ i. same i ∷ all_again ps (λ q j. h q (inr j)) i

pub kind_or : (k : RecordKind) → (k ≡ PreparedRecord) ⊎ (k ≡ CommittedRecord)
kind_or PreparedRecord = inl refl
kind_or CommittedRecord = inr refl

pub opening_tells : (n : Name) (ss : Slots) → Distinct (record_serials (records_in ss)) → AreUnwaiting (records_in ss) → LogTells (restarted n (prepared_of (records_in ss)) (committed_of (records_in ss))) ss
opening_tells n ss d un =
    let rs : List LogRecord = records_in ss in
    let e : prepared_records (branches_of (prepared_of rs)) ≡ prepared_of rs = all_again (prepared_of rs) (λ r j. let p = prepared_is rs r j in (p.1, un r p.0 p.1)) in
    record {
      from = λ q j. elim (kind_or q.kind) [
        | inl k ↦ inl (let P : List LogRecord → Type 0 = λ xs. In q xs in subst P (sym e) (is_prepared_one rs q j k))
        | inr k ↦ inr (is_committed_one rs q j k)
      ];
      prepared = λ q j. (prepared_is rs q (let P : List LogRecord → Type 0 = λ xs. In q xs in subst P e j)).0;
      committed = λ q j. (committed_is rs q j).0;
      distinct = d;
    }
