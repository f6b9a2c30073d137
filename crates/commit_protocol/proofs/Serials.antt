-- Each act of a row keeps the serials of a node's log distinct.
use Rattle.std.specs.Prelude.{if◌then◌else◌}
use Rattle.std.proofs.Common.{◌≡◌, ℕ, zero, suc, take, Bool, true, false, List, [], ◌∷◌, ◌++◌, Option, Some, None, ◌⊎◌, inl, inr, refl, ap, sym, subst, ◌∙◌}
use Rattle.vms_model.specs.Ids.{Id}
use Rattle.vms_model.specs.Transactions.{Outcome, Reason}
use Rattle.commit_protocol.specs.Messages.{Name, LogRecord}
use Rattle.commit_protocol.specs.Table.{Key, Branch, Prepared, Act, Notes, Accepts, Prepares, Settles, Leaves, Acknowledges, Releases, Undoes, Sends, Prints, find, put, cut, branch_serials, record_serials, waits_for, holds, acknowledged, released, nothing_left, keep_record, acknowledge, release, table_after, records_after}
use Rattle.commit_protocol.specs.World.{Node, In, node_after}
use Rattle.commit_protocol.specs.Agreement.{Distinct}
use Rattle.commit_protocol.specs.Standing.{IsThere, IsRecordOf, Stands, AllStand}
use Rattle.commit_protocol.proofs.Lists.{told_key, in_left, in_right, in_parts, Unique}

-- Lists of ids.

-- two lists of distinct ids that have none in common
pub record AreApart (xs ys : List Id) : Type 0 where
  pub one : Distinct xs
  pub two : Distinct ys
  pub apart : (i : Id) → In i xs → In i ys → ⊥

pub parts_apart : (xs ys : List Id) → Distinct (xs ++ ys) → AreApart xs ys
parts_apart [] ys d = record { one = tt; two = d; apart = λ i h k. h }
parts_apart (x ∷ xs) ys d =
    let rest = parts_apart xs ys d.1 in
    record {
      one = ((λ h. d.0 (in_left x xs ys h)), rest.one);
      two = rest.two;
      apart = λ i h k. elim h [ inl e ↦ (let P : Id → Type 0 = λ j. In j ys in d.0 (in_right x xs ys (subst P e k))) | inr j ↦ rest.apart i j k ];
    }

pub apart_distinct : (xs ys : List Id) → AreApart xs ys → Distinct (xs ++ ys)
apart_distinct [] ys a = a.two
apart_distinct (x ∷ xs) ys a = (
  (λ h. elim (in_parts x xs ys h) [ inl j ↦ a.one.0 j | inr k ↦ a.apart x (inl refl) k ]),
  apart_distinct xs ys (record { one = a.one.1; two = a.two; apart = λ i h k. a.apart i (inr h) k }),
)

pub distinct_more : (xs : List Id) (i : Id) → Distinct xs → (In i xs → ⊥) → Distinct (xs ++ i ∷ [])
distinct_more xs i d n = apart_distinct xs (i ∷ []) (record {
  one = d;
  two = ((λ h. h), tt);
  apart = λ j h k. elim k [ inl e ↦ (let P : Id → Type 0 = λ x. In x xs in n (subst P e h)) | inr z ↦ z ];
})

pub in_serial : (q : LogRecord) (rs : List LogRecord) → In q rs → In q.serial (record_serials rs)
in_serial q [] h = h
in_serial q (r ∷ rs) h = elim h [ inl e ↦ inl (ap (λ (x : LogRecord). x.serial) e) | inr j ↦ inr (in_serial q rs j) ]

-- a serial of records is that of one of them
pub serial_in : (i : Id) (rs : List LogRecord) → In i (record_serials rs) → (r : LogRecord) × In r rs × (r.serial ≡ i)
serial_in i [] h = absurd h
serial_in i (r ∷ rs) h = elim h [ inl e ↦ (r, inl refl, sym e) | inr j ↦ (let q = serial_in i rs j in (q.0, inr q.1, q.2)) ]

pub serials_append : (rs qs : List LogRecord) → record_serials (rs ++ qs) ≡ record_serials rs ++ record_serials qs
serials_append [] qs = refl
serials_append (r ∷ rs) qs = ap (λ is. r.serial ∷ is) (serials_append rs qs)

-- the node's log is apart
abbrev pub LogApart : Node → Type 0
LogApart x = AreApart (branch_serials x.table) (record_serials x.records)

-- what an act of a row relies on, of keys alone
abbrev pub Keyed : List Branch → Act → Type 0
Keyed bs (Notes b) = IsThere bs b.key
Keyed bs (Accepts b c) = IsThere bs b.key
Keyed bs (Prepares b) = IsThere bs b.key
Keyed bs (Settles k o reason r) = IsThere bs k × IsRecordOf k r
Keyed bs _ = Unit {0}

abbrev pub AllKeyed : List Branch → List Act → Type 0
AllKeyed bs [] = Unit {0}
AllKeyed bs (a ∷ acts) = Keyed bs a × AllKeyed (table_after a bs) acts

pub keyed : (bs : List Branch) (a : Act) → Stands bs a → Keyed bs a
keyed bs (Notes b) q = (q.old, q.there)
keyed bs (Accepts b c) q = (q.old, q.there)
keyed bs (Prepares b) q = (q.branch, q.there)
keyed bs (Settles k o reason r) q = q
keyed bs (Leaves k) q = tt
keyed bs (Acknowledges k) q = tt
keyed bs (Releases s x) q = tt
keyed bs (Undoes k) q = tt
keyed bs (Sends m) q = tt
keyed bs (Prints l) q = tt

pub all_keyed : (acts : List Act) (bs : List Branch) → AllStand bs acts → AllKeyed bs acts
all_keyed [] bs q = tt
all_keyed (a ∷ acts) bs q = (keyed bs a q.0, all_keyed acts (table_after a bs) q.1)

-- any front of such a list
pub take_keyed : (j : ℕ) (acts : List Act) (bs : List Branch) → AllKeyed bs acts → AllKeyed bs (take j acts)
take_keyed zero acts bs k = tt
take_keyed (suc j) [] bs k = tt
take_keyed (suc j) (a ∷ acts) bs k = (k.0, take_keyed j acts (table_after a bs) k.1)

-- Branches.

serials_put : (b : Branch) (bs : List Branch) → IsThere bs b.key → branch_serials (put b bs) ≡ branch_serials bs
serials_put b [] h = absurd (let f : None ≡ Some h.0 = h.1 in cc)
serials_put b (x ∷ xs) h = elim (told_key x.key b.key) [
  | inl q ↦ rw (q.0) (λ i. (sym q.1 i).serial ∷ branch_serials xs)
  | inr q ↦ let e : find b.key xs ≡ Some h.0 = rw (q.0) at (h.1) in rw (q.0) (ap (λ is. x.key.serial ∷ is) (serials_put b xs (h.0, e)))
]

pub serials_new : (b : Branch) (bs : List Branch) → find b.key bs ≡ None → branch_serials (put b bs) ≡ branch_serials bs ++ b.key.serial ∷ []
serials_new b [] e = refl
serials_new b (x ∷ xs) e = elim (told_key x.key b.key) [
  | inl q ↦ absurd (let f : Some x ≡ None = rw (q.0) at e in cc)
  | inr q ↦ let f : find b.key xs ≡ None = rw (q.0) at e in rw (q.0) (ap (λ is. x.key.serial ∷ is) (serials_new b xs f))
]

pub in_cut_serials : (k : Key) (bs : List Branch) (i : Id) → In i (branch_serials (cut k bs)) → In i (branch_serials bs)
in_cut_serials k [] i h = h
in_cut_serials k (x ∷ xs) i h = elim (told_key x.key k) [
  | inl q ↦ let h' : In i (branch_serials (cut k xs)) = rw (q.0) at h in inr (in_cut_serials k xs i h')
  | inr q ↦ let h' : In i (x.key.serial ∷ branch_serials (cut k xs)) = rw (q.0) at h in elim h' [ inl e ↦ inl e | inr j ↦ inr (in_cut_serials k xs i j) ]
]

pub cut_distinct : (k : Key) (bs : List Branch) → Distinct (branch_serials bs) → Distinct (branch_serials (cut k bs))
cut_distinct k [] d = tt
cut_distinct k (x ∷ xs) d = elim (told_key x.key k) [
  | inl q ↦ rw (q.0) (cut_distinct k xs d.1)
  | inr q ↦ rw (q.0) ((λ h. d.0 (in_cut_serials k xs x.key.serial h)), cut_distinct k xs d.1)
]

pub there_serial : (k : Key) (bs : List Branch) → IsThere bs k → In k.serial (branch_serials bs)
there_serial k [] h = absurd (let f : None ≡ Some h.0 = h.1 in cc)
there_serial k (x ∷ xs) h = elim (told_key x.key k) [
  | inl q ↦ inl (ap (λ (j : Key). j.serial) (sym q.1))
  | inr q ↦ let e : find k xs ≡ Some h.0 = rw (q.0) at (h.1) in inr (there_serial k xs (h.0, e))
]

-- branches of distinct serials have distinct keys
pub unique_of : (bs : List Branch) → Distinct (branch_serials bs) → Unique bs
unique_of [] d = tt
unique_of (b ∷ bs) d = (go (find b.key bs) refl, unique_of bs d.1)
  where
    go : (o : Option Branch) → find b.key bs ≡ o → o ≡ None
    go None e = refl
    go (Some c) e = absurd (d.0 (there_serial b.key bs (c, e)))

-- the serial that was cut is gone
pub cut_gone : (k : Key) (bs : List Branch) → Distinct (branch_serials bs) → IsThere bs k → In k.serial (branch_serials (cut k bs)) → ⊥
cut_gone k [] d h i = absurd (let f : None ≡ Some h.0 = h.1 in cc)
cut_gone k (x ∷ xs) d h i = elim (told_key x.key k) [
  | inl q ↦
      let i' : In k.serial (branch_serials (cut k xs)) = rw (q.0) at i in
      let P : Key → Type 0 = λ j. In j.serial (branch_serials xs) in
      d.0 (subst P (sym q.1) (in_cut_serials k xs k.serial i'))
  | inr q ↦
      let e : find k xs ≡ Some h.0 = rw (q.0) at (h.1) in
      let i' : In k.serial (x.key.serial ∷ branch_serials (cut k xs)) = rw (q.0) at i in
      elim i' [
        | inl f ↦ (let P : Id → Type 0 = λ j. In j (branch_serials xs) in d.0 (subst P f (there_serial k xs (h.0, e))))
        | inr j ↦ cut_gone k xs d.1 (h.0, e) j
      ]
]

-- Records.

in_keep : (r : LogRecord) (rest : List LogRecord) (i : Id) → In i (record_serials (keep_record r rest)) → (i ≡ r.serial) ⊎ In i (record_serials rest)
in_keep r rest i h = go (nothing_left r.waiting r.rms) h
  where
    go : (b : Bool) → In i (record_serials (if b then rest else r ∷ rest)) → (i ≡ r.serial) ⊎ In i (record_serials rest)
    go true k = inr k
    go false k = k

keep_distinct : (r : LogRecord) (rest : List LogRecord) → Distinct (r.serial ∷ record_serials rest) → Distinct (record_serials (keep_record r rest))
keep_distinct r rest d = go (nothing_left r.waiting r.rms)
  where
    go : (b : Bool) → Distinct (record_serials (if b then rest else r ∷ rest))
    go true = d.1
    go false = d

in_acknowledge : (k : Key) (rs : List LogRecord) (i : Id) → In i (record_serials (acknowledge k rs)) → In i (record_serials rs)
in_acknowledge k [] i h = h
in_acknowledge k (r ∷ rs) i h = go (waits_for k r) h (in_acknowledge k rs i)
  where
    go : (b : Bool) → In i (record_serials (if b then keep_record (acknowledged k r) rs else r ∷ acknowledge k rs)) → (In i (record_serials (acknowledge k rs)) → In i (record_serials rs)) → In i (r.serial ∷ record_serials rs)
    go true j more = in_keep (acknowledged k r) rs i j
    go false j more = elim j [ inl e ↦ inl e | inr z ↦ inr (more z) ]

acknowledge_distinct : (k : Key) (rs : List LogRecord) → Distinct (record_serials rs) → Distinct (record_serials (acknowledge k rs))
acknowledge_distinct k [] d = tt
acknowledge_distinct k (r ∷ rs) d = go (waits_for k r) (acknowledge_distinct k rs d.1)
  where
    go : (b : Bool) → Distinct (record_serials (acknowledge k rs)) → Distinct (record_serials (if b then keep_record (acknowledged k r) rs else r ∷ acknowledge k rs))
    go true more = keep_distinct (acknowledged k r) rs d
    go false more = ((λ h. d.0 (in_acknowledge k rs r.serial h)), more)

in_release : (s : Id) (x : Name) (rs : List LogRecord) (i : Id) → In i (record_serials (release s x rs)) → In i (record_serials rs)
in_release s x [] i h = h
in_release s x (r ∷ rs) i h = go (holds s x r) h (in_release s x rs i)
  where
    go : (b : Bool) → In i (record_serials (if b then keep_record (released x r) rs else r ∷ release s x rs)) → (In i (record_serials (release s x rs)) → In i (record_serials rs)) → In i (r.serial ∷ record_serials rs)
    go true j more = in_keep (released x r) rs i j
    go false j more = elim j [ inl e ↦ inl e | inr z ↦ inr (more z) ]

release_distinct : (s : Id) (x : Name) (rs : List LogRecord) → Distinct (record_serials rs) → Distinct (record_serials (release s x rs))
release_distinct s x [] d = tt
release_distinct s x (r ∷ rs) d = go (holds s x r) (release_distinct s x rs d.1)
  where
    go : (b : Bool) → Distinct (record_serials (release s x rs)) → Distinct (record_serials (if b then keep_record (released x r) rs else r ∷ release s x rs))
    go true more = keep_distinct (released x r) rs d
    go false more = ((λ h. d.0 (in_release s x rs r.serial h)), more)

-- One act of a node.

pub record ApartAfter (x y : Node) : Type 0 where
  pub log : LogApart y
  pub branches : (i : Id) → In i (branch_serials y.table) → In i (branch_serials x.table)
  pub records : (i : Id) → In i (record_serials y.records) → In i (branch_serials x.table) ⊎ In i (record_serials x.records)

-- the branches have the same serials
same_serials : (x : Node) (a : Act) → LogApart x → branch_serials (table_after a x.table) ≡ branch_serials x.table → records_after a x.records ≡ x.records → ApartAfter x (node_after a x)
same_serials x a h e f =
    let D : List Id → Type 0 = λ is. Distinct is in
    record {
      log = record {
        one = subst D (sym e) h.one;
        two = subst D (sym (ap record_serials f)) h.two;
        apart = λ i j k. h.apart i (let P : List Id → Type 0 = λ is. In i is in subst P e j) (let P : List LogRecord → Type 0 = λ rs. In i (record_serials rs) in subst P f k);
      };
      branches = λ i j. (let P : List Id → Type 0 = λ is. In i is in subst P e j);
      records = λ i k. inr (let P : List LogRecord → Type 0 = λ rs. In i (record_serials rs) in subst P f k);
    }

-- one branch is gone
cut_apart : (x : Node) (a : Act) (k : Key) → LogApart x → table_after a x.table ≡ cut k x.table → records_after a x.records ≡ x.records → ApartAfter x (node_after a x)
cut_apart x a k h e f =
    let D : List Branch → Type 0 = λ bs. Distinct (branch_serials bs) in
    let E : List LogRecord → Type 0 = λ rs. Distinct (record_serials rs) in
    let there : (i : Id) → In i (branch_serials (table_after a x.table)) → In i (branch_serials x.table) = λ i j. in_cut_serials k x.table i (let P : List Branch → Type 0 = λ bs. In i (branch_serials bs) in subst P e j) in
    let same : (i : Id) → In i (record_serials (records_after a x.records)) → In i (record_serials x.records) = λ i j. (let P : List LogRecord → Type 0 = λ rs. In i (record_serials rs) in subst P f j) in
    record {
      log = record {
        one = subst D (sym e) (cut_distinct k x.table h.one);
        two = subst E (sym f) h.two;
        apart = λ i j l. h.apart i (there i j) (same i l);
      };
      branches = there;
      records = λ i l. inr (same i l);
    }

-- records with fewer serials
fewer_apart : (x : Node) (a : Act) → LogApart x → table_after a x.table ≡ x.table → Distinct (record_serials (records_after a x.records)) → ((i : Id) → In i (record_serials (records_after a x.records)) → In i (record_serials x.records)) → ApartAfter x (node_after a x)
fewer_apart x a h e d from =
    let D : List Branch → Type 0 = λ bs. Distinct (branch_serials bs) in
    let same : (i : Id) → In i (branch_serials (table_after a x.table)) → In i (branch_serials x.table) = λ i j. (let P : List Branch → Type 0 = λ bs. In i (branch_serials bs) in subst P e j) in
    record {
      log = record { one = subst D (sym e) h.one; two = d; apart = λ i j l. h.apart i (same i j) (from i l) };
      branches = same;
      records = λ i l. inr (from i l);
    }

-- a branch becomes a record
moved_apart : (x : Node) (k : Key) (o : Outcome) (why : Reason) (r : LogRecord) → LogApart x → IsThere x.table k → r.serial ≡ k.serial → ApartAfter x (node_after (Settles k o why (Some r)) x)
moved_apart x k o why r h there same =
    let old : In k.serial (branch_serials x.table) = there_serial k x.table there in
    let added : record_serials (x.records ++ r ∷ []) ≡ record_serials x.records ++ k.serial ∷ [] = serials_append x.records (r ∷ []) ∙ (λ i. record_serials x.records ++ same i ∷ []) in
    let D : List Id → Type 0 = λ is. Distinct is in
    let split : (i : Id) → In i (record_serials (x.records ++ r ∷ [])) → In i (record_serials x.records) ⊎ (i ≡ k.serial) = λ i j. (
    let P : List Id → Type 0 = λ is. In i is in
    elim (in_parts i (record_serials x.records) (k.serial ∷ []) (subst P added j)) [ inl z ↦ inl z | inr z ↦ elim z [ inl e ↦ inr e | inr n ↦ absurd n ] ]) in
    record {
      log = record {
        one = cut_distinct k x.table h.one;
        two = subst D (sym added) (distinct_more (record_serials x.records) k.serial h.two (λ j. h.apart k.serial old j));
        apart = λ i j l. elim (split i l) [
          | inl z ↦ h.apart i (in_cut_serials k x.table i j) z
          | inr e ↦ cut_gone k x.table h.one there (let P : Id → Type 0 = λ z. In z (branch_serials (cut k x.table)) in subst P e j)
        ];
      };
      branches = λ i j. in_cut_serials k x.table i j;
      records = λ i l. elim (split i l) [ inl z ↦ inr z | inr e ↦ inl (let P : Id → Type 0 = λ z. In z (branch_serials x.table) in subst P (sym e) old) ];
    }

pub act_apart : (x : Node) (a : Act) → LogApart x → Keyed x.table a → ApartAfter x (node_after a x)
act_apart x (Notes b) h q = same_serials x (Notes b) h (serials_put b x.table q) refl
act_apart x (Accepts b c) h q = same_serials x (Accepts b c) h (serials_put (record b { accepted = b.accepted ++ c ∷ [] }) x.table q) refl
act_apart x (Prepares b) h q = same_serials x (Prepares b) h (serials_put (record b { state = Prepared }) x.table q) refl
act_apart x (Settles k o why None) h q = cut_apart x (Settles k o why None) k h refl refl
act_apart x (Settles k o why (Some r)) h q = moved_apart x k o why r h q.0 q.1.serial
act_apart x (Leaves k) h q = cut_apart x (Leaves k) k h refl refl
act_apart x (Acknowledges k) h q = fewer_apart x (Acknowledges k) h refl (acknowledge_distinct k x.records h.two) (in_acknowledge k x.records)
act_apart x (Releases s m) h q = fewer_apart x (Releases s m) h refl (release_distinct s m x.records h.two) (in_release s m x.records)
act_apart x (Undoes k) h q = cut_apart x (Undoes k) k h refl refl
act_apart x (Sends m) h q = same_serials x (Sends m) h refl refl
act_apart x (Prints l) h q = same_serials x (Prints l) h refl refl

pub apart_same : (x : Node) → LogApart x → ApartAfter x x
apart_same x h = record { log = h; branches = λ i j. j; records = λ i l. inr l }

pub apart_on : (x y z : Node) → ApartAfter x y → ApartAfter y z → ApartAfter x z
apart_on x y z a b = record {
  log = b.log;
  branches = λ i j. a.branches i (b.branches i j);
  records = λ i l. elim (b.records i l) [ inl j ↦ inl (a.branches i j) | inr j ↦ a.records i j ];
}

-- a list of acts
abbrev pub nodes_after : List Act → Node → Node
nodes_after [] x = x
nodes_after (a ∷ acts) x = nodes_after acts (node_after a x)

pub acts_apart : (acts : List Act) (x : Node) → LogApart x → AllKeyed x.table acts → ApartAfter x (nodes_after acts x)
acts_apart [] x h q = apart_same x h
acts_apart (a ∷ acts) x h q = let one = act_apart x a h q.0 in apart_on x (node_after a x) (nodes_after acts (node_after a x)) one (acts_apart acts (node_after a x) one.log q.1)
