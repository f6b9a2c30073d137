-- The rows keep a table within its limits.
use Rattle.std.proofs.lemmas.Bool.{cases_Bool}
use Rattle.std.proofs.Common.{false, ◌≡◌, ◌≢◌, ◌≤◌, ◌<◌, ◌+◌, List, [], ◌∷◌, ◌++◌, Some, None, ◌⊎◌, inl, inr, refl, ap, sym, subst, ◌∙◌, arith, suc, length}
use Rattle.vms_model.specs.Ids.{Id}
use Rattle.vms_model.specs.Transactions.{Commit as ToCommit}
use Rattle.commit_protocol.specs.Messages.{Name, LogRecord, same_name, same_id}
use Rattle.commit_protocol.specs.Table.{replied_prepared, holding, Manager, Line, Started, Ended, Told, Key, Branch, Prepared, Child, Act, Notes, Accepts, Prepares, Settles, Leaves, Acknowledges, Releases, Undoes, Sends, Prints, Tm, after, after_act, same_key, find, put, cut, without, without_rm, nothing_left, keep_record, waits_for, holds, acknowledged, released, acknowledge, release}
use Rattle.commit_protocol.specs.World.{In, acts}
use Rattle.commit_protocol.specs.Agreement.{DistinctBids}
use Rattle.commit_protocol.proofs.Lists.{in_parts}
use Rattle.commit_protocol.specs.Limits.{PartsWithin, BranchWithin, RecordWithin, TmWithin, IsLawful, AllLawful, ActsLawful}
use Rattle.commit_protocol.specs.Effects.{acknowledge_effects, release_effects, line_effect, act_effects}

-- lists without repetition are no longer than those that they are in
abbrev Without : Id → List Id → Type 0
Without x xs = In x xs → ⊥

pub drop_at : (x : Id) (ys : List Id) → In x ys → List Id
drop_at x [] h = []
drop_at x (y ∷ ys) (inl e) = ys
drop_at x (y ∷ ys) (inr h) = y ∷ drop_at x ys h

pub length_drop : (x : Id) (ys : List Id) (h : In x ys) → suc (length (drop_at x ys h)) ≡ length ys
unfolding drop_at
length_drop x [] h = absurd h
length_drop x (y ∷ ys) (inl e) = refl
length_drop x (y ∷ ys) (inr h) = ap suc (length_drop x ys h)

pub in_drop : (x z : Id) (ys : List Id) (h : In x ys) → In z ys → z ≢ x → In z (drop_at x ys h)
unfolding drop_at
in_drop x z [] h i ne = i
in_drop x z (y ∷ ys) (inl e) (inl i) ne = absurd (ne (i ∙ sym e))
in_drop x z (y ∷ ys) (inl e) (inr i) ne = i
in_drop x z (y ∷ ys) (inr h) (inl i) ne = inl i
in_drop x z (y ∷ ys) (inr h) (inr i) ne = inr (in_drop x z ys h i ne)

-- each child's identifier is among these, and no two children have the same
pub children_fit : (cs : List Child) (bids : List Id) → DistinctBids cs → ((c : Child) → In c cs → In c.bid bids) → length cs ≤ length bids
children_fit [] bids d h = omega arith
children_fit (c ∷ cs) bids d h =
    let i : In c.bid bids = h c (inl refl) in
    let rest : length cs ≤ length (drop_at c.bid bids i) = children_fit cs (drop_at c.bid bids i) d.1 (λ x j. in_drop c.bid x.bid bids i (h x (inr j)) (d.0 x j)) in
    let l = length_drop c.bid bids i in
    omega arith

-- a table after `put` and `cut`
abbrev pub IsThere : Key → List Branch → Type 0
IsThere k bs = (b : Branch) × (find k bs ≡ Some b)

pub length_put : (b : Branch) (bs : List Branch) → length (put b bs) ≤ suc (length bs)
length_put b [] = omega arith
length_put b (x ∷ xs) =
    elim (cases_Bool (same_key x.key b.key)) [
      | inl e ↦ rw e (omega arith)
      | inr e ↦ rw e (let q = length_put b xs in omega arith)
    ]

pub length_put_there : (b : Branch) (bs : List Branch) → IsThere b.key bs → length (put b bs) ≤ length bs
length_put_there b [] h = absurd (let z : None ≡ Some h.0 = h.1 in cc)
length_put_there b (x ∷ xs) h =
    elim (cases_Bool (same_key x.key b.key)) [
      | inl e ↦ rw e (omega arith)
      | inr e ↦ rw e (let h' : find b.key xs ≡ Some h.0 = rw e at h.1 in let q = length_put_there b xs (h.0, h') in omega arith)
    ]

pub length_cut : (k : Key) (bs : List Branch) → length (cut k bs) ≤ length bs
length_cut k [] = omega arith
length_cut k (x ∷ xs) =
    elim (cases_Bool (same_key x.key k)) [
      | inl e ↦ rw e (let q = length_cut k xs in omega arith)
      | inr e ↦ rw e (let q = length_cut k xs in omega arith)
    ]

pub length_cut_there : (k : Key) (bs : List Branch) → IsThere k bs → suc (length (cut k bs)) ≤ length bs
length_cut_there k [] h = absurd (let z : None ≡ Some h.0 = h.1 in cc)
length_cut_there k (x ∷ xs) h =
    elim (cases_Bool (same_key x.key k)) [
      | inl e ↦ rw e (let q = length_cut k xs in omega arith)
      | inr e ↦ rw e (let h' : find k xs ≡ Some h.0 = rw e at h.1 in let q = length_cut_there k xs (h.0, h') in omega arith)
    ]

in_put : (x b : Branch) (bs : List Branch) → In x (put b bs) → (x ≡ b) ⊎ In x bs
in_put x b [] h = elim h [ inl e ↦ inl e | inr e ↦ absurd e ]
in_put x b (y ∷ ys) h =
    elim (cases_Bool (same_key y.key b.key)) [
      | inl e ↦ let h' : In x (b ∷ ys) = rw e at h in elim h' [ inl z ↦ inl z | inr z ↦ inr (inr z) ]
      | inr e ↦ let h' : In x (y ∷ put b ys) = rw e at h in elim h' [
        | inl z ↦ inr (inl z)
        | inr z ↦ elim (in_put x b ys z) [ inl q ↦ inl q | inr q ↦ inr (inr q) ]
      ]
    ]

in_cut : (x : Branch) (k : Key) (bs : List Branch) → In x (cut k bs) → In x bs
in_cut x k [] h = h
in_cut x k (y ∷ ys) h =
    elim (cases_Bool (same_key y.key k)) [
      | inl e ↦ let h' : In x (cut k ys) = rw e at h in inr (in_cut x k ys h')
      | inr e ↦ let h' : In x (y ∷ cut k ys) = rw e at h in elim h' [ inl z ↦ inl z | inr z ↦ inr (in_cut x k ys z) ]
    ]

pub find_in : (k : Key) (bs : List Branch) (b : Branch) → find k bs ≡ Some b → In b bs
find_in k [] b h = absurd cc
find_in k (x ∷ xs) b h =
    elim (cases_Bool (same_key x.key k)) [
      | inl e ↦ inl (let h' : Some x ≡ Some b = rw e at h in let s : x ≡ b = cc in sym s)
      | inr e ↦ inr (find_in k xs b (let h' : find k xs ≡ Some b = rw e at h in h'))
    ]

-- records with less to wait for
length_without : (s : Id) (xs : List Id) → length (without s xs) ≤ length xs
length_without s [] = omega arith
length_without s (x ∷ xs) =
    elim (cases_Bool (same_id x s)) [
      | inl e ↦ rw e (let q = length_without s xs in omega arith)
      | inr e ↦ rw e (let q = length_without s xs in omega arith)
    ]

length_without_rm : (x : Name) (ys : List Name) → length (without_rm x ys) ≤ length ys
length_without_rm x [] = omega arith
length_without_rm x (y ∷ ys) =
    elim (cases_Bool (same_name y x)) [
      | inl e ↦ rw e (let q = length_without_rm x ys in omega arith)
      | inr e ↦ rw e (let q = length_without_rm x ys in omega arith)
    ]

abbrev RecordsWithin : List LogRecord → Type 0
RecordsWithin rs = (r : LogRecord) → In r rs → RecordWithin r

in_keep : (r q : LogRecord) (rs : List LogRecord) → In r (keep_record q rs) → ((r ≡ q) × (nothing_left q.waiting q.rms ≡ false)) ⊎ In r rs
in_keep r q rs h =
    elim (cases_Bool (nothing_left q.waiting q.rms)) [
      | inl e ↦ let h' : In r rs = rw e at h in inr h'
      | inr e ↦ let h' : In r (q ∷ rs) = rw e at h in elim h' [ inl z ↦ inl (z, e) | inr z ↦ inr z ]
    ]

length_keep : (q : LogRecord) (rs : List LogRecord) → length (keep_record q rs) ≤ suc (length rs)
length_keep q rs =
    elim (cases_Bool (nothing_left q.waiting q.rms)) [
      | inl e ↦ rw e (omega arith)
      | inr e ↦ rw e (omega arith)
    ]

acknowledged_within : (k : Key) (r : LogRecord) → RecordWithin r → nothing_left (without k.serial r.waiting) r.rms ≡ false → RecordWithin (acknowledged k r)
acknowledged_within k r h left = record { kind = h.kind; left = left; waiting = (let q = length_without k.serial r.waiting in let p = h.waiting in omega arith); rms = h.rms }

released_within : (x : Name) (r : LogRecord) → RecordWithin r → nothing_left r.waiting (without_rm x r.rms) ≡ false → RecordWithin (released x r)
released_within x r h left = record { kind = h.kind; left = left; waiting = h.waiting; rms = (let q = length_without_rm x r.rms in let p = h.rms in omega arith) }

acknowledge_within : (k : Key) (rs : List LogRecord) → RecordsWithin rs → RecordsWithin (acknowledge k rs)
acknowledge_within k [] w r h = w r h
acknowledge_within k (q ∷ rs) w r h =
    elim (cases_Bool (waits_for k q)) [
      | inl e ↦ let h' : In r (keep_record (acknowledged k q) rs) = rw e at h in elim (in_keep r (acknowledged k q) rs h') [
        | inl z ↦ (let P : LogRecord → Type 0 = λ x. RecordWithin x in subst P (sym z.0) (acknowledged_within k q (w q (inl refl)) z.1))
        | inr z ↦ w r (inr z)
      ]
      | inr e ↦ let h' : In r (q ∷ acknowledge k rs) = rw e at h in elim h' [
        | inl z ↦ w r (inl z)
        | inr z ↦ acknowledge_within k rs (λ x i. w x (inr i)) r z
      ]
    ]

pub length_acknowledge : (k : Key) (rs : List LogRecord) → length (acknowledge k rs) ≤ length rs
length_acknowledge k [] = omega arith
length_acknowledge k (q ∷ rs) =
    elim (cases_Bool (waits_for k q)) [
      | inl e ↦ rw e (length_keep (acknowledged k q) rs)
      | inr e ↦ rw e (let p = length_acknowledge k rs in omega arith)
    ]

release_within : (s : Id) (x : Name) (rs : List LogRecord) → RecordsWithin rs → RecordsWithin (release s x rs)
release_within s x [] w r h = w r h
release_within s x (q ∷ rs) w r h =
    elim (cases_Bool (holds s x q)) [
      | inl e ↦ let h' : In r (keep_record (released x q) rs) = rw e at h in elim (in_keep r (released x q) rs h') [
        | inl z ↦ (let P : LogRecord → Type 0 = λ y. RecordWithin y in subst P (sym z.0) (released_within x q (w q (inl refl)) z.1))
        | inr z ↦ w r (inr z)
      ]
      | inr e ↦ let h' : In r (q ∷ release s x rs) = rw e at h in elim h' [
        | inl z ↦ w r (inl z)
        | inr z ↦ release_within s x rs (λ y i. w y (inr i)) r z
      ]
    ]

pub length_release : (s : Id) (x : Name) (rs : List LogRecord) → length (release s x rs) ≤ length rs
length_release s x [] = omega arith
length_release s x (q ∷ rs) =
    elim (cases_Bool (holds s x q)) [
      | inl e ↦ rw e (length_keep (released x q) rs)
      | inr e ↦ rw e (let p = length_release s x rs in omega arith)
    ]

pub length_add : (rs : List LogRecord) (r : LogRecord) → length (rs ++ r ∷ []) ≡ suc (length rs)
length_add [] r = refl
length_add (q ∷ rs) r = ap suc (length_add rs r)

-- when an act keeps a table within its limits
abbrev pub HasRoom : Tm → Type 0
HasRoom tm = (length tm.table < 64) × (length tm.table + length tm.records < 512)

abbrev pub ActWithin : Tm → Act → Type 0
ActWithin tm (Notes b) = BranchWithin b × (IsThere b.key tm.table ⊎ HasRoom tm)
ActWithin tm (Accepts b c) = PartsWithin b.bids (b.accepted ++ c ∷ []) b.managers × IsThere b.key tm.table
ActWithin tm (Prepares b) = BranchWithin b × IsThere b.key tm.table
ActWithin tm (Settles k o why None) = Unit {0}
ActWithin tm (Settles k o why (Some r)) = RecordWithin r × IsThere k tm.table × (o ≡ ToCommit) × (r.serial ≡ k.serial)
ActWithin tm _ = Unit {0}

put_within : (tm : Tm) (b : Branch) → TmWithin tm → BranchWithin b → IsThere b.key tm.table ⊎ HasRoom tm
    → TmWithin (let t : Tm = record { node = tm.node; table = put b tm.table; records = tm.records } in t)
put_within tm b w h room =
    let ok : (x : Branch) → In x (put b tm.table) → BranchWithin x = λ x i. elim (in_put x b tm.table i) [
      | inl e ↦ (let P : Branch → Type 0 = λ y. BranchWithin y in subst P (sym e) h)
      | inr e ↦ w.branches x e
    ] in
    elim room [
      | inl there ↦ (let q = length_put_there b tm.table there in let p = w.table in let l = w.log in record { branches = ok; records = w.records; table = omega arith; log = omega arith })
      | inr r ↦ (let q = length_put b tm.table in let r0 = r.0 in let r1 = r.1 in record { branches = ok; records = w.records; table = omega arith; log = omega arith })
    ]

cut_within : (tm : Tm) (k : Key) → TmWithin tm → TmWithin (let t : Tm = record { node = tm.node; table = cut k tm.table; records = tm.records } in t)
cut_within tm k w =
    let q = length_cut k tm.table in let p = w.table in let l = w.log in
    record { branches = λ x i. w.branches x (in_cut x k tm.table i); records = w.records; table = omega arith; log = omega arith }

record_within : (tm : Tm) (k : Key) (r : LogRecord) → TmWithin tm → RecordWithin r → IsThere k tm.table
    → TmWithin (let t : Tm = record { node = tm.node; table = cut k tm.table; records = tm.records ++ r ∷ [] } in t)
record_within tm k r w h there =
    let q = length_cut_there k tm.table there in let p = w.table in let l = w.log in let a = length_add tm.records r in
    record {
      branches = λ x i. w.branches x (in_cut x k tm.table i);
      records = λ x i. elim (in_parts x tm.records (r ∷ []) i) [
        | inl z ↦ w.records x z
        | inr z ↦ elim z [ inl e ↦ (let P : LogRecord → Type 0 = λ y. RecordWithin y in subst P (sym e) h) | inr e ↦ absurd e ]
      ];
      table = omega arith;
      log = omega arith;
    }

pub act_within : (tm : Tm) (a : Act) → TmWithin tm → ActWithin tm a → TmWithin (after_act a tm)
act_within tm (Notes b) w h = put_within tm b w h.0 h.1
act_within tm (Accepts b c) w h = put_within tm (record b { accepted = b.accepted ++ c ∷ [] }) w h.0 (inl h.1)
act_within tm (Prepares b) w h = put_within tm (record b { state = Prepared }) w h.0 (inl h.1)
act_within tm (Settles k o why None) w h = cut_within tm k w
act_within tm (Settles k o why (Some r)) w h = record_within tm k r w h.0 h.1
act_within tm (Leaves k) w h = cut_within tm k w
act_within tm (Acknowledges k) w h =
    let q = length_acknowledge k tm.records in let l = w.log in
    record { branches = w.branches; records = acknowledge_within k tm.records w.records; table = w.table; log = omega arith }
act_within tm (Releases s x) w h =
    let q = length_release s x tm.records in let l = w.log in
    record { branches = w.branches; records = release_within s x tm.records w.records; table = w.table; log = omega arith }
act_within tm (Undoes k) w h = cut_within tm k w
act_within tm (Sends m) w h = w
act_within tm (Prints l) w h = w

abbrev pub ActsWithin : Tm → List Act → Type 0
ActsWithin tm [] = Unit {0}
ActsWithin tm (a ∷ acts) = ActWithin tm a × ActsWithin (after_act a tm) acts

pub acts_within : (acts : List Act) (tm : Tm) → TmWithin tm → ActsWithin tm acts → TmWithin (after acts tm)
acts_within [] tm w h = w
acts_within (a ∷ acts) tm w h = acts_within acts (after_act a tm) (act_within tm a w h.0) h.1

-- and then its effects are lawful
acknowledge_lawful : (k : Key) (all rs : List LogRecord) → RecordsWithin rs → ((r : LogRecord) → In r rs → In r all) → AllLawful all (acknowledge_effects k rs)
acknowledge_lawful k all [] w sub = tt
acknowledge_lawful k all (q ∷ rs) w sub =
    elim (cases_Bool (waits_for k q)) [
      | inl e ↦ rw e (elim (cases_Bool (nothing_left (without k.serial q.waiting) q.rms)) [
        | inl f ↦ rw f ((q, sub q (inl refl), refl), tt)
        | inr f ↦ rw f ((acknowledged_within k q (w q (inl refl)) f, (q, sub q (inl refl), refl)), tt)
      ])
      | inr e ↦ rw e (acknowledge_lawful k all rs (λ r i. w r (inr i)) (λ r i. sub r (inr i)))
    ]

release_lawful : (s : Id) (x : Name) (all rs : List LogRecord) → RecordsWithin rs → ((r : LogRecord) → In r rs → In r all) → AllLawful all (release_effects s x rs)
release_lawful s x all [] w sub = tt
release_lawful s x all (q ∷ rs) w sub =
    elim (cases_Bool (holds s x q)) [
      | inl e ↦ rw e (elim (cases_Bool (nothing_left q.waiting (without_rm x q.rms))) [
        | inl f ↦ rw f ((q, sub q (inl refl), refl), tt)
        | inr f ↦ rw f ((released_within x q (w q (inl refl)) f, (q, sub q (inl refl), refl)), tt)
      ])
      | inr e ↦ rw e (release_lawful s x all rs (λ r i. w r (inr i)) (λ r i. sub r (inr i)))
    ]

pub length_holding : (ms : List Manager) → length (holding ms) ≤ length ms
length_holding [] = omega arith
length_holding (m ∷ ms) =
    elim (cases_Bool (replied_prepared m.reply)) [
      | inl e ↦ rw e (let q = length_holding ms in omega arith)
      | inr e ↦ rw e (let q = length_holding ms in omega arith)
    ]

line_lawful : (rs : List LogRecord) (l : Line) → IsLawful rs (line_effect l)
line_lawful rs (Started k) = tt
line_lawful rs (Ended t r) = tt
line_lawful rs (Told e k x) = tt

act_lawful : (tm : Tm) (a : Act) → TmWithin tm → ActWithin tm a → AllLawful tm.records (act_effects a tm.records)
act_lawful tm (Notes b) w h = tt
act_lawful tm (Accepts b c) w h = (tt, tt)
act_lawful tm (Prepares b) w h = ((let a = length_holding b.managers in let m = h.0.managers in omega arith), tt)
act_lawful tm (Settles k o why None) w h = (tt, tt)
act_lawful tm (Settles k o why (Some r)) w h = ((h.2, h.3, h.0), tt)
act_lawful tm (Leaves k) w h = (tt, tt)
act_lawful tm (Acknowledges k) w h = acknowledge_lawful k tm.records tm.records w.records (λ r i. i)
act_lawful tm (Releases s x) w h = release_lawful s x tm.records tm.records w.records (λ r i. i)
act_lawful tm (Undoes k) w h = tt
act_lawful tm (Sends m) w h = (tt, tt)
act_lawful tm (Prints l) w h = (line_lawful tm.records l, tt)

pub acts_lawful : (acts : List Act) (tm : Tm) → TmWithin tm → ActsWithin tm acts → ActsLawful acts tm.records
acts_lawful [] tm w h = tt
acts_lawful (a ∷ acts) tm w h = (act_lawful tm a w h.0, acts_lawful acts (after_act a tm) (act_within tm a w h.0) h.1)
