-- What acts tell that their effects do not: the branches that stood before a row tell it, its message, and the log.
use Rattle.std.proofs.Common.{◌≡◌, ℕ, List, [], ◌∷◌, ◌++◌, Bool, true, false, Option, Some, None, inl, inr, refl, sym, ap, subst, ◌∙◌}
use Rattle.std.specs.Prelude.{if◌then◌else◌, map}
use Rattle.vms_model.specs.Ids.{Id}
use Rattle.records_model.specs.History.{same_id}
use Rattle.unit_laws.proofs.LiveLemmas.{id_is, id_itself}
use Rattle.commit_protocol.specs.Agreement.{Distinct}
use Rattle.commit_protocol.specs.Allowed.{allowed}
use Rattle.commit_protocol.specs.Limits.{TmWithin}
use Rattle.commit_protocol.specs.Messages.{LogRecord}
use Rattle.commit_protocol.specs.Messages as messages
use Rattle.commit_protocol.specs.Rows.{Event, Start, Authorise, Begin, JoinRm, Changed, EndTrans, EndBranch, AbortBranch, Replied, Got, Clock, LinkDown, RunDown, InquireBranch, row, got, note_row, note_state, has_changed}
use Rattle.commit_protocol.specs.Standing.{Stands, BeginsNothing}
use Rattle.commit_protocol.specs.Table.{Act, Accepts, Acknowledges, Branch, State, Joining, Active, Ending, Voting, Prepared, Key, Leaves, Notes, Prepares, Prints, Releases, Sends, Settles, Started, Ended, Told, Tm, Undoes, after, after_act, branch_serials, record_serials, cut, find, find_serial, put, records_after, table_after}
use Rattle.commit_protocol.specs.World.{In}
use Rattle.commit_protocol.proofs.Lists.{find-put_other, find-cut, find-cut_other, find-key, told_id, told_key}
use Rattle.commit_protocol.proofs.Serials.{in_serial, parts_apart, there_serial}
use Rattle.world_laws.specs.log_laws.Slots.{Slots, records_in, slots_after}
use Rattle.row_laws.specs.May.{IsOfMessage, IsTold, MayDo, MayDoAll}
use Rattle.row_laws.proofs.MayLemmas.{may_row, told_after}
use Rattle.reference_disk.specs.Disks.{logged_tid}
use Rattle.reference_node.specs.Telling.{AllTellable, AreLogged, IsTellable}
use Rattle.reference_branches.specs.Branches.{tid_among}

-- Branches that stood before.

abbrev Keyed : List Key → List Branch → Type 0
Keyed before bs = (k : Key) (b : Branch) → find k bs ≡ Some b → tid_among k.serial before ≡ k.tid

keyed_cut : (before : List Key) (j : Key) (bs : List Branch) → Keyed before bs → Keyed before (cut j bs)
keyed_cut before j bs h k b e = elim (told_key j k) [
  | inl q ↦ absurd (let P : Key → Type 0 = λ x. find x (cut j bs) ≡ None in let z : None ≡ Some b = sym (subst P q.1 (find-cut j bs)) ∙ e in cc)
  | inr q ↦ h k b (sym (find-cut_other j k bs q.1) ∙ e)
]

keyed_put : (before : List Key) (d old : Branch) (bs : List Branch) → find d.key bs ≡ Some old → Keyed before bs → Keyed before (put d bs)
keyed_put before d old bs there h k b e = elim (told_key d.key k) [
  | inl q ↦ (let P : Key → Type 0 = λ x. tid_among x.serial before ≡ x.tid in subst P q.1 (h d.key old there))
  | inr q ↦ h k b (sym (find-put_other k d bs q.1) ∙ e)
]

keyed_after : (before : List Key) (a : Act) (bs : List Branch) → Stands bs a → Keyed before bs → Keyed before (table_after a bs)
keyed_after before (Notes b) bs s h = keyed_put before b s.old bs s.there h
keyed_after before (Accepts b c) bs s h = keyed_put before (record b { accepted = b.accepted ++ c ∷ [] }) s.old bs s.there h
keyed_after before (Prepares b) bs s h = keyed_put before (record b { state = Prepared }) s.branch bs s.there h
keyed_after before (Settles k o why r) bs s h = keyed_cut before k bs h
keyed_after before (Leaves k) bs s h = keyed_cut before k bs h
keyed_after before (Acknowledges k) bs s h = h
keyed_after before (Releases i x) bs s h = h
keyed_after before (Undoes k) bs s h = keyed_cut before k bs h
keyed_after before (Sends m) bs s h = h
keyed_after before (Prints l) bs s h = h

-- those that stand there now
keyed_now : (bs : List Branch) → Distinct (branch_serials bs) → Keyed (map (λ (b : Branch). b.key) bs) bs
keyed_now [] d k b e = let never : ⊥ = cc in absurd never
keyed_now (x ∷ xs) d k b e = elim (told_key x.key k) [
  | inl q ↦ (let P : Key → Type 0 = λ z. (let o : Id = if same_id z.serial x.key.serial then x.key.tid else tid_among z.serial (map (λ (b : Branch). b.key) xs) in o) ≡ z.tid in subst P q.1 (rw (id_itself x.key.serial) refl))
  | inr q ↦ (let there : find k xs ≡ Some b = rw (q.0) at e in go (same_id k.serial x.key.serial) refl there (keyed_now xs d.1 k b there))
]
  where
    go : (t : Bool) → same_id k.serial x.key.serial ≡ t → find k xs ≡ Some b → tid_among k.serial (map (λ (b : Branch). b.key) xs) ≡ k.tid → (let o : Id = if t then x.key.tid else tid_among k.serial (map (λ (b : Branch). b.key) xs) in o) ≡ k.tid
    go true is there more = absurd (d.0 (subst (λ z. In z (branch_serials xs)) (id_is k.serial x.key.serial is) (there_serial k xs (b, there))))
    go false is there more = more

-- Records in the log.

logged : (r : LogRecord) (ss : Slots) → Distinct (record_serials (records_in ss)) → In r (records_in ss) → logged_tid r.serial ss ≡ r.tid
logged r [] d h = absurd h
logged r (None ∷ ss) d h = logged r ss d h
logged r (Some q ∷ ss) d h = elim h [
  | inl e ↦ (let P : LogRecord → Type 0 = λ z. logged_tid z.serial (Some q ∷ ss) ≡ z.tid in subst P (sym e) (elim (told_id q.serial q.serial) [ inl t ↦ rw (t.0) refl | inr t ↦ absurd (t.1 refl) ]))
  | inr i ↦ elim (told_id q.serial r.serial) [
    | inl t ↦ absurd (d.0 (let P : Id → Type 0 = λ z. In z (record_serials (records_in ss)) in subst P (sym t.1) (in_serial r (records_in ss) i)))
    | inr t ↦ rw (t.0) (logged r ss d.1 i)
  ]
]

are_logged : (tm : Tm) (ss : Slots) → IsTold tm ss → AreLogged tm.records ss
are_logged tm ss h r i = logged r ss h.tells.distinct (h.tells.committed r i)

-- Acts.

tellable : (before : List Key) (tid : Id) (a : Act) (tm : Tm) (ss : Slots) → IsTold tm ss → Keyed before tm.table → MayDo tid a tm ss → IsTellable before tid a tm.records ss
tellable before tid (Notes b) tm ss told keyed may = tt
tellable before tid (Accepts b c) tm ss told keyed may = may.named
tellable before tid (Prepares b) tm ss told keyed may = keyed b.key may.stands.branch may.stands.there
tellable before tid (Settles k o why r) tm ss told keyed may = keyed k may.stands.0.0 may.stands.0.1
tellable before tid (Leaves k) tm ss told keyed may = keyed k may.stands.branch may.stands.there
tellable before tid (Acknowledges k) tm ss told keyed may = are_logged tm ss told
tellable before tid (Releases i x) tm ss told keyed may = are_logged tm ss told
tellable before tid (Undoes k) tm ss told keyed may = absurd may.named
tellable before tid (Sends m) tm ss told keyed may = tt
tellable before tid (Prints (Started k)) tm ss told keyed may = may.named
tellable before tid (Prints (Ended t why)) tm ss told keyed may = tt
tellable before tid (Prints (Told e k x)) tm ss told keyed may = tt

all_tellable : (before : List Key) (tid : Id) (acts : List Act) (tm : Tm) (ss : Slots) → IsTold tm ss → Keyed before tm.table → MayDoAll tid acts tm ss → AllTellable before tid acts tm.records ss
all_tellable before tid [] tm ss told keyed may = tt
all_tellable before tid (a ∷ acts) tm ss told keyed may =
    (tellable before tid a tm ss told keyed may.0, all_tellable before tid acts (after_act a tm) (slots_after a tm.records ss) (told_after tid tm a ss told may.0) (keyed_after before a tm.table may.0.stands keyed) may.1)

-- Rows.

noted : (before : List Key) (tid : Id) (f : Branch → Branch) (b : Branch) (state : State) (rs : List LogRecord) (ss : Slots) → AllTellable before tid (note_state f b state) rs ss
noted before tid f b Active rs ss = (tt, tt)
noted before tid f b Joining rs ss = tt
noted before tid f b Ending rs ss = tt
noted before tid f b Voting rs ss = tt
noted before tid f b Prepared rs ss = tt

noted_row : (before : List Key) (tid : Id) (f : Branch → Branch) (o : Option Branch) (rs : List LogRecord) (ss : Slots) → AllTellable before tid (note_row f o) rs ss
noted_row before tid f None rs ss = tt
noted_row before tid f (Some b) rs ss = noted before tid f b b.state rs ss

-- where the log tells the table, each act of a row is told by its effect and what stood before
pub row_tellable : (tid : Id) (e : Event) (tm : Tm) (ss : Slots) → IsTold tm ss → TmWithin tm → allowed tm e ≡ true → IsOfMessage tid e → AllTellable (map (λ (b : Branch). b.key) tm.table) tid (row tm e) tm.records ss
row_tellable tid e tm ss told within may of = by e may of
  where
    before : List Key
    before = map (λ (b : Branch). b.key) tm.table

    all : (e : Event) → allowed tm e ≡ true → BeginsNothing e → IsOfMessage tid e → AllTellable before tid (row tm e) tm.records ss
    all e may begins of = all_tellable before tid (row tm e) tm ss told (keyed_now tm.table (parts_apart (branch_serials tm.table) (record_serials tm.records) told.apart).one) (may_row tid tm e ss told within may begins of)

    by : (e : Event) → allowed tm e ≡ true → IsOfMessage tid e → AllTellable before tid (row tm e) tm.records ss
    by (Start t due) may of = (tt, tt)
    by (Authorise t bid) may of = all (Authorise t bid) may tt of
    by (Begin t s bid) may of = (tt, (tt, tt))
    by (JoinRm s x) may of = all (JoinRm s x) may tt of
    by (Changed s) may of = noted_row before tid has_changed (find_serial s tm.table) tm.records ss
    by (EndTrans t) may of = all (EndTrans t) may tt of
    by (EndBranch s) may of = all (EndBranch s) may tt of
    by (AbortBranch s why) may of = all (AbortBranch s why) may tt of
    by (Replied s x r) may of = all (Replied s x r) may tt of
    by (Got m) may of = all (Got m) may tt of
    by (Clock now) may of = all (Clock now) may tt of
    by (LinkDown x) may of = all (LinkDown x) may tt of
    by RunDown may of = all RunDown may tt of
    by (InquireBranch s) may of = all (InquireBranch s) may tt of

-- The name of a table's node does not count.

pub row_as : (name : List ℕ) (tm : Tm) (e : Event) → row (record tm { node = name }) e ≡ row tm e
row_as name tm (Start t due) = refl
row_as name tm (Authorise t bid) = refl
row_as name tm (Begin t s bid) = refl
row_as name tm (JoinRm s x) = refl
row_as name tm (Changed s) = refl
row_as name tm (EndTrans t) = refl
row_as name tm (EndBranch s) = refl
row_as name tm (AbortBranch s why) = refl
row_as name tm (Replied s x q) = refl
row_as name tm (Got m) = by m.kind
  where
    by : (kind : messages.Kind) → got (record tm { node = name }) m kind ≡ got tm m kind
    by messages.Join = refl
    by messages.JoinOk = refl
    by messages.JoinNo = refl
    by messages.Prepare = refl
    by messages.Yes = refl
    by messages.ReadOnly = refl
    by messages.No = refl
    by messages.Commit = refl
    by messages.Abort = refl
    by messages.Ack = refl
    by messages.Inquire = refl
row_as name tm (Clock now) = refl
row_as name tm (LinkDown x) = refl
row_as name tm RunDown = refl
row_as name tm (InquireBranch s) = refl

pub allowed_as : (name : List ℕ) (tm : Tm) (e : Event) → allowed (record tm { node = name }) e ≡ allowed tm e
allowed_as name tm (Start t due) = refl
allowed_as name tm (Authorise t bid) = refl
allowed_as name tm (Begin t s bid) = refl
allowed_as name tm (JoinRm s x) = refl
allowed_as name tm (Changed s) = refl
allowed_as name tm (EndTrans t) = refl
allowed_as name tm (EndBranch s) = refl
allowed_as name tm (AbortBranch s why) = refl
allowed_as name tm (Replied s x q) = refl
allowed_as name tm (Got m) = refl
allowed_as name tm (Clock now) = refl
allowed_as name tm (LinkDown x) = refl
allowed_as name tm RunDown = refl
allowed_as name tm (InquireBranch s) = refl

pub after_as : (name : List ℕ) (acts : List Act) (tm : Tm) → after acts (record tm { node = name }) ≡ record (after acts tm) { node = name }
after_as name [] tm = refl
after_as name (a ∷ acts) tm = after_as name acts (after_act a tm)
