-- A row finds the slots that it writes: a node's branches and committed records are never more than its slots, so that a record that is new finds a free one.
use Rattle.std.proofs.lemmas.Bool.{cases_Bool}
use Rattle.std.proofs.lemmas.List.{length-append}
use Rattle.std.specs.Prelude.{if◌then◌else◌}
use Rattle.std.proofs.Common.{◌≡◌, ◌≤◌, ◌+◌, suc, length, Bool, true, false, List, [], ◌∷◌, ◌++◌, Option, Some, None, ◌⊎◌, inl, inr, refl, ap, sym, subst, ◌∙◌, arith}
use Rattle.commit_protocol.specs.vms_model.Ids.{Id}
use Rattle.commit_protocol.specs.Messages.{LogRecord}
use Rattle.commit_protocol.specs.Table.{Key, Branch, State, Joining, Active, Ending, Voting, Prepared, Tm, Act, Notes, Accepts, Prepares, Settles, Leaves, Acknowledges, Releases, Undoes, Sends, Prints, find, find_serial, put, prepared_record, prepared_state, prepared_records, branch_serials, record_serials, after_act, after}
use Rattle.commit_protocol.specs.Rows as rows
use Rattle.commit_protocol.specs.Rows.{Event, row, blank, has_changed, note_row, note_state}
use Rattle.commit_protocol.specs.Allowed.{is_prepared}
use Rattle.commit_protocol.specs.Effects.{Effect, KeepEffect, ForgetEffect, acknowledge_effects, release_effects}
use Rattle.commit_protocol.specs.World.{Node, In}
use Rattle.commit_protocol.specs.Agreement.{Distinct}
use Rattle.commit_protocol.specs.Standing.{Stands, AllStand, BeginsNothing, IsNew, HasApartLog}
use Rattle.commit_protocol.proofs.Lists.{told_id, told_key, find-key, find_serial-key, in_left, in_right}
use Rattle.commit_protocol.proofs.Serials.{parts_apart, unique_of, in_serial, serial_in, keyed, act_apart}
use Rattle.commit_protocol.proofs.StandingRows.{rows_stand}
use Rattle.commit_protocol.proofs.Lasting.{new_lasts}
use Rattle.commit_protocol.proofs.Within.{drop_at, length_drop, in_drop, length_put, length_put_there, length_cut, length_cut_there, length_acknowledge, length_release, length_add}
use Rattle.log_laws.specs.Slots.{Slots, records_in, has_slot, has_free, replaced, filled, put_in, forgotten, record_effect_in, record_effects_in, slots_after, LogTells, HasSlot, AllTell, size, branches_added, IsFresh}
use Rattle.log_laws.proofs.Slotting.{TmApart, slot_of, state_first, state_rest, same_tells, act_tells}

-- Counts.

-- distinct ids are no more than those that they are among
pub among : (xs ys : List Id) → Distinct xs → ((i : Id) → In i xs → In i ys) → length xs ≤ length ys
among [] ys d h = omega arith
among (x ∷ xs) ys d h =
    let i : In x ys = h x (inl refl) in
    let rest : length xs ≤ length (drop_at x ys i) = among xs (drop_at x ys i) d.1 (λ z j. in_drop x z ys i (h z (inr j)) (λ e. d.0 (let P : Id → Type 0 = λ w. In w xs in subst P e j))) in
    let l = length_drop x ys i in
    omega arith

length_serials : (rs : List LogRecord) → length (record_serials rs) ≡ length rs
length_serials [] = refl
length_serials (r ∷ rs) = ap suc (length_serials rs)

-- where no slot is free there is a record in each
all_taken : (ss : Slots) → has_free ss ≡ false → length (record_serials (records_in ss)) ≡ length ss
all_taken [] e = refl
all_taken (None ∷ ss) e = absurd (let f : true ≡ false = e in cc)
all_taken (Some q ∷ ss) e = ap suc (all_taken ss e)

-- no more prepared records than branches, and fewer where one is unprepared
prepared_most : (bs : List Branch) → length (prepared_records bs) ≤ length bs
prepared_most [] = omega arith
prepared_most (b ∷ bs) = go b.state (prepared_most bs)
  where
    go : (s : State) → length (prepared_records bs) ≤ length bs → length (prepared_state b s (prepared_records bs)) ≤ suc (length bs)
    go Prepared h = omega arith
    go Joining h = omega arith
    go Active h = omega arith
    go Ending h = omega arith
    go Voting h = omega arith

prepared_fewer : (k : Key) (bs : List Branch) (o : Branch) → find k bs ≡ Some o → is_prepared o.state ≡ false → suc (length (prepared_records bs)) ≤ length bs
prepared_fewer k [] o e un = absurd (let f : None ≡ Some o = e in cc)
prepared_fewer k (b ∷ bs) o e un = elim (told_key b.key k) [
  | inl t ↦
      let e' : Some b ≡ Some o = rw (t.0) at e in
      let same : b ≡ o = cc in
      this b.state (ap (λ (y : Branch). is_prepared y.state) same ∙ un) (prepared_most bs)
  | inr t ↦ let e' : find k bs ≡ Some o = rw (t.0) at e in more b.state (prepared_fewer k bs o e' un)
]
  where
    this : (s : State) → is_prepared s ≡ false → length (prepared_records bs) ≤ length bs → suc (length (prepared_state b s (prepared_records bs))) ≤ suc (length bs)
    this Prepared u h = absurd (let f : true ≡ false = u in cc)
    this Joining u h = omega arith
    this Active u h = omega arith
    this Ending u h = omega arith
    this Voting u h = omega arith

    more : (s : State) → suc (length (prepared_records bs)) ≤ length bs → suc (length (prepared_state b s (prepared_records bs))) ≤ suc (length bs)
    more Prepared h = omega arith
    more Joining h = omega arith
    more Active h = omega arith
    more Ending h = omega arith
    more Voting h = omega arith

-- where a branch is unprepared and the slots are no fewer than branches and committed records, one is free
free_slot : (tm : Tm) (ss : Slots) (k : Key) (o : Branch) → LogTells tm ss → size tm ≤ length ss → find k tm.table ≡ Some o → is_prepared o.state ≡ false → has_free ss ≡ true
free_slot tm ss k o l fits e un = elim (cases_Bool (has_free ss)) [
  | inl f ↦ f
  | inr f ↦
      let ps : List Id = record_serials (prepared_records tm.table) in
      let cs : List Id = record_serials tm.records in
      let few : length (record_serials (records_in ss)) ≤ length (ps ++ cs) = among (record_serials (records_in ss)) (ps ++ cs) l.distinct (λ i h.
      let q = serial_in i (records_in ss) h in
      let P : Id → Type 0 = λ j. In j (ps ++ cs) in
      subst P q.2 (elim (l.from q.0 q.1) [ inl j ↦ in_left q.0.serial ps cs (in_serial q.0 (prepared_records tm.table) j) | inr j ↦ in_right q.0.serial ps cs (in_serial q.0 tm.records j) ])) in
      let one = all_taken ss f in
      let two = length-append ps cs in
      let three = length_serials (prepared_records tm.table) in
      let four = length_serials tm.records in
      let fewer = prepared_fewer k tm.table o e un in
      let A : _ → Type 0 = λ n. n ≤ length (ps ++ cs) in
      absurd (let z : length ss ≤ length (ps ++ cs) = subst A one few in omega arith)
]

-- the record of a prepared branch is there, and so it has a slot
pub prepared_in : (k : Key) (bs : List Branch) (o : Branch) → find k bs ≡ Some o → o.state ≡ Prepared → In (prepared_record o) (prepared_records bs)
prepared_in k [] o e p = absurd (let f : None ≡ Some o = e in cc)
prepared_in k (b ∷ bs) o e p = elim (told_key b.key k) [
  | inl t ↦
      let e' : Some b ≡ Some o = rw (t.0) at e in
      let same : b ≡ o = cc in
      state_first b b.state (prepared_records bs) (prepared_record o) (ap (λ (y : Branch). y.state) same ∙ p) (ap prepared_record (sym same))
  | inr t ↦ let e' : find k bs ≡ Some o = rw (t.0) at e in state_rest b b.state (prepared_records bs) (prepared_record o) (prepared_in k bs o e' p)
]

prepared_slot : (tm : Tm) (ss : Slots) (k : Key) (o : Branch) → LogTells tm ss → find k tm.table ≡ Some o → o.state ≡ Prepared → has_slot k.serial ss ≡ true
prepared_slot tm ss k o l e p =
    let here : In (prepared_record o) (records_in ss) = l.prepared (prepared_record o) (prepared_in k tm.table o e p) in
    let P : Key → Type 0 = λ j. In j.serial (record_serials (records_in ss)) in
    slot_of k.serial ss (subst P (find-key k tm.table o e) (in_serial (prepared_record o) (records_in ss) here))

-- prepared, or not
is_or : (s : State) → (s ≡ Prepared) ⊎ (is_prepared s ≡ false)
is_or Prepared = inl refl
is_or Joining = inr refl
is_or Active = inr refl
is_or Ending = inr refl
is_or Voting = inr refl

pub finds_slot : (tm : Tm) (ss : Slots) (a : Act) → LogTells tm ss → size tm ≤ length ss → Stands tm.table a → HasSlot ss a
finds_slot tm ss (Prepares b) l fits q = free_slot tm ss b.key q.branch l fits q.there q.unprepared
finds_slot tm ss (Settles k o why (Some r)) l fits q = elim (is_or q.0.0.state) [
  | inl p ↦ inl (ap (λ s. has_slot s ss) q.1.serial ∙ prepared_slot tm ss k q.0.0 l q.0.1 p)
  | inr un ↦ inr (free_slot tm ss k q.0.0 l fits q.0.1 un)
]
finds_slot tm ss (Settles k o why None) l fits q = tt
finds_slot tm ss (Notes b) l fits q = tt
finds_slot tm ss (Accepts b c) l fits q = tt
finds_slot tm ss (Leaves k) l fits q = tt
finds_slot tm ss (Acknowledges k) l fits q = tt
finds_slot tm ss (Releases s x) l fits q = tt
finds_slot tm ss (Undoes k) l fits q = tt
finds_slot tm ss (Sends m) l fits q = tt
finds_slot tm ss (Prints p) l fits q = tt

-- The number of slots stays.

length_replaced : (r : LogRecord) (ss : Slots) → length (replaced r ss) ≡ length ss
length_replaced r [] = refl
length_replaced r (None ∷ ss) = ap suc (length_replaced r ss)
length_replaced r (Some q ∷ ss) = elim (told_id q.serial r.serial) [
  | inl e ↦ rw (e.0) refl
  | inr e ↦ rw (e.0) (ap suc (length_replaced r ss))
]

length_filled : (r : LogRecord) (ss : Slots) → length (filled r ss) ≡ length ss
length_filled r [] = refl
length_filled r (None ∷ ss) = refl
length_filled r (Some q ∷ ss) = ap suc (length_filled r ss)

length_put_in : (r : LogRecord) (ss : Slots) → length (put_in r ss) ≡ length ss
length_put_in r ss = go (has_slot r.serial ss)
  where
    go : (b : Bool) → length (if b then replaced r ss else filled r ss) ≡ length ss
    go true = length_replaced r ss
    go false = length_filled r ss

length_forgotten : (s : Id) (ss : Slots) → length (forgotten s ss) ≡ length ss
length_forgotten s [] = refl
length_forgotten s (None ∷ ss) = ap suc (length_forgotten s ss)
length_forgotten s (Some q ∷ ss) = elim (told_id q.serial s) [
  | inl e ↦ rw (e.0) refl
  | inr e ↦ rw (e.0) (ap suc (length_forgotten s ss))
]

length_effect : (e : Effect) (ss : Slots) → length (record_effect_in e ss) ≡ length ss
length_effect (KeepEffect r) ss = length_put_in r ss
length_effect (ForgetEffect s) ss = length_forgotten s ss
length_effect _ ss = refl

length_effects : (es : List Effect) (ss : Slots) → length (record_effects_in es ss) ≡ length ss
length_effects [] ss = refl
length_effects (e ∷ es) ss = length_effects es (record_effect_in e ss) ∙ length_effect e ss

pub length_slots : (a : Act) (rs : List LogRecord) (ss : Slots) → length (slots_after a rs ss) ≡ length ss
length_slots (Prepares b) rs ss = length_put_in (prepared_record b) ss
length_slots (Settles k o why None) rs ss = length_forgotten k.serial ss
length_slots (Settles k o why (Some r)) rs ss = length_put_in r ss
length_slots (Acknowledges k) rs ss = length_effects (acknowledge_effects k rs) ss
length_slots (Releases s x) rs ss = length_effects (release_effects s x rs) ss
length_slots (Notes b) rs ss = refl
length_slots (Accepts b c) rs ss = refl
length_slots (Leaves k) rs ss = refl
length_slots (Undoes k) rs ss = refl
length_slots (Sends m) rs ss = refl
length_slots (Prints l) rs ss = refl

-- Branches and committed records grow by no act that finds its branch.

pub act_size : (tm : Tm) (a : Act) → Stands tm.table a → size (after_act a tm) ≤ size tm
act_size tm (Notes b) q = let h = length_put_there b tm.table (q.old, q.there) in omega arith
act_size tm (Accepts b c) q = let h = length_put_there (record b { accepted = b.accepted ++ c ∷ [] }) tm.table (q.old, q.there) in omega arith
act_size tm (Prepares b) q = let h = length_put_there (record b { state = Prepared }) tm.table (q.branch, q.there) in omega arith
act_size tm (Settles k o why None) q = let h = length_cut k tm.table in omega arith
act_size tm (Settles k o why (Some r)) q =
    let h = length_cut_there k tm.table q.0 in
    let l = length_add tm.records r in
    omega arith
act_size tm (Leaves k) q = let h = length_cut k tm.table in omega arith
act_size tm (Acknowledges k) q = let h = length_acknowledge k tm.records in omega arith
act_size tm (Releases s x) q = let h = length_release s x tm.records in omega arith
act_size tm (Undoes k) q = let h = length_cut k tm.table in omega arith
act_size tm (Sends m) q = omega arith
act_size tm (Prints l) q = omega arith

acts_size : (acts : List Act) (tm : Tm) → AllStand tm.table acts → size (after acts tm) ≤ size tm
acts_size [] tm q = omega arith
acts_size (a ∷ acts) tm q =
    let one = act_size tm a q.0 in
    let rest = acts_size acts (after_act a tm) q.1 in
    omega arith

-- the table after an act is apart again
pub apart_after : (tm : Tm) (a : Act) → TmApart tm → Stands tm.table a → TmApart (after_act a tm)
apart_after tm a h q =
    let x : Node = record { up = true; boot = 0; seq = 0; table = tm.table; records = tm.records; lost = []; last = None } in
    (act_apart x a h (keyed tm.table a q)).log

acts_tell : (acts : List Act) (tm : Tm) (ss : Slots) → TmApart tm → AllStand tm.table acts → size tm ≤ length ss → LogTells tm ss → AllTell acts tm ss
acts_tell [] tm ss a q fits l = tt
acts_tell (x ∷ acts) tm ss a q fits l =
    let ts : Slots = slots_after x tm.records ss in
    let m : LogTells (after_act x tm) ts = act_tells tm ss x a (unique_of tm.table a.one) q.0 (finds_slot tm ss x l fits q.0) l in
    let one = act_size tm x q.0 in
    let two = length_slots x tm.records ss in
    let A : _ → Type 0 = λ n. size (after_act x tm) ≤ n in
    (m, acts_tell acts (after_act x tm) ts (apart_after tm x a q.0) q.1 (subst A (sym two) (omega arith)) m)

-- Rows by which a branch begins, or changes something for the first time.

new_tells : (tm : Tm) (ss : Slots) (b : Branch) → IsNew tm.table b → LogTells tm ss → LogTells (after_act (Notes b) tm) ss
new_tells tm ss b n l = same_tells tm (after_act (Notes b) tm) ss (new_lasts tm.table b n).0 refl l

put_same : (b o : Branch) (bs : List Branch) → find b.key bs ≡ Some o → is_prepared o.state ≡ false → is_prepared b.state ≡ false → prepared_records (put b bs) ≡ prepared_records bs
put_same b o [] e un st = absurd (let f : None ≡ Some o = e in cc)
put_same b o (x ∷ xs) e un st = elim (told_key x.key b.key) [
  | inl t ↦
      let e' : Some x ≡ Some o = rw (t.0) at e in
      let same : x ≡ o = cc in
      rw (t.0) (plain b b.state st ∙ sym (plain x x.state (ap (λ (y : Branch). is_prepared y.state) same ∙ un)))
  | inr t ↦ let e' : find b.key xs ≡ Some o = rw (t.0) at e in rw (t.0) (ap (prepared_state x x.state) (put_same b o xs e' un st))
]
  where
    plain : (y : Branch) (s : State) → is_prepared s ≡ false → prepared_state y s (prepared_records xs) ≡ prepared_records xs
    plain y Joining h = refl
    plain y Active h = refl
    plain y Ending h = refl
    plain y Voting h = refl
    plain y Prepared h = absurd (let f : true ≡ false = h in cc)

pub changed_tells : (tm : Tm) (ss : Slots) (o : Option Branch) → ((b : Branch) → o ≡ Some b → find b.key tm.table ≡ Some b) → LogTells tm ss → AllTell (note_row has_changed o) tm ss
changed_tells tm ss None there l = tt
changed_tells tm ss (Some b) there l = go b.state refl
  where
    go : (s : State) → b.state ≡ s → AllTell (note_state has_changed b s) tm ss
    go Active e =
        let un : is_prepared b.state ≡ false = ap is_prepared e in
        (same_tells tm (after_act (Notes (has_changed b)) tm) ss (put_same (has_changed b) b tm.table (there b refl) un un) refl l, tt)
    go Joining e = tt
    go Ending e = tt
    go Voting e = tt
    go Prepared e = tt

changed_size : (tm : Tm) (o : Option Branch) → ((b : Branch) → o ≡ Some b → find b.key tm.table ≡ Some b) → size (after (note_row has_changed o) tm) ≤ size tm
changed_size tm None there = omega arith
changed_size tm (Some b) there = go b.state
  where
    go : (s : State) → size (after (note_state has_changed b s) tm) ≤ size tm
    go Active = let h = length_put_there (has_changed b) tm.table (b, there b refl) in omega arith
    go Joining = omega arith
    go Ending = omega arith
    go Voting = omega arith
    go Prepared = omega arith

-- of the other events, by what their acts find
quiet_tells : (tm : Tm) (e : Event) (ss : Slots) → HasApartLog tm → BeginsNothing e → size tm ≤ length ss → LogTells tm ss → AllTell (row tm e) tm ss
quiet_tells tm e ss apart h fits l =
    let d = parts_apart (branch_serials tm.table) (record_serials tm.records) apart in
    acts_tell (row tm e) tm ss d (rows_stand tm e (unique_of tm.table d.one) h) fits l

pub row_tells : (tm : Tm) (e : Event) (ss : Slots) → HasApartLog tm → IsFresh tm e → size tm ≤ length ss → LogTells tm ss → AllTell (row tm e) tm ss
row_tells tm (rows.Start t due) ss apart f fits l = (new_tells tm ss (blank t t None Active due) (record { absent = f; unprepared = refl; unchanged = refl }) l, tt)
row_tells tm (rows.Begin t s bid) ss apart f fits l =
    let b : Branch = blank t s (Some bid) Joining None in
    let m = new_tells tm ss b (record { absent = f; unprepared = refl; unchanged = refl }) l in
    (m, (same_tells (after_act (Notes b) tm) (after_act (Notes b) tm) ss refl refl m, tt))
row_tells tm (rows.Changed s) ss apart f fits l = changed_tells tm ss (find_serial s tm.table) (λ b e. find_serial-key s tm.table b e) l
row_tells tm (rows.Authorise t bid) ss apart f fits l = quiet_tells tm (rows.Authorise t bid) ss apart tt fits l
row_tells tm (rows.JoinRm s x) ss apart f fits l = quiet_tells tm (rows.JoinRm s x) ss apart tt fits l
row_tells tm (rows.EndTrans t) ss apart f fits l = quiet_tells tm (rows.EndTrans t) ss apart tt fits l
row_tells tm (rows.EndBranch s) ss apart f fits l = quiet_tells tm (rows.EndBranch s) ss apart tt fits l
row_tells tm (rows.AbortBranch s why) ss apart f fits l = quiet_tells tm (rows.AbortBranch s why) ss apart tt fits l
row_tells tm (rows.Replied s x r) ss apart f fits l = quiet_tells tm (rows.Replied s x r) ss apart tt fits l
row_tells tm (rows.Got m) ss apart f fits l = quiet_tells tm (rows.Got m) ss apart tt fits l
row_tells tm (rows.Clock now) ss apart f fits l = quiet_tells tm (rows.Clock now) ss apart tt fits l
row_tells tm (rows.LinkDown x) ss apart f fits l = quiet_tells tm (rows.LinkDown x) ss apart tt fits l
row_tells tm rows.RunDown ss apart f fits l = quiet_tells tm rows.RunDown ss apart tt fits l
row_tells tm (rows.InquireBranch s) ss apart f fits l = quiet_tells tm (rows.InquireBranch s) ss apart tt fits l

quiet_size : (tm : Tm) (e : Event) → HasApartLog tm → BeginsNothing e → size (after (row tm e) tm) ≤ size tm
quiet_size tm e apart h =
    let d = parts_apart (branch_serials tm.table) (record_serials tm.records) apart in
    acts_size (row tm e) tm (rows_stand tm e (unique_of tm.table d.one) h)

no_more : (tm : Tm) (e : Event) → HasApartLog tm → BeginsNothing e → size (after (row tm e) tm) ≤ size tm + 0
no_more tm e apart h = let q = quiet_size tm e apart h in omega arith

pub row_size : (tm : Tm) (e : Event) → HasApartLog tm → size (after (row tm e) tm) ≤ size tm + branches_added e
row_size tm (rows.Start t due) apart = let h = length_put (blank t t None Active due) tm.table in omega arith
row_size tm (rows.Begin t s bid) apart = let h = length_put (blank t s (Some bid) Joining None) tm.table in omega arith
row_size tm (rows.Changed s) apart = let h = changed_size tm (find_serial s tm.table) (λ b e. find_serial-key s tm.table b e) in omega arith
row_size tm (rows.Authorise t bid) apart = no_more tm (rows.Authorise t bid) apart tt
row_size tm (rows.JoinRm s x) apart = no_more tm (rows.JoinRm s x) apart tt
row_size tm (rows.EndTrans t) apart = no_more tm (rows.EndTrans t) apart tt
row_size tm (rows.EndBranch s) apart = no_more tm (rows.EndBranch s) apart tt
row_size tm (rows.AbortBranch s why) apart = no_more tm (rows.AbortBranch s why) apart tt
row_size tm (rows.Replied s x r) apart = no_more tm (rows.Replied s x r) apart tt
row_size tm (rows.Got m) apart = no_more tm (rows.Got m) apart tt
row_size tm (rows.Clock now) apart = no_more tm (rows.Clock now) apart tt
row_size tm (rows.LinkDown x) apart = no_more tm (rows.LinkDown x) apart tt
row_size tm rows.RunDown apart = no_more tm rows.RunDown apart tt
row_size tm (rows.InquireBranch s) apart = no_more tm (rows.InquireBranch s) apart tt
