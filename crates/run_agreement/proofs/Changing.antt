-- What the protocol does not see, changes of records, changes without a label, and a fall.
use Rattle.std.specs.Prelude.{if◌then◌else◌, ◌&&◌, ◌+◌, option_map, length}
use Rattle.std.proofs.Common.{◌≡◌, ◌≤◌, ℕ, zero, suc, take, drop, Bool, true, false, List, [], ◌∷◌, ◌++◌, Option, Some, None, inl, inr, refl, ap, sym, subst, ◌∙◌}
use Rattle.std.proofs.lemmas.Bool.{both_ways, cases_Bool}
use Rattle.vms_model.specs.Ids.{Id}
use Rattle.vms_model.specs.Keys as keys
use Rattle.vms_model.specs.Transactions.{Commit as ToCommit}
use Rattle.run_model.specs.records_model.Records.{Change, Records}
use Rattle.run_model.specs.records_model.History.{same_id}
use Rattle.run_model.specs.unit_laws.Units.{has_changes}
use Rattle.run_model.specs.unit_laws.Journal.{RecoveryUnit, find_unit, units_in, entries_for}
use Rattle.run_model.specs.unit_laws.JournalLaws.{unit_or_new, with_more, HasEntered}
use Rattle.run_model.proofs.unit_laws.UnitLemmas.{changes_make_unit}
use Rattle.run_model.proofs.unit_laws.TrimLemmas.{trim_keeps_units}
use Rattle.commit_protocol.specs.Messages.{Name}
use Rattle.commit_protocol.specs.Table as table
use Rattle.commit_protocol.specs.Table.{Key, Branch, State, Joining, Active, Ending, Voting, Prepared, Notes, first, child, same_key, find, find_serial, put, branch_serials, record_serials}
use Rattle.commit_protocol.specs.Rows as rows
use Rattle.commit_protocol.specs.Rows.{Event, row, has_changed, note_state, note_row}
use Rattle.commit_protocol.specs.Allowed.{is_active, is_working, is_prepared, there_is}
use Rattle.commit_protocol.specs.World as protocol
use Rattle.commit_protocol.specs.World.{In, Step, Does, Stops, Crash, At, DirectChange, happens, done, stopped, plan, commits_alone, crashes, acts_all, draws}
use Rattle.commit_protocol.specs.Opening.{Opening}
use Rattle.commit_protocol.proofs.Lists.{told_id, told_key, same_key-refl, find-put, find-put_other, find_serial-key}
use Rattle.commit_protocol.proofs.Serials.{parts_apart, apart_distinct, act_apart}
use Rattle.commit_protocol.proofs.Bridge.{node_same, node_other}
use Rattle.run_model.specs.log_laws.Slots.{size}
use Rattle.run_model.proofs.log_laws.RowSlots.{changed_tells}
use Rattle.run_model.specs.World as world
use Rattle.run_model.specs.World.{Act, Creates, Mark, Marks, Saves, Recovers, Changes, Holds, Directs, Arms, Clocks, Declares, Falls, Node, Shared, File, Settlement, acted, shared_after, is_durable, fallen, tm_of, find_branch, with_changed}
use Rattle.run_model.specs.Answers.{Row, unit_key}
use Rattle.run_model.specs.Steps as steps
use Rattle.run_model.specs.Steps.{node_after_rows, shared_after_rows, shared_then, if_durable, act_begun}
use Rattle.run_agreement.specs.Seen.{Face, IsTold, IsLeft, ArePrepared, IsBegun, raw, landed, outcome_of, has_volume}
use Rattle.run_model.specs.transcript_model.Lines.{Line}
use Rattle.run_agreement.specs.Following.{Faces, Follows}
use Rattle.run_agreement.proofs.Found.{some_is}
use Rattle.run_agreement.proofs.Faces.{put_face, put_here, follows_same, follows_crash, follows_settles}
use Rattle.run_agreement.proofs.Left.{told_left}
use Rattle.run_agreement.proofs.Rows.{standing, lying, Keeps, keeps_itself, keeps_on, IsTable, Match, Fell, cut_node, acts_fallen, falls_back, fall_goes, act_is_begun, put_itself, put_on}
use Rattle.run_agreement.proofs.Units.{same_is, other_from, other_ids, IsActive, IsUnit}
use Rattle.run_agreement.proofs.Telling.{keys_alone, unit_active, active_unit, TellsLog, telling, same_told}
use Rattle.run_agreement.proofs.Events.{Arrives, RowsGo, IsUpAt, face_up, face_down, given_goes, done_is, stopped_is, alive_at, node_at, id_is}

-- Acts of which the protocol sees nothing.

pub record IsUnseen (act : Act) (x : Node) : Type 0 where
  pub raw : standing [] (acted act x) ≡ standing [] x
  pub shared : (s : Shared) → shared_after act s ≡ s
  pub told : IsTold [] x → IsTold [] (acted act x)
  pub keeps : Keeps x (acted act x)

again : (x y : Node) → IsTold [] x → (IsTold [] x → IsTold [] y) → IsTold [] y
again x y t f = f t

pub creates_unseen : (place : ℕ) (f : File) (x : Node) → IsUnseen (Creates place f) x
creates_unseen place f x = record {
  raw = refl;
  shared = λ s. refl;
  told = λ t. record { log = t.log; apart = t.apart; kinds = t.kinds; slots = t.slots; volume = t.volume; there = t.there; back = t.back; units = t.units };
  keeps = record { name = refl; volume = refl; up = refl; under_way = refl; slots = refl };
}

pub marks_unseen : (file : List ℕ) (mark : Mark) (x : Node) → IsUnseen (Marks file mark) x
marks_unseen file mark x = record {
  raw = refl;
  shared = λ s. refl;
  told = λ t. record { log = t.log; apart = t.apart; kinds = t.kinds; slots = t.slots; volume = t.volume; there = t.there; back = t.back; units = t.units };
  keeps = record { name = refl; volume = refl; up = refl; under_way = refl; slots = refl };
}

pub saves_unseen : (file : List ℕ) (start : ℕ) (x : Node) → IsUnseen (Saves file start) x
saves_unseen file start x = record {
  raw = refl;
  shared = λ s. refl;
  told = λ t. record { log = t.log; apart = t.apart; kinds = t.kinds; slots = t.slots; volume = t.volume; there = t.there; back = t.back; units = t.units };
  keeps = record { name = refl; volume = refl; up = refl; under_way = refl; slots = refl };
}

pub recovers_unseen : (file : List ℕ) (start buckets : ℕ) (m : Records) (x : Node) → IsUnseen (Recovers file start buckets m) x
recovers_unseen file start buckets m x = record {
  raw = refl;
  shared = λ s. refl;
  told = λ t. record { log = t.log; apart = t.apart; kinds = t.kinds; slots = t.slots; volume = t.volume; there = t.there; back = t.back; units = t.units };
  keeps = record { name = refl; volume = refl; up = refl; under_way = refl; slots = refl };
}

pub holds_unseen : (serial : Id) (file : List ℕ) (ks : List keys.Key) (x : Node) → IsUnseen (Holds serial file ks) x
holds_unseen serial file ks x = record {
  raw = refl;
  shared = λ s. refl;
  told = λ t. record { log = t.log; apart = t.apart; kinds = t.kinds; slots = t.slots; volume = t.volume; there = t.there; back = t.back; units = t.units };
  keeps = record { name = refl; volume = refl; up = refl; under_way = refl; slots = refl };
}

pub arms_unseen : (writes choice : ℕ) (x : Node) → IsUnseen (Arms writes choice) x
arms_unseen writes choice x = record {
  raw = refl;
  shared = λ s. refl;
  told = λ t. record { log = t.log; apart = t.apart; kinds = t.kinds; slots = t.slots; volume = t.volume; there = t.there; back = t.back; units = t.units };
  keeps = record { name = refl; volume = refl; up = refl; under_way = refl; slots = refl };
}

pub clocks_unseen : (now : ℕ) (x : Node) → IsUnseen (Clocks now) x
clocks_unseen now x = record {
  raw = refl;
  shared = λ s. refl;
  told = λ t. record { log = t.log; apart = t.apart; kinds = t.kinds; slots = t.slots; volume = t.volume; there = t.there; back = t.back; units = t.units };
  keeps = record { name = refl; volume = refl; up = refl; under_way = refl; slots = refl };
}

pub declares_unseen : (rms : List Name) (x : Node) → IsUnseen (Declares rms) x
declares_unseen rms x = record {
  raw = refl;
  shared = λ s. refl;
  told = λ t. record { log = t.log; apart = t.apart; kinds = t.kinds; slots = t.slots; volume = t.volume; there = t.there; back = t.back; units = t.units };
  keeps = record { name = refl; volume = refl; up = refl; under_way = refl; slots = refl };
}

abbrev pub IsRowUnseen : Option Act → Node → Type 0
IsRowUnseen None x = Unit {0}
IsRowUnseen (Some act) x = IsUnseen act x

abbrev pub AreUnseen : List Row → Node → Type 0
AreUnseen [] x = Unit {0}
AreUnseen (r ∷ rs) x = IsRowUnseen r.act x × AreUnseen rs (steps.node_after r.act x)

-- what such rows leave
record Unseen (x z : Node) (s t : Shared) : Type 0 where
  raw : standing [] z ≡ standing [] x
  shared : t ≡ s
  told : IsTold [] x → IsTold [] z
  keeps : Keeps x z

one_unseen : (a : Option Act) (x : Node) (s : Shared) → IsRowUnseen a x → Unseen x (steps.node_after a x) s (shared_then a s)
one_unseen None x s u = record { raw = refl; shared = refl; told = λ t. t; keeps = keeps_itself x }
one_unseen (Some act) x s u = record { raw = u.raw; shared = u.shared s; told = u.told; keeps = u.keeps }

all_unseen : (rs : List Row) (x : Node) (s : Shared) → AreUnseen rs x → Unseen x (node_after_rows rs x) s (shared_after_rows rs s)
all_unseen [] x s u = record { raw = refl; shared = refl; told = λ t. t; keeps = keeps_itself x }
all_unseen (r ∷ rs) x s u =
    let y : Node = steps.node_after r.act x in
    let a = one_unseen r.act x s u.0 in
    let b = all_unseen rs y (shared_then r.act s) u.1 in
    record { raw = b.raw ∙ a.raw; shared = b.shared ∙ a.shared; told = λ t. b.told (a.told t); keeps = keeps_on x y (node_after_rows rs y) a.keeps b.keeps }

take_unseen : (j : ℕ) (rs : List Row) (x : Node) → AreUnseen rs x → AreUnseen (take j rs) x
take_unseen zero [] x u = tt
take_unseen zero (r ∷ rs) x u = tt
take_unseen (suc j) [] x u = tt
take_unseen (suc j) (r ∷ rs) x u = (u.0, take_unseen j rs (steps.node_after r.act x) u.1)

durable_unseen : (a : Option Act) (x : Node) → IsRowUnseen a x → IsRowUnseen (if_durable a) x
durable_unseen None x u = tt
durable_unseen (Some act) x u = go (is_durable act)
  where
    go : (b : Bool) → IsRowUnseen (if b then Some act else None) x
    go true = u
    go false = tt

begun_unseen : (j : ℕ) (begun : Bool) (rs : List Row) (x : Node) → AreUnseen rs x → IsRowUnseen (act_begun begun (drop j rs)) (node_after_rows (take j rs) x)
begun_unseen zero true [] x u = tt
begun_unseen zero false [] x u = tt
begun_unseen zero true (r ∷ rs) x u = durable_unseen r.act x u.0
begun_unseen zero false (r ∷ rs) x u = tt
begun_unseen (suc j) true [] x u = tt
begun_unseen (suc j) false [] x u = tt
begun_unseen (suc j) begun (r ∷ rs) x u = begun_unseen j begun rs (steps.node_after r.act x) u.1

-- a fall, with such an act under way or none
fall_unseen : (o : Opening) (n : Name) (b : Bool) (a : Option Act) (y : Node) (fs : Faces) (s : Shared) (p : protocol.World) → IsRowUnseen a y → IsBegun a → IsTold [] y → Follows o fs s p → fs n ≡ Some (standing [] y) → Fell o n b (fallen a y) s fs (crashes n p)
fall_unseen o n b None y fs s p u lasts t h found = fall_goes o n b [] y fs s p t h found
fall_unseen o n false (Some act) y fs s p u lasts t h found = falls_back o n false (Some act) [] y fs s p t h found refl lasts
fall_unseen o n true (Some act) y fs s p u lasts t h found =
    let z : Node = acted act y in
    let same = acts_fallen act (Some act) y in
    let P : Face → Type 0 = λ f. IsLeft z.durable (protocol.crashed f.node) in
    let Q : _ → Type 0 = λ d. IsLeft d (protocol.crashed (raw [] y)) in
    record {
      face = lying [] y;
      is = record { left = subst Q (sym same.0) (subst P u.raw (told_left [] z (u.told t))); settled = sym (same.1 ∙ ap (λ (f : Face). f.settled) u.raw); begun = lasts };
      follows = follows_crash o n (standing [] y) fs s p h found;
    }

pub unseen_goes : (o : Opening) (n : Name) (rs : List Row) (x : Node) (s : Shared) → AreUnseen rs x → RowsGo o n rs x s
unseen_goes o n rs x s u = record {
  whole = λ b fs p h.
      let a = all_unseen rs x s u in
      let z : Node = node_after_rows rs x in
      let P : Shared → Type 0 = λ t. Follows o (put_face n (standing [] x) fs) t p in
      let R : ℕ → Type 0 = λ m. size (tm_of x) ≤ m in
      let tm : tm_of z ≡ tm_of x = λ i. record { node = a.keeps.name i; table = (a.raw i).node.table; records = (a.raw i).node.records } in
      let S : table.Tm → Type 0 = λ t. size t ≤ length z.durable.log in
      record {
        steps = [];
        face = standing [] x;
        is = face_up b z (standing [] x) (a.keeps.up ∙ h.up) (record {
          node = ap (λ (f : Face). f.node) (sym a.raw);
          settled = ap (λ (f : Face). f.settled) (sym a.raw);
          told = a.told h.told;
          room = subst S (sym tm) (subst R (sym a.keeps.slots) h.room);
          quiet = a.keeps.under_way ∙ h.quiet;
        });
        follows = subst P (sym a.shared) (follows_same o fs (put_face n (standing [] x) fs) s p (put_itself n (standing [] x) fs h.found) h.follows);
        named = a.keeps.name ∙ h.named;
        volume = a.keeps.volume ∙ h.volume;
      };
  cut = λ j begun b fs p h.
      let v = take_unseen j rs x u in
      let a = all_unseen (take j rs) x s v in
      let y : Node = node_after_rows (take j rs) x in
      let found : fs n ≡ Some (standing [] y) = h.found ∙ ap (λ (f : Face). Some f) (sym a.raw) in
      let P : Shared → Type 0 = λ t. Follows o fs t p in
      let f = fall_unseen o n b (act_begun begun (drop j rs)) y fs (shared_after_rows (take j rs) s) p (begun_unseen j begun rs x u) (act_is_begun begun (drop j rs)) (a.told h.told) (subst P (sym a.shared) h.follows) found in
      record { steps = Crash n ∷ []; face = f.face; is = face_down b (cut_node rs j begun x) f.face refl f.is; follows = f.follows; named = a.keeps.name ∙ h.named; volume = a.keeps.volume ∙ h.volume };
}

-- a crash
pub crash_goes : (o : Opening) (n : Name) (b : Bool) (x : Node) (s : Shared) (fs : Faces) (p : protocol.World) → IsUpAt o n x s fs p → Arrives o n b (acted Falls x) s fs p
crash_goes o n b x s fs p h =
    let f = fall_goes o n b [] x fs s p h.told h.follows h.found in
    let z : Node = acted Falls x in
    let same : z ≡ fallen None x = λ i. record x { up = false; under_way = h.quiet i } in
    let P : Node → Type 0 = λ y. Arrives o n b y s fs p in
    subst P (sym same) (record { steps = Crash n ∷ []; face = f.face; is = face_down b (fallen None x) f.face refl f.is; follows = f.follows; named = h.named; volume = h.volume })

-- Changes of a branch.

pub branch_serial : (serial : Id) (bs : List Branch) (b : Branch) → find_branch serial bs ≡ Some b → b.key.serial ≡ serial
branch_serial serial [] b e = absurd (let f : ⊥ = cc in f)
branch_serial serial (y ∷ ys) b e = go (same_id serial y.key.serial) refl e (branch_serial serial ys b)
  where
    go : (c : Bool) → same_id serial y.key.serial ≡ c → (let o : Option Branch = if c then Some y else find_branch serial ys in o) ≡ Some b → (find_branch serial ys ≡ Some b → b.key.serial ≡ serial) → b.key.serial ≡ serial
    go true is k more = ap (λ (z : Branch). z.key.serial) (sym (some_is y b k)) ∙ sym (same_is serial y.key.serial is)
    go false is k more = more k

pub branch_found : (serial : Id) (bs : List Branch) (b : Branch) → find_branch serial bs ≡ Some b → find_serial serial bs ≡ Some b
branch_found serial [] b e = absurd (let f : ⊥ = cc in f)
branch_found serial (y ∷ ys) b e = go (same_id serial y.key.serial) refl e (branch_found serial ys b)
  where
    go : (c : Bool) → same_id serial y.key.serial ≡ c → (let o : Option Branch = if c then Some y else find_branch serial ys in o) ≡ Some b → (find_branch serial ys ≡ Some b → find_serial serial ys ≡ Some b) → find_serial serial (y ∷ ys) ≡ Some b
    go true is k more = elim (told_id y.key.serial serial) [
      | inl q ↦ rw (q.0) k
      | inr q ↦ absurd (q.1 (sym (same_is serial y.key.serial is)))
    ]
    go false is k more = elim (told_id y.key.serial serial) [
      | inl q ↦ absurd (other_ids serial y.key.serial is (sym q.1))
      | inr q ↦ rw (q.0) (more k)
    ]

changed_put : (serial : Id) (bs : List Branch) (b : Branch) → find_branch serial bs ≡ Some b → with_changed serial bs ≡ put (has_changed b) bs
changed_put serial [] b e = absurd (let f : ⊥ = cc in f)
changed_put serial (y ∷ ys) b e = go (same_id serial y.key.serial) refl e (changed_put serial ys b)
  where
    go : (c : Bool) → same_id serial y.key.serial ≡ c → (let o : Option Branch = if c then Some y else find_branch serial ys in o) ≡ Some b → (find_branch serial ys ≡ Some b → with_changed serial ys ≡ put (has_changed b) ys)
        → (let o : List Branch = if c then record y { changed = true } ∷ ys else y ∷ with_changed serial ys in o) ≡ put (has_changed b) (y ∷ ys)
    go true is k more =
        let same : y ≡ b = some_is y b k in
        let here : same_key y.key b.key ≡ true = (let P : Branch → Type 0 = λ z. same_key y.key z.key ≡ true in subst P same (same_key-refl y.key)) in
        rw here (ap (λ (z : Branch). has_changed z ∷ ys) same)
    go false is k more = elim (told_key y.key b.key) [
      | inl q ↦ absurd (other_ids serial y.key.serial is (sym (ap (λ (z : Key). z.serial) q.1 ∙ branch_serial serial ys b k)))
      | inr q ↦ rw (q.0) (ap (λ zs. y ∷ zs) (more k))
    ]

-- a branch that works is active
active_of : (b : Branch) → is_working b ≡ true → is_active b.state ≡ true
active_of b e = left (is_active b.state) _ e
  where
    left : (c d : Bool) → (c && d) ≡ true → c ≡ true
    left true d h = refl
    left false d h = h

pub unit_serial : (serial : Id) (us : List RecoveryUnit) (u : RecoveryUnit) → find_unit serial us ≡ Some u → u.serial ≡ serial
unit_serial serial [] u e = absurd (let f : ⊥ = cc in f)
unit_serial serial (v ∷ us) u e = go (same_id serial v.serial) refl e (unit_serial serial us u)
  where
    go : (c : Bool) → same_id serial v.serial ≡ c → (let o : Option RecoveryUnit = if c then Some v else find_unit serial us in o) ≡ Some u → (find_unit serial us ≡ Some u → u.serial ≡ serial) → u.serial ≡ serial
    go true is k more = ap (λ (z : RecoveryUnit). z.serial) (sym (some_is v u k)) ∙ sym (same_is serial v.serial is)
    go false is k more = more k

-- a branch that changes something, and is not prepared
pub record Working (x : Node) (b : Branch) : Type 0 where
  pub found : find_branch b.key.serial x.volatile.branches ≡ Some b
  pub working : is_working b ≡ true

here_of : (x : Node) (b : Branch) → Working x b → find b.key x.volatile.branches ≡ Some b
here_of x b w = find_serial-key b.key.serial x.volatile.branches b (branch_found b.key.serial x.volatile.branches b w.found)

active_state : (s : State) → is_active s ≡ true → s ≡ Active
active_state Active e = refl
active_state Joining e = absurd (let f : false ≡ true = e in cc)
active_state Ending e = absurd (let f : false ≡ true = e in cc)
active_state Voting e = absurd (let f : false ≡ true = e in cc)
active_state Prepared e = absurd (let f : false ≡ true = e in cc)

state_of : (x : Node) (b : Branch) → Working x b → b.state ≡ Active
state_of x b w = active_state b.state (active_of b w.working)

open_of : (x : Node) (b : Branch) → Working x b → is_prepared b.state ≡ false
open_of x b w = ap is_prepared (state_of x b w)

-- its unit, or the one that it makes
own_unit : (x : Node) (b : Branch) → IsTold [] x → Working x b → (o : Option RecoveryUnit) → find_unit b.key.serial (units_in x.durable.units.entries) ≡ o → ((unit_or_new b.key.tid b.key.serial o).prepared ≡ false) × (unit_key (unit_or_new b.key.tid b.key.serial o) ≡ b.key)
own_unit x b t w None e = (refl, refl)
own_unit x b t w (Some u) e = go u.prepared refl
  where
    go : (c : Bool) → u.prepared ≡ c → (u.prepared ≡ false) × (unit_key u ≡ b.key)
    go true is =
        let d = t.units b.key.serial u e is in
        let bs : List Branch = x.volatile.branches in
        let apart = (parts_apart (branch_serials bs) (record_serials x.volatile.records) t.apart).one in
        let same : d.0.key ≡ b.key = keys_alone bs d.0.key b.key apart (d.0, d.1) (b, here_of x b w) d.2 in
        let P : Key → Type 0 = λ k. find k bs ≡ Some d.0 in
        let one : d.0 ≡ b = some_is d.0 b (sym (subst P same d.1) ∙ here_of x b w) in
        absurd (both_ways (is_prepared b.state) (open_of x b w) (ap (λ (y : Branch). is_prepared y.state) (sym one) ∙ ap is_prepared d.3))
    go false is =
        let bs : List Branch = x.volatile.branches in
        let apart = (parts_apart (branch_serials bs) (record_serials x.volatile.records) t.apart).one in
        let serial : u.serial ≡ b.key.serial = unit_serial b.key.serial (units_in x.durable.units.entries) u e in
        let P : Id → Type 0 = λ s. find_unit s (units_in x.durable.units.entries) ≡ Some u in
        let a : IsActive (units_in x.durable.units.entries) (unit_key u) = record { unit = u; found = subst P (sym serial) e; unprepared = is; key = refl } in
        let d = active_unit x t (unit_key u) a in
        (is, keys_alone bs (unit_key u) b.key apart (d.branch, d.found) (b, here_of x b w) serial)

changes_told : (x : Node) (b : Branch) (file : List ℕ) (cs : List Change) (ks : List keys.Key) → has_changes cs ≡ true → IsTold [] x → Working x b → IsTold [] (acted (Changes b.key.tid b.key.serial file cs ks) x)
changes_told x b file cs ks some t w = telling (acted (Changes b.key.tid b.key.serial file cs ks) x) log there back units
  where
    bs : List Branch
    bs = x.volatile.branches

    us : List RecoveryUnit
    us = units_in x.durable.units.entries

    new : List RecoveryUnit
    new = units_in (x.durable.units.entries ++ entries_for b.key.tid b.key.serial file cs)

    put_is : with_changed b.key.serial x.volatile.branches ≡ put (has_changed b) x.volatile.branches
    put_is = changed_put b.key.serial x.volatile.branches b w.found

    entered : HasEntered b.key.tid b.key.serial (length cs) (units_in x.durable.units.entries) (units_in (x.durable.units.entries ++ entries_for b.key.tid b.key.serial file cs))
    entered = changes_make_unit b.key.tid b.key.serial file cs x.durable.units.entries some

    v : RecoveryUnit
    v = unit_or_new b.key.tid b.key.serial (find_unit b.key.serial (units_in x.durable.units.entries))

    own : ((unit_or_new b.key.tid b.key.serial (find_unit b.key.serial (units_in x.durable.units.entries))).prepared ≡ false) × (unit_key (unit_or_new b.key.tid b.key.serial (find_unit b.key.serial (units_in x.durable.units.entries))) ≡ b.key)
    own = own_unit x b t w (find_unit b.key.serial (units_in x.durable.units.entries)) refl

    alone : (k : Key) (d : Branch) → find k x.volatile.branches ≡ Some d → k.serial ≡ b.key.serial → k ≡ b.key
    alone k d f e = keys_alone x.volatile.branches k b.key (parts_apart (branch_serials x.volatile.branches) (record_serials x.volatile.records) t.apart).one (d, f) (b, here_of x b w) e

    active_own : IsActive (units_in (x.durable.units.entries ++ entries_for b.key.tid b.key.serial file cs)) b.key
    active_own = record { unit = with_more (length cs) (unit_or_new b.key.tid b.key.serial (find_unit b.key.serial (units_in x.durable.units.entries))); found = entered.own; unprepared = own.0; key = own.1 }

    tm_is : tm_of (acted (Changes b.key.tid b.key.serial file cs ks) x) ≡ table.after_act (Notes (has_changed b)) (tm_of x)
    tm_is = ap (λ (ys : List Branch). (let m : table.Tm = record { node = x.name; table = ys; records = x.volatile.records } in m)) put_is

    log : TellsLog (acted (Changes b.key.tid b.key.serial file cs ks) x)
    log =
        let e : rows.row (tm_of x) (rows.Changed b.key.serial) ≡ Notes (has_changed b) ∷ [] = ap (note_row has_changed) (branch_found b.key.serial x.volatile.branches b w.found) ∙ ap (note_state has_changed b) (state_of x b w) in
        let P : List table.Act → Type 0 = λ acts. Rattle.run_model.specs.log_laws.Slots.AllTell acts (tm_of x) x.durable.log in
        let l = subst P e (changed_tells (tm_of x) x.durable.log (find_serial b.key.serial x.volatile.branches) (λ d f. find_serial-key b.key.serial x.volatile.branches d f) t.log) in
        let Q : table.Tm → Type 0 = λ m. Rattle.run_model.specs.log_laws.Slots.LogTells m x.durable.log in
        let R : table.Tm → Type 0 = λ m. Rattle.commit_protocol.specs.Standing.HasApartLog m in
        let z : protocol.Node = raw [] x in
        let a = (act_apart z (Notes (has_changed b)) (parts_apart (branch_serials x.volatile.branches) (record_serials x.volatile.records) t.apart) (b, here_of x b w)).log in
        record {
          log = subst Q (sym tm_is) l.0;
          apart = subst R (sym tm_is) (apart_distinct (branch_serials (put (has_changed b) x.volatile.branches)) (record_serials x.volatile.records) a);
          kinds = t.kinds;
          slots = t.slots;
          volume = t.volume;
        }

    there : (k : Key) → IsUnit (with_changed b.key.serial x.volatile.branches) k → IsActive (units_in (x.durable.units.entries ++ entries_for b.key.tid b.key.serial file cs)) k
    there k u = (let P : List Branch → Type 0 = λ ys. IsUnit ys k in go (subst P put_is u))
      where
        go : IsUnit (put (has_changed b) x.volatile.branches) k → IsActive (units_in (x.durable.units.entries ++ entries_for b.key.tid b.key.serial file cs)) k
        go d = elim (told_key b.key k) [
          | inl q ↦ (let Q : Key → Type 0 = λ i. IsActive (units_in (x.durable.units.entries ++ entries_for b.key.tid b.key.serial file cs)) i in subst Q q.1 active_own)
          | inr q ↦
              let f : find k x.volatile.branches ≡ Some d.branch = sym (find-put_other k (has_changed b) x.volatile.branches q.1) ∙ d.found in
              let a = unit_active x t k (record { branch = d.branch; found = f; unprepared = d.unprepared; changed = d.changed }) in
              let apart : same_id k.serial b.key.serial ≡ false = other_from k.serial b.key.serial (λ e. q.1 (sym (alone k d.branch f e))) in
              record { unit = a.unit; found = entered.others k.serial apart ∙ a.found; unprepared = a.unprepared; key = a.key }
        ]

    back : (k : Key) → IsActive (units_in (x.durable.units.entries ++ entries_for b.key.tid b.key.serial file cs)) k → IsUnit (with_changed b.key.serial x.volatile.branches) k
    back k a = (let P : List Branch → Type 0 = λ ys. IsUnit ys k in subst P (sym put_is) (elim (cases_Bool (same_id k.serial b.key.serial)) [
      | inl q ↦
          let Q : Id → Type 0 = λ s. find_unit s (units_in (x.durable.units.entries ++ entries_for b.key.tid b.key.serial file cs)) ≡ Some a.unit in
          let same : with_more (length cs) (unit_or_new b.key.tid b.key.serial (find_unit b.key.serial (units_in x.durable.units.entries))) ≡ a.unit = some_is (with_more (length cs) (unit_or_new b.key.tid b.key.serial (find_unit b.key.serial (units_in x.durable.units.entries)))) a.unit (sym entered.own ∙ subst Q (same_is k.serial b.key.serial q) a.found) in
          let key : b.key ≡ k = sym own.1 ∙ (ap unit_key same ∙ a.key) in
          let R : Key → Type 0 = λ i. IsUnit (put (has_changed b) x.volatile.branches) i in
          subst R key (record { branch = has_changed b; found = find-put (has_changed b) x.volatile.branches; unprepared = open_of x b w; changed = refl })
      | inr q ↦
          let d = active_unit x t k (record { unit = a.unit; found = sym (entered.others k.serial q) ∙ a.found; unprepared = a.unprepared; key = a.key }) in
          record { branch = d.branch; found = find-put_other k (has_changed b) x.volatile.branches (λ e. other_ids k.serial b.key.serial q (ap (λ (i : Key). i.serial) (sym e))) ∙ d.found; unprepared = d.unprepared; changed = d.changed }
    ]))

    units : ArePrepared (with_changed b.key.serial x.volatile.branches) (acted (Changes b.key.tid b.key.serial file cs ks) x).durable
    units s u e p = (let P : List Branch → Type 0 = λ ys. (d : Branch) × (find d.key ys ≡ Some d) × (d.key.serial ≡ s) × (d.state ≡ Prepared) in subst P (sym put_is) (elim (cases_Bool (same_id s b.key.serial)) [
      | inl q ↦
          let Q : Id → Type 0 = λ i. find_unit i (units_in (x.durable.units.entries ++ entries_for b.key.tid b.key.serial file cs)) ≡ Some u in
          let same : with_more (length cs) (unit_or_new b.key.tid b.key.serial (find_unit b.key.serial (units_in x.durable.units.entries))) ≡ u = some_is (with_more (length cs) (unit_or_new b.key.tid b.key.serial (find_unit b.key.serial (units_in x.durable.units.entries)))) u (sym entered.own ∙ subst Q (same_is s b.key.serial q) e) in
          absurd (both_ways u.prepared (sym (ap (λ (z : RecoveryUnit). z.prepared) same) ∙ own.0) p)
      | inr q ↦
          let d = t.units s u (sym (entered.others s q) ∙ e) p in
          (d.0, find-put_other d.0.key (has_changed b) x.volatile.branches (λ k. other_ids s b.key.serial q (sym d.2 ∙ ap (λ (i : Key). i.serial) (sym k))) ∙ d.1, d.2, d.3)
    ]))

-- a change of records is the note of it
changes_table : (x : Node) (b : Branch) (file : List ℕ) (cs : List Change) (ks : List keys.Key) → Working x b → IsTable (Changes b.key.tid b.key.serial file cs ks) (Notes (has_changed b)) x
changes_table x b file cs ks w = record {
  moment = 0;
  after = λ lost i. record { up = true; boot = x.durable.boot; seq = x.volatile.drawn; table = changed_put b.key.serial x.volatile.branches b w.found i; records = x.volatile.records; lost = lost; last = option_map outcome_of x.durable.last };
  settled = refl;
  shared = λ s. refl;
  alone = λ h s. refl;
  keeps = record { name = refl; volume = refl; up = refl; under_way = refl; slots = refl };
}

pub changes_go : (o : Opening) (n : Name) (x : Node) (s : Shared) (b : Branch) (file : List ℕ) (c : Change) (cs : List Change) (ks : List keys.Key) → Working x b
    → RowsGo o n (record { act = Some (Changes b.key.tid b.key.serial file (c ∷ cs) ks); lines = [] } ∷ []) x s
changes_go o n x s b file c cs ks w =
    let act : Act = Changes b.key.tid b.key.serial file (c ∷ cs) ks in
    let r : Row = record { act = Some act; lines = [] } in
    let found = branch_found b.key.serial x.volatile.branches b w.found in
    let e : rows.row (tm_of x) (rows.Changed b.key.serial) ≡ Notes (has_changed b) ∷ [] = ap (note_row has_changed) found ∙ ap (note_state has_changed b) (state_of x b w) in
    let P : List table.Act → Type 0 = λ acts. Match (r ∷ []) acts [] x in
    given_goes o n (rows.Changed b.key.serial) (r ∷ []) x s refl (ap (λ d. there_is d is_working) found ∙ w.working) refl
    (λ fs p h. subst P (sym e) (act, refl, changes_table x b file (c ∷ cs) ks w, changes_told x b file (c ∷ cs) ks refl h.told w, tt))

-- Changes without a label.

direct_told : (x : Node) (file : List ℕ) (cs : List Change) (t : Settlement) → IsTold [] x → IsTold [] (acted (Directs file cs t) x)
direct_told x file cs t h = same_told x (acted (Directs file cs t) x) h (record { log = h.log; apart = h.apart; kinds = h.kinds; slots = h.slots; volume = h.volume }) (trim_keeps_units x.durable.units).units refl (λ b e p. e)

direct_base : (o : Opening) (n : Name) (x : Node) (s : Shared) (file : List ℕ) (cs : List Change) (t : Settlement) (fs : Faces) (p : protocol.World) → IsUpAt o n x s fs p → outcome_of t ≡ (first (world.next_id x), ToCommit)
    → Follows o (put_face n (standing [] (acted (Directs file cs t) x)) fs) s (commits_alone n p)
direct_base o n x s file cs t fs p h is =
    let y : Node = acted (Directs file cs t) x in
    let q : protocol.World = commits_alone n p in
    let id = id_is o n x s fs p h in
    let node = node_at o n x s fs p h in
    let out : (first (protocol.next_id p n), ToCommit) ≡ outcome_of t = ap (λ i. (first i, ToCommit)) id ∙ sym is in
    let new : protocol.Node = record (p.nodes n) { seq = (p.nodes n).seq + 1; last = Some (first (protocol.next_id p n), ToCommit) } in
    let here : q.nodes n ≡ raw [] y = node_same n new p.nodes
    ∙ (λ i. record { up = (node i).up; boot = (node i).boot; seq = (node i).seq + 1; table = (node i).table; records = (node i).records; lost = (node i).lost; last = Some (out i) }) in
    follows_settles o n (standing [] y) (standing [] x) t fs s p q h.follows h.found refl here (λ m ne. node_other n new p.nodes m ne) refl refl refl refl refl (ap (λ z. z ∷ p.settled) out)

pub direct_goes : (o : Opening) (n : Name) (x : Node) (s : Shared) (file : List ℕ) (c : Change) (cs : List Change) (t : Settlement) (lines : List Line) → outcome_of t ≡ (first (world.next_id x), ToCommit)
    → RowsGo o n (record { act = Some (Directs file (c ∷ cs) t); lines = lines } ∷ []) x s
direct_goes o n x s file c cs t lines is = record { whole = whole; cut = cut }
  where
    y : Node
    y = acted (Directs file (c ∷ cs) t) x

    row_of : Row
    row_of = record { act = Some (Directs file (c ∷ cs) t); lines = lines }

    f1 : Face
    f1 = standing [] (acted (Directs file (c ∷ cs) t) x)

    whole : (b : Bool) (fs : Faces) (p : protocol.World) → IsUpAt o n x s fs p → Arrives o n b (acted (Directs file (c ∷ cs) t) x) s fs p
    whole b fs p h =
        let P : protocol.World → Type 0 = λ q. Follows o (put_face n (standing [] (acted (Directs file (c ∷ cs) t) x)) fs) s q in
        let e : happens p (Does (At n DirectChange)) ≡ commits_alone n p = done_is p (commits_alone n p) n [] (alive_at o n x s fs p h) in
        record {
          steps = Does (At n DirectChange) ∷ [];
          face = standing [] (acted (Directs file (c ∷ cs) t) x);
          is = face_up b (acted (Directs file (c ∷ cs) t) x) (standing [] (acted (Directs file (c ∷ cs) t) x)) h.up (record { node = refl; settled = refl; told = direct_told x file (c ∷ cs) t h.told; room = h.room; quiet = h.quiet });
          follows = subst P (sym e) (direct_base o n x s file (c ∷ cs) t fs p h is);
          named = h.named;
          volume = h.volume;
        }

    -- the node falls once it is done
    fell : (b : Bool) (z : Node) (fs : Faces) (p : protocol.World) → IsUpAt o n x s fs p → z.up ≡ false → z.name ≡ x.name → has_volume z ≡ has_volume x → Fell o n b z s (put_face n (standing [] (acted (Directs file (c ∷ cs) t) x)) fs) (crashes n (commits_alone n p)) → Arrives o n b z s fs p
    fell b z fs p h down name volume f =
        let e : happens p (Stops 0 (At n DirectChange)) ≡ crashes n (commits_alone n p) = stopped_is p (commits_alone n p) n 0 [] (alive_at o n x s fs p h) in
        let P : protocol.World → Type 0 = λ q. Follows o (put_face n f.face fs) s q in
        record {
          steps = Stops 0 (At n DirectChange) ∷ [];
          face = f.face;
          is = face_down b z f.face down f.is;
          follows = subst P (sym e) (put_on o n (standing [] (acted (Directs file (c ∷ cs) t) x)) f.face fs s (crashes n (commits_alone n p)) f.follows);
          named = name ∙ h.named;
          volume = volume ∙ h.volume;
        }

    after : (b : Bool) (fs : Faces) (p : protocol.World) → IsUpAt o n x s fs p → Arrives o n b (fallen None (acted (Directs file (c ∷ cs) t) x)) s fs p
    after b fs p h = fell b (fallen None (acted (Directs file (c ∷ cs) t) x)) fs p h refl refl refl
        (fall_goes o n b [] (acted (Directs file (c ∷ cs) t) x) (put_face n (standing [] (acted (Directs file (c ∷ cs) t) x)) fs) s (commits_alone n p) (direct_told x file (c ∷ cs) t h.told) (direct_base o n x s file (c ∷ cs) t fs p h is) (put_here n (standing [] (acted (Directs file (c ∷ cs) t) x)) fs))

    before : (b : Bool) (u : Option Act) (fs : Faces) (p : protocol.World) → IsUpAt o n x s fs p → landed b (fallen u x) ≡ fallen u x → IsBegun u → Arrives o n b (fallen u x) s fs p
    before b u fs p h none lasts =
        let f = falls_back o n b u [] x fs s p h.told h.follows h.found none lasts in
        record { steps = Crash n ∷ []; face = f.face; is = face_down b (fallen u x) f.face refl f.is; follows = f.follows; named = h.named; volume = h.volume }

    none_lands : (b : Bool) → landed b (fallen None x) ≡ fallen None x
    none_lands true = refl
    none_lands false = refl

    cut : (j : ℕ) (begun b : Bool) (fs : Faces) (p : protocol.World) → IsUpAt o n x s fs p
        → Arrives o n b (cut_node (record { act = Some (Directs file (c ∷ cs) t); lines = lines } ∷ []) j begun x) (shared_after_rows (take j (record { act = Some (Directs file (c ∷ cs) t); lines = lines } ∷ [])) s) fs p
    cut zero false b fs p h = before b None fs p h (none_lands b) tt
    cut zero true false fs p h = before false (Some (Directs file (c ∷ cs) t)) fs p h refl refl
    cut zero true true fs p h =
        let z : Node = acted (Directs file (c ∷ cs) t) x in
        let told = direct_told x file (c ∷ cs) t h.told in
        let fs1 : Faces = put_face n (standing [] z) fs in
        fell true (fallen (Some (Directs file (c ∷ cs) t)) x) fs p h refl refl refl (record {
          face = lying [] z;
          is = record { left = told_left [] z told; settled = refl; begun = refl };
          follows = follows_crash o n (standing [] z) fs1 s (commits_alone n p) (direct_base o n x s file (c ∷ cs) t fs p h is) (put_here n (standing [] z) fs);
        })
    cut (suc zero) true b fs p h = after b fs p h
    cut (suc zero) false b fs p h = after b fs p h
    cut (suc (suc j)) true b fs p h = after b fs p h
    cut (suc (suc j)) false b fs p h = after b fs p h
