-- Units that come back, entry by entry and unit by unit.
use Rattle.std.proofs.Common.{◌≡◌, ℕ, ◌-◌, ◌<◌, ◌≤◌, true, Bool, List, [], ◌∷◌, ◌++◌, Option, Some, None, Result, Ok, Err, OnOk, length, take, drop, get_or, refl, sym, ap, subst, ◌∙◌, arith, append-nil, append_assoc, get_or-set_same}
use Rattle.std.specs.Prelude.{IfSome}
use Rattle.std.specs.List.{AllByRecursion}
use Rattle.std.proofs.lemmas.Bool.Decides.{nat_tests}
use Rattle.std.proofs.lemmas.List.{take_all}
use Rattle.unit_entries.specs.commit_protocol.Messages.{LogRecord}
use Rattle.file_base.specs.declared.head.FileHead.{FileHead}
use Rattle.journal_format.specs.Heads.{entry_of}
use Rattle.journal_format.specs.declared.head.EntryHead.{EntryHead}
use Rattle.journal_model.specs.Entries.{Entry, is_key}
use Rattle.journal_store.specs.Reading.{ReadsAt}
use Rattle.record_locks.specs.Locks.{Lock, LockTable, with_locks}
use Rattle.unit_entries.specs.Collecting.{AreChangesAt}
use Rattle.unit_entries.proofs.StoreLemmas.{of_any, of_both}
use Rattle.unit_table.specs.Units.{OpenUnit, Units, begun, first_that, is_of, new_unit, no_files, prepared_unit, unit_at, unit_back, with_begun, with_unit, without_first}
use Rattle.vms_model.specs.Ids.{Id}
use Rattle.volume.specs.Catalogs.{head_at}
use Rattle.volume.specs.State.{SameVolume, VolumeState}
use Rattle.unit_returns.specs.Locking.{Holds, keys_left, relocked_by}
use Rattle.unit_returns.specs.Returning.{AreAllChangesAt, AreTakenUp, HoldChanges, HoldsKeys, IsLeftOf, IsTakenUp, StayFew, TakeChanges, relocked}
use Rattle.unit_returns.proofs.Locks.{relocked_longer}

pub if_some : {T : Type 0} (o : Option T) {P : T → Type 0} → ((x : T) → o ≡ Some x → P x) → IfSome o P
if_some None f = tt
if_some (Some x) f = f x refl

-- a list from its first on
pub split : {X : Type 0} (xs : List X) (x : X) → 1 ≤ length xs → x ≡ get_or xs 0 x → xs ≡ x ∷ take (length xs - 1) (drop 1 xs)
split [] x some at = absurd (omega (arith, some))
split (y ∷ xs) x some at = let same : length (y ∷ xs) - 1 ≡ length xs = omega arith in
    ap (λ z. z ∷ xs) (sym at) ∙ ap (λ zs. x ∷ zs) (sym (take_all (length xs) xs (omega arith)) ∙ ap (λ (n : ℕ). take n xs) (sym same))

pub shorter : {X : Type 0} (xs : List X) → 1 ≤ length xs → length (take (length xs - 1) (drop 1 xs)) < length xs
shorter [] some = absurd (omega (arith, some))
shorter (y ∷ xs) some = let same : length (y ∷ xs) - 1 ≡ length xs = omega arith in
    let whole : length (take (length (y ∷ xs) - 1) xs) ≡ length xs = ap (λ (n : ℕ). length (take n xs)) same ∙ ap length (take_all (length xs) xs (omega arith)) in omega (arith, whole)

pub none_there : {X : Type 0} (xs : List X) → length xs < 1 → xs ≡ []
none_there [] few = refl
none_there (x ∷ xs) few = absurd (omega (arith, few))

pub rest_all : {X : Type 0} (P : X → Type 0) (xs : List X) → 1 ≤ length xs → AllByRecursion P xs → AllByRecursion P (take (length xs - 1) (drop 1 xs))
rest_all P [] some all = absurd (omega (arith, some))
rest_all P (x ∷ xs) some all = let same : length (x ∷ xs) - 1 ≡ length xs = omega arith in subst (AllByRecursion P) (sym (ap (λ (n : ℕ). take n xs) same ∙ take_all (length xs) xs (omega arith))) all.1

pub all_push : {X : Type 0} (P : X → Type 0) (xs : List X) (x : X) → AllByRecursion P xs → P x → AllByRecursion P (xs ++ x ∷ [])
all_push P [] x all is = (is, tt)
all_push P (y ∷ xs) x all is = (all.0, all_push P xs x all.1 is)

pub if_ok : {T E : Type 0} (r : Result T E) {P Q : Type 0} → OnOk r P → (P → Q) → OnOk r Q
if_ok (Ok x) h f = f h
if_ok (Err e) h f = tt

pub unit_there : (s t : Units) (p : ℕ) (w : OpenUnit) → p < length s.places → t ≡ with_unit p w s → unit_at t.places p ≡ Some w
unit_there s t p w below is = ap (λ (x : Units). unit_at x.places p) is ∙ get_or-set_same s.places p (Some w) None below

-- The entries of a unit.

keys_same : (o : Option FileHead) (h : EntryHead) (image : List ℕ) → keys_left o (entry_of h []) ≡ keys_left o (entry_of h image)
keys_same None h image = refl
keys_same (Some x) h image = refl

has_key : (kind size : ℕ) → kind ≡ 1 → is_key kind size ≡ true → 1 ≤ size
has_key kind size is key = grind (arith, nat_tests)

pub held_nothing : (v : VolumeState) (by : Id) (ls : LockTable) → HoldsKeys v [] by ls ls
held_nothing v by ls = of_any v.store.current (λ c es changes. go c es changes)
  where
    go : (c : List (List ℕ)) (es : List Entry) → AreChangesAt v.catalog.ru [] es c → length (relocked_by v.catalog.heads by es ls.locks) ≤ ls.most → ls.locks ≡ relocked_by v.catalog.heads by es ls.locks
    go c [] changes = λ room. refl
    go c (e ∷ es) changes = absurd changes

-- what is said of a volume is said of one that is the same but for reads
pub holds_read : (v w : VolumeState) (ps : List ℕ) (by : Id) (ls ms : LockTable) → SameVolume v w → HoldsKeys w ps by ls ms → HoldsKeys v ps by ls ms
holds_read v w ps by ls ms same held = subst (λ (x : VolumeState). HoldsKeys x ps by ls ms) same held

pub taken_read : (rs : List LogRecord) (left : List OpenUnit) (v w : VolumeState) (old new : List OpenUnit) (ls ms : LockTable) → SameVolume v w → AreTakenUp rs left w old new ls ms → AreTakenUp rs left v old new ls ms
taken_read rs left v w old new ls ms same taken = record {
  units = taken.units;
  behind = taken.behind;
  records = taken.records;
  changes = taken.changes;
  hold = subst (λ (x : VolumeState). IfSome x.store.current (λ c. (ess : List (List Entry)) → AreAllChangesAt x.catalog.ru taken.units ess c → HoldChanges x.catalog.heads ls.most taken.units ess ls.locks ms.locks)) same taken.hold;
}

module _ (v : VolumeState) (p : ℕ) (ps : List ℕ) (by : Id) (l0 l1 l2 : LockTable) where
  abbrev heads : List (Option FileHead)
  heads = v.catalog.heads

  -- an entry is read
  pub held_more : (h : EntryHead) (next : ℕ) (image : List ℕ) → IfSome v.store.current (ReadsAt v.catalog.ru p (Some (h, next)) image) →
      ((entry_of h []).kind ≡ 1 → 1 ≤ length (entry_of h []).key → Holds by h.file (keys_left (head_at heads h.file) (entry_of h [])) l0 l1) → HoldsKeys v ps by l1 l2 → HoldsKeys v (p ∷ ps) by l0 l2
  held_more h next image reads locks rest = of_both v.store.current (λ c stands told es changes. told_more c stands told es changes) reads rest
    where
      told_more : (c : List (List ℕ)) → ReadsAt v.catalog.ru p (Some (h, next)) image c →
          ((es : List Entry) → AreChangesAt v.catalog.ru ps es c → length (relocked_by heads by es l1.locks) ≤ l1.most → l2.locks ≡ relocked_by heads by es l1.locks) →
          (es : List Entry) → AreChangesAt v.catalog.ru (p ∷ ps) es c → length (relocked_by heads by es l0.locks) ≤ l0.most → l2.locks ≡ relocked_by heads by es l0.locks
      told_more c stands told [] changes = absurd changes
      told_more c stands told (e ∷ es) changes = λ room.
          let same : entry_of h image ≡ e = stands.only e changes.0.is changes.0.stands in
          let kind : (entry_of h []).kind ≡ 1 = ap (λ (x : Entry). x.kind) same ∙ changes.0.kind in
          let key : 1 ≤ length (entry_of h []).key = has_key (entry_of h image).kind (length (entry_of h image).key) kind stands.is.key in
          let lock = locks kind key in
          let t = told es changes.1 in
          let keys : with_locks by h.file (keys_left (head_at heads h.file) (entry_of h [])) l0.locks ≡ with_locks by e.file (keys_left (head_at heads e.file) e) l0.locks =
          ap (λ (ks : List _). with_locks by h.file ks l0.locks) (keys_same (head_at heads h.file) h image) ∙ ap (λ (x : Entry). with_locks by x.file (keys_left (head_at heads x.file) x) l0.locks) same in
          let longer = relocked_longer heads by es (with_locks by e.file (keys_left (head_at heads e.file) e) l0.locks) in
          let long = ap length keys in
          let most = lock.most in
          let mid : l1.locks ≡ with_locks by e.file (keys_left (head_at heads e.file) e) l0.locks = lock.locked (omega (arith, long, longer, room)) ∙ keys in
          let whole = ap (λ (ls : List Lock). length (relocked_by heads by es ls)) mid in
          t (omega (arith, whole, most, room)) ∙ ap (relocked_by heads by es) mid

  -- no entry is read
  pub held_less : (image : List ℕ) → IfSome v.store.current (ReadsAt v.catalog.ru p None image) → HoldsKeys v ps by l0 l2 → HoldsKeys v (p ∷ ps) by l0 l2
  held_less image reads rest = of_both v.store.current (λ c none told es changes. go c none es changes) reads rest
    where
      go : (c : List (List ℕ)) → ReadsAt v.catalog.ru p None image c → (es : List Entry) → AreChangesAt v.catalog.ru (p ∷ ps) es c → length (relocked_by heads by es l0.locks) ≤ l0.most → l2.locks ≡ relocked_by heads by es l0.locks
      go c none [] changes = absurd changes
      go c none (e ∷ es) changes = absurd (none e changes.0.is changes.0.stands)

-- One unit.

module _ (r : LogRecord) (left : List OpenUnit) (v : VolumeState) (p : ℕ) (s a b : Units) (ls ms : LockTable) (below : p < length s.places) (is : a ≡ with_begun p r.tid r.serial s)
    (last : (w : OpenUnit) → begun (with_unit p w a) ≡ begun s ++ w ∷ []) where
  new_there : unit_at a.places p ≡ Some (new_unit r.tid r.serial)
  new_there = ap (λ (x : Units). unit_at x.places p) is ∙ get_or-set_same s.places p (Some (new_unit r.tid r.serial)) None below

  module _ (ps : List ℕ) (fs : List Bool) (backs : IfSome (unit_at a.places p) (λ (u : OpenUnit). b ≡ with_unit p (unit_back ps fs u) a)) where
    back : b ≡ with_unit p (unit_back ps fs (new_unit r.tid r.serial)) a
    back = subst (λ (o : Option OpenUnit). IfSome o (λ (u : OpenUnit). b ≡ with_unit p (unit_back ps fs u) a)) new_there backs

    pub taken_with : HoldsKeys v ps r.serial ls ms → IsLeftOf left (unit_back ps fs (new_unit r.tid r.serial)) → IsTakenUp r left v (begun s) (begun b) ls ms
    taken_with holds of = record {
      unit = unit_back ps fs (new_unit r.tid r.serial);
      behind = ap begun back ∙ last (unit_back ps fs (new_unit r.tid r.serial));
      is = record { tid = refl; serial = refl; prepared = refl };
      changes = of;
      hold = holds;
    }

    pub order_with : b.order ≡ s.order ++ p ∷ []
    order_with = ap (λ (x : Units). x.order) back ∙ ap (λ (x : Units). x.order) is

  module _ (prepares : IfSome (unit_at a.places p) (λ (u : OpenUnit). b ≡ with_unit p (prepared_unit u) a)) where
    prepared : b ≡ with_unit p (prepared_unit (new_unit r.tid r.serial)) a
    prepared = subst (λ (o : Option OpenUnit). IfSome o (λ (u : OpenUnit). b ≡ with_unit p (prepared_unit u) a)) new_there prepares

    pub taken_bare : first_that (is_of r.serial) left ≡ None → IsTakenUp r left v (begun s) (begun b) ls ls
    taken_bare none = record {
      unit = prepared_unit (new_unit r.tid r.serial);
      behind = ap begun prepared ∙ last (prepared_unit (new_unit r.tid r.serial));
      is = record { tid = refl; serial = refl; prepared = refl };
      changes = record {
        positions = sym (ap (λ (o : Option OpenUnit). elim o [ Some u ↦ u.positions | None ↦ [] ]) none);
        files = sym (ap (λ (o : Option OpenUnit). elim o [ Some u ↦ u.files | None ↦ no_files ]) none);
      };
      hold = held_nothing v r.serial ls;
    }

    pub order_bare : b.order ≡ s.order ++ p ∷ []
    order_bare = ap (λ (x : Units). x.order) prepared ∙ ap (λ (x : Units). x.order) is

pub left_by : (tid serial : Id) (left : List OpenUnit) (u : OpenUnit) (ps : List ℕ) (fs : List Bool) → first_that (is_of serial) left ≡ Some u → ps ≡ u.positions → fs ≡ u.files → IsLeftOf left (unit_back ps fs (new_unit tid serial))
left_by tid serial left u ps fs at positions files = record {
  positions = positions ∙ sym (ap (λ (o : Option OpenUnit). elim o [ Some w ↦ w.positions | None ↦ [] ]) at);
  files = files ∙ sym (ap (λ (o : Option OpenUnit). elim o [ Some w ↦ w.files | None ↦ no_files ]) at);
}

-- All units.

all_longer : (heads : List (Option FileHead)) (us : List OpenUnit) (ess : List (List Entry)) (ls : List Lock) → length ls ≤ length (relocked heads us ess ls)
all_longer heads [] ess ls = omega arith
all_longer heads (u ∷ us) [] ls = omega arith
all_longer heads (u ∷ us) (es ∷ ess) ls =
    let one = relocked_longer heads u.serial es ls in
    let more = all_longer heads us ess (relocked_by heads u.serial es ls) in
    omega (arith, one, more)

pub taken_none : (left : List OpenUnit) (v : VolumeState) (s : List OpenUnit) (ls : LockTable) → AreTakenUp [] left v s s ls ls
taken_none left v s ls = record {
  units = [];
  behind = sym (append-nil s);
  records = tt;
  changes = tt;
  hold = of_any v.store.current (λ c ess at. record { locks = λ room. refl });
}

pub taken_more : (r : LogRecord) (rs : List LogRecord) (left : List OpenUnit) (v : VolumeState) (s m t : List OpenUnit) (ls ks ms : LockTable) → IsTakenUp r left v s m ls ks → AreTakenUp rs (without_first (is_of r.serial) left) v m t ks ms → StayFew ls ks →
    AreTakenUp (r ∷ rs) left v s t ls ms
taken_more r rs left v s m t ls ks ms one rest few = record {
  units = one.unit ∷ rest.units;
  behind = rest.behind ∙ ap (λ (xs : List OpenUnit). xs ++ rest.units) one.behind ∙ append_assoc s (one.unit ∷ []) rest.units;
  records = (one.is, rest.records);
  changes = (one.changes, subst (λ (x : Id). TakeChanges (without_first (is_of x) left) rest.units) (sym one.is.serial) rest.changes);
  hold = of_both v.store.current (λ c a b ess at. go c a b ess at) one.hold rest.hold;
}
  where
    heads : List (Option FileHead)
    heads = v.catalog.heads

    go : (c : List (List ℕ)) → ((es : List Entry) → AreChangesAt v.catalog.ru one.unit.positions es c → length (relocked_by heads one.unit.serial es ls.locks) ≤ ls.most → ks.locks ≡ relocked_by heads one.unit.serial es ls.locks) →
        ((ess : List (List Entry)) → AreAllChangesAt v.catalog.ru rest.units ess c → HoldChanges heads ks.most rest.units ess ks.locks ms.locks) →
        (ess : List (List Entry)) → AreAllChangesAt v.catalog.ru (one.unit ∷ rest.units) ess c → HoldChanges heads ls.most (one.unit ∷ rest.units) ess ls.locks ms.locks
    go c a b [] at = absurd at
    go c a b (es ∷ ess) at =
        let x = a es at.0 in
        let y = b ess at.1 in
        let first = relocked_by heads one.unit.serial es ls.locks in
        let longer = all_longer heads rest.units ess first in
        let most = few.most in
        record {
          locks = λ room.
              let mid : ks.locks ≡ first = x (omega (arith, longer, room)) in
              let whole = ap (λ (xs : List Lock). length (relocked heads rest.units ess xs)) mid in
              y.locks (omega (arith, whole, most, room)) ∙ ap (relocked heads rest.units ess) mid;
        }
