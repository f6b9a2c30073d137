-- A unit at its place has changed more, among the units in the order of their beginning.
use Rattle.std.proofs.Common.{◌≡◌, ℕ, ◌+◌, ◌≤◌, ◌<◌, List, [], ◌∷◌, ◌++◌, Bool, true, false, Option, Some, None, if◌then◌else◌, length, slice_set, refl, sym, ◌∙◌, ap, subst, arith, inl, inr, get_or-set_same, get_or-set_other}
use Rattle.std.proofs.lemmas.Bool.{cases_eq}
use Rattle.vms_model.specs.Ids.{Id}
use Rattle.vms_model.specs.Keys.{Key}
use Rattle.records_model.specs.History.{same_id}
use Rattle.unit_laws.specs.Journal.{ChangeEntry, JournalEntry, entries_size, entry_size}
use Rattle.unit_table.specs.Places.{occurrences}
use Rattle.unit_table.specs.Units.{OpenUnit, unit_at, units_of}
use Rattle.unit_table.proofs.OrderLemmas.{more_here, more_there}
use Rattle.commit_protocol.specs.World.{In}
use Rattle.commit_protocol.specs.Table.{Branch}
use Rattle.recovery_units.specs.run_model.World.{with_changed}
use Rattle.recovery_units.proofs.world_laws.IdLemmas.{each_at, id_itself, id_other}
use Rattle.recovery_units.specs.State.{AreOfBranches, IsOfBranch, are_there, is_change_by, positions_of}
use Rattle.node_units.proofs.Branches.{Distinct, serial_among, serials}
use Rattle.unit_table.proofs.BegunLemmas.{units_other}

-- a unit at a place that is in the order is one of them
pub among : (us : List (Option OpenUnit)) (order : List ℕ) (p : ℕ) (u : OpenUnit) → unit_at us p ≡ Some u → 1 ≤ occurrences p order → In u (units_of us order)
among us [] p u there some = absurd (omega (arith, some))
among us (q ∷ qs) p u there some = elim (cases_eq q p) [
  | inl same ↦ subst (λ (o : Option OpenUnit). In u (elim o [ Some w ↦ w ∷ units_of us qs | None ↦ units_of us qs ])) (sym (ap (unit_at us) same ∙ there)) (inl refl)
  | inr apart ↦ behind (unit_at us q) (among us qs p u there (let less = more_there p q qs apart in omega (arith, less, some)))
]
  where
    behind : (o : Option OpenUnit) → In u (units_of us qs) → In u (elim o [ Some w ↦ w ∷ units_of us qs | None ↦ units_of us qs ])
    behind (Some w) i = inr i
    behind None i = i

-- units at two places are of different branches
pub apart_at : (us : List (Option OpenUnit)) (order : List ℕ) (p q : ℕ) (u w : OpenUnit) → (p ≡ q → ⊥) → unit_at us p ≡ Some u → unit_at us q ≡ Some w → 1 ≤ occurrences p order → 1 ≤ occurrences q order → Distinct (serials (units_of us order)) → same_id u.serial w.serial ≡ false
apart_at us [] p q u w other at_p at_q some_p some_q d = absurd (omega (arith, some_p))
apart_at us (r ∷ rs) p q u w other at_p at_q some_p some_q d = elim (cases_eq r p) [
  | inl first ↦
      let own = subst (λ (o : Option OpenUnit). Distinct (serials (elim o [ Some x ↦ x ∷ units_of us rs | None ↦ units_of us rs ]))) (ap (unit_at us) first ∙ at_p) d in
      let less = more_there q r rs (λ e. other (sym first ∙ e)) in
      each_at (λ (y : Id). same_id u.serial y ≡ false) w.serial (serials (units_of us rs)) own.0 (serial_among w (units_of us rs) (among us rs q w at_q (omega (arith, less, some_q))))
  | inr not_p ↦ elim (cases_eq r q) [
    | inl first ↦
        let own = subst (λ (o : Option OpenUnit). Distinct (serials (elim o [ Some x ↦ x ∷ units_of us rs | None ↦ units_of us rs ]))) (ap (unit_at us) first ∙ at_q) d in
        let less = more_there p r rs not_p in
        id_other w.serial u.serial (each_at (λ (y : Id). same_id w.serial y ≡ false) u.serial (serials (units_of us rs)) own.0 (serial_among u (units_of us rs) (among us rs p u at_p (omega (arith, less, some_p)))))
    | inr not_q ↦
        let less_p = more_there p r rs not_p in
        let less_q = more_there q r rs not_q in
        apart_at us rs p q u w other at_p at_q (omega (arith, less_p, some_p)) (omega (arith, less_q, some_q)) (behind (unit_at us r) d)
  ]
]
  where
    behind : (o : Option OpenUnit) → Distinct (serials (elim o [ Some x ↦ x ∷ units_of us rs | None ↦ units_of us rs ])) → Distinct (serials (units_of us rs))
    behind (Some x) k = k.1
    behind None k = k

-- The branches, of which one has changed something.
module _ (place : ℕ) (u more : OpenUnit) (tid : more.tid ≡ u.tid) (serial : more.serial ≡ u.serial) (prepared : more.prepared ≡ u.prepared) (changed : are_there more.positions ≡ true) where
  of_more : (b : Branch) → IsOfBranch u b → IsOfBranch more (record b { changed = true })
  of_more b is = record { tid = is.tid ∙ sym tid; serial = is.serial ∙ sym serial; prepared = is.prepared ∙ sym prepared; changed = λ e. sym changed }

  own_changed : (us : List OpenUnit) (bs : List Branch) → AreOfBranches (u ∷ us) bs → AreOfBranches (more ∷ us) (with_changed u.serial bs)
  own_changed us [] h = absurd h
  own_changed us (b ∷ bs) h =
      let own : same_id u.serial b.key.serial ≡ true = subst (λ (x : Id). same_id u.serial x ≡ true) (sym h.0.serial) (id_itself u.serial) in
      subst (λ (t : Bool). AreOfBranches (more ∷ us) (if t then record b { changed = true } ∷ bs else b ∷ with_changed u.serial bs)) (sym own) (of_more b h.0, h.1)

  other_changed : (w : OpenUnit) (us vs : List OpenUnit) (bs : List Branch) → same_id u.serial w.serial ≡ false → ((cs : List Branch) → AreOfBranches us cs → AreOfBranches vs (with_changed u.serial cs)) → AreOfBranches (w ∷ us) bs →
      AreOfBranches (w ∷ vs) (with_changed u.serial bs)
  other_changed w us vs [] other rest h = absurd h
  other_changed w us vs (b ∷ bs) other rest h =
      let apart : same_id u.serial b.key.serial ≡ false = subst (λ (x : Id). same_id u.serial x ≡ false) (sym h.0.serial) other in
      subst (λ (t : Bool). AreOfBranches (w ∷ vs) (if t then record b { changed = true } ∷ bs else b ∷ with_changed u.serial bs)) (sym apart) (h.0, rest bs h.1)

  pub changed_branches : (us : List (Option OpenUnit)) (order : List ℕ) → place < length us → unit_at us place ≡ Some u → occurrences place order ≡ 1 → Distinct (serials (units_of us order)) → (bs : List Branch) →
      AreOfBranches (units_of us order) bs → AreOfBranches (units_of (slice_set us place (Some more)) order) (with_changed u.serial bs)
  changed_branches us [] below there one d bs h = absurd (omega (arith, one))
  changed_branches us (q ∷ qs) below there one d bs h = elim (cases_eq q place) [
    | inl first ↦
        let none : occurrences place qs ≡ 0 = (let here = more_here place qs in let e = ap (λ k. occurrences place (k ∷ qs)) first in omega (arith, here, one, e)) in
        let old : unit_at us q ≡ Some u = ap (unit_at us) first ∙ there in
        let new : unit_at (slice_set us place (Some more)) q ≡ Some more = ap (unit_at (slice_set us place (Some more))) first ∙ get_or-set_same us place (Some more) None below in
        subst (λ (o : Option OpenUnit). AreOfBranches (elim o [ Some w ↦ w ∷ units_of (slice_set us place (Some more)) qs | None ↦ units_of (slice_set us place (Some more)) qs ]) (with_changed u.serial bs)) (sym new)
        (subst (λ (ws : List OpenUnit). AreOfBranches (more ∷ ws) (with_changed u.serial bs)) (sym (units_other us place (Some more) qs none))
        (own_changed (units_of us qs) bs (subst (λ (o : Option OpenUnit). AreOfBranches (elim o [ Some w ↦ w ∷ units_of us qs | None ↦ units_of us qs ]) bs) old h)))
    | inr apart ↦
        let less = more_there place q qs apart in
        let one_behind : occurrences place qs ≡ 1 = omega (arith, less, one) in
        let stays : unit_at (slice_set us place (Some more)) q ≡ unit_at us q = get_or-set_other us place q (Some more) None apart in
        subst (λ (o : Option OpenUnit). AreOfBranches (elim o [ Some w ↦ w ∷ units_of (slice_set us place (Some more)) qs | None ↦ units_of (slice_set us place (Some more)) qs ]) (with_changed u.serial bs)) (sym stays)
        (go (unit_at us q) d h (among us qs place u there (omega (arith, one_behind))) (changed_branches us qs below there one_behind))
  ]
    where
      go : (o : Option OpenUnit) → Distinct (serials (elim o [ Some x ↦ x ∷ units_of us qs | None ↦ units_of us qs ])) → AreOfBranches (elim o [ Some x ↦ x ∷ units_of us qs | None ↦ units_of us qs ]) bs → In u (units_of us qs) →
          (Distinct (serials (units_of us qs)) → (cs : List Branch) → AreOfBranches (units_of us qs) cs → AreOfBranches (units_of (slice_set us place (Some more)) qs) (with_changed u.serial cs)) →
          AreOfBranches (elim o [ Some w ↦ w ∷ units_of (slice_set us place (Some more)) qs | None ↦ units_of (slice_set us place (Some more)) qs ]) (with_changed u.serial bs)
      go None k h i rest = rest k bs h
      go (Some w) k h i rest =
          let other = id_other w.serial u.serial (each_at (λ (y : Id). same_id w.serial y ≡ false) u.serial (serials (units_of us qs)) k.0 (serial_among u (units_of us qs) i)) in
          other_changed w (units_of us qs) (units_of (slice_set us place (Some more)) qs) bs other (λ cs. rest k.1 cs) h

-- Where the changes of a branch begin, once one more is entered.

pub positions_entered : (x tid serial : Id) (file : List ℕ) (key : Key) (before : Option (List ℕ)) (p : ℕ) (es : List JournalEntry) → (t : Bool) → same_id x serial ≡ t →
    positions_of x p (es ++ ChangeEntry tid serial file key before ∷ []) ≡ positions_of x p es ++ (if t then (p + entries_size es) ∷ [] else [])
positions_entered x tid serial file key before p [] true is = ap (λ (b : Bool). if b then p ∷ [] else []) is ∙ ap (λ (q : ℕ). q ∷ []) (omega arith)
positions_entered x tid serial file key before p [] false is = ap (λ (b : Bool). if b then p ∷ [] else []) is
positions_entered x tid serial file key before p (e ∷ es) t is = go (is_change_by x e) (positions_entered x tid serial file key before (p + entry_size e) es t is)
  where
    far : p + entry_size e + entries_size es ≡ p + (entry_size e + entries_size es)
    far = omega arith

    go : (b : Bool) → positions_of x (p + entry_size e) (es ++ ChangeEntry tid serial file key before ∷ []) ≡ positions_of x (p + entry_size e) es ++ (if t then (p + entry_size e + entries_size es) ∷ [] else []) →
        (if b then p ∷ positions_of x (p + entry_size e) (es ++ ChangeEntry tid serial file key before ∷ []) else positions_of x (p + entry_size e) (es ++ ChangeEntry tid serial file key before ∷ [])) ≡
        (if b then p ∷ positions_of x (p + entry_size e) es else positions_of x (p + entry_size e) es) ++ (if t then (p + (entry_size e + entries_size es)) ∷ [] else [])
    go true rest = ap (λ (ps : List ℕ). p ∷ ps) (rest ∙ ap (λ (q : ℕ). positions_of x (p + entry_size e) es ++ (if t then q ∷ [] else [])) far)
    go false rest = rest ∙ ap (λ (q : ℕ). positions_of x (p + entry_size e) es ++ (if t then q ∷ [] else [])) far

pub are_more : (ps : List ℕ) (p : ℕ) → are_there (ps ++ p ∷ []) ≡ true
are_more [] p = refl
are_more (q ∷ ps) p = refl
