-- The units that a journal leaves are those of the table, entry by entry.
use Rattle.std.proofs.Common.{◌≡◌, ℕ, suc, ◌+◌, ◌<◌, ◌≤◌, ◌==◌, ◌&&◌, ◌||◌, not, nat_le, bit_or, is_some, Bool, true, false, List, [], ◌∷◌, ◌++◌, length, Option, Some, None, if◌then◌else◌, refl, sym, ◌∙◌, ap, subst, arith, append-nil, length-append}
use Rattle.std.specs.List.{All, AllByRecursion, list_any}
use Rattle.std.proofs.lemmas.Bool.{and_from, leb-false, or_parts}
use Rattle.std.proofs.lemmas.List.Elements.{All-head, All-nil, All-push, All-tail, All-weaker}
use Rattle.std.proofs.lemmas.List.Folds.{list_any-append}
use Rattle.file_base.specs.declared.head.Span.{Span}
use Rattle.vms_base.specs.vms_model.Ids.{Id}
use Rattle.table_keys.specs.records_model.History.{same_id}
use Rattle.journal_format.specs.journal_model.Entries.{Entry}
use Rattle.ru_journal.specs.Told.{JournalScan, UnitTold, file_bit, find_unit, first_told, is_out_of_order, more_told, unit_refuses, units_after, with_unit, without_unit}
use Rattle.run_model.proofs.unit_laws.LiveLemmas.{id_is, id_itself, turned}
use Rattle.unit_table.specs.Units.{Ascend, OpenUnit, first_of, first_that, is_of, new_unit, with_first, with_position, without_first}
use Rattle.unit_entries.specs.Opening.{AreAlike, AscendWithin, BeginWithin, Differ, IsAlike, more_open, opened_after}
use Rattle.unit_entries.specs.Reading.{is_change_of}
use Rattle.unit_entries.proofs.RowLemmas.{all_behind}

one : (u w : OpenUnit) → ◌≡◌ {A = Option OpenUnit} (Some u) (Some w) → u ≡ w
one u w e = cc

one_told : (u w : UnitTold) → ◌≡◌ {A = Option UnitTold} (Some u) (Some w) → u ≡ w
one_told u w e = cc

-- Finding.

none_parts : (b : Bool) (w : OpenUnit) (o : Option OpenUnit) → (if b then Some w else o) ≡ None → (b ≡ false) × (o ≡ None)
none_parts true w o is = let never : ⊥ = cc in absurd never
none_parts false w o is = (refl, is)

none_so : (b : Bool) (w : OpenUnit) (o : Option OpenUnit) → b ≡ false → o ≡ None → (if b then Some w else o) ≡ None
none_so true w o is none = let never : ⊥ = cc in absurd never
none_so false w o is none = none

-- the others are of other branches
others : (x : Id) (ws : List OpenUnit) → first_that (is_of x) ws ≡ None → AllByRecursion (λ (w : OpenUnit). same_id x w.serial ≡ false) ws
others x [] none = tt
others x (w ∷ ws) none = let parts = none_parts (same_id x w.serial) w (first_that (is_of x) ws) none in (parts.0, others x ws parts.1)

pub all_first : (P : OpenUnit → Type 0) (Q : OpenUnit → Bool) (w : OpenUnit) (ws : List OpenUnit) → P w → AllByRecursion P ws → AllByRecursion P (with_first Q w ws)
all_first P Q w [] is all = tt
all_first P Q w (v ∷ ws) is all = go (Q v) (all_first P Q w ws is all.1)
  where
    go : (b : Bool) → AllByRecursion P (with_first Q w ws) → AllByRecursion P (if b then w ∷ ws else v ∷ with_first Q w ws)
    go true rest = (is, all.1)
    go false rest = (all.0, rest)

pub all_less : (P : OpenUnit → Type 0) (Q : OpenUnit → Bool) (ws : List OpenUnit) → AllByRecursion P ws → AllByRecursion P (without_first Q ws)
all_less P Q [] all = tt
all_less P Q (v ∷ ws) all = go (Q v) (all_less P Q ws all.1)
  where
    go : (b : Bool) → AllByRecursion P (without_first Q ws) → AllByRecursion P (if b then ws else v ∷ without_first Q ws)
    go true rest = all.1
    go false rest = (all.0, rest)

pub first_holds : (P : OpenUnit → Type 0) (Q : OpenUnit → Bool) (ws : List OpenUnit) (w : OpenUnit) → AllByRecursion P ws → first_that Q ws ≡ Some w → P w
first_holds P Q [] w all is = let never : ⊥ = cc in absurd never
first_holds P Q (v ∷ ws) w all is = go (Q v) is (first_holds P Q ws w all.1)
  where
    go : (b : Bool) → (if b then Some v else first_that Q ws) ≡ Some w → (first_that Q ws ≡ Some w → P w) → P w
    go true at rest = subst P (one v w at) all.0
    go false at rest = rest at

first_is : (Q : OpenUnit → Bool) (ws : List OpenUnit) (w : OpenUnit) → first_that Q ws ≡ Some w → Q w ≡ true
first_is Q [] w is = let never : ⊥ = cc in absurd never
first_is Q (v ∷ ws) w is = go (Q v) refl is (first_is Q ws w)
  where
    go : (b : Bool) → Q v ≡ b → (if b then Some v else first_that Q ws) ≡ Some w → (first_that Q ws ≡ Some w → Q w ≡ true) → Q w ≡ true
    go true holds at rest = subst (λ (x : OpenUnit). Q x ≡ true) (one v w at) holds
    go false holds at rest = rest at

pub less_none : (Q : OpenUnit → Bool) (ws : List OpenUnit) → first_that Q ws ≡ None → without_first Q ws ≡ ws
less_none Q [] none = refl
less_none Q (w ∷ ws) none = go (Q w) none (less_none Q ws)
  where
    go : (b : Bool) → (if b then Some w else first_that Q ws) ≡ None → (first_that Q ws ≡ None → without_first Q ws ≡ ws) → (if b then ws else w ∷ without_first Q ws) ≡ w ∷ ws
    go true gone rest = let never : ⊥ = cc in absurd never
    go false gone rest = ap (λ (vs : List OpenUnit). w ∷ vs) (rest gone)

-- Where the entries of changes begin.

more_within : (s : Span) (p : ℕ) (e : Entry) (w : OpenUnit) → s.first ≤ p → p < s.end → All (λ q. (s.first ≤ q) × (q < s.end)) w.positions → All (λ q. (s.first ≤ q) × (q < s.end)) (more_open p e w).positions
more_within s p e w behind before all = go (e.kind == 1)
  where
    go : (b : Bool) → All (λ q. (s.first ≤ q) × (q < s.end)) (if b then with_position p e.file w else record w { prepared = true }).positions
    go true = All-push (λ q. (s.first ≤ q) × (q < s.end)) w.positions p all (behind, before)
    go false = all

pub within_opened : (s : Span) (p : ℕ) (e : Entry) (ws : List OpenUnit) → s.first ≤ p → p < s.end → BeginWithin s ws → BeginWithin s (opened_after p e ws)
within_opened s p e ws behind before all = go (e.kind == 3) (first_that (is_of e.serial) ws) refl
  where
    P : OpenUnit → Type 0
    P w = All (λ q. (s.first ≤ q) × (q < s.end)) w.positions

    go : (b : Bool) (o : Option OpenUnit) → first_that (is_of e.serial) ws ≡ o →
        AllByRecursion P (if b then without_first (is_of e.serial) ws else (elim o [ Some w ↦ with_first (is_of e.serial) (more_open p e w) ws | None ↦ if e.kind == 1 then ws ++ more_open p e (new_unit e.tid e.serial) ∷ [] else ws ]))
    go true o at = all_less P (is_of e.serial) ws all
    go false (Some w) at = all_first P (is_of e.serial) (more_open p e w) ws (more_within s p e w behind before (first_holds P (is_of e.serial) ws w all at)) all
    go false None at = first (e.kind == 1)
      where
        first : (c : Bool) → AllByRecursion P (if c then ws ++ more_open p e (new_unit e.tid e.serial) ∷ [] else ws)
        first true = all_behind P ws (more_open p e (new_unit e.tid e.serial)) (more_within s p e (new_unit e.tid e.serial) behind before (All-nil _)) all
        first false = all

-- And they ascend.

ascend_longer : (from a b : ℕ) (ps : List ℕ) → a ≤ b → Ascend from a ps → Ascend from b ps
ascend_longer from a b [] le all = omega (arith, le, all)
ascend_longer from a b (p ∷ ps) le all = (all.0, ascend_longer (p + 1) a b ps le all.1)

ascend_push : (from p end : ℕ) (ps : List ℕ) → p < end → Ascend from p ps → Ascend from end (ps ++ p ∷ [])
ascend_push from p end [] lt all = (all, omega (arith, lt))
ascend_push from p end (q ∷ ps) lt all = (all.0, ascend_push (q + 1) p end ps lt all.1)

more_ascends : (from p next : ℕ) (e : Entry) (w : OpenUnit) → p < next → Ascend from p w.positions → let v : OpenUnit = more_open p e w in Ascend from next v.positions
more_ascends from p next e w lt all = go (e.kind == 1)
  where
    go : (b : Bool) → let v : OpenUnit = (if b then with_position p e.file w else record w { prepared = true }) in Ascend from next v.positions
    go true = ascend_push from p next w.positions lt all
    go false = ascend_longer from p next w.positions (omega (arith, lt)) all

all_longer : (from a b : ℕ) (ws : List OpenUnit) → a ≤ b → AscendWithin from a ws → AscendWithin from b ws
all_longer from a b [] le all = tt
all_longer from a b (w ∷ ws) le all = (ascend_longer from a b w.positions le all.0, all_longer from a b ws le all.1)

pub ascends_opened : (from p next : ℕ) (e : Entry) (ws : List OpenUnit) → from ≤ p → p < next → AscendWithin from p ws → AscendWithin from next (opened_after p e ws)
ascends_opened from p next e ws behind lt all = go (e.kind == 3) (first_that (is_of e.serial) ws) refl
  where
    P : OpenUnit → Type 0
    P w = Ascend from next w.positions

    longer : AllByRecursion P ws
    longer = all_longer from p next ws (omega (arith, lt)) all

    go : (b : Bool) (o : Option OpenUnit) → first_that (is_of e.serial) ws ≡ o →
        AllByRecursion P (if b then without_first (is_of e.serial) ws else (elim o [ Some w ↦ with_first (is_of e.serial) (more_open p e w) ws | None ↦ if e.kind == 1 then ws ++ more_open p e (new_unit e.tid e.serial) ∷ [] else ws ]))
    go true o at = all_less P (is_of e.serial) ws longer
    go false (Some w) at = all_first P (is_of e.serial) (more_open p e w) ws (more_ascends from p next e w lt (first_holds (λ (u : OpenUnit). Ascend from p u.positions) (is_of e.serial) ws w all at)) longer
    go false None at = first (e.kind == 1)
      where
        first : (c : Bool) → AllByRecursion P (if c then ws ++ more_open p e (new_unit e.tid e.serial) ∷ [] else ws)
        first true = all_behind P ws (more_open p e (new_unit e.tid e.serial)) (more_ascends from p next e (new_unit e.tid e.serial) lt behind) longer
        first false = longer

-- the end is no farther than each of them asks
ascend_near : (from end far : ℕ) (ps : List ℕ) → from ≤ end → All (λ p. p < end) ps → Ascend from far ps → Ascend from end ps
ascend_near from end far [] le near all = le
ascend_near from end far (p ∷ ps) le near all = let here = All-head (λ p. p < end) p ps near in (all.0, ascend_near (p + 1) end far ps (omega (arith, here)) (All-tail (λ p. p < end) p ps near) all.1)

pub ascends_near : (s : Span) (far : ℕ) (ws : List OpenUnit) → s.first ≤ s.end → BeginWithin s ws → AscendWithin s.first far ws → AscendWithin s.first s.end ws
ascends_near s far [] le near all = tt
ascends_near s far (w ∷ ws) le near all =
    (ascend_near s.first s.end far w.positions le (All-weaker (λ p. (s.first ≤ p) × (p < s.end)) (λ p. p < s.end) (λ p is. is.1) w.positions near.0) all.0, ascends_near s far ws le near.1 all.1)

-- Units of the table are those that are told.

pub data Both (x : Id) (us : List UnitTold) (ws : List OpenUnit) : Type 0 where
  neither : find_unit x us ≡ None → first_that (is_of x) ws ≡ None → Both x us ws
  each : (u : UnitTold) (w : OpenUnit) → find_unit x us ≡ Some u → first_that (is_of x) ws ≡ Some w → IsAlike u w → Both x us ws

pub find_both : (x : Id) (us : List UnitTold) (ws : List OpenUnit) → AreAlike us ws → Both x us ws
find_both x [] [] a = neither refl refl
find_both x [] (w ∷ ws) a = absurd a
find_both x (u ∷ us) [] a = absurd a
find_both x (u ∷ us) (w ∷ ws) a = go (same_id x u.serial) refl (find_both x us ws a.1)
  where
    told : (b : Bool) → same_id x u.serial ≡ b → find_unit x (u ∷ us) ≡ (if b then Some u else find_unit x us)
    told b is = ap (λ (c : Bool). if c then Some u else find_unit x us) is

    open_ : (b : Bool) → same_id x u.serial ≡ b → first_that (is_of x) (w ∷ ws) ≡ (if b then Some w else first_that (is_of x) ws)
    open_ b is = ap (λ (c : Bool). if c then Some w else first_that (is_of x) ws) (ap (same_id x) a.0.serial ∙ is)

    go : (b : Bool) → same_id x u.serial ≡ b → Both x us ws → Both x (u ∷ us) (w ∷ ws)
    go true is rest = each u w (told true is) (open_ true is) a.0
    go false is (neither gone none) = neither (told false is ∙ gone) (open_ false is ∙ none)
    go false is (each v y at there alike) = each v y (told false is ∙ at) (open_ false is ∙ there) alike

pub alike_long : (us : List UnitTold) (ws : List OpenUnit) → AreAlike us ws → length ws ≡ length us
alike_long [] [] a = refl
alike_long [] (w ∷ ws) a = absurd a
alike_long (u ∷ us) [] a = absurd a
alike_long (u ∷ us) (w ∷ ws) a = ap suc (alike_long us ws a.1)

alike_with : (x : Id) (f : UnitTold → UnitTold) (y : OpenUnit) (us : List UnitTold) (ws : List OpenUnit) (u : UnitTold) → AreAlike us ws → find_unit x us ≡ Some u → IsAlike (f u) y → AreAlike (with_unit x f us) (with_first (is_of x) y ws)
alike_with x f y [] [] u a at is = tt
alike_with x f y [] (w ∷ ws) u a at is = absurd a
alike_with x f y (v ∷ us) [] u a at is = absurd a
alike_with x f y (v ∷ us) (w ∷ ws) u a at is = go (same_id x v.serial) (same_id x w.serial) (ap (same_id x) a.0.serial) at (λ later. alike_with x f y us ws u a.1 later is)
  where
    go : (b c : Bool) → c ≡ b → (if b then Some v else find_unit x us) ≡ Some u → (find_unit x us ≡ Some u → AreAlike (with_unit x f us) (with_first (is_of x) y ws)) →
        AreAlike (if b then f v ∷ us else v ∷ with_unit x f us) (if c then y ∷ ws else w ∷ with_first (is_of x) y ws)
    go true true same here rest = (subst (λ (z : UnitTold). IsAlike (f z) y) (sym (one_told v u here)) is, a.1)
    go true false same here rest = let never : ⊥ = cc in absurd never
    go false true same here rest = let never : ⊥ = cc in absurd never
    go false false same here rest = (a.0, rest here)

alike_less : (x : Id) (us : List UnitTold) (ws : List OpenUnit) → AreAlike us ws → AreAlike (without_unit x us) (without_first (is_of x) ws)
alike_less x [] [] a = tt
alike_less x [] (w ∷ ws) a = absurd a
alike_less x (v ∷ us) [] a = absurd a
alike_less x (v ∷ us) (w ∷ ws) a = go (same_id x v.serial) (same_id x w.serial) (ap (same_id x) a.0.serial) (alike_less x us ws a.1)
  where
    go : (b c : Bool) → c ≡ b → AreAlike (without_unit x us) (without_first (is_of x) ws) → AreAlike (if b then us else v ∷ without_unit x us) (if c then ws else w ∷ without_first (is_of x) ws)
    go true true same rest = a.1
    go true false same rest = let never : ⊥ = cc in absurd never
    go false true same rest = let never : ⊥ = cc in absurd never
    go false false same rest = (a.0, rest)

alike_push : (us : List UnitTold) (ws : List OpenUnit) (u : UnitTold) (w : OpenUnit) → AreAlike us ws → IsAlike u w → AreAlike (us ++ u ∷ []) (ws ++ w ∷ [])
alike_push [] [] u w a is = (is, tt)
alike_push [] (y ∷ ws) u w a is = absurd a
alike_push (v ∷ us) [] u w a is = absurd a
alike_push (v ∷ us) (y ∷ ws) u w a is = (a.0, alike_push us ws u w a.1 is)

still_first : (p : ℕ) (ps : List ℕ) → 1 ≤ length ps → first_of (ps ++ p ∷ []) ≡ first_of ps
still_first p [] some = absurd (omega (arith, some))
still_first p (q ∷ ps) some = refl

-- an entry that may follow those of its branch
module _ (p : ℕ) (e : Entry) (n : ℕ) (kinds : (e.kind == 1) ≡ false → (e.kind == 3) ≡ false → (e.kind == 2) ≡ true) (open_ : (e.kind == 3) ≡ false) where
  allowed : (u : UnitTold) → unit_refuses e n (Some u) ≡ false → (u.prepared ≡ false) × ((e.kind == 1) ≡ true → u.changes < 1024)
  allowed u may =
      let all = or_parts _ _ may in
      let front = or_parts _ _ all.0 in
      (stays (e.kind == 3) u.prepared open_ front.1, few (e.kind == 1) all.1)
    where
      stays : (b q : Bool) → b ≡ false → (not b && q) ≡ false → q ≡ false
      stays true q is h = let never : ⊥ = cc in absurd never
      stays false q is h = h

      few : (b : Bool) → (b && nat_le 1024 u.changes) ≡ false → b ≡ true → u.changes < 1024
      few true h is = leb-false 1024 u.changes h
      few false h is = let never : ⊥ = cc in absurd never

  more_alike : (u : UnitTold) (w : OpenUnit) → IsAlike u w → IsAlike (more_told e u) (more_open p e w)
  more_alike u w a = go (e.kind == 1)
    where
      go : (b : Bool) → IsAlike (if b then record u { changes = u.changes + 1; files = bit_or u.files (file_bit e.file) } else record u { prepared = true }) (if b then with_position p e.file w else record w { prepared = true })
      go true = record {
        tid = a.tid;
        serial = a.serial;
        prepared = a.prepared;
        changes = (let long = length-append w.positions (p ∷ []) in let same = a.changes in omega (arith, long, same));
        first = λ _. still_first p w.positions (let same = a.changes in let some = a.some in omega (arith, same, some)) ∙ a.first a.some;
        some = let was = a.some in omega (arith, was);
      }
      go false = record { tid = a.tid; serial = a.serial; prepared = refl; changes = a.changes; first = a.first; some = a.some }

  first_alike : (e.kind == 1) ≡ true → IsAlike (first_told p e) (more_open p e (new_unit e.tid e.serial))
  first_alike change = subst (λ (b : Bool). IsAlike (first_told p e) (if b then with_position p e.file (new_unit e.tid e.serial) else record (new_unit e.tid e.serial) { prepared = true })) (sym change)
      (record { tid = refl; serial = refl; prepared = refl; changes = refl; first = λ some. refl; some = omega arith })

-- so after one entry more
module _ (p : ℕ) (e : Entry) (t : JournalScan) (ws : List OpenUnit) (kinds : (e.kind == 1) ≡ false → (e.kind == 3) ≡ false → (e.kind == 2) ≡ true) (alike : AreAlike t.units ws) (may : is_out_of_order e t ≡ false) where
  unsettled : list_any (same_id e.serial) t.settled ≡ false
  unsettled = (or_parts _ _ may).0

  unrefused : unit_refuses e (length t.units) (find_unit e.serial t.units) ≡ false
  unrefused = (or_parts _ _ may).1

  unrefused_at : (o : Option UnitTold) → find_unit e.serial t.units ≡ o → unit_refuses e (length t.units) o ≡ false
  unrefused_at o is = subst (λ (x : Option UnitTold). unit_refuses e (length t.units) x ≡ false) is unrefused

  pub room_opened : (w : OpenUnit) → first_that (is_of e.serial) ws ≡ Some w → (e.kind == 3) ≡ false → (e.kind == 1) ≡ true → length w.positions < 1024
  room_opened w at open_ change = go (find_both e.serial t.units ws alike)
    where
      go : Both e.serial t.units ws → length w.positions < 1024
      go (neither gone none) = let never : ⊥ = (let e : ◌≡◌ {A = Option OpenUnit} None (Some w) = sym none ∙ at in cc) in absurd never
      go (each u y told there a) =
          let same = one y w (sym there ∙ at) in
          let few = (allowed p e (length t.units) kinds open_ u (unrefused_at (Some u) told)).1 change in
          let long = ap (λ (x : OpenUnit). length x.positions) same in let count = a.changes in
          omega (arith, few, long, count)

  pub places_opened : first_that (is_of e.serial) ws ≡ None → (e.kind == 1) ≡ true → length ws < 64
  places_opened none change = go (find_both e.serial t.units ws alike)
    where
      go : Both e.serial t.units ws → length ws < 64
      go (each u y told there a) = let never : ⊥ = (let e : ◌≡◌ {A = Option OpenUnit} None (Some y) = sym none ∙ there in cc) in absurd never
      go (neither gone none) =
          let refused = subst (λ (b : Bool). (b && nat_le 64 (length t.units)) ≡ false) change (unrefused_at None gone) in
          let few = leb-false 64 (length t.units) refused in let long = alike_long t.units ws alike in
          omega (arith, few, long)

  pub alike_after : AreAlike (units_after p e t.units) (opened_after p e ws)
  alike_after = go (e.kind == 3) refl (find_both e.serial t.units ws alike)
    where
      begun : (e.kind == 3) ≡ false → (b : Bool) → (e.kind == 1) ≡ b → AreAlike (if b then t.units ++ first_told p e ∷ [] else t.units) (if b then ws ++ more_open p e (new_unit e.tid e.serial) ∷ [] else ws)
      begun open_ true change = alike_push t.units ws (first_told p e) (more_open p e (new_unit e.tid e.serial)) alike (first_alike p e (length t.units) kinds open_ change)
      begun open_ false other = alike

      go : (b : Bool) → (e.kind == 3) ≡ b → Both e.serial t.units ws →
          AreAlike (if b then without_unit e.serial t.units else (if is_some (find_unit e.serial t.units) then with_unit e.serial (more_told e) t.units else (if e.kind == 1 then t.units ++ first_told p e ∷ [] else t.units)))
          (if b then without_first (is_of e.serial) ws else (elim (first_that (is_of e.serial) ws) [ Some w ↦ with_first (is_of e.serial) (more_open p e w) ws | None ↦ if e.kind == 1 then ws ++ more_open p e (new_unit e.tid e.serial) ∷ [] else ws ]))
      go true is both = alike_less e.serial t.units ws alike
      go false is (neither gone none) =
          subst (λ (o : Option UnitTold). AreAlike (if is_some o then with_unit e.serial (more_told e) t.units else (if e.kind == 1 then t.units ++ first_told p e ∷ [] else t.units)) (elim (first_that (is_of e.serial) ws) [ Some w ↦ with_first (is_of e.serial) (more_open p e w) ws | None ↦ if e.kind == 1 then ws ++ more_open p e (new_unit e.tid e.serial) ∷ [] else ws ])) (sym gone)
          (subst (λ (o : Option OpenUnit). AreAlike (if e.kind == 1 then t.units ++ first_told p e ∷ [] else t.units) (elim o [ Some w ↦ with_first (is_of e.serial) (more_open p e w) ws | None ↦ if e.kind == 1 then ws ++ more_open p e (new_unit e.tid e.serial) ∷ [] else ws ])) (sym none)
          (begun is (e.kind == 1) refl))
      go false is (each u w told there a) =
          subst (λ (o : Option UnitTold). AreAlike (if is_some o then with_unit e.serial (more_told e) t.units else (if e.kind == 1 then t.units ++ first_told p e ∷ [] else t.units)) (elim (first_that (is_of e.serial) ws) [ Some w ↦ with_first (is_of e.serial) (more_open p e w) ws | None ↦ if e.kind == 1 then ws ++ more_open p e (new_unit e.tid e.serial) ∷ [] else ws ])) (sym told)
          (subst (λ (o : Option OpenUnit). AreAlike (with_unit e.serial (more_told e) t.units) (elim o [ Some w ↦ with_first (is_of e.serial) (more_open p e w) ws | None ↦ if e.kind == 1 then ws ++ more_open p e (new_unit e.tid e.serial) ∷ [] else ws ])) (sym there)
          (alike_with e.serial (more_told e) (more_open p e w) t.units ws u alike told (more_alike p e (length t.units) kinds is u w a)))

-- No branch has two.

-- a unit in the place of one of its branch
module _ (x y : Id) (w v : OpenUnit) (same : v.serial ≡ w.serial) where
  none_with : (ws : List OpenUnit) → first_that (is_of y) ws ≡ Some w → first_that (is_of x) ws ≡ None → first_that (is_of x) (with_first (is_of y) v ws) ≡ None
  none_with [] at none = refl
  none_with (u ∷ ws) at none = let parts = none_parts (same_id x u.serial) u (first_that (is_of x) ws) none in go (same_id y u.serial) at (λ later. none_with ws later parts.1) parts.0 parts.1
    where
      go : (b : Bool) → (if b then Some u else first_that (is_of y) ws) ≡ Some w → (first_that (is_of y) ws ≡ Some w → first_that (is_of x) (with_first (is_of y) v ws) ≡ None) → same_id x u.serial ≡ false → first_that (is_of x) ws ≡ None →
          first_that (is_of x) (if b then v ∷ ws else u ∷ with_first (is_of y) v ws) ≡ None
      go true here rest other none = none_so (same_id x v.serial) v (first_that (is_of x) ws) (ap (same_id x) (same ∙ sym (ap (λ (z : OpenUnit). z.serial) (one u w here))) ∙ other) none
      go false here rest other none = none_so (same_id x u.serial) u (first_that (is_of x) (with_first (is_of y) v ws)) other (rest here)

  none_before : (ws : List OpenUnit) → first_that (is_of y) ws ≡ Some w → first_that (is_of x) (with_first (is_of y) v ws) ≡ None → first_that (is_of x) ws ≡ None
  none_before [] at none = refl
  none_before (u ∷ ws) at none = go (same_id y u.serial) at none (none_before ws)
    where
      go : (b : Bool) → (if b then Some u else first_that (is_of y) ws) ≡ Some w → first_that (is_of x) (if b then v ∷ ws else u ∷ with_first (is_of y) v ws) ≡ None →
          (first_that (is_of y) ws ≡ Some w → first_that (is_of x) (with_first (is_of y) v ws) ≡ None → first_that (is_of x) ws ≡ None) → first_that (is_of x) (u ∷ ws) ≡ None
      go true here gone rest =
          let parts = none_parts (same_id x v.serial) v (first_that (is_of x) ws) gone in
          none_so (same_id x u.serial) u (first_that (is_of x) ws) (ap (same_id x) (ap (λ (z : OpenUnit). z.serial) (one u w here) ∙ sym same) ∙ parts.0) parts.1
      go false here gone rest =
          let parts = none_parts (same_id x u.serial) u (first_that (is_of x) (with_first (is_of y) v ws)) gone in
          none_so (same_id x u.serial) u (first_that (is_of x) ws) parts.0 (rest here parts.1)

differ_with : (y : Id) (w v : OpenUnit) (ws : List OpenUnit) → v.serial ≡ w.serial → first_that (is_of y) ws ≡ Some w → Differ ws → Differ (with_first (is_of y) v ws)
differ_with y w v [] same at d = tt
differ_with y w v (u ∷ ws) same at d = go (same_id y u.serial) at (λ later. differ_with y w v ws same later d.1)
  where
    go : (b : Bool) → (if b then Some u else first_that (is_of y) ws) ≡ Some w → (first_that (is_of y) ws ≡ Some w → Differ (with_first (is_of y) v ws)) → Differ (if b then v ∷ ws else u ∷ with_first (is_of y) v ws)
    go true here rest = (ap (λ (x : Id). first_that (is_of x) ws) (same ∙ sym (ap (λ (z : OpenUnit). z.serial) (one u w here))) ∙ d.0, d.1)
    go false here rest = (none_with u.serial y w v same ws here d.0, rest here)

none_less : (x y : Id) (ws : List OpenUnit) → first_that (is_of x) ws ≡ None → first_that (is_of x) (without_first (is_of y) ws) ≡ None
none_less x y [] none = refl
none_less x y (u ∷ ws) none = let parts = none_parts (same_id x u.serial) u (first_that (is_of x) ws) none in go (same_id y u.serial) (none_less x y ws parts.1) parts.0 parts.1
  where
    go : (b : Bool) → first_that (is_of x) (without_first (is_of y) ws) ≡ None → same_id x u.serial ≡ false → first_that (is_of x) ws ≡ None → first_that (is_of x) (if b then ws else u ∷ without_first (is_of y) ws) ≡ None
    go true rest other none = none
    go false rest other none = none_so (same_id x u.serial) u (first_that (is_of x) (without_first (is_of y) ws)) other rest

-- the one that went was of another branch
none_unless : (x y : Id) (ws : List OpenUnit) → same_id x y ≡ false → first_that (is_of x) (without_first (is_of y) ws) ≡ None → first_that (is_of x) ws ≡ None
none_unless x y [] other none = refl
none_unless x y (u ∷ ws) other none = go (same_id y u.serial) refl none (none_unless x y ws other)
  where
    go : (b : Bool) → same_id y u.serial ≡ b → first_that (is_of x) (if b then ws else u ∷ without_first (is_of y) ws) ≡ None → (first_that (is_of x) (without_first (is_of y) ws) ≡ None → first_that (is_of x) ws ≡ None) → first_that (is_of x) (u ∷ ws) ≡ None
    go true is gone rest = none_so (same_id x u.serial) u (first_that (is_of x) ws) (ap (same_id x) (sym (id_is y u.serial is)) ∙ other) gone
    go false is gone rest = let parts = none_parts (same_id x u.serial) u (first_that (is_of x) (without_first (is_of y) ws)) gone in none_so (same_id x u.serial) u (first_that (is_of x) ws) parts.0 (rest parts.1)

differ_less : (y : Id) (ws : List OpenUnit) → Differ ws → Differ (without_first (is_of y) ws)
differ_less y [] d = tt
differ_less y (u ∷ ws) d = go (same_id y u.serial) (differ_less y ws d.1)
  where
    go : (b : Bool) → Differ (without_first (is_of y) ws) → Differ (if b then ws else u ∷ without_first (is_of y) ws)
    go true rest = d.1
    go false rest = (none_less u.serial y ws d.0, rest)

none_push : (x : Id) (ws : List OpenUnit) (w : OpenUnit) → first_that (is_of x) ws ≡ None → same_id x w.serial ≡ false → first_that (is_of x) (ws ++ w ∷ []) ≡ None
none_push x [] w none other = none_so (same_id x w.serial) w None other refl
none_push x (u ∷ ws) w none other = let parts = none_parts (same_id x u.serial) u (first_that (is_of x) ws) none in none_so (same_id x u.serial) u (first_that (is_of x) (ws ++ w ∷ [])) parts.0 (none_push x ws w parts.1 other)

none_pushed : (x : Id) (ws : List OpenUnit) (w : OpenUnit) → first_that (is_of x) (ws ++ w ∷ []) ≡ None → (first_that (is_of x) ws ≡ None) × (same_id x w.serial ≡ false)
none_pushed x [] w none = (refl, (none_parts (same_id x w.serial) w None none).0)
none_pushed x (u ∷ ws) w none =
    let parts = none_parts (same_id x u.serial) u (first_that (is_of x) (ws ++ w ∷ [])) none in
    let rest = none_pushed x ws w parts.1 in
    (none_so (same_id x u.serial) u (first_that (is_of x) ws) parts.0 rest.0, rest.1)

differ_push : (ws : List OpenUnit) (w : OpenUnit) → Differ ws → first_that (is_of w.serial) ws ≡ None → Differ (ws ++ w ∷ [])
differ_push [] w d none = (refl, tt)
differ_push (u ∷ ws) w d none =
    let parts = none_parts (same_id w.serial u.serial) u (first_that (is_of w.serial) ws) none in
    (none_push u.serial ws w d.0 (turned w.serial u.serial parts.0), differ_push ws w d.1 parts.1)

-- Where changes begin, by branch: one entry more, which begins at a position.

abbrev pub Found : (Id → List ℕ) → List OpenUnit → Type 0
Found f ws = AllByRecursion (λ (w : OpenUnit). w.positions ≡ f w.serial) ws

-- no unit: its branch is settled, or has no change
abbrev pub Fresh : (Id → List ℕ) → List Id → List OpenUnit → Type 0
Fresh f settled ws = (x : Id) → first_that (is_of x) ws ≡ None → list_any (same_id x) settled ≡ false → f x ≡ []

module _ (old new : Id → List ℕ) (p : ℕ) (e : Entry) (on : (x : Id) → new x ≡ old x ++ (if is_change_of x e then p ∷ [] else [])) where
  stays : (x : Id) → is_change_of x e ≡ false → new x ≡ old x
  stays x is = on x ∙ ap (λ (b : Bool). old x ++ (if b then p ∷ [] else [])) is ∙ append-nil (old x)

  grows : (x : Id) → is_change_of x e ≡ true → new x ≡ old x ++ p ∷ []
  grows x is = on x ∙ ap (λ (b : Bool). old x ++ (if b then p ∷ [] else [])) is

  no_change : (e.kind == 1) ≡ false → (x : Id) → is_change_of x e ≡ false
  no_change is x = ap (λ (b : Bool). b && same_id x e.serial) is

  not_its : (x : Id) → same_id e.serial x ≡ false → is_change_of x e ≡ false
  not_its x other = ap (λ (b : Bool). (e.kind == 1) && b) (turned e.serial x other) ∙ off (e.kind == 1)
    where
      off : (b : Bool) → (b && false) ≡ false
      off true = refl
      off false = refl

  found_unchanged : (e.kind == 1) ≡ false → (ws : List OpenUnit) → Found old ws → Found new ws
  found_unchanged is [] all = tt
  found_unchanged is (w ∷ ws) all = (all.0 ∙ sym (stays w.serial (no_change is w.serial)), found_unchanged is ws all.1)

  found_others : (ws : List OpenUnit) → AllByRecursion (λ (w : OpenUnit). same_id e.serial w.serial ≡ false) ws → Found old ws → Found new ws
  found_others [] other all = tt
  found_others (w ∷ ws) other all = (all.0 ∙ sym (stays w.serial (not_its w.serial other.0)), found_others ws other.1 all.1)

  found_with : (e.kind == 1) ≡ true → (ws : List OpenUnit) (w : OpenUnit) → Differ ws → first_that (is_of e.serial) ws ≡ Some w → Found old ws → Found new (with_first (is_of e.serial) (with_position p e.file w) ws)
  found_with is [] w d at all = tt
  found_with is (u ∷ ws) w d at all = go (same_id e.serial u.serial) refl at (λ later. found_with is ws w d.1 later all.1)
    where
      go : (b : Bool) → same_id e.serial u.serial ≡ b → (if b then Some u else first_that (is_of e.serial) ws) ≡ Some w → (first_that (is_of e.serial) ws ≡ Some w → Found new (with_first (is_of e.serial) (with_position p e.file w) ws)) →
          Found new (if b then with_position p e.file w ∷ ws else u ∷ with_first (is_of e.serial) (with_position p e.file w) ws)
      go true own here rest =
          let same = one u w here in
          let mine : is_change_of w.serial e ≡ true = and_from _ _ is (subst (λ (x : Id). same_id x e.serial ≡ true) (id_is e.serial u.serial own ∙ ap (λ (z : OpenUnit). z.serial) same) (id_itself e.serial)) in (
            ap (λ (ps : List ℕ). ps ++ p ∷ []) (subst (λ (z : OpenUnit). z.positions ≡ old z.serial) same all.0) ∙ sym (grows w.serial mine),
            found_others ws (subst (λ (x : Id). AllByRecursion (λ (w : OpenUnit). same_id x w.serial ≡ false) ws) (sym (id_is e.serial u.serial own)) (others u.serial ws d.0)) all.1,
          )
      go false own here rest = (all.0 ∙ sym (stays u.serial (not_its u.serial own)), rest here)

  -- what the units after it are
  module _ (t : JournalScan) (ws : List OpenUnit) (found : Found old ws) (differ : Differ ws) (fresh : Fresh old t.settled ws) (off : list_any (same_id e.serial) t.settled ≡ false) where
    abbrev After : List OpenUnit → List Id → Type 0
    After vs settled = Found new vs × Differ vs × Fresh new settled vs

    settled_one : (e.kind == 3) ≡ true → (e.kind == 1) ≡ false → After (without_first (is_of e.serial) ws) (t.settled ++ e.serial ∷ [])
    settled_one is none = (
      found_unchanged none (without_first (is_of e.serial) ws) (all_less (λ (w : OpenUnit). w.positions ≡ old w.serial) (is_of e.serial) ws found),
      differ_less e.serial ws differ,
      λ x gone out.
          let parts = or_parts (list_any (same_id x) t.settled) (same_id x e.serial || false) (sym (list_any-append (same_id x) t.settled (e.serial ∷ [])) ∙ out) in
          let other = (or_parts (same_id x e.serial) false parts.1).0 in
          stays x (no_change none x) ∙ fresh x (none_unless x e.serial ws other gone) parts.0,
    )

    more_one : (w v : OpenUnit) → first_that (is_of e.serial) ws ≡ Some w → v.serial ≡ w.serial → Found new (with_first (is_of e.serial) v ws) → After (with_first (is_of e.serial) v ws) t.settled
    more_one w v at same all = (
      all,
      differ_with e.serial w v ws same at differ,
      λ x gone out. stays x (not_its x (turned x e.serial (apart x gone))) ∙ fresh x (none_before x e.serial w v same ws at gone) out,
    )
      where
        apart : (x : Id) → first_that (is_of x) (with_first (is_of e.serial) v ws) ≡ None → same_id x e.serial ≡ false
        apart x gone =
            let none = none_before x e.serial w v same ws at gone in
            let other = first_holds (λ (u : OpenUnit). same_id x u.serial ≡ false) (is_of e.serial) ws w (others x ws none) at in
            let own : same_id e.serial w.serial ≡ true = first_is (is_of e.serial) ws w at in
            ap (same_id x) (id_is e.serial w.serial own) ∙ other

    new_one : (v : OpenUnit) → first_that (is_of e.serial) ws ≡ None → v.serial ≡ e.serial → v.positions ≡ new e.serial → After (ws ++ v ∷ []) t.settled
    new_one v none same is = (
      all_behind (λ (w : OpenUnit). w.positions ≡ new w.serial) ws v (is ∙ ap new (sym same)) (found_others ws (others e.serial ws none) found),
      differ_push ws v differ (ap (λ (x : Id). first_that (is_of x) ws) same ∙ none),
      λ x gone out. let parts = none_pushed x ws v gone in stays x (not_its x (turned x e.serial (ap (same_id x) (sym same) ∙ parts.1))) ∙ fresh x parts.0 out,
    )

    pub found_after : (kinds : (e.kind == 3) ≡ true → (e.kind == 1) ≡ false) → After (opened_after p e ws) (if e.kind == 3 then t.settled ++ e.serial ∷ [] else t.settled)
    found_after kinds = go (e.kind == 3) refl (first_that (is_of e.serial) ws) refl
      where
        other : (w : OpenUnit) → first_that (is_of e.serial) ws ≡ Some w → (b : Bool) → (e.kind == 1) ≡ b → After (with_first (is_of e.serial) (if b then with_position p e.file w else record w { prepared = true }) ws) t.settled
        other w at true is = more_one w (with_position p e.file w) at refl (found_with is ws w differ at found)
        other w at false is =
            more_one w (record w { prepared = true }) at refl
            (found_unchanged is (with_first (is_of e.serial) (record w { prepared = true }) ws)
            (all_first (λ (u : OpenUnit). u.positions ≡ old u.serial) (is_of e.serial) (record w { prepared = true }) ws (first_holds (λ (u : OpenUnit). u.positions ≡ old u.serial) (is_of e.serial) ws w found at) found))

        first : first_that (is_of e.serial) ws ≡ None → (b : Bool) → (e.kind == 1) ≡ b → After (if b then ws ++ more_open p e (new_unit e.tid e.serial) ∷ [] else ws) t.settled
        first none true is = subst (λ (b : Bool). After (ws ++ (if b then with_position p e.file (new_unit e.tid e.serial) else record (new_unit e.tid e.serial) { prepared = true }) ∷ []) t.settled) (sym is)
            (new_one (with_position p e.file (new_unit e.tid e.serial)) none refl
            (ap (λ (ps : List ℕ). ps ++ p ∷ []) (sym (fresh e.serial none off)) ∙ sym (grows e.serial (and_from _ _ is (id_itself e.serial)))))
        first none false is = (found_unchanged is ws found, differ, λ x gone out. stays x (no_change is x) ∙ fresh x gone out)

        go : (b : Bool) → (e.kind == 3) ≡ b → (o : Option OpenUnit) → first_that (is_of e.serial) ws ≡ o →
            After (if b then without_first (is_of e.serial) ws else (elim o [ Some w ↦ with_first (is_of e.serial) (more_open p e w) ws | None ↦ if e.kind == 1 then ws ++ more_open p e (new_unit e.tid e.serial) ∷ [] else ws ])) (if b then t.settled ++ e.serial ∷ [] else t.settled)
        go true is o at = settled_one is (kinds is)
        go false is (Some w) at = other w at (e.kind == 1) refl
        go false is None at = first at (e.kind == 1) refl
