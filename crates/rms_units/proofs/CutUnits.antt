-- A unit that notes where the entries of its truncation begin.
use Rattle.std.proofs.Common.{◌≡◌, ℕ, zero, suc, ◌+◌, ◌-◌, ◌<◌, ◌≤◌, List, [], ◌∷◌, Option, Some, None, IfSome, length, drop, get_or, slice_set, refl, sym, ap, ◌∙◌, arith, add-one, drop-cons, get_or-set_same, length-append}
use Rattle.std.proofs.Math.ListN.{drop_of_length-le}
use Rattle.std.proofs.lemmas.List.{set-get_or}
use Rattle.unit_table.specs.Units.{OpenUnit, Units, unit_at, with_position, with_unit}
use Rattle.volume_files.proofs.Places.{within_list}
use Rattle.rms_units.specs.Truncating.{with_positions}

twice : (xs : List (Option OpenUnit)) (i : ℕ) (a b : Option OpenUnit) → slice_set (slice_set xs i a) i b ≡ slice_set xs i b
twice [] i a b = refl
twice (x ∷ xs) zero a b = refl
twice (x ∷ xs) (suc i) a b = ap (λ (ys : List (Option OpenUnit)). x ∷ ys) (twice xs i a b)

-- What is left of the positions leads to the same units as all of them.
pub record Noting (ps : List ℕ) (i place file : ℕ) (first now : Units) : Type 0 where
  pub unit : OpenUnit
  pub at : unit_at now.places place ≡ Some unit
  pub room : length unit.positions + (length ps - i) ≤ 1024
  pub leads : (u : OpenUnit) → unit_at first.places place ≡ Some u → with_unit place (with_positions (drop i ps) file unit) now ≡ with_unit place (with_positions ps file u) first

module _ (ps : List ℕ) (place file : ℕ) (first : Units) where
  same_unit : (u x : OpenUnit) (o : Option OpenUnit) → o ≡ Some u → o ≡ Some x → u ≡ x
  same_unit u x o a b = let e : Some u ≡ Some x = sym a ∙ b in cc

  pub begun_so : (o : Option OpenUnit) → unit_at first.places place ≡ o → (o ≡ None → ⊥) → IfSome o (λ u. length u.positions + length ps ≤ 1024) → Noting ps 0 place file first first
  begun_so None is some room = absurd (some refl)
  begun_so (Some u) is some room = record {
    unit = u;
    at = is;
    room = omega (arith, room);
    leads = λ x at. ap (λ (y : OpenUnit). with_unit place (with_positions ps file y) first) (same_unit u x (unit_at first.places place) is at);
  }

  pub noted_so : (i : ℕ) (now new : Units) → i < length ps → (n : Noting ps i place file first now) → new ≡ with_unit place (with_position (get_or ps i 0) file n.unit) now → Noting ps (i + 1) place file first new
  noted_so i now new below n is =
      let p = get_or ps i 0 in
      let next = with_position p file n.unit in
      let cons : drop i ps ≡ p ∷ drop (i + 1) ps = rw (add-one, drop-cons ps i 0) refl in
      let within = within_list now.places place n.unit n.at in
      record {
        unit = next;
        at = ap (λ (t : Units). unit_at t.places place) is ∙ get_or-set_same now.places place (Some next) None within;
        room = let long = length-append n.unit.positions (p ∷ []) in let room = n.room in omega (arith, long, room, below);
        leads = λ u at.
            ap (with_unit place (with_positions (drop (i + 1) ps) file next)) is
            ∙ ap (λ (us : List (Option OpenUnit)). record now { places = us }) (twice now.places place (Some next) (Some (with_positions (drop (i + 1) ps) file next)))
            ∙ ap (λ (qs : List ℕ). with_unit place (with_positions qs file n.unit) now) (sym cons) ∙ n.leads u at;
      }

  pub all_noted : (i : ℕ) (now : Units) → length ps ≤ i → Noting ps i place file first now → (u : OpenUnit) → unit_at first.places place ≡ Some u → now ≡ with_unit place (with_positions ps file u) first
  all_noted i now done n u at =
      ap (λ (us : List (Option OpenUnit)). record now { places = us }) (sym (set-get_or now.places place None) ∙ ap (slice_set now.places place) n.at)
      ∙ ap (λ (qs : List ℕ). with_unit place (with_positions qs file n.unit) now) (sym (drop_of_length-le ps done)) ∙ n.leads u at
