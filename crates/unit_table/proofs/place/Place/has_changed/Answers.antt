use Rattle.std.proofs.Common.{◌≡◌, ◌≤◌, false, Option, Some, None, IfSome, List, Bool, option_map, subst, sym, ◌∙◌, arith}
use Rattle.std.proofs.lemmas.List.{get_or_past}
use Rattle.std.proofs.lemmas.Bool.Decides.{nat_tests}
use Rattle.std.specs.Prelude.{ℕ, nat_lt, slice_index_or}
use Rattle.vms_base.specs.Ids.{serial_of, tid_of}
use Rattle.unit_table.specs.declared.place.Branch.{Branch}
use Rattle.unit_table.specs.Units.{OpenUnit, has_changed}
use Rattle.unit_table.proofs.place.Place.has_changed.Goals as goal

-- behind the last number no file was changed
past : (file : ℕ) (b : Option Branch) (positions : List ℕ) (files : List Bool) (prepared : Bool) → slice_index_or files file false ≡ nat_lt file 64 → IfSome (option_map (λ (x : Branch). record { tid = tid_of x.tid; serial = serial_of x.serial; positions = positions; files = files; prepared = prepared }) b) (λ (u : OpenUnit). nat_lt file 64 ≡ has_changed u file)
past file None positions files prepared none = tt
past file (Some b) positions files prepared none = sym none

not_below : (file : ℕ) → 64 ≤ file → false ≡ nat_lt file 64
not_below file le = grind (arith, nat_tests)

pub returns-else-file-lt64 : goal.returns-else-file-lt64
returns-else-file-lt64 c =
    let inside = c.self.inside in
    subst (λ (x : Option OpenUnit). IfSome x (λ u. nat_lt c.args.file 64 ≡ has_changed u c.args.file)) c.self.view_is
    (past c.args.file inside.branch inside.positions.items inside.files inside.is_prepared (get_or_past inside.files c.args.file false (let long = c.self.invariant.2 in let far = c.if-file-lt64.false in omega (arith, long, far)) ∙ not_below c.args.file c.if-file-lt64.false))
