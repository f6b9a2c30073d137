use Rattle.std.proofs.Common.{◌≡◌, ◌≤◌, ℕ, Bool, true, List, Option, Some, None, length, option_map, refl, sym, ap, ◌∙◌, arith}
use Rattle.std.proofs.lemmas.List.{set_past}
use Rattle.vms_base.specs.Ids.{serial_of, tid_of}
use Rattle.unit_table.specs.declared.place.Branch.{Branch}
use Rattle.unit_table.specs.Units.{OpenUnit, with_file}
use Rattle.unit_table.proofs.place.Place.mark.Goals as goal

-- a file behind the last number
past : (file : ℕ) (b : Option Branch) (positions : List ℕ) (files : List Bool) (prepared : Bool) → length files ≤ file →
    (let o : Option OpenUnit = option_map (λ (x : Branch). record { tid = tid_of x.tid; serial = serial_of x.serial; positions = positions; files = files; prepared = prepared }) b in o ≡ option_map (with_file file) o)
past file None positions files prepared far = refl
past file (Some b) positions files prepared far = λ i. Some (record { tid = tid_of b.tid; serial = serial_of b.serial; positions = positions; files = sym (set_past files file true far) i; prepared = prepared })

pub returns-else-number-lt64 : goal.returns-else-number-lt64
returns-else-number-lt64 c =
    let inside = c.self.inside in
    sym c.self.view_is ∙ past c.args.file inside.branch inside.positions.items inside.files inside.is_prepared (let long = c.self.invariant.2 in let far = c.if-number-lt64.false in omega (arith, long, far))
    ∙ ap (option_map (with_file c.args.file)) c.self.view_is
