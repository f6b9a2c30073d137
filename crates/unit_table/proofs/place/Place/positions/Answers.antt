use Rattle.std.proofs.Common.{◌≡◌, ℕ, Option, Some, None, IfSome, List, Bool, length, option_map, subst}
use Rattle.vms_base.specs.Ids.{serial_of, tid_of}
use Rattle.unit_table.specs.declared.place.Branch.{Branch}
use Rattle.unit_table.specs.Units.{OpenUnit}
use Rattle.unit_table.proofs.place.Place.positions.Goals as goal

all_files : (b : Option Branch) (positions : List ℕ) (files : List Bool) (prepared : Bool) → length files ≡ 64 →
    IfSome (option_map (λ (x : Branch). record { tid = tid_of x.tid; serial = serial_of x.serial; positions = positions; files = files; prepared = prepared }) b) (λ (u : OpenUnit). length u.files ≡ 64)
all_files None positions files prepared long = tt
all_files (Some b) positions files prepared long = long

pub returns-clause-files : goal.returns-clause-files
returns-clause-files c =
    let inside = c.self.inside in
    subst (λ (o : Option OpenUnit). IfSome o (λ u. length u.files ≡ 64)) c.self.view_is (all_files inside.branch inside.positions.items inside.files inside.is_prepared c.self.invariant.2)
