use Rattle.std.proofs.Common.{◌≡◌, ℕ, ◌<◌, true, false, Option, Some, None, IfSome, List, Bool, length, option_map, subst, arith, get_or-set_same}
use Rattle.vms_base.specs.Ids.{serial_of, tid_of}
use Rattle.unit_table.specs.declared.place.Branch.{Branch}
use Rattle.unit_table.specs.Units.{has_changed, with_position}
use Rattle.unit_table.proofs.place.Place.note.Goals as goal

changed : (position file : ℕ) (b : Option Branch) (positions : List ℕ) (files : List Bool) (prepared : Bool) → file < length files →
    IfSome (option_map (λ (x : Branch). record { tid = tid_of x.tid; serial = serial_of x.serial; positions = positions; files = files; prepared = prepared }) b) (λ u. has_changed (with_position position file u) file ≡ true)
changed position file None positions files prepared below = tt
changed position file (Some b) positions files prepared below = get_or-set_same files file true false below

pub returns-clause-changed : goal.returns-clause-changed
returns-clause-changed c =
    let inside = c.self.inside in
    subst (λ o. IfSome o (λ u. has_changed (with_position c.args.position c.args.file u) c.args.file ≡ true)) c.self.view_is
    (changed c.args.position c.args.file inside.branch inside.positions.items inside.files inside.is_prepared (let long = c.self.invariant.2 in let below = c.requires.file in omega (arith, long, below)))
