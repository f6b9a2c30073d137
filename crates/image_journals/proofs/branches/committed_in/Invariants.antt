use Rattle.std.proofs.Common.{◌≡◌, drop, map}
use Rattle.std.specs.Prelude.{◌||◌}
use Rattle.vms_model.specs.Ids.{Id}
use Rattle.recovery_model.specs.Places.{committed}
use Rattle.image_journals.specs.Headers.{header_told, passes, is_among}
use Rattle.image_journals.proofs.branches.committed_in.Given as goal

-- what is found, and what is to come
abbrev pub invariant-loop-entry : goal.invariant-loop-entry
invariant-loop-entry l = (s : Id) → (is_among s l.found.keys || committed (passes l.counting) (map header_told (drop l.entry-index l.entries)) s) ≡ committed (passes l.counting) (map header_told l.entries) s
