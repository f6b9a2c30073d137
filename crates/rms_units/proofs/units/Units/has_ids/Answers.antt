use Rattle.std.proofs.Common.{◌≡◌, ℕ, Option, Some, None, IfSome, subst}
use Rattle.unit_table.specs.Units.{OpenUnit}
use Rattle.vms_base.specs.Ids.{serial_of, tid_of}
use Rattle.vms_model.specs.Ids.{IsId}
use Rattle.rms_units.specs.State.{unit_of}
use Rattle.rms_units.proofs.units.Units.has_ids.Goals as goal

some_as : (P Q : OpenUnit → Type 0) (o : Option OpenUnit) → ((u : OpenUnit) → P u → Q u) → IfSome o P → IfSome o Q
some_as P Q (Some u) f h = f u h
some_as P Q None f h = h

pub returns : goal.returns
returns c =
    let b = c.branch-branch.result in
    some_as (λ (u : OpenUnit). (tid_of b.tid ≡ u.tid) × (serial_of b.serial ≡ u.serial)) (λ (u : OpenUnit). IsId u.tid × IsId u.serial) (unit_of c.args.unit.now c.args.self.now)
    (λ u is. (subst IsId is.0 c.put_id.ensures.id, subst IsId is.1 c.put_id-2.ensures.id))
    (subst (λ (p : ℕ). IfSome (unit_of p c.args.self.now) (λ (u : OpenUnit). (tid_of b.tid ≡ u.tid) × (serial_of b.serial ≡ u.serial))) c.unit.view_is c.branch-branch.ensures)
