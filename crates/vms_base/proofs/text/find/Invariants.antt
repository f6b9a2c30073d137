use Rattle.std.proofs.Common.{◌≡◌, drop, map}
use Rattle.vms_model.specs.Words.{among}
use Rattle.vms_base.proofs.text.find.Given as goal

abbrev pub invariant-loop-name : goal.invariant-loop-name
invariant-loop-name g l = among (map (λ row. (row.0.now, row.1)) l.rows) l.text ≡ among (map (λ row. (row.0.now, row.1)) (drop l.name-index l.rows)) l.text
