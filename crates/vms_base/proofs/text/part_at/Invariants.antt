use Rattle.std.proofs.Common.{◌≡◌, ◌++◌, drop, take}
use Rattle.std.specs.Option.{option_map}
use Rattle.vms_model.specs.Words.{parted_at}
use Rattle.vms_base.proofs.text.part_at.Given as goal

abbrev pub invariant-loop-i : goal.invariant-loop-i
invariant-loop-i l = parted_at l.mark l.text ≡ option_map (λ p. (take l.i l.text ++ p.0, p.1)) (parted_at l.mark (drop l.i l.text))
