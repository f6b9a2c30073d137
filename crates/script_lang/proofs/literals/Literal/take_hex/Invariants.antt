use Rattle.std.proofs.Common.{◌≡◌, ◌≤◌, ◌+◌, ◌++◌, length}
use Rattle.std.specs.Option.{option_map}
use Rattle.script_model.specs.Operands.{hex_pairs}
use Rattle.script_lang.proofs.literals.Literal.take_hex.Given as goal

abbrev pub invariant-loop-rest : goal.invariant-loop-rest
invariant-loop-rest l = record {
  few : length l.self + length l.rest ≤ 20000;
  reads : hex_pairs l.text ≡ option_map (λ rest. l.self ++ rest) (hex_pairs l.rest);
}

abbrev pub decreases-loop-rest : goal.decreases-loop-rest
decreases-loop-rest l = length l.rest
