use Rattle.std.proofs.Common.{◌≡◌, ◌++◌, take, drop}
use Rattle.std.specs.Option.{option_map}
use Rattle.script_model.specs.Operands.{to_quote}
use Rattle.script_lang.proofs.literals.quoted.Given as goal

abbrev pub invariant-loop-i : goal.invariant-loop-i
invariant-loop-i l = to_quote l.text ≡ option_map (λ rest. take l.i l.text ++ rest) (to_quote (drop l.i l.text))
