use Rattle.std.proofs.Common.{◌≡◌, ◌≤◌, drop}
use Rattle.vms_model.specs.Words.{number_from}
use Rattle.vms_base.proofs.text.read_digits.Given as goal

abbrev pub invariant-loop-b : goal.invariant-loop-b
invariant-loop-b l = record {
  within : l.n ≤ l.limit;
  reads : number_from l.limit 0 l.text ≡ number_from l.limit l.n (drop l.b-index l.text);
}
