use Rattle.std.proofs.Common.{◌≡◌, None, map, take}
use Rattle.tm_types.specs.Effects.{effect_of}
use Rattle.vms_base.specs.Ids.{tid_of}
use Rattle.node_requests.specs.Transacting.{ending_in}
use Rattle.node_requests.proofs.transactions.ending_form.Given as goal

abbrev pub invariant-loop-effect : goal.invariant-loop-effect
invariant-loop-effect l = record {
  none : ending_in (tid_of l.tid) (map effect_of (take l.effect-index l.effects)) ≡ None;
}
