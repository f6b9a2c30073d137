use Rattle.std.proofs.Common.{◌≡◌, drop, map}
use Rattle.std.specs.List.{list_any}
use Rattle.commit_protocol.specs.Messages.{same_id}
use Rattle.vms_base.specs.Ids.{serial_of}
use Rattle.tm_types.proofs.records.has_serial.Given as goal

abbrev pub invariant-loop-s : goal.invariant-loop-s
invariant-loop-s l = list_any (λ x. same_id x (serial_of l.serial)) (map serial_of (drop l.s-index l.s-items)) ≡ list_any (λ x. same_id x (serial_of l.serial)) (map serial_of l.s-items)
