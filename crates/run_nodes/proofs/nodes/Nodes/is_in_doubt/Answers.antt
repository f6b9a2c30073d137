use Rattle.std.specs.Prelude.{slice_get, IsTrue, ◌↔◌}
use Rattle.std.specs.Option.{option_map}
use Rattle.std.proofs.Common.{◌≡◌, Some, sym, ◌∙◌, ap, subst}
use Rattle.vms_base.specs.Ids.{serial_of}
use Rattle.dtm_node.specs.Asking.{in_doubt_in}
use Rattle.run_nodes.proofs.Doubts.{same_serial}
use Rattle.run_nodes.proofs.nodes.Nodes.is_in_doubt.Goals as goal

pub returns-in-Some : goal.returns-in-Some
returns-in-Some g c = λ k e.
    let there = sym (c.in_doubt.ensures k e) ∙ ap (option_map serial_of) c.in-Some.is in
    subst (λ b. IsTrue b ↔ (slice_get (in_doubt_in k.place) c.args.number ≡ Some (serial_of c.args.serial.now))) (sym c.is_same.ensures) (same_serial (serial_of c.in-Some.other) (serial_of c.args.serial.now) (slice_get (in_doubt_in k.place) c.args.number) there)
