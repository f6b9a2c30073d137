use Rattle.volume.proofs.Empties.{gate_shut, gate_touched, gate_and_rest, on_ok}
use Rattle.volume.proofs.empty.format_disk.Goals as goal

pub returns-clause-closed : goal.returns-clause-closed
returns-clause-closed g c = on_ok c.write_empty.result c.write_empty.ensures.gate (λ gate. gate_shut (g.D.Disk.state c.write_empty.new.disk).seen gate)

pub returns-in_err-close_gate-clause-touches : goal.returns-in_err-close_gate-clause-touches
returns-in_err-close_gate-clause-touches g c = gate_touched c.args.home.now.slots _ _ c.close_gate.ensures.touches

pub returns-clause-touches : goal.returns-clause-touches
returns-clause-touches g c = gate_and_rest c.args.home.now.slots _ _ _ c.close_gate.ensures.touches c.write_empty.ensures.touches
