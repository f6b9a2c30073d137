use Rattle.run_laws.proofs.LastSettled.{lasts_settled}
use Rattle.run_laws.proofs.SoundWorlds.{settles_once}
use Rattle.run_laws.proofs.ShownSettled.{shown_settled}
use Rattle.run_laws.proofs.Staying.{settlements_stay}
use Rattle.run_laws.proofs.settlements_last.Goals as goal

pub returns-clause-stay : goal.returns-clause-stay
returns-clause-stay c = settlements_stay

pub returns-clause-shown : goal.returns-clause-shown
returns-clause-shown c = shown_settled

pub returns-clause-lasts : goal.returns-clause-lasts
returns-clause-lasts c = lasts_settled

pub returns-clause-once : goal.returns-clause-once
returns-clause-once c = settles_once
