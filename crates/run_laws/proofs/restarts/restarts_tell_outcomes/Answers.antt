use Rattle.run_laws.proofs.AbortsAsked.{caused_hold}
use Rattle.run_laws.proofs.AllShown.{shown_hold}
use Rattle.run_laws.proofs.LastBoots.{lasts_hold}
use Rattle.run_laws.proofs.AskedHold.{asked_hold}
use Rattle.run_laws.proofs.BootLines.{boots_show_last}
use Rattle.run_laws.proofs.Interrupted.{interrupted_hold}
use Rattle.run_laws.proofs.RestartsDecide.{restarts_hold}
use Rattle.run_laws.proofs.restarts.restarts_tell_outcomes.Goals as goal

pub returns-clause-shown : goal.returns-clause-shown
returns-clause-shown c = shown_hold

pub returns-clause-lasts : goal.returns-clause-lasts
returns-clause-lasts c = lasts_hold

pub returns-clause-boots : goal.returns-clause-boots
returns-clause-boots c = boots_show_last

pub returns-clause-decided : goal.returns-clause-decided
returns-clause-decided c = restarts_hold

pub returns-clause-interrupted : goal.returns-clause-interrupted
returns-clause-interrupted c = interrupted_hold

pub returns-clause-asked : goal.returns-clause-asked
returns-clause-asked c = asked_hold

pub returns-clause-caused : goal.returns-clause-caused
returns-clause-caused c = caused_hold
