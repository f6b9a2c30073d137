-- What the home block of a volume tells of its node.
use Rattle.std.specs.Prelude.{◌≡◌, ℕ, Option, Some, None, length, option_map}
use Rattle.lmcp_log.specs.volume_format.declared.home.Home.{Home}
use Rattle.lmcp_log.specs.volume_format.declared.home.Settled.{Settled}
use Rattle.lmcp_log.specs.volume_format.declared.home.Ending.{Ending}
use Rattle.lmcp_log.specs.volume_format.declared.home.Ending.TheVariants as ending
use Rattle.unit_laws.specs.vms_model.Transactions.{Outcome, Commit, Abort, Reason}
use Rattle.lmcp_log.specs.vms_base.Ids.{tid_of, serial_of}
use Rattle.lmcp_log.specs.vms_base.Outcomes.{reason_of}
use Rattle.world_laws.specs.run_model.World.{Node, Settlement, Sound}

-- a settlement that a home tells, at this moment
abbrev pub settlement_of : ℕ → Settled → Settlement
settlement_of moment s = record { tid = tid_of s.tid; serial = serial_of s.serial; outcome = outcome_of s.ending; reason = reason_in s.ending; moment = moment }
  where
    outcome_of : Ending → Outcome
    outcome_of ending.Commit = Commit
    outcome_of (ending.Abort r) = Abort

    reason_in : Ending → Option Reason
    reason_in ending.Commit = None
    reason_in (ending.Abort r) = Some (reason_of r)

-- the last settlement that a home tells: its moment is the greatest
abbrev pub last_of : Home → Option Settlement
last_of h = option_map (settlement_of h.greatest_moment.0) h.last

-- a node of the world has this home's sizes, counts and last settlement
pub record HasHome (h : Home) (n : Node) : Type 0 where
  pub volume : n.durable.volume ≡ Sound
  pub slots : length n.durable.log ≡ h.slots
  pub journal : n.durable.journal ≡ h.ru_blocks
  pub boot : n.durable.boot ≡ h.boot
  pub greatest : n.durable.greatest ≡ h.greatest_moment.0
  pub last : n.durable.last ≡ last_of h
