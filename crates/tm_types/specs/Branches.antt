-- The branches of the protocol's table that the code's values are.
use Rattle.std.specs.Prelude.{ℕ, map}
use Rattle.std.specs.Option.{option_map}
use Rattle.commit_protocol.specs.Table as table
use Rattle.vms_base.specs.Ids.{tid_of, serial_of, bid_of}
use Rattle.vms_base.specs.declared.ids.Tid.{Tid}
use Rattle.vms_base.specs.declared.ids.Serial.{Serial}
use Rattle.vms_base.specs.declared.moments.Moment.{Moment}
use Rattle.tm_types.specs.Parts.{state_of, child_of, manager_of}
use Rattle.tm_types.specs.declared.branch.BranchState.{BranchState}

abbrev pub moment_of : Moment → ℕ
moment_of m = m.0

abbrev pub key_at : Tid → Serial → table.Key
key_at t s = record { tid = tid_of t; serial = serial_of s }

abbrev pub branch_of : BranchState → table.Branch
branch_of b = record {
  key = key_at b.tid b.serial;
  bid = option_map bid_of b.bid;
  state = state_of b.state;
  changed = b.changed;
  ended = b.ended;
  asked = b.asked;
  bids = map bid_of b.bids;
  accepted = map child_of b.accepted;
  managers = map manager_of b.managers;
  due = option_map moment_of b.due;
}
