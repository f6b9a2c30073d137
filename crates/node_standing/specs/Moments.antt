-- Moments that a request names.
use Rattle.std.specs.Prelude.{Some, None}
use Rattle.vms_model.specs.Times.{CanBeWritten}
use Rattle.said_steps.specs.script_model.Statements.{Backward, Forward, Recover, Recovery, Request}

-- the moment of a recovery can be shown
abbrev pub CanTell : Recovery → Type 0
CanTell (Forward None) = Unit {0}
CanTell (Forward (Some until)) = CanBeWritten until
CanTell (Backward until) = CanBeWritten until

-- so of each request, where it recovers a file
abbrev pub CanBeTold : Request → Type 0
CanBeTold (Recover file way) = CanTell way
CanBeTold request = Unit {0}
