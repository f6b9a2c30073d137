-- A day as the words ask for it.
use Rattle.day_model.specs.Command.{Asked}
use Rattle.day_script.specs.declared.command.Day.{Day}

abbrev pub asked_of : Day → Asked
asked_of day = record { count = day.count; start = day.start }
