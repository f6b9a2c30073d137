-- The journal has the room.
use Rattle.unit_cuts.proofs.cutting.enter_befores.Goals as goal

pub enter_behind-requires-clause-room : goal.enter_behind-requires-clause-room
enter_behind-requires-clause-room g c = λ kept. (c.requires.fit kept).room

pub enter_behind-requires-clause-low : goal.enter_behind-requires-clause-low
enter_behind-requires-clause-low g c = λ kept. (c.requires.fit kept).low

pub enter_behind-requires-clause-size : goal.enter_behind-requires-clause-size
enter_behind-requires-clause-size g c = λ kept. c.requires.size
