-- The pieces of a day that are still to come.
use Rattle.std.specs.Prelude.{◌+◌, List, [], ◌∷◌, ◌++◌, map, if◌then◌else◌}
use Rattle.day_model.specs.Pieces.{Piece, Settle, dumps, transactions}
use Rattle.day_script.specs.Steps.{piece_of}
use Rattle.day_script.specs.declared.script.DayScript.{DayScript}

abbrev pub ahead : DayScript → List Piece
ahead s = map (piece_of s.number s.key) s.steps.now ++ (if s.closed then [] else transactions s.left (s.number + 1) s.drawn ++ (Settle ∷ dumps))
