use Rattle.std.proofs.Common.{◌∷◌, ◌++◌, ap}
use Rattle.day_model.specs.Pieces.{Settle, dumps, transactions}
use Rattle.day_script.proofs.script.DayScript.new.Goals as goal

pub returns : goal.returns
returns c = ap (λ ps. ps ++ (transactions c.args.asked.count 1 c.args.asked.start ++ (Settle ∷ dumps))) (c.opening.ensures 0 0)
