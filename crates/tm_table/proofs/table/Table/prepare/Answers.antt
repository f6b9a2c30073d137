use Rattle.std.proofs.Common.{◌++◌, ◌∷◌, [], List, ap, ◌∙◌}
use Rattle.commit_protocol.specs.Messages.{Name}
use Rattle.commit_protocol.specs.Table.{Notes, Accepts, Prepares, Settles, Leaves, Sends, Prints, Started, Ended, Told, Tm, after_act, add_record}
use Rattle.commit_protocol.specs.Table as table
use Rattle.commit_protocol.specs.Effects.{Effect, PrepareEffect}
use Rattle.tm_types.specs.Branches.{branch_of}
use Rattle.tm_table.proofs.DoingLemmas.{did_by}
use Rattle.tm_table.proofs.table.Table.prepare.Goals as goal

pub returns-clause-done : goal.returns-clause-done
returns-clause-done c =
    let b = branch_of c.args.b.now in
    let s = c.args.self.now in
    let F : List Effect → List Name → List Effect = λ es rms. es ++ PrepareEffect b.key.serial rms ∷ [] in
    did_by (Prepares b) s c.push.new.self (c.push.ensures.tm ∙ c.put.ensures.tm) (c.push.ensures.effects ∙ (ap (λ (rms : List Name). F c.put.new.self.effects rms) c.holding.ensures ∙ ap (λ (es : List Effect). F es (table.holding b.managers)) c.put.ensures.effects))
