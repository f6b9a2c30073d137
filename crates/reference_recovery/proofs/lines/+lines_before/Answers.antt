use Rattle.std.proofs.Common.{ap, ◌∙◌, ◌++◌, ◌∷◌}
use Rattle.std.specs.Prelude.{map}
use Rattle.reference_index.specs.run_model.Answers.{image_lines}
use Rattle.reference_index.proofs.ListLemmas.{if_ok_so, behind_first}
use Rattle.reference_world.specs.Standing.{line_of, placed_of}
use Rattle.reference_recovery.proofs.LineLemmas.{first_line}
use Rattle.reference_recovery.proofs.lines.+lines_before.Goals as goal

pub returns-in_ok-push_front-in-len1-up : goal.returns-in_ok-push_front-in-len1-up
returns-in_ok-push_front-in-len1-up t c =
    let file = c.args.file.now in
    if_ok_so c.lines_before.result c.lines_before.ensures (λ v p. p ∙ ap (λ ls. image_lines file (map placed_of (behind_first c.args.all.now)) ++ map line_of ls) c.in_ok-push_front-in-len1-up.ensures
    ∙ ap (λ l. image_lines file (map placed_of (behind_first c.args.all.now)) ++ l ∷ map line_of c.args.behind.items) c.in_ok-image_line-in-len1-up.ensures
    ∙ first_line file c.args.all.now c.e-item.result (map line_of c.args.behind.items) c.in-len1-up.len_at_least c.e-item.is)
