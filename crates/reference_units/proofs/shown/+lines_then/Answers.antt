use Rattle.std.proofs.Common.{◌+◌, List, ◌∷◌, ap, ◌∙◌, map}
use Rattle.reference_index.proofs.ListLemmas.{behind_first}
use Rattle.reference_world.specs.declared.line.Line.{Line}
use Rattle.reference_world.specs.Standing.{line_of}
use Rattle.reference_units.proofs.ShownLemmas.{shown_from, first_shown}
use Rattle.reference_units.proofs.shown.+lines_then.Goals as goal

pub returns-in_ok-push_front-in-len1-up : goal.returns-in_ok-push_front-in-len1-up
returns-in_ok-push_front-in-len1-up t c =
    let es = c.args.entries.now in
    let line = c.in_ok-entry_line-in-len1-up.field-0 in
    ap (λ (ls : List Line). map line_of ls) c.in_ok-push_front-in-len1-up.ensures ∙ ap (λ ls. line_of line ∷ ls) c.in_ok-lines-in-len1-up.ensures
    ∙ ap (λ l. l ∷ shown_from c.args.first (c.args.position + c.entry_size.result) (behind_first es)) c.in_ok-entry_line-in-len1-up.ensures
    ∙ first_shown c.args.first c.args.position c.entry_size.result es c.e-item.result c.in-len1-up.len_at_least c.e-item.is c.entry_size.ensures.size
