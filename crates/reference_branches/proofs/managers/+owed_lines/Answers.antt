use Rattle.std.proofs.Common.{◌∙◌, ◌∷◌, List, ap, sym}
use Rattle.std.specs.Prelude.{map}
use Rattle.reference_index.specs.run_model.Answers.{owed_line}
use Rattle.tm_types.specs.Parts.{log_record_of}
use Rattle.reference_world.specs.Standing.{line_of}
use Rattle.reference_world.specs.declared.line.Line.{Line}
use Rattle.reference_branches.proofs.OwedLemmas.{owed_first, owed_later}
use Rattle.reference_branches.proofs.managers.+owed_lines.Goals as goal

pub returns-in_ok-push_front-in-len1-up : goal.returns-in_ok-push_front-in-len1-up
returns-in_ok-push_front-in-len1-up t c =
    let rm = c.args.rm.now in
    let r = c.record-item.result in
    ap (λ (ls : List Line). map line_of ls) c.in_ok-push_front-in-len1-up.ensures ∙ ap (λ ls. owed_line rm (log_record_of r) ∷ ls) c.in_ok-lines-in-len1-up.ensures
    ∙ owed_first rm c.args.records.now r c.in-len1-up.len_at_least c.record-item.is (sym c.has_rm.ensures ∙ c.if-has_rm.true)

pub returns-else-has_rm : goal.returns-else-has_rm
returns-else-has_rm t c =
    c.in_ok-lines-in-len1-up.ensures ∙ owed_later c.args.rm.now c.args.records.now c.record-item.result c.in-len1-up.len_at_least c.record-item.is (sym c.has_rm.ensures ∙ c.if-has_rm.false)
