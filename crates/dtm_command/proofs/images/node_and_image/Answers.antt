use Rattle.std.proofs.Common.{ap, sym, ◌∙◌, lit<, Some, None}
use Rattle.std.proofs.lemmas.Str.Pattern.{split_parts}
use Rattle.vms_model.specs.Names.{node_named}
use Rattle.dtm_command.proofs.ImageLemmas.{unparted, pathless, with_path}
use Rattle.dtm_command.proofs.images.node_and_image.Goals as goal

pub returns-in_err-node-clause-value : goal.returns-in_err-node-clause-value
returns-in_err-node-clause-value c =
    let parts = split_parts 61 c.args.word.now c.split_once.result c.split_once.ensures.cases (lit< tt) in
    rw c.from_residual.ensures (unparted c.args.word.now (rw c.in_err-node.was at parts))

pub returns-then-is_empty-clause-value : goal.returns-then-is_empty-clause-value
returns-then-is_empty-clause-value c =
    let parts = split_parts 61 c.args.word.now c.split_once.result c.split_once.ensures.cases (lit< tt) in
    pathless c.args.word.now c.in_ok-node.node.now c.in_ok-node.image.now (rw c.in_ok-node.was at parts) (sym c.is_empty.ensures ∙ c.if-is_empty.true)

pub returns-in_err-new-clause-value : goal.returns-in_err-new-clause-value
returns-in_err-new-clause-value c =
    let parts = split_parts 61 c.args.word.now c.split_once.result c.split_once.ensures.cases (lit< tt) in
    rw c.from_residual-in_err-new.ensures (with_path c.args.word.now c.in_ok-node.node.now c.in_ok-node.image.now None (rw c.in_ok-node.was at parts) (sym c.is_empty.ensures ∙ c.if-is_empty.false)
    (sym c.in_err-new.was ∙ c.new.ensures ∙ ap node_named c.as_bytes.ensures.value))

pub returns-clause-value : goal.returns-clause-value
returns-clause-value c =
    let parts = split_parts 61 c.args.word.now c.split_once.result c.split_once.ensures.cases (lit< tt) in
    with_path c.args.word.now c.in_ok-node.node.now c.in_ok-node.image.now (Some c.in_ok-new.field-0) (rw c.in_ok-node.was at parts) (sym c.is_empty.ensures ∙ c.if-is_empty.false)
    (sym c.in_ok-new.was ∙ c.new.ensures ∙ ap node_named c.as_bytes.ensures.value)
