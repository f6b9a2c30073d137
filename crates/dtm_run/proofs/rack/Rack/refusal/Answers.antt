use Rattle.std.proofs.Common.{◌∙◌, sym, arith}
use Rattle.dtm_run.specs.Racks.{names_in}
use Rattle.dtm_run.proofs.RackLemmas.{refused_name, refused_size, refused_full, refused_nothing}
use Rattle.dtm_run.proofs.rack.Rack.refusal.Goals as goal

pub returns-then-has : goal.returns-then-has
returns-then-has g c = sym (refused_name (names_in c.args.self.now) c.args.name.now c.args.blocks (sym c.has.ensures ∙ c.if-has.true))

pub returns-then-blocks-gt-MOST_BLOCKS : goal.returns-then-blocks-gt-MOST_BLOCKS
returns-then-blocks-gt-MOST_BLOCKS g c =
    sym (refused_size (names_in c.args.self.now) c.args.name.now c.args.blocks (sym c.has.ensures ∙ c.if-has.false) c.if-blocks-gt-MOST_BLOCKS.either)

pub returns-then-len-ge-MOST_NODES : goal.returns-then-len-ge-MOST_NODES
returns-then-len-ge-MOST_NODES g c =
    sym (refused_full (names_in c.args.self.now) c.args.name.now c.args.blocks (sym c.has.ensures ∙ c.if-has.false) c.if-blocks-gt-MOST_BLOCKS.false
    (omega (arith, c.if-len-ge-MOST_NODES.true, c.len.ensures)))

pub returns-else-len-ge-MOST_NODES : goal.returns-else-len-ge-MOST_NODES
returns-else-len-ge-MOST_NODES g c =
    sym (refused_nothing (names_in c.args.self.now) c.args.name.now c.args.blocks (sym c.has.ensures ∙ c.if-has.false) c.if-blocks-gt-MOST_BLOCKS.false
    (omega (arith, c.if-len-ge-MOST_NODES.false, c.len.ensures)))
