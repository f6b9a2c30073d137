use Rattle.std.proofs.Common.{◌≡◌, ◌+◌, ◌∙◌, ◌∷◌, List, ap, sym, subst, length, arith}
use Rattle.std.specs.Prelude.{map}
use Rattle.commit_protocol.specs.World.{undo_all}
use Rattle.world_laws.specs.run_model.Answers.{table_rows, unit_key}
use Rattle.world_laws.specs.run_model.Steps.{lines_of_rows, node_after_rows}
use Rattle.reference_world.specs.Standing.{branch_key_of, line_of}
use Rattle.reference_index.proofs.ListLemmas.{behind_first, parts}
use Rattle.reference_units.specs.Entries.{units_of}
use Rattle.reference_units.specs.declared.units.Unit.{Unit as UnitKept}
use Rattle.reference_node.specs.Nodes.{AreUnknown, node_of}
use Rattle.reference_node.specs.Telling.{HasTime}
use Rattle.reference_node.proofs.BootLemmas.{rest_unknown, undone_first, undone_shown}
use Rattle.reference_node.proofs.TellLemmas.{shorter, undone_time}
use Rattle.reference_node.proofs.node.Node.+undo_each.Goals as goal

pub undo_each-requires : goal.undo_each-requires
undo_each-requires t c =
    let n = node_of c.args.self.now in
    let rest = behind_first c.args.units.now in
    let k = branch_key_of c.u-item.result.branch in
    let all = parts c.args.units.now c.u-item.result c.in-len1-up.len_at_least c.u-item.is in
    let few = shorter c.args.units.now c.u-item.result c.in-len1-up.len_at_least c.u-item.is in
    let more : length c.args.units.now ≡ length rest + 1 = omega (arith, few) in (
      omega (arith, few, c.decreases),
      (
        undone_time (length rest) k n (node_of c.undo.new.self) (c.in_ok-first-in-len1-up).ensures.node (subst (λ j. HasTime j n) more c.requires.time),
        rest_unknown k (map unit_key (units_of rest)) n (node_of c.undo.new.self) (subst (λ (us : List UnitKept). AreUnknown (map unit_key (units_of us)) n.volatile.branches) all c.requires.unknown) (c.in_ok-first-in-len1-up).ensures.node,
      ),
    )

pub returns-in_ok-push_front-in-len1-up-clause-node : goal.returns-in_ok-push_front-in-len1-up-clause-node
returns-in_ok-push_front-in-len1-up-clause-node t c = λ s.
    let n = node_of c.args.self.now in
    undone_first (branch_key_of c.u-item.result.branch) (map unit_key (units_of (behind_first c.args.units.now))) s n (node_of c.undo.new.self) (node_of c.undo_each.new.self) (c.in_ok-first-in-len1-up).ensures.node ((c.in_ok-lines-in-len1-up).ensures.node s)
    ∙ ap (λ (us : List UnitKept). node_after_rows (table_rows (undo_all (map unit_key (units_of us))) s n) n) (sym (parts c.args.units.now c.u-item.result c.in-len1-up.len_at_least c.u-item.is))

pub returns-in_ok-push_front-in-len1-up-clause-lines : goal.returns-in_ok-push_front-in-len1-up-clause-lines
returns-in_ok-push_front-in-len1-up-clause-lines t c = λ s.
    let n = node_of c.args.self.now in
    undone_shown (branch_key_of c.u-item.result.branch) (map unit_key (units_of (behind_first c.args.units.now))) s n (node_of c.undo.new.self) (line_of (c.in_ok-first-in-len1-up).first) (map line_of (c.in_ok-lines-in-len1-up).lines.items) (map line_of c.push_front.new.items.items)
    (c.in_ok-first-in-len1-up).ensures.node (c.in_ok-first-in-len1-up).ensures.line ((c.in_ok-lines-in-len1-up).ensures.lines s) (ap (map line_of) (c.in_ok-push_front-in-len1-up).ensures)
    ∙ ap (λ (us : List UnitKept). lines_of_rows (table_rows (undo_all (map unit_key (units_of us))) s n)) (sym (parts c.args.units.now c.u-item.result c.in-len1-up.len_at_least c.u-item.is))

pub returns-in_ok-push_front-in-len1-up-clause-time : goal.returns-in_ok-push_front-in-len1-up-clause-time
returns-in_ok-push_front-in-len1-up-clause-time t c = λ count h.
    let n = node_of c.args.self.now in
    let rest = behind_first c.args.units.now in
    let few = shorter c.args.units.now c.u-item.result c.in-len1-up.len_at_least c.u-item.is in
    let more : count + length c.args.units.now ≡ (count + length rest) + 1 = omega (arith, few) in
    (c.in_ok-lines-in-len1-up).ensures.time count (undone_time (count + length rest) (branch_key_of c.u-item.result.branch) n (node_of c.undo.new.self) (c.in_ok-first-in-len1-up).ensures.node (subst (λ j. HasTime j n) more h))
