use Rattle.std.proofs.Common.{◌≡◌, ◌<◌, ◌∙◌, ap, sym, IsOk, List, ◌∷◌, None, length, arith}
use Rattle.indexmap.specs.IndexMap.{get, spare}
use Rattle.run_model.specs.World.{Label, find_label}
use Rattle.vms_base.specs.contracts.names.LabelPartialEq.TheImpl.{eq-value}
use Rattle.run_shared.specs.LabelTable.{label_of}
use Rattle.run_shared.proofs.LabelLemmas.{of_ok, same_label, newest_label, still_table, absent_label, length-newest_first}
use Rattle.run_shared.proofs.labels.Labels.insert.Goals as goal

has_room : (c : goal.After-insert) → 0 < spare c.self.inside.entries
has_room c =
    let room = c.self.invariant.room in
    let long = sym (length-newest_first c.self.inside.entries.entries) ∙ ap length c.self.view_is in
    let below = c.requires.room in
    omega (arith, room, long, below)

is_ok : (c : goal.After-insert) → IsOk c.insert.result
is_ok c = c.insert.ensures.succeeds (has_room c)

is_absent : (c : goal.After-insert) → get eq-value.it c.self.inside.entries c.args.label ≡ None
is_absent c = absent_label eq-value.it same_label c.self.inside.entries c.args.label c.self.invariant (ap (find_label c.args.label) c.self.view_is ∙ c.requires.new)

pub invariant_of-self : goal.invariant_of-self
invariant_of-self c = still_table eq-value.it same_label c.self.inside.entries c.insert.new.self c.args.label c.args.entry c.self.invariant (is_absent c) (ap (find_label c.args.label) c.self.view_is ∙ c.requires.new)
    (of_ok c.insert.result (is_ok c) c.insert.ensures.entries) (of_ok c.insert.result (is_ok c) c.insert.ensures.updates) c.insert.ensures.spare

pub returns : goal.returns
returns c =
    newest_label eq-value.it same_label c.self.inside.entries c.insert.new.self c.args.label c.args.entry (is_absent c) (of_ok c.insert.result (is_ok c) c.insert.ensures.entries)
    ∙ ap (λ (ls : List Label). label_of c.args.label c.args.entry ∷ ls) c.self.view_is
