use Rattle.std.proofs.Common.{◌≡◌, ◌∙◌, ap, sym, Some, None, is_some}
use Rattle.std.proofs.lemmas.Bool.{false≢true}
use Rattle.indexmap.specs.IndexMap.{get}
use Rattle.run_model.specs.World.{find_label, with_serial}
use Rattle.vms_base.specs.Ids.{serial_of}
use Rattle.vms_base.specs.contracts.names.LabelPartialEq.TheImpl.{eq-value}
use Rattle.run_shared.proofs.LabelLemmas.{same_label, found_label}
use Rattle.run_shared.proofs.Numbering.{numbered, replaced_table, labels_replaced}
use Rattle.run_shared.proofs.labels.Labels.number.Goals as goal

pub unreachable-requires : goal.unreachable-requires
unreachable-requires c =
    let none : get eq-value.it c.self.inside.entries c.args.label.now ≡ None = sym c.in_default.ensures.value in
    let gone = found_label eq-value.it same_label c.self.inside.entries c.args.label.now None c.self.invariant (sym none) ∙ ap (find_label c.args.label.now) c.self.view_is in
    false≢true (ap is_some gone ∙ c.requires.made)

there : (c : goal.After-self-2-1) → get eq-value.it c.self.inside.entries c.args.label.now ≡ Some c.in-Some.entry.now
there c = sym c.in-Some.ensures.value

pub invariant_of-self : goal.invariant_of-self
invariant_of-self c =
    let through = c.get_mut.follows.holds (numbered c.args.serial c.in-Some.entry.now) in
    replaced_table eq-value.it same_label c.self.inside.entries (c.get_mut.follows.lender (numbered c.args.serial c.in-Some.entry.now)) c.args.label.now c.in-Some.entry.now c.args.serial c.self.invariant (there c) through.0 (through.3 (ap is_some (there c))) through.6 through.2

pub returns : goal.returns
returns c =
    let through = c.get_mut.follows.holds (numbered c.args.serial c.in-Some.entry.now) in
    labels_replaced eq-value.it same_label c.self.inside.entries (c.get_mut.follows.lender (numbered c.args.serial c.in-Some.entry.now)) c.args.label.now c.in-Some.entry.now c.args.serial c.self.invariant (there c) through.0 ∙ ap (with_serial c.args.label.now (serial_of c.args.serial)) c.self.view_is
