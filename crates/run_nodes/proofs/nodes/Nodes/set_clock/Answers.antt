use Rattle.std.specs.Prelude.{slice_get, slice_set}
use Rattle.std.proofs.Common.{◌≡◌, map, Some, sym, ◌∙◌, ap, subst, false}
use Rattle.script_lang.specs.script_model.Statements.{Clock}
use Rattle.said_steps.specs.run_model.Answers.{Serves}
use Rattle.dtm_node.specs.node_standing.Keeping.{PerformsTask}
use Rattle.dtm_node.specs.Nodes.{kept_of}
use Rattle.dtm_node.specs.node_standing.Standing.{NodeState}
use Rattle.run_nodes.proofs.Entries.{kept_in, kept_there, node_at, put_kept, put_names, put_nodes}
use Rattle.run_nodes.proofs.nodes.Nodes.set_clock.Goals as goal

pub returns-in-Some-clause-nodes : goal.returns-in-Some-clause-nodes
returns-in-Some-clause-nodes g c = λ count s h.
    let state = g.D.Disk.state in
    let units = g.U.RecoveryUnits.state in
    let es = c.args.self.now.nodes.entries in
    let n = c.in-Some.node.now in
    let at : slice_get (map (λ e. e.1) es) c.args.place ≡ Some n = sym c.in-Some.ensures.value in
    put_nodes state units count s s es c.args.place n c.set_clock.new.self (λ e. e) h at (ap (λ (k : NodeState). k.name) c.set_clock.ensures.kept) (c.set_clock.ensures.node count s (node_at state units count s es c.args.place n h at))

pub returns-in-Some-clause-names : goal.returns-in-Some-clause-names
returns-in-Some-clause-names g c = put_names g.D.Disk.state g.U.RecoveryUnits.state c.args.self.now.nodes.entries c.args.place c.set_clock.new.self

pub returns-in-Some-clause-clocked : goal.returns-in-Some-clause-clocked
returns-in-Some-clause-clocked g c = λ s.
    let state = g.D.Disk.state in
    let units = g.U.RecoveryUnits.state in
    let es = c.args.self.now.nodes.entries in
    let n = c.in-Some.node.now in
    let at : slice_get (map (λ e. e.1) es) c.args.place ≡ Some n = sym c.in-Some.ensures.value in
    record {
      kept = kept_of state units n;
      here = kept_there state units es c.args.place n at;
      put = put_kept state units es c.args.place c.set_clock.new.self ∙ ap (slice_set (kept_in state units es) c.args.place) c.set_clock.ensures.kept;
      performs = λ a. subst (λ (l : NodeState). PerformsTask (Serves (Clock c.args.now.0)) false false (kept_of state units n) s a a l s) c.set_clock.ensures.kept (c.set_clock.ensures.performs s a);
    }
