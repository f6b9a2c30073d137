use Rattle.std.specs.Prelude.{remove, option_to_list}
use Rattle.std.proofs.Common.{◌++◌, IsSome, sym, ◌∙◌, ap, subst}
use Rattle.day_run.proofs.run_nodes.Firsts.{first_out, first_some}
use Rattle.dtm_run.proofs.rack.Rack.take_first.Goals as goal

pub returns-clause-nodes : goal.returns-clause-nodes
returns-clause-nodes g c =
    let es = c.args.self.now.nodes.entries in
    first_out es ∙ ap (λ o. option_to_list o ++ remove es 0) (sym c.shift_remove_index.ensures.entry) ∙ ap (λ xs. option_to_list c.shift_remove_index.result ++ xs) (sym c.shift_remove_index.ensures.entries)

pub returns-clause-some : goal.returns-clause-some
returns-clause-some g c = λ h. subst IsSome (sym c.shift_remove_index.ensures.entry) (first_some (λ e. e.0) c.args.self.now.nodes.entries h)
