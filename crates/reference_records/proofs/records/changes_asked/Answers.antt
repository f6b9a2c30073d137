use Rattle.std.proofs.Common.{ap, ◌∙◌, sym, refl, drop}
use Rattle.std.specs.Prelude.{map}
use Rattle.std.proofs.lemmas.List.{drop-map}
use Rattle.reference_index.specs.run_model.Operations.{removed}
use Rattle.reference_world.specs.Standing.{entry_of}
use Rattle.reference_index.proofs.ListLemmas.{if_ok_so}
use Rattle.reference_records.proofs.records.changes_asked.Goals as goal

pub returns-in-Truncate : goal.returns-in-Truncate
returns-in-Truncate c = if_ok_so c.all_removed.result c.all_removed.ensures (λ v p. p ∙ ap (λ xs. map removed (map entry_of xs)) c.behind.ensures
    ∙ ap (map removed) (sym (drop-map entry_of c.saturating_sub.result c.args.rows.now) ∙ ap (drop c.saturating_sub.result) c.requires)
    ∙ rw (c.saturating_sub.ensures, c.in-Truncate.is) refl)
