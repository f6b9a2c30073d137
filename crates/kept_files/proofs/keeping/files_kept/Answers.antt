use Rattle.std.proofs.Common.{◌∙◌, arith}
use Rattle.kept_files.proofs.Kept.{count_kept}
use Rattle.kept_files.proofs.keeping.files_kept.Goals as goal

pub returns-clause-value : goal.returns-clause-value
returns-clause-value g c = c.count.ensures.value ∙ count_kept c.args.volume.now.catalog.heads c.args.files.now c.keeping-kept.result (omega arith) c.keeping-kept.ensures
