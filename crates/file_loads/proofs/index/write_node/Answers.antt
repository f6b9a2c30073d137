use Rattle.load_pages.specs.load_laws.Pages.{Entries}
use Rattle.load_model.specs.Nodes.{entries_by}
use Rattle.file_loads.proofs.WriteLemmas.{on_ok_then}
use Rattle.file_loads.proofs.index.write_node.Goals as goal

pub returns-clause-adds : goal.returns-clause-adds
returns-clause-adds g c = on_ok_then c.put_bucket.result (λ adds. adds (Entries (entries_by c.args.first c.args.keys.now)) c.fill_node.ensures) c.put_bucket.ensures.adds
