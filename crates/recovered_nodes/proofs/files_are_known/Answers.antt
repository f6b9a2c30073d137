use Rattle.recovered_nodes.proofs.KnownFiles.{files_known}
use Rattle.recovered_nodes.proofs.files_are_known.Goals as goal

pub returns : goal.returns
returns c = files_known
