use Rattle.reference_law.proofs.RunsLemmas.{transcripts_are_runs}
use Rattle.reference_law.proofs.law.reference_transcripts_are_runs.Goals as goal

pub returns : goal.returns
returns c = transcripts_are_runs
