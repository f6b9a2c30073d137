use Rattle.volume.proofs.ContentsDecided.{sound_or_finding}
use Rattle.volume.proofs.law.each_content_has_a_volume_or_a_finding.Goals as goal

pub returns : goal.returns
returns c = sound_or_finding
