-- A volume falls, and rests.
use Rattle.std.proofs.Common.{◌≡◌, ℕ, List, Option, Some, None}
use Rattle.volume_format.specs.file_base.declared.head.FileHead.{FileHead}
use Rattle.restart_laws.specs.run_model.World.{File}
use Rattle.restart_laws.specs.directory_model.Files.{head_at, file_at}
use Rattle.restart_laws.specs.directory_model.Restoring.{IsPlaceLeft, IsPlaceRestorable}
use Rattle.restart_laws.proofs.FallLemmas.{falls_leave}
use Rattle.restart_laws.proofs.PreparedLemmas.{prepared_stand}
use Rattle.restart_laws.proofs.RestLemmas.{rests_as_files}
use Rattle.volume_laws.specs.Falls.{VolumeFalls, VolumeRests}

pub volume_falls : VolumeFalls
volume_falls content v n has = record {
  home = has.home;
  log = has.log;
  journal = has.journal;
  units = has.units;
  order = has.order;
  told = has.told;
  files = falls_leave content v.heads n has.files has.units has.restorable;
  prepared = prepared_stand content v.heads n has.files has.units;
}

place_can : (content : List (List ℕ)) (f : ℕ) (o : Option FileHead) (p : Option File) → IsPlaceLeft content f o p → IsPlaceRestorable content o p
place_can content f None p left = tt
place_can content f (Some h) None left = tt
place_can content f (Some h) (Some file) left = left.0.can

pub volume_rests : VolumeRests
volume_rests content v n left all = record {
  home = left.home;
  log = left.log;
  journal = left.journal;
  units = left.units;
  order = left.order;
  told = left.told;
  files = rests_as_files content v.heads n left.files left.prepared left.units all;
  restorable = λ f. place_can content f (head_at v.heads f) (file_at n.durable.directory f) (left.files.each f);
}
