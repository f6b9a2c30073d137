-- The laws that requests on files rest on.
use Rattle.volume.specs.Catalogs.{StandsOnTheFront}
use Rattle.directory_model.specs.Laws.{FindsFiles, FindsPlaces, FindsRuns, KeepsHeads, LieApart, MakesFiles, ReadsFiles, ShowsRecords}
use Rattle.file_images.specs.Laws.{ImagesStand}
use Rattle.recovery_units.specs.Laws.{KeepsNodes}
use Rattle.recovered_nodes.specs.Laws.{RecoversNodes}

pub record TheLaws : Type 0 where
  pub finds : FindsFiles
  pub places : FindsPlaces
  pub runs : FindsRuns
  pub reads : ReadsFiles
  pub shows : ShowsRecords
  pub apart : LieApart
  pub heads : KeepsHeads
  pub makes : MakesFiles
  pub front : StandsOnTheFront
  pub nodes : KeepsNodes
  pub recoveries : RecoversNodes
  pub images : ImagesStand
