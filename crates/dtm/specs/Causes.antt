-- Why the images of a command were not opened.
use Rattle.std.specs.Prelude.{ℕ, List}
use Rattle.block_disk.specs.Disk.{DiskState}
use Rattle.dtm_command.specs.Images.{Store, IsImageOf}
use Rattle.dtm_command.specs.Causes.{IsRefused}
use Rattle.dtm_command.specs.declared.images.OpenErr.{OpenErr}
use Rattle.dtm_command.specs.declared.images.OpenErr.TheVariants as open_err
use Rattle.dtm.specs.Images.{Reaches}

-- why the nodes that the words name were not all added: the image of a word cannot be opened that was reached, or memory is missing
abbrev pub WhyUnfilled : {File Image : Type 0} → Store File Image → (state : Image → DiskState) → (names words : List (List ℕ)) → OpenErr → Type 0
WhyUnfilled store state names words (open_err.Image path why) = Reaches (IsImageOf store state) (λ image. (state image).size) names words path.now × IsRefused store path.now why
WhyUnfilled store state names words open_err.Memory = Unit {0}
