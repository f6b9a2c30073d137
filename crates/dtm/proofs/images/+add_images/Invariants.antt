use Rattle.std.proofs.Common.{length}
use Rattle.dtm.proofs.images.+add_images.Given as goal

-- the words that are left
abbrev pub decreases-add_images : goal.decreases-add_images
decreases-add_images g l = length l.words.now
