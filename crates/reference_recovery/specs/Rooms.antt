-- The images of changes that stand in a journal.
use Rattle.std.specs.Prelude.{ℕ, List, [], ◌∷◌, ◌+◌, Option}
use Rattle.vms_model.specs.Ids.{Id}
use Rattle.reference_index.specs.transcript_model.Lines as line
use Rattle.reference_index.specs.transcript_model.Lines.{Line}
use Rattle.records_model.specs.Records.{Change}
use Rattle.records_model.specs.Slots.{size_of}
use Rattle.reference_index.specs.unit_laws.Journal.{key_size}
use Rattle.reference_index.specs.recovery_model.Images.{Image}
use Rattle.reference_index.specs.recovery_model.Room.{free_in, is_short, need_in}
use Rattle.reference_index.specs.run_model.World.{File}
use Rattle.reference_index.specs.run_model.Operations.{first_of, refused_if}
use Rattle.reference_world.specs.declared.world.Side.{Side}
use Rattle.reference_world.specs.declared.world.Side.TheVariants as side

-- the record of a change that stands in a journal, and its image
abbrev pub value_at : Side → Change → Option (List ℕ)
value_at side.After c = c.after
value_at side.Before c = c.before

abbrev pub image_at : Side → Change → Image
image_at s c = (c.key, value_at s c)

abbrev pub images_at : Side → List Change → List Image
images_at s [] = []
images_at s (c ∷ cs) = image_at s c ∷ images_at s cs

-- how many bytes an image takes in its entry
abbrev pub length_of : Image → ℕ
length_of i = 48 + key_size i.0 + size_of i.1

-- what refuses images for want of room in a journal of a file
abbrev pub after_line : (serial : Id) → List Image → File → Option Line
after_line serial is f = refused_if (is_short serial is f.carried.after f.history.live) (line.AftersFull (free_in f.carried.after f.history.live) (need_in serial is f.carried.after))

abbrev pub before_line : (serial : Id) → List Image → File → Option Line
before_line serial is f = refused_if (is_short serial is f.carried.before f.history.live) (line.BeforesFull (free_in f.carried.before f.history.live) (need_in serial is f.carried.before))

-- and changes: the first of both
abbrev pub first_line : (serial : Id) → List Change → File → Option Line
first_line serial cs f = first_of (after_line serial (images_at side.After cs) f) (before_line serial (images_at side.Before cs) f)
