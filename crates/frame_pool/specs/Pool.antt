-- What a pool's frames hold.
use Rattle.std.specs.Prelude.{ℕ, Bool, true, false, List, [], ◌∷◌, Option, Some, None, IsSome, slice_index_or}

-- each frame by its number: its bytes where it is out
abbrev pub out_frames : List Bool → List (List ℕ) → List (Option (List ℕ))
out_frames [] frames = []
out_frames (o ∷ os) [] = []
out_frames (true ∷ os) (bytes ∷ frames) = Some bytes ∷ out_frames os frames
out_frames (false ∷ os) (bytes ∷ frames) = None ∷ out_frames os frames

-- the frame of this number is out
abbrev pub IsOut : List (Option (List ℕ)) → ℕ → Type 0
IsOut pool f = IsSome (slice_index_or pool f None)
