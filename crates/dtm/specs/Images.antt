-- Which images a command opens, and for which nodes.
use Rattle.std.specs.Prelude.{◌≡◌, ℕ, ◌⊎◌, List, [], ◌∷◌, ◌++◌, Some, None}
use Rattle.dtm_command.specs.Images.{node_and_image}
use Rattle.dtm_run.specs.Racks.{refusal_of}
use Rattle.dtm_run.specs.declared.rack.RackCause.TheVariants as cause

-- a word that names this node and an image of which this one was opened
pub record Names {Image : Type 0} (opens : List ℕ → Image → Type 0) (word node : List ℕ) (image : Image) : Type 0 where
  pub path : List ℕ
  pub says : node_and_image word ≡ Some (node, path)
  pub opened : opens path image

-- The first of these words add these nodes with these images, one behind the other, to a rack with nodes of these names, and these words are left.
abbrev pub Adds : {Image : Type 0} (opens : List ℕ → Image → Type 0) (size : Image → ℕ) (names words nodes : List (List ℕ)) (images : List Image) (left : List (List ℕ)) → Type 0
Adds opens size names words [] [] left = words ≡ left
Adds opens size names words [] (image ∷ images) left = ⊥
Adds opens size names words (node ∷ nodes) [] left = ⊥
Adds opens size names [] (node ∷ nodes) (image ∷ images) left = ⊥
Adds opens size names (word ∷ words) (node ∷ nodes) (image ∷ images) left =
    Names opens word node image × (refusal_of names node (size image) ≡ None) × Adds opens size (names ++ node ∷ []) words nodes images left

-- a rack with nodes of these names takes no more node by this word: it names none, or one whose name is there, or there are 8 nodes
pub record IsUnwanted {Image : Type 0} (opens : List ℕ → Image → Type 0) (size : Image → ℕ) (names : List (List ℕ)) (word : List ℕ) : Type 0 where
  pub node : List ℕ
  pub image : Image
  pub named : Names opens word node image
  pub refused : (refusal_of names node (size image) ≡ Some cause.Name) ⊎ (refusal_of names node (size image) ≡ Some cause.Full)

-- no further image is opened for these words: none is left, or the first is no NODE=IMAGE, or the rack refuses its node
abbrev pub Stops : {Image : Type 0} (opens : List ℕ → Image → Type 0) (size : Image → ℕ) (names left : List (List ℕ)) → Type 0
Stops opens size names [] = Unit {0}
Stops opens size names (word ∷ left) = (node_and_image word ≡ None) ⊎ IsUnwanted opens size names word

-- The words were taken up to their end, or to the first that adds no node, and each that was taken added its node with its image.
pub record IsFilled {Image : Type 0} (opens : List ℕ → Image → Type 0) (size : Image → ℕ) (words : List (List ℕ)) (names : List (List ℕ)) (images : List Image) (new_names : List (List ℕ)) (new_images : List Image) : Type 0 where
  pub nodes : List (List ℕ)
  pub added : List Image
  pub left : List (List ℕ)
  pub adds : Adds opens size names words nodes added left
  pub names_are : new_names ≡ names ++ nodes
  pub images_are : new_images ≡ images ++ added
  pub ends : Stops opens size new_names left

-- the words before this one added their nodes, and this one names an image by this path
pub record Reaches {Image : Type 0} (opens : List ℕ → Image → Type 0) (size : Image → ℕ) (names words : List (List ℕ)) (path : List ℕ) : Type 0 where
  pub nodes : List (List ℕ)
  pub added : List Image
  pub word : List ℕ
  pub left : List (List ℕ)
  pub adds : Adds opens size names words nodes added (word ∷ left)
  pub node : List ℕ
  pub says : node_and_image word ≡ Some (node, path)
