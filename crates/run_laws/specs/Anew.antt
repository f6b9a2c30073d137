-- Volumes that are made before anything boots their nodes, and disks that an INIT replaces, whatever was on them.
use Rattle.std.specs.Prelude.{◌≡◌, ◌⊎◌, ℕ, List, [], ◌∷◌, ◌++◌, Some, None}
use Rattle.std.specs.List.{AllByRecursion, last_or}
use Rattle.run_said.specs.transcript_model.Lines.{Normal}
use Rattle.run_said.specs.script_model.Statements.{At, Boot, Init, Says, Settle, Statement}
use Rattle.run_said.specs.script_model.Grammar.{reading}
use Rattle.run_said.specs.run_model.World.{DiskCounts, Node, World, opened}
use Rattle.run_said.specs.run_model.Transcript.{AreOpening, Entry, Legal}
use Rattle.run_agreement.specs.Laws.{IsReplaced, NamesApart, image_told, volume_image}
use Rattle.run_agreement.specs.Seen.{IsKnown}
use Rattle.run_laws.specs.Promises.{IsLastApart}

-- an entry makes the volume of this node
pub record Makes (node : List ℕ) (e : Entry) : Type 0 where
  pub slots : ℕ
  pub journal : ℕ
  pub says : reading e.source.text ≡ Says (At node (Init slots journal))
  pub answered : last_or None e.lines ≡ Some Normal

-- one of these entries makes it
abbrev pub IsMadeIn : List ℕ → List Entry → Type 0
IsMadeIn node es = (f : Entry) × (front : List Entry) × (back : List Entry) × (es ≡ front ++ f ∷ back) × Makes node f

-- Before each of these entries that may boot the node of this name its volume was made.
abbrev pub IsMadeFirst : List ℕ → List Entry → Type 0
IsMadeFirst node es = (earlier later : List Entry) (e : Entry) (s : Statement) → es ≡ later ++ e ∷ earlier → reading e.source.text ≡ Says s → (s ≡ At node Boot) ⊎ (s ≡ Settle) → IsMadeIn node earlier

-- Its volume is made, and so before anything boots it.
pub record IsMadeAnew (node : List ℕ) (es : List Entry) : Type 0 where
  pub first : IsMadeFirst node es
  pub made : IsMadeIn node es

-- Of each node something is known of its disk, the last settlement of which is of no branch that stands unsettled there, unless the disk has no volume; or an INIT of it
-- replaces what the disk had, one that succeeds or that a failure ends. Nothing is asked of what was replaced.
abbrev pub AreKnownOrAnew : List Entry → List Node → Type 0
AreKnownOrAnew es ns = AllByRecursion (λ (n : Node). (IsKnown n × (IsLastApart n ⊎ (image_told n.name (volume_image n) es ≡ None))) ⊎ IsReplaced n.name es) ns

-- Nodes and others, place by place: each is the same, but for a node whose volume is made anew; there the other has its name and as many blocks, and may have
-- anything on its disk.
abbrev pub AreForgotten : List Entry → List Node → List Node → Type 0
AreForgotten es [] [] = Unit {0}
AreForgotten es (n ∷ ns) (m ∷ ms) = ((m ≡ n) ⊎ (IsMadeAnew n.name es × (m.name ≡ n.name) × (m.blocks ≡ n.blocks))) × AreForgotten es ns ms
AreForgotten es ns ms = ⊥

-- What a disk had is forgotten once a volume is made on it: the same entries lead from the other nodes to the same world.
abbrev pub InitsForget : Type 0
InitsForget = (nodes others : List Node) (disks : List DiskCounts) (es : List Entry) (closing : World) → AreOpening nodes → AreOpening others → NamesApart nodes → AreForgotten es nodes others → Legal (opened nodes disks) es closing → Legal (opened others disks) es closing
