-- The committed records of a node in any order.
use Rattle.std.specs.Prelude.{◌≡◌, ℕ, List, [], ◌∷◌, ◌++◌, map}
use Rattle.commit_protocol.specs.Messages.{Name, LogRecord}
use Rattle.commit_protocol.specs.World.{World, Step, Swaps, at_node}

-- the first list is the second in another order
abbrev pub IsPermuted : List LogRecord → List LogRecord → Type 0
IsPermuted [] qs = qs ≡ []
IsPermuted (p ∷ ps) qs = (front : List LogRecord) × (back : List LogRecord) × (qs ≡ front ++ p ∷ back) × IsPermuted ps (front ++ back)

-- the world in which these are the node's committed records
abbrev pub reordered : Name → List LogRecord → World → World
reordered n records w = record w { nodes = at_node n (record (w.nodes n) { records = records }) w.nodes }

-- swaps of neighbours among a node's records, one after another
abbrev pub swaps_of : List ℕ → Name → List Step
swaps_of places n = map (λ i. Swaps i n) places
