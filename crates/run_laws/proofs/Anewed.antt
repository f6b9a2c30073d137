-- Nodes of whose disks something is known, or whose disks entries replace.
use Rattle.std.specs.Str.{bytes_eq}
use Rattle.std.proofs.Common.{◌≡◌, ◌⊎◌, inl, inr, Bool, true, false, List, [], ◌∷◌, ◌++◌, Option, Some, None, if◌then◌else◌, refl, sym, subst}
use Rattle.run_said.proofs.run_model.NodeLists.{some_is}
use Rattle.commit_protocol.specs.Messages.{Name}
use Rattle.run_said.specs.run_model.World.{Node, find_node}
use Rattle.run_said.specs.run_model.Transcript.{Entry}
use Rattle.run_agreement.specs.Laws.{AreKnownOrReplaced, IsReplaced, Replaces, image_told, volume_image}
use Rattle.run_agreement.specs.Seen.{IsKnown}
use Rattle.run_agreement.proofs.Found.{bytes_same}
use Rattle.run_laws.specs.Anew.{AreKnownOrAnew, IsMadeAnew, IsMadeIn, Makes}
use Rattle.run_laws.specs.Promises.{IsLastApart}

-- what is asked of one node
abbrev pub KnownOrAnew : List Entry → Node → Type 0
KnownOrAnew es n = (IsKnown n × (IsLastApart n ⊎ (image_told n.name (volume_image n) es ≡ None))) ⊎ IsReplaced n.name es

known_of : (es : List Entry) (ns : List Node) → AreKnownOrAnew es ns → (name : Name) (n : Node) → find_node name ns ≡ Some n → KnownOrAnew es n × (name ≡ n.name)
known_of es [] h name n e = let none : ⊥ = cc in absurd none
known_of es (m ∷ ns) h name n e = go (bytes_eq name m.name) refl e (known_of es ns h.1 name n)
  where
    go : (b : Bool) → bytes_eq name m.name ≡ b → ◌≡◌ {A = Option Node} (if b then Some m else find_node name ns) (Some n) → (find_node name ns ≡ Some n → KnownOrAnew es n × (name ≡ n.name)) → KnownOrAnew es n × (name ≡ n.name)
    go true is f more = subst (λ (x : Node). KnownOrAnew es x × (name ≡ x.name)) (some_is m n f) (h.0, bytes_same name m.name is)
    go false is f more = more f

pub sure_of : (es : List Entry) (ns : List Node) → AreKnownOrAnew es ns → AreKnownOrReplaced es ns
sure_of es ns h name n found =
    let k = known_of es ns h name n found in
    elim k.0 [ inl known ↦ inl known.0 | inr replaced ↦ inr (subst (λ x. IsReplaced x es) (sym k.1) replaced) ]

-- The last settlement of such a disk is of no branch that stands unsettled there, or no image is told of it, or entries replace what it had.
pub fits_of : (es : List Entry) (ns : List Node) → AreKnownOrAnew es ns → (name : Name) (n : Node) → find_node name ns ≡ Some n → IsLastApart n ⊎ ((image_told name (volume_image n) es ≡ None) ⊎ IsReplaced name es)
fits_of es ns h name n found =
    let k = known_of es ns h name n found in
    elim k.0 [
      | inl known ↦ elim known.1 [ inl last ↦ inl last | inr none ↦ inr (inl (subst (λ x. image_told x (volume_image n) es ≡ None) (sym k.1) none)) ]
      | inr replaced ↦ inr (inr (subst (λ x. IsReplaced x es) (sym k.1) replaced))
    ]

-- An entry that makes a volume replaces what there was.
pub makes_replaces : (node : Name) (e : Entry) → Makes node e → Replaces node e
makes_replaces node e m = record { slots = m.slots; journal = m.journal; says = m.says; answered = inl m.answered }

replaced_there : (node : Name) (front back : List Entry) (e : Entry) → Replaces node e → IsReplaced node (front ++ e ∷ back)
replaced_there node [] back e r = inl r
replaced_there node (x ∷ front) back e r = inr (replaced_there node front back e r)

pub anew_replaced : (node : Name) (es : List Entry) → IsMadeAnew node es → IsReplaced node es
anew_replaced node es m =
    let made : IsMadeIn node es = m.made in
    subst (IsReplaced node) (sym made.3) (replaced_there node made.1 made.2 made.0 (makes_replaces node made.0 made.4))
