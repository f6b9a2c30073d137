-- Parts one after another.
use Rattle.std.proofs.Common.{◌≡◌, List, [], ◌∷◌, ◌++◌, Bool, true, false, refl, sym, ◌∙◌, ap, subst, append_assoc}
use Rattle.world_laws.specs.transcript_model.Lines.{Line, Normal}
use Rattle.world_laws.specs.run_model.World.{World, DiskCounts}
use Rattle.world_laws.specs.run_model.Statements.{NoneFalls, Onward, Part, PartEffect, Parts, Then, part_effect}
use Rattle.world_laws.proofs.run_model.NodeLists.{none_falls_on, none_falls_same}
use Rattle.statement_steps.specs.Doing.{Behind, Deed, DoesParts, Walked, as_begun}
use Rattle.statement_steps.proofs.Counting.{allowed_later}

-- what is done behind a part may be as well
behind_as : (e : PartEffect) (P Q : Deed) → ((u : World) (ends : Bool) (lines : List Line) (answer : Line) (v : World) → P u ends lines answer v → Q u ends lines answer v) → (ends : Bool) (lines : List Line) (answer : Line) (v : World) →
    Behind e P ends lines answer v → Behind e Q ends lines answer v
behind_as e P Q gives ends lines answer v h = go e.ends h
  where
    go : (b : Bool) → Behind (record e { ends = b }) P ends lines answer v → Behind (record e { ends = b }) Q ends lines answer v
    go true k = k
    go false k = (k.0, k.1, k.2, gives e.world ends k.1 answer v k.3)

pub walked_later : (ps : List Part) (after later : List DiskCounts) → NoneFalls after later → (w : World) (ends : Bool) (lines : List Line) (answer : Line) (v : World) → Walked after ps w ends lines answer v → Walked later ps w ends lines answer v
walked_later [] after later falls w ends lines answer v h = h
walked_later (p ∷ ps) after later falls w ends lines answer v h =
    (h.0, allowed_later w p after later falls h.0 h.1, behind_as (part_effect w p h.0) (Walked after ps) (Walked later ps) (λ u b ls a x k. walked_later ps after later falls u b ls a x k) ends lines answer v h.2)

-- No part.
pub does_none : (begun : List DiskCounts) (w : World) → DoesParts begun [] w false [] Normal w
does_none begun w = record { walked = (refl, refl, refl, refl); counts = none_falls_same w.disks }

-- Parts, and more of them behind, where the statement went on.
walked_more : (ps qs : List Part) (after : List DiskCounts) (w mid : World) (front : List Line) (given : Line) (ends : Bool) (rest : List Line) (answer : Line) (v : World) → Walked after ps w false front given mid → Walked after qs mid ends rest answer v → Walked after (ps ++ qs) w ends (front ++ rest) answer v
walked_more [] qs after w mid front given ends rest answer v h k = subst (λ ls. Walked after qs w ends (ls ++ rest) answer v) (sym h.1) (subst (λ u. Walked after qs u ends rest answer v) h.3 k)
walked_more (p ∷ ps) qs after w mid front given ends rest answer v h k = (h.0, h.1, go (part_effect w p h.0) h.2 (λ u x r. walked_more ps qs after u mid x given ends rest answer v r k))
  where
    go : (e : PartEffect) → Behind e (Walked after ps) false front given mid → ((u : World) (x : List Line) → Walked after ps u false x given mid → Walked after (ps ++ qs) u ends (x ++ rest) answer v) → Behind e (Walked after (ps ++ qs)) ends (front ++ rest) answer v
    go e b again = by e.ends b
      where
        by : (t : Bool) → Behind (record e { ends = t }) (Walked after ps) false front given mid → Behind (record e { ends = t }) (Walked after (ps ++ qs)) ends (front ++ rest) answer v
        by true x = let none : ⊥ = cc (x.0) in absurd none
        by false x = (x.0, x.1 ++ rest, ap (λ ls. ls ++ rest) x.2 ∙ append_assoc e.lines x.1 rest, again e.world x.1 x.3)

pub does_more : (begun : List DiskCounts) (ps qs : List Part) (w mid : World) (front : List Line) (given : Line) (ends : Bool) (rest : List Line) (answer : Line) (v : World) → DoesParts begun ps w false front given mid → DoesParts begun qs mid ends rest answer v → DoesParts begun (ps ++ qs) w ends (front ++ rest) answer v
does_more begun ps qs w mid front given ends rest answer v h k = record {
  walked = walked_more ps qs v.disks (as_begun begun w) (as_begun begun mid) front given ends rest answer (as_begun begun v) (walked_later ps mid.disks v.disks k.counts (as_begun begun w) false front given (as_begun begun mid) h.walked) k.walked;
  counts = none_falls_on w.disks mid.disks v.disks h.counts k.counts;
}

-- and where it ended, no more are done.
walked_ended : (ps qs : List Part) (after : List DiskCounts) (w : World) (lines : List Line) (answer : Line) (v : World) → Walked after ps w true lines answer v → Walked after (ps ++ qs) w true lines answer v
walked_ended [] qs after w lines answer v h = let none : ⊥ = cc (h.0) in absurd none
walked_ended (p ∷ ps) qs after w lines answer v h = (h.0, h.1, go (part_effect w p h.0) h.2 (λ u x r. walked_ended ps qs after u x answer v r))
  where
    go : (e : PartEffect) → Behind e (Walked after ps) true lines answer v → ((u : World) (x : List Line) → Walked after ps u true x answer v → Walked after (ps ++ qs) u true x answer v) → Behind e (Walked after (ps ++ qs)) true lines answer v
    go e b again = by e.ends b
      where
        by : (t : Bool) → Behind (record e { ends = t }) (Walked after ps) true lines answer v → Behind (record e { ends = t }) (Walked after (ps ++ qs)) true lines answer v
        by true x = x
        by false x = (x.0, x.1, x.2, again e.world x.1 x.3)

pub does_ended : (begun : List DiskCounts) (ps qs : List Part) (w : World) (lines : List Line) (answer : Line) (v : World) → DoesParts begun ps w true lines answer v → DoesParts begun (ps ++ qs) w true lines answer v
does_ended begun ps qs w lines answer v h = record { walked = walked_ended ps qs v.disks (as_begun begun w) lines answer (as_begun begun v) h.walked; counts = h.counts }

-- Where the statement goes on, it has succeeded so far.
walked_on : (ps : List Part) (after : List DiskCounts) (w : World) (lines : List Line) (answer : Line) (v : World) → Walked after ps w false lines answer v → answer ≡ Normal
walked_on [] after w lines answer v h = h.2
walked_on (p ∷ ps) after w lines answer v h = go (part_effect w p h.0) h.2 (λ u x r. walked_on ps after u x answer v r)
  where
    go : (e : PartEffect) → Behind e (Walked after ps) false lines answer v → ((u : World) (x : List Line) → Walked after ps u false x answer v → answer ≡ Normal) → answer ≡ Normal
    go e b again = by e.ends b
      where
        by : (t : Bool) → Behind (record e { ends = t }) (Walked after ps) false lines answer v → answer ≡ Normal
        by true x = let none : ⊥ = cc (x.0) in absurd none
        by false x = again e.world x.1 x.3

pub does_on : (begun : List DiskCounts) (ps : List Part) (w : World) (lines : List Line) (answer : Line) (v : World) → DoesParts begun ps w false lines answer v → answer ≡ Normal
does_on begun ps w lines answer v h = walked_on ps v.disks (as_begun begun w) lines answer (as_begun begun v) h.walked

-- Parts that were done are parts of a statement, with whatever is to come.
pub parts_on : (ps : List Part) (after : List DiskCounts) (more : Onward) (w mid : World) (front : List Line) (given : Line) (rest : List Line) (answer : Line) (v : World) → Walked after ps w false front given mid → more mid Normal rest answer v → Parts ps after more w Normal (front ++ rest) answer v
parts_on [] after more w mid front given rest answer v h k = subst (λ ls. more w Normal (ls ++ rest) answer v) (sym h.1) (subst (λ u. more u Normal rest answer v) h.3 k)
parts_on (p ∷ ps) after more w mid front given rest answer v h k = (h.0, h.1, go (part_effect w p h.0) h.2 (λ u x r. parts_on ps after more u mid x given rest answer v r k))
  where
    go : (e : PartEffect) → Behind e (Walked after ps) false front given mid → ((u : World) (x : List Line) → Walked after ps u false x given mid → Parts ps after more u Normal (x ++ rest) answer v) → Then e (Parts ps after more) (front ++ rest) answer v
    go e b again = by e.ends b
      where
        by : (t : Bool) → Behind (record e { ends = t }) (Walked after ps) false front given mid → Then (record e { ends = t }) (Parts ps after more) (front ++ rest) answer v
        by true x = let none : ⊥ = cc (x.0) in absurd none
        by false x = (x.1 ++ rest, ap (λ ls. ls ++ rest) x.2 ∙ append_assoc e.lines x.1 rest, subst (λ a. Parts ps after more e.world a (x.1 ++ rest) answer v) (sym x.0) (again e.world x.1 x.3))

pub parts_ended : (ps : List Part) (after : List DiskCounts) (more : Onward) (w : World) (lines : List Line) (answer : Line) (v : World) → Walked after ps w true lines answer v → Parts ps after more w Normal lines answer v
parts_ended [] after more w lines answer v h = let none : ⊥ = cc (h.0) in absurd none
parts_ended (p ∷ ps) after more w lines answer v h = (h.0, h.1, go (part_effect w p h.0) h.2 (λ u x r. parts_ended ps after more u x answer v r))
  where
    go : (e : PartEffect) → Behind e (Walked after ps) true lines answer v → ((u : World) (x : List Line) → Walked after ps u true x answer v → Parts ps after more u Normal x answer v) → Then e (Parts ps after more) lines answer v
    go e b again = by e.ends b
      where
        by : (t : Bool) → Behind (record e { ends = t }) (Walked after ps) true lines answer v → Then (record e { ends = t }) (Parts ps after more) lines answer v
        by true x = (x.1, x.2, x.3)
        by false x = (x.1, x.2, subst (λ a. Parts ps after more e.world a x.1 answer v) (sym x.0) (again e.world x.1 x.3))
