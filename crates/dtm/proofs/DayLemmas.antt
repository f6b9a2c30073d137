-- New disks in memory.
use Rattle.std.proofs.Common.{◌≡◌, ◌<◌, ◌^◌, ℕ, List, [], ◌∷◌, ◌++◌, Some, map, is_some, replicate, refl, sym, ◌∙◌, ap, subst, arith}
use Rattle.std.specs.List.{AllByRecursion}
use Rattle.block_disk.specs.Disk.{DiskState, fresh}
use Rattle.dtm_run.specs.Openings.{AreTold, IsTold}
use Rattle.dtm.specs.Days.{IsBlank}

-- A new disk over new blocks of memory.
pub blank : (d : DiskState) (size faults : ℕ) (blocks : List (List ℕ)) → d ≡ fresh size faults (Some blocks) → size ≡ 16384 → faults ≡ 0 → blocks ≡ replicate 16384 (replicate 512 0) → IsBlank d
blank d size faults blocks e is none zeros =
    let large : d.size ≡ 16384 = ap (λ (x : DiskState). x.size) e ∙ is in
    record {
      size = large;
      zeros = ap (λ (x : DiskState). x.seen) e ∙ ap Some zeros ∙ ap (λ n. Some (replicate n (replicate 512 0))) (sym large);
      settled = ap (λ (x : DiskState). x.pending) e;
      faults = ap (λ (x : DiskState). x.faults) e ∙ none;
      stops = ap (λ (x : DiskState). x.stops) e;
    }

-- two such disks, added one after the other to a rack without nodes

no_disks : {D : Type 0} (ps : List (List ℕ × D)) → map (λ p. p.0) ps ≡ [] → map (λ p. p.1) ps ≡ []
no_disks [] e = refl
no_disks (p ∷ ps) e = let none : ⊥ = cc in absurd none

all_blank : {D : Type 0} (state : D → DiskState) (ps : List (List ℕ × D)) → AllByRecursion (λ d. IsBlank (state d)) (map (λ p. p.1) ps) → AllByRecursion IsBlank (map (λ p. state p.1) ps)
all_blank state [] h = tt
all_blank state (p ∷ ps) h = (h.0, all_blank state ps h.1)

pub blank_pair : {D : Type 0} (state : D → DiskState) (none one two : List (List ℕ × D)) (a b : D) → map (λ p. p.0) none ≡ [] → map (λ p. p.1) one ≡ map (λ p. p.1) none ++ a ∷ [] → map (λ p. p.1) two ≡ map (λ p. p.1) one ++ b ∷ [] → IsBlank (state a) → IsBlank (state b) →
    AllByRecursion IsBlank (map (λ p. state p.1) two)
blank_pair {D} state none one two a b empty first second ha hb =
    let both : map (λ p. p.1) two ≡ a ∷ (b ∷ []) = second ∙ ap (λ (ds : List D). ds ++ b ∷ []) (first ∙ ap (λ (ds : List D). ds ++ a ∷ []) (no_disks none empty)) in
    all_blank state two (subst (λ (ds : List D). AllByRecursion (λ d. IsBlank (state d)) ds) (sym both) (ha, (hb, tt)))

-- Nodes stand on them.

few : (n : ℕ) → n ≡ 0 → n < 2 ^ 64
few n e = subst (λ (m : ℕ). m < 2 ^ 64) (sym e) (omega arith)

told : (d : DiskState) → IsBlank d → IsTold d
told d b = record { told = ap is_some b.zeros; counted = (few d.faults b.faults, few d.stops b.stops) }

pub all_told : {D : Type 0} (state : D → DiskState) (ps : List (List ℕ × D)) → AllByRecursion IsBlank (map (λ p. state p.1) ps) → AreTold (map (λ p. p.0) ps) (map (λ p. state p.1) ps)
all_told state [] h = tt
all_told state (p ∷ ps) h = (told (state p.1) h.0, all_told state ps h.1)
