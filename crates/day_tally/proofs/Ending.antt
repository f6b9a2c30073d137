-- The text of a day, put piece after piece.
use Rattle.std.proofs.Common.{◌≡◌, ◌≤◌, ℕ, ◌-◌, List, [], ◌∷◌, ◌++◌, map, length, get_or, take, drop, codes, refl, sym, ◌∙◌, ap, arith}
use Rattle.std.proofs.lemmas.List.{take_rest}
use Rattle.emitter_model.specs.Emitting.{Puts, Shown}
use Rattle.emitter_model.specs.Tally.{Tally}
use Rattle.emitter_model.proofs.EmittingLemmas.{puts2, puts3}
use Rattle.day_script.specs.day_model.Days.{counting, counts_text, numbers_text}
use Rattle.day_script.specs.day_model.Pieces.{dumps}
use Rattle.day_script.specs.Steps.{file_of, piece_of, side_of}
use Rattle.day_script.specs.declared.steps.File.{File}
use Rattle.day_script.specs.declared.steps.Side.{Side}
use Rattle.day_script.specs.declared.steps.Step.{Step}
use Rattle.day_script.specs.declared.steps.Step.TheVariants as step
use Rattle.day_tally.specs.Ends.{end_text}
use Rattle.day_tally.specs.declared.counts.Ended.{Ended}
use Rattle.day_tally.specs.declared.counts.Ended.TheVariants as ended

-- the three numbers, one after another
pub numbers_put : (a b c d : Shown) (count committed n m : ℕ) → n ≡ count → m ≡ n - committed → Puts a (counting (codes "TRANSACTIONS ") n) b → Puts b (counting (codes "COMMITTED ") committed) c → Puts c (counting (codes "ABORTED ") m) d → Puts a (numbers_text count committed) d
numbers_put a b c d count committed n m e f x y z =
    puts3 a b c d (counting (codes "TRANSACTIONS ") n) (counting (codes "COMMITTED ") committed) (counting (codes "ABORTED ") m) (numbers_text count committed) x y z
    (ap (λ k. numbers_text k committed) (sym e) ∙ ap (λ k. counting (codes "TRANSACTIONS ") n ++ (counting (codes "COMMITTED ") committed ++ counting (codes "ABORTED ") k)) (sym f))

-- the numbers, and then the counts of all files
pub whole_put : (a b d : Shown) (count committed : ℕ) (t : Tally) (e : Ended) (steps : List Step) (ns counts : List ℕ) → e ≡ ended.Whole → committed ≡ t.committed → map (piece_of 0 0) steps ≡ dumps → ns ≡ counts →
    Puts a (numbers_text count committed) b → Puts b (counts_text (map (piece_of 0 0) steps) ns) d → Puts a (end_text count t e counts) d
whole_put a b d count committed t e steps ns counts is all these same x y =
    puts2 a b d (numbers_text count committed) (counts_text (map (piece_of 0 0) steps) ns) (end_text count t e counts) x y (rw (is, all, these, same) refl)

-- the count of one file, and then those of the others
pub dump_put : (a b d : Shown) (steps : List Step) (ns : List ℕ) (side : Side) (file : File) (s0 : Step) (n0 : ℕ) (label : List ℕ) → 1 ≤ length steps → 1 ≤ length ns → get_or steps 0 s0 ≡ step.Dump side file →
    label ≡ side_of side ++ (32 ∷ (file_of file ++ (32 ∷ []))) → Puts a (counting label (get_or ns 0 n0)) b → Puts b (counts_text (map (piece_of 0 0) (take (length steps - 1) (drop 1 steps))) (take (length ns - 1) (drop 1 ns))) d →
    Puts a (counts_text (map (piece_of 0 0) steps) ns) d
dump_put a b d [] ns side file s0 n0 label h k is said x y = absurd (omega arith)
dump_put a b d (s ∷ steps) [] side file s0 n0 label h k is said x y = absurd (omega arith)
dump_put a b d (s ∷ steps) (n ∷ ns) side file s0 n0 label h k is said x y =
    puts2 a b d (counting label n) _ (counts_text (map (piece_of 0 0) (s ∷ steps)) (n ∷ ns)) x y (rw (is, said, take_rest (s ∷ steps) 1, take_rest (n ∷ ns) 1) refl)
