-- Lines of a journal, the newest of whose entries stands first.
use Rattle.std.proofs.Common.{◌≡◌, ◌≤◌, ℕ, List, [], ◌∷◌, ◌++◌, sym, ap, ◌∙◌, length, get_or, append_assoc}
use Rattle.std.specs.Prelude.{map, reverse}
use Rattle.std.proofs.lemmas.List.{reverse-append}
use Rattle.reference_index.specs.transcript_model.Lines.{Line}
use Rattle.reference_index.specs.run_model.Answers.{image_line, image_lines}
use Rattle.reference_index.proofs.ListLemmas.{behind_first, parts}
use Rattle.reference_world.specs.declared.world.Placed.{Placed}
use Rattle.reference_world.specs.Standing.{placed_of}

reversed : {A : Type 0} (x : A) (xs ys : List A) → reverse xs ++ x ∷ ys ≡ reverse (x ∷ xs) ++ ys
reversed x xs ys = sym (ap (λ zs. zs ++ ys) (reverse-append (x ∷ []) xs) ∙ append_assoc (reverse xs) (x ∷ []) ys)

-- the line of the first of some entries comes right before the others
pub first_line : (file : List ℕ) (xs : List Placed) (x : Placed) (behind : List Line) → 1 ≤ length xs → x ≡ get_or xs 0 x →
    image_lines file (map placed_of (behind_first xs)) ++ image_line file (placed_of x) ∷ behind ≡ image_lines file (map placed_of xs) ++ behind
first_line file xs x behind some is = reversed (image_line file (placed_of x)) (map (image_line file) (map placed_of (behind_first xs))) behind
    ∙ ap (λ ys. image_lines file (map placed_of ys) ++ behind) (sym (parts xs x some is))
