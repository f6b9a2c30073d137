-- A script goes on behind a part.
use Rattle.std.proofs.Common.{◌≡◌, ℕ, zero, suc, ◌+◌, ◌-◌, List, [], ◌∷◌, ◌++◌, Bool, true, false, map, if◌then◌else◌, refl, sym, ◌∙◌, ap, append_assoc, append-nil, arith}
use Rattle.day_model.specs.Draws.{below, next}
use Rattle.day_model.specs.Pieces.{Piece, Settle, dumps, transaction, transactions}
use Rattle.day_script.specs.Steps.{piece_of}
use Rattle.day_script.specs.declared.steps.Step.{Step}

-- what comes behind the steps of a part
abbrev pub later : (closed : Bool) (left number drawn : ℕ) → List Piece
later closed left number drawn = if closed then [] else transactions left (number + 1) drawn ++ (Settle ∷ dumps)

module _ (steps : List Step) (number key left drawn : ℕ) (closed : Bool) (none : steps ≡ []) (still : closed ≡ false) where
  pub closes : (ps : List Piece) → left ≡ 0 → ps ≡ Settle ∷ dumps → ps ++ [] ≡ map (piece_of number key) steps ++ later closed left number drawn
  closes ps over e = rw (none, still, over, e) (append-nil (Settle ∷ dumps))

  pub begins : (ps : List Piece) (n k l x choice : ℕ) (c : Bool) → (left ≡ 0 → ⊥) → n ≡ number + 1 → l ≡ left - 1 → k ≡ below 200 (next drawn) + 1 → x ≡ next (next drawn) → choice ≡ below 10 (next (next drawn)) → c ≡ false → ps ≡ transaction n k choice →
      ps ++ later c l n x ≡ map (piece_of number key) steps ++ later closed left number drawn
  begins ps n k l x choice c some en el ek ex ec ef e = rw (none, still, e, ef, ek, ex, ec, en, el) (go left some)
    where
      go : (m : ℕ) → (m ≡ 0 → ⊥) →
          transaction (number + 1) (below 200 (next drawn) + 1) (below 10 (next (next drawn))) ++ (transactions (m - 1) (number + 1 + 1) (next (next drawn)) ++ (Settle ∷ dumps)) ≡ transactions m (number + 1) drawn ++ (Settle ∷ dumps)
      go zero some = absurd (some refl)
      go (suc m) some =
          let same : suc m - 1 ≡ m = omega arith in
          rw same (sym (append_assoc (transaction (number + 1) (below 200 (next drawn) + 1) (below 10 (next (next drawn)))) (transactions m (number + 1 + 1) (next (next drawn))) (Settle ∷ dumps)))
