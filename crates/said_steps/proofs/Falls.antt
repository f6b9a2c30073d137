-- How lines and an answer tell that a node went down.
use Rattle.std.specs.Prelude.{◌||◌}
use Rattle.std.proofs.Common.{◌≡◌, ℕ, List, [], ◌∷◌, ◌++◌, Bool, true, false, Option, Some, None, inl, inr, refl, sym, ◌∙◌, ap, subst}
use Rattle.std.specs.List.{last_or}
use Rattle.std.specs.Str.{bytes_eq}
use Rattle.std.proofs.lemmas.Slice.Eq.{bytes_eq-Decides}
use Rattle.commit_protocol.specs.World.{In}
use Rattle.commit_protocol.proofs.Lists.{in_parts}
use Rattle.run_said.specs.transcript_model.Lines as line
use Rattle.run_said.specs.transcript_model.Lines.{Cause, Line}
use Rattle.said_steps.specs.Answers.{FallsTold, FellLast, IsSteady, is_broken}
use Rattle.said_steps.specs.Calls.{is_named}
use Rattle.said_steps.proofs.OwnLines.{last_is}

-- Lines.

pub steady_none : IsSteady []
steady_none = record { down = λ node cause i. i; crash = λ node i. i }

pub steady_on : (front rest : List Line) → IsSteady front → IsSteady rest → IsSteady (front ++ rest)
steady_on front rest h k = record {
  down = λ node cause i. elim (in_parts (line.Down node cause) front rest i) [ inl j ↦ h.down node cause j | inr j ↦ k.down node cause j ];
  crash = λ node i. elim (in_parts (line.Crashed node) front rest i) [ inl j ↦ h.crash node j | inr j ↦ k.crash node j ];
}

last_from : (o : Option Line) (l : Line) (ls : List Line) → last_or o (l ∷ ls) ≡ last_or None (l ∷ ls)
last_from o l ls = refl

pub last_behind : (front rest : List Line) (x : Line) → last_or None rest ≡ Some x → last_or None (front ++ rest) ≡ Some x
last_behind [] rest x e = e
last_behind (l ∷ front) rest x e = go front rest (Some l) e
  where
    go : (ls ms : List Line) (o : Option Line) → last_or None ms ≡ Some x → last_or o (ls ++ ms) ≡ Some x
    go [] [] o e = let none : ⊥ = cc in absurd none
    go [] (m ∷ ms) o e = e
    go (k ∷ ls) ms o e = go ls ms (Some k) e

pub in_last : (ls : List Line) (l : Line) → In l (ls ++ l ∷ [])
in_last [] l = inl refl
in_last (k ∷ ls) l = inr (in_last ls l)

-- Names.

its_name : (name : List ℕ) → bytes_eq name name ≡ true
its_name name = (bytes_eq-Decides name name).1 refl

pub named_first : (name : List ℕ) (names : List (List ℕ)) → is_named name (name ∷ names) ≡ true
named_first name names = ap (λ b. b || is_named name names) (its_name name)

pub named_only : (node name : List ℕ) → is_named node (name ∷ []) ≡ true → node ≡ name
named_only node name e = (bytes_eq-Decides node name).0 (or_false (bytes_eq node name) e)
  where
    or_false : (b : Bool) → b || false ≡ true → b ≡ true
    or_false true e = refl
    or_false false e = e

-- Answers.

pub not_broken : (answer : Line) → is_broken answer ≡ false → (cause : Cause) → answer ≡ line.Broken cause → ⊥
not_broken answer e cause same = let no : true ≡ false = ap is_broken (sym same) ∙ e in let none : ⊥ = cc in none

-- no node goes down
pub falls_none : (names : List (List ℕ)) (lines : List Line) (answer : Line) → ((node : List ℕ) (cause : Cause) → In (line.Down node cause) lines → ⊥) → is_broken answer ≡ false → FallsTold names lines answer
falls_none names lines answer none unbroken = record {
  caused = λ cause e. absurd (not_broken answer unbroken cause e);
  answered = λ node cause i. absurd (none node cause i);
}

same_cause : (a b : Cause) → line.Broken a ≡ line.Broken b → a ≡ b
same_cause a b e = cc

down_cause : (a b : Cause) (x y : List ℕ) → line.Down x a ≡ line.Down y b → a ≡ b
down_cause a b x y e = cc

-- one does, which the last line shows
pub falls_last : (names : List (List ℕ)) (ls : List Line) (name : List ℕ) (cause : Cause) → is_named name names ≡ true → ((node : List ℕ) (c : Cause) → In (line.Down node c) ls → ⊥) → FallsTold names (ls ++ line.Down name cause ∷ []) (line.Broken cause)
falls_last names ls name cause named none = record {
  caused = λ c e. (name, named, last_is None ls (line.Down name cause) ∙ ap (λ x. Some (line.Down name x)) (same_cause cause c e));
  answered = λ node c i. elim (in_parts (line.Down node c) ls (line.Down name cause ∷ []) i) [
    | inl j ↦ absurd (none node c j)
    | inr j ↦ elim j [
      | inl e ↦ (last_is None ls (line.Down name cause) ∙ ap (λ x. Some x) (sym e), ap line.Broken (sym (down_cause c cause node name e)))
      | inr x ↦ absurd x
    ]
  ];
}

-- behind lines by which none does
pub falls_behind : (names : List (List ℕ)) (front rest : List Line) (answer : Line) → ((node : List ℕ) (cause : Cause) → In (line.Down node cause) front → ⊥) → FallsTold names rest answer → FallsTold names (front ++ rest) answer
falls_behind names front rest answer none h = record {
  caused = λ cause e. (let f = h.caused cause e in (f.0, f.1, last_behind front rest (line.Down f.0 cause) f.2));
  answered = λ node cause i. elim (in_parts (line.Down node cause) front rest i) [
    | inl j ↦ absurd (none node cause j)
    | inr j ↦ (let f = h.answered node cause j in (last_behind front rest (line.Down node cause) f.0, f.1))
  ];
}

-- among more nodes
pub falls_among : (name : List ℕ) (names : List (List ℕ)) (lines : List Line) (answer : Line) → is_named name names ≡ true → FallsTold (name ∷ []) lines answer → FallsTold names lines answer
falls_among name names lines answer named h = record {
  caused = λ cause e. (let f = h.caused cause e in (f.0, subst (λ x. is_named x names ≡ true) (sym (named_only f.0 name f.1)) named, f.2));
  answered = h.answered;
}
