use Rattle.std.proofs.Common.{◌≡◌, ◌∷◌, [], Some, IfOk, Result, List, subst, ℕ}
use Rattle.reference_law.specs.Whole.{Ended, run_of}
use Rattle.reference_run.specs.Scripts.{exit_of}
use Rattle.reference_run.proofs.script.reference_transcript.Goals as goal

named : (x y : List ℕ) → Some x ≡ Some y → x ≡ y
named x y e = cc

-- the same of a name that is known
so_named : {T E : Type 0} (r : Result T E) (shown : T → Ended) (x y : List ℕ) (blocks : ℕ) (script : List ℕ) → Some x ≡ Some y →
    IfOk r (λ v. shown v ≡ run_of (record { name = x; blocks = blocks } ∷ []) script) → IfOk r (λ v. shown v ≡ run_of (record { name = y; blocks = blocks } ∷ []) script)
so_named r shown x y blocks script e h = subst (λ (n : List ℕ). IfOk r (λ v. shown v ≡ run_of (record { name = n; blocks = blocks } ∷ []) script)) (named x y e) h

pub returns : goal.returns
returns c = so_named c.reference_transcript_of.result (λ v. record { exit = exit_of v.ending; text = v.text.items }) c.in-Some.name (65 ∷ []) c.args.blocks c.args.script.now c.in-Some.ensures c.reference_transcript_of.ensures
