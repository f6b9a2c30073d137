-- What a loop of writes does.
use Rattle.std.specs.Prelude.{◌≡◌, ℕ, ◌≤◌, List, [], ◌++◌, Bool, true, false, Option}
use Rattle.emitter_model.specs.transcript_model.Outside.{behind, Rose}

-- A sink that showed old, with the count before, now shows new, with the count after: some front of the
-- bytes was written, and rest was not. Where rest is not empty, a write failed.
pub record WritesUpTo (old : Option (List ℕ)) (before : ℕ) (bytes rest : List ℕ) (new : Option (List ℕ)) (after : ℕ) : Type 0 where
  pub added : List ℕ
  pub shows : new ≡ behind old added
  pub parts : bytes ≡ added ++ rest
  pub counts : before ≤ after

-- all bytes, or where all is false a front of them
pub record Writes (old : Option (List ℕ)) (before : ℕ) (bytes : List ℕ) (all : Bool) (new : Option (List ℕ)) (after : ℕ) : Type 0 where
  pub rest : List ℕ
  pub upto : WritesUpTo old before bytes rest new after
  pub whole : all ≡ true → rest ≡ []
  pub cause : all ≡ false → Rose before after
