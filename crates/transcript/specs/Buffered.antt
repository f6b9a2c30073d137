-- What is put through a buffer: a text of which the end may still wait.
use Rattle.std.specs.Prelude.{◌≡◌, List, ℕ, ◌++◌, false}
use Rattle.emitter_model.specs.Emitting.{Shown, Puts}

-- what is shown, and what waits in the buffer
pub record BufferedText : Type 0 where
  pub shown : Shown
  pub waiting : List ℕ

-- from a on this text was put, and where no write failed its end is what waits
pub record Holds (a : Shown) (text : List ℕ) (now : BufferedText) : Type 0 where
  pub written : List ℕ
  pub rest : List ℕ
  pub parts : text ≡ written ++ rest
  pub puts : Puts a written now.shown
  pub waits : now.shown.failed ≡ false → rest ≡ now.waiting

-- whatever text was put before, this one was put behind it
pub record Appends (old : BufferedText) (text : List ℕ) (new : BufferedText) : Type 0 where
  pub behind : (a : Shown) (before : List ℕ) → Holds a before old → Holds a (before ++ text) new
