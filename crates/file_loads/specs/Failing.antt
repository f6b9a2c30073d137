-- What a load leaves.
use Rattle.std.specs.Prelude.{◌≡◌, ℕ, List}
use Rattle.careful_write.specs.declared.down.Down.{Down}
use Rattle.careful_write.specs.Down.{CountsDown}
use Rattle.careful_write.specs.State.{StoreState, IsIdle}
use Rattle.careful_write.specs.Steps.{Quiet}
use Rattle.file_base.specs.declared.head.FileHead.{FileHead}
use Rattle.change_set.specs.Files.{in_extent, AgreesOut, LeavesOut, unstaged}
use Rattle.file_base.specs.declared.head.Organization.{Organization}
use Rattle.file_base.specs.declared.head.Organization.TheVariants.{Sequential, Relative, Indexed}
use Rattle.load_pages.specs.load_laws.Records.{Keyed}
use Rattle.load_pages.specs.load_laws.Keys.{lowest_keys}
use Rattle.load_pages.specs.load_laws.Loads.{leaf_parts}
use Rattle.file_loads.specs.declared.loads.LoadErr.{LoadErr}
use Rattle.file_loads.specs.declared.loads.LoadErr.TheVariants as err

-- only blocks of the extent changed, and nothing is staged
pub record Wrote (h : FileHead) (old new : StoreState) : Type 0 where
  pub idle : IsIdle new
  pub outside : AgreesOut (in_extent h) old.current new.current
  pub quiet : Quiet old.disk new.disk
  pub pool : new.pool ≡ old.pool

-- the disk went down, and each image has outside of the extent what was there; nothing is staged
pub record FellIn (h : FileHead) (down : Down) (old new : StoreState) : Type 0 where
  pub leaves : LeavesOut (in_extent h) old.current new.disk
  pub unstaged_is : new ≡ unstaged new
  pub counts : CountsDown down old.disk new.disk
  pub pool : new.pool ≡ old.pool

-- where memory was missing, nothing was written
abbrev pub Fails : FileHead → LoadErr → StoreState → StoreState → Type 0
Fails h err.Memory old new = new ≡ old
Fails h (err.Down down) old new = FellIn h down old new

-- the lowest keys of the leaves of an indexed file
abbrev pub HasKeysBy : Organization → FileHead → List Keyed → List (List ℕ) → Type 0
HasKeysBy Sequential h es keys = Unit {0}
HasKeysBy Relative h es keys = Unit {0}
HasKeysBy Indexed h es keys = keys ≡ lowest_keys h (leaf_parts h es)

abbrev pub HasKeysFor : FileHead → List Keyed → List (List ℕ) → Type 0
HasKeysFor h es keys = HasKeysBy h.organization h es keys
