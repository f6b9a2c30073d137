-- Runs of free blocks, with one block more in front.
use Rattle.std.proofs.Common.{◌≡◌, ℕ, suc, List, Some, ap, ◌∙◌, if◌then◌else◌}
use Rattle.std.specs.Prelude.{max, nat_le}
use Rattle.reference_index.specs.run_model.Extents.{Extent, is_taken, run_from}
use Rattle.reference_world.specs.declared.directory.Runs.{Runs}
use Rattle.reference_world.specs.Directories.{IsRuns}

pub longer_runs : (es : List Extent) (need block k : ℕ) (old new : Runs) → IsRuns es need (suc block) k old → new.first ≡ (if is_taken es block then 0 else suc old.first) →
    new.longest ≡ max new.first old.longest → new.lowest ≡ (if nat_le need new.first then Some block else old.lowest) → IsRuns es need block (suc k) new
longer_runs es need block k old new h first longest lowest =
    let f : new.first ≡ run_from es block (suc k) = first ∙ ap (λ x. if is_taken es block then 0 else suc x) h.first in
    record {
      first = f;
      longest = longest ∙ ap (λ x. max x old.longest) f ∙ ap (λ x. max (run_from es block (suc k)) x) h.longest;
      lowest = lowest ∙ ap (λ x. if nat_le need x then Some block else old.lowest) f ∙ ap (λ x. if nat_le need (run_from es block (suc k)) then Some block else x) h.lowest;
    }
