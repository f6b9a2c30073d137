use Rattle.std.proofs.Common.{◌≡◌, ap, ◌∙◌}
use Rattle.std.specs.Prelude.{map}
use Rattle.std.specs.FinMap.{entries}
use Rattle.reference_world.specs.Standing.{entry_of, rows_of}
use Rattle.reference_world.proofs.dump.committed_of.Goals as goal

pub returns : goal.returns
returns c =
    let m = rows_of c.args.file.now.base.items in
    let base : map entry_of c.as_slice-rows.result.now ≡ entries m = ap (map entry_of) c.as_slice-rows.ensures.value ∙ c.in_ok-base.ensures ∙ ap (λ xs. entries (rows_of xs)) c.as_slice.ensures.value in
    rw c.as_slice-2.ensures.value at (c.with_settled.ensures m base)
