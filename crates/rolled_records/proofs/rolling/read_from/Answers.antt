use Rattle.std.proofs.Common.{◌<◌, ◌≤◌, Some, None, List, ℕ, Option, IfSome, arith}
use Rattle.image_laws.proofs.unit_entries.StoreLemmas.{of_content}
use Rattle.rolled_records.proofs.RollLemmas.{read_so, none_read}
use Rattle.rolled_records.proofs.rolling.read_from.Goals as goal

pub returns-in-Ok-Some-clause-read : goal.returns-in-Ok-Some-clause-read
returns-in-Ok-Some-clause-read g c =
    let told = rw c.in-Ok-Some.field-0-is at c.in-Ok-Some.ensures.told in
    of_content c.args.store.now.current (λ x told. read_so c.images_follow.ensures.read c.args.images.now c.args.from c.in-Ok-Some.entries.heads.items c.in-Ok-Some.entries.positions.items x told) told

pub returns-in-Ok-None-clause-read : goal.returns-in-Ok-None-clause-read
returns-in-Ok-None-clause-read g c =
    let whole = rw c.in-Ok-None.field-0-is at c.in-Ok-None.ensures.whole in
    of_content c.args.store.now.current (λ x none. none_read c.images_follow.ensures.read c.args.images.now c.args.from _ _ x none) whole
