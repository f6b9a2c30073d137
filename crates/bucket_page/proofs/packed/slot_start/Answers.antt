use Rattle.std.proofs.Common.{◌≡◌, ◌∙◌, ℕ, List, length, ap, arith}
use Rattle.std.proofs.lemmas.List.{take_all}
use Rattle.bucket_page.specs.Pages.{slots_of, joined}
use Rattle.bucket_page.proofs.PageLaws.{count_is, used_is}
use Rattle.bucket_page.proofs.packed.slot_start.Goals as goal

pub returns-then-is_behind : goal.returns-then-is_behind
returns-then-is_behind c =
    let bytes = c.args.bytes.now in
    let slots = slots_of c.args.kind bytes in
    let packed = c.requires.packed in
    let counted : c.args.i ≡ length slots = c.is_behind.ensures c.if-is_behind.true ∙ count_is c.args.kind (length bytes) bytes packed in
    let whole = ap (λ (ss : List (List ℕ)). length (joined ss)) (take_all c.args.i slots (omega (arith, counted))) in
    omega (arith, whole, c.read_u16.ensures, used_is c.args.kind (length bytes) bytes packed)
