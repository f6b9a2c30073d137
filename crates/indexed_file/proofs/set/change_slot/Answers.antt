use Rattle.std.proofs.Common.{◌+◌, length, take, subst, ap, ◌∙◌, arith}
use Rattle.bucket_page.specs.declared.kind.PageKind.{PageKind}
use Rattle.bucket_page.specs.Pages.{slots_of, next_of, slot_at, suits, replaced, Packs}
use Rattle.indexed_file.proofs.set.change_slot.Goals as goal

pub replace_front-requires-clause-slot : goal.replace_front-requires-clause-slot
replace_front-requires-clause-slot c = ap (λ (k : PageKind). suits k (take (4 + c.args.room) c.make_slot.new.out)) c.kind.ensures ∙ c.make_slot.ensures.suit

pub replace_front-requires-clause-same : goal.replace_front-requires-clause-same
replace_front-requires-clause-same c =
    omega (arith, c.make_slot.ensures.size, c.requires.same, ap (λ (k : PageKind). length (slot_at (slots_of k (take c.args.size c.args.low.now)) c.args.i)) c.kind.ensures)

pub returns : goal.returns
returns c =
    let size = c.args.size in
    let old = take size c.args.low.now in
    record {
      raw = take (4 + c.args.room) c.make_slot.new.out;
      means = c.make_slot.ensures;
      packs = subst (λ (k : PageKind). Packs k size (replaced (slots_of k old) c.args.i (take (4 + c.args.room) c.make_slot.new.out)) (next_of old) (take size c.replace_front.new.frame)) c.kind.ensures c.replace_front.ensures.packed;
    }
