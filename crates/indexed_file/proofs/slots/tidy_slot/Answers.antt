use Rattle.std.proofs.Common.{◌≡◌, ◌≤◌, ◌<◌, ◌+◌, Bool, List, ℕ, true, false, [], length, take, sym, ap, subst, ◌∙◌, arith}
use Rattle.std.proofs.lemmas.List.{length-take}
use Rattle.vms_base.specs.vms_model.Keys.{Text}
use Rattle.bucket_page.specs.declared.kind.PageKind.{PageKind}
use Rattle.bucket_page.specs.Pages.{key_in, slots_of, next_of, suits, joined, removed, inserted, Packs}
use Rattle.indexed_file.specs.Chain.{kind_of}
use Rattle.indexed_file.specs.Raws.{TidiesSlot, one_of, tidied_raw}
use Rattle.indexed_file.proofs.TidyLaws.{goes_back, tidies_back, tidies_none, true_if}
use Rattle.indexed_file.proofs.slots.tidy_slot.Goals as goal

pub returns-then-long-eq0 : goal.returns-then-long-eq0
returns-then-long-eq0 g c =
    let h = c.args.head.now in
    let size = c.args.size in
    let i = c.args.i in
    let old = c.args.bytes.now in
    let held = λ (t : List ℕ). g.H.Held.held c.args.held.now (Text t) in
    let raw = c.slot.result.now in
    let one : one_of [] ≡ tidied_raw h (held (key_in (kind_of h) raw)) raw = ap (λ n. one_of (take n c.tidied-long.new.out)) (sym c.if-long-eq0.true) ∙ c.tidied-long.ensures.slot in
    let packs = subst (λ (k : PageKind). Packs k size (removed (slots_of k (take size old)) i) (next_of (take size old)) (take size c.remove_front.new.frame)) c.kind.ensures c.remove_front.ensures.packed in
    tidies_none h held size i old c.remove_front.new.frame raw [] c.requires.there c.slot.ensures.is one packs

pub insert_front-requires-clause-slot : goal.insert_front-requires-clause-slot
insert_front-requires-clause-slot g c =
    let h = c.args.head.now in
    let size = c.args.size in
    let i = c.args.i in
    let old = c.args.bytes.now in
    let held = λ (t : List ℕ). g.H.Held.held c.args.held.now (Text t) in
    let x = take c.tidied-long.result c.tidied-long.new.out in
    let some : 1 ≤ length x = omega (arith, length-take c.tidied-long.result c.tidied-long.new.out, c.tidied-long.ensures.size, c.tidied-long.auto.out, c.if-long-eq0.false) in
    let packs = subst (λ (k : PageKind). Packs k size (removed (slots_of k (take size old)) i) (next_of (take size old)) (take size c.remove_front.new.frame)) c.kind.ensures c.remove_front.ensures.packed in
    let back = goes_back h held size i old c.remove_front.new.frame c.slot.result.now x c.requires.packed c.requires.there c.slot.ensures.is c.tidied-long.ensures.slot some packs in
    ap (λ (k : PageKind). suits k x) c.kind-2.ensures ∙ back.suit

pub returns : goal.returns
returns g c =
    let h = c.args.head.now in
    let size = c.args.size in
    let i = c.args.i in
    let old = c.args.bytes.now in
    let b1 = c.remove_front.new.frame in
    let held = λ (t : List ℕ). g.H.Held.held c.args.held.now (Text t) in
    let x = take c.tidied-long.result c.tidied-long.new.out in
    let some : 1 ≤ length x = omega (arith, length-take c.tidied-long.result c.tidied-long.new.out, c.tidied-long.ensures.size, c.tidied-long.auto.out, c.if-long-eq0.false) in
    let packs = subst (λ (k : PageKind). Packs k size (removed (slots_of k (take size old)) i) (next_of (take size old)) (take size b1)) c.kind.ensures c.remove_front.ensures.packed in
    let back = goes_back h held size i old b1 c.slot.result.now x c.requires.packed c.requires.there c.slot.ensures.is c.tidied-long.ensures.slot some packs in
    let full = subst (λ (k : PageKind). (c.insert_front.result ≡ false) → size < 16 + length (joined (slots_of k (take size b1))) + length x) c.kind-2.ensures c.insert_front.ensures.full.0 in
    let was_put : c.insert_front.result ≡ true = true_if c.insert_front.result (λ no_room. let wrong = full no_room in omega (arith, wrong, back.room)) in
    let put = subst (λ (k : PageKind). Packs k size (inserted (slots_of k (take size b1)) i x) (next_of (take size b1)) (take size c.insert_front.new.frame)) c.kind-2.ensures (c.insert_front.ensures.yes was_put) in
    subst (λ (s : Bool). TidiesSlot h held size i s old c.insert_front.new.frame) (sym was_put)
    (tidies_back h held size i old b1 c.insert_front.new.frame c.slot.result.now x c.requires.there c.slot.ensures.is c.tidied-long.ensures.slot some packs put)
