use Rattle.std.proofs.Common.{◌<◌, ◌+◌, List, ℕ, length, take, subst, sym, ap, ◌∙◌, arith}
use Rattle.vms_base.specs.vms_model.Keys.{Text}
use Rattle.bucket_page.specs.declared.kind.PageKind.{PageKind}
use Rattle.bucket_page.specs.Pages.{slots_of, next_of, joined, inserted, IsPacked, Packs}
use Rattle.indexed_file.specs.Chain.{kind_of}
use Rattle.bucket_page.proofs.PageLaws.{count_is}
use Rattle.indexed_file.specs.Raws.{tidied_raws, Parted}
use Rattle.indexed_file.proofs.AddLaws.{parted_read, whole_read, tidied_front}
use Rattle.indexed_file.proofs.set.add_tidied.Goals as goal

pub insert_front-requires-clause-packed : goal.insert_front-requires-clause-packed
insert_front-requires-clause-packed g c = subst (λ (k : PageKind). IsPacked k c.args.size (take c.args.size c.tidy-at.new.bytes)) (sym c.kind.ensures) c.tidy-at.ensures.slots.packed

pub insert_front-requires-clause-there : goal.insert_front-requires-clause-there
insert_front-requires-clause-there g c =
    let h = c.args.head.now in
    let held = λ (t : List ℕ). g.H.Held.held c.args.held.now (Text t) in
    let s = slots_of (kind_of h) (take c.args.size c.args.low.now) in
    omega (arith, c.tidy-at.ensures.place, tidied_front h held s c.args.i, ap (λ (r : List (List ℕ)). length r) c.tidy-at.ensures.slots.slots_are, ap (λ (k : PageKind). length (slots_of k (take c.args.size c.tidy-at.new.bytes))) c.kind.ensures)

pub returns-then-insert_front-clause-parted : goal.returns-then-insert_front-clause-parted
returns-then-insert_front-clause-parted g c =
    let h = c.args.head.now in
    let size = c.args.size in
    let held = λ (t : List ℕ). g.H.Held.held c.args.held.now (Text t) in
    let old = take size c.args.low.now in
    let s = slots_of (kind_of h) old in
    let low1 = take size c.tidy-at.new.bytes in
    let low2 = take size c.insert_front.new.frame in
    let k = length (tidied_raws h held (take c.args.i s)) in
    let put = subst (λ (q : PageKind). Packs q size (inserted (slots_of q low1) c.tidy-at.result c.args.slot.now) (next_of low1) low2) c.kind.ensures (c.insert_front.ensures.yes c.if-insert_front.true) in
    let at = subst (λ (n : ℕ). Packs (kind_of h) size (inserted (slots_of (kind_of h) low1) n c.args.slot.now) (next_of low1) low2) c.tidy-at.ensures.place put in
    whole_read h size h.used k (next_of old) (next_of low1) (tidied_raws h held s) (slots_of (kind_of h) low1) c.args.slot.now low2 (take size c.args.mid.now) (take size c.args.high.now)
    c.tidy-at.ensures.slots.slots_are c.tidy-at.ensures.slots.next_is at

pub part-requires-clause-packed : goal.part-requires-clause-packed
part-requires-clause-packed g c =
    let e = c.insert_front.ensures.not_yet c.if-insert_front.false in
    subst (λ (b : List ℕ). IsPacked (kind_of c.args.head.now) c.args.size (take c.args.size b)) (sym e) c.tidy-at.ensures.slots.packed

pub part-requires-clause-counted : goal.part-requires-clause-counted
part-requires-clause-counted g c =
    let e = c.insert_front.ensures.not_yet c.if-insert_front.false in
    let h = c.args.head.now in
    let packed = subst (λ (b : List ℕ). IsPacked (kind_of h) c.args.size (take c.args.size b)) (sym e) c.tidy-at.ensures.slots.packed in
    c.number_at-number.ensures ∙ count_is (kind_of h) c.args.size (take c.args.size c.insert_front.new.frame) packed

pub part-requires-clause-place : goal.part-requires-clause-place
part-requires-clause-place g c =
    let e = c.insert_front.ensures.not_yet c.if-insert_front.false in
    let h = c.args.head.now in
    let held = λ (t : List ℕ). g.H.Held.held c.args.held.now (Text t) in
    let s = slots_of (kind_of h) (take c.args.size c.args.low.now) in
    let packed = subst (λ (b : List ℕ). IsPacked (kind_of h) c.args.size (take c.args.size b)) (sym e) c.tidy-at.ensures.slots.packed in
    omega (
      arith,
      c.number_at-number.ensures,
      count_is (kind_of h) c.args.size (take c.args.size c.insert_front.new.frame) packed,
      c.tidy-at.ensures.place,
      tidied_front h held s c.args.i,
      ap (λ (r : List (List ℕ)). length r) c.tidy-at.ensures.slots.slots_are,
      ap (λ (b : List ℕ). length (slots_of (kind_of h) (take c.args.size b))) e,
    )

pub part-requires-clause-over : goal.part-requires-clause-over
part-requires-clause-over g c =
    let e = c.insert_front.ensures.not_yet c.if-insert_front.false in
    let h = c.args.head.now in
    let low1 = take c.args.size c.tidy-at.new.bytes in
    let full = subst (λ (k : PageKind). c.args.size < 16 + length (joined (slots_of k low1)) + length c.args.slot.now) c.kind.ensures (c.insert_front.ensures.full.0 c.if-insert_front.false) in
    omega (arith, full, ap (λ (b : List ℕ). length (joined (slots_of (kind_of h) (take c.args.size b)))) e)

pub returns-clause-parted : goal.returns-clause-parted
returns-clause-parted g c =
    let e = c.insert_front.ensures.not_yet c.if-insert_front.false in
    let h = c.args.head.now in
    let size = c.args.size in
    let held = λ (t : List ℕ). g.H.Held.held c.args.held.now (Text t) in
    let old = take size c.args.low.now in
    let s = slots_of (kind_of h) old in
    let low1 = take size c.insert_front.new.frame in
    let k = length (tidied_raws h held (take c.args.i s)) in
    let same = ap (λ (b : List ℕ). slots_of (kind_of h) (take size b)) e ∙ c.tidy-at.ensures.slots.slots_are in
    let led = ap (λ (b : List ℕ). next_of (take size b)) e ∙ c.tidy-at.ensures.slots.next_is in
    let at = subst (λ (n : ℕ). Parted h size h.used (next_of low1) (inserted (slots_of (kind_of h) low1) n c.args.slot.now) n c.part.result (take size c.part.new.low) (take size c.part.new.mid) (take size c.part.new.high)) c.tidy-at.ensures.place c.part.ensures.parted in
    parted_read h size h.used k c.part.result (next_of old) (next_of low1) (tidied_raws h held s) (slots_of (kind_of h) low1) c.args.slot.now (take size c.part.new.low) (take size c.part.new.mid) (take size c.part.new.high) same led at
