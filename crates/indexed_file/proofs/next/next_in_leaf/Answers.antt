use Rattle.std.proofs.Common.{◌<◌, length, IfSome, Option, List, ℕ, subst, sym, ap, ◌∙◌, map, arith}
use Rattle.std.specs.Option.{option_copied}
use Rattle.bucket_page.specs.declared.kind.PageKind.{PageKind}
use Rattle.bucket_page.specs.Pages.{slots_of, key_in, IsBucket}
use Rattle.indexed_file.specs.Chain.{kind_of, slot_of, value_of, HasSlot}
use Rattle.indexed_file.specs.Behind.{first_behind, IsFound}
use Rattle.indexed_file.proofs.NextLaws.{first_behind_skip, found_in_leaf}
use Rattle.indexed_file.proofs.next.next_in_leaf.Goals as goal

pub loop-i-init : goal.loop-i-init
loop-i-init c = record {
  passed = first_behind_skip c.args.head.now (option_copied c.args.after) (slots_of (kind_of c.args.head.now) c.args.bytes.now) c.start_behind-i.result c.start_behind-i.ensures.within c.start_behind-i.ensures.passed;
}

pub returns-then-read_record-clause-some : goal.returns-then-read_record-clause-some
returns-then-read_record-clause-some c =
    let h = c.args.head.now in
    let after = option_copied c.args.after in
    let raws = slots_of (kind_of h) c.args.bytes.now in
    let below : c.loop-i.i < length raws = omega (arith, c.loop-i-test.true, c.in-Some.ensures.number, ap (λ (kind : PageKind). length (slots_of kind c.args.bytes.now)) c.kind.ensures) in
    subst (λ (o : Option (List ℕ)). IfSome o (λ k. IsBucket (kind_of h) (length c.args.bytes.now) c.args.bytes.now → IsFound (first_behind after (map (slot_of h) raws)) k c.read_record.new.out)) (sym c.slot_key.ensures)
    (λ bucket. found_in_leaf h after raws c.loop-i.i c.slot-slot.result.now c.read_record.new.out below c.slot-slot.ensures.is (c.start_behind-i.ensures.behind c.loop-i.i (omega arith) below) (c.read_record.ensures.some c.if-read_record.true) c.loop-i.invariant.passed)

pub returns-then-read_record-clause-stands : goal.returns-then-read_record-clause-stands
returns-then-read_record-clause-stands c =
    let h = c.args.head.now in
    let raws = slots_of (kind_of h) c.args.bytes.now in
    let below : c.loop-i.i < length raws = omega (arith, c.loop-i-test.true, c.in-Some.ensures.number, ap (λ (kind : PageKind). length (slots_of kind c.args.bytes.now)) c.kind.ensures) in
    let bucket = subst (λ (k : PageKind). IsBucket k (length c.args.bytes.now) c.args.bytes.now) c.kind.ensures c.in-Some.ensures.some in
    let slot = c.slot-slot.ensures.is in
    subst (λ (o : Option (List ℕ)). IfSome o (λ k. IsBucket (kind_of h) (length c.args.bytes.now) c.args.bytes.now × HasSlot h c.args.bytes.now k c.read_record.new.out)) (sym c.slot_key.ensures)
    (bucket, record { place = c.loop-i.i; there = below; key = ap (key_in (kind_of h)) (sym slot); is = ap (value_of h.mrs) (sym slot) ∙ c.read_record.ensures.some c.if-read_record.true })
