use Rattle.std.proofs.Common.{take, ℕ, List, subst, ap, ◌∙◌}
use Rattle.vms_base.specs.vms_model.Keys.{Text}
use Rattle.bucket_page.specs.Pages.{slots_of, next_of, suits}
use Rattle.indexed_file.specs.Chain.{kind_of}
use Rattle.indexed_file.specs.Raws.{raws_added, place_added, Parted}
use Rattle.indexed_file.proofs.RawLaws.{record_suits}
use Rattle.indexed_file.proofs.set.add_record.Goals as goal

pub add_slot-requires-clause-suits : goal.add_slot-requires-clause-suits
add_slot-requires-clause-suits g c = ap (suits (kind_of c.args.head.now)) c.put_slot.ensures ∙ record_suits c.args.head.now c.args.bytes.now c.requires.key

pub returns-clause-parted : goal.returns-clause-parted
returns-clause-parted g c =
    let h = c.args.head.now in
    let size = c.args.size in
    let held = λ (t : List ℕ). g.H.Held.held c.args.held.now (Text t) in
    let old = take size c.args.low.now in
    let s = slots_of (kind_of h) old in
    subst (λ (x : List ℕ). Parted h size h.used (next_of old) (raws_added h held size s c.args.i x) (place_added h held size s c.args.i x) c.add_slot.result (take size c.add_slot.new.low) (take size c.add_slot.new.mid) (take size c.add_slot.new.high))
    c.put_slot.ensures c.add_slot.ensures.parted
