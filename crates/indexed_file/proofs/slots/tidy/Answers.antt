use Rattle.std.proofs.Common.{◌≡◌, ◌-◌, ◌+◌, ℕ, List, ◌&&◌, nat_lt, length, take, ap, subst, ◌∙◌, arith}
use Rattle.vms_base.specs.vms_model.Keys.{Text}
use Rattle.bucket_page.specs.Pages.{slots_of, next_of, Packs}
use Rattle.indexed_file.specs.Chain.{kind_of}
use Rattle.indexed_file.specs.Raws.{tidied_raws}
use Rattle.indexed_file.proofs.TidyLaws.{half_tidied, moved_to, tidy_starts, moved_starts, half_long, tidy_goes_on, moved_few, few_one}
use Rattle.indexed_file.proofs.slots.tidy.Goals as goal

pub loop-i-init : goal.loop-i-init
loop-i-init g c = record {
  packs = tidy_starts c.args.head.now (λ t. g.H.Held.held c.args.held.now (Text t)) c.args.size c.args.count c.args.bytes.now c.requires.packed c.requires.counted;
  within = omega (arith, c.requires.counted);
  moved = moved_starts c.args.head.now (λ t. g.H.Held.held c.args.held.now (Text t)) (slots_of (kind_of c.args.head.now) (take c.args.size c.args.bytes.now)) c.args.place c.args.count c.requires.there;
}

pub tidy_slot-stays-requires : goal.tidy_slot-stays-requires
tidy_slot-stays-requires g c =
    let h = c.args.head.now in
    let held = λ (t : List ℕ). g.H.Held.held c.args.held.now (Text t) in
    let s = slots_of (kind_of h) (take c.args.size c.args.bytes.now) in
    record {
      form = c.requires.form;
      within = omega (arith, c.requires.within, c.loop-i.auto.bytes);
      small = c.requires.small;
      packed = c.loop-i.invariant.packs.packed;
      there = omega (arith, c.loop-i-test.true, c.loop-i.invariant.within, half_long h held s c.loop-i.i c.loop-i.invariant.within, ap (λ (t : List (List ℕ)). length t) c.loop-i.invariant.packs.slots_are);
    }

pub overflow_add-moved : goal.overflow_add-moved
overflow_add-moved g c =
    let h = c.args.head.now in
    let held = λ (t : List ℕ). g.H.Held.held c.args.held.now (Text t) in
    let s = slots_of (kind_of h) (take c.args.size c.args.bytes.now) in
    omega (arith, moved_few h held s c.args.place c.loop-i.i c.requires.packed.suit c.loop-i.invariant.within, c.loop-i.invariant.moved, c.loop-i-test.true, c.requires.counted, c.ranges.count.fits, c.counted-moved.ensures, few_one (c.tidy_slot-stays.result && nat_lt (c.loop-i.i - 1) c.args.place))

pub loop-i-preserved : goal.loop-i-preserved
loop-i-preserved g c =
    let h = c.args.head.now in
    let held = λ (t : List ℕ). g.H.Held.held c.args.held.now (Text t) in
    let bytes = c.args.bytes.now in
    let s = slots_of (kind_of h) (take c.args.size bytes) in
    let down : c.loop-i.i ≡ c.loop-i.i - 1 + 1 = omega (arith, c.loop-i-test.true) in
    let step = tidy_goes_on h held c.args.size c.args.place (c.loop-i.i - 1) c.loop-i.i c.loop-i.moved c.counted-moved.result c.tidy_slot-stays.result s (next_of (take c.args.size bytes)) c.loop-i.bytes c.tidy_slot-stays.new.bytes
    down c.loop-i.invariant.within c.loop-i.invariant.packs c.loop-i.invariant.moved c.tidy_slot-stays.ensures c.counted-moved.ensures in
    record { packs = step.packs; within = omega (arith, c.loop-i.invariant.within); moved = step.moved_is }

pub returns : goal.returns
returns g c =
    let h = c.args.head.now in
    let held = λ (t : List ℕ). g.H.Held.held c.args.held.now (Text t) in
    let bytes = c.args.bytes.now in
    let s = slots_of (kind_of h) (take c.args.size bytes) in
    let end : c.loop-i.i ≡ 0 = omega (arith, c.loop-i-test.false) in
    let back : c.args.place - 0 ≡ c.args.place = omega arith in
    record {
      slots = subst (λ (n : ℕ). Packs (kind_of h) c.args.size (half_tidied h held s n) (next_of (take c.args.size bytes)) (take c.args.size c.loop-i.bytes)) end c.loop-i.invariant.packs;
      place = c.loop-i.invariant.moved ∙ ap (moved_to h held s c.args.place) end ∙ ap (λ n. length (tidied_raws h held (take n s))) back;
    }
