use Rattle.std.proofs.Common.{◌≡◌, ℕ, ◌+◌, ◌-◌, ◌<◌, ◌≤◌, true, false, List, length, drop, ap, sym, ◌∙◌, arith, rules}
use Rattle.bucket_page.specs.Pages.{front_size, front_slot, slots_of, reach, suits, may_precede, slot_at}
use Rattle.bucket_page.specs.declared.kind.PageKind.{PageKind}
use Rattle.bucket_page.specs.Pages.{IsPacked}
use Rattle.bucket_page.proofs.PageLaws.{slot_stands, count_is}
use Rattle.bucket_page.proofs.Orders.{slot_here, not_ascend, ascend_more, ascend_each}
use Rattle.bucket_page.proofs.layout.is_ascending.Goals as goal
use Rattle.bucket_page.proofs.layout.is_ascending.Goals.{else-k-gt0-via-then-k-gt0+else-not-precedes, else-k-gt0-via-else-k-gt0}

record SlotAt (kind : PageKind) (bytes : List ℕ) (k at : ℕ) : Type 0 where
  within : at + front_size kind (drop at bytes) ≤ length bytes
  long : 2 ≤ front_size kind (drop at bytes)
  suit : suits kind (front_slot kind (drop at bytes)) ≡ true
  is : front_slot kind (drop at bytes) ≡ slot_at (slots_of kind bytes) k
  after : at + front_size kind (drop at bytes) ≡ reach (slots_of kind bytes) (k + 1)

slot_of : (kind : PageKind) (bytes : List ℕ) (k at : ℕ) → IsPacked kind (length bytes) bytes → k < length (slots_of kind bytes) → at ≡ reach (slots_of kind bytes) k → SlotAt kind bytes k at
slot_of kind bytes k at packed below there =
    let stands = slot_stands kind (length bytes) k bytes packed below in
    let here = slot_here kind (length bytes) k bytes packed below in
    let size = ap (λ n. front_size kind (drop n bytes)) there in
    let slot = ap (λ n. front_slot kind (drop n bytes)) there in
    record {
      within = omega (arith, size, stands.size, stands.after, stands.within, packed.fits);
      long = omega (arith, size, stands.size, stands.long);
      suit = ap (suits kind) slot ∙ here.suit;
      is = slot ∙ here.is;
      after = omega (arith, size, stands.size, stands.after);
    }

pub precedes-requires-clause-first : goal.precedes-requires-clause-first
precedes-requires-clause-first c =
    let counted = count_is c.args.kind (length c.args.bytes.now) c.args.bytes.now c.requires in
    (slot_of c.args.kind c.args.bytes.now (c.loop-k.k - 1) c.loop-k.last c.requires (omega (arith, counted, c.read_u16-count.ensures)) (c.loop-k.invariant.last c.if-k-gt0.true)).within

pub precedes-requires-clause-second : goal.precedes-requires-clause-second
precedes-requires-clause-second c =
    let counted = count_is c.args.kind (length c.args.bytes.now) c.args.bytes.now c.requires in
    (slot_of c.args.kind c.args.bytes.now c.loop-k.k c.loop-k.at c.requires (omega (arith, counted, c.read_u16-count.ensures)) c.loop-k.invariant.at).within

pub precedes-requires-clause-one : goal.precedes-requires-clause-one
precedes-requires-clause-one c =
    let counted = count_is c.args.kind (length c.args.bytes.now) c.args.bytes.now c.requires in
    (slot_of c.args.kind c.args.bytes.now (c.loop-k.k - 1) c.loop-k.last c.requires (omega (arith, counted, c.read_u16-count.ensures)) (c.loop-k.invariant.last c.if-k-gt0.true)).suit

pub precedes-requires-clause-other : goal.precedes-requires-clause-other
precedes-requires-clause-other c =
    let counted = count_is c.args.kind (length c.args.bytes.now) c.args.bytes.now c.requires in
    (slot_of c.args.kind c.args.bytes.now c.loop-k.k c.loop-k.at c.requires (omega (arith, counted, c.read_u16-count.ensures)) c.loop-k.invariant.at).suit

pub returns-then-not-precedes : goal.returns-then-not-precedes
returns-then-not-precedes c =
    let kind = c.args.kind in
    let bytes = c.args.bytes.now in
    let counted = count_is kind (length bytes) bytes c.requires in
    let a = slot_of kind bytes (c.loop-k.k - 1) c.loop-k.last c.requires (omega (arith, counted, c.read_u16-count.ensures)) (c.loop-k.invariant.last c.if-k-gt0.true) in
    let b = slot_of kind bytes c.loop-k.k c.loop-k.at c.requires (omega (arith, counted, c.read_u16-count.ensures)) c.loop-k.invariant.at in
    let wrong : may_precede kind (slot_at (slots_of kind bytes) (c.loop-k.k - 1)) (slot_at (slots_of kind bytes) c.loop-k.k) ≡ false =
    (λ i. may_precede kind (sym a.is i) (sym b.is i)) ∙ sym c.precedes.ensures ∙ search rules in
    sym (not_ascend kind (slots_of kind bytes) (c.loop-k.k - 1) c.loop-k.k (omega (arith, c.if-k-gt0.true)) (omega (arith, counted, c.read_u16-count.ensures)) wrong)

pub front_len-at-requires : goal.front_len-at-requires
front_len-at-requires c =
    let counted = count_is c.args.kind (length c.args.bytes.now) c.args.bytes.now c.requires in
    let b = slot_of c.args.kind c.args.bytes.now c.loop-k.k c.loop-k.at c.requires (omega (arith, counted, c.read_u16-count.ensures)) c.loop-k.invariant.at in
    omega (arith, b.within, b.long)

pub overflow_add-at : goal.overflow_add-at
overflow_add-at c =
    let counted = count_is c.args.kind (length c.args.bytes.now) c.args.bytes.now c.requires in
    let b = slot_of c.args.kind c.args.bytes.now c.loop-k.k c.loop-k.at c.requires (omega (arith, counted, c.read_u16-count.ensures)) c.loop-k.invariant.at in
    omega (arith, b.within, c.front_len-at.ensures)

pub loop-k-preserved : goal.loop-k-preserved
loop-k-preserved c =
    let kind = c.args.kind in
    let bytes = c.args.bytes.now in
    let slots = slots_of kind bytes in
    let k = c.loop-k.k in
    let counted = count_is kind (length bytes) bytes c.requires in
    let below : k < length slots = omega (arith, counted, c.read_u16-count.ensures) in
    let b = slot_of kind bytes k c.loop-k.at c.requires below c.loop-k.invariant.at in
    let may : 0 < k → may_precede kind (slot_at slots (k - 1)) (slot_at slots k) ≡ true =
    λ more. elim c.else-k-gt0.branch [
      | else-k-gt0-via-then-k-gt0+else-not-precedes w ↦
          let a = slot_of kind bytes (k - 1) c.loop-k.last c.requires (omega (arith, below)) (c.loop-k.invariant.last more) in
          (λ i. may_precede kind (sym a.is i) (sym b.is i)) ∙ sym w.precedes.ensures ∙ search rules
      | else-k-gt0-via-else-k-gt0 w ↦ absurd (omega (arith, w.if-k-gt0.false))
    ] in
    record {
      at = omega (arith, b.after, c.front_len-at.ensures);
      last = λ _. let back : k + 1 - 1 ≡ k = omega arith in c.loop-k.invariant.at ∙ ap (reach slots) (sym back);
      order = ascend_more kind slots k below c.loop-k.invariant.order may;
    }

pub returns-then-has_no_order : goal.returns-then-has_no_order
returns-then-has_no_order c = sym (ascend_each c.args.kind (c.has_no_order.ensures c.if-has_no_order.true) (slots_of c.args.kind c.args.bytes.now))
