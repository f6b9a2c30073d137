use Rattle.std.proofs.Common.{ℕ, List, [], ◌∷◌, Option, Some, None, IfSome, length, length-append, subst, ap, ◌∙◌, arith}
use Rattle.journal_store.specs.Reading.{ReadsAt}
use Rattle.unit_entries.proofs.StoreLemmas.{stays_so, stays_read, of_any, of_content, of_both}
use Rattle.image_entries.proofs.ReadLemmas.{nothing_read, put_so, read_more, none_missing, all_told}
use Rattle.image_entries.proofs.reading.read_entries.Goals as goal

pub loop-position-init : goal.loop-position-init
loop-position-init g c = record {
  count = (let none = ap length c.new-heads.ensures.items in omega (arith, none));
  few = (let none = ap length c.new-heads.ensures.items in omega (arith, none));
  stays = stays_so c.args.store.now;
  read = of_any c.args.store.now.current (λ x es front journal start. put_so c.args.span.now es front c.args.from c.args.from start.back [] [] _ _ c.new-heads.ensures.items c.new-positions.ensures.items (nothing_read x c.args.span.now es journal front c.args.from start));
}

pub returns-in-Ok-None-clause-whole : goal.returns-in-Ok-None-clause-whole
returns-in-Ok-None-clause-whole g c =
    let position = c.loop-position.position in
    let image = c.entry_at.new.image in
    let read = subst (λ (o : Option (List (List ℕ))). IfSome o (ReadsAt c.args.span.now position None image)) c.loop-position.invariant.stays.current (rw c.in-Ok-None.field-0-is at c.in-Ok-None.ensures.entry) in
    of_both c.args.store.now.current (λ x before none es front journal start.
    absurd (none_missing x c.args.span.now es journal front c.args.from start position c.loop-position.heads.items c.loop-position.positions.items c.loop-position-test.true (before es front journal start) image none)) c.loop-position.invariant.read read

pub loop-position-preserved : goal.loop-position-preserved
loop-position-preserved g c =
    let position = c.loop-position.position in
    let image = c.entry_at.new.image in
    let h = c.in-Ok-Some.head in
    let next = c.in-Ok-Some.next in
    let read = subst (λ (o : Option (List (List ℕ))). IfSome o (ReadsAt c.args.span.now position (Some (h, next)) image)) c.loop-position.invariant.stays.current (rw c.in-Ok-Some.field-0-is at c.in-Ok-Some.ensures.entry) in
    let more = ap length c.in-Some.ensures.heads ∙ length-append c.loop-position.heads.items (h ∷ []) in
    let on = rw c.in-Ok-Some.field-0-is at c.in-Ok-Some.ensures.on in
    let before = c.loop-position-test.true in
    let count = c.loop-position.invariant.count in
    record {
      count = omega (arith, more, on, count);
      few = omega (arith, more, before, count);
      stays = stays_read c.args.store.now c.loop-position.store c.entry_at.new.store c.loop-position.invariant.stays c.in-Ok-Some.field-0 c.in-Ok-Some.ensures.ok;
      read = of_both c.args.store.now.current (λ x before stands es front journal start.
          put_so c.args.span.now es front c.args.from next start.back _ _ c.put_entry.new.heads.items c.put_entry.new.positions.items c.in-Some.ensures.heads c.in-Some.ensures.positions
          (read_more x c.args.span.now es journal front c.args.from start position c.loop-position.heads.items c.loop-position.positions.items h next image c.loop-position-test.true (before es front journal start) stands)) c.loop-position.invariant.read read;
    }

pub returns-clause-told : goal.returns-clause-told
returns-clause-told g c = of_content c.args.store.now.current (λ x before es front journal start.
    all_told x c.args.span.now es journal front c.args.from start c.loop-position.position c.loop-position.heads.items c.loop-position.positions.items (before es front journal start) c.loop-position-test.false) c.loop-position.invariant.read
