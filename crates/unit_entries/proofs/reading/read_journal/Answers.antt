use Rattle.std.proofs.Common.{◌<◌, ℕ, List, [], Option, Some, None, IfSome, map, refl, subst, sym, ◌∙◌, arith}
use Rattle.journal_format.specs.Heads.{entry_of}
use Rattle.journal_store.specs.Reading.{ReadsAt}
use Rattle.ru_journal.specs.Told.{JournalScan}
use Rattle.tm_types.specs.Parts.{log_record_of}
use Rattle.unit_table.specs.Units.{Units, begun, no_units}
use Rattle.unit_entries.specs.Opening.{AreAlike, AreFiledOf, AscendWithin, BeginWithin, HasOpened}
use Rattle.unit_entries.specs.Reading.{HasRead}
use Rattle.unit_entries.proofs.FiledLemmas.{filed_opened}
use Rattle.unit_entries.proofs.OpenLemmas.{ascends_near, ascends_opened, within_opened}
use Rattle.unit_entries.proofs.ReadLemmas.{may_take, nothing_opened, nothing_read, one_is_there, opened_all, opened_more, read_more, told_all}
use Rattle.unit_entries.proofs.StoreLemmas.{stays_so, stays_read, of_any, of_content, of_both}
use Rattle.unit_entries.proofs.VoteLemmas.{none_voted, voted_all, voted_broken, voted_more}
use Rattle.unit_entries.proofs.reading.read_journal.Goals as goal

pub loop-position-init : goal.loop-position-init
loop-position-init g c = record {
  stays = stays_so c.args.store.now;
  behind = omega arith;
  alike = λ w. subst (λ (x : Units). AreAlike c.clear.new.self.units (begun x)) (sym c.clear-2.ensures) (subst (λ (t : JournalScan). AreAlike t.units (begun no_units)) (sym c.clear.ensures) tt);
  within = λ w. subst (λ (x : Units). BeginWithin c.args.span.now (begun x)) (sym c.clear-2.ensures) tt;
  ascends = λ w. subst (λ (x : Units). AscendWithin c.args.span.now.first c.args.span.now.first (begun x)) (sym c.clear-2.ensures) tt;
  read = of_any c.args.store.now.current (λ x es journal. (
    λ w. subst (HasRead x c.args.span.now es c.args.span.now.first) (sym c.clear.ensures) (nothing_read x c.args.span.now es journal),
    λ few order. refl,
  ));
  filed = of_any c.args.store.now.current (λ x w. subst (λ (y : Units). AreFiledOf c.args.span.now x (begun y)) (sym c.clear-2.ensures) tt);
  opened = of_any c.args.store.now.current (λ x es journal w.
      subst (λ (y : Units). HasOpened c.args.span.now es c.args.span.now.first c.clear.new.self (begun y)) (sym c.clear-2.ensures)
      (subst (λ (t : JournalScan). HasOpened c.args.span.now es c.args.span.now.first t (begun no_units)) (sym c.clear.ensures) (nothing_opened x c.args.span.now es journal)));
  voting = none_voted c.args.store.now.current c.args.span.now (map log_record_of c.args.rest.now.items) (map log_record_of c.args.out.now.items);
  count = refl;
  room = omega arith;
  left = omega arith;
}

pub returns-in-Ok-None-clause-whole : goal.returns-in-Ok-None-clause-whole
returns-in-Ok-None-clause-whole g c =
    let read = subst (λ (o : Option (List (List ℕ))). IfSome o (ReadsAt c.args.span.now c.loop-position.position None c.entry_at.new.image)) c.loop-position.invariant.stays.current (rw c.in-Ok-None.field-0-is at c.in-Ok-None.ensures.entry) in
    of_both c.args.store.now.current (λ x before none es journal few order.
    let r = before es journal in
    absurd (one_is_there x c.args.span.now es journal r.0 c.loop-position.position r.1 c.loop-position-test.true c.entry_at.new.image none)) c.loop-position.invariant.voting.told read

pub returns-in-Ok-None-clause-voted : goal.returns-in-Ok-None-clause-voted
returns-in-Ok-None-clause-voted g c =
    let read = subst (λ (o : Option (List (List ℕ))). IfSome o (ReadsAt c.args.span.now c.loop-position.position None c.entry_at.new.image)) c.loop-position.invariant.stays.current (rw c.in-Ok-None.field-0-is at c.in-Ok-None.ensures.entry) in
    voted_broken c.args.store.now.current c.args.span.now (map log_record_of c.args.rest.now.items) (map log_record_of c.loop-position.rest.items) (map log_record_of c.args.out.now.items) (map log_record_of c.loop-position.out.items)
    c.loop-position.position c.loop-position.invariant.voting c.loop-position-test.true c.entry_at.new.image read

pub loop-position-preserved : goal.loop-position-preserved
loop-position-preserved g c =
    let position = c.loop-position.position in
    let image = c.entry_at.new.image in
    let h = c.in-Ok-Some.e in
    let next = c.in-Ok-Some.next in
    let before = c.loop-position.invariant in
    let took = c.take_entry-whole.ensures in
    let vote = c.take_vote.ensures in
    let on : position < next = (rw c.in-Ok-Some.field-0-is at c.in-Ok-Some.ensures.on) in
    let read = subst (λ (o : Option (List (List ℕ))). IfSome o (ReadsAt c.args.span.now position (Some (h, next)) image)) before.stays.current (rw c.in-Ok-Some.field-0-is at c.in-Ok-Some.ensures.entry) in
    record {
      stays = stays_read c.args.store.now c.loop-position.store c.entry_at.new.store before.stays c.in-Ok-Some.field-0 c.in-Ok-Some.ensures.ok;
      behind = let behind = before.behind in omega (arith, on, behind);
      alike = took.alike;
      within = λ w. subst (BeginWithin c.args.span.now) (sym (took.units w)) (within_opened c.args.span.now position (entry_of h []) (begun c.loop-position.units) before.behind c.loop-position-test.true (before.within (took.before w)));
      ascends = λ w. subst (AscendWithin c.args.span.now.first next) (sym (took.units w)) (ascends_opened c.args.span.now.first position next (entry_of h []) (begun c.loop-position.units) before.behind on (before.ascends (took.before w)));
      read = of_both c.args.store.now.current (λ x before stands es journal. let b = before es journal in (
        λ w. read_more x c.args.span.now es journal position c.loop-position.state c.take_entry-whole.new.state h next image c.loop-position-test.true (b.0 (took.before w)) stands (took.taken w),
        λ few order.
            let whole = b.1 few order in
            let may = may_take x c.args.span.now es journal position c.loop-position.state h next image c.loop-position-test.true (b.0 whole) stands few order in
            took.may whole may.0 may.1 may.2,
      )) before.read read;
      filed = of_both c.args.store.now.current (λ x before stands w. subst (AreFiledOf c.args.span.now x) (sym (took.units w)) (filed_opened c.args.span.now x position h next image stands (begun c.loop-position.units) (before (took.before w)))) before.filed read;
      opened = of_both c.args.store.now.current (λ x before stands es journal w.
          opened_more x c.args.span.now es journal position c.loop-position.state c.take_entry-whole.new.state (begun c.loop-position.units) (begun c.take_entry-whole.new.units) h next image c.loop-position-test.true
          (before es journal (took.before w)) stands (took.order w) (took.taken w) (took.units w)) before.opened read;
      voting = voted_more c.args.store.now.current c.args.span.now (map log_record_of c.args.rest.now.items) (map log_record_of c.loop-position.rest.items) (map log_record_of c.take_vote.new.rest.items) (map log_record_of c.args.out.now.items)
          (map log_record_of c.loop-position.out.items) (map log_record_of c.take_vote.new.out.items) position h vote.moved before.voting c.loop-position-test.true next image read;
      count = vote.count ∙ before.count;
      room = let room = before.room in let wide = vote.room in omega (arith, room, wide);
      left = let left = before.left in let more = vote.left in omega (arith, left, more);
    }

pub returns-clause-told : goal.returns-clause-told
returns-clause-told g c = λ w. of_content c.args.store.now.current (λ x before es journal. told_all x c.args.span.now es journal c.loop-position.position c.loop-position.state ((before es journal).0 w) c.loop-position-test.false) c.loop-position.invariant.read

pub returns-clause-whole : goal.returns-clause-whole
returns-clause-whole g c = of_content c.args.store.now.current (λ x before es journal. (before es journal).1) c.loop-position.invariant.read

pub returns-clause-found : goal.returns-clause-found
returns-clause-found g c = λ w. of_content c.args.store.now.current (λ x before es journal. opened_all x c.args.span.now es journal c.loop-position.position c.loop-position.state (begun c.loop-position.units) (before es journal w) c.loop-position-test.false) c.loop-position.invariant.opened

pub returns-clause-files : goal.returns-clause-files
returns-clause-files g c = λ w. of_content c.args.store.now.current (λ x before. before w) c.loop-position.invariant.filed

pub returns-clause-ascends : goal.returns-clause-ascends
returns-clause-ascends g c = λ w. ascends_near c.args.span.now c.loop-position.position (begun c.loop-position.units) c.requires.ring.order (c.loop-position.invariant.within w) (c.loop-position.invariant.ascends w)

pub returns-clause-voted : goal.returns-clause-voted
returns-clause-voted g c = voted_all c.args.store.now.current c.args.span.now (map log_record_of c.args.rest.now.items) (map log_record_of c.loop-position.rest.items) (map log_record_of c.args.out.now.items) (map log_record_of c.loop-position.out.items)
    c.loop-position.position c.loop-position.invariant.voting c.loop-position-test.false
