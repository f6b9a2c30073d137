use Rattle.std.proofs.Common.{List, IfSome, map, subst}
use Rattle.careful_write.specs.State.{StoreState}
use Rattle.file_base.specs.declared.head.Span.{Span}
use Rattle.journal_format.specs.journal_model.Entries.{Entry}
use Rattle.journal_format.specs.journal_model.Ring.{IsJournal}
use Rattle.unit_entries.specs.tm_types.Parts.{log_record_of}
use Rattle.unit_entries.specs.Opening.{AreChangesIn, AreFiledOf}
use Rattle.unit_entries.specs.Reading.{placed}
use Rattle.unit_entries.specs.Voting.{IsVoted}
use Rattle.unit_table.specs.Units.{begun}
use Rattle.unit_aborts.proofs.TakeLemmas.{each_filed, each_found}
use Rattle.unit_aborts.proofs.reopening.read_units.Goals as goal

pub returns-in-Ok-clause-found : goal.returns-in-Ok-clause-found
returns-in-Ok-clause-found g c = λ whole.
    let v = c.args.volume.now in
    let us = begun c.read_journal.new.units in
    each_found v us
    (subst (λ (s : StoreState). IfSome s.current (λ x. (es : List Entry) → IsJournal x v.catalog.ru es → AreChangesIn (placed v.catalog.ru.first es) us)) c.store.ensures.value
    (subst (λ (r : Span). IfSome c.store.result.now.current (λ x. (es : List Entry) → IsJournal x r es → AreChangesIn (placed r.first es) us)) c.ru.ensures (c.in-Ok.ensures.found whole)))

pub returns-in-Ok-clause-files : goal.returns-in-Ok-clause-files
returns-in-Ok-clause-files g c = λ whole.
    let v = c.args.volume.now in
    let us = begun c.read_journal.new.units in
    each_filed v us
    (subst (λ (s : StoreState). IfSome s.current (λ x. AreFiledOf v.catalog.ru x us)) c.store.ensures.value
    (subst (λ (r : Span). IfSome c.store.result.now.current (λ x. AreFiledOf r x us)) c.ru.ensures (c.in-Ok.ensures.files whole)))

pub returns-in-Ok-clause-voted : goal.returns-in-Ok-clause-voted
returns-in-Ok-clause-voted g c =
    let rest = map log_record_of c.args.rest.now.items in
    let left = map log_record_of c.read_journal.new.rest.items in
    let out = map log_record_of c.args.voted.now.items in
    let new = map log_record_of c.read_journal.new.out.items in
    subst (λ (s : StoreState). IsVoted s.current c.args.volume.now.catalog.ru rest left out new) c.store.ensures.value (subst (λ (r : Span). IsVoted c.store.result.now.current r rest left out new) c.ru.ensures c.in-Ok.ensures.voted)
