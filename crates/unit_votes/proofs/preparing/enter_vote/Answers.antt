-- A branch is prepared in one group.
use Rattle.std.proofs.Common.{◌<◌, ◌+◌, ◌∙◌, Some, option_map, if◌then◌else◌, sym, ap, subst, inl}
use Rattle.std.proofs.lemmas.Result.{on_err_weaker, on_ok_weaker}
use Rattle.careful_write.proofs.Reading.{same_so}
use Rattle.careful_write.specs.State.{IsEither, Leaves, StoreState, content}
use Rattle.unit_journal.specs.Settling.{content_with, span_with}
use Rattle.unit_journal.proofs.Breaking.{breaks_made, fell_old, staged_disk}
use Rattle.vms_base.specs.Ids.{serial_of, tid_of}
use Rattle.volume.specs.declared.catalog.Catalog.{Catalog}
use Rattle.commit_protocol.specs.Messages.{LogRecord}
use Rattle.unit_votes.specs.Logging.{SetsRecord}
use Rattle.unit_votes.specs.Voting.{MakesVote, vote_entry, vote_record}
use Rattle.unit_votes.proofs.Keeping.{log_voted}
use Rattle.unit_votes.proofs.Settled.{grows_voted, same_content}
use Rattle.unit_votes.proofs.preparing.enter_vote.Goals as goal

pub returns-in-Err-clause-breaks : goal.returns-in-Err-clause-breaks
returns-in-Err-clause-breaks g c =
    let v = c.args.volume.now in
    let logged = c.set_record.new.volume in
    inl (fell_old c.in-Err.down v logged c.enter_prepared.new.volume c.one_content.ensures c.requires.idle.ready (staged_disk v logged (same_so _ c.set_record.new.volume.store c.set_record.ensures.rest)) c.in-Err.ensures.down)

pub returns-clause-makes : goal.returns-clause-makes
returns-clause-makes g c =
    let v = c.args.volume.now in
    let logged = c.set_record.new.volume in
    let voted = c.enter_prepared.new.volume in
    let b = c.args.branch.now in
    let e = vote_entry c.args.has_changed (tid_of b.tid) (serial_of b.serial) in
    let same = c.set_record.ensures.catalog in
    on_ok_weaker c.apply.result
    (λ current. record {
      logged = logged;
      log = subst (λ (x : LogRecord). SetsRecord (serial_of b.serial) (Some x) c.args.log.now c.set_record.new.log v logged) c.vote_record-vote.ensures c.set_record.ensures.sets;
      current = current ∙ ap (λ (s : StoreState). s.current) c.store.ensures.value ∙ c.in-Ok.ensures.current ∙ ap (λ (k : Catalog). option_map (content_with e k.ru) logged.store.current) same;
      catalog = c.in-Ok.ensures.catalog ∙ ap (λ (k : Catalog). record k { ru = span_with e k.ru }) same;
    })
    c.apply.ensures.current

pub returns-clause-breaks : goal.returns-clause-breaks
returns-clause-breaks g c =
    let v = c.args.volume.now in
    let logged = c.set_record.new.volume in
    let voted = c.enter_prepared.new.volume in
    let b = c.args.branch.now in
    let e = vote_entry c.args.has_changed (tid_of b.tid) (serial_of b.serial) in
    let r = vote_record (tid_of b.tid) (serial_of b.serial) c.args.rms.now in
    let same = c.set_record.ensures.catalog in
    on_err_weaker c.apply.result
    (λ leaves. breaks_made (MakesVote r e c.args.log.now c.set_record.new.log v) v voted (record voted { store = c.apply.new.self })
    (record {
      logged = logged;
      log = subst (λ (x : LogRecord). SetsRecord (serial_of b.serial) (Some x) c.args.log.now c.set_record.new.log v logged) c.vote_record-vote.ensures c.set_record.ensures.sets;
      current = c.in-Ok.ensures.current ∙ ap (λ (k : Catalog). option_map (content_with e k.ru) logged.store.current) same;
      catalog = c.in-Ok.ensures.catalog ∙ ap (λ (k : Catalog). record k { ru = span_with e k.ru }) same;
    })
    (same_content logged voted c.in-Ok.ensures.rest ∙ same_content v logged (same_so _ c.set_record.new.volume.store c.set_record.ensures.rest))
    (subst (λ (s : StoreState). Leaves (IsEither (content s) s.current) c.apply.new.self.disk) c.store.ensures.value leaves))
    c.apply.ensures.err

pub returns-clause-log : goal.returns-clause-log
returns-clause-log g c =
    let v = c.args.volume.now in
    let logged = c.set_record.new.volume in
    let voted = c.enter_prepared.new.volume in
    let b = c.args.branch.now in
    let e = vote_entry c.args.has_changed (tid_of b.tid) (serial_of b.serial) in
    let some : 0 < logged.catalog.ru.blocks = subst (λ (k : Catalog). 0 < k.ru.blocks) (sym c.set_record.ensures.catalog) c.requires.ring.some in
    on_ok_weaker c.apply.result
    (λ current h. log_voted c.log_is_as_it_was_left.ensures.beside c.one_entry_more.ensures.others e c.set_record.new.log logged (record voted { store = c.apply.new.self }) some
    (current ∙ ap (λ (s : StoreState). s.current) c.store.ensures.value ∙ c.in-Ok.ensures.current) c.in-Ok.ensures.catalog (c.set_record.ensures.log h))
    c.apply.ensures.current

pub returns-clause-grows : goal.returns-clause-grows
returns-clause-grows g c =
    let v = c.args.volume.now in
    let b = c.args.branch.now in
    let e = vote_entry c.args.has_changed (tid_of b.tid) (serial_of b.serial) in
    grows_voted c.args.has_changed e v (record c.enter_prepared.new.volume { store = c.apply.new.self })
    (c.in-Ok.ensures.catalog ∙ ap (λ (k : Catalog). record k { ru = span_with e k.ru }) c.set_record.ensures.catalog)
    (c.in-Ok.ensures.end ∙ ap (λ (k : Catalog). k.ru.end + (if c.args.has_changed then 48 else 0)) c.set_record.ensures.catalog)
