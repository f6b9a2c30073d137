-- The disk went down while the settlement was made.
use Rattle.std.proofs.Common.{◌≡◌, ℕ, ◌+◌, ◌*◌, ◌≤◌, ◌^◌, ◌∙◌, Bool, true, false, if◌then◌else◌, List, [], Option, Result, Ok, Err, OnOk, OnErr, sym, ap, arith, subst}
use Rattle.std.proofs.lemmas.Result.{on_err_weaker, on_ok_weaker}
use Rattle.careful_write.specs.State.{IsEither, Leaves, StoreState, content}
use Rattle.vms_base.specs.Ids.{serial_of, tid_of}
use Rattle.vms_base.specs.Outcomes.{outcome_of}
use Rattle.unit_journal.specs.Entries.{settled_entry}
use Rattle.unit_journal.specs.Settling.{MakesSettlement, entry_if, settled_home, span_with, starting}
use Rattle.unit_journal.proofs.Breaking.{breaks_made}
use Rattle.volume.specs.declared.catalog.Catalog.{Catalog}
use Rattle.volume.specs.State.{VolumeState}
use Rattle.unit_journal.proofs.Growing.{grows_from, once_from, once_nowhere}
use Rattle.unit_journal.proofs.Settled.{makes_from, starts_from, unmoved_from}
use Rattle.unit_journal.proofs.settling.settle_staged.Goals as goal

entry_few : (has : Bool) → (if has then 48 else 0) ≤ 48
entry_few true = omega arith
entry_few false = omega arith

pub returns-clause-makes : goal.returns-clause-makes
returns-clause-makes g c =
    let v = c.args.volume.now in
    let mid = c.enter_settled.new.volume in
    let made = c.stage_from.new.volume in
    let b = c.args.branch.now in
    let e = entry_if c.args.has_changed (settled_entry (tid_of b.tid) (serial_of b.serial) (outcome_of c.args.outcome) c.args.moment.0) in
    on_ok_weaker c.apply.result
    (λ current left is.
    let m = makes_from b.tid b.serial c.args.ending c.args.moment.0 e left v mid made c.args.first is c.in-Ok.ensures.current c.in-Ok.ensures.catalog c.stage_from.ensures.store c.stage_from.ensures.catalog in
    record { current = current ∙ ap (λ (s : StoreState). s.current) c.store.ensures.value ∙ m.current; catalog = m.catalog })
    c.apply.ensures.current

pub returns-clause-breaks : goal.returns-clause-breaks
returns-clause-breaks g c =
    let v = c.args.volume.now in
    let mid = c.enter_settled.new.volume in
    let made = c.stage_from.new.volume in
    let b = c.args.branch.now in
    let e = entry_if c.args.has_changed (settled_entry (tid_of b.tid) (serial_of b.serial) (outcome_of c.args.outcome) c.args.moment.0) in
    on_err_weaker c.apply.result
    (λ leaves left is. breaks_made (MakesSettlement b.tid b.serial c.args.ending c.args.moment.0 e left v) v made (record made { store = c.apply.new.self })
    (makes_from b.tid b.serial c.args.ending c.args.moment.0 e left v mid made c.args.first is c.in-Ok.ensures.current c.in-Ok.ensures.catalog c.stage_from.ensures.store c.stage_from.ensures.catalog)
    (unmoved_from b.tid b.serial c.args.ending c.args.moment.0 e left v mid made c.args.first c.in-Ok.ensures.rest c.stage_from.ensures.store)
    (subst (λ (s : StoreState). Leaves (IsEither (content s) s.current) c.apply.new.self.disk) c.store.ensures.value leaves))
    c.apply.ensures.err

pub returns-clause-grows : goal.returns-clause-grows
returns-clause-grows g c =
    let v = c.args.volume.now in
    let mid = c.enter_settled.new.volume in
    let made = c.stage_from.new.volume in
    let b = c.args.branch.now in
    let e = entry_if c.args.has_changed (settled_entry (tid_of b.tid) (serial_of b.serial) (outcome_of c.args.outcome) c.args.moment.0) in
    let end : mid.catalog.ru.end ≡ (span_with e v.catalog.ru).end = ap (λ (x : Catalog). x.ru.end) c.in-Ok.ensures.catalog in
    let short : (span_with e v.catalog.ru).end ≤ v.catalog.ru.end + 2 ^ 22 = omega (arith, end, c.in-Ok.ensures.end, entry_few c.args.has_changed) in
    grows_from b.tid b.serial c.args.ending c.args.moment.0 e c.args.first v (record made { store = c.apply.new.self }) short
    (starts_from b.tid b.serial c.args.ending c.args.moment.0 e [] v mid made c.args.first c.in-Ok.ensures.catalog c.stage_from.ensures.catalog)

pub returns-in-Err-clause-once : goal.returns-in-Err-clause-once
returns-in-Err-clause-once g c = once_nowhere c.args.moment.0 c.args.volume.now c.enter_settled.new.volume (ap (λ (x : VolumeState). x.catalog) c.in-Err.ensures.down)

pub returns-clause-once : goal.returns-clause-once
returns-clause-once g c =
    let v = c.args.volume.now in
    let mid = c.enter_settled.new.volume in
    let made = c.stage_from.new.volume in
    let b = c.args.branch.now in
    let e = entry_if c.args.has_changed (settled_entry (tid_of b.tid) (serial_of b.serial) (outcome_of c.args.outcome) c.args.moment.0) in
    let end : mid.catalog.ru.end ≡ (span_with e v.catalog.ru).end = ap (λ (x : Catalog). x.ru.end) c.in-Ok.ensures.catalog in
    let short : (span_with e v.catalog.ru).end ≤ v.catalog.ru.end + 48 = omega (arith, end, c.in-Ok.ensures.end, entry_few c.args.has_changed) in
    once_from b.tid b.serial c.args.ending c.args.moment.0 e c.args.first v (record made { store = c.apply.new.self }) short
    (starts_from b.tid b.serial c.args.ending c.args.moment.0 e [] v mid made c.args.first c.in-Ok.ensures.catalog c.stage_from.ensures.catalog)
