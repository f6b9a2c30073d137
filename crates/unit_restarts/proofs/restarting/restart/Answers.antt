-- A restart, part by part.
use Rattle.std.proofs.Common.{◌≡◌, ◌++◌, ℕ, ◌+◌, ◌-◌, ◌≤◌, ◌<◌, List, [], Option, IfSome, length, map, refl, sym, ap, subst, ◌∙◌, arith, Some}
use Rattle.std.specs.Prelude.{Bool, true, false, nat_le}
use Rattle.std.proofs.lemmas.Bool.{leb-false, leb-true}
use Rattle.std.proofs.lemmas.List.{length-append, length-map, map-append}
use Rattle.unit_entries.specs.commit_protocol.Messages.{LogRecord}
use Rattle.file_base.specs.declared.head.Span.{Span}
use Rattle.journal_model.specs.Entries.{Entry}
use Rattle.journal_model.specs.Ring.{IsJournal, ring_size}
use Rattle.lmcp_log.specs.Log.{with_few_prepared}
use Rattle.lmcp_log.proofs.Few.{few_same}
use Rattle.unit_entries.specs.log_laws.Slots.{Slots, prepared_of, records_in}
use Rattle.record_locks.specs.Locks.{Lock}
use Rattle.unit_entries.specs.run_model.World.{records_by}
use Rattle.lmcp_log.specs.tm_types.Parts.{log_record_of}
use Rattle.unit_entries.specs.Opening.{AscendWithin}
use Rattle.unit_entries.proofs.StoreLemmas.{of_content}
use Rattle.unit_entries.specs.Voting.{IsVoted, votes_in}
use Rattle.unit_returns.specs.Returning.{AreAllChangesAt, AreOfRecords, HaveChanges, HoldChanges}
use Rattle.unit_table.specs.Units.{OpenUnit, Units, begun, changers, owed}
use Rattle.unit_table.proofs.BegunLemmas.{changers_seen}
use Rattle.unit_aborts.specs.image_appends.declared.side.Side.TheVariants.{After, Before}
use Rattle.unit_aborts.proofs.image_room.Keeping.{fits_less}
use Rattle.unit_aborts.specs.image_room.Room.{AllSettlementsFit}
use Rattle.vms_base.specs.declared.protocol.LogRec.{LogRec}
use Rattle.vms_model.specs.Ids.{Id}
use Rattle.volume.specs.State.{VolumeState}
use Rattle.unit_aborts.proofs.ReadLemmas.{reopens_to}
use Rattle.unit_restarts.specs.Restarting.{RestartTold, returning, undoing}
use Rattle.unit_restarts.proofs.RestartLemmas.{all_low, as_many, have_changes, owed_by, owed_order, taken_ascends, taken_changers, taken_owed}
use Rattle.unit_restarts.proofs.RoomLemmas.{few_twice, reopened_far, told_on}
use Rattle.unit_restarts.proofs.restarting.restart.Goals as goal

pub returns-in-Err-clause-log : goal.returns-in-Err-clause-log
returns-in-Err-clause-log g c =
    let most = 64 - c.len.result in
    let count : c.len.result ≡ length c.reopen_units-undone.new.out.items = let e = c.len.ensures in omega (arith, e) in
    c.list_few.ensures.log ∙ ap (with_few_prepared most) c.list_records.ensures.log ∙ few_twice most 64 c.args.log.now (omega arith) ∙ ap (λ (undone : ℕ). with_few_prepared (64 - undone) c.args.log.now) count

pub returns-in-Err-take_units-clause-log : goal.returns-in-Err-take_units-clause-log
returns-in-Err-take_units-clause-log g c =
    let most = 64 - c.len.result in
    let count : c.len.result ≡ length c.reopen_units-undone.new.out.items = let e = c.len.ensures in omega (arith, e) in
    c.list_few.ensures.log ∙ ap (with_few_prepared most) c.list_records.ensures.log ∙ few_twice most 64 c.args.log.now (omega arith) ∙ ap (λ (undone : ℕ). with_few_prepared (64 - undone) c.args.log.now) count

pub returns-clause-log : goal.returns-clause-log
returns-clause-log g c =
    let most = 64 - c.len.result in
    let count : c.len.result ≡ length c.reopen_units-undone.new.out.items = let e = c.len.ensures in omega (arith, e) in
    c.list_few.ensures.log ∙ ap (with_few_prepared most) c.list_records.ensures.log ∙ few_twice most 64 c.args.log.now (omega arith) ∙ ap (λ (undone : ℕ). with_few_prepared (64 - undone) c.args.log.now) count

pub returns-in-Err-clause-err : goal.returns-in-Err-clause-err
returns-in-Err-clause-err g c =
    undoing c.in-Err.ensures.fails

pub take_units-requires-clause-low : goal.take_units-requires-clause-low
take_units-requires-clause-low g c =
    let w = c.reopen_units-undone.new.volume in
    all_low w.catalog.ru.first w.catalog.ru.end (begun c.reopen_units-undone.new.units) c.in-Ok.ensures.may.ring.low c.in-Ok.ensures.ascends

pub returns-in-Err-take_units-clause-err : goal.returns-in-Err-take_units-clause-err
returns-in-Err-take_units-clause-err g c =
    let left = begun c.reopen_units-undone.new.units in
    returning c.reopen_units-undone.new.volume left c.in-Ok.ensures.reopens c.in-Err-take_units.ensures.down

pub returns-in-Err-take_units-clause-moments : goal.returns-in-Err-take_units-clause-moments
returns-in-Err-take_units-clause-moments g c = told_on c.reopen_units-undone.new.volume c.take_units.new.volume c.reopen_units-undone.new.out.items c.in-Err-take_units.ensures.kept c.reopen_units-undone.ensures.told

pub returns-clause-owed : goal.returns-clause-owed
returns-clause-owed g c =
    let t = c.take_units.new.table in
    let taken = c.in-Ok-take_units.ensures.taken in
    let left = begun c.reopen_units-undone.new.units in
    let is : begun t ≡ taken.units = taken.behind ∙ ap (λ (x : Units). begun x ++ taken.units) c.requires.none in
    let owing = taken_owed (map log_record_of c.deref-2.result.now) left taken.units taken.records taken.changes in
    let same = owed_order t.order t.places c.stand_in_order.ensures.each in
    let all = ap owed_by is in
    let room = c.in-Ok.ensures.room in
    subst (λ (x : VolumeState). x.catalog.ru.end - x.catalog.ru.first + owed t.places ≤ ring_size x.catalog.ru) (sym c.in-Ok-take_units.ensures.same) (omega (arith, owing, same, all, room))

pub returns-clause-images : goal.returns-clause-images
returns-clause-images g c = λ file h there.
    let t = c.take_units.new.table in
    let taken = c.in-Ok-take_units.ensures.taken in
    let mid = c.reopen_units-undone.new.volume in
    let left = begun c.reopen_units-undone.new.units in
    let is : begun t ≡ taken.units = taken.behind ∙ ap (λ (x : Units). begun x ++ taken.units) c.requires.none in
    let seen = changers_seen file t.places t.order c.stand_in_order.ensures in
    let same = ap (λ (us : List OpenUnit). changers file (map Some us)) is in
    let fewer = taken_changers file left taken.units taken.changes in
    let less : changers file t.places ≤ changers file (map Some left) = omega (arith, seen, same, fewer) in
    let fit = subst (λ (x : VolumeState). AllSettlementsFit (map Some left) x.catalog.heads) (sym c.in-Ok-take_units.ensures.same) c.in-Ok.ensures.images file h there in
    (fits_less After h file (map Some left) t.places less fit.0, fits_less Before h file (map Some left) t.places less fit.1)

pub returns-clause-ascends : goal.returns-clause-ascends
returns-clause-ascends g c =
    let t = c.take_units.new.table in
    let taken = c.in-Ok-take_units.ensures.taken in
    let mid = c.reopen_units-undone.new.volume in
    let is : begun t ≡ taken.units = taken.behind ∙ ap (λ (x : Units). begun x ++ taken.units) c.requires.none in
    subst (λ (x : VolumeState). AscendWithin x.catalog.ru.first x.catalog.ru.end (begun t)) (sym c.in-Ok-take_units.ensures.same)
    (subst (AscendWithin mid.catalog.ru.first mid.catalog.ru.end) (sym is)
    (taken_ascends mid.catalog.ru.first mid.catalog.ru.end (begun c.reopen_units-undone.new.units) taken.units c.in-Ok.ensures.may.ring.order c.in-Ok.ensures.ascends taken.changes))

pub returns-clause-room : goal.returns-clause-room
returns-clause-room g c =
    let t = c.take_units.new.table in
    let taken = c.in-Ok-take_units.ensures.taken in
    let mid = c.reopen_units-undone.new.volume in
    let out = c.reopen_units-undone.new.out.items in
    let is : begun t ≡ taken.units = taken.behind ∙ ap (λ (x : Units). begun x ++ taken.units) c.requires.none in
    let far = reopened_far c.args.clock.0 c.args.volume.now mid out (begun c.reopen_units-undone.new.units) c.in-Ok.ensures.reopens in
    let greatest = ap (λ (x : VolumeState). x.catalog.home.greatest_moment.0) c.in-Ok-take_units.ensures.same in
    let many = ap length is ∙ as_many (map log_record_of c.deref-2.result.now) taken.units taken.records ∙ length-map c.deref-2.result.now log_record_of ∙ ap length c.deref-2.ensures.value in
    let few = c.list_few.ensures.few in
    let most = c.reopen_units-undone.ensures.few in
    let undone = c.len.ensures in
    omega (arith, far, greatest, many, few, most, undone)

few_listed : (found listed : Slots) (count undone : ℕ) → (length (prepared_of (records_in found)) ≤ 64 → listed ≡ found) → count ≡ length (prepared_of (records_in listed)) → undone + length (prepared_of (records_in found)) ≤ 64 → count ≤ 64 - undone
few_listed found listed count undone same many few = let is = ap (λ (ss : Slots). length (prepared_of (records_in ss))) (same (omega (arith, few))) in omega (arith, is, many, few)

-- the records are listed as they were, or again in the order of the slots
arranged_so : (most count : ℕ) (new old : List LogRec) (log listed : Slots) → count ≡ length old → (count ≤ most → (new ≡ old) × (log ≡ listed)) → (most < count → map log_record_of new ≡ prepared_of (records_in log)) →
    (votes : List Id) → map log_record_of old ≡ records_by votes (prepared_of (records_in listed)) → (votes : List Id) × (map log_record_of new ≡ records_by votes (prepared_of (records_in log)))
arranged_so most count new old log listed is same again votes arranged = go (nat_le count most) refl
  where
    go : (b : Bool) → nat_le count most ≡ b → (votes : List Id) × (map log_record_of new ≡ records_by votes (prepared_of (records_in log)))
    go true few = let stays = same (leb-true count most few) in (votes, ap (map log_record_of) stays.0 ∙ arranged ∙ ap (λ (ss : Slots). records_by votes (prepared_of (records_in ss))) (sym stays.1))
    go false more = ([], again (leb-false count most more))

-- the records of branches with a vote stand first, and the others behind
record AreOrdered (content : Option (List (List ℕ))) (s : Span) (found : List LogRecord) (new : List LogRec) : Type 0 where
  votes : List Id
  moved : map log_record_of new ≡ records_by votes found
  told : IfSome content (λ c. (es : List Entry) → IsJournal c s es → map log_record_of new ≡ records_by (votes_in es) found)

in_order : (content : Option (List (List ℕ))) (s : Span) (listed left none out new : List LogRec) (found : List LogRecord) → none ≡ [] → map log_record_of listed ≡ found →
    IsVoted content s (map log_record_of listed) (map log_record_of left) (map log_record_of none) (map log_record_of out) → new ≡ out ++ left → AreOrdered content s found new
in_order content s listed left none out new found empty is voted more =
    let all : map log_record_of new ≡ map log_record_of out ++ map log_record_of left = ap (map log_record_of) more ∙ map-append log_record_of out left in
    let by : (votes : List Id) → map log_record_of out ++ map log_record_of left ≡ map log_record_of none ++ records_by votes (map log_record_of listed) → map log_record_of new ≡ records_by votes found = λ votes moved.
    all ∙ moved ∙ ap (λ (rs : List LogRec). map log_record_of rs ++ records_by votes (map log_record_of listed)) empty ∙ ap (records_by votes) is in
    record { votes = voted.votes; moved = by voted.votes voted.moved; told = of_content content (λ c told es journal. by (votes_in es) (told es journal)) voted.told }

pub returns-clause-done : goal.returns-clause-done
returns-clause-done g c =
    let v = c.args.volume.now in
    let mid = c.reopen_units-undone.new.volume in
    let t = c.take_units.new.table in
    let locks = c.take_units.new.locks.locks in
    let left = begun c.reopen_units-undone.new.units in
    let out = c.reopen_units-undone.new.out.items in
    let prepared = c.list_few.new.prepared.items in
    let same = c.in-Ok-take_units.ensures.same in
    let taken = c.in-Ok-take_units.ensures.taken in
    let is : begun t ≡ taken.units = taken.behind ∙ ap (λ (x : Units). begun x ++ taken.units) c.requires.none in
    let told : map log_record_of c.deref-2.result.now ≡ map log_record_of prepared = ap (map log_record_of) c.deref-2.ensures.value in
    let records : AreOfRecords (map log_record_of prepared) taken.units = subst (λ (rs : List LogRecord). AreOfRecords rs taken.units) told taken.records in
    let all = c.list_behind.new.out.items in
    let more : all ≡ c.reopen_units-undone.new.voted.items ++ c.reopen_units-undone.new.rest.items = c.list_behind.ensures.list ∙ ap (λ (rs : List LogRec). c.reopen_units-undone.new.voted.items ++ rs) c.deref.ensures.value in
    let listed = c.list_records.ensures.prepared in
    let nothing : c.out.inside.prepared.items ≡ [] = ap (λ (r : RestartTold). r.prepared) (c.out.view_is ∙ c.clear.ensures) in
    let order = in_order v.store.current v.catalog.ru c.list_records.new.listed.items c.reopen_units-undone.new.rest.items c.out.inside.prepared.items c.reopen_units-undone.new.voted.items all (prepared_of (records_in c.list_records.new.log)) nothing listed
    c.in-Ok.ensures.voted more in
    let many : length all ≡ length (prepared_of (records_in c.list_records.new.log)) =
    let none = ap length nothing in
    let count = c.reopen_units-undone.ensures.count in
    let long = ap length more ∙ length-append c.reopen_units-undone.new.voted.items c.reopen_units-undone.new.rest.items in
    let each = sym (length-map c.list_records.new.listed.items log_record_of) ∙ ap length listed in
    omega (arith, none, count, long, each) in
    let arranged = arranged_so (64 - c.len.result) (length all) prepared all c.list_few.new.log c.list_records.new.log refl c.list_few.ensures.same c.list_few.ensures.again order.votes order.moved in
    record {
      places = c.in-Ok-take_units.ensures.places;
      committed = c.list_few.ensures.committed;
      votes = arranged.0;
      arranged = arranged.1;
      ordered = λ few_found.
          let few = few_listed c.args.log.now c.list_records.new.log (length all) c.len.result (λ few. c.list_records.ensures.log ∙ few_same 64 c.args.log.now few) many (let undone = c.len.ensures in omega (arith, undone, few_found)) in
          let stays = c.list_few.ensures.same few in
          subst (λ (rs : List LogRec). IfSome v.store.current (λ k. (es : List Entry) → IsJournal k v.catalog.ru es → map log_record_of rs ≡ records_by (votes_in es) (prepared_of (records_in c.list_few.new.log)))) (sym stays.0)
          (subst (λ (ss : Slots). IfSome v.store.current (λ k. (es : List Entry) → IsJournal k v.catalog.ru es → map log_record_of all ≡ records_by (votes_in es) (prepared_of (records_in ss)))) (sym stays.1) order.told);
      few = let few = c.list_few.ensures.few in let most = c.reopen_units-undone.ensures.few in let undone = c.len.ensures in omega (arith, few, most, undone);
      left = left;
      reopens = reopens_to mid c.take_units.new.volume same c.args.clock.0 v out left c.in-Ok.ensures.reopens;
      records = subst (AreOfRecords (map log_record_of prepared)) (sym is) records;
      changes = λ apart. subst (HaveChanges left) (sym is) (have_changes (map log_record_of prepared) left taken.units records taken.changes apart);
      hold = subst (λ (x : VolumeState). IfSome x.store.current (λ k. (ess : List (List Entry)) → AreAllChangesAt x.catalog.ru (begun t) ess k → HoldChanges x.catalog.heads 4096 (begun t) ess [] locks)) (sym same)
          (subst (λ (us : List OpenUnit). IfSome mid.store.current (λ k. (ess : List (List Entry)) → AreAllChangesAt mid.catalog.ru us ess k → HoldChanges mid.catalog.heads 4096 us ess [] locks)) (sym is)
          (subst (λ (ls : List Lock). IfSome mid.store.current (λ k. (ess : List (List Entry)) → AreAllChangesAt mid.catalog.ru taken.units ess k → HoldChanges mid.catalog.heads 4096 taken.units ess ls locks)) c.requires.free
          (subst (λ (most : ℕ). IfSome mid.store.current (λ k. (ess : List (List Entry)) → AreAllChangesAt mid.catalog.ru taken.units ess k → HoldChanges mid.catalog.heads most taken.units ess c.args.locks.now.locks locks)) c.requires.locks taken.hold)));
    }

pub returns-clause-moments : goal.returns-clause-moments
returns-clause-moments g c = told_on c.reopen_units-undone.new.volume c.take_units.new.volume c.reopen_units-undone.new.out.items c.in-Ok-take_units.ensures.kept c.reopen_units-undone.ensures.told
