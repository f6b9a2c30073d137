-- Record by record: entered, and written where a group is full.
use Rattle.std.proofs.Common.{◌≡◌, ℕ, ◌+◌, ◌*◌, length, refl, sym, ap, subst, ◌∙◌, arith, inr}
use Rattle.std.specs.Prelude.{◌%◌}
use Rattle.careful_write.specs.Steps.{Quiet}
use Rattle.careful_write.specs.State.{IsEither, Leaves, StoreState, content}
use Rattle.vms_base.specs.Ids.{serial_of, tid_of}
use Rattle.volume.specs.State.{VolumeState}
use Rattle.unit_cuts.specs.Truncating.{AreBegun, CutRoomState, TellsFirst, Writes, removed_from}
use Rattle.unit_cuts.proofs.CutSofar.{broke_told, places_now, sofar_more, sofar_none, sofar_written}
use Rattle.unit_cuts.proofs.entering.enter_records.Goals as goal

pub loop-behind-init : goal.loop-behind-init
loop-behind-init g c =
    let cut = c.args.cut.now in
    let none = ap (λ (r : CutRoomState). r.positions) c.forget_positions.ensures in
    let places = ap (λ (r : CutRoomState). r.places) c.forget_positions.ensures in
    sofar_none (tid_of c.args.branch.now.tid) (serial_of c.args.branch.now.serial) cut.file cut.head cut.from c.args.limit c.args.base.now c.args.has_image c.args.room.now.places c.args.volume.now c.args.base.now c.forget_positions.new.self c.requires.idle refl c.requires.order none (subst (AreBegun cut.head c.args.volume.now) (sym places) c.requires.places) places

pub enter_record-requires-clause-places : goal.enter_record-requires-clause-places
enter_record-requires-clause-places g c =
    let cut = c.args.cut.now in
    let v = c.args.volume.now in
    let past = c.requires.beside in
    places_now (tid_of c.args.branch.now.tid) (serial_of c.args.branch.now.serial) cut.file cut.head cut.from c.args.limit c.args.base.now c.args.has_image c.args.room.now.places v past c.requires.ring.some c.loop-behind.behind (18 * (c.loop-behind.behind % 20)) c.loop-behind.volume c.loop-behind.span c.loop-behind.room c.loop-behind.invariant c.requires.sequential

pub returns-in-Err-write_full-clause-err : goal.returns-in-Err-write_full-clause-err
returns-in-Err-write_full-clause-err g c =
    let cut = c.args.cut.now in
    let v = c.args.volume.now in
    let tid = tid_of c.args.branch.now.tid in
    let serial = serial_of c.args.branch.now.serial in
    let b = c.loop-behind.behind in
    let past = c.requires.beside in
    let en = c.in-Ok.ensures.enters in
    let more = sofar_more tid serial cut.file cut.head cut.from c.args.limit c.args.base.now c.args.has_image c.args.room.now.places v past c.requires.ring.some b (18 * (b % 20)) c.loop-behind.volume c.loop-behind.span c.loop-behind.room c.loop-behind.invariant en.0 en.1 en.2
    c.enter_record.new.volume c.enter_record.new.span c.enter_record.new.room (omega (arith, c.removed-behind-end.ensures.many)) c.enter_record.ensures.places en.3 in
    broke_told tid serial cut.file cut.head cut.from c.args.limit c.args.base.now c.args.has_image c.args.room.now.places v c.requires.ring.some c.requires.ring.order c.requires.within (b + 1) (18 * (b % 20) + 18) c.enter_record.new.volume c.enter_record.new.span c.enter_record.new.room more c.write_full.new.volume.store.disk c.requires.idle c.in-Err-write_full.ensures.err

pub loop-behind-preserved : goal.loop-behind-preserved
loop-behind-preserved g c =
    let cut = c.args.cut.now in
    let v = c.args.volume.now in
    let tid = tid_of c.args.branch.now.tid in
    let serial = serial_of c.args.branch.now.serial in
    let b = c.loop-behind.behind in
    let past = c.requires.beside in
    let en = c.in-Ok.ensures.enters in
    let more = sofar_more tid serial cut.file cut.head cut.from c.args.limit c.args.base.now c.args.has_image c.args.room.now.places v past c.requires.ring.some b (18 * (b % 20)) c.loop-behind.volume c.loop-behind.span c.loop-behind.room c.loop-behind.invariant en.0 en.1 en.2
    c.enter_record.new.volume c.enter_record.new.span c.enter_record.new.room (omega (arith, c.removed-behind-end.ensures.many)) c.enter_record.ensures.places en.3 in
    sofar_written tid serial cut.file cut.head cut.from c.args.limit c.args.base.now c.args.has_image c.args.room.now.places v c.requires.ring.some c.requires.ring.order c.requires.within (b + 1) (18 * (b % 20) + 18) c.enter_record.new.volume c.enter_record.new.span c.enter_record.new.room more
    (18 * ((b + 1) % 20)) c.write_full.new.volume c.in-Ok-write_full.ensures.writes c.in-Ok-write_full.ensures.counts c.in-Ok-write_full.ensures.staged

pub returns-in-Ok-apply-clause-enters : goal.returns-in-Ok-apply-clause-enters
returns-in-Ok-apply-clause-enters g c =
    let cut = c.args.cut.now in
    let v = c.args.volume.now in
    let tid = tid_of c.args.branch.now.tid in
    let serial = serial_of c.args.branch.now.serial in
    let w = c.loop-behind.volume in
    let x : VolumeState = record { catalog = w.catalog; store = c.apply.new.self } in
    let current = ap (λ (s : StoreState). s.current) c.store.ensures.value in
    let writes : Writes w x = record {
      current = c.in-Ok-apply.ensures.current ∙ current;
      content = inr (c.in-Ok-apply.ensures.content ∙ current);
      catalog = refl;
      ready = c.in-Ok-apply.ensures.ready;
      pool = c.apply.ensures.pool ∙ ap (λ (s : StoreState). s.pool) c.store.ensures.value;
    } in
    let all = sofar_written tid serial cut.file cut.head cut.from c.args.limit c.args.base.now c.args.has_image c.args.room.now.places v c.requires.ring.some c.requires.ring.order c.requires.within c.loop-behind.behind (18 * (c.loop-behind.behind % 20)) w c.loop-behind.span c.loop-behind.room c.loop-behind.invariant
    0 x writes (subst (λ (s : StoreState). Quiet s.disk c.apply.new.self.disk) c.store.ensures.value c.in-Ok-apply.ensures.counts) (let none = ap length c.in-Ok-apply.ensures.touched in omega (arith, none)) in
    let done : c.loop-behind.behind ≡ removed_from cut.head.count cut.from = omega (arith, c.removed-behind-end.ensures.many) in
    (all.entries, all.entering, subst (λ (n : ℕ). TellsFirst tid serial cut.file cut.head cut.from c.args.limit n c.args.base.now c.args.has_image v all.entries) done all.tells)

pub returns-in-Err-apply-clause-err : goal.returns-in-Err-apply-clause-err
returns-in-Err-apply-clause-err g c =
    let cut = c.args.cut.now in
    broke_told (tid_of c.args.branch.now.tid) (serial_of c.args.branch.now.serial) cut.file cut.head cut.from c.args.limit c.args.base.now c.args.has_image c.args.room.now.places c.args.volume.now c.requires.ring.some c.requires.ring.order c.requires.within c.loop-behind.behind (18 * (c.loop-behind.behind % 20)) c.loop-behind.volume c.loop-behind.span c.loop-behind.room c.loop-behind.invariant
    c.apply.new.self.disk c.requires.idle (subst (λ (s : StoreState). Leaves (IsEither (content s) s.current) c.apply.new.self.disk) c.store.ensures.value c.in-Err-apply.ensures.err)

pub returns-in-Err-clause-places : goal.returns-in-Err-clause-places
returns-in-Err-clause-places g c = c.enter_record.ensures.places ∙ c.loop-behind.invariant.same_places

pub returns-in-Err-write_full-clause-places : goal.returns-in-Err-write_full-clause-places
returns-in-Err-write_full-clause-places g c = c.enter_record.ensures.places ∙ c.loop-behind.invariant.same_places

pub returns-in-Ok-apply-clause-places : goal.returns-in-Ok-apply-clause-places
returns-in-Ok-apply-clause-places g c = c.loop-behind.invariant.same_places

pub returns-in-Err-apply-clause-places : goal.returns-in-Err-apply-clause-places
returns-in-Err-apply-clause-places g c = c.loop-behind.invariant.same_places
