-- The journal has the room.
use Rattle.std.proofs.Common.{◌≡◌, ◌+◌, ◌≤◌, ◌^◌, ℕ, false, sym, subst}
use Rattle.std.proofs.lemmas.Result.{IfOk-weaker}
use Rattle.vms_base.specs.Ids.{serial_of, tid_of}
use Rattle.image_appends.specs.Images.{HasRoom}
use Rattle.unit_cuts.specs.Truncating.{EntersBehind}
use Rattle.unit_cuts.proofs.cutting.enter_afters.Goals as goal

pub enter_behind-requires-clause-room : goal.enter_behind-requires-clause-room
enter_behind-requires-clause-room g c = λ kept. subst (λ (n : ℕ). HasRoom n c.args.cut.now.head.ai c.args.volume.now.store.disk) (sym c.gone_size-size.ensures.size) (c.requires.fit kept).room

pub enter_behind-requires-clause-low : goal.enter_behind-requires-clause-low
enter_behind-requires-clause-low g c = λ kept. subst (λ (n : ℕ). c.args.cut.now.head.ai.end + n ≤ 2 ^ 62) (sym c.gone_size-size.ensures.size) (c.requires.fit kept).low

pub enter_behind-requires-clause-size : goal.enter_behind-requires-clause-size
enter_behind-requires-clause-size g c = λ kept a told form laid. c.gone_size-size.ensures.size

pub returns-clause-enters : goal.returns-clause-enters
returns-clause-enters g c =
    let cut = c.args.cut.now in
    let h = cut.head in
    IfOk-weaker c.enter_behind.result _ _
    (λ span en. subst (λ (n : ℕ). EntersBehind h.marks.ai false h.ai n (tid_of c.args.branch.now.tid) (serial_of c.args.branch.now.serial) cut.file h cut.from c.args.volume.now c.enter_behind.new.volume span c.enter_behind.new.room.positions) c.gone_size-size.ensures.size en)
    c.enter_behind.ensures.enters
