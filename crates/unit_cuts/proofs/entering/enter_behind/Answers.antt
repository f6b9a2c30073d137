-- Entries are written behind the end of a journal that is kept.
use Rattle.std.proofs.Common.{◌≡◌, ◌+◌, ◌-◌, ◌≤◌, ℕ, Bool, true, Some, refl, sym, ap, subst, arith}
use Rattle.std.proofs.lemmas.Result.{IfOk-weaker, on_err_weaker}
use Rattle.careful_write.specs.State.{Leaves, content}
use Rattle.journal_model.specs.Ring.{ring_size}
use Rattle.vms_base.specs.Ids.{serial_of, tid_of}
use Rattle.unit_cuts.specs.Truncating.{EntersBehind, IsTold}
use Rattle.unit_cuts.proofs.CutMade.{enters_behind, enters_none}
use Rattle.unit_cuts.proofs.entering.enter_behind.Goals as goal

pub enter_records-requires-clause-within : goal.enter_records-requires-clause-within
enter_records-requires-clause-within g c = let r = c.requires.room c.if-not-kept.false in let room = r.room in let order = r.ring.order in omega (arith, room, order)

pub returns-clause-enters : goal.returns-clause-enters
returns-clause-enters g c =
    let v = c.args.volume.now in
    let cut = c.args.cut.now in
    let base = c.args.base.now in
    let is = c.if-not-kept.false in
    IfOk-weaker c.enter_records.result _ _
    (λ span en. subst (λ (k : Bool). EntersBehind k c.args.has_image base c.args.size (tid_of c.args.branch.now.tid) (serial_of c.args.branch.now.serial) cut.file cut.head cut.from v c.enter_records.new.volume span c.enter_records.new.room.positions) (sym is)
    (enters_behind c.args.has_image base c.args.size (base.end + c.args.size) (tid_of c.args.branch.now.tid) (serial_of c.args.branch.now.serial) cut.file cut.head cut.from v c.enter_records.new.volume span c.enter_records.new.room.positions en.0 refl (c.requires.room is) en.1
    (λ kept a told form laid. en.2 a told form laid (ap (λ (n : ℕ). base.end + n) (c.requires.size is a told form laid)))))
    c.enter_records.ensures.enters

pub returns-clause-err : goal.returns-clause-err
returns-clause-err g c =
    let v = c.args.volume.now in
    on_err_weaker c.enter_records.result
    (λ leaves. subst (λ (k : Bool). Leaves (IsTold k c.args.base.now (content v.store)) c.enter_records.new.volume.store.disk) (sym c.if-not-kept.false) leaves)
    c.enter_records.ensures.err
