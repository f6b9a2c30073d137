-- What the log has of a branch is staged.
use Rattle.std.proofs.Common.{◌+◌, Option, IfSome, length, refl, sym, ap, subst, arith}
use Rattle.std.specs.Prelude.{option_copied}
use Rattle.careful_write.proofs.Touched.{length-with_number}
use Rattle.careful_write.specs.State.{StoreState}
use Rattle.commit_protocol.specs.Messages.{LogRecord}
use Rattle.lmcp_log.specs.Keeping.{Keeps}
use Rattle.lmcp_log.specs.Log.{slot_of}
use Rattle.vms_base.specs.Ids.{serial_of}
use Rattle.volume.specs.State.{VolumeState}
use Rattle.unit_votes.specs.Logging.{SetsRecord}
use Rattle.unit_votes.proofs.Setting.{has_log, is_forgotten_from}
use Rattle.unit_votes.proofs.logging.set_record.Goals as goal

pub returns-in-Ok-clause-few : goal.returns-in-Ok-clause-few
returns-in-Ok-clause-few g c =
    let st = c.in-Ok.ensures.staged in
    let same = ap length st.touched in
    let before = ap (λ (s : StoreState). length s.touched) c.store.ensures.value in
    let one = length-with_number (584 + st.place) c.store.result.now.touched in
    omega (arith, same, before, one)

pub returns-in-None-clause-sets : goal.returns-in-None-clause-sets
returns-in-None-clause-sets g c =
    let v = c.args.volume.now in
    let w : VolumeState = record v { store = c.forget.new.store } in
    let serial = serial_of c.args.serial in
    let set = is_forgotten_from c.catalogs_stand_on_the_front.ensures serial c.args.log.now c.forget.new.self v w c.store-in-None.result.now refl c.store-in-None.ensures.value c.forget.ensures.slots c.forget.ensures.staged c.forget.ensures.nothing in
    subst (λ (e : Option LogRecord). SetsRecord serial e c.args.log.now c.forget.new.self v w) (sym (ap (λ o. slot_of (option_copied o)) c.in-None.is)) set.sets

pub returns-in-None-clause-few : goal.returns-in-None-clause-few
returns-in-None-clause-few g c =
    let v = c.args.volume.now in
    let w : VolumeState = record v { store = c.forget.new.store } in
    (is_forgotten_from c.catalogs_stand_on_the_front.ensures (serial_of c.args.serial) c.args.log.now c.forget.new.self v w c.store-in-None.result.now refl c.store-in-None.ensures.value c.forget.ensures.slots c.forget.ensures.staged c.forget.ensures.nothing).few

pub returns-in-None-clause-long : goal.returns-in-None-clause-long
returns-in-None-clause-long g c =
    let v = c.args.volume.now in
    let w : VolumeState = record v { store = c.forget.new.store } in
    (is_forgotten_from c.catalogs_stand_on_the_front.ensures (serial_of c.args.serial) c.args.log.now c.forget.new.self v w c.store-in-None.result.now refl c.store-in-None.ensures.value c.forget.ensures.slots c.forget.ensures.staged c.forget.ensures.nothing).long

pub returns-in-None-clause-log : goal.returns-in-None-clause-log
returns-in-None-clause-log g c =
    let v = c.args.volume.now in
    let w : VolumeState = record v { store = c.forget.new.store } in
    let ss = c.args.log.now in
    let set = is_forgotten_from c.catalogs_stand_on_the_front.ensures (serial_of c.args.serial) ss c.forget.new.self v w c.store-in-None.result.now refl c.store-in-None.ensures.value c.forget.ensures.slots c.forget.ensures.staged c.forget.ensures.nothing in
    λ h. has_log ss c.forget.new.self v w set.long refl (λ k. c.forget.ensures.keeps (subst (λ (s : StoreState). IfSome s.current (Keeps ss)) (sym c.store-in-None.ensures.value) k)) h
