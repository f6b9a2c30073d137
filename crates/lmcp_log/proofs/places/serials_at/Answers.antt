use Rattle.std.proofs.Common.{ℕ, ◌+◌, ◌<◌, [], length, arith, ◌∙◌, ap}
use Rattle.std.proofs.lemmas.List.{length_push}
use Rattle.vms_base.specs.vms_model.Ids.{Id}
use Rattle.vms_base.specs.Ids.{id_of, serial_of}
use Rattle.lmcp_log.proofs.Fields.{serial_stands, taken_more}
use Rattle.lmcp_log.proofs.Readings.{no_such, some_is}
use Rattle.lmcp_log.proofs.places.serials_at.Goals as goal

no_id : Id
no_id = record { node = []; boot = 0; seq = 0 }

pub returns-in-None : goal.returns-in-None
returns-in-None c = λ ss a few n is.
    let lt : c.loop-i.i < length ss = let t = c.loop-i-test.true in let e = c.from-i-end.ensures in omega (arith, n, e) in
    let s = serial_stands c.args.block.now ss c.loop-i.i no_id a few lt is in
    absurd (no_such id_of c.id_at.result _ c.in-None.is (c.id_at.ensures _ s.0 s.1))

pub loop-i-preserved : goal.loop-i-preserved
loop-i-preserved c =
    let i = c.loop-i.i in
    record {
      count = ap length c.push.ensures ∙ (length_push c.loop-i.serials _ ∙ ap (λ (m : ℕ). m + 1) c.loop-i.invariant.count);
      read = λ ss a few n is.
          let lt : i < length ss = let t = c.loop-i-test.true in let e = c.from-i-end.ensures in omega (arith, n, e) in
          let s = serial_stands c.args.block.now ss i no_id a few lt is in
          taken_more serial_of c.loop-i.serials c.push.new.self _ ss i no_id lt (c.loop-i.invariant.read ss a few n is) (some_is id_of c.id_at.result c.in-Some.id _ c.in-Some.is (c.id_at.ensures _ s.0 s.1)) c.push.ensures;
    }
