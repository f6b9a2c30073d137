use Rattle.std.proofs.Common.{Result, Ok, Err, OnOk}
use Rattle.careful_write.specs.Down.{answered}
use Rattle.indexed_file.specs.change_set.Files.{StagesIn}
use Rattle.indexed_tree.proofs.StoreLaws.{rest_given, stages_given}
use Rattle.indexed_tree.proofs.restore.restore_key.Goals as goal

on_ok_then : {T E A B : Type 0} (r : Result T E) → (A → B) → OnOk r A → OnOk r B
on_ok_then (Ok x) f a = f a
on_ok_then (Err e) f a = tt

pub returns-clause-rest : goal.returns-clause-rest
returns-clause-rest g c =
    rest_given c.take_frame-frame.result (answered c.restore_through-done.result) c.args.store.now c.take_frame-frame.new.store c.restore_through-done.new.store c.give_frame.new.store c.take_frame-frame.ensures.free c.take_frame-frame.ensures.state c.restore_through-done.ensures.rest c.give_frame.ensures

pub returns-clause-stages : goal.returns-clause-stages
returns-clause-stages g c =
    let h = c.args.head.now in
    let s1 = c.take_frame-frame.new.store in
    let s3 = c.restore_through-done.new.store in
    on_ok_then c.restore_through-done.result (λ (stages : StagesIn h h.bucket s1 (record s3 { pool = s1.pool })).
    stages_given h h.bucket c.take_frame-frame.result (answered c.restore_through-done.result) c.args.store.now s1 s3 c.give_frame.new.store c.take_frame-frame.ensures.free c.take_frame-frame.ensures.state c.restore_through-done.ensures.rest c.give_frame.ensures stages)
    c.restore_through-done.ensures.stages
