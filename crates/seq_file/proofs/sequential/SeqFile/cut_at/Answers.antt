use Rattle.std.proofs.Common.{◌-◌, take, Result, Ok, Err, OnOk}
use Rattle.seq_file.specs.Layout.{IsLaidOut}
use Rattle.seq_file.specs.Frames.{Changes}
use Rattle.seq_file.proofs.SetLaws.{cut_done}
use Rattle.seq_file.proofs.sequential.SeqFile.cut_at.Goals as goal

on_ok_then : {T E A B : Type 0} (r : Result T E) → (A → B) → OnOk r A → OnOk r B
on_ok_then (Ok x) f a = f a
on_ok_then (Err e) f a = tt

pub returns-else-is_err-clause-map : goal.returns-else-is_err-clause-map
returns-else-is_err-clause-map g c =
    let h = c.args.head.now in
    on_ok_then c.cut_positions-done.result (λ (w : Changes h c.cut_positions-done.new.head (IsLaidOut h) (take (c.args.from - 1)) c.args.store.now c.cut_positions-done.new.store).
    (cut_done h c.cut_positions-done.new.head c.args.from _ _ c.requires.first w).map_is) c.cut_positions-done.ensures.done

pub returns-else-is_err-clause-valid : goal.returns-else-is_err-clause-valid
returns-else-is_err-clause-valid g c =
    let h = c.args.head.now in
    on_ok_then c.cut_positions-done.result (λ (w : Changes h c.cut_positions-done.new.head (IsLaidOut h) (take (c.args.from - 1)) c.args.store.now c.cut_positions-done.new.store).
    (cut_done h c.cut_positions-done.new.head c.args.from _ _ c.requires.first w).valid) c.cut_positions-done.ensures.done

pub returns-else-is_err-clause-used : goal.returns-else-is_err-clause-used
returns-else-is_err-clause-used g c =
    let h = c.args.head.now in
    on_ok_then c.cut_positions-done.result (λ (w : Changes h c.cut_positions-done.new.head (IsLaidOut h) (take (c.args.from - 1)) c.args.store.now c.cut_positions-done.new.store).
    (cut_done h c.cut_positions-done.new.head c.args.from _ _ c.requires.first w).used) c.cut_positions-done.ensures.done

pub returns-else-is_err-clause-staged : goal.returns-else-is_err-clause-staged
returns-else-is_err-clause-staged g c =
    let h = c.args.head.now in
    on_ok_then c.cut_positions-done.result (λ (w : Changes h c.cut_positions-done.new.head (IsLaidOut h) (take (c.args.from - 1)) c.args.store.now c.cut_positions-done.new.store). w.staged) c.cut_positions-done.ensures.done

pub returns-else-is_err-clause-file : goal.returns-else-is_err-clause-file
returns-else-is_err-clause-file g c =
    let h = c.args.head.now in
    on_ok_then c.cut_positions-done.result (λ (w : Changes h c.cut_positions-done.new.head (IsLaidOut h) (take (c.args.from - 1)) c.args.store.now c.cut_positions-done.new.store). w.file) c.cut_positions-done.ensures.done

pub returns-else-is_err-clause-form : goal.returns-else-is_err-clause-form
returns-else-is_err-clause-form g c =
    let h = c.args.head.now in
    on_ok_then c.cut_positions-done.result (λ (w : Changes h c.cut_positions-done.new.head (IsLaidOut h) (take (c.args.from - 1)) c.args.store.now c.cut_positions-done.new.store). w.form) c.cut_positions-done.ensures.done
