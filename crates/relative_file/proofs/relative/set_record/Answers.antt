use Rattle.std.proofs.Common.{ℕ, List, Option, Some, None, IfSome, Result, Ok, Err, OnOk, ap}
use Rattle.std.specs.Option.{option_copied}
use Rattle.vms_base.specs.Keys.{key_of}
use Rattle.file_base.specs.declared.head.FileHead.{FileHead}
use Rattle.relative_file.specs.Cells.{WritesCell, IsLaidOut}
use Rattle.relative_file.proofs.LayoutLaws.{layout_set}
use Rattle.relative_file.proofs.MapLaws.{finished}
use Rattle.relative_file.proofs.relative.set_record.Goals as goal

on_ok_then : {T E A B : Type 0} (r : Result T E) → (A → B) → OnOk r A → OnOk r B
on_ok_then (Ok x) f a = f a
on_ok_then (Err e) f a = tt

laid_out_then : (h : FileHead) (told : Option (List (List ℕ))) {Q : Type 0} → (IfSome told (IsLaidOut h) → Q) → IfSome told (λ b. IsLaidOut h b → Q)
laid_out_then h None f = tt
laid_out_then h (Some b) f = λ valid. f valid

pub returns-else-is_err-clause-map : goal.returns-else-is_err-clause-map
returns-else-is_err-clause-map g c =
    on_ok_then c.set_cell-done.result (λ (w : WritesCell c.args.head.now c.in-Number.n c.value_bytes.result.now c.args.store.now c.set_cell-done.new.store).
    (finished c.args.head.now (key_of c.args.key.now) c.in-Number.n (option_copied c.args.value) _ _ _ (ap key_of c.in-Number.is) c.value_bytes.ensures c.requires.suits c.requires.form c.requires.placed c.set_cell-done.ensures.whole w).map_is)
    c.set_cell-done.ensures.ok

pub returns-else-is_err-clause-staged : goal.returns-else-is_err-clause-staged
returns-else-is_err-clause-staged g c =
    on_ok_then c.set_cell-done.result (λ (w : WritesCell c.args.head.now c.in-Number.n c.value_bytes.result.now c.args.store.now c.set_cell-done.new.store).
    (finished c.args.head.now (key_of c.args.key.now) c.in-Number.n (option_copied c.args.value) _ _ _ (ap key_of c.in-Number.is) c.value_bytes.ensures c.requires.suits c.requires.form c.requires.placed c.set_cell-done.ensures.whole w).staged)
    c.set_cell-done.ensures.ok

pub returns-else-is_err-clause-valid : goal.returns-else-is_err-clause-valid
returns-else-is_err-clause-valid g c =
    on_ok_then c.set_cell-done.result (λ (w : WritesCell c.args.head.now c.in-Number.n c.value_bytes.result.now c.args.store.now c.set_cell-done.new.store).
    laid_out_then c.args.head.now c.args.store.now.current (λ valid. layout_set c.args.head.now (key_of c.args.key.now) c.in-Number.n (option_copied c.args.value) _ _ _ (ap key_of c.in-Number.is) c.value_bytes.ensures c.requires.suits c.requires.form c.requires.placed c.set_cell-done.ensures.whole valid w))
    c.set_cell-done.ensures.ok
