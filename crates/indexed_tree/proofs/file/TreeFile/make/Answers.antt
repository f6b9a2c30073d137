use Rattle.std.proofs.Common.{Result, Ok, Err, OnOk, arith}
use Rattle.indexed_file.specs.Made.{MakesLeaf}
use Rattle.indexed_file.proofs.MakeLaws.{made_blank, made_out}
use Rattle.indexed_tree.proofs.FileLaws.{made_told}
use Rattle.indexed_tree.proofs.file.TreeFile.make.Goals as goal

on_ok_then : {T E A B : Type 0} (r : Result T E) → (A → B) → OnOk r A → OnOk r B
on_ok_then (Ok x) f a = f a
on_ok_then (Err e) f a = tt

pub returns-else-is_err-clause-map : goal.returns-else-is_err-clause-map
returns-else-is_err-clause-map g c =
    let h = c.args.head.now in
    on_ok_then c.make_file-done.result (λ (makes : MakesLeaf h c.args.store.now.current c.make_file-done.new.store.current).
    (made_told c.make_file-done.new.store.current h c.requires.fresh (made_blank c.args.store.now.current c.make_file-done.new.store.current h c.args.store.now.disk.size c.requires.fresh.used (omega (arith, c.requires.form.root.root, c.requires.form.root.within))
    c.requires.placed.from c.requires.placed.to c.make_file-done.ensures.whole makes)).map_is)
    c.make_file-done.ensures.ok

pub returns-else-is_err-clause-valid : goal.returns-else-is_err-clause-valid
returns-else-is_err-clause-valid g c =
    let h = c.args.head.now in
    on_ok_then c.make_file-done.result (λ (makes : MakesLeaf h c.args.store.now.current c.make_file-done.new.store.current).
    (made_told c.make_file-done.new.store.current h c.requires.fresh (made_blank c.args.store.now.current c.make_file-done.new.store.current h c.args.store.now.disk.size c.requires.fresh.used (omega (arith, c.requires.form.root.root, c.requires.form.root.within))
    c.requires.placed.from c.requires.placed.to c.make_file-done.ensures.whole makes)).valid)
    c.make_file-done.ensures.ok

pub returns-else-is_err-clause-layout : goal.returns-else-is_err-clause-layout
returns-else-is_err-clause-layout g c =
    let h = c.args.head.now in
    on_ok_then c.make_file-done.result (λ (makes : MakesLeaf h c.args.store.now.current c.make_file-done.new.store.current).
    (made_told c.make_file-done.new.store.current h c.requires.fresh (made_blank c.args.store.now.current c.make_file-done.new.store.current h c.args.store.now.disk.size c.requires.fresh.used (omega (arith, c.requires.form.root.root, c.requires.form.root.within))
    c.requires.placed.from c.requires.placed.to c.make_file-done.ensures.whole makes)).layout)
    c.make_file-done.ensures.ok

pub returns-else-is_err-clause-outside : goal.returns-else-is_err-clause-outside
returns-else-is_err-clause-outside g c =
    let h = c.args.head.now in
    on_ok_then c.make_file-done.result (λ (makes : MakesLeaf h c.args.store.now.current c.make_file-done.new.store.current).
    made_out c.args.store.now.current c.make_file-done.new.store.current h (omega (arith, c.requires.form.root.root, c.requires.form.root.within)) makes)
    c.make_file-done.ensures.ok
