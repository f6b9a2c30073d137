use Rattle.std.proofs.Common.{◌≡◌, Result, Ok, Err, OnOk, ap, sym, subst, ◌∙◌}
use Rattle.std.specs.Option.{option_copied}
use Rattle.vms_base.specs.vms_model.Keys.{Key, Text}
use Rattle.vms_base.specs.Keys.{key_of}
use Rattle.index_blocks.specs.Levels.{HasRoot}
use Rattle.indexed_file.specs.Chain.{Suits}
use Rattle.indexed_tree.specs.Files.{KeySet}
use Rattle.indexed_tree.specs.Puts.{SameButIndex}
use Rattle.indexed_tree.proofs.FileLaws.{set_told, same_file, tree_head}
use Rattle.indexed_tree.proofs.file.TreeFile.set.Goals as goal

on_ok_both : {T E A B C : Type 0} (r : Result T E) → (A → B → C) → OnOk r A → OnOk r B → OnOk r C
on_ok_both (Ok x) f a b = f a b
on_ok_both (Err e) f a b = tt

on_ok_then : {T E A B : Type 0} (r : Result T E) → (A → B) → OnOk r A → OnOk r B
on_ok_then (Ok x) f a = f a
on_ok_then (Err e) f a = tt

pub set_key-done-requires-clause-suits : goal.set_key-done-requires-clause-suits
set_key-done-requires-clause-suits g c =
    let key : key_of c.args.key.now ≡ Text c.bytes.result.now = ap key_of c.in-Text.is ∙ ap Text (sym c.bytes.ensures.value) in
    subst (λ (x : Key). Suits c.args.head.now x (option_copied c.args.value)) key c.requires.suits

pub returns-else-is_err-clause-sets : goal.returns-else-is_err-clause-sets
returns-else-is_err-clause-sets g c =
    let h = c.args.head.now in
    let h' = c.set_key-done.new.head in
    let held = λ (x : Key). g.H.Held.held c.args.held.now x in
    let v = option_copied c.args.value in
    let s0 = c.args.store.now in
    let s1 = c.set_key-done.new.store in
    let key : key_of c.args.key.now ≡ Text c.bytes.result.now = ap key_of c.in-Text.is ∙ ap Text (sym c.bytes.ensures.value) in
    on_ok_both c.set_key-done.result
    (λ sets (form : HasRoot h'). subst (λ (x : Key). KeySet h h' held x v s0.current s1.current) (sym key) (set_told h h' held c.bytes.result.now v s0.current s1.current form.some sets))
    c.set_key-done.ensures.sets c.set_key-done.ensures.form

pub returns-else-is_err-clause-file : goal.returns-else-is_err-clause-file
returns-else-is_err-clause-file g c = on_ok_then c.set_key-done.result (λ (file : SameButIndex c.args.head.now c.set_key-done.new.head). same_file c.args.head.now c.set_key-done.new.head file) c.set_key-done.ensures.file

pub returns-else-is_err-clause-form : goal.returns-else-is_err-clause-form
returns-else-is_err-clause-form g c =
    on_ok_both c.set_key-done.result (λ (file : SameButIndex c.args.head.now c.set_key-done.new.head) form. tree_head c.args.head.now c.set_key-done.new.head c.requires.form file form) c.set_key-done.ensures.file c.set_key-done.ensures.form
