use Rattle.std.proofs.Common.{Result, Ok, Err, IfOk, OnOk}
use Rattle.indexed_tree.proofs.StoreLaws.{leaf_told, path_told}
use Rattle.indexed_tree.proofs.find.find_leaf.Goals as goal

if_ok_then : {T E : Type 0} (r : Result T E) (P Q : T → Type 0) → ((x : T) → P x → Q x) → IfOk r P → IfOk r Q
if_ok_then (Ok x) P Q f p = f x p
if_ok_then (Err e) P Q f p = tt

on_ok_then : {T E A B : Type 0} (r : Result T E) → (A → B) → OnOk r A → OnOk r B
on_ok_then (Ok x) f a = f a
on_ok_then (Err e) f a = tt

pub returns-clause-leaf : goal.returns-clause-leaf
returns-clause-leaf g c =
    if_ok_then c.descend.result _ _ (λ n at. leaf_told c.args.store.now.current c.args.head.now c.args.key.now n c.requires.form.root at) c.descend.ensures.leaf

pub returns-clause-path : goal.returns-clause-path
returns-clause-path g c = on_ok_then c.descend.result (λ at. path_told c.args.store.now.current c.args.head.now c.args.key.now c.descend.new.path c.requires.form.root at) c.descend.ensures.path
