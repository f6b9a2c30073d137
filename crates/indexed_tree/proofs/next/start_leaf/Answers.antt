use Rattle.std.proofs.Common.{Result, Ok, Err, IfOk, Some, ap, sym, ◌∙◌}
use Rattle.std.proofs.lemmas.List.{take-replicate}
use Rattle.std.specs.Option.{option_copied}
use Rattle.indexed_tree.proofs.NextLaws.{start_none, start_some}
use Rattle.indexed_tree.proofs.next.start_leaf.Goals as goal

if_ok_then : {T E : Type 0} (r : Result T E) (P Q : T → Type 0) → ((x : T) → P x → Q x) → IfOk r P → IfOk r Q
if_ok_then (Ok x) P Q f p = f x p
if_ok_then (Err e) P Q f p = tt

pub returns-in-None-clause-start : goal.returns-in-None-clause-start
returns-in-None-clause-start g c =
    let h = c.args.head.now in
    if_ok_then c.find_leaf-in-None.result _ _ (λ n at. start_none c.args.store.now.current h (option_copied c.args.after) _ n (ap option_copied c.in-None.is) (take-replicate h.key_size 64 0 c.requires.form.short) at) c.find_leaf-in-None.ensures.leaf

pub returns-in-Some-clause-start : goal.returns-in-Some-clause-start
returns-in-Some-clause-start g c =
    if_ok_then c.find_leaf.result _ _ (λ n at. start_some c.args.store.now.current c.args.head.now (option_copied c.args.after) _ n (ap option_copied c.in-Some.is ∙ ap Some (sym c.bytes.ensures.value)) at) c.find_leaf.ensures.leaf
