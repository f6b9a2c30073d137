use Rattle.std.proofs.Common.{◌≡◌, true, false, Some, None, IfOk, IfSome, ap, sym, subst, ◌∙◌}
use Rattle.vms_base.specs.vms_model.Keys.{Key, Text}
use Rattle.vms_base.specs.Keys.{key_of}
use Rattle.indexed_file.specs.Chain.{StandsAt}
use Rattle.indexed_tree.specs.Files.{map_of}
use Rattle.indexed_tree.specs.Rooted.{IsRooted}
use Rattle.indexed_tree.proofs.file.TreeFile.get.Goals as goal

pub returns-else-is_err-clause-found : goal.returns-else-is_err-clause-found
returns-else-is_err-clause-found g c =
    let key : key_of c.args.key.now ≡ Text c.bytes.result.now = ap key_of c.in-Text.is ∙ ap Text (sym c.bytes.ensures.value) in
    let h = c.args.head.now in
    subst (λ (k : Key). IfOk c.get_key-found.result (λ found. found ≡ true → IfSome c.args.store.now.current (λ b. IsRooted h b → map_of h b k ≡ Some c.get_key-found.new.out))) (sym key) c.get_key-found.ensures.found

pub returns-else-is_err-clause-absent : goal.returns-else-is_err-clause-absent
returns-else-is_err-clause-absent g c =
    let key : key_of c.args.key.now ≡ Text c.bytes.result.now = ap key_of c.in-Text.is ∙ ap Text (sym c.bytes.ensures.value) in
    let h = c.args.head.now in
    subst (λ (k : Key). IfOk c.get_key-found.result (λ found. found ≡ false → IfSome c.args.store.now.current (λ b. IsRooted h b → map_of h b k ≡ None))) (sym key) c.get_key-found.ensures.absent

pub returns-else-is_err-clause-stands : goal.returns-else-is_err-clause-stands
returns-else-is_err-clause-stands g c =
    let key : key_of c.args.key.now ≡ Text c.bytes.result.now = ap key_of c.in-Text.is ∙ ap Text (sym c.bytes.ensures.value) in
    let h = c.args.head.now in
    subst (λ (k : Key). IfOk c.get_key-found.result (λ found. found ≡ true → IfSome c.args.store.now.current (λ b. StandsAt h b k c.get_key-found.new.out))) (sym key) c.get_key-found.ensures.stands
