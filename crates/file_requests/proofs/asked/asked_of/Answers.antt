use Rattle.std.proofs.Common.{◌≡◌, ℕ, List, sym, ap, subst, ◌∙◌}
use Rattle.vms_model.specs.Keys.{Text}
use Rattle.script_lang.specs.Statements.{key_in, operation_of}
use Rattle.script_lang.specs.declared.statement.KeyWord.{KeyWord}
use Rattle.file_requests.specs.Asking.{IsUnkeyed}
use Rattle.file_requests.proofs.AskingLemmas.{delete_unkeyed, get_unkeyed, update_unkeyed}
use Rattle.file_requests.proofs.asked.asked_of.Goals as goal

spelled : (key bytes : List ℕ) (word : KeyWord) → bytes ≡ key → key_in bytes word ≡ Text bytes → key_in key word ≡ Text bytes
spelled key bytes word e h = ap (λ b. key_in b word) (sym e) ∙ h

pub returns-in-None-clause-none : goal.returns-in-None-clause-none
returns-in-None-clause-none c =
    let h = c.in-None.ensures.none in
    let lit = c.args.lit.now in
    subst (λ o. IsUnkeyed (operation_of lit o)) (sym c.in-Update.is)
    (update_unkeyed (key_in lit.key c.in-Update.word) c.bytes-key.result.now lit.record (spelled lit.key c.bytes-key.result.now c.in-Update.word c.bytes-key.ensures.value h.0) h.1)

pub returns-in-None-key_of_word-clause-none : goal.returns-in-None-key_of_word-clause-none
returns-in-None-key_of_word-clause-none c =
    let h = c.in-None-key_of_word.ensures.none in
    let lit = c.args.lit.now in
    subst (λ o. IsUnkeyed (operation_of lit o)) (sym c.in-Delete.is)
    (delete_unkeyed (key_in lit.key c.in-Delete.word) c.bytes-key.result.now (spelled lit.key c.bytes-key.result.now c.in-Delete.word c.bytes-key.ensures.value h.0) h.1)

pub returns-in-None-key_of_word-2-clause-none : goal.returns-in-None-key_of_word-2-clause-none
returns-in-None-key_of_word-2-clause-none c =
    let h = c.in-None-key_of_word-2.ensures.none in
    let lit = c.args.lit.now in
    subst (λ o. IsUnkeyed (operation_of lit o)) (sym c.in-Get.is)
    (get_unkeyed (key_in lit.key c.in-Get.word) c.bytes-key.result.now (spelled lit.key c.bytes-key.result.now c.in-Get.word c.bytes-key.ensures.value h.0) h.1)
