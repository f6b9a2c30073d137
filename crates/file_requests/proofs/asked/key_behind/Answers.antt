use Rattle.std.proofs.Common.{option_map, sym, subst}
use Rattle.script_lang.specs.script_model.Statements.{Next}
use Rattle.script_lang.specs.Statements.{key_in}
use Rattle.file_requests.specs.Asking.{IsUnkeyed}
use Rattle.file_requests.proofs.AskingLemmas.{next_unkeyed}
use Rattle.file_requests.proofs.asked.key_behind.Goals as goal

pub returns-in-None-key_of_word-clause-none : goal.returns-in-None-key_of_word-clause-none
returns-in-None-key_of_word-clause-none c =
    let h = c.in-None-key_of_word.ensures.none in
    subst (λ word. IsUnkeyed (Next (option_map (key_in c.args.bytes.now) word))) (sym c.in-Some.is) (next_unkeyed (key_in c.args.bytes.now c.in-Some.word) c.args.bytes.now h.0 h.1)
