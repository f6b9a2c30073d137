use Rattle.std.proofs.Common.{◌≡◌, ◌∙◌, rules, ap, ap₂, codes, map, string_bytes, unwrap_or, []}
use Rattle.std.proofs.lemmas.Bool.{false≢true}
use Rattle.clap.specs.Words.{all_of, app_of, is_simple, matches_of, rule_of, takes, with_rule}
use Rattle.dtm_command.proofs.WordLemmas.{image, reader, is_bare, is_simple_reader, values_read, words_taken}
use Rattle.dtm_command.proofs.words.read_words.Goals as goal

pub returns-in-Ok : goal.returns-in-Ok
returns-in-Ok c =
    let image_is : rule_of c.action-image.result ≡ image = search rules in
    let bare_is = is_bare c.new-2.result c.no_binary_name.result c.disable_help_flag.result c.new-2.ensures.app c.no_binary_name.ensures c.disable_help_flag.ensures in
    let command_is : app_of c.in_ok-command.command ≡ reader = c.in_ok-command.ensures.shape (search rules) ∙ ap₂ with_rule bare_is image_is in
    let rows = (c.in-Ok.ensures.matches (ap is_simple command_is ∙ is_simple_reader)).0 in
    ap (λ rows. unwrap_or (all_of (codes "IMAGE") rows) []) (rows ∙ ap (λ a. matches_of a (map string_bytes c.args.words.now)) command_is) ∙ values_read (map string_bytes c.args.words.now) c.requires

pub prove-unreachable-requires : goal.prove-unreachable-requires
prove-unreachable-requires c =
    let image_is : rule_of c.action-image.result ≡ image = search rules in
    let bare_is = is_bare c.new-2.result c.no_binary_name.result c.disable_help_flag.result c.new-2.ensures.app c.no_binary_name.ensures c.disable_help_flag.ensures in
    let command_is : app_of c.in_ok-command.command ≡ reader = c.in_ok-command.ensures.shape (search rules) ∙ ap₂ with_rule bare_is image_is in
    let kind_is = c.kind.ensures ∙ c.in-Err.ensures.passes (ap (λ a. takes a (map string_bytes c.args.words.now)) command_is ∙ words_taken (map string_bytes c.args.words.now) c.requires) in
    absurd (false≢true (rw kind_is at c.if-prove.ensures))
