use Rattle.std.proofs.Common.{ap, ◌∙◌, sym}
use Rattle.std.specs.FinMap.{entries}
use Rattle.std.specs.FinMap.Entries.{put, where_key}
use Rattle.reference_index.specs.records_model.Records.{key_cmp, set_key}
use Rattle.reference_world.specs.Rows.{is_other}
use Rattle.reference_index.specs.Standing.{lent_key, lent_value}
use Rattle.reference_index.proofs.ListLemmas.{if_ok_so}
use Rattle.reference_world.proofs.ChangeLemmas.{entries_put, entries_removed}
use Rattle.reference_world.proofs.dump.set_row.Goals as goal

pub returns-in-Some : goal.returns-in-Some
returns-in-Some c = λ m h. if_ok_so c.with_row.result c.with_row.ensures (λ v p. p ∙ ap (put key_cmp (lent_key c.args.key) c.in-Some.bytes.now) h
    ∙ entries_put m (lent_key c.args.key) c.in-Some.bytes.now ∙ ap (λ o. entries (set_key m (lent_key c.args.key) (lent_value o))) (sym c.in-Some.is))

pub returns-in-None : goal.returns-in-None
returns-in-None c = λ m h. if_ok_so c.without_row.result c.without_row.ensures (λ v p. p ∙ ap (where_key key_cmp (is_other (lent_key c.args.key))) h
    ∙ entries_removed m (lent_key c.args.key) ∙ ap (λ o. entries (set_key m (lent_key c.args.key) (lent_value o))) (sym c.in-None.is))
