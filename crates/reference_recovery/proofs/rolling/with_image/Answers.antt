use Rattle.std.proofs.Common.{ap, sym, ◌∙◌}
use Rattle.std.specs.FinMap.{entries}
use Rattle.records_model.specs.Records.{set_key}
use Rattle.vms_base.specs.Ids.{id_of}
use Rattle.reference_index.specs.Standing.{key_of, lent_value}
use Rattle.reference_index.proofs.ListLemmas.{if_ok_so}
use Rattle.reference_recovery.specs.Chosen.{picked}
use Rattle.reference_recovery.proofs.RollingLemmas.{chosen_sets, others_stay}
use Rattle.reference_recovery.proofs.rolling.with_image.Goals as goal

pub returns-then-is_chosen : goal.returns-then-is_chosen
returns-then-is_chosen c = λ m h.
    let p = picked c.args.chosen c.args.all.now in
    if_ok_so c.set_row.result (c.set_row.ensures m h) (λ v q. q ∙ ap entries (ap (λ k. set_key m k (lent_value c.lend_value.result)) c.lend.ensures ∙ ap (set_key m (key_of c.in-Changed.key)) c.lend_value.ensures
    ∙ sym (chosen_sets p (id_of c.args.e.now.branch.serial) c.args.e.now.image c.in-Changed.key c.in-Changed.value m c.in-Changed.is (sym c.is_chosen.ensures ∙ c.if-is_chosen.true))))

pub returns-else-is_chosen : goal.returns-else-is_chosen
returns-else-is_chosen c = λ m h.
    let p = picked c.args.chosen c.args.all.now in
    if_ok_so c.same_rows.result (c.same_rows.ensures m h) (λ v q. q
    ∙ ap entries (sym (others_stay p (id_of c.args.e.now.branch.serial) c.args.e.now.image c.in-Changed.key c.in-Changed.value m c.in-Changed.is (sym c.is_chosen.ensures ∙ c.if-is_chosen.false))))
