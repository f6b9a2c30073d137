use Rattle.std.proofs.Common.{◌≡◌, ◌≤◌, ap, subst, sym, ◌∙◌, length, map}
use Rattle.log_laws.specs.commit_protocol.Agreement.{Distinct}
use Rattle.log_laws.specs.commit_protocol.Messages.{LogRecord}
use Rattle.log_laws.specs.commit_protocol.Table.{record_serials}
use Rattle.log_laws.specs.commit_protocol.World.{In}
use Rattle.log_laws.specs.Slots.{Slots, prepared_of, records_in}
use Rattle.lmcp_log.specs.Log.{slot_of, with_few_prepared}
use Rattle.lmcp_log.proofs.Few.{few_distinct, few_in, few_left, few_long, few_same}
use Rattle.lmcp_log.proofs.log.Log.pass_over.Goals as goal

pub returns-clause-slots : goal.returns-clause-slots
returns-clause-slots c = c.pass_over.ensures.slots ∙ ap (with_few_prepared c.args.most) c.self.view_is

pub returns-clause-few : goal.returns-clause-few
returns-clause-few c = subst (λ (ss : Slots). length (prepared_of (records_in ss)) ≤ c.args.most) (sym (c.pass_over.ensures.slots ∙ ap (with_few_prepared c.args.most) c.self.view_is)) (few_left c.args.most c.args.self.now)

pub returns-clause-same : goal.returns-clause-same
returns-clause-same c = λ few. c.pass_over.ensures.slots ∙ ap (with_few_prepared c.args.most) c.self.view_is ∙ few_same c.args.most c.args.self.now few

pub returns-clause-count : goal.returns-clause-count
returns-clause-count c = ap length (c.pass_over.ensures.slots ∙ ap (with_few_prepared c.args.most) c.self.view_is) ∙ few_long c.args.most c.args.self.now

pub returns-clause-records : goal.returns-clause-records
returns-clause-records c = λ r. subst (λ (ss : Slots). In r (records_in ss) → In r (records_in c.args.self.now)) (sym (c.pass_over.ensures.slots ∙ ap (with_few_prepared c.args.most) c.self.view_is)) (few_in c.args.most c.args.self.now r)

pub returns-clause-distinct : goal.returns-clause-distinct
returns-clause-distinct c = λ apart. subst (λ (ss : Slots). Distinct (record_serials (records_in ss))) (sym (c.pass_over.ensures.slots ∙ ap (with_few_prepared c.args.most) c.self.view_is)) (few_distinct c.args.most c.args.self.now apart)
