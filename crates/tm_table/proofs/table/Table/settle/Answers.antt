use Rattle.std.proofs.Common.{◌++◌, ◌∷◌, [], List, ap, ◌∙◌}
use Rattle.std.specs.Option.{option_map}
use Rattle.commit_protocol.specs.Table.{Settles, Tm, add_record}
use Rattle.commit_protocol.specs.Effects.{Effect, SettleEffect}
use Rattle.tm_types.specs.Branches.{key_at}
use Rattle.tm_types.specs.Parts.{log_record_of}
use Rattle.vms_base.specs.Outcomes.{outcome_of, reason_of}
use Rattle.tm_table.proofs.DoingLemmas.{did_by}
use Rattle.tm_table.proofs.table.Table.settle.Goals as goal

pub returns-clause-done : goal.returns-clause-done
returns-clause-done c =
    let s = c.args.self.now in
    let k = key_at c.args.tid.now c.args.serial.now in
    let r = option_map log_record_of c.args.rec in
    let G : Tm → Tm = λ t. record t { records = add_record r t.records } in
    did_by (Settles k (outcome_of c.args.outcome) (reason_of c.args.reason) r) s c.push.new.self
    (c.push.ensures.tm ∙ (c.add_record.ensures.tm ∙ ap G c.cut.ensures.tm))
    (c.push.ensures.effects ∙ ap (λ (es : List Effect). es ++ SettleEffect k.serial (outcome_of c.args.outcome) (reason_of c.args.reason) r ∷ []) (c.add_record.ensures.effects ∙ c.cut.ensures.effects))
