use Rattle.std.proofs.Common.{◌++◌, List, ap, ◌∙◌}
use Rattle.commit_protocol.specs.Table.{Tm, after}
use Rattle.commit_protocol.specs.Rows.{row}
use Rattle.commit_protocol.specs.Effects.{Effect, effects_of}
use Rattle.tm_types.specs.Events.{event_of}
use Rattle.tm_table.specs.Doing.{Doing}
use Rattle.tm_table.proofs.DoingLemmas.{does_is}
use Rattle.tm_table.proofs.tm.Tm.step.Goals as goal

pub returns-clause-table : goal.returns-clause-table
returns-clause-table c =
    let e = event_of c.args.event.now in
    let s = c.clear.new.self in
    c.exchange.ensures.tm ∙ (ap (λ (z : Doing). z.tm) (c.take_row.ensures ∙ does_is (row s.tm e) s) ∙ ap (λ (tm : Tm). after (row tm e) tm) (c.clear.ensures.tm ∙ c.self.view_is))

pub returns-clause-effects : goal.returns-clause-effects
returns-clause-effects c =
    let e = event_of c.args.event.now in
    let s = c.clear.new.self in
    c.exchange.ensures.effects ∙ (ap (λ (z : Doing). z.effects) (c.take_row.ensures ∙ does_is (row s.tm e) s) ∙ (ap (λ (es : List Effect). es ++ effects_of (row s.tm e) s.tm.records) c.clear.ensures.effects ∙ ap (λ (tm : Tm). effects_of (row tm e) tm.records) (c.clear.ensures.tm ∙ c.self.view_is)))
