use Rattle.std.proofs.Common.{◌≡◌, ◌+◌, List, [], map, refl, sym, ◌∙◌, ap}
use Rattle.day_model.specs.Draws.{below, next}
use Rattle.day_model.specs.Pieces.{transaction}
use Rattle.day_script.specs.Steps.{piece_of}
use Rattle.day_script.specs.declared.script.DayScript.{DayScript}
use Rattle.day_script.proofs.Going.{begins, closes}
use Rattle.day_script.proofs.script.DayScript.go_on.Goals as goal

pub returns-then-self-eq0-clause-ahead : goal.returns-then-self-eq0-clause-ahead
returns-then-self-eq0-clause-ahead c =
    let s = c.args.self.now in
    closes s.steps.now s.number s.key s.left s.drawn s.closed c.requires c.if-self.false _ c.if-self-eq0.true (c.closing-self.ensures s.number s.key)

pub returns-clause-ahead : goal.returns-clause-ahead
returns-clause-ahead c =
    let s = c.args.self.now in
    let one = c.draw.ensures.drawn in
    let two = c.draw-choice.ensures.drawn in
    let n = c.draw-choice.new.self in
    let first = ap (λ (x : DayScript). x.drawn) one in
    let drawn = ap (λ (x : DayScript). x.drawn) two ∙ ap next first in
    begins s.steps.now s.number s.key s.left s.drawn s.closed c.requires c.if-self.false _ n.number n.key n.left n.drawn c.draw-choice.result n.closed c.if-self-eq0.false
    (ap (λ (x : DayScript). x.number) two ∙ ap (λ (x : DayScript). x.number) one)
    (ap (λ (x : DayScript). x.left) two ∙ ap (λ (x : DayScript). x.left) one)
    (ap (λ (x : DayScript). x.key) two ∙ ap (λ k. k + 1) (c.draw.ensures.value ∙ ap (below 200) first))
    drawn
    (c.draw-choice.ensures.value ∙ ap (below 10) drawn)
    (ap (λ (x : DayScript). x.closed) two ∙ ap (λ (x : DayScript). x.closed) one ∙ c.if-self.false)
    (c.transaction-self.ensures n.number n.key)

pub returns-clause-over : goal.returns-clause-over
returns-clause-over c = λ e.
    let n = c.draw-choice.new.self in
    let same : [] ≡ transaction n.number n.key c.draw-choice.result = sym (ap (λ ss. map (piece_of n.number n.key) ss) e) ∙ c.transaction-self.ensures n.number n.key in
    let none : ⊥ = cc in
    absurd none
