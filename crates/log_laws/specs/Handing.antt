-- A row's effects are handed on one by one: before each of them the node has done a front of the row's acts, and the effect is that of the next.
use Rattle.std.specs.Prelude.{◌≡◌, List, [], ◌∷◌, ◌++◌}
use Rattle.commit_protocol.specs.Messages.{LogRecord}
use Rattle.commit_protocol.specs.Table.{Act, records_after}
use Rattle.commit_protocol.specs.Effects.{Effect, act_effects, effects_of}

-- the committed records after these acts
abbrev pub records_after_all : List Act → List LogRecord → List LogRecord
records_after_all [] rs = rs
records_after_all (a ∷ acts) rs = records_after_all acts (records_after a rs)

-- one effect of a row, between those before it and those after it
pub record HandsOn (acts : List Act) (rs : List LogRecord) (before : List Effect) (e : Effect) (after : List Effect) : Type 0 where
  pub done : List Act
  pub act : Act
  pub rest : List Act
  pub parts : acts ≡ done ++ act ∷ rest
  pub gave : effects_of done rs ≡ before
  pub gives : act_effects act (records_after_all done rs) ≡ e ∷ []
  pub left : effects_of rest (records_after act (records_after_all done rs)) ≡ after

-- each effect of a row is one of an act
abbrev pub EffectsAreActs : Type 0
EffectsAreActs = (acts : List Act) (rs : List LogRecord) (before : List Effect) (e : Effect) (after : List Effect) → effects_of acts rs ≡ before ++ e ∷ after → HandsOn acts rs before e after
