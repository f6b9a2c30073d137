use Rattle.unit_votes.proofs.Tied as tied
use Rattle.unit_votes.proofs.law.units_and_log_hang_together.Goals as goal

pub returns-clause-begins : goal.returns-clause-begins
returns-clause-begins c = λ places ss p tid serial t below free none new. tied.begins places ss p t tid serial below free none new

pub returns-clause-changes : goal.returns-clause-changes
returns-clause-changes c = λ places ss p u w t at same. tied.changes places ss p t u at w same

pub returns-clause-prepares : goal.returns-clause-prepares
returns-clause-prepares c = λ places ss p u rms t at active free. tied.prepares places ss p t u at rms active free

pub returns-clause-settles : goal.returns-clause-settles
returns-clause-settles c = λ places ss p u rec t at outcome. tied.settles places ss p t u rec at outcome

pub returns-clause-keeps : goal.returns-clause-keeps
returns-clause-keeps c = λ places ss serial rec t none outcome. tied.keeps places ss 0 t serial rec none outcome
