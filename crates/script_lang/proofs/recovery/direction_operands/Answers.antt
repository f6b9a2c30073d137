use Rattle.script_lang.proofs.recovery.direction_operands.Goals as goal

pub returns-in-AfterImages : goal.returns-in-AfterImages
returns-in-AfterImages c = λ lit. rw c.in-AfterImages.is (c.forward_operands.ensures lit)

pub returns-in-BeforeImages : goal.returns-in-BeforeImages
returns-in-BeforeImages c = λ lit. rw c.in-BeforeImages.is (c.backward_operands.ensures lit)
