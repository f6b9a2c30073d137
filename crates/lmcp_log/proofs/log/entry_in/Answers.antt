use Rattle.lmcp_log.proofs.log.entry_in.Goals as goal

pub returns-then-begins_free : goal.returns-then-begins_free
returns-then-begins_free c = λ r. ((λ e. (let f : ⊥ = cc in absurd f)), (λ p. absurd (c.begins_free.ensures c.if-begins_free.true r p.0 p.1)))
