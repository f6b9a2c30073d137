use Rattle.run_chains.proofs.Lasts.{lasts_stay_apart}
use Rattle.run_chains.proofs.Next.{agreeing_are_new, chains_agree, next_runs_agree}
use Rattle.run_chains.proofs.runs_follow_one_another.Goals as goal

pub returns-clause-lasts : goal.returns-clause-lasts
returns-clause-lasts c = lasts_stay_apart

pub returns-clause-next : goal.returns-clause-next
returns-clause-next c = next_runs_agree c.promises_hold.ensures.agreed

pub returns-clause-chains : goal.returns-clause-chains
returns-clause-chains c = chains_agree c.promises_hold.ensures.agreed

pub returns-clause-new : goal.returns-clause-new
returns-clause-new c = agreeing_are_new
