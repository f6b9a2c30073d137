use Rattle.run_laws.proofs.Forgetting.{inits_forget}
use Rattle.run_laws.proofs.Headline.{agreed_promises, kept_promises}
use Rattle.run_laws.proofs.promises.promises_hold.Goals as goal

pub returns-clause-kept : goal.returns-clause-kept
returns-clause-kept c = kept_promises

pub returns-clause-forget : goal.returns-clause-forget
returns-clause-forget c = inits_forget

pub returns-clause-agreed : goal.returns-clause-agreed
returns-clause-agreed c =
    agreed_promises c.branches_agree.ensures.alike c.branches_agree.ensures.committed c.branches_agree.ensures.images c.outcomes_stay.ensures.whole c.settling_leaves_none.ensures.none c.settling_leaves_none.ensures.ends
