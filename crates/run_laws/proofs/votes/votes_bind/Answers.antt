use Rattle.run_laws.proofs.RecordedRuns.{booted_hold}
use Rattle.run_laws.proofs.OthersPrepared.{others_hold}
use Rattle.run_laws.proofs.PreparedCaused.{leaves_caused_hold, votes_caused_hold}
use Rattle.run_laws.proofs.PreparedRuns.{prepared_hold}
use Rattle.run_laws.proofs.ReadOnlyRuns.{read_only_hold}
use Rattle.run_laws.proofs.votes.votes_bind.Goals as goal

pub returns-clause-prepared : goal.returns-clause-prepared
returns-clause-prepared c = prepared_hold

pub returns-clause-leaving : goal.returns-clause-leaving
returns-clause-leaving c = read_only_hold

pub returns-clause-booted : goal.returns-clause-booted
returns-clause-booted c = booted_hold

pub returns-clause-others : goal.returns-clause-others
returns-clause-others c = others_hold

pub returns-clause-votes : goal.returns-clause-votes
returns-clause-votes c = votes_caused_hold

pub returns-clause-leaves : goal.returns-clause-leaves
returns-clause-leaves c = leaves_caused_hold
