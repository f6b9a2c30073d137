use Rattle.std.proofs.Common.{ap, not, refl, sym, ◌∙◌}
use Rattle.emitter_model.specs.commit_protocol.Rows as rows
use Rattle.emitter_model.specs.commit_protocol.Table.{Branch}
use Rattle.script_lang.specs.script_model.Statements as said
use Rattle.script_lang.specs.script_model.Statements.{ByLabel}
use Rattle.tm_types.specs.Branches.{branch_of}
use Rattle.transcript.specs.Forms.{line_of}
use Rattle.emitter_model.specs.transcript_model.Lines as line
use Rattle.vms_model.specs.Transactions.{Aborted}
use Rattle.world_laws.specs.run_model.Answers.{is_open}
use Rattle.node_table.specs.Code.{up_of}
use Rattle.node_requests.proofs.Statements.{allowed_serial, asked_fails, asked_serves, missing_refuses, named_again, state_refuses, aborts_trans}
use Rattle.node_requests.proofs.transactions.abort.Goals as goal

pub returns-in-Err-clause-does : goal.returns-in-Err-clause-does
returns-in-Err-clause-does g c = missing_refuses (said.AbortTrans c.args.label.now) (ByLabel c.args.label.now) is_open (λ (b : Branch). rows.AbortBranch b.key.serial Aborted) (aborts_trans c.args.label.now) c.args.clock.0 (up_of g.U.RecoveryUnits.state c.args.running.now) c.args.shared.now _ _ (line_of c.in-Err.form) c.requires.may.up c.emit.ensures.since c.emit.ensures.emits c.in-Err.ensures.refused

pub returns-then-is_prepared-clause-does : goal.returns-then-is_prepared-clause-does
returns-then-is_prepared-clause-does g c = state_refuses (said.AbortTrans c.args.label.now) (ByLabel c.args.label.now) is_open (λ (b : Branch). rows.AbortBranch b.key.serial Aborted) (aborts_trans c.args.label.now) c.args.clock.0 (up_of g.U.RecoveryUnits.state c.args.running.now) c.args.shared.now _ _ (branch_of c.in-Ok.branch.now) c.in-Ok.ensures.made c.in-Ok.ensures.found c.requires.may.up c.emit-then-is_prepared.ensures.since c.emit-then-is_prepared.ensures.emits (ap not (sym c.is_prepared.ensures ∙ c.if-is_prepared.true))

pub tell-requires-clause-allowed : goal.tell-requires-clause-allowed
tell-requires-clause-allowed g c = allowed_serial _ _ (branch_of c.in-Ok.branch.now) is_open (named_again (ByLabel c.args.label.now) (up_of g.U.RecoveryUnits.state c.args.running.now) c.args.shared.now.labels (branch_of c.in-Ok.branch.now) c.in-Ok.ensures.found) (ap not (sym c.is_prepared.ensures ∙ c.if-is_prepared.false))

pub returns-in-Err-tell-clause-does : goal.returns-in-Err-tell-clause-does
returns-in-Err-tell-clause-does g c = asked_fails (said.AbortTrans c.args.label.now) (ByLabel c.args.label.now) is_open (λ (b : Branch). rows.AbortBranch b.key.serial Aborted) (aborts_trans c.args.label.now) c.args.clock.0 (up_of g.U.RecoveryUnits.state c.args.running.now) c.args.shared.now _ _ (branch_of c.in-Ok.branch.now) c.in-Ok.ensures.made c.in-Ok.ensures.found (ap not (sym c.is_prepared.ensures ∙ c.if-is_prepared.false)) c.the_laws.ensures.rows (up_of g.U.RecoveryUnits.state c.tell.new.self) c.tell.new.shared c.in-Err-tell.down refl c.in-Err-tell.ensures.keeps c.in-Err-tell.ensures.does

pub returns-in-Ok-tell-clause-does : goal.returns-in-Ok-tell-clause-does
returns-in-Ok-tell-clause-does g c = asked_serves (said.AbortTrans c.args.label.now) (ByLabel c.args.label.now) is_open (λ (b : Branch). rows.AbortBranch b.key.serial Aborted) (aborts_trans c.args.label.now) c.args.clock.0 (up_of g.U.RecoveryUnits.state c.args.running.now) c.args.shared.now _ _ (branch_of c.in-Ok.branch.now) c.in-Ok.ensures.made c.in-Ok.ensures.found (ap not (sym c.is_prepared.ensures ∙ c.if-is_prepared.false)) c.the_laws.ensures.rows (up_of g.U.RecoveryUnits.state c.tell.new.self) c.tell.new.shared _ line.Normal c.emit-in-Ok-tell.ensures.since c.emit-in-Ok-tell.ensures.emits (λ s. refl) refl c.in-Ok-tell.ensures.keeps c.in-Ok-tell.ensures.does (λ s n h share kept stands. refl)
