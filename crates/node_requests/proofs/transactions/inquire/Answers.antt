use Rattle.std.proofs.Common.{refl, sym, ◌∙◌}
use Rattle.emitter_model.specs.commit_protocol.Rows as rows
use Rattle.emitter_model.specs.commit_protocol.Table.{Branch}
use Rattle.script_lang.specs.Statements.{named_of}
use Rattle.script_lang.specs.script_model.Statements as said
use Rattle.tm_types.specs.Branches.{branch_of}
use Rattle.transcript.specs.Forms.{line_of}
use Rattle.emitter_model.specs.transcript_model.Lines as line
use Rattle.world_laws.specs.run_model.Answers.{is_in_doubt}
use Rattle.node_table.specs.Code.{up_of}
use Rattle.node_requests.proofs.Statements.{allowed_serial, asked_serves, inquires, missing_refuses, named_again, named_made, state_refuses}
use Rattle.emitter_model.specs.commit_protocol.Table.{find_serial}
use Rattle.node_requests.proofs.Statements.{asks_surely}
use Rattle.node_requests.proofs.transactions.inquire.Goals as goal

pub returns-in-Err-clause-does : goal.returns-in-Err-clause-does
returns-in-Err-clause-does g c = missing_refuses (said.Inquire (named_of c.args.who.now)) (named_of c.args.who.now) is_in_doubt (λ (b : Branch). rows.InquireBranch b.key.serial) (inquires (named_of c.args.who.now)) c.args.clock.0 (up_of g.U.RecoveryUnits.state c.args.running.now) c.args.shared.now _ _ (line_of c.in-Err.form) c.requires.may.up c.emit.ensures.since c.emit.ensures.emits c.in-Err.ensures.refused

pub returns-then-not-is_prepared-clause-does : goal.returns-then-not-is_prepared-clause-does
returns-then-not-is_prepared-clause-does g c = state_refuses (said.Inquire (named_of c.args.who.now)) (named_of c.args.who.now) is_in_doubt (λ (b : Branch). rows.InquireBranch b.key.serial) (inquires (named_of c.args.who.now)) c.args.clock.0 (up_of g.U.RecoveryUnits.state c.args.running.now) c.args.shared.now _ _ (branch_of c.in-Ok.branch.now) (named_made (named_of c.args.who.now) (up_of g.U.RecoveryUnits.state c.args.running.now) c.args.shared.now.labels c.in-Ok.ensures.made) c.in-Ok.ensures.found c.requires.may.up c.emit-then-not-is_prepared.ensures.since c.emit-then-not-is_prepared.ensures.emits (sym c.is_prepared.ensures ∙ c.if-not-is_prepared.true)

pub tell-requires-clause-allowed : goal.tell-requires-clause-allowed
tell-requires-clause-allowed g c = allowed_serial _ _ (branch_of c.in-Ok.branch.now) is_in_doubt (named_again (named_of c.args.who.now) (up_of g.U.RecoveryUnits.state c.args.running.now) c.args.shared.now.labels (branch_of c.in-Ok.branch.now) c.in-Ok.ensures.found) (sym c.is_prepared.ensures ∙ c.if-not-is_prepared.false)

pub returns-in-Err-tell-clause-does : goal.returns-in-Err-tell-clause-does
returns-in-Err-tell-clause-does g c = absurd (asks_surely (find_serial _ _) _ c.in-Err-tell.ensures.keeps.uses)

pub returns-in-Ok-tell-clause-does : goal.returns-in-Ok-tell-clause-does
returns-in-Ok-tell-clause-does g c = asked_serves (said.Inquire (named_of c.args.who.now)) (named_of c.args.who.now) is_in_doubt (λ (b : Branch). rows.InquireBranch b.key.serial) (inquires (named_of c.args.who.now)) c.args.clock.0 (up_of g.U.RecoveryUnits.state c.args.running.now) c.args.shared.now _ _ (branch_of c.in-Ok.branch.now) (named_made (named_of c.args.who.now) (up_of g.U.RecoveryUnits.state c.args.running.now) c.args.shared.now.labels c.in-Ok.ensures.made) c.in-Ok.ensures.found (sym c.is_prepared.ensures ∙ c.if-not-is_prepared.false) c.the_laws.ensures.rows (up_of g.U.RecoveryUnits.state c.tell.new.self) c.tell.new.shared _ line.Normal c.emit-in-Ok-tell.ensures.since c.emit-in-Ok-tell.ensures.emits (λ s. refl) refl c.in-Ok-tell.ensures.keeps c.in-Ok-tell.ensures.does (λ s n h share kept stands. refl)

pub emit-requires : goal.emit-requires
emit-requires g c = c.in-Err.ensures.time
