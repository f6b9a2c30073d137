use Rattle.std.proofs.Common.{map, refl, sym, ◌∙◌}
use Rattle.emitter_model.specs.commit_protocol.Rows as rows
use Rattle.emitter_model.specs.commit_protocol.Table.{Branch}
use Rattle.script_lang.specs.script_model.Statements as said
use Rattle.script_lang.specs.script_model.Statements.{ByLabel}
use Rattle.tm_types.specs.Branches.{branch_of}
use Rattle.tm_types.specs.Effects.{effect_of}
use Rattle.transcript.specs.Forms.{line_of}
use Rattle.world_laws.specs.run_model.Answers.{is_first_active}
use Rattle.node_table.specs.Code.{up_of}
use Rattle.node_table.specs.Standing.{Up}
use Rattle.node_requests.specs.Transacting.{ended_in}
use Rattle.node_requests.proofs.Ending.{calm_ended, end_is, ends_allowed}
use Rattle.node_requests.proofs.Statements.{asked_fails, asked_serves, ends_trans, missing_refuses, named_again, state_refuses}
use Rattle.node_requests.proofs.transactions.end.Goals as goal

pub returns-in-Err-clause-does : goal.returns-in-Err-clause-does
returns-in-Err-clause-does g c =
    let label = c.args.label.now in
    let old : Up = up_of g.U.RecoveryUnits.state c.args.running.now in
    missing_refuses (said.EndTrans label) (ByLabel label) is_first_active (λ (b : Branch). rows.EndTrans b.key.tid) (ends_trans label) c.args.clock.0 old c.args.shared.now _ _ (line_of c.in-Err.form) c.requires.may.up c.emit.ensures.since c.emit.ensures.emits c.in-Err.ensures.refused

pub returns-then-not-is_first_active-clause-does : goal.returns-then-not-is_first_active-clause-does
returns-then-not-is_first_active-clause-does g c =
    let label = c.args.label.now in
    let old : Up = up_of g.U.RecoveryUnits.state c.args.running.now in
    state_refuses (said.EndTrans label) (ByLabel label) is_first_active (λ (b : Branch). rows.EndTrans b.key.tid) (ends_trans label) c.args.clock.0 old c.args.shared.now _ _ (branch_of c.in-Ok.branch.now) c.in-Ok.ensures.made c.in-Ok.ensures.found c.requires.may.up
    c.emit-then-not-is_first_active.ensures.since c.emit-then-not-is_first_active.ensures.emits (sym c.is_first_active.ensures ∙ c.if-not-is_first_active.true)

pub tell-requires-clause-allowed : goal.tell-requires-clause-allowed
tell-requires-clause-allowed g c =
    let old : Up = up_of g.U.RecoveryUnits.state c.args.running.now in
    let x = branch_of c.in-Ok.branch.now in
    ends_allowed old.tm.table x (named_again (ByLabel c.args.label.now) old c.args.shared.now.labels x c.in-Ok.ensures.found) (sym c.is_first_active.ensures ∙ c.if-not-is_first_active.false)

pub returns-in-Err-tell-clause-does : goal.returns-in-Err-tell-clause-does
returns-in-Err-tell-clause-does g c =
    let label = c.args.label.now in
    let old : Up = up_of g.U.RecoveryUnits.state c.args.running.now in
    asked_fails (said.EndTrans label) (ByLabel label) is_first_active (λ (b : Branch). rows.EndTrans b.key.tid) (ends_trans label) c.args.clock.0 old c.args.shared.now _ _ (branch_of c.in-Ok.branch.now) c.in-Ok.ensures.made c.in-Ok.ensures.found (sym c.is_first_active.ensures ∙ c.if-not-is_first_active.false)
    c.the_laws.ensures.rows (up_of g.U.RecoveryUnits.state c.tell.new.self) c.tell.new.shared c.in-Err-tell.down refl c.in-Err-tell.ensures.keeps c.in-Err-tell.ensures.does

pub returns-in-Ok-tell-clause-does : goal.returns-in-Ok-tell-clause-does
returns-in-Ok-tell-clause-does g c =
    let label = c.args.label.now in
    let old : Up = up_of g.U.RecoveryUnits.state c.args.running.now in
    let x = branch_of c.in-Ok.branch.now in
    let first = sym c.is_first_active.ensures ∙ c.if-not-is_first_active.false in
    let effects = map effect_of c.tell.new.self.effects in
    let calm = calm_ended x.key.tid effects c.tell.new.self.table.table in
    asked_serves (said.EndTrans label) (ByLabel label) is_first_active (λ (b : Branch). rows.EndTrans b.key.tid) (ends_trans label) c.args.clock.0 old c.args.shared.now _ _ x c.in-Ok.ensures.made c.in-Ok.ensures.found first
    c.the_laws.ensures.rows (up_of g.U.RecoveryUnits.state c.tell.new.self) c.tell.new.shared _ (ended_in x.key.tid effects c.tell.new.self.table.table) c.show_ending.ensures.since c.show_ending.ensures.shows calm.quiet calm.other c.in-Ok-tell.ensures.keeps c.in-Ok-tell.ensures.does
    (λ s n h share kept stands. end_is label c.args.clock.0 old c.args.shared.now x c.in-Ok.ensures.found first effects c.tell.new.self.table c.tell.ensures.effects c.tell.ensures.table s n h share)
