use Rattle.std.proofs.Common.{sym, ◌∙◌}
use Rattle.script_lang.specs.script_model.Statements.{ByLabel}
use Rattle.tm_types.specs.Branches.{branch_of}
use Rattle.transcript.specs.Forms.{line_of}
use Rattle.vms_base.specs.Ids.{id_of}
use Rattle.emitter_model.specs.commit_protocol.Table.{find, first}
use Rattle.node_table.specs.Code.{up_of}
use Rattle.node_table.specs.Standing.{Up}
use Rattle.node_requests.proofs.Adding.{add_done, add_full, add_inactive, add_missing, add_unlabelled, adds_allowed}
use Rattle.node_requests.proofs.Beginning.{authorises_surely}
use Rattle.node_requests.proofs.Drawn.{drawn_up, draws}
use Rattle.node_requests.proofs.Starting.{made_free}
use Rattle.node_requests.proofs.Statements.{named_again}
use Rattle.node_requests.proofs.transactions.add_branch.Goals as goal

pub returns-then-not-may_relate-clause-does : goal.returns-then-not-may_relate-clause-does
returns-then-not-may_relate-clause-does g c =
    let old : Up = up_of g.U.RecoveryUnits.state c.args.running.now in
    add_unlabelled c.args.label.now c.args.other c.args.new.now c.args.clock.0 old c.args.shared.now _ _ c.requires.may.up c.emit.ensures.since c.emit.ensures.emits (c.may_relate.ensures.no c.if-not-may_relate.true)

pub returns-in-Err-clause-does : goal.returns-in-Err-clause-does
returns-in-Err-clause-does g c =
    let old : Up = up_of g.U.RecoveryUnits.state c.args.running.now in
    let named = c.may_relate.ensures.yes c.if-not-may_relate.false in
    add_missing c.args.label.now c.args.other c.args.new.now c.args.clock.0 old c.args.shared.now _ _ c.requires.may.up named.0 (made_free _ _ (named.1, named.2)) (line_of c.in-Err.form) c.emit-in-Err.ensures.since c.emit-in-Err.ensures.emits c.in-Err.ensures.refused

pub returns-then-not-is_first_active-clause-does : goal.returns-then-not-is_first_active-clause-does
returns-then-not-is_first_active-clause-does g c =
    let old : Up = up_of g.U.RecoveryUnits.state c.args.running.now in
    let named = c.may_relate.ensures.yes c.if-not-may_relate.false in
    add_inactive c.args.label.now c.args.other c.args.new.now c.args.clock.0 old c.args.shared.now _ _ c.requires.may.up named.0 (made_free _ _ (named.1, named.2)) (branch_of c.in-Ok.branch.now) c.in-Ok.ensures.found
    c.emit-then-not-is_first_active.ensures.since c.emit-then-not-is_first_active.ensures.emits (sym c.is_first_active.ensures ∙ c.if-not-is_first_active.true)

pub returns-then-are_bids_full-clause-does : goal.returns-then-are_bids_full-clause-does
returns-then-are_bids_full-clause-does g c =
    let old : Up = up_of g.U.RecoveryUnits.state c.args.running.now in
    let named = c.may_relate.ensures.yes c.if-not-may_relate.false in
    add_full c.args.label.now c.args.other c.args.new.now c.args.clock.0 old c.args.shared.now _ _ c.requires.may.up named.0 (made_free _ _ (named.1, named.2)) (branch_of c.in-Ok.branch.now) c.in-Ok.ensures.found (sym c.is_first_active.ensures ∙ c.if-not-is_first_active.false)
    c.emit-then-are_bids_full.ensures.since c.emit-then-are_bids_full.ensures.emits (sym c.are_bids_full.ensures ∙ c.if-are_bids_full.true)

pub tell-requires-clause-up : goal.tell-requires-clause-up
tell-requires-clause-up g c = drawn_up (up_of g.U.RecoveryUnits.state c.args.running.now) c.requires.may.up

pub tell-requires-clause-allowed : goal.tell-requires-clause-allowed
tell-requires-clause-allowed g c =
    let old : Up = up_of g.U.RecoveryUnits.state c.args.running.now in
    let x = branch_of c.in-Ok.branch.now in
    adds_allowed old.tm.table x (named_again (ByLabel c.args.label.now) old c.args.shared.now.labels x c.in-Ok.ensures.found) (sym c.is_first_active.ensures ∙ c.if-not-is_first_active.false) (sym c.are_bids_full.ensures ∙ c.if-are_bids_full.false)

pub returns-in-Err-tell-clause-does : goal.returns-in-Err-tell-clause-does
returns-in-Err-tell-clause-does g c = absurd (authorises_surely _ (find (first _) _) _ c.in-Err-tell.ensures.keeps.uses)

pub returns-in-Ok-tell-clause-does : goal.returns-in-Ok-tell-clause-does
returns-in-Ok-tell-clause-does g c =
    let old : Up = up_of g.U.RecoveryUnits.state c.args.running.now in
    let named = c.may_relate.ensures.yes c.if-not-may_relate.false in
    add_done c.args.label.now c.args.other c.args.new.now c.args.clock.0 old c.args.shared.now _ _ c.requires.may.up named.0 (made_free _ _ (named.1, named.2)) (branch_of c.in-Ok.branch.now) c.in-Ok.ensures.found (sym c.is_first_active.ensures ∙ c.if-not-is_first_active.false)
    (sym c.are_bids_full.ensures ∙ c.if-are_bids_full.false) c.the_laws.ensures.rows (draws c.the_laws.ensures.nodes c.args.clock.0 old) (up_of g.U.RecoveryUnits.state c.tell.new.self) c.tell.new.shared
    (id_of c.next_id.result) c.next_id.ensures _ c.emit-in-Ok-tell.ensures.since c.emit-in-Ok-tell.ensures.emits c.make.new.self c.make.ensures c.in-Ok-tell.ensures.keeps c.in-Ok-tell.ensures.does
