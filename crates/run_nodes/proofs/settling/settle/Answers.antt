use Rattle.std.proofs.Common.{◌≤◌, length, refl, sym, ◌∙◌, ap, subst, arith}
use Rattle.emitter_model.specs.transcript_model.Lines.{Normal}
use Rattle.script_lang.specs.script_model.Statements.{Settle}
use Rattle.said_steps.specs.run_model.Statements.{begun_with}
use Rattle.dtm_node.specs.run_shared.Sharing.{SharedState}
use Rattle.run_nodes.specs.Held.{kept_all, names_of}
use Rattle.run_nodes.specs.Names.{AreApart}
use Rattle.run_nodes.specs.Phases.{Enters}
use Rattle.run_nodes.specs.Together.{AnswersTogether}
use Rattle.run_nodes.specs.Told.{RestartsTold, TurnOver, TurnTold, kept_names}
use Rattle.run_nodes.proofs.Entries.{same_names, shared_nodes}
use Rattle.run_nodes.proofs.Loops.{told_behind}
use Rattle.run_nodes.proofs.Places.{world_apart}
use Rattle.run_nodes.proofs.Restarts.{answer_over, turn_over}
use Rattle.run_nodes.proofs.Worlds.{all_told, done_settling, ended_asking, ended_restarting, ended_running_down, settle_enters}
use Rattle.run_nodes.proofs.settling.settle.Goals as goal

pub restart_all-requires-clause-nodes : goal.restart_all-requires-clause-nodes
restart_all-requires-clause-nodes g c = (
  c.requires.nodes.0,
  c.requires.nodes.1,
  shared_nodes g.D.Disk.state g.U.RecoveryUnits.state c.requires.nodes.0 c.args.shared.now c.occupy.new.self c.args.nodes.now.nodes.entries (λ e. ap (λ (v : SharedState). v.in_use) c.occupy.ensures) c.requires.nodes.2,
)

pub restart_all-requires-clause-used : goal.restart_all-requires-clause-used
restart_all-requires-clause-used g c = ap (λ (v : SharedState). v.in_use) c.occupy.ensures

pub run_down_all-requires-clause-apart : goal.run_down_all-requires-clause-apart
run_down_all-requires-clause-apart g c = subst AreApart (sym c.restart_all.ensures.names) c.requires.apart

pub run_down_all-requires-clause-nodes : goal.run_down_all-requires-clause-nodes
run_down_all-requires-clause-nodes g c = (
  c.requires.nodes.0,
  c.requires.nodes.1,
  c.restart_all.ensures.nodes c.requires.nodes.0
      (shared_nodes g.D.Disk.state g.U.RecoveryUnits.state c.requires.nodes.0 c.args.shared.now c.occupy.new.self c.args.nodes.now.nodes.entries (λ e. ap (λ (v : SharedState). v.in_use) c.occupy.ensures) c.requires.nodes.2),
)

pub ask_all-requires-clause-apart : goal.ask_all-requires-clause-apart
ask_all-requires-clause-apart g c = subst AreApart (sym (c.run_down_all.ensures.names ∙ c.restart_all.ensures.names)) c.requires.apart

pub ask_all-requires-clause-nodes : goal.ask_all-requires-clause-nodes
ask_all-requires-clause-nodes g c = (
  c.requires.nodes.0,
  c.requires.nodes.1,
  c.run_down_all.ensures.nodes c.requires.nodes.0
      (c.restart_all.ensures.nodes c.requires.nodes.0
      (shared_nodes g.D.Disk.state g.U.RecoveryUnits.state c.requires.nodes.0 c.args.shared.now c.occupy.new.self c.args.nodes.now.nodes.entries (λ e. ap (λ (v : SharedState). v.in_use) c.occupy.ensures) c.requires.nodes.2)),
)

-- The boots end it.
pub returns-in-Over-clause-nodes : goal.returns-in-Over-clause-nodes
returns-in-Over-clause-nodes g c = λ count h. c.restart_all.ensures.nodes count
    (shared_nodes g.D.Disk.state g.U.RecoveryUnits.state count c.args.shared.now c.occupy.new.self c.args.nodes.now.nodes.entries (λ e. ap (λ (v : SharedState). v.in_use) c.occupy.ensures) h)

pub returns-in-Over-clause-tells : goal.returns-in-Over-clause-tells
returns-in-Over-clause-tells g c = c.in-Over.ensures.answered refl c.args.shared.now c.occupy.ensures

pub returns-in-Over-clause-serves : goal.returns-in-Over-clause-serves
returns-in-Over-clause-serves g c = λ logs w h kept never.
    let state = g.D.Disk.state in
    let units = g.U.RecoveryUnits.state in
    let ns = c.args.nodes.now in
    let s = c.args.shared.now in
    let ks = kept_all state units ns in
    let same = same_names state units c.requires.nodes.0 s ns.nodes.entries c.requires.nodes.2 in
    let apart = subst AreApart same c.requires.apart in
    let a = g.E.Emit.shows c.args.out.now in
    let x = g.E.Emit.shows c.restart_all.new.out in
    let ms = kept_all state units c.restart_all.new.nodes in
    let u = c.restart_all.new.shared in
    let enters = subst (λ v. Enters logs w (begun_with Settle w) ks v) (sym c.occupy.ensures) (settle_enters logs w ks s apart h kept) in
    let differ = world_apart logs ks s w h apart in
    let told = all_told w never in
    ended_restarting logs w a x ms u (c.in-Over.ensures.ended refl logs w enters differ told)

-- The run-down ends it.
pub returns-in-Over-run_down_all-clause-nodes : goal.returns-in-Over-run_down_all-clause-nodes
returns-in-Over-run_down_all-clause-nodes g c = λ count h. c.run_down_all.ensures.nodes count (c.restart_all.ensures.nodes count
    (shared_nodes g.D.Disk.state g.U.RecoveryUnits.state count c.args.shared.now c.occupy.new.self c.args.nodes.now.nodes.entries (λ e. ap (λ (v : SharedState). v.in_use) c.occupy.ensures) h))

pub returns-in-Over-run_down_all-clause-tells : goal.returns-in-Over-run_down_all-clause-tells
returns-in-Over-run_down_all-clause-tells g c =
    let state = g.D.Disk.state in
    let units = g.U.RecoveryUnits.state in
    let ns = c.args.nodes.now in
    let s = c.args.shared.now in
    let ks = kept_all state units ns in
    let same = same_names state units c.requires.nodes.0 s ns.nodes.entries c.requires.nodes.2 in
    let apart = subst AreApart same c.requires.apart in
    let a = g.E.Emit.shows c.args.out.now in
    let x = g.E.Emit.shows c.restart_all.new.out in
    let ms = kept_all state units c.restart_all.new.nodes in
    let u = c.restart_all.new.shared in
    let told = subst (λ y. RestartsTold (length (names_of ns)) ks y a x ms u) c.occupy.ensures (c.in-GoesOn.ensures.told refl) in
    let over : length (kept_names ks) ≤ length (names_of ns) = omega (arith, ap length same) in
    let y = g.E.Emit.shows c.run_down_all.new.out in
    let ls = kept_all state units c.run_down_all.new.nodes in
    let t = c.run_down_all.new.shared in
    subst (λ xs. AnswersTogether xs Settle a y ks s ls t) (sym same) (told_behind (length (names_of ns)) ks s a x y ms u (names_of c.restart_all.new.nodes) ls t apart over told (c.in-Over-run_down_all.ensures.answered refl) (c.restart_all.ensures.names ∙ same))

pub returns-in-Over-run_down_all-clause-serves : goal.returns-in-Over-run_down_all-clause-serves
returns-in-Over-run_down_all-clause-serves g c = λ logs w h kept never.
    let state = g.D.Disk.state in
    let units = g.U.RecoveryUnits.state in
    let ns = c.args.nodes.now in
    let s = c.args.shared.now in
    let ks = kept_all state units ns in
    let same = same_names state units c.requires.nodes.0 s ns.nodes.entries c.requires.nodes.2 in
    let apart = subst AreApart same c.requires.apart in
    let a = g.E.Emit.shows c.args.out.now in
    let x = g.E.Emit.shows c.restart_all.new.out in
    let ms = kept_all state units c.restart_all.new.nodes in
    let u = c.restart_all.new.shared in
    let y = g.E.Emit.shows c.run_down_all.new.out in
    let ls = kept_all state units c.run_down_all.new.nodes in
    let t = c.run_down_all.new.shared in
    let enters = subst (λ v. Enters logs w (begun_with Settle w) ks v) (sym c.occupy.ensures) (settle_enters logs w ks s apart h kept) in
    let differ = world_apart logs ks s w h apart in
    let told = all_told w never in
    let first = c.in-GoesOn.ensures.done refl logs w enters differ told in
    ended_running_down logs w a x y ms ls u t first (c.in-Over-run_down_all.ensures.ended refl logs w first.world (record { stands = first.stands; within = first.within }) first.up)

-- A question ends it.
pub returns-in-Over-ask_all-clause-nodes : goal.returns-in-Over-ask_all-clause-nodes
returns-in-Over-ask_all-clause-nodes g c = λ count h. c.ask_all.ensures.nodes count (c.run_down_all.ensures.nodes count (c.restart_all.ensures.nodes count
    (shared_nodes g.D.Disk.state g.U.RecoveryUnits.state count c.args.shared.now c.occupy.new.self c.args.nodes.now.nodes.entries (λ e. ap (λ (v : SharedState). v.in_use) c.occupy.ensures) h)))

pub returns-in-Over-ask_all-clause-tells : goal.returns-in-Over-ask_all-clause-tells
returns-in-Over-ask_all-clause-tells g c =
    let state = g.D.Disk.state in
    let units = g.U.RecoveryUnits.state in
    let ns = c.args.nodes.now in
    let s = c.args.shared.now in
    let ks = kept_all state units ns in
    let same = same_names state units c.requires.nodes.0 s ns.nodes.entries c.requires.nodes.2 in
    let apart = subst AreApart same c.requires.apart in
    let a = g.E.Emit.shows c.args.out.now in
    let x = g.E.Emit.shows c.restart_all.new.out in
    let ms = kept_all state units c.restart_all.new.nodes in
    let u = c.restart_all.new.shared in
    let told = subst (λ y. RestartsTold (length (names_of ns)) ks y a x ms u) c.occupy.ensures (c.in-GoesOn.ensures.told refl) in
    let over : length (kept_names ks) ≤ length (names_of ns) = omega (arith, ap length same) in
    let y = g.E.Emit.shows c.run_down_all.new.out in
    let ls = kept_all state units c.run_down_all.new.nodes in
    let t = c.run_down_all.new.shared in
    let z = g.E.Emit.shows c.ask_all.new.out in
    let ps = kept_all state units c.ask_all.new.nodes in
    let r = c.ask_all.new.shared in
    let names = names_of c.restart_all.new.nodes in
    let asked = subst (λ xs. TurnOver xs ls t y z ps r) c.run_down_all.ensures.names (c.in-Over-ask_all.ensures.answered refl) in
    subst (λ xs. AnswersTogether xs Settle a z ks s ps r) (sym same) (told_behind (length (names_of ns)) ks s a x z ms u names ps r apart over told (turn_over names ms u x y z ls t ps r (c.in-GoesOn-run_down_all.ensures.told refl) asked) (c.restart_all.ensures.names ∙ same))

pub returns-in-Over-ask_all-clause-serves : goal.returns-in-Over-ask_all-clause-serves
returns-in-Over-ask_all-clause-serves g c = λ logs w h kept never.
    let state = g.D.Disk.state in
    let units = g.U.RecoveryUnits.state in
    let ns = c.args.nodes.now in
    let s = c.args.shared.now in
    let ks = kept_all state units ns in
    let same = same_names state units c.requires.nodes.0 s ns.nodes.entries c.requires.nodes.2 in
    let apart = subst AreApart same c.requires.apart in
    let a = g.E.Emit.shows c.args.out.now in
    let x = g.E.Emit.shows c.restart_all.new.out in
    let ms = kept_all state units c.restart_all.new.nodes in
    let u = c.restart_all.new.shared in
    let y = g.E.Emit.shows c.run_down_all.new.out in
    let ls = kept_all state units c.run_down_all.new.nodes in
    let t = c.run_down_all.new.shared in
    let z = g.E.Emit.shows c.ask_all.new.out in
    let ps = kept_all state units c.ask_all.new.nodes in
    let r = c.ask_all.new.shared in
    let enters = subst (λ v. Enters logs w (begun_with Settle w) ks v) (sym c.occupy.ensures) (settle_enters logs w ks s apart h kept) in
    let differ = world_apart logs ks s w h apart in
    let told = all_told w never in
    let first = c.in-GoesOn.ensures.done refl logs w enters differ told in
    let second = c.in-GoesOn-run_down_all.ensures.done refl logs w first.world (record { stands = first.stands; within = first.within }) first.up in
    ended_asking logs w a x y z ms ls ps u t r first second (c.in-Over-ask_all.ensures.ended refl logs w second.world (record { stands = second.stands; within = second.within }) second.up)

-- It is answered behind all.
pub returns-in-GoesOn-ask_all-clause-nodes : goal.returns-in-GoesOn-ask_all-clause-nodes
returns-in-GoesOn-ask_all-clause-nodes g c = λ count h. c.ask_all.ensures.nodes count (c.run_down_all.ensures.nodes count (c.restart_all.ensures.nodes count
    (shared_nodes g.D.Disk.state g.U.RecoveryUnits.state count c.args.shared.now c.occupy.new.self c.args.nodes.now.nodes.entries (λ e. ap (λ (v : SharedState). v.in_use) c.occupy.ensures) h)))

pub returns-in-GoesOn-ask_all-clause-tells : goal.returns-in-GoesOn-ask_all-clause-tells
returns-in-GoesOn-ask_all-clause-tells g c =
    let state = g.D.Disk.state in
    let units = g.U.RecoveryUnits.state in
    let ns = c.args.nodes.now in
    let s = c.args.shared.now in
    let ks = kept_all state units ns in
    let same = same_names state units c.requires.nodes.0 s ns.nodes.entries c.requires.nodes.2 in
    let apart = subst AreApart same c.requires.apart in
    let a = g.E.Emit.shows c.args.out.now in
    let x = g.E.Emit.shows c.restart_all.new.out in
    let ms = kept_all state units c.restart_all.new.nodes in
    let u = c.restart_all.new.shared in
    let told = subst (λ y. RestartsTold (length (names_of ns)) ks y a x ms u) c.occupy.ensures (c.in-GoesOn.ensures.told refl) in
    let over : length (kept_names ks) ≤ length (names_of ns) = omega (arith, ap length same) in
    let y = g.E.Emit.shows c.run_down_all.new.out in
    let ls = kept_all state units c.run_down_all.new.nodes in
    let t = c.run_down_all.new.shared in
    let z = g.E.Emit.shows c.ask_all.new.out in
    let ps = kept_all state units c.ask_all.new.nodes in
    let r = c.ask_all.new.shared in
    let b = g.E.Emit.shows c.emit.new.self in
    let names = names_of c.restart_all.new.nodes in
    let asked = subst (λ xs. TurnTold xs ls t y z ps r) c.run_down_all.ensures.names (c.in-GoesOn-ask_all.ensures.told refl) in
    let ends = turn_over names ls t y z b ps r ps r asked (answer_over names Normal ps r z b c.emit.ensures.emits (λ v. refl) refl refl refl) in
    subst (λ xs. AnswersTogether xs Settle a b ks s ps r) (sym same) (told_behind (length (names_of ns)) ks s a x b ms u names ps r apart over told (turn_over names ms u x y b ls t ps r (c.in-GoesOn-run_down_all.ensures.told refl) ends) (c.restart_all.ensures.names ∙ same))

pub returns-in-GoesOn-ask_all-clause-serves : goal.returns-in-GoesOn-ask_all-clause-serves
returns-in-GoesOn-ask_all-clause-serves g c = λ logs w h kept never.
    let state = g.D.Disk.state in
    let units = g.U.RecoveryUnits.state in
    let ns = c.args.nodes.now in
    let s = c.args.shared.now in
    let ks = kept_all state units ns in
    let same = same_names state units c.requires.nodes.0 s ns.nodes.entries c.requires.nodes.2 in
    let apart = subst AreApart same c.requires.apart in
    let a = g.E.Emit.shows c.args.out.now in
    let x = g.E.Emit.shows c.restart_all.new.out in
    let ms = kept_all state units c.restart_all.new.nodes in
    let u = c.restart_all.new.shared in
    let y = g.E.Emit.shows c.run_down_all.new.out in
    let ls = kept_all state units c.run_down_all.new.nodes in
    let t = c.run_down_all.new.shared in
    let z = g.E.Emit.shows c.ask_all.new.out in
    let ps = kept_all state units c.ask_all.new.nodes in
    let r = c.ask_all.new.shared in
    let enters = subst (λ v. Enters logs w (begun_with Settle w) ks v) (sym c.occupy.ensures) (settle_enters logs w ks s apart h kept) in
    let differ = world_apart logs ks s w h apart in
    let told = all_told w never in
    let first = c.in-GoesOn.ensures.done refl logs w enters differ told in
    let second = c.in-GoesOn-run_down_all.ensures.done refl logs w first.world (record { stands = first.stands; within = first.within }) first.up in
    let b = g.E.Emit.shows c.emit.new.self in
    let third = c.in-GoesOn-ask_all.ensures.done refl logs w second.world (record { stands = second.stands; within = second.within }) second.up in
    done_settling logs w a x y z b ms ls ps u t r first second third c.emit.ensures.emits
