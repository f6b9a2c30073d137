-- No id is told twice; so a change without a label that was done has a new one.
use Rattle.std.proofs.Common.{◌≡◌, ℕ, List, [], ◌∷◌, ◌++◌, None, refl, sym, ◌∙◌, ap, subst}
use Rattle.vms_model.specs.Ids.{Id}
use Rattle.vms_model.specs.Transactions.{Commit}
use Rattle.run_said.specs.script_model.Statements.{At, Direct, Says}
use Rattle.commit_protocol.specs.World.{In}
use Rattle.run_said.specs.run_model.World.{World, opened}
use Rattle.run_said.specs.run_model.Statements.{Step}
use Rattle.run_said.specs.run_model.Transcript.{Legal, Turn as LineTurn}
use Rattle.commit_protocol.proofs.Lists.{in_right}
use Rattle.run_laws.specs.Naming.{IdsDiffer, ids_here, ids_told, committed_ids}
use Rattle.run_laws.specs.Promises.{IsSettledSo, commitment, settlements_of}
use Rattle.run_laws.specs.Laws.{DirectsHold, NewHold}
use Rattle.run_laws.proofs.Directed.{step_done}
use Rattle.run_laws.proofs.NamedRuns.{legal_named}
use Rattle.run_laws.proofs.Staying.{stays}

pub ids_are_new : NewHold
ids_are_new nodes disks es closing opening legal = (legal_named nodes disks es closing opening legal).differ

pub settled_so : (tid : Id) (moment : ℕ) (v : World) → In (commitment tid tid moment) (settlements_of tid.node v) → IsSettledSo tid tid Commit None moment v
settled_so tid moment v i = (commitment tid tid moment, i, refl)

pub directs_hold : DirectsHold
directs_hold nodes disks es closing opening legal before node file op events answer there is fine =
    let r = stays (opened nodes disks) closing there.after (there.entry ∷ before) (subst (λ es. Legal (opened nodes disks) es closing) there.stands legal) in
    let l = r.1 in
    let step : Step l.0 (At node (Direct file op)) (events ++ answer ∷ []) r.0 = subst (λ lines. Step l.0 (At node (Direct file op)) lines r.0) there.shown (subst (λ said. LineTurn l.0 said there.entry.lines r.0) there.said l.2) in
    let d = step_done l.0 r.0 node file op events answer is fine step in
    let kept = r.2 node (commitment d.tid d.tid d.moment) d.settled in
    let here : ids_here (Says (At node (Direct file op))) there.entry.lines ≡ d.tid ∷ committed_ids (answer ∷ []) = ap committed_ids (there.shown ∙ ap (λ ls. ls ++ answer ∷ []) d.shows) in
    let differ : IdsDiffer (d.tid ∷ committed_ids (answer ∷ []) ++ ids_told before) = subst IdsDiffer (ap (λ said. ids_here said there.entry.lines ++ ids_told before) there.said ∙ ap (λ (ids : List Id). ids ++ ids_told before) here) (legal_named nodes disks (there.entry ∷ before) r.0 opening l).differ in
    (d.tid, d.moment, d.at, λ i. differ.0 (in_right d.tid (committed_ids (answer ∷ [])) (ids_told before) i), d.shows, settled_so d.tid d.moment closing (subst (λ name. In (commitment d.tid d.tid d.moment) (settlements_of name closing)) (sym d.at) kept))
