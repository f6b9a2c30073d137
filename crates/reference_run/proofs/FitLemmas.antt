-- What a rack has to spare.
use Rattle.std.proofs.Common.{◌≡◌, ℕ, ◌≤◌, List, [], ◌∷◌, refl, sym, subst}
use Rattle.world_laws.specs.run_model.Answers.{Task}
use Rattle.world_laws.specs.run_model.Steps.{Whole}
use Rattle.world_laws.specs.run_model.Statements.{Does, begun_with, part_effect}
use Rattle.script_lang.specs.script_model.Statements.{Settle}
use Rattle.statement_steps.proofs.Keeping.{begun_keeps}
use Rattle.world_laws.specs.run_model.World.{Lost, Node, Shared, World}
use Rattle.world_laws.specs.Nodes.{StepsKeepNodes, StepsKeepOthers}
use Rattle.statement_steps.specs.Doing.{AllKept}
use Rattle.reference_tasks.proofs.UnitsLemmas.{less_units}
use Rattle.reference_run.specs.Served.{AllHave, IsFit, moved, no_counts}
use Rattle.reference_run.proofs.PartLemmas.{world_keeps}

pub have_less : (more units : ℕ) (ns : List Node) → units ≤ more → AllHave more ns → AllHave units ns
have_less more units [] few h = tt
have_less more units (n ∷ ns) few h = (less_units more units n few h.0, have_less more units ns few h.1)

pub fit_less : (more units : ℕ) (w : World) → units ≤ more → IsFit more w → IsFit units w
fit_less more units w few h = record { kept = h.kept; units = have_less more units w.nodes few h.units; disks = h.disks }

pub fit_moved : (units : ℕ) (ns : List Node) (s : Shared) → AllKept s ns → AllHave units ns → IsFit units (moved ns s)
fit_moved units ns s kept have = record { kept = kept; units = have; disks = refl }

pub fit_same : (units : ℕ) (v w : World) → v ≡ w → IsFit units w → IsFit units v
fit_same units v w e h = subst (IsFit units) (sym e) h

-- a part was done at a node
pub fit_part : StepsKeepNodes → StepsKeepOthers → (w v : World) (name : List ℕ) (t : Task) (units : ℕ) → w.disks ≡ no_counts w.nodes → v.disks ≡ no_counts v.nodes → v ≡ (part_effect w (Does name t) (Whole Lost)).world → AllKept w.shared w.nodes → AllHave units v.nodes → IsFit units v
fit_part keeps others w v name t units before disks is kept have = record { kept = world_keeps keeps others w v name t before is kept; units = have; disks = disks }

-- all nodes were asked to settle
pub fit_begun : (units : ℕ) (w : World) → IsFit units w → IsFit units (begun_with Settle w)
fit_begun units w h = record { kept = begun_keeps Settle w h.kept; units = h.units; disks = h.disks }
