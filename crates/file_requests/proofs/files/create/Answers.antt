use Rattle.std.proofs.Common.{ℕ, ◌<◌, ◌≤◌, ◌*◌, ◌∷◌, [], ap, sym, subst, ◌∙◌, arith}
use Rattle.extents.specs.Extents.{IsFreeRun, all_extents}
use Rattle.volume.specs.Limits.{data_area}
use Rattle.volume.specs.volume_format.Home.{sizes_of}
use Rattle.script_lang.specs.Statements.{form_of}
use Rattle.emitter_model.specs.Emitting.{Emits}
use Rattle.emitter_model.specs.transcript_model.Lines as line
use Rattle.file_images.specs.run_model.Answers.{blocks_for}
use Rattle.node_standing.specs.node_table.Code.{stored_of}
use Rattle.node_files.specs.NewFile.{buckets_in}
use Rattle.file_requests.proofs.Creating.{Room, create_bad, create_crowded, create_exists, create_full, create_made}
use Rattle.file_requests.proofs.files.create.Goals as goal

pub returns-in-Some-clause-serves : goal.returns-in-Some-clause-serves
returns-in-Some-clause-serves g c =
    create_exists c.args.name c.args.bucket c.args.size (form_of c.args.form) (stored_of g.U.RecoveryUnits.state c.args.stored.now) c.requires.order c.the_laws.ensures _ _ _ _ c.in-Some.ensures.found.1 c.emit.ensures.emits

pub returns-in_default-sizes_of-clause-serves : goal.returns-in_default-sizes_of-clause-serves
returns-in_default-sizes_of-clause-serves g c =
    create_bad c.args.name c.args.bucket c.args.size (form_of c.args.form) (stored_of g.U.RecoveryUnits.state c.args.stored.now) c.requires.order c.the_laws.ensures c.in_default.ensures.none _ _ (sym c.in_default-sizes_of.ensures.form) c.emit-in_default-sizes_of.ensures.emits

pub returns-in_default-free_file-clause-serves : goal.returns-in_default-free_file-clause-serves
returns-in_default-free_file-clause-serves g c =
    create_crowded c.args.name c.args.bucket c.args.size (form_of c.args.form) (stored_of g.U.RecoveryUnits.state c.args.stored.now) c.requires.order c.the_laws.ensures c.in_default.ensures.none (sym c.in-Some-sizes_of.ensures.form) _ _
    c.in_default-free_file.ensures.none c.emit-in_default-free_file.ensures.emits

pub returns-then-from-need-clause-serves : goal.returns-then-from-need-clause-serves
returns-then-from-need-clause-serves g c =
    let e = c.in-Some-sizes_of.ensures.sizes in
    let u = stored_of g.U.RecoveryUnits.state c.args.stored.now in
    let most = c.longest_free-free.result in
    let need = c.blocks-need.result in
    let room : Room u c.in-Some-free_file.file most = record { below = c.in-Some-free_file.ensures.found.0; free = c.in-Some-free_file.ensures.found.1; lowest = c.in-Some-free_file.ensures.lowest; some = c.longest_free-free.ensures.found; longest = c.longest_free-free.ensures.longest } in
    create_full c.args.name c.args.bucket c.args.size (form_of c.args.form) u c.requires.order c.the_laws.ensures c.in_default.ensures.none (sym c.in-Some-sizes_of.ensures.form) c.in-Some-free_file.file most room need _ _
    (c.blocks-need.ensures.value ∙ (λ i. blocks_for (e.0 i) (e.1 i) (form_of (e.2 i)))) (let f = c.from.ensures in let t = c.if-from-need.true in omega (arith, f, t))
    (subst (λ k. Emits (g.E.Emit.shows c.args.out.now) (line.VolumeFull k need ∷ []) (g.E.Emit.shows c.emit-then-from-need.new.self)) c.from-then-from-need.ensures c.emit-then-from-need.ensures.emits)

pub returns-clause-serves : goal.returns-clause-serves
returns-clause-serves g c =
    let s = c.in-Some-sizes_of.sizes in
    let e = c.in-Some-sizes_of.ensures.sizes in
    let u = stored_of g.U.RecoveryUnits.state c.args.stored.now in
    let most = c.longest_free-free.result in
    let start = c.in-Some-free_run.start in
    let value = c.blocks-need.ensures.value in
    let room : Room u c.in-Some-free_file.file most = record { below = c.in-Some-free_file.ensures.found.0; free = c.in-Some-free_file.ensures.found.1; lowest = c.in-Some-free_file.ensures.lowest; some = c.longest_free-free.ensures.found; longest = c.longest_free-free.ensures.longest } in
    let run = subst (λ k. IsFreeRun (data_area (sizes_of u.volume.catalog.home)) (all_extents u.volume.catalog.heads) start k) value c.in-Some-free_run.ensures.found in
    let lowest = subst (λ k. (lower : ℕ) → lower < start → IsFreeRun (data_area (sizes_of u.volume.catalog.home)) (all_extents u.volume.catalog.heads) lower k → ⊥) value c.in-Some-free_run.ensures.lowest in
    let enough : buckets_in s * s.bucket ≤ most = (let f = c.from.ensures in let t = c.if-from-need.false in omega (arith, f, t, value)) in
    create_made c.args.name c.args.bucket c.args.size (form_of c.args.form) u c.requires.order c.the_laws.ensures c.in_default.ensures.none (sym c.in-Some-sizes_of.ensures.form) c.in-Some-free_file.file most room s start c.in-Some-sizes_of.ensures.fits e.0 e.1
    (ap form_of e.2) enough run lowest c.head-head.result c.make_file.result (stored_of g.U.RecoveryUnits.state c.make_file.new.stored) _ _ c.head-head.ensures c.make_file.ensures.makes
