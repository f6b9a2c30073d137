use Rattle.std.proofs.Common.{sym, subst}
use Rattle.volume.specs.State.{VolumeState}
use Rattle.volume_files.proofs.StagingLemmas.{stages_read}
use Rattle.volume_files.proofs.Places.{placed}
use Rattle.unit_undo.specs.Undoing.{ChangesFile}
use Rattle.unit_undo.proofs.StagedLemmas.{placed_on, staged_changes}
use Rattle.unit_undo.proofs.undoing.cut_from.Goals as goal

pub place_of-requires-clause-placed : goal.place_of-requires-clause-placed
place_of-requires-clause-placed g c =
    let h = c.args.head.now in
    let v = c.args.volume.now in
    let may = c.requires.may in
    placed_on h v.store.disk c.make_room.new.volume.store.disk c.in_ok-make_room.ensures.goes.quiet.size (placed may.node v.catalog c.args.file h v.store.disk may.whole may.sound may.most may.there)

pub returns-clause-changes : goal.returns-clause-changes
returns-clause-changes g c =
    let h = c.args.head.now in
    let v = c.args.volume.now in
    let made = c.in_ok-make_room.ensures in
    let stages = stages_read c.args.file h c.stage_cut.new.head 65 c.make_room.new.volume c.place_of.new.volume c.stage_cut.new.volume c.in_ok-place.ensures.same c.in_ok-stage_cut.ensures.stages in
    subst (λ (x : VolumeState). ChangesFile c.args.file h v x c.stage_cut.new.head) (sym c.blocks_are_whole.ensures.same)
    (staged_changes c.args.file 65 h c.stage_cut.new.head v c.make_room.new.volume c.stage_cut.new.volume made.goes made.catalog made.same made.applied c.requires.may.whole c.requires.may.there stages c.blocks_are_whole.ensures.each)
