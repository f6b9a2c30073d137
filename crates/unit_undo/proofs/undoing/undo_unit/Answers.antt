use Rattle.std.proofs.Common.{◌≡◌, ℕ, ap, arith, refl, sym, ◌∙◌, subst}
use Rattle.careful_write.specs.State.{IsEither, Leaves, content}
use Rattle.volume.specs.State.{VolumeState}
use Rattle.volume.proofs.Reading.{volume_on, volume_so}
use Rattle.unit_undo.specs.UnitWays.{HasUndone, TellsUnit}
use Rattle.unit_undo.proofs.NumberLemmas.{may_number, number_fails, reading_fails, undone_begins, undone_ends, undone_more}
use Rattle.unit_undo.specs.Undoing.{IsFew}
use Rattle.unit_undo.proofs.LastLemmas.{has_undone_on, last_fails}
use Rattle.unit_undo.proofs.ReadLemmas.{has_undone_to}
use Rattle.unit_undo.proofs.StepLemmas.{goes_through, heads_kept, heads_through}
use Rattle.unit_undo.proofs.undoing.undo_unit.Goals as goal

pub returns-in-Err-clause-down : goal.returns-in-Err-clause-down
returns-in-Err-clause-down g c =
    reading_fails c.args.positions.now c.read_keys.new.keys c.args.volume.now c.requires.sound.0 c.requires.idle c.requires.sound.1 c.blocks_are_whole.ensures.whole c.blocks_are_whole.ensures.each
    c.read_keys.new.volume (subst (λ (x : VolumeState). Leaves (IsEither (content x.store) x.store.current) c.read_keys.new.volume.store.disk) c.blocks_are_whole.ensures.same c.in-Err.ensures.down)

pub loop-file-init : goal.loop-file-init
loop-file-init g c =
    let v = c.args.volume.now in
    let mid = c.blocks_are_whole.new.volume in
    let w = c.read_keys.new.volume in
    has_undone_to v w (volume_on v mid w (volume_so v mid c.blocks_are_whole.ensures.same) c.in-Ok.ensures.same) c.args.positions.now 0 0 v
    (undone_begins c.args.positions.now c.read_keys.new.keys c.args.volume.now c.requires.sound.0 c.requires.idle c.requires.sound.1 c.blocks_are_whole.ensures.whole c.blocks_are_whole.ensures.each)

pub undo_number-requires : goal.undo_number-requires
undo_number-requires g c = record {
  may = may_number c.args.positions.now c.read_keys.new.keys c.args.volume.now c.requires.sound.0 c.requires.idle c.requires.sound.1 c.blocks_are_whole.ensures.whole c.blocks_are_whole.ensures.each
      c.requires.least c.requires.most c.requires.frames c.requires.ring c.loop-file.file c.loop-file.volume c.loop-file.steps c.loop-file.invariant;
}

pub returns-in-Err-undo_number-clause-down : goal.returns-in-Err-undo_number-clause-down
returns-in-Err-undo_number-clause-down g c =
    number_fails c.args.positions.now c.read_keys.new.keys c.args.volume.now c.requires.sound.0 c.requires.idle c.requires.sound.1 c.blocks_are_whole.ensures.whole c.blocks_are_whole.ensures.each
    (subst (TellsUnit c.args.positions.now c.read_keys.new.keys) c.blocks_are_whole.ensures.same c.in-Ok.ensures.keys) c.loop-file.file c.loop-file.volume c.loop-file.steps c.loop-file.invariant
    c.undo_number.new.volume c.in-Err-undo_number.ensures.down

pub loop-file-preserved : goal.loop-file-preserved
loop-file-preserved g c =
    undone_more c.args.positions.now c.read_keys.new.keys c.args.volume.now c.requires.sound.0 c.requires.idle c.requires.sound.1 c.blocks_are_whole.ensures.whole c.blocks_are_whole.ensures.each
    (subst (TellsUnit c.args.positions.now c.read_keys.new.keys) c.blocks_are_whole.ensures.same c.in-Ok.ensures.keys) c.loop-file.file c.loop-file.volume c.loop-file.steps c.loop-file.invariant
    c.undo_number.new.volume c.undo_number.new.steps c.in-Ok-undo_number.ensures.undoes c.in-Ok-undo_number.ensures.few

pub returns-in-Err-make_room-clause-down : goal.returns-in-Err-make_room-clause-down
returns-in-Err-make_room-clause-down g c = last_fails c.args.positions.now c.loop-file.file c.args.volume.now c.loop-file.volume c.make_room.new.volume c.loop-file.steps c.loop-file.invariant c.in-Err-make_room.ensures.down

pub returns-in-Ok-make_room-clause-goes : goal.returns-in-Ok-make_room-clause-goes
returns-in-Ok-make_room-clause-goes g c = goes_through c.args.volume.now c.loop-file.volume c.make_room.new.volume c.loop-file.invariant.goes c.in-Ok-make_room.ensures.goes

pub returns-in-Ok-make_room-clause-undoes : goal.returns-in-Ok-make_room-clause-undoes
returns-in-Ok-make_room-clause-undoes g c =
    let end : c.loop-file.file ≡ 64 = omega (arith, c.loop-file-test.false, c.loop-file.auto.file-end) in
    let ps = c.args.positions.now in
    let v = c.args.volume.now in
    let w = c.loop-file.volume in
    let y = c.make_room.new.volume in
    let is = subst (λ (f : ℕ). HasUndone ps f v w c.loop-file.steps) end c.loop-file.invariant in
    let few : IsFew c.make_room.new.steps y = record { blocks = c.in-Ok-make_room.ensures.few; most = omega (arith, c.in-Ok-make_room.ensures.room, c.requires.most_left) } in
    undone_ends ps c.read_keys.new.keys v c.requires.sound.0 c.requires.idle c.requires.sound.1 c.blocks_are_whole.ensures.whole c.blocks_are_whole.ensures.each
    y c.make_room.new.steps (has_undone_on ps 64 v w y c.loop-file.steps c.make_room.new.steps is c.in-Ok-make_room.ensures.goes c.make_room.ensures.catalog c.in-Ok-make_room.ensures.same c.in-Ok-make_room.ensures.applied few)

pub returns-in-Err-make_room-clause-heads : goal.returns-in-Err-make_room-clause-heads
returns-in-Err-make_room-clause-heads g c = heads_kept c.args.volume.now c.loop-file.volume c.make_room.new.volume c.loop-file.invariant.goes.catalog c.make_room.ensures.catalog

pub returns-in-Ok-make_room-clause-heads : goal.returns-in-Ok-make_room-clause-heads
returns-in-Ok-make_room-clause-heads g c = heads_kept c.args.volume.now c.loop-file.volume c.make_room.new.volume c.loop-file.invariant.goes.catalog c.make_room.ensures.catalog

pub returns-in-Err-clause-heads : goal.returns-in-Err-clause-heads
returns-in-Err-clause-heads g c = heads_kept c.args.volume.now c.args.volume.now c.read_keys.new.volume refl (c.read_keys.ensures.kept ∙ ap (λ (x : VolumeState). x.catalog) c.blocks_are_whole.ensures.same)

pub returns-in-Err-undo_number-clause-heads : goal.returns-in-Err-undo_number-clause-heads
returns-in-Err-undo_number-clause-heads g c = heads_through c.args.volume.now c.loop-file.volume c.undo_number.new.volume c.loop-file.invariant.goes.catalog c.in-Err-undo_number.ensures.heads
