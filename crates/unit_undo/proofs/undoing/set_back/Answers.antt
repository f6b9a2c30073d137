use Rattle.std.proofs.Common.{ℕ, List, Option, IfSome, sym, subst}
use Rattle.vms_base.specs.Keys.{key_of}
use Rattle.journal_format.specs.Heads.{entry_of}
use Rattle.volume.specs.State.{VolumeState}
use Rattle.volume_files.specs.Staging.{TellsBack}
use Rattle.volume_files.proofs.StagingLemmas.{stages_read}
use Rattle.unit_entries.specs.Told.{before_in}
use Rattle.unit_undo.specs.Undoing.{ChangesFile, ReadsChange, SetsToEntry}
use Rattle.unit_undo.proofs.StagedLemmas.{staged_changes, entry_sets}
use Rattle.unit_undo.proofs.undoing.set_back.Goals as goal

pub returns-clause-changes : goal.returns-clause-changes
returns-clause-changes g c =
    let h = c.args.head.now in
    let v = c.args.volume.now in
    let made = c.in_ok-make_room.ensures in
    let stages = stages_read c.args.key.now.file h c.stage_back.new.head 17 c.make_room.new.volume c.read_change.new.volume c.stage_back.new.volume c.in_ok-e.ensures.same c.in_ok-stage_back.ensures.stages in
    subst (λ (x : VolumeState). ChangesFile c.args.key.now.file h v x c.stage_back.new.head) (sym c.blocks_are_whole-2.ensures.same)
    (staged_changes c.args.key.now.file 17 h c.stage_back.new.head v c.make_room.new.volume c.stage_back.new.volume made.goes made.catalog made.same made.applied c.requires.may.whole c.requires.may.there stages c.blocks_are_whole-2.ensures.each)

pub returns-clause-sets : goal.returns-clause-sets
returns-clause-sets g c =
    let h = c.args.head.now in
    let v = c.args.volume.now in
    let mid = c.make_room.new.volume in
    let key = key_of c.args.key.now.key in
    let image = c.read_change.new.image in
    let new = c.stage_back.new.head in
    let reads = subst (λ o. IfSome mid.store.current (ReadsChange mid.catalog.ru c.args.key.now.first o image)) c.in-Some.is c.in_ok-e.ensures.entry in
    let back = subst (λ (x : VolumeState). TellsBack h key (before_in (entry_of c.in-Some.e image)) x c.stage_back.new.volume new) c.in_ok-e.ensures.same
    (subst (λ (b : Option (List ℕ)). TellsBack h key b c.read_change.new.volume c.stage_back.new.volume new) c.image_of.ensures c.in_ok-stage_back.ensures.back) in
    subst (λ (x : VolumeState). SetsToEntry h key c.args.key.now.first v x new) (sym c.blocks_are_whole-2.ensures.same)
    (entry_sets h new key c.args.key.now.first v mid c.stage_back.new.volume c.in_ok-make_room.ensures.same c.in_ok-make_room.ensures.catalog image c.in-Some.e reads back)
