use Rattle.std.proofs.Common.{subst, sym, arith}
use Rattle.careful_write.specs.State.{StoreState}
use Rattle.change_set.specs.Files.{IsPlaced, StagesIn}
use Rattle.vms_base.specs.Keys.{key_of}
use Rattle.std.specs.Option.{option_copied}
use Rattle.volume_files.proofs.Places.{behind_front, head_below, placed}
use Rattle.volume_files.proofs.StagingLemmas.{stages_moved}
use Rattle.volume_files.proofs.StagingTells.{BackIn, told_back}
use Rattle.volume_files.proofs.staging.stage_back.Goals as goal

pub restore-requires-clause-placed : goal.restore-requires-clause-placed
restore-requires-clause-placed g c =
    let v = c.args.volume.now in
    let h = c.args.head.now in
    subst (λ (x : StoreState). IsPlaced h x.disk) (sym c.store.ensures.value) (placed c.requires.sound.0 v.catalog c.args.file h v.store.disk c.requires.whole c.requires.sound.1 c.requires.most c.requires.there)

pub returns-clause-stages : goal.returns-clause-stages
returns-clause-stages g c =
    let v = c.args.volume.now in
    let h = c.args.head.now in
    let lies = placed c.requires.sound.0 v.catalog c.args.file h v.store.disk c.requires.whole c.requires.sound.1 c.requires.most c.requires.there in
    stages_moved c.args.file h c.restore.new.head h.bucket 17 v c.stage_moved.new.volume c.restore.new.store c.requires.whole c.requires.there c.catalogs_stand_on_the_front.ensures (behind_front c.requires.sound.0 v.store.disk.size v.catalog c.args.file h c.requires.whole c.requires.sound.1 c.requires.there)
    (subst (λ (x : StoreState). StagesIn h h.bucket x c.restore.new.store) c.store.ensures.value c.in_ok-restore.ensures.staged) (let most = lies.blocks in omega (arith, most))
    c.in_ok-restore.ensures.file c.in_ok-restore.ensures.form c.stage_moved.ensures.store c.stage_moved.ensures.catalog c.stage_moved.ensures.holds

pub returns-clause-back : goal.returns-clause-back
returns-clause-back g c =
    let v = c.args.volume.now in
    let h = c.args.head.now in
    λ a told form laid suits restores.
    told_back c.args.file h c.restore.new.head v.store c.restore.new.store c.stage_moved.new.volume.store (head_below v.catalog.heads c.args.file h c.requires.whole c.requires.there) (behind_front c.requires.sound.0 v.store.disk.size v.catalog c.args.file h c.requires.whole c.requires.sound.1 c.requires.there)
    c.in_ok-restore.ensures.file c.in_ok-restore.ensures.form c.stage_moved.ensures.store (key_of c.args.key.now) (option_copied c.args.value) a
    (subst (λ (x : StoreState). BackIn h (key_of c.args.key.now) (option_copied c.args.value) x c.restore.new.store c.restore.new.head) c.store.ensures.value
    (record { map = c.in_ok-restore.ensures.map; valid = c.in_ok-restore.ensures.valid; rooms = c.in_ok-restore.ensures.rooms; layout = c.in_ok-restore.ensures.layout })) told laid restores
