use Rattle.std.proofs.Common.{ℕ, List, Option, Some, IfSome, ap, subst, sym, arith}
use Rattle.careful_write.specs.State.{StoreState}
use Rattle.change_set.specs.Files.{IsPlaced, StagesIn}
use Rattle.record_files.specs.Any.{Begins, IsLaidOut}
use Rattle.vms_base.specs.vms_model.Keys.{Number}
use Rattle.volume.specs.State.{VolumeState}
use Rattle.volume_files.specs.Staging.{StagesFile, TellsCut}
use Rattle.volume_files.proofs.Places.{behind_front, head_below, placed}
use Rattle.volume_files.proofs.StagingLemmas.{stages_moved}
use Rattle.volume_files.proofs.Walks.{formed_begins}
use Rattle.volume_files.proofs.StagingTells.{CutIn, told_cut}
use Rattle.volume_files.proofs.staging.stage_cut.Goals as goal

pub cut_at-requires-clause-placed : goal.cut_at-requires-clause-placed
cut_at-requires-clause-placed g c =
    let v = c.args.volume.now in
    let h = c.args.head.now in
    subst (λ (x : StoreState). IsPlaced h x.disk) (sym c.store.ensures.value) (placed c.requires.sound.0 v.catalog c.args.file h v.store.disk c.requires.whole c.requires.sound.1 c.requires.most c.requires.there)

pub returns-clause-stages : goal.returns-clause-stages
returns-clause-stages g c =
    let v = c.args.volume.now in
    let h = c.args.head.now in
    let lies = placed c.requires.sound.0 v.catalog c.args.file h v.store.disk c.requires.whole c.requires.sound.1 c.requires.most c.requires.there in
    subst (λ (u : VolumeState). StagesFile c.args.file h 65 v u c.cut_at.new.head) (sym c.blocks_are_whole.ensures.same)
    (stages_moved c.args.file h c.cut_at.new.head h.bucket 65 v c.stage_moved.new.volume c.cut_at.new.store c.requires.whole c.requires.there c.catalogs_stand_on_the_front.ensures (behind_front c.requires.sound.0 v.store.disk.size v.catalog c.args.file h c.requires.whole c.requires.sound.1 c.requires.there)
    (subst (λ (x : StoreState). StagesIn h h.bucket x c.cut_at.new.store) c.store.ensures.value c.in_ok-cut_at.ensures.staged) (let most = lies.blocks in omega (arith, most))
    c.in_ok-cut_at.ensures.file c.in_ok-cut_at.ensures.form c.stage_moved.ensures.store c.stage_moved.ensures.catalog c.stage_moved.ensures.holds)

pub returns-clause-cuts : goal.returns-clause-cuts
returns-clause-cuts g c =
    let v = c.args.volume.now in
    let h = c.args.head.now in
    subst (λ (u : VolumeState). TellsCut h c.args.from v u c.cut_at.new.head) (sym c.blocks_are_whole.ensures.same) (λ a told form laid.
    told_cut c.args.file h c.cut_at.new.head v.store c.cut_at.new.store c.stage_moved.new.volume.store (head_below v.catalog.heads c.args.file h c.requires.whole c.requires.there) (behind_front c.requires.sound.0 v.store.disk.size v.catalog c.args.file h c.requires.whole c.requires.sound.1 c.requires.there)
    c.in_ok-cut_at.ensures.file c.in_ok-cut_at.ensures.form c.stage_moved.ensures.store c.args.from a c.requires.sequential
    (subst (λ (x : StoreState). CutIn h c.args.from x c.cut_at.new.store c.cut_at.new.head) c.store.ensures.value (record { map = c.in_ok-cut_at.ensures.map; valid = c.in_ok-cut_at.ensures.valid })) c.blocks_are_whole.ensures.each told laid)

pub cut_at-requires-clause-begins : goal.cut_at-requires-clause-begins
cut_at-requires-clause-begins g c =
    let v = c.args.volume.now in
    let h = c.args.head.now in
    subst (λ (told : Option (List (List ℕ))). IfSome told (λ (a : List (List ℕ)). IsLaidOut h a → Begins h a (Some (Number c.args.from)) c.args.place)) (sym (ap (λ (x : StoreState). x.current) c.store.ensures.value))
    (formed_begins v.store.current h _ (c.is_formed.ensures.formed c.if-not-is_formed.false) c.requires.begins)
