use Rattle.std.proofs.Common.{◌≡◌, ℕ, ◌+◌, ◌*◌, List, Option, Some, IfSome, slice_set, subst, sym, ◌∙◌, ap, arith}
use Rattle.careful_write.specs.State.{StoreState}
use Rattle.change_set.specs.Files.{IsPlaced, StagesIn}
use Rattle.record_files.specs.Any.{Begins, IsLaidOut}
use Rattle.vms_base.specs.Keys.{key_of}
use Rattle.std.specs.Option.{option_copied}
use Rattle.volume.specs.Catalogs.{TellsCatalog}
use Rattle.volume.specs.State.{Holds, VolumeState}
use Rattle.volume_files.specs.Staging.{StagesFile, TellsSet}
use Rattle.volume_files.proofs.Places.{behind_front, head_below, placed}
use Rattle.volume_files.proofs.StagingLemmas.{stages_moved, within_of}
use Rattle.volume_files.proofs.Walks.{formed_begins}
use Rattle.volume_files.proofs.StagingTells.{SetIn, set_few, told_set}
use Rattle.volume_files.proofs.staging.stage_value.Goals as goal

pub set_from-requires-clause-placed : goal.set_from-requires-clause-placed
set_from-requires-clause-placed g c =
    let v = c.args.volume.now in
    let h = c.args.head.now in
    subst (λ (x : StoreState). IsPlaced h x.disk) (sym (c.store.ensures.value ∙ ap (λ (u : VolumeState). u.store) c.blocks_are_whole.ensures.same)) (placed c.requires.sound.0 v.catalog c.args.file h v.store.disk c.requires.whole c.requires.sound.1 c.requires.most c.requires.there)

pub stage_moved-requires-clause-room : goal.stage_moved-requires-clause-room
stage_moved-requires-clause-room g c =
    let v = c.args.volume.now in
    let h = c.args.head.now in
    let lies = placed c.requires.sound.0 v.catalog c.args.file h v.store.disk c.requires.whole c.requires.sound.1 c.requires.most c.requires.there in
    let few = set_few h (c.is_formed.ensures.formed c.if-not-is_formed.false) lies.blocks in
    let stages = subst (λ (x : StoreState). StagesIn h ((2 * h.levels + 2) * h.bucket) x c.set_from.new.store) (c.store.ensures.value ∙ ap (λ (u : VolumeState). u.store) c.blocks_are_whole.ensures.same) c.in_ok-set_from.ensures.staged in
    let more = stages.few in
    let staged = c.requires.staged in
    omega (arith, more, few, staged)

pub returns-clause-stages : goal.returns-clause-stages
returns-clause-stages g c =
    let v = c.args.volume.now in
    let h = c.args.head.now in
    let lies = placed c.requires.sound.0 v.catalog c.args.file h v.store.disk c.requires.whole c.requires.sound.1 c.requires.most c.requires.there in
    let few = set_few h (c.is_formed.ensures.formed c.if-not-is_formed.false) lies.blocks in
    let same = c.blocks_are_whole.ensures.same in
    subst (λ (u : VolumeState). StagesFile c.args.file h 417 v u c.set_from.new.head) (sym c.blocks_are_whole-2.ensures.same)
    (stages_moved c.args.file h c.set_from.new.head ((2 * h.levels + 2) * h.bucket) 417 v c.stage_moved.new.volume c.set_from.new.store c.requires.whole c.requires.there c.catalogs_stand_on_the_front.ensures (behind_front c.requires.sound.0 v.store.disk.size v.catalog c.args.file h c.requires.whole c.requires.sound.1 c.requires.there)
    (subst (λ (x : StoreState). StagesIn h ((2 * h.levels + 2) * h.bucket) x c.set_from.new.store) (c.store.ensures.value ∙ ap (λ (u : VolumeState). u.store) same) c.in_ok-set_from.ensures.staged) (omega (arith, few))
    c.in_ok-set_from.ensures.file c.in_ok-set_from.ensures.form c.stage_moved.ensures.store
    (subst (λ (u : VolumeState). c.stage_moved.new.volume.catalog ≡ record u.catalog { heads = slice_set u.catalog.heads c.args.file (Some c.set_from.new.head) }) same c.stage_moved.ensures.catalog)
    (subst (λ (u : VolumeState). IfSome c.set_from.new.store.current (TellsCatalog u.catalog) → Holds c.stage_moved.new.volume) same c.stage_moved.ensures.holds))

pub returns-clause-sets : goal.returns-clause-sets
returns-clause-sets g c =
    let v = c.args.volume.now in
    let h = c.args.head.now in
    let key = key_of c.args.key.now in
    let value = option_copied c.args.value in
    let holds = g.H.Held.held c.args.held.now in
    subst (λ (u : VolumeState). TellsSet h holds key value v u c.set_from.new.head) (sym c.blocks_are_whole-2.ensures.same) (λ a told form laid suits takes.
    told_set c.args.file h c.set_from.new.head v.store c.set_from.new.store c.stage_moved.new.volume.store (head_below v.catalog.heads c.args.file h c.requires.whole c.requires.there) (behind_front c.requires.sound.0 v.store.disk.size v.catalog c.args.file h c.requires.whole c.requires.sound.1 c.requires.there)
    c.in_ok-set_from.ensures.file c.in_ok-set_from.ensures.form c.stage_moved.ensures.store holds key value a
    (subst (λ (x : StoreState). SetIn h holds key value x c.set_from.new.store c.set_from.new.head) (c.store.ensures.value ∙ ap (λ (u : VolumeState). u.store) c.blocks_are_whole.ensures.same)
    (record { map = c.in_ok-set_from.ensures.map; valid = c.in_ok-set_from.ensures.valid; rooms = c.in_ok-set_from.ensures.rooms; layout = c.in_ok-set_from.ensures.layout; back = c.in_ok-set_from.ensures.back }))
    (within_of h v.store a (placed c.requires.sound.0 v.catalog c.args.file h v.store.disk c.requires.whole c.requires.sound.1 c.requires.most c.requires.there) told c.blocks_are_whole.ensures.whole c.blocks_are_whole.ensures.each) c.blocks_are_whole-2.ensures.each told laid takes)

pub set_from-requires-clause-begins : goal.set_from-requires-clause-begins
set_from-requires-clause-begins g c =
    let v = c.args.volume.now in
    let h = c.args.head.now in
    let same = c.store.ensures.value ∙ ap (λ (u : VolumeState). u.store) c.blocks_are_whole.ensures.same in
    subst (λ (told : Option (List (List ℕ))). IfSome told (λ (a : List (List ℕ)). IsLaidOut h a → Begins h a (Some (key_of c.args.key.now)) c.args.place)) (sym (ap (λ (x : StoreState). x.current) same))
    (formed_begins v.store.current h _ (c.is_formed.ensures.formed c.if-not-is_formed.false) c.requires.begins)
