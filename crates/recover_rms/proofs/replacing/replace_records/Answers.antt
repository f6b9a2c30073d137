use Rattle.std.proofs.Common.{map, sym, ap}
use Rattle.std.proofs.lemmas.List.{length-map}
use Rattle.load_pages.specs.Given.{keyed}
use Rattle.volume.specs.volume_format.declared.home.Home.{Home}
use Rattle.volume.specs.volume_format.Head.{head_block_of}
use Rattle.recover_rms.proofs.DoneLemmas.{before_loadable, before_placed, fell_so, not_loaded_so, replaced_so}
use Rattle.recover_rms.proofs.replacing.replace_records.Goals as goal

pub load_moved-requires-clause-loadable : goal.load_moved-requires-clause-loadable
load_moved-requires-clause-loadable g c = before_loadable c.args.volume.now c.args.file c.args.head.now (map keyed c.args.records.now) c.requires.sound.0 c.requires.whole c.requires.sound.1 c.requires.there c.in-Ok.start c.wanted-wanted.result c.wanted-wanted.ensures.is c.in-Ok.ensures.free c.with_new_journals-new.result
    c.home.result.now.greatest_moment c.with_new_journals-new.ensures (ap (λ (h : Home). h.greatest_moment) c.home.ensures) c.store.result.now c.store.ensures.value c.requires.kept

pub load_moved-requires-clause-placed : goal.load_moved-requires-clause-placed
load_moved-requires-clause-placed g c = before_placed c.args.volume.now c.args.file c.args.head.now (map keyed c.args.records.now) c.requires.sound.0 c.requires.whole c.requires.sound.1 c.requires.there c.in-Ok.start c.wanted-wanted.result c.wanted-wanted.ensures.is c.in-Ok.ensures.free c.with_new_journals-new.result
    c.home.result.now.greatest_moment c.with_new_journals-new.ensures (ap (λ (h : Home). h.greatest_moment) c.home.ensures) c.store.result.now c.store.ensures.value c.requires.most

pub returns-in-Err-load_moved-clause-err : goal.returns-in-Err-load_moved-clause-err
returns-in-Err-load_moved-clause-err g c = not_loaded_so c.args.volume.now c.args.file c.args.head.now (map keyed c.args.records.now) c.requires.sound.0 c.requires.whole c.requires.sound.1 c.requires.there c.in-Ok.start c.wanted-wanted.result c.wanted-wanted.ensures.is c.in-Ok.ensures.free c.with_new_journals-new.result
    c.home.result.now.greatest_moment c.with_new_journals-new.ensures (ap (λ (h : Home). h.greatest_moment) c.home.ensures) c.store.result.now c.store.ensures.value c.in-Err-load_moved.e c.load_moved.new.store c.in-Err-load_moved.ensures.err

pub returns-in-Ok-swap_head-clause-done : goal.returns-in-Ok-swap_head-clause-done
returns-in-Ok-swap_head-clause-done g c =
    replaced_so c.args.volume.now c.args.file c.args.head.now (map keyed c.args.records.now) c.requires.sound.0 c.requires.whole c.requires.sound.1 c.requires.there c.in-Ok.start c.wanted-wanted.result c.wanted-wanted.ensures.is c.in-Ok.ensures.free c.with_new_journals-new.result
    c.home.result.now.greatest_moment c.with_new_journals-new.ensures (ap (λ (h : Home). h.greatest_moment) c.home.ensures) c.store.result.now c.store.ensures.value
    c.load_moved.new.head c.load_moved.new.store c.in-Ok-load_moved.ensures.head c.in-Ok-load_moved.ensures.form c.in-Ok-load_moved.ensures.loaded c.in-Ok-load_moved.ensures.wrote c.in-Ok.ensures.lowest c.catalogs_stand_on_the_front.ensures (head_block_of c.load_moved.new.head) c.requires.file
    c.in-Ok-swap_head.ensures.holds c.swap_head.new.volume _ c.in-Ok-swap_head.ensures.current c.in-Ok-swap_head.ensures.idle c.in-Ok-swap_head.ensures.catalog c.in-Ok-swap_head.ensures.counts c.in-Ok-swap_head.ensures.pool (sym (length-map c.args.records.now keyed))

pub returns-in-Err-swap_head-clause-err : goal.returns-in-Err-swap_head-clause-err
returns-in-Err-swap_head-clause-err g c =
    fell_so c.args.volume.now c.args.file c.args.head.now (map keyed c.args.records.now) c.requires.sound.0 c.requires.whole c.requires.sound.1 c.requires.there c.in-Ok.start c.wanted-wanted.result c.wanted-wanted.ensures.is c.in-Ok.ensures.free c.with_new_journals-new.result
    c.home.result.now.greatest_moment c.with_new_journals-new.ensures (ap (λ (h : Home). h.greatest_moment) c.home.ensures) c.store.result.now c.store.ensures.value
    c.load_moved.new.head c.load_moved.new.store c.in-Ok-load_moved.ensures.head c.in-Ok-load_moved.ensures.form c.in-Ok-load_moved.ensures.loaded c.in-Ok-load_moved.ensures.wrote c.in-Ok.ensures.lowest c.catalogs_stand_on_the_front.ensures (head_block_of c.load_moved.new.head) c.requires.file
    c.in-Err-swap_head.ensures.holds c.swap_head.new.volume c.in-Err-swap_head.down c.in-Err-swap_head.ensures.down c.in-Err-swap_head.ensures.counts c.in-Err-swap_head.ensures.pool c.in-Err-swap_head.ensures.catalog
