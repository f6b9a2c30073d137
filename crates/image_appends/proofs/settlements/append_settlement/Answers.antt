use Rattle.std.proofs.Common.{◌≡◌, ◌≢◌, ◌<◌, ◌+◌, ◌∙◌, false, length, option_map, refl, sym, ap, subst, arith}
use Rattle.std.specs.Prelude.{drop, slice_index_or}
use Rattle.block_disk.specs.Disk.{DiskState}
use Rattle.volume.specs.declared.catalog.Catalog.{Catalog}
use Rattle.volume.specs.Catalogs.{head_at}
use Rattle.image_appends.specs.declared.side.Side.TheVariants.{After, Before}
use Rattle.image_appends.specs.Images.{FileHasRoom}
use Rattle.image_appends.specs.Settling.{content_from, heads_from}
use Rattle.image_appends.proofs.Growing.{content_all, count_next, disk_so, heads_next, others_if, rest_on}
use Rattle.image_appends.proofs.settlements.append_settlement.Goals as goal

pub loop-file-init : goal.loop-file-init
loop-file-init g c = record { current = refl; catalog = refl; rest = refl; room = λ file from takes. c.requires.room file takes; few = omega arith; holds = λ h. h; ready = λ h. h }

pub append_both-requires-clause-room : goal.append_both-requires-clause-room
append_both-requires-clause-room g c =
    let v = c.args.volume.now in
    let l = c.loop-file in
    let n = length c.args.entry.now in
    λ takes. subst (λ (d : DiskState). FileHasRoom After n l.file l.volume.catalog.heads d × FileHasRoom Before n l.file l.volume.catalog.heads d) (sym (disk_so v.store l.volume.store l.invariant.rest)) (l.invariant.room l.file (omega arith) takes)

pub loop-file-preserved : goal.loop-file-preserved
loop-file-preserved g c =
    let v = c.args.volume.now in
    let l = c.loop-file in
    let old = l.invariant in
    let m = c.append_both.new.volume in
    let e = c.in-Ok.ensures in
    let files = c.args.files.now in
    let bytes = c.args.entry.now in
    let n = length bytes in
    let i = l.file in
    let takes = slice_index_or files i false in
    let heads = l.volume.catalog.heads in
    let within : i < length files = omega arith in
    let count = count_next files i takes within refl in
    record {
      current = (λ k. option_map (content_from (i + 1) (drop (i + 1) files) bytes (e.catalog k).heads) (e.current k)) ∙ sym (content_all files i bytes heads l.volume.store.current takes within refl) ∙ old.current;
      catalog = (λ k. record (e.catalog k) { heads = heads_from (i + 1) (drop (i + 1) files) n (e.catalog k).heads }) ∙ (λ k. record l.volume.catalog { heads = sym (heads_next files i n heads takes within refl) k }) ∙ old.catalog;
      rest = rest_on v.store l.volume.store m.store old.rest e.rest;
      room = λ file from there.
          let apart : file ≢ i = (λ same. let no_way : ⊥ = omega (arith, from, same) in no_way) in
          let is : head_at m.catalog.heads file ≡ head_at heads file = ap (λ (k : Catalog). head_at k.heads file) e.catalog ∙ others_if takes i file n heads apart in
          let had = old.room file (omega (arith, from)) there in
          ((λ h at kept. had.0 h (sym is ∙ at) kept), (λ h at kept. had.1 h (sym is ∙ at) kept));
      few = omega (arith, e.few, count, old.few);
      holds = λ h. e.holds (old.holds h);
      ready = λ h. e.ready (old.ready h);
    }
