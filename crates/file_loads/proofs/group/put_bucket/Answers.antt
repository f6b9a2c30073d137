use Rattle.std.proofs.Common.{◌*◌, ℕ, [], ◌∷◌, take, List, Option, sym, ap, subst, ◌∙◌, arith}
use Rattle.block_disk.specs.Disk.{DiskState}
use Rattle.careful_write.specs.Down.{Counts}
use Rattle.careful_write.specs.State.{StoreState}
use Rattle.careful_write.specs.Steps.{Quiet}
use Rattle.load_pages.specs.load_laws.Pages.{Page, IsPage, Adds}
use Rattle.file_loads.proofs.PageLemmas.{adds_one}
use Rattle.file_loads.proofs.WriteLemmas.{ready_staged, disk_staged, written_staged, written_applied, down_applied, adds_applied, quiet_self}
use Rattle.file_loads.proofs.group.put_bucket.Goals as goal

pub returns-then-staged-le-FULL-clause-adds : goal.returns-then-staged-le-FULL-clause-adds
returns-then-staged-le-FULL-clause-adds g c = λ page is.
    let h = c.args.head.now in
    let s0 = c.args.store.now in
    let stage = c.stage_bytes.ensures in
    adds_one h c.args.n s0.disk.size c.args.bytes.now page s0.current c.stage_bytes.new.store.current c.requires.there c.requires.placed.from c.requires.placed.to stage.whole stage.current is

pub returns-then-staged-le-FULL-clause-ok : goal.returns-then-staged-le-FULL-clause-ok
returns-then-staged-le-FULL-clause-ok g c =
    let stage = c.stage_bytes.ensures in
    let more = stage.touched in
    written_staged c.args.head.now c.args.n _ c.args.bytes.now c.args.store.now c.stage_bytes.new.store c.requires.there stage c.requires.ready (omega (arith, more, c.requires.counted)) (omega (arith, c.if-staged-le-FULL.true))

pub returns-then-staged-le-FULL-clause-counts : goal.returns-then-staged-le-FULL-clause-counts
returns-then-staged-le-FULL-clause-counts g c =
    subst (λ (d : DiskState). Quiet c.args.store.now.disk d) (sym (disk_staged c.args.head.now c.args.n c.args.bytes.now c.args.store.now c.stage_bytes.new.store c.stage_bytes.ensures)) (quiet_self c.args.store.now.disk)

pub returns-then-staged-le-FULL-clause-pool : goal.returns-then-staged-le-FULL-clause-pool
returns-then-staged-le-FULL-clause-pool g c = ap (λ (s : StoreState). s.pool) c.stage_bytes.ensures.rest

pub apply-requires : goal.apply-requires
apply-requires g c = ready_staged c.args.head.now c.args.n c.args.bytes.now c.args.store.now c.stage_bytes.new.store c.stage_bytes.ensures c.requires.ready

pub returns-clause-adds : goal.returns-clause-adds
returns-clause-adds g c =
    let h = c.args.head.now in
    let s0 = c.args.store.now in
    let stage = c.stage_bytes.ensures in
    adds_applied c.apply.result (λ (y : Option (List (List ℕ))). (page : Page) → IsPage h page (take (512 * h.bucket) c.args.bytes.now) → Adds h c.args.n (page ∷ []) s0.current y) c.stage_bytes.new.store.current c.apply.new.self.current c.apply.ensures.current
    (λ page is. adds_one h c.args.n s0.disk.size c.args.bytes.now page s0.current c.stage_bytes.new.store.current c.requires.there c.requires.placed.from c.requires.placed.to stage.whole stage.current is)

pub returns-clause-ok : goal.returns-clause-ok
returns-clause-ok g c =
    written_applied c.args.head.now c.args.n c.args.bytes.now c.args.store.now c.stage_bytes.new.store c.apply.new.self c.apply.result c.requires.there c.stage_bytes.ensures c.apply.ensures.content c.apply.ensures.current c.apply.ensures.touched c.apply.ensures.ready

pub returns-clause-down : goal.returns-clause-down
returns-clause-down g c = down_applied c.args.head.now c.args.n c.args.bytes.now c.args.store.now c.stage_bytes.new.store c.apply.new.self c.apply.result c.requires.there c.stage_bytes.ensures c.apply.ensures.err

pub returns-clause-counts : goal.returns-clause-counts
returns-clause-counts g c =
    subst (λ (d : DiskState). Counts c.apply.result d c.apply.new.self.disk) (disk_staged c.args.head.now c.args.n c.args.bytes.now c.args.store.now c.stage_bytes.new.store c.stage_bytes.ensures) c.apply.ensures.counts

pub returns-clause-pool : goal.returns-clause-pool
returns-clause-pool g c = c.apply.ensures.pool ∙ ap (λ (s : StoreState). s.pool) c.stage_bytes.ensures.rest
