use Rattle.std.proofs.Common.{◌≡◌, ◌+◌, ◌-◌, [], ◌∷◌, take, drop, length, min, refl, ap, subst, ◌∙◌, arith}
use Rattle.index_blocks.specs.index_bucket.Entries.{sizes_of}
use Rattle.load_model.specs.Nodes.{entries_by}
use Rattle.load_pages.specs.load_laws.Pages.{Adds}
use Rattle.load_pages.specs.load_laws.Keys.{entry_pages}
use Rattle.file_loads.proofs.LoopLemmas.{level_none, level_more, level_room, level_done}
use Rattle.file_loads.proofs.PageLemmas.{adds_none}
use Rattle.file_loads.proofs.IndexLemmas.{sized_part}
use Rattle.file_loads.proofs.WriteLemmas.{none_written, written_more, leaves_later, quiet_self, quiet_more, on_err_any}
use Rattle.file_loads.proofs.index.write_level.Goals as goal

pub loop-at-init : goal.loop-at-init
loop-at-init g c =
    let h = c.args.head.now in
    let keys = c.args.keys.now in
    let s0 = c.args.store.now in
    record {
      to = level_none h (sizes_of h).fan_out c.args.first keys s0.current (adds_none h (c.args.first + length keys) s0.current);
      written = none_written h c.args.staged.now s0 c.requires.ready c.requires.counted c.requires.room;
      quiet = quiet_self s0.disk;
      pool = refl;
      within = omega arith;
    }

pub returns-clause-adds : goal.returns-clause-adds
returns-clause-adds g c =
    let h = c.args.head.now in
    level_done h (sizes_of h).fan_out c.args.first c.args.keys.now c.loop-at.n c.loop-at.at c.args.store.now.current c.loop-at.store.current (omega (arith, c.loop-at-test.false)) c.loop-at.invariant.to

pub write_node-requires-clause-there : goal.write_node-requires-clause-there
write_node-requires-clause-there g c =
    let h = c.args.head.now in
    let room = level_room h (sizes_of h).fan_out c.args.first c.args.keys.now c.loop-at.n c.loop-at.at c.args.store.now.current c.loop-at.store.current c.loop-at-test.true c.loop-at.invariant.to in omega (arith, room, c.requires.there)

pub write_node-requires-clause-sized : goal.write_node-requires-clause-sized
write_node-requires-clause-sized g c = sized_part c.args.head.now.key_size (c.loop-at.at + c.min.result - c.loop-at.at) c.loop-at.at c.args.keys.now c.requires.sized

pub returns-in_err-write_node-clause-down : goal.returns-in_err-write_node-clause-down
returns-in_err-write_node-clause-down g c =
    on_err_any c.from_residual.result
    (leaves_later c.args.head.now c.loop-at.staged c.args.store.now c.loop-at.store c.write_node.new.store c.loop-at.invariant.written c.in_err-write_node.ensures.down)

pub loop-at-preserved : goal.loop-at-preserved
loop-at-preserved g c =
    let h = c.args.head.now in
    let keys = c.args.keys.now in
    let first = c.args.first in
    let at = c.loop-at.at in
    let s0 = c.args.store.now in
    let s1 = c.loop-at.store in
    let s2 = c.write_node.new.store in
    let before = c.loop-at.invariant in
    let e = c.in_ok-write_node.ensures in
    let fan = (sizes_of h).fan_out in
    let wide = c.fan_out-most.ensures.wide in
    let is = c.fan_out-most.ensures.is in
    let count : c.min.result ≡ min fan (length keys - at) = c.min.ensures ∙ ap (λ n. min n (length keys - at)) is in
    let same : at + c.min.result - at ≡ c.min.result = omega arith in
    record {
      to = level_more h fan first keys c.loop-at.n at c.min.result s0.current s1.current s2.current c.loop-at-test.true (omega (arith, wide, is)) count
          (subst (λ m. Adds h c.loop-at.n (entry_pages (entries_by (first + at) (take m (drop at keys)) ∷ [])) s1.current s2.current) same e.adds) before.to;
      written = written_more h c.loop-at.staged c.write_node.new.staged s0 s1 s2 before.written e.ok;
      quiet = quiet_more s0.disk s1.disk s2.disk before.quiet e.counts;
      pool = e.pool ∙ before.pool;
      within = omega (arith, count, c.loop-at-test.true);
    }
