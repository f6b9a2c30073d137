use Rattle.std.proofs.Common.{◌≡◌, ◌<◌, ◌≤◌, ◌+◌, ℕ, List, Option, length, sym, ap, subst, ◌∙◌, arith}
use Rattle.change_set.specs.Files.{free_frames}
use Rattle.index_blocks.specs.index_bucket.Entries.{sizes_of}
use Rattle.load_pages.specs.load_laws.Pages.{Adds}
use Rattle.load_model.specs.Nodes.{level_over}
use Rattle.load_pages.specs.load_laws.Keys.{every, entry_pages, index_pages}
use Rattle.file_loads.proofs.IndexLemmas.{index_more, index_room, kept_up, kept_sized, every_fewer}
use Rattle.file_loads.proofs.WriteLemmas.{placed_later, leaves_later, on_ok_then, on_err_then}
use Rattle.file_loads.proofs.index.+write_index.Goals as goal

pub write_index-requires : goal.write_index-requires
write_index-requires g t c = λ κs outlives.
    let h = c.args.head.now in
    let first = c.args.first in
    let keys = c.args.keys.now.items in
    let up = c.truncate.new.self.items in
    let s0 = c.args.store.now in
    let s1 = c.write_level.new.store in
    let e = c.in_ok-write_level.ensures in
    let fan = c.fan_out.ensures.is in
    let fan_wide = c.fan_out.ensures.wide in
    let few = c.keep_every-kept.ensures.few in
    let as_long = c.keep_every-kept.auto.keys in
    let as_many = c.deref_mut.ensures.len in
    let count : c.len-count.result ≡ length keys = c.len-count.ensures ∙ sym as_many ∙ ap (λ (ks : List (List ℕ)). length ks) c.deref_mut.ensures.value in
    let up_is : up ≡ every (sizes_of h).fan_out (length keys) keys =
    kept_up (sizes_of h).fan_out c.fan_out.result c.keep_every-kept.result c.args.keys.now.len keys c.deref_mut.result.now c.keep_every-kept.new.keys up _ c.truncate.ensures.items c.keep_every-kept.ensures.kept c.deref_mut.ensures.value fan
    (omega (arith, few, as_many)) (omega (arith, few, as_long)) in
    let wide : 3 ≤ (sizes_of h).fan_out = omega (arith, fan, fan_wide) in
    let two : 1 < length keys = omega (arith, c.if-count-le1.false, count) in
    let fewer = every_fewer (sizes_of h).fan_out first keys up wide two up_is in
    let room = index_room h first keys up wide two up_is in
    let less : length up < t = omega (arith, fewer, c.decreases) in
    let there : first + length keys + length up + length (index_pages h (first + length keys) up) ≤ h.alloc = omega (arith, room, c.requires.there) in (
      less,
      (
        outlives,
        (
          placed_later h s0.disk s1.disk e.counts c.requires.placed,
          (
            subst (λ (p : List (Option (List ℕ))). 1 ≤ free_frames p) (sym e.pool) c.requires.frames,
            (
              e.ok.ready,
              (
                e.ok.counted,
                (
                  e.ok.room,
                  (c.requires.key, (kept_sized h.key_size (sizes_of h).fan_out keys up up_is c.requires.sized, subst (λ n. first + n + length up + length (index_pages h (first + n) up) ≤ h.alloc) (sym count) there)),
                ),
              ),
            ),
          ),
        ),
      ),
    )

pub returns-clause-adds : goal.returns-clause-adds
returns-clause-adds g t c =
    let h = c.args.head.now in
    let first = c.args.first in
    let keys = c.args.keys.now.items in
    let up = c.truncate.new.self.items in
    let s0 = c.args.store.now.current in
    let s1 = c.write_level.new.store.current in
    let s2 = c.write_index.new.store.current in
    let fan = c.fan_out.ensures.is in
    let fan_wide = c.fan_out.ensures.wide in
    let few = c.keep_every-kept.ensures.few in
    let as_long = c.keep_every-kept.auto.keys in
    let as_many = c.deref_mut.ensures.len in
    let count : c.len-count.result ≡ length keys = c.len-count.ensures ∙ sym as_many ∙ ap (λ (ks : List (List ℕ)). length ks) c.deref_mut.ensures.value in
    let up_is : up ≡ every (sizes_of h).fan_out (length keys) keys =
    kept_up (sizes_of h).fan_out c.fan_out.result c.keep_every-kept.result c.args.keys.now.len keys c.deref_mut.result.now c.keep_every-kept.new.keys up _ c.truncate.ensures.items c.keep_every-kept.ensures.kept c.deref_mut.ensures.value fan
    (omega (arith, few, as_many)) (omega (arith, few, as_long)) in
    let level : Adds h (first + length keys) (entry_pages (level_over (sizes_of h).fan_out first keys)) s0 s1 =
    subst (λ (ks : List (List ℕ)). Adds h (first + length ks) (entry_pages (level_over (sizes_of h).fan_out first ks)) s0 s1) c.deref.ensures.value c.in_ok-write_level.ensures.adds in
    on_ok_then c.write_index.result
    (λ adds. index_more h first keys up s0 s1 s2 (omega (arith, fan_wide, fan)) (omega (arith, c.if-count-le1.false, count)) up_is level
    (subst (λ n. Adds h (first + n + length up) (index_pages h (first + n) up) s1 s2) count adds)) c.write_index.ensures.adds

pub returns-clause-down : goal.returns-clause-down
returns-clause-down g t c =
    on_err_then c.write_index.result
    (λ leaves. leaves_later c.args.head.now c.write_level.new.staged c.args.store.now c.write_level.new.store c.write_index.new.store c.in_ok-write_level.ensures.ok leaves) c.write_index.ensures.down
