use Rattle.std.proofs.Common.{◌<◌, ◌+◌, ◌*◌, ℕ, length, take, ap, ◌∙◌, List, arith}
use Rattle.index_bucket.proofs.ParentLaws.{suits_long}
use Rattle.load_pages.proofs.NodeFills.{node_count, node_bytes, node_more, key_at, same_key, entry_fits, put_so}
use Rattle.load_pages.proofs.nodes.fill_node.Goals as goal

pub entry_bytes-entry-requires-clause-separator : goal.entry_bytes-entry-requires-clause-separator
entry_bytes-entry-requires-clause-separator c =
    ap (λ (x : List ℕ). length x) (c.bytes.ensures.value ∙ c.index-keys-i.is) ∙ key_at c.args.head.now.key_size c.args.keys.now c.loop-i.i _ (omega (arith, c.loop-i-test.true)) c.requires.sized

pub insert_front-requires-clause-there : goal.insert_front-requires-clause-there
insert_front-requires-clause-there c =
    let h = c.args.head.now in
    let count = node_count h c.args.first c.args.keys.now c.loop-i.i (take (512 * h.bucket) c.loop-i.bytes) (omega (arith, c.loop-i-test.true)) c.loop-i.invariant.to in omega (arith, count)

pub loop-i-preserved : goal.loop-i-preserved
loop-i-preserved c =
    let h = c.args.head.now in
    let keys = c.args.keys.now in
    let i = c.loop-i.i in
    let old = take (512 * h.bucket) c.loop-i.bytes in
    let slot = take (h.key_size + 4) c.entry_bytes-entry.result in
    let below : i < length keys = omega (arith, c.loop-i-test.true) in
    let before = c.loop-i.invariant.to in
    let used = node_bytes h c.args.first keys i old (omega (arith, below)) before in
    let long = suits_long h slot c.entry_bytes-entry.ensures.suits in
    let room = entry_fits h i (length keys) below c.requires.few c.requires.one in
    let put = put_so c.insert_front.result (λ isnt. let full = c.insert_front.ensures.full.0 isnt in omega (arith, full, used, long, room)) in
    let key = c.bytes.ensures.value ∙ c.index-keys-i.is ∙ same_key keys i _ below in
    record {
      to = node_more h c.args.first keys i old (take (512 * h.bucket) c.insert_front.new.frame) slot below
          (c.entry_bytes-entry.ensures.is ∙ ap (λ (k : List ℕ). record { separator = k; child = c.args.first + i }) key) before (c.insert_front.ensures.yes put);
    }
