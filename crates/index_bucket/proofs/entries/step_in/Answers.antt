use Rattle.std.proofs.Common.{◌≡◌, ap, ◌∙◌, arith}
use Rattle.bucket_page.specs.Pages.{slots_of, slot_at, u32_at}
use Rattle.index_model.specs.Indexes.{child_for}
use Rattle.index_bucket.specs.Entries.{index_kind, entries_at}
use Rattle.index_bucket.proofs.EntryLaws.{child_at, child_below}
use Rattle.index_bucket.proofs.entries.step_in.Goals as goal

pub returns-then-to-head-clause-child : goal.returns-then-to-head-clause-child
returns-then-to-head-clause-child c =
    let h = c.args.head.now in
    let slots = slots_of (index_kind h) c.args.bytes.now in
    λ node. c.child-to.ensures ∙ ap (λ r. u32_at r h.key_size) c.entry.ensures.is ∙ ap (λ i. u32_at (slot_at slots i) h.key_size) c.find_entry-i.ensures.place
    ∙ child_at h c.args.key.now slots (omega (arith, c.find_entry-i.ensures.within, c.requires.counted))

pub returns-else-to-head-clause-child : goal.returns-else-to-head-clause-child
returns-else-to-head-clause-child c =
    let h = c.args.head.now in
    let k = c.args.key.now in
    let slots = slots_of (index_kind h) c.args.bytes.now in
    λ node.
    let to : c.child-to.result ≡ child_for k (entries_at h c.args.bytes.now) =
    c.child-to.ensures ∙ ap (λ r. u32_at r h.key_size) c.entry.ensures.is ∙ ap (λ i. u32_at (slot_at slots i) h.key_size) c.find_entry-i.ensures.place
    ∙ child_at h k slots (omega (arith, c.find_entry-i.ensures.within, c.requires.counted)) in
    let below = child_below h.used k (entries_at h c.args.bytes.now) node.some node.used in
    absurd (omega (arith, to, below, c.if-to-head.false))
