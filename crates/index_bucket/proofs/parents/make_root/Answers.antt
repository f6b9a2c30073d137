use Rattle.std.proofs.Common.{◌≡◌, ◌≤◌, ◌*◌, ◌∷◌, [], replicate, length, take, ap, subst, sym, ◌∙◌, List, ℕ, arith}
use Rattle.bucket_page.specs.Pages.{slots_of, IsBucket}
use Rattle.index_model.specs.Indexes.{Entry}
use Rattle.index_bucket.specs.Entries.{index_kind}
use Rattle.index_bucket.specs.Takes.{TakesIn, entries_of}
use Rattle.index_bucket.specs.Laws.{HasEntries}
use Rattle.index_bucket.proofs.EntryLaws.{length_entries}
use Rattle.index_bucket.proofs.ParentLaws.{root_taken}
use Rattle.index_bucket.proofs.parents.make_root.Goals as goal

pub returns : goal.returns
returns c =
    let h = c.args.head.now in
    let size = c.args.size in
    let old = take size c.lead_all.new.bytes in
    let count = length_entries h (slots_of (index_kind h) old) in
    let takes = c.take_handed.ensures.takes c.lead_all.ensures.bucket (omega (arith, count, ap (λ (x : List Entry). length x) c.lead_all.ensures.entry)) in
    let r : Entry = record { separator = replicate h.key_size 0; child = c.args.root } in
    let laid : IsBucket (index_kind h) (512 * h.bucket) old = subst (λ (n : ℕ). IsBucket (index_kind h) n old) c.requires.sized c.lead_all.ensures.bucket in
    let takes' : TakesIn h (512 * h.bucket) c.args.key.now (entries_of h c.args.handed.now) old c.take_handed.result (take size c.take_handed.new.low) (take size c.take_handed.new.high) =
    subst (λ (n : ℕ). TakesIn h n c.args.key.now (entries_of h c.args.handed.now) old c.take_handed.result (take size c.take_handed.new.low) (take size c.take_handed.new.high)) c.requires.sized takes in
    root_taken h c.args.key.now r c.args.handed.now old c.take_handed.result (take size c.take_handed.new.low) (take size c.take_handed.new.high) c.requires.one c.requires.key laid c.lead_all.ensures.entry takes'
