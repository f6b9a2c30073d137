use Rattle.std.proofs.Common.{◌+◌, ◌||◌, map, drop, sym, ap, ◌∙◌}
use Rattle.recovery_model.specs.Places.{commits, committed}
use Rattle.image_journals.specs.Headers.{header_told, passes, is_among}
use Rattle.image_journals.proofs.CommitLemmas.{found_more, one_in_front}
use Rattle.image_journals.proofs.branches.committed_in.Goals as goal

pub loop-entry-preserved : goal.loop-entry-preserved
loop-entry-preserved c = λ s.
    let ok = passes c.args.counting in
    let i = c.loop-entry.entry-index in
    let xs = c.args.entries.now in
    let x = c.entry-item.result in
    found_more (commits ok (header_told x) s) (is_among s c.loop-entry.found.keys) (committed ok (map header_told (drop (i + 1) xs)) s) (is_among s c.note_commit.new.found.keys) (c.in_ok-note_commit.ensures s) ∙
    ap (λ b. is_among s c.loop-entry.found.keys || b) (sym (one_in_front ok xs i x s c.loop-entry-test.true c.entry-item.is)) ∙
    c.loop-entry.invariant s
