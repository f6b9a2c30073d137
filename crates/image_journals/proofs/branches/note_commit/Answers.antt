use Rattle.std.proofs.Common.{◌||◌, sym, ap, ◌∙◌}
use Rattle.image_journals.specs.Headers.{passes, is_among}
use Rattle.image_journals.proofs.CommitLemmas.{among_put, commits_own, commits_none}
use Rattle.image_journals.proofs.branches.note_commit.Goals as goal

pub returns-then-not-is_commit : goal.returns-then-not-is_commit
returns-then-not-is_commit c = λ s. ap (λ b. b || is_among s c.args.found.now.keys) (sym (commits_none (passes c.args.counting) c.args.entry.now s (sym c.is_commit.ensures ∙ c.if-not-is_commit.true)))

pub returns : goal.returns
returns c = λ s.
    ap (is_among s) c.in_ok-insert.ensures.keys ∙ among_put s c.args.found.now.keys record { serial = c.args.entry.now.serial } ∙
    ap (λ b. b || is_among s c.args.found.now.keys) (sym (commits_own (passes c.args.counting) c.args.entry.now s (sym c.is_commit.ensures ∙ c.if-not-is_commit.false)))
