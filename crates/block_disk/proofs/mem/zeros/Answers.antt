use Rattle.std.proofs.Common.{ℕ, List, [], ◌∷◌, ◌++◌, replicate, ◌∙◌, ap}
use Rattle.std.proofs.lemmas.List.{replicate-append-replicate}
use Rattle.block_disk.proofs.mem.zeros.Goals as goal

pub loop-block-preserved : goal.loop-block-preserved
loop-block-preserved c =
    let zeros = replicate {A = ℕ} 512 0 in
    c.in_ok-push.ensures.items ∙ ap (λ (all : List (List ℕ)). all ++ zeros ∷ []) c.loop-block.invariant ∙ replicate-append-replicate c.loop-block._block 1 zeros
