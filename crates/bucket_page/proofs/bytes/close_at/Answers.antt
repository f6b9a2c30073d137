use Rattle.std.proofs.Common.{◌≡◌, ◌≤◌, ◌+◌, ◌-◌, ◌++◌, ◌∙◌, List, ℕ, length, take, drop, replicate, ap, arith, rules, append_assoc}
use Rattle.std.proofs.lemmas.List.{same_lists, places}
use Rattle.file_base.specs.Bytes.{piece_at, spliced}
use Rattle.bucket_page.specs.Moves.{closed}
use Rattle.bucket_page.proofs.bytes.close_at.Goals as goal

moved : (bytes moved1 : List ℕ) (at size end : ℕ) → at + size ≤ end → end ≤ length bytes → moved1 ≡ take at bytes ++ (piece_at bytes (at + size) (end - at - size) ++ drop (end - size) bytes)
    → spliced moved1 (end - size) (replicate size 0) ≡ closed bytes at size end
moved bytes moved1 at size end order within is =
    ap (λ b. spliced b (end - size) (replicate size 0)) is ∙ same_lists _ _ (search (rules, places)) (λ k d h. grind (arith, places))

pub returns : goal.returns
returns c =
    let bytes = c.args.bytes.now in
    let at = c.args.at in
    let size = c.args.size in
    let end = c.args.end in
    let count : end - (at + size) ≡ end - at - size = omega arith in
    let past : at + (end - (at + size)) ≡ end - size = omega (arith, c.requires.order) in
    let after = c.copy_within.ensures.after ∙ append_assoc (take at bytes) _ _ ∙ (λ k. take at bytes ++ (take (count k) (drop (at + size) bytes) ++ drop (past k) bytes)) in
    c.splice_zeros.ensures ∙ moved bytes c.copy_within.new.self at size end c.requires.order c.requires.within after
