use Rattle.std.proofs.Common.{◌≡◌, ◌+◌, length, take, ap, ◌∙◌, List, ℕ, replicate, refl, arith}
use Rattle.file_base.specs.Bytes.{spliced}
use Rattle.index_bucket.specs.Entries.{entry_of}
use Rattle.index_bucket.proofs.ParentLaws.{pieces, entry_is}
use Rattle.index_bucket.proofs.parents.entry_bytes.Goals as goal

pub returns-clause-is : goal.returns-clause-is
returns-clause-is c =
    let h = c.args.head.now in
    let s = c.args.separator.now in
    let n = c.number_bytes.result in
    let four : length n ≡ 4 = ap length c.number_bytes.ensures in
    let z : List ℕ = replicate 68 0 in
    let room : length z ≡ 68 = refl in
    let long : h.key_size + 4 ≡ length s + length n = omega (arith, c.requires.separator, four) in
    ap (λ (x : List ℕ). entry_of h (take (h.key_size + 4) x)) (c.splice-2.ensures ∙ ap (λ (y : List ℕ). spliced y (length s) n) c.splice.ensures)
    ∙ ap (λ (j : ℕ). entry_of h (take j (spliced (spliced z 0 s) (length s) n))) long
    ∙ ap (entry_of h) (pieces z s n (omega (arith, c.requires.key, c.requires.separator, four, room)))
    ∙ entry_is h s n c.args.child c.requires.separator c.number_bytes.ensures c.ranges.child.fits
