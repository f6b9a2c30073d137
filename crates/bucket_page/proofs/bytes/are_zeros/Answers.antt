use Rattle.std.proofs.Common.{◌∙◌, length, replicate, sym, take}
use Rattle.std.proofs.lemmas.Slice.Eq.{bytes_eq-Decides}
use Rattle.bucket_page.proofs.Zeros.{zeros_each, zeros_are}
use Rattle.bucket_page.proofs.bytes.are_zeros.Goals as goal

pub returns : goal.returns
returns c =
    let bytes = c.args.bytes.now in
    let same = bytes_eq-Decides bytes (take (length bytes) (replicate 512 0)) in
    (λ i. zeros_each 512 bytes (same.0 (sym c.eq.ensures ∙ i)) c.requires, λ each. c.eq.ensures ∙ same.1 (zeros_are 512 bytes c.requires each))
