use Rattle.std.proofs.Common.{◌≡◌, ◌≤◌, ℕ, List, length, replicate, drop, ap, ◌∙◌, arith, rules}
use Rattle.std.proofs.lemmas.List.{places}
use Rattle.file_base.specs.Bytes.{spliced}
use Rattle.file_base.proofs.Splices.{length-spliced}
use Rattle.bucket_page.specs.Pages.{header, tag_of}
use Rattle.bucket_page.proofs.Fronts.{cleared, drop-spliced}
use Rattle.bucket_page.proofs.front.clear_front.Goals as goal

pub returns-clause-packed : goal.returns-clause-packed
returns-clause-packed c =
    cleared c.args.kind c.args.size c.args.next c.args.frame.now c.splice_zeros.new.bytes c.splice.new.bytes c.requires.least c.requires.within c.splice_zeros.ensures
    (c.splice.ensures ∙ ap (spliced c.splice_zeros.new.bytes 0) c.front.ensures)

pub returns-clause-behind : goal.returns-clause-behind
returns-clause-behind c =
    let frame = c.args.frame.now in
    let size = c.args.size in
    let blank : List ℕ = replicate size 0 in
    let zeros : length blank ≡ size = search (rules, places) in
    let long : size ≤ length c.splice_zeros.new.bytes = omega (arith, c.requires.within, ap length c.splice_zeros.ensures, length-spliced frame 0 blank (omega (arith, zeros, c.requires.within))) in
    let head = header (tag_of c.args.kind) 0 0 c.args.next in
    ap (drop size) (c.splice.ensures ∙ ap (spliced c.splice_zeros.new.bytes 0) c.front.ensures)
    ∙ drop-spliced c.splice_zeros.new.bytes size 0 head c.requires.least long
    ∙ ap (drop size) c.splice_zeros.ensures ∙ drop-spliced frame size 0 blank (omega (arith, zeros)) c.requires.within
