use Rattle.std.proofs.Common.{◌≡◌, ◌+◌, ℕ, true, List, drop, ap, sym, ◌∙◌, arith}
use Rattle.std.specs.Ordering.{nat_cmp, is_lt}
use Rattle.std.specs.Cmp.Lexicographic.{slice_cmp}
use Rattle.file_base.specs.Bytes.{piece_at}
use Rattle.bucket_page.specs.declared.kind.PageKind.TheVariants.{Data}
use Rattle.bucket_page.specs.Pages.{front_size, front_slot, suits, may_precede}
use Rattle.bucket_page.proofs.Orders.{key_there, data_within}
use Rattle.bucket_page.proofs.Walks.{front_whole}
use Rattle.bucket_page.proofs.PageLaws.{suit_size}
use Rattle.bucket_page.proofs.layout.precedes.Goals as goal

here : (pos size a : ℕ) (bytes : List ℕ) → suits (Data pos size) (front_slot (Data pos size) (drop a bytes)) ≡ true
    → piece_at bytes (a + (4 + pos)) size ≡ piece_at (front_slot (Data pos size) (drop a bytes)) (4 + pos) size
here pos size a bytes suit =
    let slot = front_slot (Data pos size) (drop a bytes) in
    let long : front_size (Data pos size) slot ≡ front_size (Data pos size) (drop a bytes) = sym (suit_size (Data pos size) slot suit) ∙ front_whole (Data pos size) (drop a bytes) suit in
    sym (key_there bytes a (front_size (Data pos size) (drop a bytes)) (4 + pos) size (omega (arith, data_within pos size slot suit, long)))

pub returns-in-Data : goal.returns-in-Data
returns-in-Data c =
    let pos = c.in-Data.key_pos in
    let size = c.in-Data.key_size in
    let bytes = c.args.bytes.now in
    let is = c.in-Data.is in
    let one = ap (λ k. suits k (front_slot k (drop c.args.a bytes))) (sym is) ∙ c.requires.one in
    let other = ap (λ k. suits k (front_slot k (drop c.args.b bytes))) (sym is) ∙ c.requires.other in
    c.key_before.ensures
    ∙ (λ i. is_lt (slice_cmp nat_cmp (here pos size c.args.a bytes one i) (here pos size c.args.b bytes other i)))
    ∙ ap (λ k. may_precede k (front_slot k (drop c.args.a bytes)) (front_slot k (drop c.args.b bytes))) (sym is)
