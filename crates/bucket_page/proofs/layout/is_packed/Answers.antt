use Rattle.std.proofs.Common.{◌≡◌, ◌+◌, true, length, drop, refl, ap, sym, ◌∙◌, arith, rules}
use Rattle.bucket_page.specs.Pages.{tag_of, header, u16_at, u32_at, slots_of, slots_from, all_suit, joined}
use Rattle.bucket_page.proofs.Walks.{packed_from, packed_behind}
use Rattle.bucket_page.proofs.layout.is_packed.Goals as goal

pub returns-else-end-read_u16-clause-yes : goal.returns-else-end-read_u16-clause-yes
returns-else-end-read_u16-clause-yes c = λ zero_there.
    let bytes = c.args.bytes.now in
    let kind = c.args.kind in
    let same : c.read_u16.result ≡ u16_at bytes 2 = c.read_u16.ensures in
    let suit : all_suit kind (slots_of kind bytes) ≡ true = ap (λ n. all_suit kind (slots_from kind n (drop 16 bytes))) (sym same) ∙ c.in-Some.ensures.some.0 in
    let end : c.in-Some.end ≡ 16 + length (joined (slots_of kind bytes)) = c.in-Some.ensures.some.1 ∙ ap (λ n. 16 + length (joined (slots_from kind n (drop 16 bytes)))) same in
    packed_from kind bytes (header (tag_of kind) (u16_at bytes 2) (u16_at bytes 4) (u32_at bytes 8)) c.in-Some.end (omega arith)
    (c.has_front.ensures.0 (search rules)) refl suit end (omega (arith, c.read_u16-in-Some.ensures))
    (c.is_blank.ensures.0 (search rules))

pub returns-else-end-read_u16-clause-no : goal.returns-else-end-read_u16-clause-no
returns-else-end-read_u16-clause-no c = λ wrong packed.
    let bytes = c.args.bytes.now in
    let blank = c.is_blank.ensures.1 (packed_behind c.args.kind bytes c.in-Some.end packed (omega (arith, c.read_u16-in-Some.ensures))) in
    search (rules, blank)
