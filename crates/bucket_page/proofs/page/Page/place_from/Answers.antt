use Rattle.std.proofs.Common.{length, drop, take, ap, ◌∙◌, arith}
use Rattle.bucket_page.specs.Pages.{front_size, front_slot}
use Rattle.bucket_page.proofs.PageLaws.{slot_stands}
use Rattle.bucket_page.proofs.Orders.{slot_here}
use Rattle.bucket_page.proofs.page.Page.place_from.Goals as goal

pub front_len-size-requires : goal.front_len-size-requires
front_len-size-requires c =
    let stands = slot_stands c.args.kind (length c.args.bytes.now) c.args.i c.args.bytes.now c.requires.packed c.requires.there in
    omega (arith, stands.long, stands.after, stands.within, c.slot_from-at.ensures, c.requires.packed.fits)

pub overflow_cast-result : goal.overflow_cast-result
overflow_cast-result c =
    let stands = slot_stands c.args.kind (length c.args.bytes.now) c.args.i c.args.bytes.now c.requires.packed c.requires.there in
    omega (arith, stands.long, stands.after, stands.within, c.slot_from-at.ensures, c.requires.packed.fits, c.requires.small)

pub overflow_cast-result-2 : goal.overflow_cast-result-2
overflow_cast-result-2 c =
    let stands = slot_stands c.args.kind (length c.args.bytes.now) c.args.i c.args.bytes.now c.requires.packed c.requires.there in
    let size = c.front_len-size.ensures ∙ ap (λ n. front_size c.args.kind (drop n c.args.bytes.now)) c.slot_from-at.ensures ∙ stands.size in
    omega (arith, size, stands.after, stands.within, c.requires.packed.fits, c.requires.small)

pub returns-clause-size : goal.returns-clause-size
returns-clause-size c =
    let stands = slot_stands c.args.kind (length c.args.bytes.now) c.args.i c.args.bytes.now c.requires.packed c.requires.there in
    c.front_len-size.ensures ∙ ap (λ n. front_size c.args.kind (drop n c.args.bytes.now)) c.slot_from-at.ensures ∙ stands.size

pub returns-clause-within : goal.returns-clause-within
returns-clause-within c =
    let stands = slot_stands c.args.kind (length c.args.bytes.now) c.args.i c.args.bytes.now c.requires.packed c.requires.there in
    let size = c.front_len-size.ensures ∙ ap (λ n. front_size c.args.kind (drop n c.args.bytes.now)) c.slot_from-at.ensures ∙ stands.size in
    omega (arith, size, stands.after, stands.within, c.slot_from-at.ensures, c.requires.packed.fits)

pub returns-clause-slot : goal.returns-clause-slot
returns-clause-slot c =
    let bytes = c.args.bytes.now in
    let here = slot_here c.args.kind (length bytes) c.args.i bytes c.requires.packed c.requires.there in
    (λ k. take (c.front_len-size.ensures k) (drop c.slot_from-at.result bytes)) ∙ ap (λ n. front_slot c.args.kind (drop n bytes)) c.slot_from-at.ensures ∙ here.is
