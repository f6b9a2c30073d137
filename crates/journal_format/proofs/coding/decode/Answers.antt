use Rattle.std.proofs.Common.{◌≡◌, ◌∙◌, ◌+◌, ◌≤◌, ℕ, arith, ap, length, take, drop}
use Rattle.journal_format.specs.Fronts.{size_of, key_size, read_entry}
use Rattle.journal_format.proofs.IdSpellings.{Bytes}
use Rattle.journal_format.proofs.EntryLaws.{taken}
use Rattle.journal_format.proofs.FrontLaws.{short_body, stops_fails}
use Rattle.journal_format.proofs.Decoding.{Limits, limits, found, only, too_few, stops_whole, image_slice, slice_short}
use Rattle.journal_format.proofs.coding.decode.Goals.{After-head_of}
use Rattle.journal_format.proofs.coding.decode.Goals as goal

pub returns-in-Err-clause-only : goal.returns-in-Err-clause-only
returns-in-Err-clause-only c = λ e rest is joined. stops_whole c.in-Err.e c.args.bytes.now e rest c.in-Err.ensures.err is joined

pub returns-in-Err-clause-err : goal.returns-in-Err-clause-err
returns-in-Err-clause-err c = stops_fails c.in-Err.e c.args.bytes.now c.in-Err.ensures.err (λ i. omega (arith, c.type_inv.bytes i))

pub returns-then-bytes-size-clause-err : goal.returns-then-bytes-size-clause-err
returns-then-bytes-size-clause-err c =
    let size = c.size_at-image_len.ensures in
    short_body c.args.bytes.now c.in-Ok.ensures.long c.in-Ok.ensures.ok (λ i. omega (arith, c.type_inv.bytes i)) (let few = c.if-bytes-size.true in omega arith)

pub returns-then-bytes-size-clause-only : goal.returns-then-bytes-size-clause-only
returns-then-bytes-size-clause-only c = λ e rest is joined.
    let size = c.size_at-image_len.ensures in
    too_few c.args.bytes.now e rest is joined (let few = c.if-bytes-size.true in omega arith)

pub set-requires : goal.set-requires
set-requires c =
    let size = c.size_at-image_len.ensures in
    let l : Limits c.args.bytes.now = limits c.args.bytes.now c.in-Ok.ensures.ok c.in-Ok.ensures.long (λ i. omega (arith, c.type_inv.bytes i)) in
    slice_short _ _ _ (rw size l.image)

pub overflow_cast-result : goal.overflow_cast-result
overflow_cast-result c =
    let l : Limits c.args.bytes.now = limits c.args.bytes.now c.in-Ok.ensures.ok c.in-Ok.ensures.long (λ i. omega (arith, c.type_inv.bytes i)) in
    omega arith

-- the image that was read is that of the entry
read : (c : After-head_of) → c.set.new.self ≡ (read_entry c.args.bytes.now).image
read c = c.set.ensures ∙ image_slice c.args.bytes.now (key_size c.args.bytes.now) c.size_at-image_len.result ∙ ap (λ (n : ℕ). take n (drop (key_size c.args.bytes.now) (drop 48 c.args.bytes.now))) c.size_at-image_len.ensures

-- and so is its length
sized : (c : After-head_of) → 48 + key_size c.args.bytes.now + c.size_at-image_len.result ≡ size_of c.args.bytes.now
sized c = ap (λ (n : ℕ). 48 + key_size c.args.bytes.now + n) c.size_at-image_len.ensures

whole : (c : After-head_of) → size_of c.args.bytes.now ≤ length c.args.bytes.now
whole c = let size = sized c in let far = c.if-bytes-size.false in omega arith

pub head_of-requires : goal.head_of-requires
head_of-requires c = let size = c.size_at-image_len.ensures in let far = c.if-bytes-size.false in record { long = c.in-Ok.ensures.long; begun = c.in-Ok.ensures.ok; whole = omega arith }

pub returns-clause-found : goal.returns-clause-found
returns-clause-found c =
    let small : Bytes c.args.bytes.now = λ i. omega (arith, c.type_inv.bytes i) in
    found c.args.bytes.now _ _ (taken c.args.bytes.now c.in-Ok.ensures.ok c.in-Ok.ensures.long (whole c) small) (c.head_of.ensures.head c.set.new.self (read c)) (sized c) (whole c)

pub returns-clause-plain : goal.returns-clause-plain
returns-clause-plain c = c.head_of.ensures.plain c.set.new.self (read c)

pub returns-clause-only : goal.returns-clause-only
returns-clause-only c = λ e rest is joined.
    only c.args.bytes.now _ e _ rest is joined (c.head_of.ensures.head c.set.new.self (read c)) (sized c)
