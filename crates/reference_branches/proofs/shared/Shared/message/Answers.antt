use Rattle.std.proofs.Common.{◌≡◌, suc, ◌<◌, ◌-◌, ◌∙◌, ap, sym, map, refl, length, arith}
use Rattle.std.specs.Option.{option_map}
use Rattle.std.proofs.lemmas.Option.{slice_get-map, slice_get_read}
use Rattle.net_wire.specs.Messages.{message_of}
use Rattle.reference_branches.proofs.DoubtLemmas.{message_found}
use Rattle.reference_branches.proofs.shared.Shared.message.Goals as goal

pub returns : goal.returns
returns c =
    let number = c.args.number in
    let k = number - 1 in
    let wire = c.args.self.now.wire.items in
    let no = c.if-number-eq0.false in
    let e : number ≡ suc k = omega (arith, no) in
    let len = c.len.ensures in
    let few : k < length wire = (let f = c.if-len-number.false in omega (arith, no, f, len)) in
    sym (message_found number k (map message_of wire) e ∙ slice_get-map message_of wire k ∙ ap (option_map message_of) (slice_get_read wire (length wire) k c.index.result.now refl few c.index.ensures))
