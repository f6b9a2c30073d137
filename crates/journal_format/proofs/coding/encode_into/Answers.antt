use Rattle.std.proofs.Common.{length, arith}
use Rattle.journal_model.specs.Entries.{has_image}
use Rattle.journal_format.specs.Heads.{kind_code, flag_of}
use Rattle.journal_format.proofs.Decoding.{image_limit}
use Rattle.journal_format.proofs.coding.encode_into.Goals as goal

pub returns-clause-few : goal.returns-clause-few
returns-clause-few c =
    let e = c.args.e.now in
    let image = image_limit (has_image (kind_code e.kind) (flag_of e.kind e.present e.outcome)) (length c.args.image.now) c.requires.entry.image in
    omega (arith, image, c.key_bytes-key.ensures.few, c.clear.ensures.len, c.add_fields.ensures.len, c.add.ensures.len, c.add-2.ensures.len, c.add-3.ensures.len, c.add-4.ensures.len, c.add-5.ensures.len)
