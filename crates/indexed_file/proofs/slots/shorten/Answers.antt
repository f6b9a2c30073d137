use Rattle.std.proofs.Common.{◌≤◌, ◌+◌, arith}
use Rattle.indexed_file.proofs.RawLaws.{short_written}
use Rattle.indexed_file.proofs.slots.shorten.Goals as goal

pub returns : goal.returns
returns c =
    let le : c.args.head.now.key_pos + c.args.head.now.key_size ≤ c.number_at-size.result = omega arith in
    record {
      slot = short_written c.args.head.now c.args.slot.now c.put_slot.new.out c.number_at-size.result c.number_at-size.ensures le c.put_slot.ensures;
      size = omega (arith, c.requires.whole, c.requires.within, c.number_at-size.ensures);
    }
