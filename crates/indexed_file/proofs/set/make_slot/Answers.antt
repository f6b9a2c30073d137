use Rattle.std.proofs.Common.{◌+◌, take, Some, ap, sym, ◌∙◌}
use Rattle.std.specs.Option.{option_copied}
use Rattle.indexed_file.proofs.RawLaws.{means_some, means_none}
use Rattle.indexed_file.proofs.set.make_slot.Goals as goal

pub returns-in-Some : goal.returns-in-Some
returns-in-Some c =
    means_some c.args.head.now c.args.key.now c.bytes-bytes.result.now c.args.room (option_copied c.args.value) (take (4 + c.args.room) c.put_slot.new.out) (ap option_copied c.in-Some.is ∙ ap Some (sym c.bytes-bytes.ensures.value)) c.requires.form.key c.requires.form.holds
    c.requires.suits c.requires.holds c.put_slot.ensures

pub returns-in-None : goal.returns-in-None
returns-in-None c =
    means_none c.args.head.now c.args.key.now c.args.room (option_copied c.args.value) (take (4 + c.args.room) c.put_slot-in-None.new.out) (ap option_copied c.in-None.is) c.requires.suits c.requires.key_room c.put_slot-in-None.ensures
