use Rattle.std.proofs.Common.{List, subst}
use Rattle.vms_base.specs.Ids.{serial_of}
use Rattle.vms_base.specs.declared.protocol.LogRec.{LogRec}
use Rattle.unit_entries.specs.Voting.{IsPlaceOf}
use Rattle.unit_entries.proofs.VoteLemmas.{moved_one}
use Rattle.unit_entries.proofs.voting.move_record.Goals as goal

pub returns-in-Some-clause-moved : goal.returns-in-Some-clause-moved
returns-in-Some-clause-moved c =
    moved_one (serial_of c.args.serial.now) c.args.rest.now.items c.remove-r.new.self.items c.args.out.now.items c.push_reserved.new.self.items c.in-Some.place c.remove-r.result
    (subst (λ (xs : List LogRec). IsPlaceOf (serial_of c.args.serial.now) xs c.in-Some.place) c.deref.ensures.value c.in-Some.ensures.found) c.remove-r.ensures.value c.remove-r.ensures.items c.push_reserved.ensures.items
