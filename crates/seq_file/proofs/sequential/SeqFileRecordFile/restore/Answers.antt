use Rattle.std.specs.Option.{option_copied}
use Rattle.file_base.specs.vms_base.Keys.{key_of}
use Rattle.change_set.proofs.NoLayout.{none_back}
use Rattle.seq_file.proofs.WalkLaws.{front_counts}
use Rattle.seq_file.specs.Layout.{IsLaidOut, Takes}
use Rattle.seq_file.proofs.sequential.SeqFileRecordFile.restore.Goals as goal

pub returns-clause-layout : goal.returns-clause-layout
returns-clause-layout g c =
    let v = option_copied c.args.value in
    let k = key_of c.args.key.now in
    none_back (IsLaidOut c.args.head.now) (λ b. Takes c.args.head.now b k v) c.set_record.result c.args.head.now c.args.head.now.bucket c.args.store.now c.set_record.new.store k v c.set_record.ensures.staged

pub set_record-requires-clause-before : goal.set_record-requires-clause-before
set_record-requires-clause-before g c = front_counts c.args.store.now.current c.args.head.now c.first.result c.first.ensures
