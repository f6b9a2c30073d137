use Rattle.std.proofs.Common.{Result, Ok, Err, OnOk}
use Rattle.std.specs.Option.{option_copied}
use Rattle.vms_base.specs.Keys.{key_of}
use Rattle.indexed_tree.specs.Files.{KeyBack}
use Rattle.record_files.proofs.indexed.IndexedFileRecordFile.restore.Goals as goal

on_ok_then : {T E A B : Type 0} (r : Result T E) → (A → B) → OnOk r A → OnOk r B
on_ok_then (Ok x) f a = f a
on_ok_then (Err e) f a = tt

pub returns-clause-map : goal.returns-clause-map
returns-clause-map g c =
    on_ok_then c.restore.result
    (λ (back : KeyBack c.args.head.now (key_of c.args.key.now) (option_copied c.args.value) c.args.store.now.current c.restore.new.store.current). back.map_is)
    c.restore.ensures.back

pub returns-clause-valid : goal.returns-clause-valid
returns-clause-valid g c =
    on_ok_then c.restore.result
    (λ (back : KeyBack c.args.head.now (key_of c.args.key.now) (option_copied c.args.value) c.args.store.now.current c.restore.new.store.current). back.valid)
    c.restore.ensures.back

pub returns-clause-rooms : goal.returns-clause-rooms
returns-clause-rooms g c =
    on_ok_then c.restore.result
    (λ (back : KeyBack c.args.head.now (key_of c.args.key.now) (option_copied c.args.value) c.args.store.now.current c.restore.new.store.current). back.rooms)
    c.restore.ensures.back

pub returns-clause-layout : goal.returns-clause-layout
returns-clause-layout g c =
    on_ok_then c.restore.result
    (λ (back : KeyBack c.args.head.now (key_of c.args.key.now) (option_copied c.args.value) c.args.store.now.current c.restore.new.store.current). back.layout)
    c.restore.ensures.back
