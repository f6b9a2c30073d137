use Rattle.std.proofs.Common.{Result, Ok, Err, OnOk}
use Rattle.std.specs.Option.{option_copied}
use Rattle.vms_base.specs.vms_model.Keys.{Key}
use Rattle.vms_base.specs.Keys.{key_of}
use Rattle.indexed_tree.specs.Files.{KeySet}
use Rattle.record_files.proofs.indexed.IndexedFileRecordFile.set_from.Goals as goal

on_ok_then : {T E A B : Type 0} (r : Result T E) → (A → B) → OnOk r A → OnOk r B
on_ok_then (Ok x) f a = f a
on_ok_then (Err e) f a = tt

pub returns-clause-map : goal.returns-clause-map
returns-clause-map g c =
    on_ok_then c.set.result
    (λ (sets : KeySet c.args.head.now c.set.new.head (λ (k : Key). g.H.Held.held c.args.held.now k) (key_of c.args.key.now) (option_copied c.args.value) c.args.store.now.current c.set.new.store.current). sets.map_is)
    c.set.ensures.sets

pub returns-clause-valid : goal.returns-clause-valid
returns-clause-valid g c =
    on_ok_then c.set.result
    (λ (sets : KeySet c.args.head.now c.set.new.head (λ (k : Key). g.H.Held.held c.args.held.now k) (key_of c.args.key.now) (option_copied c.args.value) c.args.store.now.current c.set.new.store.current). sets.valid)
    c.set.ensures.sets

pub returns-clause-used : goal.returns-clause-used
returns-clause-used g c =
    on_ok_then c.set.result
    (λ (sets : KeySet c.args.head.now c.set.new.head (λ (k : Key). g.H.Held.held c.args.held.now k) (key_of c.args.key.now) (option_copied c.args.value) c.args.store.now.current c.set.new.store.current). sets.used)
    c.set.ensures.sets

pub returns-clause-rooms : goal.returns-clause-rooms
returns-clause-rooms g c =
    on_ok_then c.set.result
    (λ (sets : KeySet c.args.head.now c.set.new.head (λ (k : Key). g.H.Held.held c.args.held.now k) (key_of c.args.key.now) (option_copied c.args.value) c.args.store.now.current c.set.new.store.current). sets.rooms)
    c.set.ensures.sets

pub returns-clause-layout : goal.returns-clause-layout
returns-clause-layout g c =
    on_ok_then c.set.result
    (λ (sets : KeySet c.args.head.now c.set.new.head (λ (k : Key). g.H.Held.held c.args.held.now k) (key_of c.args.key.now) (option_copied c.args.value) c.args.store.now.current c.set.new.store.current). sets.layout)
    c.set.ensures.sets

pub returns-clause-back : goal.returns-clause-back
returns-clause-back g c =
    on_ok_then c.set.result
    (λ (sets : KeySet c.args.head.now c.set.new.head (λ (k : Key). g.H.Held.held c.args.held.now k) (key_of c.args.key.now) (option_copied c.args.value) c.args.store.now.current c.set.new.store.current). sets.back)
    c.set.ensures.sets
