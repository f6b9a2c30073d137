use Rattle.std.proofs.Common.{◌≡◌, ◌≤◌, ◌+◌, true, false, Some, None, OnOk, IfOk, IfSome, sym, subst}
use Rattle.file_base.specs.declared.head.Organization.{Organization}
use Rattle.vms_base.specs.Keys.{key_of}
use Rattle.record_files.specs.Any.{BeginsBy, FormBy, LaidOutBy, map_by, reads_by}
use Rattle.record_files.proofs.any.AnyFileRecordFile.find.Goals as goal

pub find-requires-clause-form : goal.find-requires-clause-form
find-requires-clause-form g c =
    subst (λ (o : Organization). FormBy o c.args.head.now) c.in-Sequential.is c.requires.form

pub returns-in-Sequential-clause-found : goal.returns-in-Sequential-clause-found
returns-in-Sequential-clause-found g c =
    subst (λ (o : Organization). IfOk c.find.result (λ found. found ≡ true → IfSome c.args.store.now.current (λ b. LaidOutBy o c.args.head.now b → map_by o c.args.head.now b (key_of c.args.key.now) ≡ Some c.find.new.out))) (sym c.in-Sequential.is) c.find.ensures.found

pub returns-in-Sequential-clause-absent : goal.returns-in-Sequential-clause-absent
returns-in-Sequential-clause-absent g c =
    subst (λ (o : Organization). IfOk c.find.result (λ found. found ≡ false → IfSome c.args.store.now.current (λ b. LaidOutBy o c.args.head.now b → map_by o c.args.head.now b (key_of c.args.key.now) ≡ None))) (sym c.in-Sequential.is) c.find.ensures.absent

pub find-requires-in-Relative-clause-form : goal.find-requires-in-Relative-clause-form
find-requires-in-Relative-clause-form g c =
    subst (λ (o : Organization). FormBy o c.args.head.now) c.in-Relative.is c.requires.form

pub returns-in-Relative-clause-found : goal.returns-in-Relative-clause-found
returns-in-Relative-clause-found g c =
    subst (λ (o : Organization). IfOk c.find-in-Relative.result (λ found. found ≡ true → IfSome c.args.store.now.current (λ b. LaidOutBy o c.args.head.now b → map_by o c.args.head.now b (key_of c.args.key.now) ≡ Some c.find-in-Relative.new.out))) (sym c.in-Relative.is) c.find-in-Relative.ensures.found

pub returns-in-Relative-clause-absent : goal.returns-in-Relative-clause-absent
returns-in-Relative-clause-absent g c =
    subst (λ (o : Organization). IfOk c.find-in-Relative.result (λ found. found ≡ false → IfSome c.args.store.now.current (λ b. LaidOutBy o c.args.head.now b → map_by o c.args.head.now b (key_of c.args.key.now) ≡ None))) (sym c.in-Relative.is) c.find-in-Relative.ensures.absent

pub find-requires-in-Indexed-clause-form : goal.find-requires-in-Indexed-clause-form
find-requires-in-Indexed-clause-form g c =
    subst (λ (o : Organization). FormBy o c.args.head.now) c.in-Indexed.is c.requires.form

pub returns-in-Indexed-clause-found : goal.returns-in-Indexed-clause-found
returns-in-Indexed-clause-found g c =
    subst (λ (o : Organization). IfOk c.find-in-Indexed.result (λ found. found ≡ true → IfSome c.args.store.now.current (λ b. LaidOutBy o c.args.head.now b → map_by o c.args.head.now b (key_of c.args.key.now) ≡ Some c.find-in-Indexed.new.out))) (sym c.in-Indexed.is) c.find-in-Indexed.ensures.found

pub returns-in-Indexed-clause-absent : goal.returns-in-Indexed-clause-absent
returns-in-Indexed-clause-absent g c =
    subst (λ (o : Organization). IfOk c.find-in-Indexed.result (λ found. found ≡ false → IfSome c.args.store.now.current (λ b. LaidOutBy o c.args.head.now b → map_by o c.args.head.now b (key_of c.args.key.now) ≡ None))) (sym c.in-Indexed.is) c.find-in-Indexed.ensures.absent

pub returns-in-Sequential-clause-begins : goal.returns-in-Sequential-clause-begins
returns-in-Sequential-clause-begins g c =
    subst (λ (o : Organization). OnOk c.find.result (IfSome c.args.store.now.current (λ b. LaidOutBy o c.args.head.now b → BeginsBy o c.args.head.now b (Some (key_of c.args.key.now)) c.find.new.place))) (sym c.in-Sequential.is) c.find.ensures.begins

pub returns-in-Relative-clause-begins : goal.returns-in-Relative-clause-begins
returns-in-Relative-clause-begins g c =
    subst (λ (o : Organization). OnOk c.find-in-Relative.result (IfSome c.args.store.now.current (λ b. LaidOutBy o c.args.head.now b → BeginsBy o c.args.head.now b (Some (key_of c.args.key.now)) c.find-in-Relative.new._place))) (sym c.in-Relative.is) c.find-in-Relative.ensures.begins

pub returns-in-Indexed-clause-begins : goal.returns-in-Indexed-clause-begins
returns-in-Indexed-clause-begins g c =
    subst (λ (o : Organization). OnOk c.find-in-Indexed.result (IfSome c.args.store.now.current (λ b. LaidOutBy o c.args.head.now b → BeginsBy o c.args.head.now b (Some (key_of c.args.key.now)) c.find-in-Indexed.new._place))) (sym c.in-Indexed.is) c.find-in-Indexed.ensures.begins

pub find-requires-clause-begins : goal.find-requires-clause-begins
find-requires-clause-begins g c =
    subst (λ (o : Organization). IfSome c.args.store.now.current (λ b. LaidOutBy o c.args.head.now b → BeginsBy o c.args.head.now b (Some (key_of c.args.key.now)) c.args.place.now)) c.in-Sequential.is c.requires.begins

pub find-requires-in-Relative-clause-begins : goal.find-requires-in-Relative-clause-begins
find-requires-in-Relative-clause-begins g c =
    subst (λ (o : Organization). IfSome c.args.store.now.current (λ b. LaidOutBy o c.args.head.now b → BeginsBy o c.args.head.now b (Some (key_of c.args.key.now)) c.args.place.now)) c.in-Relative.is c.requires.begins

pub find-requires-in-Indexed-clause-begins : goal.find-requires-in-Indexed-clause-begins
find-requires-in-Indexed-clause-begins g c =
    subst (λ (o : Organization). IfSome c.args.store.now.current (λ b. LaidOutBy o c.args.head.now b → BeginsBy o c.args.head.now b (Some (key_of c.args.key.now)) c.args.place.now)) c.in-Indexed.is c.requires.begins

pub returns-in-Sequential-clause-reads : goal.returns-in-Sequential-clause-reads
returns-in-Sequential-clause-reads g c = subst (λ (o : Organization). c.find.new.store.reads ≤ c.args.store.now.reads + reads_by o c.args.head.now) (sym c.in-Sequential.is) c.find.ensures.reads

pub returns-in-Relative-clause-reads : goal.returns-in-Relative-clause-reads
returns-in-Relative-clause-reads g c = subst (λ (o : Organization). c.find-in-Relative.new.store.reads ≤ c.args.store.now.reads + reads_by o c.args.head.now) (sym c.in-Relative.is) c.find-in-Relative.ensures.reads

pub returns-in-Indexed-clause-reads : goal.returns-in-Indexed-clause-reads
returns-in-Indexed-clause-reads g c = subst (λ (o : Organization). c.find-in-Indexed.new.store.reads ≤ c.args.store.now.reads + reads_by o c.args.head.now) (sym c.in-Indexed.is) c.find-in-Indexed.ensures.reads
