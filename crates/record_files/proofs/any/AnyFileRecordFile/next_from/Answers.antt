use Rattle.std.proofs.Common.{◌≡◌, true, false, Some, option_map, IfOk, IfSome, sym, subst}
use Rattle.file_base.specs.declared.head.Organization.{Organization}
use Rattle.std.specs.Option.{option_copied}
use Rattle.vms_base.specs.Keys.{key_of}
use Rattle.relative_file.specs.change_set.Maps.{IsNext, EndsAfter}
use Rattle.record_files.specs.Any.{BeginsBy, FormBy, LaidOutBy, map_by}
use Rattle.record_files.proofs.any.AnyFileRecordFile.next_from.Goals as goal

pub next_from-requires-clause-form : goal.next_from-requires-clause-form
next_from-requires-clause-form g c =
    subst (λ (o : Organization). FormBy o c.args.head.now) c.in-Sequential.is c.requires.form

pub returns-in-Sequential-clause-found : goal.returns-in-Sequential-clause-found
returns-in-Sequential-clause-found g c =
    subst (λ (o : Organization). IfOk c.next_from.result (λ found. found ≡ true → IfSome c.args.store.now.current (λ b. LaidOutBy o c.args.head.now b → IsNext (map_by o c.args.head.now b) (option_map key_of (option_copied c.args.after)) (key_of c.next_from.new.found) c.next_from.new.out))) (sym c.in-Sequential.is) c.next_from.ensures.found

pub returns-in-Sequential-clause-none : goal.returns-in-Sequential-clause-none
returns-in-Sequential-clause-none g c =
    subst (λ (o : Organization). IfOk c.next_from.result (λ found. found ≡ false → IfSome c.args.store.now.current (λ b. LaidOutBy o c.args.head.now b → EndsAfter (map_by o c.args.head.now b) (option_map key_of (option_copied c.args.after))))) (sym c.in-Sequential.is) c.next_from.ensures.none

pub next_from-requires-in-Relative-clause-form : goal.next_from-requires-in-Relative-clause-form
next_from-requires-in-Relative-clause-form g c =
    subst (λ (o : Organization). FormBy o c.args.head.now) c.in-Relative.is c.requires.form

pub returns-in-Relative-clause-found : goal.returns-in-Relative-clause-found
returns-in-Relative-clause-found g c =
    subst (λ (o : Organization). IfOk c.next_from-in-Relative.result (λ found. found ≡ true → IfSome c.args.store.now.current (λ b. LaidOutBy o c.args.head.now b → IsNext (map_by o c.args.head.now b) (option_map key_of (option_copied c.args.after)) (key_of c.next_from-in-Relative.new.found) c.next_from-in-Relative.new.out))) (sym c.in-Relative.is) c.next_from-in-Relative.ensures.found

pub returns-in-Relative-clause-none : goal.returns-in-Relative-clause-none
returns-in-Relative-clause-none g c =
    subst (λ (o : Organization). IfOk c.next_from-in-Relative.result (λ found. found ≡ false → IfSome c.args.store.now.current (λ b. LaidOutBy o c.args.head.now b → EndsAfter (map_by o c.args.head.now b) (option_map key_of (option_copied c.args.after))))) (sym c.in-Relative.is) c.next_from-in-Relative.ensures.none

pub next_from-requires-in-Indexed-clause-form : goal.next_from-requires-in-Indexed-clause-form
next_from-requires-in-Indexed-clause-form g c =
    subst (λ (o : Organization). FormBy o c.args.head.now) c.in-Indexed.is c.requires.form

pub returns-in-Indexed-clause-found : goal.returns-in-Indexed-clause-found
returns-in-Indexed-clause-found g c =
    subst (λ (o : Organization). IfOk c.next_from-in-Indexed.result (λ found. found ≡ true → IfSome c.args.store.now.current (λ b. LaidOutBy o c.args.head.now b → IsNext (map_by o c.args.head.now b) (option_map key_of (option_copied c.args.after)) (key_of c.next_from-in-Indexed.new.found) c.next_from-in-Indexed.new.out))) (sym c.in-Indexed.is) c.next_from-in-Indexed.ensures.found

pub returns-in-Indexed-clause-none : goal.returns-in-Indexed-clause-none
returns-in-Indexed-clause-none g c =
    subst (λ (o : Organization). IfOk c.next_from-in-Indexed.result (λ found. found ≡ false → IfSome c.args.store.now.current (λ b. LaidOutBy o c.args.head.now b → EndsAfter (map_by o c.args.head.now b) (option_map key_of (option_copied c.args.after))))) (sym c.in-Indexed.is) c.next_from-in-Indexed.ensures.none

pub next_from-requires-clause-begins : goal.next_from-requires-clause-begins
next_from-requires-clause-begins g c =
    subst (λ (o : Organization). IfSome c.args.store.now.current (λ b. LaidOutBy o c.args.head.now b → BeginsBy o c.args.head.now b (option_map key_of (option_copied c.args.after)) c.args.place.now)) c.in-Sequential.is c.requires.begins

pub returns-in-Sequential-clause-begins : goal.returns-in-Sequential-clause-begins
returns-in-Sequential-clause-begins g c =
    subst (λ (o : Organization). IfOk c.next_from.result (λ found. found ≡ true → IfSome c.args.store.now.current (λ b. LaidOutBy o c.args.head.now b → BeginsBy o c.args.head.now b (Some (key_of c.next_from.new.found)) c.next_from.new.place))) (sym c.in-Sequential.is) c.next_from.ensures.begins

pub next_from-requires-in-Relative-clause-begins : goal.next_from-requires-in-Relative-clause-begins
next_from-requires-in-Relative-clause-begins g c =
    subst (λ (o : Organization). IfSome c.args.store.now.current (λ b. LaidOutBy o c.args.head.now b → BeginsBy o c.args.head.now b (option_map key_of (option_copied c.args.after)) c.args.place.now)) c.in-Relative.is c.requires.begins

pub returns-in-Relative-clause-begins : goal.returns-in-Relative-clause-begins
returns-in-Relative-clause-begins g c =
    subst (λ (o : Organization). IfOk c.next_from-in-Relative.result (λ found. found ≡ true → IfSome c.args.store.now.current (λ b. LaidOutBy o c.args.head.now b → BeginsBy o c.args.head.now b (Some (key_of c.next_from-in-Relative.new.found)) c.next_from-in-Relative.new._place))) (sym c.in-Relative.is) c.next_from-in-Relative.ensures.begins

pub next_from-requires-in-Indexed-clause-begins : goal.next_from-requires-in-Indexed-clause-begins
next_from-requires-in-Indexed-clause-begins g c =
    subst (λ (o : Organization). IfSome c.args.store.now.current (λ b. LaidOutBy o c.args.head.now b → BeginsBy o c.args.head.now b (option_map key_of (option_copied c.args.after)) c.args.place.now)) c.in-Indexed.is c.requires.begins

pub returns-in-Indexed-clause-begins : goal.returns-in-Indexed-clause-begins
returns-in-Indexed-clause-begins g c =
    subst (λ (o : Organization). IfOk c.next_from-in-Indexed.result (λ found. found ≡ true → IfSome c.args.store.now.current (λ b. LaidOutBy o c.args.head.now b → BeginsBy o c.args.head.now b (Some (key_of c.next_from-in-Indexed.new.found)) c.next_from-in-Indexed.new._place))) (sym c.in-Indexed.is) c.next_from-in-Indexed.ensures.begins
