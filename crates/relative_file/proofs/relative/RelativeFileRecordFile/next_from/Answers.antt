use Rattle.std.proofs.Common.{◌≡◌, ℕ, List, Option, Some, None, IfSome, option_map}
use Rattle.std.specs.Option.{option_copied}
use Rattle.file_base.specs.declared.head.FileHead.{FileHead}
use Rattle.vms_base.specs.Keys.{key_of}
use Rattle.vms_base.specs.vms_model.Keys.{Key, Number}
use Rattle.change_set.specs.Maps.{IsNext}
use Rattle.relative_file.specs.Cells.{map_of, IsLaidOut}
use Rattle.relative_file.proofs.MapLaws.{next_found}
use Rattle.relative_file.proofs.relative.RelativeFileRecordFile.next_from.Goals as goal

laid_out_next : (h : FileHead) (told : Option (List (List ℕ))) (after : Option Key) (key : Key) (bytes : List ℕ) → IfSome told (λ b. IsNext (map_of h b) after key bytes)
    → IfSome told (λ b. IsLaidOut h b → IsNext (map_of h b) after key bytes)
laid_out_next h None after key bytes is = tt
laid_out_next h (Some b) after key bytes is = λ valid. is

stands_next : (h : FileHead) (told : Option (List (List ℕ))) (after : Option Key) (key : Key) (bytes : List ℕ) → IfSome told (λ b. IsNext (map_of h b) after key bytes) → IfSome told (λ b. map_of h b key ≡ Some bytes)
stands_next h None after key bytes is = tt
stands_next h (Some b) after key bytes is = is.has

pub returns-in-Ok-Some-clause-found : goal.returns-in-Ok-Some-clause-found
returns-in-Ok-Some-clause-found g c = λ is.
    let found = rw c.in-Ok-Some.field-0-is at c.in-Ok-Some.ensures.found in
    let after = option_map key_of (option_copied c.args.after) in
    laid_out_next c.args.head.now c.args.store.now.current after (Number c.in-Ok-Some.n) c.next_cell.new.out
    (next_found c.args.store.now.current c.args.head.now c.in-Some.from c.in-Ok-Some.n after c.next_cell.new.out c.in-Some.ensures.some found)

pub returns-in-Ok-Some-clause-stands : goal.returns-in-Ok-Some-clause-stands
returns-in-Ok-Some-clause-stands g c = λ is.
    let found = rw c.in-Ok-Some.field-0-is at c.in-Ok-Some.ensures.found in
    let after = option_map key_of (option_copied c.args.after) in
    stands_next c.args.head.now c.args.store.now.current after (Number c.in-Ok-Some.n) c.next_cell.new.out
    (next_found c.args.store.now.current c.args.head.now c.in-Some.from c.in-Ok-Some.n after c.next_cell.new.out c.in-Some.ensures.some found)
