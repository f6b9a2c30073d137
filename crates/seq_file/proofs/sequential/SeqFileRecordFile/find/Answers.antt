use Rattle.std.proofs.Common.{◌≡◌, ℕ, List, true, Some, IfOk, IfSome, sym, ap, subst}
use Rattle.file_base.specs.vms_base.Keys.{key_of}
use Rattle.file_base.specs.vms_model.Keys.{Key}
use Rattle.seq_file.specs.Layout.{map_of, IsLaidOut}
use Rattle.seq_file.proofs.sequential.SeqFileRecordFile.find.Goals as goal

pub returns-else-is_err-clause-found : goal.returns-else-is_err-clause-found
returns-else-is_err-clause-found g c =
    let h = c.args.head.now in
    subst (λ (k : Key). IfOk c.read_position-found.result (λ found. found ≡ true → IfSome c.args.store.now.current (λ (b : List (List ℕ)). IsLaidOut h b → map_of h b k ≡ Some c.read_position-found.new.out)))
    (sym (ap key_of c.in-Number.is)) c.read_position-found.ensures.found
