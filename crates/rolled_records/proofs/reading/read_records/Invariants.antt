use Rattle.std.proofs.Common.{◌-◌, ◌≤◌, IfSome}
use Rattle.std.specs.Prelude.{option_map}
use Rattle.vms_base.specs.Keys.{key_of}
use Rattle.record_files.specs.Any.{Begins, IsLaidOut, map_of}
use Rattle.journal_store.specs.Refusing.{Stays}
use Rattle.rolled_records.proofs.ReadLemmas.{HasRead}
use Rattle.rolled_records.proofs.reading.read_records.Given as goal

abbrev pub invariant-loop-count : goal.invariant-loop-count
invariant-loop-count g l = record {
  stays : Stays l.fn.store l.store;
  most : l.count ≤ 18446744073709551615;
  begins : IfSome l.fn.store.current (λ c. IsLaidOut l.head c → Begins l.head c (option_map key_of l.after) l.place);
  read : IfSome l.fn.store.current (λ c. IsLaidOut l.head c → HasRead (map_of l.head c) (option_map key_of l.after) l.map l.count);
}

abbrev pub decreases-loop-count : goal.decreases-loop-count
decreases-loop-count g l = 18446744073709551615 - l.count
