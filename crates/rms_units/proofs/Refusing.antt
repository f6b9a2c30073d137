-- Refusals that are handed on.
use Rattle.std.proofs.Common.{◌≡◌, Option, Some, None, IsSome, refl, sym, ◌∙◌}
use Rattle.careful_write.specs.declared.down.Down.{Down}
use Rattle.vms_base.specs.Ids.{serial_of}
use Rattle.record_operations.specs.declared.errors.RecErr.{RecErr}
use Rattle.record_operations.specs.declared.errors.RecErr.TheVariants as err
use Rattle.record_operations.specs.Causes.{Cause, BadParameter, BadOperation, BadRecordNumber, BadRecordSize, NotForUnits, NeedsUnit, Locked, RecordExists, KeyExists, RecordNotFound, EndOfFile, KeyChanged, Changes, Locks, FileFull, JournalFull, AfterImagesFull, BeforeImagesFull, IfRefused, IsRefusal, cause_of, down_in, first_cause}

-- a refusal for a cause that is told
pub refused_by : (e : RecErr) (told : Option Cause) (P : Cause → Type 0) (Q : Down → Type 0) → cause_of e ≡ told → IsRefusal e → ((cause : Cause) → told ≡ Some cause → P cause) → IfRefused e P Q
refused_by err.BadParameter told P Q is some says = says BadParameter (sym is)
refused_by err.BadOperation told P Q is some says = says BadOperation (sym is)
refused_by err.BadRecordNumber told P Q is some says = says BadRecordNumber (sym is)
refused_by err.BadRecordSize told P Q is some says = says BadRecordSize (sym is)
refused_by err.NotForUnits told P Q is some says = says NotForUnits (sym is)
refused_by err.NeedsUnit told P Q is some says = says NeedsUnit (sym is)
refused_by (err.Locked by) told P Q is some says = says (Locked (serial_of by)) (sym is)
refused_by err.RecordExists told P Q is some says = says RecordExists (sym is)
refused_by err.KeyExists told P Q is some says = says KeyExists (sym is)
refused_by err.RecordNotFound told P Q is some says = says RecordNotFound (sym is)
refused_by err.EndOfFile told P Q is some says = says EndOfFile (sym is)
refused_by err.KeyChanged told P Q is some says = says KeyChanged (sym is)
refused_by err.Changes told P Q is some says = says Changes (sym is)
refused_by err.Locks told P Q is some says = says Locks (sym is)
refused_by (err.FileFull free need) told P Q is some says = says (FileFull free need) (sym is)
refused_by (err.JournalFull free need) told P Q is some says = says (JournalFull free need) (sym is)
refused_by (err.AfterImagesFull free need) told P Q is some says = says (AfterImagesFull free need) (sym is)
refused_by (err.BeforeImagesFull free need) told P Q is some says = says (BeforeImagesFull free need) (sym is)
refused_by (err.Down down) told P Q is some says = let no : ⊥ = cc in absurd no

-- what is told of an answer says the less that follows
pub refused_so : (e : RecErr) (P R : Cause → Type 0) (Q S : Down → Type 0) → IfRefused e P Q → ((cause : Cause) → P cause → R cause) → ((down : Down) → Q down → S down) → IfRefused e R S
refused_so err.BadParameter P R Q S is f g = f BadParameter is
refused_so err.BadOperation P R Q S is f g = f BadOperation is
refused_so err.BadRecordNumber P R Q S is f g = f BadRecordNumber is
refused_so err.BadRecordSize P R Q S is f g = f BadRecordSize is
refused_so err.NotForUnits P R Q S is f g = f NotForUnits is
refused_so err.NeedsUnit P R Q S is f g = f NeedsUnit is
refused_so (err.Locked by) P R Q S is f g = f (Locked (serial_of by)) is
refused_so err.RecordExists P R Q S is f g = f RecordExists is
refused_so err.KeyExists P R Q S is f g = f KeyExists is
refused_so err.RecordNotFound P R Q S is f g = f RecordNotFound is
refused_so err.EndOfFile P R Q S is f g = f EndOfFile is
refused_so err.KeyChanged P R Q S is f g = f KeyChanged is
refused_so err.Changes P R Q S is f g = f Changes is
refused_so err.Locks P R Q S is f g = f Locks is
refused_so (err.FileFull free need) P R Q S is f g = f (FileFull free need) is
refused_so (err.JournalFull free need) P R Q S is f g = f (JournalFull free need) is
refused_so (err.AfterImagesFull free need) P R Q S is f g = f (AfterImagesFull free need) is
refused_so (err.BeforeImagesFull free need) P R Q S is f g = f (BeforeImagesFull free need) is
refused_so (err.Down down) P R Q S is f g = g down is

-- an answer is a refusal, or tells that the disk went down
pub either_way : (e : RecErr) (P : Cause → Type 0) (Q : Down → Type 0) (R : Option Down → Type 0) → IfRefused e P Q → ((cause : Cause) → P cause → R None) → ((down : Down) → Q down → R (Some down)) → R (down_in e)
either_way err.BadParameter P Q R is f g = f BadParameter is
either_way err.BadOperation P Q R is f g = f BadOperation is
either_way err.BadRecordNumber P Q R is f g = f BadRecordNumber is
either_way err.BadRecordSize P Q R is f g = f BadRecordSize is
either_way err.NotForUnits P Q R is f g = f NotForUnits is
either_way err.NeedsUnit P Q R is f g = f NeedsUnit is
either_way (err.Locked by) P Q R is f g = f (Locked (serial_of by)) is
either_way err.RecordExists P Q R is f g = f RecordExists is
either_way err.KeyExists P Q R is f g = f KeyExists is
either_way err.RecordNotFound P Q R is f g = f RecordNotFound is
either_way err.EndOfFile P Q R is f g = f EndOfFile is
either_way err.KeyChanged P Q R is f g = f KeyChanged is
either_way err.Changes P Q R is f g = f Changes is
either_way err.Locks P Q R is f g = f Locks is
either_way (err.FileFull free need) P Q R is f g = f (FileFull free need) is
either_way (err.JournalFull free need) P Q R is f g = f (JournalFull free need) is
either_way (err.AfterImagesFull free need) P Q R is f g = f (AfterImagesFull free need) is
either_way (err.BeforeImagesFull free need) P Q R is f g = f (BeforeImagesFull free need) is
either_way (err.Down down) P Q R is f g = g down is

-- the first of two causes

pub first_is : (a b : Option Cause) (cause : Cause) → a ≡ Some cause → first_cause a b ≡ Some cause
first_is None b cause is = let no : ⊥ = cc in absurd no
first_is (Some x) b cause is = is

pub second_is : (a b c : Option Cause) → a ≡ None → b ≡ c → first_cause a b ≡ c
second_is None b c is e = e
second_is (Some x) b c is e = let no : ⊥ = cc in absurd no
