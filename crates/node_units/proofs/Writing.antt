-- Records that a call may leave in the log.
use Rattle.std.proofs.Common.{◌≡◌, ◌∙◌, ℕ, zero, suc, List, [], ◌∷◌, not, Option, Some, None, length, slice_set, refl, ap, length-set}
use Rattle.std.specs.Prelude.{◌||◌}
use Rattle.std.specs.List.{remove}
use Rattle.std.specs.Option.{IfSome}
use Rattle.commit_protocol.specs.Messages.{LogRecord, Name}
use Rattle.commit_protocol.specs.Rows.{is_empty}
use Rattle.file_base.specs.declared.head.Span.{Span}
use Rattle.journal_model.specs.Entries.{Entry}
use Rattle.lmcp_log.specs.Slot.{IsParts, IsRecord}
use Rattle.log_laws.specs.Slots.{Slots}
use Rattle.rms_units.specs.unit_aborts.Aborting.{Abortion, Aborts, abort_entry}
use Rattle.rms_units.specs.unit_journal.Settling.{span_with}
use Rattle.rms_units.specs.unit_votes.Logging.{MayPut, SetsRecord, nothing, written}
use Rattle.rms_units.specs.unit_votes.Voting.{AbortsLogged, MakesLogged, MakesVote, Settlement, abort_settlement}
use Rattle.vms_base.specs.Ids.{serial_of}
use Rattle.vms_model.specs.Ids.{Id}
use Rattle.volume.specs.declared.catalog.Catalog.{Catalog}
use Rattle.volume.specs.State.{VolumeState}
use Rattle.recovery_units.specs.State.{MayLog, are_there}
use Rattle.rms_units.specs.Voting.{votes_yes}
use Rattle.node_units.proofs.Logging.{catalog_set}

-- a record whose fields are in their ranges, and that may be put there
pub parts_of : (x : Id) (ss : Slots) (o : Option LogRecord) → IfSome o IsParts → IfSome o (λ r. MayLog x r ss) → IfSome o IsRecord
parts_of x ss None parts may = tt
parts_of x ss (Some r) parts may = (parts, may.form)

pub may_have : (x : Id) (ss : Slots) (o : Option LogRecord) → IfSome o (λ r. MayLog x r ss) → IfSome o (λ r. MayPut x r ss)
may_have x ss None may = tt
may_have x ss (Some r) may = record { own = may.own; form = may.form; slot = may.slot }

-- What is written leaves as many slots, and the journal where it begins.

pub set_long : (x : Id) (entry : Option LogRecord) (ss ts : Slots) (v w : VolumeState) → SetsRecord x entry ss ts v w → length ts ≡ length ss
set_long x entry ss ts v w (nothing none free same current catalog) = ap length same
set_long x entry ss ts v w (written settled writes) = ap length writes.slots ∙ length-set ss writes.place entry

start_with : (e : Option Entry) (s : Span) → (span_with e s).start ≡ s.start
start_with None s = refl
start_with (Some e) s = refl

pub logged_start : (y : Settlement) (rec : Option LogRecord) (ss ts : Slots) (v made : VolumeState) → MakesLogged y rec ss ts v made → made.catalog.ru.start ≡ v.catalog.ru.start
logged_start y rec ss ts v made m =
    ap (λ (k : Catalog). k.ru.start) m.makes.settles.catalog ∙ start_with y.entry m.makes.mid.catalog.ru ∙ ap (λ (k : Catalog). k.ru.start) m.makes.entered.catalog ∙ ap (λ (k : Catalog). k.ru.start) (catalog_set (serial_of y.serial) rec ss ts v m.logged m.log)

pub vote_start : (r : LogRecord) (e : Option Entry) (ss ts : Slots) (v made : VolumeState) → MakesVote r e ss ts v made → made.catalog.ru.start ≡ v.catalog.ru.start
vote_start r e ss ts v made m = ap (λ (k : Catalog). k.ru.start) m.catalog ∙ start_with e v.catalog.ru

-- Whether a unit votes yes.

pub votes_same : (ps : List ℕ) (rms : List Name) → votes_yes ps rms ≡ (are_there ps || not (is_empty rms))
votes_same [] [] = refl
votes_same [] (x ∷ xs) = refl
votes_same (p ∷ ps) xs = refl

-- an item that was written back is taken away
pub remove_set : {A : Type 0} (xs : List A) (i : ℕ) (y : A) → remove (slice_set xs i y) i ≡ remove xs i
remove_set [] i y = refl
remove_set (x ∷ xs) zero y = refl
remove_set (x ∷ xs) (suc i) y = ap (λ zs. x ∷ zs) (remove_set xs i y)

-- an item that was written twice
pub set_twice : {A : Type 0} (xs : List A) (i : ℕ) (y z : A) → slice_set (slice_set xs i y) i z ≡ slice_set xs i z
set_twice [] i y z = refl
set_twice (x ∷ xs) zero y z = refl
set_twice (x ∷ xs) (suc i) y z = ap (λ zs. x ∷ zs) (set_twice xs i y z)

pub aborts_start : (a : Abortion) (v w : VolumeState) → Aborts a v w → w.catalog.ru.start ≡ v.catalog.ru.start
aborts_start a v w m = ap (λ (k : Catalog). k.ru.start) m.makes.settles.catalog ∙ start_with (abort_entry a) m.makes.mid.catalog.ru ∙ ap (λ (k : Catalog). k.ru.start) m.makes.entered.catalog ∙ ap (λ (k : Catalog). k.ru.start) m.goes.catalog

pub gives_start : (a : Abortion) (ss ts : Slots) (v w : VolumeState) → AbortsLogged a ss ts v w → w.catalog.ru.start ≡ v.catalog.ru.start
gives_start a ss ts v w m = logged_start (abort_settlement a) None ss ts m.mid w m.makes ∙ ap (λ (k : Catalog). k.ru.start) m.goes.catalog
