use Rattle.std.proofs.Common.{◌≡◌, [], ℕ, ◌==◌, false, Option, Some, None, IfSome, Result, Ok, Err, OnOk, refl, sym, subst, ap, ◌∙◌}
use Rattle.std.specs.Prelude.{is_err}
use Rattle.journal_format.specs.Heads.{entry_of}
use Rattle.ru_journal.specs.Told.{JournalScan, after, is_out_of_order}
use Rattle.unit_table.specs.Units.{OpenUnit, begun, first_that, is_of}
use Rattle.vms_base.specs.Ids.{serial_of}
use Rattle.unit_entries.specs.Opening.{AreAlike}
use Rattle.unit_entries.proofs.OpenLemmas.{alike_after, places_opened, room_opened}
use Rattle.unit_entries.proofs.ReadLemmas.{prepared_kind}
use Rattle.unit_entries.proofs.reading.take_entry.Goals as goal

if_some : {P : OpenUnit → Type 0} (o : Option OpenUnit) → ((w : OpenUnit) → o ≡ Some w → P w) → IfSome o P
if_some None f = tt
if_some (Some w) f = f w refl

of_ok : {T E : Type 0} (r : Result T E) {P : Type 0} → is_err r ≡ false → OnOk r P → P
of_ok (Ok x) is h = h
of_ok (Err e) is h = let never : ⊥ = cc in absurd never

pub follow_entry-requires-clause-room : goal.follow_entry-requires-clause-room
follow_entry-requires-clause-room c =
    let e = entry_of c.args.e.now [] in
    let may : is_out_of_order e c.args.state.now ≡ false = sym c.take.ensures.order ∙ sym c.is_err.ensures.value ∙ c.if-is_err.false in
    if_some (first_that (is_of (serial_of c.args.e.now.serial)) (begun c.args.units.now))
    (λ w at kind. room_opened c.args.position e c.args.state.now (begun c.args.units.now) (prepared_kind c.args.e.now.kind) (c.requires.alike c.if-not-whole.false) may w at (ap (λ (k : ℕ). k == 3) kind) (ap (λ (k : ℕ). k == 1) kind))

pub follow_entry-requires-clause-places : goal.follow_entry-requires-clause-places
follow_entry-requires-clause-places c = λ none change.
    let e = entry_of c.args.e.now [] in
    let may : is_out_of_order e c.args.state.now ≡ false = sym c.take.ensures.order ∙ sym c.is_err.ensures.value ∙ c.if-is_err.false in
    places_opened c.args.position e c.args.state.now (begun c.args.units.now) (prepared_kind c.args.e.now.kind) (c.requires.alike c.if-not-whole.false) may none change

pub returns-clause-alike : goal.returns-clause-alike
returns-clause-alike c = λ _.
    let e = entry_of c.args.e.now [] in
    let may : is_out_of_order e c.args.state.now ≡ false = sym c.take.ensures.order ∙ sym c.is_err.ensures.value ∙ c.if-is_err.false in
    let took = of_ok c.take.result (sym c.is_err.ensures.value ∙ c.if-is_err.false) c.take.ensures.takes in
    subst (λ (t : JournalScan). AreAlike t.units (begun c.follow_entry.new.units)) (sym took)
    (subst (AreAlike (after c.args.position e c.args.state.now).units) (sym c.follow_entry.ensures)
    (alike_after c.args.position e c.args.state.now (begun c.args.units.now) (prepared_kind c.args.e.now.kind) (c.requires.alike c.if-not-whole.false) may))
