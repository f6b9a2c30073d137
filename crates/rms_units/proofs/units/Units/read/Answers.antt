-- The file lies on the disk.
use Rattle.std.proofs.Common.{◌≡◌, ℕ, [], ◌∷◌, Some, IfSome, ap, sym, subst, ◌∙◌}
use Rattle.std.specs.Prelude.{is_some}
use Rattle.std.specs.Option.{option_and_then}
use Rattle.file_base.specs.declared.head.FileHead.{FileHead}
use Rattle.record_operations.specs.Causes.{IfRefused, IsRefusal, cause_of}
use Rattle.unit_journal.specs.Leaving.{FellIn}
use Rattle.unit_table.specs.Units.{OpenUnit}
use Rattle.vms_base.specs.Ids.{serial_of, tid_of}
use Rattle.vms_base.specs.Keys.{key_of}
use Rattle.vms_model.specs.Ids.{Id}
use Rattle.volume.specs.State.{SameVolume, VolumeState}
use Rattle.rms_units.specs.Calls.{MayRead, ReadRefused, ReadsErr}
use Rattle.key_changes.specs.Changing.{keys_refused}
use Rattle.rms_units.specs.Reading.{Finds}
use Rattle.key_changes.specs.unit_cuts.Records.{OfRecords}
use Rattle.rms_units.specs.State.{UnitsState, unit_of}
use Rattle.key_changes.proofs.unit_cuts.Outcomes.{of_some}
use Rattle.rms_units.proofs.ReadLemmas.{hold_refused, read_allowed, order_held}
use Rattle.record_operations.specs.Asking.{read_file_in}
use Rattle.volume.specs.Catalogs.{head_at}
use Rattle.rms_units.proofs.OrderLemmas.{placed_in}
use Rattle.rms_units.proofs.EndLemmas.{ends_same}
use Rattle.rms_units.proofs.units.Units.read.Goals as goal

pub find-requires-clause-placed : goal.find-requires-clause-placed
find-requires-clause-placed g c =
    let v = c.args.volume.now in
    placed_in c.args.self.now v (read_file_in c.args.op.now) c.head_of-head.result c.requires.order (subst (λ (f : ℕ). head_at v.catalog.heads f ≡ Some c.head_of-head.result) c.file.ensures c.head_of-head.ensures.there)

pub returns-in-Some-hold_key-clause-err : goal.returns-in-Some-hold_key-clause-err
returns-in-Some-hold_key-clause-err g c = λ u h there is.
    let v = c.args.volume.now in
    let w = c.find.new.volume in
    let o = c.args.op.now in
    let head = c.head_of-head.result in
    let e = c.in-Some-hold_key.refusal in
    let key = key_of c.find.new.found in
    let bytes = c.find.new.out in
    let place = c.unit.inside.place in
    let s : UnitsState = record { units = c.self.inside.table; locks = c.self.inside.locks.locks } in
    let at : unit_of place s ≡ Some u = (λ i. unit_of (c.unit.view_is i) (c.self.view_is i)) ∙ there in
    let b = c.branch-branch.result in
    let branch = of_some (λ (x : OpenUnit). (tid_of b.tid ≡ x.tid) × (serial_of b.serial ≡ x.serial)) (unit_of place s) u at
    (subst (λ (x : UnitsState). IfSome (unit_of place x) (λ (y : OpenUnit). (tid_of b.tid ≡ y.tid) × (serial_of b.serial ≡ y.serial))) (sym c.self.view_is) c.branch-branch.ensures) in
    let both : Some head ≡ Some h = sym (subst (λ (f : ℕ). head_at v.catalog.heads f ≡ Some head) c.file.ensures c.head_of-head.ensures.there) ∙ is in
    let same_head : head ≡ h = cc in
    let early = read_allowed head o (sym c.read_refusal.ensures.refuses ∙ ap (option_and_then cause_of) c.in_default.is) c.if-not-head.false in
    let finds : OfRecords head v (Finds o (Some u.serial) s.locks key bytes) = subst (λ (x : Id). OfRecords head v (Finds o (Some x) s.locks key bytes)) branch.1 c.in_ok-find.ensures.finds in
    let why : cause_of e ≡ keys_refused (read_file_in o) (key ∷ []) s.locks = sym (ap (option_and_then cause_of) c.in-Some-hold_key.is) ∙ c.hold_key.ensures.refuses ∙ (λ i. keys_refused (c.file-2.ensures i) (key ∷ []) s.locks) in
    let some = of_some IsRefusal c.hold_key.result e c.in-Some-hold_key.is c.hold_key.ensures.refusal in
    let kept = c.hold_key.ensures.same (ap is_some c.in-Some-hold_key.is) in
    let t : UnitsState = record { units = c.self.inside.table; locks = c.hold_key.new.locks.locks } in
    subst (λ (x : FileHead). ReadsErr u x o e c.args.self.now v t w) same_head (
      (λ i. record { units = c.self.inside.table; locks = (kept i).locks }) ∙ c.self.view_is,
      subst (λ (x : UnitsState). IfRefused e (λ cause. ReadRefused u head o cause x v × SameVolume v w) (λ down. MayRead u head o x × FellIn down v w)) c.self.view_is
          (hold_refused e u head o key bytes s v w (λ down. MayRead u head o s × FellIn down v w) early finds why some c.in_ok-find.ensures.same),
    )

pub returns-clause-images : goal.returns-clause-images
returns-clause-images g c = ends_same c.args.volume.now c.find.new.volume (ap (λ (x : VolumeState). x.catalog) c.in_ok-find.ensures.same)

pub returns-clause-order : goal.returns-clause-order
returns-clause-order g c = order_held c.args.self.now c.self.inside.table c.hold_key.new.locks.locks c.args.volume.now c.find.new.volume (ap (λ (x : UnitsState). x.units) c.self.view_is) c.in_ok-find.ensures.same c.requires.order
