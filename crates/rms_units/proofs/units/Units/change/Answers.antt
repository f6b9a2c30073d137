-- A change by a unit is one of a key, or a truncation.
use Rattle.std.proofs.Common.{◌≡◌, ◌≤◌, ℕ, List, length, true, false, Option, Some, None, inr, refl, sym, ap, subst, ◌∙◌}
use Rattle.std.specs.Option.{option_and_then}
use Rattle.std.proofs.lemmas.Result.{IfErr-weaker}
use Rattle.file_base.specs.declared.head.FileHead.{FileHead}
use Rattle.record_operations.specs.Asking.{file_in, is_of_key, written}
use Rattle.record_operations.specs.Causes.{Cause, IfRefused, cause_of}
use Rattle.record_operations.specs.Forms.{form_refused}
use Rattle.record_operations.specs.declared.errors.RecErr.{RecErr}
use Rattle.vms_base.specs.Keys.{key_of}
use Rattle.vms_model.specs.Keys.{Key}
use Rattle.volume.specs.Catalogs.{head_at}
use Rattle.volume.specs.State.{SameVolume}
use Rattle.key_changes.specs.declared.asked.KeyChange.{KeyChange}
use Rattle.key_changes.specs.Keys.{change_in, key_in, position_by}
use Rattle.unit_table.specs.Units.{OpenUnit}
use Rattle.rms_units.specs.Calls.{ChangeBroke, ChangeRefused, ChangesErr, ChangesKey, ChangesKeyErr, ChangesOk, KeyBroke, KeyRefused}
use Rattle.rms_units.specs.State.{unit_of}
use Rattle.rms_units.specs.Truncating.{ChangesCut, ChangesCutErr, CutBroke, CutRefused}
use Rattle.rms_units.proofs.OperationLemmas.{change_allowed, no_cut, no_key, no_position, of_key, ok_with, retold, same_cut, sizes_fit, value_fits}
use Rattle.rms_units.proofs.Refusing.{refused_so}
use Rattle.rms_units.proofs.units.Units.change.Goals as goal

pub returns-in-Truncate-clause-done : goal.returns-in-Truncate-clause-done
returns-in-Truncate-clause-done g c =
    let v = c.args.volume.now in
    let o = c.args.op.now in
    let bytes = c.args.bytes.now in
    let head = c.head_of-head.result in
    let at_head : head_at v.catalog.heads (file_in o) ≡ Some head = subst (λ (f : ℕ). head_at v.catalog.heads f ≡ Some head) c.file.ensures c.head_of-head.ensures.there in
    let form : form_refused head o (length (written o bytes)) ≡ None = subst (λ (b : List ℕ). form_refused head o (length b) ≡ None) c.written-value.ensures (sym c.form_refusal.ensures.refuses ∙ ap (option_and_then cause_of) c.in_default.is) in
    let early = change_allowed head o (written o bytes) form c.if-not-head.false in
    let s = c.args.self.now in
    let t = c.truncate.new.self in
    let w = c.truncate.new.volume in
    let place = c.unit.inside.place in
    let file = c.in-Truncate.file in
    let from = c.in-Truncate.from in
    ok_with ((u : OpenUnit) → unit_of place s ≡ Some u → ChangesCut place u file head from s v t w) (λ position. position ≡ 0)
    (λ position. (u : OpenUnit) (h : FileHead) → unit_of c.args.unit.now s ≡ Some u → head_at v.catalog.heads (file_in o) ≡ Some h → ChangesOk c.args.unit.now u h o bytes position s v t w)
    c.truncate.result c.truncate.ensures.done c.truncate.ensures.position
    (λ position done zero u h at there.
    let both : Some head ≡ Some h = sym at_head ∙ there in
    let same_head : head ≡ h = cc in
    subst (λ (x : FileHead). ChangesOk c.args.unit.now u x o bytes position s v t w) same_head
    (subst (λ (p : ℕ). ChangesOk p u head o bytes position s v t w) c.unit.view_is
    record {
      early = early;
      changes = λ one. absurd (no_key o file from c.in-Truncate.is one);
      cuts = same_cut o file from c.in-Truncate.is (λ f n. ChangesCut place u f head n s v t w) (done u (ap (λ (p : ℕ). unit_of p s) c.unit.view_is ∙ at));
      position = zero ∙ no_position o file from c.in-Truncate.is head (written o bytes);
    }))

pub returns-in-Truncate-clause-err : goal.returns-in-Truncate-clause-err
returns-in-Truncate-clause-err g c =
    let v = c.args.volume.now in
    let o = c.args.op.now in
    let bytes = c.args.bytes.now in
    let head = c.head_of-head.result in
    let at_head : head_at v.catalog.heads (file_in o) ≡ Some head = subst (λ (f : ℕ). head_at v.catalog.heads f ≡ Some head) c.file.ensures c.head_of-head.ensures.there in
    let form : form_refused head o (length (written o bytes)) ≡ None = subst (λ (b : List ℕ). form_refused head o (length b) ≡ None) c.written-value.ensures (sym c.form_refusal.ensures.refuses ∙ ap (option_and_then cause_of) c.in_default.is) in
    let early = change_allowed head o (written o bytes) form c.if-not-head.false in
    let s = c.args.self.now in
    let t = c.truncate.new.self in
    let w = c.truncate.new.volume in
    let place = c.unit.inside.place in
    let file = c.in-Truncate.file in
    let from = c.in-Truncate.from in
    IfErr-weaker c.truncate.result (λ e. (u : OpenUnit) → unit_of place s ≡ Some u → ChangesCutErr u file head from e s v t w)
    (λ e. (u : OpenUnit) (h : FileHead) → unit_of c.args.unit.now s ≡ Some u → head_at v.catalog.heads (file_in o) ≡ Some h → ChangesErr u h o bytes e s v t w)
    (λ e err u h at there.
    let both : Some head ≡ Some h = sym at_head ∙ there in
    let same_head : head ≡ h = cc in
    let told = err u (ap (λ (p : ℕ). unit_of p s) c.unit.view_is ∙ at) in
    subst (λ (x : FileHead). ChangesErr u x o bytes e s v t w) same_head (
      told.0,
      refused_so e (λ cause. CutRefused u file head from cause s v × SameVolume v w) (λ cause. ChangeRefused u head o (written o bytes) cause s v × SameVolume v w)
          (λ down. CutBroke u file head from s v w) (λ down. ChangeBroke u head o (written o bytes) s v w) told.1
          (λ cause x. (
            inr record {
              allowed = early;
              key = λ one. absurd (no_key o file from c.in-Truncate.is one);
              cut = same_cut o file from c.in-Truncate.is (λ f n. CutRefused u f head n cause s v) x.0;
            },
            x.1,
          ))
          (λ down b. record {
            allowed = early;
            key = λ one. absurd (no_key o file from c.in-Truncate.is one);
            cut = same_cut o file from c.in-Truncate.is (λ f n. CutBroke u f head n s v w) b;
          }),
    ))
    c.truncate.ensures.err

pub asked_by-asked-requires : goal.asked_by-asked-requires
asked_by-asked-requires g c =
    let v = c.args.volume.now in
    let o = c.args.op.now in
    let bytes = c.args.bytes.now in
    let head = c.head_of-head.result in
    let at_head : head_at v.catalog.heads (file_in o) ≡ Some head = subst (λ (f : ℕ). head_at v.catalog.heads f ≡ Some head) c.file.ensures c.head_of-head.ensures.there in
    let form : form_refused head o (length (written o bytes)) ≡ None = subst (λ (b : List ℕ). form_refused head o (length b) ≡ None) c.written-value.ensures (sym c.form_refusal.ensures.refuses ∙ ap (option_and_then cause_of) c.in_default.is) in
    let early = change_allowed head o (written o bytes) form c.if-not-head.false in
    let one : is_of_key o ≡ true = of_key o c.in_default-op.not-Truncate in
    record {
      one = one;
      fits = sym c.form_refusal.ensures.refuses ∙ ap (option_and_then cause_of) c.in_default.is;
      sizes = sizes_fit c.args.self.now v c.requires.order (file_in o) head at_head;
      size = subst (λ (b : List ℕ). length b ≤ 8160) (sym c.written-value.ensures) (value_fits c.args.self.now v c.requires.order (file_in o) head at_head o bytes one form);
    }

pub returns-clause-done : goal.returns-clause-done
returns-clause-done g c =
    let v = c.args.volume.now in
    let o = c.args.op.now in
    let bytes = c.args.bytes.now in
    let head = c.head_of-head.result in
    let at_head : head_at v.catalog.heads (file_in o) ≡ Some head = subst (λ (f : ℕ). head_at v.catalog.heads f ≡ Some head) c.file.ensures c.head_of-head.ensures.there in
    let form : form_refused head o (length (written o bytes)) ≡ None = subst (λ (b : List ℕ). form_refused head o (length b) ≡ None) c.written-value.ensures (sym c.form_refusal.ensures.refuses ∙ ap (option_and_then cause_of) c.in_default.is) in
    let early = change_allowed head o (written o bytes) form c.if-not-head.false in
    let s = c.args.self.now in
    let t = c.change_key.new.self in
    let w = c.change_key.new.volume in
    let place = c.unit.inside.place in
    let a = c.asked_by-asked.result in
    let value = c.written-value.result.now in
    let one : is_of_key o ≡ true = of_key o c.in_default-op.not-Truncate in
    ok_with ((u : OpenUnit) → unit_of place s ≡ Some u → ChangesKey place u a.file a.head a.change (key_of a.key) value s v t w) (λ position. position ≡ position_by a.head.organization a.change (key_of a.key))
    (λ position. (u : OpenUnit) (h : FileHead) → unit_of c.args.unit.now s ≡ Some u → head_at v.catalog.heads (file_in o) ≡ Some h → ChangesOk c.args.unit.now u h o bytes position s v t w)
    c.change_key.result c.change_key.ensures.done c.change_key.ensures.position
    (λ position done is u h at there.
    let both : Some head ≡ Some h = sym at_head ∙ there in
    let same_head : head ≡ h = cc in
    let key : key_of a.key ≡ key_in head o (written o bytes) = c.asked_by-asked.ensures.key ∙ ap (key_in head o) c.written-value.ensures in
    subst (λ (x : FileHead). ChangesOk c.args.unit.now u x o bytes position s v t w) same_head
    (subst (λ (p : ℕ). ChangesOk p u head o bytes position s v t w) c.unit.view_is
    record {
      early = early;
      changes = λ yes. retold (λ f q how k b. ChangesKey place u f q how k b s v t w) a.file (file_in o) a.head head a.change (change_in o) (key_of a.key) (key_in head o (written o bytes)) value (written o bytes)
          c.asked_by-asked.ensures.file c.asked_by-asked.ensures.head c.asked_by-asked.ensures.change key c.written-value.ensures (done u (ap (λ (p : ℕ). unit_of p s) c.unit.view_is ∙ at));
      cuts = λ file from cut. absurd (no_cut o one file from cut);
      position = is ∙ retold (λ f q how k b. position_by a.head.organization a.change (key_of a.key) ≡ position_by q.organization how k) a.file (file_in o) a.head head a.change (change_in o) (key_of a.key) (key_in head o (written o bytes)) value (written o bytes)
          c.asked_by-asked.ensures.file c.asked_by-asked.ensures.head c.asked_by-asked.ensures.change key c.written-value.ensures refl;
    }))

pub returns-clause-err : goal.returns-clause-err
returns-clause-err g c =
    let v = c.args.volume.now in
    let o = c.args.op.now in
    let bytes = c.args.bytes.now in
    let head = c.head_of-head.result in
    let at_head : head_at v.catalog.heads (file_in o) ≡ Some head = subst (λ (f : ℕ). head_at v.catalog.heads f ≡ Some head) c.file.ensures c.head_of-head.ensures.there in
    let form : form_refused head o (length (written o bytes)) ≡ None = subst (λ (b : List ℕ). form_refused head o (length b) ≡ None) c.written-value.ensures (sym c.form_refusal.ensures.refuses ∙ ap (option_and_then cause_of) c.in_default.is) in
    let early = change_allowed head o (written o bytes) form c.if-not-head.false in
    let s = c.args.self.now in
    let t = c.change_key.new.self in
    let w = c.change_key.new.volume in
    let place = c.unit.inside.place in
    let a = c.asked_by-asked.result in
    let value = c.written-value.result.now in
    let one : is_of_key o ≡ true = of_key o c.in_default-op.not-Truncate in
    let key : key_of a.key ≡ key_in head o (written o bytes) = c.asked_by-asked.ensures.key ∙ ap (key_in head o) c.written-value.ensures in
    IfErr-weaker c.change_key.result (λ e. (u : OpenUnit) → unit_of place s ≡ Some u → ChangesKeyErr u a.file a.head a.change (key_of a.key) value e s v t w)
    (λ e. (u : OpenUnit) (h : FileHead) → unit_of c.args.unit.now s ≡ Some u → head_at v.catalog.heads (file_in o) ≡ Some h → ChangesErr u h o bytes e s v t w)
    (λ e err u h at there.
    let both : Some head ≡ Some h = sym at_head ∙ there in
    let same_head : head ≡ h = cc in
    let told : ChangesKeyErr u (file_in o) head (change_in o) (key_in head o (written o bytes)) (written o bytes) e s v t w =
    retold (λ f q how k b. ChangesKeyErr u f q how k b e s v t w) a.file (file_in o) a.head head a.change (change_in o) (key_of a.key) (key_in head o (written o bytes)) value (written o bytes)
    c.asked_by-asked.ensures.file c.asked_by-asked.ensures.head c.asked_by-asked.ensures.change key c.written-value.ensures (err u (ap (λ (p : ℕ). unit_of p s) c.unit.view_is ∙ at)) in
    subst (λ (x : FileHead). ChangesErr u x o bytes e s v t w) same_head (
      told.0,
      refused_so e (λ cause. KeyRefused u (file_in o) head (change_in o) (key_in head o (written o bytes)) (written o bytes) cause s v × SameVolume v w) (λ cause. ChangeRefused u head o (written o bytes) cause s v × SameVolume v w)
          (λ down. KeyBroke u (file_in o) head (change_in o) (key_in head o (written o bytes)) (written o bytes) s v w) (λ down. ChangeBroke u head o (written o bytes) s v w) told.1
          (λ cause x. (
            inr record {
              allowed = early;
              key = λ yes. x.0;
              cut = λ file from cut. absurd (no_cut o one file from cut);
            },
            x.1,
          ))
          (λ down b. record {
            allowed = early;
            key = λ yes. b;
            cut = λ file from cut. absurd (no_cut o one file from cut);
          }),
    ))
    c.change_key.ensures.err
