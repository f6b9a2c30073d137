-- A change without a unit is one of a key, or a truncation.
use Rattle.std.proofs.Common.{◌≡◌, ◌≤◌, ℕ, List, length, true, false, Option, Some, None, inr, refl, sym, ap, subst, ◌∙◌}
use Rattle.std.specs.Option.{option_and_then}
use Rattle.std.proofs.lemmas.Result.{IfErr-weaker}
use Rattle.file_base.specs.declared.head.FileHead.{FileHead}
use Rattle.record_operations.specs.Asking.{file_in, is_of_key, written}
use Rattle.record_operations.specs.Causes.{Cause, IfRefused, cause_of}
use Rattle.record_operations.specs.Forms.{form_refused}
use Rattle.record_operations.specs.declared.errors.RecErr.{RecErr}
use Rattle.vms_base.specs.Keys.{key_of}
use Rattle.vms_model.specs.Keys.{Key}
use Rattle.volume.specs.Catalogs.{head_at}
use Rattle.volume.specs.State.{SameVolume}
use Rattle.key_changes.specs.declared.asked.KeyChange.{KeyChange}
use Rattle.key_changes.specs.Keys.{change_in, key_in, position_by}
use Rattle.vms_base.specs.declared.moments.Moment.{Moment}
use Rattle.rms_units.specs.Calls.{DirectBroke, DirectKeyBroke, DirectKeyRefused, DirectRefused, DirectsErr, DirectsKey, DirectsKeyErr, DirectsOk}
use Rattle.rms_units.specs.Truncating.{DirectCutBroke, DirectCutRefused, DirectsCut, DirectsCutErr}
use Rattle.rms_units.proofs.OperationLemmas.{direct_allowed, no_cut, no_key, no_position, of_key, ok_with, retold, same_cut, sizes_fit, value_fits}
use Rattle.rms_units.proofs.Refusing.{refused_so}
use Rattle.rms_units.proofs.units.Units.direct.Goals as goal

pub returns-in-Truncate-clause-done : goal.returns-in-Truncate-clause-done
returns-in-Truncate-clause-done g c =
    let v = c.args.volume.now in
    let o = c.args.op.now in
    let bytes = c.args.bytes.now in
    let head = c.head_of-head.result in
    let at_head : head_at v.catalog.heads (file_in o) ≡ Some head = subst (λ (f : ℕ). head_at v.catalog.heads f ≡ Some head) c.file.ensures c.head_of-head.ensures.there in
    let form : form_refused head o (length (written o bytes)) ≡ None = subst (λ (b : List ℕ). form_refused head o (length b) ≡ None) c.written-value.ensures (sym c.form_refusal.ensures.refuses ∙ ap (option_and_then cause_of) c.in_default.is) in
    let early = direct_allowed head o (written o bytes) form c.if-head.false in
    let s = c.args.self.now in
    let w = c.truncate_directly.new.volume in
    let file = c.in-Truncate.file in
    let from = c.in-Truncate.from in
    let tid = c.args.tid in
    let clock = c.args.clock.0 in
    ok_with (DirectsCut tid clock file head from s v w) (λ (told : ℕ × Moment). told.0 ≡ 0)
    (λ (told : ℕ × Moment). (h : FileHead) → head_at v.catalog.heads (file_in o) ≡ Some h → DirectsOk tid clock h o bytes told.0 s v w)
    c.truncate_directly.result c.truncate_directly.ensures.done c.truncate_directly.ensures.position
    (λ told done zero h there.
    let both : Some head ≡ Some h = sym at_head ∙ there in
    let same_head : head ≡ h = cc in
    subst (λ (x : FileHead). DirectsOk tid clock x o bytes told.0 s v w) same_head
    record {
      early = early;
      changes = λ one. absurd (no_key o file from c.in-Truncate.is one);
      cuts = same_cut o file from c.in-Truncate.is (λ f n. DirectsCut tid clock f head n s v w) done;
      position = zero ∙ no_position o file from c.in-Truncate.is head (written o bytes);
    })

pub returns-in-Truncate-clause-err : goal.returns-in-Truncate-clause-err
returns-in-Truncate-clause-err g c =
    let v = c.args.volume.now in
    let o = c.args.op.now in
    let bytes = c.args.bytes.now in
    let head = c.head_of-head.result in
    let at_head : head_at v.catalog.heads (file_in o) ≡ Some head = subst (λ (f : ℕ). head_at v.catalog.heads f ≡ Some head) c.file.ensures c.head_of-head.ensures.there in
    let form : form_refused head o (length (written o bytes)) ≡ None = subst (λ (b : List ℕ). form_refused head o (length b) ≡ None) c.written-value.ensures (sym c.form_refusal.ensures.refuses ∙ ap (option_and_then cause_of) c.in_default.is) in
    let early = direct_allowed head o (written o bytes) form c.if-head.false in
    let s = c.args.self.now in
    let w = c.truncate_directly.new.volume in
    let file = c.in-Truncate.file in
    let from = c.in-Truncate.from in
    let tid = c.args.tid in
    let clock = c.args.clock.0 in
    IfErr-weaker c.truncate_directly.result (λ e. DirectsCutErr tid clock file head from e s v w) (λ e. (h : FileHead) → head_at v.catalog.heads (file_in o) ≡ Some h → DirectsErr tid clock h o bytes e s v w)
    (λ e err h there.
    let both : Some head ≡ Some h = sym at_head ∙ there in
    let same_head : head ≡ h = cc in
    subst (λ (x : FileHead). DirectsErr tid clock x o bytes e s v w) same_head
    (refused_so e (λ cause. DirectCutRefused file head from cause s v × SameVolume v w) (λ cause. DirectRefused head o (written o bytes) cause s v × SameVolume v w)
    (λ down. DirectCutBroke tid clock file head from s v w) (λ down. DirectBroke tid clock head o (written o bytes) s v w) err
    (λ cause x. (
      inr record {
        allowed = early;
        key = λ one. absurd (no_key o file from c.in-Truncate.is one);
        cut = same_cut o file from c.in-Truncate.is (λ f n. DirectCutRefused f head n cause s v) x.0;
      },
      x.1,
    ))
    (λ down b. record {
      allowed = early;
      key = λ one. absurd (no_key o file from c.in-Truncate.is one);
      cut = same_cut o file from c.in-Truncate.is (λ f n. DirectCutBroke tid clock f head n s v w) b;
    })))
    c.truncate_directly.ensures.err

pub asked_by-asked-requires : goal.asked_by-asked-requires
asked_by-asked-requires g c =
    let v = c.args.volume.now in
    let o = c.args.op.now in
    let bytes = c.args.bytes.now in
    let head = c.head_of-head.result in
    let at_head : head_at v.catalog.heads (file_in o) ≡ Some head = subst (λ (f : ℕ). head_at v.catalog.heads f ≡ Some head) c.file.ensures c.head_of-head.ensures.there in
    let form : form_refused head o (length (written o bytes)) ≡ None = subst (λ (b : List ℕ). form_refused head o (length b) ≡ None) c.written-value.ensures (sym c.form_refusal.ensures.refuses ∙ ap (option_and_then cause_of) c.in_default.is) in
    let early = direct_allowed head o (written o bytes) form c.if-head.false in
    let one : is_of_key o ≡ true = of_key o c.in_default-op.not-Truncate in
    record {
      one = one;
      fits = sym c.form_refusal.ensures.refuses ∙ ap (option_and_then cause_of) c.in_default.is;
      sizes = sizes_fit c.args.self.now v c.requires.order (file_in o) head at_head;
      size = subst (λ (b : List ℕ). length b ≤ 8160) (sym c.written-value.ensures) (value_fits c.args.self.now v c.requires.order (file_in o) head at_head o bytes one form);
    }

pub returns-clause-done : goal.returns-clause-done
returns-clause-done g c =
    let v = c.args.volume.now in
    let o = c.args.op.now in
    let bytes = c.args.bytes.now in
    let head = c.head_of-head.result in
    let at_head : head_at v.catalog.heads (file_in o) ≡ Some head = subst (λ (f : ℕ). head_at v.catalog.heads f ≡ Some head) c.file.ensures c.head_of-head.ensures.there in
    let form : form_refused head o (length (written o bytes)) ≡ None = subst (λ (b : List ℕ). form_refused head o (length b) ≡ None) c.written-value.ensures (sym c.form_refusal.ensures.refuses ∙ ap (option_and_then cause_of) c.in_default.is) in
    let early = direct_allowed head o (written o bytes) form c.if-head.false in
    let s = c.args.self.now in
    let w = c.direct_key.new.volume in
    let tid = c.args.tid in
    let clock = c.args.clock.0 in
    let a = c.asked_by-asked.result in
    let value = c.written-value.result.now in
    let one : is_of_key o ≡ true = of_key o c.in_default-op.not-Truncate in
    let key : key_of a.key ≡ key_in head o (written o bytes) = c.asked_by-asked.ensures.key ∙ ap (key_in head o) c.written-value.ensures in
    ok_with (DirectsKey tid clock a.file a.head a.change (key_of a.key) value s v w) (λ (told : ℕ × Moment). told.0 ≡ position_by a.head.organization a.change (key_of a.key))
    (λ (told : ℕ × Moment). (h : FileHead) → head_at v.catalog.heads (file_in o) ≡ Some h → DirectsOk tid clock h o bytes told.0 s v w)
    c.direct_key.result c.direct_key.ensures.done c.direct_key.ensures.position
    (λ told done is h there.
    let both : Some head ≡ Some h = sym at_head ∙ there in
    let same_head : head ≡ h = cc in
    subst (λ (x : FileHead). DirectsOk tid clock x o bytes told.0 s v w) same_head
    record {
      early = early;
      changes = λ yes. retold (λ f q how k b. DirectsKey tid clock f q how k b s v w) a.file (file_in o) a.head head a.change (change_in o) (key_of a.key) (key_in head o (written o bytes)) value (written o bytes)
          c.asked_by-asked.ensures.file c.asked_by-asked.ensures.head c.asked_by-asked.ensures.change key c.written-value.ensures done;
      cuts = λ file from cut. absurd (no_cut o one file from cut);
      position = is ∙ retold (λ f q how k b. position_by a.head.organization a.change (key_of a.key) ≡ position_by q.organization how k) a.file (file_in o) a.head head a.change (change_in o) (key_of a.key) (key_in head o (written o bytes)) value (written o bytes)
          c.asked_by-asked.ensures.file c.asked_by-asked.ensures.head c.asked_by-asked.ensures.change key c.written-value.ensures refl;
    })

pub returns-clause-err : goal.returns-clause-err
returns-clause-err g c =
    let v = c.args.volume.now in
    let o = c.args.op.now in
    let bytes = c.args.bytes.now in
    let head = c.head_of-head.result in
    let at_head : head_at v.catalog.heads (file_in o) ≡ Some head = subst (λ (f : ℕ). head_at v.catalog.heads f ≡ Some head) c.file.ensures c.head_of-head.ensures.there in
    let form : form_refused head o (length (written o bytes)) ≡ None = subst (λ (b : List ℕ). form_refused head o (length b) ≡ None) c.written-value.ensures (sym c.form_refusal.ensures.refuses ∙ ap (option_and_then cause_of) c.in_default.is) in
    let early = direct_allowed head o (written o bytes) form c.if-head.false in
    let s = c.args.self.now in
    let w = c.direct_key.new.volume in
    let tid = c.args.tid in
    let clock = c.args.clock.0 in
    let a = c.asked_by-asked.result in
    let value = c.written-value.result.now in
    let one : is_of_key o ≡ true = of_key o c.in_default-op.not-Truncate in
    let key : key_of a.key ≡ key_in head o (written o bytes) = c.asked_by-asked.ensures.key ∙ ap (key_in head o) c.written-value.ensures in
    IfErr-weaker c.direct_key.result (λ e. DirectsKeyErr tid clock a.file a.head a.change (key_of a.key) value e s v w) (λ e. (h : FileHead) → head_at v.catalog.heads (file_in o) ≡ Some h → DirectsErr tid clock h o bytes e s v w)
    (λ e err h there.
    let both : Some head ≡ Some h = sym at_head ∙ there in
    let same_head : head ≡ h = cc in
    let told : DirectsKeyErr tid clock (file_in o) head (change_in o) (key_in head o (written o bytes)) (written o bytes) e s v w =
    retold (λ f q how k b. DirectsKeyErr tid clock f q how k b e s v w) a.file (file_in o) a.head head a.change (change_in o) (key_of a.key) (key_in head o (written o bytes)) value (written o bytes)
    c.asked_by-asked.ensures.file c.asked_by-asked.ensures.head c.asked_by-asked.ensures.change key c.written-value.ensures err in
    subst (λ (x : FileHead). DirectsErr tid clock x o bytes e s v w) same_head
    (refused_so e (λ cause. DirectKeyRefused (file_in o) head (change_in o) (key_in head o (written o bytes)) (written o bytes) cause s v × SameVolume v w) (λ cause. DirectRefused head o (written o bytes) cause s v × SameVolume v w)
    (λ down. DirectKeyBroke tid clock (file_in o) head (change_in o) (key_in head o (written o bytes)) (written o bytes) s v w) (λ down. DirectBroke tid clock head o (written o bytes) s v w) told
    (λ cause x. (
      inr record {
        allowed = early;
        key = λ yes. x.0;
        cut = λ file from cut. absurd (no_cut o one file from cut);
      },
      x.1,
    ))
    (λ down b. record {
      allowed = early;
      key = λ yes. b;
      cut = λ file from cut. absurd (no_cut o one file from cut);
    })))
    c.direct_key.ensures.err
