use Rattle.std.proofs.Common.{Result, Ok, Err, OnOk, ap, subst}
use Rattle.std.specs.Option.{option_copied}
use Rattle.file_base.specs.vms_base.Keys.{key_of}
use Rattle.file_base.specs.vms_model.Keys.{Key}
use Rattle.seq_file.specs.Records.{list_set}
use Rattle.seq_file.specs.Layout.{Suits, TakesAt}
use Rattle.seq_file.specs.Frames.{Changes}
use Rattle.seq_file.proofs.SetLaws.{set_done}
use Rattle.seq_file.proofs.sequential.set_record.Goals as goal

on_ok_then : {T E A B : Type 0} (r : Result T E) → (A → B) → OnOk r A → OnOk r B
on_ok_then (Ok x) f a = f a
on_ok_then (Err e) f a = tt

pub returns-else-is_err-clause-map : goal.returns-else-is_err-clause-map
returns-else-is_err-clause-map g c =
    let h = c.args.head.now in
    let v = option_copied c.args.value in
    let one = (subst (λ (k : Key). Suits h k v) (ap key_of c.in-Number.is) c.requires.suits).0 in
    on_ok_then c.set_position-done.result (λ (w : Changes h c.set_position-done.new.head (TakesAt h c.in-Number.n v) (list_set c.in-Number.n v) c.args.store.now c.set_position-done.new.store).
    (set_done h c.set_position-done.new.head (key_of c.args.key.now) c.in-Number.n v _ _ (ap key_of c.in-Number.is) one c.requires.form w).map_is) c.set_position-done.ensures.done

pub returns-else-is_err-clause-valid : goal.returns-else-is_err-clause-valid
returns-else-is_err-clause-valid g c =
    let h = c.args.head.now in
    let v = option_copied c.args.value in
    let one = (subst (λ (k : Key). Suits h k v) (ap key_of c.in-Number.is) c.requires.suits).0 in
    on_ok_then c.set_position-done.result (λ (w : Changes h c.set_position-done.new.head (TakesAt h c.in-Number.n v) (list_set c.in-Number.n v) c.args.store.now c.set_position-done.new.store).
    (set_done h c.set_position-done.new.head (key_of c.args.key.now) c.in-Number.n v _ _ (ap key_of c.in-Number.is) one c.requires.form w).valid) c.set_position-done.ensures.done

pub returns-else-is_err-clause-used : goal.returns-else-is_err-clause-used
returns-else-is_err-clause-used g c =
    let h = c.args.head.now in
    let v = option_copied c.args.value in
    let one = (subst (λ (k : Key). Suits h k v) (ap key_of c.in-Number.is) c.requires.suits).0 in
    on_ok_then c.set_position-done.result (λ (w : Changes h c.set_position-done.new.head (TakesAt h c.in-Number.n v) (list_set c.in-Number.n v) c.args.store.now c.set_position-done.new.store).
    (set_done h c.set_position-done.new.head (key_of c.args.key.now) c.in-Number.n v _ _ (ap key_of c.in-Number.is) one c.requires.form w).used) c.set_position-done.ensures.done

pub returns-else-is_err-clause-back : goal.returns-else-is_err-clause-back
returns-else-is_err-clause-back g c =
    let h = c.args.head.now in
    let v = option_copied c.args.value in
    let one = (subst (λ (k : Key). Suits h k v) (ap key_of c.in-Number.is) c.requires.suits).0 in
    on_ok_then c.set_position-done.result (λ (w : Changes h c.set_position-done.new.head (TakesAt h c.in-Number.n v) (list_set c.in-Number.n v) c.args.store.now c.set_position-done.new.store).
    (set_done h c.set_position-done.new.head (key_of c.args.key.now) c.in-Number.n v _ _ (ap key_of c.in-Number.is) one c.requires.form w).back) c.set_position-done.ensures.done

pub returns-else-is_err-clause-staged : goal.returns-else-is_err-clause-staged
returns-else-is_err-clause-staged g c =
    let h = c.args.head.now in
    let v = option_copied c.args.value in
    on_ok_then c.set_position-done.result (λ (w : Changes h c.set_position-done.new.head (TakesAt h c.in-Number.n v) (list_set c.in-Number.n v) c.args.store.now c.set_position-done.new.store).
    w.staged) c.set_position-done.ensures.done

pub returns-else-is_err-clause-file : goal.returns-else-is_err-clause-file
returns-else-is_err-clause-file g c =
    let h = c.args.head.now in
    let v = option_copied c.args.value in
    on_ok_then c.set_position-done.result (λ (w : Changes h c.set_position-done.new.head (TakesAt h c.in-Number.n v) (list_set c.in-Number.n v) c.args.store.now c.set_position-done.new.store). w.file) c.set_position-done.ensures.done

pub returns-else-is_err-clause-form : goal.returns-else-is_err-clause-form
returns-else-is_err-clause-form g c =
    let h = c.args.head.now in
    let v = option_copied c.args.value in
    on_ok_then c.set_position-done.result (λ (w : Changes h c.set_position-done.new.head (TakesAt h c.in-Number.n v) (list_set c.in-Number.n v) c.args.store.now c.set_position-done.new.store). w.form) c.set_position-done.ensures.done
