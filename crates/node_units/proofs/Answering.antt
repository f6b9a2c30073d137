-- What holds of an answer, by what holds where it is one thing or the other.
use Rattle.std.proofs.Common.{◌≡◌, ◌+◌, ◌≤◌, ◌^◌, None, OnOk, OnErr, IfErr, IfOk, Result, Ok, Err, arith, subst, sym}
use Rattle.careful_write.specs.declared.down.Down.{Down}
use Rattle.record_operations.specs.Causes.{Cause, IfRefused, down_in}
use Rattle.record_operations.specs.declared.errors.RecErr.{RecErr}
use Rattle.record_operations.specs.declared.errors.RecErr.TheVariants as err
use Rattle.recovery_units.specs.image_room.Room.{images_end}
use Rattle.recovery_units.specs.Uses.{ImagesGrow}
use Rattle.volume.specs.State.{SameVolume, VolumeState}
use Rattle.volume.specs.declared.catalog.Catalog.{Catalog}

pub ok_as : {A E : Type 0} (P Q : Type 0) (r : Result A E) → (P → Q) → OnOk r P → OnOk r Q
ok_as P Q (Ok x) f h = f h
ok_as P Q (Err e) f h = h

pub ok_with : {A E : Type 0} (P Q : A → Type 0) (r : Result A E) → ((x : A) → P x → Q x) → IfOk r P → IfOk r Q
ok_with P Q (Ok x) f h = f x h
ok_with P Q (Err e) f h = h

pub err_as : {A E : Type 0} (P Q : E → Type 0) (r : Result A E) → ((e : E) → P e → Q e) → IfErr r P → IfErr r Q
err_as P Q (Ok x) f h = h
err_as P Q (Err e) f h = f e h

-- either way
pub both_as : {A E : Type 0} (P : Type 0) (Q : E → Type 0) (X : Type 0) (r : Result A E) → (P → X) → ((e : E) → Q e → X) → OnOk r P → IfErr r Q → X
both_as P Q X (Ok x) f g h k = f h
both_as P Q X (Err e) f g h k = g e k

pub both_with : {A E : Type 0} (P : A → Type 0) (Q : E → Type 0) (X : Type 0) (r : Result A E) → ((x : A) → P x → X) → ((e : E) → Q e → X) → IfOk r P → IfErr r Q → X
both_with P Q X (Ok x) f g h k = f x h
both_with P Q X (Err e) f g h k = g e k

-- what holds of each refusal holds where the disk did not go down
pub refused_same : (e : RecErr) (P : Cause → Type 0) (X : Type 0) (Q : Down → Type 0) → down_in e ≡ None → IfRefused e (λ c. P c × X) Q → X
refused_same err.BadParameter P X Q none h = h.1
refused_same err.BadOperation P X Q none h = h.1
refused_same err.BadRecordNumber P X Q none h = h.1
refused_same err.BadRecordSize P X Q none h = h.1
refused_same err.NotForUnits P X Q none h = h.1
refused_same err.NeedsUnit P X Q none h = h.1
refused_same (err.Locked by) P X Q none h = h.1
refused_same err.RecordExists P X Q none h = h.1
refused_same err.KeyExists P X Q none h = h.1
refused_same err.RecordNotFound P X Q none h = h.1
refused_same err.EndOfFile P X Q none h = h.1
refused_same err.KeyChanged P X Q none h = h.1
refused_same err.Changes P X Q none h = h.1
refused_same err.Locks P X Q none h = h.1
refused_same (err.FileFull free need) P X Q none h = h.1
refused_same (err.JournalFull free need) P X Q none h = h.1
refused_same (err.AfterImagesFull free need) P X Q none h = h.1
refused_same (err.BeforeImagesFull free need) P X Q none h = h.1
refused_same (err.Down down) P X Q none h = let never : ⊥ = cc in absurd never

pub ok_both : {A E : Type 0} (P Q R : A → Type 0) (r : Result A E) → ((x : A) → P x → Q x → R x) → IfOk r P → IfOk r Q → IfOk r R
ok_both P Q R (Ok x) f h k = f x h k
ok_both P Q R (Err e) f h k = h

pub fail_as : {A E : Type 0} (P Q : Type 0) (r : Result A E) → (P → Q) → OnErr r P → OnErr r Q
fail_as P Q (Ok x) f h = h
fail_as P Q (Err e) f h = f h

pub ok_and : {A E : Type 0} (P Q R : Type 0) (r : Result A E) → (P → Q → R) → OnOk r P → OnOk r Q → OnOk r R
ok_and P Q R (Ok x) f h k = f h k
ok_and P Q R (Err e) f h k = h

pub ok_of : {A E : Type 0} (P : A → Type 0) (Q : Type 0) (r : Result A E) → ((x : A) → P x → Q) → IfOk r P → OnOk r Q
ok_of P Q (Ok x) f h = f x h
ok_of P Q (Err e) f h = h

-- a volume that is the same but for reads has the same rings
pub images_same : (v w : VolumeState) → SameVolume v w → ImagesGrow v w
images_same v w same = subst (λ (x : VolumeState). ImagesGrow v x) (sym same) (let most : images_end v.catalog.heads ≤ images_end v.catalog.heads + 2 ^ 24 = omega arith in most)

-- and so has one with the same catalog
pub images_kept : (v w : VolumeState) → w.catalog ≡ v.catalog → ImagesGrow v w
images_kept v w same = subst (λ (k : Catalog). images_end k.heads ≤ images_end v.catalog.heads + 2 ^ 24) (sym same) (let most : images_end v.catalog.heads ≤ images_end v.catalog.heads + 2 ^ 24 = omega arith in most)

pub images_since : (u v w : VolumeState) → v.catalog ≡ u.catalog → ImagesGrow v w → ImagesGrow u w
images_since u v w same grow = subst (λ (k : Catalog). images_end w.catalog.heads ≤ images_end k.heads + 2 ^ 24) same grow

pub ok_always : {A E : Type 0} (P : Type 0) (r : Result A E) → P → OnOk r P
ok_always P (Ok x) h = h
ok_always P (Err e) h = tt
