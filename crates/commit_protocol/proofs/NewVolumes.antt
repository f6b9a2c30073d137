-- Volumes that were just made agree.
use Rattle.std.proofs.lemmas.Bool.{cases_Bool}
use Rattle.std.proofs.Common.{◌≡◌, List, [], ◌∷◌, Some, None, inl, inr, refl, ap, sym, subst, ◌∙◌}
use Rattle.vms_model.specs.Transactions.{Outcome, Abort as ToAbort}
use Rattle.commit_protocol.specs.Messages.{Name, LogRecord, same_name}
use Rattle.commit_protocol.specs.Table.{Key, first, home_of}
use Rattle.commit_protocol.specs.World.{In}
use Rattle.commit_protocol.specs.Agreement.{Distinct}
use Rattle.commit_protocol.specs.Opening.{Image, image_in, no_image, or_none, image_at, log_serials, IsAgreeing, new_images, new_volumes}

new_or : (ns : List Name) (n : Name) → or_none (image_in n (new_images ns)) ≡ no_image
new_or [] n = refl
new_or (m ∷ ns) n =
    elim (cases_Bool (same_name m n)) [
      | inl e ↦ rw e refl
      | inr e ↦ rw e (new_or ns n)
    ]

-- nothing stands in such an image
nothing : {A : Type 0} (part : Image → List A) (ns : List Name) (n : Name) (x : A) → part no_image ≡ [] → In x (part (image_at (new_volumes ns) n)) → ⊥
nothing {A = A} part ns n x none h =
    let P : Image → Type 0 = λ i. In x (part i) in
    let Q : List A → Type 0 = λ ys. In x ys in
    subst Q none (subst P (new_or ns n) h)

no_last : (ns : List Name) (n : Name) (p : Key × Outcome) → (image_at (new_volumes ns) n).last ≡ Some p → ⊥
no_last ns n p h = let z : None ≡ Some p = sym (ap (λ (i : Image). i.last) (new_or ns n)) ∙ h in cc

pub new_agree : (ns : List Name) → IsAgreeing (new_volumes ns)
new_agree ns =
    let prepared : (n : Name) (r : LogRecord) → In r (image_at (new_volumes ns) n).prepared → ⊥ = λ n r. nothing (λ i. i.prepared) ns n r refl in
    let committed : (n : Name) (r : LogRecord) → In r (image_at (new_volumes ns) n).committed → ⊥ = λ n r. nothing (λ i. i.committed) ns n r refl in
    let units : (n : Name) (k : Key) → In k (image_at (new_volumes ns) n).units → ⊥ = λ n k. nothing (λ i. i.units) ns n k refl in
    record {
      own_prepared = λ n r h. absurd (prepared n r h);
      own_committed = λ n r h. absurd (committed n r h);
      own_units = λ n k h. absurd (units n k h);
      distinct = λ n. (let P : Image → Type 0 = λ i. Distinct (log_serials i) in subst P (sym (new_or ns n)) tt);
      unprepared = λ n k h p. units n k h;
      owed = λ k p. absurd (prepared (home_of k) p.0 p.1);
      waited_last = λ k w l. committed w.0 w.1.0 w.1.1;
      waited_unit = λ n k w h. units n k h;
      first_last = λ t s l. no_last ns l.0 (first t, ToAbort) l.1;
      first_unit = λ n t s h. units n (first t) h;
      last_unit = λ n k out e h. units n k h;
      last_prepared = λ n r out e h. prepared n r h;
      old_prepared = λ n r h. absurd (prepared n r h);
      old_waited = λ k w. absurd (committed w.0 w.1.0 w.1.1);
      old_committed = λ n r h. absurd (committed n r h);
      old_last = λ k out l. absurd (no_last ns l.0 (k, out) l.1);
      old_unit = λ n k h. absurd (units n k h);
    }
