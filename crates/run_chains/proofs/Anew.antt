-- Images of which some were taken away, or made anew where no image tells an id of their node, agree where those before them did.
use Rattle.std.proofs.Common.{◌≡◌, ◌≤◌, ◌⊎◌, true, false, List, [], Option, Some, None, inl, inr, refl, ap, sym, subst, ◌∙◌}
use Rattle.std.specs.Prelude.{is_some}
use Rattle.vms_model.specs.Ids.{Id}
use Rattle.vms_model.specs.Transactions.{Outcome, Commit as ToCommit, Abort as ToAbort}
use Rattle.commit_protocol.specs.Messages.{Name, LogRecord}
use Rattle.commit_protocol.specs.Table.{Key, coordinator_of, first, home_of, record_key}
use Rattle.commit_protocol.specs.World.{In}
use Rattle.commit_protocol.specs.Agreement.{Distinct}
use Rattle.commit_protocol.specs.Opening.{Image, IsAgreeing, LastIn, OldIn, OldKey, Opening, PreparedIn, Shows, WaitedFor, WaitsIn, image_at, image_in, in_rack, log_serials, no_image, or_none}
use Rattle.run_chains.specs.Chains.{Active, Committed, IsOfOthers, Last, Prepared, TellsBranch, TellsNoneOf, Waited}

-- the image of a node is as it was, is taken away, or is that of a new volume, and no image tells an id of the node
abbrev pub Turns : Opening → Opening → Name → Type 0
Turns o p n = (image_in n p.images ≡ image_in n o.images) ⊎ ((image_in n p.images ≡ None) ⊎ ((image_in n p.images ≡ Some no_image) × TellsNoneOf n p))

module _ (o p : Opening) (turns : (n : Name) → Turns o p n) where
  -- what an image has was there before
  fewer : {A : Type 0} (part : Image → List A) → part no_image ≡ [] → (n : Name) (x : A) → In x (part (image_at p n)) → In x (part (image_at o n))
  fewer {A = A} part none n x i = elim (turns n) [
    | inl same ↦ subst (λ (j : Image). In x (part j)) (ap or_none same) i
    | inr (inl gone) ↦ absurd (nothing (ap or_none gone))
    | inr (inr made) ↦ absurd (nothing (ap or_none made.0))
  ]
    where
      nothing : image_at p n ≡ no_image → ⊥
      nothing e = subst (λ (xs : List A). In x xs) (ap part e ∙ none) i

  pub prepared_before : (n : Name) (r : LogRecord) → In r (image_at p n).prepared → In r (image_at o n).prepared
  prepared_before n r i = fewer (λ j. j.prepared) refl n r i

  committed_before : (n : Name) (r : LogRecord) → In r (image_at p n).committed → In r (image_at o n).committed
  committed_before n r i = fewer (λ j. j.committed) refl n r i

  units_before : (n : Name) (k : Key) → In k (image_at p n).units → In k (image_at o n).units
  units_before n k i = fewer (λ j. j.units) refl n k i

  last_at : (n : Name) (x : Key × Outcome) → (image_at p n).last ≡ Some x → (image_at o n).last ≡ Some x
  last_at n x e = elim (turns n) [
    | inl same ↦ sym (ap (λ (j : Image). j.last) (ap or_none same)) ∙ e
    | inr (inl gone) ↦ absurd (nothing (ap or_none gone))
    | inr (inr made) ↦ absurd (nothing (ap or_none made.0))
  ]
    where
      nothing : image_at p n ≡ no_image → ⊥
      nothing q = let clash : ◌≡◌ {A = Option (Key × Outcome)} None (Some x) = sym (ap (λ (j : Image). j.last) q) ∙ e in let no : ⊥ = cc in no

  prepared_in : (k : Key) → PreparedIn p k → PreparedIn o k
  prepared_in k x = (x.0, prepared_before (home_of k) x.0 x.1, x.2)

  waited_in : (k : Key) → WaitedFor p k → WaitedFor o k
  waited_in k x = (x.0, (x.1.0, committed_before x.0 x.1.0 x.1.1, x.1.2, x.1.3))

  last_in : (k : Key) (out : Outcome) → LastIn p k out → LastIn o k out
  last_in k out x = (x.0, last_at x.0 (k, out) x.1)

  pub shows_in : (t : Id) → Shows p t → Shows o t
  shows_in t x = elim x [
    | inl a ↦ inl (a.0, last_in a.0 ToCommit a.1, a.2)
    | inr a ↦ inr (a.0, (a.1.0, committed_before a.0 a.1.0 a.1.1, a.1.2))
  ]

  not_there : (n : Name) → image_in n p.images ≡ None → in_rack p n ≡ true → ⊥
  not_there n gone rack = let clash : false ≡ true = sym (ap is_some gone) ∙ rack in let no : ⊥ = cc in no

  -- ids of a node of the rack
  old_in : (i : Id) → (TellsNoneOf i.node p → ⊥) → OldIn o i → OldIn p i
  old_in i told x rack = elim (turns i.node) [
    | inl same ↦ subst (λ (j : Image). i.boot ≤ j.boot) (sym (ap or_none same)) (x (sym (ap is_some same) ∙ rack))
    | inr (inl gone) ↦ absurd (not_there i.node gone rack)
    | inr (inr made) ↦ absurd (told made.1)
  ]

  old_key : (k : Key) → ((n : Name) → TellsNoneOf n p → IsOfOthers n k) → OldKey o k → OldKey p k
  old_key k others x = record { tid = old_in k.tid (λ t. (others k.tid.node t).0 refl) x.tid; serial = old_in k.serial (λ t. (others k.serial.node t).1 refl) x.serial }

  owed_in : IsAgreeing o → (k : Key) → PreparedIn p k → in_rack p (coordinator_of k) ≡ true → WaitsIn p (coordinator_of k) k ⊎ (Shows p k.tid → ⊥)
  owed_in h k x rack = elim (turns (coordinator_of k)) [
    | inl same ↦ elim (h.owed k (prepared_in k x) (sym (ap is_some same) ∙ rack)) [
      | inl w ↦ inl (w.0, subst (λ (j : Image). In w.0 j.committed) (sym (ap or_none same)) w.1, w.2, w.3)
      | inr none ↦ inr (λ s. none (shows_in k.tid s))
    ]
    | inr (inl gone) ↦ absurd (not_there (coordinator_of k) gone rack)
    | inr (inr made) ↦ absurd ((made.1 k (Prepared (home_of k) x.0 x.1 x.2)).0 refl)
  ]

  serials_distinct : IsAgreeing o → (n : Name) → Distinct (log_serials (image_at p n))
  serials_distinct h n = elim (turns n) [
    | inl same ↦ subst (λ (j : Image). Distinct (log_serials j)) (sym (ap or_none same)) (h.distinct n)
    | inr (inl gone) ↦ subst (λ (j : Image). Distinct (log_serials j)) (sym (ap or_none gone)) tt
    | inr (inr made) ↦ subst (λ (j : Image). Distinct (log_serials j)) (sym (ap or_none made.0)) tt
  ]

  pub agree_anew : IsAgreeing o → IsAgreeing p
  agree_anew h = record {
    own_prepared = λ n r i. h.own_prepared n r (prepared_before n r i);
    own_committed = λ n r i. h.own_committed n r (committed_before n r i);
    own_units = λ n k i. h.own_units n k (units_before n k i);
    distinct = serials_distinct h;
    unprepared = λ n k i x. h.unprepared n k (units_before n k i) (prepared_in k x);
    owed = owed_in h;
    waited_last = λ k x l. h.waited_last k (waited_in k x) (last_in k ToAbort l);
    waited_unit = λ n k x i. h.waited_unit n k (waited_in k x) (units_before n k i);
    first_last = λ t x l. h.first_last t (shows_in t x) (last_in (first t) ToAbort l);
    first_unit = λ n t x i. h.first_unit n t (shows_in t x) (units_before n (first t) i);
    last_unit = λ n k out e i. h.last_unit n k out (last_at n (k, out) e) (units_before n k i);
    last_prepared = λ n r out e i. h.last_prepared n r out (last_at n (record_key r, out) e) (prepared_before n r i);
    old_prepared = λ n r i. old_key (record_key r) (λ m t. t (record_key r) (Prepared n r i refl)) (h.old_prepared n r (prepared_before n r i));
    old_waited = λ k x. old_key k (λ m t. t k (Waited x)) (h.old_waited k (waited_in k x));
    old_committed = λ n r i. old_key (record_key r) (λ m t. t (record_key r) (Committed n r i refl)) (h.old_committed n r (committed_before n r i));
    old_last = λ k out l. old_key k (λ m t. t k (Last out l)) (h.old_last k out (last_in k out l));
    old_unit = λ n k i. old_key k (λ m t. t k (Active n i)) (h.old_unit n k (units_before n k i));
  }

-- the ids of a branch that an image tells, where they agree, are old
pub told_old : (o : Opening) → IsAgreeing o → (k : Key) → TellsBranch o k → OldKey o k
told_old o h k (Prepared n r i same) = subst (OldKey o) same (h.old_prepared n r i)
told_old o h k (Committed n r i same) = subst (OldKey o) same (h.old_committed n r i)
told_old o h k (Waited w) = h.old_waited k w
told_old o h k (Last out l) = h.old_last k out l
told_old o h k (Active n i) = h.old_unit n k i
