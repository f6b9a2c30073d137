-- Prepared branches in the order of their preparation, of which one is settled.
use Rattle.std.proofs.Common.{◌≡◌, List, [], ◌∷◌, inl, inr, Bool, true, false, Option, Some, None, if◌then◌else◌, refl, sym, ◌∙◌, ap, subst}
use Rattle.vms_model.specs.Ids.{Id}
use Rattle.commit_protocol.specs.Agreement.{Distinct}
use Rattle.commit_protocol.specs.Allowed.{is_prepared}
use Rattle.commit_protocol.specs.Messages.{same_id}
use Rattle.commit_protocol.specs.Standing.{IsThere}
use Rattle.commit_protocol.specs.Table.{Branch, Key, branch_serials, cut, find, same_key, without}
use Rattle.commit_protocol.specs.World.{In, arranged, arranged_by}
use Rattle.commit_protocol.proofs.Lists.{find-cut, find-cut_other, find-key, same_id-refl, same_key-refl, told_id, told_key}
use Rattle.commit_protocol.proofs.Restarts.{find-arranged}
use Rattle.commit_protocol.proofs.Serials.{cut_distinct, cut_gone, in_cut_serials, there_serial}
use Rattle.statement_steps.specs.Settling.{in_doubt_of}

-- Cutting branches out of a list.

cut_twice : (k : Key) (bs : List Branch) → cut k (cut k bs) ≡ cut k bs
cut_twice k [] = refl
cut_twice k (b ∷ bs) = elim (told_key b.key k) [
  | inl q ↦ rw (q.0) (cut_twice k bs)
  | inr q ↦ rw (q.0) (rw (q.0) (ap (λ cs. b ∷ cs) (cut_twice k bs)))
]

cut_either : (j k : Key) (bs : List Branch) → cut j (cut k bs) ≡ cut k (cut j bs)
cut_either j k [] = refl
cut_either j k (b ∷ bs) = go (same_key b.key j) (same_key b.key k) refl refl (cut_either j k bs)
  where
    go : (x y : Bool) → same_key b.key j ≡ x → same_key b.key k ≡ y → cut j (cut k bs) ≡ cut k (cut j bs) → cut j (cut k (b ∷ bs)) ≡ cut k (cut j (b ∷ bs))
    go true true e f more = rw (e, f) more
    go true false e f more = rw (e, f) (rw e more)
    go false true e f more = rw (e, f) more
    go false false e f more = rw (e, f) (rw e (ap (λ cs. b ∷ cs) more))

-- the arranged branches but for one are the others, arranged
cut_arranged : (order : List Key) (k : Key) (bs : List Branch) → arranged order (cut k bs) ≡ cut k (arranged order bs)
cut_arranged [] k bs = refl
cut_arranged (j ∷ order) k bs = elim (told_key j k) [
  | inl q ↦ (let P : Key → Type 0 = λ x. arranged (x ∷ order) (cut k bs) ≡ cut k (arranged (x ∷ order) bs) in subst P (sym q.1) (same (sym (cut_arranged order k (cut k bs))) (find k bs) refl))
  | inr q ↦ other q.1 (cut_arranged order k (cut j bs)) (find j bs) refl
]
  where
    same : cut k (arranged order (cut k bs)) ≡ arranged order (cut k (cut k bs)) → (o : Option Branch) → find k bs ≡ o → arranged_by (find k (cut k bs)) (arranged order (cut k (cut k bs))) ≡ cut k (arranged_by (find k bs) (arranged order (cut k bs)))
    same more None e = ap (λ x. arranged_by x (arranged order (cut k (cut k bs)))) (find-cut k bs) ∙ sym more ∙ ap (λ x. cut k (arranged_by x (arranged order (cut k bs)))) (sym e)
    same more (Some b) e =
        let here : same_key b.key k ≡ true = ap (λ x. same_key x k) (find-key k bs b e) ∙ same_key-refl k in
        let gone : cut k (b ∷ arranged order (cut k bs)) ≡ cut k (arranged order (cut k bs)) = rw here refl in
        ap (λ x. arranged_by x (arranged order (cut k (cut k bs)))) (find-cut k bs) ∙ sym more ∙ sym gone ∙ ap (λ x. cut k (arranged_by x (arranged order (cut k bs)))) (sym e)

    other : (j ≡ k → ⊥) → arranged order (cut k (cut j bs)) ≡ cut k (arranged order (cut j bs)) → (o : Option Branch) → find j bs ≡ o → arranged_by (find j (cut k bs)) (arranged order (cut j (cut k bs))) ≡ cut k (arranged_by (find j bs) (arranged order (cut j bs)))
    other ne more o e =
        let rest : arranged order (cut j (cut k bs)) ≡ cut k (arranged order (cut j bs)) = ap (arranged order) (cut_either j k bs) ∙ more in
        let here : find j (cut k bs) ≡ find j bs = find-cut_other k j bs (λ q. ne (sym q)) in
        (λ i. arranged_by (here i) (rest i)) ∙ by o e
      where
        by : (o : Option Branch) → find j bs ≡ o → arranged_by (find j bs) (cut k (arranged order (cut j bs))) ≡ cut k (arranged_by (find j bs) (arranged order (cut j bs)))
        by None e = rw e refl
        by (Some b) e =
            let away : same_key b.key k ≡ false = elim (told_key b.key k) [ inl q ↦ absurd (ne (sym (find-key j bs b e) ∙ q.1)) | inr q ↦ q.0 ] in
            rw e (rw away refl)

-- Serials.

in_arranged : (order : List Key) (bs : List Branch) (i : Id) → In i (branch_serials (arranged order bs)) → In i (branch_serials bs)
in_arranged [] bs i h = h
in_arranged (k ∷ order) bs i h = go (find k bs) refl h (λ j. in_cut_serials k bs i (in_arranged order (cut k bs) i j))
  where
    go : (o : Option Branch) → find k bs ≡ o → In i (branch_serials (arranged_by o (arranged order (cut k bs)))) → (In i (branch_serials (arranged order (cut k bs))) → In i (branch_serials bs)) → In i (branch_serials bs)
    go None e j rest = rest j
    go (Some b) e j rest = elim j [
      | inl q ↦ (let P : Id → Type 0 = λ z. In z (branch_serials bs) in subst P (sym (q ∙ ap (λ (x : Key). x.serial) (find-key k bs b e))) (there_serial k bs (b, e)))
      | inr z ↦ rest z
    ]

pub arranged_apart : (order : List Key) (bs : List Branch) → Distinct (branch_serials bs) → Distinct (branch_serials (arranged order bs))
arranged_apart [] bs d = d
arranged_apart (k ∷ order) bs d = go (find k bs) refl (arranged_apart order (cut k bs) (cut_distinct k bs d))
  where
    go : (o : Option Branch) → find k bs ≡ o → Distinct (branch_serials (arranged order (cut k bs))) → Distinct (branch_serials (arranged_by o (arranged order (cut k bs))))
    go None e more = more
    go (Some b) e more = (
      (λ h. cut_gone k bs d (b, e) (let P : Id → Type 0 = λ z. In z (branch_serials (cut k bs)) in subst P (ap (λ (x : Key). x.serial) (find-key k bs b e)) (in_arranged order (cut k bs) b.key.serial h))),
      more,
    )

in_doubt_serial : (bs : List Branch) (i : Id) → In i (in_doubt_of bs) → In i (branch_serials bs)
in_doubt_serial [] i h = h
in_doubt_serial (b ∷ bs) i h = go (is_prepared b.state) h (in_doubt_serial bs i)
  where
    go : (t : Bool) → In i (if t then b.key.serial ∷ in_doubt_of bs else in_doubt_of bs) → (In i (in_doubt_of bs) → In i (branch_serials bs)) → In i (branch_serials (b ∷ bs))
    go true k more = elim k [ inl q ↦ inl q | inr z ↦ inr (more z) ]
    go false k more = inr (more k)

pub doubts_apart : (bs : List Branch) → Distinct (branch_serials bs) → Distinct (in_doubt_of bs)
doubts_apart [] d = d
doubts_apart (b ∷ bs) d = go (is_prepared b.state) (doubts_apart bs d.1)
  where
    go : (t : Bool) → Distinct (in_doubt_of bs) → Distinct (if t then b.key.serial ∷ in_doubt_of bs else in_doubt_of bs)
    go true more = ((λ h. d.0 (in_doubt_serial bs b.key.serial h)), more)
    go false more = more

-- a branch that is cut is in doubt no more
doubts_cut : (k : Key) (bs : List Branch) → ((b : Branch) → In b bs → b.key.serial ≡ k.serial → b.key ≡ k) → in_doubt_of (cut k bs) ≡ without k.serial (in_doubt_of bs)
doubts_cut k [] alone = refl
doubts_cut k (b ∷ bs) alone = elim (told_key b.key k) [
  | inl q ↦ rw (q.0) (doubts_cut k bs (λ c i. alone c (inr i)) ∙ sym (here (ap (λ (x : Key). x.serial) q.1) (is_prepared b.state)))
  | inr q ↦ rw (q.0) (away (λ e. q.1 (alone b (inl refl) e)) (is_prepared b.state) (doubts_cut k bs (λ c i. alone c (inr i))))
]
  where
    here : b.key.serial ≡ k.serial → (t : Bool) → without k.serial (if t then b.key.serial ∷ in_doubt_of bs else in_doubt_of bs) ≡ without k.serial (in_doubt_of bs)
    here e true = let same : same_id b.key.serial k.serial ≡ true = ap (λ x. same_id x k.serial) e ∙ same_id-refl k.serial in rw same refl
    here e false = refl

    away : (b.key.serial ≡ k.serial → ⊥) → (t : Bool) → in_doubt_of (cut k bs) ≡ without k.serial (in_doubt_of bs) →
        ◌≡◌ {A = List Id} (if t then b.key.serial ∷ in_doubt_of (cut k bs) else in_doubt_of (cut k bs)) (without k.serial (if t then b.key.serial ∷ in_doubt_of bs else in_doubt_of bs))
    away ne true more = let other : same_id b.key.serial k.serial ≡ false = elim (told_id b.key.serial k.serial) [ inl q ↦ absurd (ne q.1) | inr q ↦ q.0 ] in rw other (ap (λ is. b.key.serial ∷ is) more)
    away ne false more = more

in_serials : (b : Branch) (bs : List Branch) → In b bs → In b.key.serial (branch_serials bs)
in_serials b [] i = i
in_serials b (x ∷ bs) i = elim i [ inl e ↦ inl (ap (λ (y : Branch). y.key.serial) e) | inr j ↦ inr (in_serials b bs j) ]

-- where serials are distinct, a serial that is there is of one key
alone_by : (bs : List Branch) (k : Key) → Distinct (branch_serials bs) → IsThere bs k → (b : Branch) → In b bs → b.key.serial ≡ k.serial → b.key ≡ k
alone_by [] k d there b i e = absurd i
alone_by (x ∷ bs) k d there b i e = elim i [
  | inl s ↦ elim (told_key x.key k) [
    | inl q ↦ ap (λ (y : Branch). y.key) s ∙ q.1
    | inr q ↦ (let f : find k bs ≡ Some there.0 = rw (q.0) at there.1 in absurd (d.0 (subst (λ z. In z (branch_serials bs)) (sym e ∙ ap (λ (y : Branch). y.key.serial) s) (there_serial k bs (there.0, f)))))
  ]
  | inr j ↦ elim (told_key x.key k) [
    | inl q ↦ absurd (d.0 (subst (λ z. In z (branch_serials bs)) (e ∙ sym (ap (λ (y : Key). y.serial) q.1)) (in_serials b bs j)))
    | inr q ↦ (let f : find k bs ≡ Some there.0 = rw (q.0) at there.1 in alone_by bs k d.1 (there.0, f) b j e)
  ]
]

-- A branch is settled: the others are in doubt, in the same order.
pub doubts_settled : (order : List Key) (k : Key) (bs : List Branch) → Distinct (branch_serials bs) → IsThere bs k → in_doubt_of (arranged order (cut k bs)) ≡ without k.serial (in_doubt_of (arranged order bs))
doubts_settled order k bs d there = ap in_doubt_of (cut_arranged order k bs) ∙ doubts_cut k (arranged order bs) (alone_by (arranged order bs) k (arranged_apart order bs d) (there.0, find-arranged order bs k ∙ there.1))
