-- What the lists that are gathered from the images of an opening hold.
use Rattle.std.proofs.lemmas.Bool.{cases_Bool}
use Rattle.std.proofs.Common.{◌≡◌, ◌≢◌, true, false, List, [], ◌∷◌, Option, Some, None, ◌⊎◌, inl, inr, refl, ap, sym, subst, ◌∙◌}
use Rattle.vms_model.specs.Ids.{Id}
use Rattle.vms_model.specs.Transactions.{Outcome, Commit as ToCommit, Abort as ToAbort}
use Rattle.commit_protocol.specs.Messages.{Name, LogRecord, same_name}
use Rattle.commit_protocol.specs.Table.{Key, same_key, home_of, record_key}
use Rattle.commit_protocol.specs.World.{In}
use Rattle.commit_protocol.specs.Agreement.{Once}
use Rattle.commit_protocol.proofs.Lists.{same_name-true, told_key, same_name-eq, in_left, in_right, in_parts}
use Rattle.commit_protocol.proofs.Acting.{some_same}
use Rattle.commit_protocol.specs.Opening.{Image, Opening, image_in, no_image, or_none, image_at, PreparedIn, WaitedFor, Shows, IsAgreeing, gather, record_keys, waiting_keys, waited_keys, shown_accepted, accepted_in, own_last, has_prepared, counted, shown_settled, without_key, settled_once, settled_in, last_commit, record_tids, shown_commits, commits_in}

-- a last settlement of a branch of this very node
abbrev pub OwnLast : Opening → Key → Outcome → Type 0
OwnLast o k out = (image_at o (home_of k)).last ≡ Some (k, out)

-- what the lists that are gathered from the images hold
pub record IsShown (o : Opening) : Type 0 where
  pub accepted_is : (k : Key) → In k (accepted_in o) → PreparedIn o k ⊎ WaitedFor o k
  pub accepted_has : (k : Key) → PreparedIn o k ⊎ WaitedFor o k → In k (accepted_in o)
  pub settled_is : (k : Key) (out : Outcome) → In (k, out) (settled_in o) → OwnLast o k out ⊎ ((out ≡ ToCommit) × WaitedFor o k × (PreparedIn o k → ⊥))
  pub settled_has : (k : Key) → WaitedFor o k → (PreparedIn o k → ⊥) → In (k, ToCommit) (settled_in o)
  pub settled_own : (k : Key) (out : Outcome) → OwnLast o k out → In (k, out) (settled_in o)
  pub once : Once (settled_in o)
  pub shown_is : (t : Id) → In t (commits_in o) → Shows o t
  pub shown_has : (t : Id) → Shows o t → In t (commits_in o)

-- what is gathered stands in an image, and the other way round
in_gather : {A : Type 0} (part : Name → Image → List A) (o : Opening) (ps : List (Name × Image)) (x : A) → In x (gather part o ps) → (n : Name) × In x (part n (image_at o n))
in_gather part o [] x h = absurd h
in_gather part o (p ∷ ps) x h = elim (in_parts x (part p.0 (image_at o p.0)) (gather part o ps) h) [
  | inl q ↦ (p.0, q)
  | inr q ↦ in_gather part o ps x q
]

gather_in : {A : Type 0} (part : Name → Image → List A) (o : Opening) (ps : List (Name × Image)) (n : Name) (i : Image) (x : A) → image_in n ps ≡ Some i → In x (part n (image_at o n)) → In x (gather part o ps)
gather_in part o [] n i x e h = absurd cc
gather_in part o (p ∷ ps) n i x e h =
    elim (cases_Bool (same_name p.0 n)) [
      | inl q ↦ let P : Name → Type 0 = λ m. In x (part m (image_at o m)) in in_left x (part p.0 (image_at o p.0)) (gather part o ps) (subst P (sym (same_name-true p.0 n q)) h)
      | inr q ↦ let e' : image_in n ps ≡ Some i = rw q at e in in_right x (part p.0 (image_at o p.0)) (gather part o ps) (gather_in part o ps n i x e' h)
    ]

gathered : {A : Type 0} (part : Name → Image → List A) (o : Opening) → ((n : Name) (x : A) → In x (part n no_image) → ⊥) → (n : Name) (x : A) → In x (part n (image_at o n)) → In x (gather part o o.images)
gathered part o none n x h = go (image_in n o.images) refl
  where
    go : (i : Option Image) → image_in n o.images ≡ i → In x (gather part o o.images)
    go None e = absurd (none n x (let P : Option Image → Type 0 = λ j. In x (part n (or_none j)) in subst P e h))
    go (Some i) e = gather_in part o o.images n i x e h

in_keys : (rs : List LogRecord) (k : Key) → In k (record_keys rs) → (r : LogRecord) × In r rs × (record_key r ≡ k)
in_keys [] k h = absurd h
in_keys (r ∷ rs) k (inl e) = (r, inl refl, sym e)
in_keys (r ∷ rs) k (inr h) = let q = in_keys rs k h in (q.0, inr q.1, q.2)

keys_in : (rs : List LogRecord) (k : Key) (r : LogRecord) → In r rs → record_key r ≡ k → In k (record_keys rs)
keys_in [] k r h e = h
keys_in (q ∷ rs) k r (inl z) e = inl (sym e ∙ ap record_key z)
keys_in (q ∷ rs) k r (inr z) e = inr (keys_in rs k r z e)

in_waiting : (t : Id) (ss : List Id) (k : Key) → In k (waiting_keys t ss) → (t ≡ k.tid) × In k.serial ss
in_waiting t [] k h = absurd h
in_waiting t (s ∷ ss) k (inl e) = (ap (λ (x : Key). x.tid) (sym e), inl (ap (λ (x : Key). x.serial) e))
in_waiting t (s ∷ ss) k (inr h) = let q = in_waiting t ss k h in (q.0, inr q.1)

waiting_in : (t : Id) (ss : List Id) (k : Key) → t ≡ k.tid → In k.serial ss → In k (waiting_keys t ss)
waiting_in t [] k e h = h
waiting_in t (s ∷ ss) k e (inl z) = inl (λ j. record { tid = (sym e) j; serial = z j })
waiting_in t (s ∷ ss) k e (inr z) = inr (waiting_in t ss k e z)

in_waited : (rs : List LogRecord) (k : Key) → In k (waited_keys rs) → (r : LogRecord) × In r rs × (r.tid ≡ k.tid) × In k.serial r.waiting
in_waited [] k h = absurd h
in_waited (r ∷ rs) k h = elim (in_parts k (waiting_keys r.tid r.waiting) (waited_keys rs) h) [
  | inl q ↦ let z = in_waiting r.tid r.waiting k q in (r, inl refl, z.0, z.1)
  | inr q ↦ let z = in_waited rs k q in (z.0, inr z.1, z.2, z.3)
]

waited_in : (rs : List LogRecord) (k : Key) (r : LogRecord) → In r rs → r.tid ≡ k.tid → In k.serial r.waiting → In k (waited_keys rs)
waited_in [] k r i e h = i
waited_in (q ∷ rs) k r (inl z) e h =
    let P : LogRecord → Type 0 = λ x. In k (waiting_keys x.tid x.waiting) in
    in_left k (waiting_keys q.tid q.waiting) (waited_keys rs) (subst P z (waiting_in r.tid r.waiting k e h))
waited_in (q ∷ rs) k r (inr z) e h = in_right k (waiting_keys q.tid q.waiting) (waited_keys rs) (waited_in rs k r z e h)

-- accepted
accepted_is : (o : Opening) → IsAgreeing o → (k : Key) → In k (accepted_in o) → PreparedIn o k ⊎ WaitedFor o k
accepted_is o a k h =
    let g = in_gather shown_accepted o o.images k h in
    let i : Image = image_at o g.0 in
    elim (in_parts k (record_keys i.prepared) (waited_keys i.committed) g.1) [
      | inl q ↦
          let r = in_keys i.prepared k q in
          let home : g.0 ≡ home_of k = sym (a.own_prepared g.0 r.0 r.1) ∙ ap home_of r.2 in
          let P : Name → Type 0 = λ n. In r.0 (image_at o n).prepared in
          inl (r.0, subst P home r.1, r.2)
      | inr q ↦ let r = in_waited i.committed k q in inr (g.0, (r.0, r.1, r.2, r.3))
    ]

accepted_has : (o : Opening) (k : Key) → PreparedIn o k ⊎ WaitedFor o k → In k (accepted_in o)
accepted_has o k (inl p) =
    let i : Image = image_at o (home_of k) in
    gathered shown_accepted o (λ n x h. h) (home_of k) k (in_left k (record_keys i.prepared) (waited_keys i.committed) (keys_in i.prepared k p.0 p.1 p.2))
accepted_has o k (inr w) =
    let i : Image = image_at o w.0 in
    let q = w.1 in
    gathered shown_accepted o (λ n x h. h) w.0 k (in_right k (record_keys i.prepared) (waited_keys i.committed) (waited_in i.committed k q.0 q.1 q.2 q.3))

-- settled
prepared_or : (k : Key) (rs : List LogRecord) → has_prepared k rs ≡ false → (r : LogRecord) → In r rs → record_key r ≡ k → ⊥
prepared_or k [] h r i e = i
prepared_or k (q ∷ rs) h r i e =
    elim (told_key (record_key q) k) [
      | inl z ↦ let b : true ≡ false = (rw (z.0) at h) in cc
      | inr z ↦ let h' : has_prepared k rs ≡ false = rw (z.0) at h in elim i [
        | inl y ↦ z.1 (ap record_key (sym y) ∙ e)
        | inr y ↦ prepared_or k rs h' r y e
      ]
    ]

has_prepared_in : (k : Key) (rs : List LogRecord) → has_prepared k rs ≡ true → (r : LogRecord) × In r rs × (record_key r ≡ k)
has_prepared_in k [] h = absurd cc
has_prepared_in k (q ∷ rs) h =
    elim (told_key (record_key q) k) [
      | inl z ↦ (q, inl refl, z.1)
      | inr z ↦ let h' : has_prepared k rs ≡ true = rw (z.0) at h in let r = has_prepared_in k rs h' in (r.0, inr r.1, r.2)
    ]

in_counted : (o : Opening) (ks : List Key) (k : Key) (out : Outcome) → In (k, out) (counted o ks) → (out ≡ ToCommit) × In k ks × (PreparedIn o k → ⊥)
in_counted o [] k out h = absurd h
in_counted o (j ∷ ks) k out h =
    elim (cases_Bool (has_prepared j (image_at o (home_of j)).prepared)) [
      | inl e ↦ let h' : In (k, out) (counted o ks) = rw e at h in let q = in_counted o ks k out h' in (q.0, inr q.1, q.2)
      | inr e ↦ let h' : In (k, out) ((j, ToCommit) ∷ counted o ks) = rw e at h in elim h' [
        | inl z ↦
            let key : k ≡ j = ap (λ (p : Key × Outcome). p.0) z in
            let P : Key → Type 0 = λ x. PreparedIn o x → ⊥ in
            (ap (λ (p : Key × Outcome). p.1) z, inl key, subst P (sym key) (λ p. prepared_or j (image_at o (home_of j)).prepared e p.0 p.1 p.2))
        | inr z ↦ let q = in_counted o ks k out z in (q.0, inr q.1, q.2)
      ]
    ]

counted_in : (o : Opening) (ks : List Key) (k : Key) → In k ks → (PreparedIn o k → ⊥) → In (k, ToCommit) (counted o ks)
counted_in o [] k h n = h
counted_in o (j ∷ ks) k h n =
    elim (cases_Bool (has_prepared j (image_at o (home_of j)).prepared)) [
      | inl e ↦ rw e (elim h [
        | inl z ↦ absurd (n (let P : Key → Type 0 = λ x. PreparedIn o x in subst P (sym z) (has_prepared_in j (image_at o (home_of j)).prepared e)))
        | inr z ↦ counted_in o ks k z n
      ])
      | inr e ↦ rw e (elim h [
        | inl z ↦ inl (ap (λ (x : Key). (x, ToCommit)) z)
        | inr z ↦ inr (counted_in o ks k z n)
      ])
    ]

in_own_last : (n : Name) (l : Option (Key × Outcome)) (p : Key × Outcome) → In p (own_last n l) → (l ≡ Some p) × (home_of p.0 ≡ n)
in_own_last n None p h = absurd h
in_own_last n (Some q) p h =
    elim (cases_Bool (same_name (home_of q.0) n)) [
      | inl e ↦ let h' : In p (q ∷ []) = rw e at h in elim h' [
        | inl z ↦ (ap (λ (x : Key × Outcome). Some x) (sym z), ap (λ (x : Key × Outcome). home_of x.0) z ∙ same_name-true (home_of q.0) n e)
        | inr z ↦ absurd z
      ]
      | inr e ↦ absurd (let h' : ⊥ = rw e at h in h')
    ]

own_last_in : (n : Name) (l : Option (Key × Outcome)) (p : Key × Outcome) → l ≡ Some p → home_of p.0 ≡ n → In p (own_last n l)
own_last_in n None p e h = absurd (let z : None ≡ Some p = e in cc)
own_last_in n (Some q) p e h =
    let same : q ≡ p = some_same e in
    rw (same_name-eq (home_of q.0) n (ap (λ (x : Key × Outcome). home_of x.0) same ∙ h)) (inl (sym same))

abbrev all_settled : Opening → List (Key × Outcome)
all_settled o = gather (shown_settled o) o o.images

all_settled_is : (o : Opening) (k : Key) (out : Outcome) → In (k, out) (all_settled o) → OwnLast o k out ⊎ ((out ≡ ToCommit) × WaitedFor o k × (PreparedIn o k → ⊥))
all_settled_is o k out h =
    let g = in_gather (shown_settled o) o o.images (k, out) h in
    let i : Image = image_at o g.0 in
    elim (in_parts (k, out) (own_last g.0 i.last) (counted o (waited_keys i.committed)) g.1) [
      | inl q ↦ let l = in_own_last g.0 i.last (k, out) q in let P : Name → Type 0 = λ n. (image_at o n).last ≡ Some (k, out) in inl (subst P (sym l.1) l.0)
      | inr q ↦ let c = in_counted o (waited_keys i.committed) k out q in let r = in_waited i.committed k c.1 in inr (c.0, (g.0, (r.0, r.1, r.2, r.3)), c.2)
    ]

all_settled_own : (o : Opening) (k : Key) (out : Outcome) → OwnLast o k out → In (k, out) (all_settled o)
all_settled_own o k out l =
    let i : Image = image_at o (home_of k) in
    gathered (shown_settled o) o (λ n x h. h) (home_of k) (k, out) (in_left (k, out) (own_last (home_of k) i.last) (counted o (waited_keys i.committed)) (own_last_in (home_of k) i.last (k, out) l refl))

all_settled_waited : (o : Opening) (k : Key) → WaitedFor o k → (PreparedIn o k → ⊥) → In (k, ToCommit) (all_settled o)
all_settled_waited o k w none =
    let i : Image = image_at o w.0 in
    let q = w.1 in
    gathered (shown_settled o) o (λ n x h. h) w.0 (k, ToCommit) (in_right (k, ToCommit) (own_last w.0 i.last) (counted o (waited_keys i.committed)) (counted_in o (waited_keys i.committed) k (waited_in i.committed k q.0 q.1 q.2 q.3) none))

in_without_key : (k : Key) (ps : List (Key × Outcome)) (p : Key × Outcome) → In p (without_key k ps) → (p.0 ≢ k) × In p ps
in_without_key k [] p h = absurd h
in_without_key k (q ∷ ps) p h =
    elim (told_key q.0 k) [
      | inl e ↦ let h' : In p (without_key k ps) = rw (e.0) at h in let z = in_without_key k ps p h' in (z.0, inr z.1)
      | inr e ↦ let h' : In p (q ∷ without_key k ps) = rw (e.0) at h in elim h' [
        | inl z ↦ ((λ y. e.1 (ap (λ (x : Key × Outcome). x.0) (sym z) ∙ y)), inl z)
        | inr z ↦ let y = in_without_key k ps p z in (y.0, inr y.1)
      ]
    ]

without_key_in : (k : Key) (ps : List (Key × Outcome)) (p : Key × Outcome) → p.0 ≢ k → In p ps → In p (without_key k ps)
without_key_in k [] p ne h = h
without_key_in k (q ∷ ps) p ne h =
    elim (told_key q.0 k) [
      | inl e ↦ rw (e.0) (elim h [ inl z ↦ absurd (ne (ap (λ (x : Key × Outcome). x.0) z ∙ e.1)) | inr z ↦ without_key_in k ps p ne z ])
      | inr e ↦ rw (e.0) (elim h [ inl z ↦ inl z | inr z ↦ inr (without_key_in k ps p ne z) ])
    ]

in_settled_once : (ps : List (Key × Outcome)) (p : Key × Outcome) → In p (settled_once ps) → In p ps
in_settled_once [] p h = h
in_settled_once (q ∷ ps) p (inl e) = inl e
in_settled_once (q ∷ ps) p (inr e) = inr (in_settled_once ps p (in_without_key q.0 (settled_once ps) p e).1)

once_without : (k : Key) (ps : List (Key × Outcome)) → Once ps → Once (without_key k ps)
once_without k [] h = tt
once_without k (q ∷ ps) h =
    elim (cases_Bool (same_key q.0 k)) [
      | inl e ↦ rw e (once_without k ps h.1)
      | inr e ↦ rw e ((λ out i. h.0 out (in_without_key k ps (q.0, out) i).1), once_without k ps h.1)
    ]

once_settled : (ps : List (Key × Outcome)) → Once (settled_once ps)
once_settled [] = tt
once_settled (p ∷ ps) = ((λ out i. (in_without_key p.0 (settled_once ps) (p.0, out) i).0 refl), once_without p.0 (settled_once ps) (once_settled ps))

-- each branch that was settled stays, with an outcome that it had
some_once : (ps : List (Key × Outcome)) (k : Key) (out : Outcome) → In (k, out) ps → (kept : Outcome) × In (k, kept) (settled_once ps)
some_once [] k out h = absurd h
some_once (p ∷ ps) k out (inl e) = (p.1, inl (let P : Key → Type 0 = λ x. (x, p.1) ≡ p in subst P (ap (λ (x : Key × Outcome). x.0) (sym e)) refl))
some_once (p ∷ ps) k out (inr h) =
    let q = some_once ps k out h in
    elim (told_key p.0 k) [
      | inl e ↦ (p.1, inl (let P : Key → Type 0 = λ x. (x, p.1) ≡ p in subst P e.1 refl))
      | inr e ↦ (q.0, inr (without_key_in p.0 (settled_once ps) (k, q.0) (λ z. e.1 (sym z)) q.1))
    ]

-- a branch that is waited for was not aborted
waited_commit : (o : Opening) → IsAgreeing o → (k : Key) (out : Outcome) → WaitedFor o k → OwnLast o k out → out ≡ ToCommit
waited_commit o a k ToCommit w l = refl
waited_commit o a k ToAbort w l = absurd (a.waited_last k w (home_of k, l))

settled_has : (o : Opening) → IsAgreeing o → (k : Key) → WaitedFor o k → (PreparedIn o k → ⊥) → In (k, ToCommit) (settled_in o)
settled_has o a k w none =
    let q = some_once (all_settled o) k ToCommit (all_settled_waited o k w none) in
    let commit : q.0 ≡ ToCommit = elim (all_settled_is o k q.0 (in_settled_once (all_settled o) (k, q.0) q.1)) [
      | inl l ↦ waited_commit o a k q.0 w l
      | inr r ↦ r.0
    ] in
    let P : Outcome → Type 0 = λ x. In (k, x) (settled_in o) in subst P commit q.1

settled_own : (o : Opening) → IsAgreeing o → (k : Key) (out : Outcome) → OwnLast o k out → In (k, out) (settled_in o)
settled_own o a k out l =
    let q = some_once (all_settled o) k out (all_settled_own o k out l) in
    let same : q.0 ≡ out = elim (all_settled_is o k q.0 (in_settled_once (all_settled o) (k, q.0) q.1)) [
      | inl m ↦ ap (λ (x : Key × Outcome). x.1) (some_same (sym m ∙ l))
      | inr r ↦ r.0 ∙ sym (waited_commit o a k out r.1 l)
    ] in
    let P : Outcome → Type 0 = λ x. In (k, x) (settled_in o) in subst P same q.1

-- shown
in_last_commit : (l : Option (Key × Outcome)) (t : Id) → In t (last_commit l) → (k : Key) × (l ≡ Some (k, ToCommit)) × (k.tid ≡ t)
in_last_commit None t h = absurd h
in_last_commit (Some (k, ToCommit)) t h = elim h [ inl e ↦ (k, refl, sym e) | inr e ↦ absurd e ]
in_last_commit (Some (k, ToAbort)) t h = absurd h

last_commit_in : (l : Option (Key × Outcome)) (t : Id) (k : Key) → l ≡ Some (k, ToCommit) → k.tid ≡ t → In t (last_commit l)
last_commit_in l t k e h = let P : Option (Key × Outcome) → Type 0 = λ x. In t (last_commit x) in subst P (sym e) (inl (sym h))

in_tids : (rs : List LogRecord) (t : Id) → In t (record_tids rs) → (r : LogRecord) × In r rs × (r.tid ≡ t)
in_tids [] t h = absurd h
in_tids (r ∷ rs) t (inl e) = (r, inl refl, sym e)
in_tids (r ∷ rs) t (inr h) = let q = in_tids rs t h in (q.0, inr q.1, q.2)

tids_in : (rs : List LogRecord) (t : Id) (r : LogRecord) → In r rs → r.tid ≡ t → In t (record_tids rs)
tids_in [] t r h e = h
tids_in (q ∷ rs) t r (inl z) e = inl (sym e ∙ ap (λ (x : LogRecord). x.tid) z)
tids_in (q ∷ rs) t r (inr z) e = inr (tids_in rs t r z e)

shown_is : (o : Opening) (t : Id) → In t (commits_in o) → Shows o t
shown_is o t h =
    let g = in_gather shown_commits o o.images t h in
    let i : Image = image_at o g.0 in
    elim (in_parts t (last_commit i.last) (record_tids i.committed) g.1) [
      | inl q ↦ let l = in_last_commit i.last t q in inl (l.0, (g.0, l.1), l.2)
      | inr q ↦ inr (g.0, in_tids i.committed t q)
    ]

shown_has : (o : Opening) (t : Id) → Shows o t → In t (commits_in o)
shown_has o t (inl l) =
    let n = l.1.0 in
    let i : Image = image_at o n in
    gathered shown_commits o (λ n x h. h) n t (in_left t (last_commit i.last) (record_tids i.committed) (last_commit_in i.last t l.0 l.1.1 l.2))
shown_has o t (inr r) =
    let i : Image = image_at o r.0 in
    let q = r.1 in
    gathered shown_commits o (λ n x h. h) r.0 t (in_right t (last_commit i.last) (record_tids i.committed) (tids_in i.committed t q.0 q.1 q.2))

pub is_shown : (o : Opening) → IsAgreeing o → IsShown o
is_shown o a = record {
  accepted_is = accepted_is o a;
  accepted_has = accepted_has o;
  settled_is = λ k out h. all_settled_is o k out (in_settled_once (all_settled o) (k, out) h);
  settled_has = settled_has o a;
  settled_own = settled_own o a;
  once = once_settled (all_settled o);
  shown_is = shown_is o;
  shown_has = shown_has o;
}
