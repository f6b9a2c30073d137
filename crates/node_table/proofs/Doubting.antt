-- The prepared branches of a table, act by act.
use Rattle.std.proofs.Common.{◌≡◌, ◌≤◌, suc, Bool, true, false, List, [], ◌∷◌, ◌++◌, Option, Some, None, ◌⊎◌, inl, inr, refl, ap, sym, subst, ◌∙◌, length}
use Rattle.std.specs.Prelude.{if◌then◌else◌, is_some}
use Rattle.vms_model.specs.Ids.{Id}
use Rattle.net_wire.specs.commit_protocol.Messages.{same_id}
use Rattle.net_wire.specs.commit_protocol.Agreement.{Distinct}
use Rattle.net_wire.specs.commit_protocol.Allowed.{is_prepared}
use Rattle.net_wire.specs.commit_protocol.Table.{Branch, Key, Prepared, branch_serials, cut, find, put, without}
use Rattle.net_wire.specs.commit_protocol.World.{In}
use Rattle.emitter_model.proofs.commit_protocol.Lists.{find-cut, find-cut_other, find-put, find-put_other, in_parts, told_id, told_key}
use Rattle.emitter_model.proofs.commit_protocol.Serials.{distinct_more, there_serial}
use Rattle.emitter_model.proofs.commit_protocol.Within.{find_in}
use Rattle.row_laws.proofs.log_laws.RowSlots.{among}
use Rattle.node_table.specs.Standing.{AreInDoubt, unsettled_serials}

-- A branch is found by its key; and no two keys have one serial.

pub stands : (bs : List Branch) (x : Branch) → Distinct (branch_serials bs) → In x bs → find x.key bs ≡ Some x
stands [] x d h = absurd h
stands (b ∷ bs) x d h = elim h [
  | inl e ↦ (let P : Branch → Type 0 = λ y. find y.key (b ∷ bs) ≡ Some y in subst P (sym e) (elim (told_key b.key b.key) [ inl q ↦ rw (q.0) refl | inr q ↦ absurd (q.1 refl) ]))
  | inr i ↦
      let found : find x.key bs ≡ Some x = stands bs x d.1 i in
      elim (told_key b.key x.key) [
        | inl q ↦ absurd (d.0 (let P : Id → Type 0 = λ z. In z (branch_serials bs) in subst P (ap (λ (k : Key). k.serial) (sym q.1)) (there_serial x.key bs (x, found))))
        | inr q ↦ rw (q.0) found
      ]
]

pub one_key : (bs : List Branch) (j k : Key) (x y : Branch) → Distinct (branch_serials bs) → find j bs ≡ Some x → find k bs ≡ Some y → j.serial ≡ k.serial → j ≡ k
one_key [] j k x y d e f s = absurd (let g : None ≡ Some x = e in cc)
one_key (b ∷ bs) j k x y d e f s = elim (told_key b.key j) [
  | inl q ↦ elim (told_key b.key k) [
    | inl r ↦ sym q.1 ∙ r.1
    | inr r ↦
        let f' : find k bs ≡ Some y = rw (r.0) at f in
        absurd (d.0 (let P : Id → Type 0 = λ z. In z (branch_serials bs) in subst P (sym s ∙ ap (λ (i : Key). i.serial) (sym q.1)) (there_serial k bs (y, f'))))
  ]
  | inr q ↦
      let e' : find j bs ≡ Some x = rw (q.0) at e in
      elim (told_key b.key k) [
        | inl r ↦ absurd (d.0 (let P : Id → Type 0 = λ z. In z (branch_serials bs) in subst P (s ∙ ap (λ (i : Key). i.serial) (sym r.1)) (there_serial j bs (x, e'))))
        | inr r ↦ (let f' : find k bs ≡ Some y = rw (r.0) at f in one_key bs j k x y d.1 e' f' s)
      ]
]

-- What stands in a table behind what is put or cut.

pub in_put : (b o x : Branch) (bs : List Branch) → Distinct (branch_serials bs) → find b.key bs ≡ Some o → In x (put b bs) → (x ≡ b) ⊎ (In x bs × (x.key ≡ b.key → ⊥))
in_put b o x [] d e h = absurd (let f : None ≡ Some o = e in cc)
in_put b o x (c ∷ bs) d e h = elim (told_key c.key b.key) [
  | inl q ↦
      let h' : In x (b ∷ bs) = rw (q.0) at h in
      elim h' [
        | inl i ↦ inl i
        | inr i ↦ inr (inr i, λ k. let P : Id → Type 0 = λ z. In z (branch_serials bs) in d.0 (subst P (ap (λ (j : Key). j.serial) (k ∙ sym q.1)) (there_serial x.key bs (x, stands bs x d.1 i))))
      ]
  | inr q ↦
      let h' : In x (c ∷ put b bs) = rw (q.0) at h in
      let e' : find b.key bs ≡ Some o = rw (q.0) at e in
      elim h' [
        | inl i ↦ inr (inl i, λ k. q.1 (ap (λ (y : Branch). y.key) (sym i) ∙ k))
        | inr i ↦ elim (in_put b o x bs d.1 e' i) [
          | inl r ↦ inl r
          | inr r ↦ inr (inr r.0, r.1)
        ]
      ]
]

pub in_put_new : (b x : Branch) (bs : List Branch) → find b.key bs ≡ None → In x (put b bs) → (x ≡ b) ⊎ In x bs
in_put_new b x [] e h = elim h [
  | inl i ↦ inl i
  | inr i ↦ absurd i
]
in_put_new b x (c ∷ bs) e h = elim (told_key c.key b.key) [
  | inl q ↦ absurd (let e' : Some c ≡ None = rw (q.0) at e in cc)
  | inr q ↦
      let h' : In x (c ∷ put b bs) = rw (q.0) at h in
      let e' : find b.key bs ≡ None = rw (q.0) at e in
      elim h' [
        | inl i ↦ inr (inl i)
        | inr i ↦ elim (in_put_new b x bs e' i) [
          | inl r ↦ inl r
          | inr r ↦ inr (inr r)
        ]
      ]
]

pub still_put : (b x : Branch) (bs : List Branch) → In x bs → (x.key ≡ b.key → ⊥) → In x (put b bs)
still_put b x [] h n = absurd h
still_put b x (c ∷ bs) h n = elim (told_key c.key b.key) [
  | inl q ↦ rw (q.0) (elim h [ inl i ↦ absurd (n (ap (λ (y : Branch). y.key) i ∙ q.1)) | inr i ↦ inr i ])
  | inr q ↦ rw (q.0) (elim h [ inl i ↦ inl i | inr i ↦ inr (still_put b x bs i n) ])
]

pub in_cut : (k : Key) (x : Branch) (bs : List Branch) → In x (cut k bs) → In x bs
in_cut k x [] h = absurd h
in_cut k x (c ∷ bs) h = elim (told_key c.key k) [
  | inl q ↦ (let h' : In x (cut k bs) = rw (q.0) at h in inr (in_cut k x bs h'))
  | inr q ↦
      let h' : In x (c ∷ cut k bs) = rw (q.0) at h in
      elim h' [
        | inl i ↦ inl i
        | inr i ↦ inr (in_cut k x bs i)
      ]
]

pub still_cut : (k : Key) (x : Branch) (bs : List Branch) → In x bs → (x.key ≡ k → ⊥) → In x (cut k bs)
still_cut k x [] h n = absurd h
still_cut k x (c ∷ bs) h n = elim (told_key c.key k) [
  | inl q ↦ rw (q.0) (elim h [ inl i ↦ absurd (n (ap (λ (y : Branch). y.key) i ∙ q.1)) | inr i ↦ still_cut k x bs i n ])
  | inr q ↦ rw (q.0) (elim h [ inl i ↦ inl i | inr i ↦ inr (still_cut k x bs i n) ])
]

-- Those in doubt.

-- a prepared branch is not one that is found unprepared
apart_from : (k : Key) (x o : Branch) (bs : List Branch) → Distinct (branch_serials bs) → In x bs → is_prepared x.state ≡ true → find k bs ≡ Some o → is_prepared o.state ≡ false → x.key ≡ k → ⊥
apart_from k x o bs d i p e un q =
    let f : Some x ≡ Some o = sym (stands bs x d i) ∙ ap (λ j. find j bs) q ∙ e in
    let same : x ≡ o = cc in
    let g : true ≡ false = sym p ∙ ap (λ (y : Branch). is_prepared y.state) same ∙ un in
    cc

pub doubt_put : (b o : Branch) (bs : List Branch) (serials : List Id) → Distinct (branch_serials bs) → find b.key bs ≡ Some o → is_prepared o.state ≡ false → AreInDoubt serials bs → AreInDoubt serials (put b bs)
doubt_put b o bs serials d e un h = record {
  apart = h.apart;
  prepared = λ s i. let w = h.prepared s i in (w.0, still_put b w.0 bs w.1 (apart_from b.key w.0 o bs d w.1 w.3 e un), w.2, w.3);
}

pub doubt_new : (b : Branch) (bs : List Branch) (serials : List Id) → find b.key bs ≡ None → Distinct (branch_serials bs) → AreInDoubt serials bs → AreInDoubt serials (put b bs)
doubt_new b bs serials e d h = record {
  apart = h.apart;
  prepared = λ s i. let w = h.prepared s i in (w.0, still_put b w.0 bs w.1 (λ q. let f : Some w.0 ≡ None = sym (stands bs w.0 d w.1) ∙ ap (λ j. find j bs) q ∙ e in cc), w.2, w.3);
}

-- the serial of an unprepared branch is none of them
pub not_in_doubt : (k : Key) (o : Branch) (bs : List Branch) (serials : List Id) → Distinct (branch_serials bs) → find k bs ≡ Some o → is_prepared o.state ≡ false → AreInDoubt serials bs → In k.serial serials → ⊥
not_in_doubt k o bs serials d e un h i =
    let w = h.prepared k.serial i in
    apart_from k w.0 o bs d w.1 w.3 e un (one_key bs w.0.key k w.0 o d (stands bs w.0 d w.1) e w.2)

pub doubt_left : (k : Key) (o : Branch) (bs : List Branch) (serials : List Id) → Distinct (branch_serials bs) → find k bs ≡ Some o → is_prepared o.state ≡ false → AreInDoubt serials bs → AreInDoubt serials (cut k bs)
doubt_left k o bs serials d e un h = record {
  apart = h.apart;
  prepared = λ s i. let w = h.prepared s i in (w.0, still_cut k w.0 bs w.1 (apart_from k w.0 o bs d w.1 w.3 e un), w.2, w.3);
}

pub doubt_prepared : (b o : Branch) (bs : List Branch) (serials : List Id) → Distinct (branch_serials bs) → find b.key bs ≡ Some o → is_prepared o.state ≡ false → AreInDoubt serials bs → AreInDoubt (serials ++ b.key.serial ∷ []) (put (record b { state = Prepared }) bs)
doubt_prepared b o bs serials d e un h = record {
  apart = distinct_more serials b.key.serial h.apart (not_in_doubt b.key o bs serials d e un h);
  prepared = λ s i. elim (in_parts s serials (b.key.serial ∷ []) i) [
    | inl j ↦ (let w = h.prepared s j in (w.0, still_put (record b { state = Prepared }) w.0 bs w.1 (apart_from b.key w.0 o bs d w.1 w.3 e un), w.2, w.3))
    | inr j ↦ elim j [
      | inl q ↦ (record b { state = Prepared }, find_in b.key (put (record b { state = Prepared }) bs) (record b { state = Prepared }) (find-put (record b { state = Prepared }) bs), sym q, refl)
      | inr q ↦ absurd q
    ]
  ];
}

in_without : (s x : Id) (xs : List Id) → In x (without s xs) → In x xs × (x ≡ s → ⊥)
in_without s x [] h = absurd h
in_without s x (y ∷ ys) h = elim (told_id y s) [
  | inl q ↦ (let h' : In x (without s ys) = rw (q.0) at h in (let r = in_without s x ys h' in (inr r.0, r.1)))
  | inr q ↦
      let h' : In x (y ∷ without s ys) = rw (q.0) at h in
      elim h' [
        | inl i ↦ (inl i, λ e. q.1 (sym i ∙ e))
        | inr i ↦ (let r = in_without s x ys i in (inr r.0, r.1))
      ]
]

distinct_without : (s : Id) (xs : List Id) → Distinct xs → Distinct (without s xs)
distinct_without s [] d = tt
distinct_without s (y ∷ ys) d = elim (told_id y s) [
  | inl q ↦ rw (q.0) (distinct_without s ys d.1)
  | inr q ↦ rw (q.0) ((λ i. d.0 (in_without s y ys i).0), distinct_without s ys d.1)
]

pub doubt_settled : (k : Key) (o : Branch) (bs : List Branch) (serials : List Id) → Distinct (branch_serials bs) → find k bs ≡ Some o → AreInDoubt serials bs → AreInDoubt (without k.serial serials) (cut k bs)
doubt_settled k o bs serials d e h = record {
  apart = distinct_without k.serial serials h.apart;
  prepared = λ s i.
      let r = in_without k.serial s serials i in
      let w = h.prepared s r.0 in
      (w.0, still_cut k w.0 bs w.1 (λ q. r.1 (sym w.2 ∙ ap (λ (j : Key). j.serial) q)), w.2, w.3);
}

-- there is room for one more that is prepared
pub doubt_room : (b o : Branch) (bs : List Branch) (serials : List Id) → Distinct (branch_serials bs) → find b.key bs ≡ Some o → is_prepared o.state ≡ false → AreInDoubt serials bs → suc (length serials) ≤ length (branch_serials bs)
doubt_room b o bs serials d e un h =
    among (b.key.serial ∷ serials) (branch_serials bs) (not_in_doubt b.key o bs serials d e un h, h.apart) (λ i j. elim j [
      | inl q ↦ subst (λ z. In z (branch_serials bs)) (sym q) (there_serial b.key bs (o, e))
      | inr q ↦ (let w = h.prepared i q in subst (λ z. In z (branch_serials bs)) w.2 (there_serial w.0.key bs (w.0, stands bs w.0 d w.1)))
    ])

-- Those that stand among the branches that were prepared.

standing_same : (ks : List Key) (bs cs : List Branch) → ((k : Key) → In k ks → is_some (find k bs) ≡ is_some (find k cs)) → unsettled_serials ks bs ≡ unsettled_serials ks cs
standing_same [] bs cs h = refl
standing_same (k ∷ ks) bs cs h = let more = standing_same ks bs cs (λ j i. h j (inr i)) in let same = h k (inl refl) in λ i. if same i then k.serial ∷ more i else more i

pub standing_put : (ks : List Key) (b o : Branch) (bs : List Branch) → find b.key bs ≡ Some o → unsettled_serials ks (put b bs) ≡ unsettled_serials ks bs
standing_put ks b o bs e = standing_same ks (put b bs) bs (λ k i. elim (told_key b.key k) [
  | inl q ↦ subst (λ j. is_some (find j (put b bs)) ≡ is_some (find j bs)) q.1 (ap is_some (find-put b bs) ∙ sym (ap is_some e))
  | inr q ↦ ap is_some (find-put_other k b bs q.1)
])

pub standing_new : (ks : List Key) (b : Branch) (bs : List Branch) → (In b.key ks → ⊥) → unsettled_serials ks (put b bs) ≡ unsettled_serials ks bs
standing_new ks b bs n = standing_same ks (put b bs) bs (λ k i. ap is_some (find-put_other k b bs (λ q. n (subst (λ j. In j ks) (sym q) i))))

pub standing_left : (ks : List Key) (k : Key) (bs : List Branch) → (In k ks → ⊥) → unsettled_serials ks (cut k bs) ≡ unsettled_serials ks bs
standing_left ks k bs n = standing_same ks (cut k bs) bs (λ j i. ap is_some (find-cut_other k j bs (λ q. n (subst (λ z. In z ks) (sym q) i))))

pub standing_more : (ks : List Key) (k : Key) (b : Branch) (bs : List Branch) → find k bs ≡ Some b → unsettled_serials (ks ++ k ∷ []) bs ≡ unsettled_serials ks bs ++ k.serial ∷ []
standing_more [] k b bs e = let t : is_some (find k bs) ≡ true = ap is_some e in rw t refl
standing_more (j ∷ ks) k b bs e = go (is_some (find j bs)) (standing_more ks k b bs e)
  where
    go : (t : Bool) → unsettled_serials (ks ++ k ∷ []) bs ≡ unsettled_serials ks bs ++ k.serial ∷ [] → (if t then j.serial ∷ unsettled_serials (ks ++ k ∷ []) bs else unsettled_serials (ks ++ k ∷ []) bs) ≡ (if t then j.serial ∷ unsettled_serials ks bs else unsettled_serials ks bs) ++ k.serial ∷ []
    go false r = r
    go true r = ap (λ (z : List Id). j.serial ∷ z) r

pub standing_settled : (ks : List Key) (k : Key) (o : Branch) (bs : List Branch) → Distinct (branch_serials bs) → find k bs ≡ Some o → unsettled_serials ks (cut k bs) ≡ without k.serial (unsettled_serials ks bs)
standing_settled [] k o bs d e = refl
standing_settled (j ∷ ks) k o bs d e = elim (told_key k j) [
  | inl q ↦
      let f : is_some (find j (cut k bs)) ≡ false = subst (λ i. is_some (find i (cut k bs)) ≡ false) q.1 (ap is_some (find-cut k bs)) in
      let g : is_some (find j bs) ≡ true = subst (λ i. is_some (find i bs) ≡ true) q.1 (ap is_some e) in
      let t : same_id j.serial k.serial ≡ true = same j k (sym q.1) in
      rw (f, g, t) (standing_settled ks k o bs d e)
  | inr q ↦ go q.1 (standing_settled ks k o bs d e) (find j bs) refl
]
  where
    same : (a b : Key) → a ≡ b → same_id a.serial b.serial ≡ true
    same a b p = elim (told_id a.serial b.serial) [ inl t ↦ t.0 | inr t ↦ absurd (t.1 (ap (λ (i : Key). i.serial) p)) ]

    go : (k ≡ j → ⊥) → unsettled_serials ks (cut k bs) ≡ without k.serial (unsettled_serials ks bs) → (x : Option Branch) → find j bs ≡ x → unsettled_serials (j ∷ ks) (cut k bs) ≡ without k.serial (unsettled_serials (j ∷ ks) bs)
    go other more None f =
        let g : is_some (find j bs) ≡ false = ap is_some f in
        let h : is_some (find j (cut k bs)) ≡ false = ap is_some (find-cut_other k j bs other) ∙ g in
        rw (g, h) more
    go other more (Some c) f =
        let g : is_some (find j bs) ≡ true = ap is_some f in
        let h : is_some (find j (cut k bs)) ≡ true = ap is_some (find-cut_other k j bs other) ∙ g in
        elim (told_id j.serial k.serial) [
          | inl t ↦ absurd (other (one_key bs k j o c d e f (sym t.1)))
          | inr t ↦ rw (g, h, t.0) (ap (λ (z : List Id). j.serial ∷ z) more)
        ]
