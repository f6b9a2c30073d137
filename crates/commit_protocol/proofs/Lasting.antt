-- What is noted of branches leaves what lasts of a table.
use Rattle.std.specs.Prelude.{if◌then◌else◌}
use Rattle.std.proofs.Common.{◌≡◌, true, false, List, [], ◌∷◌, ◌++◌, Some, None, inl, inr, refl, ap, sym, subst, ◌∙◌}
use Rattle.commit_protocol.specs.Messages.{LogRecord}
use Rattle.commit_protocol.specs.Table.{Key, Branch, State, Joining, Active, Ending, Voting, Prepared, Act, Notes, Accepts, Prepares, Settles, Leaves, Acknowledges, Releases, Undoes, Sends, Prints, find, put, cut, table_after, prepared_state, prepared_records}
use Rattle.commit_protocol.specs.Allowed.{is_prepared}
use Rattle.commit_protocol.specs.World.{units_of, unit_of}
use Rattle.commit_protocol.specs.Standing.{Stands, LastsAlike, IsNew, writes}
use Rattle.commit_protocol.proofs.Lists.{told_key, Unique}

lasts_state : (b o : Branch) (s t : State) (ps : List LogRecord) (us : List Key) → is_prepared s ≡ false → is_prepared t ≡ false → b.key ≡ o.key → b.changed ≡ o.changed
    → (prepared_state b s ps ≡ prepared_state o t ps) × (unit_of b s us ≡ unit_of o t us)
lasts_state b o s t ps us un un' key ch = (plain b s un ∙ sym (plain o t un'), unit b s un ∙ ((λ i. if ch i then key i ∷ us else us) ∙ sym (unit o t un')))
  where
    plain : (x : Branch) (z : State) → is_prepared z ≡ false → prepared_state x z ps ≡ ps
    plain x Joining e = refl
    plain x Active e = refl
    plain x Ending e = refl
    plain x Voting e = refl
    plain x Prepared e = absurd (let f : true ≡ false = e in cc)

    unit : (x : Branch) (z : State) → is_prepared z ≡ false → unit_of x z us ≡ (if x.changed then x.key ∷ us else us)
    unit x Joining e = refl
    unit x Active e = refl
    unit x Ending e = refl
    unit x Voting e = refl
    unit x Prepared e = absurd (let f : true ≡ false = e in cc)

lasts_put : (bs : List Branch) (b o : Branch) → find b.key bs ≡ Some o → is_prepared o.state ≡ false → is_prepared b.state ≡ false → b.changed ≡ o.changed → LastsAlike bs (put b bs)
lasts_put [] b o e un st ch = absurd (let f : None ≡ Some o = e in cc)
lasts_put (x ∷ xs) b o e un st ch = elim (told_key x.key b.key) [
  | inl q ↦
      let e' : Some x ≡ Some o = rw (q.0) at e in
      let same : x ≡ o = cc in
      let P : Branch → Type 0 = λ y. (b.key ≡ y.key) × (is_prepared y.state ≡ false) × (b.changed ≡ y.changed) in
      let p = subst P (sym same) ((sym q.1 ∙ ap (λ (y : Branch). y.key) same), un, ch) in
      let l = lasts_state b x b.state x.state (prepared_records xs) (units_of xs) st p.1 p.0 p.2 in
      rw (q.0) (l.0, l.1)
  | inr q ↦
      let e' : find b.key xs ≡ Some o = rw (q.0) at e in
      let l = lasts_put xs b o e' un st ch in
      rw (q.0) (ap (prepared_state x x.state) l.0, ap (unit_of x x.state) l.1)
]

pub lasts_absent : (k : Key) (bs : List Branch) → find k bs ≡ None → cut k bs ≡ bs
lasts_absent k [] e = refl
lasts_absent k (x ∷ xs) e = elim (told_key x.key k) [
  | inl q ↦ absurd (let e' : Some x ≡ None = rw (q.0) at e in cc)
  | inr q ↦ let e' : find k xs ≡ None = rw (q.0) at e in rw (q.0) (ap (λ ys. x ∷ ys) (lasts_absent k xs e'))
]

lasts_cut : (bs : List Branch) (k : Key) (o : Branch) → Unique bs → find k bs ≡ Some o → is_prepared o.state ≡ false → o.changed ≡ false → LastsAlike bs (cut k bs)
lasts_cut [] k o u e un ch = absurd (let f : None ≡ Some o = e in cc)
lasts_cut (x ∷ xs) k o u e un ch = elim (told_key x.key k) [
  | inl q ↦
      let e' : Some x ≡ Some o = rw (q.0) at e in
      let same : x ≡ o = cc in
      let P : Branch → Type 0 = λ y. (is_prepared y.state ≡ false) × (y.changed ≡ false) in
      let p = subst P (sym same) (un, ch) in
      let none : find k xs ≡ None = (let Q : Key → Type 0 = λ j. find j xs ≡ None in subst Q q.1 u.0) in
      let gone : cut k xs ≡ xs = lasts_absent k xs none in
      rw (q.0) (ap prepared_records gone ∙ sym (plain x.state p.0), ap units_of gone ∙ sym (unit x.state p.0 p.1))
  | inr q ↦
      let e' : find k xs ≡ Some o = rw (q.0) at e in
      let l = lasts_cut xs k o u.1 e' un ch in
      rw (q.0) (ap (prepared_state x x.state) l.0, ap (unit_of x x.state) l.1)
]
  where
    plain : (z : State) → is_prepared z ≡ false → prepared_state x z (prepared_records xs) ≡ prepared_records xs
    plain Joining h = refl
    plain Active h = refl
    plain Ending h = refl
    plain Voting h = refl
    plain Prepared h = absurd (let f : true ≡ false = h in cc)

    unit : (z : State) → is_prepared z ≡ false → x.changed ≡ false → unit_of x z (units_of xs) ≡ units_of xs
    unit Joining h c = ap (λ t. if t then x.key ∷ units_of xs else units_of xs) c
    unit Active h c = ap (λ t. if t then x.key ∷ units_of xs else units_of xs) c
    unit Ending h c = ap (λ t. if t then x.key ∷ units_of xs else units_of xs) c
    unit Voting h c = ap (λ t. if t then x.key ∷ units_of xs else units_of xs) c
    unit Prepared h c = absurd (let f : true ≡ false = h in cc)

-- an act that writes nothing leaves what lasts
pub stands_lasts : (bs : List Branch) (a : Act) → Unique bs → writes a ≡ false → Stands bs a → LastsAlike bs (table_after a bs)
stands_lasts bs (Notes b) u d q = lasts_put bs b q.old q.there q.unprepared q.stays q.changed
stands_lasts bs (Accepts b c) u d q = lasts_put bs (record b { accepted = b.accepted ++ c ∷ [] }) q.old q.there q.unprepared q.stays q.changed
stands_lasts bs (Leaves k) u d q = lasts_cut bs k q.branch u q.there q.unprepared q.unchanged
stands_lasts bs (Sends m) u d q = (refl, refl)
stands_lasts bs (Prints l) u d q = (refl, refl)
stands_lasts bs (Prepares b) u d q = absurd (let f : true ≡ false = d in cc)
stands_lasts bs (Settles k o why r) u d q = absurd (let f : true ≡ false = d in cc)
stands_lasts bs (Acknowledges k) u d q = absurd (let f : true ≡ false = d in cc)
stands_lasts bs (Releases s x) u d q = absurd (let f : true ≡ false = d in cc)
stands_lasts bs (Undoes k) u d q = absurd (let f : true ≡ false = d in cc)

-- a branch that begins leaves what lasts
pub new_lasts : (bs : List Branch) (b : Branch) → IsNew bs b → LastsAlike bs (put b bs)
new_lasts [] b n = (plain b.state n.unprepared, unit b.state n.unprepared n.unchanged)
  where
    plain : (z : State) → is_prepared z ≡ false → prepared_state b z [] ≡ []
    plain Joining h = refl
    plain Active h = refl
    plain Ending h = refl
    plain Voting h = refl
    plain Prepared h = absurd (let f : true ≡ false = h in cc)

    unit : (z : State) → is_prepared z ≡ false → b.changed ≡ false → unit_of b z [] ≡ []
    unit Joining h c = ap (λ t. if t then b.key ∷ [] else []) c
    unit Active h c = ap (λ t. if t then b.key ∷ [] else []) c
    unit Ending h c = ap (λ t. if t then b.key ∷ [] else []) c
    unit Voting h c = ap (λ t. if t then b.key ∷ [] else []) c
    unit Prepared h c = absurd (let f : true ≡ false = h in cc)
new_lasts (x ∷ xs) b n = elim (told_key x.key b.key) [
  | inl q ↦ absurd (let z : Some x ≡ None = rw (q.0) at (n.absent) in cc)
  | inr q ↦
      let none : find b.key xs ≡ None = rw (q.0) at (n.absent) in
      let l = new_lasts xs b (record { absent = none; unprepared = n.unprepared; unchanged = n.unchanged }) in
      rw (q.0) (ap (prepared_state x x.state) l.0, ap (unit_of x x.state) l.1)
]
