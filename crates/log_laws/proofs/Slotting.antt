-- The slots of the log tell the table, act by act.
use Rattle.std.specs.Prelude.{if◌then◌else◌}
use Rattle.std.proofs.Common.{◌≡◌, ◌≢◌, Bool, true, false, List, [], ◌∷◌, Some, None, ◌⊎◌, inl, inr, refl, ap, sym, subst, ◌∙◌}
use Rattle.commit_protocol.specs.vms_model.Ids.{Id}
use Rattle.commit_protocol.specs.vms_model.Transactions.{Outcome, Reason}
use Rattle.commit_protocol.specs.Messages.{Name, LogRecord}
use Rattle.commit_protocol.specs.Table.{Key, Branch, State, Joining, Active, Ending, Voting, Prepared, Tm, Act, Notes, Accepts, Prepares, Settles, Leaves, Acknowledges, Releases, Undoes, Sends, Prints, find, put, cut, prepared_record, prepared_state, prepared_records, branch_serials, record_serials, waits_for, holds, acknowledged, released, nothing_left, keep_record, acknowledge, release, after_act}
use Rattle.commit_protocol.specs.Allowed.{is_prepared}
use Rattle.commit_protocol.specs.Effects.{Effect, KeepEffect, ForgetEffect, record_effects, acknowledge_effects, release_effects}
use Rattle.commit_protocol.specs.World.{In}
use Rattle.commit_protocol.specs.Agreement.{Distinct}
use Rattle.commit_protocol.specs.Standing.{IsThere, Stands}
use Rattle.commit_protocol.proofs.Lists.{told_id, told_key, in_parts, in_left, in_right, Unique}
use Rattle.commit_protocol.proofs.Serials.{AreApart, in_serial, there_serial, cut_gone}
use Rattle.commit_protocol.proofs.Lasting.{stands_lasts, lasts_absent}
use Rattle.log_laws.specs.Slots.{Slots, records_in, has_slot, has_free, replaced, filled, put_in, forgotten, record_effects_in, slots_after, LogTells, HasSlot}

-- the branches' serials and the committed records' apart, of a table
abbrev pub TmApart : Tm → Type 0
TmApart tm = AreApart (branch_serials tm.table) (record_serials tm.records)

-- Forgetting.

forgot_from : (s : Id) (ss : Slots) (q : LogRecord) → Distinct (record_serials (records_in ss)) → In q (records_in (forgotten s ss)) → In q (records_in ss) × (q.serial ≢ s)
forgot_from s [] q d h = absurd h
forgot_from s (None ∷ ss) q d h = forgot_from s ss q d h
forgot_from s (Some r ∷ ss) q d h = elim (told_id r.serial s) [
  | inl e ↦ let h' : In q (records_in ss) = rw (e.0) at h in (inr h', λ same. d.0 (let P : Id → Type 0 = λ z. In z (record_serials (records_in ss)) in subst P (same ∙ sym e.1) (in_serial q (records_in ss) h')))
  | inr e ↦ let h' : In q (r ∷ records_in (forgotten s ss)) = rw (e.0) at h in elim h' [
    | inl same ↦ (inl same, λ f. e.1 (ap (λ (x : LogRecord). x.serial) (sym same) ∙ f))
    | inr j ↦ let z = forgot_from s ss q d.1 j in (inr z.0, z.1)
  ]
]

forgot_keeps : (s : Id) (ss : Slots) (q : LogRecord) → In q (records_in ss) → q.serial ≢ s → In q (records_in (forgotten s ss))
forgot_keeps s [] q h ne = h
forgot_keeps s (None ∷ ss) q h ne = forgot_keeps s ss q h ne
forgot_keeps s (Some r ∷ ss) q h ne = elim (told_id r.serial s) [
  | inl e ↦ rw (e.0) (elim h [ inl same ↦ absurd (ne (ap (λ (x : LogRecord). x.serial) same ∙ e.1)) | inr j ↦ j ])
  | inr e ↦ rw (e.0) (elim h [ inl same ↦ inl same | inr j ↦ inr (forgot_keeps s ss q j ne) ])
]

in_forgot_serials : (s : Id) (ss : Slots) (i : Id) → In i (record_serials (records_in (forgotten s ss))) → In i (record_serials (records_in ss))
in_forgot_serials s [] i h = h
in_forgot_serials s (None ∷ ss) i h = in_forgot_serials s ss i h
in_forgot_serials s (Some r ∷ ss) i h = elim (told_id r.serial s) [
  | inl e ↦ let h' : In i (record_serials (records_in ss)) = rw (e.0) at h in inr h'
  | inr e ↦ let h' : In i (r.serial ∷ record_serials (records_in (forgotten s ss))) = rw (e.0) at h in elim h' [ inl q ↦ inl q | inr j ↦ inr (in_forgot_serials s ss i j) ]
]

forgot_distinct : (s : Id) (ss : Slots) → Distinct (record_serials (records_in ss)) → Distinct (record_serials (records_in (forgotten s ss)))
forgot_distinct s [] d = d
forgot_distinct s (None ∷ ss) d = forgot_distinct s ss d
forgot_distinct s (Some r ∷ ss) d = elim (told_id r.serial s) [
  | inl e ↦ rw (e.0) (d.1)
  | inr e ↦ rw (e.0) ((λ h. d.0 (in_forgot_serials s ss r.serial h)), forgot_distinct s ss d.1)
]

-- Putting.

pub slot_of : (s : Id) (ss : Slots) → In s (record_serials (records_in ss)) → has_slot s ss ≡ true
slot_of s [] h = absurd h
slot_of s (None ∷ ss) h = slot_of s ss h
slot_of s (Some r ∷ ss) h = elim (told_id r.serial s) [
  | inl e ↦ rw (e.0) refl
  | inr e ↦ rw (e.0) (elim h [ inl q ↦ absurd (e.1 (sym q)) | inr j ↦ slot_of s ss j ])
]

no_slot : (s : Id) (ss : Slots) → has_slot s ss ≡ false → In s (record_serials (records_in ss)) → ⊥
no_slot s ss e h = let f : true ≡ false = sym (slot_of s ss h) ∙ e in cc

-- what becomes of the slots when a record is put there
record Puts (r : LogRecord) (ss ts : Slots) : Type 0 where
  here : In r (records_in ts)
  from : (q : LogRecord) → In q (records_in ts) → (q ≡ r) ⊎ (In q (records_in ss) × (q.serial ≢ r.serial))
  keeps : (q : LogRecord) → In q (records_in ss) → q.serial ≢ r.serial → In q (records_in ts)
  serials : (i : Id) → In i (record_serials (records_in ts)) → (i ≡ r.serial) ⊎ In i (record_serials (records_in ss))
  distinct : Distinct (record_serials (records_in ts))

replaces : (r : LogRecord) (ss : Slots) → Distinct (record_serials (records_in ss)) → has_slot r.serial ss ≡ true → Puts r ss (replaced r ss)
replaces r [] d h = absurd (let f : false ≡ true = h in cc)
replaces r (None ∷ ss) d h = let p = replaces r ss d h in record { here = p.here; from = p.from; keeps = p.keeps; serials = p.serials; distinct = p.distinct }
replaces r (Some x ∷ ss) d h = elim (told_id x.serial r.serial) [
  | inl e ↦ rw (e.0) (record {
    here = inl refl;
    from = λ q i. elim i [
      | inl s ↦ inl s
      | inr j ↦ inr (inr j, λ f. d.0 (let P : Id → Type 0 = λ z. In z (record_serials (records_in ss)) in subst P (f ∙ sym e.1) (in_serial q (records_in ss) j)))
    ];
    keeps = λ q i ne. elim i [ inl s ↦ absurd (ne (ap (λ (y : LogRecord). y.serial) s ∙ e.1)) | inr j ↦ inr j ];
    serials = λ i j. elim j [ inl s ↦ inl s | inr k ↦ inr (inr k) ];
    distinct = ((λ j. d.0 (let P : Id → Type 0 = λ z. In z (record_serials (records_in ss)) in subst P (sym e.1) j)), d.1);
  })
  | inr e ↦
      let h' : has_slot r.serial ss ≡ true = rw (e.0) at h in
      let p = replaces r ss d.1 h' in
      rw (e.0) (record {
        here = inr p.here;
        from = λ q i. elim i [
          | inl s ↦ inr (inl s, λ f. e.1 (ap (λ (y : LogRecord). y.serial) (sym s) ∙ f))
          | inr j ↦ elim (p.from q j) [ inl s ↦ inl s | inr k ↦ inr (inr k.0, k.1) ]
        ];
        keeps = λ q i ne. elim i [ inl s ↦ inl s | inr j ↦ inr (p.keeps q j ne) ];
        serials = λ i j. elim j [ inl s ↦ inr (inl s) | inr k ↦ elim (p.serials i k) [ inl s ↦ inl s | inr z ↦ inr (inr z) ] ];
        distinct = ((λ j. elim (p.serials x.serial j) [ inl s ↦ e.1 s | inr z ↦ d.0 z ]), p.distinct);
      })
]

fills : (r : LogRecord) (ss : Slots) → Distinct (record_serials (records_in ss)) → (In r.serial (record_serials (records_in ss)) → ⊥) → has_free ss ≡ true → Puts r ss (filled r ss)
fills r [] d n h = absurd (let f : false ≡ true = h in cc)
fills r (None ∷ ss) d n h = record {
  here = inl refl;
  from = λ q i. elim i [ inl s ↦ inl s | inr j ↦ inr (j, λ f. n (let P : Id → Type 0 = λ z. In z (record_serials (records_in ss)) in subst P f (in_serial q (records_in ss) j))) ];
  keeps = λ q i ne. inr i;
  serials = λ i j. j;
  distinct = (n, d);
}
fills r (Some x ∷ ss) d n h =
    let p = fills r ss d.1 (λ j. n (inr j)) h in
    record {
      here = inr p.here;
      from = λ q i. elim i [
        | inl s ↦ inr (inl s, λ f. n (inl (sym f ∙ ap (λ (y : LogRecord). y.serial) s)))
        | inr j ↦ elim (p.from q j) [ inl s ↦ inl s | inr k ↦ inr (inr k.0, k.1) ]
      ];
      keeps = λ q i ne. elim i [ inl s ↦ inl s | inr j ↦ inr (p.keeps q j ne) ];
      serials = λ i j. elim j [ inl s ↦ inr (inl s) | inr k ↦ elim (p.serials i k) [ inl s ↦ inl s | inr z ↦ inr (inr z) ] ];
      distinct = ((λ j. elim (p.serials x.serial j) [ inl s ↦ n (inl (sym s)) | inr z ↦ d.0 z ]), p.distinct);
    }

puts : (r : LogRecord) (ss : Slots) → Distinct (record_serials (records_in ss)) → (has_slot r.serial ss ≡ true) ⊎ (has_free ss ≡ true) → Puts r ss (put_in r ss)
puts r ss d h = go (has_slot r.serial ss) refl
  where
    go : (b : Bool) → has_slot r.serial ss ≡ b → Puts r ss (if b then replaced r ss else filled r ss)
    go true e = replaces r ss d e
    go false e = elim h [ inl k ↦ absurd (let f : true ≡ false = sym k ∙ e in cc) | inr k ↦ fills r ss d (no_slot r.serial ss e) k ]

-- Prepared records of the table.

pub in_state : (x : Branch) (s : State) (rest : List LogRecord) (q : LogRecord) → In q (prepared_state x s rest) → ((s ≡ Prepared) × (q ≡ prepared_record x)) ⊎ In q rest
in_state x Prepared rest q h = elim h [ inl e ↦ inl (refl, e) | inr j ↦ inr j ]
in_state x Joining rest q h = inr h
in_state x Active rest q h = inr h
in_state x Ending rest q h = inr h
in_state x Voting rest q h = inr h

pub state_rest : (x : Branch) (s : State) (rest : List LogRecord) (q : LogRecord) → In q rest → In q (prepared_state x s rest)
state_rest x Prepared rest q h = inr h
state_rest x Joining rest q h = h
state_rest x Active rest q h = h
state_rest x Ending rest q h = h
state_rest x Voting rest q h = h

pub state_first : (x : Branch) (s : State) (rest : List LogRecord) (q : LogRecord) → s ≡ Prepared → q ≡ prepared_record x → In q (prepared_state x s rest)
state_first x Prepared rest q e f = inl f
state_first x Joining rest q e f = absurd cc
state_first x Active rest q e f = absurd cc
state_first x Ending rest q e f = absurd cc
state_first x Voting rest q e f = absurd cc

-- a record of the table, through one branch more
state_on : (x : Branch) (s : State) (rest more : List LogRecord) (q : LogRecord) → (In q rest → In q more) → In q (prepared_state x s rest) → In q (prepared_state x s more)
state_on x s rest more q f h = elim (in_state x s rest q h) [ inl e ↦ state_first x s more q e.0 e.1 | inr j ↦ state_rest x s more q (f j) ]

unprepared_rest : (x : Branch) (rest : List LogRecord) (q : LogRecord) → is_prepared x.state ≡ false → In q (prepared_state x x.state rest) → In q rest
unprepared_rest x rest q un h = elim (in_state x x.state rest q h) [ inl e ↦ absurd (let f : true ≡ false = ap is_prepared (sym e.0) ∙ un in cc) | inr j ↦ j ]

prepared_serial : (bs : List Branch) (q : LogRecord) → In q (prepared_records bs) → In q.serial (branch_serials bs)
prepared_serial [] q h = h
prepared_serial (x ∷ xs) q h = elim (in_state x x.state (prepared_records xs) q h) [ inl e ↦ inl (ap (λ (y : LogRecord). y.serial) e.1) | inr j ↦ inr (prepared_serial xs q j) ]

-- no prepared record is of an unprepared branch's serial
prepared_other : (k : Key) (bs : List Branch) (o : Branch) (q : LogRecord) → Distinct (branch_serials bs) → find k bs ≡ Some o → is_prepared o.state ≡ false → In q (prepared_records bs) → q.serial ≢ k.serial
prepared_other k [] o q d e un h = absurd h
prepared_other k (x ∷ xs) o q d e un h = elim (told_key x.key k) [
  | inl t ↦
      let e' : Some x ≡ Some o = rw (t.0) at e in
      let same : x ≡ o = cc in
      let j : In q (prepared_records xs) = unprepared_rest x (prepared_records xs) q (ap (λ (y : Branch). is_prepared y.state) same ∙ un) h in
      λ f. d.0 (let P : Id → Type 0 = λ z. In z (branch_serials xs) in subst P (f ∙ ap (λ (y : Key). y.serial) (sym t.1)) (prepared_serial xs q j))
  | inr t ↦
      let e' : find k xs ≡ Some o = rw (t.0) at e in
      elim (in_state x x.state (prepared_records xs) q h) [
        | inl s ↦ λ f. d.0 (let P : Id → Type 0 = λ z. In z (branch_serials xs) in subst P (sym f ∙ ap (λ (y : LogRecord). y.serial) s.1) (there_serial k xs (o, e')))
        | inr j ↦ prepared_other k xs o q d.1 e' un j
      ]
]

-- after a branch is prepared
prepared_put : (b o : Branch) (bs : List Branch) (q : LogRecord) → b.state ≡ Prepared → find b.key bs ≡ Some o → is_prepared o.state ≡ false → In q (prepared_records (put b bs)) → (q ≡ prepared_record b) ⊎ In q (prepared_records bs)
prepared_put b o [] q st e un h = absurd (let f : None ≡ Some o = e in cc)
prepared_put b o (x ∷ xs) q st e un h = elim (told_key x.key b.key) [
  | inl t ↦
      let h' : In q (prepared_state b b.state (prepared_records xs)) = rw (t.0) at h in
      elim (in_state b b.state (prepared_records xs) q h') [ inl s ↦ inl s.1 | inr j ↦ inr (state_rest x x.state (prepared_records xs) q j) ]
  | inr t ↦
      let e' : find b.key xs ≡ Some o = rw (t.0) at e in
      let h' : In q (prepared_state x x.state (prepared_records (put b xs))) = rw (t.0) at h in
      elim (in_state x x.state (prepared_records (put b xs)) q h') [
        | inl s ↦ inr (state_first x x.state (prepared_records xs) q s.0 s.1)
        | inr j ↦ elim (prepared_put b o xs q st e' un j) [ inl s ↦ inl s | inr z ↦ inr (state_rest x x.state (prepared_records xs) q z) ]
      ]
]

put_prepared : (b o : Branch) (bs : List Branch) (q : LogRecord) → b.state ≡ Prepared → find b.key bs ≡ Some o → is_prepared o.state ≡ false → (q ≡ prepared_record b) ⊎ In q (prepared_records bs) → In q (prepared_records (put b bs))
put_prepared b o [] q st e un h = absurd (let f : None ≡ Some o = e in cc)
put_prepared b o (x ∷ xs) q st e un h = elim (told_key x.key b.key) [
  | inl t ↦
      let e' : Some x ≡ Some o = rw (t.0) at e in
      let same : x ≡ o = cc in
      let unx : is_prepared x.state ≡ false = ap (λ (y : Branch). is_prepared y.state) same ∙ un in
      rw (t.0) (elim h [ inl s ↦ state_first b b.state (prepared_records xs) q st s | inr j ↦ state_rest b b.state (prepared_records xs) q (unprepared_rest x (prepared_records xs) q unx j) ])
  | inr t ↦
      let e' : find b.key xs ≡ Some o = rw (t.0) at e in
      rw (t.0) (elim h [
        | inl s ↦ state_rest x x.state (prepared_records (put b xs)) q (put_prepared b o xs q st e' un (inl s))
        | inr j ↦ state_on x x.state (prepared_records xs) (prepared_records (put b xs)) q (λ z. put_prepared b o xs q st e' un (inr z)) j
      ])
]

-- after a branch is gone
prepared_cut : (k : Key) (bs : List Branch) (q : LogRecord) → In q (prepared_records (cut k bs)) → In q (prepared_records bs)
prepared_cut k [] q h = h
prepared_cut k (x ∷ xs) q h = elim (told_key x.key k) [
  | inl t ↦ let h' : In q (prepared_records (cut k xs)) = rw (t.0) at h in state_rest x x.state (prepared_records xs) q (prepared_cut k xs q h')
  | inr t ↦ let h' : In q (prepared_state x x.state (prepared_records (cut k xs))) = rw (t.0) at h in state_on x x.state (prepared_records (cut k xs)) (prepared_records xs) q (prepared_cut k xs q) h'
]

cut_prepared : (k : Key) (bs : List Branch) (q : LogRecord) → In q (prepared_records bs) → q.serial ≢ k.serial → In q (prepared_records (cut k bs))
cut_prepared k [] q h ne = h
cut_prepared k (x ∷ xs) q h ne = elim (told_key x.key k) [
  | inl t ↦ rw (t.0) (elim (in_state x x.state (prepared_records xs) q h) [
    | inl s ↦ absurd (ne (ap (λ (y : LogRecord). y.serial) s.1 ∙ ap (λ (y : Key). y.serial) t.1))
    | inr j ↦ cut_prepared k xs q j ne
  ])
  | inr t ↦ rw (t.0) (state_on x x.state (prepared_records xs) (prepared_records (cut k xs)) q (λ z. cut_prepared k xs q z ne) h)
]

-- Committed records: the first for which a test holds is written again with less, or goes.

abbrev first_kept : (LogRecord → Bool) → (LogRecord → LogRecord) → List LogRecord → List LogRecord
first_kept t f [] = []
first_kept t f (r ∷ rs) = if t r then keep_record (f r) rs else r ∷ first_kept t f rs

abbrev first_effects : (LogRecord → Bool) → (LogRecord → LogRecord) → List LogRecord → List Effect
first_effects t f [] = []
first_effects t f (r ∷ rs) = if t r then record_effects (f r) else first_effects t f rs

-- what becomes of the records, and by which effects
record Changed (rs new : List LogRecord) (es : List Effect) (r : LogRecord) (kept : Bool) (k : LogRecord) : Type 0 where
  there : In r rs
  same : k.serial ≡ r.serial
  by : es ≡ (if kept then KeepEffect k ∷ [] else ForgetEffect k.serial ∷ [])
  from : (q : LogRecord) → In q new → ((kept ≡ true) × (q ≡ k)) ⊎ (In q rs × (q.serial ≢ r.serial))
  to : (q : LogRecord) → In q rs → q.serial ≢ r.serial → In q new
  here : kept ≡ true → In k new

data Becomes (rs new : List LogRecord) (es : List Effect) : Type 0 where
  Same : new ≡ rs → es ≡ [] → Becomes rs new es
  Changes : (r : LogRecord) (kept : Bool) (k : LogRecord) → Changed rs new es r kept k → Becomes rs new es

becomes : (t : LogRecord → Bool) (f : LogRecord → LogRecord) → ((r : LogRecord) → (f r).serial ≡ r.serial) → (rs : List LogRecord) → Distinct (record_serials rs) → Becomes rs (first_kept t f rs) (first_effects t f rs)
becomes t f keeps [] d = Same refl refl
becomes t f keeps (r ∷ rs) d = go (t r) (becomes t f keeps rs d.1)
  where
    away : (q : LogRecord) → In q rs → q.serial ≢ r.serial
    away q j e = d.0 (let P : Id → Type 0 = λ z. In z (record_serials rs) in subst P e (in_serial q rs j))

    left : (b : Bool) → Becomes (r ∷ rs) (if b then rs else f r ∷ rs) (if b then ForgetEffect (f r).serial ∷ [] else KeepEffect (f r) ∷ [])
    left true = Changes r false (f r) (record {
      there = inl refl;
      same = keeps r;
      by = refl;
      from = λ q j. inr (inr j, away q j);
      to = λ q j ne. elim j [ inl e ↦ absurd (ne (ap (λ (y : LogRecord). y.serial) e)) | inr z ↦ z ];
      here = λ e. absurd (let g : false ≡ true = e in cc);
    })
    left false = Changes r true (f r) (record {
      there = inl refl;
      same = keeps r;
      by = refl;
      from = λ q j. elim j [ inl e ↦ inl (refl, e) | inr z ↦ inr (inr z, away q z) ];
      to = λ q j ne. elim j [ inl e ↦ absurd (ne (ap (λ (y : LogRecord). y.serial) e)) | inr z ↦ inr z ];
      here = λ e. inl refl;
    })

    on : Becomes rs (first_kept t f rs) (first_effects t f rs) → Becomes (r ∷ rs) (r ∷ first_kept t f rs) (first_effects t f rs)
    on (Same e g) = Same (ap (λ qs. r ∷ qs) e) g
    on (Changes p kept k c) = Changes p kept k (record {
      there = inr c.there;
      same = c.same;
      by = c.by;
      from = λ q j. elim j [
        | inl e ↦ inr (inl e, λ g. away p c.there (sym g ∙ ap (λ (y : LogRecord). y.serial) e))
        | inr z ↦ elim (c.from q z) [ inl s ↦ inl s | inr w ↦ inr (inr w.0, w.1) ]
      ];
      to = λ q j ne. elim j [ inl e ↦ inl e | inr z ↦ inr (c.to q z ne) ];
      here = λ e. inr (c.here e);
    })

    go : (b : Bool) → Becomes rs (first_kept t f rs) (first_effects t f rs) → Becomes (r ∷ rs) (if b then keep_record (f r) rs else r ∷ first_kept t f rs) (if b then record_effects (f r) else first_effects t f rs)
    go true more = left (nothing_left (f r).waiting (f r).rms)
    go false more = on more

-- the slots after that
record_tells : (x : Tm) (new : List LogRecord) (es : List Effect) (ss : Slots) → TmApart x → LogTells x ss → Becomes x.records new es
    → (let y : Tm = record x { records = new } in LogTells y (record_effects_in es ss))
record_tells x new es ss a l (Same e f) =
    let P : List LogRecord → Type 0 = λ rs. (let y : Tm = record x { records = rs } in LogTells y ss) in
    let Q : List Effect → Type 0 = λ z. (let y : Tm = record x { records = new } in LogTells y (record_effects_in z ss)) in
    subst Q (sym f) (subst P (sym e) (record { from = l.from; prepared = l.prepared; committed = l.committed; distinct = l.distinct }))
record_tells x new es ss a l (Changes r kept k c) =
    let Q : List Effect → Type 0 = λ z. (let y : Tm = record x { records = new } in LogTells y (record_effects_in z ss)) in
    subst Q (sym c.by) (go kept refl)
  where
    other : (q : LogRecord) → In q (prepared_records x.table) → q.serial ≢ r.serial
    other q j e = a.apart r.serial (let P : Id → Type 0 = λ z. In z (branch_serials x.table) in subst P e (prepared_serial x.table q j)) (in_serial r x.records c.there)

    slot : has_slot k.serial ss ≡ true
    slot = slot_of k.serial ss (let P : Id → Type 0 = λ z. In z (record_serials (records_in ss)) in subst P (sym c.same) (in_serial r (records_in ss) (l.committed r c.there)))

    go : (b : Bool) → kept ≡ b → (let y : Tm = record x { records = new } in LogTells y (record_effects_in (if kept then KeepEffect k ∷ [] else ForgetEffect k.serial ∷ []) ss))
    go true e =
        let p = puts k ss l.distinct (inl slot) in
        let R : Bool → Type 0 = λ t. (let y : Tm = record x { records = new } in LogTells y (record_effects_in (if t then KeepEffect k ∷ [] else ForgetEffect k.serial ∷ []) ss)) in
        subst R (sym e) (record {
          from = λ q j. elim (p.from q j) [
            | inl s ↦ inr (let P : LogRecord → Type 0 = λ z. In z new in subst P (sym s) (c.here e))
            | inr z ↦ elim (l.from q z.0) [ inl w ↦ inl w | inr w ↦ inr (c.to q w (λ g. z.1 (g ∙ sym c.same))) ]
          ];
          prepared = λ q j. p.keeps q (l.prepared q j) (λ g. other q j (g ∙ c.same));
          committed = λ q j. elim (c.from q j) [
            | inl s ↦ (let P : LogRecord → Type 0 = λ z. In z (records_in (put_in k ss)) in subst P (sym s.1) p.here)
            | inr w ↦ p.keeps q (l.committed q w.0) (λ g. w.1 (g ∙ c.same))
          ];
          distinct = p.distinct;
        })
    go false e =
        let R : Bool → Type 0 = λ t. (let y : Tm = record x { records = new } in LogTells y (record_effects_in (if t then KeepEffect k ∷ [] else ForgetEffect k.serial ∷ []) ss)) in
        subst R (sym e) (record {
          from = λ q j. (let z = forgot_from k.serial ss q l.distinct j in elim (l.from q z.0) [ inl w ↦ inl w | inr w ↦ inr (c.to q w (λ g. z.1 (g ∙ sym c.same))) ]);
          prepared = λ q j. forgot_keeps k.serial ss q (l.prepared q j) (λ g. other q j (g ∙ c.same));
          committed = λ q j. elim (c.from q j) [
            | inl s ↦ absurd (let g : true ≡ false = sym s.0 ∙ e in cc)
            | inr w ↦ forgot_keeps k.serial ss q (l.committed q w.0) (λ g. w.1 (g ∙ c.same))
          ];
          distinct = forgot_distinct k.serial ss l.distinct;
        })

acknowledge_is : (k : Key) (rs : List LogRecord) → (acknowledge k rs ≡ first_kept (waits_for k) (acknowledged k) rs) × (acknowledge_effects k rs ≡ first_effects (waits_for k) (acknowledged k) rs)
acknowledge_is k [] = (refl, refl)
acknowledge_is k (r ∷ rs) = let m = acknowledge_is k rs in (ap (λ qs. if waits_for k r then keep_record (acknowledged k r) rs else r ∷ qs) m.0, ap (λ es. if waits_for k r then record_effects (acknowledged k r) else es) m.1)

release_is : (s : Id) (n : Name) (rs : List LogRecord) → (release s n rs ≡ first_kept (holds s n) (released n) rs) × (release_effects s n rs ≡ first_effects (holds s n) (released n) rs)
release_is s n [] = (refl, refl)
release_is s n (r ∷ rs) = let m = release_is s n rs in (ap (λ qs. if holds s n r then keep_record (released n r) rs else r ∷ qs) m.0, ap (λ es. if holds s n r then record_effects (released n r) else es) m.1)

-- Acts.

-- the prepared records are the same
pub same_tells : (x y : Tm) (ss : Slots) → prepared_records y.table ≡ prepared_records x.table → y.records ≡ x.records → LogTells x ss → LogTells y ss
same_tells x y ss e f l = record {
  from = λ q j. elim (l.from q j) [
    | inl w ↦ inl (let P : List LogRecord → Type 0 = λ rs. In q rs in subst P (sym e) w)
    | inr w ↦ inr (let P : List LogRecord → Type 0 = λ rs. In q rs in subst P (sym f) w)
  ];
  prepared = λ q j. l.prepared q (let P : List LogRecord → Type 0 = λ rs. In q rs in subst P e j);
  committed = λ q j. l.committed q (let P : List LogRecord → Type 0 = λ rs. In q rs in subst P f j);
  distinct = l.distinct;
}

prepares_tell : (x : Tm) (ss : Slots) (b o : Branch) → TmApart x → find b.key x.table ≡ Some o → is_prepared o.state ≡ false → has_free ss ≡ true → LogTells x ss → LogTells (after_act (Prepares b) x) (put_in (prepared_record b) ss)
prepares_tell x ss b o a e un free l =
    let c : Branch = record b { state = Prepared } in
    let s : Id = b.key.serial in
    let p = puts (prepared_record b) ss l.distinct (inr free) in
    let there : In s (branch_serials x.table) = there_serial b.key x.table (o, e) in
    record {
      from = λ q j. elim (p.from q j) [
        | inl f ↦ inl (put_prepared c o x.table q refl e un (inl f))
        | inr z ↦ elim (l.from q z.0) [ inl w ↦ inl (put_prepared c o x.table q refl e un (inr w)) | inr w ↦ inr w ]
      ];
      prepared = λ q j. elim (prepared_put c o x.table q refl e un j) [
        | inl f ↦ (let P : LogRecord → Type 0 = λ z. In z (records_in (put_in (prepared_record b) ss)) in subst P (sym f) p.here)
        | inr w ↦ p.keeps q (l.prepared q w) (prepared_other b.key x.table o q a.one e un w)
      ];
      committed = λ q j. p.keeps q (l.committed q j) (λ g. a.apart s there (let P : Id → Type 0 = λ z. In z (record_serials x.records) in subst P g (in_serial q x.records j)));
      distinct = p.distinct;
    }

settles_tell : (x : Tm) (ss : Slots) (k : Key) (o : Outcome) (why : Reason) → TmApart x → IsThere x.table k → LogTells x ss → LogTells (after_act (Settles k o why None) x) (forgotten k.serial ss)
settles_tell x ss k o why a h l =
    let there : In k.serial (branch_serials x.table) = there_serial k x.table h in
    record {
      from = λ q j. (let z = forgot_from k.serial ss q l.distinct j in elim (l.from q z.0) [ inl w ↦ inl (cut_prepared k x.table q w z.1) | inr w ↦ inr w ]);
      prepared = λ q j. forgot_keeps k.serial ss q (l.prepared q (prepared_cut k x.table q j))
          (λ g. cut_gone k x.table a.one h (let P : Id → Type 0 = λ z. In z (branch_serials (cut k x.table)) in subst P g (prepared_serial (cut k x.table) q j)));
      committed = λ q j. forgot_keeps k.serial ss q (l.committed q j) (λ g. a.apart k.serial there (let P : Id → Type 0 = λ z. In z (record_serials x.records) in subst P g (in_serial q x.records j)));
      distinct = forgot_distinct k.serial ss l.distinct;
    }

records_tell : (x : Tm) (ss : Slots) (k : Key) (o : Outcome) (why : Reason) (r : LogRecord) → TmApart x → IsThere x.table k → r.serial ≡ k.serial → (has_slot r.serial ss ≡ true) ⊎ (has_free ss ≡ true) → LogTells x ss
    → LogTells (after_act (Settles k o why (Some r)) x) (put_in r ss)
records_tell x ss k o why r a h same room l =
    let p = puts r ss l.distinct room in
    let there : In k.serial (branch_serials x.table) = there_serial k x.table h in
    record {
      from = λ q j. elim (p.from q j) [
        | inl f ↦ inr (in_right q x.records (r ∷ []) (inl f))
        | inr z ↦ elim (l.from q z.0) [ inl w ↦ inl (cut_prepared k x.table q w (λ g. z.1 (g ∙ sym same))) | inr w ↦ inr (in_left q x.records (r ∷ []) w) ]
      ];
      prepared = λ q j. p.keeps q (l.prepared q (prepared_cut k x.table q j))
          (λ g. cut_gone k x.table a.one h (let P : Id → Type 0 = λ z. In z (branch_serials (cut k x.table)) in subst P (g ∙ same) (prepared_serial (cut k x.table) q j)));
      committed = λ q j. elim (in_parts q x.records (r ∷ []) j) [
        | inl w ↦ p.keeps q (l.committed q w) (λ g. a.apart k.serial there (let P : Id → Type 0 = λ z. In z (record_serials x.records) in subst P (g ∙ same) (in_serial q x.records w)))
        | inr w ↦ elim w [ inl f ↦ (let P : LogRecord → Type 0 = λ z. In z (records_in (put_in r ss)) in subst P (sym f) p.here) | inr n ↦ absurd n ]
      ];
      distinct = p.distinct;
    }

pub act_tells : (x : Tm) (ss : Slots) (a : Act) → TmApart x → Unique x.table → Stands x.table a → HasSlot ss a → LogTells x ss → LogTells (after_act a x) (slots_after a x.records ss)
act_tells x ss (Notes b) a u q h l = same_tells x (after_act (Notes b) x) ss (stands_lasts x.table (Notes b) u refl q).0 refl l
act_tells x ss (Accepts b c) a u q h l = same_tells x (after_act (Accepts b c) x) ss (stands_lasts x.table (Accepts b c) u refl q).0 refl l
act_tells x ss (Leaves k) a u q h l = same_tells x (after_act (Leaves k) x) ss (stands_lasts x.table (Leaves k) u refl q).0 refl l
act_tells x ss (Prepares b) a u q h l = prepares_tell x ss b q.branch a q.there q.unprepared h l
act_tells x ss (Settles k o why None) a u q h l = settles_tell x ss k o why a q.0 l
act_tells x ss (Settles k o why (Some r)) a u q h l = records_tell x ss k o why r a q.0 q.1.serial h l
act_tells x ss (Acknowledges k) a u q h l =
    let m = acknowledge_is k x.records in
    let P : List LogRecord → Type 0 = λ rs. Becomes x.records rs (acknowledge_effects k x.records) in
    let Q : List Effect → Type 0 = λ es. Becomes x.records (first_kept (waits_for k) (acknowledged k) x.records) es in
    record_tells x (acknowledge k x.records) (acknowledge_effects k x.records) ss a l (subst P (sym m.0) (subst Q (sym m.1) (becomes (waits_for k) (acknowledged k) (λ r. refl) x.records a.two)))
act_tells x ss (Releases s n) a u q h l =
    let m = release_is s n x.records in
    let P : List LogRecord → Type 0 = λ rs. Becomes x.records rs (release_effects s n x.records) in
    let Q : List Effect → Type 0 = λ es. Becomes x.records (first_kept (holds s n) (released n) x.records) es in
    record_tells x (release s n x.records) (release_effects s n x.records) ss a l (subst P (sym m.0) (subst Q (sym m.1) (becomes (holds s n) (released n) (λ r. refl) x.records a.two)))
act_tells x ss (Undoes k) a u q h l = same_tells x (after_act (Undoes k) x) ss (ap prepared_records (lasts_absent k x.table q)) refl l
act_tells x ss (Sends m) a u q h l = same_tells x (after_act (Sends m) x) ss refl refl l
act_tells x ss (Prints p) a u q h l = same_tells x (after_act (Prints p) x) ss refl refl l
