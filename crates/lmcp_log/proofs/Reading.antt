-- The slots that a loop reads, one behind the other.
use Rattle.std.specs.Prelude.{nat_lt, IfSome}
use Rattle.std.proofs.Common.{◌≡◌, ◌↔◌, ℕ, zero, suc, ◌+◌, ◌≤◌, ◌<◌, Bool, true, false, List, [], ◌∷◌, ◌++◌, length, map, take, get_or, Option, Some, None, inl, inr, refl, ap, sym, subst, ◌∙◌, arith, length-append}
use Rattle.std.proofs.lemmas.Bool.{cases_Bool, ltb-true, ltb-false}
use Rattle.std.proofs.lemmas.List.{get_or-map, take_more, take-append-le, append-nil}
use Rattle.std.proofs.Math.Seq.{take-append_seam}
use Rattle.vms_base.specs.vms_model.Ids.{Id}
use Rattle.vms_base.specs.declared.protocol.LogRec.{LogRec}
use Rattle.log_laws.specs.commit_protocol.Messages.{LogRecord}
use Rattle.log_laws.specs.commit_protocol.Table.{record_serials}
use Rattle.log_laws.specs.commit_protocol.World.{In}
use Rattle.log_laws.specs.commit_protocol.Agreement.{Distinct}
use Rattle.log_laws.proofs.commit_protocol.Lists.{told_id, in_parts}
use Rattle.log_laws.proofs.commit_protocol.Serials.{distinct_more, serials_append}
use Rattle.tm_types.proofs.ListLemmas.{map_push}
use Rattle.log_laws.specs.Slots.{Slots, records_in, has_slot}
use Rattle.lmcp_log.specs.Slot.{slot_block, IsRecord}
use Rattle.lmcp_log.specs.Log.{slot_of, slot_at, block_of_slot, IsReadAt, IsReading}

-- a test that failed so far, and at the next one
pub none_more : (test : Option LogRecord → Bool) (xs : List (Option LogRec)) (i : ℕ) (x : Option LogRec) → i < length xs → x ≡ get_or xs i x → ((k : ℕ) → k < i → test (slot_at (map slot_of xs) k) ≡ false) → test (slot_of x) ≡ false
    → (k : ℕ) → k < i + 1 → test (slot_at (map slot_of xs) k) ≡ false
none_more test xs i x lt at before now k le = elim (cases_Bool (nat_lt k i)) [
  | inl e ↦ before k (ltb-true k i e)
  | inr e ↦
      let same : i ≡ k = let q = ltb-false k i e in omega arith in
      let here : slot_at (map slot_of xs) i ≡ slot_of x = get_or-map slot_of xs i x None lt ∙ ap slot_of (sym at) in
      let P : ℕ → Type 0 = λ n. test (slot_at (map slot_of xs) n) ≡ false in
      subst P same (ap test here ∙ now)
]

-- one slot more
at_front : (ss : Slots) (e : Option LogRecord) (i : ℕ) → i < length ss → slot_at (ss ++ e ∷ []) i ≡ slot_at ss i
at_front [] e i h = absurd (omega arith)
at_front (s ∷ ss) e zero h = refl
at_front (s ∷ ss) e (suc i) h = at_front ss e i (omega arith)

at_end : (ss : Slots) (e : Option LogRecord) → slot_at (ss ++ e ∷ []) (length ss) ≡ e
at_end [] e = refl
at_end (s ∷ ss) e = at_end ss e

-- what the next slot is read as
abbrev pub IsEntry : List ℕ → Slots → Option LogRecord → Type 0
IsEntry block ss e = (r : LogRecord) → (e ≡ Some r) ↔ (IsRecord r × (slot_block r ≡ block) × (has_slot r.serial ss ≡ false))

last_read : (c : List (List ℕ)) (ss : Slots) (e : Option LogRecord) → IsEntry (block_of_slot c (length ss)) ss e → IsReadAt c (ss ++ e ∷ []) (length ss)
last_read c ss e h =
    let front : take (length ss) (ss ++ e ∷ []) ≡ ss = take-append_seam ss (e ∷ []) in
    record {
      some = λ r is. (let p = (h r).0 (sym (at_end ss e) ∙ is) in (p.0, p.1, ap (has_slot r.serial) front ∙ p.2));
      none = λ is r record_is block_is. elim (cases_Bool (has_slot r.serial ss)) [
        | inl t ↦ ap (has_slot r.serial) front ∙ t
        | inr t ↦ absurd (let z : None ≡ Some r = sym (sym (at_end ss e) ∙ is) ∙ (h r).1 (record_is, block_is, t) in cc)
      ];
    }

earlier_read : (c : List (List ℕ)) (ss : Slots) (e : Option LogRecord) (i : ℕ) → i < length ss → IsReadAt c ss i → IsReadAt c (ss ++ e ∷ []) i
earlier_read c ss e i lt h =
    let front : take i (ss ++ e ∷ []) ≡ take i ss = take-append-le i ss (e ∷ []) (omega arith) in
    record {
      some = λ r is. (let p = h.some r (sym (at_front ss e i lt) ∙ is) in (p.0, p.1, ap (has_slot r.serial) front ∙ p.2));
      none = λ is r record_is block_is. ap (has_slot r.serial) front ∙ h.none (sym (at_front ss e i lt) ∙ is) r record_is block_is;
    }

pub reading_more : (c : List (List ℕ)) (ss : Slots) (e : Option LogRecord) → IsReading ss c → IsEntry (block_of_slot c (length ss)) ss e → IsReading (ss ++ e ∷ []) c
reading_more c ss e h is i le = elim (cases_Bool (nat_lt i (length ss))) [
  | inl t ↦ earlier_read c ss e i (ltb-true i (length ss) t) (h i (ltb-true i (length ss) t))
  | inr t ↦
      let same : length ss ≡ i = let q = ltb-false i (length ss) t in let n = length-append ss (e ∷ []) in omega (arith, le) in
      let P : ℕ → Type 0 = λ n. IsReadAt c (ss ++ e ∷ []) n in
      subst P same (last_read c ss e is)
]

-- the same where the content is told
pub told_more : (o : Option (List (List ℕ))) (ss : Slots) (e : Option LogRecord) (block : List ℕ) → IfSome o (IsReading ss) → IfSome o (λ c. block ≡ block_of_slot c (length ss)) → IsEntry block ss e → IfSome o (IsReading (ss ++ e ∷ []))
told_more None ss e block h b is = tt
told_more (Some c) ss e block h b is = let P : List ℕ → Type 0 = λ x. IsEntry x ss e in reading_more c ss e h (subst P b is)

pub records_append : (ss ts : Slots) → records_in (ss ++ ts) ≡ records_in ss ++ records_in ts
records_append [] ts = refl
records_append (None ∷ ss) ts = records_append ss ts
records_append (Some r ∷ ss) ts = ap (λ rs. r ∷ rs) (records_append ss ts)

-- each record that is read is one
pub records_more : (ss : Slots) (e : Option LogRecord) (block : List ℕ) → ((r : LogRecord) → In r (records_in ss) → IsRecord r) → IsEntry block ss e → (r : LogRecord) → In r (records_in (ss ++ e ∷ [])) → IsRecord r
records_more ss e block h is r i =
    let P : List LogRecord → Type 0 = λ rs. In r rs in
    elim (in_parts r (records_in ss) (records_in (e ∷ [])) (subst P (records_append ss (e ∷ [])) i)) [
      | inl j ↦ h r j
      | inr j ↦ go e refl j
    ]
  where
    go : (o : Option LogRecord) → e ≡ o → In r (records_in (o ∷ [])) → IsRecord r
    go None f j = absurd j
    go (Some q) f j = elim j [ inl s ↦ (let Q : LogRecord → Type 0 = λ x. IsRecord x in subst Q (sym s) ((is q).0 f).0) | inr z ↦ absurd z ]

-- a serial that no slot has is none of theirs
pub not_among : (s : Id) (ss : Slots) → has_slot s ss ≡ false → In s (record_serials (records_in ss)) → ⊥
not_among s [] h i = i
not_among s (None ∷ ss) h i = not_among s ss h i
not_among s (Some q ∷ ss) h i = elim (told_id q.serial s) [
  | inl e ↦ (let z : true ≡ false = rw (e.0) at h in cc)
  | inr e ↦ (let z : has_slot s ss ≡ false = rw (e.0) at h in elim i [ inl f ↦ e.1 (sym f) | inr j ↦ not_among s ss z j ])
]

pub distinct_read : (ss : Slots) (e : Option LogRecord) (block : List ℕ) → Distinct (record_serials (records_in ss)) → IsEntry block ss e → Distinct (record_serials (records_in (ss ++ e ∷ [])))
distinct_read ss e block d is =
    let P : List LogRecord → Type 0 = λ rs. Distinct (record_serials rs) in
    subst P (sym (records_append ss (e ∷ []))) (go e refl)
  where
    go : (o : Option LogRecord) → e ≡ o → Distinct (record_serials (records_in ss ++ records_in (o ∷ [])))
    go None f = let P : List LogRecord → Type 0 = λ rs. Distinct (record_serials rs) in subst P (sym (append-nil (records_in ss))) d
    go (Some q) f =
        let P : List Id → Type 0 = λ is. Distinct is in
        subst P (sym (serials_append (records_in ss) (q ∷ []))) (distinct_more (record_serials (records_in ss)) q.serial d (not_among q.serial ss (((is q).0 f).2)))

-- how many there are
pub count_more : (xs : List (Option LogRec)) (i : ℕ) (x : Option LogRec) → i < length xs → x ≡ get_or xs i x → length (records_in (map slot_of (take (i + 1) xs))) ≡ length (records_in (map slot_of (take i xs))) + length (records_in (slot_of x ∷ []))
count_more xs i x lt at =
    let more : take (i + 1) xs ≡ take i xs ++ x ∷ [] = take_more xs i x lt ∙ ap (λ y. take i xs ++ y ∷ []) (sym at) in
    ap (λ ys. length (records_in (map slot_of ys))) more
    ∙ (ap (λ ss. length (records_in ss)) (map_push slot_of (take i xs) x)
    ∙ (ap length (records_append (map slot_of (take i xs)) (slot_of x ∷ [])) ∙ length-append (records_in (map slot_of (take i xs))) (records_in (slot_of x ∷ []))))

pub few_records : (ss : Slots) → length (records_in ss) ≤ length ss
few_records [] = omega arith
few_records (None ∷ ss) = let h = few_records ss in omega arith
few_records (Some r ∷ ss) = let h = few_records ss in omega arith
