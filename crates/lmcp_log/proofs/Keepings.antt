-- Contents that keep the slots of the memory.
use Rattle.std.specs.Prelude.{IfSome, option_map, ◌⊎◌}
use Rattle.std.proofs.Common.{◌≡◌, ◌≢◌, ℕ, zero, suc, ◌+◌, ◌<◌, ◌≤◌, Bool, true, false, List, [], ◌∷◌, length, take, set, get_or, replicate, Option, Some, None, inl, inr, refl, ap, sym, subst, ◌∙◌, arith}
use Rattle.std.proofs.lemmas.Bool.{cases_Bool, cases_eq}
use Rattle.std.proofs.lemmas.List.{length-set, get_or-set_same, get_or-set_other, length-replicate, take_all, take_more_same}
use Rattle.vms_base.specs.vms_model.Names.{label_named}
use Rattle.vms_base.specs.vms_model.Ids.{Id, IsId, id_bytes}
use Rattle.vms_base.specs.Ids.{until_zero}
use Rattle.vms_base.proofs.IdLemmas.{id_bytes-injective}
use Rattle.volume_format.proofs.Names.{until_padded}
use Rattle.block_disk.specs.Blocks.{block_at}
use Rattle.block_disk.specs.Disk.{MayLeave}
use Rattle.careful_write.specs.Content.{content_of}
use Rattle.careful_write.specs.State.{StoreState, IsReady, IsEither, Leaves, content}
use Rattle.careful_write.proofs.GroupParts.{stop_closed}
use Rattle.volume.specs.Empty.{IsEmptyVolume}
use Rattle.volume_format.specs.declared.home.Home.{Home}
use Rattle.log_laws.specs.commit_protocol.Messages.{Name, LogRecord, RecordKind, PreparedRecord, CommittedRecord, same_id}
use Rattle.log_laws.specs.commit_protocol.Table.{record_serials}
use Rattle.log_laws.specs.commit_protocol.World.{In}
use Rattle.log_laws.specs.commit_protocol.Agreement.{Distinct}
use Rattle.log_laws.specs.Slots.{Slots, records_in, has_slot}
use Rattle.lmcp_log.specs.Slot.{kind_number, slot_block, free_block, name_bytes, IsRecord}
use Rattle.lmcp_log.specs.Log.{slot_at, is_of, block_of_slot, block_of, IsReadAt, IsReading}
use Rattle.lmcp_log.specs.Keeping.{Has, Keeps, AreApart, Loads, SameSlots}
use Rattle.lmcp_log.proofs.Fields.{SlotFields, slot_fields, serial_stands, name_stands}
use Rattle.lmcp_log.proofs.SlotLemmas.{clash, slot_below}
use Rattle.lmcp_log.proofs.Apart.{same_ids, apart_ids}

-- a block has one record

one_item : (a b : ℕ) → ◌≡◌ {A = List ℕ} (a ∷ []) (b ∷ []) → a ≡ b
one_item a b e = cc

same_kind : (a b : RecordKind) → kind_number a ≡ kind_number b → a ≡ b
same_kind PreparedRecord PreparedRecord e = refl
same_kind CommittedRecord CommittedRecord e = refl
same_kind PreparedRecord CommittedRecord e = absurd (omega (arith, e))
same_kind CommittedRecord PreparedRecord e = absurd (omega (arith, e))

same_name_bytes : (x y : Name) → label_named x ≡ Some x → label_named y ≡ Some y → name_bytes x ≡ name_bytes y → x ≡ y
same_name_bytes x y a b e = sym (until_padded 16 15 (95 ∷ []) x refl a) ∙ (ap until_zero e ∙ until_padded 16 15 (95 ∷ []) y refl b)

-- lists with the same items in each place
same_items : {A : Type 0} (xs ys : List A) (d : A) → length xs ≡ length ys → ((i : ℕ) → i < length xs → get_or xs i d ≡ get_or ys i d) → xs ≡ ys
same_items [] [] d n h = refl
same_items [] (y ∷ ys) d n h = absurd (omega (arith, n))
same_items (x ∷ xs) [] d n h = absurd (omega (arith, n))
same_items (x ∷ xs) (y ∷ ys) d n h = (λ k. h 0 (omega arith) k ∷ same_items xs ys d (omega (arith, n)) (λ i lt. h (suc i) (omega (arith, lt))) k)

no_id : Id
no_id = record { node = []; boot = 0; seq = 0 }

pub one_record : (r q : LogRecord) (block : List ℕ) → IsRecord r → IsRecord q → slot_block r ≡ block → slot_block q ≡ block → r ≡ q
one_record r q block a b e f =
    let x = slot_fields r block a.0 e in
    let y = slot_fields q block b.0 f in
    let kind = same_kind r.kind q.kind (one_item _ _ (sym x.kind ∙ y.kind)) in
    let count = one_item _ _ (sym x.waiting_count ∙ y.waiting_count) in
    let rms_count = one_item _ _ (sym x.rms_count ∙ y.rms_count) in
    let tid = id_bytes-injective r.tid q.tid a.0.tid b.0.tid (sym x.tid ∙ y.tid) in
    let serial = id_bytes-injective r.serial q.serial a.0.serial b.0.serial (sym x.serial ∙ y.serial) in
    let waiting = same_items r.waiting q.waiting no_id count (λ i lt.
    let s = serial_stands block r.waiting i no_id a.0.waiting a.0.few lt x.waiting in
    let t = serial_stands block q.waiting i no_id b.0.waiting b.0.few (omega (arith, lt, count)) y.waiting in
    id_bytes-injective _ _ s.0 t.0 (sym s.1 ∙ t.1)) in
    let rms = same_items r.rms q.rms [] rms_count (λ i lt.
    let s = name_stands block r.rms i [] a.0.rms a.0.few_rms lt x.rms in
    let t = name_stands block q.rms i [] b.0.rms b.0.few_rms (omega (arith, lt, rms_count)) y.rms in
    same_name_bytes _ _ s.0 t.0 (sym s.1 ∙ t.1)) in
    λ k. record { kind = kind k; tid = tid k; serial = serial k; waiting = waiting k; rms = rms k }

-- zeros are no record's block
pub none_in_zeros : Has None free_block
none_in_zeros r a e = go r.kind (slot_fields r free_block a.0 e).kind
  where
    go : (k : RecordKind) → ◌≡◌ {A = List ℕ} (0 ∷ []) (kind_number k ∷ []) → ⊥
    go PreparedRecord f = absurd (let n = one_item 0 1 f in omega (arith, n))
    go CommittedRecord f = absurd (let n = one_item 0 2 f in omega (arith, n))

-- serials of slots

no_slot_some : (r : LogRecord) → ◌≡◌ {A = Option LogRecord} None (Some r) → ⊥
no_slot_some r e = cc

some_same : (q r : LogRecord) → ◌≡◌ {A = Option LogRecord} (Some q) (Some r) → q ≡ r
some_same q r e = cc

in_slot : (ss : Slots) (i : ℕ) (r : LogRecord) → slot_at ss i ≡ Some r → In r.serial (record_serials (records_in ss))
in_slot [] i r e = absurd (no_slot_some r e)
in_slot (None ∷ ss) zero r e = absurd (no_slot_some r e)
in_slot (Some q ∷ ss) zero r e = inl (ap (λ (x : LogRecord). x.serial) (sym (some_same q r e)))
in_slot (None ∷ ss) (suc i) r e = in_slot ss i r e
in_slot (Some q ∷ ss) (suc i) r e = inr (in_slot ss i r e)

-- no lower slot has the serial of a slot's record
first_of : (ss : Slots) (i : ℕ) (r : LogRecord) → slot_at ss i ≡ Some r → Distinct (record_serials (records_in ss)) → has_slot r.serial (take i ss) ≡ false
first_of [] i r e d = absurd (no_slot_some r e)
first_of (o ∷ ss) zero r e d = refl
first_of (None ∷ ss) (suc i) r e d = first_of ss i r e d
first_of (Some q ∷ ss) (suc i) r e d =
    let n : same_id q.serial r.serial ≡ false = apart_ids q.serial r.serial (λ f. d.0 (let P : Id → Type 0 = λ x. In x (record_serials (records_in ss)) in subst P (sym f) (in_slot ss i r e))) in
    rw n (first_of ss i r e d.1)

-- such a content is read as these slots

pub keeps_reads : (ss : Slots) (c : List (List ℕ)) → Keeps ss c → IsReading ss c
keeps_reads ss c k i lt =
    let P : Option LogRecord → Type 0 = λ o. Has o (block_of_slot c i) in
    record {
      some = λ r is. (let h : Has (Some r) (block_of_slot c i) = subst P is (k.blocks i lt) in (h.0, h.1, first_of ss i r is k.distinct));
      none = λ is r record_is block_is. absurd (let h : Has None (block_of_slot c i) = subst P is (k.blocks i lt) in h r record_is block_is);
    }

same_slot : (ss ts : Slots) (c : List (List ℕ)) (i : ℕ) → i < length ss → i < length ts → Keeps ss c → IsReadAt c ts i → take i ts ≡ take i ss → slot_at ts i ≡ slot_at ss i
same_slot ss ts c i lt lt' k at front = go (slot_at ss i) (slot_at ts i) refl refl
  where
    go : (o p : Option LogRecord) → slot_at ss i ≡ o → slot_at ts i ≡ p → slot_at ts i ≡ slot_at ss i
    go None None e f = f ∙ sym e
    go None (Some q) e f =
        let P : Option LogRecord → Type 0 = λ o. Has o (block_of_slot c i) in
        let h : Has None (block_of_slot c i) = subst P e (k.blocks i lt) in
        let s = at.some q f in absurd (h q s.0 s.1)
    go (Some r) None e f =
        let P : Option LogRecord → Type 0 = λ o. Has o (block_of_slot c i) in
        let h : Has (Some r) (block_of_slot c i) = subst P e (k.blocks i lt) in
        absurd (clash (sym (at.none f r h.0 h.1) ∙ (ap (has_slot r.serial) front ∙ first_of ss i r e k.distinct)))
    go (Some r) (Some q) e f =
        let P : Option LogRecord → Type 0 = λ o. Has o (block_of_slot c i) in
        let h : Has (Some r) (block_of_slot c i) = subst P e (k.blocks i lt) in
        let s = at.some q f in
        f ∙ (ap (λ (x : LogRecord). Some x) (one_record q r (block_of_slot c i) s.0 h.0 s.1 h.1) ∙ sym e)

same_front : (ss ts : Slots) (c : List (List ℕ)) → length ts ≡ length ss → Keeps ss c → IsReading ts c → (n : ℕ) → n ≤ length ss → take n ts ≡ take n ss
same_front ss ts c same k h zero le = refl
same_front ss ts c same k h (suc n) le =
    let front = same_front ss ts c same k h n (omega arith) in
    let lt : n < length ss = omega arith in
    let lt' : n < length ts = omega (arith, same) in
    let one : suc n ≡ n + 1 = omega arith in
    let P : ℕ → Type 0 = λ m. take m ts ≡ take m ss in
    subst P (sym one) (take_more_same ts ss n None lt' lt front (same_slot ss ts c n lt lt' k (h n lt') front))

pub only_these : (ss : Slots) (c : List (List ℕ)) → Keeps ss c → (ts : Slots) → length ts ≡ length ss → IsReading ts c → ts ≡ ss
only_these ss c k ts same h =
    sym (take_all (length ts) ts (omega arith)) ∙ (ap (λ (n : ℕ). take n ts) same ∙ (same_front ss ts c same k h (length ss) (omega arith) ∙ take_all (length ss) ss (omega arith)))

pub keeps_loads : (ss : Slots) (c : List (List ℕ)) → Keeps ss c → Loads c ss
keeps_loads ss c k = record { reads = keeps_reads ss c k; only = only_these ss c k }

-- what is read is kept where no two slots have one serial
pub read_keeps : (ss : Slots) (c : List (List ℕ)) → IsReading ss c → Distinct (record_serials (records_in ss)) → AreApart (length ss) c → Keeps ss c
read_keeps ss c h d apart = record { blocks = λ i lt. go i lt (slot_at ss i) refl; distinct = d }
  where
    none : (i : ℕ) → i < length ss → slot_at ss i ≡ None → Has None (block_of_slot c i)
    none i lt e r a f =
        let m = slot_below r.serial ss i ((h i lt).none e r a f) in
        other m.0 m.1 m.2 (slot_at ss m.0) refl m.3
      where
        other : (k : ℕ) → k < i → k < length ss → (o : Option LogRecord) → slot_at ss k ≡ o → is_of r.serial (slot_at ss k) ≡ true → ⊥
        other k below within None g of = clash (sym of ∙ ap (is_of r.serial) g)
        other k below within (Some q) g of =
            let s = (h k within).some q g in
            let e' : q.serial ≡ r.serial = same_ids q.serial r.serial (sym (ap (is_of r.serial) g) ∙ of) in
            let n = apart k i q r within lt s.0 s.1 a f e' in
            absurd (omega (arith, n, below))

    go : (i : ℕ) → i < length ss → (o : Option LogRecord) → slot_at ss i ≡ o → Has (slot_at ss i) (block_of_slot c i)
    go i lt o e = (let P : Option LogRecord → Type 0 = λ x. Has x (block_of_slot c i) in subst P (sym e) (here o e))
      where
        here : (o : Option LogRecord) → slot_at ss i ≡ o → Has o (block_of_slot c i)
        here None e = none i lt e
        here (Some q) e = (let s = (h i lt).some q e in (s.0, s.1))

-- one slot's block is staged
pub keeps_set : (ss : Slots) (c : List (List ℕ)) (p : ℕ) (o : Option LogRecord) → Keeps ss c → p < length ss → 66 + length ss ≤ length c → Has o (block_of o) → Distinct (record_serials (records_in (set ss p o))) → Keeps (set ss p o) (set c (66 + p) (block_of o))
keeps_set ss c p o k lt fits has d = record {
  blocks = λ i below. (
      let n = length-set ss p o in
      elim (cases_eq i p) [
        | inl e ↦
            let P : ℕ → Type 0 = λ m. Has (slot_at (set ss p o) m) (block_of_slot (set c (66 + p) (block_of o)) m) in
            let Q : Option LogRecord → Type 0 = λ x. Has x (block_of_slot (set c (66 + p) (block_of o)) p) in
            let R : List ℕ → Type 0 = λ b. Has o b in
            subst P (sym e) (subst Q (sym (get_or-set_same ss p o None lt)) (subst R (sym (get_or-set_same c (66 + p) (block_of o) [] (omega (arith, fits, lt)))) has))
        | inr e ↦
            let Q : Option LogRecord → Type 0 = λ x. Has x (block_of_slot (set c (66 + p) (block_of o)) i) in
            let R : List ℕ → Type 0 = λ b. Has (slot_at ss i) b in
            subst Q (sym (get_or-set_other ss p i o None e)) (subst R (sym (get_or-set_other c (66 + p) (66 + i) (block_of o) [] (λ f. e (omega (arith, f))))) (k.blocks i (omega (arith, n, below))))
      ]
      );
  distinct = d;
}

pub told_keeps : (told : Option (List (List ℕ))) (new : Option (List (List ℕ))) (ss ts : Slots) (size p : ℕ) (o : Option LogRecord) → new ≡ option_map (λ c. set c (66 + p) (block_of o)) told → ts ≡ set ss p o → p < length ss → 584 + length ss ≤ size
    → IfSome new (λ blocks. length blocks + 518 ≡ size) → Has o (block_of o) → (Distinct (record_serials (records_in ss)) → Distinct (record_serials (records_in (set ss p o)))) → IfSome told (Keeps ss) → IfSome new (Keeps ts)
told_keeps None new ss ts size p o is e lt fits whole has d k = let P : Option (List (List ℕ)) → Type 0 = λ x. IfSome x (Keeps ts) in subst P (sym is) tt
told_keeps (Some c) new ss ts size p o is e lt fits whole has d k =
    let P : Option (List (List ℕ)) → Type 0 = λ x. IfSome x (Keeps ts) in
    let W : Option (List (List ℕ)) → Type 0 = λ x. IfSome x (λ blocks. length blocks + 518 ≡ size) in
    let K : Slots → Type 0 = λ x. Keeps x (set c (66 + p) (block_of o)) in
    let n : length (set c (66 + p) (block_of o)) + 518 ≡ size = subst W is whole in
    let m = length-set c (66 + p) (block_of o) in
    subst P (sym is) (subst K (sym e) (keeps_set ss c p o k lt (omega (arith, n, m, fits)) has (d k.distinct)))

-- other blocks do not count
pub keeps_beside : (ss : Slots) (c d : List (List ℕ)) → Keeps ss c → SameSlots (length ss) c d → Keeps ss d
keeps_beside ss c d k same = record { blocks = λ i lt. (let P : List ℕ → Type 0 = λ b. Has (slot_at ss i) b in subst P (sym (same i lt)) (k.blocks i lt)); distinct = k.distinct }

-- zeros keep free slots

pub free_at : (n i : ℕ) → slot_at (replicate n None) i ≡ None
free_at zero i = refl
free_at (suc n) zero = refl
free_at (suc n) (suc i) = free_at n i

no_records : (n : ℕ) → records_in (replicate n None) ≡ []
no_records zero = refl
no_records (suc n) = no_records n

pub zeros_keep : (n : ℕ) (c : List (List ℕ)) → ((i : ℕ) → i < n → block_of_slot c i ≡ free_block) → Keeps (replicate n None) c
zeros_keep n c zeros = record {
  blocks = λ i lt. (
      let P : Option LogRecord → Type 0 = λ x. Has x (block_of_slot c i) in
      let R : List ℕ → Type 0 = λ b. Has None b in
      let l : length (replicate {A = Option LogRecord} n None) ≡ n = length-replicate {A = Option LogRecord} n None in
      subst P (sym (free_at n i)) (subst R (sym (zeros i (omega (arith, l, lt)))) none_in_zeros)
      );
  distinct = (let D : List LogRecord → Type 0 = λ rs. Distinct (record_serials rs) in subst D (sym (no_records n)) tt);
}

pub empty_keeps : (home : Home) (c : List (List ℕ)) → IsEmptyVolume home c → Keeps (replicate home.slots None) c
empty_keeps home c h = zeros_keep home.slots c (λ i lt. h.zeros (66 + i) (omega arith) (omega (arith, lt)))

-- each image after a group, or after a part of one

told_is : (P : List (List ℕ) → Type 0) (told : Option (List (List ℕ))) (c : List (List ℕ)) → IfSome told P → Some c ≡ told → P c
told_is P told c h e = (let Q : Option (List (List ℕ)) → Type 0 = λ x. IfSome x P in subst Q (sym e) h)

pub applied_keeps : (ss : Slots) (old new : StoreState) → IfSome old.current (Keeps ss) → content new ≡ old.current → IsReady new → Leaves (Keeps ss) new.disk
applied_keeps ss old new k e ready image may =
    let l = stop_closed new.disk ready.settled ready.closed image may in
    (l.0, told_is (Keeps ss) old.current (content_of image) k (l.1 ∙ e))

pub cut_keeps : (before after : Slots) (old new : StoreState) → IfSome (content old) (Keeps before) → IfSome old.current (Keeps after) → Leaves (IsEither (content old) old.current) new.disk → Leaves (λ c. Keeps before c ⊎ Keeps after c) new.disk
cut_keeps before after old new k m l image may =
    let p = l image may in (
      p.0,
      elim p.1 [
        | inl e ↦ inl (told_is (Keeps before) (content old) (content_of image) k e)
        | inr e ↦ inr (told_is (Keeps after) old.current (content_of image) m e)
      ],
    )

-- what a load of a told content gives
pub told_kept : (told : Option (List (List ℕ))) (ss : Slots) (n : ℕ) → length ss ≡ n → IfSome told (IsReading ss) → Distinct (record_serials (records_in ss)) → IfSome told (λ c. AreApart n c → Keeps ss c)
told_kept None ss n same h d = tt
told_kept (Some c) ss n same h d = λ apart. (let P : ℕ → Type 0 = λ m. AreApart m c in read_keeps ss c h d (subst P (sym same) apart))

pub told_again : (told : Option (List (List ℕ))) (ts ss : Slots) → length ts ≡ length ss → IfSome told (IsReading ts) → IfSome told (λ c. Keeps ss c → ts ≡ ss)
told_again None ts ss same h = tt
told_again (Some c) ts ss same h = λ k. only_these ss c k ts same h
