-- An indexed file as a map: the first key behind one, and what a set leaves.
use Rattle.std.proofs.Common.{◌≡◌, ⊎_elim, ℕ, ◌≤◌, ◌+◌, ◌&&◌, Bool, true, false, List, [], ◌∷◌, length, drop, Option, Some, None, IfSome, is_some, option_map, max, refl, sym, ap, subst, ◌∙◌, arith}
use Rattle.std.proofs.lemmas.Bool.{cases_Bool}
use Rattle.std.proofs.lemmas.List.{length-take, length-drop}
use Rattle.file_base.specs.declared.head.FileHead.{FileHead}
use Rattle.vms_base.specs.vms_model.Keys.{Text}
use Rattle.bucket_page.proofs.PageLaws.{both_true}
use Rattle.change_set.specs.Maps.{is_after}
use Rattle.change_set.specs.records_model.Slots.{Slot, same_bytes, bytes_before, slot_at, value_in, room_in, lookup, room_of, size_of, with_new, put, IsOrdered}
use Rattle.change_set.specs.records_model.Parts.{bytes_of}
use Rattle.indexed_file.specs.Behind.{is_behind, first_behind, IsFound}
use Rattle.indexed_file.specs.Chain.{SuitsText}
use Rattle.change_set.proofs.records_model.SlotLaws.{same_bytes_are, same_self, if_true, if_false, put_cases, behind_absent, behind_trans}

-- the first slot behind a key

pub record First (after : Option (List ℕ)) (slots : List Slot) (k bytes : List ℕ) : Type 0 where
  pub has : lookup slots k ≡ Some bytes
  pub behind : is_behind after k ≡ true
  pub least : (q : List ℕ) → is_behind after q ≡ true → bytes_before q k ≡ true → lookup slots q ≡ None

absent_value : (t : Bool) (o : Option (List ℕ)) → (t && is_some o) ≡ false → t ≡ true → o ≡ None
absent_value true None h yes_it = refl
absent_value true (Some b) h yes_it = cc
absent_value false o h yes_it = cc

not_none : (o : Option (List ℕ)) (bytes : List ℕ) → o ≡ None → o ≡ Some bytes → ⊥
not_none o bytes none some = cc

pub first_is : (after : Option (List ℕ)) (slots : List Slot) (k bytes : List ℕ) → IsOrdered slots → IsFound (first_behind after slots) k bytes → First after slots k bytes
first_is after [] k bytes ordered found = let wrong = found.is in cc
first_is after (s ∷ ss) k bytes ordered found = ⊎_elim
    (λ here. let both = both_true (is_behind after s.key) (is_some s.value) here in
    let this : Some s ≡ Some found.slot = sym (if_true (is_behind after s.key && is_some s.value) (Some s) (first_behind after ss) here) ∙ found.is in
    let slot : s ≡ found.slot = cc in
    let key : s.key ≡ k = ap (λ (x : Slot). x.key) slot ∙ found.key in
    let value : s.value ≡ Some bytes = ap (λ (x : Slot). x.value) slot ∙ found.value in
    let P : List ℕ → Type 0 = λ x. First after (s ∷ ss) x bytes in
    subst P key (record {
      has = ap value_in (if_true (same_bytes s.key s.key) (Some s) (slot_at s.key ss) (same_self s.key)) ∙ value;
      behind = both.0;
      least = λ q after_q before. ap value_in (behind_absent q (s ∷ ss) (before, behind_trans q s.key ss before ordered.0));
    }))
    (λ over. let rest : first_behind after (s ∷ ss) ≡ first_behind after ss = if_false (is_behind after s.key && is_some s.value) (Some s) (first_behind after ss) over in
    let later = first_is after ss k bytes ordered.1 (record { slot = found.slot; is = sym rest ∙ found.is; key = found.key; value = found.value }) in
    record {
      has = ⊎_elim
          (λ same. absurd (not_none (lookup ss k) bytes (ap (lookup ss) (same_bytes_are k s.key same) ∙ ap value_in (behind_absent s.key ss ordered.0)) later.has))
          (λ other. ap value_in (if_false (same_bytes k s.key) (Some s) (slot_at k ss) other) ∙ later.has)
          (cases_Bool (same_bytes k s.key));
      behind = later.behind;
      least = λ q after_q before. passed s ss q over after_q (later.least q after_q before);
    })
    (cases_Bool (is_behind after s.key && is_some s.value))
  where
    passed : (s : Slot) (ss : List Slot) (q : List ℕ) → (is_behind after s.key && is_some s.value) ≡ false → is_behind after q ≡ true → lookup ss q ≡ None → lookup (s ∷ ss) q ≡ None
    passed s ss q over after_q none = ⊎_elim
        (λ same. ap value_in (if_true (same_bytes q s.key) (Some s) (slot_at q ss) same)
        ∙ absent_value (is_behind after s.key) s.value over (ap (is_behind after) (sym (same_bytes_are q s.key same)) ∙ after_q))
        (λ other. ap value_in (if_false (same_bytes q s.key) (Some s) (slot_at q ss) other) ∙ none)
        (cases_Bool (same_bytes q s.key))

pub none_behind : (after : Option (List ℕ)) (slots : List Slot) → first_behind after slots ≡ None → (q : List ℕ) → is_behind after q ≡ true → lookup slots q ≡ None
none_behind after [] none q after_q = refl
none_behind after (s ∷ ss) none q after_q = ⊎_elim
    (λ here. let wrong : Some s ≡ None = sym (if_true (is_behind after s.key && is_some s.value) (Some s) (first_behind after ss) here) ∙ none in cc)
    (λ over. let later = none_behind after ss (sym (if_false (is_behind after s.key && is_some s.value) (Some s) (first_behind after ss) over) ∙ none) q after_q in
    ⊎_elim
    (λ same. ap value_in (if_true (same_bytes q s.key) (Some s) (slot_at q ss) same)
    ∙ absent_value (is_behind after s.key) s.value over (ap (is_behind after) (sym (same_bytes_are q s.key same)) ∙ after_q))
    (λ other. ap value_in (if_false (same_bytes q s.key) (Some s) (slot_at q ss) other) ∙ later)
    (cases_Bool (same_bytes q s.key)))
    (cases_Bool (is_behind after s.key && is_some s.value))

pub after_text : (after : Option (List ℕ)) (q : List ℕ) → is_after (option_map Text after) (Text q) ≡ is_behind after q
after_text None q = refl
after_text (Some a) q = refl

new_small : (k : List ℕ) (v : Option (List ℕ)) (slots : List Slot) → IfSome v (λ r. 1 ≤ length r) → size_of v ≤ 0 → bytes_of (with_new k v slots) ≡ bytes_of slots
new_small k None slots some small = refl
new_small k (Some r) slots some small = absurd (omega arith)

-- a value that its slot has room for takes no more bytes
pub put_small : (k : List ℕ) (v : Option (List ℕ)) (slots : List Slot) → IfSome v (λ r. 1 ≤ length r) → IsOrdered slots → size_of v ≤ room_of slots k → bytes_of (put k v slots) ≡ bytes_of slots
put_small k v [] some ordered small = new_small k v [] some small
put_small k v (s ∷ ss) some ordered small =
    put_cases (λ l. bytes_of l ≡ bytes_of (s ∷ ss)) (same_bytes k s.key) (bytes_before k s.key) _ _ _
    (λ same. let room = ap room_in (if_true (same_bytes k s.key) (Some s) (slot_at k ss) same) in
    let most : max s.room (size_of v) ≡ s.room = omega (arith, small, room) in ap (λ n. 4 + n + bytes_of ss) most)
    (λ other less. let none = ap room_in (behind_absent k (s ∷ ss) (less, behind_trans k s.key ss less ordered.0)) in new_small k v (s ∷ ss) some (omega (arith, small, none)))
    (λ other more. let room = ap room_in (if_false (same_bytes k s.key) (Some s) (slot_at k ss) other) in
    ap (λ n. 4 + s.room + n) (put_small k v ss some ordered.1 (omega (arith, small, room))))

pub value_some : (h : FileHead) (k : List ℕ) (v : Option (List ℕ)) → 1 ≤ h.key_size → SuitsText h k v → IfSome v (λ r. 1 ≤ length r)
value_some h k None one suits = tt
value_some h k (Some r) one suits = omega (arith, ap length suits.has, suits.size, length-take h.key_size (drop h.key_pos r), length-drop h.key_pos r)
