-- Each accepted serial took an identifier of its own, so that there are never more of them than identifiers.
use Rattle.std.proofs.Common.{◌≡◌, ◌+◌, ◌≤◌, ◌||◌, true, false, List, [], ◌∷◌, ◌++◌, length, refl, ap, sym, subst, ◌∙◌, arith, suc, inl, inr, length-append}
use Rattle.std.specs.List.{list_any}
use Rattle.std.proofs.lemmas.Bool.{cases_Bool}
use Rattle.std.proofs.lemmas.List.Folds.{list_any-append}
use Rattle.vms_model.specs.Ids.{Id}
use Rattle.commit_protocol.specs.Messages.{Kind, same_id}
use Rattle.commit_protocol.specs.Table.{Branch, Child}
use Rattle.commit_protocol.specs.Rows.{has_bid, note_vote, lacks_vote}
use Rattle.commit_protocol.proofs.Lists.{told_id, same_id-refl}
use Rattle.tm_table.specs.Kept.{untaken, Fits}

untaken_push : (xs : List Id) (x : Id) (cs : List Child) → untaken (xs ++ x ∷ []) cs ≤ untaken xs cs + 1
untaken_push [] x cs = elim (cases_Bool (has_bid x cs)) [
  | inl h ↦ let e : untaken (x ∷ []) cs ≡ 0 = rw h refl in omega arith
  | inr h ↦ let e : untaken (x ∷ []) cs ≡ 1 = rw h refl in omega arith
]
untaken_push (y ∷ ys) x cs =
    let r = untaken_push ys x cs in
    elim (cases_Bool (has_bid y cs)) [
      | inl h ↦ let e : untaken (y ∷ (ys ++ x ∷ [])) cs ≡ untaken (ys ++ x ∷ []) cs = rw h refl in let f : untaken (y ∷ ys) cs ≡ untaken ys cs = rw h refl in omega arith
      | inr h ↦ let e : untaken (y ∷ (ys ++ x ∷ [])) cs ≡ 1 + untaken (ys ++ x ∷ []) cs = rw h refl in let f : untaken (y ∷ ys) cs ≡ 1 + untaken ys cs = rw h refl in omega arith
    ]

pub fits_push : (b : Branch) (x : Id) → Fits b → Fits (record b { bids = b.bids ++ x ∷ [] })
fits_push b x f = let e = untaken_push b.bids x b.accepted in let n = length-append b.bids (x ∷ []) in omega arith

has_bid_vote : (x s : Id) (v : Kind) (cs : List Child) → has_bid x (note_vote s v cs) ≡ has_bid x cs
has_bid_vote x s v [] = refl
has_bid_vote x s v (c ∷ cs) =
    elim (cases_Bool (lacks_vote s c)) [ inl h ↦ rw h refl | inr h ↦ rw h (ap (λ b. same_id c.bid x || b) (has_bid_vote x s v cs)) ]

untaken_vote : (xs : List Id) (s : Id) (v : Kind) (cs : List Child) → untaken xs (note_vote s v cs) ≡ untaken xs cs
untaken_vote [] s v cs = refl
untaken_vote (x ∷ xs) s v cs =
    let e = has_bid_vote x s v cs in
    let r = untaken_vote xs s v cs in
    elim (cases_Bool (has_bid x cs)) [
      | inl h ↦ let g : has_bid x (note_vote s v cs) ≡ true = e ∙ h in rw (g, h) r
      | inr h ↦ let g : has_bid x (note_vote s v cs) ≡ false = e ∙ h in rw (g, h) (ap (λ n. 1 + n) r)
    ]

length_vote : (s : Id) (v : Kind) (cs : List Child) → length (note_vote s v cs) ≡ length cs
length_vote s v [] = refl
length_vote s v (c ∷ cs) = elim (cases_Bool (lacks_vote s c)) [ inl h ↦ rw h refl | inr h ↦ rw h (ap (λ n. suc n) (length_vote s v cs)) ]

pub fits_vote : (b : Branch) (s : Id) (v : Kind) → Fits b → Fits (record b { accepted = note_vote s v b.accepted })
fits_vote b s v f = let e = untaken_vote b.bids s v b.accepted in let n = length_vote s v b.accepted in omega arith

has_bid_push : (x : Id) (cs : List Child) (c : Child) → has_bid x (cs ++ c ∷ []) ≡ (has_bid x cs || (same_id c.bid x || false))
has_bid_push x cs c = list_any-append (λ d. same_id d.bid x) cs (c ∷ [])

untaken_weak : (xs : List Id) (cs : List Child) (c : Child) → untaken xs (cs ++ c ∷ []) ≤ untaken xs cs
untaken_weak [] cs c = omega arith
untaken_weak (x ∷ xs) cs c =
    let r = untaken_weak xs cs c in
    elim (cases_Bool (has_bid x cs)) [
      | inl h ↦ let g : has_bid x (cs ++ c ∷ []) ≡ true = has_bid_push x cs c ∙ rw h refl in
          let e : untaken (x ∷ xs) (cs ++ c ∷ []) ≡ untaken xs (cs ++ c ∷ []) = rw g refl in let f : untaken (x ∷ xs) cs ≡ untaken xs cs = rw h refl in omega arith
      | inr h ↦ let f : untaken (x ∷ xs) cs ≡ 1 + untaken xs cs = rw h refl in
          elim (cases_Bool (has_bid x (cs ++ c ∷ []))) [
            | inl g ↦ let e : untaken (x ∷ xs) (cs ++ c ∷ []) ≡ untaken xs (cs ++ c ∷ []) = rw g refl in omega arith
            | inr g ↦ let e : untaken (x ∷ xs) (cs ++ c ∷ []) ≡ 1 + untaken xs (cs ++ c ∷ []) = rw g refl in omega arith
          ]
    ]

pub untaken_less : (xs : List Id) (cs : List Child) (c : Child) → list_any (λ x. same_id x c.bid) xs ≡ true → has_bid c.bid cs ≡ false → untaken xs (cs ++ c ∷ []) + 1 ≤ untaken xs cs
untaken_less [] cs c h n = absurd (let q : false ≡ true = h in cc)
untaken_less (x ∷ xs) cs c h n =
    elim (told_id x c.bid) [
      | inl t ↦
          let none : has_bid x cs ≡ false = (let P : Id → Type 0 = λ y. has_bid y cs ≡ false in subst P (sym t.1) n) in
          let same : same_id c.bid x ≡ true = (let P : Id → Type 0 = λ y. same_id c.bid y ≡ true in subst P (sym t.1) (same_id-refl c.bid)) in
          let g : has_bid x (cs ++ c ∷ []) ≡ true = has_bid_push x cs c ∙ rw (none, same) refl in
          let e : untaken (x ∷ xs) (cs ++ c ∷ []) ≡ untaken xs (cs ++ c ∷ []) = rw g refl in
          let f : untaken (x ∷ xs) cs ≡ 1 + untaken xs cs = rw none refl in
          let r = untaken_weak xs cs c in omega arith
      | inr t ↦
          let q : list_any (λ y. same_id y c.bid) xs ≡ true = rw (t.0) at h in
          let r = untaken_less xs cs c q n in
          elim (cases_Bool (has_bid x cs)) [
            | inl k ↦ let g : has_bid x (cs ++ c ∷ []) ≡ true = has_bid_push x cs c ∙ rw k refl in
                let e : untaken (x ∷ xs) (cs ++ c ∷ []) ≡ untaken xs (cs ++ c ∷ []) = rw g refl in let f : untaken (x ∷ xs) cs ≡ untaken xs cs = rw k refl in omega arith
            | inr k ↦ let f : untaken (x ∷ xs) cs ≡ 1 + untaken xs cs = rw k refl in
                elim (cases_Bool (has_bid x (cs ++ c ∷ []))) [
                  | inl g ↦ let e : untaken (x ∷ xs) (cs ++ c ∷ []) ≡ untaken xs (cs ++ c ∷ []) = rw g refl in omega arith
                  | inr g ↦ let e : untaken (x ∷ xs) (cs ++ c ∷ []) ≡ 1 + untaken xs (cs ++ c ∷ []) = rw g refl in omega arith
                ]
          ]
    ]

pub fits_accept : (b : Branch) (c : Child) → Fits b → list_any (λ x. same_id x c.bid) b.bids ≡ true → has_bid c.bid b.accepted ≡ false → Fits (record b { accepted = b.accepted ++ c ∷ [] })
fits_accept b c f h n = let e = untaken_less b.bids b.accepted c h n in let l = length-append b.accepted (c ∷ []) in omega arith

pub room_to_accept : (b : Branch) (c : Child) → Fits b → list_any (λ x. same_id x c.bid) b.bids ≡ true → has_bid c.bid b.accepted ≡ false → length b.accepted + 1 ≤ length b.bids
room_to_accept b c f h n = let e = untaken_less b.bids b.accepted c h n in omega arith
