-- A group, part by part: what each stop leaves, and what stands after each barrier.
use Rattle.std.proofs.Common.{◌≡◌, inl, inr, ℕ, ◌<◌, ◌≤◌, ◌==◌, Bool, true, false, List, [], length, get_or, set, Option, Some, None, option_map, IfSome, MatchOption, IsSomeAnd, refl, sym, ◌∙◌, ap, subst, arith, length-set}
use Rattle.std.proofs.lemmas.Bool.Decides.{nat_tests}
use Rattle.block_disk.specs.Blocks.{has_number, numbers_of, laid_from, laid_over, length-laid_from}
use Rattle.block_disk.specs.Disk.{DiskState, MayLeave}
use Rattle.careful_write.specs.Content.{home, laid_home, index_word, intents, fits, gate_open, content_of}
use Rattle.careful_write.specs.Load.{fitting}
use Rattle.careful_write.specs.State.{Leaves, LeavesAsItWas, IsEither}
use Rattle.careful_write.specs.Steps.{AgreesOff, Touches}
use Rattle.careful_write.specs.Parts.{in_intents, in_gate, in_group, StandsAt, Stands}
use Rattle.careful_write.proofs.Images.{closed_fits, open_fits, closed_content, open_content, gate_agrees, home_agrees, intents_agree, length-intents_from, laid_agrees, laid_twice, home-laid, laid_is_off, set_is_off, home-set, gate-set}
use Rattle.careful_write.proofs.Intents.{intents_low}
use Rattle.careful_write.proofs.Touched.{images_touched, leaves_touched, touches_nothing, touches_same}
use Rattle.std.proofs.lemmas.List.{ext_get_or}

abbrev Entry : Type 0
Entry = ℕ × List ℕ

abbrev Told : Type 0
Told = Option (List (List ℕ))

-- the content before the group or after it
abbrev pub Either : Told → List Entry → List (List ℕ) → Type 0
Either before es = IsEither (option_map home before) (laid_home es before)

-- the content after the group
abbrev pub IsAfter : Told → List Entry → List (List ℕ) → Type 0
IsAfter before es c = Some c ≡ laid_home es before

is_exactly : (told : Told) (es : List Entry) (b : List (List ℕ)) → told ≡ Some b → IsAfter told es (laid_from 518 es (home b))
is_exactly told es b is = sym (ap (laid_home es) is)

is_before : (told : Told) (es : List Entry) (b : List (List ℕ)) → told ≡ Some b → Either told es (home b)
is_before told es b is = inl (sym (ap (option_map home) is))

is_after : (told : Told) (es : List Entry) (b : List (List ℕ)) → told ≡ Some b → Either told es (laid_from 518 es (home b))
is_after told es b is = inr (sym (ap (laid_home es) is))

few_fit : (size : ℕ) (es : List Entry) → fits size es ≡ true → length es ≤ 512
few_fit size es fit = grind (arith, nat_tests)

few_words : (b : List (List ℕ)) (es : List Entry) (size : ℕ) → intents b ≡ es → fits size es ≡ true → index_word b 0 ≤ 512
few_words b es size are fit = let few = few_fit size es fit in omega (arith, few, ap length are, length-intents_from b 0 (index_word b 0))

same_some : (x y : List (List ℕ)) → ◌≡◌ {A = Told} (Some x) (Some y) → x ≡ y
same_some x y h = cc

off_gate : (n : ℕ) → 1 ≤ n → in_gate n ≡ false
off_gate n low = grind (arith, nat_tests)

off_intents_gate : (count : ℕ) → in_intents count 0 ≡ false
off_intents_gate count = grind (arith, nat_tests)

module _ (es : List Entry) (low : (n : ℕ) → has_number n (numbers_of es) ≡ true → 518 ≤ n) where
  off_group : (n : ℕ) → n ≤ 517 → in_group es n ≡ false
  off_group n small = cases (has_number n (numbers_of es)) refl
    where
      cases : (b : Bool) → has_number n (numbers_of es) ≡ b → has_number n (numbers_of es) ≡ false
      cases false is = is
      cases true is = let high = low n is in absurd (omega (arith, high, small))

module _ (s0 : DiskState) (es : List Entry) where
  -- a stop in the first part leaves the content before
  pub stop_intents : (s : DiskState) → length es ≤ 512 → s0.pending ≡ [] → IfSome s0.seen (λ b. gate_open b ≡ false) → Touches (in_intents (length es)) s0 s → Leaves (Either s0.seen es) s
  stop_intents s few settled closed touched = leaves_touched (in_intents (length es)) s0 s (Either s0.seen es) touched settled (λ b image is agrees.
      let shut : gate_open image ≡ false = gate_agrees (in_intents (length es)) b image agrees (off_intents_gate (length es)) ∙ closed_at b is in
      let same : content_of image ≡ home b = closed_content image shut ∙ home_agrees (in_intents (length es)) b image agrees (λ n high. intents_low (length es) n few high) in
      (closed_fits image shut, subst (Either s0.seen es) (sym same) (is_before s0.seen es b is)))
    where
      closed_at : (b : List (List ℕ)) → s0.seen ≡ Some b → gate_open b ≡ false
      closed_at b is = subst (λ (o : Told). IfSome o (λ c. gate_open c ≡ false)) is closed

  -- a stop at the gate leaves what stands, or the group laid over it
  pub stop_gate : (P : List (List ℕ) → Type 0) (s new : DiskState) (H : List (List ℕ) → List (List ℕ)) (g : Bool) → Stands s0 es s H g → s.pending ≡ [] → Touches in_gate s new
      → ((b : List (List ℕ)) → s0.seen ≡ Some b → P (H (home b)) × P (laid_from 518 es (H (home b)))) → Leaves P new
  stop_gate P s new H g stands settled touched either = leaves_touched in_gate s new P touched settled (λ b image is agrees.
      let at = stands.each b is in
      let same_home : home image ≡ H (home at.old) = home_agrees in_gate b image agrees (λ n high. off_gate n (omega (arith, high))) ∙ at.home_is in
      cases image at same_home
      (intents_agree in_gate b image agrees (λ n one few. off_gate n one) (few_words b es (length b) at.intents_are at.fit) ∙ at.intents_are)
      (ap (λ n. fits n es) agrees.size ∙ at.fit) (gate_open image) refl)
    where
      cases : (image : List (List ℕ)) {b : List (List ℕ)} (at : StandsAt s0.seen es H g b) → home image ≡ H (home at.old) → intents image ≡ es → fits (length image) es ≡ true → (o : Bool) → gate_open image ≡ o → (fitting image ≡ true) × P (content_of image)
      cases image at same_home are fit false shut = (closed_fits image shut, subst P (sym (closed_content image shut ∙ same_home)) (either at.old at.was).0)
      cases image at same_home are fit true opened =
          (open_fits image es are fit, subst P (sym (open_content image es opened are fit ∙ ap (laid_from 518 es) same_home)) (either at.old at.was).1)

  -- a stop while the blocks are written leaves the content after
  pub stop_group : (s new : DiskState) → Stands s0 es s (λ h. h) true → s.pending ≡ [] → ((n : ℕ) → has_number n (numbers_of es) ≡ true → 518 ≤ n) → Touches (in_group es) s new → Leaves (IsAfter s0.seen es) new
  stop_group s new stands settled low touched = leaves_touched (in_group es) s new (IsAfter s0.seen es) touched settled (λ b image is agrees.
      let at = stands.each b is in
      let opened : gate_open image ≡ true = gate_agrees (in_group es) b image agrees (off_group es low 0 (omega arith)) ∙ at.gate_is in
      let are : intents image ≡ es = intents_agree (in_group es) b image agrees (λ n one few. off_group es low n few) (few_words b es (length b) at.intents_are at.fit) ∙ at.intents_are in
      let fit : fits (length image) es ≡ true = ap (λ n. fits n es) agrees.size ∙ at.fit in
      let same : content_of image ≡ laid_from 518 es (home at.old) = open_content image es opened are fit ∙ laid_agrees es b image agrees ∙ ap (laid_from 518 es) at.home_is in
      (open_fits image es are fit, subst (IsAfter s0.seen es) (sym same) (is_exactly s0.seen es at.old at.was)))

  -- after the first part
  pub stands_intents : (s : DiskState) (size : ℕ) → IfSome s0.seen (λ b. gate_open b ≡ false) → Touches (in_intents (length es)) s0 s → IfSome s.seen (λ b. intents b ≡ es) → IfSome s.seen (λ b. length b ≡ size) → fits size es ≡ true → Stands s0 es s (λ h. h) false
  stands_intents s size closed touched are long fit = record {
    untold = λ none. untold s0.seen s.seen refl none touched.seen;
    each = λ b is. at s0.seen refl b (subst (λ (o : Told). MatchOption s0.seen (o ≡ None) (λ c. IsSomeAnd o (AgreesOff (in_intents (length es)) c))) is touched.seen)
        (subst (λ (o : Told). IfSome o (λ c. intents c ≡ es)) is are) (subst (λ (o : Told). IfSome o (λ c. length c ≡ size)) is long);
  }
    where
      untold : (o0 o : Told) → s0.seen ≡ o0 → o ≡ None → MatchOption o0 (o ≡ None) (λ c. IsSomeAnd o (AgreesOff (in_intents (length es)) c)) → s0.seen ≡ None
      untold None o is none h = is
      untold (Some b) None is none h = absurd h
      untold (Some b) (Some c) is none h = absurd (cc)

      at : (o0 : Told) → s0.seen ≡ o0 → (b : List (List ℕ)) → MatchOption o0 (◌≡◌ {A = Told} (Some b) None) (λ c. AgreesOff (in_intents (length es)) c b) → intents b ≡ es → length b ≡ size → StandsAt s0.seen es (λ h. h) false b
      at None is b h are_b long_b = absurd (cc)
      at (Some c) is b h are_b long_b = record {
        old = c;
        was = is;
        home_is = home_agrees (in_intents (length es)) c b h (λ n high. intents_low (length es) n (few_fit size es fit) high);
        intents_are = are_b;
        gate_is = gate_agrees (in_intents (length es)) c b h (off_intents_gate (length es)) ∙ subst (λ (o : Told). IfSome o (λ d. gate_open d ≡ false)) is closed;
        fit = ap (λ n. fits n es) long_b ∙ fit;
      }

  -- after the gate's block is written
  pub stands_gate : (s new : DiskState) (H : List (List ℕ) → List (List ℕ)) (g g' : Bool) (gate : List ℕ) (size : ℕ) → Stands s0 es s H g → new.seen ≡ option_map (λ bs. set bs 0 gate) s.seen → (get_or gate 0 0 == 1) ≡ g' → IfSome s.seen (λ b. length b ≡ size) → 0 < size → Stands s0 es new H g'
  stands_gate s new H g g' gate size stands is byte long some = from s.seen refl
    where
      from : (o : Told) → s.seen ≡ o → Stands s0 es new H g'
      from None none = record {
        untold = λ _. stands.untold none;
        each = λ b there. let clash : ◌≡◌ {A = Told} None (Some b) = sym (is ∙ ap (option_map (λ bs. set bs 0 gate)) none) ∙ there in absurd (cc);
      }
      from (Some c) told =
          let now : new.seen ≡ Some (set c 0 gate) = is ∙ ap (option_map (λ bs. set bs 0 gate)) told in
          let at = stands.each c told in
          let within : 0 < length c = let l : length c ≡ size = subst (λ (o : Told). IfSome o (λ d. length d ≡ size)) told long in omega (arith, l, some) in
          let stands_c : StandsAt s0.seen es H g' (set c 0 gate) = record {
            old = at.old;
            was = at.was;
            home_is = home-set c gate ∙ at.home_is;
            intents_are = intents_agree in_gate c (set c 0 gate) (set_is_off c gate) (λ n one few. off_gate n one) (few_words c es (length c) at.intents_are at.fit) ∙ at.intents_are;
            gate_is = gate-set c gate within ∙ byte;
            fit = ap (λ n. fits n es) (length-set c 0 gate) ∙ at.fit;
          } in
          record {
            untold = λ none. let clash : ◌≡◌ {A = Told} (Some (set c 0 gate)) None = sym now ∙ none in absurd (cc);
            each = λ b there. let same : ◌≡◌ {A = Told} (Some (set c 0 gate)) (Some b) = sym now ∙ there in subst (StandsAt s0.seen es H g') (same_some _ _ same) stands_c;
          }

  -- after the blocks are written
  pub stands_group : (s new : DiskState) → Stands s0 es s (λ h. h) true → new.seen ≡ laid_over es s.seen → ((n : ℕ) → has_number n (numbers_of es) ≡ true → 518 ≤ n) → Stands s0 es new (laid_from 518 es) true
  stands_group s new stands is low = from s.seen refl
    where
      from : (o : Told) → s.seen ≡ o → Stands s0 es new (laid_from 518 es) true
      from None none = record {
        untold = λ _. stands.untold none;
        each = λ b there. let clash : ◌≡◌ {A = Told} None (Some b) = sym (is ∙ ap (laid_over es) none) ∙ there in absurd (cc);
      }
      from (Some c) told =
          let now : new.seen ≡ Some (laid_from 0 es c) = is ∙ ap (laid_over es) told in
          let at = stands.each c told in
          let agrees = laid_is_off es c in
          let stands_c : StandsAt s0.seen es (laid_from 518 es) true (laid_from 0 es c) = record {
            old = at.old;
            was = at.was;
            home_is = home-laid es c ∙ ap (laid_from 518 es) at.home_is;
            intents_are = intents_agree (in_group es) c (laid_from 0 es c) agrees (λ n one few. off_group es low n few) (few_words c es (length c) at.intents_are at.fit) ∙ at.intents_are;
            gate_is = gate_agrees (in_group es) c (laid_from 0 es c) agrees (off_group es low 0 (omega arith)) ∙ at.gate_is;
            fit = ap (λ n. fits n es) (length-laid_from 0 es c) ∙ at.fit;
          } in
          record {
            untold = λ none. let clash : ◌≡◌ {A = Told} (Some (laid_from 0 es c)) None = sym now ∙ none in absurd (cc);
            each = λ b there. let same : ◌≡◌ {A = Told} (Some (laid_from 0 es c)) (Some b) = sym now ∙ there in subst (StandsAt s0.seen es (laid_from 518 es) true) (same_some _ _ same) stands_c;
          }

  -- what the two gates may leave
  pub either_before : (b : List (List ℕ)) → s0.seen ≡ Some b → Either s0.seen es (home b) × Either s0.seen es (laid_from 518 es (home b))
  either_before b is = (is_before s0.seen es b is, is_after s0.seen es b is)

  pub exactly_after : (b : List (List ℕ)) → s0.seen ≡ Some b → IsAfter s0.seen es (laid_from 518 es (home b)) × IsAfter s0.seen es (laid_from 518 es (laid_from 518 es (home b)))
  exactly_after b is = (is_exactly s0.seen es b is, subst (IsAfter s0.seen es) (sym (laid_twice 518 es (home b))) (is_exactly s0.seen es b is))

  -- a group that stands behind the open gate is what gate and index say
  pub says_open : (s : DiskState) → Stands s0 es s (λ h. h) true → IfSome s.seen (λ b. (gate_open b ≡ true) × (intents b ≡ es) × (fits (length b) es ≡ true))
  says_open s stands = from s.seen refl
    where
      from : (o : Told) → s.seen ≡ o → IfSome s.seen (λ b. (gate_open b ≡ true) × (intents b ≡ es) × (fits (length b) es ≡ true))
      from None none = subst (λ (o : Told). IfSome o (λ b. (gate_open b ≡ true) × (intents b ≡ es) × (fits (length b) es ≡ true))) (sym none) tt
      from (Some b) told =
          let at = stands.each b told in
          subst (λ (o : Told). IfSome o (λ c. (gate_open c ≡ true) × (intents c ≡ es) × (fits (length c) es ≡ true))) (sym told) (at.gate_is, at.intents_are, at.fit)

  -- the blocks to which it goes are still those before it
  pub laid_standing : (s : DiskState) → Stands s0 es s (λ h. h) true → laid_home es s.seen ≡ laid_home es s0.seen
  laid_standing s stands = from s.seen refl
    where
      from : (o : Told) → s.seen ≡ o → laid_home es s.seen ≡ laid_home es s0.seen
      from None none = ap (laid_home es) (none ∙ sym (stands.untold none))
      from (Some b) told =
          let at = stands.each b told in
          ap (laid_home es) told ∙ ap (λ h. Some (laid_from 518 es h)) at.home_is ∙ sym (ap (laid_home es) at.was)

  -- after the last part
  pub done_home : (s : DiskState) → Stands s0 es s (laid_from 518 es) false → option_map home s.seen ≡ laid_home es s0.seen
  done_home s stands = from s.seen refl
    where
      from : (o : Told) → s.seen ≡ o → option_map home s.seen ≡ laid_home es s0.seen
      from None none = ap (option_map home) none ∙ sym (ap (laid_home es) (stands.untold none))
      from (Some b) told = let at = stands.each b told in ap (option_map home) told ∙ ap Some at.home_is ∙ sym (ap (laid_home es) at.was)

  pub done_closed : (s : DiskState) → Stands s0 es s (laid_from 518 es) false → IfSome s.seen (λ b. gate_open b ≡ false)
  done_closed s stands = from s.seen refl
    where
      from : (o : Told) → s.seen ≡ o → IfSome s.seen (λ b. gate_open b ≡ false)
      from None none = subst (λ (o : Told). IfSome o (λ b. gate_open b ≡ false)) (sym none) tt
      from (Some b) told = subst (λ (o : Told). IfSome o (λ c. gate_open c ≡ false)) (sym told) (stands.each b told).gate_is

-- a group that is open and fits stands
pub stands_open : (s : DiskState) (es : List Entry) → IfSome s.seen (λ b. (gate_open b ≡ true) × (intents b ≡ es) × (fits (length b) es ≡ true)) → Stands s es s (λ h. h) true
stands_open s es says = record {
  untold = λ none. none;
  each = λ b is.
      let at = subst (λ (o : Told). IfSome o (λ c. (gate_open c ≡ true) × (intents c ≡ es) × (fits (length c) es ≡ true))) is says in
      record { old = b; was = is; home_is = refl; intents_are = at.1; gate_is = at.0; fit = at.2 };
}

-- reads leave just what is seen
one_image : (s new : DiskState) (Q : List (List ℕ) → Type 0) → s.pending ≡ [] → new.pending ≡ s.pending → new.seen ≡ s.seen → ((b : List (List ℕ)) → s.seen ≡ Some b → Q b) → (image : List (List ℕ)) → MayLeave new image → Q image
one_image s new Q settled pending seen holds =
    images_touched (λ _. false) s new Q (touches_same (λ _. false) s s new (touches_nothing (λ _. false) s) pending seen) settled
    (λ b image is agrees. subst Q (sym (ext_get_or [] image b agrees.size (λ i within. agrees.others i refl))) (holds b is))

pub stop_reading : (s new : DiskState) → s.pending ≡ [] → new.pending ≡ s.pending → new.seen ≡ s.seen → LeavesAsItWas s.seen new
stop_reading s new settled pending seen = one_image s new (λ image. IsSomeAnd s.seen (λ b. (content_of image ≡ content_of b) × (fitting image ≡ fitting b))) settled pending seen
    (λ b is. subst (λ (o : Told). IsSomeAnd o (λ c. (content_of b ≡ content_of c) × (fitting b ≡ fitting c))) (sym is) (refl, refl))

-- where the gate is closed there is one content
pub stop_closed : (s : DiskState) → s.pending ≡ [] → IfSome s.seen (λ b. gate_open b ≡ false) → Leaves (λ c. Some c ≡ option_map content_of s.seen) s
stop_closed s settled closed = one_image s s (λ image. (fitting image ≡ true) × (Some (content_of image) ≡ option_map content_of s.seen)) settled refl refl
    (λ b is. (closed_fits b (subst (λ (o : Told). IfSome o (λ c. gate_open c ≡ false)) is closed), sym (ap (option_map content_of) is)))

-- a group that is finished leaves the content that gate and index said
pub stop_finishing : (s new : DiskState) (es : List Entry) → IfSome s.seen (λ b. (gate_open b ≡ true) × (intents b ≡ es) × (fits (length b) es ≡ true)) → Leaves (IsAfter s.seen es) new → LeavesAsItWas s.seen new
stop_finishing s new es says leaves image left = from s.seen refl
  where
    from : (o : Told) → s.seen ≡ o → IsSomeAnd o (λ b. (content_of image ≡ content_of b) × (fitting image ≡ fitting b))
    from None none = let clash : ◌≡◌ {A = Told} (Some (content_of image)) None = (leaves image left).1 ∙ ap (laid_home es) none in absurd (cc)
    from (Some b) told =
        let at = subst (λ (o : Told). IfSome o (λ c. (gate_open c ≡ true) × (intents c ≡ es) × (fits (length c) es ≡ true))) told says in
        let after : ◌≡◌ {A = Told} (Some (content_of image)) (Some (laid_from 518 es (home b))) = (leaves image left).1 ∙ ap (laid_home es) told in
        (same_some _ _ after ∙ sym (open_content b es at.0 at.1 at.2), (leaves image left).0 ∙ sym (open_fits b es at.1 at.2))
