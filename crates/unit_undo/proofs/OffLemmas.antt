-- The first position that cannot be set back in place, from what the calls promise.
use Rattle.std.proofs.Common.{◌≡◌, ⊎_elim, ℕ, ◌+◌, true, false, List, Some, None, refl, sym, ◌∙◌, ap, subst, arith}
use Rattle.std.specs.Prelude.{slice_get}
use Rattle.std.proofs.lemmas.Bool.{cases_lt}
use Rattle.file_base.specs.declared.head.FileHead.{FileHead}
use Rattle.volume.specs.State.{SameVolume, VolumeState}
use Rattle.volume.proofs.Reading.{volume_on}
use Rattle.unit_entries.specs.Keys.{KeyTold, IsLeast, NoneFrom, lowest_in, number_for}
use Rattle.unit_undo.specs.Undoing.{TellsInPlace}
use Rattle.unit_undo.specs.FileWays.{FindsOff, FitsAt, HasFound, found_at, none_off}

some_key : (a b : KeyTold) → Some a ≡ Some b → a ≡ b
some_key a b e = cc

module _ (f lowest : ℕ) (h : FileHead) (ks : List KeyTold) (v : VolumeState) where
  pub found_begins : HasFound f lowest lowest h ks v v
  found_begins = record { same = refl; least = omega arith; fit = λ i n k at is le lt. absurd (omega (arith, le, lt)) }

  module _ (from : ℕ) (w : VolumeState) (so : HasFound f lowest from h ks v w) where
    pub found_none : lowest_in f ks ≡ Some lowest → NoneFrom f from ks → FindsOff f h ks v None
    found_none low none = none_off lowest low refl (λ until i n k at is le lt. so.fit i n k at is le (⊎_elim (λ before. before) (λ behind. absurd (none i n k at is behind)) (cases_lt n from)))

    module _ (i n : ℕ) (l : IsLeast f from ks i n) (k : KeyTold) (at : slice_get ks i ≡ Some k) where
      number : number_for f k ≡ Some n
      number = ap (number_for f) (sym (some_key l.key k (sym l.at ∙ at))) ∙ l.is

      pub found_one : lowest_in f ks ≡ Some lowest → TellsInPlace h k.key k.first w false → FindsOff f h ks v (Some n)
      found_one low off =
          found_at lowest i n k low refl at number (let behind = l.behind in let least = so.least in omega (arith, behind, least)) (subst (λ (x : VolumeState). TellsInPlace h k.key k.first x false) so.same off)
          (λ j m other there is le lt. so.fit j m other there is le (⊎_elim (λ before. before) (λ behind. absurd (let least = l.least j m other there is behind in omega (arith, lt, least))) (cases_lt m from)))

      pub found_more : (x : VolumeState) → SameVolume w x → TellsInPlace h k.key k.first w true → HasFound f lowest (n + 1) h ks v x
      found_more x same fits = record {
        same = volume_on v w x so.same same;
        least = let behind = l.behind in let least = so.least in omega (arith, behind, least);
        fit = λ j m other there is le lt. ⊎_elim (λ before. so.fit j m other there is le before) (λ behind. here m (let least = l.least j m other there is behind in omega (arith, lt, least))) (cases_lt m from);
      }
        where
          here : (m : ℕ) → n ≡ m → FitsAt f m h ks v
          here m is = subst (λ (y : ℕ). FitsAt f y h ks v) is (record { place = i; key = k; at = at; is = number; fits = subst (λ (y : VolumeState). TellsInPlace h k.key k.first y true) so.same fits })
