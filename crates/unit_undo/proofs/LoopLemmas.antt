-- The keys of a file one after another, from what the calls promise.
use Rattle.std.proofs.Common.{◌≡◌, ◌≢◌, ℕ, zero, suc, ◌+◌, ◌<◌, ◌≤◌, true, false, List, [], ◌∷◌, length, Some, sym, ◌∙◌, ap, subst, arith}
use Rattle.std.specs.Prelude.{◌==◌, slice_get}
use Rattle.careful_write.specs.State.{IsEither, Leaves, content}
use Rattle.file_base.specs.declared.head.FileHead.{FileHead}
use Rattle.file_base.specs.declared.head.Organization.TheVariants as kept
use Rattle.volume.specs.declared.catalog.Catalog.{Catalog}
use Rattle.volume.specs.State.{VolumeState}
use Rattle.unit_entries.specs.Keys.{KeyTold, IsLeast, NoneFrom}
use Rattle.unit_entries.proofs.KeyLemmas.{number_is}
use Rattle.unit_undo.specs.Undoing.{ChangesFile, MayUndo, IsFew, SetsToEntry}
use Rattle.unit_undo.specs.FileWays.{ChangesOnly, CutsOff, cut, stays, HasSet, HasPlaced, SetsOne, own, off, PlacesOne, had, gone, TellsBackFile, TellsFailed}
use Rattle.unit_undo.proofs.ReadLemmas.{only_to}
use Rattle.unit_undo.proofs.StepLemmas.{only_same, only_through, only_of, may_on, head_now, fails_going, failed_since}
use Rattle.unit_undo.proofs.SettingLemmas.{keys_begin, keys_skip, keys_more, keys_end}
use Rattle.unit_undo.proofs.PlaceLemmas.{number_key, positions_begin, positions_skip, positions_more, positions_end}

some_key : (a b : KeyTold) → Some a ≡ Some b → a ≡ b
some_key a b e = cc

within_keys : (ks : List KeyTold) (i : ℕ) (k : KeyTold) → slice_get ks i ≡ Some k → i < length ks
within_keys [] i k at = let never : ⊥ = cc in absurd never
within_keys (x ∷ ks) zero k at = omega arith
within_keys (x ∷ ks) (suc i) k at = let more = within_keys ks i k at in omega (arith, more)

module _ (f steps0 : ℕ) (first : FileHead) (ks : List KeyTold) (v : VolumeState) (may : MayUndo f first steps0 v) where
  ru_same : (w : VolumeState) (h : FileHead) → ChangesOnly f first v w h → w.catalog.ru ≡ v.catalog.ru
  ru_same w h only = ap (λ (k : Catalog). k.ru) only.goes.catalog

  far : 584 ≤ v.catalog.ru.start
  far = let start = may.sound.ru_start in omega (arith, start)

  pub may_now : (w : VolumeState) (h : FileHead) (steps : ℕ) → ChangesOnly f first v w h → IsFew steps w → MayUndo f h steps w
  may_now w h steps only few = may_on f first h steps0 v w only.goes may (head_now f first h v w only may.whole may.there) steps few

  -- Relative and indexed files.

  module _ (other : first.organization ≢ kept.Sequential) where
    pub set_begins : HasSet f 0 first ks v v steps0 first
    set_begins = record { only = only_same f first v may.ready may.there; partly = λ u file s. keys_begin u f first file ks v s other; few = may.few }

    module _ (i : ℕ) (w : VolumeState) (steps : ℕ) (h : FileHead) (so : HasSet f i first ks v w steps h) (k : KeyTold) (at : slice_get ks i ≡ Some k) where
      pub set_skips : (k.file == f) ≡ false → HasSet f (i + 1) first ks v w steps h
      set_skips elsewhere = record { only = so.only; partly = λ u file s. keys_skip u f first file ks v s other i w h (so.partly u file s) k at elsewhere; few = so.few }

      pub set_goes_on : (x : VolumeState) (more : ℕ) (new : FileHead) → (k.file == f) ≡ true → ChangesFile f h w x new → SetsToEntry h k.key k.first w x new → IsFew more x → HasSet f (i + 1) first ks v x more new
      set_goes_on x more new mine changes sets few =
          let now = may_now w h steps so.only so.few in
          record {
            only = only_through f first h new v w x so.only (only_of f h new w x changes);
            partly = λ u file s. keys_more u f first file ks v s other i w h (so.partly u file s) k at mine (ru_same w h so.only) may.ring.some far x new now.node now.whole now.sound now.there changes sets;
            few = few;
          }

      pub set_one : (x : VolumeState) (more : ℕ) (new : FileHead) → SetsOne f k w x h new steps more → HasSet f (i + 1) first ks v x more new
      set_one x more new (own mine changes sets few) = set_goes_on x more new mine changes sets few
      set_one x more new (off other_file same_v same_h same_steps) =
          subst (λ (y : VolumeState). HasSet f (i + 1) first ks v y more new) (sym same_v) (subst (λ (y : FileHead). HasSet f (i + 1) first ks v w more y) (sym same_h) (subst (λ (n : ℕ). HasSet f (i + 1) first ks v w n h) (sym same_steps) (set_skips other_file)))

    pub set_ends : (w : VolumeState) (steps : ℕ) (h : FileHead) → HasSet f (length ks) first ks v w steps h → TellsBackFile f first ks v w h
    set_ends w steps h so = λ u file s. keys_end u f first file ks v s other w h (so.partly u file s)

  pub set_fails : (i : ℕ) (w x : VolumeState) (steps : ℕ) (h : FileHead) → HasSet f i first ks v w steps h → Leaves (IsEither (content w.store) w.store.current) x.store.disk → TellsFailed f first ks v x
  set_fails i w x steps h so leaves = λ u file s. failed_since u v w x so.only.goes (fails_going u w x (so.partly u file s).way leaves)

  -- Sequential files.

  pub cut_fails : (x : VolumeState) → Leaves (IsEither (content v.store) v.store.current) x.store.disk → TellsFailed f first ks v x
  cut_fails x leaves = λ u file s. fails_going u v x s.way leaves

  cut_only : (w : VolumeState) (h : FileHead) → CutsOff f first ks v w h → ChangesOnly f first v w h
  cut_only w h (cut from finds changes cuts) = only_of f first h v w changes
  cut_only w h (stays found finds far_off same_v same_h) = only_to v w same_v f first h v (subst (λ (x : FileHead). ChangesOnly f first v v x) (sym same_h) (only_same f first v may.ready may.there))

  module _ (sequential : first.organization ≡ kept.Sequential) where
    pub place_begins : (w : VolumeState) (h : FileHead) (steps : ℕ) → CutsOff f first ks v w h → IsFew steps w → HasPlaced f 0 first ks v w steps h
    place_begins w h steps cuts few = record { only = cut_only w h cuts; placed = λ u file s. positions_begin u f first file ks v s sequential w h may.node may.whole may.sound may.there may.ring.some far cuts; few = few }

    -- the key at the place of the least number
    pub least_key : (from i n : ℕ) (l : IsLeast f from ks i n) (k : KeyTold) → slice_get ks i ≡ Some k → l.key ≡ k
    least_key from i n l k at = some_key l.key k (sym l.at ∙ at)

    pub least_file : (from i n : ℕ) (l : IsLeast f from ks i n) (k : KeyTold) → slice_get ks i ≡ Some k → k.file ≡ f
    least_file from i n l k at = number_is k.file f (subst (λ (x : KeyTold). (x.file == f) ≡ true) (least_key from i n l k at) (number_key f l.key n l.is).0)

    pub least_within : (from i n : ℕ) → IsLeast f from ks i n → i < length ks
    least_within from i n l = within_keys ks i l.key l.at

    module _ (from i n : ℕ) (w : VolumeState) (steps : ℕ) (h : FileHead) (so : HasPlaced f from first ks v w steps h) (l : IsLeast f from ks i n) where
      pub place_skips : l.key.had ≡ false → HasPlaced f (n + 1) first ks v w steps h
      place_skips none = record { only = so.only; placed = λ u file s. positions_skip u f first file ks v s sequential from i n w h (so.placed u file s) l none; few = so.few }

      pub place_goes_on : (x : VolumeState) (more : ℕ) (new : FileHead) → l.key.had ≡ true → ChangesFile f h w x new → SetsToEntry h l.key.key l.key.first w x new → IsFew more x → HasPlaced f (n + 1) first ks v x more new
      place_goes_on x more new some changes sets few =
          let now = may_now w h steps so.only so.few in
          record {
            only = only_through f first h new v w x so.only (only_of f h new w x changes);
            placed = λ u file s. positions_more u f first file ks v s sequential from i n w h (so.placed u file s) l some (ru_same w h so.only) may.ring.some far x new now.node now.whole now.sound now.there changes sets;
            few = few;
          }

      pub place_one : (x : VolumeState) (more : ℕ) (new : FileHead) → PlacesOne f l.key w x h new steps more → HasPlaced f (n + 1) first ks v x more new
      place_one x more new (had some changes sets few) = place_goes_on x more new some changes sets few
      place_one x more new (gone none same_v same_h same_steps) =
          subst (λ (y : VolumeState). HasPlaced f (n + 1) first ks v y more new) (sym same_v) (subst (λ (y : FileHead). HasPlaced f (n + 1) first ks v w more y) (sym same_h) (subst (λ (k : ℕ). HasPlaced f (n + 1) first ks v w k h) (sym same_steps) (place_skips none)))

      pub place_next : (k : KeyTold) → slice_get ks i ≡ Some k → (x : VolumeState) (more : ℕ) (new : FileHead) → PlacesOne k.file k w x h new steps more → HasPlaced f (n + 1) first ks v x more new
      place_next k at x more new sets =
          place_one x more new (subst (λ (y : KeyTold). PlacesOne f y w x h new steps more) (sym (least_key from i n l k at)) (subst (λ (g : ℕ). PlacesOne g k w x h new steps more) (least_file from i n l k at) sets))

    pub place_ends : (from : ℕ) (w : VolumeState) (steps : ℕ) (h : FileHead) → HasPlaced f from first ks v w steps h → NoneFrom f from ks → TellsBackFile f first ks v w h
    place_ends from w steps h so none = λ u file s. positions_end u f first file ks v s sequential from w h (so.placed u file s) none

  pub place_fails : (from : ℕ) (w x : VolumeState) (steps : ℕ) (h : FileHead) → HasPlaced f from first ks v w steps h → Leaves (IsEither (content w.store) w.store.current) x.store.disk → TellsFailed f first ks v x
  place_fails from w x steps h so leaves = λ u file s. failed_since u v w x so.only.goes (fails_going u w x (so.placed u file s).way leaves)
