-- What is staged of a file: its buckets, and its directory block where its head changes.
use Rattle.std.proofs.Common.{◌≡◌, ◌≢◌, ⊎_elim, inl, ℕ, ◌+◌, ◌-◌, ◌<◌, ◌≤◌, Bool, true, false, List, [], length, Option, Some, None, IfSome, IsSomeAnd, MatchOption, option_map, slice_set, refl, sym, ap, subst, ◌∙◌, arith, get_or-set_other, length-set}
use Rattle.std.specs.Prelude.{◌⊎◌, ◌||◌, ◌==◌}
use Rattle.std.proofs.lemmas.Bool.Decides.{nat_tests}
use Rattle.careful_write.specs.Reads.{SameButReads}
use Rattle.careful_write.specs.State.{StoreState, EachWhole}
use Rattle.careful_write.specs.Steps.{AgreesOff}
use Rattle.careful_write.proofs.Touched.{length-with_number}
use Rattle.file_base.specs.declared.head.FileHead.{FileHead}
use Rattle.change_set.specs.Files.{AgreesOn, IsPlaced, SameFile, StagesIn, in_extent}
use Rattle.record_files.specs.Any as any
use Rattle.volume.specs.declared.catalog.Catalog.{Catalog}
use Rattle.volume.specs.Catalogs.{IsSound, StandsOnTheFront, TellsCatalog, head_at}
use Rattle.volume.specs.State.{VolumeState, Holds, SameVolume, with_block}
use Rattle.volume.specs.volume_format.Head.{head_block_of}
use Rattle.volume_files.specs.Staging.{IsWithin, StagesFile, is_of_file}
use Rattle.volume_files.proofs.SoundLemmas.{sound_changed}

-- The directory block of the file is staged with this head, or nothing more is.

abbrev pub Moved : ℕ → FileHead → StoreState → StoreState → Type 0
Moved f new s t = (t ≡ s) ⊎ (t ≡ with_block (519 + f) (head_block_of new) s)

rest_block : (old s t : StoreState) (n : ℕ) (bytes : List ℕ) → SameButReads (record old { current = s.current; touched = s.touched }) s → t ≡ with_block n bytes s → SameButReads (record old { current = t.current; touched = t.touched }) t
rest_block old s t n bytes e is =
    is ∙ (λ k. with_block n bytes (e k)) ∙ (λ k. record old { current = sym (ap (λ (x : StoreState). x.current) is) k; touched = sym (ap (λ (x : StoreState). x.touched) is) k; reads = sym (ap (λ (x : StoreState). x.reads) is) k })

pub moved_rest : (f : ℕ) (new : FileHead) (old s t : StoreState) → Moved f new s t → SameButReads (record old { current = s.current; touched = s.touched }) s → SameButReads (record old { current = t.current; touched = t.touched }) t
moved_rest f new old s t moved rest =
    ⊎_elim (λ same. subst (λ (x : StoreState). SameButReads (record old { current = x.current; touched = x.touched }) x) (sym same) rest) (λ is. rest_block old s t (519 + f) (head_block_of new) rest is) moved

pub moved_few : (f : ℕ) (new : FileHead) (s t : StoreState) → Moved f new s t → length t.touched ≤ length s.touched + 1
moved_few f new s t moved =
    ⊎_elim (λ same. let e = ap (λ (x : StoreState). length x.touched) same in omega (arith, e))
    (λ is. let e = ap (λ (x : StoreState). length x.touched) is in omega (arith, e, length-with_number (519 + f) s.touched)) moved

off_both : (a b : Bool) → (a || b) ≡ false → (a ≡ false) × (b ≡ false)
off_both true b e = let no_way : ⊥ = cc in absurd no_way
off_both false b e = (refl, e)

apart : (f n : ℕ) → (n == 1 + f) ≡ false → n ≢ 519 + f - 518
apart f n off same = grind (arith, nat_tests)

out_same : (f : ℕ) (h : FileHead) (a c : List (List ℕ)) → AgreesOff (in_extent h) a c → AgreesOff (is_of_file f h) a c
out_same f h a c agrees = record { size = agrees.size; others = λ n off. agrees.others n (off_both (in_extent h n) (n == 1 + f) off).0 }

out_block : (f : ℕ) (h : FileHead) (bytes : List ℕ) (a c : List (List ℕ)) → AgreesOff (in_extent h) a c → AgreesOff (is_of_file f h) a (slice_set c (519 + f - 518) bytes)
out_block f h bytes a c agrees = record {
  size = length-set c (519 + f - 518) bytes ∙ agrees.size;
  others = λ n off. let both = off_both (in_extent h n) (n == 1 + f) off in get_or-set_other c (519 + f - 518) n bytes [] (apart f n both.1) ∙ agrees.others n both.0;
}

-- contents that agree but in the file, where they are told
abbrev pub OutOf : (ℕ → Bool) → Option (List (List ℕ)) → Option (List (List ℕ)) → Type 0
OutOf p old new = MatchOption old (new ≡ None) (λ a. IsSomeAnd new (AgreesOff p a))

outs_same : (f : ℕ) (h : FileHead) (old new : Option (List (List ℕ))) → OutOf (in_extent h) old new → OutOf (is_of_file f h) old new
outs_same f h None new out = out
outs_same f h (Some a) None out = out
outs_same f h (Some a) (Some c) out = out_same f h a c out

outs_block : (f : ℕ) (h : FileHead) (bytes : List ℕ) (old new : Option (List (List ℕ))) → OutOf (in_extent h) old new → OutOf (is_of_file f h) old (option_map (λ blocks. slice_set blocks (519 + f - 518) bytes) new)
outs_block f h bytes None new out = ap (option_map (λ (blocks : List (List ℕ)). slice_set blocks (519 + f - 518) bytes)) out
outs_block f h bytes (Some a) None out = out
outs_block f h bytes (Some a) (Some c) out = out_block f h bytes a c out

pub moved_out : (f : ℕ) (h new : FileHead) (old : Option (List (List ℕ))) (s t : StoreState) → Moved f new s t → OutOf (in_extent h) old s.current → OutOf (is_of_file f h) old t.current
moved_out f h new old s t moved out =
    ⊎_elim (λ same. subst (λ (x : StoreState). OutOf (is_of_file f h) old x.current) (sym same) (outs_same f h old s.current out))
    (λ is. subst (λ (x : StoreState). OutOf (is_of_file f h) old x.current) (sym is) (outs_block f h (head_block_of new) old s.current out)) moved

-- The file lies behind the front.

off_front : (h : FileHead) (n : ℕ) → n < 66 → (in_extent h n ≡ true → 66 ≤ n) → in_extent h n ≡ false
off_front h n below behind = is_false (in_extent h n) (λ t. let b = behind t in omega arith)
  where
    is_false : (b : Bool) → (b ≡ true → ⊥) → b ≡ false
    is_false true so = absurd (so refl)
    is_false false so = refl

-- so what the front tells stands
pub still_told : (v : Catalog) (h : FileHead) (old new : Option (List (List ℕ))) → StandsOnTheFront → ((n : ℕ) → in_extent h n ≡ true → 66 ≤ n) → OutOf (in_extent h) old new → IfSome old (TellsCatalog v) → IfSome new (TellsCatalog v)
still_told v h None new front behind out holds = subst (λ o. IfSome o (TellsCatalog v)) (sym out) tt
still_told v h (Some a) None front behind out holds = absurd out
still_told v h (Some a) (Some c) front behind out holds = front v a c (λ n below. sym (out.others n (off_front h n below (behind n)))) holds

pub stages_moved : (f : ℕ) (h new : FileHead) (few limit : ℕ) (old mid : VolumeState) (s : StoreState) → length old.catalog.heads ≡ 64 → head_at old.catalog.heads f ≡ Some h → StandsOnTheFront → ((n : ℕ) → in_extent h n ≡ true → 66 ≤ n) → StagesIn h few old.store s → few + 1 ≤ limit → SameFile h new → any.IsFile new →
    Moved f new s mid.store → mid.catalog ≡ record old.catalog { heads = slice_set old.catalog.heads f (Some new) } → (IfSome s.current (TellsCatalog old.catalog) → Holds mid) → StagesFile f h limit old mid new
stages_moved f h new few limit old mid s long there front behind stages le same form moved catalog holds = record {
  same = same;
  fits = inl form;
  rest = moved_rest f new old.store s mid.store moved stages.rest;
  catalog = catalog;
  few = omega (arith, stages.few, moved_few f new s mid.store moved, le);
  sound = λ node sound. subst (IsSound node old.store.disk.size) (sym catalog) (sound_changed node old.store.disk.size old.catalog f h new long there same (inl form) sound);
  holds = λ held. holds (still_told old.catalog h old.store.current s.current front behind stages.blocks held);
  blocks = moved_out f h new old.store.current s mid.store moved stages.blocks;
}

-- what is staged is so from a volume that is the same but for reads
pub stages_read : (f : ℕ) (h new : FileHead) (limit : ℕ) (v w mid : VolumeState) → SameVolume v w → StagesFile f h limit w mid new → StagesFile f h limit v mid new
stages_read f h new limit v w mid same s = record {
  same = s.same;
  fits = s.fits;
  rest = subst (λ (x : VolumeState). SameButReads (record x.store { current = mid.store.current; touched = mid.store.touched }) mid.store) same s.rest;
  catalog = subst (λ (x : VolumeState). mid.catalog ≡ record x.catalog { heads = slice_set x.catalog.heads f (Some new) }) same s.catalog;
  few = subst (λ (x : VolumeState). length mid.store.touched ≤ length x.store.touched + limit) same s.few;
  holds = subst (λ (x : VolumeState). Holds x → Holds mid) same s.holds;
  sound = subst (λ (x : VolumeState). (node : List ℕ) → IsSound node x.store.disk.size x.catalog → IsSound node x.store.disk.size mid.catalog) same s.sound;
  blocks = subst (λ (x : VolumeState). OutOf (is_of_file f h) x.store.current mid.store.current) same s.blocks;
}

-- The file's blocks are those that were staged.

pub record Told (h : FileHead) (c : List (List ℕ)) (now : Option (List (List ℕ))) : Type 0 where
  pub content : List (List ℕ)
  pub told : now ≡ Some content
  pub agrees : AgreesOn h c content

block_apart : (f n : ℕ) → f < 64 → 66 ≤ n → n ≢ 519 + f - 518
block_apart f n below behind same = let no_way : ⊥ = omega (arith, below, behind, same) in no_way

pub moved_told : (f : ℕ) (h new : FileHead) (s t : StoreState) (c : List (List ℕ)) → f < 64 → ((n : ℕ) → in_extent h n ≡ true → 66 ≤ n) → Moved f new s t → s.current ≡ Some c → Told h c t.current
moved_told f h new s t c below behind moved told =
    ⊎_elim (λ same. record { content = c; told = ap (λ (x : StoreState). x.current) same ∙ told; agrees = λ n within. refl })
    (λ is. record {
      content = slice_set c (519 + f - 518) (head_block_of new);
      told = ap (λ (x : StoreState). x.current) is ∙ ap (option_map (λ (blocks : List (List ℕ)). slice_set blocks (519 + f - 518) (head_block_of new))) told;
      agrees = λ n within. sym (get_or-set_other c (519 + f - 518) n (head_block_of new) [] (block_apart f n below (behind n within)));
    })
    moved

-- one of the same file has the same extent
pub agrees_new : (h new : FileHead) (a b : List (List ℕ)) → SameFile h new → AgreesOn h a b → AgreesOn new a b
agrees_new h new a b same agrees = λ n within. agrees n (sym (ap (λ (x : FileHead). in_extent x n) same.is) ∙ within)

pub within_of : (h : FileHead) (s : StoreState) (a : List (List ℕ)) → IsPlaced h s.disk → s.current ≡ Some a → IfSome s.current (λ blocks. length blocks + 518 ≡ s.disk.size) → IfSome s.current EachWhole → IsWithin a h
within_of h s a placed told whole each =
    let long : length a + 518 ≡ s.disk.size = subst (λ o. IfSome o (λ (blocks : List (List ℕ)). length blocks + 518 ≡ s.disk.size)) told whole in
    record {
      from = placed.from;
      to = omega (arith, placed.to, long);
      whole = subst (λ o. IfSome o EachWhole) told each;
    }
