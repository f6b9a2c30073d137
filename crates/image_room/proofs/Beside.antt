-- A file's buckets lie beside the rings of its journals of images.
use Rattle.std.proofs.Common.{◌≡◌, ℕ, ◌+◌, ◌-◌, ◌*◌, ◌<◌, ◌≤◌, List, length, take, Bool, true, false, Option, Some, None, slice_index_or, refl, sym, ap, subst, ◌∙◌, arith, inl, inr}
use Rattle.std.specs.Prelude.{◌⊎◌, ◌&&◌, nat_le, nat_lt}
use Rattle.std.proofs.lemmas.Bool.{cases_lt}
use Rattle.std.proofs.lemmas.Bool.Decides.{nat_tests}
use Rattle.std.proofs.lemmas.List.{get_or-take, length-take}
use Rattle.image_appends.specs.change_set.Files.{in_extent}
use Rattle.file_base.specs.declared.head.FileHead.{FileHead}
use Rattle.file_base.specs.declared.head.Span.{Span}
use Rattle.volume.specs.extents.declared.extent.Extent.{Extent as Area}
use Rattle.volume.specs.extents.Extents.{all_extents, covers, is_used, nowhere}
use Rattle.volume.proofs.extents.Used.{covered, covering, not_both, used_at}
use Rattle.volume.specs.volume_format.Home.{sizes_of}
use Rattle.volume.specs.declared.catalog.Catalog.{Catalog}
use Rattle.volume.specs.Catalogs.{IsSound, head_at}
use Rattle.volume.specs.Limits.{data_area}
use Rattle.volume_files.proofs.Places.{four_each, own, own_at, within_list}
use Rattle.image_appends.specs.declared.side.Side.{Side}
use Rattle.image_appends.specs.declared.side.Side.TheVariants.{After, Before}
use Rattle.image_appends.specs.Images.{span_of}
use Rattle.image_room.proofs.Rings.{place_few, place_of, place_some, span_at, span_extent}

extent_holds : (from size n : ℕ) → (nat_le from n && nat_lt n (from + size)) ≡ true → (from ≤ n) × (n < from + size)
extent_holds from size n is = (grind (arith, nat_tests), grind (arith, nat_tests))

module _ (name : List ℕ) (size : ℕ) (v : Catalog) (long : length v.heads ≡ 64) (sound : IsSound name size v) (side : Side) (f : ℕ) (h : FileHead) (there : head_at v.heads f ≡ Some h) where
  abbrev s : Span
  s = span_of side h

  abbrev area : Area
  area = data_area (sizes_of v.home)

  abbrev es : List Area
  es = all_extents v.heads

  abbrev i : ℕ
  i = 4 * f + place_of side

  below : f < 64
  below = let b = within_list v.heads f h there in omega (arith, b, long)

  own_in : (n : ℕ) → covers (own h) n ≡ true → covers area n ≡ true
  own_in = let b = below in subst (λ (e : Area). (n : ℕ) → covers e n ≡ true → covers area n ≡ true) (own_at v.heads f h there) (sound.extents (4 * f) (omega (arith, b))).inside

  on_disk : (n : ℕ) → in_extent h n ≡ true → covers (own h) (n + 518) ≡ true
  on_disk n in_it =
      let lies = extent_holds (h.start - 518) (h.alloc * h.bucket) n in_it in
      let first = covered area h.start (own_in h.start (covering (own h) h.start (omega arith) (omega (arith, lies)))) in
      covering (own h) (n + 518) (omega (arith, lies, first)) (omega (arith, lies, first))

  never_both : (n : ℕ) → covers (span_extent side h) n ≡ true → covers (own h) n ≡ true → ⊥
  never_both n has own_too =
      let b = below in
      let few = place_few side in
      let some = place_some side in
      let all = four_each v.heads in
      let front : length (take i es) ≡ i = omega (arith, length-take i es, all, long, few, b) in
      let same : slice_index_or (take i es) (4 * f) nowhere ≡ own h = get_or-take i es (4 * f) nowhere (omega (arith, some)) ∙ own_at v.heads f h there in
      let used : is_used (take i es) n ≡ true = used_at (take i es) (4 * f) n nowhere (omega (arith, front, some)) (ap (λ e. covers e n) same ∙ own_too) in
      not_both (is_used (take i es) n) used ((sound.extents i (omega (arith, few, b))).apart n (ap (λ e. covers e n) (span_at side v.heads f h there) ∙ has))

  pub lies_beside : 518 ≤ s.start → (n : ℕ) → in_extent h n ≡ true → (n < s.start - 518) ⊎ (s.start - 518 + s.blocks ≤ n)
  lies_beside behind n in_it = elim (cases_lt (n + 518) s.start) [
    | inl less ↦ inl (omega (arith, less))
    | inr more ↦ elim (cases_lt (n + 518) (s.start + s.blocks)) [
      | inl within ↦ absurd (never_both (n + 518) (covering (span_extent side h) (n + 518) more within) (on_disk n in_it))
      | inr past ↦ inr (omega (arith, past, behind))
    ]
  ]
