-- Entries that are handed up from level to level, over blocks.
use Rattle.std.proofs.Common.{◌≡◌, ◌≤◌, ◌<◌, ⊎_elim, ◌+◌, ◌-◌, ◌*◌, ◌/◌, ◌==◌, ℕ, suc, Bool, true, false, List, [], ◌∷◌, ◌++◌, length, take, drop, map, if◌then◌else◌, nat_le, Option, Some, None, IfSome, IsSomeAnd, option_map, slice_index_or, refl, sym, ap, subst, ◌∙◌, append-nil, arith}
use Rattle.std.proofs.lemmas.Bool.{cases_lt}
use Rattle.std.proofs.lemmas.Bool.Decides.{nat_tests}
use Rattle.block_disk.specs.Disk.{DiskState}
use Rattle.file_base.specs.declared.head.FileHead.{FileHead}
use Rattle.index_bucket.specs.bucket_page.Pages.{next_of, IsBucket}
use Rattle.change_set.specs.Buckets.{with_bucket}
use Rattle.change_set.specs.Files.{IsPlaced}
use Rattle.change_set.proofs.records_model.SlotLaws.{if_true, if_false}
use Rattle.index_bucket.specs.index_model.Indexes.{Entry, Index, first_separator, parent_entry, child_for, Ascends, with_added, set_entries, beside, bucket_for, handed_up, numbers_of, IsNoneOf, IsIndexed}
use Rattle.index_bucket.proofs.index_model.HandLemmas.{same_test, self_test, AgreeOn, agree_parts, parents_agree, none_parts, none_below, below_parts, NextLevel, next_level, LevelAdded, level_added}
use Rattle.index_bucket.specs.Entries.{index_kind, sizes_of, entries_at}
use Rattle.index_bucket.specs.Takes.{TakesIn, Takes, whole, halved}
use Rattle.index_bucket.specs.Laws.{HasEntries}
use Rattle.index_bucket.proofs.EntryLaws.{length_entries}
use Rattle.index_bucket.proofs.HandLaws.{fan_out_wide}
use Rattle.index_bucket.proofs.HeldLaws.{taken_laid}
use Rattle.index_blocks.specs.Buckets.{bucket_first, bucket_at}
use Rattle.index_blocks.specs.Levels.{entries_in, least_key}
use Rattle.index_blocks.specs.Writes.{with_halves, entries_set}
use Rattle.index_blocks.specs.Climbs.{IsPath, MayClimb, TellsRoot, Climbs, climbed}
use Rattle.index_blocks.specs.declared.growing.Growth.{Growth}
use Rattle.index_blocks.proofs.WriteLaws.{bucket_same, bucket_other, wrote, halves_written, halves_other, lower_half, upper_half}

abbrev Blocks : Type 0
Blocks = List (List ℕ)

-- bytes of an index bucket, whatever their entries lead to
abbrev Laid : FileHead → List ℕ → Type 0
Laid h bytes = IsBucket (index_kind h) (512 * h.bucket) bytes

path_agree : (k : List ℕ) (f g : ℕ → List Entry) (levels : List (List ℕ)) (path : List ℕ) → AgreeOn f g (numbers_of levels) → IsPath k g levels path → IsPath k f levels path
path_agree k f g [] path agree is = tt
path_agree k f g (ns ∷ above) path agree is =
    let parts = agree_parts f g ns (numbers_of above) agree in
    (is.0 ∙ ap (λ es. child_for k es) (sym (parents_agree f g ns parts.0)), path_agree k f g above path parts.1 is.1)

-- whether a bucket is parted, by the number of entries
parted_by : (h : FileHead) (k : List ℕ) (added : List Entry) (old : List ℕ) (parted : Bool) (low high : List ℕ) → TakesIn h (512 * h.bucket) k added old parted low high
    → nat_le (length (with_added k added (entries_at h old))) (sizes_of h).fan_out ≡ (if parted then false else true)
parted_by h k added old parted low high takes = by parted takes.takes
  where
    count : length takes.raws ≡ length (with_added k added (entries_at h old))
    count = sym (length_entries h takes.raws) ∙ ap length takes.entries

    by : (p : Bool) → Takes (index_kind h) (512 * h.bucket) (sizes_of h).fan_out (next_of old) takes.raws p low high → nat_le (length (with_added k added (entries_at h old))) (sizes_of h).fan_out ≡ (if p then false else true)
    by false (whole is few packs) = let fits : nat_le (length (with_added k added (entries_at h old))) (sizes_of h).fan_out ≡ true = grind (arith, nat_tests, count, few) in fits
    by true (whole is few packs) = let none : ⊥ = cc in absurd none
    by false (halved is over packs rest) = let none : ⊥ = cc in absurd none
    by true (halved is over packs rest) = let none : nat_le (length (with_added k added (entries_at h old))) (sizes_of h).fan_out ≡ false = grind (arith, nat_tests, count, over) in none

-- One level.
module _ (h : FileHead) (k : List ℕ) (e : Entry) (es below : List Entry) (ns : List ℕ) (above : List (List ℕ)) (path : List ℕ) (used : ℕ) (b : Blocks) (one : 1 ≤ h.bucket) (short : h.key_size ≤ 64)
    (free : used < h.alloc) (within : h.start - 518 + h.alloc * h.bucket ≤ length b) (may : MayClimb h k (e ∷ es) below (ns ∷ above) path used b) where
  abbrev pub m : ℕ
  m = bucket_for k (entries_in h b) ns

  abbrev pub all : List Entry
  all = with_added k (e ∷ es) (entries_in h b m)

  abbrev pub fan : ℕ
  fan = (sizes_of h).fan_out

  wide : 3 ≤ fan
  wide = fan_out_wide h.bucket h.key_size one short

  level : LevelAdded (least_key h) fan wide k ns above e es (entries_in h b) below h.root used may.ascends may.added_ascend may.is m
  level = level_added (least_key h) fan wide k ns above e es (entries_in h b) below h.root used may.ascends may.added_ascend may.is

  there : m < h.alloc
  there = let less = level.within in omega (arith, less, free)

  fresh : m ≡ used → ⊥
  fresh same = let less = level.within in omega (arith, less, same)

  laid : Laid h (bucket_at h b m)
  laid = may.buckets m (λ none. level.there (none_parts m ns (numbers_of above) none).0)

  module _ (parted : Bool) (low high : List ℕ) (takes : TakesIn h (512 * h.bucket) k (e ∷ es) (bucket_at h b m) parted (take (512 * h.bucket) low) (take (512 * h.bucket) high)) where
    abbrev pub now : Blocks
    now = with_halves h m used parted low high b

    both : Laid h (take (512 * h.bucket) low) × (parted ≡ true → Laid h (take (512 * h.bucket) high) × (entries_at h (take (512 * h.bucket) high) ≡ drop (length all / 2) all))
    both = taken_laid h k (e ∷ es) (bucket_at h b m) parted (take (512 * h.bucket) low) (take (512 * h.bucket) high) laid takes level.ascends

    stays : (n : ℕ) → (n ≡ m → ⊥) → (n ≡ used → ⊥) → bucket_at h now n ≡ bucket_at h b n
    stays n other new = halves_other h b m used parted low high n other new

    kept_now : (n : ℕ) → n < used → Laid h (bucket_at h b n) → Laid h (bucket_at h now n)
    kept_now n less was = go (n == m) refl
      where
        go : (t : Bool) → (n == m) ≡ t → Laid h (bucket_at h now n)
        go true is = let same : n ≡ m = same_test n m is in
            subst (λ x. Laid h (bucket_at h now x)) (sym same) (subst (Laid h) (sym (lower_half h b m used parted low high there fresh within)) both.0)
        go false is = subst (Laid h) (sym (stays n (λ same. let self = self_test n in let back : (n == m) ≡ true = ap (λ x. n == x) (sym same) ∙ self in let none : ⊥ = cc in none) (λ same. omega (arith, less, same)))) was

    apart : (n : ℕ) → IsNoneOf n (ns ++ numbers_of above) → n ≡ m → ⊥
    apart n none same = level.there (subst (λ x. IsNoneOf x ns) same (none_parts n ns (numbers_of above) none).0)

    others_now : (n : ℕ) → n < used → IsNoneOf n (ns ++ numbers_of above) → bucket_at h now n ≡ bucket_at h b n
    others_now n less none = stays n (apart n none) (λ same. omega (arith, less, same))

    entries_now : (n : ℕ) → entries_in h now n ≡ entries_set m used parted all (entries_in h b) n
    entries_now n = halves_written h b m used k (e ∷ es) parted low high there free within takes n

  -- all entries fit into the bucket
  pub fits_here : (low high : List ℕ) → TakesIn h (512 * h.bucket) k (e ∷ es) (bucket_at h b m) false (take (512 * h.bucket) low) (take (512 * h.bucket) high)
      → Climbs h k (e ∷ es) (ns ∷ above) used (record { root = None; used = used }) b (with_halves h m used false low high b)
  fits_here low high takes =
      let made : climbed h k (e ∷ es) (ns ∷ above) used b ≡ record { entries = set_entries m all (entries_in h b); levels = ns ∷ above; root = h.root; used = used } =
      if_true (nat_le (length all) fan) _ _ (parted_by h k (e ∷ es) (bucket_at h b m) false _ _ takes) in
      record {
        root = (tt, (ap (λ (i : Index). i.root) made, ap (λ (i : Index). length i.levels) made));
        counts = sym (ap (λ (i : Index). i.used) made);
        entries = λ n. entries_now false low high takes n ∙ sym (ap (λ (i : Index). i.entries n) made);
        kept = λ n less was. kept_now false low high takes n less was;
        made = λ n from to. absurd (omega (arith, from, to));
        others = λ n less none. others_now false low high takes n less none;
      }

  -- the bucket is parted, and the entry of the new one is handed up
  module _ (low high : List ℕ) (takes : TakesIn h (512 * h.bucket) k (e ∷ es) (bucket_at h b m) true (take (512 * h.bucket) low) (take (512 * h.bucket) high)) where
    over : nat_le (length all) fan ≡ false
    over = parted_by h k (e ∷ es) (bucket_at h b m) true _ _ takes

    next : NextLevel (least_key h) fan wide k ns above e es (entries_in h b) below h.root used may.ascends may.added_ascend may.is m
    next = next_level (least_key h) fan wide k ns above e es (entries_in h b) below h.root used may.ascends may.added_ascend may.is over

    abbrev pub upper : List Entry
    upper = drop (length all / 2) all

    abbrev pub x : Entry
    x = record { separator = first_separator upper; child = used }

    abbrev pub cut : ℕ → List Entry
    cut = set_entries used upper (set_entries m (take (length all / 2) all) (entries_in h b))

    abbrev pub then_ : Blocks
    then_ = with_halves h m used true low high b

    cut_is : entries_in h then_ ≡ cut
    cut_is = λ i n. entries_now true low high takes n i

    pub upper_entries : entries_at h (take (512 * h.bucket) high) ≡ upper
    upper_entries = ((both true low high takes).1 refl).1

    pub may_go_on : MayClimb h k (x ∷ []) (map (parent_entry (entries_in h b)) ns) above path (suc used) then_
    may_go_on = record {
      some = omega arith;
      ascends = next.ascends;
      added_ascend = next.added_ascend;
      is = subst (λ (f : ℕ → List Entry). IsIndexed (least_key h) (map (parent_entry (entries_in h b)) ns) (record { entries = f; levels = above; root = h.root; used = suc used })) (sym cut_is) next.index;
      passes = path_agree k (entries_in h then_) (entries_in h b) above path (subst (λ (f : ℕ → List Entry). AgreeOn f (entries_in h b) (numbers_of above)) (sym cut_is) next.agree) may.passes.1;
      buckets = λ n one_of. subst (Laid h) (sym (stays true low high takes n (λ same. one_of (subst (λ y. IsNoneOf y (numbers_of above)) (sym same) level.apart)) (λ same. one_of (subst (λ y. IsNoneOf y (numbers_of above)) (sym same) (none_below used (numbers_of above) (below_parts used ns (numbers_of above) may.is.used).1)))))
          (may.buckets n (λ none. one_of (none_parts n ns (numbers_of above) none).1));
    }

    tells : (root : Option ℕ) (up : Index) → TellsRoot h (length above) root up → TellsRoot h (suc (length above)) root (record up { levels = beside m used ns ∷ up.levels })
    tells None up told = (tt, (told.1.0, ap suc told.1.1))
    tells (Some r) up told = ((told.0.0, ap suc told.0.1), tt)

    pub goes_on : (growth : Growth) (new : Blocks) → Climbs h k (x ∷ []) above (suc used) growth then_ new → Climbs h k (e ∷ es) (ns ∷ above) used growth b new
    goes_on growth new rest =
        let up : Index = handed_up (least_key h) fan k (x ∷ []) cut above h.root (suc used) in
        let up_is : climbed h k (x ∷ []) above (suc used) then_ ≡ up = ap (λ (f : ℕ → List Entry). handed_up (least_key h) fan k (x ∷ []) f above h.root (suc used)) cut_is in
        let made : climbed h k (e ∷ es) (ns ∷ above) used b ≡ record up { levels = beside m used ns ∷ up.levels } = if_false (nat_le (length all) fan) _ _ over in
        record {
          root = subst (TellsRoot h (suc (length above)) growth.root) (sym made) (tells growth.root up (subst (TellsRoot h (length above) growth.root) up_is rest.root));
          counts = rest.counts ∙ ap (λ (i : Index). i.used) up_is ∙ sym (ap (λ (i : Index). i.used) made);
          entries = λ n. rest.entries n ∙ ap (λ (i : Index). i.entries n) up_is ∙ sym (ap (λ (i : Index). i.entries n) made);
          kept = λ n less was. rest.kept n (omega (arith, less)) (kept_now true low high takes n less was);
          made = λ n from to. ⊎_elim (λ more. rest.made n more to)
              (λ here. let same : used ≡ n = omega (arith, here, from) in subst (λ y. Laid h (bucket_at h new y)) same
              (rest.kept used (omega arith) (subst (Laid h) (sym (upper_half h b m used low high free within)) ((both true low high takes).1 refl).0)))
              (cases_lt used n);
          others = λ n less none. rest.others n (omega (arith, less)) (none_parts n ns (numbers_of above) none).1 ∙ others_now true low high takes n less none;
        }

-- a new root over the old one
pub new_root : (h : FileHead) (k : List ℕ) (e : Entry) (es below : List Entry) (path : List ℕ) (used : ℕ) (b : Blocks) (bytes : List ℕ) → used < h.alloc → h.start - 518 + h.alloc * h.bucket ≤ length b
    → MayClimb h k (e ∷ es) below [] path used b → HasEntries h (record { separator = least_key h; child = h.root } ∷ e ∷ es) (take (512 * h.bucket) bytes)
    → Climbs h k (e ∷ es) [] used (record { root = Some used; used = used + 1 }) b (with_bucket bytes b (bucket_first h used) h.bucket)
new_root h k e es below path used b bytes free within may has =
    let r : Entry = record { separator = least_key h; child = h.root } in
    let new : Blocks = with_bucket bytes b (bucket_first h used) h.bucket in
    let up : Ascends (r ∷ e ∷ es) = subst Ascends (ap (with_added k (e ∷ es)) may.is.leads ∙ ap (λ l. r ∷ e ∷ l) (append-nil es)) may.added_ascend in
    let same = bucket_same h b bytes used free within in
    record {
      root = ((refl, refl), tt);
      counts = omega arith;
      entries = λ n. wrote h b used free within bytes (r ∷ e ∷ es) has.are n;
      kept = λ n less was. subst (IsBucket (index_kind h) (512 * h.bucket)) (sym (bucket_other h b bytes used n (λ is. omega (arith, less, is)))) was;
      made = λ n from to. let here : used ≡ n = omega (arith, from, to) in subst (λ y. IsBucket (index_kind h) (512 * h.bucket) (bucket_at h new y)) here (subst (IsBucket (index_kind h) (512 * h.bucket)) (sym same) (has.bucket up));
      others = λ n less none. bucket_other h b bytes used n (λ is. omega (arith, less, is));
    }

-- Where the blocks are told.

abbrev Told : Type 0
Told = Option Blocks

within_told : (h : FileHead) (disk : DiskState) (b : Blocks) → IsPlaced h disk → length b + 518 ≡ disk.size → h.start - 518 + h.alloc * h.bucket ≤ length b
within_told h disk b placed long = omega (arith, placed.from, placed.to, long)

root_at : (h : FileHead) (k : List ℕ) (added : List Entry) (used : ℕ) (b : Blocks) (bytes : List ℕ) → used < h.alloc → h.start - 518 + h.alloc * h.bucket ≤ length b → HasEntries h (record { separator = least_key h; child = h.root } ∷ added) (take (512 * h.bucket) bytes)
    → (below : List Entry) (path : List ℕ) → MayClimb h k added below [] path used b → Climbs h k added [] used (record { root = Some used; used = used + 1 }) b (with_bucket bytes b (bucket_first h used) h.bucket)
root_at h k [] used b bytes free within has below path may = absurd (omega (arith, may.some))
root_at h k (e ∷ es) used b bytes free within has below path may = new_root h k e es below path used b bytes free within may has

pub root_told : (told now : Told) (h : FileHead) (disk : DiskState) (k : List ℕ) (added : List Entry) (used : ℕ) (bytes : List ℕ) → IsPlaced h disk → used < h.alloc → IfSome told (λ b. length b + 518 ≡ disk.size)
    → now ≡ option_map (λ b. with_bucket bytes b (bucket_first h used) h.bucket) told → HasEntries h (record { separator = least_key h; child = h.root } ∷ added) (take (512 * h.bucket) bytes)
    → IfSome told (λ old. IsSomeAnd now (λ new. (below : List Entry) (path : List ℕ) → MayClimb h k added below [] path used old → Climbs h k added [] used (record { root = Some used; used = used + 1 }) old new))
root_told None now h disk k added used bytes placed free long is has = tt
root_told (Some b) now h disk k added used bytes placed free long is has =
    subst (λ (o : Told). IsSomeAnd o (λ new. (below : List Entry) (path : List ℕ) → MayClimb h k added below [] path used b → Climbs h k added [] used (record { root = Some used; used = used + 1 }) b new)) (sym is)
    (root_at h k added used b bytes free (within_told h disk b placed long) has)

-- what a climb from so many levels promises
abbrev pub Promise : FileHead → List ℕ → List Entry → ℕ → List ℕ → ℕ → Growth → Blocks → Blocks → Type 0
Promise h k added depth path used growth old new = (levels : List (List ℕ)) (below : List Entry) → length levels ≡ depth → MayClimb h k added below levels path used old → Climbs h k added levels used growth old new

root_promise : (h : FileHead) (k : List ℕ) (added : List Entry) (depth : ℕ) (path : List ℕ) (used : ℕ) (growth : Growth) (old new : Blocks) → depth ≡ 0
    → ((below : List Entry) (path : List ℕ) → MayClimb h k added below [] path used old → Climbs h k added [] used growth old new) → Promise h k added depth path used growth old new
root_promise h k added depth path used growth old new none fact [] below count may = fact below path may
root_promise h k added depth path used growth old new none fact (ns ∷ above) below count may = absurd (omega (arith, none, count))

pub at_root : (told now : Told) (h : FileHead) (k : List ℕ) (added : List Entry) (depth : ℕ) (path : List ℕ) (used : ℕ) (growth : Growth) → depth ≡ 0
    → IfSome told (λ old. IsSomeAnd now (λ new. (below : List Entry) (path : List ℕ) → MayClimb h k added below [] path used old → Climbs h k added [] used growth old new)) → IfSome told (λ old. IsSomeAnd now (Promise h k added depth path used growth old))
at_root None now h k added depth path used growth none fact = tt
at_root (Some b) None h k added depth path used growth none fact = fact
at_root (Some b) (Some c) h k added depth path used growth none fact = root_promise h k added depth path used growth b c none fact

-- what a bucket that was handed entries has
abbrev Taken : FileHead → List ℕ → List Entry → ℕ → Bool → List ℕ → List ℕ → Blocks → Type 0
Taken h k added n parted low high b = IsBucket (index_kind h) (512 * h.bucket) (bucket_at h b n) → 1 ≤ length (entries_in h b n) → TakesIn h (512 * h.bucket) k added (bucket_at h b n) parted (take (512 * h.bucket) low) (take (512 * h.bucket) high)

fit_promise : (h : FileHead) (k : List ℕ) (added : List Entry) (depth : ℕ) (path : List ℕ) (used n : ℕ) (b : Blocks) (low high : List ℕ) → 1 ≤ h.bucket → h.key_size ≤ 64 → used < h.alloc → h.start - 518 + h.alloc * h.bucket ≤ length b → 1 ≤ depth
    → n ≡ slice_index_or path (depth - 1) 0 → Taken h k added n false low high b → Promise h k added depth path used (record { root = None; used = used }) b (with_halves h n used false low high b)
fit_promise h k added depth path used n b low high one short free within some at takes [] below count may = absurd (omega (arith, some, count))
fit_promise h k [] depth path used n b low high one short free within some at takes (ns ∷ above) below count may = absurd (omega (arith, may.some))
fit_promise h k (e ∷ es) depth path used n b low high one short free within some at takes (ns ∷ above) below count may =
    let here : bucket_for k (entries_in h b) ns ≡ n = sym may.passes.0 ∙ ap (λ i. slice_index_or path i 0) (steps_are (length above) depth count) ∙ sym at in
    subst (λ x. Climbs h k (e ∷ es) (ns ∷ above) used (record { root = None; used = used }) b (with_halves h x used false low high b)) here
    (fits_here h k e es below ns above path used b one short free within may low high
    (let t : Taken h k (e ∷ es) (bucket_for k (entries_in h b) ns) false low high b = subst (λ x. Taken h k (e ∷ es) x false low high b) (sym here) takes in
    t (laid h k e es below ns above path used b one short free within may) (level h k e es below ns above path used b one short free within may).some))
  where
    steps_are : (a d : ℕ) → suc a ≡ d → a ≡ d - 1
    steps_are a d same = omega arith

cut_promise : (h : FileHead) (k : List ℕ) (added : List Entry) (depth : ℕ) (path : List ℕ) (used n : ℕ) (b new : Blocks) (low high : List ℕ) (up : List Entry) (growth : Growth) → 1 ≤ h.bucket → h.key_size ≤ 64 → used < h.alloc
    → h.start - 518 + h.alloc * h.bucket ≤ length b → 1 ≤ depth → n ≡ slice_index_or path (depth - 1) 0 → Taken h k added n true low high b
    → up ≡ record { separator = first_separator (entries_at h (take (512 * h.bucket) high)); child = used } ∷ [] → Promise h k up (depth - 1) path (used + 1) growth (with_halves h n used true low high b) new → Promise h k added depth path used growth b new
cut_promise h k added depth path used n b new low high up growth one short free within some at takes leads rest [] below count may = absurd (omega (arith, some, count))
cut_promise h k [] depth path used n b new low high up growth one short free within some at takes leads rest (ns ∷ above) below count may = absurd (omega (arith, may.some))
cut_promise h k (e ∷ es) depth path used n b new low high up growth one short free within some at takes leads rest (ns ∷ above) below count may =
    let here : bucket_for k (entries_in h b) ns ≡ n = sym may.passes.0 ∙ ap (λ i. slice_index_or path i 0) (steps_are (length above) depth count) ∙ sym at in
    let t : Taken h k (e ∷ es) (bucket_for k (entries_in h b) ns) true low high b = subst (λ x. Taken h k (e ∷ es) x true low high b) (sym here) takes in
    let took = t (laid h k e es below ns above path used b one short free within may) (level h k e es below ns above path used b one short free within may).some in
    let x : Entry = record { separator = first_separator (upper h k e es below ns above path used b one short free within may low high took); child = used } in
    let up_is : up ≡ x ∷ [] = leads ∙ (λ i. record { separator = first_separator (upper_entries h k e es below ns above path used b one short free within may low high took i); child = used } ∷ []) in
    let next : used + 1 ≡ suc used = omega arith in
    let then_is : with_halves h n used true low high b ≡ with_halves h (bucket_for k (entries_in h b) ns) used true low high b = ap (λ y. with_halves h y used true low high b) (sym here) in
    goes_on h k e es below ns above path used b one short free within may low high took growth new
    (subst (λ c. Climbs h k (x ∷ []) above (suc used) growth c new) then_is (subst (λ u. Climbs h k (x ∷ []) above u growth (with_halves h n used true low high b) new) next
    (subst (λ es'. Climbs h k es' above (used + 1) growth (with_halves h n used true low high b) new) up_is
    (rest above (map (parent_entry (entries_in h b)) ns) (steps_are (length above) depth count)
    (subst (λ es'. MayClimb h k es' (map (parent_entry (entries_in h b)) ns) above path (used + 1) (with_halves h n used true low high b)) (sym up_is)
    (subst (λ u. MayClimb h k (x ∷ []) (map (parent_entry (entries_in h b)) ns) above path u (with_halves h n used true low high b)) (sym next)
    (subst (λ c. MayClimb h k (x ∷ []) (map (parent_entry (entries_in h b)) ns) above path (suc used) c) (sym then_is) (may_go_on h k e es below ns above path used b one short free within may low high took))))))))
  where
    steps_are : (a d : ℕ) → suc a ≡ d → a ≡ d - 1
    steps_are a d same = omega arith

pub fit_told : (told now : Told) (h : FileHead) (disk : DiskState) (k : List ℕ) (added : List Entry) (depth : ℕ) (path : List ℕ) (used n : ℕ) (low high : List ℕ) → IsPlaced h disk → h.key_size ≤ 64 → used < h.alloc → IfSome told (λ b. length b + 518 ≡ disk.size)
    → 1 ≤ depth → n ≡ slice_index_or path (depth - 1) 0 → now ≡ option_map (with_halves h n used false low high) told → IfSome told (Taken h k added n false low high)
    → IfSome told (λ old. IsSomeAnd now (Promise h k added depth path used (record { root = None; used = used }) old))
fit_told None now h disk k added depth path used n low high placed short free long some at is takes = tt
fit_told (Some b) now h disk k added depth path used n low high placed short free long some at is takes =
    subst (λ (o : Told). IsSomeAnd o (Promise h k added depth path used (record { root = None; used = used }) b)) (sym is)
    (fit_promise h k added depth path used n b low high placed.one short free (within_told h disk b placed long) some at takes)

pub cut_told : (told mid now : Told) (h : FileHead) (disk : DiskState) (k : List ℕ) (added : List Entry) (depth : ℕ) (path : List ℕ) (used n : ℕ) (low high : List ℕ) (up : List Entry) (growth : Growth) → IsPlaced h disk → h.key_size ≤ 64 → used < h.alloc
    → IfSome told (λ b. length b + 518 ≡ disk.size) → 1 ≤ depth → n ≡ slice_index_or path (depth - 1) 0 → mid ≡ option_map (with_halves h n used true low high) told → IfSome told (Taken h k added n true low high)
    → up ≡ record { separator = first_separator (entries_at h (take (512 * h.bucket) high)); child = used } ∷ [] → IfSome mid (λ old. IsSomeAnd now (Promise h k up (depth - 1) path (used + 1) growth old))
    → IfSome told (λ old. IsSomeAnd now (Promise h k added depth path used growth old))
cut_told None mid now h disk k added depth path used n low high up growth placed short free long some at is takes leads rest = tt
cut_told (Some b) mid now h disk k added depth path used n low high up growth placed short free long some at is takes leads rest = go now (subst (λ (o : Told). IfSome o (λ old. IsSomeAnd now (Promise h k up (depth - 1) path (used + 1) growth old))) is rest)
  where
    go : (o : Told) → IsSomeAnd o (Promise h k up (depth - 1) path (used + 1) growth (with_halves h n used true low high b)) → IsSomeAnd o (Promise h k added depth path used growth b)
    go None rest = rest
    go (Some c) rest = cut_promise h k added depth path used n b c low high up growth placed.one short free (within_told h disk b placed long) some at takes leads rest
