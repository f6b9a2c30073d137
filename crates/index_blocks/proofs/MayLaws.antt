-- An index that leads to its leaves before entries are handed up, and after.
use Rattle.std.proofs.Common.{◌≡◌, ◌≤◌, ◌<◌, ⊎_elim, ◌+◌, ◌-◌, ◌*◌, ◌==◌, ℕ, zero, suc, Bool, true, false, List, [], ◌∷◌, ◌++◌, length, map, if◌then◌else◌, is_some, unwrap_or, Option, Some, None, slice_index_or, refl, sym, ap, ◌∙◌, subst, arith}
use Rattle.std.proofs.lemmas.Bool.{cases_lt}
use Rattle.file_base.specs.declared.head.FileHead.{FileHead}
use Rattle.index_bucket.specs.bucket_page.Pages.{IsBucket}
use Rattle.index_bucket.specs.index_model.Indexes.{Entry, Index, entries_along, parent_entry, AllSome, AreLevels, child_for, Ascends, with_added, numbers_of, IsNoneOf, AllDiffer, AllBelow}
use Rattle.index_bucket.specs.index_model.Laws.{HandsUp}
use Rattle.index_bucket.specs.index_model.Trees.{child_of}
use Rattle.index_bucket.proofs.index_model.HandLemmas.{same_test, self_test, none_parts, below_parts, below_both, hand_up_keeps_index}
use Rattle.index_bucket.specs.Entries.{index_kind, sizes_of, IsIndexBucket}
use Rattle.index_bucket.proofs.HandLaws.{fan_out_wide}
use Rattle.index_blocks.specs.Buckets.{bucket_at}
use Rattle.index_blocks.specs.Levels.{entries_in, least_key, below_at, levels_above, height, leaf_entries, levels_of, AllAre, LeadsDown, HasRoot, way}
use Rattle.index_blocks.specs.Climbs.{IsPath, MayClimb, Climbs, TellsRoot, climbed}
use Rattle.index_blocks.specs.Laws.{LevelsMayClimb, ClimbLeads, LeadsOn, IsNoted, grown_head}
use Rattle.index_blocks.specs.declared.growing.Growth.{Growth}
use Rattle.index_blocks.proofs.LevelLaws.{length_levels, levels_lead, levels_read, way_is}

-- one of these numbers is so
pub one_is : (P : ℕ → Type 0) (ns : List ℕ) (n : ℕ) → AllAre P ns → (IsNoneOf n ns → ⊥) → P n
one_is P [] n all one = absurd (one tt)
one_is P (m ∷ ms) n all one = go (n == m) refl (one_is P ms n all.1)
  where
    go : (t : Bool) → (n == m) ≡ t → ((IsNoneOf n ms → ⊥) → P n) → P n
    go true is later = subst P (sym (same_test n m is)) all.0
    go false is later = later (λ none. one ((λ same. let self = self_test n in let back : (n == m) ≡ true = ap (λ x. n == x) (sym same) ∙ self in let wrong : ⊥ = cc in wrong), none))

-- the buckets that were noted are those of the levels
passes : (h : FileHead) (b : List (List ℕ)) (is : LeadsDown h b) (up : Ascends (leaf_entries h b)) (k path : List ℕ) → IsNoted h b k path → (d : ℕ) → d ≤ height h → IsPath k (entries_in h b) (levels_above h b d) path
passes h b is up k path noted zero within = tt
passes h b is up k path noted (suc d) within = (
  ap (λ i. slice_index_or path i 0) (length_levels h b d) ∙ noted d (omega (arith, within)) ∙ way_is h b is up k d (omega (arith, within)) ∙ ap (child_for k) (sym (is.joins d (omega (arith, within)))),
  passes h b is up k path noted d (omega (arith, within)),
)

pub levels_may_climb : LevelsMayClimb
levels_may_climb h b k path added used is up numbers noted some ascends = record {
  some = some;
  ascends = up;
  added_ascend = ascends;
  is = record { leads = (levels_lead h b is up).levels; differ = numbers.differ; used = numbers.below };
  passes = passes h b is up k path noted (height h) (omega arith);
  buckets = λ n one. (one_is (λ m. IsIndexBucket h (bucket_at h b m)) (numbers_of (levels_of h b)) n is.buckets one).bucket;
}

-- each number that is one of these is so
pub all_from : (P : ℕ → Type 0) (ns : List ℕ) → ((n : ℕ) → (IsNoneOf n ns → ⊥) → P n) → AllAre P ns
all_from P [] each = tt
all_from P (n ∷ ns) each = (each n (λ none. none.0 refl), all_from P ns (λ m one. each m (λ none. one none.1)))

pub all_both : (P : ℕ → Type 0) (a c : List ℕ) → AllAre P a → AllAre P c → AllAre P (a ++ c)
all_both P [] c first second = second
all_both P (n ∷ ns) c first second = (first.0, all_both P ns c first.1 second)

each_below : (bound : ℕ) (ns : List ℕ) → AllBelow bound ns → AllAre (λ m. m < bound) ns
each_below bound [] all = tt
each_below bound (n ∷ ns) all = (all.0, each_below bound ns all.1)

pub map_append : (a c : List Entry) → map child_of (a ++ c) ≡ map child_of a ++ map child_of c
map_append [] c = refl
map_append (e ∷ es) c = ap (λ l. e.child ∷ l) (map_append es c)

-- a bucket with entries that lead below a bound
abbrev Leads : (ℕ → List Entry) → ℕ → ℕ → Type 0
Leads f bound n = (1 ≤ length (f n)) × AllBelow bound (map child_of (f n))

level_leads : (f : ℕ → List Entry) (bound : ℕ) (ns : List ℕ) → AllSome f ns → AllBelow bound (map child_of (entries_along f ns)) → AllAre (Leads f bound) ns
level_leads f bound [] some all = tt
level_leads f bound (n ∷ ns) some all =
    let parts = below_parts bound (map child_of (f n)) (map child_of (entries_along f ns)) (subst (AllBelow bound) (map_append (f n) (entries_along f ns)) all) in
    ((some.0, parts.0), level_leads f bound ns some.1 parts.1)

children_of_parents : (f : ℕ → List Entry) (ns : List ℕ) → map child_of (map (parent_entry f) ns) ≡ ns
children_of_parents f [] = refl
children_of_parents f (n ∷ ns) = ap (λ l. n ∷ l) (children_of_parents f ns)

all_lead : (least : List ℕ) (f : ℕ → List Entry) (bound : ℕ) (below : List Entry) (levels : List (List ℕ)) (root : ℕ) → AreLevels least f below levels root → AllBelow bound (map child_of below) → AllBelow bound (numbers_of levels) → AllAre (Leads f bound) (numbers_of levels)
all_lead least f bound below [] root is under numbers = tt
all_lead least f bound below (ns ∷ above) root is under numbers =
    let parts = below_parts bound ns (numbers_of above) numbers in
    all_both (Leads f bound) ns (numbers_of above)
    (level_leads f bound ns is.1 (subst (λ es. AllBelow bound (map child_of es)) (sym is.0) under))
    (all_lead least f bound (map (parent_entry f) ns) above root is.2 (subst (AllBelow bound) (sym (children_of_parents f ns)) parts.0) parts.1)

module _ (h : FileHead) (k path : List ℕ) (added : List Entry) (used : ℕ) (growth : Growth) (old new : List (List ℕ)) (form : HasRoot h) (one : 1 ≤ h.bucket) (may : MayClimb h k added (leaf_entries h old) (levels_of h old) path used old)
    (climbs : Climbs h k added (levels_of h old) used growth old new) (under : AllBelow growth.used (map child_of (with_added k added (leaf_entries h old)))) where
  abbrev i : Index
  i = climbed h k added (levels_of h old) used old

  abbrev h' : FileHead
  h' = grown_head h growth

  abbrev all : List Entry
  all = with_added k added (leaf_entries h old)

  keeps : HandsUp (least_key h) (sizes_of h).fan_out k added (leaf_entries h old) (record { entries = entries_in h old; levels = levels_of h old; root = h.root; used = used }) i
  keeps = hand_up_keeps_index (least_key h) (sizes_of h).fan_out k added (leaf_entries h old) (record { entries = entries_in h old; levels = levels_of h old; root = h.root; used = used }) (fan_out_wide h.bucket h.key_size one form.short) may.ascends may.added_ascend may.is

  root_is : i.root ≡ h'.root
  root_is = go growth.root climbs.root
    where
      go : (r : Option ℕ) → TellsRoot h (length (levels_of h old)) r i → i.root ≡ unwrap_or r h.root
      go None told = told.1.0
      go (Some n) told = told.0.0

  levels_are : h'.levels ≡ suc (length i.levels)
  levels_are = go growth.root climbs.root
    where
      go : (r : Option ℕ) → TellsRoot h (length (levels_of h old)) r i → (if is_some r then suc h.levels else h.levels) ≡ suc (length i.levels)
      go None told = let count = length_levels h old (height h) in let same = told.1.1 in let some = form.some in omega (arith, count, same, some)
      go (Some n) told = let count = length_levels h old (height h) in let same = told.0.1 in let some = form.some in omega (arith, count, same, some)

  levels_lead' : AreLevels (least_key h) i.entries all i.levels h'.root
  levels_lead' = subst (AreLevels (least_key h) i.entries all i.levels) root_is keeps.is.leads

  used_is : AllBelow growth.used (numbers_of i.levels)
  used_is = subst (λ u. AllBelow u (numbers_of i.levels)) (sym climbs.counts) keeps.is.used

  laid : (n : ℕ) → (IsNoneOf n (numbers_of i.levels) → ⊥) → IsBucket (index_kind h) (512 * h.bucket) (bucket_at h new n)
  laid n is_one = ⊎_elim
      (λ less. climbs.kept n less (may.buckets n (λ none. is_one (keeps.fresh n less none))))
      (λ more. climbs.made n (omega (arith, more)) (one_is (λ m. m < growth.used) (numbers_of i.levels) n (each_below growth.used (numbers_of i.levels) used_is) is_one))
      (cases_lt n used)

  leading : AllAre (Leads i.entries growth.used) (numbers_of i.levels)
  leading = all_lead (least_key h) i.entries growth.used all i.levels h'.root levels_lead' under used_is

  bucket_is : (n : ℕ) → (IsNoneOf n (numbers_of i.levels) → ⊥) → IsIndexBucket h' (bucket_at h' new n)
  bucket_is n is_one =
      let leads = one_is (Leads i.entries growth.used) (numbers_of i.levels) n leading is_one in
      record {
        bucket = laid n is_one;
        some = subst (λ (es : List Entry). 1 ≤ length es) (sym (climbs.entries n)) leads.0;
        used = subst (λ (es : List Entry). AllBelow growth.used (map child_of es)) (sym (climbs.entries n)) leads.1;
      }

  pub climb_leads_on : LeadsOn h (grown_head h growth) k added old new
  climb_leads_on =
      let read = levels_read h' new i.entries all i.levels levels_lead' levels_are (all_from (λ n. entries_in h' new n ≡ i.entries n) (numbers_of i.levels) (λ n is_one. climbs.entries n)) in
      record {
        leads = record {
          buckets = subst (λ levels. AllAre (λ n. IsIndexBucket h' (bucket_at h' new n)) (numbers_of levels)) (sym read.levels_are) (all_from (λ n. IsIndexBucket h' (bucket_at h' new n)) (numbers_of i.levels) bucket_is);
          joins = read.joins;
        };
        leaves = read.leaves_are;
        numbers = record {
          differ = subst (λ levels. AllDiffer (numbers_of levels)) (sym read.levels_are) keeps.is.differ;
          below = subst (λ levels. AllBelow growth.used (numbers_of levels)) (sym read.levels_are) used_is;
        };
      }

pub climb_leads : ClimbLeads
climb_leads h k path added used growth old new form one may climbs under = climb_leads_on h k path added used growth old new form one may climbs under
