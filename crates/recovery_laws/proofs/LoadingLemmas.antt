-- Records of which a load leaves each where it is.
use Rattle.std.proofs.Common.{◌≡◌, ℕ, ◌+◌, List, [], ◌∷◌, refl, sym, ◌∙◌, ap, subst, arith, length, map}
use Rattle.std.specs.FinMap.{entries, entries-insert, same_entries_map}
use Rattle.std.specs.Cmp.{nat_cmp_is}
use Rattle.std.specs.FinMap.Entries.{by_order, put}
use Rattle.std.specs.declared.cmp.Ordering.TheVariants.{Less}
use Rattle.vms_model.specs.Keys.{Key, Number}
use Rattle.unit_laws.specs.records_model.Records.{key_cmp}
use Rattle.unit_laws.proofs.records_model.KeyLemmas.{key_cmp_total}
use Rattle.world_laws.specs.run_model.World.{Indexed, Relative, Sequential, numbered, records_from}
use Rattle.world_laws.proofs.run_model.EntryLemmas.{no_entries}
use Rattle.recovery_laws.specs.Loading.{LoadsAsItIs, LoadsLeaveNoGap}

put_first : (first : ℕ) (v : List ℕ) (es : List (Key × List ℕ)) → map (λ e. e.0) es ≡ numbered (first + 1) (length es) → put key_cmp (Number first) v es ≡ (Number first, v) ∷ es
put_first first v [] e = refl
put_first first v (x ∷ es) e =
    ap (λ o. by_order o ((Number first, v) ∷ x ∷ es) ((x.0, v) ∷ es) (x ∷ put key_cmp (Number first) v es))
    (ap (key_cmp (Number first)) (let key : x.0 ≡ Number (first + 1) = cc in key) ∙ sym (nat_cmp_is first (first + 1) Less (omega arith)))

entries_from : (first : ℕ) (es : List (Key × List ℕ)) → map (λ e. e.0) es ≡ numbered first (length es) → entries (records_from first es) ≡ es
entries_from first [] e = no_entries key_cmp
entries_from first (x ∷ es) e =
    entries-insert key_cmp_total (records_from (first + 1) es) (Number first) x.1
    ∙ ap (put key_cmp (Number first) x.1) (entries_from (first + 1) es rest)
    ∙ put_first first x.1 es rest
    ∙ ap (λ k. (k, x.1) ∷ es) (let key : Number first ≡ x.0 = cc in key)
  where
    rest : map (λ e. e.0) es ≡ numbered (first + 1) (length es)
    rest = cc

pub loads_as_it_is : LoadsAsItIs
loads_as_it_is Sequential m gaps = same_entries_map (records_from 1 (entries m)) m (entries_from 1 (entries m) gaps)
loads_as_it_is (Relative greatest) m gaps = refl
loads_as_it_is (Indexed position size) m gaps = refl

-- What is loaded has none.

from_first : (first : ℕ) (es : List (Key × List ℕ)) → map (λ e. e.0) (entries (records_from first es)) ≡ numbered first (length (entries (records_from first es)))
from_first first [] = subst (λ fs. map (λ e. e.0) fs ≡ numbered first (length fs)) (sym (no_entries key_cmp)) refl
from_first first (x ∷ es) =
    let rest = from_first (first + 1) es in
    subst (λ fs. map (λ e. e.0) fs ≡ numbered first (length fs)) (sym (entries-insert key_cmp_total (records_from (first + 1) es) (Number first) x.1 ∙ put_first first x.1 (entries (records_from (first + 1) es)) rest))
    (ap (λ ks. Number first ∷ ks) rest)

pub loads_leave_no_gap : LoadsLeaveNoGap
loads_leave_no_gap Sequential m = from_first 1 (entries m)
loads_leave_no_gap (Relative greatest) m = tt
loads_leave_no_gap (Indexed position size) m = tt
