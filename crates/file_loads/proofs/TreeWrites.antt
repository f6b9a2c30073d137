-- The leaves of an indexed file, their lowest keys, and the index over them.
use Rattle.std.proofs.Common.{◌≡◌, ◌≤◌, ◌+◌, ◌-◌, ◌*◌, ℕ, suc, Bool, true, false, List, [], ◌∷◌, ◌++◌, length, map, nat_le, if◌then◌else◌, Option, refl, ap, subst, ◌∙◌, length-append, arith}
use Rattle.std.proofs.lemmas.List.{length-replicate}
use Rattle.block_disk.specs.Disk.{DiskState}
use Rattle.file_base.specs.declared.head.FileHead.{FileHead}
use Rattle.file_base.specs.declared.head.Organization.{Organization}
use Rattle.file_base.specs.declared.head.Organization.TheVariants.{Sequential, Indexed}
use Rattle.bucket_page.specs.Pages.{key_in, joined}
use Rattle.change_set.specs.Files.{IsPlaced}
use Rattle.load_pages.specs.indexed_file.Chain.{HasKeys, kind_of}
use Rattle.bucket_page.specs.declared.kind.PageKind.TheVariants.{Seq}
use Rattle.load_pages.specs.load_laws.Records.{Keyed, values_of}
use Rattle.load_pages.specs.load_laws.Pages.{StandTold, Adds}
use Rattle.load_pages.specs.load_laws.Chains.{raw_for, packed, chain_pages}
use Rattle.load_pages.specs.load_laws.Keys.{first_raw_key, lowest_keys, index_pages, AllKeys}
use Rattle.load_pages.specs.load_laws.Loads.{AreLoadable, AllSuitBy, HeadBy, leaf_parts, pages_by}
use Rattle.load_pages.proofs.load_laws.RawLemmas.{is_text}
use Rattle.load_pages.proofs.load_laws.TreeLaws.{length_chain, length_lowest}
use Rattle.load_pages.proofs.load_laws.LoadLaws.{pages_count}
use Rattle.load_pages.specs.declared.records.KeyedRecord.{KeyedRecord}
use Rattle.load_pages.specs.Given.{keyed, raw_of}
use Rattle.load_pages.proofs.KeyLemmas.{key_of_raw}
use Rattle.file_loads.proofs.GivenLemmas.{raws_same}

-- each slot's key has this size
abbrev SizedRaws : FileHead → List (List ℕ) → Type 0
SizedRaws h [] = Unit {0}
SizedRaws h (s ∷ ss) = (length (key_in (kind_of h) s) ≡ h.key_size) × SizedRaws h ss

sized_raws : (h : FileHead) (es : List Keyed) → AllSuitBy Indexed h es → SizedRaws h (map (raw_for (kind_of h)) (values_of es))
sized_raws h [] all = tt
sized_raws h (e ∷ es) all =
    let is = is_text h e.0 e.1 all.0 in
    (ap (λ (x : List ℕ). length x) (key_of_raw h (raw_for (kind_of h) e.1) e.1 refl ∙ is.has) ∙ is.size, sized_raws h es all.1)

first_sized : (h : FileHead) (cap : ℕ) (s : List ℕ) (now ss : List (List ℕ)) → length (key_in (kind_of h) s) ≡ h.key_size → SizedRaws h ss → AllKeys h.key_size (map (first_raw_key h) (packed cap (s ∷ now) ss))
first_sized h cap s now [] one all = (one, tt)
first_sized h cap s now (r ∷ rs) one all = go (nat_le (length (joined (s ∷ now ++ r ∷ []))) cap) (first_sized h cap s (now ++ r ∷ []) rs one all.1) (first_sized h cap r [] rs all.0 all.1)
  where
    go : (t : Bool) → AllKeys h.key_size (map (first_raw_key h) (packed cap (s ∷ now ++ r ∷ []) rs)) → AllKeys h.key_size (map (first_raw_key h) (packed cap (r ∷ []) rs))
        → AllKeys h.key_size (map (first_raw_key h) (if t then packed cap (s ∷ now ++ r ∷ []) rs else (s ∷ now) ∷ packed cap (r ∷ []) rs))
    go true here next = here
    go false here next = (one, next)

lowest_from : (h : FileHead) (parts : List (List (List ℕ))) → AllKeys h.key_size (map (first_raw_key h) parts) → AllKeys h.key_size (lowest_keys h parts)
lowest_from h [] all = tt
lowest_from h (p ∷ ps) all = (length-replicate h.key_size 0, all.1)

lowest_sized : (h : FileHead) (cap : ℕ) (raws : List (List ℕ)) → SizedRaws h raws → AllKeys h.key_size (lowest_keys h (packed cap [] raws))
lowest_sized h cap [] all = (length-replicate h.key_size 0, tt)
lowest_sized h cap (s ∷ ss) all = go (nat_le (length (joined ([] ++ s ∷ []))) cap) (first_sized h cap s [] ss all.0 all.1)
  where
    go : (t : Bool) → AllKeys h.key_size (map (first_raw_key h) (packed cap (s ∷ []) ss)) → AllKeys h.key_size (lowest_keys h (if t then packed cap (s ∷ []) ss else [] ∷ packed cap (s ∷ []) ss))
    go true here = lowest_from h (packed cap (s ∷ []) ss) here
    go false here = (length-replicate h.key_size 0, here)

-- What an indexed file's load may rest on.
pub record TreeFits (h : FileHead) (es : List Keyed) : Type 0 where
  pub suit : AllSuitBy Indexed h es
  pub keys : HasKeys h
  pub leaves : length (leaf_parts h es) ≤ h.alloc
  pub lowest : length (lowest_keys h (leaf_parts h es)) ≡ length (leaf_parts h es)
  pub all : length (leaf_parts h es) + length (index_pages h 0 (lowest_keys h (leaf_parts h es))) ≤ h.alloc
  pub sized : AllKeys h.key_size (lowest_keys h (leaf_parts h es))
  pub chain : length (chain_pages (kind_of h) 0 (leaf_parts h es)) ≡ length (leaf_parts h es)

pub tree_fits : (h : FileHead) (disk : DiskState) (es : List Keyed) → h.organization ≡ Indexed → IsPlaced h disk → AreLoadable h es → TreeFits h es
tree_fits h disk es is placed loadable =
    let suit : AllSuitBy Indexed h es = subst (λ (o : Organization). AllSuitBy o h es) is loadable.suit in
    let pages = pages_count h disk es placed loadable in
    let most = loadable.fits in
    let fits : length (pages_by Indexed h es) ≤ h.alloc = subst (λ (o : Organization). length (pages_by o h es) ≤ h.alloc) is (omega (arith, pages, most)) in
    let both = length-append (chain_pages (kind_of h) 0 (leaf_parts h es)) (index_pages h 0 (lowest_keys h (leaf_parts h es))) in
    let chain = length_chain h 0 (leaf_parts h es) in
    record {
      suit = suit;
      keys = subst (λ (o : Organization). HeadBy o h) is loadable.head;
      leaves = omega (arith, fits, both, chain);
      lowest = length_lowest h (leaf_parts h es);
      all = omega (arith, fits, both, chain);
      sized = lowest_sized h (512 * h.bucket - 16) (map (raw_for (kind_of h)) (values_of es)) (sized_raws h es suit);
      chain = chain;
    }

-- and a sequential file's
pub seq_fits : (h : FileHead) (disk : DiskState) (es : List Keyed) → h.organization ≡ Sequential → IsPlaced h disk → AreLoadable h es → length (packed (512 * h.bucket - 16) [] (map (raw_for Seq) (values_of es))) ≤ h.alloc
seq_fits h disk es is placed loadable =
    let pages = pages_count h disk es placed loadable in
    let most = loadable.fits in
    let fits : length (pages_by Sequential h es) ≤ h.alloc = subst (λ (o : Organization). length (pages_by o h es) ≤ h.alloc) is (omega (arith, pages, most)) in
    let chain = long 0 (packed (512 * h.bucket - 16) [] (map (raw_for Seq) (values_of es))) in omega (arith, fits, chain)
  where
    long : (n : ℕ) (parts : List (List (List ℕ))) → length (chain_pages Seq n parts) ≡ length parts
    long n [] = refl
    long n (p ∷ ps) = ap suc (long (suc n) ps)

-- the leaves stand, and the index over them was written
pub tree_stands : (h : FileHead) (rs : List KeyedRecord) (keys : List (List ℕ)) (mid new : Option (List (List ℕ))) → TreeFits h (map keyed rs) → keys ≡ lowest_keys h (leaf_parts h (map keyed rs))
    → StandTold h mid (chain_pages (kind_of h) 0 (packed (512 * h.bucket - 16) [] (map (raw_of (kind_of h)) rs))) → Adds h (0 + length keys) (index_pages h 0 keys) mid new → StandTold h new (pages_by Indexed h (map keyed rs))
tree_stands h rs keys mid new fits is stand adds =
    let es = map keyed rs in
    let leaves : StandTold h mid (chain_pages (kind_of h) 0 (leaf_parts h es)) =
    subst (λ (raws : List (List ℕ)). StandTold h mid (chain_pages (kind_of h) 0 (packed (512 * h.bucket - 16) [] raws))) (raws_same (kind_of h) rs) stand in
    let index : Adds h (0 + length (lowest_keys h (leaf_parts h es))) (index_pages h 0 (lowest_keys h (leaf_parts h es))) mid new = subst (λ (ks : List (List ℕ)). Adds h (0 + length ks) (index_pages h 0 ks) mid new) is adds in
    let chain = fits.chain in
    let lowest = fits.lowest in
    index (chain_pages (kind_of h) 0 (leaf_parts h es)) (omega (arith, chain, lowest)) leaves
