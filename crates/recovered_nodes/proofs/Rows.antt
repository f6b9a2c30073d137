-- Loaded records as the world loads them.
use Rattle.std.proofs.Common.{◌≡◌, ◌+◌, ◌-◌, ◌*◌, ◌/◌, ℕ, suc, Bool, true, false, List, [], ◌∷◌, length, map, max, if◌then◌else◌, refl, sym, ◌∙◌, ap, subst, arith}
use Rattle.std.specs.FinMap.{entries, entries-insert, get-entries}
use Rattle.std.specs.FinMap.Entries.{by_order, find, put}
use Rattle.std.specs.Cmp.{nat_cmp_is}
use Rattle.std.specs.declared.cmp.Ordering.{Ordering}
use Rattle.std.specs.declared.cmp.Ordering.TheVariants.{Less}
use Rattle.file_base.specs.declared.head.FileHead.{FileHead}
use Rattle.file_base.specs.declared.head.Organization.{Organization as Kept}
use Rattle.file_base.specs.declared.head.Organization.TheVariants as kept
use Rattle.file_base.specs.declared.head.Span.{Span}
use Rattle.vms_base.specs.declared.moments.Moment.{Moment}
use Rattle.vms_model.specs.Keys.{End, Key, Number, Text}
use Rattle.recover_rms.specs.load_laws.Loads.{AllSuitBy, IsLoaded, buckets_by, head_by, layout_by, loaded_layout}
use Rattle.recover_rms.specs.load_laws.Records.{Keyed, texts_of, values_of}
use Rattle.records_model.specs.Records.{Records, key_cmp}
use Rattle.records_model.proofs.KeyLemmas.{key_cmp_total}
use Rattle.records_model.specs.Placing.{filled_by, first_bucket}
use Rattle.world_laws.proofs.run_model.EntryLemmas.{no_entries}
use Rattle.world_laws.specs.run_model.World.{File, Indexed, Organization, Relative, Sequential, buckets_loaded, buckets_taken, key_size_of, layout_loaded, loaded_map, records_from, sizes_of, slots_loaded}
use Rattle.seq_file.specs.Records.{slot_sizes}
use Rattle.index_model.specs.tree_model.Layouts.{Layout, Sizes, used_of}
use Rattle.index_model.specs.tree_model.Loads.{loaded, slot_for}
use Rattle.unit_world.specs.volume.declared.catalog.Catalog.{Catalog}
use Rattle.unit_world.specs.directory_model.Files.{IsHeadOf, organized_by}
use Rattle.recovered_nodes.specs.Recovering.{IsLoadedWith, IsRecoveredHead, IsRenewed, IsSince}
use Rattle.recover_rms.specs.file_recoveries.Heads.{renewed_span}
use Rattle.recover_rms.specs.file_recoveries.Suiting.{MayHave}
use Rattle.recover_rms.specs.Loading.{as_loaded, at_positions, loaded_behind}
use Rattle.recover_rms.specs.Replacing.{IsHeadWith, moved_head, wanted_buckets}
use Rattle.recover_rms.proofs.LoadLemmas.{all_listed}
use Rattle.recovered_nodes.specs.Rows.{LoadsAreRows}

-- The head.

renewed_so : (marked : Bool) (s : Span) → IsRenewed marked s (renewed_span marked s)
renewed_so true s = refl
renewed_so false s = refl

since_so : (marked : Bool) (g old : Moment) → IsSince marked g.0 old (if marked then g else old)
since_so true g old = refl
since_so false g old = refl

-- a head whose other fields are those of another
abbrev IsBeside : FileHead → FileHead → Type 0
IsBeside h k = k ≡ record h { start = k.start; alloc = k.alloc; used = k.used; root = k.root; levels = k.levels; count = k.count; ai = k.ai; bi = k.bi; bi_since = k.bi_since }

beside_so : (o : Kept) (h : FileHead) (g : Moment) (start buckets : ℕ) (es : List Keyed) → IsBeside h (head_by o (moved_head h g start buckets) es)
beside_so kept.Sequential h g start buckets es = refl
beside_so kept.Relative h g start buckets es = refl
beside_so kept.Indexed h g start buckets es = refl

journals_so : (o : Kept) (h : FileHead) (g : Moment) (start buckets : ℕ) (es : List Keyed) →
    IsRenewed h.marks.ai h.ai (head_by o (moved_head h g start buckets) es).ai × IsRenewed h.marks.bi h.bi (head_by o (moved_head h g start buckets) es).bi × IsSince h.marks.bi g.0 h.bi_since (head_by o (moved_head h g start buckets) es).bi_since
journals_so kept.Sequential h g start buckets es = (renewed_so h.marks.ai h.ai, renewed_so h.marks.bi h.bi, since_so h.marks.bi g h.bi_since)
journals_so kept.Relative h g start buckets es = (renewed_so h.marks.ai h.ai, renewed_so h.marks.bi h.bi, since_so h.marks.bi g h.bi_since)
journals_so kept.Indexed h g start buckets es = (renewed_so h.marks.ai h.ai, renewed_so h.marks.bi h.bi, since_so h.marks.bi g h.bi_since)

heads_so : (v : Catalog) (h new : FileHead) (es : List Keyed) → IsHeadWith v h es new → IsRecoveredHead v.home.greatest_moment.0 h new
heads_so v h new es with_es =
    let g = v.home.greatest_moment in
    let made = head_by h.organization (moved_head h g new.start new.alloc) es in
    let journals = journals_so h.organization h g new.start new.alloc es in
    record {
      is = subst (IsBeside h) (sym with_es.is) (beside_so h.organization h g new.start new.alloc es);
      after = subst (λ (k : FileHead). IsRenewed h.marks.ai h.ai k.ai) (sym with_es.is) journals.0;
      before = subst (λ (k : FileHead). IsRenewed h.marks.bi h.bi k.bi) (sym with_es.is) journals.1;
      since = subst (λ (k : FileHead). IsSince h.marks.bi g.0 h.bi_since k.bi_since) (sym with_es.is) journals.2;
    }

-- The records.

put_first : (n : ℕ) (v : List ℕ) (es : List Keyed) → put key_cmp (Number (suc n)) v (at_positions (suc n) es) ≡ (Number (suc n), v) ∷ at_positions (suc n) es
put_first n v [] = refl
put_first n v (e ∷ es) =
    ap (λ (o : Ordering). by_order o ((Number (suc n), v) ∷ at_positions (suc n) (e ∷ es)) ((Number (suc (suc n)), v) ∷ at_positions (suc (suc n)) es) ((Number (suc (suc n)), e.1) ∷ put key_cmp (Number (suc n)) v (at_positions (suc (suc n)) es)))
    (sym (nat_cmp_is (suc n) (suc (suc n)) Less (omega arith)))

next_is : (n : ℕ) → suc n + 1 ≡ suc (suc n)
next_is n = omega arith

positions_so : (n : ℕ) (es : List Keyed) → entries (records_from (suc n) es) ≡ at_positions n es
positions_so n [] = no_entries key_cmp
positions_so n (e ∷ es) =
    entries-insert key_cmp_total (records_from (suc n + 1) es) (Number (suc n)) e.1 ∙ ap (λ (k : ℕ). put key_cmp (Number (suc n)) e.1 (entries (records_from k es))) (next_is n) ∙ ap (put key_cmp (Number (suc n)) e.1) (positions_so (suc n) es) ∙ put_first n e.1 es

-- the records of the world, as they are loaded
entries_so : (o : Kept) (h : FileHead) (m : Records) → entries (loaded_map (organized_by o h) m) ≡ loaded_behind o 0 (entries m)
entries_so kept.Sequential h m = positions_so 0 (entries m)
entries_so kept.Relative h m = refl
entries_so kept.Indexed h m = refl

loaded_entries : (h : FileHead) (file : File) (m : Records) → IsHeadOf h file → entries (loaded_map file.organization m) ≡ as_loaded h m
loaded_entries h file m head = ap (λ (o : Organization). entries (loaded_map o m)) head.organization ∙ entries_so h.organization h m

-- The layout.

texts_so : (h : FileHead) (es : List Keyed) → AllSuitBy kept.Indexed h es → slots_loaded es ≡ map slot_for (texts_of es)
texts_so h [] all = refl
texts_so h (e ∷ es) all = text_so e.0 e.1 es (all.0, tt) (texts_so h es all.1)
  where
    text_so : (k : Key) (v : List ℕ) (es : List Keyed) → AllSuitBy kept.Indexed h ((k, v) ∷ []) → slots_loaded es ≡ map slot_for (texts_of es) → slots_loaded ((k, v) ∷ es) ≡ map slot_for (texts_of ((k, v) ∷ es))
    text_so (Text t) v es suits rest = ap (λ ss. slot_for (t, v) ∷ ss) rest
    text_so (Number n) v es suits rest = absurd suits.0
    text_so End v es suits rest = absurd suits.0

-- the sizes of a file of the world are those of its head
sizes_so : (o : Kept) (h : FileHead) (file : File) → IsHeadOf h file → h.organization ≡ o → sizes_of file ≡ record { capacity = 512 * h.bucket - 16; fan_out = (512 * h.bucket - 16) / (key_size_of (organized_by o h) + 4) }
sizes_so o h file head is =
    ap (λ (b : ℕ). record { capacity = 512 * b - 16; fan_out = (512 * b - 16) / (key_size_of file.organization + 4) }) head.bucket
    ∙ ap (λ (x : Organization). record { capacity = 512 * h.bucket - 16; fan_out = (512 * h.bucket - 16) / (key_size_of x + 4) }) (head.organization ∙ ap (λ (k : Kept). organized_by k h) is)

-- the layout of the loaded records by the sizes of a head is that of the world
layout_so : (o : Kept) (h k : FileHead) (sizes : Sizes) (m : Records) → k.bucket ≡ h.bucket → k.key_size ≡ h.key_size → sizes ≡ record { capacity = 512 * h.bucket - 16; fan_out = (512 * h.bucket - 16) / (key_size_of (organized_by o h) + 4) } →
    AllSuitBy o h (entries m) → layout_loaded (organized_by o h) sizes (loaded_map (organized_by o h) m) ≡ layout_by o k (loaded_behind o 0 (entries m))
layout_so kept.Sequential h k sizes m bucket key are all = refl
layout_so kept.Relative h k sizes m bucket key are all = refl
layout_so kept.Indexed h k sizes m bucket key are all =
    ap (λ (s : Sizes). loaded s h.key_size (slots_loaded (entries m))) are
    ∙ ap (loaded (record { capacity = 512 * h.bucket - 16; fan_out = (512 * h.bucket - 16) / (h.key_size + 4) }) h.key_size) (texts_so h (entries m) all)
    ∙ λ i. loaded (record { capacity = 512 * sym bucket i - 16; fan_out = (512 * sym bucket i - 16) / (sym key i + 4) }) (sym key i) (map slot_for (texts_of (entries m)))

layout_told : (h k : FileHead) (file : File) (m : Records) → IsHeadOf h file → MayHave h m → k.organization ≡ h.organization → k.bucket ≡ h.bucket → k.key_size ≡ h.key_size →
    layout_loaded file.organization (sizes_of file) (loaded_map file.organization m) ≡ loaded_layout k (as_loaded h m)
layout_told h k file m head may organization bucket key =
    ap (λ (o : Organization). layout_loaded o (sizes_of file) (loaded_map o m)) head.organization
    ∙ layout_so h.organization h k (sizes_of file) m bucket key (sizes_so h.organization h file head refl) (all_listed h m may)
    ∙ ap (λ (o : Kept). layout_by o k (as_loaded h m)) (sym organization)

-- what the head with loaded records keeps of the one before
keeps_form : (o : Kept) (h : FileHead) (g : Moment) (start buckets : ℕ) (es : List Keyed) →
    ((head_by o (moved_head h g start buckets) es).organization ≡ h.organization) × ((head_by o (moved_head h g start buckets) es).bucket ≡ h.bucket) × ((head_by o (moved_head h g start buckets) es).key_size ≡ h.key_size)
keeps_form kept.Sequential h g start buckets es = (refl, refl, refl)
keeps_form kept.Relative h g start buckets es = (refl, refl, refl)
keeps_form kept.Indexed h g start buckets es = (refl, refl, refl)

loaded_so : (content : List (List ℕ)) (v : Catalog) (h new : FileHead) (file : File) (m : Records) → IsHeadOf h file → MayHave h m → IsHeadWith v h (as_loaded h m) new → IsLoaded new content (as_loaded h m) → IsLoadedWith (loaded_map file.organization m) file content new
loaded_so content v h new file m head may with_es loaded =
    let form = keeps_form h.organization h v.home.greatest_moment new.start new.alloc (as_loaded h m) in
    let organization : new.organization ≡ h.organization = ap (λ (k : FileHead). k.organization) with_es.is ∙ form.0 in
    let bucket : new.bucket ≡ h.bucket = ap (λ (k : FileHead). k.bucket) with_es.is ∙ form.1 in
    let key : new.key_size ≡ h.key_size = ap (λ (k : FileHead). k.key_size) with_es.is ∙ form.2 in
    record {
      form = with_es.form;
      laid = loaded.laid;
      records = λ q. get-entries (loaded_map file.organization m) q ∙ ap (find key_cmp q) (loaded_entries h file m head) ∙ sym (λ i. loaded.map_is i q);
      layout = layout_told h new file m head may organization bucket key ∙ sym loaded.layout;
    }

-- The buckets.

sequential_sizes : (es : List Keyed) (n : ℕ) → map (λ (e : Keyed). length e.1 + 2) (at_positions n es) ≡ slot_sizes (values_of (at_positions n es))
sequential_sizes [] n = refl
sequential_sizes (e ∷ es) n = ap (λ (ns : List ℕ). (length e.1 + 2) ∷ ns) (sequential_sizes es (suc n))

taken_so : (o : Kept) (h : FileHead) (file : File) (m : Records) → IsHeadOf h file → h.organization ≡ o → AllSuitBy o h (entries m) → buckets_taken (organized_by o h) file (loaded_map (organized_by o h) m) ≡ buckets_by o h (loaded_behind o 0 (entries m))
taken_so kept.Sequential h file m head is all =
    (λ i. (filled_by (512 * head.bucket i - 16) first_bucket (map (λ (e : Keyed). length e.1 + 2) (positions_so 0 (entries m) i))).buckets)
    ∙ ap (λ (ns : List ℕ). (filled_by (512 * h.bucket - 16) first_bucket ns).buckets) (sequential_sizes (entries m) 0)
taken_so kept.Relative h file m head is all = head.buckets
taken_so kept.Indexed h file m head is all = ap used_of (layout_so kept.Indexed h h (sizes_of file) m refl refl (sizes_so kept.Indexed h file head is) all)

buckets_so : (h : FileHead) (file : File) (m : Records) → IsHeadOf h file → MayHave h m → wanted_buckets h (as_loaded h m) ≡ buckets_loaded file (loaded_map file.organization m)
buckets_so h file m head may =
    ap (max h.alloc) (sym (taken_so h.organization h file m head refl (all_listed h m may)))
    ∙ ap (λ (a : ℕ). max a (buckets_taken (organized_by h.organization h) file (loaded_map (organized_by h.organization h) m))) (sym head.buckets)
    ∙ ap (λ (o : Organization). max file.buckets (buckets_taken o file (loaded_map o m))) (sym head.organization)

pub loads_rows : LoadsAreRows
loads_rows = record {
  heads = heads_so;
  loaded = loaded_so;
  buckets = buckets_so;
  count = λ h file m head. ap length (sym (loaded_entries h file m head));
}
