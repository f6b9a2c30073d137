-- That the numbers of a volume and of its files fit, and that extents do, can be decided.
use Rattle.std.proofs.Common.{◌≡◌, inl, inr, ℕ, ◌≤◌, ◌+◌, ◌*◌, List, Bool, true, false, Option, Some, None, refl, ◌∙◌, ap, take, arith}
use Rattle.std.specs.Prelude.{slice_index_or}
use Rattle.std.proofs.lemmas.Bool.{cases_eq}
use Rattle.std.proofs.lemmas.Bool.Decides.{nat_tests}
use Rattle.file_base.specs.declared.head.FileHead.{FileHead}
use Rattle.file_base.specs.declared.head.Organization.{Organization}
use Rattle.file_base.specs.declared.head.Organization.TheVariants.{Sequential, Relative, Indexed}
use Rattle.file_base.specs.declared.head.Save.{Save}
use Rattle.file_base.specs.declared.head.Span.{Span}
use Rattle.volume_format.specs.declared.home.Home.{Home}
use Rattle.volume_format.specs.declared.home.Sizes.{Sizes}
use Rattle.extents.specs.declared.extent.Extent.{Extent}
use Rattle.extents.specs.Extents.{FitsAt, FitsBehind, covers, is_used, nowhere}
use Rattle.volume.specs.declared.limits.Buckets.{Buckets}
use Rattle.volume.specs.Limits.{SizesFit, HomeFits, BucketFits, KeysFit, RootFits, BucketsFit, BlocksFit, SpanFits, CopyFits, SaveFits, FileFits, EntryFits, data_start, buckets_of, file_buckets, save_buckets, no_save}
use Rattle.volume.specs.Catalogs.{IsNew, NewName, head_at}
use Rattle.volume.proofs.Deciding.{Decided, alike, both, less, at_most, same_bool, same_list, all_below}

pub sizes_fit : (disk : ℕ) (s : Sizes) → Decided (SizesFit disk s)
sizes_fit disk s = alike (both (cases_eq s.blocks disk) (both (at_most 64 s.slots) (both (at_most s.slots 512) (both (at_most 64 s.ru_blocks) (both (at_most s.ru_blocks 8192) (less (data_start s) disk))))))
    (λ p. record { blocks = p.0; least_slots = p.1.0; most_slots = p.1.1.0; least_journal = p.1.1.1.0; most_journal = p.1.1.1.1.0; room = p.1.1.1.1.1 })
    (λ r. (r.blocks, (r.least_slots, (r.most_slots, (r.least_journal, (r.most_journal, r.room))))))

pub home_fits : (node : List ℕ) (h : Home) → Decided (HomeFits node h)
home_fits node h = alike (both (same_list h.node node) (at_most h.greatest_moment.0 24113056319999)) (λ p. record { owner = p.0; moment = p.1 }) (λ r. (r.owner, r.moment))

bucket_fits : (h : FileHead) → Decided (BucketFits h)
bucket_fits h = alike (both (at_most 1 h.bucket) (both (at_most h.bucket 16) (both (at_most 1 h.mrs) (both (at_most h.mrs 8160) (at_most (h.mrs + 32) (512 * h.bucket))))))
    (λ p. record { least_blocks = p.0; most_blocks = p.1.0; least_record = p.1.1.0; most_record = p.1.1.1.0; record_fits = p.1.1.1.1 })
    (λ r. (r.least_blocks, (r.most_blocks, (r.least_record, (r.most_record, r.record_fits)))))

keys_fit : (o : Organization) (h : FileHead) → Decided (KeysFit o h)
keys_fit Sequential h = alike (both (cases_eq h.mrn 0) (both (cases_eq h.key_pos 0) (cases_eq h.key_size 0))) (λ p. (p.0, p.1.0, p.1.1)) (λ r. (r.0, (r.1, r.2)))
keys_fit Relative h = alike (both (at_most 1 h.mrn) (both (cases_eq h.key_pos 0) (cases_eq h.key_size 0))) (λ p. (p.0, p.1.0, p.1.1)) (λ r. (r.0, (r.1, r.2)))
keys_fit Indexed h = alike (both (cases_eq h.mrn 0) (both (at_most 1 h.key_size) (both (at_most h.key_size 64) (at_most (h.key_pos + h.key_size) h.mrs)))) (λ p. (p.0, p.1.0, p.1.1.0, p.1.1.1)) (λ r. (r.0, (r.1, (r.2, r.3))))

root_fits : (o : Organization) (h : FileHead) (b : Buckets) → Decided (RootFits o h b)
root_fits Sequential h b = both (cases_eq b.root 0) (cases_eq b.levels 0)
root_fits Relative h b = alike (both (cases_eq b.root 0) (both (cases_eq b.levels 0) (both (cases_eq b.count 0) (both (cases_eq b.alloc (buckets_of h)) (cases_eq b.used (buckets_of h))))))
    (λ p. (p.0, p.1.0, p.1.1.0, p.1.1.1.0, p.1.1.1.1)) (λ r. (r.0, (r.1, (r.2, (r.3, r.4)))))
root_fits Indexed h b = both (less b.root b.used) (cases_eq b.count 0)

buckets_fit : (h : FileHead) (b : Buckets) → Decided (BucketsFit h b)
buckets_fit h b = alike (both (at_most 1 b.used) (both (at_most b.used b.alloc) (root_fits h.organization h b))) (λ p. record { least = p.0; most = p.1.0; root = p.1.1 }) (λ r. (r.least, (r.most, r.root)))

blocks_fit : (marked : Bool) (s : Span) → Decided (BlocksFit marked s)
blocks_fit true s = at_most 1 s.blocks
blocks_fit false s = both (cases_eq s.start 0) (cases_eq s.blocks 0)

span_fits : (marked : Bool) (s : Span) → Decided (SpanFits marked s)
span_fits marked s = alike (both (blocks_fit marked s) (both (at_most s.first s.end) (at_most s.end 4611686018427387904))) (λ p. record { blocks = p.0; ordered = p.1.0; most = p.1.1 }) (λ r. (r.blocks, (r.ordered, r.most)))

copy_fits : (greatest : ℕ) (h : FileHead) → Decided (CopyFits greatest h)
copy_fits greatest h = alike (both (buckets_fit h (save_buckets h.save)) (both (at_most h.save.position h.ai.end) (at_most h.save.moment.0 greatest))) (λ p. record { buckets = p.0; position = p.1.0; moment = p.1.1 }) (λ r. (r.buckets, (r.position, r.moment)))

-- a copy with zeros alone
zero_save : (s : Save) → s.start ≡ 0 → s.alloc ≡ 0 → s.position ≡ 0 → s.moment.0 ≡ 0 → s.used ≡ 0 → s.root ≡ 0 → s.levels ≡ 0 → s.count ≡ 0 → s ≡ no_save
zero_save s a b d e f g i j =
    let all : record { start = s.start; alloc = s.alloc; position = s.position; moment = record { 0 = s.moment.0 }; used = s.used; root = s.root; levels = s.levels; count = s.count } ≡ no_save = rw (a, b, d, e, f, g, i, j) refl in all

unsaved : (s : Save) → Decided (s ≡ no_save)
unsaved s = alike (both (cases_eq s.start 0) (both (cases_eq s.alloc 0) (both (cases_eq s.position 0) (both (cases_eq s.moment.0 0) (both (cases_eq s.used 0) (both (cases_eq s.root 0) (both (cases_eq s.levels 0) (cases_eq s.count 0))))))))
    (λ p. zero_save s p.0 p.1.0 p.1.1.0 p.1.1.1.0 p.1.1.1.1.0 p.1.1.1.1.1.0 p.1.1.1.1.1.1.0 p.1.1.1.1.1.1.1)
    (λ e. (ap (λ (x : Save). x.start) e, (ap (λ (x : Save). x.alloc) e, (ap (λ (x : Save). x.position) e, (ap (λ (x : Save). x.moment.0) e, (ap (λ (x : Save). x.used) e, (ap (λ (x : Save). x.root) e, (ap (λ (x : Save). x.levels) e, ap (λ (x : Save). x.count) e))))))))

save_fits : (marked : Bool) (greatest : ℕ) (h : FileHead) → Decided (SaveFits marked greatest h)
save_fits true greatest h = copy_fits greatest h
save_fits false greatest h = unsaved h.save

file_fits : (greatest : ℕ) (h : FileHead) → Decided (FileFits greatest h)
file_fits greatest h = alike
    (both (bucket_fits h) (both (keys_fit h.organization h) (both (buckets_fit h (file_buckets h)) (both (span_fits h.marks.ai h.ai) (both (span_fits h.marks.bi h.bi) (both (at_most h.bi_since.0 greatest) (save_fits h.marks.save greatest h)))))))
    (λ p. record { bucket = p.0; keys = p.1.0; buckets = p.1.1.0; ai = p.1.1.1.0; bi = p.1.1.1.1.0; since = p.1.1.1.1.1.0; save = p.1.1.1.1.1.1 })
    (λ r. (r.bucket, (r.keys, (r.buckets, (r.ai, (r.bi, (r.since, r.save)))))))

pub entry_fits : (greatest : ℕ) (o : Option FileHead) → Decided (EntryFits greatest o)
entry_fits greatest None = inl tt
entry_fits greatest (Some h) = file_fits greatest h

-- a file number has a file of another name, or none
named_other : (o : Option FileHead) (name : List ℕ) → Decided ((other : FileHead) → o ≡ Some other → other.name ≡ name → ⊥)
named_other None name = inl (λ other has same. cc)
named_other (Some h) name = elim (same_list h.name name) [
  | inl is ↦ inr (λ no. no h refl is)
  | inr isnt ↦ inl (λ other has same. isnt (let alike : h ≡ other = cc in ap (λ (x : FileHead). x.name) alike ∙ same))
]

new_name : (heads : List (Option FileHead)) (f : ℕ) (name : List ℕ) → Decided (NewName heads f name)
new_name heads f name = alike (all_below (λ g. (other : FileHead) → head_at heads g ≡ Some other → other.name ≡ name → ⊥) (λ g. named_other (head_at heads g) name) f)
    (λ all g other under has same. all g under other has same) (λ new g under other has same. new g other under has same)

pub is_new : (heads : List (Option FileHead)) (f : ℕ) (o : Option FileHead) → Decided (IsNew heads f o)
is_new heads f None = inl tt
is_new heads f (Some h) = new_name heads f h.name

-- where one test holds, the other gives an answer
implied : (a b : Bool) (answer : Bool) → Decided (a ≡ true → b ≡ answer)
implied false b answer = inl (λ e. cc)
implied true b answer = alike (same_bool b answer) (λ e is. e) (λ all. all refl)

-- an extent has no block from its end on
none_behind : (e : Extent) (n : ℕ) → e.end ≤ n → covers e n ≡ true → ⊥
none_behind e n behind has = grind (arith, nat_tests)

-- what holds at each block of an extent can be tested up to its end
at_each : (e : Extent) (test : ℕ → Bool) (answer : Bool) → Decided ((n : ℕ) → covers e n ≡ true → test n ≡ answer)
at_each e test answer = alike (all_below (λ n. covers e n ≡ true → test n ≡ answer) (λ n. implied (covers e n) (test n) answer) e.end)
    (λ all n has. elim (less n e.end) [ inl under ↦ all n under has | inr not ↦ absurd (none_behind e n (omega arith) has) ])
    (λ all n under has. all n has)

fits_behind : (area : Extent) (before : List Extent) (e : Extent) → Decided (FitsBehind area before e)
fits_behind area before e = alike (both (at_each e (covers area) true) (at_each e (is_used before) false)) (λ p. record { inside = p.0; apart = p.1 }) (λ r. (r.inside, r.apart))

pub fits_at : (area : Extent) (es : List Extent) (i : ℕ) → Decided (FitsAt area es i)
fits_at area es i = fits_behind area (take i es) (slice_index_or es i nowhere)
