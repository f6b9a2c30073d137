-- A bucket in a frame that is lent.
use Rattle.std.proofs.Common.{◌≡◌, ℕ, ◌<◌, ◌≤◌, suc, ◌+◌, ◌-◌, ◌*◌, ◌&&◌, ◌++◌, true, List, [], ◌∷◌, length, take, drop, set, Option, Some, None, IfSome, refl, sym, ap, subst, ◌∙◌, arith, rules}
use Rattle.std.proofs.lemmas.List.{set-set, set_split, take_all, drop_all, take-take, drop-drop, drop-take, take_more}
use Rattle.change_set.specs.block_disk.Disk.{DiskState}
use Rattle.change_set.specs.careful_write.State.{StoreState}
use Rattle.change_set.proofs.careful_write.Reading.{same_so}
use Rattle.frame_pool.specs.Pool.{IsOut}
use Rattle.file_base.specs.declared.head.FileHead.{FileHead}
use Rattle.change_set.specs.Buckets.{frame_of, with_frame}
use Rattle.change_set.proofs.Frames.{with_frame_own}
use Rattle.bucket_page.specs.declared.kind.PageKind.TheVariants.{Seq}
use Rattle.bucket_page.specs.Frames.{bucket_in, slots_in, next_in}
use Rattle.bucket_page.specs.Pages.{slots_of, slot_at, joined, precedes_all, ascend, inserted, removed, replaced, Holds}
use Rattle.seq_file.proofs.PlacingLaws.{joined_push}
use Rattle.seq_file.specs.Layout.{bucket_at, slot_of}
use Rattle.seq_file.specs.Frames.{HasSlots, InFrame, ReadsInFrame, Reads, Settles}

abbrev Frames : Type 0
Frames = List (Option (List ℕ))

-- slots of records may stand in any order
precedes_seq : (s : List ℕ) (ss : List (List ℕ)) → precedes_all Seq s ss ≡ true
precedes_seq s [] = refl
precedes_seq s (t ∷ ss) = precedes_seq s ss

pub ascend_seq : (ss : List (List ℕ)) → ascend Seq ss ≡ true
ascend_seq [] = refl
ascend_seq (s ∷ ss) = λ i. precedes_seq s ss i && ascend_seq ss i

-- the bytes that a frame holds, after its pool was changed
has_slots : (h : FileHead) (size : ℕ) (pool new : Frames) (f : ℕ) (slots slots' : List (List ℕ)) (next : ℕ) → size ≡ 512 * h.bucket → slots ≡ slots' → Holds Seq size slots next (bucket_in new f size)
    → HasSlots h (bucket_in new f (512 * h.bucket)) slots'
has_slots h size pool new f slots slots' next e same holds =
    let here : Holds Seq (512 * h.bucket) slots next (bucket_in new f (512 * h.bucket)) = subst (λ (m : ℕ). Holds Seq m slots next (bucket_in new f m)) e holds in
    record { bucket = here.bucket; are = here.slots_are ∙ same }

inserted_last : (ss ss' : List (List ℕ)) (n : ℕ) (x y : List ℕ) → ss ≡ ss' → n ≡ length ss' → x ≡ y → inserted ss n x ≡ ss' ++ y ∷ []
inserted_last ss ss' n x y same last is = (λ k. inserted (same k) n (is k)) ∙ (λ k. take_all n ss' (omega arith) k ++ y ∷ drop_all n ss' (omega arith) k)

pub pushed : (h : FileHead) (size n : ℕ) (lent pool new : Frames) (f : ℕ) (slot value : List ℕ) → size ≡ 512 * h.bucket → lent ≡ pool → n ≡ length (slots_of Seq (bucket_in pool f (512 * h.bucket))) → slot ≡ slot_of value
    → Holds Seq size (inserted (slots_in Seq lent f size) n slot) (next_in lent f size) (bucket_in new f size)
    → HasSlots h (bucket_in new f (512 * h.bucket)) (slots_of Seq (bucket_in pool f (512 * h.bucket)) ++ slot_of value ∷ [])
pushed h size n lent pool new f slot value e same last is holds =
    has_slots h size pool new f _ _ (next_in lent f size) e (inserted_last _ _ n slot (slot_of value) (λ k. slots_of Seq (bucket_in (same k) f (e k))) last is) holds

pub set_over : (h : FileHead) (size i : ℕ) (lent pool new : Frames) (f : ℕ) (slot value : List ℕ) → size ≡ 512 * h.bucket → lent ≡ pool → i < length (slots_of Seq (bucket_in pool f (512 * h.bucket))) → slot ≡ slot_of value
    → Holds Seq size (replaced (slots_in Seq lent f size) i slot) (next_in lent f size) (bucket_in new f size)
    → HasSlots h (bucket_in new f (512 * h.bucket)) (set (slots_of Seq (bucket_in pool f (512 * h.bucket))) i (slot_of value))
set_over h size i lent pool new f slot value e same there is holds =
    has_slots h size pool new f _ _ (next_in lent f size) e
    ((λ k. replaced (slots_of Seq (bucket_in (same k) f (e k))) i (is k)) ∙ as_set (slots_of Seq (bucket_in pool f (512 * h.bucket))) i (slot_of value) there) holds
  where
    as_set : (ss : List (List ℕ)) (i : ℕ) (x : List ℕ) → i < length ss → replaced ss i x ≡ set ss i x
    as_set ss i x there = let e : i + 1 ≡ suc i = omega arith in ap (λ m. take i ss ++ x ∷ drop m ss) e ∙ sym (set_split ss i x there)

pub taken_last : (h : FileHead) (size i : ℕ) (lent pool new : Frames) (f : ℕ) → size ≡ 512 * h.bucket → lent ≡ pool → length (slots_of Seq (bucket_in pool f (512 * h.bucket))) ≡ i + 1
    → Holds Seq size (removed (slots_in Seq lent f size) i) (next_in lent f size) (bucket_in new f size)
    → HasSlots h (bucket_in new f (512 * h.bucket)) (take i (slots_of Seq (bucket_in pool f (512 * h.bucket))))
taken_last h size i lent pool new f e same last holds =
    has_slots h size pool new f _ _ (next_in lent f size) e
    ((λ k. removed (slots_of Seq (bucket_in (same k) f (e k))) i) ∙ as_take (slots_of Seq (bucket_in pool f (512 * h.bucket))) i last) holds
  where
    append_none : (a b : List (List ℕ)) → b ≡ [] → a ++ b ≡ a
    append_none a b none = ap (λ x. a ++ x) none ∙ search rules

    as_take : (ss : List (List ℕ)) (i : ℕ) → length ss ≡ i + 1 → removed ss i ≡ take i ss
    as_take ss i last = append_none (take i ss) (drop (i + 1) ss) (drop_all (i + 1) ss (omega arith))

-- the first slots of the first slots
pub fewer_slots : (h : FileHead) (bytes : List ℕ) (slots now : List (List ℕ)) (i j : ℕ) → now ≡ take j slots → i ≤ j → HasSlots h bytes (take i now) → HasSlots h bytes (take i slots)
fewer_slots h bytes slots now i j is le has = record { bucket = has.bucket; are = has.are ∙ ap (take i) is ∙ take-take i j slots le }

-- a frame that is lent and read into again
pub in_frame_own : (f : ℕ) (s : StoreState) → IsOut s.pool f → InFrame f s s
in_frame_own f s out = with_frame_own f s out

pub reads_own : (f : ℕ) (s : StoreState) → IsOut s.pool f → ReadsInFrame f s s
reads_own f s out = same_so _ s (with_frame_own f s out)

pub in_frame_more : (f : ℕ) (s0 s s' : StoreState) (D : DiskState → DiskState) → InFrame f s0 s → InFrame f (record s { disk = D s.disk }) s' → InFrame f (record s0 { disk = D s0.disk }) s'
in_frame_more f s0 s s' D lent is =
    is ∙ (λ k. with_frame f (frame_of s'.pool f) (record (lent k) { disk = D (lent k).disk })) ∙ (λ k. record s0 { disk = D s0.disk; pool = set-set s0.pool f (Some (frame_of s.pool f)) (Some (frame_of s'.pool f)) k })

-- what was loaded of a bucket settles so
pub reads : (h : FileHead) (i : ℕ) (told : Option (List (List ℕ))) (loaded bytes : List ℕ) → IfSome told (λ b. loaded ≡ bucket_at h b i) → Settles (512 * h.bucket) loaded bytes → IfSome told (Reads h i bytes)
reads h i None loaded bytes read settles = tt
reads h i (Some b) loaded bytes read settles = subst (λ (x : List ℕ). Settles (512 * h.bucket) x bytes) read settles

-- the bytes behind the length of a slot
pub behind_length : (bytes : List ℕ) (first size : ℕ) → 2 ≤ size → take (first + size - (first + 2)) (drop (first + 2) bytes) ≡ drop 2 (take size (drop first bytes))
behind_length bytes first size two =
    let count : first + size - (first + 2) ≡ size - 2 = omega arith in
    let whole : 2 + (size - 2) ≡ size = omega arith in
    ap (λ n. take n (drop (first + 2) bytes)) count ∙ sym (ap (take (size - 2)) (drop-drop 2 first bytes)) ∙ sym (drop-take 2 (size - 2) (drop first bytes)) ∙ ap (λ n. drop 2 (take n (drop first bytes))) whole

-- where the last slot ends
pub last_ends : (slots : List (List ℕ)) (n : ℕ) → n + 1 ≡ length slots → length (joined (take n slots)) + length (slot_at slots n) ≡ length (joined slots)
last_ends slots n last =
    sym (joined_push (take n slots) (slot_at slots n)) ∙ ap (λ ss. length (joined ss)) (sym (take_more slots n [] (omega arith)) ∙ take_all (n + 1) slots (omega arith))
