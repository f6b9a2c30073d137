-- Frames of a store.
use Rattle.std.proofs.Common.{◌≡◌, ℕ, zero, suc, ◌<◌, List, [], ◌∷◌, length, get_or, set, Option, Some, None, unwrap_or, IsSome, is_some, refl, sym, ap, subst, ◌∙◌, arith, get_or-set_same}
use Rattle.std.proofs.lemmas.List.{set-set, set-get_or}
use Rattle.frame_pool.specs.Pool.{IsOut}
use Rattle.careful_write.specs.block_disk.Disk.{DiskState}
use Rattle.careful_write.specs.Reads.{SameButReads, as_read_by}
use Rattle.careful_write.specs.State.{StoreState}
use Rattle.careful_write.proofs.Reading.{same_as, same_so}
use Rattle.change_set.specs.Buckets.{frame_of, with_frame, WasFree}
use Rattle.change_set.specs.Files.{free_frames}

abbrev Blocks : Type 0
Blocks = Option (List (List ℕ))

abbrev Frames : Type 0
Frames = List (Option (List ℕ))

-- a frame that is out is one of the pool
pub out_within : (pool : Frames) (f : ℕ) → IsOut pool f → f < length pool
out_within [] f out = cc
out_within (o ∷ os) zero out = omega arith
out_within (o ∷ os) (suc f) out = let rest = out_within os f out in omega (arith, rest)

out_is_some : (o : Option (List ℕ)) → IsSome o → o ≡ Some (unwrap_or o [])
out_is_some None h = cc
out_is_some (Some b) h = refl

-- its own bytes change nothing
pub with_frame_own : (f : ℕ) (s : StoreState) → IsOut s.pool f → s ≡ with_frame f (frame_of s.pool f) s
with_frame_own f s out =
    let own : set s.pool f (Some (frame_of s.pool f)) ≡ s.pool = ap (set s.pool f) (sym (out_is_some (get_or s.pool f None) out)) ∙ set-get_or s.pool f None in
    sym (λ i. record s { pool = own i })

pub frame_of-with_frame : (f : ℕ) (bytes : List ℕ) (pool : Frames) → IsOut pool f → frame_of (set pool f (Some bytes)) f ≡ bytes
frame_of-with_frame f bytes pool out = ap (λ o. unwrap_or o []) (get_or-set_same pool f (Some bytes) None (out_within pool f out))

pub out-with_frame : (f : ℕ) (bytes : List ℕ) (pool : Frames) → IsOut pool f → IsOut (set pool f (Some bytes)) f
out-with_frame f bytes pool out = ap is_some (get_or-set_same pool f (Some bytes) None (out_within pool f out))

pub record Puts (f : ℕ) (bytes : List ℕ) (s0 s : StoreState) : Type 0 where
  pub state : SameButReads (with_frame f (frame_of s.pool f) s0) s
  pub frame : frame_of s.pool f ≡ bytes
  pub out : IsOut s.pool f

-- what a frame was given last is what it has
pub put_more : (f : ℕ) (bytes : List ℕ) (s0 s s' : StoreState) → IsOut s.pool f → SameButReads (with_frame f (frame_of s.pool f) s0) s → s' ≡ with_frame f bytes s → Puts f bytes s0 s'
put_more f bytes s0 s s' out was e =
    let pool' = ap (λ (t : StoreState). t.pool) e in
    let frame' = ap (λ (p : Frames). frame_of p f) pool' ∙ frame_of-with_frame f bytes s.pool out in
    let twice : with_frame f bytes (with_frame f (frame_of s.pool f) s0) ≡ with_frame f bytes s0 = λ i. record s0 { pool = set-set s0.pool f (Some (frame_of s.pool f)) (Some bytes) i } in
    let whole : with_frame f bytes (with_frame f (frame_of s.pool f) s0) ≡ with_frame f (frame_of s'.pool f) s0 = twice ∙ ap (λ b. with_frame f b s0) (sym frame') in
    record {
      state = same_as s' (with_frame f (frame_of s'.pool f) s0) s.reads (e ∙ ap (with_frame f bytes) was ∙ (λ i. as_read_by s (whole i)));
      frame = frame';
      out = let P : Frames → Type 0 = λ p. IsOut p f in subst P (sym pool') (out-with_frame f bytes s.pool out);
    }

-- a frame that was free and is given back leaves the pool as it was
pub given_back : (pool : Frames) (f : ℕ) (bytes : List ℕ) → WasFree pool f → set (set pool f (Some bytes)) f None ≡ pool
given_back pool f bytes was = set-set pool f (Some bytes) None ∙ ap (set pool f) (sym was.none) ∙ set-get_or pool f None

-- where all frames are out, none is free
pub all_out : (pool : Frames) → ((f : ℕ) → f < length pool → IsOut pool f) → free_frames pool ≡ 0
all_out [] out = refl
all_out (None ∷ os) out = let first = out 0 (omega arith) in cc
all_out (Some b ∷ os) out = all_out os (λ f h. out (suc f) (omega arith))

-- a store with a frame lent out, and the same store without it, but for reads
pub record Lent (f : ℕ) (t s : StoreState) : Type 0 where
  pub was : WasFree t.pool f
  pub is : SameButReads (with_frame f (frame_of s.pool f) t) s

pub lent_taken : (f : ℕ) (t s : StoreState) → WasFree t.pool f → s ≡ with_frame f (frame_of s.pool f) t → Lent f t s
lent_taken f t s was is = record { was = was; is = same_so _ s is }

-- the frame has other bytes, and the disk is in another state
pub lent_read : (f : ℕ) (t s s' : StoreState) (D : DiskState → DiskState) → Lent f t s → SameButReads (with_frame f (frame_of s'.pool f) (record s { disk = D s.disk })) s' → Lent f (record t { disk = D t.disk }) s'
lent_read f t s s' D lent is =
    let twice : with_frame f (frame_of s'.pool f) (with_frame f (frame_of s.pool f) (record t { disk = D t.disk })) ≡ with_frame f (frame_of s'.pool f) (record t { disk = D t.disk }) =
    λ i. record t { disk = D t.disk; pool = set-set t.pool f (Some (frame_of s.pool f)) (Some (frame_of s'.pool f)) i } in
    record {
      was = record { within = lent.was.within; none = lent.was.none };
      is = is ∙ (λ i. as_read_by s' (with_frame f (frame_of s'.pool f) (record (lent.is i) { disk = D (lent.is i).disk }))) ∙ (λ i. as_read_by s' (twice i));
    }

pub lent_given : (f : ℕ) (t s s' : StoreState) → Lent f t s → s' ≡ record s { pool = set s.pool f None } → SameButReads t s'
lent_given f t s s' lent is =
    same_as s' t s.reads (is ∙ (λ i. record (lent.is i) { pool = set (lent.is i).pool f None }) ∙ (λ i. record t { pool = given_back t.pool f (frame_of s.pool f) lent.was i; reads = s.reads }))

-- a frame that was taken, read into and given back
pub read_and_given : (f : ℕ) (s0 s1 s2 s3 : StoreState) (D : DiskState → DiskState) (pool : Frames) → WasFree s0.pool f → s1 ≡ with_frame f (frame_of s1.pool f) s0
    → SameButReads (with_frame f (frame_of s2.pool f) (record s1 { disk = D s1.disk })) s2 → pool ≡ s2.pool → s3 ≡ record s2 { pool = set pool f None } → SameButReads (record s0 { disk = D s0.disk }) s3
read_and_given f s0 s1 s2 s3 D pool was taken read same gave =
    lent_given f (record s0 { disk = D s0.disk }) s2 s3 (lent_read f s0 s1 s2 D (lent_taken f s0 s1 was taken) read) (gave ∙ (λ k. record s2 { pool = set (same k) f None }))

-- a frame that is read into again
pub read_again : (f : ℕ) (s0 s1 s2 : StoreState) (D : DiskState → DiskState) → SameButReads (with_frame f (frame_of s1.pool f) s0) s1 → SameButReads (with_frame f (frame_of s2.pool f) (record s1 { disk = D s1.disk })) s2
    → SameButReads (with_frame f (frame_of s2.pool f) (record s0 { disk = D s0.disk })) s2
read_again f s0 s1 s2 D was is =
    is ∙ (λ i. as_read_by s2 (with_frame f (frame_of s2.pool f) (record (was i) { disk = D (was i).disk })))
    ∙ (λ i. record s0 { disk = D s0.disk; pool = set-set s0.pool f (Some (frame_of s1.pool f)) (Some (frame_of s2.pool f)) i; reads = s2.reads })

-- the bytes that a pool lends are those of its frame
pub frame_is : (lent pool : Frames) (f : ℕ) (bytes : List ℕ) → lent ≡ pool → get_or lent f None ≡ Some bytes → frame_of pool f ≡ bytes
frame_is lent pool f bytes same has = ap (λ (p : Frames). frame_of p f) (sym same) ∙ ap (λ o. unwrap_or o []) has

-- the frame was written
pub lent_written : (f : ℕ) (bytes : List ℕ) (t s s' : StoreState) → IsOut s.pool f → Lent f t s → s' ≡ with_frame f bytes s → Lent f t s'
lent_written f bytes t s s' out lent e = record { was = lent.was; is = (put_more f bytes t s s' out lent.is e).state }

-- blocks were staged
pub lent_staged : (f : ℕ) (t s s' : StoreState) (C : Blocks → Blocks) (T : List ℕ → List ℕ) → Lent f t s → s' ≡ record s { current = C s.current; touched = T s.touched } → Lent f (record t { current = C t.current; touched = T t.touched }) s'
lent_staged f t s s' C T lent e =
    let frame : frame_of s'.pool f ≡ frame_of s.pool f = ap (λ (x : StoreState). frame_of x.pool f) e in
    record {
      was = record { within = lent.was.within; none = lent.was.none };
      is = same_so _ s' e ∙ (λ i. as_read_by s' (record (lent.is i) { current = C (lent.is i).current; touched = T (lent.is i).touched }))
          ∙ (λ i. record t { current = C t.current; touched = T t.touched; pool = set t.pool f (Some (sym frame i)); reads = s'.reads });
    }

pub lent_out : (f : ℕ) (t s : StoreState) → Lent f t s → IsOut s.pool f
lent_out f t s lent = ap (λ (x : StoreState). is_some (get_or x.pool f None)) lent.is ∙ ap is_some (get_or-set_same t.pool f (Some (frame_of s.pool f)) None lent.was.within)
