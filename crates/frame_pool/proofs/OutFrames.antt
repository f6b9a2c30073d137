-- The frames that are out.
use Rattle.std.proofs.Common.{◌≡◌, ◌≢◌, ◌<◌, ℕ, zero, suc, Bool, true, false, List, [], ◌∷◌, length, get_or, set, Option, Some, None, refl, ap, subst, arith, replicate}
use Rattle.frame_pool.specs.Pool.{out_frames, IsOut}

-- none is out
pub out_frames_none : (n : ℕ) (fs : List (List ℕ)) → length fs ≡ n → out_frames (replicate n false) fs ≡ replicate n None
out_frames_none zero fs long = refl
out_frames_none (suc n) [] long = absurd (omega arith)
out_frames_none (suc n) (b ∷ fs) long = ap (λ (l : List (Option (List ℕ))). None ∷ l) (out_frames_none n fs (omega arith))

pub length-out_frames : (os : List Bool) (fs : List (List ℕ)) → length os ≡ length fs → length (out_frames os fs) ≡ length fs
length-out_frames [] fs same = same
length-out_frames (o ∷ os) [] same = absurd (omega arith)
length-out_frames (true ∷ os) (b ∷ fs) same = ap suc (length-out_frames os fs (omega arith))
length-out_frames (false ∷ os) (b ∷ fs) same = ap suc (length-out_frames os fs (omega arith))

-- a frame that is out is within the region, and its bytes show
pub out_within : (os : List Bool) (fs : List (List ℕ)) (f : ℕ) → IsOut (out_frames os fs) f → f < length fs
out_within [] fs f out = absurd (cc)
out_within (o ∷ os) [] f out = absurd (cc)
out_within (true ∷ os) (b ∷ fs) zero out = omega arith
out_within (false ∷ os) (b ∷ fs) zero out = absurd (cc)
out_within (true ∷ os) (b ∷ fs) (suc f) out = let in_rest = out_within os fs f out in omega (arith, in_rest)
out_within (false ∷ os) (b ∷ fs) (suc f) out = let in_rest = out_within os fs f out in omega (arith, in_rest)

pub out_bytes : (os : List Bool) (fs : List (List ℕ)) (f : ℕ) (d : List ℕ) → IsOut (out_frames os fs) f → get_or (out_frames os fs) f None ≡ Some (get_or fs f d)
out_bytes [] fs f d out = absurd (cc)
out_bytes (o ∷ os) [] f d out = absurd (cc)
out_bytes (true ∷ os) (b ∷ fs) zero d out = refl
out_bytes (false ∷ os) (b ∷ fs) zero d out = absurd (cc)
out_bytes (true ∷ os) (b ∷ fs) (suc f) d out = out_bytes os fs f d out
out_bytes (false ∷ os) (b ∷ fs) (suc f) d out = out_bytes os fs f d out

-- bytes written to a frame that is out
pub out_frames-set_bytes : (os : List Bool) (fs : List (List ℕ)) (f : ℕ) (w : List ℕ) → IsOut (out_frames os fs) f → out_frames os (set fs f w) ≡ set (out_frames os fs) f (Some w)
out_frames-set_bytes [] fs f w out = absurd (cc)
out_frames-set_bytes (o ∷ os) [] f w out = absurd (cc)
out_frames-set_bytes (true ∷ os) (b ∷ fs) zero w out = refl
out_frames-set_bytes (false ∷ os) (b ∷ fs) zero w out = absurd (cc)
out_frames-set_bytes (true ∷ os) (b ∷ fs) (suc f) w out = ap (λ (l : List (Option (List ℕ))). Some b ∷ l) (out_frames-set_bytes os fs f w out)
out_frames-set_bytes (false ∷ os) (b ∷ fs) (suc f) w out = ap (λ (l : List (Option (List ℕ))). None ∷ l) (out_frames-set_bytes os fs f w out)

-- a frame given back
pub out_frames-free : (os : List Bool) (fs : List (List ℕ)) (f : ℕ) → length os ≡ length fs → out_frames (set os f false) fs ≡ set (out_frames os fs) f None
out_frames-free [] fs f same = refl
out_frames-free (o ∷ os) [] f same = absurd (omega arith)
out_frames-free (true ∷ os) (b ∷ fs) zero same = refl
out_frames-free (false ∷ os) (b ∷ fs) zero same = refl
out_frames-free (true ∷ os) (b ∷ fs) (suc f) same = ap (λ (l : List (Option (List ℕ))). Some b ∷ l) (out_frames-free os fs f (omega arith))
out_frames-free (false ∷ os) (b ∷ fs) (suc f) same = ap (λ (l : List (Option (List ℕ))). None ∷ l) (out_frames-free os fs f (omega arith))

-- a frame taken
pub out_frames-take : (os : List Bool) (fs : List (List ℕ)) (f : ℕ) (d : List ℕ) → length os ≡ length fs → out_frames (set os f true) fs ≡ set (out_frames os fs) f (Some (get_or fs f d))
out_frames-take [] fs f d same = refl
out_frames-take (o ∷ os) [] f d same = absurd (omega arith)
out_frames-take (true ∷ os) (b ∷ fs) zero d same = refl
out_frames-take (false ∷ os) (b ∷ fs) zero d same = refl
out_frames-take (true ∷ os) (b ∷ fs) (suc f) d same = ap (λ (l : List (Option (List ℕ))). Some b ∷ l) (out_frames-take os fs f d (omega arith))
out_frames-take (false ∷ os) (b ∷ fs) (suc f) d same = ap (λ (l : List (Option (List ℕ))). None ∷ l) (out_frames-take os fs f d (omega arith))

pub out_frames_free_at : (os : List Bool) (fs : List (List ℕ)) (f : ℕ) → get_or os f false ≡ false → get_or (out_frames os fs) f None ≡ None
out_frames_free_at [] fs f free = refl
out_frames_free_at (o ∷ os) [] f free = refl
out_frames_free_at (true ∷ os) (b ∷ fs) zero free = absurd (cc)
out_frames_free_at (false ∷ os) (b ∷ fs) zero free = refl
out_frames_free_at (true ∷ os) (b ∷ fs) (suc f) free = out_frames_free_at os fs f free
out_frames_free_at (false ∷ os) (b ∷ fs) (suc f) free = out_frames_free_at os fs f free

pub out_frames_out_at : (os : List Bool) (fs : List (List ℕ)) (f : ℕ) → f < length fs → length os ≡ length fs → get_or os f false ≡ true → IsOut (out_frames os fs) f
out_frames_out_at [] fs f within same out = absurd (omega arith)
out_frames_out_at (o ∷ os) [] f within same out = absurd (omega arith)
out_frames_out_at (true ∷ os) (b ∷ fs) zero within same out = refl
out_frames_out_at (false ∷ os) (b ∷ fs) zero within same out = absurd (cc)
out_frames_out_at (true ∷ os) (b ∷ fs) (suc f) within same out = out_frames_out_at os fs f (omega arith) (omega arith) out
out_frames_out_at (false ∷ os) (b ∷ fs) (suc f) within same out = out_frames_out_at os fs f (omega arith) (omega arith) out

pub out_not_free : (pool : List (Option (List ℕ))) (f other : ℕ) → other ≡ f → IsOut pool other → get_or pool f None ≡ None → ⊥
out_not_free pool f other same out free =
    let here : IsOut pool f = subst (IsOut pool) same out in
    cc

-- a frame that is out stays so where another one, or itself, is taken or written
pub out_written : (pool : List (Option (List ℕ))) (f other : ℕ) (bytes : List ℕ) → IsOut pool other → IsOut (set pool f (Some bytes)) other
out_written [] f other bytes out = out
out_written (o ∷ os) zero zero bytes out = refl
out_written (o ∷ os) zero (suc other) bytes out = out
out_written (o ∷ os) (suc f) zero bytes out = out
out_written (o ∷ os) (suc f) (suc other) bytes out = out_written os f other bytes out

-- a frame that was taken is out
pub out_taken : (pool : List (Option (List ℕ))) (f : ℕ) (bytes : List ℕ) → f < length pool → IsOut (set pool f (Some bytes)) f
out_taken [] f bytes within = absurd (omega arith)
out_taken (o ∷ os) zero bytes within = refl
out_taken (o ∷ os) (suc f) bytes within = out_taken os f bytes (omega arith)

-- a frame that is out stays so where another one is given back
pub out_kept : (pool : List (Option (List ℕ))) (f other : ℕ) → other ≢ f → IsOut pool other → IsOut (set pool f None) other
out_kept [] f other apart out = out
out_kept (o ∷ os) zero zero apart out = absurd (apart refl)
out_kept (o ∷ os) zero (suc other) apart out = out
out_kept (o ∷ os) (suc f) zero apart out = out
out_kept (o ∷ os) (suc f) (suc other) apart out = out_kept os f other (λ same. apart (ap suc same)) out
